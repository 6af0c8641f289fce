use Rattle.std.proofs.Common.{◌≤◌, arith, ap, subst, sym}
use Rattle.serde_json.specs.Data.{Data, Members, depth, object}
use Rattle.serde_json.specs.View.{members_view}
use Rattle.serde_json.proofs.Views.{view-Object}
use Rattle.zarr_array_v2.specs.Attributes.{without_attributes}
use Rattle.zarr_run_opening.proofs.TextLemmas.{depth_attributes, depth_rest}
use Rattle.zarr_run_opening.proofs.texts.texts_of_parts.Goals as goal

pub keyed_text-requires-clause-shallow : goal.keyed_text-requires-clause-shallow
keyed_text-requires-clause-shallow c =
    let ms : Members = members_view c.args.members.now.entries in
    let h = depth_attributes ms in
    let e = ap depth c.in_ok-attributes.ensures in
    omega (arith, h, e, c.requires.shallow)

pub keyed_text-requires-2-clause-shallow : goal.keyed_text-requires-2-clause-shallow
keyed_text-requires-2-clause-shallow c =
    let ms : Members = members_view c.args.members.now.entries in
    let h = depth_rest ms in
    let small : depth (object (without_attributes ms)) ≤ 127 = omega (arith, h, c.requires.shallow) in
    let P : Members → Type 0 = λ (m : Members). depth (object m) ≤ 127 in
    let Q : Data → Type 0 = λ (d : Data). depth d ≤ 127 in
    subst Q (sym (view-Object c.in_ok-without_attributes.field-0)) (subst P (sym c.in_ok-without_attributes.ensures) small)
