use Rattle.std.proofs.Common.{◌/◌, ◌+◌, sym, ◌∙◌, subst, rules}
use Rattle.std.proofs.lemmas.Int.{to_z-of_z}
use mir.Val.{SFits}
use mir.Syntax.{w128}
use Rattle.zarr_codecs_types.specs.Views.{sign_of}
use Rattle.serde_json.specs.View.{view}
use Rattle.zarr_codecs_types.specs.Integers.{Reaches}
use Rattle.zarr_codecs_types.proofs.Integers.{in_reaches}
use Rattle.zarr_codecs_types.proofs.fill_reading.integer_cell.Goals as goal

pub integer_bytes-requires-clause-reaches : goal.integer_bytes-requires-clause-reaches
integer_bytes-requires-clause-reaches c =
    let fits : SFits w128 c.in-Some.integer = search rules in
    let low = in_reaches (sign_of c.args.sign) c.args.width (view c.args.value.now) c.in-Some.integer (sym c.integer_in.ensures ∙ c.in-Some.is) in
    subst (Reaches ((c.args.width + 7) / 8)) (sym (to_z-of_z w128 c.in-Some.integer fits)) low
