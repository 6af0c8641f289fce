use Rattle.std.proofs.Common.{◌∙◌, ◌++◌, ◌∷◌, [], ap, sym, length}
use Rattle.std.proofs.lemmas.Result.{on_ok_weaker}
use Rattle.std.proofs.lemmas.Map.Views.{exact_unsigned_eq}
use Rattle.zarr_codecs_strides.specs.Strides.{reach, walked}
use Rattle.zarr_codecs_strides.proofs.Walks.{side_walked}
use Rattle.zarr_codecs_strides.proofs.PanelColumns.{side_inside, line_inside, empty_list}
use Rattle.zarr_codecs_strides.proofs.columns.push_side.Goals as goal

pub push_line-requires-clause-inside : goal.push_line-requires-clause-inside
push_line-requires-clause-inside c =
    let rest = reach c.args.walk.sizes.now c.args.walk.strides.now in
    line_inside c.args.side.base c.args.side.count rest c.args.stretches.width (length c.args.stretches.bytes.now) (side_inside c.args.side.base c.args.side.count rest c.args.stretches.width c.args.stretches.stretch (length c.args.stretches.bytes.now) c.requires.sided c.requires.stretch c.requires.inside)

pub returns-then-is_empty : goal.returns-then-is_empty
returns-then-is_empty c =
    let w = c.args.stretches.width in
    let bytes = c.args.stretches.bytes.now in
    let none = empty_list c.args.walk.sizes.now (exact_unsigned_eq (length c.args.walk.sizes.now) 0 (sym c.is_empty.ensures ∙ c.if-is_empty.true)) in
    let all = side_walked w c.args.side.base c.args.side.count bytes [] c.args.walk.strides.now ∙ ap (λ ns. walked w bytes c.args.side.base (c.args.side.count ∷ ns) (1 ∷ c.args.walk.strides.now)) (sym none) in
    on_ok_weaker c.push_line.result (λ h. h ∙ ap (λ vs. c.args.out.now.items ++ vs) all) c.push_line.ensures

pub returns : goal.returns
returns c =
    let all = side_walked c.args.stretches.width c.args.side.base c.args.side.count c.args.stretches.bytes.now c.args.walk.sizes.now c.args.walk.strides.now in
    on_ok_weaker c.push_panels.result (λ h. h ∙ ap (λ vs. c.args.out.now.items ++ vs) all) c.push_panels.ensures
