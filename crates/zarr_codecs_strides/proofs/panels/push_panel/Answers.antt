use Rattle.std.proofs.Common.{◌≡◌, ◌∙◌, ◌++◌, ◌*◌, ◌/◌, ap, sym, length, rules}
use Rattle.std.specs.Prelude.{flat_map}
use Rattle.std.proofs.lemmas.Result.{on_ok_weaker}
use Rattle.zarr_grids_boxes.specs.Boxes.{product}
use Rattle.zarr_codecs_strides.specs.Strides.{strided, stretch_at}
use Rattle.zarr_codecs_strides.proofs.Walks.{second_some}
use Rattle.zarr_codecs_strides.proofs.PanelColumns.{panel_lines, panel_columns, lines_counted}
use Rattle.zarr_codecs_strides.proofs.panels.push_panel.Goals as goal

pub push_columns-requires-clause-whole : goal.push_columns-requires-clause-whole
push_columns-requires-clause-whole c =
    let w = c.args.stretches.width in
    let edge = c.args.side.count in
    let bytes = c.args.stretches.bytes.now in
    let sizes = c.args.walk.sizes.now in
    let strides = c.args.walk.strides.now in
    let panel = c.push_stretches.new.out.items in
    let ms = strided c.args.side.base sizes strides in
    let e : panel ≡ flat_map (stretch_at w (edge * w) bytes) ms = c.in_ok-push_stretches.ensures ∙ ap (λ vs. vs ++ flat_map (stretch_at w (edge * w) bytes) ms) c.clear.ensures.items in
    let long = panel_lines w edge c.args.side.base bytes panel sizes strides e c.requires.inside in
    let counted = lines_counted w edge (length ms) (length panel) (second_some (product sizes) w c.requires.some) c.requires.sided long in
    let len : c.len.result ≡ length panel = search rules in
    ap (λ n. n / (edge * w) * (edge * w)) len ∙ (counted.1 ∙ sym (ap length c.as_slice.ensures.value))

pub returns : goal.returns
returns c =
    let w = c.args.stretches.width in
    let edge = c.args.side.count in
    let bytes = c.args.stretches.bytes.now in
    let sizes = c.args.walk.sizes.now in
    let strides = c.args.walk.strides.now in
    let panel = c.push_stretches.new.out.items in
    let ms = strided c.args.side.base sizes strides in
    let e : panel ≡ flat_map (stretch_at w (edge * w) bytes) ms = c.in_ok-push_stretches.ensures ∙ ap (λ vs. vs ++ flat_map (stretch_at w (edge * w) bytes) ms) c.clear.ensures.items in
    let long = panel_lines w edge c.args.side.base bytes panel sizes strides e c.requires.inside in
    let counted = lines_counted w edge (length ms) (length panel) (second_some (product sizes) w c.requires.some) c.requires.sided long in
    let len : c.len.result ≡ length panel = search rules in
    let all = panel_columns w edge c.args.side.base (c.len.result / (edge * w)) bytes c.as_slice.result.now sizes strides (c.as_slice.ensures.value ∙ e) c.requires.inside (ap (λ n. n / (edge * w)) len ∙ counted.0) in
    on_ok_weaker c.push_columns.result (λ h. h ∙ ap (λ vs. c.args.out.now.items ++ vs) all) c.push_columns.ensures
