use Rattle.std.proofs.Common.{◌≡◌, ◌∙◌, ◌*◌, Some, true, ap, sym, rules}
use Rattle.std.specs.Prelude.{◌==◌}
use Rattle.std.specs.List.{list_all}
use Rattle.zarr_grids_boxes.specs.Boxes.{product}
use Rattle.zarr_codecs_meaning.specs.Types.{byte_width, bytes_in, components, of_bytes}
use Rattle.zarr_codecs_meaning.proofs.Lists.{if_some, some_same}
use Rattle.zarr_codecs_types.specs.Views.{cell_of}
use Rattle.zarr_array_core.specs.Views.{document_of}
use Rattle.zarr_array_core.proofs.ZeroFills.{zeros_decoded}
use Rattle.zarr_array_core.proofs.array_core.ArrayCore.zeros_of_fill.Goals as goal

pub returns-else-not-is_all : goal.returns-else-not-is_all
returns-else-not-is_all g c = λ takes.
    let document = document_of g.C.ArrayToBytesCodecTraits.meaning c.args.self.now in
    let elements = document.elements in
    let element = c.in-Bytes.fill.items in
    let sized : byte_width elements.type ≡ Some c.in_ok-width.width = search rules in
    let wide : bytes_in (components elements.type) ≡ c.in_ok-width.width = some_same (if_some _ (Some (bytes_in (components elements.type))) c.in_ok-width.width sized).1 in
    let count : c.unwrap.result ≡ product c.args.shape.now = search rules in
    let is : elements.fill ≡ of_bytes element = sym (ap cell_of (sym c.in-Bytes.is) ∙ (c.as_cell.ensures ∙ c.fill_value.ensures)) in
    let zeros : list_all (λ b. b == 0) element ≡ true = search rules in
    zeros_decoded document.chain elements c.args.shape.now (c.unwrap.result * c.in_ok-width.width) element takes is c.args.self.now.elements.fills zeros
    (ap (λ n. n * c.in_ok-width.width) count ∙ ap (λ w. product c.args.shape.now * w) (sym wide))
