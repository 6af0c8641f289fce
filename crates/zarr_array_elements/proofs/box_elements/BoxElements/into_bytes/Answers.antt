use Rattle.std.proofs.Common.{◌≡◌, ◌∙◌, sym, subst, ap, List, Some, IfOk}
use Rattle.std.proofs.lemmas.Result.{IfOk-weaker}
use Rattle.zarr_grids_boxes.specs.Boxes.{Region, product}
use Rattle.zarr_grids_boxes.specs.Subsets.{region_of}
use Rattle.zarr_codecs_meaning.specs.Payloads.{cells_in}
use Rattle.zarr_codecs_meaning.specs.Types.{Cell}
use Rattle.zarr_codecs_arrays.specs.Views.{payload_of, elements_of}
use Rattle.zarr_array_elements.specs.Boxes.{cells_of, AreOfBox}
use Rattle.zarr_array_elements.specs.Views.{AreShown, AreSized, AreNumbered, cells_shown, cells_numbered}
use Rattle.zarr_array_elements.proofs.FixedPuts.{fixed_known, fixed_counted, counted, known}
use Rattle.zarr_array_elements.proofs.PlacedShown.{length-numbered, shows}
use Rattle.zarr_array_elements.proofs.box_elements.BoxElements.into_bytes.Goals as goal

pub returns-in-Fixed-clause-counted : goal.returns-in-Fixed-clause-counted
returns-in-Fixed-clause-counted c =
    let elements = elements_of c.args.elements.now in
    let box : Region = region_of c.args.region.now in
    let old : AreSized elements (product box.shape) c.in-Fixed.field-1 c.in-Fixed.bytes.items = subst (AreShown elements box) c.in-Fixed.is c.requires.shown in
    fixed_counted elements.type c.in-Fixed.field-1 (product box.shape) c.in-Fixed.bytes.items old.sized old.some old.long

pub returns-in-Fixed-clause-cells : goal.returns-in-Fixed-clause-cells
returns-in-Fixed-clause-cells c =
    let elements = elements_of c.args.elements.now in
    let box : Region = region_of c.args.region.now in
    let old : AreSized elements (product box.shape) c.in-Fixed.field-1 c.in-Fixed.bytes.items = subst (AreShown elements box) c.in-Fixed.is c.requires.shown in
    fixed_known elements.type c.in-Fixed.field-1 (product box.shape) c.in-Fixed.bytes.items old.sized old.some old.long ∙ sym (ap (cells_shown elements) c.in-Fixed.is)

pub returns-in-Placed : goal.returns-in-Placed
returns-in-Placed c =
    let elements = elements_of c.args.elements.now in
    let box : Region = region_of c.args.region.now in
    let all = c.in-Placed.all in
    let shown : List Cell = cells_numbered elements all in
    let old : AreNumbered elements (product box.shape) all = subst (AreShown elements box) c.in-Placed.is c.requires.shown in
    let gathered : IfOk c.gather.result (λ made. cells_in elements.type (payload_of made) ≡ Some shown) = c.gather.ensures shown (shows elements (product box.shape) all old) in
    record {
      counted = IfOk-weaker c.gather.result (λ made. cells_in elements.type (payload_of made) ≡ Some shown) (λ made. AreOfBox elements.type (payload_of made) box)
          (λ made h. counted elements.type (payload_of made) shown (product box.shape) h (length-numbered elements (product box.shape) all old)) gathered;
      cells = IfOk-weaker c.gather.result (λ made. cells_in elements.type (payload_of made) ≡ Some shown) (λ made. cells_of elements.type (payload_of made) ≡ cells_shown elements c.args.self)
          (λ made h. known elements.type (payload_of made) shown h ∙ sym (ap (cells_shown elements) c.in-Placed.is)) gathered;
    }
