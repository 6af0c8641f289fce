use Rattle.std.proofs.Common.{◌≡◌, ◌∙◌, ◌*◌, ℕ, List, length, sym, subst, ap}
use Rattle.zarr_grids_boxes.specs.Boxes.{Region, product}
use Rattle.zarr_grids_boxes.specs.Subsets.{region_of}
use Rattle.zarr_grids_overlay.specs.Overlays.{IsOverlaid}
use Rattle.zarr_codecs_meaning.specs.Payloads.{fixed, fixed_cells}
use Rattle.zarr_codecs_meaning.specs.Types.{Cell}
use Rattle.zarr_codecs_arrays.specs.Views.{payload_of, elements_of}
use Rattle.zarr_codecs_arrays.specs.declared.array_bytes.ArrayBytes.{ArrayBytes}
use Rattle.zarr_array_elements.specs.Boxes.{cells_of, AreOfBox, ArePutOver, cells_at}
use Rattle.zarr_array_elements.specs.Views.{AreShown, AreSized, cells_shown, cells_numbered}
use Rattle.zarr_array_elements.specs.declared.box_elements.BoxElements.{BoxElements}
use Rattle.zarr_array_elements.proofs.FixedPuts.{IsPut, sized_of, length-put, fixed_put}
use Rattle.zarr_array_elements.proofs.PlacedShown.{ArePut, each_place, numbered_after, over_after, shows}
use Rattle.zarr_array_elements.proofs.box_elements.BoxElements.put.Goals as goal

pub put_or_take-made-requires-clause-given : goal.put_or_take-made-requires-clause-given
put_or_take-made-requires-clause-given c =
    let elements = elements_of c.args.elements.now in
    let box : Region = region_of c.args.region.now in
    let at_box : Region = region_of c.args.at.now in
    let old : AreSized elements (product box.shape) c.in-Fixed.width c.in-Fixed.bytes.items = subst (AreShown elements box) c.in-Fixed.is c.requires.shown in
    let are : AreOfBox elements.type (fixed c.in-Fixed-given.given.items) at_box = subst (λ (b : ArrayBytes). AreOfBox elements.type (payload_of b) at_box) c.in-Fixed-given.is c.requires.given in
    (sized_of elements.type c.in-Fixed.width at_box c.in-Fixed-given.given.items old.sized are).long

pub returns-in-Fixed-given-clause-shown : goal.returns-in-Fixed-given-clause-shown
returns-in-Fixed-given-clause-shown c =
    let elements = elements_of c.args.elements.now in
    let width = c.in-Fixed.width in
    let box : Region = region_of c.args.region.now in
    let at_box : Region = region_of c.args.at.now in
    let before = c.in-Fixed.bytes.items in
    let given = c.in-Fixed-given.given.items in
    let made = c.put_or_take-made.result.items in
    let old : AreSized elements (product box.shape) width before = subst (AreShown elements box) c.in-Fixed.is c.requires.shown in
    let are : AreOfBox elements.type (fixed given) at_box = subst (λ (b : ArrayBytes). AreOfBox elements.type (payload_of b) at_box) c.in-Fixed-given.is c.requires.given in
    let over : IsOverlaid width box at_box before given made = c.put_or_take-made.ensures in
    let put : IsPut width at_box box given before made = record { some = old.some; region_rank = sym c.args.at.now.same; box_rank = sym c.args.region.now.same; given_long = (sized_of elements.type width at_box given old.sized are).long; before_long = old.long; over = over } in
    record { sized = old.sized; some = old.some; long = length-put width at_box box given before made put }

pub returns-in-Fixed-given-clause-cells : goal.returns-in-Fixed-given-clause-cells
returns-in-Fixed-given-clause-cells c =
    let elements = elements_of c.args.elements.now in
    let width = c.in-Fixed.width in
    let box : Region = region_of c.args.region.now in
    let at_box : Region = region_of c.args.at.now in
    let before = c.in-Fixed.bytes.items in
    let given = c.in-Fixed-given.given.items in
    let made = c.put_or_take-made.result.items in
    let old : AreSized elements (product box.shape) width before = subst (AreShown elements box) c.in-Fixed.is c.requires.shown in
    let are : AreOfBox elements.type (fixed given) at_box = subst (λ (b : ArrayBytes). AreOfBox elements.type (payload_of b) at_box) c.in-Fixed-given.is c.requires.given in
    let sized = sized_of elements.type width at_box given old.sized are in
    let over : IsOverlaid width box at_box before given made = c.put_or_take-made.ensures in
    let put : IsPut width at_box box given before made = record { some = old.some; region_rank = sym c.args.at.now.same; box_rank = sym c.args.region.now.same; given_long = sized.long; before_long = old.long; over = over } in
    let first : cells_of elements.type (payload_of c.args.given) ≡ fixed_cells width given = ap (λ (b : ArrayBytes). cells_of elements.type (payload_of b)) c.in-Fixed-given.is ∙ sized.are in
    subst (λ (cells : List Cell). ArePutOver elements.fill (cells_at at_box cells) (cells_at box (cells_shown elements c.args.self)) (fixed_cells width made)) (sym first)
    (subst (λ (s : BoxElements). ArePutOver elements.fill (cells_at at_box (fixed_cells width given)) (cells_at box (cells_shown elements s)) (fixed_cells width made)) (sym c.in-Fixed.is) (fixed_put width at_box box given before made elements.fill put))

pub returns-in_ok-made-in-Placed : goal.returns-in_ok-made-in-Placed
returns-in_ok-made-in-Placed c =
    let elements = elements_of c.args.elements.now in
    let box : Region = region_of c.args.region.now in
    let at_box : Region = region_of c.args.at.now in
    let part : List Cell = cells_of elements.type (payload_of c.args.given) in
    let places = c.as_slice.result.now in
    let all = c.in-Placed.all in
    let made = c.in_ok-made-in-Placed.made in
    let are : ArePut elements box at_box all part places = record {
      rank = sym c.args.at.now.same;
      inside = c.requires.inside;
      shown = subst (AreShown elements box) c.in-Placed.is c.requires.shown;
      whole = c.requires.given.many;
      same = c.as_slice.ensures.value ∙ c.in_ok-places-in-Placed.ensures;
    } in
    let after = c.in_ok-made-in-Placed.ensures (cells_numbered elements all) part (shows elements (product box.shape) all are.shown) c.requires.given.lists (each_place elements box at_box all part places are) in
    record {
      shown = numbered_after elements box at_box all made part places are after;
      cells =
          subst (λ (s : BoxElements). ArePutOver elements.fill (cells_at at_box part) (cells_at box (cells_shown elements s)) (cells_numbered elements made)) (sym c.in-Placed.is)
          (over_after elements box at_box all made part places are after);
    }
