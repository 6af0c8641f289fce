use Rattle.std.proofs.Common.{◌≡◌, ◌∙◌, ◌*◌, ℕ, List, length, replicate, sym, subst, ap}
use Rattle.std.proofs.lemmas.List.{length-replicate}
use Rattle.zarr_grids_boxes.specs.Boxes.{Region, product}
use Rattle.zarr_grids_boxes.specs.Subsets.{region_of}
use Rattle.zarr_grids_overlay.specs.Overlays.{IsOverlaid}
use Rattle.zarr_codecs_meaning.specs.Payloads.{fixed, fixed_cells}
use Rattle.zarr_codecs_meaning.specs.Types.{Cell}
use Rattle.zarr_codecs_arrays.specs.Views.{payload_of, elements_of}
use Rattle.zarr_codecs_arrays.specs.declared.array_bytes.ArrayBytes.{ArrayBytes}
use Rattle.zarr_array_elements.specs.Boxes.{cells_of, AreOfBox, AreTakenOut}
use Rattle.zarr_array_elements.proofs.FixedPuts.{IsPut, AreSizedOf, sized_of, length-put, fixed_taken, fixed_known, fixed_counted}
use Rattle.zarr_array_elements.proofs.cutting.take_out.Goals as goal

pub take_fixed-requires-clause-whole : goal.take_fixed-requires-clause-whole
take_fixed-requires-clause-whole c =
    let type = (elements_of c.args.elements.now).type in
    let from : Region = region_of c.args.from.now in
    let are : AreOfBox type (fixed c.in-Fixed.bytes.items) from = subst (λ (b : ArrayBytes). AreOfBox type (payload_of b) from) c.in-Fixed.is c.requires.given in
    ap length c.as_slice.ensures.value ∙ (sized_of type c.in-Some.width from c.in-Fixed.bytes.items c.in-Some.ensures.sized are).long

pub returns-in_ok-made-in-Some-clause-counted : goal.returns-in_ok-made-in-Some-clause-counted
returns-in_ok-made-in-Some-clause-counted c =
    let type = (elements_of c.args.elements.now).type in
    let width = c.in-Some.width in
    let from : Region = region_of c.args.from.now in
    let box : Region = region_of c.args.wanted.now in
    let given = c.in-Fixed.bytes.items in
    let made = c.in_ok-made-in-Some.made.items in
    let are : AreOfBox type (fixed given) from = subst (λ (b : ArrayBytes). AreOfBox type (payload_of b) from) c.in-Fixed.is c.requires.given in
    let before = replicate (product box.shape * width) 0 in
    let over : IsOverlaid width box from before given made = subst (λ (bs : List ℕ). IsOverlaid width box from before bs made) c.as_slice.ensures.value c.in_ok-made-in-Some.ensures in
    let put : IsPut width from box given before made = record { some = c.in-Some.ensures.some; region_rank = sym c.args.from.now.same; box_rank = sym c.args.wanted.now.same; given_long = (sized_of type width from given c.in-Some.ensures.sized are).long; before_long = length-replicate (product box.shape * width) 0; over = over } in
    fixed_counted type width (product box.shape) made c.in-Some.ensures.sized c.in-Some.ensures.some (length-put width from box given before made put)

pub returns-in_ok-made-in-Some-clause-cells : goal.returns-in_ok-made-in-Some-clause-cells
returns-in_ok-made-in-Some-clause-cells c =
    let type = (elements_of c.args.elements.now).type in
    let fill = (elements_of c.args.elements.now).fill in
    let width = c.in-Some.width in
    let from : Region = region_of c.args.from.now in
    let box : Region = region_of c.args.wanted.now in
    let given = c.in-Fixed.bytes.items in
    let made = c.in_ok-made-in-Some.made.items in
    let are : AreOfBox type (fixed given) from = subst (λ (b : ArrayBytes). AreOfBox type (payload_of b) from) c.in-Fixed.is c.requires.given in
    let sized : AreSizedOf type width from given = sized_of type width from given c.in-Some.ensures.sized are in
    let before = replicate (product box.shape * width) 0 in
    let over : IsOverlaid width box from before given made = subst (λ (bs : List ℕ). IsOverlaid width box from before bs made) c.as_slice.ensures.value c.in_ok-made-in-Some.ensures in
    let put : IsPut width from box given before made = record { some = c.in-Some.ensures.some; region_rank = sym c.args.from.now.same; box_rank = sym c.args.wanted.now.same; given_long = sized.long; before_long = length-replicate (product box.shape * width) 0; over = over } in
    let there : cells_of type (payload_of c.args.given.now) ≡ fixed_cells width given = ap (λ (b : ArrayBytes). cells_of type (payload_of b)) c.in-Fixed.is ∙ sized.are in
    let here : cells_of type (fixed made) ≡ fixed_cells width made = fixed_known type width (product box.shape) made c.in-Some.ensures.sized c.in-Some.ensures.some (length-put width from box given before made put) in
    subst (λ (cells : List Cell). AreTakenOut fill box from cells (cells_of type (fixed made))) (sym there)
    (subst (AreTakenOut fill box from (fixed_cells width given)) (sym here) (fixed_taken width from box given before made fill put c.requires.inside))
