use Rattle.std.proofs.Common.{◌≡◌, ◌∙◌, ◌*◌, ◌<◌, ℕ, List, length, sym, subst, ap}
use Rattle.zarr_grids_boxes.specs.Boxes.{Region, product}
use Rattle.zarr_grids_boxes.specs.Subsets.{region_of}
use Rattle.zarr_grids_overlay.specs.Overlays.{IsOverlaid}
use Rattle.zarr_codecs_meaning.specs.Payloads.{fixed, fixed_cells}
use Rattle.zarr_codecs_meaning.specs.Types.{Cell}
use Rattle.zarr_codecs_arrays.specs.Views.{payload_of, elements_of}
use Rattle.zarr_codecs_arrays.specs.declared.array_bytes.ArrayBytes.{ArrayBytes}
use Rattle.zarr_array_elements.specs.Boxes.{cells_of, AreOfBox, ArePutOver, cells_at}
use Rattle.zarr_array_elements.proofs.FixedPuts.{IsPut, AreSizedOf, sized_of, length-put, fixed_put, fixed_known, fixed_counted}
use Rattle.zarr_array_elements.proofs.putting.put_over.Goals as goal

pub put_fixed-requires-clause-whole : goal.put_fixed-requires-clause-whole
put_fixed-requires-clause-whole c =
    let type = (elements_of c.args.elements.now).type in
    let box : Region = region_of c.args.region.now in
    let are : AreOfBox type (fixed c.in-Fixed-Some.old.items) box = subst (λ (b : ArrayBytes). AreOfBox type (payload_of b) box) c.in-Fixed-Some.is-0 c.requires.before in
    (sized_of type c.in-Fixed-Some.width box c.in-Fixed-Some.old.items c.in-Fixed-Some.ensures.sized are).long

pub put_fixed-requires-clause-given : goal.put_fixed-requires-clause-given
put_fixed-requires-clause-given c =
    let type = (elements_of c.args.elements.now).type in
    let from : Region = region_of c.args.from.now in
    let are : AreOfBox type (fixed c.in-Fixed.bytes.items) from = subst (λ (b : ArrayBytes). AreOfBox type (payload_of b) from) c.in-Fixed.is c.requires.given in
    ap length c.as_slice.ensures.value ∙ (sized_of type c.in-Fixed-Some.width from c.in-Fixed.bytes.items c.in-Fixed-Some.ensures.sized are).long

is_put : (width : ℕ) (region box : Region) (given before after : List ℕ) → 0 < width → length region.start ≡ length region.shape → length box.start ≡ length box.shape → length given ≡ product region.shape * width → length before ≡ product box.shape * width
    → IsOverlaid width box region before given after → IsPut width region box given before after
is_put width region box given before after some r b g o over = record { some = some; region_rank = r; box_rank = b; given_long = g; before_long = o; over = over }

pub returns-in-Fixed-Some-clause-counted : goal.returns-in-Fixed-Some-clause-counted
returns-in-Fixed-Some-clause-counted c =
    let type = (elements_of c.args.elements.now).type in
    let width = c.in-Fixed-Some.width in
    let box : Region = region_of c.args.region.now in
    let from : Region = region_of c.args.from.now in
    let old = c.in-Fixed-Some.old.items in
    let given = c.in-Fixed.bytes.items in
    let made = c.put_fixed.result.items in
    let sized = sized_of type width box old c.in-Fixed-Some.ensures.sized (subst (λ (b : ArrayBytes). AreOfBox type (payload_of b) box) c.in-Fixed-Some.is-0 c.requires.before) in
    let there = sized_of type width from given c.in-Fixed-Some.ensures.sized (subst (λ (b : ArrayBytes). AreOfBox type (payload_of b) from) c.in-Fixed.is c.requires.given) in
    let over : IsOverlaid width box from old given made = subst (λ (bs : List ℕ). IsOverlaid width box from old bs made) c.as_slice.ensures.value c.put_fixed.ensures in
    let put = is_put width from box given old made c.in-Fixed-Some.ensures.some (sym c.args.from.now.same) (sym c.args.region.now.same) there.long sized.long over in
    fixed_counted type width (product box.shape) made c.in-Fixed-Some.ensures.sized c.in-Fixed-Some.ensures.some (length-put width from box given old made put)

pub returns-in-Fixed-Some-clause-cells : goal.returns-in-Fixed-Some-clause-cells
returns-in-Fixed-Some-clause-cells c =
    let type = (elements_of c.args.elements.now).type in
    let fill = (elements_of c.args.elements.now).fill in
    let width = c.in-Fixed-Some.width in
    let box : Region = region_of c.args.region.now in
    let from : Region = region_of c.args.from.now in
    let old = c.in-Fixed-Some.old.items in
    let given = c.in-Fixed.bytes.items in
    let made = c.put_fixed.result.items in
    let sized = sized_of type width box old c.in-Fixed-Some.ensures.sized (subst (λ (b : ArrayBytes). AreOfBox type (payload_of b) box) c.in-Fixed-Some.is-0 c.requires.before) in
    let there = sized_of type width from given c.in-Fixed-Some.ensures.sized (subst (λ (b : ArrayBytes). AreOfBox type (payload_of b) from) c.in-Fixed.is c.requires.given) in
    let over : IsOverlaid width box from old given made = subst (λ (bs : List ℕ). IsOverlaid width box from old bs made) c.as_slice.ensures.value c.put_fixed.ensures in
    let put = is_put width from box given old made c.in-Fixed-Some.ensures.some (sym c.args.from.now.same) (sym c.args.region.now.same) there.long sized.long over in
    let first : cells_of type (payload_of c.args.given.now) ≡ fixed_cells width given = ap (λ (b : ArrayBytes). cells_of type (payload_of b)) c.in-Fixed.is ∙ there.are in
    let second : cells_of type (payload_of c.args.before) ≡ fixed_cells width old = ap (λ (b : ArrayBytes). cells_of type (payload_of b)) c.in-Fixed-Some.is-0 ∙ sized.are in
    let third : cells_of type (fixed made) ≡ fixed_cells width made = fixed_known type width (product box.shape) made c.in-Fixed-Some.ensures.sized c.in-Fixed-Some.ensures.some (length-put width from box given old made put) in
    subst (λ (cells : List Cell). ArePutOver fill (cells_at from cells) (cells_at box (cells_of type (payload_of c.args.before))) (cells_of type (fixed made))) (sym first)
    (subst (λ (cells : List Cell). ArePutOver fill (cells_at from (fixed_cells width given)) (cells_at box cells) (cells_of type (fixed made))) (sym second)
    (subst (ArePutOver fill (cells_at from (fixed_cells width given)) (cells_at box (fixed_cells width old))) (sym third) (fixed_put width from box given old made fill put)))
