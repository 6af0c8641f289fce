use Rattle.std.proofs.Common.{◌≡◌, ◌∙◌, ℕ, List, sym, subst, ap, length, true, rules}
use Rattle.std.proofs.lemmas.Result.{IfOk-weaker}
use Rattle.std.specs.List.{list_all}
use Rattle.std.specs.Prelude.{nat_lt, Some}
use Rattle.zarr_grids_boxes.specs.Boxes.{Region}
use Rattle.zarr_grids_boxes.specs.Subsets.{region_of}
use Rattle.zarr_codecs_meaning.specs.Payloads.{cells_in}
use Rattle.zarr_codecs_meaning.specs.Places.{gather}
use Rattle.zarr_codecs_meaning.specs.Types.{Cell}
use Rattle.zarr_codecs_arrays.specs.Views.{payload_of, elements_of}
use Rattle.zarr_codecs_arrays.specs.declared.array_bytes.ArrayBytes.{ArrayBytes}
use Rattle.zarr_array_elements.specs.Boxes.{cells_of, AreOfBox, AreTakenOut}
use Rattle.zarr_array_elements.proofs.FixedPuts.{counted, known}
use Rattle.zarr_array_elements.proofs.Moved.{numbers_there, there_below}
use Rattle.zarr_array_elements.proofs.ByNumber.{all_below, numbered_taken}
use Rattle.zarr_array_elements.proofs.cutting.take_numbered.Goals as goal

pub returns-clause-counted : goal.returns-clause-counted
returns-clause-counted c =
    let elements = elements_of c.args.elements.now in
    let box : Region = region_of c.args.wanted.now in
    let from : Region = region_of c.args.from.now in
    let cells : List Cell = cells_of elements.type (payload_of c.args.given.now) in
    let ns = numbers_there from box in
    let same : c.as_slice.result.now ≡ ns = c.as_slice.ensures.value ∙ c.in_ok-numbers.ensures in
    let below : list_all (λ n. nat_lt n (length cells)) c.as_slice.result.now ≡ true =
    ap (list_all (λ n. nat_lt n (length cells))) same ∙ all_below (length cells) ns (λ k low. let b = there_below from box k (sym c.args.wanted.now.same) c.requires.inside low in rw c.requires.given.many b) in
    let taken = numbered_taken elements.fill box from cells (sym c.args.wanted.now.same) in
    IfOk-weaker c.gather_elements.result (λ made. cells_in elements.type (payload_of made) ≡ Some (gather elements.fill cells c.as_slice.result.now)) (λ made. AreOfBox elements.type (payload_of made) box)
    (λ made h. counted elements.type (payload_of made) (gather elements.fill cells c.as_slice.result.now) _ h (ap (λ xs. length (gather elements.fill cells xs)) same ∙ taken.many)) (c.gather_elements.ensures cells c.requires.given.lists below)

pub returns-clause-cells : goal.returns-clause-cells
returns-clause-cells c =
    let elements = elements_of c.args.elements.now in
    let box : Region = region_of c.args.wanted.now in
    let from : Region = region_of c.args.from.now in
    let cells : List Cell = cells_of elements.type (payload_of c.args.given.now) in
    let ns = numbers_there from box in
    let same : c.as_slice.result.now ≡ ns = c.as_slice.ensures.value ∙ c.in_ok-numbers.ensures in
    let below : list_all (λ n. nat_lt n (length cells)) c.as_slice.result.now ≡ true =
    ap (list_all (λ n. nat_lt n (length cells))) same ∙ all_below (length cells) ns (λ k low. let b = there_below from box k (sym c.args.wanted.now.same) c.requires.inside low in rw c.requires.given.many b) in
    let taken = numbered_taken elements.fill box from cells (sym c.args.wanted.now.same) in
    IfOk-weaker c.gather_elements.result (λ made. cells_in elements.type (payload_of made) ≡ Some (gather elements.fill cells c.as_slice.result.now)) (λ made. AreTakenOut elements.fill box from cells (cells_of elements.type (payload_of made)))
    (λ made h. subst (AreTakenOut elements.fill box from cells) (ap (gather elements.fill cells) (sym same) ∙ sym (known elements.type (payload_of made) (gather elements.fill cells c.as_slice.result.now) h)) taken) (c.gather_elements.ensures cells c.requires.given.lists below)
