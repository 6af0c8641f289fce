-- The elements of one size that lie in a box, as a payload.
use Rattle.std.proofs.Common.{◌≡◌, ◌∙◌, ℕ, ◌*◌, ◌%◌, List, length, sym, ap, Some, option_and_then}
use Rattle.std.proofs.Math.Nat.{mul-mod_left}
use Rattle.zarr_codecs_meaning.specs.Types.{DataType, byte_width, Cell}
use Rattle.zarr_codecs_meaning.specs.Payloads.{fixed_cells, fixed_in, cells_in, fixed}
use Rattle.zarr_codecs_meaning.specs.Places.{gather}
use Rattle.zarr_codecs_arrays.proofs.FixedCells.{fixed_in-some, fixed_in-whole}

pub box_payload : (type : DataType) (width n : ℕ) (bytes made : List ℕ) (cells : List Cell) (other : Cell) (numbers : List ℕ) → byte_width type ≡ Some width → cells_in type (fixed bytes) ≡ Some cells
    → fixed_cells width made ≡ gather other (fixed_cells width bytes) numbers → length made ≡ n * width → cells_in type (fixed made) ≡ Some (gather other cells numbers)
box_payload type width n bytes made cells other numbers told h elements long =
    let of_type : (bs : List ℕ) → cells_in type (fixed bs) ≡ fixed_in width bs = λ bs. ap (option_and_then (λ k. fixed_in k bs)) told in
    let is = fixed_in-whole width bytes cells (sym (of_type bytes) ∙ h) in
    let even : length made % width ≡ 0 = ap (λ k. k % width) long ∙ mul-mod_left n width in
    of_type made ∙ (fixed_in-some width made is.positive even ∙ ap Some (elements ∙ ap (λ cs. gather other cs numbers) (sym is.is)))
