-- Elements of variable length that are taken one after another.
use Rattle.std.specs.Prelude.{◌≡◌, ◌≤◌, ℕ, ◌-◌, List, ◌∷◌, ◌++◌, map, length, flat_map}
use Rattle.std.specs.List.{range_with_len}
use Rattle.zarr_codecs_meaning.specs.Payloads.{variable}
use Rattle.zarr_codecs_arrays.specs.Views.{numbers_of, payload_of}
use Rattle.zarr_codecs_arrays.specs.declared.array_bytes.ArrayBytes.{ArrayBytes}
use Rattle.zarr_codecs_regions.specs.Pieces.{ends_of, piece_of}
use Rattle.zarr_codecs_regions.specs.Updates.{put}
use Rattle.zarr_codecs_regions.specs.declared.taken.Pieces.{Pieces}
use Rattle.zarr_codecs_regions.specs.declared.taken.Taken.{Taken}
use Rattle.zarr_codecs_regions.specs.declared.merging.Merged.{Merged}
use Rattle.zarr_codecs_regions.specs.declared.merging.Both.{Both}

-- the bytes of each of the elements with these numbers
abbrev pub pieces_at : Pieces → List ℕ → List (List ℕ)
pieces_at from numbers = map (piece_of (numbers_of from.offsets.now) from.bytes.now) numbers

-- what was taken is elements of these bytes: all bytes one after another, and where each element begins and the last one ends
pub record IsTaken (pieces : List (List ℕ)) (taken : Taken) : Type 0 where
  pub bytes_are : taken.bytes.items ≡ flat_map (λ piece. piece) pieces
  pub ends_are : taken.ends.items ≡ 0 ∷ ends_of 0 pieces

-- elements of variable length are these
abbrev pub ArePieces : List (List ℕ) → ArrayBytes → Type 0
ArePieces pieces made = payload_of made ≡ variable (flat_map (λ piece. piece) pieces) (0 ∷ ends_of 0 pieces)

-- the elements of an array after as many new ones as there are numbers were put at the places with these
abbrev pub pieces_put : Both → List ℕ → List (List ℕ)
pieces_put both numbers = put numbers (pieces_at both.given (range_with_len 0 (length numbers))) (pieces_at both.old (range_with_len 0 both.count))

-- what was taken, with the old elements of an array from the next one on, is all its elements after new ones were put at the places with these numbers
pub record IsMerged (both : Both) (numbers : List ℕ) (merged : Merged) : Type 0 where
  pub pieces : List (List ℕ)
  pub taken : IsTaken pieces merged.taken
  pub long : length pieces ≡ merged.next
  pub most : merged.next ≤ both.count
  pub many : merged.given ≡ length numbers
  pub is : pieces ++ pieces_at both.old (range_with_len merged.next (both.count - merged.next)) ≡ pieces_put both numbers
