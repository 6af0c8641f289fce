-- Masks and offsets as lists of numbers. A mark is a mask's number: 1 where an element is present, or is one of those that are encoded.
use Rattle.std.specs.Prelude.{◌≡◌, ℕ, ◌+◌, ◌-◌, List, [], ◌∷◌, ◌++◌, length, map, take, drop, replicate, Some, Bool, false, ◌==◌, if◌then◌else◌}
use Rattle.std.specs.List.{filter}
use Rattle.zarr_codecs_meaning.specs.Types.{DataType, Cell}
use Rattle.zarr_codecs_meaning.specs.Payloads.{Payload, fixed_cells, cells_in}

-- whether there is a number, and the first one is 0
abbrev pub begins_at_zero : List ℕ → Bool
begins_at_zero [] = false
begins_at_zero (n ∷ ns) = n == 0

-- how many numbers are 1
abbrev pub count_ones : List ℕ → ℕ
count_ones marks = length (filter (λ m. m == 1) marks)

-- 1 for 1, else 0
abbrev pub mark_of : ℕ → ℕ
mark_of m = if m == 1 then 1 else 0

-- those of several whose marks are 1
abbrev pub chosen : {A : Type 0} → List ℕ → List A → List A
chosen [] xs = []
chosen (m ∷ ms) [] = []
chosen (m ∷ ms) (x ∷ xs) = if m == 1 then x ∷ chosen ms xs else chosen ms xs

-- 1 where two marks are 1, else 0
abbrev pub both_marks : List ℕ → List ℕ → List ℕ
both_marks [] ns = []
both_marks (m ∷ ms) [] = []
both_marks (m ∷ ms) (n ∷ ns) = (if m == 1 then mark_of n else 0) ∷ both_marks ms ns

-- for each mark that is 1 the next of other marks, and 0 for each that isn't
abbrev pub spread_marks : List ℕ → List ℕ → List ℕ
spread_marks [] ns = []
spread_marks (m ∷ ms) [] = 0 ∷ spread_marks ms []
spread_marks (m ∷ ms) (n ∷ ns) = if m == 1 then mark_of n ∷ spread_marks ms ns else 0 ∷ spread_marks ms (n ∷ ns)

-- a payload is an element for each mark, and those whose marks are 1 are these; what the others are says nothing
pub record AreMarked (type : DataType) (marks : List ℕ) (cells : List Cell) (payload : Payload) : Type 0 where
  pub all : List Cell
  pub lists : cells_in type payload ≡ Some all
  pub many : length all ≡ length marks
  pub are : chosen marks all ≡ cells

-- marks say which elements a mask has present
pub record IsMask (masks : List Cell) (marks : List ℕ) : Type 0 where
  pub numbers : List ℕ
  pub masks_are : masks ≡ fixed_cells 1 numbers
  pub are : marks ≡ map mark_of numbers

-- marks say which elements are present of those whose outer marks are 1, of which a mask tells; no other is
pub record IsSpreadMask (outer : List ℕ) (masks : List Cell) (marks : List ℕ) : Type 0 where
  pub numbers : List ℕ
  pub masks_are : masks ≡ fixed_cells 1 numbers
  pub are : marks ≡ spread_marks outer numbers

-- ---- as bytes

-- the bytes of those elements of one width whose marks are 1
abbrev pub chosen_bytes : ℕ → List ℕ → List ℕ → List ℕ
chosen_bytes width [] bytes = []
chosen_bytes width (m ∷ ms) bytes = if m == 1 then take width bytes ++ chosen_bytes width ms (drop width bytes) else chosen_bytes width ms (drop width bytes)

-- for each mark that is 1 the bytes of the next element of one width, and zeros for each that isn't
abbrev pub spread_bytes : ℕ → List ℕ → List ℕ → List ℕ
spread_bytes width [] bytes = []
spread_bytes width (m ∷ ms) bytes = if m == 1 then take width bytes ++ spread_bytes width ms (drop width bytes) else replicate width 0 ++ spread_bytes width ms bytes

-- of elements that begin at an offset and end at others, the bytes of each whose mark is 1
abbrev pub chosen_pieces : List ℕ → ℕ → List ℕ → List ℕ → List (List ℕ)
chosen_pieces [] start ends bytes = []
chosen_pieces (m ∷ ms) start [] bytes = []
chosen_pieces (m ∷ ms) start (end ∷ ends) bytes = if m == 1 then take (end - start) (drop start bytes) ∷ chosen_pieces ms end ends bytes else chosen_pieces ms end ends bytes

-- the same, by all offsets
abbrev pub pieces_at : List ℕ → List ℕ → List ℕ → List (List ℕ)
pieces_at marks [] bytes = []
pieces_at marks (start ∷ ends) bytes = chosen_pieces marks start ends bytes

-- where elements end that begin at a number, one after another
abbrev pub ends_from : ℕ → List (List ℕ) → List ℕ
ends_from start [] = []
ends_from start (piece ∷ pieces) = (start + length piece) ∷ ends_from (start + length piece) pieces

-- for each mark that is 1 the next offset, and for each that isn't the one before again
abbrev pub spread_ends : List ℕ → ℕ → List ℕ → List ℕ
spread_ends [] start ends = []
spread_ends (m ∷ ms) start [] = start ∷ spread_ends ms start []
spread_ends (m ∷ ms) start (end ∷ ends) = if m == 1 then end ∷ spread_ends ms end ends else start ∷ spread_ends ms start (end ∷ ends)

-- the same, with the first offset
abbrev pub spread_offsets : List ℕ → List ℕ → List ℕ
spread_offsets marks [] = []
spread_offsets marks (start ∷ ends) = start ∷ spread_ends marks start ends
