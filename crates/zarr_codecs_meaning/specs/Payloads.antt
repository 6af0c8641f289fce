-- Elements as calls take and give them: bytes, and what tells the elements in them apart.
use Rattle.std.specs.Prelude.{ℕ, ◌-◌, ◌*◌, ◌/◌, ◌%◌, List, [], ◌∷◌, map, length, take, drop, Option, Some, None, option_map, option_and_then, ◌&&◌, if◌then◌else◌, ◌==◌, nat_le, nat_lt}
use Rattle.std.specs.List.{list_all, range_with_len}
use Rattle.zarr_codecs_meaning.specs.Types.{DataType, byte_width, inner_type, is_variable, Cell, of_bytes, absent, present, is_value}

-- elements as a call takes and gives them (`ArrayBytes`)
pub data Payload : Type 0 where
  -- elements of one size, one after another
  fixed : (bytes : List ℕ) → Payload
  -- where each element begins, and where the last one ends
  variable : (bytes offsets : List ℕ) → Payload
  -- an element for each place, and for each place a one where it is present, else a zero; what stands where none is present says nothing
  optional : (inner : Payload) (mask : List ℕ) → Payload

-- elements of one width, one after another
abbrev pub fixed_cells : ℕ → List ℕ → List Cell
fixed_cells width bytes = map (λ n. of_bytes (take width (drop (n * width) bytes))) (range_with_len 0 (length bytes / width))

-- the elements of one width that bytes hold; None where the bytes end within an element, or the width is 0
abbrev pub fixed_in : ℕ → List ℕ → Option (List Cell)
fixed_in width bytes = if nat_lt 0 width && (length bytes % width == 0) then Some (fixed_cells width bytes) else None

-- the bytes from each offset to the next; the offsets do not fall, and the last one is where the bytes end
abbrev pub bytes_between : ℕ → List ℕ → List ℕ → Option (List (List ℕ))
bytes_between start [] bytes = if start == length bytes then Some [] else None
bytes_between start (end ∷ ends) bytes = if nat_le start end then option_map (λ rest. take (end - start) (drop start bytes) ∷ rest) (bytes_between end ends bytes) else None

-- the elements of any length that offsets cut bytes into
abbrev pub variable_in : List ℕ → List ℕ → Option (List Cell)
variable_in [] bytes = None
variable_in (start ∷ ends) bytes = option_map (map of_bytes) (bytes_between start ends bytes)

-- an element of an optional type, by its number in the mask
abbrev pub masked : Cell → ℕ → Option Cell
masked cell mask = if mask == 0 then Some absent else (if mask == 1 then Some (present cell) else None)

-- the elements of an optional type, as many as the mask has numbers
abbrev pub masked_in : List Cell → List ℕ → Option (List Cell)
masked_in [] [] = Some []
masked_in [] (m ∷ ms) = None
masked_in (c ∷ cs) [] = None
masked_in (c ∷ cs) (m ∷ ms) = option_and_then (λ first. option_map (λ others. first ∷ others) (masked_in cs ms)) (masked c m)

-- the elements of the type that a payload is, in order; None where its form, its width, its offsets or its mask are none of the type's
abbrev pub cells_in : DataType → Payload → Option (List Cell)
cells_in type (fixed bytes) = option_and_then (λ width. fixed_in width bytes) (byte_width type)
cells_in type (variable bytes offsets) = if is_variable type then variable_in offsets bytes else None
cells_in type (optional inner mask) = option_and_then (λ of_type. option_and_then (λ cells. masked_in cells mask) (cells_in of_type inner)) (inner_type type)

-- elements, where each is a value of the type
abbrev pub values_only : DataType → List Cell → Option (List Cell)
values_only type cells = if list_all (is_value type) cells then Some cells else None

-- the elements of the type that a payload is, where each is a value
abbrev pub values_in : DataType → Payload → Option (List Cell)
values_in type payload = option_and_then (values_only type) (cells_in type payload)
