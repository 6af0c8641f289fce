-- Elements that a walk comes by.
use Rattle.std.specs.Prelude.{ℕ, ◌+◌, ◌-◌, ◌*◌, List, [], ◌∷◌, take, drop, flat_map, slice_index_or}
use Rattle.std.specs.List.{range_with_len}

-- the numbers that a walk over sizes comes by, where a step in a dimension goes on by its stride
abbrev pub strided : ℕ → List ℕ → List ℕ → List ℕ
strided base [] strides = base ∷ []
strided base (size ∷ sizes) [] = []
strided base (size ∷ sizes) (stride ∷ strides) = flat_map (λ i. strided (base + i * stride) sizes strides) (range_with_len 0 size)

-- how far the last number of a walk lies from its first one
abbrev pub reach : List ℕ → List ℕ → ℕ
reach [] strides = 0
reach (size ∷ sizes) [] = 0
reach (size ∷ sizes) (stride ∷ strides) = (size - 1) * stride + reach sizes strides

-- so many bytes from the element with a number on, where each element has a width
abbrev pub stretch_at : ℕ → ℕ → List ℕ → ℕ → List ℕ
stretch_at width count bytes n = take count (drop (n * width) bytes)

-- the bytes of the element with a number
abbrev pub element_at : ℕ → List ℕ → ℕ → List ℕ
element_at width bytes n = stretch_at width width bytes n

-- the elements that a walk from a place on comes by
abbrev pub walked : ℕ → List ℕ → ℕ → List ℕ → List ℕ → List ℕ
walked width bytes base sizes strides = flat_map (element_at width bytes) (strided base sizes strides)

-- the element in a line and a column of lines that have so many elements each
abbrev pub element_in : ℕ → List ℕ → ℕ → ℕ → ℕ → List ℕ
element_in width lines edge column line = element_at width lines (line * edge + column)

-- the elements of a column of so many lines
abbrev pub column_of : ℕ → List ℕ → ℕ → ℕ → ℕ → List ℕ
column_of width lines edge count column = flat_map (element_in width lines edge column) (range_with_len 0 count)

-- eight elements, the first with a number, each other one so many elements after the one before it
abbrev pub eight_of : List (List ℕ) → ℕ → ℕ → List ℕ
eight_of cells first step = flat_map (λ k. slice_index_or cells (first + k * step) []) (range_with_len 0 8)
