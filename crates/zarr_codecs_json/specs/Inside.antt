-- What JSON values say below optional types, whose elements that are present are lists of one value.
use Rattle.std.specs.Prelude.{ℕ, zero, suc, List, [], ◌∷◌, Bool, true, false, Option, Some, None, option_map, option_and_then}
use Rattle.serde_json.specs.Data.{Data, Items, no_items, item}
use Rattle.zarr_codecs_meaning.specs.Types.{DataType, Cell, zero_cell}
use Rattle.zarr_codecs_types.specs.FillMetadata.{option_in}
use Rattle.zarr_codecs_types.specs.Given.{element_in}

-- what stands inside of what stands in a value, by one optional type more
abbrev pub next_inside : Option Data → Option (Option Data)
next_inside None = Some None
next_inside (Some d) = option_in d

-- what stands in a value inside of so many optional types: nothing where it is absent by one of them; None where it is no element of such a type
abbrev pub inside : ℕ → Data → Option (Option Data)
inside zero d = Some (Some d)
inside (suc levels) d = option_and_then next_inside (inside levels d)

-- the element of the type that stands there, and the zero of the type where nothing does
abbrev pub some_cell : DataType → Option Data → Option Cell
some_cell type None = Some (zero_cell type)
some_cell type (Some d) = element_in type d

-- the element of the type that a value says inside of so many optional types
abbrev pub cell_inside : DataType → ℕ → Data → Option Cell
cell_inside type levels d = option_and_then (some_cell type) (inside levels d)

-- whether a value is an element of so many optional types that is absent by one of them
abbrev pub is_absent : Option (Option Data) → Bool
is_absent None = false
is_absent (Some None) = true
is_absent (Some (Some d)) = false

-- 1 where something stands there, 0 where it is absent
abbrev pub mark_of : Option Data → ℕ
mark_of None = 0
mark_of (Some d) = 1

-- the number in a mask that a value says inside of so many optional types
abbrev pub mark_inside : ℕ → Data → Option ℕ
mark_inside levels d = option_map mark_of (inside levels d)

-- what the values of a list say, where each of them says something
abbrev pub said : {A : Type 0} → (Data → Option A) → Items → Option (List A)
said says no_items = Some []
said says (item d ds) = option_and_then (λ x. option_map (λ xs. x ∷ xs) (said says ds)) (says d)
