-- Equality of data types, as a test.
use Rattle.std.specs.Prelude.{◌==◌, ◌&&◌, List, [], ◌∷◌, Bool, true, false}
use Rattle.zarr_codecs_meaning.specs.Types.{Sign, unsigned, signed, Component, DataType, bool, integer, custom, string, variable_bytes, optional_of}

-- whether two sign rules are equal
abbrev pub same_sign : Sign → Sign → Bool
same_sign unsigned unsigned = true
same_sign unsigned signed = false
same_sign signed unsigned = false
same_sign signed signed = true

-- whether two components are equal
abbrev pub same_component : Component → Component → Bool
same_component a b = (a.width == b.width) && ((a.byte_count == b.byte_count) && same_sign a.sign b.sign)

-- whether two lists of components are equal
abbrev pub same_components : List Component → List Component → Bool
same_components [] [] = true
same_components [] (d ∷ ds) = false
same_components (c ∷ cs) [] = false
same_components (c ∷ cs) (d ∷ ds) = same_component c d && same_components cs ds

-- whether two types are equal
abbrev pub same_type : DataType → DataType → Bool
same_type bool bool = true
same_type (integer sign width) (integer other number) = same_sign sign other && (width == number)
same_type (custom parts) (custom others) = same_components parts others
same_type string string = true
same_type variable_bytes variable_bytes = true
same_type (optional_of inner) (optional_of other) = same_type inner other
same_type _ _ = false
