-- Types of which all bytes are values.
use Rattle.std.specs.Prelude.{◌%◌, ◌==◌, Bool, true, false}
use Rattle.zarr_codecs_meaning.specs.Types.{DataType, bool, integer, custom, string, variable_bytes, optional_of}

-- whether any bytes of the right number are a value of the type
abbrev pub takes_all_bytes : DataType → Bool
takes_all_bytes bool = false
takes_all_bytes (integer sign width) = width % 8 == 0
takes_all_bytes (custom parts) = false
takes_all_bytes string = true
takes_all_bytes variable_bytes = true
takes_all_bytes (optional_of inner) = false
