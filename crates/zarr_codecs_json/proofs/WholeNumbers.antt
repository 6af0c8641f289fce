-- Whole numbers as integers of so many bits.
use Rattle.std.proofs.Common.{◌≡◌, ℕ, ◌+◌, ◌/◌, pos, true, false, if◌then◌else◌, Some, None, option_map, ap}
use Rattle.serde_json.specs.Data.{number, unsigned}
use Rattle.zarr_codecs_meaning.specs.Types.{Sign, integer, of_bytes}
use Rattle.zarr_codecs_types.specs.FillMetadata.{integer_fits}
use Rattle.zarr_codecs_types.specs.Integers.{integer_bytes}
use Rattle.zarr_codecs_json.specs.Inside.{cell_inside}

-- the element that a whole number says
pub whole_cell : (sign : Sign) (width n : ℕ) → integer_fits sign width (pos n) ≡ true
    → cell_inside (integer sign width) 0 (number (unsigned n)) ≡ Some (of_bytes (integer_bytes ((width + 7) / 8) (pos n)))
whole_cell sign width n fits = ap (λ b. option_map (λ z. of_bytes (integer_bytes ((width + 7) / 8) z)) (if b then Some (pos n) else None)) fits

pub no_cell : (sign : Sign) (width n : ℕ) → integer_fits sign width (pos n) ≡ false → cell_inside (integer sign width) 0 (number (unsigned n)) ≡ None
no_cell sign width n large = ap (λ b. option_map (λ z. of_bytes (integer_bytes ((width + 7) / 8) z)) (if b then Some (pos n) else None)) large
