-- Elements with the bytes of each component in a stored order.
use Rattle.std.specs.Prelude.{ℕ, List, Option, Bool, nat_le, flat_map}
use Rattle.std.specs.List.{list_all}
use Rattle.zarr_codecs_meaning.specs.Types.{Component, bytes_in, cell_bytes}
use Rattle.zarr_codecs_meaning.specs.Chains.{Endianness}
use Rattle.zarr_codecs_meaning.specs.Encoding.{ordered}
use Rattle.zarr_codecs_meaning.specs.Payloads.{fixed_cells}

-- elements one after another, with the bytes of each component in the stored order; the same function undoes it
abbrev pub all_ordered : Option Endianness → List Component → List ℕ → List ℕ
all_ordered order parts bytes = flat_map (λ cell. ordered order parts (cell_bytes cell)) (fixed_cells (bytes_in parts) bytes)

-- no component has several bytes
abbrev pub have_one_byte : List Component → Bool
have_one_byte parts = list_all (λ (c : Component). nat_le c.byte_count 1) parts
