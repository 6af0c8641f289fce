-- What the values of `src/` stand for.
use Rattle.std.specs.Prelude.{ℕ, List}
use Rattle.zarr_codecs_meaning.specs.Chains as chains
use Rattle.zarr_codecs_sections.specs.declared.index.VlenIndexDataType.{VlenIndexDataType}
use Rattle.zarr_codecs_sections.specs.declared.index.VlenIndexDataType.TheVariants as numbers
use Rattle.zarr_codecs_sections.specs.declared.index.VlenIndexLocation.{VlenIndexLocation}
use Rattle.zarr_codecs_sections.specs.declared.index.VlenIndexLocation.TheVariants as location
use Rattle.zarr_codecs_sections.specs.declared.sections.Sections.{Sections}

-- the width of an offset in bits
abbrev pub width_of : VlenIndexDataType → ℕ
width_of numbers.UInt32 = 32
width_of numbers.UInt64 = 64

-- where the index stands
abbrev pub location_of : VlenIndexLocation → chains.Location
location_of location.Start = chains.Location.at_start
location_of location.End = chains.Location.at_end

-- the bytes of two sections
abbrev pub sections_in : Sections → List ℕ × List ℕ
sections_in sections = (sections.first.now, sections.second.now)
