-- Which codecs are asked for the boxes that boxes become.
use Rattle.std.specs.Prelude.{Bool, not, ◌||◌}
use Rattle.zarr_codecs_meaning.specs.Chains.{Chain}
use Rattle.zarr_codecs_meaning.specs.Partial.{encodes_in_part}
use Rattle.zarr_codecs_traits.specs.Capabilities.{decodes_parts}

-- where it holds, what a chain takes of a value for some elements doesn't depend on their order. Through `packbits` without a padding byte it does: there elements with consecutive numbers are taken together
abbrev pub takes_any_order : Chain → Bool
takes_any_order chain = encodes_in_part chain || not (decodes_parts chain)
