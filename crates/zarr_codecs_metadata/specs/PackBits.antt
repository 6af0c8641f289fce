-- The metadata of `packbits` (this project's profile).
use Rattle.std.specs.Prelude.{ℕ, List, [], ◌∷◌, codes, bytes_eq, if◌then◌else◌, Option, Some, None, option_map, option_and_then, unwrap_or}
use Rattle.serde_json.specs.Data.{Data, Members}
use Rattle.serde_json.specs.Find.{get_member, as_str}
use Rattle.zarr_grids_metadata.specs.Members.{has_only}
use Rattle.zarr_codecs_meaning.specs.Chains.{Padding, Chain}
use Rattle.zarr_codecs_meaning.specs.Chains.Padding.{no_padding_byte, first_byte, last_byte}
use Rattle.zarr_codecs_meaning.specs.Chains.Chain.{packbits}
use Rattle.zarr_codecs_metadata.specs.ArrayCodecs.{natural_in}

-- where the padding is told, by its name
abbrev pub padding_named : List ℕ → Option Padding
padding_named name =
    if bytes_eq name (codes "none") then Some no_padding_byte
    else (if bytes_eq name (codes "first_byte") then Some first_byte else (if bytes_eq name (codes "last_byte") then Some last_byte else None))

-- where a member says that the padding is told: nowhere, where there is no such member
abbrev pub padding_in : Option Data → Option Padding
padding_in None = Some no_padding_byte
padding_in (Some d) = option_and_then padding_named (as_str d)

-- the number of a bit that a member gives, where it is there
abbrev pub bit_in : Option Data → Option (Option ℕ)
bit_in None = Some None
bit_in (Some d) = option_map Some (natural_in d)

-- `packbits` with what these members of its configuration say
abbrev pub packbits_with : Option Data → Option Data → Option Data → Option Chain
packbits_with padding first last =
    option_and_then (λ told. option_and_then (λ low. option_map (λ high. packbits told (unwrap_or low 0) high) (bit_in last)) (bit_in first)) (padding_in padding)

-- `packbits` with what its configuration gives
abbrev pub packbits_of : Members → Option Chain
packbits_of ms =
    if has_only (codes "padding_encoding" ∷ codes "first_bit" ∷ codes "last_bit" ∷ []) ms
    then packbits_with (get_member (codes "padding_encoding") ms) (get_member (codes "first_bit") ms) (get_member (codes "last_bit") ms) else None
