-- Elements of variable length encoded by an index and their joined bytes.
use Rattle.std.proofs.Common.{◌≡◌, ℕ, ◌+◌, ◌^◌, List, [], ◌∷◌, length, refl, true, inr, Some, Ok, Err, Vec, Global}
use Rattle.std.specs.Prelude.{nat_lt}
use Rattle.zarr_grids_boxes.specs.Boxes.{product}
use Rattle.zarr_codecs_meaning.specs.Chains.{Chain, Location}
use Rattle.zarr_codecs_meaning.specs.Chains.Chain.{vlen}
use Rattle.zarr_codecs_meaning.specs.Encoding.{encoded, last_number, number_cells, unless_none, with_index}
use Rattle.zarr_codecs_meaning.specs.Fits.{fits}
use Rattle.zarr_codecs_meaning.specs.Laws.{IsLawfulChain}
use Rattle.zarr_codecs_meaning.specs.Payloads.{Payload}
use Rattle.zarr_codecs_meaning.specs.Refusals.{offsets_of}
use Rattle.zarr_codecs_meaning.specs.Types.{integer, unsigned, uint8, Cell, is_value, Elements, zero_filled}
use Rattle.zarr_codecs_arrays.specs.Outcomes.{IsValid}
use Rattle.zarr_codecs_arrays.specs.declared.error.CodecError.{CodecError}
use Rattle.zarr_codecs_arrays.specs.declared.error.CodecError.TheVariants as error
use Rattle.zarr_codecs_traits.specs.Arrays.{coded}
use Rattle.zarr_codecs_traits.specs.Outcomes.{Encodes}
use Rattle.zarr_codecs_sections.specs.Laws.{content_of}
use Rattle.zarr_codecs_sections.proofs.Joined.{variable_is_encoded, vlen_is_refused}
use Rattle.zarr_codecs_chains.specs.Inside.{MakesContent, MakesInner}
use Rattle.zarr_codecs_chains.proofs.OptionalEncoding.{makes_encodes}

-- what it makes of them joined
pub vlen_encodes : (index «data» : Chain) (width : ℕ) (location : Location) (elements : Elements) (shape : List ℕ) (payload : Payload) (cells : List Cell) (front back : List ℕ) (value : Vec ℕ Global) → let chain = vlen index «data» width location in
    IsLawfulChain chain → is_value elements.type elements.fill ≡ true → fits chain elements.type shape ≡ true → IsValid elements.type payload (product shape) cells → nat_lt (last_number 0 (offsets_of cells)) (2 ^ width) ≡ true
    → encoded index (zero_filled (integer unsigned width)) ((product shape + 1) ∷ []) (number_cells width (offsets_of cells)) ≡ Some front
    → unless_none (content_of cells) (encoded «data» (zero_filled uint8) (length (content_of cells) ∷ []) (content_of cells)) ≡ Some back → with_index location front back ≡ Some value.items → Encodes (coded chain elements shape) true payload (Ok value)
vlen_encodes index «data» width location elements shape payload cells front back value lawful fill fit valid near front_is back_is joined =
    makes_encodes (vlen index «data» width location) elements shape payload cells (Ok value) lawful fill fit refl valid
    (variable_is_encoded (encoded index (zero_filled (integer unsigned width)) ((product shape + 1) ∷ [])) (λ content. encoded «data» (zero_filled uint8) (length content ∷ []) content) width location cells front back value.items near front_is back_is joined)

-- what the chain of the index refuses
pub index_unmade : (index «data» : Chain) (width : ℕ) (location : Location) (elements : Elements) (shape : List ℕ) (payload : Payload) (cells : List Cell) (e : CodecError) → let chain = vlen index «data» width location in
    fits chain elements.type shape ≡ true → IsValid elements.type payload (product shape) cells → MakesInner index (zero_filled (integer unsigned width)) ((product shape + 1) ∷ []) (number_cells width (offsets_of cells)) (Err e)
    → Encodes (coded chain elements shape) true payload (Err e)
index_unmade index «data» width location elements shape payload cells error.Codec fit valid h = (cells, record { valid = valid; fit = fit; is = (vlen_is_refused index «data» width location elements shape cells).index_refuses h })
index_unmade index «data» width location elements shape payload cells error.Size fit valid h = inr (cells, record { valid = valid; fit = fit; is = (vlen_is_refused index «data» width location elements shape cells).index_passes h })
index_unmade index «data» width location elements shape payload cells error.Memory fit valid h = tt
index_unmade index «data» width location elements shape payload cells e fit valid h = absurd h

-- what the chain of the data refuses
pub content_unmade : (index «data» : Chain) (width : ℕ) (location : Location) (elements : Elements) (shape : List ℕ) (payload : Payload) (cells : List Cell) (e : CodecError) → let chain = vlen index «data» width location in
    fits chain elements.type shape ≡ true → IsValid elements.type payload (product shape) cells → MakesContent «data» cells (Err e) → Encodes (coded chain elements shape) true payload (Err e)
content_unmade index «data» width location elements shape payload cells error.Codec fit valid h = (cells, record { valid = valid; fit = fit; is = (vlen_is_refused index «data» width location elements shape cells).content_refuses h.0 h.1 })
content_unmade index «data» width location elements shape payload cells error.Size fit valid h = inr (cells, record { valid = valid; fit = fit; is = (vlen_is_refused index «data» width location elements shape cells).content_passes h.0 h.1 })
content_unmade index «data» width location elements shape payload cells error.Memory fit valid h = tt
content_unmade index «data» width location elements shape payload cells e fit valid h = absurd h
