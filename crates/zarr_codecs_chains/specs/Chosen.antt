-- Elements below a mask, of which some are encoded.
use Rattle.std.specs.Prelude.{◌≡◌, ℕ, List, [], ◌∷◌, Result, Vec, true}
use Rattle.std.specs.List.{list_all}
use Rattle.std.specs.declared.alloc.Global.{Global}
use Rattle.zarr_codecs_meaning.specs.Chains.{Chain}
use Rattle.zarr_codecs_meaning.specs.Decoding.{decoded}
use Rattle.zarr_codecs_meaning.specs.Fits.{fits, takes_each_shape}
use Rattle.zarr_codecs_meaning.specs.Payloads.{Payload}
use Rattle.zarr_codecs_meaning.specs.Types.{DataType, Cell, is_value, zero_filled}
use Rattle.zarr_codecs_types.specs.Views.{type_of}
use Rattle.zarr_codecs_arrays.specs.declared.array_bytes.ArrayBytes.{ArrayBytes}
use Rattle.zarr_codecs_arrays.specs.declared.error.CodecError.{CodecError}
use Rattle.zarr_codecs_sections.specs.Marks.{AreMarked, count_ones}
use Rattle.zarr_codecs_chains.specs.Inside.{FindsMarked, MakesInner}
use Rattle.zarr_codecs_chains.specs.declared.chosen.Chosen.{Chosen}

-- the type of the elements
abbrev pub chosen_type : Chosen → DataType
chosen_type chosen = type_of chosen.data_type.now

-- the number of those that are encoded is that of the marks that are 1
abbrev pub AreCounted : Chosen → Type 0
AreCounted chosen = chosen.count ≡ count_ones chosen.marks.now

-- cells are those elements of a payload that are encoded, and values
pub record AreChosen (chosen : Chosen) (cells : List Cell) (payload : Payload) : Type 0 where
  pub marked : AreMarked (chosen_type chosen) chosen.marks.now cells payload
  pub values : list_all (is_value (chosen_type chosen)) cells ≡ true

-- a chain does the same for each shape, and suits arrays of the type
pub record SuitsChosen (chain : Chain) (chosen : Chosen) : Type 0 where
  pub takes : takes_each_shape chain ≡ true
  pub fit : fits chain (chosen_type chosen) (0 ∷ []) ≡ true

-- what a chain makes of the elements that are encoded, or why it makes nothing
abbrev pub MakesChosen : Chain → Chosen → List Cell → Result (Vec ℕ Global) CodecError → Type 0
MakesChosen chain chosen cells result = MakesInner chain (zero_filled (chosen_type chosen)) (chosen.count ∷ []) cells result

-- what a chain decodes a value to, put to where marks are 1, or that it decodes it to nothing
abbrev pub FindsChosen : Chain → Chosen → List ℕ → Result ArrayBytes CodecError → Type 0
FindsChosen chain chosen value result = FindsMarked (decoded chain (zero_filled (chosen_type chosen)) (chosen.count ∷ []) value) (chosen_type chosen) chosen.marks.now result
