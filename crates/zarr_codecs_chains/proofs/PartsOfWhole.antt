-- The elements at the places that are asked for, of a value that is decoded whole.
use Rattle.std.proofs.Common.{◌≡◌, ℕ, List, refl, Option, Some, None, is_some, true, if◌then◌else◌, Err}
use Rattle.zarr_codecs_meaning.specs.Types.{Elements, Cell}
use Rattle.zarr_codecs_meaning.specs.Chains.{Chain}
use Rattle.zarr_codecs_meaning.specs.Chains.Chain.{bytes, packbits, vlen, optional, after_array_codec, then_bytes, sharded}
use Rattle.zarr_codecs_meaning.specs.Decoding.{decoded, part_decoded}
use Rattle.zarr_codecs_arrays.specs.declared.array_bytes.ArrayBytes.{ArrayBytes}
use Rattle.zarr_codecs_arrays.specs.declared.error.CodecError.{CodecError}
use Rattle.zarr_codecs_arrays.specs.declared.error.CodecError.TheVariants as error
use Rattle.zarr_codecs_traits.specs.Indexers.{Asked, are_inside, numbers_asked}
use Rattle.zarr_codecs_traits.specs.Arrays.{coded}
use Rattle.zarr_codecs_traits.specs.Outcomes.{Decodes, DecodesPart}
use Rattle.zarr_codecs_traits.specs.Sources.{refused_after}
use Rattle.zarr_codecs_chains.specs.Selecting.{reads_whole}

-- where nothing is decoded, nothing is read
closed : (o : Option (List Cell)) (found : Option (List Cell)) → o ≡ None → (if is_some o then found else None) ≡ None
closed None found h = refl
closed (Some cells) found h = absurd (cc)

none_read : (chain : Chain) (elements : Elements) (shape value ns : List ℕ) → reads_whole chain ≡ true → decoded chain elements shape value ≡ None → part_decoded chain elements shape value ns ≡ None
none_read (bytes order) elements shape value ns whole h = absurd (cc)
none_read (packbits padding first last) elements shape value ns whole h = absurd (cc)
none_read (vlen index «data» width location) elements shape value ns whole h = closed (decoded (vlen index «data» width location) elements shape value) _ h
none_read (optional mask values) elements shape value ns whole h = closed (decoded (optional mask values) elements shape value) _ h
none_read (after_array_codec codec chain) elements shape value ns whole h = absurd (cc)
none_read (then_bytes chain codec) elements shape value ns whole h = absurd (cc)
none_read (sharded subchunk inner index location) elements shape value ns whole h = absurd (cc)

-- what is not decoded whole is not read in part, for the same reason
pub part_undecoded : (chain : Chain) (elements : Elements) (shape value : List ℕ) (asked : Asked) (e : CodecError) → reads_whole chain ≡ true → are_inside shape asked ≡ true
    → Decodes (coded chain elements shape) value (Err e) → DecodesPart (coded chain elements shape) (Some value) asked (Err e)
part_undecoded chain elements shape value asked error.Fit whole inside h = h
part_undecoded chain elements shape value asked error.Damage whole inside h = (h.0, inside, none_read chain elements shape value (numbers_asked shape asked) whole h.1)
part_undecoded chain elements shape value asked error.Size whole inside h = h
part_undecoded chain elements shape value asked error.Memory whole inside h = tt
part_undecoded chain elements shape value asked e whole inside h = absurd h

-- such a decoding calls no source
pub undecoded_source : (chain : Chain) (elements : Elements) (shape value : List ℕ) (e : CodecError) (count : ℕ) → Decodes (coded chain elements shape) value (Err e) → refused_after {A = ArrayBytes} count (Err e) ≡ count
undecoded_source chain elements shape value error.Fit count h = refl
undecoded_source chain elements shape value error.Damage count h = refl
undecoded_source chain elements shape value error.Size count h = refl
undecoded_source chain elements shape value error.Memory count h = refl
undecoded_source chain elements shape value e count h = absurd h
