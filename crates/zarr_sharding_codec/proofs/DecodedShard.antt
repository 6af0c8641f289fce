-- A shard decoded subchunk by subchunk.
use Rattle.std.proofs.Common.{◌≡◌, ◌∙◌, ℕ, ◌+◌, ◌%◌, ◌<◌, List, length, get_or, ap, sym, subst, arith, Option, Some, None, option_and_then, true, Result, Ok, Err}
use Rattle.zarr_grids_boxes.specs.Boxes.{product}
use Rattle.zarr_codecs_meaning.specs.Chains.{Chain, Location, sharded}
use Rattle.zarr_codecs_meaning.specs.Encoding.{Pair, absent_pair}
use Rattle.zarr_codecs_meaning.specs.Fits.{fits}
use Rattle.zarr_codecs_meaning.specs.Places.{Part, index_shape, parts_of}
use Rattle.zarr_codecs_meaning.specs.Types.{Cell, DataType, Elements}
use Rattle.zarr_codecs_meaning.proofs.Parts.{index_product, length-parts, no_part}
use Rattle.zarr_codecs_regions.specs.Updates.{put}
use Rattle.zarr_codecs_arrays.specs.declared.array_bytes.ArrayBytes.{ArrayBytes}
use Rattle.zarr_codecs_arrays.specs.declared.error.CodecError.{CodecError}
use Rattle.zarr_codecs_arrays.specs.declared.error.CodecError.TheVariants as error
use Rattle.zarr_codecs_traits.specs.Arrays.{coded}
use Rattle.zarr_codecs_traits.specs.Outcomes.{Decodes}
use Rattle.zarr_sharding_index.specs.HeldIndex.{DecodesIndex, IsIndexHeld}
use Rattle.zarr_sharding_places.specs.Locating.{part_shape}
use Rattle.zarr_sharding_places.specs.Pieces.{piece_decoded, shard_decoded}
use Rattle.zarr_sharding_places.proofs.PutPlaces.{length-put}
use Rattle.zarr_sharding_places.proofs.ReadPieces.{ShowsPieces, lost_shard, piece_count, show_more}
use Rattle.zarr_sharding_codec.specs.Fitting.{Suits}
use Rattle.zarr_sharding_codec.specs.Reading.{DecodesPieces, Lists, subchunks_of}
use Rattle.zarr_sharding_codec.proofs.NumberedParts.{part_at, part_fewer, part_is, part_number}
use Rattle.zarr_sharding_codec.proofs.StoredLoop.{IsSubchunk, too_large}

subchunk_number : (shape subchunk : List ℕ) (n : ℕ) → IsSubchunk shape subchunk n → n < length (parts_of shape subchunk)
subchunk_number shape subchunk n is = let count = length-parts shape subchunk in let below = is.below in omega (arith, count, below)

subchunk_shape : (shape subchunk : List ℕ) (n : ℕ) → IsSubchunk shape subchunk n → (get_or (parts_of shape subchunk) n no_part).shape ≡ part_shape shape subchunk n
subchunk_shape shape subchunk n is = part_is shape subchunk n no_part (subchunk_number shape subchunk n is)

-- an array that a shard suits
pub suits_fit : (chain : Chain) (type : DataType) (shape : List ℕ) (found : Option ℕ) (size : ℕ) → found ≡ Some size → Suits chain type shape found → fits chain type shape ≡ true
suits_fit chain type shape None size is suits = cc
suits_fit chain type shape (Some n) size is suits = suits.0

-- cells after one subchunk more was put among them
pub record IsStep (inner : Chain) (elements : Elements) (shape subchunk value : List ℕ) (pairs : List Pair) (n : ℕ) (numbers : List ℕ) (cells piece : List Cell) : Type 0 where
  pub many : length piece ≡ length numbers
  pub whole : length (put numbers piece cells) ≡ product shape
  pub shows : ShowsPieces inner elements value (parts_of shape subchunk) pairs (put numbers piece cells) (n + 1)

pub decode_step : (inner : Chain) (elements : Elements) (shape subchunk value : List ℕ) (pairs : List Pair) (n : ℕ) (numbers : List ℕ) (cells piece : List Cell) → IsSubchunk shape subchunk n → numbers ≡ (part_at shape subchunk n).places
    → piece_decoded inner elements value (part_shape shape subchunk n) (get_or pairs n absent_pair) ≡ Some piece → length cells ≡ product shape → ShowsPieces inner elements value (parts_of shape subchunk) pairs cells n → IsStep inner elements shape subchunk value pairs n numbers cells piece
decode_step inner elements shape subchunk value pairs n numbers cells piece is are read whole shows =
    let parts = parts_of shape subchunk in
    let low = subchunk_number shape subchunk n is in
    let places : numbers ≡ (get_or parts n no_part).places = are ∙ ap (λ (part : Part). part.places) (sym (part_number shape subchunk n no_part is.below)) in
    let here : piece_decoded inner elements value (get_or parts n no_part).shape (get_or pairs n absent_pair) ≡ Some piece =
    ap (λ (s : List ℕ). piece_decoded inner elements value s (get_or pairs n absent_pair)) (subchunk_shape shape subchunk n is) ∙ read in
    let count = piece_count inner elements shape subchunk value pairs piece n is.cuts low here in
    record {
      many = count ∙ ap (λ (ns : List ℕ). length ns) (sym places);
      whole = length-put numbers piece cells ∙ whole;
      shows = subst (λ (ns : List ℕ). ShowsPieces inner elements value parts pairs (put ns piece cells) (n + 1)) (sym places) (show_more inner elements shape subchunk value pairs cells piece n is.cuts low whole count here shows);
    }

-- a subchunk that isn't decoded
pub decode_lost : (inner : Chain) (elements : Elements) (shape subchunk value : List ℕ) (pairs : List Pair) (n : ℕ) (e : CodecError) → IsSubchunk shape subchunk n → Lists elements (part_shape shape subchunk n) (piece_decoded inner elements value (part_shape shape subchunk n) (get_or pairs n absent_pair)) (Err e)
    → DecodesPieces (subchunks_of inner elements shape subchunk) value pairs (Err e)
decode_lost inner elements shape subchunk value pairs n error.Damage is lost =
    lost_shard inner elements shape subchunk value pairs n (subchunk_number shape subchunk n is) (ap (λ (s : List ℕ). piece_decoded inner elements value s (get_or pairs n absent_pair)) (subchunk_shape shape subchunk n is) ∙ lost)
decode_lost inner elements shape subchunk value pairs n error.Size is large = too_large elements.type (product (part_shape shape subchunk n)) (product shape) (part_fewer shape subchunk n is.cuts) large
decode_lost inner elements shape subchunk value pairs n error.Memory is h = tt
decode_lost inner elements shape subchunk value pairs n error.Fit is h = h
decode_lost inner elements shape subchunk value pairs n error.Codec is h = h
decode_lost inner elements shape subchunk value pairs n error.Source is h = h
decode_lost inner elements shape subchunk value pairs n error.IncompatibleIndexer is h = h
decode_lost inner elements shape subchunk value pairs n error.Unsupported is h = h
decode_lost inner elements shape subchunk value pairs n (error.Other text) is h = h
decode_lost inner elements shape subchunk value pairs n error.ExpectedFixedLengthBytes is h = h
decode_lost inner elements shape subchunk value pairs n error.ExpectedVariableLengthBytes is h = h
decode_lost inner elements shape subchunk value pairs n error.ExpectedOptionalBytes is h = h
decode_lost inner elements shape subchunk value pairs n error.InvalidNumberOfElements is h = h
decode_lost inner elements shape subchunk value pairs n error.CellOutOfRange is h = h

-- ---- the whole shard

-- the index has a pair for each subchunk
pub pair_count : (index : Chain) (location : Location) (shape subchunk value : List ℕ) (pairs : List Pair) → IsIndexHeld index location (index_shape shape subchunk) value pairs → length pairs ≡ length (parts_of shape subchunk)
pair_count index location shape subchunk value pairs held =
    let two = index_product shape subchunk in
    let many = held.many in
    omega (arith, two, many)

pub even_index : (shape subchunk : List ℕ) → product (index_shape shape subchunk) % 2 ≡ 0
even_index shape subchunk = let two = index_product shape subchunk in omega (arith, two)

pub shard_read : (subchunk : List ℕ) (inner index : Chain) (location : Location) (elements : Elements) (shape value : List ℕ) (pairs : List Pair) (result : Result ArrayBytes CodecError) → fits (sharded subchunk inner index location) elements.type shape ≡ true
    → IsIndexHeld index location (index_shape shape subchunk) value pairs → DecodesPieces (subchunks_of inner elements shape subchunk) value pairs result → Decodes (coded (sharded subchunk inner index location) elements shape) value result
shard_read subchunk inner index location elements shape value pairs (Ok bytes) fit held found = record {
  cells = found.cells;
  fit = fit;
  lists = found.lists;
  is = ap (option_and_then (shard_decoded (subchunks_of inner elements shape subchunk) value)) held.is ∙ found.is;
}
shard_read subchunk inner index location elements shape value pairs (Err error.Damage) fit held found = (fit, ap (option_and_then (shard_decoded (subchunks_of inner elements shape subchunk) value)) held.is ∙ found)
shard_read subchunk inner index location elements shape value pairs (Err error.Size) fit held found = found
shard_read subchunk inner index location elements shape value pairs (Err error.Memory) fit held found = tt
shard_read subchunk inner index location elements shape value pairs (Err error.Fit) fit held found = elim found [ ]
shard_read subchunk inner index location elements shape value pairs (Err error.Codec) fit held found = found
shard_read subchunk inner index location elements shape value pairs (Err error.Source) fit held found = found
shard_read subchunk inner index location elements shape value pairs (Err error.IncompatibleIndexer) fit held found = found
shard_read subchunk inner index location elements shape value pairs (Err error.Unsupported) fit held found = found
shard_read subchunk inner index location elements shape value pairs (Err (error.Other text)) fit held found = found
shard_read subchunk inner index location elements shape value pairs (Err error.ExpectedFixedLengthBytes) fit held found = found
shard_read subchunk inner index location elements shape value pairs (Err error.ExpectedVariableLengthBytes) fit held found = found
shard_read subchunk inner index location elements shape value pairs (Err error.ExpectedOptionalBytes) fit held found = found
shard_read subchunk inner index location elements shape value pairs (Err error.InvalidNumberOfElements) fit held found = found
shard_read subchunk inner index location elements shape value pairs (Err error.CellOutOfRange) fit held found = found

pub shard_unread : (subchunk : List ℕ) (inner index : Chain) (location : Location) (elements : Elements) (shape value : List ℕ) (e : CodecError) → fits (sharded subchunk inner index location) elements.type shape ≡ true
    → DecodesIndex index location (index_shape shape subchunk) value (Err e) → Decodes (coded (sharded subchunk inner index location) elements shape) value (Err e)
shard_unread subchunk inner index location elements shape value error.Damage fit found = (fit, ap (option_and_then (shard_decoded (subchunks_of inner elements shape subchunk) value)) found)
shard_unread subchunk inner index location elements shape value error.Memory fit found = tt
shard_unread subchunk inner index location elements shape value error.Size fit found = elim found [ ]
shard_unread subchunk inner index location elements shape value error.Fit fit found = elim found [ ]
shard_unread subchunk inner index location elements shape value error.Codec fit found = found
shard_unread subchunk inner index location elements shape value error.Source fit found = found
shard_unread subchunk inner index location elements shape value error.IncompatibleIndexer fit found = found
shard_unread subchunk inner index location elements shape value error.Unsupported fit found = found
shard_unread subchunk inner index location elements shape value (error.Other text) fit found = found
shard_unread subchunk inner index location elements shape value error.ExpectedFixedLengthBytes fit found = found
shard_unread subchunk inner index location elements shape value error.ExpectedVariableLengthBytes fit found = found
shard_unread subchunk inner index location elements shape value error.ExpectedOptionalBytes fit found = found
shard_unread subchunk inner index location elements shape value error.InvalidNumberOfElements fit found = found
shard_unread subchunk inner index location elements shape value error.CellOutOfRange fit found = found
