-- The index of the shard that a source holds.
use Rattle.std.proofs.Common.{◌≡◌, ◌∙◌, ℕ, ◌+◌, ◌≤◌, List, length, take, drop, ap, sym, subst, arith, refl, Option, Some, None, option_map, Bool, if◌then◌else◌, Err}
use Rattle.std.proofs.lemmas.Bool.{le-leb}
use Rattle.zarr_codecs_meaning.specs.Chains.{Chain, Location}
use Rattle.zarr_codecs_meaning.specs.Decoding.{decoded, index_bytes, pairs_of_cells, slice_at}
use Rattle.zarr_codecs_meaning.specs.Encoding.{Pair, index_size}
use Rattle.zarr_codecs_meaning.specs.Types.{uint64, zero_filled}
use Rattle.zarr_codecs_meaning.proofs.Lists.{some_same}
use Rattle.zarr_codecs_arrays.specs.declared.error.CodecError.{CodecError}
use Rattle.zarr_codecs_arrays.specs.declared.error.CodecError.TheVariants as error
use Rattle.zarr_sharding_index.specs.HeldIndex.{AreHeldPairs, FetchRefused, FetchesSlice, IsFetched, IsIndexHeld, IsWholeFetched}
use Rattle.zarr_sharding_index.specs.Stored.{IsIndexRead}
use Rattle.zarr_sharding_index.specs.Present.{all_pairs}
use Rattle.zarr_sharding_index.specs.Views.{pairs_of}
use Rattle.zarr_sharding_index.specs.declared.fetched_index.WholeIndex.{WholeIndex}
use Rattle.zarr_sharding_index.specs.declared.present.PresentPairs.{PresentPairs}

-- the bytes of a pair that ends within the value
slice_within : (value bytes : List ℕ) (pair : Pair) → pair.0 + pair.1 ≤ length value → slice_at value pair ≡ Some bytes → take pair.1 (drop pair.0 value) ≡ bytes
slice_within value bytes pair within is =
    let slice = take pair.1 (drop pair.0 value) in
    some_same (sym (ap (λ (b : Bool). if b then Some slice else None) (le-leb (pair.0 + pair.1) (length value) within)) ∙ is)

-- the pairs that are decoded from the index's bytes are those of the shard
pub index_held : (index : Chain) (location : Location) (shape value bytes : List ℕ) (size : ℕ) (pairs : List Pair) → size ≡ index_size index shape → size ≤ length value → index_bytes location size value ≡ bytes
    → IsIndexRead index shape bytes pairs → IsIndexHeld index location shape value pairs
index_held index location shape value bytes size pairs same fits are read =
    let n = index_size index shape in
    let read_from = λ (b : List ℕ). option_map pairs_of_cells (decoded index (zero_filled uint64) shape b) in
    record {
      is = ap (λ (b : Bool). if b then read_from (index_bytes location n value) else None) (le-leb n (length value) (omega (arith, same, fits)))
          ∙ (ap (λ m. read_from (index_bytes location m value)) (sym same) ∙ (ap read_from are ∙ read.is));
      many = read.many;
    }

pub index_fetched : (index : Chain) (location : Location) (shape bytes : List ℕ) (size : ℕ) (pair : Pair) (contents : Option (List ℕ)) (found : WholeIndex) → Some found.total ≡ option_map length contents → size ≡ index_size index shape → size ≤ found.total
    → pair.0 + pair.1 ≤ found.total → ((value : List ℕ) → length value ≡ found.total → take pair.1 (drop pair.0 value) ≡ index_bytes location size value)
    → ((value : List ℕ) → contents ≡ Some value → length value ≡ found.total → slice_at value pair ≡ Some bytes) → IsIndexRead index shape bytes (pairs_of found.index) → IsWholeFetched index location shape contents (Some found)
index_fetched index location shape bytes size pair None found long same fits within range slice read = cc
index_fetched index location shape bytes size pair (Some value) found long same fits within range slice read =
    let many : found.total ≡ length value = some_same long in
    let are = slice_within value bytes pair (omega (arith, many, within)) (slice value refl (sym many)) in
    (index_held index location shape value bytes size (pairs_of found.index) same (omega (arith, many, fits)) (sym (range value (sym many)) ∙ are) read, many)

-- of the full index the pairs of present subchunks are kept
pub present_fetched : (index : Chain) (location : Location) (shape : List ℕ) (contents : Option (List ℕ)) (whole : WholeIndex) (kept : PresentPairs) → all_pairs kept ≡ pairs_of whole.index → IsWholeFetched index location shape contents (Some whole)
    → IsFetched index location shape contents (Some (record { pairs = kept; total = whole.total }))
present_fetched index location shape contents whole kept same = subst (λ (pairs : List Pair). AreHeldPairs index location shape contents (Some (pairs, whole.total))) (sym same)

-- a pair that ends within the value has a slice
some_slice : (value : List ℕ) (pair : Pair) → pair.0 + pair.1 ≤ length value → slice_at value pair ≡ None → ⊥
some_slice value pair within none =
    let slice = take pair.1 (drop pair.0 value) in
    let some : slice_at value pair ≡ Some slice = ap (λ (b : Bool). if b then Some slice else None) (le-leb (pair.0 + pair.1) (length value) within) in cc

-- why no index is fetched where its bytes aren't
unfetched : (index : Chain) (location : Location) (shape value : List ℕ) (pair : Pair) (e : CodecError) → pair.0 + pair.1 ≤ length value → FetchesSlice value pair (Err e) → FetchRefused index location shape (Some value) e
unfetched index location shape value pair error.Damage within refused = absurd (some_slice value pair within refused)
unfetched index location shape value pair error.Source within refused = tt
unfetched index location shape value pair error.Memory within refused = tt
unfetched index location shape value pair error.Fit within refused = refused
unfetched index location shape value pair error.Codec within refused = refused
unfetched index location shape value pair error.Size within refused = refused
unfetched index location shape value pair error.IncompatibleIndexer within refused = refused
unfetched index location shape value pair error.Unsupported within refused = refused
unfetched index location shape value pair (error.Other text) within refused = refused
unfetched index location shape value pair error.ExpectedFixedLengthBytes within refused = refused
unfetched index location shape value pair error.ExpectedVariableLengthBytes within refused = refused
unfetched index location shape value pair error.ExpectedOptionalBytes within refused = refused
unfetched index location shape value pair error.InvalidNumberOfElements within refused = refused
unfetched index location shape value pair error.CellOutOfRange within refused = refused

pub index_unfetched : (index : Chain) (location : Location) (shape : List ℕ) (total : ℕ) (pair : Pair) (contents : Option (List ℕ)) (e : CodecError) → Some total ≡ option_map length contents → pair.0 + pair.1 ≤ total
    → ((value : List ℕ) → contents ≡ Some value → length value ≡ total → FetchesSlice value pair (Err e)) → FetchRefused index location shape contents e
index_unfetched index location shape total pair None e long within slice = cc
index_unfetched index location shape total pair (Some value) e long within slice =
    let many : total ≡ length value = some_same long in
    unfetched index location shape value pair e (omega (arith, many, within)) (slice value refl (sym many))
