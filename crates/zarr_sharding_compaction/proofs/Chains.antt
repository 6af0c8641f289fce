-- What compaction made of a value of a chain gains nothing by another one.
use Rattle.std.proofs.Common.{◌≡◌, ℕ, List, Option, None, Some, Bool, true, false, ◌&&◌, ◌∙◌, ap, refl, sym, if◌then◌else◌}
use Rattle.std.specs.Prelude.{is_some, not}
use Rattle.std.specs.List.{list_all}
use Rattle.std.proofs.lemmas.Bool.{and_parts}
use Rattle.zarr_codecs_meaning.specs.Chains.{ByteCodec, Chain}
use Rattle.zarr_codecs_meaning.specs.Chains.Chain.{bytes, packbits, vlen, optional, after_array_codec, then_bytes, sharded}
use Rattle.zarr_codecs_meaning.specs.Fits.{array_codec_fits, can_cut, fits, is_lossless, is_plain, keeps_indices}
use Rattle.zarr_codecs_meaning.specs.Laws.{IsLawful, IsLawfulChain}
use Rattle.zarr_codecs_meaning.specs.Places.{Part, encoded_shape, index_shape, parts_of}
use Rattle.zarr_codecs_meaning.specs.Types.{DataType, inner_type, uint64}
use Rattle.zarr_sharding_changes.specs.Compactions.{Compaction, compacted_to, compaction, damaged, encoded_again, nothing_to_gain, refused, too_long, undone_compaction}
use Rattle.zarr_sharding_index.specs.Stored.{index_fits}
use Rattle.zarr_sharding_compaction.proofs.Once.{compacted_once, unless_is}

-- ---- bytes codecs after a chain

-- what a codec made of what compaction made
again_is : (codec : ByteCodec) (what : Compaction) (made : List ℕ) → encoded_again codec what ≡ compacted_to made → (inside : List ℕ) × (what ≡ compacted_to inside) × (codec.encode inside ≡ Some made)
again_is codec nothing_to_gain made h = absurd (cc)
again_is codec (compacted_to inside) made h = (inside, refl, unless_is (codec.encode inside) made h)
again_is codec damaged made h = absurd (cc)
again_is codec refused made h = absurd (cc)
again_is codec too_long made h = absurd (cc)

-- what compaction made of what the codec was given
undone_is : (codec : ByteCodec) (found : Option (List ℕ)) (compacts : List ℕ → Compaction) (made : List ℕ) → (elim found [ None ↦ damaged | Some given ↦ encoded_again codec (compacts given) ]) ≡ compacted_to made
    → (given : List ℕ) × (inside : List ℕ) × (compacts given ≡ compacted_to inside) × (codec.encode inside ≡ Some made)
undone_is codec None compacts made h = absurd (cc)
undone_is codec (Some given) compacts made h = let was = again_is codec (compacts given) made h in (given, was.0, was.1, was.2)

once_with : (chain : Chain) (codec : ByteCodec) (shape value made : List ℕ) (plain : Bool) → is_plain chain ≡ plain → IsLawful codec
    → ((given inside : List ℕ) → compaction chain shape given ≡ compacted_to inside → compaction chain shape inside ≡ nothing_to_gain)
    → compaction (then_bytes chain codec) shape value ≡ compacted_to made → compaction (then_bytes chain codec) shape made ≡ nothing_to_gain
once_with chain codec shape value made true is lawful once h = ap (λ (b : Bool). if b then nothing_to_gain else undone_compaction codec (compaction chain shape) made) is
once_with chain codec shape value made false is lawful once h =
    let was = undone_is codec (codec.decode value) (compaction chain shape) made (sym (ap (λ (b : Bool). if b then nothing_to_gain else undone_compaction codec (compaction chain shape) value) is) ∙ h) in
    ap (λ (b : Bool). if b then nothing_to_gain else undone_compaction codec (compaction chain shape) made) is
    ∙ (ap (λ (o : Option (List ℕ)). elim o [ None ↦ damaged | Some given ↦ encoded_again codec (compaction chain shape given) ]) (lawful.undoes was.1 made was.3)
    ∙ ap (encoded_again codec) (once was.0 was.1 was.2))

-- ---- the index of a shard

-- a shard fits where its index does, among others
shard_index_fits : (subchunk : List ℕ) (index : Chain) (shape : List ℕ) (b c d : Bool) → b && (c && (d && index_fits index (index_shape shape subchunk))) ≡ true → index_fits index (index_shape shape subchunk) ≡ true
shard_index_fits subchunk index shape b c d h =
    let last = index_fits index (index_shape shape subchunk) in
    (and_parts d last (and_parts c (d && last) (and_parts b (c && (d && last)) h).1).1).1

-- ---- chains

pub chain_compacted_once : (chain : Chain) (type : DataType) (shape value made : List ℕ) → IsLawfulChain chain → fits chain type shape ≡ true → keeps_indices chain ≡ true
    → compaction chain shape value ≡ compacted_to made → compaction chain shape made ≡ nothing_to_gain
chain_compacted_once (bytes order) type shape value made lawful fit keeps h = refl
chain_compacted_once (packbits padding first last) type shape value made lawful fit keeps h = refl
chain_compacted_once (vlen index «data» width location) type shape value made lawful fit keeps h = refl
chain_compacted_once (optional mask values) type shape value made lawful fit keeps h = refl
chain_compacted_once (after_array_codec codec chain) type shape value made lawful fit keeps h =
    chain_compacted_once chain type (encoded_shape codec shape) value made lawful (and_parts (array_codec_fits codec shape) (fits chain type (encoded_shape codec shape)) fit).1 keeps h
chain_compacted_once (then_bytes chain codec) type shape value made lawful fit keeps h =
    once_with chain codec shape value made (is_plain chain) refl lawful.1 (λ given inside was. chain_compacted_once chain type shape given inside lawful.0 fit keeps was) h
chain_compacted_once (sharded subchunk inner index location) type shape value made lawful fit keeps h =
    let index_fit = shard_index_fits subchunk index shape (not (is_some (inner_type type))) (can_cut shape subchunk)
    (list_all (λ (part : Part). fits inner type part.shape) (parts_of shape subchunk)) fit in
    compacted_once subchunk index location shape value made lawful.1 index_fit (and_parts (keeps_indices inner) (is_lossless index uint64) keeps).1 h
