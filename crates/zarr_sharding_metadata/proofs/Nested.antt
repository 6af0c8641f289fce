-- Chains in which a shard stands.
use Rattle.std.proofs.Common.{◌≡◌, ◌∙◌, ℕ, zero, suc, List, [], ◌∷◌, codes, bytes_eq, Bool, true, false, ◌&&◌, if◌then◌else◌, ap, sym, refl, Option, Some, None, option_map, option_and_then}
use Rattle.std.proofs.lemmas.Slice.Eq.{bytes_eq-Decides}
use Rattle.serde_json.specs.Data.{Data, Members}
use Rattle.zarr_grids_metadata.specs.ExtensionPoints.{ExtensionPoint, configuration_members}
use Rattle.zarr_codecs_meaning.specs.Chains.{ArrayCodec, ByteCodec, Chain, Location}
use Rattle.zarr_codecs_meaning.specs.Chains.Chain.{after_array_codec, sharded, then_bytes}
use Rattle.zarr_codecs_metadata.specs.Allowed.{allowed, is_allowed}
use Rattle.zarr_codecs_metadata.specs.ArrayCodecs.{array_codec_in}
use Rattle.zarr_codecs_metadata.specs.Chains.{ReadsCodec, ReadsCodecs, allowed_chain, array_to_bytes_in, array_to_bytes_within, bytes_chain_by, bytes_of, chain_by, chain_of, listed_chain_by, point_depth, with_byte_codecs}
use Rattle.zarr_codecs_metadata.specs.PackBits.{packbits_of}
use Rattle.zarr_codecs_metadata.specs.Sections.{names_optional, names_vlen, optional_of, vlen_of}
use Rattle.zarr_sharding_metadata.specs.Metadata.{ShardPoints, array_to_bytes_of, chain_within, names_shard, shard_of, shard_points_in, sharding_of}
use Rattle.zarr_sharding_metadata.specs.Nesting.{inner_points, points_inside, shard_in, shard_stands, sharded_chain_of}

-- what extension points say, by what the first one is as an array codec
abbrev said_at : ReadsCodecs → ReadsCodec → ExtensionPoint → List ExtensionPoint → Option ArrayCodec → Option Chain
said_at reads codec point points o = elim o [ Some first ↦ option_map (after_array_codec first) (chain_by reads codec points) | None ↦ bytes_chain_by reads codec (point ∷ points) ]

-- whether a shard is named, by the same
abbrev stands_at : ExtensionPoint → List ExtensionPoint → Option ArrayCodec → Bool
stands_at point points o = elim o [ Some codec ↦ shard_stands points | None ↦ names_shard point.name ]

-- ---- no shard is named

-- a codec that is none of a shard is what it is without shards
not_shard : (reads : ReadsCodecs) (shards : ℕ) (point : ExtensionPoint) → names_shard point.name ≡ false → array_to_bytes_of reads shards point ≡ array_to_bytes_in reads point
not_shard reads zero point other = refl
not_shard reads (suc shards) point other =
    ap (λ (b : Bool). if b then sharding_of (chain_by reads (array_to_bytes_of reads shards)) (chain_of reads) (configuration_members point.configuration) else array_to_bytes_in reads point) other

plain_chain : (reads : ReadsCodecs) (shards : ℕ) (points : List ExtensionPoint) → shard_stands points ≡ false → chain_by reads (array_to_bytes_of reads shards) points ≡ chain_of reads points
plain_chain reads shards [] h = refl
plain_chain reads shards (point ∷ points) h = at (array_codec_in point) (λ rest. plain_chain reads shards points rest) h where
  at : (o : Option ArrayCodec) → (shard_stands points ≡ false → chain_by reads (array_to_bytes_of reads shards) points ≡ chain_of reads points) → stands_at point points o ≡ false
      → said_at reads (array_to_bytes_of reads shards) point points o ≡ said_at reads (array_to_bytes_in reads) point points o
  at (Some first) rest h = ap (option_map (after_array_codec first)) (rest h)
  at None rest h = ap (option_and_then (λ chain. with_byte_codecs reads chain points)) (not_shard reads shards point h)

pub plain_said : (reads : ReadsCodecs) (shards : ℕ) (points : List ExtensionPoint) → shard_stands points ≡ false → chain_within reads shards points ≡ allowed_chain reads points
plain_said reads shards points h = ap (option_and_then allowed) (plain_chain reads shards points h)

-- ---- a shard is named

-- the name of a shard is that of no other codec
no_other : (chain : Data → Option Chain) (name : List ℕ) (ms : Members) → names_shard name ≡ true
    → (if bytes_eq name (codes "bytes") then bytes_of ms
    else (if bytes_eq name (codes "packbits") then packbits_of ms
    else (if names_vlen name then vlen_of chain ms
    else (if names_optional name then optional_of chain ms else None)))) ≡ None
no_other chain name ms named =
    ap (λ n. if bytes_eq n (codes "bytes") then bytes_of ms
    else (if bytes_eq n (codes "packbits") then packbits_of ms
    else (if names_vlen n then vlen_of chain ms
    else (if names_optional n then optional_of chain ms else None)))) ((bytes_eq-Decides name (codes "sharding_indexed")).0 named)

no_codec : (reads : ReadsCodecs) (point : ExtensionPoint) → names_shard point.name ≡ true → array_to_bytes_in reads point ≡ None
no_codec reads point named = no_other (listed_chain_by reads (array_to_bytes_within reads (point_depth point))) point.name (configuration_members point.configuration) named

no_chain : (reads : ReadsCodecs) (points : List ExtensionPoint) → shard_stands points ≡ true → chain_of reads points ≡ None
no_chain reads [] h = refl
no_chain reads (point ∷ points) h = at (array_codec_in point) (λ rest. no_chain reads points rest) h where
  at : (o : Option ArrayCodec) → (shard_stands points ≡ true → chain_of reads points ≡ None) → stands_at point points o ≡ true → said_at reads (array_to_bytes_in reads) point points o ≡ None
  at (Some first) rest h = ap (option_map (after_array_codec first)) (rest h)
  at None rest h = ap (option_and_then (λ chain. with_byte_codecs reads chain points)) (no_codec reads point h)

pub none_said : (reads : ReadsCodecs) (points : List ExtensionPoint) → shard_stands points ≡ true → allowed_chain reads points ≡ None
none_said reads points h = ap (option_and_then allowed) (no_chain reads points h)

-- ---- where array codecs may stand is asked before or after a chain is put together

some_again : (o : Option Chain) → o ≡ option_and_then Some o
some_again None = refl
some_again (Some chain) = refl

-- bytes codecs after a chain change nothing of it
allowed_with : (reads : ReadsCodecs) (points : List ExtensionPoint) (chain : Chain) → option_and_then allowed (with_byte_codecs reads chain points) ≡ option_and_then (λ c. with_byte_codecs reads c points) (allowed chain)
allowed_with reads [] chain = some_again (allowed chain)
allowed_with reads (point ∷ points) chain = at (reads point) (λ codec. allowed_with reads points (then_bytes chain codec)) where
  then_with : Option ByteCodec → Chain → Option Chain
  then_with o c = option_and_then (λ codec. with_byte_codecs reads (then_bytes c codec) points) o

  none_with : (b : Bool) → None ≡ option_and_then (then_with None) (if b then Some chain else None)
  none_with true = refl
  none_with false = refl

  some_with : (codec : ByteCodec) (b : Bool) → option_and_then (λ c. with_byte_codecs reads c points) (if b then Some (then_bytes chain codec) else None) ≡ option_and_then (then_with (Some codec)) (if b then Some chain else None)
  some_with codec true = refl
  some_with codec false = refl

  at : (o : Option ByteCodec) → ((codec : ByteCodec) → option_and_then allowed (with_byte_codecs reads (then_bytes chain codec) points) ≡ option_and_then (λ c. with_byte_codecs reads c points) (allowed (then_bytes chain codec)))
      → option_and_then allowed (then_with o chain) ≡ option_and_then (then_with o) (allowed chain)
  at None rest = none_with (is_allowed chain)
  at (Some codec) rest = rest codec ∙ some_with codec (is_allowed chain)

allowed_bytes : (reads : ReadsCodecs) (points : List ExtensionPoint) (o : Option Chain) → option_and_then allowed (option_and_then (λ c. with_byte_codecs reads c points) o) ≡ option_and_then (λ c. with_byte_codecs reads c points) (option_and_then allowed o)
allowed_bytes reads points None = refl
allowed_bytes reads points (Some chain) = allowed_with reads points chain

-- nor do array codecs before it
allowed_after : (first : ArrayCodec) (o : Option Chain) → option_and_then allowed (option_map (after_array_codec first) o) ≡ option_map (after_array_codec first) (option_and_then allowed o)
allowed_after first None = refl
allowed_after first (Some chain) = at (is_allowed chain) where
  at : (b : Bool) → (if b then Some (after_array_codec first chain) else None) ≡ option_map (after_array_codec first) (if b then Some chain else None)
  at true = refl
  at false = refl

-- a shard is allowed where the chains inside of it are
allowed_shard : (subchunk : List ℕ) (location : Location) (i x : Option Chain) →
    option_and_then allowed (option_and_then (λ a. option_map (λ b. sharded subchunk a b location) x) i) ≡ option_and_then (λ a. option_map (λ b. sharded subchunk a b location) (option_and_then allowed x)) (option_and_then allowed i)
allowed_shard subchunk location None x = refl
allowed_shard subchunk location (Some i) None = at (is_allowed i) where
  at : (b : Bool) → None ≡ option_and_then (λ (a : Chain). option_map (λ (b : Chain). sharded subchunk a b location) None) (if b then Some i else None)
  at true = refl
  at false = refl
allowed_shard subchunk location (Some i) (Some x) = at (is_allowed i) (is_allowed x) where
  at : (a b : Bool) → (if (a && b) then Some (sharded subchunk i x location) else None) ≡ option_and_then (λ a. option_map (λ b. sharded subchunk a b location) (if b then Some x else None)) (if a then Some i else None)
  at true true = refl
  at true false = refl
  at false b = refl

allowed_given : (inner index : List ExtensionPoint → Option Chain) (o : Option ShardPoints) →
    option_and_then allowed (option_and_then (shard_of inner index) o) ≡ option_and_then (shard_of (λ ps. option_and_then allowed (inner ps)) (λ ps. option_and_then allowed (index ps))) o
allowed_given inner index None = refl
allowed_given inner index (Some given) = allowed_shard given.subchunk given.location (inner given.inner) (index given.index)

-- the codec of a shard
shard_named : (reads : ReadsCodecs) (shards : ℕ) (point : ExtensionPoint) → names_shard point.name ≡ true → option_and_then allowed (array_to_bytes_of reads (suc shards) point) ≡ shard_in reads (chain_within reads shards) point
shard_named reads shards point named =
    let ms = configuration_members point.configuration in
    let inner = chain_by reads (array_to_bytes_of reads shards) in
    ap (λ (b : Bool). option_and_then allowed (if b then sharding_of inner (chain_of reads) ms else array_to_bytes_in reads point)) named
    ∙ (allowed_given inner (chain_of reads) (shard_points_in ms)
    ∙ ap (λ (b : Bool). if b then sharding_of (chain_within reads shards) (allowed_chain reads) ms else None) (sym named))

pub shard_said : (reads : ReadsCodecs) (shards : ℕ) (points : List ExtensionPoint) → shard_stands points ≡ true → chain_within reads (suc shards) points ≡ sharded_chain_of reads (chain_within reads shards) points
shard_said reads shards [] h = absurd (cc)
shard_said reads shards (point ∷ points) h = at (array_codec_in point) (λ rest. shard_said reads shards points rest) h where
  at : (o : Option ArrayCodec) → (shard_stands points ≡ true → chain_within reads (suc shards) points ≡ sharded_chain_of reads (chain_within reads shards) points) → stands_at point points o ≡ true
      → option_and_then allowed (said_at reads (array_to_bytes_of reads (suc shards)) point points o) ≡ said_at reads (shard_in reads (chain_within reads shards)) point points o
  at (Some first) rest h = allowed_after first (chain_by reads (array_to_bytes_of reads (suc shards)) points) ∙ ap (option_map (after_array_codec first)) (rest h)
  at None rest h = allowed_bytes reads points (array_to_bytes_of reads (suc shards) point) ∙ ap (option_and_then (λ chain. with_byte_codecs reads chain points)) (shard_named reads shards point h)

-- ---- what is said of the subchunks

inner_alike : (inner other index : List ExtensionPoint → Option Chain) (o : Option ShardPoints) → ((inside : List ExtensionPoint) → option_map (λ (given : ShardPoints). given.inner) o ≡ Some inside → inner inside ≡ other inside)
    → option_and_then (shard_of inner index) o ≡ option_and_then (shard_of other index) o
inner_alike inner other index None alike = refl
inner_alike inner other index (Some given) alike = ap (option_and_then (λ i. option_map (λ x. sharded given.subchunk i x given.location) (index given.index))) (alike given.inner refl)

-- of a codec only what is said of the extension points inside of it counts
codec_alike : (inner other index : List ExtensionPoint → Option Chain) (o : Option ShardPoints) (b : Bool)
    → ((inside : List ExtensionPoint) → (if b then option_map (λ (given : ShardPoints). given.inner) o else None) ≡ Some inside → inner inside ≡ other inside)
    → (if b then option_and_then (shard_of inner index) o else None) ≡ (if b then option_and_then (shard_of other index) o else None)
codec_alike inner other index o true alike = inner_alike inner other index o alike
codec_alike inner other index o false alike = refl

pub inner_said : (reads : ReadsCodecs) (one two : List ExtensionPoint → Option Chain) (points : List ExtensionPoint) → ((inside : List ExtensionPoint) → inner_points points ≡ Some inside → one inside ≡ two inside)
    → sharded_chain_of reads one points ≡ sharded_chain_of reads two points
inner_said reads one two [] alike = refl
inner_said reads one two (point ∷ points) alike = at (array_codec_in point) (λ rest. inner_said reads one two points rest) alike where
  at : (o : Option ArrayCodec) → (((inside : List ExtensionPoint) → inner_points points ≡ Some inside → one inside ≡ two inside) → sharded_chain_of reads one points ≡ sharded_chain_of reads two points)
      → ((inside : List ExtensionPoint) → elim o [ Some codec ↦ inner_points points | None ↦ points_inside point ] ≡ Some inside → one inside ≡ two inside)
      → said_at reads (shard_in reads one) point points o ≡ said_at reads (shard_in reads two) point points o
  at (Some first) rest alike = ap (option_map (after_array_codec first)) (rest alike)
  at None rest alike =
      ap (option_and_then (λ chain. with_byte_codecs reads chain points)) (codec_alike one two (allowed_chain reads) (shard_points_in (configuration_members point.configuration)) (names_shard point.name) alike)

-- without shards they say what they say without shards
pub zero_said : (reads : ReadsCodecs) (points : List ExtensionPoint) → chain_within reads 0 points ≡ allowed_chain reads points
zero_said reads points = refl
