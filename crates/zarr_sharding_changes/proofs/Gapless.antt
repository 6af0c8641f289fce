-- Values without gaps.
use Rattle.std.proofs.Common.{◌≡◌, ◌∙◌, ℕ, List, ap, sym, subst, refl, Option, None, Some, Bool, true, false, MatchBool, if◌then◌else◌}
use Rattle.std.proofs.lemmas.Bool.{and_parts}
use Rattle.zarr_codecs_meaning.specs.Chains.{ByteCodec, Chain}
use Rattle.zarr_codecs_meaning.specs.Chains.Chain.{bytes, packbits, vlen, optional, after_array_codec, then_bytes, sharded}
use Rattle.zarr_codecs_meaning.specs.Fits.{is_lossless, is_plain, keeps_indices}
use Rattle.zarr_codecs_meaning.specs.Places.{encoded_shape}
use Rattle.zarr_codecs_meaning.specs.Types.{uint64}
use Rattle.zarr_sharding_changes.specs.Compactions.{Compaction, compaction, damaged, encoded_again, nothing_to_gain, undone_compaction}
use Rattle.zarr_sharding_changes.specs.Gapless.{IsGapless}
use Rattle.zarr_sharding_changes.specs.Laws.{GaplessKept, PlainGapless}

pub plain_gapless : PlainGapless
plain_gapless (bytes order) shape value plain = tt
plain_gapless (packbits padding first last) shape value plain = tt
plain_gapless (vlen index «data» width location) shape value plain = tt
plain_gapless (optional mask values) shape value plain = tt
plain_gapless (after_array_codec codec chain) shape value plain = plain_gapless chain (encoded_shape codec shape) value plain
plain_gapless (then_bytes chain codec) shape value plain =
    subst (λ (b : Bool). MatchBool b (Unit {0}) ((inside : List ℕ) × (codec.decode value ≡ Some inside) × IsGapless chain shape inside)) (sym plain) tt
plain_gapless (sharded subchunk inner index location) shape value plain = cc

-- bytes codecs after a shard of which nothing is gained
kept_undone : (plain : Bool) (chain : Chain) (codec : ByteCodec) (shape value : List ℕ) → ((inside : List ℕ) → IsGapless chain shape inside → compaction chain shape inside ≡ nothing_to_gain)
    → MatchBool plain (Unit {0}) ((inside : List ℕ) × (codec.decode value ≡ Some inside) × IsGapless chain shape inside) → (if plain then nothing_to_gain else undone_compaction codec (compaction chain shape) value) ≡ nothing_to_gain
kept_undone true chain codec shape value law h = refl
kept_undone false chain codec shape value law h =
    undone_is codec (compaction chain shape) value h.0 h.1 ∙ ap (encoded_again codec) (law h.0 h.2) where
      undone_is : (codec : ByteCodec) (compacts : List ℕ → Compaction) (value inside : List ℕ) → codec.decode value ≡ Some inside → undone_compaction codec compacts value ≡ encoded_again codec (compacts inside)
      undone_is codec compacts value inside is = ap (λ (o : Option (List ℕ)). elim o [ None ↦ damaged | Some given ↦ encoded_again codec (compacts given) ]) is

pub gapless_kept : GaplessKept
gapless_kept (bytes order) shape value keeps gapless = refl
gapless_kept (packbits padding first last) shape value keeps gapless = refl
gapless_kept (vlen index «data» width location) shape value keeps gapless = refl
gapless_kept (optional mask values) shape value keeps gapless = refl
gapless_kept (after_array_codec codec chain) shape value keeps gapless = gapless_kept chain (encoded_shape codec shape) value keeps gapless
gapless_kept (then_bytes chain codec) shape value keeps gapless = kept_undone (is_plain chain) chain codec shape value (λ inside is. gapless_kept chain shape inside keeps is) gapless
gapless_kept (sharded subchunk inner index location) shape value keeps gapless = (gapless (and_parts (keeps_indices inner) (is_lossless index uint64) keeps).1).0
