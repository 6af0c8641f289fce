-- Compaction of values of chains that make no shard.
use Rattle.std.proofs.Common.{◌≡◌, ℕ, List, ap, refl, Bool, true, if◌then◌else◌}
use Rattle.zarr_codecs_meaning.specs.Chains.{Chain}
use Rattle.zarr_codecs_meaning.specs.Chains.Chain.{bytes, packbits, vlen, optional, after_array_codec, then_bytes, sharded}
use Rattle.zarr_codecs_meaning.specs.Fits.{is_plain}
use Rattle.zarr_codecs_meaning.specs.Places.{encoded_shape}
use Rattle.zarr_sharding_changes.specs.Compactions.{compaction, nothing_to_gain, undone_compaction}

pub plain_kept : (chain : Chain) (shape value : List ℕ) → is_plain chain ≡ true → compaction chain shape value ≡ nothing_to_gain
plain_kept (bytes order) shape value plain = refl
plain_kept (packbits padding first last) shape value plain = refl
plain_kept (vlen index «data» width location) shape value plain = refl
plain_kept (optional mask values) shape value plain = refl
plain_kept (after_array_codec codec chain) shape value plain = plain_kept chain (encoded_shape codec shape) value plain
plain_kept (then_bytes chain codec) shape value plain = ap (λ (b : Bool). if b then nothing_to_gain else undone_compaction codec (compaction chain shape) value) plain
plain_kept (sharded subchunk inner index location) shape value plain = cc
