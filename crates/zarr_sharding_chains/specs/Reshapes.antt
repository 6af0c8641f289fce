-- Array codecs before a shard.
use Rattle.std.specs.Prelude.{List, [], ◌∷◌, Bool, true, false, ◌||◌}
use Rattle.zarr_codecs_meaning.specs.Chains.{ArrayCodec}
use Rattle.zarr_codecs_meaning.specs.Chains.ArrayCodec.{transpose, reshape, squeeze}

-- whether a codec is `reshape`
abbrev pub is_reshape : ArrayCodec → Bool
is_reshape (transpose order) = false
is_reshape (reshape entries) = true
is_reshape squeeze = false

-- whether one of the codecs is
abbrev pub any_reshape : List ArrayCodec → Bool
any_reshape [] = false
any_reshape (codec ∷ codecs) = is_reshape codec || any_reshape codecs
