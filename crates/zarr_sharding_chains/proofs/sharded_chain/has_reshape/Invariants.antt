use Rattle.std.proofs.Common.{◌≡◌, drop}
use Rattle.zarr_codecs_around.specs.Views.{codecs_of}
use Rattle.zarr_sharding_chains.specs.Reshapes.{any_reshape}
use Rattle.zarr_sharding_chains.proofs.sharded_chain.has_reshape.Given as goal

-- what is left has a reshape where the whole has one
abbrev pub invariant-loop-codec : goal.invariant-loop-codec
invariant-loop-codec l = any_reshape (codecs_of (drop l.codec-index l.codecs)) ≡ any_reshape (codecs_of l.codecs)
