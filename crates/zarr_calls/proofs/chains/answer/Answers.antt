use denote.Exit.{no}
use denote.Param.Send.{IsSync, arg_sync, param_sync, sendable}
use Rattle.std.proofs.Crossing.{crosses}
use Rattle.zarr_calls_kinds.specs.contracts.byte_codecs.TestCodec as codec
use Rattle.zarr_sharding_chains.proofs.Crossing.{chain_sync}
use Rattle.zarr_calls.proofs.chains.answer.Goals as goal

-- the chain of an array may be lent to other threads, where codecs are those of the tests
pub answer_of_chain-requires-sync-C : goal.answer_of_chain-requires-sync-C
answer_of_chain-requires-sync-C g c κs within =
    let codecs : IsSync codec.the_row = search (crosses, sendable) depth 20 in
    param_sync _ _ (arg_sync _ no _ (chain_sync _ codecs))
