use Rattle.std.proofs.Common.{◌∙◌, Option, Result, subst}
use Rattle.std.specs.List.{AllZip}
use Rattle.rayon.proofs.ListFacts.{IfOk-then}
use Rattle.zarr_array_core.specs.Arrays.{array_of}
use Rattle.zarr_array_core.specs.Fetching.{DecodesFetched}
use Rattle.zarr_array_core.specs.declared.chunk_reading.ChunkPart.{ChunkPart}
use Rattle.zarr_array_core.specs.declared.error.ChunkError.{ChunkError}
use Rattle.zarr_array_core.specs.declared.fetching.FetchedChunk.{FetchedChunk}
use Rattle.zarr_array_core.proofs.array_core.ArrayCore.decode_chunks.Goals as goal

pub returns : goal.returns
returns g c =
    let each : FetchedChunk → Result (Option ChunkPart) ChunkError → Type 0 = DecodesFetched (array_of g.C.ArrayToBytesCodecTraits c.args.self.now) in
    IfOk-then c.collect.result _ _ c.collect.ensures (λ v h.
    let chain = rw (c.map.ensures.base, c.with_min_len.ensures.base, c.map.ensures.f) at h.1 in
    rw h.2 (subst (λ fs. AllZip each fs h.0) (chain.1 ∙ c.into_par_iter.ensures) chain.2))
