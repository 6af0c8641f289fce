use Rattle.std.proofs.Common.{ℕ, List, Some, Ok, Err, subst, sym}
use Rattle.zarr_codecs_traits.specs.Arrays.{coded}
use Rattle.zarr_codecs_traits.specs.Outcomes.{Decodes}
use Rattle.zarr_array_core.specs.Arrays.{array_of}
use Rattle.zarr_array_core.specs.Fetching.{DecodesFetched, stop_of}
use Rattle.zarr_array_core.specs.declared.error.ChunkError.{ChunkError}
use Rattle.zarr_array_core.specs.declared.fetching.FetchedChunk.{FetchedChunk}
use Rattle.zarr_array_core.proofs.FetchedValues.{decodes_value, value_stopped}
use Rattle.zarr_array_core.proofs.array_core.ArrayCore.decode_fetched.Goals as goal

pub returns-in-Ok : goal.returns-in-Ok
returns-in-Ok g c =
    let array = array_of g.C.ArrayToBytesCodecTraits c.args.self.now in
    let made = subst (λ (shape : List ℕ). Decodes (coded array.document.chain array.document.elements shape) c.in-Value.value.items (Ok c.in-Ok.bytes)) c.shape.ensures c.in-Ok.ensures in
    subst (λ (f : FetchedChunk). DecodesFetched array f (Ok (Some (record { shared = c.in-Value.own; bytes = c.in-Ok.bytes })))) (sym c.in-Value.is) (decodes_value array c.in-Value.value c.in-Value.own c.in-Ok.bytes made)

pub returns-in-Err : goal.returns-in-Err
returns-in-Err g c =
    let array = array_of g.C.ArrayToBytesCodecTraits c.args.self.now in
    let made = subst (λ (shape : List ℕ). Decodes (coded array.document.chain array.document.elements shape) c.in-Value.value.items (Err c.in-Err.error)) c.shape.ensures c.in-Err.ensures in
    subst (λ (e : ChunkError). DecodesFetched array c.args.fetched (Err e)) (sym c.of_decoding.ensures)
    (subst (λ (f : FetchedChunk). DecodesFetched array f (Err (stop_of c.in-Err.error))) (sym c.in-Value.is) (value_stopped array c.in-Value.value c.in-Value.own c.in-Err.error made))
