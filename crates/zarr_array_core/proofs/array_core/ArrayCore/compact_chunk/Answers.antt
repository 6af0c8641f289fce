use Rattle.std.proofs.Common.{◌≡◌, ◌∙◌, ℕ, List, Option, Some, true, Ok, Err, IsTrue, IfErr, ap, sym, subst, rules}
use Rattle.std.specs.FinMap.{get, insert}
use Rattle.std.proofs.lemmas.Result.{IfErr-weaker}
use Rattle.zarr_grids_boxes.specs.Boxes.{Region}
use Rattle.zarr_grids_boxes.specs.Subsets.{region_of}
use Rattle.zarr_grids_keys.specs.Keys.{chunk_key}
use Rattle.zarr_array_meaning.specs.Arrays.{Array, value_at}
use Rattle.zarr_array_meaning.specs.Compacting.{CompactsChunk}
use Rattle.zarr_array_meaning.specs.StoreMaps.{StoreMap}
use Rattle.zarr_array_core.specs.Arrays.{array_of}
use Rattle.zarr_array_core.specs.Compacting.{CompactsStored, CompactStops}
use Rattle.zarr_array_core.proofs.Compacted.{stored_compacted, stored_stops}
use Rattle.zarr_array_core.proofs.KnownArrays.{array_known}
use Rattle.zarr_array_core.proofs.array_core.ArrayCore.compact_chunk.Goals as goal

pub returns-in_err-made-clause-err : goal.returns-in_err-made-clause-err
returns-in_err-made-clause-err g c = λ honest.
    let array : Array = array_of g.C.ArrayToBytesCodecTraits c.args.self.now in
    let store : StoreMap = g.S.ReadableStorageTraits.held c.args.store.now in
    let had : Option (List ℕ) = get store c.in_ok-key.key in
    let stored : value_at array store c.args.chunk.now ≡ had = sym (ap (λ (k : List ℕ). get store k) c.in_ok-key.ensures) in
    let made = c.in_err-made.ensures.compacts honest in
    let told : IfErr c.from_residual-in_err-made.result (λ e. CompactsStored array.document c.shape.result.now had (Err e)) = search rules in
    IfErr-weaker c.from_residual-in_err-made.result (λ e. CompactsStored array.document c.shape.result.now had (Err e)) (λ e. CompactStops array c.args.chunk.now e store)
    (λ e is. stored_stops array c.args.chunk.now (region_of c.in_ok-own.own) store e c.in_ok-own.ensures had stored (subst (λ (s : List ℕ). CompactsStored array.document s had (Err e)) c.shape.ensures is)) told

pub returns-clause-ok : goal.returns-clause-ok
returns-clause-ok g c = λ honest.
    let array : Array = array_of g.C.ArrayToBytesCodecTraits c.args.self.now in
    let store : StoreMap = g.S.ReadableStorageTraits.held c.args.store.now in
    let key : List ℕ = chunk_key array.path array.document.keys c.args.chunk.now in
    let had : Option (List ℕ) = get store c.in_ok-key.key in
    let stored : value_at array store c.args.chunk.now ≡ had = sym (ap (λ (k : List ℕ). get store k) c.in_ok-key.ensures) in
    let read = c.in_ok-made.ensures.store in
    let still : IsTrue (g.S.ReadableStorageTraits.is_honest c.compact_stored.new.store) = rw read.honest honest in
    let put = c.in_ok-set_made.ensures.ok still in
    let bytes : List ℕ = c.in-Some.made.items in
    let is : g.S.ReadableStorageTraits.held c.set_made.new.store ≡ insert store key bytes = put ∙ (ap (λ (m : StoreMap). insert m c.in_ok-key.key bytes) read.held ∙ ap (λ (k : List ℕ). insert store k bytes) c.in_ok-key.ensures) in
    let told : CompactsStored array.document c.shape.result.now had (Ok c.in_ok-made.made) = c.in_ok-made.ensures.compacts honest in
    let some : CompactsStored array.document c.shape.result.now had (Ok (Some c.in-Some.made)) = rw c.in-Some.is at told in
    subst (λ (m : StoreMap). CompactsChunk array c.args.chunk.now true store m) (sym is)
    (stored_compacted array c.args.chunk.now (region_of c.in_ok-own.own) c.in-Some.made store (array_known g.C.ArrayToBytesCodecTraits (g.met.C.ArrayToBytesCodecTraits g.world.𝓛 g.world.𝓜 g.world.𝓡 ((λ s x. x), (λ x. x), (λ x. x), λ x. x)).lawful c.args.self.now)
    c.in_ok-own.ensures had stored (subst (λ (s : List ℕ). CompactsStored array.document s had (Ok (Some c.in-Some.made))) c.shape.ensures some))
