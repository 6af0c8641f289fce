use Rattle.std.proofs.Common.{◌≡◌, ◌∙◌, ℕ, List, [], ◌∷◌, Option, Some, IsTrue, IfErr, ap, sym, subst, rules}
use Rattle.std.specs.FinMap.{get}
use Rattle.std.proofs.lemmas.Result.{IfErr-weaker}
use Rattle.zarr_grids_boxes.specs.Boxes.{Region}
use Rattle.zarr_grids_boxes.specs.Subsets.{region_of}
use Rattle.zarr_grids_keys.specs.Keys.{chunk_key}
use Rattle.zarr_array_meaning.specs.Arrays.{Array, value_at}
use Rattle.zarr_array_meaning.specs.Rewriting.{IsRewritten, RewroteChunks}
use Rattle.zarr_array_meaning.specs.StoreMaps.{StoreMap}
use Rattle.zarr_array_storage.specs.Stores.{value_bytes}
use Rattle.zarr_array_core.specs.Arrays.{array_of}
use Rattle.zarr_array_core.specs.ChunkValues.{with_value}
use Rattle.zarr_array_core.specs.Rewriting.{ChunkRewriteStops, RemakingStops}
use Rattle.zarr_array_core.proofs.KnownArrays.{array_known}
use Rattle.zarr_array_core.proofs.Rewritten.{chunk_stops, rewrote_one}
use Rattle.zarr_array_core.proofs.array_core.ArrayCore.rewrite_chunk.Goals as goal

pub returns-in_err-made-clause-err : goal.returns-in_err-made-clause-err
returns-in_err-made-clause-err g c = λ honest.
    let array : Array = array_of g.C.ArrayToBytesCodecTraits c.args.self.now in
    let store : StoreMap = g.S.ReadableStorageTraits.held c.args.store.now in
    let empty = c.args.options.now.store_empty_chunks in
    let key : List ℕ = chunk_key array.path array.document.keys c.args.chunk.now in
    let value : List ℕ = c.in-Some.value.items in
    let box : Region = region_of c.in_ok-own.own in
    let named : c.in_ok-key.key ≡ key = c.in_ok-key.ensures in
    let found : value_bytes c.in_ok-value.field-0 ≡ get store c.in_ok-key.key = c.in_ok-value.ensures.value honest in
    let had : value_bytes c.in_ok-value.field-0 ≡ Some value = ap value_bytes c.in-Some.is in
    let stored : value_at array store c.args.chunk.now ≡ Some value = sym (ap (λ (k : List ℕ). get store k) named) ∙ (sym found ∙ had) in
    let told : IfErr c.from_residual-in_err-made.result (RemakingStops array.document empty c.shape.result.now value) = search rules in
    IfErr-weaker c.from_residual-in_err-made.result (RemakingStops array.document empty c.shape.result.now value) (λ e. ChunkRewriteStops array empty c.args.chunk.now e store)
    (λ e is. chunk_stops array empty c.args.chunk.now box value e store c.in_ok-own.ensures stored (subst (λ (s : List ℕ). RemakingStops array.document empty s value e) c.shape.ensures is))
    told

pub returns-clause-ok : goal.returns-clause-ok
returns-clause-ok g c = λ honest.
    let array : Array = array_of g.C.ArrayToBytesCodecTraits c.args.self.now in
    let store : StoreMap = g.S.ReadableStorageTraits.held c.args.store.now in
    let empty = c.args.options.now.store_empty_chunks in
    let key : List ℕ = chunk_key array.path array.document.keys c.args.chunk.now in
    let value : List ℕ = c.in-Some.value.items in
    let box : Region = region_of c.in_ok-own.own in
    let named : c.in_ok-key.key ≡ key = c.in_ok-key.ensures in
    let found : value_bytes c.in_ok-value.field-0 ≡ get store c.in_ok-key.key = c.in_ok-value.ensures.value honest in
    let had : value_bytes c.in_ok-value.field-0 ≡ Some value = ap value_bytes c.in-Some.is in
    let stored : value_at array store c.args.chunk.now ≡ Some value = sym (ap (λ (k : List ℕ). get store k) named) ∙ (sym found ∙ had) in
    let still : IsTrue (g.S.ReadableStorageTraits.is_honest c.get.new.store) = rw c.get.ensures.honest honest in
    let put = c.in_ok-put_value.ensures.ok still in
    let held : g.S.ReadableStorageTraits.held c.get.new.store ≡ store = c.get.ensures.held in
    let made : Option (List ℕ) = value_bytes c.in_ok-made.made in
    let is : g.S.ReadableStorageTraits.held c.put_value.new.store ≡ with_value store key made = put ∙ (ap (λ (m : StoreMap). with_value m c.in_ok-key.key made) held ∙ ap (λ (k : List ℕ). with_value store k made) named) in
    let told : IsRewritten array empty c.shape.result.now value made = c.in_ok-made.ensures.ok in
    let here : IsRewritten array empty box.shape value made = subst (λ (s : List ℕ). IsRewritten array empty s value made) c.shape.ensures told in
    subst (λ (m : StoreMap). RewroteChunks array empty (c.args.chunk.now ∷ []) store m) (sym is)
    (rewrote_one array empty c.args.chunk.now box value made store (array_known g.C.ArrayToBytesCodecTraits (g.met.C.ArrayToBytesCodecTraits g.world.𝓛 g.world.𝓜 g.world.𝓡 ((λ s x. x), (λ x. x), (λ x. x), λ x. x)).lawful c.args.self.now) c.in_ok-own.ensures stored here)
