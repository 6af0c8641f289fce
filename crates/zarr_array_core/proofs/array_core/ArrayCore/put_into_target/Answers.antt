use Rattle.std.proofs.Common.{◌≡◌, ◌∙◌, ℕ, List, ap, sym, Option, Result, Ok, Err, OnOk, OnErr}
use Rattle.std.specs.FinMap as map
use Rattle.zarr_array_meaning.specs.StoreMaps.{StoreMap}
use Rattle.zarr_array_storage.specs.PartialEncoders.{SameElsewhere}
use Rattle.zarr_codecs_arrays.specs.declared.error.CodecError.{CodecError}
use Rattle.zarr_codecs_meaning.specs.Types.{Cell}
use Rattle.zarr_codecs_traits.specs.Arrays.{coded, update_of}
use Rattle.zarr_codecs_traits.specs.PartWriting.{IsEncodedInto}
use Rattle.zarr_codecs_traits.specs.ShardWrites.{LeavesParts}
use Rattle.zarr_array_core.specs.ChunkValues.{with_value}
use Rattle.zarr_array_core.specs.IntoShards.{IsPutInto, Putting, putting_of}
use Rattle.zarr_array_core.proofs.OneKey.{changed_there, unchanged_there}
use Rattle.zarr_array_core.proofs.array_core.ArrayCore.put_into_target.Goals as goal

-- where the value at the key is the new one, and the rest stayed
put_there : (put : Putting) (result : Result (Unit {0}) CodecError) (before after : StoreMap) (key other : List ℕ) → key ≡ other → SameElsewhere key before after
    → OnOk result ((cells : List Cell) × IsEncodedInto (coded put.chain put.elements put.shape) put.exact (update_of put.asked put.payload (map.get before key)) cells (map.get after other)) → OnOk result (LeavesParts (coded put.chain put.elements put.shape) (update_of put.asked put.payload (map.get before key)) (map.get after other))
    → OnOk result ((made : Option (List ℕ)) × IsPutInto put (map.get before key) made × (after ≡ with_value before key made))
put_there put (Ok x) before after key other same rest is parts = (map.get after other, record { cells = is.0; encoded = is.1; parts = parts }, changed_there before after key (map.get after other) rest (ap (map.get after) same))
put_there put (Err e) before after key other same rest is parts = tt

kept_there : (result : Result (Unit {0}) CodecError) (before after : StoreMap) (key other : List ℕ) → key ≡ other → SameElsewhere key before after → OnErr result (map.get after other ≡ map.get before key) → OnErr result (after ≡ before)
kept_there (Ok x) before after key other same rest is = tt
kept_there (Err e) before after key other same rest is = unchanged_there before after key rest (ap (map.get after) same ∙ is)

pub returns-clause-ok : goal.returns-clause-ok
returns-clause-ok g c = λ honest.
    let moved = c.partial_encode_in_order.ensures.rewrites in
    put_there (putting_of g.C.ArrayToBytesCodecTraits c.args.self.now c.args.shape.now c.args.part.now c.args.given) c.partial_encode_in_order.result (g.S.ReadableStorageTraits.held c.args.target.now.store.now) (g.S.ReadableStorageTraits.held c.partial_encode_in_order.new.source.store.now)
    c.args.target.now.key.now c.partial_encode_in_order.new.source.key.now moved.1 (moved.3 honest) (c.partial_encode_in_order.ensures.ok honest) (c.partial_encode_in_order.ensures.parts honest)

pub returns-clause-store : goal.returns-clause-store
returns-clause-store g c =
    let moved = c.partial_encode_in_order.ensures.rewrites in
    let same = c.partial_encode_in_order.ensures in
    record {
      honest = sym moved.2;
      refused = same.refused;
      once = same.once;
      kept = λ honest.
          kept_there c.partial_encode_in_order.result (g.S.ReadableStorageTraits.held c.args.target.now.store.now) (g.S.ReadableStorageTraits.held c.partial_encode_in_order.new.source.store.now) c.args.target.now.key.now c.partial_encode_in_order.new.source.key.now moved.1 (moved.3 honest) (same.err honest);
    }
