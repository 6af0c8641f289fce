use Rattle.std.proofs.Common.{◌∙◌, length, refl, sym, subst}
use Rattle.std.proofs.lemmas.Iterator.Adapters.{YieldsList-from_vec}
use Rattle.std.proofs.lemmas.Iterator.Consumers.{YieldsList-end, YieldsList-turn}
use Rattle.zarr_grids_boxes.specs.Boxes.{Region}
use Rattle.zarr_grids_boxes.specs.Subsets.{region_of}
use Rattle.zarr_array_elements.specs.Views.{cells_shown}
use Rattle.zarr_array_elements.specs.declared.box_elements.BoxElements.{BoxElements}
use Rattle.zarr_array_elements.proofs.Shown.{length-shown}
use Rattle.zarr_array_core.specs.Fetching.{IsOfDecoding, read_of}
use Rattle.zarr_array_core.specs.Outcomes.{ReadStops}
use Rattle.zarr_array_core.proofs.Fetched.{ChunkRead, IsNext, all_put, decoded_first, last_stops, next_met, next_result, next_stops, put_next}
use Rattle.zarr_array_core.proofs.ReadCounts.{err_is, if_err_is, only_read_all, only_read_before, only_read_until}
use Rattle.zarr_array_core.proofs.ReadSoFar.{read_none}
use Rattle.zarr_array_core.proofs.array_core.ArrayCore.read_met.Goals as goal

pub loop-found-init : goal.loop-found-init
loop-found-init g c =
    let first = read_of g.C.ArrayToBytesCodecTraits g.S.ReadableStorageTraits c.args.self.now c.args.store.now (region_of c.args.read.now.region.now) in
    let chunks : Region = region_of c.args.read.now.chunks.now in
    record {
      shown = c.requires.shown;
      read = λ honest. read_none first.array first.store first.region (cells_shown first.array.document.elements c.args.shown) c.requires.fill;
      stopped = refl;
    }

pub put_chunk_part-requires-clause-met : goal.put_chunk_part-requires-clause-met
put_chunk_part-requires-clause-met g c =
    let first = read_of g.C.ArrayToBytesCodecTraits g.S.ReadableStorageTraits c.args.self.now c.args.store.now (region_of c.args.read.now.region.now) in
    let chunks : Region = region_of c.args.read.now.chunks.now in
    let all = c.in_ok-chunks.field-0 in
    let made = c.in_ok-decoded.decoded.items in
    let are = decoded_first first chunks all.chunks.items made all.stopped c.in_ok-chunks.ensures.fetched c.in_ok-decoded.ensures in
    let gives = c.into_iter-found-iterator.ensures.into_iter_gives in
    let list = YieldsList-from_vec {s = c.into_iter-found-iterator.result} made gives.0 (gives.1 ∙ c.in_ok-decoded.decoded.ok.0) in
    let turn = YieldsList-turn list c.loop-found.yielded c.loop-found.found-iterator c.loop-found.yielded_by c.next.result c.next.new.self c.in-Some.found c.in-Some.is c.next.ensures.steps in
    let next = next_result first chunks made (length c.loop-found.yielded) c.in-Some.found all.stopped (sym c.args.read.now.chunks.now.same) c.requires.intersecting are turn in
    let found = subst (λ (r : ChunkRead). IsNext first chunks (length c.loop-found.yielded) r) c.in_ok-part.was next in
    next_met first chunks (length c.loop-found.yielded) c.in_ok-part.part found

pub loop-found-preserved : goal.loop-found-preserved
loop-found-preserved g c =
    let first = read_of g.C.ArrayToBytesCodecTraits g.S.ReadableStorageTraits c.args.self.now c.args.store.now (region_of c.args.read.now.region.now) in
    let chunks : Region = region_of c.args.read.now.chunks.now in
    let all = c.in_ok-chunks.field-0 in
    let made = c.in_ok-decoded.decoded.items in
    let are = decoded_first first chunks all.chunks.items made all.stopped c.in_ok-chunks.ensures.fetched c.in_ok-decoded.ensures in
    let gives = c.into_iter-found-iterator.ensures.into_iter_gives in
    let list = YieldsList-from_vec {s = c.into_iter-found-iterator.result} made gives.0 (gives.1 ∙ c.in_ok-decoded.decoded.ok.0) in
    let turn = YieldsList-turn list c.loop-found.yielded c.loop-found.found-iterator c.loop-found.yielded_by c.next.result c.next.new.self c.in-Some.found c.in-Some.is c.next.ensures.steps in
    let next = next_result first chunks made (length c.loop-found.yielded) c.in-Some.found all.stopped (sym c.args.read.now.chunks.now.same) c.requires.intersecting are turn in
    let found = subst (λ (r : ChunkRead). IsNext first chunks (length c.loop-found.yielded) r) c.in_ok-part.was next in
    let kept = c.loop-found.invariant in
    let step = c.in_ok-target.ensures in
    let elements = first.array.document.elements in
    record {
      shown = step.shown;
      read = λ honest. put_next first chunks c.loop-found.yielded c.in-Some.found c.in_ok-part.part (cells_shown elements c.loop-found.target) (cells_shown elements c.in_ok-target.target)
          (sym c.args.read.now.chunks.now.same) c.requires.intersecting found honest step.ok (kept.read honest);
      stopped = kept.stopped;
    }

pub returns-in_err-part-clause-err : goal.returns-in_err-part-clause-err
returns-in_err-part-clause-err g c = λ honest.
    let first = read_of g.C.ArrayToBytesCodecTraits g.S.ReadableStorageTraits c.args.self.now c.args.store.now (region_of c.args.read.now.region.now) in
    let chunks : Region = region_of c.args.read.now.chunks.now in
    let all = c.in_ok-chunks.field-0 in
    let made = c.in_ok-decoded.decoded.items in
    let are = decoded_first first chunks all.chunks.items made all.stopped c.in_ok-chunks.ensures.fetched c.in_ok-decoded.ensures in
    let gives = c.into_iter-found-iterator.ensures.into_iter_gives in
    let list = YieldsList-from_vec {s = c.into_iter-found-iterator.result} made gives.0 (gives.1 ∙ c.in_ok-decoded.decoded.ok.0) in
    let turn = YieldsList-turn list c.loop-found.yielded c.loop-found.found-iterator c.loop-found.yielded_by c.next.result c.next.new.self c.in-Some.found c.in-Some.is c.next.ensures.steps in
    let next = next_result first chunks made (length c.loop-found.yielded) c.in-Some.found all.stopped (sym c.args.read.now.chunks.now.same) c.requires.intersecting are turn in
    let found = subst (λ (r : ChunkRead). IsNext first chunks (length c.loop-found.yielded) r) c.in_err-part.was next in
    let e = c.in_err-part.field-0.0 in
    let residual = c.from_residual-in_err-part in
    if_err_is residual.result e (ReadStops first.array.path first.array.document first.store first.region) residual.ensures.1
    (next_stops first chunks (length c.loop-found.yielded) e (cells_shown first.array.document.elements c.loop-found.target) (sym c.args.read.now.chunks.now.same) c.requires.intersecting found honest (c.loop-found.invariant.read honest))

pub returns-in_err-part-clause-store : goal.returns-in_err-part-clause-store
returns-in_err-part-clause-store g c =
    let first = read_of g.C.ArrayToBytesCodecTraits g.S.ReadableStorageTraits c.args.self.now c.args.store.now (region_of c.args.read.now.region.now) in
    let chunks : Region = region_of c.args.read.now.chunks.now in
    let all = c.in_ok-chunks.field-0 in
    let made = c.in_ok-decoded.decoded.items in
    let are = decoded_first first chunks all.chunks.items made all.stopped c.in_ok-chunks.ensures.fetched c.in_ok-decoded.ensures in
    let gives = c.into_iter-found-iterator.ensures.into_iter_gives in
    let list = YieldsList-from_vec {s = c.into_iter-found-iterator.result} made gives.0 (gives.1 ∙ c.in_ok-decoded.decoded.ok.0) in
    let turn = YieldsList-turn list c.loop-found.yielded c.loop-found.found-iterator c.loop-found.yielded_by c.next.result c.next.new.self c.in-Some.found c.in-Some.is c.next.ensures.steps in
    let next = next_result first chunks made (length c.loop-found.yielded) c.in-Some.found all.stopped (sym c.args.read.now.chunks.now.same) c.requires.intersecting are turn in
    let found = subst (λ (r : ChunkRead). IsNext first chunks (length c.loop-found.yielded) r) c.in_err-part.was next in
    let residual = c.from_residual-in_err-part in
    only_read_before g.S.ReadableStorageTraits c.args.store.now c.fetch_chunks.new.store all.stopped residual.result c.in_ok-chunks.ensures.store (err_is residual.result c.in_err-part.field-0.0 IsOfDecoding residual.ensures.1 found.is.0)

pub returns-in-Some-stopped-clause-err : goal.returns-in-Some-stopped-clause-err
returns-in-Some-stopped-clause-err g c = λ honest.
    let first = read_of g.C.ArrayToBytesCodecTraits g.S.ReadableStorageTraits c.args.self.now c.args.store.now (region_of c.args.read.now.region.now) in
    let chunks : Region = region_of c.args.read.now.chunks.now in
    let all = c.in_ok-chunks.field-0 in
    let made = c.in_ok-decoded.decoded.items in
    let are = decoded_first first chunks all.chunks.items made all.stopped c.in_ok-chunks.ensures.fetched c.in_ok-decoded.ensures in
    let gives = c.into_iter-found-iterator.ensures.into_iter_gives in
    let list = YieldsList-from_vec {s = c.into_iter-found-iterator.result} made gives.0 (gives.1 ∙ c.in_ok-decoded.decoded.ok.0) in
    let end = YieldsList-end list c.loop-found.yielded c.loop-found.found-iterator c.loop-found.yielded_by c.next.result c.next.new.self c.in-None.is c.next.ensures.steps in
    last_stops first chunks made (length c.loop-found.yielded) all.stopped c.in-Some-stopped.error (cells_shown first.array.document.elements c.loop-found.target)
    (sym c.args.read.now.chunks.now.same) c.requires.intersecting are (sym c.loop-found.invariant.stopped ∙ c.in-Some-stopped.is) end.1 honest (c.loop-found.invariant.read honest)

pub returns-in-Some-stopped-clause-store : goal.returns-in-Some-stopped-clause-store
returns-in-Some-stopped-clause-store g c = only_read_until BoxElements g.S.ReadableStorageTraits c.args.store.now c.fetch_chunks.new.store c.in_ok-chunks.field-0.stopped c.in-Some-stopped.error (sym c.loop-found.invariant.stopped ∙ c.in-Some-stopped.is) c.in_ok-chunks.ensures.store

pub returns-in-None-stopped-clause-ok : goal.returns-in-None-stopped-clause-ok
returns-in-None-stopped-clause-ok g c = λ honest.
    let first = read_of g.C.ArrayToBytesCodecTraits g.S.ReadableStorageTraits c.args.self.now c.args.store.now (region_of c.args.read.now.region.now) in
    let chunks : Region = region_of c.args.read.now.chunks.now in
    let all = c.in_ok-chunks.field-0 in
    let made = c.in_ok-decoded.decoded.items in
    let are = decoded_first first chunks all.chunks.items made all.stopped c.in_ok-chunks.ensures.fetched c.in_ok-decoded.ensures in
    let gives = c.into_iter-found-iterator.ensures.into_iter_gives in
    let list = YieldsList-from_vec {s = c.into_iter-found-iterator.result} made gives.0 (gives.1 ∙ c.in_ok-decoded.decoded.ok.0) in
    let end = YieldsList-end list c.loop-found.yielded c.loop-found.found-iterator c.loop-found.yielded_by c.next.result c.next.new.self c.in-None.is c.next.ensures.steps in
    let elements = first.array.document.elements in
    let many = length-shown elements first.region c.loop-found.target c.loop-found.invariant.shown in
    all_put first chunks made (length c.loop-found.yielded) all.stopped (cells_shown elements c.loop-found.target)
    (sym c.args.read.now.chunks.now.same) c.requires.intersecting are (sym c.loop-found.invariant.stopped ∙ c.in-None-stopped.is) end.1 many (c.loop-found.invariant.read honest)

pub returns-in-None-stopped-clause-store : goal.returns-in-None-stopped-clause-store
returns-in-None-stopped-clause-store g c = only_read_all g.S.ReadableStorageTraits c.args.store.now c.fetch_chunks.new.store c.in_ok-chunks.field-0.stopped c.loop-found.target (sym c.loop-found.invariant.stopped ∙ c.in-None-stopped.is) c.in_ok-chunks.ensures.store
