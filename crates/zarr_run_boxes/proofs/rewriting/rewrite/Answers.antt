use Rattle.std.proofs.Common.{◌∙◌, length, sym, subst}
use Rattle.zarr_grids_boxes.specs.Boxes.{product}
use Rattle.zarr_grids_boxes.specs.Subsets.{region_of}
use Rattle.zarr_grids_cover.specs.Boxed.{boxed_chunks}
use Rattle.zarr_array_core.specs.Arrays.{array_of}
use Rattle.zarr_array_core.specs.Rewriting.{RewriteStops}
use Rattle.zarr_array_core.specs.Views.{document_of}
use Rattle.zarr_array_meaning.specs.Rewriting.{keyed_chunks}
use Rattle.zarr_array_meaning.specs.StoreMaps.{CountsUpTo}
use Rattle.zarr_run_boxes.specs.declared.refusal.Refusal.{Refusal}
use Rattle.zarr_run_boxes.proofs.Calls.{counts_after_none, many_done, many_stopped}
use Rattle.zarr_run_boxes.proofs.Rewrites.{boxed_count, rewrite_stopped}
use Rattle.zarr_run_boxes.proofs.rewriting.rewrite.Goals as goal

pub returns-in-Ok-rewrite-clause-store : goal.returns-in-Ok-rewrite-clause-store
returns-in-Ok-rewrite-clause-store g c =
    let grid = (document_of g.C.ArrayToBytesCodecTraits.meaning c.args.array.now).grid in
    let chunks = c.in-Ok.chunks in
    many_done g.S.ReadableStorageTraits c.args.store.now c.chunks_to_rewrite.new.store c.rewrite.new.store c.in-Ok.ensures.store.0
    (length (boxed_chunks grid)) (product chunks.shape.items) (sym (boxed_count grid (region_of chunks) (sym chunks.same) c.in-Ok.ensures.all)) c.in-Ok-rewrite.ensures.store

pub returns-clause-err : goal.returns-clause-err
returns-clause-err g c = λ honest.
    let array = array_of g.C.ArrayToBytesCodecTraits c.args.array.now in
    let held = g.S.ReadableStorageTraits.held in
    let old = c.args.store.now in
    let new = c.rewrite.new.store in
    let empty = c.args.options.now.store_empty_chunks in
    let stopped = c.in-Err-rewrite.stopped in
    let still = c.in-Ok.ensures.store.0.honest ∙ honest in
    rewrite_stopped array empty (held old) (held new) stopped c.at_chunk.result (c.in-Ok.ensures.small honest)
    (subst (λ before. RewriteStops array empty stopped before (held new)) c.in-Ok.ensures.held (c.in-Err-rewrite.ensures.err still)) c.at_chunk.ensures

pub returns-clause-store : goal.returns-clause-store
returns-clause-store g c =
    many_stopped g.S.ReadableStorageTraits c.args.store.now c.chunks_to_rewrite.new.store c.rewrite.new.store c.in-Ok.ensures.store.0
    c.in-Err-rewrite.stopped c.at_chunk.result c.at_chunk.ensures c.in-Err-rewrite.ensures.store

-- of the chunks that have a key each was written once
pub returns-in-Ok-rewrite-clause-counts : goal.returns-in-Ok-rewrite-clause-counts
returns-in-Ok-rewrite-clause-counts g c = λ honest.
    let array = array_of g.C.ArrayToBytesCodecTraits c.args.array.now in
    let accepted = g.S.ReadableStorageTraits.accepted_writes in
    let first = c.in-Ok.ensures.store.0 in
    counts_after_none (accepted c.args.store.now) (accepted c.chunks_to_rewrite.new.store) (accepted c.rewrite.new.store) _ first.counts
    (subst (λ before. CountsUpTo (length (keyed_chunks array before)) (accepted c.chunks_to_rewrite.new.store) (accepted c.rewrite.new.store)) c.in-Ok.ensures.held (c.in-Ok-rewrite.ensures.counts (first.honest ∙ honest)))

pub returns-clause-counts : goal.returns-clause-counts
returns-clause-counts g c = λ honest.
    let accepted = g.S.ReadableStorageTraits.accepted_writes in
    let first = c.in-Ok.ensures.store.0 in
    subst (λ (r : Refusal). CountsUpTo r.applied (accepted c.args.store.now) (accepted c.rewrite.new.store)) (sym c.at_chunk.ensures)
    (counts_after_none (accepted c.args.store.now) (accepted c.chunks_to_rewrite.new.store) (accepted c.rewrite.new.store) _ first.counts (c.in-Err-rewrite.ensures.counts (first.honest ∙ honest)))
