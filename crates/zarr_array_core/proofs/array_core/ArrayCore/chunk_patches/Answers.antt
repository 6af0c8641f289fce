use Rattle.std.proofs.Common.{◌≡◌, ◌∙◌, ◌<◌, ℕ, List, None, Ok, length, true, false, ap, sym, subst}
use Rattle.std.proofs.lemmas.Bool.{false≢true}
use Rattle.zarr_grids_boxes.specs.Boxes.{Region, product}
use Rattle.zarr_grids_boxes.specs.Cuts.{IsAtMost, overlapped, relative}
use Rattle.zarr_grids_boxes.specs.Subsets.{region_of}
use Rattle.zarr_grids_overlay.specs.Overlays.{extent_of}
use Rattle.zarr_codecs_arrays.specs.Outcomes.{IsCounted}
use Rattle.zarr_codecs_arrays.specs.Views.{payload_of}
use Rattle.zarr_codecs_meaning.specs.Types.{is_fill, IsTooLarge}
use Rattle.zarr_codecs_traits.specs.Arrays.{coded}
use Rattle.zarr_codecs_traits.specs.PartEncoding.{EncodesPart}
use Rattle.zarr_array_meaning.specs.Chunks.{holds_box}
use Rattle.zarr_array_core.specs.ChunkValues.{CellsBecome}
use Rattle.zarr_array_meaning.specs.Writing.{keeps_fill}
use Rattle.zarr_array_core.specs.BoxWrites.{write_of}
use Rattle.zarr_array_core.specs.Views.{array_cells, document_of}
use Rattle.zarr_array_elements.proofs.Meeting.{meeting, starts_alike}
use Rattle.zarr_array_core.proofs.ChunkPayloads.{AreArrayElements}
use Rattle.zarr_array_elements.proofs.Shared.{large_grows, shared_held, shared_smaller}
use Rattle.zarr_array_core.proofs.PartPatches.{AreShared, found_patches}
use Rattle.zarr_array_core.proofs.SeenFrom.{later_start}
use Rattle.zarr_array_core.proofs.array_core.ArrayCore.chunk_patches.Goals as goal
use Rattle.zarr_array_core.proofs.array_core.ArrayCore.chunk_patches.Goals.{else-not-empty-via-then-not-empty+else-is_all_fill, else-not-empty-via-else-not-empty}

shared_is : (subset region own shared : Region) → subset ≡ region → shared ≡ overlapped subset own → shared ≡ overlapped region own
shared_is subset region own shared e f = f ∙ ap (λ (r : Region). overlapped r own) e

pub whole_cells-requires-clause-small : goal.whole_cells-requires-clause-small
whole_cells-requires-clause-small g c κs within = λ large.
    let document = document_of g.C.ArrayToBytesCodecTraits.meaning c.args.self.now in
    let region : Region = extent_of c.args.write.now.region in
    let box : Region = region_of c.args.own.now in
    let shared : region_of c.in_ok-shared.shared ≡ overlapped region box = shared_is (region_of c.args.write.now.subset.now) region box (region_of c.in_ok-shared.shared) c.args.write.now.same_box c.in_ok-shared.ensures in
    c.requires.writes.small (large_grows document.elements.type (product (overlapped region box).shape) (product box.shape) (shared_smaller region box c.requires.writes.shares) (subst (λ (r : Region). IsTooLarge document.elements.type (product r.shape)) shared large))

pub whole_cells-requires-clause-some : goal.whole_cells-requires-clause-some
whole_cells-requires-clause-some g c κs within =
    let region : Region = extent_of c.args.write.now.region in
    let box : Region = region_of c.args.own.now in
    let shared : region_of c.in_ok-shared.shared ≡ overlapped region box = shared_is (region_of c.args.write.now.subset.now) region box (region_of c.in_ok-shared.shared) c.args.write.now.same_box c.in_ok-shared.ensures in
    subst (λ (r : Region). 0 < product r.shape) (sym shared) (meeting region box c.requires.writes.shares).some

pub whole_cells-requires-clause-rank : goal.whole_cells-requires-clause-rank
whole_cells-requires-clause-rank g c κs within =
    let region : Region = extent_of c.args.write.now.region in
    let box : Region = region_of c.args.own.now in
    let shared : region_of c.in_ok-shared.shared ≡ overlapped region box = shared_is (region_of c.args.write.now.subset.now) region box (region_of c.in_ok-shared.shared) c.args.write.now.same_box c.in_ok-shared.ensures in
    sym (ap (λ (r : Region). length r.start) shared ∙ starts_alike region box c.requires.writes.rank)

pub whole_cells-requires-clause-holds : goal.whole_cells-requires-clause-holds
whole_cells-requires-clause-holds g c κs within =
    let region : Region = extent_of c.args.write.now.region in
    let box : Region = region_of c.args.own.now in
    let shared : region_of c.in_ok-shared.shared ≡ overlapped region box = shared_is (region_of c.args.write.now.subset.now) region box (region_of c.in_ok-shared.shared) c.args.write.now.same_box c.in_ok-shared.ensures in
    subst (λ (r : Region). holds_box region r ≡ true) (sym shared) (shared_held region box c.requires.writes.shares)

pub seen_from-part-requires : goal.seen_from-part-requires
seen_from-part-requires g c =
    let region : Region = extent_of c.args.write.now.region in
    let box : Region = region_of c.args.own.now in
    let shared : region_of c.in_ok-shared.shared ≡ overlapped region box = shared_is (region_of c.args.write.now.subset.now) region box (region_of c.in_ok-shared.shared) c.args.write.now.same_box c.in_ok-shared.ensures in
    subst (λ (os : List ℕ). IsAtMost os c.in_ok-shared.shared.start.items) (sym c.start.ensures) (subst (λ (r : Region). IsAtMost box.start r.start) (sym shared) (later_start region.start box.start c.requires.writes.rank))

pub returns-in-Ok-clause-ok : goal.returns-in-Ok-clause-ok
returns-in-Ok-clause-ok g c =
    let document = document_of g.C.ArrayToBytesCodecTraits.meaning c.args.self.now in
    let exact = g.C.ArrayToBytesCodecTraits.is_function c.args.self.now.codecs in
    let write = write_of g.C.ArrayToBytesCodecTraits c.args.self.now c.args.write.now in
    let region : Region = extent_of c.args.write.now.region in
    let box : Region = region_of c.args.own.now in
    let payload = payload_of c.in_ok-bytes.bytes in
    let sub = array_cells c.args.self.now c.in_ok-bytes.bytes in
    let fill = document.elements.fill in
    let empty = keeps_fill write box in
    let shared : region_of c.in_ok-shared.shared ≡ overlapped region box = shared_is (region_of c.args.write.now.subset.now) region box (region_of c.in_ok-shared.shared) c.args.write.now.same_box c.in_ok-shared.ensures in
    let part : region_of c.seen_from-part.result ≡ relative (overlapped region box) box.start =
    c.seen_from-part.ensures ∙ (ap (λ (r : Region). relative r c.start.result.now) shared ∙ ap (relative (overlapped region box)) c.start.ensures) in
    let becomes : CellsBecome write (overlapped region box) None sub = subst (λ (r : Region). CellsBecome write r None sub) shared (c.in_ok-bytes.ensures.ok None) in
    let counted : IsCounted document.elements.type payload (product (overlapped region box).shape) sub = subst (λ (r : Region). IsCounted document.elements.type payload (product r.shape) sub) shared c.in_ok-bytes.ensures.counted in
    let small : ¬ IsTooLarge document.elements.type (product (overlapped region box).shape) = λ large. c.requires.writes.small (large_grows document.elements.type (product (overlapped region box).shape) (product box.shape) (shared_smaller region box c.requires.writes.shares) large) in
    let elements : AreArrayElements document.elements (overlapped region box).shape payload sub = record { valid = record { is = counted; values = becomes.values }; small = small } in
    let some : empty ≡ false → is_fill fill sub ≡ false =
    elim c.else-not-empty.branch [
      | else-not-empty-via-then-not-empty+else-is_all_fill w ↦ (λ e. sym w.is_all_fill.ensures ∙ w.if-is_all_fill.false)
      | else-not-empty-via-else-not-empty w ↦ (λ e. absurd (false≢true (sym e ∙ (sym c.in_ok-empty.ensures.ok ∙ w.if-not-empty.false))))
    ] in
    let are : AreShared write box payload sub empty = record { share = c.requires.writes.shares; rank = c.requires.writes.rank; fit = c.requires.fit; fine = c.args.self.now.elements.fills; are = elements; becomes = becomes; some = some } in
    let encodes = subst (λ (s : List ℕ). EncodesPart (coded document.chain document.elements s) exact (relative (overlapped region box) box.start) payload (Ok c.in-Ok.patches)) c.shape-2.ensures
    (subst (λ (p : Region). EncodesPart (coded document.chain document.elements c.shape-2.result.now) exact p payload (Ok c.in-Ok.patches)) part c.in-Ok.ensures) in
    found_patches write box payload sub c.in-Ok.patches are encodes
