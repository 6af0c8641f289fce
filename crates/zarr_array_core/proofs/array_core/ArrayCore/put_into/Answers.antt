use Rattle.std.proofs.Common.{◌≡◌, ◌∙◌, ◌<◌, ℕ, List, None, length, true, ap, sym, subst}
use Rattle.zarr_grids_boxes.specs.Boxes.{Region, product}
use Rattle.zarr_grids_boxes.specs.Cuts.{IsAtMost, overlapped}
use Rattle.zarr_grids_boxes.specs.Subsets.{region_of}
use Rattle.zarr_grids_overlay.specs.Overlays.{extent_of}
use Rattle.zarr_codecs_meaning.specs.Types.{IsTooLarge}
use Rattle.zarr_array_meaning.specs.Chunks.{holds_box}
use Rattle.zarr_codecs_arrays.specs.Views.{payload_of}
use Rattle.zarr_codecs_traits.specs.Sources.{source_contents}
use Rattle.zarr_array_core.specs.BoxWrites.{write_of}
use Rattle.zarr_array_core.specs.ChunkValues.{PutStops, plain_write, put_refusal_of}
use Rattle.zarr_array_core.specs.declared.error.ChunkError.{ChunkError}
use Rattle.zarr_array_core.specs.Views.{array_cells, document_of}
use Rattle.zarr_array_elements.proofs.Meeting.{meeting, starts_alike}
use Rattle.zarr_array_elements.proofs.Shared.{large_grows, shared_held, shared_smaller}
use Rattle.zarr_array_core.proofs.InParts.{parts_of_write}
use Rattle.zarr_array_core.proofs.PlainBytes.{fixed_of_fit, stops_plain}
use Rattle.zarr_array_core.proofs.PutParts.{IsPutCall, plain_call, shared_is, was_put, was_refused}
use Rattle.zarr_array_core.proofs.SeenFrom.{later_start}
use Rattle.zarr_array_core.proofs.array_core.ArrayCore.put_into.Goals as goal

pub whole_cells-requires-clause-small : goal.whole_cells-requires-clause-small
whole_cells-requires-clause-small g c κs within = λ large.
    let document = document_of g.C.ArrayToBytesCodecTraits.meaning c.args.self.now in
    let region : Region = extent_of c.args.write.now.region in
    let box : Region = region_of c.args.own.now in
    let shared : region_of c.in_ok-shared.shared ≡ overlapped region box = shared_is (region_of c.args.write.now.subset.now) region box (region_of c.in_ok-shared.shared) c.args.write.now.same_box c.in_ok-shared.ensures in
    c.requires.writes.small (large_grows document.elements.type (product (overlapped region box).shape) (product box.shape) (shared_smaller region box c.requires.writes.shares) (subst (λ (r : Region). IsTooLarge document.elements.type (product r.shape)) shared large))

pub whole_cells-requires-clause-some : goal.whole_cells-requires-clause-some
whole_cells-requires-clause-some g c κs within =
    let region : Region = extent_of c.args.write.now.region in
    let box : Region = region_of c.args.own.now in
    let shared : region_of c.in_ok-shared.shared ≡ overlapped region box = shared_is (region_of c.args.write.now.subset.now) region box (region_of c.in_ok-shared.shared) c.args.write.now.same_box c.in_ok-shared.ensures in
    subst (λ (r : Region). 0 < product r.shape) (sym shared) (meeting region box c.requires.writes.shares).some

pub whole_cells-requires-clause-rank : goal.whole_cells-requires-clause-rank
whole_cells-requires-clause-rank g c κs within =
    let region : Region = extent_of c.args.write.now.region in
    let box : Region = region_of c.args.own.now in
    let shared : region_of c.in_ok-shared.shared ≡ overlapped region box = shared_is (region_of c.args.write.now.subset.now) region box (region_of c.in_ok-shared.shared) c.args.write.now.same_box c.in_ok-shared.ensures in
    sym (ap (λ (r : Region). length r.start) shared ∙ starts_alike region box c.requires.writes.rank)

pub whole_cells-requires-clause-holds : goal.whole_cells-requires-clause-holds
whole_cells-requires-clause-holds g c κs within =
    let region : Region = extent_of c.args.write.now.region in
    let box : Region = region_of c.args.own.now in
    let shared : region_of c.in_ok-shared.shared ≡ overlapped region box = shared_is (region_of c.args.write.now.subset.now) region box (region_of c.in_ok-shared.shared) c.args.write.now.same_box c.in_ok-shared.ensures in
    subst (λ (r : Region). holds_box region r ≡ true) (sym shared) (shared_held region box c.requires.writes.shares)

pub seen_from-part-requires : goal.seen_from-part-requires
seen_from-part-requires g c =
    let region : Region = extent_of c.args.write.now.region in
    let box : Region = region_of c.args.own.now in
    let shared : region_of c.in_ok-shared.shared ≡ overlapped region box = shared_is (region_of c.args.write.now.subset.now) region box (region_of c.in_ok-shared.shared) c.args.write.now.same_box c.in_ok-shared.ensures in
    subst (λ (os : List ℕ). IsAtMost os c.in_ok-shared.shared.start.items) (sym c.start.ensures) (subst (λ (r : Region). IsAtMost box.start r.start) (sym shared) (later_start region.start box.start c.requires.writes.rank))

pub encode_into-requires-clause-fixed : goal.encode_into-requires-clause-fixed
encode_into-requires-clause-fixed g c κs within =
    let document = document_of g.C.ArrayToBytesCodecTraits.meaning c.args.self.now in
    let region : Region = extent_of c.args.write.now.region in
    let box : Region = region_of c.args.own.now in
    fixed_of_fit document.chain document.elements.type box.shape (parts_of_write document c.args.write.now.options.now region box c.requires.in_part).0 c.requires.fit

pub returns-in-Ok-clause-ok : goal.returns-in-Ok-clause-ok
returns-in-Ok-clause-ok g c =
    let document = document_of g.C.ArrayToBytesCodecTraits.meaning c.args.self.now in
    let region : Region = extent_of c.args.write.now.region in
    let box : Region = region_of c.args.own.now in
    let shared = region_of c.in_ok-shared.shared in
    let part = region_of c.seen_from-part.result in
    let write = write_of g.C.ArrayToBytesCodecTraits c.args.self.now c.args.write.now in
    let payload = payload_of c.in_ok-bytes.bytes in
    let sub = array_cells c.args.self.now c.in_ok-bytes.bytes in
    let same : shared ≡ overlapped region box = shared_is (region_of c.args.write.now.subset.now) region box shared c.args.write.now.same_box c.in_ok-shared.ensures in
    let call : IsPutCall write box shared part c.shape.result.now c.start.result.now payload sub = record { same = same; seen = c.seen_from-part.ensures; from = c.start.ensures; whole = c.shape.ensures; share = c.requires.writes.shares; fit = c.requires.fit; small = c.requires.writes.small; becomes = c.in_ok-bytes.ensures.ok None; counted = c.in_ok-bytes.ensures.counted } in
    let chain = (parts_of_write document c.args.write.now.options.now region box c.requires.in_part).0 in
    let plain = plain_call write box shared part c.shape.result.now c.start.result.now payload sub chain call in
    let found = c.in-Ok.ensures.ok in
    was_put (plain_write write) box shared part c.shape.result.now c.start.result.now payload sub plain (g.C.ArrayToBytesCodecTraits.is_function c.args.self.now.codecs) found.0 (source_contents c.args.source.now) (source_contents c.encode_into.new.source) found.1

pub of_putting-requires : goal.of_putting-requires
of_putting-requires g c =
    let document = document_of g.C.ArrayToBytesCodecTraits.meaning c.args.self.now in
    let region : Region = extent_of c.args.write.now.region in
    let box : Region = region_of c.args.own.now in
    let shared = region_of c.in_ok-shared.shared in
    let part = region_of c.seen_from-part.result in
    let write = write_of g.C.ArrayToBytesCodecTraits c.args.self.now c.args.write.now in
    let payload = payload_of c.in_ok-bytes.bytes in
    let sub = array_cells c.args.self.now c.in_ok-bytes.bytes in
    let same : shared ≡ overlapped region box = shared_is (region_of c.args.write.now.subset.now) region box shared c.args.write.now.same_box c.in_ok-shared.ensures in
    let call : IsPutCall write box shared part c.shape.result.now c.start.result.now payload sub = record { same = same; seen = c.seen_from-part.ensures; from = c.start.ensures; whole = c.shape.ensures; share = c.requires.writes.shares; fit = c.requires.fit; small = c.requires.writes.small; becomes = c.in_ok-bytes.ensures.ok None; counted = c.in_ok-bytes.ensures.counted } in
    let chain = (parts_of_write document c.args.write.now.options.now region box c.requires.in_part).0 in
    let plain = plain_call write box shared part c.shape.result.now c.start.result.now payload sub chain call in
    (was_refused (plain_write write) box shared part c.shape.result.now c.start.result.now payload sub plain (source_contents c.args.source.now) c.in-Err.error chain c.in-Err.ensures.cause c.in-Err.ensures.refused).0

pub returns-clause-err : goal.returns-clause-err
returns-clause-err g c =
    let document = document_of g.C.ArrayToBytesCodecTraits.meaning c.args.self.now in
    let region : Region = extent_of c.args.write.now.region in
    let box : Region = region_of c.args.own.now in
    let shared = region_of c.in_ok-shared.shared in
    let part = region_of c.seen_from-part.result in
    let write = write_of g.C.ArrayToBytesCodecTraits c.args.self.now c.args.write.now in
    let payload = payload_of c.in_ok-bytes.bytes in
    let sub = array_cells c.args.self.now c.in_ok-bytes.bytes in
    let same : shared ≡ overlapped region box = shared_is (region_of c.args.write.now.subset.now) region box shared c.args.write.now.same_box c.in_ok-shared.ensures in
    let call : IsPutCall write box shared part c.shape.result.now c.start.result.now payload sub = record { same = same; seen = c.seen_from-part.ensures; from = c.start.ensures; whole = c.shape.ensures; share = c.requires.writes.shares; fit = c.requires.fit; small = c.requires.writes.small; becomes = c.in_ok-bytes.ensures.ok None; counted = c.in_ok-bytes.ensures.counted } in
    let chain = (parts_of_write document c.args.write.now.options.now region box c.requires.in_part).0 in
    let plain = plain_call write box shared part c.shape.result.now c.start.result.now payload sub chain call in
    let old = source_contents c.args.source.now in
    let told = was_refused (plain_write write) box shared part c.shape.result.now c.start.result.now payload sub plain old c.in-Err.error chain c.in-Err.ensures.cause c.in-Err.ensures.refused in
    subst (λ (e : ChunkError). PutStops document box old e) (sym c.of_putting.ensures) (stops_plain write box old (put_refusal_of c.in-Err.error) chain told.1)
