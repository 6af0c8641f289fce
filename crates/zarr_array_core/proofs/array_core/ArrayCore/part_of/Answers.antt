use Rattle.std.proofs.Common.{◌≡◌, ◌∙◌, ◌≤◌, ℕ, List, true, Option, Some, Ok, Err, subst, sym, ap}
use Rattle.std.specs.FinMap.{get}
use Rattle.zarr_grids_boxes.specs.Boxes.{Region, product}
use Rattle.zarr_grids_boxes.specs.Cuts.{IsAtMost, overlapped}
use Rattle.zarr_grids_boxes.specs.Subsets.{region_of}
use Rattle.zarr_codecs_arrays.specs.Outcomes.{IsCounted}
use Rattle.zarr_codecs_arrays.specs.Views.{payload_of}
use Rattle.zarr_codecs_arrays.specs.declared.array_bytes.ArrayBytes.{ArrayBytes}
use Rattle.zarr_codecs_traits.specs.Indexers.{in_box, shape_has}
use Rattle.zarr_codecs_traits.specs.Arrays.{coded}
use Rattle.zarr_codecs_traits.specs.Outcomes.{IsPart}
use Rattle.zarr_array_elements.proofs.Shared.{large_grows, shared_smaller}
use Rattle.zarr_array_core.specs.Parts.{DecodesElements}
use Rattle.zarr_array_core.specs.Views.{document_of}
use Rattle.zarr_array_core.proofs.GivenBytes.{shared_given}
use Rattle.zarr_array_core.proofs.SeenFrom.{later_start, sharing_ranks}
use Rattle.zarr_array_core.proofs.Placed.{meets, decode_stops, part_counted}
use Rattle.zarr_array_core.proofs.array_core.ArrayCore.part_of.Goals as goal

pub seen_from-part-requires : goal.seen_from-part-requires
seen_from-part-requires g c =
    let region : Region = region_of c.args.read.now.region.now in
    let own : Region = region_of c.args.chunk.own.now in
    subst (λ (os : List ℕ). IsAtMost os c.args.shared.start.items) (sym c.start.ensures)
    (subst (λ (r : Region). IsAtMost own.start r.start) (sym c.requires.shared) (later_start region.start own.start (sym (sharing_ranks region own c.requires.shares))))

pub overlap_in-requires : goal.overlap_in-requires
overlap_in-requires g c = sharing_ranks (region_of c.args.read.now.region.now) (region_of c.args.chunk.own.now) c.requires.shares

pub decode_part-requires-clause-inside : goal.decode_part-requires-clause-inside
decode_part-requires-clause-inside g c =
    let moved = rw c.start.ensures at c.seen_from-part.ensures in
    let meet = meets (region_of c.args.read.now.region.now) (region_of c.args.chunk.own.now) (region_of c.args.shared) (region_of c.seen_from-part.result) c.requires.shares c.requires.shared moved in
    let inside : shape_has c.shape-shape.result.now (region_of c.seen_from-part.result) ≡ true = rw c.shape-shape.ensures meet.inside in
    λ κs lives. inside

pub returns-in-Err-clause-err : goal.returns-in-Err-clause-err
returns-in-Err-clause-err g c = λ honest.
    let document = document_of g.C.ArrayToBytesCodecTraits.meaning c.args.self.now in
    let region : Region = region_of c.args.read.now.region.now in
    let own : Region = region_of c.args.chunk.own.now in
    let stored : Option (List ℕ) = get (g.S.ReadableStorageTraits.held c.args.store.now) c.args.chunk.key.now in
    let moved = rw c.start.ensures at c.seen_from-part.ensures in
    let meet = meets region own (region_of c.args.shared) (region_of c.seen_from-part.result) c.requires.shares c.requires.shared moved in
    decode_stops (record { document = document; region = region; box = own; stored = stored }) (region_of c.args.shared) (region_of c.seen_from-part.result) c.in-Err.error meet
    (subst (λ (shape : List ℕ). DecodesElements document shape stored (region_of c.seen_from-part.result) (Err c.in-Err.error)) c.shape-shape.ensures (c.in-Err.ensures.part honest))

pub count_elements-count-requires : goal.count_elements-count-requires
count_elements-count-requires g c = record {
  small = λ large.
      let document = document_of g.C.ArrayToBytesCodecTraits.meaning c.args.self.now in
      let region : Region = region_of c.args.read.now.region.now in
      let own : Region = region_of c.args.chunk.own.now in
      let shape : c.shape.result.now ≡ (overlapped region own).shape = c.shape.ensures ∙ (ap (λ (r : Region). r.shape) c.seen_from-part.ensures ∙ ap (λ (r : Region). r.shape) c.requires.shared) in
      let fewer : product c.shape.result.now ≤ product own.shape = subst (λ (s : List ℕ). product s ≤ product own.shape) (sym shape) (shared_smaller region own c.requires.shares) in
      c.requires.small (large_grows document.elements.type (product c.shape.result.now) (product own.shape) fewer large);
}

pub returns-then-not-are_so_many-clause-err : goal.returns-then-not-are_so_many-clause-err
returns-then-not-are_so_many-clause-err g c = λ honest.
    let document = document_of g.C.ArrayToBytesCodecTraits.meaning c.args.self.now in
    let region : Region = region_of c.args.read.now.region.now in
    let own : Region = region_of c.args.chunk.own.now in
    let shared : Region = region_of c.args.shared in
    let part : Region = region_of c.seen_from-part.result in
    let payload = payload_of c.in-Ok-Some.bytes in
    let stored : Option (List ℕ) = get (g.S.ReadableStorageTraits.held c.args.store.now) c.args.chunk.key.now in
    let moved = rw c.start.ensures at c.seen_from-part.ensures in
    let meet = meets region own shared part c.requires.shares c.requires.shared moved in
    let is : IsPart (coded document.chain document.elements own.shape) stored (in_box part) payload = subst (λ (shape : List ℕ). DecodesElements document shape stored part (Ok (Some c.in-Ok-Some.bytes))) c.shape-shape.ensures
    (subst (λ (o : Option ArrayBytes). DecodesElements document c.shape-shape.result.now stored part (Ok o)) c.in-Ok-Some.field-0-is (c.in-Ok-Some.ensures.part honest)) in
    let counted = part_counted document region own shared part stored payload meet is in
    let count : c.count_elements-count.result ≡ product shared.shape = c.count_elements-count.ensures ∙ ap product (c.shape.ensures ∙ ap (λ (r : Region). r.shape) c.seen_from-part.ensures) in
    absurd (c.are_so_many.ensures.no c.if-not-are_so_many.true is.cells (subst (λ n. IsCounted document.elements.type payload n is.cells) (sym count) counted))

pub returns-in-Ok-None-clause-given : goal.returns-in-Ok-None-clause-given
returns-in-Ok-None-clause-given g c = λ honest.
    let s = g.S.ReadableStorageTraits in
    shared_given (document_of g.C.ArrayToBytesCodecTraits.meaning c.args.self.now) (region_of c.args.read.now.region.now) (region_of c.args.chunk.own.now) (region_of c.args.shared) (region_of c.seen_from-part.result) c.shape-shape.result.now c.start.result.now
    (get (s.held c.args.store.now) c.args.chunk.key.now) (s.given_bytes c.args.store.now) (s.given_bytes c.decode_part.new.store) c.shape-shape.ensures c.start.ensures c.requires.shared c.seen_from-part.ensures (c.decode_part.ensures.given honest)

pub returns-in-Err-clause-given : goal.returns-in-Err-clause-given
returns-in-Err-clause-given g c = λ honest.
    let s = g.S.ReadableStorageTraits in
    shared_given (document_of g.C.ArrayToBytesCodecTraits.meaning c.args.self.now) (region_of c.args.read.now.region.now) (region_of c.args.chunk.own.now) (region_of c.args.shared) (region_of c.seen_from-part.result) c.shape-shape.result.now c.start.result.now
    (get (s.held c.args.store.now) c.args.chunk.key.now) (s.given_bytes c.args.store.now) (s.given_bytes c.decode_part.new.store) c.shape-shape.ensures c.start.ensures c.requires.shared c.seen_from-part.ensures (c.decode_part.ensures.given honest)

pub returns-then-not-are_so_many-clause-given : goal.returns-then-not-are_so_many-clause-given
returns-then-not-are_so_many-clause-given g c = λ honest.
    let s = g.S.ReadableStorageTraits in
    shared_given (document_of g.C.ArrayToBytesCodecTraits.meaning c.args.self.now) (region_of c.args.read.now.region.now) (region_of c.args.chunk.own.now) (region_of c.args.shared) (region_of c.seen_from-part.result) c.shape-shape.result.now c.start.result.now
    (get (s.held c.args.store.now) c.args.chunk.key.now) (s.given_bytes c.args.store.now) (s.given_bytes c.decode_part.new.store) c.shape-shape.ensures c.start.ensures c.requires.shared c.seen_from-part.ensures (c.decode_part.ensures.given honest)

pub returns-in_err-shared-clause-given : goal.returns-in_err-shared-clause-given
returns-in_err-shared-clause-given g c = λ honest.
    let s = g.S.ReadableStorageTraits in
    shared_given (document_of g.C.ArrayToBytesCodecTraits.meaning c.args.self.now) (region_of c.args.read.now.region.now) (region_of c.args.chunk.own.now) (region_of c.args.shared) (region_of c.seen_from-part.result) c.shape-shape.result.now c.start.result.now
    (get (s.held c.args.store.now) c.args.chunk.key.now) (s.given_bytes c.args.store.now) (s.given_bytes c.decode_part.new.store) c.shape-shape.ensures c.start.ensures c.requires.shared c.seen_from-part.ensures (c.decode_part.ensures.given honest)

pub returns-clause-given : goal.returns-clause-given
returns-clause-given g c = λ honest.
    let s = g.S.ReadableStorageTraits in
    shared_given (document_of g.C.ArrayToBytesCodecTraits.meaning c.args.self.now) (region_of c.args.read.now.region.now) (region_of c.args.chunk.own.now) (region_of c.args.shared) (region_of c.seen_from-part.result) c.shape-shape.result.now c.start.result.now
    (get (s.held c.args.store.now) c.args.chunk.key.now) (s.given_bytes c.args.store.now) (s.given_bytes c.decode_part.new.store) c.shape-shape.ensures c.start.ensures c.requires.shared c.seen_from-part.ensures (c.decode_part.ensures.given honest)
