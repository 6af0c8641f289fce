use Rattle.std.proofs.Common.{◌∙◌, ℕ, List, sym, ap}
use Rattle.std.specs.FinMap.{get}
use Rattle.std.proofs.lemmas.Bool.{and_parts}
use Rattle.zarr_grids_boxes.specs.Subsets.{region_of}
use Rattle.zarr_array_elements.proofs.Meeting.{shares_own}
use Rattle.zarr_array_meaning.specs.Chunks.{holds_box}
use Rattle.zarr_array_meaning.specs.ReadBytes.{box_read}
use Rattle.zarr_array_storage.specs.Stores.{value_bytes}
use Rattle.zarr_array_core.specs.Views.{document_of, path_of}
use Rattle.zarr_array_core.proofs.GivenBytes.{value_given}
use Rattle.zarr_array_core.proofs.SeenFrom.{sharing_ranks}
use Rattle.zarr_array_core.proofs.array_core.ArrayCore.fetch_chunk.Goals as goal

pub is_whole-requires : goal.is_whole-requires
is_whole-requires g c =
    let grid = (document_of g.C.ArrayToBytesCodecTraits.meaning c.args.self.now).grid in
    let region = region_of c.args.read.now.region.now in
    let own = region_of c.in_ok-own.own in
    sym (sharing_ranks region own (shares_own grid c.args.chunk.now region own c.in_ok-own.ensures.has_box c.requires.shares))

pub returns-in-Some-clause-fetched : goal.returns-in-Some-clause-fetched
returns-in-Some-clause-fetched g c =
    let held = g.S.ReadableStorageTraits.held c.args.store.now in
    record {
      below = c.in_ok-own.ensures;
      shares = c.requires.shares;
      holds = (and_parts c.args.read.now.options.now.workers (holds_box (region_of c.args.read.now.region.now) (region_of c.in_ok-own.own)) (sym c.is_whole.ensures ∙ c.if-not-is_whole.false)).1;
      small = c.requires.small.chunks c.args.chunk.now (region_of c.in_ok-own.own) c.in_ok-own.ensures c.requires.shares;
      is = λ honest. ap (λ (k : List ℕ). get held k) (sym c.in_ok-key.ensures) ∙ (sym (c.in_ok-value.ensures.value honest) ∙ ap value_bytes c.in-Some.is);
    }

pub returns-in_err-value-clause-given : goal.returns-in_err-value-clause-given
returns-in_err-value-clause-given g c = λ honest.
    let s = g.S.ReadableStorageTraits in
    value_given (box_read (path_of c.args.self.now) (document_of g.C.ArrayToBytesCodecTraits.meaning c.args.self.now) (s.held c.args.store.now) (region_of c.args.read.now.region.now) c.args.read.now.options.now.workers) c.args.chunk.now c.in_ok-key.key (region_of c.in_ok-own.own)
    (s.given_bytes c.args.store.now) (s.given_bytes c.get.new.store) c.in_ok-own.ensures c.in_ok-key.ensures (sym c.is_whole.ensures ∙ c.if-not-is_whole.false) (c.get.ensures.given honest)

pub returns-in-Some-clause-given : goal.returns-in-Some-clause-given
returns-in-Some-clause-given g c = λ honest.
    let s = g.S.ReadableStorageTraits in
    value_given (box_read (path_of c.args.self.now) (document_of g.C.ArrayToBytesCodecTraits.meaning c.args.self.now) (s.held c.args.store.now) (region_of c.args.read.now.region.now) c.args.read.now.options.now.workers) c.args.chunk.now c.in_ok-key.key (region_of c.in_ok-own.own)
    (s.given_bytes c.args.store.now) (s.given_bytes c.get.new.store) c.in_ok-own.ensures c.in_ok-key.ensures (sym c.is_whole.ensures ∙ c.if-not-is_whole.false) (c.get.ensures.given honest)

pub returns-clause-given : goal.returns-clause-given
returns-clause-given g c = λ honest.
    let s = g.S.ReadableStorageTraits in
    value_given (box_read (path_of c.args.self.now) (document_of g.C.ArrayToBytesCodecTraits.meaning c.args.self.now) (s.held c.args.store.now) (region_of c.args.read.now.region.now) c.args.read.now.options.now.workers) c.args.chunk.now c.in_ok-key.key (region_of c.in_ok-own.own)
    (s.given_bytes c.args.store.now) (s.given_bytes c.get.new.store) c.in_ok-own.ensures c.in_ok-key.ensures (sym c.is_whole.ensures ∙ c.if-not-is_whole.false) (c.get.ensures.given honest)
