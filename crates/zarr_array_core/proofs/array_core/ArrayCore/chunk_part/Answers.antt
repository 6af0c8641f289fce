use Rattle.zarr_grids_boxes.specs.Subsets.{region_of}
use Rattle.zarr_array_elements.proofs.Meeting.{shares_own}
use Rattle.zarr_array_meaning.specs.ReadBytes.{box_read}
use Rattle.zarr_array_core.specs.Views.{document_of, path_of}
use Rattle.zarr_array_core.proofs.GivenBytes.{part_given}
use Rattle.zarr_array_core.proofs.SeenFrom.{sharing_ranks}
use Rattle.zarr_array_core.proofs.array_core.ArrayCore.chunk_part.Goals as goal

pub overlap_in-requires : goal.overlap_in-requires
overlap_in-requires g c =
    let grid = (document_of g.C.ArrayToBytesCodecTraits.meaning c.args.self.now).grid in
    let region = region_of c.args.read.now.region.now in
    let own = region_of c.in_ok-own.own in
    sharing_ranks region own (shares_own grid c.args.chunk.now region own c.in_ok-own.ensures.has_box c.requires.shares)

pub part_of-requires-clause-small : goal.part_of-requires-clause-small
part_of-requires-clause-small g c = λ κs lives. c.requires.small.chunks c.args.chunk.now (region_of c.in_ok-own.own) c.in_ok-own.ensures c.requires.shares

pub returns-in-Ok-Some-clause-given : goal.returns-in-Ok-Some-clause-given
returns-in-Ok-Some-clause-given g c = λ honest.
    let s = g.S.ReadableStorageTraits in
    part_given (box_read (path_of c.args.self.now) (document_of g.C.ArrayToBytesCodecTraits.meaning c.args.self.now) (s.held c.args.store.now) (region_of c.args.read.now.region.now) c.args.read.now.options.now.workers) c.args.chunk.now c.in_ok-key.key (region_of c.in_ok-own.own)
    (s.given_bytes c.args.store.now) (s.given_bytes c.part_of.new.store) c.in_ok-own.ensures c.in_ok-key.ensures (c.part_of.ensures.given honest)

pub returns-clause-given : goal.returns-clause-given
returns-clause-given g c = λ honest.
    let s = g.S.ReadableStorageTraits in
    part_given (box_read (path_of c.args.self.now) (document_of g.C.ArrayToBytesCodecTraits.meaning c.args.self.now) (s.held c.args.store.now) (region_of c.args.read.now.region.now) c.args.read.now.options.now.workers) c.args.chunk.now c.in_ok-key.key (region_of c.in_ok-own.own)
    (s.given_bytes c.args.store.now) (s.given_bytes c.part_of.new.store) c.in_ok-own.ensures c.in_ok-key.ensures (c.part_of.ensures.given honest)

pub returns-in_err-size_key-in-Ok-None-clause-given : goal.returns-in_err-size_key-in-Ok-None-clause-given
returns-in_err-size_key-in-Ok-None-clause-given g c = λ honest.
    let s = g.S.ReadableStorageTraits in
    rw c.size_key.ensures.given
    (part_given (box_read (path_of c.args.self.now) (document_of g.C.ArrayToBytesCodecTraits.meaning c.args.self.now) (s.held c.args.store.now) (region_of c.args.read.now.region.now) c.args.read.now.options.now.workers) c.args.chunk.now c.in_ok-key.key (region_of c.in_ok-own.own)
    (s.given_bytes c.args.store.now) (s.given_bytes c.part_of.new.store) c.in_ok-own.ensures c.in_ok-key.ensures (c.part_of.ensures.given honest))

pub returns-in-Some-clause-given : goal.returns-in-Some-clause-given
returns-in-Some-clause-given g c = λ honest.
    let s = g.S.ReadableStorageTraits in
    rw c.size_key.ensures.given
    (part_given (box_read (path_of c.args.self.now) (document_of g.C.ArrayToBytesCodecTraits.meaning c.args.self.now) (s.held c.args.store.now) (region_of c.args.read.now.region.now) c.args.read.now.options.now.workers) c.args.chunk.now c.in_ok-key.key (region_of c.in_ok-own.own)
    (s.given_bytes c.args.store.now) (s.given_bytes c.part_of.new.store) c.in_ok-own.ensures c.in_ok-key.ensures (c.part_of.ensures.given honest))

pub returns-in-Ok-None-clause-given : goal.returns-in-Ok-None-clause-given
returns-in-Ok-None-clause-given g c = λ honest.
    let s = g.S.ReadableStorageTraits in
    rw c.size_key.ensures.given
    (part_given (box_read (path_of c.args.self.now) (document_of g.C.ArrayToBytesCodecTraits.meaning c.args.self.now) (s.held c.args.store.now) (region_of c.args.read.now.region.now) c.args.read.now.options.now.workers) c.args.chunk.now c.in_ok-key.key (region_of c.in_ok-own.own)
    (s.given_bytes c.args.store.now) (s.given_bytes c.part_of.new.store) c.in_ok-own.ensures c.in_ok-key.ensures (c.part_of.ensures.given honest))
