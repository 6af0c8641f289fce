use Rattle.std.proofs.Common.{◌∙◌, ℕ, List, ap, subst, sym}
use Rattle.zarr_codecs_arrays.specs.Views.{payload_of}
use Rattle.std.specs.List.{list_all}
use Rattle.zarr_codecs_meaning.specs.Types.{is_value}
use Rattle.zarr_grids_boxes.specs.Boxes.{product}
use Rattle.zarr_grids_boxes.specs.Subsets.{region_of}
use Rattle.zarr_array_core.specs.Arrays.{CalledMany, array_of}
use Rattle.zarr_array_core.specs.Turns.{HadTurns}
use Rattle.zarr_array_core.specs.Views.{document_of}
use Rattle.zarr_array_core.proofs.ChunksWritten.{some_chunk}
use Rattle.zarr_array_core.proofs.NthChunks.{length-intersecting}
use Rattle.zarr_array_elements.proofs.FixedPuts.{counted, known}
use Rattle.zarr_array_core.proofs.array_core.ArrayCore.write_region.Goals as goal

pub write_chunks-requires-clause-some : goal.write_chunks-requires-clause-some
write_chunks-requires-clause-some g c κs within =
    some_chunk (document_of g.C.ArrayToBytesCodecTraits.meaning c.args.self.now).grid (region_of c.args.target.region.now) (region_of c.args.target.chunks.now) c.args.target.region.now.same (sym c.args.target.chunks.now.same) c.requires.some c.requires.covered c.requires.intersecting

pub write_chunks-requires-clause-many : goal.write_chunks-requires-clause-many
write_chunks-requires-clause-many g c κs within =
    let type = (document_of g.C.ArrayToBytesCodecTraits.meaning c.args.self.now).elements.type in
    let valid = c.requires.valid.1 in
    counted type (payload_of c.args.target.bytes.now) c.requires.valid.0 _ valid.is.lists (valid.is.many ∙ ap product (sym c.shape-shape.ensures))

pub write_chunks-requires-clause-values : goal.write_chunks-requires-clause-values
write_chunks-requires-clause-values g c κs within =
    let type = (document_of g.C.ArrayToBytesCodecTraits.meaning c.args.self.now).elements.type in
    let valid = c.requires.valid.1 in
    ap (list_all (is_value type)) (known type (payload_of c.args.target.bytes.now) c.requires.valid.0 valid.is.lists) ∙ valid.values

pub returns-clause-store : goal.returns-clause-store
returns-clause-store g c =
    let document = document_of g.C.ArrayToBytesCodecTraits.meaning c.args.self.now in
    let all = length-intersecting document.grid (region_of c.args.target.region.now) (region_of c.args.target.chunks.now) (sym c.args.target.chunks.now.same) c.requires.intersecting in
    subst (λ (n : ℕ). CalledMany g.S.ReadableStorageTraits n c.args.store.now c.write_chunks.new.store c.write_chunks.result) (sym all) c.write_chunks.ensures.store

pub returns-clause-turns : goal.returns-clause-turns
returns-clause-turns g c =
    let array = array_of g.C.ArrayToBytesCodecTraits c.args.self.now in
    subst (λ (chunks : List (List ℕ)). HadTurns g.S.ReadableStorageTraits (record { array = array; chunks = chunks }) c.args.store.now c.write_chunks.new.store c.write_chunks.result) c.requires.intersecting.listed c.write_chunks.ensures.turns
