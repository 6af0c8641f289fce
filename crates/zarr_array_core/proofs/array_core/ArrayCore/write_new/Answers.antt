use Rattle.std.proofs.Common.{◌≡◌, ◌∙◌, ℕ, List, Option, Some, replicate, subst, rules}
use Rattle.std.specs.FinMap.{get, insert}
use Rattle.zarr_grids_boxes.specs.Boxes.{Region, product}
use Rattle.zarr_grids_boxes.specs.Subsets.{region_of}
use Rattle.zarr_codecs_meaning.specs.Decoding.{decoded}
use Rattle.zarr_codecs_traits.specs.Patches.{patched, patches_of}
use Rattle.zarr_array_core.specs.ChunkValues.{MakesValue, with_value}
use Rattle.zarr_array_core.specs.BoxWrites.{write_of}
use Rattle.zarr_array_core.specs.Views.{document_of}
use Rattle.zarr_array_core.proofs.ZeroFills.{on_ok, zeros_part}
use Rattle.zarr_array_core.proofs.array_core.ArrayCore.write_new.Goals as goal

pub returns-in-Some-2-clause-ok : goal.returns-in-Some-2-clause-ok
returns-in-Some-2-clause-ok g c = λ honest.
    let document = document_of g.C.ArrayToBytesCodecTraits.meaning c.args.self.now in
    let write = write_of g.C.ArrayToBytesCodecTraits c.args.self.now c.args.write.now in
    let box : Region = region_of c.args.own.now in
    let held = g.S.ReadableStorageTraits.held c.args.store.now in
    let new = g.S.ReadableStorageTraits.held c.set.new.store in
    let key = c.args.key.now in
    let size = c.in-Some.size in
    let patches = patches_of c.args.patches.now in
    let value = c.as_slice.result.now in
    let fills : decoded document.chain document.elements c.shape.result.now (replicate size 0) ≡ Some (replicate (product c.shape.result.now) document.elements.fill) = let all = c.in-Some.ensures c.requires.takes in search rules in
    let here : decoded document.chain document.elements box.shape (replicate size 0) ≡ Some (replicate (product box.shape) document.elements.fill) =
    subst (λ (shape : List ℕ). decoded document.chain document.elements shape (replicate size 0) ≡ Some (replicate (product shape) document.elements.fill)) c.shape.ensures fills in
    let made : c.in-Some-2.value.items ≡ patched (replicate size 0) patches = search rules in
    on_ok c.set.result (new ≡ insert held key value) ((made : Option (List ℕ)) × MakesValue write box (get held key) made × (new ≡ with_value held key made))
    (λ set. zeros_part write box patches held new key value size here c.requires.patches (c.requires.absent honest) (c.as_slice.ensures.value ∙ made) set) (c.set.ensures.ok honest)
