use Rattle.std.proofs.Common.{◌≡◌, ◌∙◌, ◌*◌, Some, IsTrue, length, option_map, ap, sym, subst, true, rules}
use Rattle.std.specs.FinMap.{get, insert}
use Rattle.zarr_grids_boxes.specs.Boxes.{Region, product}
use Rattle.zarr_grids_boxes.specs.Subsets.{region_of}
use Rattle.zarr_codecs_traits.specs.PartEncoding.{takes_patches}
use Rattle.zarr_codecs_traits.specs.Patches.{patches_in, patches_of}
use Rattle.zarr_array_storage.specs.Ranges.{patched_at}
use Rattle.zarr_array_core.specs.PartWrites.{PatchesChunk}
use Rattle.zarr_array_core.specs.BoxWrites.{write_of}
use Rattle.zarr_array_core.specs.Views.{document_of}
use Rattle.zarr_array_core.proofs.PartPatches.{IsSized, sized_part}
use Rattle.zarr_array_core.proofs.array_core.ArrayCore.patch_chunk.Goals as goal

pub returns-clause-ok : goal.returns-clause-ok
returns-clause-ok g c = λ honest done.
    let document = document_of g.C.ArrayToBytesCodecTraits.meaning c.args.self.now in
    let write = write_of g.C.ArrayToBytesCodecTraits c.args.self.now c.args.write.now in
    let width = c.in-Some.width in
    let box : Region = region_of c.args.own.now in
    let held = g.S.ReadableStorageTraits.held c.args.store.now in
    let key = c.args.key.now in
    let size = c.in-Some-3.size in
    let patches = patches_in c.in-Some-2.patches in
    let takes : takes_patches document.chain document.elements.type ≡ true = search rules in
    let told : Some size ≡ option_map length (get held key) = let all = c.in_ok-size.ensures.size honest in search rules in
    let is : IsSized document width held key size = record { sized = c.in-Some.ensures; takes = takes; bytes = c.in_ok-size.ensures.bytes honest; told = told } in
    let right : size ≡ product box.shape * width = search rules in
    let writes : PatchesChunk write box patches = search rules in
    let still : IsTrue (g.S.ReadableStorageTraits.is_honest c.size_key.new.store) = subst IsTrue (sym c.in_ok-size.ensures.honest) honest in
    let new = c.in_ok-set_partial.ensures.ok still ∙ (ap (λ m. insert m key (patched_at m key (patches_of c.as_slice-2.result.now))) c.in_ok-size.ensures.held
    ∙ (ap (λ ps. insert held key (patched_at held key (patches_of ps))) c.as_slice-2.ensures.value ∙ ap (λ ps. insert held key (patched_at held key ps)) c.in_ok-lent.ensures)) in
    sized_part write width box patches held (g.S.ReadableStorageTraits.held c.set_partial.new.store) key size is right writes new
