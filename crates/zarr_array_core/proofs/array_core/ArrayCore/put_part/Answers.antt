use Rattle.std.proofs.Common.{◌≡◌, ◌∙◌, ℕ, List, Option, Some, IsTrue, true, refl, ap, sym, subst, inr, rules}
use Rattle.std.specs.FinMap.{get, insert}
use Rattle.zarr_grids_boxes.specs.Boxes.{Region}
use Rattle.zarr_grids_boxes.specs.Subsets.{region_of}
use Rattle.zarr_grids_overlay.specs.Overlays.{extent_of}
use Rattle.zarr_array_meaning.specs.ElementBytes.{KeepsBytes}
use Rattle.zarr_array_meaning.specs.StoreMaps.{StoreMap}
use Rattle.zarr_array_meaning.specs.Writing.{is_in_part}
use Rattle.zarr_array_storage.specs.Stores.{value_bytes}
use Rattle.zarr_array_core.specs.ChunkValues.{ChangesValue, PutsCells, PutsPart, with_value}
use Rattle.zarr_array_core.specs.BoxWrites.{write_of}
use Rattle.zarr_array_core.specs.Views.{document_of}
use Rattle.zarr_array_core.proofs.ZeroFills.{on_ok}
use Rattle.zarr_array_core.proofs.array_core.ArrayCore.put_part.Goals as goal

pub returns-clause-ok : goal.returns-clause-ok
returns-clause-ok g c = λ honest.
    let document = document_of g.C.ArrayToBytesCodecTraits.meaning c.args.self.now in
    let write = write_of g.C.ArrayToBytesCodecTraits c.args.self.now c.args.write.now in
    let options = c.args.write.now.options.now in
    let region : Region = extent_of c.args.write.now.region in
    let box : Region = region_of c.args.own.now in
    let held = g.S.ReadableStorageTraits.held c.args.store.now in
    let new = g.S.ReadableStorageTraits.held c.set.new.store in
    let key = c.args.key.now in
    let value = c.as_slice.result.now in
    let in_part : is_in_part document options region box ≡ true = search rules in
    let still : IsTrue (g.S.ReadableStorageTraits.is_honest c.get.new.store) = subst IsTrue (sym c.in_ok-stored.ensures.honest) honest in
    let puts : PutsCells write box (get held key) (Some value) =
    subst (λ (o : Option (List ℕ)). PutsCells write box o (Some value)) (c.in_ok-stored.ensures.value honest)
    (subst (λ (v : List ℕ). PutsCells write box (value_bytes c.in_ok-stored.stored) (Some v)) (sym c.as_slice.ensures.value) c.in_ok-value.ensures.ok) in
    let keeps : KeepsBytes write box (get held key) (Some value) =
    subst (λ (o : Option (List ℕ)). KeepsBytes write box o (Some value)) (c.in_ok-stored.ensures.value honest)
    (subst (λ (v : List ℕ). KeepsBytes write box (value_bytes c.in_ok-stored.stored) (Some v)) (sym c.as_slice.ensures.value) c.in_ok-value.ensures.bytes) in
    let part : PutsPart write box (get held key) (Some value) = record { fit = c.requires.fit; in_part = in_part; lost = c.requires.lost honest; some = refl; puts = puts; bytes = keeps } in
    on_ok c.set.result (new ≡ insert (g.S.ReadableStorageTraits.held c.get.new.store) key value)
    ((made : Option (List ℕ)) × ChangesValue write box (get held key) made × (new ≡ with_value held key made))
    (λ set. (Some value, inr part, set ∙ ap (λ (m : StoreMap). insert m key value) c.in_ok-stored.ensures.held)) (c.set.ensures.ok still)
