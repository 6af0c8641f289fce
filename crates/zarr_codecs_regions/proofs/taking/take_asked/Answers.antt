use Rattle.std.proofs.Common.{◌≡◌, ◌∙◌, ℕ, List, ap, sym, subst, Some, length, true, IfOk}
use Rattle.zarr_grids_boxes.specs.Subsets.{region_of}
use Rattle.zarr_codecs_meaning.specs.Payloads.{cells_in}
use Rattle.zarr_codecs_meaning.specs.Places.{gather}
use Rattle.zarr_codecs_types.specs.Views.{type_of}
use Rattle.zarr_codecs_arrays.specs.Views.{payload_of}
use Rattle.zarr_codecs_traits.specs.Indexers.{in_box, are_inside, asked_of, numbers_asked, numbers_of}
use Rattle.zarr_codecs_traits.specs.declared.indexer.Indexer.{Indexer}
use Rattle.zarr_codecs_regions.proofs.AskedPlaces.{asked_places}
use Rattle.zarr_codecs_regions.proofs.Gathers.{are_below}
use Rattle.zarr_codecs_regions.proofs.taking.take_asked.Goals as goal

pub returns-in-Subset : goal.returns-in-Subset
returns-in-Subset c = λ cells other h.
    let shape : List ℕ = c.args.shape.now in
    let type = type_of c.args.data_type.now in
    let region = region_of c.in-Subset.region.now in
    let inside = subst (λ (i : Indexer). are_inside shape (asked_of i) ≡ true) c.in-Subset.is c.requires.inside in
    let below : are_below (length cells) (numbers_of shape region) ≡ true = ap (λ n. are_below n (numbers_of shape region)) h.many ∙ asked_places shape (in_box region) inside in
    subst (λ (i : Indexer). IfOk c.take_box.result (λ made. cells_in type (payload_of made) ≡ Some (gather other cells (numbers_asked shape (asked_of i))))) (sym c.in-Subset.is) (c.take_box.ensures cells other h.lists below)

pub returns-in-List : goal.returns-in-List
returns-in-List c = λ cells other h.
    let shape : List ℕ = c.args.shape.now in
    let type = type_of c.args.data_type.now in
    let numbers : List ℕ = c.in-List.numbers.now in
    let inside = subst (λ (i : Indexer). are_inside shape (asked_of i) ≡ true) c.in-List.is c.requires.inside in
    let below : are_below (length cells) numbers ≡ true = ap (λ n. are_below n numbers) h.many ∙ inside in
    subst (λ (i : Indexer). IfOk c.gather.result (λ made. cells_in type (payload_of made) ≡ Some (gather other cells (numbers_asked shape (asked_of i))))) (sym c.in-List.is) (c.gather.ensures cells other h.lists below)
