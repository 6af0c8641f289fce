use Rattle.std.proofs.Common.{◌≡◌, ◌∙◌, ◌<◌, ap, sym, subst, arith, length, true}
use Rattle.zarr_codecs_traits.specs.Indexers.{are_inside, asked_of, numbers_asked}
use Rattle.zarr_codecs_traits.specs.declared.indexer.Indexer.{Indexer}
use Rattle.zarr_grids_boxes.specs.Boxes.{product}
use Rattle.zarr_grids_boxes.specs.Subsets.{region_of}
use Rattle.zarr_sharding_codec.proofs.BoxInSubchunk.{numbers_many}
use Rattle.zarr_sharding_codec.proofs.WholeBox.{whole_numbers}
use Rattle.zarr_sharding_codec.proofs.partial.asks_all.Goals as goal

pub returns-in-Subset : goal.returns-in-Subset
returns-in-Subset c = λ told.
    let shape = c.args.shape.now in
    let region = c.in-Subset.region.now in
    let inside = subst (λ (i : Indexer). are_inside shape (asked_of i) ≡ true) c.in-Subset.is c.requires.inside in
    let some = subst (λ (i : Indexer). 0 < length (numbers_asked shape (asked_of i))) c.in-Subset.is c.requires.some in
    let is = sym c.shape.ensures ∙ c.are_equal.ensures told in
    let count = numbers_many shape (region_of region) region.same in
    let size = ap product is in
    ap (λ (i : Indexer). numbers_asked shape (asked_of i)) c.in-Subset.is ∙ whole_numbers shape (region_of region) (omega (arith, some, count, size)) region.same inside is
