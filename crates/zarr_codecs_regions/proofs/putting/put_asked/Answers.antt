use Rattle.std.proofs.Common.{◌≡◌, sym, subst, length, Some, IfOk}
use Rattle.zarr_codecs_arrays.specs.Views.{payload_of}
use Rattle.zarr_codecs_meaning.specs.Payloads.{cells_in}
use Rattle.zarr_codecs_regions.specs.Updates.{put}
use Rattle.zarr_codecs_traits.specs.Indexers.{asked_of, numbers_asked}
use Rattle.zarr_codecs_traits.specs.declared.indexer.Indexer.{Indexer}
use Rattle.zarr_codecs_types.specs.Views.{type_of}
use Rattle.zarr_codecs_regions.proofs.putting.put_asked.Goals as goal

pub returns-in-Subset : goal.returns-in-Subset
returns-in-Subset c = λ before given b g.
    let type = type_of c.args.data_type.now in
    let shape = c.args.shape.now in
    let many = subst (λ (i : Indexer). length given ≡ length (numbers_asked shape (asked_of i))) c.in-Subset.is g.many in
    subst (λ (i : Indexer). IfOk c.put_in_box.result (λ made. cells_in type (payload_of made) ≡ Some (put (numbers_asked shape (asked_of i)) given before))) (sym c.in-Subset.is) (c.put_in_box.ensures before given b.lists b.many g.lists many)
