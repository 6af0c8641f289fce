use Rattle.std.proofs.Common.{refl, subst, sym}
use Rattle.zarr_codecs_arrays.specs.Views.{elements_of}
use Rattle.zarr_codecs_traits.specs.Indexers.{asked_of}
use Rattle.zarr_codecs_traits.specs.declared.indexer.Indexer.{Indexer}
use Rattle.zarr_sharding_codec.specs.Pieces.{PutsPart}
use Rattle.zarr_sharding_codec.proofs.cut_parts.put_found.Goals as goal

pub returns-in-Subset : goal.returns-in-Subset
returns-in-Subset c = subst (λ (i : Indexer). PutsPart (elements_of c.args.elements.now) (asked_of i) c.args.slices.now c.args.found.now c.put_boxes.result) (sym c.in-Subset.is) c.put_boxes.ensures

pub returns-in-List : goal.returns-in-List
returns-in-List c = subst (λ (i : Indexer). PutsPart (elements_of c.args.elements.now) (asked_of i) c.args.slices.now c.args.found.now c.put_listed.result) (sym c.in-List.is) (c.put_listed.ensures c.in-List.numbers.now refl)
