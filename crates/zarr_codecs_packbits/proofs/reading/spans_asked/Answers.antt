use Rattle.std.proofs.Common.{◌≡◌, ◌<◌, ◌^◌, subst, arith, true}
use Rattle.zarr_grids_boxes.specs.Boxes.{product}
use Rattle.zarr_codecs_traits.specs.Indexers.{are_inside, asked_of}
use Rattle.zarr_codecs_traits.specs.declared.indexer.Indexer.{Indexer}
use Rattle.zarr_codecs_packbits.proofs.PackedParts.{small_numbers}
use Rattle.zarr_codecs_packbits.proofs.reading.spans_asked.Goals as goal

pub spans_of-requires : goal.spans_of-requires
spans_of-requires c =
    let shape = c.args.packed.part.shape.now in
    let small : product shape < 2 ^ 63 = c.args.packed.small in
    small_numbers (product shape) (2 ^ 63) c.in-List.numbers.now (omega (arith, small)) (subst (λ (i : Indexer). are_inside shape (asked_of i) ≡ true) c.in-List.is c.args.packed.inside)
