use Rattle.std.proofs.Common.{◌∙◌, map, sym}
use Rattle.zarr_codecs_array_to_array.specs.Entries.{entry_of}
use Rattle.zarr_codecs_array_to_array.proofs.NewSizes.{not_there, other_product, sized, too_large}
use Rattle.zarr_codecs_array_to_array.proofs.sizes.left_size.Goals.{else-product_of-count-via-then-product_of-count+else-are_sizes, else-product_of-count-via-else-product_of-count}
use Rattle.zarr_codecs_array_to_array.proofs.sizes.left_size.Goals as goal

pub returns-then-not-fit_all : goal.returns-then-not-fit_all
returns-then-not-fit_all c = not_there (map entry_of c.args.dimensions.now) c.args.shape.now c.product_of-known.result c.product_of-known.ensures (sym c.fit_all.ensures ∙ c.if-not-fit_all.true)

pub returns-then-are_sizes : goal.returns-then-are_sizes
returns-then-are_sizes c =
    sized (map entry_of c.args.dimensions.now) c.args.shape.now c.product_of-known.result c.in_ok-count.field-0 c.divided-left.result c.product_of-known.ensures c.in_ok-count.ensures.0 c.in_ok-count.ensures.1 c.divided-left.ensures
    (sym c.fit_all.ensures ∙ c.if-not-fit_all.false) (sym c.product_of.ensures ∙ c.if-product_of-count.true) (sym c.are_sizes.ensures ∙ c.if-are_sizes.true)

pub returns-else-product_of-count : goal.returns-else-product_of-count
returns-else-product_of-count c = elim c.else-product_of-count.branch [
  | else-product_of-count-via-then-product_of-count+else-are_sizes w ↦
      too_large (map entry_of c.args.dimensions.now) c.args.shape.now c.product_of-known.result c.in_ok-count.field-0 c.divided-left.result c.product_of-known.ensures c.in_ok-count.ensures.0 c.in_ok-count.ensures.1 c.divided-left.ensures (sym w.are_sizes.ensures ∙ w.if-are_sizes.false)
  | else-product_of-count-via-else-product_of-count w ↦
      other_product (map entry_of c.args.dimensions.now) c.args.shape.now c.product_of-known.result c.in_ok-count.field-0 c.divided-left.result c.product_of-known.ensures c.in_ok-count.ensures.0 c.in_ok-count.ensures.1 c.divided-left.ensures (λ e. w.if-product_of-count.false (c.product_of.ensures ∙ e))
]
