use Rattle.std.proofs.Common.{◌∙◌, ◌%◌, ap, length, option_map}
use Rattle.std.proofs.Math.Nat.{mul-mod_left}
use Rattle.zarr_grids_boxes.specs.Boxes.{product}
use Rattle.zarr_codecs_meaning.specs.Types.{components, bytes_in}
use Rattle.zarr_codecs_bytes.specs.Orders.{all_ordered}
use Rattle.zarr_codecs_bytes.specs.Parts.{part_width}
use Rattle.zarr_codecs_bytes.specs.Views.{order_of}
use Rattle.zarr_codecs_bytes.proofs.PartWriting.{part_patched}
use Rattle.zarr_codecs_bytes.proofs.patches.part_patches.Goals as goal

pub ordered-requires-clause-whole : goal.ordered-requires-clause-whole
ordered-requires-clause-whole c =
    let width = part_width c.args.part in
    ap (λ t. length c.args.bytes.items % bytes_in (components t)) c.data_type.ensures ∙ (ap (λ n. n % width) c.requires.long ∙ mul-mod_left (product c.args.part.region.now.shape.items) width)

pub returns : goal.returns
returns c =
    let part = c.args.part in
    let order = option_map order_of c.args.codec.endian in
    part_patched order part c.in_ok-found.found c.args.bytes.items c.in_ok-ordered.ordered.items (
    record {
      fit = c.requires.fit;
      some = c.requires.positive;
      many = c.requires.long;
      ranges = c.in_ok-found.ensures;
      is = c.in_ok-ordered.ensures ∙ ap (λ t. all_ordered order (components t) c.args.bytes.items) c.data_type.ensures;
    }
    )
