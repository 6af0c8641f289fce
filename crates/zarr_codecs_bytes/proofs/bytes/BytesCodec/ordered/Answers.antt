use Rattle.std.proofs.Common.{◌≡◌, ap, ◌∙◌, sym, Option, None, Some, option_map}
use Rattle.zarr_codecs_meaning.specs.Chains.Endianness.{little}
use Rattle.zarr_codecs_meaning.specs.Types.{components, bytes_in}
use Rattle.zarr_codecs_types.specs.Views.{type_of}
use Rattle.zarr_codecs_arrays.proofs.FixedCells.{whole_length}
use Rattle.zarr_codecs_bytes.specs.Orders.{all_ordered}
use Rattle.zarr_codecs_bytes.specs.Views.{order_of}
use Rattle.zarr_codecs_bytes.specs.declared.bytes.Endianness.{Endianness}
use Rattle.zarr_codecs_bytes.specs.declared.bytes.Endianness.TheVariants.{Little}
use Rattle.zarr_codecs_bytes.proofs.Orders.{none_leaves, little_leaves, all_ordered_same}
use Rattle.zarr_codecs_bytes.proofs.bytes.BytesCodec.ordered.Goals as goal

is_little : (endian : Option Endianness) (order : Endianness) → endian ≡ Some order → order ≡ Little → option_map order_of endian ≡ Some little
is_little endian order is low = ap (option_map order_of) is ∙ ap (λ e. Some (order_of e)) low

pub returns-in-None : goal.returns-in-None
returns-in-None c =
    let parts = components (type_of c.args.data_type.now) in
    let same = all_ordered_same None parts _ c.args.bytes.items (none_leaves parts) c.requires.positive (whole_length (bytes_in parts) c.args.bytes.items c.requires.whole) in
    sym (ap (λ endian. all_ordered (option_map order_of endian) parts c.args.bytes.items) c.in-None.is ∙ same)

pub returns-in-Little : goal.returns-in-Little
returns-in-Little c =
    let parts = components (type_of c.args.data_type.now) in
    let same = all_ordered_same (Some little) parts _ c.args.bytes.items (little_leaves parts) c.requires.positive (whole_length (bytes_in parts) c.args.bytes.items c.requires.whole) in
    sym (ap (λ order. all_ordered order parts c.args.bytes.items) (is_little c.args.self.endian c.in-Some.endian c.in-Some.is c.in-Little.is) ∙ same)
