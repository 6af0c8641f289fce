use Rattle.std.proofs.Common.{refl}
use Rattle.serde_json.specs.Data.{array}
use Rattle.zarr_codecs_meaning.specs.Types.{integer, unsigned}
use Rattle.zarr_codecs_types.specs.FillMetadata.{byte_items}
use Rattle.zarr_codecs_json.specs.Texts.{fixed_data}
use Rattle.zarr_codecs_json.proofs.PrintedCells.{list_appended, bytes_as_items}
use Rattle.zarr_codecs_json.proofs.cells.push_byte_list.Goals as goal

pub returns-clause-ok : goal.returns-clause-ok
returns-clause-ok c =
    let bytes = c.args.bytes.now in
    (array (byte_items bytes), refl, list_appended c.args.text.now.items c.push.new.self.items c.push_numbers.new.text.items (fixed_data (integer unsigned 8) 1 bytes) (byte_items bytes) c.in_ok-push.ensures.items c.in_ok-push_numbers.ensures.ok (bytes_as_items bytes))
