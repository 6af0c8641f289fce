use Rattle.std.proofs.Common.{ℕ, Option, Vec, Global}
use Rattle.zarr_codecs_types.specs.Views.{type_of}
use Rattle.zarr_codecs_arrays.specs.Views.{elements_of, payload_of}
use Rattle.zarr_codecs_traits.specs.Indexers.{asked_of}
use Rattle.zarr_codecs_traits.specs.Sources.{value_bytes}
use Rattle.zarr_codecs_regions.proofs.Shown.{stored_cells}
use Rattle.zarr_codecs_regions.proofs.WholeWrites.{encode_refused, encoded_whole, has_updated, kept_gapless, update_refused}
use Rattle.zarr_codecs_regions.proofs.whole.updated_value.Goals as goal

pub returns-in-Ok-update_array_bytes-clause-ok : goal.returns-in-Ok-update_array_bytes-clause-ok
returns-in-Ok-update_array_bytes-clause-ok g c =
    let chain = g.C.WholeValues.meaning c.args.codec.now in
    let elements = elements_of c.args.part.elements.now in
    let shape = c.args.part.shape.now in
    let asked = asked_of c.args.part.indexer in
    let payload = payload_of c.args.bytes in
    let array = payload_of c.in-Ok.before in
    let made = payload_of c.in-Ok-update_array_bytes.updated in
    let old = value_bytes c.args.old in
    let found = c.in-Ok-update_array_bytes.ensures in
    let has = has_updated chain elements (type_of c.data_type.result.now) shape asked payload array made old found.0 found.1 (g.met.C.WholeValues.lawful c.args.codec.now) c.args.part.elements.now.fills c.requires.given
    c.in-Ok.ensures c.data_type.ensures found.2 found.3 in encoded_whole chain (g.C.WholeValues.is_function c.args.codec.now) elements shape asked payload array made old c.encode_updated.result has c.encode_updated.ensures

pub returns-in-Ok-update_array_bytes-clause-cause : goal.returns-in-Ok-update_array_bytes-clause-cause
returns-in-Ok-update_array_bytes-clause-cause g c =
    let chain = g.C.WholeValues.meaning c.args.codec.now in
    let elements = elements_of c.args.part.elements.now in
    let shape = c.args.part.shape.now in
    let asked = asked_of c.args.part.indexer in
    let payload = payload_of c.args.bytes in
    let array = payload_of c.in-Ok.before in
    let made = payload_of c.in-Ok-update_array_bytes.updated in
    let old = value_bytes c.args.old in
    let found = c.in-Ok-update_array_bytes.ensures in
    let has = has_updated chain elements (type_of c.data_type.result.now) shape asked payload array made old found.0 found.1 (g.met.C.WholeValues.lawful c.args.codec.now) c.args.part.elements.now.fills c.requires.given
    c.in-Ok.ensures c.data_type.ensures found.2 found.3 in encode_refused chain (g.C.WholeValues.is_function c.args.codec.now) elements shape asked payload array made old c.encode_updated.result has c.encode_updated.ensures

pub returns-in-Ok-update_array_bytes-clause-gapless : goal.returns-in-Ok-update_array_bytes-clause-gapless
returns-in-Ok-update_array_bytes-clause-gapless g c =
    kept_gapless (g.C.WholeValues.meaning c.args.codec.now) (g.C.WholeValues.is_function c.args.codec.now) (elements_of c.args.part.elements.now) c.args.part.shape.now (payload_of c.in-Ok-update_array_bytes.updated) c.encode_updated.result c.encode_updated.ensures

pub returns-clause-cause : goal.returns-clause-cause
returns-clause-cause g c =
    let chain = g.C.WholeValues.meaning c.args.codec.now in
    let elements = elements_of c.args.part.elements.now in
    let shape = c.args.part.shape.now in
    let stored = c.in-Ok.ensures in
    let before = stored_cells chain elements shape (value_bytes c.args.old) stored.cells c.requires.given.fit c.args.part.elements.now.fills stored.is in
    update_refused (Option (Vec ℕ Global)) chain elements (type_of c.data_type.result.now) shape (asked_of c.args.part.indexer) (payload_of c.args.bytes) (payload_of c.in-Ok.before) (value_bytes c.args.old) stored.cells c.in-Err-update_array_bytes.error c.requires.given.fit
    (record { lists = stored.lists; many = before.whole }) c.data_type.ensures c.in-Err-update_array_bytes.ensures
