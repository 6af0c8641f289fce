use Rattle.std.proofs.Common.{◌≡◌, Some, true, IfErr, rules}
use Rattle.std.proofs.lemmas.Result.{IfOk-weaker, IfErr-weaker}
use Rattle.zarr_codecs_meaning.specs.Decoding.{decoded}
use Rattle.zarr_codecs_meaning.specs.Fits.{fits}
use Rattle.zarr_codecs_meaning.proofs.DecodedValues.{decoded_values}
use Rattle.zarr_array_meaning.specs.Arrays.{Array}
use Rattle.zarr_array_meaning.specs.Rewriting.{IsRewritten}
use Rattle.zarr_array_storage.specs.Stores.{value_bytes}
use Rattle.zarr_array_core.specs.Arrays.{array_of}
use Rattle.zarr_array_core.specs.ChunkValues.{DecodeStops, EncodeStops, IsNewValue}
use Rattle.zarr_array_core.specs.Rewriting.{RemakingStops}
use Rattle.zarr_array_core.specs.Views.{array_cells}
use Rattle.zarr_array_core.proofs.Rewritten.{decode_stops, encode_stops, remade}
use Rattle.zarr_array_core.proofs.array_core.ArrayCore.remake_value.Goals as goal

pub returns-in_err-bytes-clause-err : goal.returns-in_err-bytes-clause-err
returns-in_err-bytes-clause-err g c =
    let array : Array = array_of g.C.ArrayToBytesCodecTraits c.args.self.now in
    let document = array.document in
    let empty = c.args.options.now.store_empty_chunks in
    let shape = c.args.shape.now in
    let value = c.args.value.items in
    let fit : fits document.chain document.elements.type shape ≡ true = search rules in
    let told : IfErr c.from_residual-in_err-bytes.result (DecodeStops document shape (Some value)) = search rules in
    IfErr-weaker c.from_residual-in_err-bytes.result (DecodeStops document shape (Some value)) (RemakingStops document empty shape value) (λ e is. decode_stops document empty shape value e fit is) told

pub encode_chunk-requires-clause-values : goal.encode_chunk-requires-clause-values
encode_chunk-requires-clause-values g c κs within =
    let array : Array = array_of g.C.ArrayToBytesCodecTraits c.args.self.now in
    let document = array.document in
    let cells = array_cells c.args.self.now c.in_ok-bytes.bytes in
    let fit : fits document.chain document.elements.type c.args.shape.now ≡ true = search rules in
    let is : decoded document.chain document.elements c.args.shape.now c.args.value.items ≡ Some cells = c.in_ok-bytes.ensures.ok in
    decoded_values document.chain document.elements c.args.shape.now c.args.value.items cells fit c.args.self.now.elements.fills is

pub returns-clause-ok : goal.returns-clause-ok
returns-clause-ok g c =
    let array : Array = array_of g.C.ArrayToBytesCodecTraits c.args.self.now in
    let document = array.document in
    let empty = c.args.options.now.store_empty_chunks in
    let shape = c.args.shape.now in
    let value = c.args.value.items in
    let cells = array_cells c.args.self.now c.in_ok-bytes.bytes in
    let fit : fits document.chain document.elements.type shape ≡ true = search rules in
    let is : decoded document.chain document.elements shape value ≡ Some cells = c.in_ok-bytes.ensures.ok in
    IfOk-weaker c.encode_chunk.result (λ made. IsNewValue array empty shape cells (value_bytes made)) (λ made. IsRewritten array empty shape value (value_bytes made))
    (λ made new. remade array empty shape value cells (value_bytes made) fit is new) c.encode_chunk.ensures.ok

pub returns-clause-err : goal.returns-clause-err
returns-clause-err g c =
    let array : Array = array_of g.C.ArrayToBytesCodecTraits c.args.self.now in
    let document = array.document in
    let empty = c.args.options.now.store_empty_chunks in
    let shape = c.args.shape.now in
    let value = c.args.value.items in
    let cells = array_cells c.args.self.now c.in_ok-bytes.bytes in
    let fit : fits document.chain document.elements.type shape ≡ true = search rules in
    let is : decoded document.chain document.elements shape value ≡ Some cells = c.in_ok-bytes.ensures.ok in
    IfErr-weaker c.encode_chunk.result (EncodeStops document empty shape cells) (RemakingStops document empty shape value) (λ e stops. encode_stops document empty shape value cells e fit is stops) c.encode_chunk.ensures.err
