use Rattle.std.proofs.Common.{subst, sym}
use Rattle.zarr_codecs_arrays.specs.Views.{elements_of, payload_of}
use Rattle.zarr_array_core.specs.ChunkValues.{EncodeRefuses}
use Rattle.zarr_array_core.specs.declared.error.ChunkError.{ChunkError}
use Rattle.zarr_array_core.specs.Views.{document_of, array_cells}
use Rattle.zarr_array_core.proofs.ChunkPayloads.{AreArrayElements, encoded_as, encoded_stands_for, why_refused, refusal_told}
use Rattle.zarr_array_core.proofs.array_core.ArrayCore.encode_value.Goals as goal

pub returns-in-Ok-clause-ok : goal.returns-in-Ok-clause-ok
returns-in-Ok-clause-ok g c =
    let elements = elements_of c.args.self.now.elements in
    let cells = array_cells c.args.self.now c.args.bytes in
    let are : AreArrayElements elements c.args.shape.now (payload_of c.args.bytes) cells = record { valid = record { is = c.requires.counted; values = c.requires.values }; small = c.requires.small } in
    encoded_stands_for (g.C.ArrayToBytesCodecTraits.meaning c.args.self.now.codecs) (g.C.ArrayToBytesCodecTraits.is_function c.args.self.now.codecs) elements c.args.shape.now (payload_of c.args.bytes) cells c.in-Ok.value are c.in-Ok.ensures

pub returns-in-Ok-clause-encodes : goal.returns-in-Ok-clause-encodes
returns-in-Ok-clause-encodes g c =
    let elements = elements_of c.args.self.now.elements in
    let cells = array_cells c.args.self.now c.args.bytes in
    let are : AreArrayElements elements c.args.shape.now (payload_of c.args.bytes) cells = record { valid = record { is = c.requires.counted; values = c.requires.values }; small = c.requires.small } in
    encoded_as (g.C.ArrayToBytesCodecTraits.meaning c.args.self.now.codecs) (g.C.ArrayToBytesCodecTraits.is_function c.args.self.now.codecs) elements c.args.shape.now (payload_of c.args.bytes) cells c.in-Ok.value are c.in-Ok.ensures

pub of_encoding-requires : goal.of_encoding-requires
of_encoding-requires g c =
    let document = document_of g.C.ArrayToBytesCodecTraits.meaning c.args.self.now in
    let elements = elements_of c.args.self.now.elements in
    let cells = array_cells c.args.self.now c.args.bytes in
    let are : AreArrayElements elements c.args.shape.now (payload_of c.args.bytes) cells = record { valid = record { is = c.requires.counted; values = c.requires.values }; small = c.requires.small } in
    (refusal_told document c.args.shape.now cells c.in-Err.error (why_refused document.chain (g.C.ArrayToBytesCodecTraits.is_function c.args.self.now.codecs) elements c.args.shape.now (payload_of c.args.bytes) cells c.in-Err.error are c.requires.fit c.in-Err.ensures)).0

pub returns-in-Err-clause-err : goal.returns-in-Err-clause-err
returns-in-Err-clause-err g c =
    let document = document_of g.C.ArrayToBytesCodecTraits.meaning c.args.self.now in
    let elements = elements_of c.args.self.now.elements in
    let cells = array_cells c.args.self.now c.args.bytes in
    let are : AreArrayElements elements c.args.shape.now (payload_of c.args.bytes) cells = record { valid = record { is = c.requires.counted; values = c.requires.values }; small = c.requires.small } in
    subst (λ (e : ChunkError). EncodeRefuses document c.args.shape.now cells e) (sym c.of_encoding.ensures)
    (refusal_told document c.args.shape.now cells c.in-Err.error (why_refused document.chain (g.C.ArrayToBytesCodecTraits.is_function c.args.self.now.codecs) elements c.args.shape.now (payload_of c.args.bytes) cells c.in-Err.error are c.requires.fit c.in-Err.ensures)).1
