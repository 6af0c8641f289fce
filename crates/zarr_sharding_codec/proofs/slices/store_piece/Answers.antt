use Rattle.std.proofs.Common.{◌≡◌, ap, sym, ◌∙◌, false, option_map, unwrap_or, Option, List, Vec, Global, ℕ}
use Rattle.zarr_codecs_arrays.specs.Views.{elements_of, payload_of}
use Rattle.zarr_codecs_meaning.specs.Types.{Cell, is_fill}
use Rattle.zarr_sharding_codec.proofs.StoredParts.{encodes_unrefused, piece_refused, piece_stored}
use Rattle.zarr_sharding_codec.proofs.slices.store_piece.Goals as goal

pub returns-in-Ok-clause-stored : goal.returns-in-Ok-clause-stored
returns-in-Ok-clause-stored g c = λ cells valid.
    let elements = elements_of c.args.elements.now in
    let some : is_fill elements.fill cells ≡ false =
    sym (ap (λ (o : Option (List Cell)). unwrap_or (option_map (is_fill elements.fill) o) false) valid.is.lists) ∙ (sym c.is_fill_value.ensures ∙ c.if-is_fill_value.false) in
    piece_stored (g.I.ArrayToBytesCodecTraits.meaning c.args.inner_codecs.now) (g.I.ArrayToBytesCodecTraits.is_function c.args.inner_codecs.now) elements c.args.shape.now (payload_of c.args.piece) cells c.in-Ok.slice some valid
    c.in-Ok.ensures

pub returns-in-Err-clause-stored : goal.returns-in-Err-clause-stored
returns-in-Err-clause-stored g c = λ cells valid.
    let elements = elements_of c.args.elements.now in
    let some : is_fill elements.fill cells ≡ false =
    sym (ap (λ (o : Option (List Cell)). unwrap_or (option_map (is_fill elements.fill) o) false) valid.is.lists) ∙ (sym c.is_fill_value.ensures ∙ c.if-is_fill_value.false) in
    piece_refused (g.I.ArrayToBytesCodecTraits.meaning c.args.inner_codecs.now) (g.I.ArrayToBytesCodecTraits.is_function c.args.inner_codecs.now) elements c.args.shape.now (payload_of c.args.piece) cells c.in-Err.error c.requires some valid
    c.in-Err.ensures

pub returns-in-Err-clause-no_source : goal.returns-in-Err-clause-no_source
returns-in-Err-clause-no_source g c = λ count.
    encodes_unrefused (Option (Vec ℕ Global)) (g.I.ArrayToBytesCodecTraits.meaning c.args.inner_codecs.now) (g.I.ArrayToBytesCodecTraits.is_function c.args.inner_codecs.now) (elements_of c.args.elements.now) c.args.shape.now (payload_of c.args.piece) c.in-Err.error count c.in-Err.ensures
