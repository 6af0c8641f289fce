use Rattle.std.proofs.Common.{rules, ◌≡◌, ◌∙◌, ◌+◌, Bool, List, [], ◌∷◌, length, ap, sym, subst, true, false, Err}
use Rattle.std.specs.Prelude.{IfOk}
use Rattle.zarr_grids_boxes.specs.Boxes.{product}
use Rattle.zarr_codecs_meaning.specs.Fits.{fits}
use Rattle.zarr_codecs_meaning.specs.Types.{integer, unsigned}
use Rattle.zarr_codecs_sections.specs.Views.{width_of}
use Rattle.zarr_codecs_types.specs.Views.{type_of}
use Rattle.zarr_codecs_array_to_array.specs.declared.codec.ArrayToArrayCodec.{ArrayToArrayCodec}
use Rattle.zarr_codecs_around.specs.ArrayCodecs.{EncodesShapes, all_fit, shape_after}
use Rattle.zarr_codecs_around.specs.Views.{codecs_of}
use Rattle.zarr_codecs_chains.specs.Views.{codec_chain, meaning_of}
use Rattle.zarr_codecs_chains.proofs.Alone.{fits_alone}
use Rattle.zarr_codecs_chains.proofs.LongIndex.{offsets_alike}
use Rattle.zarr_codecs_around.proofs.AllArrayCodecs.{fits_between, never_between}
use Rattle.zarr_codecs_chains.proofs.fitting.+fitting.Goals as goal

pub fits_chain-returns-then-is_empty : goal.fits_chain-returns-then-is_empty
fits_chain-returns-then-is_empty g t c =
    let meaning = g.B.BytesToBytesCodecTraits.meaning in
    let chain = c.args.chain.now in
    let none : length chain.array_to_array.items ≡ 0 = search rules in
    subst (λ (b : Bool). IfOk c.fits_codec.result (λ fit. fit ≡ b))
    (fits_alone meaning chain.array_to_array.items (codec_chain meaning chain.others.array_to_bytes) chain.others.bytes_to_bytes.items (type_of c.args.data_type.now) c.args.shape.now none) c.fits_codec.ensures

pub fits_chain-returns-in-Ok : goal.fits_chain-returns-in-Ok
fits_chain-returns-in-Ok g t c =
    let meaning = g.B.BytesToBytesCodecTraits.meaning in
    let chain = c.args.chain.now in
    let before = chain.array_to_array.items in
    let shape = c.args.shape.now in
    let all : all_fit (codecs_of before) shape ≡ true = ap (λ (codecs : List ArrayToArrayCodec). all_fit (codecs_of codecs) shape) (sym c.as_slice.ensures.value) ∙ c.in-Ok.ensures.0 in
    let same : c.as_slice-in-Ok.result.now ≡ shape_after (codecs_of before) shape =
    c.as_slice-in-Ok.ensures.value ∙ (c.in-Ok.ensures.1 ∙ ap (λ (codecs : List ArrayToArrayCodec). shape_after (codecs_of codecs) shape) c.as_slice.ensures.value) in
    subst (λ (b : Bool). IfOk c.fits_codec-in-Ok.result (λ fit. fit ≡ b))
    (fits_between meaning before (codec_chain meaning chain.others.array_to_bytes) chain.others.bytes_to_bytes.items (type_of c.args.data_type.now) shape c.as_slice-in-Ok.result.now all same) c.fits_codec-in-Ok.ensures

pub fits_chain-returns-in-Err-Fit : goal.fits_chain-returns-in-Err-Fit
fits_chain-returns-in-Err-Fit g t c =
    let meaning = g.B.BytesToBytesCodecTraits.meaning in
    let chain = c.args.chain.now in
    let before = chain.array_to_array.items in
    let shape = c.args.shape.now in
    let none : all_fit (codecs_of c.as_slice.result.now) shape ≡ false = subst (λ e. EncodesShapes (codecs_of c.as_slice.result.now) shape (Err e)) c.in-Err-Fit.field-0-is c.in-Err-Fit.ensures in
    never_between meaning before (codec_chain meaning chain.others.array_to_bytes) chain.others.bytes_to_bytes.items (type_of c.args.data_type.now) shape
    (ap (λ (codecs : List ArrayToArrayCodec). all_fit (codecs_of codecs) shape) (sym c.as_slice.ensures.value) ∙ none)

pub fits_offsets-returns : goal.fits_offsets-returns
fits_offsets-returns g t c =
    let meaning = g.B.BytesToBytesCodecTraits.meaning in
    let chain = c.args.chain.now in
    let length = c.count_offsets.result in
    let same : fits (meaning_of meaning chain) (type_of c.data_type-offsets.result) (length ∷ []) ≡ fits (meaning_of meaning chain) (integer unsigned (width_of c.args.index_data_type)) ((product c.args.shape.now + 1) ∷ []) =
    ap (λ type. fits (meaning_of meaning chain) type (length ∷ [])) c.data_type-offsets.ensures ∙ offsets_alike meaning chain (width_of c.args.index_data_type) (product c.args.shape.now) length c.count_offsets.ensures.few c.count_offsets.ensures.many in
    subst (λ (b : Bool). IfOk c.fits_chain.result (λ fit. fit ≡ b)) same c.fits_chain.ensures
