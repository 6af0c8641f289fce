use Rattle.std.proofs.Common.{◌≡◌, ◌∙◌, [], Some, Err, false, get_or, unwrap_or, inl, inr, ap, refl, subst, sym}
use Rattle.std.proofs.lemmas.Result.{IfOk-weaker}
use Rattle.zarr_codecs_meaning.specs.Decoding.{is_absent, slice_at}
use Rattle.zarr_codecs_meaning.specs.Encoding.{Pair, absent_pair}
use Rattle.zarr_codecs_traits.specs.Pieces.{refused_by_pieces}
use Rattle.zarr_sharding_index.specs.HeldIndex.{FetchesSlice}
use Rattle.zarr_sharding_index.specs.Present.{all_pairs}
use Rattle.zarr_sharding_index.proofs.GivenSlices.{slice_given}
use Rattle.zarr_sharding_codec.proofs.PartsRead.{present_value}
use Rattle.zarr_sharding_codec.proofs.SlicesRead.{none_refused}
use Rattle.zarr_sharding_codec.proofs.cut_parts.read_more.Goals as goal

pub returns-then-is_absent-clause-more : goal.returns-then-is_absent-clause-more
returns-then-is_absent-clause-more g c = λ honest told. inl (record { absent = ap is_absent (sym c.get-pair.ensures) ∙ (sym c.is_absent.ensures ∙ c.if-is_absent.true); same = refl })

pub returns-then-is_absent-clause-refused : goal.returns-then-is_absent-clause-refused
returns-then-is_absent-clause-refused g c = sym (ap (refused_by_pieces (g.D.BytesPartialDecoderTraits.refused_calls c.args.source.now)) c.requires.none)

pub returns-in-Ok-clause-more : goal.returns-in-Ok-clause-more
returns-in-Ok-clause-more g c = λ honest told.
    let pairs = all_pairs c.args.shard.pairs.now in
    let k = c.args.number in
    let contents = g.D.BytesPartialDecoderTraits.contents c.args.source.now in
    let value = unwrap_or contents [] in
    let there : is_absent (get_or pairs k absent_pair) ≡ false = ap is_absent (sym c.get-pair.ensures) ∙ (sym c.is_absent.ensures ∙ c.if-is_absent.false) in
    let held = present_value contents pairs c.args.shard.total k told c.requires.below there in
    let found = ap (slice_at value) (sym c.get-pair.ensures) ∙ (c.in-Ok.ensures.slice honest value held.0 held.1 ∙ ap Some (sym c.as_slice.ensures.value)) in
    IfOk-weaker c.push_read.result _ _ (λ after behind. inr (inl (record { there = there; bytes = c.as_slice.result.now; found = found; behind = behind }))) c.push_read.ensures

pub returns-in-Ok-clause-refused : goal.returns-in-Ok-clause-refused
returns-in-Ok-clause-refused g c =
    c.in-Ok.ensures.refused ∙ sym (none_refused (g.D.BytesPartialDecoderTraits.refused_calls c.args.source.now) c.args.number c.args.places c.as_slice.result.now c.args.pieces c.push_read.result c.requires.none c.push_read.ensures)

pub returns-in-Err-clause-more : goal.returns-in-Err-clause-more
returns-in-Err-clause-more g c = λ honest told.
    let pairs = all_pairs c.args.shard.pairs.now in
    let k = c.args.number in
    let contents = g.D.BytesPartialDecoderTraits.contents c.args.source.now in
    let value = unwrap_or contents [] in
    let there : is_absent (get_or pairs k absent_pair) ≡ false = ap is_absent (sym c.get-pair.ensures) ∙ (sym c.is_absent.ensures ∙ c.if-is_absent.false) in
    let held = present_value contents pairs c.args.shard.total k told c.requires.below there in
    let lost = subst (λ (p : Pair). FetchesSlice value p (Err c.in-Err.error)) c.get-pair.ensures (c.in-Err.ensures.slice honest value held.0 held.1) in
    inr (inr (record { there = there; error = c.in-Err.error; lost = lost; is = refl }))

pub returns-in-Ok-clause-given : goal.returns-in-Ok-clause-given
returns-in-Ok-clause-given g c = λ honest.
    let count = g.D.BytesPartialDecoderTraits.given_bytes in
    let pair = get_or (all_pairs c.args.shard.pairs.now) c.args.number absent_pair in
    let there : is_absent pair ≡ false = ap is_absent (sym c.get-pair.ensures) ∙ (sym c.is_absent.ensures ∙ c.if-is_absent.false) in
    slice_given c.args.shard.total c.get-pair.result pair (count c.args.source.now) (count c.fetch_slice.new.source) c.get-pair.ensures there (c.in-Ok.ensures.given honest) c.in-Ok.ensures.past

pub returns-in-Err-clause-given : goal.returns-in-Err-clause-given
returns-in-Err-clause-given g c = λ honest.
    let count = g.D.BytesPartialDecoderTraits.given_bytes in
    let pair = get_or (all_pairs c.args.shard.pairs.now) c.args.number absent_pair in
    let there : is_absent pair ≡ false = ap is_absent (sym c.get-pair.ensures) ∙ (sym c.is_absent.ensures ∙ c.if-is_absent.false) in
    slice_given c.args.shard.total c.get-pair.result pair (count c.args.source.now) (count c.fetch_slice.new.source) c.get-pair.ensures there (c.in-Err.ensures.given honest) c.in-Err.ensures.past
