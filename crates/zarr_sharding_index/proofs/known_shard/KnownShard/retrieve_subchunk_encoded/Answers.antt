use Rattle.std.proofs.Common.{◌≡◌, ◌∙◌, ◌+◌, ◌≤◌, ap, sym, subst, get_or, false}
use Rattle.zarr_codecs_meaning.specs.Decoding.{is_absent}
use Rattle.zarr_codecs_meaning.specs.Encoding.{absent_pair}
use Rattle.zarr_codecs_traits.specs.ReadBytes.{slice_length}
use Rattle.zarr_sharding_index.proofs.GivenSlices.{slice_given}
use Rattle.zarr_sharding_index.specs.Known.{pairs_in}
use Rattle.zarr_sharding_index.proofs.known_shard.KnownShard.retrieve_subchunk_encoded.Goals as goal

pub returns-in-Ok-clause-given : goal.returns-in-Ok-clause-given
returns-in-Ok-clause-given g c = λ honest.
    let count = g.D.BytesPartialDecoderTraits.given_bytes in
    let pair = get_or (pairs_in c.args.self.now) c.args.n absent_pair in
    let there : is_absent pair ≡ false = ap is_absent (sym c.get-pair.ensures) ∙ (sym c.is_absent.ensures ∙ c.if-is_absent.false) in
    subst (λ n. count c.fetch_slice.new.source ≤ count c.args.source.now + slice_length n pair) c.total.ensures
    (slice_given c.total.result c.get-pair.result pair (count c.args.source.now) (count c.fetch_slice.new.source) c.get-pair.ensures there (c.in-Ok.ensures.given honest) c.in-Ok.ensures.past)

pub returns-in-Err-clause-given : goal.returns-in-Err-clause-given
returns-in-Err-clause-given g c = λ honest.
    let count = g.D.BytesPartialDecoderTraits.given_bytes in
    let pair = get_or (pairs_in c.args.self.now) c.args.n absent_pair in
    let there : is_absent pair ≡ false = ap is_absent (sym c.get-pair.ensures) ∙ (sym c.is_absent.ensures ∙ c.if-is_absent.false) in
    subst (λ n. count c.fetch_slice.new.source ≤ count c.args.source.now + slice_length n pair) c.total.ensures
    (slice_given c.total.result c.get-pair.result pair (count c.args.source.now) (count c.fetch_slice.new.source) c.get-pair.ensures there (c.in-Err.ensures.given honest) c.in-Err.ensures.past)
