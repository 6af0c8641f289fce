use Rattle.std.proofs.Common.{◌∷◌, ◌∙◌, ◌≡◌, ◌+◌, List, [], length, get_or, set, ap, refl, sym, subst, arith, inr, Some}
use Rattle.zarr_codecs_meaning.specs.Decoding.{is_absent}
use Rattle.zarr_codecs_meaning.specs.Encoding.{Pair, absent_pair}
use Rattle.zarr_sharding_index.specs.Present.{all_pairs}
use Rattle.zarr_sharding_index.specs.Views.{location_of, pair_of}
use Rattle.zarr_sharding_index.specs.Held.{are_absent, held_as, index_coding}
use Rattle.zarr_sharding_index.specs.Known.{pairs_in}
use Rattle.zarr_sharding_index.specs.Written.{IsAppended}
use Rattle.zarr_sharding_index.proofs.OnlySlice.{present_after, present_there, put_back}
use Rattle.zarr_sharding_index.proofs.known_shard.KnownShard.write_slice.Goals as goal

pub append_slice-requires-clause-some : goal.append_slice-requires-clause-some
append_slice-requires-clause-some g c =
    let self = c.args.self.now in
    let small = self.small in
    ap are_absent c.in_ok-put.ensures.ok ∙ present_after (pairs_in self) c.args.given.number self.end c.len-length.result c.requires.below (omega (arith, small))

pub returns-in-Ok-clause-ok : goal.returns-in-Ok-clause-ok
returns-in-Ok-clause-ok g c = λ honest.
    let self = c.args.self.now in
    let given = c.args.given in
    let contents = g.E.BytesPartialDecoderTraits.contents in
    let index = g.X.ArrayToBytesCodecTraits.meaning c.args.codecs.now in
    let exact = g.X.ArrayToBytesCodecTraits.is_function c.args.codecs.now in
    let same : c.len-length.result ≡ length given.slice.items = omega (arith, c.len-length.ensures) in
    inr (subst (λ n. IsAppended (index_coding index exact (location_of self.location) self.shape.items) ((given.number, Some given.slice.items) ∷ []) (contents c.args.source.now) self.end (held_as (contents c.append_slice.new.source) (all_pairs c.put.new.self) (self.end + n))) (sym same) (c.in-Ok.ensures.ok honest))

pub replace-requires-clause-present : goal.replace-requires-clause-present
replace-requires-clause-present g c =
    let self = c.args.self.now in
    let small = self.small in
    ap (λ (ps : List Pair). is_absent (get_or ps c.args.given.number absent_pair)) c.in_ok-put.ensures.ok ∙ present_there (pairs_in self) c.args.given.number self.end c.len-length.result c.requires.below (omega (arith, small))

pub returns-in-Err-clause-known : goal.returns-in-Err-clause-known
returns-in-Err-clause-known g c =
    let self = c.args.self.now in
    let number = c.args.given.number in
    let pair : Pair = (self.end, c.len-length.result) in
    let back : all_pairs c.replace.new.self ≡ pairs_in self = c.replace.ensures ∙ (ap (λ (pairs : List Pair). set pairs number (pair_of c.get-before.result)) c.in_ok-put.ensures.ok
    ∙ (ap (λ (p : Pair). set (set (pairs_in self) number pair) number p) c.get-before.ensures
    ∙ put_back (pairs_in self) number pair absent_pair c.requires.below)) in
    record {
      pairs = tt;
      room = tt;
      same = (back, refl);
      laid = record { location = refl; shape = refl; size = refl };
    }

-- where the subchunk was absent, the numbers are listed
pub replace-requires-clause-listed : goal.replace-requires-clause-listed
replace-requires-clause-listed g c = λ gone. c.in_ok-put.ensures.listed (ap is_absent (sym c.get-before.ensures) ∙ gone)
