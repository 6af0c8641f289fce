use Rattle.std.proofs.Common.{◌≡◌, ◌∙◌, ap, sym, subst, arith, ℕ, List, [], replicate, map, length, get_or, unwrap_or, Option, Some, Err, true, false}
use Rattle.std.proofs.lemmas.List.{length-map}
use Rattle.zarr_codecs_arrays.specs.Views.{elements_of}
use Rattle.zarr_codecs_meaning.specs.Decoding.{is_absent, slice_at}
use Rattle.zarr_codecs_meaning.specs.Encoding.{Pair, absent_pair}
use Rattle.zarr_codecs_meaning.specs.Types.{Cell}
use Rattle.zarr_sharding_index.specs.HeldIndex.{FetchesSlice}
use Rattle.zarr_sharding_codec.specs.Reading.{Lists, places_decoded, slice_cells}
use Rattle.zarr_sharding_index.specs.Present.{all_pairs}
use Rattle.zarr_sharding_index.proofs.GivenSlices.{slice_given}
use Rattle.zarr_sharding_places.specs.declared.locating.AskedPlace.{AskedPlace}
use Rattle.zarr_sharding_codec.proofs.PartsRead.{absent_places, lists_read, present_places, present_value, slice_unread}
use Rattle.zarr_sharding_codec.proofs.codec.ShardingCodec.read_group.Goals as goal
use Rattle.zarr_codecs_traits.specs.Arrays.{coded}

pub returns-then-is_absent-clause-part : goal.returns-then-is_absent-clause-part
returns-then-is_absent-clause-part g c = λ honest told.
    let self = c.args.self.now in
    let shape = c.args.part.shape.now in
    let elements = elements_of c.args.shard.elements.now in
    let group = c.args.part.group.now in
    let pair = get_or (all_pairs c.args.shard.pairs.now) c.args.part.number absent_pair in
    let insides = map (λ (place : AskedPlace). place.inside) group in
    let absent : is_absent pair ≡ true = ap is_absent (sym c.get-pair.ensures) ∙ (sym c.is_absent.ensures ∙ c.if-is_absent.true) in
    record {
      cells = replicate (length group) elements.fill;
      is = absent_places (g.I.ArrayToBytesCodecTraits.meaning self.inner_codecs) elements (unwrap_or (g.D.BytesPartialDecoderTraits.contents c.args.source.now) []) shape pair insides absent ∙ ap (λ k. Some (replicate k elements.fill)) (length-map group (λ (place : AskedPlace). place.inside));
      lists = c.in_ok-fill_values.ensures;
    }

pub returns-in_ok-insides-in-Ok-clause-part : goal.returns-in_ok-insides-in-Ok-clause-part
returns-in_ok-insides-in-Ok-clause-part g c = λ honest told.
    let self = c.args.self.now in
    let shape = c.args.part.shape.now in
    let inner = g.I.ArrayToBytesCodecTraits.meaning self.inner_codecs in
    let elements = elements_of c.args.shard.elements.now in
    let group = c.args.part.group.now in
    let pairs = all_pairs c.args.shard.pairs.now in
    let k = c.args.part.number in
    let pair = get_or pairs k absent_pair in
    let insides = map (λ (place : AskedPlace). place.inside) group in
    let contents = g.D.BytesPartialDecoderTraits.contents c.args.source.now in
    let value = unwrap_or contents [] in
    let there : is_absent pair ≡ false = ap is_absent (sym c.get-pair.ensures) ∙ (sym c.is_absent.ensures ∙ c.if-is_absent.false) in
    let held = present_value contents pairs c.args.shard.total k told c.requires.pair there in
    let slice = c.in-Ok.slice.items in
    let at_ : slice_at value pair ≡ Some slice = ap (slice_at value) (sym c.get-pair.ensures) ∙ c.in-Ok.ensures.slice honest value held.0 held.1 in
    let are : c.as_slice.result.now ≡ insides = c.as_slice.ensures.value ∙ c.in_ok-insides-in-Ok.ensures in
    let result = c.read_slice.result in
    lists_read elements shape (places_decoded (coded inner elements shape) value pair insides) result
    (subst (λ (o : Option (List Cell)). Lists elements shape o result) (sym (present_places inner elements value shape pair (Some slice) insides there at_))
    (subst (λ (ns : List ℕ). Lists elements shape (slice_cells inner elements shape slice ns) result) are c.read_slice.ensures.part))

pub returns-in-Err-clause-part : goal.returns-in-Err-clause-part
returns-in-Err-clause-part g c = λ honest told.
    let self = c.args.self.now in
    let shape = c.args.part.shape.now in
    let inner = g.I.ArrayToBytesCodecTraits.meaning self.inner_codecs in
    let elements = elements_of c.args.shard.elements.now in
    let group = c.args.part.group.now in
    let pairs = all_pairs c.args.shard.pairs.now in
    let k = c.args.part.number in
    let pair = get_or pairs k absent_pair in
    let insides = map (λ (place : AskedPlace). place.inside) group in
    let contents = g.D.BytesPartialDecoderTraits.contents c.args.source.now in
    let value = unwrap_or contents [] in
    let there : is_absent pair ≡ false = ap is_absent (sym c.get-pair.ensures) ∙ (sym c.is_absent.ensures ∙ c.if-is_absent.false) in
    let held = present_value contents pairs c.args.shard.total k told c.requires.pair there in
    let e = c.in-Err.error in
    let some = c.requires.some in
    let count = length-map group (λ (place : AskedPlace). place.inside) in
    let lost = subst (λ (p : Pair). FetchesSlice value p (Err e)) c.get-pair.ensures (c.in-Err.ensures.slice honest value held.0 held.1) in
    slice_unread inner elements value shape pair insides e there (omega (arith, some, count)) lost

pub returns-in_ok-insides-in-Ok-clause-given : goal.returns-in_ok-insides-in-Ok-clause-given
returns-in_ok-insides-in-Ok-clause-given g c = λ honest.
    let count = g.D.BytesPartialDecoderTraits.given_bytes in
    let pair = get_or (all_pairs c.args.shard.pairs.now) c.args.part.number absent_pair in
    let there : is_absent pair ≡ false = ap is_absent (sym c.get-pair.ensures) ∙ (sym c.is_absent.ensures ∙ c.if-is_absent.false) in
    slice_given c.args.shard.total c.get-pair.result pair (count c.args.source.now) (count c.fetch_slice.new.source) c.get-pair.ensures there (c.in-Ok.ensures.given honest) c.in-Ok.ensures.past

pub returns-in_err-insides-in-Ok-clause-given : goal.returns-in_err-insides-in-Ok-clause-given
returns-in_err-insides-in-Ok-clause-given g c = λ honest.
    let count = g.D.BytesPartialDecoderTraits.given_bytes in
    let pair = get_or (all_pairs c.args.shard.pairs.now) c.args.part.number absent_pair in
    let there : is_absent pair ≡ false = ap is_absent (sym c.get-pair.ensures) ∙ (sym c.is_absent.ensures ∙ c.if-is_absent.false) in
    slice_given c.args.shard.total c.get-pair.result pair (count c.args.source.now) (count c.fetch_slice.new.source) c.get-pair.ensures there (c.in-Ok.ensures.given honest) c.in-Ok.ensures.past

pub returns-in-Err-clause-given : goal.returns-in-Err-clause-given
returns-in-Err-clause-given g c = λ honest.
    let count = g.D.BytesPartialDecoderTraits.given_bytes in
    let pair = get_or (all_pairs c.args.shard.pairs.now) c.args.part.number absent_pair in
    let there : is_absent pair ≡ false = ap is_absent (sym c.get-pair.ensures) ∙ (sym c.is_absent.ensures ∙ c.if-is_absent.false) in
    slice_given c.args.shard.total c.get-pair.result pair (count c.args.source.now) (count c.fetch_slice.new.source) c.get-pair.ensures there (c.in-Err.ensures.given honest) c.in-Err.ensures.past
