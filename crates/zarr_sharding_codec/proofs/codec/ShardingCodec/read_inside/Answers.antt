use Rattle.std.proofs.Common.{◌≡◌, ◌∙◌, ap, sym, subst, arith, ℕ, List, [], replicate, get_or, unwrap_or, Option, Some, Err, true, false}
use Rattle.zarr_codecs_arrays.specs.Views.{elements_of}
use Rattle.zarr_codecs_meaning.specs.Decoding.{is_absent, slice_at}
use Rattle.zarr_codecs_meaning.specs.Encoding.{Pair, absent_pair}
use Rattle.zarr_codecs_meaning.specs.Fits.{fits}
use Rattle.zarr_codecs_meaning.specs.Types.{Cell}
use Rattle.zarr_codecs_regions.proofs.FillValues.{larger_too}
use Rattle.zarr_codecs_traits.specs.Indexers.{numbers_of, shape_has}
use Rattle.zarr_codecs_traits.specs.Arrays.{coded}
use Rattle.zarr_grids_boxes.specs.Boxes.{product}
use Rattle.zarr_grids_boxes.specs.Subsets.{region_of}
use Rattle.zarr_sharding_index.specs.HeldIndex.{FetchesSlice}
use Rattle.zarr_sharding_index.specs.Present.{all_pairs}
use Rattle.zarr_sharding_index.proofs.GivenSlices.{slice_given}
use Rattle.zarr_sharding_codec.specs.Reading.{Lists, places_decoded, slice_cells}
use Rattle.zarr_sharding_codec.proofs.BoxInSubchunk.{numbers_many}
use Rattle.zarr_sharding_codec.proofs.PartsRead.{fill_places, lists_read, present_places, present_value, slice_unread}
use Rattle.zarr_sharding_codec.proofs.codec.ShardingCodec.read_inside.Goals as goal

pub read_slice-requires-clause-fit : goal.read_slice-requires-clause-fit
read_slice-requires-clause-fit g c =
    ap (fits (g.I.ArrayToBytesCodecTraits.meaning c.args.self.now.inner_codecs) (elements_of c.args.shard.elements.now).type) c.as_slice-shape.ensures.value ∙ c.requires.fit

pub read_slice-requires-clause-inside : goal.read_slice-requires-clause-inside
read_slice-requires-clause-inside g c = ap (λ (e : List ℕ). shape_has e (region_of c.args.found.now.region)) c.as_slice-shape.ensures.value ∙ c.requires.inside

pub read_slice-requires-clause-some : goal.read_slice-requires-clause-some
read_slice-requires-clause-some g c =
    let found = c.args.found.now in
    let some = c.requires.some in
    let count = numbers_many c.as_slice-shape.result.now (region_of found.region) found.region.same in
    omega (arith, some, count)

pub returns-then-is_absent-clause-part : goal.returns-then-is_absent-clause-part
returns-then-is_absent-clause-part g c = λ honest told.
    let self = c.args.self.now in
    let elements = elements_of c.args.shard.elements.now in
    let found = c.args.found.now in
    let edges = found.shape.items in
    let region = region_of found.region in
    let result = c.fill_piece.result in
    let pair = get_or (all_pairs c.args.shard.pairs.now) found.number absent_pair in
    let absent : is_absent pair ≡ true = ap is_absent (sym c.get-pair.ensures) ∙ (sym c.is_absent.ensures ∙ c.if-is_absent.true) in
    let made = subst (λ (es : List ℕ). Lists elements es (Some (replicate (product es) elements.fill)) result) c.shape.ensures c.fill_piece.ensures.lists in
    fill_places (g.I.ArrayToBytesCodecTraits.meaning self.inner_codecs) elements (unwrap_or (g.D.BytesPartialDecoderTraits.contents c.args.source.now) []) edges region.shape pair (numbers_of edges region) result absent
    (numbers_many edges region found.region.same) (larger_too elements.type edges region found.region.same c.requires.inside) made

pub returns-then-is_absent-clause-refused : goal.returns-then-is_absent-clause-refused
returns-then-is_absent-clause-refused g c = sym (c.fill_piece.ensures.no_source (g.D.BytesPartialDecoderTraits.refused_calls c.args.source.now))

pub returns-in-Ok-clause-part : goal.returns-in-Ok-clause-part
returns-in-Ok-clause-part g c = λ honest told.
    let self = c.args.self.now in
    let inner = g.I.ArrayToBytesCodecTraits.meaning self.inner_codecs in
    let elements = elements_of c.args.shard.elements.now in
    let found = c.args.found.now in
    let edges = found.shape.items in
    let pairs = all_pairs c.args.shard.pairs.now in
    let k = found.number in
    let pair = get_or pairs k absent_pair in
    let insides = numbers_of edges (region_of found.region) in
    let contents = g.D.BytesPartialDecoderTraits.contents c.args.source.now in
    let value = unwrap_or contents [] in
    let there : is_absent pair ≡ false = ap is_absent (sym c.get-pair.ensures) ∙ (sym c.is_absent.ensures ∙ c.if-is_absent.false) in
    let held = present_value contents pairs c.args.shard.total k told c.requires.pair there in
    let slice = c.in-Ok.slice.items in
    let at_ : slice_at value pair ≡ Some slice = ap (slice_at value) (sym c.get-pair.ensures) ∙ c.in-Ok.ensures.slice honest value held.0 held.1 in
    let result = c.read_slice.result in
    let part = subst (λ (e : List ℕ). Lists elements e (slice_cells inner elements e slice (numbers_of e (region_of found.region))) result) c.as_slice-shape.ensures.value c.read_slice.ensures.part in
    lists_read elements edges (places_decoded (coded inner elements edges) value pair insides) result
    (subst (λ (o : Option (List Cell)). Lists elements edges o result) (sym (present_places inner elements value edges pair (Some slice) insides there at_)) part)

pub returns-in-Err-clause-part : goal.returns-in-Err-clause-part
returns-in-Err-clause-part g c = λ honest told.
    let self = c.args.self.now in
    let inner = g.I.ArrayToBytesCodecTraits.meaning self.inner_codecs in
    let elements = elements_of c.args.shard.elements.now in
    let found = c.args.found.now in
    let edges = found.shape.items in
    let pairs = all_pairs c.args.shard.pairs.now in
    let k = found.number in
    let pair = get_or pairs k absent_pair in
    let insides = numbers_of edges (region_of found.region) in
    let contents = g.D.BytesPartialDecoderTraits.contents c.args.source.now in
    let value = unwrap_or contents [] in
    let there : is_absent pair ≡ false = ap is_absent (sym c.get-pair.ensures) ∙ (sym c.is_absent.ensures ∙ c.if-is_absent.false) in
    let held = present_value contents pairs c.args.shard.total k told c.requires.pair there in
    let some = c.requires.some in
    let count = numbers_many edges (region_of found.region) found.region.same in
    let lost = subst (λ (p : Pair). FetchesSlice value p (Err c.in-Err.error)) c.get-pair.ensures (c.in-Err.ensures.slice honest value held.0 held.1) in
    slice_unread inner elements value edges pair insides c.in-Err.error there (omega (arith, some, count)) lost

pub returns-in-Ok-clause-given : goal.returns-in-Ok-clause-given
returns-in-Ok-clause-given g c = λ honest.
    let count = g.D.BytesPartialDecoderTraits.given_bytes in
    let pair = get_or (all_pairs c.args.shard.pairs.now) c.args.found.now.number absent_pair in
    let there : is_absent pair ≡ false = ap is_absent (sym c.get-pair.ensures) ∙ (sym c.is_absent.ensures ∙ c.if-is_absent.false) in
    slice_given c.args.shard.total c.get-pair.result pair (count c.args.source.now) (count c.fetch_slice.new.source) c.get-pair.ensures there (c.in-Ok.ensures.given honest) c.in-Ok.ensures.past

pub returns-in-Err-clause-given : goal.returns-in-Err-clause-given
returns-in-Err-clause-given g c = λ honest.
    let count = g.D.BytesPartialDecoderTraits.given_bytes in
    let pair = get_or (all_pairs c.args.shard.pairs.now) c.args.found.now.number absent_pair in
    let there : is_absent pair ≡ false = ap is_absent (sym c.get-pair.ensures) ∙ (sym c.is_absent.ensures ∙ c.if-is_absent.false) in
    slice_given c.args.shard.total c.get-pair.result pair (count c.args.source.now) (count c.fetch_slice.new.source) c.get-pair.ensures there (c.in-Err.ensures.given honest) c.in-Err.ensures.past
