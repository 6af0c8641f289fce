use Rattle.std.proofs.Common.{◌≡◌, ◌∙◌, ◌+◌, ◌||◌, [], ◌∷◌, Bool, List, drop, map, ap, sym, refl, true}
use Rattle.std.proofs.lemmas.Bool.{or_left}
use Rattle.std.proofs.lemmas.List.{drop_all}
use Rattle.zarr_codecs_meaning.specs.Chains.{ByteCodec}
use Rattle.zarr_codecs_meaning.specs.Fits.{is_too_long}
use Rattle.zarr_codecs_traits.specs.Representations.{known_size}
use Rattle.zarr_codecs_around.specs.Codecs.{all_represented, any_too_long}
use Rattle.zarr_codecs_around.proofs.Left.{left_at}
use Rattle.zarr_codecs_around.proofs.byte_codecs.represent_all.Goals as goal

pub loop-codec-preserved : goal.loop-codec-preserved
loop-codec-preserved g c =
    let meaning = g.B.BytesToBytesCodecTraits.meaning in
    let codecs = c.args.codecs.now in
    let i = c.loop-codec.codec-index in
    let codec : ByteCodec = meaning c.codec-item.result in
    let others = map meaning (drop (i + 1) codecs) in
    let before = known_size c.loop-codec.known in
    let known = known_size c.in_ok-known.known in
    let left : map meaning (drop i codecs) ≡ codec ∷ others = ap (map meaning) (left_at codecs c.codec-item.result i (i + 1) refl c.loop-codec-test.true c.codec-item.is) in
    let told : known ≡ codec.representation before = c.in_ok-known.ensures in
    let short = ap is_too_long (sym told) ∙ (sym c.is_too_long.ensures ∙ c.if-is_too_long.false) in
    record {
      told = ap (all_represented others) told ∙ (ap (λ (cs : List ByteCodec). all_represented cs before) (sym left) ∙ c.loop-codec.invariant.told);
      long = ap (any_too_long others) told ∙ (sym (ap (λ (b : Bool). b || any_too_long others (codec.representation before)) short) ∙ (ap (λ (cs : List ByteCodec). any_too_long cs before) (sym left) ∙ c.loop-codec.invariant.long));
    }

pub returns-then-is_too_long : goal.returns-then-is_too_long
returns-then-is_too_long g c =
    let meaning = g.B.BytesToBytesCodecTraits.meaning in
    let codecs = c.args.codecs.now in
    let i = c.loop-codec.codec-index in
    let codec : ByteCodec = meaning c.codec-item.result in
    let others = map meaning (drop (i + 1) codecs) in
    let before = known_size c.loop-codec.known in
    let left : map meaning (drop i codecs) ≡ codec ∷ others = ap (map meaning) (left_at codecs c.codec-item.result i (i + 1) refl c.loop-codec-test.true c.codec-item.is) in
    let long = ap is_too_long (sym c.in_ok-known.ensures) ∙ (sym c.is_too_long.ensures ∙ c.if-is_too_long.true) in
    sym c.loop-codec.invariant.long ∙ (ap (λ (cs : List ByteCodec). any_too_long cs before) left ∙ or_left (is_too_long (codec.representation before)) (any_too_long others (codec.representation before)) long)

pub returns : goal.returns
returns g c =
    let meaning = g.B.BytesToBytesCodecTraits.meaning in
    let known = known_size c.loop-codec.known in
    let none : map meaning (drop c.loop-codec.codec-index c.args.codecs.now) ≡ [] = ap (map meaning) (drop_all c.loop-codec.codec-index c.args.codecs.now c.loop-codec-test.false) in
    (sym (ap (λ (cs : List ByteCodec). all_represented cs known) none) ∙ c.loop-codec.invariant.told, sym c.loop-codec.invariant.long ∙ ap (λ (cs : List ByteCodec). any_too_long cs known) none)
