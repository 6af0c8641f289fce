use Rattle.std.proofs.Common.{◌≡◌, ◌∙◌, ◌<◌, ◌≤◌, ◌%◌, ◌++◌, ◌∷◌, [], List, ℕ, ap, sym, arith, false, true}
use Rattle.std.proofs.lemmas.Result.{IfOk-weaker}
use Rattle.zarr_codecs_types.specs.Views.{type_of}
use Rattle.zarr_sharding_codec.specs.Fitting.{LastDimensions, behind, fits_shapes}
use Rattle.zarr_sharding_codec.proofs.FitParts.{fits_even, fits_more, fits_not, fits_short}
use Rattle.zarr_sharding_codec.proofs.PartShapes.{HasFirst, behind_first, first_edge, first_size}
use Rattle.zarr_sharding_codec.proofs.fitting.+suits_shapes.Goals as goal

pub returns-then-size-edge : goal.returns-then-size-edge
returns-then-size-edge g t c =
    let inner = g.I.ArrayToBytesCodecTraits.meaning c.args.inner_codecs.now in
    let type = type_of c.args.data_type.now in
    let front = c.args.front.now in
    let n = c.in-Some.size.now in
    let ns = c.in-Some.sizes.now in
    let p = c.in-Some-split_first.edge.now in
    let ps = c.in-Some-split_first.edges.now in
    let h : HasFirst c.args.sizes.now c.args.edges.now n p ns ps = record { sizes_are = c.in-Some.ensures.cases.0; edges_are = c.in-Some-split_first.ensures.cases.0; some = c.requires.sizes; positive = c.requires.edges } in
    let longer : c.as_slice.result.now ≡ front ++ n ∷ [] = c.as_slice.ensures.value ∙ c.in_ok-longer.ensures in
    let same = ap (λ (f : List ℕ). fits_shapes inner type (behind f ns ps)) longer ∙ (sym (fits_short inner type front n p ns ps (first_size c.args.sizes.now c.args.edges.now n p ns ps h) c.if-size-edge.true)
    ∙ ap (fits_shapes inner type) (behind_first front c.args.sizes.now c.args.edges.now n p ns ps h)) in
    IfOk-weaker c.suits_shapes.result _ _ (λ fit is. is ∙ same) c.suits_shapes.ensures

pub returns-then-not-branch : goal.returns-then-not-branch
returns-then-not-branch g t c =
    let inner = g.I.ArrayToBytesCodecTraits.meaning c.args.inner_codecs.now in
    let type = type_of c.args.data_type.now in
    let front = c.args.front.now in
    let n = c.in-Some.size.now in
    let ns = c.in-Some.sizes.now in
    let p = c.in-Some-split_first.edge.now in
    let ps = c.in-Some-split_first.edges.now in
    let h : HasFirst c.args.sizes.now c.args.edges.now n p ns ps = record { sizes_are = c.in-Some.ensures.cases.0; edges_are = c.in-Some-split_first.ensures.cases.0; some = c.requires.sizes; positive = c.requires.edges } in
    let longer : c.as_slice-2.result.now ≡ front ++ p ∷ [] = c.as_slice-2.ensures.value ∙ c.in_ok-whole.ensures in
    let first : fits_shapes inner type (behind (front ++ p ∷ []) ns ps) ≡ false = sym (ap (λ (f : List ℕ). fits_shapes inner type (behind f ns ps)) longer) ∙ (sym c.in_ok-suits_shapes.ensures ∙ c.if-not-branch.true) in
    let fit : p ≤ n = omega (arith, c.if-size-edge.false) in
    sym (sym (ap (fits_shapes inner type) (behind_first front c.args.sizes.now c.args.edges.now n p ns ps h)) ∙ fits_not inner type front n p ns ps (first_edge c.args.sizes.now c.args.edges.now n p ns ps h) fit first)

pub returns-then-rest-eq0 : goal.returns-then-rest-eq0
returns-then-rest-eq0 g t c =
    let inner = g.I.ArrayToBytesCodecTraits.meaning c.args.inner_codecs.now in
    let type = type_of c.args.data_type.now in
    let front = c.args.front.now in
    let n = c.in-Some.size.now in
    let ns = c.in-Some.sizes.now in
    let p = c.in-Some-split_first.edge.now in
    let ps = c.in-Some-split_first.edges.now in
    let h : HasFirst c.args.sizes.now c.args.edges.now n p ns ps = record { sizes_are = c.in-Some.ensures.cases.0; edges_are = c.in-Some-split_first.ensures.cases.0; some = c.requires.sizes; positive = c.requires.edges } in
    let longer : c.as_slice-2.result.now ≡ front ++ p ∷ [] = c.as_slice-2.ensures.value ∙ c.in_ok-whole.ensures in
    let first : fits_shapes inner type (behind (front ++ p ∷ []) ns ps) ≡ true = sym (ap (λ (f : List ℕ). fits_shapes inner type (behind f ns ps)) longer) ∙ (sym c.in_ok-suits_shapes.ensures ∙ c.if-not-branch.false) in
    let fit : p ≤ n = omega (arith, c.if-size-edge.false) in
    sym (sym (ap (fits_shapes inner type) (behind_first front c.args.sizes.now c.args.edges.now n p ns ps h)) ∙ fits_even inner type front n p ns ps (first_edge c.args.sizes.now c.args.edges.now n p ns ps h) fit first c.if-rest-eq0.true)

pub returns : goal.returns
returns g t c =
    let inner = g.I.ArrayToBytesCodecTraits.meaning c.args.inner_codecs.now in
    let type = type_of c.args.data_type.now in
    let front = c.args.front.now in
    let n = c.in-Some.size.now in
    let ns = c.in-Some.sizes.now in
    let p = c.in-Some-split_first.edge.now in
    let ps = c.in-Some-split_first.edges.now in
    let h : HasFirst c.args.sizes.now c.args.edges.now n p ns ps = record { sizes_are = c.in-Some.ensures.cases.0; edges_are = c.in-Some-split_first.ensures.cases.0; some = c.requires.sizes; positive = c.requires.edges } in
    let longer : c.as_slice-2.result.now ≡ front ++ p ∷ [] = c.as_slice-2.ensures.value ∙ c.in_ok-whole.ensures in
    let first : fits_shapes inner type (behind (front ++ p ∷ []) ns ps) ≡ true = sym (ap (λ (f : List ℕ). fits_shapes inner type (behind f ns ps)) longer) ∙ (sym c.in_ok-suits_shapes.ensures ∙ c.if-not-branch.false) in
    let fit : p ≤ n = omega (arith, c.if-size-edge.false) in
    let some : 0 < n % p = omega (arith, c.if-rest-eq0.false) in
    let last : c.as_slice-3.result.now ≡ front ++ n % p ∷ [] = c.as_slice-3.ensures.value ∙ c.in_ok-last.ensures in
    let same = ap (λ (f : List ℕ). fits_shapes inner type (behind f ns ps)) last ∙ (sym (fits_more inner type front n p ns ps (first_edge c.args.sizes.now c.args.edges.now n p ns ps h) fit first some)
    ∙ ap (fits_shapes inner type) (behind_first front c.args.sizes.now c.args.edges.now n p ns ps h)) in
    IfOk-weaker c.suits_shapes-3.result _ _ (λ fit is. is ∙ same) c.suits_shapes-3.ensures
