use Rattle.std.proofs.Common.{◌≡◌, ◌∙◌, ◌+◌, ◌<◌, ◌≤◌, ◌-◌, ◌%◌, ◌^◌, ◌++◌, ◌∷◌, [], List, ℕ, min, Err, option_and_then, option_map, ap, sym, subst, arith}
use Rattle.zarr_codecs_types.specs.Views.{type_of}
use Rattle.zarr_sharding_codec.specs.Fitting.{AreBounded, BoundsShapes, LastDimensions, behind}
use Rattle.zarr_sharding_codec.proofs.PartShapes.{HasFirst, behind_first, first_edge, first_size}
use Rattle.zarr_sharding_codec.proofs.ShardBounds.{shapes_alone, shapes_bounded_even, shapes_bounded_more, shapes_bounded_short, shapes_unbounded_last, shapes_unbounded_whole}
use Rattle.zarr_sharding_codec.proofs.representing.+bound_shapes.Goals as goal

pub returns-in_default : goal.returns-in_default
returns-in_default g t c =
    shapes_alone (g.I.ArrayToBytesCodecTraits.meaning c.args.inner_codecs.now) (type_of c.args.data_type.now) c.args.front.now c.args.sizes.now c.args.edges.now c.bound_alone.result c.in_default.ensures.cases c.requires.rank c.bound_alone.ensures

pub returns-then-size-edge : goal.returns-then-size-edge
returns-then-size-edge g t c =
    let inner = g.I.ArrayToBytesCodecTraits.meaning c.args.inner_codecs.now in
    let type = type_of c.args.data_type.now in
    let front = c.args.front.now in
    let n = c.in-Some.size.now in
    let ns = c.in-Some.sizes.now in
    let p = c.in-Some-split_first.edge.now in
    let ps = c.in-Some-split_first.edges.now in
    let h : HasFirst c.args.sizes.now c.args.edges.now n p ns ps = record { sizes_are = c.in-Some.ensures.cases.0; edges_are = c.in-Some-split_first.ensures.cases.0; some = c.requires.sizes; positive = c.requires.edges } in
    let all = behind_first front c.args.sizes.now c.args.edges.now n p ns ps h in
    let r = c.bound_shapes.result in
    let longer : c.as_slice.result.now ≡ front ++ n ∷ [] = c.as_slice.ensures.value ∙ c.in_ok-longer.ensures in
    let found = subst (λ (f : List ℕ). BoundsShapes inner type (behind f ns ps) r) longer c.bound_shapes.ensures in
    subst (λ (d : LastDimensions). BoundsShapes inner type d r) all (shapes_bounded_short inner type front n p ns ps r (first_size c.args.sizes.now c.args.edges.now n p ns ps h) c.if-size-edge.true found)

pub returns-in-Err : goal.returns-in-Err
returns-in-Err g t c =
    let inner = g.I.ArrayToBytesCodecTraits.meaning c.args.inner_codecs.now in
    let type = type_of c.args.data_type.now in
    let front = c.args.front.now in
    let n = c.in-Some.size.now in
    let ns = c.in-Some.sizes.now in
    let p = c.in-Some-split_first.edge.now in
    let ps = c.in-Some-split_first.edges.now in
    let h : HasFirst c.args.sizes.now c.args.edges.now n p ns ps = record { sizes_are = c.in-Some.ensures.cases.0; edges_are = c.in-Some-split_first.ensures.cases.0; some = c.requires.sizes; positive = c.requires.edges } in
    let all = behind_first front c.args.sizes.now c.args.edges.now n p ns ps h in
    let positive = first_edge c.args.sizes.now c.args.edges.now n p ns ps h in
    let fit : p ≤ n = omega (arith, c.if-size-edge.false) in
    let whole : c.as_slice-2.result.now ≡ front ++ p ∷ [] = c.as_slice-2.ensures.value ∙ c.in_ok-whole.ensures in
    let e = c.in-Err.error in
    let found = subst (λ (f : List ℕ). BoundsShapes inner type (behind f ns ps) (Err e)) whole c.in-Err.ensures in
    subst (λ (d : LastDimensions). BoundsShapes inner type d (Err e)) all (shapes_unbounded_whole inner type front n p ns ps e positive fit found)

pub returns-then-rest-eq0 : goal.returns-then-rest-eq0
returns-then-rest-eq0 g t c =
    let inner = g.I.ArrayToBytesCodecTraits.meaning c.args.inner_codecs.now in
    let type = type_of c.args.data_type.now in
    let front = c.args.front.now in
    let n = c.in-Some.size.now in
    let ns = c.in-Some.sizes.now in
    let p = c.in-Some-split_first.edge.now in
    let ps = c.in-Some-split_first.edges.now in
    let h : HasFirst c.args.sizes.now c.args.edges.now n p ns ps = record { sizes_are = c.in-Some.ensures.cases.0; edges_are = c.in-Some-split_first.ensures.cases.0; some = c.requires.sizes; positive = c.requires.edges } in
    let all = behind_first front c.args.sizes.now c.args.edges.now n p ns ps h in
    let positive = first_edge c.args.sizes.now c.args.edges.now n p ns ps h in
    let fit : p ≤ n = omega (arith, c.if-size-edge.false) in
    let whole : c.as_slice-2.result.now ≡ front ++ p ∷ [] = c.as_slice-2.ensures.value ∙ c.in_ok-whole.ensures in
    let found = subst (λ (f : List ℕ). AreBounded inner type (behind f ns ps) c.in-Ok.bound) whole c.in-Ok.ensures in
    let told = subst (λ o. AreBounded inner type (behind front (n ∷ ns) (p ∷ ps)) o) (sym c.bound_times-all.ensures) (shapes_bounded_even inner type front n p ns ps c.in-Ok.bound positive fit c.if-rest-eq0.true found) in
    subst (λ (d : LastDimensions). AreBounded inner type d c.bound_times-all.result) all told

pub returns-in-Ok-bound_shapes : goal.returns-in-Ok-bound_shapes
returns-in-Ok-bound_shapes g t c =
    let inner = g.I.ArrayToBytesCodecTraits.meaning c.args.inner_codecs.now in
    let type = type_of c.args.data_type.now in
    let front = c.args.front.now in
    let n = c.in-Some.size.now in
    let ns = c.in-Some.sizes.now in
    let p = c.in-Some-split_first.edge.now in
    let ps = c.in-Some-split_first.edges.now in
    let h : HasFirst c.args.sizes.now c.args.edges.now n p ns ps = record { sizes_are = c.in-Some.ensures.cases.0; edges_are = c.in-Some-split_first.ensures.cases.0; some = c.requires.sizes; positive = c.requires.edges } in
    let all = behind_first front c.args.sizes.now c.args.edges.now n p ns ps h in
    let positive = first_edge c.args.sizes.now c.args.edges.now n p ns ps h in
    let fit : p ≤ n = omega (arith, c.if-size-edge.false) in
    let whole : c.as_slice-2.result.now ≡ front ++ p ∷ [] = c.as_slice-2.ensures.value ∙ c.in_ok-whole.ensures in
    let found = subst (λ (f : List ℕ). AreBounded inner type (behind f ns ps) c.in-Ok.bound) whole c.in-Ok.ensures in
    let left : 0 < n % p = omega (arith, c.if-rest-eq0.false) in
    let last : c.as_slice-3.result.now ≡ front ++ n % p ∷ [] = c.as_slice-3.ensures.value ∙ c.in_ok-last.ensures in
    let more = subst (λ (f : List ℕ). AreBounded inner type (behind f ns ps) c.in-Ok-bound_shapes.bound) last c.in-Ok-bound_shapes.ensures in
    let sum = c.bound_sum.ensures ∙ ap (option_and_then (λ m. option_map (λ k. min (m + k) (2 ^ 64 - 1)) c.in-Ok-bound_shapes.bound)) c.bound_times-all.ensures in
    let told = subst (λ o. AreBounded inner type (behind front (n ∷ ns) (p ∷ ps)) o) (sym sum) (shapes_bounded_more inner type front n p ns ps c.in-Ok.bound c.in-Ok-bound_shapes.bound positive fit left found more) in
    subst (λ (d : LastDimensions). AreBounded inner type d c.bound_sum.result) all told

pub returns : goal.returns
returns g t c =
    let inner = g.I.ArrayToBytesCodecTraits.meaning c.args.inner_codecs.now in
    let type = type_of c.args.data_type.now in
    let front = c.args.front.now in
    let n = c.in-Some.size.now in
    let ns = c.in-Some.sizes.now in
    let p = c.in-Some-split_first.edge.now in
    let ps = c.in-Some-split_first.edges.now in
    let h : HasFirst c.args.sizes.now c.args.edges.now n p ns ps = record { sizes_are = c.in-Some.ensures.cases.0; edges_are = c.in-Some-split_first.ensures.cases.0; some = c.requires.sizes; positive = c.requires.edges } in
    let all = behind_first front c.args.sizes.now c.args.edges.now n p ns ps h in
    let positive = first_edge c.args.sizes.now c.args.edges.now n p ns ps h in
    let fit : p ≤ n = omega (arith, c.if-size-edge.false) in
    let whole : c.as_slice-2.result.now ≡ front ++ p ∷ [] = c.as_slice-2.ensures.value ∙ c.in_ok-whole.ensures in
    let left : 0 < n % p = omega (arith, c.if-rest-eq0.false) in
    let last : c.as_slice-3.result.now ≡ front ++ n % p ∷ [] = c.as_slice-3.ensures.value ∙ c.in_ok-last.ensures in
    let e = c.in-Err-bound_shapes.error in
    let found = subst (λ (f : List ℕ). BoundsShapes inner type (behind f ns ps) (Err e)) last c.in-Err-bound_shapes.ensures in
    subst (λ (d : LastDimensions). BoundsShapes inner type d (Err e)) all (shapes_unbounded_last inner type front n p ns ps e positive left found)
