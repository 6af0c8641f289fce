use Rattle.std.proofs.Common.{◌≡◌, ◌+◌, ◌*◌, ℕ, ◌++◌, length, sym, ap, ap₂, ◌∙◌, arith, rules}
use Rattle.std.specs.Prelude.{flat_map}
use Rattle.std.specs.List.{range_with_len}
use Rattle.zarr_codecs_strides.specs.Strides.{strided, stretch_at}
use Rattle.zarr_codecs_strides.proofs.Walks.{inner_walk, flat_more, stretches_walked}
use Rattle.zarr_codecs_strides.proofs.stretches.+push_stretches.Goals as goal

pub overflow_mul-i : goal.overflow_mul-i
overflow_mul-i t c =
    let w = inner_walk c.args.walk.sizes.now c.args.walk.strides.now c.args.base c.args.stretches.width c.args.stretches.stretch (length c.args.stretches.bytes.now) c.in-Some-Some.size.now c.in-Some-Some.stride.now c.loop-i.i c.in-Some-Some.sizes.now c.in-Some-Some.strides.now c.in-Some-Some.ensures.cases.0 c.in-Some-Some.ensures'.cases.0 c.requires.ranks c.requires.some c.requires.inside c.loop-i-test.true in
    let s = w.steps in
    omega arith

pub overflow_add-base : goal.overflow_add-base
overflow_add-base t c =
    let w = inner_walk c.args.walk.sizes.now c.args.walk.strides.now c.args.base c.args.stretches.width c.args.stretches.stretch (length c.args.stretches.bytes.now) c.in-Some-Some.size.now c.in-Some-Some.stride.now c.loop-i.i c.in-Some-Some.sizes.now c.in-Some-Some.strides.now c.in-Some-Some.ensures.cases.0 c.in-Some-Some.ensures'.cases.0 c.requires.ranks c.requires.some c.requires.inside c.loop-i-test.true in
    let s = w.place in
    omega arith

pub push_stretches-requires : goal.push_stretches-requires
push_stretches-requires t c =
    let w = inner_walk c.args.walk.sizes.now c.args.walk.strides.now c.args.base c.args.stretches.width c.args.stretches.stretch (length c.args.stretches.bytes.now) c.in-Some-Some.size.now c.in-Some-Some.stride.now c.loop-i.i c.in-Some-Some.sizes.now c.in-Some-Some.strides.now c.in-Some-Some.ensures.cases.0 c.in-Some-Some.ensures'.cases.0 c.requires.ranks c.requires.some c.requires.inside c.loop-i-test.true in
    let s = w.shorter in
    (search rules, (w.ranks, (w.some, w.inside)))

pub loop-i-preserved : goal.loop-i-preserved
loop-i-preserved t c = flat_more (λ k. flat_map (stretch_at c.args.stretches.width c.args.stretches.stretch c.args.stretches.bytes.now) (strided (c.args.base + k * c.in-Some-Some.stride.now) c.in-Some-Some.sizes.now c.in-Some-Some.strides.now)) c.args.out.now.items c.loop-i.out.items c.push_stretches.new.out.items c.loop-i.i c.loop-i.invariant c.in_ok-push_stretches-in-Some-Some.ensures

pub returns-after-loop-i : goal.returns-after-loop-i
returns-after-loop-i t c =
    let size = c.in-Some-Some.size.now in
    let e : c.loop-i.i ≡ size = omega arith in
    let f = λ (k : ℕ). flat_map (stretch_at c.args.stretches.width c.args.stretches.stretch c.args.stretches.bytes.now) (strided (c.args.base + k * c.in-Some-Some.stride.now) c.in-Some-Some.sizes.now c.in-Some-Some.strides.now) in
    c.loop-i.invariant
    ∙ ap (λ n. c.args.out.now.items ++ flat_map f (range_with_len 0 n)) e
    ∙ ap (λ vs. c.args.out.now.items ++ vs) (stretches_walked c.args.stretches.width c.args.stretches.stretch c.args.base size c.in-Some-Some.stride.now c.args.stretches.bytes.now c.in-Some-Some.sizes.now c.in-Some-Some.strides.now
    ∙ ap₂ (λ vs ws. flat_map (stretch_at c.args.stretches.width c.args.stretches.stretch c.args.stretches.bytes.now) (strided c.args.base vs ws)) (sym c.in-Some-Some.ensures.cases.0) (sym c.in-Some-Some.ensures'.cases.0))
