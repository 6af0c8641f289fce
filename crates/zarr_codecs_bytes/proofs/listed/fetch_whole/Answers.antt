use Rattle.std.proofs.Common.{◌∙◌, ap, subst, List, ℕ, [], ◌∷◌, length, arith}
use Rattle.zarr_codecs_bytes.specs.Parts.{IsListed, listed_width}
use Rattle.zarr_codecs_bytes.proofs.PartBytes.{found_whole, none_found, whole_read}
use Rattle.zarr_codecs_bytes.proofs.listed.fetch_whole.Goals as goal
use Rattle.zarr_codecs_traits.specs.Sources.{bytes_in_ranges}

pub returns-then-len-size-clause-cause : goal.returns-then-len-size-clause-cause
returns-then-len-size-clause-cause g c = λ honest value is long.
    let same = found_whole c.in-Ok-Some.field-0 c.in-Ok-Some.value value c.args.size long c.in-Ok-Some.field-0-is (c.in-Ok-Some.ensures.bytes honest value is) in
    absurd (omega (arith, long, ap (λ (bytes : List ℕ). length bytes) same, c.if-len-size.true))

pub returns-in_ok-extract-in-Ok-Some-clause-has : goal.returns-in_ok-extract-in-Ok-Some-clause-has
returns-in_ok-extract-in-Ok-Some-clause-has g c = λ honest value is long.
    let same = found_whole c.in-Ok-Some.field-0 c.in-Ok-Some.value value c.args.size long c.in-Ok-Some.field-0-is (c.in-Ok-Some.ensures.bytes honest value is) in
    record {
      positive = c.requires.positive;
      whole = long ∙ c.requires.size;
      are = subst (λ (bytes : List ℕ). IsListed (listed_width c.args.part) bytes c.args.part.numbers.now c.in_ok-extract-in-Ok-Some.field-0.items) (c.as_slice.ensures.value ∙ same) c.in_ok-extract-in-Ok-Some.ensures;
    }

pub returns-in-Ok-None-clause-has : goal.returns-in-Ok-None-clause-has
returns-in-Ok-None-clause-has g c = λ honest value is long. none_found c.in-Ok-None.field-0 (bytes_in_ranges value (record { offset = 0; length = c.args.size } ∷ [])) c.in-Ok-None.field-0-is (c.in-Ok-None.ensures.bytes honest value is)

pub returns-then-len-size-clause-given : goal.returns-then-len-size-clause-given
returns-then-len-size-clause-given g c = λ honest value is long.
    omega (arith, long, ap (λ (bytes : List ℕ). length bytes) (whole_read value c.args.size long), c.fetch_ranges.ensures.given honest value is)

pub returns-in_err-extract-in-Ok-Some-clause-given : goal.returns-in_err-extract-in-Ok-Some-clause-given
returns-in_err-extract-in-Ok-Some-clause-given g c = λ honest value is long.
    omega (arith, long, ap (λ (bytes : List ℕ). length bytes) (whole_read value c.args.size long), c.fetch_ranges.ensures.given honest value is)

pub returns-in_ok-extract-in-Ok-Some-clause-given : goal.returns-in_ok-extract-in-Ok-Some-clause-given
returns-in_ok-extract-in-Ok-Some-clause-given g c = λ honest value is long.
    omega (arith, long, ap (λ (bytes : List ℕ). length bytes) (whole_read value c.args.size long), c.fetch_ranges.ensures.given honest value is)

pub returns-in-Ok-None-clause-given : goal.returns-in-Ok-None-clause-given
returns-in-Ok-None-clause-given g c = λ honest value is long.
    omega (arith, long, ap (λ (bytes : List ℕ). length bytes) (whole_read value c.args.size long), c.fetch_ranges.ensures.given honest value is)

pub returns-in-Err-clause-given : goal.returns-in-Err-clause-given
returns-in-Err-clause-given g c = λ honest value is long.
    omega (arith, long, ap (λ (bytes : List ℕ). length bytes) (whole_read value c.args.size long), c.fetch_ranges.ensures.given honest value is)
