-- Integers from bytes, in the code's numbers of 128 bits.
use Rattle.std.proofs.Common.{◌≡◌, ℕ, suc, ◌+◌, ◌-◌, ◌^◌, ◌<◌, ◌≤◌, pos, negsuc, ◌-ℤ◌, List, length, Bool, true, false, if◌then◌else◌, ap, ◌∙◌, sym, refl, arith, pow_mono}
use Rattle.std.specs.Prelude.{nat_lt, FitsSigned}
use Rattle.std.specs.Int.{FitsUnsigned}
use Rattle.std.proofs.lemmas.Bool.{le-ltb, ltb-false}
use Rattle.std.proofs.lemmas.Int.{ints}
use mir.Val.{of_z, to_z}
use mir.Syntax.{w64, w128}
use Rattle.zarr_codecs_meaning.specs.Numbers.{number}
use Rattle.zarr_codecs_meaning.specs.Types.{Sign, unsigned, signed}
use Rattle.zarr_codecs_types.specs.FillMetadata.{integer_from}
use Rattle.zarr_codecs_types.proofs.IntegerValues.{IsIntegerValue, number_fits, lowest}

pub below_one : (k : ℕ) → k < 2 ^ 64 → to_z w128 (of_z w128 (negsuc 0 -ℤ to_z w128 k)) ≡ negsuc k
below_one k h = omega (arith, ints)

pub from_high : (sign : Sign) (width : ℕ) (bytes : List ℕ) (word power half : ℕ) → sign ≡ signed → half ≡ 2 ^ (width - 1) → half ≤ word → word ≡ number 256 bytes → power ≡ 256 ^ length bytes
    → negsuc (power - (word + 1)) ≡ integer_from sign width bytes
from_high sign width bytes word power half is e high same all =
    let n = number 256 bytes in
    let one : word + 1 ≡ suc n = omega (arith, same) in
    let more : 2 ^ (width - 1) ≤ n = omega (arith, e, same, high) in
    let test : nat_lt n (2 ^ (width - 1)) ≡ false = le-ltb n (2 ^ (width - 1)) more in
    ap (λ m. negsuc (power - m)) one ∙ (ap (λ p. negsuc (p - suc n)) all
    ∙ sym (ap (λ s. integer_from s width bytes) is ∙ ap (λ (b : Bool). if b then pos n else negsuc (256 ^ length bytes - suc n)) test))

fits_word : (b : Bool) (n below half : ℕ) → nat_lt n half ≡ b → n < 2 ^ 64 → (half ≤ n → below < half) → half ≤ 2 ^ 63
    → (FitsUnsigned w64 (if b then pos n else negsuc below) → ⊥) → (FitsSigned w64 (if b then pos n else negsuc below) → ⊥) → ⊥
fits_word true n below half is small low within not_unsigned not_signed = not_unsigned (omega (arith, ints), omega (arith, ints))
fits_word false n below half is small low within not_unsigned not_signed = let less = low (ltb-false n half is) in not_signed (omega (arith, ints))

-- an integer of at most 64 bits is one that JSON can tell
pub from_in_word : (sign : Sign) (width : ℕ) (bytes : List ℕ) → width ≤ 64 → IsIntegerValue sign width bytes
    → (FitsUnsigned w64 (integer_from sign width bytes) → ⊥) → (FitsSigned w64 (integer_from sign width bytes) → ⊥) → ⊥
from_in_word unsigned width bytes narrow h not_unsigned not_signed =
    let long = h.long in
    let small = number_fits bytes h.below (omega arith) in
    not_unsigned (omega (arith, ints), omega (arith, ints))
from_in_word signed width bytes narrow h not_unsigned not_signed =
    let long = h.long in
    let less : width - 1 ≤ 63 = omega arith in
    fits_word (nat_lt (number 256 bytes) (2 ^ (width - 1))) (number 256 bytes) (256 ^ length bytes - suc (number 256 bytes)) (2 ^ (width - 1)) refl (number_fits bytes h.below (omega arith)) (λ high. lowest width bytes h high) (pow_mono less) not_unsigned not_signed
