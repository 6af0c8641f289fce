-- How many bytes are given for a slice, by its pair and by how many bytes the value has.
use Rattle.std.proofs.Common.{◌≡◌, ℕ, ◌+◌, ◌<◌, ◌≤◌, Bool, true, false, not, ◌&&◌, nat_le, if◌then◌else◌, refl, sym, subst, arith}
use Rattle.std.proofs.lemmas.Bool.{false≢true, leb-false}
use Rattle.zarr_codecs_meaning.specs.Decoding.{is_absent}
use Rattle.zarr_codecs_meaning.specs.Encoding.{Pair}
use Rattle.zarr_codecs_traits.specs.ReadBytes.{slice_length}
use Rattle.zarr_codecs_traits.specs.declared.byte_range.ByteRange.{ByteRange}
use Rattle.zarr_sharding_index.specs.Views.{pair_of}

few_or_none : (gone within : Bool) (long before after : ℕ) → gone ≡ false → after ≤ before + long → (within ≡ false → after ≡ before) → after ≤ before + (if not gone && within then long else 0)
few_or_none true within long before after there few none = absurd (false≢true (sym there))
few_or_none false true long before after there few none = few
few_or_none false false long before after there few none = let same : after ≡ before = none refl in omega (arith, same)

-- at most as many as the pair says, and none where it ends past the end
pub slice_given : (total : ℕ) (range : ByteRange) (pair : Pair) (before after : ℕ) → pair_of range ≡ pair → is_absent pair ≡ false → after ≤ before + range.length → (total < range.offset + range.length → after ≡ before) → after ≤ before + slice_length total pair
slice_given total range pair before after is there few none =
    subst (λ (p : Pair). is_absent p ≡ false → after ≤ before + slice_length total p) is
    (λ present. few_or_none (is_absent (pair_of range)) (nat_le (range.offset + range.length) total) range.length before after present few (λ past. none (leb-false (range.offset + range.length) total past))) there
