-- What writes leave, and what they take: of values that are written whole, and of chains without shards.
use Rattle.std.proofs.Common.{◌≡◌, ◌∙◌, ◌≤◌, ℕ, ◌+◌, List, ap, sym, subst, refl, inl, inr, arith, None, Some, Option, Bool, true, false, if◌then◌else◌, IsTrue, Result, Ok, Err}
use Rattle.std.specs.Prelude.{◌⊎◌, MatchBool, OnOk}
use Rattle.zarr_codecs_meaning.specs.Chains.{Chain}
use Rattle.zarr_codecs_meaning.specs.Chains.Chain.{bytes, packbits, vlen, optional, after_array_codec, then_bytes, sharded}
use Rattle.zarr_codecs_meaning.specs.Fits.{is_plain}
use Rattle.zarr_codecs_meaning.specs.Partial.{encodes_in_part}
use Rattle.zarr_codecs_meaning.specs.Places.{encoded_shape}
use Rattle.zarr_codecs_meaning.specs.Types.{Elements}
use Rattle.zarr_codecs_arrays.specs.declared.error.CodecError.{CodecError}
use Rattle.zarr_sharding_changes.proofs.Gapless.{plain_gapless}
use Rattle.zarr_codecs_traits.specs.Arrays.{Coded, Update}
use Rattle.zarr_codecs_traits.specs.Indexers.{numbers_asked}
use Rattle.zarr_codecs_traits.specs.PartWriting.{AfterWrite, EncodesInto, IsPlaced, LacksRoom, cells_after, write_moved, write_of}
use Rattle.zarr_codecs_traits.specs.ShardWrites.{Appends, AppendsParts, GivesWriting, IsStoredGapless, LeavesParts, most_for_parts, most_patched, most_to_write}
use Rattle.zarr_codecs_traits.specs.Sources.{value_length}
use Rattle.zarr_codecs_traits.specs.Writes.{IsGivenByPatching, most_to_patch}
use Rattle.zarr_codecs_traits.proofs.Damage.{plain_placed, whole_placed}

-- ---- what is left

-- what is left by a write, by whether the chain is encoded in part
parts_by : (partly : Bool) (array : Coded) (update : Update) (new : Option (List ℕ)) → encodes_in_part array.chain ≡ partly
    → MatchBool partly (AppendsParts array update new ⊎ (LacksRoom array update × IsStoredGapless array.chain array.shape new)) (IsStoredGapless array.chain array.shape new)
    → MatchBool (encodes_in_part array.chain) (AppendsParts array update new ⊎ (LacksRoom array update × IsStoredGapless array.chain array.shape new)) (IsStoredGapless array.chain array.shape new)
parts_by partly array update new is parts =
    let appended = AppendsParts array update new ⊎ (LacksRoom array update × IsStoredGapless array.chain array.shape new) in
    let anew = IsStoredGapless array.chain array.shape new in
    subst (λ (b : Bool). MatchBool b appended anew) (sym is) parts

whole_leaves : (array : Coded) (update : Update) (new : Option (List ℕ)) → encodes_in_part array.chain ≡ false → IsStoredGapless array.chain array.shape new → LeavesParts array update new
whole_leaves array update new whole gapless = record { placed = whole_placed array.chain array.shape update.stored whole; parts = parts_by false array update new whole gapless }

pub whole_parts : {A : Type 0} (array : Coded) (update : Update) (new : Option (List ℕ)) (r : Result A CodecError) → encodes_in_part array.chain ≡ false → OnOk r (IsStoredGapless array.chain array.shape new) → OnOk r (LeavesParts array update new)
whole_parts array update new (Ok value) whole gapless = whole_leaves array update new whole gapless
whole_parts array update new (Err e) whole gapless = tt

-- a chain without shards appends nothing, and has no gaps
plain_appends : (chain : Chain) (elements : Elements) (shape : List ℕ) (write : AfterWrite) (new : Option (List ℕ)) → is_plain chain ≡ true → Appends chain elements shape write new
plain_appends (bytes order) elements shape write new plain = tt
plain_appends (packbits padding first last) elements shape write new plain = tt
plain_appends (vlen index «data» width location) elements shape write new plain = tt
plain_appends (optional mask values) elements shape write new plain = tt
plain_appends (after_array_codec codec chain) elements shape write new plain = plain_appends chain elements (encoded_shape codec shape) (write_moved codec elements.fill shape write) new plain
plain_appends (then_bytes chain codec) elements shape write new plain = tt
plain_appends (sharded subchunk inner index location) elements shape write new plain = cc

plain_stored : (chain : Chain) (shape : List ℕ) (stored : Option (List ℕ)) → is_plain chain ≡ true → IsStoredGapless chain shape stored
plain_stored chain shape None plain = tt
plain_stored chain shape (Some value) plain = plain_gapless chain shape value plain

plain_leaves : (partly exact : Bool) (array : Coded) (update : Update) (new : Option (List ℕ)) → encodes_in_part array.chain ≡ partly → is_plain array.chain ≡ true → EncodesInto array exact update new → LeavesParts array update new
plain_leaves true exact array update new is plain made = record {
  placed = plain_placed array.chain array.shape update.stored plain;
  parts = parts_by true array update new is
      (inl (record {
        cells = made.0;
        valid = made.1.valid;
        fit = made.1.fit;
        inside = made.1.inside;
        is = plain_appends array.chain array.elements array.shape (write_of array update (cells_after array update.stored (numbers_asked array.shape update.asked) made.0)) new plain;
      }));
}
plain_leaves false exact array update new is plain made = record {
  placed = plain_placed array.chain array.shape update.stored plain;
  parts = parts_by false array update new is (plain_stored array.chain array.shape new plain);
}

pub plain_parts : {A : Type 0} (exact : Bool) (array : Coded) (update : Update) (new : Option (List ℕ)) (r : Result A CodecError) → is_plain array.chain ≡ true → OnOk r (EncodesInto array exact update new) → OnOk r (LeavesParts array update new)
plain_parts exact array update new (Ok value) plain made = plain_leaves (encodes_in_part array.chain) exact array update new refl plain made
plain_parts exact array update new (Err e) plain made = tt

-- a value that is written whole, as there was no room for the new slices
pub unroomed_parts : {A : Type 0} (array : Coded) (update : Update) (new : Option (List ℕ)) (r : Result A CodecError) → encodes_in_part array.chain ≡ true → IsPlaced array.chain array.shape update.stored → LacksRoom array update → OnOk r (IsStoredGapless array.chain array.shape new)
    → OnOk r (LeavesParts array update new)
unroomed_parts array update new (Ok value) partly placed room gapless = record { placed = placed; parts = parts_by true array update new partly (inr (room, gapless)) }
unroomed_parts array update new (Err e) partly placed room gapless = tt

-- ---- what is taken

pub whole_given : (array : Coded) (update : Update) (ranges : Bool) (before after : ℕ) → encodes_in_part array.chain ≡ false → after ≤ before + value_length update.stored → GivesWriting array update ranges before after
whole_given array update ranges before after whole few =
    let parts = most_for_parts array.chain array.elements.type array.shape update.stored (numbers_asked array.shape update.asked) in
    let same : most_to_write array update ≡ value_length update.stored = ap (λ (b : Bool). if b then parts else value_length update.stored) whole in
    inl (omega (arith, same, few))

-- a chain that is encoded in part has ranges written
pub parts_given : (array : Coded) (update : Update) (ranges : Bool) (before after : ℕ) → encodes_in_part array.chain ≡ true → after ≤ before + most_to_write array update + most_to_patch ranges update.stored → GivesWriting array update ranges before after
parts_given array update ranges before after partly few =
    let patch : most_patched array update ranges ≡ most_to_patch ranges update.stored = ap (λ (b : Bool). if b then most_to_patch ranges update.stored else 0) partly in
    inl (omega (arith, patch, few))

pub nothing_given : (array : Coded) (update : Update) (ranges : Bool) (before after : ℕ) → encodes_in_part array.chain ≡ true → most_to_write array update ≡ 0 → after ≤ before + most_to_patch ranges update.stored → GivesWriting array update ranges before after
nothing_given array update ranges before after partly none few = parts_given array update ranges before after partly (omega (arith, none, few))

pub unroomed_given : (array : Coded) (update : Update) (ranges : Bool) (before tried after : ℕ) → LacksRoom array update → tried ≤ before + most_to_write array update → after ≤ tried + value_length update.stored → GivesWriting array update ranges before after
unroomed_given array update ranges before tried after room first second = inr (room, omega (arith, first, second))

-- what a source gave to write ranges of its value
pub patched_given : (ranges : Bool) (contents : Option (List ℕ)) (before after : ℕ) → (IsTrue ranges → after ≡ before) → IsGivenByPatching contents before after → after ≤ before + most_to_patch ranges contents
patched_given true contents before after none once = let same = none refl in omega (arith, same)
patched_given false contents before after none (inl same) = omega (arith, same)
patched_given false contents before after none (inr more) = omega (arith, more)

-- ---- other arrays and updates

-- what is asked for of the parts or of the whole, where each of these follows from another fact
pub either_by : (partly : Bool) (parts others room more whole all : Type 0) → (parts → others) → (room → more) → (whole → all) → MatchBool partly (parts ⊎ (room × whole)) whole → MatchBool partly (others ⊎ (more × all)) all
either_by true parts others room more whole all first second third (inl is) = inl (first is)
either_by true parts others room more whole all first second third (inr is) = inr (second is.0, third is.1)
either_by false parts others room more whole all first second third is = third is

pub gives_by : (inner outer : Coded) (update next : Update) (ranges : Bool) (before after : ℕ) → most_to_write inner update ≡ most_to_write outer next → encodes_in_part inner.chain ≡ encodes_in_part outer.chain → update.stored ≡ next.stored → (LacksRoom inner update → LacksRoom outer next)
    → GivesWriting inner update ranges before after → GivesWriting outer next ranges before after
gives_by inner outer update next ranges before after same partly stays room (inl few) =
    let patch : most_patched inner update ranges ≡ most_patched outer next ranges = ap (λ (b : Bool). if b then most_to_patch ranges update.stored else 0) partly ∙ ap (λ (o : Option (List ℕ)). if encodes_in_part outer.chain then most_to_patch ranges o else 0) stays in
    inl (omega (arith, same, patch, few))
gives_by inner outer update next ranges before after same partly stays room (inr more) = let long = ap value_length stays in inr (room more.0, (let few = more.1 in omega (arith, same, long, few)))
