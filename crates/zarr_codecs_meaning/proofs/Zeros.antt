-- The cell of zeros is a value, and what fits one shape fits each where the chain takes each.
use Rattle.std.proofs.Common.{◌≡◌, ℕ, zero, suc, ◌+◌, ◌-◌, ◌/◌, ◌%◌, ◌^◌, List, [], ◌∷◌, length, take, drop, ap, ◌∙◌, refl, arith, Option, Some, None, Bool, true, false, ◌&&◌, ◌==◌, if◌then◌else◌, pow_pos, mod-eq_of_lt}
use Rattle.std.proofs.lemmas.Bool.{eq-eqb, lt-ltb, and_parts}
use Rattle.std.proofs.lemmas.List.{length-replicate}
use Rattle.zarr_grids_boxes.specs.Boxes.{product}
use Rattle.zarr_codecs_meaning.specs.Numbers.{number}
use Rattle.zarr_codecs_meaning.specs.Types.{DataType, bool, integer, custom, string, variable_bytes, optional_of, uint8, Sign, signed, unsigned, Component, bytes_in, extended, is_component, are_components, are_bytes, is_value, is_variable, zero_cell, inner_type}
use Rattle.zarr_codecs_meaning.specs.Chains.{Chain}
use Rattle.zarr_codecs_meaning.specs.Chains.Chain.{bytes, packbits, vlen, optional, after_array_codec, then_bytes, sharded}
use Rattle.zarr_codecs_meaning.specs.Fits.{fits, takes_each_shape}
use Rattle.zarr_codecs_meaning.proofs.Lists.{zero_list}

zeros_are_bytes : (n : ℕ) → are_bytes (zero_list n) ≡ true
zeros_are_bytes zero = refl
zeros_are_bytes (suc n) = zeros_are_bytes n

zeros_number : (n : ℕ) → number 256 (zero_list n) ≡ 0
zeros_number zero = refl
zeros_number (suc n) = let h = zeros_number n in omega (arith, h)

zeros_taken : (n m : ℕ) → take n (zero_list (n + m)) ≡ zero_list n
zeros_taken zero m = refl
zeros_taken (suc n) m = let e : suc n + m ≡ suc (n + m) = omega arith in ap (λ k. take (suc n) (zero_list k)) e ∙ ap (λ (ns : List ℕ). 0 ∷ ns) (zeros_taken n m)

zeros_dropped : (n m : ℕ) → drop n (zero_list (n + m)) ≡ zero_list m
zeros_dropped zero m = let e : 0 + m ≡ m = omega arith in ap (λ k. zero_list k) e
zeros_dropped (suc n) m = let e : suc n + m ≡ suc (n + m) = omega arith in ap (λ k. drop (suc n) (zero_list k)) e ∙ zeros_dropped n m

extended_zero : (sign : Sign) (bits count : ℕ) → extended sign bits count 0 ≡ 0
extended_zero unsigned bits count = refl
extended_zero signed bits count = ap (λ (b : Bool). if b then 0 else 0 + (256 ^ count - 2 ^ bits)) (lt-ltb 0 (2 ^ (bits - 1)) (pow_pos (bits - 1)))

zero_component : (c : Component) → is_component c (zero_list c.byte_count) ≡ true
zero_component c =
    let n = zeros_number c.byte_count in
    let low : 0 % 2 ^ c.width ≡ 0 = mod-eq_of_lt (pow_pos c.width) in
    ap (λ m. m == extended c.sign c.width c.byte_count (m % 2 ^ c.width)) n ∙ (ap (λ m. 0 == extended c.sign c.width c.byte_count m) low ∙ ap (λ m. 0 == m) (extended_zero c.sign c.width c.byte_count))

zero_components : (parts : List Component) → are_components parts (zero_list (bytes_in parts)) ≡ true
zero_components [] = refl
zero_components (c ∷ cs) =
    ap (λ ns. is_component c ns && are_components cs (drop c.byte_count (zero_list (c.byte_count + bytes_in cs)))) (zeros_taken c.byte_count (bytes_in cs))
    ∙ (ap (λ ns. is_component c (zero_list c.byte_count) && are_components cs ns) (zeros_dropped c.byte_count (bytes_in cs))
    ∙ (ap (λ (b : Bool). b && are_components cs (zero_list (bytes_in cs))) (zero_component c) ∙ zero_components cs))

zero_fixed : (parts : List Component) (n : ℕ) → n ≡ bytes_in parts → (are_bytes (zero_list n) && ((length (zero_list n) == bytes_in parts) && are_components parts (zero_list n))) ≡ true
zero_fixed parts n e =
    ap (λ (b : Bool). b && ((length (zero_list n) == bytes_in parts) && are_components parts (zero_list n))) (zeros_are_bytes n)
    ∙ (ap (λ (b : Bool). b && are_components parts (zero_list n)) (eq-eqb (length (zero_list n)) (bytes_in parts) (length-replicate n 0 ∙ e))
    ∙ (ap (λ k. are_components parts (zero_list k)) e ∙ zero_components parts))

-- the zero of a type is a value of it
pub zero_is_value : (type : DataType) → is_value type (zero_cell type) ≡ true
zero_is_value bool = refl
zero_is_value (integer sign width) = zero_fixed (record { width = width; byte_count = (width + 7) / 8; sign = sign } ∷ []) ((width + 7) / 8) (omega arith)
zero_is_value (custom parts) = zero_fixed parts (bytes_in parts) refl
zero_is_value string = refl
zero_is_value variable_bytes = refl
zero_is_value (optional_of inner) = refl

-- a chain that takes each shape fits each where it fits one
pub fits_each : (chain : Chain) (type : DataType) (one two : List ℕ) → takes_each_shape chain ≡ true → fits chain type one ≡ true → fits chain type two ≡ true
fits_each (bytes order) type one two takes fit = fit
fits_each (packbits padding first last) type one two takes fit = fit
fits_each (vlen index «data» width location) type one two takes fit =
    let t = and_parts (takes_each_shape index) (takes_each_shape «data») takes in
    let rest = λ (shape : List ℕ). fits index (integer unsigned width) ((product shape + 1) ∷ []) in
    let last = takes_each_shape «data» && fits «data» uint8 (0 ∷ []) in
    let a = and_parts (is_variable type) (rest one && last) fit in
    let b = and_parts (rest one) last a.1 in
    ap (λ (t : Bool). t && (rest two && last)) a.0 ∙ (ap (λ (t : Bool). t && last) (fits_each index (integer unsigned width) ((product one + 1) ∷ []) ((product two + 1) ∷ []) t.0 b.0) ∙ b.1)
fits_each (optional mask values) type one two takes fit =
    let t = and_parts (takes_each_shape mask) (takes_each_shape values) takes in
    masked_fits (inner_type type) values (fits mask bool one) (fits mask bool two) (fits_each mask bool one two t.0) fit where
      masked_fits : (o : Option DataType) (values : Chain) (before after : Bool) → (before ≡ true → after ≡ true)
          → (elim o [ None ↦ false | Some inner ↦ before && (takes_each_shape values && fits values inner (0 ∷ [])) ]) ≡ true → (elim o [ None ↦ false | Some inner ↦ after && (takes_each_shape values && fits values inner (0 ∷ [])) ]) ≡ true
      masked_fits None values before after law h = h
      masked_fits (Some inner) values before after law h =
          let b = and_parts before (takes_each_shape values && fits values inner (0 ∷ [])) h in
          ap (λ (t : Bool). t && (takes_each_shape values && fits values inner (0 ∷ []))) (law b.0) ∙ b.1
fits_each (after_array_codec codec chain) type one two takes fit = cc
fits_each (then_bytes chain codec) type one two takes fit = fits_each chain type one two takes fit
fits_each (sharded subchunk inner index location) type one two takes fit = cc
