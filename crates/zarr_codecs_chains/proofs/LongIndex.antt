-- Indexes of 2^63 numbers and more, which chains suit alike.
use Rattle.std.proofs.Common.{rules, ◌≡◌, ◌∙◌, ℕ, zero, suc, ◌+◌, ◌^◌, ◌<◌, ◌≤◌, List, [], ◌∷◌, length, map, Bool, true, false, ◌&&◌, ◌==◌, not, nat_lt, if◌then◌else◌, ap, sym, refl, arith}
use Rattle.std.specs.List.{list_all, list_any, range_with_len}
use Rattle.zarr_grids_boxes.specs.Boxes.{product}
use Rattle.zarr_codecs_meaning.specs.Chains.{ArrayCodec, ByteCodec, Chain, ShapeEntry}
use Rattle.zarr_codecs_meaning.specs.Chains.ArrayCodec.{transpose, reshape, squeeze}
use Rattle.zarr_codecs_meaning.specs.Fits.{array_codec_fits, entry_fits, fits, is_permutation}
use Rattle.zarr_codecs_meaning.specs.Places.{encoded_shape, known_product}
use Rattle.zarr_codecs_meaning.specs.Types.{DataType, integer, unsigned}
use Rattle.zarr_codecs_around.specs.Views.{codecs_of, with_array_codecs, with_codecs}
use Rattle.zarr_codecs_chains.specs.Views.{codec_chain, meaning_of}
use Rattle.zarr_codecs_chains.specs.declared.array_to_bytes.ArrayToBytesCodec.{ArrayToBytesCodec}
use Rattle.zarr_codecs_chains.specs.declared.array_to_bytes.ArrayToBytesCodec.TheVariants.{Bytes, PackBits, Vlen', Optional'}
use Rattle.zarr_codecs_chains.specs.declared.chain.CodecChain.{CodecChain}
use Rattle.zarr_codecs_around.proofs.Chains.{fits_with}

-- ---- tests that fail whatever the others answer

never_first : (a b x y : Bool) → a ≡ false → ((a && b) && x) ≡ ((a && b) && y)
never_first false b x y h = refl
never_first true b x y h = absurd (cc)

never_second : (a b x y : Bool) → b ≡ false → ((a && b) && x) ≡ ((a && b) && y)
never_second false b x y h = refl
never_second true false x y h = refl
never_second true true x y h = absurd (cc)

never_third : (a b c d x : Bool) → c ≡ false → ((a && (b && (c && d))) && x) ≡ false
never_third false b c d x h = refl
never_third true false c d x h = refl
never_third true true false d x h = refl
never_third true true true d x h = absurd (cc)

-- ---- array codecs

-- a transposition suits no list of another length than one, and leaves one of that length as it is
transposed : (chain : Chain) (type : DataType) (order : List ℕ) (n m : ℕ) → fits chain type (n ∷ []) ≡ fits chain type (m ∷ [])
    → (array_codec_fits (transpose order) (n ∷ []) && fits chain type (encoded_shape (transpose order) (n ∷ []))) ≡ (array_codec_fits (transpose order) (m ∷ []) && fits chain type (encoded_shape (transpose order) (m ∷ [])))
transposed chain type [] n m alike = refl
transposed chain type (zero ∷ []) n m alike = ap (λ (b : Bool). array_codec_fits (transpose (zero ∷ [])) (n ∷ []) && b) alike
transposed chain type (suc d ∷ []) n m alike =
    let above : nat_lt (suc d) 1 ≡ false = search rules in
    let outside : is_permutation (suc d ∷ []) ≡ false = ap (λ (b : Bool). (b && true) && list_all (λ e. list_any (λ m. m == e) (suc d ∷ [])) (range_with_len 0 1)) above in
    never_second (length (suc d ∷ []) == 1) (is_permutation (suc d ∷ [])) (fits chain type (encoded_shape (transpose (suc d ∷ [])) (n ∷ []))) (fits chain type (encoded_shape (transpose (suc d ∷ [])) (m ∷ []))) outside
transposed chain type (d ∷ e ∷ order) n m alike =
    let more : (length (d ∷ e ∷ order) == 1) ≡ false = search rules in
    never_first (length (d ∷ e ∷ order) == 1) (is_permutation (d ∷ e ∷ order)) (fits chain type (encoded_shape (transpose (d ∷ e ∷ order)) (n ∷ []))) (fits chain type (encoded_shape (transpose (d ∷ e ∷ order)) (m ∷ []))) more

-- no shape of 2^63 elements is reshaped
unshaped : (chain : Chain) (type : DataType) (entries : List ShapeEntry) (n : ℕ) → 2 ^ 63 ≤ n → (array_codec_fits (reshape entries) (n ∷ []) && fits chain type (encoded_shape (reshape entries) (n ∷ []))) ≡ false
unshaped chain type entries n large =
    let shape = encoded_shape (reshape entries) (n ∷ []) in
    let many : nat_lt (product (n ∷ [])) (2 ^ 63) ≡ false = search (rules, large) in
    never_third (list_all (entry_fits (known_product entries (n ∷ [])) 1) entries) (product shape == product (n ∷ [])) (nat_lt (product (n ∷ [])) (2 ^ 63)) (list_all (λ size. nat_lt size (2 ^ 64)) shape) (fits chain type shape) many

-- a list of more than one is squeezed to itself
squeezed_long : (n : ℕ) → 2 ^ 63 ≤ n → encoded_shape squeeze (n ∷ []) ≡ (n ∷ [])
squeezed_long n large =
    let other : (n == 1) ≡ false = search (rules, large) in
    ap (λ (b : Bool). elim (if not b then n ∷ [] else []) [ [] ↦ 1 ∷ [] | size ∷ sizes ↦ size ∷ sizes ]) other

-- a chain suits two lists of 2^63 elements or more alike, where what follows its array codecs does
alike_before : (codecs : List ArrayCodec) (chain : Chain) (type : DataType) (n m : ℕ) → 2 ^ 63 ≤ n → 2 ^ 63 ≤ m → fits chain type (n ∷ []) ≡ fits chain type (m ∷ [])
    → fits (with_array_codecs codecs chain) type (n ∷ []) ≡ fits (with_array_codecs codecs chain) type (m ∷ [])
alike_before [] chain type n m h k alike = alike
alike_before (transpose order ∷ codecs) chain type n m h k alike = transposed (with_array_codecs codecs chain) type order n m (alike_before codecs chain type n m h k alike)
alike_before (reshape entries ∷ codecs) chain type n m h k alike = unshaped (with_array_codecs codecs chain) type entries n h ∙ sym (unshaped (with_array_codecs codecs chain) type entries m k)
alike_before (squeeze ∷ codecs) chain type n m h k alike =
    let rest = with_array_codecs codecs chain in
    ap (fits rest type) (squeezed_long n h) ∙ (alike_before codecs chain type n m h k alike ∙ ap (fits rest type) (sym (squeezed_long m k)))

-- a codec between arrays and bytes suits numbers whatever the shape
number_alike : {B : Type 0} (meaning : B → ByteCodec) (codec : ArrayToBytesCodec B) (width n m : ℕ) → fits (codec_chain meaning codec) (integer unsigned width) (n ∷ []) ≡ fits (codec_chain meaning codec) (integer unsigned width) (m ∷ [])
number_alike meaning (Bytes codec) width n m = refl
number_alike meaning (PackBits codec) width n m = refl
number_alike meaning (Vlen' p before index after first content last size location name) width n m = refl
number_alike meaning (Optional' p before mask after first content last name) width n m = refl

index_alike : {B : Type 0} (meaning : B → ByteCodec) (chain : CodecChain B) (width n m : ℕ) → 2 ^ 63 ≤ n → 2 ^ 63 ≤ m → fits (meaning_of meaning chain) (integer unsigned width) (n ∷ []) ≡ fits (meaning_of meaning chain) (integer unsigned width) (m ∷ [])
index_alike meaning chain width n m h k =
    let codec = codec_chain meaning chain.others.array_to_bytes in
    let after = map meaning chain.others.bytes_to_bytes.items in
    let type = integer unsigned width in
    alike_before (codecs_of chain.array_to_array.items) (with_codecs codec after) type n m h k
    (fits_with codec after type (n ∷ []) ∙ (number_alike meaning chain.others.array_to_bytes width n m ∙ sym (fits_with codec after type (m ∷ []))))

-- a chain suits so many offsets, or 2^63 in their place, as it suits one more than there are elements
pub offsets_alike : {B : Type 0} (meaning : B → ByteCodec) (chain : CodecChain B) (width count length : ℕ) → (count < 2 ^ 63 → length ≡ count + 1) → (2 ^ 63 ≤ count → length ≡ 2 ^ 63)
    → fits (meaning_of meaning chain) (integer unsigned width) (length ∷ []) ≡ fits (meaning_of meaning chain) (integer unsigned width) ((count + 1) ∷ [])
offsets_alike meaning chain width count length few many = at (nat_lt count (2 ^ 63)) refl where
  at : (b : Bool) → nat_lt count (2 ^ 63) ≡ b → fits (meaning_of meaning chain) (integer unsigned width) (length ∷ []) ≡ fits (meaning_of meaning chain) (integer unsigned width) ((count + 1) ∷ [])
  at true e = let below : count < 2 ^ 63 = search (rules, e) in ap (λ n. fits (meaning_of meaning chain) (integer unsigned width) (n ∷ [])) (few below)
  at false e =
      let large : 2 ^ 63 ≤ count = search (rules, e) in
      let is = many large in
      let one : 2 ^ 63 ≤ length = omega (arith, is) in
      let two : 2 ^ 63 ≤ count + 1 = omega (arith, large) in
      index_alike meaning chain width length (count + 1) one two
