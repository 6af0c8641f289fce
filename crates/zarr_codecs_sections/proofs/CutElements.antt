-- Elements of variable length that offsets cut out of bytes.
use Rattle.std.proofs.Common.{◌≡◌, ℕ, ◌+◌, ◌-◌, ◌≤◌, List, [], ◌∷◌, length, map, take, drop, flat_map, ap, ◌∙◌, sym, refl, arith, Option, Some, None, option_map, Bool, true, false, ◌&&◌, ◌==◌, if◌then◌else◌, length-drop}
use Rattle.std.specs.Prelude.{nat_le}
use Rattle.std.proofs.lemmas.Bool.{le-leb, leb-true, eq-eqb, eqb-true, and_parts}
use Rattle.std.proofs.Math.Seq.{drop-drop}
use Rattle.zarr_codecs_meaning.specs.Types.{uint8, Cell, of_bytes, cell_bytes}
use Rattle.zarr_codecs_meaning.specs.Payloads.{Payload, fixed, variable, bytes_between, variable_in, cells_in}
use Rattle.zarr_codecs_meaning.specs.Encoding.{last_number}
use Rattle.zarr_codecs_meaning.specs.Decoding.{elements_between, elements_of}
use Rattle.zarr_codecs_meaning.proofs.Lists.{map_some, if_some}
use Rattle.zarr_codecs_arrays.specs.Offsets.{are_rising}
use Rattle.zarr_codecs_arrays.proofs.FixedCells.{flat_map-fixed_cells, fixed_in-whole}
use Rattle.zarr_codecs_sections.specs.Marks.{begins_at_zero}
use Rattle.zarr_codecs_sections.specs.Outcomes.{IsCut}

-- ---- where elements are cut

pub rising_last : (ns : List ℕ) (n : ℕ) → are_rising (n ∷ ns) ≡ true → n ≤ last_number n ns
rising_last [] n h = omega arith
rising_last (m ∷ ns) n h =
    let both = and_parts (nat_le n m) (are_rising (m ∷ ns)) h in
    omega (arith, leb-true n m both.0, rising_last ns m both.1)

-- elements that are cut by rising offsets which end with the bytes, by their distances and by their places
pub record AreCut (start : ℕ) (ends bytes : List ℕ) : Type 0 where
  pub elements : List (List ℕ)
  pub by_distance : elements_between start ends (drop start bytes) ≡ Some elements
  pub by_place : bytes_between start ends bytes ≡ Some elements

pub cut : (ends bytes : List ℕ) (start : ℕ) → are_rising (start ∷ ends) ≡ true → last_number start ends ≡ length bytes → AreCut start ends bytes
cut [] bytes start rising whole =
    let none : length (drop start bytes) ≡ 0 = length-drop start bytes ∙ omega (arith, whole) in
    record {
      elements = [];
      by_distance = ap (λ (b : Bool). if b then Some [] else None) (eq-eqb (length (drop start bytes)) 0 none);
      by_place = ap (λ (b : Bool). if b then Some [] else None) (eq-eqb start (length bytes) whole);
    }
cut (end ∷ ends) bytes start rising whole =
    let both = and_parts (nat_le start end) (are_rising (end ∷ ends)) rising in
    let less = leb-true start end both.0 in
    let inside : end ≤ length bytes = omega (arith, rising_last ends end both.1, whole) in
    let rest = cut ends bytes end both.1 whole in
    let element = take (end - start) (drop start bytes) in
    let past : drop (end - start) (drop start bytes) ≡ drop end bytes = drop-drop (end - start) start bytes ∙ ap (λ n. drop n bytes) (omega (arith, less)) in
    let room : end - start ≤ length (drop start bytes) = omega (arith, inside, less, length-drop start bytes) in
    record {
      elements = element ∷ rest.elements;
      by_distance = ap (λ (b : Bool). if b && nat_le (end - start) (length (drop start bytes)) then option_map (λ rest. element ∷ rest) (elements_between end ends (drop (end - start) (drop start bytes))) else None) both.0
          ∙ (ap (λ (b : Bool). if b then option_map (λ rest. element ∷ rest) (elements_between end ends (drop (end - start) (drop start bytes))) else None) (le-leb (end - start) (length (drop start bytes)) room)
          ∙ (ap (λ ns. option_map (λ rest. element ∷ rest) (elements_between end ends ns)) past ∙ ap (option_map (λ rest. element ∷ rest)) rest.by_distance));
      by_place = ap (λ (b : Bool). if b then option_map (λ rest. element ∷ rest) (bytes_between end ends bytes) else None) both.0 ∙ ap (option_map (λ rest. element ∷ rest)) rest.by_place;
    }

-- what offsets are that cut elements
pub between_rises : (ends rest : List ℕ) (offset : ℕ) (elements : List (List ℕ)) → elements_between offset ends rest ≡ Some elements → (are_rising (offset ∷ ends) ≡ true) × (last_number offset ends ≡ offset + length rest)
between_rises [] rest offset elements h =
    let found = if_some (length rest == 0) (Some []) elements h in
    (refl, omega (arith, eqb-true (length rest) 0 found.0))
between_rises (end ∷ ends) rest offset elements h =
    let made = option_map (λ others. take (end - offset) rest ∷ others) (elements_between end ends (drop (end - offset) rest)) in
    let found = if_some (nat_le offset end && nat_le (end - offset) (length rest)) made elements h in
    let both = and_parts (nat_le offset end) (nat_le (end - offset) (length rest)) found.0 in
    let others = map_some (λ others. take (end - offset) rest ∷ others) (elements_between end ends (drop (end - offset) rest)) elements found.1 in
    let after = between_rises ends (drop (end - offset) rest) end others.0 others.1 in
    let less = leb-true offset end both.0 in
    let room = leb-true (end - offset) (length rest) both.1 in
    (ap (λ (b : Bool). b && are_rising (end ∷ ends)) both.0 ∙ after.0, after.1 ∙ omega (arith, less, room, length-drop (end - offset) rest))

-- ---- offsets that begin at 0

not_some : {X : Type 0} (o : Option X) → ((x : X) → o ≡ Some x → ⊥) → o ≡ None
not_some None h = refl
not_some (Some x) h = absurd (h x refl)

-- what offsets are that cut elements out of bytes
cuts_rise : (offsets content : List ℕ) (elements : List (List ℕ)) → elements_of (λ long. Some content) offsets ≡ Some elements → (begins_at_zero offsets ≡ true) × (are_rising offsets ≡ true) × (last_number 0 offsets ≡ length content)
cuts_rise [] content elements h = cc
cuts_rise (first ∷ ends) content elements h =
    let found = if_some (first == 0) (elements_between 0 ends content) elements h in
    let zero_first = eqb-true first 0 found.0 in
    let rises = between_rises ends content 0 elements found.1 in
    (found.0, ap (λ n. are_rising (n ∷ ends)) zero_first ∙ rises.0, ap (λ n. last_number n ends) zero_first ∙ (rises.1 ∙ omega arith))

pub false_true : (b : Bool) → b ≡ true → b ≡ false → ⊥
false_true true h k = cc
false_true false h k = cc

pub not_ends : (offsets content : List ℕ) → (begins_at_zero offsets && (last_number 0 offsets == length content)) ≡ false → elements_of (λ long. Some content) offsets ≡ None
not_ends offsets content wrong = not_some (elements_of (λ long. Some content) offsets) (λ elements h. false_true (begins_at_zero offsets && (last_number 0 offsets == length content)) (right elements h) wrong) where
  right : (elements : List (List ℕ)) → elements_of (λ long. Some content) offsets ≡ Some elements → (begins_at_zero offsets && (last_number 0 offsets == length content)) ≡ true
  right elements h =
      let rises = cuts_rise offsets content elements h in
      ap (λ (b : Bool). b && (last_number 0 offsets == length content)) rises.0 ∙ eq-eqb (last_number 0 offsets) (length content) rises.2

pub not_rising : (offsets content : List ℕ) → are_rising offsets ≡ false → elements_of (λ long. Some content) offsets ≡ None
not_rising offsets content wrong = not_some (elements_of (λ long. Some content) offsets) (λ elements h. false_true (are_rising offsets) (cuts_rise offsets content elements h).1 wrong)

pub is_cut : (offsets content : List ℕ) (payload : Payload) → are_rising offsets ≡ true → (begins_at_zero offsets && (last_number 0 offsets == length content)) ≡ true → payload ≡ variable content offsets → IsCut offsets content payload
is_cut [] content payload rising right p = cc
is_cut (first ∷ ends) content payload rising right p =
    let both = and_parts (first == 0) (last_number first ends == length content) right in
    let zero_first = eqb-true first 0 both.0 in
    let whole = eqb-true (last_number first ends) (length content) both.1 in
    let c = cut ends content 0 (ap (λ n. are_rising (n ∷ ends)) (sym zero_first) ∙ rising) (ap (λ n. last_number n ends) (sym zero_first) ∙ whole) in
    record {
      texts = c.elements;
      are = ap (λ (b : Bool). if b then elements_between 0 ends content else None) both.0 ∙ c.by_distance;
      lists = λ type v. ap (cells_in type) p
          ∙ (ap (λ (b : Bool). if b then variable_in (first ∷ ends) content else None) v
          ∙ ap (option_map (map of_bytes)) (ap (λ n. bytes_between n ends content) zero_first ∙ c.by_place));
    }

-- ---- the content

-- elements of `uint8` are their bytes
pub byte_content : (payload : Payload) (content : List ℕ) (bytes : List Cell) → payload ≡ fixed content → cells_in uint8 payload ≡ Some bytes → flat_map cell_bytes bytes ≡ content
byte_content payload content bytes p h =
    let whole = fixed_in-whole 1 content bytes (sym (ap (cells_in uint8) p) ∙ h) in
    ap (flat_map cell_bytes) whole.is ∙ flat_map-fixed_cells 1 content whole.positive whole.whole

-- the test of offsets, where they and the length are known by other names
pub same_test : (test : Bool) (lent offsets : List ℕ) (long : ℕ) (content : List ℕ) → test ≡ (begins_at_zero lent && (last_number 0 lent == long)) → lent ≡ offsets → long ≡ length content → test ≡ (begins_at_zero offsets && (last_number 0 offsets == length content))
same_test test lent offsets long content is same known = is ∙ (ap (λ n. begins_at_zero lent && (last_number 0 lent == n)) known ∙ ap (λ ns. begins_at_zero ns && (last_number 0 ns == length content)) same)
