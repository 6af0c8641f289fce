-- How the sections of `vlen` and `optional` come together.
use Rattle.std.proofs.Common.{◌≡◌, ℕ, zero, suc, ◌<◌, List, [], ◌∷◌, length, map, flat_map, ap, ◌∙◌, sym, refl, arith, Option, Some, None, option_map, option_and_then, Bool, true, false, ◌==◌, if◌then◌else◌, inl, inr}
use Rattle.std.proofs.lemmas.Bool.{eqb-true, eq-eqb, ne_eqb}
use Rattle.zarr_codecs_meaning.specs.Numbers.{number}
use Rattle.zarr_codecs_meaning.specs.Types.{Cell, of_bytes, cell_bytes, Elements}
use Rattle.zarr_codecs_meaning.specs.Chains.{Chain, Location}
use Rattle.zarr_codecs_meaning.specs.Encoding.{last_number, number_cells, unless_none, with_index, with_mask}
use Rattle.zarr_codecs_meaning.specs.Decoding.{elements_between, elements_of, read_unless_none, count_present}
use Rattle.zarr_codecs_meaning.specs.Keeping.{spread}
use Rattle.zarr_codecs_meaning.specs.Refusals.{offsets_of, SomeRefused}
use Rattle.zarr_codecs_sections.specs.Outcomes.{offsets_read}
use Rattle.zarr_codecs_sections.specs.Laws.{content_of, VariableIsEncoded, VariableDecodings, VlenRefusals, found_in, OptionsAreEncoded, found_read, OptionsDecodings, OptionalRefusals, IsUnlessNone, IsReadUnlessNone, value_sections, vlen_parts}

-- ---- `vlen`, encoded

pub variable_is_encoded : VariableIsEncoded
variable_is_encoded index «data» width location cells front back value near one two joined =
    let content = content_of cells in
    let after = λ (f : List ℕ). option_and_then (with_index location f) (unless_none content («data» content)) in
    ap (λ (b : Bool). if b then option_and_then after (index (number_cells width (offsets_of cells))) else None) near
    ∙ (ap (option_and_then after) one ∙ (ap (option_and_then (with_index location front)) two ∙ joined))

-- ---- `vlen`, decoded

-- elements of offsets, where the content is read at the last one
read_at : (read : ℕ → Option (List ℕ)) (ns content : List ℕ) → read (last_number 0 ns) ≡ Some content → elements_of read ns ≡ elements_of (λ long. Some content) ns
read_at read [] content h = refl
read_at read (first ∷ ends) content h = by_test (first == 0) refl where
  by_test : (b : Bool) → (first == 0) ≡ b → (if first == 0 then option_and_then (elements_between 0 ends) (read (last_number 0 ends)) else None) ≡ (if first == 0 then elements_between 0 ends content else None)
  by_test true e =
      let found : read (last_number 0 ends) ≡ Some content = ap (λ n. read (last_number n ends)) (sym (eqb-true first 0 e)) ∙ h in
      ap (λ o. if first == 0 then option_and_then (elements_between 0 ends) o else None) found
  by_test false e =
      ap (λ (b : Bool). if b then option_and_then (elements_between 0 ends) (read (last_number 0 ends)) else None) e ∙ sym (ap (λ (b : Bool). if b then elements_between 0 ends content else None) e)

-- nothing, whatever a test says
neither : (b : Bool) (o : Option (List (List ℕ))) → o ≡ None → (if b then o else None) ≡ None
neither true o h = h
neither false o h = refl

read_none : (read : ℕ → Option (List ℕ)) (ns : List ℕ) → read (last_number 0 ns) ≡ None → elements_of read ns ≡ None
read_none read [] h = refl
read_none read (first ∷ ends) h = by_test (first == 0) refl where
  by_test : (b : Bool) → (first == 0) ≡ b → (if first == 0 then option_and_then (elements_between 0 ends) (read (last_number 0 ends)) else None) ≡ None
  by_test true e =
      let none : read (last_number 0 ends) ≡ None = ap (λ n. read (last_number n ends)) (sym (eqb-true first 0 e)) ∙ h in
      ap (λ o. if first == 0 then option_and_then (elements_between 0 ends) o else None) none ∙ neither (first == 0) None refl
  by_test false e = ap (λ (b : Bool). if b then option_and_then (elements_between 0 ends) (read (last_number 0 ends)) else None) e

pub variable_is_decoded : (index : List ℕ → Option (List Cell)) («data» : ℕ → List ℕ → Option (List Cell)) (location : Location) (value front back : List ℕ) (offsets : List Cell) → VariableDecodings index «data» location (value_sections value front back) offsets
variable_is_decoded index «data» location value front back offsets =
    let after = λ (sections : List ℕ × List ℕ). option_and_then (λ offsets. option_map (map of_bytes) (elements_of (λ (long : ℕ). option_map (flat_map cell_bytes) (read_unless_none long sections.1 («data» long))) (map (λ offset. number 256 (cell_bytes offset)) offsets))) (index sections.0) in
    let cells = λ (offsets : List Cell). option_map (map of_bytes) (elements_of (λ (long : ℕ). option_map (flat_map cell_bytes) (read_unless_none long back («data» long))) (offsets_read offsets)) in
    let read = λ (long : ℕ). option_map (flat_map cell_bytes) (read_unless_none long back («data» long)) in
    record {
      short = λ s. ap (option_and_then after) s;
      index_damaged = λ s i. ap (option_and_then after) s ∙ ap (option_and_then cells) i;
      content_damaged = λ s i d. ap (option_and_then after) s ∙ (ap (option_and_then cells) i ∙ ap (option_map (map of_bytes)) (read_none read (offsets_read offsets) (ap (option_map (flat_map cell_bytes)) d)));
      uncut = λ content s i d e.
          ap (option_and_then after) s
          ∙ (ap (option_and_then cells) i ∙ ap (option_map (map of_bytes)) (read_at read (offsets_read offsets) (flat_map cell_bytes content) (ap (option_map (flat_map cell_bytes)) d) ∙ e));
      decoded = λ content elements s i d e.
          ap (option_and_then after) s
          ∙ (ap (option_and_then cells) i ∙ ap (option_map (map of_bytes)) (read_at read (offsets_read offsets) (flat_map cell_bytes content) (ap (option_map (flat_map cell_bytes)) d) ∙ e));
    }

-- ---- refused

some_refused : (cells : List Cell) (R : Type 0) → 0 < length cells → R → SomeRefused cells R
some_refused [] R some r = absurd (omega arith)
some_refused (c ∷ cells) R some r = r

pub vlen_is_refused : (index «data» : Chain) (width : ℕ) (location : Location) (elements : Elements) (shape : List ℕ) (cells : List Cell) → VlenRefusals (vlen_parts index «data» width location) elements shape cells
vlen_is_refused index «data» width location elements shape cells = record {
  offset_passes = λ h. inl h;
  index_refuses = λ h. inl h;
  index_passes = λ h. inr (inr (inl h));
  content_refuses = λ some h. inr (some_refused (content_of cells) _ some h);
  content_passes = λ some h. inr (inr (inr (some_refused (content_of cells) _ some h)));
}

pub optional_is_refused : (mask values : Chain) (elements : Elements) (shape : List ℕ) (cells : List Cell) → OptionalRefusals mask values elements shape cells
optional_is_refused mask values elements shape cells = record {
  mask_refuses = λ h. inl h;
  mask_passes = λ h. inr (inr (inl h));
  found_refuses = λ some h. inr (some_refused (found_in cells) _ some h);
  found_passes = λ some h. inr (inr (inr (some_refused (found_in cells) _ some h)));
}

-- ---- `optional`

pub options_are_encoded : OptionsAreEncoded
options_are_encoded mask values cells front back value one two joined =
    let found = found_in cells in
    let after = λ (f : List ℕ). option_and_then (with_mask f) (unless_none found (values found)) in
    ap (option_and_then after) one ∙ (ap (option_and_then (with_mask front)) two ∙ joined)

pub options_are_decoded : (mask : List ℕ → Option (List Cell)) (values : ℕ → List ℕ → Option (List Cell)) (value front back : List ℕ) (masks : List Cell) → OptionsDecodings mask values (value_sections value front back) masks
options_are_decoded mask values value front back masks =
    let after = λ (sections : List ℕ × List ℕ). option_and_then (λ masks. option_map (spread masks) (read_unless_none (count_present masks) sections.1 (values (count_present masks)))) (mask sections.0) in
    let found = λ (masks : List Cell). option_map (spread masks) (found_read values masks back) in
    record {
      short = λ s. ap (option_and_then after) s;
      mask_damaged = λ s m. ap (option_and_then after) s ∙ ap (option_and_then found) m;
      found_damaged = λ s m d. ap (option_and_then after) s ∙ (ap (option_and_then found) m ∙ ap (option_map (spread masks)) d);
      decoded = λ cells s m d. ap (option_and_then after) s ∙ (ap (option_and_then found) m ∙ ap (option_map (spread masks)) d);
    }

-- ---- nothing

pub unless_none_is : (cells : List Cell) (made : Option (List ℕ)) → IsUnlessNone cells made
unless_none_is [] made = record { none = λ h. refl; some = λ h. absurd (omega (arith, h)) }
unless_none_is (c ∷ cells) made = record { none = λ h. absurd (omega (arith, h)); some = λ h. refl }

pub read_unless_none_is : (count : ℕ) (back : List ℕ) (read : List ℕ → Option (List Cell)) → IsReadUnlessNone count back read
read_unless_none_is zero back read = record {
  none = λ h e. ap (λ (b : Bool). if b then Some [] else None) (eq-eqb (length back) 0 e);
  damaged = λ h e. ap (λ (b : Bool). if b then Some [] else None) (ne_eqb (length back) 0 (λ z. omega (arith, e, z)));
  some = λ h. absurd (omega (arith, h));
}
read_unless_none_is (suc count) back read = record { none = λ h e. absurd (omega (arith, h)); damaged = λ h e. absurd (omega (arith, h)); some = λ h. refl }
