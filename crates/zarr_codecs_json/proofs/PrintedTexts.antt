-- Texts of lists that grow element by element.
use Rattle.std.proofs.Common.{◌≡◌, ℕ, suc, ◌+◌, ◌-◌, ◌*◌, ◌<◌, ◌≤◌, pos, negsuc, List, [], ◌∷◌, ◌++◌, length, map, take, drop, get_or, ap, ◌∙◌, sym, refl, arith, ◌/◌, ◌%◌, zero, Result, Ok, Err, OnOk, OnErr, Bool, true, false, if◌then◌else◌, ◌&&◌, ◌==◌, not, decimal, append-nil, append_assoc, length-take, take-append-drop}
use Rattle.std.specs.Prelude.{nat_lt, IsAscii}
use Rattle.std.specs.Char.{digit_char}
use Rattle.std.specs.List.{list_all, range_with_len}
use Rattle.std.specs.Result.{is_ok}
use Rattle.std.proofs.Math.Nat.{div-eq_of_lt}
use Rattle.std.proofs.lemmas.Bool.{le-ltb, lt-ltb, ltb-true, eq-eqb, and_parts}
use Rattle.std.proofs.lemmas.List.{take-append-le, take-take, take_all}
use Rattle.std.proofs.lemmas.Result.{on_ok_weaker}
use Rattle.json.proofs.Printed.Strings.{escape_byte_plain}
use Rattle.json.specs.Print.{escape, escape_byte, escape_letter, quoted}
use Rattle.serde_json.specs.Data.{item}
use Rattle.serde_json.specs.Find.{of_integer}
use Rattle.serde_json.specs.View.{items_of}
use Rattle.serde_json.specs.Written.{number_text, comma_if, compact_text, items_text}
use Rattle.zarr_codecs_meaning.specs.Numbers.{number}
use Rattle.zarr_codecs_meaning.specs.Types.{DataType, of_bytes, cell_bytes}
use Rattle.zarr_codecs_arrays.proofs.FixedCells.{fixed_cells-cons}
use Rattle.zarr_codecs_json.specs.Texts.{Begins, element_data, fixed_data}

-- ---- beginnings

pub begins_same : (old text : List ℕ) → text ≡ old → Begins old text
begins_same old text h = ap (take (length old)) h ∙ whole old where
  whole : (xs : List ℕ) → take (length xs) xs ≡ xs
  whole [] = refl
  whole (x ∷ xs) = ap (λ ys. x ∷ ys) (whole xs)

begins_short : (old text : List ℕ) → Begins old text → length old ≤ length text
begins_short old text h = omega (arith, ap length h, length-take (length old) text)

pub begins_more : (old text more new : List ℕ) → Begins old text → new ≡ text ++ more → Begins old new
begins_more old text more new h is = ap (take (length old)) is ∙ (take-append-le (length old) text more (begins_short old text h) ∙ h)

pub begins_trans : (old text new : List ℕ) → Begins old text → Begins text new → Begins old new
begins_trans old text new h k = sym (take-take (length old) (length text) new (begins_short old text h)) ∙ (ap (take (length old)) k ∙ h)

pub after_error : {T E : Type 0} (r : Result T E) (P : Type 0) → P → OnErr r P
after_error (Ok x) P h = tt
after_error (Err e) P h = h

-- ---- lists

pub first_data : (type : DataType) (width : ℕ) (bytes element others : List ℕ) → 0 < width → width ≤ length bytes → element ≡ take width bytes → others ≡ drop width bytes → fixed_data type width bytes ≡ item (element_data type element) (fixed_data type width others)
first_data type width bytes element others h enough first rest =
    let long : length element ≡ width = ap length first ∙ (length-take width bytes ∙ omega arith) in
    let split : bytes ≡ element ++ others = sym (ap (λ ns. ns ++ others) first ∙ (ap (λ ns. take width bytes ++ ns) rest ∙ take-append-drop width bytes)) in
    ap (fixed_data type width) split ∙ ap (λ cells. items_of (map (λ cell. element_data type (cell_bytes cell)) cells)) (fixed_cells-cons width element others h long)

pub last_data : (type : DataType) (width : ℕ) (bytes : List ℕ) → length bytes < width → fixed_data type width bytes ≡ items_of []
last_data type width bytes few = ap (λ n. items_of (map (λ cell. element_data type (cell_bytes cell)) (map (λ k. of_bytes (take width (drop (k * width) bytes))) (range_with_len 0 n)))) (div-eq_of_lt few)

pub list_step : (type : DataType) (width : ℕ) (bytes element others old text new all : List ℕ) (later : Bool) → 0 < width → width ≤ length bytes → element ≡ take width bytes → others ≡ drop width bytes
    → new ≡ text ++ (comma_if later ++ compact_text (element_data type element)) → text ++ items_text later (fixed_data type width bytes) ≡ old ++ all → Begins old text
    → (new ++ items_text true (fixed_data type width others) ≡ old ++ all) × Begins old new
list_step type width bytes element others old text new all later h enough first rest grew same begins =
    let d = compact_text (element_data type element) in
    let more = items_text true (fixed_data type width others) in (
      ap (λ ns. ns ++ more) grew
          ∙ (append_assoc text (comma_if later ++ d) more
          ∙ (ap (λ ns. text ++ ns) (append_assoc (comma_if later) d more)
          ∙ (ap (λ ds. text ++ items_text later ds) (sym (first_data type width bytes element others h enough first rest)) ∙ same))),
      begins_more old text (comma_if later ++ d) new begins grew,
    )

pub list_end : (type : DataType) (width : ℕ) (bytes old text new all : List ℕ) (later : Bool) → length bytes < width → new ≡ text ++ 93 ∷ [] → text ++ items_text later (fixed_data type width bytes) ≡ old ++ all → new ≡ old ++ all
list_end type width bytes old text new all later few grew same = grew ∙ (ap (λ ds. text ++ items_text later ds) (sym (last_data type width bytes few)) ∙ same)

-- ---- numbers

pub eight_bytes : (bs : List ℕ) → length bs ≡ 8
    → get_or bs 0 0 + 256 * (get_or bs 1 0 + 256 * (get_or bs 2 0 + 256 * (get_or bs 3 0 + 256 * (get_or bs 4 0 + 256 * (get_or bs 5 0 + 256 * (get_or bs 6 0 + 256 * get_or bs 7 0)))))) ≡ number 256 bs
eight_bytes (a ∷ b ∷ c ∷ d ∷ e ∷ f ∷ g ∷ h ∷ []) is = omega arith
eight_bytes [] is = absurd (omega arith)
eight_bytes (a ∷ []) is = absurd (omega arith)
eight_bytes (a ∷ b ∷ []) is = absurd (omega arith)
eight_bytes (a ∷ b ∷ c ∷ []) is = absurd (omega arith)
eight_bytes (a ∷ b ∷ c ∷ d ∷ []) is = absurd (omega arith)
eight_bytes (a ∷ b ∷ c ∷ d ∷ e ∷ []) is = absurd (omega arith)
eight_bytes (a ∷ b ∷ c ∷ d ∷ e ∷ f ∷ []) is = absurd (omega arith)
eight_bytes (a ∷ b ∷ c ∷ d ∷ e ∷ f ∷ g ∷ []) is = absurd (omega arith)
eight_bytes (a ∷ b ∷ c ∷ d ∷ e ∷ f ∷ g ∷ h ∷ i ∷ rest) is = absurd (omega arith)

-- a number below zero, after its sign
pub negative_text : (n half all m : ℕ) → half ≤ n → n < all → m ≡ all - n → 45 ∷ decimal m ≡ number_text (of_integer (if nat_lt n half then pos n else negsuc (all - suc n)))
negative_text n half all m high below is =
    let e : m ≡ suc (all - suc n) = omega arith in
    sym (ap (λ (b : Bool). number_text (of_integer (if b then pos n else negsuc (all - suc n)))) (le-ltb n half high) ∙ ap (λ k. 45 ∷ decimal k) (sym e))

pub after_sign : {A E : Type 0} (r : Result A E) (old mid new digits text : List ℕ) → mid ≡ old ++ 45 ∷ [] → 45 ∷ digits ≡ text → OnOk r (new ≡ mid ++ digits) → OnOk r (new ≡ old ++ text)
after_sign r old mid new digits text signed is h = on_ok_weaker r (λ e. e ∙ (ap (λ ns. ns ++ digits) signed ∙ (append_assoc old (45 ∷ []) digits ∙ ap (λ ns. old ++ ns) is))) h

-- ---- strings

abbrev pub is_plain : ℕ → Bool
is_plain b = (nat_lt 31 b && not (b == 34)) && not (b == 92)

no_both : (b : Bool) → not b ≡ true → b ≡ true → ⊥
no_both true h is = cc
no_both false h is = cc

plain_byte : (b : ℕ) → is_plain b ≡ true → escape_byte b ≡ b ∷ []
plain_byte b h =
    let outer = and_parts (nat_lt 31 b && not (b == 34)) (not (b == 92)) h in
    let inner = and_parts (nat_lt 31 b) (not (b == 34)) outer.0 in
    let high = ltb-true 31 b inner.0 in
    escape_byte_plain b (λ e. no_both (b == 34) inner.1 (eq-eqb b 34 e)) (λ e. no_both (b == 92) outer.1 (eq-eqb b 92 e)) (omega arith)

plain_text : (bs : List ℕ) → list_all is_plain bs ≡ true → escape bs ≡ bs
plain_text [] h = refl
plain_text (b ∷ bs) h = let t = and_parts (is_plain b) (list_all is_plain bs) h in ap (λ ns. ns ++ escape bs) (plain_byte b t.0) ∙ ap (λ ns. b ∷ ns) (plain_text bs t.1)

-- plain bytes of ASCII
abbrev pub is_plain_ascii : ℕ → Bool
is_plain_ascii b = is_plain b && nat_lt b 128

pub plain_of_ascii : (bs : List ℕ) → list_all is_plain_ascii bs ≡ true → list_all is_plain bs ≡ true
plain_of_ascii [] h = refl
plain_of_ascii (b ∷ bs) h =
    let t = and_parts (is_plain_ascii b) (list_all is_plain_ascii bs) h in
    let u = and_parts (is_plain b) (nat_lt b 128) t.0 in
    rw (u.0, plain_of_ascii bs t.1) refl

pub ascii_of_plain : (bs : List ℕ) → list_all is_plain_ascii bs ≡ true → IsAscii bs
ascii_of_plain [] h i = omega arith
ascii_of_plain (b ∷ bs) h zero =
    let t = and_parts (is_plain_ascii b) (list_all is_plain_ascii bs) h in
    ltb-true b 128 (and_parts (is_plain b) (nat_lt b 128) t.0).1
ascii_of_plain (b ∷ bs) h (suc i) = ascii_of_plain bs (and_parts (is_plain_ascii b) (list_all is_plain_ascii bs) h).1 i

-- a string of plain bytes of ASCII in quotes
pub plain_string : (bs before text_ : List ℕ) → list_all is_plain_ascii bs ≡ true → text_ ≡ before ++ 34 ∷ (bs ++ 34 ∷ []) → text_ ≡ before ++ quoted bs
plain_string bs before text_ h is = is ∙ ap (λ ns. before ++ 34 ∷ (ns ++ 34 ∷ [])) (sym (plain_text bs (plain_of_ascii bs h)))

-- ---- escapes

-- a text after another, where there was room for it
pub text_appended : {A E : Type 0} (r : Result A E) (old more text new : List ℕ) → more ≡ text → new ≡ (if is_ok r then old ++ more else old) → OnOk r (new ≡ old ++ text)
text_appended (Ok x) old more text new is h = h ∙ ap (λ ns. old ++ ns) is
text_appended (Err e) old more text new is h = tt

pub by_letter : (b : ℕ) → 0 < escape_letter b → escape_byte b ≡ 92 ∷ escape_letter b ∷ []
unfolding escape_byte
by_letter b h = rw (lt-ltb 0 (escape_letter b) h) refl

pub by_code : (b : ℕ) → escape_letter b ≤ 0 → b < 32 → escape_byte b ≡ 92 ∷ 117 ∷ 48 ∷ 48 ∷ digit_char (b / 16) ∷ digit_char (b % 16) ∷ []
unfolding escape_byte
by_code b none low = rw (le-ltb 0 (escape_letter b) none, lt-ltb b 32 low) refl

pub by_itself : (b : ℕ) → escape_letter b ≤ 0 → 32 ≤ b → escape_byte b ≡ b ∷ []
unfolding escape_byte
by_itself b none high = rw (le-ltb 0 (escape_letter b) none, le-ltb b 32 high) refl

escape_append : (xs ys : List ℕ) → escape (xs ++ ys) ≡ escape xs ++ escape ys
escape_append [] ys = refl
escape_append (x ∷ xs) ys = ap (λ ns. escape_byte x ++ ns) (escape_append xs ys) ∙ sym (append_assoc (escape_byte x) (escape xs) (escape ys))

-- a run of plain bytes was appended, and what comes after it is left
pub run_appended : (bytes old mid : List ℕ) (n : ℕ) → list_all is_plain (take n bytes) ≡ true → mid ≡ old ++ take n bytes → mid ++ escape (drop n bytes) ≡ old ++ escape bytes
run_appended bytes old mid n plain is =
    ap (λ ns. ns ++ escape (drop n bytes)) is
    ∙ (append_assoc old (take n bytes) (escape (drop n bytes))
    ∙ ap (λ ns. old ++ ns) (ap (λ ns. ns ++ escape (drop n bytes)) (sym (plain_text (take n bytes) plain))
    ∙ (sym (escape_append (take n bytes) (drop n bytes)) ∙ ap escape (take-append-drop n bytes))))

-- an escape was appended after a run
pub escape_appended : (b : ℕ) (rest old mid new : List ℕ) → new ≡ mid ++ escape_byte b → mid ++ escape (b ∷ rest) ≡ old → new ++ escape rest ≡ old
escape_appended b rest old mid new is h = ap (λ ns. ns ++ escape rest) is ∙ (append_assoc mid (escape_byte b) (escape rest) ∙ h)

pub first_and_rest : (bs : List ℕ) → 1 ≤ length bs → get_or bs 0 0 ∷ take (length bs - 1) (drop 1 bs) ≡ bs
first_and_rest [] h = absurd (omega arith)
first_and_rest (b ∷ bs) h = ap (λ ns. b ∷ ns) (take_all (length (b ∷ bs) - 1) bs (omega arith))
