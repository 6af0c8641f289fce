-- Tokens of a text, one after another.
use Rattle.std.proofs.Common.{◌≡◌, ℕ, ◌+◌, ◌<◌, ◌≤◌, List, [], ◌∷◌, ◌++◌, length, take, drop, get_or, Bool, true, false, true≢false, cond, Some, refl, sym, ap, ap₂, ◌∙◌, arith}
use Rattle.std.proofs.lemmas.List.{drop_all, drop-drop, drop_more, take_more, take-append-drop}
use Rattle.std.proofs.lemmas.List.Concat.{flat_map-append}
use Rattle.json.specs.Json.{read_key}
use Rattle.json.specs.Lex as Lexeme
use Rattle.json.specs.Lex.{lex, between, in_string, string_token, punctuate, place_token, may_begin, may_close, begins_colon, Place, fresh, after_value, after_comma, after_key}
use Rattle.json.specs.Print.{escape, escape_byte, token_text, IsNumber}
use Rattle.json.specs.Text.{content, plain}
use Rattle.json.specs.Token as token
use Rattle.json.specs.Word.{ends_word, word}
use Rattle.json.proofs.Printed.Numbers.{lex-number, in_word-ended}
use Rattle.json.proofs.Printed.Strings.{content-escape, lex-escape, escape_byte_plain}
use Rattle.zarr_run_commands.specs.Cursors.{place_of, tokens_from}
use Rattle.zarr_run_commands.specs.declared.cursor.Stand.{Stand}
use Rattle.zarr_run_commands.specs.declared.cursor.Stand.TheVariants as stand

pub space_says_nothing : (t rest : List ℕ) → t ≡ 32 ∷ rest → lex between t ≡ lex between rest
unfolding lex
space_says_nothing t rest here = ap (lex between) here

pub tab_says_nothing : (t rest : List ℕ) → t ≡ 9 ∷ rest → lex between t ≡ lex between rest
unfolding lex
tab_says_nothing t rest here = ap (lex between) here

pub feed_says_nothing : (t rest : List ℕ) → t ≡ 10 ∷ rest → lex between t ≡ lex between rest
unfolding lex
feed_says_nothing t rest here = ap (lex between) here

pub return_says_nothing : (t rest : List ℕ) → t ≡ 13 ∷ rest → lex between t ≡ lex between rest
unfolding lex
return_says_nothing t rest here = ap (lex between) here

pub blank_skipped : (text start : List ℕ) (next : ℕ) → lex between (drop next text) ≡ lex between start → lex between (drop next text) ≡ lex between (drop (next + 1) text) → lex between (drop (next + 1) text) ≡ lex between start
blank_skipped text start next same here = sym here ∙ same

-- ---- brackets and braces

pub array_begun : (s : Stand) (text : List ℕ) (at next : ℕ) → may_begin (place_of s) ≡ true → drop at text ≡ 91 ∷ drop (at + 1) text → lex between (drop next text) ≡ lex between (drop (at + 1) text)
    → tokens_from s at text ≡ token.begin_array ∷ tokens_from stand.Fresh next text
unfolding lex punctuate
array_begun stand.Fresh text at next may here same = ap (λ t. punctuate fresh (lex between t)) here ∙ ap (λ ls. token.begin_array ∷ punctuate fresh ls) (sym same)
array_begun stand.AfterComma text at next may here same = ap (λ t. punctuate after_comma (lex between t)) here ∙ ap (λ ls. token.begin_array ∷ punctuate fresh ls) (sym same)
array_begun stand.AfterValue text at next may here same = absurd (true≢false (sym may))

pub object_begun : (s : Stand) (text : List ℕ) (at next : ℕ) → may_begin (place_of s) ≡ true → drop at text ≡ 123 ∷ drop (at + 1) text → lex between (drop next text) ≡ lex between (drop (at + 1) text)
    → tokens_from s at text ≡ token.begin_object ∷ tokens_from stand.Fresh next text
unfolding lex punctuate
object_begun stand.Fresh text at next may here same = ap (λ t. punctuate fresh (lex between t)) here ∙ ap (λ ls. token.begin_object ∷ punctuate fresh ls) (sym same)
object_begun stand.AfterComma text at next may here same = ap (λ t. punctuate after_comma (lex between t)) here ∙ ap (λ ls. token.begin_object ∷ punctuate fresh ls) (sym same)
object_begun stand.AfterValue text at next may here same = absurd (true≢false (sym may))

pub array_ended : (s new : Stand) (text : List ℕ) (at next : ℕ) → may_close (place_of s) ≡ true → drop at text ≡ 93 ∷ drop (at + 1) text → tokens_from new next text ≡ punctuate after_value (lex between (drop (at + 1) text))
    → tokens_from s at text ≡ token.end_array ∷ tokens_from new next text
unfolding lex punctuate
array_ended stand.Fresh new text at next may here same = ap (λ t. punctuate fresh (lex between t)) here ∙ ap (λ ts. token.end_array ∷ ts) (sym same)
array_ended stand.AfterValue new text at next may here same = ap (λ t. punctuate after_value (lex between t)) here ∙ ap (λ ts. token.end_array ∷ ts) (sym same)
array_ended stand.AfterComma new text at next may here same = absurd (true≢false (sym may))

pub object_ended : (s new : Stand) (text : List ℕ) (at next : ℕ) → may_close (place_of s) ≡ true → drop at text ≡ 125 ∷ drop (at + 1) text → tokens_from new next text ≡ punctuate after_value (lex between (drop (at + 1) text))
    → tokens_from s at text ≡ token.end_object ∷ tokens_from new next text
unfolding lex punctuate
object_ended stand.Fresh new text at next may here same = ap (λ t. punctuate fresh (lex between t)) here ∙ ap (λ ts. token.end_object ∷ ts) (sym same)
object_ended stand.AfterValue new text at next may here same = ap (λ t. punctuate after_value (lex between t)) here ∙ ap (λ ts. token.end_object ∷ ts) (sym same)
object_ended stand.AfterComma new text at next may here same = absurd (true≢false (sym may))

-- ---- what follows a value

pub comma_passed : (text start : List ℕ) (at next : ℕ) → lex between (drop at text) ≡ lex between start → drop at text ≡ 44 ∷ drop (at + 1) text → lex between (drop next text) ≡ lex between (drop (at + 1) text)
    → tokens_from stand.AfterComma next text ≡ punctuate after_value (lex between start)
unfolding lex punctuate
comma_passed text start at next same here skipped = ap (punctuate after_comma) skipped ∙ (sym (ap (λ t. punctuate after_value (lex between t)) here) ∙ ap (punctuate after_value) same)

pub comma_ends : (t rest : List ℕ) → t ≡ 44 ∷ rest → ends_word t ≡ true
comma_ends t rest here = ap ends_word here

pub comma_plain : (t rest : List ℕ) → t ≡ 44 ∷ rest → begins_colon (lex between t) ≡ false
unfolding lex
comma_plain t rest here = ap (λ t. begins_colon (lex between t)) here

pub bracket_ends : (t rest : List ℕ) → t ≡ 93 ∷ rest → ends_word t ≡ true
bracket_ends t rest here = ap ends_word here

pub bracket_plain : (t rest : List ℕ) → t ≡ 93 ∷ rest → begins_colon (lex between t) ≡ false
unfolding lex
bracket_plain t rest here = ap (λ t. begins_colon (lex between t)) here

pub brace_ends : (t rest : List ℕ) → t ≡ 125 ∷ rest → ends_word t ≡ true
brace_ends t rest here = ap ends_word here

pub brace_plain : (t rest : List ℕ) → t ≡ 125 ∷ rest → begins_colon (lex between t) ≡ false
unfolding lex
brace_plain t rest here = ap (λ t. begins_colon (lex between t)) here

pub at_end : (s : Stand) (text : List ℕ) (at : ℕ) → may_close (place_of s) ≡ true → length text ≤ at → tokens_from s at text ≡ []
unfolding lex punctuate
at_end stand.Fresh text at may past = ap (λ t. punctuate fresh (lex between t)) (drop_all at text past)
at_end stand.AfterValue text at may past = ap (λ t. punctuate after_value (lex between t)) (drop_all at text past)
at_end stand.AfterComma text at may past = absurd (true≢false (sym may))

-- ---- values and keys

begins_value : (s new : Stand) (text : List ℕ) (next : ℕ) (t : token.Token) (ls rest : List Lexeme.Lexeme) → may_begin (place_of s) ≡ true → ((p : Place) → may_begin p ≡ true → punctuate p ls ≡ t ∷ punctuate after_value rest)
    → tokens_from new next text ≡ punctuate after_value rest → punctuate (place_of s) ls ≡ t ∷ tokens_from new next text
begins_value s new text next t ls rest may read same = read (place_of s) may ∙ ap (λ ts. t ∷ ts) (sym same)

number_first : (digits : List ℕ) (rest : List Lexeme.Lexeme) (p : Place) → may_begin p ≡ true → punctuate p (Lexeme.token (token.number digits) ∷ rest) ≡ token.number digits ∷ punctuate after_value rest
unfolding punctuate
number_first digits rest fresh may = refl
number_first digits rest after_comma may = refl
number_first digits rest after_value may = absurd (true≢false (sym may))
number_first digits rest after_key may = absurd (true≢false (sym may))

text_first : (s : List ℕ) (rest : List Lexeme.Lexeme) (p : Place) → begins_colon rest ≡ false → may_begin p ≡ true → punctuate p (Lexeme.token (token.string s) ∷ rest) ≡ token.string s ∷ punctuate after_value rest
unfolding punctuate
text_first s rest fresh colon may = ap (λ b. place_token fresh (token.string s) b (λ p. punctuate p rest)) colon
text_first s rest after_comma colon may = ap (λ b. place_token after_comma (token.string s) b (λ p. punctuate p rest)) colon
text_first s rest after_value colon may = absurd (true≢false (sym may))
text_first s rest after_key colon may = absurd (true≢false (sym may))

bool_first : (b : Bool) (rest : List Lexeme.Lexeme) (p : Place) → may_begin p ≡ true → punctuate p (Lexeme.token (token.boolean b) ∷ rest) ≡ token.boolean b ∷ punctuate after_value rest
unfolding punctuate
bool_first b rest fresh may = refl
bool_first b rest after_comma may = refl
bool_first b rest after_value may = absurd (true≢false (sym may))
bool_first b rest after_key may = absurd (true≢false (sym may))

key_first : (s : List ℕ) (rest : List Lexeme.Lexeme) (p : Place) → may_begin p ≡ true → read_key (punctuate p (Lexeme.token (token.string s) ∷ Lexeme.colon ∷ rest)) ≡ Some (Some s, punctuate fresh rest)
unfolding punctuate
key_first s rest fresh may = refl
key_first s rest after_comma may = refl
key_first s rest after_value may = absurd (true≢false (sym may))
key_first s rest after_key may = absurd (true≢false (sym may))

pub number_read : (s new : Stand) (text bytes : List ℕ) (from count next : ℕ) → may_begin (place_of s) ≡ true → bytes ≡ drop from text → IsNumber (take count bytes) → ends_word (drop (from + count) text) ≡ true
    → tokens_from new next text ≡ punctuate after_value (lex between (drop (from + count) text)) → tokens_from s from text ≡ token.number (take count bytes) ∷ tokens_from new next text
number_read s new text bytes from count next may here is ended same =
    let digits = take count bytes in
    let rest = drop (from + count) text in
    let after : drop count bytes ≡ rest = ap (drop count) here ∙ drop-drop count from text in
    let split : drop from text ≡ digits ++ rest = sym here ∙ (sym (take-append-drop count bytes) ∙ ap (λ r. digits ++ r) after) in
    let read = ap (lex between) split ∙ lex-number digits rest is ended in
    ap (punctuate (place_of s)) read ∙ begins_value s new text next (token.number digits) _ (lex between rest) may (number_first digits (lex between rest)) same

lex-bool : (b : Bool) (rest : List ℕ) → ends_word rest ≡ true → lex between (token_text (token.boolean b) ++ rest) ≡ Lexeme.token (token.boolean b) ∷ lex between rest
unfolding lex word
lex-bool true rest ended = ap₂ (λ here ls. Lexeme.token (cond here (token.boolean true) token.bad) ∷ ls) ended (in_word-ended rest ended)
lex-bool false rest ended = ap₂ (λ here ls. Lexeme.token (cond here (token.boolean false) token.bad) ∷ ls) ended (in_word-ended rest ended)

pub bool_read : (s new : Stand) (text bytes : List ℕ) (b : Bool) (from count next : ℕ) → may_begin (place_of s) ≡ true → bytes ≡ drop from text → bytes ≡ token_text (token.boolean b) ++ drop count bytes
    → ends_word (drop (from + count) text) ≡ true → tokens_from new next text ≡ punctuate after_value (lex between (drop (from + count) text)) → tokens_from s from text ≡ token.boolean b ∷ tokens_from new next text
bool_read s new text bytes b from count next may here is ended same =
    let rest = drop (from + count) text in
    let after : drop count bytes ≡ rest = ap (drop count) here ∙ drop-drop count from text in
    let split : drop from text ≡ token_text (token.boolean b) ++ rest = sym here ∙ (is ∙ ap (λ r. token_text (token.boolean b) ++ r) after) in
    let read = ap (lex between) split ∙ lex-bool b rest ended in
    ap (punctuate (place_of s)) read ∙ begins_value s new text next (token.boolean b) _ (lex between rest) may (bool_first b (lex between rest)) same

-- the lexemes of a text in quotes
quoted_read : (text s : List ℕ) (from end : ℕ) → drop from text ≡ 34 ∷ drop (from + 1) text → content plain (drop (from + 1) text) ≡ Some s → lex in_string (drop (from + 1) text) ≡ lex between (drop end text)
    → lex between (drop from text) ≡ Lexeme.token (token.string s) ∷ lex between (drop end text)
unfolding lex
quoted_read text s from end here is rest = ap (lex between) here ∙ (ap (λ o. Lexeme.token (string_token o) ∷ lex in_string (drop (from + 1) text)) is ∙ ap (λ ls. Lexeme.token (token.string s) ∷ ls) rest)

pub text_read : (s new : Stand) (text found : List ℕ) (from end next : ℕ) → may_begin (place_of s) ≡ true → drop from text ≡ 34 ∷ drop (from + 1) text → content plain (drop (from + 1) text) ≡ Some found
    → lex in_string (drop (from + 1) text) ≡ lex between (drop end text) → begins_colon (lex between (drop end text)) ≡ false
    → tokens_from new next text ≡ punctuate after_value (lex between (drop end text)) → tokens_from s from text ≡ token.string found ∷ tokens_from new next text
text_read s new text found from end next may here is rest colon same =
    let ls = lex between (drop end text) in
    ap (punctuate (place_of s)) (quoted_read text found from end here is rest) ∙ begins_value s new text next (token.string found) _ ls may (λ p. text_first found ls p colon) same

pub key_read : (s : Stand) (text found : List ℕ) (from end next : ℕ) → may_begin (place_of s) ≡ true → drop from text ≡ 34 ∷ drop (from + 1) text → content plain (drop (from + 1) text) ≡ Some found
    → lex in_string (drop (from + 1) text) ≡ lex between (drop end text) → drop end text ≡ 58 ∷ drop (end + 1) text → lex between (drop next text) ≡ lex between (drop (end + 1) text)
    → read_key (tokens_from s from text) ≡ Some (Some found, tokens_from stand.Fresh next text)
unfolding lex
key_read s text found from end next may here is rest colon same =
    let more : lex between (drop end text) ≡ Lexeme.colon ∷ lex between (drop next text) = ap (lex between) colon ∙ ap (λ ls. Lexeme.colon ∷ ls) (sym same) in
    let read = quoted_read text found from end here is rest ∙ ap (λ ls. Lexeme.token (token.string found) ∷ ls) more in
    ap (λ ls. read_key (punctuate (place_of s) ls)) read ∙ key_first found (lex between (drop next text)) (place_of s) may

-- ---- texts without escapes

pub plain_more : (bytes : List ℕ) (count : ℕ) → count < length bytes → (get_or bytes count 0 ≡ 34 → ⊥) → (get_or bytes count 0 ≡ 92 → ⊥) → 32 ≤ get_or bytes count 0 → escape (take count bytes) ≡ take count bytes
    → escape (take (count + 1) bytes) ≡ take (count + 1) bytes
plain_more bytes count less quote backslash high same =
    let x = get_or bytes count 0 in
    let split = take_more bytes count 0 less in
    ap escape split ∙ (flat_map-append escape_byte (take count bytes) (x ∷ []) ∙ (ap (λ s. s ++ (escape_byte x ++ [])) same ∙ (ap (λ s. take count bytes ++ (s ++ [])) (escape_byte_plain x quote backslash high) ∙ sym split)))

plain_split : (bytes : List ℕ) (count : ℕ) → count < length bytes → get_or bytes count 0 ≡ 34 → escape (take count bytes) ≡ take count bytes → bytes ≡ escape (take count bytes) ++ 34 ∷ drop (count + 1) bytes
plain_split bytes count less quote same =
    sym (take-append-drop count bytes) ∙ (ap (λ s. take count bytes ++ s) (drop_more bytes count 0 less) ∙ (ap (λ x. take count bytes ++ x ∷ drop (count + 1) bytes) quote ∙ ap (λ s. s ++ 34 ∷ drop (count + 1) bytes) (sym same)))

pub plain_content : (bytes : List ℕ) (count : ℕ) → count < length bytes → get_or bytes count 0 ≡ 34 → escape (take count bytes) ≡ take count bytes → content plain bytes ≡ Some (take count bytes)
plain_content bytes count less quote same = ap (content plain) (plain_split bytes count less quote same) ∙ content-escape (take count bytes) (drop (count + 1) bytes)

pub plain_rest : (bytes : List ℕ) (count : ℕ) → count < length bytes → get_or bytes count 0 ≡ 34 → escape (take count bytes) ≡ take count bytes → lex in_string bytes ≡ lex between (drop (count + 1) bytes)
plain_rest bytes count less quote same = ap (lex in_string) (plain_split bytes count less quote same) ∙ lex-escape (take count bytes) (drop (count + 1) bytes)

-- ---- texts from a byte on

pub content_at : (text bytes front found : List ℕ) (from count : ℕ) → bytes ≡ drop (from + 1) text → content plain bytes ≡ Some (take count bytes) → front ≡ take count bytes → found ≡ front → content plain (drop (from + 1) text) ≡ Some found
content_at text bytes front found from count here is first copied = sym (ap (content plain) here) ∙ (is ∙ ap Some (sym (copied ∙ first)))

pub rest_at : (text bytes : List ℕ) (from count : ℕ) → bytes ≡ drop (from + 1) text → lex in_string bytes ≡ lex between (drop (count + 1) bytes) → lex in_string (drop (from + 1) text) ≡ lex between (drop (from + 1 + count + 1) text)
rest_at text bytes from count here is = sym (ap (lex in_string) here) ∙ (is ∙ ap (lex between) (ap (drop (count + 1)) here ∙ (drop-drop (count + 1) (from + 1) text ∙ ap (λ n. drop n text) (omega arith))))
