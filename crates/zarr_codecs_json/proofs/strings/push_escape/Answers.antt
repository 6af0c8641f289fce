use Rattle.std.proofs.Common.{◌≡◌, ◌∙◌, ◌∷◌, [], ◌<◌, ◌≤◌, ◌/◌, ◌%◌, ap, sym, arith}
use Rattle.std.specs.Char.{digit_char}
use Rattle.json.specs.Print.{escape_byte, escape_letter}
use Rattle.zarr_codecs_json.proofs.PrintedTexts.{by_code, by_itself, by_letter, text_appended}
use Rattle.zarr_codecs_json.proofs.strings.push_escape.Goals as goal

pub returns-then-letter-gt0-clause-ok : goal.returns-then-letter-gt0-clause-ok
returns-then-letter-gt0-clause-ok c =
    let b = c.args.byte in
    let is = c.escape_letter-letter.ensures in
    let some : 0 < escape_letter b = omega (arith, c.if-letter-gt0.true, is) in
    text_appended c.extend_from_slice.result c.args.text.now.items (92 ∷ c.escape_letter-letter.result ∷ []) (escape_byte b) c.extend_from_slice.new.self.items (ap (λ l. 92 ∷ l ∷ []) is ∙ sym (by_letter b some)) c.extend_from_slice.ensures.items

pub returns-then-byte-lt32-clause-ok : goal.returns-then-byte-lt32-clause-ok
returns-then-byte-lt32-clause-ok c =
    let b = c.args.byte in
    let high = c.digit_char-high.result in
    let low = c.digit_char-low.result in
    let none : escape_letter b ≤ 0 = omega (arith, c.if-letter-gt0.false, c.escape_letter-letter.ensures) in
    let is = ap (λ h. 92 ∷ 117 ∷ 48 ∷ 48 ∷ h ∷ low ∷ []) c.digit_char-high.ensures ∙ (ap (λ l. 92 ∷ 117 ∷ 48 ∷ 48 ∷ digit_char (b / 16) ∷ l ∷ []) c.digit_char-low.ensures ∙ sym (by_code b none c.if-byte-lt32.true)) in
    text_appended c.extend_from_slice-then-byte-lt32.result c.args.text.now.items (92 ∷ 117 ∷ 48 ∷ 48 ∷ high ∷ low ∷ []) (escape_byte b) c.extend_from_slice-then-byte-lt32.new.self.items is c.extend_from_slice-then-byte-lt32.ensures.items

pub returns-clause-ok : goal.returns-clause-ok
returns-clause-ok c =
    let b = c.args.byte in
    let none : escape_letter b ≤ 0 = omega (arith, c.if-letter-gt0.false, c.escape_letter-letter.ensures) in
    text_appended c.extend_from_slice-2.result c.args.text.now.items (b ∷ []) (escape_byte b) c.extend_from_slice-2.new.self.items (sym (by_itself b none c.if-byte-lt32.false)) c.extend_from_slice-2.ensures.items
