use Rattle.std.proofs.Common.{◌∙◌, sym, refl, ap}
use Rattle.std.proofs.lemmas.Str.{IsUtf8-from_ascii}
use Rattle.zarr_codecs_types.proofs.FillLemmas.{text_refused}
use Rattle.zarr_codecs_json.proofs.PrintedCells.{string_appended}
use Rattle.zarr_codecs_json.proofs.PrintedTexts.{ascii_of_plain, begins_same, plain_string}
use Rattle.zarr_codecs_json.proofs.strings.push_string.Goals as goal

pub returns-in_default-clause-ok : goal.returns-in_default-clause-ok
returns-in_default-clause-ok c = (sym (text_refused c.args.bytes.now c.in_default.ensures.cases.0), begins_same c.args.text.now.items c.args.text.now.items refl)

pub returns-clause-ok : goal.returns-clause-ok
returns-clause-ok c = string_appended c.args.bytes.now c.in-Ok.string.now c.args.text.now.items c.push_quoted.new.text.items c.in-Ok.ensures.cases.1 c.in-Ok.ensures.cases.0 c.in_ok-push_quoted.ensures.ok

pub returns-then-are_plain-clause-ok : goal.returns-then-are_plain-clause-ok
returns-then-are_plain-clause-ok c =
    let bytes = c.args.bytes.now in
    let plain = sym c.are_plain.ensures ∙ c.if-are_plain.true in
    string_appended bytes bytes c.args.text.now.items c.push_plain.new.text.items (IsUtf8-from_ascii bytes (ascii_of_plain bytes plain)) refl (plain_string bytes c.args.text.now.items c.push_plain.new.text.items plain c.in_ok-push_plain.ensures.ok)
