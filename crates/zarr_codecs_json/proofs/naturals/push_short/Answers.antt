use Rattle.std.proofs.Common.{[], ◌∷◌, decimal}
use Rattle.zarr_codecs_json.proofs.FewDigits.{one_digit, two_digits, three_digits, four_digits, five_digits}
use Rattle.zarr_codecs_json.proofs.PrintedTexts.{text_appended}
use Rattle.zarr_codecs_json.proofs.naturals.push_short.Goals as goal

pub returns-then-word-lt10-clause-ok : goal.returns-then-word-lt10-clause-ok
returns-then-word-lt10-clause-ok c =
    let is = one_digit c.args.word c.digit-one.result c.digit-one.ensures c.if-word-lt10.true in
    text_appended c.extend_from_slice.result c.args.text.now.items (c.digit-one.result ∷ []) (decimal c.args.word) c.extend_from_slice.new.self.items is c.extend_from_slice.ensures.items

pub returns-then-word-lt100-clause-ok : goal.returns-then-word-lt100-clause-ok
returns-then-word-lt100-clause-ok c =
    let is = two_digits c.args.word c.digit-ten.result c.digit-one.result c.digit-ten.ensures c.digit-one.ensures c.if-word-lt10.false c.if-word-lt100.true in
    text_appended c.extend_from_slice-then-word-lt100.result c.args.text.now.items (c.digit-ten.result ∷ c.digit-one.result ∷ []) (decimal c.args.word) c.extend_from_slice-then-word-lt100.new.self.items is c.extend_from_slice-then-word-lt100.ensures.items

pub returns-then-word-lt1000-clause-ok : goal.returns-then-word-lt1000-clause-ok
returns-then-word-lt1000-clause-ok c =
    let is = three_digits c.args.word c.digit-hundred.result c.digit-ten.result c.digit-one.result c.digit-hundred.ensures c.digit-ten.ensures c.digit-one.ensures c.if-word-lt100.false c.if-word-lt1000.true in
    text_appended c.extend_from_slice-then-word-lt1000.result c.args.text.now.items (c.digit-hundred.result ∷ c.digit-ten.result ∷ c.digit-one.result ∷ []) (decimal c.args.word) c.extend_from_slice-then-word-lt1000.new.self.items is c.extend_from_slice-then-word-lt1000.ensures.items

pub returns-then-word-lt10000-clause-ok : goal.returns-then-word-lt10000-clause-ok
returns-then-word-lt10000-clause-ok c =
    let is = four_digits c.args.word c.digit-thousand.result c.digit-hundred.result c.digit-ten.result c.digit-one.result c.digit-thousand.ensures c.digit-hundred.ensures c.digit-ten.ensures c.digit-one.ensures c.if-word-lt1000.false c.if-word-lt10000.true in
    text_appended c.extend_from_slice-then-word-lt10000.result c.args.text.now.items (c.digit-thousand.result ∷ c.digit-hundred.result ∷ c.digit-ten.result ∷ c.digit-one.result ∷ []) (decimal c.args.word) c.extend_from_slice-then-word-lt10000.new.self.items is c.extend_from_slice-then-word-lt10000.ensures.items

pub returns-clause-ok : goal.returns-clause-ok
returns-clause-ok c =
    let is = five_digits c.args.word c.digit.result c.digit-thousand.result c.digit-hundred.result c.digit-ten.result c.digit-one.result c.digit.ensures c.digit-thousand.ensures c.digit-hundred.ensures c.digit-ten.ensures c.digit-one.ensures c.if-word-lt10000.false c.requires in
    text_appended c.extend_from_slice-2.result c.args.text.now.items (c.digit.result ∷ c.digit-thousand.result ∷ c.digit-hundred.result ∷ c.digit-ten.result ∷ c.digit-one.result ∷ []) (decimal c.args.word) c.extend_from_slice-2.new.self.items is c.extend_from_slice-2.ensures.items
