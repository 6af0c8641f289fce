use Rattle.std.proofs.Common.{◌∙◌, ◌++◌, ◌-◌, ap, length, take, drop, get_or}
use Rattle.json.specs.Print.{escape}
use Rattle.zarr_codecs_json.proofs.PrintedTexts.{escape_appended, first_and_rest, run_appended}
use Rattle.zarr_codecs_json.proofs.strings.push_run.Goals as goal

pub returns-in-empty-clause-ok : goal.returns-in-empty-clause-ok
returns-in-empty-clause-ok c =
    let old = c.args.text.now.items in
    let mid = c.extend_from_slice.new.self.items in
    let grown = c.in_ok-extend_from_slice.ensures.items ∙ ap (λ ns. old ++ ns) c.split_at.ensures.front in
    ap (λ ns. mid ++ escape ns) c.split_at.ensures.back ∙ run_appended c.args.bytes.now old mid c.plain_len.result c.plain_len.ensures.plain grown

pub returns-in_ok-push_escape-in-len1-up-clause-ok : goal.returns-in_ok-push_escape-in-len1-up-clause-ok
returns-in_ok-push_escape-in-len1-up-clause-ok c =
    let bytes = c.args.bytes.now in
    let old = c.args.text.now.items in
    let mid = c.extend_from_slice.new.self.items in
    let others = c.split_at.result.1.now in
    let grown = c.in_ok-extend_from_slice.ensures.items ∙ ap (λ ns. old ++ ns) c.split_at.ensures.front in
    let run = ap (λ ns. mid ++ escape ns) c.split_at.ensures.back ∙ run_appended bytes old mid c.plain_len.result c.plain_len.ensures.plain grown in
    let whole = first_and_rest others c.in-len1-up.len_at_least in
    escape_appended (get_or others 0 0) (take (length others - 1) (drop 1 others)) (old ++ escape bytes) mid c.push_escape.new.text.items c.in_ok-push_escape-in-len1-up.ensures.ok (ap (λ ns. mid ++ escape ns) whole ∙ run)
