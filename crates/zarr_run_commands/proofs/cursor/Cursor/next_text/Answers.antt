use Rattle.std.proofs.Common.{◌≡◌, ◌+◌, ◌∷◌, drop, true, sym, ◌∙◌, arith}
use Rattle.json.specs.Lex.{may_begin}
use Rattle.zarr_run_commands.specs.Cursors.{place_of}
use Rattle.zarr_run_commands.proofs.Cursors.{content_at, rest_at, text_read}
use Rattle.zarr_run_commands.proofs.cursor.Cursor.next_text.Goals as goal

pub returns : goal.returns
returns c =
    let i = c.self.inside in
    let text = i.text.now in
    let count = c.in_ok-count.count in
    let after = c.in_ok-at in
    let may : may_begin (place_of i.stand) ≡ true = grind arith in
    let here : drop i.at text ≡ 34 ∷ drop (i.at + 1) text = grind arith in
    let bytes = c.split_at.result.1.now in
    let is = content_at text bytes c.split_at-2.result.0.now c.in-Ok.found.now i.at count c.split_at.ensures.back c.in_ok-count.ensures.content c.split_at-2.ensures.front c.in-Ok.ensures.cases.0 in
    let rest = rest_at text bytes i.at count c.split_at.ensures.back c.in_ok-count.ensures.rest in
    sym c.self.view_is ∙ text_read i.stand after.stand text c.in-Ok.found.now i.at (i.at + 1 + count + 1) after.at may here is rest after.ensures.plain after.ensures.next
