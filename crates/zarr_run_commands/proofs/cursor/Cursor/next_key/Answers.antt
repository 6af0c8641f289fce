use Rattle.std.proofs.Common.{◌≡◌, ◌+◌, ◌∷◌, drop, true, refl, sym, ap, ◌∙◌, arith}
use Rattle.json.specs.Json.{read_key}
use Rattle.json.specs.Lex.{may_begin}
use Rattle.zarr_run_commands.specs.Cursors.{place_of}
use Rattle.zarr_run_commands.proofs.Cursors.{content_at, key_read, rest_at}
use Rattle.zarr_run_commands.proofs.cursor.Cursor.next_key.Goals as goal

pub returns : goal.returns
returns c =
    let i = c.self.inside in
    let text = i.text.now in
    let count = c.in_ok-count.count in
    let end = i.at + 1 + count + 1 in
    let may : may_begin (place_of i.stand) ≡ true = grind arith in
    let here : drop i.at text ≡ 34 ∷ drop (i.at + 1) text = grind arith in
    let bytes = c.split_at.result.1.now in
    let is = content_at text bytes c.split_at-2.result.0.now c.in-Ok.found.now i.at count c.split_at.ensures.back c.in_ok-count.ensures.content c.split_at-2.ensures.front c.in-Ok.ensures.cases.0 in
    let rest = rest_at text bytes i.at count c.split_at.ensures.back c.in_ok-count.ensures.rest in
    let colon : drop end text ≡ 58 ∷ drop (end + 1) text = grind arith in
    let kept = c.if-take_end_object.ensures.kept refl in
    ap read_key (sym kept ∙ sym c.self.view_is) ∙ key_read i.stand text c.in-Ok.found.now i.at end c.skip_blanks-self-inside.result may here is rest colon c.skip_blanks-self-inside.ensures
