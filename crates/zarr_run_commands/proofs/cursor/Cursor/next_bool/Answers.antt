use Rattle.std.proofs.Common.{◌≡◌, true, sym, ◌∙◌, arith}
use Rattle.json.specs.Lex.{may_begin}
use Rattle.zarr_run_commands.specs.Cursors.{place_of}
use Rattle.zarr_run_commands.proofs.Cursors.{bool_read}
use Rattle.zarr_run_commands.proofs.cursor.Cursor.next_bool.Goals as goal

pub returns : goal.returns
returns c =
    let i = c.self.inside in
    let bytes = c.split_at.result.1.now in
    let found = c.in_ok-value in
    let after = c.in_ok-at in
    let may : may_begin (place_of i.stand) ≡ true = grind arith in
    sym c.self.view_is ∙ bool_read i.stand after.stand i.text.now bytes found.value i.at found.count after.at may c.split_at.ensures.back found.ensures.word after.ensures.ended after.ensures.next
