use Rattle.std.proofs.Common.{length, leb-true, ◌∙◌, sym}
use Rattle.zarr_run_commands.proofs.Cursors.{at_end}
use Rattle.zarr_run_commands.proofs.cursor.Cursor.is_at_end.Goals as goal

pub returns-then-may_close : goal.returns-then-may_close
returns-then-may_close c = λ past.
    let i = c.self.inside in
    sym c.self.view_is ∙ at_end i.stand i.text.now i.at (sym c.may_close.ensures ∙ c.if-may_close.true) (leb-true (length i.text.now) i.at past)
