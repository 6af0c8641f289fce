use Rattle.std.proofs.Common.{◌++◌, codes, sym, ap}
use Rattle.zarr_run_commands.proofs.Appended.{appended}
use Rattle.zarr_run_commands.proofs.Printed.{fault_answer}
use Rattle.zarr_run_commands.proofs.answer.push_fault.Goals as goal

pub returns-clause-ok : goal.returns-clause-ok
returns-clause-ok c =
    let old = c.args.text.now.items in
    appended c.extend_from_slice.result c.extend_from_slice.new.self.items old (codes "{\"fault\":\"text\"}") _ c.extend_from_slice.ensures.items (ap (λ more. old ++ more) (sym fault_answer))
