use Rattle.zarr_run_commands.proofs.Saying.{number_token}
use Rattle.zarr_run_commands.proofs.tokens.next_number.Goals as goal

pub returns-in-Some-clause-ok : goal.returns-in-Some-clause-ok
returns-in-Some-clause-ok c = let read = c.in-Some.ensures in λ depth. number_token depth c.args.reader.now c.next_number.new.self read.0 c.in-Some.number read.1 read.2
