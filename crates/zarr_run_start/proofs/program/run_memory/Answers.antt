use Rattle.std.proofs.Common.{true, OnOk, subst, ap, refl}
use Rattle.zarr_array_meaning.specs.StoreMaps.{StoreMap}
use Rattle.zarr_codecs_reverse.specs.Reversing.{reads_reversing}
use Rattle.zarr_run_lines.specs.Lines.{output}
use Rattle.zarr_run_meaning.specs.Runs.{world_over}
use Rattle.zarr_run_start.specs.Programs.{RunsAllFrom}
use Rattle.zarr_run_start.proofs.program.run_memory.Goals as goal

pub returns : goal.returns
returns g c =
    subst (λ (held : StoreMap). OnOk c.run_store.result (RunsAllFrom (reads_reversing, true) (world_over held 0) (g.R.Read.remaining c.args.reader)
    (output (g.W.Write.contents c.args.writer.now) (g.W.Write.contents c.run_store.new.writer))))
    (ap (λ store. store.held) c.new.ensures) (c.run_store.ensures refl)
