use Rattle.std.proofs.Common.{◌≡◌, ℕ, List, IsTrue}
use Rattle.std.specs.Io.Buffered.{reader_remaining}
use Rattle.std.specs.Io.KnownBytes.{append_known}
use Rattle.std.specs.Io.Take.{take_remaining}
use Rattle.zarr_run_session.specs.Sessions.{state_of, store_of}
use Rattle.zarr_run_lines.specs.Lines.{output}
use Rattle.zarr_run_lines.specs.Reading.{up_to, HasRead, HasRun}
use Rattle.zarr_run_lines.specs.Sessions.{LeadsTo}
use Rattle.zarr_run_lines.proofs.lines.answer_lines.Given as goal

abbrev pub invariant-loop-line : goal.invariant-loop-line
invariant-loop-line g l = (done : List (List ℕ))
    × HasRead (g.R.Read.remaining l.fn.reader) (up_to (reader_remaining (take_remaining g.R.Read.remaining) l.reader) l.limits.bytes) l.limits.lines done
    × (g.S.ReadableStorageTraits.is_honest (store_of l.session) ≡ g.S.ReadableStorageTraits.is_honest (store_of l.fn.session))
    × (IsTrue (g.S.ReadableStorageTraits.is_honest (store_of l.fn.session)) → LeadsTo g.B.BytesToBytesCodecTraits.meaning g.B.BytesToBytesCodecTraits.reads
    (state_of g.S.ReadableStorageTraits.held g.S.ReadableStorageTraits.refused_calls l.fn.session) (state_of g.S.ReadableStorageTraits.held g.S.ReadableStorageTraits.refused_calls l.session)
    (HasRun (g.B.BytesToBytesCodecTraits.reads, g.S.WritableStorageTraits.supports_set_partial) done (output (g.W.Write.contents l.fn.writer) (append_known (g.W.Write.contents l.writer) l.pending.items))))

abbrev pub decreases-loop-line : goal.decreases-loop-line
decreases-loop-line g l = l.limits.lines
