use Rattle.std.proofs.Common.{◌≡◌, ◌≤◌, IsTrue, length, map, take, vec_len, vec_capacity}
use Rattle.zarr_run_commands.specs.Commands.{answered}
use Rattle.zarr_run_session.specs.Commands.{asked_over}
use Rattle.zarr_run_session.specs.Sessions.{RunsFrom, state_of, store_of}
use Rattle.zarr_run_session.proofs.runs.run_on.Given as goal

abbrev pub invariant-loop-command : goal.invariant-loop-command
invariant-loop-command g l = record {
  ran : IsTrue (g.S.ReadableStorageTraits.is_honest (store_of l.fn.session)) → RunsFrom (g.B.BytesToBytesCodecTraits.meaning, g.B.BytesToBytesCodecTraits.reads)
      (state_of g.S.ReadableStorageTraits.held g.S.ReadableStorageTraits.refused_calls l.fn.session) (map (asked_over g.S.WritableStorageTraits.supports_set_partial) (take l.command-index l.commands), map answered l.replies.items)
      (state_of g.S.ReadableStorageTraits.held g.S.ReadableStorageTraits.refused_calls l.session);
  honest : g.S.ReadableStorageTraits.is_honest (store_of l.session) ≡ g.S.ReadableStorageTraits.is_honest (store_of l.fn.session);
  room : length l.commands ≤ vec_capacity l.replies;
  count : vec_len l.replies ≡ l.command-index;
}
