use Rattle.std.proofs.Common.{◌≡◌, drop}
use Rattle.zarr_codecs_arrays.proofs.Filled.{fill_between}
use Rattle.zarr_codecs_arrays.proofs.fills.are_copies_between.Given as goal

abbrev pub invariant-loop-end : goal.invariant-loop-end
invariant-loop-end l = fill_between l.element l.bytes l.initial.start l.ends ≡ fill_between l.element l.bytes l.start (drop l.end-index l.ends)
