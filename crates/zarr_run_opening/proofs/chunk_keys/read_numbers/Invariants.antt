use Rattle.std.proofs.Common.{◌≡◌, [], drop}
use Rattle.zarr_run_opening.proofs.NumberLemmas.{read_on}
use Rattle.zarr_run_opening.proofs.chunk_keys.read_numbers.Given as goal

abbrev pub invariant-loop-byte : goal.invariant-loop-byte
invariant-loop-byte l = read_on l.between l.numbers.items l.number (drop l.byte-index l.text) ≡ read_on l.between [] 0 l.text
