use Rattle.std.proofs.Common.{◌∙◌, [], ◌≤◌, length, sym, ap, arith}
use Rattle.zarr_grids_keys.specs.Separators.{separator_byte}
use Rattle.zarr_run_opening.proofs.ChunkKeyLemmas.{below_digits}
use Rattle.zarr_run_opening.proofs.NumberLemmas.{read_on, read_all, read_end}
use Rattle.zarr_run_opening.proofs.chunk_keys.read_numbers.Goals as goal

pub returns : goal.returns
returns c = λ chunk small e.
    let l : length c.args.text.now ≤ c.loop-byte.byte-index = omega arith in
    c.in_ok-push-2.ensures.items
    ∙ sym (read_end c.byte_of-between.result c.loop-byte.numbers.items c.loop-byte.number c.args.text.now c.loop-byte.byte-index l)
    ∙ c.loop-byte.invariant
    ∙ ap (λ b. read_on b [] 0 c.args.text.now) c.byte_of-between.ensures
    ∙ read_all (separator_byte c.args.separator) c.args.text.now chunk (below_digits c.args.separator) small e
