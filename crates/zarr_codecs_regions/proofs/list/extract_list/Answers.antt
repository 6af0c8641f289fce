use Rattle.std.proofs.Common.{◌∙◌, ap, length}
use Rattle.std.proofs.lemmas.List.{take_all}
use Rattle.zarr_codecs_meaning.specs.Payloads.{fixed_cells}
use Rattle.zarr_codecs_regions.proofs.Listed.{elements_bytes, listed_cells, listed_ends, listed_length}
use Rattle.zarr_codecs_regions.proofs.list.extract_list.Goals as goal

pub element-requires : goal.element-requires
element-requires c = listed_ends c.args.width c.loop-number.number-index c.args.bytes.now c.args.numbers.now c.loop-number-test.true c.requires.inside

pub returns-clause-elements : goal.returns-clause-elements
returns-clause-elements c = λ other.
    let all = c.loop-number.invariant ∙ ap (elements_bytes c.args.width c.args.bytes.now) (take_all c.loop-number.number-index c.args.numbers.now c.loop-number-test.false) in
    ap (fixed_cells c.args.width) all ∙ listed_cells c.args.width c.args.bytes.now c.args.numbers.now other c.requires.positive c.requires.inside

pub returns-clause-length : goal.returns-clause-length
returns-clause-length c =
    let all = c.loop-number.invariant ∙ ap (elements_bytes c.args.width c.args.bytes.now) (take_all c.loop-number.number-index c.args.numbers.now c.loop-number-test.false) in
    ap length all ∙ listed_length c.args.width c.args.bytes.now c.args.numbers.now c.requires.inside
