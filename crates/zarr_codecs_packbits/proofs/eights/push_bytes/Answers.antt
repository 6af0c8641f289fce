use Rattle.std.proofs.Common.{ap, ◌∙◌, ◌+◌, ◌++◌, ◌*◌, ◌/◌, length}
use Rattle.zarr_codecs_meaning.specs.Numbers.{digits}
use Rattle.zarr_codecs_packbits.proofs.PackedWords.{eight_bytes_more, last_bytes}
use Rattle.zarr_codecs_packbits.proofs.eights.push_bytes.Goals as goal

pub loop-eight-preserved : goal.loop-eight-preserved
loop-eight-preserved c =
    let count = c.args.kept.count in
    eight_bytes_more c.args.kept.first count c.loop-eight.rest.now c.in-Some.eight.now c.in-Some.others.now c.loop-eight.value.items c.push_eight.new.value.items _ c.in-Some.ensures.cases.0 c.in-Some.ensures.cases.1 c.in-Some.ensures.cases.2 c.in_ok-push_eight.ensures c.loop-eight.invariant

pub returns : goal.returns
returns c =
    let rest = c.loop-eight.rest.now in
    let many = (length rest * c.args.kept.count + 7) / 8 in
    let written = c.in_ok-push_word.ensures ∙ ap (λ n. c.loop-eight.value.items ++ digits 256 many n) c.word_of.ensures in
    last_bytes c.args.kept.first c.args.kept.count rest c.loop-eight.value.items c.push_word.new.value.items _ written c.loop-eight.invariant
