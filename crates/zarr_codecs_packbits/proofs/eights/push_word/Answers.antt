use Rattle.std.proofs.Common.{ap, ◌∙◌, ◌++◌, take}
use Rattle.zarr_codecs_packbits.proofs.PackedWords.{word_front}
use Rattle.zarr_codecs_packbits.proofs.eights.push_word.Goals as goal

pub returns : goal.returns
returns c = c.in_ok-extend_from_slice.ensures.items ∙ ap (λ ns. c.args.value.now.items ++ ns) (ap (take c.args.count) c.to_le_bytes-bytes.ensures ∙ word_front c.args.count c.args.word c.requires)
