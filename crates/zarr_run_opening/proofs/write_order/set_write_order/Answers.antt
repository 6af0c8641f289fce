use Rattle.std.proofs.Common.{ap, ◌∙◌}
use Rattle.zarr_sharding_chains.specs.ArrayChains.{array_function, array_meaning}
use Rattle.zarr_run_opening.proofs.OrderLemmas.{follows_order, same_document}
use Rattle.zarr_run_opening.proofs.write_order.set_write_order.Goals as goal

pub returns-clause-document : goal.returns-clause-document
returns-clause-document g c =
    let meaning = g.B.BytesToBytesCodecTraits.meaning in
    same_document meaning c.args.array.now c.replace_codecs-codecs.new.self c.replace_codecs.new.self c.stand_in.result c.with_codec_specific_options-codecs.result
    c.replace_codecs-codecs.ensures.says c.replace_codecs.ensures.says
    (c.with_codec_specific_options-codecs.ensures.meaning ∙ ap (array_meaning meaning) c.replace_codecs-codecs.ensures.old)

pub returns-clause-exact : goal.returns-clause-exact
returns-clause-exact g c =
    follows_order g.B.BytesToBytesCodecTraits.meaning c.args.order c.replace_codecs.new.self
    (λ major. ap array_function c.replace_codecs.ensures.codecs ∙ c.with_codec_specific_options-codecs.ensures.exact major)
