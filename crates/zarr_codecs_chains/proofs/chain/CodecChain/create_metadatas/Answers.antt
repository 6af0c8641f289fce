use Rattle.std.proofs.Common.{◌≡◌, ◌∙◌, ap, map, Bool, Some, None, option_and_then, if◌then◌else◌}
use Rattle.std.proofs.lemmas.Result.{IfOk-weaker}
use Rattle.zarr_grids_metadata.specs.Views.{point_of}
use Rattle.zarr_codecs_metadata.specs.Allowed.{allowed}
use Rattle.zarr_codecs_metadata.specs.Chains.{allowed_chain, chain_of}
use Rattle.zarr_codecs_chains.specs.Views.{meaning_of, points_of}
use Rattle.zarr_codecs_chains.proofs.WrittenBack.{chain_back}
use Rattle.zarr_codecs_chains.proofs.chain.CodecChain.create_metadatas.Goals as goal

pub returns-clause-reads_back : goal.returns-clause-reads_back
returns-clause-reads_back g c =
    let b = g.B.BytesToBytesCodecTraits in
    let self = c.args.self.now in
    IfOk-weaker c.chain_metadatas.result (λ codecs. map point_of codecs.items ≡ points_of b.described self) (λ codecs. chain_of b.reads (map point_of codecs.items) ≡ Some (meaning_of b.meaning self))
    (λ codecs e. ap (chain_of b.reads) e ∙ chain_back b.reads b.described b.meaning g.met.B.BytesToBytesCodecTraits.reads_back self) c.chain_metadatas.ensures

pub returns-clause-made_again : goal.returns-clause-made_again
returns-clause-made_again g c = λ stand.
    let b = g.B.BytesToBytesCodecTraits in
    let self = c.args.self.now in
    let chain = meaning_of b.meaning self in
    IfOk-weaker c.chain_metadatas.result (λ codecs. map point_of codecs.items ≡ points_of b.described self) (λ codecs. allowed_chain b.reads (map point_of codecs.items) ≡ Some chain)
    (λ codecs e. ap (allowed_chain b.reads) e ∙ (ap (option_and_then allowed) (chain_back b.reads b.described b.meaning g.met.B.BytesToBytesCodecTraits.reads_back self) ∙ ap (λ (x : Bool). if x then Some chain else None) stand)) c.chain_metadatas.ensures
