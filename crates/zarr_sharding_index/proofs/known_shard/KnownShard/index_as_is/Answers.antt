use Rattle.std.proofs.Common.{◌≡◌, ◌*◌, ◌∙◌, List, ap, arith, length, subst, sym, true}
use Rattle.zarr_codecs_meaning.specs.Encoding.{Pair}
use Rattle.zarr_codecs_traits.specs.Capabilities.{encodes_as_is}
use Rattle.zarr_sharding_index.specs.Known.{known_shape}
use Rattle.zarr_sharding_index.specs.Stored.{IsIndexWritten}
use Rattle.zarr_sharding_index.proofs.known_shard.KnownShard.index_as_is.Goals as goal

pub returns-clause-lent : goal.returns-clause-lent
returns-clause-lent g c =
    let self = c.args.self.now in
    let index = g.X.ArrayToBytesCodecTraits.meaning c.args.codecs.now in
    let exact = g.X.ArrayToBytesCodecTraits.is_function c.args.codecs.now in
    let told = c.encodes_as_is.ensures in
    let so = c.if-not-encodes_as_is.false in
    let as_is : encodes_as_is index ≡ true = grind (arith, told, so) in
    let same = c.in_ok-index.ensures.lent in
    subst (λ (ps : List Pair). IsIndexWritten index exact (known_shape self) ps c.as_bytes.result.now) same
    (c.as_bytes.ensures index exact (known_shape self) as_is c.requires (self.many ∙ ap (λ n. 2 * n) (ap (λ (ps : List Pair). length ps) (sym same))))
