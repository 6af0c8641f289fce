use Rattle.std.proofs.Common.{◌*◌, ◌∙◌, ap, sym}
use Rattle.zarr_sharding_index.proofs.known_shard.KnownShard.keep.Goals as goal

pub invariant_of-self : goal.invariant_of-self
invariant_of-self c =
    let self = c.args.self.now in
    record {
      small = c.requires.small;
      low = self.low;
      many = self.many ∙ ap (λ n. 2 * n) (sym c.requires.many);
    }
