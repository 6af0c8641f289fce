use Rattle.std.proofs.lemmas.Bool.{le-leb, leb-true}
use Rattle.zarr_codecs_arrays.proofs.elements.Elements.is_too_large.Goals as goal

pub returns : goal.returns
returns c =
    let told = c.limit.ensures c.args.count in
    ((λ few. told.0 (leb-true c.limit.result c.args.count few)), (λ large. le-leb c.limit.result c.args.count (told.1 large)))
