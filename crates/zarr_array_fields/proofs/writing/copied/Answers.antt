use Rattle.std.proofs.lemmas.Result.{MatchResult-weaker}
use Rattle.zarr_grids_metadata.proofs.Clones.{members_view-clone}
use Rattle.zarr_array_fields.proofs.writing.copied.Goals as goal

pub returns : goal.returns
returns c = MatchResult-weaker c.clone.result c.clone.ensures.cases (λ x h. members_view-clone c.args.members.now.entries x.entries h) (λ y h. tt)
