use Rattle.std.proofs.Common.{ap, ◌∙◌}
use Rattle.zarr_grids_metadata.proofs.Clones.{members_view-clone}
use Rattle.zarr_array_v2.specs.Attributes.{without}
use Rattle.zarr_array_v2.proofs.Removed.{removed}
use Rattle.zarr_array_v2.proofs.attributes.without.Goals as goal

pub returns : goal.returns
returns c =
    let name = c.args.name.now in
    let copied = c.in_ok-others.others.entries in
    removed name copied c.remove.new.self.entries c.remove.ensures.entries c.remove.ensures.updates.1 ∙ ap (without name) (members_view-clone c.args.members.now.entries copied c.in_ok-others.ensures.cases)
