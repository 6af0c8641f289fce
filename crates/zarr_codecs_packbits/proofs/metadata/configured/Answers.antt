use Rattle.std.proofs.Common.{◌∙◌, ap, sym, option_map}
use Rattle.serde_json.specs.View.{members_view}
use Rattle.zarr_grids_metadata.specs.ExtensionPoints.{configuration_members}
use Rattle.zarr_codecs_metadata.specs.PackBits.{packbits_of}
use Rattle.zarr_codecs_packbits.proofs.ReadsBack.{members_told}
use Rattle.zarr_codecs_packbits.proofs.metadata.configured.Goals as goal

pub returns-then-has_only : goal.returns-then-has_only
returns-then-has_only c =
    let ms = members_view c.in-Some.members.now.entries in
    c.configured_by.ensures
    ∙ (members_told ms _ _ _ (sym c.has_only.ensures ∙ c.if-has_only.true) c.member.ensures c.member-then-has_only.ensures c.member-then-has_only-2.ensures
    ∙ sym (ap (λ o. packbits_of (configuration_members (option_map (λ members. members_view members.now.entries) o))) c.in-Some.is))
