use Rattle.std.proofs.Common.{◌∙◌, ap, sym, Some, None, map, option_map}
use Rattle.serde_json.specs.View.{members_view}
use Rattle.zarr_grids_metadata.specs.Views.{point_view}
use Rattle.zarr_codecs_sections.specs.Views.{width_of, location_of}
use Rattle.zarr_codecs_configurations.proofs.ReadsBack.{vlen_read}
use Rattle.zarr_codecs_configurations.proofs.vlen.read_members.Goals as goal

pub returns-in_default-3-clause-err : goal.returns-in_default-3-clause-err
returns-in_default-3-clause-err c = λ h.
    vlen_read (members_view c.args.members.now.entries) (width_of c.in-Some.index_data_type, location_of c.in-Some.index_location) (map point_view c.in-Some-2.index_codecs.items) None
    (sym c.index_in.ensures ∙ ap (option_map (λ found. (width_of found.0, location_of found.1))) c.in-Some.is)
    (sym c.in_ok-index_codecs.ensures ∙ ap (option_map (λ points. map point_view points.items)) c.in-Some-2.is)
    (sym c.in_ok-data_codecs.ensures ∙ ap (option_map (λ points. map point_view points.items)) c.in_default-3.is)

pub returns-clause-ok : goal.returns-clause-ok
returns-clause-ok c =
    vlen_read (members_view c.args.members.now.entries) (width_of c.in-Some.index_data_type, location_of c.in-Some.index_location) (map point_view c.in-Some-2.index_codecs.items)
    (Some (map point_view c.in-Some-3.data_codecs.items))
    (sym c.index_in.ensures ∙ ap (option_map (λ found. (width_of found.0, location_of found.1))) c.in-Some.is)
    (sym c.in_ok-index_codecs.ensures ∙ ap (option_map (λ points. map point_view points.items)) c.in-Some-2.is)
    (sym c.in_ok-data_codecs.ensures ∙ ap (option_map (λ points. map point_view points.items)) c.in-Some-3.is)
