use Rattle.zarr_codecs_json.proofs.inside.+inside_lists.Given as goal

abbrev pub decreases-inside_lists : goal.decreases-inside_lists
decreases-inside_lists l = l.levels
