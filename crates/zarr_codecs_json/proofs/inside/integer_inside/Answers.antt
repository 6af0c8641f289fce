use Rattle.serde_json.specs.View.{view}
use Rattle.zarr_codecs_types.specs.Views.{sign_of}
use Rattle.zarr_codecs_json.proofs.ReadLists.{zero_inside, integer_reaches}
use Rattle.zarr_codecs_json.proofs.inside.integer_inside.Goals as goal

pub returns-in-None-clause-cell : goal.returns-in-None-clause-cell
returns-in-None-clause-cell c = zero_inside (sign_of c.args.sign) c.args.width c.args.levels (view c.args.value.now) (rw c.in-None.is at c.in_ok-inside.ensures)

pub returns-in-Some-clause-reaches : goal.returns-in-Some-clause-reaches
returns-in-Some-clause-reaches c = integer_reaches (sign_of c.args.sign) c.args.width (view c.in-Some.found.now) c.integer_in.result c.integer_in.ensures
