use Rattle.zarr_run_boxes.proofs.reading.read_box.Goals as goal

pub returns-clause-refused : goal.returns-clause-refused
returns-clause-refused g c = c.read_covered.ensures.refused

pub returns-clause-given : goal.returns-clause-given
returns-clause-given g c = c.read_covered.ensures.given
