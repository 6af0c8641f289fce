use Rattle.std.proofs.Common.{ap, Some, ◌∙◌}
use Rattle.serde_json.specs.Data.{string}
use Rattle.zarr_codecs_types.proofs.FillLemmas.{text_written, text_refused}
use Rattle.zarr_codecs_types.proofs.fill_writing.text_data.Goals as goal

pub returns-in_ok-try_from_str-in-Ok : goal.returns-in_ok-try_from_str-in-Ok
returns-in_ok-try_from_str-in-Ok c =
    ap Some (c.in_ok-try_from_str-in-Ok.ensures ∙ ap string c.in-Ok.ensures.cases.0) ∙ text_written c.args.bytes.now c.in-Ok.ensures.cases.1

pub returns-in-Err : goal.returns-in-Err
returns-in-Err c = text_refused c.args.bytes.now c.in-Err.ensures.cases.0
