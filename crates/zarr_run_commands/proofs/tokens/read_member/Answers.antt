use Rattle.std.proofs.Common.{◌≡◌, true, bytes_eq, codes, string_bytes, Some, option_and_then, refl, sym, subst, rules}
use Rattle.std.proofs.lemmas.Slice.Eq.{bytes_eq-Decides}
use Rattle.json.specs.Json.{value}
use Rattle.serde_json.specs.Data.{put}
use Rattle.serde_json.specs.Find.{as_str}
use Rattle.zarr_run_commands.specs.Lines.{operation_named, options_in, region_in}
use Rattle.zarr_run_commands.specs.declared.tokens.Line.{Line}
use Rattle.zarr_run_commands.specs.LineCells.{IsLine, number_list}
use Rattle.zarr_run_commands.proofs.Fields.{with_operation, with_path, with_region, with_chunk, with_cells, with_options}
use Rattle.zarr_run_commands.proofs.Saying.{unsaid}
use Rattle.zarr_run_commands.proofs.tokens.read_member.Goals as goal

pub returns-in_ok-read_operation-in-op-clause-ok : goal.returns-in_ok-read_operation-in-op-clause-ok
returns-in_ok-read_operation-in-op-clause-ok c = λ ms is.
    let line = c.args.line.now in
    let operation = c.in_ok-read_operation-in-op.field-0 in
    let same : bytes_eq c.args.name.now (codes "op") ≡ true = search rules in
    let named = (bytes_eq-Decides c.args.name.now (codes "op")).0 same in
    let d = unsaid (λ d. option_and_then operation_named (as_str d)) (value 126 c.args.reader.now) operation c.read_operation.new.reader c.in_ok-read_operation-in-op.ensures.ok in
    let filled : Line = record { operation = Some operation; path = line.path; region = line.region; chunk = line.chunk; cells = line.cells; options = line.options } in
    (d.0, d.1, subst (λ k. IsLine c.args.workers (put k d.0 ms) filled) (sym named) (with_operation c.args.workers d.0 ms line is operation d.2))

pub returns-in_ok-read_text-in-path-clause-ok : goal.returns-in_ok-read_text-in-path-clause-ok
returns-in_ok-read_text-in-path-clause-ok c = λ ms is.
    let line = c.args.line.now in
    let text = c.in_ok-read_text-in-path.field-0 in
    let same : bytes_eq c.args.name.now (codes "path") ≡ true = search rules in
    let named = (bytes_eq-Decides c.args.name.now (codes "path")).0 same in
    let d = unsaid as_str (value 126 c.args.reader.now) (string_bytes text) c.read_text.new.reader c.in_ok-read_text-in-path.ensures.ok in
    let filled : Line = record { operation = line.operation; path = Some text; region = line.region; chunk = line.chunk; cells = line.cells; options = line.options } in
    (d.0, d.1, subst (λ k. IsLine c.args.workers (put k d.0 ms) filled) (sym named) (with_path c.args.workers d.0 ms line is (string_bytes text) text refl d.2))

pub returns-in_ok-read_region-in-box-clause-ok : goal.returns-in_ok-read_region-in-box-clause-ok
returns-in_ok-read_region-in-box-clause-ok c = λ ms is.
    let line = c.args.line.now in
    let region = c.in_ok-read_region-in-box.field-0 in
    let same : bytes_eq c.args.name.now (codes "box") ≡ true = search rules in
    let named = (bytes_eq-Decides c.args.name.now (codes "box")).0 same in
    let d = unsaid region_in (value 126 c.args.reader.now) _ c.read_region.new.reader c.in_ok-read_region-in-box.ensures.ok in
    let filled : Line = record { operation = line.operation; path = line.path; region = Some region; chunk = line.chunk; cells = line.cells; options = line.options } in
    (d.0, d.1, subst (λ k. IsLine c.args.workers (put k d.0 ms) filled) (sym named) (with_region c.args.workers d.0 ms line is region d.2))

pub returns-in_ok-read_list-in-chunk-clause-ok : goal.returns-in_ok-read_list-in-chunk-clause-ok
returns-in_ok-read_list-in-chunk-clause-ok c = λ ms is.
    let line = c.args.line.now in
    let chunk = c.in_ok-read_list-in-chunk.field-0 in
    let d = number_list chunk.items in
    let same : bytes_eq c.args.name.now (codes "chunk") ≡ true = search rules in
    let named = (bytes_eq-Decides c.args.name.now (codes "chunk")).0 same in
    let filled : Line = record { operation = line.operation; path = line.path; region = line.region; chunk = Some chunk; cells = line.cells; options = line.options } in
    (d, c.in_ok-read_list-in-chunk.ensures.ok, subst (λ k. IsLine c.args.workers (put k d ms) filled) (sym named) (with_chunk c.args.workers d ms line is chunk refl))

pub returns-in_ok-read_list-in-cells-clause-ok : goal.returns-in_ok-read_list-in-cells-clause-ok
returns-in_ok-read_list-in-cells-clause-ok c = λ ms is.
    let line = c.args.line.now in
    let cells = c.in_ok-read_list-in-cells.field-0 in
    let d = number_list cells.items in
    let same : bytes_eq c.args.name.now (codes "cells") ≡ true = search rules in
    let named = (bytes_eq-Decides c.args.name.now (codes "cells")).0 same in
    let filled : Line = record { operation = line.operation; path = line.path; region = line.region; chunk = line.chunk; cells = Some cells; options = line.options } in
    (d, c.in_ok-read_list-in-cells.ensures.ok, subst (λ k. IsLine c.args.workers (put k d ms) filled) (sym named) (with_cells c.args.workers d ms line is cells refl))

pub returns-in_ok-next_options-in-options-clause-ok : goal.returns-in_ok-next_options-in-options-clause-ok
returns-in_ok-next_options-in-options-clause-ok c = λ ms is.
    let line = c.args.line.now in
    let options = c.in_ok-next_options-in-options.field-0 in
    let same : bytes_eq c.args.name.now (codes "options") ≡ true = search rules in
    let named = (bytes_eq-Decides c.args.name.now (codes "options")).0 same in
    let d = unsaid (options_in c.args.workers) (value 126 c.args.reader.now) options c.next_options.new.reader c.in_ok-next_options-in-options.ensures.ok in
    let filled : Line = record { operation = line.operation; path = line.path; region = line.region; chunk = line.chunk; cells = line.cells; options = Some options } in
    (d.0, d.1, subst (λ k. IsLine c.args.workers (put k d.0 ms) filled) (sym named) (with_options c.args.workers d.0 ms line is options d.2))
