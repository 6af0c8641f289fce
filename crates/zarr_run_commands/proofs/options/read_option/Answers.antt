use Rattle.std.proofs.Common.{◌≡◌, true, bytes_eq, codes, Some, sym, subst, rules}
use Rattle.std.proofs.lemmas.Slice.Eq.{bytes_eq-Decides}
use Rattle.serde_json.specs.Data.{boolean, put}
use Rattle.zarr_codecs_options.specs.declared.codec_options.CodecOptions.{CodecOptions}
use Rattle.zarr_run_commands.specs.Lines.{options_of}
use Rattle.zarr_run_commands.proofs.Flags.{bool_token, with_partial, with_empty, with_workers}
use Rattle.zarr_run_commands.proofs.options.read_option.Goals as goal

pub returns-in_ok-options-in-partial-clause-read : goal.returns-in_ok-options-in-partial-clause-read
returns-in_ok-options-in-partial-clause-read c = λ workers ms is.
    let old = c.args.options.now in
    let b = c.in_ok-options-in-partial.field-0 in
    let same : bytes_eq c.args.name.now (codes "partial") ≡ true = search rules in
    let named = (bytes_eq-Decides c.args.name.now (codes "partial")).0 same in
    let read = bool_token 125 c.args.reader.now c.next_bool.new.self b c.in_ok-options-in-partial.ensures in
    let filled : CodecOptions = record { store_empty_chunks = old.store_empty_chunks; experimental_partial_encoding = b; workers = old.workers } in
    (boolean b, read, subst (λ k. options_of workers (put k (boolean b) ms) ≡ Some filled) (sym named) (with_partial workers ms old is b))

pub returns-in_ok-options-in-empty-clause-read : goal.returns-in_ok-options-in-empty-clause-read
returns-in_ok-options-in-empty-clause-read c = λ workers ms is.
    let old = c.args.options.now in
    let b = c.in_ok-options-in-empty.field-0 in
    let same : bytes_eq c.args.name.now (codes "empty") ≡ true = search rules in
    let named = (bytes_eq-Decides c.args.name.now (codes "empty")).0 same in
    let read = bool_token 125 c.args.reader.now c.next_bool-in-empty.new.self b c.in_ok-options-in-empty.ensures in
    let filled : CodecOptions = record { store_empty_chunks = b; experimental_partial_encoding = old.experimental_partial_encoding; workers = old.workers } in
    (boolean b, read, subst (λ k. options_of workers (put k (boolean b) ms) ≡ Some filled) (sym named) (with_empty workers ms old is b))

pub returns-in_ok-options-in-workers-clause-read : goal.returns-in_ok-options-in-workers-clause-read
returns-in_ok-options-in-workers-clause-read c = λ workers ms is.
    let old = c.args.options.now in
    let b = c.in_ok-options-in-workers.field-0 in
    let same : bytes_eq c.args.name.now (codes "workers") ≡ true = search rules in
    let named = (bytes_eq-Decides c.args.name.now (codes "workers")).0 same in
    let read = bool_token 125 c.args.reader.now c.next_bool-in-workers.new.self b c.in_ok-options-in-workers.ensures in
    let filled : CodecOptions = record { store_empty_chunks = old.store_empty_chunks; experimental_partial_encoding = old.experimental_partial_encoding; workers = b } in
    (boolean b, read, subst (λ k. options_of workers (put k (boolean b) ms) ≡ Some filled) (sym named) (with_workers workers ms old is b))
