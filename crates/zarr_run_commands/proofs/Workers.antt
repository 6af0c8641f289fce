-- What lines ask with and without workers.
use Rattle.std.proofs.Common.{◌≡◌, ℕ, List, Bool, true, false, codes, if◌then◌else◌, Option, Some, None, option_map, option_and_then, refl, ap, ◌∙◌}
use Rattle.serde_json.specs.Data.{Data, Members}
use Rattle.serde_json.specs.Find.{get_member, as_bool, as_object}
use Rattle.serde_json.specs.Read.{read as json_of}
use Rattle.zarr_grids_boxes.specs.Boxes.{Region}
use Rattle.zarr_codecs_options.specs.declared.codec_options.CodecOptions.{CodecOptions}
use Rattle.zarr_codecs_options.specs.declared.subchunk_write_order.SubchunkWriteOrder.{SubchunkWriteOrder}
use Rattle.zarr_codecs_types.specs.Given.{given_json}
use Rattle.zarr_grids_metadata.specs.Members.{has_only}
use Rattle.zarr_run_meaning.specs.Requests.{Target, in_box, in_chunk, Request, create, reopen, write, read, erase, compact, rewrite}
use Rattle.zarr_run_meaning.specs.Workers.{with_workers}
use Rattle.zarr_run_commands.specs.declared.operation.Operation.{Operation}
use Rattle.zarr_run_commands.specs.declared.operation.Operation.TheVariants.{Create, Reopen, WriteBox, WriteChunk, ReadBox, ReadChunk, EraseChunks, Compact, Rewrite}
use Rattle.zarr_run_commands.specs.Lines.{said_or, optional, option_names, options_of, options_in, no_options, line_options_of, field_names, operation_of, path_of, order_of, box_of, chunk_of, request_by, request_of, request_in, SaysWith}

-- ---- options

-- options with this value of `workers`
abbrev set : Bool → CodecOptions → CodecOptions
set workers options = record options { workers = workers }

-- the one options are the others, with some value of `workers`
abbrev OptionsAlike : Option CodecOptions → Option CodecOptions → Type 0
OptionsAlike one other = (workers : Bool) × (other ≡ option_map (set workers) one)

-- options by what is said of each
abbrev options_by : Bool → Option Bool → Option Bool → Option Bool → Option CodecOptions
options_by only partial empty workers =
    if only then
    option_and_then (λ p. option_and_then (λ e. option_map (λ w. record { store_empty_chunks = e; experimental_partial_encoding = p; workers = w }) workers) empty) partial
    else None

said_alike : (partial empty : Bool) (said : Option Bool) → OptionsAlike (options_by true (Some partial) (Some empty) said) (options_by true (Some partial) (Some empty) said)
said_alike partial empty None = (false, refl)
said_alike partial empty (Some workers) = (workers, refl)

flags_alike : (a b only : Bool) (partial empty : Option Bool) (found : Option Data) → OptionsAlike (options_by only partial empty (said_or as_bool a found)) (options_by only partial empty (said_or as_bool b found))
flags_alike a b false partial empty found = (false, refl)
flags_alike a b true None empty found = (false, refl)
flags_alike a b true (Some p) None found = (false, refl)
flags_alike a b true (Some p) (Some e) None = (b, refl)
flags_alike a b true (Some p) (Some e) (Some d) = said_alike p e (as_bool d)

object_alike : (a b : Bool) (found : Option Members) → OptionsAlike (option_and_then (options_of a) found) (option_and_then (options_of b) found)
object_alike a b None = (false, refl)
object_alike a b (Some ms) =
    flags_alike a b (has_only option_names ms) (optional as_bool false (codes "partial") ms) (optional as_bool false (codes "empty") ms) (get_member (codes "workers") ms)

found_alike : (a b : Bool) (found : Option Data) → OptionsAlike (said_or (options_in a) (no_options a) found) (said_or (options_in b) (no_options b) found)
found_alike a b None = (b, refl)
found_alike a b (Some d) = object_alike a b (as_object d)

line_alike : (a b : Bool) (ms : Members) → OptionsAlike (line_options_of a ms) (line_options_of b ms)
line_alike a b ms = found_alike a b (get_member (codes "options") ms)

-- ---- requests

-- the one request is the other, with some value of `workers`
abbrev Alike : Option Request → Option Request → Type 0
Alike one other = (workers : Bool) × (other ≡ option_map (with_workers workers) one)

turned : (asks : CodecOptions → Request) → ((workers : Bool) (options : CodecOptions) → asks (set workers options) ≡ with_workers workers (asks options))
    → (workers : Bool) (options : Option CodecOptions) → option_map asks (option_map (set workers) options) ≡ option_map (with_workers workers) (option_map asks options)
turned asks turns workers None = refl
turned asks turns workers (Some options) = ap Some (turns workers options)

asked_alike : (asks : CodecOptions → Request) → ((workers : Bool) (options : CodecOptions) → asks (set workers options) ≡ with_workers workers (asks options))
    → (one other : Option CodecOptions) → OptionsAlike one other → Alike (option_map asks one) (option_map asks other)
asked_alike asks turns one other are = (are.0, ap (option_map asks) are.1 ∙ turned asks turns are.0 one)

abbrev write_by : Option (List ℕ) → Option Target → Option Data → Option CodecOptions → Option Request
write_by path target cells options = option_and_then (λ p. option_and_then (λ meant. option_and_then (λ c. option_map (λ o. write p meant (given_json c) o) options) cells) target) path

write_alike : (path : Option (List ℕ)) (target : Option Target) (cells : Option Data) (one other : Option CodecOptions) → OptionsAlike one other → Alike (write_by path target cells one) (write_by path target cells other)
write_alike None target cells one other are = (false, refl)
write_alike (Some p) None cells one other are = (false, refl)
write_alike (Some p) (Some meant) None one other are = (false, refl)
write_alike (Some p) (Some meant) (Some c) one other are = asked_alike (λ o. write p meant (given_json c) o) (λ workers o. refl) one other are

abbrev read_by : Option (List ℕ) → Option Target → Option CodecOptions → Option Request
read_by path target options = option_and_then (λ p. option_and_then (λ meant. option_map (λ o. read p meant o) options) target) path

read_alike : (path : Option (List ℕ)) (target : Option Target) (one other : Option CodecOptions) → OptionsAlike one other → Alike (read_by path target one) (read_by path target other)
read_alike None target one other are = (false, refl)
read_alike (Some p) None one other are = (false, refl)
read_alike (Some p) (Some meant) one other are = asked_alike (λ o. read p meant o) (λ workers o. refl) one other are

abbrev compact_by : Option (List ℕ) → Option (List ℕ) → Option CodecOptions → Option Request
compact_by path chunk options = option_and_then (λ p. option_and_then (λ c. option_map (λ o. compact p c o) options) chunk) path

compact_alike : (path chunk : Option (List ℕ)) (one other : Option CodecOptions) → OptionsAlike one other → Alike (compact_by path chunk one) (compact_by path chunk other)
compact_alike None chunk one other are = (false, refl)
compact_alike (Some p) None one other are = (false, refl)
compact_alike (Some p) (Some c) one other are = asked_alike (λ o. compact p c o) (λ workers o. refl) one other are

abbrev rewrite_by : Option (List ℕ) → Option CodecOptions → Option Request
rewrite_by path options = option_and_then (λ p. option_map (λ o. rewrite p o) options) path

rewrite_alike : (path : Option (List ℕ)) (one other : Option CodecOptions) → OptionsAlike one other → Alike (rewrite_by path one) (rewrite_by path other)
rewrite_alike None one other are = (false, refl)
rewrite_alike (Some p) one other are = asked_alike (λ o. rewrite p o) (λ workers o. refl) one other are

-- those without options

abbrev create_by : Option (List ℕ) → Option Data → Option SubchunkWriteOrder → Option Request
create_by path document order = option_and_then (λ p. option_and_then (λ d. option_map (λ o. create p d o) order) document) path

create_alike : (path : Option (List ℕ)) (document : Option Data) (order : Option SubchunkWriteOrder) → Alike (create_by path document order) (create_by path document order)
create_alike None document order = (false, refl)
create_alike (Some p) None order = (false, refl)
create_alike (Some p) (Some d) None = (false, refl)
create_alike (Some p) (Some d) (Some o) = (false, refl)

abbrev reopen_by : Option (List ℕ) → Option SubchunkWriteOrder → Option Request
reopen_by path order = option_and_then (λ p. option_map (λ o. reopen p o) order) path

reopen_alike : (path : Option (List ℕ)) (order : Option SubchunkWriteOrder) → Alike (reopen_by path order) (reopen_by path order)
reopen_alike None order = (false, refl)
reopen_alike (Some p) None = (false, refl)
reopen_alike (Some p) (Some o) = (false, refl)

abbrev erase_by : Option (List ℕ) → Option Region → Option Request
erase_by path chunks = option_and_then (λ p. option_map (λ c. erase p c) chunks) path

erase_alike : (path : Option (List ℕ)) (chunks : Option Region) → Alike (erase_by path chunks) (erase_by path chunks)
erase_alike None chunks = (false, refl)
erase_alike (Some p) None = (false, refl)
erase_alike (Some p) (Some c) = (false, refl)

-- ---- lines

by_alike : (a b : Bool) (operation : Operation) (ms : Members) → Alike (request_by a operation ms) (request_by b operation ms)
by_alike a b Create ms = create_alike (path_of ms) (get_member (codes "document") ms) (order_of ms)
by_alike a b Reopen ms = reopen_alike (path_of ms) (order_of ms)
by_alike a b WriteBox ms = write_alike (path_of ms) (option_map in_box (box_of ms)) (get_member (codes "cells") ms) (line_options_of a ms) (line_options_of b ms) (line_alike a b ms)
by_alike a b WriteChunk ms = write_alike (path_of ms) (option_map in_chunk (chunk_of ms)) (get_member (codes "cells") ms) (line_options_of a ms) (line_options_of b ms) (line_alike a b ms)
by_alike a b ReadBox ms = read_alike (path_of ms) (option_map in_box (box_of ms)) (line_options_of a ms) (line_options_of b ms) (line_alike a b ms)
by_alike a b ReadChunk ms = read_alike (path_of ms) (option_map in_chunk (chunk_of ms)) (line_options_of a ms) (line_options_of b ms) (line_alike a b ms)
by_alike a b EraseChunks ms = erase_alike (path_of ms) (box_of ms)
by_alike a b Compact ms = compact_alike (path_of ms) (chunk_of ms) (line_options_of a ms) (line_options_of b ms) (line_alike a b ms)
by_alike a b Rewrite ms = rewrite_alike (path_of ms) (line_options_of a ms) (line_options_of b ms) (line_alike a b ms)

if_alike : (only : Bool) (one other : Option Request) → Alike one other → Alike (if only then one else None) (if only then other else None)
if_alike false one other are = (false, refl)
if_alike true one other are = are

operation_alike : (a b : Bool) (operation : Option Operation) (ms : Members)
    → Alike (option_and_then (λ o. if has_only (field_names o) ms then request_by a o ms else None) operation) (option_and_then (λ o. if has_only (field_names o) ms then request_by b o ms else None) operation)
operation_alike a b None ms = (false, refl)
operation_alike a b (Some o) ms = if_alike (has_only (field_names o) ms) (request_by a o ms) (request_by b o ms) (by_alike a b o ms)

request_alike : (a b : Bool) (ms : Option Members) → Alike (option_and_then (request_of a) ms) (option_and_then (request_of b) ms)
request_alike a b None = (false, refl)
request_alike a b (Some ms) = operation_alike a b (operation_of ms) ms

json_alike : (a b : Bool) (d : Option Data) → Alike (option_and_then (request_in a) d) (option_and_then (request_in b) d)
json_alike a b None = (false, refl)
json_alike a b (Some d) = request_alike a b (as_object d)

-- what a line asks with one value of `workers`, it asks with any other, but for this value
pub says_alike : (a b : Bool) (line : List ℕ) (said : Option Request) → SaysWith a line said → (workers : Bool) × SaysWith b line (option_map (with_workers workers) said)
says_alike a b line None says = (false, λ utf8. let are = json_alike a b (json_of line) in are.1 ∙ ap (option_map (with_workers are.0)) (says utf8))
says_alike a b line (Some request) says = let are = json_alike a b (json_of line) in (are.0, (says.0, are.1 ∙ ap (option_map (with_workers are.0)) says.1))
