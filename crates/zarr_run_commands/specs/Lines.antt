-- The lines that are commands.
use Rattle.std.specs.Prelude.{◌≡◌, ℕ, ◌-◌, List, [], ◌∷◌, Bool, false, bytes_eq, codes, if◌then◌else◌, Option, Some, None, option_map, option_and_then, IsUtf8}
use Rattle.serde_json.specs.Data.{Data, Items, no_items, item, Members}
use Rattle.serde_json.specs.Find.{get_member, as_bool, as_number, as_u64, as_str, as_array, as_object}
use Rattle.serde_json.specs.Read.{read as json_of}
use Rattle.zarr_grids_boxes.specs.Boxes.{Region}
use Rattle.zarr_codecs_types.specs.Given.{given_json}
use Rattle.zarr_codecs_options.specs.declared.codec_options.CodecOptions.{CodecOptions}
use Rattle.zarr_codecs_options.specs.declared.subchunk_write_order.SubchunkWriteOrder.{SubchunkWriteOrder}
use Rattle.zarr_codecs_options.specs.declared.subchunk_write_order.SubchunkWriteOrder.TheVariants.{Random, C, Unordered}
use Rattle.zarr_grids_metadata.specs.Members.{has_only}
use Rattle.zarr_grids_configurations.specs.Numbers.{sizes_in}
use Rattle.zarr_run_meaning.specs.Requests.{Target, in_box, in_chunk, Request, create, reopen, write, read, erase, compact, rewrite}
use Rattle.zarr_run_commands.specs.declared.operation.Operation.{Operation}
use Rattle.zarr_run_commands.specs.declared.operation.Operation.TheVariants.{Create, Reopen, WriteBox, WriteChunk, ReadBox, ReadChunk, EraseChunks, Compact, Rewrite}

-- ---- fields of an object

-- what the field with this name says; a missing one says nothing
abbrev pub needed : {A : Type 0} → (Data → Option A) → List ℕ → Members → Option A
needed says name ms = option_and_then says (get_member name ms)

-- what a field says, or the default where it is absent
abbrev pub said_or : {A : Type 0} → (Data → Option A) → A → Option Data → Option A
said_or says absent None = Some absent
said_or says absent (Some d) = says d

-- what the field with this name says, or the default where it is absent
abbrev pub optional : {A : Type 0} → (Data → Option A) → A → List ℕ → Members → Option A
optional says absent name ms = said_or says absent (get_member name ms)

-- ---- the parts of a command

-- the write order with this name
abbrev pub order_named : List ℕ → Option SubchunkWriteOrder
order_named name =
    if bytes_eq name (codes "C") then Some C else
    (if bytes_eq name (codes "Unordered") then Some Unordered else
    (if bytes_eq name (codes "Random") then Some Random else None))

-- the write order that a JSON value says
abbrev pub order_in : Data → Option SubchunkWriteOrder
order_in d = option_and_then order_named (as_str d)

-- the options' names
abbrev pub option_names : List (List ℕ)
option_names = codes "partial" ∷ codes "empty" ∷ codes "workers" ∷ []

-- the option with this name, false where it is absent
abbrev pub flag : List ℕ → Members → Option Bool
flag = optional as_bool false

-- the options that an object's members say, with this value of `workers` where they don't say it
abbrev pub options_of : Bool → Members → Option CodecOptions
options_of workers ms =
    if has_only option_names ms then
    option_and_then (λ partial. option_and_then (λ empty. option_map (λ said.
    record { store_empty_chunks = empty; experimental_partial_encoding = partial; workers = said })
    (optional as_bool workers (codes "workers") ms)) (flag (codes "empty") ms)) (flag (codes "partial") ms)
    else None

-- the options that a JSON value says
abbrev pub options_in : Bool → Data → Option CodecOptions
options_in workers d = option_and_then (options_of workers) (as_object d)

-- with no options given, all are false but `workers`, which has this value
abbrev pub no_options : Bool → CodecOptions
no_options workers = record { store_empty_chunks = false; experimental_partial_encoding = false; workers = workers }

-- the whole number that a JSON value says
abbrev pub number_in : Data → Option ℕ
number_in d = option_and_then as_u64 (as_number d)

-- the start and the length of an interval
abbrev pub Interval : Type 0
Interval = ℕ × ℕ

-- the interval of a pair [start, end]; it is empty where the start is after the end
abbrev pub interval_of : Items → Option Interval
interval_of (item start (item end no_items)) = option_and_then (λ s. option_map (λ e. (s, e - s)) (number_in end)) (number_in start)
interval_of _ = None

-- the interval that a JSON value says
abbrev pub interval_in : Data → Option Interval
interval_in d = option_and_then interval_of (as_array d)

-- a box with one more dimension, which comes first
abbrev pub with_dimension : Interval → Region → Region
with_dimension interval region = record { start = interval.0 ∷ region.start; shape = interval.1 ∷ region.shape }

-- the box of a list of pairs
abbrev pub region_of_pairs : Items → Option Region
region_of_pairs no_items = Some (record { start = []; shape = [] })
region_of_pairs (item d ds) = option_and_then (λ interval. option_map (with_dimension interval) (region_of_pairs ds)) (interval_in d)

-- the box that a JSON value says
abbrev pub region_in : Data → Option Region
region_in d = option_and_then region_of_pairs (as_array d)

-- ---- commands

-- the operation with this name
abbrev pub operation_named : List ℕ → Option Operation
operation_named name =
    if bytes_eq name (codes "create") then Some Create else
    (if bytes_eq name (codes "reopen") then Some Reopen else
    (if bytes_eq name (codes "write_box") then Some WriteBox else
    (if bytes_eq name (codes "write_chunk") then Some WriteChunk else
    (if bytes_eq name (codes "read_box") then Some ReadBox else
    (if bytes_eq name (codes "read_chunk") then Some ReadChunk else
    (if bytes_eq name (codes "erase_chunks") then Some EraseChunks else
    (if bytes_eq name (codes "compact") then Some Compact else
    (if bytes_eq name (codes "rewrite") then Some Rewrite else None))))))))

-- the fields that a line with this operation may have
abbrev pub field_names : Operation → List (List ℕ)
field_names Create = codes "op" ∷ codes "path" ∷ codes "document" ∷ codes "order" ∷ []
field_names Reopen = codes "op" ∷ codes "path" ∷ codes "order" ∷ []
field_names WriteBox = codes "op" ∷ codes "path" ∷ codes "box" ∷ codes "cells" ∷ codes "options" ∷ []
field_names WriteChunk = codes "op" ∷ codes "path" ∷ codes "chunk" ∷ codes "cells" ∷ codes "options" ∷ []
field_names ReadBox = codes "op" ∷ codes "path" ∷ codes "box" ∷ codes "options" ∷ []
field_names ReadChunk = codes "op" ∷ codes "path" ∷ codes "chunk" ∷ codes "options" ∷ []
field_names EraseChunks = codes "op" ∷ codes "path" ∷ codes "box" ∷ []
field_names Compact = codes "op" ∷ codes "path" ∷ codes "chunk" ∷ codes "options" ∷ []
field_names Rewrite = codes "op" ∷ codes "path" ∷ codes "options" ∷ []

-- the operation that an object's members say
abbrev pub operation_of : Members → Option Operation
operation_of = needed (λ d. option_and_then operation_named (as_str d)) (codes "op")

-- the node path that the members say
abbrev pub path_of : Members → Option (List ℕ)
path_of = needed as_str (codes "path")

-- the write order that the members say, `Unordered` where they have none
abbrev pub order_of : Members → Option SubchunkWriteOrder
order_of = optional order_in Unordered (codes "order")

-- the box that the members say
abbrev pub box_of : Members → Option Region
box_of = needed region_in (codes "box")

-- the chunk whose indices the members say: a list of whole numbers
abbrev pub chunk_of : Members → Option (List ℕ)
chunk_of = needed sizes_in (codes "chunk")

-- the options that the members say; a flag that they don't say is false, but `workers`, which has this value
abbrev pub line_options_of : Bool → Members → Option CodecOptions
line_options_of workers = optional (options_in workers) (no_options workers) (codes "options")

-- what the members ask to be written to this target
abbrev pub write_of : Bool → Option Target → Members → Option Request
write_of workers target ms =
    option_and_then (λ path. option_and_then (λ meant. option_and_then (λ cells. option_map (λ options. write path meant (given_json cells) options)
    (line_options_of workers ms)) (get_member (codes "cells") ms)) target) (path_of ms)

-- what the members ask to be read of this target
abbrev pub read_of : Bool → Option Target → Members → Option Request
read_of workers target ms =
    option_and_then (λ path. option_and_then (λ meant. option_map (λ options. read path meant options)
    (line_options_of workers ms)) target) (path_of ms)

-- what the members ask by this operation, with this value of `workers` where they don't say it
abbrev pub request_by : Bool → Operation → Members → Option Request
request_by workers Create ms =
    option_and_then (λ path. option_and_then (λ document. option_map (λ order. create path document order)
    (order_of ms)) (get_member (codes "document") ms)) (path_of ms)
request_by workers Reopen ms = option_and_then (λ path. option_map (λ order. reopen path order) (order_of ms)) (path_of ms)
request_by workers WriteBox ms = write_of workers (option_map in_box (box_of ms)) ms
request_by workers WriteChunk ms = write_of workers (option_map in_chunk (chunk_of ms)) ms
request_by workers ReadBox ms = read_of workers (option_map in_box (box_of ms)) ms
request_by workers ReadChunk ms = read_of workers (option_map in_chunk (chunk_of ms)) ms
request_by workers EraseChunks ms = option_and_then (λ path. option_map (λ chunks. erase path chunks) (box_of ms)) (path_of ms)
request_by workers Compact ms = option_and_then (λ path. option_and_then (λ chunk. option_map (λ options. compact path chunk options) (line_options_of workers ms)) (chunk_of ms)) (path_of ms)
request_by workers Rewrite ms = option_and_then (λ path. option_map (λ options. rewrite path options) (line_options_of workers ms)) (path_of ms)

-- what the members ask; a field that the operation does not have is refused
abbrev pub request_of : Bool → Members → Option Request
request_of workers ms = option_and_then (λ operation. if has_only (field_names operation) ms then request_by workers operation ms else None) (operation_of ms)

-- what a JSON value asks
abbrev pub request_in : Bool → Data → Option Request
request_in workers d = option_and_then (request_of workers) (as_object d)

-- what a line asks, or nothing, with this value of `workers` where the line doesn't say it: it is UTF-8 and its JSON asks this
abbrev pub SaysWith : Bool → List ℕ → Option Request → Type 0
SaysWith workers line None = IsUtf8 line → option_and_then (request_in workers) (json_of line) ≡ None
SaysWith workers line (Some request) = IsUtf8 line × (option_and_then (request_in workers) (json_of line) ≡ Some request)

-- what a line asks, or nothing: it is UTF-8 and its JSON asks this; `workers` is false where the line doesn't say it
abbrev pub Says : List ℕ → Option Request → Type 0
Says = SaysWith false
