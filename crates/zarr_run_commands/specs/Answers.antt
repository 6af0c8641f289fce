-- Answers as JSON (this project's profile).
use Rattle.std.specs.Prelude.{ℕ, List, codes, Bool, true, Option, option_map, option_and_then, unwrap_or}
use Rattle.serde_json.specs.Data.{Data, boolean, number, unsigned, string, array, object, no_members, member}
use Rattle.zarr_codecs_json.specs.Outcomes.{payload_data}
use Rattle.zarr_codecs_meaning.specs.Payloads.{Payload}
use Rattle.zarr_codecs_meaning.specs.Types.{DataType}
use Rattle.zarr_run_meaning.specs.Requests.{Answer, done, cells, compacted, refused}
use Rattle.zarr_run_meaning.specs.declared.cause.Cause.{Cause}
use Rattle.zarr_run_meaning.specs.declared.cause.Cause.TheVariants as cause

-- the name of a cause
abbrev pub cause_name : Cause → List ℕ
cause_name cause.Path = codes "Path"
cause_name cause.PathTaken = codes "PathTaken"
cause_name cause.NoArray = codes "NoArray"
cause_name cause.Document = codes "Document"
cause_name cause.Region = codes "Region"
cause_name cause.Data = codes "Data"
cause_name cause.Size = codes "Size"
cause_name cause.Fit = codes "Fit"
cause_name cause.Codec = codes "Codec"
cause_name cause.Store = codes "Store"
cause_name cause.Damage = codes "Damage"
cause_name cause.Memory = codes "Memory"
cause_name cause.DocumentChanged = codes "DocumentChanged"

-- a fault as JSON
abbrev pub fault_json : List ℕ → Data
fault_json name = object (member (codes "fault") (string name) no_members)

-- the cells of an array of this type as JSON; None where one of them is no value or has no text, or where no type is known
abbrev pub cells_json : Option DataType → Payload → Option Data
cells_json type payload = option_map (λ items. object (member (codes "cells") (array items) no_members)) (option_and_then (λ known. payload_data known payload) type)

-- whether a compaction changed something, as JSON
abbrev pub compacted_json : Bool → Data
compacted_json changed = object (member (codes "compacted") (boolean changed) no_members)

-- an answer as JSON, where cells have this type
abbrev pub answer_json : Option DataType → Answer → Data
answer_json type done = object (member (codes "done") (boolean true) no_members)
answer_json type (cells payload) = unwrap_or (cells_json type payload) (fault_json (codes "text"))
answer_json type (compacted changed) = compacted_json changed
answer_json type (refused c applied) = object (member (codes "applied") (number (unsigned applied)) (member (codes "refused") (string (cause_name c)) no_members))
