-- The texts of answers are the compact texts of their JSON.
use Rattle.std.proofs.Common.{◌≡◌, ℕ, List, ◌++◌, codes, true, false, Option, Some, None, refl}
use Rattle.serde_json.specs.Data.{Items, array}
use Rattle.serde_json.specs.Written.{compact_text}
use Rattle.serde_json.proofs.OnLiterals.{serde_json_on_literals}
use Rattle.zarr_codecs_meaning.specs.Payloads.{Payload}
use Rattle.zarr_codecs_meaning.specs.Types.{DataType}
use Rattle.zarr_codecs_json.specs.Outcomes.{payload_data, Prints, IsPrinted}
use Rattle.zarr_codecs_json.specs.declared.printing.Printed.{Printed}
use Rattle.zarr_codecs_json.specs.declared.printing.Printed.TheVariants as printed
use Rattle.zarr_run_meaning.specs.Requests.{done, cells, refused}
use Rattle.zarr_run_meaning.specs.declared.cause.Cause.{Cause}
use Rattle.zarr_run_meaning.specs.declared.cause.Cause.TheVariants as cause
use Rattle.zarr_run_commands.specs.Answers.{answer_json, compacted_json, fault_json}
use Rattle.zarr_run_commands.specs.Texts.{refusal_text}

pub done_answer : (type : Option DataType) → compact_text (answer_json type done) ≡ codes "{\"done\":true}"
unfolding serde_json_on_literals
done_answer type = refl

pub fault_answer : compact_text (fault_json (codes "text")) ≡ codes "{\"fault\":\"text\"}"
unfolding serde_json_on_literals
fault_answer = refl

pub changed_answer : compact_text (compacted_json true) ≡ codes "{\"compacted\":true}"
unfolding serde_json_on_literals
changed_answer = refl

pub unchanged_answer : compact_text (compacted_json false) ≡ codes "{\"compacted\":false}"
unfolding serde_json_on_literals
unchanged_answer = refl

-- cells with this text are answered as they are
pub cells_answer : (type : DataType) (payload : Payload) (items : Items) → payload_data type payload ≡ Some items
    → compact_text (answer_json (Some type) (cells payload)) ≡ codes "{\"cells\":" ++ (compact_text (array items) ++ codes "}")
unfolding serde_json_on_literals
cells_answer type payload items are = rw are refl

-- cells without a text are answered with a fault
pub no_text_answer : (type : DataType) (payload : Payload) → payload_data type payload ≡ None → compact_text (answer_json (Some type) (cells payload)) ≡ compact_text (fault_json (codes "text"))
no_text_answer type payload none = rw none refl

-- what was printed where all was
pub whole_printed : (type : DataType) (payload : Payload) (before text : List ℕ) (p : Printed) → Prints type payload before text p → p ≡ printed.Whole → IsPrinted type payload before text
whole_printed type payload before text p prints is = rw is at prints

-- where nothing was printed the text is what it was
pub none_appended : (type : DataType) (payload : Payload) (before text : List ℕ) (p : Printed) → Prints type payload before text p → p ≡ printed.NoText → text ≡ before
none_appended type payload before text p prints is = (rw is at prints).1

-- where nothing was printed, there was nothing to be printed
pub none_printed : (type : DataType) (payload : Payload) (before text : List ℕ) (p : Printed) → Prints type payload before text p → p ≡ printed.NoText → payload_data type payload ≡ None
none_printed type payload before text p prints is = (rw is at prints).0

pub refused_answer : (type : Option DataType) (c : Cause) (applied : ℕ) → compact_text (answer_json type (refused c applied)) ≡ refusal_text c applied
unfolding serde_json_on_literals
refused_answer type cause.Path applied = refl
refused_answer type cause.PathTaken applied = refl
refused_answer type cause.NoArray applied = refl
refused_answer type cause.Document applied = refl
refused_answer type cause.Region applied = refl
refused_answer type cause.Data applied = refl
refused_answer type cause.Size applied = refl
refused_answer type cause.Fit applied = refl
refused_answer type cause.Codec applied = refl
refused_answer type cause.Store applied = refl
refused_answer type cause.Damage applied = refl
refused_answer type cause.Memory applied = refl
refused_answer type cause.DocumentChanged applied = refl
