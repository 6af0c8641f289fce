-- Lines of commands, and lines of answers.
use Rattle.std.specs.Prelude.{◌≡◌, ◌⊎◌, ℕ, ◌^◌, ◌≤◌, Bool, length, List, [], ◌∷◌, ◌++◌, codes, Option, Some, None, IfSome, option_map, if◌then◌else◌, ◌==◌}
use Rattle.std.specs.Io.KnownBytes.{Appends}
use Rattle.serde_json.specs.Written.{compact_text}
use Rattle.zarr_codecs_meaning.specs.Types.{DataType}
use Rattle.zarr_codecs_metadata.specs.Chains.{ReadsCodecs}
use Rattle.zarr_run_meaning.specs.Requests.{Request, Answer, over_store, path_of}
use Rattle.zarr_run_meaning.specs.Worlds.{World, held_at}
use Rattle.zarr_run_meaning.specs.Steps.{Step}
use Rattle.zarr_run_commands.specs.Lines.{Says}
use Rattle.zarr_run_commands.specs.Answers.{answer_json}

-- a byte before the first of some lines
abbrev pub onto_first : ℕ → List (List ℕ) → List (List ℕ)
onto_first x [] = (x ∷ []) ∷ []
onto_first x (line ∷ lines) = (x ∷ line) ∷ lines

-- the lines of a text, without their line feeds. A last line without one counts if it is not empty
abbrev pub lines_of : List ℕ → List (List ℕ)
lines_of [] = []
lines_of (x ∷ xs) = if x == 10 then [] ∷ lines_of xs else onto_first x (lines_of xs)

-- the data type of the array that is held at a request's path, if there is one
abbrev pub type_at : World → Request → Option DataType
type_at world request = option_map (λ h. h.document.elements.type) (held_at (path_of request) world.arrays)

-- what a session runs lines with: which codecs metadata says, and whether its store takes ranges of a value
abbrev pub Setting : Type 0
Setting = ReadsCodecs × Bool

-- what a line does: its command, as it is run over the store; or one that asks nothing is a fault line and changes nothing
abbrev pub LineDoes : Setting → World → Option Request → List ℕ → World → Type 0
LineDoes setting old None text new = (text ≡ codes "{\"fault\":\"line\"}") × (new ≡ old)
LineDoes setting old (Some request) text new = (answer : Answer) × Step setting.0 old (over_store setting.1 request) answer new × (text ≡ compact_text (answer_json (type_at new request) answer))

-- from old, a line may have this answer and lead to new
abbrev pub LineStep : Setting → World → List ℕ → List ℕ → World → Type 0
LineStep setting old line text new = (said : Option Request) × Says line said × LineDoes setting old said text new

-- the bytes that an output has before and after, if they are known
pub record Output : Type 0 where
  pub before : Option (List ℕ)
  pub after : Option (List ℕ)

-- an output that has the first bytes before and the others after
abbrev pub output : Option (List ℕ) → Option (List ℕ) → Output
output before after = record { before = before; after = after }

-- from old, a line may lead to new and have the answer whose line was appended to what was there before
abbrev pub Answers : Setting → List ℕ → Output → World → World → Type 0
Answers setting line written old new = (text : List ℕ) × LineStep setting old line text new × Appends written.before written.after (text ++ 10 ∷ [])

-- a line that was not answered left the world alone or has run
abbrev pub Leaves : Setting → World → List ℕ → World → Type 0
Leaves setting old line new = (new ≡ old) ⊎ ((text : List ℕ) × LineStep setting old line text new)

-- the lines one after another, each answer with a line feed
abbrev pub RunsLines : Setting → List (List ℕ) → World → World → List ℕ → Type 0
RunsLines setting [] old new out = (new ≡ old) × (out ≡ [])
RunsLines setting (line ∷ lines) old new out = (text : List ℕ) × (rest : List ℕ) × (mid : World) × LineStep setting old line text mid × RunsLines setting lines mid new rest × (out ≡ text ++ 10 ∷ rest)

-- some lines were run; where the input is known, they are the first of its lines
abbrev pub StandsAfterSome : Setting → Option (List ℕ) → World → World → Type 0
StandsAfterSome setting input old new = (done : List (List ℕ)) × (out : List ℕ) × RunsLines setting done old new out
    × IfSome input (λ text. (left : List (List ℕ)) × (lines_of text ≡ done ++ left))

-- some lines were run and all their answers written after what there was; where the input is known, they are the first of its lines
abbrev pub RunsSome : Setting → Option (List ℕ) → Output → World → World → Type 0
RunsSome setting input written old new = (done : List (List ℕ)) × (out : List ℕ) × RunsLines setting done old new out × Appends written.before written.after out
    × IfSome input (λ text. (left : List (List ℕ)) × (lines_of text ≡ done ++ left))

-- lines were run and their answers written after what there was; where the input is known, they are all its lines
abbrev pub RunsAll : Setting → Option (List ℕ) → Output → World → World → Type 0
RunsAll setting input written old new = (done : List (List ℕ)) × (out : List ℕ) × RunsLines setting done old new out × Appends written.before written.after out
    × IfSome input (λ text. lines_of text ≡ done)

-- at most 2^32 bytes and 2^20 lines
abbrev pub IsWithinLimits : List ℕ → Type 0
IsWithinLimits text = (length text ≤ 2 ^ 32) × (length (lines_of text) ≤ 2 ^ 20)
