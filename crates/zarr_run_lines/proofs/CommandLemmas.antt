-- Lines that are commands, and those that are none.
use Rattle.std.proofs.Common.{◌≡◌, ℕ, List, [], ◌∷◌, ◌++◌, Bool, false, Option, Some, None, option_map, Result, Ok, Err, OnOk, OnErr, IfErr, is_ok, if◌then◌else◌, codes, refl, sym, ap, ◌∙◌, subst, inl}
use Rattle.serde_json.specs.Written.{compact_text}
use Rattle.zarr_codecs_meaning.specs.Chains.{ByteCodec}
use Rattle.zarr_codecs_meaning.specs.Types.{DataType}
use Rattle.zarr_codecs_metadata.specs.Chains.{ReadsCodecs}
use Rattle.zarr_run_commands.specs.Answers.{answer_json}
use Rattle.zarr_run_commands.specs.Lines.{SaysWith}
use Rattle.zarr_run_commands.proofs.Workers.{says_alike}
use Rattle.zarr_array_meaning.specs.StoreMaps.{StoreMap}
use Rattle.zarr_run_meaning.specs.Requests.{Request, Answer, over_store, path_of}
use Rattle.zarr_run_meaning.specs.Steps.{Step}
use Rattle.zarr_run_meaning.specs.Workers.{with_workers}
use Rattle.zarr_run_meaning.specs.Worlds.{Held, World, held_at}
use Rattle.zarr_run_meaning.proofs.Workers.{workers_alike, path_with, over_with}
use Rattle.zarr_run_opening.specs.Sessions.{Agrees, State, IsIn, array_at, document_of}
use Rattle.zarr_run_opening.specs.declared.held.HeldArray.{HeldArray}
use Rattle.zarr_run_lines.specs.declared.lines.LinesFault.{LinesFault}
use Rattle.zarr_run_lines.specs.declared.lines.LinesFault.TheVariants.{Read}
use Rattle.zarr_run_lines.specs.Lines.{lines_of, type_at, Setting, LineStep, Answers, Leaves, StandsAfterSome, output}
use Rattle.zarr_run_lines.specs.Sessions.{LeadsTo}

-- an array and what the world holds have the same data type
types-agree : {B : Type 0} (meaning : B → ByteCodec) (reads : ReadsCodecs) (store : StoreMap) (array : Option (HeldArray B)) (held : Option Held) → Agrees meaning reads store array held
    → option_map (λ (a : HeldArray B). (document_of meaning a).elements.type) array ≡ option_map (λ (h : Held). h.document.elements.type) held
types-agree meaning reads store None None agree = refl
types-agree meaning reads store None (Some h) agree = absurd agree
types-agree meaning reads store (Some a) None agree = absurd agree
types-agree meaning reads store (Some a) (Some h) agree = ap (λ d. Some d.elements.type) (sym agree.document)

-- a state and a world have the same data type at a path
pub same-type : {B : Type 0} (meaning : B → ByteCodec) (reads : ReadsCodecs) (state : State B) (world : World) (request : Request) (path : List ℕ) (type : Option DataType) → IsIn meaning reads state world
    → path ≡ path_of request → type ≡ option_map (λ (a : HeldArray B). (document_of meaning a).elements.type) (array_at state.0 path) → type ≡ type_at world request
same-type meaning reads state world request path type is at e =
    e ∙ types-agree meaning reads state.1.0 (array_at state.0 path) (held_at path world.arrays) (is.agree path) ∙ ap (λ p. option_map (λ h. h.document.elements.type) (held_at p world.arrays)) at

-- what a command does is what its line does, whatever `workers` is where the line doesn't say it
pub step-line : (workers : Bool) (setting : Setting) (line : List ℕ) (request : Request) (answer : Answer) (type : Option DataType) (old new : World) → SaysWith workers line (Some request)
    → Step setting.0 old (over_store setting.1 request) answer new → type ≡ type_at new request → LineStep setting old line (compact_text (answer_json type answer)) new
step-line workers setting line request answer type old new says step e =
    let said = says_alike workers false line (Some request) says in
    let other = with_workers said.0 request in
    let turned = workers_alike setting.0 old new (over_store setting.1 request) answer said.0 step in
    let steps = subst (λ r. Step setting.0 old r answer new) (over_with setting.1 said.0 request) turned in
    let same : type_at new request ≡ type_at new other = ap (λ p. option_map (λ h. h.document.elements.type) (held_at p new.arrays)) (sym (path_with said.0 request)) in
    (Some other, said.1, (answer, steps, ap (λ t. compact_text (answer_json t answer)) (e ∙ same)))

-- nothing was done
pub left-alone : {B : Type 0} (meaning : B → ByteCodec) (setting : Setting) (state : State B) (line : List ℕ) → LeadsTo meaning setting.0 state state (λ old new. Leaves setting old line new)
left-alone meaning setting state line old is = (old, is, inl refl)

-- a fault line
pub no-command : {B T E : Type 0} (meaning : B → ByteCodec) (setting : Setting) (r : Result T E) (state : State B) (workers : Bool) (line pending pending' : List ℕ) → SaysWith workers line None
    → pending' ≡ (if is_ok r then pending ++ (codes "{\"fault\":\"line\"}" ++ 10 ∷ []) else pending) → OnOk r (LeadsTo meaning setting.0 state state (Answers setting line (output (Some pending) (Some pending'))))
no-command meaning setting (Ok x) state workers line pending pending' says grew = λ old is. (old, is, (codes "{\"fault\":\"line\"}", (None, (says_alike workers false line None says).1, (refl, refl)), grew))
no-command meaning setting (Err e) state workers line pending pending' says grew = tt

-- no line was run
pub none-run : {B : Type 0} (meaning : B → ByteCodec) (setting : Setting) (state : State B) (input : Option (List ℕ)) → LeadsTo meaning setting.0 state state (StandsAfterSome setting input)
none-run meaning setting state None old is = (old, is, ([], [], (refl, refl), tt))
none-run meaning setting state (Some text) old is = (old, is, ([], [], (refl, refl), (lines_of text, refl)))

-- ---- outcomes

-- a state that a fault leaves
pub on-fault : {B T E : Type 0} (meaning : B → ByteCodec) (reads : ReadsCodecs) (r : Result T E) (old new : State B) (are : World → World → Type 0) → LeadsTo meaning reads old new are → OnErr r (LeadsTo meaning reads old new are)
on-fault meaning reads (Ok x) old new are leads = tt
on-fault meaning reads (Err e) old new are leads = leads

-- a state that a fault in reading leaves
pub on-read : {B T : Type 0} (meaning : B → ByteCodec) (reads : ReadsCodecs) (r : Result T LinesFault) (old new : State B) (are : World → World → Type 0) → LeadsTo meaning reads old new are
    → IfErr r (λ fault. fault ≡ Read → LeadsTo meaning reads old new are)
on-read meaning reads (Ok x) old new are leads = tt
on-read meaning reads (Err e) old new are leads = λ read. leads
