-- The same commands on boxes of two arrays.
use Rattle.std.proofs.Common.{◌≡◌, ◌∙◌, ◌⊎◌, inl, inr, ⊎_elim, ℕ, zero, suc, Bool, true, false, if◌then◌else◌, List, [], ◌∷◌, length, map, refl, sym, ap, subst, Option, Some}
use Rattle.std.specs.Prelude.{All, ◌||◌}
use Rattle.std.proofs.lemmas.Bool.{false≢true}
use Rattle.std.proofs.lemmas.List.Elements.{All-nil, All-cons, All-head, All-tail, All-weaker}
use Rattle.zarr_grids_boxes.specs.Boxes.{Region, product, places, is_in_box}
use Rattle.zarr_grids_chunks.specs.Grids.{IsCovered, intersecting}
use Rattle.zarr_codecs_meaning.specs.Payloads.{Payload, cells_in}
use Rattle.zarr_codecs_meaning.specs.Types.{Cell, DataType}
use Rattle.zarr_codecs_meaning.proofs.Lists.{some_same, Each}
use Rattle.zarr_codecs_metadata.specs.Chains.{ReadsCodecs}
use Rattle.zarr_codecs_options.specs.declared.codec_options.CodecOptions.{CodecOptions}
use Rattle.zarr_codecs_types.specs.Given.{GivenCells, given_in}
use Rattle.zarr_array_meaning.specs.Boxes.{cell_of_box}
use Rattle.zarr_array_meaning.specs.StoreMaps.{StoreMap}
use Rattle.zarr_array_meaning.proofs.Showing.{each_inside}
use Rattle.zarr_run_meaning.specs.BoxLaws.{BoxCommand, read_box, write_box, box_of, lies_in_box_of, Asks, AskAll, IsAccepted, HaveOneAnswer, HaveSameAnswers, AreComparable, AreSameAt, AreSameWhereRead, AreHeldAlike, BoxesAlike, AreSameWhereCovered, HoldSameWhereCovered, AnsweredAlike}
use Rattle.zarr_run_meaning.specs.Changes.{Reads, Writes}
use Rattle.zarr_run_meaning.specs.Requests.{Target, in_box, Request, write, read, Answer, done, cells as gives, compacted, refused}
use Rattle.zarr_run_meaning.specs.Runs.{Run}
use Rattle.zarr_run_meaning.specs.Steps.{Step}
use Rattle.zarr_run_meaning.specs.Tables.{Table, cell, updated, changes, changes_in}
use Rattle.zarr_run_meaning.specs.Worlds.{Held, World, held_at}
use Rattle.zarr_run_meaning.proofs.BoxSteps.{target_covered, IsBoxRead, box_read, IsBoxWritten, box_written, box_cell, any_default, map_same}

-- ---- accepted commands

-- a read that is accepted
record ReadOf (path : List ℕ) (target : Target) (answer : Answer) (old new : World) : Type 0 where
  payload : Payload
  is : answer ≡ gives payload
  reads : Reads path target payload old
  stays : new ≡ old

accepted_read : (reads : ReadsCodecs) (path : List ℕ) (target : Target) (options : CodecOptions) (answer : Answer) (old new : World) → IsAccepted answer → Step reads old (read path target options) answer new → ReadOf path target answer old new
accepted_read reads path target options done old new a s = absurd s
accepted_read reads path target options (gives payload) old new a s = record { payload = payload; is = refl; reads = s.0; stays = s.1 }
accepted_read reads path target options (compacted changed) old new a s = absurd s
accepted_read reads path target options (refused c n) old new a s = absurd a

accepted_write : (reads : ReadsCodecs) (path : List ℕ) (target : Target) (given : GivenCells) (options : CodecOptions) (answer : Answer) (old new : World) → IsAccepted answer → Step reads old (write path target given options) answer new
    → (answer ≡ done) × Writes path (record { target = target; cells = given; options = options }) old new
accepted_write reads path target given options done old new a s = (refl, s.0)
accepted_write reads path target given options (gives payload) old new a s = absurd s
accepted_write reads path target given options (compacted changed) old new a s = absurd s
accepted_write reads path target given options (refused c n) old new a s = absurd a

-- what an accepted command is of an array
abbrev Does : Held → Answer → Option Held → BoxCommand → Type 0
Does h answer new (read_box region) = (payload : Payload) × (answer ≡ gives payload) × (store : StoreMap) × IsBoxRead h (in_box region) payload store × (new ≡ Some h)
Does h answer new (write_box region given) = (answer ≡ done) × IsBoxWritten h (in_box region) given new

does : (reads : ReadsCodecs) (path : List ℕ) (command : BoxCommand) (request : Request) (answer : Answer) (old new : World) (h : Held) → held_at path old.arrays ≡ Some h → Asks path command request → IsAccepted answer → Step reads old request answer new
    → Does h answer (held_at path new.arrays) command
does reads path (read_box region) request answer old new h found asks accepted s =
    let P : Request → Type 0 = λ r. Step reads old r answer new in
    let r = accepted_read reads path (in_box region) asks.0 answer old new accepted (subst P asks.1 s) in
    (r.payload, r.is, old.store, box_read path (in_box region) r.payload old h found r.reads, ap (λ (w : World). held_at path w.arrays) r.stays ∙ found)
does reads path (write_box region given) request answer old new h found asks accepted s =
    let P : Request → Type 0 = λ r. Step reads old r answer new in
    let w = accepted_write reads path (in_box region) given asks.0 answer old new accepted (subst P asks.1 s) in
    (w.0, box_written path (in_box region) given asks.0 old new h found w.1)

-- the array after it
after_command : (h : Held) (answer : Answer) (new : Option Held) (command : BoxCommand) → Does h answer new command → (table : Table) × (new ≡ Some (record h { table = table })) × IsCovered h.document.grid (box_of command)
after_command h answer new (read_box region) d = (h.table, d.4, d.3.is.1)
after_command h answer new (write_box region given) d = (updated h.document.elements.fill h.table (changes_in h.document.grid (intersecting h.document.grid d.1.box) (changes d.1.box d.1.values)), d.1.held, d.1.is.is.1)

-- ---- one command, two arrays

record StepAlike (h g : Held) (command : BoxCommand) (answer reply : Answer) (first second : Option Held) : Type 0 where
  answers : HaveOneAnswer h.document.elements.type answer reply
  table : Table
  other : Table
  held : first ≡ Some (record h { table = table })
  also : second ≡ Some (record g { table = other })
  same : (place : List ℕ) → AreSameAt h g place ⊎ (is_in_box (box_of command).start (box_of command).shape place ≡ true) → AreSameAt (record h { table = table }) (record g { table = other }) place

-- the cell after a write
written_cell : (h : Held) (region : Region) (given : GivenCells) (new : Option Held) (w : IsBoxWritten h (in_box region) given new) (place : List ℕ)
    → cell h.document.elements.fill (updated h.document.elements.fill h.table (changes_in h.document.grid (intersecting h.document.grid w.box) (changes w.box w.values))) place
    ≡ (if is_in_box region.start region.shape place then cell_of_box region w.values h.document.elements.fill place else cell h.document.elements.fill h.table place)
written_cell h region given new w place =
    box_cell h.document.grid h.document.elements.fill h.table w.box w.values place (target_covered h.document.grid (in_box region) w.box w.is.is) w.is.gives.1
    ∙ ap (λ (b : Region). if is_in_box b.start b.shape place then cell_of_box b w.values h.document.elements.fill place else cell h.document.elements.fill h.table place) w.is.is.0

step_alike : (h g : Held) (command : BoxCommand) (answer reply : Answer) (first second : Option Held) → AreComparable h g → AreSameWhereRead h g command → Does h answer first command → Does g reply second command
    → StepAlike h g command answer reply first second
step_alike h g (read_box region) answer reply first second c same a b = record {
  answers = let P : Answer → Type 0 = λ x. HaveOneAnswer h.document.elements.type x reply in
      let Q : Answer → Type 0 = λ x. HaveOneAnswer h.document.elements.type (gives a.0) x in
      subst P (sym a.1) (subst Q (sym b.1) one);
  table = h.table;
  other = g.table;
  held = a.4;
  also = b.4;
  same = λ place s. ⊎_elim (λ was. was) (λ i. same.1 place i) s;
} where
  values : a.3.values ≡ b.3.values
  values =
      a.3.table c.lossless ∙ ap (λ (r : Region). map (cell h.document.elements.fill h.table) (places r.start r.shape)) a.3.is.0
      ∙ map_same (cell h.document.elements.fill h.table) (cell g.document.elements.fill g.table) (places region.start region.shape)
      (each_inside (λ p. AreSameAt h g p) region.start region.shape same.0 same.1)
      ∙ sym (b.3.table c.also ∙ ap (λ (r : Region). map (cell g.document.elements.fill g.table) (places r.start r.shape)) b.3.is.0)

  one : cells_in h.document.elements.type a.0 ≡ cells_in h.document.elements.type b.0
  one = a.3.lists ∙ ap (λ (vs : List Cell). Some vs) values ∙ sym (ap (λ (type : DataType). cells_in type b.0) c.type ∙ b.3.lists)
step_alike h g (write_box region given) answer reply first second c same a b = record {
  answers = let P : Answer → Type 0 = λ x. HaveOneAnswer h.document.elements.type x reply in
      let Q : Answer → Type 0 = λ x. HaveOneAnswer h.document.elements.type done x in
      subst P (sym a.0) (subst Q (sym b.0) tt);
  table = updated h.document.elements.fill h.table (changes_in h.document.grid (intersecting h.document.grid a.1.box) (changes a.1.box a.1.values));
  other = updated g.document.elements.fill g.table (changes_in g.document.grid (intersecting g.document.grid b.1.box) (changes b.1.box b.1.values));
  held = a.1.held;
  also = b.1.held;
  same = λ place s. written_cell h region given first a.1 place ∙ either place (is_in_box region.start region.shape place) refl s ∙ sym (written_cell g region given second b.1 place);
} where
  values : a.1.values ≡ b.1.values
  values = some_same (sym a.1.is.gives.0 ∙ ap (λ (type : DataType). given_in type given) c.type ∙ b.1.is.gives.0)

  either : (place : List ℕ) (t : Bool) → is_in_box region.start region.shape place ≡ t → AreSameAt h g place ⊎ (is_in_box region.start region.shape place ≡ true)
      → (if t then cell_of_box region a.1.values h.document.elements.fill place else cell h.document.elements.fill h.table place) ≡ (if t then cell_of_box region b.1.values g.document.elements.fill place else cell g.document.elements.fill g.table place)
  either place true e s =
      ap (λ (vs : List Cell). cell_of_box region vs h.document.elements.fill place) values
      ∙ any_default region b.1.values place h.document.elements.fill g.document.elements.fill (b.1.is.gives.1 ∙ ap (λ (r : Region). product r.shape) b.1.is.is.0) e
  either place false e s = ⊎_elim (λ was. was) (λ i. absurd (false≢true (sym e ∙ i))) s

-- ---- a list of commands

still_same : (h g : Held) (table other : Table) → ((place : List ℕ) → AreSameAt h g place → AreSameAt (record h { table = table }) (record g { table = other }) place) → (command : BoxCommand) → AreSameWhereRead h g command
    → AreSameWhereRead (record h { table = table }) (record g { table = other }) command
still_same h g table other keeps (read_box region) same = (same.0, λ place i. keeps place (same.1 place i))
still_same h g table other keeps (write_box region given) same = tt

module _ (reads others : ReadsCodecs) (path away : List ℕ) where
  -- what two runs have in common
  abbrev RunsAlike : Held → Held → List BoxCommand → List Answer → List Answer → Option Held → Option Held → Type 0
  RunsAlike h g commands answers replies first second = HaveSameAnswers h.document.elements.type answers replies × AreHeldAlike h g commands first second

  -- one command more
  first_too : (h g : Held) (command : BoxCommand) (commands : List BoxCommand) (answer reply : Answer) (answers replies : List Answer) (f s : Option Held) (first second : Option Held) → (step : StepAlike h g command answer reply f s)
      → RunsAlike (record h { table = step.table }) (record g { table = step.other }) commands answers replies first second → RunsAlike h g (command ∷ commands) (answer ∷ answers) (reply ∷ replies) first second
  first_too h g command commands answer reply answers replies f s first second step rest = (
    numbered,
    record {
      table = rest.1.table;
      other = rest.1.other;
      held = rest.1.held;
      also = rest.1.also;
      same = λ place. ⊎_elim
          (λ was. rest.1.same place (inl (step.same place (inl was))))
          (λ lies. either place (is_in_box (box_of command).start (box_of command).shape place) refl lies);
    },
  ) where
    numbered : HaveSameAnswers h.document.elements.type (answer ∷ answers) (reply ∷ replies)
    numbered zero x y e i =
        let P : Answer → Type 0 = λ z. HaveOneAnswer h.document.elements.type z y in
        let Q : Answer → Type 0 = λ z. HaveOneAnswer h.document.elements.type answer z in
        subst P (some_same e) (subst Q (some_same i) step.answers)
    numbered (suc n) x y e i = rest.0 n x y e i

    either : (place : List ℕ) (t : Bool) → is_in_box (box_of command).start (box_of command).shape place ≡ t → lies_in_box_of place (command ∷ commands) ≡ true
        → AreSameAt (record h { table = rest.1.table }) (record g { table = rest.1.other }) place
    either place true e lies = rest.1.same place (inl (step.same place (inr e)))
    either place false e lies = rest.1.same place (inr (sym (ap (λ (b : Bool). b || lies_in_box_of place commands) e) ∙ lies))

  runs_alike : (commands : List BoxCommand) (requests asked : List Request) (answers replies : List Answer) (old new before after : World) (h g : Held)
      → held_at path old.arrays ≡ Some h → held_at away before.arrays ≡ Some g → AreComparable h g → All (AreSameWhereRead h g) commands
      → AskAll path commands requests → AskAll away commands asked → All IsAccepted answers → All IsAccepted replies
      → Run reads old requests answers new → Run others before asked replies after
      → RunsAlike h g commands answers replies (held_at path new.arrays) (held_at away after.arrays)
  runs_alike [] [] [] [] [] old new before after h g f i c same p q a b r s = (
    λ n x y e. absurd (cc),
    record {
      table = h.table;
      other = g.table;
      held = ap (λ (w : World). held_at path w.arrays) r ∙ f;
      also = ap (λ (w : World). held_at away w.arrays) s ∙ i;
      same = λ place. ⊎_elim (λ was. was) (λ lies. absurd (false≢true lies));
    },
  )
  runs_alike [] [] [] [] (y ∷ replies) old new before after h g f i c same p q a b r s = absurd s
  runs_alike [] [] [] (x ∷ answers) replies old new before after h g f i c same p q a b r s = absurd r
  runs_alike [] [] (v ∷ asked) answers replies old new before after h g f i c same p q a b r s = absurd q
  runs_alike [] (u ∷ requests) asked answers replies old new before after h g f i c same p q a b r s = absurd p
  runs_alike (command ∷ commands) [] asked answers replies old new before after h g f i c same p q a b r s = absurd p
  runs_alike (command ∷ commands) (u ∷ requests) [] answers replies old new before after h g f i c same p q a b r s = absurd q
  runs_alike (command ∷ commands) (u ∷ requests) (v ∷ asked) [] replies old new before after h g f i c same p q a b r s = absurd r
  runs_alike (command ∷ commands) (u ∷ requests) (v ∷ asked) (x ∷ answers) [] old new before after h g f i c same p q a b r s = absurd s
  runs_alike (command ∷ commands) (u ∷ requests) (v ∷ asked) (x ∷ answers) (y ∷ replies) old new before after h g f i c same p q a b r s =
      let step = step_alike h g command x y (held_at path r.0.arrays) (held_at away s.0.arrays) c (All-head (AreSameWhereRead h g) command commands same)
      (does reads path command u x old r.0 h f p.0 (All-head IsAccepted x answers a) r.1)
      (does others away command v y before s.0 g i q.0 (All-head IsAccepted y replies b) s.1) in
      first_too h g command commands x y answers replies (held_at path r.0.arrays) (held_at away s.0.arrays) (held_at path new.arrays) (held_at away after.arrays) step
      (runs_alike commands requests asked answers replies r.0 new s.0 after (record h { table = step.table }) (record g { table = step.other }) step.held step.also
      (record { type = c.type; lossless = c.lossless; also = c.also })
      (All-weaker (AreSameWhereRead h g) (AreSameWhereRead (record h { table = step.table }) (record g { table = step.other })) (still_same h g step.table step.other (λ place was. step.same place (inl was))) commands (All-tail (AreSameWhereRead h g) command commands same))
      p.1 q.1 (All-tail IsAccepted x answers a) (All-tail IsAccepted y replies b) r.2 s.2)

pub boxes_alike : BoxesAlike
boxes_alike reads others old new before after path away h g commands requests asked answers replies f i c same p q a b r s = runs_alike reads others path away commands requests asked answers replies old new before after h g f i c same p q a b r s

-- ---- what both grids cover

module _ (reads : ReadsCodecs) (path : List ℕ) where
  all_covered : (commands : List BoxCommand) (requests : List Request) (answers : List Answer) (old new : World) (h : Held) → held_at path old.arrays ≡ Some h → AskAll path commands requests → All IsAccepted answers → Run reads old requests answers new
      → Each (λ command. IsCovered h.document.grid (box_of command)) commands
  all_covered [] requests answers old new h f p a r = tt
  all_covered (command ∷ commands) [] answers old new h f p a r = absurd p
  all_covered (command ∷ commands) (u ∷ requests) [] old new h f p a r = absurd r
  all_covered (command ∷ commands) (u ∷ requests) (x ∷ answers) old new h f p a r =
      let next = after_command h x (held_at path r.0.arrays) command (does reads path command u x old r.0 h f p.0 (All-head IsAccepted x answers a) r.1) in
      (next.2, all_covered commands requests answers r.0 new (record h { table = next.0 }) next.1 p.1 (All-tail IsAccepted x answers a) r.2)

-- a box of a command has a length for each start
abbrev HasLengths : BoxCommand → Type 0
HasLengths command = length (box_of command).start ≡ length (box_of command).shape

same_read : (h g : Held) → AreSameWhereCovered h g → (command : BoxCommand) → HasLengths command → IsCovered h.document.grid (box_of command) → IsCovered g.document.grid (box_of command) → AreSameWhereRead h g command
same_read h g same (read_box region) lengths a b = (lengths, λ place i. same place (a.covered place i) (b.covered place i))
same_read h g same (write_box region given) lengths a b = tt

same_reads : (h g : Held) → AreSameWhereCovered h g → (commands : List BoxCommand) → All HasLengths commands → Each (λ command. IsCovered h.document.grid (box_of command)) commands → Each (λ command. IsCovered g.document.grid (box_of command)) commands
    → All (AreSameWhereRead h g) commands
same_reads h g same [] lengths a b = All-nil (AreSameWhereRead h g)
same_reads h g same (command ∷ commands) lengths a b =
    All-cons (AreSameWhereRead h g) command commands (same_read h g same command (All-head HasLengths command commands lengths) a.0 b.0) (same_reads h g same commands (All-tail HasLengths command commands lengths) a.1 b.1)

pub answered_alike : AnsweredAlike
answered_alike reads others old new before after path away h g commands requests asked answers replies f i c same lengths p q a b r s =
    let both = boxes_alike reads others old new before after path away h g commands requests asked answers replies f i c
    (same_reads h g same commands lengths (all_covered reads path commands requests answers old new h f p a r) (all_covered others away commands asked replies before after g i q b s)) p q a b r s in
    let end = both.1 in
    let P : Option Held → Type 0 = λ o. HoldSameWhereCovered o (held_at away after.arrays) in
    let Q : Option Held → Type 0 = λ o. HoldSameWhereCovered (Some (record h { table = end.table })) o in
    (both.0, subst P (sym end.held) (subst Q (sym end.also) (λ place u v. end.same place (inl (same place u v)))))
