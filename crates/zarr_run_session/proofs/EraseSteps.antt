-- What an erasure of chunks answered and left for one array is a step of each world that the session was in.
use Rattle.std.proofs.Common.{◌≡◌, ◌∙◌, ℕ, List, take, sym, subst, ⊎_elim, inl, inr, Bool, IsTrue, Some, Result, Ok, Err, OnOk, IfErr}
use Rattle.zarr_grids_boxes.specs.Boxes.{Region, places}
use Rattle.zarr_grids_keys.specs.Paths.{is_node_path}
use Rattle.zarr_codecs_meaning.specs.Chains.{ByteCodec}
use Rattle.zarr_codecs_metadata.specs.Chains.{ReadsCodecs}
use Rattle.zarr_sharding_chains.specs.ArrayChains.{array_function}
use Rattle.zarr_array_core.specs.Views.{is_exact, path_of}
use Rattle.zarr_array_meaning.specs.Arrays.{Array}
use Rattle.zarr_array_meaning.specs.Documents.{Document}
use Rattle.zarr_array_meaning.specs.StoreMaps.{StoreMap}
use Rattle.zarr_run_boxes.specs.Outcomes.{ErasesTarget, EraseRefused, ErasedFirst}
use Rattle.zarr_run_boxes.specs.declared.refusal.Refusal.{Refusal}
use Rattle.zarr_run_meaning.specs.declared.cause.Cause.{Cause}
use Rattle.zarr_run_meaning.specs.declared.cause.Cause.TheVariants as cause
use Rattle.zarr_run_meaning.specs.Causes.{EraseRefuses, EraseStops}
use Rattle.zarr_run_meaning.specs.Requests as ask
use Rattle.zarr_run_meaning.specs.Requests.{erase, Answer, done, refused}
use Rattle.zarr_run_meaning.specs.Steps.{CountsRefusal, RefusesErase, Step}
use Rattle.zarr_run_meaning.specs.Worlds.{Held, World, held_at}
use Rattle.zarr_run_opening.specs.Sessions.{Arrays, array_at, document_of, IsIn, StepsFrom}
use Rattle.zarr_run_opening.specs.declared.held.HeldArray.{HeldArray}
use Rattle.zarr_run_opening.proofs.HoldsLemmas.{agreed_held}
use Rattle.zarr_run_session.specs.Finding.{IsFound}
use Rattle.zarr_run_session.specs.Replies.{answer_after}
use Rattle.zarr_run_session.specs.Sessions.{CountsAnswer}
use Rattle.zarr_run_session.proofs.HeldSteps.{LeadsTo, refused_at, refused_held, counts_from, stays_at, short_of_memory, in_untouched}
use Rattle.zarr_run_session.proofs.Lifting.{world_after, table_erased, erased, in_after}

module _ (B : Type 0) (meaning : B → ByteCodec) (reads : ReadsCodecs) (arrays : Arrays B) (store store' : StoreMap) (n n' : ℕ) (path : List ℕ) (region : Region) where
  module _ (w : World) (k : IsIn meaning reads (arrays, (store, n)) w) (h : Held) (node : IsTrue (is_node_path path)) (found : held_at path w.arrays ≡ Some h) (exact : Bool) where
    -- the array, whatever its values depend on
    abbrev erased_in : Array
    erased_in = record { path = h.path; document = h.document; exact = exact }

    -- the chunks were erased
    erase_done : n' ≡ n → ErasesTarget erased_in region w.store store' → LeadsTo meaning reads w (erase path region) done arrays store' n'
    erase_done calls gone =
        let chunks = places region.start region.shape in
        let table = table_erased h chunks in
        let after = world_after h.path table w store' n' in
        let step : Step reads w (erase path region) done after = (
          record {
            node = node;
            held = h;
            found = found;
            below = gone.below;
            small = gone.small;
            erases = erased h chunks w store' n' gone.erased;
          },
          calls ∙ sym k.refused,
        ) in
        (after, step, in_after B meaning reads arrays store store' n n' w (erase path region) done h.path table k step)

    -- the erasure stopped at a chunk
    erase_stopped : (c : Cause) (m : ℕ) → CountsRefusal c n n' → ErasedFirst erased_in region (record { cause = c; applied = m }) w.store store' → LeadsTo meaning reads w (erase path region) (refused c m) arrays store' n'
    erase_stopped c m counts first =
        let chunks = take m (places region.start region.shape) in
        let table = table_erased h chunks in
        let after = world_after h.path table w store' n' in
        let P : Cause → Type 0 = λ c. EraseStops c in
        let refuses : RefusesErase region h (ask.refusal c m) w after = inr (record {
          below = first.below;
          small = first.small;
          stops = first.stops;
          fewer = first.fewer;
          erases = erased h chunks w store' n' first.erased;
          count = counts_from c w.refused n n' k.refused counts;
        }) in
        let step : Step reads w (erase path region) (refused c m) after =
        refused_at reads (erase path region) c m w after node (λ is. subst P is first.stops) (refused_held (held_at path w.arrays) h (RefusesErase region) (ask.refusal c m) w after found refuses) in
        (after, step, in_after B meaning reads arrays store store' n n' w (erase path region) (refused c m) h.path table k step)

    -- the erasure was refused before a chunk was touched
    erase_refused : (c : Cause) (m : ℕ) → CountsRefusal c n n' → m ≡ 0 → store' ≡ store → EraseRefuses h.document region c → LeadsTo meaning reads w (erase path region) (refused c m) arrays store' n'
    erase_refused c m counts none same refuses =
        let after : World = record w { refused = n' } in
        let P : Cause → Type 0 = λ c. EraseRefuses h.document region c in
        let step : Step reads w (erase path region) (refused c m) after =
        refused_at reads (erase path region) c m w after node (λ is. subst P is refuses)
        (refused_held (held_at path w.arrays) h (RefusesErase region) (ask.refusal c m) w after found (inl (refuses, stays_at c m n' w none (counts_from c w.refused n n' k.refused counts)))) in
        (after, step, in_untouched B meaning reads arrays store store' n n' w k same)

    erase_short : (c : Cause) (m : ℕ) → CountsRefusal c n n' → m ≡ 0 → store' ≡ store → c ≡ cause.Memory → LeadsTo meaning reads w (erase path region) (refused c m) arrays store' n'
    erase_short c m counts none same is =
        let step = short_of_memory reads (erase path region) c m n' w none is (counts_from c w.refused n n' k.refused counts) in
        (record w { refused = n' }, step, in_untouched B meaning reads arrays store store' n n' w k same)

    erase_answered : (result : Result (Unit {0}) Refusal) → CountsAnswer (answer_after result) n n' → OnOk result (ErasesTarget erased_in region store store') → IfErr result (λ refusal. EraseRefused erased_in region refusal store store')
        → LeadsTo meaning reads w (erase path region) (answer_after result) arrays store' n'
    erase_answered (Ok x) counts ok err = let P : StoreMap → Type 0 = λ s. ErasesTarget erased_in region s store' in erase_done counts (subst P (sym k.store) ok)
    erase_answered (Err refusal) counts ok err =
        let P : StoreMap → Type 0 = λ s. ErasedFirst erased_in region refusal s store' in
        ⊎_elim
        (λ whole. ⊎_elim (erase_refused refusal.cause refusal.applied counts whole.0.applied whole.0.same) (erase_short refusal.cause refusal.applied counts whole.0.applied whole.0.same) whole.1)
        (λ first. erase_stopped refusal.cause refusal.applied counts (subst P (sym k.store) first))
        err

  -- what was answered and left for the array that is found is a step of each world
  pub erase_steps : (array : HeldArray B) (result : Result (Unit {0}) Refusal) (answer : Answer) → IsFound arrays path array → CountsAnswer answer n n' → answer ≡ answer_after result
      → OnOk result (ErasesTarget (record { path = path_of array.core; document = document_of meaning array; exact = is_exact array_function array.core }) region store store')
      → IfErr result (λ refusal. EraseRefused (record { path = path_of array.core; document = document_of meaning array; exact = is_exact array_function array.core }) region refusal store store')
      → StepsFrom (meaning, reads) (arrays, (store, n)) (erase path region, answer) (arrays, (store', n'))
  erase_steps array result answer is counts says ok err w k =
      let held = agreed_held B meaning reads store (array_at arrays path) (held_at path w.arrays) array (k.agree path) is.found in
      let h = held.0 in
      let exact = is_exact array_function array.core in
      let at : List ℕ → Document → Array = λ p d. record { path = p; document = d; exact = exact } in
      let Done : List ℕ → Document → Type 0 = λ p d. OnOk result (ErasesTarget (at p d) region store store') in
      let Why : List ℕ → Document → Type 0 = λ p d. IfErr result (λ refusal. EraseRefused (at p d) region refusal store store') in
      let A : Answer → Type 0 = λ a. LeadsTo meaning reads w (erase path region) a arrays store' n' in
      let C : Answer → Type 0 = λ a. CountsAnswer a n n' in
      let done = subst (λ d. Done h.path d) (sym held.2.document) (subst (λ p. Done p (document_of meaning array)) (sym held.2.path) ok) in
      let why = subst (λ d. Why h.path d) (sym held.2.document) (subst (λ p. Why p (document_of meaning array)) (sym held.2.path) err) in
      subst A (sym says) (erase_answered w k h is.node held.1 exact result (subst C says counts) done why)
