-- What a rewrite answered and left for one array is a step of each world that the session was in.
use Rattle.std.proofs.Common.{◌≡◌, ◌∙◌, ℕ, List, sym, subst, ⊎_elim, inl, inr, IsTrue, Some, Result, Ok, Err, OnOk, IfErr}
use Rattle.zarr_grids_keys.specs.Paths.{is_node_path}
use Rattle.zarr_codecs_meaning.specs.Chains.{ByteCodec}
use Rattle.zarr_codecs_metadata.specs.Chains.{ReadsCodecs}
use Rattle.zarr_codecs_options.specs.declared.codec_options.CodecOptions.{CodecOptions}
use Rattle.zarr_sharding_chains.specs.ArrayChains.{array_function}
use Rattle.zarr_array_core.specs.Views.{is_exact, path_of}
use Rattle.zarr_array_meaning.specs.Arrays.{Array}
use Rattle.zarr_array_meaning.specs.Documents.{Document}
use Rattle.zarr_array_meaning.specs.StoreMaps.{StoreMap}
use Rattle.zarr_run_boxes.specs.Rewriting.{RewritesTarget, RewroteFirst, RewriteRefused}
use Rattle.zarr_run_boxes.specs.declared.refusal.Refusal.{Refusal}
use Rattle.zarr_run_meaning.specs.declared.cause.Cause.{Cause}
use Rattle.zarr_run_meaning.specs.declared.cause.Cause.TheVariants as cause
use Rattle.zarr_run_meaning.specs.Causes.{RewriteRefuses, RewriteStopsAt}
use Rattle.zarr_run_meaning.specs.Requests as ask
use Rattle.zarr_run_meaning.specs.Requests.{rewrite, Answer, done, refused}
use Rattle.zarr_run_meaning.specs.Steps.{CountsRefusal, RefusesRewrite, Step}
use Rattle.zarr_run_meaning.specs.Worlds.{Held, World, array_of, held_at, writes_exactly}
use Rattle.zarr_run_opening.specs.Sessions.{Arrays, array_at, document_of, IsIn, StepsFrom}
use Rattle.zarr_run_opening.specs.declared.held.HeldArray.{HeldArray}
use Rattle.zarr_run_opening.proofs.HoldsLemmas.{agreed_held}
use Rattle.zarr_run_session.specs.Finding.{IsFound}
use Rattle.zarr_run_session.specs.Replies.{answer_after}
use Rattle.zarr_run_session.specs.Sessions.{CountsAnswer}
use Rattle.zarr_run_session.proofs.Alike.{rewrites_alike, rewrite_refused_alike}
use Rattle.zarr_run_session.proofs.HeldSteps.{LeadsTo, refused_at, refused_held, counts_from, stays_at, short_of_memory, in_untouched}
use Rattle.zarr_run_session.proofs.Lifting.{world_after, has_table, in_after}

module _ (B : Type 0) (meaning : B → ByteCodec) (reads : ReadsCodecs) (arrays : Arrays B) (store store' : StoreMap) (n n' : ℕ) (path : List ℕ) (options : CodecOptions) where
  module _ (w : World) (k : IsIn meaning reads (arrays, (store, n)) w) (h : Held) (node : IsTrue (is_node_path path)) (found : held_at path w.arrays ≡ Some h) where
    -- the chunks were stored anew
    rewrite_done : n' ≡ n → RewritesTarget (array_of h) options.store_empty_chunks w.store store' → LeadsTo meaning reads w (rewrite path options) done arrays store' n'
    rewrite_done calls is =
        let after = world_after h.path h.table w store' n' in
        let step : Step reads w (rewrite path options) done after = (
          record {
            node = node;
            held = h;
            found = found;
            small = is.small;
            rewrites = record { updates = has_table h.path h.table w store' n'; stores = is.rewrote };
          },
          calls ∙ sym k.refused,
        ) in
        (after, step, in_after B meaning reads arrays store store' n n' w (rewrite path options) done h.path h.table k step)

    -- the rewrite stopped at a chunk
    rewrite_stopped : (c : Cause) (m : ℕ) → CountsRefusal c n n' → RewroteFirst (array_of h) options.store_empty_chunks w.store store' (record { cause = c; applied = m }) → LeadsTo meaning reads w (rewrite path options) (refused c m) arrays store' n'
    rewrite_stopped c m counts first =
        let after = world_after h.path h.table w store' n' in
        let P : Cause → Type 0 = λ c. RewriteStopsAt (array_of h) w.store options.store_empty_chunks m c in
        let refuses : RefusesRewrite options h (ask.refusal c m) w after = inr (record {
          small = first.small;
          stops = first.stops;
          rewrites = record { updates = has_table h.path h.table w store' n'; stores = first.rewrote };
          count = counts_from c w.refused n n' k.refused counts;
        }) in
        let step : Step reads w (rewrite path options) (refused c m) after =
        refused_at reads (rewrite path options) c m w after node (λ is. (subst P is first.stops).refuses) (refused_held (held_at path w.arrays) h (RefusesRewrite options) (ask.refusal c m) w after found refuses) in
        (after, step, in_after B meaning reads arrays store store' n n' w (rewrite path options) (refused c m) h.path h.table k step)

    -- the rewrite was refused before a chunk was stored anew
    rewrite_refused : (c : Cause) (m : ℕ) → CountsRefusal c n n' → m ≡ 0 → store' ≡ store → RewriteRefuses (array_of h) w.store c → LeadsTo meaning reads w (rewrite path options) (refused c m) arrays store' n'
    rewrite_refused c m counts none same refuses =
        let after : World = record w { refused = n' } in
        let P : Cause → Type 0 = λ c. RewriteRefuses (array_of h) w.store c in
        let step : Step reads w (rewrite path options) (refused c m) after =
        refused_at reads (rewrite path options) c m w after node (λ is. subst P is refuses)
        (refused_held (held_at path w.arrays) h (RefusesRewrite options) (ask.refusal c m) w after found (inl (refuses, stays_at c m n' w none (counts_from c w.refused n n' k.refused counts)))) in
        (after, step, in_untouched B meaning reads arrays store store' n n' w k same)

    rewrite_short : (c : Cause) (m : ℕ) → CountsRefusal c n n' → m ≡ 0 → store' ≡ store → c ≡ cause.Memory → LeadsTo meaning reads w (rewrite path options) (refused c m) arrays store' n'
    rewrite_short c m counts none same is =
        let step = short_of_memory reads (rewrite path options) c m n' w none is (counts_from c w.refused n n' k.refused counts) in
        (record w { refused = n' }, step, in_untouched B meaning reads arrays store store' n n' w k same)

    rewrite_answered : (result : Result (Unit {0}) Refusal) → CountsAnswer (answer_after result) n n' → OnOk result (RewritesTarget (array_of h) options.store_empty_chunks store store')
        → IfErr result (λ refusal. RewriteRefused (array_of h) options.store_empty_chunks refusal store store') → LeadsTo meaning reads w (rewrite path options) (answer_after result) arrays store' n'
    rewrite_answered (Ok x) counts ok err =
        let P : StoreMap → Type 0 = λ s. RewritesTarget (array_of h) options.store_empty_chunks s store' in
        rewrite_done counts (subst P (sym k.store) ok)
    rewrite_answered (Err refusal) counts ok err =
        let P : StoreMap → Type 0 = λ s. RewroteFirst (array_of h) options.store_empty_chunks s store' refusal in
        let Q : StoreMap → Type 0 = λ s. RewriteRefuses (array_of h) s refusal.cause in
        ⊎_elim
        (λ whole. ⊎_elim (λ why. rewrite_refused refusal.cause refusal.applied counts whole.0.applied whole.0.same (subst Q (sym k.store) why)) (rewrite_short refusal.cause refusal.applied counts whole.0.applied whole.0.same) whole.1)
        (λ first. rewrite_stopped refusal.cause refusal.applied counts (subst P (sym k.store) first))
        err

  -- what was answered and left for the array that is found is a step of each world
  pub rewrite_steps : (array : HeldArray B) (result : Result (Unit {0}) Refusal) (answer : Answer) → IsFound arrays path array → CountsAnswer answer n n' → answer ≡ answer_after result
      → OnOk result (RewritesTarget (record { path = path_of array.core; document = document_of meaning array; exact = is_exact array_function array.core }) options.store_empty_chunks store store')
      → IfErr result (λ refusal. RewriteRefused (record { path = path_of array.core; document = document_of meaning array; exact = is_exact array_function array.core }) options.store_empty_chunks refusal store store')
      → StepsFrom (meaning, reads) (arrays, (store, n)) (rewrite path options, answer) (arrays, (store', n'))
  rewrite_steps array result answer is counts says ok err w k =
      let held = agreed_held B meaning reads store (array_at arrays path) (held_at path w.arrays) array (k.agree path) is.found in
      let h = held.0 in
      let exact = is_exact array_function array.core in
      let empty = options.store_empty_chunks in
      let at : List ℕ → Document → Array = λ p d. record { path = p; document = d; exact = exact } in
      let Done : List ℕ → Document → Type 0 = λ p d. OnOk result (RewritesTarget (at p d) empty store store') in
      let Why : List ℕ → Document → Type 0 = λ p d. IfErr result (λ refusal. RewriteRefused (at p d) empty refusal store store') in
      let A : Answer → Type 0 = λ a. LeadsTo meaning reads w (rewrite path options) a arrays store' n' in
      let C : Answer → Type 0 = λ a. CountsAnswer a n n' in
      let done = subst (λ d. Done h.path d) (sym held.2.document) (subst (λ p. Done p (document_of meaning array)) (sym held.2.path) ok) in
      let why = subst (λ d. Why h.path d) (sym held.2.document) (subst (λ p. Why p (document_of meaning array)) (sym held.2.path) err) in
      subst A (sym says) (rewrite_answered w k h is.node held.1 result (subst C says counts)
      (rewrites_alike h.path h.document exact (writes_exactly h) held.2.exact empty store store' result done)
      (rewrite_refused_alike h.path h.document exact (writes_exactly h) held.2.exact empty store store' result why))
