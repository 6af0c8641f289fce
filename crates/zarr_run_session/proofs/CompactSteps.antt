-- What a compaction answered and left for one array is a step of each world that the session was in.
use Rattle.std.proofs.Common.{◌≡◌, ◌∙◌, ℕ, List, Bool, refl, sym, subst, ⊎_elim, IsTrue, Some, Result, Ok, Err, IfErr, OnErr}
use Rattle.std.specs.Prelude.{IfOk}
use Rattle.zarr_grids_keys.specs.Paths.{is_node_path}
use Rattle.zarr_codecs_meaning.specs.Chains.{ByteCodec}
use Rattle.zarr_codecs_metadata.specs.Chains.{ReadsCodecs}
use Rattle.zarr_codecs_options.specs.declared.codec_options.CodecOptions.{CodecOptions}
use Rattle.zarr_sharding_chains.specs.ArrayChains.{array_function}
use Rattle.zarr_array_core.specs.Views.{is_exact, path_of}
use Rattle.zarr_array_meaning.specs.Arrays.{Array}
use Rattle.zarr_array_meaning.specs.Documents.{Document}
use Rattle.zarr_array_meaning.specs.StoreMaps.{StoreMap}
use Rattle.zarr_run_boxes.specs.Compacting.{CompactsTarget, CompactRefused}
use Rattle.zarr_run_meaning.specs.declared.cause.Cause.{Cause}
use Rattle.zarr_run_meaning.specs.declared.cause.Cause.TheVariants as cause
use Rattle.zarr_run_meaning.specs.Causes.{CompactRefuses}
use Rattle.zarr_run_meaning.specs.Requests.{refusal, compact, Answer, compacted, refused}
use Rattle.zarr_run_meaning.specs.Steps.{CountsRefusal, RefusesCompact, Step}
use Rattle.zarr_run_meaning.specs.Worlds.{Held, World, array_of, held_at, writes_exactly}
use Rattle.zarr_run_opening.specs.Sessions.{Arrays, array_at, document_of, IsIn, StepsFrom}
use Rattle.zarr_run_opening.specs.declared.held.HeldArray.{HeldArray}
use Rattle.zarr_run_opening.proofs.HoldsLemmas.{agreed_held}
use Rattle.zarr_run_session.specs.Finding.{IsFound}
use Rattle.zarr_run_session.specs.Replies.{answer_changed}
use Rattle.zarr_run_session.specs.Sessions.{CountsAnswer}
use Rattle.zarr_run_session.proofs.Alike.{compacts_alike, compact_refused_alike}
use Rattle.zarr_run_session.proofs.HeldSteps.{LeadsTo, refused_at, refused_held, counts_from, stays_at, short_of_memory, in_untouched}
use Rattle.zarr_run_session.proofs.Lifting.{world_after, has_table, in_after}

module _ (B : Type 0) (meaning : B → ByteCodec) (reads : ReadsCodecs) (arrays : Arrays B) (store store' : StoreMap) (n n' : ℕ) (path chunk : List ℕ) (options : CodecOptions) where
  module _ (w : World) (k : IsIn meaning reads (arrays, (store, n)) w) (h : Held) (node : IsTrue (is_node_path path)) (found : held_at path w.arrays ≡ Some h) where
    -- the chunk was compacted
    compact_done : (changed : Bool) → n' ≡ n → CompactsTarget (array_of h) chunk changed w.store store' → LeadsTo meaning reads w (compact path chunk options) (compacted changed) arrays store' n'
    compact_done changed calls is =
        let after = world_after h.path h.table w store' n' in
        let step : Step reads w (compact path chunk options) (compacted changed) after = (
          record {
            node = node;
            held = h;
            found = found;
            small = is.small;
            updates = has_table h.path h.table w store' n';
            stores = is.compacts;
          },
          calls ∙ sym k.refused,
        ) in
        (after, step, in_after B meaning reads arrays store store' n n' w (compact path chunk options) (compacted changed) h.path h.table k step)

    -- the compaction was refused
    compact_refused : (c : Cause) → CountsRefusal c n n' → store' ≡ store → CompactRefuses (array_of h) w.store chunk c → LeadsTo meaning reads w (compact path chunk options) (refused c 0) arrays store' n'
    compact_refused c counts same refuses =
        let after : World = record w { refused = n' } in
        let P : Cause → Type 0 = λ c. CompactRefuses (array_of h) w.store chunk c in
        let step : Step reads w (compact path chunk options) (refused c 0) after =
        refused_at reads (compact path chunk options) c 0 w after node (λ is. subst P is refuses)
        (refused_held (held_at path w.arrays) h (RefusesCompact chunk) (refusal c 0) w after found (refuses, stays_at c 0 n' w refl (counts_from c w.refused n n' k.refused counts))) in
        (after, step, in_untouched B meaning reads arrays store store' n n' w k same)

    compact_short : (c : Cause) → CountsRefusal c n n' → store' ≡ store → c ≡ cause.Memory → LeadsTo meaning reads w (compact path chunk options) (refused c 0) arrays store' n'
    compact_short c counts same is =
        let step = short_of_memory reads (compact path chunk options) c 0 n' w refl is (counts_from c w.refused n n' k.refused counts) in
        (record w { refused = n' }, step, in_untouched B meaning reads arrays store store' n n' w k same)

    compact_answered : (result : Result Bool Cause) → CountsAnswer (answer_changed result) n n' → IfOk result (λ changed. CompactsTarget (array_of h) chunk changed store store') → IfErr result (λ c. CompactRefused (array_of h) chunk c store) → OnErr result (store' ≡ store)
        → LeadsTo meaning reads w (compact path chunk options) (answer_changed result) arrays store' n'
    compact_answered (Ok changed) counts ok err kept =
        let P : StoreMap → Type 0 = λ s. CompactsTarget (array_of h) chunk changed s store' in
        compact_done changed counts (subst P (sym k.store) ok)
    compact_answered (Err c) counts ok err kept =
        let P : StoreMap → Type 0 = λ s. CompactRefuses (array_of h) s chunk c in
        ⊎_elim (λ why. compact_refused c counts kept (subst P (sym k.store) why)) (compact_short c counts kept) err

  -- what was answered and left for the array that is found is a step of each world
  pub compact_steps : (array : HeldArray B) (result : Result Bool Cause) (answer : Answer) → IsFound arrays path array → CountsAnswer answer n n' → answer ≡ answer_changed result
      → IfOk result (λ changed. CompactsTarget (record { path = path_of array.core; document = document_of meaning array; exact = is_exact array_function array.core }) chunk changed store store')
      → IfErr result (λ c. CompactRefused (record { path = path_of array.core; document = document_of meaning array; exact = is_exact array_function array.core }) chunk c store) → OnErr result (store' ≡ store)
      → StepsFrom (meaning, reads) (arrays, (store, n)) (compact path chunk options, answer) (arrays, (store', n'))
  compact_steps array result answer is counts says ok err kept w k =
      let held = agreed_held B meaning reads store (array_at arrays path) (held_at path w.arrays) array (k.agree path) is.found in
      let h = held.0 in
      let exact = is_exact array_function array.core in
      let at : List ℕ → Document → Array = λ p d. record { path = p; document = d; exact = exact } in
      let Done : List ℕ → Document → Type 0 = λ p d. IfOk result (λ changed. CompactsTarget (at p d) chunk changed store store') in
      let Why : List ℕ → Document → Type 0 = λ p d. IfErr result (λ c. CompactRefused (at p d) chunk c store) in
      let A : Answer → Type 0 = λ a. LeadsTo meaning reads w (compact path chunk options) a arrays store' n' in
      let C : Answer → Type 0 = λ a. CountsAnswer a n n' in
      let done = subst (λ d. Done h.path d) (sym held.2.document) (subst (λ p. Done p (document_of meaning array)) (sym held.2.path) ok) in
      let why = subst (λ d. Why h.path d) (sym held.2.document) (subst (λ p. Why p (document_of meaning array)) (sym held.2.path) err) in
      subst A (sym says) (compact_answered w k h is.node held.1 result (subst C says counts)
      (compacts_alike h.path h.document exact (writes_exactly h) chunk store store' result done)
      (compact_refused_alike h.path h.document exact (writes_exactly h) store chunk result why) kept)
