-- What a write of cells answered and left for one array is a step of each world that the session was in.
use Rattle.std.proofs.Common.{◌≡◌, ◌∙◌, ℕ, List, take, sym, subst, ⊎_elim, inl, inr, Bool, IsTrue, Option, Some, Result, Ok, Err, OnOk, IfErr}
use Rattle.zarr_grids_boxes.specs.Boxes.{Region}
use Rattle.zarr_grids_chunks.specs.Grids.{intersecting}
use Rattle.zarr_grids_keys.specs.Paths.{is_node_path}
use Rattle.zarr_codecs_meaning.specs.Chains.{ByteCodec}
use Rattle.zarr_codecs_metadata.specs.Chains.{ReadsCodecs}
use Rattle.zarr_sharding_chains.specs.ArrayChains.{array_function}
use Rattle.zarr_array_core.specs.Views.{is_exact, path_of}
use Rattle.zarr_array_meaning.specs.Arrays.{Array, value_at}
use Rattle.zarr_array_meaning.specs.Documents.{Document}
use Rattle.zarr_array_meaning.specs.StoreMaps.{StoreMap}
use Rattle.zarr_array_meaning.specs.Writes.{Write, write_to}
use Rattle.zarr_array_meaning.proofs.Weaker.{with_exact, damaged_with, room_with, refused_with, oversized_with, wrote_weaker}
use Rattle.zarr_run_boxes.specs.Outcomes.{WritesTarget, WriteRefused, WroteFirst}
use Rattle.zarr_run_boxes.specs.declared.refusal.Refusal.{Refusal}
use Rattle.zarr_run_meaning.specs.declared.cause.Cause.{Cause}
use Rattle.zarr_run_meaning.specs.declared.cause.Cause.TheVariants as cause
use Rattle.zarr_run_meaning.specs.Causes.{WriteRefuses, ChunkRefuses, StopsAt}
use Rattle.zarr_run_meaning.specs.Requests as ask
use Rattle.zarr_run_meaning.specs.Requests.{WriteAsked, Request, write, Answer, done, refused}
use Rattle.zarr_run_meaning.specs.Steps.{CountsRefusal, RefusesWrite, Step}
use Rattle.zarr_run_meaning.specs.Worlds.{Held, World, array_of, held_at, writes_exactly}
use Rattle.zarr_run_opening.specs.Sessions.{Arrays, array_at, document_of, IsIn, StepsFrom}
use Rattle.zarr_run_opening.specs.declared.held.HeldArray.{HeldArray}
use Rattle.zarr_run_opening.proofs.HoldsLemmas.{agreed_held}
use Rattle.zarr_run_session.specs.Finding.{IsFound}
use Rattle.zarr_run_session.specs.Replies.{answer_after}
use Rattle.zarr_run_session.specs.Sessions.{CountsAnswer}
use Rattle.zarr_run_session.proofs.HeldSteps.{LeadsTo, refused_at, refused_held, counts_from, stays_at, short_of_memory, in_untouched}
use Rattle.zarr_run_session.proofs.Lifting.{world_after, table_written, written, in_after}

-- why a write stops at a chunk, where the values that it leaves are told of in fewer cases
module _ (write : Write) (weak : Bool) where
  chunk_refuses : (box : Region) (stored : Option (List ℕ)) (c : Cause) → ChunkRefuses write box stored c → ChunkRefuses (with_exact write weak) box stored c
  chunk_refuses box stored cause.Fit why = why
  chunk_refuses box stored cause.Store why = why
  chunk_refuses box stored cause.Damage (inl damaged) = inl (damaged_with write weak box stored damaged)
  chunk_refuses box stored cause.Damage (inr short) = inr (room_with write weak box stored short)
  chunk_refuses box stored cause.Codec why = refused_with write weak box stored why
  chunk_refuses box stored cause.Size why = oversized_with write weak box stored why
  chunk_refuses box stored cause.Memory why = why
  chunk_refuses box stored c why = absurd why

  stops_at : (store : StoreMap) (n : ℕ) (c : Cause) → StopsAt write store n c → StopsAt (with_exact write weak) store n c
  stops_at store n c stops = record { chunk = stops.chunk; box = stops.box; nth = stops.nth; refuses = chunk_refuses stops.box (value_at write.array store stops.chunk) c stops.refuses }

-- what was written, and why a write stopped, where the values that it leaves are told of in fewer cases
module _ (array : Array) (weak : Bool) (less : IsTrue weak → IsTrue array.exact) (asked : WriteAsked) (store store' : StoreMap) where
  abbrev weaker : Array
  weaker = record array { exact = weak }

  writes_weaker : (result : Result (Unit {0}) Refusal) → OnOk result (WritesTarget array asked store store') → OnOk result (WritesTarget weaker asked store store')
  writes_weaker (Ok x) wrote = record {
    box = wrote.box;
    values = wrote.values;
    is = wrote.is;
    small = wrote.small;
    wrote = wrote_weaker (write_to array wrote.box wrote.values asked.options) weak (intersecting array.document.grid wrote.box) store store' wrote.wrote less;
  }
  writes_weaker (Err refusal) wrote = tt

  first_weaker : (refusal : Refusal) → WroteFirst array asked refusal store store' → WroteFirst weaker asked refusal store store'
  first_weaker refusal first = record {
    box = first.box;
    values = first.values;
    is = first.is;
    small = first.small;
    stops = stops_at (write_to array first.box first.values asked.options) weak store refusal.applied refusal.cause first.stops;
    wrote = wrote_weaker (write_to array first.box first.values asked.options) weak (take refusal.applied (intersecting array.document.grid first.box)) store store' first.wrote less;
  }

  refused_weaker : (result : Result (Unit {0}) Refusal) → IfErr result (λ refusal. WriteRefused array asked refusal store store') → IfErr result (λ refusal. WriteRefused weaker asked refusal store store')
  refused_weaker (Ok x) why = tt
  refused_weaker (Err refusal) why = ⊎_elim (λ whole. inl whole) (λ first. inr (first_weaker refusal first)) why

module _ (B : Type 0) (meaning : B → ByteCodec) (reads : ReadsCodecs) (arrays : Arrays B) (store store' : StoreMap) (n n' : ℕ) (path : List ℕ) (asked : WriteAsked) where
  -- the command
  abbrev request : Request
  request = write path asked.target asked.cells asked.options

  module _ (w : World) (k : IsIn meaning reads (arrays, (store, n)) w) (h : Held) (node : IsTrue (is_node_path path)) (found : held_at path w.arrays ≡ Some h) where
    -- the cells were written
    write_done : n' ≡ n → WritesTarget (array_of h) asked w.store store' → LeadsTo meaning reads w request done arrays store' n'
    write_done calls wrote =
        let chunks = intersecting h.document.grid wrote.box in
        let made = write_to (array_of h) wrote.box wrote.values asked.options in
        let table = table_written h made chunks in
        let after = world_after h.path table w store' n' in
        let step : Step reads w request done after = (
          record {
            node = node;
            held = h;
            found = found;
            box = wrote.box;
            values = wrote.values;
            is = wrote.is;
            small = wrote.small;
            writes = written h made chunks w store' n' wrote.wrote;
          },
          calls ∙ sym k.refused,
        ) in
        (after, step, in_after B meaning reads arrays store store' n n' w request done h.path table k step)

    -- the write stopped at a chunk
    write_stopped : (c : Cause) (m : ℕ) → CountsRefusal c n n' → WroteFirst (array_of h) asked (record { cause = c; applied = m }) w.store store' → LeadsTo meaning reads w request (refused c m) arrays store' n'
    write_stopped c m counts first =
        let chunks = take m (intersecting h.document.grid first.box) in
        let made = write_to (array_of h) first.box first.values asked.options in
        let table = table_written h made chunks in
        let after = world_after h.path table w store' n' in
        let P : Cause → Type 0 = λ c. ChunkRefuses made first.stops.box (value_at (array_of h) w.store first.stops.chunk) c in
        let refuses : RefusesWrite asked h (ask.refusal c m) w after = inr (record {
          box = first.box;
          values = first.values;
          is = first.is;
          small = first.small;
          stops = first.stops;
          writes = written h made chunks w store' n' first.wrote;
          count = counts_from c w.refused n n' k.refused counts;
        }) in
        let step : Step reads w request (refused c m) after =
        refused_at reads request c m w after node (λ is. subst P is first.stops.refuses)
        (refused_held (held_at path w.arrays) h (RefusesWrite asked) (ask.refusal c m) w after found refuses) in
        (after, step, in_after B meaning reads arrays store store' n n' w request (refused c m) h.path table k step)

    -- the write was refused before a chunk was touched
    write_refused : (c : Cause) (m : ℕ) → CountsRefusal c n n' → m ≡ 0 → store' ≡ store → WriteRefuses h.document asked.target asked.cells c → LeadsTo meaning reads w request (refused c m) arrays store' n'
    write_refused c m counts none same refuses =
        let after : World = record w { refused = n' } in
        let P : Cause → Type 0 = λ c. WriteRefuses h.document asked.target asked.cells c in
        let step : Step reads w request (refused c m) after =
        refused_at reads request c m w after node (λ is. subst P is refuses)
        (refused_held (held_at path w.arrays) h (RefusesWrite asked) (ask.refusal c m) w after found (inl (refuses, stays_at c m n' w none (counts_from c w.refused n n' k.refused counts)))) in
        (after, step, in_untouched B meaning reads arrays store store' n n' w k same)

    write_short : (c : Cause) (m : ℕ) → CountsRefusal c n n' → m ≡ 0 → store' ≡ store → c ≡ cause.Memory → LeadsTo meaning reads w request (refused c m) arrays store' n'
    write_short c m counts none same is =
        let step = short_of_memory reads request c m n' w none is (counts_from c w.refused n n' k.refused counts) in
        (record w { refused = n' }, step, in_untouched B meaning reads arrays store store' n n' w k same)

    write_answered : (result : Result (Unit {0}) Refusal) → CountsAnswer (answer_after result) n n' → OnOk result (WritesTarget (array_of h) asked store store') → IfErr result (λ refusal. WriteRefused (array_of h) asked refusal store store')
        → LeadsTo meaning reads w request (answer_after result) arrays store' n'
    write_answered (Ok x) counts ok err =
        let P : StoreMap → Type 0 = λ s. WritesTarget (array_of h) asked s store' in
        write_done counts (subst P (sym k.store) ok)
    write_answered (Err refusal) counts ok err =
        let P : StoreMap → Type 0 = λ s. WroteFirst (array_of h) asked refusal s store' in
        ⊎_elim
        (λ whole. ⊎_elim (write_refused refusal.cause refusal.applied counts whole.0.applied whole.0.same) (write_short refusal.cause refusal.applied counts whole.0.applied whole.0.same) whole.1)
        (λ first. write_stopped refusal.cause refusal.applied counts (subst P (sym k.store) first))
        err

  -- what was answered and left for the array that is found is a step of each world
  pub write_steps : (array : HeldArray B) (result : Result (Unit {0}) Refusal) (answer : Answer) → IsFound arrays path array → CountsAnswer answer n n' → answer ≡ answer_after result
      → OnOk result (WritesTarget (record { path = path_of array.core; document = document_of meaning array; exact = is_exact array_function array.core }) asked store store')
      → IfErr result (λ refusal. WriteRefused (record { path = path_of array.core; document = document_of meaning array; exact = is_exact array_function array.core }) asked refusal store store')
      → StepsFrom (meaning, reads) (arrays, (store, n)) (request, answer) (arrays, (store', n'))
  write_steps array result answer is counts says ok err w k =
      let held = agreed_held B meaning reads store (array_at arrays path) (held_at path w.arrays) array (k.agree path) is.found in
      let h = held.0 in
      let exact = is_exact array_function array.core in
      let at : List ℕ → Document → Array = λ p d. record { path = p; document = d; exact = exact } in
      let Done : List ℕ → Document → Type 0 = λ p d. OnOk result (WritesTarget (at p d) asked store store') in
      let Why : List ℕ → Document → Type 0 = λ p d. IfErr result (λ refusal. WriteRefused (at p d) asked refusal store store') in
      let A : Answer → Type 0 = λ a. LeadsTo meaning reads w request a arrays store' n' in
      let C : Answer → Type 0 = λ a. CountsAnswer a n n' in
      let done = subst (λ d. Done h.path d) (sym held.2.document) (subst (λ p. Done p (document_of meaning array)) (sym held.2.path) ok) in
      let why = subst (λ d. Why h.path d) (sym held.2.document) (subst (λ p. Why p (document_of meaning array)) (sym held.2.path) err) in
      subst A (sym says) (write_answered w k h is.node held.1 result (subst C says counts)
      (writes_weaker (at h.path h.document) (writes_exactly h) held.2.exact asked store store' result done)
      (refused_weaker (at h.path h.document) (writes_exactly h) held.2.exact asked store store' result why))
