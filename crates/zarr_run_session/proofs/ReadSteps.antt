-- Reads of an array that is held.
use Rattle.std.proofs.Common.{◌≡◌, ◌∙◌, ℕ, ◌<◌, true, List, map, length, get_or, refl, sym, ap, subst, inl, inr, Option, Some, Result, Ok, Err}
use Rattle.std.specs.Prelude.{IfOk, IfErr}
use Rattle.std.proofs.lemmas.List.{ext_get_or}
use Rattle.zarr_grids_boxes.specs.Boxes.{Region, product, places, place_at, is_in_box}
use Rattle.zarr_grids_boxes.proofs.InBox.{in_box-place_at, ravel-place_at}
use Rattle.zarr_grids_chunks.specs.Grids.{Grid, IsInGrid}
use Rattle.zarr_grids_cover.proofs.ChunkBoxes.{chunk_box-rank}
use Rattle.zarr_codecs_arrays.specs.Views.{payload_of}
use Rattle.zarr_codecs_arrays.specs.declared.array_bytes.ArrayBytes.{ArrayBytes}
use Rattle.zarr_codecs_meaning.specs.Chains.{ByteCodec}
use Rattle.zarr_codecs_meaning.specs.Payloads.{Payload}
use Rattle.zarr_codecs_meaning.specs.Types.{Cell}
use Rattle.zarr_codecs_metadata.specs.Chains.{ReadsCodecs}
use Rattle.zarr_codecs_options.specs.declared.codec_options.CodecOptions.{CodecOptions}
use Rattle.zarr_array_core.specs.Views as core
use Rattle.zarr_array_meaning.specs.Boxes.{IsRead}
use Rattle.zarr_array_meaning.specs.Chunks.{number_in}
use Rattle.zarr_array_meaning.specs.Documents.{Document}
use Rattle.zarr_array_meaning.specs.Standing.{IsLossless}
use Rattle.zarr_array_meaning.specs.StoreMaps.{StoreMap}
use Rattle.zarr_array_meaning.proofs.Showing.{length_listed, listed_at}
use Rattle.zarr_run_meaning.specs.declared.cause.Cause.{Cause}
use Rattle.zarr_run_meaning.specs.declared.cause.Cause.TheVariants as cause
use Rattle.zarr_run_meaning.specs.Causes.{IsTarget, ReadRefuses}
use Rattle.zarr_run_meaning.specs.Changes.{Reads}
use Rattle.zarr_run_meaning.specs.Requests.{Target, in_box, in_chunk, refusal, read}
use Rattle.zarr_run_meaning.specs.Steps.{CountsRefusal, RefusesHeld, RefusesRead, RefusesAt}
use Rattle.zarr_run_meaning.specs.Tables.{Table, cell}
use Rattle.zarr_run_meaning.specs.Worlds.{Held, World, held_at, IsTableAt}
use Rattle.zarr_run_opening.specs.Sessions.{Arrays, array_at, document_of, IsHeld, IsIn, StepsFrom}
use Rattle.zarr_run_opening.specs.declared.held.HeldArray.{HeldArray}
use Rattle.zarr_run_opening.proofs.HoldsLemmas.{agreed_held}
use Rattle.zarr_run_boxes.specs.Outcomes.{ReadsTarget, ReadRefused}
use Rattle.zarr_run_session.specs.Finding.{IsFound}
use Rattle.zarr_run_session.specs.Replies.{answer_with}
use Rattle.zarr_run_session.specs.Sessions.{CountsAnswer}
use Rattle.zarr_run_session.proofs.HeldSteps.{counts_from, stays_at, short_of_memory, in_untouched}

-- ---- the cells that are read are the table's

-- a box that is named has a length for each start
abbrev pub IsFormed : Target → Type 0
IsFormed (in_box region) = length region.start ≡ length region.shape
IsFormed (in_chunk chunk) = Unit {0}

-- a box has a length for each start, and each place of it lies in a chunk in the grid
record IsFilled (grid : Grid) (box : Region) : Type 0 where
  formed : length box.start ≡ length box.shape
  covered : (place : List ℕ) → is_in_box box.start box.shape place ≡ true → (chunk : List ℕ) × (other : Region) × IsInGrid grid chunk other × (is_in_box other.start other.shape place ≡ true)

target_filled : (grid : Grid) (target : Target) (box : Region) → IsFormed target → IsTarget grid target box → IsFilled grid box
target_filled grid (in_box region) box formed is = subst (IsFilled grid) (sym is.0) (record { formed = formed; covered = is.1.covered })
target_filled grid (in_chunk chunk) box formed is =
    let rank = chunk_box-rank grid chunk box is.has_box in
    record { formed = rank.0 ∙ sym rank.1; covered = λ place inside. (chunk, box, is, inside) }

module _ (path : List ℕ) (document : Document) (store : StoreMap) (box : Region) (values : List Cell) (table : Table) (lossless : IsLossless document) (filled : IsFilled document.grid box) (reading : IsRead path document store box values) (shows : IsTableAt path document store table) where
  abbrev listed : List Cell
  listed = map (cell document.elements.fill table) (places box.start box.shape)

  one_read : (n : ℕ) → n < product box.shape → get_or values n document.elements.fill ≡ get_or listed n document.elements.fill
  one_read n low =
      let place = place_at box.start box.shape n in
      let inside : is_in_box box.start box.shape place ≡ true = in_box-place_at box.start box.shape n filled.formed low in
      let number : number_in box place ≡ n = ravel-place_at box.start box.shape n filled.formed low in
      let c = filled.covered place inside in
      let shown : get_or values (number_in box place) document.elements.fill ≡ cell document.elements.fill table place =
      shows lossless c.0 c.1 place _ c.2 c.3 (reading.each c.0 c.1 place (record { below = c.2; of_region = inside; of_chunk = c.3 })) in
      ap (λ m. get_or values m document.elements.fill) (sym number) ∙ shown ∙ sym (listed_at (cell document.elements.fill table) box place document.elements.fill inside) ∙ ap (λ m. get_or listed m document.elements.fill) number

  reads_table : values ≡ listed
  reads_table = ext_get_or document.elements.fill values listed (reading.many ∙ sym (length_listed (cell document.elements.fill table) box.start box.shape filled.formed))
      (λ n low. one_read n (subst (λ m. n < m) reading.many low))

-- ---- reads in a world

module _ (B : Type 0) (meaning : B → ByteCodec) (reads : ReadsCodecs) (arrays : Arrays B) (store : StoreMap) (n : ℕ) (path : List ℕ) (target : Target) (array : HeldArray B) (found : IsFound arrays path array) (w : World) (k : IsIn meaning reads (arrays, (store, n)) w) where
  h : (h : Held) × (held_at path w.arrays ≡ Some h) × IsHeld meaning reads store array h
  h = agreed_held B meaning reads store (array_at arrays path) (held_at path w.arrays) array (k.agree path) found.found

  -- what is read, in the terms of the world
  in_world : (P : List ℕ → Document → StoreMap → Type 0) → P (core.path_of array.core) (document_of meaning array) store → P h.0.path h.0.document w.store
  in_world P p = subst (λ s. P h.0.path h.0.document s) (sym k.store) (subst (λ d. P h.0.path d store) (sym h.2.document) (subst (λ q. P q (document_of meaning array) store) (sym h.2.path) p))

  read_done : IsFormed target → (payload : Payload) → ReadsTarget (core.path_of array.core) (document_of meaning array) store target payload → Reads path target payload w
  read_done formed payload is =
      let r : ReadsTarget h.0.path h.0.document w.store target payload = in_world (λ q d s. ReadsTarget q d s target payload) is in
      let shows : IsTableAt h.0.path h.0.document w.store h.0.table = subst (λ s. IsTableAt h.0.path h.0.document s h.0.table) (sym k.store) h.2.table in record {
        node = found.node;
        held = h.0;
        found = h.1;
        box = r.box;
        is = r.is;
        small = r.small;
        values = r.values;
        lists = r.lists;
        read = r.read;
        table = λ lossless. reads_table h.0.path h.0.document w.store r.box r.values h.0.table lossless (target_filled h.0.document.grid target r.box formed r.is) r.read shows;
      }

  module _ (n' : ℕ) where
    abbrev after : World
    after = record w { refused = n' }

    held_refuses : (c : Cause) → CountsRefusal c n n' → ReadRefuses (core.path_of array.core) (document_of meaning array) store target c → RefusesHeld (held_at path w.arrays) (RefusesRead target) (refusal c 0) w after
    held_refuses c counts why =
        let P : Option Held → Type 0 = λ o. RefusesHeld o (RefusesRead target) (refusal c 0) w after in
        subst P (sym h.1) (in_world (λ q d s. ReadRefuses q d s target c) why, stays_at c 0 n' w refl (counts_from c w.refused n n' k.refused counts))

    read_refuses : (options : CodecOptions) (c : Cause) → CountsRefusal c n n' → ReadRefuses (core.path_of array.core) (document_of meaning array) store target c → RefusesAt reads (read path target options) (refusal c 0) w after
    read_refuses options cause.Region counts why = (found.node, held_refuses cause.Region counts why)
    read_refuses options cause.Size counts why = (found.node, held_refuses cause.Size counts why)
    read_refuses options cause.Fit counts why = (found.node, held_refuses cause.Fit counts why)
    read_refuses options cause.Damage counts why = (found.node, held_refuses cause.Damage counts why)
    read_refuses options cause.Store counts why = (found.node, held_refuses cause.Store counts why)
    read_refuses options c counts why = absurd why

    read_refused : (options : CodecOptions) (c : Cause) → CountsRefusal c n n' → ReadRefused (core.path_of array.core) (document_of meaning array) store target c → RefusesAt reads (read path target options) (refusal c 0) w after
    read_refused options c counts (inl why) = read_refuses options c counts why
    read_refused options c counts (inr is) = short_of_memory reads (read path target options) c 0 n' w refl is (counts_from c w.refused n n' k.refused counts)

module _ (B : Type 0) (meaning : B → ByteCodec) (reads : ReadsCodecs) (arrays : Arrays B) (store store' : StoreMap) (n n' : ℕ) (path : List ℕ) (target : Target) (options : CodecOptions) (array : HeldArray B) (found : IsFound arrays path array) (formed : IsFormed target) (same : store' ≡ store) where
  -- a read in each world
  pub read_steps : (result : Result ArrayBytes Cause) → IfOk result (λ bytes. ReadsTarget (core.path_of array.core) (document_of meaning array) store target (payload_of bytes))
      → IfErr result (ReadRefused (core.path_of array.core) (document_of meaning array) store target) → CountsAnswer (answer_with result) n n'
      → StepsFrom (meaning, reads) (arrays, (store, n)) (read path target options, answer_with result) (arrays, (store', n'))
  read_steps (Ok bytes) ok err counts w k =
      let P : StoreMap → ℕ → Type 0 = λ s m. IsIn meaning reads (arrays, (s, m)) w in (
        w,
        (read_done B meaning reads arrays store n path target array found w k formed (payload_of bytes) ok, refl),
        subst (λ s. P s n') (sym same) (subst (λ m. P store m) (sym counts) k),
      )
  read_steps (Err c) ok err counts w k = (
    record w { refused = n' },
    read_refused B meaning reads arrays store n path target array found w k n' options c counts err,
    in_untouched B meaning reads arrays store store' n n' w k same,
  )
