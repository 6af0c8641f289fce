-- How many writing calls a command makes at most, by what is answered, and how many bytes a read takes.
use Rattle.std.proofs.Common.{◌≡◌, ◌≤◌, ◌+◌, ◌∙◌, ℕ, List, Bool, true, false, length, refl, sym, ap, subst, arith, Option, Result, Ok, Err}
use Rattle.std.specs.Option.{option_map_or}
use Rattle.zarr_grids_boxes.specs.Boxes.{Region, product}
use Rattle.zarr_codecs_arrays.specs.declared.array_bytes.ArrayBytes.{ArrayBytes}
use Rattle.zarr_codecs_meaning.specs.Chains.{ByteCodec}
use Rattle.zarr_codecs_metadata.specs.Chains.{ReadsCodecs}
use Rattle.zarr_codecs_options.specs.declared.codec_options.CodecOptions.{CodecOptions}
use Rattle.zarr_codecs_options.specs.declared.subchunk_write_order.SubchunkWriteOrder.{SubchunkWriteOrder}
use Rattle.zarr_codecs_types.specs.Given.{GivenCells}
use Rattle.zarr_array_core.specs.Views.{path_of}
use Rattle.zarr_array_meaning.specs.Documents.{Document}
use Rattle.zarr_array_meaning.specs.Rewriting.{keyed_chunks}
use Rattle.zarr_array_meaning.specs.StoreMaps.{StoreMap, CountsUpTo}
use Rattle.zarr_array_core.specs.Calls.{calls_done, calls_of}
use Rattle.zarr_run_boxes.specs.Calls.{chunks_done}
use Rattle.zarr_run_boxes.specs.declared.refusal.Refusal.{Refusal}
use Rattle.zarr_run_boxes.specs.Outcomes.{most_with}
use Rattle.zarr_run_meaning.specs.Counts.{chunks_meant, most_of_target, most_refused, ReadsAtMost, WritesAtMost}
use Rattle.zarr_run_meaning.specs.Requests.{Target, reopen, write, read, erase, compact, rewrite, Answer, refused}
use Rattle.zarr_run_meaning.specs.Worlds.{Held, World, array_of, held_at}
use Rattle.zarr_run_meaning.specs.declared.cause.Cause.{Cause}
use Rattle.zarr_run_opening.specs.Sessions.{Arrays, answer_of, array_at, document_of, IsIn}
use Rattle.zarr_run_opening.specs.declared.held.HeldArray.{HeldArray}
use Rattle.zarr_run_opening.proofs.HoldsLemmas.{agreed_held}
use Rattle.zarr_run_session.specs.Finding.{IsFound}
use Rattle.zarr_run_session.specs.Replies.{answer_after, answer_changed, answer_with}

-- where no writing call was made
pub none_made : (old new : ℕ) → new ≡ old → CountsUpTo 0 old new
none_made old new same = (omega arith, omega arith)

-- where nothing was read
pub none_read : (w : World) (path : List ℕ) (target : Target) (options : CodecOptions) (c : Cause) (count : ℕ) → ReadsAtMost w (read path target options) (refused c 0) count count
none_read w path target options c count = omega arith

-- ---- commands whose answer alone bounds the calls

pub reopen_bound : (w : World) (path : List ℕ) (order : SubchunkWriteOrder) (result : Result (Unit {0}) Cause) (answer : Answer) (a b : ℕ) → answer ≡ answer_of result → b ≡ a → WritesAtMost w (reopen path order) answer a b
reopen_bound w path order (Ok x) answer a b says same = subst (λ answer. WritesAtMost w (reopen path order) answer a b) (sym says) (none_made a b same)
reopen_bound w path order (Err c) answer a b says same = subst (λ answer. WritesAtMost w (reopen path order) answer a b) (sym says) (none_made a b same)

pub read_bound : (w : World) (path : List ℕ) (target : Target) (options : CodecOptions) (result : Result ArrayBytes Cause) (answer : Answer) (a b : ℕ) → answer ≡ answer_with result → b ≡ a → WritesAtMost w (read path target options) answer a b
read_bound w path target options (Ok bytes) answer a b says same = subst (λ answer. WritesAtMost w (read path target options) answer a b) (sym says) (none_made a b same)
read_bound w path target options (Err c) answer a b says same = subst (λ answer. WritesAtMost w (read path target options) answer a b) (sym says) (none_made a b same)

pub erase_bound : (w : World) (path : List ℕ) (chunks : Region) (result : Result (Unit {0}) Refusal) (answer : Answer) (a b : ℕ) → answer ≡ answer_after result → CountsUpTo (chunks_done (product chunks.shape) result) a b → WritesAtMost w (erase path chunks) answer a b
erase_bound w path chunks (Ok x) answer a b says counts = subst (λ answer. WritesAtMost w (erase path chunks) answer a b) (sym says) counts
erase_bound w path chunks (Err refusal) answer a b says counts = subst (λ answer. WritesAtMost w (erase path chunks) answer a b) (sym says) counts

pub compact_bound : (w : World) (path chunk : List ℕ) (options : CodecOptions) (result : Result Bool Cause) (answer : Answer) (a b : ℕ) → answer ≡ answer_changed result → CountsUpTo (calls_done (calls_of result) result) a b → WritesAtMost w (compact path chunk options) answer a b
compact_bound w path chunk options (Ok true) answer a b says counts = subst (λ answer. WritesAtMost w (compact path chunk options) answer a b) (sym says) counts
compact_bound w path chunk options (Ok false) answer a b says counts = subst (λ answer. WritesAtMost w (compact path chunk options) answer a b) (sym says) counts
compact_bound w path chunk options (Err c) answer a b says counts = subst (λ answer. WritesAtMost w (compact path chunk options) answer a b) (sym says) counts

-- ---- commands that go over the chunks of an array that is held

module _ (B : Type 0) (meaning : B → ByteCodec) (reads : ReadsCodecs) (arrays : Arrays B) (store : StoreMap) (n : ℕ) (path : List ℕ) (array : HeldArray B) (is : IsFound arrays path array) (w : World) (k : IsIn meaning reads (arrays, (store, n)) w) where
  -- a write: one call for each chunk that is meant
  pub write_bound : (target : Target) (given : GivenCells) (options : CodecOptions) (result : Result (Unit {0}) Refusal) (answer : Answer) (a b : ℕ) → answer ≡ answer_after result
      → CountsUpTo (chunks_done (chunks_meant (document_of meaning array).grid target) result) a b → WritesAtMost w (write path target given options) answer a b
  write_bound target given options (Ok x) answer a b says counts =
      let held = agreed_held B meaning reads store (array_at arrays path) (held_at path w.arrays) array (k.agree path) is.found in
      let meant : Option Held → ℕ = λ o. option_map_or (λ (h : Held). chunks_meant h.document.grid target) o 0 in
      let most : meant (held_at path w.arrays) ≡ chunks_meant (document_of meaning array).grid target = ap meant held.1 ∙ ap (λ (d : Document). chunks_meant d.grid target) held.2.document in
      subst (λ answer. WritesAtMost w (write path target given options) answer a b) (sym says) (subst (λ m. CountsUpTo m a b) (sym most) counts)
  write_bound target given options (Err refusal) answer a b says counts = subst (λ answer. WritesAtMost w (write path target given options) answer a b) (sym says) counts

  -- a rewrite: one call for each chunk that has a key
  pub rewrite_bound : (options : CodecOptions) (exact : Bool) (result : Result (Unit {0}) Refusal) (answer : Answer) (a b : ℕ) → answer ≡ answer_after result
      → CountsUpTo (chunks_done (length (keyed_chunks (record { path = path_of array.core; document = document_of meaning array; exact = exact }) store)) result) a b → WritesAtMost w (rewrite path options) answer a b
  rewrite_bound options exact (Ok x) answer a b says counts =
      let held = agreed_held B meaning reads store (array_at arrays path) (held_at path w.arrays) array (k.agree path) is.found in
      let keyed : List ℕ → Document → StoreMap → ℕ = λ p d s. length (keyed_chunks (record { path = p; document = d; exact = exact }) s) in
      let meant : Option Held → ℕ = λ o. option_map_or (λ (h : Held). length (keyed_chunks (array_of h) w.store)) o 0 in
      let most : meant (held_at path w.arrays) ≡ keyed (path_of array.core) (document_of meaning array) store =
      ap meant held.1 ∙ ap (λ s. keyed held.0.path held.0.document s) k.store ∙ ap (λ p. keyed p held.0.document store) held.2.path ∙ ap (λ d. keyed (path_of array.core) d store) held.2.document in
      subst (λ answer. WritesAtMost w (rewrite path options) answer a b) (sym says) (subst (λ m. CountsUpTo m a b) (sym most) counts)
  rewrite_bound options exact (Err refusal) answer a b says counts = subst (λ answer. WritesAtMost w (rewrite path options) answer a b) (sym says) counts

  -- a read: what its box may take
  most_meant : (target : Target) (workers : Bool)
      → option_map_or (λ (h : Held). most_of_target h.path h.document w.store target workers) (held_at path w.arrays) 0 ≡ most_of_target (path_of array.core) (document_of meaning array) store target workers
  most_meant target workers =
      let held = agreed_held B meaning reads store (array_at arrays path) (held_at path w.arrays) array (k.agree path) is.found in
      let taken : List ℕ → Document → StoreMap → ℕ = λ p d s. most_of_target p d s target workers in
      let meant : Option Held → ℕ = λ o. option_map_or (λ (h : Held). most_of_target h.path h.document w.store target workers) o 0 in
      ap meant held.1 ∙ ap (λ s. taken held.0.path held.0.document s) k.store ∙ ap (λ p. taken p held.0.document store) held.2.path ∙ ap (λ d. taken (path_of array.core) d store) held.2.document

  pub bytes_bound : (target : Target) (options : CodecOptions) (result : Result ArrayBytes Cause) (answer : Answer) (a b : ℕ) → answer ≡ answer_with result
      → b ≤ a + most_with result (most_of_target (path_of array.core) (document_of meaning array) store target options.workers) → ReadsAtMost w (read path target options) answer a b
  bytes_bound target options (Ok bytes) answer a b says few =
      subst (λ answer. ReadsAtMost w (read path target options) answer a b) (sym says) (subst (λ (m : ℕ). b ≤ a + m) (sym (most_meant target options.workers)) few)
  bytes_bound target options (Err c) answer a b says few =
      subst (λ answer. ReadsAtMost w (read path target options) answer a b) (sym says) (subst (λ (m : ℕ). b ≤ a + most_refused c m) (sym (most_meant target options.workers)) few)
