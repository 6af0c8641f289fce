-- Commands with and without workers: no definition of a step reads the option.
use Rattle.std.proofs.Common.{◌≡◌, ◌∙◌, ℕ, List, take, refl, sym, ap, ⊎_elim, inl, inr, Bool, true, Option, Some, None}
use Rattle.zarr_grids_boxes.specs.Boxes.{Region}
use Rattle.zarr_grids_chunks.specs.Grids.{intersecting}
use Rattle.zarr_grids_keys.specs.Paths.{is_node_path}
use Rattle.zarr_codecs_meaning.specs.Types.{Cell}
use Rattle.zarr_codecs_metadata.specs.Chains.{ReadsCodecs}
use Rattle.zarr_codecs_options.specs.declared.codec_options.CodecOptions.{CodecOptions}
use Rattle.zarr_array_meaning.specs.Arrays.{value_at}
use Rattle.zarr_array_meaning.specs.Rewriting.{keyed_chunks}
use Rattle.zarr_array_meaning.specs.StoreMaps.{StoreMap}
use Rattle.zarr_array_meaning.specs.Writes.{Write, write_to}
use Rattle.zarr_array_meaning.specs.Writing.{ChunkBecomes, IsPartDamaged, LacksRoom, IsCodecRefused, IsOversized, IsKeyed, HasKeys, WroteChunks}
use Rattle.zarr_run_meaning.specs.declared.cause.Cause.{Cause}
use Rattle.zarr_run_meaning.specs.declared.cause.Cause.TheVariants as cause
use Rattle.zarr_run_meaning.specs.Causes.{ChunkRefuses, StopsAt}
use Rattle.zarr_run_meaning.specs.Changes.{WritesChunks, Writes, RewritesChunks, Rewrites}
use Rattle.zarr_run_meaning.specs.Requests.{WriteAsked, Refusal, refusal, cause_in, applied_in, Request, create, reopen, write, read, erase, compact, rewrite, over_store, path_of, done, cells as gives, compacted, refused}
use Rattle.zarr_run_meaning.specs.Steps.{WritesFirst, RewritesFirst, RefusesHeld, RefusesWrite, RefusesRewrite, Refuses, RefusesAt}
use Rattle.zarr_run_meaning.specs.Worlds.{Held, World, array_of, held_at}
use Rattle.zarr_run_meaning.specs.Workers.{with_workers, WorkersAlike}

-- options with this value of `workers`
abbrev set : Bool → CodecOptions → CodecOptions
set workers options = record options { workers = workers }

-- a write with this value of it
abbrev worked : Bool → Write → Write
worked workers w = record w { options = set workers w.options }

-- ---- a chunk that is written

becomes : (workers : Bool) (w : Write) (box : Region) (stored : Option (List ℕ)) (cells : List Cell) → ChunkBecomes w box stored cells → ChunkBecomes (worked workers w) box stored cells
becomes workers w box stored cells b = record { many = b.many; written = b.written; takes = b.takes; kept = b.kept }

damaged : (workers : Bool) (w : Write) (box : Region) (stored : Option (List ℕ)) → IsPartDamaged w box stored → IsPartDamaged (worked workers w) box stored
damaged workers w box stored d = record { fit = d.fit; part = d.part; lost = d.lost }

lacks_room : (workers : Bool) (w : Write) (box : Region) (stored : Option (List ℕ)) → LacksRoom w box stored → LacksRoom (worked workers w) box stored
lacks_room workers w box stored l = record {
  fit = l.fit;
  into = l.into;
  undecoded = l.undecoded;
  passes = (l.passes.0, becomes workers w box stored l.passes.0 l.passes.1, l.passes.2);
}

codec_refused : (workers : Bool) (w : Write) (box : Region) (stored : Option (List ℕ)) → IsCodecRefused w box stored → IsCodecRefused (worked workers w) box stored
codec_refused workers w box stored r = record { fit = r.fit; cells = r.cells; becomes = becomes workers w box stored r.cells r.becomes; called = r.called; refuses = r.refuses }

oversized : (workers : Bool) (w : Write) (box : Region) (stored : Option (List ℕ)) → IsOversized w box stored → IsOversized (worked workers w) box stored
oversized workers w box stored o = record { fit = o.fit; cells = o.cells; becomes = becomes workers w box stored o.cells o.becomes; called = o.called; passes = o.passes }

chunk_refuses : (workers : Bool) (w : Write) (box : Region) (stored : Option (List ℕ)) (c : Cause) → ChunkRefuses w box stored c → ChunkRefuses (worked workers w) box stored c
chunk_refuses workers w box stored cause.Damage r = ⊎_elim (λ d. inl (damaged workers w box stored d)) (λ l. inr (lacks_room workers w box stored l)) r
chunk_refuses workers w box stored cause.Codec r = codec_refused workers w box stored r
chunk_refuses workers w box stored cause.Size r = oversized workers w box stored r
chunk_refuses workers w box stored c r = r

stops : (workers : Bool) (w : Write) (store : StoreMap) (n : ℕ) (c : Cause) → StopsAt w store n c → StopsAt (worked workers w) store n c
stops workers w store n c s = record { chunk = s.chunk; box = s.box; nth = s.nth; refuses = chunk_refuses workers w s.box (value_at w.array store s.chunk) c s.refuses }

keyed : (workers : Bool) (w : Write) (box : Region) (old new : Option (List ℕ)) → IsKeyed w box old new → IsKeyed (worked workers w) box old new
keyed workers w box old new k = record { cells = k.cells; becomes = becomes workers w box old k.cells k.becomes; key = k.key; taken = k.taken; encodes = k.encodes; bytes = k.bytes }

-- ---- chunks that are written, or stored anew

keys : (workers : Bool) (w : Write) (chunks : List (List ℕ)) (store : StoreMap) → HasKeys w chunks store → HasKeys (worked workers w) chunks store
keys workers w chunks store h = record { stored = h.stored; erased = h.erased }

wrote : (workers : Bool) (w : Write) (chunks : List (List ℕ)) (old new : StoreMap) → WroteChunks w chunks old new → WroteChunks (worked workers w) chunks old new
wrote workers w chunks old new r = record {
  fit = r.fit;
  undamaged = r.undamaged;
  shows = r.shows;
  keeps = r.keeps;
  tight = r.tight;
  makes = r.makes;
  others = r.others;
  keys = keys workers w chunks new r.keys;
  keyed = λ chunk box below listed. keyed workers w box (value_at w.array old chunk) (value_at w.array new chunk) (r.keyed chunk box below listed);
}

writes_chunks : (workers : Bool) (h : Held) (w : Write) (chunks : List (List ℕ)) (old new : World) → WritesChunks h w chunks old new → WritesChunks h (worked workers w) chunks old new
writes_chunks workers h w chunks old new r = record { table = r.table; is = r.is; updates = r.updates; stores = wrote workers w chunks old.store new.store r.stores }

rewrites_chunks : (workers : Bool) (h : Held) (options : CodecOptions) (chunks : List (List ℕ)) (old new : World) → RewritesChunks h options chunks old new → RewritesChunks h (set workers options) chunks old new
rewrites_chunks workers h options chunks old new r = record { updates = r.updates; stores = r.stores }

-- ---- commands

-- a write that is asked with this value of the option
abbrev asks : Bool → WriteAsked → WriteAsked
asks workers asked = record asked { options = set workers asked.options }

writes : (workers : Bool) (path : List ℕ) (asked : WriteAsked) (old new : World) → Writes path asked old new → Writes path (asks workers asked) old new
writes workers path asked old new r = record {
  node = r.node;
  held = r.held;
  found = r.found;
  box = r.box;
  values = r.values;
  is = r.is;
  small = r.small;
  writes = writes_chunks workers r.held (write_to (array_of r.held) r.box r.values asked.options) (intersecting r.held.document.grid r.box) old new r.writes;
}

writes_first : (workers : Bool) (h : Held) (asked : WriteAsked) (why : Refusal) (old new : World) → WritesFirst h asked why old new → WritesFirst h (asks workers asked) why old new
writes_first workers h asked why old new r = record {
  box = r.box;
  values = r.values;
  is = r.is;
  small = r.small;
  stops = stops workers (write_to (array_of h) r.box r.values asked.options) old.store (applied_in why) (cause_in why) r.stops;
  writes = writes_chunks workers h (write_to (array_of h) r.box r.values asked.options) (take (applied_in why) (intersecting h.document.grid r.box)) old new r.writes;
  count = r.count;
}

rewrites : (workers : Bool) (path : List ℕ) (options : CodecOptions) (old new : World) → Rewrites path options old new → Rewrites path (set workers options) old new
rewrites workers path options old new r = record {
  node = r.node;
  held = r.held;
  found = r.found;
  small = r.small;
  rewrites = rewrites_chunks workers r.held options (keyed_chunks (array_of r.held) old.store) old new r.rewrites;
}

rewrites_first : (workers : Bool) (h : Held) (options : CodecOptions) (why : Refusal) (old new : World) → RewritesFirst h options why old new → RewritesFirst h (set workers options) why old new
rewrites_first workers h options why old new r = record { small = r.small; stops = r.stops; rewrites = rewrites_chunks workers h options (take (applied_in why) (keyed_chunks (array_of h) old.store)) old new r.rewrites; count = r.count }

-- ---- refusals

refuses_held : (found : Option Held) (one other : Held → Refusal → World → World → Type 0) (c : Cause) (n : ℕ) (old new : World)
    → ((h : Held) → one h (refusal c n) old new → other h (refusal c n) old new) → RefusesHeld found one (refusal c n) old new → RefusesHeld found other (refusal c n) old new
refuses_held (Some h) one other c n old new turn r = turn h r
refuses_held None one other cause.NoArray n old new turn r = r
refuses_held None one other c n old new turn r = absurd r

refuses_write : (workers : Bool) (asked : WriteAsked) (h : Held) (c : Cause) (n : ℕ) (old new : World) → RefusesWrite asked h (refusal c n) old new → RefusesWrite (asks workers asked) h (refusal c n) old new
refuses_write workers asked h c n old new r = ⊎_elim inl (λ (first : WritesFirst h asked (refusal c n) old new). inr (writes_first workers h asked (refusal c n) old new first)) r

refuses_rewrite : (workers : Bool) (options : CodecOptions) (h : Held) (c : Cause) (n : ℕ) (old new : World) → RefusesRewrite options h (refusal c n) old new → RefusesRewrite (set workers options) h (refusal c n) old new
refuses_rewrite workers options h c n old new r =
    ⊎_elim inl (λ (first : RewritesFirst h options (refusal c n) old new). inr (rewrites_first workers h options (refusal c n) old new first)) r

-- a refusal of one command is that of another with the same path
refuses_at : (reads : ReadsCodecs) (one other : Request) (c : Cause) (n : ℕ) (old new : World) → path_of one ≡ path_of other
    → (Refuses reads one (refusal c n) old new → Refuses reads other (refusal c n) old new) → RefusesAt reads one (refusal c n) old new → RefusesAt reads other (refusal c n) old new
refuses_at reads one other cause.Path n old new same turn r = (ap is_node_path (sym same) ∙ r.0, r.1)
refuses_at reads one other cause.Memory n old new same turn r = ⊎_elim inl (λ (is : (is_node_path (path_of one) ≡ true) × Refuses reads one (refusal cause.Memory n) old new). inr (ap is_node_path (sym same) ∙ is.0, turn is.1)) r
refuses_at reads one other c n old new same turn r = (ap is_node_path (sym same) ∙ r.0, turn r.1)

-- ---- steps

pub workers_alike : WorkersAlike
workers_alike reads old new (create path document order) answer workers s = s
workers_alike reads old new (reopen path order) answer workers s = s
workers_alike reads old new (erase path chunks) answer workers s = s
workers_alike reads old new (write path target given options) done workers s = (writes workers path (record { target = target; cells = given; options = options }) old new s.0, s.1)
workers_alike reads old new (write path target given options) (refused c n) workers s =
    let asked : WriteAsked = record { target = target; cells = given; options = options } in
    refuses_at reads (write path target given options) (with_workers workers (write path target given options)) c n old new refl
    (refuses_held (held_at path old.arrays) (RefusesWrite asked) (RefusesWrite (asks workers asked)) c n old new (λ h. refuses_write workers asked h c n old new)) s
workers_alike reads old new (write path target given options) answer workers s = s
workers_alike reads old new (read path target options) (gives payload) workers s = s
workers_alike reads old new (read path target options) (refused c n) workers s =
    refuses_at reads (read path target options) (with_workers workers (read path target options)) c n old new refl (λ r. r) s
workers_alike reads old new (read path target options) answer workers s = s
workers_alike reads old new (compact path chunk options) (compacted changed) workers s = s
workers_alike reads old new (compact path chunk options) (refused c n) workers s =
    refuses_at reads (compact path chunk options) (with_workers workers (compact path chunk options)) c n old new refl (λ r. r) s
workers_alike reads old new (compact path chunk options) answer workers s = s
workers_alike reads old new (rewrite path options) done workers s = (rewrites workers path options old new s.0, s.1)
workers_alike reads old new (rewrite path options) (refused c n) workers s =
    refuses_at reads (rewrite path options) (with_workers workers (rewrite path options)) c n old new refl
    (refuses_held (held_at path old.arrays) (RefusesRewrite options) (RefusesRewrite (set workers options)) c n old new (λ h. refuses_rewrite workers options h c n old new)) s
workers_alike reads old new (rewrite path options) answer workers s = s

-- ---- what else a command keeps with any value of the option

pub path_with : (workers : Bool) (request : Request) → path_of (with_workers workers request) ≡ path_of request
path_with workers (create path document order) = refl
path_with workers (reopen path order) = refl
path_with workers (write path target given options) = refl
path_with workers (read path target options) = refl
path_with workers (erase path chunks) = refl
path_with workers (compact path chunk options) = refl
path_with workers (rewrite path options) = refl

pub over_with : (takes_ranges workers : Bool) (request : Request) → with_workers workers (over_store takes_ranges request) ≡ over_store takes_ranges (with_workers workers request)
over_with takes_ranges workers (create path document order) = refl
over_with takes_ranges workers (reopen path order) = refl
over_with takes_ranges workers (write path target given options) = refl
over_with takes_ranges workers (read path target options) = refl
over_with takes_ranges workers (erase path chunks) = refl
over_with takes_ranges workers (compact path chunk options) = refl
over_with takes_ranges workers (rewrite path options) = refl
