-- What compactions and rewrites say of an array, where the values that they leave are told of in fewer cases.
use Rattle.std.proofs.Common.{ℕ, Bool, List, Option, inl, inr, Result, Ok, Err, IsTrue, OnOk, IfErr, take}
use Rattle.std.specs.Prelude.{IfOk}
use Rattle.zarr_array_meaning.specs.Arrays.{Array}
use Rattle.zarr_array_meaning.specs.Compacting.{CompactsChunk}
use Rattle.zarr_array_meaning.specs.Documents.{Document}
use Rattle.zarr_array_meaning.specs.Rewriting.{IsRewritten, RewroteChunks, keyed_chunks}
use Rattle.zarr_array_meaning.specs.StoreMaps.{StoreMap}
use Rattle.zarr_run_boxes.specs.Compacting.{CompactsTarget, CompactRefused}
use Rattle.zarr_run_boxes.specs.Rewriting.{RewritesTarget, RewriteRefused}
use Rattle.zarr_run_boxes.specs.declared.refusal.Refusal.{Refusal}
use Rattle.zarr_run_meaning.specs.declared.cause.Cause.{Cause}
use Rattle.zarr_run_meaning.specs.declared.cause.Cause.TheVariants as cause
use Rattle.zarr_run_meaning.specs.Causes.{IsNotCompacted, CompactRefuses, IsNotRewritten, RewriteStopsAt}

module _ (path : List ℕ) (document : Document) (exact weak : Bool) where
  abbrev strong : Array
  strong = record { path = path; document = document; exact = exact }

  abbrev weaker : Array
  weaker = record { path = path; document = document; exact = weak }

  -- ---- compactions

  compacts_chunk : (chunk : List ℕ) (changed : Bool) (old new : StoreMap) → CompactsChunk strong chunk changed old new → CompactsChunk weaker chunk changed old new
  compacts_chunk chunk changed old new is = record { box = is.box; below = is.below; is = is.is; shows = is.shows; others = is.others }

  pub compacts_alike : (chunk : List ℕ) (old new : StoreMap) (result : Result Bool Cause) → IfOk result (λ changed. CompactsTarget strong chunk changed old new) → IfOk result (λ changed. CompactsTarget weaker chunk changed old new)
  compacts_alike chunk old new (Ok changed) is = record { small = is.small; compacts = compacts_chunk chunk changed old new is.compacts }
  compacts_alike chunk old new (Err c) is = tt

  not_compacted : (store : StoreMap) (chunk : List ℕ) (c : Cause) → IsNotCompacted strong store chunk c → IsNotCompacted weaker store chunk c
  not_compacted store chunk c is = record { box = is.box; below = is.below; small = is.small; value = is.value; stored = is.stored; refuses = is.refuses }

  compact_refuses : (store : StoreMap) (chunk : List ℕ) (c : Cause) → CompactRefuses strong store chunk c → CompactRefuses weaker store chunk c
  compact_refuses store chunk cause.Region why = why
  compact_refuses store chunk cause.Size (inl large) = inl large
  compact_refuses store chunk cause.Size (inr is) = inr (not_compacted store chunk cause.Size is)
  compact_refuses store chunk cause.Store why = why
  compact_refuses store chunk cause.Fit is = not_compacted store chunk cause.Fit is
  compact_refuses store chunk cause.Damage is = not_compacted store chunk cause.Damage is
  compact_refuses store chunk cause.Codec is = not_compacted store chunk cause.Codec is
  compact_refuses store chunk c why = absurd why

  pub compact_refused_alike : (store : StoreMap) (chunk : List ℕ) (result : Result Bool Cause) → IfErr result (λ c. CompactRefused strong chunk c store) → IfErr result (λ c. CompactRefused weaker chunk c store)
  compact_refused_alike store chunk (Ok changed) why = tt
  compact_refused_alike store chunk (Err c) (inl why) = inl (compact_refuses store chunk c why)
  compact_refused_alike store chunk (Err c) (inr is) = inr is

  -- ---- rewrites

  module _ (less : IsTrue weak → IsTrue exact) (store_empty : Bool) where
    rewritten : (shape old : List ℕ) (new : Option (List ℕ)) → IsRewritten strong store_empty shape old new → IsRewritten weaker store_empty shape old new
    rewritten shape old new is = record { fit = is.fit; cells = is.cells; decodes = is.decodes; key = is.key; encodes = λ exact. is.encodes (less exact); stands = is.stands }

    rewrote : (chunks : List (List ℕ)) (old new : StoreMap) → RewroteChunks strong store_empty chunks old new → RewroteChunks weaker store_empty chunks old new
    rewrote chunks old new is = record {
      each = λ chunk box below listed. let (value, stored, again) = is.each chunk box below listed in (value, stored, rewritten box.shape value _ again);
      shows = is.shows;
      others = is.others;
    }

    pub rewrites_alike : (old new : StoreMap) (result : Result (Unit {0}) Refusal) → OnOk result (RewritesTarget strong store_empty old new) → OnOk result (RewritesTarget weaker store_empty old new)
    rewrites_alike old new (Ok x) is = record { small = is.small; rewrote = rewrote (keyed_chunks strong old) old new is.rewrote }
    rewrites_alike old new (Err refusal) is = tt

    not_rewritten : (store : StoreMap) (n : ℕ) (c : Cause) → IsNotRewritten strong store store_empty n c → IsNotRewritten weaker store store_empty n c
    not_rewritten store n c is = record { chunk = is.chunk; nth = is.nth; box = is.box; below = is.below; value = is.value; stored = is.stored; refuses = is.refuses }

    stops_at : (store : StoreMap) (n : ℕ) (c : Cause) → RewriteStopsAt strong store store_empty n c → RewriteStopsAt weaker store store_empty n c
    stops_at store n cause.Store stops = stops
    stops_at store n cause.Memory stops = stops
    stops_at store n c stops = not_rewritten store n c stops

    pub rewrite_refused_alike : (old new : StoreMap) (result : Result (Unit {0}) Refusal) → IfErr result (λ refusal. RewriteRefused strong store_empty refusal old new) → IfErr result (λ refusal. RewriteRefused weaker store_empty refusal old new)
    rewrite_refused_alike old new (Ok x) why = tt
    rewrite_refused_alike old new (Err refusal) (inl whole) = inl whole
    rewrite_refused_alike old new (Err refusal) (inr first) = inr (record {
      small = first.small;
      stops = stops_at old refusal.applied refusal.cause first.stops;
      rewrote = rewrote (take refusal.applied (keyed_chunks strong old)) old new first.rewrote;
    })
