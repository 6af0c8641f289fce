-- Why new cells are not put.
use Rattle.std.proofs.Common.{inl, inr, ℕ, List, Bool, IfErr, Result, Ok, Err}
use Rattle.zarr_codecs_arrays.specs.declared.error.CodecError.{CodecError}
use Rattle.zarr_codecs_arrays.specs.declared.error.CodecError.TheVariants as error
use Rattle.zarr_codecs_meaning.specs.Chains.{Chain, Location}
use Rattle.zarr_codecs_meaning.specs.Encoding.{Pair}
use Rattle.zarr_codecs_meaning.specs.Places.{index_shape}
use Rattle.zarr_codecs_meaning.specs.Standing.{index_layout}
use Rattle.zarr_sharding_changes.specs.Changes.{Change, pairs_after}
use Rattle.zarr_sharding_codec.specs.PartWriting.{AreChanged, Put, UpdatesSlices}
use Rattle.zarr_sharding_partial.specs.Shards.{ShardOf}
use Rattle.zarr_sharding_partial.specs.Puts.{IsRefusedUnwritten, NotWritten}
use Rattle.zarr_sharding_partial.specs.Tables.{stored_of}
use Rattle.zarr_sharding_index.specs.Written.{ChangesRefused}
use Rattle.zarr_sharding_index.specs.Held.{Held}

-- the subchunks that are met are not encoded anew
pub unchanged : (s : ShardOf) (exact : Bool) (new_cells : Put) (held : Held) (e : CodecError) → UpdatesSlices (stored_of s exact held) new_cells (Err e) → NotWritten s exact new_cells held e
unchanged s exact new_cells held error.Damage why = why
unchanged s exact new_cells held error.Codec why = inl why
unchanged s exact new_cells held error.Size why = inl why
unchanged s exact new_cells held error.Source why = tt
unchanged s exact new_cells held error.Memory why = tt
unchanged s exact new_cells held e why = absurd why

-- their slices are not written
pub unwritten : (A : Type 0) (s : ShardOf) (exact : Bool) (new_cells : Put) (held : Held) (changes : List Change) (e : CodecError) → AreChanged (stored_of s exact held) new_cells changes
    → ChangesRefused {A = A} (index_layout s.index s.location (index_shape s.shape s.subchunk)) changes held.end (pairs_after held.end changes held.pairs) (Err e) → NotWritten s exact new_cells held e
unwritten A s exact new_cells held changes error.Codec changed why = inr (record { changes = changes; changed = changed; some = why.0; is = why.1 })
unwritten A s exact new_cells held changes error.Size changed (inl long) = inr (inr (record { changes = changes; changed = changed; is = long }))
unwritten A s exact new_cells held changes error.Size changed (inr why) = inr (inl (record { changes = changes; changed = changed; some = why.0; is = why.1 }))
unwritten A s exact new_cells held changes error.Source changed why = tt
unwritten A s exact new_cells held changes error.Memory changed why = tt
unwritten A s exact new_cells held changes e changed why = absurd why

-- what changes are refused for is none of what a write is refused for first
pub written_after : (A X : Type 0) (index : Chain) (location : Location) (shape : List ℕ) (changes : List Change) (end : ℕ) (pairs : List Pair) (result : Result A CodecError) → ChangesRefused (index_layout index location shape) changes end pairs result → IfErr result (λ e. IsRefusedUnwritten e → X)
written_after A X index location shape changes end pairs (Ok value) why = tt
written_after A X index location shape changes end pairs (Err error.Codec) why = λ no. absurd no
written_after A X index location shape changes end pairs (Err error.Size) why = λ no. absurd no
written_after A X index location shape changes end pairs (Err error.Source) why = λ no. absurd no
written_after A X index location shape changes end pairs (Err error.Memory) why = λ no. absurd no
written_after A X index location shape changes end pairs (Err e) why = absurd why
