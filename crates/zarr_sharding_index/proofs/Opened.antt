-- A shard is known by its fetched index.
use Rattle.std.proofs.Common.{◌≡◌, inl, inr, ℕ, ◌+◌, ◌-◌, ◌<◌, List, length, ap, ◌∙◌, sym, subst, arith, Option, Some, None, option_map, Bool, false, if◌then◌else◌, length-drop, Result, Ok, Err, IfErr}
use Rattle.std.specs.Prelude.{nat_le}
use Rattle.std.specs.List.{list_all}
use Rattle.std.proofs.lemmas.Bool.{leb-true, lt-leb}
use Rattle.std.proofs.lemmas.List.{length-take}
use Rattle.zarr_codecs_meaning.specs.Chains.{Chain, Location}
use Rattle.zarr_codecs_meaning.specs.Chains.Location.{at_start, at_end}
use Rattle.zarr_codecs_meaning.specs.Decoding.{decoded, index_bytes, pairs_of_cells}
use Rattle.zarr_codecs_meaning.specs.Encoding.{base_of, index_size}
use Rattle.zarr_codecs_meaning.specs.Types.{uint64, zero_filled}
use Rattle.zarr_codecs_meaning.proofs.Lists.{if_some, some_same}
use Rattle.zarr_codecs_arrays.specs.declared.error.CodecError.{CodecError}
use Rattle.zarr_codecs_arrays.specs.declared.error.CodecError.TheVariants as error
use Rattle.zarr_sharding_changes.specs.Compaction.{data_in}
use Rattle.zarr_sharding_index.specs.declared.fetched_index.WholeIndex.{WholeIndex}
use Rattle.zarr_sharding_index.specs.HeldIndex.{IsWholeFetched, held_pairs}
use Rattle.zarr_sharding_index.specs.Views.{pairs_of}
use Rattle.zarr_sharding_index.specs.Held.{lies_between}
use Rattle.zarr_sharding_index.specs.declared.known_shard.KnownShard.{KnownShard}
use Rattle.zarr_sharding_index.specs.Opened.{Misfits, OpenRefused, Opens, data_end}

-- the data part ends where its bytes do
data_ends : (location : Location) (size : ℕ) (value : List ℕ) (end : ℕ) → data_end location size (length value) ≡ Some end → end ≡ base_of location size + length (data_in location size value)
data_ends at_start size value end is =
    let both = if_some (nat_le size (length value)) (Some (length value)) end is in
    let long = leb-true size (length value) both.0 in
    let same = some_same both.1 in
    let count = length-drop size value in
    omega (arith, long, same, count)
data_ends at_end size value end is =
    let both = if_some (nat_le size (length value)) (Some (length value - size)) end is in
    let same = some_same both.1 in
    let count = length-take (length value - size) value in
    omega (arith, same, count)

-- an index longer than its value
too_short : (index : Chain) (location : Location) (shape value : List ℕ) → length value < index_size index shape → held_pairs index location shape value ≡ None
too_short index location shape value short =
    let size = index_size index shape in
    ap (λ (b : Bool). if b then option_map pairs_of_cells (decoded index (zero_filled uint64) shape (index_bytes location size value)) else None) (lt-leb size (length value) short)

misfit_damaged : (index : Chain) (location : Location) (shape value : List ℕ) (found : WholeIndex) → IsWholeFetched index location shape (Some value) (Some found) → Misfits location shape (index_size index shape) found → OpenRefused index location shape (Some value) error.Damage
misfit_damaged index location shape value found h (inl short) = let total = h.1 in inl (too_short index location shape value (omega (arith, short, total)))
misfit_damaged index location shape value found h (inr (inl other)) = let many = h.0.many in absurd (other (omega (arith, many)))
misfit_damaged index location shape value found h (inr (inr outside)) =
    let size = index_size index shape in
    let base = base_of location size in
    let ends = data_ends location size value outside.0 (ap (data_end location size) (sym h.1) ∙ outside.1) in
    inr (pairs_of found.index, h.0.is, subst (λ n. list_all (lies_between base n) (pairs_of found.index) ≡ false) ends outside.2)

pub known_refused : (index : Chain) (location : Location) (shape : List ℕ) (contents : Option (List ℕ)) (fetched : Option WholeIndex) (e : CodecError) → IsWholeFetched index location shape contents fetched → Opens location shape (index_size index shape) fetched (Err e)
    → OpenRefused index location shape contents e
known_refused index location shape None None error.Damage h k = k
known_refused index location shape None (Some found) error.Damage h k = elim h [ ]
known_refused index location shape (Some value) None error.Damage h k = elim h [ ]
known_refused index location shape (Some value) (Some found) error.Damage h k = misfit_damaged index location shape value found h k
known_refused index location shape None None error.Size h k = k
known_refused index location shape None (Some found) error.Size h k = elim h [ ]
known_refused index location shape (Some value) None error.Size h k = elim h [ ]
known_refused index location shape (Some value) (Some found) error.Size h k = let total = h.1 in omega (arith, k, total)
known_refused index location shape contents fetched error.Memory h k = tt
known_refused index location shape contents fetched error.Source h k = tt
known_refused index location shape contents fetched error.Codec h k = k
known_refused index location shape contents fetched error.Fit h k = k
known_refused index location shape contents fetched error.IncompatibleIndexer h k = k
known_refused index location shape contents fetched error.Unsupported h k = k
known_refused index location shape contents fetched (error.Other text) h k = k
known_refused index location shape contents fetched error.ExpectedFixedLengthBytes h k = k
known_refused index location shape contents fetched error.ExpectedVariableLengthBytes h k = k
known_refused index location shape contents fetched error.ExpectedOptionalBytes h k = k
known_refused index location shape contents fetched error.InvalidNumberOfElements h k = k
known_refused index location shape contents fetched error.CellOutOfRange h k = k

-- what is known, or why nothing is
pub known_or_refused : (index : Chain) (location : Location) (shape : List ℕ) (contents : Option (List ℕ)) (fetched : Option WholeIndex) (result : Result KnownShard CodecError) → IsWholeFetched index location shape contents fetched → Opens location shape (index_size index shape) fetched result
    → IfErr result (OpenRefused index location shape contents)
known_or_refused index location shape contents fetched (Ok shard) h k = tt
known_or_refused index location shape contents fetched (Err e) h k = known_refused index location shape contents fetched e h k
