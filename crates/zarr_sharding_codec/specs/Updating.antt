-- What the calls that put new elements into subchunks are given, and what they make of it.
use Rattle.std.specs.Prelude.{◌≡◌, ℕ, List, length, get_or, nat_lt, Option, true, Vec, Result}
use Rattle.std.specs.List.{list_all}
use Rattle.std.specs.declared.alloc.Global.{Global}
use Rattle.zarr_grids_boxes.specs.Boxes.{product}
use Rattle.zarr_grids_boxes.specs.Subsets.{region_of}
use Rattle.zarr_codecs_meaning.specs.Types.{Cell}
use Rattle.zarr_codecs_arrays.specs.Outcomes.{IsValid}
use Rattle.zarr_codecs_arrays.specs.Views.{elements_of, payload_of}
use Rattle.zarr_codecs_arrays.specs.declared.error.CodecError.{CodecError}
use Rattle.zarr_codecs_traits.specs.Indexers.{asked_of, numbers_asked, numbers_of}
use Rattle.zarr_codecs_traits.specs.declared.array_to_bytes.ArrayToBytesCodecTraits as codecs
use Rattle.zarr_sharding_codec.specs.BoxReading.{IsCutGroup}
use Rattle.zarr_sharding_codec.specs.PartWriting.{IsOf, PutsAll, Stored, UpdatesGroup, UpdatesSlices, given_group, insides, positions, put_at, stored_in}
use Rattle.zarr_sharding_codec.specs.Views.{inner_of}
use Rattle.zarr_sharding_codec.specs.declared.box_updating.BoxElements.{BoxElements}
use Rattle.zarr_sharding_codec.specs.declared.box_updating.CutElements.{CutElements}
use Rattle.zarr_sharding_codec.specs.declared.codec.ShardingCodec.{ShardingCodec}
use Rattle.zarr_sharding_codec.specs.declared.updating.AskedElements.{AskedElements}
use Rattle.zarr_sharding_codec.specs.declared.updating.GroupElements.{GroupElements}
use Rattle.zarr_sharding_codec.specs.declared.updating.NumberedElements.{NumberedElements}
use Rattle.zarr_sharding_codec.specs.declared.updating.ShardInSource.{ShardInSource}
use Rattle.zarr_sharding_codec.specs.declared.updating.SubchunkElements.{SubchunkElements}
use Rattle.zarr_sharding_places.specs.Groups.{no_place}
use Rattle.zarr_sharding_places.specs.declared.locating.AskedPlace.{AskedPlace}
use Rattle.zarr_sharding_index.specs.Known.{end_of, pairs_in, known_length, known_location, known_total}
use Rattle.zarr_sharding_index.specs.declared.slice_changes.SliceChange.{SliceChange}

-- ---- the shard

-- what is known of a shard in a source is of what the source holds
abbrev pub IsKnownOf : ShardInSource → Option (List ℕ) → Type 0
IsKnownOf shard contents = IsOf (known_location shard.known.now) (known_length shard.known.now) contents (pairs_in shard.known.now) (end_of shard.known.now)

-- how many bytes the shard has, by what is known of it
abbrev pub total_of : ShardInSource → ℕ
total_of shard = known_total shard.known.now

-- what is stored of it, by a codec
abbrev pub stored_of : {I X : Type 0} → codecs.Ghosts I → ShardingCodec I X → ShardInSource → Option (List ℕ) → Stored
stored_of i codec shard contents = stored_in (i.meaning (inner_of codec)) (i.is_function (inner_of codec)) (elements_of shard.elements.now) contents (pairs_in shard.known.now)

-- ---- places in several subchunks

-- the numbers of the places that new elements are for
abbrev pub numbers_given : AskedElements → List ℕ
numbers_given given = numbers_asked given.shape.now (asked_of given.indexer)

-- where the new elements are values, one for each place that is asked for: the subchunks that these lie in, of subchunks of this shape, are changed, or why they aren't
abbrev pub PutsAsked : Stored → List ℕ → AskedElements → Result (Vec SliceChange Global) CodecError → Type 0
PutsAsked stored subchunk given result =
    (cells : List Cell) → IsValid stored.elements.type (payload_of given.bytes) (length (numbers_given given)) cells → UpdatesSlices stored (put_at given.shape.now subchunk (numbers_given given) cells) result

-- the same, of places by their numbers
abbrev pub PutsNumbered : Stored → List ℕ → NumberedElements → Result (Vec SliceChange Global) CodecError → Type 0
PutsNumbered stored subchunk given result =
    (cells : List Cell) → IsValid stored.elements.type (payload_of given.bytes.now) (length given.numbers.now) cells → UpdatesSlices stored (put_at given.shape.now subchunk given.numbers.now cells) result

-- the numbers of the places of the box that new elements are for
abbrev pub numbers_boxed : BoxElements → List ℕ
numbers_boxed given = numbers_of given.shape.now (region_of given.region.now)

-- the same, of the places of a box
abbrev pub PutsBox : Stored → List ℕ → BoxElements → Result (Vec SliceChange Global) CodecError → Type 0
PutsBox stored subchunk given result =
    (cells : List Cell) → IsValid stored.elements.type (payload_of given.bytes.now) (length (numbers_boxed given)) cells → UpdatesSlices stored (put_at given.shape.now subchunk (numbers_boxed given) cells) result

-- ---- places in one subchunk

-- the number of the subchunk that places lie in, of which there is one
abbrev pub number_of : List AskedPlace → ℕ
number_of group = (get_or group 0 no_place).subchunk

-- where the new elements are values, and each place is one of the subchunk and stands among theirs: the subchunk is changed, or why it isn't
abbrev pub PutsGroup : Stored → GroupElements → Result SliceChange CodecError → Type 0
PutsGroup stored given result =
    (cells : List Cell) (count : ℕ) → IsValid stored.elements.type (payload_of given.bytes.now) count cells
    → list_all (λ n. nat_lt n count) (positions given.group.now) ≡ true → list_all (λ n. nat_lt n (product given.shape.now)) (insides given.group.now) ≡ true
    → UpdatesGroup stored (given_group given.shape.now (number_of given.group.now) given.group.now cells) result

-- where all elements of a subchunk are given, and are values: it is changed as by any places that take all of it, or why it isn't
abbrev pub ReplacesSubchunk : Stored → SubchunkElements → Result SliceChange CodecError → Type 0
ReplacesSubchunk stored given result =
    (cells : List Cell) (group : List AskedPlace) → IsValid stored.elements.type (payload_of given.bytes) (product given.subchunk.shape.now) cells
    → PutsAll given.subchunk.shape.now stored.elements.fill group cells → UpdatesGroup stored (given_group given.subchunk.shape.now given.subchunk.number group cells) result

-- where the new elements of a box are values: the subchunk that part of the box lies in is changed as by the places of that part, or why it isn't
abbrev pub PutsCut : Stored → CutElements → Result SliceChange CodecError → Type 0
PutsCut stored given result =
    (cells : List Cell) (group : List AskedPlace) → IsValid stored.elements.type (payload_of given.bytes.now) (product given.lengths.now) cells → IsCutGroup given.lengths.now given.cut.now group
    → UpdatesGroup stored (given_group given.cut.now.inside.shape.items given.cut.now.inside.number group cells) result
