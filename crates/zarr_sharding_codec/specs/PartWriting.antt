-- What putting new cells at places of the array of a shard makes of its subchunks.
use Rattle.std.specs.Prelude.{◌≡◌, ◌⊎◌, ◌==◌, ℕ, ◌<◌, List, [], ◌∷◌, map, length, get_or, Option, Some, None, unwrap_or, if◌then◌else◌, Bool, true, false, Vec, Result, Ok, Err}
use Rattle.std.specs.declared.alloc.Global.{Global}
use Rattle.zarr_grids_boxes.specs.Boxes.{product}
use Rattle.zarr_codecs_meaning.specs.Chains.{Chain, Location}
use Rattle.zarr_codecs_meaning.specs.Encoding.{Pair, absent_pair}
use Rattle.zarr_codecs_meaning.specs.Places.{Part, gather, parts_of}
use Rattle.zarr_codecs_meaning.specs.Refusals.{CodecRefuses, PassesIndex}
use Rattle.zarr_codecs_meaning.specs.Types.{Cell, Elements, is_fill, IsTooLarge}
use Rattle.zarr_codecs_arrays.specs.declared.error.CodecError.{CodecError}
use Rattle.zarr_codecs_arrays.specs.declared.error.CodecError.TheVariants as error
use Rattle.zarr_codecs_traits.specs.Indexers.{put}
use Rattle.zarr_sharding_changes.specs.Changes.{Change}
use Rattle.zarr_sharding_codec.specs.Slices.{IsPieceStored}
use Rattle.zarr_sharding_places.specs.Locating.{inside_of, part_shape, subchunk_of}
use Rattle.zarr_sharding_places.specs.Pieces.{piece_decoded}
use Rattle.zarr_sharding_places.specs.declared.locating.AskedPlace.{AskedPlace}
use Rattle.zarr_sharding_index.specs.Held.{are_absent, shard_length}
use Rattle.zarr_sharding_index.specs.SliceChanges.{change_of, changes_of}
use Rattle.zarr_sharding_index.specs.declared.slice_changes.SliceChange.{SliceChange}

-- ---- new cells, subchunk by subchunk

-- of the places with these numbers, those that lie in a subchunk, by their numbers in it
abbrev pub numbers_in : List ℕ → List ℕ → ℕ → List ℕ → List ℕ
numbers_in shape subchunk k [] = []
numbers_in shape subchunk k (n ∷ ns) = if subchunk_of shape subchunk n == k then inside_of shape subchunk n ∷ numbers_in shape subchunk k ns else numbers_in shape subchunk k ns

-- of the cells for these places, those for places that lie in a subchunk
abbrev pub given_in : List ℕ → List ℕ → ℕ → List ℕ → List Cell → List Cell
given_in shape subchunk k [] cells = []
given_in shape subchunk k (n ∷ ns) [] = []
given_in shape subchunk k (n ∷ ns) (cell ∷ cells) = if subchunk_of shape subchunk n == k then cell ∷ given_in shape subchunk k ns cells else given_in shape subchunk k ns cells

-- new cells for the places with these numbers in an array of this shape, which is cut into subchunks of that one
pub record Put : Type 0 where
  pub shape : List ℕ
  pub subchunk : List ℕ
  pub numbers : List ℕ
  pub cells : List Cell

-- the same, put together
abbrev pub put_at : List ℕ → List ℕ → List ℕ → List Cell → Put
put_at shape subchunk numbers cells = record { shape = shape; subchunk = subchunk; numbers = numbers; cells = cells }

-- the cells of a subchunk after the new ones for places in it were put
abbrev pub cells_put : Put → ℕ → List Cell → List Cell
cells_put new k before = put (numbers_in new.shape new.subchunk k new.numbers) (given_in new.shape new.subchunk k new.numbers new.cells) before

-- one of the places lies in a subchunk
pub record IsMet (new : Put) (k : ℕ) : Type 0 where
  pub at_ : ℕ
  pub below : at_ < length new.numbers
  pub is : subchunk_of new.shape new.subchunk (get_or new.numbers at_ 0) ≡ k

-- ---- what is stored

-- a shard's value and its pairs, the chain of its subchunks, whether what that makes depends on the elements alone, and what the elements are
pub record Stored : Type 0 where
  pub inner : Chain
  pub exact : Bool
  pub elements : Elements
  pub value : List ℕ
  pub pairs : List Pair

-- the same of what a source holds; nothing counts as an empty value
abbrev pub stored_in : Chain → Bool → Elements → Option (List ℕ) → List Pair → Stored
stored_in inner exact elements contents pairs = record { inner = inner; exact = exact; elements = elements; value = unwrap_or contents []; pairs = pairs }

-- what is known of a shard is of what a source holds: of a value as many bytes as it has with its index, and where there is none, that each subchunk is absent
abbrev pub IsOf : Location → ℕ → Option (List ℕ) → List Pair → ℕ → Type 0
IsOf location size None pairs end = are_absent pairs ≡ true
IsOf location size (Some value) pairs end = length value ≡ shard_length location size end

-- the cells of a subchunk of this shape: the fill value where it is absent, else what its slice is decoded to
abbrev pub cells_held : Stored → List ℕ → ℕ → Option (List Cell)
cells_held stored shape k = piece_decoded stored.inner stored.elements stored.value shape (get_or stored.pairs k absent_pair)

-- the shape of the subchunk with this number, of the array that new cells are put in
abbrev pub shape_in : Put → ℕ → List ℕ
shape_in new k = part_shape new.shape new.subchunk k

-- ---- what is written

-- a change is what is stored of a subchunk's cells after the new ones were put: no slice where they are all fill, else the one that its chain makes of them
pub record IsUpdated (stored : Stored) (new : Put) (change : Change) : Type 0 where
  pub below : change.0 < length stored.pairs
  pub met : IsMet new change.0
  pub before : List Cell
  pub held : cells_held stored (shape_in new change.0) change.0 ≡ Some before
  pub slice : IsPieceStored stored.inner stored.exact stored.elements (shape_in new change.0, cells_put new change.0 before) change.1

-- each of several changes
abbrev pub AreUpdated : Stored → Put → List Change → Type 0
AreUpdated stored new [] = Unit {0}
AreUpdated stored new (change ∷ changes) = IsUpdated stored new change × AreUpdated stored new changes

-- one of the changes is of a subchunk
abbrev pub HasChange : ℕ → List Change → Type 0
HasChange k [] = ⊥
HasChange k (change ∷ changes) = (change.0 ≡ k) ⊎ HasChange k changes

-- the number of the subchunk of a change
abbrev pub number_at : List Change → ℕ → ℕ
number_at changes i = (get_or changes i (0, None)).0

-- the changes are of the subchunks that one of the places lies in, of all of them, and one of each, in the order of their numbers
pub record AreChanged (stored : Stored) (new : Put) (changes : List Change) : Type 0 where
  pub are : AreUpdated stored new changes
  pub once : (i j : ℕ) → i < j → j < length changes → number_at changes i < number_at changes j
  pub all : (t : ℕ) → t < length new.numbers → HasChange (subchunk_of new.shape new.subchunk (get_or new.numbers t 0)) changes

-- a subchunk that one of the places lies in, and that isn't all fill afterwards, is refused by its chain
pub record IsRefusedAt (refuses : Chain → Elements → List ℕ → List Cell → Type 0) (stored : Stored) (new : Put) : Type 0 where
  pub number : ℕ
  pub below : number < length stored.pairs
  pub met : IsMet new number
  pub before : List Cell
  pub held : cells_held stored (shape_in new number) number ≡ Some before
  pub some : is_fill stored.elements.fill (cells_put new number before) ≡ false
  pub is : refuses stored.inner stored.elements (shape_in new number) (cells_put new number before)

-- a subchunk that one of the places lies in is damaged
pub record IsLostAt (stored : Stored) (new : Put) : Type 0 where
  pub number : ℕ
  pub below : number < length stored.pairs
  pub met : IsMet new number
  pub lost : cells_held stored (shape_in new number) number ≡ None

-- a subchunk that one of the places lies in has too many places
pub record IsTooLargeAt (stored : Stored) (new : Put) : Type 0 where
  pub number : ℕ
  pub below : number < length stored.pairs
  pub met : IsMet new number
  pub is : IsTooLarge stored.elements.type (product (shape_in new number))

-- the changes of the subchunks that the places lie in, or why there are none
abbrev pub UpdatesSlices : Stored → Put → Result (Vec SliceChange Global) CodecError → Type 0
UpdatesSlices stored new (Ok changes) = AreChanged stored new (changes_of changes.items)
UpdatesSlices stored new (Err error.Damage) = IsLostAt stored new
UpdatesSlices stored new (Err error.Codec) = IsRefusedAt CodecRefuses stored new
UpdatesSlices stored new (Err error.Size) = IsTooLargeAt stored new ⊎ IsRefusedAt PassesIndex stored new
UpdatesSlices stored new (Err error.Source) = Unit {0}
UpdatesSlices stored new (Err error.Memory) = Unit {0}
UpdatesSlices stored new (Err e) = ⊥

-- ---- one subchunk

-- places of a subchunk by their numbers in it
abbrev pub insides : List AskedPlace → List ℕ
insides group = map (λ (place : AskedPlace). place.inside) group

-- where places stand among all that are asked for
abbrev pub positions : List AskedPlace → List ℕ
positions group = map (λ (place : AskedPlace). place.position) group

-- the cells of a subchunk after those for places in it were put, as they stand among all new ones
abbrev pub group_put : Cell → List AskedPlace → List Cell → List Cell → List Cell
group_put fill group given before = put (insides group) (gather fill given (positions group)) before

-- what is put at these places of a subchunk of this shape is all that is there afterwards
abbrev pub PutsAll : List ℕ → Cell → List AskedPlace → List Cell → Type 0
PutsAll shape fill group given = (before : List Cell) → length before ≡ product shape → group_put fill group given before ≡ given

-- places are all those of one subchunk, in its order: of the one with this number
pub record AreSubchunk (shape subchunk numbers : List ℕ) (k : ℕ) : Type 0 where
  pub below : k < length (parts_of shape subchunk)
  pub is : (d : Part) → (get_or (parts_of shape subchunk) k d).places ≡ numbers

-- places of the subchunk with this number, which has this shape, and cells that are given, of which those for these places are put there
pub record GroupGiven : Type 0 where
  pub shape : List ℕ
  pub number : ℕ
  pub group : List AskedPlace
  pub given : List Cell

-- the same, put together
abbrev pub given_group : List ℕ → ℕ → List AskedPlace → List Cell → GroupGiven
given_group shape number group given = record { shape = shape; number = number; group = group; given = given }

-- the cells of a subchunk after they were put over these
abbrev pub cells_after_group : Stored → GroupGiven → List Cell → List Cell
cells_after_group stored new before = group_put stored.elements.fill new.group new.given before

-- what is stored of the cells of a subchunk after the new ones were put
pub record IsGroupUpdated (stored : Stored) (new : GroupGiven) (change : Change) : Type 0 where
  pub number : change.0 ≡ new.number
  pub before : List Cell
  pub held : cells_held stored new.shape new.number ≡ Some before
  pub slice : IsPieceStored stored.inner stored.exact stored.elements (new.shape, cells_after_group stored new before) change.1

-- a subchunk that isn't all fill afterwards is refused by its chain
pub record IsGroupRefused (refuses : Chain → Elements → List ℕ → List Cell → Type 0) (stored : Stored) (new : GroupGiven) : Type 0 where
  pub before : List Cell
  pub held : cells_held stored new.shape new.number ≡ Some before
  pub some : is_fill stored.elements.fill (cells_after_group stored new before) ≡ false
  pub is : refuses stored.inner stored.elements new.shape (cells_after_group stored new before)

-- the change of a subchunk, or why there is none
abbrev pub UpdatesGroup : Stored → GroupGiven → Result SliceChange CodecError → Type 0
UpdatesGroup stored new (Ok change) = IsGroupUpdated stored new (change_of change)
UpdatesGroup stored new (Err error.Damage) = cells_held stored new.shape new.number ≡ None
UpdatesGroup stored new (Err error.Codec) = IsGroupRefused CodecRefuses stored new
UpdatesGroup stored new (Err error.Size) = IsTooLarge stored.elements.type (product new.shape) ⊎ IsGroupRefused PassesIndex stored new
UpdatesGroup stored new (Err error.Source) = Unit {0}
UpdatesGroup stored new (Err error.Memory) = Unit {0}
UpdatesGroup stored new (Err e) = ⊥
