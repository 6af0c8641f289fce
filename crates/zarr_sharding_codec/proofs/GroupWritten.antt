-- What is stored of one subchunk after new elements were put at places in it.
use Rattle.std.proofs.Common.{◌≡◌, ◌∙◌, ℕ, List, get_or, replicate, ap, sym, subst, inl, inr, Bool, true, false, Option, Some, None, option_and_then, if◌then◌else◌, Ok, Err, Vec, Global}
use Rattle.zarr_grids_boxes.specs.Boxes.{product}
use Rattle.zarr_codecs_meaning.specs.Chains.{Chain}
use Rattle.zarr_codecs_meaning.specs.Decoding.{decoded, is_absent, slice_at}
use Rattle.zarr_codecs_meaning.specs.Encoding.{Pair, absent_pair}
use Rattle.zarr_codecs_meaning.specs.Fits.{fits}
use Rattle.zarr_codecs_meaning.specs.Laws as laws
use Rattle.zarr_codecs_meaning.specs.Payloads.{Payload, cells_in}
use Rattle.zarr_codecs_meaning.specs.Places.{gather}
use Rattle.zarr_codecs_meaning.specs.Types.{Cell, Elements, is_value}
use Rattle.zarr_codecs_meaning.proofs.ArrayCodecs.{values_gathered}
use Rattle.zarr_codecs_meaning.proofs.DecodedValues.{decoded_cells}
use Rattle.zarr_codecs_meaning.proofs.Lists.{bind_some}
use Rattle.zarr_codecs_arrays.specs.Outcomes.{IsValid}
use Rattle.zarr_codecs_arrays.specs.declared.error.CodecError.{CodecError}
use Rattle.zarr_codecs_arrays.specs.declared.error.CodecError.TheVariants as error
use Rattle.zarr_codecs_regions.proofs.Shown.{put_cells, stored_cells}
use Rattle.zarr_sharding_places.specs.Pieces.{piece_decoded}
use Rattle.zarr_sharding_places.specs.declared.locating.AskedPlace.{AskedPlace}
use Rattle.zarr_sharding_index.specs.declared.slice_changes.SliceChange.{SliceChange}
use Rattle.zarr_sharding_codec.specs.PartWriting.{Stored, UpdatesGroup, cells_held, given_group, group_put, insides, positions}
use Rattle.zarr_sharding_codec.specs.Reading.{ListsRead}
use Rattle.zarr_sharding_codec.specs.Slices.{IsPieceStored, StoresPiece, slice_of}

held_values : (inner : Chain) (elements : Elements) (value shape : List ℕ) (pair : Pair) (before : List Cell) → fits inner elements.type shape ≡ true → is_value elements.type elements.fill ≡ true → (b : Bool)
    → (if b then Some (replicate (product shape) elements.fill) else option_and_then (decoded inner elements shape) (slice_at value pair)) ≡ Some before → laws.AreCells elements shape before
held_values inner elements value shape pair before fit fill true held = stored_cells inner elements shape None before fit fill held
held_values inner elements value shape pair before fit fill false held =
    let slice = bind_some (decoded inner elements shape) (slice_at value pair) before held in
    decoded_cells inner elements shape slice.0 before fit fill slice.2

-- the cells of a subchunk are as many as it has places, and values
pub held_cells : (inner : Chain) (elements : Elements) (value shape : List ℕ) (pair : Pair) (before : List Cell) → fits inner elements.type shape ≡ true → is_value elements.type elements.fill ≡ true → piece_decoded inner elements value shape pair ≡ Some before
    → laws.AreCells elements shape before
held_cells inner elements value shape pair before fit fill held = held_values inner elements value shape pair before fit fill (is_absent pair) held

-- what is known where new elements were put into those of a subchunk
pub record IsGroupPut (stored : Stored) (subchunk edges : List ℕ) (k count : ℕ) (group : List AskedPlace) (cells : List Cell) (given updated : Payload) : Type 0 where
  pub fit : fits stored.inner stored.elements.type subchunk ≡ true
  pub fill : is_value stored.elements.type stored.elements.fill ≡ true
  pub same : edges ≡ subchunk
  pub valid : IsValid stored.elements.type given count cells
  pub before : List Cell
  pub held : cells_held stored subchunk k ≡ Some before
  pub lists : cells_in stored.elements.type updated ≡ Some (group_put stored.elements.fill group cells before)

-- the updated elements are those of a subchunk
pub group_valid : (stored : Stored) (subchunk edges : List ℕ) (k count : ℕ) (group : List AskedPlace) (cells : List Cell) (given updated : Payload) (h : IsGroupPut stored subchunk edges k count group cells given updated)
    → IsValid stored.elements.type updated (product edges) (group_put stored.elements.fill group cells h.before)
group_valid stored subchunk edges k count group cells given updated h =
    let fill = stored.elements.fill in
    let values = values_gathered (is_value stored.elements.type) fill cells (positions group) h.fill h.valid.values in
    let are = put_cells stored.elements subchunk (insides group) (gather fill cells (positions group)) h.before values (held_cells stored.inner stored.elements stored.value subchunk (get_or stored.pairs k absent_pair) h.before h.fit h.fill h.held) in
    record { is = record { lists = h.lists; many = are.whole ∙ ap product (sym h.same) }; values = are.values }

pub group_stored : (stored : Stored) (subchunk edges : List ℕ) (k count : ℕ) (group : List AskedPlace) (cells : List Cell) (given updated : Payload) (slice : Option (Vec ℕ Global)) (change : SliceChange) (h : IsGroupPut stored subchunk edges k count group cells given updated)
    → change.number ≡ k → change.slice ≡ slice → StoresPiece stored.inner stored.exact stored.elements (edges, group_put stored.elements.fill group cells h.before) (Ok slice) → UpdatesGroup stored (given_group subchunk k group cells) (Ok change)
group_stored stored subchunk edges k count group cells given updated slice change h number is made = record {
  number = number;
  before = h.before;
  held = h.held;
  slice = subst (λ (s : List ℕ). IsPieceStored stored.inner stored.exact stored.elements (s, group_put stored.elements.fill group cells h.before) (slice_of change.slice)) h.same
      (subst (λ (o : Option (Vec ℕ Global)). IsPieceStored stored.inner stored.exact stored.elements (edges, group_put stored.elements.fill group cells h.before) (slice_of o)) (sym is) made);
}

pub group_refused : (stored : Stored) (subchunk edges : List ℕ) (k count : ℕ) (group : List AskedPlace) (cells : List Cell) (given updated : Payload) (e : CodecError) (h : IsGroupPut stored subchunk edges k count group cells given updated)
    → StoresPiece stored.inner stored.exact stored.elements (subchunk, group_put stored.elements.fill group cells h.before) (Err e) → UpdatesGroup stored (given_group subchunk k group cells) (Err e)
group_refused stored subchunk edges k count group cells given updated error.Codec h why = record { before = h.before; held = h.held; some = why.0; is = why.1 }
group_refused stored subchunk edges k count group cells given updated error.Size h (inl large) = inl large
group_refused stored subchunk edges k count group cells given updated error.Size h (inr why) = inr (record { before = h.before; held = h.held; some = why.0; is = why.1 })
group_refused stored subchunk edges k count group cells given updated error.Memory h why = tt
group_refused stored subchunk edges k count group cells given updated error.Source h why = tt
group_refused stored subchunk edges k count group cells given updated e h why = absurd why

-- what isn't read
pub group_unread : (stored : Stored) (subchunk : List ℕ) (k : ℕ) (group : List AskedPlace) (cells : List Cell) (e : CodecError) → ListsRead stored.elements subchunk (cells_held stored subchunk k) (Err e) → UpdatesGroup stored (given_group subchunk k group cells) (Err e)
group_unread stored subchunk k group cells error.Damage why = why
group_unread stored subchunk k group cells error.Size why = inl why
group_unread stored subchunk k group cells error.Memory why = tt
group_unread stored subchunk k group cells error.Source why = tt
group_unread stored subchunk k group cells e why = absurd why
