-- What a read of a box depends on.
use Rattle.std.proofs.Common.{◌≡◌, ◌∙◌, ℕ, List, [], ◌∷◌, true, false, is_some, refl, sym, ap, Option, Some, None}
use Rattle.std.specs.Option.{option_map_or}
use Rattle.zarr_grids_boxes.specs.Boxes.{Region, share_place}
use Rattle.zarr_grids_boxes.proofs.Sharing.{share_place-has}
use Rattle.zarr_grids_chunks.specs.Grids.{IsInGrid, chunk_indices, intersecting, intersects}
use Rattle.zarr_grids_chunks.proofs.Filters.{filter-any}
use Rattle.zarr_codecs_meaning.specs.Chains.{Chain}
use Rattle.zarr_codecs_meaning.specs.Chains.Chain.{bytes, packbits, vlen, optional, after_array_codec, then_bytes, sharded}
use Rattle.zarr_codecs_meaning.specs.Chunks.{chunk_part}
use Rattle.zarr_codecs_meaning.specs.Types.{Cell, Elements}
use Rattle.zarr_sharding_values.proofs.LocalReads.{read_is_local}
use Rattle.zarr_array_meaning.specs.Boxes.{AreReadBefore, IsDamagedIn, IsPlaceOf, IsRead, IsUnfitIn}
use Rattle.zarr_array_meaning.specs.Chunks.{number_in, part_at, stored_at}
use Rattle.zarr_array_meaning.specs.Documents.{Document}
use Rattle.zarr_array_meaning.specs.StoreMaps.{StoreMap}
use Rattle.zarr_run_meaning.specs.LocalReads.{AreAlikeAt, AreAlikeFor, ReadsAreLocal}
use Rattle.zarr_run_meaning.proofs.Keys.{listed_below, number_listed}

-- ---- one chunk

-- the place is read alike
alike_read : (chain : Chain) (elements : Elements) (shape : List ℕ) (n : ℕ) (stored other : Option (List ℕ)) → AreAlikeAt chain shape n stored other → chunk_part chain elements shape other (n ∷ []) ≡ chunk_part chain elements shape stored (n ∷ [])
alike_read (bytes order) elements shape n stored other same = ap (λ (o : Option (List ℕ)). chunk_part (bytes order) elements shape o (n ∷ [])) same
alike_read (packbits padding first last) elements shape n stored other same = ap (λ (o : Option (List ℕ)). chunk_part (packbits padding first last) elements shape o (n ∷ [])) same
alike_read (vlen index «data» width location) elements shape n stored other same = ap (λ (o : Option (List ℕ)). chunk_part (vlen index «data» width location) elements shape o (n ∷ [])) same
alike_read (optional mask values) elements shape n stored other same = ap (λ (o : Option (List ℕ)). chunk_part (optional mask values) elements shape o (n ∷ [])) same
alike_read (after_array_codec codec chain) elements shape n stored other same = ap (λ (o : Option (List ℕ)). chunk_part (after_array_codec codec chain) elements shape o (n ∷ [])) same
alike_read (then_bytes chain codec) elements shape n stored other same = ap (λ (o : Option (List ℕ)). chunk_part (then_bytes chain codec) elements shape o (n ∷ [])) same
alike_read (sharded subchunk inner index location) elements shape n (Some value) (Some other) same = read_is_local (record { subchunk = subchunk; index = index; location = location; shape = shape; numbers = n ∷ [] }) inner elements value other same
alike_read (sharded subchunk inner index location) elements shape n (Some value) None same = ap (λ (o : Option (List ℕ)). chunk_part (sharded subchunk inner index location) elements shape o (n ∷ [])) same
alike_read (sharded subchunk inner index location) elements shape n None (Some other) same = ap (λ (o : Option (List ℕ)). chunk_part (sharded subchunk inner index location) elements shape o (n ∷ [])) same
alike_read (sharded subchunk inner index location) elements shape n None None same = refl

-- there is a value, or none
alike_there : (chain : Chain) (shape : List ℕ) (n : ℕ) (stored other : Option (List ℕ)) → AreAlikeAt chain shape n stored other → is_some other ≡ is_some stored
alike_there (bytes order) shape n stored other same = ap is_some same
alike_there (packbits padding first last) shape n stored other same = ap is_some same
alike_there (vlen index «data» width location) shape n stored other same = ap is_some same
alike_there (optional mask values) shape n stored other same = ap is_some same
alike_there (after_array_codec codec chain) shape n stored other same = ap is_some same
alike_there (then_bytes chain codec) shape n stored other same = ap is_some same
alike_there (sharded subchunk inner index location) shape n (Some value) (Some other) same = refl
alike_there (sharded subchunk inner index location) shape n (Some value) None same = ap is_some same
alike_there (sharded subchunk inner index location) shape n None (Some other) same = ap is_some same
alike_there (sharded subchunk inner index location) shape n None None same = refl

-- ---- each chunk that the region meets

record AreReadAlike (path : List ℕ) (document : Document) (region : Region) (store other : StoreMap) : Type 0 where
  there : (chunk : List ℕ) (box : Region) → IsInGrid document.grid chunk box → intersects document.grid region chunk ≡ true → is_some (stored_at path document other chunk) ≡ is_some (stored_at path document store chunk)
  part : (chunk : List ℕ) (box : Region) (place : List ℕ) → IsPlaceOf document region chunk box place → part_at document box (stored_at path document other chunk) place ≡ part_at document box (stored_at path document store chunk) place

all_alike : (path : List ℕ) (document : Document) (region : Region) (store other : StoreMap) → AreAlikeFor path document region store other → AreReadAlike path document region store other
all_alike path document region store other alike = record {
  there = λ chunk box below shares.
      let has = ap (λ (o : Option Region). option_map_or (λ (b : Region). share_place b.start b.shape region.start region.shape) o false) below.has_box in
      let common = share_place-has box.start box.shape region.start region.shape (sym has ∙ shares) in
      alike_there document.chain box.shape (number_in box common.0) (stored_at path document store chunk) (stored_at path document other chunk) (alike chunk box common.0 (record { below = below; of_region = common.2; of_chunk = common.1 }));
  part = λ chunk box place is. alike_read document.chain document.elements box.shape (number_in box place) (stored_at path document store chunk) (stored_at path document other chunk) (alike chunk box place is);
}

turned : (path : List ℕ) (document : Document) (region : Region) (store other : StoreMap) → AreReadAlike path document region store other → AreReadAlike path document region other store
turned path document region store other alike = record {
  there = λ chunk box below shares. sym (alike.there chunk box below shares);
  part = λ chunk box place is. sym (alike.part chunk box place is);
}

-- ---- the whole read

module _ (path : List ℕ) (document : Document) (region : Region) (store other : StoreMap) (alike : AreReadAlike path document region store other) where
  read_there : (cells : List Cell) → IsRead path document store region cells → IsRead path document other region cells
  read_there cells is = record {
    many = is.many;
    each = λ chunk box place at. alike.part chunk box place at ∙ is.each chunk box place at;
    fit = λ chunk box below shares stored. is.fit chunk box below shares (sym (alike.there chunk box below shares) ∙ stored);
  }

  before_there : (number : ℕ) → AreReadBefore path document store region number → AreReadBefore path document other region number
  before_there number first n chunk box less nth =
      let listed = number_listed (intersecting document.grid region) n chunk nth.listed in
      let among = listed_below document.grid region chunk listed in
      let below : IsInGrid document.grid chunk box = record { below = among.1.below; has_box = nth.has_box } in
      let shares = filter-any (intersects document.grid region) chunk (chunk_indices document.grid) listed in
      let read = first n chunk box less nth in
      record {
        fit = λ stored. read.fit (sym (alike.there chunk box below shares) ∙ stored);
        whole = λ place of_region of_chunk. ap is_some (alike.part chunk box place (record { below = below; of_region = of_region; of_chunk = of_chunk })) ∙ read.whole place of_region of_chunk;
      }

  damaged_there : IsDamagedIn path document store region → IsDamagedIn path document other region
  damaged_there d = record {
    chunk = d.chunk;
    box = d.box;
    place = d.place;
    is = d.is;
    fit = d.fit;
    lost = alike.part d.chunk d.box d.place d.is ∙ d.lost;
    number = d.number;
    nth = d.nth;
    first = before_there d.number d.first;
  }

  unfit_there : IsUnfitIn path document store region → IsUnfitIn path document other region
  unfit_there u = record {
    chunk = u.chunk;
    box = u.box;
    below = u.below;
    shares = u.shares;
    stored = alike.there u.chunk u.box u.below u.shares ∙ u.stored;
    fit = u.fit;
    number = u.number;
    nth = u.nth;
    first = before_there u.number u.first;
  }

pub reads_are_local : ReadsAreLocal
reads_are_local path document region store other cells alike =
    let one = all_alike path document region store other alike in
    let two = turned path document region store other one in (
      (read_there path document region store other one cells, read_there path document region other store two cells),
      (damaged_there path document region store other one, damaged_there path document region other store two),
      (unfit_there path document region store other one, unfit_there path document region other store two),
    )
