-- What is not encoded is refused by a caller's codec, or passes an index.
use Rattle.std.proofs.Common.{◌≡◌, ℕ, ◌+◌, ◌-◌, ◌^◌, List, [], ◌∷◌, length, map, ◌∙◌, refl, subst, Option, Some, None, option_and_then, option_map, unwrap_or, Bool, true, false, ◌&&◌, ◌⊎◌, inl, inr, if◌then◌else◌}
use Rattle.std.specs.Prelude.{nat_lt, flat_map, MatchOption}
use Rattle.std.specs.List.{filter_map}
use Rattle.std.proofs.lemmas.Bool.{ltb-false}
use Rattle.std.proofs.lemmas.List.{length-map}
use Rattle.zarr_grids_boxes.specs.Boxes.{product}
use Rattle.zarr_codecs_meaning.specs.Types.{bool, integer, unsigned, uint8, uint64, inner_type, Cell, cell_bytes, is_fill, Elements, zero_filled}
use Rattle.zarr_codecs_meaning.specs.Chains.{Chain, Location}
use Rattle.zarr_codecs_meaning.specs.Chains.Chain.{bytes, packbits, vlen, optional, after_array_codec, then_bytes, sharded}
use Rattle.zarr_codecs_meaning.specs.Places.{gather, encoded_shape, source_places, parts_of, index_shape}
use Rattle.zarr_codecs_meaning.specs.Encoding.{last_number, number_cells, byte_cells, is_short, with_index, with_mask, unless_none, mask_cell, present_cell, Piece, piece_of, pieces_of, stored_of, stored_pieces, pairs_from, pair_cells, index_size, base_of, joined, joined_slices, shard_of, encoded}
use Rattle.zarr_codecs_meaning.specs.Making.{IsMadeOf}
use Rattle.zarr_codecs_meaning.specs.Refusals.{offsets_of, SomeRefused, PieceRefused, CodecRefuses, PassesIndex}
use Rattle.zarr_codecs_meaning.proofs.Making.{encoded_made, slices_made}
use Rattle.zarr_codecs_meaning.proofs.Shards.{length-stored, length-pairs_from}

-- ---- what gives nothing

bind_none : {X Y : Type 0} (f : X → Option Y) (o : Option X) → option_and_then f o ≡ None → (o ≡ None) ⊎ ((x : X) × (o ≡ Some x) × (f x ≡ None))
bind_none f None h = inl refl
bind_none f (Some x) h = inr (x, refl, h)

map_none : {X Y : Type 0} (f : X → Y) (o : Option X) → option_map f o ≡ None → o ≡ None
map_none f None h = refl
map_none f (Some x) h = cc

if_none : {X : Type 0} (b : Bool) (o : Option X) → (if b then o else None) ≡ None → (b ≡ false) ⊎ (o ≡ None)
if_none true o h = inr h
if_none false o h = inl refl

not_both : (a b : Bool) → (a && b) ≡ false → (a ≡ false) ⊎ (b ≡ false)
not_both true b h = inr h
not_both false b h = inl refl

not_made : {X : Type 0} (b : Bool) (x : X) → (if b then Some x else None) ≡ None → b ≡ false
not_made true x h = cc
not_made false x h = refl

-- ---- sections

-- encoding that gives nothing was refused cells
some_refused : (cells : List Cell) (made : Option (List ℕ)) (R P : Type 0) → (made ≡ None → R ⊎ P) → unless_none cells made ≡ None → SomeRefused cells R ⊎ SomeRefused cells P
some_refused [] made R P law h = cc
some_refused (cell ∷ cells) made R P law h = law h

no_index : (location : Location) (front rest : List ℕ) → with_index location front rest ≡ None → is_short front ≡ false
no_index location front rest h = not_made (is_short front) _ h

no_mask : (mask rest : List ℕ) → with_mask mask rest ≡ None → (is_short mask ≡ false) ⊎ (is_short rest ≡ false)
no_mask mask rest h = not_both (is_short mask) (is_short rest) (not_made (is_short mask && is_short rest) _ h)

-- ---- pieces

fill_stored : (t : Bool) (o : Option (List ℕ)) → (if t then Some None else option_map Some o) ≡ None → (t ≡ false) × (o ≡ None)
fill_stored true o h = cc
fill_stored false o h = (refl, map_none Some o h)

piece_refused : (encode : List ℕ → List Cell → Option (List ℕ)) (R P : List ℕ → List Cell → Type 0) (fill : Cell) (pieces : List Piece)
    → ((shape : List ℕ) (cells : List Cell) → encode shape cells ≡ None → R shape cells ⊎ P shape cells) → stored_pieces encode fill pieces ≡ None → PieceRefused R fill pieces ⊎ PieceRefused P fill pieces
piece_refused encode R P fill [] law h = cc
piece_refused encode R P fill (x ∷ xs) law h =
    elim (bind_none (λ (first : Option (List ℕ)). option_map (λ (others : List (Option (List ℕ))). first ∷ others) (stored_pieces encode fill xs)) (stored_of fill x.1 (encode x.0 x.1)) h) [
      | inl none ↦ (let k = fill_stored (is_fill fill x.1) (encode x.0 x.1) none in elim (law x.0 x.1 k.1) [ inl r ↦ inl (inl (k.0, r)) | inr p ↦ inr (inl (k.0, p)) ])
      | inr some ↦ elim (piece_refused encode R P fill xs law (map_none _ (stored_pieces encode fill xs) some.2)) [ inl r ↦ inl (inr r) | inr p ↦ inr (inr p) ]
    ]

-- ---- chains

pub encoding_refused : (chain : Chain) (elements : Elements) (shape : List ℕ) (cells : List Cell) → encoded chain elements shape cells ≡ None → CodecRefuses chain elements shape cells ⊎ PassesIndex chain elements shape cells
encoding_refused (bytes order) elements shape cells h = cc
encoding_refused (packbits padding first last) elements shape cells h = cc
encoding_refused (vlen index «data» width location) elements shape cells h =
    let content = byte_cells (flat_map cell_bytes cells) in
    let made = encoded «data» (zero_filled uint8) (length content ∷ []) content in
    let front = encoded index (zero_filled (integer unsigned width)) ((product shape + 1) ∷ []) (number_cells width (offsets_of cells)) in
    elim (if_none (nat_lt (last_number 0 (offsets_of cells)) (2 ^ width)) _ h) [
      | inl large ↦ inr (inl (ltb-false _ _ large))
      | inr none ↦ elim (bind_none _ front none) [
        | inl refused ↦ elim (encoding_refused index (zero_filled (integer unsigned width)) ((product shape + 1) ∷ []) (number_cells width (offsets_of cells)) refused) [ inl r ↦ inl (inl r) | inr p ↦ inr (inr (inr (inl p))) ]
        | inr found ↦ elim (bind_none (with_index location found.0) (unless_none content made) found.2) [
          | inl refused ↦ elim (some_refused content made _ _ (encoding_refused «data» (zero_filled uint8) (length content ∷ []) content) refused) [ inl r ↦ inl (inr r) | inr p ↦ inr (inr (inr (inr p))) ]
          | inr rest ↦ inr (inr (inl (found.0, found.1, no_index location found.0 rest.0 rest.2)))
        ]
      ]
    ]
encoding_refused (optional mask values) elements shape cells h =
    let found = filter_map present_cell cells in
    let inner = zero_filled (unwrap_or (inner_type elements.type) elements.type) in
    let front = encoded mask (zero_filled bool) shape (map mask_cell cells) in
    let made = encoded values inner (length found ∷ []) found in
    elim (bind_none _ front h) [
      | inl refused ↦ elim (encoding_refused mask (zero_filled bool) shape (map mask_cell cells) refused) [ inl r ↦ inl (inl r) | inr p ↦ inr (inr (inr (inl p))) ]
      | inr some ↦ elim (bind_none (with_mask some.0) (unless_none found made) some.2) [
        | inl refused ↦ elim (some_refused found made _ _ (encoding_refused values inner (length found ∷ []) found) refused) [ inl r ↦ inl (inr r) | inr p ↦ inr (inr (inr (inr p))) ]
        | inr rest ↦ elim (no_mask some.0 rest.0 rest.2) [ inl long ↦ inr (inl (some.0, some.1, long)) | inr long ↦ inr (inr (inl (rest.0, rest.1, long))) ]
      ]
    ]
encoding_refused (after_array_codec codec chain) elements shape cells h = encoding_refused chain elements (encoded_shape codec shape) (gather elements.fill cells (source_places codec shape)) h
encoding_refused (then_bytes chain codec) elements shape cells h =
    elim (bind_none codec.encode (encoded chain elements shape cells) h) [
      | inl none ↦ elim (encoding_refused chain elements shape cells none) [ inl r ↦ inl (inl r) | inr p ↦ inr p ]
      | inr some ↦ inl (inr (some.0, some.1, some.2))
    ]
encoding_refused (sharded subchunk inner index location) elements shape cells h =
    let pairs_shape = index_shape shape subchunk in
    let parts = parts_of shape subchunk in
    let pieces = pieces_of elements.fill cells parts in
    let base = base_of location (index_size index pairs_shape) in
    elim (bind_none (shard_of (encoded index (zero_filled uint64) pairs_shape) location (index_size index pairs_shape)) (stored_pieces (encoded inner elements) elements.fill pieces) h) [
      | inl none ↦ elim (piece_refused (encoded inner elements) (CodecRefuses inner elements) (PassesIndex inner elements) elements.fill pieces (encoding_refused inner elements) none) [ inl r ↦ inl (inl r) | inr p ↦ inr (inl p) ]
      | inr some ↦ elim (if_none (nat_lt (base + length (joined_slices some.0)) (2 ^ 64 - 1)) _ some.2) [
        | inl large ↦ inr (inr (inl (some.0, some.1, ltb-false _ _ large)))
        | inr none ↦ (let pairs = pairs_from base some.0 in
            let long : length pairs ≡ length parts = length-pairs_from some.0 base ∙ (length-stored (encoded inner elements) elements.fill pieces some.0 some.1 ∙ length-map parts (piece_of elements.fill cells)) in
            elim (encoding_refused index (zero_filled uint64) pairs_shape (pair_cells pairs) (map_none (λ (index_bytes : List ℕ). joined location index_bytes (joined_slices some.0)) _ none)) [
              | inl r ↦ inl (inr (some.0, slices_made (encoded inner elements) (IsMadeOf inner elements) elements.fill pieces some.0 (encoded_made inner elements) some.1, r))
              | inr p ↦ inr (inr (inr (pairs, long, p)))
            ])
      ]
    ]
