-- Where places can't be read at all, none has a cell.
use Rattle.std.proofs.Common.{◌≡◌, ℕ, List, slice_get, ap, refl, Option, Some, None, option_and_then, is_some, Bool, false, if◌then◌else◌}
use Rattle.zarr_codecs_meaning.specs.Types.{uint64, Elements, Cell, zero_filled}
use Rattle.zarr_codecs_meaning.specs.Chains.{Chain}
use Rattle.zarr_codecs_meaning.specs.Chains.Chain.{bytes, packbits, vlen, optional, after_array_codec, then_bytes, sharded}
use Rattle.zarr_codecs_meaning.specs.Places.{position_of, encoded_shape, source_places, parts_of, index_shape}
use Rattle.zarr_codecs_meaning.specs.Encoding.{index_size}
use Rattle.zarr_codecs_meaning.specs.Decoding.{element_at, decoded, cell_at, cell_of_part, opens, pairs_in, cell_of_pair}

none_when : {X : Type 0} (o : Option X) → is_some o ≡ false → o ≡ None
none_when None h = refl
none_when (Some x) h = cc

none_inside : (opened : List ℕ → Bool) (cell : List ℕ → Option Cell) (o : Option (List ℕ)) → ((inside : List ℕ) → opened inside ≡ false → cell inside ≡ None) → elim o [ None ↦ false | Some inside ↦ opened inside ] ≡ false → option_and_then cell o ≡ None
none_inside opened cell None law h = refl
none_inside opened cell (Some inside) law h = law inside h

pub closed_cell : (chain : Chain) (elements : Elements) (shape value : List ℕ) (n : ℕ) → opens chain elements shape value ≡ false → cell_at chain elements shape value n ≡ None
closed_cell (bytes order) elements shape value n h = ap (λ (b : Bool). if b then element_at order elements.type value n else None) h
closed_cell (packbits padding first last) elements shape value n h = ap (option_and_then (λ (cells : List Cell). slice_get cells n)) (none_when (decoded (packbits padding first last) elements shape value) h)
closed_cell (vlen index «data» width location) elements shape value n h = ap (option_and_then (λ (cells : List Cell). slice_get cells n)) (none_when (decoded (vlen index «data» width location) elements shape value) h)
closed_cell (optional mask values) elements shape value n h = ap (option_and_then (λ (cells : List Cell). slice_get cells n)) (none_when (decoded (optional mask values) elements shape value) h)
closed_cell (after_array_codec codec chain) elements shape value n h = closed_cell chain elements (encoded_shape codec shape) value (position_of n (source_places codec shape)) h
closed_cell (then_bytes chain codec) elements shape value n h =
    none_inside (opens chain elements shape) (λ inside. cell_at chain elements shape inside n) (codec.decode value) (λ inside closed. closed_cell chain elements shape inside n closed) h
closed_cell (sharded subchunk inner index location) elements shape value n h =
    let pairs_shape = index_shape shape subchunk in
    ap (option_and_then (cell_of_part (cell_of_pair (cell_at inner elements) elements.fill value) n (parts_of shape subchunk))) (none_when (pairs_in (decoded index (zero_filled uint64) pairs_shape) location (index_size index pairs_shape) value) h)
