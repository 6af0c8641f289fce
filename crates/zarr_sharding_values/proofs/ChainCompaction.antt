-- What compaction makes of values of any chain.
use Rattle.std.proofs.Common.{◌≡◌, ◌∙◌, ℕ, ◌+◌, ◌^◌, List, [], ◌∷◌, length, ap, refl, sym, Option, Some, None, Bool, true, false, option_and_then, option_map, if◌then◌else◌, ◌==◌}
use Rattle.std.proofs.lemmas.Bool.{and_parts, eq-eqb}
use Rattle.std.specs.Prelude.{nat_lt, MatchBool}
use Rattle.zarr_codecs_meaning.specs.Types.{Cell, Elements}
use Rattle.zarr_codecs_meaning.specs.Chains.{ByteCodec, Chain, Location}
use Rattle.zarr_codecs_meaning.specs.Chains.Chain.{bytes, packbits, vlen, optional, after_array_codec, then_bytes, sharded}
use Rattle.zarr_codecs_meaning.specs.Places.{gather, encoded_shape, source_places, parts_of, index_shape}
use Rattle.zarr_codecs_meaning.specs.Fits.{array_codec_fits, fits, is_plain}
use Rattle.zarr_codecs_meaning.specs.Encoding.{Piece, encoded, index_size, joined_slices, pieces_of, stored_pieces}
use Rattle.zarr_codecs_meaning.specs.Standing.{Slices, IsEncoding, StandsBy, Tight, index_layout}
use Rattle.zarr_codecs_meaning.specs.Laws.{IsLawful}
use Rattle.zarr_codecs_meaning.proofs.Lists.{bind_some}
use Rattle.zarr_codecs_meaning.proofs.Representations.{shard_size}
use Rattle.zarr_codecs_meaning.proofs.Shards.{SlicesStand}
use Rattle.zarr_codecs_meaning.proofs.Sizes.{cells_moved}
use Rattle.zarr_codecs_meaning.proofs.Tight.{encoded_tight}
use Rattle.zarr_sharding_changes.specs.Changes.{SliceStandsBy}
use Rattle.zarr_sharding_changes.specs.Compaction.{compacted, slices_in}
use Rattle.zarr_sharding_changes.specs.Compactions.{Compaction, by_length, compacted_to, compaction, damaged, encoded_again, nothing_to_gain, refused, shard_compaction, too_long, undone_compaction, unless_refused}
use Rattle.zarr_sharding_changes.proofs.Compacting.{compacted_stands, compacted_encoded}
use Rattle.zarr_sharding_changes.proofs.Slices.{shard_read}
use Rattle.zarr_sharding_values.specs.Laws.{ChainCompactedStands, ChainCompactedEncoded, StandingUndamaged, EncodedGainsNothing}

-- ---- what was made of a shard

unless_is : (o : Option (List ℕ)) (made : List ℕ) → unless_refused o ≡ compacted_to made → o ≡ Some made
unless_is None made h = cc
unless_is (Some got) made h = cc

length_is : (t u : Bool) (o : Option (List ℕ)) (made : List ℕ) → (if t then nothing_to_gain else (if u then unless_refused o else too_long)) ≡ compacted_to made → o ≡ Some made
length_is true u o made h = cc
length_is false true o made h = unless_is o made h
length_is false false o made h = cc

found_is : (found : Option (List (Option (List ℕ)))) (before size : ℕ) (whole : Option (List ℕ)) (made : List ℕ)
    → (elim found [ None ↦ damaged | Some stored ↦ by_length before (size + length (joined_slices stored)) whole ]) ≡ compacted_to made → whole ≡ Some made
found_is None before size whole made h = cc
found_is (Some stored) before size whole made h = length_is (before == size + length (joined_slices stored)) (nat_lt (size + length (joined_slices stored)) (2 ^ 63)) whole made h

pub shard_is : (subchunk : List ℕ) (index : Chain) (location : Location) (shape value made : List ℕ) → shard_compaction subchunk index location shape value ≡ compacted_to made → compacted subchunk index location shape value ≡ Some made
shard_is subchunk index location shape value made h =
    found_is (slices_in subchunk index location shape value) (length value) (index_size index (index_shape shape subchunk)) (compacted subchunk index location shape value) made h

-- ---- bytes codecs after a chain

pub again_is : (codec : ByteCodec) (what : Compaction) (made : List ℕ) → encoded_again codec what ≡ compacted_to made → (inside : List ℕ) × (what ≡ compacted_to inside) × (codec.encode inside ≡ Some made)
again_is codec nothing_to_gain made h = absurd (cc)
again_is codec (compacted_to inside) made h = (inside, refl, unless_is (codec.encode inside) made h)
again_is codec damaged made h = absurd (cc)
again_is codec refused made h = absurd (cc)
again_is codec too_long made h = absurd (cc)

-- what compaction makes of a value, where it is known what the value is undone to
pub undone_at : (chain : Chain) (codec : ByteCodec) (shape value inside : List ℕ) → is_plain chain ≡ false → codec.decode value ≡ Some inside → compaction (then_bytes chain codec) shape value ≡ encoded_again codec (compaction chain shape inside)
undone_at chain codec shape value inside shards is =
    ap (λ (b : Bool). if b then nothing_to_gain else undone_compaction codec (compaction chain shape) value) shards
    ∙ ap (λ (o : Option (List ℕ)). elim o [ None ↦ damaged | Some given ↦ encoded_again codec (compaction chain shape given) ]) is

-- a chain without shards gains nothing
pub plain_at : (chain : Chain) (codec : ByteCodec) (shape value : List ℕ) → is_plain chain ≡ true → compaction (then_bytes chain codec) shape value ≡ nothing_to_gain
plain_at chain codec shape value plain = ap (λ (b : Bool). if b then nothing_to_gain else undone_compaction codec (compaction chain shape) value) plain

pub match_false : (b : Bool) (P Q : Type 0) → b ≡ false → MatchBool b P Q → Q
match_false true P Q e h = absurd (cc)
match_false false P Q e h = h

match_from : (b : Bool) (P Q : Type 0) → b ≡ false → Q → MatchBool b P Q
match_from true P Q e q = absurd (cc)
match_from false P Q e q = q

-- ---- what stands

stands_after : (slices : Slices) (chain : Chain) (codec : ByteCodec) (elements : Elements) (shape value made : List ℕ) (cells : List Cell) (plain : Bool) → is_plain chain ≡ plain → IsLawful codec
    → ((given inside : List ℕ) → StandsBy slices chain elements shape given cells → compaction chain shape given ≡ compacted_to inside → StandsBy slices chain elements shape inside cells)
    → StandsBy slices (then_bytes chain codec) elements shape value cells → compaction (then_bytes chain codec) shape value ≡ compacted_to made → StandsBy slices (then_bytes chain codec) elements shape made cells
stands_after slices chain codec elements shape value made cells true is lawful law h what = let no = sym (plain_at chain codec shape value is) ∙ what in absurd (cc)
stands_after slices chain codec elements shape value made cells false is lawful law h what =
    let was = match_false (is_plain chain) _ _ is h in
    let next = again_is codec (compaction chain shape was.0) made (sym (undone_at chain codec shape value was.0 is was.1) ∙ what) in
    match_from (is_plain chain) _ _ is (next.0, lawful.undoes next.0 made next.2, law was.0 next.0 was.2 next.1)

pub chain_compacted_stands : ChainCompactedStands
chain_compacted_stands slices (bytes order) elements shape value made cells lawful fit lossless are h what = absurd (cc)
chain_compacted_stands slices (packbits padding first last) elements shape value made cells lawful fit lossless are h what = absurd (cc)
chain_compacted_stands slices (vlen index «data» width location) elements shape value made cells lawful fit lossless are h what = absurd (cc)
chain_compacted_stands slices (optional mask values) elements shape value made cells lawful fit lossless are h what = absurd (cc)
chain_compacted_stands slices (after_array_codec codec chain) elements shape value made cells lawful fit lossless are h what =
    let both = and_parts (array_codec_fits codec shape) (fits chain elements.type (encoded_shape codec shape)) fit in
    chain_compacted_stands slices chain elements (encoded_shape codec shape) value made (gather elements.fill cells (source_places codec shape)) lawful both.1 lossless (cells_moved codec elements shape cells both.0 are) h what
chain_compacted_stands slices (then_bytes chain codec) elements shape value made cells lawful fit lossless are h what =
    stands_after slices chain codec elements shape value made cells (is_plain chain) refl lawful.1 (λ given inside k e. chain_compacted_stands slices chain elements shape given inside cells lawful.0 fit lossless are k e) h what
chain_compacted_stands slices (sharded subchunk inner index location) elements shape value made cells lawful fit lossless are h what =
    compacted_stands slices subchunk inner index location elements shape value made cells lawful fit lossless are h (shard_is subchunk index location shape value made what)

-- ---- what is tight

encoded_after : (chain : Chain) (codec : ByteCodec) (elements : Elements) (shape value made : List ℕ) (cells : List Cell) (plain : Bool) → is_plain chain ≡ plain
    → ((given inside : List ℕ) → Tight chain elements shape given cells → compaction chain shape given ≡ compacted_to inside → encoded chain elements shape cells ≡ Some inside)
    → Tight (then_bytes chain codec) elements shape value cells → compaction (then_bytes chain codec) shape value ≡ compacted_to made → encoded (then_bytes chain codec) elements shape cells ≡ Some made
encoded_after chain codec elements shape value made cells true is law h what = let no = sym (plain_at chain codec shape value is) ∙ what in absurd (cc)
encoded_after chain codec elements shape value made cells false is law h what =
    let was = match_false (is_plain chain) _ _ is h in
    let next = again_is codec (compaction chain shape was.0) made (sym (undone_at chain codec shape value was.0 is was.1) ∙ what) in
    ap (option_and_then codec.encode) (law was.0 next.0 was.2 next.1) ∙ next.2

pub chain_compacted_encoded : ChainCompactedEncoded
chain_compacted_encoded (bytes order) elements shape value made cells h what = absurd (cc)
chain_compacted_encoded (packbits padding first last) elements shape value made cells h what = absurd (cc)
chain_compacted_encoded (vlen index «data» width location) elements shape value made cells h what = absurd (cc)
chain_compacted_encoded (optional mask values) elements shape value made cells h what = absurd (cc)
chain_compacted_encoded (after_array_codec codec chain) elements shape value made cells h what = chain_compacted_encoded chain elements (encoded_shape codec shape) value made (gather elements.fill cells (source_places codec shape)) h what
chain_compacted_encoded (then_bytes chain codec) elements shape value made cells h what =
    encoded_after chain codec elements shape value made cells (is_plain chain) refl (λ given inside k e. chain_compacted_encoded chain elements shape given inside cells k e) h what
chain_compacted_encoded (sharded subchunk inner index location) elements shape value made cells h what =
    sym (compacted_encoded subchunk inner index location elements shape value cells h) ∙ shard_is subchunk index location shape value made what

-- ---- no damage

again_undamaged : (codec : ByteCodec) (what : Compaction) → (what ≡ damaged → ⊥) → encoded_again codec what ≡ damaged → ⊥
again_undamaged codec nothing_to_gain never h = cc
again_undamaged codec (compacted_to made) never h = go (codec.encode made) h where
  go : (o : Option (List ℕ)) → unless_refused o ≡ damaged → ⊥
  go None h = cc
  go (Some made) h = cc
again_undamaged codec damaged never h = never refl
again_undamaged codec refused never h = cc
again_undamaged codec too_long never h = cc

length_undamaged : (t u : Bool) (o : Option (List ℕ)) → (if t then nothing_to_gain else (if u then unless_refused o else too_long)) ≡ damaged → ⊥
length_undamaged true u o h = cc
length_undamaged false true None h = cc
length_undamaged false true (Some made) h = cc
length_undamaged false false o h = cc

-- what compaction makes of a shard, where its slices are known
shard_at : (subchunk : List ℕ) (index : Chain) (location : Location) (shape value : List ℕ) (stored : List (Option (List ℕ))) → slices_in subchunk index location shape value ≡ Some stored
    → shard_compaction subchunk index location shape value ≡ by_length (length value) (index_size index (index_shape shape subchunk) + length (joined_slices stored)) (compacted subchunk index location shape value)
shard_at subchunk index location shape value stored is =
    let whole = compacted subchunk index location shape value in
    ap (λ (o : Option (List (Option (List ℕ)))). elim o [ None ↦ damaged | Some stored ↦ by_length (length value) (index_size index (index_shape shape subchunk) + length (joined_slices stored)) whole ]) is

undamaged_after : (slices : Slices) (chain : Chain) (codec : ByteCodec) (elements : Elements) (shape value : List ℕ) (cells : List Cell) (plain : Bool) → is_plain chain ≡ plain
    → ((given : List ℕ) → StandsBy slices chain elements shape given cells → compaction chain shape given ≡ damaged → ⊥)
    → StandsBy slices (then_bytes chain codec) elements shape value cells → compaction (then_bytes chain codec) shape value ≡ damaged → ⊥
undamaged_after slices chain codec elements shape value cells true is law h what = let no = sym (plain_at chain codec shape value is) ∙ what in cc
undamaged_after slices chain codec elements shape value cells false is law h what =
    let was = match_false (is_plain chain) _ _ is h in
    again_undamaged codec (compaction chain shape was.0) (law was.0 was.2) (sym (undone_at chain codec shape value was.0 is was.1) ∙ what)

pub standing_undamaged : StandingUndamaged
standing_undamaged slices (bytes order) elements shape value cells h what = cc
standing_undamaged slices (packbits padding first last) elements shape value cells h what = cc
standing_undamaged slices (vlen index «data» width location) elements shape value cells h what = cc
standing_undamaged slices (optional mask values) elements shape value cells h what = cc
standing_undamaged slices (after_array_codec codec chain) elements shape value cells h what = standing_undamaged slices chain elements (encoded_shape codec shape) value (gather elements.fill cells (source_places codec shape)) h what
standing_undamaged slices (then_bytes chain codec) elements shape value cells h what =
    undamaged_after slices chain codec elements shape value cells (is_plain chain) refl (λ given k e. standing_undamaged slices chain elements shape given cells k e) h what
standing_undamaged slices (sharded subchunk inner index location) elements shape value cells h what =
    let pairs_shape = index_shape shape subchunk in
    let size = index_size index pairs_shape in
    let found = shard_read (index_layout index location pairs_shape) (SliceStandsBy slices inner elements) elements.fill (pieces_of elements.fill cells (parts_of shape subchunk)) value h in
    let after = size + length (joined_slices found.0) in
    length_undamaged (length value == after) (nat_lt after (2 ^ 63)) (compacted subchunk index location shape value) (sym (shard_at subchunk index location shape value found.0 found.1) ∙ what)

-- ---- what encoding writes

-- slices that encoding writes are what is stored of the pieces
are_stored : (encode : List ℕ → List Cell → Option (List ℕ)) (fill : Cell) (pieces : List Piece) (stored : List (Option (List ℕ))) → SlicesStand (λ shape slice cells. encode shape cells ≡ Some slice) fill pieces stored → stored_pieces encode fill pieces ≡ Some stored
are_stored encode fill [] [] h = refl
are_stored encode fill [] (first ∷ others) h = elim h [ ]
are_stored encode fill (piece ∷ pieces) [] h = elim h [ ]
are_stored encode fill (piece ∷ pieces) (None ∷ others) h =
    let next : Option (List ℕ) → Option (List (Option (List ℕ))) = λ first. option_map (λ (rest : List (Option (List ℕ))). first ∷ rest) (stored_pieces encode fill pieces) in
    ap (λ (t : Bool). option_and_then next (if t then Some None else option_map Some (encode piece.0 piece.1))) h.0
    ∙ ap (option_map (λ (rest : List (Option (List ℕ))). None ∷ rest)) (are_stored encode fill pieces others h.1)
are_stored encode fill (piece ∷ pieces) (Some slice ∷ others) h =
    let next : Option (List ℕ) → Option (List (Option (List ℕ))) = λ first. option_map (λ (rest : List (Option (List ℕ))). first ∷ rest) (stored_pieces encode fill pieces) in
    ap (λ (t : Bool). option_and_then next (if t then Some None else option_map Some (encode piece.0 piece.1))) h.0.0
    ∙ (ap (λ (o : Option (List ℕ)). option_and_then next (option_map Some o)) h.0.1
    ∙ ap (option_map (λ (rest : List (Option (List ℕ))). Some slice ∷ rest)) (are_stored encode fill pieces others h.1))

gains_after : (chain : Chain) (codec : ByteCodec) (elements : Elements) (shape value : List ℕ) (cells : List Cell) (plain : Bool) → is_plain chain ≡ plain → IsLawful codec
    → ((given : List ℕ) → encoded chain elements shape cells ≡ Some given → compaction chain shape given ≡ nothing_to_gain)
    → encoded (then_bytes chain codec) elements shape cells ≡ Some value → compaction (then_bytes chain codec) shape value ≡ nothing_to_gain
gains_after chain codec elements shape value cells true is lawful law h = plain_at chain codec shape value is
gains_after chain codec elements shape value cells false is lawful law h =
    let was = bind_some codec.encode (encoded chain elements shape cells) value h in
    undone_at chain codec shape value was.0 is (lawful.undoes was.0 value was.2) ∙ ap (encoded_again codec) (law was.0 was.1)

pub encoded_gains_nothing : EncodedGainsNothing
encoded_gains_nothing (bytes order) elements shape value cells lawful fit lossless are h = refl
encoded_gains_nothing (packbits padding first last) elements shape value cells lawful fit lossless are h = refl
encoded_gains_nothing (vlen index «data» width location) elements shape value cells lawful fit lossless are h = refl
encoded_gains_nothing (optional mask values) elements shape value cells lawful fit lossless are h = refl
encoded_gains_nothing (after_array_codec codec chain) elements shape value cells lawful fit lossless are h =
    let both = and_parts (array_codec_fits codec shape) (fits chain elements.type (encoded_shape codec shape)) fit in
    encoded_gains_nothing chain elements (encoded_shape codec shape) value (gather elements.fill cells (source_places codec shape)) lawful both.1 lossless (cells_moved codec elements shape cells both.0 are) h
encoded_gains_nothing (then_bytes chain codec) elements shape value cells lawful fit lossless are h =
    gains_after chain codec elements shape value cells (is_plain chain) refl lawful.1 (λ given e. encoded_gains_nothing chain elements shape given cells lawful.0 fit lossless are e) h
encoded_gains_nothing (sharded subchunk inner index location) elements shape value cells lawful fit lossless are h =
    let pairs_shape = index_shape shape subchunk in
    let size = index_size index pairs_shape in
    let pieces = pieces_of elements.fill cells (parts_of shape subchunk) in
    let tight = encoded_tight (sharded subchunk inner index location) elements shape value cells lawful fit lossless are h in
    let found = shard_read (index_layout index location pairs_shape) (IsEncoding inner elements) elements.fill pieces value tight in
    let after = size + length (joined_slices found.0) in
    let whole = compacted subchunk index location shape value in
    let long = shard_size subchunk inner index location elements shape value cells found.0 lawful.1 fit (are_stored (encoded inner elements) elements.fill pieces found.0 found.2) h in
    shard_at subchunk index location shape value found.0 found.1 ∙ ap (λ (b : Bool). if b then nothing_to_gain else (if nat_lt after (2 ^ 63) then unless_refused whole else too_long)) (eq-eqb (length value) after long)

-- where a value isn't undone
pub undone_none : (chain : Chain) (codec : ByteCodec) (shape value : List ℕ) → is_plain chain ≡ false → codec.decode value ≡ None → compaction (then_bytes chain codec) shape value ≡ damaged
undone_none chain codec shape value shards is =
    ap (λ (b : Bool). if b then nothing_to_gain else undone_compaction codec (compaction chain shape) value) shards
    ∙ ap (λ (o : Option (List ℕ)). elim o [ None ↦ damaged | Some given ↦ encoded_again codec (compaction chain shape given) ]) is
