-- The cells of a shard's array, put together subchunk by subchunk.
use Rattle.std.proofs.Common.{◌≡◌, ◌≢◌, ◌∙◌, inl, inr, ℕ, zero, suc, ◌+◌, ◌<◌, ◌≤◌, List, [], ◌∷◌, length, map, get_or, replicate, refl, sym, ap, arith, subst, Bool, true, false, ◌==◌, Option, Some, None, option_and_then, option_map, if◌then◌else◌}
use Rattle.std.proofs.lemmas.List.{length-replicate}
use Rattle.std.proofs.lemmas.Bool.{eqb-true, eq-eqb}
use Rattle.std.proofs.lemmas.List.FromFn.{fill_by_all, get_or-map-range_with_len}
use Rattle.zarr_grids_boxes.specs.Boxes.{product}
use Rattle.zarr_codecs_meaning.specs.Chains.{Chain}
use Rattle.zarr_codecs_meaning.specs.Decoding.{decoded, is_absent, pieces_decoded, slice_at}
use Rattle.zarr_codecs_meaning.specs.Encoding.{Pair, absent_pair}
use Rattle.zarr_codecs_meaning.specs.Fits.{can_cut}
use Rattle.zarr_codecs_meaning.specs.Keeping.{arranged}
use Rattle.zarr_codecs_meaning.specs.Places.{Part, parts_of, place_numbers}
use Rattle.zarr_codecs_meaning.specs.Types.{Cell, Elements}
use Rattle.zarr_codecs_meaning.proofs.Counts.{decoded_count}
use Rattle.zarr_codecs_meaning.proofs.Lists.{bind_some, some_same}
use Rattle.zarr_codecs_meaning.proofs.Parts.{no_part, part_counts}
use Rattle.zarr_codecs_meaning.proofs.PartsOnce.{number_in}
use Rattle.zarr_codecs_meaning.proofs.Positions.{each_at}
use Rattle.zarr_codecs_regions.specs.Updates.{put}
use Rattle.zarr_sharding_places.specs.Pieces.{piece_decoded, shard_decoded, subchunks_of}
use Rattle.zarr_sharding_places.proofs.PartPlaces.{HasCount, IsPlace, arranged_place, place_below, place_held, places_apart}
use Rattle.zarr_sharding_places.proofs.PutPlaces.{put_cases}

-- the cells of a subchunk, as a shard's pair says
abbrev pub piece_at : Chain → Elements → List ℕ → List Part → List Pair → ℕ → Option (List Cell)
piece_at inner elements value parts pairs k = piece_decoded inner elements value (get_or parts k no_part).shape (get_or pairs k absent_pair)

-- cells show a subchunk: at its places they are the cells that its slice is decoded to
pub record ShowsPiece (inner : Chain) (elements : Elements) (value : List ℕ) (parts : List Part) (pairs : List Pair) (cells : List Cell) (k : ℕ) : Type 0 where
  pub piece : List Cell
  pub is : piece_at inner elements value parts pairs k ≡ Some piece
  pub shown : (i : ℕ) → i < length (get_or parts k no_part).places → get_or cells (number_in parts k i) elements.fill ≡ get_or piece i elements.fill

-- cells show the first of the subchunks
abbrev pub ShowsPieces : Chain → Elements → List ℕ → List Part → List Pair → List Cell → ℕ → Type 0
ShowsPieces inner elements value parts pairs cells n = (k : ℕ) → k < n → ShowsPiece inner elements value parts pairs cells k

-- ---- one subchunk more

pub show_more : (inner : Chain) (elements : Elements) (shape subchunk value : List ℕ) (pairs : List Pair) (cells piece : List Cell) (n : ℕ) → can_cut shape subchunk ≡ true → n < length (parts_of shape subchunk) → length cells ≡ product shape
    → length piece ≡ length (get_or (parts_of shape subchunk) n no_part).places → piece_at inner elements value (parts_of shape subchunk) pairs n ≡ Some piece → ShowsPieces inner elements value (parts_of shape subchunk) pairs cells n
    → ShowsPieces inner elements value (parts_of shape subchunk) pairs (put (get_or (parts_of shape subchunk) n no_part).places piece cells) (n + 1)
show_more inner elements shape subchunk value pairs cells piece n cuts below whole long is before = λ k more. by_number k more (k == n) refl where
  parts : List Part
  parts = parts_of shape subchunk

  made : List Cell
  made = put (get_or parts n no_part).places piece cells

  old : (k : ℕ) → k < n → ShowsPiece inner elements value parts pairs made k
  old k less =
      let shows = before k less in
      record {
        piece = shows.piece;
        is = shows.is;
        shown = λ i low.
            let place : IsPlace parts k i = record { part = omega (arith, less, below); place = low } in
            let m = number_in parts k i in
            let inside = place_below shape subchunk k i cuts place in
            elim (put_cases (get_or parts n no_part).places piece cells m elements.fill long (omega (arith, inside, whole))) [
              | inl was ↦
                  let same = places_apart shape subchunk n was.at_ k i cuts (record { part = below; place = was.below }) place was.there in
                  let one = same.0 in absurd (omega (arith, one, less))
              | inr kept ↦ kept.is ∙ shows.shown i low
            ];
      }

  new : ShowsPiece inner elements value parts pairs made n
  new = record {
    piece = piece;
    is = is;
    shown = λ i low.
        let place : IsPlace parts n i = record { part = below; place = low } in
        let m = number_in parts n i in
        let inside = place_below shape subchunk n i cuts place in
        elim (put_cases (get_or parts n no_part).places piece cells m elements.fill long (omega (arith, inside, whole))) [
          | inl was ↦
              let same = places_apart shape subchunk n was.at_ n i cuts (record { part = below; place = was.below }) place was.there in
              was.is ∙ ap (λ j. get_or piece j elements.fill) same.1
          | inr kept ↦ absurd (kept.none i low refl)
        ];
  }

  by_number : (k : ℕ) → k < n + 1 → (b : Bool) → (k == n) ≡ b → ShowsPiece inner elements value parts pairs made k
  by_number k more true e = subst (λ j. ShowsPiece inner elements value parts pairs made j) (sym (eqb-true k n e)) new
  by_number k more false e = old k (lesser k n more (λ same. let yes = eq-eqb k n same in cc)) where
    lesser : (k n : ℕ) → k < n + 1 → k ≢ n → k < n
    lesser k n more other = omega (arith, more, other)

-- ---- all subchunks

-- as many pieces as there are parts, each of which is decoded
pub record HasPieces (inner : Chain) (elements : Elements) (value : List ℕ) (parts : List Part) (pairs : List Pair) : Type 0 where
  pub pieces : List (List Cell)
  pub are : pieces_decoded (decoded inner elements) elements.fill value parts pairs ≡ Some pieces
  pub many : length pieces ≡ length parts
  pub each : (k : ℕ) → k < length parts → piece_at inner elements value parts pairs k ≡ Some (get_or pieces k [])

has_pieces : (inner : Chain) (elements : Elements) (value : List ℕ) (parts : List Part) (pairs : List Pair) → length pairs ≡ length parts → ((k : ℕ) → k < length parts → (piece : List Cell) × (piece_at inner elements value parts pairs k ≡ Some piece))
    → HasPieces inner elements value parts pairs
has_pieces inner elements value [] pairs same law = record { pieces = []; are = refl; many = refl; each = λ k below. absurd (omega arith) }
has_pieces inner elements value (part ∷ parts) [] same law = absurd (omega (arith, same))
has_pieces inner elements value (part ∷ parts) (pair ∷ pairs) same law =
    let first = law 0 (omega arith) in
    let rest = has_pieces inner elements value parts pairs (omega (arith, same)) (λ k below. law (suc k) (omega (arith, below))) in
    let many = rest.many in
    let later = pieces_decoded (decoded inner elements) elements.fill value parts pairs in
    record {
      pieces = first.0 ∷ rest.pieces;
      are = ap (option_and_then (λ (cells : List Cell). option_map (λ (others : List (List Cell)). cells ∷ others) later)) first.1 ∙ ap (option_map (λ (others : List (List Cell)). first.0 ∷ others)) rest.are;
      many = omega (arith, many);
      each = each_piece first.0 rest.pieces first.1 rest.each;
    } where
      each_piece : (one : List Cell) (others : List (List Cell)) → piece_at inner elements value (part ∷ parts) (pair ∷ pairs) 0 ≡ Some one → ((k : ℕ) → k < length parts → piece_at inner elements value parts pairs k ≡ Some (get_or others k []))
          → (k : ℕ) → k < length (part ∷ parts) → piece_at inner elements value (part ∷ parts) (pair ∷ pairs) k ≡ Some (get_or (one ∷ others) k [])
      each_piece one others is law zero below = is
      each_piece one others is law (suc k) below = law k (omega (arith, below))

piece_long : (inner : Chain) (elements : Elements) (value shape : List ℕ) (pair : Pair) (piece : List Cell) (b : Bool) → (if b then Some (replicate (product shape) elements.fill) else option_and_then (decoded inner elements shape) (slice_at value pair)) ≡ Some piece → length piece ≡ product shape
piece_long inner elements value shape pair piece true h = ap (λ (cs : List Cell). length cs) (sym (some_same h)) ∙ length-replicate (product shape) elements.fill
piece_long inner elements value shape pair piece false h =
    let slice = bind_some (decoded inner elements shape) (slice_at value pair) piece h in
    decoded_count inner elements shape slice.0 piece slice.2

pub piece_count : (inner : Chain) (elements : Elements) (shape subchunk value : List ℕ) (pairs : List Pair) (piece : List Cell) (k : ℕ) → can_cut shape subchunk ≡ true → k < length (parts_of shape subchunk) → piece_at inner elements value (parts_of shape subchunk) pairs k ≡ Some piece
    → length piece ≡ length (get_or (parts_of shape subchunk) k no_part).places
piece_count inner elements shape subchunk value pairs piece k cuts below is =
    let pair = get_or pairs k absent_pair in
    piece_long inner elements value (get_or (parts_of shape subchunk) k no_part).shape pair piece (is_absent pair) is
    ∙ sym (each_at (λ (part : Part). length part.places ≡ product part.shape) (parts_of shape subchunk) k no_part (part_counts shape subchunk cuts) below)

-- cells that show all subchunks are those that the shard is decoded to
pub shown_all : (inner : Chain) (elements : Elements) (shape subchunk value : List ℕ) (pairs : List Pair) (cells : List Cell) (n : ℕ) → can_cut shape subchunk ≡ true → length pairs ≡ length (parts_of shape subchunk) → length (parts_of shape subchunk) ≤ n
    → length cells ≡ product shape → ShowsPieces inner elements value (parts_of shape subchunk) pairs cells n → shard_decoded (subchunks_of inner elements shape subchunk) value pairs ≡ Some cells
shown_all inner elements shape subchunk value pairs cells n cuts same all whole shows =
    let parts = parts_of shape subchunk in
    let fill = elements.fill in
    let has = has_pieces inner elements value parts pairs same (λ k below. let s = shows k (omega (arith, below, all)) in (s.piece, s.is)) in
    let counts : HasCount parts has.pieces = record { many = has.many; each = λ k below. piece_count inner elements shape subchunk value pairs (get_or has.pieces k []) k cuts below (has.each k below) } in
    let arrange = arranged fill parts has.pieces in
    let at_ : (m : ℕ) → m < product shape → get_or cells m fill ≡ arrange m = λ m below.
    let held = place_held shape subchunk m cuts below in
    let low = held.is.part in
    let s = shows held.part (omega (arith, low, all)) in
    let piece : s.piece ≡ get_or has.pieces held.part [] = some_same (sym s.is ∙ has.each held.part held.is.part) in
    let one : get_or cells m fill ≡ get_or (get_or has.pieces held.part []) held.place fill =
    ap (λ j. get_or cells j fill) (sym held.here) ∙ (s.shown held.place held.is.place ∙ ap (λ (cs : List Cell). get_or cs held.place fill) piece) in
    let other : get_or (map arrange (place_numbers shape)) m fill ≡ get_or (get_or has.pieces held.part []) held.place fill =
    ap (λ j. get_or (map arrange (place_numbers shape)) j fill) (sym held.here) ∙ arranged_place fill shape subchunk has.pieces held.part held.place cuts counts held.is in
    one ∙ (sym other ∙ get_or-map-range_with_len arrange 0 (product shape) m m fill below (omega arith)) in
    ap (option_map (λ pieces. map (arranged fill parts pieces) (place_numbers shape))) has.are ∙ ap Some (sym (fill_by_all arrange cells (product shape) fill whole at_))

-- ---- damage

-- where one subchunk isn't decoded, the shard isn't
pub lost_piece : (inner : Chain) (elements : Elements) (value : List ℕ) (parts : List Part) (pairs : List Pair) (k : ℕ) → k < length parts → piece_at inner elements value parts pairs k ≡ None
    → pieces_decoded (decoded inner elements) elements.fill value parts pairs ≡ None
lost_piece inner elements value [] pairs k below lost = absurd (omega arith)
lost_piece inner elements value (part ∷ parts) [] k below lost = refl
lost_piece inner elements value (part ∷ parts) (pair ∷ pairs) zero below lost =
    ap (option_and_then (λ (cells : List Cell). option_map (λ (others : List (List Cell)). cells ∷ others) (pieces_decoded (decoded inner elements) elements.fill value parts pairs))) lost
lost_piece inner elements value (part ∷ parts) (pair ∷ pairs) (suc k) below lost =
    ap (λ (o : Option (List (List Cell))). option_and_then (λ (cells : List Cell). option_map (λ (others : List (List Cell)). cells ∷ others) o) (piece_decoded inner elements value part.shape pair))
    (lost_piece inner elements value parts pairs k (omega (arith, below)) lost)
    ∙ none_then (piece_decoded inner elements value part.shape pair) where
      none_then : (o : Option (List Cell)) → option_and_then (λ (cells : List Cell). option_map (λ (others : List (List Cell)). cells ∷ others) None) o ≡ None
      none_then None = refl
      none_then (Some cells) = refl

pub lost_shard : (inner : Chain) (elements : Elements) (shape subchunk value : List ℕ) (pairs : List Pair) (k : ℕ) → k < length (parts_of shape subchunk) → piece_at inner elements value (parts_of shape subchunk) pairs k ≡ None
    → shard_decoded (subchunks_of inner elements shape subchunk) value pairs ≡ None
lost_shard inner elements shape subchunk value pairs k below lost =
    ap (option_map (λ pieces. map (arranged elements.fill (parts_of shape subchunk) pieces) (place_numbers shape))) (lost_piece inner elements value (parts_of shape subchunk) pairs k below lost)
