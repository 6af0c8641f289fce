-- Elements of variable length that are gathered by their numbers.
use Rattle.std.proofs.Common.{◌≡◌, ◌∙◌, ℕ, zero, suc, ◌+◌, ◌-◌, ◌<◌, ◌≤◌, Bool, true, false, ◌==◌, if◌then◌else◌, List, [], ◌∷◌, ◌++◌, length, map, get_or, slice_index, take, drop, flat_map, Option, Some, None, option_map, refl, sym, ap, arith, append_assoc, length-append}
use Rattle.std.specs.Prelude.{nat_lt, nat_le}
use Rattle.std.proofs.Math.Seq.{take-append_seam, drop-append_seam}
use Rattle.std.proofs.lemmas.Bool.{eq-eqb, le-leb, and_parts, ltb-true}
use Rattle.std.proofs.lemmas.List.{length-map, get_or-map}
use Rattle.zarr_codecs_meaning.specs.Types.{DataType, is_variable, Cell, of_bytes}
use Rattle.zarr_codecs_meaning.specs.Payloads.{Payload, variable, bytes_between, variable_in, cells_in}
use Rattle.zarr_codecs_meaning.specs.Places.{gather}
use Rattle.zarr_codecs_meaning.proofs.Lists.{map_some, if_some}
use Rattle.zarr_codecs_regions.specs.Pieces.{piece_of, ends_of}
use Rattle.zarr_codecs_regions.proofs.Gathers.{are_below}

-- ---- one element

-- the first element that offsets cut off, and the others
record IsCut (start end : ℕ) (ends bytes : List ℕ) (pieces : List (List ℕ)) : Type 0 where
  others : List (List ℕ)
  rest : bytes_between end ends bytes ≡ Some others
  are : take (end - start) (drop start bytes) ∷ others ≡ pieces

cut_parts : (start end : ℕ) (ends bytes : List ℕ) (pieces : List (List ℕ)) → bytes_between start (end ∷ ends) bytes ≡ Some pieces → IsCut start end ends bytes pieces
cut_parts start end ends bytes pieces h =
    let both = if_some (nat_le start end) (option_map (λ rest. take (end - start) (drop start bytes) ∷ rest) (bytes_between end ends bytes)) pieces h in
    let found = map_some (λ rest. take (end - start) (drop start bytes) ∷ rest) (bytes_between end ends bytes) pieces both.1 in
    record { others = found.0; rest = found.1; are = found.2 }

-- one element more
pub cut_more : (start end : ℕ) (ends bytes piece : List ℕ) (pieces : List (List ℕ)) → start ≤ end → take (end - start) (drop start bytes) ≡ piece → bytes_between end ends bytes ≡ Some pieces → bytes_between start (end ∷ ends) bytes ≡ Some (piece ∷ pieces)
cut_more start end ends bytes piece pieces more is rest =
    ap (λ (b : Bool). if b then option_map (λ rest. take (end - start) (drop start bytes) ∷ rest) (bytes_between end ends bytes) else None) (le-leb start end more)
    ∙ (ap (option_map (λ rest. take (end - start) (drop start bytes) ∷ rest)) rest ∙ ap (λ p. Some (p ∷ pieces)) is)

no_piece : (start n : ℕ) (bytes : List ℕ) (pieces : List (List ℕ)) (b : Bool) → (if◌then◌else◌ {A = Option (List (List ℕ))} b (Some []) None) ≡ Some pieces → n < length pieces → ⊥
no_piece start n bytes [] b h less = omega (arith, less)
no_piece start n bytes (p ∷ pieces) true h less = cc
no_piece start n bytes (p ∷ pieces) false h less = cc

between_piece : (start : ℕ) (ends bytes : List ℕ) (pieces : List (List ℕ)) (n : ℕ) → bytes_between start ends bytes ≡ Some pieces → n < length pieces → get_or pieces n [] ≡ piece_of (start ∷ ends) bytes n
between_piece start [] bytes pieces n h less = absurd (no_piece start n bytes pieces (start == length bytes) h less)
between_piece start (end ∷ ends) bytes pieces zero h less =
    let cut = cut_parts start end ends bytes pieces h in
    sym (ap (λ p. get_or p 0 []) cut.are)
between_piece start (end ∷ ends) bytes pieces (suc k) h less =
    let cut = cut_parts start end ends bytes pieces h in
    let long = ap length cut.are in
    let next : suc (k + 1) ≡ suc k + 1 = omega arith in
    sym (ap (λ p. get_or p (suc k) []) cut.are)
    ∙ (between_piece end ends bytes cut.others k cut.rest (omega (arith, less, long))
    ∙ ap (λ m. take (slice_index (start ∷ end ∷ ends) m - slice_index (end ∷ ends) k) (drop (slice_index (end ∷ ends) k) bytes)) next)

variable_piece : (offsets bytes : List ℕ) (cells : List Cell) (n : ℕ) (other : Cell) → variable_in offsets bytes ≡ Some cells → n < length cells → get_or cells n other ≡ of_bytes (piece_of offsets bytes n)
variable_piece [] bytes cells n other h less = cc
variable_piece (start ∷ ends) bytes cells n other h less =
    let found = map_some (map of_bytes) (bytes_between start ends bytes) cells h in
    let long : length found.0 ≡ length cells = sym (length-map found.0 of_bytes) ∙ ap length found.2 in
    let below : n < length found.0 = omega (arith, less, long) in
    ap (λ cs. get_or cs n other) (sym found.2)
    ∙ (get_or-map of_bytes found.0 n [] other below ∙ ap of_bytes (between_piece start ends bytes found.0 n found.1 below))

-- ---- all of them

pieces_cut : (f : ℕ → List ℕ) (front : List ℕ) (start : ℕ) (numbers : List ℕ) → start ≡ length front → bytes_between start (ends_of start (map f numbers)) (front ++ flat_map f numbers) ≡ Some (map f numbers)
pieces_cut f front start [] is =
    ap (λ (b : Bool). if◌then◌else◌ {A = Option (List (List ℕ))} b (Some []) None) (eq-eqb start (length (front ++ [])) (omega (arith, is, length-append {A = ℕ} front [])))
pieces_cut f front start (n ∷ numbers) is =
    let rest = flat_map f numbers in
    let long : (start + length (f n)) - start ≡ length (f n) = omega arith in
    let same : take ((start + length (f n)) - start) (drop start (front ++ (f n ++ rest))) ≡ f n =
    ap (λ k. take k (drop start (front ++ (f n ++ rest)))) long
    ∙ (ap (λ k. take (length (f n)) (drop k (front ++ (f n ++ rest)))) is
    ∙ (ap (take (length (f n))) (drop-append_seam front (f n ++ rest)) ∙ take-append_seam (f n) rest)) in
    let others : bytes_between (start + length (f n)) (ends_of (start + length (f n)) (map f numbers)) (front ++ (f n ++ rest)) ≡ Some (map f numbers) =
    ap (bytes_between (start + length (f n)) (ends_of (start + length (f n)) (map f numbers))) (sym (append_assoc front (f n) rest))
    ∙ pieces_cut f (front ++ f n) (start + length (f n)) numbers (omega (arith, is, length-append front (f n))) in
    cut_more start (start + length (f n)) (ends_of (start + length (f n)) (map f numbers)) (front ++ (f n ++ rest)) (f n) (map f numbers) (omega arith) same others

pub pieces_gathered : (offsets bytes : List ℕ) (cells : List Cell) (other : Cell) (numbers : List ℕ) → variable_in offsets bytes ≡ Some cells → are_below (length cells) numbers ≡ true
    → map of_bytes (map (piece_of offsets bytes) numbers) ≡ gather other cells numbers
pieces_gathered offsets bytes cells other [] h all = refl
pieces_gathered offsets bytes cells other (n ∷ numbers) h all =
    let both = and_parts (nat_lt n (length cells)) (are_below (length cells) numbers) all in
    ap (λ c. c ∷ map of_bytes (map (piece_of offsets bytes) numbers)) (sym (variable_piece offsets bytes cells n other h (ltb-true n (length cells) both.0)))
    ∙ ap (λ cs. get_or cells n other ∷ cs) (pieces_gathered offsets bytes cells other numbers h both.1)

pub pieces_payload : (type : DataType) (payload : Payload) (offsets bytes : List ℕ) (cells : List Cell) (other : Cell) (numbers : List ℕ) → payload ≡ variable bytes offsets → cells_in type payload ≡ Some cells → are_below (length cells) numbers ≡ true
    → cells_in type (variable (flat_map (piece_of offsets bytes) numbers) (0 ∷ ends_of 0 (map (piece_of offsets bytes) numbers))) ≡ Some (gather other cells numbers)
pieces_payload type payload offsets bytes cells other numbers p h all =
    let f = piece_of offsets bytes in
    let both = if_some (is_variable type) (variable_in offsets bytes) cells (sym (ap (cells_in type) p) ∙ h) in
    ap (λ (t : Bool). if t then variable_in (0 ∷ ends_of 0 (map f numbers)) (flat_map f numbers) else None) both.0
    ∙ (ap (option_map (map of_bytes)) (pieces_cut f [] 0 numbers refl) ∙ ap Some (pieces_gathered offsets bytes cells other numbers both.1 all))
