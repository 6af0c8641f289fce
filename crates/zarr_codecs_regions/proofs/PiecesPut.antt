-- Elements of variable length, taken and put, as elements of a type.
use Rattle.std.proofs.Common.{◌≡◌, ◌∙◌, ℕ, ◌+◌, ◌-◌, Bool, true, if◌then◌else◌, List, [], ◌∷◌, ◌++◌, length, map, get_or, take, drop, flat_map, Option, Some, None, option_map, refl, sym, ap, arith, append_assoc, length-append}
use Rattle.std.specs.List.{range_with_len}
use Rattle.std.proofs.Math.Seq.{take-append_seam, drop-append_seam}
use Rattle.std.proofs.lemmas.Bool.{eq-eqb}
use Rattle.zarr_codecs_meaning.specs.Types.{DataType, is_variable, Cell, absent, of_bytes}
use Rattle.zarr_codecs_meaning.specs.Payloads.{Payload, variable, bytes_between, variable_in, cells_in}
use Rattle.zarr_codecs_meaning.specs.Places.{gather}
use Rattle.zarr_codecs_meaning.proofs.Lists.{if_some}
use Rattle.zarr_codecs_regions.specs.Pieces.{piece_of, ends_of}
use Rattle.zarr_codecs_regions.specs.Updates.{put}
use Rattle.zarr_codecs_regions.proofs.Gathers.{are_below}
use Rattle.zarr_codecs_regions.proofs.Pieces.{cut_more, pieces_gathered}
use Rattle.zarr_codecs_regions.proofs.Puts.{map_put, range_below, read_part}

all_cut : (front : List ℕ) (start : ℕ) (ps : List (List ℕ)) → start ≡ length front → bytes_between start (ends_of start ps) (front ++ flat_map (λ piece. piece) ps) ≡ Some ps
all_cut front start [] is =
    ap (λ (b : Bool). if◌then◌else◌ {A = Option (List (List ℕ))} b (Some []) None) (eq-eqb start (length (front ++ [])) (omega (arith, is, length-append {A = ℕ} front [])))
all_cut front start (p ∷ ps) is =
    let rest = flat_map (λ piece. piece) ps in
    let long : (start + length p) - start ≡ length p = omega arith in
    let same : take ((start + length p) - start) (drop start (front ++ (p ++ rest))) ≡ p =
    ap (λ k. take k (drop start (front ++ (p ++ rest)))) long
    ∙ (ap (λ k. take (length p) (drop k (front ++ (p ++ rest)))) is
    ∙ (ap (take (length p)) (drop-append_seam front (p ++ rest)) ∙ take-append_seam p rest)) in
    let others : bytes_between (start + length p) (ends_of (start + length p) ps) (front ++ (p ++ rest)) ≡ Some ps =
    ap (bytes_between (start + length p) (ends_of (start + length p) ps)) (sym (append_assoc front p rest))
    ∙ all_cut (front ++ p) (start + length p) ps (omega (arith, is, length-append front p)) in
    cut_more start (start + length p) (ends_of (start + length p) ps) (front ++ (p ++ rest)) p ps (omega arith) same others

-- elements of a type that is of variable length
pieces_cells : (type : DataType) (ps : List (List ℕ)) → is_variable type ≡ true → cells_in type (variable (flat_map (λ piece. piece) ps) (0 ∷ ends_of 0 ps)) ≡ Some (map of_bytes ps)
pieces_cells type ps is =
    ap (λ (t : Bool). if t then variable_in (0 ∷ ends_of 0 ps) (flat_map (λ piece. piece) ps) else None) is ∙ ap (option_map (map of_bytes)) (all_cut [] 0 ps refl)

variable_parts : (type : DataType) (payload : Payload) (offsets bytes : List ℕ) (cells : List Cell) → payload ≡ variable bytes offsets → cells_in type payload ≡ Some cells → (is_variable type ≡ true) × (variable_in offsets bytes ≡ Some cells)
variable_parts type payload offsets bytes cells p h = if_some (is_variable type) (variable_in offsets bytes) cells (sym (ap (cells_in type) p) ∙ h)

-- those with some numbers
pub taken_cells : (type : DataType) (payload : Payload) (offsets bytes : List ℕ) (cells : List Cell) (other : Cell) (numbers : List ℕ) → payload ≡ variable bytes offsets → cells_in type payload ≡ Some cells → are_below (length cells) numbers ≡ true
    → cells_in type (variable (flat_map (λ piece. piece) (map (piece_of offsets bytes) numbers)) (0 ∷ ends_of 0 (map (piece_of offsets bytes) numbers))) ≡ Some (gather other cells numbers)
taken_cells type payload offsets bytes cells other numbers p h all =
    let both = variable_parts type payload offsets bytes cells p h in
    pieces_cells type (map (piece_of offsets bytes) numbers) both.0 ∙ ap Some (pieces_gathered offsets bytes cells other numbers both.1 all)

-- all of them
all_pieces : (offsets bytes : List ℕ) (cells : List Cell) (count : ℕ) → variable_in offsets bytes ≡ Some cells → length cells ≡ count → map of_bytes (map (piece_of offsets bytes) (range_with_len 0 count)) ≡ cells
all_pieces offsets bytes cells count h many =
    ap (λ n. map of_bytes (map (piece_of offsets bytes) (range_with_len 0 n))) (sym many)
    ∙ (pieces_gathered offsets bytes cells absent (range_with_len 0 (length cells)) h (range_below (length cells) 0 (length cells) (omega arith))
    ∙ read_part cells cells absent 0 (λ i less. let e : 0 + i ≡ i = omega arith in ap (λ n. get_or cells n absent) e))

-- those of an array after new ones were put
pub put_pieces_cells : (type : DataType) (array update : Payload) (offsets bytes cuts others : List ℕ) (before given : List Cell) (numbers : List ℕ) (count : ℕ) → array ≡ variable bytes offsets → update ≡ variable others cuts
    → cells_in type array ≡ Some before → length before ≡ count → cells_in type update ≡ Some given → length given ≡ length numbers → (ps : List (List ℕ)) → ps ≡ put numbers (map (piece_of cuts others) (range_with_len 0 (length numbers))) (map (piece_of offsets bytes) (range_with_len 0 count))
    → cells_in type (variable (flat_map (λ piece. piece) ps) (0 ∷ ends_of 0 ps)) ≡ Some (put numbers given before)
put_pieces_cells type array update offsets bytes cuts others before given numbers count a u b old g new ps is =
    let one = variable_parts type array offsets bytes before a b in
    let two = variable_parts type update cuts others given u g in
    let olds = map (piece_of offsets bytes) (range_with_len 0 count) in
    let news = map (piece_of cuts others) (range_with_len 0 (length numbers)) in
    pieces_cells type ps one.0
    ∙ ap Some (ap (map of_bytes) is
    ∙ (map_put of_bytes numbers news olds
    ∙ (ap (λ xs. put numbers xs (map of_bytes olds)) (all_pieces cuts others given (length numbers) two.1 new) ∙ ap (put numbers given) (all_pieces offsets bytes before count one.1 old))))
