-- Arrays that are all fill, and their subchunks.
use Rattle.std.proofs.Common.{◌≡◌, ◌∙◌, ℕ, zero, suc, List, [], ◌∷◌, length, get_or, replicate, ap, sym, refl, arith, inl, inr, true}
use Rattle.std.proofs.lemmas.Bool.{and_from, and_parts}
use Rattle.std.proofs.lemmas.List.{length-map, length-replicate}
use Rattle.std.specs.List.{list_all}
use Rattle.zarr_grids_boxes.specs.Boxes.{product}
use Rattle.zarr_codecs_arrays.proofs.Copies.{fill_decides}
use Rattle.zarr_codecs_meaning.specs.Decoding.{is_absent}
use Rattle.zarr_codecs_meaning.specs.Encoding.{Pair, Piece, absent_pair, piece_of, pieces_of}
use Rattle.zarr_codecs_meaning.specs.Fits.{can_cut}
use Rattle.zarr_codecs_meaning.specs.Places.{Part, gather, parts_of}
use Rattle.zarr_codecs_meaning.specs.Standing.{PiecesStand, data_part}
use Rattle.zarr_codecs_meaning.specs.Types.{Cell, is_fill}
use Rattle.zarr_codecs_meaning.proofs.Lists.{each_passes}
use Rattle.zarr_codecs_meaning.proofs.Positions.{each_at}
use Rattle.zarr_codecs_meaning.proofs.Shards.{fill_is_replicate}
use Rattle.zarr_sharding_index.specs.Held.{are_absent}
use Rattle.zarr_sharding_codec.proofs.PartHolds.{piece_there}
use Rattle.zarr_sharding_codec.proofs.PutPieces.{places_at, same_seen}
use Rattle.zarr_sharding_codec.proofs.StoredLoop.{no_piece}

replicate_at : (count n : ℕ) (c : Cell) → get_or (replicate count c) n c ≡ c
replicate_at zero n c = refl
replicate_at (suc count) zero c = refl
replicate_at (suc count) (suc n) c = replicate_at count n c

replicate_fill : (fill : Cell) (count : ℕ) → is_fill fill (replicate count fill) ≡ true
replicate_fill fill count = (fill_decides fill (replicate count fill)).1 (ap (λ n. replicate n fill) (sym (length-replicate {A = Cell} count fill)))

-- each place has the fill value
fill_read : (fill : Cell) (cells : List Cell) (n : ℕ) → is_fill fill cells ≡ true → get_or cells n fill ≡ fill
fill_read fill cells n filled = ap (λ (cs : List Cell). get_or cs n fill) (fill_is_replicate fill cells filled) ∙ replicate_at (length cells) n fill

gathered_fill : (fill : Cell) (cells : List Cell) (ns : List ℕ) → ((n : ℕ) → get_or cells n fill ≡ fill) → gather fill cells ns ≡ replicate (length ns) fill
gathered_fill fill cells [] read = refl
gathered_fill fill cells (n ∷ ns) read = ap (λ c. c ∷ gather fill cells ns) (read n) ∙ ap (λ cs. fill ∷ cs) (gathered_fill fill cells ns read)

-- each subchunk of an array that is all fill is
pub piece_fill : (fill : Cell) (cells : List Cell) (ns : List ℕ) → is_fill fill cells ≡ true → is_fill fill (gather fill cells ns) ≡ true
piece_fill fill cells ns filled = ap (is_fill fill) (gathered_fill fill cells ns (λ n. fill_read fill cells n filled)) ∙ replicate_fill fill (length ns)

pub pieces_fill : (fill : Cell) (cells : List Cell) (parts : List Part) → is_fill fill cells ≡ true → list_all (λ (piece : Piece). is_fill fill piece.1) (pieces_of fill cells parts) ≡ true
pieces_fill fill cells [] filled = refl
pieces_fill fill cells (part ∷ parts) filled =
    and_from (is_fill fill (gather fill cells part.places)) (list_all (λ (piece : Piece). is_fill fill piece.1) (pieces_of fill cells parts)) (piece_fill fill cells part.places filled) (pieces_fill fill cells parts filled)

-- an array whose subchunks are all fill is
pub whole_fill : (fill : Cell) (shape subchunk : List ℕ) (cells : List Cell) → can_cut shape subchunk ≡ true → length cells ≡ product shape → list_all (λ (piece : Piece). is_fill fill piece.1) (pieces_of fill cells (parts_of shape subchunk)) ≡ true
    → is_fill fill cells ≡ true
whole_fill fill shape subchunk cells cuts long all =
    let test = λ (piece : Piece). is_fill fill piece.1 in
    let pieces = pieces_of fill cells (parts_of shape subchunk) in
    let count = length-map (parts_of shape subchunk) (piece_of fill cells) in
    let same = same_seen fill shape subchunk cells (replicate (product shape) fill) cuts long (length-replicate {A = Cell} (product shape) fill) (λ k there.
    let places = places_at shape subchunk k in
    let one = each_at (λ (piece : Piece). test piece ≡ true) pieces k no_piece (each_passes test pieces all) (omega (arith, there, count)) in
    let here : is_fill fill (gather fill cells places) ≡ true = ap test (sym (piece_there fill cells shape subchunk k cuts there)) ∙ one in
    fill_is_replicate fill (gather fill cells places) here
    ∙ (ap (λ n. replicate n fill) (length-map places (λ n. get_or cells n fill)) ∙ sym (gathered_fill fill (replicate (product shape) fill) places (λ n. replicate_at (product shape) n fill)))) in
    ap (is_fill fill) same ∙ replicate_fill fill (product shape)

-- where all subchunks are fill, each pair is absent
pub all_absent : (inner : List ℕ → List ℕ → List Cell → Type 0) (fill : Cell) (base : ℕ) («data» : List ℕ) (pieces : List Piece) (pairs : List Pair) → PiecesStand inner fill (data_part base «data») pieces pairs → list_all (λ (piece : Piece). is_fill fill piece.1) pieces ≡ true → are_absent pairs ≡ true
all_absent inner fill base «data» [] [] stand filled = refl
all_absent inner fill base «data» [] (p ∷ ps) stand filled = elim stand [ ]
all_absent inner fill base «data» (x ∷ xs) [] stand filled = elim stand [ ]
all_absent inner fill base «data» (x ∷ xs) (p ∷ ps) stand filled =
    let both = and_parts (is_fill fill x.1) (list_all (λ (piece : Piece). is_fill fill piece.1) xs) filled in
    let first : is_absent p ≡ true = elim stand.0 [ inl k ↦ ap is_absent k.1 | inr k ↦ let no = k.0 in let is = both.0 in absurd (cc) ] in
    and_from (is_absent p) (list_all is_absent ps) first (all_absent inner fill base «data» xs ps stand.1 both.1)

-- where each subchunk is fill, absent pairs stand for them
pub filled_stand : (inner : List ℕ → List ℕ → List Cell → Type 0) (fill : Cell) (base : ℕ) (cells : List Cell) (parts : List Part) → is_fill fill cells ≡ true → PiecesStand inner fill (data_part base []) (pieces_of fill cells parts) (replicate (length parts) absent_pair)
filled_stand inner fill base cells [] filled = tt
filled_stand inner fill base cells (part ∷ parts) filled = (inl (piece_fill fill cells part.places filled, refl), filled_stand inner fill base cells parts filled)

pub none_present : (count : ℕ) → are_absent (replicate count absent_pair) ≡ true
none_present zero = refl
none_present (suc count) = none_present count
