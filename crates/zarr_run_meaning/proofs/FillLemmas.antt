-- What a table has at a place after chunks became the fill value.
use Rattle.std.proofs.Common.{◌≡◌, ◌∙◌, ℕ, List, [], ◌∷◌, ◌++◌, length, map, Option, Some, None, Bool, true, false, if◌then◌else◌, bytes_eq, refl, sym, ap}
use Rattle.std.specs.List.{list_any}
use Rattle.std.specs.Option.{option_map_or}
use Rattle.std.specs.Prelude.{◌||◌}
use Rattle.std.proofs.lemmas.Bool.{false≢true}
use Rattle.std.proofs.lemmas.Slice.Eq.{bytes_eq-Decides}
use Rattle.zarr_grids_boxes.specs.Boxes.{Region, places, is_in_box}
use Rattle.zarr_grids_chunks.specs.Grids.{Grid, chunk_box, lies_in_chunk}
use Rattle.zarr_grids_chunks.proofs.Partition.{any_places}
use Rattle.zarr_grids_cover.proofs.ChunkBoxes.{chunk_box-rank}
use Rattle.zarr_codecs_meaning.specs.Types.{Cell}
use Rattle.zarr_codecs_meaning.proofs.Lists.{Each}
use Rattle.zarr_array_meaning.proofs.Showing.{each_inside}
use Rattle.zarr_run_meaning.specs.Tables.{Table, cell, updated, fills}
use Rattle.zarr_run_meaning.proofs.TableLemmas.{last_at, cell-updated, last_at-entries}

-- ---- one box

-- a place that fails a test which all of a list pass is none of them
none_listed : (test : List ℕ → Bool) (q : List ℕ) (ps : List (List ℕ)) → test q ≡ false → Each (λ p. test p ≡ true) ps → list_any (bytes_eq q) ps ≡ false
none_listed test q [] out each = refl
none_listed test q (p ∷ ps) out each = ap (λ b. b || list_any (bytes_eq q) ps) (apart (bytes_eq q p) refl) ∙ none_listed test q ps out each.1 where
  apart : (b : Bool) → bytes_eq q p ≡ b → bytes_eq q p ≡ false
  apart true e = absurd (false≢true (sym out ∙ (ap test ((bytes_eq-Decides q p).0 e) ∙ each.0)))
  apart false e = e

-- the places that a box lists are those in it
pub listed_in_box : (ss es q : List ℕ) → length ss ≡ length es → list_any (bytes_eq q) (places ss es) ≡ is_in_box ss es q
listed_in_box ss es q l = told (is_in_box ss es q) refl where
  told : (b : Bool) → is_in_box ss es q ≡ b → list_any (bytes_eq q) (places ss es) ≡ is_in_box ss es q
  told true e = any_places ss es q l e ∙ sym e
  told false e = none_listed (is_in_box ss es) q (places ss es) e (each_inside (λ p. is_in_box ss es p ≡ true) ss es l (λ p inside. inside)) ∙ sym e

-- ---- several chunks

last_at-append : (q : List ℕ) (xs ys : List (List ℕ × Cell)) (d : Cell) → last_at q (xs ++ ys) d ≡ last_at q ys (last_at q xs d)
last_at-append q [] ys d = refl
last_at-append q (x ∷ xs) ys d = last_at-append q xs ys (if bytes_eq q x.0 then x.1 else d)

-- the fill value at each place of one chunk
abbrev filled : Grid → Cell → List ℕ → List (List ℕ × Cell)
filled grid fill chunk = option_map_or (λ (box : Region). map (λ place. (place, fill)) (places box.start box.shape)) (chunk_box grid chunk) []

last_at-filled : (grid : Grid) (fill : Cell) (chunk q : List ℕ) (d : Cell) → last_at q (filled grid fill chunk) d ≡ (if lies_in_chunk grid q chunk then fill else d)
last_at-filled grid fill chunk q d = go (chunk_box grid chunk) refl where
  go : (o : Option Region) → chunk_box grid chunk ≡ o
      → last_at q (option_map_or (λ (box : Region). map (λ place. (place, fill)) (places box.start box.shape)) o []) d ≡ (if option_map_or (λ (box : Region). is_in_box box.start box.shape q) o false then fill else d)
  go None e = refl
  go (Some box) e =
      let rank = chunk_box-rank grid chunk box e in
      last_at-entries (λ place. fill) (places box.start box.shape) q d ∙ ap (λ b. if b then fill else d) (listed_in_box box.start box.shape q (rank.0 ∙ sym rank.1))

last_at-fills : (grid : Grid) (fill : Cell) (chunks : List (List ℕ)) (q : List ℕ) (d : Cell) → last_at q (fills grid fill chunks) d ≡ (if list_any (lies_in_chunk grid q) chunks then fill else d)
last_at-fills grid fill [] q d = refl
last_at-fills grid fill (chunk ∷ chunks) q d =
    last_at-append q (filled grid fill chunk) (fills grid fill chunks) d
    ∙ ap (last_at q (fills grid fill chunks)) (last_at-filled grid fill chunk q d)
    ∙ last_at-fills grid fill chunks q (if lies_in_chunk grid q chunk then fill else d)
    ∙ either (lies_in_chunk grid q chunk) (list_any (lies_in_chunk grid q) chunks) where
      either : (a b : Bool) → (if b then fill else (if a then fill else d)) ≡ (if a || b then fill else d)
      either true true = refl
      either true false = refl
      either false true = refl
      either false false = refl

-- ---- an erasure, as a table and as a function of places
pub cell-fills : (fill : Cell) (t : Table) (grid : Grid) (chunks : List (List ℕ)) (q : List ℕ) → cell fill (updated fill t (fills grid fill chunks)) q ≡ (if list_any (lies_in_chunk grid q) chunks then fill else cell fill t q)
cell-fills fill t grid chunks q = cell-updated fill t (fills grid fill chunks) q ∙ last_at-fills grid fill chunks q (cell fill t q)
