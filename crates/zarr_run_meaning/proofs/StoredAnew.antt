-- What a compaction and a rewrite leave of an array: the cells that it had.
use Rattle.std.proofs.Common.{◌≡◌, ◌∙◌, ℕ, Bool, true, false, List, [], ◌∷◌, map, refl, sym, ap, subst, ⊎_elim, Option, Some, None, bytes_eq}
use Rattle.std.specs.Prelude.{MatchBool}
use Rattle.std.proofs.lemmas.Bool.{false≢true, or_cases, MatchBool-at_true}
use Rattle.std.proofs.lemmas.Slice.Eq.{bytes_eq-Decides}
use Rattle.zarr_grids_boxes.specs.Boxes.{Region, places, is_in_box}
use Rattle.zarr_grids_chunks.specs.Grids.{IsInGrid}
use Rattle.zarr_codecs_meaning.specs.Chunks.{IsStored}
use Rattle.zarr_codecs_meaning.specs.Encoding.{encoded}
use Rattle.zarr_codecs_meaning.specs.Fits.{fits}
use Rattle.zarr_codecs_meaning.specs.Laws.{AreCells}
use Rattle.zarr_codecs_meaning.specs.Standing.{ChunkStands, Stands}
use Rattle.zarr_codecs_meaning.specs.Standing.Slices.{standing_slices, encoded_slices}
use Rattle.zarr_codecs_meaning.specs.Types.{Cell}
use Rattle.zarr_codecs_meaning.proofs.Lists.{some_same}
use Rattle.zarr_codecs_meaning.proofs.Tight.{encoded_tight}
use Rattle.zarr_sharding_values.proofs.ChainCompaction.{chain_compacted_stands}
use Rattle.zarr_sharding_values.proofs.StoredAfresh.{decoded_cells}
use Rattle.zarr_codecs_traits.specs.PartWriting.{ChunkTight}
use Rattle.zarr_array_meaning.specs.Arrays.{Array, value_at}
use Rattle.zarr_array_meaning.specs.Chunks.{part_at, is_listed, KeepsOtherKeys}
use Rattle.zarr_array_meaning.specs.Compacting.{IsCompacted, CompactsChunk}
use Rattle.zarr_array_meaning.specs.Documents.{Document}
use Rattle.zarr_array_meaning.specs.Rewriting.{IsRewritten, RewroteChunks}
use Rattle.zarr_array_meaning.specs.Standing.{ChunkStandsAt, ChunkTightAt, IsLossless, IsGood, AreValues}
use Rattle.zarr_array_meaning.specs.StoreMaps.{StoreMap}
use Rattle.zarr_array_meaning.proofs.Showing.{are_cells}
use Rattle.zarr_run_meaning.specs.Worlds.{Held, World, array_of, held_at, writes_exactly, WithTable}
use Rattle.zarr_run_meaning.proofs.Keys.{AreBelow}
use Rattle.zarr_run_meaning.proofs.Reading.{box_same}

-- ---- one chunk

match_true : (b : Bool) (P Q : Type 0) → b ≡ true → P → MatchBool b P Q
match_true true P Q e p = p
match_true false P Q e p = absurd (cc)

-- what compacting makes of what stands for cells stands for them
module _ (document : Document) (shape : List ℕ) (cells : List Cell) (good : IsGood document) (lossless : IsLossless document) (are : AreCells document.elements shape cells) where
  abbrev StandsHere : Option (List ℕ) → Type 0
  StandsHere stored = IsStored document.chain document.elements shape stored cells

  compacted_stands : (changed : Bool) (old new : Option (List ℕ)) → IsCompacted document shape changed old new → StandsHere old → StandsHere new
  compacted_stands true None new is h = subst StandsHere (sym is.1) h
  compacted_stands false None new is h = subst StandsHere (sym is.1) h
  compacted_stands false (Some value) new is h = subst StandsHere (sym is.2) h
  compacted_stands true (Some value) new is h =
      let stood : Stands document.chain document.elements shape value cells = MatchBool-at_true _ _ is.0 h in
      let stands = chain_compacted_stands standing_slices document.chain document.elements shape value is.1.0 cells good.lawful is.0 lossless are stood is.1.1 in
      subst StandsHere (sym is.1.2) (match_true (fits document.chain document.elements.type shape) _ _ is.0 stands)

  abbrev TightHere : Option (List ℕ) → Type 0
  TightHere stored = ChunkTight document.chain document.elements shape stored cells

  -- and of what is tight, what is tight
  compacted_tight : (changed : Bool) (old new : Option (List ℕ)) → IsCompacted document shape changed old new → TightHere old → TightHere new
  compacted_tight true None new is h = subst TightHere (sym is.1) h
  compacted_tight false None new is h = subst TightHere (sym is.1) h
  compacted_tight false (Some value) new is h = subst TightHere (sym is.2) h
  compacted_tight true (Some value) new is h =
      subst TightHere (sym is.1.2) (chain_compacted_stands encoded_slices document.chain document.elements shape value is.1.0 cells good.lawful is.0 lossless are h is.1.1)

-- the cells that are stored anew for a value are those that it stands for
pub same_cells : (array : Array) (store_empty : Bool) (shape value : List ℕ) (new : Option (List ℕ)) (cells : List Cell) → IsGood array.document → IsLossless array.document → AreCells array.document.elements shape cells
    → IsStored array.document.chain array.document.elements shape (Some value) cells → (r : IsRewritten array store_empty shape value new) → r.cells ≡ cells
same_cells array store_empty shape value new cells good lossless are h r =
    let stood : Stands array.document.chain array.document.elements shape value cells = MatchBool-at_true _ _ r.fit h in
    decoded_cells array.document.chain array.document.elements shape value r.cells cells good.lawful r.fit lossless are stood r.decodes

-- and what is stored anew stands for them
rewritten_stands : (array : Array) (store_empty : Bool) (shape value : List ℕ) (new : Option (List ℕ)) (cells : List Cell) → IsGood array.document → IsLossless array.document → AreCells array.document.elements shape cells
    → IsStored array.document.chain array.document.elements shape (Some value) cells → IsRewritten array store_empty shape value new → IsStored array.document.chain array.document.elements shape new cells
rewritten_stands array store_empty shape value new cells good lossless are h r =
    let P : List Cell → Type 0 = λ cs. ChunkStands array.document.chain array.document.elements shape new cs in
    let same = same_cells array store_empty shape value new cells good lossless are h r in
    match_true (fits array.document.chain array.document.elements.type shape) _ _ r.fit (subst P same (r.stands lossless))

-- it is tight where it depends on them alone
rewritten_tight : (array : Array) (store_empty : Bool) (shape value : List ℕ) (new : Option (List ℕ)) (cells : List Cell) → IsGood array.document → IsLossless array.document → array.exact ≡ true → AreCells array.document.elements shape cells
    → IsStored array.document.chain array.document.elements shape (Some value) cells → IsRewritten array store_empty shape value new → ChunkTight array.document.chain array.document.elements shape new cells
rewritten_tight array store_empty shape value new cells good lossless exact are h r = go new refl where
  same : r.cells ≡ cells
  same = same_cells array store_empty shape value new cells good lossless are h r

  stands : ChunkStands array.document.chain array.document.elements shape new cells
  stands = let P : List Cell → Type 0 = λ cs. ChunkStands array.document.chain array.document.elements shape new cs in subst P same (r.stands lossless)

  go : (o : Option (List ℕ)) → new ≡ o → ChunkTight array.document.chain array.document.elements shape o cells
  go None e = let P : Option (List ℕ) → Type 0 = λ s. ChunkStands array.document.chain array.document.elements shape s cells in subst P e stands
  go (Some made) e =
      encoded_tight array.document.chain array.document.elements shape made cells good.lawful r.fit lossless are
      (ap (encoded array.document.chain array.document.elements shape) (sym same) ∙ r.encodes exact made e)

-- ---- the chunks of an array

-- some chunks of an array are read as before at each place, where the chain keeps every bit, and each stands for cells that it stood for, and stays tight where values depend on cells alone; no other key changed
pub record KeepsCells (h : Held) (chunks : List (List ℕ)) (old new : StoreMap) : Type 0 where
  pub shows : IsLossless h.document → (chunk : List ℕ) (box : Region) (place : List ℕ) → IsInGrid h.document.grid chunk box → is_listed chunks chunk ≡ true → is_in_box box.start box.shape place ≡ true
      → part_at h.document box (value_at (array_of h) new chunk) place ≡ part_at h.document box (value_at (array_of h) old chunk) place
  pub stands : IsGood h.document → IsLossless h.document → (cells : List ℕ → Cell) → AreValues h.document cells → (chunk : List ℕ) (box : Region) → IsInGrid h.document.grid chunk box → is_listed chunks chunk ≡ true
      → ChunkStandsAt h.document box (value_at (array_of h) old chunk) cells → ChunkStandsAt h.document box (value_at (array_of h) new chunk) cells
  pub tight : IsGood h.document → IsLossless h.document → writes_exactly h ≡ true → (cells : List ℕ → Cell) → AreValues h.document cells → (chunk : List ℕ) (box : Region) → IsInGrid h.document.grid chunk box → is_listed chunks chunk ≡ true
      → ChunkStandsAt h.document box (value_at (array_of h) old chunk) cells → ChunkTightAt h.document box (value_at (array_of h) old chunk) cells → ChunkTightAt h.document box (value_at (array_of h) new chunk) cells
  pub others : KeepsOtherKeys h.path h.document chunks old new

pub only : (chunk c : List ℕ) → is_listed (chunk ∷ []) c ≡ true → c ≡ chunk
only chunk c listed = ⊎_elim (λ e. (bytes_eq-Decides c chunk).0 e) (λ e. absurd (false≢true e)) (or_cases (bytes_eq c chunk) false listed)

module _ (h : Held) (chunk : List ℕ) (changed : Bool) (old new : StoreMap) (c : CompactsChunk (array_of h) chunk changed old new) where
  pub compacted_below : AreBelow h.document.grid (chunk ∷ [])
  compacted_below = record { below = λ other listed. let P : List ℕ → Type 0 = λ e. IsInGrid h.document.grid e c.box in (c.box, subst P (sym (only chunk other listed)) c.below) }

  -- the box of the chunk
  same_box : (box : Region) → IsInGrid h.document.grid chunk box → c.box ≡ box
  same_box box below = some_same (sym c.below.has_box ∙ below.has_box)

  shows_here : IsLossless h.document → (box : Region) (place : List ℕ) → IsInGrid h.document.grid chunk box → is_in_box box.start box.shape place ≡ true → part_at h.document box (value_at (array_of h) new chunk) place ≡ part_at h.document box (value_at (array_of h) old chunk) place
  shows_here lossless box place below inside =
      let P : Region → Type 0 = λ b. is_in_box b.start b.shape place ≡ true → part_at h.document b (value_at (array_of h) new chunk) place ≡ part_at h.document b (value_at (array_of h) old chunk) place in
      subst P (same_box box below) (c.shows lossless place) inside

  stands_here : IsGood h.document → IsLossless h.document → (cells : List ℕ → Cell) → AreValues h.document cells → (box : Region) → IsInGrid h.document.grid chunk box
      → ChunkStandsAt h.document box (value_at (array_of h) old chunk) cells → ChunkStandsAt h.document box (value_at (array_of h) new chunk) cells
  stands_here good lossless cells values box below stood =
      let P : Region → Type 0 = λ b. IsCompacted h.document b.shape changed (value_at (array_of h) old chunk) (value_at (array_of h) new chunk) in
      compacted_stands h.document box.shape (map cells (places box.start box.shape)) good lossless (are_cells h.document chunk box cells (box_same h.document chunk box below) good values below)
      changed (value_at (array_of h) old chunk) (value_at (array_of h) new chunk) (subst P (same_box box below) c.is) stood

  tight_here : IsGood h.document → IsLossless h.document → (cells : List ℕ → Cell) → AreValues h.document cells → (box : Region) → IsInGrid h.document.grid chunk box
      → ChunkTightAt h.document box (value_at (array_of h) old chunk) cells → ChunkTightAt h.document box (value_at (array_of h) new chunk) cells
  tight_here good lossless cells values box below tight =
      let P : Region → Type 0 = λ b. IsCompacted h.document b.shape changed (value_at (array_of h) old chunk) (value_at (array_of h) new chunk) in
      compacted_tight h.document box.shape (map cells (places box.start box.shape)) good lossless (are_cells h.document chunk box cells (box_same h.document chunk box below) good values below)
      changed (value_at (array_of h) old chunk) (value_at (array_of h) new chunk) (subst P (same_box box below) c.is) tight

  pub compacted_keeps : KeepsCells h (chunk ∷ []) old new
  compacted_keeps = record {
    shows = λ lossless other box place below listed inside.
        let P : List ℕ → Type 0 = λ e. IsInGrid h.document.grid e box → part_at h.document box (value_at (array_of h) new e) place ≡ part_at h.document box (value_at (array_of h) old e) place in
        subst P (sym (only chunk other listed)) (λ there. shows_here lossless box place there inside) below;
    stands = λ good lossless cells values other box below listed stood.
        let P : List ℕ → Type 0 = λ e. IsInGrid h.document.grid e box → ChunkStandsAt h.document box (value_at (array_of h) old e) cells → ChunkStandsAt h.document box (value_at (array_of h) new e) cells in
        subst P (sym (only chunk other listed)) (stands_here good lossless cells values box) below stood;
    tight = λ good lossless exact cells values other box below listed stood was.
        let P : List ℕ → Type 0 = λ e. IsInGrid h.document.grid e box → ChunkTightAt h.document box (value_at (array_of h) old e) cells → ChunkTightAt h.document box (value_at (array_of h) new e) cells in
        subst P (sym (only chunk other listed)) (tight_here good lossless cells values box) below was;
    others = c.others;
  }

pub rewritten_keeps : (h : Held) (store_empty : Bool) (chunks : List (List ℕ)) (old new : StoreMap) → RewroteChunks (array_of h) store_empty chunks old new → KeepsCells h chunks old new
rewritten_keeps h store_empty chunks old new r = record {
  shows = r.shows;
  stands = λ good lossless cells values chunk box below listed stood.
      let e = r.each chunk box below listed in
      let P : Option (List ℕ) → Type 0 = λ o. IsStored h.document.chain h.document.elements box.shape o (map cells (places box.start box.shape)) in
      rewritten_stands (array_of h) store_empty box.shape e.0 (value_at (array_of h) new chunk) (map cells (places box.start box.shape)) good lossless
      (are_cells h.document chunk box cells (box_same h.document chunk box below) good values below) (subst P e.1 stood) e.2;
  tight = λ good lossless exact cells values chunk box below listed stood was.
      let e = r.each chunk box below listed in
      let P : Option (List ℕ) → Type 0 = λ o. IsStored h.document.chain h.document.elements box.shape o (map cells (places box.start box.shape)) in
      rewritten_tight (array_of h) store_empty box.shape e.0 (value_at (array_of h) new chunk) (map cells (places box.start box.shape)) good lossless exact
      (are_cells h.document chunk box cells (box_same h.document chunk box below) good values below) (subst P e.1 stood) e.2;
  others = r.others;
}

-- ---- what a step does

-- some chunks in the grid of an array were stored anew with the cells that they had. The array keeps its table
pub record StoredAnew (old new : World) : Type 0 where
  pub path : List ℕ
  pub held : Held
  pub found : held_at path old.arrays ≡ Some held
  pub chunks : List (List ℕ)
  pub below : AreBelow held.document.grid chunks
  pub updates : WithTable held.path held.table new.store old.arrays new.arrays
  pub keeps : KeepsCells held chunks old.store new.store
