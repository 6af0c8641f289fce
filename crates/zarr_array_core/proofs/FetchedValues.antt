-- Chunks that lie in a box, and what their values are decoded to.
use Rattle.std.proofs.Common.{◌≡◌, ◌∙◌, ℕ, ◌+◌, ◌-◌, ◌&&◌, max, min, true, false, List, [], ◌∷◌, length, refl, sym, ap, subst, arith, Option, Some, None, is_some, Ok, Err, Vec}
use Rattle.std.specs.Prelude.{nat_le}
use Rattle.std.specs.declared.alloc.Global.{Global}
use Rattle.std.proofs.lemmas.Bool.{leb-true}
use Rattle.std.proofs.lemmas.List.FromFn.{fill_by_all, length-range_with_len}
use Rattle.zarr_grids_boxes.specs.Boxes.{Region, product, each2}
use Rattle.zarr_grids_boxes.specs.Cuts.{overlapped, relative}
use Rattle.zarr_grids_boxes.specs.Subsets.{region_of}
use Rattle.zarr_grids_boxes.specs.declared.subset.ArraySubset.{ArraySubset}
use Rattle.zarr_grids_boxes.proofs.InBox.{ravel-place_at}
use Rattle.zarr_grids_boxes.proofs.Places.{both}
use Rattle.zarr_codecs_meaning.specs.Chunks.{chunk_part}
use Rattle.zarr_codecs_meaning.specs.Decoding.{decoded, part_decoded}
use Rattle.zarr_codecs_meaning.specs.Places.{place_numbers}
use Rattle.zarr_codecs_meaning.proofs.Counts.{decoded_count}
use Rattle.zarr_codecs_arrays.specs.Views.{payload_of}
use Rattle.zarr_codecs_arrays.specs.declared.array_bytes.ArrayBytes.{ArrayBytes}
use Rattle.zarr_codecs_arrays.specs.declared.error.CodecError.{CodecError}
use Rattle.zarr_codecs_arrays.specs.declared.error.CodecError.TheVariants as codec_error
use Rattle.zarr_codecs_traits.specs.Arrays.{coded}
use Rattle.zarr_codecs_traits.specs.Indexers.{numbers_of}
use Rattle.zarr_codecs_traits.specs.Outcomes.{Decodes, IsDecoded}
use Rattle.zarr_array_meaning.specs.Arrays.{Array, value_at}
use Rattle.zarr_array_meaning.specs.Chunks.{contains_box, fits_box, holds_box}
use Rattle.zarr_array_meaning.specs.Documents.{Document}
use Rattle.zarr_array_elements.proofs.FixedPuts.{counted}
use Rattle.zarr_array_elements.proofs.Meeting.{IsMeeting, meeting, shares_own}
use Rattle.zarr_array_core.specs.Fetching.{DecodesFetched, FindsChunk, IsFound, IsValue, RegionRead, stop_of}
use Rattle.zarr_array_core.specs.Parts.{AreShared, IsChunkPart, met_in}
use Rattle.zarr_array_core.specs.declared.chunk_reading.ChunkPart.{ChunkPart}
use Rattle.zarr_array_core.specs.declared.error.ChunkError.TheVariants as error
use Rattle.zarr_array_core.specs.declared.fetching.FetchedChunk.TheVariants as fetched
use Rattle.zarr_array_core.proofs.Placed.{decode_stops, meets, same_box}
use Rattle.zarr_array_core.proofs.SeenFrom.{sharing_ranks}
use Rattle.zarr_array_core.proofs.WholeLost.{range_at, whole_part}

-- ---- a chunk that lies in a box

-- what it shares with the box starts where it does
starts_held : (ss xs ts us : List ℕ) → length xs ≡ length ss → length ts ≡ length ss → length us ≡ length ss → contains_box ss xs ts us ≡ true → each2 max ss ts ≡ ts
starts_held [] [] [] [] l m n h = refl
starts_held [] [] [] (u ∷ us) l m n h = absurd (omega (arith, n))
starts_held [] [] (t ∷ ts) us l m n h = absurd (omega (arith, m))
starts_held [] (x ∷ xs) ts us l m n h = absurd (omega (arith, l))
starts_held (s ∷ ss) [] ts us l m n h = absurd (omega (arith, l))
starts_held (s ∷ ss) (x ∷ xs) [] us l m n h = absurd (omega (arith, m))
starts_held (s ∷ ss) (x ∷ xs) (t ∷ ts) [] l m n h = absurd (omega (arith, n))
starts_held (s ∷ ss) (x ∷ xs) (t ∷ ts) (u ∷ us) l m n h =
    let a = both (nat_le s t) (nat_le (t + u) (s + x) && contains_box ss xs ts us) h in
    let b = both (nat_le (t + u) (s + x)) (contains_box ss xs ts us) a.1 in
    let low = leb-true s t a.0 in
    let first : max s t ≡ t = omega (arith, low) in
    ap (λ k. k ∷ each2 max ss ts) first ∙ ap (λ ks. t ∷ ks) (starts_held ss xs ts us (omega (arith, l)) (omega (arith, m)) (omega (arith, n)) b.1)

-- and is as long
lengths_held : (ss xs ts us : List ℕ) → length xs ≡ length ss → length ts ≡ length ss → length us ≡ length ss → contains_box ss xs ts us ≡ true
    → each2 (λ s e. e - s) (each2 max ss ts) (each2 min (each2 (λ s e. s + e) ss xs) (each2 (λ s e. s + e) ts us)) ≡ us
lengths_held [] [] [] [] l m n h = refl
lengths_held [] [] [] (u ∷ us) l m n h = absurd (omega (arith, n))
lengths_held [] [] (t ∷ ts) us l m n h = absurd (omega (arith, m))
lengths_held [] (x ∷ xs) ts us l m n h = absurd (omega (arith, l))
lengths_held (s ∷ ss) [] ts us l m n h = absurd (omega (arith, l))
lengths_held (s ∷ ss) (x ∷ xs) [] us l m n h = absurd (omega (arith, m))
lengths_held (s ∷ ss) (x ∷ xs) (t ∷ ts) [] l m n h = absurd (omega (arith, n))
lengths_held (s ∷ ss) (x ∷ xs) (t ∷ ts) (u ∷ us) l m n h =
    let a = both (nat_le s t) (nat_le (t + u) (s + x) && contains_box ss xs ts us) h in
    let b = both (nat_le (t + u) (s + x)) (contains_box ss xs ts us) a.1 in
    let low = leb-true s t a.0 in
    let high = leb-true (t + u) (s + x) b.0 in
    let first : min (s + x) (t + u) - max s t ≡ u = omega (arith, low, high) in
    let rest = each2 (λ s e. e - s) (each2 max ss ts) (each2 min (each2 (λ s e. s + e) ss xs) (each2 (λ s e. s + e) ts us)) in
    ap (λ k. k ∷ rest) first ∙ ap (λ ks. u ∷ ks) (lengths_held ss xs ts us (omega (arith, l)) (omega (arith, m)) (omega (arith, n)) b.1)

-- boxes with one start and one shape are the same
same_region : (s t e f : List ℕ) → s ≡ t → e ≡ f → ◌≡◌ {A = Region} (record { start = s; shape = e }) (record { start = t; shape = f })
same_region s t e f p q =
    subst (λ (u : List ℕ). ◌≡◌ {A = Region} (record { start = s; shape = e }) (record { start = u; shape = f })) p (subst (λ (v : List ℕ). ◌≡◌ {A = Region} (record { start = s; shape = e }) (record { start = s; shape = v })) q refl)

-- so it is what the two have in common
held_overlap : (region box : Region) → length region.shape ≡ length region.start → length box.start ≡ length region.start → length box.shape ≡ length region.start → holds_box region box ≡ true → box ≡ overlapped region box
held_overlap region box l m n holds =
    let over = overlapped region box in
    sym (same_region over.start box.start over.shape box.shape (starts_held region.start region.shape box.start box.shape l m n holds) (lengths_held region.start region.shape box.start box.shape l m n holds))

-- its places are those that it shares with the box
record IsHeld (region box : Region) : Type 0 where
  pub shared : box ≡ overlapped region box
  pub meet : IsMeeting region box box (relative box box.start)

is_held : (read : RegionRead) (chunk value : List ℕ) (box : Region) → length box.shape ≡ length box.start → IsValue read chunk value box → IsHeld read.region box
is_held read chunk value box rank is =
    let share = shares_own read.array.document.grid chunk read.region box is.below.has_box is.shares in
    let region_rank = (meeting read.region box share).region_rank in
    let starts = sharing_ranks read.region box share in
    let shared = held_overlap read.region box (sym region_rank) starts (rank ∙ starts) is.holds in
    record { shared = shared; meet = meets read.region box box (relative box box.start) share shared refl }

-- their numbers in it are all that there are
all_numbers : (region box : Region) → IsMeeting region box box (relative box box.start) → numbers_of box.shape (relative box box.start) ≡ place_numbers box.shape
all_numbers region box meet =
    let count = product box.shape in
    let ns = numbers_of box.shape (relative box box.start) in
    fill_by_all (λ (n : ℕ). n) ns count 0 meet.many (λ n below. meet.number n below ∙ ravel-place_at box.start box.shape n meet.rank below)
    ∙ sym (fill_by_all (λ (n : ℕ). n) (place_numbers box.shape) count 0 (length-range_with_len 0 count) (λ n below. range_at count n below))

-- what is read at all of them is what the value is decoded to
read_whole : (document : Document) (region box : Region) (value : List ℕ) → IsMeeting region box box (relative box box.start) → fits_box document box ≡ true
    → part_decoded document.chain document.elements box.shape value (numbers_of box.shape (relative box box.start)) ≡ decoded document.chain document.elements box.shape value
read_whole document region box value meet fit =
    ap (part_decoded document.chain document.elements box.shape value) (all_numbers region box meet) ∙ whole_part document.chain document.elements box.shape value fit meet.some

-- ---- its value decoded

-- the elements that a value is decoded to are those of the chunk's places
decoded_part : (document : Document) (region box : Region) (value : List ℕ) (bytes : ArrayBytes) → IsMeeting region box box (relative box box.start) → IsDecoded (coded document.chain document.elements box.shape) value (payload_of bytes)
    → IsChunkPart document box (Some value) box (payload_of bytes)
decoded_part document region box value bytes meet made =
    record { is = record { cells = made.cells; fit = made.fit; inside = meet.inside; lists = made.lists; is = read_whole document region box value meet made.fit ∙ made.is } }

found_value : (read : RegionRead) (chunk value : List ℕ) (part : ChunkPart) → IsValue read chunk value (region_of part.shared)
    → IsDecoded (coded read.array.document.chain read.array.document.elements (region_of part.shared).shape) value (payload_of part.bytes) → IsFound read chunk (Some part)
found_value read chunk value part is made =
    let document = read.array.document in
    let box : Region = region_of part.shared in
    let held = is_held read chunk value box part.shared.same is in
    let payload = payload_of part.bytes in
    let count = decoded_count document.chain document.elements box.shape value made.cells made.is in
    let shared : AreShared document.elements.type read.region box part = record { places = held.shared; counted = counted document.elements.type payload made.cells (product box.shape) made.lists count } in
    let whole = decoded_part document read.region box value part.bytes held.meet made in
    record {
      shared = (box, is.below, shared);
      is = λ honest other below.
          subst (λ (b : Region). IsChunkPart document b (value_at read.array read.store chunk) box payload) (same_box document.grid chunk box other is.below below)
          (subst (λ (o : Option (List ℕ)). IsChunkPart document box o box payload) (sym (is.is honest)) whole);
    }

damaged_value : (read : RegionRead) (chunk value : List ℕ) (box : Region) → length box.shape ≡ length box.start → IsValue read chunk value box → fits_box read.array.document box ≡ true
    → decoded read.array.document.chain read.array.document.elements box.shape value ≡ None → FindsChunk read chunk (Err error.Damage)
damaged_value read chunk value box rank is fit none =
    let document = read.array.document in
    let held = is_held read chunk value box rank is in
    let part = relative box box.start in
    let ns = numbers_of box.shape part in
    let lost : chunk_part document.chain document.elements box.shape (Some value) ns ≡ None = read_whole document read.region box value held.meet fit ∙ none in (
      tt,
      λ honest.
          let stored = ap (λ (o : Option (List ℕ)). chunk_part document.chain document.elements box.shape o ns) (is.is honest) in
          (box, is.below, decode_stops (met_in read.array read.store read.region chunk box) box part error.Damage held.meet (fit, stored ∙ lost)),
    )

unfit_value : (read : RegionRead) (chunk value : List ℕ) (box : Region) → IsValue read chunk value box → fits_box read.array.document box ≡ false → FindsChunk read chunk (Err error.Fit)
unfit_value read chunk value box is unfit = (tt, λ honest. (box, is.below, (ap (λ (o : Option (List ℕ)). is_some o) (is.is honest), unfit)))

value_stops : (read : RegionRead) (chunk value : List ℕ) (box : Region) (e : CodecError) → length box.shape ≡ length box.start → IsValue read chunk value box
    → Decodes (coded read.array.document.chain read.array.document.elements box.shape) value (Err e) → FindsChunk read chunk (Err (stop_of e))
value_stops read chunk value box codec_error.Fit rank is made = unfit_value read chunk value box is made
value_stops read chunk value box codec_error.Damage rank is made = damaged_value read chunk value box rank is made.0 made.1
value_stops read chunk value box codec_error.Size rank is made = absurd (is.small made)
value_stops read chunk value box codec_error.Memory rank is made = (tt, λ honest. (box, is.below, tt))
value_stops read chunk value box e rank is made = absurd made

-- ---- what its decoding answers is what is read of it

pub decodes_value : (array : Array) (value : Vec ℕ Global) (own : ArraySubset) (bytes : ArrayBytes) → Decodes (coded array.document.chain array.document.elements own.shape.items) value.items (Ok bytes)
    → DecodesFetched array (fetched.Value value own) (Ok (Some (record { shared = own; bytes = bytes })))
decodes_value array value own bytes made = λ read chunk same is.
    let here = subst (λ (a : Array). Decodes (coded a.document.chain a.document.elements own.shape.items) value.items (Ok bytes)) (sym same) made in
    found_value read chunk value.items (record { shared = own; bytes = bytes }) is here

pub value_stopped : (array : Array) (value : Vec ℕ Global) (own : ArraySubset) (e : CodecError) → Decodes (coded array.document.chain array.document.elements own.shape.items) value.items (Err e) → DecodesFetched array (fetched.Value value own) (Err (stop_of e))
value_stopped array value own e made = λ read chunk same is.
    let here = subst (λ (a : Array). Decodes (coded a.document.chain a.document.elements own.shape.items) value.items (Err e)) (sym same) made in
    value_stops read chunk value.items (region_of own) e own.same is here
