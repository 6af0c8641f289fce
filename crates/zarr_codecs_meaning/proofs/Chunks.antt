-- What is stored for a chunk, whole and in part.
use Rattle.std.proofs.Common.{◌≡◌, ℕ, List, [], ◌∷◌, map, get_or, replicate, zero, suc, ap, ◌∙◌, sym, refl, subst, Option, Some, None, Bool, true, false, inl, inr, ◌⊎◌}
use Rattle.std.specs.Prelude.{MatchBool, nat_lt}
use Rattle.std.specs.List.{list_all}
use Rattle.zarr_grids_boxes.specs.Boxes.{product}
use Rattle.zarr_codecs_meaning.specs.Types.{Cell, is_fill, Elements}
use Rattle.zarr_codecs_meaning.specs.Chains.{Chain}
use Rattle.zarr_codecs_meaning.specs.Places.{gather}
use Rattle.zarr_codecs_meaning.specs.Fits.{fits, is_lossless}
use Rattle.zarr_codecs_meaning.specs.Encoding.{encoded, stored_chunk}
use Rattle.zarr_codecs_meaning.specs.Standing.{ChunkStands}
use Rattle.zarr_codecs_meaning.specs.Chunks.{chunk_decoded, chunk_part, IsStored}
use Rattle.zarr_codecs_meaning.specs.Laws.{IsLawfulChain, AreCells}
use Rattle.zarr_codecs_meaning.proofs.Lists.{some_same}
use Rattle.zarr_codecs_meaning.proofs.Shards.{fill_is_replicate, stored_cases}
use Rattle.zarr_codecs_meaning.proofs.Meaning.{laws_of, stands_decoded}
use Rattle.zarr_codecs_meaning.proofs.PartReading.{part_read}

-- a chunk that fits, or one that has no value
one_of : (b : Bool) (P Q : Type 0) → MatchBool b P Q → ((b ≡ true) × P) ⊎ ((b ≡ false) × Q)
one_of true P Q h = inl (refl, h)
one_of false P Q h = inr (refl, h)

-- ---- cells that are all fill

all_fill : (elements : Elements) (shape : List ℕ) (cells : List Cell) → AreCells elements shape cells → is_fill elements.fill cells ≡ true → replicate (product shape) elements.fill ≡ cells
all_fill elements shape cells are h = sym (fill_is_replicate elements.fill cells h ∙ ap (λ n. replicate n elements.fill) are.whole)

filled : (n i : ℕ) (a : Cell) → a ≡ get_or (replicate n a) i a
filled zero i a = refl
filled (suc n) zero a = refl
filled (suc n) (suc i) a = filled n i a

part_filled : (fill : Cell) (n : ℕ) (places : List ℕ) → map (λ place. fill) places ≡ gather fill (replicate n fill) places
part_filled fill n [] = refl
part_filled fill n (p ∷ ps) = ap (λ c. c ∷ map (λ place. fill) ps) (filled n p fill) ∙ ap (λ cs. get_or (replicate n fill) p fill ∷ cs) (part_filled fill n ps)

-- ---- reading

pub stored_decoded : (chain : Chain) (elements : Elements) (shape : List ℕ) (stored : Option (List ℕ)) (cells : List Cell) → IsLawfulChain chain → is_lossless chain elements.type ≡ true → AreCells elements shape cells
    → IsStored chain elements shape stored cells → chunk_decoded chain elements shape stored ≡ Some cells
stored_decoded chain elements shape None cells lawful lossless are h =
    elim (one_of (fits chain elements.type shape) _ _ h) [ inl k ↦ ap Some (all_fill elements shape cells are k.1) | inr k ↦ ap Some (all_fill elements shape cells are k.1.1) ]
stored_decoded chain elements shape (Some value) cells lawful lossless are h =
    elim (one_of (fits chain elements.type shape) _ _ h) [ inl k ↦ stands_decoded chain elements shape value cells lawful k.0 lossless are k.1 | inr k ↦ (let none = k.1.0 in cc) ]

none_part : (elements : Elements) (shape : List ℕ) (cells : List Cell) (places : List ℕ) → AreCells elements shape cells → is_fill elements.fill cells ≡ true → Some (map (λ place. elements.fill) places) ≡ Some (gather elements.fill cells places)
none_part elements shape cells places are h =
    ap Some (part_filled elements.fill (product shape) places ∙ ap (λ (cs : List Cell). gather elements.fill cs places) (all_fill elements shape cells are h))

pub stored_part : (chain : Chain) (elements : Elements) (shape : List ℕ) (stored : Option (List ℕ)) (cells : List Cell) (places : List ℕ) → IsLawfulChain chain → is_lossless chain elements.type ≡ true → AreCells elements shape cells
    → IsStored chain elements shape stored cells → list_all (λ place. nat_lt place (product shape)) places ≡ true → chunk_part chain elements shape stored places ≡ Some (gather elements.fill cells places)
stored_part chain elements shape None cells places lawful lossless are h below =
    elim (one_of (fits chain elements.type shape) _ _ h) [ inl k ↦ none_part elements shape cells places are k.1 | inr k ↦ none_part elements shape cells places are k.1.1 ]
stored_part chain elements shape (Some value) cells places lawful lossless are h below =
    elim (one_of (fits chain elements.type shape) _ _ h) [
      | inl k ↦ part_read chain elements shape value cells places k.0 (stands_decoded chain elements shape value cells lawful k.0 lossless are k.1) below
      | inr k ↦ (let none = k.1.0 in cc)
    ]

pub stored_once : (chain : Chain) (elements : Elements) (shape : List ℕ) (stored : Option (List ℕ)) (cells others : List Cell) → IsLawfulChain chain → is_lossless chain elements.type ≡ true → AreCells elements shape cells → AreCells elements shape others
    → IsStored chain elements shape stored cells → IsStored chain elements shape stored others → cells ≡ others
stored_once chain elements shape stored cells others lawful lossless are be h k =
    some_same (sym (stored_decoded chain elements shape stored cells lawful lossless are h) ∙ stored_decoded chain elements shape stored others lawful lossless be k)

-- ---- writing

pub chunk_stored : (chain : Chain) (elements : Elements) (shape : List ℕ) (cells : List Cell) (stored : Option (List ℕ)) → IsLawfulChain chain → fits chain elements.type shape ≡ true → is_lossless chain elements.type ≡ true → AreCells elements shape cells
    → stored_chunk chain elements shape cells ≡ Some stored → ChunkStands chain elements shape stored cells
chunk_stored chain elements shape cells stored lawful fit lossless are h =
    elim (stored_cases (is_fill elements.fill cells) (encoded chain elements shape cells) stored h) [
      | inl k ↦ subst (λ (o : Option (List ℕ)). ChunkStands chain elements shape o cells) (sym k.1) k.0
      | inr k ↦ subst (λ (o : Option (List ℕ)). ChunkStands chain elements shape o cells) (sym k.1.2) ((laws_of chain lawful).stands elements shape k.1.0 cells fit (inl lossless) are k.1.1)
    ]
