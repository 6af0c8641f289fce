-- Which cells are refused, on small examples.
use Rattle.std.proofs.Common.{◌≡◌, ◌∙◌, ℕ, List, [], ◌∷◌, Option, Some, None, ap, subst, sym, refl, inl, inr}
use Rattle.std.specs.Prelude.{◌⊎◌}
use Rattle.std.proofs.lemmas.Bool.{false≢true}
use Rattle.zarr_codecs_meaning.specs.Chains.Chain.{bytes, packbits, then_bytes}
use Rattle.zarr_codecs_meaning.specs.Chains.Endianness.{little}
use Rattle.zarr_codecs_meaning.specs.Chains.Padding.{no_padding_byte}
use Rattle.zarr_codecs_meaning.specs.Encoding.{byte_cells, pair_cells, pairs_from, pieces_of}
use Rattle.zarr_codecs_meaning.specs.Making.{IsMadeOf, SlicesMade}
use Rattle.zarr_codecs_meaning.specs.Places.{parts_of}
use Rattle.zarr_codecs_meaning.specs.Refusals.{CodecRefuses}
use Rattle.zarr_codecs_meaning.specs.Types.{of_bytes, uint64, uint8, zero_filled}
use Rattle.zarr_codecs_meaning.specs.WorkedRefusals.{bits_refusing_zeros, refusing_zeros, shard_refusing_zeros}

made_is : (a made : List ℕ) → Some a ≡ Some made → a ≡ made
made_is a made h = cc

no_none : (made : List ℕ) → Some made ≡ None → ⊥
no_none made h = cc

-- bytes that the codec leaves as they are aren't refused
taken : (a made : List ℕ) → refusing_zeros.encode a ≡ Some a → Some a ≡ Some made → refusing_zeros.encode made ≡ None → ⊥
taken a made leaves is refused = no_none made (sym (subst (λ (b : List ℕ). refusing_zeros.encode b ≡ Some b) (made_is a made is) leaves) ∙ refused)

pub others_taken : CodecRefuses (then_bytes (bytes None) refusing_zeros) (zero_filled uint8) (2 ∷ []) (byte_cells (0 ∷ 1 ∷ [])) → ⊥
others_taken (inl none) = none
others_taken (inr refused) = taken (0 ∷ 1 ∷ []) refused.0 refl refused.1 refused.2

-- of two subchunks, neither of which is all fill, each has the slice that was made of it
two_slices : (slices : List (Option (List ℕ))) → SlicesMade (IsMadeOf (bytes None) (zero_filled uint8)) (of_bytes (0 ∷ [])) (pieces_of (of_bytes (0 ∷ [])) (byte_cells (1 ∷ 2 ∷ 3 ∷ 4 ∷ [])) (parts_of (4 ∷ []) (2 ∷ []))) slices
    → slices ≡ Some (1 ∷ 2 ∷ []) ∷ Some (3 ∷ 4 ∷ []) ∷ []
two_slices [] made = absurd made
two_slices (first ∷ []) made = absurd made.1
two_slices (None ∷ second ∷ others) made = absurd (false≢true made.0)
two_slices (Some first ∷ None ∷ others) made = absurd (false≢true made.1.0)
two_slices (Some first ∷ Some second ∷ []) made =
    let one : first ≡ 1 ∷ 2 ∷ [] = sym (made_is (1 ∷ 2 ∷ []) first made.0.1) in
    let other : second ≡ 3 ∷ 4 ∷ [] = sym (made_is (3 ∷ 4 ∷ []) second made.1.0.1) in
    ap (λ (x : List ℕ). Some x ∷ Some second ∷ []) one ∙ ap (λ (x : List ℕ). Some (1 ∷ 2 ∷ []) ∷ Some x ∷ []) other
two_slices (Some first ∷ Some second ∷ third ∷ others) made = absurd made.1.1

-- and so has each where four bits of an element are kept
two_of_bits : (slices : List (Option (List ℕ))) → SlicesMade (IsMadeOf (packbits no_padding_byte 0 (Some 3)) (zero_filled uint8)) (of_bytes (0 ∷ [])) (pieces_of (of_bytes (0 ∷ [])) (byte_cells (1 ∷ 2 ∷ 3 ∷ 4 ∷ [])) (parts_of (4 ∷ []) (2 ∷ []))) slices
    → slices ≡ Some (33 ∷ []) ∷ Some (67 ∷ []) ∷ []
two_of_bits [] made = absurd made
two_of_bits (first ∷ []) made = absurd made.1
two_of_bits (None ∷ second ∷ others) made = absurd (false≢true made.0)
two_of_bits (Some first ∷ None ∷ others) made = absurd (false≢true made.1.0)
two_of_bits (Some first ∷ Some second ∷ []) made =
    let one : first ≡ 33 ∷ [] = sym (made_is (33 ∷ []) first made.0.1) in
    let other : second ≡ 67 ∷ [] = sym (made_is (67 ∷ []) second made.1.0.1) in
    ap (λ (x : List ℕ). Some x ∷ Some second ∷ []) one ∙ ap (λ (x : List ℕ). Some (33 ∷ []) ∷ Some x ∷ []) other
two_of_bits (Some first ∷ Some second ∷ third ∷ others) made = absurd made.1.1

-- the index of these isn't all zero
index_bytes_taken : CodecRefuses (then_bytes (bytes (Some little)) refusing_zeros) (zero_filled uint64) (2 ∷ 2 ∷ []) (pair_cells ((0, 2) ∷ (2, 2) ∷ [])) → ⊥
index_bytes_taken (inl none) = none
index_bytes_taken (inr refused) =
    taken (0 ∷ 0 ∷ 0 ∷ 0 ∷ 0 ∷ 0 ∷ 0 ∷ 0 ∷ 2 ∷ 0 ∷ 0 ∷ 0 ∷ 0 ∷ 0 ∷ 0 ∷ 0 ∷ 2 ∷ 0 ∷ 0 ∷ 0 ∷ 0 ∷ 0 ∷ 0 ∷ 0 ∷ 2 ∷ 0 ∷ 0 ∷ 0 ∷ 0 ∷ 0 ∷ 0 ∷ 0 ∷ []) refused.0 refl refused.1 refused.2

pub index_taken : CodecRefuses shard_refusing_zeros (zero_filled uint8) (4 ∷ []) (byte_cells (1 ∷ 2 ∷ 3 ∷ 4 ∷ [])) → ⊥
index_taken (inl (inl first)) = first.1
index_taken (inl (inr (inl second))) = second.1
index_taken (inl (inr (inr none))) = none
index_taken (inr index) =
    index_bytes_taken
    (subst (λ (slices : List (Option (List ℕ))). CodecRefuses (then_bytes (bytes (Some little)) refusing_zeros) (zero_filled uint64) (2 ∷ 2 ∷ []) (pair_cells (pairs_from 0 slices))) (two_slices index.0 index.1) index.2)

bits_index_taken : CodecRefuses (then_bytes (bytes (Some little)) refusing_zeros) (zero_filled uint64) (2 ∷ 2 ∷ []) (pair_cells ((0, 1) ∷ (1, 1) ∷ [])) → ⊥
bits_index_taken (inl none) = none
bits_index_taken (inr refused) =
    taken (0 ∷ 0 ∷ 0 ∷ 0 ∷ 0 ∷ 0 ∷ 0 ∷ 0 ∷ 1 ∷ 0 ∷ 0 ∷ 0 ∷ 0 ∷ 0 ∷ 0 ∷ 0 ∷ 1 ∷ 0 ∷ 0 ∷ 0 ∷ 0 ∷ 0 ∷ 0 ∷ 0 ∷ 1 ∷ 0 ∷ 0 ∷ 0 ∷ 0 ∷ 0 ∷ 0 ∷ 0 ∷ []) refused.0 refl refused.1 refused.2

pub bits_taken : CodecRefuses bits_refusing_zeros (zero_filled uint8) (4 ∷ []) (byte_cells (1 ∷ 2 ∷ 3 ∷ 4 ∷ [])) → ⊥
bits_taken (inl (inl first)) = first.1
bits_taken (inl (inr (inl second))) = second.1
bits_taken (inl (inr (inr none))) = none
bits_taken (inr index) =
    bits_index_taken
    (subst (λ (slices : List (Option (List ℕ))). CodecRefuses (then_bytes (bytes (Some little)) refusing_zeros) (zero_filled uint64) (2 ∷ 2 ∷ []) (pair_cells (pairs_from 0 slices))) (two_of_bits index.0 index.1) index.2)
