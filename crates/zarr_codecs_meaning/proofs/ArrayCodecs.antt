-- Array codecs and what they gather.
use Rattle.std.proofs.Common.{◌≡◌, ℕ, ◌*◌, List, [], ◌∷◌, length, map, get_or, ap, ◌∙◌, sym, refl, arith, Bool, true, false, not, cond, ◌==◌, ◌&&◌, ◌^◌}
use Rattle.std.specs.Prelude.{nat_lt}
use Rattle.std.specs.List.{list_all, filter}
use Rattle.std.proofs.lemmas.List.{length-map}
use Rattle.std.proofs.lemmas.List.FromFn.{length-range_with_len}
use Rattle.std.proofs.lemmas.Map.Views.{exact_unsigned_eq}
use Rattle.std.proofs.lemmas.Bool.{and_parts}
use Rattle.zarr_grids_boxes.specs.Boxes.{product, ravel}
use Rattle.zarr_grids_boxes.proofs.InBox.{length-places}
use Rattle.zarr_codecs_meaning.specs.Types.{Cell}
use Rattle.zarr_codecs_meaning.specs.Chains.{ArrayCodec}
use Rattle.zarr_codecs_meaning.specs.Chains.ArrayCodec.{transpose, reshape, squeeze}
use Rattle.zarr_codecs_meaning.specs.Places.{gather, places_of, untransposed, squeezed, known_product, encoded_shape, source_places}
use Rattle.zarr_codecs_meaning.specs.Fits.{array_codec_fits, entry_fits}
use Rattle.zarr_codecs_meaning.proofs.Lists.{each_get, each_map, each_passes, all_pass}

pub length-gather : (fill : Cell) (cells : List Cell) (ns : List ℕ) → length (gather fill cells ns) ≡ length ns
length-gather fill cells ns = length-map ns (λ n. get_or cells n fill)

pub values_gathered : (test : Cell → Bool) (fill : Cell) (cells : List Cell) (ns : List ℕ) → test fill ≡ true → list_all test cells ≡ true → list_all test (gather fill cells ns) ≡ true
values_gathered test fill cells ns one all = all_pass test (gather fill cells ns) (each_map (λ c. test c ≡ true) (λ n. get_or cells n fill) ns (λ n. each_get (λ c. test c ≡ true) cells n fill (each_passes test cells all) one))

pub length-places_of : (shape : List ℕ) → length (places_of shape) ≡ product shape
length-places_of shape = length-places (map (λ size. 0) shape) shape (length-map shape (λ size. 0))

-- the dimensions of size one don't count
one_apart : (b : Bool) (n : ℕ) (rest ns : List ℕ) → (n == 1) ≡ b → product rest ≡ product ns → product (cond (not b) (n ∷ rest) rest) ≡ n * product ns
one_apart true n rest ns e h = let one : n ≡ 1 = exact_unsigned_eq n 1 e in h ∙ (omega arith ∙ ap (λ k. k * product ns) (sym one))
one_apart false n rest ns e h = ap (λ k. n * k) h

ones_apart : (shape : List ℕ) → product (filter (λ size. not (size == 1)) shape) ≡ product shape
ones_apart [] = refl
ones_apart (n ∷ ns) = one_apart (n == 1) n (filter (λ size. not (size == 1)) ns) ns refl (ones_apart ns)

squeezed_from : (ns : List ℕ) → product (elim ns [ [] ↦ 1 ∷ [] | size ∷ sizes ↦ size ∷ sizes ]) ≡ product ns
squeezed_from [] = refl
squeezed_from (n ∷ ns) = refl

pub product-squeezed : (shape : List ℕ) → product (squeezed shape) ≡ product shape
product-squeezed shape = squeezed_from (filter (λ size. not (size == 1)) shape) ∙ ones_apart shape

-- an array codec gives as many cells as its shape has places
pub array_codec_count : (codec : ArrayCodec) (shape : List ℕ) → array_codec_fits codec shape ≡ true → length (source_places codec shape) ≡ product (encoded_shape codec shape)
array_codec_count (transpose order) shape h = length-map (places_of (encoded_shape (transpose order) shape)) (λ place. ravel (untransposed order place) shape) ∙ length-places_of (encoded_shape (transpose order) shape)
array_codec_count (reshape entries) shape h =
    let rest = (and_parts (list_all (entry_fits (known_product entries shape) (length shape)) entries) ((product (encoded_shape (reshape entries) shape) == product shape) && (nat_lt (product shape) (2 ^ 63) && list_all (λ size. nat_lt size (2 ^ 64)) (encoded_shape (reshape entries) shape))) h).1 in
    let same = (and_parts (product (encoded_shape (reshape entries) shape) == product shape) (nat_lt (product shape) (2 ^ 63) && list_all (λ size. nat_lt size (2 ^ 64)) (encoded_shape (reshape entries) shape)) rest).0 in
    length-range_with_len 0 (product shape) ∙ sym (exact_unsigned_eq (product (encoded_shape (reshape entries) shape)) (product shape) same)
array_codec_count squeeze shape h = length-range_with_len 0 (product shape) ∙ sym (product-squeezed shape)
