-- The metadata that is written reads back.
use Rattle.std.proofs.Common.{◌≡◌, ◌∙◌, ℕ, List, [], ◌∷◌, map, refl, ap, true, Bool, Some, None, option_map, option_and_then, if◌then◌else◌, Result, Ok, Err}
use Rattle.std.specs.Prelude.{IfOk}
use Rattle.serde_json.specs.View.{items_of}
use Rattle.zarr_grids_metadata.specs.Views.{point_of}
use Rattle.zarr_grids_metadata.specs.declared.MetadataV3.{MetadataV3}
use Rattle.zarr_codecs_meaning.specs.Chains.{ShapeEntry}
use Rattle.zarr_codecs_meaning.specs.Chains.ArrayCodec.{transpose, reshape, squeeze}
use Rattle.zarr_codecs_meaning.specs.Chains.ShapeEntry.{size_entry, product_entry, left_over}
use Rattle.zarr_codecs_meaning.specs.Fits.{is_permutation}
use Rattle.zarr_codecs_metadata.specs.ArrayCodecs.{entries_of, is_new_shape, naturals_of, new_shape, permutation}
use Rattle.zarr_codecs_array_to_array.specs.Written.{array_codec_point, entry_data, number_data, reshape_in, squeeze_in, transpose_in}

naturals_back : (ns : List ℕ) → naturals_of (items_of (map number_data ns)) ≡ Some ns
naturals_back [] = refl
naturals_back (n ∷ ns) = ap (option_map (λ ms. n ∷ ms)) (naturals_back ns)

pub transpose_back : (order : List ℕ) → is_permutation order ≡ true → transpose_in (array_codec_point (transpose order)) ≡ Some (transpose order)
transpose_back order permutes = ap (λ o. option_map transpose (option_and_then permutation o)) (naturals_back order) ∙ ap (λ (b : Bool). option_map transpose (if b then Some order else None)) permutes

entries_back : (entries : List ShapeEntry) → entries_of (items_of (map entry_data entries)) ≡ Some entries
entries_back [] = refl
entries_back (size_entry size ∷ entries) = ap (option_map (λ es. size_entry size ∷ es)) (entries_back entries)
entries_back (product_entry dimensions ∷ entries) =
    ap (λ o. option_and_then (λ entry. option_map (λ es. entry ∷ es) (entries_of (items_of (map entry_data entries)))) (option_map product_entry o)) (naturals_back dimensions)
    ∙ ap (option_map (λ es. product_entry dimensions ∷ es)) (entries_back entries)
entries_back (left_over ∷ entries) = ap (option_map (λ es. left_over ∷ es)) (entries_back entries)

reshape_back : (entries : List ShapeEntry) → is_new_shape entries ≡ true → reshape_in (array_codec_point (reshape entries)) ≡ Some (reshape entries)
reshape_back entries is = ap (λ o. option_map reshape (option_and_then new_shape o)) (entries_back entries) ∙ ap (λ (b : Bool). option_map reshape (if b then Some entries else None)) is

pub written_reshape : {E : Type 0} (r : Result MetadataV3 E) (entries : List ShapeEntry) → is_new_shape entries ≡ true → IfOk r (λ m. point_of m ≡ array_codec_point (reshape entries)) → IfOk r (λ m. reshape_in (point_of m) ≡ Some (reshape entries))
written_reshape (Ok m) entries is written = ap reshape_in written ∙ reshape_back entries is
written_reshape (Err e) entries is written = tt

pub squeeze_back : squeeze_in (array_codec_point squeeze) ≡ Some squeeze
squeeze_back = refl

pub written_transpose : {E : Type 0} (r : Result MetadataV3 E) (order : List ℕ) → is_permutation order ≡ true → IfOk r (λ m. point_of m ≡ array_codec_point (transpose order)) → IfOk r (λ m. transpose_in (point_of m) ≡ Some (transpose order))
written_transpose (Ok m) order permutes written = ap transpose_in written ∙ transpose_back order permutes
written_transpose (Err e) order permutes written = tt
