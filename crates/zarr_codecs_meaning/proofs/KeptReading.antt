-- Elements of variable length and optional elements are decoded to what was kept of them.
use Rattle.std.proofs.Common.{◌≡◌, ℕ, ◌^◌, ◌<◌, List, [], ◌∷◌, ◌++◌, length, map, take, drop, ap, ◌∙◌, sym, refl, arith, Option, Some, None, option_and_then, option_map, ◌&&◌, ◌==◌, if◌then◌else◌}
use Rattle.std.specs.Prelude.{nat_lt}
use Rattle.std.specs.List.{flat_map}
use Rattle.std.proofs.lemmas.Bool.{ltb-true, and_parts}
use Rattle.std.proofs.lemmas.List.{length-map}
use Rattle.zarr_codecs_meaning.specs.Numbers.{number, word}
use Rattle.zarr_codecs_meaning.specs.Types.{Cell, of_bytes, cell_bytes}
use Rattle.zarr_codecs_meaning.specs.Chains.{Location}
use Rattle.zarr_codecs_meaning.specs.Encoding.{ends_from, last_number, number_cells, sections, with_index, with_mask, is_short, unless_none, mask_cell, variable_encoded, options_encoded}
use Rattle.zarr_codecs_meaning.specs.Keeping.{cut_again, spread}
use Rattle.zarr_codecs_meaning.specs.Decoding.{sections_of, elements_between, elements_of, masked_of, count_present, read_unless_none, variable_decoded, options_decoded}
use Rattle.zarr_codecs_meaning.proofs.Lists.{bind_some, if_some, some_same}
use Rattle.zarr_codecs_meaning.proofs.Variable.{ends_below, last_end, between_back, numbers_again, sections_back}
use Rattle.zarr_codecs_meaning.proofs.Options.{count_found, masked_back}
use Rattle.zarr_codecs_meaning.proofs.KeptVariable.{content_of, KeepsBytes, cut_joined, ends_alike}
use Rattle.zarr_codecs_meaning.proofs.KeptOptions.{found_in, spread_by}

-- what is read of the data, where no elements are encoded as nothing
data_read : (encode : List ℕ → List Cell → Option (List ℕ)) (decode : List ℕ → List ℕ → Option (List Cell)) (cells found : List Cell) (count : ℕ) («data» : List ℕ) → count ≡ length cells → length found ≡ length cells
    → ((made : List ℕ) → encode (length cells ∷ []) cells ≡ Some made → decode (length cells ∷ []) made ≡ Some found) → unless_none cells (encode (length cells ∷ []) cells) ≡ Some «data» → read_unless_none count «data» (decode (count ∷ [])) ≡ Some found
data_read encode decode [] [] count «data» is many law h =
    let nothing : [] ≡ «data» = some_same h in
    ap (λ n. read_unless_none n «data» (decode (n ∷ []))) is ∙ ap (λ (ns : List ℕ). if length ns == 0 then Some [] else None) (sym nothing)
data_read encode decode [] (x ∷ xs) count «data» is many law h = absurd (omega arith)
data_read encode decode (c ∷ cs) found count «data» is many law h = ap (λ n. read_unless_none n «data» (decode (n ∷ []))) is ∙ law «data» h

-- the elements between the offsets are those that were cut
cut_read : (cells found : List Cell) → KeepsBytes cells found → option_map (map of_bytes) (elements_between 0 (ends_from 0 (map cell_bytes cells)) (flat_map cell_bytes found)) ≡ Some (cut_again cells (flat_map cell_bytes found))
cut_read cells found k =
    let «data» = flat_map cell_bytes found in
    let cut = cut_again cells «data» in
    ap (λ (ends : List ℕ). option_map (map of_bytes) (elements_between 0 ends «data»)) (sym (ends_alike cells «data» 0 k.long))
    ∙ (ap (λ (ns : List ℕ). option_map (map of_bytes) (elements_between 0 (ends_from 0 (map cell_bytes cut)) ns)) (sym (cut_joined cells «data» k.long))
    ∙ (ap (option_map (map of_bytes)) (between_back cut 0) ∙ ap Some (cut_elements cells «data»))) where
      cut_elements : (cells : List Cell) («data» : List ℕ) → map of_bytes (map cell_bytes (cut_again cells «data»)) ≡ cut_again cells «data»
      cut_elements [] «data» = refl
      cut_elements (c ∷ cs) «data» = ap (λ (xs : List Cell). of_bytes (take (length (cell_bytes c)) «data») ∷ xs) (cut_elements cs (drop (length (cell_bytes c)) «data»))

pub vlen_decoded : (index_encode : List Cell → Option (List ℕ)) (index_decode : List ℕ → Option (List Cell)) (encode : List ℕ → List Cell → Option (List ℕ)) (decode : List ℕ → List ℕ → Option (List Cell))
    → (width : ℕ) (location : Location) (cells found : List Cell) (value : List ℕ) → KeepsBytes cells found
    → ((made : List ℕ) → last_number 0 (ends_from 0 (map cell_bytes cells)) < 2 ^ width → index_encode (number_cells width (0 ∷ ends_from 0 (map cell_bytes cells))) ≡ Some made → index_decode made ≡ Some (number_cells width (0 ∷ ends_from 0 (map cell_bytes cells))))
    → ((made : List ℕ) → encode (length (content_of cells) ∷ []) (content_of cells) ≡ Some made → decode (length (content_of cells) ∷ []) made ≡ Some found)
    → variable_encoded index_encode (λ content. encode (length content ∷ []) content) width location cells ≡ Some value
    → variable_decoded index_decode (λ long. decode (long ∷ [])) location value ≡ Some (cut_again cells (flat_map cell_bytes found))
vlen_decoded index_encode index_decode encode decode width location cells found value k index_law law h =
    let ends = ends_from 0 (map cell_bytes cells) in
    let offsets = 0 ∷ ends in
    let content = content_of cells in
    let data_bytes = unless_none content (encode (length content ∷ []) content) in
    let next : List ℕ → Option (List ℕ) = λ (front : List ℕ). option_and_then (with_index location front) data_bytes in
    let guarded = if_some (nat_lt (last_number 0 offsets) (2 ^ width)) (option_and_then next (index_encode (number_cells width offsets))) value h in
    let low = ltb-true (last_number 0 offsets) (2 ^ width) guarded.0 in
    let below = ends_below cells 0 (2 ^ width) low in
    let made = bind_some next (index_encode (number_cells width offsets)) value guarded.1 in
    let data_ = bind_some (with_index location made.0) data_bytes value made.2 in
    let told = if_some (is_short made.0) (Some (sections location made.0 data_.0)) value data_.2 in
    let short = ltb-true (length made.0) (2 ^ 64) told.0 in
    let long = last_number 0 ends in
    let joined_ = flat_map cell_bytes cells in
    let count : long ≡ length content = last_end cells 0 ∙ (omega arith ∙ sym (length-map joined_ (λ b. of_bytes (b ∷ [])))) in
    let read = λ (sections_ : List ℕ × List ℕ). λ (n : ℕ). option_map (flat_map cell_bytes) (read_unless_none n sections_.1 (decode (n ∷ []))) in
    let result = λ (sections_ : List ℕ × List ℕ). λ (numbers : List Cell). option_map (map of_bytes) (elements_of (read sections_) (map (λ (offset : Cell). number 256 (cell_bytes offset)) numbers)) in
    let whole = λ (sections_ : List ℕ × List ℕ). option_and_then (result sections_) (index_decode sections_.0) in
    ap (λ v. option_and_then whole (sections_of location v)) (sym (some_same told.1))
    ∙ (ap (option_and_then whole) (sections_back location made.0 data_.0 short)
    ∙ (ap (option_and_then (result (made.0, data_.0))) (index_law made.0 low made.1)
    ∙ (ap (λ (ns : List ℕ). option_map (map of_bytes) (elements_of (read (made.0, data_.0)) ns)) (numbers_again width offsets (below.0, below.1))
    ∙ (ap (λ (o : Option (List Cell)). option_map (map of_bytes) (option_and_then (elements_between 0 ends) (option_map (flat_map cell_bytes) o))) (data_read encode decode content found long data_.0 count k.many law data_.1) ∙ cut_read cells found k))))

pub optional_decoded : (mask_encode : List Cell → Option (List ℕ)) (mask_decode : List ℕ → Option (List Cell)) (encode : List ℕ → List Cell → Option (List ℕ)) (decode : List ℕ → List ℕ → Option (List Cell))
    → (cells found : List Cell) (value : List ℕ) → length found ≡ length (found_in cells)
    → ((made : List ℕ) → mask_encode (map mask_cell cells) ≡ Some made → mask_decode made ≡ Some (map mask_cell cells))
    → ((made : List ℕ) → encode (length (found_in cells) ∷ []) (found_in cells) ≡ Some made → decode (length (found_in cells) ∷ []) made ≡ Some found)
    → options_encoded mask_encode (λ some. encode (length some ∷ []) some) cells ≡ Some value → options_decoded mask_decode (λ count. decode (count ∷ [])) value ≡ Some (spread_by cells found)
optional_decoded mask_encode mask_decode encode decode cells found value many mask_law law h =
    let masks = map mask_cell cells in
    let some = found_in cells in
    let data_bytes = unless_none some (encode (length some ∷ []) some) in
    let next : List ℕ → Option (List ℕ) = λ (front : List ℕ). option_and_then (with_mask front) data_bytes in
    let made = bind_some next (mask_encode masks) value h in
    let data_ = bind_some (with_mask made.0) data_bytes value made.2 in
    let told = if_some (is_short made.0 && is_short data_.0) (Some (word (length made.0) ++ (word (length data_.0) ++ (made.0 ++ data_.0)))) value data_.2 in
    let shorts = and_parts (is_short made.0) (is_short data_.0) told.0 in
    let count = count_present masks in
    let result = λ (sections_ : List ℕ × List ℕ). λ (ms : List Cell). option_map (spread ms) (read_unless_none (count_present ms) sections_.1 (decode (count_present ms ∷ []))) in
    let whole = λ (sections_ : List ℕ × List ℕ). option_and_then (result sections_) (mask_decode sections_.0) in
    ap (λ v. option_and_then whole (masked_of v)) (sym (some_same told.1))
    ∙ (ap (option_and_then whole) (masked_back made.0 data_.0 (ltb-true (length made.0) (2 ^ 64) shorts.0) (ltb-true (length data_.0) (2 ^ 64) shorts.1))
    ∙ (ap (option_and_then (result (made.0, data_.0))) (mask_law made.0 made.1)
    ∙ ap (option_map (spread masks)) (data_read encode decode some found count data_.0 (count_found cells) many law data_.1)))
