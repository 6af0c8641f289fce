-- The parts of a value that were read.
use Rattle.std.proofs.Common.{◌≡◌, ◌∙◌, ap, refl, sym, ℕ, List, [], ◌∷◌, ◌++◌, length, map, Option, None, Some, Vec}
use Rattle.std.specs.List.{flat_map}
use Rattle.std.specs.declared.alloc.Global.{Global}
use Rattle.std.proofs.lemmas.List.Concat.{length-flat_map}
use Rattle.std.proofs.lemmas.List.Folds.{flat_map-map}
use Rattle.zarr_codecs_meaning.proofs.Lists.{some_same}
use Rattle.zarr_codecs_traits.specs.Sources.{bytes_at, concat_of, part_bytes, part_lists, parts_length, parts_of, value_length}
use Rattle.zarr_codecs_traits.specs.declared.byte_range.ByteRange.{ByteRange}

-- the next part goes to the end of the parts so far
pub part_bytes_push : (parts : List (Vec ℕ Global)) (part : Vec ℕ Global) (rest : List (List ℕ)) → part_bytes (parts ++ part ∷ []) ++ rest ≡ part_bytes parts ++ part.items ∷ rest
part_bytes_push [] part rest = refl
part_bytes_push (p ∷ parts) part rest = ap (λ ps. p.items ∷ ps) (part_bytes_push parts part rest)

-- parts that were read, one after another
pub concat_found : (contents : Option (List ℕ)) (ranges : List ByteRange) (found : Option (Vec (Vec ℕ Global) Global)) (parts : Vec (Vec ℕ Global) Global) (bytes : List ℕ) → found ≡ Some parts → part_lists found ≡ parts_of contents ranges
    → bytes ≡ flat_map (λ (part : List ℕ). part) (part_bytes parts.items) → Some bytes ≡ concat_of contents ranges
concat_found None ranges found parts bytes is read are = absurd (no_value (sym (ap part_lists is) ∙ read)) where
  no_value : Some (part_bytes parts.items) ≡ None → ⊥
  no_value h = cc
concat_found (Some value) ranges found parts bytes is read are =
    let same : part_bytes parts.items ≡ map (bytes_at value) ranges = some_same (sym (ap part_lists is) ∙ read) in
    ap Some (are ∙ (ap (flat_map (λ (part : List ℕ). part)) same ∙ flat_map-map (λ (part : List ℕ). part) (bytes_at value) ranges))

-- together they have as many bytes as each of them
pub concat_length : (found : Option (Vec (Vec ℕ Global) Global)) (parts : Vec (Vec ℕ Global) Global) (bytes : List ℕ) → found ≡ Some parts → bytes ≡ flat_map (λ (part : List ℕ). part) (part_bytes parts.items) → parts_length found ≡ length bytes
concat_length found parts bytes is are = ap parts_length is ∙ sym (ap (λ (bytes : List ℕ). length bytes) are ∙ length-flat_map (λ (part : List ℕ). part) (part_bytes parts.items))

pub concat_given : (contents : Option (List ℕ)) (ranges : List ByteRange) (found : Option (Vec (Vec ℕ Global) Global)) (parts : Vec (Vec ℕ Global) Global) → found ≡ Some parts → part_lists found ≡ parts_of contents ranges → parts_length found ≡ value_length (concat_of contents ranges)
concat_given contents ranges found parts is read =
    let bytes = flat_map (λ (part : List ℕ). part) (part_bytes parts.items) in
    concat_length found parts bytes is refl ∙ ap value_length (concat_found contents ranges found parts bytes is read refl)
