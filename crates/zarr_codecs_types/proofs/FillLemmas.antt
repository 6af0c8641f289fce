-- Fill values in metadata.
use Rattle.std.proofs.Common.{◌≡◌, ◌≤◌, ℕ, List, [], ◌∷◌, length, map, Bool, true, false, if◌then◌else◌, Some, None, ap, sym, refl, arith}
use Rattle.std.specs.Str.{IsUtf8, is_utf8}
use Rattle.std.proofs.lemmas.Str.{IsUtf8-from_is_utf8, is_utf8-from_IsUtf8}
use Rattle.serde_json.specs.Data.{unsigned, number, string, item}
use Rattle.serde_json.specs.View.{items_of, items_view}
use Rattle.serde_json.specs.declared.value.Value.{Value}
use Rattle.zarr_codecs_meaning.specs.Types as types
use Rattle.zarr_codecs_types.specs.FillMetadata.{only_item, byte_items, bytes_data}

-- a list of two values or more
pub long_list : (items : List Value) → 2 ≤ length items → None ≡ only_item (items_view items)
long_list [] h = absurd (omega arith)
long_list (c ∷ []) h = absurd (omega arith)
long_list (c ∷ d ∷ items) h = refl

-- bytes as numbers, as one list
pub byte_items_map : (bs : List ℕ) → items_of (map (λ b. number (unsigned b)) bs) ≡ byte_items bs
byte_items_map [] = refl
byte_items_map (b ∷ bs) = ap (item (number (unsigned b))) (byte_items_map bs)

-- a text is written where it is UTF-8
pub text_written : (bs : List ℕ) → IsUtf8 bs → Some (string bs) ≡ bytes_data types.string bs
text_written bs h = sym (ap (λ (b : Bool). if b then Some (string bs) else None) (is_utf8-from_IsUtf8 bs h))

refused_at : (bs : List ℕ) (b : Bool) → is_utf8 bs ≡ b → (IsUtf8 bs → ⊥) → None ≡ (if b then Some (string bs) else None)
refused_at bs true is h = absurd (h (IsUtf8-from_is_utf8 bs is))
refused_at bs false is h = refl

pub text_refused : (bs : List ℕ) → (IsUtf8 bs → ⊥) → None ≡ bytes_data types.string bs
text_refused bs h = refused_at bs (is_utf8 bs) refl h
