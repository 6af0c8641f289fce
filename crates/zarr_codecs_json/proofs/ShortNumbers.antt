-- Elements whose text waits in a room before it is appended.
use Rattle.std.proofs.Common.{◌≡◌, ℕ, ◌<◌, ◌≤◌, List, ◌++◌, length, take, drop, Bool, true, refl, sym, ap, ◌∙◌, append_assoc}
use Rattle.serde_json.specs.Written.{compact_text, comma_if, items_text}
use Rattle.zarr_codecs_meaning.specs.Types.{DataType}
use Rattle.zarr_codecs_json.specs.Texts.{element_data, fixed_data}
use Rattle.zarr_codecs_json.proofs.PrintedTexts.{first_data}

-- the text of an element went into the room after that of those before it, which may have been appended
pub room_step : (type : DataType) (width : ℕ) (bytes element others text room appended front filled all : List ℕ) (later : Bool) → 0 < width → width ≤ length bytes → element ≡ take width bytes → others ≡ drop width bytes
    → appended ++ front ≡ text ++ room → filled ≡ front ++ (comma_if later ++ compact_text (element_data type element)) → (text ++ room) ++ items_text later (fixed_data type width bytes) ≡ all
    → (appended ++ filled) ++ items_text true (fixed_data type width others) ≡ all
room_step type width bytes element others text room appended front filled all later h enough first rest kept put same =
    let d = compact_text (element_data type element) in
    let more = items_text true (fixed_data type width others) in
    let grew : appended ++ filled ≡ (text ++ room) ++ (comma_if later ++ d) = ap (λ ns. appended ++ ns) put ∙ (sym (append_assoc appended front (comma_if later ++ d)) ∙ ap (λ ns. ns ++ (comma_if later ++ d)) kept) in
    ap (λ ns. ns ++ more) grew
    ∙ (append_assoc (text ++ room) (comma_if later ++ d) more
    ∙ (ap (λ ns. (text ++ room) ++ ns) (append_assoc (comma_if later) d more)
    ∙ (ap (λ ds. (text ++ room) ++ items_text later ds) (sym (first_data type width bytes element others h enough first rest)) ∙ same)))
