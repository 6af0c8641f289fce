-- The parts of a key, cut one by one from its front.
use Rattle.std.proofs.Common.{◌≡◌, ◌≢◌, ◌∙◌, ◌<◌, ◌==◌, ◌&&◌, ℕ, Bool, suc, true, false, ap, refl, arith, List, [], ◌∷◌, ◌++◌, get_or, length, ne_eqb}
use Rattle.std.specs.List.{list_all}
use Rattle.zarr_array_folder.specs.FileKeys.{is_file_key, is_file_name, onto_first, parts_of}

-- a text without a slash
abbrev pub LacksSlash : List ℕ → Type 0
LacksSlash text = (i : ℕ) → i < length text → get_or text i 0 ≢ 47

parts_cut : (part rest : List ℕ) → LacksSlash part → parts_of (part ++ 47 ∷ rest) ≡ part ∷ parts_of rest
parts_cut [] rest lacks = refl
parts_cut (x ∷ xs) rest lacks =
    let other : (x == 47) ≡ false = ne_eqb x 47 (lacks 0 (omega arith)) in
    rw other (ap (onto_first x) (parts_cut xs rest (λ i below. lacks (suc i) (omega arith))))

parts_whole : (text : List ℕ) → LacksSlash text → parts_of text ≡ text ∷ []
parts_whole [] lacks = refl
parts_whole (x ∷ xs) lacks =
    let other : (x == 47) ≡ false = ne_eqb x 47 (lacks 0 (omega arith)) in
    rw other (ap (onto_first x) (parts_whole xs (λ i below. lacks (suc i) (omega arith))))

-- a key is a file's where its first part is a name, and the others are
pub key_cut : (key part rest : List ℕ) → key ≡ part ++ 47 ∷ rest → LacksSlash part → is_file_key key ≡ (is_file_name part && is_file_key rest)
key_cut key part rest is lacks = ap is_file_key is ∙ ap (list_all is_file_name) (parts_cut part rest lacks)

-- a key of one part is a file's where that is a name
pub key_whole : (key : List ℕ) → LacksSlash key → is_file_key key ≡ is_file_name key
key_whole key lacks = ap (list_all is_file_name) (parts_whole key lacks) ∙ one (is_file_name key)
  where
    one : (b : Bool) → (b && true) ≡ b
    one true = refl
    one false = refl
