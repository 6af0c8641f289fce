-- Lists of storage transformers, of names and of extension points.
use Rattle.std.proofs.Common.{◌≡◌, ℕ, suc, List, [], ◌∷◌, length, map, true, false, ◌&&◌, ◌==◌, Option, Some, None, is_some, option_map, option_and_then, if◌then◌else◌, refl, ap, ◌∙◌, arith}
use Rattle.std.specs.List.{list_all}
use Rattle.std.proofs.lemmas.Bool.{ne_eqb}
use Rattle.serde_json.specs.Data.{Data, null, boolean, number, string, array, object, no_items, item}
use Rattle.serde_json.specs.Find.{as_array}
use Rattle.serde_json.specs.View.{view, items_of, items_view}
use Rattle.serde_json.specs.declared.value.Value.{Value}
use Rattle.zarr_grids_metadata.specs.ExtensionPoints.{written_point_in}
use Rattle.zarr_array_meaning.specs.Parts.{is_empty_list, name_in, names_of, names_for}
use Rattle.zarr_array_meaning.specs.Written.{written_points}

-- a JSON list without items, by how many it has
pub empty_list : (d : Data) (values : List Value) → Some (items_view values) ≡ as_array d → (length values == 0) ≡ is_empty_list d
empty_list null values is = absurd (cc)
empty_list (boolean b) values is = absurd (cc)
empty_list (number n) values is = absurd (cc)
empty_list (string s) values is = absurd (cc)
empty_list (array no_items) [] is = refl
empty_list (array no_items) (v ∷ values) is = absurd (cc)
empty_list (array (item d ds)) [] is = absurd (cc)
empty_list (array (item d ds)) (v ∷ values) is = ne_eqb (suc (length values)) 0 (λ e. omega arith)
empty_list (object ms) values is = absurd (cc)

-- ---- names

abbrev Names : Type 0
Names = Option (List (Option (List ℕ)))

abbrev more_names : Option (Option (List ℕ)) → Names → Names
more_names first rest = option_and_then (λ name. option_map (λ names. name ∷ names) rest) first

more_names-given : (first : Option (Option (List ℕ))) (rest : Names) → is_some (more_names first rest) ≡ (is_some first && is_some rest)
more_names-given None rest = refl
more_names-given (Some name) None = refl
more_names-given (Some name) (Some names) = refl

names_of-given : (values : List Value) → is_some (names_of (items_view values)) ≡ list_all (λ v. is_some (name_in (view v))) values
names_of-given [] = refl
names_of-given (v ∷ values) = more_names-given (name_in (view v)) (names_of (items_view values)) ∙ rw (names_of-given values)

more_names-length : (first : Option (Option (List ℕ))) (rest : Names) (n : ℕ) (found : List (Option (List ℕ))) → ((more : List (Option (List ℕ))) → rest ≡ Some more → length more ≡ n) → more_names first rest ≡ Some found → length found ≡ suc n
more_names-length None rest n found h is = absurd (cc)
more_names-length (Some name) None n found h is = absurd (cc)
more_names-length (Some name) (Some more) n found h is = let e : name ∷ more ≡ found = cc in let g = h more refl in let k = ap length e in omega arith

names_of-length : (values : List Value) (names : List (Option (List ℕ))) → names_of (items_view values) ≡ Some names → length names ≡ length values
names_of-length [] names is = let e : [] ≡ names = cc in let k = ap length e in omega arith
names_of-length (v ∷ values) names is = more_names-length (name_in (view v)) (names_of (items_view values)) (length values) names (names_of-length values) is

counted : (o : Names) (dimensions n : ℕ) → ((names : List (Option (List ℕ))) → o ≡ Some names → length names ≡ n)
    → is_some (option_and_then (λ names. if length names == dimensions then Some names else None) o) ≡ ((n == dimensions) && is_some o)
counted None dimensions n h = elim (n == dimensions) as (λ b. false ≡ (b && false)) [ true ↦ refl | false ↦ refl ]
counted (Some names) dimensions n h = rw (h names refl) (elim (n == dimensions) as (λ b. is_some (if b then Some names else None) ≡ (b && true)) [ true ↦ refl | false ↦ refl ])

-- whether a list gives names for the dimensions, by its length and each of its values
pub names_for_given : (dimensions : ℕ) (values : List Value) → is_some (names_for dimensions (items_view values)) ≡ ((length values == dimensions) && list_all (λ v. is_some (name_in (view v))) values)
names_for_given dimensions values =
    counted (names_of (items_view values)) dimensions (length values) (names_of-length values) ∙ ap (λ b. (length values == dimensions) && b) (names_of-given values)

-- ---- extension points

pub points_written : (values : List Value) → written_points (items_view values) ≡ items_of (map (λ v. written_point_in (view v)) values)
points_written [] = refl
points_written (v ∷ values) = rw (points_written values)
