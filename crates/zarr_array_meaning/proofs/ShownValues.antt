-- The cells that a store shows are values of the type.
use Rattle.std.proofs.Common.{◌≡◌, ◌∙◌, ℕ, List, [], ◌∷◌, Option, Some, None, Bool, true, is_some, refl, sym, ap}
use Rattle.std.proofs.lemmas.Bool.{and_parts}
use Rattle.std.specs.List.{list_all}
use Rattle.zarr_codecs_meaning.specs.Types.{Cell, Elements, is_value}
use Rattle.zarr_codecs_meaning.specs.Chains.{Chain}
use Rattle.zarr_codecs_meaning.specs.Chunks.{chunk_part}
use Rattle.zarr_codecs_meaning.specs.Decoding.{part_decoded}
use Rattle.zarr_codecs_meaning.specs.Fits.{fits}
use Rattle.zarr_codecs_meaning.proofs.DecodedValues.{part_values}
use Rattle.zarr_array_meaning.specs.Chunks.{number_in, stored_at}
use Rattle.zarr_array_meaning.specs.Documents.{Document}
use Rattle.zarr_array_meaning.specs.Standing.{IsGood, AreValues, ValuesFit, ReadsValues}
use Rattle.zarr_array_meaning.specs.StoreMaps.{StoreMap}
use Rattle.zarr_array_meaning.proofs.Showing.{first_cell, shown, shown_shows}

first_value : (test : Cell → Bool) (fill : Cell) (o : Option (List Cell)) → test fill ≡ true → ((cells : List Cell) → o ≡ Some cells → list_all test cells ≡ true) → test (first_cell fill o) ≡ true
first_value test fill None one law = one
first_value test fill (Some []) one law = one
first_value test fill (Some (c ∷ cs)) one law = (and_parts (test c) (list_all test cs) (law (c ∷ cs) refl)).0

-- where the chunk fits, or has no value
pub stored_value : (chain : Chain) (elements : Elements) (shape : List ℕ) (stored : Option (List ℕ)) (n : ℕ) → is_value elements.type elements.fill ≡ true → (is_some stored ≡ true → fits chain elements.type shape ≡ true)
    → is_value elements.type (first_cell elements.fill (chunk_part chain elements shape stored (n ∷ []))) ≡ true
stored_value chain elements shape None n fill fit = fill
stored_value chain elements shape (Some value) n fill fit =
    first_value (is_value elements.type) elements.fill (part_decoded chain elements shape value (n ∷ [])) fill (λ cells e. part_values chain elements shape value (n ∷ []) cells (fit refl) fill e)

pub reads_values : ReadsValues
reads_values path document store chunk box place cell good fit reads =
    ap (λ o. is_value document.elements.type (first_cell document.elements.fill o)) (sym reads)
    ∙ stored_value document.chain document.elements box.shape (stored_at path document store chunk) (number_in box place) good.fill (λ some. fit)

pub shown_values : (path : List ℕ) (document : Document) (store : StoreMap) → IsGood document → ValuesFit path document store → AreValues document (shown path document store)
shown_values path document store good fit chunk box place below inside =
    ap (is_value document.elements.type) (shown_shows path document store chunk box place below inside)
    ∙ stored_value document.chain document.elements box.shape (stored_at path document store chunk) (number_in box place) good.fill (fit chunk box below)
