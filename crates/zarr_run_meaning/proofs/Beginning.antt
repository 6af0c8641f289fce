-- A world without arrays, and what is read where nothing is stored.
use Rattle.std.proofs.Common.{◌≡◌, ℕ, List, [], ◌∷◌, refl, sym, ap, Option, Some, None}
use Rattle.std.proofs.lemmas.Option.{none-some}
use Rattle.zarr_grids_boxes.specs.Boxes.{Region}
use Rattle.zarr_codecs_meaning.specs.Chunks.{chunk_part}
use Rattle.zarr_array_meaning.specs.Chunks.{number_in, stored_at, ReadsCell}
use Rattle.zarr_array_meaning.specs.Documents.{Document}
use Rattle.zarr_array_meaning.specs.StoreMaps.{StoreMap}
use Rattle.zarr_run_meaning.specs.Laws.{NoArraysSound, BeginsAsFill}

-- ---- no array

pub no_arrays_sound : NoArraysSound
no_arrays_sound reads store count = record { apart = tt; each = λ path h e. absurd (none-some h e) }

-- ---- nothing stored

-- where nothing is stored for a chunk, the fill value is read
pub fill_read : (path : List ℕ) (document : Document) (store : StoreMap) (chunk : List ℕ) (box : Region) (place : List ℕ) → stored_at path document store chunk ≡ None → ReadsCell document box (stored_at path document store chunk) place document.elements.fill
fill_read path document store chunk box place none = ap (λ o. chunk_part document.chain document.elements box.shape o (number_in box place ∷ [])) none

pub begins_as_fill : BeginsAsFill
begins_as_fill path document store table chunk box place lossless shows below none inside =
    sym (shows lossless chunk box place document.elements.fill below inside (fill_read path document store chunk box place none))

pub none_from : {X : Type 0} (o : Option X) → ((x : X) → o ≡ Some x → ⊥) → o ≡ None
none_from None f = refl
none_from (Some x) f = absurd (f x refl)
