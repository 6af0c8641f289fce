-- What storing cells afresh leaves.
use Rattle.std.proofs.Common.{◌≡◌, ◌∙◌, ℕ, List, ap, refl, sym, subst, inl, inr, Option, Some, None, Bool, true, false, if◌then◌else◌, option_map}
use Rattle.std.specs.Prelude.{is_some, not, MatchBool}
use Rattle.zarr_codecs_meaning.specs.Types.{is_fill}
use Rattle.zarr_codecs_meaning.specs.Chunks.{IsStored}
use Rattle.zarr_codecs_meaning.specs.Encoding.{encoded}
use Rattle.zarr_codecs_meaning.specs.Fits.{fits}
use Rattle.zarr_codecs_meaning.specs.Standing.{ChunkStands}
use Rattle.zarr_codecs_meaning.proofs.Chunks.{stored_part}
use Rattle.zarr_codecs_meaning.proofs.Lists.{some_same}
use Rattle.zarr_codecs_meaning.proofs.Meaning.{stands_decoded}
use Rattle.zarr_codecs_meaning.proofs.PartReading.{part_read}
use Rattle.zarr_codecs_meaning.proofs.Shards.{stored_cases}
use Rattle.zarr_codecs_meaning.proofs.Tight.{encoded_tight}
use Rattle.zarr_sharding_values.specs.Fresh.{EncodedFresh, AbsentFresh, FreshOnce, FreshTight, DecodedCells, StoredAnewShows}

fresh_of : (fill : Bool) (stored made : Option (List ℕ)) → is_some stored ≡ not fill → ((value : List ℕ) → stored ≡ Some value → made ≡ Some value) → (if fill then Some None else option_map Some made) ≡ Some stored
fresh_of true None made key is = refl
fresh_of true (Some value) made key is = absurd (cc)
fresh_of false None made key is = absurd (cc)
fresh_of false (Some value) made key is = ap (option_map Some) (is value refl)

pub encoded_fresh : EncodedFresh
encoded_fresh chain elements shape stored cells key is = fresh_of (is_fill elements.fill cells) stored (encoded chain elements shape cells) key is

either_fill : (b : Bool) (P Q : Type 0) → MatchBool b P (Q × P) → P
either_fill true P Q h = h
either_fill false P Q h = h.1

pub absent_fresh : AbsentFresh
absent_fresh chain elements shape cells h = ap (λ (b : Bool). if b then Some None else option_map Some (encoded chain elements shape cells)) (either_fill (fits chain elements.type shape) _ _ h)

pub fresh_once : FreshOnce
fresh_once chain elements shape one two cells a b = some_same (sym a ∙ b)

pub fresh_tight : FreshTight
fresh_tight chain elements shape value cells lawful fit lossless are h = elim (stored_cases (is_fill elements.fill cells) (encoded chain elements shape cells) (Some value) h) [
  | inl k ↦ (let none = k.1 in absurd (cc))
  | inr k ↦ encoded_tight chain elements shape value cells lawful fit lossless are (k.1.1 ∙ ap Some (some_same (sym k.1.2)))
]

pub decoded_cells : DecodedCells
decoded_cells chain elements shape value found cells lawful fit lossless are stands is = some_same (sym is ∙ stands_decoded chain elements shape value cells lawful fit lossless are stands)

pub stored_anew_shows : StoredAnewShows
stored_anew_shows chain elements shape value numbers stored cells lawful fit lossless are below is stands =
    let holds : IsStored chain elements shape stored cells = subst (λ (b : Bool). MatchBool b (ChunkStands chain elements shape stored cells) ((stored ≡ None) × (is_fill elements.fill cells ≡ true))) (sym fit) stands in
    stored_part chain elements shape stored cells numbers lawful lossless are holds below ∙ sym (part_read chain elements shape value cells numbers fit is below)
