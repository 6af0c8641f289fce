-- The documents of arrays stay, so their chains make no shard before where they make none afterwards.
use Rattle.std.proofs.Common.{◌≡◌, ◌∙◌, ⊎_elim, ℕ, List, [], ◌∷◌, refl, sym, ap, subst, Some}
use Rattle.zarr_codecs_metadata.specs.Chains.{ReadsCodecs}
use Rattle.zarr_codecs_meaning.specs.Fits.{is_plain}
use Rattle.zarr_array_meaning.specs.Documents.{Document}
use Rattle.zarr_array_meaning.specs.StoreMaps.{StoreMap}
use Rattle.zarr_run_meaning.specs.Requests.{Request, Answer}
use Rattle.zarr_run_meaning.specs.Runs.{Run}
use Rattle.zarr_run_meaning.specs.Steps.{Step}
use Rattle.zarr_run_meaning.specs.Tables.{Table}
use Rattle.zarr_run_meaning.specs.Worlds.{Held, World, held_at, WithTable}
use Rattle.zarr_run_meaning.proofs.Arrays.{Stayed, at_path, near, apart, held_at-before, held_at-reordered, held_after}
use Rattle.zarr_run_meaning.proofs.Effects.{Effect, kept, left, created, reordered, opened, wrote, erased, stored_anew, step_effect}
use Rattle.zarr_run_session.specs.Headline.{IsPlainThere}

-- an array is held afterwards with the document that it had
abbrev IsHeldWith : List ℕ → Document → World → Type 0
IsHeldWith path document world = (h : Held) × (held_at path world.arrays ≡ Some h) × (h.document ≡ document)

stayed_document : (p : List ℕ) (t : Table) (store : StoreMap) (old new : Held) → Stayed p t store old new → new.document ≡ old.document
stayed_document p t store old new (at_path e is) = ap (λ (h : Held). h.document) is
stayed_document p t store old new (near ne r is shows) = ap (λ (h : Held). h.document) is
stayed_document p t store old new (apart r is) = ap (λ (h : Held). h.document) is

module _ (reads : ReadsCodecs) (old new : World) (path : List ℕ) (g : Held) (found : held_at path old.arrays ≡ Some g) where
  tabled : (p : List ℕ) (t : Table) → WithTable p t new.store old.arrays new.arrays → IsHeldWith path g.document new
  tabled p t updates = let h = held_after p t new.store old.arrays new.arrays updates path g found in (h.0, h.1, stayed_document p t new.store g h.0 h.2)

  still : (request : Request) (answer : Answer) → Effect reads request answer old new → IsHeldWith path g.document new
  still request answer (kept arrays store) = (g, ap (held_at path) arrays ∙ found, refl)
  still request answer (left l) = (g, ap (held_at path) l.arrays ∙ found, refl)
  still request answer (created p document order begins c) = (g, ap (held_at path) c.begins.holds ∙ held_at-before path old.arrays _ g found, refl)
  still request answer (reordered p order r) =
      let h = held_at-reordered p path order old.arrays g found in
      (h.0, ap (held_at path) r.updates ∙ h.1, ⊎_elim (ap (λ (x : Held). x.document)) (ap (λ (x : Held). x.document)) h.2)
  still request answer (opened p order begins away o) = (g, ap (held_at path) o.begins.holds ∙ held_at-before path old.arrays _ g found, refl)
  still request answer (wrote w) = tabled w.held.path w.writes.table w.writes.updates
  still request answer (erased w) = tabled w.held.path w.erases.table w.erases.updates
  still request answer (stored_anew w) = tabled w.held.path w.held.table w.updates

-- a step keeps the document of an array
pub document_stays : (reads : ReadsCodecs) (old new : World) (request : Request) (answer : Answer) (path : List ℕ) (g : Held) → held_at path old.arrays ≡ Some g → Step reads old request answer new → IsHeldWith path g.document new
document_stays reads old new request answer path g found s = still reads old new path g found request answer (step_effect reads old new request answer s)

pub plain_step : (reads : ReadsCodecs) (old new : World) (request : Request) (answer : Answer) (path : List ℕ) → Step reads old request answer new → IsPlainThere path new → IsPlainThere path old
plain_step reads old new request answer path s plain g found =
    let h = document_stays reads old new request answer path g found s in
    sym (ap (λ (d : Document). is_plain d.chain) h.2) ∙ plain h.0 h.1

pub plain_before : (reads : ReadsCodecs) (old new : World) (requests : List Request) (answers : List Answer) (path : List ℕ) → Run reads old requests answers new → IsPlainThere path new → IsPlainThere path old
plain_before reads old new [] [] path r plain = let P : World → Type 0 = λ w. IsPlainThere path w in subst P r plain
plain_before reads old new [] (answer ∷ answers) path r plain = absurd r
plain_before reads old new (request ∷ requests) [] path r plain = absurd r
plain_before reads old new (request ∷ requests) (answer ∷ answers) path r plain = plain_step reads old r.0 request answer path r.1 (plain_before reads r.0 new requests answers path r.2 plain)
