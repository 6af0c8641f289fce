-- Steps of an array that is held: how it refuses, and where a state stands when nothing but the count of refused store calls changed.
use Rattle.std.proofs.Common.{◌≡◌, ◌≢◌, ℕ, refl, sym, subst, inl, inr, IsTrue, Option, Some}
use Rattle.zarr_grids_keys.specs.Paths.{is_node_path}
use Rattle.zarr_codecs_meaning.specs.Chains.{ByteCodec}
use Rattle.zarr_codecs_metadata.specs.Chains.{ReadsCodecs}
use Rattle.zarr_array_meaning.specs.StoreMaps.{StoreMap}
use Rattle.zarr_run_meaning.specs.declared.cause.Cause.{Cause}
use Rattle.zarr_run_meaning.specs.declared.cause.Cause.TheVariants as cause
use Rattle.zarr_run_meaning.specs.Requests.{Refusal, refusal, Request, path_of, Answer}
use Rattle.zarr_run_meaning.specs.Steps.{CountsRefusal, Stays, RefusesHeld, Refuses, RefusesAt, Step}
use Rattle.zarr_run_meaning.specs.Worlds.{Held, World}
use Rattle.zarr_run_opening.specs.Sessions.{Arrays, IsIn}

-- a refusal of a command whose path is that of an array
pub refused_at : (reads : ReadsCodecs) (request : Request) (c : Cause) (n : ℕ) (old new : World) → IsTrue (is_node_path (path_of request)) → c ≢ cause.Path → Refuses reads request (refusal c n) old new → RefusesAt reads request (refusal c n) old new
refused_at reads request cause.Path n old new node ne refuses = absurd (ne refl)
refused_at reads request cause.Memory n old new node ne refuses = inr (node, refuses)
refused_at reads request c n old new node ne refuses = (node, refuses)

-- an array that is held refuses
pub refused_held : (o : Option Held) (h : Held) (refuses : Held → Refusal → World → World → Type 0) (why : Refusal) (old new : World) → o ≡ Some h → refuses h why old new → RefusesHeld o refuses why old new
refused_held o h refuses why old new found r = let P : Option Held → Type 0 = λ o. RefusesHeld o refuses why old new in subst P (sym found) r

-- the count of refused store calls from that of a world on
pub counts_from : (c : Cause) (m n n' : ℕ) → m ≡ n → CountsRefusal c n n' → CountsRefusal c m n'
counts_from c m n n' same counts = let P : ℕ → Type 0 = λ k. CountsRefusal c k n' in subst P (sym same) counts

-- nothing but that count was changed: the command stays
pub stays_at : (c : Cause) (m n' : ℕ) (w : World) → m ≡ 0 → CountsRefusal c w.refused n' → Stays c m w (record w { refused = n' })
stays_at c m n' w none counts = record { applied = none; is = refl; count = counts }

-- memory ran out before anything changed
pub short_of_memory : (reads : ReadsCodecs) (request : Request) (c : Cause) (m n' : ℕ) (w : World) → m ≡ 0 → c ≡ cause.Memory → CountsRefusal c w.refused n' → RefusesAt reads request (refusal c m) w (record w { refused = n' })
short_of_memory reads request c m n' w none is counts =
    let P : Cause → Type 0 = λ c. RefusesAt reads request (refusal c m) w (record w { refused = n' }) in
    let Q : Cause → Type 0 = λ c. CountsRefusal c w.refused n' in
    subst P (sym is) (inl (stays_at cause.Memory m n' w none (subst Q is counts)))

-- a step leads from a world to one that the state is in
abbrev pub LeadsTo : {B : Type 0} → (B → ByteCodec) → ReadsCodecs → World → Request → Answer → Arrays B → StoreMap → ℕ → Type 0
LeadsTo meaning reads w request answer arrays store n = (after : World) × Step reads w request answer after × IsIn meaning reads (arrays, (store, n)) after

-- where nothing but the count changed, the state is in the world with that count
pub in_untouched : (B : Type 0) (meaning : B → ByteCodec) (reads : ReadsCodecs) (arrays : Arrays B) (store store' : StoreMap) (n n' : ℕ) (w : World) → IsIn meaning reads (arrays, (store, n)) w → store' ≡ store
    → IsIn meaning reads (arrays, (store', n')) (record w { refused = n' })
in_untouched B meaning reads arrays store store' n n' w k same =
    let P : StoreMap → Type 0 = λ s. IsIn meaning reads (arrays, (s, n')) (record w { refused = n' }) in
    subst P (sym same) (record { agree = k.agree; distinct = k.distinct; store = k.store; refused = refl })
