-- Sessions in a world: what is held, which paths are taken, and what stays.
use Rattle.std.proofs.Common.{◌≡◌, ◌∙◌, ℕ, List, [], ◌∷◌, refl, sym, ap, subst, true, false, cond, IsTrue, Option, Some, None, bytes_eq}
use Rattle.std.specs.FinMap.{get, insert, get-insert}
use Rattle.std.proofs.lemmas.Bool.{cond-false, false_from_ne_true}
use Rattle.std.proofs.lemmas.Cmp.{nat_list_cmp_total}
use Rattle.std.proofs.lemmas.Map.Text.{is_eq-slice_cmp}
use Rattle.std.proofs.lemmas.Slice.Eq.{bytes_eq-Decides}
use Rattle.zarr_grids_keys.specs.Keys.{chunk_key}
use Rattle.zarr_grids_keys.specs.Paths.{is_node_path}
use Rattle.zarr_grids_keys.specs.Related.{is_related}
use Rattle.zarr_codecs_meaning.specs.Chains.{ByteCodec}
use Rattle.zarr_codecs_meaning.specs.Chunks.{chunk_part}
use Rattle.zarr_codecs_metadata.specs.Chains.{ReadsCodecs}
use Rattle.zarr_array_meaning.specs.Chunks.{number_in}
use Rattle.zarr_array_meaning.specs.Documents.{Document}
use Rattle.zarr_array_meaning.specs.StoreMaps.{StoreMap}
use Rattle.zarr_run_meaning.specs.Steps.{Stays, refused_after}
use Rattle.zarr_run_meaning.specs.Tables.{Table}
use Rattle.zarr_run_meaning.specs.Worlds.{Held, World, held_at, is_taken, IsTableAt}
use Rattle.zarr_run_meaning.specs.declared.cause.Cause.{Cause}
use Rattle.zarr_run_meaning.proofs.RefusedCounts.{counts_refusal}
use Rattle.zarr_run_opening.specs.Arrays.{IsTakenIn, IsFreeIn, KeepsArrays}
use Rattle.zarr_run_opening.specs.Sessions.{Arrays, array_at, IsHeld, Agrees, IsIn}
use Rattle.zarr_run_opening.specs.declared.held.HeldArray.{HeldArray}
use Rattle.zarr_run_opening.proofs.ArrayLemmas.{some_same}
use Rattle.zarr_run_opening.proofs.WorldLemmas.{held_at-path, taken_by, free_from}

-- ---- tables
-- a table stays one of what is stored where the chunks' values stay
pub table_kept : (path : List ℕ) (document : Document) (store store' : StoreMap) (table : Table) → ((chunk : List ℕ) → get store' (chunk_key path document.keys chunk) ≡ get store (chunk_key path document.keys chunk))
    → IsTableAt path document store table → IsTableAt path document store' table
table_kept path document store store' table same shows = λ lossless chunk box place c below inside reads.
    shows lossless chunk box place c below inside (ap (λ o. chunk_part document.chain document.elements box.shape o (number_in box place ∷ [])) (sym (same chunk)) ∙ reads)

-- ---- what is held
module _ (B : Type 0) (meaning : B → ByteCodec) (reads : ReadsCodecs) where
  pub agreed_some : (store : StoreMap) (o : Option (HeldArray B)) (p : Option Held) (h : Held) → Agrees meaning reads store o p → p ≡ Some h → (array : HeldArray B) × (o ≡ Some array) × IsHeld meaning reads store array h
  agreed_some store None None h a e = absurd (cc)
  agreed_some store None (Some x) h a e = absurd a
  agreed_some store (Some y) None h a e = absurd a
  agreed_some store (Some y) (Some x) h a e = let P : Held → Type 0 = λ h. IsHeld meaning reads store y h in (y, refl, subst P (some_same x h e) a)

  pub agreed_held : (store : StoreMap) (o : Option (HeldArray B)) (p : Option Held) (array : HeldArray B) → Agrees meaning reads store o p → o ≡ Some array → (h : Held) × (p ≡ Some h) × IsHeld meaning reads store array h
  agreed_held store None None array a e = absurd (cc)
  agreed_held store None (Some x) array a e = absurd a
  agreed_held store (Some y) None array a e = absurd a
  agreed_held store (Some y) (Some x) array a e = let P : HeldArray B → Type 0 = λ y. IsHeld meaning reads store y x in (x, refl, subst P (some_same y array e) a)

  pub agreed_none : (store : StoreMap) (o : Option (HeldArray B)) (p : Option Held) → Agrees meaning reads store o p → o ≡ None → p ≡ None
  agreed_none store None None a e = refl
  agreed_none store None (Some x) a e = absurd a
  agreed_none store (Some y) p a e = absurd (cc)

  pub agrees_some : (store : StoreMap) (o : Option (HeldArray B)) (p : Option Held) (array : HeldArray B) (h : Held) → o ≡ Some array → p ≡ Some h → IsHeld meaning reads store array h → Agrees meaning reads store o p
  agrees_some store o p array h e f k =
      let P : Option (HeldArray B) → Type 0 = λ o. Agrees meaning reads store o p in
      let Q : Option Held → Type 0 = λ p. Agrees meaning reads store (Some array) p in
      subst P (sym e) (subst Q (sym f) k)

  -- what is held stays, where each array that was held stays the one of the world
  pub agrees_kept : (store store' : StoreMap) (o o' : Option (HeldArray B)) (p p' : Option Held) → o' ≡ o → p' ≡ p → Agrees meaning reads store o p
      → ((array : HeldArray B) (h : Held) → p ≡ Some h → IsHeld meaning reads store array h → IsHeld meaning reads store' array h) → Agrees meaning reads store' o' p'
  agrees_kept store store' o o' p p' e f a keeps =
      let P : Option (HeldArray B) → Type 0 = λ o. Agrees meaning reads store' o p' in
      let Q : Option Held → Type 0 = λ p. Agrees meaning reads store' o p in
      subst P (sym e) (subst Q (sym f) (go o p a keeps)) where
        go : (o : Option (HeldArray B)) (p : Option Held) → Agrees meaning reads store o p → ((array : HeldArray B) (h : Held) → p ≡ Some h → IsHeld meaning reads store array h → IsHeld meaning reads store' array h) → Agrees meaning reads store' o p
        go None None a keeps = tt
        go None (Some x) a keeps = absurd a
        go (Some y) None a keeps = absurd a
        go (Some y) (Some x) a keeps = keeps y x refl a

  -- an array stays that of the world where what is stored for its chunks stays
  pub held_kept : (array : HeldArray B) (store store' : StoreMap) (h : Held) → IsHeld meaning reads store array h
      → ((chunk : List ℕ) → get store' (chunk_key h.path h.document.keys chunk) ≡ get store (chunk_key h.path h.document.keys chunk)) → IsHeld meaning reads store' array h
  held_kept array store store' h k chunks = record {
    node = k.node;
    path = k.path;
    tree = k.tree;
    document = k.document;
    order = k.order;
    says = k.says;
    exact = k.exact;
    table = table_kept h.path h.document store store' h.table chunks k.table;
  }

  -- ---- paths
  pub taken_in_world : (arrays : Arrays B) (store : StoreMap) (n : ℕ) (w : World) (path : List ℕ) → IsIn meaning reads (arrays, (store, n)) w → IsTakenIn arrays path → is_taken path w.arrays ≡ true
  taken_in_world arrays store n w path k t =
      let h = agreed_held store (array_at arrays t.other) (held_at t.other w.arrays) t.array (k.agree t.other) t.found in
      taken_by path t.other w.arrays h.0 h.1 t.related

  pub unrelated_held : (arrays : Arrays B) (store : StoreMap) (n : ℕ) (w : World) (path : List ℕ) → IsIn meaning reads (arrays, (store, n)) w → IsFreeIn arrays path
      → (q : List ℕ) (h : Held) → held_at q w.arrays ≡ Some h → is_related path q ≡ false
  unrelated_held arrays store n w path k free q h e =
      let a = agreed_some store (array_at arrays q) (held_at q w.arrays) h (k.agree q) e in
      free q a.0 (ap is_node_path (held_at-path q w.arrays h e) ∙ a.2.node) a.1

  pub free_in_world : (arrays : Arrays B) (store : StoreMap) (n : ℕ) (w : World) (path : List ℕ) → IsIn meaning reads (arrays, (store, n)) w → IsFreeIn arrays path → is_taken path w.arrays ≡ false
  free_in_world arrays store n w path k free = free_from path w.arrays (unrelated_held arrays store n w path k free)

  pub node_in_world : (arrays : Arrays B) (store : StoreMap) (n : ℕ) (w : World) (q : List ℕ) (h : Held) → IsIn meaning reads (arrays, (store, n)) w → held_at q w.arrays ≡ Some h → IsTrue (is_node_path h.path)
  node_in_world arrays store n w q h k e = let a = agreed_some store (array_at arrays q) (held_at q w.arrays) h (k.agree q) e in a.2.node

  -- ---- a command that is refused before it changed anything
  pub in_refused : (old new : Arrays B) (store store' : StoreMap) (n n' : ℕ) (c : Cause) (w : World) → IsIn meaning reads (old, (store, n)) w → KeepsArrays old new → store' ≡ store → n' ≡ refused_after c n
      → IsIn meaning reads (new, (store', n')) (record w { refused = refused_after c w.refused })
  in_refused old new store store' n n' c w k keeps same calls = record {
    agree = λ path. agrees_kept store store' (array_at old path) (array_at new path) (held_at path w.arrays) (held_at path w.arrays) (keeps path) refl (k.agree path)
        (λ array h e held. held_kept array store store' h held (λ chunk. ap (λ (s : StoreMap). get s (chunk_key h.path h.document.keys chunk)) same));
    distinct = k.distinct;
    store = k.store ∙ sym same;
    refused = ap (refused_after c) k.refused ∙ sym calls;
  }

pub stays : (c : Cause) (w : World) → Stays c 0 w (record w { refused = refused_after c w.refused })
stays c w = record { applied = refl; is = refl; count = counts_refusal c w.refused }

-- ---- one key put
get-put : (m : StoreMap) (k v q : List ℕ) → get (insert m k v) q ≡ cond (bytes_eq q k) (Some v) (get m q)
get-put m k v q = get-insert nat_list_cmp_total m k v q ∙ ap (λ b. cond b (Some v) (get m q)) (is_eq-slice_cmp q k)

pub put_other : (m : StoreMap) (k v q : List ℕ) → (q ≡ k → ⊥) → get (insert m k v) q ≡ get m q
put_other m k v q ne = get-put m k v q ∙ cond-false (bytes_eq q k) (Some v) (get m q) (false_from_ne_true (bytes_eq q k) (λ t. ne ((bytes_eq-Decides q k).0 t)))

pub none_from : {A : Type 0} (o : Option A) → ((a : A) → o ≡ Some a → ⊥) → o ≡ None
none_from None f = refl
none_from (Some a) f = absurd (f a refl)
