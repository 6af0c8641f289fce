-- A reopening in a world.
use Rattle.std.proofs.Common.{◌≡◌, ◌≢◌, ◌∙◌, ℕ, List, [], ◌∷◌, ◌++◌, refl, sym, ap, subst, Bool, true, false, ◌||◌, IsTrue, IsSome, inl, inr, ⊎_elim, Option, Some, None, Result, Ok, Err, bytes_eq}
use Rattle.std.specs.FinMap.{get}
use Rattle.std.specs.Result.{OnOk, OnErr}
use Rattle.std.proofs.lemmas.Bool.{false≢true}
use Rattle.std.proofs.lemmas.Slice.Eq.{bytes_eq-Decides}
use Rattle.serde_json.specs.Data.{Data}
use Rattle.serde_json.specs.View.{view}
use Rattle.zarr_grids_keys.specs.Documents.{document_key}
use Rattle.zarr_grids_keys.specs.Paths.{is_node_path}
use Rattle.zarr_grids_keys.specs.declared.document_name.DocumentName.TheVariants.{ZarrJson, ZArray}
use Rattle.zarr_codecs_meaning.specs.Chains.{ByteCodec}
use Rattle.zarr_codecs_meaning.specs.Fits.{is_plain}
use Rattle.zarr_codecs_metadata.specs.Chains.{ReadsCodecs}
use Rattle.zarr_codecs_options.specs.declared.subchunk_write_order.SubchunkWriteOrder.{SubchunkWriteOrder}
use Rattle.zarr_array_meaning.specs.Documents.{Document}
use Rattle.zarr_array_meaning.specs.StoreMaps.{StoreMap}
use Rattle.zarr_run_meaning.specs.Steps.{Step, refused_after}
use Rattle.zarr_run_meaning.specs.Tables.{Table}
use Rattle.zarr_run_meaning.specs.Worlds.{Held, World, held_at, is_row_major, with_order, IsTableAt}
use Rattle.zarr_run_meaning.specs.declared.cause.Cause.{Cause}
use Rattle.zarr_run_meaning.specs.declared.cause.Cause.TheVariants as cause
use Rattle.zarr_run_meaning.proofs.FoundTables.{table_found}
use Rattle.zarr_grids_metadata.specs.Trees.{SameTree}
use Rattle.zarr_array_meaning.specs.Texts.{HasDocument, version_key}
use Rattle.zarr_run_meaning.specs.Causes.{ReopenRefuses, HasNoneAt, HasSomeAt, IsFoundIn, IsChunkKey, IsChunkKeyIn}
use Rattle.zarr_run_meaning.specs.Requests.{reopen, Answer, done, refused}
use Rattle.zarr_run_opening.specs.Arrays.{IsReordered, KeepsArrays, KeepsOtherArrays}
use Rattle.zarr_run_opening.specs.Calls.{refused_by}
use Rattle.zarr_run_opening.specs.ChunkKeys.{IsChunkKeyOf, HasNoneBeside, HasSomeBeside}
use Rattle.zarr_run_opening.specs.Reopenings.{HasSameDocument, ComparisonRefused, IsFoundBeside, IsOpenedFrom, OpeningRefused, Reopened}
use Rattle.zarr_run_opening.specs.Sessions.{Arrays, array_at, document_of, IsHeld, Agrees, IsIn, answer_of}
use Rattle.zarr_run_opening.specs.declared.held.HeldArray.{HeldArray}
use Rattle.zarr_run_opening.proofs.BeginLemmas.{in_begun}
use Rattle.zarr_run_opening.proofs.HoldsLemmas.{agreed_held, agreed_some, agreed_none, agrees_some, agrees_kept, in_refused, stays}
use Rattle.zarr_run_opening.proofs.WorldLemmas.{ordered, held_at-path, held_at-ordered, held_at-unordered, distinct-ordered}

-- what a reopening of a node path found and left
pub record Reopens {B : Type 0} (meaning : B → ByteCodec) (reads : ReadsCodecs) (path : List ℕ) (order : SubchunkWriteOrder) (old new : Arrays B) (store store' : StoreMap) (n n' : ℕ) (r : Result (Unit {0}) Cause) : Type 0 where
  pub node : IsTrue (is_node_path path)
  pub others : OnOk r (KeepsOtherArrays path old new)
  pub keeps : OnErr r (KeepsArrays old new)
  pub same : store' ≡ store
  pub calls : n' ≡ refused_by n r

-- a step to a world that a state is in
abbrev pub StepsTo : {B : Type 0} → (B → ByteCodec) → ReadsCodecs → World → List ℕ → SubchunkWriteOrder → Answer → Arrays B → StoreMap → ℕ → Type 0
StepsTo meaning reads before path order answer new store n = (after : World) × Step reads before (reopen path order) answer after × IsIn meaning reads (new, (store, n)) after

-- a reopening of a text that is no node path
pub no_node : {B : Type 0} (meaning : B → ByteCodec) (reads : ReadsCodecs) (path : List ℕ) (order : SubchunkWriteOrder) (old : Arrays B) (store : StoreMap) (n : ℕ) (w : World) → IsIn meaning reads (old, (store, n)) w → is_node_path path ≡ false
    → StepsTo meaning reads w path order (refused cause.Path 0) old store n
no_node {B} meaning reads path order old store n w k bad = (record w { refused = w.refused }, (bad, stays cause.Path w), in_refused B meaning reads old old store store n n cause.Path w k (λ q. refl) refl refl)

module _ (B : Type 0) (meaning : B → ByteCodec) (reads : ReadsCodecs) (path : List ℕ) (order : SubchunkWriteOrder) (old new : Arrays B) (store : StoreMap) (n : ℕ) (w : World) (k : IsIn meaning reads (old, (store, n)) w) (node : IsTrue (is_node_path path)) where
  refused_by_cause : (found : Option Held) (c : Cause) → held_at path w.arrays ≡ found → (ReopenRefuses reads w path found c) → Step reads w (reopen path order) (refused c 0) (record w { refused = refused_after c w.refused })
  refused_by_cause None cause.Path e why = absurd why
  refused_by_cause (Some h) cause.Path e why = absurd why
  refused_by_cause found cause.PathTaken e why = let P : Option Held → Type 0 = λ o. ReopenRefuses reads w path o cause.PathTaken in (node, (subst P (sym e) why, stays cause.PathTaken w))
  refused_by_cause found cause.NoArray e why = let P : Option Held → Type 0 = λ o. ReopenRefuses reads w path o cause.NoArray in (node, (subst P (sym e) why, stays cause.NoArray w))
  refused_by_cause found cause.Document e why = let P : Option Held → Type 0 = λ o. ReopenRefuses reads w path o cause.Document in (node, (subst P (sym e) why, stays cause.Document w))
  refused_by_cause found cause.Region e why = let P : Option Held → Type 0 = λ o. ReopenRefuses reads w path o cause.Region in (node, (subst P (sym e) why, stays cause.Region w))
  refused_by_cause found cause.Data e why = let P : Option Held → Type 0 = λ o. ReopenRefuses reads w path o cause.Data in (node, (subst P (sym e) why, stays cause.Data w))
  refused_by_cause found cause.Size e why = let P : Option Held → Type 0 = λ o. ReopenRefuses reads w path o cause.Size in (node, (subst P (sym e) why, stays cause.Size w))
  refused_by_cause found cause.Fit e why = let P : Option Held → Type 0 = λ o. ReopenRefuses reads w path o cause.Fit in (node, (subst P (sym e) why, stays cause.Fit w))
  refused_by_cause found cause.Codec e why = let P : Option Held → Type 0 = λ o. ReopenRefuses reads w path o cause.Codec in (node, (subst P (sym e) why, stays cause.Codec w))
  refused_by_cause found cause.Store e why = let P : Option Held → Type 0 = λ o. ReopenRefuses reads w path o cause.Store in (node, (subst P (sym e) why, stays cause.Store w))
  refused_by_cause found cause.Damage e why = let P : Option Held → Type 0 = λ o. ReopenRefuses reads w path o cause.Damage in (node, (subst P (sym e) why, stays cause.Damage w))
  refused_by_cause found cause.Memory e why = let P : Option Held → Type 0 = λ o. ReopenRefuses reads w path o cause.Memory in inr (node, (subst P (sym e) why, stays cause.Memory w))
  refused_by_cause found cause.DocumentChanged e why = let P : Option Held → Type 0 = λ o. ReopenRefuses reads w path o cause.DocumentChanged in (node, (subst P (sym e) why, stays cause.DocumentChanged w))

  -- ---- an array that is held
  module _ (array : HeldArray B) (there : array_at old path ≡ Some array) where
    h : (h : Held) × (held_at path w.arrays ≡ Some h) × IsHeld meaning reads store array h
    h = agreed_held B meaning reads store (array_at old path) (held_at path w.arrays) array (k.agree path) there

    document_there : (tree : Data) → HasDocument path tree w.store → HasDocument path tree store
    document_there tree d = let P : StoreMap → Type 0 = λ (s : StoreMap). HasDocument path tree s in subst P k.store d

    comparison_refused : (c : Cause) → ComparisonRefused path array store c → Step reads w (reopen path order) (refused c 0) (record w { refused = refused_after c w.refused })
    comparison_refused cause.DocumentChanged why = refused_by_cause (Some h.0) cause.DocumentChanged h.1
        (λ tree d same. let P : Data → Type 0 = λ t. SameTree tree t in why tree (document_there tree d) (subst P h.2.tree same))
    comparison_refused cause.Store why = refused_by_cause (Some h.0) cause.Store h.1 tt
    comparison_refused cause.Memory why = inl (stays cause.Memory w)
    comparison_refused cause.Path why = absurd why
    comparison_refused cause.PathTaken why = absurd why
    comparison_refused cause.NoArray why = absurd why
    comparison_refused cause.Document why = absurd why
    comparison_refused cause.Region why = absurd why
    comparison_refused cause.Data why = absurd why
    comparison_refused cause.Size why = absurd why
    comparison_refused cause.Fit why = absurd why
    comparison_refused cause.Codec why = absurd why
    comparison_refused cause.Damage why = absurd why

    module _ (reordered : HeldArray B) (gets : IsReordered meaning order array reordered) (is : array_at new path ≡ Some reordered) (others : KeepsOtherArrays path old new) where
      held_ordered : IsHeld meaning reads store reordered (ordered order h.0)
      held_ordered =
          let a = h.2 in
          let document : h.0.document ≡ document_of meaning reordered = a.document ∙ sym gets.document in
          let P : Document → Type 0 = λ d. IsTrue (is_plain d.chain || is_row_major order) in
          record {
            node = a.node;
            path = a.path ∙ sym gets.path;
            tree = a.tree ∙ ap view (sym gets.tree);
            document = document;
            order = sym gets.order_is;
            says = a.says;
            exact = λ t. gets.exact (subst P document t);
            table = a.table;
          }

      agree_next : (q : List ℕ) (b : Bool) → bytes_eq q path ≡ b → Agrees meaning reads store (array_at new q) (held_at q (with_order path order w.arrays))
      agree_next q true t =
          let P : List ℕ → Type 0 = λ q. Agrees meaning reads store (array_at new q) (held_at q (with_order path order w.arrays)) in
          subst P (sym ((bytes_eq-Decides q path).0 t))
          (agrees_some B meaning reads store (array_at new path) (held_at path (with_order path order w.arrays)) reordered (ordered order h.0) is (held_at-ordered path order w.arrays h.0 h.1) held_ordered)
      agree_next q false t =
          let ne : q ≢ path = λ e. false≢true (sym t ∙ (bytes_eq-Decides q path).1 e) in
          agrees_kept B meaning reads store store (array_at old q) (array_at new q) (held_at q w.arrays) (held_at q (with_order path order w.arrays)) (others q ne) (held_at-unordered path q order w.arrays ne) (k.agree q) (λ a x e held. held)

      pub gets_order : HasSameDocument path array store → StepsTo meaning reads w path order done new store n
      gets_order same =
          let P : StoreMap → Type 0 = λ (s : StoreMap). HasDocument path same.0 s in
          let Q : Data → Type 0 = λ t. SameTree same.0 t in (
            record w { arrays = with_order path order w.arrays },
            (
              inl (record {
                node = node;
                held = h.0;
                found = h.1;
                tree = same.0;
                stored = subst P (sym k.store) same.1;
                same = subst Q (sym h.2.tree) same.2;
                updates = refl;
                stores = refl;
              }),
              refl,
            ),
            record { agree = λ q. agree_next q (bytes_eq q path) refl; distinct = distinct-ordered path order w.arrays k.distinct; store = k.store; refused = k.refused },
          )

  -- ---- an array that is not held
  module _ (none : array_at old path ≡ None) where
    free : held_at path w.arrays ≡ None
    free = agreed_none B meaning reads store (array_at old path) (held_at path w.arrays) (k.agree path) none

    -- the keys of chunks of held arrays are those of the world's
    in_world : (key : List ℕ) → IsChunkKeyOf meaning old key → IsChunkKeyIn w.arrays key
    in_world key c =
        let a = agreed_held B meaning reads store (array_at old c.path) (held_at c.path w.arrays) c.at.array (k.agree c.path) c.at.found in
        let at : c.path ≡ a.0.path = held_at-path c.path w.arrays a.0 a.1 in
        let P : List ℕ → Type 0 = λ p. held_at p w.arrays ≡ Some a.0 in
        let Q : List ℕ → Type 0 = λ p. IsChunkKey p (document_of meaning c.at.array) key in
        let R : Document → Type 0 = λ d. IsChunkKey a.0.path d key in
        record { held = a.0; found = subst P at a.1; names = subst R (sym a.2.document) (subst Q at c.at.names) }

    of_world : (key : List ℕ) → IsChunkKeyIn w.arrays key → IsChunkKeyOf meaning old key
    of_world key c =
        let a = agreed_some B meaning reads store (array_at old c.held.path) (held_at c.held.path w.arrays) c.held (k.agree c.held.path) c.found in
        let R : Document → Type 0 = λ d. IsChunkKey c.held.path d key in
        record { path = c.held.path; node = a.2.node; at = record { array = a.0; found = a.1; names = subst R a.2.document c.names } }

    abbrev IsChunk : List ℕ → Type 0
    IsChunk = IsChunkKeyOf meaning old

    none_in_world : (key : List ℕ) → HasNoneBeside IsChunk store key → HasNoneAt w.arrays w.store key
    none_in_world key n = ⊎_elim (λ e. inl (ap (λ (s : StoreMap). get s key) k.store ∙ e)) (λ c. inr (in_world key c)) n

    none_of_world : (key : List ℕ) → HasNoneAt w.arrays w.store key → HasNoneBeside IsChunk store key
    none_of_world key n = ⊎_elim (λ e. inl (ap (λ (s : StoreMap). get s key) (sym k.store) ∙ e)) (λ c. inr (of_world key c)) n

    some_in_world : (key : List ℕ) → HasSomeBeside IsChunk store key → HasSomeAt w.arrays w.store key
    some_in_world key s = let P : StoreMap → Type 0 = λ (s : StoreMap). IsSome (get s key) in (subst P (sym k.store) s.0, λ c. s.1 (of_world key c))

    -- the document that the path has is the one that it has in the world
    found_in_world : (tree : Data) → IsFoundBeside IsChunk path tree store → IsFoundIn w.arrays path tree w.store
    found_in_world tree f =
        let P : StoreMap → Type 0 = λ (s : StoreMap). HasDocument path tree s in
        record { stored = subst P (sym k.store) f.stored; other = λ c. f.other (of_world (version_key path tree) c); first = λ v. none_in_world (document_key path ZarrJson) (f.first v) }

    found_of_world : (tree : Data) → IsFoundIn w.arrays path tree w.store → IsFoundBeside IsChunk path tree store
    found_of_world tree f =
        let P : StoreMap → Type 0 = λ (s : StoreMap). HasDocument path tree s in
        record { stored = subst P k.store f.stored; other = λ c. f.other (in_world (version_key path tree) c); first = λ v. none_of_world (document_key path ZarrJson) (f.first v) }

    document_in_world : OpeningRefused IsChunk reads path store cause.Document → ReopenRefuses reads w path None cause.Document
    document_in_world why = record {
      some = ⊎_elim (λ s. inl (some_in_world (document_key path ZarrJson) s)) (λ s. inr (some_in_world (document_key path ZArray) s)) why.some;
      none = λ tree f. why.none tree (found_of_world tree f);
    }

    opening_refused : (c : Cause) → OpeningRefused IsChunk reads path store c → Step reads w (reopen path order) (refused c 0) (record w { refused = refused_after c w.refused })
    opening_refused cause.NoArray why = refused_by_cause None cause.NoArray free (none_in_world (document_key path ZarrJson) why.0, none_in_world (document_key path ZArray) why.1)
    opening_refused cause.Document why = refused_by_cause None cause.Document free (document_in_world why)
    opening_refused cause.Store why = refused_by_cause None cause.Store free tt
    opening_refused cause.Memory why = inl (stays cause.Memory w)
    opening_refused cause.Path why = absurd why
    opening_refused cause.PathTaken why = absurd why
    opening_refused cause.Region why = absurd why
    opening_refused cause.Data why = absurd why
    opening_refused cause.Size why = absurd why
    opening_refused cause.Fit why = absurd why
    opening_refused cause.Codec why = absurd why
    opening_refused cause.Damage why = absurd why
    opening_refused cause.DocumentChanged why = absurd why

    module _ (array : HeldArray B) (is : array_at new path ≡ Some array) (from : IsOpenedFrom (meaning, reads) (record { path = path; order = order; arrays = old; store = store }) array) (others : KeepsOtherArrays path old new) where
      abbrev document : Document
      document = document_of meaning array

      abbrev found : (table : Table) × IsTableAt path document store table
      found = let t = table_found path document store in (t.0, t.1)

      abbrev begun : Held
      begun = record { path = path; tree = from.tree; document = document; order = order; table = found.0 }

      pub opened : StepsTo meaning reads w path order done new store n
      opened =
          let Q : StoreMap → Type 0 = λ (s : StoreMap). IsTableAt path document s found.0 in (
            record { arrays = w.arrays ++ begun ∷ []; store = store; refused = n },
            (
              inr (record {
                node = node;
                tree = from.tree;
                found = found_in_world from.tree from.found;
                meaning = document;
                opens = from.opened.says;
                table = found.0;
                begins = record { free = free; shows = subst Q (sym k.store) found.1; holds = refl };
                stores = sym k.store;
              }),
              sym k.refused,
            ),
            in_begun B meaning reads path from.tree order old new store store n w k array from.opened found.0 found.1 node free is others (λ a q h e held. held),
          )

steps_held : (B : Type 0) (meaning : B → ByteCodec) (reads : ReadsCodecs) (path : List ℕ) (order : SubchunkWriteOrder) (old new : Arrays B) (store : StoreMap) (n n' : ℕ) (r : Result (Unit {0}) Cause) → Reopens meaning reads path order old new store store n n' r
    → (o : Option (HeldArray B)) → array_at old path ≡ o → Reopened (meaning, reads) (record { path = path; order = order; arrays = old; store = store }) o r new → (w : World) → IsIn meaning reads (old, (store, n)) w → StepsTo meaning reads w path order (answer_of r) new store n'
steps_held B meaning reads path order old new store n n' (Ok x) c (Some array) e is w k =
    let P : ℕ → Type 0 = λ m. StepsTo meaning reads w path order done new store m in
    subst P (sym c.calls) (gets_order B meaning reads path order old new store n w k c.node array e is.1.0 is.1.2 is.1.1 c.others is.0)
steps_held B meaning reads path order old new store n n' (Ok x) c None e is w k =
    let P : ℕ → Type 0 = λ m. StepsTo meaning reads w path order done new store m in
    subst P (sym c.calls) (opened B meaning reads path order old new store n w k c.node e is.0 is.1 is.2 c.others)
steps_held B meaning reads path order old new store n n' (Err f) c (Some array) e is w k = (
  record w { refused = refused_after f w.refused },
  comparison_refused B meaning reads path order old new store n w k c.node array e f is,
  in_refused B meaning reads old new store store n n' f w k c.keeps refl c.calls,
)
steps_held B meaning reads path order old new store n n' (Err f) c None e is w k = (
  record w { refused = refused_after f w.refused },
  opening_refused B meaning reads path order old new store n w k c.node e f is,
  in_refused B meaning reads old new store store n n' f w k c.keeps refl c.calls,
)

-- what a reopening found and left is a step in each world
pub reopen_steps : {B : Type 0} (meaning : B → ByteCodec) (reads : ReadsCodecs) (path : List ℕ) (order : SubchunkWriteOrder) (old new : Arrays B) (store store' : StoreMap) (n n' : ℕ) (r : Result (Unit {0}) Cause) → Reopens meaning reads path order old new store store' n n' r
    → Reopened (meaning, reads) (record { path = path; order = order; arrays = old; store = store }) (array_at old path) r new → (w : World) → IsIn meaning reads (old, (store, n)) w → StepsTo meaning reads w path order (answer_of r) new store' n'
reopen_steps {B} meaning reads path order old new store store' n n' r c is w k =
    let P : StoreMap → Type 0 = λ (s : StoreMap). StepsTo meaning reads w path order (answer_of r) new s n' in
    subst P (sym c.same) (steps_held B meaning reads path order old new store n n' r (record { node = c.node; others = c.others; keeps = c.keeps; same = refl; calls = c.calls }) (array_at old path) refl is w k)
