-- The arrays of a world: what is held at a path, and which paths are taken.
use Rattle.std.proofs.Common.{◌≡◌, ◌≢◌, ◌∙◌, ◌⊎◌, inl, inr, ⊎_elim, ℕ, List, [], ◌∷◌, ◌++◌, refl, sym, ap, subst, Bool, true, false, ◌||◌, IsTrue, Option, Some, None, if◌then◌else◌, bytes_eq}
use Rattle.std.proofs.lemmas.Bool.{false≢true, or_left, or_right, or_from, or_parts, false_from_ne_true, MatchBool-at_true, MatchBool-at_false}
use Rattle.std.proofs.lemmas.Option.{none-some, same_Some}
use Rattle.std.proofs.lemmas.Slice.Eq.{bytes_eq-Decides}
use Rattle.zarr_grids_keys.specs.Paths.{is_node_path}
use Rattle.zarr_grids_keys.specs.Related.{is_related}
use Rattle.zarr_grids_keys.proofs.RelatedLemmas.{is_related-comm, is_related-refl}
use Rattle.zarr_grids_chunks.proofs.Filters.{told}
use Rattle.zarr_codecs_options.specs.declared.subchunk_write_order.SubchunkWriteOrder.{SubchunkWriteOrder}
use Rattle.zarr_array_meaning.specs.StoreMaps.{StoreMap}
use Rattle.zarr_run_meaning.specs.Sound.{AreApart}
use Rattle.zarr_run_meaning.specs.Tables.{Table}
use Rattle.zarr_run_meaning.specs.Worlds.{Held, held_at, is_taken, with_order, IsTableAt, StaysBut, WithTable}

-- ---- what is held at a path

-- each array that is held stands at a node path
abbrev pub AreNodes : List Held → Type 0
AreNodes arrays = (q : List ℕ) (g : Held) → held_at q arrays ≡ Some g → is_node_path g.path ≡ true

same_path : (p q : List ℕ) → p ≡ q → bytes_eq p q ≡ true
same_path p q e = (bytes_eq-Decides p q).1 e

other_path : (p q : List ℕ) → p ≢ q → bytes_eq p q ≡ false
other_path p q ne = false_from_ne_true (bytes_eq p q) (λ t. ne ((bytes_eq-Decides p q).0 t))

pub held_at-first : (p : List ℕ) (x : Held) (w : List Held) → p ≡ x.path → held_at p (x ∷ w) ≡ Some x
held_at-first p x w e = ap (λ b. if b then Some x else held_at p w) (same_path p x.path e)

pub held_at-later : (p : List ℕ) (x : Held) (w : List Held) → p ≢ x.path → held_at p (x ∷ w) ≡ held_at p w
held_at-later p x w ne = ap (λ b. if b then Some x else held_at p w) (other_path p x.path ne)

-- the first array is the one that is held at the path, or a later one is
pub held_at-cases : (Q : Held → Type 0) (p : List ℕ) (x : Held) (w : List Held) (h : Held) → held_at p (x ∷ w) ≡ Some h → (p ≡ x.path → Q x) → (p ≢ x.path → held_at p w ≡ Some h → Q h) → Q h
held_at-cases Q p x w h e here later = go (bytes_eq p x.path) refl e where
  go : (b : Bool) → bytes_eq p x.path ≡ b → (if b then Some x else held_at p w) ≡ Some h → Q h
  go true t f = let same : x ≡ h = cc in subst Q same (here ((bytes_eq-Decides p x.path).0 t))
  go false t f = later (λ same. false≢true (sym t ∙ same_path p x.path same)) f

-- an array that is held at a path has that path
pub held_at-path : (p : List ℕ) (w : List Held) (h : Held) → held_at p w ≡ Some h → p ≡ h.path
held_at-path p [] h e = absurd (cc)
held_at-path p (x ∷ w) h e = let Q : Held → Type 0 = λ h. p ≡ h.path in held_at-cases Q p x w h e (λ same. same) (λ ne f. held_at-path p w h f)

-- the arrays that are held at two equal paths are one
pub held_once : (p q : List ℕ) (w : List Held) (g h : Held) → held_at p w ≡ Some g → held_at q w ≡ Some h → p ≡ q → g ≡ h
held_once p q w g h e f same = same_Some g h (sym e ∙ ap (λ r. held_at r w) same ∙ f)

-- an array that is held at a path is held at its own
pub held_own : (p : List ℕ) (w : List Held) (h : Held) → held_at p w ≡ Some h → held_at h.path w ≡ Some h
held_own p w h e = ap (λ q. held_at q w) (sym (held_at-path p w h e)) ∙ e

-- ---- which paths are taken

pub taken_by : (p q : List ℕ) (w : List Held) (h : Held) → held_at q w ≡ Some h → IsTrue (is_related p q) → is_taken p w ≡ true
taken_by p q [] h e r = absurd (cc)
taken_by p q (x ∷ w) h e r =
    let Q : Held → Type 0 = λ h. is_taken p (x ∷ w) ≡ true in
    held_at-cases Q q x w h e
    (λ same. let P : List ℕ → Type 0 = λ q. is_related p q ≡ true in or_left (is_related p x.path) (is_taken p w) (subst P same r))
    (λ ne f. or_right (is_related p x.path) (is_taken p w) (taken_by p q w h f r))

-- a path that is not taken is unrelated to that of each array
pub free_of : (p q : List ℕ) (w : List Held) (h : Held) → is_taken p w ≡ false → held_at q w ≡ Some h → is_related p h.path ≡ false
free_of p q w h free e = false_from_ne_true (is_related p h.path) (λ r. false≢true (sym free ∙ taken_by p h.path w h (held_own q w h e) r))

-- no array is held at a path that is not taken
pub free_none : (p : List ℕ) (w : List Held) → is_taken p w ≡ false → held_at p w ≡ None
free_none p w free = go (held_at p w) refl where
  go : (o : Option Held) → held_at p w ≡ o → o ≡ None
  go None e = refl
  go (Some h) e = absurd (false≢true (sym free ∙ taken_by p p w h e (is_related-refl p)))

-- arrays at two paths are at unrelated ones, where they are apart
pub unrelated_paths : (w : List Held) (p q : List ℕ) (g h : Held) → AreApart w → held_at p w ≡ Some g → held_at q w ≡ Some h → p ≢ q → is_related g.path h.path ≡ false
unrelated_paths [] p q g h a e f ne = absurd (cc)
unrelated_paths (x ∷ w) p q g h a e f ne = go (bytes_eq p x.path) (bytes_eq q x.path) (λ i j. unrelated_paths w p q g h a.1 i j ne) refl refl e f where
  go : (b c : Bool) → (held_at p w ≡ Some g → held_at q w ≡ Some h → is_related g.path h.path ≡ false) → bytes_eq p x.path ≡ b → bytes_eq q x.path ≡ c → (if b then Some x else held_at p w) ≡ Some g → (if c then Some x else held_at q w) ≡ Some h → is_related g.path h.path ≡ false
  go true true more s t i j = absurd (ne ((bytes_eq-Decides p x.path).0 s ∙ sym ((bytes_eq-Decides q x.path).0 t)))
  go true false more s t i j = let same : x ≡ g = cc in sym (ap (λ (y : Held). is_related y.path h.path) same) ∙ free_of x.path q w h a.0 j
  go false true more s t i j = let same : x ≡ h = cc in is_related-comm g.path h.path ∙ sym (ap (λ (y : Held). is_related y.path g.path) same) ∙ free_of x.path p w g a.0 i
  go false false more s t i j = more i j

-- a path that is unrelated to that of each array is not taken
pub free_from : (p : List ℕ) (w : List Held) → AreApart w → ((q : List ℕ) (g : Held) → held_at q w ≡ Some g → is_related p g.path ≡ false) → is_taken p w ≡ false
free_from p [] a away = refl
free_from p (x ∷ w) a away = or_from (is_related p x.path) (is_taken p w) (away x.path x (held_at-first x.path x w refl)) (free_from p w a.1 (λ q g at. away q g (later q g at))) where
  later : (q : List ℕ) (g : Held) → held_at q w ≡ Some g → held_at q (x ∷ w) ≡ Some g
  later q g at = held_at-later q x w (λ same. none-some g (sym (ap (λ r. held_at r w) same ∙ free_none x.path w a.0) ∙ at)) ∙ at

-- ---- a new array

pub held_at-before : (p : List ℕ) (w : List Held) (b h : Held) → held_at p w ≡ Some h → held_at p (w ++ b ∷ []) ≡ Some h
held_at-before p [] b h e = absurd (cc)
held_at-before p (x ∷ w) b h e = go (bytes_eq p x.path) (held_at-before p w b h) e where
  go : (t : Bool) → (held_at p w ≡ Some h → held_at p (w ++ b ∷ []) ≡ Some h) → (if t then Some x else held_at p w) ≡ Some h → (if t then Some x else held_at p (w ++ b ∷ [])) ≡ Some h
  go true more f = f
  go false more f = more f

pub held_at-new : (p : List ℕ) (w : List Held) (b : Held) → held_at p w ≡ None → p ≡ b.path → held_at p (w ++ b ∷ []) ≡ Some b
held_at-new p [] b e same = held_at-first p b [] same
held_at-new p (x ∷ w) b e same = go (bytes_eq p x.path) (λ f. held_at-new p w b f same) e where
  go : (t : Bool) → (held_at p w ≡ None → held_at p (w ++ b ∷ []) ≡ Some b) → (if t then Some x else held_at p w) ≡ None → (if t then Some x else held_at p (w ++ b ∷ [])) ≡ Some b
  go true more f = absurd (cc)
  go false more f = more f

pub held_at-others : (p : List ℕ) (w : List Held) (b : Held) → p ≢ b.path → held_at p (w ++ b ∷ []) ≡ held_at p w
held_at-others p [] b ne = held_at-later p b [] ne
held_at-others p (x ∷ w) b ne = ap (λ o. if bytes_eq p x.path then Some x else o) (held_at-others p w b ne)

-- an array that is held afterwards is the new one, or was held before
pub held_at-more : (p : List ℕ) (w : List Held) (b h : Held) → held_at b.path w ≡ None → held_at p (w ++ b ∷ []) ≡ Some h → (h ≡ b) ⊎ (held_at p w ≡ Some h)
held_at-more p w b h none e = ⊎_elim
    (λ t. let same = (bytes_eq-Decides p b.path).0 t in inl (same_Some h b (sym e ∙ held_at-new p w b (ap (λ q. held_at q w) same ∙ none) same)))
    (λ t. inr (sym (held_at-others p w b (λ s. false≢true (sym t ∙ same_path p b.path s))) ∙ e))
    (told (bytes_eq p b.path))

free_more : (p : List ℕ) (w : List Held) (b : Held) → is_taken p w ≡ false → is_related p b.path ≡ false → is_taken p (w ++ b ∷ []) ≡ false
free_more p [] b f r = or_from (is_related p b.path) false r refl
free_more p (x ∷ w) b f r = let parts = or_parts (is_related p x.path) (is_taken p w) f in or_from (is_related p x.path) (is_taken p (w ++ b ∷ [])) parts.0 (free_more p w b parts.1 r)

pub apart_more : (w : List Held) (b : Held) → AreApart w → is_taken b.path w ≡ false → AreApart (w ++ b ∷ [])
apart_more [] b a f = (refl, tt)
apart_more (x ∷ w) b a f =
    let parts = or_parts (is_related b.path x.path) (is_taken b.path w) f in
    (free_more x.path w b a.0 (is_related-comm x.path b.path ∙ parts.0), apart_more w b a.1 parts.1)

-- ---- another write order

taken-ordered : (p q : List ℕ) (order : SubchunkWriteOrder) (w : List Held) → is_taken q (with_order p order w) ≡ is_taken q w
taken-ordered p q order [] = refl
taken-ordered p q order (x ∷ w) = go (bytes_eq p x.path) (taken-ordered p q order w) where
  go : (t : Bool) → is_taken q (with_order p order w) ≡ is_taken q w → is_taken q (if t then record x { order = order } ∷ w else x ∷ with_order p order w) ≡ is_taken q (x ∷ w)
  go true more = refl
  go false more = ap (λ b. is_related q x.path || b) more

pub apart_ordered : (p : List ℕ) (order : SubchunkWriteOrder) (w : List Held) → AreApart w → AreApart (with_order p order w)
apart_ordered p order [] a = tt
apart_ordered p order (x ∷ w) a = go (bytes_eq p x.path) (apart_ordered p order w a.1) where
  go : (t : Bool) → AreApart (with_order p order w) → AreApart (if t then record x { order = order } ∷ w else x ∷ with_order p order w)
  go true more = a
  go false more = (taken-ordered p x.path order w ∙ a.0, more)

-- the array that is held at a path afterwards is the one from before, with the same order or the new one
abbrev pub Was : SubchunkWriteOrder → Option Held → Held → Type 0
Was order o h = (g : Held) × (o ≡ Some g) × ((h ≡ g) ⊎ (h ≡ record g { order = order }))

pub held_at-ordered : (p q : List ℕ) (order : SubchunkWriteOrder) (w : List Held) (h : Held) → held_at q (with_order p order w) ≡ Some h → Was order (held_at q w) h
held_at-ordered p q order [] h e = absurd (cc)
held_at-ordered p q order (x ∷ w) h e = go (bytes_eq p x.path) (held_at-ordered p q order w h) e where
  first : (b : Bool) → (if b then Some (record x { order = order }) else held_at q w) ≡ Some h → Was order (if b then Some x else held_at q w) h
  first true f = (x, refl, inr (same_Some h (record x { order = order }) (sym f)))
  first false f = (h, f, inl refl)

  other : (b : Bool) → (held_at q (with_order p order w) ≡ Some h → Was order (held_at q w) h) → (if b then Some x else held_at q (with_order p order w)) ≡ Some h → Was order (if b then Some x else held_at q w) h
  other true more f = (x, refl, inl (same_Some h x (sym f)))
  other false more f = more f

  go : (t : Bool) → (held_at q (with_order p order w) ≡ Some h → Was order (held_at q w) h) → held_at q (if t then record x { order = order } ∷ w else x ∷ with_order p order w) ≡ Some h → Was order (held_at q (x ∷ w)) h
  go true more f = first (bytes_eq q x.path) f
  go false more f = other (bytes_eq q x.path) more f

-- and the other way round
abbrev pub Becomes : SubchunkWriteOrder → Held → Option Held → Type 0
Becomes order g o = (h : Held) × (o ≡ Some h) × ((h ≡ g) ⊎ (h ≡ record g { order = order }))

pub held_at-reordered : (p q : List ℕ) (order : SubchunkWriteOrder) (w : List Held) (g : Held) → held_at q w ≡ Some g → Becomes order g (held_at q (with_order p order w))
held_at-reordered p q order [] g e = absurd (cc)
held_at-reordered p q order (x ∷ w) g e = go (bytes_eq p x.path) (held_at-reordered p q order w g) where
  first : (b : Bool) → (if b then Some x else held_at q w) ≡ Some g → Becomes order g (if b then Some (record x { order = order }) else held_at q w)
  first true f = (record x { order = order }, refl, inr (ap (λ (y : Held). record y { order = order }) (same_Some x g f)))
  first false f = (g, f, inl refl)

  other : (b : Bool) → (held_at q w ≡ Some g → Becomes order g (held_at q (with_order p order w))) → (if b then Some x else held_at q w) ≡ Some g → Becomes order g (if b then Some x else held_at q (with_order p order w))
  other true more f = (x, refl, inl (same_Some x g f))
  other false more f = more f

  go : (t : Bool) → (held_at q w ≡ Some g → Becomes order g (held_at q (with_order p order w))) → Becomes order g (held_at q (if t then record x { order = order } ∷ w else x ∷ with_order p order w))
  go true more = first (bytes_eq q x.path) e
  go false more = other (bytes_eq q x.path) more e

-- ---- another table

-- how an array stays but for a table
pub data Stayed (p : List ℕ) (t : Table) (store : StoreMap) (old new : Held) : Type 0 where
  -- it is the one at the path
  at_path : p ≡ old.path → new ≡ record old { table = t } → Stayed p t store old new
  -- it is at another path that is related
  near : p ≢ old.path → is_related p old.path ≡ true → new ≡ record old { table = new.table } → IsTableAt old.path old.document store new.table → Stayed p t store old new
  -- it is at an unrelated path
  apart : is_related p old.path ≡ false → new ≡ old → Stayed p t store old new

pub stayed : (p : List ℕ) (t : Table) (store : StoreMap) (old new : Held) → StaysBut p t store old new → Stayed p t store old new
stayed p t store old new s = ⊎_elim here elsewhere (told (bytes_eq p old.path)) where
  here : bytes_eq p old.path ≡ true → Stayed p t store old new
  here e = at_path ((bytes_eq-Decides p old.path).0 e) (MatchBool-at_true _ _ e s)

  elsewhere : bytes_eq p old.path ≡ false → Stayed p t store old new
  elsewhere e =
      let rest = MatchBool-at_false _ _ e s in
      let ne : p ≢ old.path = λ same. false≢true (sym e ∙ same_path p old.path same) in
      ⊎_elim
      (λ r. let both = MatchBool-at_true _ _ r rest in near ne r both.0 both.1)
      (λ r. apart r (MatchBool-at_false _ _ r rest))
      (told (is_related p old.path))

pub stayed_path : (p : List ℕ) (t : Table) (store : StoreMap) (old new : Held) → Stayed p t store old new → new.path ≡ old.path
stayed_path p t store old new (at_path e is) = ap (λ (h : Held). h.path) is
stayed_path p t store old new (near ne r is shows) = ap (λ (h : Held). h.path) is
stayed_path p t store old new (apart r is) = ap (λ (h : Held). h.path) is

pub held_before : (p : List ℕ) (t : Table) (store : StoreMap) (olds news : List Held) → WithTable p t store olds news → (q : List ℕ) (h : Held) → held_at q news ≡ Some h → (g : Held) × (held_at q olds ≡ Some g) × Stayed p t store g h
held_before p t store [] [] w q h e = absurd (cc)
held_before p t store [] (x ∷ news) w q h e = absurd w
held_before p t store (g ∷ olds) [] w q h e = absurd w
held_before p t store (g ∷ olds) (x ∷ news) w q h e =
    let s = stayed p t store g x w.0 in
    go s (bytes_eq q g.path) (held_before p t store olds news w.1 q h) (ap (λ r. if bytes_eq q r then Some x else held_at q news) (sym (stayed_path p t store g x s)) ∙ e) where
      go : Stayed p t store g x → (b : Bool) → (held_at q news ≡ Some h → (g : Held) × (held_at q olds ≡ Some g) × Stayed p t store g h) → (if b then Some x else held_at q news) ≡ Some h
          → (o : Held) × ((if b then Some g else held_at q olds) ≡ Some o) × Stayed p t store o h
      go s true more f = let P : Held → Type 0 = λ y. Stayed p t store g y in (g, refl, subst P (same_Some x h f) s)
      go s false more f = more f

pub held_after : (p : List ℕ) (t : Table) (store : StoreMap) (olds news : List Held) → WithTable p t store olds news → (q : List ℕ) (g : Held) → held_at q olds ≡ Some g → (h : Held) × (held_at q news ≡ Some h) × Stayed p t store g h
held_after p t store [] [] w q g e = absurd (cc)
held_after p t store [] (x ∷ news) w q g e = absurd w
held_after p t store (o ∷ olds) [] w q g e = absurd w
held_after p t store (o ∷ olds) (x ∷ news) w q g e =
    let s = stayed p t store o x w.0 in
    let found = go s (bytes_eq q o.path) (held_after p t store olds news w.1 q g) e in
    (found.0, ap (λ r. if bytes_eq q r then Some x else held_at q news) (stayed_path p t store o x s) ∙ found.1, found.2) where
      go : Stayed p t store o x → (b : Bool) → (held_at q olds ≡ Some g → (h : Held) × (held_at q news ≡ Some h) × Stayed p t store g h) → (if b then Some o else held_at q olds) ≡ Some g
          → (h : Held) × ((if b then Some x else held_at q news) ≡ Some h) × Stayed p t store g h
      go s true more f = let P : Held → Type 0 = λ y. Stayed p t store y x in (x, refl, subst P (same_Some o g f) s)
      go s false more f = more f

taken_after : (p : List ℕ) (t : Table) (store : StoreMap) (olds news : List Held) → WithTable p t store olds news → (q : List ℕ) → is_taken q news ≡ is_taken q olds
taken_after p t store [] [] w q = refl
taken_after p t store [] (x ∷ news) w q = absurd w
taken_after p t store (g ∷ olds) [] w q = absurd w
taken_after p t store (g ∷ olds) (x ∷ news) w q =
    ap (λ r. is_related q r || is_taken q news) (stayed_path p t store g x (stayed p t store g x w.0)) ∙ ap (λ b. is_related q g.path || b) (taken_after p t store olds news w.1 q)

pub apart_after : (p : List ℕ) (t : Table) (store : StoreMap) (olds news : List Held) → WithTable p t store olds news → AreApart olds → AreApart news
apart_after p t store [] [] w a = tt
apart_after p t store [] (x ∷ news) w a = absurd w
apart_after p t store (g ∷ olds) [] w a = absurd w
apart_after p t store (g ∷ olds) (x ∷ news) w a = (
  ap (λ r. is_taken r news) (stayed_path p t store g x (stayed p t store g x w.0)) ∙ taken_after p t store olds news w.1 g.path ∙ a.0,
  apart_after p t store olds news w.1 a.1,
)
