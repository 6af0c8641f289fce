-- The arrays of a world: what is held at a path, which paths are taken, and that no path is that of two arrays.
use Rattle.std.proofs.Common.{◌≡◌, ◌≢◌, ◌∙◌, ℕ, List, [], ◌∷◌, ◌++◌, refl, sym, ap, subst, Bool, true, false, ◌||◌, IsTrue, Some, None, if◌then◌else◌, bytes_eq}
use Rattle.std.specs.List.{list_any}
use Rattle.std.proofs.lemmas.Bool.{false≢true, or_left, or_right, or_from, or_parts, false_from_ne_true}
use Rattle.std.proofs.lemmas.Slice.Eq.{bytes_eq-Decides}
use Rattle.zarr_grids_keys.specs.Related.{is_related}
use Rattle.zarr_codecs_options.specs.declared.subchunk_write_order.SubchunkWriteOrder.{SubchunkWriteOrder}
use Rattle.zarr_run_meaning.specs.Worlds.{Held, held_at, is_taken, with_order}
use Rattle.zarr_run_opening.specs.Sessions.{AreDistinct}

-- where no array is held at a path, or the first is that path's
same_path : (p q : List ℕ) → p ≡ q → bytes_eq p q ≡ true
same_path p q e = (bytes_eq-Decides p q).1 e

other_path : (p q : List ℕ) → p ≢ q → bytes_eq p q ≡ false
other_path p q ne = false_from_ne_true (bytes_eq p q) (λ t. ne ((bytes_eq-Decides p q).0 t))

pub held_at-first : (p : List ℕ) (x : Held) (w : List Held) → p ≡ x.path → held_at p (x ∷ w) ≡ Some x
held_at-first p x w e = ap (λ b. if b then Some x else held_at p w) (same_path p x.path e)

pub held_at-later : (p : List ℕ) (x : Held) (w : List Held) → p ≢ x.path → held_at p (x ∷ w) ≡ held_at p w
held_at-later p x w ne = ap (λ b. if b then Some x else held_at p w) (other_path p x.path ne)

-- the first array is the one that is held at the path, or a later one is
pub held_at-cases : (Q : Held → Type 0) (p : List ℕ) (x : Held) (w : List Held) (h : Held) → held_at p (x ∷ w) ≡ Some h → (p ≡ x.path → Q x) → (p ≢ x.path → held_at p w ≡ Some h → Q h) → Q h
held_at-cases Q p x w h e here later = go (bytes_eq p x.path) refl e where
  go : (b : Bool) → bytes_eq p x.path ≡ b → (if b then Some x else held_at p w) ≡ Some h → Q h
  go true t f = let same : x ≡ h = cc in subst Q same (here ((bytes_eq-Decides p x.path).0 t))
  go false t f = later (λ same. false≢true (sym t ∙ same_path p x.path same)) f

-- an array that is held at a path has that path
pub held_at-path : (p : List ℕ) (w : List Held) (h : Held) → held_at p w ≡ Some h → p ≡ h.path
held_at-path p [] h e = absurd (cc)
held_at-path p (x ∷ w) h e = let Q : Held → Type 0 = λ h. p ≡ h.path in held_at-cases Q p x w h e (λ same. same) (λ ne f. held_at-path p w h f)

pub taken_by : (p q : List ℕ) (w : List Held) (h : Held) → held_at q w ≡ Some h → IsTrue (is_related p q) → is_taken p w ≡ true
taken_by p q [] h e r = absurd (cc)
taken_by p q (x ∷ w) h e r =
    let Q : Held → Type 0 = λ h. is_taken p (x ∷ w) ≡ true in
    held_at-cases Q q x w h e
    (λ same. let P : List ℕ → Type 0 = λ q. is_related p q ≡ true in or_left (is_related p x.path) (is_taken p w) (subst P same r))
    (λ ne f. or_right (is_related p x.path) (is_taken p w) (taken_by p q w h f r))

pub free_from : (p : List ℕ) (w : List Held) → ((q : List ℕ) (h : Held) → held_at q w ≡ Some h → is_related p q ≡ false) → is_taken p w ≡ false
free_from p [] f = refl
free_from p (x ∷ w) f = or_from (is_related p x.path) (is_taken p w) (f x.path x (held_at-first x.path x w refl)) (free_from p w (λ q h e. later q h e (bytes_eq q x.path) refl)) where
  later : (q : List ℕ) (h : Held) → held_at q w ≡ Some h → (b : Bool) → bytes_eq q x.path ≡ b → is_related p q ≡ false
  later q h e true t = f q x (held_at-first q x w ((bytes_eq-Decides q x.path).0 t))
  later q h e false t = f q h (ap (λ b. if b then Some x else held_at q w) t ∙ e)

-- ---- a new array
pub held_at-before : (p : List ℕ) (w : List Held) (b h : Held) → held_at p w ≡ Some h → held_at p (w ++ b ∷ []) ≡ Some h
held_at-before p [] b h e = absurd (cc)
held_at-before p (x ∷ w) b h e = go (bytes_eq p x.path) (held_at-before p w b h) e where
  go : (t : Bool) → (held_at p w ≡ Some h → held_at p (w ++ b ∷ []) ≡ Some h) → (if t then Some x else held_at p w) ≡ Some h → (if t then Some x else held_at p (w ++ b ∷ [])) ≡ Some h
  go true more f = f
  go false more f = more f

pub held_at-new : (p : List ℕ) (w : List Held) (b : Held) → held_at p w ≡ None → p ≡ b.path → held_at p (w ++ b ∷ []) ≡ Some b
held_at-new p [] b e same = held_at-first p b [] same
held_at-new p (x ∷ w) b e same = go (bytes_eq p x.path) (λ f. held_at-new p w b f same) e where
  go : (t : Bool) → (held_at p w ≡ None → held_at p (w ++ b ∷ []) ≡ Some b) → (if t then Some x else held_at p w) ≡ None → (if t then Some x else held_at p (w ++ b ∷ [])) ≡ Some b
  go true more f = absurd (cc)
  go false more f = more f

pub held_at-others : (p : List ℕ) (w : List Held) (b : Held) → p ≢ b.path → held_at p (w ++ b ∷ []) ≡ held_at p w
held_at-others p [] b ne = held_at-later p b [] ne
held_at-others p (x ∷ w) b ne = ap (λ o. if bytes_eq p x.path then Some x else o) (held_at-others p w b ne)

-- whether an array has this path
abbrev has_path : List ℕ → List Held → Bool
has_path p w = list_any (λ (other : Held). bytes_eq p other.path) w

none_parts : (p : List ℕ) (x : Held) (w : List Held) → held_at p (x ∷ w) ≡ None → (bytes_eq p x.path ≡ false) × (held_at p w ≡ None)
none_parts p x w e = go (bytes_eq p x.path) e where
  go : (t : Bool) → (if t then Some x else held_at p w) ≡ None → (t ≡ false) × (held_at p w ≡ None)
  go true f = absurd (cc)
  go false f = (refl, f)

path_more : (p : List ℕ) (w : List Held) (b : Held) → has_path p w ≡ false → bytes_eq p b.path ≡ false → has_path p (w ++ b ∷ []) ≡ false
path_more p [] b f r = or_from (bytes_eq p b.path) false r refl
path_more p (x ∷ w) b f r = let parts = or_parts (bytes_eq p x.path) (has_path p w) f in or_from (bytes_eq p x.path) (has_path p (w ++ b ∷ [])) parts.0 (path_more p w b parts.1 r)

pub distinct_more : (w : List Held) (b : Held) → AreDistinct w → held_at b.path w ≡ None → AreDistinct (w ++ b ∷ [])
distinct_more [] b a f = (refl, tt)
distinct_more (x ∷ w) b a f =
    let parts = none_parts b.path x w f in
    let other : bytes_eq x.path b.path ≡ false = other_path x.path b.path (λ e. false≢true (sym parts.0 ∙ same_path b.path x.path (sym e))) in
    (path_more x.path w b a.0 other, distinct_more w b a.1 parts.1)

-- ---- another write order
abbrev pub ordered : SubchunkWriteOrder → Held → Held
ordered order h = record h { order = order }

path-ordered : (p q : List ℕ) (order : SubchunkWriteOrder) (w : List Held) → has_path q (with_order p order w) ≡ has_path q w
path-ordered p q order [] = refl
path-ordered p q order (x ∷ w) = go (bytes_eq p x.path) (path-ordered p q order w) where
  go : (t : Bool) → has_path q (with_order p order w) ≡ has_path q w → has_path q (if t then ordered order x ∷ w else x ∷ with_order p order w) ≡ has_path q (x ∷ w)
  go true more = refl
  go false more = ap (λ b. bytes_eq q x.path || b) more

pub distinct-ordered : (p : List ℕ) (order : SubchunkWriteOrder) (w : List Held) → AreDistinct w → AreDistinct (with_order p order w)
distinct-ordered p order [] a = tt
distinct-ordered p order (x ∷ w) a = go (bytes_eq p x.path) (distinct-ordered p order w a.1) where
  go : (t : Bool) → AreDistinct (with_order p order w) → AreDistinct (if t then ordered order x ∷ w else x ∷ with_order p order w)
  go true more = a
  go false more = (path-ordered p x.path order w ∙ a.0, more)

pub held_at-ordered : (p : List ℕ) (order : SubchunkWriteOrder) (w : List Held) (h : Held) → held_at p w ≡ Some h → held_at p (with_order p order w) ≡ Some (ordered order h)
held_at-ordered p order [] h e = absurd (cc)
held_at-ordered p order (x ∷ w) h e = go (bytes_eq p x.path) refl (held_at-ordered p order w h) e where
  go : (t : Bool) → bytes_eq p x.path ≡ t → (held_at p w ≡ Some h → held_at p (with_order p order w) ≡ Some (ordered order h)) → (if t then Some x else held_at p w) ≡ Some h
      → held_at p (if t then ordered order x ∷ w else x ∷ with_order p order w) ≡ Some (ordered order h)
  go true t more f = let same : x ≡ h = cc in ap (λ b. if b then Some (ordered order x) else held_at p w) t ∙ ap (λ h. Some (ordered order h)) same
  go false t more f = ap (λ b. if b then Some x else held_at p (with_order p order w)) t ∙ more f

pub held_at-unordered : (p q : List ℕ) (order : SubchunkWriteOrder) (w : List Held) → q ≢ p → held_at q (with_order p order w) ≡ held_at q w
held_at-unordered p q order [] ne = refl
held_at-unordered p q order (x ∷ w) ne = go (bytes_eq p x.path) refl (held_at-unordered p q order w ne) where
  go : (t : Bool) → bytes_eq p x.path ≡ t → held_at q (with_order p order w) ≡ held_at q w → held_at q (if t then ordered order x ∷ w else x ∷ with_order p order w) ≡ held_at q (x ∷ w)
  go true t more = let other : bytes_eq q x.path ≡ false = other_path q x.path (λ e. ne (e ∙ sym ((bytes_eq-Decides p x.path).0 t))) in
      ap (λ b. if b then Some (ordered order x) else held_at q w) other ∙ sym (ap (λ b. if b then Some x else held_at q w) other)
  go false t more = ap (λ o. if bytes_eq q x.path then Some x else o) more
