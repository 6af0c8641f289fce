-- New cells put at places of an array, seen from its subchunks.
use Rattle.std.proofs.Common.{◌≡◌, ◌≢◌, ◌∙◌, ◌⊎◌, inl, inr, ℕ, zero, suc, ◌+◌, ◌<◌, List, [], ◌∷◌, length, map, get_or, set, cond, ap, sym, refl, arith, Bool, true, false, ◌==◌, if◌then◌else◌}
use Rattle.std.specs.Prelude.{nat_lt}
use Rattle.std.specs.List.{list_all, range_with_len}
use Rattle.std.proofs.lemmas.Bool.{and_parts, eqb-true, eq-eqb, ltb-true}
use Rattle.std.proofs.lemmas.List.{ext_get_or, get_or-map, get_or-set_same, get_or-set_other, length-set}
use Rattle.zarr_grids_boxes.specs.Boxes.{product}
use Rattle.zarr_codecs_meaning.specs.Fits.{can_cut}
use Rattle.zarr_codecs_meaning.specs.Places.{parts_of}
use Rattle.zarr_codecs_meaning.specs.Types.{Cell}
use Rattle.zarr_codecs_meaning.proofs.Parts.{no_part}
use Rattle.zarr_codecs_meaning.proofs.PartsOnce.{number_in}
use Rattle.zarr_codecs_traits.specs.Indexers.{put}
use Rattle.zarr_sharding_places.specs.Groups.{places_in}
use Rattle.zarr_sharding_places.specs.Locating.{inside_of, subchunk_of}
use Rattle.zarr_sharding_places.specs.declared.locating.AskedPlace.{AskedPlace}
use Rattle.zarr_sharding_places.proofs.PartPlaces.{IsPlace, place_below, place_held, places_apart}
use Rattle.zarr_sharding_codec.specs.PartWriting.{given_in, insides, numbers_in, positions}
use Rattle.zarr_sharding_codec.proofs.LocatedParts.{located_place}

-- what a list has at places, each by itself
abbrev pub taken : {X : Type 0} → X → List X → List ℕ → List X
taken d xs ns = map (λ n. get_or xs n d) ns

-- ---- the place of a subchunk

-- the numbers of the places of a subchunk
abbrev pub places_at : List ℕ → List ℕ → ℕ → List ℕ
places_at shape subchunk k = (get_or (parts_of shape subchunk) k no_part).places

-- a place of a subchunk tells which subchunk it lies in, and where
pub record Tells (shape subchunk : List ℕ) (k i n : ℕ) : Type 0 where
  pub part : subchunk_of shape subchunk n ≡ k
  pub place : inside_of shape subchunk n ≡ i

pub place_tells : (shape subchunk : List ℕ) (k i : ℕ) → can_cut shape subchunk ≡ true → IsPlace (parts_of shape subchunk) k i → Tells shape subchunk k i (number_in (parts_of shape subchunk) k i)
place_tells shape subchunk k i cuts is =
    let n = number_in (parts_of shape subchunk) k i in
    let located = located_place shape subchunk n cuts (place_below shape subchunk k i cuts is) in
    let both = places_apart shape subchunk (subchunk_of shape subchunk n) (inside_of shape subchunk n) k i cuts (record { part = located.part; place = located.place }) is located.here in
    record { part = both.0; place = both.1 }

-- ---- one element that is replaced

taken_elsewhere : {X : Type 0} (d : X) (xs : List X) (n : ℕ) (x : X) (ns : List ℕ) → ((j : ℕ) → j < length ns → get_or ns j 0 ≢ n) → taken d (set xs n x) ns ≡ taken d xs ns
taken_elsewhere d xs n x [] other = refl
taken_elsewhere d xs n x (m ∷ ms) other =
    ap (λ y. y ∷ taken d (set xs n x) ms) (get_or-set_other xs n m x d (other 0 (omega arith))) ∙ ap (λ ys. get_or xs m d ∷ ys) (taken_elsewhere d xs n x ms (λ j low. other (suc j) (omega (arith, low))))

taken_here : {X : Type 0} (d : X) (xs : List X) (n : ℕ) (x : X) (ns : List ℕ) (i : ℕ) → n < length xs → i < length ns → get_or ns i 0 ≡ n → ((j : ℕ) → j < length ns → get_or ns j 0 ≡ n → j ≡ i) → taken d (set xs n x) ns ≡ set (taken d xs ns) i x
taken_here d xs n x [] i below low here once = absurd (omega (arith, low))
taken_here d xs n x (m ∷ ms) zero below low here once =
    ap (λ y. y ∷ taken d (set xs n x) ms) (ap (λ k. get_or (set xs n x) k d) here ∙ get_or-set_same xs n x d below)
    ∙ ap (λ ys. x ∷ ys) (taken_elsewhere d xs n x ms (λ j less same. let no = once (suc j) (omega (arith, less)) same in absurd (omega (arith, no))))
taken_here d xs n x (m ∷ ms) (suc i) below low here once =
    let other : m ≢ n = λ same. let no = once 0 (omega arith) same in absurd (omega (arith, no)) in
    ap (λ y. y ∷ taken d (set xs n x) ms) (get_or-set_other xs n m x d other)
    ∙ ap (λ ys. get_or xs m d ∷ ys) (taken_here d xs n x ms i below (omega (arith, low)) here (λ j less same. let is = once (suc j) (omega (arith, less)) same in omega (arith, is)))

-- an element of the array, seen from a subchunk
module _ {X : Type 0} (d : X) (shape subchunk : List ℕ) (k : ℕ) (cuts : can_cut shape subchunk ≡ true) (there : k < length (parts_of shape subchunk)) where
  set_seen : (xs : List X) (n : ℕ) (x : X) (b : Bool) → (subchunk_of shape subchunk n == k) ≡ b → n < product shape → length xs ≡ product shape
      → taken d (set xs n x) (places_at shape subchunk k) ≡ (if b then set (taken d xs (places_at shape subchunk k)) (inside_of shape subchunk n) x else taken d xs (places_at shape subchunk k))
  set_seen xs n x true e below long =
      let located = located_place shape subchunk n cuts below in
      let same : subchunk_of shape subchunk n ≡ k = eqb-true (subchunk_of shape subchunk n) k e in
      let low : inside_of shape subchunk n < length (places_at shape subchunk k) = let low_there = located.place in let is = ap (λ j. length (places_at shape subchunk j)) same in omega (arith, low_there, is) in
      let here : get_or (places_at shape subchunk k) (inside_of shape subchunk n) 0 ≡ n = ap (λ j. get_or (places_at shape subchunk j) (inside_of shape subchunk n) 0) (sym same) ∙ located.here in
      taken_here d xs n x (places_at shape subchunk k) (inside_of shape subchunk n) (omega (arith, below, long)) low here
      (λ j less is. (places_apart shape subchunk k j k (inside_of shape subchunk n) cuts (record { part = there; place = less }) (record { part = there; place = low }) (is ∙ sym here)).1)
  set_seen xs n x false e below long =
      taken_elsewhere d xs n x (places_at shape subchunk k) (λ j less is.
      let tells = place_tells shape subchunk k j cuts (record { part = there; place = less }) in
      let same : subchunk_of shape subchunk n ≡ k = ap (subchunk_of shape subchunk) (sym is) ∙ tells.part in
      let yes = eq-eqb (subchunk_of shape subchunk n) k same in cc)

  -- the new elements of a list, one for each number, that are for places in the subchunk
  abbrev pub new_in : List ℕ → List X → List X
  new_in [] xs = []
  new_in (n ∷ ns) [] = []
  new_in (n ∷ ns) (x ∷ xs) = if subchunk_of shape subchunk n == k then x ∷ new_in ns xs else new_in ns xs

  put_none : (ns : List ℕ) (ys : List X) → put ns [] ys ≡ ys
  put_none [] ys = refl
  put_none (n ∷ ns) ys = refl

  seen_step : (ns : List ℕ) (xs ys : List X) (n : ℕ) (x : X) (b : Bool)
      → put (numbers_in shape subchunk k ns) (new_in ns xs) (if b then set ys (inside_of shape subchunk n) x else ys)
      ≡ put (if b then inside_of shape subchunk n ∷ numbers_in shape subchunk k ns else numbers_in shape subchunk k ns) (if b then x ∷ new_in ns xs else new_in ns xs) ys
  seen_step ns xs ys n x true = refl
  seen_step ns xs ys n x false = refl

  -- what was put at places of the array was put at those in the subchunk
  pub put_seen : (ns : List ℕ) (xs ys : List X) → list_all (λ n. nat_lt n (product shape)) ns ≡ true → length ys ≡ product shape
      → taken d (put ns xs ys) (places_at shape subchunk k) ≡ put (numbers_in shape subchunk k ns) (new_in ns xs) (taken d ys (places_at shape subchunk k))
  put_seen [] xs ys below long = refl
  put_seen (n ∷ ns) [] ys below long = sym (put_none (numbers_in shape subchunk k (n ∷ ns)) (taken d ys (places_at shape subchunk k)))
  put_seen (n ∷ ns) (x ∷ xs) ys below long =
      let both = and_parts (nat_lt n (product shape)) (list_all (λ m. nat_lt m (product shape)) ns) below in
      put_seen ns xs (set ys n x) both.1 (length-set ys n x ∙ long)
      ∙ (ap (put (numbers_in shape subchunk k ns) (new_in ns xs)) (set_seen ys n x (subchunk_of shape subchunk n == k) refl (ltb-true n (product shape) both.0) long)
      ∙ seen_step ns xs (taken d ys (places_at shape subchunk k)) n x (subchunk_of shape subchunk n == k))

-- of cells this is what the specification says
pub given_is : (d : Cell) (shape subchunk : List ℕ) (k : ℕ) (cuts : can_cut shape subchunk ≡ true) (there : k < length (parts_of shape subchunk)) (ns : List ℕ) (cells : List Cell)
    → new_in d shape subchunk k cuts there ns cells ≡ given_in shape subchunk k ns cells
given_is d shape subchunk k cuts there [] cells = refl
given_is d shape subchunk k cuts there (n ∷ ns) [] = refl
given_is d shape subchunk k cuts there (n ∷ ns) (c ∷ cs) =
    ap (λ (xs : List Cell). if subchunk_of shape subchunk n == k then c ∷ xs else xs) (given_is d shape subchunk k cuts there ns cs)

-- ---- which subchunks are met

-- a place lies in the subchunk, or none does
pub record IsAmongMet (shape subchunk : List ℕ) (k : ℕ) (ns : List ℕ) : Type 0 where
  pub at_ : ℕ
  pub below : at_ < length ns
  pub is : subchunk_of shape subchunk (get_or ns at_ 0) ≡ k

met_first : (shape subchunk : List ℕ) (k n : ℕ) (ns : List ℕ) (b : Bool) → (subchunk_of shape subchunk n == k) ≡ b → IsAmongMet shape subchunk k ns ⊎ (numbers_in shape subchunk k ns ≡ [])
    → IsAmongMet shape subchunk k (n ∷ ns) ⊎ ((if b then inside_of shape subchunk n ∷ numbers_in shape subchunk k ns else numbers_in shape subchunk k ns) ≡ [])
met_first shape subchunk k n ns true e rest = inl (record { at_ = 0; below = omega arith; is = eqb-true (subchunk_of shape subchunk n) k e })
met_first shape subchunk k n ns false e (inl met) = let low = met.below in inl (record { at_ = suc met.at_; below = omega (arith, low); is = met.is })
met_first shape subchunk k n ns false e (inr none) = inr none

pub met_or_none : (shape subchunk : List ℕ) (k : ℕ) (ns : List ℕ) → IsAmongMet shape subchunk k ns ⊎ (numbers_in shape subchunk k ns ≡ [])
met_or_none shape subchunk k [] = inr refl
met_or_none shape subchunk k (n ∷ ns) = met_first shape subchunk k n ns (subchunk_of shape subchunk n == k) refl (met_or_none shape subchunk k ns)

-- ---- the places that are asked for, in one subchunk

-- a place with this number and position
abbrev placed : List ℕ → List ℕ → ℕ → ℕ → AskedPlace
placed shape subchunk n t = record { subchunk = subchunk_of shape subchunk n; inside = inside_of shape subchunk n; position = t }

insides_first : (b : Bool) (place : AskedPlace) (rest : List AskedPlace) (i : ℕ) (is : List ℕ) → place.inside ≡ i → insides rest ≡ is → insides (cond b (place ∷ rest) rest) ≡ (if b then i ∷ is else is)
insides_first true place rest i is one others = ap (λ n. n ∷ insides rest) one ∙ ap (λ ns. i ∷ ns) others
insides_first false place rest i is one others = others

pub insides_asked : (shape subchunk : List ℕ) (k : ℕ) (f : ℕ → AskedPlace) (ns : List ℕ) (a : ℕ) → ((i : ℕ) → i < length ns → f (a + i) ≡ placed shape subchunk (get_or ns i 0) (a + i))
    → insides (places_in k (map f (range_with_len a (length ns)))) ≡ numbers_in shape subchunk k ns
insides_asked shape subchunk k f [] a law = refl
insides_asked shape subchunk k f (n ∷ ns) a law =
    let start : a ≡ a + 0 = omega arith in
    let first : f a ≡ placed shape subchunk n (a + 0) = ap f start ∙ law 0 (omega arith) in
    let rest = insides_asked shape subchunk k f ns (a + 1) (λ i low. let e : a + 1 + i ≡ a + suc i = omega arith in ap f e ∙ (law (suc i) (omega (arith, low)) ∙ ap (placed shape subchunk (get_or ns i 0)) (sym e))) in
    let others = places_in k (map f (range_with_len (a + 1) (length ns))) in
    ap (λ (b : Bool). insides (cond b (f a ∷ others) others)) (ap (λ (p : AskedPlace). p.subchunk == k) first)
    ∙ insides_first (subchunk_of shape subchunk n == k) (f a) others (inside_of shape subchunk n) (numbers_in shape subchunk k ns) (ap (λ (p : AskedPlace). p.inside) first) rest

given_first : (b : Bool) (g : ℕ → Cell) (place : AskedPlace) (rest : List AskedPlace) (c : Cell) (cs : List Cell) → g place.position ≡ c → map g (positions rest) ≡ cs → map g (positions (cond b (place ∷ rest) rest)) ≡ (if b then c ∷ cs else cs)
given_first true g place rest c cs one others = ap (λ x. x ∷ map g (positions rest)) one ∙ ap (λ xs. c ∷ xs) others
given_first false g place rest c cs one others = others

pub given_asked : (shape subchunk : List ℕ) (k : ℕ) (f : ℕ → AskedPlace) (g : ℕ → Cell) (ns : List ℕ) (cs : List Cell) (a : ℕ) (d : Cell) → length cs ≡ length ns → ((i : ℕ) → i < length ns → f (a + i) ≡ placed shape subchunk (get_or ns i 0) (a + i))
    → ((i : ℕ) → i < length ns → g (a + i) ≡ get_or cs i d) → map g (positions (places_in k (map f (range_with_len a (length ns))))) ≡ given_in shape subchunk k ns cs
given_asked shape subchunk k f g [] cs a d many law cells = refl
given_asked shape subchunk k f g (n ∷ ns) [] a d many law cells = absurd (omega (arith, many))
given_asked shape subchunk k f g (n ∷ ns) (c ∷ cs) a d many law cells =
    let start : a ≡ a + 0 = omega arith in
    let first : f a ≡ placed shape subchunk n (a + 0) = ap f start ∙ law 0 (omega arith) in
    let next : (i : ℕ) → a + 1 + i ≡ a + suc i = λ i. omega arith in
    let rest = given_asked shape subchunk k f g ns cs (a + 1) d (omega (arith, many)) (λ i low. ap f (next i) ∙ (law (suc i) (omega (arith, low)) ∙ ap (placed shape subchunk (get_or ns i 0)) (sym (next i)))) (λ i low. ap g (next i) ∙ cells (suc i) (omega (arith, low))) in
    let others = places_in k (map f (range_with_len (a + 1) (length ns))) in
    ap (λ (b : Bool). map g (positions (cond b (f a ∷ others) others))) (ap (λ (p : AskedPlace). p.subchunk == k) first)
    ∙ given_first (subchunk_of shape subchunk n == k) g (f a) others c (given_in shape subchunk k ns cs) (ap g (ap (λ (p : AskedPlace). p.position) first) ∙ cells 0 (omega arith)) rest

-- ---- lists that agree on each subchunk

taken_at : {X : Type 0} (d : X) (xs : List X) (ns : List ℕ) (i n : ℕ) → i < length ns → get_or ns i 0 ≡ n → get_or (taken d xs ns) i d ≡ get_or xs n d
taken_at d xs ns i n low here = get_or-map (λ m. get_or xs m d) ns i 0 d low ∙ ap (λ m. get_or xs m d) here

-- what each subchunk has of a list tells the list
pub same_seen : {X : Type 0} (d : X) (shape subchunk : List ℕ) (xs ys : List X) → can_cut shape subchunk ≡ true → length xs ≡ product shape → length ys ≡ product shape
    → ((k : ℕ) → k < length (parts_of shape subchunk) → taken d xs (places_at shape subchunk k) ≡ taken d ys (places_at shape subchunk k)) → xs ≡ ys
same_seen d shape subchunk xs ys cuts one two same =
    ext_get_or d xs ys (one ∙ sym two) (λ n low.
    let held = place_held shape subchunk n cuts (omega (arith, low, one)) in
    let places = places_at shape subchunk held.part in
    sym (taken_at d xs places held.place n held.is.place held.here) ∙ (ap (λ zs. get_or zs held.place d) (same held.part held.is.part) ∙ taken_at d ys places held.place n held.is.place held.here))
