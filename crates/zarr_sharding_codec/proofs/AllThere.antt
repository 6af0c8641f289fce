-- Lists of options, each of which is there.
use Rattle.std.proofs.Common.{◌≡◌, ◌∙◌, ℕ, zero, suc, ◌<◌, List, [], ◌∷◌, length, map, get_or, ap, refl, arith, Option, Some, None, option_and_then, option_map}
use Rattle.zarr_codecs_meaning.specs.Decoding.{all_there}
use Rattle.zarr_codecs_meaning.proofs.Lists.{bind_some, map_some}

-- there are as many
pub length-there : {X : Type 0} (f : ℕ → Option X) (ns : List ℕ) (xs : List X) → all_there (map f ns) ≡ Some xs → length xs ≡ length ns
length-there f [] xs h = let same : [] ≡ xs = cc in ap length (sym_same same) where
  sym_same : {X : Type 0} {xs ys : List X} → xs ≡ ys → ys ≡ xs
  sym_same e = cc
length-there f (n ∷ ns) xs h =
    let first = bind_some (λ x. option_map (λ ys. x ∷ ys) (all_there (map f ns))) (f n) xs h in
    let rest = map_some (λ ys. first.0 ∷ ys) (all_there (map f ns)) xs first.2 in
    let long = length-there f ns rest.0 rest.1 in
    ap length (turned rest.2) ∙ ap suc long where
      turned : {X : Type 0} {xs ys : List X} → xs ≡ ys → ys ≡ xs
      turned e = cc

-- each is there
pub there_at : {X : Type 0} (f : ℕ → Option X) (ns : List ℕ) (xs : List X) (i : ℕ) (d : X) → all_there (map f ns) ≡ Some xs → i < length ns → f (get_or ns i 0) ≡ Some (get_or xs i d)
there_at f [] xs i d h below = absurd (omega arith)
there_at f (n ∷ ns) xs i d h below =
    let first = bind_some (λ x. option_map (λ ys. x ∷ ys) (all_there (map f ns))) (f n) xs h in
    let rest = map_some (λ ys. first.0 ∷ ys) (all_there (map f ns)) xs first.2 in
    at_place f n ns first.0 rest.0 i d first.1 (λ j low. there_at f ns rest.0 j d rest.1 low) below ∙ ap (λ ys. Some (get_or ys i d)) rest.2 where
      at_place : {X : Type 0} (f : ℕ → Option X) (n : ℕ) (ns : List ℕ) (x : X) (xs : List X) (i : ℕ) (d : X) → f n ≡ Some x → ((j : ℕ) → j < length ns → f (get_or ns j 0) ≡ Some (get_or xs j d)) → i < length (n ∷ ns)
          → f (get_or (n ∷ ns) i 0) ≡ Some (get_or (x ∷ xs) i d)
      at_place f n ns x xs zero d e law below = e
      at_place f n ns x xs (suc j) d e law below = law j (omega arith)

-- where each is there, all are
pub all_found : {X : Type 0} (f : ℕ → Option X) (ns : List ℕ) (xs : List X) (d : X) → length xs ≡ length ns → ((i : ℕ) → i < length ns → f (get_or ns i 0) ≡ Some (get_or xs i d)) → all_there (map f ns) ≡ Some xs
all_found f [] [] d same law = refl
all_found f [] (x ∷ xs) d same law = absurd (omega (arith, same))
all_found f (n ∷ ns) [] d same law = absurd (omega (arith, same))
all_found f (n ∷ ns) (x ∷ xs) d same law =
    ap (option_and_then (λ x. option_map (λ xs. x ∷ xs) (all_there (map f ns)))) (law 0 (omega arith))
    ∙ ap (option_map (λ xs. x ∷ xs)) (all_found f ns xs d (omega (arith, same)) (λ i below. law (suc i) (omega (arith, below))))

none_mapped : {X Y : Type 0} (o : Option X) (f : X → Y) → o ≡ None → option_map f o ≡ None
none_mapped None f h = refl
none_mapped (Some x) f h = cc

none_behind : {X : Type 0} (o : Option X) (rest : Option (List X)) → rest ≡ None → option_and_then (λ x. option_map (λ xs. x ∷ xs) rest) o ≡ None
none_behind None rest h = refl
none_behind (Some x) rest h = none_mapped rest (λ xs. x ∷ xs) h

-- where one isn't, they are not all there
pub one_lost : {X : Type 0} (f : ℕ → Option X) (ns : List ℕ) (i : ℕ) → i < length ns → f (get_or ns i 0) ≡ None → all_there (map f ns) ≡ None
one_lost f [] i below lost = absurd (omega arith)
one_lost f (n ∷ ns) zero below lost = ap (option_and_then (λ x. option_map (λ xs. x ∷ xs) (all_there (map f ns)))) lost
one_lost f (n ∷ ns) (suc i) below lost = none_behind (f n) (all_there (map f ns)) (one_lost f ns i (omega (arith, below)) lost)

-- where they are not all there, one isn't
pub record IsLost {X : Type 0} (f : ℕ → Option X) (ns : List ℕ) : Type 0 where
  pub at_ : ℕ
  pub below : at_ < length ns
  pub is : f (get_or ns at_ 0) ≡ None

pub lost_one : {X : Type 0} (f : ℕ → Option X) (ns : List ℕ) → all_there (map f ns) ≡ None → IsLost f ns
lost_one f [] h = cc
lost_one f (n ∷ ns) h = first_or_later f n ns (f n) refl h (λ rest. lost_one f ns rest) where
  later : {X : Type 0} (x : X) (o : Option (List X)) → option_map (λ xs. x ∷ xs) o ≡ None → o ≡ None
  later x None h = refl
  later x (Some xs) h = cc

  first_or_later : {X : Type 0} (f : ℕ → Option X) (n : ℕ) (ns : List ℕ) (o : Option X) → f n ≡ o → option_and_then (λ x. option_map (λ xs. x ∷ xs) (all_there (map f ns))) o ≡ None → (all_there (map f ns) ≡ None → IsLost f ns) → IsLost f (n ∷ ns)
  first_or_later f n ns None e h law = record { at_ = 0; below = omega arith; is = e }
  first_or_later f n ns (Some x) e h law =
      let rest = law (later x (all_there (map f ns)) h) in
      let low = rest.below in
      record { at_ = suc rest.at_; below = omega (arith, low); is = rest.is }
