-- Lists, options and tests.
use Rattle.std.proofs.Common.{◌≡◌, ℕ, zero, suc, ◌*◌, List, [], ◌∷◌, ◌++◌, length, map, get_or, replicate, ap, ◌∙◌, refl, arith, Option, Some, None, option_and_then, option_map, Bool, true, false, ◌&&◌, length-append, if◌then◌else◌}
use Rattle.std.specs.List.{flat_map, list_all}
use Rattle.std.proofs.lemmas.Bool.{and_parts}

pub some_same : {X : Type 0} {x y : X} → Some x ≡ Some y → x ≡ y
some_same h = cc

pub bind_some : {X Y : Type 0} (f : X → Option Y) (o : Option X) (y : Y) → option_and_then f o ≡ Some y → (x : X) × (o ≡ Some x) × (f x ≡ Some y)
bind_some f None y h = cc
bind_some f (Some x) y h = (x, refl, h)

pub map_some : {X Y : Type 0} (f : X → Y) (o : Option X) (y : Y) → option_map f o ≡ Some y → (x : X) × (o ≡ Some x) × (f x ≡ y)
map_some f None y h = cc
map_some f (Some x) y h = (x, refl, cc)

pub if_some : {X : Type 0} (b : Bool) (o : Option X) (y : X) → (if b then o else None) ≡ Some y → (b ≡ true) × (o ≡ Some y)
if_some true o y h = (refl, h)
if_some false o y h = cc

pub elim_some : {X : Type 0} (b : Bool) (o : Option X) (y : X) → elim b [ true ↦ o | false ↦ None ] ≡ Some y → (b ≡ true) × (o ≡ Some y)
elim_some true o y h = (refl, h)
elim_some false o y h = cc

-- P of each element
abbrev pub Each : {X : Type 0} → (X → Type 0) → List X → Type 0
Each P [] = Unit {0}
Each P (x ∷ xs) = P x × Each P xs

pub every : {X : Type 0} (P : X → Type 0) (xs : List X) → ((x : X) → P x) → Each P xs
every P [] law = tt
every P (x ∷ xs) law = (law x, every P xs law)

pub each_passes : {X : Type 0} (test : X → Bool) (xs : List X) → list_all test xs ≡ true → Each (λ x. test x ≡ true) xs
each_passes test [] h = tt
each_passes test (x ∷ xs) h = let b = and_parts (test x) (list_all test xs) h in (b.0, each_passes test xs b.1)

pub all_pass : {X : Type 0} (test : X → Bool) (xs : List X) → Each (λ x. test x ≡ true) xs → list_all test xs ≡ true
all_pass test [] h = refl
all_pass test (x ∷ xs) h = ap (λ (b : Bool). b && list_all test xs) h.0 ∙ all_pass test xs h.1

pub each_weaker : {X : Type 0} (P Q : X → Type 0) (xs : List X) → ((x : X) → P x → Q x) → Each P xs → Each Q xs
each_weaker P Q [] law h = tt
each_weaker P Q (x ∷ xs) law h = (law x h.0, each_weaker P Q xs law h.1)

pub each_get : {X : Type 0} (P : X → Type 0) (xs : List X) (n : ℕ) (d : X) → Each P xs → P d → P (get_or xs n d)
each_get P [] n d h other = other
each_get P (x ∷ xs) zero d h other = h.0
each_get P (x ∷ xs) (suc n) d h other = each_get P xs n d h.1 other

pub each_map : {X Y : Type 0} (P : Y → Type 0) (f : X → Y) (xs : List X) → ((x : X) → P (f x)) → Each P (map f xs)
each_map P f [] law = tt
each_map P f (x ∷ xs) law = (law x, each_map P f xs law)

pub length-flat_map : {X A : Type 0} (f : X → List A) (width : ℕ) (xs : List X) → Each (λ x. length (f x) ≡ width) xs → length (flat_map f xs) ≡ length xs * width
length-flat_map f width [] h = omega arith
length-flat_map f width (x ∷ xs) h =
    let rest = length-flat_map f width xs h.1 in
    let first = h.0 in
    length-append (f x) (flat_map f xs) ∙ omega (arith, rest, first)

pub each_append : {X : Type 0} (P : X → Type 0) (xs ys : List X) → Each P xs → Each P ys → Each P (xs ++ ys)
each_append P [] ys h k = k
each_append P (x ∷ xs) ys h k = (h.0, each_append P xs ys h.1 k)

abbrev pub zero_list : ℕ → List ℕ
zero_list n = replicate n 0
