-- The cells at several places of a value are those at each of them.
use Rattle.std.proofs.Common.{◌≡◌, ◌∙◌, ℕ, zero, suc, ◌<◌, List, [], ◌∷◌, length, map, get_or, refl, sym, ap, arith, Option, Some, None, Bool, if◌then◌else◌, option_and_then, option_map, ⊎_elim}
use Rattle.std.proofs.lemmas.List.{length-map, get_or-map}
use Rattle.zarr_grids_chunks.proofs.Filters.{told}
use Rattle.zarr_codecs_meaning.specs.Types.{Elements, Cell}
use Rattle.zarr_codecs_meaning.specs.Chains.{Chain}
use Rattle.zarr_codecs_meaning.specs.Chunks.{chunk_part}
use Rattle.zarr_codecs_meaning.specs.Decoding.{all_there, cell_at, opens, part_decoded}
use Rattle.zarr_codecs_meaning.proofs.Lists.{bind_some, map_some, if_some, some_same}

-- where all are there, each is
found_at : {X : Type 0} (f : ℕ → Option X) (ns : List ℕ) (xs : List X) (i : ℕ) (d : X) → all_there (map f ns) ≡ Some xs → i < length ns → f (get_or ns i 0) ≡ Some (get_or xs i d)
found_at f [] xs i d h below = absurd (omega arith)
found_at f (n ∷ ns) xs i d h below =
    let first = bind_some (λ x. option_map (λ ys. x ∷ ys) (all_there (map f ns))) (f n) xs h in
    let rest = map_some (λ ys. first.0 ∷ ys) (all_there (map f ns)) xs first.2 in
    at_place f n ns first.0 rest.0 i d first.1 (λ j low. found_at f ns rest.0 j d rest.1 low) below ∙ ap (λ ys. Some (get_or ys i d)) rest.2 where
      at_place : {X : Type 0} (f : ℕ → Option X) (n : ℕ) (ns : List ℕ) (x : X) (xs : List X) (i : ℕ) (d : X) → f n ≡ Some x → ((j : ℕ) → j < length ns → f (get_or ns j 0) ≡ Some (get_or xs j d)) → i < length (n ∷ ns)
          → f (get_or (n ∷ ns) i 0) ≡ Some (get_or (x ∷ xs) i d)
      at_place f n ns x xs zero d e law below = e
      at_place f n ns x xs (suc j) d e law below = law j (omega arith)

all_length : {X : Type 0} (os : List (Option X)) (xs : List X) → all_there os ≡ Some xs → length xs ≡ length os
all_length [] xs h = let none : [] ≡ xs = cc in ap length (sym none)
all_length (o ∷ os) xs h =
    let first = bind_some (λ x. option_map (λ ys. x ∷ ys) (all_there os)) o xs h in
    let rest = map_some (λ ys. first.0 ∷ ys) (all_there os) xs first.2 in
    sym (ap length rest.2) ∙ ap (λ n. suc n) (all_length os rest.0 rest.1)

-- where not all are there, one is not
first_lost : {X : Type 0} (f : ℕ → Option X) (n : ℕ) (ns : List ℕ) (o : Option X) (rest : Option (List X)) → f n ≡ o → (rest ≡ None → (i : ℕ) × (i < length ns) × (f (get_or ns i 0) ≡ None))
    → option_and_then (λ x. option_map (λ xs. x ∷ xs) rest) o ≡ None → (i : ℕ) × (i < length (n ∷ ns)) × (f (get_or (n ∷ ns) i 0) ≡ None)
first_lost f n ns None rest e later h = (0, omega arith, e)
first_lost f n ns (Some x) None e later h = let found = later refl in let b = found.1 in (suc found.0, omega arith, found.2)
first_lost f n ns (Some x) (Some xs) e later h = cc

pub lost_at : {X : Type 0} (f : ℕ → Option X) (ns : List ℕ) → all_there (map f ns) ≡ None → (i : ℕ) × (i < length ns) × (f (get_or ns i 0) ≡ None)
lost_at f [] h = cc
lost_at f (n ∷ ns) h = first_lost f n ns (f n) (all_there (map f ns)) refl (λ none. lost_at f ns none) h

part_length : (chain : Chain) (elements : Elements) (shape value ns : List ℕ) (cells : List Cell) → part_decoded chain elements shape value ns ≡ Some cells → length cells ≡ length ns
part_length chain elements shape value ns cells h =
    let at = cell_at chain elements shape value in
    let told = if_some (opens chain elements shape value) (all_there (map at ns)) cells h in
    all_length (map at ns) cells told.1 ∙ length-map ns at

part_single : (chain : Chain) (elements : Elements) (shape value ns : List ℕ) (cells : List Cell) (i : ℕ) (fill : Cell) → part_decoded chain elements shape value ns ≡ Some cells → i < length ns
    → part_decoded chain elements shape value (get_or ns i 0 ∷ []) ≡ Some (get_or cells i fill ∷ [])
part_single chain elements shape value ns cells i fill h below =
    let at = cell_at chain elements shape value in
    let told = if_some (opens chain elements shape value) (all_there (map at ns)) cells h in
    ap (λ (b : Bool). if b then all_there (at (get_or ns i 0) ∷ []) else None) told.0 ∙ ap (λ (o : Option Cell). all_there (o ∷ [])) (found_at at ns cells i fill told.1 below)

part_lost : (chain : Chain) (elements : Elements) (shape value ns : List ℕ) → part_decoded chain elements shape value ns ≡ None → 0 < length ns → (i : ℕ) × (i < length ns) × (part_decoded chain elements shape value (get_or ns i 0 ∷ []) ≡ None)
part_lost chain elements shape value ns h some =
    let at = cell_at chain elements shape value in
    ⊎_elim
    (λ t.
    let none : all_there (map at ns) ≡ None = sym (ap (λ (b : Bool). if b then all_there (map at ns) else None) t) ∙ h in
    let found = lost_at at ns none in
    (found.0, found.1, ap (λ (b : Bool). if b then all_there (at (get_or ns found.0 0) ∷ []) else None) t ∙ ap (λ (o : Option Cell). all_there (o ∷ [])) found.2))
    (λ t. (0, some, ap (λ (b : Bool). if b then all_there (at (get_or ns 0 0) ∷ []) else None) t))
    (told (opens chain elements shape value))

-- ---- of what is stored for a chunk
pub chunk_length : (chain : Chain) (elements : Elements) (shape : List ℕ) (stored : Option (List ℕ)) (ns : List ℕ) (cells : List Cell) → chunk_part chain elements shape stored ns ≡ Some cells → length cells ≡ length ns
chunk_length chain elements shape None ns cells h = ap length (sym (some_same h)) ∙ length-map ns (λ n. elements.fill)
chunk_length chain elements shape (Some value) ns cells h = part_length chain elements shape value ns cells h

pub chunk_single : (chain : Chain) (elements : Elements) (shape : List ℕ) (stored : Option (List ℕ)) (ns : List ℕ) (cells : List Cell) (i : ℕ) (fill : Cell) → chunk_part chain elements shape stored ns ≡ Some cells → i < length ns
    → chunk_part chain elements shape stored (get_or ns i 0 ∷ []) ≡ Some (get_or cells i fill ∷ [])
chunk_single chain elements shape None ns cells i fill h below =
    ap (λ (c : Cell). Some (c ∷ [])) (sym (ap (λ (cs : List Cell). get_or cs i fill) (sym (some_same h)) ∙ get_or-map (λ n. elements.fill) ns i 0 fill below))
chunk_single chain elements shape (Some value) ns cells i fill h below = part_single chain elements shape value ns cells i fill h below

pub chunk_lost : (chain : Chain) (elements : Elements) (shape : List ℕ) (stored : Option (List ℕ)) (ns : List ℕ) → chunk_part chain elements shape stored ns ≡ None → 0 < length ns
    → (i : ℕ) × (i < length ns) × (chunk_part chain elements shape stored (get_or ns i 0 ∷ []) ≡ None)
chunk_lost chain elements shape None ns h some = cc
chunk_lost chain elements shape (Some value) ns h some = part_lost chain elements shape value ns h some
