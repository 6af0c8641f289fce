-- Slices found one after another.
use Rattle.std.proofs.Common.{◌≡◌, ℕ, ◌+◌, ◌<◌, List, [], ◌∷◌, ◌++◌, length, take, drop, get_or, ap, ◌∙◌, sym, refl, arith, Option, Some, None, Vec, option_map, option_and_then, length-append, append-nil, append_assoc}
use Rattle.std.specs.declared.alloc.Global.{Global}
use Rattle.std.proofs.lemmas.List.{take_more, drop_more, take-append-drop}
use Rattle.zarr_codecs_meaning.specs.Encoding.{Pair, absent_pair, slice_bytes, pair_at, joined_slices, pairs_from}
use Rattle.zarr_codecs_meaning.proofs.Lists.{bind_some, map_some, some_same}
use Rattle.zarr_sharding_changes.specs.Compaction.{stored_at, slices_of}
use Rattle.zarr_sharding_index.specs.Views.{pairs_of, slice_lent}
use Rattle.zarr_codecs_meaning.proofs.Shards.{length-pairs_from}
use Rattle.zarr_sharding_index.specs.declared.index.ShardIndex.{ShardIndex}
use Rattle.zarr_sharding_compaction.specs.Copying.{Copies, stored_lent}
use denote.Ref.{Bor}

-- two lists, if both are there
abbrev pub both : {X : Type 0} → Option (List X) → Option (List X) → Option (List X)
both a b = option_and_then (λ xs. option_map (λ ys. xs ++ ys) b) a

map_same : {X : Type 0} (o : Option (List X)) → o ≡ option_map (λ ys. ys) o
map_same None = refl
map_same (Some xs) = refl

both_more : {X : Type 0} (a : Option X) (b c : Option (List X)) → option_and_then (λ x. option_map (λ xs. x ∷ xs) (both b c)) a ≡ both (option_and_then (λ x. option_map (λ xs. x ∷ xs) b) a) c
both_more None b c = refl
both_more (Some x) None c = refl
both_more (Some x) (Some xs) None = refl
both_more (Some x) (Some xs) (Some ys) = refl

slices_joined : (base : ℕ) («data» : List ℕ) (ps qs : List Pair) → slices_of base «data» (ps ++ qs) ≡ both (slices_of base «data» ps) (slices_of base «data» qs)
slices_joined base «data» [] qs = map_same (slices_of base «data» qs)
slices_joined base «data» (p ∷ ps) qs =
    ap (λ (o : Option (List (Option (List ℕ)))). option_and_then (λ (first : Option (List ℕ)). option_map (λ (others : List (Option (List ℕ))). first ∷ others) o) (stored_at base «data» p)) (slices_joined base «data» ps qs)
    ∙ both_more (stored_at base «data» p) (slices_of base «data» ps) (slices_of base «data» qs)

one_slice : (base : ℕ) («data» : List ℕ) (p : Pair) (s : Option (List ℕ)) → stored_at base «data» p ≡ Some s → slices_of base «data» (p ∷ []) ≡ Some (s ∷ [])
one_slice base «data» p s is = ap (option_and_then (λ (first : Option (List ℕ)). option_map (λ (others : List (Option (List ℕ))). first ∷ others) (Some []))) is

-- one slice more
pub slices_more : (base : ℕ) («data» : List ℕ) (ps : List Pair) (n : ℕ) (stored : List (Option (List ℕ))) (s : Option (List ℕ)) → n < length ps → slices_of base «data» (take n ps) ≡ Some stored → stored_at base «data» (get_or ps n absent_pair) ≡ Some s
    → slices_of base «data» (take (n + 1) ps) ≡ Some (stored ++ s ∷ [])
slices_more base «data» ps n stored s below are is =
    ap (slices_of base «data») (take_more ps n absent_pair below)
    ∙ (slices_joined base «data» (take n ps) (get_or ps n absent_pair ∷ [])
    ∙ (ap (λ (o : Option (List (Option (List ℕ)))). both o (slices_of base «data» (get_or ps n absent_pair ∷ []))) are ∙ ap (both (Some stored)) (one_slice base «data» (get_or ps n absent_pair) s is)))

-- a pair that lies outside
pub slices_none : (base : ℕ) («data» : List ℕ) (ps : List Pair) (n : ℕ) (stored : List (Option (List ℕ))) → n < length ps → slices_of base «data» (take n ps) ≡ Some stored → stored_at base «data» (get_or ps n absent_pair) ≡ None → slices_of base «data» ps ≡ None
slices_none base «data» ps n stored below are is =
    let rest = drop (n + 1) ps in
    let here : slices_of base «data» (get_or ps n absent_pair ∷ rest) ≡ None = ap (option_and_then (λ (first : Option (List ℕ)). option_map (λ (others : List (Option (List ℕ))). first ∷ others) (slices_of base «data» rest))) is in
    ap (slices_of base «data») (sym (take-append-drop n ps) ∙ ap (λ (l : List Pair). take n ps ++ l) (drop_more ps n absent_pair below))
    ∙ (slices_joined base «data» (take n ps) (get_or ps n absent_pair ∷ rest)
    ∙ (ap (λ (o : Option (List (Option (List ℕ)))). both o (slices_of base «data» (get_or ps n absent_pair ∷ rest))) are ∙ ap (both (Some stored)) here))

pub joined_more : (stored : List (Option (List ℕ))) (s : Option (List ℕ)) → joined_slices (stored ++ s ∷ []) ≡ joined_slices stored ++ slice_bytes s
joined_more [] s = append-nil (slice_bytes s)
joined_more (first ∷ stored) s = ap (λ (l : List ℕ). slice_bytes first ++ l) (joined_more stored s) ∙ sym (append_assoc (slice_bytes first) (joined_slices stored) (slice_bytes s))

pub pairs_more : (base : ℕ) (stored : List (Option (List ℕ))) (s : Option (List ℕ)) → pairs_from base (stored ++ s ∷ []) ≡ pairs_from base stored ++ pair_at (base + length (joined_slices stored)) s ∷ []
pairs_more base [] s = ap (λ n. pair_at n s ∷ []) (omega arith)
pairs_more base (first ∷ stored) s =
    let count = length-append (slice_bytes first) (joined_slices stored) in
    let here : base + length (slice_bytes first) + length (joined_slices stored) ≡ base + length (joined_slices (first ∷ stored)) = omega (arith, count) in
    ap (λ (l : List Pair). pair_at base first ∷ l) (pairs_more (base + length (slice_bytes first)) stored s ∙ ap (λ n. pairs_from (base + length (slice_bytes first)) stored ++ pair_at n s ∷ []) here)

-- there is a slice, or none, for each pair
pub slices_count : (base : ℕ) («data» : List ℕ) (ps : List Pair) (stored : List (Option (List ℕ))) → slices_of base «data» ps ≡ Some stored → length stored ≡ length ps
slices_count base «data» [] stored are = ap (λ (l : List (Option (List ℕ))). length l) (sym (some_same are))
slices_count base «data» (p ∷ ps) stored are =
    let found = bind_some (λ (first : Option (List ℕ)). option_map (λ (others : List (Option (List ℕ))). first ∷ others) (slices_of base «data» ps)) (stored_at base «data» p) stored are in
    let rest = map_some (λ (others : List (Option (List ℕ))). found.0 ∷ others) (slices_of base «data» ps) stored found.2 in
    let count = slices_count base «data» ps rest.0 rest.1 in
    let is = ap (λ (l : List (Option (List ℕ))). length l) rest.2 in omega (arith, count, is)

lent_some : (stored : Option (Bor (List ℕ))) → stored_lent (Some stored) ≡ Some (slice_lent stored)
lent_some None = refl
lent_some (Some slice) = refl

-- the slice that was found is one more
pub lent_more : (base : ℕ) («data» : List ℕ) (ps : List Pair) (n : ℕ) (stored : List (Option (List ℕ))) (slice : Option (Bor (List ℕ))) → n < length ps → slices_of base «data» (take n ps) ≡ Some stored
    → stored_lent (Some slice) ≡ stored_at base «data» (get_or ps n absent_pair) → slices_of base «data» (take (n + 1) ps) ≡ Some (stored ++ slice_lent slice ∷ [])
lent_more base «data» ps n stored slice below are is = slices_more base «data» ps n stored (slice_lent slice) below are (sym is ∙ lent_some slice)

pub joined_length : (stored : List (Option (List ℕ))) (s : Option (List ℕ)) → length (joined_slices (stored ++ s ∷ [])) ≡ length (joined_slices stored) + length (slice_bytes s)
joined_length stored s = ap length (joined_more stored s) ∙ length-append (joined_slices stored) (slice_bytes s)

-- the new index has as many pairs
pub copied_many : (base : ℕ) («data» : List ℕ) (pairs : List Pair) (made : Vec ℕ Global × ShardIndex) → Copies base «data» pairs (Some made) → length (pairs_of made.1) ≡ length pairs
copied_many base «data» pairs made h = ap (λ (l : List Pair). length l) h.3 ∙ (length-pairs_from h.0 base ∙ slices_count base «data» pairs h.0 h.1)
