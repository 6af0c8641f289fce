-- Elements one after another.
use Rattle.std.proofs.Common.{◌≡◌, ℕ, suc, ◌+◌, ◌-◌, ◌/◌, ◌%◌, ◌<◌, ◌≤◌, List, [], ◌∷◌, ◌++◌, length, get_or, map, take, drop, ap, ◌∙◌, sym, refl, arith, Some, None, Option, Result, Bool, true, ◌&&◌, ◌==◌, if◌then◌else◌, option_map, option_and_then, append_assoc, length-append, length-drop}
use Rattle.std.specs.Prelude.{nat_le}
use Rattle.std.proofs.Math.Nat.{mul-add-mod_self_right}
use Rattle.std.proofs.Math.Seq.{drop-append-add}
use Rattle.std.proofs.lemmas.Bool.{le-leb, leb-true, eq-eqb, eqb-true, and_parts}
use Rattle.std.proofs.lemmas.List.{drop-append-le, take-append-le, drop-drop, take_more}
use Rattle.zarr_codecs_meaning.specs.Types.{DataType, byte_width, is_variable, optional_of, Cell, of_bytes}
use Rattle.zarr_codecs_meaning.specs.Payloads.{Payload, fixed, variable, optional, fixed_cells, fixed_in, bytes_between, variable_in, masked, masked_in, cells_in}
use Rattle.zarr_codecs_meaning.proofs.Lists.{bind_some, map_some, if_some, some_same}
use Rattle.std.specs.Prelude.{IfOk}
use Rattle.std.proofs.lemmas.Result.{IfOk-weaker}
use Rattle.std.specs.declared.alloc.AllocError.{AllocError}
use Rattle.zarr_codecs_arrays.specs.Joined.{IsVariable}
use Rattle.zarr_codecs_arrays.specs.Views.{payload_of}
use Rattle.zarr_codecs_arrays.specs.declared.array_bytes.ArrayBytes.{ArrayBytes}
use Rattle.zarr_codecs_arrays.specs.Offsets.{are_rising}
use Rattle.zarr_codecs_arrays.proofs.FixedCells.{fixed_in-some, fixed_in-whole, fixed_cells-append, whole_length}
use Rattle.zarr_codecs_arrays.proofs.Masks.{masked_parts}

map-append : {X Y : Type 0} (f : X → Y) (xs ys : List X) → map f (xs ++ ys) ≡ map f xs ++ map f ys
map-append f [] ys = refl
map-append f (x ∷ xs) ys = ap (λ zs. f x ∷ zs) (map-append f xs ys)

-- ---- offsets

at_end : (xs : List ℕ) (n : ℕ) → get_or (xs ++ n ∷ []) (length xs) 0 ≡ n
at_end [] n = refl
at_end (x ∷ xs) n = at_end xs n

-- the last of some offsets, to which one was appended
pub last_more : (xs : List ℕ) (n : ℕ) → get_or (xs ++ n ∷ []) (length (xs ++ n ∷ []) - 1) 0 ≡ n
last_more xs n =
    let e : length (xs ++ n ∷ []) - 1 ≡ length xs = ap (λ k. k - 1) (length-append xs (n ∷ [])) ∙ omega arith in
    ap (λ k. get_or (xs ++ n ∷ []) k 0) e ∙ at_end xs n

last_behind : (x y : ℕ) (ys : List ℕ) → get_or (x ∷ y ∷ ys) (length (x ∷ y ∷ ys) - 1) 0 ≡ get_or (y ∷ ys) (length (y ∷ ys) - 1) 0
last_behind x y ys =
    let e : length (x ∷ y ∷ ys) - 1 ≡ suc (length ys) = omega arith in
    let f : length (y ∷ ys) - 1 ≡ length ys = omega arith in
    ap (λ k. get_or (x ∷ y ∷ ys) k 0) e ∙ sym (ap (λ k. get_or (y ∷ ys) k 0) f)

-- offsets to which one was appended that is not less than the last one
pub rising_more : (xs : List ℕ) (n : ℕ) → are_rising xs ≡ true → get_or xs (length xs - 1) 0 ≤ n → are_rising (xs ++ n ∷ []) ≡ true
rising_more [] n h l = cc
rising_more (x ∷ []) n h l = ap (λ (b : Bool). b && true) (le-leb x n l)
rising_more (x ∷ y ∷ ys) n h l =
    let both = and_parts (nat_le x y) (are_rising (y ∷ ys)) h in
    let e = last_behind x y ys in
    ap (λ (b : Bool). b && are_rising (y ∷ (ys ++ n ∷ []))) both.0 ∙ rising_more (y ∷ ys) n both.1 (omega (arith, e, l))

-- where further elements end, behind as many bytes as there are
abbrev pub moved : ℕ → ℕ → List ℕ → List ℕ
moved base start ends = map (λ end. base + (end - start)) ends

-- one offset more
pub ends_more : (init offsets made ends : List ℕ) (base start before i next : ℕ) → i < length ends → offsets ≡ init ++ moved base start (take i ends) → are_rising offsets ≡ true → get_or offsets (length offsets - 1) 0 ≡ base + (before - start) → start ≤ before
    → before ≤ get_or ends i 0 → next ≡ base + (get_or ends i 0 - start) → made ≡ offsets ++ next ∷ []
    → (made ≡ init ++ moved base start (take (i + 1) ends)) × (are_rising made ≡ true) × (get_or made (length made - 1) 0 ≡ base + (get_or ends i 0 - start)) × (start ≤ get_or ends i 0)
ends_more init offsets made ends base start before i next below are rising last low high is made_is = (
  made_is
      ∙ (ap (λ ns. ns ++ next ∷ []) are
      ∙ (append_assoc init (moved base start (take i ends)) (next ∷ [])
      ∙ ap (λ ns. init ++ ns) (ap (λ n. moved base start (take i ends) ++ n ∷ []) is ∙ (sym (map-append (λ end. base + (end - start)) (take i ends) (get_or ends i 0 ∷ [])) ∙ ap (moved base start) (sym (take_more ends i 0 below)))))),
  ap are_rising made_is ∙ rising_more offsets next rising (omega (arith, last, is, low, high)),
  ap (λ ns. get_or ns (length ns - 1) 0) made_is ∙ (last_more offsets next ∙ is),
  omega (arith, low, high),
)

-- ---- elements of variable length

between_end : (start : ℕ) (ends bytes : List ℕ) (pieces : List (List ℕ)) → bytes_between start ends bytes ≡ Some pieces → start ≤ length bytes
between_end start [] bytes pieces h =
    let found = if_some (start == length bytes) (Some []) pieces h in
    let e = eqb-true start (length bytes) found.0 in
    omega (arith, e)
between_end start (end ∷ ends) bytes pieces h =
    let found = if_some (nat_le start end) (option_map (λ rest. take (end - start) (drop start bytes) ∷ rest) (bytes_between end ends bytes)) pieces h in
    let two = map_some (λ rest. take (end - start) (drop start bytes) ∷ rest) (bytes_between end ends bytes) pieces found.1 in
    let low = leb-true start end found.0 in
    let high = between_end end ends bytes two.0 two.1 in
    omega (arith, low, high)

none_before : (o : Option (List (List ℕ))) → o ≡ option_map (λ rest. [] ++ rest) o
none_before None = refl
none_before (Some pieces) = refl

map_map : {X Y Z : Type 0} (f : Y → Z) (g : X → Y) (o : Option X) → option_map f (option_map g o) ≡ option_map (λ x. f (g x)) o
map_map f g None = refl
map_map f g (Some x) = refl

-- what offsets cut stays where further offsets and bytes follow
front_between : (start : ℕ) (ends more bytes others : List ℕ) (pieces : List (List ℕ)) → bytes_between start ends bytes ≡ Some pieces
    → bytes_between start (ends ++ more) (bytes ++ others) ≡ option_map (λ rest. pieces ++ rest) (bytes_between (length bytes) more (bytes ++ others))
front_between start [] more bytes others pieces h =
    let found = if_some (start == length bytes) (Some []) pieces h in
    let e = eqb-true start (length bytes) found.0 in
    let others_cut = bytes_between (length bytes) more (bytes ++ others) in
    ap (λ s. bytes_between s more (bytes ++ others)) e ∙ (none_before others_cut ∙ ap (λ (ps : List (List ℕ)). option_map (λ rest. ps ++ rest) others_cut) (some_same found.1))
front_between start (end ∷ ends) more bytes others pieces h =
    let piece = take (end - start) (drop start bytes) in
    let found = if_some (nat_le start end) (option_map (λ rest. piece ∷ rest) (bytes_between end ends bytes)) pieces h in
    let two = map_some (λ rest. piece ∷ rest) (bytes_between end ends bytes) pieces found.1 in
    let low = leb-true start end found.0 in
    let high = between_end end ends bytes two.0 two.1 in
    let rest = front_between end ends more bytes others two.0 two.1 in
    let room = length-drop start bytes in
    let same : take (end - start) (drop start (bytes ++ others)) ≡ piece = ap (take (end - start)) (drop-append-le start bytes others (omega (arith, low, high))) ∙ take-append-le (end - start) (drop start bytes) others (omega (arith, low, high, room)) in
    let after = bytes_between (length bytes) more (bytes ++ others) in
    ap (λ (b : Bool). if b then option_map (λ rest. take (end - start) (drop start (bytes ++ others)) ∷ rest) (bytes_between end (ends ++ more) (bytes ++ others)) else None) found.0
    ∙ (ap (option_map (λ rest. take (end - start) (drop start (bytes ++ others)) ∷ rest)) rest
    ∙ (map_map (λ rest. take (end - start) (drop start (bytes ++ others)) ∷ rest) (λ rest. two.0 ++ rest) after
    ∙ (ap (λ (p : List ℕ). option_map (λ rest. p ∷ (two.0 ++ rest)) after) same
    ∙ ap (λ (ps : List (List ℕ)). option_map (λ rest. ps ++ rest) after) two.2)))

-- what offsets cut stays where the bytes stand behind others and the offsets go on from there
back_between : (start k : ℕ) (ends bytes others : List ℕ) (pieces : List (List ℕ)) → start ≤ k → start ≤ length others → bytes_between k ends others ≡ Some pieces
    → bytes_between (length bytes + (k - start)) (map (λ end. length bytes + (end - start)) ends) (bytes ++ drop start others) ≡ Some pieces
back_between start k [] bytes others pieces low room h =
    let found = if_some (k == length others) (Some []) pieces h in
    let e = eqb-true k (length others) found.0 in
    let long : length bytes + (k - start) ≡ length (bytes ++ drop start others) = sym (length-append bytes (drop start others) ∙ (ap (λ n. length bytes + n) (length-drop start others) ∙ omega (arith, e))) in
    ap (λ (b : Bool). if b then Some [] else None) (eq-eqb (length bytes + (k - start)) (length (bytes ++ drop start others)) long) ∙ found.1
back_between start k (end ∷ ends) bytes others pieces low room h =
    let piece = take (end - k) (drop k others) in
    let found = if_some (nat_le k end) (option_map (λ rest. piece ∷ rest) (bytes_between end ends others)) pieces h in
    let two = map_some (λ rest. piece ∷ rest) (bytes_between end ends others) pieces found.1 in
    let next = leb-true k end found.0 in
    let whole = bytes ++ drop start others in
    let from = length bytes + (k - start) in
    let to = length bytes + (end - start) in
    let moved = map (λ end. length bytes + (end - start)) ends in
    let rest = back_between start end ends bytes others two.0 (omega (arith, low, next)) room two.1 in
    let many : to - from ≡ end - k = omega (arith, low, next) in
    let at : start + (k - start) ≡ k = omega (arith, low) in
    let dropped : drop from whole ≡ drop k others = drop-append-add bytes (drop start others) (k - start) ∙ (drop-drop (k - start) start others ∙ ap (λ n. drop n others) at) in
    let same : take (to - from) (drop from whole) ≡ piece = ap (λ n. take n (drop from whole)) many ∙ ap (take (end - k)) dropped in
    ap (λ (b : Bool). if b then option_map (λ rest. take (to - from) (drop from whole) ∷ rest) (bytes_between to moved whole) else None) (le-leb from to (omega (arith, low, next)))
    ∙ (ap (option_map (λ rest. take (to - from) (drop from whole) ∷ rest)) rest
    ∙ (ap (λ (p : List ℕ). Some (p ∷ two.0)) same ∙ ap Some two.2))

joined_cut : (start : ℕ) (ends first : List ℕ) (begin : ℕ) (bytes others : List ℕ) (front back : List Cell) → option_map (map of_bytes) (bytes_between begin first bytes) ≡ Some front → option_map (map of_bytes) (bytes_between start ends others) ≡ Some back
    → option_map (map of_bytes) (bytes_between begin (first ++ map (λ end. length bytes + (end - start)) ends) (bytes ++ drop start others)) ≡ Some (front ++ back)
joined_cut start ends first begin bytes others front back one two =
    let a = map_some (map of_bytes) (bytes_between begin first bytes) front one in
    let b = map_some (map of_bytes) (bytes_between start ends others) back two in
    let none : length bytes ≡ length bytes + (start - start) = omega arith in
    let moved = map (λ end. length bytes + (end - start)) ends in
    let whole = bytes ++ drop start others in
    let behind : bytes_between (length bytes) moved whole ≡ Some b.0 = ap (λ n. bytes_between n moved whole) none ∙ back_between start start ends bytes others b.0 (omega arith) (between_end start ends others b.0 b.1) b.1 in
    ap (option_map (map of_bytes)) (front_between begin first moved bytes (drop start others) a.0 a.1 ∙ ap (option_map (λ rest. a.0 ++ rest)) behind)
    ∙ ap Some (map-append of_bytes a.0 b.0 ∙ (ap (λ cs. cs ++ map of_bytes b.0) a.2 ∙ ap (λ cs. front ++ cs) b.2))

-- elements of variable length, and after them others
pub variable_joined : (offsets bytes cuts others : List ℕ) (start : ℕ) (ends : List ℕ) (front back : List Cell) → cuts ≡ start ∷ ends → variable_in offsets bytes ≡ Some front → variable_in cuts others ≡ Some back
    → variable_in (offsets ++ map (λ end. length bytes + (end - start)) ends) (bytes ++ drop start others) ≡ Some (front ++ back)
variable_joined [] bytes cuts others start ends front back is one two = cc
variable_joined (begin ∷ first) bytes cuts others start ends front back is one two = joined_cut start ends first begin bytes others front back one (sym (ap (λ ns. variable_in ns others) is) ∙ two)

-- ---- elements of one width

pub fixed_joined : (width : ℕ) (bytes others : List ℕ) (front back : List Cell) → fixed_in width bytes ≡ Some front → fixed_in width others ≡ Some back → fixed_in width (bytes ++ others) ≡ Some (front ++ back)
fixed_joined width bytes others front back one two =
    let a = fixed_in-whole width bytes front one in
    let b = fixed_in-whole width others back two in
    let even : length (bytes ++ others) % width ≡ 0 =
    ap (λ n. n % width) (length-append bytes others ∙ ap (λ n. n + length others) (whole_length width bytes a.whole))
    ∙ (mul-add-mod_self_right (length bytes / width) width (length others) ∙ b.whole) in
    fixed_in-some width (bytes ++ others) a.positive even
    ∙ ap Some (fixed_cells-append width bytes others a.positive a.whole ∙ (ap (λ cs. cs ++ fixed_cells width others) (sym a.is) ∙ ap (λ cs. front ++ cs) (sym b.is)))

-- ---- elements that may be absent

pub masked_joined : (below others : List Cell) (mask marks : List ℕ) (front back : List Cell) → masked_in below mask ≡ Some front → masked_in others marks ≡ Some back → masked_in (below ++ others) (mask ++ marks) ≡ Some (front ++ back)
masked_joined [] others [] marks front back one two = two ∙ ap (λ cs. Some (cs ++ back)) (some_same one)
masked_joined [] others (m ∷ mask) marks front back one two = cc
masked_joined (c ∷ below) others [] marks front back one two = cc
masked_joined (c ∷ below) others (m ∷ mask) marks front back one two =
    let first = bind_some (λ first. option_map (λ others. first ∷ others) (masked_in below mask)) (masked c m) front one in
    let rest = map_some (λ others. first.0 ∷ others) (masked_in below mask) front first.2 in
    ap (option_and_then (λ first. option_map (λ others. first ∷ others) (masked_in (below ++ others) (mask ++ marks)))) first.1
    ∙ (ap (option_map (λ others. first.0 ∷ others)) (masked_joined below others mask marks rest.0 back rest.1 two)
    ∙ ap (λ cs. Some (cs ++ back)) rest.2)

-- ---- of a data type

pub fixed_of_type : (type : DataType) (bytes others made : List ℕ) (front back : List Cell) → made ≡ bytes ++ others → cells_in type (fixed bytes) ≡ Some front → cells_in type (fixed others) ≡ Some back → cells_in type (fixed made) ≡ Some (front ++ back)
fixed_of_type type bytes others made front back is one two = at_width (byte_width type) one two where
  at_width : (o : Option ℕ) → option_and_then (λ width. fixed_in width bytes) o ≡ Some front → option_and_then (λ width. fixed_in width others) o ≡ Some back → option_and_then (λ width. fixed_in width made) o ≡ Some (front ++ back)
  at_width None a b = cc
  at_width (Some width) a b = ap (fixed_in width) is ∙ fixed_joined width bytes others front back a b

pub fixed_payloads : (type : DataType) (first second : Payload) (bytes others : List ℕ) (front back : List Cell) (r : Result ArrayBytes AllocError) → first ≡ fixed bytes → second ≡ fixed others → IfOk r (λ made. payload_of made ≡ fixed (bytes ++ others))
    → cells_in type first ≡ Some front → cells_in type second ≡ Some back → IfOk r (λ made. cells_in type (payload_of made) ≡ Some (front ++ back))
fixed_payloads type first second bytes others front back r a b is one two =
    IfOk-weaker r (λ made. payload_of made ≡ fixed (bytes ++ others)) (λ made. cells_in type (payload_of made) ≡ Some (front ++ back))
    (λ made e. ap (cells_in type) e ∙ fixed_of_type type bytes others (bytes ++ others) front back refl (sym (ap (cells_in type) a) ∙ one) (sym (ap (cells_in type) b) ∙ two)) is

pub variable_payloads : (type : DataType) (first second : Payload) (bytes offsets others cuts : List ℕ) (front back : List Cell) (r : Result ArrayBytes AllocError) → first ≡ variable bytes offsets → second ≡ variable others cuts
    → ((front back : List Cell) → variable_in offsets bytes ≡ Some front → variable_in cuts others ≡ Some back → IfOk r (IsVariable (front ++ back)))
    → cells_in type first ≡ Some front → cells_in type second ≡ Some back → IfOk r (λ made. cells_in type (payload_of made) ≡ Some (front ++ back))
variable_payloads type first second bytes offsets others cuts front back r a b law one two =
    let x = if_some (is_variable type) (variable_in offsets bytes) front (sym (ap (cells_in type) a) ∙ one) in
    let y = if_some (is_variable type) (variable_in cuts others) back (sym (ap (cells_in type) b) ∙ two) in
    IfOk-weaker r (IsVariable (front ++ back)) (λ made. cells_in type (payload_of made) ≡ Some (front ++ back))
    (λ made is. ap (cells_in type) is.are ∙ (ap (λ (b : Bool). if b then variable_in is.offsets is.bytes else None) x.0 ∙ is.cut)) (law front back x.1 y.1)

pub masked_payloads : (whole type : DataType) (first second inner others made : Payload) (mask marks : List ℕ) (front back : List Cell) (r : Result ArrayBytes AllocError) → whole ≡ optional_of type → first ≡ optional inner mask → second ≡ optional others marks
    → ((front back : List Cell) → cells_in type inner ≡ Some front → cells_in type others ≡ Some back → cells_in type made ≡ Some (front ++ back)) → IfOk r (λ a. payload_of a ≡ optional made (mask ++ marks))
    → cells_in whole first ≡ Some front → cells_in whole second ≡ Some back → IfOk r (λ a. cells_in whole (payload_of a) ≡ Some (front ++ back))
masked_payloads whole type first second inner others made mask marks front back r t a b law is one two =
    let x = masked_parts whole type first inner mask front t a one in
    let y = masked_parts whole type second others marks back t b two in
    IfOk-weaker r (λ a. payload_of a ≡ optional made (mask ++ marks)) (λ a. cells_in whole (payload_of a) ≡ Some (front ++ back))
    (λ a e. ap (cells_in whole) e ∙ (ap (λ k. cells_in k (optional made (mask ++ marks))) t
    ∙ (ap (option_and_then (λ cs. masked_in cs (mask ++ marks))) (law x.below y.below x.inside y.inside) ∙ masked_joined x.below y.below mask marks front back x.marked y.marked))) is
