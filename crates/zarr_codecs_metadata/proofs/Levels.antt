-- How deep chains nest in metadata.
use Rattle.std.proofs.Common.{◌≡◌, ℕ, zero, suc, ◌<◌, ◌≤◌, List, [], ◌∷◌, codes, bytes_eq, Bool, true, false, if◌then◌else◌, Option, Some, None, option_map, option_and_then, refl, ap, subst, arith}
use Rattle.serde_json.specs.Data.{Data, null, boolean, number, string, array, object, Items, no_items, item, Members, depth, items_depth, members_depth}
use Rattle.serde_json.specs.Find.{get_member, as_str}
use Rattle.zarr_grids_metadata.specs.ExtensionPoints.{ExtensionPoint, extension_point, point_of_members, configuration_in, configuration_members, flag_in}
use Rattle.zarr_grids_metadata.specs.Members.{has_only}
use Rattle.zarr_grids_metadata.proofs.PutLemmas.{depth_got}
use Rattle.zarr_codecs_meaning.specs.Chains.{ArrayCodec, Chain}
use Rattle.zarr_codecs_meaning.specs.Chains.Chain.{after_array_codec}
use Rattle.zarr_codecs_metadata.specs.ArrayCodecs.{array_codec_in}
use Rattle.zarr_codecs_metadata.specs.PackBits.{packbits_of}
use Rattle.zarr_codecs_metadata.specs.Sections.{names_vlen, names_optional, vlen_of, vlen_with, width_in, location_in, optional_of, optional_with}
use Rattle.zarr_codecs_metadata.specs.Chains.{ReadsCodecs, ReadsCodec, bytes_of, with_byte_codecs, bytes_chain_by, chain_by, points_in, listed_chain_by, listed_chain, array_to_bytes_by, array_to_bytes_within, array_to_bytes_in, point_depth}

-- ---- extension points nest less deep than the values that say them

configuration_less : (o : Option Data) (c : Option Members) (limit : ℕ) → configuration_in o ≡ Some c → ((d : Data) → o ≡ Some d → depth d ≤ limit) → members_depth (configuration_members c) ≤ limit
configuration_less None c limit is h = let e : c ≡ None = cc in let g = ap (λ (c : Option Members). members_depth (configuration_members c)) e in omega arith
configuration_less (Some null) c limit is h = cc
configuration_less (Some (boolean b)) c limit is h = cc
configuration_less (Some (number x)) c limit is h = cc
configuration_less (Some (string s)) c limit is h = cc
configuration_less (Some (array ds)) c limit is h = cc
configuration_less (Some (object ms)) c limit is h =
    let e : c ≡ Some ms = cc in
    let g = ap (λ (c : Option Members). members_depth (configuration_members c)) e in
    let k = h (object ms) refl in
    omega arith

point_at : (b : Bool) (n : Option (List ℕ)) (o : Option (Option Members)) (flag : Option Bool) (q : ExtensionPoint)
    → (if b then option_and_then (λ name. option_and_then (λ configuration. option_map (λ must_understand. record { name = name; configuration = configuration; must_understand = must_understand }) flag) o) n else None) ≡ Some q → o ≡ Some q.configuration
point_at false n o flag q is = cc
point_at true None o flag q is = cc
point_at true (Some name) None flag q is = cc
point_at true (Some name) (Some c) None q is = cc
point_at true (Some name) (Some c) (Some b) q is = ap (option_map (λ (p : ExtensionPoint). p.configuration)) is

members_less : (ms : Members) (q : ExtensionPoint) → point_of_members ms ≡ Some q → point_depth q ≤ members_depth ms
members_less ms q is =
    let o = get_member (codes "configuration") ms in
    let there = point_at (has_only (codes "name" ∷ codes "configuration" ∷ codes "must_understand" ∷ []) ms) (option_and_then as_str (get_member (codes "name") ms)) (configuration_in o) (flag_in (get_member (codes "must_understand") ms)) q is in
    configuration_less o q.configuration (members_depth ms) there (λ d e. depth_got (codes "configuration") d ms e)

pub point_less : (d : Data) (q : ExtensionPoint) → extension_point d ≡ Some q → point_depth q ≤ depth d
point_less null q is = cc
point_less (boolean b) q is = cc
point_less (number x) q is = cc
point_less (string s) q is =
    let g : 0 ≡ point_depth q = ap (λ (o : Option ExtensionPoint). elim o [ None ↦ 0 | Some p ↦ point_depth p ]) is in
    omega arith
point_less (array ds) q is = cc
point_less (object ms) q is = let less = members_less ms q is in omega arith

-- ---- readers that answer alike where extension points nest at most so deep

-- whether two readers answer alike for extension points that nest at most so deep
abbrev Alike : ℕ → ReadsCodec → ReadsCodec → Type 0
Alike n f g = (p : ExtensionPoint) → point_depth p ≤ n → f p ≡ g p

-- that each of these extension points nests at most so deep
abbrev AllWithin : ℕ → List ExtensionPoint → Type 0
AllWithin n [] = Unit {0}
AllWithin n (p ∷ ps) = (point_depth p ≤ n) × AllWithin n ps

and_all : (n : ℕ) (p : ExtensionPoint) (o : Option (List ExtensionPoint)) (points : List ExtensionPoint) → point_depth p ≤ n → ((ps : List ExtensionPoint) → o ≡ Some ps → AllWithin n ps)
    → option_map (λ ps. p ∷ ps) o ≡ Some points → AllWithin n points
and_all n p None points h k is = cc
and_all n p (Some ps) [] h k is = cc
and_all n p (Some ps) (q ∷ qs) h k is =
    let e : p ≡ q = cc in
    let f : ps ≡ qs = cc in
    let g = ap point_depth e in
    (omega arith, subst (AllWithin n) f (k ps refl))

items_within : (n : ℕ) (ds : Items) (points : List ExtensionPoint) → items_depth ds ≤ n → points_in ds ≡ Some points → AllWithin n points
items_within n no_items [] h is = tt
items_within n no_items (p ∷ ps) h is = cc
items_within n (item d ds) points h is = at (extension_point d) (λ ps k. let rest : items_depth ds ≤ n = omega arith in items_within n ds ps rest k) refl is where
  at : (o : Option ExtensionPoint) → ((ps : List ExtensionPoint) → points_in ds ≡ Some ps → AllWithin n ps) → extension_point d ≡ o
      → option_and_then (λ point. option_map (λ points. point ∷ points) (points_in ds)) o ≡ Some points → AllWithin n points
  at None rest e is = cc
  at (Some q) rest e is =
      let less = point_less d q e in
      let one : point_depth q ≤ n = omega arith in
      and_all n q (points_in ds) points one rest is

-- a chain, by what its first extension point is as an array codec
abbrev chain_at : ReadsCodecs → ReadsCodec → ExtensionPoint → List ExtensionPoint → Option ArrayCodec → Option Chain
chain_at reads f p ps o = elim o [ Some first ↦ option_map (after_array_codec first) (chain_by reads f ps) | None ↦ bytes_chain_by reads f (p ∷ ps) ]

chain_alike : (reads : ReadsCodecs) (n : ℕ) (f g : ReadsCodec) → Alike n f g → (points : List ExtensionPoint) → AllWithin n points → chain_by reads f points ≡ chain_by reads g points
chain_alike reads n f g alike [] within = refl
chain_alike reads n f g alike (p ∷ ps) within = at (array_codec_in p) (chain_alike reads n f g alike ps within.1) where
  at : (o : Option ArrayCodec) → chain_by reads f ps ≡ chain_by reads g ps → chain_at reads f p ps o ≡ chain_at reads g p ps o
  at (Some first) rest = ap (option_map (after_array_codec first)) rest
  at None rest = ap (option_and_then (λ chain. with_byte_codecs reads chain ps)) (alike p within.0)

list_alike : (reads : ReadsCodecs) (n : ℕ) (f g : ReadsCodec) → Alike n f g → (o : Option (List ExtensionPoint)) → ((points : List ExtensionPoint) → o ≡ Some points → AllWithin n points)
    → option_and_then (chain_by reads f) o ≡ option_and_then (chain_by reads g) o
list_alike reads n f g alike None within = refl
list_alike reads n f g alike (Some points) within = chain_alike reads n f g alike points (within points refl)

listed_alike : (reads : ReadsCodecs) (n : ℕ) (f g : ReadsCodec) → Alike n f g → (d : Data) → depth d ≤ suc n → listed_chain_by reads f d ≡ listed_chain_by reads g d
listed_alike reads n f g alike null h = refl
listed_alike reads n f g alike (boolean b) h = refl
listed_alike reads n f g alike (number x) h = refl
listed_alike reads n f g alike (string s) h = refl
listed_alike reads n f g alike (array ds) h = let less : items_depth ds ≤ n = omega arith in list_alike reads n f g alike (points_in ds) (λ points is. items_within n ds points less is)
listed_alike reads n f g alike (object ms) h = refl

member_alike : (h k : Data → Option Chain) (ms : Members) → ((d : Data) → depth d ≤ members_depth ms → h d ≡ k d) → (name : List ℕ) → option_and_then h (get_member name ms) ≡ option_and_then k (get_member name ms)
member_alike h k ms same name = at (get_member name ms) refl where
  at : (o : Option Data) → get_member name ms ≡ o → option_and_then h o ≡ option_and_then k o
  at None is = refl
  at (Some d) is = same d (depth_got name d ms is)

by_alike : (h k : Data → Option Chain) (point : ExtensionPoint) → ((d : Data) → depth d ≤ point_depth point → h d ≡ k d) → array_to_bytes_by h point ≡ array_to_bytes_by k point
by_alike h k point same =
    let ms = configuration_members point.configuration in
    let member = member_alike h k ms same in
    let vlens : vlen_of h ms ≡ vlen_of k ms =
    ap (λ (o : Option Chain × Option Chain). if has_only (codes "index_codecs" ∷ codes "data_codecs" ∷ codes "index_data_type" ∷ codes "index_location" ∷ []) ms
    then vlen_with o.0 o.1 (width_in (get_member (codes "index_data_type") ms)) (location_in (get_member (codes "index_location") ms)) else None) (λ i. (member (codes "index_codecs") i, member (codes "data_codecs") i)) in
    let optionals : optional_of h ms ≡ optional_of k ms =
    ap (λ (o : Option Chain × Option Chain). if has_only (codes "mask_codecs" ∷ codes "data_codecs" ∷ []) ms then optional_with o.0 o.1 else None) (λ i. (member (codes "mask_codecs") i, member (codes "data_codecs") i)) in
    ap (λ (o : Option Chain × Option Chain). if bytes_eq point.name (codes "bytes") then bytes_of ms
    else (if bytes_eq point.name (codes "packbits") then packbits_of ms
    else (if names_vlen point.name then o.0
    else (if names_optional point.name then o.1 else None)))) (λ i. (vlens i, optionals i))

-- two readers of array to bytes codecs, by readers that answer alike for what nests less deep
by_levels : (reads : ReadsCodecs) (f g : ReadsCodec) (point : ExtensionPoint) → ((p : ExtensionPoint) → point_depth p < point_depth point → f p ≡ g p)
    → array_to_bytes_by (listed_chain_by reads f) point ≡ array_to_bytes_by (listed_chain_by reads g) point
by_levels reads f g point alike = by_alike (listed_chain_by reads f) (listed_chain_by reads g) point within where
  within : (d : Data) → depth d ≤ point_depth point → listed_chain_by reads f d ≡ listed_chain_by reads g d
  within null less = refl
  within (boolean b) less = refl
  within (number x) less = refl
  within (string s) less = refl
  within (array ds) less = listed_alike reads (items_depth ds) f g (λ p below. let one : point_depth p < point_depth point = omega arith in alike p one) (array ds) (omega arith)
  within (object ms) less = refl

-- more levels than the configuration has say no more
pub levels_alike : (reads : ReadsCodecs) (n m : ℕ) (point : ExtensionPoint) → point_depth point < n → point_depth point < m → array_to_bytes_within reads n point ≡ array_to_bytes_within reads m point
levels_alike reads zero m point h k = absurd (omega arith)
levels_alike reads (suc n) zero point h k = absurd (omega arith)
levels_alike reads (suc n) (suc m) point h k = by_levels reads (array_to_bytes_within reads n) (array_to_bytes_within reads m) point (λ p below.
    let one : point_depth p < n = omega arith in
    let two : point_depth p < m = omega arith in
    levels_alike reads n m p one two)

-- what an extension point says, without levels
pub nested : (reads : ReadsCodecs) (point : ExtensionPoint) → array_to_bytes_in reads point ≡ array_to_bytes_by (listed_chain reads) point
nested reads point = by_levels reads (array_to_bytes_within reads (point_depth point)) (array_to_bytes_in reads) point (λ p below.
    let two : point_depth p < suc (point_depth p) = omega arith in
    levels_alike reads (point_depth point) (suc (point_depth p)) p below two)
