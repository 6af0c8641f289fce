-- Chains inside of `vlen` and `optional`, read from their configurations.
use Rattle.std.proofs.Common.{◌≡◌, ℕ, zero, suc, ◌<◌, ◌≤◌, max, List, [], ◌∷◌, codes, map, drop, Bool, true, false, if◌then◌else◌, ap, ◌∙◌, refl, sym, arith, Option, Some, None, option_map, option_and_then}
use Rattle.std.proofs.lemmas.List.{drop-map}
use Rattle.serde_json.specs.Data.{Data, null, boolean, number, string, array, object, Items, no_items, item, Members, depth, items_depth, members_depth}
use Rattle.serde_json.specs.Find.{get_member, as_array}
use Rattle.zarr_grids_metadata.specs.ExtensionPoints.{ExtensionPoint, extension_point}
use Rattle.zarr_grids_metadata.specs.Members.{has_only}
use Rattle.zarr_grids_metadata.specs.Views.{point_view}
use Rattle.zarr_grids_metadata.specs.declared.extension_point.ExtensionPoint as lent
use Rattle.zarr_grids_metadata.proofs.PutLemmas.{depth_got}
use Rattle.zarr_codecs_meaning.specs.Chains.{Chain, Location}
use Rattle.zarr_codecs_metadata.specs.Chains.{ReadsCodecs, chain_of, listed_chain, point_depth, points_in}
use Rattle.zarr_codecs_metadata.specs.Sections.{width_in, location_in, vlen_with, vlen_of, optional_with, optional_of}
use Rattle.zarr_codecs_metadata.proofs.Levels.{point_less}
use Rattle.zarr_codecs_configurations.specs.Reading.{VlenPoints, OptionalPoints, listed_points, vlen_index_in, vlen_points_in, optional_points_in}

-- ---- what they say

-- `vlen` with what it is configured by
abbrev pub vlen_by : ReadsCodecs → VlenPoints → Option Chain
vlen_by reads given = vlen_with (chain_of reads given.index) (chain_of reads given.content) (Some given.width) (Some given.location)

-- `optional` with what it is configured by
abbrev pub optional_by : ReadsCodecs → OptionalPoints → Option Chain
optional_by reads given = optional_with (chain_of reads given.mask) (chain_of reads given.content)

listed_in : (reads : ReadsCodecs) (o : Option Data) → option_and_then (listed_chain reads) o ≡ option_and_then (chain_of reads) (option_and_then points_in (option_and_then as_array o))
listed_in reads None = refl
listed_in reads (Some d) = refl

no_width : (x y : Option Chain) (l : Option Location) → vlen_with x y None l ≡ None
no_width None y l = refl
no_width (Some x) None l = refl
no_width (Some x) (Some y) l = refl

no_location : (x y : Option Chain) (w : Option ℕ) → vlen_with x y w None ≡ None
no_location None y w = refl
no_location (Some x) None w = refl
no_location (Some x) (Some y) None = refl
no_location (Some x) (Some y) (Some w) = refl

no_content : (x : Option Chain) (w : Option ℕ) (l : Option Location) → vlen_with x None w l ≡ None
no_content None w l = refl
no_content (Some x) w l = refl

abbrev index_with : Bool → Option ℕ → Option Location → Option (ℕ × Location)
index_with b w l = if b then option_and_then (λ width. option_map (λ location. (width, location)) l) w else None

abbrev points_with : Option (ℕ × Location) → Option (List ExtensionPoint) → Option (List ExtensionPoint) → Option VlenPoints
points_with told i c = option_and_then (λ told. option_and_then (λ index. option_map (λ content. record { index = index; content = content; width = told.0; location = told.1 }) c) i) told

vlen_at : (reads : ReadsCodecs) (b : Bool) (w : Option ℕ) (l : Option Location) (i c : Option (List ExtensionPoint))
    → (if b then vlen_with (option_and_then (chain_of reads) i) (option_and_then (chain_of reads) c) w l else None) ≡ option_and_then (vlen_by reads) (points_with (index_with b w l) i c)
vlen_at reads false w l i c = refl
vlen_at reads true None l i c = no_width (option_and_then (chain_of reads) i) (option_and_then (chain_of reads) c) l
vlen_at reads true (Some w) None i c = no_location (option_and_then (chain_of reads) i) (option_and_then (chain_of reads) c) (Some w)
vlen_at reads true (Some w) (Some l) None c = refl
vlen_at reads true (Some w) (Some l) (Some i) None = no_content (chain_of reads i) (Some w) (Some l)
vlen_at reads true (Some w) (Some l) (Some i) (Some c) = refl

-- a configuration of `vlen` says what the lists in it say
pub vlen_as : (reads : ReadsCodecs) (ms : Members) → vlen_of (listed_chain reads) ms ≡ option_and_then (vlen_by reads) (vlen_points_in ms)
vlen_as reads ms =
    let width = width_in (get_member (codes "index_data_type") ms) in
    let location = location_in (get_member (codes "index_location") ms) in
    let only = has_only (codes "index_codecs" ∷ codes "data_codecs" ∷ codes "index_data_type" ∷ codes "index_location" ∷ []) ms in
    ap (λ (o : Option Chain × Option Chain). if only then vlen_with o.0 o.1 width location else None) (λ i. (listed_in reads (get_member (codes "index_codecs") ms) i, listed_in reads (get_member (codes "data_codecs") ms) i))
    ∙ vlen_at reads only width location (listed_points (codes "index_codecs") ms) (listed_points (codes "data_codecs") ms)

-- what `vlen` is, by the chains that its lists say
pub vlen_done : (reads : ReadsCodecs) (ms : Members) (v : VlenPoints) (i c : Option Chain) → vlen_points_in ms ≡ Some v → chain_of reads v.index ≡ i → chain_of reads v.content ≡ c
    → vlen_of (listed_chain reads) ms ≡ vlen_with i c (Some v.width) (Some v.location)
vlen_done reads ms v i c is one two =
    vlen_as reads ms
    ∙ (ap (option_and_then (vlen_by reads)) is ∙ ap (λ (o : Option Chain × Option Chain). vlen_with o.0 o.1 (Some v.width) (Some v.location)) (λ j. (one j, two j)))

-- where its configuration gives none
pub vlen_none : (reads : ReadsCodecs) (ms : Members) → vlen_points_in ms ≡ None → vlen_of (listed_chain reads) ms ≡ None
vlen_none reads ms is = vlen_as reads ms ∙ ap (option_and_then (vlen_by reads)) is

no_values : (m : Option Chain) → optional_with m None ≡ None
no_values None = refl
no_values (Some m) = refl

optional_at : (reads : ReadsCodecs) (b : Bool) (m c : Option (List ExtensionPoint))
    → (if b then optional_with (option_and_then (chain_of reads) m) (option_and_then (chain_of reads) c) else None)
    ≡ option_and_then (optional_by reads) (if b then option_and_then (λ mask. option_map (λ content. record { mask = mask; content = content }) c) m else None)
optional_at reads false m c = refl
optional_at reads true None c = refl
optional_at reads true (Some m) None = no_values (chain_of reads m)
optional_at reads true (Some m) (Some c) = refl

-- a configuration of `optional` says what the lists in it say
pub optional_as : (reads : ReadsCodecs) (ms : Members) → optional_of (listed_chain reads) ms ≡ option_and_then (optional_by reads) (optional_points_in ms)
optional_as reads ms =
    let only = has_only (codes "mask_codecs" ∷ codes "data_codecs" ∷ []) ms in
    ap (λ (o : Option Chain × Option Chain). if only then optional_with o.0 o.1 else None) (λ i. (listed_in reads (get_member (codes "mask_codecs") ms) i, listed_in reads (get_member (codes "data_codecs") ms) i))
    ∙ optional_at reads only (listed_points (codes "mask_codecs") ms) (listed_points (codes "data_codecs") ms)

-- what `optional` is, by the chains that its lists say
pub optional_done : (reads : ReadsCodecs) (ms : Members) (v : OptionalPoints) (m c : Option Chain) → optional_points_in ms ≡ Some v → chain_of reads v.mask ≡ m → chain_of reads v.content ≡ c → optional_of (listed_chain reads) ms ≡ optional_with m c
optional_done reads ms v m c is one two =
    optional_as reads ms ∙ (ap (option_and_then (optional_by reads)) is ∙ ap (λ (o : Option Chain × Option Chain). optional_with o.0 o.1) (λ j. (one j, two j)))

-- where its configuration gives none
pub optional_none : (reads : ReadsCodecs) (ms : Members) → optional_points_in ms ≡ None → optional_of (listed_chain reads) ms ≡ None
optional_none reads ms is = optional_as reads ms ∙ ap (option_and_then (optional_by reads)) is

-- ---- how deep they nest

-- how deep the configurations of extension points nest
abbrev pub points_depth : List ExtensionPoint → ℕ
points_depth [] = 0
points_depth (point ∷ points) = max (point_depth point) (points_depth points)

pub fewer_points : (n : ℕ) (points : List ExtensionPoint) → points_depth (drop n points) ≤ points_depth points
fewer_points zero points = omega arith
fewer_points (suc n) [] = omega arith
fewer_points (suc n) (point ∷ points) = let less = fewer_points n points in omega arith

items_less : (ds : Items) (points : List ExtensionPoint) → points_in ds ≡ Some points → points_depth points ≤ items_depth ds
items_less no_items points is = let g : 0 ≡ points_depth points = ap (λ (o : Option (List ExtensionPoint)). elim o [ None ↦ 0 | Some ps ↦ points_depth ps ]) is in omega arith
items_less (item d ds) points is = at (extension_point d) (points_in ds) (λ q e. point_less d q e) (λ ps e. items_less ds ps e) is where
  at : (o : Option ExtensionPoint) (r : Option (List ExtensionPoint)) → ((q : ExtensionPoint) → o ≡ Some q → point_depth q ≤ depth d) → ((ps : List ExtensionPoint) → r ≡ Some ps → points_depth ps ≤ items_depth ds)
      → option_and_then (λ point. option_map (λ points. point ∷ points) r) o ≡ Some points → points_depth points ≤ items_depth (item d ds)
  at None r h k is = cc
  at (Some q) None h k is = cc
  at (Some q) (Some ps) h k is =
      let g : points_depth (q ∷ ps) ≡ points_depth points = ap (λ (o : Option (List ExtensionPoint)). elim o [ None ↦ 0 | Some ps ↦ points_depth ps ]) is in
      let one = h q refl in
      let two = k ps refl in
      omega arith

array_less : (d : Data) (limit : ℕ) (points : List ExtensionPoint) → depth d ≤ limit → option_and_then points_in (as_array d) ≡ Some points → points_depth points < limit
array_less null limit points h is = cc
array_less (boolean b) limit points h is = cc
array_less (number x) limit points h is = cc
array_less (string s) limit points h is = cc
array_less (array ds) limit points h is = let less = items_less ds points is in omega arith
array_less (object ms) limit points h is = cc

listed_less : (name : List ℕ) (ms : Members) (points : List ExtensionPoint) → listed_points name ms ≡ Some points → points_depth points < members_depth ms
listed_less name ms points is = at (get_member name ms) (λ d e. depth_got name d ms e) is where
  at : (o : Option Data) → ((d : Data) → o ≡ Some d → depth d ≤ members_depth ms) → option_and_then points_in (option_and_then as_array o) ≡ Some points → points_depth points < members_depth ms
  at None h is = cc
  at (Some d) h is = array_less d (members_depth ms) points (h d refl) is

found_points : (told : Option (ℕ × Location)) (i c : Option (List ExtensionPoint)) (v : VlenPoints) → points_with told i c ≡ Some v → (i ≡ Some v.index) × (c ≡ Some v.content)
found_points None i c v is = cc
found_points (Some told) None c v is = cc
found_points (Some told) (Some i) None v is = cc
found_points (Some told) (Some i) (Some c) v is = (ap (option_map (λ (v : VlenPoints). v.index)) is, ap (option_map (λ (v : VlenPoints). v.content)) is)

-- the lists in a configuration of `vlen`
pub vlen_lists : (ms : Members) (v : VlenPoints) → vlen_points_in ms ≡ Some v → (listed_points (codes "index_codecs") ms ≡ Some v.index) × (listed_points (codes "data_codecs") ms ≡ Some v.content)
vlen_lists ms v is = found_points (vlen_index_in ms) (listed_points (codes "index_codecs") ms) (listed_points (codes "data_codecs") ms) v is

-- the chains of `vlen` nest less deep than its configuration
pub vlen_less : (ms : Members) (v : VlenPoints) → vlen_points_in ms ≡ Some v → (points_depth v.index < members_depth ms) × (points_depth v.content < members_depth ms)
vlen_less ms v is =
    let found = vlen_lists ms v is in
    (listed_less (codes "index_codecs") ms v.index found.0, listed_less (codes "data_codecs") ms v.content found.1)

found_values : (b : Bool) (m c : Option (List ExtensionPoint)) (v : OptionalPoints) → (if b then option_and_then (λ mask. option_map (λ content. record { mask = mask; content = content }) c) m else None) ≡ Some v
    → (m ≡ Some v.mask) × (c ≡ Some v.content)
found_values false m c v is = cc
found_values true None c v is = cc
found_values true (Some m) None v is = cc
found_values true (Some m) (Some c) v is = (ap (option_map (λ (v : OptionalPoints). v.mask)) is, ap (option_map (λ (v : OptionalPoints). v.content)) is)

-- the lists in a configuration of `optional`
pub optional_lists : (ms : Members) (v : OptionalPoints) → optional_points_in ms ≡ Some v → (listed_points (codes "mask_codecs") ms ≡ Some v.mask) × (listed_points (codes "data_codecs") ms ≡ Some v.content)
optional_lists ms v is = found_values (has_only (codes "mask_codecs" ∷ codes "data_codecs" ∷ []) ms) (listed_points (codes "mask_codecs") ms) (listed_points (codes "data_codecs") ms) v is

-- the chains of `optional` nest less deep than its configuration
pub optional_less : (ms : Members) (v : OptionalPoints) → optional_points_in ms ≡ Some v → (points_depth v.mask < members_depth ms) × (points_depth v.content < members_depth ms)
optional_less ms v is =
    let found = optional_lists ms v is in
    (listed_less (codes "mask_codecs") ms v.mask found.0, listed_less (codes "data_codecs") ms v.content found.1)

-- ---- metadata in parts

-- what is left of metadata nests no deeper
pub rest_less : (metadatas rest : List lent.ExtensionPoint) (n : ℕ) → rest ≡ drop n metadatas → points_depth (map point_view rest) ≤ points_depth (map point_view metadatas)
rest_less metadatas rest n is =
    let same : points_depth (map point_view rest) ≡ points_depth (drop n (map point_view metadatas)) = ap (λ (ps : List lent.ExtensionPoint). points_depth (map point_view ps)) is ∙ ap points_depth (sym (drop-map point_view n metadatas)) in
    let less = fewer_points n (map point_view metadatas) in
    omega arith

-- nor does the first codec
pub first_less : (metadatas others : List lent.ExtensionPoint) (first : lent.ExtensionPoint) → metadatas ≡ first ∷ others → point_depth (point_view first) ≤ points_depth (map point_view metadatas)
first_less metadatas others first is =
    let same : points_depth (map point_view metadatas) ≡ max (point_depth (point_view first)) (points_depth (map point_view others)) = ap (λ (ps : List lent.ExtensionPoint). points_depth (map point_view ps)) is in
    omega arith
