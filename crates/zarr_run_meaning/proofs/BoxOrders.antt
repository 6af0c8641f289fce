-- Two writes of boxes without a common place.
use Rattle.std.proofs.Common.{◌≡◌, ◌∙◌, ⊎_elim, ℕ, Bool, true, false, cond, if◌then◌else◌, List, [], ◌∷◌, length, bytes_eq, refl, sym, ap, Option, Some, None, ◌==◌}
use Rattle.std.specs.Prelude.{◌||◌}
use Rattle.std.specs.List.{filter, list_any, zip}
use Rattle.std.specs.FinMap.{get, insert, remove, get-insert, get-remove, same_map, slice_cmp-IsAntisymmetric, nat_cmp-IsAntisymmetric}
use Rattle.std.proofs.lemmas.Bool.{or_parts, eqb-true, eqb-false, false_from_ne_true, false≢true}
use Rattle.std.proofs.lemmas.Cmp.{nat_list_cmp_total}
use Rattle.std.proofs.lemmas.Map.Text.{is_eq-slice_cmp}
use Rattle.zarr_grids_boxes.specs.Boxes.{Region, places, is_in_box}
use Rattle.zarr_grids_chunks.specs.Grids.{Grid, lies_in_chunk, intersecting}
use Rattle.zarr_grids_chunks.proofs.Filters.{told}
use Rattle.zarr_grids_keys.specs.Related.{is_related}
use Rattle.zarr_grids_keys.proofs.RelatedLemmas.{is_related-comm, is_related-refl}
use Rattle.zarr_codecs_meaning.specs.Types.{Cell, same_cell}
use Rattle.zarr_codecs_meaning.proofs.Lists.{some_same}
use Rattle.zarr_codecs_metadata.specs.Chains.{ReadsCodecs}
use Rattle.zarr_codecs_options.specs.declared.codec_options.CodecOptions.{CodecOptions}
use Rattle.zarr_codecs_types.specs.Given.{GivenCells}
use Rattle.zarr_run_meaning.specs.BoxLaws.{WritesCommute, WritesCommuteApart}
use Rattle.zarr_run_meaning.specs.Changes.{Writes}
use Rattle.zarr_run_meaning.specs.Requests.{Target, write, done}
use Rattle.zarr_run_meaning.specs.Runs.{Run}
use Rattle.zarr_run_meaning.specs.Tables.{Table, with_cell, updated, changes, changes_in}
use Rattle.zarr_run_meaning.specs.Worlds.{Held, World, held_at}
use Rattle.zarr_run_meaning.proofs.Arrays.{Stayed, at_path, near, apart, held_at-path, held_after}
use Rattle.zarr_run_meaning.proofs.BoxSteps.{target_once, IsBoxWritten, box_written}
use Rattle.zarr_run_meaning.proofs.FillLemmas.{listed_in_box}
use Rattle.zarr_run_meaning.proofs.Tables.{no_chunks, none_kept}

-- ---- the entries of a table

-- the entry that a cell leaves
abbrev entry : Cell → Cell → Option Cell
entry fill v = if same_cell v fill then None else Some v

entry-with_cell : (fill : Cell) (t : Table) (p : List ℕ) (v : Cell) (q : List ℕ) → get (with_cell fill t p v) q ≡ (if bytes_eq q p then entry fill v else get t q)
entry-with_cell fill t p v q = ⊎_elim
    (λ e. ap (λ b. get (if b then remove t p else insert t p v) q) e
    ∙ get-remove nat_list_cmp_total t p q ∙ ap (λ b. cond b None (get t q)) (is_eq-slice_cmp q p)
    ∙ put (bytes_eq q p) None (get t q)
    ∙ ap (λ (b : Bool). if bytes_eq q p then (if b then None else Some v) else get t q) (sym e))
    (λ e. ap (λ b. get (if b then remove t p else insert t p v) q) e
    ∙ get-insert nat_list_cmp_total t p v q ∙ ap (λ b. cond b (Some v) (get t q)) (is_eq-slice_cmp q p)
    ∙ put (bytes_eq q p) (Some v) (get t q)
    ∙ ap (λ (b : Bool). if bytes_eq q p then (if b then None else Some v) else get t q) (sym e))
    (told (same_cell v fill)) where
      put : (b : Bool) (x y : Option Cell) → cond b x y ≡ (if b then x else y)
      put true x y = refl
      put false x y = refl

-- the entry at a place after several cells were replaced
abbrev entry_after : Cell → List ℕ → List (List ℕ × Cell) → Option Cell → Option Cell
entry_after fill q [] o = o
entry_after fill q (e ∷ es) o = entry_after fill q es (if bytes_eq q e.0 then entry fill e.1 else o)

entry-updated : (fill : Cell) (t : Table) (es : List (List ℕ × Cell)) (q : List ℕ) → get (updated fill t es) q ≡ entry_after fill q es (get t q)
entry-updated fill t [] q = refl
entry-updated fill t (e ∷ es) q = entry-updated fill (with_cell fill t e.0 e.1) es q ∙ ap (entry_after fill q es) (entry-with_cell fill t e.0 e.1 q)

-- ---- places that are not written

-- whether a place is one of the changed ones
abbrev is_changed : List ℕ → List (List ℕ × Cell) → Bool
is_changed q es = list_any (λ e. bytes_eq q e.0) es

unchanged : (fill : Cell) (q : List ℕ) (es : List (List ℕ × Cell)) (o : Option Cell) → is_changed q es ≡ false → entry_after fill q es o ≡ o
unchanged fill q [] o not = refl
unchanged fill q (e ∷ es) o not =
    let parts = or_parts (bytes_eq q e.0) (is_changed q es) not in
    ap (λ (b : Bool). entry_after fill q es (if b then entry fill e.1 else o)) parts.0 ∙ unchanged fill q es o parts.1

changed_filter : (test : List ℕ × Cell → Bool) (q : List ℕ) (es : List (List ℕ × Cell)) → is_changed q es ≡ false → is_changed q (filter test es) ≡ false
changed_filter test q [] not = refl
changed_filter test q (e ∷ es) not =
    let parts = or_parts (bytes_eq q e.0) (is_changed q es) not in
    one (test e) (filter test es) parts.0 (changed_filter test q es parts.1) where
      one : (b : Bool) (rest : List (List ℕ × Cell)) → bytes_eq q e.0 ≡ false → is_changed q rest ≡ false → is_changed q (cond b (e ∷ rest) rest) ≡ false
      one true rest here others = ap (λ (b : Bool). b || is_changed q rest) here ∙ others
      one false rest here others = others

changed_zip : (q : List ℕ) (ps : List (List ℕ)) (cs : List Cell) → list_any (bytes_eq q) ps ≡ false → is_changed q (zip ps cs) ≡ false
changed_zip q [] cs not = refl
changed_zip q (p ∷ ps) [] not = refl
changed_zip q (p ∷ ps) (c ∷ cs) not =
    let parts = or_parts (bytes_eq q p) (list_any (bytes_eq q) ps) not in
    ap (λ (b : Bool). b || is_changed q (zip ps cs)) parts.0 ∙ changed_zip q ps cs parts.1

-- the changes of a write
abbrev box_changes : Grid → Region → List Cell → List (List ℕ × Cell)
box_changes grid region cells = changes_in grid (intersecting grid region) (changes region cells)

outside : (fill : Cell) (grid : Grid) (region : Region) (cells : List Cell) (q : List ℕ) (o : Option Cell) → is_in_box region.start region.shape q ≡ false → entry_after fill q (box_changes grid region cells) o ≡ o
outside fill grid region cells q o out = ⊎_elim
    (λ same. unchanged fill q (box_changes grid region cells) o
    (changed_filter (λ e. list_any (lies_in_chunk grid e.0) (intersecting grid region)) q (changes region cells)
    (changed_zip q (places region.start region.shape) cells (listed_in_box region.start region.shape q (eqb-true (length region.start) (length region.shape) same) ∙ out))))
    (λ differs.
    ap (λ (chunks : List (List ℕ)). entry_after fill q (changes_in grid chunks (changes region cells)) o) (no_chunks grid region (intersecting grid region) (λ c l. l) (eqb-false (length region.start) (length region.shape) differs))
    ∙ ap (λ (es : List (List ℕ × Cell)). entry_after fill q es o) (none_kept (changes region cells)))
    (told (length region.start == length region.shape))

-- ---- either order

one_table : (fill : Cell) (t : Table) (grid : Grid) (a b : Region) (xs ys : List Cell) → ((q : List ℕ) → is_in_box a.start a.shape q ≡ true → is_in_box b.start b.shape q ≡ false)
    → updated fill (updated fill t (box_changes grid a xs)) (box_changes grid b ys) ≡ updated fill (updated fill t (box_changes grid b ys)) (box_changes grid a xs)
one_table fill t grid a b xs ys disjoint = same_map nat_list_cmp_total (slice_cmp-IsAntisymmetric nat_cmp-IsAntisymmetric) _ _ (λ q.
    entry-updated fill (updated fill t (box_changes grid a xs)) (box_changes grid b ys) q
    ∙ ap (entry_after fill q (box_changes grid b ys)) (entry-updated fill t (box_changes grid a xs) q)
    ∙ either q (get t q)
    ∙ sym (ap (entry_after fill q (box_changes grid a xs)) (entry-updated fill t (box_changes grid b ys) q))
    ∙ sym (entry-updated fill (updated fill t (box_changes grid b ys)) (box_changes grid a xs) q)) where
      either : (q : List ℕ) (o : Option Cell) → entry_after fill q (box_changes grid b ys) (entry_after fill q (box_changes grid a xs) o) ≡ entry_after fill q (box_changes grid a xs) (entry_after fill q (box_changes grid b ys) o)
      either q o = ⊎_elim
          (λ i. let out = disjoint q i in outside fill grid b ys q _ out ∙ sym (ap (entry_after fill q (box_changes grid a xs)) (outside fill grid b ys q o out)))
          (λ out. ap (entry_after fill q (box_changes grid b ys)) (outside fill grid a xs q o out) ∙ sym (outside fill grid a xs q _ out))
          (told (is_in_box a.start a.shape q))

pub writes_commute : WritesCommute
writes_commute reads old new last path one two given other options more again others h found disjoint r s =
    let a = box_written path one given options old r.0 h found r.1.0 in
    let b = box_written path two other more r.0 r.2.0 (record h { table = updated h.document.elements.fill h.table (box_changes h.document.grid a.box a.values) }) a.held r.2.1.0 in
    let c = box_written path two other others old s.0 h found s.1.0 in
    let d = box_written path one given again s.0 s.2.0 (record h { table = updated h.document.elements.fill h.table (box_changes h.document.grid c.box c.values) }) c.held s.2.1.0 in
    ap (λ (w : World). held_at path w.arrays) r.2.2
    ∙ b.held
    ∙ ap (λ (t : Table). Some (record h { table = t }))
    (one_table h.document.elements.fill h.table h.document.grid a.box b.box a.values b.values (λ q i. false_from_ne_true (is_in_box b.box.start b.box.shape q) (disjoint a.box b.box q a.is.is b.is.is i))
    ∙ ap (λ (region : Region). updated h.document.elements.fill (updated h.document.elements.fill h.table (box_changes h.document.grid region b.values)) (box_changes h.document.grid a.box a.values)) (target_once h.document.grid two b.box c.box b.is.is c.is.is)
    ∙ ap (λ (values : List Cell). updated h.document.elements.fill (updated h.document.elements.fill h.table (box_changes h.document.grid c.box values)) (box_changes h.document.grid a.box a.values)) (some_same (sym b.is.gives.0 ∙ c.is.gives.0))
    ∙ ap (λ (region : Region). updated h.document.elements.fill (updated h.document.elements.fill h.table (box_changes h.document.grid c.box c.values)) (box_changes h.document.grid region a.values)) (target_once h.document.grid one a.box d.box a.is.is d.is.is)
    ∙ ap (λ (values : List Cell). updated h.document.elements.fill (updated h.document.elements.fill h.table (box_changes h.document.grid c.box c.values)) (box_changes h.document.grid d.box values)) (some_same (sym a.is.gives.0 ∙ d.is.gives.0)))
    ∙ sym d.held
    ∙ sym (ap (λ (w : World). held_at path w.arrays) s.2.2)

-- ---- arrays at unrelated paths

-- a write leaves the array at an unrelated path
left_alone : (path away : List ℕ) (target : Target) (given : GivenCells) (options : CodecOptions) (old new : World) (h : Held) → held_at away old.arrays ≡ Some h → is_related path away ≡ false → Writes path (record { target = target; cells = given; options = options }) old new → held_at away new.arrays ≡ Some h
left_alone path away target given options old new h found unrelated w =
    let after = held_after w.held.path w.writes.table new.store old.arrays new.arrays w.writes.updates away h found in
    after.1 ∙ ap (λ (x : Held). Some x) (go after.0 after.2) where
      far : is_related w.held.path h.path ≡ false
      far = ap (λ (p : List ℕ). is_related p h.path) (sym (held_at-path path old.arrays w.held w.found)) ∙ ap (is_related path) (sym (held_at-path away old.arrays h found)) ∙ unrelated

      go : (x : Held) → Stayed w.held.path w.writes.table new.store h x → x ≡ h
      go x (at_path e is) = absurd (false≢true (sym far ∙ ap (λ (p : List ℕ). is_related p h.path) e ∙ is_related-refl h.path))
      go x (near ne r is shows) = absurd (false≢true (sym far ∙ r))
      go x (apart r is) = is

-- an array after a box of it was given cells
abbrev with_box : Held → Region → List Cell → Held
with_box h region values = record h { table = updated h.document.elements.fill h.table (box_changes h.document.grid region values) }

-- two writes, one after the other: each array has what was written to it
in_turn : (reads : ReadsCodecs) (old new : World) (path away : List ℕ) (one two : Target) (given other : GivenCells) (options more : CodecOptions) (h g : Held) → held_at path old.arrays ≡ Some h → held_at away old.arrays ≡ Some g → is_related path away ≡ false
    → Run reads old (write path one given options ∷ write away two other more ∷ []) (done ∷ done ∷ []) new
    → IsBoxWritten h one given (held_at path new.arrays) × IsBoxWritten g two other (held_at away new.arrays)
in_turn reads old new path away one two given other options more h g f i unrelated r =
    let a = box_written path one given options old r.0 h f r.1.0 in
    let b = box_written away two other more r.0 r.2.0 g (left_alone path away one given options old r.0 g i unrelated r.1.0) r.2.1.0 in (
      record {
        box = a.box;
        values = a.values;
        is = a.is;
        held = ap (λ (w : World). held_at path w.arrays) r.2.2 ∙ left_alone away path two other more r.0 r.2.0 (with_box h a.box a.values) a.held (is_related-comm away path ∙ unrelated) r.2.1.0;
      },
      record { box = b.box; values = b.values; is = b.is; held = ap (λ (w : World). held_at away w.arrays) r.2.2 ∙ b.held },
    )

-- one write has one outcome
written_once : (h : Held) (target : Target) (given : GivenCells) (new last : Option Held) → IsBoxWritten h target given new → IsBoxWritten h target given last → new ≡ last
written_once h target given new last a b =
    a.held
    ∙ ap (λ (region : Region). Some (with_box h region a.values)) (target_once h.document.grid target a.box b.box a.is.is b.is.is)
    ∙ ap (λ (values : List Cell). Some (with_box h b.box values)) (some_same (sym a.is.gives.0 ∙ b.is.gives.0))
    ∙ sym b.held

pub writes_commute_apart : WritesCommuteApart
writes_commute_apart reads old new last path away one two given other options more again others unrelated r s =
    let first = r.1.0 in
    let second = s.1.0 in
    let a = in_turn reads old new path away one two given other options more first.held second.held first.found second.found unrelated r in
    let b = in_turn reads old last away path two one other given others again second.held first.held second.found first.found (is_related-comm away path ∙ unrelated) s in
    (written_once first.held one given (held_at path new.arrays) (held_at path last.arrays) a.0 b.1, written_once second.held two other (held_at away new.arrays) (held_at away last.arrays) a.1 b.0)
