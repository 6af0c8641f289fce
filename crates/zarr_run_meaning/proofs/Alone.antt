-- One array stays sound, whatever is stored for the others.
use Rattle.std.proofs.Common.{◌≡◌, ◌∙◌, ⊎_elim, ℕ, false, List, [], ◌∷◌, ◌++◌, refl, sym, ap, subst, Some, None}
use Rattle.std.proofs.lemmas.Bool.{false≢true}
use Rattle.std.proofs.lemmas.Option.{none-some}
use Rattle.serde_json.specs.Data.{Data}
use Rattle.zarr_grids_keys.specs.Related.{is_related}
use Rattle.zarr_grids_keys.proofs.RelatedLemmas.{is_related-comm}
use Rattle.zarr_codecs_metadata.specs.Chains.{ReadsCodecs}
use Rattle.zarr_codecs_options.specs.declared.subchunk_write_order.SubchunkWriteOrder.{SubchunkWriteOrder}
use Rattle.zarr_array_meaning.specs.Chunks.{KeepsOtherKeys}
use Rattle.zarr_array_meaning.specs.StoreMaps.{StoreMap}
use Rattle.zarr_run_meaning.specs.Changes.{Creates, Reopens, Opens}
use Rattle.zarr_run_meaning.specs.Laws.{HasTables, SoundAlone, BeginsAlone, StepsKeepSound}
use Rattle.zarr_run_meaning.specs.Requests.{Request, reopen, Answer, done}
use Rattle.zarr_run_meaning.specs.Rewrites.{ReopensApart}
use Rattle.zarr_run_meaning.specs.Sound.{IsSoundAt, IsSoundAlone, OpensApart, BeginsSound, ReadsGood}
use Rattle.zarr_run_meaning.specs.Steps.{Step}
use Rattle.zarr_run_meaning.specs.Tables.{Table}
use Rattle.zarr_run_meaning.specs.Worlds.{Held, World, held_at, is_taken, WithTable}
use Rattle.zarr_run_meaning.proofs.Arrays.{Stayed, at_path, near, apart, held_at-path, held_once, held_at-before, held_at-more, held_at-ordered, held_at-reordered, held_before, held_after, free_of, free_none, unrelated_paths}
use Rattle.zarr_run_meaning.proofs.Begun.{created_array, created_put, created_there, opened_array, opened_there}
use Rattle.zarr_run_meaning.proofs.Effects.{LeftAttributes, left_put, Effect, kept, left, created, reordered, opened, wrote, erased, stored_anew, step_effect}
use Rattle.zarr_run_meaning.proofs.Keys.{others_kept}
use Rattle.zarr_run_meaning.proofs.Standing.{sound_under, written_sound, erased_sound, anew_sound}
use Rattle.zarr_run_meaning.proofs.Stored.{put_kept}

pub sound_alone : SoundAlone
sound_alone reads world path h sound found = record {
  array = h;
  found = found;
  there = sound.each path h found;
  alone = λ other g e differs.
      ap (λ p. is_related p other) (held_at-path path world.arrays h found) ∙ ap (is_related h.path) (held_at-path other world.arrays g e)
      ∙ unrelated_paths world.arrays path other h g sound.apart found e (λ same. differs (sym same));
}

module _ (reads : ReadsCodecs) (old new : World) (path : List ℕ) (good : ReadsGood reads) (tables : HasTables reads old) (sound : IsSoundAlone reads old path) where
  here : path ≡ sound.array.path
  here = held_at-path path old.arrays sound.array sound.found

  kept_alone : new.arrays ≡ old.arrays → new.store ≡ old.store → IsSoundAlone reads new path
  kept_alone arrays store = record {
    array = sound.array;
    found = ap (held_at path) arrays ∙ sound.found;
    there = let P : StoreMap → Type 0 = λ s. IsSoundAt reads s sound.array in subst P (sym store) sound.there;
    alone = λ other h e. sound.alone other h (sym (ap (held_at other) arrays) ∙ e);
  }

  -- one more array at an unrelated path
  more_alone : (b : Held) (store : StoreMap) → held_at b.path old.arrays ≡ None → is_related path b.path ≡ false → IsSoundAt reads store sound.array → new.arrays ≡ old.arrays ++ b ∷ [] → new.store ≡ store → IsSoundAlone reads new path
  more_alone b store none away there arrays is = record {
    array = sound.array;
    found = ap (held_at path) arrays ∙ held_at-before path old.arrays b sound.array sound.found;
    there = let P : StoreMap → Type 0 = λ s. IsSoundAt reads s sound.array in subst P (sym is) there;
    alone = λ other h e differs. ⊎_elim
        (λ same. ap (is_related path) (held_at-path other new.arrays h e ∙ ap (λ (x : Held). x.path) same) ∙ away)
        (λ before. sound.alone other h before differs)
        (held_at-more other old.arrays b h none (sym (ap (held_at other) arrays) ∙ e));
  }

  created_alone : (p : List ℕ) (document : Data) (order : SubchunkWriteOrder) → Creates reads (record { path = p; document = document; order = order }) old new → IsSoundAlone reads new path
  created_alone p document order c =
      let away = free_of p path old.arrays sound.array c.free sound.found in
      more_alone (created_array reads old new p document order c) new.store (free_none p old.arrays c.free)
      (is_related-comm path p ∙ ap (is_related p) here ∙ away)
      (sound_under reads old.store new.store sound.array (put_kept p sound.array.path old.store new.store (created_put reads old new p document order c) c.node sound.there.node away) sound.there)
      c.begins.holds refl

  -- where only the attributes of a free path were stored
  left_alone : LeftAttributes old new → IsSoundAlone reads new path
  left_alone l = record {
    array = sound.array;
    found = ap (held_at path) l.arrays ∙ sound.found;
    there = sound_under reads old.store new.store sound.array
        (put_kept l.path sound.array.path old.store new.store (left_put old new l) l.node sound.there.node (free_of l.path path old.arrays sound.array l.free sound.found)) sound.there;
    alone = λ other h e. sound.alone other h (sym (ap (held_at other) l.arrays) ∙ e);
  }

  opened_alone : (p : List ℕ) (order : SubchunkWriteOrder) → (held_at p old.arrays ≡ None → is_related path p ≡ false) → Opens reads p order old new → IsSoundAlone reads new path
  opened_alone p order away o = more_alone (opened_array reads old new p order o) old.store o.begins.free (away o.begins.free) sound.there o.begins.holds o.stores

  reordered_alone : (p : List ℕ) (order : SubchunkWriteOrder) → Reopens p order old new → IsSoundAlone reads new path
  reordered_alone p order r =
      let h = held_at-reordered p path order old.arrays sound.array sound.found in
      let P : Held → Type 0 = λ x. IsSoundAt reads new.store x in
      let Q : StoreMap → Type 0 = λ s. IsSoundAt reads s sound.array in
      let s = subst Q (sym r.stores) sound.there in
      record {
        array = h.0;
        found = ap (held_at path) r.updates ∙ h.1;
        there = ⊎_elim
            (λ is. subst P (sym is) s)
            (λ is. subst P (sym is) (record { node = s.node; says = s.says; stored = s.stored; first = s.first; lossless = s.lossless; values = s.values; stands = s.stands }))
            h.2;
        alone = λ other x e differs. let g = held_at-ordered p other order old.arrays x (sym (ap (held_at other) r.updates) ∙ e) in sound.alone other g.0 g.1 differs;
      }

  -- where the array at one path has another table
  changed_alone : (p : List ℕ) (held : Held) (chunks : List (List ℕ)) (table : Table) → held_at p old.arrays ≡ Some held → WithTable held.path table new.store old.arrays new.arrays → KeepsOtherKeys held.path held.document chunks old.store new.store
      → (IsSoundAt reads old.store held → IsSoundAt reads new.store (record held { table = table })) → IsSoundAlone reads new path
  changed_alone p held chunks table found updates others next = record {
    array = after.0;
    found = after.1;
    there = go after.2;
    alone = λ other x e differs. let g = held_before held.path table new.store old.arrays new.arrays updates other x e in sound.alone other g.0 g.1 differs;
  } where
    after : (h : Held) × (held_at path new.arrays ≡ Some h) × Stayed held.path table new.store sound.array h
    after = held_after held.path table new.store old.arrays new.arrays updates path sound.array sound.found

    there : p ≡ held.path
    there = held_at-path p old.arrays held found

    go : Stayed held.path table new.store sound.array after.0 → IsSoundAt reads new.store after.0
    go (at_path same is) =
        let P : Held → Type 0 = λ x. IsSoundAt reads new.store x in
        let Q : Held → Type 0 = λ x. IsSoundAt reads old.store x in
        let one = held_once path p old.arrays sound.array held sound.found found (here ∙ sym same ∙ sym there) in
        subst P (sym (is ∙ ap (λ (x : Held). record x { table = table }) one)) (next (subst Q one sound.there))
    go (near differs related is shows) =
        absurd (false≢true (sym (sound.alone p held found (λ same. differs (sym there ∙ same ∙ here))) ∙ is_related-comm path p ∙ ap (λ q. is_related q path) there ∙ ap (is_related held.path) here ∙ related))
    go (apart unrelated is) =
        let P : Held → Type 0 = λ x. IsSoundAt reads new.store x in
        subst P (sym is) (sound_under reads old.store new.store sound.array (others_kept held.path held.document chunks old.store new.store sound.array.path others (tables p held found).0 sound.there.node unrelated) sound.there)

  effect_alone : (request : Request) (answer : Answer) → OpensApart path old request answer → Effect reads request answer old new → IsSoundAlone reads new path
  effect_alone request answer away (kept arrays store) = kept_alone arrays store
  effect_alone request answer away (left l) = left_alone l
  effect_alone request answer away (created p document order begins c) = created_alone p document order c
  effect_alone request answer away (reordered p order r) = reordered_alone p order r
  effect_alone request answer away (opened p order begins such o) = opened_alone p order (such path away) o
  effect_alone request answer away (wrote w) =
      changed_alone w.path w.held w.chunks w.writes.table w.found w.writes.updates w.writes.stores.others
      (λ s. written_sound reads w.held old.store new.store w.box w.values w.options w.chunks w.writes.table (good w.held.tree w.held.document s.says) w.writes.is w.few w.many w.are w.writes.stores s)
  effect_alone request answer away (erased w) =
      changed_alone w.path w.held w.chunks w.erases.table w.found w.erases.updates w.erases.stores.others
      (λ s. erased_sound reads w.held old.store new.store w.chunks w.erases.table (good w.held.tree w.held.document s.says) w.erases.is w.below w.erases.stores s)
  effect_alone request answer away (stored_anew w) =
      changed_alone w.path w.held w.chunks w.held.table w.found w.updates w.keeps.others
      (λ s. anew_sound reads w.held old.store new.store w.chunks (good w.held.tree w.held.document s.says) w.below w.keeps s)

pub steps_keep_sound : StepsKeepSound
steps_keep_sound reads old new request answer path good tables away sound s = effect_alone reads old new path good tables sound request answer away (step_effect reads old new request answer s)

-- ---- which arrays a step opens

module _ (reads : ReadsCodecs) (old new : World) (path : List ℕ) (sound : IsSoundAlone reads old path) where
  -- no array is opened at a related path, where each reopening names the path or an unrelated one
  pub reopens_apart : (request : Request) (answer : Answer) → ReopensApart path request → OpensApart path old request answer
  reopens_apart (reopen p order) done asks = λ none. ⊎_elim (λ same. absurd (none-some sound.array (sym none ∙ ap (λ q. held_at q old.arrays) same ∙ sound.found))) (λ away. away) asks
  reopens_apart request answer asks = tt

  -- nor where each array begins over chunks that stand for cells
  pub begins_apart : (request : Request) (answer : Answer) → BeginsSound reads old request answer → Step reads old request answer new → OpensApart path old request answer
  begins_apart (reopen p order) done begins s = λ none. ⊎_elim
      (λ (r : Reopens p order old new). absurd (none-some r.held (sym none ∙ r.found)))
      (λ (o : Opens reads p order old new).
      let free = begins o.tree o.meaning none o.found o.opens in
      is_related-comm path p ∙ ap (is_related p) (held_at-path path old.arrays sound.array sound.found) ∙ free_of p path old.arrays sound.array free.0 sound.found)
      s.0
  begins_apart request answer begins s = tt

-- ---- an array that begins

module _ (reads : ReadsCodecs) (old new : World) (path : List ℕ) (h : Held) (good : ReadsGood reads) (tables : HasTables reads old) (none : held_at path old.arrays ≡ None) (found : held_at path new.arrays ≡ Some h) where
  -- it is the new one, at a free path
  begun_alone : (b : Held) (store : StoreMap) → held_at b.path old.arrays ≡ None → is_taken b.path old.arrays ≡ false → IsSoundAt reads store b → new.arrays ≡ old.arrays ++ b ∷ [] → new.store ≡ store → IsSoundAlone reads new path
  begun_alone b store free away there arrays is = ⊎_elim
      (λ same. the_new same)
      (λ before. absurd (none-some h (sym none ∙ before)))
      (held_at-more path old.arrays b h free (sym (ap (held_at path) arrays) ∙ found)) where
        the_new : h ≡ b → IsSoundAlone reads new path
        the_new same =
            let P : StoreMap → Type 0 = λ s. IsSoundAt reads s b in
            let Q : Held → Type 0 = λ x. IsSoundAt reads new.store x in
            let at : path ≡ b.path = held_at-path path new.arrays h found ∙ ap (λ (x : Held). x.path) same in
            record {
              array = h;
              found = found;
              there = subst Q (sym same) (subst P (sym is) there);
              alone = λ other x e differs. ⊎_elim
                  (λ one. absurd (differs (held_at-path other new.arrays x e ∙ ap (λ (y : Held). y.path) one ∙ sym at)))
                  (λ before. ap (λ p. is_related p other) at ∙ ap (is_related b.path) (held_at-path other old.arrays x before) ∙ free_of b.path other old.arrays x away before)
                  (held_at-more other old.arrays b x free (sym (ap (held_at other) arrays) ∙ e));
            }

  begins_effect : (request : Request) (answer : Answer) → BeginsSound reads old request answer → Effect reads request answer old new → IsSoundAlone reads new path
  begins_effect request answer begins (kept arrays store) = absurd (none-some h (sym none ∙ sym (ap (held_at path) arrays) ∙ found))
  begins_effect request answer begins (left l) = absurd (none-some h (sym none ∙ sym (ap (held_at path) l.arrays) ∙ found))
  begins_effect request answer begins (created p document order such c) =
      begun_alone (created_array reads old new p document order c) new.store (free_none p old.arrays c.free) c.free
      (created_there reads old new p document order c good (such begins c.meaning c.opens)) c.begins.holds refl
  begins_effect request answer begins (reordered p order r) =
      let g = held_at-ordered p path order old.arrays h (sym (ap (held_at path) r.updates) ∙ found) in
      absurd (none-some g.0 (sym none ∙ g.1))
  begins_effect request answer begins (opened p order such away o) =
      let b = such begins o.tree o.meaning o.begins.free o.found o.opens in
      begun_alone (opened_array reads old new p order o) old.store o.begins.free b.0 (opened_there reads old new p order o good (λ q g at. (tables q g at).0) b.0 b.1) o.begins.holds o.stores
  begins_effect request answer begins (wrote w) =
      let g = held_before w.held.path w.writes.table new.store old.arrays new.arrays w.writes.updates path h found in
      absurd (none-some g.0 (sym none ∙ g.1))
  begins_effect request answer begins (erased w) =
      let g = held_before w.held.path w.erases.table new.store old.arrays new.arrays w.erases.updates path h found in
      absurd (none-some g.0 (sym none ∙ g.1))
  begins_effect request answer begins (stored_anew w) =
      let g = held_before w.held.path w.held.table new.store old.arrays new.arrays w.updates path h found in
      absurd (none-some g.0 (sym none ∙ g.1))

pub begins_alone : BeginsAlone
begins_alone reads old new request answer path h good tables begins none s found = begins_effect reads old new path h good tables none found request answer begins (step_effect reads old new request answer s)
