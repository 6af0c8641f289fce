-- An array that begins to be held, in a world.
use Rattle.std.proofs.Common.{◌≡◌, ◌≢◌, ◌∙◌, ℕ, List, [], ◌∷◌, ◌++◌, refl, sym, subst, Bool, true, false, IsTrue, Some, None, bytes_eq}
use Rattle.std.proofs.lemmas.Bool.{false≢true}
use Rattle.std.proofs.lemmas.Slice.Eq.{bytes_eq-Decides}
use Rattle.serde_json.specs.Data.{Data}
use Rattle.zarr_grids_keys.specs.Paths.{is_node_path}
use Rattle.zarr_codecs_meaning.specs.Chains.{ByteCodec}
use Rattle.zarr_codecs_metadata.specs.Chains.{ReadsCodecs}
use Rattle.zarr_codecs_options.specs.declared.subchunk_write_order.SubchunkWriteOrder.{SubchunkWriteOrder}
use Rattle.zarr_array_meaning.specs.StoreMaps.{StoreMap}
use Rattle.zarr_run_meaning.specs.Tables.{Table}
use Rattle.zarr_run_meaning.specs.Worlds.{Held, World, held_at, IsTableAt}
use Rattle.zarr_run_opening.specs.Arrays.{KeepsOtherArrays}
use Rattle.zarr_run_opening.specs.Creations.{IsOpened}
use Rattle.zarr_run_opening.specs.Sessions.{Arrays, array_at, document_of, IsHeld, Agrees, IsIn}
use Rattle.zarr_run_opening.specs.declared.held.HeldArray.{HeldArray}
use Rattle.zarr_run_opening.proofs.HoldsLemmas.{agrees_some, agrees_kept}
use Rattle.zarr_run_opening.proofs.WorldLemmas.{held_at-new, held_at-others, distinct_more}

module _ (B : Type 0) (meaning : B → ByteCodec) (reads : ReadsCodecs) (path : List ℕ) (tree : Data) (order : SubchunkWriteOrder) (old new : Arrays B) (store store' : StoreMap) (n : ℕ) (w : World) (k : IsIn meaning reads (old, (store, n)) w)
    (array : HeldArray B) (is : IsOpened (meaning, reads) path tree order array) (table : Table) (shows : IsTableAt path (document_of meaning array) store' table) (node : IsTrue (is_node_path path)) (free : held_at path w.arrays ≡ None)
    (here : array_at new path ≡ Some array) (others : KeepsOtherArrays path old new)
    (kept : (a : HeldArray B) (q : List ℕ) (h : Held) → held_at q w.arrays ≡ Some h → IsHeld meaning reads store a h → IsHeld meaning reads store' a h) where
  abbrev pub begun : Held
  begun = record { path = path; tree = tree; document = document_of meaning array; order = order; table = table }

  held_begun : IsHeld meaning reads store' array begun
  held_begun = record { node = node; path = sym is.at; tree = sym is.tree_is; document = refl; order = sym is.order_is; says = is.says; exact = is.exact; table = shows }

  agree_next : (q : List ℕ) (b : Bool) → bytes_eq q path ≡ b → Agrees meaning reads store' (array_at new q) (held_at q (w.arrays ++ begun ∷ []))
  agree_next q true t =
      let P : List ℕ → Type 0 = λ q. Agrees meaning reads store' (array_at new q) (held_at q (w.arrays ++ begun ∷ [])) in
      subst P (sym ((bytes_eq-Decides q path).0 t)) (agrees_some B meaning reads store' (array_at new path) (held_at path (w.arrays ++ begun ∷ [])) array begun here (held_at-new path w.arrays begun free refl) held_begun)
  agree_next q false t =
      let ne : q ≢ path = λ e. false≢true (sym t ∙ (bytes_eq-Decides q path).1 e) in
      agrees_kept B meaning reads store store' (array_at old q) (array_at new q) (held_at q w.arrays) (held_at q (w.arrays ++ begun ∷ [])) (others q ne) (held_at-others q w.arrays begun ne) (k.agree q) (λ a h e held. kept a q h e held)

  pub in_begun : IsIn meaning reads (new, (store', n)) (record { arrays = w.arrays ++ begun ∷ []; store = store'; refused = n })
  in_begun = record {
    agree = λ q. agree_next q (bytes_eq q path) refl;
    distinct = distinct_more w.arrays begun k.distinct free;
    store = refl;
    refused = refl;
  }
