-- The arrays at all paths, after a change at one.
use Rattle.std.proofs.Common.{◌≡◌, ◌≢◌, ◌∙◌, ℕ, List, refl, sym, ap, subst, Bool, true, false, Option, Some, None, bytes_eq}
use Rattle.std.specs.Map.{update}
use Rattle.std.proofs.lemmas.Bool.{cond-true, cond-false, false≢true, false_from_ne_true}
use Rattle.std.proofs.lemmas.Slice.Eq.{bytes_eq-Decides}
use Rattle.zarr_codecs_meaning.specs.Chains.{ByteCodec}
use Rattle.zarr_codecs_options.specs.declared.subchunk_write_order.SubchunkWriteOrder.{SubchunkWriteOrder}
use Rattle.zarr_run_opening.specs.Arrays.{IsReordered, KeepsArrays, KeepsOtherArrays}
use Rattle.zarr_run_opening.specs.Sessions.{Arrays, array_at}
use Rattle.zarr_run_opening.specs.declared.held.HeldArray.{HeldArray}

abbrev pub IsUpdated : {B : Type 0} → (List ℕ → Option (HeldArray B)) → (List ℕ → Option (HeldArray B)) → List ℕ → Option (HeldArray B) → Type 0
IsUpdated f g path w = (q : List ℕ) → g q ≡ update bytes_eq f path w q

pub at_path : {B : Type 0} (f g : List ℕ → Option (HeldArray B)) (path : List ℕ) (w : Option (HeldArray B)) → IsUpdated f g path w → g path ≡ w
at_path f g path w h = h path ∙ cond-true (bytes_eq path path) w (f path) ((bytes_eq-Decides path path).1 refl)

pub at_others : {B : Type 0} (f g : List ℕ → Option (HeldArray B)) (path : List ℕ) (w : Option (HeldArray B)) → IsUpdated f g path w → (q : List ℕ) → q ≢ path → g q ≡ f q
at_others f g path w h q ne = h q ∙ cond-false (bytes_eq path q) w (f q) (false_from_ne_true (bytes_eq path q) (λ t. ne (sym ((bytes_eq-Decides path q).0 t))))

pub some_same : {A : Type 0} (a b : A) → Some a ≡ Some b → a ≡ b
some_same a b e = cc

-- the array that was held is the one that got another write order
pub reordered_same : {B : Type 0} (meaning : B → ByteCodec) (order : SubchunkWriteOrder) (a b new : HeldArray B) → Some a ≡ Some b → IsReordered meaning order a new → IsReordered meaning order b new
reordered_same {B} meaning order a b new e is = let P : HeldArray B → Type 0 = λ x. IsReordered meaning order x new in subst P (some_same a b e) is

-- an array that was held at a free path, and is held no more
pub kept_back : {B : Type 0} (old mid new : Arrays B) (path : List ℕ) → array_at old path ≡ None → KeepsOtherArrays path old mid → array_at new path ≡ None → KeepsOtherArrays path mid new → KeepsArrays old new
kept_back old mid new path free held gone left = λ q. go q (bytes_eq q path) refl where
  go : (q : List ℕ) (b : Bool) → bytes_eq q path ≡ b → array_at new q ≡ array_at old q
  go q true t = let same : q ≡ path = (bytes_eq-Decides q path).0 t in ap (array_at new) same ∙ gone ∙ sym free ∙ ap (array_at old) (sym same)
  go q false t = let ne : q ≢ path = λ e. false≢true (sym t ∙ (bytes_eq-Decides q path).1 e) in left q ne ∙ held q ne
