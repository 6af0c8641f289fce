-- Elements below a mask, of which some are encoded and decoded.
use Rattle.std.proofs.Common.{◌≡◌, ◌∙◌, ℕ, suc, ◌<◌, List, [], ◌∷◌, length, ap, sym, refl, subst, arith, Bool, true, false, inl, inr, Some, option_and_then, Result, Ok, Err, Vec, Global, ◌==◌, if◌then◌else◌}
use Rattle.std.specs.List.{filter}
use Rattle.zarr_grids_boxes.specs.Boxes.{product}
use Rattle.zarr_codecs_meaning.specs.Chains.{ByteCodec, Chain}
use Rattle.zarr_codecs_meaning.specs.Encoding.{encoded, unless_none}
use Rattle.zarr_codecs_meaning.specs.Fits.{fits, is_plain}
use Rattle.zarr_codecs_meaning.specs.Laws.{IsLawfulChain, AreCells}
use Rattle.zarr_codecs_meaning.specs.Payloads.{Payload}
use Rattle.zarr_codecs_meaning.specs.Types.{DataType, bool, integer, custom, string, variable_bytes, optional_of, inner_type, Cell, is_value, Elements, zero_filled}
use Rattle.zarr_codecs_meaning.proofs.Lists.{some_same}
use Rattle.zarr_codecs_meaning.proofs.Making.{encoded_made}
use Rattle.zarr_codecs_meaning.proofs.Meaning.{laws_of}
use Rattle.zarr_codecs_meaning.proofs.Representations.{encoded_size}
use Rattle.zarr_codecs_arrays.specs.Outcomes.{IsValid}
use Rattle.zarr_codecs_arrays.specs.declared.error.CodecError.{CodecError}
use Rattle.zarr_codecs_arrays.specs.declared.error.CodecError.TheVariants as error
use Rattle.zarr_sharding_changes.proofs.Gapless.{plain_gapless}
use Rattle.zarr_codecs_traits.specs.Arrays.{coded}
use Rattle.zarr_codecs_traits.specs.Outcomes.{Encodes, MakesBytes}
use Rattle.zarr_codecs_sections.specs.Marks.{AreMarked, chosen, count_ones}
use Rattle.zarr_codecs_around.specs.Codecs.{all_encoded}
use Rattle.zarr_codecs_around.specs.Views.{with_codecs}
use Rattle.zarr_codecs_around.proofs.Chains.{encoded_with, passes_with, refused_by, refuses_with}
use Rattle.zarr_codecs_chains.specs.Inside.{MakesInner, MakesSome}

-- a type with an inner one is optional
pub optional_is : (type inner : DataType) → inner_type type ≡ Some inner → type ≡ optional_of inner
optional_is bool inner h = absurd (cc)
optional_is (integer sign width) inner h = absurd (cc)
optional_is (custom parts) inner h = absurd (cc)
optional_is string inner h = absurd (cc)
optional_is variable_bytes inner h = absurd (cc)
optional_is (optional_of type) inner h = ap optional_of (some_same h)

-- ---- how many they are

pub chosen_count : {A : Type 0} (marks : List ℕ) (xs : List A) → length xs ≡ length marks → length (chosen marks xs) ≡ count_ones marks
chosen_count [] xs long = refl
chosen_count (m ∷ ms) [] long = absurd (omega (arith, long))
chosen_count (m ∷ ms) (x ∷ xs) long = by_mark (m == 1) (chosen_count ms xs (omega (arith, long))) where
  by_mark : (b : Bool) → length (chosen ms xs) ≡ count_ones ms → length (if b then x ∷ chosen ms xs else chosen ms xs) ≡ length (if b then m ∷ filter (λ k. k == 1) ms else filter (λ k. k == 1) ms)
  by_mark true same = ap suc same
  by_mark false same = same

-- those whose marks are 1 are as many as there are ones
pub marked_count : (type : DataType) (marks : List ℕ) (cells : List Cell) (payload : Payload) → AreMarked type marks cells payload → length cells ≡ count_ones marks
marked_count type marks cells payload h = sym (ap length h.are) ∙ chosen_count marks h.all h.many

-- ---- encoding

-- what codecs make of what a chain made
pub makes_with : (chain : Chain) (codecs : List ByteCodec) (elements : Elements) (shape : List ℕ) (cells : List Cell) (made : List ℕ) (r : Result (Vec ℕ Global) CodecError) → encoded chain elements shape cells ≡ Some made → MakesBytes (all_encoded codecs) made r
    → MakesInner (with_codecs chain codecs) elements shape cells r
makes_with chain codecs elements shape cells made (Ok value) is h = encoded_with chain codecs elements shape cells ∙ (ap (option_and_then (all_encoded codecs)) is ∙ h)
makes_with chain codecs elements shape cells made (Err error.Codec) is h = refused_by chain codecs elements shape made cells is h
makes_with chain codecs elements shape cells made (Err error.Memory) is h = tt
makes_with chain codecs elements shape cells made (Err e) is h = absurd h

-- what a chain refuses, it refuses with codecs after it for the same reason
pub unmade_with : (chain : Chain) (codecs : List ByteCodec) (elements : Elements) (shape : List ℕ) (cells : List Cell) (e : CodecError) → MakesInner chain elements shape cells (Err e) → MakesInner (with_codecs chain codecs) elements shape cells (Err e)
unmade_with chain codecs elements shape cells error.Codec h = refuses_with chain codecs elements shape cells h
unmade_with chain codecs elements shape cells error.Size h = passes_with chain codecs elements shape cells h
unmade_with chain codecs elements shape cells error.Memory h = tt
unmade_with chain codecs elements shape cells e h = absurd h

-- nothing is made of no elements
pub none_made : (chain : Chain) (type : DataType) (cells : List Cell) (value : Vec ℕ Global) → length cells ≡ 0 → value.items ≡ [] → MakesSome chain type cells (Ok value)
none_made chain type [] value none is = ap Some (sym is)
none_made chain type (c ∷ cells) value none is = absurd (omega (arith, none))

-- of some elements that is made that the chain makes
pub some_made : (chain : Chain) (type : DataType) (cells : List Cell) (count : ℕ) (r : Result (Vec ℕ Global) CodecError) → length cells ≡ count → 0 < count → MakesInner chain (zero_filled type) (count ∷ []) cells r → MakesSome chain type cells r
some_made chain type cells count (Ok value) same some h = whole cells same (subst (λ n. encoded chain (zero_filled type) (n ∷ []) cells ≡ Some value.items) (sym same) h) where
  whole : (cs : List Cell) → length cs ≡ count → encoded chain (zero_filled type) (length cs ∷ []) cs ≡ Some value.items → unless_none cs (encoded chain (zero_filled type) (length cs ∷ []) cs) ≡ Some value.items
  whole [] none e = absurd (omega (arith, none, some))
  whole (c ∷ cs) long e = e
some_made chain type cells count (Err error.Codec) same some h = (subst (λ n. 0 < n) (sym same) some, subst (λ n. MakesInner chain (zero_filled type) (n ∷ []) cells (Err error.Codec)) (sym same) h)
some_made chain type cells count (Err error.Size) same some h = (subst (λ n. 0 < n) (sym same) some, subst (λ n. MakesInner chain (zero_filled type) (n ∷ []) cells (Err error.Size)) (sym same) h)
some_made chain type cells count (Err error.Memory) same some h = tt
some_made chain type cells count (Err e) same some h = absurd h

-- what is made of the elements of an array that the chain suits
pub makes_encodes : (chain : Chain) (elements : Elements) (shape : List ℕ) (payload : Payload) (cells : List Cell) (r : Result (Vec ℕ Global) CodecError)
    → IsLawfulChain chain → is_value elements.type elements.fill ≡ true → fits chain elements.type shape ≡ true → is_plain chain ≡ true → IsValid elements.type payload (product shape) cells → MakesInner chain elements shape cells r → Encodes (coded chain elements shape) true payload r
makes_encodes chain elements shape payload cells (Ok value) lawful fill fit plain valid whole =
    let are : AreCells elements shape cells = record { fill = fill; values = valid.values; whole = valid.is.many } in (
      cells,
      record {
        valid = valid;
        fit = fit;
        made = encoded_made chain elements shape cells value.items whole;
        encodes = λ _. whole;
        stands = λ lossless. (laws_of chain lawful).stands elements shape value.items cells fit (inl lossless) are whole;
        sized = encoded_size chain elements shape value.items cells lawful fit are whole;
        gapless = plain_gapless chain shape value.items plain;
      },
    )
makes_encodes chain elements shape payload cells (Err error.Codec) lawful fill fit plain valid h = (cells, record { valid = valid; fit = fit; is = h })
makes_encodes chain elements shape payload cells (Err error.Size) lawful fill fit plain valid h = inr (cells, record { valid = valid; fit = fit; is = h })
makes_encodes chain elements shape payload cells (Err error.Memory) lawful fill fit plain valid h = tt
makes_encodes chain elements shape payload cells (Err e) lawful fill fit plain valid h = absurd h
