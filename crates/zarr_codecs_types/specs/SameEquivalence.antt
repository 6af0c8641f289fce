-- The tests of equality hold of a thing and itself alone, and so are equivalences.
use Rattle.std.proofs.Common.{◌≡◌, List, [], ◌∷◌, Bool, ◌&&◌, ◌==◌, ap, sym, refl}
use Rattle.std.specs.Bool.{Decides}
use Rattle.std.specs.Prelude.{bytes_eq}
use Rattle.std.specs.Cmp.{IsEquivalence, both_ways}
use Rattle.std.proofs.lemmas.Slice.Eq.{bytes_eq-Decides}
use Rattle.std.proofs.lemmas.Bool.Decides.{Decides-eqb, Decides-like, Decides-and}
use Rattle.zarr_codecs_meaning.specs.Types.{Sign, unsigned, signed, Component, DataType, bool, integer, custom, string, variable_bytes, optional_of, Cell, of_bytes, absent, present, same_cell}
use Rattle.zarr_codecs_types.specs.Same.{same_sign, same_component, same_components, same_type}

-- a test that decides equality is an equivalence
equivalence : {K : Type 0} (test : K → K → Bool) → ((a b : K) → Decides (test a b) (a ≡ b)) → IsEquivalence test
equivalence test law = record {
  refl = λ x. (law x x).1 refl;
  symm = λ x y. both_ways (test x y) (test y x) (λ h. (law y x).1 (sym ((law x y).0 h))) (λ h. (law x y).1 (sym ((law y x).0 h)));
  congr = λ x y z h. ap (λ w. test w z) ((law x y).0 h);
}

sign_decides : (a b : Sign) → Decides (same_sign a b) (a ≡ b)
sign_decides unsigned unsigned = (λ h. refl, λ h. refl)
sign_decides unsigned signed = (λ h. cc, λ h. cc)
sign_decides signed unsigned = (λ h. cc, λ h. cc)
sign_decides signed signed = (λ h. refl, λ h. refl)

same_record : (a b : Component) → a.width ≡ b.width → a.byte_count ≡ b.byte_count → a.sign ≡ b.sign → a ≡ b
same_record a b p q r = λ i. record { width = p i; byte_count = q i; sign = r i }

component_decides : (a b : Component) → Decides (same_component a b) (a ≡ b)
component_decides a b =
    Decides-like (same_component a b) (λ (h : (a.width ≡ b.width) × ((a.byte_count ≡ b.byte_count) × (a.sign ≡ b.sign))). same_record a b h.0 h.1.0 h.1.1) (λ (h : a ≡ b). (ap (λ c. c.width) h, (ap (λ c. c.byte_count) h, ap (λ c. c.sign) h)))
    (Decides-and (a.width == b.width) ((a.byte_count == b.byte_count) && same_sign a.sign b.sign) (Decides-eqb a.width b.width) (Decides-and (a.byte_count == b.byte_count) (same_sign a.sign b.sign) (Decides-eqb a.byte_count b.byte_count) (sign_decides a.sign b.sign)))

pub components_decides : (a b : List Component) → Decides (same_components a b) (a ≡ b)
components_decides [] [] = (λ h. refl, λ h. refl)
components_decides [] (d ∷ ds) = (λ h. cc, λ h. cc)
components_decides (c ∷ cs) [] = (λ h. cc, λ h. cc)
components_decides (c ∷ cs) (d ∷ ds) =
    Decides-like (same_component c d && same_components cs ds) (λ (h : (c ≡ d) × (cs ≡ ds)). cc) (λ (h : c ∷ cs ≡ d ∷ ds). (cc, cc))
    (Decides-and (same_component c d) (same_components cs ds) (component_decides c d) (components_decides cs ds))

pub same_type_decides : (a b : DataType) → Decides (same_type a b) (a ≡ b)
same_type_decides bool bool = (λ h. refl, λ h. refl)
same_type_decides (integer sign width) (integer other number) =
    Decides-like (same_sign sign other && (width == number)) (λ (h : (sign ≡ other) × (width ≡ number)). cc) (λ (h : integer sign width ≡ integer other number). (cc, cc))
    (Decides-and (same_sign sign other) (width == number) (sign_decides sign other) (Decides-eqb width number))
same_type_decides (custom parts) (custom others) = Decides-like (same_components parts others) (λ (h : parts ≡ others). ap custom h) (λ (h : custom parts ≡ custom others). cc) (components_decides parts others)
same_type_decides string string = (λ h. refl, λ h. refl)
same_type_decides variable_bytes variable_bytes = (λ h. refl, λ h. refl)
same_type_decides (optional_of inner) (optional_of other) = Decides-like (same_type inner other) (λ (h : inner ≡ other). ap optional_of h) (λ (h : optional_of inner ≡ optional_of other). cc) (same_type_decides inner other)
same_type_decides _ _ = (λ h. cc, λ h. cc)

pub same_cell_decides : (a b : Cell) → Decides (same_cell a b) (a ≡ b)
same_cell_decides (of_bytes bytes) (of_bytes others) = Decides-like (bytes_eq bytes others) (λ (h : bytes ≡ others). ap of_bytes h) (λ (h : of_bytes bytes ≡ of_bytes others). cc) (bytes_eq-Decides bytes others)
same_cell_decides absent absent = (λ h. refl, λ h. refl)
same_cell_decides (present cell) (present other) = Decides-like (same_cell cell other) (λ (h : cell ≡ other). ap present h) (λ (h : present cell ≡ present other). cc) (same_cell_decides cell other)
same_cell_decides _ _ = (λ h. cc, λ h. cc)

pub same_type_equiv : IsEquivalence same_type
same_type_equiv = equivalence same_type same_type_decides

pub same_cell_equiv : IsEquivalence same_cell
same_cell_equiv = equivalence same_cell same_cell_decides
