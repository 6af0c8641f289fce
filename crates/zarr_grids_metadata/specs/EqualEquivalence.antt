-- The tests of equality are symmetric and transitive, and where there are no floats they hold of a thing and itself alone.
use Rattle.std.proofs.Common.{◌≡◌, Bool, true, false, ◌&&◌, ◌==◌, ap, sym, ◌∙◌, refl, Option, Some, None}
use Rattle.std.specs.Prelude.{Float}
use Rattle.std.specs.Bool.{Decides, beq}
use Rattle.std.specs.Prelude.{bytes_eq}
use Rattle.std.specs.Ordering.{int_eq}
use Rattle.std.specs.Cmp.{IsPartialEquivalence, int_eq_equiv, bool_eq_equiv, nat_eq_equiv}
use Rattle.std.specs.Cmp.Lexicographic.{nat_list_eq_equiv}
use Rattle.std.specs.Float.Ieee as ieee
use Rattle.std.specs.Float.Cmp.{floats_per}
use Rattle.std.proofs.lemmas.Bool.{and_parts, or_parts}
use Rattle.std.proofs.lemmas.Slice.Eq.{bytes_eq-Decides}
use Rattle.std.proofs.lemmas.Bool.Decides.{Decides-eqb, Decides-int_eq, Decides-like, Decides-and}
use Rattle.serde_json.specs.Data.{Num, unsigned, negative, float, Data, null, boolean, number, string, array, object, Items, no_items, item, Members, no_members, member}
use Rattle.serde_json.specs.Find.{is_float}
use Rattle.serde_json.specs.Written.{has_float, items_have_float, members_have_float}
use Rattle.zarr_grids_metadata.specs.ExtensionPoints.{ExtensionPoint, configuration_members}
use Rattle.zarr_grids_metadata.specs.Equal.{equal_numbers, equal, equal_items, equal_members, equal_configurations, equal_points}

-- ---- symmetric

numbers_symm : (m n : Num) → equal_numbers m n ≡ equal_numbers n m
numbers_symm (unsigned m) (unsigned n) = nat_eq_equiv.symm m n
numbers_symm (negative y) (negative z) = int_eq_equiv.symm y z
numbers_symm (float x) (float y) = floats_per.symm x y
numbers_symm _ _ = refl

mutual
  symm : (a b : Data) → equal a b ≡ equal b a
  symm null null = refl
  symm (boolean b) (boolean c) = bool_eq_equiv.symm b c
  symm (number m) (number n) = numbers_symm m n
  symm (string s) (string t) = nat_list_eq_equiv.symm s t
  symm (array ds) (array es) = items_symm ds es
  symm (object ms) (object ns) = members_symm ms ns
  symm _ _ = refl

  items_symm : (ds es : Items) → equal_items ds es ≡ equal_items es ds
  items_symm no_items no_items = refl
  items_symm (item d ds) (item e es) = λ i. symm d e i && items_symm ds es i
  items_symm _ _ = refl

  members_symm : (ms ns : Members) → equal_members ms ns ≡ equal_members ns ms
  members_symm no_members no_members = refl
  members_symm (member k d ms) (member l e ns) = λ i. nat_list_eq_equiv.symm k l i && (symm d e i && members_symm ms ns i)
  members_symm _ _ = refl

configurations_symm : (c d : Option Members) → equal_configurations c d ≡ equal_configurations d c
configurations_symm None None = refl
configurations_symm (Some ms) (Some ns) = members_symm ms ns
configurations_symm _ _ = refl

-- ---- transitive

floats_trans : (x y : Float) (p : Num) → ieee.eq x y ≡ true → equal_numbers (float y) p ≡ true → equal_numbers (float x) p ≡ true
floats_trans x y (unsigned p) h k = absurd (cc)
floats_trans x y (negative z) h k = absurd (cc)
floats_trans x y (float z) h k = floats_per.trans x y z h k

numbers_trans : (m n p : Num) → equal_numbers m n ≡ true → equal_numbers n p ≡ true → equal_numbers m p ≡ true
numbers_trans (unsigned m) (unsigned n) p h k = ap (λ x. equal_numbers (unsigned x) p) ((Decides-eqb m n).0 h) ∙ k
numbers_trans (negative y) (negative z) p h k = ap (λ x. equal_numbers (negative x) p) ((Decides-int_eq y z).0 h) ∙ k
numbers_trans (float x) (float y) p h k = floats_trans x y p h k
numbers_trans _ _ p h k = absurd (cc)

beq_same : (b c : Bool) → beq b c ≡ true → b ≡ c
beq_same true true h = refl
beq_same true false h = absurd (cc)
beq_same false true h = absurd (cc)
beq_same false false h = refl

number_trans : (m n : Num) (c : Data) → equal_numbers m n ≡ true → equal (number n) c ≡ true → equal (number m) c ≡ true
number_trans m n (number p) h k = numbers_trans m n p h k
number_trans m n _ h k = absurd (cc)

array_trans : (ds es : Items) (c : Data) → ((fs : Items) → equal_items es fs ≡ true → equal_items ds fs ≡ true) → equal (array es) c ≡ true → equal (array ds) c ≡ true
array_trans ds es (array fs) on k = on fs k
array_trans ds es _ on k = absurd (cc)

object_trans : (ms ns : Members) (c : Data) → ((os : Members) → equal_members ns os ≡ true → equal_members ms os ≡ true) → equal (object ns) c ≡ true → equal (object ms) c ≡ true
object_trans ms ns (object os) on k = on os k
object_trans ms ns _ on k = absurd (cc)

mutual
  trans : (a b c : Data) → equal a b ≡ true → equal b c ≡ true → equal a c ≡ true
  trans null null c h k = k
  trans (boolean x) (boolean y) c h k = ap (λ z. equal (boolean z) c) (beq_same x y h) ∙ k
  trans (number m) (number n) c h k = number_trans m n c h k
  trans (string s) (string t) c h k = ap (λ u. equal (string u) c) ((bytes_eq-Decides s t).0 h) ∙ k
  trans (array ds) (array es) c h k = array_trans ds es c (λ fs. items_trans ds es fs h) k
  trans (object ms) (object ns) c h k = object_trans ms ns c (λ os. members_trans ms ns os h) k
  trans _ _ c h k = absurd (cc)

  items_trans : (ds es fs : Items) → equal_items ds es ≡ true → equal_items es fs ≡ true → equal_items ds fs ≡ true
  items_trans no_items no_items fs h k = k
  items_trans (item d ds) (item e es) (item f fs) h k =
      let a = and_parts (equal d e) (equal_items ds es) h in
      let b = and_parts (equal e f) (equal_items es fs) k in
      λ i. trans d e f a.0 b.0 i && items_trans ds es fs a.1 b.1 i
  items_trans _ _ _ h k = absurd (cc)

  members_trans : (ms ns os : Members) → equal_members ms ns ≡ true → equal_members ns os ≡ true → equal_members ms os ≡ true
  members_trans no_members no_members os h k = k
  members_trans (member j d ms) (member k e ns) (member l f os) h g =
      let a = and_parts (bytes_eq j k) (equal d e && equal_members ms ns) h in
      let b = and_parts (bytes_eq k l) (equal e f && equal_members ns os) g in
      let s = and_parts (equal d e) (equal_members ms ns) a.1 in
      let t = and_parts (equal e f) (equal_members ns os) b.1 in
      let name : bytes_eq j l ≡ true = ap (λ x. bytes_eq x l) ((bytes_eq-Decides j k).0 a.0) ∙ b.0 in
      λ i. name i && (trans d e f s.0 t.0 i && members_trans ms ns os s.1 t.1 i)
  members_trans _ _ _ h k = absurd (cc)

configurations_trans : (b c d : Option Members) → equal_configurations b c ≡ true → equal_configurations c d ≡ true → equal_configurations b d ≡ true
configurations_trans None None d h k = k
configurations_trans (Some ms) (Some ns) (Some os) h k = members_trans ms ns os h k
configurations_trans _ _ _ h k = absurd (cc)

pub equal_points_per : IsPartialEquivalence equal_points
equal_points_per = record {
  symm = λ p q i. nat_list_eq_equiv.symm p.name q.name i && (configurations_symm p.configuration q.configuration i && bool_eq_equiv.symm p.must_understand q.must_understand i);
  trans = λ p q r h k.
      let a = and_parts (bytes_eq p.name q.name) (equal_configurations p.configuration q.configuration && beq p.must_understand q.must_understand) h in
      let b = and_parts (bytes_eq q.name r.name) (equal_configurations q.configuration r.configuration && beq q.must_understand r.must_understand) k in
      let s = and_parts (equal_configurations p.configuration q.configuration) (beq p.must_understand q.must_understand) a.1 in
      let t = and_parts (equal_configurations q.configuration r.configuration) (beq q.must_understand r.must_understand) b.1 in
      let name : bytes_eq p.name r.name ≡ true = ap (λ x. bytes_eq x r.name) ((bytes_eq-Decides p.name q.name).0 a.0) ∙ b.0 in
      let flag : beq p.must_understand r.must_understand ≡ true = ap (λ x. beq x r.must_understand) (beq_same p.must_understand q.must_understand s.1) ∙ t.1 in
      λ i. name i && (configurations_trans p.configuration q.configuration r.configuration s.0 t.0 i && flag i);
}

-- ---- of trees without floats

numbers_decides : (m n : Num) → is_float m ≡ false → Decides (equal_numbers m n) (m ≡ n)
numbers_decides (unsigned m) (unsigned n) none = Decides-like (m == n) (λ (h : m ≡ n). ap unsigned h) (λ (h : unsigned m ≡ unsigned n). cc) (Decides-eqb m n)
numbers_decides (negative y) (negative z) none = Decides-like (int_eq y z) (λ (h : y ≡ z). ap negative h) (λ (h : negative y ≡ negative z). cc) (Decides-int_eq y z)
numbers_decides (float x) n none = absurd (cc)
numbers_decides _ _ none = (λ h. cc, λ h. cc)

beq_decides : (b c : Bool) → Decides (beq b c) (b ≡ c)
beq_decides b c = (beq_same b c, λ h. ap (λ x. beq b x) (sym h) ∙ bool_eq_equiv.refl b)

mutual
  pub equal_decides : (a b : Data) → has_float a ≡ false → Decides (equal a b) (a ≡ b)
  equal_decides null null none = (λ h. refl, λ h. refl)
  equal_decides (boolean b) (boolean c) none = Decides-like (beq b c) (λ (h : b ≡ c). ap boolean h) (λ (h : boolean b ≡ boolean c). cc) (beq_decides b c)
  equal_decides (number m) (number n) none = Decides-like (equal_numbers m n) (λ (h : m ≡ n). ap number h) (λ (h : number m ≡ number n). cc) (numbers_decides m n none)
  equal_decides (string s) (string t) none = Decides-like (bytes_eq s t) (λ (h : s ≡ t). ap string h) (λ (h : string s ≡ string t). cc) (bytes_eq-Decides s t)
  equal_decides (array ds) (array es) none = Decides-like (equal_items ds es) (λ (h : ds ≡ es). ap array h) (λ (h : array ds ≡ array es). cc) (items_decides ds es none)
  equal_decides (object ms) (object ns) none = Decides-like (equal_members ms ns) (λ (h : ms ≡ ns). ap object h) (λ (h : object ms ≡ object ns). cc) (members_decides ms ns none)
  equal_decides _ _ none = (λ h. cc, λ h. cc)

  items_decides : (ds es : Items) → items_have_float ds ≡ false → Decides (equal_items ds es) (ds ≡ es)
  items_decides no_items no_items none = (λ h. refl, λ h. refl)
  items_decides (item d ds) (item e es) none =
      let parts = or_parts (has_float d) (items_have_float ds) none in
      Decides-like (equal d e && equal_items ds es) (λ (h : (d ≡ e) × (ds ≡ es)). cc) (λ (h : item d ds ≡ item e es). (cc, cc))
      (Decides-and (equal d e) (equal_items ds es) (equal_decides d e parts.0) (items_decides ds es parts.1))
  items_decides _ _ none = (λ h. cc, λ h. cc)

  members_decides : (ms ns : Members) → members_have_float ms ≡ false → Decides (equal_members ms ns) (ms ≡ ns)
  members_decides no_members no_members none = (λ h. refl, λ h. refl)
  members_decides (member k d ms) (member l e ns) none =
      let parts = or_parts (has_float d) (members_have_float ms) none in
      Decides-like (bytes_eq k l && (equal d e && equal_members ms ns)) (λ (h : (k ≡ l) × ((d ≡ e) × (ms ≡ ns))). cc) (λ (h : member k d ms ≡ member l e ns). (cc, (cc, cc)))
      (Decides-and (bytes_eq k l) (equal d e && equal_members ms ns) (bytes_eq-Decides k l) (Decides-and (equal d e) (equal_members ms ns) (equal_decides d e parts.0) (members_decides ms ns parts.1)))
  members_decides _ _ none = (λ h. cc, λ h. cc)

configurations_decides : (c d : Option Members) → members_have_float (configuration_members c) ≡ false → Decides (equal_configurations c d) (c ≡ d)
configurations_decides None None none = (λ h. refl, λ h. refl)
configurations_decides (Some ms) (Some ns) none = Decides-like (equal_members ms ns) (λ (h : ms ≡ ns). ap (λ x. Some x) h) (λ (h : Some ms ≡ Some ns). cc) (members_decides ms ns none)
configurations_decides _ _ none = (λ h. cc, λ h. cc)

same_record : (p q : ExtensionPoint) → p.name ≡ q.name → p.configuration ≡ q.configuration → p.must_understand ≡ q.must_understand → p ≡ q
same_record p q a b c = λ i. record { name = a i; configuration = b i; must_understand = c i }

pub equal_points_decides : (p q : ExtensionPoint) → members_have_float (configuration_members p.configuration) ≡ false → Decides (equal_points p q) (p ≡ q)
equal_points_decides p q none =
    Decides-like (equal_points p q) (λ (h : (p.name ≡ q.name) × ((p.configuration ≡ q.configuration) × (p.must_understand ≡ q.must_understand))). same_record p q h.0 h.1.0 h.1.1) (λ (h : p ≡ q). (ap (λ r. r.name) h, (ap (λ r. r.configuration) h, ap (λ r. r.must_understand) h)))
    (Decides-and (bytes_eq p.name q.name) (equal_configurations p.configuration q.configuration && beq p.must_understand q.must_understand) (bytes_eq-Decides p.name q.name)
    (Decides-and (equal_configurations p.configuration q.configuration) (beq p.must_understand q.must_understand) (configurations_decides p.configuration q.configuration none) (beq_decides p.must_understand q.must_understand)))
