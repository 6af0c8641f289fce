-- Texts that grow piece by piece.
use Rattle.std.proofs.Common.{◌≡◌, ℕ, List, ◌++◌, length, take, Result, Ok, Err, OnOk, OnErr, is_ok, if◌then◌else◌, refl, ◌∙◌, append_assoc}
use Rattle.std.proofs.Math.Seq.{take-append_seam}
use Rattle.zarr_codecs_json.proofs.PrintedTexts.{begins_same, begins_more, begins_trans}
use Rattle.zarr_codecs_json.specs.Texts.{Begins}

-- the last piece was appended where there was memory
pub appended : {T E : Type 0} (r : Result T E) (new old more text : List ℕ) → new ≡ (if is_ok r then old ++ more else old) → old ++ more ≡ text → OnOk r (new ≡ text)
appended (Ok x) new old more text grew same = grew ∙ same
appended (Err e) new old more text grew same = tt

-- the same, where a text is known only of success
pub then_appended : {T E : Type 0} (r : Result T E) (new old more text : List ℕ) → OnOk r (new ≡ old ++ more) → old ++ more ≡ text → OnOk r (new ≡ text)
then_appended (Ok x) new old more text grew same = grew ∙ same
then_appended (Err e) new old more text grew same = tt

pub joined : (old a b c once twice : List ℕ) → once ≡ old ++ a → twice ≡ once ++ b → twice ++ c ≡ old ++ (a ++ (b ++ c))
joined old a b c once twice first second = rw (second, first, append_assoc old a b, append_assoc old (a ++ b) c, append_assoc a b c) refl

-- what began with a longer text begins with what stood there first
pub then_begins : {T E : Type 0} (r : Result T E) (old a b once twice text : List ℕ) → once ≡ old ++ a → twice ≡ once ++ b → OnErr r (Begins twice text) → OnErr r (Begins old text)
then_begins (Ok x) old a b once twice text first second begins = tt
then_begins (Err e) old a b once twice text first second begins = begins_trans old twice text (begins_more old once b twice (begins_more old old a once (begins_same old old refl) first) second) begins

-- what was cut back to its old length is what it was
pub cut_back : (old a once twice : List ℕ) (n : ℕ) → n ≡ length old → once ≡ old ++ a → twice ≡ once → take n twice ≡ old
cut_back old a once twice n is first same = rw (is, same, first) (take-append_seam old a)

-- a text that was kept begins with what it is
pub begins_kept : {T E : Type 0} (r : Result T E) (old kept text : List ℕ) → kept ≡ old → OnErr r (text ≡ kept) → OnErr r (Begins old text)
begins_kept (Ok x) old kept text same is = tt
begins_kept (Err e) old kept text same is = begins_same old text (is ∙ same)
