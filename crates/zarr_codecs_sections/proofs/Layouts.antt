-- The sections of a value behind its two lengths.
use Rattle.std.proofs.Common.{◌≡◌, ℕ, ◌+◌, List, length, take, drop, ap, ◌∙◌, sym, arith, Some, None, Bool, ◌&&◌, ◌==◌, if◌then◌else◌}
use Rattle.std.specs.Prelude.{nat_le}
use Rattle.std.proofs.lemmas.Bool.{le-leb, eq-eqb}
use Rattle.std.proofs.Math.Seq.{drop-drop}
use Rattle.zarr_codecs_meaning.specs.Numbers.{number}
use Rattle.zarr_codecs_meaning.specs.Decoding.{masked_of}

pub mask_split : (value first second after : List ℕ) (long rest : ℕ) → long ≡ number 256 (take 8 value) → rest ≡ number 256 (take 8 (drop 8 value)) → after ≡ drop 8 (drop 8 value) → length after + 16 ≡ length value → long + rest ≡ length after → first ≡ take long after → second ≡ drop long after
    → Some (first, second) ≡ masked_of value
mask_split value first second after long rest told other behind whole exact one two =
    let past : drop 16 value ≡ after = sym (drop-drop 8 8 value) ∙ sym behind in
    let front : take long (drop 16 value) ≡ first = ap (take long) past ∙ sym one in
    let back : drop (16 + long) value ≡ second = sym (drop-drop long 16 value) ∙ (ap (drop long) past ∙ sym two) in
    sym (ap (λ n. if nat_le 16 (length value) && (length value == 16 + n + number 256 (take 8 (drop 8 value))) then Some (take n (drop 16 value), drop (16 + n) value) else None) (sym told)
    ∙ (ap (λ n. if nat_le 16 (length value) && (length value == 16 + long + n) then Some (take long (drop 16 value), drop (16 + long) value) else None) (sym other)
    ∙ (ap (λ (b : Bool). if b && (length value == 16 + long + rest) then Some (take long (drop 16 value), drop (16 + long) value) else None) (le-leb 16 (length value) (omega (arith, whole)))
    ∙ (ap (λ (b : Bool). if b then Some (take long (drop 16 value), drop (16 + long) value) else None) (eq-eqb (length value) (16 + long + rest) (omega (arith, whole, exact)))
    ∙ (ap (λ (ns : List ℕ). Some (ns, drop (16 + long) value)) front ∙ ap (λ (ns : List ℕ). Some (first, ns)) back)))))
