-- Elements turned to their kept bits, and back.
use Rattle.std.proofs.Common.{◌≡◌, ℕ, zero, suc, ◌+◌, ◌*◌, ◌/◌, ◌^◌, ◌<◌, ◌≤◌, List, [], ◌∷◌, ◌++◌, length, take, drop, ap, ◌∙◌, sym, refl, arith, Option, length-take, length-drop, take-append-drop}
use Rattle.std.proofs.lemmas.List.{drop-drop, nil_from_length}
use Rattle.std.proofs.Math.Seq.{take-add}
use Rattle.std.proofs.lemmas.List.{take_at, drop_at}
use Rattle.std.specs.List.{flat_map, range_with_len}
use Rattle.zarr_codecs_meaning.specs.Numbers.{digits, number}
use Rattle.zarr_codecs_meaning.specs.Types.{Component, bytes_in, extended, Cell, of_bytes, cell_bytes}
use Rattle.zarr_codecs_meaning.specs.Fits.{last_kept, kept_bits, bits_in}
use Rattle.zarr_codecs_meaning.specs.Encoding.{element_bits, element_of_bits}
use Rattle.zarr_codecs_meaning.specs.Payloads.{fixed_cells}
use Rattle.zarr_codecs_meaning.proofs.Lists.{Each}
use Rattle.zarr_codecs_meaning.proofs.Digits.{each-take, each-drop}
use Rattle.zarr_codecs_arrays.proofs.FixedCells.{fixed_cells-cons, fixed_cells-nil}
use Rattle.zarr_codecs_packbits.specs.declared.turning.Way.{Way}
use Rattle.zarr_codecs_packbits.specs.declared.turning.Way.TheVariants.{Keep, Restore}
use Rattle.zarr_codecs_packbits.specs.Packing.{bytes_of, element_in}
use Rattle.zarr_codecs_packbits.specs.Turning.{bits_of, bits_read, component_turned, element_bits_read, element_turned, turned, turn_by}
use Rattle.zarr_codecs_packbits.proofs.BitLists.{bits_append, bits_number, take_bits, drop_bits, bits_of_digits}

-- the first component of an element, and the others
pub element_taken : (way : Way) (first : ℕ) (last : Option ℕ) (c : Component) (cs : List Component) (bits : List ℕ) → bits_read way first last c ≤ length bits
    → element_turned way first last (c ∷ cs) (take (element_bits_read way first last (c ∷ cs)) bits)
    ≡ component_turned way first last c (take (bits_read way first last c) bits) ++ element_turned way first last cs (take (element_bits_read way first last cs) (drop (bits_read way first last c) bits))
element_taken way first last c cs bits enough =
    let n = bits_read way first last c in
    let front = take n bits in
    let back = take (element_bits_read way first last cs) (drop n bits) in
    let long : length front ≡ n = length-take n bits ∙ omega (arith, enough) in
    ap (element_turned way first last (c ∷ cs)) (take-add n (element_bits_read way first last cs) bits)
    ∙ (ap (λ ns. component_turned way first last c ns ++ element_turned way first last cs (drop n (front ++ back))) (take_at front back n long)
    ∙ ap (λ ns. component_turned way first last c front ++ element_turned way first last cs ns) (drop_at front back n long))

-- ---- keeping

pub keep_read : (first : ℕ) (last : Option ℕ) (parts : List Component) → element_bits_read Keep first last parts ≡ 8 * bytes_in parts
keep_read first last [] = refl
keep_read first last (c ∷ cs) = let rest = keep_read first last cs in omega (arith, rest)

keep_element : (first : ℕ) (last : Option ℕ) (parts : List Component) (element : List ℕ) → bytes_in parts ≤ length element → Each (λ b. b < 256) element → element_turned Keep first last parts (bits_of element) ≡ element_bits first last parts element
keep_element first last [] element long h = refl
keep_element first last (c ∷ cs) element long h =
    let n = c.byte_count in
    let kept = kept_bits first last c in
    let enough : n ≤ length element = omega (arith, long) in
    let rest = element_turned Keep first last cs (drop (8 * n) (bits_of element)) in
    ap (λ ns. digits 2 kept (number 2 ns / 2 ^ first) ++ rest) (take_bits n element enough)
    ∙ (ap (λ m. digits 2 kept (m / 2 ^ first) ++ rest) (bits_number (take n element) (each-take (λ b. b < 256) n element h))
    ∙ ap (λ ns. digits 2 kept (number 256 (take n element) / 2 ^ first) ++ ns)
    (ap (element_turned Keep first last cs) (drop_bits n element enough) ∙ keep_element first last cs (drop n element) (omega (arith, long, length-drop n element)) (each-drop (λ b. b < 256) n element h)))

-- what is kept of elements, one after another
pub keep_all : (first : ℕ) (last : Option ℕ) (parts : List Component) (count : ℕ) (given : List ℕ) → 0 < bytes_in parts → length given ≡ count * bytes_in parts → Each (λ b. b < 256) given
    → turned (turn_by Keep first last) parts count (bits_of given) ≡ flat_map (λ cell. element_bits first last parts (cell_bytes cell)) (fixed_cells (bytes_in parts) given)
keep_all first last parts zero given some long h =
    let empty : given ≡ [] = nil_from_length given (long ∙ omega arith) in
    sym (ap (λ ns. flat_map (λ cell. element_bits first last parts (cell_bytes cell)) (fixed_cells (bytes_in parts) ns)) empty ∙ ap (flat_map (λ cell. element_bits first last parts (cell_bytes cell))) (fixed_cells-nil (bytes_in parts)))
keep_all first last parts (suc count) given some long h =
    let width = bytes_in parts in
    let make = λ (cell : Cell). element_bits first last parts (cell_bytes cell) in
    let sum : suc count * width ≡ width + count * width = grind arith in
    let enough : width ≤ length given = omega (arith, long, sum) in
    let front = take width given in
    let back = drop width given in
    let one : length front ≡ width = length-take width given ∙ omega (arith, enough) in
    let cells : fixed_cells width given ≡ of_bytes front ∷ fixed_cells width back = ap (fixed_cells width) (sym (take-append-drop width given)) ∙ fixed_cells-cons width front back some one in
    let read = keep_read first last parts in
    ap (λ n. element_turned Keep first last parts (take n (bits_of given)) ++ turned (turn_by Keep first last) parts count (drop n (bits_of given))) read
    ∙ (ap (λ ns. element_turned Keep first last parts ns ++ turned (turn_by Keep first last) parts count (drop (8 * width) (bits_of given))) (take_bits width given enough)
    ∙ (ap (λ ns. element_turned Keep first last parts (bits_of front) ++ turned (turn_by Keep first last) parts count ns) (drop_bits width given enough)
    ∙ (ap (λ ns. ns ++ turned (turn_by Keep first last) parts count (bits_of back)) (keep_element first last parts front (omega (arith, one)) (each-take (λ b. b < 256) width given h))
    ∙ (ap (λ ns. make (of_bytes front) ++ ns) (keep_all first last parts count back some (length-drop width given ∙ omega (arith, long, sum)) (each-drop (λ b. b < 256) width given h))
    ∙ sym (ap (flat_map make) cells)))))

-- ---- restoring

pub restore_read : (first : ℕ) (last : Option ℕ) (parts : List Component) → element_bits_read Restore first last parts ≡ bits_in first last parts
restore_read first last [] = refl
restore_read first last (c ∷ cs) = ap (λ n. kept_bits first last c + n) (restore_read first last cs)

restore_element : (first : ℕ) (last : Option ℕ) (parts : List Component) (bits : List ℕ) → element_turned Restore first last parts bits ≡ bits_of (element_of_bits first last parts bits)
restore_element first last [] bits = refl
restore_element first last (c ∷ cs) bits =
    let n = c.byte_count in
    let kept = kept_bits first last c in
    let x = extended c.sign (last_kept last c + 1) n (number 2 (take kept bits) * 2 ^ first) in
    ap (λ ns. ns ++ element_turned Restore first last cs (drop kept bits)) (bits_of_digits n x)
    ∙ (ap (λ ns. bits_of (digits 256 n x) ++ ns) (restore_element first last cs (drop kept bits)) ∙ sym (bits_append (digits 256 n x) (element_of_bits first last cs (drop kept bits))))

-- elements of kept bits, from one on
restore_from : (first : ℕ) (last : Option ℕ) (parts : List Component) (bits : List ℕ) (start count : ℕ)
    → turned (turn_by Restore first last) parts count (drop (start * bits_in first last parts) bits) ≡ bits_of (flat_map (element_in first last parts bits) (range_with_len start count))
restore_from first last parts bits start zero = refl
restore_from first last parts bits start (suc count) =
    let width = bits_in first last parts in
    let rest = drop (start * width) bits in
    let element = element_of_bits first last parts (take width rest) in
    let others = flat_map (element_in first last parts bits) (range_with_len (start + 1) count) in
    let next : drop width rest ≡ drop ((start + 1) * width) bits = let e : start * width + width ≡ (start + 1) * width = grind arith in drop-drop width (start * width) bits ∙ ap (λ n. drop n bits) e in
    ap (λ n. element_turned Restore first last parts (take n rest) ++ turned (turn_by Restore first last) parts count (drop n rest)) (restore_read first last parts)
    ∙ (ap (λ ns. ns ++ turned (turn_by Restore first last) parts count (drop width rest)) (restore_element first last parts (take width rest))
    ∙ (ap (λ ns. bits_of element ++ turned (turn_by Restore first last) parts count ns) next
    ∙ (ap (λ ns. bits_of element ++ ns) (restore_from first last parts bits (start + 1) count) ∙ sym (bits_append element others))))

-- elements of kept bits, one after another
pub restore_all : (first : ℕ) (last : Option ℕ) (parts : List Component) (count : ℕ) (bits : List ℕ) → turned (turn_by Restore first last) parts count bits ≡ bits_of (bytes_of first last parts count bits)
restore_all first last parts count bits =
    let start : 0 * bits_in first last parts ≡ 0 = omega arith in
    sym (ap (λ n. turned (turn_by Restore first last) parts count (drop n bits)) start) ∙ restore_from first last parts bits 0 count
