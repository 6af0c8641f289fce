-- Elements as bits, turned to the bits that are kept of them, and back.
use Rattle.std.specs.Prelude.{ℕ, zero, suc, ◌+◌, ◌-◌, ◌*◌, ◌/◌, ◌^◌, List, [], ◌∷◌, ◌++◌, length, get_or, take, drop, Option, Bool, nat_lt}
use Rattle.std.specs.List.{list_all, flat_map}
use Rattle.zarr_codecs_meaning.specs.Numbers.{digits, number}
use Rattle.zarr_codecs_meaning.specs.Types.{Component, Sign, signed, unsigned, extended}
use Rattle.zarr_codecs_meaning.specs.Fits.{last_kept, kept_bits}
use Rattle.zarr_codecs_packbits.specs.declared.turning.Turn.{Turn}
use Rattle.zarr_codecs_packbits.specs.declared.turning.Way.{Way}
use Rattle.zarr_codecs_packbits.specs.declared.turning.Way.TheVariants.{Keep, Restore}

-- each number is a bit
abbrev pub are_bits : List ℕ → Bool
are_bits bits = list_all (λ b. nat_lt b 2) bits

-- the bits of bytes, eight for each, lowest first
abbrev pub bits_of : List ℕ → List ℕ
bits_of bytes = flat_map (digits 2 8) bytes

-- the bit that stands above those that were kept: zero, or a copy of the last one
abbrev pub bit_above : Sign → List ℕ → ℕ
bit_above unsigned kept = 0
bit_above signed kept = get_or kept (length kept - 1) 0

-- how many bits are read for a component: all of its bytes, or those that were kept
abbrev pub bits_read : Way → ℕ → Option ℕ → Component → ℕ
bits_read Keep first last c = 8 * c.byte_count
bits_read Restore first last c = kept_bits first last c

-- the bits that are kept of a component, or a component's bits of those that were kept
abbrev pub component_turned : Way → ℕ → Option ℕ → Component → List ℕ → List ℕ
component_turned Keep first last c bits = digits 2 (kept_bits first last c) (number 2 bits / 2 ^ first)
component_turned Restore first last c bits = digits 2 (8 * c.byte_count) (extended c.sign (last_kept last c + 1) c.byte_count (number 2 bits * 2 ^ first))

-- how many bits are read for an element
abbrev pub element_bits_read : Way → ℕ → Option ℕ → List Component → ℕ
element_bits_read way first last [] = 0
element_bits_read way first last (c ∷ cs) = bits_read way first last c + element_bits_read way first last cs

-- the components of an element, one after another
abbrev pub element_turned : Way → ℕ → Option ℕ → List Component → List ℕ → List ℕ
element_turned way first last [] bits = []
element_turned way first last (c ∷ cs) bits =
    component_turned way first last c (take (bits_read way first last c) bits) ++ element_turned way first last cs (drop (bits_read way first last c) bits)

-- the turn this way of the bits from the first to the last that are kept
abbrev pub turn_by : Way → ℕ → Option ℕ → Turn
turn_by way first last = record { way = way; first = first; last = last }

-- so many elements, one after another
abbrev pub turned : Turn → List Component → ℕ → List ℕ → List ℕ
turned turn parts zero bits = []
turned turn parts (suc count) bits =
    let read = element_bits_read turn.way turn.first turn.last parts in
    element_turned turn.way turn.first turn.last parts (take read bits) ++ turned turn parts count (drop read bits)
