use Rattle.std.proofs.Common.{◌≡◌, ◌++◌, ◌*◌, ◌∙◌, ◌∷◌, [], ℕ, ap, sym, arith, append_assoc, take, drop, map}
use Rattle.std.specs.List.{range_with_len}
use Rattle.std.proofs.lemmas.List.FromFn.{map-range_with_len_more}
use Rattle.zarr_codecs_meaning.specs.Numbers.{number}
use Rattle.zarr_codecs_packbits.specs.Turning.{are_bits}
use Rattle.zarr_codecs_packbits.proofs.BitLists.{bits_drop}
use Rattle.zarr_codecs_packbits.proofs.bits.push_packed.Goals as goal

pub first_byte-requires : goal.first_byte-requires
first_byte-requires c = ap are_bits c.split_at.ensures.back ∙ bits_drop (8 * c.loop-n.n) c.args.bits.now c.requires

pub loop-n-preserved : goal.loop-n-preserved
loop-n-preserved c =
    let n = c.loop-n.n in
    let old = c.args.bytes.now.items in
    let byte = λ (k : ℕ). number 2 (take 8 (drop (8 * k) c.args.bits.now)) in
    let one : c.first_byte.result ≡ byte n = c.first_byte.ensures ∙ ap (λ ns. number 2 (take 8 ns)) c.split_at.ensures.back in
    c.in_ok-push.ensures.items
    ∙ (ap (λ ns. ns ++ c.first_byte.result ∷ []) c.loop-n.invariant
    ∙ (append_assoc old (map byte (range_with_len 0 n)) (c.first_byte.result ∷ [])
    ∙ ap (λ ns. old ++ ns) (ap (λ b. map byte (range_with_len 0 n) ++ b ∷ []) one ∙ sym (map-range_with_len_more byte 0 n n (omega arith)))))
