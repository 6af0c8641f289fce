use Rattle.std.proofs.Common.{◌≡◌, ◌∙◌, ◌*◌, ◌%◌, ℕ, ap, sym}
use Rattle.std.proofs.Math.Nat.{mul_comm}
use Rattle.zarr_codecs_packbits.proofs.PackedWords.{padding_counted}
use Rattle.zarr_codecs_packbits.proofs.unpacking.first_bit.Goals as goal

both_rest : (a b : ℕ) → (a % 8 * (b % 8)) % 8 ≡ (a * b) % 8
both_rest a b = sym (padding_counted a b ∙ (ap (λ n. n % 8) (mul_comm (a % 8) b) ∙ (padding_counted b (a % 8) ∙ ap (λ n. n % 8) (mul_comm (b % 8) (a % 8)))))

pub returns : goal.returns
returns c = both_rest c.args.span.start c.args.bits
