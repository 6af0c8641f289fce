-- Lists of bytes.
use Rattle.std.proofs.Common.{◌≡◌, ℕ, ◌<◌, suc, List, [], ◌∷◌, get_or, true, arith, length}
use Rattle.std.specs.Prelude.{nat_lt}
use Rattle.std.proofs.lemmas.Bool.{lt-ltb}
use mir.Val.{Fits}
use mir.Syntax.{w8}
use Rattle.zarr_codecs_meaning.specs.Types.{are_bytes}
use Rattle.zarr_codecs_meaning.proofs.Lists.{Each, all_pass, each_weaker}

-- what the elements of a slice of bytes are known to be
pub each_byte : (bs : List ℕ) → ((i : ℕ) → Fits w8 (get_or bs i 0)) → Each (λ b. b < 256) bs
each_byte [] h = tt
each_byte (b ∷ bs) h = let f = h 0 in (omega arith, each_byte bs (λ i. h (suc i)))

pub are_bytes_each : (bs : List ℕ) → Each (λ b. b < 256) bs → are_bytes bs ≡ true
are_bytes_each bs h = all_pass (λ b. nat_lt b 256) bs (each_weaker (λ b. b < 256) (λ b. nat_lt b 256 ≡ true) bs (λ b l. lt-ltb b 256 l) h)

pub are_bytes_all : (bs : List ℕ) → ((i : ℕ) → Fits w8 (get_or bs i 0)) → are_bytes bs ≡ true
are_bytes_all bs h = are_bytes_each bs (each_byte bs h)

-- the same, of the elements of a vector
each_item : (bs : List ℕ) → ((i d : ℕ) → i < length bs → get_or bs i d < 256) → Each (λ b. b < 256) bs
each_item [] h = tt
each_item (b ∷ bs) h = (h 0 0 (omega arith), each_item bs (λ i d l. h (suc i) d (omega arith)))

pub are_bytes_items : (bs : List ℕ) → ((i d : ℕ) → i < length bs → get_or bs i d < 256) → are_bytes bs ≡ true
are_bytes_items bs h = are_bytes_each bs (each_item bs h)
