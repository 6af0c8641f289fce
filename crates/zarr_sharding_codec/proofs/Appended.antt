-- What an attempt to append a part to its shard did.
use Rattle.std.proofs.Common.{◌≡◌, ℕ, List, Bool, true, false, Option, Ok, refl, subst}
use Rattle.std.specs.Prelude.{MatchBool}
use Rattle.zarr_codecs_traits.specs.Arrays.{Coded, Update}
use Rattle.zarr_codecs_traits.specs.PartWriting.{EncodesInto, IsPlaced, LacksRoom}
use Rattle.zarr_codecs_traits.specs.ShardWrites.{LeavesParts}
use Rattle.zarr_codecs_traits.specs.Writes.{most_to_patch}
use Rattle.zarr_sharding_codec.specs.Appending.{AppendsPart, most_tried}

-- the part was appended
pub was_appended : (array : Coded) (exact : Bool) (update : Update) (new : Option (List ℕ)) (written : Bool) → written ≡ true → AppendsPart array exact update new written → EncodesInto array exact update new × LeavesParts array update new
was_appended array exact update new written is h =
    subst (λ (b : Bool). MatchBool b (EncodesInto array exact update new × LeavesParts array update new) ((new ≡ update.stored) × IsPlaced array.chain array.shape update.stored × LacksRoom array update)) is h

-- there was no room for it
pub was_full : (array : Coded) (exact : Bool) (update : Update) (new : Option (List ℕ)) (written : Bool) → written ≡ false → AppendsPart array exact update new written → (new ≡ update.stored) × IsPlaced array.chain array.shape update.stored × LacksRoom array update
was_full array exact update new written is h =
    subst (λ (b : Bool). MatchBool b (EncodesInto array exact update new × LeavesParts array update new) ((new ≡ update.stored) × IsPlaced array.chain array.shape update.stored × LacksRoom array update)) is h

-- ---- what was given to write ranges

pub tried_true : (ranges : Bool) (stored : Option (List ℕ)) (written : Bool) → written ≡ true → most_tried ranges stored (Ok written) ≡ most_to_patch ranges stored
tried_true ranges stored true is = refl
tried_true ranges stored false is = cc

pub tried_false : (ranges : Bool) (stored : Option (List ℕ)) (written : Bool) → written ≡ false → most_tried ranges stored (Ok written) ≡ 0
tried_false ranges stored true is = cc
tried_false ranges stored false is = refl
