use Rattle.std.proofs.Common.{◌≡◌, take, map}
use Rattle.serde_json.specs.Data.{unsigned, number}
use Rattle.serde_json.specs.View.{view}
use Rattle.zarr_codecs_types.proofs.fill_writing.byte_items.Given as goal

-- the items so far are the bytes so far
abbrev pub invariant-loop-byte : goal.invariant-loop-byte
invariant-loop-byte l = map view l.items.items ≡ map (λ b. number (unsigned b)) (take l.byte-index l.bytes)
