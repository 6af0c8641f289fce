-- What a write of chunks says, where the values that it leaves are told of in fewer cases.
use Rattle.std.proofs.Common.{ℕ, Bool, List, Option}
use Rattle.std.specs.Prelude.{IsTrue}
use Rattle.zarr_grids_boxes.specs.Boxes.{Region}
use Rattle.zarr_codecs_meaning.specs.Types.{Cell}
use Rattle.zarr_array_meaning.specs.Arrays.{value_at}
use Rattle.zarr_array_meaning.specs.StoreMaps.{StoreMap}
use Rattle.zarr_array_meaning.specs.Writes.{Write}
use Rattle.zarr_array_meaning.specs.Writing.{ChunkBecomes, IsPartDamaged, LacksRoom, IsCodecRefused, IsOversized, IsKeyed, WroteChunks}

-- the same write, of an array of which it is said anew whether its values depend on cells alone
abbrev pub with_exact : Write → Bool → Write
with_exact write exact = record write { array = record write.array { exact = exact } }

-- neither what the cells of a chunk become nor why it is not written rests on that
module _ (write : Write) (exact : Bool) (box : Region) (stored : Option (List ℕ)) where
  pub becomes_with : (cells : List Cell) → ChunkBecomes write box stored cells → ChunkBecomes (with_exact write exact) box stored cells
  becomes_with cells b = record {
    many = b.many;
    written = b.written;
    takes = b.takes;
    kept = b.kept;
  }

  pub damaged_with : IsPartDamaged write box stored → IsPartDamaged (with_exact write exact) box stored
  damaged_with d = record {
    fit = d.fit;
    part = d.part;
    lost = d.lost;
  }

  pub room_with : LacksRoom write box stored → LacksRoom (with_exact write exact) box stored
  room_with r = record {
    fit = r.fit;
    into = r.into;
    undecoded = r.undecoded;
    passes = (r.passes.0, becomes_with r.passes.0 r.passes.1, r.passes.2);
  }

  pub refused_with : IsCodecRefused write box stored → IsCodecRefused (with_exact write exact) box stored
  refused_with r = record {
    fit = r.fit;
    cells = r.cells;
    becomes = becomes_with r.cells r.becomes;
    called = r.called;
    refuses = r.refuses;
  }

  pub oversized_with : IsOversized write box stored → IsOversized (with_exact write exact) box stored
  oversized_with o = record {
    fit = o.fit;
    cells = o.cells;
    becomes = becomes_with o.cells o.becomes;
    called = o.called;
    passes = o.passes;
  }

module _ (write : Write) (weak : Bool) (less : IsTrue weak → IsTrue write.array.exact) where
  keyed_weaker : (box : Region) (old new : Option (List ℕ)) → IsKeyed write box old new → IsKeyed (with_exact write weak) box old new
  keyed_weaker box old new k = record {
    cells = k.cells;
    becomes = becomes_with write weak box old k.cells k.becomes;
    key = k.key;
    taken = k.taken;
    encodes = λ is. k.encodes (less is);
    bytes = k.bytes;
  }

-- what a write says holds as well where each value is told of in fewer cases
pub wrote_weaker : (write : Write) (weak : Bool) (chunks : List (List ℕ)) (old new : StoreMap)
    → WroteChunks write chunks old new → (IsTrue weak → IsTrue write.array.exact) → WroteChunks (with_exact write weak) chunks old new
wrote_weaker write weak chunks old new w less = record {
  fit = w.fit;
  undamaged = w.undamaged;
  shows = w.shows;
  keeps = w.keeps;
  tight = λ is. w.tight (less is);
  makes = w.makes;
  others = w.others;
  keys = record {
    stored = w.keys.stored;
    erased = w.keys.erased;
  };
  keyed = λ chunk box below listed. keyed_weaker write weak less box (value_at write.array old chunk) (value_at write.array new chunk) (w.keyed chunk box below listed);
}
