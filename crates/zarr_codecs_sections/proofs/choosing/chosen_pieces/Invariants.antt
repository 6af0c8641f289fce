use Rattle.std.proofs.Common.{◌≡◌, ◌∷◌, ◌++◌, drop, length, flat_map}
use Rattle.zarr_codecs_sections.specs.Marks.{chosen_pieces, ends_from, pieces_at}
use Rattle.zarr_codecs_sections.proofs.choosing.chosen_pieces.Given as goal

-- the bytes and the ends so far, and those of what is left, are all
abbrev pub invariant-loop-mark : goal.invariant-loop-mark
invariant-loop-mark l = record {
  bytes : l.found.items ++ flat_map (λ piece. piece) (chosen_pieces (drop l.mark-index l.marks) l.start l.rest l.bytes) ≡ flat_map (λ piece. piece) (pieces_at l.marks l.offsets l.bytes);
  ends : l.ends.items ++ ends_from (length l.found.items) (chosen_pieces (drop l.mark-index l.marks) l.start l.rest l.bytes) ≡ 0 ∷ ends_from 0 (pieces_at l.marks l.offsets l.bytes);
}
