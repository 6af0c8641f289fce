use Rattle.std.proofs.Common.{◌≡◌, ◌-◌, ◌<◌, ◌++◌, ℕ, List, length, get_or, take, drop, flat_map, sym, subst, rules}
use Rattle.zarr_codecs_regions.specs.Pieces.{piece_of}
use Rattle.zarr_codecs_regions.proofs.GatheredStretches.{IsGathered, apart, next_to, piece_more}
use Rattle.zarr_codecs_regions.proofs.variable.gather_pieces.Goals as goal
use Rattle.zarr_codecs_regions.proofs.variable.gather_pieces.Goals.{then-piece-end+in_ok-extend_from_slice, else-piece-end}

pub loop-number-preserved : goal.loop-number-preserved
loop-number-preserved c =
    let bytes : List ℕ = c.args.bytes.now in
    let numbers : List ℕ = c.args.numbers.now in
    let i : ℕ = c.loop-number.number-index in
    let f = piece_of c.args.offsets.now bytes in
    let below : i < length numbers = search rules in
    let more = piece_more f numbers i below in
    let piece : take (c.in-Some.piece.1 - c.in-Some.piece.0) (drop c.in-Some.piece.0 bytes) ≡ f (get_or numbers i 0) = c.in-Some.ensures.piece in
    subst (λ (pieces : List ℕ). IsGathered bytes pieces c.if-piece-end.gathered.items c.if-piece-end.start c.if-piece-end.end) (sym more)
    (elim c.if-piece-end.branch [
      | then-piece-end+in_ok-extend_from_slice w ↦ (
          let new : c.if-piece-end.gathered.items ≡ c.loop-number.gathered.items ++ take (c.loop-number.end - c.loop-number.start) (drop c.loop-number.start bytes) = search rules in
          subst (λ (s : ℕ). IsGathered bytes (flat_map f (take i numbers) ++ f (get_or numbers i 0)) c.if-piece-end.gathered.items s c.if-piece-end.end) (sym w.start-is)
          (subst (λ (e : ℕ). IsGathered bytes (flat_map f (take i numbers) ++ f (get_or numbers i 0)) c.if-piece-end.gathered.items c.in-Some.piece.0 e) (sym w.end-is)
          (apart bytes (flat_map f (take i numbers)) c.loop-number.gathered.items c.if-piece-end.gathered.items (f (get_or numbers i 0)) c.loop-number.start c.loop-number.end c.in-Some.piece.0 c.in-Some.piece.1 c.loop-number.invariant new piece c.in-Some.ensures.order c.in-Some.ensures.within)))
      | else-piece-end w ↦ (
          let same : c.in-Some.piece.0 ≡ c.loop-number.end = search rules in
          let gathered : c.if-piece-end.gathered.items ≡ c.loop-number.gathered.items = search rules in
          subst (λ (g : List ℕ). IsGathered bytes (flat_map f (take i numbers) ++ f (get_or numbers i 0)) g c.if-piece-end.start c.if-piece-end.end) (sym gathered)
          (subst (λ (s : ℕ). IsGathered bytes (flat_map f (take i numbers) ++ f (get_or numbers i 0)) c.loop-number.gathered.items s c.if-piece-end.end) (sym w.start-is)
          (subst (λ (e : ℕ). IsGathered bytes (flat_map f (take i numbers) ++ f (get_or numbers i 0)) c.loop-number.gathered.items c.loop-number.start e) (sym w.end-is)
          (next_to bytes (flat_map f (take i numbers)) c.loop-number.gathered.items (f (get_or numbers i 0)) c.loop-number.start c.loop-number.end c.in-Some.piece.0 c.in-Some.piece.1 c.loop-number.invariant same piece c.in-Some.ensures.order c.in-Some.ensures.within))))
    ])
