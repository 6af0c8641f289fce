use Rattle.std.proofs.Common.{◌≡◌, ◌+◌, ◌-◌, IsTrue}
use Rattle.zarr_grids_boxes.specs.Boxes.{product, ravel, each2}
use Rattle.zarr_grids_boxes.proofs.Walking.{walk_on}
use Rattle.zarr_grids_chunk_grids.proofs.walks.ChunkIndices.go_on.Goals as goal

pub returns : goal.returns
returns c =
    let w = c.args.self.now in
    let ss = w.chunks.start.items in
    let es = w.chunks.shape.items in
    let a : IsTrue c.step-self.result → ravel (each2 (λ p s. p - s) c.step-self.new.place.items ss) es ≡ ravel (each2 (λ p s. p - s) w.next.items ss) es + 1 = λ t. let q = c.step-self.ensures.next t in cc in
    let b : (¬ IsTrue c.step-self.result) → ravel (each2 (λ p s. p - s) w.next.items ss) es + 1 ≡ product es = λ t. let q = c.step-self.ensures.last t in cc in
    rw c.requires (walk_on ss es w.next.items c.step-self.new.place.items c.step-self.result (w.within c.requires) a b)
