use Rattle.std.proofs.Common.{◌≡◌, ◌∙◌, ◌+◌, ◌-◌, ◌<◌, ℕ, List, length, get_or, sym, ap, arith, rules}
use Rattle.std.specs.List.{flat_map, range_with_len}
use Rattle.std.proofs.lemmas.Result.{IfOk-weaker}
use Rattle.zarr_grids_boxes.specs.Boxes.{Region}
use Rattle.zarr_grids_boxes.specs.Subsets.{region_of}
use Rattle.zarr_codecs_traits.specs.Indexers.{numbers_of}
use Rattle.zarr_codecs_regions.specs.BoxLines.{first_places, line_length}
use Rattle.zarr_codecs_regions.proofs.BoxLines.{length_of_lines, no_numbers, numbers_by_lines}
use Rattle.zarr_codecs_regions.proofs.InsideArray.{inside_rank}
use Rattle.zarr_codecs_regions.proofs.asked.box_numbers.Goals as goal

pub returns-then-is_empty : goal.returns-then-is_empty
returns-then-is_empty c = c.new.ensures.items ∙ no_numbers c.args.shape.now (region_of c.args.region.now) c.args.region.now.same (c.is_empty.ensures.0 c.if-is_empty.true)

pub returns-in-Some : goal.returns-in-Some
returns-in-Some c =
    let shape = c.args.shape.now in
    let region : Region = region_of c.args.region.now in
    let l : length region.shape ≡ length region.start = c.args.region.now.same in
    let m : length shape ≡ length region.start = sym (inside_rank shape region c.requires.inside) in
    let listed : c.shape.result.now ≡ region.shape = c.shape.ensures in
    let n = length region.shape - 1 in
    let some : 0 < length c.shape.result.now = search rules in
    let many : length region.shape ≡ n + 1 = let same = ap length listed in omega (arith, some, same) in
    let last : c.in-Some.length.now ≡ get_or c.shape.result.now (length c.shape.result.now - 1) 0 = search rules in
    let long : c.in-Some.length.now ≡ line_length region.shape = last ∙ (ap (λ (es : List ℕ). get_or es (length es - 1) 0) listed ∙ sym (length_of_lines region.shape n many)) in
    let firsts : c.as_slice.result.now ≡ numbers_of shape (first_places region) = c.as_slice.ensures.value ∙ c.in_ok-firsts.ensures in
    IfOk-weaker c.numbers_of_lines.result (λ numbers. numbers.items ≡ flat_map (λ n. range_with_len n c.in-Some.length.now) c.as_slice.result.now) (λ numbers. numbers.items ≡ numbers_of shape region)
    (λ numbers e. e ∙ (ap (λ (k : ℕ). flat_map (λ n. range_with_len n k) c.as_slice.result.now) long ∙ (ap (flat_map (λ n. range_with_len n (line_length region.shape))) firsts ∙ sym (numbers_by_lines shape region l m)))) c.numbers_of_lines.ensures
