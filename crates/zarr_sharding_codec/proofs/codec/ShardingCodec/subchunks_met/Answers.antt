use Rattle.std.proofs.Common.{◌∙◌, ◌++◌, ◌-◌, ap, sym, subst, length, List, ℕ, Vec}
use Rattle.std.specs.declared.alloc.Global.{Global}
use Rattle.zarr_grids_boxes.specs.Boxes.{Region, each2}
use Rattle.zarr_grids_boxes.specs.Subsets.{region_of}
use Rattle.zarr_codecs_meaning.specs.Places.{grid_of}
use Rattle.zarr_codecs_meaning.proofs.Parts.{block}
use Rattle.zarr_codecs_regions.proofs.InsideArray.{inside_rank}
use Rattle.zarr_codecs_traits.specs.Indexers.{shape_has, numbers_of}
use Rattle.zarr_sharding_codec.specs.BoxReading.{AreMet}
use Rattle.zarr_sharding_codec.proofs.BoxCuts.{IsMetBox, box_met, none_met}
use Rattle.zarr_sharding_codec.proofs.BoxInSubchunk.{numbers_many}
use Rattle.zarr_sharding_codec.proofs.codec.ShardingCodec.subchunks_met.Goals as goal

pub grid_of-requires-2 : goal.grid_of-requires-2
grid_of-requires-2 g c = ap length (c.as_slice-ends.ensures.value) ∙ (c.in_ok-end.ensures.dimensionality ∙ (inside_rank c.args.shape.now (region_of c.args.region.now) c.requires.inside ∙ c.requires.rank))

pub returns-then-is_empty : goal.returns-then-is_empty
returns-then-is_empty g c =
    let shape = c.args.shape.now in
    let numbers = numbers_of shape (region_of c.args.region.now) in
    none_met shape c.args.self.now.subchunk_shape numbers _ c.new.ensures.items (numbers_many shape (region_of c.args.region.now) c.args.region.now.same ∙ c.is_empty.ensures.0 c.if-is_empty.true)

pub returns : goal.returns
returns g c =
    let shape = c.args.shape.now in
    let subchunk = c.args.self.now.subchunk_shape in
    let region = region_of c.args.region.now in
    let met = region_of c.in-Ok.met in
    let counts = c.as_slice-counts.ensures.value ∙ c.in_ok-grid.ensures in
    let edges = c.as_slice-edges.result.now in
    let first = c.in_ok-push_quotients.ensures
    ∙ (ap (λ (xs : List ℕ). xs ++ block c.start.result.now edges) c.in_ok-first.ensures.items
    ∙ (ap (λ (s : List ℕ). block s edges) c.start.ensures ∙ ap (block region.start) c.as_slice-edges.ensures.edges)) in
    let past = c.in_ok-past.ensures ∙ ap (λ (e : List ℕ). grid_of e subchunk) (c.as_slice-ends.ensures.value ∙ c.in_ok-end.ensures.end) in
    let is : IsMetBox shape subchunk region met = record {
      cuts = c.requires.cuts;
      inside = c.requires.inside;
      same = c.args.region.now.same;
      start = ap (λ (v : Vec ℕ Global). v.items) c.in-Ok.ensures.start ∙ first;
      shape_is = ap (λ (r : Region). r.shape) c.in-Ok.ensures.made
          ∙ (ap (λ (s : List ℕ). each2 (λ s e. e - s) s c.in_ok-past.past.items) first ∙ ap (each2 (λ s e. e - s) (block region.start subchunk)) past);
      long = c.in-Ok.met.same;
      within = ap (λ (g : List ℕ). shape_has g met) (sym counts) ∙ (sym c.is_inside.ensures ∙ c.if-not-is_inside.false);
    } in
    subst (λ (ns : List ℕ). AreMet shape subchunk (numbers_of shape region) ns) (sym (c.in_ok-numbers_asked.ensures.numbers ∙ ap (λ (g : List ℕ). numbers_of g met) counts)) (box_met shape subchunk region met is)
