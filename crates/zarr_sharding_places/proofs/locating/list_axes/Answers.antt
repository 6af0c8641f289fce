use Rattle.std.proofs.Common.{◌≡◌, ◌∙◌, length, drop, get_or, reverse, sym, ap, arith}
use Rattle.std.proofs.Math.Seq.{drop-length}
use Rattle.std.proofs.lemmas.Grind.{common_steps}
use Rattle.std.proofs.lemmas.List.{take_rest}
use Rattle.zarr_grids_boxes.specs.Boxes.{product}
use Rattle.zarr_sharding_places.specs.declared.locating.Axis.{Axis}
use Rattle.zarr_sharding_places.proofs.ListedAxes.{axes_none, axes_whole}
use Rattle.zarr_sharding_places.proofs.locating.list_axes.Goals as goal

pub returns-then-dimensions-eq0 : goal.returns-then-dimensions-eq0
returns-then-dimensions-eq0 c = c.in_ok-axes.ensures.items ∙ sym (axes_none c.args.shape.now c.args.edges.now c.args.grid.now c.if-dimensions-eq0.true)

pub loop-k-init : goal.loop-k-init
loop-k-init c =
    let grid = c.args.grid.now in
    let none = drop-length grid in
    record {
      some = omega arith;
      listed = c.in_ok-axes.ensures.items ∙ sym (ap reverse (axes_none (drop (length grid) c.args.shape.now) (drop (length grid) c.args.edges.now) (drop (length grid) grid) (ap length none)));
      places = c.in_ok-places.ensures ∙ ap product (take_rest c.args.shape.now (length grid));
      subchunks = sym (ap product none);
    }

pub loop-k-preserved : goal.loop-k-preserved
loop-k-preserved c = grind (arith, common_steps)

pub returns : goal.returns
returns c =
    let shape = c.args.shape.now in
    let edges = c.args.edges.now in
    let grid = c.args.grid.now in
    let one : c.loop-k.k ≡ 1 = omega arith in
    let listed = rw one at c.loop-k.invariant.listed in
    let places = rw one at c.loop-k.invariant.places in
    let subchunks = rw one at c.loop-k.invariant.subchunks in
    let first : Axis = record { size = get_or shape 0 0; edge = get_or edges 0 0; places = c.loop-k.places; subchunks = c.loop-k.subchunks } in
    axes_whole shape edges grid c.loop-k.axes.items c.push-2.new.self.items c.reverse.new.self.items first (omega arith) c.requires.sizes c.requires.edges listed (cc) c.in_ok-push-2.ensures.items c.reverse.ensures.items
