use Rattle.std.proofs.Common.{◌∙◌, refl, get_or, sym, subst}
use Rattle.zarr_sharding_places.proofs.ListedAxes.{IsShort, grid_short}
use Rattle.zarr_sharding_places.proofs.LocatedPlaces.{places_more}
use Rattle.zarr_sharding_places.proofs.locating.locate_all.Goals as goal

pub list_axes-requires : goal.list_axes-requires
list_axes-requires c =
    let short = subst (IsShort c.args.shape.now c.args.edges.now) (sym c.requires) (grid_short c.args.shape.now c.args.edges.now) in
    record { sizes = short.in_shape; edges = short.in_edges }

pub loop-position-preserved : goal.loop-position-preserved
loop-position-preserved c =
    let shape = c.args.shape.now in
    let edges = c.args.edges.now in
    let grid = c.args.grid.now in
    let numbers = c.args.numbers.now in
    let t = c.loop-position.position in
    let axes = c.as_slice.ensures.value ∙ c.in_ok-axes.ensures in
    places_more shape edges grid numbers c.as_slice.result.now c.loop-position.places.items c.push.new.self.items t (get_or numbers t 0) c.in-Some.found c.requires axes refl c.in-Some.ensures c.loop-position.invariant c.in_ok-push.ensures.items
