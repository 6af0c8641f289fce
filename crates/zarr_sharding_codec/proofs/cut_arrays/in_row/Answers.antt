use Rattle.std.proofs.Common.{◌∙◌, ◌∷◌, [], List, Option, Vec, Global, ℕ, map, map-id, ap, sym, rules}
use Rattle.std.proofs.lemmas.Iterator.Adapters.{YieldsList-from_vec}
use Rattle.std.proofs.lemmas.Iterator.Consumers.{YieldsList-end}
use Rattle.std.proofs.lemmas.List.{map-append}
use Rattle.zarr_codecs_meaning.specs.Encoding.{joined_slices, pairs_from}
use Rattle.zarr_sharding_index.specs.Views.{pairs_of}
use Rattle.zarr_sharding_codec.specs.Slices.{slice_of}
use Rattle.zarr_sharding_codec.proofs.StoredParts.{slice_pushed}
use Rattle.zarr_sharding_codec.proofs.cut_arrays.in_row.Goals as goal

pub loop-slice-preserved : goal.loop-slice-preserved
loop-slice-preserved c =
    let so_far = map slice_of c.loop-slice.yielded in
    let now = slice_pushed c.args.base so_far (slice_of c.in-Some.slice) c.loop-slice.data.items _ (pairs_of c.loop-slice.index) _ c.loop-slice.invariant.in_row c.loop-slice.invariant.indexed c.in_ok-push_slice.ensures.slice c.in_ok-push_slice.ensures.pair in
    let more = map-append slice_of c.loop-slice.yielded (c.in-Some.slice ∷ []) in
    record { in_row = now.0 ∙ ap joined_slices (sym more); indexed = now.1 ∙ ap (pairs_from c.args.base) (sym more) }

pub returns-clause-data : goal.returns-clause-data
returns-clause-data c =
    let end = YieldsList-end (YieldsList-from_vec {s = c.into_iter-slice-iterator.result} c.args.stored.items (search rules) (search rules))
    c.loop-slice.yielded c.loop-slice.slice-iterator c.loop-slice.yielded_by c.next.result c.next.new.self c.in-None.is c.next.ensures.steps in
    c.loop-slice.invariant.in_row ∙ ap (λ (ss : List (Option (Vec ℕ Global))). joined_slices (map slice_of ss)) (sym (map-id c.loop-slice.yielded) ∙ end.0)

pub returns-clause-index : goal.returns-clause-index
returns-clause-index c =
    let end = YieldsList-end (YieldsList-from_vec {s = c.into_iter-slice-iterator.result} c.args.stored.items (search rules) (search rules))
    c.loop-slice.yielded c.loop-slice.slice-iterator c.loop-slice.yielded_by c.next.result c.next.new.self c.in-None.is c.next.ensures.steps in
    c.loop-slice.invariant.indexed ∙ ap (λ (ss : List (Option (Vec ℕ Global))). pairs_from c.args.base (map slice_of ss)) (sym (map-id c.loop-slice.yielded) ∙ end.0)
