use Rattle.std.proofs.Common.{◌≡◌, ◌∙◌, ap, rules}
use Rattle.std.proofs.lemmas.Fn.{always_returns_same}
use Rattle.std.proofs.lemmas.List.Sorted.{IsNonDecreasingBy-from_sort_by_key}
use Rattle.zarr_sharding_places.specs.Groups.{places_in}
use Rattle.zarr_sharding_places.specs.declared.locating.AskedPlace.{AskedPlace}
use Rattle.zarr_sharding_places.proofs.Stable.{stable_filter}
use Rattle.zarr_sharding_places.proofs.locating.places_by_subchunk.Goals as goal

pub returns-clause-sorted : goal.returns-clause-sorted
returns-clause-sorted c = IsNonDecreasingBy-from_sort_by_key (λ (place : AskedPlace). place.subchunk) _ c.in_ok-sort_by_key.ensures.sorted (λ a r q k. search rules)

pub returns-clause-stable : goal.returns-clause-stable
returns-clause-stable c = λ k.
    let n = λ (place : AskedPlace). place.subchunk in
    let x : AskedPlace = record { subchunk = k; inside = 0; position = 0 } in
    stable_filter n c.in_ok-places.places.items c.sort_by_key.new.self.items x (c.in_ok-sort_by_key.ensures.stable n (always_returns_same _ (λ a r. r ≡ n a.0.now) _ (λ a r q j. search rules)))
    ∙ ap (places_in k) c.in_ok-places.ensures
