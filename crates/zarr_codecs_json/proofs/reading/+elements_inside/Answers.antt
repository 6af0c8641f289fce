use Rattle.std.proofs.Common.{sym, refl, subst}
use Rattle.serde_json.specs.View.{items_view}
use Rattle.zarr_codecs_meaning.specs.Payloads.{optional}
use Rattle.zarr_codecs_types.specs.Views.{type_of}
use Rattle.zarr_codecs_arrays.specs.Views.{payload_of}
use Rattle.zarr_codecs_json.specs.Outcomes.{AreInside}
use Rattle.zarr_codecs_json.proofs.ReadLists.{not_marked, none_inside, optional_read}
use Rattle.zarr_codecs_json.proofs.reading.+elements_inside.Goals as goal

pub optional_inside-returns-in_default-2-clause-none : goal.optional_inside-returns-in_default-2-clause-none
optional_inside-returns-in_default-2-clause-none t c =
    not_marked (type_of c.args.of_type.now) c.args.levels c.in-Some.deeper (items_view c.args.values.now) c.in-Some.ensures.1 (rw c.in_default-2.is at c.in_ok-mask.ensures)

pub optional_inside-returns-in_ok-new-in-Some-3-clause-some :
    goal.optional_inside-returns-in_ok-new-in-Some-3-clause-some
optional_inside-returns-in_ok-new-in-Some-3-clause-some t c =
    let type = type_of c.args.of_type.now in
    let values = items_view c.args.values.now in
    let below = payload_of c.in_ok-new-in-Some-3.field-0.value in
    let mask = c.in-Some-2.mask.items in
    let inside : AreInside type c.in-Some.deeper values (payload_of c.in-Some-3.inner) = rw c.in-Some-3.is at c.in_ok-inner.ensures.some in
    optional_read type c.args.levels c.in-Some.deeper values below (optional below mask) mask c.in-Some.ensures.1 refl (rw c.in-Some-2.is at c.in_ok-mask.ensures) (subst (λ a. AreInside type c.in-Some.deeper values (payload_of a)) (sym c.in_ok-new-in-Some-3.ensures.ok) inside)

pub optional_inside-returns-in-None-clause-none : goal.optional_inside-returns-in-None-clause-none
optional_inside-returns-in-None-clause-none t c =
    none_inside (type_of c.args.of_type.now) c.args.levels c.in-Some.deeper (items_view c.args.values.now) c.in-Some.ensures.1 (rw c.in-None.is at c.in_ok-inner.ensures.none)
