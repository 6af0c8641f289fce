use Rattle.std.proofs.Common.{ap, sym, subst, IfOk, IfSome}
use Rattle.serde_json.specs.View.{items_view}
use Rattle.zarr_codecs_meaning.specs.Payloads.{fixed}
use Rattle.zarr_codecs_types.specs.Views.{type_of, components_of}
use Rattle.zarr_codecs_json.specs.Outcomes.{AreInside}
use Rattle.zarr_codecs_json.proofs.reading.fixed_inside.Goals as goal

pub returns-in-Custom-clause-some : goal.returns-in-Custom-clause-some
returns-in-Custom-clause-some c f =
    let is = ap type_of c.in-Custom.is in
    subst (λ type. IfOk c.zeros.result (λ o. IfSome o (λ v. AreInside type c.args.levels (items_view c.args.values.now) (fixed v.items)))) (sym is) (c.zeros.ensures.some (components_of c.in-Custom.field-0.items) is)
