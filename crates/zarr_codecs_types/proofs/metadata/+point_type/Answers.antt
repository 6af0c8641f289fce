use Rattle.std.proofs.Common.{◌≡◌, ◌≢◌, ap, sym, ◌∙◌, None, rules, arith}
use Rattle.std.specs.Option.{option_map}
use Rattle.zarr_grids_metadata.specs.Views.{point_view}
use Rattle.zarr_codecs_types.specs.Views.{type_of}
use Rattle.zarr_codecs_types.specs.Metadata.{point_type}
use Rattle.zarr_codecs_types.specs.declared.error.DataTypeError.TheVariants.{Memory}
use Rattle.zarr_codecs_types.proofs.Levels.{inner_less, optional_read, optional_refused}
use Rattle.zarr_codecs_types.proofs.metadata.+point_type.Goals as goal

pub point_type-requires : goal.point_type-requires
point_type-requires t c =
    let there = sym (ap (option_map point_view) c.in-Some.is) ∙ c.inner_point.ensures in
    let less = inner_less (point_view c.args.point).configuration (point_view c.in-Some.inner) (sym there) in
    (omega arith, tt)

pub returns-in_err-inner-clause-err : goal.returns-in_err-inner-clause-err
returns-in_err-inner-clause-err t c =
    let there = sym (ap (option_map point_view) c.in-Some.is) ∙ c.inner_point.ensures in
    let refused : c.in_err-inner.field-0.0 ≢ Memory → point_type (point_view c.args.point) ≡ None = λ h.
    optional_refused (point_view c.args.point) (point_view c.in-Some.inner) (sym c.is_optional_name.ensures ∙ c.if-not-is_optional_name.false) (sym there) (c.in_err-inner.ensures.err h) in
    search (rules, refused)

pub returns-clause-ok : goal.returns-clause-ok
returns-clause-ok t c =
    let there = sym (ap (option_map point_view) c.in-Some.is) ∙ c.inner_point.ensures in
    optional_read (point_view c.args.point) (point_view c.in-Some.inner) (type_of c.in_ok-inner.inner) (type_of c.in_ok-optional.field-0) (sym c.is_optional_name.ensures ∙ c.if-not-is_optional_name.false) (sym there) (c.in_ok-inner.ensures.ok) (c.in_ok-optional.ensures)
