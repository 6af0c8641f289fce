-- Equality of lists of components.
use Rattle.std.proofs.Common.{◌≡◌, List, [], ◌∷◌, Bool, ◌&&◌, ap, ◌∙◌, refl}
use denote.Enum.Bare.{sameb}
use lib.Pointwise.{pointwise}
use Rattle.zarr_codecs_types.specs.declared.data_type.Component.{Component}
use Rattle.zarr_codecs_types.specs.declared.data_type.Sign.{Sign}
use Rattle.zarr_codecs_types.specs.declared.data_type.Sign.TheVariants.{Unsigned, Signed}
use Rattle.zarr_codecs_types.specs.contracts.data_type.Sign.{the_type}
use Rattle.zarr_codecs_types.specs.Views.{sign_of, component_of, components_of}
use Rattle.zarr_codecs_types.specs.Same.{same_sign, same_component, same_components}

pub pointwise_same : (test : Component → Component → Bool) → ((a b : Component) → test a b ≡ same_component (component_of a) (component_of b)) → (xs ys : List Component) → pointwise test xs ys ≡ same_components (components_of xs) (components_of ys)
pointwise_same test law [] [] = refl
pointwise_same test law [] (y ∷ ys) = refl
pointwise_same test law (x ∷ xs) [] = refl
pointwise_same test law (x ∷ xs) (y ∷ ys) = ap (λ (b : Bool). b && pointwise test xs ys) (law x y) ∙ ap (λ (b : Bool). same_component (component_of x) (component_of y) && b) (pointwise_same test law xs ys)

pub signs_same : (a b : Sign) → sameb the_type a b ≡ same_sign (sign_of a) (sign_of b)
signs_same Unsigned Unsigned = refl
signs_same Unsigned Signed = refl
signs_same Signed Unsigned = refl
signs_same Signed Signed = refl
