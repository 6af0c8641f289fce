-- Codecs of a list of filters, and a codec by its members.
use Rattle.std.proofs.Common.{◌≡◌, ◌≢◌, ℕ, List, [], ◌∷◌, length, map, refl, ap, arith}
use Rattle.serde_json.specs.Data.{string}
use Rattle.serde_json.specs.View.{view, items_view, members_view}
use Rattle.serde_json.specs.declared.value.Value.{Value}
use Rattle.serde_json.proofs.Views.{Entry}
use Rattle.zarr_grids_metadata.specs.ExtensionPoints.{configured, written_point}
use Rattle.zarr_array_v2.specs.Codecs.{codec_in, codecs_in, codec_named}

pub codecs_listed : (values : List Value) → codecs_in (items_view values) ≡ map (λ v. codec_in (view v)) values
codecs_listed [] = refl
codecs_listed (v ∷ values) = ap (λ ds. codec_in (view v) ∷ ds) (codecs_listed values)

-- a codec whose configuration has members
pub named_with : (id : List ℕ) (es : List Entry) → length es ≢ 0 → codec_named id (members_view es) ≡ configured id (members_view es)
named_with id [] h = absurd (h refl)
named_with id (e ∷ es) h = refl

-- a codec without a configuration
pub named_without : (id : List ℕ) (es : List Entry) → length es ≡ 0 → written_point (codec_named id (members_view es)) ≡ string id
named_without id [] h = refl
named_without id (e ∷ es) h = absurd (omega arith)
