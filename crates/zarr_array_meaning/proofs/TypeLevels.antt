-- How deep the cells of a data type nest, by how deep its metadata does.
use Rattle.std.proofs.Common.{◌≡◌, ℕ, zero, suc, ◌≤◌, max, List, [], ◌∷◌, codes, Bool, true, false, if◌then◌else◌, Option, Some, None, option_map, option_and_then, refl, sym, ap, ◌∙◌, arith}
use Rattle.std.specs.List.{list_all}
use Rattle.std.specs.Prelude.{nat_le}
use Rattle.std.proofs.lemmas.Bool.{and_parts, leb-true}
use Rattle.serde_json.specs.Data.{Data, null, boolean, number, string, array, object, Members, depth, members_depth}
use Rattle.serde_json.specs.Find.{get_member}
use Rattle.zarr_grids_metadata.specs.ExtensionPoints.{ExtensionPoint, extension_point, configuration_in, configuration_members}
use Rattle.zarr_grids_metadata.specs.Members.{has_only}
use Rattle.zarr_grids_metadata.proofs.PointLemmas.{read_configuration}
use Rattle.zarr_grids_metadata.proofs.PutLemmas.{depth_got}
use Rattle.zarr_codecs_meaning.specs.Types.{DataType, optional_of}
use Rattle.zarr_codecs_meaning.proofs.Lists.{bind_some}
use Rattle.zarr_codecs_types.specs.Metadata.{Row, rows, type_named, is_optional_name, inner_point, plain_type, type_within, configuration_depth, point_type, data_type_in}
use Rattle.zarr_codecs_types.proofs.Levels.{inner_less}
use Rattle.zarr_array_meaning.specs.Written.{type_given}
use Rattle.zarr_array_meaning.proofs.WrittenFills.{levels_of, levels_given}

abbrev is_flat : DataType → Bool
is_flat type = nat_le (levels_of type) 1

row_flat : (found : Bool) (row type : DataType) (rest : Option DataType) → is_flat row ≡ true → ((t : DataType) → rest ≡ Some t → is_flat t ≡ true) → (if found then Some row else rest) ≡ Some type → is_flat type ≡ true
row_flat true row type rest h g is = let e : row ≡ type = cc in ap is_flat (sym e) ∙ h
row_flat false row type rest h g is = g type is

rows_flat : (name : List ℕ) (rs : List Row) (type : DataType) → list_all (λ (row : Row). is_flat row.1) rs ≡ true → type_named name rs ≡ Some type → is_flat type ≡ true
rows_flat name [] type h is = absurd (cc)
rows_flat name (row ∷ rs) type h is =
    let both = and_parts (is_flat row.1) (list_all (λ (row : Row). is_flat row.1) rs) h in
    row_flat _ row.1 type (type_named name rs) both.0 (λ t e. rows_flat name rs t both.1 e) is

plain_flat : (plain : Bool) (name : List ℕ) (type : DataType) → (if plain then type_named name rows else None) ≡ Some type → levels_of type ≤ 1
plain_flat true name type is = leb-true (levels_of type) 1 (rows_flat name rows type refl is)
plain_flat false name type is = absurd (cc)

optional_levels : (inner : Option DataType) (type : DataType) (n : ℕ) → ((t : DataType) → inner ≡ Some t → levels_of t ≤ n) → option_map optional_of inner ≡ Some type → levels_of type ≤ suc n
optional_levels None type n h is = absurd (cc)
optional_levels (Some inner) type n h is =
    let e : optional_of inner ≡ type = cc in
    let g = ap levels_of e in
    let k = h inner refl in
    omega arith

within_levels : (levels : ℕ) (point : ExtensionPoint) (type : DataType) → type_within levels point ≡ Some type → levels_of type ≤ suc (configuration_depth point.configuration)
within_levels zero point type is = absurd (cc)
within_levels (suc levels) point type is = elim (is_optional_name point.name)
    as (λ b. (if b then option_map optional_of (option_and_then (type_within levels) (inner_point (configuration_members point.configuration))) else plain_type point) ≡ Some type → levels_of type ≤ suc (configuration_depth point.configuration)) [
      | true ↦ λ h. optional_levels _ type (configuration_depth point.configuration)
          (λ t e.
          let found = bind_some (type_within levels) (inner_point (configuration_members point.configuration)) t e in
          let less = inner_less point.configuration found.0 found.1 in
          let g = within_levels levels found.0 t found.2 in
          omega arith) h
      | false ↦ λ h. let g = plain_flat (has_only [] (configuration_members point.configuration)) point.name type h in omega arith
    ] is

configuration_within : (o : Option Data) (c : Option Members) (limit : ℕ) → configuration_in o ≡ Some c → ((d : Data) → o ≡ Some d → depth d ≤ limit) → configuration_depth c ≤ limit
configuration_within None c limit is h = let e : c ≡ None = cc in let g = ap configuration_depth e in omega arith
configuration_within (Some null) c limit is h = absurd (cc)
configuration_within (Some (boolean b)) c limit is h = absurd (cc)
configuration_within (Some (number x)) c limit is h = absurd (cc)
configuration_within (Some (string s)) c limit is h = absurd (cc)
configuration_within (Some (array ds)) c limit is h = absurd (cc)
configuration_within (Some (object ms)) c limit is h = let e : c ≡ Some ms = cc in let g = ap configuration_depth e in let k = h (object ms) refl in omega arith

point_within : (d : Data) (point : ExtensionPoint) → extension_point d ≡ Some point → suc (configuration_depth point.configuration) ≤ max (depth d) 1
point_within null point is = absurd (cc)
point_within (boolean b) point is = absurd (cc)
point_within (number x) point is = absurd (cc)
point_within (string s) point is =
    let e : None ≡ point.configuration = ap (λ (o : Option ExtensionPoint). option_and_then (λ (p : ExtensionPoint). p.configuration) o) is in
    let g = ap configuration_depth e in
    omega arith
point_within (array ds) point is = absurd (cc)
point_within (object ms) point is =
    let o = get_member (codes "configuration") ms in
    let h = configuration_within o point.configuration (members_depth ms) (read_configuration ms point is) (λ d e. depth_got (codes "configuration") d ms e) in
    omega arith

-- the cells of a data type nest no deeper than its metadata, or than a list of bytes does
levels_within : (d : Data) (type : DataType) → data_type_in d ≡ Some type → levels_of type ≤ max (depth d) 1
levels_within d type is =
    let found = bind_some point_type (extension_point d) type is in
    let h = within_levels (suc (configuration_depth found.0.configuration)) found.0 type found.2 in
    let g = point_within d found.0 found.1 in
    omega arith

given_within : (o : Option DataType) (d : Data) → data_type_in d ≡ o → levels_given o ≤ max (depth d) 1
given_within None d is = omega arith
given_within (Some type) d is = levels_within d type is

member_within : (o : Option Data) (n : ℕ) → 1 ≤ n → ((d : Data) → o ≡ Some d → depth d ≤ n) → levels_given (option_and_then data_type_in o) ≤ n
member_within None n low h = omega arith
member_within (Some d) n low h = let g = given_within (data_type_in d) d refl in let k = h d refl in omega arith

-- the cells of the data type that a document's fields give nest no deeper than the fields, or than a list of bytes does
pub levels-type_given : (ms : Members) → levels_given (type_given ms) ≤ max (members_depth ms) 1
levels-type_given ms = member_within (get_member (codes "data_type") ms) (max (members_depth ms) 1) (omega arith) (λ d e. let h = depth_got (codes "data_type") d ms e in omega arith)
