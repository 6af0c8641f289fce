-- What is written for a data type reads as that type.
use Rattle.std.proofs.Common.{◌≡◌, List, ℕ, [], ◌∷◌, codes, Bool, true, false, if◌then◌else◌, Option, Some, None, option_map, option_and_then, refl, sym, ap, ◌∙◌, rules}
use Rattle.serde_json.specs.Data.{Data, Members}
use Rattle.zarr_grids_metadata.specs.ExtensionPoints.{ExtensionPoint, extension_point, written_point, configuration_members}
use Rattle.zarr_codecs_meaning.specs.Types.{DataType, bool, integer, custom, string as strings, variable_bytes, optional_of}
use Rattle.zarr_codecs_meaning.proofs.Lists.{Each, map_some}
use Rattle.zarr_codecs_types.specs.Same.{same_type}
use Rattle.zarr_codecs_types.specs.SameEquivalence.{same_type_decides}
use Rattle.zarr_codecs_types.specs.Metadata.{Row, rows, type_named, name_of, is_optional_name, named, inner_point, plain_type, point_type, type_point, optional_configuration, metadata_of, data_type_in}
use Rattle.zarr_codecs_types.proofs.Levels.{point_type_is, optional_read}

-- ---- names alone

-- a name stands for its type, and not for an optional one
record IsRead (name : List ℕ) (type : DataType) : Type 0 where
  found : type_named name rows ≡ Some type
  plain : is_optional_name name ≡ false

abbrev RowRead : Row → Type 0
RowRead row = IsRead row.0 row.1

rows_read : Each RowRead rows
rows_read = (
  record { found = refl; plain = refl },
  (
    record { found = refl; plain = refl },
    (
      record { found = refl; plain = refl },
      (
        record { found = refl; plain = refl },
        (
          record { found = refl; plain = refl },
          (
            record { found = refl; plain = refl },
            (
              record { found = refl; plain = refl },
              (
                record { found = refl; plain = refl },
                (
                  record { found = refl; plain = refl },
                  (
                    record { found = refl; plain = refl },
                    (
                      record { found = refl; plain = refl },
                      (
                        record { found = refl; plain = refl },
                        (record { found = refl; plain = refl }, (record { found = refl; plain = refl }, (record { found = refl; plain = refl }, (record { found = refl; plain = refl }, tt)))),
                      ),
                    ),
                  ),
                ),
              ),
            ),
          ),
        ),
      ),
    ),
  ),
)

name_at : (test : Bool) (type : DataType) (row : Row) (others : Option (List ℕ)) (name : List ℕ) → (test ≡ true → type ≡ row.1) → RowRead row → (others ≡ Some name → IsRead name type)
    → (if test then Some row.0 else others) ≡ Some name → IsRead name type
name_at true type row others name same here there is =
    let one : row.0 ≡ name = cc in
    let two : row.1 ≡ type = sym (same refl) in
    record { found = ap (λ n. type_named n rows) (sym one) ∙ (here.found ∙ ap Some two); plain = ap is_optional_name (sym one) ∙ here.plain }
name_at false type row others name same here there is = there is

name_read : (type : DataType) (xs : List Row) (name : List ℕ) → Each RowRead xs → name_of type xs ≡ Some name → IsRead name type
name_read type [] name h is = absurd (cc)
name_read type (row ∷ others) name h is = name_at (same_type type row.1) type row (name_of type others) name (λ e. (same_type_decides type row.1).0 e) h.0 (λ e. name_read type others name h.1 e) is

plain_back : (type : DataType) (point : ExtensionPoint) → option_map (named None) (name_of type rows) ≡ Some point → point_type point ≡ Some type
plain_back type point is =
    let found = map_some (named None) (name_of type rows) point is in
    let name = found.0 in
    let read = name_read type rows name rows_read found.1 in
    let whole : point_type (named None name) ≡ Some type =
    point_type_is (named None name)
    ∙ (ap (λ (b : Bool). if b then option_map optional_of (option_and_then point_type (inner_point (configuration_members None))) else plain_type (named None name)) read.plain ∙ read.found) in
    ap point_type (sym found.2) ∙ whole

-- ---- optional types

inner_back : (name : List ℕ) (c : Option Members) → inner_point (optional_configuration (named c name)) ≡ Some (named c name)
inner_back name None = refl
inner_back name (Some ms) = refl

-- each type is written with a name, and perhaps a configuration
record IsNamed (point : ExtensionPoint) : Type 0 where
  configuration : Option Members
  name : List ℕ
  is : point ≡ named configuration name

plain_named : (o : Option (List ℕ)) (point : ExtensionPoint) → option_map (named None) o ≡ Some point → IsNamed point
plain_named o point is = let found = map_some (named None) o point is in record { configuration = None; name = found.0; is = sym found.2 }

point_named : (type : DataType) (point : ExtensionPoint) → type_point type ≡ Some point → IsNamed point
point_named bool point is = plain_named (name_of bool rows) point is
point_named (integer sign width) point is = plain_named (name_of (integer sign width) rows) point is
point_named (custom parts) point is = absurd (cc)
point_named strings point is = plain_named (name_of strings rows) point is
point_named variable_bytes point is = plain_named (name_of variable_bytes rows) point is
point_named (optional_of inner) point is =
    let found = map_some (λ p. named (Some (optional_configuration p)) (codes "zarrs.optional")) (type_point inner) point is in
    record { configuration = Some (optional_configuration found.0); name = codes "zarrs.optional"; is = sym found.2 }

point_back : (type : DataType) (point : ExtensionPoint) → type_point type ≡ Some point → point_type point ≡ Some type
point_back bool point is = plain_back bool point is
point_back (integer sign width) point is = plain_back (integer sign width) point is
point_back (custom parts) point is = absurd (cc)
point_back strings point is = plain_back strings point is
point_back variable_bytes point is = plain_back variable_bytes point is
point_back (optional_of inner) point is =
    let found = map_some (λ p. named (Some (optional_configuration p)) (codes "zarrs.optional")) (type_point inner) point is in
    let q = found.0 in
    let shape = point_named inner q found.1 in
    let there : inner_point (optional_configuration q) ≡ Some q = ap (λ p. inner_point (optional_configuration p)) shape.is ∙ (inner_back shape.name shape.configuration ∙ ap Some (sym shape.is)) in
    ap point_type (sym found.2) ∙ optional_read (named (Some (optional_configuration q)) (codes "zarrs.optional")) q inner (optional_of inner) refl there (point_back inner q found.1) refl

written_back : (point : ExtensionPoint) → extension_point (written_point point) ≡ Some point
written_back point = search rules

pub metadata_reads_back : (type : DataType) (d : Data) → metadata_of type ≡ Some d → data_type_in d ≡ Some type
metadata_reads_back type d is =
    let found = map_some written_point (type_point type) d is in
    ap data_type_in (sym found.2) ∙ (ap (option_and_then point_type) (written_back found.0) ∙ point_back type found.0 found.1)
