-- The fields of a line, member by member.
use Rattle.std.proofs.Common.{◌≡◌, ℕ, List, [], ◌∷◌, String, Vec, Bool, true, false, true≢false, ◌&&◌, bytes_eq, codes, string_bytes, nat_cmp, Option, Some, None, option_map, option_and_then, Ordering, Less, Equal, Greater, refl, sym, ap, ◌∙◌}
use Rattle.std.proofs.lemmas.Slice.Eq.{bytes_eq-Decides}
use Rattle.std.specs.Cmp.Lexicographic.{slice_cmp}
use Rattle.std.specs.List.{list_any}
use Rattle.std.specs.Ordering.{match_ordering}
use Rattle.std.specs.declared.alloc.Global.{Global}
use Rattle.serde_json.specs.Data.{Data, Members, no_members, member, put}
use Rattle.serde_json.specs.Find.{get_member, as_str}
use Rattle.serde_json.proofs.Views.{get_member-put, get_member-put_other}
use Rattle.zarr_codecs_json.specs.Numbers.{number_items}
use Rattle.zarr_codecs_options.specs.declared.codec_options.CodecOptions.{CodecOptions}
use Rattle.zarr_grids_boxes.specs.Subsets.{region_of}
use Rattle.zarr_grids_boxes.specs.declared.subset.ArraySubset.{ArraySubset}
use Rattle.zarr_grids_configurations.specs.Numbers.{sizes_in, sizes_of}
use Rattle.zarr_grids_metadata.specs.Members.{has_only}
use Rattle.zarr_run_commands.specs.declared.operation.Operation.{Operation}
use Rattle.zarr_run_commands.specs.declared.tokens.Line.{Line}
use Rattle.zarr_run_commands.specs.Lines.{region_in, operation_named, said_or, options_in, no_options}
use Rattle.zarr_run_commands.specs.LineCells.{IsNamed, IsLine, number_list}

-- ---- names

both : (a b : Bool) → (a && b) ≡ true → (a ≡ true) × (b ≡ true)
both true b is = (refl, is)
both false b is = absurd (true≢false (sym is))

has_only-put_at : (o : Ordering) (names : List (List ℕ)) (k l : List ℕ) (d e : Data) (ms : Members) → list_any (bytes_eq k) names ≡ true → has_only names (member l e ms) ≡ true
    → has_only names (put k d ms) ≡ true → has_only names (match_ordering o (member k d (member l e ms)) (member l d ms) (member l e (put k d ms))) ≡ true
has_only-put_at Less names k l d e ms is only later = ap (λ b. b && has_only names (member l e ms)) is ∙ only
has_only-put_at Equal names k l d e ms is only later = only
has_only-put_at Greater names k l d e ms is only later = ap (λ b. list_any (bytes_eq l) names && b) later ∙ ap (λ b. b && true) (both (list_any (bytes_eq l) names) (has_only names ms) only).0

-- a member with one of these names is put among members with these names alone
pub has_only-put : (names : List (List ℕ)) (k : List ℕ) (d : Data) (ms : Members) → list_any (bytes_eq k) names ≡ true → has_only names ms ≡ true → has_only names (put k d ms) ≡ true
has_only-put names k d no_members is only = ap (λ b. b && true) is
has_only-put names k d (member l e ms) is only =
    has_only-put_at (slice_cmp nat_cmp k l) names k l d e ms is only (has_only-put names k d ms is (both (list_any (bytes_eq l) names) (has_only names ms) only).1)

named : {A : Type 0} (names : List (List ℕ)) (name : List ℕ) (o : Option A) → list_any (bytes_eq name) names ≡ true → IsNamed names name o
named names name None is = tt
named names name (Some a) is = is

-- ---- a field that is read

apart : (q k : List ℕ) → bytes_eq q k ≡ false → q ≡ k → ⊥
apart q k differ e = true≢false (sym ((bytes_eq-Decides q k).1 e) ∙ differ)

pub kept : (q k : List ℕ) (d : Data) (ms : Members) → bytes_eq q k ≡ false → get_member q (put k d ms) ≡ get_member q ms
kept q k d ms differ = get_member-put_other q k d ms (apart q k differ)

sizes_of-numbers : (ns : List ℕ) → sizes_of (number_items ns) ≡ Some ns
sizes_of-numbers [] = refl
sizes_of-numbers (n ∷ ns) = ap (option_map (λ ms. n ∷ ms)) (sizes_of-numbers ns)

pub is_empty_line : (workers : Bool) → IsLine workers no_members (record { operation = None; path = None; region = None; chunk = None; cells = None; options = None })
is_empty_line workers = (refl, refl, refl, refl, refl, refl, λ names op path box chunk cells options. refl)

module _ (workers : Bool) (d : Data) (ms : Members) (line : Line) (is : IsLine workers ms line) where
  pub with_operation : (o : Operation) → option_and_then operation_named (as_str d) ≡ Some o
      → IsLine workers (put (codes "op") d ms) (record { operation = Some o; path = line.path; region = line.region; chunk = line.chunk; cells = line.cells; options = line.options })
  with_operation o said = (
    ap (option_and_then (λ d. option_and_then operation_named (as_str d))) (get_member-put (codes "op") d ms) ∙ said,
    ap (option_and_then as_str) (kept (codes "path") (codes "op") d ms refl) ∙ is.1,
    ap (option_and_then region_in) (kept (codes "box") (codes "op") d ms refl) ∙ is.2,
    ap (option_and_then sizes_in) (kept (codes "chunk") (codes "op") d ms refl) ∙ is.3,
    kept (codes "cells") (codes "op") d ms refl ∙ is.4,
    ap (said_or (options_in workers) (no_options workers)) (kept (codes "options") (codes "op") d ms refl) ∙ is.5,
    λ names op path box chunk cells options. has_only-put names (codes "op") d ms op (is.6 names (named names (codes "op") line.operation op) path box chunk cells options),
  )

  pub with_path : (p : List ℕ) (text : String Global) → string_bytes text ≡ p → as_str d ≡ Some p
      → IsLine workers (put (codes "path") d ms) (record { operation = line.operation; path = Some text; region = line.region; chunk = line.chunk; cells = line.cells; options = line.options })
  with_path p text copied said = (
    ap (option_and_then (λ d. option_and_then operation_named (as_str d))) (kept (codes "op") (codes "path") d ms refl) ∙ is.0,
    ap (option_and_then as_str) (get_member-put (codes "path") d ms) ∙ said ∙ ap Some (sym copied),
    ap (option_and_then region_in) (kept (codes "box") (codes "path") d ms refl) ∙ is.2,
    ap (option_and_then sizes_in) (kept (codes "chunk") (codes "path") d ms refl) ∙ is.3,
    kept (codes "cells") (codes "path") d ms refl ∙ is.4,
    ap (said_or (options_in workers) (no_options workers)) (kept (codes "options") (codes "path") d ms refl) ∙ is.5,
    λ names op path box chunk cells options. has_only-put names (codes "path") d ms path (is.6 names op (named names (codes "path") line.path path) box chunk cells options),
  )

  pub with_region : (r : ArraySubset) → region_in d ≡ Some (region_of r)
      → IsLine workers (put (codes "box") d ms) (record { operation = line.operation; path = line.path; region = Some r; chunk = line.chunk; cells = line.cells; options = line.options })
  with_region r said = (
    ap (option_and_then (λ d. option_and_then operation_named (as_str d))) (kept (codes "op") (codes "box") d ms refl) ∙ is.0,
    ap (option_and_then as_str) (kept (codes "path") (codes "box") d ms refl) ∙ is.1,
    ap (option_and_then region_in) (get_member-put (codes "box") d ms) ∙ said,
    ap (option_and_then sizes_in) (kept (codes "chunk") (codes "box") d ms refl) ∙ is.3,
    kept (codes "cells") (codes "box") d ms refl ∙ is.4,
    ap (said_or (options_in workers) (no_options workers)) (kept (codes "options") (codes "box") d ms refl) ∙ is.5,
    λ names op path box chunk cells options. has_only-put names (codes "box") d ms box (is.6 names op path (named names (codes "box") line.region box) chunk cells options),
  )

  pub with_chunk : (v : Vec ℕ Global) → d ≡ number_list v.items
      → IsLine workers (put (codes "chunk") d ms) (record { operation = line.operation; path = line.path; region = line.region; chunk = Some v; cells = line.cells; options = line.options })
  with_chunk v said = (
    ap (option_and_then (λ d. option_and_then operation_named (as_str d))) (kept (codes "op") (codes "chunk") d ms refl) ∙ is.0,
    ap (option_and_then as_str) (kept (codes "path") (codes "chunk") d ms refl) ∙ is.1,
    ap (option_and_then region_in) (kept (codes "box") (codes "chunk") d ms refl) ∙ is.2,
    ap (option_and_then sizes_in) (get_member-put (codes "chunk") d ms) ∙ (ap sizes_in said ∙ sizes_of-numbers v.items),
    kept (codes "cells") (codes "chunk") d ms refl ∙ is.4,
    ap (said_or (options_in workers) (no_options workers)) (kept (codes "options") (codes "chunk") d ms refl) ∙ is.5,
    λ names op path box chunk cells options. has_only-put names (codes "chunk") d ms chunk (is.6 names op path box (named names (codes "chunk") line.chunk chunk) cells options),
  )

  pub with_cells : (v : Vec ℕ Global) → d ≡ number_list v.items
      → IsLine workers (put (codes "cells") d ms) (record { operation = line.operation; path = line.path; region = line.region; chunk = line.chunk; cells = Some v; options = line.options })
  with_cells v said = (
    ap (option_and_then (λ d. option_and_then operation_named (as_str d))) (kept (codes "op") (codes "cells") d ms refl) ∙ is.0,
    ap (option_and_then as_str) (kept (codes "path") (codes "cells") d ms refl) ∙ is.1,
    ap (option_and_then region_in) (kept (codes "box") (codes "cells") d ms refl) ∙ is.2,
    ap (option_and_then sizes_in) (kept (codes "chunk") (codes "cells") d ms refl) ∙ is.3,
    get_member-put (codes "cells") d ms ∙ ap Some said,
    ap (said_or (options_in workers) (no_options workers)) (kept (codes "options") (codes "cells") d ms refl) ∙ is.5,
    λ names op path box chunk cells options. has_only-put names (codes "cells") d ms cells (is.6 names op path box chunk (named names (codes "cells") line.cells cells) options),
  )

  pub with_options : (o : CodecOptions) → options_in workers d ≡ Some o
      → IsLine workers (put (codes "options") d ms) (record { operation = line.operation; path = line.path; region = line.region; chunk = line.chunk; cells = line.cells; options = Some o })
  with_options o said = (
    ap (option_and_then (λ d. option_and_then operation_named (as_str d))) (kept (codes "op") (codes "options") d ms refl) ∙ is.0,
    ap (option_and_then as_str) (kept (codes "path") (codes "options") d ms refl) ∙ is.1,
    ap (option_and_then region_in) (kept (codes "box") (codes "options") d ms refl) ∙ is.2,
    ap (option_and_then sizes_in) (kept (codes "chunk") (codes "options") d ms refl) ∙ is.3,
    kept (codes "cells") (codes "options") d ms refl ∙ is.4,
    ap (said_or (options_in workers) (no_options workers)) (get_member-put (codes "options") d ms) ∙ said,
    λ names op path box chunk cells options. has_only-put names (codes "options") d ms options (is.6 names op path box chunk cells (named names (codes "options") line.options options)),
  )
