-- Options, member by member.
use Rattle.std.proofs.Common.{◌≡◌, ℕ, List, ◌∷◌, Bool, true, false, codes, bytes_eq, if◌then◌else◌, Option, Some, None, option_map, option_and_then, refl, ap, ◌∙◌}
use Rattle.json.specs.Json.{value}
use Rattle.json.specs.Token.{Token}
use Rattle.json.proofs.Grammar.{value_is}
use Rattle.serde_json.specs.Data.{boolean, Members, put}
use Rattle.serde_json.specs.Find.{as_bool}
use Rattle.serde_json.specs.Read.{converted, of_json}
use Rattle.serde_json.proofs.Views.{get_member-put}
use Rattle.zarr_codecs_options.specs.declared.codec_options.CodecOptions.{CodecOptions}
use Rattle.zarr_grids_metadata.specs.Members.{has_only}
use Rattle.zarr_run_commands.specs.Lines.{said_or, optional, option_names, options_of}
use Rattle.zarr_run_commands.proofs.Fields.{has_only-put, kept}
use Rattle.zarr_run_commands.proofs.Saying.{no_value}

pub bool_token : (depth : ℕ) (ts r : List Token) (b : Bool) → ts ≡ Token.boolean b ∷ r → converted of_json (value depth ts) ≡ Some (boolean b, r)
bool_token depth ts r b is = ap (λ x. converted of_json (value depth x)) is ∙ ap (converted of_json) (value_is depth (Token.boolean b ∷ r))

abbrev options_from : Bool → Option Bool → Option Bool → Option Bool → Option CodecOptions
options_from only partial empty workers =
    if only then
    option_and_then (λ p. option_and_then (λ e. option_map (λ w. record { store_empty_chunks = e; experimental_partial_encoding = p; workers = w }) workers) empty) partial
    else None

record Flags (only : Bool) (partial empty workers : Option Bool) (o : CodecOptions) : Type 0 where
  only_is : only ≡ true
  partial_is : partial ≡ Some o.experimental_partial_encoding
  empty_is : empty ≡ Some o.store_empty_chunks
  workers_is : workers ≡ Some o.workers

flags_of : (only : Bool) (partial empty workers : Option Bool) (o : CodecOptions) → options_from only partial empty workers ≡ Some o → Flags only partial empty workers o
flags_of false partial empty workers o is = no_value o is
flags_of true None empty workers o is = no_value o is
flags_of true (Some p) None workers o is = no_value o is
flags_of true (Some p) (Some e) None o is = no_value o is
flags_of true (Some p) (Some e) (Some w) o is = record {
  only_is = refl;
  partial_is = ap (option_map (λ x. x.experimental_partial_encoding)) is;
  empty_is = ap (option_map (λ x. x.store_empty_chunks)) is;
  workers_is = ap (option_map (λ x. x.workers)) is;
}

from_flags : (only : Bool) (partial empty workers : Option Bool) (o : CodecOptions) → Flags only partial empty workers o → options_from only partial empty workers ≡ Some o
from_flags only partial empty workers o are = rw (are.only_is, are.partial_is, are.empty_is, are.workers_is) refl

-- the flag with this name, or this value where it is absent
abbrev flag_or : Bool → List ℕ → Members → Option Bool
flag_or = optional as_bool

module _ (workers : Bool) (ms : Members) (o : CodecOptions) (is : options_of workers ms ≡ Some o) (b : Bool) where
  old : Flags (has_only option_names ms) (flag_or false (codes "partial") ms) (flag_or false (codes "empty") ms) (flag_or workers (codes "workers") ms) o
  old = flags_of (has_only option_names ms) (flag_or false (codes "partial") ms) (flag_or false (codes "empty") ms) (flag_or workers (codes "workers") ms) o is

  set : (absent : Bool) (name : List ℕ) → flag_or absent name (put name (boolean b) ms) ≡ Some b
  set absent name = ap (said_or as_bool absent) (get_member-put name (boolean b) ms)

  left : (absent : Bool) (other name : List ℕ) → bytes_eq other name ≡ false → flag_or absent other (put name (boolean b) ms) ≡ flag_or absent other ms
  left absent other name differ = ap (said_or as_bool absent) (kept other name (boolean b) ms differ)

  pub with_partial : options_of workers (put (codes "partial") (boolean b) ms)
      ≡ Some (record { store_empty_chunks = o.store_empty_chunks; experimental_partial_encoding = b; workers = o.workers })
  with_partial = from_flags _ _ _ _ _ (record {
    only_is = has_only-put option_names (codes "partial") (boolean b) ms refl old.only_is;
    partial_is = set false (codes "partial");
    empty_is = left false (codes "empty") (codes "partial") refl ∙ old.empty_is;
    workers_is = left workers (codes "workers") (codes "partial") refl ∙ old.workers_is;
  })

  pub with_empty : options_of workers (put (codes "empty") (boolean b) ms)
      ≡ Some (record { store_empty_chunks = b; experimental_partial_encoding = o.experimental_partial_encoding; workers = o.workers })
  with_empty = from_flags _ _ _ _ _ (record {
    only_is = has_only-put option_names (codes "empty") (boolean b) ms refl old.only_is;
    partial_is = left false (codes "partial") (codes "empty") refl ∙ old.partial_is;
    empty_is = set false (codes "empty");
    workers_is = left workers (codes "workers") (codes "empty") refl ∙ old.workers_is;
  })

  pub with_workers : options_of workers (put (codes "workers") (boolean b) ms)
      ≡ Some (record { store_empty_chunks = o.store_empty_chunks; experimental_partial_encoding = o.experimental_partial_encoding; workers = b })
  with_workers = from_flags _ _ _ _ _ (record {
    only_is = has_only-put option_names (codes "workers") (boolean b) ms refl old.only_is;
    partial_is = left false (codes "partial") (codes "workers") refl ∙ old.partial_is;
    empty_is = left false (codes "empty") (codes "workers") refl ∙ old.empty_is;
    workers_is = set workers (codes "workers");
  })
