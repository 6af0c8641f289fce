-- What a parse of the program's command line found.
use Rattle.std.proofs.Common.{◌≡◌, ◌∙◌, ap, refl, sym, Bool, true, false, List, Option, Some, None, codes}
use Rattle.std.specs.Prelude.{unwrap_or, bytes_eq}
use Rattle.std.specs.Option.{option_map_or}
use Rattle.std.proofs.lemmas.Slice.Eq.{bytes_eq-Decides}
use Rattle.std.specs.Str.Parse.{ParsesBool}
use Rattle.clap.specs.Words.{App, ReadsOne, Text, first_of, one_of, one_text, matches_of, is_simple, HasMatchesOf, found_of}
use Rattle.clap.specs.Matches.{first_value}
use Rattle.clap.specs.declared.parser.matches.ArgMatches.{ArgMatches}
use Rattle.clap.proofs.WalkLemmas.{first_value-rows, one_text-rows}
use Rattle.clap.proofs.OnLiterals.{clap_on_literals}
use Rattle.zarr_run_words.specs.CommandLines.{program}

simple : is_simple program ≡ true
unfolding clap_on_literals
simple = refl

pub found-in : (m : ArgMatches) (a : App) (id : Text) (words : List Text) → a ≡ program → HasMatchesOf a words m → first_value (found_of m) id ≡ first_of id (matches_of program words)
found-in m a id words e h = first_value-rows (found_of m) id ∙ ap (first_of id) ((h (ap is_simple e ∙ simple)).0 ∙ ap (λ (b : App). matches_of b words) e)

pub text-in : (m : ArgMatches) (a : App) (id : Text) (words : List Text) → a ≡ program → HasMatchesOf a words m → one_text (found_of m) id ≡ one_of id (matches_of program words)
text-in m a id words e h = one_text-rows (found_of m) id ∙ ap (one_of id) ((h (ap is_simple e ∙ simple)).0 ∙ ap (λ (b : App). matches_of b words) e)

-- the text is `true`
abbrev pub is_true : Text → Bool
is_true = bytes_eq (codes "true")

-- what is read of a flag is whether its text is `true`
reads_true : (E : Type 0) (text : Text) (read : Option Bool) → ReadsOne (ParsesBool {E = E}) text read → unwrap_or read false ≡ is_true text
reads_true E text (Some true) is = ap is_true (sym is)
reads_true E text (Some false) is = ap is_true (sym is)
reads_true E text None none = go (is_true text) refl
  where
    go : (b : Bool) → is_true text ≡ b → false ≡ is_true text
    go true same = absurd (none.1.0 (sym ((bytes_eq-Decides (codes "true") text).0 same)))
    go false other = sym other

pub flag_reads : (E : Type 0) (found : Option Text) (read : Option Bool) → (found ≡ None → read ≡ None) → ((text : Text) → found ≡ Some text → ReadsOne (ParsesBool {E = E}) text read)
    → unwrap_or read false ≡ option_map_or is_true found false
flag_reads E None read none some = ap (λ r. unwrap_or r false) (none refl)
flag_reads E (Some text) read none some = reads_true E text read (some text refl)
