-- The tokens of a text from a place on.
use Rattle.std.specs.Prelude.{ℕ, List, drop}
use Rattle.json.specs.Lex.{Place, fresh, after_value, after_comma, lex, between, punctuate}
use Rattle.json.specs.Token.{Token}
use Rattle.zarr_run_commands.specs.declared.cursor.Stand.{Stand}
use Rattle.zarr_run_commands.specs.declared.cursor.Stand.TheVariants as stand

-- what came before the next token
abbrev pub place_of : Stand → Place
place_of stand.Fresh = fresh
place_of stand.AfterValue = after_value
place_of stand.AfterComma = after_comma

-- the tokens of a text from one of its bytes on
abbrev pub tokens_from : Stand → ℕ → List ℕ → List Token
tokens_from stand at text = punctuate (place_of stand) (lex between (drop at text))
