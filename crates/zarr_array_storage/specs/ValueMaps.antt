-- The values that a store in memory holds, each at a key.
use Rattle.std.specs.Prelude.{ℕ, List, map, Vec, String}
use Rattle.std.specs.String.{string_bytes}
use Rattle.std.specs.declared.alloc.Global.{Global}

-- the bytes of each key and of its value
abbrev pub plain_entries : List (String Global × Vec ℕ Global) → List (List ℕ × List ℕ)
plain_entries entries = map (λ (entry : String Global × Vec ℕ Global). (string_bytes entry.0, entry.1.items)) entries

-- the bytes of each key
abbrev pub key_bytes : List (String Global) → List (List ℕ)
key_bytes keys = map (λ (key : String Global). string_bytes key) keys
