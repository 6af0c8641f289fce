-- No key of a chunk ends with a slash.
use Rattle.std.proofs.Common.{◌≡◌, ◌∙◌, ℕ, ◌<◌, true, false, cond, List, [], ◌∷◌, ◌++◌, length, drop, refl, arith, codes, append_assoc, length-append}
use Rattle.std.specs.Fmt.{decimal}
use Rattle.std.specs.Str.{bytes_eq}
use Rattle.std.proofs.lemmas.Bool.{ne_eqb}
use Rattle.std.proofs.lemmas.List.{append-nil}
use Rattle.zarr_grids_keys.specs.declared.encoding.ChunkKeyEncoding.{ChunkKeyEncoding}
use Rattle.zarr_grids_keys.specs.declared.encoding.ChunkKeyEncoding.TheVariants.{Default, V2, DefaultSuffix}
use Rattle.zarr_grids_keys.specs.Encodings.{keys_of, encoding_suffix}
use Rattle.zarr_grids_keys.specs.Keys.{v2, numbers_after, default_key, encoded_key, key_under, chunk_key}
use Rattle.zarr_grids_keys.specs.Separators.{separator_byte}
use Rattle.zarr_grids_keys.specs.Paths.{ends_with_slash}
use Rattle.zarr_grids_keys.proofs.HeadLemmas.{AreHeads, HasHead, decimal-head}

-- a text that is not empty and does not end with a slash
record IsName (text : List ℕ) : Type 0 where
  some : 0 < length text
  ends : ends_with_slash text ≡ false

-- the end of a text is that of its last part
ends-append : (xs ys : List ℕ) → 0 < length ys → ends_with_slash (xs ++ ys) ≡ ends_with_slash ys
ends-append [] ys some = refl
ends-append (x ∷ []) [] some = absurd (omega arith)
ends-append (x ∷ []) (y ∷ ys) some = refl
ends-append (x ∷ w ∷ xs) ys some = ends-append (w ∷ xs) ys some

name-append : (xs ys : List ℕ) → IsName ys → IsName (xs ++ ys)
name-append xs ys name = let some = name.some in record { some = omega (arith, length-append xs ys); ends = ends-append xs ys name.some ∙ name.ends }

-- digits
heads_end : (xs : List ℕ) → AreHeads xs → ends_with_slash xs ≡ false
heads_end [] h = refl
heads_end (x ∷ []) h = let above = h.0.0 in ne_eqb x 47 (λ e. omega arith)
heads_end (x ∷ y ∷ xs) h = heads_end (y ∷ xs) h.1

decimal-name : (n : ℕ) → IsName (decimal n)
decimal-name n = of_heads (decimal n) (decimal-head n) where
  of_heads : (xs : List ℕ) → HasHead xs → IsName xs
  of_heads [] h = elim h [ ]
  of_heads (x ∷ xs) h = record { some = omega arith; ends = heads_end (x ∷ xs) h }

-- numbers after a text
numbers-name : (xs : List ℕ) (separator : ℕ) (chunk : List ℕ) → IsName xs → IsName (xs ++ numbers_after separator chunk)
numbers-name xs separator [] name = rw (append-nil xs) name
numbers-name xs separator (n ∷ ns) name =
    rw (← append_assoc xs (separator ∷ decimal n) (numbers_after separator ns))
    (numbers-name (xs ++ (separator ∷ decimal n)) separator ns (name-append xs (separator ∷ decimal n) (name-append (separator ∷ []) (decimal n) (decimal-name n))))

default-name : (separator : ℕ) (chunk : List ℕ) → IsName (default_key separator chunk)
default-name separator chunk = numbers-name (codes "c") separator chunk (record { some = omega arith; ends = refl })

suffixed-name : (separator : ℕ) (suffix chunk : List ℕ) → ends_with_slash suffix ≡ false → IsName (default_key separator chunk ++ suffix)
suffixed-name separator [] chunk h = rw (append-nil (default_key separator chunk)) (default-name separator chunk)
suffixed-name separator (x ∷ suffix) chunk h = name-append (default_key separator chunk) (x ∷ suffix) (record { some = omega arith; ends = h })

v2-name : (separator : ℕ) (chunk : List ℕ) → IsName (encoded_key (v2 separator) chunk)
v2-name separator [] = record { some = omega arith; ends = refl }
v2-name separator (index ∷ rest) = numbers-name (decimal index) separator rest (decimal-name index)

encoded-name : (keys : ChunkKeyEncoding) (chunk : List ℕ) → IsName (encoded_key (keys_of keys) chunk)
encoded-name (Default encoding) chunk = default-name (separator_byte encoding.separator) chunk
encoded-name (V2 encoding) chunk = v2-name (separator_byte encoding.separator) chunk
encoded-name (DefaultSuffix encoding) chunk = suffixed-name (separator_byte encoding.separator) (encoding_suffix encoding) chunk encoding.no_slash_at_end

under-name : (path name : List ℕ) → IsName name → IsName (key_under path name)
under-name path name is = elim (bytes_eq path (codes "/")) as (λ b. IsName (cond b name (drop 1 path ++ 47 ∷ name))) [
  | true ↦ is
  | false ↦ name-append (drop 1 path) (47 ∷ name) (name-append (47 ∷ []) name is)
]

pub chunk_key-no_slash : (path : List ℕ) (keys : ChunkKeyEncoding) (chunk : List ℕ) → ends_with_slash (chunk_key path (keys_of keys) chunk) ≡ false
chunk_key-no_slash path keys chunk = (under-name path (encoded_key (keys_of keys) chunk) (encoded-name keys chunk)).ends
