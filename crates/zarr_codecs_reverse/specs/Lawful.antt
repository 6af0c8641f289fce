-- The codec `x-reverse` is lawful.
use Rattle.std.specs.Prelude.{◌≡◌, ℕ, List, [], reverse, length, Option, Some, None}
use Rattle.std.proofs.Common.{sym, ap, ◌∙◌, subst}
use Rattle.std.proofs.lemmas.List.{reverse-reverse, length-reverse}
use Rattle.zarr_codecs_meaning.specs.Fits.{is_size_as}
use Rattle.zarr_codecs_meaning.specs.Laws.{IsLawful}
use Rattle.zarr_codecs_meaning.proofs.Lists.{if_some, some_same}
use Rattle.zarr_codecs_reverse.specs.Reversing.{names_reversing, reversing, ReadsLawful}

abbrev made_bytes : Option (List ℕ) → List ℕ
made_bytes None = []
made_bytes (Some bytes) = bytes

reversed_back : (given made : List ℕ) → Some (reverse given) ≡ Some made → Some (reverse made) ≡ Some given
reversed_back given made is = ap (λ bytes. Some (reverse bytes)) (sym (ap made_bytes is)) ∙ ap Some (reverse-reverse given)

as_long : (given made : List ℕ) → Some (reverse given) ≡ Some made → length made ≡ length given
as_long given made is = ap length (sym (ap made_bytes is)) ∙ length-reverse given

-- the codec undoes what it makes, which is as long as what it was made of
pub reversing_lawful : IsLawful reversing
reversing_lawful = record {
  undoes = reversed_back;
  honest = λ known given made is sized. ap (is_size_as known) (as_long given made is) ∙ sized;
  monotone = λ known wider within. within;
}

-- and each that metadata says is this codec
pub reads_reversing_lawful : ReadsLawful
reads_reversing_lawful point codec is = subst IsLawful (some_same (if_some (names_reversing point) (Some reversing) codec is).1) reversing_lawful
