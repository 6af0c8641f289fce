-- `packbits` read from its metadata.
use Rattle.std.proofs.Common.{◌≡◌, ◌∙◌, ℕ, [], ◌∷◌, Bool, true, if◌then◌else◌, ap, sym, refl, Option, Some, None, option_map, option_and_then}
use Rattle.std.specs.Prelude.{codes, unwrap_or}
use Rattle.serde_json.specs.Data.{Data, Members}
use Rattle.serde_json.specs.Find.{get_member}
use Rattle.zarr_grids_metadata.specs.Members.{has_only}
use Rattle.zarr_codecs_meaning.specs.Chains.{Padding}
use Rattle.zarr_codecs_meaning.specs.Chains.Chain.{packbits}
use Rattle.zarr_codecs_metadata.specs.PackBits.{bit_in, packbits_of, packbits_with, padding_in}
use Rattle.zarr_codecs_packbits.specs.Metadata.{packbits_in, packbits_point}
use Rattle.zarr_codecs_packbits.specs.Views.{padding_of, packbits_chain}
use Rattle.zarr_codecs_packbits.specs.declared.codec.PackBitsCodec.{PackBitsCodec}
use Rattle.zarr_codecs_packbits.specs.declared.codec.PackBitsPaddingEncoding.{PackBitsPaddingEncoding}
use Rattle.zarr_codecs_packbits.specs.declared.codec.PackBitsPaddingEncoding.TheVariants as padding

told_at : (told : Padding) (first last : Option Data) (low high : Option ℕ) → bit_in first ≡ Some low → bit_in last ≡ Some high
    → option_and_then (λ bit. option_map (λ top. packbits told (unwrap_or bit 0) top) (bit_in last)) (bit_in first) ≡ Some (packbits told (unwrap_or low 0) high)
told_at told first last low high f l =
    ap (option_and_then (λ bit. option_map (λ top. packbits told (unwrap_or bit 0) top) (bit_in last))) f ∙ ap (option_map (λ top. packbits told (unwrap_or low 0) top)) l

pub all_told : (p first last : Option Data) (told : PackBitsPaddingEncoding) (low high : Option ℕ) → option_map padding_of (Some told) ≡ padding_in p → Some low ≡ bit_in first → Some high ≡ bit_in last
    → packbits_with p first last ≡ Some (packbits (padding_of told) (unwrap_or low 0) high)
all_told p first last told low high t f l =
    ap (option_and_then (λ (pad : Padding). option_and_then (λ bit. option_map (λ top. packbits pad (unwrap_or bit 0) top) (bit_in last)) (bit_in first))) (sym t)
    ∙ told_at (padding_of told) first last low high (sym f) (sym l)

pub last_untold : (p first last : Option Data) (told : PackBitsPaddingEncoding) (low : Option ℕ) → option_map padding_of (Some told) ≡ padding_in p → Some low ≡ bit_in first → None ≡ bit_in last → packbits_with p first last ≡ None
last_untold p first last told low t f l =
    ap (option_and_then (λ (pad : Padding). option_and_then (λ bit. option_map (λ top. packbits pad (unwrap_or bit 0) top) (bit_in last)) (bit_in first))) (sym t)
    ∙ (ap (option_and_then (λ bit. option_map (λ top. packbits (padding_of told) (unwrap_or bit 0) top) (bit_in last))) (sym f) ∙ ap (option_map (λ top. packbits (padding_of told) (unwrap_or low 0) top)) (sym l))

-- what a configuration of these members gives
pub members_told : (ms : Members) (p first last : Option Data) → has_only (codes "padding_encoding" ∷ codes "first_bit" ∷ codes "last_bit" ∷ []) ms ≡ true
    → p ≡ get_member (codes "padding_encoding") ms → first ≡ get_member (codes "first_bit") ms → last ≡ get_member (codes "last_bit") ms → packbits_with p first last ≡ packbits_of ms
members_told ms p first last only a b c =
    let all = packbits_with (get_member (codes "padding_encoding") ms) (get_member (codes "first_bit") ms) (get_member (codes "last_bit") ms) in
    ap (λ x. packbits_with x first last) a
    ∙ (ap (λ x. packbits_with (get_member (codes "padding_encoding") ms) x last) b
    ∙ (ap (packbits_with (get_member (codes "padding_encoding") ms) (get_member (codes "first_bit") ms)) c ∙ sym (ap (λ (t : Bool). if t then all else None) only)))

parts : (p : PackBitsPaddingEncoding) (first last : Option ℕ) → packbits_in (packbits_point (record { padding = p; first_bit = first; last_bit = last })) ≡ Some (packbits_chain (record { padding = p; first_bit = first; last_bit = last }))
parts padding.None None None = refl
parts padding.None None (Some l) = refl
parts padding.None (Some f) None = refl
parts padding.None (Some f) (Some l) = refl
parts padding.FirstByte None None = refl
parts padding.FirstByte None (Some l) = refl
parts padding.FirstByte (Some f) None = refl
parts padding.FirstByte (Some f) (Some l) = refl
parts padding.LastByte None None = refl
parts padding.LastByte None (Some l) = refl
parts padding.LastByte (Some f) None = refl
parts padding.LastByte (Some f) (Some l) = refl

pub read_back : (codec : PackBitsCodec) → packbits_in (packbits_point codec) ≡ Some (packbits_chain codec)
read_back codec = parts codec.padding codec.first_bit codec.last_bit
