-- The places of some subchunks of a shard were read.
use Rattle.std.proofs.Common.{◌≡◌, ◌∙◌, ◌≤◌, List, [], ◌∷◌, ◌++◌, length, get_or, replicate, ap, sym, refl, arith, subst, ℕ, Option, Some, true, Result, Err, unwrap_or, append_assoc, append-nil}
use Rattle.std.specs.Prelude.{nat_lt}
use Rattle.std.specs.List.{list_all}
use Rattle.std.specs.List.Sorted.{IsPermutation}
use Rattle.std.proofs.lemmas.List.{length-replicate}
use Rattle.zarr_grids_boxes.specs.Boxes.{product}
use Rattle.zarr_codecs_meaning.specs.Chains.{Chain, Location, sharded}
use Rattle.zarr_codecs_meaning.specs.Encoding.{Pair, absent_pair}
use Rattle.zarr_codecs_meaning.specs.Fits.{fits}
use Rattle.zarr_codecs_meaning.specs.Places.{parts_of}
use Rattle.zarr_codecs_meaning.specs.Types.{Cell}
use Rattle.zarr_codecs_meaning.proofs.Fitting.{fitted}
use Rattle.zarr_codecs_meaning.proofs.Lists.{Each}
use Rattle.zarr_codecs_arrays.specs.declared.array_bytes.ArrayBytes.{ArrayBytes}
use Rattle.zarr_codecs_arrays.specs.declared.error.CodecError.{CodecError}
use Rattle.zarr_codecs_arrays.specs.declared.error.CodecError.TheVariants as error
use Rattle.zarr_codecs_regions.specs.Updates.{put}
use Rattle.zarr_sharding_places.specs.Groups.{IsGroup, no_place}
use Rattle.zarr_sharding_places.specs.Locating.{asked_places, part_shape}
use Rattle.zarr_sharding_places.specs.Placed.{Shows}
use Rattle.zarr_sharding_places.specs.declared.locating.AskedPlace.{AskedPlace}
use Rattle.zarr_sharding_places.specs.declared.placed.PlacedElements.{PlacedElements}
use Rattle.zarr_sharding_codec.specs.Reading.{ListsRead, places_decoded, shard_cells, subchunks_of}
use Rattle.zarr_sharding_codec.proofs.NumberedParts.{part_fewer}
use Rattle.zarr_sharding_codec.proofs.GroupsRead as groups
use Rattle.zarr_sharding_codec.proofs.GroupsRead.{AskedShard, IsAskable, IsAsked, IsRead, all_asked, all_read, group_lost, group_put, insides, piece_cells, piece_many, positions, put_whole}
use Rattle.zarr_sharding_codec.proofs.StoredLoop.{too_large}
use Rattle.zarr_codecs_traits.specs.Arrays.{coded}

-- the number of the first place's subchunk, its pair and its shape
abbrev pub number_at : List AskedPlace → ℕ
number_at group = (get_or group 0 no_place).subchunk

abbrev pub pair_at : AskedShard → List AskedPlace → Pair
pair_at s group = get_or s.pairs (number_at group) absent_pair

abbrev pub shape_at : AskedShard → List AskedPlace → List ℕ
shape_at s group = part_shape s.shape s.subchunk (number_at group)

-- the first places were read, and these are left
pub record ReadSoFar (s : AskedShard) (all : PlacedElements) (places rest : List AskedPlace) : Type 0 where
  pub cells : List Cell
  pub shows : Shows s.elements all cells
  pub whole : length cells ≡ length s.numbers
  pub done : List AskedPlace
  pub split : done ++ rest ≡ places
  pub read : Each (IsRead s cells) done

pub none_so_far : (s : AskedShard) (all : PlacedElements) (places : List AskedPlace) → Shows s.elements all (replicate (length s.numbers) s.elements.fill) → ReadSoFar s all places places
none_so_far s all places shows = record {
  cells = replicate (length s.numbers) s.elements.fill;
  shows = shows;
  whole = length-replicate (length s.numbers) s.elements.fill;
  done = [];
  split = refl;
  read = tt;
}

each_middle : {X : Type 0} (P : X → Type 0) (before here after : List X) → Each P (before ++ (here ++ after)) → Each P here
each_middle P [] [] after are = tt
each_middle P [] (x ∷ xs) after are = (are.0, each_middle P [] xs after are.1)
each_middle P (y ∷ ys) here after are = each_middle P ys here after are.1

-- what is read of a group is the same where the source holds the same as before
pub read_before : (s : AskedShard) (one other : Option (List ℕ)) (edges : List ℕ) (group : List AskedPlace) (result : Result ArrayBytes CodecError) → one ≡ other → edges ≡ shape_at s group
    → ListsRead s.elements edges (places_decoded (coded s.inner s.elements edges) (unwrap_or other []) (pair_at s group) (insides group)) result
    → ListsRead s.elements (shape_at s group) (places_decoded (coded s.inner s.elements (shape_at s group)) (unwrap_or one []) (pair_at s group) (insides group)) result
read_before s one other edges group result same is read =
    subst (λ (o : Option (List ℕ)). ListsRead s.elements (shape_at s group) (places_decoded (coded s.inner s.elements (shape_at s group)) (unwrap_or o []) (pair_at s group) (insides group)) result) (sym same)
    (subst (λ (e : List ℕ). ListsRead s.elements e (places_decoded (coded s.inner s.elements e) (unwrap_or other []) (pair_at s group) (insides group)) result) is read)

-- the places that are left are some of all
pub record IsLeft (places rest : List AskedPlace) : Type 0 where
  pub done : List AskedPlace
  pub split : done ++ rest ≡ places

pub left_more : (places rest group others : List AskedPlace) → IsLeft places rest → group ++ others ≡ rest → IsLeft places others
left_more places rest group others left cut = record { done = left.done ++ group; split = append_assoc left.done group others ∙ (ap (λ ps. left.done ++ ps) cut ∙ left.split) }

pub group_asked : (s : AskedShard) (places rest group others : List AskedPlace) → IsPermutation (asked_places s.shape s.subchunk s.numbers) places → IsLeft places rest → group ++ others ≡ rest → Each (IsAsked s) group
group_asked s places rest group others moved left cut =
    each_middle (IsAsked s) left.done group others (subst (λ ps. Each (IsAsked s) ps) (sym (ap (λ ps. left.done ++ ps) cut ∙ left.split)) (all_asked s places moved))

is_group : (s : AskedShard) (group : List AskedPlace) → Each (IsAsked s) group → IsGroup group → groups.IsGroup s (number_at group) group
is_group s group asked one = record { asked = asked; alike = one }

pub so_far_more : (s : AskedShard) (before after : PlacedElements) (places rest group others : List AskedPlace) (piece : List Cell) → IsAskable s → IsPermutation (asked_places s.shape s.subchunk s.numbers) places
    → ReadSoFar s before places rest → group ++ others ≡ rest → IsGroup group → piece_cells s (number_at group) (insides group) ≡ Some piece
    → ((cells : List Cell) → Shows s.elements before cells → length piece ≡ length (positions group) → Shows s.elements after (put (positions group) piece cells)) → ReadSoFar s after places others
so_far_more s before after places rest group others piece can moved so_far cut one read law =
    let asked = group_asked s places rest group others moved (record { done = so_far.done; split = so_far.split }) cut in
    let is = is_group s group asked one in
    let made = put (positions group) piece so_far.cells in
    record {
      cells = made;
      shows = law so_far.cells so_far.shows (piece_many s (number_at group) piece group read);
      whole = put_whole s so_far.cells piece group so_far.whole;
      done = so_far.done ++ group;
      split = append_assoc so_far.done group others ∙ (ap (λ ps. so_far.done ++ ps) cut ∙ so_far.split);
      read = group_put s (number_at group) so_far.cells piece so_far.done group can is so_far.whole read so_far.read;
    }

-- all places were read
pub so_far_all : (s : AskedShard) (all : PlacedElements) (places rest : List AskedPlace) → IsPermutation (asked_places s.shape s.subchunk s.numbers) places → (so_far : ReadSoFar s all places rest) → length rest ≤ 0
    → shard_cells (subchunks_of s.inner s.elements s.shape s.subchunk) s.value s.pairs s.numbers ≡ Some so_far.cells
so_far_all s all places (place ∷ rest) moved so_far none = absurd (omega (arith, none))
so_far_all s all places [] moved so_far none =
    let e : so_far.done ≡ places = sym (append-nil so_far.done) ∙ so_far.split in
    all_read s places so_far.cells moved so_far.whole (subst (λ ps. Each (IsRead s so_far.cells) ps) e so_far.read)

-- a group that isn't read
pub group_unread : (s : AskedShard) (group : List AskedPlace) (e : CodecError) → IsAskable s → Each (IsAsked s) group → IsGroup group → ListsRead s.elements (shape_at s group) (piece_cells s (number_at group) (insides group)) (Err e)
    → ListsRead s.elements s.shape (shard_cells (subchunks_of s.inner s.elements s.shape s.subchunk) s.value s.pairs s.numbers) (Err e)
group_unread s group error.Damage can asked one lost = group_lost s (number_at group) group can (is_group s group asked one) lost
group_unread s group error.Size can asked one large = too_large s.elements.type (product (shape_at s group)) (product s.shape) (part_fewer s.shape s.subchunk (number_at group) can.cuts) large
group_unread s group error.Source can asked one h = tt
group_unread s group error.Memory can asked one h = tt
group_unread s group e can asked one h = absurd h

-- what may be asked of a shard that fits
pub askable : (s : AskedShard) (index : Chain) (location : Location) → fits (sharded s.subchunk s.inner index location) s.elements.type s.shape ≡ true → length s.pairs ≡ length (parts_of s.shape s.subchunk) → list_all (λ n. nat_lt n (product s.shape)) s.numbers ≡ true → IsAskable s
askable s index location fit many below = record {
  cuts = (fitted s.subchunk s.inner index location s.elements s.shape fit).cuts;
  many = many;
  below = below;
}
