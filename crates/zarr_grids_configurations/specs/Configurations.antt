-- The configurations of the four chunk grids in JSON (Zarr core specification, "Regular grids", for `regular`; the others are this project's profile).
use Rattle.std.specs.Prelude.{ℕ, List, [], ◌∷◌, map, codes, bytes_eq, Bool, false, ◌&&◌, ◌||◌, if◌then◌else◌, Option, Some, None, is_some, option_map, option_and_then, unwrap_or}
use Rattle.serde_json.specs.Data.{Data, null, boolean, number, string, array, object, Items, no_items, item, Members}
use Rattle.serde_json.specs.Find.{get_member, as_u64, as_str, as_array}
use Rattle.zarr_grids_metadata.specs.Members.{has_only}
use Rattle.zarr_grids_metadata.specs.ExtensionPoints.{ExtensionPoint, extension_point, configuration_members}
use Rattle.zarr_grids_chunks.specs.Grids.{Grid}
use Rattle.zarr_grids_dimensions.specs.declared.repeat.RepeatedEdge.{RepeatedEdge}
use Rattle.zarr_grids_configurations.specs.Grids.{Edges, fixed, bounded, exact, covering, single_repeat, are_positive, grid_in}
use Rattle.zarr_grids_configurations.specs.Numbers.{size_in, sizes_of, sizes_in, positive_sizes}

-- the four chunk grids
pub data GridKind : Type 0 where
  regular : GridKind
  regular_bounded : GridKind
  rectangular : GridKind
  rectilinear : GridKind

-- the chunk grid with this name
abbrev pub kind_of : List ℕ → Option GridKind
kind_of name =
    if bytes_eq name (codes "regular") then Some regular
    else (if bytes_eq name (codes "regular_bounded") || bytes_eq name (codes "zarrs.regular_bounded") then Some regular_bounded
    else (if bytes_eq name (codes "rectangular") then Some rectangular
    else (if bytes_eq name (codes "rectilinear") then Some rectilinear else None)))

-- ---- the edges of one dimension

-- a number, or a list of numbers
abbrev pub rectangular_edges : Data → Option Edges
rectangular_edges null = None
rectangular_edges (boolean b) = None
rectangular_edges (number n) = option_map fixed (as_u64 n)
rectangular_edges (string s) = None
rectangular_edges (array ds) = option_map exact (sizes_of ds)
rectangular_edges (object ms) = None

-- the repeat of a pair of an edge and a count
abbrev pub pair_of : Items → Option RepeatedEdge
pair_of no_items = None
pair_of (item d no_items) = None
pair_of (item d (item e no_items)) = option_and_then (λ edge. option_map (λ count. record { edge = edge; count = count }) (size_in e)) (size_in d)
pair_of (item d (item e (item f ds))) = None

-- one edge, or a pair of an edge and a count
abbrev pub repeat_in : Data → Option RepeatedEdge
repeat_in null = None
repeat_in (boolean b) = None
repeat_in (number n) = option_map single_repeat (as_u64 n)
repeat_in (string s) = None
repeat_in (array ds) = pair_of ds
repeat_in (object ms) = None

-- the entries of a list, where each of them is one (`rectilinear`)
abbrev pub repeats_of : Items → Option (List RepeatedEdge)
repeats_of no_items = Some []
repeats_of (item d ds) = option_and_then (λ repeat. option_map (λ repeats. repeat ∷ repeats) (repeats_of ds)) (repeat_in d)

-- a number, or a list of edges and pairs
abbrev pub rectilinear_edges : Data → Option Edges
rectilinear_edges null = None
rectilinear_edges (boolean b) = None
rectilinear_edges (number n) = option_map fixed (as_u64 n)
rectilinear_edges (string s) = None
rectilinear_edges (array ds) = option_map covering (repeats_of ds)
rectilinear_edges (object ms) = None

-- what each item of a list says, where each says something
abbrev pub in_each_item : (Data → Option Edges) → Items → Option (List Edges)
in_each_item read no_items = Some []
in_each_item read (item d ds) = option_and_then (λ given. option_map (λ rest. given ∷ rest) (in_each_item read ds)) (read d)

-- ---- configurations

-- the member `chunk_shape`, which is the only one
abbrev pub only_chunk_shape : Members → Option Data
only_chunk_shape ms = if has_only (codes "chunk_shape" ∷ []) ms then get_member (codes "chunk_shape") ms else None

-- whether the member `kind` is "inline"
abbrev pub is_inline : Option Data → Bool
is_inline kind = unwrap_or (option_map (λ text. bytes_eq text (codes "inline")) (option_and_then as_str kind)) false

-- the member `chunk_shapes`, where the only other member is `kind`, which is "inline"
abbrev pub only_chunk_shapes : Members → Option Data
only_chunk_shapes ms =
    if has_only (codes "kind" ∷ codes "chunk_shapes" ∷ []) ms && is_inline (get_member (codes "kind") ms)
    then get_member (codes "chunk_shapes") ms else None

-- the chunk shape of a grid of one edge in each dimension: positive numbers
abbrev pub chunk_shape_of : Members → Option (List ℕ)
chunk_shape_of ms = option_and_then positive_sizes (option_and_then sizes_in (only_chunk_shape ms))

-- edges that are all positive
abbrev pub positive_edges : List Edges → Option (List Edges)
positive_edges given = if are_positive given then Some given else None

-- the configuration of a chunk grid: the edges given for each dimension, all positive
abbrev pub configuration_of_kind : GridKind → Members → Option (List Edges)
configuration_of_kind regular ms = option_map (map fixed) (chunk_shape_of ms)
configuration_of_kind regular_bounded ms = option_map (map bounded) (chunk_shape_of ms)
configuration_of_kind rectangular ms = option_and_then positive_edges (option_and_then (in_each_item rectangular_edges) (option_and_then as_array (only_chunk_shape ms)))
configuration_of_kind rectilinear ms = option_and_then positive_edges (option_and_then (in_each_item rectilinear_edges) (option_and_then as_array (only_chunk_shapes ms)))

-- whether a configuration says edges for each dimension, positive or not
abbrev pub has_form : GridKind → Members → Bool
has_form regular ms = is_some (option_and_then sizes_in (only_chunk_shape ms))
has_form regular_bounded ms = is_some (option_and_then sizes_in (only_chunk_shape ms))
has_form rectangular ms = is_some (option_and_then (in_each_item rectangular_edges) (option_and_then as_array (only_chunk_shape ms)))
has_form rectilinear ms = is_some (option_and_then (in_each_item rectilinear_edges) (option_and_then as_array (only_chunk_shapes ms)))

-- ---- what a configuration says that may be absent

-- the chunk shape of a grid of one edge in each dimension
abbrev pub chunk_shape_given : Option Members → Option (List ℕ)
chunk_shape_given configuration = chunk_shape_of (configuration_members configuration)

-- the configuration of a chunk grid
abbrev pub configuration_given : GridKind → Option Members → Option (List Edges)
configuration_given kind configuration = configuration_of_kind kind (configuration_members configuration)

-- whether it says edges for each dimension, positive or not
abbrev pub form_given : GridKind → Option Members → Bool
form_given kind configuration = has_form kind (configuration_members configuration)

-- the grid that it makes of an array's shape
abbrev pub grid_given : GridKind → List ℕ → Option Members → Option Grid
grid_given kind shape configuration = option_and_then (grid_in shape) (configuration_given kind configuration)

-- ---- what an extension point says

-- the chunk grid that it names
abbrev pub kind_in : Data → Option GridKind
kind_in d = option_and_then (λ (point : ExtensionPoint). kind_of point.name) (extension_point d)

-- whether an extension point that names a chunk grid says edges for each dimension
abbrev pub form_in : Data → Option Bool
form_in d = option_and_then (λ (point : ExtensionPoint). option_map (λ kind. has_form kind (configuration_members point.configuration)) (kind_of point.name)) (extension_point d)

-- the configuration that an extension point gives for the chunk grid that it names
abbrev pub configuration_of_point : ExtensionPoint → Option (List Edges)
configuration_of_point point = option_and_then (λ kind. configuration_of_kind kind (configuration_members point.configuration)) (kind_of point.name)

-- the edges that a JSON value gives for the chunk grid that it names
abbrev pub configuration_in : Data → Option (List Edges)
configuration_in d = option_and_then configuration_of_point (extension_point d)
