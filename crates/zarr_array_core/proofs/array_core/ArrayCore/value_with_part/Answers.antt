use Rattle.std.proofs.Common.{◌≡◌, ◌∙◌, ℕ, List, Option, Some, None, Vec, replicate, true, ap, subst, rules}
use Rattle.std.specs.List.{list_all}
use Rattle.std.specs.declared.alloc.Global.{Global}
use Rattle.std.proofs.lemmas.Result.{IfOk-weaker, IfErr-weaker}
use Rattle.zarr_grids_boxes.specs.Boxes.{Region, product}
use Rattle.zarr_grids_boxes.specs.Subsets.{region_of}
use Rattle.zarr_grids_overlay.specs.Overlays.{extent_of}
use Rattle.zarr_codecs_meaning.specs.Fits.{is_lossless}
use Rattle.zarr_codecs_meaning.specs.Standing.{Stands}
use Rattle.zarr_codecs_meaning.specs.Types.{Cell, is_value}
use Rattle.zarr_codecs_meaning.proofs.DecodedElements.{all_filled}
use Rattle.zarr_codecs_traits.specs.Sources.{source_contents}
use Rattle.zarr_array_meaning.specs.ElementBytes.{KeepsBytes}
use Rattle.zarr_array_storage.specs.Stores.{value_bytes}
use Rattle.zarr_array_core.specs.BoxWrites.{write_of}
use Rattle.zarr_array_core.specs.ChunkValues.{EncodeRefuses, PutsCells, PutStops, plain_write}
use Rattle.zarr_array_core.specs.Views.{array_cells, document_of}
use Rattle.zarr_array_core.proofs.InParts.{fill_stops, parts_of_write}
use Rattle.zarr_array_core.proofs.PlainBytes.{IsPartWrite, keeps_bytes, puts_back}
use Rattle.zarr_array_core.proofs.PutParts.{fills_bytes}
use Rattle.zarr_array_core.proofs.array_core.ArrayCore.value_with_part.Goals as goal

pub encode_value-requires-clause-values : goal.encode_value-requires-clause-values
encode_value-requires-clause-values g c κs within =
    let document = document_of g.C.ArrayToBytesCodecTraits.meaning c.args.self.now in
    ap (list_all (is_value document.elements.type)) c.in_ok-fill-in-None.ensures.fill ∙ all_filled (is_value document.elements.type) document.elements.fill c.unwrap-count.result c.args.self.now.elements.fills

pub returns-in-Some-clause-ok : goal.returns-in-Some-clause-ok
returns-in-Some-clause-ok g c =
    let document = document_of g.C.ArrayToBytesCodecTraits.meaning c.args.self.now in
    let write = write_of g.C.ArrayToBytesCodecTraits c.args.self.now c.args.write.now in
    let region : Region = extent_of c.args.write.now.region in
    let box : Region = region_of c.args.own.now in
    let stored = value_bytes c.args.stored in
    let is : IsPartWrite write box = record { chain = (parts_of_write document c.args.write.now.options.now region box c.requires.in_part).0; fit = c.requires.fit; fine = c.args.self.now.elements.fills; values = c.requires.writes.values } in
    let value = c.in-Some.value.items in
    let new : source_contents c.put_into.new.source ≡ Some value = search rules in
    let puts : PutsCells (plain_write write) box stored (Some value) =
    subst (λ (o : Option (List ℕ)). PutsCells (plain_write write) box stored o) new
    (subst (λ (o : Option (List ℕ)). PutsCells (plain_write write) box o (source_contents c.put_into.new.source)) c.source_of-source.ensures.contents c.in_ok-put_into.ensures.ok) in
    puts_back write box is stored (Some value) puts

pub returns-in-Some-clause-bytes : goal.returns-in-Some-clause-bytes
returns-in-Some-clause-bytes g c =
    let document = document_of g.C.ArrayToBytesCodecTraits.meaning c.args.self.now in
    let write = write_of g.C.ArrayToBytesCodecTraits c.args.self.now c.args.write.now in
    let region : Region = extent_of c.args.write.now.region in
    let box : Region = region_of c.args.own.now in
    let stored = value_bytes c.args.stored in
    let is : IsPartWrite write box = record { chain = (parts_of_write document c.args.write.now.options.now region box c.requires.in_part).0; fit = c.requires.fit; fine = c.args.self.now.elements.fills; values = c.requires.writes.values } in
    let value = c.in-Some.value.items in
    let new : source_contents c.put_into.new.source ≡ Some value = search rules in
    let puts : PutsCells (plain_write write) box stored (Some value) =
    subst (λ (o : Option (List ℕ)). PutsCells (plain_write write) box stored o) new
    (subst (λ (o : Option (List ℕ)). PutsCells (plain_write write) box o (source_contents c.put_into.new.source)) c.source_of-source.ensures.contents c.in_ok-put_into.ensures.ok) in
    keeps_bytes write box is stored value c.source_of-source.ensures.bytes puts

pub returns-in_ok-fill-in-None-clause-ok : goal.returns-in_ok-fill-in-None-clause-ok
returns-in_ok-fill-in-None-clause-ok g c =
    let document = document_of g.C.ArrayToBytesCodecTraits.meaning c.args.self.now in
    let write = write_of g.C.ArrayToBytesCodecTraits c.args.self.now c.args.write.now in
    let region : Region = extent_of c.args.write.now.region in
    let box : Region = region_of c.args.own.now in
    let stored = value_bytes c.args.stored in
    let is : IsPartWrite write box = record { chain = (parts_of_write document c.args.write.now.options.now region box c.requires.in_part).0; fit = c.requires.fit; fine = c.args.self.now.elements.fills; values = c.requires.writes.values } in
    let filled = array_cells c.args.self.now c.in_ok-fill-in-None.fill in
    let fill = document.elements.fill in
    let shape = c.shape-in-None.result.now in
    let count : c.unwrap-count.result ≡ product box.shape = search rules in
    let all : filled ≡ replicate (product box.shape) fill = c.in_ok-fill-in-None.ensures.fill ∙ ap (λ n. replicate n fill) count in
    let none : source_contents c.put_into.new.source ≡ None = search rules in
    let puts : PutsCells (plain_write write) box stored None =
    subst (λ (o : Option (List ℕ)). PutsCells (plain_write write) box stored o) none
    (subst (λ (o : Option (List ℕ)). PutsCells (plain_write write) box o (source_contents c.put_into.new.source)) c.source_of-source.ensures.contents c.in_ok-put_into.ensures.ok) in
    IfOk-weaker c.encode_value.result
    (λ (value : Vec ℕ Global). is_lossless document.chain document.elements.type ≡ true → Stands document.chain document.elements shape value.items filled)
    (λ (value : Vec ℕ Global). PutsCells write box stored (Some value.items))
    (λ value stands.
    (fills_bytes write box stored value.items ((g.met.C.ArrayToBytesCodecTraits g.world.𝓛 g.world.𝓜 g.world.𝓡 ((λ s x. x), (λ x. x), (λ x. x), λ x. x)).lawful c.args.self.now.codecs) is
    (λ lossless. subst (λ (s : List ℕ). Stands document.chain document.elements s value.items (replicate (product box.shape) fill)) c.shape-in-None.ensures
    (subst (λ (cells : List Cell). Stands document.chain document.elements shape value.items cells) all (stands lossless)))
    puts).0)
    c.encode_value.ensures.ok

pub returns-in_ok-fill-in-None-clause-bytes : goal.returns-in_ok-fill-in-None-clause-bytes
returns-in_ok-fill-in-None-clause-bytes g c =
    let document = document_of g.C.ArrayToBytesCodecTraits.meaning c.args.self.now in
    let write = write_of g.C.ArrayToBytesCodecTraits c.args.self.now c.args.write.now in
    let region : Region = extent_of c.args.write.now.region in
    let box : Region = region_of c.args.own.now in
    let stored = value_bytes c.args.stored in
    let is : IsPartWrite write box = record { chain = (parts_of_write document c.args.write.now.options.now region box c.requires.in_part).0; fit = c.requires.fit; fine = c.args.self.now.elements.fills; values = c.requires.writes.values } in
    let filled = array_cells c.args.self.now c.in_ok-fill-in-None.fill in
    let fill = document.elements.fill in
    let shape = c.shape-in-None.result.now in
    let count : c.unwrap-count.result ≡ product box.shape = search rules in
    let all : filled ≡ replicate (product box.shape) fill = c.in_ok-fill-in-None.ensures.fill ∙ ap (λ n. replicate n fill) count in
    let none : source_contents c.put_into.new.source ≡ None = search rules in
    let puts : PutsCells (plain_write write) box stored None =
    subst (λ (o : Option (List ℕ)). PutsCells (plain_write write) box stored o) none
    (subst (λ (o : Option (List ℕ)). PutsCells (plain_write write) box o (source_contents c.put_into.new.source)) c.source_of-source.ensures.contents c.in_ok-put_into.ensures.ok) in
    IfOk-weaker c.encode_value.result
    (λ (value : Vec ℕ Global). is_lossless document.chain document.elements.type ≡ true → Stands document.chain document.elements shape value.items filled)
    (λ (value : Vec ℕ Global). KeepsBytes write box stored (Some value.items))
    (λ value stands.
    (fills_bytes write box stored value.items ((g.met.C.ArrayToBytesCodecTraits g.world.𝓛 g.world.𝓜 g.world.𝓡 ((λ s x. x), (λ x. x), (λ x. x), λ x. x)).lawful c.args.self.now.codecs) is
    (λ lossless. subst (λ (s : List ℕ). Stands document.chain document.elements s value.items (replicate (product box.shape) fill)) c.shape-in-None.ensures
    (subst (λ (cells : List Cell). Stands document.chain document.elements shape value.items cells) all (stands lossless)))
    puts).1)
    c.encode_value.ensures.ok

pub returns-in_ok-fill-in-None-clause-err : goal.returns-in_ok-fill-in-None-clause-err
returns-in_ok-fill-in-None-clause-err g c =
    let document = document_of g.C.ArrayToBytesCodecTraits.meaning c.args.self.now in
    let region : Region = extent_of c.args.write.now.region in
    let box : Region = region_of c.args.own.now in
    let filled = array_cells c.args.self.now c.in_ok-fill-in-None.fill in
    IfErr-weaker c.encode_value.result (EncodeRefuses document c.shape-in-None.result.now filled) (PutStops document box (value_bytes c.args.stored))
    (λ e refuses.
    fill_stops document box (value_bytes c.args.stored) filled e (parts_of_write document c.args.write.now.options.now region box c.requires.in_part).0
    (subst (λ (s : List ℕ). EncodeRefuses document s filled e) c.shape-in-None.ensures refuses))
    c.encode_value.ensures.err
