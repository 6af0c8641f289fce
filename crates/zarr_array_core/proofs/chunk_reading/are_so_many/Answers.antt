use Rattle.std.proofs.Common.{◌≡◌, ◌∙◌, List, sym, subst, length, eq-eqb, Some, None, option_map}
use Rattle.std.proofs.lemmas.Bool.{false≢true, eqb-true}
use Rattle.zarr_codecs_meaning.specs.Payloads.{cells_in}
use Rattle.zarr_codecs_meaning.specs.Types.{DataType, Cell}
use Rattle.zarr_codecs_meaning.proofs.Lists.{some_same}
use Rattle.zarr_codecs_arrays.specs.Outcomes.{IsCounted}
use Rattle.zarr_codecs_arrays.specs.Views.{payload_of, elements_of}
use Rattle.zarr_array_elements.specs.Boxes.{cells_of}
use Rattle.zarr_array_core.proofs.Placed.{are_many, not_many}
use Rattle.zarr_array_core.proofs.chunk_reading.are_so_many.Goals as goal

pub returns-in-Some-clause-yes : goal.returns-in-Some-clause-yes
returns-in-Some-clause-yes c = λ yes.
    let type = (elements_of c.args.elements.now).type in
    let payload = payload_of c.args.bytes.now in
    let told = subst (λ (t : DataType). c.num_elements.result ≡ option_map (λ (cells : List Cell). length cells) (cells_in t payload)) c.data_type.ensures c.num_elements.ensures in
    subst (λ n. IsCounted type payload n (cells_of type payload)) (eqb-true c.in-Some.found c.args.count yes) (are_many type payload c.in-Some.found (sym c.in-Some.is ∙ told))

pub returns-in-Some-clause-no : goal.returns-in-Some-clause-no
returns-in-Some-clause-no c = λ no cells are.
    let type = (elements_of c.args.elements.now).type in
    let payload = payload_of c.args.bytes.now in
    let told = subst (λ (t : DataType). c.num_elements.result ≡ option_map (λ (cells : List Cell). length cells) (cells_in t payload)) c.data_type.ensures c.num_elements.ensures in
    false≢true (sym no ∙ eq-eqb c.in-Some.found c.args.count (some_same (sym c.in-Some.is ∙ not_many type payload c.num_elements.result c.args.count cells told are)))

pub returns-in-None-clause-no : goal.returns-in-None-clause-no
returns-in-None-clause-no c = λ no cells are.
    let type = (elements_of c.args.elements.now).type in
    let payload = payload_of c.args.bytes.now in
    let told = subst (λ (t : DataType). c.num_elements.result ≡ option_map (λ (cells : List Cell). length cells) (cells_in t payload)) c.data_type.ensures c.num_elements.ensures in
    let e : None ≡ Some c.args.count = sym c.in-None.is ∙ not_many type payload c.num_elements.result c.args.count cells told are in
    cc
