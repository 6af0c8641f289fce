use Rattle.zarr_codecs_around.proofs.part_writing.encode_numbers.Goals as goal

pub returns-clause-writes : goal.returns-clause-writes
returns-clause-writes g c = λ honest. record {
  parts = c.partial_encode_in_order.ensures.parts honest;
  cause = c.partial_encode_in_order.ensures.cause honest;
  given = c.partial_encode_in_order.ensures.given honest;
}
