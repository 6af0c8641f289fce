use Rattle.zarr_run_session.proofs.session.Session.answer.Goals as goal

pub returns-in-Create : goal.returns-in-Create
returns-in-Create g c = rw c.in-Create.is (rw c.as_str.ensures.value at c.create.ensures)

pub returns-in-Reopen : goal.returns-in-Reopen
returns-in-Reopen g c = rw c.in-Reopen.is (rw c.as_str-in-Reopen.ensures.value at c.reopen.ensures)

pub returns-in-WriteBox : goal.returns-in-WriteBox
returns-in-WriteBox g c = rw c.in-WriteBox.is (rw c.as_str-in-WriteBox.ensures.value at c.write_box.ensures)

pub returns-in-WriteChunk : goal.returns-in-WriteChunk
returns-in-WriteChunk g c = rw c.in-WriteChunk.is (rw (c.as_str-in-WriteChunk.ensures.value, c.as_slice.ensures.value) at c.write_chunk.ensures)

pub returns-in-ReadBox : goal.returns-in-ReadBox
returns-in-ReadBox g c = rw c.in-ReadBox.is (rw c.as_str-in-ReadBox.ensures.value at c.read_box.ensures)

pub returns-in-ReadChunk : goal.returns-in-ReadChunk
returns-in-ReadChunk g c = rw c.in-ReadChunk.is (rw (c.as_str-in-ReadChunk.ensures.value, c.as_slice-in-ReadChunk.ensures.value) at c.read_chunk.ensures)

pub returns-in-EraseChunks : goal.returns-in-EraseChunks
returns-in-EraseChunks g c = rw c.in-EraseChunks.is (rw c.as_str-in-EraseChunks.ensures.value at c.erase_chunks.ensures)

pub returns-in-Compact : goal.returns-in-Compact
returns-in-Compact g c = rw c.in-Compact.is (rw (c.as_str-in-Compact.ensures.value, c.as_slice-in-Compact.ensures.value) at c.compact.ensures)

pub returns-in-Rewrite : goal.returns-in-Rewrite
returns-in-Rewrite g c = rw c.in-Rewrite.is (rw c.as_str-in-Rewrite.ensures.value at c.rewrite.ensures)
