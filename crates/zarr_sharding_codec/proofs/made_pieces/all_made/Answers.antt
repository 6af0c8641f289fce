use Rattle.std.proofs.Common.{◌∙◌, length, map-id, inr, sym, rules}
use Rattle.std.proofs.lemmas.Iterator.Adapters.{YieldsList-from_vec}
use Rattle.std.proofs.lemmas.Iterator.Consumers.{YieldsList-end, YieldsList-turn}
use Rattle.zarr_sharding_codec.proofs.MadePieces.{made_lost, made_more}
use Rattle.zarr_sharding_codec.proofs.made_pieces.all_made.Goals as goal

pub loop-piece-preserved : goal.loop-piece-preserved
loop-piece-preserved g c = made_more c.loop-piece.found.items _ c.loop-piece.yielded c.in-Some.piece c.in-Ok.value c.loop-piece.invariant c.in-Ok.is c.in_ok-push-in-Ok.ensures.items

pub returns-in-Err-clause-err : goal.returns-in-Err-clause-err
returns-in-Err-clause-err g c =
    let turn = YieldsList-turn (YieldsList-from_vec {s = c.into_iter-piece-iterator.result} c.args.made.items (search rules) (search rules))
    c.loop-piece.yielded c.loop-piece.piece-iterator c.loop-piece.yielded_by c.next.result c.next.new.self c.in-Some.piece c.in-Some.is c.next.ensures.steps in
    inr (made_lost c.args.made.items (length c.loop-piece.yielded) c.in-Some.piece c.in-Err.error turn.0 turn.1 c.in-Err.is)

pub returns-clause-ok : goal.returns-clause-ok
returns-clause-ok g c =
    let end = YieldsList-end (YieldsList-from_vec {s = c.into_iter-piece-iterator.result} c.args.made.items (search rules) (search rules))
    c.loop-piece.yielded c.loop-piece.piece-iterator c.loop-piece.yielded_by c.next.result c.next.new.self c.in-None.is c.next.ensures.steps in
    c.loop-piece.invariant ∙ (sym (map-id c.loop-piece.yielded) ∙ end.0)
