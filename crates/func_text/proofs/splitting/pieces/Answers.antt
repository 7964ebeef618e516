use Rattle.std.proofs.Common.{rules}
use Rattle.func_text.proofs.Pieces.{one_more, last_one}
use Rattle.func_text.proofs.splitting.pieces.Goals as goal

-- each occurrence ends a piece
pub loop-piece-preserved : goal.loop-piece-preserved
loop-piece-preserved c = record {
  text = search rules;
  all =
      one_more c.args.separator.now c.loop-piece.rest.now c.in-Some.piece.now c.in-Some.after.now _ _ _ c.requires
      c.in-Some.ensures.cases (cc (c.in_ok-push.ensures.ok, c.in_ok-from_str.ensures)) c.loop-piece.invariant.all;
}

pub returns : goal.returns
returns c =
    last_one c.args.separator.now c.loop-piece.rest.now _ _ _ c.in_default.ensures.cases
    (cc (c.in_ok-push-2.ensures.ok, c.in_ok-from_str-2.ensures)) c.loop-piece.invariant.all
