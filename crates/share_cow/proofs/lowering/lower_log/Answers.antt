use Rattle.share_cow.proofs.Lowered.{lower_agrees, lower_counts, lower_thins}
use Rattle.share_cow.proofs.lowering.lower_log.Goals as goal

pub returns-clause-steps : goal.returns-clause-steps
returns-clause-steps c = rw c.lower.ensures.slot (record {
  counts = lower_counts c.args.logs.now c.args.place c.requires.live;
  fewer = tt;
  agree = (lower_agrees _ c.args.logs.now c.args.place c.requires.live, tt);
  counted = tt;
})

pub returns-clause-logs : goal.returns-clause-logs
returns-clause-logs c = rw c.lower.ensures.slot (lower_thins c.args.logs.now c.args.place c.requires.live c.requires.kept)
