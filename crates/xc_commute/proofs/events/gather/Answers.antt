use Rattle.std.proofs.Common.{subst, sym}
use Rattle.xc_commute_histories.specs.History.{gathered}
use Rattle.xc_commute.specs.Replay.{Keeps, thread_of}
use Rattle.xc_commute.proofs.Edits.{gathered_keeps}
use Rattle.xc_commute.proofs.events.gather.Goals as goal

pub returns-clause-kept : goal.returns-clause-kept
returns-clause-kept c =
    subst (Keeps (gathered (λ x. thread_of x.0) c.args.owner) c.args.events.now) (sym c.part.ensures.order) (gathered_keeps c.args.owner c.args.events.now c.requires)
