use Rattle.std.proofs.Common.{subst, sym}
use Rattle.std.specs.Prelude.{swap, ◌+◌}
use Rattle.xc_commute.specs.Replay.{Keeps}
use Rattle.xc_commute.proofs.Edits.{swapped}
use Rattle.xc_commute.proofs.events.swap.Goals as goal

pub returns-clause-kept : goal.returns-clause-kept
returns-clause-kept c =
    subst (Keeps (λ run. swap run c.args.k (c.args.k + 1)) c.args.events.now) (sym c.swap.ensures.after) (swapped c.args.events.now c.args.k c.requires.within c.requires.free)
