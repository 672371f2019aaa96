use Rattle.std.proofs.Common.{length, sym, ap, ◌∙◌}
use Rattle.xc_sched.specs.Streams.{streams_of}
use Rattle.xc_sched.proofs.ReadyLemmas.{kept_count}
use Rattle.xc_sched.proofs.ready.Ready.count.Goals as goal

pub returns : goal.returns
returns c = sym (ap (λ x. length (streams_of x)) (sym c.self.view_is) ∙ kept_count _ _ _ c.self.invariant)
