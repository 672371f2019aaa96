use Rattle.std.proofs.Common.{ap, ◌∙◌, sym}
use Rattle.std.specs.Prelude.{slice_get}
use Rattle.xc_sched.specs.Streams.{streams_of}
use Rattle.xc_sched.specs.Bits.{flags_of}
use Rattle.xc_sched.proofs.ReadyLemmas.{kept_same}
use Rattle.xc_sched.proofs.ready.Ready.nth.Goals as goal

pub returns : goal.returns
returns c =
    c.nth_one.ensures ∙ ap (λ w. slice_get (streams_of (flags_of w)) c.args.k) c.deref.ensures.value
    ∙ ap (λ s. slice_get s c.args.k) (sym (kept_same _ _ _ c.self.invariant)) ∙ ap (λ f. slice_get (streams_of f) c.args.k) c.self.view_is
