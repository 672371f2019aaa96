use Rattle.std.proofs.Common.{◌≡◌, ◌+◌, ◌-◌, ◌^◌, ◌++◌, ◌∷◌, [], min, ap, ◌∙◌, subst}
use Rattle.std.specs.Prelude.{Some}
use Rattle.std.proofs.lemmas.List.{length-append}
use Rattle.xc_sched.specs.Streams.{streams_of}
use Rattle.xc_machine.specs.declared.stepped.Stepped.TheVariants.{Went}
use Rattle.xc_machine.specs.Limits.{Steps}
use Rattle.xc_machine.specs.Machines.{state_of, code_of, limits_of, steps_of}
use Rattle.xc_machine.specs.Runs.{ready_flags, ready_streams}
use Rattle.xc_machine.proofs.RunLaws.{follows_more, count_more}
use Rattle.xc_machine.proofs.machine.Machine.run.Goals as goal

pub loop-made-preserved : goal.loop-made-preserved
loop-made-preserved g c =
    let m = c.args.self.now in
    let here = c.loop-made.self in
    let asked = c.rest.new.self in
    let new = state_of c.step.new.self in
    let s = c.in-Some-next.s in
    let inv = c.loop-made.invariant in
    let code : code_of asked ≡ code_of m = c.rest.ensures.same.0 ∙ inv.4 in
    let limits : limits_of asked ≡ limits_of m = c.rest.ensures.same.1 ∙ inv.5 in
    let flags : streams_of asked.ready ≡ ready_streams (code_of m) (state_of here) = ap streams_of (c.rest.ensures.flags ∙ ap (λ k. ready_flags k (state_of here)) inv.4) in
    let picked = subst (λ xs. g.C.Chooser.picks c.loop-made.chooser xs (Some s) c.next.new.self) flags (subst (λ o. g.C.Chooser.picks c.loop-made.chooser (streams_of asked.ready) o c.next.new.self) c.in-Some-next.is c.next.ensures) in
    let stepped : Steps (code_of m) (limits_of m) s Went (state_of here) new =
    subst (λ st. Steps (code_of m) (limits_of m) s Went st new) c.rest.ensures.state
    (subst (λ l. Steps (code_of m) l s Went (state_of asked) new) limits
    (subst (λ k. Steps k (limits_of asked) s Went (state_of asked) new) code c.in-Went.ensures.step)) in
    let once : steps_of c.step.new.self ≡ min (steps_of here + 1) (2 ^ 64 - 1) = c.in-Went.ensures.count ∙ ap (λ n. min (n + 1) (2 ^ 64 - 1)) c.rest.ensures.same.2 in (
      inv.0 ++ s ∷ [],
      follows_more g.C.Chooser.picks (code_of m) (limits_of m) c.args.chooser.now (state_of m) inv.0 c.loop-made.chooser (state_of here) s c.next.new.self new inv.1 picked stepped,
      length-append inv.0 (s ∷ []) ∙ ap (λ n. n + 1) inv.2,
      count_more (steps_of m) c.loop-made.made (steps_of here) (steps_of c.step.new.self) inv.3 once,
      c.step.ensures.code ∙ code,
      c.step.ensures.limits ∙ limits,
    )
