use Rattle.std.proofs.Common.{◌≡◌, ◌+◌, ◌-◌, ℕ, List, length, drop, set, get_or, Bool, true, false, cond, None, Result, Ok, Err, is_ok, refl, sym, ap, subst, ◌∙◌, arith}
use Rattle.std.specs.Prelude.{is_err}
use Rattle.xc_sched.specs.declared.run.Run.{Run}
use Rattle.xc_sched.specs.Runs.{is_other, steps_of}
use Rattle.xc_sched.specs.InnerRuns.{last_of}
use Rattle.xc_sched.specs.Runs.{KeepsRuns}
use Rattle.xc_sched.proofs.LossLemmas.{other_fits, other_kept, other_steps, last_full, last_fits, written_kept, written_steps}
use Rattle.xc_sched.proofs.recorded.Recorded.push.Goals as goal

-- the answer of the test, of the runs that are left
tested : (at s : ℕ) (runs now left : List Run) (b t : Bool) → b ≡ is_other (last_of None left) s → left ≡ drop at now → now ≡ runs → b ≡ t → is_other (last_of None (drop at runs)) s ≡ t
tested at s runs now left b t is rest same e = ap (λ x. is_other (last_of None x) s) (sym (rest ∙ ap (drop at) same)) ∙ sym is ∙ e

pushed : {T E : Type 0} (r : Result T E) (new more old : List Run) → new ≡ cond (is_ok r) more old → is_err r ≡ false → new ≡ more
pushed (Ok v) new more old e h = e
pushed (Err x) new more old e h = absurd cc

refused : {T E : Type 0} (r : Result T E) (new more old : List Run) → new ≡ cond (is_ok r) more old → is_err r ≡ true → new ≡ old
refused (Ok v) new more old e h = absurd cc
refused (Err x) new more old e h = e

pub returns-then-len-ge-RUNS : goal.returns-then-len-ge-RUNS
returns-then-len-ge-RUNS c =
    let other = tested _ _ _ _ _ _ _ c.is_other.ensures c.rest.ensures c.deref.ensures.value c.if-is_other.true in
    (other_fits c.self.inside.at c.args.stream c.self.inside.runs.items c.args.self.now c.self.invariant c.self.view_is (omega arith) other, refl)

pub returns-then-is_err : goal.returns-then-is_err
returns-then-is_err c =
    let other = tested _ _ _ _ _ _ _ c.is_other.ensures c.rest.ensures c.deref.ensures.value c.if-is_other.true in
    let same = refused _ _ _ _ c.push-pushed.ensures.items (sym c.is_err.ensures.value ∙ c.if-is_err.true) in
    (other_fits c.self.inside.at c.args.stream c.self.inside.runs.items c.args.self.now c.self.invariant c.self.view_is (omega arith) other, ap (λ w. steps_of (drop c.self.inside.at w)) same ∙ c.self.view_is)

pub invariant_of-self-then-is_other : goal.invariant_of-self-then-is_other
invariant_of-self-then-is_other c =
    let other = tested _ _ _ _ _ _ _ c.is_other.ensures c.rest.ensures c.deref.ensures.value c.if-is_other.true in
    let more = pushed _ _ _ _ c.push-pushed.ensures.items (sym c.is_err.ensures.value ∙ c.if-is_err.false) in
    subst (KeepsRuns c.self.inside.at) (sym more) (other_kept c.self.inside.at c.args.stream c.self.inside.runs.items c.args.self.now c.self.invariant c.self.view_is (omega arith) other (omega (arith, c.len.ensures)))

pub returns-then-is_other : goal.returns-then-is_other
returns-then-is_other c =
    let other = tested _ _ _ _ _ _ _ c.is_other.ensures c.rest.ensures c.deref.ensures.value c.if-is_other.true in
    let more = pushed _ _ _ _ c.push-pushed.ensures.items (sym c.is_err.ensures.value ∙ c.if-is_err.false) in
    (other_fits c.self.inside.at c.args.stream c.self.inside.runs.items c.args.self.now c.self.invariant c.self.view_is (omega arith) other, ap (λ w. steps_of (drop c.self.inside.at w)) more ∙ other_steps c.self.inside.at c.args.stream c.self.inside.runs.items c.args.self.now c.self.invariant c.self.view_is (omega arith))

pub returns-then-run-ge-STEPS : goal.returns-then-run-ge-STEPS
returns-then-run-ge-STEPS c =
    let same = tested _ _ _ _ _ _ _ c.is_other.ensures c.rest.ensures c.deref.ensures.value c.if-is_other.false in
    let len : c.len-last.result ≡ length c.self.inside.runs.items = omega (arith, c.len-last.ensures) in
    (last_full c.self.inside.at c.args.stream c.self.inside.runs.items c.args.self.now c.self.invariant c.self.view_is (omega arith) c.index-run.result.now same (c.index-run.ensures ∙ ap (λ n. get_or c.self.inside.runs.items (n - 1) c.index-run.result.now) len) (omega arith), refl)

pub invariant_of-self-2 : goal.invariant_of-self-2
invariant_of-self-2 c =
    let same = tested _ _ _ _ _ _ _ c.is_other.ensures c.rest.ensures c.deref.ensures.value c.if-is_other.false in
    let len : c.len-last.result ≡ length c.self.inside.runs.items = omega (arith, c.len-last.ensures) in
    let kept = written_kept c.self.inside.at c.args.stream c.self.inside.runs.items c.args.self.now c.self.invariant c.self.view_is (omega arith) c.index-run.result.now same (c.index-run.ensures ∙ ap (λ n. get_or c.self.inside.runs.items (n - 1) c.index-run.result.now) len) (omega arith) in
    subst (λ n. KeepsRuns c.self.inside.at (set c.self.inside.runs.items (n - 1) (record { stream = c.args.stream; count = c.index-run.result.now.count + 1 }))) (sym len) kept

pub returns : goal.returns
returns c =
    let same = tested _ _ _ _ _ _ _ c.is_other.ensures c.rest.ensures c.deref.ensures.value c.if-is_other.false in
    let len : c.len-last.result ≡ length c.self.inside.runs.items = omega (arith, c.len-last.ensures) in
    let steps = written_steps c.self.inside.at c.args.stream c.self.inside.runs.items c.args.self.now c.self.invariant c.self.view_is (omega arith) c.index-run.result.now same (c.index-run.ensures ∙ ap (λ n. get_or c.self.inside.runs.items (n - 1) c.index-run.result.now) len) in (
      last_fits c.self.inside.at c.args.stream c.self.inside.runs.items c.args.self.now c.self.invariant c.self.view_is (omega arith) c.index-run.result.now same (c.index-run.ensures ∙ ap (λ n. get_or c.self.inside.runs.items (n - 1) c.index-run.result.now) len) (omega arith),
      ap (λ n. steps_of (drop c.self.inside.at (set c.self.inside.runs.items (n - 1) (record { stream = c.args.stream; count = c.index-run.result.now.count + 1 })))) len ∙ steps,
    )
