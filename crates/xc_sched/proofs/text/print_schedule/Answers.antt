use Rattle.std.proofs.Common.{◌≡◌, drop, None, Result, Ok, Err, sym, ap, subst, ◌∙◌, arith}
use Rattle.std.specs.Prelude.{IfOk}
use Rattle.std.proofs.lemmas.List.{length-drop}
use Rattle.xc_text_lines.specs.Lines.{HasFewLines}
use Rattle.xc_sched.specs.declared.form.Form.TheVariants.{Slots}
use Rattle.xc_sched.specs.Runs.{text_of}
use Rattle.xc_sched.proofs.RunLemmas.{unique}
use Rattle.xc_sched.proofs.Laws.{few_lines}
use Rattle.xc_sched.proofs.text.print_schedule.Goals as goal

if_ok : {T E : Type 0} (r : Result T E) (P Q : T → Type 0) → IfOk r P → ((v : T) → P v → Q v) → IfOk r Q
if_ok (Ok v) P Q h f = f v h
if_ok (Err e) P Q h f = tt

pub returns-clause-again : goal.returns-clause-again
returns-clause-again c = λ text h.
    let printed : IfOk c.print_runs.result (λ v. v.items ≡ text_of Slots c.rest.result.now) = c.print_runs.ensures in
    let same = unique None None (drop c.s.inside.at c.s.inside.runs.items) h.runs c.s.invariant.fit h.fit (c.s.view_is ∙ h.are) in
    if_ok c.print_runs.result _ _ printed (λ v e. e ∙ ap (text_of Slots) (c.rest.ensures ∙ ap (drop c.s.inside.at) c.deref.ensures.value) ∙ ap (text_of Slots) same ∙ sym h.is_text)

pub returns-clause-few : goal.returns-clause-few
returns-clause-few c =
    let printed : IfOk c.print_runs.result (λ v. v.items ≡ text_of Slots c.rest.result.now) = c.print_runs.ensures in
    let few = few_lines (drop c.s.inside.at c.s.inside.runs.items) (omega (arith, c.s.invariant.few, length-drop c.s.inside.at c.s.inside.runs.items)) c.s.invariant.fit in
    if_ok c.print_runs.result _ _ printed (λ v e. subst HasFewLines (sym (e ∙ ap (text_of Slots) (c.rest.ensures ∙ ap (drop c.s.inside.at) c.deref.ensures.value))) few)
