use Rattle.std.proofs.Common.{sym, ap, ◌∙◌, inl, inr, Ok, Err, Some}
use Rattle.xc_sched.proofs.Laws.{schedule_found, schedule_only, schedule_bad, read_as_steps, few_runs, line_err, only_err, same_runs}
use Rattle.xc_sched.specs.Runs.{steps_of}
use Rattle.xc_sched.proofs.text.read_schedule.Goals as goal

pub finished-requires-clause-few : goal.finished-requires-clause-few
finished-requires-clause-few c =
    few_runs c.args.text.now c.read_lines.new.reader.0 c.read_lines.new.reader.1 c.requires (schedule_found c.args.text.now c.read_lines.new.reader (rw c.new.ensures.items at c.in-Ok.ensures))

pub finished-requires-clause-fit : goal.finished-requires-clause-fit
finished-requires-clause-fit c = (schedule_found c.args.text.now c.read_lines.new.reader (rw c.new.ensures.items at c.in-Ok.ensures)).fit

pub returns-in-Ok-clause-found : goal.returns-in-Ok-clause-found
returns-in-Ok-clause-found c =
    read_as_steps c.args.text.now c.read_lines.new.reader.0 c.read_lines.new.reader.1 _ (schedule_found c.args.text.now c.read_lines.new.reader (rw c.new.ensures.items at c.in-Ok.ensures)) c.finished.ensures

pub returns-in-Ok-clause-only : goal.returns-in-Ok-clause-only
returns-in-Ok-clause-only c = λ s h.
    let only = schedule_only c.args.text.now s h in
    let read = rw c.new.ensures.items at c.in-Ok.ensures in
    inl (ap Ok (c.finished.ensures ∙ ap steps_of (same_runs _ _ (sym read ∙ only)) ∙ sym h.1.are))

pub returns-in-Err-clause-only : goal.returns-in-Err-clause-only
returns-in-Err-clause-only c = λ s h.
    let only = schedule_only c.args.text.now s h in
    inr (ap Err (c.why.ensures ∙ only_err c.in-Err.fault c.read_lines.new.reader (Some h.0, h.1.runs) _ (rw c.new.ensures.items at c.in-Err.ensures) only))

pub returns-in-Err-clause-line : goal.returns-in-Err-clause-line
returns-in-Err-clause-line c = λ k e. schedule_bad c.args.text.now k (line_err c.in-Err.fault c.read_lines.new.reader _ k (rw c.new.ensures.items at c.in-Err.ensures) (cc))
