use Rattle.std.proofs.Common.{sym, ◌∙◌, ap}
use Rattle.std.specs.Prelude.{is_some}
use Rattle.xc_word.specs.Table.{answer_of, left_by, outcome}
use Rattle.xc_word.specs.Total.{total}
use Rattle.xc_word.proofs.Seen.{seen, left_now, outcome_now, outcome_none}
use Rattle.xc_word.proofs.Totals.{total_left}
use Rattle.xc_word.proofs.Unchanged.{same_at_bad, same_at_blocked}
use Rattle.xc_word.proofs.memory.Memory.apply.Goals.{in-Some, in-None}
use Rattle.xc_word.proofs.memory.Memory.apply.Goals as goal

pub returns-clause-answer : goal.returns-clause-answer
returns-clause-answer c = elim c.match-get_mut.branch [
  | in-Some w ↦
      let found = sym w.in-Some.ensures.value in
      w.result-is ∙ w.apply_in.ensures.answer
      ∙ ap answer_of (sym (outcome_now c.self.inside.segments c.args.self.now c.self.view_is (c.get_mut.follows.lender w.apply_in.new.cells) c.args.act.now w.in-Some.cells.now w.apply_in.new.cells found w.apply_in.ensures.left ((c.get_mut.follows.holds w.apply_in.new.cells).3 (ap is_some found)).0))
  | in-None w ↦ w.result-is ∙ ap answer_of (sym (outcome_none c.self.inside.segments c.args.self.now c.self.view_is c.args.act.now (sym w.in-None.ensures.value)))
]

pub returns-clause-left : goal.returns-clause-left
returns-clause-left c = elim c.match-get_mut.branch [
  | in-Some w ↦
      let found = sym w.in-Some.ensures.value in
      ap (λ x. seen x.segments) w.self-inside-is
      ∙ left_now c.self.inside.segments c.args.self.now c.self.view_is (c.get_mut.follows.lender w.apply_in.new.cells) c.args.act.now w.in-Some.cells.now w.apply_in.new.cells found w.apply_in.ensures.left ((c.get_mut.follows.holds w.apply_in.new.cells).3 (ap is_some found)).0
  | in-None w ↦
      ap (λ x. seen x.segments) w.self-inside-is ∙ ap seen c.get_mut.follows.holds-at-none ∙ c.self.view_is
      ∙ sym (ap (left_by c.args.self.now c.args.act.now.place) (outcome_none c.self.inside.segments c.args.self.now c.self.view_is c.args.act.now (sym w.in-None.ensures.value)))
]

pub returns-clause-words : goal.returns-clause-words
returns-clause-words c = ap total (returns-clause-left c) ∙ total_left c.args.self.now c.args.act.now.place (outcome c.args.self.now c.args.act.now)

pub returns-clause-bad : goal.returns-clause-bad
returns-clause-bad c = λ e. returns-clause-left c ∙ same_at_bad c.args.self.now c.args.act.now.place (outcome c.args.self.now c.args.act.now) (sym (returns-clause-answer c) ∙ e)

pub returns-clause-blocked : goal.returns-clause-blocked
returns-clause-blocked c = λ e. returns-clause-left c ∙ same_at_blocked c.args.self.now c.args.act.now.place (outcome c.args.self.now c.args.act.now) (sym (returns-clause-answer c) ∙ e)
