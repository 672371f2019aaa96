use Rattle.std.proofs.Common.{List, ℕ, sym, ◌∙◌, subst}
use Rattle.std.specs.List.{AllByRecursion}
use Rattle.hex.specs.Hex.{IsBytes}
use Rattle.xc_isa.specs.declared.code.Run.{Run}
use Rattle.xc_isa.specs.declared.code.LoopMark.{LoopMark}
use Rattle.xc_isa.specs.declared.instr.Instr.{Instr}
use Rattle.xc_isa_text.specs.Instructions.{IsInstr}
use Rattle.xc_isa_text.specs.Texts.{contents_of, IsRun, IsMark}
use Rattle.xc_isa_text.proofs.Printing.{printed_by, is_code_by, few_feeds}
use Rattle.xc_isa_text.proofs.text.print.Goals as goal

spelled : goal.returns-clause-spells
spelled c = record {
  is_code =
      is_code_by (contents_of c.args.code.now) c.args.code.now.has_text
      (subst (λ (x : List (List Run)). AllByRecursion (AllByRecursion IsRun) x) c.as_slice.ensures c.in_ok-push_globals.ensures.fit)
      (subst (λ (x : List (List ℕ)). AllByRecursion IsBytes x) c.as_slice-2.ensures c.in_ok-push_formats.ensures.fit)
      (subst (λ (x : List LoopMark). AllByRecursion IsMark x) c.as_slice-3.ensures c.in_ok-push_marks.ensures.fit)
      (subst (λ (x : List Instr). AllByRecursion IsInstr x) c.as_slice-4.ensures c.in_ok-push_instrs.ensures.fit);
  is_text =
      printed_by (contents_of c.args.code.now) _ _ _ _ _ _ _ _ _ _ c.as_slice.ensures c.as_slice-2.ensures c.as_slice-3.ensures c.as_slice-4.ensures
      c.in_ok-out.ensures.items c.in_ok-push_globals.ensures.ok c.in_ok-push_formats.ensures.ok c.in_ok-push_marks.ensures.ok c.in_ok-extend_from_slice.ensures.items c.in_ok-push_instrs.ensures.ok;
}

pub returns-clause-spells : goal.returns-clause-spells
returns-clause-spells c = spelled c

pub returns-clause-again : goal.returns-clause-again
returns-clause-again c = λ text h. (spelled c).is_text ∙ sym h.is_text

pub returns-clause-few : goal.returns-clause-few
returns-clause-few c = few_feeds c.push_instrs.new.out.items (contents_of c.args.code.now) (spelled c) c.args.code.now.has_text
