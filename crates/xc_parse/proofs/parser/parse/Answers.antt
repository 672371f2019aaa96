use Rattle.std.proofs.Common.{◌≡◌, ℕ, length, sym, ap, ◌∙◌, subst, arith}
use Rattle.std.proofs.lemmas.List.{length-map}
use Rattle.std.specs.Prelude.{List, slice_range}
use Rattle.xc_lex.specs.declared.token.Token.{Token}
use Rattle.xc_raw.specs.Words.{word_of}
use Rattle.xc_parse_grammar.specs.Plan.{act_of, planned}
use Rattle.xc_parse.specs.Texts.{words_of}
use Rattle.xc_parse.specs.InnerTexts.{Pushed}
use Rattle.xc_parse.specs.declared.parser.Turn.TheVariants as turn
use Rattle.xc_parse.proofs.Turns.{Taken, can_change, done, read, wrong_here, start_goes, more_here, done_here}
use Rattle.xc_parse.proofs.parser.parse.Goals as goal
use Rattle.xc_parse.proofs.parser.parse.Goals.{In-Do, In-Shift, In-Wrong}

so_many : (source : List ℕ) (tokens : List Token) → length (words_of source tokens) ≡ length tokens
so_many source tokens = length-map tokens (λ x. word_of x.kind (slice_range source x.text.start x.text.end))

taken_do : (c : In-Do) → Taken (words_of c.args.source.now c.args.tokens.now) c.goals.goals.items c.pop.new.self.items c.make_turn.new.goals.items c.goals.nodes c.in-Some.goal c.goals.at (act_of c.plan.result) (turn.Do c.in-Do.shape)
taken_do c = record {
  was = c.in-Some.ensures.items;
  plan = c.plan.ensures ∙ ap (planned c.in-Some.goal) c.word_at.ensures;
  pushed = subst (λ x. Pushed (act_of c.plan.result) x c.pop.new.self.items c.make_turn.new.goals.items) c.in-Do.is c.in_ok-shape.ensures;
  goes = c.goals.invariant;
}

taken_shift : (c : In-Shift) → Taken (words_of c.args.source.now c.args.tokens.now) c.goals.goals.items c.pop.new.self.items c.make_turn.new.goals.items c.goals.nodes c.in-Some.goal c.goals.at (act_of c.plan.result) turn.Shift
taken_shift c = record {
  was = c.in-Some.ensures.items;
  plan = c.plan.ensures ∙ ap (planned c.in-Some.goal) c.word_at.ensures;
  pushed = subst (λ x. Pushed (act_of c.plan.result) x c.pop.new.self.items c.make_turn.new.goals.items) c.in-Shift.is c.in_ok-shape.ensures;
  goes = c.goals.invariant;
}

pub goals-init : goal.goals-init
goals-init c = start_goes (words_of c.args.source.now c.args.tokens.now) c.new-goals.ensures.items c.in_ok-push.ensures.items c.new-nodes.ensures

pub apply-requires : goal.apply-requires
apply-requires c = can_change (act_of c.plan.result) c.in-Do.shape (taken_do (goal.at.apply-requires c).In-Do)

pub goals-preserved-in-Continue-branch-4 : goal.goals-preserved-in-Continue-branch-4
goals-preserved-in-Continue-branch-4 c =
    (done (act_of c.plan.result) c.in-Do.shape c.apply.new.self (taken_do (goal.at.goals-preserved-in-Continue-branch-4 c).In-Do) c.in_ok-apply-in-Do.ensures).0

pub goals-smaller-in-Continue-branch-4 : goal.goals-smaller-in-Continue-branch-4
goals-smaller-in-Continue-branch-4 c =
    (done (act_of c.plan.result) c.in-Do.shape c.apply.new.self (taken_do (goal.at.goals-smaller-in-Continue-branch-4 c).In-Do) c.in_ok-apply-in-Do.ensures).1

pub goals-preserved : goal.goals-preserved
goals-preserved c = (read (act_of c.plan.result) (taken_shift (goal.at.goals-preserved c).In-Shift)).0

pub goals-smaller : goal.goals-smaller
goals-smaller c = (read (act_of c.plan.result) (taken_shift (goal.at.goals-smaller c).In-Shift)).1

pub returns-in-Wrong-clause-fault : goal.returns-in-Wrong-clause-fault
returns-in-Wrong-clause-fault c =
    let t : Taken (words_of c.args.source.now c.args.tokens.now) c.goals.goals.items c.pop.new.self.items c.make_turn.new.goals.items c.goals.nodes c.in-Some.goal c.goals.at (act_of c.plan.result) turn.Wrong =
    record { was = c.in-Some.ensures.items; plan = c.plan.ensures ∙ ap (planned c.in-Some.goal) c.word_at.ensures; pushed = subst (λ x. Pushed (act_of c.plan.result) x c.pop.new.self.items c.make_turn.new.goals.items) c.in-Wrong.is c.in_ok-shape.ensures; goes = c.goals.invariant } in
    (c.goals.at, wrong_here (act_of c.plan.result) t, c.position_at.ensures)

pub returns-then-at-len-clause-fault : goal.returns-then-at-len-clause-fault
returns-then-at-len-clause-fault c =
    let e = so_many c.args.source.now c.args.tokens.now in
    (c.goals.at, more_here (words_of c.args.source.now c.args.tokens.now) c.goals.goals.items c.goals.nodes c.goals.at (sym c.goals.goals.ok.0 ∙ c.in_default.ensures.cases.0) (omega (arith, e, c.if-at-len.true, c.len.ensures)) c.goals.invariant, c.position_at-then-at-len.ensures)

pub finish-requires-clause-done : goal.finish-requires-clause-done
finish-requires-clause-done c =
    let e = so_many c.args.source.now c.args.tokens.now in
    done_here (words_of c.args.source.now c.args.tokens.now) c.goals.goals.items c.goals.nodes c.goals.at (sym c.goals.goals.ok.0 ∙ c.in_default.ensures.cases.0) (omega (arith, e, c.if-at-len.false, c.len.ensures)) c.goals.invariant
