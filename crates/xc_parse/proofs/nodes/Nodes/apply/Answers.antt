use Rattle.std.proofs.Common.{◌≡◌, length, Some, sym, ap, ◌∙◌, subst, arith}
use Rattle.std.proofs.lemmas.Option.{same_Some}
use Rattle.xc_parse_grammar.specs.declared.goals.Shape.TheVariants as shape
use Rattle.xc_parse_grammar.specs.Building.{spell, apply}
use Rattle.xc_parse.specs.Nodes.{Builds, nowhere}
use Rattle.xc_parse.proofs.Changes.{enough, one, two}
use Rattle.xc_parse.proofs.nodes.Nodes.apply.Goals as goal

pub returns-in_ok-begin-in-Begin : goal.returns-in_ok-begin-in-Begin
returns-in_ok-begin-in-Begin c = λ d e a ends b.
    let a : apply (shape.Begin c.in-Begin.rule) d ≡ Some e = ap (λ x. apply x d) (sym c.in-Begin.is) ∙ a in
    subst (λ y. Builds nowhere c.args.end y c.begin.new.self) (same_Some _ e a) (c.in_ok-begin-in-Begin.ensures.begun nowhere c.args.end d ends b)

pub returns-in_ok-join-in-Join : goal.returns-in_ok-join-in-Join
returns-in_ok-join-in-Join c = λ d e a ends b.
    let a : apply shape.Join d ≡ Some e = ap (λ x. apply x d) (sym c.in-Join.is) ∙ a in
    let t = two d (enough shape.Join d e a) in
    let r = c.in_ok-join-in-Join.ensures.joined nowhere c.args.end t.top t.next t.rest (ends ∙ ap (λ y. length (spell y)) t.is) (omega arith) (subst (λ y. Builds nowhere c.args.end y c.args.self.now) t.is b) in
    subst (λ y. Builds nowhere c.args.end y c.join.new.self) (same_Some _ e (ap (apply shape.Join) (sym t.is) ∙ a)) r

pub returns-in_ok-wrap-in-Wrap : goal.returns-in_ok-wrap-in-Wrap
returns-in_ok-wrap-in-Wrap c = λ d e a ends b.
    let a : apply (shape.Wrap c.in-Wrap.rule) d ≡ Some e = ap (λ x. apply x d) (sym c.in-Wrap.is) ∙ a in
    let t = one d (enough (shape.Wrap c.in-Wrap.rule) d e a) in
    let r = c.in_ok-wrap-in-Wrap.ensures.wrapped nowhere c.args.end t.top t.rest (ends ∙ ap (λ y. length (spell y)) t.is) (omega arith) (subst (λ y. Builds nowhere c.args.end y c.args.self.now) t.is b) in
    subst (λ y. Builds nowhere c.args.end y c.wrap.new.self) (same_Some _ e (ap (apply (shape.Wrap c.in-Wrap.rule)) (sym t.is) ∙ a)) r

pub returns-in_ok-retitle-in-Cast : goal.returns-in_ok-retitle-in-Cast
returns-in_ok-retitle-in-Cast c = λ d e a ends b.
    let a : apply shape.Cast d ≡ Some e = ap (λ x. apply x d) (sym c.in-Cast.is) ∙ a in
    let t = one d (enough shape.Cast d e a) in
    let r = c.in_ok-retitle-in-Cast.ensures.titled nowhere c.args.end t.top t.rest (subst (λ y. Builds nowhere c.args.end y c.args.self.now) t.is b) in
    subst (λ y. Builds nowhere c.args.end y c.retitle.new.self) (same_Some _ e (ap (apply shape.Cast) (sym t.is) ∙ a)) r

pub returns-in_ok-specify-in-Specify : goal.returns-in_ok-specify-in-Specify
returns-in_ok-specify-in-Specify c = λ d e a ends b.
    let a : apply shape.Specify d ≡ Some e = ap (λ x. apply x d) (sym c.in-Specify.is) ∙ a in
    let t = one d (enough shape.Specify d e a) in
    let r = c.in_ok-specify-in-Specify.ensures c.args.end t.top t.rest (subst (λ y. Builds nowhere c.args.end y c.args.self.now) t.is b) in
    subst (λ y. Builds nowhere c.args.end y c.specify.new.self) (same_Some _ e (ap (apply shape.Specify) (sym t.is) ∙ a)) r

pub returns-in_ok-declare-in-Declare : goal.returns-in_ok-declare-in-Declare
returns-in_ok-declare-in-Declare c = λ d e a ends b.
    let a : apply shape.Declare d ≡ Some e = ap (λ x. apply x d) (sym c.in-Declare.is) ∙ a in
    let t = two d (enough shape.Declare d e a) in
    let r = c.in_ok-declare-in-Declare.ensures t.top t.next t.rest (ends ∙ ap (λ y. length (spell y)) t.is) (subst (λ y. Builds nowhere c.args.end y c.args.self.now) t.is b) in
    subst (λ y. Builds nowhere c.args.end y c.declare.new.self) (same_Some _ e (ap (apply shape.Declare) (sym t.is) ∙ a)) r

pub returns-in_ok-call-in-Call : goal.returns-in_ok-call-in-Call
returns-in_ok-call-in-Call c = λ d e a ends b.
    let a : apply shape.Call d ≡ Some e = ap (λ x. apply x d) (sym c.in-Call.is) ∙ a in
    let t = two d (enough shape.Call d e a) in
    let r = c.in_ok-call-in-Call.ensures t.top t.next t.rest (ends ∙ ap (λ y. length (spell y)) t.is) (subst (λ y. Builds nowhere c.args.end y c.args.self.now) t.is b) in
    subst (λ y. Builds nowhere c.args.end y c.call.new.self) (same_Some _ e (ap (apply shape.Call) (sym t.is) ∙ a)) r

pub returns-in_ok-enlist-in-Enlist : goal.returns-in_ok-enlist-in-Enlist
returns-in_ok-enlist-in-Enlist c = λ d e a ends b.
    let a : apply shape.Enlist d ≡ Some e = ap (λ x. apply x d) (sym c.in-Enlist.is) ∙ a in
    let t = two d (enough shape.Enlist d e a) in
    let r = c.in_ok-enlist-in-Enlist.ensures c.args.end t.top t.next t.rest (ends ∙ ap (λ y. length (spell y)) t.is) (subst (λ y. Builds nowhere c.args.end y c.args.self.now) t.is b) in
    subst (λ y. Builds nowhere c.args.end y c.enlist.new.self) (same_Some _ e (ap (apply shape.Enlist) (sym t.is) ∙ a)) r
