use Rattle.std.proofs.Common.{◌+◌, ◌≤◌, ◌∷◌, ◌++◌, length, sym, ap, ◌∙◌, arith, length-append}
use Rattle.std.proofs.lemmas.List.{append-nil}
use Rattle.xc_raw.specs.declared.rule.Rule.TheVariants as rule
use Rattle.xc_parse_grammar.specs.Grammar.{begin, ◌▹◌, leaves}
use Rattle.xc_parse_grammar.specs.Building.{spell}
use Rattle.xc_parse.specs.Nodes.{inside, nowhere}
use Rattle.xc_parse.proofs.Changes.{kept}
use Rattle.xc_parse.proofs.nodes.Nodes.enlist.Goals as goal

pub returns : goal.returns
returns c = λ end p f d ends b.
    let start = length (spell (f ∷ d)) in
    let t = c.take-declarator.ensures.apart nowhere end p (f ∷ d) b in
    let within : start ≤ end = omega (arith, ends, length-append (spell d ++ leaves f) (leaves p)) in
    let w = c.in_ok-wrap.ensures.wrapped (λ k. inside start k p + nowhere k) end f d t.0.first (omega (arith, t.0.first)) t.1 in
    let n = c.in_ok-begin.ensures.begun (λ k. inside start k p + nowhere k) end ((begin rule.Declaration ▹ f) ∷ d) t.0.first w in
    let o = kept _ _ (λ h. sym c.take-declarator.ensures.still ∙ c.wrap.ensures.still (sym c.begin.ensures.still ∙ h)) t.0 in
    c.in_ok-put_back.ensures.back nowhere end start p (begin rule.Dinit ∷ (begin rule.Declaration ▹ f) ∷ d) (ap length (sym (append-nil (spell d ++ leaves f)))) o n
