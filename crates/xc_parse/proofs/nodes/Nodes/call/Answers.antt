use Rattle.std.proofs.Common.{◌+◌, ◌≤◌, ◌∷◌, ◌++◌, length, refl, sym, ap, ◌∙◌, arith, length-append}
use Rattle.xc_raw.specs.declared.rule.Rule.TheVariants as rule
use Rattle.xc_parse_grammar.specs.Grammar.{begin, ◌▹◌, leaves}
use Rattle.xc_parse_grammar.specs.Building.{spell, retitle}
use Rattle.xc_parse.specs.Nodes.{inside, nowhere}
use Rattle.xc_parse.proofs.Changes.{kept, retitle_leaves}
use Rattle.xc_parse.proofs.nodes.Nodes.call.Goals as goal

pub returns : goal.returns
returns c = λ p f d ends b.
    let start = length (spell (f ∷ d)) in
    let t = c.take-callee.ensures.apart nowhere c.args.end p (f ∷ d) b in
    let within : start ≤ c.args.end = omega (arith, ends, length-append (spell d ++ leaves f) (leaves p)) in
    let w = c.in_ok-wrap.ensures.wrapped (λ k. inside start k p + nowhere k) c.args.end f d t.0.first (omega (arith, t.0.first)) t.1 in
    let o = kept _ _ (λ h. sym c.take-callee.ensures.still ∙ c.wrap.ensures.still h) t.0 in
    let back = c.in_ok-put_back.ensures.back nowhere c.args.end start p ((begin rule.Function ▹ f) ∷ d) refl o w in
    let u = c.in_ok-retitle.ensures.titled nowhere c.args.end p ((begin rule.Function ▹ f) ∷ d) back in
    c.in_ok-join.ensures.joined nowhere c.args.end (retitle rule.Callee p) (begin rule.Function ▹ f) d (ends ∙ ap (λ ws. length (spell d ++ leaves f ++ ws)) (sym (retitle_leaves rule.Callee p))) (omega arith) u
