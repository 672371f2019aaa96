use Rattle.std.proofs.Common.{◌≡◌, ◌+◌, ◌≤◌, ◌∷◌, ◌++◌, length, sym, ap, ◌∙◌, arith, length-append}
use Rattle.xc_raw.specs.declared.rule.Rule.TheVariants as rule
use Rattle.xc_parse_grammar.specs.Grammar.{begin, ◌▹◌, leaves}
use Rattle.xc_parse_grammar.specs.Building.{spell, retitle}
use Rattle.xc_parse.specs.Nodes.{inside, nowhere}
use Rattle.xc_parse.proofs.Changes.{kept, retitle_leaves}
use Rattle.xc_parse.proofs.nodes.Nodes.declare.Goals as goal

pub returns : goal.returns
returns c = λ p q d ends b.
    let start = length (spell (q ∷ d)) in
    let t = c.take-declarator.ensures.apart nowhere c.args.end p (q ∷ d) b in
    let specs = retitle rule.Specs q in
    let declr = retitle rule.Declr p in
    let within : start ≤ c.args.end = omega (arith, ends, length-append (spell d ++ leaves q) (leaves p)) in
    let same : start ≡ length (spell (specs ∷ d)) = ap (λ ws. length (spell d ++ ws)) (sym (retitle_leaves rule.Specs q)) in
    let r = c.in_ok-retitle.ensures.titled (λ k. inside start k p + nowhere k) c.args.end q d t.1 in
    let w = c.in_ok-wrap.ensures.wrapped (λ k. inside start k p + nowhere k) c.args.end specs d (t.0.first ∙ same) (omega (arith, t.0.first)) r in
    let o = kept _ _ (λ h. sym c.take-declarator.ensures.still ∙ sym c.retitle.ensures.still ∙ c.wrap.ensures.still h) t.0 in
    let below = (begin rule.Declaration ▹ specs) ∷ d in
    let back = c.in_ok-put_back.ensures.back nowhere c.args.end start p below same o w in
    let u = c.in_ok-retitle-2.ensures.titled nowhere c.args.end p below back in
    c.in_ok-wrap-2.ensures.wrapped nowhere c.args.end declr below
    (ends ∙ ap (λ ws. length (spell d ++ ws ++ leaves p)) (sym (retitle_leaves rule.Specs q)) ∙ ap (λ ws. length (spell d ++ leaves specs ++ ws)) (sym (retitle_leaves rule.Declr p))) (omega arith) u
