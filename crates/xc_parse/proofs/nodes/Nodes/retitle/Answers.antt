use Rattle.std.proofs.Common.{length, refl, sym, ◌∙◌}
use Rattle.xc_parse_grammar.specs.Building.{spell, retitle}
use Rattle.xc_parse.proofs.Changes.{kept, retitled, retitled_aside}
use Rattle.xc_parse.proofs.nodes.Nodes.retitle.Goals as goal

pub returns-clause-titled : goal.returns-clause-titled
returns-clause-titled c = λ aside end f d b.
    let t = c.take-first.ensures.apart aside end f d b in
    let o = retitled c.take-first.result (record { rule = c.args.rule; first = c.take-first.result.first; height = c.take-first.result.height; parts = c.take-first.result.parts }) t.0 refl refl in
    let still = sym c.take-first.ensures.still in
    c.in_ok-put_back.ensures.back aside end (length (spell d)) (retitle c.args.rule f) d refl (kept _ _ (λ h. still ∙ h) o) (retitled_aside aside (length (spell d)) c.args.rule f t.1)
