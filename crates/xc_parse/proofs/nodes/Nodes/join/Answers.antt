use Rattle.std.proofs.Common.{◌+◌, ◌≤◌, ◌∷◌, ◌++◌, length, refl, sym, ap, ◌∙◌, subst, arith, length-append}
use Rattle.std.specs.Prelude.{All}
use Rattle.xc_parse_depth.specs.Depths.{depth_at}
use Rattle.xc_parse_depth.specs.declared.stretch.Stretch.{Stretch}
use Rattle.xc_parse_grammar.specs.Grammar.{◌▹◌, leaves}
use Rattle.xc_parse_grammar.specs.Building.{spell}
use Rattle.xc_parse.specs.Nodes.{IsOpen, inside}
use Rattle.xc_parse.proofs.Changes.{Joins, joined_open, joined_builds}
use Rattle.xc_parse.proofs.nodes.Nodes.join.Goals as goal

pub returns-clause-joined : goal.returns-clause-joined
returns-clause-joined c = λ aside last f p d ends fits b.
    let t = c.take-part.ensures.apart aside last f (p ∷ d) b in
    let u = c.take-node.ensures.apart (λ k. inside (length (spell (p ∷ d))) k f + aside k) last p d t.1 in
    let behind = length-append (spell d ++ leaves p) (leaves f) in
    let j : Joins aside last c.args.end f p d c.take-part.result c.take-node.result c.in_ok-node.node c.args.self.now.is_whole c.take-node.new.self c.add.new.self =
    record {
      ends = ends;
      inner = t.0;
      outer = subst (λ w. IsOpen w (length (spell d)) p c.take-node.result) c.take-part.ensures.still u.0;
      builds = u.1;
      working = c.add.ensures.same ∙ c.mark.ensures.same;
      depth = λ k. ap (λ ss. depth_at ss k) c.add.ensures.stretches ∙ c.in_ok-mark.ensures.depth k;
      within = subst (λ ss. All (λ (s : Stretch). (s.first ≤ s.end) × (s.end ≤ last)) ss) (sym c.add.ensures.stretches) (c.in_ok-mark.ensures.within last (omega (arith, t.0.first, behind)) fits u.1.within);
      whole = λ h. sym c.take-part.ensures.still ∙ sym c.take-node.ensures.still ∙ sym c.mark.ensures.still ∙ c.add.ensures.still h;
      whole_still = λ h. sym c.mark.ensures.still ∙ c.add.ensures.still h;
      rule = c.in_ok-node.ensures.rule;
      first = c.in_ok-node.ensures.first;
      parts = λ h. (c.in_ok-node.ensures.parts h).1;
    } in
    c.in_ok-put_back.ensures.back aside last (length (spell d)) (p ▹ f) d refl (joined_open j) (joined_builds j)
