use Rattle.std.proofs.Common.{◌≡◌, ℕ, [], length, sym, ap, ◌∙◌, subst, arith}
use Rattle.std.proofs.lemmas.List.{length-map}
use Rattle.std.specs.Prelude.{slice_range}
use Rattle.xc_parse_depth.specs.Depths.{IsFirstDeeper, depth_at}
use Rattle.xc_raw.specs.Words.{word_of}
use Rattle.xc_parse_grammar.specs.Grammar.{leaves}
use Rattle.xc_parse.specs.Depth.{weight, depth_limit}
use Rattle.xc_parse.specs.Nodes.{inside}
use Rattle.xc_parse.proofs.Depth.{whole_solid, first_deep, shallow}
use Rattle.xc_parse.proofs.Changes.{last_open, made_of, one_depth}
use Rattle.xc_parse.proofs.parser.finish.Goals as goal

pub returns-in-Some-clause-fault : goal.returns-in-Some-clause-fault
returns-in-Some-clause-fault c =
    let t = c.requires.done in
    let s = whole_solid t.tree t.is_tree.derives.whole in
    let deep = subst (λ o. IsFirstDeeper c.as_slice.result.now c.len-count.result depth_limit o) c.in-Some.is c.in_ok-at.ensures in
    let same : (k : ℕ) → depth_at c.as_slice.result.now k ≡ inside 0 k t.tree = λ k. ap (λ ss. depth_at ss k) c.as_slice.ensures.value ∙ one_depth t.builds k in
    let f = first_deep t.tree s.0 (ap weight t.is_tree.derives.unit) c.in-Some.at (omega (arith, deep.1, same c.in-Some.at)) (λ j h. omega (arith, deep.2 j h, same j)) in
    (c.in-Some.at, record { tree = t.tree; is_tree = t.is_tree; first = f }, c.position_at.ensures)

pub returns-in-Some-pop-clause-found : goal.returns-in-Some-pop-clause-found
returns-in-Some-pop-clause-found c =
    let t = c.requires.done in
    let s = whole_solid t.tree t.is_tree.derives.whole in
    let same : (k : ℕ) → depth_at c.as_slice.result.now k ≡ inside 0 k t.tree = λ k. ap (λ ss. depth_at ss k) c.as_slice.ensures.value ∙ one_depth t.builds k in
    let many : length (leaves t.tree) ≡ c.len-count.result = ap length t.is_tree.derives.spelled ∙ length-map c.args.tokens.now (λ x. word_of x.kind (slice_range c.args.source.now x.text.start x.text.end)) ∙ sym c.len-count.ensures in
    let o = last_open c.args.nodes.is_whole t.tree [] c.args.nodes.working.items _ c.in-Some-pop.root c.in-Some-pop.ensures.items t.builds.working in
    let low = subst (λ o. IsFirstDeeper c.as_slice.result.now c.len-count.result depth_limit o) c.in_default.is c.in_ok-at.ensures in
    record {
      tree = t.tree;
      is_tree = t.is_tree;
      shallow = shallow t.tree s.0 s.1 (ap weight t.is_tree.derives.unit) (λ k h. omega (arith, low k (omega (arith, many)), same k));
      made = c.closed.ensures ∙ made_of c.args.nodes.is_whole c.in-Some-pop.root c.len-count.result o c.if-is_whole.true (sym many);
    }
