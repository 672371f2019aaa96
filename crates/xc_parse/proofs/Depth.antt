-- A token stands deep exactly where a deep node begins before it.
use Rattle.std.proofs.Common.{◌≡◌, ℕ, ◌+◌, ◌≤◌, ◌<◌, length, Option, Some, None, true, false, inl, inr, refl, sym, subst, arith, length-append}
use Rattle.std.proofs.lemmas.Bool.{cases_lt}
use Rattle.std.proofs.lemmas.Bool.Decides.{nat_tests}
use Rattle.xc_raw.specs.declared.rule.Rule.{Rule}
use Rattle.xc_raw.specs.declared.rule.Rule.TheVariants as rule
use Rattle.xc_parse_grammar.specs.declared.marks.Item.{Item}
use Rattle.xc_parse_grammar.specs.declared.marks.Item.TheVariants as item
use Rattle.xc_parse_grammar.specs.Grammar.{Form, leaf, begin, ◌▹◌, leaves, sort, Begun, Whole, Fits, IsToken, Pattern, rule_of, may_be_over}
use Rattle.xc_parse.specs.Depth.{counts, weight_of, weight, IsDeepAt, IsFirstDeep, IsShallow, depth_limit}
use Rattle.xc_parse.specs.Nodes.{own, inside}

-- every node has a token ---------------------------------------------------------------------------

no_rule_is_over : (r : Rule) → may_be_over (rule_of r) ≡ true → ⊥
no_rule_is_over (rule.Binary l) h = cc h
no_rule_is_over rule.Unit h = cc h
no_rule_is_over rule.Pragma h = cc h
no_rule_is_over rule.Declaration h = cc h
no_rule_is_over rule.Function h = cc h
no_rule_is_over rule.Specs h = cc h
no_rule_is_over rule.Struct h = cc h
no_rule_is_over rule.Member h = cc h
no_rule_is_over rule.Declr h = cc h
no_rule_is_over rule.Callee h = cc h
no_rule_is_over rule.Dinit h = cc h
no_rule_is_over rule.Initialisers h = cc h
no_rule_is_over rule.Params h = cc h
no_rule_is_over rule.Param h = cc h
no_rule_is_over rule.Block h = cc h
no_rule_is_over rule.Sub h = cc h
no_rule_is_over rule.Eval h = cc h
no_rule_is_over rule.If h = cc h
no_rule_is_over rule.While h = cc h
no_rule_is_over rule.Do h = cc h
no_rule_is_over rule.For h = cc h
no_rule_is_over rule.ForDeclaration h = cc h
no_rule_is_over rule.Clause h = cc h
no_rule_is_over rule.Step h = cc h
no_rule_is_over rule.Return h = cc h
no_rule_is_over rule.Break h = cc h
no_rule_is_over rule.Continue h = cc h
no_rule_is_over rule.Future h = cc h
no_rule_is_over rule.Place h = cc h
no_rule_is_over rule.Comma h = cc h
no_rule_is_over rule.Assign h = cc h
no_rule_is_over rule.Cond h = cc h
no_rule_is_over rule.Cast h = cc h
no_rule_is_over rule.Unary h = cc h
no_rule_is_over rule.Postfix h = cc h
no_rule_is_over rule.Prim h = cc h

-- each part has a token, and so have the parts of it
abbrev pub Solid : Form → Type 0
Solid (leaf w) = Unit {0}
Solid (begin r) = Unit {0}
Solid (f ▹ g) = Solid f × Solid g × (0 < length (leaves g))

token_solid : (i : Item) (g : Form) → IsToken i g → Solid g × (0 < length (leaves g))
token_solid i (leaf w) h = (tt, omega arith)
token_solid i (begin r) h = absurd h
token_solid i (f ▹ g) h = absurd h

part_solid : (i : Item) (g : Form) (whole : Type 0) → (whole → Solid g × (0 < length (leaves g))) → Fits i g whole → Solid g × (0 < length (leaves g))
part_solid (item.Part c) g whole ok h = ok h.0
part_solid (item.Word w) g whole ok h = token_solid (item.Word w) g h
part_solid (item.Kind k) g whole ok h = token_solid (item.Kind k) g h

begun_solid : (f : Form) (left : Pattern) → Begun f left → Solid f × (may_be_over left ≡ true → 0 < length (leaves f))
begun_solid (leaf w) left h = absurd h
begun_solid (begin r) left h = (tt, λ over. absurd (no_rule_is_over r (subst (λ p. may_be_over p ≡ true) h over)))
begun_solid (f ▹ g) left h =
    let p = part_solid h.item g (Whole g) (λ w. let s = begun_solid g w.0 w.1 in (s.0, s.1 w.2)) h.fits in
    let s = begun_solid f h.from h.begun in
    ((s.0, p.0, p.1), λ over. omega (arith, p.1, length-append (leaves f) (leaves g)))

pub whole_solid : (f : Form) → Whole f → Solid f × (0 < length (leaves f))
whole_solid f w = let s = begun_solid f w.0 w.1 in (s.0, s.1 w.2)

-- in how many nodes that count a token stands -------------------------------------------------------

weight_one : (o : Option Rule) → weight o ≤ 1
weight_one None = omega arith
weight_one (Some r) = elim (counts r) as (λ b. weight_of b ≤ 1) [ true ↦ omega arith | false ↦ omega arith ]

own_before : (o : Option Rule) (first end k : ℕ) → k < first → own o first end k ≡ 0
own_before o first end k h = grind (arith, nat_tests)

own_behind : (o : Option Rule) (first end k : ℕ) → end ≤ k → own o first end k ≡ 0
own_behind o first end k h = grind (arith, nat_tests)

own_within : (o : Option Rule) (first end k : ℕ) → first ≤ k → k < end → own o first end k ≡ weight o
own_within o first end k h i = grind (arith, nat_tests)

own_most : (o : Option Rule) (first end k : ℕ) → own o first end k ≤ weight o
own_most o first end k = grind (arith, nat_tests)

inside_before : (start k : ℕ) (f : Form) → k < start → inside start k f ≡ 0
inside_before start k (leaf w) h = refl
inside_before start k (begin r) h = refl
inside_before start k (f ▹ g) h =
    let here = start + length (leaves f) in
    let a = inside_before start k f h in
    let b = own_before (sort g) here (here + length (leaves g)) k (omega arith) in
    let c = inside_before here k g (omega arith) in
    omega arith

inside_behind : (start k : ℕ) (f : Form) → start + length (leaves f) ≤ k → inside start k f ≡ 0
inside_behind start k (leaf w) h = refl
inside_behind start k (begin r) h = refl
inside_behind start k (f ▹ g) h =
    let here = start + length (leaves f) in
    let l = length-append (leaves f) (leaves g) in
    let a = inside_behind start k f (omega arith) in
    let b = own_behind (sort g) here (here + length (leaves g)) k (omega arith) in
    let c = inside_behind here k g (omega arith) in
    omega arith

-- where a token stands too deep, a node that is too deep begins at it or before
abbrev DeepBy : (limit outer start k : ℕ) → Form → Type 0
DeepBy limit outer start k f = (j : ℕ) × (j ≤ k) × IsDeepAt limit outer start f j

deep_by : (limit outer start k : ℕ) (f : Form) → outer ≤ limit → start ≤ k → limit < outer + weight (sort f) + inside start k f → DeepBy limit outer start k f
deep_by limit outer start k (leaf w) low from h = absurd (omega arith)
deep_by limit outer start k (begin r) low from h =
    let counted : counts r ≡ true = elim (counts r) as (λ b. limit < outer + weight_of b + 0 → b ≡ true) [ true ↦ λ _. refl | false ↦ λ bad. absurd (omega (arith, bad)) ] h in
    (start, from, (counted, omega (arith, weight_one (Some r)), refl))
deep_by limit outer start k (f ▹ g) low from h =
    let here = start + length (leaves f) in
    let left : DeepBy limit outer start k f → DeepBy limit outer start k (f ▹ g) = λ d. (d.0, d.1, inl d.2) in
    elim (cases_lt k here) [
      | inl before ↦
          let b = own_before (sort g) here (here + length (leaves g)) k before in
          let c = inside_before here k g before in
          left (deep_by limit outer start k f low from (omega arith))
      | inr past ↦ elim (cases_lt limit (outer + weight (sort f))) [
        | inl high ↦ left (deep_by limit outer start k f low from (omega (arith, high)))
        | inr still ↦
            let a = inside_behind start k f past in
            let b = own_most (sort g) here (here + length (leaves g)) k in
            let d = deep_by limit (outer + weight (sort f)) here k g still past (omega arith) in
            (d.0, d.1, inr d.2)
      ]
    ]

-- a node that is too deep begins at a token that stands too deep
record Standing (limit outer start : ℕ) (f : Form) (k : ℕ) : Type 0 where
  from : start ≤ k
  to : (n : ℕ) → length (leaves f) ≤ n → 0 < n → k < start + n
  deep : limit < outer + weight (sort f) + inside start k f

stands : (limit outer start : ℕ) (f : Form) (k : ℕ) → Solid f → IsDeepAt limit outer start f k → Standing limit outer start f k
stands limit outer start (leaf w) k s h = absurd h
stands limit outer start (begin r) k s h = record {
  from = omega (arith, h.2);
  to = λ n long some. omega (arith, h.2);
  deep = subst (λ b. limit < outer + weight_of b + 0) (sym h.0) (omega (arith, h.1));
}
stands limit outer start (f ▹ g) k s (inl h) =
    let x = stands limit outer start f k s.0 h in
    let l = length-append (leaves f) (leaves g) in
    record {
      from = x.from;
      to = λ n long some. x.to n (omega arith) some;
      deep = omega (arith, x.deep);
    }
stands limit outer start (f ▹ g) k s (inr h) =
    let here = start + length (leaves f) in
    let x = stands limit (outer + weight (sort f)) here g k s.1 h in
    let l = length-append (leaves f) (leaves g) in
    let behind = x.to (length (leaves g)) (omega arith) s.2 in
    let o = own_within (sort g) here (here + length (leaves g)) k x.from behind in
    record {
      from = omega (arith, x.from);
      to = λ n long some. omega arith;
      deep = omega (arith, x.deep, o);
    }

pub first_deep : (f : Form) → Solid f → weight (sort f) ≡ 0 → (k : ℕ) → depth_limit < inside 0 k f → ((j : ℕ) → j < k → inside 0 j f ≤ depth_limit) → IsFirstDeep f k
first_deep f s light k high low =
    let latest : (j : ℕ) → IsDeepAt depth_limit 0 0 f j → k ≤ j =
    λ j d. elim (cases_lt j k) [ inl less ↦ absurd (omega (arith, (stands depth_limit 0 0 f j s d).deep, low j less)) | inr more ↦ more ] in
    let x = deep_by depth_limit 0 0 k f (omega arith) (omega arith) (omega arith) in
    let same : x.0 ≡ k = omega (arith, x.1, latest x.0 x.2) in
    (subst (λ j. IsDeepAt depth_limit 0 0 f j) same x.2, latest)

pub shallow : (f : Form) → Solid f → 0 < length (leaves f) → weight (sort f) ≡ 0 → ((k : ℕ) → k < length (leaves f) → inside 0 k f ≤ depth_limit) → IsShallow f
shallow f s some light low k d =
    let x = stands depth_limit 0 0 f k s d in
    omega (arith, x.deep, low k (omega (arith, x.to (length (leaves f)) (omega arith) some)))
