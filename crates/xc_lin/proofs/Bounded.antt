use Rattle.std.proofs.Common.{◌≡◌, ◌∙◌, ◌<◌, ◌+◌, ℕ, zero, suc, length, take, get_or, ℤ, pos, ◌+ℤ◌, ◌-ℤ◌, ◌≤ℤ◌, Bool, true, false, not, ◌||◌, cond, List, [], ◌∷◌, ◌++◌, map, arith, sym, ap, refl, subst}
use Rattle.std.proofs.lemmas.Int.{ints}
use Rattle.xc_lin.specs.declared.affine.Var.{Var}
use Rattle.xc_lin.specs.declared.affine.Var.TheVariants.{Index}
use Rattle.xc_lin.specs.declared.affine.Term.{Term}
use Rattle.std.proofs.lemmas.List.{take_more}
use Rattle.xc_lin.specs.declared.region.Range.{Range}
use Rattle.xc_lin.specs.declared.region.Region.{Region}
use Rattle.xc_lin.specs.Affine.{Form, sum_of, value_of, same_var, has_var, coefficient_of, IsSingle, raised_by, without, merged}
use Rattle.xc_lin.specs.InnerAffine.{met}
use Rattle.xc_lin.specs.Region.{TakesAt, HasValuesAt, range_of, tie_of, IsMet, IsPoint, HasPoints, Bounds}
use Rattle.xc_lin.specs.InnerRegion.{Spans}
use Rattle.xc_lin.proofs.Merged.{same_var-refl, same_var-true, has_var-append, has_var-raised, has_var-filter, has_var-without, single-filter, single-merged, matched, matched-without}
use Rattle.xc_lin.proofs.Totals.{AllTake, Summed, gap_of, summed-push}

whole : (s t u m w : Bool) → (s || t || u) ≡ true → (s ≡ true → m ≡ true) → (t ≡ true → m ≡ true) → (u ≡ true → (m || w) ≡ true) → (m || w) ≡ true
whole true t u m w h first second third = rw (first refl) refl
whole false true u m w h first second third = rw (second refl) refl
whole false false u m w h first second third = third h

parts-first : (s t u : Bool) → (s || t || u) ≡ false → s ≡ false
parts-first true t u h = cc
parts-first false t u h = refl

parts-second : (s t u : Bool) → (s || t || u) ≡ false → t ≡ false
parts-second true t u h = cc
parts-second false true u h = cc
parts-second false false u h = refl

parts-third : (s t u : Bool) → (s || t || u) ≡ false → u ≡ false
parts-third true t u h = cc
parts-third false true u h = cc
parts-third false false u h = h

never : false ≡ true → ⊥
never e = cc

or-second : (s t u : Bool) → t ≡ true → (s || t || u) ≡ true
or-second true t u e = refl
or-second false t u e = rw e refl

kept-later : (known : List Term) (x : Term) (xs : List Term) (v : Var) → same_var x.var v ≡ false → (has_var known v || has_var (without known xs) v) ≡ true → (has_var known v || has_var (without known (x ∷ xs)) v) ≡ true
kept-later known x xs v other h = elim (has_var known x.var) as (λ s. (has_var known v || has_var (cond (not s) (x ∷ without known xs) (without known xs)) v) ≡ true) [
  | true ↦ h
  | false ↦ rw other h
]

kept-here : (known : List Term) (x : Term) (xs : List Term) (v : Var) → x.var ≡ v → (has_var known v || has_var (without known (x ∷ xs)) v) ≡ true
kept-here known x xs v e = subst (λ w. (has_var known w || has_var (without known (x ∷ xs)) w) ≡ true) e
    (elim (has_var known x.var) as (λ s. (s || has_var (cond (not s) (x ∷ without known xs) (without known xs)) x.var) ≡ true) [
      | true ↦ refl
      | false ↦ rw (same_var-refl x.var) refl
    ])

or-last : (s t : Bool) → t ≡ true → (s || t) ≡ true
or-last true t e = refl
or-last false t e = e

not-same : (xs : List Term) (v w : Var) → has_var xs v ≡ false → has_var xs w ≡ true → same_var v w ≡ false
not-same xs v w absent stands = elim (same_var v w) as (λ s. same_var v w ≡ s → s ≡ false) [
  | true ↦ λ same. let clash : has_var xs w ≡ false = subst (λ u. has_var xs u ≡ false) (same_var-true v w same) absent in cc
  | false ↦ λ other. refl
] refl

single-beside : (known xs ys : List Term) → ((v : Var) → has_var xs v ≡ true → has_var known v ≡ true) → IsSingle xs → IsSingle ys → IsSingle (xs ++ without known ys)
single-beside known [] ys all single-x single-y = single-filter _ ys single-y
single-beside known (x ∷ xs) ys all single-x single-y =
    let rest : (v : Var) → has_var xs v ≡ true → has_var known v ≡ true = λ v stands. all v (grind (arith, stands)) in
    let own : has_var known x.var ≡ true = all x.var (grind (arith, same_var-refl x.var)) in
    (has_var-append xs (without known ys) x.var ∙ grind (arith, has_var-without known ys x.var own, single-x.0), single-beside known xs ys rest single-x.1 single-y)

-- no variable is met twice
pub single-met : (a b : List Term) (own : Var) → IsSingle a → IsSingle b → IsSingle (met a b own)
single-met a b own single-a single-b = single-beside (merged a b) (merged a b) (record { var = own; coeff = pos 1 } ∷ []) (λ v stands. stands) (single-merged a b single-a single-b) (refl, tt)

has_var-kept : (known xs : List Term) (v : Var) → has_var xs v ≡ true → (has_var known v || has_var (without known xs) v) ≡ true
has_var-kept known [] v stands = cc
has_var-kept known (x ∷ xs) v stands = elim (same_var x.var v) as (λ s. same_var x.var v ≡ s → (s || has_var xs v) ≡ true → (has_var known v || has_var (without known (x ∷ xs)) v) ≡ true) [
  | true ↦ λ same h. kept-here known x xs v (same_var-true x.var v same)
  | false ↦ λ other h. kept-later known x xs v other (has_var-kept known xs v h)
] refl stands

-- a variable of one of the forms, and the own one, are met
pub met-all : (a b : List Term) (own v : Var) → (has_var a v || has_var b v || same_var own v) ≡ true → has_var (met a b own) v ≡ true
met-all a b own v h =
    has_var-append (merged a b) (without (merged a b) (record { var = own; coeff = pos 1 } ∷ [])) v ∙
    whole (has_var a v) (has_var b v) (same_var own v) (has_var (merged a b) v) (has_var (without (merged a b) (record { var = own; coeff = pos 1 } ∷ [])) v) h
    (λ first. has_var-append (map (raised_by b) a) (without a b) v ∙ rw (has_var-raised a b v, first) refl)
    (λ second. has_var-append (map (raised_by b) a) (without a b) v ∙ rw (has_var-raised a b v) (has_var-kept a b v second))
    (λ third. has_var-kept (merged a b) (record { var = own; coeff = pos 1 } ∷ []) v (rw third refl))

-- and nothing else is
pub met-only : (a b : List Term) (own v : Var) → has_var (met a b own) v ≡ true → (has_var a v || has_var b v || same_var own v) ≡ true
met-only a b own v h = elim (has_var a v || has_var b v || same_var own v) as (λ s. (has_var a v || has_var b v || same_var own v) ≡ s → s ≡ true) [
  | true ↦ λ e. refl
  | false ↦ λ e.
      let first : has_var a v ≡ false = parts-first (has_var a v) (has_var b v) (same_var own v) e in
      let second : has_var b v ≡ false = parts-second (has_var a v) (has_var b v) (same_var own v) e in
      let third : same_var own v ≡ false = parts-third (has_var a v) (has_var b v) (same_var own v) e in
      let last : has_var (without (merged a b) (record { var = own; coeff = pos 1 } ∷ [])) v ≡ false = has_var-filter (λ term. not (has_var (merged a b) term.var)) (record { var = own; coeff = pos 1 } ∷ []) v (rw third refl) in
      let clash : has_var (met a b own) v ≡ false =
      has_var-append (merged a b) (without (merged a b) (record { var = own; coeff = pos 1 } ∷ [])) v ∙
      rw (has_var-append (map (raised_by b) a) (without a b) v, has_var-raised a b v, first, has_var-filter (λ term. not (has_var a term.var)) b v second, last) refl in
      cc
] refl

without-nil : (known xs : List Term) → ((v : Var) → has_var xs v ≡ true → has_var known v ≡ true) → without known xs ≡ []
without-nil known [] all = refl
without-nil known (x ∷ xs) all =
    let own : has_var known x.var ≡ true = all x.var (rw (same_var-refl x.var) refl) in
    rw own (without-nil known xs (λ v stands. all v (grind (arith, stands))))

-- the terms of a form, by the variables that are met
matched-whole : (terms a : List Term) (at : Var → ℤ) → ((v : Var) → has_var a v ≡ true → has_var terms v ≡ true) → IsSingle terms → IsSingle a → matched terms a at ≡ sum_of a at
matched-whole terms a at all single-terms single-a =
    let e : (matched terms a at +ℤ sum_of (without terms a) at) ≡ sum_of a at = matched-without terms a at single-terms single-a in
    let n : sum_of (without terms a) at ≡ pos 0 = ap (λ w. sum_of w at) (without-nil terms a all) in
    omega (arith, ints, e, n)

point-takes : (a b : Form) (over : Region) (p q : Var → ℤ) (terms : List Term) → ((v : Var) → has_var terms v ≡ true → IsMet a b over v) → IsPoint a b over p q → AllTake over terms p q
point-takes a b over p q [] only point = tt
point-takes a b over p q (t ∷ terms) only point =
    (point t.var (only t.var (rw (same_var-refl t.var) refl)), point-takes a b over p q terms (λ v stands. only v (grind (arith, stands))) point)

takes-at : (over : Region) (p q : Var → ℤ) (terms : List Term) (v : Var) → has_var terms v ≡ true → AllTake over terms p q → TakesAt over v (p v) (q v)
takes-at over p q [] v stands all = absurd (never stands)
takes-at over p q (t ∷ terms) v stands all = elim (same_var t.var v) as (λ s. same_var t.var v ≡ s → (s || has_var terms v) ≡ true → TakesAt over v (p v) (q v)) [
  | true ↦ λ same h. subst (λ w. TakesAt over w (p w) (q w)) (same_var-true t.var v same) all.0
  | false ↦ λ other h. takes-at over p q terms v h all.1
] refl stands

-- the sum over all variables that are met bounds the difference of the forms
pub bounds-summed : (a b : Form) (over : Region) (least most : ℤ) → IsSingle a.terms → IsSingle b.terms → Summed over a.terms b.terms (a.constant -ℤ b.constant) (met a.terms b.terms (Index over.own)) least most → Bounds a b over least most
bounds-summed a b over least most single-a single-b summed =
    let terms : List Term = met a.terms b.terms (Index over.own) in
    let single : IsSingle terms = single-met a.terms b.terms (Index over.own) single-a single-b in
    let first : (v : Var) → has_var a.terms v ≡ true → has_var terms v ≡ true = λ v stands. met-all a.terms b.terms (Index over.own) v (rw stands refl) in
    let second : (v : Var) → has_var b.terms v ≡ true → has_var terms v ≡ true = λ v stands. met-all a.terms b.terms (Index over.own) v (or-second (has_var a.terms v) (has_var b.terms v) (same_var (Index over.own) v) stands) in
    let gap : (p q : Var → ℤ) → ((a.constant -ℤ b.constant) +ℤ gap_of terms a.terms b.terms p q) ≡ (value_of a p -ℤ value_of b q) =
    λ p q. omega (arith, ints, matched-whole terms a.terms p first single single-a, matched-whole terms b.terms q second single single-b) in
    record {
      bounded = λ p q point. subst (λ d. (least ≤ℤ d) × (d ≤ℤ most)) (gap p q) (summed.bounded p q (point-takes a b over p q terms (λ v stands. met-only a.terms b.terms (Index over.own) v stands) point));
      least_reached = (summed.least_reached.0, (summed.least_reached.1.0, ((λ v is_met. takes-at over summed.least_reached.0 summed.least_reached.1.0 terms v (met-all a.terms b.terms (Index over.own) v is_met) summed.least_reached.1.1.0), sym (gap summed.least_reached.0 summed.least_reached.1.0) ∙ summed.least_reached.1.1.1)));
      most_reached = (summed.most_reached.0, (summed.most_reached.1.0, ((λ v is_met. takes-at over summed.most_reached.0 summed.most_reached.1.0 terms v (met-all a.terms b.terms (Index over.own) v is_met) summed.most_reached.1.1.0), sym (gap summed.most_reached.0 summed.most_reached.1.0) ∙ summed.most_reached.1.1.1)));
    }

-- a term's variable stands
pub has_var-get : (xs : List Term) (i : ℕ) (d : Term) → i < length xs → has_var xs (get_or xs i d).var ≡ true
has_var-get [] i d h = absurd (omega (arith, h))
has_var-get (x ∷ xs) zero d h = rw (same_var-refl x.var) refl
has_var-get (x ∷ xs) (suc i) d h = or-last (same_var x.var (get_or xs i d).var) (has_var xs (get_or xs i d).var) (has_var-get xs i d (omega (arith, h)))

-- and in none of the terms before it
pub absent-before : (xs : List Term) (i : ℕ) (d : Term) → i < length xs → IsSingle xs → has_var (take i xs) (get_or xs i d).var ≡ false
absent-before [] i d h single = absurd (omega (arith, h))
absent-before (x ∷ xs) zero d h single = refl
absent-before (x ∷ xs) (suc i) d h single =
    let rest : has_var (take i xs) (get_or xs i d).var ≡ false = absent-before xs i d (omega (arith, h)) single.1 in
    let other : same_var x.var (get_or xs i d).var ≡ false = not-same xs x.var (get_or xs i d).var single.0 (has_var-get xs i d (omega (arith, h))) in
    rw (other, rest) refl

-- one more variable that is met
pub summed-more : (over : Region) (a b : List Term) (k : ℤ) (terms : List Term) (i : ℕ) (d : Term) (least most low high : ℤ) → i < length terms → IsSingle terms →
    Spans (tie_of over (get_or terms i d).var) (range_of over.ranges (get_or terms i d).var) (coefficient_of a (get_or terms i d).var) (coefficient_of b (get_or terms i d).var) low high →
    Summed over a b k (take i terms) least most → Summed over a b k (take (i + 1) terms) (least +ℤ low) (most +ℤ high)
summed-more over a b k terms i d least most low high h single spans summed =
    subst (λ w. Summed over a b k w (least +ℤ low) (most +ℤ high)) (sym (take_more terms i d h))
    (summed-push over a b k (take i terms) (get_or terms i d) least most low high (absent-before terms i d h single) spans summed)

-- each variable that is met has values
pub values-met : (a b : Form) (over : Region) (items : List Term) (i : ℕ) (d : Term) → items ≡ met a.terms b.terms (Index over.own) → i < length items → ((var : Var) → IsMet a b over var → HasValuesAt over var) → HasValuesAt over (get_or items i d).var
values-met a b over items i d e h values =
    values (get_or items i d).var (met-only a.terms b.terms (Index over.own) (get_or items i d).var (subst (λ terms. has_var terms (get_or items i d).var ≡ true) e (has_var-get items i d h)))

-- the variables of some terms have values
abbrev pub AllHave : Region → List Term → Type 0
AllHave over [] = Unit {0}
AllHave over (t ∷ terms) = HasValuesAt over t.var × AllHave over terms

pub have-push : (over : Region) (terms : List Term) (t : Term) → AllHave over terms → HasValuesAt over t.var → AllHave over (terms ++ t ∷ [])
have-push over [] t all last = (last, tt)
have-push over (u ∷ terms) t all last = (all.0, have-push over terms t all.1 last)

have-at : (over : Region) (terms : List Term) (v : Var) → has_var terms v ≡ true → AllHave over terms → HasValuesAt over v
have-at over [] v stands all = absurd (never stands)
have-at over (t ∷ terms) v stands all = elim (same_var t.var v) as (λ s. same_var t.var v ≡ s → (s || has_var terms v) ≡ true → HasValuesAt over v) [
  | true ↦ λ same h. subst (HasValuesAt over) (same_var-true t.var v same) all.0
  | false ↦ λ other h. have-at over terms v h all.1
] refl stands

-- where each variable that is met has values, the region has a point
pub points-met : (a b : Form) (over : Region) (items : List Term) → items ≡ met a.terms b.terms (Index over.own) → AllHave over items → HasPoints a b over
points-met a b over items e all = λ var is_met. have-at over items var (subst (λ terms. has_var terms var ≡ true) (sym e) (met-all a.terms b.terms (Index over.own) var is_met)) all
