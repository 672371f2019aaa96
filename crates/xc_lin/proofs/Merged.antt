use Rattle.std.proofs.Common.{◌≡◌, ◌<◌, ◌+◌, ◌∙◌, ℕ, ℤ, pos, negsuc, neg_ℤ, zero, suc, ◌-ℤ◌, All, ◌+ℤ◌, ◌*ℤ◌, Bool, true, false, not, ◌||◌, cond, List, [], ◌∷◌, ◌++◌, length, map, take, drop, ap, sym, refl, arith, length-append, get_or, filter, unsigned_abs, ◌==◌, subst, Result, Ok, Err, IsOk, IfOk, ◌↔◌}
use Rattle.std.proofs.Math.IntN.{zero-*ℤ, *ℤ-negsuc, *ℤ-one, one}
use Rattle.std.proofs.lemmas.Bool.{eqb-true}
use Rattle.std.proofs.lemmas.List.{take-append-drop, take_more, length-map}
use Rattle.std.proofs.Math.ListN.{get_or-append}
use Rattle.std.proofs.lemmas.Int.{ints, unsigned_abs-mul}
use Rattle.std.proofs.lemmas.List.Elements.{filter-append}
use Rattle.xc_lin.proofs.Outcomes.{times-plus, times-swap}
use Rattle.xc_lin.specs.declared.affine.Var.{Var}
use Rattle.xc_lin.specs.declared.affine.Var.TheVariants.{Index, Symbol, GlobalSymbol}
use Rattle.xc_lin.specs.declared.affine.Term.{Term}
use Rattle.xc_lin.specs.Affine.{Form, sum_of, value_of, same_var, has_var, coefficient_of, IsSingle, nonzero, raised_by, without, merged, plus, scaled, times, AreNarrow, IsCoefficient, IsNarrow}

-- a variable is itself
pub same_var-refl : (v : Var) → same_var v v ≡ true
same_var-refl (Index a) = grind arith
same_var-refl (Symbol a) = grind arith
same_var-refl (GlobalSymbol a) = grind arith

-- the test of two variables decides their equality
pub same_var-true : (v w : Var) → same_var v w ≡ true → v ≡ w
same_var-true (Index a) (Index b) same = ap Index (grind (arith, same))
same_var-true (Index a) (Symbol b) same = cc
same_var-true (Index a) (GlobalSymbol b) same = cc
same_var-true (Symbol a) (Index b) same = cc
same_var-true (Symbol a) (Symbol b) same = ap Symbol (grind (arith, same))
same_var-true (Symbol a) (GlobalSymbol b) same = cc
same_var-true (GlobalSymbol a) (Index b) same = cc
same_var-true (GlobalSymbol a) (Symbol b) same = cc
same_var-true (GlobalSymbol a) (GlobalSymbol b) same = ap GlobalSymbol (grind (arith, same))

pub differs : (v w : Var) → same_var v w ≡ false → same_var w v ≡ false
differs v w different = elim (same_var w v) as (λ s. same_var w v ≡ s → s ≡ false) [
  | true ↦ λ same. let e : w ≡ v = same_var-true w v same in let clash : same_var v v ≡ false = subst (λ u. same_var v u ≡ false) e different in let own : same_var v v ≡ true = same_var-refl v in cc
  | false ↦ λ same. refl
] refl

-- a variable that does not stand has the coefficient 0
pub coefficient_of-absent : (terms : List Term) (v : Var) → has_var terms v ≡ false → coefficient_of terms v ≡ pos 0
coefficient_of-absent [] v absent = refl
coefficient_of-absent (t ∷ terms) v absent = elim (same_var t.var v) as (λ s. (s || has_var terms v) ≡ false → cond s t.coeff (coefficient_of terms v) ≡ pos 0) [
  | true ↦ λ no. cc
  | false ↦ λ no. coefficient_of-absent terms v no
] absent

pub has_var-append : (xs ys : List Term) (v : Var) → has_var (xs ++ ys) v ≡ (has_var xs v || has_var ys v)
has_var-append [] ys v = refl
has_var-append (x ∷ xs) ys v = grind (arith, has_var-append xs ys v)

pub has_var-raised : (xs b : List Term) (v : Var) → has_var (map (raised_by b) xs) v ≡ has_var xs v
has_var-raised [] b v = refl
has_var-raised (x ∷ xs) b v = ap (λ w. same_var x.var v || w) (has_var-raised xs b v)

-- sums of terms one after the other
pub sum_of-append : (xs ys : List Term) (at : Var → ℤ) → sum_of (xs ++ ys) at ≡ (sum_of xs at +ℤ sum_of ys at)
sum_of-append [] ys at = omega (arith, ints)
sum_of-append (x ∷ xs) ys at = omega (arith, ints, sum_of-append xs ys at)

-- a test that leaves terms out adds no variable
pub has_var-filter : (p : Term → Bool) (xs : List Term) (v : Var) → has_var xs v ≡ false → has_var (filter p xs) v ≡ false
has_var-filter p [] v absent = refl
has_var-filter p (x ∷ xs) v absent = elim (p x) as (λ b. has_var (cond b (x ∷ filter p xs) (filter p xs)) v ≡ false) [
  | true ↦ grind (arith, has_var-filter p xs v, absent)
  | false ↦ grind (arith, has_var-filter p xs v, absent)
]

pub single-filter : (p : Term → Bool) (xs : List Term) → IsSingle xs → IsSingle (filter p xs)
single-filter p [] single = tt
single-filter p (x ∷ xs) single = elim (p x) as (λ b. IsSingle (cond b (x ∷ filter p xs) (filter p xs))) [
  | true ↦ (has_var-filter p xs x.var single.0, single-filter p xs single.1)
  | false ↦ single-filter p xs single.1
]

-- no variable stands twice among the terms that are not 0
pub single-nonzero : (xs : List Term) → IsSingle xs → IsSingle (nonzero xs)
single-nonzero xs single = single-filter _ xs single

-- a variable that is known is left out
pub has_var-without : (known xs : List Term) (v : Var) → has_var known v ≡ true → has_var (without known xs) v ≡ false
has_var-without known [] v stands = refl
has_var-without known (x ∷ xs) v stands = elim (has_var known x.var) as (λ b. has_var known x.var ≡ b → has_var (cond (not b) (x ∷ without known xs) (without known xs)) v ≡ false) [
  | true ↦ λ e. has_var-without known xs v stands
  | false ↦ λ e. elim (same_var x.var v) as (λ s. same_var x.var v ≡ s → (s || has_var (without known xs) v) ≡ false) [
    | true ↦ λ same. let w : x.var ≡ v = same_var-true x.var v same in let clash : has_var known v ≡ false = subst (λ u. has_var known u ≡ false) w e in cc
    | false ↦ λ same. has_var-without known xs v stands
  ] refl
] refl

single-merging : (known a b : List Term) → ((v : Var) → has_var a v ≡ true → has_var known v ≡ true) → IsSingle a → IsSingle b → IsSingle (map (raised_by b) a ++ without known b)
single-merging known [] b all single-a single-b = single-filter _ b single-b
single-merging known (x ∷ a) b all single-a single-b =
    let rest : (v : Var) → has_var a v ≡ true → has_var known v ≡ true = λ v stands. all v (grind (arith, stands)) in
    let own : has_var known x.var ≡ true = all x.var (grind (arith, same_var-refl x.var)) in
    (has_var-append (map (raised_by b) a) (without known b) x.var ∙ grind (arith, has_var-raised a b x.var, has_var-without known b x.var own, single-a.0), single-merging known a b rest single-a.1 single-b)

-- no variable stands twice in the terms of two forms
pub single-merged : (a b : List Term) → IsSingle a → IsSingle b → IsSingle (merged a b)
single-merged a b single-a single-b = single-merging a a b (λ v stands. stands) single-a single-b

zero_of : (z : ℤ) → (unsigned_abs z == 0) ≡ true → z ≡ pos 0
zero_of z e = omega (arith, ints, eqb-true _ _ e)

-- the terms that are 0 add nothing
pub sum_of-nonzero : (xs : List Term) (at : Var → ℤ) → sum_of (nonzero xs) at ≡ sum_of xs at
sum_of-nonzero [] at = refl
sum_of-nonzero (x ∷ xs) at = elim (unsigned_abs x.coeff == 0) as (λ b. (unsigned_abs x.coeff == 0) ≡ b → sum_of (cond (not b) (x ∷ nonzero xs) (nonzero xs)) at ≡ ((x.coeff *ℤ at x.var) +ℤ sum_of xs at)) [
  | true ↦ λ e. let none : x.coeff ≡ pos 0 = zero_of x.coeff e in rw none (omega (arith, ints, zero-*ℤ (at x.var), sum_of-nonzero xs at))
  | false ↦ λ e. omega (arith, ints, sum_of-nonzero xs at)
] refl

-- what the second form's terms add to the first's
abbrev pub matched : List Term → List Term → (Var → ℤ) → ℤ
matched [] b at = pos 0
matched (x ∷ a) b at = (coefficient_of b x.var *ℤ at x.var) +ℤ matched a b at

four-terms : (p q r s t : ℤ) → t ≡ (r +ℤ s) → ((p +ℤ q) +ℤ t) ≡ ((p +ℤ r) +ℤ (q +ℤ s))
four-terms p q r s t e = omega (arith, ints)

sum_of-raised : (a b : List Term) (at : Var → ℤ) → sum_of (map (raised_by b) a) at ≡ (sum_of a at +ℤ matched a b at)
sum_of-raised [] b at = omega (arith, ints)
sum_of-raised (x ∷ a) b at = rw times-plus (four-terms (x.coeff *ℤ at x.var) (coefficient_of b x.var *ℤ at x.var) (sum_of a at) (matched a b at) (sum_of (map (raised_by b) a) at) (sum_of-raised a b at))

matched-nil : (a : List Term) (at : Var → ℤ) → matched a [] at ≡ pos 0
matched-nil [] at = refl
matched-nil (x ∷ a) at = omega (arith, ints, zero-*ℤ (at x.var), matched-nil a at)

-- one more term of the second form adds to no term of the first where the first has not its variable
matched-absent : (a b : List Term) (t : Term) (at : Var → ℤ) → has_var a t.var ≡ false → matched a (t ∷ b) at ≡ matched a b at
matched-absent [] b t at absent = refl
matched-absent (x ∷ a) b t at absent =
    let other : same_var t.var x.var ≡ false = differs x.var t.var (grind (arith, absent)) in
    let rest : has_var a t.var ≡ false = grind (arith, absent) in
    rw other (ap (λ w. (coefficient_of b x.var *ℤ at x.var) +ℤ w) (matched-absent a b t at rest))

matched-here : (a b : List Term) (x t : Term) (at : Var → ℤ) → x.var ≡ t.var → has_var a x.var ≡ false → has_var b t.var ≡ false → matched (x ∷ a) (t ∷ b) at ≡ (matched (x ∷ a) b at +ℤ (t.coeff *ℤ at t.var))
matched-here a b x t at e rest fresh =
    let absent : has_var a t.var ≡ false = subst (λ v. has_var a v ≡ false) e rest in
    let none : coefficient_of b t.var ≡ pos 0 = coefficient_of-absent b t.var fresh in
    subst (λ v. ((cond (same_var t.var v) t.coeff (coefficient_of b v) *ℤ at v) +ℤ matched a (t ∷ b) at) ≡ (((coefficient_of b v *ℤ at v) +ℤ matched a b at) +ℤ (t.coeff *ℤ at t.var))) (sym e)
    (rw (same_var-refl t.var, none) (omega (arith, ints, zero-*ℤ (at t.var), matched-absent a b t at absent)))

-- and else to exactly one
matched-present : (a b : List Term) (t : Term) (at : Var → ℤ) → IsSingle a → has_var b t.var ≡ false → has_var a t.var ≡ true → matched a (t ∷ b) at ≡ (matched a b at +ℤ (t.coeff *ℤ at t.var))
matched-present [] b t at single fresh stands = cc
matched-present (x ∷ a) b t at single fresh stands = elim (same_var x.var t.var) as (λ s. same_var x.var t.var ≡ s → matched (x ∷ a) (t ∷ b) at ≡ (matched (x ∷ a) b at +ℤ (t.coeff *ℤ at t.var))) [
  | true ↦ λ same. matched-here a b x t at (same_var-true x.var t.var same) single.0 fresh
  | false ↦ λ same.
      let other : same_var t.var x.var ≡ false = differs x.var t.var same in
      let rest : has_var a t.var ≡ true = grind (arith, stands, same) in
      rw other (omega (arith, ints, matched-present a b t at single.1 fresh rest))
] refl

-- what the second form adds, and its other terms, are the second form
pub matched-without : (a b : List Term) (at : Var → ℤ) → IsSingle a → IsSingle b → (matched a b at +ℤ sum_of (without a b) at) ≡ sum_of b at
matched-without a [] at single-a single-b = rw (matched-nil a at) (omega (arith, ints))
matched-without a (t ∷ b) at single-a single-b = elim (has_var a t.var) as (λ s. has_var a t.var ≡ s → (matched a (t ∷ b) at +ℤ sum_of (cond (not s) (t ∷ without a b) (without a b)) at) ≡ ((t.coeff *ℤ at t.var) +ℤ sum_of b at)) [
  | true ↦ λ stands. omega (arith, ints, matched-present a b t at single-a single-b.0 stands, matched-without a b at single-a single-b.1)
  | false ↦ λ absent. omega (arith, ints, matched-absent a b t at absent, matched-without a b at single-a single-b.1)
] refl

-- the value of the terms of two forms
pub sum_of-merged : (a b : List Term) (at : Var → ℤ) → IsSingle a → IsSingle b → sum_of (merged a b) at ≡ (sum_of a at +ℤ sum_of b at)
sum_of-merged a b at single-a single-b =
    omega (arith, ints, sum_of-append (map (raised_by b) a) (without a b) at, sum_of-raised a b at, matched-without a b at single-a single-b)

-- the value of a sum is the sum of the values
pub value_of-plus : (a b : Form) (at : Var → ℤ) → IsSingle a.terms → IsSingle b.terms → value_of (plus a b) at ≡ (value_of a at +ℤ value_of b at)
value_of-plus a b at single-a single-b =
    omega (arith, ints, sum_of-nonzero (merged a.terms b.terms) at, sum_of-merged a.terms b.terms at single-a single-b)

nonzero-split : (xs : List Term) (n : ℕ) → nonzero xs ≡ nonzero (take n xs) ++ nonzero (drop n xs)
nonzero-split xs n = ap nonzero (sym (take-append-drop n xs)) ∙ filter-append _ (take n xs) (drop n xs)

narrow-front : (xs ys : List Term) → AreNarrow (xs ++ ys) → AreNarrow xs
narrow-front xs ys narrow = (omega (arith, length-append xs ys, narrow.0), λ k d h. subst (λ t. IsCoefficient t.coeff) (get_or-append xs ys d k h) (narrow.1 k d (omega (arith, length-append xs ys, h))))

-- the first terms of a form within the limits are within them
pub narrow-more : (all items : List Term) (i : ℕ) (d : Term) → i < length all → items ≡ nonzero (take i all) → AreNarrow (nonzero all) → AreNarrow (items ++ nonzero (get_or all i d ∷ []))
narrow-more all items i d h e narrow =
    let next : nonzero (take (i + 1) all) ≡ items ++ nonzero (get_or all i d ∷ []) = ap nonzero (take_more all i d h) ∙ filter-append _ (take i all) (get_or all i d ∷ []) ∙ ap (λ w. w ++ nonzero (get_or all i d ∷ [])) (sym e) in
    subst AreNarrow next (narrow-front (nonzero (take (i + 1) all)) (nonzero (drop (i + 1) all)) (subst AreNarrow (nonzero-split all (i + 1)) narrow))

-- an answer is within the limits of a sum, whose terms and constant it was made of
pub fits-plus : {E : Type 0} (r : Result Form E) (all : List Term) (k : ℤ) (a b : Form) → all ≡ merged a.terms b.terms → k ≡ (a.constant +ℤ b.constant) → IsOk r ↔ IsNarrow (record { terms = nonzero all; constant = k }) → IsOk r ↔ IsNarrow (plus a b)
fits-plus r all k a b e f fits = subst (λ terms. IsOk r ↔ IsNarrow (record { terms = nonzero terms; constant = a.constant +ℤ b.constant })) e (subst (λ z. IsOk r ↔ IsNarrow (record { terms = nonzero all; constant = z })) f fits)

-- and has the value of the sum
pub value-plus : {E : Type 0} (r : Result Form E) (all : List Term) (k : ℤ) (a b : Form) → all ≡ merged a.terms b.terms → k ≡ (a.constant +ℤ b.constant) → IsSingle a.terms → IsSingle b.terms → IfOk r (λ form. form ≡ record { terms = nonzero all; constant = k }) → IfOk r (λ sum. (at : Var → ℤ) → value_of sum at ≡ (value_of a at +ℤ value_of b at))
value-plus (Ok form) all k a b e f single-a single-b ok = λ at.
    ap (λ w. value_of w at) (ok ∙ ap (λ z. let w : Form = record { terms = nonzero all; constant = z } in w) f ∙ ap (λ terms. let w : Form = record { terms = nonzero terms; constant = a.constant +ℤ b.constant } in w) e) ∙ value_of-plus a b at single-a single-b
value-plus (Err e) all k a b s f single-a single-b ok = tt

has_var-scaled : (by : ℤ) (xs : List Term) (v : Var) → has_var (map (scaled by) xs) v ≡ has_var xs v
has_var-scaled by [] v = refl
has_var-scaled by (x ∷ xs) v = ap (λ w. same_var x.var v || w) (has_var-scaled by xs v)

-- no variable stands twice in a form times a number
pub single-scaled : (by : ℤ) (xs : List Term) → IsSingle xs → IsSingle (map (scaled by) xs)
single-scaled by [] single = tt
single-scaled by (x ∷ xs) single = (has_var-scaled by xs x.var ∙ single.0, single-scaled by xs single.1)

sum_of-scaled : (by : ℤ) (xs : List Term) (at : Var → ℤ) → sum_of (map (scaled by) xs) at ≡ (sum_of xs at *ℤ by)
sum_of-scaled by [] at = sym (zero-*ℤ by)
sum_of-scaled by (x ∷ xs) at = rw (times-plus (x.coeff *ℤ at x.var) (sum_of xs at) by, times-swap x.coeff by (at x.var), sum_of-scaled by xs at) refl

-- the value of a form times a number
pub value_of-times : (a : Form) (by : ℤ) (at : Var → ℤ) → value_of (times a by) at ≡ (value_of a at *ℤ by)
value_of-times a by at = rw (sum_of-nonzero (map (scaled by) a.terms) at, sum_of-scaled by a.terms at, times-plus a.constant (sum_of a.terms at) by) refl

-- an answer is within the limits of a product, whose terms and constant it was made of
pub fits-times : {E : Type 0} (r : Result Form E) (all : List Term) (k by : ℤ) (a : Form) → all ≡ map (scaled by) a.terms → k ≡ (a.constant *ℤ by) → IsOk r ↔ IsNarrow (record { terms = nonzero all; constant = k }) → IsOk r ↔ IsNarrow (times a by)
fits-times r all k by a e f fits = subst (λ terms. IsOk r ↔ IsNarrow (record { terms = nonzero terms; constant = a.constant *ℤ by })) e (subst (λ z. IsOk r ↔ IsNarrow (record { terms = nonzero all; constant = z })) f fits)

-- and has the value of the product
pub value-times : {E : Type 0} (r : Result Form E) (all : List Term) (k by : ℤ) (a : Form) → all ≡ map (scaled by) a.terms → k ≡ (a.constant *ℤ by) → IfOk r (λ form. form ≡ record { terms = nonzero all; constant = k }) → IfOk r (λ product. (at : Var → ℤ) → value_of product at ≡ (value_of a at *ℤ by))
value-times (Ok form) all k by a e f ok = λ at.
    ap (λ w. value_of w at) (ok ∙ ap (λ z. let w : Form = record { terms = nonzero all; constant = z } in w) f ∙ ap (λ terms. let w : Form = record { terms = nonzero terms; constant = a.constant *ℤ by } in w) e) ∙ value_of-times a by at
value-times (Err e) all k by a s f ok = tt

zero-size : (z : ℤ) → unsigned_abs z ≡ 0 → z ≡ pos 0
zero-size z e = omega (arith, ints, e)

one-times : (z : ℤ) → (z *ℤ pos 1) ≡ z
unfolding one
one-times z = *ℤ-one z

turned-one : (z : ℤ) → (z *ℤ negsuc 0) ≡ neg_ℤ z
turned-one z = *ℤ-negsuc z 0 ∙ ap neg_ℤ (one-times z)

turned-size : (z : ℤ) → unsigned_abs (z *ℤ negsuc 0) ≡ unsigned_abs z
turned-size z = unsigned_abs-mul z (negsuc 0) ∙ omega arith

turned-coefficient : (z : ℤ) → IsCoefficient z → IsCoefficient (z *ℤ negsuc 0)
turned-coefficient z ok = (λ e. ok.0 (zero-size z (sym (turned-size z) ∙ ap unsigned_abs e)), rw (turned-size z) ok.1)

nonzero-turned : (xs : List Term) → All (λ t. IsCoefficient t.coeff) xs → nonzero (map (scaled (negsuc 0)) xs) ≡ map (scaled (negsuc 0)) xs
nonzero-turned [] all = refl
nonzero-turned (x ∷ xs) all =
    let own : IsCoefficient (x.coeff *ℤ negsuc 0) = turned-coefficient x.coeff (all 0 x (omega arith)) in
    let rest : nonzero (map (scaled (negsuc 0)) xs) ≡ map (scaled (negsuc 0)) xs = nonzero-turned xs (λ k d h. all (suc k) d (omega (arith, h))) in
    elim (unsigned_abs (x.coeff *ℤ negsuc 0) == 0) as (λ b. (unsigned_abs (x.coeff *ℤ negsuc 0) == 0) ≡ b → cond (not b) (scaled (negsuc 0) x ∷ nonzero (map (scaled (negsuc 0)) xs)) (nonzero (map (scaled (negsuc 0)) xs)) ≡ scaled (negsuc 0) x ∷ map (scaled (negsuc 0)) xs) [
      | true ↦ λ e. absurd (own.0 (zero_of (x.coeff *ℤ negsuc 0) e))
      | false ↦ λ e. ap (λ w. scaled (negsuc 0) x ∷ w) rest
    ] refl

coefficients-turned : (xs : List Term) → All (λ t. IsCoefficient t.coeff) xs → All (λ t. IsCoefficient t.coeff) (map (scaled (negsuc 0)) xs)
coefficients-turned [] all k d h = absurd (omega (arith, h))
coefficients-turned (x ∷ xs) all zero d h = turned-coefficient x.coeff (all 0 x (omega arith))
coefficients-turned (x ∷ xs) all (suc k) d h = coefficients-turned xs (λ j e g. all (suc j) e (omega (arith, g))) k d (omega (arith, h))

-- a form with its signs turned is within the limits
pub narrow-turned : (a : Form) → IsNarrow a → IsNarrow (times a (negsuc 0))
narrow-turned a narrow = (
  (rw (nonzero-turned a.terms narrow.0.1) (omega (arith, length-map a.terms (scaled (negsuc 0)), narrow.0.0)), rw (nonzero-turned a.terms narrow.0.1) (coefficients-turned a.terms narrow.0.1)),
  rw (turned-size a.constant) narrow.1,
)

-- and has the value with its sign turned
pub value_of-turned : (a : Form) (at : Var → ℤ) → value_of (times a (negsuc 0)) at ≡ neg_ℤ (value_of a at)
value_of-turned a at = value_of-times a (negsuc 0) at ∙ omega (arith, ints, turned-one (value_of a at))

-- the value of a difference
pub value-minus : {E : Type 0} (r : Result Form E) (a b turned : Form) → ((at : Var → ℤ) → value_of turned at ≡ neg_ℤ (value_of b at)) → IfOk r (λ sum. (at : Var → ℤ) → value_of sum at ≡ (value_of a at +ℤ value_of turned at)) → IfOk r (λ sum. (at : Var → ℤ) → value_of sum at ≡ (value_of a at -ℤ value_of b at))
value-minus (Ok form) a b turned h ok = λ at. ok at ∙ ap (λ w. value_of a at +ℤ w) (h at)
value-minus (Err e) a b turned h ok = tt
