use Rattle.std.proofs.Common.{◌≡◌, ℤ, pos, ◌+ℤ◌, ◌-ℤ◌, ◌*ℤ◌, ◌≤ℤ◌, true, false, ◌||◌, cond, List, [], ◌∷◌, ◌++◌, Some, IsSomeAnd, arith, refl, subst}
use Rattle.std.proofs.lemmas.Int.{ints}
use Rattle.xc_lin.specs.declared.affine.Var.{Var}
use Rattle.xc_lin.specs.declared.affine.Term.{Term}
use Rattle.xc_lin.specs.declared.region.Range.{Range}
use Rattle.xc_lin.specs.declared.region.Region.{Region}
use Rattle.xc_lin.specs.Affine.{same_var, has_var, coefficient_of}
use Rattle.xc_lin.specs.Region.{range_of, tie_of, TakesAt}
use Rattle.xc_lin.specs.InnerRegion.{Spans, apart}
use Rattle.xc_lin.proofs.Merged.{same_var-refl, differs, matched}

-- the variables of some terms have values that the region allows
abbrev pub AllTake : Region → List Term → (Var → ℤ) → (Var → ℤ) → Type 0
AllTake over [] p q = Unit {0}
AllTake over (t ∷ terms) p q = TakesAt over t.var (p t.var) (q t.var) × AllTake over terms p q

-- what some variables add to the difference of two forms
abbrev pub gap_of : List Term → List Term → List Term → (Var → ℤ) → (Var → ℤ) → ℤ
gap_of terms a b p q = matched terms a p -ℤ matched terms b q

-- the least and the greatest difference over some variables
pub record Summed (over : Region) (a b : List Term) (k : ℤ) (terms : List Term) (least most : ℤ) : Type 0 where
  pub bounded : (p q : Var → ℤ) → AllTake over terms p q → (least ≤ℤ (k +ℤ gap_of terms a b p q)) × ((k +ℤ gap_of terms a b p q) ≤ℤ most)
  pub least_reached : (p : Var → ℤ) × ((q : Var → ℤ) × (AllTake over terms p q × ((k +ℤ gap_of terms a b p q) ≡ least)))
  pub most_reached : (p : Var → ℤ) × ((q : Var → ℤ) × (AllTake over terms p q × ((k +ℤ gap_of terms a b p q) ≡ most)))

nowhere : (k : ℤ) → (k +ℤ (pos 0 -ℤ pos 0)) ≡ k
nowhere k = omega (arith, ints)

pub summed-nil : (over : Region) (a b : List Term) (k : ℤ) → Summed over a b k [] k k
summed-nil over a b k = record {
  bounded = λ p q all. (omega (arith, ints), omega (arith, ints));
  least_reached = (λ v. pos 0, (λ v. pos 0, (tt, nowhere k)));
  most_reached = (λ v. pos 0, (λ v. pos 0, (tt, nowhere k)));
}

-- the values with another one for a variable
assign : Var → ℤ → (Var → ℤ) → (Var → ℤ)
assign v x p = λ w. cond (same_var v w) x (p w)

assign-here : (v : Var) (x : ℤ) (p : Var → ℤ) → assign v x p v ≡ x
unfolding assign
assign-here v x p = rw (same_var-refl v) refl

assign-other : (v w : Var) (x : ℤ) (p : Var → ℤ) → same_var w v ≡ false → assign v x p w ≡ p w
unfolding assign
assign-other v w x p other = rw (differs w v other) refl

left-out : (t : Term) (terms : List Term) (v : Var) → has_var (t ∷ terms) v ≡ false → (same_var t.var v ≡ false) × (has_var terms v ≡ false)
left-out t terms v absent = elim (same_var t.var v) as (λ s. (s || has_var terms v) ≡ false → (s ≡ false) × (has_var terms v ≡ false)) [
  | true ↦ λ no. cc
  | false ↦ λ no. (refl, no)
] absent

matched-assign : (terms a : List Term) (v : Var) (x : ℤ) (p : Var → ℤ) → has_var terms v ≡ false → matched terms a (assign v x p) ≡ matched terms a p
matched-assign [] a v x p absent = refl
matched-assign (t ∷ terms) a v x p absent =
    let out = left-out t terms v absent in
    rw (assign-other v t.var x p out.0, matched-assign terms a v x p out.1) refl

take-assign : (over : Region) (terms : List Term) (v : Var) (x y : ℤ) (p q : Var → ℤ) → has_var terms v ≡ false → AllTake over terms p q → AllTake over terms (assign v x p) (assign v y q)
take-assign over [] v x y p q absent all = tt
take-assign over (t ∷ terms) v x y p q absent all =
    let out = left-out t terms v absent in
    (rw (assign-other v t.var x p out.0, assign-other v t.var y q out.0) all.0, take-assign over terms v x y p q out.1 all.1)

matched-push : (terms a : List Term) (t : Term) (p : Var → ℤ) → matched (terms ++ t ∷ []) a p ≡ (matched terms a p +ℤ (coefficient_of a t.var *ℤ p t.var))
matched-push [] a t p = omega (arith, ints)
matched-push (u ∷ terms) a t p = omega (arith, ints, matched-push terms a t p)

take-front : (over : Region) (terms : List Term) (t : Term) (p q : Var → ℤ) → AllTake over (terms ++ t ∷ []) p q → AllTake over terms p q × TakesAt over t.var (p t.var) (q t.var)
take-front over [] t p q all = (tt, all.0)
take-front over (u ∷ terms) t p q all = let rest = take-front over terms t p q all.1 in ((all.0, rest.0), rest.1)

take-push : (over : Region) (terms : List Term) (t : Term) (p q : Var → ℤ) → AllTake over terms p q → TakesAt over t.var (p t.var) (q t.var) → AllTake over (terms ++ t ∷ []) p q
take-push over [] t p q all last = (last, tt)
take-push over (u ∷ terms) t p q all last = (all.0, take-push over terms t p q all.1 last)

gap-push : (terms a b : List Term) (t : Term) (p q : Var → ℤ) → gap_of (terms ++ t ∷ []) a b p q ≡ (gap_of terms a b p q +ℤ apart (coefficient_of a t.var) (coefficient_of b t.var) (p t.var) (q t.var))
gap-push terms a b t p q = omega (arith, ints, matched-push terms a t p, matched-push terms b t q)

-- one more variable, whose values are chosen for themselves
reach-push : (over : Region) (a b : List Term) (k : ℤ) (terms : List Term) (t : Term) (end more : ℤ) → has_var terms t.var ≡ false →
    ((p : Var → ℤ) × ((q : Var → ℤ) × (AllTake over terms p q × ((k +ℤ gap_of terms a b p q) ≡ end)))) →
    ((x : ℤ) × ((y : ℤ) × (TakesAt over t.var x y × (apart (coefficient_of a t.var) (coefficient_of b t.var) x y ≡ more)))) →
    (p : Var → ℤ) × ((q : Var → ℤ) × (AllTake over (terms ++ t ∷ []) p q × ((k +ℤ gap_of (terms ++ t ∷ []) a b p q) ≡ (end +ℤ more))))
reach-push over a b k terms t end more absent (p, (q, (all, e))) (x, (y, (takes, f))) =
    let v = t.var in
    let p' : Var → ℤ = assign t.var x p in
    let q' : Var → ℤ = assign t.var y q in
    let last : TakesAt over t.var (p' t.var) (q' t.var) = rw (assign-here t.var x p, assign-here t.var y q) takes in
    let same : gap_of terms a b p' q' ≡ gap_of terms a b p q = rw (matched-assign terms a t.var x p absent, matched-assign terms b t.var y q absent) refl in
    let own : apart (coefficient_of a t.var) (coefficient_of b t.var) (p' t.var) (q' t.var) ≡ more = rw (assign-here t.var x p, assign-here t.var y q) f in
    (p', (q', (take-push over terms t p' q' (take-assign over terms t.var x y p q absent all) last, omega (arith, ints, gap-push terms a b t p' q', same, own, e))))

pub summed-push : (over : Region) (a b : List Term) (k : ℤ) (terms : List Term) (t : Term) (least most low high : ℤ) → has_var terms t.var ≡ false →
    Spans (tie_of over t.var) (range_of over.ranges t.var) (coefficient_of a t.var) (coefficient_of b t.var) low high → Summed over a b k terms least most → Summed over a b k (terms ++ t ∷ []) (least +ℤ low) (most +ℤ high)
summed-push over a b k terms t least most low high absent spans summed = record {
  bounded = λ p q all.
      let parts = take-front over terms t p q all in
      let one : (least ≤ℤ (k +ℤ gap_of terms a b p q)) × ((k +ℤ gap_of terms a b p q) ≤ℤ most) = summed.bounded p q parts.0 in
      let two : (low ≤ℤ apart (coefficient_of a t.var) (coefficient_of b t.var) (p t.var) (q t.var)) × (apart (coefficient_of a t.var) (coefficient_of b t.var) (p t.var) (q t.var) ≤ℤ high) = spans.bounded (p t.var) (q t.var) parts.1 in
      let e = gap-push terms a b t p q in
      (omega (arith, ints, one.0, two.0, e), omega (arith, ints, one.1, two.1, e));
  least_reached = reach-push over a b k terms t least low absent summed.least_reached spans.least_reached;
  most_reached = reach-push over a b k terms t most high absent summed.most_reached spans.most_reached;
}
