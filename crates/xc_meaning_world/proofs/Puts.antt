-- Functions changed at one place, and lists changed at one index.
use Rattle.std.proofs.Common.{◌≡◌, ℕ, zero, suc, List, [], ◌∷◌, Some, Bool, true, false, cond, refl, sym, ap, ◌∙◌}
use mathlib.Core.Path.{fun_ext}
use Rattle.std.specs.Prelude.{◌==◌, slice_get, slice_set}
use Rattle.std.proofs.lemmas.Bool.{eqb-true, eqb-false}
use Rattle.xc_meaning_world.specs.World.{put}

-- a choice by whether two numbers are the same
abbrev pub by_same : (P : Type 0) (i j : ℕ) → (i ≡ j → P) → ((i ≡ j → ⊥) → P) → P
by_same P i j same other = at (i == j) refl
  where
    at : (b : Bool) → (i == j) ≡ b → P
    at true e = same (eqb-true i j e)
    at false e = other (eqb-false i j e)

pub eqb_same : (i j : ℕ) → i ≡ j → (i == j) ≡ true
eqb_same i j e = at (i == j) refl
  where
    at : (b : Bool) → (i == j) ≡ b → (i == j) ≡ true
    at true h = h
    at false h = absurd (eqb-false i j h e)

pub eqb_other : (i j : ℕ) → (i ≡ j → ⊥) → (i == j) ≡ false
eqb_other i j ne = at (i == j) refl
  where
    at : (b : Bool) → (i == j) ≡ b → (i == j) ≡ false
    at true h = absurd (ne (eqb-true i j h))
    at false h = h

pub put_at : {X : Type 0} (f : ℕ → X) (d : ℕ) (v : X) → put f d v d ≡ v
put_at f d v = ap (λ b. cond b v (f d)) (eqb_same d d refl)

pub put_other : {X : Type 0} (f : ℕ → X) (d x : ℕ) (v : X) → (x ≡ d → ⊥) → put f d v x ≡ f x
put_other f d x v ne = ap (λ b. cond b v (f x)) (eqb_other x d ne)

pub put_same : {X : Type 0} (f : ℕ → X) (d : ℕ) (v : X) → f d ≡ v → put f d v ≡ f
put_same f d v h = fun_ext (λ x. by_same (put f d v x ≡ f x) x d (λ e. ap (put f d v) e ∙ put_at f d v ∙ sym h ∙ ap f (sym e)) (λ ne. put_other f d x v ne))

pub put_put : {X : Type 0} (f : ℕ → X) (d : ℕ) (u v : X) → put (put f d u) d v ≡ put f d v
put_put f d u v = fun_ext (λ x. by_same (put (put f d u) d v x ≡ put f d v x) x d
    (λ e. ap (put (put f d u) d v) e ∙ put_at (put f d u) d v ∙ sym (put_at f d v) ∙ ap (put f d v) (sym e))
    (λ ne. put_other (put f d u) d x v ne ∙ put_other f d x u ne ∙ sym (put_other f d x v ne)))

pub put_swap : {X : Type 0} (f : ℕ → X) (c d : ℕ) (u v : X) → (c ≡ d → ⊥) → put (put f c u) d v ≡ put (put f d v) c u
put_swap f c d u v apart = fun_ext (λ x. by_same (put (put f c u) d v x ≡ put (put f d v) c u x) x d
    (λ e. ap (put (put f c u) d v) e ∙ put_at (put f c u) d v ∙ sym (put_other (put f d v) c d u (λ h. apart (sym h)) ∙ put_at f d v) ∙ ap (put (put f d v) c u) (sym e))
    (λ ne. put_other (put f c u) d x v ne ∙ by_same (put f c u x ≡ put (put f d v) c u x) x c
    (λ e. ap (put f c u) e ∙ put_at f c u ∙ sym (put_at (put f d v) c u) ∙ ap (put (put f d v) c u) (sym e))
    (λ ne'. put_other f c x u ne' ∙ sym (put_other (put f d v) c x u ne' ∙ put_other f d x v ne))))

pub get_set_same : {X : Type 0} (xs : List X) (i : ℕ) (x y : X) → slice_get xs i ≡ Some y → slice_get (slice_set xs i x) i ≡ Some x
get_set_same [] i x y h = cc
get_set_same (z ∷ xs) zero x y h = refl
get_set_same (z ∷ xs) (suc i) x y h = get_set_same xs i x y h

pub get_set_other : {X : Type 0} (xs : List X) (i j : ℕ) (x : X) → (j ≡ i → ⊥) → slice_get (slice_set xs i x) j ≡ slice_get xs j
get_set_other [] i j x ne = refl
get_set_other (z ∷ xs) zero zero x ne = absurd (ne refl)
get_set_other (z ∷ xs) zero (suc j) x ne = refl
get_set_other (z ∷ xs) (suc i) zero x ne = refl
get_set_other (z ∷ xs) (suc i) (suc j) x ne = get_set_other xs i j x (λ e. ne (ap suc e))

pub set_same : {X : Type 0} (xs : List X) (i : ℕ) (x : X) → slice_get xs i ≡ Some x → slice_set xs i x ≡ xs
set_same [] i x h = refl
set_same (z ∷ xs) zero x h = let e : x ≡ z = cc in ap (λ u. u ∷ xs) e
set_same (z ∷ xs) (suc i) x h = ap (λ u. z ∷ u) (set_same xs i x h)
