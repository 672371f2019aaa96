use Rattle.std.proofs.Common.{◌≡◌, ◌∙◌, ℤ, ◌+ℤ◌, ◌*ℤ◌, pos, false, true, Result, Ok, Err, IsOk, IsErr, arith, negsuc, neg_ℤ, ◌≤◌, ◌^◌, unsigned_abs, to_z, of_z, w64, SFits, lit<, zero, suc, refl}
use Rattle.std.proofs.Math.IntN.{suc_ℤ-*ℤ, pred_ℤ-*ℤ, zero-*ℤ, *ℤ_comm, +ℤ_invl}
use Rattle.std.proofs.lemmas.Int.{ints, fits_signed_mul, to_z-of_z}

-- no answer is both
pub never_both : {T E : Type 0} (r : Result T E) → IsErr r → IsOk r → ⊥
never_both (Ok x) failed ok = cc
never_both (Err e) failed ok = cc

pub never_true : false ≡ true → ⊥
never_true e = cc

pub times-sum : (a b c : ℤ) → (a *ℤ (b +ℤ c)) ≡ ((a *ℤ b) +ℤ (a *ℤ c))
times-sum (pos zero) b c = rw (zero-*ℤ (b +ℤ c), zero-*ℤ b, zero-*ℤ c) refl
times-sum (pos (suc n)) b c = omega (arith, ints, suc_ℤ-*ℤ (pos n) (b +ℤ c), suc_ℤ-*ℤ (pos n) b, suc_ℤ-*ℤ (pos n) c, times-sum (pos n) b c)
times-sum (negsuc zero) b c = omega (arith, ints, pred_ℤ-*ℤ (pos zero) (b +ℤ c), pred_ℤ-*ℤ (pos zero) b, pred_ℤ-*ℤ (pos zero) c, zero-*ℤ (b +ℤ c), zero-*ℤ b, zero-*ℤ c)
times-sum (negsuc (suc n)) b c = omega (arith, ints, pred_ℤ-*ℤ (negsuc n) (b +ℤ c), pred_ℤ-*ℤ (negsuc n) b, pred_ℤ-*ℤ (negsuc n) c, times-sum (negsuc n) b c)

-- a product with a sum
pub times-plus : (a b c : ℤ) → ((a +ℤ b) *ℤ c) ≡ ((a *ℤ c) +ℤ (b *ℤ c))
times-plus a b c = rw (*ℤ_comm (a +ℤ b) c, *ℤ_comm a c, *ℤ_comm b c) (times-sum c a b)

pub neg-times : (b c : ℤ) → (neg_ℤ b *ℤ c) ≡ neg_ℤ (b *ℤ c)
neg-times b c = let none : ((neg_ℤ b +ℤ b) *ℤ c) ≡ pos 0 = rw (+ℤ_invl b) (zero-*ℤ c) in omega (arith, ints, times-plus (neg_ℤ b) b c, none)

-- products of three numbers
pub times-assoc : (a b c : ℤ) → ((a *ℤ b) *ℤ c) ≡ (a *ℤ (b *ℤ c))
times-assoc (pos zero) b c = rw (zero-*ℤ b, zero-*ℤ c, zero-*ℤ (b *ℤ c)) refl
times-assoc (pos (suc n)) b c = rw (suc_ℤ-*ℤ (pos n) b, times-plus (pos n *ℤ b) b c, suc_ℤ-*ℤ (pos n) (b *ℤ c), times-assoc (pos n) b c) refl
times-assoc (negsuc zero) b c = rw (pred_ℤ-*ℤ (pos zero) b, zero-*ℤ b, times-plus (pos zero) (neg_ℤ b) c, zero-*ℤ c, pred_ℤ-*ℤ (pos zero) (b *ℤ c), zero-*ℤ (b *ℤ c), neg-times b c) refl
times-assoc (negsuc (suc n)) b c = rw (pred_ℤ-*ℤ (negsuc n) b, times-plus (negsuc n *ℤ b) (neg_ℤ b) c, pred_ℤ-*ℤ (negsuc n) (b *ℤ c), times-assoc (negsuc n) b c, neg-times b c) refl

-- a coefficient and a factor change places
pub times-swap : (a b c : ℤ) → ((a *ℤ b) *ℤ c) ≡ ((a *ℤ c) *ℤ b)
times-swap a b c = rw (times-assoc a b c, *ℤ_comm b c, ← times-assoc a c b) refl

-- numbers within their limits have a product that fits
pub fits-constant : (x y : ℤ) → unsigned_abs x ≤ 2 ^ 31 → unsigned_abs y ≤ 2 ^ 31 → SFits w64 (to_z w64 (of_z w64 x) *ℤ to_z w64 (of_z w64 y))
fits-constant x y few many =
    let first : to_z w64 (of_z w64 x) ≡ x = omega (arith, ints) in
    let second : to_z w64 (of_z w64 y) ≡ y = omega (arith, ints) in
    rw (first, second) (fits_signed_mul w64 x y (2 ^ 31) (2 ^ 31) few many (lit< tt))

pub reads-product : (x y : ℤ) → unsigned_abs x ≤ 2 ^ 31 → unsigned_abs y ≤ 2 ^ 31 → to_z w64 (of_z w64 (to_z w64 (of_z w64 x) *ℤ to_z w64 (of_z w64 y))) ≡ x *ℤ y
reads-product x y few many =
    let first : to_z w64 (of_z w64 x) ≡ x = omega (arith, ints) in
    let second : to_z w64 (of_z w64 y) ≡ y = omega (arith, ints) in
    to_z-of_z w64 _ (fits-constant x y few many) ∙ rw (first, second) refl
