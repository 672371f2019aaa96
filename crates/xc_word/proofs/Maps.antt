-- A finite map with numbers as keys, where one key gets another value or loses its own.
use Rattle.std.proofs.Common.{◌≡◌, ◌≢◌, ℕ, Bool, true, false, cond, Option, Some, None, refl, sym, ap, ◌∙◌}
use Rattle.std.specs.Ordering.{nat_cmp, eq_by_cmp, is_eq}
use Rattle.std.specs.declared.cmp.Ordering.{Ordering}
use Rattle.std.specs.declared.cmp.Ordering.TheVariants.{Less, Equal, Greater}
use Rattle.std.specs.Cmp.{nat_cmp_total, eq_by_cmp_equiv}
use Rattle.std.specs.FinMap.{FinMap, get, insert, remove, get-insert, get-remove, same_map}
use Rattle.std.proofs.lemmas.Map.Lookups.{exact_unsigned}

is_eq_equal : (o : Ordering) → is_eq o ≡ true → o ≡ Equal
is_eq_equal Less e = absurd cc
is_eq_equal Equal e = refl
is_eq_equal Greater e = absurd cc

pub same_key : (q s : ℕ) → eq_by_cmp nat_cmp q s ≡ true → q ≡ s
same_key q s e = exact_unsigned q s (is_eq_equal (nat_cmp q s) e)

not_same : (b : Bool) → (b ≡ true → ⊥) → b ≡ false
not_same true n = absurd (n refl)
not_same false n = refl

other_key : (q s : ℕ) → q ≢ s → eq_by_cmp nat_cmp q s ≡ false
other_key q s ne = not_same (eq_by_cmp nat_cmp q s) (λ e. ne (same_key q s e))

module _ {X : Type 0} where
  -- the map with this at a key; none: without the key
  abbrev pub assign : FinMap nat_cmp X → ℕ → Option X → FinMap nat_cmp X
  assign m s None = remove m s
  assign m s (Some x) = insert m s x

  pub get-assign : (m : FinMap nat_cmp X) (s : ℕ) (o : Option X) (q : ℕ) → get (assign m s o) q ≡ cond (eq_by_cmp nat_cmp q s) o (get m q)
  get-assign m s None q = get-remove nat_cmp_total m s q
  get-assign m s (Some x) q = get-insert nat_cmp_total m s x q

  pub get-assign_same : (m : FinMap nat_cmp X) (s : ℕ) (o : Option X) → get (assign m s o) s ≡ o
  get-assign_same m s o = get-assign m s o s ∙ rw ((eq_by_cmp_equiv nat_cmp_total).refl s) refl

  pub get-assign_other : (m : FinMap nat_cmp X) (s : ℕ) (o : Option X) (q : ℕ) → s ≢ q → get (assign m s o) q ≡ get m q
  get-assign_other m s o q ne = get-assign m s o q ∙ rw (other_key q s (λ e. ne (sym e))) refl

  chosen_same : (b : Bool) (o p : Option X) → (b ≡ true → p ≡ o) → cond b o p ≡ p
  chosen_same true o p h = sym (h refl)
  chosen_same false o p h = refl

  -- what is there already
  pub assign-get : (m : FinMap nat_cmp X) (s : ℕ) (o : Option X) → get m s ≡ o → assign m s o ≡ m
  assign-get m s o h = same_map nat_cmp_total exact_unsigned _ _ (λ q.
      get-assign m s o q ∙ chosen_same (eq_by_cmp nat_cmp q s) o (get m q) (λ e. ap (get m) (same_key q s e) ∙ h))

  chosen_again : (b : Bool) (o p r : Option X) → cond b p (cond b o r) ≡ cond b p r
  chosen_again true o p r = refl
  chosen_again false o p r = refl

  -- the later of two at one key
  pub assign-assign : (m : FinMap nat_cmp X) (s : ℕ) (o p : Option X) → assign (assign m s o) s p ≡ assign m s p
  assign-assign m s o p = same_map nat_cmp_total exact_unsigned _ _ (λ q.
      get-assign (assign m s o) s p q ∙ ap (cond (eq_by_cmp nat_cmp q s) p) (get-assign m s o q)
      ∙ chosen_again (eq_by_cmp nat_cmp q s) o p (get m q)
      ∙ sym (get-assign m s p q))

  chosen_turned : (a b : Bool) (o p r : Option X) → (a ≡ true → b ≡ true → ⊥) → cond b p (cond a o r) ≡ cond a o (cond b p r)
  chosen_turned true true o p r n = absurd (n refl refl)
  chosen_turned true false o p r n = refl
  chosen_turned false b o p r n = refl

  -- two keys, in either order
  pub assign_turned : (m : FinMap nat_cmp X) (s t : ℕ) (o p : Option X) → s ≢ t → assign (assign m s o) t p ≡ assign (assign m t p) s o
  assign_turned m s t o p ne = same_map nat_cmp_total exact_unsigned _ _ (λ q.
      get-assign (assign m s o) t p q ∙ ap (cond (eq_by_cmp nat_cmp q t) p) (get-assign m s o q)
      ∙ chosen_turned (eq_by_cmp nat_cmp q s) (eq_by_cmp nat_cmp q t) o p (get m q) (λ e f. ne (sym (same_key q s e) ∙ same_key q t f))
      ∙ sym (get-assign (assign m t p) s o q ∙ ap (cond (eq_by_cmp nat_cmp q s) o) (get-assign m t p q)))
