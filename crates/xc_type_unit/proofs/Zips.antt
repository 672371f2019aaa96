-- Two lists side by side, walked by an index of the first.
use Rattle.std.proofs.Common.{◌≡◌, ◌⊎◌, inl, inr, ℕ, ◌+◌, ◌<◌, ◌≤◌, List, [], ◌∷◌, length, get_or, drop, refl, sym, ap, ◌∙◌}
use Rattle.std.specs.Prelude.{Option, Some, None, slice_get, zip}
use Rattle.std.proofs.lemmas.List.{drop_more}
use Rattle.std.proofs.lemmas.Option.{slice_get_within, get_or_from_slice_get, slice_get_cases}
use Rattle.std.proofs.Math.ListN.{drop_of_length-le}
use Rattle.std.proofs.lemmas.Grind.{common_steps}

module _ {A B : Type 0} where
  pub zip_turn : (xs : List A) (ys : List B) (k : ℕ) (x : A) (y : B) → k < length xs → slice_get ys k ≡ Some y
      → zip (drop k xs) (drop k ys) ≡ (get_or xs k x, y) ∷ zip (drop (k + 1) xs) (drop (k + 1) ys)
  zip_turn xs ys k x y lt e = ap (λ r. zip r (drop k ys)) (drop_more xs k x lt)
      ∙ ap (λ r. zip (get_or xs k x ∷ drop (k + 1) xs) r) (drop_more ys k y (slice_get_within ys k y e))
      ∙ ap (λ b. (get_or xs k x, b) ∷ zip (drop (k + 1) xs) (drop (k + 1) ys)) (get_or_from_slice_get ys k y y e)

  zip_nil : (xs : List A) (ys : List B) → ys ≡ [] → zip xs ys ≡ []
  zip_nil [] ys e = refl
  zip_nil (x ∷ xs) [] e = refl
  zip_nil (x ∷ xs) (y ∷ ys) e = absurd cc

  zip_past : (xs : List A) (ys : List B) (k : ℕ) → length ys ≤ k → zip (drop k xs) (drop k ys) ≡ []
  zip_past xs ys k le = zip_nil (drop k xs) (drop k ys) (drop_of_length-le ys le)

  pub zip_short : (xs : List A) (ys : List B) (k : ℕ) → slice_get ys k ≡ None → zip (drop k xs) (drop k ys) ≡ []
  zip_short xs ys k e = by_case (slice_get_cases ys k).1
    where
      by_case : ((y : B) × (k < length ys) × (slice_get ys k ≡ Some y) × (get_or ys k y ≡ y)) ⊎ ((length ys ≤ k) × (slice_get ys k ≡ None)) → zip (drop k xs) (drop k ys) ≡ []
      by_case (inl there) = absurd (let clash : Some there.0 ≡ None = sym there.2 ∙ e in cc)
      by_case (inr past) = zip_past xs ys k past.0

pub ruleset zip_rules = (common_steps, zip_turn, zip_short)
