-- The values of an index are exact.
use Rattle.std.proofs.Common.{◌≡◌, ℕ, suc, ◌+◌, ◌-◌, ◌*◌, ◌/◌, ◌%◌, ◌^◌, ◌<◌, ◌≤◌, ℤ, pos, ◌+ℤ◌, ◌-ℤ◌, ◌≤ℤ◌, ◌<ℤ◌, Bool, true, false, cond, ◌⊎◌, inl, inr, ⊎_elim, ◌↔◌, refl, ap, ◌∙◌, arith}
use Rattle.std.specs.Prelude.{int_lt, int_le, IsTrue}
use Rattle.std.proofs.lemmas.Int.{ints}
use Rattle.std.proofs.Math.Nat.{div-lt_iff_lt-mul}
use Rattle.xc_tree.specs.declared.operator.BinOp.TheVariants as op
use Rattle.xc_word.specs.Numbers.{signed}
use Rattle.xc_tree_words.specs.Words.{difference}
use Rattle.xc_meaning_exact.specs.Exact.{IsInt, IndexValuesAreExact, IndexAfterIsExact}
use Rattle.xc_meaning_exact.proofs.Numbers.{sign_of, signed_is, wrapped, difference_exact}

-- ---- steps

up : (lo m : ℕ) → lo < 2 ^ 64 → IsInt (signed lo +ℤ pos m) → signed ((lo + m) % 2 ^ 64) ≡ signed lo +ℤ pos m
up lo m h (low, high) = ⊎_elim (λ s. from s.0 s.1) (λ s. below s.0 s.1) (sign_of lo h) where
  from : signed lo ≡ pos lo → lo < 2 ^ 63 → signed ((lo + m) % 2 ^ 64) ≡ signed lo +ℤ pos m
  from e l = signed_is ((lo + m) % 2 ^ 64) (signed lo +ℤ pos m) (omega arith) (low, high)
      (⊎_elim (λ w. inl (omega (arith, ints, e, w))) (λ w. absurd (omega (arith, ints, e, w, high))) (wrapped (lo + m) (omega (arith, ints, e, l, high))))

  below : signed lo +ℤ pos (2 ^ 64) ≡ pos lo → 2 ^ 63 ≤ lo → signed ((lo + m) % 2 ^ 64) ≡ signed lo +ℤ pos m
  below e g = signed_is ((lo + m) % 2 ^ 64) (signed lo +ℤ pos m) (omega arith) (low, high)
      (⊎_elim (λ w. inr (omega (arith, ints, e, w))) (λ w. inl (omega (arith, ints, e, w))) (wrapped (lo + m) (omega (arith, ints, e, h, high))))

down_by : (lo m : ℕ) → lo < 2 ^ 64 → m < 2 ^ 64 → IsInt (signed lo -ℤ pos m) → signed (difference lo m) ≡ signed lo -ℤ pos m
down_by lo m h l (low, high) = ⊎_elim (λ s. from s.0 s.1) (λ s. below s.0 s.1) (sign_of lo h) where
  from : signed lo ≡ pos lo → lo < 2 ^ 63 → signed (difference lo m) ≡ signed lo -ℤ pos m
  from e k = signed_is (difference lo m) (signed lo -ℤ pos m) (omega arith) (low, high)
      (⊎_elim (λ w. inr (omega (arith, ints, e, w, l))) (λ w. inl (omega (arith, ints, e, w, l))) (wrapped (lo + (2 ^ 64 - m)) (omega (arith, h))))

  below : signed lo +ℤ pos (2 ^ 64) ≡ pos lo → 2 ^ 63 ≤ lo → signed (difference lo m) ≡ signed lo -ℤ pos m
  below e g = signed_is (difference lo m) (signed lo -ℤ pos m) (omega arith) (low, high)
      (⊎_elim (λ w. absurd (omega (arith, ints, e, w, l, h, low))) (λ w. inr (omega (arith, ints, e, w, l))) (wrapped (lo + (2 ^ 64 - m)) (omega (arith, h))))

mod_same : (m : ℕ) → m < 2 ^ 64 → m % 2 ^ 64 ≡ m
mod_same m h = omega (arith, h)

signed_most : (n : ℕ) → n < 2 ^ 64 → signed n ≤ℤ pos (2 ^ 63 - 1)
signed_most n h = ⊎_elim (λ s. let e = s.0 in let l = s.1 in omega (arith, ints, e, l)) (λ s. let e = s.0 in omega (arith, ints, e, h)) (sign_of n h)

pub index_after_is_exact : IndexAfterIsExact
index_after_is_exact false step lo k h int = up lo (k * step) h int
index_after_is_exact true step lo k h int =
    let most = signed_most lo h in
    let low = int.0 in
    let small : k * step < 2 ^ 64 = omega (arith, ints, most, low) in
    ap (λ m. signed (difference lo m)) (mod_same (k * step) small) ∙ down_by lo (k * step) h small int

-- ---- how many values

order : (a b : ℕ) → (a < b) ⊎ (b ≤ a)
order a b = grind arith

one_more : (k step : ℕ) → suc k * step ≡ k * step + step
one_more k step = grind arith

-- a number of steps stays below a distance
below_rounded : (d step k : ℕ) → 0 < step → (k < (d + (step - 1)) / step) ↔ (k * step < d)
below_rounded d step k h = (there, back) where
  more : suc k * step ≡ k * step + step
  more = one_more k step

  iff : ((d + (step - 1)) / step < suc k) ↔ (d + (step - 1) < suc k * step)
  iff = div-lt_iff_lt-mul {k = step} {x = d + (step - 1)} {y = suc k} h

  there : k < (d + (step - 1)) / step → k * step < d
  there g = ⊎_elim (λ l. l) (λ l. let small = iff.1 (omega (arith, more, l, h)) in absurd (omega (arith, small, g))) (order (k * step) d)

  back : k * step < d → k < (d + (step - 1)) / step
  back g = ⊎_elim (λ l. l) (λ l. let small = iff.0 (omega (arith, l)) in absurd (omega (arith, small, more, g, h))) (order k ((d + (step - 1)) / step))

within_whole : (d step k : ℕ) → 0 < step → (k < d / step + 1) ↔ (k * step ≤ d)
within_whole d step k h = (there, back) where
  iff : (d / step < k) ↔ (d < k * step)
  iff = div-lt_iff_lt-mul {k = step} {x = d} {y = k} h

  there : k < d / step + 1 → k * step ≤ d
  there g = ⊎_elim (λ l. let small = iff.1 l in absurd (omega (arith, small, g))) (λ l. l) (order d (k * step))

  back : k * step ≤ d → k < d / step + 1
  back g = ⊎_elim (λ l. let big = iff.0 l in absurd (omega (arith, big, g))) (λ l. omega (arith, l)) (order (d / step) k)

less_holds : (a b : ℤ) → a <ℤ b → IsTrue (int_lt a b)
less_holds a b h = by (int_lt a b) refl where
  by : (t : Bool) → int_lt a b ≡ t → IsTrue (int_lt a b)
  by true e = e
  by false e = absurd (omega (arith, ints, e, h))

at_most_holds : (a b : ℤ) → a ≤ℤ b → IsTrue (int_le a b)
at_most_holds a b h = by (int_le a b) refl where
  by : (t : Bool) → int_le a b ≡ t → IsTrue (int_le a b)
  by true e = e
  by false e = absurd (omega (arith, ints, e, h))

wrong : false ≡ true → ⊥
wrong e = cc

-- ---- the four comparisons; zl and zh are the numbers of the first value and of the limit

module _ (step lo hi k : ℕ) (some : 0 < step) (l : lo < 2 ^ 64) (h : hi < 2 ^ 64) where
  abbrev zl : ℤ
  zl = signed lo

  abbrev zh : ℤ
  zh = signed hi

  less : (b : Bool) → int_lt zl zh ≡ b → (k < cond b ((difference hi lo + (step - 1)) / step) 0) ↔ IsTrue (int_lt (zl +ℤ pos (k * step)) zh)
  less true e =
      let exact : zl +ℤ pos (difference hi lo) ≡ zh = difference_exact hi lo h l (omega (arith, ints, e)) in
      let iff = below_rounded (difference hi lo) step k some in (
        λ g. let n = iff.0 g in less_holds (zl +ℤ pos (k * step)) zh (omega (arith, ints, exact, n)),
        λ g. let n : k * step < difference hi lo = omega (arith, ints, exact, g) in iff.1 n,
      )
  less false e = (λ g. absurd (omega (arith, g)), λ g. absurd (omega (arith, ints, e, g)))

  at_most : (b : Bool) → int_lt zh zl ≡ b → (k < cond b 0 (difference hi lo / step + 1)) ↔ IsTrue (int_le (zl +ℤ pos (k * step)) zh)
  at_most true e = (λ g. absurd (omega (arith, g)), λ g. absurd (omega (arith, ints, e, g)))
  at_most false e =
      let exact : zl +ℤ pos (difference hi lo) ≡ zh = difference_exact hi lo h l (omega (arith, ints, e)) in
      let iff = within_whole (difference hi lo) step k some in (
        λ g. let n = iff.0 g in at_most_holds (zl +ℤ pos (k * step)) zh (omega (arith, ints, exact, n)),
        λ g. let n : k * step ≤ difference hi lo = omega (arith, ints, exact, g) in iff.1 n,
      )

  more : (b : Bool) → int_lt zh zl ≡ b → (k < cond b ((difference lo hi + (step - 1)) / step) 0) ↔ IsTrue (int_lt zh (zl -ℤ pos (k * step)))
  more true e =
      let exact : zh +ℤ pos (difference lo hi) ≡ zl = difference_exact lo hi l h (omega (arith, ints, e)) in
      let iff = below_rounded (difference lo hi) step k some in (
        λ g. let n = iff.0 g in less_holds zh (zl -ℤ pos (k * step)) (omega (arith, ints, exact, n)),
        λ g. let n : k * step < difference lo hi = omega (arith, ints, exact, g) in iff.1 n,
      )
  more false e = (λ g. absurd (omega (arith, g)), λ g. absurd (omega (arith, ints, e, g)))

  at_least : (b : Bool) → int_lt zl zh ≡ b → (k < cond b 0 (difference lo hi / step + 1)) ↔ IsTrue (int_le zh (zl -ℤ pos (k * step)))
  at_least true e = (λ g. absurd (omega (arith, g)), λ g. absurd (omega (arith, ints, e, g)))
  at_least false e =
      let exact : zh +ℤ pos (difference lo hi) ≡ zl = difference_exact lo hi l h (omega (arith, ints, e)) in
      let iff = within_whole (difference lo hi) step k some in (
        λ g. let n = iff.0 g in at_most_holds zh (zl -ℤ pos (k * step)) (omega (arith, ints, exact, n)),
        λ g. let n : k * step ≤ difference lo hi = omega (arith, ints, exact, g) in iff.1 n,
      )

pub index_values_are_exact : IndexValuesAreExact
index_values_are_exact op.Lt false step lo hi k goes some l h = less step lo hi k some l h (int_lt (signed lo) (signed hi)) refl
index_values_are_exact op.Le false step lo hi k goes some l h = at_most step lo hi k some l h (int_lt (signed hi) (signed lo)) refl
index_values_are_exact op.Gt true step lo hi k goes some l h = more step lo hi k some l h (int_lt (signed hi) (signed lo)) refl
index_values_are_exact op.Ge true step lo hi k goes some l h = at_least step lo hi k some l h (int_lt (signed lo) (signed hi)) refl
index_values_are_exact o down step lo hi k goes some l h = absurd (wrong goes)
