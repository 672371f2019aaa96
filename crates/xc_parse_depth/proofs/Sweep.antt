-- What a sweep over the places knows.
use Rattle.std.proofs.Common.{◌≡◌, ℕ, ◌+◌, ◌^◌, ◌≤◌, ◌<◌, List, [], ◌∷◌, length, Bool, false, cond, ◌&&◌, eqb, get_or, take, length-take, inl, inr, refl, sym, ap, ◌∙◌, arith}
use Rattle.std.proofs.Math.ListN.{set}
use Rattle.std.specs.Prelude.{nat_le, nat_lt, count_by, All}
use Rattle.std.proofs.lemmas.Bool.{cases_eq, eq-eqb}
use Rattle.std.proofs.lemmas.Bool.Decides.{nat_tests, eqb_tells}
use Rattle.std.proofs.lemmas.List.{get_or-set_same, get_or-set_other}
use Rattle.std.proofs.lemmas.Grind.{get_or_default_zero}
use Rattle.std.proofs.lemmas.List.Elements.{All-head, All-tail}
use Rattle.std.proofs.lemmas.List.Sums.{sum_by-cons, count_by-le-length, count_by_more_yes, count_by_more_no}
use Rattle.xc_parse_depth.specs.declared.stretch.Stretch.{Stretch}
use Rattle.xc_parse_depth.specs.Depths.{depth_at}
use Rattle.xc_parse_depth.specs.InnerDepths.{Tallied}

-- how many stand just before the place
abbrev pub before : List Stretch → ℕ → ℕ
before all k = count_by (λ s. nat_lt s.first k && nat_le k s.end) all

one_more : (p : Stretch → Bool) (s : Stretch) (ss : List Stretch) → count_by p (s ∷ ss) ≡ cond (p s) 1 0 + count_by p ss
one_more p s ss = sum_by-cons (λ x. cond (p x) 1 0) s ss

one_step : (a b k : ℕ) → a ≤ b → ◌≡◌ {A = ℕ} (cond (nat_lt a k && nat_le k b) 1 0 + cond (eqb a k) 1 0) (cond (nat_le a k && nat_lt k b) 1 0 + cond (eqb b k) 1 0)
one_step a b k h = grind (arith, nat_tests)

-- those that stand there are those that stood before it and those that begin, without those that end
pub step : (all : List Stretch) (k n : ℕ) → All (λ s. (s.first ≤ s.end) × (s.end ≤ n)) all → before all k + count_by (λ s. eqb s.first k) all ≡ depth_at all k + count_by (λ s. eqb s.end k) all
step [] k n h = refl
step (s ∷ ss) k n h =
    let e = step ss k n (All-tail (λ (t : Stretch). (t.first ≤ t.end) × (t.end ≤ n)) s ss h) in
    let o = one_step s.first s.end k (All-head (λ (t : Stretch). (t.first ≤ t.end) × (t.end ≤ n)) s ss h).0 in
    omega (
      arith,
      one_more (λ t. nat_lt t.first k && nat_le k t.end) s ss,
      one_more (λ t. eqb t.first k) s ss,
      one_more (λ t. nat_le t.first k && nat_lt k t.end) s ss,
      one_more (λ t. eqb t.end k) s ss,
    )

one_next : (a b k : ℕ) → ◌≡◌ {A = ℕ} (cond (nat_le a k && nat_lt k b) 1 0) (cond (nat_lt a (k + 1) && nat_le (k + 1) b) 1 0)
one_next a b k = grind (arith, nat_tests)

pub next : (all : List Stretch) (k : ℕ) → depth_at all k ≡ before all (k + 1)
next [] k = refl
next (s ∷ ss) k =
    let e = next ss k in
    let o = one_next s.first s.end k in
    omega (arith, one_more (λ t. nat_le t.first k && nat_lt k t.end) s ss, one_more (λ t. nat_lt t.first (k + 1) && nat_le (k + 1) t.end) s ss)

one_none : (a b : ℕ) → ◌≡◌ {A = ℕ} (cond (nat_lt a 0 && nat_le 0 b) 1 0) 0
one_none a b = grind (arith, nat_tests)

pub none_before : (all : List Stretch) → before all 0 ≡ 0
none_before [] = refl
none_before (s ∷ ss) =
    let e = none_before ss in
    let o = one_none s.first s.end in
    omega (arith, one_more (λ t. nat_lt t.first 0 && nat_le 0 t.end) s ss)

pub depth_within : (all : List Stretch) (k : ℕ) → depth_at all k ≤ length all
depth_within all k = count_by-le-length (λ s. nat_le s.first k && nat_lt k s.end) all

module _ (all : List Stretch) (begins ends : List ℕ) (n k x depth : ℕ) (inside : k < n) (few : n < 2 ^ 32) (fits : length all < 2 ^ 63) (within : All (λ s. (s.first ≤ s.end) × (s.end ≤ n)) all) (t : Tallied all n begins ends) (was : depth ≡ before all k) (b : x ≡ get_or begins k x) where
  pub sum_fits : depth + x < 2 ^ 64
  sum_fits =
      let l = t.begins_length in
      let xs = b ∙ get_or_default_zero begins k x (omega arith) ∙ t.begin k (omega arith) in
      let s = step all k n within in
      let d = depth_within all k in
      let c = count_by-le-length (λ (s : Stretch). eqb s.end k) all in
      omega arith

  -- the depth at a place, by the depth before it and what is read there
  pub swept : (y : ℕ) → y ≡ get_or ends k y → depth + x ≡ depth_at all k + y
  swept y e =
      let l = t.begins_length in
      let m = t.ends_length in
      let xs = b ∙ get_or_default_zero begins k x (omega arith) ∙ t.begin k (omega arith) in
      let ys = e ∙ get_or_default_zero ends k y (omega arith) ∙ t.end k (omega arith) in
      let s = step all k n within in
      omega arith

-- the tally after one more stretch
pub tallied_more : (key : Stretch → ℕ) (all : List Stretch) (xs : List ℕ) (i n at x : ℕ) (d : Stretch)
    → i < length all → length xs ≡ n + 1 → at ≡ key (get_or all i d) → at ≤ n → x ≡ get_or xs at x
    → ((k : ℕ) → k ≤ n → get_or xs k 0 ≡ count_by (λ s. eqb (key s) k) (take i all))
    → (k : ℕ) → k ≤ n → get_or (set xs at (x + 1)) k 0 ≡ count_by (λ s. eqb (key s) k) (take (i + 1) all)
tallied_more key all xs i n at x d inside long is small was so k within =
    elim (cases_eq k at) [
      | inl e ↦
          let yes = count_by_more_yes (λ s. eqb (key s) k) all i d inside (eq-eqb (key (get_or all i d)) k (sym (e ∙ is))) in
          let same = get_or-set_same xs at (x + 1) 0 (omega arith) in
          let there = so k within in
          ap (λ j. get_or (set xs at (x + 1)) j 0) e ∙ same ∙ ap (λ y. y + 1) (was ∙ get_or_default_zero xs at x (omega arith) ∙ ap (λ j. get_or xs j 0) (sym e) ∙ there) ∙ sym yes
      | inr ne ↦
          let differs : eqb (key (get_or all i d)) k ≡ false = elim (eqb_tells (key (get_or all i d)) k) [ inl y ↦ absurd (ne (sym (is ∙ y.1))) | inr y ↦ y.0 ] in
          let no = count_by_more_no (λ s. eqb (key s) k) all i d inside differs in
          get_or-set_other xs at k (x + 1) 0 ne ∙ so k within ∙ sym no
    ]

-- a tally is at most the number of stretches
pub tally_small : (key : Stretch → ℕ) (all : List Stretch) (xs : List ℕ) (i n at x : ℕ)
    → length xs ≡ n + 1 → at ≤ n → x ≡ get_or xs at x
    → ((k : ℕ) → k ≤ n → get_or xs k 0 ≡ count_by (λ s. eqb (key s) k) (take i all)) → x ≤ i
tally_small key all xs i n at x long small was so =
    let e = was ∙ get_or_default_zero xs at x (omega arith) ∙ so at small in
    omega (arith, e, count_by-le-length (λ s. eqb (key s) at) (take i all), length-take i all)
