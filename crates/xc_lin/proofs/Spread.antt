use Rattle.std.proofs.Common.{◌≡◌, ◌≤◌, unsigned_abs, ◌∙◌, ◌⊎◌, inl, inr, ℕ, ℤ, pos, negsuc, neg_ℤ, ◌+ℤ◌, ◌-ℤ◌, ◌*ℤ◌, ◌≤ℤ◌, arith, sym, ap, refl, subst}
use Rattle.std.proofs.lemmas.Int.{ints}
use Rattle.std.proofs.Math.IntN.{*ℤ-one, one}
use Rattle.std.specs.Int.{int_min, int_max}
use Rattle.std.proofs.lemmas.Int.{clamps}
use Rattle.xc_lin.proofs.Outcomes.{times-sum, times-plus, neg-times}
use Rattle.xc_lin.proofs.Products.{keeps-order, turns-order}
use Rattle.xc_lin.specs.declared.region.Range.{Range}
use Rattle.xc_lin.specs.declared.bounds.Line.{Line}
use Rattle.xc_lin.specs.declared.region.Tie.TheVariants.{Apart, Shared, Below, Above}
use Rattle.xc_lin.specs.Region.{Takes}
use Rattle.xc_lin.specs.InnerRegion.{Spans, apart, height, Reaches}

-- a linear function is least and greatest at the ends of its range
pub reaches-up : (line : Line) → line.range.lo ≤ℤ line.range.hi → pos 0 ≤ℤ line.coeff → Reaches line (height line line.range.lo) (height line line.range.hi)
reaches-up line some up = record {
  bounded = λ x within.
      let low : (line.coeff *ℤ line.range.lo) ≤ℤ (line.coeff *ℤ x) = keeps-order line.coeff line.range.lo x up within.0 in
      let high : (line.coeff *ℤ x) ≤ℤ (line.coeff *ℤ line.range.hi) = keeps-order line.coeff x line.range.hi up within.1 in
      (omega (arith, ints, low), omega (arith, ints, high));
  least_reached = (line.range.lo, ((omega (arith, ints), some), refl));
  most_reached = (line.range.hi, ((some, omega (arith, ints)), refl));
}

pub reaches-down : (line : Line) → line.range.lo ≤ℤ line.range.hi → line.coeff ≤ℤ pos 0 → Reaches line (height line line.range.hi) (height line line.range.lo)
reaches-down line some down = record {
  bounded = λ x within.
      let low : (line.coeff *ℤ line.range.hi) ≤ℤ (line.coeff *ℤ x) = turns-order line.coeff x line.range.hi down within.1 in
      let high : (line.coeff *ℤ x) ≤ℤ (line.coeff *ℤ line.range.lo) = turns-order line.coeff line.range.lo x down within.0 in
      (omega (arith, ints, low), omega (arith, ints, high));
  least_reached = (line.range.hi, ((some, omega (arith, ints)), refl));
  most_reached = (line.range.lo, ((omega (arith, ints), some), refl));
}

-- one value at both places
difference : (a b x : ℤ) → (((a -ℤ b) *ℤ x) +ℤ pos 0) ≡ apart a b x x
difference a b x = omega (arith, ints, times-plus a (neg_ℤ b) x, neg-times b x)

pub spans-shared : (range : Range) (a b least most : ℤ) → Reaches (record { coeff = a -ℤ b; shift = pos 0; range = range }) least most → Spans Shared range a b least most
spans-shared range a b least most reaches = record {
  bounded = λ x y takes.
      let line : (least ≤ℤ (((a -ℤ b) *ℤ x) +ℤ pos 0)) × ((((a -ℤ b) *ℤ x) +ℤ pos 0) ≤ℤ most) = reaches.bounded x takes.0 in
      let one : apart a b x x ≡ apart a b x y = ap (apart a b x) takes.2 in
      let e = difference a b x in
      (omega (arith, ints, line.0, e, one), omega (arith, ints, line.1, e, one));
  least_reached = (reaches.least_reached.0, (reaches.least_reached.0, ((reaches.least_reached.1.0, reaches.least_reached.1.0, refl), sym (difference a b reaches.least_reached.0) ∙ reaches.least_reached.1.1)));
  most_reached = (reaches.most_reached.0, (reaches.most_reached.0, ((reaches.most_reached.1.0, reaches.most_reached.1.0, refl), sym (difference a b reaches.most_reached.0) ∙ reaches.most_reached.1.1)));
}

-- values that are not bound to each other
two-lines : (a b x y : ℤ) → (((a *ℤ x) +ℤ pos 0) +ℤ ((neg_ℤ b *ℤ y) +ℤ pos 0)) ≡ apart a b x y
two-lines a b x y = omega (arith, ints, neg-times b y)

pub spans-apart : (range : Range) (a b least most low high : ℤ) → Reaches (record { coeff = a; shift = pos 0; range = range }) least most → Reaches (record { coeff = neg_ℤ b; shift = pos 0; range = range }) low high → Spans Apart range a b (least +ℤ low) (most +ℤ high)
spans-apart range a b least most low high first second = record {
  bounded = λ x y takes.
      let one : (least ≤ℤ ((a *ℤ x) +ℤ pos 0)) × (((a *ℤ x) +ℤ pos 0) ≤ℤ most) = first.bounded x takes.0 in
      let two : (low ≤ℤ ((neg_ℤ b *ℤ y) +ℤ pos 0)) × (((neg_ℤ b *ℤ y) +ℤ pos 0) ≤ℤ high) = second.bounded y takes.1 in
      let e = two-lines a b x y in
      (omega (arith, ints, one.0, two.0, e), omega (arith, ints, one.1, two.1, e));
  least_reached = (
    first.least_reached.0,
    (
      second.least_reached.0,
      (
        (first.least_reached.1.0, second.least_reached.1.0, tt),
        sum first.least_reached.0 second.least_reached.0 least low first.least_reached.1.1 second.least_reached.1.1,
      ),
    ),
  );
  most_reached = (
    first.most_reached.0,
    (
      second.most_reached.0,
      (
        (first.most_reached.1.0, second.most_reached.1.0, tt),
        sum first.most_reached.0 second.most_reached.0 most high first.most_reached.1.1 second.most_reached.1.1,
      ),
    ),
  );
} where
  sum : (x y u v : ℤ) → ((a *ℤ x) +ℤ pos 0) ≡ u → ((neg_ℤ b *ℤ y) +ℤ pos 0) ≡ v → apart a b x y ≡ (u +ℤ v)
  sum x y u v e f = omega (arith, ints, two-lines a b x y, e, f)

-- a value between two others, times a coefficient, is between them
sandwich : (b x y z : ℤ) → x ≤ℤ y → y ≤ℤ z → (((b *ℤ x) ≤ℤ (b *ℤ y)) × ((b *ℤ y) ≤ℤ (b *ℤ z))) ⊎ (((b *ℤ z) ≤ℤ (b *ℤ y)) × ((b *ℤ y) ≤ℤ (b *ℤ x)))
sandwich (pos n) x y z h k = inl (keeps-order (pos n) x y (omega (arith, ints)) h, keeps-order (pos n) y z (omega (arith, ints)) k)
sandwich (negsuc n) x y z h k = inr (turns-order (negsuc n) y z (omega (arith, ints)) k, turns-order (negsuc n) x y (omega (arith, ints)) h)

lesser : (u v : ℤ) → (int_min u v ≡ u) ⊎ (int_min u v ≡ v)
lesser u v = grind (arith, ints, clamps)

greater : (u v : ℤ) → (int_max u v ≡ u) ⊎ (int_max u v ≡ v)
greater u v = grind (arith, ints, clamps)

times-one : (b : ℤ) → (b *ℤ pos 1) ≡ b
unfolding one
times-one b = *ℤ-one b

-- the lesser and the greater of two values within a limit are within it
pub lesser-size : (u v : ℤ) (n : ℕ) → unsigned_abs u ≤ n → unsigned_abs v ≤ n → unsigned_abs (int_min u v) ≤ n
lesser-size u v n h k = elim (lesser u v) [ inl e ↦ rw e h | inr e ↦ rw e k ]

pub greater-size : (u v : ℤ) (n : ℕ) → unsigned_abs u ≤ n → unsigned_abs v ≤ n → unsigned_abs (int_max u v) ≤ n
greater-size u v n h k = elim (greater u v) [ inl e ↦ rw e h | inr e ↦ rw e k ]

next-place : (a b x : ℤ) → (((a -ℤ b) *ℤ x) +ℤ neg_ℤ b) ≡ apart a b x (x +ℤ pos 1)
next-place a b x = omega (arith, ints, times-plus a (neg_ℤ b) x, neg-times b x, times-sum b x (pos 1), times-one b)

last-place : (a b x hi : ℤ) → ((a *ℤ x) +ℤ neg_ℤ (b *ℤ hi)) ≡ apart a b x hi
last-place a b x hi = refl

-- the values of which the first is below the second
pub spans-below : (range : Range) (a b n0 n1 l0 l1 : ℤ) →
    Reaches (record { coeff = a -ℤ b; shift = neg_ℤ b; range = record { lo = range.lo; hi = range.hi -ℤ pos 1 } }) n0 n1 →
    Reaches (record { coeff = a; shift = neg_ℤ (b *ℤ range.hi); range = record { lo = range.lo; hi = range.hi -ℤ pos 1 } }) l0 l1 →
    Spans Below range a b (int_min n0 l0) (int_max n1 l1)
spans-below range a b n0 n1 l0 l1 next last = record {
  bounded = λ x y takes.
      let within : (range.lo ≤ℤ x) × (x ≤ℤ (range.hi -ℤ pos 1)) = (takes.0.0, omega (arith, ints, takes.1.1, takes.2)) in
      let one : (n0 ≤ℤ (((a -ℤ b) *ℤ x) +ℤ neg_ℤ b)) × ((((a -ℤ b) *ℤ x) +ℤ neg_ℤ b) ≤ℤ n1) = next.bounded x within in
      let two : (l0 ≤ℤ ((a *ℤ x) +ℤ neg_ℤ (b *ℤ range.hi))) × (((a *ℤ x) +ℤ neg_ℤ (b *ℤ range.hi)) ≤ℤ l1) = last.bounded x within in
      let e = next-place a b x in
      held x y range.hi one two e (sandwich b (x +ℤ pos 1) y range.hi (omega (arith, ints, takes.2)) takes.1.1);
  least_reached = elim (lesser n0 l0) [
    | inl e ↦ (next.least_reached.0, (next.least_reached.0 +ℤ pos 1, (near next.least_reached.0 next.least_reached.1.0, sym (next-place a b next.least_reached.0) ∙ next.least_reached.1.1 ∙ sym e)))
    | inr e ↦ (last.least_reached.0, (range.hi, (far last.least_reached.0 last.least_reached.1.0, last.least_reached.1.1 ∙ sym e)))
  ];
  most_reached = elim (greater n1 l1) [
    | inl e ↦ (next.most_reached.0, (next.most_reached.0 +ℤ pos 1, (near next.most_reached.0 next.most_reached.1.0, sym (next-place a b next.most_reached.0) ∙ next.most_reached.1.1 ∙ sym e)))
    | inr e ↦ (last.most_reached.0, (range.hi, (far last.most_reached.0 last.most_reached.1.0, last.most_reached.1.1 ∙ sym e)))
  ];
} where
  held : (x y hi : ℤ) → ((n0 ≤ℤ (((a -ℤ b) *ℤ x) +ℤ neg_ℤ b)) × ((((a -ℤ b) *ℤ x) +ℤ neg_ℤ b) ≤ℤ n1)) → ((l0 ≤ℤ ((a *ℤ x) +ℤ neg_ℤ (b *ℤ hi))) × (((a *ℤ x) +ℤ neg_ℤ (b *ℤ hi)) ≤ℤ l1)) → (((a -ℤ b) *ℤ x) +ℤ neg_ℤ b) ≡ apart a b x (x +ℤ pos 1) → (((b *ℤ (x +ℤ pos 1)) ≤ℤ (b *ℤ y)) × ((b *ℤ y) ≤ℤ (b *ℤ hi))) ⊎ (((b *ℤ hi) ≤ℤ (b *ℤ y)) × ((b *ℤ y) ≤ℤ (b *ℤ (x +ℤ pos 1)))) → (int_min n0 l0 ≤ℤ apart a b x y) × (apart a b x y ≤ℤ int_max n1 l1)
  held x y hi one two e (inl h) = (omega (arith, ints, clamps, one.0, two.0, e, h.0, h.1), omega (arith, ints, clamps, one.1, two.1, e, h.0, h.1))
  held x y hi one two e (inr h) = (omega (arith, ints, clamps, one.0, two.0, e, h.0, h.1), omega (arith, ints, clamps, one.1, two.1, e, h.0, h.1))

  near : (x : ℤ) → ((range.lo ≤ℤ x) × (x ≤ℤ (range.hi -ℤ pos 1))) → Takes Below range x (x +ℤ pos 1)
  near x w = ((w.0, omega (arith, ints, w.1)), (omega (arith, ints, w.0), omega (arith, ints, w.1)), omega (arith, ints))

  far : (x : ℤ) → ((range.lo ≤ℤ x) × (x ≤ℤ (range.hi -ℤ pos 1))) → Takes Below range x range.hi
  far x w = ((w.0, omega (arith, ints, w.1)), (omega (arith, ints, w.0, w.1), omega (arith, ints)), omega (arith, ints, w.1))

turned : (a b x y : ℤ) → apart (neg_ℤ b) (neg_ℤ a) y x ≡ apart a b x y
turned a b x y = omega (arith, ints, neg-times a x, neg-times b y)

-- the values of which the first is above the second
pub spans-above : (range : Range) (a b least most : ℤ) → Spans Below range (neg_ℤ b) (neg_ℤ a) least most → Spans Above range a b least most
spans-above range a b least most spans = record {
  bounded = λ x y takes. subst (λ v. (least ≤ℤ v) × (v ≤ℤ most)) (turned a b x y) (spans.bounded y x (takes.1, takes.0, takes.2));
  least_reached = (spans.least_reached.1.0, (spans.least_reached.0, ((spans.least_reached.1.1.0.1, spans.least_reached.1.1.0.0, spans.least_reached.1.1.0.2), sym (turned a b spans.least_reached.1.0 spans.least_reached.0) ∙ spans.least_reached.1.1.1)));
  most_reached = (spans.most_reached.1.0, (spans.most_reached.0, ((spans.most_reached.1.1.0.1, spans.most_reached.1.1.0.0, spans.most_reached.1.1.0.2), sym (turned a b spans.most_reached.1.0 spans.most_reached.0) ∙ spans.most_reached.1.1.1)));
}
