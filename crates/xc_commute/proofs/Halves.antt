-- Two parted halves of a list, the middle turned.
use Rattle.std.proofs.Common.{◌≡◌, ℕ, ◌+◌, ◌-◌, ◌≤◌, List, ◌++◌, refl, ap, ap₂, sym, ◌∙◌, append_assoc, append-nil, arith, length, take, drop, length-append, length-take, eqb, not}
use Rattle.std.proofs.Math.Seq.{drop-append_seam, take-append_seam}
use Rattle.std.proofs.lemmas.List.{take_all, drop_all, take-append-drop}
use Rattle.std.proofs.lemmas.List.Filters.{length-filter_both}
use Rattle.std.proofs.lemmas.List.Elements.{filter-append}
use Rattle.xc_commute_histories.specs.History.{of_owner, of_others}
use Rattle.xc_commute.specs.declared.events.Event.{Event}
use Rattle.xc_commute.specs.Replay.{thread_of}
use borrow.Rule.Slice.PartMut.{put_mid, mid_of}

regrouped : {X : Type 0} (A B C D : List X) → (A ++ B) ++ (C ++ D) ≡ A ++ ((B ++ C) ++ D)
regrouped A B C D = append_assoc A B (C ++ D) ∙ ap (λ l. A ++ l) (sym (append_assoc B C D))

-- the middle part of three
pub middle : {X : Type 0} (A M D : List X) → mid_of (length A) (length M) (A ++ (M ++ D)) ≡ M
middle A M D = rw (drop-append_seam A (M ++ D), take-append_seam M D) refl

pub put_middle : {X : Type 0} (A M D ys : List X) → put_mid (length A) (length M) (A ++ (M ++ D)) ys ≡ A ++ (ys ++ D)
put_middle A M D ys = rw (drop-append_seam A (M ++ D), take-append_seam A (M ++ D), drop-append_seam M D) refl

-- A B and C D, with B and C turned
pub turned : {X : Type 0} (A B C D xs ys mid : List X) (n k b : ℕ) → xs ≡ (A ++ B) ++ (C ++ D) → n ≡ length A → b ≡ length B → k ≡ length B + length C →
    mid ≡ mid_of n k xs → ys ≡ drop b mid ++ take b mid → put_mid n k xs ys ≡ (A ++ C) ++ (B ++ D)
turned A B C D xs ys mid n k b e hn hb hk hm hy =
    let xs_is : xs ≡ A ++ ((B ++ C) ++ D) = e ∙ regrouped A B C D in
    let k_is : k ≡ length (B ++ C) = hk ∙ sym (length-append B C) in
    let mid_is : mid ≡ B ++ C = hm ∙ rw (xs_is, hn, k_is) (middle A (B ++ C) D) in
    let ys_is : ys ≡ C ++ B = hy ∙ rw (mid_is, hb) (rw (drop-append_seam B C, take-append_seam B C) refl) in
    rw (xs_is, hn, k_is) (put_middle A (B ++ C) D ys ∙ ap (λ l. A ++ (l ++ D)) ys_is ∙ sym (regrouped A C B D))

-- the second half, and the whole once it is replaced
second_half : {X : Type 0} (P S : List X) (n : ℕ) → n ≡ length P → take (length (P ++ S) - n) (drop n (P ++ S)) ≡ S
second_half P S n hn =
    let k_is : length (P ++ S) - n ≡ length S = omega (arith, length-append P S) in
    let rest : drop n (P ++ S) ≡ S = rw hn (drop-append_seam P S) in
    rw (k_is, rest) (take_all (length S) S (omega arith))

replaced : {X : Type 0} (P S Q : List X) (n : ℕ) → n ≡ length P → put_mid n (length (P ++ S) - n) (P ++ S) Q ≡ P ++ Q
replaced P S Q n hn =
    let k_is : length (P ++ S) - n ≡ length S = omega (arith, length-append P S) in
    rw (k_is, hn) (rw (take-append_seam P S, drop-append_seam P S, drop_all (length S) S (omega arith)) (ap (λ l. P ++ l) (append-nil Q)))

abbrev own : ℕ → List Event → List Event
own owner xs = of_owner thread_of owner xs

abbrev rest : ℕ → List Event → List Event
rest owner xs = of_others thread_of owner xs

both_lengths : (owner : ℕ) (xs : List Event) → length (own owner xs) + length (rest owner xs) ≡ length xs
both_lengths owner xs = length-filter_both (λ e. eqb (thread_of e) owner) (λ e. not (eqb (thread_of e) owner)) (λ _. refl) xs

-- the parts of two halves, the middle turned, are the parts of the whole
parted : (owner : ℕ) (xs ys : List Event) → own owner (xs ++ ys) ++ rest owner (xs ++ ys) ≡ (own owner xs ++ own owner ys) ++ (rest owner xs ++ rest owner ys)
parted owner xs ys = ap₂ (λ a b. a ++ b) (filter-append (λ e. eqb (thread_of e) owner) xs ys) (filter-append (λ e. not (eqb (thread_of e) owner)) xs ys)

-- P is the first half with the owner's events first, Q the second, and the middle of both is turned
module _ (owner n first second : ℕ) (X P Q : List Event)
    (few : n ≤ length X) (len : length P ≡ length (take n X))
    (first_is : first ≡ length (own owner (take n X))) (P_is : P ≡ own owner (take n X) ++ rest owner (take n X)) where
  abbrev pub second_part : List Event
  second_part = take (length (P ++ drop n X) - n) (drop n (P ++ drop n X))

  at_n : n ≡ length P
  at_n = sym (len ∙ length-take n X ∙ omega arith)

  Y_is : second_part ≡ drop n X
  Y_is = second_half P (drop n X) n at_n

  pub count_is : second ≡ length (own owner second_part) → first + second ≡ length (own owner X)
  count_is s =
      let a : length (own owner X) ≡ length (own owner (take n X) ++ own owner (drop n X)) = ap length (ap (own owner) (sym (take-append-drop n X)) ∙ filter-append (λ e. eqb (thread_of e) owner) (take n X) (drop n X)) in
      let b : second ≡ length (own owner (drop n X)) = s ∙ ap (λ l. length (own owner l)) Y_is in
      omega (arith, a, b, first_is, length-append (own owner (take n X)) (own owner (drop n X)))

  pub order_is : second ≡ length (own owner second_part) → Q ≡ own owner second_part ++ rest owner second_part → (ys mid : List Event) →
      mid ≡ mid_of first (n + second - first) (put_mid n (length (P ++ drop n X) - n) (P ++ drop n X) Q) → ys ≡ drop (n - first) mid ++ take (n - first) mid →
      put_mid first (n + second - first) (put_mid n (length (P ++ drop n X) - n) (P ++ drop n X) Q) ys ≡ own owner X ++ rest owner X
  order_is s q ys mid hm hy =
      let A : List Event = own owner (take n X) in
      let B : List Event = rest owner (take n X) in
      let C : List Event = own owner (drop n X) in
      let D : List Event = rest owner (drop n X) in
      let second_is : second ≡ length C = s ∙ ap (λ l. length (own owner l)) Y_is in
      let Q_is : Q ≡ C ++ D = q ∙ ap (λ l. own owner l ++ rest owner l) Y_is in
      let whole : put_mid n (length (P ++ drop n X) - n) (P ++ drop n X) Q ≡ (A ++ B) ++ (C ++ D) = replaced P (drop n X) Q n at_n ∙ ap₂ (λ a b. a ++ b) P_is Q_is in
      let sum : length A + length B ≡ n = both_lengths owner (take n X) ∙ length-take n X ∙ omega arith in
      let b_is : n - first ≡ length B = omega (arith, sum, first_is) in
      let k_is : n + second - first ≡ length B + length C = omega (arith, sum, first_is, second_is) in
      turned A B C D _ ys mid first (n + second - first) (n - first) whole first_is b_is k_is hm hy
      ∙ sym (parted owner (take n X) (drop n X))
      ∙ ap (λ l. own owner l ++ rest owner l) (take-append-drop n X)
