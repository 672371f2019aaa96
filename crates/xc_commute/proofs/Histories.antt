-- Histories of touches with their threads, newest first, that can be exchanged and gathered.
use Rattle.std.proofs.Common.{◌≡◌, ◌≢◌, ℕ, List, ◌++◌, Option}
use Rattle.xc_commute_histories.specs.History.{hist, Each, Is, of_owner, of_others}
use Rattle.xc_commute_histories.specs.Runs.{owner, Indep}
use Rattle.xc_commute_histories.specs.InnerRuns.{own_step}
use Rattle.xc_commute_histories.proofs.Exchange as pairs
use Rattle.xc_commute_histories.proofs.Owner.{Each-weaker}
use Rattle.xc_commute_histories.proofs.Owner as owners
use Rattle.xc_word.specs.Cells.{Segments}
use Rattle.xc_commute.specs.Touch.{Touch, touched, Conflict}
use Rattle.xc_commute.proofs.Touches.{independent}

-- a thread, its touch and the answer
abbrev pub Recorded : Type 0
Recorded = ℕ × (Touch × ℕ)

abbrev pub step : Recorded → Segments → Option Segments
step x m = own_step touched x m

abbrev pub Free : Recorded → Recorded → Type 0
Free x y = ¬ Conflict x.1.0 y.1.0

free : (x y : Recorded) → Free x y → Indep step x y
free x y n = independent x.1.0 y.1.0 x.1.1 y.1.1 n

all_free : (ys xs : List Recorded) → Each (λ y. Each (λ x. Free y x) xs) ys → Each (λ y. Each (λ x. Indep step y x) xs) ys
all_free ys xs e = Each-weaker (λ y. Each (λ x. Free y x) xs) (λ y. Each (λ x. Indep step y x) xs) (λ y o. Each-weaker (λ x. Free y x) (λ x. Indep step y x) (λ x n. free y x n) xs o) ys e

-- two histories that do not conflict, in either order
pub exchange : (ys xs : List Recorded) → Each (λ y. Each (λ x. Free y x) xs) ys → (m : Segments) → hist step (ys ++ xs) m ≡ hist step (xs ++ ys) m
exchange ys xs e m = pairs.exchange step ys xs (pairs.commuting step ys xs (all_free ys xs e)) m

-- where each of the two can be, the one can be after the other
pub all_after : (ys xs : List Recorded) → Each (λ y. Each (λ x. Free y x) xs) ys → (m : Segments) → Is (hist step ys m) → Is (hist step xs m) → Is (hist step (ys ++ xs) m)
all_after ys xs e m = pairs.all_after step ys xs (all_free ys xs e) m

-- what a thread did goes first, or last, where it does not conflict with what the others did
module _ (P : Recorded → Type 0) (i : ℕ) (ok : (a b : Recorded) → P a → P b → owner a ≡ i → owner b ≢ i → Free a b) (xs : List Recorded) (p : Each P xs) (m : Segments) where
  pub gather_first : hist step xs m ≡ hist step (of_others owner i xs ++ of_owner owner i xs) m
  gather_first = owners.gather_first step owner P i (λ a b q r e n. (free a b (ok a b q r e n)).0) xs p m

  pub gather_last : hist step xs m ≡ hist step (of_owner owner i xs ++ of_others owner i xs) m
  gather_last = owners.gather_last step owner P i (λ a b q r e n. (free a b (ok a b q r e n)).0) xs p m
