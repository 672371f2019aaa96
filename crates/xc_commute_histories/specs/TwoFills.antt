-- A program that meets what the theorem asks: one loop of two iterations, each of which fills a flag of its own.
--
--     for (i = 0; i < 2; i++) a[i] = 1;
use Rattle.std.specs.Prelude.{◌≡◌, ℕ, zero, suc, Option, Some, List, [], ◌∷◌, Bool, true, false}
use Rattle.xc_commute_histories.specs.Runs.{Program}

-- the memory: whether a[0] and a[1] are written
pub record Flags : Type 0 where
  pub zeroth : Bool
  pub first : Bool

pub data Fill : Type 0 where
  Begin FillZeroth FillFirst Finish : Fill

pub data Stage : Type 0 where
  Outside Standing Half Whole Over : Stage

abbrev pub filled : Fill → Flags → Option Flags
filled Begin m = Some m
filled FillZeroth m = Some (record { zeroth = true; first = m.first })
filled FillFirst m = Some (record { zeroth = m.zeroth; first = true })
filled Finish m = Some m

-- the serial loop
pub data Serial : Stage → Fill → Stage → Type 0 where
  begins : Serial Outside Begin Standing
  zeroth_turn : Serial Standing FillZeroth Half
  first_turn : Serial Half FillFirst Whole
  finishes : Serial Whole Finish Over

-- what two members may have done, the newest first
pub data Members : Stage → List Fill → Type 0 where
  zeroth_alone : Members Standing (FillZeroth ∷ [])
  first_alone : Members Standing (FillFirst ∷ [])
  zeroth_then_first : Members Standing (FillFirst ∷ FillZeroth ∷ [])
  first_then_zeroth : Members Standing (FillZeroth ∷ FillFirst ∷ [])

-- they leave the loop when both have filled their flags
pub data Out : Stage → List Fill → Stage → Type 0 where
  in_order : Out Standing (FillFirst ∷ FillZeroth ∷ []) Over
  turned : Out Standing (FillZeroth ∷ FillFirst ∷ []) Over

abbrev pub begin_at : ℕ → Stage
begin_at zero = Outside
begin_at (suc n) = Over

abbrev pub two_fills : Program Fill Flags Stage
two_fills = record {
  step = filled;
  can = Serial;
  Allowed = λ r u a. Unit {0};
  Fits = λ a m. Unit {0};
  unborn = Over;
  Starts = λ r u a ws. ws ≡ [];
  Opens = λ s. s ≡ Standing;
  Team = Members;
  Leaves = Out;
  first = begin_at;
  memory = record { zeroth = false; first = false };
}
