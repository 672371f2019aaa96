-- Runs go on by one step, and end.
use Rattle.std.proofs.Common.{◌≡◌, ℕ, zero, suc, ◌+◌, ◌-◌, ◌^◌, min, List, [], ◌∷◌, ◌++◌, map, true, Option, Some, refl, sym, ap, ◌∙◌, subst, arith}
use Rattle.std.specs.List.{list_all}
use Rattle.xc_isa.specs.declared.code.Code.{Code}
use Rattle.xc_isa.specs.Machine.{State, IsIdle}
use Rattle.xc_isa.specs.Runs.{At, run, onward}
use Rattle.xc_machine_slots.specs.declared.seat.Seat.{Seat}
use Rattle.xc_machine_slots.specs.declared.seat.Seat.TheVariants.{Absent, Free, Taken}
use Rattle.xc_machine.specs.declared.stepped.Stepped.TheVariants as stepped
use Rattle.xc_machine_slots.specs.Registers.{regs_of}
use Rattle.xc_machine_slots.specs.Seats.{slot_of}
use Rattle.xc_machine_slots.specs.Seats.{is_idle}
use Rattle.xc_machine.specs.Limits.{Limits, Steps}
use Rattle.xc_machine.specs.Runs.{Follows, ready_streams}

-- ---- no slot has a stream

pub quits : (xs : List Seat) → list_all (λ o. is_idle o) xs ≡ true → IsIdle (map slot_of xs)
quits [] e s pc r f = cc
quits (Absent ∷ xs) e zero pc r f = cc
quits (Absent ∷ xs) e (suc s) pc r f = quits xs e s pc r f
quits (Free ∷ xs) e zero pc r f = cc
quits (Free ∷ xs) e (suc s) pc r f = quits xs e s pc r f
quits (Taken t ∷ xs) e s pc r f = cc

pub quit_all : (xs : List Seat) → IsIdle (map slot_of xs) → list_all (λ o. is_idle o) xs ≡ true
quit_all [] h = refl
quit_all (Absent ∷ xs) h = quit_all xs (λ s pc r e. h (suc s) pc r e)
quit_all (Free ∷ xs) h = quit_all xs (λ s pc r e. h (suc s) pc r e)
quit_all (Taken t ∷ xs) h = absurd (h 0 t.at (regs_of t.regs) refl)

-- ---- steps

module _ {C : Type 0} (picks : C → List ℕ → Option ℕ → C → Type 0) (code : Code) (limits : Limits) where
  -- one more step
  pub follows_more : (c : C) (st : State) (ss : List ℕ) (d : C) (mid : State) (s : ℕ) (e : C) (new : State) → Follows picks code limits c st ss d mid
      → picks d (ready_streams code mid) (Some s) e → Steps code limits s stepped.Went mid new → Follows picks code limits c st (ss ++ s ∷ []) e new
  follows_more c st [] d mid s e new f p h =
      let P : C → State → Type 0 = λ x y. (a : C) × (b : State) × picks x (ready_streams code y) (Some s) a × Steps code limits s stepped.Went y b × ((a ≡ e) × (b ≡ new)) in
      subst (λ x. P x st) (sym f.0) (subst (P d) (sym f.1) (e, new, p, h, (refl, refl)))
  follows_more c st (t ∷ ss) d mid s e new f p h = (f.0, f.1, f.2, f.3, follows_more f.0 f.1 ss d mid s e new f.4 p h)

  -- what a chooser is followed to is a run
  pub follows_run : (c : C) (st : State) (ss : List ℕ) (d : C) (new : State) → Follows picks code limits c st ss d new → run code ss st ≡ At new
  follows_run c st [] d new f = ap At f.1
  follows_run c st (s ∷ ss) d new f = ap (λ a. onward a ss (run code ss)) f.3.0 ∙ follows_run f.0 f.1 ss d new f.4

pub count_more : (n made now next : ℕ) → now ≡ min (n + made) (2 ^ 64 - 1) → next ≡ min (now + 1) (2 ^ 64 - 1) → next ≡ min (n + (made + 1)) (2 ^ 64 - 1)
count_more n made now next e f = omega (arith, e, f)
