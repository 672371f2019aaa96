-- Deeds that do not conflict can be exchanged, so a program is quiet where its deeds do not conflict.
use Rattle.std.specs.Prelude.{Option, Some, None}
use Rattle.std.proofs.Common.{◌≡◌, ℕ, refl, sym, subst}
use Rattle.xc_commute_histories.specs.History.{after}
use Rattle.xc_commute_histories.specs.Runs.{Program, Indep, Quiet}
use Rattle.xc_commute_histories.proofs.OpenLoops.{Indep-sym}
use Rattle.xc_commute_histories.proofs.Owner.{Is-along}
use Rattle.xc_word.specs.Cells.{Segments}
use Rattle.xc_commute.specs.Threads.{Deed, Touches, Marks, Traps, after_deed, DeedsConflict, State, IsQuiet, ActsOnMemory}
use Rattle.xc_commute.proofs.Touches.{independent}

same : (o : Option Segments) → after (λ m. Some m) o ≡ o
same None = refl
same (Some m) = refl

mark_first : (n : ℕ) (b : Deed) → Indep after_deed (Marks n) b
mark_first n b = (λ m. same (after_deed b m), λ m da db. Is-along _ _ (sym (same (after_deed b m))) db)

trap_first : (b : Deed) → Indep after_deed Traps b
trap_first b = (λ m. same (after_deed b m), λ m da db. Is-along _ _ (sym (same (after_deed b m))) db)

pub deeds_independent : (a b : Deed) → (¬ DeedsConflict a b) → Indep after_deed a b
deeds_independent (Touches a x) (Touches b y) n = independent a b x y n
deeds_independent (Touches a x) (Marks m) n = Indep-sym after_deed (Marks m) (Touches a x) (mark_first m (Touches a x))
deeds_independent (Touches a x) Traps n = Indep-sym after_deed Traps (Touches a x) (trap_first (Touches a x))
deeds_independent (Marks m) b n = mark_first m b
deeds_independent Traps b n = trap_first b

pub quiet_by_touches : (p : Program Deed Segments State) (Cells : State → Segments → Deed → Type 0) → ActsOnMemory p → IsQuiet p Cells → Quiet p Cells
quiet_by_touches p Cells e q = record {
  next = λ h s m src u v t n a c o is may g fits. subst (λ f. Indep f a c) (sym e) (deeds_independent a c (q.next h s m src u v t n a c o is may g fits));
  cells = λ h s m src u v c d ne o w. subst (λ f. Indep f c d) (sym e) (deeds_independent c d (q.cells h s m src u v c d ne o w));
}
