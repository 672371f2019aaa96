-- Team runs go back to source runs, as GoesBack states it.
use Rattle.std.specs.Prelude.{Some}
use Rattle.std.proofs.Common.{◌≡◌, ℕ, List, [], ◌∷◌, ◌++◌}
use Rattle.xc_commute_histories.specs.History.{TrapsLast, of_owner}
use Rattle.xc_commute_histories.specs.Runs.{Does, In, owner, acts, by, Program, TeamRun, Quiet, AnswersFit, OneLoop}
use Rattle.xc_commute_histories.specs.GoesBack.{GoesBack, SomeTrap}
use Rattle.xc_commute_histories.proofs.OpenLoops.{shift, closed, by_trap, by_other}

last_of_block : {A : Type 0} (Traps : A → Type 0) (u : ℕ) (b : List A) (h : List (ℕ × A)) → TrapsLast Traps b → TrapsLast (λ x. Traps x.1) (by u b ++ h)
last_of_block Traps u [] h t = absurd t
last_of_block Traps u (a ∷ b) h t = t

module _ {A M S : Type 0} (p : Program A M S) (Cells : S → M → A → Type 0) (Traps : A → Type 0) (quiet : Quiet p Cells) (answers : AnswersFit p Cells) (loops : OneLoop p Cells Traps) where
  trap_of_member : (r : ℕ → Does S) (q v : List (ℕ × A)) (m k : M) → TeamRun p r q v m → (u : ℕ) (t : S) (a : A) → r u ≡ In t → p.Team t (a ∷ acts (of_owner owner u q)) → Traps a → p.step a m ≡ Some k → SomeTrap p Traps
  trap_of_member r q v m k run u t a is team trap e =
      let i = shift p Cells Traps quiet answers loops run in
      let w = by_trap p Cells Traps quiet answers loops r q v m i u t is a k team trap e in
      (_, _, w.4, w.6, last_of_block Traps u w.0 _ w.3)

  pub goes_back : GoesBack p Traps
  goes_back = record {
    so_far = λ r q v m run. (let i = shift p Cells Traps quiet answers loops run in (i.h, i.s, i.k, record { run = i.src; shows = i.shown; stands = i.match }));
    closed = λ r q v m run over. (let c = closed p Cells Traps quiet answers loops run over in (c.0, c.1, record { run = c.2; shows = c.3; stands = c.4 }));
    member_traps = trap_of_member;
    other_traps = λ r q v m k run u t n a is may c trap e starts.
        (let w = by_other p Cells Traps quiet answers loops r q v m (shift p Cells Traps quiet answers loops run) u t n a k is may c e [] (starts, tt) in (_, _, w.0, w.1, trap));
  }
