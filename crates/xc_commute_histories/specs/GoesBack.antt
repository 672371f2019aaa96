-- Team runs go back to source runs: the statement.
use Rattle.std.specs.Prelude.{◌≡◌, ℕ, Some, List, [], ◌∷◌}
use Rattle.xc_commute_histories.specs.History.{of_owner, TrapsLast}
use Rattle.xc_commute_histories.specs.Runs.{Stand, Does, Plain, In, erase, owner, acts, Program, Source, TeamRun, Shows}

-- a source run, up to here, with the same actions outside loops, whose threads stand where those of the team run do; loops that are open are held at their Enter
pub record IsSourceOf {A M S : Type 0} (p : Program A M S) (r : ℕ → Does S) (v h : List (ℕ × A)) (s : ℕ → Stand S M) (m : M) : Type 0 where
  pub run : Source p h s m
  pub shows : Shows h v
  pub stands : (u : ℕ) → r u ≡ erase (s u)

-- a source run whose newest action is a trap
abbrev pub SomeTrap : {A M S : Type 0} → Program A M S → (A → Type 0) → Type 0
SomeTrap {A} {M} {S} p Traps = (h : List (ℕ × A)) × (s : ℕ → Stand S M) × (m : M) × Source p h s m × TrapsLast (λ x. Traps x.1) h

-- each team run has a source run
pub record GoesBack {A M S : Type 0} (p : Program A M S) (Traps : A → Type 0) : Type 0 where
  -- whatever it has done
  pub so_far : (r : ℕ → Does S) (q v : List (ℕ × A)) (m : M) → TeamRun p r q v m →
      (h : List (ℕ × A)) × (s : ℕ → Stand S M) × (k : M) × IsSourceOf p r v h s k
  -- with the same memory, where no loop is open, as at its end
  pub closed : (r : ℕ → Does S) (q v : List (ℕ × A)) (m : M) → TeamRun p r q v m → ((u : ℕ) → (t : S) × (r u ≡ Plain t)) →
      (h : List (ℕ × A)) × (s : ℕ → Stand S M) × IsSourceOf p r v h s m
  -- that traps, where a member of a loop traps next
  pub member_traps : (r : ℕ → Does S) (q v : List (ℕ × A)) (m k : M) → TeamRun p r q v m →
      (u : ℕ) (t : S) (a : A) → r u ≡ In t → p.Team t (a ∷ acts (of_owner owner u q)) → Traps a → p.step a m ≡ Some k →
      SomeTrap p Traps
  -- and where a thread that is in no loop does
  pub other_traps : (r : ℕ → Does S) (q v : List (ℕ × A)) (m k : M) → TeamRun p r q v m →
      (u : ℕ) (t n : S) (a : A) → r u ≡ Plain t → p.Allowed r u a → p.can t a n → Traps a → p.step a m ≡ Some k →
      p.Starts r u a [] →
      SomeTrap p Traps
