-- Source runs, in which each loop is serial, and team runs, in which the iterations of open loops interleave; and what keeps the two together.
use Rattle.std.specs.Prelude.{◌≡◌, ◌≢◌, ℕ, Option, Some, List, [], ◌∷◌, ◌++◌, nat_eq, map, if◌then◌else◌}
use Rattle.xc_commute_histories.specs.History.{hist, Apart, Both, Each, of_owner, of_others, Is, TrapsLast}

-- where a thread of the source stands: anywhere, or at the Enter of a loop, with the memory that it had there
pub data Stand (S M : Type 0) : Type 0 where
  Free : S → Stand S M
  At : S → M → Stand S M

-- what a thread of a team run does: it goes on by itself, or has this loop open
pub data Does (S : Type 0) : Type 0 where
  Plain : S → Does S
  In : S → Does S

-- a thread of the source that is held at an Enter stands for one with that loop open
abbrev pub erase : {S M : Type 0} → Stand S M → Does S
erase (Free s) = Plain s
erase (At s m) = In s

-- thread u has another state
abbrev pub put : {X : Type 0} → (ℕ → X) → ℕ → X → ℕ → X
put f u x v = if nat_eq v u then x else f v

-- the thread of an action
abbrev pub owner : {A : Type 0} → (ℕ × A) → ℕ
owner x = x.0

-- the actions without their threads
abbrev pub acts : {A : Type 0} → List (ℕ × A) → List A
acts xs = map (λ x. x.1) xs

-- threads that begin, each with its state
abbrev pub put_all : {S X : Type 0} → (S → X) → (ℕ → X) → List (ℕ × S) → ℕ → X
put_all into f [] = f
put_all into f (w ∷ ws) = put (put_all into f ws) w.0 (into w.1)

-- A program with actions A, memories M and states S of a thread.
pub record Program (A M S : Type 0) : Type 1 where
  -- the memory after an action; none where it cannot be, as where it waits
  pub step : A → M → Option M
  -- how a thread goes on by itself
  pub can : S → A → S → Type 0
  -- when it may: a thread acts only after its Spawn, a Join stands only after its iterations
  pub Allowed : (ℕ → Does S) → ℕ → A → Type 0
  -- whether its answer is one that this memory can give: a new segment has a number that is not live
  pub Fits : A → M → Type 0
  -- the state of a thread before its Spawn, and which threads an action of this thread starts, in which states: most start none
  pub unborn : S
  pub Starts : (ℕ → Does S) → ℕ → A → List (ℕ × S) → Type 0
  -- the states at the Enter of an automatic loop whose guard holds
  pub Opens : S → Type 0
  -- what the members of that loop may have done so far, the newest first
  pub Team : S → List A → Type 0
  -- what they have done when they leave it, and the state after the loop
  pub Leaves : S → List A → S → Type 0
  -- where each thread begins, and in which memory
  pub first : ℕ → S
  pub memory : M

-- several actions of one thread, the newest first
pub data Block {A S : Type 0} (can : S → A → S → Type 0) (s : S) : List A → S → Type 0 where
  stays : Block can s [] s
  goes : {h : List A} {t : S} → Block can s h t → (a : A) (n : S) → can t a n → Block can s (a ∷ h) n

-- a source run, up to here, its newest action first: each thread goes on by itself alone
pub data Source {A M S : Type 0} (p : Program A M S) : List (ℕ × A) → (ℕ → Stand S M) → M → Type 0 where
  -- nothing is done yet
  begin : Source p [] (λ u. Free (p.first u)) p.memory
  -- a thread goes on by one action, which starts these threads
  act : {h : List (ℕ × A)} {s : ℕ → Stand S M} {m : M} → Source p h s m →
      (u : ℕ) (t n : S) (a : A) (k : M) → s u ≡ Free t → p.Allowed (λ v. erase (s v)) u a → p.can t a n → p.step a m ≡ Some k →
      (ws : List (ℕ × S)) → p.Starts (λ v. erase (s v)) u a ws → Each (λ w. s w.0 ≡ Free p.unborn) ws →
      Source p ((u, a) ∷ h) (put_all Free (put s u (Free n)) ws) k
  -- a thread comes to the Enter of a loop, and is held there
  enter : {h : List (ℕ × A)} {s : ℕ → Stand S M} {m : M} → Source p h s m →
      (u : ℕ) (t n : S) (a : A) (k : M) → s u ≡ Free t → p.Allowed (λ v. erase (s v)) u a → p.can t a n → p.Opens n → p.step a m ≡ Some k →
      p.Starts (λ v. erase (s v)) u a [] → Source p ((u, a) ∷ h) (put s u (At n k)) k
  -- a thread that was held goes on
  go_on : {h : List (ℕ × A)} {s : ℕ → Stand S M} {m : M} → Source p h s m →
      (u : ℕ) (t : S) (e : M) → s u ≡ At t e →
      Source p h (put s u (Free t)) m

-- a team run, up to here, with the actions of the loops that are open, and those outside loops, the newest first
pub data TeamRun {A M S : Type 0} (p : Program A M S) : (ℕ → Does S) → List (ℕ × A) → List (ℕ × A) → M → Type 0 where
  -- nothing is done yet
  begins : TeamRun p (λ u. Plain (p.first u)) [] [] p.memory
  -- a thread that is in no loop goes on by one action, which starts these threads
  acts_alone : {r : ℕ → Does S} {q v : List (ℕ × A)} {m : M} → TeamRun p r q v m →
      (u : ℕ) (t n : S) (a : A) (k : M) → r u ≡ Plain t → p.Allowed r u a → p.can t a n → p.step a m ≡ Some k →
      (ws : List (ℕ × S)) → p.Starts r u a ws → Each (λ w. r w.0 ≡ Plain p.unborn) ws →
      TeamRun p (put_all Plain (put r u (Plain n)) ws) q ((u, a) ∷ v) k
  -- it enters a loop
  enters : {r : ℕ → Does S} {q v : List (ℕ × A)} {m : M} → TeamRun p r q v m →
      (u : ℕ) (t n : S) (a : A) (k : M) → r u ≡ Plain t → p.Allowed r u a → p.can t a n → p.Opens n → p.step a m ≡ Some k →
      p.Starts r u a [] → TeamRun p (put r u (In n)) q ((u, a) ∷ v) k
  -- a member of an open loop acts
  member : {r : ℕ → Does S} {q v : List (ℕ × A)} {m : M} → TeamRun p r q v m →
      (u : ℕ) (t : S) (a : A) (k : M) → r u ≡ In t → p.Team t (a ∷ acts (of_owner owner u q)) → p.step a m ≡ Some k →
      TeamRun p r ((u, a) ∷ q) v k
  -- a loop is left
  leaves : {r : ℕ → Does S} {q v : List (ℕ × A)} {m : M} → TeamRun p r q v m →
      (u : ℕ) (t n : S) → r u ≡ In t → p.Leaves t (acts (of_owner owner u q)) n →
      TeamRun p (put r u (Plain n)) (of_others owner u q) v m

-- two actions that do not conflict
abbrev pub Indep : {A M : Type 0} → (A → M → Option M) → A → A → Type 0
Indep step a b = Apart step a b × Both step a b

-- the cells of the loop at which a thread stands
abbrev pub CellsAt : {A M S : Type 0} → (S → M → A → Type 0) → Stand S M → A → Type 0
CellsAt Cells (Free s) a = ⊥
CellsAt Cells (At s m) a = Cells s m a

-- Quiet, a premise on source runs alone. While a thread stands at the Enter of an automatic loop, neither the next action of another thread, whether
-- it is possible now or waits, with any answer that fits the memory, nor the cells of a loop at whose Enter another thread stands conflict with the loop's cells.
-- Without the accesses that wait the theorem is false: Counter has the program that shows it
pub record Quiet {A M S : Type 0} (p : Program A M S) (Cells : S → M → A → Type 0) : Type 0 where
  pub next : (h : List (ℕ × A)) (s : ℕ → Stand S M) (m : M) → Source p h s m →
      (u v : ℕ) (t n : S) (a c : A) → CellsAt Cells (s u) c → s v ≡ Free t → p.Allowed (λ w. erase (s w)) v a → p.can t a n →
      p.Fits a m → Indep p.step a c
  pub cells : (h : List (ℕ × A)) (s : ℕ → Stand S M) (m : M) → Source p h s m →
      (u v : ℕ) (c d : A) → u ≢ v → CellsAt Cells (s u) c → CellsAt Cells (s v) d →
      Indep p.step c d

-- an action for which no other thread is asked and that starts none, as an access or a tick
abbrev pub Always : {A M S : Type 0} → Program A M S → A → Type 0
Always {A} {M} {S} p a = (r : ℕ → Does S) (u : ℕ) → p.Allowed r u a × p.Starts r u a []

-- a state at the Enter of such a loop, and a memory in which that Enter is possible: it asks that the globals that the guard names hold the
-- values it was taken on. A source run has just come there, so what is said of every Enter of source runs, as that the assertions are true,
-- holds there
abbrev pub OpensAt : {A M S : Type 0} → Program A M S → S → M → Type 0
OpensAt {A} {M} {S} p t e = p.Opens t × (w : S) × (a : A) × (m : M) × p.can w a t × (p.step a m ≡ Some e)
    × (h : List (ℕ × A)) × (s : ℕ → Stand S M) × (u : ℕ) × Source p h s e × (s u ≡ At t e)

-- What is to be proved of answers: an action that is possible fits, and one that fits behind an action of a loop's cells fits before it, since
-- that makes and frees no segment
pub record AnswersFit {A M S : Type 0} (p : Program A M S) (Cells : S → M → A → Type 0) : Type 0 where
  pub possible : (a : A) (m : M) → Is (p.step a m) → p.Fits a m
  pub before : (t : S) (e : M) (c : A) → OpensAt p t e → Cells t e c → (m k : M) → p.step c m ≡ Some k → (a : A) → p.Fits a k → p.Fits a m

-- What is to be proved of each loop by itself, at the memory of its Enter. It is all that differs from one kind of loop to another: that a member's next
-- action is in the loop's cells, that what was done when the loop is left is what its serial trace does, and that where a member traps the serial trace traps
pub record OneLoop {A M S : Type 0} (p : Program A M S) (Cells : S → M → A → Type 0) (Traps : A → Type 0) : Type 0 where
  pub inside : (t : S) (e : M) (a : A) (l : List A) → OpensAt p t e →
      p.Team t (a ∷ l) → Is (hist p.step l e) → Cells t e a
  pub whole : (t n : S) (e k : M) (l : List A) → OpensAt p t e →
      p.Leaves t l n → hist p.step l e ≡ Some k →
      (b : List A) × Block p.can t b n × Each (λ a. Cells t e a × Always p a) b × (hist p.step b e ≡ Some k)
  pub traps : (t : S) (e : M) (a : A) (l : List A) → OpensAt p t e →
      p.Team t (a ∷ l) → Traps a → Is (hist p.step (a ∷ l) e) →
      (b : List A) × (n : S) × Block p.can t b n × TrapsLast Traps b × Each (λ a. Cells t e a × Always p a) b × Is (hist p.step b e)

-- actions of one thread
abbrev pub by : {A : Type 0} → ℕ → List A → List (ℕ × A)
by u b = map (λ a. (u, a)) b

-- the first history has the actions of the second in the same order, and besides whole blocks of loops
pub data Shows {A : Type 0} : List (ℕ × A) → List (ℕ × A) → Type 0 where
  nothing : Shows [] []
  outside : {h v : List (ℕ × A)} → Shows h v → (x : ℕ × A) → Shows (x ∷ h) (x ∷ v)
  loop : {h v : List (ℕ × A)} → Shows h v → (u : ℕ) (b : List A) → Shows (by u b ++ h) v
