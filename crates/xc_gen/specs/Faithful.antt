-- What is promised of code: each of its runs stands for a source run, some stream is ready until it ends, and it ends in time.
use Rattle.std.specs.Prelude.{◌≡◌, ◌⊎◌, ℕ, ◌+◌, ◌*◌, ◌≤◌, List, length, max, sum_by}
use Rattle.xc_meaning_world.specs.World.{World, Action}
use Rattle.xc_meaning_world.specs.Runs.{HasTrapped, ticks}
use Rattle.xc_isa.specs.declared.code.Code.{Code}
use Rattle.xc_isa.specs.declared.instr.TrapKind.{TrapKind}
use Rattle.xc_isa.specs.Machine.{State, Spent, start, step, HasQuit, IsReady, live_words}
use Rattle.xc_isa.specs.Runs.{At, Trap, run}
use Rattle.xc_meaning.specs.Terms.{Term, Number, Read, Write, Update, Unary, Binary, And, Or, Cond, Comma, Print, Terms, NoMore, More, Command, Empty, Eval, Block, Return, Commands, End, Then, Program}
use Rattle.xc_meaning.specs.Source.{SourceRun, HasEnded}
use Rattle.xc_gen_promises.specs.Promises.{IsMachine, SameResult}

-- For every number of processors and streams and every interleaving, a run of the code that has ended has the result of a source run that has
-- ended, and a run that has trapped has a source run that has trapped.
pub record Faithful (p : Program) (c : Code) : Type 0 where
  pub ends : (processors streams : ℕ) → IsMachine processors streams → (slots : List ℕ) (st : State) → run c slots (start c processors streams) ≡ At st → HasQuit st →
      (l : List (ℕ × Action)) × (v : World) × SourceRun p l v × HasEnded p l × SameResult (length p.globals) v st.world
  pub traps : (processors streams : ℕ) → IsMachine processors streams → (slots : List ℕ) (kind : TrapKind) → run c slots (start c processors streams) ≡ Trap kind →
      (l : List (ℕ × Action)) × (v : World) × SourceRun p l v × HasTrapped l

-- In every state that a run reaches, all slots are free or some stream is ready.
pub record NoStuck (c : Code) : Type 0 where
  pub ready : (processors streams : ℕ) → IsMachine processors streams → (slots : List ℕ) (st : State) → run c slots (start c processors streams) ≡ At st →
      HasQuit st ⊎ ((s : ℕ) × IsReady c s st)

-- ---- bounds

-- the size of a term: each part counts one, but a plain assignment and `?:` two, and a `printf` four and one for each argument
abbrev mutual
  pub size_of : Term → ℕ
  size_of (Number n) = 1
  size_of (Read g) = 1
  size_of (Write g value) = size_of value + 2
  size_of (Update op unsigned post g value) = size_of value + 1
  size_of (Unary op of) = size_of of + 1
  size_of (Binary op unsigned a b) = size_of a + size_of b + 1
  size_of (And a b) = size_of a + size_of b + 1
  size_of (Or a b) = size_of a + size_of b + 1
  size_of (Cond test a b) = size_of test + size_of a + size_of b + 2
  size_of (Comma a b) = size_of a + size_of b + 1
  size_of (Print format args) = size_of_all args + 4
  size_of (Term.Unbuilt at) = 1

  pub size_of_all : Terms → ℕ
  size_of_all NoMore = 0
  size_of_all (More e es) = size_of e + size_of_all es + 1

-- the size of the largest expression
abbrev mutual
  pub largest : Command → ℕ
  largest Empty = 0
  largest (Eval e) = size_of e
  largest (Block all) = largest_among all
  largest (Return e) = size_of e
  largest (Command.Unbuilt at) = 0

  pub largest_among : Commands → ℕ
  largest_among End = 0
  largest_among (Then s ss) = max (largest s) (largest_among ss)

-- no source run has more ticks
abbrev pub TicksAtMost : Program → ℕ → Type 0
TicksAtMost p n = (l : List (ℕ × Action)) (v : World) → SourceRun p l v → ticks l ≤ n

-- no source run prints more bytes
abbrev pub PrintsAtMost : Program → ℕ → Type 0
PrintsAtMost p n = (l : List (ℕ × Action)) (v : World) → SourceRun p l v → length v.out ≤ n

abbrev pub words_of_globals : Program → ℕ
words_of_globals p = sum_by length p.globals

-- the bound on steps, by what the largest expression, the streams and the ticks are
abbrev pub step_bound : ℕ → ℕ → ℕ → ℕ
step_bound t streams n = 64 * (t + streams + 1) * (n + 1)

-- the bound on live words; main is the one function, and the one call
abbrev pub word_bound : ℕ → ℕ → ℕ → ℕ
word_bound globals t streams = globals + 16 * (t + 8) * (streams + 1) * 3

-- No run is longer than its source's ticks allow, none has more live words than the bound, none comes to a step for which the
-- numbers of segments are spent, and none prints more than source runs do.
pub record Ends (p : Program) (c : Code) : Type 0 where
  pub steps : (processors streams n : ℕ) → IsMachine processors streams → TicksAtMost p n → (slots : List ℕ) (st : State) → run c slots (start c processors streams) ≡ At st →
      length slots ≤ step_bound (largest p.body) (processors * streams) n
  pub steps_to_trap : (processors streams n : ℕ) → IsMachine processors streams → TicksAtMost p n → (slots : List ℕ) (kind : TrapKind) → run c slots (start c processors streams) ≡ Trap kind →
      length slots ≤ step_bound (largest p.body) (processors * streams) n
  pub words : (processors streams : ℕ) → IsMachine processors streams → (slots : List ℕ) (st : State) → run c slots (start c processors streams) ≡ At st →
      live_words st ≤ word_bound (words_of_globals p) (largest p.body) (processors * streams)
  pub numbers : (processors streams : ℕ) → IsMachine processors streams → (slots : List ℕ) (st : State) → run c slots (start c processors streams) ≡ At st → (s : ℕ) → step c s st ≡ Spent → ⊥
  pub output : (processors streams n : ℕ) → IsMachine processors streams → PrintsAtMost p n → (slots : List ℕ) (st : State) → run c slots (start c processors streams) ≡ At st →
      length st.world.out ≤ n
