-- What is promised of code: each of its runs stands for a source run, some stream is ready until it ends, and it ends in time.
use Rattle.std.specs.Prelude.{◌≡◌, ◌⊎◌, ℕ, ◌+◌, ◌*◌, ◌≤◌, Bool, List, [], length, sum_by, IsTrue, not}
use Rattle.xc_meaning_world.specs.World.{World}
use Rattle.xc_isa.specs.declared.code.Code.{Code}
use Rattle.xc_isa.specs.declared.instr.TrapKind.{TrapKind}
use Rattle.xc_isa.specs.Machine.{State, Spent, start, step, HasQuit, IsReady, live_words}
use Rattle.xc_isa.specs.Runs.{At, Trap, run}
use Rattle.xc_meaning_terms.specs.Terms.{Program}
use Rattle.xc_meaning_threads.specs.Events.{Event}
use Rattle.xc_meaning_source.specs.Source.{SourceRun, HasEnded, HasTrapped}
use Rattle.xc_meaning_source.specs.Work.{ticks, most_calls, most_words, work_in}
use Rattle.xc_meaning_source.specs.Premises.{Quiet, AssertionsHold}
use Rattle.xc_meaning_serial.specs.Serial.{is_explicit}
use Rattle.xc_gen_promises.specs.Tags.{waits_for_none}

-- a machine: 1 to 64 processors, each of 1 to 128 streams
abbrev pub IsMachine : ℕ → ℕ → Type 0
IsMachine processors streams = ((1 ≤ processors) × (processors ≤ 64)) × ((1 ≤ streams) × (streams ≤ 128))

-- a run of the code on such a machine comes to this state, or to this trap
abbrev pub ComesTo : Code → ℕ → ℕ → List ℕ → State → Type 0
ComesTo c processors streams slots st = IsMachine processors streams × (run c slots (start c processors streams) ≡ At st)

abbrev pub TrapsWith : Code → ℕ → ℕ → List ℕ → TrapKind → Type 0
TrapsWith c processors streams slots kind = IsMachine processors streams × (run c slots (start c processors streams) ≡ Trap kind)

-- the same output, and the same cells of the globals, values and states
abbrev pub SameResult : ℕ → World → World → Type 0
SameResult globals v w = (v.out ≡ w.out) × ((g : ℕ) → g ≤ globals → v.segs g ≡ w.segs g)

-- For every number of processors and streams and every interleaving, a run of the code that has ended has the result of a source run
-- that has ended, and a run that has trapped has a source run that has trapped.
pub record StandsFor (p : Program) (c : Code) : Type 0 where
  pub ends : (processors streams : ℕ) (slots : List ℕ) (st : State) → ComesTo c processors streams slots st → HasQuit st →
      (l : List (ℕ × Event)) × (v : World) × SourceRun p l v × HasEnded p l × SameResult (length p.globals) v st.world
  pub traps : (processors streams : ℕ) (slots : List ℕ) (kind : TrapKind) → TrapsWith c processors streams slots kind →
      (l : List (ℕ × Event)) × (v : World) × SourceRun p l v × HasTrapped l

-- where the program is Quiet and what its pragmas assert is true, of the loops that are automatic
abbrev pub Faithful : Program → (ℕ → Bool) → Code → Type 0
Faithful p is_automatic c = Quiet p is_automatic → AssertionsHold p is_automatic → StandsFor p c

-- In every state that a run reaches, all slots are free or some stream is ready.
pub record NeverStuck (c : Code) : Type 0 where
  pub ready : (processors streams : ℕ) (slots : List ℕ) (st : State) → ComesTo c processors streams slots st → HasQuit st ⊎ ((s : ℕ) × IsReady c s st)

-- of a program that waits for no cell
abbrev pub NoStuck : Program → Code → Type 0
NoStuck p c = IsTrue (waits_for_none p) → NeverStuck c

-- ---- bounds

-- Every source run has at most so many ticks, so much work, so many words of automatic objects, and so many calls open at once.
pub record AtMost (p : Program) (tick_count work word_count call_count : ℕ) : Type 0 where
  pub few_ticks : (l : List (ℕ × Event)) (v : World) → SourceRun p l v → ticks l ≤ tick_count
  pub little_work : (l : List (ℕ × Event)) (v : World) → SourceRun p l v → work_in p l ≤ work
  pub few_words : (l : List (ℕ × Event)) (v : World) → SourceRun p l v → most_words [] l ≤ word_count
  pub few_calls : (l : List (ℕ × Event)) (v : World) → SourceRun p l v → most_calls 1 l ≤ call_count

-- no source run prints more bytes
abbrev pub PrintsAtMost : Program → ℕ → Type 0
PrintsAtMost p n = (l : List (ℕ × Event)) (v : World) → SourceRun p l v → length v.out ≤ n

abbrev pub words_of_globals : Program → ℕ
words_of_globals p = sum_by length p.globals

-- the bound on steps, by the size of the largest expression with the locals of one function, the streams, the ticks and the work
abbrev pub step_bound : ℕ → ℕ → ℕ → ℕ → ℕ
step_bound size streams tick_count work = 64 * (size + streams + 1) * (tick_count + work + 1)

-- the bound on live words, by the globals, the automatic objects, that size, the streams, the calls and the functions
abbrev pub word_bound : ℕ → ℕ → ℕ → ℕ → ℕ → ℕ → ℕ
word_bound globals word_count size streams calls functions = globals + word_count + 16 * (size + 8) * (streams + 1) * (calls + functions + 1)

-- No run is longer than its source's ticks and work allow, none has more live words than the bound, none comes to a step for which the
-- numbers of segments are spent, and none prints more than source runs do. `size` is the largest number of tokens, after macros, in one
-- expression or declaration, with the parameters and locals of one function; a text has it and a tree has not, so it is given.
pub record Bounded (p : Program) (size : ℕ) (c : Code) : Type 0 where
  pub steps : (processors streams n work words calls : ℕ) → AtMost p n work words calls → (slots : List ℕ) (st : State) →
      ComesTo c processors streams slots st → length slots ≤ step_bound size (processors * streams) n work
  pub steps_to_trap : (processors streams n work words calls : ℕ) → AtMost p n work words calls → (slots : List ℕ) (kind : TrapKind) →
      TrapsWith c processors streams slots kind → length slots ≤ step_bound size (processors * streams) n work
  pub words : (processors streams n work words calls : ℕ) → AtMost p n work words calls → (slots : List ℕ) (st : State) →
      ComesTo c processors streams slots st → live_words st ≤ word_bound (words_of_globals p) words size (processors * streams) calls (length p.functions)
  pub numbers : (processors streams n work words calls : ℕ) → AtMost p n work words calls → (slots : List ℕ) (st : State) →
      ComesTo c processors streams slots st → (s : ℕ) → step c s st ≡ Spent → ⊥
  pub output : (processors streams n : ℕ) → PrintsAtMost p n → (slots : List ℕ) (st : State) → ComesTo c processors streams slots st → length st.world.out ≤ n

-- of a program that waits for no cell and has one thread, where what its pragmas assert is true
abbrev pub Ends : Program → (ℕ → Bool) → ℕ → Code → Type 0
Ends p is_automatic size c = IsTrue (waits_for_none p) → IsTrue (not (is_explicit p)) → AssertionsHold p is_automatic → Bounded p size c
