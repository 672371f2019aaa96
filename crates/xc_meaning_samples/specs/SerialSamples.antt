-- Answers of serial runs of small programs.
use Rattle.std.specs.Prelude.{ℕ, List, [], ◌∷◌, codes, Some, None}
use Rattle.xc_word.specs.Table.{full_with, empty_with}
use Rattle.xc_word.specs.declared.memory.Kind.TheVariants as kind
use Rattle.xc_tree.specs.declared.operator.BinOp.TheVariants as op
use Rattle.xc_meaning_world.specs.World.{Print as Shows, Got, world_of}
use Rattle.xc_text_format.specs.Pieces.{text_of}
use Rattle.xc_meaning_terms.specs.Terms.{Number, Set, Global, Read, Write, Print, NoMore, More, Declare, Eval, Return, Program}
use Rattle.xc_meaning_threads.specs.Events.{Event, event, Of}
use Rattle.xc_meaning_source.specs.Work.{world_after}
use Rattle.xc_meaning_serial.specs.Serial.{Done, Trap, Blocked, Limit, Explicit, IsAnswer}
use Rattle.xc_meaning_samples.specs.Samples.{on_ints, function, t, reach, stop, concurrent}

-- int x; int main() { x = 2 + 3 * 4; printf("%ld\n", x); return 0; }
abbrev pub sum : Program
sum = record {
  globals = (full_with 0 ∷ []) ∷ [];
  formats = codes "%ld\n" ∷ [];
  functions = function [] (
      Eval (Write kind.WriteXf (Global 0) (on_ints op.Add (Number 2) (on_ints op.Mul (Number 3) (Number 4))))
      ∷ Eval (Print 0 (More (Read kind.ReadXx (Global 0)) NoMore))
      ∷ Return (Some (Number 0)) ∷ []) ∷ [];
  main = 0;
}

abbrev pub printed : List ℕ
printed = text_of (codes "%ld\n") (14 ∷ [])

-- up to its last statement, and whole
abbrev pub sum_begun : List (ℕ × Event)
sum_begun = (0, t) ∷ (0, t) ∷ (0, reach kind.WriteXf 1 0 14 (Got 0)) ∷ (0, t) ∷ (0, reach kind.ReadXx 1 0 0 (Got 14)) ∷ (0, event (Of (Shows printed)) (Got 0)) ∷ []

abbrev pub sum_run : List (ℕ × Event)
sum_run = (0, t) ∷ (0, t) ∷ (0, reach kind.WriteXf 1 0 14 (Got 0)) ∷ (0, t) ∷ (0, reach kind.ReadXx 1 0 0 (Got 14)) ∷ (0, event (Of (Shows printed)) (Got 0)) ∷ (0, t) ∷ []

-- with 4 ticks it is done, with 3 it is not
abbrev pub SumIsDone : Type 0
SumIsDone = IsAnswer sum 4
    (Done (record { output = printed; memory = (world_after (world_of sum.globals) sum_run).segs; ticks = 4; work = 0; words = 0; calls = 1 }))

abbrev pub SumIsLimited : Type 0
SumIsLimited = IsAnswer sum 3 Limit

-- sync int s$; int main() { int x; x = s$; return 0; }
abbrev pub waiting : Program
waiting = record {
  globals = (empty_with 0 ∷ []) ∷ [];
  formats = [];
  functions = function [] (Declare 0 None ∷ Eval (Set 0 (Read kind.ReadFe (Global 0))) ∷ Return (Some (Number 0)) ∷ []) ∷ [];
  main = 0;
}

abbrev pub waiting_run : List (ℕ × Event)
waiting_run = (0, t) ∷ (0, t) ∷ (0, t) ∷ []

abbrev pub WaitingIsBlocked : Type 0
WaitingIsBlocked = IsAnswer waiting 10 Blocked

-- int main() { return 1 / 0; }
abbrev pub dividing : Program
dividing = record { globals = []; formats = []; functions = function [] (Return (Some (on_ints op.Div (Number 1) (Number 0))) ∷ []) ∷ []; main = 0 }

abbrev pub dividing_run : List (ℕ × Event)
dividing_run = (0, t) ∷ (0, t) ∷ (0, stop) ∷ []

abbrev pub DividingTraps : Type 0
DividingTraps = IsAnswer dividing 10 Trap

-- a program with a Concurrent loop
abbrev pub ConcurrentIsExplicit : Type 0
ConcurrentIsExplicit = IsAnswer concurrent 10 Explicit

abbrev pub SerialSamples : Type 0
SerialSamples = SumIsDone × SumIsLimited × WaitingIsBlocked × DividingTraps × ConcurrentIsExplicit
