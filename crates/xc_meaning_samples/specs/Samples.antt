-- Small programs with replies that their requests get, and what their threads then do.
use Rattle.std.specs.Prelude.{◌≡◌, ℕ, ◌+◌, ◌-◌, ◌*◌, ◌^◌, Bool, true, false, List, [], ◌∷◌, ◌++◌, codes, replicate, Option, Some, None}
use Rattle.xc_word.specs.declared.memory.Kind.{Kind}
use Rattle.xc_word.specs.declared.memory.Kind.TheVariants as kind
use Rattle.xc_tree.specs.declared.operator.BinOp.{BinOp}
use Rattle.xc_tree.specs.declared.operator.BinOp.TheVariants as op
use Rattle.xc_word.specs.Table.{full_with}
use Rattle.xc_meaning_world.specs.World.{Reach, New, Free, On, Print as Shows, Stop, Tick, Reply, Got, Dead, world_of}
use Rattle.xc_text_format.specs.Pieces.{text_of}
use Rattle.xc_meaning_terms.specs.Terms.{Term, Number, Local, Set, UpdateLocal, Global, Index, Member, Cond, Read, Write, FetchAdd, Update, Binary, Call, Print, NoMore, More, Formal, ByValue, InMemory, Range, Mark, Unmarked, Normal, Concurrent, Command, Empty, Declare, Object, Eval, Block, If, IfElse, Loop, Switch, Return, Break, Continue, Future, Commands, End, Then, Items, NoItem, At, Other, Do, Function, Program}
use Rattle.xc_meaning_terms.specs.declared.operation.Operation.TheVariants.{OnWords, PointerPlus, PointerMinus, Order, Distance}
use Rattle.xc_meaning_threads.specs.Events.{Of, CallBegins, CallEnds, Enter, Leave, Spawn, Fork, Join, Event, event, mark, Task, Main, Body, Turn, by_thread}
use Rattle.xc_meaning_threads.specs.Meaning.{trace_of, run_of}
use Rattle.xc_meaning_source.specs.Source.{SourceRun, HasEnded}
use Rattle.xc_meaning_source.specs.Cells.{Visit, cells_of_turn, cells_of_loop, cells_taken}
use Rattle.xc_meaning_source.specs.Work.{world_after, work_in, most_words, most_calls}
use Rattle.xc_meaning_source.specs.Work

-- ---- words for programs

abbrev pub on_ints : BinOp → Term → Term → Term
on_ints o a b = Binary (OnWords o false) a b

abbrev pub add_to : ℕ → Term → Term
add_to x e = UpdateLocal (OnWords op.Add false) false x e

abbrev pub one_by_one : List Command → Commands
one_by_one [] = End
one_by_one (c ∷ cs) = Then c (one_by_one cs)

abbrev pub block : List Command → Command
block cs = Block (one_by_one cs)

abbrev pub loop_of : Mark → Bool → Option Term → Option Term → List Command → Command → Command
loop_of mark late test step init body = Loop (record { mark = mark; late = late; test = test; step = step }) (one_by_one init) body

abbrev pub function : List Formal → List Command → Function
function fs cs = record { formals = fs; body = block cs }

-- a program whose first function is `main`
abbrev pub program : List (List ℕ) → List Function → Program
program formats fns = record { globals = []; formats = formats; functions = fns; main = 0 }

abbrev pub main_alone : List Command → Program
main_alone cs = program [] (function [] cs ∷ [])

-- ---- words for events

abbrev pub t : Event
t = mark (Of Tick)

abbrev pub ticks : ℕ → List Event
ticks n = replicate n t

abbrev pub reach : Kind → ℕ → ℕ → ℕ → Reply → Event
reach k seg off v a = event (Of (On (Reach (record { kind = k; place = record { seg = seg; off = off }; value = v })))) a

abbrev pub new : ℕ → ℕ → Event
new cells seg = event (Of (On (New cells))) (Got (seg * 2 ^ 32))

abbrev pub free : ℕ → Event
free seg = event (Of (On (Free seg))) (Got 0)

abbrev pub stop : Event
stop = event (Of Stop) Dead

-- what a thread of the program does with these replies
abbrev pub Does : Program → Task → List Reply → List Event → Type 0
Does p task rs l = trace_of (run_of p 9 task rs) ≡ l

abbrev pub pointer : ℕ → ℕ → Reply
pointer seg off = Got (seg * 2 ^ 32 + off)

-- ---- loops

-- int i; for (i = 0; ; i++) { if (i == 2) break; } return i;
abbrev pub loop_with_break : Program
loop_with_break = main_alone (
    Declare 0 None
    ∷ loop_of Unmarked false None (Some (add_to 0 (Number 1))) (Eval (Set 0 (Number 0)) ∷ []) (block (If (on_ints op.Eq (Local 0) (Number 2)) Break ∷ []))
    ∷ Return (Some (Local 0)) ∷ [])

abbrev pub LoopWithBreak : Type 0
LoopWithBreak = Does loop_with_break Main [] (ticks 15)

-- int i = 0; do { i++; if (i == 1) continue; } while (i < 2);
abbrev pub late_loop : Program
late_loop = main_alone (
    Declare 0 (Some (Number 0))
    ∷ loop_of Unmarked true (Some (on_ints op.Lt (Local 0) (Number 2))) None []
    (block (Eval (add_to 0 (Number 1)) ∷ If (on_ints op.Eq (Local 0) (Number 1)) Continue ∷ [])) ∷ [])

abbrev pub LateLoop : Type 0
LateLoop = Does late_loop Main [] (ticks 12)

-- nothing is asserted of the loop, which is stable
abbrev pub range_of : ℕ → ℕ → ℕ → BinOp → Bool → ℕ → Range
range_of id locals index order down step = record {
  id = id;
  index = index;
  order = order;
  down = down;
  step = step;
  local_count = locals;
  stable = true;
  claims = record { nodep = []; noalias = []; roots = [] };
}

-- a loop with the index 0 that goes up below a bound
abbrev pub range : ℕ → ℕ → ℕ → Range
range id locals step = range_of id locals 0 op.Lt false step

abbrev pub below_two : Term
below_two = on_ints op.Lt (Local 0) (Number 2)

abbrev pub normal_body : Command
normal_body = Eval (Write kind.WriteXf (Global 0) (Local 0))

-- int i, j = 5; for (i = 0; i < 2; i++) g = i; of a global g, where the loop is in normal form
abbrev pub normal_loop : Program
normal_loop = main_alone (
    Declare 0 None ∷ Declare 1 (Some (Number 5))
    ∷ loop_of (Normal (range 0 2 1)) false (Some below_two) (Some (add_to 0 (Number 1))) (Eval (Set 0 (Number 0)) ∷ []) normal_body ∷ [])

abbrev pub NormalLoop : Type 0
NormalLoop = Does normal_loop Main (Got 0 ∷ Got 0 ∷ []) (
    ticks 5 ++ (mark (Enter (range 0 2 1) (Some below_two) normal_body (0 ∷ 5 ∷ []))
    ∷ t ∷ t ∷ reach kind.WriteXf 1 0 0 (Got 0)
    ∷ t ∷ t ∷ reach kind.WriteXf 1 0 1 (Got 0)
    ∷ t ∷ mark (Leave 0) ∷ []))

-- while (1) ;
abbrev pub EndlessLoop : Type 0
EndlessLoop = trace_of (run_of (main_alone (loop_of Unmarked false (Some (Number 1)) None [] Empty ∷ [])) 3 Main []) ≡ ticks 8

-- ---- calls

-- int f(int n) { if (n == 0) return 0; return n + f(n - 1); } int main() { return g = f(2); }
abbrev pub recursive : Program
recursive = program [] (
    function [] (Return (Some (Write kind.WriteXf (Global 0) (Call 1 (More (Number 2) NoMore)))) ∷ [])
    ∷ function (ByValue 0 ∷ []) (
    If (on_ints op.Eq (Local 0) (Number 0)) (Return (Some (Number 0)))
    ∷ Return (Some (on_ints op.Add (Local 0) (Call 1 (More (on_ints op.Sub (Local 0) (Number 1)) NoMore)))) ∷ []) ∷ [])

abbrev pub RecursiveCall : Type 0
RecursiveCall = Does recursive Main (Got 0 ∷ []) (
    t ∷ t ∷ mark CallBegins ∷ t ∷ t ∷ t ∷ mark CallBegins ∷ t ∷ t ∷ t ∷ mark CallBegins ∷ t ∷ t ∷ t
    ∷ mark CallEnds ∷ mark CallEnds ∷ mark CallEnds ∷ reach kind.WriteXf 1 0 3 (Got 0) ∷ [])

-- int f(int n) { g(&n); .. }: the parameter is in memory
abbrev pub in_memory : Program
in_memory = program [] (
    function [] (Eval (Call 1 (More (Number 7) NoMore)) ∷ [])
    ∷ function (InMemory 0 ∷ []) (Return (Some (Read kind.ReadXx (Local 0))) ∷ []) ∷ [])

abbrev pub ParameterInMemory : Type 0
ParameterInMemory = Does in_memory Main (pointer 5 0 ∷ Got 0 ∷ Got 7 ∷ Got 0 ∷ []) (
    t ∷ t ∷ mark CallBegins ∷ new 1 5 ∷ reach kind.WriteXf 5 0 7 (Got 0) ∷ t ∷ t ∷ reach kind.ReadXx 5 0 0 (Got 7) ∷ free 5 ∷ mark CallEnds ∷ [])

-- ---- objects in memory

-- int a[2] = {7, 8}; return a[1];
abbrev pub array : Program
array = main_alone (
    Object 0 2 [] ((0, Number 7) ∷ (1, Number 8) ∷ [])
    ∷ Return (Some (Read kind.ReadXx (Index (Some 2) false 1 (Local 0) (Number 1)))) ∷ [])

abbrev pub ArrayWithInitialiser : Type 0
ArrayWithInitialiser = Does array Main (pointer 5 0 ∷ Got 0 ∷ Got 0 ∷ Got 8 ∷ Got 0 ∷ []) (
    t ∷ t ∷ new 2 5 ∷ reach kind.WriteXf 5 0 7 (Got 0) ∷ reach kind.WriteXf 5 1 8 (Got 0)
    ∷ t ∷ reach kind.ReadXx 5 1 0 (Got 8) ∷ free 5 ∷ [])

-- while (1) { sync int s, u; break; }
abbrev pub left_block : Program
left_block = main_alone (
    loop_of Unmarked false (Some (Number 1)) None [] (block (Object 0 1 (0 ∷ []) [] ∷ Object 1 1 (0 ∷ []) [] ∷ Break ∷ [])) ∷ [])

abbrev pub BlockLeftByBreak : Type 0
BlockLeftByBreak = Does left_block Main (pointer 5 0 ∷ Got 0 ∷ pointer 6 0 ∷ Got 0 ∷ Got 0 ∷ Got 0 ∷ []) (
    ticks 4 ++ (t ∷ new 1 5 ∷ reach kind.Purge 5 0 0 (Got 0) ∷ t ∷ new 1 6 ∷ reach kind.Purge 6 0 0 (Got 0) ∷ t ∷ free 6 ∷ free 5 ∷ []))

-- int a[1]; for (int b[1]; ; ) { int c[1]; return 5; }: each object ends on the way out, the last one first
abbrev pub left_by_return : Program
left_by_return = main_alone (
    Object 0 1 [] []
    ∷ loop_of Unmarked false None None (Object 1 1 [] [] ∷ []) (block (Object 2 1 [] [] ∷ Return (Some (Number 5)) ∷ [])) ∷ Empty ∷ [])

abbrev pub ScopesLeftByReturn : Type 0
ScopesLeftByReturn = Does left_by_return Main (pointer 5 0 ∷ pointer 6 0 ∷ pointer 7 0 ∷ Got 0 ∷ Got 0 ∷ Got 0 ∷ []) (
    t ∷ t ∷ new 1 5 ∷ t ∷ t ∷ new 1 6 ∷ t ∷ t ∷ t ∷ new 1 7 ∷ t ∷ free 7 ∷ free 6 ∷ free 5 ∷ [])

-- int f(int n) { p = &n; return n ? f(n - 1) + n : 0; }: each call has an object of its own, and the caller's locals stand again behind it
abbrev pub recursive_objects : Program
recursive_objects = program [] (
    function [] (Return (Some (Call 1 (More (Number 1) NoMore))) ∷ [])
    ∷ function (InMemory 0 ∷ []) (
    Return (Some (Cond (Read kind.ReadXx (Local 0)) (on_ints op.Add (Call 1 (More (Number 0) NoMore)) (Read kind.ReadXx (Local 0))) (Number 0))) ∷ []) ∷ [])

abbrev pub RecursiveObjects : Type 0
RecursiveObjects = Does recursive_objects Main (pointer 5 0 ∷ Got 0 ∷ Got 1 ∷ pointer 6 0 ∷ Got 0 ∷ Got 0 ∷ Got 0 ∷ Got 1 ∷ Got 0 ∷ []) (
    t ∷ t ∷ mark CallBegins ∷ new 1 5 ∷ reach kind.WriteXf 5 0 1 (Got 0) ∷ t ∷ t ∷ reach kind.ReadXx 5 0 0 (Got 1)
    ∷ mark CallBegins ∷ new 1 6 ∷ reach kind.WriteXf 6 0 0 (Got 0) ∷ t ∷ t ∷ reach kind.ReadXx 6 0 0 (Got 0) ∷ free 6 ∷ mark CallEnds
    ∷ reach kind.ReadXx 5 0 0 (Got 1) ∷ free 5 ∷ mark CallEnds ∷ [])

-- q - p and *(p + 2), where p is &a[0] and q is &a[6] of an array of structs of two cells; s.m, three cells into a struct
abbrev pub PointersMove : Type 0
PointersMove = Does (main_alone (
    Eval (Write kind.WriteXf (Global 1) (Binary (Distance 2) (Index (Some 7) false 2 (Global 0) (Number 6)) (Global 0)))
    ∷ Eval (Read kind.ReadXx (Binary (PointerPlus false 2) (Global 0) (Number 2))) ∷ Eval (Read kind.ReadXx (Member (Global 2) 3)) ∷ [])) Main (Got 0 ∷ Got 8 ∷ Got 9 ∷ [])
    (t ∷ t ∷ reach kind.WriteXf 2 0 6 (Got 0) ∷ t ∷ reach kind.ReadXx 1 4 0 (Got 8) ∷ t ∷ reach kind.ReadXx 3 3 0 (Got 9) ∷ [])

-- ---- accesses

-- int x; x = s$; of a `sync` global s$
abbrev pub ReadsSync : Type 0
ReadsSync = Does (main_alone (Declare 0 None ∷ Eval (Set 0 (Read kind.ReadFe (Global 0))) ∷ [])) Main (Got 4 ∷ [])
    (t ∷ t ∷ t ∷ reach kind.ReadFe 1 0 0 (Got 4) ∷ [])

-- a[i] += f(i), where i is 1 and f(1) is 6
abbrev pub update : Program
update = program [] (
    function [] (Declare 0 (Some (Number 1))
    ∷ Eval (Update (OnWords op.Add false) false kind.ReadXx kind.WriteXf (Index (Some 3) false 1 (Global 0) (Local 0)) (Call 1 (More (Local 0) NoMore))) ∷ [])
    ∷ function (ByValue 0 ∷ []) (Return (Some (on_ints op.Mul (Local 0) (Number 6))) ∷ []) ∷ [])

abbrev pub UpdatesAnElement : Type 0
UpdatesAnElement = Does update Main (Got 10 ∷ Got 0 ∷ []) (
    t ∷ t ∷ t ∷ reach kind.ReadXx 1 1 0 (Got 10) ∷ mark CallBegins ∷ t ∷ t ∷ mark CallEnds ∷ reach kind.WriteXf 1 1 16 (Got 0) ∷ [])

-- printf("%d\n", int_fetch_add(&g, 2))
abbrev pub FetchesAndPrints : Type 0
FetchesAndPrints = Does (program (codes "%d\n" ∷ []) (function [] (Eval (Print 0 (More (FetchAdd (Global 0) (Number 2)) NoMore)) ∷ []) ∷ [])) Main (Got 40 ∷ Got 0 ∷ [])
    (t ∷ t ∷ reach kind.Add 1 0 2 (Got 40) ∷ event (Of (Shows (text_of (codes "%d\n") (40 ∷ [])))) (Got 0) ∷ [])

-- ---- traps

-- a[i] = 1, where i is 3 and a has 3 elements
abbrev pub IndexTraps : Type 0
IndexTraps = Does (main_alone (Eval (Write kind.WriteXf (Index (Some 3) false 1 (Global 0) (Number 3)) (Number 1)) ∷ Empty ∷ [])) Main (Dead ∷ []) (t ∷ t ∷ stop ∷ [])

-- *(p - 1), where p is &g
abbrev pub RangeTraps : Type 0
RangeTraps = Does (main_alone (Eval (Read kind.ReadXx (Binary (PointerPlus false 1) (Global 0) (Number (2 ^ 64 - 1)))) ∷ [])) Main (Dead ∷ []) (t ∷ t ∷ stop ∷ [])

-- &g < &h
abbrev pub ObjectsTrap : Type 0
ObjectsTrap = Does (main_alone (Eval (Binary (Order op.Lt) (Global 0) (Global 1)) ∷ [])) Main (Dead ∷ []) (t ∷ t ∷ stop ∷ [])

-- g = 1 / *p, where p is null: the touch traps, and nothing is freed
abbrev pub TouchTraps : Type 0
TouchTraps = Does (main_alone (Object 0 1 [] [] ∷ Eval (Read kind.ReadXx (Number 0)) ∷ [])) Main (pointer 5 0 ∷ Dead ∷ [])
    (t ∷ t ∷ new 1 5 ∷ t ∷ reach kind.ReadXx 0 0 0 Dead ∷ [])

-- ---- threads

-- return k * n;
abbrev pub future_body : Command
future_body = block (Return (Some (on_ints op.Mul (Local 1) (Local 2))) ∷ [])

-- int k = 6; future r$(k, n) { return k * n; } of a global n: the copies are the locals 1 and 2
abbrev pub future : Program
future = main_alone (Declare 0 (Some (Number 6)) ∷ Future (Global 0) ((ByValue 1, Local 0) ∷ (ByValue 2, Read kind.ReadXx (Global 1)) ∷ []) future_body ∷ [])

abbrev pub FutureStarts : Type 0
FutureStarts = Does future Main (Got 0 ∷ Got 7 ∷ []) (
    ticks 3 ++ (reach kind.Purge 1 0 0 (Got 0) ∷ reach kind.ReadXx 2 0 0 (Got 7)
    ∷ mark (Spawn (2 ^ 32) (ByValue 1 ∷ ByValue 2 ∷ []) (6 ∷ 7 ∷ []) future_body) ∷ []))

abbrev pub FutureBodyAnswers : Type 0
FutureBodyAnswers = Does future (Body (2 ^ 32) (ByValue 1 ∷ ByValue 2 ∷ []) (6 ∷ 7 ∷ []) future_body) (Got 0 ∷ [])
    (t ∷ t ∷ reach kind.WriteXf 1 0 42 (Got 0) ∷ [])

-- the copy of a `future` statement is in memory, and ends before the answer is written
abbrev pub CopyInMemory : Type 0
CopyInMemory = Does future (Body (2 ^ 32) (InMemory 1 ∷ []) (6 ∷ []) (block (Return (Some (Read kind.ReadXx (Local 1))) ∷ []))) (pointer 5 0 ∷ Got 0 ∷ Got 6 ∷ Got 0 ∷ Got 0 ∷ [])
    (new 1 5 ∷ reach kind.WriteXf 5 0 6 (Got 0) ∷ t ∷ t ∷ reach kind.ReadXx 5 0 0 (Got 6) ∷ free 5 ∷ reach kind.WriteXf 1 0 6 (Got 0) ∷ [])

-- int_fetch_add(&c, i);
abbrev pub concurrent_body : Command
concurrent_body = Eval (FetchAdd (Global 0) (Local 0))

-- int i; for (i = 1; i < n; i += 2) int_fetch_add(&c, i); return i; under `assert parallel`, where n is a global
abbrev pub concurrent : Program
concurrent = main_alone (
    Declare 0 None
    ∷ loop_of (Concurrent (range 3 1 2)) false (Some (on_ints op.Lt (Local 0) (Read kind.ReadXx (Global 1)))) (Some (add_to 0 (Number 2)))
    (Eval (Set 0 (Number 1)) ∷ []) concurrent_body
    ∷ Return (Some (Write kind.WriteXf (Global 0) (Local 0))) ∷ [])

-- where n is 4
abbrev pub ConcurrentLoop : Type 0
ConcurrentLoop = Does concurrent Main (Got 4 ∷ Got 0 ∷ []) (
    ticks 5 ++ (reach kind.ReadXx 2 0 0 (Got 4) ∷ mark (Fork 3 0 (1 ∷ 3 ∷ []) (1 ∷ []) concurrent_body) ∷ mark Join
    ∷ t ∷ reach kind.WriteXf 1 0 5 (Got 0) ∷ []))

abbrev pub IterationAdds : Type 0
IterationAdds = Does concurrent (Turn 0 3 (1 ∷ []) concurrent_body) (Got 1 ∷ []) (t ∷ reach kind.Add 1 0 3 (Got 1) ∷ [])

-- where n is 2^31 + 1 at the first test the loop is serial: that test decides, and the next one reads n again, which is 1 then
abbrev pub ConcurrentLoopIsSerial : Type 0
ConcurrentLoopIsSerial = Does concurrent Main (Got (2 ^ 31 + 1) ∷ Got 0 ∷ Got 1 ∷ []) (
    ticks 5 ++ (reach kind.ReadXx 2 0 0 (Got (2 ^ 31 + 1)) ∷ t ∷ reach kind.Add 1 0 1 (Got 0) ∷ t ∷ reach kind.ReadXx 2 0 0 (Got 1) ∷ t ∷ []))

-- ---- a whole run of three threads

abbrev pub concurrent_program : Program
concurrent_program = record { globals = (full_with 0 ∷ []) ∷ (full_with 4 ∷ []) ∷ []; formats = []; functions = concurrent.functions; main = 0 }

-- the iterations run in the other order
abbrev pub three_threads : List (ℕ × Event)
three_threads =
    (0, t) ∷ (0, t) ∷ (0, t) ∷ (0, t) ∷ (0, t) ∷ (0, reach kind.ReadXx 2 0 0 (Got 4))
    ∷ (0, mark (Fork 3 0 (1 ∷ 3 ∷ []) (1 ∷ []) concurrent_body))
    ∷ (2, t) ∷ (2, reach kind.Add 1 0 3 (Got 0))
    ∷ (1, t) ∷ (1, reach kind.Add 1 0 1 (Got 3))
    ∷ (0, mark Join) ∷ (0, t) ∷ (0, reach kind.WriteXf 1 0 5 (Got 0)) ∷ []

-- it is a source run that has ended
abbrev pub ThreeThreads : Type 0
ThreeThreads = SourceRun concurrent_program three_threads (world_after (world_of concurrent_program.globals) three_threads)
    × HasEnded concurrent_program three_threads

-- ---- what a run costs

-- of the loop in normal form and of the block that is left by `break`: ticks, work, words and calls
abbrev pub CostsOfRuns : Type 0
CostsOfRuns = (Work.ticks (by_thread 0 (trace_of (run_of normal_loop 9 Main (Got 0 ∷ Got 0 ∷ [])))) ≡ 10)
    × (work_in normal_loop (by_thread 0 (trace_of (run_of normal_loop 9 Main (Got 0 ∷ Got 0 ∷ [])))) ≡ 7)
    × (most_words [] (by_thread 0 (trace_of (run_of left_block 9 Main (pointer 5 0 ∷ Got 0 ∷ pointer 6 0 ∷ Got 0 ∷ Got 0 ∷ Got 0 ∷ [])))) ≡ 2)
    × (most_calls 1 (by_thread 0 (trace_of (run_of recursive 9 Main (Got 0 ∷ [])))) ≡ 4)

-- a loop with the index x, under `test`, up by 1
abbrev pub up_by_one : ℕ → ℕ → BinOp → Term → Command → Command
up_by_one id x order limit body = Loop (record {
  mark = Normal (range_of id 2 x order false 1);
  late = false;
  test = Some (on_ints order (Local x) limit);
  step = Some (add_to x (Number 1));
}) (one_by_one (Eval (Set x (Number 0)) ∷ [])) body

-- int f(int x) { return x * 2; } int i, j; for (i = 0; i < 3; i++) for (j = 0; j <= i; j++) a[j] = f(i);
abbrev pub nest : Program
nest = program [] (
    function [] (Declare 0 None ∷ Declare 1 None ∷ up_by_one 0 0 op.Lt (Number 3) (up_by_one 1 1 op.Le (Local 0)
    (Eval (Write kind.WriteXf (Index (Some 9) false 1 (Global 0) (Local 1)) (Call 1 (More (Local 0) NoMore))))) ∷ [])
    ∷ function (ByValue 0 ∷ []) (Return (Some (on_ints op.Mul (Local 0) (Number 2))) ∷ []) ∷ [])

abbrev pub nest_run : List (ℕ × Event)
nest_run = by_thread 0 (trace_of (run_of nest 9 Main (replicate 6 (Got 0))))

-- its ticks and its work, of the outer loop once and of the inner one three times
abbrev pub CostsOfNest : Type 0
CostsOfNest = (Work.ticks nest_run ≡ 48) × (work_in nest nest_run ≡ 83)

-- for (i = 4; i > 0; i -= 3) { if (i == 1) a[0] = f(1); else { a[1] = 2; } for (j = 0; j < 2; j++) ; }
abbrev pub branches : Program
branches = program [] (
    function [] (Declare 0 None ∷ Declare 1 None ∷ Loop (record {
      mark = Normal (range_of 0 2 0 op.Gt true 3);
      late = false;
      test = Some (on_ints op.Gt (Local 0) (Number 0));
      step = Some (UpdateLocal (OnWords op.Sub false) false 0 (Number 3));
    }) (one_by_one (Eval (Set 0 (Number 4)) ∷ [])) (block (
    IfElse (on_ints op.Eq (Local 0) (Number 1))
    (Eval (Write kind.WriteXf (Index (Some 9) false 1 (Global 0) (Number 0)) (Call 1 (More (Number 1) NoMore))))
    (block (Eval (Write kind.WriteXf (Index (Some 9) false 1 (Global 0) (Number 1)) (Number 2)) ∷ []))
    ∷ up_by_one 1 1 op.Lt (Number 2) Empty ∷ [])) ∷ [])
    ∷ function (ByValue 0 ∷ []) (Return (Some (on_ints op.Mul (Local 0) (Number 2))) ∷ []) ∷ [])

abbrev pub branches_run : List (ℕ × Event)
branches_run = by_thread 0 (trace_of (run_of branches 9 Main (replicate 2 (Got 0))))

-- the work visits both branches, and the call in one of them, at each turn
abbrev pub CostsOfBranches : Type 0
CostsOfBranches = (Work.ticks branches_run ≡ 32) × (work_in branches branches_run ≡ 54)

-- a visit of a cell
abbrev pub visit : ℕ → ℕ → Bool → ℕ → ℕ → Visit
visit seg off writes site statement = record { touch = record { place = record { seg = seg; off = off }; writes = writes }; site = site; statement = statement }

-- the cells of the loop in normal form: g is written in both iterations
abbrev pub CellsOfLoop : Type 0
CellsOfLoop = cells_of_loop (range 0 2 1) (Some below_two) normal_body (0 ∷ 5 ∷ []) (λ g. []) ≡ visit 1 0 true 0 0 ∷ visit 1 0 true 0 0 ∷ []

-- ---- sites and statements of cells

-- i < n { a[i] = a[i]; if (0) b[i] += 1; } of globals n, a and b
abbrev pub two_statements : Command
two_statements = block (
    Eval (Write kind.WriteXf (element 1) (Read kind.ReadXx (element 1)))
    ∷ If (Number 0) (Eval (Update (OnWords op.Add false) false kind.ReadXx kind.WriteXf (element 2) (Number 1))) ∷ []) where
      element : ℕ → Term
      element g = Index (Some 9) false 1 (Global g) (Local 0)

abbrev pub below_global : Term
below_global = on_ints op.Lt (Local 0) (Read kind.ReadXx (Global 0))

-- iteration 1: the test's reference is the first, and belongs to statement 0; the branch that is not taken is visited
abbrev pub CellsHaveSites : Type 0
CellsHaveSites = cells_of_turn (range 0 1 1) (Some below_global) two_statements (0 ∷ []) (λ g. full_with 2 ∷ []) 1
    ≡ visit 1 0 false 0 0 ∷ visit 2 1 false 1 0 ∷ visit 2 1 true 2 0 ∷ visit 3 1 false 3 1 ∷ visit 3 1 true 4 1 ∷ []

-- where there is no iteration, the loop holds on to the limit that its test reads
abbrev pub LoopHoldsItsLimit : Type 0
LoopHoldsItsLimit = cells_taken (range 0 1 1) (Some below_global) two_statements (0 ∷ []) (λ g. full_with 0 ∷ [])
    ≡ record { place = record { seg = 1; off = 0 }; writes = false } ∷ []

-- ---- `switch`

-- switch (v) { case 1: g = 1; case 2: g = 2; break; default: g = 3; case 4: g = 4; } return 0;
abbrev pub switched : ℕ → Program
switched v = main_alone (Switch (Number v) (At 1 (put 1 (At 2 (put 2 (Do Break (Other (put 3 (At 4 (put 4 NoItem))))))))) ∷ Return None ∷ []) where
  put : ℕ → Items → Items
  put n rest = Do (Eval (Write kind.WriteXf (Global 0) (Number n))) rest

-- it goes on into the statements of the next label, and `break` leaves it
abbrev pub SwitchFallsThrough : Type 0
SwitchFallsThrough = Does (switched 1) Main (Got 0 ∷ Got 0 ∷ [])
    (t ∷ t ∷ t ∷ reach kind.WriteXf 1 0 1 (Got 0) ∷ t ∷ reach kind.WriteXf 1 0 2 (Got 0) ∷ t ∷ t ∷ [])

abbrev pub SwitchTakesDefault : Type 0
SwitchTakesDefault = Does (switched 9) Main (Got 0 ∷ Got 0 ∷ [])
    (t ∷ t ∷ t ∷ reach kind.WriteXf 1 0 3 (Got 0) ∷ t ∷ reach kind.WriteXf 1 0 4 (Got 0) ∷ t ∷ [])

-- while (1) switch (0) { default: break; }: the `break` leaves the `switch` alone
abbrev pub BreakLeavesTheSwitch : Type 0
BreakLeavesTheSwitch = trace_of (run_of (main_alone (loop_of Unmarked false (Some (Number 1)) None [] (Switch (Number 0) (Other (Do Break NoItem))) ∷ [])) 2 Main [])
    ≡ ticks 8

-- the work of a `switch` visits all of its statements: int i; for (i = 0; i < 1; i++) switch (i) { case 0: ; break; default: ; }
abbrev pub switching : Program
switching = main_alone (Declare 0 None ∷ Loop (record {
  mark = Normal (range 0 1 1);
  late = false;
  test = Some (on_ints op.Lt (Local 0) (Number 1));
  step = Some (add_to 0 (Number 1));
}) (one_by_one (Eval (Set 0 (Number 0)) ∷ [])) (Switch (Local 0) (At 0 (Do Empty (Do Break (Other (Do Empty NoItem)))))) ∷ [])

abbrev pub WorkOfSwitch : Type 0
WorkOfSwitch = work_in switching (by_thread 0 (trace_of (run_of switching 9 Main []))) ≡ 11

-- ---- numbers and pointers

-- p + n where n is unsigned and 2^63 or more; p - n where n is the least number
abbrev pub UnsignedSumTraps : Type 0
UnsignedSumTraps = Does (main_alone (Eval (Binary (PointerPlus true 1) (Global 0) (Number (2 ^ 64 - 1))) ∷ [])) Main (Dead ∷ []) (t ∷ t ∷ stop ∷ [])

abbrev pub LeastDifferenceTraps : Type 0
LeastDifferenceTraps = Does (main_alone (Eval (Binary (PointerMinus false 1) (Global 0) (Number (2 ^ 63))) ∷ [])) Main (Dead ∷ []) (t ∷ t ∷ stop ∷ [])

-- *(p - -1): one cell forth
abbrev pub DifferenceGoesForth : Type 0
DifferenceGoesForth = Does (main_alone (Eval (Read kind.ReadXx (Binary (PointerMinus false 1) (Global 0) (Number (2 ^ 64 - 1)))) ∷ [])) Main (Got 8 ∷ [])
    (t ∷ t ∷ reach kind.ReadXx 1 1 0 (Got 8) ∷ [])

-- ---- objects

-- if (1) int a[1]; as no text gives it: the object ends with its statement
abbrev pub LoneDeclarationEnds : Type 0
LoneDeclarationEnds = Does (main_alone (If (Number 1) (Object 0 1 [] []) ∷ Empty ∷ [])) Main (pointer 5 0 ∷ Got 0 ∷ []) (t ∷ t ∷ t ∷ new 1 5 ∷ free 5 ∷ t ∷ [])

-- where a reply that no memory gives leads into the middle of a segment, the end of the object traps
abbrev pub FreeOfMiddleTraps : Type 0
FreeOfMiddleTraps = Does (main_alone (Object 0 1 [] [] ∷ [])) Main (pointer 5 1 ∷ Dead ∷ []) (t ∷ t ∷ event (Of (On (New 1))) (pointer 5 1) ∷ stop ∷ [])

-- all of them
abbrev pub Samples : Type 0
Samples = LoopWithBreak × LateLoop × NormalLoop × EndlessLoop × RecursiveCall × ParameterInMemory × ArrayWithInitialiser × BlockLeftByBreak
    × ReadsSync × UpdatesAnElement × FetchesAndPrints × IndexTraps × RangeTraps × ObjectsTrap × TouchTraps
    × FutureStarts × FutureBodyAnswers × ConcurrentLoop × IterationAdds × ConcurrentLoopIsSerial
    × ScopesLeftByReturn × RecursiveObjects × PointersMove × CopyInMemory × ThreeThreads × CostsOfRuns × CostsOfNest × CostsOfBranches × CellsOfLoop

-- those of what is new to them
abbrev pub MoreSamples : Type 0
MoreSamples = CellsHaveSites × LoopHoldsItsLimit × SwitchFallsThrough × SwitchTakesDefault × BreakLeavesTheSwitch × WorkOfSwitch
    × UnsignedSumTraps × LeastDifferenceTraps × DifferenceGoesForth × LoneDeclarationEnds × FreeOfMiddleTraps
