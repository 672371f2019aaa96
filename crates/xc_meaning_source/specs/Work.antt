-- What a list of events costs: ticks, work, words of automatic objects, and calls that are open at once.
use Rattle.std.specs.Prelude.{ℕ, zero, suc, ◌+◌, ◌-◌, ◌==◌, cond, List, [], ◌∷◌, length, max, sum_by, Option, Some, None, slice_get}
use Rattle.xc_meaning_world.specs.World.{Segs, World, Touch, New, Free, On, Print, Tick, Reply, Got, serve, world_of}
use Rattle.xc_meaning_terms.specs.Terms.{Term, Number, Local, Set, UpdateLocal, Global, Index, Member, Read, Write, FetchAdd, Purge, Update, Unary, Binary, And, Or, Cond, Comma, Call, Print as Prints, Terms, NoMore, More, Range, Command, Empty, Declare, Object, Eval, Block, If, IfElse, Loop, Switch, Return, Break, Continue, Future, Commands, End, Then, Items, NoItem, At, Other, Do, Function, Program}
use Rattle.xc_meaning_terms.specs.Pointers.{segment_of}
use Rattle.xc_meaning_threads.specs.Events.{Label, Of, CallBegins, CallEnds, Enter, Event, number_in}
use Rattle.xc_meaning_threads.specs.Meaning.{Env, nothing_set}
use Rattle.xc_meaning_source.specs.Cells.{inner_turns, iterations}

-- ---- ticks

abbrev pub tick_of : Label → ℕ
tick_of (Of Tick) = 1
tick_of CallBegins = 1
tick_of _ = 0

abbrev pub ticks : List (ℕ × Event) → ℕ
ticks l = sum_by (λ e. tick_of e.1.label) l

-- ---- calls: `main` is one

abbrev pub calls_by : Label → ℕ → ℕ
calls_by CallBegins n = suc n
calls_by CallEnds n = n - 1
calls_by _ n = n

-- the most that are open at once, where n are open before
abbrev pub most_calls : ℕ → List (ℕ × Event) → ℕ
most_calls n [] = n
most_calls n ((s, e) ∷ l) = max n (most_calls (calls_by e.label n) l)

-- ---- words of automatic objects

-- the live objects, each with its segment and its cells
abbrev pub Objects : Type 0
Objects = List (ℕ × ℕ)

abbrev pub without : ℕ → Objects → Objects
without seg [] = []
without seg (o ∷ os) = cond (o.0 == seg) os (o ∷ without seg os)

abbrev pub objects_by_touch : Touch → Reply → Objects → Objects
objects_by_touch (New cells) (Got w) os = (segment_of w, cells) ∷ os
objects_by_touch (Free seg) (Got w) os = without seg os
objects_by_touch _ a os = os

abbrev pub objects_by : Label → Reply → Objects → Objects
objects_by (Of (On x)) a os = objects_by_touch x a os
objects_by _ a os = os

abbrev pub words_in : Objects → ℕ
words_in os = sum_by (λ o. o.1) os

-- the most that are live at once, where these are live before
abbrev pub most_words : Objects → List (ℕ × Event) → ℕ
most_words os [] = words_in os
most_words os ((s, e) ∷ l) = max (words_in os) (most_words (objects_by e.label e.reply os) l)

-- ---- the world after a list of events

abbrev pub left_by : Option (Reply × World) → World → World
left_by None w = w
left_by (Some (a, v)) w = v

-- a new segment has the number that was answered
abbrev pub world_by : Label → Reply → World → World
world_by (Of (On x)) a w = left_by (serve (On x) (number_in a) w) w
world_by (Of (Print bytes)) a w = left_by (serve (Print bytes) 0 w) w
world_by _ a w = w

abbrev pub world_after : World → List (ℕ × Event) → World
world_after w [] = w
world_after w ((s, e) ∷ l) = world_after (world_by e.label e.reply w) l

-- ---- work: the statements, loop tests and calls of the visits of a loop

abbrev mutual
  -- the calls in a term, each with what the body of its function counts
  pub term_work : (ℕ → ℕ) → Term → ℕ
  term_work f (Number n) = 0
  term_work f (Local x) = 0
  term_work f (Set x value) = term_work f value
  term_work f (UpdateLocal o post x value) = term_work f value
  term_work f (Global g) = 0
  term_work f (Index bound unsigned size base index) = term_work f base + term_work f index
  term_work f (Member base off) = term_work f base
  term_work f (Read kind place) = term_work f place
  term_work f (Write kind place value) = term_work f place + term_work f value
  term_work f (FetchAdd place value) = term_work f place + term_work f value
  term_work f (Purge place) = term_work f place
  term_work f (Update o post read write place value) = term_work f place + term_work f value
  term_work f (Unary o of) = term_work f of
  term_work f (Binary o a b) = term_work f a + term_work f b
  term_work f (And a b) = term_work f a + term_work f b
  term_work f (Or a b) = term_work f a + term_work f b
  term_work f (Cond test a b) = term_work f test + (term_work f a + term_work f b)
  term_work f (Comma a b) = term_work f a + term_work f b
  term_work f (Call g args) = suc (f g) + terms_work f args
  term_work f (Prints format args) = terms_work f args

  pub terms_work : (ℕ → ℕ) → Terms → ℕ
  terms_work f NoMore = 0
  terms_work f (More e es) = term_work f e + terms_work f es

abbrev pub maybe_work : (ℕ → ℕ) → Option Term → ℕ
maybe_work f None = 0
maybe_work f (Some e) = term_work f e

abbrev pub listed_work : {K : Type 0} → (ℕ → ℕ) → List (K × Term) → ℕ
listed_work f [] = 0
listed_work f (i ∷ is) = term_work f i.1 + listed_work f is

abbrev mutual
  pub command_work : (ℕ → ℕ) → Segs → Command → Env → ℕ
  command_work f m Empty env = 1
  command_work f m (Declare x init) env = 1 + maybe_work f init
  command_work f m (Object x cells ks is) env = 1 + listed_work f is
  command_work f m (Eval e) env = 1 + term_work f e
  command_work f m (Block all) env = 1 + commands_work f m all env
  command_work f m (If test then) env = 1 + (term_work f test + command_work f m then env)
  command_work f m (IfElse test then other) env = 1 + (term_work f test + (command_work f m then env + command_work f m other env))
  command_work f m (Loop h init body) env =
      1 + (commands_work f m init env + sum_by (λ e. 1 + (maybe_work f h.test + command_work f m body e)) (inner_turns env m h.mark h.test init))
  command_work f m (Switch value items) env = 1 + (term_work f value + items_work f m items env)
  command_work f m (Return e) env = 1 + maybe_work f e
  command_work f m Break env = 1
  command_work f m Continue env = 1
  command_work f m (Future place captures body) env = 1 + (term_work f place + listed_work f captures)

  pub commands_work : (ℕ → ℕ) → Segs → Commands → Env → ℕ
  commands_work f m End env = 0
  commands_work f m (Then c cs) env = command_work f m c env + commands_work f m cs env

  -- every statement of a `switch`
  pub items_work : (ℕ → ℕ) → Segs → Items → Env → ℕ
  items_work f m NoItem env = 0
  items_work f m (At n rest) env = items_work f m rest env
  items_work f m (Other rest) env = items_work f m rest env
  items_work f m (Do c rest) env = command_work f m c env + items_work f m rest env

-- one iteration: its test, and the body
abbrev pub turn_work : (ℕ → ℕ) → Segs → Option Term → Command → Env → ℕ
turn_work f m test body env = 1 + (maybe_work f test + command_work f m body env)

abbrev mutual
  -- the statements of a text, each once
  pub statements_in : Command → ℕ
  statements_in (Block all) = suc (statements_among all)
  statements_in (If test then) = suc (statements_in then)
  statements_in (IfElse test then other) = suc (statements_in then + statements_in other)
  statements_in (Loop h init body) = suc (statements_among init + statements_in body)
  statements_in (Switch value items) = suc (statements_behind items)
  statements_in (Future place captures body) = suc (statements_in body)
  statements_in Empty = 1
  statements_in (Declare x init) = 1
  statements_in (Object x cells ks is) = 1
  statements_in (Eval e) = 1
  statements_in (Return e) = 1
  statements_in Break = 1
  statements_in Continue = 1

  pub statements_among : Commands → ℕ
  statements_among End = 0
  statements_among (Then c cs) = statements_in c + statements_among cs

  pub statements_behind : Items → ℕ
  statements_behind NoItem = 0
  statements_behind (At n rest) = statements_behind rest
  statements_behind (Other rest) = statements_behind rest
  statements_behind (Do c rest) = statements_in c + statements_behind rest

abbrev pub function_work : (ℕ → ℕ) → Option Function → ℕ
function_work f None = 0
function_work f (Some fn) = command_work f (λ s. []) fn.body nothing_set

-- what the body of a function counts, where calls go at most n deep; a pure function has no loop, and calls only earlier ones
abbrev pub body_work : List Function → ℕ → ℕ → ℕ
body_work fns zero g = 0
body_work fns (suc n) g = function_work (body_work fns n) (slice_get fns g)

-- The work of a stable loop: the visits of its iterations, and 1 for each statement of its text, itself and its first clause among
-- them.
abbrev pub work_of_loop : List Function → Range → Option Term → Command → List ℕ → Segs → ℕ
work_of_loop fns r test body values m =
    sum_by (turn_work (body_work fns (length fns)) m test body) (iterations r test values m) + (2 + statements_in body)

-- that of a loop that is not stable is 0
abbrev pub work_by : List Function → Label → World → ℕ
work_by fns (Enter r test body values) w = cond r.stable (work_of_loop fns r test body values w.segs) 0
work_by fns _ w = 0

-- summed over all Enters
abbrev pub work_from : List Function → World → List (ℕ × Event) → ℕ
work_from fns w [] = 0
work_from fns w ((s, e) ∷ l) = work_by fns e.label w + work_from fns (world_by e.label e.reply w) l

abbrev pub work_in : Program → List (ℕ × Event) → ℕ
work_in p l = work_from p.functions (world_of p.globals) l
