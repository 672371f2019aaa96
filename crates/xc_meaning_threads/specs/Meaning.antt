-- What a thread does, for any replies to its requests (C99 5.1.2.3, 6.5 and 6.8): a definitional interpreter with fuel. No memory
-- occurs here.
use Rattle.std.specs.Prelude.{ℕ, zero, suc, ◌==◌, Bool, true, false, ◌&&◌, not, cond, List, [], ◌∷◌, ◌++◌, map, Option, Some, None, slice_get, unwrap_or}
use Rattle.xc_word.specs.declared.memory.Kind.{Kind}
use Rattle.xc_word.specs.declared.memory.Kind.TheVariants as kind
use Rattle.xc_word.specs.Numbers.{truth}
use Rattle.xc_tree.specs.declared.operator.BinOp.{BinOp}
use Rattle.xc_tree.specs.Lists.{indices}
use Rattle.xc_tree_words.specs.Words.{unary_word, binary_word}
use Rattle.xc_meaning_world.specs.World.{Reach, New, Free, Request, On, Print as Shows, Stop, Tick, Reply, Got, Dead, put}
use Rattle.xc_text_format.specs.Pieces.{text_of}
use Rattle.xc_meaning_terms.specs.Terms.{Term, Number, Local, Set, UpdateLocal, Global, Index, Member, Read, Write, FetchAdd, Purge, Update, Unary, Binary, And, Or, Cond, Comma, Call, Print, Terms, NoMore, More, Formal, ByValue, InMemory, Range, Mark, Unmarked, Normal, Concurrent, Header, Command, Empty, Declare, Object, Eval, Block, If, IfElse, Loop, Switch, Return, Break, Continue, Future, Commands, End, Then, Items, NoItem, At, Other, Do, Function, Program}
use Rattle.xc_meaning_terms.specs.Pointers.{segment_of, offset_of, pointer_to, access_at, member_of, element, operate}
use Rattle.xc_meaning_terms.specs.Ranges.{index_values, last_index, is_near}
use Rattle.xc_meaning_threads.specs.Events.{Label, Of, CallBegins, CallEnds, Enter, Leave, Spawn, Fork, Join, Event, event, mark, Task, Main, Body, Turn}

-- the values of the locals; one in memory has the pointer to it
abbrev pub Env : Type 0
Env = ℕ → ℕ

-- how far a thread has come: the values of its locals, the replies that it will get, and its events so far
pub record Point : Type 0 where
  pub env : Env
  pub replies : List Reply
  pub trace : List Event

abbrev pub point : Env → List Reply → List Event → Point
point env rs t = record { env = env; replies = rs; trace = t }

-- why a thread goes no further: it traps; no reply is left to its next request; or the fuel ran out
pub data Halt : Type 0 where
  Trapped : Halt
  NoReply : Halt
  NoFuel : Halt

-- what a part of a program comes to: it gives something and goes on from a point, or the thread halts after these events
pub data Outcome (X : Type 0) : Type 0 where
  Gives : (x : X) (p : Point) → Outcome X
  Halts : (how : Halt) (t : List Event) → Outcome X

-- how a statement is left: at its end, or by a jump (C99 6.8.6)
pub data Exit : Type 0 where
  Ends : Exit
  Breaks : Exit
  Continues : Exit
  Returns : (v : ℕ) → Exit

-- What a thread's meaning rests on: the formats, what a call does, and how many turns a loop makes at most.
pub record Setting : Type 0 where
  pub formats : List (List ℕ)
  pub call : ℕ → List ℕ → Point → Outcome ℕ
  pub turns : ℕ

-- what follows goes on with what was given
abbrev pub and_then : {X Y : Type 0} → Outcome X → (X → Point → Outcome Y) → Outcome Y
and_then (Gives x p) go = go x p
and_then (Halts how t) go = Halts how t

-- one of two ways on, neither of which is taken before the test
abbrev pub either : {X : Type 0} → Bool → (Point → Outcome X) → (Point → Outcome X) → Point → Outcome X
either true a b p = a p
either false a b p = b p

abbrev pub if_zero : {X : Type 0} → ℕ → (Point → Outcome X) → (Point → Outcome X) → Point → Outcome X
if_zero n a b = either (n == 0) a b

-- ---- events

-- an event without a reply of its own
abbrev pub marked : Label → Point → Point
marked k p = record p { trace = p.trace ++ mark k ∷ [] }

-- a statement, a loop test or a declaration begins
abbrev pub ticked : Point → Point
ticked p = marked (Of Tick) p

abbrev pub set : ℕ → ℕ → Point → Point
set x v p = record p { env = put p.env x v }

abbrev pub answered : Env → Request → Reply → List Reply → List Event → Outcome ℕ
answered env q Dead rs t = Halts Trapped (t ++ event (Of q) Dead ∷ [])
answered env q (Got v) rs t = Gives v (point env rs (t ++ event (Of q) (Got v) ∷ []))

abbrev pub asked : Env → Request → List Reply → List Event → Outcome ℕ
asked env q [] t = Halts NoReply t
asked env q (a ∷ rs) t = answered env q a rs t

abbrev pub ask : Request → Point → Outcome ℕ
ask q p = asked p.env q p.replies p.trace

abbrev pub stopped : List Reply → List Event → Outcome ℕ
stopped [] t = Halts NoReply t
stopped (a ∷ rs) t = Halts Trapped (t ++ event (Of Stop) a ∷ [])

-- the thread's own trap
abbrev pub stop : Point → Outcome ℕ
stop p = stopped p.replies p.trace

-- the value, or the thread's own trap where there is none
abbrev pub given : Option ℕ → Point → Outcome ℕ
given None p = stop p
given (Some v) p = Gives v p

-- ---- memory

abbrev pub touch : Kind → ℕ → ℕ → Point → Outcome ℕ
touch kind place v = ask (On (Reach (access_at kind place v)))

-- the cell gets the word v, and the whole has the value u
abbrev pub write : Kind → ℕ → ℕ → ℕ → Point → Outcome ℕ
write kind place v u p = and_then (touch kind place v p) (λ _ p. Gives u p)

-- ---- expressions

abbrev pub format_at : List (List ℕ) → ℕ → List ℕ
format_at formats f = unwrap_or (slice_get formats f) []

abbrev pub show : List ℕ → List ℕ → Point → Outcome ℕ
show format values p = and_then (ask (Shows (text_of format values)) p) (λ _ p. Gives 0 p)

abbrev pub as_truth : ℕ → Point → Outcome ℕ
as_truth x p = Gives (truth (not (x == 0))) p

-- the end of an update of a local: it gets the new value, and the whole has the old or the new one
abbrev pub update_local : Bool → ℕ → ℕ → ℕ → Point → Outcome ℕ
update_local post x old new p = Gives (cond post old new) (set x new p)

-- Operands are evaluated left to right; `&&`, `||` and `?:` evaluate only what decides. An assignment finds its place, evaluates its
-- right side, and writes; a compound one finds the place, reads, evaluates, and writes.
abbrev mutual
  pub value_of : Setting → Term → Point → Outcome ℕ
  value_of s (Number n) p = Gives n p
  value_of s (Local x) p = Gives (p.env x) p
  value_of s (Set x value) p = and_then (value_of s value p) (λ v p. Gives v (set x v p))
  value_of s (UpdateLocal o post x value) p =
      and_then (value_of s value p) (λ v q. and_then (given (operate o (p.env x) v) q) (update_local post x (p.env x)))
  value_of s (Global g) p = Gives (pointer_to (suc g)) p
  value_of s (Index bound unsigned size base index) p =
      and_then (value_of s base p) (λ b p. and_then (value_of s index p) (λ i p. given (element bound unsigned size b i) p))
  value_of s (Member base off) p = and_then (value_of s base p) (λ b p. given (member_of b off) p)
  value_of s (Read kind place) p = and_then (value_of s place p) (λ at p. touch kind at 0 p)
  value_of s (Write kind place value) p =
      and_then (value_of s place p) (λ at p. and_then (value_of s value p) (λ v p. write kind at v v p))
  value_of s (FetchAdd place value) p =
      and_then (value_of s place p) (λ at p. and_then (value_of s value p) (λ v p. touch kind.Add at v p))
  value_of s (Purge place) p = and_then (value_of s place p) (λ at p. write kind.Purge at 0 0 p)
  value_of s (Update o post read wr place value) p =
      and_then (value_of s place p) (λ at p. and_then (touch read at 0 p) (λ old p. and_then (value_of s value p) (λ v p.
      and_then (given (operate o old v) p) (λ new p. write wr at new (cond post old new) p))))
  value_of s (Unary op of) p = and_then (value_of s of p) (λ x p. Gives (unary_word op x) p)
  value_of s (Binary o a b) p = and_then (value_of s a p) (λ x p. and_then (value_of s b p) (λ y p. given (operate o x y) p))
  value_of s (And a b) p = and_then (value_of s a p) (λ x. if_zero x (Gives 0) (λ p. and_then (value_of s b p) as_truth))
  value_of s (Or a b) p = and_then (value_of s a p) (λ x. if_zero x (λ p. and_then (value_of s b p) as_truth) (Gives 1))
  value_of s (Cond test a b) p = and_then (value_of s test p) (λ x. if_zero x (value_of s b) (value_of s a))
  value_of s (Comma a b) p = and_then (value_of s a p) (λ x p. value_of s b p)
  value_of s (Call f args) p = and_then (values_of s args p) (λ vs p. s.call f vs (marked CallBegins p))
  value_of s (Print format args) p = and_then (values_of s args p) (show (format_at s.formats format))

  pub values_of : Setting → Terms → Point → Outcome (List ℕ)
  values_of s NoMore p = Gives [] p
  values_of s (More e es) p = and_then (value_of s e p) (λ v p. and_then (values_of s es p) (λ vs p. Gives (v ∷ vs) p))

-- ---- how statements are left

abbrev pub on_end : Exit → (Point → Outcome Exit) → Point → Outcome Exit
on_end Ends go p = go p
on_end Breaks go p = Gives Breaks p
on_end Continues go p = Gives Continues p
on_end (Returns v) go p = Gives (Returns v) p

-- what follows a statement that comes to its end
abbrev pub then_do : Outcome Exit → (Point → Outcome Exit) → Outcome Exit
then_do o go = and_then o (λ exit. on_end exit go)

-- what a body answers: 0 without a `return`
abbrev pub answer_of : Exit → ℕ
answer_of Ends = 0
answer_of Breaks = 0
answer_of Continues = 0
answer_of (Returns v) = v

-- ---- objects in memory: each lives for the rest of its block (C99 6.2.4)

-- the segment of an object ends, which is told by the pointer to its first cell
abbrev pub freed : ℕ → Point → Outcome ℕ
freed w p = either (offset_of w == 0) (ask (On (Free (segment_of w)))) stop p

-- it ends however the rest of the block is left, but for a trap
abbrev pub leaving : ℕ → Outcome Exit → Outcome Exit
leaving w o = and_then o (λ exit p. and_then (freed w p) (λ _ p. Gives exit p))

-- the cells at these offsets are emptied
abbrev pub purged : ℕ → List ℕ → Point → Outcome Exit
purged w [] p = Gives Ends p
purged w (k ∷ ks) p = and_then (given (member_of w k) p) (λ at p. and_then (touch kind.Purge at 0 p) (λ _ p. purged w ks p))

-- each word is evaluated and written in turn
abbrev pub filled : Setting → ℕ → List (ℕ × Term) → Point → Outcome Exit
filled s w [] p = Gives Ends p
filled s w (i ∷ is) p = and_then (value_of s i.1 p) (λ v p. and_then (given (member_of w i.0) p) (λ at p.
    and_then (touch kind.WriteXf at v p) (λ _ p. filled s w is p)))

-- a new segment, to which the local points while the rest goes on
abbrev pub with_object : ℕ → ℕ → (ℕ → Point → Outcome Exit) → Point → Outcome Exit
with_object x cells go p = and_then (ask (On (New cells)) p) (λ w p. leaving w (go w (set x w p)))

-- a declaration of an object, and the rest of its block
abbrev pub with_declared : Setting → ℕ → ℕ → List ℕ → List (ℕ × Term) → (Point → Outcome Exit) → Point → Outcome Exit
with_declared s x cells ks is go p =
    with_object x cells (λ w p. then_do (purged w ks p) (λ p. then_do (filled s w is p) go)) (ticked p)

-- each parameter or copy begins with its word; one in memory is an object of one cell, for the rest
abbrev pub with_formals : List Formal → List ℕ → (Point → Outcome Exit) → Point → Outcome Exit
with_formals [] vs go p = go p
with_formals (f ∷ fs) [] go p = go p
with_formals (ByValue x ∷ fs) (v ∷ vs) go p = with_formals fs vs go (set x v p)
with_formals (InMemory x ∷ fs) (v ∷ vs) go p =
    with_object x 1 (λ w p. and_then (touch kind.WriteXf w v p) (λ _ p. with_formals fs vs go p)) p

-- ---- loops

-- a part of a header that may be absent; a test that is absent holds (C99 6.8.5.3)
abbrev pub value_or_one : Setting → Option Term → Point → Outcome ℕ
value_or_one s None p = Gives 1 p
value_or_one s (Some e) p = value_of s e p

-- the body of a loop is left: `break` leaves the loop, `continue` this turn
abbrev pub after_turn : Exit → (Point → Outcome Exit) → Point → Outcome Exit
after_turn Ends go p = go p
after_turn Breaks go p = Gives Ends p
after_turn Continues go p = go p
after_turn (Returns v) go p = Gives (Returns v) p

-- a turn: the body, and the step
abbrev pub turned : Setting → Header → (Point → Outcome Exit) → (Point → Outcome Exit) → Point → Outcome Exit
turned s h body go p = and_then (body p) (λ exit. after_turn exit (λ p. and_then (value_or_one s h.step p) (λ _ p. go p)))

-- at most n turns, each behind its test
abbrev pub looped : ℕ → Setting → Header → (Point → Outcome Exit) → Point → Outcome Exit
looped zero s h body p = Halts NoFuel p.trace
looped (suc n) s h body p =
    and_then (value_or_one s h.test (ticked p)) (λ v. if_zero v (Gives Ends) (turned s h body (looped n s h body)))

-- the body of a `do` goes before the first test
abbrev pub serially : Setting → Header → (Point → Outcome Exit) → Point → Outcome Exit
serially s h body = either h.late (turned s h body (looped s.turns s h body)) (looped s.turns s h body)

-- the values of the locals of a function
abbrev pub values_in : ℕ → Env → List ℕ
values_in count env = map env (indices count)

-- the right side of a comparison
abbrev pub limit_of : Option Term → Term
limit_of (Some (Binary o a b)) = b
limit_of _ = Number 0

-- the iterations of a Concurrent loop run as threads, and then the index has the value at which its test first fails
abbrev pub forked : Range → ℕ → ℕ → Command → Point → Outcome Exit
forked r lo hi body p =
    let begun : Point = marked (Fork r.id r.index (index_values r lo hi) (values_in r.local_count p.env) body) p in
    Gives Ends (marked Join (set r.index (last_index r lo hi) begun))

-- the first test of a Concurrent loop that runs serially: the comparison of the index with the limit, which was read once
abbrev pub compared : BinOp → ℕ → ℕ → ℕ
compared o lo hi = unwrap_or (binary_word o false lo hi) 0

-- With the first value and the limit near, the iterations are threads; else the loop runs serially, with this test as its first.
abbrev pub concurrently : Setting → Header → (Point → Outcome Exit) → Range → Command → Point → Outcome Exit
concurrently s h go r body p = and_then (value_of s (limit_of h.test) (ticked p)) (λ hi p.
    either (is_near (p.env r.index) && is_near hi) (forked r (p.env r.index) hi body)
    (if_zero (compared r.order (p.env r.index) hi) (Gives Ends) (turned s h go (looped s.turns s h go))) p)

-- the turns of a loop, by what is known of it
abbrev pub by_mark : Mark → Setting → Header → (Point → Outcome Exit) → Command → Point → Outcome Exit
by_mark Unmarked s h go body p = serially s h go p
by_mark (Normal r) s h go body p =
    then_do (serially s h go (marked (Enter r h.test body (values_in r.local_count p.env)) p)) (λ p. Gives Ends (marked (Leave r.id) p))
by_mark (Concurrent r) s h go body p = concurrently s h go r body p

-- ---- `switch`

-- the statements behind the label that fits, else those behind `default`, else none
abbrev pub chosen : Option (Point → Outcome Exit) → Option (Point → Outcome Exit) → Point → Outcome Exit
chosen (Some go) other p = go p
chosen None (Some go) p = go p
chosen None None p = Gives Ends p

-- `break` leaves the `switch`
abbrev pub out_of_switch : Exit → Exit
out_of_switch Ends = Ends
out_of_switch Breaks = Ends
out_of_switch Continues = Continues
out_of_switch (Returns v) = Returns v

-- ---- `future`

-- the named variables are read in order
abbrev pub captured : Setting → List (Formal × Term) → Point → Outcome (List ℕ)
captured s [] p = Gives [] p
captured s (c ∷ cs) p = and_then (value_of s c.1 p) (λ v p. and_then (captured s cs p) (λ vs p. Gives (v ∷ vs) p))

abbrev pub formals_of : List (Formal × Term) → List Formal
formals_of cs = map (λ c. c.0) cs

-- the place is found, then emptied, then the variables are copied, and the thread starts
abbrev pub future_of : Setting → Term → List (Formal × Term) → Command → Point → Outcome Exit
future_of s place captures body p =
    and_then (value_of s place p) (λ at p. and_then (touch kind.Purge at 0 p) (λ _ p.
    and_then (captured s captures p) (λ vs p. Gives Ends (marked (Spawn at (formals_of captures) vs body) p))))

-- ---- all statements

-- A statement, and what follows it in its block. An object that a block declares lives until the block is left.
abbrev pub followed : Setting → Command → (Point → Outcome Exit) → (Point → Outcome Exit) → Point → Outcome Exit
followed s (Object x cells ks is) does rest p = with_declared s x cells ks is rest p
followed s _ does rest p = then_do (does p) rest

abbrev mutual
  -- a statement begins with a tick
  pub outcome_of : Setting → Command → Point → Outcome Exit
  outcome_of s Empty p = Gives Ends (ticked p)
  outcome_of s (Declare x None) p = Gives Ends (set x 0 (ticked p))
  outcome_of s (Declare x (Some e)) p = and_then (value_of s e (ticked p)) (λ v p. Gives Ends (set x v p))
  outcome_of s (Object x cells ks is) p = with_declared s x cells ks is (Gives Ends) p
  outcome_of s (Eval e) p = and_then (value_of s e (ticked p)) (λ v p. Gives Ends p)
  outcome_of s (Block all) p = in_order s all (Gives Ends) (ticked p)
  outcome_of s (If test then) p = and_then (value_of s test (ticked p)) (λ v. if_zero v (Gives Ends) (outcome_of s then))
  outcome_of s (IfElse test then other) p =
      and_then (value_of s test (ticked p)) (λ v. if_zero v (outcome_of s other) (outcome_of s then))
  outcome_of s (Loop h init body) p = in_order s init (by_mark h.mark s h (outcome_of s body) body) (ticked p)
  outcome_of s (Switch value items) p = and_then (value_of s value (ticked p)) (λ v p.
      and_then (chosen (from_case s v items) (from_default s items) p) (λ exit p. Gives (out_of_switch exit) p))
  outcome_of s (Return None) p = Gives (Returns 0) (ticked p)
  outcome_of s (Return (Some e)) p = and_then (value_of s e (ticked p)) (λ v p. Gives (Returns v) p)
  outcome_of s Break p = Gives Breaks (ticked p)
  outcome_of s Continue p = Gives Continues (ticked p)
  outcome_of s (Future place captures body) p = future_of s place captures body (ticked p)

  -- statements in order, and what follows them in their scope
  pub in_order : Setting → Commands → (Point → Outcome Exit) → Point → Outcome Exit
  in_order s End go p = go p
  in_order s (Then c cs) go p = followed s c (outcome_of s c) (in_order s cs go) p

  -- all statements of a `switch` from here on
  pub run_items : Setting → Items → Point → Outcome Exit
  run_items s NoItem p = Gives Ends p
  run_items s (At n rest) p = run_items s rest p
  run_items s (Other rest) p = run_items s rest p
  run_items s (Do c rest) p = then_do (outcome_of s c p) (run_items s rest)

  -- those behind the label with this word
  pub from_case : Setting → ℕ → Items → Option (Point → Outcome Exit)
  from_case s v NoItem = None
  from_case s v (At n rest) = cond (n == v) (Some (run_items s rest)) (from_case s v rest)
  from_case s v (Other rest) = from_case s v rest
  from_case s v (Do c rest) = from_case s v rest

  -- those behind `default`
  pub from_default : Setting → Items → Option (Point → Outcome Exit)
  from_default s NoItem = None
  from_default s (At n rest) = from_default s rest
  from_default s (Other rest) = Some (run_items s rest)
  from_default s (Do c rest) = from_default s rest

-- ---- calls

-- a call ends, and the caller has its locals again
abbrev pub returned : Env → Outcome Exit → Outcome ℕ
returned env o = and_then o (λ exit p. Gives (answer_of exit) (marked CallEnds (record p { env = env })))

-- locals that were not given a value hold 0
abbrev pub nothing_set : Env
nothing_set x = 0

-- a body from the words of its first locals on
abbrev pub run_from : Setting → List Formal → List ℕ → Command → Point → Outcome Exit
run_from s fs vs body p = with_formals fs vs (outcome_of s body) (record p { env = nothing_set })

abbrev pub entered : Setting → Option Function → List ℕ → Point → Outcome ℕ
entered s None vs p = stop p
entered s (Some f) vs p = returned p.env (run_from s f.formals vs f.body p)

-- calls at most n deep
abbrev pub called : List (List ℕ) → List Function → ℕ → ℕ → ℕ → List ℕ → Point → Outcome ℕ
called formats fns turns zero f vs p = Halts NoFuel p.trace
called formats fns turns (suc n) f vs p =
    entered (record { formats = formats; call = called formats fns turns n; turns = turns }) (slice_get fns f) vs p

-- calls at most n deep, and loops of at most n turns
abbrev pub setting : Program → ℕ → Setting
setting p n = record { formats = p.formats; call = called p.formats p.functions n n; turns = n }

-- ---- threads

-- a body ends, however it is left
abbrev pub ended : Outcome Exit → Outcome Exit
ended o = and_then o (λ exit p. Gives Ends p)

-- the answer of a future body goes to its place, which is full then
abbrev pub answering : ℕ → Outcome Exit → Outcome Exit
answering place o = and_then o (λ exit p. and_then (touch kind.WriteXf place (answer_of exit) p) (λ _ p. Gives Ends p))

abbrev pub env_of : List ℕ → Env
env_of values x = unwrap_or (slice_get values x) 0

abbrev pub main_of : Setting → Option Function → Point → Outcome Exit
main_of s None p = Gives Ends p
main_of s (Some f) p = run_from s [] [] f.body p

-- what a thread does from its start on
abbrev pub task_from : Program → Setting → Task → List Reply → Outcome Exit
task_from p s Main rs = ended (main_of s (slice_get p.functions p.main) (point nothing_set rs []))
task_from p s (Body place captures values body) rs = answering place (run_from s captures values body (point nothing_set rs []))
task_from p s (Turn index value values body) rs = ended (outcome_of s body (point (put (env_of values) index value) rs []))

-- what it does with fuel n, where its requests get these replies
abbrev pub run_of : Program → ℕ → Task → List Reply → Outcome Exit
run_of p n task rs = task_from p (setting p n) task rs

abbrev pub trace_of : {X : Type 0} → Outcome X → List Event
trace_of (Gives x p) = p.trace
trace_of (Halts how t) = t
