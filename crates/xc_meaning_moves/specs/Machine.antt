-- A thread as an abstract machine with a stack of its own: what the meaning says, move by move. Calls nest on this stack alone.
use Rattle.std.specs.Prelude.{ℕ, zero, suc, ◌==◌, Bool, ◌&&◌, cond, List, [], ◌∷◌, ◌++◌, Option, Some, None, slice_get}
use Rattle.xc_word.specs.declared.memory.Kind.{Kind}
use Rattle.xc_word.specs.declared.memory.Kind.TheVariants as kind
use Rattle.xc_tree.specs.declared.operator.UnOp.{UnOp}
use Rattle.xc_tree_words.specs.Words.{unary_word}
use Rattle.xc_meaning_world.specs.World.{New, On, Reply}
use Rattle.xc_meaning_terms.specs.declared.operation.Operation.{Operation}
use Rattle.xc_meaning_terms.specs.Terms.{Term, Number, Local, Set, UpdateLocal, Global, Index, Member, Read, Write, FetchAdd, Purge, Update, Unary, Binary, And, Or, Cond, Comma, Call, Print, Terms, NoMore, More, Formal, ByValue, InMemory, Range, Mark, Unmarked, Normal, Concurrent, Header, Command, Empty, Declare, Object, Eval, Block, If, IfElse, Loop, Switch, Return, Break, Continue, Future, Commands, End, Then, Items, NoItem, At, Other, Do, Function, Program}
use Rattle.xc_meaning_terms.specs.Pointers.{pointer_to, member_of, element, operate}
use Rattle.xc_meaning_terms.specs.Ranges.{is_near}
use Rattle.xc_meaning_threads.specs.Events.{CallBegins, CallEnds, Enter, Leave, Spawn}
use Rattle.xc_meaning_threads.specs.Meaning.{Env, Point, point, NoFuel, Outcome, Gives, Halts, Exit, Ends, Breaks, Continues, Returns, and_then, marked, ticked, set, ask, stop, given, touch, write, format_at, show, as_truth, update_local, answer_of, freed, purged, values_in, limit_of, forked, compared, out_of_switch, formals_of, nothing_set}

-- ---- states

-- what is done with the values of operands
pub data Finish : Type 0 where
  Sets : (x : ℕ) → Finish
  UpdatesLocal : (o : Operation) (post : Bool) (x old : ℕ) → Finish
  Elements : (bound : Option ℕ) (unsigned : Bool) (size : ℕ) → Finish
  Members : (off : ℕ) → Finish
  Reads : (kind : Kind) → Finish
  Writes : (kind : Kind) → Finish
  Adds : Finish
  Purges : Finish
  Updates : (o : Operation) (post : Bool) (write : Kind) (at old : ℕ) → Finish
  Unaries : (op : UnOp) → Finish
  Binaries : (o : Operation) → Finish
  Truths : Finish
  Invokes : (f : ℕ) → Finish
  Prints : (format : ℕ) → Finish

-- what follows the statements of a scope: nothing, or a loop
pub data After : Type 0 where
  Nothing : After
  Turns : (h : Header) (body : Command) → After

-- what waits for a value, or for the end of a statement
pub data Frame : Type 0 where
  -- operands to the left have these values
  Operands : (finish : Finish) (done : List ℕ) (rest : Terms) → Frame
  AndThen : (b : Term) → Frame
  OrThen : (b : Term) → Frame
  Chooses : (a b : Term) → Frame
  Follows : (b : Term) → Frame
  UpdatesAt : (o : Operation) (post : Bool) (read write : Kind) (value : Term) → Frame
  -- a value is not used; is that of a declaration, a first word of an object, a test, a `switch`, an answer
  Discards : Frame
  Declares : (x : ℕ) → Frame
  Fills : (w off : ℕ) (inits : List (ℕ × Term)) (rest : Commands) (after : After) → Frame
  IfThen : (c : Command) → Frame
  IfElses : (c other : Command) → Frame
  Selects : (items : Items) → Frame
  Answers : Frame
  LoopTests : (h : Header) (body : Command) → Frame
  LoopSteps : (h : Header) (body : Command) → Frame
  Limits : (r : Range) (h : Header) (body : Command) → Frame
  Places : (captures : List (Formal × Term)) (body : Command) → Frame
  Captures : (at : ℕ) (formals : List Formal) (vs : List ℕ) (rest : List (Formal × Term)) (body : Command) → Frame
  -- the rest of a scope, or of a `switch`; the end of an object, a turn, a loop, a `switch`, a call
  Sequence : (rest : Commands) (after : After) → Frame
  ItemsAfter : (rest : Items) → Frame
  Freeing : (w : ℕ) → Frame
  LoopBody : (h : Header) (body : Command) → Frame
  Leaving : (id : ℕ) → Frame
  InSwitch : Frame
  CallOf : (env : Env) → Frame

-- what is done next
pub data Control : Type 0 where
  Evaluate : (e : Term) → Control
  Gave : (v : ℕ) → Control
  Invoke : (f : ℕ) (vs : List ℕ) → Control
  Execute : (c : Command) → Control
  Runs : (cs : Commands) (after : After) → Control
  RunsItems : (items : Items) → Control
  Loops : (h : Header) (body : Command) → Control
  Ended : (exit : Exit) → Control

pub record Config : Type 0 where
  pub control : Control
  pub stack : List Frame
  pub point : Point

abbrev pub config : Control → List Frame → Point → Config
config c k p = record { control = c; stack = k; point = p }

pub data Next : Type 0 where
  Goes : (c : Config) → Next
  Stops : (o : Outcome Exit) → Next

abbrev pub goes : Control → List Frame → Point → Next
goes c k p = Goes (config c k p)

-- ---- moves

abbrev pub on_given : {X : Type 0} → Outcome X → (X → Point → Next) → Next
on_given (Gives x p) go = go x p
on_given (Halts how t) go = Stops (Halts how t)

abbrev pub valued : Outcome ℕ → List Frame → Next
valued o k = on_given o (λ v p. goes (Gave v) k p)

-- what follows an end; another exit goes on down the stack
abbrev pub past : Exit → (Point → Next) → List Frame → Point → Next
past Ends go k p = go p
past Breaks go k p = goes (Ended Breaks) k p
past Continues go k p = goes (Ended Continues) k p
past (Returns v) go k p = goes (Ended (Returns v)) k p

abbrev pub choose : Bool → (Point → Next) → (Point → Next) → Point → Next
choose b f g p = cond b f g p

abbrev pub finished : List (List ℕ) → Finish → List ℕ → Point → Outcome ℕ
finished fs (Sets x) (v ∷ []) p = Gives v (set x v p)
finished fs (UpdatesLocal o post x old) (v ∷ []) p = and_then (given (operate o old v) p) (update_local post x old)
finished fs (Elements bound unsigned size) (b ∷ i ∷ []) p = given (element bound unsigned size b i) p
finished fs (Members off) (b ∷ []) p = given (member_of b off) p
finished fs (Reads k) (at ∷ []) p = touch k at 0 p
finished fs (Writes k) (at ∷ v ∷ []) p = write k at v v p
finished fs Adds (at ∷ v ∷ []) p = touch kind.Add at v p
finished fs Purges (at ∷ []) p = write kind.Purge at 0 0 p
finished fs (Updates o post wr at old) (v ∷ []) p = and_then (given (operate o old v) p) (λ new p. write wr at new (cond post old new) p)
finished fs (Unaries op) (x ∷ []) p = Gives (unary_word op x) p
finished fs (Binaries o) (x ∷ y ∷ []) p = given (operate o x y) p
finished fs Truths (x ∷ []) p = as_truth x p
finished fs (Prints format) vs p = show (format_at fs format) vs p
finished fs _ vs p = Halts NoFuel p.trace

-- each local begins with its word, and then the body is executed
abbrev pub binds : List Formal → List ℕ → Command → List Frame → Point → Next
binds [] vs body k p = goes (Execute body) k p
binds (f ∷ fs) [] body k p = goes (Execute body) k p
binds (ByValue x ∷ fs) (v ∷ vs) body k p = binds fs vs body k (set x v p)
binds (InMemory x ∷ fs) (v ∷ vs) body k p =
    on_given (ask (On (New 1)) p) (λ w p. on_given (touch kind.WriteXf w v (set x w p)) (λ u p. binds fs vs body (Freeing w ∷ k) p))

abbrev pub enters : Option Function → List ℕ → List Frame → Point → Next
enters None vs k p = valued (stop p) k
enters (Some f) vs k p = binds f.formals vs f.body (CallOf p.env ∷ k) (record p { env = nothing_set })

abbrev pub finishes : Program → Finish → List ℕ → List Frame → Point → Next
finishes prog (Invokes f) vs k p = goes (Invoke f vs) k (marked CallBegins p)
finishes prog finish vs k p = valued (finished prog.formats finish vs p) k

abbrev pub operands : Program → Finish → List ℕ → Terms → List Frame → Point → Next
operands prog finish done NoMore k p = finishes prog finish done k p
operands prog finish done (More e es) k p = goes (Evaluate e) (Operands finish done es ∷ k) p

-- a term with one operand, and with two
abbrev pub one_operand : Finish → Term → List Frame → Point → Next
one_operand finish e k p = goes (Evaluate e) (Operands finish [] NoMore ∷ k) p

abbrev pub two_operands : Finish → Term → Term → List Frame → Point → Next
two_operands finish a b k p = goes (Evaluate a) (Operands finish [] (More b NoMore) ∷ k) p

abbrev pub evaluates : Program → Term → List Frame → Point → Next
evaluates prog (Number n) k p = goes (Gave n) k p
evaluates prog (Local x) k p = goes (Gave (p.env x)) k p
evaluates prog (Set x value) k p = one_operand (Sets x) value k p
evaluates prog (UpdateLocal o post x value) k p = one_operand (UpdatesLocal o post x (p.env x)) value k p
evaluates prog (Global g) k p = goes (Gave (pointer_to (suc g))) k p
evaluates prog (Index bound unsigned size base index) k p = two_operands (Elements bound unsigned size) base index k p
evaluates prog (Member base off) k p = one_operand (Members off) base k p
evaluates prog (Read kind place) k p = one_operand (Reads kind) place k p
evaluates prog (Write kind place value) k p = two_operands (Writes kind) place value k p
evaluates prog (FetchAdd place value) k p = two_operands Adds place value k p
evaluates prog (Purge place) k p = one_operand Purges place k p
evaluates prog (Update o post read wr place value) k p = goes (Evaluate place) (UpdatesAt o post read wr value ∷ k) p
evaluates prog (Unary op of) k p = one_operand (Unaries op) of k p
evaluates prog (Binary o a b) k p = two_operands (Binaries o) a b k p
evaluates prog (And a b) k p = goes (Evaluate a) (AndThen b ∷ k) p
evaluates prog (Or a b) k p = goes (Evaluate a) (OrThen b ∷ k) p
evaluates prog (Cond test a b) k p = goes (Evaluate test) (Chooses a b ∷ k) p
evaluates prog (Comma a b) k p = goes (Evaluate a) (Follows b ∷ k) p
evaluates prog (Call f args) k p = operands prog (Invokes f) [] args k p
evaluates prog (Print format args) k p = operands prog (Prints format) [] args k p

-- ---- statements

-- the first words of an object, and then the rest of its scope
abbrev pub fills : ℕ → List (ℕ × Term) → Commands → After → List Frame → Point → Next
fills w [] cs after k p = goes (Runs cs after) k p
fills w (i ∷ is) cs after k p = goes (Evaluate i.1) (Fills w i.0 is cs after ∷ k) p

abbrev pub declares : ℕ → ℕ → List ℕ → List (ℕ × Term) → Commands → After → List Frame → Point → Next
declares x cells ks is cs after k p = on_given (ask (On (New cells)) p) (λ w p.
    on_given (purged w ks (set x w p)) (λ exit p. past exit (fills w is cs after (Freeing w ∷ k)) (Freeing w ∷ k) p))

abbrev pub turns : Header → Command → List Frame → Point → Next
turns h body k = choose h.late (goes (Execute body) (LoopBody h body ∷ k)) (goes (Loops h body) k)

-- the step, and the next turn
abbrev pub steps_on : Option Term → Header → Command → List Frame → Point → Next
steps_on None h body k p = goes (Gave 1) (LoopSteps h body ∷ k) p
steps_on (Some e) h body k p = goes (Evaluate e) (LoopSteps h body ∷ k) p

abbrev pub tests : Option Term → Header → Command → List Frame → Point → Next
tests None h body k p = goes (Gave 1) (LoopTests h body ∷ k) p
tests (Some e) h body k p = goes (Evaluate e) (LoopTests h body ∷ k) p

abbrev pub begins : Mark → Header → Command → List Frame → Point → Next
begins Unmarked h body k p = turns h body k p
begins (Normal r) h body k p = turns h body (Leaving r.id ∷ k) (marked (Enter r h.test body (values_in r.local_count p.env)) p)
begins (Concurrent r) h body k p = goes (Evaluate (limit_of h.test)) (Limits r h body ∷ k) (ticked p)

-- the next variable is copied, or the thread starts
abbrev pub captures : ℕ → List Formal → List ℕ → List (Formal × Term) → Command → List Frame → Point → Next
captures at formals vs [] body k p = goes (Ended Ends) k (marked (Spawn at formals vs body) p)
captures at formals vs (c ∷ cs) body k p = goes (Evaluate c.1) (Captures at formals vs cs body ∷ k) p

-- what stands behind the label with this word, and behind `default`
abbrev pub case_in : ℕ → Items → Option Items
case_in v NoItem = None
case_in v (At n rest) = cond (n == v) (Some rest) (case_in v rest)
case_in v (Other rest) = case_in v rest
case_in v (Do c rest) = case_in v rest

abbrev pub default_in : Items → Option Items
default_in NoItem = None
default_in (At n rest) = default_in rest
default_in (Other rest) = Some rest
default_in (Do c rest) = default_in rest

abbrev pub selected : Option Items → Option Items → Items
selected (Some items) other = items
selected None (Some items) = items
selected None None = NoItem

abbrev pub runs_items : Items → List Frame → Point → Next
runs_items NoItem k p = goes (Ended Ends) k p
runs_items (At n rest) k p = goes (RunsItems rest) k p
runs_items (Other rest) k p = goes (RunsItems rest) k p
runs_items (Do c rest) k p = goes (Execute c) (ItemsAfter rest ∷ k) p

abbrev pub executes : Command → List Frame → Point → Next
executes Empty k p = goes (Ended Ends) k p
executes (Declare x None) k p = goes (Ended Ends) k (set x 0 p)
executes (Declare x (Some e)) k p = goes (Evaluate e) (Declares x ∷ k) p
executes (Object x cells ks is) k p = declares x cells ks is End Nothing k p
executes (Eval e) k p = goes (Evaluate e) (Discards ∷ k) p
executes (Block all) k p = goes (Runs all Nothing) k p
executes (If test then) k p = goes (Evaluate test) (IfThen then ∷ k) p
executes (IfElse test then other) k p = goes (Evaluate test) (IfElses then other ∷ k) p
executes (Loop h init body) k p = goes (Runs init (Turns h body)) k p
executes (Switch value items) k p = goes (Evaluate value) (Selects items ∷ k) p
executes (Return None) k p = goes (Ended (Returns 0)) k p
executes (Return (Some e)) k p = goes (Evaluate e) (Answers ∷ k) p
executes Break k p = goes (Ended Breaks) k p
executes Continue k p = goes (Ended Continues) k p
executes (Future place cs body) k p = goes (Evaluate place) (Places cs body ∷ k) p

-- an object that a scope declares lives for its rest
abbrev pub begins_with : Command → Commands → After → List Frame → Point → Next
begins_with (Object x cells ks is) cs after k p = declares x cells ks is cs after k (ticked p)
begins_with c cs after k p = goes (Execute c) (Sequence cs after ∷ k) p

abbrev pub runs : Commands → After → List Frame → Point → Next
runs End Nothing k p = goes (Ended Ends) k p
runs End (Turns h body) k p = begins h.mark h body k p
runs (Then c cs) after k p = begins_with c cs after k p

-- a value comes to what waits for it
abbrev pub gave : Program → ℕ → List Frame → Point → Next
gave prog v (Operands finish done rest ∷ k) p = operands prog finish (done ++ v ∷ []) rest k p
gave prog v (AndThen b ∷ k) p = choose (v == 0) (goes (Gave 0) k) (one_operand Truths b k) p
gave prog v (OrThen b ∷ k) p = choose (v == 0) (one_operand Truths b k) (goes (Gave 1) k) p
gave prog v (Chooses a b ∷ k) p = choose (v == 0) (goes (Evaluate b) k) (goes (Evaluate a) k) p
gave prog v (Follows b ∷ k) p = goes (Evaluate b) k p
gave prog v (UpdatesAt o post read wr value ∷ k) p = on_given (touch read v 0 p) (λ old p. one_operand (Updates o post wr v old) value k p)
gave prog v (Discards ∷ k) p = goes (Ended Ends) k p
gave prog v (Declares x ∷ k) p = goes (Ended Ends) k (set x v p)
gave prog v (Fills w off rest cs after ∷ k) p =
    on_given (given (member_of w off) p) (λ at p. on_given (touch kind.WriteXf at v p) (λ u p. fills w rest cs after k p))
gave prog v (IfThen c ∷ k) p = choose (v == 0) (goes (Ended Ends) k) (goes (Execute c) k) p
gave prog v (IfElses c other ∷ k) p = choose (v == 0) (goes (Execute other) k) (goes (Execute c) k) p
gave prog v (Selects items ∷ k) p = goes (RunsItems (selected (case_in v items) (default_in items))) (InSwitch ∷ k) p
gave prog v (Answers ∷ k) p = goes (Ended (Returns v)) k p
gave prog v (LoopTests h body ∷ k) p = choose (v == 0) (goes (Ended Ends) k) (goes (Execute body) (LoopBody h body ∷ k)) p
gave prog v (LoopSteps h body ∷ k) p = goes (Loops h body) k p
gave prog v (Limits r h body ∷ k) p = choose (is_near (p.env r.index) && is_near v)
    (λ p. on_given (forked r (p.env r.index) v body p) (λ exit p. goes (Ended exit) k p))
    (choose (compared r.order (p.env r.index) v == 0) (goes (Ended Ends) k) (goes (Execute body) (LoopBody h body ∷ k))) p
gave prog v (Places cs body ∷ k) p = on_given (touch kind.Purge v 0 p) (λ u p. captures v (formals_of cs) [] cs body k p)
gave prog v (Captures at formals vs rest body ∷ k) p = captures at formals (vs ++ v ∷ []) rest body k p
gave prog v _ p = Stops (Gives Ends p)

abbrev pub after_body : Exit → Header → Command → List Frame → Point → Next
after_body Ends h body k p = steps_on h.step h body k p
after_body Continues h body k p = steps_on h.step h body k p
after_body Breaks h body k p = goes (Ended Ends) k p
after_body (Returns v) h body k p = goes (Ended (Returns v)) k p

-- a statement ends, and so does what waits for it
abbrev pub ends : Exit → List Frame → Point → Next
ends exit (Sequence cs after ∷ k) p = past exit (goes (Runs cs after) k) k p
ends exit (ItemsAfter rest ∷ k) p = past exit (goes (RunsItems rest) k) k p
ends exit (Freeing w ∷ k) p = on_given (freed w p) (λ u p. goes (Ended exit) k p)
ends exit (LoopBody h body ∷ k) p = after_body exit h body k p
ends exit (Leaving id ∷ k) p = past exit (λ p. goes (Ended Ends) k (marked (Leave id) p)) k p
ends exit (InSwitch ∷ k) p = goes (Ended (out_of_switch exit)) k p
ends exit (CallOf env ∷ k) p = goes (Gave (answer_of exit)) k (marked CallEnds (record p { env = env }))
ends exit _ p = Stops (Gives Ends p)

abbrev pub does : Program → Control → List Frame → Point → Next
does prog (Evaluate e) k p = evaluates prog e k p
does prog (Gave v) k p = gave prog v k p
does prog (Invoke f vs) k p = enters (slice_get prog.functions f) vs k p
does prog (Execute c) k p = executes c k (ticked p)
does prog (Runs cs after) k p = runs cs after k p
does prog (RunsItems items) k p = runs_items items k p
does prog (Loops h body) k p = tests h.test h body k (ticked p)
does prog (Ended exit) k p = ends exit k p

abbrev pub on_next : Next → (Config → Outcome Exit) → Outcome Exit
on_next (Goes c) go = go c
on_next (Stops o) go = o

-- at most n moves
abbrev pub moves : Program → ℕ → Config → Outcome Exit
moves prog zero c = Halts NoFuel c.point.trace
moves prog (suc n) c = on_next (does prog c.control c.stack c.point) (moves prog n)

-- `main` from its start on
abbrev pub main_at : Option Function → List Reply → Config
main_at None rs = config (Ended Ends) [] (point nothing_set rs [])
main_at (Some f) rs = config (Execute f.body) [] (point nothing_set rs [])

abbrev pub start : Program → List Reply → Config
start prog rs = main_at (slice_get prog.functions prog.main) rs
