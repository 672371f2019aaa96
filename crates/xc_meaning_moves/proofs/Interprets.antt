-- The machine with a stack of its own does what the meaning says, by induction on calls, and on terms and commands.
use Rattle.std.proofs.Common.{◌≡◌, ℕ, zero, suc, ◌+◌, ◌-◌, ◌≤◌, ◌==◌, List, [], ◌∷◌, ◌++◌, Bool, true, false, refl, sym, ap, ◌∙◌, subst, arith, append-nil, append_assoc}
use Rattle.std.specs.Prelude.{◌&&◌, cond, Option, Some, None, slice_get}
use Rattle.xc_word.specs.declared.memory.Kind.TheVariants as kind
use Rattle.xc_meaning_world.specs.World.{New, On, Reply}
use Rattle.xc_meaning_terms.specs.Terms.{Term, Number, Local, Set, UpdateLocal, Global, Index, Member, Read, Write, FetchAdd, Purge, Update, Unary, Binary, And, Or, Cond, Comma, Call, Print, Terms, NoMore, More, Formal, ByValue, InMemory, Mark, Unmarked, Normal, Concurrent, Header, Command, Empty, Declare, Object, Eval, Block, If, IfElse, Loop, Switch, Return, Break, Continue, Future, Commands, End, Then, Items, NoItem, At, Other, Do, Function, Program}
use Rattle.xc_meaning_terms.specs.Pointers.{member_of}
use Rattle.xc_meaning_terms.specs.Ranges.{is_near}
use Rattle.xc_meaning_threads.specs.Events.{Event, CallBegins, CallEnds, Enter, Leave, Spawn}
use Rattle.xc_meaning_threads.specs.Meaning.{Setting, setting, Point, point, Halt, Trapped, NoReply, NoFuel, Outcome, Gives, Halts, Exit, Ends, Breaks, Continues, Returns, and_then, if_zero, marked, ticked, set, ask, stop, given, touch, value_of, values_of, as_truth, on_end, then_do, answer_of, freed, leaving, purged, filled, with_object, with_formals, value_or_one, after_turn, turned, looped, serially, values_in, limit_of, forked, compared, by_mark, chosen, out_of_switch, captured, formals_of, followed, outcome_of, in_order, run_items, from_case, from_default, nothing_set, run_from, entered, called, ended, main_of}
use Rattle.xc_meaning_moves.specs.Machine.{Finish, Sets, UpdatesLocal, Elements, Members, Reads, Writes, Adds, Purges, Updates, Unaries, Binaries, Truths, Invokes, Prints, After, Nothing, Turns, Frame, Operands, AndThen, OrThen, Chooses, Follows, UpdatesAt, Discards, Declares, Fills, IfThen, IfElses, Selects, Answers, LoopTests, LoopSteps, Limits, Places, Captures, Sequence, ItemsAfter, Freeing, LoopBody, Leaving, InSwitch, CallOf, Evaluate, Gave, Invoke, Execute, Runs, RunsItems, Loops, Ended, Config, config, Next, Goes, goes, on_given, past, choose, finished, binds, enters, finishes, operands, one_operand, two_operands, evaluates, fills, declares, turns, steps_on, tests, begins, captures, case_in, default_in, selected, runs_items, executes, begins_with, runs, gave, after_body, moves, main_at, start}
use Rattle.xc_meaning_moves.specs.Laws.{Interprets}
use Rattle.xc_meaning_moves.proofs.Steps.{stays, Does, HaltsSo, does_less, does_more, does_once, does_value, does_request, does_request_in, does_then, does_then_in, does_either}

-- values of a list go on to what follows them
then_more : (o : Outcome (List ℕ)) (v : ℕ) {Y : Type 0} (go : List ℕ → Point → Outcome Y) → and_then (and_then o (λ vs p. Gives (v ∷ vs) p)) go ≡ and_then o (λ vs p. go (v ∷ vs) p)
then_more (Gives vs p) v go = refl
then_more (Halts how t) v go = refl

module _ (prog : Program) (n turns_most : ℕ) (few : n ≤ turns_most) (call : ℕ → List ℕ → Point → Outcome ℕ)
    (calls : (f : ℕ) (vs : List ℕ) (k : List Frame) (p : Point) → Does prog Gave n (goes (Invoke f vs) k p) k (call f vs p)) where
  abbrev s : Setting
  s = record { formats = prog.formats; call = call; turns = turns_most }

  abbrev Ev : Next → List Frame → Outcome ℕ → Type 0
  Ev = Does prog Gave n

  -- a term is evaluated, whatever waits
  abbrev Evaluated : Term → Type 0
  Evaluated e = (k : List Frame) (p : Point) → Ev (evaluates prog e k p) k (value_of s e p)

  begun : (e : Term) (k : List Frame) (p : Point) → Evaluated e → Ev (goes (Evaluate e) k p) k (value_of s e p)
  begun e k p h = does_once prog Gave n (config (Evaluate e) k p) k (value_of s e p) (h k p)

  waits : (e : Term) (f : Frame) (k : List Frame) (p : Point) (go : ℕ → Point → Outcome ℕ) → Evaluated e
      → ((v : ℕ) (q : Point) → Ev (gave prog v (f ∷ k) q) k (go v q)) → Ev (goes (Evaluate e) (f ∷ k) p) k (and_then (value_of s e p) go)
  waits e f k p go h g = does_then prog Gave Gave n (goes (Evaluate e) (f ∷ k) p) f k (value_of s e p) go (begun e (f ∷ k) p h) g

  two : (finish : Finish) (a b : Term) (go : ℕ → ℕ → Point → Outcome ℕ) (k : List Frame) (p : Point) → Evaluated a → Evaluated b
      → ((x y : ℕ) (q : Point) → Ev (finishes prog finish (x ∷ y ∷ []) k q) k (go x y q))
      → Ev (two_operands finish a b k p) k (and_then (value_of s a p) (λ x p. and_then (value_of s b p) (go x)))
  two finish a b go k p ha hb g = waits a (Operands finish [] (More b NoMore)) k p _ ha (λ x q. waits b (Operands finish (x ∷ []) NoMore) k q (go x) hb (λ y r. g x y r))

  mutual
    pub evals : (e : Term) → Evaluated e
    evals (Number v) k p = stays prog (goes (Gave v) k p)
    evals (Local x) k p = stays prog (goes (Gave (p.env x)) k p)
    evals (Set x value) k p = waits value (Operands (Sets x) [] NoMore) k p _ (evals value) (λ v q. does_value prog n k (Gives v (set x v q)))
    evals (UpdateLocal o post x value) k p = waits value (Operands (UpdatesLocal o post x (p.env x)) [] NoMore) k p _ (evals value)
        (λ v q. does_value prog n k (finished prog.formats (UpdatesLocal o post x (p.env x)) (v ∷ []) q))
    evals (Global g) k p = stays prog (evaluates prog (Global g) k p)
    evals (Index bd unsigned size base index) k p = two (Elements bd unsigned size) base index _ k p (evals base) (evals index)
        (λ x y q. does_value prog n k (finished prog.formats (Elements bd unsigned size) (x ∷ y ∷ []) q))
    evals (Member base off) k p = waits base (Operands (Members off) [] NoMore) k p _ (evals base) (λ v q. does_value prog n k (finished prog.formats (Members off) (v ∷ []) q))
    evals (Read kd place) k p = waits place (Operands (Reads kd) [] NoMore) k p _ (evals place) (λ v q. does_value prog n k (finished prog.formats (Reads kd) (v ∷ []) q))
    evals (Write kd place value) k p = two (Writes kd) place value _ k p (evals place) (evals value) (λ x y q. does_value prog n k (finished prog.formats (Writes kd) (x ∷ y ∷ []) q))
    evals (FetchAdd place value) k p = two Adds place value _ k p (evals place) (evals value) (λ x y q. does_value prog n k (finished prog.formats Adds (x ∷ y ∷ []) q))
    evals (Purge place) k p = waits place (Operands Purges [] NoMore) k p _ (evals place) (λ v q. does_value prog n k (finished prog.formats Purges (v ∷ []) q))
    evals (Update o post read wr place value) k p = waits place (UpdatesAt o post read wr value) k p _ (evals place) (λ at q.
        does_request prog Gave n k (touch read at 0 q) (λ old p. one_operand (Updates o post wr at old) value k p) _ (λ old r.
        waits value (Operands (Updates o post wr at old) [] NoMore) k r _ (evals value) (λ v u. does_value prog n k (finished prog.formats (Updates o post wr at old) (v ∷ []) u))))
    evals (Unary o of) k p = waits of (Operands (Unaries o) [] NoMore) k p _ (evals of) (λ v q. does_value prog n k (finished prog.formats (Unaries o) (v ∷ []) q))
    evals (Binary o a b) k p = two (Binaries o) a b _ k p (evals a) (evals b) (λ x y q. does_value prog n k (finished prog.formats (Binaries o) (x ∷ y ∷ []) q))
    evals (And a b) k p = waits a (AndThen b) k p _ (evals a) (λ x q. does_either prog Gave n k (x == 0) (goes (Gave 0) k) (one_operand Truths b k) (Gives 0) (λ p. and_then (value_of s b p) as_truth) q
        (stays prog (goes (Gave 0) k q)) (waits b (Operands Truths [] NoMore) k q as_truth (evals b) (λ v u. does_value prog n k (as_truth v u))))
    evals (Or a b) k p = waits a (OrThen b) k p _ (evals a) (λ x q. does_either prog Gave n k (x == 0) (one_operand Truths b k) (goes (Gave 1) k) (λ p. and_then (value_of s b p) as_truth) (Gives 1) q
        (waits b (Operands Truths [] NoMore) k q as_truth (evals b) (λ v u. does_value prog n k (as_truth v u))) (stays prog (goes (Gave 1) k q)))
    evals (Cond test a b) k p = waits test (Chooses a b) k p _ (evals test) (λ x q. does_either prog Gave n k (x == 0) (goes (Evaluate b) k) (goes (Evaluate a) k) (value_of s b) (value_of s a) q
        (begun b k q (evals b)) (begun a k q (evals a)))
    evals (Comma a b) k p = waits a (Follows b) k p _ (evals a) (λ x q. begun b k q (evals b))
    evals (Call f args) k p = lists args (Invokes f) [] (λ vs p. call f vs (marked CallBegins p)) k (λ vs q. calls f vs k (marked CallBegins q)) p
    evals (Print format args) k p = lists args (Prints format) [] _ k (λ vs q. does_value prog n k (finished prog.formats (Prints format) vs q)) p

    lists : (es : Terms) (finish : Finish) (done : List ℕ) (go : List ℕ → Point → Outcome ℕ) (k : List Frame)
        → ((vs : List ℕ) (q : Point) → Ev (finishes prog finish (done ++ vs) k q) k (go vs q)) → (p : Point)
        → Ev (operands prog finish done es k p) k (and_then (values_of s es p) go)
    lists NoMore finish done go k h p = subst (λ vs. Ev (finishes prog finish vs k p) k (go [] p)) (append-nil done) (h [] p)
    lists (More e es) finish done go k h p = does_then_in prog Gave Gave n (goes (Evaluate e) (Operands finish done es ∷ k) p) (Operands finish done es) k (value_of s e p) _ go
        (begun e (Operands finish done es ∷ k) p (evals e)) (λ v q.
        subst (Ev (operands prog finish (done ++ v ∷ []) es k q) k) (sym (then_more (values_of s es q) v go))
        (lists es finish (done ++ v ∷ []) (λ vs p. go (v ∷ vs) p) k (λ vs r. subst (λ us. Ev (finishes prog finish us k r) k (go (v ∷ vs) r)) (sym (append_assoc done (v ∷ []) vs)) (h (v ∷ vs) r)) q))

  -- ---- statements

  abbrev DoesSo : Next → List Frame → Outcome Exit → Type 0
  DoesSo = Does prog Ended n

  abbrev Executed : Command → Type 0
  Executed c = (k : List Frame) (p : Point) → DoesSo (executes c k (ticked p)) k (outcome_of s c p)

  started : (c : Command) (k : List Frame) (p : Point) → Executed c → DoesSo (goes (Execute c) k p) k (outcome_of s c p)
  started c k p h = does_once prog Ended n (config (Execute c) k p) k (outcome_of s c p) (h k p)

  tested : (e : Term) (f : Frame) (k : List Frame) (p : Point) (go : ℕ → Point → Outcome Exit)
      → ((v : ℕ) (q : Point) → DoesSo (gave prog v (f ∷ k) q) k (go v q)) → DoesSo (goes (Evaluate e) (f ∷ k) p) k (and_then (value_of s e p) go)
  tested e f k p go g = does_then prog Gave Ended n (goes (Evaluate e) (f ∷ k) p) f k (value_of s e p) go (begun e (f ∷ k) p (evals e)) g

  -- what follows an end
  pasts : (exit : Exit) (f : Point → Next) (k : List Frame) (q : Point) (go : Point → Outcome Exit) → DoesSo (f q) k (go q) → DoesSo (past exit f k q) k (on_end exit go q)
  pasts Ends f k q go h = h
  pasts Breaks f k q go h = stays prog (goes (Ended Breaks) k q)
  pasts Continues f k q go h = stays prog (goes (Ended Continues) k q)
  pasts (Returns v) f k q go h = stays prog (goes (Ended (Returns v)) k q)

  freeing : (w : ℕ) (y : Next) (k : List Frame) (o : Outcome Exit) → DoesSo y (Freeing w ∷ k) o → DoesSo y k (leaving w o)
  freeing w y k o a = does_then prog Ended Ended n y (Freeing w) k o (λ exit p. and_then (freed w p) (λ _ p. Gives exit p)) a (λ exit q.
      does_request prog Ended n k (freed w q) (λ u p. goes (Ended exit) k p) (λ u p. Gives exit p) (λ u p. stays prog (goes (Ended exit) k p)))

  follows : (cs : Commands) (after : After) (y : Next) (k : List Frame) (o : Outcome Exit) (go : Point → Outcome Exit) → DoesSo y (Sequence cs after ∷ k) o
      → ((q : Point) → DoesSo (goes (Runs cs after) k q) k (go q)) → DoesSo y k (then_do o go)
  follows cs after y k o go a h = does_then prog Ended Ended n y (Sequence cs after) k o (λ exit. on_end exit go) a (λ exit q. pasts exit (goes (Runs cs after) k) k q go (h q))

  leaves : (id : ℕ) (y : Next) (k : List Frame) (o : Outcome Exit) → DoesSo y (Leaving id ∷ k) o → DoesSo y k (then_do o (λ p. Gives Ends (marked (Leave id) p)))
  leaves id y k o a = does_then prog Ended Ended n y (Leaving id) k o (λ exit. on_end exit (λ p. Gives Ends (marked (Leave id) p))) a (λ exit q.
      pasts exit (λ p. goes (Ended Ends) k (marked (Leave id) p)) k q (λ p. Gives Ends (marked (Leave id) p)) (stays prog (goes (Ended Ends) k (marked (Leave id) q))))

  -- ---- loops, with the bound b on the moves before the fuel runs out

  module _ (b : ℕ) (low : b ≤ n) (h : Header) (body : Command) where
    stepping : (o : Option Term) (k : List Frame) (q : Point) (go : Point → Outcome Exit) → ((q : Point) → Does prog Ended b (goes (Loops h body) k q) k (go q))
        → Does prog Ended b (steps_on o h body k q) k (and_then (value_or_one s o q) (λ _ p. go p))
    stepping None k q go g = does_once prog Ended b (config (Gave 1) (LoopSteps h body ∷ k) q) k (go q) (g q)
    stepping (Some e) k q go g = does_then prog Gave Ended b (goes (Evaluate e) (LoopSteps h body ∷ k) q) (LoopSteps h body) k (value_of s e q) (λ v p. go p)
        (does_less prog Gave n b (goes (Evaluate e) (LoopSteps h body ∷ k) q) (LoopSteps h body ∷ k) (value_of s e q) low (begun e (LoopSteps h body ∷ k) q (evals e))) (λ v r. g r)

    testing : (o : Option Term) (k : List Frame) (q : Point) (go : ℕ → Point → Outcome Exit) → ((v : ℕ) (q : Point) → Does prog Ended b (gave prog v (LoopTests h body ∷ k) q) k (go v q))
        → Does prog Ended b (tests o h body k q) k (and_then (value_or_one s o q) go)
    testing None k q go g = does_once prog Ended b (config (Gave 1) (LoopTests h body ∷ k) q) k (go 1 q) (g 1 q)
    testing (Some e) k q go g = does_then prog Gave Ended b (goes (Evaluate e) (LoopTests h body ∷ k) q) (LoopTests h body) k (value_of s e q) go
        (does_less prog Gave n b (goes (Evaluate e) (LoopTests h body ∷ k) q) (LoopTests h body ∷ k) (value_of s e q) low (begun e (LoopTests h body ∷ k) q (evals e))) g

    after_does : (exit : Exit) (k : List Frame) (q : Point) (go : Point → Outcome Exit) → ((q : Point) → Does prog Ended b (goes (Loops h body) k q) k (go q))
        → Does prog Ended b (after_body exit h body k q) k (after_turn exit (λ p. and_then (value_or_one s h.step p) (λ _ p. go p)) q)
    after_does Ends k q go g = stepping h.step k q go g
    after_does Breaks k q go g = stays prog (goes (Ended Ends) k q)
    after_does Continues k q go g = stepping h.step k q go g
    after_does (Returns v) k q go g = stays prog (goes (Ended (Returns v)) k q)

    turning : (y : Next) (k : List Frame) (o : Outcome Exit) (go : Point → Outcome Exit) → Does prog Ended b y (LoopBody h body ∷ k) o
        → ((q : Point) → Does prog Ended b (goes (Loops h body) k q) k (go q))
        → Does prog Ended b y k (and_then o (λ exit. after_turn exit (λ p. and_then (value_or_one s h.step p) (λ _ p. go p))))
    turning y k o go a g = does_then prog Ended Ended b y (LoopBody h body) k o (λ exit. after_turn exit (λ p. and_then (value_or_one s h.step p) (λ _ p. go p))) a
        (λ exit q. after_does exit k q go g)

  module _ (h : Header) (body : Command) (does_body : Executed body) where
    turn : (b : ℕ) (low : b ≤ n) (m : ℕ) (k : List Frame) (q : Point) → ((q : Point) → Does prog Ended b (goes (Loops h body) k q) k (looped m s h (outcome_of s body) q))
        → Does prog Ended b (goes (Execute body) (LoopBody h body ∷ k) q) k (turned s h (outcome_of s body) (looped m s h (outcome_of s body)) q)
    turn b low m k q g = turning b low h body (goes (Execute body) (LoopBody h body ∷ k) q) k (outcome_of s body q) (looped m s h (outcome_of s body))
        (does_less prog Ended n b (goes (Execute body) (LoopBody h body ∷ k) q) (LoopBody h body ∷ k) (outcome_of s body q) low (started body (LoopBody h body ∷ k) q does_body)) g

    loops : (m b : ℕ) → b ≤ m → b ≤ n → (k : List Frame) (p : Point) → Does prog Ended b (goes (Loops h body) k p) k (looped m s h (outcome_of s body) p)
    loops zero b fits low k p = (0, fits, refl)
    loops (suc m) b fits low k p =
        let lower : b - 1 ≤ n = omega (arith, low) in
        let inner : b - 1 ≤ m = omega (arith, fits) in
        does_more prog Ended b (config (Loops h body) k p) k (looped (suc m) s h (outcome_of s body) p)
        (testing (b - 1) lower h body h.test k (ticked p) (λ v. if_zero v (Gives Ends) (turned s h (outcome_of s body) (looped m s h (outcome_of s body)))) (λ v q.
        does_either prog Ended (b - 1) k (v == 0) (goes (Ended Ends) k) (goes (Execute body) (LoopBody h body ∷ k)) (Gives Ends) (turned s h (outcome_of s body) (looped m s h (outcome_of s body))) q
        (stays prog (goes (Ended Ends) k q)) (turn (b - 1) lower m k q (λ r. loops m (b - 1) inner lower k r))))

    same : n ≤ n
    same = omega arith

    one_turn : (k : List Frame) (p : Point) → DoesSo (goes (Execute body) (LoopBody h body ∷ k) p) k (turned s h (outcome_of s body) (looped turns_most s h (outcome_of s body)) p)
    one_turn k p = turn n same turns_most k p (λ q. loops turns_most n few same k q)

    all_turns : (k : List Frame) (p : Point) → DoesSo (turns h body k p) k (serially s h (outcome_of s body) p)
    all_turns k p = does_either prog Ended n k h.late (goes (Execute body) (LoopBody h body ∷ k)) (goes (Loops h body) k)
        (turned s h (outcome_of s body) (looped turns_most s h (outcome_of s body))) (looped turns_most s h (outcome_of s body)) p
        (one_turn k p) (loops turns_most n few same k p)

    marks : (m : Mark) (k : List Frame) (p : Point) → DoesSo (begins m h body k p) k (by_mark m s h (outcome_of s body) body p)
    marks Unmarked k p = all_turns k p
    marks (Normal r) k p = leaves r.id (turns h body (Leaving r.id ∷ k) (marked (Enter r h.test body (values_in r.local_count p.env)) p)) k _
        (all_turns (Leaving r.id ∷ k) (marked (Enter r h.test body (values_in r.local_count p.env)) p))
    marks (Concurrent r) k p = tested (limit_of h.test) (Limits r h body) k (ticked p) _ (λ hi q.
        does_either prog Ended n k (is_near (q.env r.index) && is_near hi) (λ p. on_given (forked r (p.env r.index) hi body p) (λ exit p. goes (Ended exit) k p))
        (choose (compared r.order (q.env r.index) hi == 0) (goes (Ended Ends) k) (goes (Execute body) (LoopBody h body ∷ k)))
        (forked r (q.env r.index) hi body) (if_zero (compared r.order (q.env r.index) hi) (Gives Ends) (turned s h (outcome_of s body) (looped turns_most s h (outcome_of s body)))) q
        (stays prog (on_given (forked r (q.env r.index) hi body q) (λ exit p. goes (Ended exit) k p)))
        (does_either prog Ended n k (compared r.order (q.env r.index) hi == 0) (goes (Ended Ends) k) (goes (Execute body) (LoopBody h body ∷ k))
        (Gives Ends) (turned s h (outcome_of s body) (looped turns_most s h (outcome_of s body))) q (stays prog (goes (Ended Ends) k q)) (one_turn k q)))

  -- ---- objects and threads

  -- what follows the statements of a scope, and they themselves
  abbrev RestDoes : Commands → After → (Point → Outcome Exit) → Type 0
  RestDoes cs after go = (k : List Frame) (q : Point) → DoesSo (runs cs after k q) k (go q)

  rest_begun : (cs : Commands) (after : After) (go : Point → Outcome Exit) → RestDoes cs after go → (k : List Frame) (q : Point) → DoesSo (goes (Runs cs after) k q) k (go q)
  rest_begun cs after go h k q = does_once prog Ended n (config (Runs cs after) k q) k (go q) (h k q)

  filling : (w : ℕ) (is : List (ℕ × Term)) (cs : Commands) (after : After) (go : Point → Outcome Exit) → RestDoes cs after go → (k : List Frame) (p : Point)
      → DoesSo (fills w is cs after k p) k (then_do (filled s w is p) go)
  filling w [] cs after go h k p = rest_begun cs after go h k p
  filling w (i ∷ is) cs after go h k p = does_then_in prog Gave Ended n (goes (Evaluate i.1) (Fills w i.0 is cs after ∷ k) p) (Fills w i.0 is cs after) k (value_of s i.1 p) _ (λ exit. on_end exit go)
      (begun i.1 (Fills w i.0 is cs after ∷ k) p (evals i.1)) (λ v q.
      does_request_in prog Ended n k (given (member_of w i.0) q) (λ at p. on_given (touch kind.WriteXf at v p) (λ u p. fills w is cs after k p)) _ (λ exit. on_end exit go) (λ at r.
      does_request_in prog Ended n k (touch kind.WriteXf at v r) (λ u p. fills w is cs after k p) _ (λ exit. on_end exit go) (λ u z. filling w is cs after go h k z)))

  declaring : (x cells : ℕ) (ks : List ℕ) (is : List (ℕ × Term)) (cs : Commands) (after : After) (go : Point → Outcome Exit) → RestDoes cs after go → (k : List Frame) (p : Point)
      → DoesSo (declares x cells ks is cs after k p) k (with_object x cells (λ w p. then_do (purged w ks p) (λ p. then_do (filled s w is p) go)) p)
  declaring x cells ks is cs after go h k p = does_request prog Ended n k (ask (On (New cells)) p)
      (λ w p. on_given (purged w ks (set x w p)) (λ exit p. past exit (fills w is cs after (Freeing w ∷ k)) (Freeing w ∷ k) p))
      (λ w p. leaving w (then_do (purged w ks (set x w p)) (λ p. then_do (filled s w is p) go))) (λ w q.
      freeing w (on_given (purged w ks (set x w q)) (λ exit p. past exit (fills w is cs after (Freeing w ∷ k)) (Freeing w ∷ k) p)) k
      (then_do (purged w ks (set x w q)) (λ p. then_do (filled s w is p) go))
      (does_request prog Ended n (Freeing w ∷ k) (purged w ks (set x w q)) (λ exit p. past exit (fills w is cs after (Freeing w ∷ k)) (Freeing w ∷ k) p)
      (λ exit. on_end exit (λ p. then_do (filled s w is p) go)) (λ exit r.
      pasts exit (fills w is cs after (Freeing w ∷ k)) (Freeing w ∷ k) r (λ p. then_do (filled s w is p) go) (filling w is cs after go h (Freeing w ∷ k) r))))

  capturing : (at : ℕ) (formals : List Formal) (body : Command) (rest : List (Formal × Term)) (vs : List ℕ) (k : List Frame) (go : List ℕ → Point → Outcome Exit)
      → ((us : List ℕ) (q : Point) → Gives Ends (marked (Spawn at formals (vs ++ us) body) q) ≡ go us q) → (p : Point)
      → DoesSo (captures at formals vs rest body k p) k (and_then (captured s rest p) go)
  capturing at formals body [] vs k go h p = subst (DoesSo (captures at formals vs [] body k p) k) (h [] p)
      (subst (λ us. DoesSo (captures at formals vs [] body k p) k (Gives Ends (marked (Spawn at formals us body) p))) (sym (append-nil vs)) (stays prog (goes (Ended Ends) k (marked (Spawn at formals vs body) p))))
  capturing at formals body (c ∷ cs) vs k go h p =
      does_then_in prog Gave Ended n (goes (Evaluate c.1) (Captures at formals vs cs body ∷ k) p) (Captures at formals vs cs body) k (value_of s c.1 p) _ go
      (begun c.1 (Captures at formals vs cs body ∷ k) p (evals c.1)) (λ v q.
      subst (DoesSo (captures at formals (vs ++ v ∷ []) cs body k q) k) (sym (then_more (captured s cs q) v go))
      (capturing at formals body cs (vs ++ v ∷ []) k (λ us p. go (v ∷ us) p) (λ us r. ap (λ ws. Gives Ends (marked (Spawn at formals ws body) r)) (append_assoc vs (v ∷ []) us) ∙ h (v ∷ us) r) q))

  -- a statement and the rest of its scope
  ordinary : (c : Command) (cs : Commands) (after : After) (go : Point → Outcome Exit) (k : List Frame) (p : Point) → Executed c → RestDoes cs after (in_order s cs go)
      → DoesSo (goes (Execute c) (Sequence cs after ∷ k) p) k (then_do (outcome_of s c p) (in_order s cs go))
  ordinary c cs after go k p h rest = follows cs after (goes (Execute c) (Sequence cs after ∷ k) p) k (outcome_of s c p) (in_order s cs go)
      (started c (Sequence cs after ∷ k) p h) (λ q. rest_begun cs after (in_order s cs go) rest k q)

  followed_does : (c : Command) (cs : Commands) (after : After) (go : Point → Outcome Exit) (k : List Frame) (p : Point) → Executed c → RestDoes cs after (in_order s cs go)
      → DoesSo (begins_with c cs after k p) k (followed s c (outcome_of s c) (in_order s cs go) p)
  followed_does (Object x cells ks is) cs after go k p h rest = declaring x cells ks is cs after (in_order s cs go) rest k (ticked p)
  followed_does Empty cs after go k p h rest = ordinary Empty cs after go k p h rest
  followed_does (Declare x init) cs after go k p h rest = ordinary (Declare x init) cs after go k p h rest
  followed_does (Eval e) cs after go k p h rest = ordinary (Eval e) cs after go k p h rest
  followed_does (Block all) cs after go k p h rest = ordinary (Block all) cs after go k p h rest
  followed_does (If test then) cs after go k p h rest = ordinary (If test then) cs after go k p h rest
  followed_does (IfElse test then other) cs after go k p h rest = ordinary (IfElse test then other) cs after go k p h rest
  followed_does (Loop hd init body) cs after go k p h rest = ordinary (Loop hd init body) cs after go k p h rest
  followed_does (Switch value items) cs after go k p h rest = ordinary (Switch value items) cs after go k p h rest
  followed_does (Return e) cs after go k p h rest = ordinary (Return e) cs after go k p h rest
  followed_does Break cs after go k p h rest = ordinary Break cs after go k p h rest
  followed_does Continue cs after go k p h rest = ordinary Continue cs after go k p h rest
  followed_does (Future place copies body) cs after go k p h rest = ordinary (Future place copies body) cs after go k p h rest

  -- ---- `switch`

  abbrev ItemsDo : Items → Type 0
  ItemsDo is = (k : List Frame) (p : Point) → DoesSo (runs_items is k p) k (run_items s is p)

  items_begun : (is : Items) (k : List Frame) (p : Point) → ItemsDo is → DoesSo (goes (RunsItems is) k p) k (run_items s is p)
  items_begun is k p h = does_once prog Ended n (config (RunsItems is) k p) k (run_items s is p) (h k p)

  -- the statements behind a label, where there is one
  abbrev Fits : Option (Point → Outcome Exit) → Option Items → Type 0
  Fits None None = Unit {0}
  Fits None (Some is) = ⊥
  Fits (Some go) None = ⊥
  Fits (Some go) (Some is) = (k : List Frame) (p : Point) → DoesSo (runs_items is k p) k (go p)

  fits_case : (b : Bool) (is : Items) (o : Option (Point → Outcome Exit)) (x : Option Items) → ItemsDo is → Fits o x → Fits (cond b (Some (run_items s is)) o) (cond b (Some is) x)
  fits_case true is o x h g = h
  fits_case false is o x h g = g

  choosing : (a b : Option (Point → Outcome Exit)) (x y : Option Items) → Fits a x → Fits b y → (k : List Frame) (p : Point) → DoesSo (runs_items (selected x y) k p) k (chosen a b p)
  choosing (Some go) b (Some is) y h g k p = h k p
  choosing (Some go) b None y h g k p = absurd h
  choosing None b (Some is) y h g k p = absurd h
  choosing None (Some go) None (Some is) h g k p = g k p
  choosing None (Some go) None None h g k p = absurd g
  choosing None None None (Some is) h g k p = absurd g
  choosing None None None None h g k p = stays prog (goes (Ended Ends) k p)

  -- ---- all statements

  mutual
    pub executed : (c : Command) → Executed c
    executed Empty k p = stays prog (goes (Ended Ends) k (ticked p))
    executed (Declare x None) k p = stays prog (goes (Ended Ends) k (set x 0 (ticked p)))
    executed (Declare x (Some e)) k p = tested e (Declares x) k (ticked p) _ (λ v q. stays prog (goes (Ended Ends) k (set x v q)))
    executed (Object x cells ks is) k p = declaring x cells ks is End Nothing (Gives Ends) (λ k q. stays prog (goes (Ended Ends) k q)) k (ticked p)
    executed (Eval e) k p = tested e Discards k (ticked p) _ (λ v q. stays prog (goes (Ended Ends) k q))
    executed (Block all) k p = does_once prog Ended n (config (Runs all Nothing) k (ticked p)) k _ (orders all Nothing (Gives Ends) (λ k q. stays prog (goes (Ended Ends) k q)) k (ticked p))
    executed (If test then) k p = tested test (IfThen then) k (ticked p) _ (λ v q.
        does_either prog Ended n k (v == 0) (goes (Ended Ends) k) (goes (Execute then) k) (Gives Ends) (outcome_of s then) q (stays prog (goes (Ended Ends) k q)) (started then k q (executed then)))
    executed (IfElse test then other) k p = tested test (IfElses then other) k (ticked p) _ (λ v q.
        does_either prog Ended n k (v == 0) (goes (Execute other) k) (goes (Execute then) k) (outcome_of s other) (outcome_of s then) q (started other k q (executed other)) (started then k q (executed then)))
    executed (Loop h init body) k p = does_once prog Ended n (config (Runs init (Turns h body)) k (ticked p)) k _
        (orders init (Turns h body) (by_mark h.mark s h (outcome_of s body) body) (λ k q. marks h body (executed body) h.mark k q) k (ticked p))
    executed (Switch value items) k p = tested value (Selects items) k (ticked p) _ (λ v q.
        does_then prog Ended Ended n (goes (RunsItems (selected (case_in v items) (default_in items))) (InSwitch ∷ k) q) InSwitch k (chosen (from_case s v items) (from_default s items) q) _
        (does_once prog Ended n (config (RunsItems (selected (case_in v items) (default_in items))) (InSwitch ∷ k) q) (InSwitch ∷ k) (chosen (from_case s v items) (from_default s items) q)
        (choosing (from_case s v items) (from_default s items) (case_in v items) (default_in items) (cases v items) (defaults items) (InSwitch ∷ k) q))
        (λ exit r. stays prog (goes (Ended (out_of_switch exit)) k r)))
    executed (Return None) k p = stays prog (goes (Ended (Returns 0)) k (ticked p))
    executed (Return (Some e)) k p = tested e Answers k (ticked p) _ (λ v q. stays prog (goes (Ended (Returns v)) k q))
    executed Break k p = stays prog (goes (Ended Breaks) k (ticked p))
    executed Continue k p = stays prog (goes (Ended Continues) k (ticked p))
    executed (Future place cs body) k p = tested place (Places cs body) k (ticked p) _ (λ at q.
        does_request prog Ended n k (touch kind.Purge at 0 q) (λ u p. captures at (formals_of cs) [] cs body k p) _
        (λ u r. capturing at (formals_of cs) body cs [] k (λ vs p. Gives Ends (marked (Spawn at (formals_of cs) vs body) p)) (λ us r. refl) r))

    orders : (cs : Commands) (after : After) (go : Point → Outcome Exit) → RestDoes End after go → (k : List Frame) (p : Point)
        → DoesSo (runs cs after k p) k (in_order s cs go p)
    orders End after go h k p = h k p
    orders (Then c cs) after go h k p = followed_does c cs after go k p (executed c) (λ k q. orders cs after go h k q)

    items_do : (is : Items) → ItemsDo is
    items_do NoItem k p = stays prog (goes (Ended Ends) k p)
    items_do (At v rest) k p = items_begun rest k p (items_do rest)
    items_do (Other rest) k p = items_begun rest k p (items_do rest)
    items_do (Do c rest) k p = does_then prog Ended Ended n (goes (Execute c) (ItemsAfter rest ∷ k) p) (ItemsAfter rest) k (outcome_of s c p) (λ exit. on_end exit (run_items s rest))
        (started c (ItemsAfter rest ∷ k) p (executed c)) (λ exit q. pasts exit (goes (RunsItems rest) k) k q (run_items s rest) (items_begun rest k q (items_do rest)))

    cases : (v : ℕ) (is : Items) → Fits (from_case s v is) (case_in v is)
    cases v NoItem = tt
    cases v (At w rest) = fits_case (w == v) rest (from_case s v rest) (case_in v rest) (items_do rest) (cases v rest)
    cases v (Other rest) = cases v rest
    cases v (Do c rest) = cases v rest

    defaults : (is : Items) → Fits (from_default s is) (default_in is)
    defaults NoItem = tt
    defaults (At w rest) = defaults rest
    defaults (Other rest) = items_do rest
    defaults (Do c rest) = defaults rest

  -- ---- bodies

  binding : (fs : List Formal) (vs : List ℕ) (body : Command) (k : List Frame) (p : Point) → DoesSo (binds fs vs body k p) k (with_formals fs vs (outcome_of s body) p)
  binding [] vs body k p = started body k p (executed body)
  binding (f ∷ fs) [] body k p = started body k p (executed body)
  binding (ByValue x ∷ fs) (v ∷ vs) body k p = binding fs vs body k (set x v p)
  binding (InMemory x ∷ fs) (v ∷ vs) body k p = does_request prog Ended n k (ask (On (New 1)) p)
      (λ w p. on_given (touch kind.WriteXf w v (set x w p)) (λ u p. binds fs vs body (Freeing w ∷ k) p))
      (λ w p. leaving w (and_then (touch kind.WriteXf w v (set x w p)) (λ _ p. with_formals fs vs (outcome_of s body) p))) (λ w q.
      freeing w (on_given (touch kind.WriteXf w v (set x w q)) (λ u p. binds fs vs body (Freeing w ∷ k) p)) k
      (and_then (touch kind.WriteXf w v (set x w q)) (λ _ p. with_formals fs vs (outcome_of s body) p))
      (does_request prog Ended n (Freeing w ∷ k) (touch kind.WriteXf w v (set x w q)) (λ u p. binds fs vs body (Freeing w ∷ k) p)
      (λ _ p. with_formals fs vs (outcome_of s body) p) (λ u r. binding fs vs body (Freeing w ∷ k) r)))

  entering : (f : Option Function) (vs : List ℕ) (k : List Frame) (p : Point) → Ev (enters f vs k p) k (entered s f vs p)
  entering None vs k p = does_value prog n k (stop p)
  entering (Some f) vs k p = does_then prog Ended Gave n (binds f.formals vs f.body (CallOf p.env ∷ k) (record p { env = nothing_set })) (CallOf p.env) k (run_from s f.formals vs f.body p)
      (λ exit q. Gives (answer_of exit) (marked CallEnds (record q { env = p.env })))
      (binding f.formals vs f.body (CallOf p.env ∷ k) (record p { env = nothing_set })) (λ exit q. stays prog (goes (Gave (answer_of exit)) k (marked CallEnds (record q { env = p.env }))))

-- ---- calls

invoked : (prog : Program) (turns_most m : ℕ) → m ≤ turns_most → (f : ℕ) (vs : List ℕ) (k : List Frame) (p : Point)
    → Does prog Gave m (goes (Invoke f vs) k p) k (called prog.formats prog.functions turns_most m f vs p)
invoked prog turns_most zero few f vs k p = (0, few0, refl) where
  few0 : 0 ≤ 0
  few0 = omega arith
invoked prog turns_most (suc m) few f vs k p =
    let fewer : m ≤ turns_most = omega (arith, few) in
    let less : suc m - 1 ≡ m = omega arith in
    does_more prog Gave (suc m) (config (Invoke f vs) k p) k (called prog.formats prog.functions turns_most (suc m) f vs p)
    (subst (λ b. Does prog Gave b (enters (slice_get prog.functions f) vs k p) k (called prog.formats prog.functions turns_most (suc m) f vs p)) (sym less)
    (entering prog m turns_most fewer (called prog.formats prog.functions turns_most m) (invoked prog turns_most m fewer) (slice_get prog.functions f) vs k p))

-- ---- `main`

-- the machine comes to the end of `main`
halts_at : (prog : Program) (n : ℕ) (c : Config) (how : Halt) (t : List Event) → HaltsSo prog n (Goes c) how t
    → (j : ℕ) × (moves prog j c ≡ Halts how t) × ((u : List Event) → ◌≡◌ {A = Outcome Exit} (Halts how t) (Halts NoFuel u) → n ≤ j)
halts_at prog n c Trapped t a = (a.0 + 0, a.1 0, λ u h. cc)
halts_at prog n c NoReply t a = (a.0 + 0, a.1 0, λ u h. cc)
halts_at prog n c NoFuel t a = (a.0, a.2, λ u h. a.1)

ends_at : (prog : Program) (n : ℕ) (c : Config) (o : Outcome Exit) → Does prog Ended n (Goes c) [] o → (j : ℕ) × (moves prog j c ≡ ended o) × ((t : List Event) → ended o ≡ Halts NoFuel t → n ≤ j)
ends_at prog n c (Gives exit q) a = (a.0 + 1, a.1 1, λ t h. cc)
ends_at prog n c (Halts how t) a = halts_at prog n c how t a

main_does : (prog : Program) (n : ℕ) (f : Option Function) (rs : List Reply) → Does prog Ended n (Goes (main_at f rs)) [] (main_of (setting prog n) f (point nothing_set rs []))
main_does prog n None rs = stays prog (goes (Ended Ends) [] (point nothing_set rs []))
main_does prog n (Some f) rs =
    let same : n ≤ n = omega arith in
    started prog n n same (called prog.formats prog.functions n n) (invoked prog n n same) f.body [] (point nothing_set rs [])
    (executed prog n n same (called prog.formats prog.functions n n) (invoked prog n n same) f.body)

pub interprets : Interprets
interprets prog n rs = ends_at prog n (start prog rs) (main_of (setting prog n) (slice_get prog.functions prog.main) (point nothing_set rs [])) (main_does prog n (slice_get prog.functions prog.main) rs)
