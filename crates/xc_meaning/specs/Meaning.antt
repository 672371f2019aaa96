-- What a thread does, for any replies to its requests (C99 5.1.2.3, 6.5 and 6.8). No memory occurs here.
use Rattle.std.specs.Prelude.{ℕ, suc, ◌==◌, not, cond, List, [], ◌∷◌, ◌++◌, Option, Some, None, slice_get, unwrap_or, if◌then◌else◌}
use Rattle.xc_word.specs.declared.memory.Access.{Access}
use Rattle.xc_word.specs.declared.memory.Kind.{Kind}
use Rattle.xc_word.specs.declared.memory.Kind.TheVariants.{ReadXx, WriteXf}
use Rattle.xc_meaning_world.specs.World.{Reach, Request, On, Print as Shows, Stop, Reply, Got, Dead, Action, act_of, tick}
use Rattle.xc_text_format.specs.Pieces.{text_of}
use Rattle.xc_tree_words.specs.Words.{binary_word, unary_word}
use Rattle.xc_word.specs.Numbers.{truth}
use Rattle.xc_meaning.specs.Terms.{Term, Number, Read, Write, Update, Unary, Binary, And, Or, Cond, Comma, Print, Terms, NoMore, More, Command, Empty, Eval, Block, Return, Commands, End, Then}

-- how far a thread has come: the replies that it will get, and its actions so far
pub record Point : Type 0 where
  pub replies : List Reply
  pub trace : List Action

abbrev pub point : List Reply → List Action → Point
point rs t = record { replies = rs; trace = t }

-- what an expression comes to: a value; a trap; or no reply was left
pub data Value : Type 0 where
  Gives : (v : ℕ) (p : Point) → Value
  Traps : (t : List Action) → Value
  Cuts : (t : List Action) → Value

-- what a statement comes to: its end; the end of the body by a return; a trap; or no reply was left
pub data Outcome : Type 0 where
  Done : (p : Point) → Outcome
  Returned : (v : ℕ) (p : Point) → Outcome
  Trapped : (t : List Action) → Outcome
  Cut : (t : List Action) → Outcome

-- ---- requests

abbrev pub answered : Request → Reply → List Reply → List Action → Value
answered q Dead rs t = Traps (t ++ act_of q Dead ∷ [])
answered q (Got v) rs t = Gives v (point rs (t ++ act_of q (Got v) ∷ []))

abbrev pub asked : Request → List Reply → List Action → Value
asked q [] t = Cuts t
asked q (a ∷ rs) t = answered q a rs t

abbrev pub ask : Request → Point → Value
ask q p = asked q p.replies p.trace

abbrev pub stopped : List Reply → List Action → Value
stopped [] t = Cuts t
stopped (a ∷ rs) t = Traps (t ++ act_of Stop a ∷ [])

-- the value, or the thread's own trap where there is none
abbrev pub given : Option ℕ → Point → Value
given None p = stopped p.replies p.trace
given (Some v) p = Gives v p

abbrev pub then_value : Value → (ℕ → Point → Value) → Value
then_value (Gives v p) go = go v p
then_value (Traps t) go = Traps t
then_value (Cuts t) go = Cuts t

-- ---- expressions

-- an access to a global: segments are counted from 1
abbrev pub access_of : Kind → ℕ → ℕ → Access
access_of kind g v = record { kind = kind; place = record { seg = suc g; off = 0 }; value = v }

abbrev pub read : ℕ → Point → Value
read g = ask (On (Reach (access_of ReadXx g 0)))

-- the global gets the word v, and the whole has the value u
abbrev pub write : ℕ → ℕ → ℕ → Point → Value
write g v u p = then_value (ask (On (Reach (access_of WriteXf g v))) p) (λ _ p. Gives u p)

abbrev pub format_at : List (List ℕ) → ℕ → List ℕ
format_at formats f = unwrap_or (slice_get formats f) []

abbrev pub show : List ℕ → List ℕ → Point → Value
show format values p = then_value (ask (Shows (text_of format values)) p) (λ _ p. Gives 0 p)

abbrev pub as_truth : ℕ → Point → Value
as_truth x p = Gives (truth (not (x == 0))) p

-- Operands are evaluated left to right; `&&`, `||` and `?:` evaluate only what decides. A compound assignment reads, evaluates its
-- right side, and writes. Of a form that has no meaning yet nothing is said but the actions before it.
abbrev mutual
  pub value_of : List (List ℕ) → Term → Point → Value
  value_of fs (Number n) p = Gives n p
  value_of fs (Read g) p = read g p
  value_of fs (Write g value) p = then_value (value_of fs value p) (λ v p. write g v v p)
  value_of fs (Update op unsigned post g value) p = then_value (read g p) (λ old p. then_value (value_of fs value p) (λ v p.
      then_value (given (binary_word op unsigned old v) p) (λ new p. write g new (cond post old new) p)))
  value_of fs (Unary op of) p = then_value (value_of fs of p) (λ x p. Gives (unary_word op x) p)
  value_of fs (Binary op unsigned a b) p = then_value (value_of fs a p) (λ x p. then_value (value_of fs b p) (λ y p.
      given (binary_word op unsigned x y) p))
  value_of fs (And a b) p = then_value (value_of fs a p) (λ x p. if x == 0 then Gives 0 p else then_value (value_of fs b p) as_truth)
  value_of fs (Or a b) p = then_value (value_of fs a p) (λ x p. if x == 0 then then_value (value_of fs b p) as_truth else Gives 1 p)
  value_of fs (Cond test a b) p = then_value (value_of fs test p) (λ x p. if x == 0 then value_of fs b p else value_of fs a p)
  value_of fs (Comma a b) p = then_value (value_of fs a p) (λ x p. value_of fs b p)
  value_of fs (Print format args) p = with_values fs args (show (format_at fs format)) p
  value_of fs (Term.Unbuilt at) p = Cuts p.trace

  -- what is done with the values of all of these
  pub with_values : List (List ℕ) → Terms → (List ℕ → Point → Value) → Point → Value
  with_values fs NoMore go p = go [] p
  with_values fs (More e es) go p = then_value (value_of fs e p) (λ v p. with_values fs es (λ vs p. go (v ∷ vs) p) p)

-- ---- statements

abbrev pub with_value : Value → (ℕ → Point → Outcome) → Outcome
with_value (Gives v p) go = go v p
with_value (Traps t) go = Trapped t
with_value (Cuts t) go = Cut t

abbrev pub then_do : Outcome → (Point → Outcome) → Outcome
then_do (Done p) go = go p
then_do (Returned v p) go = Returned v p
then_do (Trapped t) go = Trapped t
then_do (Cut t) go = Cut t

-- a statement begins
abbrev pub ticked : Point → Point
ticked p = point p.replies (p.trace ++ tick ∷ [])

abbrev mutual
  pub outcome_of : List (List ℕ) → Command → Point → Outcome
  outcome_of fs Empty p = Done (ticked p)
  outcome_of fs (Eval e) p = with_value (value_of fs e (ticked p)) (λ v p. Done p)
  outcome_of fs (Block all) p = in_order fs all (ticked p)
  outcome_of fs (Return e) p = with_value (value_of fs e (ticked p)) Returned
  outcome_of fs (Command.Unbuilt at) p = Cut p.trace

  pub in_order : List (List ℕ) → Commands → Point → Outcome
  in_order fs End p = Done p
  in_order fs (Then s ss) p = then_do (outcome_of fs s p) (in_order fs ss)

-- a body ends, with or without a return
abbrev pub ended : Outcome → Outcome
ended (Done p) = Done p
ended (Returned v p) = Done p
ended (Trapped t) = Trapped t
ended (Cut t) = Cut t

abbrev pub trace_of : Outcome → List Action
trace_of (Done p) = p.trace
trace_of (Returned v p) = p.trace
trace_of (Trapped t) = t
trace_of (Cut t) = t
