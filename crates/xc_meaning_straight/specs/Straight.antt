-- Straight programs over global integers as programs of the whole language: what each form stands for, and that the two do the same.
use Rattle.std.specs.Prelude.{◌≡◌, ℕ, Bool, List, [], ◌∷◌, map, Some, ◌↔◌}
use Rattle.xc_word.specs.declared.memory.Kind.TheVariants as kind
use Rattle.xc_meaning_world.specs.World.{Reply, Action}
use Rattle.xc_meaning.specs.Terms as old
use Rattle.xc_meaning.specs.Meaning as straight
use Rattle.xc_meaning.specs.Source as alone
use Rattle.xc_meaning_terms.specs.declared.operation.Operation.TheVariants.{OnWords}
use Rattle.xc_meaning_terms.specs.Terms.{Term, Number, Global, Read, Write, Update, Unary, Binary, And, Or, Cond, Comma, Print, Terms, NoMore, More, Command, Empty, Eval, Block, Return, Commands, End, Then, Program}
use Rattle.xc_meaning_threads.specs.Events.{Event, event, Of, Main}
use Rattle.xc_meaning_threads.specs.Meaning.{Env, Trapped, NoReply, Outcome, Gives, Halts, Exit, Ends, Returns, point, nothing_set, run_of}
use Rattle.xc_meaning_threads.specs.Traces.{IsTrace, IsWhole}

-- ---- what each form stands for; one that has no meaning yet stands for nothing

abbrev mutual
  pub term_for : old.Term → Term
  term_for (old.Number n) = Number n
  term_for (old.Read g) = Read kind.ReadXx (Global g)
  term_for (old.Write g value) = Write kind.WriteXf (Global g) (term_for value)
  term_for (old.Update op unsigned post g value) = Update (OnWords op unsigned) post kind.ReadXx kind.WriteXf (Global g) (term_for value)
  term_for (old.Unary op of) = Unary op (term_for of)
  term_for (old.Binary op unsigned a b) = Binary (OnWords op unsigned) (term_for a) (term_for b)
  term_for (old.And a b) = And (term_for a) (term_for b)
  term_for (old.Or a b) = Or (term_for a) (term_for b)
  term_for (old.Cond test a b) = Cond (term_for test) (term_for a) (term_for b)
  term_for (old.Comma a b) = Comma (term_for a) (term_for b)
  term_for (old.Print format args) = Print format (terms_for args)
  term_for (old.Term.Unbuilt at) = Number 0

  pub terms_for : old.Terms → Terms
  terms_for old.NoMore = NoMore
  terms_for (old.More e es) = More (term_for e) (terms_for es)

abbrev mutual
  pub command_for : old.Command → Command
  command_for old.Empty = Empty
  command_for (old.Eval e) = Eval (term_for e)
  command_for (old.Block all) = Block (commands_for all)
  command_for (old.Return e) = Return (Some (term_for e))
  command_for (old.Command.Unbuilt at) = Empty

  pub commands_for : old.Commands → Commands
  commands_for old.End = End
  commands_for (old.Then c cs) = Then (command_for c) (commands_for cs)

abbrev pub program_for : old.Program → Program
program_for p = record { globals = p.globals; formats = p.formats; functions = record { formals = []; body = command_for p.body } ∷ []; main = 0 }

-- ---- every form has a meaning

abbrev mutual
  pub HasMeaning : old.Term → Type 0
  HasMeaning (old.Number n) = Unit {0}
  HasMeaning (old.Read g) = Unit {0}
  HasMeaning (old.Write g value) = HasMeaning value
  HasMeaning (old.Update op unsigned post g value) = HasMeaning value
  HasMeaning (old.Unary op of) = HasMeaning of
  HasMeaning (old.Binary op unsigned a b) = HasMeaning a × HasMeaning b
  HasMeaning (old.And a b) = HasMeaning a × HasMeaning b
  HasMeaning (old.Or a b) = HasMeaning a × HasMeaning b
  HasMeaning (old.Cond test a b) = HasMeaning test × HasMeaning a × HasMeaning b
  HasMeaning (old.Comma a b) = HasMeaning a × HasMeaning b
  HasMeaning (old.Print format args) = HaveMeaning args
  HasMeaning (old.Term.Unbuilt at) = ⊥

  pub HaveMeaning : old.Terms → Type 0
  HaveMeaning old.NoMore = Unit {0}
  HaveMeaning (old.More e es) = HasMeaning e × HaveMeaning es

abbrev mutual
  pub IsStraight : old.Command → Type 0
  IsStraight old.Empty = Unit {0}
  IsStraight (old.Eval e) = HasMeaning e
  IsStraight (old.Block all) = AreStraight all
  IsStraight (old.Return e) = HasMeaning e
  IsStraight (old.Command.Unbuilt at) = ⊥

  pub AreStraight : old.Commands → Type 0
  AreStraight old.End = Unit {0}
  AreStraight (old.Then c cs) = IsStraight c × AreStraight cs

-- ---- the same actions

abbrev pub event_of : Action → Event
event_of a = event (Of a.request) a.reply

abbrev pub events_of : List Action → List Event
events_of t = map event_of t

abbrev pub value_for : Env → straight.Value → Outcome ℕ
value_for env (straight.Gives v p) = Gives v (point env p.replies (events_of p.trace))
value_for env (straight.Traps t) = Halts Trapped (events_of t)
value_for env (straight.Cuts t) = Halts NoReply (events_of t)

abbrev pub outcome_for : Env → straight.Outcome → Outcome Exit
outcome_for env (straight.Done p) = Gives Ends (point env p.replies (events_of p.trace))
outcome_for env (straight.Returned v p) = Gives (Returns v) (point env p.replies (events_of p.trace))
outcome_for env (straight.Trapped t) = Halts Trapped (events_of t)
outcome_for env (straight.Cut t) = Halts NoReply (events_of t)

-- `main` does the same, with whatever replies and whatever fuel
abbrev pub SameRuns : Type 0
SameRuns = (p : old.Program) → IsStraight p.body → (n : ℕ) (rs : List Reply) →
    run_of (program_for p) n Main rs ≡ outcome_for nothing_set (alone.main_with p rs)

-- a list of actions is a trace of `main` by the one definition where it is by the other
abbrev pub SameTraces : Type 0
SameTraces = (p : old.Program) → IsStraight p.body → (t : List Action) → alone.IsTrace p t ↔ IsTrace (program_for p) Main (events_of t)

-- and so of one that comes to the end
abbrev pub SameWholes : Type 0
SameWholes = (p : old.Program) → IsStraight p.body → (t : List Action) → alone.IsWhole p t ↔ IsWhole (program_for p) Main (events_of t)
