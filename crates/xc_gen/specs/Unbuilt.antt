-- Which forms are not translated yet, and where the first of them begins.
use Rattle.std.specs.Prelude.{ℕ, suc, ◌==◌, nat_lt, cond, List, [], ◌∷◌, Option, Some, None}
use Rattle.xc_text_place.specs.declared.Span.{Span}
use Rattle.xc_tree.specs.declared.tree.Object.{Object}
use Rattle.xc_tree.specs.declared.tree.Func.{Func}
use Rattle.xc_tree.specs.declared.tree.Tree.{Tree}
use Rattle.xc_tree.specs.Types.{is_number}
use Rattle.xc_meaning.specs.Terms.{Term, Number, Read, Write, Update, Unary, Binary, And, Or, Cond, Comma, Print, Terms, NoMore, More, Command, Empty, Eval, Block, Return, Commands, End, Then, command_of}

-- the place that is earlier in the text; the first of two that are the same
abbrev pub earlier_of : Span → Span → Span
earlier_of a b = cond (nat_lt b.start a.start) b a

abbrev pub earlier : Option Span → Option Span → Option Span
earlier None b = b
earlier (Some a) None = Some a
earlier (Some a) (Some b) = Some (earlier_of a b)

-- the first place in a term, and in arguments, after the one that is told
abbrev mutual
  pub first_in : Term → Option Span
  first_in (Number n) = None
  first_in (Read g) = None
  first_in (Write g value) = first_in value
  first_in (Update op unsigned post g value) = first_in value
  first_in (Unary op of) = first_in of
  first_in (Binary op unsigned a b) = earlier (first_in a) (first_in b)
  first_in (And a b) = earlier (first_in a) (first_in b)
  first_in (Or a b) = earlier (first_in a) (first_in b)
  first_in (Cond test a b) = earlier (first_in test) (earlier (first_in a) (first_in b))
  first_in (Comma a b) = earlier (first_in a) (first_in b)
  first_in (Print format args) = first_of args None
  first_in (Term.Unbuilt at) = Some at

  pub first_of : Terms → Option Span → Option Span
  first_of NoMore found = found
  first_of (More e es) found = first_of es (earlier found (first_in e))

abbrev mutual
  pub first_done : Command → Option Span
  first_done Empty = None
  first_done (Eval e) = first_in e
  first_done (Block all) = first_among all None
  first_done (Return e) = first_in e
  first_done (Command.Unbuilt at) = Some at

  pub first_among : Commands → Option Span → Option Span
  first_among End found = found
  first_among (Then s ss) found = first_among ss (earlier found (first_done s))

-- globals of integer type alone have code
abbrev pub first_global : List Object → Option Span → Option Span
first_global [] found = found
first_global (g ∷ gs) found = first_global gs (earlier found (cond (is_number g.ty) None (Some g.name)))

-- there is code of `main` alone, which is function number `main` where the first of the list has number k
abbrev pub first_func : ℕ → ℕ → List Func → Option Span → Option Span
first_func main k [] found = found
first_func main k (f ∷ fs) found = first_func main (suc k) fs (earlier found (cond (k == main) (first_done (command_of f.body)) (Some f.name)))

-- the first token of the first form, in the order of the text, that has no code; none where all have
abbrev pub unbuilt_of : Tree → Option Span
unbuilt_of t = first_func t.main 0 t.funcs (first_global t.globals None)
