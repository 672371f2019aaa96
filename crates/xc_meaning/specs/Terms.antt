-- Programs as plain data, with what the types decide: what a typed tree stands for.
use Rattle.std.specs.Prelude.{ℕ, suc, zero, Bool, cond, List, [], ◌∷◌, map, Option, Some, None, slice_get}
use Rattle.xc_text_place.specs.declared.Span.{Span}
use Rattle.xc_word.specs.declared.memory.Cell.{Cell}
use Rattle.xc_word.specs.declared.memory.Kind.TheVariants as kind
use Rattle.xc_word.specs.Cells.{fresh}
use Rattle.xc_tree.specs.declared.operator.BinOp.{BinOp}
use Rattle.xc_tree.specs.declared.operator.UnOp.{UnOp}
use Rattle.xc_tree.specs.declared.ty.Ty.{Ty}
use Rattle.xc_tree.specs.declared.expr.Expr.{Expr}
use Rattle.xc_tree.specs.declared.expr.ExprKind.TheOpen.{ExprKind-F}
use Rattle.xc_tree.specs.declared.expr.ExprKind.TheFolds.{fold-Expr}
use Rattle.xc_tree.specs.declared.stmt.Stmt.{Stmt}
use Rattle.xc_tree.specs.declared.stmt.Item.TheOpen.{StmtKind-F}
use Rattle.xc_tree.specs.declared.stmt.Item.TheFolds.{fold-Stmt}
use Rattle.xc_tree.specs.declared.tree.Object.{Object}
use Rattle.xc_tree.specs.declared.tree.Func.{Func}
use Rattle.xc_tree.specs.declared.tree.Tree.{Tree}
use Rattle.xc_tree.specs.Types.{is_number, size_of}
use Rattle.xc_tree.specs.Walk.{of_item}
use Rattle.xc_tree.specs.Around.{shapes_of}
use Rattle.xc_tree_words.specs.Words.{works_on_uint}

mutual
  -- What an expression does. Globals and formats go by number. `unsigned` says that the operation is on words without a sign.
  pub data Term : Type 0 where
    -- a constant
    Number : (n : ℕ) → Term
    -- the value of a global
    Read : (g : ℕ) → Term
    -- `g = value`
    Write : (g : ℕ) (value : Term) → Term
    -- `g op= value`; the whole has the old value where `post` holds, else the new one
    Update : (op : BinOp) (unsigned post : Bool) (g : ℕ) (value : Term) → Term
    Unary : (op : UnOp) (of : Term) → Term
    Binary : (op : BinOp) (unsigned : Bool) (a b : Term) → Term
    And : (a b : Term) → Term
    Or : (a b : Term) → Term
    Cond : (test a b : Term) → Term
    Comma : (a b : Term) → Term
    Print : (format : ℕ) (args : Terms) → Term
    -- a form that has no meaning yet
    Unbuilt : (at : Span) → Term

  -- arguments, in order
  pub data Terms : Type 0 where
    NoMore : Terms
    More : (e : Term) (rest : Terms) → Terms

mutual
  -- What a statement does.
  pub data Command : Type 0 where
    Empty : Command
    Eval : (e : Term) → Command
    Block : (all : Commands) → Command
    Return : (e : Term) → Command
    -- a form that has no meaning yet
    Unbuilt : (at : Span) → Command

  -- statements, in order
  pub data Commands : Type 0 where
    End : Commands
    Then : (s : Command) (rest : Commands) → Commands

-- The cells of each global, the formats of `printf`, and the body of `main`.
pub record Program : Type 0 where
  pub globals : List (List Cell)
  pub formats : List (List ℕ)
  pub body : Command

-- ---- what a typed tree stands for

-- an expression: its type, the global whose place it is, and what it does
pub record Part : Type 0 where
  pub ty : Ty
  pub global : Option ℕ
  pub term : Term

-- the same of a form whose type and place are still to be given
pub record Form : Type 0 where
  pub global : Option ℕ
  pub term : Ty → Span → Term

abbrev pub global_in : ExprKind-F Form Part → Option ℕ
global_in (ExprKind-F.Global g) = Some g
global_in _ = None

-- only the places of globals are reached yet
abbrev pub at_global : Option ℕ → Span → (ℕ → Term) → Term
at_global None at go = Term.Unbuilt at
at_global (Some g) at go = go g

abbrev pub terms_of : List Part → Terms
terms_of [] = NoMore
terms_of (p ∷ ps) = More p.term (terms_of ps)

abbrev pub term_in : ExprKind-F Form Part → Ty → Span → Term
term_in (ExprKind-F.Const n) ty at = cond (is_number ty) (Number n) (Term.Unbuilt at)
term_in (ExprKind-F.Read kind.ReadXx place) ty at = at_global place.global at Read
term_in (ExprKind-F.Write kind.WriteXf place value) ty at = at_global place.global at (λ g. Write g value.term)
term_in (ExprKind-F.Update op post place value) ty at =
    at_global place.global at (λ g. Update op (works_on_uint op ty value.ty) post g value.term)
term_in (ExprKind-F.Unary op of) ty at = Unary op of.term
term_in (ExprKind-F.Binary op a b) ty at = Binary op (works_on_uint op a.ty b.ty) a.term b.term
term_in (ExprKind-F.And a b) ty at = And a.term b.term
term_in (ExprKind-F.Or a b) ty at = Or a.term b.term
term_in (ExprKind-F.Cond test then other) ty at = Cond test.term then.term other.term
term_in (ExprKind-F.Comma a b) ty at = Comma a.term b.term
term_in (ExprKind-F.Print format args) ty at = Print format (terms_of args)
term_in _ ty at = Term.Unbuilt at

abbrev pub form_step : ExprKind-F Form Part → Form
form_step k = record { global = global_in k; term = term_in k }

abbrev pub part_of : Expr → Part
part_of = fold-Expr Form Part form_step (λ e. record { ty = e.ty; global = e.kind.global; term = e.kind.term e.ty e.span })

abbrev pub term_of : Expr → Term
term_of e = (part_of e).term

abbrev pub commands_of : List Command → Commands
commands_of [] = End
commands_of (s ∷ ss) = Then s (commands_of ss)

abbrev pub command_in : StmtKind-F Command (Span → Command) Command → Span → Command
command_in StmtKind-F.Empty at = Empty
command_in (StmtKind-F.Eval e) at = Eval (term_of e)
command_in (StmtKind-F.Block all) at = Block (commands_of all)
command_in (StmtKind-F.Return (Some e)) at = Return (term_of e)
command_in _ at = Command.Unbuilt at

abbrev pub command_of : Stmt → Command
command_of = fold-Stmt Command (Span → Command) Command (of_item Empty) command_in (λ s. s.kind s.span)

-- the first cells of an object, which has so many; those past them are full and 0
abbrev pub cells_from : ℕ → List (ℕ × Bool) → List Cell
cells_from zero init = []
cells_from (suc n) [] = fresh ∷ cells_from n []
cells_from (suc n) (c ∷ cs) = record { value = c.0; full = c.1 } ∷ cells_from n cs

abbrev pub cells_of : Tree → Object → List Cell
cells_of t g = cells_from (size_of (shapes_of t) g.ty) g.init

abbrev pub body_of : Option Func → Command
body_of None = Empty
body_of (Some f) = command_of f.body

abbrev pub program_of : Tree → Program
program_of t = record { globals = map (cells_of t) t.globals; formats = t.formats; body = body_of (slice_get t.funcs t.main) }
