-- What a typed tree stands for: types, forms of accesses and the kinds of loops are looked at here, and nowhere behind it.
use Rattle.std.specs.Prelude.{ℕ, zero, suc, Bool, true, false, cond, List, [], ◌∷◌, map, take, length, filter, Option, Some, None, Ok, Err, Result, slice_get, option_map}
use Rattle.xc_text_place.specs.declared.Span.{Span}
use Rattle.xc_word.specs.declared.memory.Cell.{Cell}
use Rattle.xc_word.specs.Cells.{fresh}
use Rattle.xc_tree.specs.declared.operator.BinOp.{BinOp}
use Rattle.xc_tree.specs.declared.operator.BinOp.TheVariants as op
use Rattle.xc_tree.specs.declared.pragmas.Pragmas.{Pragmas}
use Rattle.xc_tree.specs.declared.ty.Ty.{Ty}
use Rattle.xc_tree.specs.declared.expr.Expr.{Expr}
use Rattle.xc_tree.specs.declared.expr.ExprKind.TheOpen.{ExprKind-F}
use Rattle.xc_tree.specs.declared.expr.ExprKind.TheFolds.{fold-Expr}
use Rattle.xc_tree.specs.declared.stmt.Stmt.{Stmt}
use Rattle.xc_tree.specs.declared.stmt.Capture.{Capture}
use Rattle.xc_tree.specs.declared.stmt.NotNormal.{NotNormal}
use Rattle.xc_tree.specs.declared.stmt.StmtKind.{StmtKind, roll-StmtKind}
use Rattle.xc_tree.specs.declared.stmt.Item.{Item, roll-Item}
use Rattle.xc_tree.specs.declared.stmt.Item.TheOpen.{StmtKind-F, Item-F}
use Rattle.xc_tree.specs.declared.stmt.Item.TheFolds.{fold-Stmt, map-StmtKind, map-Item}
use Rattle.xc_tree.specs.declared.tree.Local.{Local as LocalOf}
use Rattle.xc_tree.specs.declared.tree.Object.{Object as ObjectOf}
use Rattle.xc_tree.specs.declared.tree.Func.{Func}
use Rattle.xc_tree.specs.declared.tree.Tree.{Tree}
use Rattle.xc_tree.specs.Lists.{indices, passes}
use Rattle.xc_tree.specs.Types.{Shape, size_of, cell_of, is_pointer, is_qualified, pointee}
use Rattle.xc_tree.specs.Kinds.{read_kind, write_kind}
use Rattle.xc_tree.specs.Around.{shapes_of}
use Rattle.xc_tree_words.specs.Words.{is_uint, works_on_uint}
use Rattle.xc_form.specs.declared.normal.Header.{Header as NormalHeader}
use Rattle.xc_form.specs.Normal.{normal_form}
use Rattle.xc_form.specs.Purity.{purity}
use Rattle.xc_form.specs.Concurrency.{is_concurrent}
use Rattle.xc_form_stable.specs.Stable.{is_stable, is_late}
use Rattle.xc_meaning_terms.specs.declared.operation.Operation.{Operation}
use Rattle.xc_meaning_terms.specs.declared.operation.Operation.TheVariants.{OnWords, PointerPlus, PlusPointer, PointerMinus, Order, Distance}
use Rattle.xc_meaning_terms.specs.Terms.{Term, Number, Local, Set, UpdateLocal, Global, Index, Member, Read, Write, FetchAdd, Purge, Update, Unary, Binary, And, Or, Cond, Comma, Call, Print, Terms, NoMore, More, Formal, ByValue, InMemory, Claims, Range, Mark, Unmarked, Normal, Concurrent, Command, Empty, Declare, Object, Eval, Block, If, IfElse, Loop, Switch, Return, Break, Continue, Future, Commands, End, Then, Items, NoItem, At, Other, Do, Function, Program}
use Rattle.xc_meaning_trees.specs.References.{loop_roots}

-- ---- operators

-- the cells of what a pointer leads to
abbrev pub size_under : List Shape → Ty → ℕ
size_under shapes ty = cells_under (pointee ty) where
  cells_under : Option Ty → ℕ
  cells_under None = 0
  cells_under (Some t) = size_of shapes t

-- by whether the left and the right operand is a pointer
abbrev pub by_pointers : List Shape → BinOp → Ty → Ty → Bool → Bool → Operation
by_pointers shapes op.Add a b true false = PointerPlus (is_uint b) (size_under shapes a)
by_pointers shapes op.Add a b false true = PlusPointer (is_uint a) (size_under shapes b)
by_pointers shapes op.Sub a b true false = PointerMinus (is_uint b) (size_under shapes a)
by_pointers shapes op.Sub a b true true = Distance (size_under shapes a)
by_pointers shapes op.Lt a b true true = Order op.Lt
by_pointers shapes op.Gt a b true true = Order op.Gt
by_pointers shapes op.Le a b true true = Order op.Le
by_pointers shapes op.Ge a b true true = Order op.Ge
by_pointers shapes o a b _ _ = OnWords o (works_on_uint o a b)

-- an operator on operands of these types
abbrev pub operation_of : List Shape → BinOp → Ty → Ty → Operation
operation_of shapes o a b = by_pointers shapes o a b (is_pointer a) (is_pointer b)

-- ---- expressions

-- an expression: its type, the local that it is, and what it does
pub record Part : Type 0 where
  pub ty : Ty
  pub local : Option ℕ
  pub term : Term

-- the same of a form whose type is still to be given
pub record Form : Type 0 where
  pub local : Option ℕ
  pub term : Ty → Term

abbrev pub local_in : ExprKind-F Form Part → Option ℕ
local_in (ExprKind-F.Local x) = Some x
local_in _ = None

abbrev pub terms_of : List Part → Terms
terms_of [] = NoMore
terms_of (p ∷ ps) = More p.term (terms_of ps)

-- a compound assignment of a variable, or of the cell at a place
abbrev pub update_in : Operation → Bool → Option ℕ → Part → Term → Term
update_in o post (Some x) place value = UpdateLocal o post x value
update_in o post None place value = Update o post (read_kind place.ty) (write_kind place.ty) place.term value

abbrev pub term_in : List Shape → ExprKind-F Form Part → Ty → Term
term_in shapes (ExprKind-F.Const n) ty = Number n
term_in shapes (ExprKind-F.Local x) ty = Local x
term_in shapes (ExprKind-F.Set x value) ty = Set x value.term
term_in shapes (ExprKind-F.Global g) ty = Global g
term_in shapes (ExprKind-F.Auto x) ty = Local x
term_in shapes (ExprKind-F.Index base index size bound) ty = Index bound (is_uint index.ty) size base.term index.term
term_in shapes (ExprKind-F.Member base off) ty = Member base.term off
term_in shapes (ExprKind-F.Read kind place) ty = Read kind place.term
term_in shapes (ExprKind-F.Write kind place value) ty = Write kind place.term value.term
term_in shapes (ExprKind-F.FetchAdd place value) ty = FetchAdd place.term value.term
term_in shapes (ExprKind-F.Purge place) ty = Purge place.term
term_in shapes (ExprKind-F.Update o post place value) ty = update_in (operation_of shapes o ty value.ty) post place.local place value.term
term_in shapes (ExprKind-F.Unary o of) ty = Unary o of.term
term_in shapes (ExprKind-F.Binary o a b) ty = Binary (operation_of shapes o a.ty b.ty) a.term b.term
term_in shapes (ExprKind-F.And a b) ty = And a.term b.term
term_in shapes (ExprKind-F.Or a b) ty = Or a.term b.term
term_in shapes (ExprKind-F.Cond test then other) ty = Cond test.term then.term other.term
term_in shapes (ExprKind-F.Comma a b) ty = Comma a.term b.term
term_in shapes (ExprKind-F.Call f args) ty = Call f (terms_of args)
term_in shapes (ExprKind-F.Print format args) ty = Print format (terms_of args)

abbrev pub form_step : List Shape → ExprKind-F Form Part → Form
form_step shapes k = record { local = local_in k; term = term_in shapes k }

abbrev pub part_of : List Shape → Expr → Part
part_of shapes = fold-Expr Form Part (form_step shapes) (λ e. record { ty = e.ty; local = e.kind.local; term = e.kind.term e.ty })

abbrev pub term_of : List Shape → Expr → Term
term_of shapes e = (part_of shapes e).term

-- ---- statements

-- what is known around a statement: the cells of each struct, which functions are pure, and the locals
pub record Around : Type 0 where
  pub shapes : List Shape
  pub pures : List Bool
  pub locals : List LocalOf

abbrev pub formal_by : ℕ → Bool → Formal
formal_by x addressed = cond addressed (InMemory x) (ByValue x)

-- a local begins as a value, or in memory
abbrev pub formal_at : ℕ → Option LocalOf → Formal
formal_at x None = ByValue x
formal_at x (Some l) = formal_by x l.addressed

abbrev pub commands_of : List Command → Commands
commands_of [] = End
commands_of (s ∷ ss) = Then s (commands_of ss)

-- the offsets of the cells that are `sync` or `future`
abbrev pub qualified_cells : List Shape → Ty → List ℕ
qualified_cells shapes ty = filter (λ k. passes is_qualified (cell_of shapes ty k)) (indices (size_of shapes ty))

-- the first value of a local without an address
abbrev pub first_value : List (ℕ × Term) → Option Term
first_value [] = None
first_value (i ∷ is) = Some i.1

-- an object without an initialiser has its tagged cells emptied
abbrev pub emptied : List Shape → Ty → List (ℕ × Term) → List ℕ
emptied shapes ty [] = qualified_cells shapes ty
emptied shapes ty (i ∷ is) = []

abbrev pub declaration_by : List Shape → ℕ → LocalOf → List (ℕ × Term) → Command
declaration_by shapes x l is =
    cond l.addressed (Object x (size_of shapes l.ty) (emptied shapes l.ty is) is) (Declare x (first_value is))

abbrev pub declaration : List Shape → ℕ → Option LocalOf → List (ℕ × Term) → Command
declaration shapes x None is = Empty
declaration shapes x (Some l) is = declaration_by shapes x l is

abbrev pub inits_of : List Shape → List (ℕ × Expr) → List (ℕ × Term)
inits_of shapes is = map (λ i. (i.0, term_of shapes i.1)) is

abbrev pub capture_of : Around → Capture → Formal × Term
capture_of r c = (formal_at c.local (slice_get r.locals c.local), term_of r.shapes c.from)

-- what the pragmas of a loop assert, and the root of each of its references
abbrev pub claims_of : Around → Pragmas → Option Expr → Stmt → Stmt → Claims
claims_of r p test body s = record { nodep = p.nodep; noalias = p.noalias; roots = loop_roots r.pures test body s }

abbrev pub range_of : Around → ℕ → Claims → NormalHeader → Stmt → Range
range_of r id claims h s = record {
  id = id;
  index = h.index;
  order = h.order;
  down = h.step.down;
  step = h.step.size;
  local_count = length r.locals;
  stable = is_stable r.pures r.locals s;
  claims = claims;
}

-- a loop in normal form, which is Concurrent or not
abbrev pub mark_by : Around → ℕ → Claims → Stmt → Bool → Result NormalHeader NotNormal → Mark
mark_by r id claims s concurrent (Err why) = Unmarked
mark_by r id claims s true (Ok h) = Concurrent (range_of r id claims h s)
mark_by r id claims s false (Ok h) = Normal (range_of r id claims h s)

-- a loop, by the whole statement
abbrev pub mark_of : Around → ℕ → Claims → Stmt → Mark
mark_of r id claims s = mark_by r id claims s (is_concurrent r.pures r.locals s) (normal_form r.pures r.locals s)

-- a statement, as it stands in the tree, and what it does
pub record Piece : Type 0 where
  pub stmt : Stmt
  pub command : Command

-- the same of a form whose place in the text is still to be given
pub record Shaped : Type 0 where
  pub kind : StmtKind
  pub command : Stmt → Command

-- an item of a `switch`, and what goes before the items behind it
pub record Entry : Type 0 where
  pub item : Item
  pub before : Items → Items

abbrev pub with_other : Term → Command → Option Piece → Command
with_other test then None = If test then
with_other test then (Some other) = IfElse test then other.command

abbrev pub items_of : List Entry → Items
items_of [] = NoItem
items_of (i ∷ is) = i.before (items_of is)

abbrev pub command_in : Around → StmtKind-F Entry Shaped Piece → Stmt → Command
command_in r StmtKind-F.Empty s = Empty
command_in r (StmtKind-F.Declare x init) s = declaration r.shapes x (slice_get r.locals x) (inits_of r.shapes init)
command_in r (StmtKind-F.Eval e) s = Eval (term_of r.shapes e)
command_in r (StmtKind-F.Block all) s = Block (commands_of (map (λ c. c.command) all))
command_in r (StmtKind-F.If test then other) s = with_other (term_of r.shapes test) then.command other
command_in r (StmtKind-F.Loop id keyword init test step body pragmas) s =
    Loop (record { mark = mark_of r id (claims_of r pragmas test body.stmt s) s; late = is_late keyword; test = option_map (term_of r.shapes) test; step = option_map (term_of r.shapes) step })
    (commands_of (map (λ c. c.command) init)) body.command
command_in r (StmtKind-F.Switch value items) s = Switch (term_of r.shapes value) (items_of items)
command_in r (StmtKind-F.Return e) s = Return (option_map (term_of r.shapes) e)
command_in r StmtKind-F.Break s = Break
command_in r StmtKind-F.Continue s = Continue
command_in r (StmtKind-F.Future place captures body) s =
    Future (term_of r.shapes place) (map (capture_of r) captures) body.command

abbrev pub shaped_step : Around → StmtKind-F Entry Shaped Piece → Shaped
shaped_step r l = record { kind = roll-StmtKind (map-StmtKind Entry Shaped Piece Item StmtKind Stmt (λ i. i.item) (λ k. k.kind) (λ s. s.stmt) l); command = command_in r l }

abbrev pub piece_at : Span → Shaped → Piece
piece_at span k = record { stmt = record { span = span; kind = k.kind }; command = k.command (record { span = span; kind = k.kind }) }

abbrev pub before_in : Item-F Entry Shaped Piece → Items → Items
before_in (Item-F.At w) rest = At w rest
before_in Item-F.Other rest = Other rest
before_in (Item-F.Do s) rest = Do s.command rest

abbrev pub entry_at : Item-F Entry Shaped Piece → Entry
entry_at i = record {
  item = roll-Item (map-Item Entry Shaped Piece Item StmtKind Stmt (λ i. i.item) (λ k. k.kind) (λ s. s.stmt) i);
  before = before_in i;
}

abbrev pub piece_of : Around → Stmt → Piece
piece_of r = fold-Stmt Entry Shaped Piece entry_at (shaped_step r) (λ s. piece_at s.span s.kind)

abbrev pub command_of : Around → Stmt → Command
command_of r s = (piece_of r s).command

-- ---- programs

abbrev pub around : Tree → Func → Around
around t f = record { shapes = shapes_of t; pures = purity t.funcs; locals = f.locals }

-- the locals from number k on
abbrev pub formals_from : ℕ → List LocalOf → List Formal
formals_from k [] = []
formals_from k (l ∷ ls) = formal_by k l.addressed ∷ formals_from (suc k) ls

abbrev pub function_of : Tree → Func → Function
function_of t f = record { formals = formals_from 0 (take f.params f.locals); body = command_of (around t f) f.body }

-- the first cells of an object, which has so many; those past them are full and 0
abbrev pub cells_from : ℕ → List (ℕ × Bool) → List Cell
cells_from zero init = []
cells_from (suc n) [] = fresh ∷ cells_from n []
cells_from (suc n) (c ∷ cs) = record { value = c.0; full = c.1 } ∷ cells_from n cs

abbrev pub cells_of : Tree → ObjectOf → List Cell
cells_of t g = cells_from (size_of (shapes_of t) g.ty) g.init

abbrev pub program_of : Tree → Program
program_of t = record { globals = map (cells_of t) t.globals; formats = t.formats; functions = map (function_of t) t.funcs; main = t.main }
