-- How many instructions there are: at most 11 for each node of the tree.
use Rattle.std.proofs.Common.{ℕ, suc, zero, ◌+◌, ◌*◌, ◌^◌, ◌-◌, ◌<◌, ◌≤◌, List, [], ◌∷◌, ◌++◌, length, length-append, map, Option, Some, None, Bool, true, false, cond, sym, subst, arith}
use Rattle.std.specs.Prelude.{⊤, slice_get}
use Rattle.xc_text_place.specs.declared.Span.{Span}
use Rattle.xc_word.specs.declared.memory.Kind.TheVariants as kind
use Rattle.xc_tree.specs.declared.operator.BinOp.{BinOp}
use Rattle.xc_tree.specs.declared.operator.BinOp.TheVariants as op
use Rattle.xc_tree.specs.declared.operator.UnOp.{UnOp}
use Rattle.xc_tree.specs.declared.operator.UnOp.TheVariants as unary
use Rattle.xc_tree.specs.declared.ty.Ty.{Ty}
use Rattle.xc_tree.specs.declared.expr.Expr.{Expr, roll-Expr}
use Rattle.xc_tree.specs.declared.expr.ExprKind.{ExprKind, roll-ExprKind}
use Rattle.xc_tree.specs.declared.expr.ExprKind.TheOpen.{ExprKind-F, Expr-F}
use Rattle.xc_tree.specs.declared.expr.ExprKind.TheFolds.{fold-ExprKind, fold-roll-ExprKind, fold-roll-Expr, ind-Expr, map-ExprKind}
use Rattle.xc_tree.specs.declared.stmt.Stmt.{Stmt, roll-Stmt}
use Rattle.xc_tree.specs.declared.stmt.StmtKind.{StmtKind, roll-StmtKind}
use Rattle.xc_tree.specs.declared.stmt.Item.{Item}
use Rattle.xc_tree.specs.declared.stmt.Item.TheOpen.{StmtKind-F}
use Rattle.xc_tree.specs.declared.stmt.Item.TheFolds.{fold-StmtKind, fold-Item, fold-roll-StmtKind, fold-roll-Stmt, ind-Stmt, map-StmtKind}
use Rattle.xc_tree.specs.declared.tree.Func.{Func}
use Rattle.xc_tree.specs.declared.tree.Tree.{Tree}
use Rattle.xc_tree.specs.Types.{is_number}
use Rattle.xc_tree.specs.Walk.{of_item}
use Rattle.xc_tree_words.specs.Words.{works_on_uint}
use Rattle.xc_tree_sizes.specs.Nodes.{total, nodes_in, kind_nodes, expr_nodes, item_step, parts_nodes, stmt_nodes, funcs_nodes, IsSmall}
use Rattle.xc_isa.specs.declared.instr.Instr.TheVariants as instr
use Rattle.xc_isa.specs.declared.instr.Test.TheVariants.{Zero, NotZero}
use Rattle.xc_meaning.specs.Terms.{Term, Number, Read, Write, Update, Unary, Binary, And, Or, Cond, Comma, Print, Terms, NoMore, More, Form, Part, form_step, part_of, term_in, at_global, terms_of, term_of, Command, Empty, Eval, Block, Return, Commands, End, Then, command_in, command_of, commands_of, body_of, program_of}
use Rattle.xc_gen.specs.Code.{save, operation_code, unary_code, write_code, apply_code, old_code, as_truth_code, loads_code, print_code, term_code, terms_code, leave_code, command_code, commands_code, whole_code, waiting_in, waiting_among, waiting_for, waiting_for_all}

-- ---- terms

-- the nodes of a term, and of arguments
abbrev mutual
  nodes_of : Term → ℕ
  nodes_of (Number n) = 1
  nodes_of (Read g) = 1
  nodes_of (Write g value) = nodes_of value + 1
  nodes_of (Update o unsigned post g value) = nodes_of value + 1
  nodes_of (Unary o of) = nodes_of of + 1
  nodes_of (Binary o unsigned a b) = nodes_of a + nodes_of b + 1
  nodes_of (And a b) = nodes_of a + nodes_of b + 1
  nodes_of (Or a b) = nodes_of a + nodes_of b + 1
  nodes_of (Cond test a b) = nodes_of test + nodes_of a + nodes_of b + 1
  nodes_of (Comma a b) = nodes_of a + nodes_of b + 1
  nodes_of (Print format args) = nodes_of_all args + 1
  nodes_of (Term.Unbuilt at) = 1

  nodes_of_all : Terms → ℕ
  nodes_of_all NoMore = 0
  nodes_of_all (More e es) = nodes_of e + nodes_of_all es

operation_lines : (o : BinOp) (unsigned : Bool) → length (operation_code o unsigned) ≤ 2
operation_lines op.Mul u = omega arith
operation_lines op.Div u = omega arith
operation_lines op.Rem u = omega arith
operation_lines op.Add u = omega arith
operation_lines op.Sub u = omega arith
operation_lines op.Shl u = omega arith
operation_lines op.Shr u = omega arith
operation_lines op.Lt u = omega arith
operation_lines op.Gt u = omega arith
operation_lines op.Le u = omega arith
operation_lines op.Ge u = omega arith
operation_lines op.Eq u = omega arith
operation_lines op.Ne u = omega arith
operation_lines op.BitAnd u = omega arith
operation_lines op.BitXor u = omega arith
operation_lines op.BitOr u = omega arith

unary_lines : (o : UnOp) → length (unary_code o) ≤ 2
unary_lines unary.Neg = omega arith
unary_lines unary.Complement = omega arith
unary_lines unary.Not = omega arith
unary_lines unary.Cast = omega arith

old_lines : (post : Bool) (d : ℕ) → length (old_code post d) ≤ 1
old_lines true d = omega arith
old_lines false d = omega arith

-- two are left over for a value that waits and comes back
mutual
  term_lines : (e : Term) (d at : ℕ) → length (term_code e d at) + 2 ≤ 11 * nodes_of e
  term_lines (Number n) d at = omega arith
  term_lines (Read g) d at = omega arith
  term_lines (Write g value) d at = omega (arith, length-append (term_code value d at) (write_code g), term_lines value d at)
  term_lines (Update o u post g value) d at =
      let cv = term_code value (d + 1) (at + 3) in
      let old = old_code post d in
      let rest = write_code g ++ old in
      omega (arith, length-append cv (apply_code o u d ++ rest), length-append (operation_code o u) rest, operation_lines o u, old_lines post d, term_lines value (d + 1) (at + 3))
  term_lines (Unary o of) d at = omega (arith, length-append (term_code of d at) (unary_code o), unary_lines o, term_lines of d at)
  term_lines (Binary o u a b) d at =
      let ca = term_code a d at in
      let b_at = at + length ca + 1 in
      let cb = term_code b (d + 1) b_at in
      omega (arith, length-append ca (save d ∷ (cb ++ apply_code o u d)), length-append cb (apply_code o u d), operation_lines o u, term_lines a d at, term_lines b (d + 1) b_at)
  term_lines (And a b) d at =
      let ca = term_code a d at in
      let b_at = at + length ca + 1 in
      let cb = term_code b d b_at in
      omega (arith, length-append ca (instr.Branch Zero 16 (b_at + length cb) ∷ (cb ++ as_truth_code)), length-append cb as_truth_code, term_lines a d at, term_lines b d b_at)
  term_lines (Or a b) d at =
      let ca = term_code a d at in
      let b_at = at + length ca + 1 in
      let cb = term_code b d b_at in
      omega (arith, length-append ca (instr.Branch NotZero 16 (b_at + length cb) ∷ (cb ++ as_truth_code)), length-append cb as_truth_code, term_lines a d at, term_lines b d b_at)
  term_lines (Cond test a b) d at =
      let ct = term_code test d at in
      let a_at = at + length ct + 1 in
      let ca = term_code a d a_at in
      let b_at = a_at + length ca + 1 in
      let cb = term_code b d b_at in
      omega (arith, length-append ct (instr.Branch Zero 16 b_at ∷ (ca ++ (instr.Jmp (b_at + length cb) ∷ cb))), length-append ca (instr.Jmp (b_at + length cb) ∷ cb), term_lines test d at, term_lines a d a_at, term_lines b d b_at)
  term_lines (Comma a b) d at =
      let ca = term_code a d at in
      let b_at = at + length ca in
      omega (arith, length-append ca (term_code b d b_at), term_lines a d at, term_lines b d b_at)
  term_lines (Print f args) d at =
      let loads = loads_code args 24 d in
      omega (arith, length-append (terms_code args d at) (loads ++ print_code f), length-append loads (print_code f), terms_lines args d at 24 d)
  term_lines (Term.Unbuilt span) d at = omega arith

  terms_lines : (es : Terms) (d at register k : ℕ) → length (terms_code es d at) + length (loads_code es register k) ≤ 11 * nodes_of_all es
  terms_lines NoMore d at register k = omega arith
  terms_lines (More e es) d at register k =
      let ce = term_code e d at in
      let next = at + length ce + 1 in
      omega (arith, length-append ce (save d ∷ terms_code es (d + 1) next), term_lines e d at, terms_lines es (d + 1) next (register + 1) (k + 1))

one_node : (e : Term) → 1 ≤ nodes_of e
one_node e = let some = term_lines e 0 0 in omega (arith, some)

mutual
  waiting_nodes : (e : Term) → waiting_in e ≤ nodes_of e
  waiting_nodes (Number n) = omega arith
  waiting_nodes (Read g) = omega arith
  waiting_nodes (Write g value) = omega (arith, waiting_nodes value)
  waiting_nodes (Update o u post g value) = omega (arith, waiting_nodes value)
  waiting_nodes (Unary o of) = omega (arith, waiting_nodes of)
  waiting_nodes (Binary o u a b) = omega (arith, waiting_nodes a, waiting_nodes b)
  waiting_nodes (And a b) = omega (arith, waiting_nodes a, waiting_nodes b)
  waiting_nodes (Or a b) = omega (arith, waiting_nodes a, waiting_nodes b)
  waiting_nodes (Cond test a b) = omega (arith, waiting_nodes test, waiting_nodes a, waiting_nodes b)
  waiting_nodes (Comma a b) = omega (arith, waiting_nodes a, waiting_nodes b)
  waiting_nodes (Print f args) = omega (arith, waiting_all args 0)
  waiting_nodes (Term.Unbuilt at) = omega arith

  waiting_all : (es : Terms) (before : ℕ) → waiting_among es before ≤ before + nodes_of_all es
  waiting_all NoMore before = omega arith
  waiting_all (More e es) before = omega (arith, one_node e, waiting_nodes e, waiting_all es (before + 1))

-- ---- commands

abbrev mutual
  nodes_for : Command → ℕ
  nodes_for Empty = 1
  nodes_for (Eval e) = nodes_of e + 1
  nodes_for (Block all) = nodes_for_all all + 1
  nodes_for (Return e) = nodes_of e + 1
  nodes_for (Command.Unbuilt at) = 1

  nodes_for_all : Commands → ℕ
  nodes_for_all End = 0
  nodes_for_all (Then s ss) = nodes_for s + nodes_for_all ss

mutual
  command_lines : (s : Command) (at : ℕ) → length (command_code s at) ≤ 11 * nodes_for s
  command_lines Empty at = omega arith
  command_lines (Eval e) at = omega (arith, term_lines e 0 at)
  command_lines (Block all) at = omega (arith, commands_lines all at)
  command_lines (Return e) at = omega (arith, length-append (term_code e 0 at) leave_code, term_lines e 0 at)
  command_lines (Command.Unbuilt span) at = omega arith

  commands_lines : (ss : Commands) (at : ℕ) → length (commands_code ss at) ≤ 11 * nodes_for_all ss
  commands_lines End at = omega arith
  commands_lines (Then s ss) at =
      let cs = command_code s at in
      omega (arith, length-append cs (commands_code ss (at + length cs)), command_lines s at, commands_lines ss (at + length cs))

mutual
  waiting_command : (s : Command) → waiting_for s ≤ nodes_for s
  waiting_command Empty = omega arith
  waiting_command (Eval e) = omega (arith, waiting_nodes e)
  waiting_command (Block all) = omega (arith, waiting_commands all)
  waiting_command (Return e) = omega (arith, waiting_nodes e)
  waiting_command (Command.Unbuilt at) = omega arith

  waiting_commands : (ss : Commands) → waiting_for_all ss ≤ nodes_for_all ss
  waiting_commands End = omega arith
  waiting_commands (Then s ss) = omega (arith, waiting_command s, waiting_commands ss)

whole_lines : (s : Command) → length (whole_code s) ≤ 11 * nodes_for s + 4
whole_lines s = omega (arith, length-append (command_code s 2) leave_code, command_lines s 2)

-- ---- expressions

abbrev KeptKind : ExprKind → Type 0
KeptKind k = (ty : Ty) (span : Span) → nodes_of ((fold-ExprKind Form Part form_step (λ e. record { ty = e.ty; global = e.kind.global; term = e.kind.term e.ty e.span }) k).term ty span) ≤ kind_nodes k

abbrev Kept : Expr → Type 0
Kept e = nodes_of (term_of e) ≤ expr_nodes e

abbrev Child : Type 0
Child = (e : Expr) × Kept e

abbrev KindChild : Type 0
KindChild = (k : ExprKind) × KeptKind k

abbrev layer : ExprKind-F KindChild Child → ExprKind-F ExprKind Expr
layer y = map-ExprKind KindChild Child ExprKind Expr (λ k. k.0) (λ e. e.0) y

abbrev form_of : ExprKind → Form
form_of = fold-ExprKind Form Part form_step (λ e. record { ty = e.ty; global = e.kind.global; term = e.kind.term e.ty e.span })

abbrev term_layer : ExprKind-F KindChild Child → ExprKind-F Form Part
term_layer y = map-ExprKind ExprKind Expr Form Part form_of part_of (layer y)

abbrev nodes_layer : ExprKind-F KindChild Child → ExprKind-F ℕ ℕ
nodes_layer y = map-ExprKind ExprKind Expr ℕ ℕ kind_nodes expr_nodes (layer y)

at_most : (g : Option ℕ) (span : Span) (go : ℕ → Term) (n : ℕ) → 1 ≤ n → ((g : ℕ) → nodes_of (go g) ≤ n) → nodes_of (at_global g span go) ≤ n
at_most None span go n one h = omega (arith, one)
at_most (Some g) span go n one h = h g

args_most : (es : List Child) → nodes_of_all (terms_of (map part_of (map (λ e. e.0) es))) ≤ total (map expr_nodes (map (λ e. e.0) es))
args_most [] = omega arith
args_most (e ∷ es) = omega (arith, e.1, args_most es)

level : (y : ExprKind-F KindChild Child) (ty : Ty) (span : Span) → nodes_of (term_in (term_layer y) ty span) ≤ nodes_in (nodes_layer y) + 1
level (ExprKind-F.Const v) ty span = by (is_number ty)
  where
    by : (b : Bool) → nodes_of (cond b (Number v) (Term.Unbuilt span)) ≤ 1
    by true = omega arith
    by false = omega arith
level (ExprKind-F.Local x) ty span = omega arith
level (ExprKind-F.Set x v) ty span = omega arith
level (ExprKind-F.Global g) ty span = omega arith
level (ExprKind-F.Auto x) ty span = omega arith
level (ExprKind-F.Index base index size bound) ty span = omega arith
level (ExprKind-F.Member base off) ty span = omega arith
level (ExprKind-F.Read kind.ReadXx place) ty span = at_most (part_of place.0).global span Read _ (omega arith) (λ g. omega arith)
level (ExprKind-F.Read k place) ty span = omega arith
level (ExprKind-F.Write kind.WriteXf place value) ty span = at_most (part_of place.0).global span (λ g. Write g (term_of value.0)) _ (omega arith) (λ g. omega (arith, value.1))
level (ExprKind-F.Write k place value) ty span = omega arith
level (ExprKind-F.FetchAdd place value) ty span = omega arith
level (ExprKind-F.Purge place) ty span = omega arith
level (ExprKind-F.Update o post place value) ty span =
    at_most (part_of place.0).global span (λ g. Update o (works_on_uint o ty (part_of value.0).ty) post g (term_of value.0)) _ (omega arith) (λ g. omega (arith, value.1))
level (ExprKind-F.Unary o of) ty span = omega (arith, of.1)
level (ExprKind-F.Binary o a b) ty span = omega (arith, a.1, b.1)
level (ExprKind-F.And a b) ty span = omega (arith, a.1, b.1)
level (ExprKind-F.Or a b) ty span = omega (arith, a.1, b.1)
level (ExprKind-F.Cond test a b) ty span = omega (arith, test.1, a.1, b.1)
level (ExprKind-F.Comma a b) ty span = omega (arith, a.1, b.1)
level (ExprKind-F.Call f args) ty span = omega arith
level (ExprKind-F.Print f args) ty span = omega (arith, args_most args)

term_most : (e : Expr) → Kept e
term_most = ind-Expr KeptKind Kept
    (λ x y is. subst (λ z. KeptKind (roll-ExprKind z)) is (λ ty span.
    let form_same = fold-roll-ExprKind Form Part form_step (λ e. record { ty = e.ty; global = e.kind.global; term = e.kind.term e.ty e.span }) (layer y) in
    subst (λ (k : Form). nodes_of (k.term ty span) ≤ kind_nodes (roll-ExprKind (layer y))) (sym form_same)
    (omega (arith, level y ty span, fold-roll-ExprKind ℕ ℕ (λ k. nodes_in k + 1) (λ e. e.kind) (layer y)))))
    (λ x y is. subst (λ z. Kept (roll-Expr z)) is
    (let z : Expr-F ExprKind Expr = record { ty = y.ty; span = y.span; kind = y.kind.0 } in
    let form_same = fold-roll-Expr Form Part form_step (λ e. record { ty = e.ty; global = e.kind.global; term = e.kind.term e.ty e.span }) z in
    subst (λ (p : Part). nodes_of p.term ≤ expr_nodes (roll-Expr z)) (sym form_same)
    (omega (arith, y.kind.1 y.ty y.span, fold-roll-Expr ℕ ℕ (λ k. nodes_in k + 1) (λ e. e.kind) z))))

-- ---- statements

abbrev deed_of : StmtKind → Span → Command
deed_of = fold-StmtKind Command (Span → Command) Command (of_item Empty) command_in (λ s. s.kind s.span)

abbrev deed_item : Item → Command
deed_item = fold-Item Command (Span → Command) Command (of_item Empty) command_in (λ s. s.kind s.span)

abbrev form_nodes : StmtKind → ℕ
form_nodes = fold-StmtKind ℕ ℕ ℕ item_step (λ k. parts_nodes k + 1) (λ s. s.kind)

abbrev item_nodes : Item → ℕ
item_nodes = fold-Item ℕ ℕ ℕ item_step (λ k. parts_nodes k + 1) (λ s. s.kind)

-- no `switch` has code yet, so nothing is asked of its items
abbrev KeptItem : Item → Type 0
KeptItem i = ⊤

abbrev KeptStmtKind : StmtKind → Type 0
KeptStmtKind k = (span : Span) → nodes_for (deed_of k span) ≤ form_nodes k

abbrev KeptStmt : Stmt → Type 0
KeptStmt s = nodes_for (command_of s) ≤ stmt_nodes s

abbrev StmtChild : Type 0
StmtChild = (s : Stmt) × KeptStmt s

abbrev StmtKindChild : Type 0
StmtKindChild = (k : StmtKind) × KeptStmtKind k

abbrev ItemChild : Type 0
ItemChild = (i : Item) × KeptItem i

abbrev stmt_layer : StmtKind-F ItemChild StmtKindChild StmtChild → StmtKind-F Item StmtKind Stmt
stmt_layer y = map-StmtKind ItemChild StmtKindChild StmtChild Item StmtKind Stmt (λ i. i.0) (λ k. k.0) (λ s. s.0) y

abbrev deed_layer : StmtKind-F ItemChild StmtKindChild StmtChild → StmtKind-F Command (Span → Command) Command
deed_layer y = map-StmtKind Item StmtKind Stmt Command (Span → Command) Command deed_item deed_of command_of (stmt_layer y)

abbrev size_layer : StmtKind-F ItemChild StmtKindChild StmtChild → StmtKind-F ℕ ℕ ℕ
size_layer y = map-StmtKind Item StmtKind Stmt ℕ ℕ ℕ item_nodes form_nodes stmt_nodes (stmt_layer y)

all_most : (ss : List StmtChild) → nodes_for_all (commands_of (map command_of (map (λ s. s.0) ss))) ≤ total (map stmt_nodes (map (λ s. s.0) ss))
all_most [] = omega arith
all_most (s ∷ ss) = omega (arith, s.1, all_most ss)

stmt_level : (y : StmtKind-F ItemChild StmtKindChild StmtChild) (span : Span) → nodes_for (command_in (deed_layer y) span) ≤ parts_nodes (size_layer y) + 1
stmt_level StmtKind-F.Empty span = omega arith
stmt_level (StmtKind-F.Declare x init) span = omega arith
stmt_level (StmtKind-F.Eval e) span = omega (arith, term_most e)
stmt_level (StmtKind-F.Block all) span = omega (arith, all_most all)
stmt_level (StmtKind-F.If test a b) span = omega arith
stmt_level (StmtKind-F.Loop id f init test step body pragmas) span = omega arith
stmt_level (StmtKind-F.Switch value items) span = omega arith
stmt_level (StmtKind-F.Return None) span = omega arith
stmt_level (StmtKind-F.Return (Some e)) span = omega (arith, term_most e)
stmt_level StmtKind-F.Break span = omega arith
stmt_level StmtKind-F.Continue span = omega arith
stmt_level (StmtKind-F.Future place captures body) span = omega arith

command_most : (s : Stmt) → KeptStmt s
command_most = ind-Stmt KeptItem KeptStmtKind KeptStmt
    (λ x y is. tt)
    (λ x y is. subst (λ z. KeptStmtKind (roll-StmtKind z)) is (λ span.
    let deed_same = fold-roll-StmtKind Command (Span → Command) Command (of_item Empty) command_in (λ s. s.kind s.span) (stmt_layer y) in
    subst (λ (d : Span → Command). nodes_for (d span) ≤ form_nodes (roll-StmtKind (stmt_layer y))) (sym deed_same)
    (omega (arith, stmt_level y span, fold-roll-StmtKind ℕ ℕ ℕ item_step (λ k. parts_nodes k + 1) (λ s. s.kind) (stmt_layer y)))))
    (λ x y is. subst (λ z. KeptStmt (roll-Stmt z)) is
    (let deed_same = fold-roll-Stmt Command (Span → Command) Command (of_item Empty) command_in (λ s. s.kind s.span) (record { span = y.span; kind = y.kind.0 }) in
    let size_same = fold-roll-Stmt ℕ ℕ ℕ item_step (λ k. parts_nodes k + 1) (λ s. s.kind) (record { span = y.span; kind = y.kind.0 }) in
    subst (λ (c : Command). nodes_for c ≤ stmt_nodes (roll-Stmt (record { span = y.span; kind = y.kind.0 }))) (sym deed_same) (omega (arith, y.kind.1 y.span, size_same))))

-- ---- trees

body_most : (fs : List Func) (i : ℕ) → nodes_for (body_of (slice_get fs i)) ≤ funcs_nodes fs + 1
body_most [] i = omega arith
body_most (f ∷ fs) zero = omega (arith, command_most f.body)
body_most (f ∷ fs) (suc i) = omega (arith, body_most fs i)

-- the assembly text of a small tree has few lines
pub few_lines : (t : Tree) → IsSmall t → 2 + 2 * length t.globals + length t.formats + length (whole_code (program_of t).body) < 2 ^ 32 - 1
few_lines t small = omega (arith, small, whole_lines (program_of t).body, body_most t.funcs t.main)

-- the values that wait in it are few
pub few_wait : (t : Tree) → IsSmall t → waiting_for (program_of t).body + 1 < 2 ^ 32
few_wait t small = omega (arith, small, waiting_command (program_of t).body, body_most t.funcs t.main)
