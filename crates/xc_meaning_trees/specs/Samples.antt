-- Small typed trees, and what they stand for.
use Rattle.std.specs.Prelude.{◌≡◌, ℕ, Bool, true, false, [], ◌∷◌, Some, None}
use Rattle.xc_word.specs.declared.memory.Kind.TheVariants as kind
use Rattle.xc_tree.specs.declared.operator.BinOp.TheVariants as op
use Rattle.xc_tree.specs.declared.ty.Ty.{Ty, Int, Ptr, Array, Sync}
use Rattle.xc_tree.specs.declared.expr.Expr.{Expr}
use Rattle.xc_tree.specs.declared.expr.ExprKind.{ExprKind}
use Rattle.xc_tree.specs.declared.expr.ExprKind as expr
use Rattle.xc_tree.specs.declared.pragmas.Schedule.TheVariants.{Block as ByBlocks}
use Rattle.xc_tree.specs.declared.pragmas.Pragmas.{Pragmas}
use Rattle.xc_tree.specs.declared.stmt.Stmt.{Stmt}
use Rattle.xc_tree.specs.declared.stmt.StmtKind.{StmtKind}
use Rattle.xc_tree.specs.declared.stmt.StmtKind as stmt
use Rattle.xc_tree.specs.declared.stmt.Item as item
use Rattle.xc_tree.specs.declared.stmt.LoopForm.TheVariants.{For}
use Rattle.xc_tree.specs.declared.tree.Local.{Local as LocalOf}
use Rattle.xc_meaning_terms.specs.declared.operation.Operation.TheVariants.{OnWords, PointerPlus}
use Rattle.xc_meaning_terms.specs.Terms.{Term, Number, Local, Set, UpdateLocal, Global, Index, Read, Update, Binary, Range, Mark, Normal, Concurrent, Command, Empty, Declare, Object, Eval, Loop, Switch, NoItem, At, Other, Do, End, Then}
use Rattle.xc_tree.specs.declared.pragmas.Root.TheVariants as root
use Rattle.xc_meaning_trees.specs.References.{loop_roots}
use Rattle.xc_meaning_trees.specs.Trees.{Around, term_of, command_of}

abbrev pub at : Ty → ExprKind → Expr
at ty k = record { ty = ty; span = record { start = 0; end = 0 }; kind = k }

abbrev pub does : StmtKind → Stmt
does k = record { span = record { start = 0; end = 0 }; kind = k }

abbrev pub local : Ty → Bool → LocalOf
local ty addressed = record { name = record { start = 0; end = 0 }; ty = ty; addressed = addressed }

-- with these marks, and nothing else
abbrev pub pragmas : ℕ → Pragmas
pragmas marks = record { marks = record { 0 = marks }; nodep = []; noalias = []; streams = 8; schedule = ByBlocks; given = [] }

-- the local 0 is a number, the local 1 an array of three numbers, the local 2 a `sync` number
abbrev pub here : Around
here = record { shapes = []; pures = []; locals = local Int false ∷ local (Array 3 Int) true ∷ local (Sync Int) true ∷ [] }

abbrev pub int : ℕ → Expr
int n = at Int (expr.Const n)

abbrev pub i : Expr
i = at Int (expr.Local 0)

-- the place a[i] of a global array of three numbers
abbrev pub element : Expr
element = at (Ptr Int) (expr.Index (at (Ptr (Array 3 Int)) (expr.Global 0)) i 1 (Some 3))

abbrev pub element_term : Term
element_term = Index (Some 3) false 1 (Global 0) (Local 0)

-- a[i] += 1
abbrev pub UpdateOfElement : Type 0
UpdateOfElement = term_of [] (at Int (expr.Update op.Add false element (int 1))) ≡ Update (OnWords op.Add false) false kind.ReadXx kind.WriteXf element_term (Number 1)

-- p + i, where p points to numbers
abbrev pub PointerSum : Type 0
PointerSum = term_of [] (at (Ptr Int) (expr.Binary op.Add (at (Ptr Int) (expr.Read kind.ReadXx (at (Ptr (Ptr Int)) (expr.Global 1)))) i))
    ≡ Binary (PointerPlus false 1) (Read kind.ReadXx (Global 1)) (Local 0)

-- int a[3]; sync int s; int a[3] = {7};
abbrev pub Declarations : Type 0
Declarations = (command_of here (does (stmt.Declare 1 [])) ≡ Object 1 3 [] [])
    × (command_of here (does (stmt.Declare 2 [])) ≡ Object 2 1 (0 ∷ []) [])
    × (command_of here (does (stmt.Declare 1 ((0, int 7) ∷ []))) ≡ Object 1 3 [] ((0, Number 7) ∷ []))
    × (command_of here (does (stmt.Declare 0 [])) ≡ Declare 0 None)

-- for (i = 0; i < 2; i++) ; under these marks
abbrev pub up_to_two : ℕ → Stmt
up_to_two marks = does (stmt.Loop 4 For (does (stmt.Eval (at Int (expr.Set 0 (int 0)))) ∷ []) (Some (at Int (expr.Binary op.Lt i (int 2))))
    (Some (at Int (expr.Update op.Add true i (int 1)))) (does stmt.Empty) (pragmas marks))

abbrev pub range : Range
range = record { id = 4; index = 0; order = op.Lt; down = false; step = 1; local_count = 3; stable = true; claims = record { nodep = []; noalias = []; roots = [] } }

abbrev pub up_to_two_command : Mark → Command
up_to_two_command mark = Loop (record { mark = mark; late = false; test = Some (Binary (OnWords op.Lt false) (Local 0) (Number 2)); step = Some (UpdateLocal (OnWords op.Add false) true 0 (Number 1)) })
    (Then (Eval (Set 0 (Number 0))) End) Empty

-- without a pragma it is in normal form; under `assert parallel` it is Concurrent
abbrev pub Loops : Type 0
Loops = (command_of here (up_to_two 0) ≡ up_to_two_command (Normal range)) × (command_of here (up_to_two 1) ≡ up_to_two_command (Concurrent range))

-- switch (i) { case 1: ; default: }
abbrev pub Switches : Type 0
Switches = command_of here (does (stmt.Switch i (item.At 1 ∷ item.Do (does stmt.Empty) ∷ item.Other ∷ []))) ≡ Switch (Local 0) (At 1 (Do Empty (Other NoItem)))

-- the references of a[i] += a[1], in their order, and what they go through
abbrev pub Roots : Type 0
Roots = loop_roots [] None (does (stmt.Eval (at Int (expr.Update op.Add false element (at Int (expr.Read kind.ReadXx element)))))) (does stmt.Empty)
    ≡ root.Global 0 ∷ root.Global 0 ∷ root.Global 0 ∷ []

abbrev pub TreeSamples : Type 0
TreeSamples = UpdateOfElement × PointerSum × Declarations × Loops × Switches
