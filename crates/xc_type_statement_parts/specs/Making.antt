-- How statements are put together. What has a part that is not made is not made either.
use Rattle.std.specs.Prelude.{List, [], ◌∷◌, ◌++◌, Option, Some, None, option_map}
use Rattle.xc_text_place.specs.declared.Span.{Span}
use Rattle.xc_tree.specs.declared.expr.Expr.{Expr}
use Rattle.xc_tree.specs.declared.stmt.Stmt.{Stmt}
use Rattle.xc_tree.specs.declared.stmt.StmtKind.{StmtKind, Eval, Block, If, Loop, Future}
use Rattle.xc_tree.specs.declared.stmt.LoopForm.{LoopForm}
use Rattle.xc_tree.specs.declared.stmt.Capture.{Capture}
use Rattle.xc_type_statement_parts.specs.declared.make.Header.{Header}
use Rattle.xc_type_statement_parts.specs.declared.pragmas.Begun.{Begun}

-- the statements that a part of a text makes
abbrev pub Stmts : Type 0
Stmts = Option (List Stmt)

abbrev pub stmt : Span → StmtKind → Stmt
stmt span k = record { span = span; kind = k }

-- as a list of one
unfoldable pub one : {A : Type 0} → Option A → Option (List A)
one x = option_map (λ x. x ∷ []) x

-- one list behind the other
unfoldable pub followed : {A : Type 0} → Option (List A) → Option (List A) → Option (List A)
followed (Some xs) (Some ys) = Some (xs ++ ys)
followed _ _ = None

-- the parts in order, if each is made
unfoldable pub all_made : {A : Type 0} → List (Option A) → Option (List A)
all_made [] = Some []
all_made (x ∷ xs) = followed (one x) (all_made xs)

-- the one statement of a list
unfoldable pub single : Stmts → Option Stmt
single (Some (s ∷ [])) = Some s
single _ = None

unfoldable pub eval_made : Span → Option Expr → Option Stmt
eval_made span e = option_map (λ e. stmt span (Eval e)) e

unfoldable pub block_made : Span → Stmts → Option Stmt
block_made span ss = option_map (λ ss. stmt span (Block ss)) ss

-- `other` may be absent
unfoldable pub if_made : Span → Option Expr → Option Stmt → Option (Option Stmt) → Option Stmt
if_made span (Some test) (Some then) (Some other) = Some (stmt span (If test then other))
if_made span _ _ _ = None

-- the clauses of a `for`: a test and a step may be absent
unfoldable pub headed : Stmts → Option (Option Expr) → Option (Option Expr) → Option Header
headed (Some init) (Some test) (Some step) = Some (record { init = init; test = test; step = step })
headed _ _ _ = None

-- `while` and `do` have a test alone
unfoldable pub test_alone : Option Expr → Option Header
test_alone test = headed (Some []) (option_map Some test) (Some None)

unfoldable pub loop_made : Span → LoopForm → Begun → Option Header → Option Stmt → Option Stmt
loop_made span f b (Some h) (Some body) = Some (stmt span (Loop b.id f h.init h.test h.step body b.pragmas))
loop_made span f b _ _ = None

unfoldable pub future_made : Span → Option Expr → Option (List Capture) → Option Stmt → Option Stmt
future_made span (Some place) (Some captures) (Some body) = Some (stmt span (Future place captures body))
future_made span _ _ _ = None
