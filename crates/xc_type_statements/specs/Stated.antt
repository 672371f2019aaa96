-- What each node of a text is as a statement (C99 6.8).
use Rattle.std.specs.Prelude.{Bool, true, false, List, [], ◌∷◌, Option, Some, None, option_map}
use Rattle.xc_text_place.specs.declared.Span.{Span}
use Rattle.xc_tree.specs.declared.expr.Expr.{Expr}
use Rattle.xc_tree.specs.declared.stmt.Stmt.{Stmt}
use Rattle.xc_tree.specs.declared.stmt.StmtKind.{StmtKind, Empty, Break, Continue}
use Rattle.xc_tree.specs.declared.stmt.LoopForm.TheVariants as form
use Rattle.xc_tree.specs.Types.{is_plain}
use Rattle.xc_raw.specs.declared.rule.Rule.{Rule}
use Rattle.xc_raw.specs.declared.rule.Rule.TheVariants as rule
use Rattle.xc_raw.specs.declared.tree.Raw.{Raw, out-Raw}
use Rattle.xc_raw_parts.specs.Nodes.{by_nodes}
use Rattle.xc_type_rule.specs.Least.{fault_unless}
use Rattle.xc_type_rule.specs.Tests.{may_be}
use Rattle.xc_type_scopes.specs.Env.{with_pragma, past_pragmas}
use Rattle.xc_type_scopes.specs.Judge.{Judge, give, and_then, mapped, framed, in_block}
use Rattle.xc_type_expressions.specs.declared.text.Text.{Text}
use Rattle.xc_type_expressions.specs.Roles.{value}
use Rattle.xc_type_expressions.specs.Judged.{judged, span_in}
use Rattle.xc_type_statement_parts.specs.declared.answer.Answer.{Answer}
use Rattle.xc_type_statement_parts.specs.declared.make.Header.{Header}
use Rattle.xc_type_statement_parts.specs.declared.pragmas.Begun.{Begun}
use Rattle.xc_type_statement_parts.specs.Making.{Stmts, stmt, one, followed, single, eval_made, block_made, if_made, headed, test_alone, loop_made, future_made}
use Rattle.xc_type_statement_parts.specs.Answers.{absent_part, absent_faults, return_part, return_faults}
use Rattle.xc_type_statement_parts.specs.Pragmas.{begun}
use Rattle.xc_type_statement_parts.specs.Declarations.{declaration}
use Rattle.xc_type_statement_parts.specs.Futures.{awaited, begins}

-- a part of a statement, where a `return` gives this answer, and there is a loop to leave or not
pub record Part : Type 0 where
  pub node : Raw
  -- the statements that it makes: one, but for declarations, pragmas and clauses
  pub stated : Answer → Bool → Judge Stmts
  -- the block that it is, whose scope has begun
  pub body : Answer → Bool → Judge (Option Stmt)

-- lists --------------------------------------------------------------------

unfoldable pub in_order : Answer → Bool → List Part → Judge Stmts
in_order a looping [] = give (Some []) []
in_order a looping (p ∷ ps) = and_then (p.stated a looping) (λ x. and_then (in_order a looping ps) (λ xs. give (followed x xs) []))

-- pragmas before a closing brace have no effect
unfoldable pub enclosed : Span → Answer → Bool → List Part → Judge (Option Stmt)
enclosed span a looping ps = framed (λ e. e) past_pragmas (mapped (block_made span) (in_order a looping ps))

-- the statement under an `if`, an `else` or a loop
abbrev pub under : Answer → Bool → Part → Judge (Option Stmt)
under a looping p = mapped single (p.stated a looping)

-- expressions --------------------------------------------------------------

-- a condition is a scalar; it is told at the statement's keyword
unfoldable pub tested : Text → Span → Raw → Judge (Option Expr)
tested t span e = and_then (value (judged t e)) (λ v. give v.made (fault_unless (may_be is_plain v.known) span))

-- what is evaluated for its effect is no struct
unfoldable pub evaluated : Text → Raw → Judge (Option Expr)
evaluated t e = and_then (value (judged t e)) (λ v. give v.made (fault_unless (may_be (λ ty. true) v.known) (span_in t e)))

-- `;` and `e;`
unfoldable pub eval_by : Text → Span → List Raw → Judge (Option Stmt)
eval_by t span [] = give (Some (stmt span Empty)) []
eval_by t span (e ∷ es) = mapped (eval_made span) (evaluated t e)

-- `return;` and `return e;`
unfoldable pub return_by : Text → Span → Answer → List Raw → Judge (Option Stmt)
return_by t span a [] = give (absent_part span) (absent_faults span a)
return_by t span a (e ∷ es) = and_then (value (judged t e)) (λ v. give (return_part span a v) (return_faults span a v))

-- the first clause of a `for` that declares nothing
unfoldable pub clause_by : Text → Span → List Raw → Judge Stmts
clause_by t span [] = give (Some []) []
clause_by t span (e ∷ es) = mapped one (mapped (eval_made span) (evaluated t e))

-- what stands there and is made
abbrev pub there : {A : Type 0} → Option A → Option (Option A)
there x = option_map Some x

-- the other clauses
unfoldable pub test_clause : Text → Span → List Raw → Judge (Option (Option Expr))
test_clause t span [] = give (Some None) []
test_clause t span (e ∷ es) = mapped there (tested t span e)

unfoldable pub step_clause : Text → List Raw → Judge (Option (Option Expr))
step_clause t [] = give (Some None) []
step_clause t (e ∷ es) = mapped there (evaluated t e)

-- `break` and `continue`
abbrev pub leaving : Span → StmtKind → Bool → Judge (Option Stmt)
leaving span k looping = give (Some (stmt span k)) (fault_unless looping span)

-- statements of statements -----------------------------------------------------

unfoldable pub else_by : Answer → Bool → List Part → Judge (Option (Option Stmt))
else_by a looping [] = give (Some None) []
else_by a looping (p ∷ ps) = mapped there (under a looping p)

unfoldable pub if_by : Text → Span → Answer → Bool → List Part → Judge (Option Stmt)
if_by t span a looping (test ∷ then ∷ others) = and_then (tested t span test.node) (λ c. and_then (under a looping then) (λ x.
    and_then (else_by a looping others) (λ y. give (if_made span c x y) [])))
if_by t span a looping ps = give None []

unfoldable pub while_by : Text → Span → Answer → List Part → Judge (Option Stmt)
while_by t span a (test ∷ body ∷ ps) = and_then (begun t span.start) (λ b. and_then (tested t span test.node) (λ c.
    and_then (under a true body) (λ x. give (loop_made span form.While b (test_alone c) x) [])))
while_by t span a ps = give None []

unfoldable pub do_by : Text → Span → Answer → List Part → Judge (Option Stmt)
do_by t span a (body ∷ test ∷ ps) = and_then (begun t span.start) (λ b. and_then (under a true body) (λ x.
    and_then (tested t span test.node) (λ c. give (loop_made span form.Do b (test_alone c) x) [])))
do_by t span a ps = give None []

-- the clauses of a `for`
unfoldable pub clauses : Text → Span → Answer → List Part → Judge (Option Header)
clauses t span a (first ∷ test ∷ step ∷ ps) = and_then (first.stated a true) (λ i. and_then (test_clause t span (out-Raw test.node).parts) (λ c.
    and_then (step_clause t (out-Raw step.node).parts) (λ s. give (headed i c s) [])))
clauses t span a ps = give None []

-- what it repeats
unfoldable pub repeated : Answer → List Part → Judge (Option Stmt)
repeated a (first ∷ test ∷ step ∷ body ∷ ps) = under a true body
repeated a ps = give None []

-- a `for` that has begun
unfoldable pub for_inner : Text → Span → Answer → Begun → List Part → Judge (Option Stmt)
for_inner t span a b ps = and_then (clauses t span a ps) (λ h. and_then (repeated a ps) (λ x. give (loop_made span form.For b h x) []))

-- a `for` is a scope of its own (C99 6.8.5 paragraph 5)
unfoldable pub for_by : Text → Span → Answer → List Part → Judge (Option Stmt)
for_by t span a ps = and_then (begun t span.start) (λ b. in_block (for_inner t span a b ps))

-- the copies and the body, which sees file scope and what it copies
unfoldable pub future_by : Text → Raw → List Part → Judge (Option Stmt)
future_by t node (place ∷ block ∷ ps) = and_then (awaited t (span_in t node) place.node) (λ f. and_then (begins t node (block.body f.1 false)) (λ b.
    give (future_made (span_in t node) f.0 b.0 b.1) []))
future_by t node ps = give None []

-- nodes ------------------------------------------------------------------------

-- a statement that is no loop; a block is a scope (C99 6.8.2)
unfoldable pub plain_by : Text → Raw → Rule → List Part → Answer → Bool → Judge (Option Stmt)
plain_by t node rule.Block ps a looping = in_block (enclosed (span_in t node) a looping ps)
plain_by t node rule.Eval ps a looping = eval_by t (span_in t node) (out-Raw node).parts
plain_by t node rule.If ps a looping = if_by t (span_in t node) a looping ps
plain_by t node rule.Return ps a looping = return_by t (span_in t node) a (out-Raw node).parts
plain_by t node rule.Break ps a looping = leaving (span_in t node) Break looping
plain_by t node rule.Continue ps a looping = leaving (span_in t node) Continue looping
plain_by t node rule.Future ps a looping = future_by t node ps
plain_by t node _ ps a looping = give None []

-- a loop uses the pragmas directly before it, and nothing else does
unfoldable pub stmt_by : Text → Raw → Rule → List Part → Answer → Bool → Judge (Option Stmt)
stmt_by t node rule.While ps a looping = while_by t (span_in t node) a ps
stmt_by t node rule.Do ps a looping = do_by t (span_in t node) a ps
stmt_by t node rule.For ps a looping = for_by t (span_in t node) a ps
stmt_by t node r ps a looping = framed past_pragmas (λ e. e) (plain_by t node r ps a looping)

unfoldable pub stated_by : Text → Raw → Rule → List Part → Answer → Bool → Judge Stmts
stated_by t node rule.Pragma ps a looping = framed (with_pragma (span_in t node)) (λ e. e) (give (Some []) [])
stated_by t node rule.Declaration ps a looping = framed past_pragmas (λ e. e) (declaration t (out-Raw node).parts)
stated_by t node rule.ForDeclaration ps a looping = declaration t (out-Raw node).parts
stated_by t node rule.Clause ps a looping = clause_by t (span_in t node) (out-Raw node).parts
stated_by t node rule.Sub ps a looping = in_order a looping ps
stated_by t node r ps a looping = mapped one (stmt_by t node r ps a looping)

abbrev pub part_of : Text → Raw → List Part → Part
part_of t node ps = record {
  node = node;
  stated = stated_by t node (out-Raw node).rule ps;
  body = λ a looping. enclosed (span_in t node) a looping ps;
}

-- a node as a part of a statement
unfoldable pub statement : Text → Raw → Part
statement t = by_nodes (part_of t)
