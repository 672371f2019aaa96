-- What statements without faults make.
use Rattle.std.specs.Prelude.{◌≡◌, ℕ, ◌+◌, Bool, ◌||◌, IsTrue, List, [], ◌∷◌, ◌++◌, length, map, Option, Some}
use Rattle.xc_text_place.specs.declared.Span.{Span}
use Rattle.xc_tree.specs.declared.ty.Ty.{Ty}
use Rattle.xc_tree.specs.declared.stmt.Stmt.{Stmt}
use Rattle.xc_tree.specs.Lists.{joined, allows}
use Rattle.xc_tree.specs.Walk.{loop_ids, declared}
use Rattle.xc_tree.specs.Typed.{Context}
use Rattle.xc_tree.specs.Statements.{Inside, leaving, clause_ok, leaves_ok, sight, sees_all, added, sees_ok, stmt_ok, pragmas_ok, sees_pragmas}
use Rattle.xc_raw.specs.declared.tree.Raw.{Raw}
use Rattle.xc_type_rule.specs.declared.found.Known.TheVariants as known
use Rattle.xc_welltyped.specs.Sound.{Point, known_ok}
use Rattle.xc_parse_grammar.specs.Grammar.{is_stmt}
use Rattle.xc_type_scopes.specs.declared.env.Env.{Env}
use Rattle.xc_type_scopes.specs.Env.{has_address}
use Rattle.xc_type_scopes.specs.Judge.{Judge}
use Rattle.xc_type_expressions.specs.declared.text.Text.{Text}
use Rattle.xc_type_statement_parts.specs.declared.answer.Answer.{Answer}
use Rattle.xc_type_statement_parts.specs.declared.pragmas.Begun.{Begun}
use Rattle.xc_type_statement_parts.specs.Answers.{answer_ty}
use Rattle.xc_type_statement_parts.specs.Making.{Stmts}
use Rattle.xc_type_statements.specs.Stated.{Part}
use Rattle.xc_type_lowering.specs.Accessed.{stmt_accessed}
use Rattle.xc_welltyped_claims.specs.Lists.{Each, StaysSet, Fresh}
use Rattle.xc_welltyped_claims.specs.Env.{Ready, Into, At, Covers}
use Rattle.xc_welltyped_claims.specs.Judges.{Clean, Passing, Made}
use Rattle.xc_welltyped_claims.specs.Shaped.{rule_in, is_pragma, is_block, is_block_item, is_sub, is_first, Spoken}

-- a loop is all that a `break` leaves in a text
abbrev pub inside : Ty → Bool → Inside
inside ret looping = record { ret = ret; breaking = looping; looping = looping }

-- in each program what a `return` gives has a type that an object may have, or none
abbrev pub answer_ok : Point → Answer → Bool
answer_ok so a = allows (λ ty. known_ok so (known.Value ty)) (answer_ty a)

abbrev pub AnswerFine : Text → Env → Answer → Type 0
AnswerFine t e a = (so : Point) → At t so e → IsTrue (answer_ok so a)

-- what is made is so where a `return` gives this
abbrev pub MakesFor : {A : Type 0} → Text → Answer → (Env → Env → A → Type 0) → Judge A → Type 0
MakesFor t a Q j = (e : Env) → Ready e → AnswerFine t e a → Clean j e → Made e (j e).env (Q e (j e).env (j e).part)

-- statements one behind another: what stands behind them is covered by what was seen before them and what they add
pub record AreStmts (t : Text) (a : Answer) (looping : Bool) (e e' : Env) (ss : List Stmt) : Type 0 where
  pub typed : (cx : Context) → Into t cx e' → Each (λ s. IsTrue (stmt_ok cx s)) ss
  pub leaves : (cx : Context) → Into t cx e' → (ret : Ty) → answer_ty a ≡ Some ret → Each (λ s. IsTrue (leaves_ok s (inside ret looping))) ss
  pub sees : (seen : List ℕ) → Covers seen e → IsTrue (sees_all (map sight ss) seen) × Covers (added (map sight ss) seen) e'
  pub ids : Fresh e.loops e'.loops (joined (map loop_ids ss))
  pub declares : Fresh (length e.locals) (length e'.locals) (joined (map declared ss))
  pub used : (flags : List Bool) → StaysSet e'.addressed flags → Each (λ s. IsTrue (stmt_accessed flags s)) ss

-- one statement, by itself
pub record IsStmt (t : Text) (a : Answer) (looping : Bool) (e e' : Env) (s : Stmt) : Type 0 where
  pub typed : (cx : Context) → Into t cx e' → IsTrue (stmt_ok cx s)
  pub leaves : (cx : Context) → Into t cx e' → (ret : Ty) → answer_ty a ≡ Some ret → IsTrue (leaves_ok s (inside ret looping))
  pub sees : (seen : List ℕ) → Covers seen e → IsTrue (sees_ok s seen)
  pub ids : Fresh e.loops e'.loops (loop_ids s)
  pub declares : Fresh (length e.locals) (length e'.locals) (declared s)
  pub used : (flags : List Bool) → StaysSet e'.addressed flags → IsTrue (stmt_accessed flags s)

-- parts -------------------------------------------------------------------------

pub record MadeStmts (t : Text) (node : Raw) (a : Answer) (looping : Bool) (e e' : Env) (o : Stmts) : Type 0 where
  pub made : List Stmt
  pub known : o ≡ Some made
  pub stmts : AreStmts t a looping e e' made
  pub single : IsTrue (is_stmt (rule_in node) || is_sub (rule_in node)) → (s : Stmt) × (made ≡ s ∷ []) × ((sight s).adds ≡ [])
  pub none : IsTrue (is_pragma (rule_in node)) → made ≡ []
  pub clause : IsTrue (is_first (rule_in node)) → IsTrue (clause_ok (map leaving made))
  pub spoken : Spoken t node

-- a block whose scope has begun
pub record MadeBody (t : Text) (node : Raw) (a : Answer) (looping : Bool) (e e' : Env) (o : Option Stmt) : Type 0 where
  pub made : Stmt
  pub known : o ≡ Some made
  pub stmt : IsStmt t a looping e e' made
  pub braces : IsTrue (leaving made).braces
  pub spoken : Spoken t node

pub record PartFine (t : Text) (node : Raw) (p : Part) : Type 0 where
  pub node_is : p.node ≡ node
  pub stated : IsTrue (is_block_item (rule_in node) || (is_sub (rule_in node) || is_first (rule_in node))) → (a : Answer) (looping : Bool) → MakesFor t a (MadeStmts t node a looping) (p.stated a looping)
  pub body : IsTrue (is_block (rule_in node)) → (a : Answer) (looping : Bool) → MakesFor t a (MadeBody t node a looping) (p.body a looping)

-- no part takes back a count that was passed
pub record PartPassing (p : Part) : Type 0 where
  pub stated : (a : Answer) (looping : Bool) → Passing (p.stated a looping)
  pub body : (a : Answer) (looping : Bool) → Passing (p.body a looping)

-- parts of statements -------------------------------------------------------------

-- the next object of the function at work, by its name or without one
pub record IsObject (at : Span) (ty : Ty) (e e' : Env) : Type 0 where
  pub locals : e'.locals ≡ e.locals ++ (at, ty) ∷ []
  pub addressed : e'.addressed ≡ e.addressed ++ has_address ty ∷ []
  pub structs : e'.structs ≡ e.structs
  pub loops : e'.loops ≡ e.loops
  pub covers : (seen : List ℕ) → Covers seen e → Covers (length e.locals ∷ seen) e'

-- a loop that has begun: its number is the next, and its pragmas name what is there
pub record HasBegun (t : Text) (e e' : Env) (b : Begun) : Type 0 where
  pub id : b.id ≡ e.loops
  pub loops : e'.loops ≡ e.loops + 1
  pub locals : e'.locals ≡ e.locals
  pub own : e'.own ≡ e.own
  pub pragmas : (cx : Context) → Into t cx e' → IsTrue (pragmas_ok cx b.pragmas)
  pub sees : (seen : List ℕ) → Covers seen e → IsTrue (sees_pragmas seen b.pragmas)
