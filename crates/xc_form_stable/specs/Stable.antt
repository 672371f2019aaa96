-- Stable loops: loops whose addresses may be told before they run. The whole loop is looked at, its first clause included.
use Rattle.std.specs.Prelude.{ℕ, ◌^◌, Bool, true, false, ◌&&◌, ◌||◌, ◌==◌, not, nat_le, cond, List, [], ◌∷◌, ◌++◌, map, Option, Some, None, Ok, Err, Result, slice_get, is_none}
use Rattle.xc_text_place.specs.declared.Span.{Span}
use Rattle.xc_tree.specs.declared.operator.BinOp.{BinOp}
use Rattle.xc_tree.specs.declared.operator.BinOp.TheVariants as op
use Rattle.xc_tree.specs.declared.expr.Expr.{Expr}
use Rattle.xc_tree.specs.declared.expr.ExprKind.{ExprKind, out-ExprKind}
use Rattle.xc_tree.specs.declared.expr.ExprKind.TheOpen.{ExprKind-F}
use Rattle.xc_tree.specs.declared.stmt.Stmt.{Stmt}
use Rattle.xc_tree.specs.declared.stmt.Capture.{Capture}
use Rattle.xc_tree.specs.declared.stmt.LoopForm.{LoopForm}
use Rattle.xc_tree.specs.declared.stmt.LoopForm.TheVariants as form
use Rattle.xc_tree.specs.declared.stmt.NotNormal.{NotNormal}
use Rattle.xc_tree.specs.declared.stmt.Item.{Item, roll-Item}
use Rattle.xc_tree.specs.declared.stmt.Item.TheOpen.{StmtKind-F, Stmt-F, Item-F}
use Rattle.xc_tree.specs.declared.stmt.Item.TheFolds.{fold-Stmt, map-StmtKind, map-Item}
use Rattle.xc_tree.specs.declared.stmt.StmtKind.{StmtKind, roll-StmtKind, out-StmtKind}
use Rattle.xc_tree.specs.declared.tree.Local.{Local}
use Rattle.xc_tree.specs.Lists.{joined, passes, allows}
use Rattle.xc_form.specs.declared.normal.Header.{Header}
use Rattle.xc_form.specs.declared.normal.Step.{Step}
use Rattle.xc_form.specs.Effects.{stmt_effects}
use Rattle.xc_form.specs.Changes.{is_unchanging}
use Rattle.xc_form.specs.Normal.{is_local, normal_form}
use Rattle.xc_form.specs.Concurrency.{is_concurrent}
use Rattle.xc_form_stable.specs.declared.breach.Breach.{Breach}
use Rattle.xc_form_stable.specs.declared.breach.Rule.{Rule}
use Rattle.xc_form_stable.specs.declared.breach.Rule.TheVariants as rule
use Rattle.xc_form_stable.specs.Addresses.{Frame, breach, breach_if, is_steady, expr_breaches}

-- bounds -----------------------------------------------------------------

abbrev pub set_value : ExprKind-F ExprKind Expr → Option Expr
set_value (ExprKind-F.Set x value) = Some value
set_value _ = None

abbrev pub first_init : List (ℕ × Expr) → Option Expr
first_init [] = None
first_init (i ∷ is) = Some i.1

abbrev pub clause_value : StmtKind-F Item StmtKind Stmt → Option Expr
clause_value (StmtKind-F.Eval e) = set_value (out-ExprKind e.kind)
clause_value (StmtKind-F.Declare x init) = first_init init
clause_value _ = None

-- what the first clause gives the index; none for 0
abbrev pub lower_of : List Stmt → Option Expr
lower_of [] = None
lower_of (s ∷ ss) = clause_value (out-StmtKind s.kind)

abbrev pub right_side : ExprKind-F ExprKind Expr → Option Expr
right_side (ExprKind-F.Binary o a b) = Some b
right_side _ = None

-- what the index is compared with
abbrev pub upper_of : Option Expr → Option Expr
upper_of None = None
upper_of (Some e) = right_side (out-ExprKind e.kind)

-- loops inside the loop --------------------------------------------------

abbrev pub number_in : ExprKind-F ExprKind Expr → Bool
number_in (ExprKind-F.Const n) = nat_le n (2 ^ 31)
number_in _ = false

-- a number up to 2^31
abbrev pub is_near : Expr → Bool
is_near e = number_in (out-ExprKind e.kind)

abbrev pub is_index : Frame → Expr → Bool
is_index fr e = passes (λ x. is_local x e) fr.index

abbrev pub near_index : Frame → ExprKind-F ExprKind Expr → Bool
near_index fr (ExprKind-F.Binary op.Add a b) = (is_index fr a && is_near b) || (is_near a && is_index fr b)
near_index fr (ExprKind-F.Binary op.Sub a b) = is_index fr a && is_near b
near_index fr _ = false

-- the index of the loop under test, alone or plus or minus a number
abbrev pub follows_index : Frame → Expr → Bool
follows_index fr e = is_index fr e || near_index fr (out-ExprKind e.kind)

-- `<` with step 1, or `>` with step -1
abbrev pub steps_by_one : BinOp → Step → Bool
steps_by_one op.Lt s = not s.down && s.size == 1
steps_by_one op.Gt s = s.down && s.size == 1
steps_by_one _ s = false

abbrev pub is_fixed_bound : Frame → Option Expr → Bool
is_fixed_bound fr e = allows (is_unchanging fr.pures fr.effects) e

-- the index passes no end of Int
abbrev pub ends_by_rule : Frame → Header → List Stmt → Option Expr → Bool
ends_by_rule fr h init test = (is_fixed_bound fr (lower_of init) && is_fixed_bound fr (upper_of test))
    || (steps_by_one h.order h.step || passes (follows_index fr) (upper_of test))

-- a Concurrent loop; one that is not normal, or ends by no rule
abbrev pub loop_rule : Frame → Bool → Result Header NotNormal → List Stmt → Option Expr → Option Rule
loop_rule fr true form init test = Some rule.Sync
loop_rule fr false (Err why) init test = Some rule.Call
loop_rule fr false (Ok h) init test = cond (ends_by_rule fr h init test) None (Some rule.Call)

abbrev pub breach_of : Option Rule → Span → List Breach
breach_of None at = []
breach_of (Some r) at = breach r at ∷ []

-- a bound of an inner loop changes otherwise
abbrev pub bound_breach : Frame → List ℕ → Option Expr → List Breach
bound_breach fr over None = []
bound_breach fr over (Some e) = breach_if (not (is_steady fr over e)) rule.Address e.span

-- the index counts in the body of its loop
abbrev pub with_index : List ℕ → Result Header NotNormal → List ℕ
with_index over (Err why) = over
with_index over (Ok h) = over ++ h.index ∷ []

-- statements -------------------------------------------------------------

-- a statement as it stands in the tree, and which rules it breaks inside the loops over these indices
pub record Piece : Type 0 where
  pub stmt : Stmt
  pub breaches : List ℕ → List Breach

pub record Shape : Type 0 where
  pub kind : StmtKind
  pub breaches : Span → List ℕ → List Breach

pub record Entry : Type 0 where
  pub item : Item
  pub breaches : List ℕ → List Breach

abbrev pub maybe_breaches : Frame → List ℕ → Option Expr → List Breach
maybe_breaches fr over None = []
maybe_breaches fr over (Some e) = expr_breaches fr over e

abbrev pub test_breaches : Frame → List ℕ → Option Expr → List Breach
test_breaches fr over test = maybe_breaches fr over test ++ bound_breach fr over (upper_of test)

abbrev pub inits_breaches : Frame → List ℕ → List (ℕ × Expr) → List Breach
inits_breaches fr over init = joined (map (λ i. expr_breaches fr over i.1) init)

abbrev pub captures_breaches : Frame → List ℕ → List Capture → List Breach
captures_breaches fr over captures = joined (map (λ c. expr_breaches fr over c.from) captures)

abbrev pub pieces_breaches : List Piece → List ℕ → List Breach
pieces_breaches ps over = joined (map (λ p. p.breaches over) ps)

abbrev pub other_breaches : Option Piece → List ℕ → List Breach
other_breaches None over = []
other_breaches (Some p) over = p.breaches over

abbrev pub has_address : Frame → ℕ → Bool
has_address fr x = passes (λ l. l.addressed) (slice_get fr.locals x)

-- the test stands behind the body
abbrev pub is_late : LoopForm → Bool
is_late form.Do = true
is_late _ = false

-- what a test, a step and a body break, in the order of the text
abbrev pub in_order : Bool → List Breach → List Breach → List Breach → List Breach
in_order true test step body = body ++ (test ++ step)
in_order false test step body = test ++ (step ++ body)

-- its iterations are threads
unfoldable pub has_threads : Frame → Stmt → Bool
has_threads fr s = is_concurrent fr.pures fr.locals s

unfoldable pub clause_of : List Piece → List Stmt
clause_of ps = map (λ p. p.stmt) ps

-- a loop inside the loop, of this form; `clause` has the statements of its first clause
abbrev pub looped : Frame → LoopForm → Span → List Piece → Option Expr → Option Expr → Piece → Result Header NotNormal → Bool → List Stmt → List ℕ → List Breach
looped fr f at init test step body header threads clause over = breach_of (loop_rule fr threads header clause test) at
    ++ (pieces_breaches init over
    ++ (bound_breach fr over (lower_of clause)
    ++ in_order (is_late f) (test_breaches fr over test) (maybe_breaches fr over step) (body.breaches (with_index over header))))

-- a loop inside the loop, whose whole statement is `s`
abbrev pub inner_breaches : Frame → Stmt → LoopForm → List Piece → Option Expr → Option Expr → Piece → List ℕ → List Breach
inner_breaches fr s f init test step body over =
    looped fr f s.span init test step body (normal_form fr.pures fr.locals s) (has_threads fr s) (clause_of init) over

abbrev pub stmt_breaches_in : Frame → StmtKind-F Entry Shape Piece → Stmt → List ℕ → List Breach
stmt_breaches_in fr (StmtKind-F.Declare x init) s over = breach_if (has_address fr x) rule.Call s.span ++ inits_breaches fr over init
stmt_breaches_in fr (StmtKind-F.Eval e) s over = expr_breaches fr over e
stmt_breaches_in fr (StmtKind-F.Block all) s over = pieces_breaches all over
stmt_breaches_in fr (StmtKind-F.If test then other) s over = expr_breaches fr over test ++ (then.breaches over ++ other_breaches other over)
stmt_breaches_in fr (StmtKind-F.Loop id f init test step body pragmas) s over = inner_breaches fr s f init test step body over
stmt_breaches_in fr (StmtKind-F.Switch value items) s over = expr_breaches fr over value ++ joined (map (λ i. i.breaches over) items)
stmt_breaches_in fr (StmtKind-F.Return e) s over = maybe_breaches fr over e
stmt_breaches_in fr (StmtKind-F.Future place captures body) s over =
    breach rule.Sync s.span ∷ (expr_breaches fr over place ++ (captures_breaches fr over captures ++ body.breaches over))
stmt_breaches_in fr _ s over = []

abbrev pub shape_step : Frame → StmtKind-F Entry Shape Piece → Shape
shape_step fr k = record {
  kind = roll-StmtKind (map-StmtKind Entry Shape Piece Item StmtKind Stmt (λ i. i.item) (λ k. k.kind) (λ p. p.stmt) k);
  breaches = λ at. stmt_breaches_in fr k (record { span = at; kind = roll-StmtKind (map-StmtKind Entry Shape Piece Item StmtKind Stmt (λ i. i.item) (λ k. k.kind) (λ p. p.stmt) k) });
}

abbrev pub piece_at : Stmt-F Entry Shape Piece → Piece
piece_at s = record { stmt = record { span = s.span; kind = s.kind.kind }; breaches = s.kind.breaches s.span }

abbrev pub item_breaches_in : Item-F Entry Shape Piece → List ℕ → List Breach
item_breaches_in (Item-F.Do p) over = p.breaches over
item_breaches_in _ over = []

abbrev pub entry_at : Item-F Entry Shape Piece → Entry
entry_at i = record {
  item = roll-Item (map-Item Entry Shape Piece Item StmtKind Stmt (λ i. i.item) (λ k. k.kind) (λ p. p.stmt) i);
  breaches = item_breaches_in i;
}

abbrev pub piece_of : Frame → Stmt → Piece
piece_of fr = fold-Stmt Entry Shape Piece entry_at (shape_step fr) piece_at

abbrev pub stmt_breaches : Frame → List ℕ → Stmt → List Breach
stmt_breaches fr over s = (piece_of fr s).breaches over

-- the loop ---------------------------------------------------------------

abbrev pub same_rule : Rule → Rule → Bool
same_rule rule.Sync rule.Sync = true
same_rule rule.Call rule.Call = true
same_rule rule.Address rule.Address = true
same_rule _ _ = false

abbrev pub first_of : Rule → List Breach → Option Breach
first_of r [] = None
first_of r (b ∷ bs) = cond (same_rule b.rule r) (Some b) (first_of r bs)

abbrev pub or_else : Option Breach → Option Breach → Option Breach
or_else None b = b
or_else (Some a) b = Some a

-- the first breach of the first rule that is broken
abbrev pub first_breach : List Breach → List Breach → Option Breach
first_breach all rest = or_else (first_of rule.Sync all) (or_else (first_of rule.Call all) (first_of rule.Address rest))

abbrev pub index_in : Result Header NotNormal → Option ℕ
index_in (Err why) = None
index_in (Ok h) = Some h.index

abbrev pub alone : Option ℕ → List ℕ
alone None = []
alone (Some x) = x ∷ []

abbrev pub frame_of : List Bool → List Local → Stmt → Frame
frame_of pures ls s = record { pures = pures; locals = ls; effects = stmt_effects s; index = index_in (normal_form pures ls s) }

-- an address in the first clause is none of the loop's
abbrev pub breach_among : List Breach → List Breach → Option Breach
breach_among clause rest = first_breach (clause ++ rest) rest

abbrev pub breach_at : Frame → List ℕ → StmtKind-F Item StmtKind Stmt → Option Breach
breach_at fr over (StmtKind-F.Loop id f init test step body pragmas) = breach_among (pieces_breaches (map (piece_of fr) init) over)
    (in_order (is_late f) (maybe_breaches fr over test) (maybe_breaches fr over step) (stmt_breaches fr over body))
breach_at fr over _ = None

-- where a loop first breaks a rule of stable loops, in the order of the rules
unfoldable pub first_unstable : List Bool → List Local → Stmt → Option Breach
first_unstable pures ls s = breach_at (frame_of pures ls s) (alone (frame_of pures ls s).index) (out-StmtKind s.kind)

-- each inner loop is normal, ends by its bounds and is not Concurrent; no thread waits, no function is called but pure ones,
-- nothing is printed, no object in memory is declared; and no address and no inner bound changes but with the indices
abbrev pub is_stable : List Bool → List Local → Stmt → Bool
is_stable pures ls s = is_none (first_unstable pures ls s)
