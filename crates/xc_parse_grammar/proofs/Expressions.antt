-- Expressions are read to their trees.
use Rattle.std.proofs.Common.{◌≡◌, ℕ, zero, suc, ◌+◌, ◌-◌, ◌≤◌, ◌<◌, List, [], ◌∷◌, ◌++◌, get_or, Some, Bool, true, false, refl, sym, ap, ◌∙◌, subst, arith}
use Rattle.std.specs.Prelude.{nat_lt, nat_le}
use Rattle.std.proofs.lemmas.Bool.{leb-false, lt-leb, le-leb, eqb-true}
use Rattle.xc_raw.specs.declared.word.Word.{Word}
use Rattle.xc_raw.specs.declared.word.Word.TheVariants as word
use Rattle.xc_raw.specs.declared.rule.Rule.{Rule}
use Rattle.xc_raw.specs.declared.rule.Rule.TheVariants as rule
use Rattle.xc_raw.specs.declared.rule.Level.{Level}
use Rattle.xc_raw.specs.declared.rule.Level.TheVariants as level_name
use Rattle.xc_parse_grammar.specs.declared.marks.Strength.TheVariants as strength
use Rattle.xc_parse_grammar.specs.declared.marks.Class.{Class}
use Rattle.xc_parse_grammar.specs.declared.marks.Class.TheVariants as class
use Rattle.xc_parse_grammar.specs.declared.marks.Kind.TheVariants as kind
use Rattle.xc_parse_grammar.specs.declared.marks.Item.{Item}
use Rattle.xc_parse_grammar.specs.declared.marks.Item.TheVariants as item
use Rattle.xc_parse_grammar.specs.declared.spots.Spot.{Spot}
use Rattle.xc_parse_grammar.specs.declared.spots.Spot.TheVariants as spot
use Rattle.xc_parse_grammar.specs.declared.goals.Use.{Use}
use Rattle.xc_parse_grammar.specs.declared.goals.Use.TheVariants.{Plain}
use Rattle.xc_parse_grammar.specs.declared.goals.Goal.{Goal}
use Rattle.xc_parse_grammar.specs.declared.goals.Goal.TheVariants as goal
use Rattle.xc_parse_grammar.specs.declared.goals.Shape.TheVariants as shape
use Rattle.xc_parse_grammar.specs.declared.goals.Lead.TheVariants as lead
use Rattle.xc_parse_grammar.specs.Marks.{rank, level_rank, operator_rank, tighter, of_kind, is_specifier, is_literal, is_access, is_step, is_prefix, is_assignment, is_open_brace, begins_expr}
use Rattle.xc_parse_grammar.specs.Grammar.{Form, leaf, begin, ◌▹◌, leaves, Fits, sort, Is}
use Rattle.xc_parse_grammar.specs.Spots.{may_end, start}
use Rattle.xc_parse_grammar.specs.Plan.{does, begin_at, opening, is_suffix, looser, open_still, committed, assignment, inside, rest, operand, operand_inside, unary, suffix, tail, tail_ends, cond_rest, comma_rest, read_init}
use Rattle.xc_parse_grammar.specs.Building.{retitle}
use Rattle.xc_parse_grammar.proofs.Links.{Spotted, Complete}
use Rattle.xc_parse_grammar.proofs.Needs.{Calm, strong_closed, calm_closed}
use Rattle.xc_parse_grammar.proofs.Rows.{lowest}
use Rattle.xc_parse_grammar.proofs.Ends.{first}
use Rattle.xc_parse_grammar.proofs.Follow.{pull, rule_goes, no_left}
use Rattle.xc_parse_grammar.proofs.Machine.{State, St, Leads, here, on, join, by}
use Rattle.xc_parse_grammar.proofs.Run.{Context, as_cast, as_unary, as_binary, as_assignment, enter, behind, operating, tails, Castable, Deep, Unassigned, Parts}
use Rattle.xc_parse_grammar.proofs.PartsOf.{PartOf, part_of, run_from, Head, head_of}

pub literal_atom : (w : Word) → is_literal w ≡ true → opening w ≡ lead.Atom
literal_atom (word.Literal x) h = refl
literal_atom _ h = cc h

pub step_operator : (w : Word) → is_step w ≡ true → opening w ≡ lead.Operator
step_operator (word.Step x) h = refl
step_operator _ h = cc h

pub prefix_operator : (w : Word) → is_prefix w ≡ true → opening w ≡ lead.Operator
prefix_operator word.Star h = refl
prefix_operator word.Ampersand h = refl
prefix_operator (word.Sign x) h = refl
prefix_operator (word.Complement x) h = refl
prefix_operator _ h = cc h

pub expr_no_specifier : (w : Word) → begins_expr w ≡ true → is_specifier w ≡ false
expr_no_specifier word.Name h = refl
expr_no_specifier (word.Literal x) h = refl
expr_no_specifier word.Open h = refl
expr_no_specifier word.Star h = refl
expr_no_specifier word.Ampersand h = refl
expr_no_specifier (word.Sign x) h = refl
expr_no_specifier (word.Complement x) h = refl
expr_no_specifier (word.Step x) h = refl
expr_no_specifier _ h = cc h

pub access_suffix : (w : Word) → is_access w ≡ true → is_suffix w ≡ true
access_suffix (word.Access x) h = refl
access_suffix _ h = cc h

pub step_suffix : (w : Word) → is_step w ≡ true → is_suffix w ≡ true
step_suffix (word.Step x) h = refl
step_suffix _ h = cc h

pub no_suffix : (w : Word) → nat_lt 13 (pull w) ≡ false → is_suffix w ≡ false
no_suffix word.OpenBracket h = cc h
no_suffix word.Open h = cc h
no_suffix (word.Access x) h = cc h
no_suffix (word.Step x) h = cc h
no_suffix _ h = refl

pub no_assignment : (w : Word) → (pull w ≡ 2 → ⊥) → of_kind kind.Assignment w ≡ false
no_assignment word.Set h = absurd (h refl)
no_assignment (word.Assign x) h = absurd (h refl)
no_assignment _ h = refl

pub assignment_pull : (w : Word) → is_assignment w ≡ true → pull w ≡ 2
assignment_pull word.Set h = refl
assignment_pull (word.Assign x) h = refl
assignment_pull _ h = cc h

pub pull_not_two : (w : Word) → nat_lt 1 (pull w) ≡ false → pull w ≡ 2 → ⊥
pull_not_two w h e = let bad : nat_lt 1 2 ≡ false = ap (nat_lt 1) (sym e) ∙ h in cc bad

pub no_question : (w : Word) → nat_lt 2 (pull w) ≡ false → cond_rest w ≡ does shape.Keep []
no_question word.Question h = cc h
no_question _ h = refl

pub no_comma : (w : Word) → nat_lt 0 (pull w) ≡ false → comma_rest w ≡ does shape.Keep []
no_comma word.Comma h = cc h
no_comma _ h = refl

pub specs_cast : (w : Word) → begins_expr w ≡ true → read_init w ≡ does shape.Keep (goal.Assignment Plain ∷ [])
specs_cast word.Name h = refl
specs_cast (word.Literal x) h = refl
specs_cast word.Open h = refl
specs_cast word.Star h = refl
specs_cast word.Ampersand h = refl
specs_cast (word.Sign x) h = refl
specs_cast (word.Complement x) h = refl
specs_cast (word.Step x) h = refl
specs_cast _ h = cc h

pub brace_init : (w : Word) → is_open_brace w ≡ true → read_init w ≡ begin_at rule.Initialisers
brace_init word.OpenBrace h = refl
brace_init _ h = cc h

pub operator_pull : (w : Word) (n : ℕ) → operator_rank w ≡ n → 0 < n → pull w ≡ n + 1
operator_pull word.Star n e p = omega (arith, e)
operator_pull word.Ampersand n e p = omega (arith, e)
operator_pull (word.Sign x) n e p = omega (arith, e)
operator_pull (word.Binary x) n e p = omega (arith, e)
operator_pull _ n e p = absurd (omega (arith, e, p))

pub tighter_rank : (l : Level) → rank (tighter l) ≡ level_rank l + 1
tighter_rank level_name.Or = refl
tighter_rank level_name.And = refl
tighter_rank level_name.BitOr = refl
tighter_rank level_name.BitXor = refl
tighter_rank level_name.BitAnd = refl
tighter_rank level_name.Equality = refl
tighter_rank level_name.Relation = refl
tighter_rank level_name.Shift = refl
tighter_rank level_name.Sum = refl
tighter_rank level_name.Product = refl

pub loose_level : (l : Level) → 3 < level_rank l → level_rank (looser l) + 1 ≡ level_rank l
loose_level level_name.Or h = absurd (omega (arith, h))
loose_level level_name.And h = refl
loose_level level_name.BitOr h = refl
loose_level level_name.BitXor h = refl
loose_level level_name.BitAnd h = refl
loose_level level_name.Equality h = refl
loose_level level_name.Relation h = refl
loose_level level_name.Shift h = refl
loose_level level_name.Sum h = refl
loose_level level_name.Product h = refl

abbrev pub level_at : ℕ → Level
level_at n = get_or (level_name.Or ∷ level_name.And ∷ level_name.BitOr ∷ level_name.BitXor ∷ level_name.BitAnd ∷ level_name.Equality ∷ level_name.Relation ∷ level_name.Shift ∷ level_name.Sum ∷ level_name.Product ∷ []) n level_name.Or

pub level_back : (l : Level) → level_at (level_rank l - 3) ≡ l
level_back level_name.Or = refl
level_back level_name.And = refl
level_back level_name.BitOr = refl
level_back level_name.BitXor = refl
level_back level_name.BitAnd = refl
level_back level_name.Equality = refl
level_back level_name.Relation = refl
level_back level_name.Shift = refl
level_back level_name.Sum = refl
level_back level_name.Product = refl

pub one_level : (k l : Level) → level_rank k ≡ level_rank l → k ≡ l
one_level k l e = sym (level_back k) ∙ ap (λ n. level_at (n - 3)) e ∙ level_back l

-- how an operand begins --------------------------------------------------------------------------

abbrev pub opened : Context → List Goal → List Goal
opened as_cast gs = goal.OperandOpen ∷ gs
opened as_unary gs = gs
opened (as_binary l) gs = goal.OperandOpen ∷ goal.Tail level_name.Product l ∷ gs
opened (as_assignment u) gs = goal.AssignmentOpen u ∷ gs

abbrev pub within : Context → List Goal → List Goal
within as_cast gs = goal.OperandInside ∷ gs
within as_unary gs = gs
within (as_binary l) gs = goal.OperandInside ∷ goal.Tail level_name.Product l ∷ gs
within (as_assignment u) gs = goal.AssignmentInside u ∷ gs

module _ (gs : List Goal) (d : List Form) (ws : List Word) where
  pub enter_atom : (x : Context) → opening (first ws) ≡ lead.Atom → Leads (St (enter x gs) d ws) (St (goal.At spot.Prim ∷ goal.Suffix ∷ behind x gs) (begin rule.Prim ∷ d) ws)
  enter_atom as_cast e = by goal.Operand (operand lead.Atom) gs d ws _ (ap operand e) refl
  enter_atom as_unary e = by goal.Unary (unary lead.Atom) gs d ws _ (ap unary e) refl
  enter_atom (as_binary l) e = by goal.Operand (operand lead.Atom) (goal.Tail level_name.Product l ∷ gs) d ws _ (ap operand e) refl
  enter_atom (as_assignment u) e = by (goal.Assignment u) (assignment u lead.Atom) gs d ws _ (ap (assignment u) e) refl

  pub enter_operator : (x : Context) → opening (first ws) ≡ lead.Operator → Leads (St (enter x gs) d ws) (St (goal.At spot.Unary ∷ behind x gs) (begin rule.Unary ∷ d) ws)
  enter_operator as_cast e = by goal.Operand (operand lead.Operator) gs d ws _ (ap operand e) refl
  enter_operator as_unary e = by goal.Unary (unary lead.Operator) gs d ws _ (ap unary e) refl
  enter_operator (as_binary l) e = by goal.Operand (operand lead.Operator) (goal.Tail level_name.Product l ∷ gs) d ws _ (ap operand e) refl
  enter_operator (as_assignment u) e = by (goal.Assignment u) (assignment u lead.Operator) gs d ws _ (ap (assignment u) e) refl

  pub enter_paren : (x : Context) → Castable x → Leads (St (enter x gs) d (word.Open ∷ ws)) (St (within x gs) ((begin rule.Prim ▹ leaf word.Open) ∷ d) ws)
  enter_paren as_cast c = on refl (on refl here)
  enter_paren as_unary c = absurd c
  enter_paren (as_binary l) c = on refl (on refl here)
  enter_paren (as_assignment u) c = on refl (on refl here)

  pub inside_expr : (x : Context) → Castable x → is_specifier (first ws) ≡ false → Leads (St (within x gs) d ws) (St (goal.At spot.PrimInner ∷ goal.Suffix ∷ behind x gs) d ws)
  inside_expr as_cast c e = by goal.OperandInside (operand_inside false) gs d ws _ (ap operand_inside e) refl
  inside_expr as_unary c e = absurd c
  inside_expr (as_binary l) c e = by goal.OperandInside (operand_inside false) (goal.Tail level_name.Product l ∷ gs) d ws _ (ap operand_inside e) refl
  inside_expr (as_assignment u) c e = by (goal.AssignmentInside u) (inside u false) gs d ws _ (ap (inside u) e) refl

  pub inside_specs : (x : Context) (p : Form) → Castable x → is_specifier (first ws) ≡ true → Leads (St (within x gs) (p ∷ d) ws) (St (goal.At spot.CastSpecs ∷ operating x gs) (retitle rule.Cast p ∷ d) ws)
  inside_specs as_cast p c e = by goal.OperandInside (operand_inside true) gs (p ∷ d) ws _ (ap operand_inside e) refl
  inside_specs as_unary p c e = absurd c
  inside_specs (as_binary l) p c e = by goal.OperandInside (operand_inside true) (goal.Tail level_name.Product l ∷ gs) (p ∷ d) ws _ (ap operand_inside e) refl
  inside_specs (as_assignment u) p c e = by (goal.AssignmentInside u) (inside u true) gs (p ∷ d) ws _ (ap (inside u) e) refl

  pub suffix_ends : is_suffix (first ws) ≡ false → Leads (St (goal.Suffix ∷ gs) d ws) (St gs d ws)
  suffix_ends e = by goal.Suffix (suffix false) gs d ws _ (ap suffix e) refl

  pub suffix_comes : (f : Form) → is_suffix (first ws) ≡ true → Leads (St (goal.Suffix ∷ gs) (f ∷ d) ws) (St (goal.At spot.PostfixOp ∷ goal.Suffix ∷ gs) ((begin rule.Postfix ▹ f) ∷ d) ws)
  suffix_comes f e = by goal.Suffix (suffix true) gs (f ∷ d) ws _ (ap suffix e) refl

  pub behind_operating : (x : Context) → Castable x → Unassigned x (first ws) → Leads (St (behind x gs) d ws) (St (operating x gs) d ws)
  behind_operating as_cast c u = here
  behind_operating as_unary c u = absurd c
  behind_operating (as_binary l) c u = here
  behind_operating (as_assignment m) c u = by (goal.AssignmentRest m) (rest m false) gs d ws _ (ap (rest m) (no_assignment (first ws) u)) refl

  pub assign_comes : (u : Use) (f : Form) → is_assignment (first ws) ≡ true → Leads (St (goal.AssignmentRest u ∷ gs) (f ∷ d) ws) (St (goal.At spot.AssignOp ∷ committed u ++ gs) ((begin rule.Assign ▹ f) ∷ d) ws)
  assign_comes u f e = by (goal.AssignmentRest u) (rest u true) gs (f ∷ d) ws _ (ap (rest u) e) refl

  pub operator_comes : (k l : Level) (f : Form) → of_kind (kind.Operator k) (first ws) ≡ true → Leads (St (goal.Tail k l ∷ gs) (f ∷ d) ws) (St (goal.At (spot.BinaryOp k) ∷ goal.Tail k l ∷ gs) ((begin (rule.Binary k) ▹ f) ∷ d) ws)
  operator_comes k l f e = by (goal.Tail k l) (tail k l true) gs (f ∷ d) ws _ (ap (tail k l) e) refl

  pub operator_ends : (k l : Level) → of_kind (kind.Operator k) (first ws) ≡ false → nat_le (level_rank k) (level_rank l) ≡ true → Leads (St (goal.Tail k l ∷ gs) d ws) (St gs d ws)
  operator_ends k l e h = by (goal.Tail k l) (tail_ends k l true) gs d ws _ (ap (tail k l) e ∙ ap (tail_ends k l) h) refl

  pub operator_loosens : (k l : Level) → of_kind (kind.Operator k) (first ws) ≡ false → nat_le (level_rank k) (level_rank l) ≡ false → Leads (St (goal.Tail k l ∷ gs) d ws) (St (goal.Tail (looser k) l ∷ gs) d ws)
  operator_loosens k l e h = by (goal.Tail k l) (tail_ends k l false) gs d ws _ (ap (tail k l) e ∙ ap (tail_ends k l) h) refl

  pub cond_ends : nat_lt 2 (pull (first ws)) ≡ false → Leads (St (goal.CondRest ∷ gs) d ws) (St gs d ws)
  cond_ends e = by goal.CondRest (does shape.Keep []) gs d ws _ (no_question (first ws) e) refl

  pub comma_ends : nat_lt 0 (pull (first ws)) ≡ false → Leads (St (goal.CommaRest ∷ gs) d ws) (St gs d ws)
  comma_ends e = by goal.CommaRest (does shape.Keep []) gs d ws _ (no_comma (first ws) e) refl

pub by_bool : (b : Bool) → (b ≡ true → ⊥) → b ≡ false
by_bool true k = absurd (k refl)
by_bool false k = refl

pub le_self : (n : ℕ) → nat_le n n ≡ true
le_self n = le-leb n n (omega arith)

-- operators --------------------------------------------------------------------------------------

pub no_operator : (k : Level) (n : ℕ) (w : Word) → n < level_rank k → nat_lt (n + 1) (pull w) ≡ false → of_kind (kind.Operator k) w ≡ false
no_operator k n w less e = by_bool (of_kind (kind.Operator k) w) (λ h.
    let q = operator_pull w (level_rank k) (eqb-true (operator_rank w) (level_rank k) h) (omega (arith, less)) in
    omega (arith, q, less, leb-false (suc (n + 1)) (pull w) e))

-- from one level to a looser one
pub loosen : (n : ℕ) (m k l : Level) (gs : List Goal) (d : List Form) (ts : List Word) → level_rank m ≡ level_rank k + n → level_rank l ≤ level_rank k → nat_lt (level_rank k + 1) (pull (first ts)) ≡ false → Leads (St (goal.Tail m l ∷ gs) d ts) (St (goal.Tail k l ∷ gs) d ts)
loosen zero m k l gs d ts e le h = subst (λ x. Leads (St (goal.Tail m l ∷ gs) d ts) (St (goal.Tail x l ∷ gs) d ts)) (one_level m k (omega (arith, e))) here
loosen (suc n) m k l gs d ts e le h =
    let more : level_rank k < level_rank m = omega (arith, e) in
    let low = lowest k in
    let s = loose_level m (omega (arith, more, low.1)) in
    join (operator_loosens gs d ts m l (no_operator m (level_rank k) (first ts) more h) (lt-leb (level_rank m) (level_rank l) (omega (arith, more, le))))
    (loosen n (looser m) k l gs d ts (omega (arith, e, s)) le h)

pub down : (m k : Level) (x : Context) → Deep k x → level_rank k ≤ level_rank m → (gs : List Goal) (d : List Form) (ts : List Word) → nat_lt (level_rank k + 1) (pull (first ts)) ≡ false → Leads (St (tails m x gs) d ts) (St (tails k x gs) d ts)
down m k as_cast p le gs d ts h = absurd p
down m k as_unary p le gs d ts h = absurd p
down m k (as_binary l) p le gs d ts h = loosen (level_rank m - level_rank k) m k l gs d ts (omega (arith, le)) p h
down m k (as_assignment u) p le gs d ts h = loosen (level_rank m - level_rank k) m k level_name.Or (goal.CondRest ∷ open_still u ++ gs) d ts (omega (arith, le)) (omega (arith, (lowest k).1)) h

-- where the operators of the last level end
pub level_ends : (l : Level) (gs : List Goal) (d : List Form) (ts : List Word) → nat_lt (level_rank l) (pull (first ts)) ≡ false → Leads (St (goal.Tail l l ∷ gs) d ts) (St gs d ts)
level_ends l gs d ts e = operator_ends gs d ts l l
    (by_bool (of_kind (kind.Operator l) (first ts)) (λ h.
    let q = operator_pull (first ts) (level_rank l) (eqb-true (operator_rank (first ts)) (level_rank l) h) (omega (arith, (lowest l).1)) in
    omega (arith, q, leb-false (suc (level_rank l)) (pull (first ts)) e)))
    (le_self (level_rank l))

pub deep_cast : (k : Level) (x : Context) → Deep k x → Castable x
deep_cast k as_cast h = absurd h
deep_cast k as_unary h = absurd h
deep_cast k (as_binary l) h = tt
deep_cast k (as_assignment u) h = tt

pub deep_operating : (k : Level) (x : Context) (gs : List Goal) → Deep k x → operating x gs ≡ tails level_name.Product x gs
deep_operating k as_cast gs h = absurd h
deep_operating k as_unary gs h = absurd h
deep_operating k (as_binary l) gs h = refl
deep_operating k (as_assignment u) gs h = refl

pub same_goals : {gs hs : List Goal} {d : List Form} {ts : List Word} {s : State} → gs ≡ hs → Leads s (St gs d ts) → Leads s (St hs d ts)
same_goals {gs} {hs} {d} {ts} {s} e l = subst (λ x. Leads s (St x d ts)) e l

-- each rule of expressions -----------------------------------------------------------------------

pub closed_calm : (f : Form) (r : Rule) (w : Word) → sort f ≡ Some r → Is (class.At strength.Expr) (Some r) → Calm f w
closed_calm f r w e i = calm_closed f w (strong_closed strength.Expr f (subst (λ o. Is (class.At strength.Expr) o) (sym e) i))

-- a node around its first part, from its operator on
pub around : (f : Form) (r : Rule) (x : PartOf (begin r) f (leaves f) (start r)) (t : Spot) → x.to ≡ t → Complete f → sort f ≡ Some r → Parts f → (gs : List Goal) (d : List Form) (ts : List Word) → rule_goes r (first ts) ≡ false → Calm f (first ts)
    → Leads (St (goal.At t ∷ gs) ((begin r ▹ x.part) ∷ d) (x.words ++ ts)) (St gs (f ∷ d) ts)
around f r x t e c s q gs d ts n m =
    subst (λ u. Leads (St (goal.At u ∷ gs) ((begin r ▹ x.part) ∷ d) (x.words ++ ts)) (St gs (f ∷ d) ts)) e
    (run_from (begin r ▹ x.part) f x.words x.to r x.spotted (no_left (start r) x.item x.to x.allowed) x.ext c s q gs d ts n m)

pub around_head : (f : Form) (r : Rule) (x : PartOf (begin r) f (leaves f) (start r)) (t : Spot) → x.to ≡ t → may_end t ≡ false → Complete f → Parts f → Head x.words t
around_head f r x t e n c q =
    let h : Spotted (begin r ▹ x.part) t = subst (λ u. Spotted (begin r ▹ x.part) u) e x.spotted in
    head_of (begin r ▹ x.part) f x.words t (part_of (begin r ▹ x.part) f x.words x.ext c q t h n)

pub fit_part : (c : Class) (g : Form) (i : Item) → item.Part c ≡ i → Fits i g (Complete g) → Complete g × Is c (sort g)
fit_part c g i e h = subst (λ x. Fits x g (Complete g)) (sym e) h
