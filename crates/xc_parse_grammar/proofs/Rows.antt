-- Each move but those at the places of a rule keeps what the goals need.
use Rattle.std.proofs.Common.{◌≡◌, ◌+◌, ◌≤◌, ◌<◌, List, [], ◌∷◌, ◌++◌, Option, Some, None, Bool, true, false, refl, sym, ap, ◌∙◌, subst, arith}
use Rattle.std.specs.Prelude.{nat_le}
use Rattle.std.proofs.lemmas.Bool.{leb-false}
use mathlib.Core.Logic.{inl, inr}
use Rattle.xc_raw.specs.declared.word.Word.{Word}
use Rattle.xc_raw.specs.declared.word.Word.TheVariants as word
use Rattle.xc_raw.specs.declared.rule.Rule.{Rule}
use Rattle.xc_raw.specs.declared.rule.Rule.TheVariants as rule
use Rattle.xc_raw.specs.declared.rule.Level.{Level}
use Rattle.xc_raw.specs.declared.rule.Level.TheVariants as level_name
use Rattle.xc_parse_grammar.specs.declared.marks.Strength.{Strength}
use Rattle.xc_parse_grammar.specs.declared.marks.Strength.TheVariants as strength
use Rattle.xc_parse_grammar.specs.declared.marks.Class.{Class}
use Rattle.xc_parse_grammar.specs.declared.marks.Class.TheVariants as class
use Rattle.xc_parse_grammar.specs.declared.marks.Kind.TheVariants as kind
use Rattle.xc_parse_grammar.specs.declared.marks.Item.TheVariants as item
use Rattle.xc_parse_grammar.specs.declared.spots.Spot.{Spot}
use Rattle.xc_parse_grammar.specs.declared.spots.Spot.TheVariants as spot
use Rattle.xc_parse_grammar.specs.declared.goals.Use.{Use}
use Rattle.xc_parse_grammar.specs.declared.goals.Use.TheVariants.{Plain, Bracket}
use Rattle.xc_parse_grammar.specs.declared.goals.Goal.{Goal}
use Rattle.xc_parse_grammar.specs.declared.goals.Goal.TheVariants as goal
use Rattle.xc_parse_grammar.specs.declared.goals.Shape.TheVariants as shape
use Rattle.xc_parse_grammar.specs.declared.goals.Lead.{Lead}
use Rattle.xc_parse_grammar.specs.declared.goals.Lead.TheVariants as lead
use Rattle.xc_parse_grammar.specs.Marks.{accepts, rank, level_rank, is_specifier, is_qualifier, of_kind}
use Rattle.xc_parse_grammar.specs.Grammar.{Form, leaf, begin, ◌▹◌, Among, sort, height, AtLeast, Is, InClass, is_stmt, is_else}
use Rattle.xc_parse_grammar.specs.Spots.{steps}
use Rattle.xc_parse_grammar.specs.Plan.{does, shift, begin_at, opening, is_suffix, looser, statement, in_place, committed, open_still, operators, assignment, assignment_open, inside, rest, operand, operand_open, operand_inside, unary, suffix, tail_ends, tail, read_item, read_declared, read_block_item, read_init, planned_read, bracket_end, bracket_close, cond_rest, comma_rest, item_rest, item_declr, item_qualifier, item_stars, item_name, future_word, future_next, future_name, future_rest, picked, planned}
use Rattle.xc_parse_grammar.specs.Building.{retitle}
use Rattle.xc_parse_grammar.proofs.Links.{Spotted}
use Rattle.xc_parse_grammar.proofs.Needs.{both, Calm, Makes, Like, Of, Strong, AtNeeds, Twin, future, Target, Needed, strong_closed, sort_closed, calm_closed, calm_strong, weaker, sorted, node_step, word_step, kind_step}
use Rattle.xc_parse_grammar.proofs.Sound.{Forth, forth_picked}

pub retitle_sort : (r q : Rule) (p : Form) → sort p ≡ Some q → sort (retitle r p) ≡ Some r
retitle_sort r q (leaf w) e = cc e
retitle_sort r q (begin x) e = refl
retitle_sort r q (f ▹ g) e = retitle_sort r q f e

-- nodes of a class -------------------------------------------------------------------------------

begin_class : (c : Class) (r : Rule) (w : Word) → InClass c r → Forth (goal.Read c) w (begin_at r)
begin_class c r w k gs d h = (begin r ∷ d, refl, record { spotted = refl; calm = refl; then = λ f v x m. h f v (x.0, sorted c r f k x.1) m })

statement_is : (w : Word) → is_stmt (statement w) ≡ true
statement_is word.If = refl
statement_is _ = refl

stmt_in_block : (o : Option Rule) → Is class.Stmt o → Is class.BlockItem o
stmt_in_block None h = h
stmt_in_block (Some r) h = inr (inr h)

assign_is_init : (o : Option Rule) → Is (class.At strength.Assign) o → Is class.Init o
assign_is_init None h = h
assign_is_init (Some r) h = inr h

read_specs : (w : Word) → Forth (goal.Read class.Item) w (does (shape.Begin rule.Specs) (goal.At spot.Specs ∷ goal.ItemRest ∷ []))
read_specs w gs d h = (begin rule.Specs ∷ d, refl, record { spotted = refl; calm = refl; then = λ f v x m. (x, h) })

forth_item : (w : Word) → Forth (goal.Read class.Item) w (read_item w)
forth_item word.Pragma = begin_class class.Item rule.Pragma word.Pragma refl
forth_item w = read_specs w

read_stmt : (w : Word) → Forth (goal.Read class.BlockItem) w (does shape.Keep (goal.Read class.Stmt ∷ []))
read_stmt w gs d h = (d, refl, λ f v x m. h f v (x.0, stmt_in_block (sort f) x.1) m)

forth_declared : (w : Word) (b : Bool) → Forth (goal.Read class.BlockItem) w (read_declared b)
forth_declared w true = begin_class class.BlockItem rule.Declaration w (inr (inl refl))
forth_declared w false = read_stmt w

read_future : (w : Word) → Forth (goal.Read class.BlockItem) w (does (shape.Begin rule.Future) (goal.FutureWord ∷ []))
read_future w gs d h = (begin rule.Future ∷ d, refl, (refl, h))

forth_block_item : (w : Word) → Forth (goal.Read class.BlockItem) w (read_block_item w)
forth_block_item word.Pragma = begin_class class.BlockItem rule.Pragma word.Pragma (inl refl)
forth_block_item word.Future = read_future word.Future
forth_block_item w = forth_declared w (is_specifier w)

read_assignment : (w : Word) → Forth (goal.Read class.Init) w (does shape.Keep (goal.Assignment Plain ∷ []))
read_assignment w gs d h = (d, refl, λ f v x m. h f v (x.0, assign_is_init (sort f) x.1) m)

forth_init : (w : Word) → Forth (goal.Read class.Init) w (read_init w)
forth_init word.OpenBrace = begin_class class.Init rule.Initialisers word.OpenBrace (inl refl)
forth_init w = read_assignment w

pub lowest : (l : Level) → (level_rank l ≤ 12) × (3 ≤ level_rank l)
lowest level_name.Or = (omega arith, omega arith)
lowest level_name.And = (omega arith, omega arith)
lowest level_name.BitOr = (omega arith, omega arith)
lowest level_name.BitXor = (omega arith, omega arith)
lowest level_name.BitAnd = (omega arith, omega arith)
lowest level_name.Equality = (omega arith, omega arith)
lowest level_name.Relation = (omega arith, omega arith)
lowest level_name.Shift = (omega arith, omega arith)
lowest level_name.Sum = (omega arith, omega arith)
lowest level_name.Product = (omega arith, omega arith)

read_expr : (w : Word) → Forth (goal.Read (class.At strength.Expr)) w (planned_read (class.At strength.Expr) w)
read_expr w gs d h = (d, refl, λ f v x m. (weaker strength.Assign strength.Expr f (omega arith) x, h))

read_assign : (w : Word) → Forth (goal.Read (class.At strength.Assign)) w (planned_read (class.At strength.Assign) w)
read_assign w gs d h = (d, refl, h)

read_cond : (w : Word) → Forth (goal.Read (class.At strength.Cond)) w (planned_read (class.At strength.Cond) w)
read_cond w gs d h = (d, refl, λ f v x m. (weaker strength.Cast (strength.Binary level_name.Product) f (omega arith) x, omega arith, λ g u y n. (y, h)))

read_binary : (l : Level) (w : Word) → Forth (goal.Read (class.At (strength.Binary l))) w (planned_read (class.At (strength.Binary l)) w)
read_binary l w gs d h = (d, refl, λ f v x m. (weaker strength.Cast (strength.Binary level_name.Product) f (omega arith) x, (lowest l).0, h))

read_same : (s : Strength) (g : Goal) (w : Word) → ((rest : List Goal) (d : List Form) → Makes (Strong s) (Needed rest) d → Needed (g ∷ rest) d w) → Forth (goal.Read (class.At s)) w (does shape.Keep (g ∷ []))
read_same s g w k gs d h = (d, refl, k gs d h)

forth_read : (c : Class) (w : Word) → Forth (goal.Read c) w (planned_read c w)
forth_read (class.Node r) w = begin_class (class.Node r) r w refl
forth_read class.Item w = forth_item w
forth_read class.BlockItem w = forth_block_item w
forth_read class.Stmt w = begin_class class.Stmt (statement w) w (statement_is w)
forth_read class.Init w = forth_init w
forth_read (class.At strength.Expr) w = read_expr w
forth_read (class.At strength.Assign) w = read_assign w
forth_read (class.At strength.Cond) w = read_cond w
forth_read (class.At (strength.Binary l)) w = read_binary l w
forth_read (class.At strength.Cast) w = read_same strength.Cast goal.Operand w (λ rest d h. h)
forth_read (class.At strength.Unary) w = read_same strength.Unary goal.Unary w (λ rest d h. h)
forth_read (class.At strength.Postfix) w = tt

forth_join : (w : Word) → Forth goal.Join w (does shape.Join [])
forth_join w gs [] h = absurd h
forth_join w gs (f ∷ []) h = absurd h
forth_join w gs (f ∷ p ∷ d) h = ((p ▹ f) ∷ d, refl, h)

-- expressions ------------------------------------------------------------------------------------

strong_of : (s : Strength) (r : Rule) (f : Form) → AtLeast (rank s) (height r) → Like (Some r) f → Strong s f
strong_of s r f k x = (x.0, sorted (class.At s) r f k x.1)

-- a primary, then suffixes
prim_then : (rest : List Form → Word → Type 0) (d : List Form) (f : Form) → Makes (Strong strength.Postfix) rest d → Like (Some rule.Prim) f → Strong strength.Postfix f × Makes (Strong strength.Postfix) rest d
prim_then rest d f h x = (strong_of strength.Postfix rule.Prim f (omega arith) x, h)

assign_atom : (u : Use) (w : Word) → Forth (goal.Assignment u) w (assignment u lead.Atom)
assign_atom u w gs d h = (
  begin rule.Prim ∷ d,
  refl,
  record {
    spotted = refl;
    calm = refl;
    then = λ f v x m. prim_then (Needed (goal.AssignmentRest u ∷ gs)) d f (λ g t y n. (weaker strength.Postfix strength.Unary g (omega arith) y, h)) x;
  },
)

assign_operator : (u : Use) (w : Word) → Forth (goal.Assignment u) w (assignment u lead.Operator)
assign_operator u w gs d h = (begin rule.Unary ∷ d, refl, record { spotted = refl; calm = refl; then = λ f v x m. (strong_of strength.Unary rule.Unary f (omega arith) x, h) })

assign_paren : (u : Use) (w : Word) → Forth (goal.Assignment u) w (assignment u lead.Paren)
assign_paren u w gs d h = (begin rule.Prim ∷ d, refl, (refl, h))

forth_assignment : (u : Use) (w : Word) (l : Lead) → Forth (goal.Assignment u) w (assignment u l)
forth_assignment u w lead.Atom = assign_atom u w
forth_assignment u w lead.Operator = assign_operator u w
forth_assignment u w lead.Paren = assign_paren u w
forth_assignment u w lead.Other = tt

assign_opens : (u : Use) → Forth (goal.AssignmentOpen u) word.Open (shift (goal.AssignmentInside u ∷ []))
assign_opens u gs [] v h = absurd h
assign_opens u gs (x ∷ d) v h = ((x ▹ leaf word.Open) ∷ d, refl, (ap (λ y. y ▹ leaf word.Open) h.0, h.1))

forth_open : (u : Use) (w : Word) → Forth (goal.AssignmentOpen u) w (assignment_open u w)
forth_open u word.Open = assign_opens u
forth_open u _ = tt

-- an operand was read, and operators may come
still : (u : Use) (gs : List Goal) (f : Form) (d : List Form) (w : Word) → Strong strength.Cond f → Calm f w → Target u (Needed gs) d → Needed (open_still u ++ gs) (f ∷ d) w
still Plain gs f d w x m h = h f w (weaker strength.Cond strength.Assign f (omega arith) x) m
still Bracket gs f d w x m h = (x, h)

operating : (u : Use) (gs : List Goal) (f : Form) (d : List Form) (w : Word) → Strong strength.Cast f → Target u (Needed gs) d → Needed (operators u ++ gs) (f ∷ d) w
operating u gs f d w x h =
    (weaker strength.Cast (strength.Binary level_name.Product) f (omega arith) x, omega arith, λ g v y m. (y, λ k t z n. still u gs k d t z n h))

cast_opens : Spotted (begin rule.Cast ▹ leaf word.Open) spot.CastSpecs
cast_opens = word_step (begin rule.Cast) word.Open word.Open spot.Cast spot.CastSpecs refl (inl (refl, refl)) refl (λ e. cc e)

prim_opens : Spotted (begin rule.Prim ▹ leaf word.Open) spot.PrimInner
prim_opens = word_step (begin rule.Prim) word.Open word.Open spot.Prim spot.PrimInner refl (inr (inr (inl (refl, refl)))) refl (λ e. cc e)

inside_cast : (u : Use) (w : Word) → Forth (goal.AssignmentInside u) w (inside u true)
inside_cast u w gs [] h = absurd h
inside_cast u w gs (x ∷ d) h =
    let e : retitle rule.Cast x ≡ begin rule.Cast ▹ leaf word.Open = ap (retitle rule.Cast) h.0 in (
      retitle rule.Cast x ∷ d,
      refl,
      subst (λ y. AtNeeds spot.CastSpecs (Needed (operators u ++ gs)) y d w) (sym e)
          (record { spotted = cast_opens; calm = refl; then = λ f v k m. operating u gs f d v (strong_of strength.Cast rule.Cast f (omega arith) k) h.1 }),
    )

inside_prim : (u : Use) (w : Word) → Forth (goal.AssignmentInside u) w (inside u false)
inside_prim u w gs [] h = absurd h
inside_prim u w gs (x ∷ d) h = (
  x ∷ d,
  refl,
  subst (λ y. AtNeeds spot.PrimInner (Needed (goal.Suffix ∷ goal.AssignmentRest u ∷ gs)) y d w) (sym h.0)
      (record { spotted = prim_opens; calm = refl; then = λ f v k m. prim_then (Needed (goal.AssignmentRest u ∷ gs)) d f (λ g t y n. (weaker strength.Postfix strength.Unary g (omega arith) y, h.1)) k }),
)

forth_inside : (u : Use) (w : Word) (b : Bool) → Forth (goal.AssignmentInside u) w (inside u b)
forth_inside u w true = inside_cast u w
forth_inside u w false = inside_prim u w

-- the place of a future statement was read
place_then : (gs : List Goal) (q : Form) (d : List Form) → q ≡ future → Makes (Of class.BlockItem) (Needed gs) d → Makes (Like (Some rule.Place)) (Needed (goal.Join ∷ goal.At spot.FutureOpen ∷ gs)) (q ∷ d)
place_then gs q d e h f w k m =
    let begun : Spotted future spot.FuturePlace = word_step (begin rule.Future) word.Future word.Future spot.Future spot.FuturePlace refl (inl (refl, refl)) refl (λ x. cc x) in
    let s : Spotted q spot.FuturePlace = subst (λ y. Spotted y spot.FuturePlace) (sym e) begun in
    record {
      spotted = node_step q f spot.FuturePlace spot.FutureOpen (class.Node rule.Place) s (inl (refl, refl)) k.0 (sorted (class.Node rule.Place) rule.Place f refl k.1);
      calm = m;
      then = λ g v y n. h g v (y.0, sorted class.BlockItem rule.Future g (inr (inr refl)) (y.1 ∙ ap sort e)) n;
    }

in_place_then : (gs : List Goal) (d : List Form) → Target Bracket (Needed gs) d → Makes (Strong strength.Expr) (Needed (goal.Join ∷ goal.At spot.PlaceClose ∷ goal.Join ∷ goal.At spot.FutureOpen ∷ gs)) d
in_place_then gs [] h f w k m = absurd h
in_place_then gs (p ∷ []) h f w k m = absurd h
in_place_then gs (p ∷ q ∷ d) h f w k m =
    let i = h.0 in
    record {
      spotted = node_step p f spot.PlaceIndex spot.PlaceClose (class.At strength.Expr) i.twin.spotted (inl (refl, refl)) k.0 k.1;
      calm = m;
      then = λ g v y n. place_then gs q d i.begun h.1 g v (y.0, y.1 ∙ i.twin.is) n;
    }

assigned : (u : Use) (gs : List Goal) (d : List Form) → Target u (Needed gs) d → Makes (Like (Some rule.Assign)) (Needed (committed u ++ gs)) d
assigned Plain gs d h f w k m = h f w (strong_of strength.Assign rule.Assign f (omega arith) k) m
assigned Bracket gs d h f w k m = (strong_of strength.Expr rule.Assign f (omega arith) k, in_place_then gs d h)

rest_assign : (u : Use) (w : Word) → Forth (goal.AssignmentRest u) w (rest u true)
rest_assign u w gs [] h = absurd h
rest_assign u w gs (f ∷ d) h = (
  (begin rule.Assign ▹ f) ∷ d,
  refl,
  record {
    spotted = node_step (begin rule.Assign) f spot.Assign spot.AssignOp (class.At strength.Unary) refl (inl (refl, refl)) h.0.0 h.0.1;
    calm = calm_strong strength.Unary f w h.0;
    then = assigned u gs d h.1;
  },
)

rest_operators : (u : Use) (w : Word) → Forth (goal.AssignmentRest u) w (rest u false)
rest_operators u w gs [] h = absurd h
rest_operators u w gs (f ∷ d) h = (f ∷ d, refl, operating u gs f d w (weaker strength.Unary strength.Cast f (omega arith) h.0) h.1)

forth_rest : (u : Use) (w : Word) (b : Bool) → Forth (goal.AssignmentRest u) w (rest u b)
forth_rest u w true = rest_assign u w
forth_rest u w false = rest_operators u w

bracket_comma : (w : Word) → Forth goal.BracketEnd w (does shape.Keep in_place)
bracket_comma w gs [] h = absurd h
bracket_comma w gs (f ∷ d) h = (f ∷ d, refl, (weaker strength.Cond strength.Expr f (omega arith) h.0, in_place_then gs d h.1))

bracket_joins : (w : Word) → Forth goal.BracketEnd w (does shape.Join (goal.BracketClose ∷ []))
bracket_joins w gs [] h = absurd h
bracket_joins w gs (f ∷ []) h = absurd h.1
bracket_joins w gs (f ∷ p ∷ []) h = absurd h.1
bracket_joins w gs (f ∷ p ∷ q ∷ d) h =
    let i = h.1.0 in (
      (p ▹ f) ∷ q ∷ d,
      refl,
      (
        record {
          twin = record {
            spotted = node_step p f spot.PlaceIndex spot.PlaceClose (class.At strength.Expr) i.twin.spotted (inl (refl, refl)) h.0.0 (weaker strength.Cond strength.Expr f (omega arith) h.0).1;
            also = node_step (retitle rule.Declr p) f spot.DeclrBound spot.DeclrClose (class.At strength.Cond) i.twin.also (inl (refl, refl)) h.0.0 h.0.1;
            is = i.twin.is;
            closed = strong_closed strength.Cond f h.0.1;
          };
          begun = i.begun;
        },
        h.1.1,
      ),
    )

forth_bracket_end : (w : Word) → Forth goal.BracketEnd w (bracket_end w)
forth_bracket_end word.Comma = bracket_comma word.Comma
forth_bracket_end w = bracket_joins w

-- a token behind a node that may yet be of two rules
twin_word : (q r : Rule) (s t s' t' : Spot) (p : Form) (w : Word) → Twin q r s t p → Among (item.Word w) s' (steps s) → Among (item.Word w) t' (steps t) → accepts (item.Word w) w ≡ true → is_else w ≡ false → Twin q r s' t' (p ▹ leaf w)
twin_word q r s t s' t' p w h m n a e = record {
  spotted = word_step p w w s s' h.spotted m a (λ x. let bad : true ≡ false = sym x ∙ e in cc bad);
  also = word_step (retitle r p) w w t t' h.also n a (λ x. let bad : true ≡ false = sym x ∙ e in cc bad);
  is = h.is;
  closed = refl;
}

bracket_closes : Forth goal.BracketClose word.CloseBracket (shift (goal.FutureRest ∷ []))
bracket_closes gs [] v h = absurd h
bracket_closes gs (p ∷ []) v h = absurd h
bracket_closes gs (p ∷ q ∷ d) v h = (
  (p ▹ leaf word.CloseBracket) ∷ q ∷ d,
  refl,
  (
    record {
      twin = twin_word rule.Place rule.Declr spot.PlaceClose spot.DeclrClose spot.PlaceMore spot.DeclrBounds p word.CloseBracket h.0.twin (inl (refl, refl)) (inl (refl, refl)) refl refl;
      begun = h.0.begun;
    },
    h.1,
  ),
)

forth_bracket_close : (w : Word) → Forth goal.BracketClose w (bracket_close w)
forth_bracket_close word.CloseBracket = bracket_closes
forth_bracket_close _ = tt

operand_atom : (w : Word) → Forth goal.Operand w (operand lead.Atom)
operand_atom w gs d h = (
  begin rule.Prim ∷ d,
  refl,
  record {
    spotted = refl;
    calm = refl;
    then = λ f v x m. prim_then (Needed gs) d f (λ g t y n. h g t (weaker strength.Postfix strength.Cast g (omega arith) y) n) x;
  },
)

operand_operator : (w : Word) → Forth goal.Operand w (operand lead.Operator)
operand_operator w gs d h = (begin rule.Unary ∷ d, refl, record { spotted = refl; calm = refl; then = λ f v x m. h f v (strong_of strength.Cast rule.Unary f (omega arith) x) m })

operand_paren : (w : Word) → Forth goal.Operand w (operand lead.Paren)
operand_paren w gs d h = (begin rule.Prim ∷ d, refl, (refl, h))

forth_operand : (w : Word) (l : Lead) → Forth goal.Operand w (operand l)
forth_operand w lead.Atom = operand_atom w
forth_operand w lead.Operator = operand_operator w
forth_operand w lead.Paren = operand_paren w
forth_operand w lead.Other = tt

operand_opens : Forth goal.OperandOpen word.Open (shift (goal.OperandInside ∷ []))
operand_opens gs [] v h = absurd h
operand_opens gs (x ∷ d) v h = ((x ▹ leaf word.Open) ∷ d, refl, (ap (λ y. y ▹ leaf word.Open) h.0, h.1))

forth_operand_open : (w : Word) → Forth goal.OperandOpen w (operand_open w)
forth_operand_open word.Open = operand_opens
forth_operand_open _ = tt

operand_cast : (w : Word) → Forth goal.OperandInside w (operand_inside true)
operand_cast w gs [] h = absurd h
operand_cast w gs (x ∷ d) h =
    let e : retitle rule.Cast x ≡ begin rule.Cast ▹ leaf word.Open = ap (retitle rule.Cast) h.0 in (
      retitle rule.Cast x ∷ d,
      refl,
      subst (λ y. AtNeeds spot.CastSpecs (Needed gs) y d w) (sym e)
          (record { spotted = cast_opens; calm = refl; then = λ f v k m. h.1 f v (strong_of strength.Cast rule.Cast f (omega arith) k) m }),
    )

operand_prim : (w : Word) → Forth goal.OperandInside w (operand_inside false)
operand_prim w gs [] h = absurd h
operand_prim w gs (x ∷ d) h = (
  x ∷ d,
  refl,
  subst (λ y. AtNeeds spot.PrimInner (Needed (goal.Suffix ∷ gs)) y d w) (sym h.0)
      (record { spotted = prim_opens; calm = refl; then = λ f v k m. prim_then (Needed gs) d f (λ g t y n. h.1 g t (weaker strength.Postfix strength.Cast g (omega arith) y) n) k }),
)

forth_operand_inside : (w : Word) (b : Bool) → Forth goal.OperandInside w (operand_inside b)
forth_operand_inside w true = operand_cast w
forth_operand_inside w false = operand_prim w

unary_atom : (w : Word) → Forth goal.Unary w (unary lead.Atom)
unary_atom w gs d h = (
  begin rule.Prim ∷ d,
  refl,
  record {
    spotted = refl;
    calm = refl;
    then = λ f v x m. prim_then (Needed gs) d f (λ g t y n. h g t (weaker strength.Postfix strength.Unary g (omega arith) y) n) x;
  },
)

unary_operator : (w : Word) → Forth goal.Unary w (unary lead.Operator)
unary_operator w gs d h = (begin rule.Unary ∷ d, refl, record { spotted = refl; calm = refl; then = λ f v x m. h f v (strong_of strength.Unary rule.Unary f (omega arith) x) m })

forth_unary : (w : Word) (l : Lead) → Forth goal.Unary w (unary l)
forth_unary w lead.Atom = unary_atom w
forth_unary w lead.Operator = unary_operator w
forth_unary w lead.Paren = unary_atom w
forth_unary w lead.Other = tt

suffix_comes : (w : Word) → Forth goal.Suffix w (suffix true)
suffix_comes w gs [] h = absurd h
suffix_comes w gs (f ∷ d) h = (
  (begin rule.Postfix ▹ f) ∷ d,
  refl,
  record {
    spotted = node_step (begin rule.Postfix) f spot.Postfix spot.PostfixOp (class.At strength.Postfix) refl (inl (refl, refl)) h.0.0 h.0.1;
    calm = calm_strong strength.Postfix f w h.0;
    then = λ g v y n. (strong_of strength.Postfix rule.Postfix g (omega arith) y, h.1);
  },
)

suffix_ends : (w : Word) → Forth goal.Suffix w (suffix false)
suffix_ends w gs [] h = absurd h
suffix_ends w gs (f ∷ d) h = (f ∷ d, refl, h.1 f w h.0 (calm_strong strength.Postfix f w h.0))

forth_suffix : (w : Word) (b : Bool) → Forth goal.Suffix w (suffix b)
forth_suffix w true = suffix_comes w
forth_suffix w false = suffix_ends w

operator_comes : (l k : Level) (w : Word) → Forth (goal.Tail l k) w (tail l k true)
operator_comes l k w gs [] h = absurd h
operator_comes l k w gs (f ∷ d) h = (
  (begin (rule.Binary l) ▹ f) ∷ d,
  refl,
  record {
    spotted = node_step (begin (rule.Binary l)) f (spot.Binary l) (spot.BinaryOp l) (class.At (strength.Binary l)) refl (inl (refl, refl)) h.0.0 h.0.1;
    calm = calm_strong (strength.Binary l) f w h.0;
    then = λ g v y n. (strong_of (strength.Binary l) (rule.Binary l) g (omega arith) y, h.1, h.2);
  },
)

operators_end : (l k : Level) (w : Word) → Forth (goal.Tail l k) w (does shape.Keep [])
operators_end l k w gs [] h = absurd h
operators_end l k w gs (f ∷ d) h = (f ∷ d, refl, h.2 f w (weaker (strength.Binary l) (strength.Binary k) f h.1 h.0) (calm_strong (strength.Binary l) f w h.0))

pub looser_rank : (l : Level) → (level_rank (looser l) ≤ level_rank l) × (level_rank l ≤ level_rank (looser l) + 1)
looser_rank level_name.Or = (omega arith, omega arith)
looser_rank level_name.And = (omega arith, omega arith)
looser_rank level_name.BitOr = (omega arith, omega arith)
looser_rank level_name.BitXor = (omega arith, omega arith)
looser_rank level_name.BitAnd = (omega arith, omega arith)
looser_rank level_name.Equality = (omega arith, omega arith)
looser_rank level_name.Relation = (omega arith, omega arith)
looser_rank level_name.Shift = (omega arith, omega arith)
looser_rank level_name.Sum = (omega arith, omega arith)
looser_rank level_name.Product = (omega arith, omega arith)

operators_loosen : (l k : Level) (w : Word) → level_rank k < level_rank l → Forth (goal.Tail l k) w (does shape.Keep (goal.Tail (looser l) k ∷ []))
operators_loosen l k w less gs [] h = absurd h
operators_loosen l k w less gs (f ∷ d) h =
    let r = looser_rank l in
    (f ∷ d, refl, (weaker (strength.Binary l) (strength.Binary (looser l)) f r.0 h.0, omega (arith, less, r.1), h.2))

tail_by : (l k : Level) (w : Word) (b : Bool) → nat_le (level_rank l) (level_rank k) ≡ b → Forth (goal.Tail l k) w (tail_ends l k b)
tail_by l k w true e = operators_end l k w
tail_by l k w false e = operators_loosen l k w (leb-false (level_rank l) (level_rank k) e)

forth_tail : (l k : Level) (w : Word) (b : Bool) → Forth (goal.Tail l k) w (tail l k b)
forth_tail l k w true = operator_comes l k w
forth_tail l k w false = tail_by l k w (nat_le (level_rank l) (level_rank k)) refl

cond_comes : (w : Word) → Forth goal.CondRest w (does (shape.Wrap rule.Cond) (goal.At spot.CondQuestion ∷ []))
cond_comes w gs [] h = absurd h
cond_comes w gs (f ∷ d) h = (
  (begin rule.Cond ▹ f) ∷ d,
  refl,
  record {
    spotted = node_step (begin rule.Cond) f spot.Cond spot.CondQuestion (class.At (strength.Binary level_name.Or)) refl (inl (refl, refl)) h.0.0 h.0.1;
    calm = calm_strong (strength.Binary level_name.Or) f w h.0;
    then = λ g v y n. h.1 g v (strong_of strength.Cond rule.Cond g (omega arith) y) n;
  },
)

cond_ends : (w : Word) → Forth goal.CondRest w (does shape.Keep [])
cond_ends w gs [] h = absurd h
cond_ends w gs (f ∷ d) h = (f ∷ d, refl, h.1 f w (weaker (strength.Binary level_name.Or) strength.Cond f (omega arith) h.0) (calm_strong (strength.Binary level_name.Or) f w h.0))

forth_cond_rest : (w : Word) → Forth goal.CondRest w (cond_rest w)
forth_cond_rest word.Question = cond_comes word.Question
forth_cond_rest w = cond_ends w

comma_comes : (w : Word) → Forth goal.CommaRest w (does (shape.Wrap rule.Comma) (goal.At spot.CommaOp ∷ goal.CommaRest ∷ []))
comma_comes w gs [] h = absurd h
comma_comes w gs (f ∷ d) h = (
  (begin rule.Comma ▹ f) ∷ d,
  refl,
  record {
    spotted = node_step (begin rule.Comma) f spot.Comma spot.CommaOp (class.At strength.Expr) refl (inl (refl, refl)) h.0.0 h.0.1;
    calm = calm_strong strength.Expr f w h.0;
    then = λ g v y n. (strong_of strength.Expr rule.Comma g (omega arith) y, h.1);
  },
)

comma_ends : (w : Word) → Forth goal.CommaRest w (does shape.Keep [])
comma_ends w gs [] h = absurd h
comma_ends w gs (f ∷ d) h = (f ∷ d, refl, h.1 f w h.0 (calm_strong strength.Expr f w h.0))

forth_comma_rest : (w : Word) → Forth goal.CommaRest w (comma_rest w)
forth_comma_rest word.Comma = comma_comes word.Comma
forth_comma_rest w = comma_ends w

-- items ------------------------------------------------------------------------------------------

-- the names of a declaration
dinit_then : (c : Class) (gs : List Goal) (p : Form) (d : List Form) → InClass c rule.Declaration → Spotted p spot.DeclarationFirst → sort p ≡ Some rule.Declaration → Makes (Of c) (Needed gs) d → Makes (Like (Some rule.Dinit)) (Needed (goal.Join ∷ goal.At spot.DeclarationMore ∷ gs)) (p ∷ d)
dinit_then c gs p d k s e h f w x m = record {
  spotted = node_step p f spot.DeclarationFirst spot.DeclarationMore (class.Node rule.Dinit) s (inl (refl, refl)) x.0 (sorted (class.Node rule.Dinit) rule.Dinit f refl x.1);
  calm = m;
  then = λ g v y n. h g v (y.0, sorted c rule.Declaration g k (y.1 ∙ e)) n;
}

of_specs : (f : Form) → Like (Some rule.Specs) f → Spotted (begin rule.Declaration ▹ f) spot.DeclarationFirst
of_specs f h = node_step (begin rule.Declaration) f spot.Declaration spot.DeclarationFirst (class.Node rule.Specs) refl (inl (refl, refl)) h.0 (sorted (class.Node rule.Specs) rule.Specs f refl h.1)

calm_specs : (f : Form) (w : Word) → Like (Some rule.Specs) f → Calm f w
calm_specs f w h = calm_closed f w (sort_closed rule.Specs f h.1 refl)

item_ends : (w : Word) → Forth goal.ItemRest w (does (shape.Wrap rule.Declaration) (goal.At spot.DeclarationFirst ∷ []))
item_ends w gs [] h = absurd h
item_ends w gs (f ∷ d) h = (
  (begin rule.Declaration ▹ f) ∷ d,
  refl,
  record {
    spotted = of_specs f h.0;
    calm = calm_specs f w h.0;
    then = λ g v y n. h.1 g v (y.0, sorted class.Item rule.Declaration g refl y.1) n;
  },
)

item_names : (w : Word) → Forth goal.ItemRest w (does (shape.Begin rule.Declr) (goal.ItemDeclr ∷ []))
item_names w gs d h = (begin rule.Declr ∷ d, refl, (refl, h))

forth_item_rest : (w : Word) → Forth goal.ItemRest w (item_rest w)
forth_item_rest word.Semicolon = item_ends word.Semicolon
forth_item_rest w = item_names w

declr_twin : Twin rule.Declr rule.Callee spot.Declr spot.Callee (begin rule.Declr)
declr_twin = record { spotted = refl; also = refl; is = refl; closed = refl }

declr_star : (x : Form) → x ≡ begin rule.Declr → Twin rule.Declr rule.Callee spot.DeclrStars spot.CalleeStars (x ▹ leaf word.Star)
declr_star x e = subst (λ y. Twin rule.Declr rule.Callee spot.DeclrStars spot.CalleeStars (y ▹ leaf word.Star)) (sym e)
    (twin_word rule.Declr rule.Callee spot.Declr spot.Callee spot.DeclrStars spot.CalleeStars (begin rule.Declr) word.Star declr_twin (inl (refl, refl)) (inl (refl, refl)) refl refl)

declr_name : (x : Form) → x ≡ begin rule.Declr → Twin rule.Declr rule.Callee spot.DeclrBounds spot.Done (x ▹ leaf word.Name)
declr_name x e = subst (λ y. Twin rule.Declr rule.Callee spot.DeclrBounds spot.Done (y ▹ leaf word.Name)) (sym e)
    (twin_word rule.Declr rule.Callee spot.Declr spot.Callee spot.DeclrBounds spot.Done (begin rule.Declr) word.Name declr_twin (inr (inl (refl, refl))) (inr (inl (refl, refl))) refl refl)

item_star : Forth goal.ItemDeclr word.Star (shift (goal.ItemStars ∷ []))
item_star gs [] v h = absurd h
item_star gs (x ∷ d) v h = ((x ▹ leaf word.Star) ∷ d, refl, (declr_star x h.0, h.1))

item_named : Forth goal.ItemDeclr word.Name (shift (goal.ItemName ∷ []))
item_named gs [] v h = absurd h
item_named gs (x ∷ d) v h = ((x ▹ leaf word.Name) ∷ d, refl, (declr_name x h.0, h.1))

forth_item_declr : (w : Word) → Forth goal.ItemDeclr w (item_declr w)
forth_item_declr word.Star = item_star
forth_item_declr word.Name = item_named
forth_item_declr _ = tt

stars_star : Forth goal.ItemStars word.Star (shift (goal.ItemStars ∷ []))
stars_star gs [] v h = absurd h
stars_star gs (x ∷ d) v h =
    ((x ▹ leaf word.Star) ∷ d, refl, (twin_word rule.Declr rule.Callee spot.DeclrStars spot.CalleeStars spot.DeclrStars spot.CalleeStars x word.Star h.0 (inr (inl (refl, refl))) (inr (inl (refl, refl))) refl refl, h.1))

stars_name : Forth goal.ItemStars word.Name (shift (goal.ItemName ∷ []))
stars_name gs [] v h = absurd h
stars_name gs (x ∷ d) v h =
    ((x ▹ leaf word.Name) ∷ d, refl, (twin_word rule.Declr rule.Callee spot.DeclrStars spot.CalleeStars spot.DeclrBounds spot.Done x word.Name h.0 (inr (inr (inl (refl, refl)))) (inr (inr (inl (refl, refl)))) refl refl, h.1))

qualifier_is : (w : Word) → is_qualifier w ≡ true → is_else w ≡ false
qualifier_is word.Else e = cc e
qualifier_is _ e = refl

stars_qualifier : (w : Word) → is_qualifier w ≡ true → Forth goal.ItemStars w (shift (goal.ItemStars ∷ []))
stars_qualifier w e gs [] v h = absurd h
stars_qualifier w e gs (x ∷ d) v h =
    let t = h.0 in (
      (x ▹ leaf w) ∷ d,
      refl,
      (
        record {
          spotted = kind_step x w kind.Qualifier spot.DeclrStars spot.DeclrStars t.spotted (inl (refl, refl)) e (λ k. let bad : true ≡ false = sym k ∙ qualifier_is w e in cc bad);
          also = kind_step (retitle rule.Callee x) w kind.Qualifier spot.CalleeStars spot.CalleeStars t.also (inl (refl, refl)) e (λ k. let bad : true ≡ false = sym k ∙ qualifier_is w e in cc bad);
          is = t.is;
          closed = refl;
        },
        h.1,
      ),
    )

forth_qualifier : (w : Word) (b : Bool) → is_qualifier w ≡ b → Forth goal.ItemStars w (item_qualifier b)
forth_qualifier w true e = stars_qualifier w e
forth_qualifier w false e = tt

forth_item_stars : (w : Word) → Forth goal.ItemStars w (item_stars w)
forth_item_stars word.Star = stars_star
forth_item_stars word.Name = stars_name
forth_item_stars w = forth_qualifier w (is_qualifier w) refl

calls : (w : Word) → Forth goal.ItemName w (does shape.Call (goal.At spot.FunctionParams ∷ []))
calls w gs [] h = absurd h
calls w gs (x ∷ []) h = absurd h.1
calls w gs (x ∷ f ∷ d) h =
    let t = h.0 in let e = retitle_sort rule.Callee rule.Declr x t.is in (
      (begin rule.Function ▹ f ▹ retitle rule.Callee x) ∷ d,
      refl,
      record {
        spotted = node_step (begin rule.Function ▹ f) (retitle rule.Callee x) spot.FunctionCallee spot.FunctionParams (class.Node rule.Callee)
            (node_step (begin rule.Function) f spot.Function spot.FunctionCallee (class.Node rule.Specs) refl (inl (refl, refl)) h.1.0.0 (sorted (class.Node rule.Specs) rule.Specs f refl h.1.0.1))
            (inl (refl, refl)) (spot.Done, t.also, refl) (sorted (class.Node rule.Callee) rule.Callee (retitle rule.Callee x) refl e);
        calm = calm_closed (retitle rule.Callee x) w (sort_closed rule.Callee (retitle rule.Callee x) e refl);
        then = λ g v y n. h.1.1 g v (y.0, sorted class.Item rule.Function g refl y.1) n;
      },
    )

enlists : (w : Word) → Forth goal.ItemName w (does shape.Enlist (goal.At spot.DeclrBounds ∷ goal.Join ∷ goal.At spot.DinitSet ∷ goal.Join ∷ goal.At spot.DeclarationMore ∷ []))
enlists w gs [] h = absurd h
enlists w gs (x ∷ []) h = absurd h.1
enlists w gs (x ∷ f ∷ d) h =
    let t = h.0 in (
      x ∷ begin rule.Dinit ∷ (begin rule.Declaration ▹ f) ∷ d,
      refl,
      record {
        spotted = t.spotted;
        calm = ap (λ b. both b (is_else w)) t.closed;
        then = λ g v y n. record {
          spotted = node_step (begin rule.Dinit) g spot.Dinit spot.DinitSet (class.Node rule.Declr) refl (inl (refl, refl)) y.0 (sorted (class.Node rule.Declr) rule.Declr g refl (y.1 ∙ t.is));
          calm = n;
          then = dinit_then class.Item gs (begin rule.Declaration ▹ f) d refl (of_specs f h.1.0) refl h.1.1;
        };
      },
    )

forth_item_name : (w : Word) → Forth goal.ItemName w (item_name w)
forth_item_name word.Open = calls word.Open
forth_item_name w = enlists w

-- future in a block ------------------------------------------------------------------------------

future_shifts : Forth goal.FutureWord word.Future (shift (goal.FutureNext ∷ []))
future_shifts gs [] v h = absurd h
future_shifts gs (q ∷ d) v h = ((q ▹ leaf word.Future) ∷ d, refl, (ap (λ y. y ▹ leaf word.Future) h.0, h.1))

forth_future_word : (w : Word) → Forth goal.FutureWord w (future_word w)
forth_future_word word.Future = future_shifts
forth_future_word _ = tt

future_specs : Spotted (begin rule.Specs ▹ leaf word.Future) spot.SpecsMore
future_specs = kind_step (begin rule.Specs) word.Future kind.Specifier spot.Specs spot.SpecsMore refl (inl (refl, refl)) refl (λ e. cc e)

names_place : (w : Word) → Forth goal.FutureNext w (does (shape.Begin rule.Place) (goal.FutureName ∷ []))
names_place w gs [] h = absurd h
names_place w gs (q ∷ d) h = (begin rule.Place ∷ q ∷ d, refl, (refl, h.0, h.1))

specifies : (w : Word) → Forth goal.FutureNext w (does shape.Specify (goal.At spot.SpecsMore ∷ goal.Join ∷ goal.At spot.DeclarationFirst ∷ []))
specifies w gs [] h = absurd h
specifies w gs (q ∷ d) h =
    let e : retitle rule.Specs q ≡ begin rule.Specs ▹ leaf word.Future = ap (retitle rule.Specs) h.0 in (
      retitle rule.Specs q ∷ begin rule.Declaration ∷ d,
      refl,
      subst (λ y. AtNeeds spot.SpecsMore (Needed (goal.Join ∷ goal.At spot.DeclarationFirst ∷ gs)) y (begin rule.Declaration ∷ d) w) (sym e) (record {
        spotted = future_specs;
        calm = refl;
        then = λ f v k m. record {
          spotted = of_specs f k;
          calm = m;
          then = λ g u y n. h.1 g u (y.0, sorted class.BlockItem rule.Declaration g (inr (inl refl)) y.1) n;
        };
      }),
    )

forth_future_next : (w : Word) → Forth goal.FutureNext w (future_next w)
forth_future_next word.Name = names_place word.Name
forth_future_next w = specifies w

place_twin : Twin rule.Place rule.Declr spot.Place spot.Declr (begin rule.Place)
place_twin = record { spotted = refl; also = refl; is = refl; closed = refl }

place_name : (x : Form) → x ≡ begin rule.Place → Twin rule.Place rule.Declr spot.PlaceMore spot.DeclrBounds (x ▹ leaf word.Name)
place_name x e = subst (λ y. Twin rule.Place rule.Declr spot.PlaceMore spot.DeclrBounds (y ▹ leaf word.Name)) (sym e)
    (twin_word rule.Place rule.Declr spot.Place spot.Declr spot.PlaceMore spot.DeclrBounds (begin rule.Place) word.Name place_twin (inl (refl, refl)) (inr (inl (refl, refl))) refl refl)

future_named : Forth goal.FutureName word.Name (shift (goal.FutureRest ∷ []))
future_named gs [] v h = absurd h
future_named gs (p ∷ []) v h = absurd h
future_named gs (p ∷ q ∷ d) v h = ((p ▹ leaf word.Name) ∷ q ∷ d, refl, (record { twin = place_name p h.0; begun = h.1 }, h.2))

forth_future_name : (w : Word) → Forth goal.FutureName w (future_name w)
forth_future_name word.Name = future_named
forth_future_name _ = tt

bracket_opens : Forth goal.FutureRest word.OpenBracket (shift (goal.Assignment Bracket ∷ []))
bracket_opens gs [] v h = absurd h
bracket_opens gs (p ∷ []) v h = absurd h
bracket_opens gs (p ∷ q ∷ d) v h = (
  (p ▹ leaf word.OpenBracket) ∷ q ∷ d,
  refl,
  (
    record {
      twin = twin_word rule.Place rule.Declr spot.PlaceMore spot.DeclrBounds spot.PlaceIndex spot.DeclrBound p word.OpenBracket h.0.twin (inl (refl, refl)) (inl (refl, refl)) refl refl;
      begun = h.0.begun;
    },
    h.1,
  ),
)

is_place : (w : Word) → Forth goal.FutureRest w (does shape.Keep (goal.At spot.PlaceMore ∷ goal.Join ∷ goal.At spot.FutureOpen ∷ []))
is_place w gs [] h = absurd h
is_place w gs (p ∷ []) h = absurd h
is_place w gs (p ∷ q ∷ d) h = (
  p ∷ q ∷ d,
  refl,
  record {
    spotted = h.0.twin.spotted;
    calm = ap (λ b. both b (is_else w)) h.0.twin.closed;
    then = λ f v k m. place_then gs q d h.0.begun h.1 f v (k.0, k.1 ∙ h.0.twin.is) m;
  },
)

declares : (w : Word) → Forth goal.FutureRest w (does shape.Declare (goal.At spot.DinitSet ∷ goal.Join ∷ goal.At spot.DeclarationMore ∷ []))
declares w gs [] h = absurd h
declares w gs (p ∷ []) h = absurd h
declares w gs (p ∷ q ∷ d) h =
    let t = h.0.twin in let e = retitle_sort rule.Declr rule.Place p t.is in
    let s : retitle rule.Specs q ≡ begin rule.Specs ▹ leaf word.Future = ap (retitle rule.Specs) h.0.begun in
    let specs : Like (Some rule.Specs) (retitle rule.Specs q) = subst (λ y. Like (Some rule.Specs) y) (sym s) ((spot.SpecsMore, future_specs, refl), refl) in (
      (begin rule.Dinit ▹ retitle rule.Declr p) ∷ (begin rule.Declaration ▹ retitle rule.Specs q) ∷ d,
      refl,
      record {
        spotted = node_step (begin rule.Dinit) (retitle rule.Declr p) spot.Dinit spot.DinitSet (class.Node rule.Declr) refl (inl (refl, refl)) (spot.DeclrBounds, t.also, refl) (sorted (class.Node rule.Declr) rule.Declr (retitle rule.Declr p) refl e);
        calm = calm_closed (retitle rule.Declr p) w (sort_closed rule.Declr (retitle rule.Declr p) e refl);
        then = dinit_then class.BlockItem gs (begin rule.Declaration ▹ retitle rule.Specs q) d (inr (inl refl)) (of_specs (retitle rule.Specs q) specs) refl h.1;
      },
    )

forth_future_rest : (w : Word) → Forth goal.FutureRest w (future_rest w)
forth_future_rest word.OpenBracket = bracket_opens
forth_future_rest word.Open = is_place word.Open
forth_future_rest (word.Access x) = is_place (word.Access x)
forth_future_rest w = declares w

pub forth : (g : Goal) (w : Word) → Forth g w (planned g w)
forth (goal.At s) w = forth_picked s w (picked (steps s) w) refl
forth (goal.Read c) w = forth_read c w
forth goal.Join w = forth_join w
forth (goal.Assignment u) w = forth_assignment u w (opening w)
forth (goal.AssignmentOpen u) w = forth_open u w
forth (goal.AssignmentInside u) w = forth_inside u w (is_specifier w)
forth (goal.AssignmentRest u) w = forth_rest u w (of_kind kind.Assignment w)
forth goal.BracketEnd w = forth_bracket_end w
forth goal.BracketClose w = forth_bracket_close w
forth goal.Operand w = forth_operand w (opening w)
forth goal.OperandOpen w = forth_operand_open w
forth goal.OperandInside w = forth_operand_inside w (is_specifier w)
forth goal.Unary w = forth_unary w (opening w)
forth goal.Suffix w = forth_suffix w (is_suffix w)
forth (goal.Tail l k) w = forth_tail l k w (of_kind (kind.Operator l) w)
forth goal.CondRest w = forth_cond_rest w
forth goal.CommaRest w = forth_comma_rest w
forth goal.ItemRest w = forth_item_rest w
forth goal.ItemDeclr w = forth_item_declr w
forth goal.ItemStars w = forth_item_stars w
forth goal.ItemName w = forth_item_name w
forth goal.FutureWord w = forth_future_word w
forth goal.FutureNext w = forth_future_next w
forth goal.FutureName w = forth_future_name w
forth goal.FutureRest w = forth_future_rest w
