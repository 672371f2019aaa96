-- What the parser does at a goal.
use Rattle.std.specs.Prelude.{List, [], ◌∷◌, Option, Some, None, reverse, Bool, true, false, if◌then◌else◌, nat_le}
use Rattle.xc_raw.specs.declared.word.Word.{Word}
use Rattle.xc_raw.specs.declared.word.Word.TheVariants as word
use Rattle.xc_raw.specs.declared.rule.Rule.{Rule}
use Rattle.xc_raw.specs.declared.rule.Rule.TheVariants as rule
use Rattle.xc_raw.specs.declared.rule.Level.{Level}
use Rattle.xc_raw.specs.declared.rule.Level.TheVariants as level_name
use Rattle.xc_parse_grammar.specs.declared.marks.Strength.TheVariants as strength
use Rattle.xc_parse_grammar.specs.declared.marks.Class.{Class}
use Rattle.xc_parse_grammar.specs.declared.marks.Class.TheVariants as class
use Rattle.xc_parse_grammar.specs.declared.marks.Kind.TheVariants as kind
use Rattle.xc_parse_grammar.specs.declared.marks.Item.{Item}
use Rattle.xc_parse_grammar.specs.declared.marks.Item.TheVariants as item
use Rattle.xc_parse_grammar.specs.declared.spots.Spot.{Spot}
use Rattle.xc_parse_grammar.specs.declared.spots.Spot.TheVariants as spot
use Rattle.xc_parse_grammar.specs.declared.goals.Use.{Use}
use Rattle.xc_parse_grammar.specs.declared.goals.Use.TheVariants.{Plain, Bracket}
use Rattle.xc_parse_grammar.specs.declared.goals.Goal.{Goal}
use Rattle.xc_parse_grammar.specs.declared.goals.Goal.TheVariants as goal
use Rattle.xc_parse_grammar.specs.declared.goals.Shape.{Shape}
use Rattle.xc_parse_grammar.specs.declared.goals.Shape.TheVariants as shape
use Rattle.xc_parse_grammar.specs.declared.goals.Move.{Move}
use Rattle.xc_parse_grammar.specs.declared.goals.Move.TheVariants as move
use Rattle.xc_parse_grammar.specs.declared.goals.Lead.{Lead}
use Rattle.xc_parse_grammar.specs.declared.goals.Lead.TheVariants as lead
use Rattle.xc_parse_grammar.specs.Marks.{level_rank, is_specifier, of_kind, is_qualifier, accepts}
use Rattle.xc_parse_grammar.specs.Spots.{steps, may_end, start}

-- new goals, behind a change of the nodes at work or behind the next token; or no tree
pub data Act : Type 0 where
  does : Shape → List Goal → Act
  shift : List Goal → Act
  wrong : Act

abbrev pub next_at : Spot → Act
next_at s = shift (goal.At s ∷ [])

abbrev pub part : Class → Spot → Act
part c s = does shape.Keep (goal.Read c ∷ goal.Join ∷ goal.At s ∷ [])

abbrev pub begin_at : Rule → Act
begin_at r = does (shape.Begin r) (goal.At (start r) ∷ [])

abbrev pub act_of : Move → Act
act_of move.Wrong = wrong
act_of (move.Shift gs) = shift (reverse gs.now)
act_of (move.Do x gs) = does x (reverse gs.now)
act_of (move.Next s) = next_at s
act_of (move.Part c s) = part c s
act_of (move.Begin r) = begin_at r
act_of (move.Operands last) = does shape.Keep (goal.Operand ∷ goal.Tail level_name.Product last ∷ [])
act_of (move.Operator level last) = does (shape.Wrap (rule.Binary level)) (goal.At (spot.BinaryOp level) ∷ goal.Tail level last ∷ [])
act_of (move.Looser level last) = does shape.Keep (goal.Tail level last ∷ [])

abbrev pub opening : Word → Lead
opening word.Name = lead.Atom
opening (word.Literal x) = lead.Atom
opening word.Star = lead.Operator
opening word.Ampersand = lead.Operator
opening (word.Sign x) = lead.Operator
opening (word.Complement x) = lead.Operator
opening (word.Step x) = lead.Operator
opening word.Open = lead.Paren
opening _ = lead.Other

abbrev pub is_suffix : Word → Bool
is_suffix word.OpenBracket = true
is_suffix word.Open = true
is_suffix (word.Access x) = true
is_suffix (word.Step x) = true
is_suffix _ = false

abbrev pub looser : Level → Level
looser level_name.Product = level_name.Sum
looser level_name.Sum = level_name.Shift
looser level_name.Shift = level_name.Relation
looser level_name.Relation = level_name.Equality
looser level_name.Equality = level_name.BitAnd
looser level_name.BitAnd = level_name.BitXor
looser level_name.BitXor = level_name.BitOr
looser level_name.BitOr = level_name.And
looser level_name.And = level_name.Or
looser level_name.Or = level_name.Or

-- the rule of a statement
abbrev pub statement : Word → Rule
statement word.OpenBrace = rule.Block
statement word.If = rule.If
statement word.While = rule.While
statement word.Do = rule.Do
statement word.For = rule.For
statement word.Return = rule.Return
statement word.Break = rule.Break
statement word.Continue = rule.Continue
statement word.Future = rule.Future
statement _ = rule.Eval

-- the first step that the word allows
abbrev pub picked : List (Item × Spot) → Word → Option (Item × Spot)
picked [] w = None
picked (t ∷ ts) w = if accepts t.0 w then Some t else picked ts w

abbrev pub taken : Item → Spot → Act
taken (item.Part c) s = part c s
taken (item.Word v) s = next_at s
taken (item.Kind k) s = next_at s

abbrev pub ended : Bool → Act
ended true = does shape.Keep []
ended false = wrong

abbrev pub at_picked : Bool → Option (Item × Spot) → Act
at_picked ends (Some t) = taken t.0 t.1
at_picked ends None = ended ends

abbrev pub at_spot : Spot → Word → Act
at_spot s w = at_picked (may_end s) (picked (steps s) w)

-- an assignment was read in a bracket behind `future NAME`, or a comma comes there: it is a place
abbrev pub in_place : List Goal
in_place = goal.CommaRest ∷ goal.Join ∷ goal.At spot.PlaceClose ∷ goal.Join ∷ goal.At spot.FutureOpen ∷ []

abbrev pub committed : Use → List Goal
committed Plain = []
committed Bracket = in_place

abbrev pub open_still : Use → List Goal
open_still Plain = []
open_still Bracket = goal.BracketEnd ∷ []

abbrev pub operators : Use → List Goal
operators u = goal.Tail level_name.Product level_name.Or ∷ goal.CondRest ∷ open_still u

abbrev pub assignment : Use → Lead → Act
assignment u lead.Atom = does (shape.Begin rule.Prim) (goal.At spot.Prim ∷ goal.Suffix ∷ goal.AssignmentRest u ∷ [])
assignment u lead.Operator = does (shape.Begin rule.Unary) (goal.At spot.Unary ∷ goal.AssignmentRest u ∷ [])
assignment u lead.Paren = does (shape.Begin rule.Prim) (goal.AssignmentOpen u ∷ [])
assignment u lead.Other = wrong

abbrev pub assignment_open : Use → Word → Act
assignment_open u word.Open = shift (goal.AssignmentInside u ∷ [])
assignment_open u _ = wrong

abbrev pub inside : Use → Bool → Act
inside u true = does shape.Cast (goal.At spot.CastSpecs ∷ operators u)
inside u false = does shape.Keep (goal.At spot.PrimInner ∷ goal.Suffix ∷ goal.AssignmentRest u ∷ [])

abbrev pub rest : Use → Bool → Act
rest u true = does (shape.Wrap rule.Assign) (goal.At spot.AssignOp ∷ committed u)
rest u false = does shape.Keep (operators u)

abbrev pub operand : Lead → Act
operand lead.Atom = does (shape.Begin rule.Prim) (goal.At spot.Prim ∷ goal.Suffix ∷ [])
operand lead.Operator = does (shape.Begin rule.Unary) (goal.At spot.Unary ∷ [])
operand lead.Paren = does (shape.Begin rule.Prim) (goal.OperandOpen ∷ [])
operand lead.Other = wrong

abbrev pub operand_open : Word → Act
operand_open word.Open = shift (goal.OperandInside ∷ [])
operand_open _ = wrong

abbrev pub operand_inside : Bool → Act
operand_inside true = does shape.Cast (goal.At spot.CastSpecs ∷ [])
operand_inside false = does shape.Keep (goal.At spot.PrimInner ∷ goal.Suffix ∷ [])

abbrev pub unary : Lead → Act
unary lead.Atom = does (shape.Begin rule.Prim) (goal.At spot.Prim ∷ goal.Suffix ∷ [])
unary lead.Paren = does (shape.Begin rule.Prim) (goal.At spot.Prim ∷ goal.Suffix ∷ [])
unary lead.Operator = does (shape.Begin rule.Unary) (goal.At spot.Unary ∷ [])
unary lead.Other = wrong

abbrev pub suffix : Bool → Act
suffix true = does (shape.Wrap rule.Postfix) (goal.At spot.PostfixOp ∷ goal.Suffix ∷ [])
suffix false = does shape.Keep []

abbrev pub tail_ends : Level → Level → Bool → Act
tail_ends level last true = does shape.Keep []
tail_ends level last false = does shape.Keep (goal.Tail (looser level) last ∷ [])

abbrev pub tail : Level → Level → Bool → Act
tail level last true = does (shape.Wrap (rule.Binary level)) (goal.At (spot.BinaryOp level) ∷ goal.Tail level last ∷ [])
tail level last false = tail_ends level last (nat_le (level_rank level) (level_rank last))

abbrev pub read_item : Word → Act
read_item word.Pragma = begin_at rule.Pragma
read_item _ = does (shape.Begin rule.Specs) (goal.At spot.Specs ∷ goal.ItemRest ∷ [])

abbrev pub read_declared : Bool → Act
read_declared true = begin_at rule.Declaration
read_declared false = does shape.Keep (goal.Read class.Stmt ∷ [])

abbrev pub read_block_item : Word → Act
read_block_item word.Pragma = begin_at rule.Pragma
read_block_item word.Future = does (shape.Begin rule.Future) (goal.FutureWord ∷ [])
read_block_item w = read_declared (is_specifier w)

abbrev pub read_init : Word → Act
read_init word.OpenBrace = begin_at rule.Initialisers
read_init _ = does shape.Keep (goal.Assignment Plain ∷ [])

abbrev pub planned_read : Class → Word → Act
planned_read (class.Node r) w = begin_at r
planned_read class.Item w = read_item w
planned_read class.BlockItem w = read_block_item w
planned_read class.Stmt w = begin_at (statement w)
planned_read class.Init w = read_init w
planned_read (class.At strength.Expr) w = does shape.Keep (goal.Assignment Plain ∷ goal.CommaRest ∷ [])
planned_read (class.At strength.Assign) w = does shape.Keep (goal.Assignment Plain ∷ [])
planned_read (class.At strength.Cond) w = does shape.Keep (goal.Operand ∷ goal.Tail level_name.Product level_name.Or ∷ goal.CondRest ∷ [])
planned_read (class.At (strength.Binary last)) w = does shape.Keep (goal.Operand ∷ goal.Tail level_name.Product last ∷ [])
planned_read (class.At strength.Cast) w = does shape.Keep (goal.Operand ∷ [])
planned_read (class.At strength.Unary) w = does shape.Keep (goal.Unary ∷ [])
planned_read (class.At strength.Postfix) w = wrong

abbrev pub bracket_end : Word → Act
bracket_end word.Comma = does shape.Keep in_place
bracket_end _ = does shape.Join (goal.BracketClose ∷ [])

abbrev pub bracket_close : Word → Act
bracket_close word.CloseBracket = shift (goal.FutureRest ∷ [])
bracket_close _ = wrong

abbrev pub cond_rest : Word → Act
cond_rest word.Question = does (shape.Wrap rule.Cond) (goal.At spot.CondQuestion ∷ [])
cond_rest _ = does shape.Keep []

abbrev pub comma_rest : Word → Act
comma_rest word.Comma = does (shape.Wrap rule.Comma) (goal.At spot.CommaOp ∷ goal.CommaRest ∷ [])
comma_rest _ = does shape.Keep []

abbrev pub item_rest : Word → Act
item_rest word.Semicolon = does (shape.Wrap rule.Declaration) (goal.At spot.DeclarationFirst ∷ [])
item_rest _ = does (shape.Begin rule.Declr) (goal.ItemDeclr ∷ [])

abbrev pub item_declr : Word → Act
item_declr word.Star = shift (goal.ItemStars ∷ [])
item_declr word.Name = shift (goal.ItemName ∷ [])
item_declr _ = wrong

abbrev pub item_qualifier : Bool → Act
item_qualifier true = shift (goal.ItemStars ∷ [])
item_qualifier false = wrong

abbrev pub item_stars : Word → Act
item_stars word.Star = shift (goal.ItemStars ∷ [])
item_stars word.Name = shift (goal.ItemName ∷ [])
item_stars w = item_qualifier (is_qualifier w)

abbrev pub item_name : Word → Act
item_name word.Open = does shape.Call (goal.At spot.FunctionParams ∷ [])
item_name _ = does shape.Enlist (goal.At spot.DeclrBounds ∷ goal.Join ∷ goal.At spot.DinitSet ∷ goal.Join ∷ goal.At spot.DeclarationMore ∷ [])

abbrev pub future_word : Word → Act
future_word word.Future = shift (goal.FutureNext ∷ [])
future_word _ = wrong

abbrev pub future_next : Word → Act
future_next word.Name = does (shape.Begin rule.Place) (goal.FutureName ∷ [])
future_next _ = does shape.Specify (goal.At spot.SpecsMore ∷ goal.Join ∷ goal.At spot.DeclarationFirst ∷ [])

abbrev pub future_name : Word → Act
future_name word.Name = shift (goal.FutureRest ∷ [])
future_name _ = wrong

abbrev pub future_rest : Word → Act
future_rest word.OpenBracket = shift (goal.Assignment Bracket ∷ [])
future_rest word.Open = does shape.Keep (goal.At spot.PlaceMore ∷ goal.Join ∷ goal.At spot.FutureOpen ∷ [])
future_rest (word.Access x) = does shape.Keep (goal.At spot.PlaceMore ∷ goal.Join ∷ goal.At spot.FutureOpen ∷ [])
future_rest _ = does shape.Declare (goal.At spot.DinitSet ∷ goal.Join ∷ goal.At spot.DeclarationMore ∷ [])

-- what the parser does at a goal, by the next word, which is Foreign at the end of the text
abbrev pub planned : Goal → Word → Act
planned (goal.At s) w = at_spot s w
planned (goal.Read c) w = planned_read c w
planned goal.Join w = does shape.Join []
planned (goal.Assignment u) w = assignment u (opening w)
planned (goal.AssignmentOpen u) w = assignment_open u w
planned (goal.AssignmentInside u) w = inside u (is_specifier w)
planned (goal.AssignmentRest u) w = rest u (of_kind kind.Assignment w)
planned goal.BracketEnd w = bracket_end w
planned goal.BracketClose w = bracket_close w
planned goal.Operand w = operand (opening w)
planned goal.OperandOpen w = operand_open w
planned goal.OperandInside w = operand_inside (is_specifier w)
planned goal.Unary w = unary (opening w)
planned goal.Suffix w = suffix (is_suffix w)
planned (goal.Tail level last) w = tail level last (of_kind (kind.Operator level) w)
planned goal.CondRest w = cond_rest w
planned goal.CommaRest w = comma_rest w
planned goal.ItemRest w = item_rest w
planned goal.ItemDeclr w = item_declr w
planned goal.ItemStars w = item_stars w
planned goal.ItemName w = item_name w
planned goal.FutureWord w = future_word w
planned goal.FutureNext w = future_next w
planned goal.FutureName w = future_name w
planned goal.FutureRest w = future_rest w
