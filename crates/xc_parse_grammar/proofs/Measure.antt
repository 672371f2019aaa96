-- How much is left to do.
use Rattle.std.proofs.Common.{◌≡◌, ℕ, suc, ◌+◌, ◌≤◌, ◌<◌, List, [], ◌∷◌, ◌++◌, Option, Some, None, Bool, true, false, refl, subst, arith}
use Rattle.std.specs.Prelude.{nat_lt, nat_le}
use Rattle.std.proofs.lemmas.Bool.{leb-false, leb-true}
use mathlib.Core.Logic.{⊎_elim}
use Rattle.xc_raw.specs.declared.word.Word.{Word}
use Rattle.xc_raw.specs.declared.word.Word.TheVariants as word
use Rattle.xc_raw.specs.declared.rule.Rule.{Rule}
use Rattle.xc_raw.specs.declared.rule.Rule.TheVariants as rule
use Rattle.xc_raw.specs.declared.rule.Level.{Level}
use Rattle.xc_raw.specs.declared.rule.Level.TheVariants as level_name
use Rattle.xc_parse_grammar.specs.declared.marks.Strength.{Strength}
use Rattle.xc_parse_grammar.specs.declared.marks.Strength.TheVariants as strength
use Rattle.xc_parse_grammar.specs.declared.marks.Class.{Class}
use Rattle.xc_parse_grammar.specs.declared.marks.Class.TheVariants as class
use Rattle.xc_parse_grammar.specs.declared.marks.Kind.TheVariants as kind
use Rattle.xc_parse_grammar.specs.declared.marks.Item.{Item}
use Rattle.xc_parse_grammar.specs.declared.marks.Item.TheVariants as item
use Rattle.xc_parse_grammar.specs.declared.spots.Spot.{Spot}
use Rattle.xc_parse_grammar.specs.declared.spots.Spot.TheVariants as spot
use Rattle.xc_parse_grammar.specs.declared.goals.Use.{Use}
use Rattle.xc_parse_grammar.specs.declared.goals.Use.TheVariants.{Plain, Bracket}
use Rattle.xc_parse_grammar.specs.declared.goals.Goal.{Goal}
use Rattle.xc_parse_grammar.specs.declared.goals.Goal.TheVariants as goal
use Rattle.xc_parse_grammar.specs.declared.goals.Lead.{Lead}
use Rattle.xc_parse_grammar.specs.declared.goals.Lead.TheVariants as lead
use Rattle.xc_parse_grammar.specs.Marks.{level_rank, of_kind, is_specifier, is_qualifier}
use Rattle.xc_parse_grammar.specs.Grammar.{Among}
use Rattle.xc_parse_grammar.specs.Spots.{steps, may_end, start}
use Rattle.xc_parse_grammar.specs.Plan.{Act, does, shift, wrong, begin_at, opening, is_suffix, looser, statement, picked, taken, ended, at_picked, assignment, assignment_open, inside, rest, operand, operand_open, operand_inside, unary, suffix, tail_ends, tail, read_item, read_declared, read_block_item, read_init, planned_read, bracket_end, bracket_close, cond_rest, comma_rest, item_rest, item_declr, item_qualifier, item_stars, item_name, future_word, future_next, future_name, future_rest, planned}
use Rattle.xc_parse_grammar.proofs.Rows.{lowest}
use Rattle.xc_parse_grammar.proofs.Sound.{picked_among}

-- how many moves without a token there are at most at a place, where it is the first goal
abbrev heft_at : Spot → ℕ
heft_at spot.Done = 100
heft_at spot.Ending = 0
heft_at spot.Closing = 0
heft_at spot.Clause = 37
heft_at spot.Unit = 9
heft_at spot.UnitMore = 100
heft_at spot.Pragma = 0
heft_at spot.Declaration = 8
heft_at spot.DeclarationFirst = 8
heft_at spot.DeclarationMore = 0
heft_at spot.DeclarationNext = 8
heft_at spot.Function = 8
heft_at spot.FunctionCallee = 4
heft_at spot.FunctionParams = 4
heft_at spot.FunctionBody = 4
heft_at spot.Specs = 4
heft_at spot.SpecsMore = 100
heft_at spot.Struct = 0
heft_at spot.StructName = 0
heft_at spot.StructBody = 100
heft_at spot.StructFirst = 12
heft_at spot.StructMore = 12
heft_at spot.Member = 8
heft_at spot.MemberNext = 4
heft_at spot.MemberMore = 0
heft_at spot.Declr = 0
heft_at spot.DeclrStars = 0
heft_at spot.DeclrBounds = 100
heft_at spot.DeclrBound = 37
heft_at spot.DeclrClose = 0
heft_at spot.Callee = 0
heft_at spot.CalleeStars = 0
heft_at spot.Dinit = 4
heft_at spot.DinitSet = 100
heft_at spot.DinitInit = 36
heft_at spot.Initialisers = 0
heft_at spot.InitialisersFirst = 36
heft_at spot.InitialisersMore = 0
heft_at spot.InitialisersNext = 36
heft_at spot.Params = 0
heft_at spot.ParamsFirst = 12
heft_at spot.ParamsMore = 0
heft_at spot.ParamsNext = 12
heft_at spot.Param = 8
heft_at spot.ParamDeclr = 100
heft_at spot.ParamStars = 100
heft_at spot.ParamFirst = 100
heft_at spot.ParamBound = 37
heft_at spot.ParamClose = 0
heft_at spot.ParamMore = 100
heft_at spot.ParamNext = 37
heft_at spot.Block = 0
heft_at spot.BlockMore = 42
heft_at spot.Sub = 41
heft_at spot.If = 0
heft_at spot.IfOpen = 0
heft_at spot.IfTest = 37
heft_at spot.IfClose = 0
heft_at spot.IfThen = 45
heft_at spot.IfElse = 100
heft_at spot.IfOther = 45
heft_at spot.While = 0
heft_at spot.WhileOpen = 0
heft_at spot.WhileTest = 37
heft_at spot.WhileClose = 0
heft_at spot.WhileBody = 45
heft_at spot.Do = 0
heft_at spot.DoBody = 45
heft_at spot.DoWhile = 0
heft_at spot.DoOpen = 0
heft_at spot.DoTest = 37
heft_at spot.DoClose = 0
heft_at spot.For = 0
heft_at spot.ForOpen = 0
heft_at spot.ForFirst = 41
heft_at spot.ForSecond = 41
heft_at spot.ForThird = 41
heft_at spot.ForBody = 45
heft_at spot.ForDeclaration = 8
heft_at spot.ForDeclarationNext = 8
heft_at spot.ForDeclarationMore = 0
heft_at spot.Step = 37
heft_at spot.Return = 0
heft_at spot.Break = 0
heft_at spot.Continue = 0
heft_at spot.Future = 0
heft_at spot.FuturePlace = 4
heft_at spot.FutureOpen = 0
heft_at spot.FutureFirst = 0
heft_at spot.FutureMore = 0
heft_at spot.FutureNext = 0
heft_at spot.FutureBody = 4
heft_at spot.Place = 0
heft_at spot.PlaceMore = 100
heft_at spot.PlaceIndex = 37
heft_at spot.PlaceClose = 0
heft_at spot.PlaceMember = 0
heft_at spot.Comma = 37
heft_at spot.CommaOp = 0
heft_at spot.CommaRight = 37
heft_at spot.Assign = 37
heft_at spot.AssignOp = 0
heft_at spot.AssignRight = 37
heft_at spot.Cond = 37
heft_at spot.CondQuestion = 0
heft_at spot.CondThen = 37
heft_at spot.CondColon = 0
heft_at spot.CondOther = 37
heft_at (spot.Binary level) = 37
heft_at (spot.BinaryOp level) = 0
heft_at (spot.BinaryRight level) = 37
heft_at spot.Cast = 0
heft_at spot.CastSpecs = 8
heft_at spot.CastAfter = 0
heft_at spot.CastStars = 0
heft_at spot.CastOperand = 37
heft_at spot.Unary = 0
heft_at spot.UnaryStep = 37
heft_at spot.UnaryOperand = 37
heft_at spot.Postfix = 37
heft_at spot.PostfixOp = 0
heft_at spot.PostfixIndex = 37
heft_at spot.PostfixClose = 0
heft_at spot.PostfixFirst = 37
heft_at spot.PostfixMore = 0
heft_at spot.PostfixNext = 37
heft_at spot.PostfixMember = 0
heft_at spot.Prim = 0
heft_at spot.PrimInner = 37

abbrev heft_rule : Rule → ℕ
heft_rule rule.Unit = 10
heft_rule rule.Pragma = 1
heft_rule rule.Declaration = 9
heft_rule rule.Function = 9
heft_rule rule.Specs = 5
heft_rule rule.Struct = 1
heft_rule rule.Member = 9
heft_rule rule.Declr = 1
heft_rule rule.Callee = 1
heft_rule rule.Dinit = 5
heft_rule rule.Initialisers = 1
heft_rule rule.Params = 1
heft_rule rule.Param = 9
heft_rule rule.Block = 1
heft_rule rule.Sub = 42
heft_rule rule.Eval = 38
heft_rule rule.Clause = 38
heft_rule rule.If = 1
heft_rule rule.While = 1
heft_rule rule.Do = 1
heft_rule rule.For = 1
heft_rule rule.ForDeclaration = 9
heft_rule rule.Step = 38
heft_rule rule.Return = 1
heft_rule rule.Break = 1
heft_rule rule.Continue = 1
heft_rule rule.Future = 1
heft_rule rule.Place = 1
heft_rule rule.Comma = 38
heft_rule rule.Assign = 38
heft_rule rule.Cond = 38
heft_rule (rule.Binary level) = 38
heft_rule rule.Cast = 1
heft_rule rule.Unary = 1
heft_rule rule.Postfix = 38
heft_rule rule.Prim = 1

abbrev heft_read : Class → ℕ
heft_read (class.Node r) = heft_rule r
heft_read class.Item = 6
heft_read class.BlockItem = 39
heft_read class.Stmt = 38
heft_read class.Init = 33
heft_read (class.At s) = 34

abbrev heft : Goal → ℕ
heft (goal.At s) = heft_at s
heft (goal.Read c) = heft_read c
heft (goal.Assignment u) = 32
heft (goal.AssignmentOpen u) = 0
heft (goal.AssignmentInside u) = 70
heft goal.BracketClose = 0
heft goal.Operand = 2
heft goal.OperandOpen = 0
heft goal.OperandInside = 39
heft goal.Unary = 2
heft goal.ItemRest = 9
heft goal.ItemDeclr = 0
heft goal.ItemStars = 0
heft goal.FutureWord = 0
heft goal.FutureName = 0
heft _ = 100

abbrev weight : Goal → ℕ
weight (goal.AssignmentRest u) = 30
weight (goal.Tail level last) = level_rank level
weight goal.BracketEnd = 8
weight goal.ItemName = 8
weight goal.FutureNext = 5
weight goal.FutureRest = 5
weight _ = 1

abbrev total : List Goal → ℕ
total [] = 0
total (g ∷ gs) = weight g + total gs

-- what is to come first counts more
abbrev pub load : List Goal → ℕ
load [] = 100
load (g ∷ gs) = heft g + total (g ∷ gs)

-- each move but a shift leaves less to do, and a shift at most three hundred more
abbrev pub IsLighter : Goal → Act → Type 0
IsLighter g (does x new) = (gs : List Goal) → load (new ++ gs) < load (g ∷ gs)
IsLighter g (shift new) = (gs : List Goal) → load (new ++ gs) < 300 + load (g ∷ gs)
IsLighter g wrong = Unit {0}

light_at : (s : Spot) → nat_le (heft_at s) 100 ≡ true
light_at spot.Done = refl
light_at spot.Ending = refl
light_at spot.Closing = refl
light_at spot.Clause = refl
light_at spot.Unit = refl
light_at spot.UnitMore = refl
light_at spot.Pragma = refl
light_at spot.Declaration = refl
light_at spot.DeclarationFirst = refl
light_at spot.DeclarationMore = refl
light_at spot.DeclarationNext = refl
light_at spot.Function = refl
light_at spot.FunctionCallee = refl
light_at spot.FunctionParams = refl
light_at spot.FunctionBody = refl
light_at spot.Specs = refl
light_at spot.SpecsMore = refl
light_at spot.Struct = refl
light_at spot.StructName = refl
light_at spot.StructBody = refl
light_at spot.StructFirst = refl
light_at spot.StructMore = refl
light_at spot.Member = refl
light_at spot.MemberNext = refl
light_at spot.MemberMore = refl
light_at spot.Declr = refl
light_at spot.DeclrStars = refl
light_at spot.DeclrBounds = refl
light_at spot.DeclrBound = refl
light_at spot.DeclrClose = refl
light_at spot.Callee = refl
light_at spot.CalleeStars = refl
light_at spot.Dinit = refl
light_at spot.DinitSet = refl
light_at spot.DinitInit = refl
light_at spot.Initialisers = refl
light_at spot.InitialisersFirst = refl
light_at spot.InitialisersMore = refl
light_at spot.InitialisersNext = refl
light_at spot.Params = refl
light_at spot.ParamsFirst = refl
light_at spot.ParamsMore = refl
light_at spot.ParamsNext = refl
light_at spot.Param = refl
light_at spot.ParamDeclr = refl
light_at spot.ParamStars = refl
light_at spot.ParamFirst = refl
light_at spot.ParamBound = refl
light_at spot.ParamClose = refl
light_at spot.ParamMore = refl
light_at spot.ParamNext = refl
light_at spot.Block = refl
light_at spot.BlockMore = refl
light_at spot.Sub = refl
light_at spot.If = refl
light_at spot.IfOpen = refl
light_at spot.IfTest = refl
light_at spot.IfClose = refl
light_at spot.IfThen = refl
light_at spot.IfElse = refl
light_at spot.IfOther = refl
light_at spot.While = refl
light_at spot.WhileOpen = refl
light_at spot.WhileTest = refl
light_at spot.WhileClose = refl
light_at spot.WhileBody = refl
light_at spot.Do = refl
light_at spot.DoBody = refl
light_at spot.DoWhile = refl
light_at spot.DoOpen = refl
light_at spot.DoTest = refl
light_at spot.DoClose = refl
light_at spot.For = refl
light_at spot.ForOpen = refl
light_at spot.ForFirst = refl
light_at spot.ForSecond = refl
light_at spot.ForThird = refl
light_at spot.ForBody = refl
light_at spot.ForDeclaration = refl
light_at spot.ForDeclarationNext = refl
light_at spot.ForDeclarationMore = refl
light_at spot.Step = refl
light_at spot.Return = refl
light_at spot.Break = refl
light_at spot.Continue = refl
light_at spot.Future = refl
light_at spot.FuturePlace = refl
light_at spot.FutureOpen = refl
light_at spot.FutureFirst = refl
light_at spot.FutureMore = refl
light_at spot.FutureNext = refl
light_at spot.FutureBody = refl
light_at spot.Place = refl
light_at spot.PlaceMore = refl
light_at spot.PlaceIndex = refl
light_at spot.PlaceClose = refl
light_at spot.PlaceMember = refl
light_at spot.Comma = refl
light_at spot.CommaOp = refl
light_at spot.CommaRight = refl
light_at spot.Assign = refl
light_at spot.AssignOp = refl
light_at spot.AssignRight = refl
light_at spot.Cond = refl
light_at spot.CondQuestion = refl
light_at spot.CondThen = refl
light_at spot.CondColon = refl
light_at spot.CondOther = refl
light_at (spot.Binary level) = refl
light_at (spot.BinaryOp level) = refl
light_at (spot.BinaryRight level) = refl
light_at spot.Cast = refl
light_at spot.CastSpecs = refl
light_at spot.CastAfter = refl
light_at spot.CastStars = refl
light_at spot.CastOperand = refl
light_at spot.Unary = refl
light_at spot.UnaryStep = refl
light_at spot.UnaryOperand = refl
light_at spot.Postfix = refl
light_at spot.PostfixOp = refl
light_at spot.PostfixIndex = refl
light_at spot.PostfixClose = refl
light_at spot.PostfixFirst = refl
light_at spot.PostfixMore = refl
light_at spot.PostfixNext = refl
light_at spot.PostfixMember = refl
light_at spot.Prim = refl
light_at spot.PrimInner = refl

light_rule : (r : Rule) → nat_le (heft_rule r) 100 ≡ true
light_rule rule.Unit = refl
light_rule rule.Pragma = refl
light_rule rule.Declaration = refl
light_rule rule.Function = refl
light_rule rule.Specs = refl
light_rule rule.Struct = refl
light_rule rule.Member = refl
light_rule rule.Declr = refl
light_rule rule.Callee = refl
light_rule rule.Dinit = refl
light_rule rule.Initialisers = refl
light_rule rule.Params = refl
light_rule rule.Param = refl
light_rule rule.Block = refl
light_rule rule.Sub = refl
light_rule rule.Eval = refl
light_rule rule.Clause = refl
light_rule rule.If = refl
light_rule rule.While = refl
light_rule rule.Do = refl
light_rule rule.For = refl
light_rule rule.ForDeclaration = refl
light_rule rule.Step = refl
light_rule rule.Return = refl
light_rule rule.Break = refl
light_rule rule.Continue = refl
light_rule rule.Future = refl
light_rule rule.Place = refl
light_rule rule.Comma = refl
light_rule rule.Assign = refl
light_rule rule.Cond = refl
light_rule (rule.Binary level) = refl
light_rule rule.Cast = refl
light_rule rule.Unary = refl
light_rule rule.Postfix = refl
light_rule rule.Prim = refl

light_read : (c : Class) → heft_read c ≤ 100
light_read (class.Node r) = leb-true (heft_rule r) 100 (light_rule r)
light_read class.Item = omega arith
light_read class.BlockItem = omega arith
light_read class.Stmt = omega arith
light_read class.Init = omega arith
light_read (class.At s) = omega arith

light : (g : Goal) → heft g ≤ 100
light (goal.At s) = leb-true (heft_at s) 100 (light_at s)
light (goal.Read c) = light_read c
light _ = omega arith

load_rest : (gs : List Goal) → load gs ≤ 100 + total gs
load_rest [] = omega arith
load_rest (g ∷ gs) = omega (arith, light g)

-- the places of a rule
abbrev PartItem : Spot → Item → Type 0
PartItem s (item.Part c) = nat_le (heft_read c + 3) (heft_at s) ≡ true
PartItem s (item.Word w) = Unit {0}
PartItem s (item.Kind k) = Unit {0}

abbrev AllParts : Spot → List (Item × Spot) → Type 0
AllParts s [] = Unit {0}
AllParts s (t ∷ ts) = PartItem s t.0 × AllParts s ts

parts : (s : Spot) → AllParts s (steps s)
parts spot.Done = tt
parts spot.Ending = (tt, tt)
parts spot.Closing = (tt, tt)
parts spot.Clause = (refl, (tt, tt))
parts spot.Unit = (refl, tt)
parts spot.UnitMore = (refl, tt)
parts spot.Pragma = (tt, tt)
parts spot.Declaration = (refl, tt)
parts spot.DeclarationFirst = (refl, (tt, tt))
parts spot.DeclarationMore = (tt, (tt, tt))
parts spot.DeclarationNext = (refl, tt)
parts spot.Function = (refl, tt)
parts spot.FunctionCallee = (refl, tt)
parts spot.FunctionParams = (refl, tt)
parts spot.FunctionBody = (tt, (refl, tt))
parts spot.Specs = (tt, (refl, tt))
parts spot.SpecsMore = (tt, (refl, tt))
parts spot.Struct = (tt, tt)
parts spot.StructName = (tt, tt)
parts spot.StructBody = (tt, tt)
parts spot.StructFirst = (refl, tt)
parts spot.StructMore = (refl, (tt, tt))
parts spot.Member = (refl, tt)
parts spot.MemberNext = (refl, tt)
parts spot.MemberMore = (tt, (tt, tt))
parts spot.Declr = (tt, (tt, tt))
parts spot.DeclrStars = (tt, (tt, (tt, tt)))
parts spot.DeclrBounds = (tt, tt)
parts spot.DeclrBound = (refl, tt)
parts spot.DeclrClose = (tt, tt)
parts spot.Callee = (tt, (tt, tt))
parts spot.CalleeStars = (tt, (tt, (tt, tt)))
parts spot.Dinit = (refl, tt)
parts spot.DinitSet = (tt, tt)
parts spot.DinitInit = (refl, tt)
parts spot.Initialisers = (tt, tt)
parts spot.InitialisersFirst = (refl, tt)
parts spot.InitialisersMore = (tt, (tt, tt))
parts spot.InitialisersNext = (refl, (tt, tt))
parts spot.Params = (tt, tt)
parts spot.ParamsFirst = (refl, (tt, tt))
parts spot.ParamsMore = (tt, (tt, tt))
parts spot.ParamsNext = (refl, tt)
parts spot.Param = (refl, tt)
parts spot.ParamDeclr = (tt, (tt, (tt, tt)))
parts spot.ParamStars = (tt, (tt, (tt, (tt, tt))))
parts spot.ParamFirst = (tt, tt)
parts spot.ParamBound = (refl, (tt, tt))
parts spot.ParamClose = (tt, tt)
parts spot.ParamMore = (tt, tt)
parts spot.ParamNext = (refl, tt)
parts spot.Block = (tt, tt)
parts spot.BlockMore = (refl, (tt, tt))
parts spot.Sub = (refl, (refl, tt))
parts spot.If = (tt, tt)
parts spot.IfOpen = (tt, tt)
parts spot.IfTest = (refl, tt)
parts spot.IfClose = (tt, tt)
parts spot.IfThen = (refl, tt)
parts spot.IfElse = (tt, tt)
parts spot.IfOther = (refl, tt)
parts spot.While = (tt, tt)
parts spot.WhileOpen = (tt, tt)
parts spot.WhileTest = (refl, tt)
parts spot.WhileClose = (tt, tt)
parts spot.WhileBody = (refl, tt)
parts spot.Do = (tt, tt)
parts spot.DoBody = (refl, tt)
parts spot.DoWhile = (tt, tt)
parts spot.DoOpen = (tt, tt)
parts spot.DoTest = (refl, tt)
parts spot.DoClose = (tt, tt)
parts spot.For = (tt, tt)
parts spot.ForOpen = (tt, tt)
parts spot.ForFirst = (refl, (refl, tt))
parts spot.ForSecond = (refl, tt)
parts spot.ForThird = (refl, tt)
parts spot.ForBody = (refl, tt)
parts spot.ForDeclaration = (refl, tt)
parts spot.ForDeclarationNext = (refl, tt)
parts spot.ForDeclarationMore = (tt, (tt, tt))
parts spot.Step = (refl, (tt, tt))
parts spot.Return = (tt, tt)
parts spot.Break = (tt, tt)
parts spot.Continue = (tt, tt)
parts spot.Future = (tt, tt)
parts spot.FuturePlace = (refl, tt)
parts spot.FutureOpen = (tt, tt)
parts spot.FutureFirst = (tt, (tt, tt))
parts spot.FutureMore = (tt, (tt, tt))
parts spot.FutureNext = (tt, tt)
parts spot.FutureBody = (refl, tt)
parts spot.Place = (tt, tt)
parts spot.PlaceMore = (tt, (tt, tt))
parts spot.PlaceIndex = (refl, tt)
parts spot.PlaceClose = (tt, tt)
parts spot.PlaceMember = (tt, tt)
parts spot.Comma = (refl, tt)
parts spot.CommaOp = (tt, tt)
parts spot.CommaRight = (refl, tt)
parts spot.Assign = (refl, tt)
parts spot.AssignOp = (tt, tt)
parts spot.AssignRight = (refl, tt)
parts spot.Cond = (refl, tt)
parts spot.CondQuestion = (tt, tt)
parts spot.CondThen = (refl, tt)
parts spot.CondColon = (tt, tt)
parts spot.CondOther = (refl, tt)
parts (spot.Binary level) = (refl, tt)
parts (spot.BinaryOp level) = (tt, tt)
parts (spot.BinaryRight level) = (refl, tt)
parts spot.Cast = (tt, tt)
parts spot.CastSpecs = (refl, tt)
parts spot.CastAfter = (tt, (tt, tt))
parts spot.CastStars = (tt, (tt, (tt, tt)))
parts spot.CastOperand = (refl, tt)
parts spot.Unary = (tt, (tt, tt))
parts spot.UnaryStep = (refl, tt)
parts spot.UnaryOperand = (refl, tt)
parts spot.Postfix = (refl, tt)
parts spot.PostfixOp = (tt, (tt, (tt, (tt, tt))))
parts spot.PostfixIndex = (refl, tt)
parts spot.PostfixClose = (tt, tt)
parts spot.PostfixFirst = (refl, (tt, tt))
parts spot.PostfixMore = (tt, (tt, tt))
parts spot.PostfixNext = (refl, tt)
parts spot.PostfixMember = (tt, tt)
parts spot.Prim = (tt, (tt, (tt, tt)))
parts spot.PrimInner = (refl, tt)

part_among : (s : Spot) (i : Item) (t : Spot) (ts : List (Item × Spot)) → AllParts s ts → Among i t ts → PartItem s i
part_among s i t [] a m = absurd m
part_among s i t (x ∷ ts) a m = ⊎_elim (λ k. subst (λ j. PartItem s j) k.0 a.0) (λ k. part_among s i t ts a.1 k) m

taken_lighter : (s : Spot) (i : Item) (t : Spot) → Among i t (steps s) → IsLighter (goal.At s) (taken i t)
taken_lighter s (item.Word w) t m = λ gs. omega (arith, leb-true (heft_at t) 100 (light_at t))
taken_lighter s (item.Kind k) t m = λ gs. omega (arith, leb-true (heft_at t) 100 (light_at t))
taken_lighter s (item.Part c) t m = λ gs. omega (arith, leb-true (heft_read c + 3) (heft_at s) (part_among s (item.Part c) t (steps s) (parts s) m))

ending : (s : Spot) → may_end s ≡ true → heft_at s ≡ 100
ending spot.Done e = refl
ending spot.Ending e = cc e
ending spot.Closing e = cc e
ending spot.Clause e = cc e
ending spot.Unit e = cc e
ending spot.UnitMore e = refl
ending spot.Pragma e = cc e
ending spot.Declaration e = cc e
ending spot.DeclarationFirst e = cc e
ending spot.DeclarationMore e = cc e
ending spot.DeclarationNext e = cc e
ending spot.Function e = cc e
ending spot.FunctionCallee e = cc e
ending spot.FunctionParams e = cc e
ending spot.FunctionBody e = cc e
ending spot.Specs e = cc e
ending spot.SpecsMore e = refl
ending spot.Struct e = cc e
ending spot.StructName e = cc e
ending spot.StructBody e = refl
ending spot.StructFirst e = cc e
ending spot.StructMore e = cc e
ending spot.Member e = cc e
ending spot.MemberNext e = cc e
ending spot.MemberMore e = cc e
ending spot.Declr e = cc e
ending spot.DeclrStars e = cc e
ending spot.DeclrBounds e = refl
ending spot.DeclrBound e = cc e
ending spot.DeclrClose e = cc e
ending spot.Callee e = cc e
ending spot.CalleeStars e = cc e
ending spot.Dinit e = cc e
ending spot.DinitSet e = refl
ending spot.DinitInit e = cc e
ending spot.Initialisers e = cc e
ending spot.InitialisersFirst e = cc e
ending spot.InitialisersMore e = cc e
ending spot.InitialisersNext e = cc e
ending spot.Params e = cc e
ending spot.ParamsFirst e = cc e
ending spot.ParamsMore e = cc e
ending spot.ParamsNext e = cc e
ending spot.Param e = cc e
ending spot.ParamDeclr e = refl
ending spot.ParamStars e = refl
ending spot.ParamFirst e = refl
ending spot.ParamBound e = cc e
ending spot.ParamClose e = cc e
ending spot.ParamMore e = refl
ending spot.ParamNext e = cc e
ending spot.Block e = cc e
ending spot.BlockMore e = cc e
ending spot.Sub e = cc e
ending spot.If e = cc e
ending spot.IfOpen e = cc e
ending spot.IfTest e = cc e
ending spot.IfClose e = cc e
ending spot.IfThen e = cc e
ending spot.IfElse e = refl
ending spot.IfOther e = cc e
ending spot.While e = cc e
ending spot.WhileOpen e = cc e
ending spot.WhileTest e = cc e
ending spot.WhileClose e = cc e
ending spot.WhileBody e = cc e
ending spot.Do e = cc e
ending spot.DoBody e = cc e
ending spot.DoWhile e = cc e
ending spot.DoOpen e = cc e
ending spot.DoTest e = cc e
ending spot.DoClose e = cc e
ending spot.For e = cc e
ending spot.ForOpen e = cc e
ending spot.ForFirst e = cc e
ending spot.ForSecond e = cc e
ending spot.ForThird e = cc e
ending spot.ForBody e = cc e
ending spot.ForDeclaration e = cc e
ending spot.ForDeclarationNext e = cc e
ending spot.ForDeclarationMore e = cc e
ending spot.Step e = cc e
ending spot.Return e = cc e
ending spot.Break e = cc e
ending spot.Continue e = cc e
ending spot.Future e = cc e
ending spot.FuturePlace e = cc e
ending spot.FutureOpen e = cc e
ending spot.FutureFirst e = cc e
ending spot.FutureMore e = cc e
ending spot.FutureNext e = cc e
ending spot.FutureBody e = cc e
ending spot.Place e = cc e
ending spot.PlaceMore e = refl
ending spot.PlaceIndex e = cc e
ending spot.PlaceClose e = cc e
ending spot.PlaceMember e = cc e
ending spot.Comma e = cc e
ending spot.CommaOp e = cc e
ending spot.CommaRight e = cc e
ending spot.Assign e = cc e
ending spot.AssignOp e = cc e
ending spot.AssignRight e = cc e
ending spot.Cond e = cc e
ending spot.CondQuestion e = cc e
ending spot.CondThen e = cc e
ending spot.CondColon e = cc e
ending spot.CondOther e = cc e
ending (spot.Binary level) e = cc e
ending (spot.BinaryOp level) e = cc e
ending (spot.BinaryRight level) e = cc e
ending spot.Cast e = cc e
ending spot.CastSpecs e = cc e
ending spot.CastAfter e = cc e
ending spot.CastStars e = cc e
ending spot.CastOperand e = cc e
ending spot.Unary e = cc e
ending spot.UnaryStep e = cc e
ending spot.UnaryOperand e = cc e
ending spot.Postfix e = cc e
ending spot.PostfixOp e = cc e
ending spot.PostfixIndex e = cc e
ending spot.PostfixClose e = cc e
ending spot.PostfixFirst e = cc e
ending spot.PostfixMore e = cc e
ending spot.PostfixNext e = cc e
ending spot.PostfixMember e = cc e
ending spot.Prim e = cc e
ending spot.PrimInner e = cc e

ended_lighter : (s : Spot) (b : Bool) → may_end s ≡ b → IsLighter (goal.At s) (ended b)
ended_lighter s true e = λ gs. omega (arith, ending s e, load_rest gs)
ended_lighter s false e = tt

picked_lighter : (s : Spot) (w : Word) (o : Option (Item × Spot)) → picked (steps s) w ≡ o → IsLighter (goal.At s) (at_picked (may_end s) o)
picked_lighter s w None e = ended_lighter s (may_end s) refl
picked_lighter s w (Some t) e = taken_lighter s t.0 t.1 (picked_among (steps s) w t.0 t.1 e).0

begin_lighter : (r : Rule) → nat_lt (heft_at (start r)) (heft_rule r) ≡ true
begin_lighter rule.Unit = refl
begin_lighter rule.Pragma = refl
begin_lighter rule.Declaration = refl
begin_lighter rule.Function = refl
begin_lighter rule.Specs = refl
begin_lighter rule.Struct = refl
begin_lighter rule.Member = refl
begin_lighter rule.Declr = refl
begin_lighter rule.Callee = refl
begin_lighter rule.Dinit = refl
begin_lighter rule.Initialisers = refl
begin_lighter rule.Params = refl
begin_lighter rule.Param = refl
begin_lighter rule.Block = refl
begin_lighter rule.Sub = refl
begin_lighter rule.Eval = refl
begin_lighter rule.Clause = refl
begin_lighter rule.If = refl
begin_lighter rule.While = refl
begin_lighter rule.Do = refl
begin_lighter rule.For = refl
begin_lighter rule.ForDeclaration = refl
begin_lighter rule.Step = refl
begin_lighter rule.Return = refl
begin_lighter rule.Break = refl
begin_lighter rule.Continue = refl
begin_lighter rule.Future = refl
begin_lighter rule.Place = refl
begin_lighter rule.Comma = refl
begin_lighter rule.Assign = refl
begin_lighter rule.Cond = refl
begin_lighter (rule.Binary level) = refl
begin_lighter rule.Cast = refl
begin_lighter rule.Unary = refl
begin_lighter rule.Postfix = refl
begin_lighter rule.Prim = refl

begins_lighter : (r : Rule) → IsLighter (goal.Read (class.Node r)) (begin_at r)
begins_lighter r = λ gs. omega (arith, leb-true (suc (heft_at (start r))) (heft_rule r) (begin_lighter r))

item_lighter : (w : Word) → IsLighter (goal.Read class.Item) (read_item w)
item_lighter word.Pragma = λ gs. omega arith
item_lighter _ = λ gs. omega arith

declared_lighter : (b : Bool) → IsLighter (goal.Read class.BlockItem) (read_declared b)
declared_lighter true = λ gs. omega arith
declared_lighter false = λ gs. omega arith

block_lighter : (w : Word) → IsLighter (goal.Read class.BlockItem) (read_block_item w)
block_lighter word.Pragma = λ gs. omega arith
block_lighter word.Future = λ gs. omega arith
block_lighter w = declared_lighter (is_specifier w)

stmt_lighter : (w : Word) → IsLighter (goal.Read class.Stmt) (begin_at (statement w))
stmt_lighter word.If = λ gs. omega arith
stmt_lighter _ = λ gs. omega arith

init_lighter : (w : Word) → IsLighter (goal.Read class.Init) (read_init w)
init_lighter word.OpenBrace = λ gs. omega arith
init_lighter _ = λ gs. omega arith

at_lighter : (s : Strength) (w : Word) → IsLighter (goal.Read (class.At s)) (planned_read (class.At s) w)
at_lighter strength.Expr w = λ gs. omega arith
at_lighter strength.Assign w = λ gs. omega arith
at_lighter strength.Cond w = λ gs. omega arith
at_lighter (strength.Binary l) w = λ gs. omega arith
at_lighter strength.Cast w = λ gs. omega arith
at_lighter strength.Unary w = λ gs. omega arith
at_lighter strength.Postfix w = tt

read_lighter : (c : Class) (w : Word) → IsLighter (goal.Read c) (planned_read c w)
read_lighter (class.Node r) w = begins_lighter r
read_lighter class.Item w = item_lighter w
read_lighter class.BlockItem w = block_lighter w
read_lighter class.Stmt w = stmt_lighter w
read_lighter class.Init w = init_lighter w
read_lighter (class.At s) w = at_lighter s w

assignment_lighter : (u : Use) (l : Lead) → IsLighter (goal.Assignment u) (assignment u l)
assignment_lighter u lead.Atom = λ gs. omega arith
assignment_lighter u lead.Operator = λ gs. omega arith
assignment_lighter u lead.Paren = λ gs. omega arith
assignment_lighter u lead.Other = tt

open_lighter : (u : Use) (w : Word) → IsLighter (goal.AssignmentOpen u) (assignment_open u w)
open_lighter u word.Open = λ gs. omega arith
open_lighter u _ = tt

inside_lighter : (u : Use) (b : Bool) → IsLighter (goal.AssignmentInside u) (inside u b)
inside_lighter Plain true = λ gs. omega arith
inside_lighter Bracket true = λ gs. omega arith
inside_lighter u false = λ gs. omega arith

rest_lighter : (u : Use) (b : Bool) → IsLighter (goal.AssignmentRest u) (rest u b)
rest_lighter Plain true = λ gs. omega (arith, load_rest gs)
rest_lighter Bracket true = λ gs. omega (arith, load_rest gs)
rest_lighter Plain false = λ gs. omega arith
rest_lighter Bracket false = λ gs. omega arith

bracket_end_lighter : (w : Word) → IsLighter goal.BracketEnd (bracket_end w)
bracket_end_lighter word.Comma = λ gs. omega arith
bracket_end_lighter _ = λ gs. omega arith

bracket_close_lighter : (w : Word) → IsLighter goal.BracketClose (bracket_close w)
bracket_close_lighter word.CloseBracket = λ gs. omega arith
bracket_close_lighter _ = tt

operand_lighter : (l : Lead) → IsLighter goal.Operand (operand l)
operand_lighter lead.Atom = λ gs. omega arith
operand_lighter lead.Operator = λ gs. omega arith
operand_lighter lead.Paren = λ gs. omega arith
operand_lighter lead.Other = tt

operand_open_lighter : (w : Word) → IsLighter goal.OperandOpen (operand_open w)
operand_open_lighter word.Open = λ gs. omega arith
operand_open_lighter _ = tt

operand_inside_lighter : (b : Bool) → IsLighter goal.OperandInside (operand_inside b)
operand_inside_lighter true = λ gs. omega arith
operand_inside_lighter false = λ gs. omega arith

unary_lighter : (l : Lead) → IsLighter goal.Unary (unary l)
unary_lighter lead.Atom = λ gs. omega arith
unary_lighter lead.Operator = λ gs. omega arith
unary_lighter lead.Paren = λ gs. omega arith
unary_lighter lead.Other = tt

suffix_lighter : (b : Bool) → IsLighter goal.Suffix (suffix b)
suffix_lighter true = λ gs. omega arith
suffix_lighter false = λ gs. omega (arith, load_rest gs)

loose_below : (l : Level) → 3 < level_rank l → level_rank (looser l) < level_rank l
loose_below level_name.Or h = absurd (omega (arith, h))
loose_below level_name.And h = omega arith
loose_below level_name.BitOr h = omega arith
loose_below level_name.BitXor h = omega arith
loose_below level_name.BitAnd h = omega arith
loose_below level_name.Equality h = omega arith
loose_below level_name.Relation h = omega arith
loose_below level_name.Shift h = omega arith
loose_below level_name.Sum h = omega arith
loose_below level_name.Product h = omega arith

loose_step : (l k : Level) → nat_le (level_rank l) (level_rank k) ≡ false → level_rank (looser l) < level_rank l
loose_step l k e = let h = leb-false (level_rank l) (level_rank k) e in loose_below l (omega (arith, h, (lowest k).1))

tail_ends_lighter : (l k : Level) (b : Bool) → nat_le (level_rank l) (level_rank k) ≡ b → IsLighter (goal.Tail l k) (tail_ends l k b)
tail_ends_lighter l k true e = λ gs. omega (arith, load_rest gs, (lowest l).1)
tail_ends_lighter l k false e = λ gs. omega (arith, loose_step l k e)

tail_lighter : (l k : Level) (b : Bool) → IsLighter (goal.Tail l k) (tail l k b)
tail_lighter l k true = λ gs. omega (arith, (lowest l).1)
tail_lighter l k false = tail_ends_lighter l k (nat_le (level_rank l) (level_rank k)) refl

cond_lighter : (w : Word) → IsLighter goal.CondRest (cond_rest w)
cond_lighter word.Question = λ gs. omega arith
cond_lighter _ = λ gs. omega (arith, load_rest gs)

comma_lighter : (w : Word) → IsLighter goal.CommaRest (comma_rest w)
comma_lighter word.Comma = λ gs. omega arith
comma_lighter _ = λ gs. omega (arith, load_rest gs)

item_rest_lighter : (w : Word) → IsLighter goal.ItemRest (item_rest w)
item_rest_lighter word.Semicolon = λ gs. omega arith
item_rest_lighter _ = λ gs. omega arith

item_declr_lighter : (w : Word) → IsLighter goal.ItemDeclr (item_declr w)
item_declr_lighter word.Star = λ gs. omega arith
item_declr_lighter word.Name = λ gs. omega arith
item_declr_lighter _ = tt

qualifier_lighter : (b : Bool) → IsLighter goal.ItemStars (item_qualifier b)
qualifier_lighter true = λ gs. omega arith
qualifier_lighter false = tt

item_stars_lighter : (w : Word) → IsLighter goal.ItemStars (item_stars w)
item_stars_lighter word.Star = λ gs. omega arith
item_stars_lighter word.Name = λ gs. omega arith
item_stars_lighter w = qualifier_lighter (is_qualifier w)

item_name_lighter : (w : Word) → IsLighter goal.ItemName (item_name w)
item_name_lighter word.Open = λ gs. omega arith
item_name_lighter _ = λ gs. omega arith

future_word_lighter : (w : Word) → IsLighter goal.FutureWord (future_word w)
future_word_lighter word.Future = λ gs. omega arith
future_word_lighter _ = tt

future_next_lighter : (w : Word) → IsLighter goal.FutureNext (future_next w)
future_next_lighter word.Name = λ gs. omega arith
future_next_lighter _ = λ gs. omega arith

future_name_lighter : (w : Word) → IsLighter goal.FutureName (future_name w)
future_name_lighter word.Name = λ gs. omega arith
future_name_lighter _ = tt

future_rest_lighter : (w : Word) → IsLighter goal.FutureRest (future_rest w)
future_rest_lighter word.OpenBracket = λ gs. omega arith
future_rest_lighter word.Open = λ gs. omega arith
future_rest_lighter (word.Access x) = λ gs. omega arith
future_rest_lighter _ = λ gs. omega arith

pub lighter : (g : Goal) (w : Word) → IsLighter g (planned g w)
lighter (goal.At s) w = picked_lighter s w (picked (steps s) w) refl
lighter (goal.Read c) w = read_lighter c w
lighter goal.Join w = λ gs. omega (arith, load_rest gs)
lighter (goal.Assignment u) w = assignment_lighter u (opening w)
lighter (goal.AssignmentOpen u) w = open_lighter u w
lighter (goal.AssignmentInside u) w = inside_lighter u (is_specifier w)
lighter (goal.AssignmentRest u) w = rest_lighter u (of_kind kind.Assignment w)
lighter goal.BracketEnd w = bracket_end_lighter w
lighter goal.BracketClose w = bracket_close_lighter w
lighter goal.Operand w = operand_lighter (opening w)
lighter goal.OperandOpen w = operand_open_lighter w
lighter goal.OperandInside w = operand_inside_lighter (is_specifier w)
lighter goal.Unary w = unary_lighter (opening w)
lighter goal.Suffix w = suffix_lighter (is_suffix w)
lighter (goal.Tail l k) w = tail_lighter l k (of_kind (kind.Operator l) w)
lighter goal.CondRest w = cond_lighter w
lighter goal.CommaRest w = comma_lighter w
lighter goal.ItemRest w = item_rest_lighter w
lighter goal.ItemDeclr w = item_declr_lighter w
lighter goal.ItemStars w = item_stars_lighter w
lighter goal.ItemName w = item_name_lighter w
lighter goal.FutureWord w = future_word_lighter w
lighter goal.FutureNext w = future_next_lighter w
lighter goal.FutureName w = future_name_lighter w
lighter goal.FutureRest w = future_rest_lighter w
