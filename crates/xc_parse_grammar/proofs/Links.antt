-- The places of the parser are the places of the grammar: what is left of a rule at each of them.
use Rattle.std.proofs.Common.{◌≡◌, List, [], ◌∷◌, true, refl, sym, ap, ◌∙◌, subst}
use mathlib.Core.Logic.{inl, inr, ⊎_elim}
use Rattle.xc_raw.specs.declared.word.Word.TheVariants as word
use Rattle.xc_raw.specs.declared.rule.Rule.{Rule}
use Rattle.xc_raw.specs.declared.rule.Rule.TheVariants as rule
use Rattle.xc_raw.specs.declared.rule.Level.TheVariants as level_name
use Rattle.xc_parse_grammar.specs.declared.marks.Strength.TheVariants as strength
use Rattle.xc_parse_grammar.specs.declared.marks.Kind.TheVariants as kind
use Rattle.xc_parse_grammar.specs.declared.marks.Item.{Item}
use Rattle.xc_parse_grammar.specs.declared.marks.Item.TheVariants as item
use Rattle.xc_parse_grammar.specs.declared.spots.Spot.{Spot}
use Rattle.xc_parse_grammar.specs.declared.spots.Spot.TheVariants as spot
use Rattle.xc_parse_grammar.specs.Marks.{tighter}
use Rattle.xc_parse_grammar.specs.Grammar.{Form, leaf, begin, ◌▹◌, Pattern, nothing, ◌⋅◌, ◌∣◌, opt, many, listed, listed_more, listed_next, token, any, node, at, expr, assign, cond, cast, unary, postfix, file_item, block_item, stmt, init, init_item, rule_of, may_be_over, firsts, Among, Fits, Nearest, Begun, Whole}
use Rattle.xc_parse_grammar.specs.Spots.{steps, may_end, start}

-- what is left of the rule at a place
abbrev pub left : Spot → Pattern
left spot.Done = nothing
left spot.Ending = token word.Semicolon
left spot.Closing = token word.Close
left spot.Clause = opt expr ⋅ token word.Semicolon
left spot.Unit = file_item ⋅ many file_item
left spot.UnitMore = many file_item
left spot.Pragma = token word.Pragma
left spot.Declaration = node rule.Specs ⋅ opt (node rule.Dinit ⋅ many (token word.Comma ⋅ node rule.Dinit)) ⋅ token word.Semicolon
left spot.DeclarationFirst = opt (node rule.Dinit ⋅ many (token word.Comma ⋅ node rule.Dinit)) ⋅ token word.Semicolon
left spot.DeclarationMore = many (token word.Comma ⋅ node rule.Dinit) ⋅ token word.Semicolon
left spot.DeclarationNext = node rule.Dinit ⋅ many (token word.Comma ⋅ node rule.Dinit) ⋅ token word.Semicolon
left spot.Function = node rule.Specs ⋅ node rule.Callee ⋅ node rule.Params ⋅ (token word.Semicolon ∣ node rule.Block)
left spot.FunctionCallee = node rule.Callee ⋅ node rule.Params ⋅ (token word.Semicolon ∣ node rule.Block)
left spot.FunctionParams = node rule.Params ⋅ (token word.Semicolon ∣ node rule.Block)
left spot.FunctionBody = token word.Semicolon ∣ node rule.Block
left spot.Specs = (any kind.Specifier ∣ node rule.Struct) ⋅ many (any kind.Specifier ∣ node rule.Struct)
left spot.SpecsMore = many (any kind.Specifier ∣ node rule.Struct)
left spot.Struct = token word.Struct ⋅ token word.Name ⋅ opt (token word.OpenBrace ⋅ node rule.Member ⋅ many (node rule.Member) ⋅ token word.CloseBrace)
left spot.StructName = token word.Name ⋅ opt (token word.OpenBrace ⋅ node rule.Member ⋅ many (node rule.Member) ⋅ token word.CloseBrace)
left spot.StructBody = opt (token word.OpenBrace ⋅ node rule.Member ⋅ many (node rule.Member) ⋅ token word.CloseBrace)
left spot.StructFirst = node rule.Member ⋅ many (node rule.Member) ⋅ token word.CloseBrace
left spot.StructMore = many (node rule.Member) ⋅ token word.CloseBrace
left spot.Member = node rule.Specs ⋅ node rule.Declr ⋅ many (token word.Comma ⋅ node rule.Declr) ⋅ token word.Semicolon
left spot.MemberNext = node rule.Declr ⋅ many (token word.Comma ⋅ node rule.Declr) ⋅ token word.Semicolon
left spot.MemberMore = many (token word.Comma ⋅ node rule.Declr) ⋅ token word.Semicolon
left spot.Declr = many (token word.Star ⋅ many (any kind.Qualifier)) ⋅ token word.Name ⋅ many (token word.OpenBracket ⋅ cond ⋅ token word.CloseBracket)
left spot.DeclrStars = many (any kind.Qualifier) ⋅ many (token word.Star ⋅ many (any kind.Qualifier)) ⋅ token word.Name ⋅ many (token word.OpenBracket ⋅ cond ⋅ token word.CloseBracket)
left spot.DeclrBounds = many (token word.OpenBracket ⋅ cond ⋅ token word.CloseBracket)
left spot.DeclrBound = cond ⋅ token word.CloseBracket ⋅ many (token word.OpenBracket ⋅ cond ⋅ token word.CloseBracket)
left spot.DeclrClose = token word.CloseBracket ⋅ many (token word.OpenBracket ⋅ cond ⋅ token word.CloseBracket)
left spot.Callee = many (token word.Star ⋅ many (any kind.Qualifier)) ⋅ token word.Name
left spot.CalleeStars = many (any kind.Qualifier) ⋅ many (token word.Star ⋅ many (any kind.Qualifier)) ⋅ token word.Name
left spot.Dinit = node rule.Declr ⋅ opt (token word.Set ⋅ init)
left spot.DinitSet = opt (token word.Set ⋅ init)
left spot.DinitInit = init
left spot.Initialisers = token word.OpenBrace ⋅ listed init_item ⋅ token word.CloseBrace
left spot.InitialisersFirst = listed init_item ⋅ token word.CloseBrace
left spot.InitialisersMore = listed_more init_item ⋅ token word.CloseBrace
left spot.InitialisersNext = listed_next init_item ⋅ token word.CloseBrace
left spot.Params = token word.Open ⋅ opt (node rule.Param ⋅ many (token word.Comma ⋅ node rule.Param)) ⋅ token word.Close
left spot.ParamsFirst = opt (node rule.Param ⋅ many (token word.Comma ⋅ node rule.Param)) ⋅ token word.Close
left spot.ParamsMore = many (token word.Comma ⋅ node rule.Param) ⋅ token word.Close
left spot.ParamsNext = node rule.Param ⋅ many (token word.Comma ⋅ node rule.Param) ⋅ token word.Close
left spot.Param = node rule.Specs ⋅ many (token word.Star ⋅ many (any kind.Qualifier)) ⋅ opt (token word.Name) ⋅ opt (token word.OpenBracket ⋅ opt cond ⋅ token word.CloseBracket ⋅ many (token word.OpenBracket ⋅ cond ⋅ token word.CloseBracket))
left spot.ParamDeclr = many (token word.Star ⋅ many (any kind.Qualifier)) ⋅ opt (token word.Name) ⋅ opt (token word.OpenBracket ⋅ opt cond ⋅ token word.CloseBracket ⋅ many (token word.OpenBracket ⋅ cond ⋅ token word.CloseBracket))
left spot.ParamStars = many (any kind.Qualifier) ⋅ many (token word.Star ⋅ many (any kind.Qualifier)) ⋅ opt (token word.Name) ⋅ opt (token word.OpenBracket ⋅ opt cond ⋅ token word.CloseBracket ⋅ many (token word.OpenBracket ⋅ cond ⋅ token word.CloseBracket))
left spot.ParamFirst = opt (token word.OpenBracket ⋅ opt cond ⋅ token word.CloseBracket ⋅ many (token word.OpenBracket ⋅ cond ⋅ token word.CloseBracket))
left spot.ParamBound = opt cond ⋅ token word.CloseBracket ⋅ many (token word.OpenBracket ⋅ cond ⋅ token word.CloseBracket)
left spot.ParamClose = token word.CloseBracket ⋅ many (token word.OpenBracket ⋅ cond ⋅ token word.CloseBracket)
left spot.ParamMore = many (token word.OpenBracket ⋅ cond ⋅ token word.CloseBracket)
left spot.ParamNext = cond ⋅ token word.CloseBracket ⋅ many (token word.OpenBracket ⋅ cond ⋅ token word.CloseBracket)
left spot.Block = token word.OpenBrace ⋅ many block_item ⋅ token word.CloseBrace
left spot.BlockMore = many block_item ⋅ token word.CloseBrace
left spot.Sub = many (node rule.Pragma) ⋅ stmt
left spot.If = token word.If ⋅ token word.Open ⋅ expr ⋅ token word.Close ⋅ node rule.Sub ⋅ opt (token word.Else ⋅ node rule.Sub)
left spot.IfOpen = token word.Open ⋅ expr ⋅ token word.Close ⋅ node rule.Sub ⋅ opt (token word.Else ⋅ node rule.Sub)
left spot.IfTest = expr ⋅ token word.Close ⋅ node rule.Sub ⋅ opt (token word.Else ⋅ node rule.Sub)
left spot.IfClose = token word.Close ⋅ node rule.Sub ⋅ opt (token word.Else ⋅ node rule.Sub)
left spot.IfThen = node rule.Sub ⋅ opt (token word.Else ⋅ node rule.Sub)
left spot.IfElse = opt (token word.Else ⋅ node rule.Sub)
left spot.IfOther = node rule.Sub
left spot.While = token word.While ⋅ token word.Open ⋅ expr ⋅ token word.Close ⋅ node rule.Sub
left spot.WhileOpen = token word.Open ⋅ expr ⋅ token word.Close ⋅ node rule.Sub
left spot.WhileTest = expr ⋅ token word.Close ⋅ node rule.Sub
left spot.WhileClose = token word.Close ⋅ node rule.Sub
left spot.WhileBody = node rule.Sub
left spot.Do = token word.Do ⋅ node rule.Sub ⋅ token word.While ⋅ token word.Open ⋅ expr ⋅ token word.Close ⋅ token word.Semicolon
left spot.DoBody = node rule.Sub ⋅ token word.While ⋅ token word.Open ⋅ expr ⋅ token word.Close ⋅ token word.Semicolon
left spot.DoWhile = token word.While ⋅ token word.Open ⋅ expr ⋅ token word.Close ⋅ token word.Semicolon
left spot.DoOpen = token word.Open ⋅ expr ⋅ token word.Close ⋅ token word.Semicolon
left spot.DoTest = expr ⋅ token word.Close ⋅ token word.Semicolon
left spot.DoClose = token word.Close ⋅ token word.Semicolon
left spot.For = token word.For ⋅ token word.Open ⋅ (node rule.ForDeclaration ∣ node rule.Clause) ⋅ node rule.Clause ⋅ node rule.Step ⋅ node rule.Sub
left spot.ForOpen = token word.Open ⋅ (node rule.ForDeclaration ∣ node rule.Clause) ⋅ node rule.Clause ⋅ node rule.Step ⋅ node rule.Sub
left spot.ForFirst = (node rule.ForDeclaration ∣ node rule.Clause) ⋅ node rule.Clause ⋅ node rule.Step ⋅ node rule.Sub
left spot.ForSecond = node rule.Clause ⋅ node rule.Step ⋅ node rule.Sub
left spot.ForThird = node rule.Step ⋅ node rule.Sub
left spot.ForBody = node rule.Sub
left spot.ForDeclaration = node rule.Specs ⋅ node rule.Dinit ⋅ many (token word.Comma ⋅ node rule.Dinit) ⋅ token word.Semicolon
left spot.ForDeclarationNext = node rule.Dinit ⋅ many (token word.Comma ⋅ node rule.Dinit) ⋅ token word.Semicolon
left spot.ForDeclarationMore = many (token word.Comma ⋅ node rule.Dinit) ⋅ token word.Semicolon
left spot.Step = opt expr ⋅ token word.Close
left spot.Return = token word.Return ⋅ opt expr ⋅ token word.Semicolon
left spot.Break = token word.Break ⋅ token word.Semicolon
left spot.Continue = token word.Continue ⋅ token word.Semicolon
left spot.Future = token word.Future ⋅ node rule.Place ⋅ token word.Open ⋅ opt (token word.Name ⋅ many (token word.Comma ⋅ token word.Name)) ⋅ token word.Close ⋅ node rule.Block
left spot.FuturePlace = node rule.Place ⋅ token word.Open ⋅ opt (token word.Name ⋅ many (token word.Comma ⋅ token word.Name)) ⋅ token word.Close ⋅ node rule.Block
left spot.FutureOpen = token word.Open ⋅ opt (token word.Name ⋅ many (token word.Comma ⋅ token word.Name)) ⋅ token word.Close ⋅ node rule.Block
left spot.FutureFirst = opt (token word.Name ⋅ many (token word.Comma ⋅ token word.Name)) ⋅ token word.Close ⋅ node rule.Block
left spot.FutureMore = many (token word.Comma ⋅ token word.Name) ⋅ token word.Close ⋅ node rule.Block
left spot.FutureNext = token word.Name ⋅ many (token word.Comma ⋅ token word.Name) ⋅ token word.Close ⋅ node rule.Block
left spot.FutureBody = node rule.Block
left spot.Place = token word.Name ⋅ many (token word.OpenBracket ⋅ expr ⋅ token word.CloseBracket ∣ any kind.Access ⋅ token word.Name)
left spot.PlaceMore = many (token word.OpenBracket ⋅ expr ⋅ token word.CloseBracket ∣ any kind.Access ⋅ token word.Name)
left spot.PlaceIndex = expr ⋅ token word.CloseBracket ⋅ many (token word.OpenBracket ⋅ expr ⋅ token word.CloseBracket ∣ any kind.Access ⋅ token word.Name)
left spot.PlaceClose = token word.CloseBracket ⋅ many (token word.OpenBracket ⋅ expr ⋅ token word.CloseBracket ∣ any kind.Access ⋅ token word.Name)
left spot.PlaceMember = token word.Name ⋅ many (token word.OpenBracket ⋅ expr ⋅ token word.CloseBracket ∣ any kind.Access ⋅ token word.Name)
left spot.Comma = expr ⋅ token word.Comma ⋅ assign
left spot.CommaOp = token word.Comma ⋅ assign
left spot.CommaRight = assign
left spot.Assign = unary ⋅ any kind.Assignment ⋅ assign
left spot.AssignOp = any kind.Assignment ⋅ assign
left spot.AssignRight = assign
left spot.Cond = at (strength.Binary level_name.Or) ⋅ token word.Question ⋅ expr ⋅ token word.Colon ⋅ cond
left spot.CondQuestion = token word.Question ⋅ expr ⋅ token word.Colon ⋅ cond
left spot.CondThen = expr ⋅ token word.Colon ⋅ cond
left spot.CondColon = token word.Colon ⋅ cond
left spot.CondOther = cond
left (spot.Binary level) = at (strength.Binary level) ⋅ any (kind.Operator level) ⋅ at (tighter level)
left (spot.BinaryOp level) = any (kind.Operator level) ⋅ at (tighter level)
left (spot.BinaryRight level) = at (tighter level)
left spot.Cast = token word.Open ⋅ node rule.Specs ⋅ many (token word.Star ⋅ many (any kind.Qualifier)) ⋅ token word.Close ⋅ cast
left spot.CastSpecs = node rule.Specs ⋅ many (token word.Star ⋅ many (any kind.Qualifier)) ⋅ token word.Close ⋅ cast
left spot.CastAfter = many (token word.Star ⋅ many (any kind.Qualifier)) ⋅ token word.Close ⋅ cast
left spot.CastStars = many (any kind.Qualifier) ⋅ many (token word.Star ⋅ many (any kind.Qualifier)) ⋅ token word.Close ⋅ cast
left spot.CastOperand = cast
left spot.Unary = any kind.Step ⋅ unary ∣ any kind.Prefix ⋅ cast
left spot.UnaryStep = unary
left spot.UnaryOperand = cast
left spot.Postfix = postfix ⋅ (token word.OpenBracket ⋅ expr ⋅ token word.CloseBracket ∣ token word.Open ⋅ opt (assign ⋅ many (token word.Comma ⋅ assign)) ⋅ token word.Close ∣ any kind.Access ⋅ token word.Name ∣ any kind.Step)
left spot.PostfixOp = token word.OpenBracket ⋅ expr ⋅ token word.CloseBracket ∣ token word.Open ⋅ opt (assign ⋅ many (token word.Comma ⋅ assign)) ⋅ token word.Close ∣ any kind.Access ⋅ token word.Name ∣ any kind.Step
left spot.PostfixIndex = expr ⋅ token word.CloseBracket
left spot.PostfixClose = token word.CloseBracket
left spot.PostfixFirst = opt (assign ⋅ many (token word.Comma ⋅ assign)) ⋅ token word.Close
left spot.PostfixMore = many (token word.Comma ⋅ assign) ⋅ token word.Close
left spot.PostfixNext = assign ⋅ many (token word.Comma ⋅ assign) ⋅ token word.Close
left spot.PostfixMember = token word.Name
left spot.Prim = token word.Name ∣ any kind.Literal ∣ token word.Open ⋅ expr ⋅ token word.Close
left spot.PrimInner = expr ⋅ token word.Close

abbrev lefts : List (Item × Spot) → List (Item × Pattern)
lefts [] = []
lefts (t ∷ ts) = (t.0, left t.1) ∷ lefts ts

firsts_are : (s : Spot) → firsts (left s) ≡ lefts (steps s)
firsts_are spot.Done = refl
firsts_are spot.Ending = refl
firsts_are spot.Closing = refl
firsts_are spot.Clause = refl
firsts_are spot.Unit = refl
firsts_are spot.UnitMore = refl
firsts_are spot.Pragma = refl
firsts_are spot.Declaration = refl
firsts_are spot.DeclarationFirst = refl
firsts_are spot.DeclarationMore = refl
firsts_are spot.DeclarationNext = refl
firsts_are spot.Function = refl
firsts_are spot.FunctionCallee = refl
firsts_are spot.FunctionParams = refl
firsts_are spot.FunctionBody = refl
firsts_are spot.Specs = refl
firsts_are spot.SpecsMore = refl
firsts_are spot.Struct = refl
firsts_are spot.StructName = refl
firsts_are spot.StructBody = refl
firsts_are spot.StructFirst = refl
firsts_are spot.StructMore = refl
firsts_are spot.Member = refl
firsts_are spot.MemberNext = refl
firsts_are spot.MemberMore = refl
firsts_are spot.Declr = refl
firsts_are spot.DeclrStars = refl
firsts_are spot.DeclrBounds = refl
firsts_are spot.DeclrBound = refl
firsts_are spot.DeclrClose = refl
firsts_are spot.Callee = refl
firsts_are spot.CalleeStars = refl
firsts_are spot.Dinit = refl
firsts_are spot.DinitSet = refl
firsts_are spot.DinitInit = refl
firsts_are spot.Initialisers = refl
firsts_are spot.InitialisersFirst = refl
firsts_are spot.InitialisersMore = refl
firsts_are spot.InitialisersNext = refl
firsts_are spot.Params = refl
firsts_are spot.ParamsFirst = refl
firsts_are spot.ParamsMore = refl
firsts_are spot.ParamsNext = refl
firsts_are spot.Param = refl
firsts_are spot.ParamDeclr = refl
firsts_are spot.ParamStars = refl
firsts_are spot.ParamFirst = refl
firsts_are spot.ParamBound = refl
firsts_are spot.ParamClose = refl
firsts_are spot.ParamMore = refl
firsts_are spot.ParamNext = refl
firsts_are spot.Block = refl
firsts_are spot.BlockMore = refl
firsts_are spot.Sub = refl
firsts_are spot.If = refl
firsts_are spot.IfOpen = refl
firsts_are spot.IfTest = refl
firsts_are spot.IfClose = refl
firsts_are spot.IfThen = refl
firsts_are spot.IfElse = refl
firsts_are spot.IfOther = refl
firsts_are spot.While = refl
firsts_are spot.WhileOpen = refl
firsts_are spot.WhileTest = refl
firsts_are spot.WhileClose = refl
firsts_are spot.WhileBody = refl
firsts_are spot.Do = refl
firsts_are spot.DoBody = refl
firsts_are spot.DoWhile = refl
firsts_are spot.DoOpen = refl
firsts_are spot.DoTest = refl
firsts_are spot.DoClose = refl
firsts_are spot.For = refl
firsts_are spot.ForOpen = refl
firsts_are spot.ForFirst = refl
firsts_are spot.ForSecond = refl
firsts_are spot.ForThird = refl
firsts_are spot.ForBody = refl
firsts_are spot.ForDeclaration = refl
firsts_are spot.ForDeclarationNext = refl
firsts_are spot.ForDeclarationMore = refl
firsts_are spot.Step = refl
firsts_are spot.Return = refl
firsts_are spot.Break = refl
firsts_are spot.Continue = refl
firsts_are spot.Future = refl
firsts_are spot.FuturePlace = refl
firsts_are spot.FutureOpen = refl
firsts_are spot.FutureFirst = refl
firsts_are spot.FutureMore = refl
firsts_are spot.FutureNext = refl
firsts_are spot.FutureBody = refl
firsts_are spot.Place = refl
firsts_are spot.PlaceMore = refl
firsts_are spot.PlaceIndex = refl
firsts_are spot.PlaceClose = refl
firsts_are spot.PlaceMember = refl
firsts_are spot.Comma = refl
firsts_are spot.CommaOp = refl
firsts_are spot.CommaRight = refl
firsts_are spot.Assign = refl
firsts_are spot.AssignOp = refl
firsts_are spot.AssignRight = refl
firsts_are spot.Cond = refl
firsts_are spot.CondQuestion = refl
firsts_are spot.CondThen = refl
firsts_are spot.CondColon = refl
firsts_are spot.CondOther = refl
firsts_are (spot.Binary level) = refl
firsts_are (spot.BinaryOp level) = refl
firsts_are (spot.BinaryRight level) = refl
firsts_are spot.Cast = refl
firsts_are spot.CastSpecs = refl
firsts_are spot.CastAfter = refl
firsts_are spot.CastStars = refl
firsts_are spot.CastOperand = refl
firsts_are spot.Unary = refl
firsts_are spot.UnaryStep = refl
firsts_are spot.UnaryOperand = refl
firsts_are spot.Postfix = refl
firsts_are spot.PostfixOp = refl
firsts_are spot.PostfixIndex = refl
firsts_are spot.PostfixClose = refl
firsts_are spot.PostfixFirst = refl
firsts_are spot.PostfixMore = refl
firsts_are spot.PostfixNext = refl
firsts_are spot.PostfixMember = refl
firsts_are spot.Prim = refl
firsts_are spot.PrimInner = refl

over_is : (s : Spot) → may_be_over (left s) ≡ may_end s
over_is spot.Done = refl
over_is spot.Ending = refl
over_is spot.Closing = refl
over_is spot.Clause = refl
over_is spot.Unit = refl
over_is spot.UnitMore = refl
over_is spot.Pragma = refl
over_is spot.Declaration = refl
over_is spot.DeclarationFirst = refl
over_is spot.DeclarationMore = refl
over_is spot.DeclarationNext = refl
over_is spot.Function = refl
over_is spot.FunctionCallee = refl
over_is spot.FunctionParams = refl
over_is spot.FunctionBody = refl
over_is spot.Specs = refl
over_is spot.SpecsMore = refl
over_is spot.Struct = refl
over_is spot.StructName = refl
over_is spot.StructBody = refl
over_is spot.StructFirst = refl
over_is spot.StructMore = refl
over_is spot.Member = refl
over_is spot.MemberNext = refl
over_is spot.MemberMore = refl
over_is spot.Declr = refl
over_is spot.DeclrStars = refl
over_is spot.DeclrBounds = refl
over_is spot.DeclrBound = refl
over_is spot.DeclrClose = refl
over_is spot.Callee = refl
over_is spot.CalleeStars = refl
over_is spot.Dinit = refl
over_is spot.DinitSet = refl
over_is spot.DinitInit = refl
over_is spot.Initialisers = refl
over_is spot.InitialisersFirst = refl
over_is spot.InitialisersMore = refl
over_is spot.InitialisersNext = refl
over_is spot.Params = refl
over_is spot.ParamsFirst = refl
over_is spot.ParamsMore = refl
over_is spot.ParamsNext = refl
over_is spot.Param = refl
over_is spot.ParamDeclr = refl
over_is spot.ParamStars = refl
over_is spot.ParamFirst = refl
over_is spot.ParamBound = refl
over_is spot.ParamClose = refl
over_is spot.ParamMore = refl
over_is spot.ParamNext = refl
over_is spot.Block = refl
over_is spot.BlockMore = refl
over_is spot.Sub = refl
over_is spot.If = refl
over_is spot.IfOpen = refl
over_is spot.IfTest = refl
over_is spot.IfClose = refl
over_is spot.IfThen = refl
over_is spot.IfElse = refl
over_is spot.IfOther = refl
over_is spot.While = refl
over_is spot.WhileOpen = refl
over_is spot.WhileTest = refl
over_is spot.WhileClose = refl
over_is spot.WhileBody = refl
over_is spot.Do = refl
over_is spot.DoBody = refl
over_is spot.DoWhile = refl
over_is spot.DoOpen = refl
over_is spot.DoTest = refl
over_is spot.DoClose = refl
over_is spot.For = refl
over_is spot.ForOpen = refl
over_is spot.ForFirst = refl
over_is spot.ForSecond = refl
over_is spot.ForThird = refl
over_is spot.ForBody = refl
over_is spot.ForDeclaration = refl
over_is spot.ForDeclarationNext = refl
over_is spot.ForDeclarationMore = refl
over_is spot.Step = refl
over_is spot.Return = refl
over_is spot.Break = refl
over_is spot.Continue = refl
over_is spot.Future = refl
over_is spot.FuturePlace = refl
over_is spot.FutureOpen = refl
over_is spot.FutureFirst = refl
over_is spot.FutureMore = refl
over_is spot.FutureNext = refl
over_is spot.FutureBody = refl
over_is spot.Place = refl
over_is spot.PlaceMore = refl
over_is spot.PlaceIndex = refl
over_is spot.PlaceClose = refl
over_is spot.PlaceMember = refl
over_is spot.Comma = refl
over_is spot.CommaOp = refl
over_is spot.CommaRight = refl
over_is spot.Assign = refl
over_is spot.AssignOp = refl
over_is spot.AssignRight = refl
over_is spot.Cond = refl
over_is spot.CondQuestion = refl
over_is spot.CondThen = refl
over_is spot.CondColon = refl
over_is spot.CondOther = refl
over_is (spot.Binary level) = refl
over_is (spot.BinaryOp level) = refl
over_is (spot.BinaryRight level) = refl
over_is spot.Cast = refl
over_is spot.CastSpecs = refl
over_is spot.CastAfter = refl
over_is spot.CastStars = refl
over_is spot.CastOperand = refl
over_is spot.Unary = refl
over_is spot.UnaryStep = refl
over_is spot.UnaryOperand = refl
over_is spot.Postfix = refl
over_is spot.PostfixOp = refl
over_is spot.PostfixIndex = refl
over_is spot.PostfixClose = refl
over_is spot.PostfixFirst = refl
over_is spot.PostfixMore = refl
over_is spot.PostfixNext = refl
over_is spot.PostfixMember = refl
over_is spot.Prim = refl
over_is spot.PrimInner = refl

start_is : (r : Rule) → left (start r) ≡ rule_of r
start_is rule.Unit = refl
start_is rule.Pragma = refl
start_is rule.Declaration = refl
start_is rule.Function = refl
start_is rule.Specs = refl
start_is rule.Struct = refl
start_is rule.Member = refl
start_is rule.Declr = refl
start_is rule.Callee = refl
start_is rule.Dinit = refl
start_is rule.Initialisers = refl
start_is rule.Params = refl
start_is rule.Param = refl
start_is rule.Block = refl
start_is rule.Sub = refl
start_is rule.Eval = refl
start_is rule.Clause = refl
start_is rule.If = refl
start_is rule.While = refl
start_is rule.Do = refl
start_is rule.For = refl
start_is rule.ForDeclaration = refl
start_is rule.Step = refl
start_is rule.Return = refl
start_is rule.Break = refl
start_is rule.Continue = refl
start_is rule.Future = refl
start_is rule.Place = refl
start_is rule.Comma = refl
start_is rule.Assign = refl
start_is rule.Cond = refl
start_is (rule.Binary level) = refl
start_is rule.Cast = refl
start_is rule.Unary = refl
start_is rule.Postfix = refl
start_is rule.Prim = refl

-- the last step of a node, by the parser's places
pub record SpotStep (before whole : Spot → Type 0) (f g : Form) (s : Spot) : Type 0 where
  pub from : Spot
  pub item : Item
  pub begun : before from
  pub allowed : Among item s (steps from)
  pub fits : Fits item g ((end : Spot) × whole end × (may_end end ≡ true))
  pub nearest : Nearest f g

-- the node begins as its rule does up to the place
abbrev pub Spotted : Form → Spot → Type 0
Spotted (leaf w) s = ⊥
Spotted (begin r) s = s ≡ start r
Spotted (f ▹ g) s = SpotStep (Spotted f) (Spotted g) f g s

abbrev pub Complete : Form → Type 0
Complete f = (end : Spot) × Spotted f end × (may_end end ≡ true)

refit : (i : Item) (g : Form) (A B : Type 0) → (A → B) → Fits i g A → Fits i g B
refit (item.Part c) g A B k h = (k h.0, h.1)
refit (item.Word w) g A B k h = h
refit (item.Kind x) g A B k h = h

among_left : (ts : List (Item × Spot)) (i : Item) (s : Spot) → Among i s ts → Among i (left s) (lefts ts)
among_left [] i s m = absurd m
among_left (t ∷ ts) i s m = ⊎_elim (λ h. inl (h.0, ap left h.1)) (λ h. inr (among_left ts i s h)) m

among_spot : (ts : List (Item × Spot)) (i : Item) (e : Pattern) → Among i e (lefts ts) → (s : Spot) × (left s ≡ e) × Among i s ts
among_spot [] i e m = absurd m
among_spot (t ∷ ts) i e m = ⊎_elim (λ h. (t.1, h.1, inl (h.0, refl))) (λ h. let r = among_spot ts i e h in (r.0, r.1, inr r.2)) m

-- what is read by the parser's places is of the grammar
pub to_begun : (f : Form) (s : Spot) → Spotted f s → Begun f (left s)
to_begun (leaf w) s h = absurd h
to_begun (begin r) s h = ap left h ∙ start_is r
to_begun (f ▹ g) s h = record {
  from = left h.from;
  item = h.item;
  begun = to_begun f h.from h.begun;
  allowed = subst (λ ms. Among h.item (left s) ms) (sym (firsts_are h.from)) (among_left (steps h.from) h.item s h.allowed);
  fits = refit h.item g _ _ (λ c. (left c.0, to_begun g c.0 c.1, over_is c.0 ∙ c.2)) h.fits;
  nearest = h.nearest;
}

-- and the other way round
pub to_spotted : (f : Form) (e : Pattern) → Begun f e → (s : Spot) × (left s ≡ e) × Spotted f s
to_spotted (leaf w) e h = absurd h
to_spotted (begin r) e h = (start r, start_is r ∙ sym h, refl)
to_spotted (f ▹ g) e h =
    let b = to_spotted f h.from h.begun in
    let m : Among h.item e (lefts (steps b.0)) = subst (λ ms. Among h.item e ms) (ap firsts (sym b.1) ∙ firsts_are b.0) h.allowed in
    let a = among_spot (steps b.0) h.item e m in (
      a.0,
      a.1,
      record {
        from = b.0;
        item = h.item;
        begun = b.2;
        allowed = a.2;
        fits = refit h.item g _ _ (λ c. let x = to_spotted g c.0 c.1 in (x.0, x.2, sym (over_is x.0) ∙ ap may_be_over x.1 ∙ c.2)) h.fits;
        nearest = h.nearest;
      },
    )

pub to_whole : (f : Form) → Complete f → Whole f
to_whole f c = (left c.0, to_begun f c.0 c.1, over_is c.0 ∙ c.2)

pub to_complete : (f : Form) → Whole f → Complete f
to_complete f c = let x = to_spotted f c.0 c.1 in (x.0, x.2, sym (over_is x.0) ∙ ap may_be_over x.1 ∙ c.2)
