-- Places within the rules, and what can stand at them.
use Rattle.std.specs.Prelude.{List, [], ◌∷◌, Bool, true, false}
use Rattle.xc_raw.specs.declared.word.Word.TheVariants as word
use Rattle.xc_raw.specs.declared.rule.Rule.{Rule}
use Rattle.xc_raw.specs.declared.rule.Rule.TheVariants as rule
use Rattle.xc_raw.specs.declared.rule.Level.TheVariants as level_name
use Rattle.xc_parse_grammar.specs.declared.marks.Strength.TheVariants as strength
use Rattle.xc_parse_grammar.specs.declared.marks.Class.TheVariants as class
use Rattle.xc_parse_grammar.specs.declared.marks.Kind.TheVariants as kind
use Rattle.xc_parse_grammar.specs.declared.marks.Item.{Item}
use Rattle.xc_parse_grammar.specs.declared.marks.Item.TheVariants as item
use Rattle.xc_parse_grammar.specs.declared.spots.Spot.{Spot}
use Rattle.xc_parse_grammar.specs.declared.spots.Spot.TheVariants as spot
use Rattle.xc_parse_grammar.specs.Marks.{tighter}

-- what can come next, and the place behind it
abbrev pub steps : Spot → List (Item × Spot)
steps spot.Done = []
steps spot.Ending = (item.Word word.Semicolon, spot.Done) ∷ []
steps spot.Closing = (item.Word word.Close, spot.Done) ∷ []
steps spot.Clause = (item.Part (class.At strength.Expr), spot.Ending) ∷ (item.Word word.Semicolon, spot.Done) ∷ []
steps spot.Unit = (item.Part class.Item, spot.UnitMore) ∷ []
steps spot.UnitMore = (item.Part class.Item, spot.UnitMore) ∷ []
steps spot.Pragma = (item.Word word.Pragma, spot.Done) ∷ []
steps spot.Declaration = (item.Part (class.Node rule.Specs), spot.DeclarationFirst) ∷ []
steps spot.DeclarationFirst = (item.Part (class.Node rule.Dinit), spot.DeclarationMore) ∷ (item.Word word.Semicolon, spot.Done) ∷ []
steps spot.DeclarationMore = (item.Word word.Comma, spot.DeclarationNext) ∷ (item.Word word.Semicolon, spot.Done) ∷ []
steps spot.DeclarationNext = (item.Part (class.Node rule.Dinit), spot.DeclarationMore) ∷ []
steps spot.Function = (item.Part (class.Node rule.Specs), spot.FunctionCallee) ∷ []
steps spot.FunctionCallee = (item.Part (class.Node rule.Callee), spot.FunctionParams) ∷ []
steps spot.FunctionParams = (item.Part (class.Node rule.Params), spot.FunctionBody) ∷ []
steps spot.FunctionBody = (item.Word word.Semicolon, spot.Done) ∷ (item.Part (class.Node rule.Block), spot.Done) ∷ []
steps spot.Specs = (item.Kind kind.Specifier, spot.SpecsMore) ∷ (item.Part (class.Node rule.Struct), spot.SpecsMore) ∷ []
steps spot.SpecsMore = (item.Kind kind.Specifier, spot.SpecsMore) ∷ (item.Part (class.Node rule.Struct), spot.SpecsMore) ∷ []
steps spot.Struct = (item.Word word.Struct, spot.StructName) ∷ []
steps spot.StructName = (item.Word word.Name, spot.StructBody) ∷ []
steps spot.StructBody = (item.Word word.OpenBrace, spot.StructFirst) ∷ []
steps spot.StructFirst = (item.Part (class.Node rule.Member), spot.StructMore) ∷ []
steps spot.StructMore = (item.Part (class.Node rule.Member), spot.StructMore) ∷ (item.Word word.CloseBrace, spot.Done) ∷ []
steps spot.Member = (item.Part (class.Node rule.Specs), spot.MemberNext) ∷ []
steps spot.MemberNext = (item.Part (class.Node rule.Declr), spot.MemberMore) ∷ []
steps spot.MemberMore = (item.Word word.Comma, spot.MemberNext) ∷ (item.Word word.Semicolon, spot.Done) ∷ []
steps spot.Declr = (item.Word word.Star, spot.DeclrStars) ∷ (item.Word word.Name, spot.DeclrBounds) ∷ []
steps spot.DeclrStars = (item.Kind kind.Qualifier, spot.DeclrStars) ∷ (item.Word word.Star, spot.DeclrStars) ∷ (item.Word word.Name, spot.DeclrBounds) ∷ []
steps spot.DeclrBounds = (item.Word word.OpenBracket, spot.DeclrBound) ∷ []
steps spot.DeclrBound = (item.Part (class.At strength.Cond), spot.DeclrClose) ∷ []
steps spot.DeclrClose = (item.Word word.CloseBracket, spot.DeclrBounds) ∷ []
steps spot.Callee = (item.Word word.Star, spot.CalleeStars) ∷ (item.Word word.Name, spot.Done) ∷ []
steps spot.CalleeStars = (item.Kind kind.Qualifier, spot.CalleeStars) ∷ (item.Word word.Star, spot.CalleeStars) ∷ (item.Word word.Name, spot.Done) ∷ []
steps spot.Dinit = (item.Part (class.Node rule.Declr), spot.DinitSet) ∷ []
steps spot.DinitSet = (item.Word word.Set, spot.DinitInit) ∷ []
steps spot.DinitInit = (item.Part class.Init, spot.Done) ∷ []
steps spot.Initialisers = (item.Word word.OpenBrace, spot.InitialisersFirst) ∷ []
steps spot.InitialisersFirst = (item.Part class.Init, spot.InitialisersMore) ∷ []
steps spot.InitialisersMore = (item.Word word.Comma, spot.InitialisersNext) ∷ (item.Word word.CloseBrace, spot.Done) ∷ []
steps spot.InitialisersNext = (item.Part class.Init, spot.InitialisersMore) ∷ (item.Word word.CloseBrace, spot.Done) ∷ []
steps spot.Params = (item.Word word.Open, spot.ParamsFirst) ∷ []
steps spot.ParamsFirst = (item.Part (class.Node rule.Param), spot.ParamsMore) ∷ (item.Word word.Close, spot.Done) ∷ []
steps spot.ParamsMore = (item.Word word.Comma, spot.ParamsNext) ∷ (item.Word word.Close, spot.Done) ∷ []
steps spot.ParamsNext = (item.Part (class.Node rule.Param), spot.ParamsMore) ∷ []
steps spot.Param = (item.Part (class.Node rule.Specs), spot.ParamDeclr) ∷ []
steps spot.ParamDeclr = (item.Word word.Star, spot.ParamStars) ∷ (item.Word word.Name, spot.ParamFirst) ∷ (item.Word word.OpenBracket, spot.ParamBound) ∷ []
steps spot.ParamStars = (item.Kind kind.Qualifier, spot.ParamStars) ∷ (item.Word word.Star, spot.ParamStars) ∷ (item.Word word.Name, spot.ParamFirst) ∷ (item.Word word.OpenBracket, spot.ParamBound) ∷ []
steps spot.ParamFirst = (item.Word word.OpenBracket, spot.ParamBound) ∷ []
steps spot.ParamBound = (item.Part (class.At strength.Cond), spot.ParamClose) ∷ (item.Word word.CloseBracket, spot.ParamMore) ∷ []
steps spot.ParamClose = (item.Word word.CloseBracket, spot.ParamMore) ∷ []
steps spot.ParamMore = (item.Word word.OpenBracket, spot.ParamNext) ∷ []
steps spot.ParamNext = (item.Part (class.At strength.Cond), spot.ParamClose) ∷ []
steps spot.Block = (item.Word word.OpenBrace, spot.BlockMore) ∷ []
steps spot.BlockMore = (item.Part class.BlockItem, spot.BlockMore) ∷ (item.Word word.CloseBrace, spot.Done) ∷ []
steps spot.Sub = (item.Part (class.Node rule.Pragma), spot.Sub) ∷ (item.Part class.Stmt, spot.Done) ∷ []
steps spot.If = (item.Word word.If, spot.IfOpen) ∷ []
steps spot.IfOpen = (item.Word word.Open, spot.IfTest) ∷ []
steps spot.IfTest = (item.Part (class.At strength.Expr), spot.IfClose) ∷ []
steps spot.IfClose = (item.Word word.Close, spot.IfThen) ∷ []
steps spot.IfThen = (item.Part (class.Node rule.Sub), spot.IfElse) ∷ []
steps spot.IfElse = (item.Word word.Else, spot.IfOther) ∷ []
steps spot.IfOther = (item.Part (class.Node rule.Sub), spot.Done) ∷ []
steps spot.While = (item.Word word.While, spot.WhileOpen) ∷ []
steps spot.WhileOpen = (item.Word word.Open, spot.WhileTest) ∷ []
steps spot.WhileTest = (item.Part (class.At strength.Expr), spot.WhileClose) ∷ []
steps spot.WhileClose = (item.Word word.Close, spot.WhileBody) ∷ []
steps spot.WhileBody = (item.Part (class.Node rule.Sub), spot.Done) ∷ []
steps spot.Do = (item.Word word.Do, spot.DoBody) ∷ []
steps spot.DoBody = (item.Part (class.Node rule.Sub), spot.DoWhile) ∷ []
steps spot.DoWhile = (item.Word word.While, spot.DoOpen) ∷ []
steps spot.DoOpen = (item.Word word.Open, spot.DoTest) ∷ []
steps spot.DoTest = (item.Part (class.At strength.Expr), spot.DoClose) ∷ []
steps spot.DoClose = (item.Word word.Close, spot.Ending) ∷ []
steps spot.For = (item.Word word.For, spot.ForOpen) ∷ []
steps spot.ForOpen = (item.Word word.Open, spot.ForFirst) ∷ []
steps spot.ForFirst = (item.Part (class.Node rule.ForDeclaration), spot.ForSecond) ∷ (item.Part (class.Node rule.Clause), spot.ForSecond) ∷ []
steps spot.ForSecond = (item.Part (class.Node rule.Clause), spot.ForThird) ∷ []
steps spot.ForThird = (item.Part (class.Node rule.Step), spot.ForBody) ∷ []
steps spot.ForBody = (item.Part (class.Node rule.Sub), spot.Done) ∷ []
steps spot.ForDeclaration = (item.Part (class.Node rule.Specs), spot.ForDeclarationNext) ∷ []
steps spot.ForDeclarationNext = (item.Part (class.Node rule.Dinit), spot.ForDeclarationMore) ∷ []
steps spot.ForDeclarationMore = (item.Word word.Comma, spot.ForDeclarationNext) ∷ (item.Word word.Semicolon, spot.Done) ∷ []
steps spot.Step = (item.Part (class.At strength.Expr), spot.Closing) ∷ (item.Word word.Close, spot.Done) ∷ []
steps spot.Return = (item.Word word.Return, spot.Clause) ∷ []
steps spot.Break = (item.Word word.Break, spot.Ending) ∷ []
steps spot.Continue = (item.Word word.Continue, spot.Ending) ∷ []
steps spot.Future = (item.Word word.Future, spot.FuturePlace) ∷ []
steps spot.FuturePlace = (item.Part (class.Node rule.Place), spot.FutureOpen) ∷ []
steps spot.FutureOpen = (item.Word word.Open, spot.FutureFirst) ∷ []
steps spot.FutureFirst = (item.Word word.Name, spot.FutureMore) ∷ (item.Word word.Close, spot.FutureBody) ∷ []
steps spot.FutureMore = (item.Word word.Comma, spot.FutureNext) ∷ (item.Word word.Close, spot.FutureBody) ∷ []
steps spot.FutureNext = (item.Word word.Name, spot.FutureMore) ∷ []
steps spot.FutureBody = (item.Part (class.Node rule.Block), spot.Done) ∷ []
steps spot.Place = (item.Word word.Name, spot.PlaceMore) ∷ []
steps spot.PlaceMore = (item.Word word.OpenBracket, spot.PlaceIndex) ∷ (item.Kind kind.Access, spot.PlaceMember) ∷ []
steps spot.PlaceIndex = (item.Part (class.At strength.Expr), spot.PlaceClose) ∷ []
steps spot.PlaceClose = (item.Word word.CloseBracket, spot.PlaceMore) ∷ []
steps spot.PlaceMember = (item.Word word.Name, spot.PlaceMore) ∷ []
steps spot.Comma = (item.Part (class.At strength.Expr), spot.CommaOp) ∷ []
steps spot.CommaOp = (item.Word word.Comma, spot.CommaRight) ∷ []
steps spot.CommaRight = (item.Part (class.At strength.Assign), spot.Done) ∷ []
steps spot.Assign = (item.Part (class.At strength.Unary), spot.AssignOp) ∷ []
steps spot.AssignOp = (item.Kind kind.Assignment, spot.AssignRight) ∷ []
steps spot.AssignRight = (item.Part (class.At strength.Assign), spot.Done) ∷ []
steps spot.Cond = (item.Part (class.At (strength.Binary level_name.Or)), spot.CondQuestion) ∷ []
steps spot.CondQuestion = (item.Word word.Question, spot.CondThen) ∷ []
steps spot.CondThen = (item.Part (class.At strength.Expr), spot.CondColon) ∷ []
steps spot.CondColon = (item.Word word.Colon, spot.CondOther) ∷ []
steps spot.CondOther = (item.Part (class.At strength.Cond), spot.Done) ∷ []
steps (spot.Binary level) = (item.Part (class.At (strength.Binary level)), spot.BinaryOp level) ∷ []
steps (spot.BinaryOp level) = (item.Kind (kind.Operator level), spot.BinaryRight level) ∷ []
steps (spot.BinaryRight level) = (item.Part (class.At (tighter level)), spot.Done) ∷ []
steps spot.Cast = (item.Word word.Open, spot.CastSpecs) ∷ []
steps spot.CastSpecs = (item.Part (class.Node rule.Specs), spot.CastAfter) ∷ []
steps spot.CastAfter = (item.Word word.Star, spot.CastStars) ∷ (item.Word word.Close, spot.CastOperand) ∷ []
steps spot.CastStars = (item.Kind kind.Qualifier, spot.CastStars) ∷ (item.Word word.Star, spot.CastStars) ∷ (item.Word word.Close, spot.CastOperand) ∷ []
steps spot.CastOperand = (item.Part (class.At strength.Cast), spot.Done) ∷ []
steps spot.Unary = (item.Kind kind.Step, spot.UnaryStep) ∷ (item.Kind kind.Prefix, spot.UnaryOperand) ∷ []
steps spot.UnaryStep = (item.Part (class.At strength.Unary), spot.Done) ∷ []
steps spot.UnaryOperand = (item.Part (class.At strength.Cast), spot.Done) ∷ []
steps spot.Postfix = (item.Part (class.At strength.Postfix), spot.PostfixOp) ∷ []
steps spot.PostfixOp = (item.Word word.OpenBracket, spot.PostfixIndex) ∷ (item.Word word.Open, spot.PostfixFirst) ∷ (item.Kind kind.Access, spot.PostfixMember) ∷ (item.Kind kind.Step, spot.Done) ∷ []
steps spot.PostfixIndex = (item.Part (class.At strength.Expr), spot.PostfixClose) ∷ []
steps spot.PostfixClose = (item.Word word.CloseBracket, spot.Done) ∷ []
steps spot.PostfixFirst = (item.Part (class.At strength.Assign), spot.PostfixMore) ∷ (item.Word word.Close, spot.Done) ∷ []
steps spot.PostfixMore = (item.Word word.Comma, spot.PostfixNext) ∷ (item.Word word.Close, spot.Done) ∷ []
steps spot.PostfixNext = (item.Part (class.At strength.Assign), spot.PostfixMore) ∷ []
steps spot.PostfixMember = (item.Word word.Name, spot.Done) ∷ []
steps spot.Prim = (item.Word word.Name, spot.Done) ∷ (item.Kind kind.Literal, spot.Done) ∷ (item.Word word.Open, spot.PrimInner) ∷ []
steps spot.PrimInner = (item.Part (class.At strength.Expr), spot.Closing) ∷ []

-- the rule can end here
abbrev pub may_end : Spot → Bool
may_end spot.Done = true
may_end spot.UnitMore = true
may_end spot.SpecsMore = true
may_end spot.StructBody = true
may_end spot.DeclrBounds = true
may_end spot.DinitSet = true
may_end spot.ParamDeclr = true
may_end spot.ParamStars = true
may_end spot.ParamFirst = true
may_end spot.ParamMore = true
may_end spot.IfElse = true
may_end spot.PlaceMore = true
may_end _ = false

-- where a rule begins
abbrev pub start : Rule → Spot
start rule.Unit = spot.Unit
start rule.Pragma = spot.Pragma
start rule.Declaration = spot.Declaration
start rule.Function = spot.Function
start rule.Specs = spot.Specs
start rule.Struct = spot.Struct
start rule.Member = spot.Member
start rule.Declr = spot.Declr
start rule.Callee = spot.Callee
start rule.Dinit = spot.Dinit
start rule.Initialisers = spot.Initialisers
start rule.Params = spot.Params
start rule.Param = spot.Param
start rule.Block = spot.Block
start rule.Sub = spot.Sub
start rule.Eval = spot.Clause
start rule.Clause = spot.Clause
start rule.If = spot.If
start rule.While = spot.While
start rule.Do = spot.Do
start rule.For = spot.For
start rule.ForDeclaration = spot.ForDeclaration
start rule.Step = spot.Step
start rule.Return = spot.Return
start rule.Break = spot.Break
start rule.Continue = spot.Continue
start rule.Future = spot.Future
start rule.Place = spot.Place
start rule.Comma = spot.Comma
start rule.Assign = spot.Assign
start rule.Cond = spot.Cond
start (rule.Binary level) = spot.Binary level
start rule.Cast = spot.Cast
start rule.Unary = spot.Unary
start rule.Postfix = spot.Postfix
start rule.Prim = spot.Prim
