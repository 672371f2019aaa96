-- Which words go on with a node, and that none of them may follow one.
use Rattle.std.proofs.Common.{◌≡◌, ℕ, suc, ◌+◌, ◌≤◌, List, [], ◌∷◌, Option, Some, None, Bool, true, false, refl, sym, ap, ◌∙◌, subst, arith}
use Rattle.std.specs.Prelude.{nat_lt, ◌||◌}
use Rattle.std.proofs.lemmas.Option.{same_Some}
use Rattle.std.proofs.lemmas.Bool.{leb-false, lt-leb}
use mathlib.Core.Logic.{⊎_elim}
use Rattle.xc_raw.specs.declared.word.Word.{Word}
use Rattle.xc_raw.specs.declared.word.Word.TheVariants as word
use Rattle.xc_raw.specs.declared.rule.Rule.{Rule}
use Rattle.xc_raw.specs.declared.rule.Rule.TheVariants as rule
use Rattle.xc_raw.specs.declared.rule.Level.TheVariants as level_name
use Rattle.xc_parse_grammar.specs.declared.marks.Strength.TheVariants as strength
use Rattle.xc_parse_grammar.specs.declared.marks.Class.{Class}
use Rattle.xc_parse_grammar.specs.declared.marks.Class.TheVariants as class
use Rattle.xc_parse_grammar.specs.declared.marks.Item.{Item}
use Rattle.xc_parse_grammar.specs.declared.marks.Item.TheVariants as item
use Rattle.xc_parse_grammar.specs.declared.spots.Spot.{Spot}
use Rattle.xc_parse_grammar.specs.declared.spots.Spot.TheVariants as spot
use Rattle.xc_parse_grammar.specs.Marks.{number, accepts, rank, binary_rank, tighter, is_word_specifier, is_specifier, is_access, is_pragma, is_open_brace, begins_declarator}
use Rattle.xc_raw.specs.Kinds.{is_struct}
use Rattle.xc_parse_grammar.specs.Grammar.{Form, leaf, begin, ◌▹◌, Among, sort, is_else}
use Rattle.xc_parse_grammar.specs.Spots.{steps, may_end, start}
use Rattle.xc_parse_grammar.specs.Plan.{picked}
use Rattle.xc_parse_grammar.proofs.Links.{Spotted}
use Rattle.xc_parse_grammar.proofs.Tables.{same_word}

-- how tightly the word binds to an expression before it, from 1, or 0
abbrev pub pull : Word → ℕ
pull word.Comma = 1
pull word.Set = 2
pull (word.Assign x) = 2
pull word.Question = 3
pull word.Star = 13
pull word.Ampersand = 8
pull (word.Sign x) = 12
pull (word.Binary x) = binary_rank x + 1
pull word.OpenBracket = 16
pull word.Open = 16
pull (word.Access x) = 16
pull (word.Step x) = 16
pull _ = 0

abbrev pub is_open_bracket : Word → Bool
is_open_bracket word.OpenBracket = true
is_open_bracket _ = false

abbrev pub param_goes : Word → Bool
param_goes (word.Specifier x) = true
param_goes word.Void = true
param_goes (word.Qualifier x) = true
param_goes word.Future = true
param_goes word.Restrict = true
param_goes word.Struct = true
param_goes word.OpenBrace = true
param_goes word.Star = true
param_goes word.Name = true
param_goes word.OpenBracket = true
param_goes _ = false

-- the words that go on with a node of a rule, but else
abbrev pub rule_goes : Rule → Word → Bool
rule_goes rule.Unit w = is_pragma w || is_specifier w
rule_goes rule.Specs w = is_specifier w || is_open_brace w
rule_goes rule.Struct w = is_open_brace w
rule_goes rule.Declr w = is_open_bracket w
rule_goes rule.Dinit w = is_open_bracket w || nat_lt 1 (pull w)
rule_goes rule.Param w = param_goes w
rule_goes rule.Place w = is_open_bracket w || is_access w
rule_goes rule.Comma w = nat_lt 1 (pull w)
rule_goes rule.Assign w = nat_lt 1 (pull w)
rule_goes rule.Cond w = nat_lt 2 (pull w)
rule_goes (rule.Binary level) w = nat_lt (rank (tighter level)) (pull w)
rule_goes rule.Cast w = nat_lt 13 (pull w)
rule_goes rule.Unary w = nat_lt 13 (pull w)
rule_goes _ w = false

-- the words that go on with a node of a class, but else
abbrev pub goes : Class → Word → Bool
goes (class.Node r) w = rule_goes r w
goes (class.At s) w = nat_lt (rank s) (pull w)
goes class.Init w = nat_lt 1 (pull w)
goes _ w = false

-- the classes that are read from their beginning
abbrev pub is_plain : Rule → Bool
is_plain rule.Comma = false
is_plain rule.Assign = false
is_plain rule.Cond = false
is_plain (rule.Binary level) = false
is_plain rule.Postfix = false
is_plain _ = true

abbrev pub readable : Class → Bool
readable (class.At strength.Postfix) = false
readable (class.Node r) = is_plain r
readable _ = true

-- where an operand stands before its operator
abbrev pub is_left : Spot → Bool
is_left spot.Comma = true
is_left spot.Assign = true
is_left spot.Cond = true
is_left (spot.Binary level) = true
is_left spot.Postfix = true
is_left _ = false

abbrev plain : Word → Bool
plain w = nat_lt 0 (number w)

-- what may come behind a node does not go on with it ---------------------------------------------

abbrev pub Clear : Class → Item → Type 0
Clear c j = (w : Word) → accepts j w ≡ true → goes c w ≡ false

word_clear : (c : Class) (v : Word) → plain v ≡ true → goes c v ≡ false → Clear c (item.Word v)
word_clear c v p e w h = ap (goes c) (same_word v w p h) ∙ e

declarator_clear : (w : Word) → begins_declarator w ≡ true → (is_specifier w || is_open_brace w) ≡ false
declarator_clear word.Star h = refl
declarator_clear word.Name h = refl
declarator_clear _ h = cc h

specifier_clear : (w : Word) → is_word_specifier w ≡ true → is_open_brace w ≡ false
specifier_clear (word.Specifier x) h = refl
specifier_clear word.Void h = refl
specifier_clear (word.Qualifier x) h = refl
specifier_clear word.Future h = refl
specifier_clear _ h = cc h

struct_clear : (w : Word) → is_struct w ≡ true → is_open_brace w ≡ false
struct_clear word.Struct h = refl
struct_clear _ h = cc h

abbrev AllClear : Class → List (Item × Spot) → Type 0
AllClear c [] = Unit {0}
AllClear c (t ∷ ts) = Clear c t.0 × AllClear c ts

abbrev JunctionItem : Item → Spot → Type 0
JunctionItem (item.Part c) t = (readable c ≡ true) × AllClear c (steps t)
JunctionItem (item.Word v) t = Unit {0}
JunctionItem (item.Kind k) t = Unit {0}

abbrev Junctions : List (Item × Spot) → Type 0
Junctions [] = Unit {0}
Junctions (t ∷ ts) = JunctionItem t.0 t.1 × Junctions ts

junctions : (s : Spot) → is_left s ≡ false → Junctions (steps s)
junctions spot.Done e = tt
junctions spot.Ending e = (tt, tt)
junctions spot.Closing e = (tt, tt)
junctions spot.Clause e = ((refl, (word_clear (class.At strength.Expr) word.Semicolon refl refl, tt)), (tt, tt))
junctions spot.Unit e = ((refl, ((λ w h. refl), tt)), tt)
junctions spot.UnitMore e = ((refl, ((λ w h. refl), tt)), tt)
junctions spot.Pragma e = (tt, tt)
junctions spot.Declaration e = ((refl, (declarator_clear, (word_clear (class.Node rule.Specs) word.Semicolon refl refl, tt))), tt)
junctions spot.DeclarationFirst e = ((refl, (word_clear (class.Node rule.Dinit) word.Comma refl refl, (word_clear (class.Node rule.Dinit) word.Semicolon refl refl, tt))), (tt, tt))
junctions spot.DeclarationMore e = (tt, (tt, tt))
junctions spot.DeclarationNext e = ((refl, (word_clear (class.Node rule.Dinit) word.Comma refl refl, (word_clear (class.Node rule.Dinit) word.Semicolon refl refl, tt))), tt)
junctions spot.Function e = ((refl, (declarator_clear, tt)), tt)
junctions spot.FunctionCallee e = ((refl, ((λ w h. refl), tt)), tt)
junctions spot.FunctionParams e = ((refl, (word_clear (class.Node rule.Params) word.Semicolon refl refl, ((λ w h. refl), tt))), tt)
junctions spot.FunctionBody e = (tt, ((refl, tt), tt))
junctions spot.Specs e = (tt, ((refl, (specifier_clear, (struct_clear, tt))), tt))
junctions spot.SpecsMore e = (tt, ((refl, (specifier_clear, (struct_clear, tt))), tt))
junctions spot.Struct e = (tt, tt)
junctions spot.StructName e = (tt, tt)
junctions spot.StructBody e = (tt, tt)
junctions spot.StructFirst e = ((refl, ((λ w h. refl), (word_clear (class.Node rule.Member) word.CloseBrace refl refl, tt))), tt)
junctions spot.StructMore e = ((refl, ((λ w h. refl), (word_clear (class.Node rule.Member) word.CloseBrace refl refl, tt))), (tt, tt))
junctions spot.Member e = ((refl, (declarator_clear, tt)), tt)
junctions spot.MemberNext e = ((refl, (word_clear (class.Node rule.Declr) word.Comma refl refl, (word_clear (class.Node rule.Declr) word.Semicolon refl refl, tt))), tt)
junctions spot.MemberMore e = (tt, (tt, tt))
junctions spot.Declr e = (tt, (tt, tt))
junctions spot.DeclrStars e = (tt, (tt, (tt, tt)))
junctions spot.DeclrBounds e = (tt, tt)
junctions spot.DeclrBound e = ((refl, (word_clear (class.At strength.Cond) word.CloseBracket refl refl, tt)), tt)
junctions spot.DeclrClose e = (tt, tt)
junctions spot.Callee e = (tt, (tt, tt))
junctions spot.CalleeStars e = (tt, (tt, (tt, tt)))
junctions spot.Dinit e = ((refl, (word_clear (class.Node rule.Declr) word.Set refl refl, tt)), tt)
junctions spot.DinitSet e = (tt, tt)
junctions spot.DinitInit e = ((refl, tt), tt)
junctions spot.Initialisers e = (tt, tt)
junctions spot.InitialisersFirst e = ((refl, (word_clear class.Init word.Comma refl refl, (word_clear class.Init word.CloseBrace refl refl, tt))), tt)
junctions spot.InitialisersMore e = (tt, (tt, tt))
junctions spot.InitialisersNext e = ((refl, (word_clear class.Init word.Comma refl refl, (word_clear class.Init word.CloseBrace refl refl, tt))), (tt, tt))
junctions spot.Params e = (tt, tt)
junctions spot.ParamsFirst e = ((refl, (word_clear (class.Node rule.Param) word.Comma refl refl, (word_clear (class.Node rule.Param) word.Close refl refl, tt))), (tt, tt))
junctions spot.ParamsMore e = (tt, (tt, tt))
junctions spot.ParamsNext e = ((refl, (word_clear (class.Node rule.Param) word.Comma refl refl, (word_clear (class.Node rule.Param) word.Close refl refl, tt))), tt)
junctions spot.Param e = ((refl, (word_clear (class.Node rule.Specs) word.Star refl refl, (word_clear (class.Node rule.Specs) word.Name refl refl, (word_clear (class.Node rule.Specs) word.OpenBracket refl refl, tt)))), tt)
junctions spot.ParamDeclr e = (tt, (tt, (tt, tt)))
junctions spot.ParamStars e = (tt, (tt, (tt, (tt, tt))))
junctions spot.ParamFirst e = (tt, tt)
junctions spot.ParamBound e = ((refl, (word_clear (class.At strength.Cond) word.CloseBracket refl refl, tt)), (tt, tt))
junctions spot.ParamClose e = (tt, tt)
junctions spot.ParamMore e = (tt, tt)
junctions spot.ParamNext e = ((refl, (word_clear (class.At strength.Cond) word.CloseBracket refl refl, tt)), tt)
junctions spot.Block e = (tt, tt)
junctions spot.BlockMore e = ((refl, ((λ w h. refl), (word_clear class.BlockItem word.CloseBrace refl refl, tt))), (tt, tt))
junctions spot.Sub e = ((refl, ((λ w h. refl), ((λ w h. refl), tt))), ((refl, tt), tt))
junctions spot.If e = (tt, tt)
junctions spot.IfOpen e = (tt, tt)
junctions spot.IfTest e = ((refl, (word_clear (class.At strength.Expr) word.Close refl refl, tt)), tt)
junctions spot.IfClose e = (tt, tt)
junctions spot.IfThen e = ((refl, (word_clear (class.Node rule.Sub) word.Else refl refl, tt)), tt)
junctions spot.IfElse e = (tt, tt)
junctions spot.IfOther e = ((refl, tt), tt)
junctions spot.While e = (tt, tt)
junctions spot.WhileOpen e = (tt, tt)
junctions spot.WhileTest e = ((refl, (word_clear (class.At strength.Expr) word.Close refl refl, tt)), tt)
junctions spot.WhileClose e = (tt, tt)
junctions spot.WhileBody e = ((refl, tt), tt)
junctions spot.Do e = (tt, tt)
junctions spot.DoBody e = ((refl, (word_clear (class.Node rule.Sub) word.While refl refl, tt)), tt)
junctions spot.DoWhile e = (tt, tt)
junctions spot.DoOpen e = (tt, tt)
junctions spot.DoTest e = ((refl, (word_clear (class.At strength.Expr) word.Close refl refl, tt)), tt)
junctions spot.DoClose e = (tt, tt)
junctions spot.For e = (tt, tt)
junctions spot.ForOpen e = (tt, tt)
junctions spot.ForFirst e = ((refl, ((λ w h. refl), tt)), ((refl, ((λ w h. refl), tt)), tt))
junctions spot.ForSecond e = ((refl, ((λ w h. refl), tt)), tt)
junctions spot.ForThird e = ((refl, ((λ w h. refl), tt)), tt)
junctions spot.ForBody e = ((refl, tt), tt)
junctions spot.ForDeclaration e = ((refl, (declarator_clear, tt)), tt)
junctions spot.ForDeclarationNext e = ((refl, (word_clear (class.Node rule.Dinit) word.Comma refl refl, (word_clear (class.Node rule.Dinit) word.Semicolon refl refl, tt))), tt)
junctions spot.ForDeclarationMore e = (tt, (tt, tt))
junctions spot.Step e = ((refl, (word_clear (class.At strength.Expr) word.Close refl refl, tt)), (tt, tt))
junctions spot.Return e = (tt, tt)
junctions spot.Break e = (tt, tt)
junctions spot.Continue e = (tt, tt)
junctions spot.Future e = (tt, tt)
junctions spot.FuturePlace e = ((refl, (word_clear (class.Node rule.Place) word.Open refl refl, tt)), tt)
junctions spot.FutureOpen e = (tt, tt)
junctions spot.FutureFirst e = (tt, (tt, tt))
junctions spot.FutureMore e = (tt, (tt, tt))
junctions spot.FutureNext e = (tt, tt)
junctions spot.FutureBody e = ((refl, tt), tt)
junctions spot.Place e = (tt, tt)
junctions spot.PlaceMore e = (tt, (tt, tt))
junctions spot.PlaceIndex e = ((refl, (word_clear (class.At strength.Expr) word.CloseBracket refl refl, tt)), tt)
junctions spot.PlaceClose e = (tt, tt)
junctions spot.PlaceMember e = (tt, tt)
junctions spot.Comma e = cc e
junctions spot.CommaOp e = (tt, tt)
junctions spot.CommaRight e = ((refl, tt), tt)
junctions spot.Assign e = cc e
junctions spot.AssignOp e = (tt, tt)
junctions spot.AssignRight e = ((refl, tt), tt)
junctions spot.Cond e = cc e
junctions spot.CondQuestion e = (tt, tt)
junctions spot.CondThen e = ((refl, (word_clear (class.At strength.Expr) word.Colon refl refl, tt)), tt)
junctions spot.CondColon e = (tt, tt)
junctions spot.CondOther e = ((refl, tt), tt)
junctions (spot.Binary level) e = cc e
junctions (spot.BinaryOp level) e = (tt, tt)
junctions (spot.BinaryRight level_name.Or) e = ((refl, tt), tt)
junctions (spot.BinaryRight level_name.And) e = ((refl, tt), tt)
junctions (spot.BinaryRight level_name.BitOr) e = ((refl, tt), tt)
junctions (spot.BinaryRight level_name.BitXor) e = ((refl, tt), tt)
junctions (spot.BinaryRight level_name.BitAnd) e = ((refl, tt), tt)
junctions (spot.BinaryRight level_name.Equality) e = ((refl, tt), tt)
junctions (spot.BinaryRight level_name.Relation) e = ((refl, tt), tt)
junctions (spot.BinaryRight level_name.Shift) e = ((refl, tt), tt)
junctions (spot.BinaryRight level_name.Sum) e = ((refl, tt), tt)
junctions (spot.BinaryRight level_name.Product) e = ((refl, tt), tt)
junctions spot.Cast e = (tt, tt)
junctions spot.CastSpecs e = ((refl, (word_clear (class.Node rule.Specs) word.Star refl refl, (word_clear (class.Node rule.Specs) word.Close refl refl, tt))), tt)
junctions spot.CastAfter e = (tt, (tt, tt))
junctions spot.CastStars e = (tt, (tt, (tt, tt)))
junctions spot.CastOperand e = ((refl, tt), tt)
junctions spot.Unary e = (tt, (tt, tt))
junctions spot.UnaryStep e = ((refl, tt), tt)
junctions spot.UnaryOperand e = ((refl, tt), tt)
junctions spot.Postfix e = cc e
junctions spot.PostfixOp e = (tt, (tt, (tt, (tt, tt))))
junctions spot.PostfixIndex e = ((refl, (word_clear (class.At strength.Expr) word.CloseBracket refl refl, tt)), tt)
junctions spot.PostfixClose e = (tt, tt)
junctions spot.PostfixFirst e = ((refl, (word_clear (class.At strength.Assign) word.Comma refl refl, (word_clear (class.At strength.Assign) word.Close refl refl, tt))), (tt, tt))
junctions spot.PostfixMore e = (tt, (tt, tt))
junctions spot.PostfixNext e = ((refl, (word_clear (class.At strength.Assign) word.Comma refl refl, (word_clear (class.At strength.Assign) word.Close refl refl, tt))), tt)
junctions spot.PostfixMember e = (tt, tt)
junctions spot.Prim e = (tt, (tt, (tt, tt)))
junctions spot.PrimInner e = ((refl, (word_clear (class.At strength.Expr) word.Close refl refl, tt)), tt)

junction_among : (i : Item) (t : Spot) (ts : List (Item × Spot)) → Junctions ts → Among i t ts → JunctionItem i t
junction_among i t [] a m = absurd m
junction_among i t (x ∷ ts) a m = ⊎_elim
    (λ k. subst (λ j. JunctionItem j t) k.0 (subst (λ y. JunctionItem x.0 y) k.1 a.0))
    (λ k. junction_among i t ts a.1 k) m

clear_among : (c : Class) (j : Item) (t : Spot) (ts : List (Item × Spot)) → AllClear c ts → Among j t ts → Clear c j
clear_among c j t [] a m w h = absurd m
clear_among c j t (x ∷ ts) a m w h = ⊎_elim (λ k. a.0 w (ap (λ y. accepts y w) k.0 ∙ h)) (λ k. clear_among c j t ts a.1 k w h) m

pub reads : (s : Spot) (c : Class) (t : Spot) → is_left s ≡ false → Among (item.Part c) t (steps s) → readable c ≡ true
reads s c t e m = (junction_among (item.Part c) t (steps s) (junctions s e) m).0

-- a word that may come behind the node does not go on with it
pub clear : (s : Spot) (c : Class) (t : Spot) (j : Item) (u : Spot) (w : Word) → is_left s ≡ false → Among (item.Part c) t (steps s) → Among j u (steps t) → accepts j w ≡ true → goes c w ≡ false
clear s c t j u w e m n h = clear_among c j u (steps t) (junction_among (item.Part c) t (steps s) (junctions s e) m).1 n w h

-- the rules of places ----------------------------------------------------------------------------

-- the rule that the place is in, where it is in one only
abbrev pub home : Spot → Option Rule
home spot.Done = None
home spot.Ending = None
home spot.Closing = None
home spot.Clause = None
home spot.Unit = Some rule.Unit
home spot.UnitMore = Some rule.Unit
home spot.Pragma = Some rule.Pragma
home spot.Declaration = Some rule.Declaration
home spot.DeclarationFirst = Some rule.Declaration
home spot.DeclarationMore = Some rule.Declaration
home spot.DeclarationNext = Some rule.Declaration
home spot.Function = Some rule.Function
home spot.FunctionCallee = Some rule.Function
home spot.FunctionParams = Some rule.Function
home spot.FunctionBody = Some rule.Function
home spot.Specs = Some rule.Specs
home spot.SpecsMore = Some rule.Specs
home spot.Struct = Some rule.Struct
home spot.StructName = Some rule.Struct
home spot.StructBody = Some rule.Struct
home spot.StructFirst = Some rule.Struct
home spot.StructMore = Some rule.Struct
home spot.Member = Some rule.Member
home spot.MemberNext = Some rule.Member
home spot.MemberMore = Some rule.Member
home spot.Declr = Some rule.Declr
home spot.DeclrStars = Some rule.Declr
home spot.DeclrBounds = Some rule.Declr
home spot.DeclrBound = Some rule.Declr
home spot.DeclrClose = Some rule.Declr
home spot.Callee = Some rule.Callee
home spot.CalleeStars = Some rule.Callee
home spot.Dinit = Some rule.Dinit
home spot.DinitSet = Some rule.Dinit
home spot.DinitInit = Some rule.Dinit
home spot.Initialisers = Some rule.Initialisers
home spot.InitialisersFirst = Some rule.Initialisers
home spot.InitialisersMore = Some rule.Initialisers
home spot.InitialisersNext = Some rule.Initialisers
home spot.Params = Some rule.Params
home spot.ParamsFirst = Some rule.Params
home spot.ParamsMore = Some rule.Params
home spot.ParamsNext = Some rule.Params
home spot.Param = Some rule.Param
home spot.ParamDeclr = Some rule.Param
home spot.ParamStars = Some rule.Param
home spot.ParamFirst = Some rule.Param
home spot.ParamBound = Some rule.Param
home spot.ParamClose = Some rule.Param
home spot.ParamMore = Some rule.Param
home spot.ParamNext = Some rule.Param
home spot.Block = Some rule.Block
home spot.BlockMore = Some rule.Block
home spot.Sub = Some rule.Sub
home spot.If = Some rule.If
home spot.IfOpen = Some rule.If
home spot.IfTest = Some rule.If
home spot.IfClose = Some rule.If
home spot.IfThen = Some rule.If
home spot.IfElse = Some rule.If
home spot.IfOther = Some rule.If
home spot.While = Some rule.While
home spot.WhileOpen = Some rule.While
home spot.WhileTest = Some rule.While
home spot.WhileClose = Some rule.While
home spot.WhileBody = Some rule.While
home spot.Do = Some rule.Do
home spot.DoBody = Some rule.Do
home spot.DoWhile = Some rule.Do
home spot.DoOpen = Some rule.Do
home spot.DoTest = Some rule.Do
home spot.DoClose = Some rule.Do
home spot.For = Some rule.For
home spot.ForOpen = Some rule.For
home spot.ForFirst = Some rule.For
home spot.ForSecond = Some rule.For
home spot.ForThird = Some rule.For
home spot.ForBody = Some rule.For
home spot.ForDeclaration = Some rule.ForDeclaration
home spot.ForDeclarationNext = Some rule.ForDeclaration
home spot.ForDeclarationMore = Some rule.ForDeclaration
home spot.Step = Some rule.Step
home spot.Return = Some rule.Return
home spot.Break = Some rule.Break
home spot.Continue = Some rule.Continue
home spot.Future = Some rule.Future
home spot.FuturePlace = Some rule.Future
home spot.FutureOpen = Some rule.Future
home spot.FutureFirst = Some rule.Future
home spot.FutureMore = Some rule.Future
home spot.FutureNext = Some rule.Future
home spot.FutureBody = Some rule.Future
home spot.Place = Some rule.Place
home spot.PlaceMore = Some rule.Place
home spot.PlaceIndex = Some rule.Place
home spot.PlaceClose = Some rule.Place
home spot.PlaceMember = Some rule.Place
home spot.Comma = Some rule.Comma
home spot.CommaOp = Some rule.Comma
home spot.CommaRight = Some rule.Comma
home spot.Assign = Some rule.Assign
home spot.AssignOp = Some rule.Assign
home spot.AssignRight = Some rule.Assign
home spot.Cond = Some rule.Cond
home spot.CondQuestion = Some rule.Cond
home spot.CondThen = Some rule.Cond
home spot.CondColon = Some rule.Cond
home spot.CondOther = Some rule.Cond
home (spot.Binary level) = Some (rule.Binary level)
home (spot.BinaryOp level) = Some (rule.Binary level)
home (spot.BinaryRight level) = Some (rule.Binary level)
home spot.Cast = Some rule.Cast
home spot.CastSpecs = Some rule.Cast
home spot.CastAfter = Some rule.Cast
home spot.CastStars = Some rule.Cast
home spot.CastOperand = Some rule.Cast
home spot.Unary = Some rule.Unary
home spot.UnaryStep = Some rule.Unary
home spot.UnaryOperand = Some rule.Unary
home spot.Postfix = Some rule.Postfix
home spot.PostfixOp = Some rule.Postfix
home spot.PostfixIndex = Some rule.Postfix
home spot.PostfixClose = Some rule.Postfix
home spot.PostfixFirst = Some rule.Postfix
home spot.PostfixMore = Some rule.Postfix
home spot.PostfixNext = Some rule.Postfix
home spot.PostfixMember = Some rule.Postfix
home spot.Prim = Some rule.Prim
home spot.PrimInner = Some rule.Prim

abbrev Follows : Option Rule → Option Rule → Type 0
Follows o None = Unit {0}
Follows None (Some q) = ⊥
Follows (Some r) (Some q) = q ≡ r

abbrev AllFollow : Option Rule → List (Item × Spot) → Type 0
AllFollow o [] = Unit {0}
AllFollow o (t ∷ ts) = (Follows o (home t.1) × (is_left t.1 ≡ false)) × AllFollow o ts

follow : (s : Spot) → AllFollow (home s) (steps s)
follow spot.Done = tt
follow spot.Ending = ((tt, refl), tt)
follow spot.Closing = ((tt, refl), tt)
follow spot.Clause = ((tt, refl), ((tt, refl), tt))
follow spot.Unit = ((refl, refl), tt)
follow spot.UnitMore = ((refl, refl), tt)
follow spot.Pragma = ((tt, refl), tt)
follow spot.Declaration = ((refl, refl), tt)
follow spot.DeclarationFirst = ((refl, refl), ((tt, refl), tt))
follow spot.DeclarationMore = ((refl, refl), ((tt, refl), tt))
follow spot.DeclarationNext = ((refl, refl), tt)
follow spot.Function = ((refl, refl), tt)
follow spot.FunctionCallee = ((refl, refl), tt)
follow spot.FunctionParams = ((refl, refl), tt)
follow spot.FunctionBody = ((tt, refl), ((tt, refl), tt))
follow spot.Specs = ((refl, refl), ((refl, refl), tt))
follow spot.SpecsMore = ((refl, refl), ((refl, refl), tt))
follow spot.Struct = ((refl, refl), tt)
follow spot.StructName = ((refl, refl), tt)
follow spot.StructBody = ((refl, refl), tt)
follow spot.StructFirst = ((refl, refl), tt)
follow spot.StructMore = ((refl, refl), ((tt, refl), tt))
follow spot.Member = ((refl, refl), tt)
follow spot.MemberNext = ((refl, refl), tt)
follow spot.MemberMore = ((refl, refl), ((tt, refl), tt))
follow spot.Declr = ((refl, refl), ((refl, refl), tt))
follow spot.DeclrStars = ((refl, refl), ((refl, refl), ((refl, refl), tt)))
follow spot.DeclrBounds = ((refl, refl), tt)
follow spot.DeclrBound = ((refl, refl), tt)
follow spot.DeclrClose = ((refl, refl), tt)
follow spot.Callee = ((refl, refl), ((tt, refl), tt))
follow spot.CalleeStars = ((refl, refl), ((refl, refl), ((tt, refl), tt)))
follow spot.Dinit = ((refl, refl), tt)
follow spot.DinitSet = ((refl, refl), tt)
follow spot.DinitInit = ((tt, refl), tt)
follow spot.Initialisers = ((refl, refl), tt)
follow spot.InitialisersFirst = ((refl, refl), tt)
follow spot.InitialisersMore = ((refl, refl), ((tt, refl), tt))
follow spot.InitialisersNext = ((refl, refl), ((tt, refl), tt))
follow spot.Params = ((refl, refl), tt)
follow spot.ParamsFirst = ((refl, refl), ((tt, refl), tt))
follow spot.ParamsMore = ((refl, refl), ((tt, refl), tt))
follow spot.ParamsNext = ((refl, refl), tt)
follow spot.Param = ((refl, refl), tt)
follow spot.ParamDeclr = ((refl, refl), ((refl, refl), ((refl, refl), tt)))
follow spot.ParamStars = ((refl, refl), ((refl, refl), ((refl, refl), ((refl, refl), tt))))
follow spot.ParamFirst = ((refl, refl), tt)
follow spot.ParamBound = ((refl, refl), ((refl, refl), tt))
follow spot.ParamClose = ((refl, refl), tt)
follow spot.ParamMore = ((refl, refl), tt)
follow spot.ParamNext = ((refl, refl), tt)
follow spot.Block = ((refl, refl), tt)
follow spot.BlockMore = ((refl, refl), ((tt, refl), tt))
follow spot.Sub = ((refl, refl), ((tt, refl), tt))
follow spot.If = ((refl, refl), tt)
follow spot.IfOpen = ((refl, refl), tt)
follow spot.IfTest = ((refl, refl), tt)
follow spot.IfClose = ((refl, refl), tt)
follow spot.IfThen = ((refl, refl), tt)
follow spot.IfElse = ((refl, refl), tt)
follow spot.IfOther = ((tt, refl), tt)
follow spot.While = ((refl, refl), tt)
follow spot.WhileOpen = ((refl, refl), tt)
follow spot.WhileTest = ((refl, refl), tt)
follow spot.WhileClose = ((refl, refl), tt)
follow spot.WhileBody = ((tt, refl), tt)
follow spot.Do = ((refl, refl), tt)
follow spot.DoBody = ((refl, refl), tt)
follow spot.DoWhile = ((refl, refl), tt)
follow spot.DoOpen = ((refl, refl), tt)
follow spot.DoTest = ((refl, refl), tt)
follow spot.DoClose = ((tt, refl), tt)
follow spot.For = ((refl, refl), tt)
follow spot.ForOpen = ((refl, refl), tt)
follow spot.ForFirst = ((refl, refl), ((refl, refl), tt))
follow spot.ForSecond = ((refl, refl), tt)
follow spot.ForThird = ((refl, refl), tt)
follow spot.ForBody = ((tt, refl), tt)
follow spot.ForDeclaration = ((refl, refl), tt)
follow spot.ForDeclarationNext = ((refl, refl), tt)
follow spot.ForDeclarationMore = ((refl, refl), ((tt, refl), tt))
follow spot.Step = ((tt, refl), ((tt, refl), tt))
follow spot.Return = ((tt, refl), tt)
follow spot.Break = ((tt, refl), tt)
follow spot.Continue = ((tt, refl), tt)
follow spot.Future = ((refl, refl), tt)
follow spot.FuturePlace = ((refl, refl), tt)
follow spot.FutureOpen = ((refl, refl), tt)
follow spot.FutureFirst = ((refl, refl), ((refl, refl), tt))
follow spot.FutureMore = ((refl, refl), ((refl, refl), tt))
follow spot.FutureNext = ((refl, refl), tt)
follow spot.FutureBody = ((tt, refl), tt)
follow spot.Place = ((refl, refl), tt)
follow spot.PlaceMore = ((refl, refl), ((refl, refl), tt))
follow spot.PlaceIndex = ((refl, refl), tt)
follow spot.PlaceClose = ((refl, refl), tt)
follow spot.PlaceMember = ((refl, refl), tt)
follow spot.Comma = ((refl, refl), tt)
follow spot.CommaOp = ((refl, refl), tt)
follow spot.CommaRight = ((tt, refl), tt)
follow spot.Assign = ((refl, refl), tt)
follow spot.AssignOp = ((refl, refl), tt)
follow spot.AssignRight = ((tt, refl), tt)
follow spot.Cond = ((refl, refl), tt)
follow spot.CondQuestion = ((refl, refl), tt)
follow spot.CondThen = ((refl, refl), tt)
follow spot.CondColon = ((refl, refl), tt)
follow spot.CondOther = ((tt, refl), tt)
follow (spot.Binary level) = ((refl, refl), tt)
follow (spot.BinaryOp level) = ((refl, refl), tt)
follow (spot.BinaryRight level) = ((tt, refl), tt)
follow spot.Cast = ((refl, refl), tt)
follow spot.CastSpecs = ((refl, refl), tt)
follow spot.CastAfter = ((refl, refl), ((refl, refl), tt))
follow spot.CastStars = ((refl, refl), ((refl, refl), ((refl, refl), tt)))
follow spot.CastOperand = ((tt, refl), tt)
follow spot.Unary = ((refl, refl), ((refl, refl), tt))
follow spot.UnaryStep = ((tt, refl), tt)
follow spot.UnaryOperand = ((tt, refl), tt)
follow spot.Postfix = ((refl, refl), tt)
follow spot.PostfixOp = ((refl, refl), ((refl, refl), ((refl, refl), ((tt, refl), tt))))
follow spot.PostfixIndex = ((refl, refl), tt)
follow spot.PostfixClose = ((tt, refl), tt)
follow spot.PostfixFirst = ((refl, refl), ((tt, refl), tt))
follow spot.PostfixMore = ((refl, refl), ((tt, refl), tt))
follow spot.PostfixNext = ((refl, refl), tt)
follow spot.PostfixMember = ((tt, refl), tt)
follow spot.Prim = ((tt, refl), ((tt, refl), ((refl, refl), tt)))
follow spot.PrimInner = ((tt, refl), tt)

follow_among : (o : Option Rule) (i : Item) (t : Spot) (ts : List (Item × Spot)) → AllFollow o ts → Among i t ts → Follows o (home t) × (is_left t ≡ false)
follow_among o i t [] a m = absurd m
follow_among o i t (x ∷ ts) a m = ⊎_elim (λ k. subst (λ y. Follows o (home y) × (is_left y ≡ false)) k.1 a.0) (λ k. follow_among o i t ts a.1 k) m

-- only the beginning of a node has its last place before an operand
pub no_left : (s : Spot) (i : Item) (t : Spot) → Among i t (steps s) → is_left t ≡ false
no_left s i t m = (follow_among (home s) i t (steps s) (follow s) m).1

home_back : (o p : Option Rule) (r : Rule) → Follows o p → p ≡ Some r → o ≡ Some r
home_back None None r h e = cc e
home_back (Some q) None r h e = cc e
home_back None (Some q) r h e = absurd h
home_back (Some x) (Some q) r h e = ap Some (sym h) ∙ e

home_start : (r q : Rule) → home (start r) ≡ Some q → r ≡ q
home_start rule.Unit q e = same_Some rule.Unit q e
home_start rule.Pragma q e = same_Some rule.Pragma q e
home_start rule.Declaration q e = same_Some rule.Declaration q e
home_start rule.Function q e = same_Some rule.Function q e
home_start rule.Specs q e = same_Some rule.Specs q e
home_start rule.Struct q e = same_Some rule.Struct q e
home_start rule.Member q e = same_Some rule.Member q e
home_start rule.Declr q e = same_Some rule.Declr q e
home_start rule.Callee q e = same_Some rule.Callee q e
home_start rule.Dinit q e = same_Some rule.Dinit q e
home_start rule.Initialisers q e = same_Some rule.Initialisers q e
home_start rule.Params q e = same_Some rule.Params q e
home_start rule.Param q e = same_Some rule.Param q e
home_start rule.Block q e = same_Some rule.Block q e
home_start rule.Sub q e = same_Some rule.Sub q e
home_start rule.Eval q e = cc e
home_start rule.Clause q e = cc e
home_start rule.If q e = same_Some rule.If q e
home_start rule.While q e = same_Some rule.While q e
home_start rule.Do q e = same_Some rule.Do q e
home_start rule.For q e = same_Some rule.For q e
home_start rule.ForDeclaration q e = same_Some rule.ForDeclaration q e
home_start rule.Step q e = same_Some rule.Step q e
home_start rule.Return q e = same_Some rule.Return q e
home_start rule.Break q e = same_Some rule.Break q e
home_start rule.Continue q e = same_Some rule.Continue q e
home_start rule.Future q e = same_Some rule.Future q e
home_start rule.Place q e = same_Some rule.Place q e
home_start rule.Comma q e = same_Some rule.Comma q e
home_start rule.Assign q e = same_Some rule.Assign q e
home_start rule.Cond q e = same_Some rule.Cond q e
home_start (rule.Binary level) q e = same_Some (rule.Binary level) q e
home_start rule.Cast q e = same_Some rule.Cast q e
home_start rule.Unary q e = same_Some rule.Unary q e
home_start rule.Postfix q e = same_Some rule.Postfix q e
home_start rule.Prim q e = same_Some rule.Prim q e

-- the node's rule is that of its place
pub at_home : (f : Form) (s : Spot) (r : Rule) → Spotted f s → home s ≡ Some r → sort f ≡ Some r
at_home (leaf w) s r h e = absurd h
at_home (begin q) s r h e = ap Some (home_start q r (ap home (sym h) ∙ e))
at_home (f ▹ g) s r h e = at_home f h.from r h.begun (home_back (home h.from) (home s) r (follow_among (home h.from) h.item s (steps h.from) (follow h.from) h.allowed).0 e)

-- what goes on with the last part goes on with the node ------------------------------------------

or_false_left : (a b : Bool) → (a || b) ≡ false → a ≡ false
or_false_left true b h = h
or_false_left false b h = refl

or_false_right : (a b : Bool) → (a || b) ≡ false → b ≡ false
or_false_right true b h = cc h
or_false_right false b h = h

param_specs : (w : Word) → param_goes w ≡ false → (is_specifier w || is_open_brace w) ≡ false
param_specs (word.Specifier x) h = cc h
param_specs word.Void h = cc h
param_specs (word.Qualifier x) h = cc h
param_specs word.Future h = cc h
param_specs word.Struct h = cc h
param_specs word.OpenBrace h = cc h
param_specs _ h = refl

pub looser_pull : (n m p : ℕ) → n ≤ m → nat_lt n p ≡ false → nat_lt m p ≡ false
looser_pull n m p le e = lt-leb (suc m) p (omega (arith, le, leb-false (suc n) p e))

abbrev Covers : Rule → Class → Type 0
Covers r c = (w : Word) → rule_goes r w ≡ false → goes c w ≡ false

abbrev CoverItem : Spot → Item → Spot → Type 0
CoverItem s (item.Part c) t = (r : Rule) → home s ≡ Some r → may_end t ≡ true → Covers r c
CoverItem s (item.Word v) t = Unit {0}
CoverItem s (item.Kind k) t = Unit {0}

cover_home : (q : Rule) (c : Class) → Covers q c → (r : Rule) → Some q ≡ Some r → true ≡ true → Covers r c
cover_home q c k r e m w h = k w (ap (λ x. rule_goes x w) (same_Some q r e) ∙ h)

abbrev AllCover : Spot → List (Item × Spot) → Type 0
AllCover s [] = Unit {0}
AllCover s (t ∷ ts) = CoverItem s t.0 t.1 × AllCover s ts

covers_all : (s : Spot) → AllCover s (steps s)
covers_all spot.Done = tt
covers_all spot.Ending = (tt, tt)
covers_all spot.Closing = (tt, tt)
covers_all spot.Clause = ((λ r e m w h. cc m), (tt, tt))
covers_all spot.Unit = ((λ r e m w h. refl), tt)
covers_all spot.UnitMore = ((λ r e m w h. refl), tt)
covers_all spot.Pragma = (tt, tt)
covers_all spot.Declaration = ((λ r e m w h. cc m), tt)
covers_all spot.DeclarationFirst = ((λ r e m w h. cc m), (tt, tt))
covers_all spot.DeclarationMore = (tt, (tt, tt))
covers_all spot.DeclarationNext = ((λ r e m w h. cc m), tt)
covers_all spot.Function = ((λ r e m w h. cc m), tt)
covers_all spot.FunctionCallee = ((λ r e m w h. cc m), tt)
covers_all spot.FunctionParams = ((λ r e m w h. cc m), tt)
covers_all spot.FunctionBody = (tt, ((λ r e m w h. refl), tt))
covers_all spot.Specs = (tt, ((cover_home rule.Specs (class.Node rule.Struct) (λ w h. or_false_right (is_specifier w) (is_open_brace w) h)), tt))
covers_all spot.SpecsMore = (tt, ((cover_home rule.Specs (class.Node rule.Struct) (λ w h. or_false_right (is_specifier w) (is_open_brace w) h)), tt))
covers_all spot.Struct = (tt, tt)
covers_all spot.StructName = (tt, tt)
covers_all spot.StructBody = (tt, tt)
covers_all spot.StructFirst = ((λ r e m w h. cc m), tt)
covers_all spot.StructMore = ((λ r e m w h. cc m), (tt, tt))
covers_all spot.Member = ((λ r e m w h. cc m), tt)
covers_all spot.MemberNext = ((λ r e m w h. cc m), tt)
covers_all spot.MemberMore = (tt, (tt, tt))
covers_all spot.Declr = (tt, (tt, tt))
covers_all spot.DeclrStars = (tt, (tt, (tt, tt)))
covers_all spot.DeclrBounds = (tt, tt)
covers_all spot.DeclrBound = ((λ r e m w h. cc m), tt)
covers_all spot.DeclrClose = (tt, tt)
covers_all spot.Callee = (tt, (tt, tt))
covers_all spot.CalleeStars = (tt, (tt, (tt, tt)))
covers_all spot.Dinit = ((cover_home rule.Dinit (class.Node rule.Declr) (λ w h. or_false_left (is_open_bracket w) (nat_lt 1 (pull w)) h)), tt)
covers_all spot.DinitSet = (tt, tt)
covers_all spot.DinitInit = ((cover_home rule.Dinit class.Init (λ w h. or_false_right (is_open_bracket w) (nat_lt 1 (pull w)) h)), tt)
covers_all spot.Initialisers = (tt, tt)
covers_all spot.InitialisersFirst = ((λ r e m w h. cc m), tt)
covers_all spot.InitialisersMore = (tt, (tt, tt))
covers_all spot.InitialisersNext = ((λ r e m w h. cc m), (tt, tt))
covers_all spot.Params = (tt, tt)
covers_all spot.ParamsFirst = ((λ r e m w h. cc m), (tt, tt))
covers_all spot.ParamsMore = (tt, (tt, tt))
covers_all spot.ParamsNext = ((λ r e m w h. cc m), tt)
covers_all spot.Param = ((cover_home rule.Param (class.Node rule.Specs) param_specs), tt)
covers_all spot.ParamDeclr = (tt, (tt, (tt, tt)))
covers_all spot.ParamStars = (tt, (tt, (tt, (tt, tt))))
covers_all spot.ParamFirst = (tt, tt)
covers_all spot.ParamBound = ((λ r e m w h. cc m), (tt, tt))
covers_all spot.ParamClose = (tt, tt)
covers_all spot.ParamMore = (tt, tt)
covers_all spot.ParamNext = ((λ r e m w h. cc m), tt)
covers_all spot.Block = (tt, tt)
covers_all spot.BlockMore = ((λ r e m w h. cc m), (tt, tt))
covers_all spot.Sub = ((λ r e m w h. cc m), ((λ r e m w h. refl), tt))
covers_all spot.If = (tt, tt)
covers_all spot.IfOpen = (tt, tt)
covers_all spot.IfTest = ((λ r e m w h. cc m), tt)
covers_all spot.IfClose = (tt, tt)
covers_all spot.IfThen = ((λ r e m w h. refl), tt)
covers_all spot.IfElse = (tt, tt)
covers_all spot.IfOther = ((λ r e m w h. refl), tt)
covers_all spot.While = (tt, tt)
covers_all spot.WhileOpen = (tt, tt)
covers_all spot.WhileTest = ((λ r e m w h. cc m), tt)
covers_all spot.WhileClose = (tt, tt)
covers_all spot.WhileBody = ((λ r e m w h. refl), tt)
covers_all spot.Do = (tt, tt)
covers_all spot.DoBody = ((λ r e m w h. cc m), tt)
covers_all spot.DoWhile = (tt, tt)
covers_all spot.DoOpen = (tt, tt)
covers_all spot.DoTest = ((λ r e m w h. cc m), tt)
covers_all spot.DoClose = (tt, tt)
covers_all spot.For = (tt, tt)
covers_all spot.ForOpen = (tt, tt)
covers_all spot.ForFirst = ((λ r e m w h. cc m), ((λ r e m w h. cc m), tt))
covers_all spot.ForSecond = ((λ r e m w h. cc m), tt)
covers_all spot.ForThird = ((λ r e m w h. cc m), tt)
covers_all spot.ForBody = ((λ r e m w h. refl), tt)
covers_all spot.ForDeclaration = ((λ r e m w h. cc m), tt)
covers_all spot.ForDeclarationNext = ((λ r e m w h. cc m), tt)
covers_all spot.ForDeclarationMore = (tt, (tt, tt))
covers_all spot.Step = ((λ r e m w h. cc m), (tt, tt))
covers_all spot.Return = (tt, tt)
covers_all spot.Break = (tt, tt)
covers_all spot.Continue = (tt, tt)
covers_all spot.Future = (tt, tt)
covers_all spot.FuturePlace = ((λ r e m w h. cc m), tt)
covers_all spot.FutureOpen = (tt, tt)
covers_all spot.FutureFirst = (tt, (tt, tt))
covers_all spot.FutureMore = (tt, (tt, tt))
covers_all spot.FutureNext = (tt, tt)
covers_all spot.FutureBody = ((λ r e m w h. refl), tt)
covers_all spot.Place = (tt, tt)
covers_all spot.PlaceMore = (tt, (tt, tt))
covers_all spot.PlaceIndex = ((λ r e m w h. cc m), tt)
covers_all spot.PlaceClose = (tt, tt)
covers_all spot.PlaceMember = (tt, tt)
covers_all spot.Comma = ((λ r e m w h. cc m), tt)
covers_all spot.CommaOp = (tt, tt)
covers_all spot.CommaRight = ((cover_home rule.Comma (class.At strength.Assign) (λ w h. h)), tt)
covers_all spot.Assign = ((λ r e m w h. cc m), tt)
covers_all spot.AssignOp = (tt, tt)
covers_all spot.AssignRight = ((cover_home rule.Assign (class.At strength.Assign) (λ w h. h)), tt)
covers_all spot.Cond = ((λ r e m w h. cc m), tt)
covers_all spot.CondQuestion = (tt, tt)
covers_all spot.CondThen = ((λ r e m w h. cc m), tt)
covers_all spot.CondColon = (tt, tt)
covers_all spot.CondOther = ((cover_home rule.Cond (class.At strength.Cond) (λ w h. h)), tt)
covers_all (spot.Binary level) = ((λ r e m w h. cc m), tt)
covers_all (spot.BinaryOp level) = (tt, tt)
covers_all (spot.BinaryRight level) = ((cover_home (rule.Binary level) (class.At (tighter level)) (λ w h. h)), tt)
covers_all spot.Cast = (tt, tt)
covers_all spot.CastSpecs = ((λ r e m w h. cc m), tt)
covers_all spot.CastAfter = (tt, (tt, tt))
covers_all spot.CastStars = (tt, (tt, (tt, tt)))
covers_all spot.CastOperand = ((cover_home rule.Cast (class.At strength.Cast) (λ w h. h)), tt)
covers_all spot.Unary = (tt, (tt, tt))
covers_all spot.UnaryStep = ((cover_home rule.Unary (class.At strength.Unary) (λ w h. looser_pull 13 14 (pull w) (omega arith) h)), tt)
covers_all spot.UnaryOperand = ((cover_home rule.Unary (class.At strength.Cast) (λ w h. h)), tt)
covers_all spot.Postfix = ((λ r e m w h. cc m), tt)
covers_all spot.PostfixOp = (tt, (tt, (tt, (tt, tt))))
covers_all spot.PostfixIndex = ((λ r e m w h. cc m), tt)
covers_all spot.PostfixClose = (tt, tt)
covers_all spot.PostfixFirst = ((λ r e m w h. cc m), (tt, tt))
covers_all spot.PostfixMore = (tt, (tt, tt))
covers_all spot.PostfixNext = ((λ r e m w h. cc m), tt)
covers_all spot.PostfixMember = (tt, tt)
covers_all spot.Prim = (tt, (tt, (tt, tt)))
covers_all spot.PrimInner = ((λ r e m w h. cc m), tt)

cover_among : (s : Spot) (i : Item) (t : Spot) (ts : List (Item × Spot)) → AllCover s ts → Among i t ts → CoverItem s i t
cover_among s i t [] a m = absurd m
cover_among s i t (x ∷ ts) a m = ⊎_elim
    (λ k. subst (λ j. CoverItem s j t) k.0 (subst (λ y. CoverItem s x.0 y) k.1 a.0))
    (λ k. cover_among s i t ts a.1 k) m

pub covers : (s : Spot) (c : Class) (t : Spot) (r : Rule) (w : Word) → Among (item.Part c) t (steps s) → home s ≡ Some r → may_end t ≡ true → rule_goes r w ≡ false → goes c w ≡ false
covers s c t r w m e k h = cover_among s (item.Part c) t (steps s) (covers_all s) m r e k w h

-- a place with no rule of its own has no node before its end
abbrev HasHome : Spot → Item → Spot → Type 0
HasHome s (item.Part c) t = may_end t ≡ true → (r : Rule) × (home s ≡ Some r)
HasHome s (item.Word v) t = Unit {0}
HasHome s (item.Kind k) t = Unit {0}

abbrev AllHome : Spot → List (Item × Spot) → Type 0
AllHome s [] = Unit {0}
AllHome s (t ∷ ts) = HasHome s t.0 t.1 × AllHome s ts

homes : (s : Spot) → AllHome s (steps s)
homes spot.Done = tt
homes spot.Ending = (tt, tt)
homes spot.Closing = (tt, tt)
homes spot.Clause = ((λ m. cc m), (tt, tt))
homes spot.Unit = ((λ m. (rule.Unit, refl)), tt)
homes spot.UnitMore = ((λ m. (rule.Unit, refl)), tt)
homes spot.Pragma = (tt, tt)
homes spot.Declaration = ((λ m. (rule.Declaration, refl)), tt)
homes spot.DeclarationFirst = ((λ m. (rule.Declaration, refl)), (tt, tt))
homes spot.DeclarationMore = (tt, (tt, tt))
homes spot.DeclarationNext = ((λ m. (rule.Declaration, refl)), tt)
homes spot.Function = ((λ m. (rule.Function, refl)), tt)
homes spot.FunctionCallee = ((λ m. (rule.Function, refl)), tt)
homes spot.FunctionParams = ((λ m. (rule.Function, refl)), tt)
homes spot.FunctionBody = (tt, ((λ m. (rule.Function, refl)), tt))
homes spot.Specs = (tt, ((λ m. (rule.Specs, refl)), tt))
homes spot.SpecsMore = (tt, ((λ m. (rule.Specs, refl)), tt))
homes spot.Struct = (tt, tt)
homes spot.StructName = (tt, tt)
homes spot.StructBody = (tt, tt)
homes spot.StructFirst = ((λ m. (rule.Struct, refl)), tt)
homes spot.StructMore = ((λ m. (rule.Struct, refl)), (tt, tt))
homes spot.Member = ((λ m. (rule.Member, refl)), tt)
homes spot.MemberNext = ((λ m. (rule.Member, refl)), tt)
homes spot.MemberMore = (tt, (tt, tt))
homes spot.Declr = (tt, (tt, tt))
homes spot.DeclrStars = (tt, (tt, (tt, tt)))
homes spot.DeclrBounds = (tt, tt)
homes spot.DeclrBound = ((λ m. (rule.Declr, refl)), tt)
homes spot.DeclrClose = (tt, tt)
homes spot.Callee = (tt, (tt, tt))
homes spot.CalleeStars = (tt, (tt, (tt, tt)))
homes spot.Dinit = ((λ m. (rule.Dinit, refl)), tt)
homes spot.DinitSet = (tt, tt)
homes spot.DinitInit = ((λ m. (rule.Dinit, refl)), tt)
homes spot.Initialisers = (tt, tt)
homes spot.InitialisersFirst = ((λ m. (rule.Initialisers, refl)), tt)
homes spot.InitialisersMore = (tt, (tt, tt))
homes spot.InitialisersNext = ((λ m. (rule.Initialisers, refl)), (tt, tt))
homes spot.Params = (tt, tt)
homes spot.ParamsFirst = ((λ m. (rule.Params, refl)), (tt, tt))
homes spot.ParamsMore = (tt, (tt, tt))
homes spot.ParamsNext = ((λ m. (rule.Params, refl)), tt)
homes spot.Param = ((λ m. (rule.Param, refl)), tt)
homes spot.ParamDeclr = (tt, (tt, (tt, tt)))
homes spot.ParamStars = (tt, (tt, (tt, (tt, tt))))
homes spot.ParamFirst = (tt, tt)
homes spot.ParamBound = ((λ m. (rule.Param, refl)), (tt, tt))
homes spot.ParamClose = (tt, tt)
homes spot.ParamMore = (tt, tt)
homes spot.ParamNext = ((λ m. (rule.Param, refl)), tt)
homes spot.Block = (tt, tt)
homes spot.BlockMore = ((λ m. (rule.Block, refl)), (tt, tt))
homes spot.Sub = ((λ m. (rule.Sub, refl)), ((λ m. (rule.Sub, refl)), tt))
homes spot.If = (tt, tt)
homes spot.IfOpen = (tt, tt)
homes spot.IfTest = ((λ m. (rule.If, refl)), tt)
homes spot.IfClose = (tt, tt)
homes spot.IfThen = ((λ m. (rule.If, refl)), tt)
homes spot.IfElse = (tt, tt)
homes spot.IfOther = ((λ m. (rule.If, refl)), tt)
homes spot.While = (tt, tt)
homes spot.WhileOpen = (tt, tt)
homes spot.WhileTest = ((λ m. (rule.While, refl)), tt)
homes spot.WhileClose = (tt, tt)
homes spot.WhileBody = ((λ m. (rule.While, refl)), tt)
homes spot.Do = (tt, tt)
homes spot.DoBody = ((λ m. (rule.Do, refl)), tt)
homes spot.DoWhile = (tt, tt)
homes spot.DoOpen = (tt, tt)
homes spot.DoTest = ((λ m. (rule.Do, refl)), tt)
homes spot.DoClose = (tt, tt)
homes spot.For = (tt, tt)
homes spot.ForOpen = (tt, tt)
homes spot.ForFirst = ((λ m. (rule.For, refl)), ((λ m. (rule.For, refl)), tt))
homes spot.ForSecond = ((λ m. (rule.For, refl)), tt)
homes spot.ForThird = ((λ m. (rule.For, refl)), tt)
homes spot.ForBody = ((λ m. (rule.For, refl)), tt)
homes spot.ForDeclaration = ((λ m. (rule.ForDeclaration, refl)), tt)
homes spot.ForDeclarationNext = ((λ m. (rule.ForDeclaration, refl)), tt)
homes spot.ForDeclarationMore = (tt, (tt, tt))
homes spot.Step = ((λ m. (rule.Step, refl)), (tt, tt))
homes spot.Return = (tt, tt)
homes spot.Break = (tt, tt)
homes spot.Continue = (tt, tt)
homes spot.Future = (tt, tt)
homes spot.FuturePlace = ((λ m. (rule.Future, refl)), tt)
homes spot.FutureOpen = (tt, tt)
homes spot.FutureFirst = (tt, (tt, tt))
homes spot.FutureMore = (tt, (tt, tt))
homes spot.FutureNext = (tt, tt)
homes spot.FutureBody = ((λ m. (rule.Future, refl)), tt)
homes spot.Place = (tt, tt)
homes spot.PlaceMore = (tt, (tt, tt))
homes spot.PlaceIndex = ((λ m. (rule.Place, refl)), tt)
homes spot.PlaceClose = (tt, tt)
homes spot.PlaceMember = (tt, tt)
homes spot.Comma = ((λ m. (rule.Comma, refl)), tt)
homes spot.CommaOp = (tt, tt)
homes spot.CommaRight = ((λ m. (rule.Comma, refl)), tt)
homes spot.Assign = ((λ m. (rule.Assign, refl)), tt)
homes spot.AssignOp = (tt, tt)
homes spot.AssignRight = ((λ m. (rule.Assign, refl)), tt)
homes spot.Cond = ((λ m. (rule.Cond, refl)), tt)
homes spot.CondQuestion = (tt, tt)
homes spot.CondThen = ((λ m. (rule.Cond, refl)), tt)
homes spot.CondColon = (tt, tt)
homes spot.CondOther = ((λ m. (rule.Cond, refl)), tt)
homes (spot.Binary level) = ((λ m. ((rule.Binary level), refl)), tt)
homes (spot.BinaryOp level) = (tt, tt)
homes (spot.BinaryRight level) = ((λ m. ((rule.Binary level), refl)), tt)
homes spot.Cast = (tt, tt)
homes spot.CastSpecs = ((λ m. (rule.Cast, refl)), tt)
homes spot.CastAfter = (tt, (tt, tt))
homes spot.CastStars = (tt, (tt, (tt, tt)))
homes spot.CastOperand = ((λ m. (rule.Cast, refl)), tt)
homes spot.Unary = (tt, (tt, tt))
homes spot.UnaryStep = ((λ m. (rule.Unary, refl)), tt)
homes spot.UnaryOperand = ((λ m. (rule.Unary, refl)), tt)
homes spot.Postfix = ((λ m. (rule.Postfix, refl)), tt)
homes spot.PostfixOp = (tt, (tt, (tt, (tt, tt))))
homes spot.PostfixIndex = ((λ m. (rule.Postfix, refl)), tt)
homes spot.PostfixClose = (tt, tt)
homes spot.PostfixFirst = ((λ m. (rule.Postfix, refl)), (tt, tt))
homes spot.PostfixMore = (tt, (tt, tt))
homes spot.PostfixNext = ((λ m. (rule.Postfix, refl)), tt)
homes spot.PostfixMember = (tt, tt)
homes spot.Prim = (tt, (tt, (tt, tt)))
homes spot.PrimInner = ((λ m. (rule.Prim, refl)), tt)

home_among : (s : Spot) (i : Item) (t : Spot) (ts : List (Item × Spot)) → AllHome s ts → Among i t ts → HasHome s i t
home_among s i t [] a m = absurd m
home_among s i t (x ∷ ts) a m = ⊎_elim
    (λ k. subst (λ j. HasHome s j t) k.0 (subst (λ y. HasHome s x.0 y) k.1 a.0))
    (λ k. home_among s i t ts a.1 k) m

pub has_home : (s : Spot) (c : Class) (t : Spot) → Among (item.Part c) t (steps s) → may_end t ≡ true → (r : Rule) × (home s ≡ Some r)
has_home s c t m k = home_among s (item.Part c) t (steps s) (homes s) m k

-- where a node ends ------------------------------------------------------------------------------

ends_UnitMore : (w : Word) → rule_goes rule.Unit w ≡ false → picked (steps spot.UnitMore) w ≡ None
ends_UnitMore word.Pragma h = cc h
ends_UnitMore (word.Specifier x) h = cc h
ends_UnitMore word.Void h = cc h
ends_UnitMore (word.Qualifier x) h = cc h
ends_UnitMore word.Future h = cc h
ends_UnitMore word.Struct h = cc h
ends_UnitMore _ h = refl

ends_SpecsMore : (w : Word) → rule_goes rule.Specs w ≡ false → picked (steps spot.SpecsMore) w ≡ None
ends_SpecsMore (word.Specifier x) h = cc h
ends_SpecsMore word.Void h = cc h
ends_SpecsMore (word.Qualifier x) h = cc h
ends_SpecsMore word.Future h = cc h
ends_SpecsMore word.Struct h = cc h
ends_SpecsMore _ h = refl

ends_StructBody : (w : Word) → rule_goes rule.Struct w ≡ false → picked (steps spot.StructBody) w ≡ None
ends_StructBody word.OpenBrace h = cc h
ends_StructBody _ h = refl

ends_DeclrBounds : (w : Word) → rule_goes rule.Declr w ≡ false → picked (steps spot.DeclrBounds) w ≡ None
ends_DeclrBounds word.OpenBracket h = cc h
ends_DeclrBounds _ h = refl

ends_DinitSet : (w : Word) → rule_goes rule.Dinit w ≡ false → picked (steps spot.DinitSet) w ≡ None
ends_DinitSet word.Set h = cc h
ends_DinitSet _ h = refl

ends_ParamDeclr : (w : Word) → rule_goes rule.Param w ≡ false → picked (steps spot.ParamDeclr) w ≡ None
ends_ParamDeclr word.Star h = cc h
ends_ParamDeclr word.Name h = cc h
ends_ParamDeclr word.OpenBracket h = cc h
ends_ParamDeclr _ h = refl

ends_ParamStars : (w : Word) → rule_goes rule.Param w ≡ false → picked (steps spot.ParamStars) w ≡ None
ends_ParamStars (word.Qualifier x) h = cc h
ends_ParamStars word.Restrict h = cc h
ends_ParamStars word.Future h = cc h
ends_ParamStars word.Star h = cc h
ends_ParamStars word.Name h = cc h
ends_ParamStars word.OpenBracket h = cc h
ends_ParamStars _ h = refl

ends_ParamFirst : (w : Word) → rule_goes rule.Param w ≡ false → picked (steps spot.ParamFirst) w ≡ None
ends_ParamFirst word.OpenBracket h = cc h
ends_ParamFirst _ h = refl

ends_ParamMore : (w : Word) → rule_goes rule.Param w ≡ false → picked (steps spot.ParamMore) w ≡ None
ends_ParamMore word.OpenBracket h = cc h
ends_ParamMore _ h = refl

ends_PlaceMore : (w : Word) → rule_goes rule.Place w ≡ false → picked (steps spot.PlaceMore) w ≡ None
ends_PlaceMore word.OpenBracket h = cc h
ends_PlaceMore (word.Access x) h = cc h
ends_PlaceMore _ h = refl

ends_IfElse : (w : Word) → is_else w ≡ false → picked (steps spot.IfElse) w ≡ None
ends_IfElse word.Else h = cc h
ends_IfElse _ h = refl

pub ends_at : (s : Spot) (r : Rule) (f : Form) (w : Word) → Spotted f s → sort f ≡ Some r → may_end s ≡ true → rule_goes r w ≡ false → (s ≡ spot.IfElse → is_else w ≡ false) → picked (steps s) w ≡ None
ends_at spot.Done r f w h e m k c = refl
ends_at spot.UnitMore r f w h e m k c = ends_UnitMore w (ap (λ q. rule_goes q w) (same_Some rule.Unit r (sym (at_home f spot.UnitMore rule.Unit h refl) ∙ e)) ∙ k)
ends_at spot.SpecsMore r f w h e m k c = ends_SpecsMore w (ap (λ q. rule_goes q w) (same_Some rule.Specs r (sym (at_home f spot.SpecsMore rule.Specs h refl) ∙ e)) ∙ k)
ends_at spot.StructBody r f w h e m k c = ends_StructBody w (ap (λ q. rule_goes q w) (same_Some rule.Struct r (sym (at_home f spot.StructBody rule.Struct h refl) ∙ e)) ∙ k)
ends_at spot.DeclrBounds r f w h e m k c = ends_DeclrBounds w (ap (λ q. rule_goes q w) (same_Some rule.Declr r (sym (at_home f spot.DeclrBounds rule.Declr h refl) ∙ e)) ∙ k)
ends_at spot.DinitSet r f w h e m k c = ends_DinitSet w (ap (λ q. rule_goes q w) (same_Some rule.Dinit r (sym (at_home f spot.DinitSet rule.Dinit h refl) ∙ e)) ∙ k)
ends_at spot.ParamDeclr r f w h e m k c = ends_ParamDeclr w (ap (λ q. rule_goes q w) (same_Some rule.Param r (sym (at_home f spot.ParamDeclr rule.Param h refl) ∙ e)) ∙ k)
ends_at spot.ParamStars r f w h e m k c = ends_ParamStars w (ap (λ q. rule_goes q w) (same_Some rule.Param r (sym (at_home f spot.ParamStars rule.Param h refl) ∙ e)) ∙ k)
ends_at spot.ParamFirst r f w h e m k c = ends_ParamFirst w (ap (λ q. rule_goes q w) (same_Some rule.Param r (sym (at_home f spot.ParamFirst rule.Param h refl) ∙ e)) ∙ k)
ends_at spot.ParamMore r f w h e m k c = ends_ParamMore w (ap (λ q. rule_goes q w) (same_Some rule.Param r (sym (at_home f spot.ParamMore rule.Param h refl) ∙ e)) ∙ k)
ends_at spot.IfElse r f w h e m k c = ends_IfElse w (c refl)
ends_at spot.PlaceMore r f w h e m k c = ends_PlaceMore w (ap (λ q. rule_goes q w) (same_Some rule.Place r (sym (at_home f spot.PlaceMore rule.Place h refl) ∙ e)) ∙ k)
ends_at _ r f w h e m k c = cc m

-- nothing is picked at the end of the text
pub foreign_ends : (s : Spot) → picked (steps s) word.Foreign ≡ None
foreign_ends spot.Done = refl
foreign_ends spot.Ending = refl
foreign_ends spot.Closing = refl
foreign_ends spot.Clause = refl
foreign_ends spot.Unit = refl
foreign_ends spot.UnitMore = refl
foreign_ends spot.Pragma = refl
foreign_ends spot.Declaration = refl
foreign_ends spot.DeclarationFirst = refl
foreign_ends spot.DeclarationMore = refl
foreign_ends spot.DeclarationNext = refl
foreign_ends spot.Function = refl
foreign_ends spot.FunctionCallee = refl
foreign_ends spot.FunctionParams = refl
foreign_ends spot.FunctionBody = refl
foreign_ends spot.Specs = refl
foreign_ends spot.SpecsMore = refl
foreign_ends spot.Struct = refl
foreign_ends spot.StructName = refl
foreign_ends spot.StructBody = refl
foreign_ends spot.StructFirst = refl
foreign_ends spot.StructMore = refl
foreign_ends spot.Member = refl
foreign_ends spot.MemberNext = refl
foreign_ends spot.MemberMore = refl
foreign_ends spot.Declr = refl
foreign_ends spot.DeclrStars = refl
foreign_ends spot.DeclrBounds = refl
foreign_ends spot.DeclrBound = refl
foreign_ends spot.DeclrClose = refl
foreign_ends spot.Callee = refl
foreign_ends spot.CalleeStars = refl
foreign_ends spot.Dinit = refl
foreign_ends spot.DinitSet = refl
foreign_ends spot.DinitInit = refl
foreign_ends spot.Initialisers = refl
foreign_ends spot.InitialisersFirst = refl
foreign_ends spot.InitialisersMore = refl
foreign_ends spot.InitialisersNext = refl
foreign_ends spot.Params = refl
foreign_ends spot.ParamsFirst = refl
foreign_ends spot.ParamsMore = refl
foreign_ends spot.ParamsNext = refl
foreign_ends spot.Param = refl
foreign_ends spot.ParamDeclr = refl
foreign_ends spot.ParamStars = refl
foreign_ends spot.ParamFirst = refl
foreign_ends spot.ParamBound = refl
foreign_ends spot.ParamClose = refl
foreign_ends spot.ParamMore = refl
foreign_ends spot.ParamNext = refl
foreign_ends spot.Block = refl
foreign_ends spot.BlockMore = refl
foreign_ends spot.Sub = refl
foreign_ends spot.If = refl
foreign_ends spot.IfOpen = refl
foreign_ends spot.IfTest = refl
foreign_ends spot.IfClose = refl
foreign_ends spot.IfThen = refl
foreign_ends spot.IfElse = refl
foreign_ends spot.IfOther = refl
foreign_ends spot.While = refl
foreign_ends spot.WhileOpen = refl
foreign_ends spot.WhileTest = refl
foreign_ends spot.WhileClose = refl
foreign_ends spot.WhileBody = refl
foreign_ends spot.Do = refl
foreign_ends spot.DoBody = refl
foreign_ends spot.DoWhile = refl
foreign_ends spot.DoOpen = refl
foreign_ends spot.DoTest = refl
foreign_ends spot.DoClose = refl
foreign_ends spot.For = refl
foreign_ends spot.ForOpen = refl
foreign_ends spot.ForFirst = refl
foreign_ends spot.ForSecond = refl
foreign_ends spot.ForThird = refl
foreign_ends spot.ForBody = refl
foreign_ends spot.ForDeclaration = refl
foreign_ends spot.ForDeclarationNext = refl
foreign_ends spot.ForDeclarationMore = refl
foreign_ends spot.Step = refl
foreign_ends spot.Return = refl
foreign_ends spot.Break = refl
foreign_ends spot.Continue = refl
foreign_ends spot.Future = refl
foreign_ends spot.FuturePlace = refl
foreign_ends spot.FutureOpen = refl
foreign_ends spot.FutureFirst = refl
foreign_ends spot.FutureMore = refl
foreign_ends spot.FutureNext = refl
foreign_ends spot.FutureBody = refl
foreign_ends spot.Place = refl
foreign_ends spot.PlaceMore = refl
foreign_ends spot.PlaceIndex = refl
foreign_ends spot.PlaceClose = refl
foreign_ends spot.PlaceMember = refl
foreign_ends spot.Comma = refl
foreign_ends spot.CommaOp = refl
foreign_ends spot.CommaRight = refl
foreign_ends spot.Assign = refl
foreign_ends spot.AssignOp = refl
foreign_ends spot.AssignRight = refl
foreign_ends spot.Cond = refl
foreign_ends spot.CondQuestion = refl
foreign_ends spot.CondThen = refl
foreign_ends spot.CondColon = refl
foreign_ends spot.CondOther = refl
foreign_ends (spot.Binary level) = refl
foreign_ends (spot.BinaryOp level_name.Or) = refl
foreign_ends (spot.BinaryOp level_name.And) = refl
foreign_ends (spot.BinaryOp level_name.BitOr) = refl
foreign_ends (spot.BinaryOp level_name.BitXor) = refl
foreign_ends (spot.BinaryOp level_name.BitAnd) = refl
foreign_ends (spot.BinaryOp level_name.Equality) = refl
foreign_ends (spot.BinaryOp level_name.Relation) = refl
foreign_ends (spot.BinaryOp level_name.Shift) = refl
foreign_ends (spot.BinaryOp level_name.Sum) = refl
foreign_ends (spot.BinaryOp level_name.Product) = refl
foreign_ends (spot.BinaryRight level) = refl
foreign_ends spot.Cast = refl
foreign_ends spot.CastSpecs = refl
foreign_ends spot.CastAfter = refl
foreign_ends spot.CastStars = refl
foreign_ends spot.CastOperand = refl
foreign_ends spot.Unary = refl
foreign_ends spot.UnaryStep = refl
foreign_ends spot.UnaryOperand = refl
foreign_ends spot.Postfix = refl
foreign_ends spot.PostfixOp = refl
foreign_ends spot.PostfixIndex = refl
foreign_ends spot.PostfixClose = refl
foreign_ends spot.PostfixFirst = refl
foreign_ends spot.PostfixMore = refl
foreign_ends spot.PostfixNext = refl
foreign_ends spot.PostfixMember = refl
foreign_ends spot.Prim = refl
foreign_ends spot.PrimInner = refl

-- no node begins with an empty rule
pub begun_goes : (r : Rule) → may_end (start r) ≡ false
begun_goes rule.Unit = refl
begun_goes rule.Pragma = refl
begun_goes rule.Declaration = refl
begun_goes rule.Function = refl
begun_goes rule.Specs = refl
begun_goes rule.Struct = refl
begun_goes rule.Member = refl
begun_goes rule.Declr = refl
begun_goes rule.Callee = refl
begun_goes rule.Dinit = refl
begun_goes rule.Initialisers = refl
begun_goes rule.Params = refl
begun_goes rule.Param = refl
begun_goes rule.Block = refl
begun_goes rule.Sub = refl
begun_goes rule.Eval = refl
begun_goes rule.Clause = refl
begun_goes rule.If = refl
begun_goes rule.While = refl
begun_goes rule.Do = refl
begun_goes rule.For = refl
begun_goes rule.ForDeclaration = refl
begun_goes rule.Step = refl
begun_goes rule.Return = refl
begun_goes rule.Break = refl
begun_goes rule.Continue = refl
begun_goes rule.Future = refl
begun_goes rule.Place = refl
begun_goes rule.Comma = refl
begun_goes rule.Assign = refl
begun_goes rule.Cond = refl
begun_goes (rule.Binary level) = refl
begun_goes rule.Cast = refl
begun_goes rule.Unary = refl
begun_goes rule.Postfix = refl
begun_goes rule.Prim = refl
