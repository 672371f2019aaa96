-- Facts of the rules' places: which words lead where, and which words may follow a node.
use Rattle.std.proofs.Common.{◌≡◌, ℕ, List, [], ◌∷◌, Some, Bool, true, false, refl, sym, ap, ◌∙◌}
use Rattle.std.specs.Prelude.{◌==◌, nat_lt, slice_get, ◌||◌, if◌then◌else◌}
use Rattle.std.proofs.lemmas.Option.{same_Some}
use Rattle.std.proofs.lemmas.Bool.{eqb-true}
use mathlib.Core.Logic.{⊎_elim}
use Rattle.xc_raw.specs.declared.word.Word.{Word}
use Rattle.xc_raw.specs.declared.word.Word.TheVariants as word
use Rattle.xc_raw.specs.declared.rule.Rule.{Rule}
use Rattle.xc_raw.specs.declared.rule.Rule.TheVariants as rule
use Rattle.xc_parse_grammar.specs.declared.marks.Strength.TheVariants as strength
use Rattle.xc_parse_grammar.specs.declared.marks.Class.{Class}
use Rattle.xc_parse_grammar.specs.declared.marks.Class.TheVariants as class
use Rattle.xc_parse_grammar.specs.declared.marks.Kind.TheVariants as kind
use Rattle.xc_parse_grammar.specs.declared.marks.Item.{Item}
use Rattle.xc_parse_grammar.specs.declared.marks.Item.TheVariants as item
use Rattle.xc_parse_grammar.specs.declared.spots.Spot.{Spot}
use Rattle.xc_parse_grammar.specs.declared.spots.Spot.TheVariants as spot
use Rattle.xc_parse_grammar.specs.Marks.{number, accepts, rank, is_word_specifier, is_specifier, is_literal, is_access, is_step, is_prefix, is_pragma, is_open_brace, is_semicolon, is_close, begins_expr, begins_stmt, begins_rule, begins}
use Rattle.xc_raw.specs.Kinds.{is_struct}
use Rattle.xc_parse_grammar.specs.Grammar.{Among, height, AtLeast, InClass, is_stmt}
use Rattle.xc_parse_grammar.specs.Spots.{steps, start}
use Rattle.xc_parse_grammar.specs.Plan.{picked}

-- words by their numbers -------------------------------------------------------------------------

abbrev words : List Word
words = word.Foreign ∷ word.Name ∷ word.Pragma ∷ word.Void ∷ word.Future ∷ word.Restrict ∷ word.Struct ∷ word.If ∷ word.Else ∷ word.While ∷ word.Do ∷ word.For ∷ word.Return ∷ word.Break ∷ word.Continue ∷ word.Open ∷ word.Close ∷ word.OpenBracket ∷ word.CloseBracket ∷ word.OpenBrace ∷ word.CloseBrace ∷ word.Question ∷ word.Colon ∷ word.Semicolon ∷ word.Comma ∷ word.Set ∷ word.Star ∷ word.Ampersand ∷ []

abbrev plain : Word → Bool
plain w = nat_lt 0 (number w)

numbered : (w : Word) → plain w ≡ true → slice_get words (number w) ≡ Some w
numbered word.Name e = refl
numbered (word.Literal x) e = cc e
numbered word.Pragma e = refl
numbered (word.Specifier x) e = cc e
numbered word.Void e = refl
numbered (word.Qualifier x) e = cc e
numbered word.Future e = refl
numbered word.Restrict e = refl
numbered word.Struct e = refl
numbered word.If e = refl
numbered word.Else e = refl
numbered word.While e = refl
numbered word.Do e = refl
numbered word.For e = refl
numbered word.Return e = refl
numbered word.Break e = refl
numbered word.Continue e = refl
numbered word.Open e = refl
numbered word.Close e = refl
numbered word.OpenBracket e = refl
numbered word.CloseBracket e = refl
numbered word.OpenBrace e = refl
numbered word.CloseBrace e = refl
numbered (word.Access x) e = cc e
numbered word.Question e = refl
numbered word.Colon e = refl
numbered word.Semicolon e = refl
numbered word.Comma e = refl
numbered word.Set e = refl
numbered (word.Assign x) e = cc e
numbered word.Star e = refl
numbered word.Ampersand e = refl
numbered (word.Sign x) e = cc e
numbered (word.Complement x) e = cc e
numbered (word.Step x) e = cc e
numbered (word.Binary x) e = cc e
numbered word.Foreign e = cc e

eq_of : (a b : ℕ) → (a == b) ≡ true → a ≡ b
eq_of a b e = eqb-true a b e

-- a word without a value is known by its number
pub same_word : (u w : Word) → plain u ≡ true → accepts (item.Word u) w ≡ true → w ≡ u
same_word u w p e =
    let n : number u ≡ number w = eq_of (number u) (number w) e in
    let q : plain w ≡ true = ap (nat_lt 0) (sym n) ∙ p in
    same_Some w u (sym (numbered w q) ∙ ap (λ k. slice_get words k) (sym n) ∙ numbered u p)

-- which step is picked ---------------------------------------------------------------------------

-- a word of the second item is none of the first
abbrev pub Apart : Item → Item → Type 0
Apart i j = (w : Word) → accepts j w ≡ true → accepts i w ≡ false

by_bool : (b : Bool) → (b ≡ true → ⊥) → b ≡ false
by_bool true k = absurd (k refl)
by_bool false k = refl

word_first : (u : Word) (j : Item) → plain u ≡ true → accepts j u ≡ false → Apart (item.Word u) j
word_first u j p e w h = by_bool (accepts (item.Word u) w) (λ k. let bad : true ≡ false = sym h ∙ ap (accepts j) (same_word u w p k) ∙ e in cc bad)

word_later : (i : Item) (v : Word) → plain v ≡ true → accepts i v ≡ false → Apart i (item.Word v)
word_later i v p e w h = ap (accepts i) (same_word v w p h) ∙ e

specifier_struct : (w : Word) → is_struct w ≡ true → is_word_specifier w ≡ false
specifier_struct word.Struct h = refl
specifier_struct _ h = cc h

pragma_stmt : (w : Word) → begins_stmt w ≡ true → is_pragma w ≡ false
pragma_stmt word.Semicolon h = refl
pragma_stmt word.OpenBrace h = refl
pragma_stmt word.If h = refl
pragma_stmt word.While h = refl
pragma_stmt word.Do h = refl
pragma_stmt word.For h = refl
pragma_stmt word.Return h = refl
pragma_stmt word.Break h = refl
pragma_stmt word.Continue h = refl
pragma_stmt word.Future h = refl
pragma_stmt word.Name h = refl
pragma_stmt (word.Literal x) h = refl
pragma_stmt word.Open h = refl
pragma_stmt word.Star h = refl
pragma_stmt word.Ampersand h = refl
pragma_stmt (word.Sign x) h = refl
pragma_stmt (word.Complement x) h = refl
pragma_stmt (word.Step x) h = refl
pragma_stmt _ h = cc h

specifier_clause : (w : Word) → begins_rule rule.Clause w ≡ true → is_specifier w ≡ false
specifier_clause word.Semicolon h = refl
specifier_clause word.Name h = refl
specifier_clause (word.Literal x) h = refl
specifier_clause word.Open h = refl
specifier_clause word.Star h = refl
specifier_clause word.Ampersand h = refl
specifier_clause (word.Sign x) h = refl
specifier_clause (word.Complement x) h = refl
specifier_clause (word.Step x) h = refl
specifier_clause _ h = cc h

step_prefix : (w : Word) → is_prefix w ≡ true → is_step w ≡ false
step_prefix word.Star h = refl
step_prefix word.Ampersand h = refl
step_prefix (word.Sign x) h = refl
step_prefix (word.Complement x) h = refl
step_prefix _ h = cc h

access_step : (w : Word) → is_step w ≡ true → is_access w ≡ false
access_step (word.Step x) h = refl
access_step _ h = cc h

abbrev ApartFrom : Item → List (Item × Spot) → Type 0
ApartFrom i [] = Unit {0}
ApartFrom i (t ∷ ts) = Apart i t.0 × ApartFrom i ts

abbrev AllApart : List (Item × Spot) → Type 0
AllApart [] = Unit {0}
AllApart (t ∷ ts) = ApartFrom t.0 ts × AllApart ts

all_apart : (s : Spot) → AllApart (steps s)
all_apart spot.Done = tt
all_apart spot.Ending = (tt, tt)
all_apart spot.Closing = (tt, tt)
all_apart spot.Clause = ((word_later (item.Part (class.At strength.Expr)) word.Semicolon refl refl, tt), (tt, tt))
all_apart spot.Unit = (tt, tt)
all_apart spot.UnitMore = (tt, tt)
all_apart spot.Pragma = (tt, tt)
all_apart spot.Declaration = (tt, tt)
all_apart spot.DeclarationFirst = ((word_later (item.Part (class.Node rule.Dinit)) word.Semicolon refl refl, tt), (tt, tt))
all_apart spot.DeclarationMore = ((word_first word.Comma (item.Word word.Semicolon) refl refl, tt), (tt, tt))
all_apart spot.DeclarationNext = (tt, tt)
all_apart spot.Function = (tt, tt)
all_apart spot.FunctionCallee = (tt, tt)
all_apart spot.FunctionParams = (tt, tt)
all_apart spot.FunctionBody = ((word_first word.Semicolon (item.Part (class.Node rule.Block)) refl refl, tt), (tt, tt))
all_apart spot.Specs = ((specifier_struct, tt), (tt, tt))
all_apart spot.SpecsMore = ((specifier_struct, tt), (tt, tt))
all_apart spot.Struct = (tt, tt)
all_apart spot.StructName = (tt, tt)
all_apart spot.StructBody = (tt, tt)
all_apart spot.StructFirst = (tt, tt)
all_apart spot.StructMore = ((word_later (item.Part (class.Node rule.Member)) word.CloseBrace refl refl, tt), (tt, tt))
all_apart spot.Member = (tt, tt)
all_apart spot.MemberNext = (tt, tt)
all_apart spot.MemberMore = ((word_first word.Comma (item.Word word.Semicolon) refl refl, tt), (tt, tt))
all_apart spot.Declr = ((word_first word.Star (item.Word word.Name) refl refl, tt), (tt, tt))
all_apart spot.DeclrStars = ((word_later (item.Kind kind.Qualifier) word.Star refl refl, (word_later (item.Kind kind.Qualifier) word.Name refl refl, tt)), ((word_first word.Star (item.Word word.Name) refl refl, tt), (tt, tt)))
all_apart spot.DeclrBounds = (tt, tt)
all_apart spot.DeclrBound = (tt, tt)
all_apart spot.DeclrClose = (tt, tt)
all_apart spot.Callee = ((word_first word.Star (item.Word word.Name) refl refl, tt), (tt, tt))
all_apart spot.CalleeStars = ((word_later (item.Kind kind.Qualifier) word.Star refl refl, (word_later (item.Kind kind.Qualifier) word.Name refl refl, tt)), ((word_first word.Star (item.Word word.Name) refl refl, tt), (tt, tt)))
all_apart spot.Dinit = (tt, tt)
all_apart spot.DinitSet = (tt, tt)
all_apart spot.DinitInit = (tt, tt)
all_apart spot.Initialisers = (tt, tt)
all_apart spot.InitialisersFirst = (tt, tt)
all_apart spot.InitialisersMore = ((word_first word.Comma (item.Word word.CloseBrace) refl refl, tt), (tt, tt))
all_apart spot.InitialisersNext = ((word_later (item.Part class.Init) word.CloseBrace refl refl, tt), (tt, tt))
all_apart spot.Params = (tt, tt)
all_apart spot.ParamsFirst = ((word_later (item.Part (class.Node rule.Param)) word.Close refl refl, tt), (tt, tt))
all_apart spot.ParamsMore = ((word_first word.Comma (item.Word word.Close) refl refl, tt), (tt, tt))
all_apart spot.ParamsNext = (tt, tt)
all_apart spot.Param = (tt, tt)
all_apart spot.ParamDeclr = ((word_first word.Star (item.Word word.Name) refl refl, (word_first word.Star (item.Word word.OpenBracket) refl refl, tt)), ((word_first word.Name (item.Word word.OpenBracket) refl refl, tt), (tt, tt)))
all_apart spot.ParamStars = ((word_later (item.Kind kind.Qualifier) word.Star refl refl, (word_later (item.Kind kind.Qualifier) word.Name refl refl, (word_later (item.Kind kind.Qualifier) word.OpenBracket refl refl, tt))), ((word_first word.Star (item.Word word.Name) refl refl, (word_first word.Star (item.Word word.OpenBracket) refl refl, tt)), ((word_first word.Name (item.Word word.OpenBracket) refl refl, tt), (tt, tt))))
all_apart spot.ParamFirst = (tt, tt)
all_apart spot.ParamBound = ((word_later (item.Part (class.At strength.Cond)) word.CloseBracket refl refl, tt), (tt, tt))
all_apart spot.ParamClose = (tt, tt)
all_apart spot.ParamMore = (tt, tt)
all_apart spot.ParamNext = (tt, tt)
all_apart spot.Block = (tt, tt)
all_apart spot.BlockMore = ((word_later (item.Part class.BlockItem) word.CloseBrace refl refl, tt), (tt, tt))
all_apart spot.Sub = ((pragma_stmt, tt), (tt, tt))
all_apart spot.If = (tt, tt)
all_apart spot.IfOpen = (tt, tt)
all_apart spot.IfTest = (tt, tt)
all_apart spot.IfClose = (tt, tt)
all_apart spot.IfThen = (tt, tt)
all_apart spot.IfElse = (tt, tt)
all_apart spot.IfOther = (tt, tt)
all_apart spot.While = (tt, tt)
all_apart spot.WhileOpen = (tt, tt)
all_apart spot.WhileTest = (tt, tt)
all_apart spot.WhileClose = (tt, tt)
all_apart spot.WhileBody = (tt, tt)
all_apart spot.Do = (tt, tt)
all_apart spot.DoBody = (tt, tt)
all_apart spot.DoWhile = (tt, tt)
all_apart spot.DoOpen = (tt, tt)
all_apart spot.DoTest = (tt, tt)
all_apart spot.DoClose = (tt, tt)
all_apart spot.For = (tt, tt)
all_apart spot.ForOpen = (tt, tt)
all_apart spot.ForFirst = ((specifier_clause, tt), (tt, tt))
all_apart spot.ForSecond = (tt, tt)
all_apart spot.ForThird = (tt, tt)
all_apart spot.ForBody = (tt, tt)
all_apart spot.ForDeclaration = (tt, tt)
all_apart spot.ForDeclarationNext = (tt, tt)
all_apart spot.ForDeclarationMore = ((word_first word.Comma (item.Word word.Semicolon) refl refl, tt), (tt, tt))
all_apart spot.Step = ((word_later (item.Part (class.At strength.Expr)) word.Close refl refl, tt), (tt, tt))
all_apart spot.Return = (tt, tt)
all_apart spot.Break = (tt, tt)
all_apart spot.Continue = (tt, tt)
all_apart spot.Future = (tt, tt)
all_apart spot.FuturePlace = (tt, tt)
all_apart spot.FutureOpen = (tt, tt)
all_apart spot.FutureFirst = ((word_first word.Name (item.Word word.Close) refl refl, tt), (tt, tt))
all_apart spot.FutureMore = ((word_first word.Comma (item.Word word.Close) refl refl, tt), (tt, tt))
all_apart spot.FutureNext = (tt, tt)
all_apart spot.FutureBody = (tt, tt)
all_apart spot.Place = (tt, tt)
all_apart spot.PlaceMore = ((word_first word.OpenBracket (item.Kind kind.Access) refl refl, tt), (tt, tt))
all_apart spot.PlaceIndex = (tt, tt)
all_apart spot.PlaceClose = (tt, tt)
all_apart spot.PlaceMember = (tt, tt)
all_apart spot.Comma = (tt, tt)
all_apart spot.CommaOp = (tt, tt)
all_apart spot.CommaRight = (tt, tt)
all_apart spot.Assign = (tt, tt)
all_apart spot.AssignOp = (tt, tt)
all_apart spot.AssignRight = (tt, tt)
all_apart spot.Cond = (tt, tt)
all_apart spot.CondQuestion = (tt, tt)
all_apart spot.CondThen = (tt, tt)
all_apart spot.CondColon = (tt, tt)
all_apart spot.CondOther = (tt, tt)
all_apart (spot.Binary level) = (tt, tt)
all_apart (spot.BinaryOp level) = (tt, tt)
all_apart (spot.BinaryRight level) = (tt, tt)
all_apart spot.Cast = (tt, tt)
all_apart spot.CastSpecs = (tt, tt)
all_apart spot.CastAfter = ((word_first word.Star (item.Word word.Close) refl refl, tt), (tt, tt))
all_apart spot.CastStars = ((word_later (item.Kind kind.Qualifier) word.Star refl refl, (word_later (item.Kind kind.Qualifier) word.Close refl refl, tt)), ((word_first word.Star (item.Word word.Close) refl refl, tt), (tt, tt)))
all_apart spot.CastOperand = (tt, tt)
all_apart spot.Unary = ((step_prefix, tt), (tt, tt))
all_apart spot.UnaryStep = (tt, tt)
all_apart spot.UnaryOperand = (tt, tt)
all_apart spot.Postfix = (tt, tt)
all_apart spot.PostfixOp = ((word_first word.OpenBracket (item.Word word.Open) refl refl, (word_first word.OpenBracket (item.Kind kind.Access) refl refl, (word_first word.OpenBracket (item.Kind kind.Step) refl refl, tt))), ((word_first word.Open (item.Kind kind.Access) refl refl, (word_first word.Open (item.Kind kind.Step) refl refl, tt)), ((access_step, tt), (tt, tt))))
all_apart spot.PostfixIndex = (tt, tt)
all_apart spot.PostfixClose = (tt, tt)
all_apart spot.PostfixFirst = ((word_later (item.Part (class.At strength.Assign)) word.Close refl refl, tt), (tt, tt))
all_apart spot.PostfixMore = ((word_first word.Comma (item.Word word.Close) refl refl, tt), (tt, tt))
all_apart spot.PostfixNext = (tt, tt)
all_apart spot.PostfixMember = (tt, tt)
all_apart spot.Prim = ((word_first word.Name (item.Kind kind.Literal) refl refl, (word_first word.Name (item.Word word.Open) refl refl, tt)), ((word_later (item.Kind kind.Literal) word.Open refl refl, tt), (tt, tt)))
all_apart spot.PrimInner = (tt, tt)

apart_among : (i j : Item) (s : Spot) (ts : List (Item × Spot)) (w : Word) → ApartFrom i ts → Among j s ts → accepts j w ≡ true → accepts i w ≡ false
apart_among i j s [] w a m h = absurd m
apart_among i j s (t ∷ ts) w a m h = ⊎_elim (λ k. a.0 w (ap (λ x. accepts x w) k.0 ∙ h)) (λ k. apart_among i j s ts w a.1 k h) m

pair_of : (t : Item × Spot) (i : Item) (s : Spot) → t.0 ≡ i → t.1 ≡ s → t ≡ (i, s)
pair_of t i s a b = ap (λ x. (x, t.1)) a ∙ ap (λ y. (i, y)) b

picks_in : (ts : List (Item × Spot)) (i : Item) (s : Spot) (w : Word) → AllApart ts → Among i s ts → accepts i w ≡ true → picked ts w ≡ Some (i, s)
picks_in [] i s w a m h = absurd m
picks_in (t ∷ ts) i s w a m h = ⊎_elim
    (λ k. ap (λ b. if b then Some t else picked ts w) (ap (λ x. accepts x w) k.0 ∙ h) ∙ ap Some (pair_of t i s k.0 k.1))
    (λ k. ap (λ b. if b then Some t else picked ts w) (apart_among t.0 i s ts w a.0 k h) ∙ picks_in ts i s w a.1 k h) m

-- the step of the item that comes is picked
pub picks : (s : Spot) (i : Item) (t : Spot) (w : Word) → Among i t (steps s) → accepts i w ≡ true → picked (steps s) w ≡ Some (i, t)
picks s i t w m h = picks_in (steps s) i t w (all_apart s) m h

-- the first words of nodes -----------------------------------------------------------------------

abbrev Under : Item → Rule → Type 0
Under i r = (w : Word) → accepts i w ≡ true → begins_rule r w ≡ true

abbrev AllUnder : List (Item × Spot) → Rule → Type 0
AllUnder [] r = Unit {0}
AllUnder (t ∷ ts) r = Under t.0 r × AllUnder ts r

word_under : (u : Word) (r : Rule) → plain u ≡ true → begins_rule r u ≡ true → Under (item.Word u) r
word_under u r p e w h = ap (begins_rule r) (same_word u w p h) ∙ e

or_left : (a b : Bool) → a ≡ true → (a || b) ≡ true
or_left true b h = refl
or_left false b h = cc h

or_right : (a b : Bool) → b ≡ true → (a || b) ≡ true
or_right true b h = refl
or_right false b h = h

word_specifier : (w : Word) → is_word_specifier w ≡ true → is_specifier w ≡ true
word_specifier (word.Specifier x) h = refl
word_specifier word.Void h = refl
word_specifier (word.Qualifier x) h = refl
word_specifier word.Future h = refl
word_specifier _ h = cc h

struct_specifier : (w : Word) → is_struct w ≡ true → is_specifier w ≡ true
struct_specifier word.Struct h = refl
struct_specifier _ h = cc h

literal_expr : (w : Word) → is_literal w ≡ true → begins_expr w ≡ true
literal_expr (word.Literal x) h = refl
literal_expr _ h = cc h

step_expr : (w : Word) → is_step w ≡ true → begins_expr w ≡ true
step_expr (word.Step x) h = refl
step_expr _ h = cc h

prefix_expr : (w : Word) → is_prefix w ≡ true → begins_expr w ≡ true
prefix_expr word.Star h = refl
prefix_expr word.Ampersand h = refl
prefix_expr (word.Sign x) h = refl
prefix_expr (word.Complement x) h = refl
prefix_expr _ h = cc h

all_under : (r : Rule) → AllUnder (steps (start r)) r
all_under rule.Unit = ((λ w h. h), tt)
all_under rule.Pragma = (word_under word.Pragma rule.Pragma refl refl, tt)
all_under rule.Declaration = ((λ w h. h), tt)
all_under rule.Function = ((λ w h. h), tt)
all_under rule.Specs = (word_specifier, (struct_specifier, tt))
all_under rule.Struct = (word_under word.Struct rule.Struct refl refl, tt)
all_under rule.Member = ((λ w h. h), tt)
all_under rule.Declr = (word_under word.Star rule.Declr refl refl, (word_under word.Name rule.Declr refl refl, tt))
all_under rule.Callee = (word_under word.Star rule.Callee refl refl, (word_under word.Name rule.Callee refl refl, tt))
all_under rule.Dinit = ((λ w h. h), tt)
all_under rule.Initialisers = (word_under word.OpenBrace rule.Initialisers refl refl, tt)
all_under rule.Params = (word_under word.Open rule.Params refl refl, tt)
all_under rule.Param = ((λ w h. h), tt)
all_under rule.Block = (word_under word.OpenBrace rule.Block refl refl, tt)
all_under rule.Sub = ((λ w h. or_left (is_pragma w) (begins_stmt w) h), ((λ w h. or_right (is_pragma w) (begins_stmt w) h), tt))
all_under rule.Eval = ((λ w h. or_right (is_semicolon w) (begins_expr w) h), (word_under word.Semicolon rule.Eval refl refl, tt))
all_under rule.Clause = ((λ w h. or_right (is_semicolon w) (begins_expr w) h), (word_under word.Semicolon rule.Clause refl refl, tt))
all_under rule.If = (word_under word.If rule.If refl refl, tt)
all_under rule.While = (word_under word.While rule.While refl refl, tt)
all_under rule.Do = (word_under word.Do rule.Do refl refl, tt)
all_under rule.For = (word_under word.For rule.For refl refl, tt)
all_under rule.ForDeclaration = ((λ w h. h), tt)
all_under rule.Step = ((λ w h. or_right (is_close w) (begins_expr w) h), (word_under word.Close rule.Step refl refl, tt))
all_under rule.Return = (word_under word.Return rule.Return refl refl, tt)
all_under rule.Break = (word_under word.Break rule.Break refl refl, tt)
all_under rule.Continue = (word_under word.Continue rule.Continue refl refl, tt)
all_under rule.Future = (word_under word.Future rule.Future refl refl, tt)
all_under rule.Place = (word_under word.Name rule.Place refl refl, tt)
all_under rule.Comma = ((λ w h. h), tt)
all_under rule.Assign = ((λ w h. h), tt)
all_under rule.Cond = ((λ w h. h), tt)
all_under (rule.Binary level) = ((λ w h. h), tt)
all_under rule.Cast = (word_under word.Open rule.Cast refl refl, tt)
all_under rule.Unary = (step_expr, (prefix_expr, tt))
all_under rule.Postfix = ((λ w h. h), tt)
all_under rule.Prim = (word_under word.Name rule.Prim refl refl, (literal_expr, (word_under word.Open rule.Prim refl refl, tt)))

under_among : (i : Item) (s : Spot) (ts : List (Item × Spot)) (r : Rule) → AllUnder ts r → Among i s ts → Under i r
under_among i s [] r a m w h = absurd m
under_among i s (t ∷ ts) r a m w h = ⊎_elim (λ k. a.0 w (ap (λ x. accepts x w) k.0 ∙ h)) (λ k. under_among i s ts r a.1 k w h) m

-- what can come first in a rule, a node of it can begin with
pub under : (r : Rule) (i : Item) (s : Spot) (w : Word) → Among i s (steps (start r)) → accepts i w ≡ true → begins_rule r w ≡ true
under r i s w m h = under_among i s (steps (start r)) r (all_under r) m w h

stmt_expr : (w : Word) → begins_expr w ≡ true → begins_stmt w ≡ true
stmt_expr word.Name h = refl
stmt_expr (word.Literal x) h = refl
stmt_expr word.Open h = refl
stmt_expr word.Star h = refl
stmt_expr word.Ampersand h = refl
stmt_expr (word.Sign x) h = refl
stmt_expr (word.Complement x) h = refl
stmt_expr (word.Step x) h = refl
stmt_expr _ h = cc h

expr_rule : (r : Rule) (n : ℕ) (w : Word) → AtLeast n (height r) → begins_rule r w ≡ true → begins_expr w ≡ true
expr_rule rule.Comma n w a h = h
expr_rule rule.Assign n w a h = h
expr_rule rule.Cond n w a h = h
expr_rule (rule.Binary level) n w a h = h
expr_rule rule.Cast n w a h = h
expr_rule rule.Unary n w a h = h
expr_rule rule.Postfix n w a h = h
expr_rule rule.Prim n w a h = h
expr_rule _ n w a h = absurd a

stmt_semicolon : (w : Word) → (is_semicolon w || begins_expr w) ≡ true → begins_stmt w ≡ true
stmt_semicolon word.Semicolon h = refl
stmt_semicolon word.Name h = refl
stmt_semicolon (word.Literal x) h = refl
stmt_semicolon word.Open h = refl
stmt_semicolon word.Star h = refl
stmt_semicolon word.Ampersand h = refl
stmt_semicolon (word.Sign x) h = refl
stmt_semicolon (word.Complement x) h = refl
stmt_semicolon (word.Step x) h = refl
stmt_semicolon _ h = cc h

stmt_Block : (w : Word) → begins_rule rule.Block w ≡ true → begins_stmt w ≡ true
stmt_Block word.OpenBrace h = refl
stmt_Block _ h = cc h

stmt_If : (w : Word) → begins_rule rule.If w ≡ true → begins_stmt w ≡ true
stmt_If word.If h = refl
stmt_If _ h = cc h

stmt_While : (w : Word) → begins_rule rule.While w ≡ true → begins_stmt w ≡ true
stmt_While word.While h = refl
stmt_While _ h = cc h

stmt_Do : (w : Word) → begins_rule rule.Do w ≡ true → begins_stmt w ≡ true
stmt_Do word.Do h = refl
stmt_Do _ h = cc h

stmt_For : (w : Word) → begins_rule rule.For w ≡ true → begins_stmt w ≡ true
stmt_For word.For h = refl
stmt_For _ h = cc h

stmt_Return : (w : Word) → begins_rule rule.Return w ≡ true → begins_stmt w ≡ true
stmt_Return word.Return h = refl
stmt_Return _ h = cc h

stmt_Break : (w : Word) → begins_rule rule.Break w ≡ true → begins_stmt w ≡ true
stmt_Break word.Break h = refl
stmt_Break _ h = cc h

stmt_Continue : (w : Word) → begins_rule rule.Continue w ≡ true → begins_stmt w ≡ true
stmt_Continue word.Continue h = refl
stmt_Continue _ h = cc h

stmt_Future : (w : Word) → begins_rule rule.Future w ≡ true → begins_stmt w ≡ true
stmt_Future word.Future h = refl
stmt_Future _ h = cc h

stmt_rule : (r : Rule) (w : Word) → is_stmt r ≡ true → begins_rule r w ≡ true → begins_stmt w ≡ true
stmt_rule rule.Eval w e h = stmt_semicolon w h
stmt_rule rule.Block w e h = stmt_Block w h
stmt_rule rule.If w e h = stmt_If w h
stmt_rule rule.While w e h = stmt_While w h
stmt_rule rule.Do w e h = stmt_Do w h
stmt_rule rule.For w e h = stmt_For w h
stmt_rule rule.Return w e h = stmt_Return w h
stmt_rule rule.Break w e h = stmt_Break w h
stmt_rule rule.Continue w e h = stmt_Continue w h
stmt_rule rule.Future w e h = stmt_Future w h
stmt_rule _ w e h = cc e

item_rule : (r : Rule) (w : Word) → InClass class.Item r → begins_rule r w ≡ true → (is_pragma w || is_specifier w) ≡ true
item_rule rule.Pragma w e h = or_left (is_pragma w) (is_specifier w) h
item_rule rule.Declaration w e h = or_right (is_pragma w) (is_specifier w) h
item_rule rule.Function w e h = or_right (is_pragma w) (is_specifier w) h
item_rule _ w e h = cc e

-- a node of a class begins as the class can
pub class_begins : (c : Class) (r : Rule) (w : Word) → InClass c r → begins_rule r w ≡ true → begins c w ≡ true
class_begins (class.Node q) r w i h = ap (λ x. begins_rule x w) (sym i) ∙ h
class_begins class.Item r w i h = item_rule r w i h
class_begins class.BlockItem r w i h = ⊎_elim
    (λ e. or_left (is_pragma w || is_specifier w) (begins_stmt w) (or_left (is_pragma w) (is_specifier w) (ap (λ x. begins_rule x w) (sym e) ∙ h)))
    (λ k. ⊎_elim
    (λ e. or_left (is_pragma w || is_specifier w) (begins_stmt w) (or_right (is_pragma w) (is_specifier w) (ap (λ x. begins_rule x w) (sym e) ∙ h)))
    (λ e. or_right (is_pragma w || is_specifier w) (begins_stmt w) (stmt_rule r w e h)) k) i
class_begins class.Stmt r w i h = stmt_rule r w i h
class_begins class.Init r w i h = ⊎_elim
    (λ e. or_left (is_open_brace w) (begins_expr w) (ap (λ x. begins_rule x w) (sym e) ∙ h))
    (λ a. or_right (is_open_brace w) (begins_expr w) (expr_rule r 1 w a h)) i
class_begins (class.At s) r w i h = expr_rule r (rank s) w i h
