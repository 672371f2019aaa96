-- Each beginning of a text has an end.
use Rattle.std.proofs.Common.{◌≡◌, ◌≤◌, List, [], ◌∷◌, ◌++◌, Some, Bool, true, false, refl, sym, ap, ◌∙◌, subst, arith, append_assoc}
use Rattle.std.proofs.lemmas.List.{append-nil}
use mathlib.Core.Logic.{inl, inr}
use Rattle.xc_raw.specs.declared.word.Word.{Word}
use Rattle.xc_raw.specs.declared.word.Word.TheVariants as word
use Rattle.xc_raw.specs.declared.rule.Rule.{Rule}
use Rattle.xc_raw.specs.declared.rule.Rule.TheVariants as rule
use Rattle.xc_raw.specs.declared.rule.Level.{Level}
use Rattle.xc_raw.specs.declared.rule.Level.TheVariants as level_name
use Rattle.xc_parse_grammar.specs.declared.marks.Strength.{Strength}
use Rattle.xc_parse_grammar.specs.declared.marks.Strength.TheVariants as strength
use Rattle.xc_parse_grammar.specs.declared.marks.Class.{Class}
use Rattle.xc_parse_grammar.specs.declared.marks.Class.TheVariants as class
use Rattle.xc_parse_grammar.specs.declared.marks.Kind.{Kind}
use Rattle.xc_parse_grammar.specs.declared.marks.Kind.TheVariants as kind
use Rattle.xc_parse_grammar.specs.declared.marks.Item.TheVariants as item
use Rattle.xc_parse_grammar.specs.declared.spots.Spot.{Spot}
use Rattle.xc_parse_grammar.specs.declared.spots.Spot.TheVariants as spot
use Rattle.xc_parse_grammar.specs.declared.goals.Use.{Use}
use Rattle.xc_parse_grammar.specs.declared.goals.Use.TheVariants.{Plain, Bracket}
use Rattle.xc_parse_grammar.specs.declared.goals.Goal.{Goal}
use Rattle.xc_parse_grammar.specs.declared.goals.Goal.TheVariants as goal
use Rattle.xc_raw.specs.declared.word.Specifier.TheVariants as specifier
use Rattle.xc_raw.specs.declared.word.Sign.TheVariants as sign
use Rattle.xc_raw.specs.declared.word.Step.TheVariants as step
use Rattle.xc_raw.specs.declared.word.BinaryOp.TheVariants as op
use Rattle.xc_parse_grammar.specs.Marks.{accepts, rank, level_rank, of_kind, tighter}
use Rattle.xc_parse_grammar.specs.Grammar.{Form, leaf, begin, ◌▹◌, leaves, Among, sort, height, AtLeast, InClass, is_else, is_open, last_is_open}
use Rattle.xc_parse_grammar.specs.Spots.{steps, may_end, start}
use Rattle.xc_parse_grammar.specs.Building.{spell}
use Rattle.xc_parse_grammar.proofs.Links.{Spotted, Complete}
use Rattle.xc_parse_grammar.proofs.Needs.{both, Calm, Makes, Like, Of, Strong, future, InFuture, Target, ItemTarget, Needed, weaker, sorted, node_step, word_step, kind_step}

-- the next word, or Foreign
abbrev pub first : List Word → Word
first [] = word.Foreign
first (w ∷ ws) = w

abbrev pub Mild : List Word → Type 0
Mild ws = is_else (first ws) ≡ false

mild_append : (xs ys : List Word) → Mild xs → Mild ys → Mild (xs ++ ys)
mild_append [] ys h k = k
mild_append (x ∷ xs) ys h k = h

-- a beginning that was completed
pub record Full (p : Form) : Type 0 where
  pub node : Form
  pub more : List Word
  pub complete : Complete node
  pub like : sort node ≡ sort p
  pub spelled : leaves node ≡ leaves p ++ more
  pub mild : Mild more

abbrev pub Filled : Spot → Type 0
Filled s = (p : Form) → Spotted p s → Full p

stop : (s : Spot) → may_end s ≡ true → Filled s
stop s e p h = record { node = p; more = []; complete = (s, h, e); like = refl; spelled = sym (append-nil (leaves p)); mild = refl }

on_full : (p g : Form) → sort p ≡ sort (p ▹ g) → Mild (leaves g) → Full (p ▹ g) → Full p
on_full p g e m f = record {
  node = f.node;
  more = leaves g ++ f.more;
  complete = f.complete;
  like = f.like;
  spelled = f.spelled ∙ append_assoc (leaves p) (leaves g) f.more;
  mild = mild_append (leaves g) f.more m f.mild;
}

not_else : (w : Word) (b : Bool) → is_else w ≡ false → is_else w ≡ true → b ≡ false
not_else w b e k = let bad : true ≡ false = sym k ∙ e in cc bad

by_word : (s t : Spot) (w : Word) → Among (item.Word w) t (steps s) → accepts (item.Word w) w ≡ true → is_else w ≡ false → Filled t → Filled s
by_word s t w m a e k p h = on_full p (leaf w) refl e (k (p ▹ leaf w) (word_step p w w s t h m a (not_else w (last_is_open p) e)))

by_kind : (s t : Spot) (x : Kind) (w : Word) → Among (item.Kind x) t (steps s) → accepts (item.Kind x) w ≡ true → is_else w ≡ false → Filled t → Filled s
by_kind s t x w m a e k p h = on_full p (leaf w) refl e (k (p ▹ leaf w) (kind_step p w x s t h m a (not_else w (last_is_open p) e)))

by_node : (s t : Spot) (c : Class) (r : Rule) → Among (item.Part c) t (steps s) → InClass c r → Filled (start r) → Filled t → Filled s
by_node s t c r m i f k p h =
    let x = f (begin r) refl in
    on_full p x.node refl (ap (λ ws. is_else (first ws)) x.spelled ∙ x.mild) (k (p ▹ x.node) (node_step p x.node s t c h m x.complete (sorted c r x.node i x.like)))

abbrev operator : Level → Word
operator level_name.Or = word.Binary op.Or
operator level_name.And = word.Binary op.And
operator level_name.BitOr = word.Binary op.BitOr
operator level_name.BitXor = word.Binary op.BitXor
operator level_name.BitAnd = word.Ampersand
operator level_name.Equality = word.Binary op.Equal
operator level_name.Relation = word.Binary op.Less
operator level_name.Shift = word.Binary op.ShiftLeft
operator level_name.Sum = word.Sign sign.Plus
operator level_name.Product = word.Star

operator_is : (l : Level) → (of_kind (kind.Operator l) (operator l) ≡ true) × (is_else (operator l) ≡ false)
operator_is level_name.Or = (refl, refl)
operator_is level_name.And = (refl, refl)
operator_is level_name.BitOr = (refl, refl)
operator_is level_name.BitXor = (refl, refl)
operator_is level_name.BitAnd = (refl, refl)
operator_is level_name.Equality = (refl, refl)
operator_is level_name.Relation = (refl, refl)
operator_is level_name.Shift = (refl, refl)
operator_is level_name.Sum = (refl, refl)
operator_is level_name.Product = (refl, refl)

level_strong : (l : Level) → level_rank l ≤ 15
level_strong level_name.Or = omega arith
level_strong level_name.And = omega arith
level_strong level_name.BitOr = omega arith
level_strong level_name.BitXor = omega arith
level_strong level_name.BitAnd = omega arith
level_strong level_name.Equality = omega arith
level_strong level_name.Relation = omega arith
level_strong level_name.Shift = omega arith
level_strong level_name.Sum = omega arith
level_strong level_name.Product = omega arith

prim_strong : (s : Strength) → AtLeast (rank s) (height rule.Prim)
prim_strong strength.Expr = omega arith
prim_strong strength.Assign = omega arith
prim_strong strength.Cond = omega arith
prim_strong (strength.Binary l) = level_strong l
prim_strong strength.Cast = omega arith
prim_strong strength.Unary = omega arith
prim_strong strength.Postfix = omega arith

fill_Done : Filled spot.Done
fill_Done = stop spot.Done refl

fill_UnitMore : Filled spot.UnitMore
fill_UnitMore = stop spot.UnitMore refl

fill_SpecsMore : Filled spot.SpecsMore
fill_SpecsMore = stop spot.SpecsMore refl

fill_StructBody : Filled spot.StructBody
fill_StructBody = stop spot.StructBody refl

fill_DeclrBounds : Filled spot.DeclrBounds
fill_DeclrBounds = stop spot.DeclrBounds refl

fill_DinitSet : Filled spot.DinitSet
fill_DinitSet = stop spot.DinitSet refl

fill_ParamDeclr : Filled spot.ParamDeclr
fill_ParamDeclr = stop spot.ParamDeclr refl

fill_ParamStars : Filled spot.ParamStars
fill_ParamStars = stop spot.ParamStars refl

fill_ParamFirst : Filled spot.ParamFirst
fill_ParamFirst = stop spot.ParamFirst refl

fill_ParamMore : Filled spot.ParamMore
fill_ParamMore = stop spot.ParamMore refl

fill_IfElse : Filled spot.IfElse
fill_IfElse = stop spot.IfElse refl

fill_PlaceMore : Filled spot.PlaceMore
fill_PlaceMore = stop spot.PlaceMore refl

fill_Ending : Filled spot.Ending
fill_Ending = by_word spot.Ending spot.Done word.Semicolon (inl (refl, refl)) refl refl fill_Done

fill_Closing : Filled spot.Closing
fill_Closing = by_word spot.Closing spot.Done word.Close (inl (refl, refl)) refl refl fill_Done

fill_Clause : Filled spot.Clause
fill_Clause = by_word spot.Clause spot.Done word.Semicolon (inr (inl (refl, refl))) refl refl fill_Done

fill_Pragma : Filled spot.Pragma
fill_Pragma = by_word spot.Pragma spot.Done word.Pragma (inl (refl, refl)) refl refl fill_Done

fill_DeclarationFirst : Filled spot.DeclarationFirst
fill_DeclarationFirst = by_word spot.DeclarationFirst spot.Done word.Semicolon (inr (inl (refl, refl))) refl refl fill_Done

fill_DeclarationMore : Filled spot.DeclarationMore
fill_DeclarationMore = by_word spot.DeclarationMore spot.Done word.Semicolon (inr (inl (refl, refl))) refl refl fill_Done

fill_FunctionBody : Filled spot.FunctionBody
fill_FunctionBody = by_word spot.FunctionBody spot.Done word.Semicolon (inl (refl, refl)) refl refl fill_Done

fill_Specs : Filled spot.Specs
fill_Specs = by_kind spot.Specs spot.SpecsMore kind.Specifier (word.Specifier specifier.Int) (inl (refl, refl)) refl refl fill_SpecsMore

fill_StructName : Filled spot.StructName
fill_StructName = by_word spot.StructName spot.StructBody word.Name (inl (refl, refl)) refl refl fill_StructBody

fill_StructMore : Filled spot.StructMore
fill_StructMore = by_word spot.StructMore spot.Done word.CloseBrace (inr (inl (refl, refl))) refl refl fill_Done

fill_MemberMore : Filled spot.MemberMore
fill_MemberMore = by_word spot.MemberMore spot.Done word.Semicolon (inr (inl (refl, refl))) refl refl fill_Done

fill_Declr : Filled spot.Declr
fill_Declr = by_word spot.Declr spot.DeclrBounds word.Name (inr (inl (refl, refl))) refl refl fill_DeclrBounds

fill_DeclrStars : Filled spot.DeclrStars
fill_DeclrStars = by_word spot.DeclrStars spot.DeclrBounds word.Name (inr (inr (inl (refl, refl)))) refl refl fill_DeclrBounds

fill_DeclrClose : Filled spot.DeclrClose
fill_DeclrClose = by_word spot.DeclrClose spot.DeclrBounds word.CloseBracket (inl (refl, refl)) refl refl fill_DeclrBounds

fill_Callee : Filled spot.Callee
fill_Callee = by_word spot.Callee spot.Done word.Name (inr (inl (refl, refl))) refl refl fill_Done

fill_CalleeStars : Filled spot.CalleeStars
fill_CalleeStars = by_word spot.CalleeStars spot.Done word.Name (inr (inr (inl (refl, refl)))) refl refl fill_Done

fill_InitialisersMore : Filled spot.InitialisersMore
fill_InitialisersMore = by_word spot.InitialisersMore spot.Done word.CloseBrace (inr (inl (refl, refl))) refl refl fill_Done

fill_InitialisersNext : Filled spot.InitialisersNext
fill_InitialisersNext = by_word spot.InitialisersNext spot.Done word.CloseBrace (inr (inl (refl, refl))) refl refl fill_Done

fill_ParamsFirst : Filled spot.ParamsFirst
fill_ParamsFirst = by_word spot.ParamsFirst spot.Done word.Close (inr (inl (refl, refl))) refl refl fill_Done

fill_ParamsMore : Filled spot.ParamsMore
fill_ParamsMore = by_word spot.ParamsMore spot.Done word.Close (inr (inl (refl, refl))) refl refl fill_Done

fill_ParamBound : Filled spot.ParamBound
fill_ParamBound = by_word spot.ParamBound spot.ParamMore word.CloseBracket (inr (inl (refl, refl))) refl refl fill_ParamMore

fill_ParamClose : Filled spot.ParamClose
fill_ParamClose = by_word spot.ParamClose spot.ParamMore word.CloseBracket (inl (refl, refl)) refl refl fill_ParamMore

fill_BlockMore : Filled spot.BlockMore
fill_BlockMore = by_word spot.BlockMore spot.Done word.CloseBrace (inr (inl (refl, refl))) refl refl fill_Done

fill_ForDeclarationMore : Filled spot.ForDeclarationMore
fill_ForDeclarationMore = by_word spot.ForDeclarationMore spot.Done word.Semicolon (inr (inl (refl, refl))) refl refl fill_Done

fill_Step : Filled spot.Step
fill_Step = by_word spot.Step spot.Done word.Close (inr (inl (refl, refl))) refl refl fill_Done

fill_Place : Filled spot.Place
fill_Place = by_word spot.Place spot.PlaceMore word.Name (inl (refl, refl)) refl refl fill_PlaceMore

fill_PlaceClose : Filled spot.PlaceClose
fill_PlaceClose = by_word spot.PlaceClose spot.PlaceMore word.CloseBracket (inl (refl, refl)) refl refl fill_PlaceMore

fill_PlaceMember : Filled spot.PlaceMember
fill_PlaceMember = by_word spot.PlaceMember spot.PlaceMore word.Name (inl (refl, refl)) refl refl fill_PlaceMore

fill_PostfixOp : Filled spot.PostfixOp
fill_PostfixOp = by_kind spot.PostfixOp spot.Done kind.Step (word.Step step.Increment) (inr (inr (inr (inl (refl, refl))))) refl refl fill_Done

fill_PostfixClose : Filled spot.PostfixClose
fill_PostfixClose = by_word spot.PostfixClose spot.Done word.CloseBracket (inl (refl, refl)) refl refl fill_Done

fill_PostfixFirst : Filled spot.PostfixFirst
fill_PostfixFirst = by_word spot.PostfixFirst spot.Done word.Close (inr (inl (refl, refl))) refl refl fill_Done

fill_PostfixMore : Filled spot.PostfixMore
fill_PostfixMore = by_word spot.PostfixMore spot.Done word.Close (inr (inl (refl, refl))) refl refl fill_Done

fill_PostfixMember : Filled spot.PostfixMember
fill_PostfixMember = by_word spot.PostfixMember spot.Done word.Name (inl (refl, refl)) refl refl fill_Done

fill_Prim : Filled spot.Prim
fill_Prim = by_word spot.Prim spot.Done word.Name (inl (refl, refl)) refl refl fill_Done

fill_Struct : Filled spot.Struct
fill_Struct = by_word spot.Struct spot.StructName word.Struct (inl (refl, refl)) refl refl fill_StructName

fill_Params : Filled spot.Params
fill_Params = by_word spot.Params spot.ParamsFirst word.Open (inl (refl, refl)) refl refl fill_ParamsFirst

fill_Block : Filled spot.Block
fill_Block = by_word spot.Block spot.BlockMore word.OpenBrace (inl (refl, refl)) refl refl fill_BlockMore

fill_DoClose : Filled spot.DoClose
fill_DoClose = by_word spot.DoClose spot.Ending word.Close (inl (refl, refl)) refl refl fill_Ending

fill_Return : Filled spot.Return
fill_Return = by_word spot.Return spot.Clause word.Return (inl (refl, refl)) refl refl fill_Clause

fill_Break : Filled spot.Break
fill_Break = by_word spot.Break spot.Ending word.Break (inl (refl, refl)) refl refl fill_Ending

fill_Continue : Filled spot.Continue
fill_Continue = by_word spot.Continue spot.Ending word.Continue (inl (refl, refl)) refl refl fill_Ending

fill_Unit : Filled spot.Unit
fill_Unit = by_node spot.Unit spot.UnitMore class.Item rule.Pragma (inl (refl, refl)) refl fill_Pragma fill_UnitMore

fill_Dinit : Filled spot.Dinit
fill_Dinit = by_node spot.Dinit spot.DinitSet (class.Node rule.Declr) rule.Declr (inl (refl, refl)) refl fill_Declr fill_DinitSet

fill_DinitInit : Filled spot.DinitInit
fill_DinitInit = by_node spot.DinitInit spot.Done class.Init rule.Prim (inl (refl, refl)) (inr (omega arith)) fill_Prim fill_Done

fill_Param : Filled spot.Param
fill_Param = by_node spot.Param spot.ParamDeclr (class.Node rule.Specs) rule.Specs (inl (refl, refl)) refl fill_Specs fill_ParamDeclr

fill_Sub : Filled spot.Sub
fill_Sub = by_node spot.Sub spot.Done class.Stmt rule.Eval (inr (inl (refl, refl))) refl fill_Clause fill_Done

fill_CommaRight : Filled spot.CommaRight
fill_CommaRight = by_node spot.CommaRight spot.Done (class.At strength.Assign) rule.Prim (inl (refl, refl)) (prim_strong strength.Assign) fill_Prim fill_Done

fill_AssignRight : Filled spot.AssignRight
fill_AssignRight = by_node spot.AssignRight spot.Done (class.At strength.Assign) rule.Prim (inl (refl, refl)) (prim_strong strength.Assign) fill_Prim fill_Done

fill_CondOther : Filled spot.CondOther
fill_CondOther = by_node spot.CondOther spot.Done (class.At strength.Cond) rule.Prim (inl (refl, refl)) (prim_strong strength.Cond) fill_Prim fill_Done

fill_BinaryRight : (level : Level) → Filled (spot.BinaryRight level)
fill_BinaryRight level = by_node (spot.BinaryRight level) spot.Done (class.At (tighter level)) rule.Prim (inl (refl, refl)) (prim_strong (tighter level)) fill_Prim fill_Done

fill_CastOperand : Filled spot.CastOperand
fill_CastOperand = by_node spot.CastOperand spot.Done (class.At strength.Cast) rule.Prim (inl (refl, refl)) (prim_strong strength.Cast) fill_Prim fill_Done

fill_UnaryStep : Filled spot.UnaryStep
fill_UnaryStep = by_node spot.UnaryStep spot.Done (class.At strength.Unary) rule.Prim (inl (refl, refl)) (prim_strong strength.Unary) fill_Prim fill_Done

fill_UnaryOperand : Filled spot.UnaryOperand
fill_UnaryOperand = by_node spot.UnaryOperand spot.Done (class.At strength.Cast) rule.Prim (inl (refl, refl)) (prim_strong strength.Cast) fill_Prim fill_Done

fill_Declaration : Filled spot.Declaration
fill_Declaration = by_node spot.Declaration spot.DeclarationFirst (class.Node rule.Specs) rule.Specs (inl (refl, refl)) refl fill_Specs fill_DeclarationFirst

fill_MemberNext : Filled spot.MemberNext
fill_MemberNext = by_node spot.MemberNext spot.MemberMore (class.Node rule.Declr) rule.Declr (inl (refl, refl)) refl fill_Declr fill_MemberMore

fill_DeclrBound : Filled spot.DeclrBound
fill_DeclrBound = by_node spot.DeclrBound spot.DeclrClose (class.At strength.Cond) rule.Prim (inl (refl, refl)) (prim_strong strength.Cond) fill_Prim fill_DeclrClose

fill_InitialisersFirst : Filled spot.InitialisersFirst
fill_InitialisersFirst = by_node spot.InitialisersFirst spot.InitialisersMore class.Init rule.Prim (inl (refl, refl)) (inr (omega arith)) fill_Prim fill_InitialisersMore

fill_ParamNext : Filled spot.ParamNext
fill_ParamNext = by_node spot.ParamNext spot.ParamClose (class.At strength.Cond) rule.Prim (inl (refl, refl)) (prim_strong strength.Cond) fill_Prim fill_ParamClose

fill_FutureBody : Filled spot.FutureBody
fill_FutureBody = by_node spot.FutureBody spot.Done (class.Node rule.Block) rule.Block (inl (refl, refl)) refl fill_Block fill_Done

fill_PlaceIndex : Filled spot.PlaceIndex
fill_PlaceIndex = by_node spot.PlaceIndex spot.PlaceClose (class.At strength.Expr) rule.Prim (inl (refl, refl)) (prim_strong strength.Expr) fill_Prim fill_PlaceClose

fill_CommaOp : Filled spot.CommaOp
fill_CommaOp = by_word spot.CommaOp spot.CommaRight word.Comma (inl (refl, refl)) refl refl fill_CommaRight

fill_AssignOp : Filled spot.AssignOp
fill_AssignOp = by_kind spot.AssignOp spot.AssignRight kind.Assignment word.Set (inl (refl, refl)) refl refl fill_AssignRight

fill_CondColon : Filled spot.CondColon
fill_CondColon = by_word spot.CondColon spot.CondOther word.Colon (inl (refl, refl)) refl refl fill_CondOther

fill_BinaryOp : (level : Level) → Filled (spot.BinaryOp level)
fill_BinaryOp level = by_kind (spot.BinaryOp level) (spot.BinaryRight level) (kind.Operator level) (operator level) (inl (refl, refl)) (operator_is level).0 (operator_is level).1 (fill_BinaryRight level)

fill_CastAfter : Filled spot.CastAfter
fill_CastAfter = by_word spot.CastAfter spot.CastOperand word.Close (inr (inl (refl, refl))) refl refl fill_CastOperand

fill_CastStars : Filled spot.CastStars
fill_CastStars = by_word spot.CastStars spot.CastOperand word.Close (inr (inr (inl (refl, refl)))) refl refl fill_CastOperand

fill_Unary : Filled spot.Unary
fill_Unary = by_kind spot.Unary spot.UnaryStep kind.Step (word.Step step.Increment) (inl (refl, refl)) refl refl fill_UnaryStep

fill_Postfix : Filled spot.Postfix
fill_Postfix = by_node spot.Postfix spot.PostfixOp (class.At strength.Postfix) rule.Prim (inl (refl, refl)) (prim_strong strength.Postfix) fill_Prim fill_PostfixOp

fill_PostfixIndex : Filled spot.PostfixIndex
fill_PostfixIndex = by_node spot.PostfixIndex spot.PostfixClose (class.At strength.Expr) rule.Prim (inl (refl, refl)) (prim_strong strength.Expr) fill_Prim fill_PostfixClose

fill_PostfixNext : Filled spot.PostfixNext
fill_PostfixNext = by_node spot.PostfixNext spot.PostfixMore (class.At strength.Assign) rule.Prim (inl (refl, refl)) (prim_strong strength.Assign) fill_Prim fill_PostfixMore

fill_PrimInner : Filled spot.PrimInner
fill_PrimInner = by_node spot.PrimInner spot.Closing (class.At strength.Expr) rule.Prim (inl (refl, refl)) (prim_strong strength.Expr) fill_Prim fill_Closing

fill_FunctionParams : Filled spot.FunctionParams
fill_FunctionParams = by_node spot.FunctionParams spot.FunctionBody (class.Node rule.Params) rule.Params (inl (refl, refl)) refl fill_Params fill_FunctionBody

fill_Initialisers : Filled spot.Initialisers
fill_Initialisers = by_word spot.Initialisers spot.InitialisersFirst word.OpenBrace (inl (refl, refl)) refl refl fill_InitialisersFirst

fill_IfThen : Filled spot.IfThen
fill_IfThen = by_node spot.IfThen spot.IfElse (class.Node rule.Sub) rule.Sub (inl (refl, refl)) refl fill_Sub fill_IfElse

fill_IfOther : Filled spot.IfOther
fill_IfOther = by_node spot.IfOther spot.Done (class.Node rule.Sub) rule.Sub (inl (refl, refl)) refl fill_Sub fill_Done

fill_WhileBody : Filled spot.WhileBody
fill_WhileBody = by_node spot.WhileBody spot.Done (class.Node rule.Sub) rule.Sub (inl (refl, refl)) refl fill_Sub fill_Done

fill_DoTest : Filled spot.DoTest
fill_DoTest = by_node spot.DoTest spot.DoClose (class.At strength.Expr) rule.Prim (inl (refl, refl)) (prim_strong strength.Expr) fill_Prim fill_DoClose

fill_ForBody : Filled spot.ForBody
fill_ForBody = by_node spot.ForBody spot.Done (class.Node rule.Sub) rule.Sub (inl (refl, refl)) refl fill_Sub fill_Done

fill_FutureFirst : Filled spot.FutureFirst
fill_FutureFirst = by_word spot.FutureFirst spot.FutureBody word.Close (inr (inl (refl, refl))) refl refl fill_FutureBody

fill_FutureMore : Filled spot.FutureMore
fill_FutureMore = by_word spot.FutureMore spot.FutureBody word.Close (inr (inl (refl, refl))) refl refl fill_FutureBody

fill_DeclarationNext : Filled spot.DeclarationNext
fill_DeclarationNext = by_node spot.DeclarationNext spot.DeclarationMore (class.Node rule.Dinit) rule.Dinit (inl (refl, refl)) refl fill_Dinit fill_DeclarationMore

fill_ParamsNext : Filled spot.ParamsNext
fill_ParamsNext = by_node spot.ParamsNext spot.ParamsMore (class.Node rule.Param) rule.Param (inl (refl, refl)) refl fill_Param fill_ParamsMore

fill_IfClose : Filled spot.IfClose
fill_IfClose = by_word spot.IfClose spot.IfThen word.Close (inl (refl, refl)) refl refl fill_IfThen

fill_WhileClose : Filled spot.WhileClose
fill_WhileClose = by_word spot.WhileClose spot.WhileBody word.Close (inl (refl, refl)) refl refl fill_WhileBody

fill_DoOpen : Filled spot.DoOpen
fill_DoOpen = by_word spot.DoOpen spot.DoTest word.Open (inl (refl, refl)) refl refl fill_DoTest

fill_ForDeclarationNext : Filled spot.ForDeclarationNext
fill_ForDeclarationNext = by_node spot.ForDeclarationNext spot.ForDeclarationMore (class.Node rule.Dinit) rule.Dinit (inl (refl, refl)) refl fill_Dinit fill_ForDeclarationMore

fill_FutureOpen : Filled spot.FutureOpen
fill_FutureOpen = by_word spot.FutureOpen spot.FutureFirst word.Open (inl (refl, refl)) refl refl fill_FutureFirst

fill_FutureNext : Filled spot.FutureNext
fill_FutureNext = by_word spot.FutureNext spot.FutureMore word.Name (inl (refl, refl)) refl refl fill_FutureMore

fill_Member : Filled spot.Member
fill_Member = by_node spot.Member spot.MemberNext (class.Node rule.Specs) rule.Specs (inl (refl, refl)) refl fill_Specs fill_MemberNext

fill_DoWhile : Filled spot.DoWhile
fill_DoWhile = by_word spot.DoWhile spot.DoOpen word.While (inl (refl, refl)) refl refl fill_DoOpen

fill_Comma : Filled spot.Comma
fill_Comma = by_node spot.Comma spot.CommaOp (class.At strength.Expr) rule.Prim (inl (refl, refl)) (prim_strong strength.Expr) fill_Prim fill_CommaOp

fill_Assign : Filled spot.Assign
fill_Assign = by_node spot.Assign spot.AssignOp (class.At strength.Unary) rule.Prim (inl (refl, refl)) (prim_strong strength.Unary) fill_Prim fill_AssignOp

fill_CondThen : Filled spot.CondThen
fill_CondThen = by_node spot.CondThen spot.CondColon (class.At strength.Expr) rule.Prim (inl (refl, refl)) (prim_strong strength.Expr) fill_Prim fill_CondColon

fill_Binary : (level : Level) → Filled (spot.Binary level)
fill_Binary level = by_node (spot.Binary level) (spot.BinaryOp level) (class.At (strength.Binary level)) rule.Prim (inl (refl, refl)) (prim_strong (strength.Binary level)) fill_Prim (fill_BinaryOp level)

fill_CastSpecs : Filled spot.CastSpecs
fill_CastSpecs = by_node spot.CastSpecs spot.CastAfter (class.Node rule.Specs) rule.Specs (inl (refl, refl)) refl fill_Specs fill_CastAfter

fill_FunctionCallee : Filled spot.FunctionCallee
fill_FunctionCallee = by_node spot.FunctionCallee spot.FunctionParams (class.Node rule.Callee) rule.Callee (inl (refl, refl)) refl fill_Callee fill_FunctionParams

fill_ForThird : Filled spot.ForThird
fill_ForThird = by_node spot.ForThird spot.ForBody (class.Node rule.Step) rule.Step (inl (refl, refl)) refl fill_Step fill_ForBody

fill_CondQuestion : Filled spot.CondQuestion
fill_CondQuestion = by_word spot.CondQuestion spot.CondThen word.Question (inl (refl, refl)) refl refl fill_CondThen

fill_Cast : Filled spot.Cast
fill_Cast = by_word spot.Cast spot.CastSpecs word.Open (inl (refl, refl)) refl refl fill_CastSpecs

fill_IfTest : Filled spot.IfTest
fill_IfTest = by_node spot.IfTest spot.IfClose (class.At strength.Expr) rule.Prim (inl (refl, refl)) (prim_strong strength.Expr) fill_Prim fill_IfClose

fill_WhileTest : Filled spot.WhileTest
fill_WhileTest = by_node spot.WhileTest spot.WhileClose (class.At strength.Expr) rule.Prim (inl (refl, refl)) (prim_strong strength.Expr) fill_Prim fill_WhileClose

fill_ForDeclaration : Filled spot.ForDeclaration
fill_ForDeclaration = by_node spot.ForDeclaration spot.ForDeclarationNext (class.Node rule.Specs) rule.Specs (inl (refl, refl)) refl fill_Specs fill_ForDeclarationNext

fill_FuturePlace : Filled spot.FuturePlace
fill_FuturePlace = by_node spot.FuturePlace spot.FutureOpen (class.Node rule.Place) rule.Place (inl (refl, refl)) refl fill_Place fill_FutureOpen

fill_StructFirst : Filled spot.StructFirst
fill_StructFirst = by_node spot.StructFirst spot.StructMore (class.Node rule.Member) rule.Member (inl (refl, refl)) refl fill_Member fill_StructMore

fill_IfOpen : Filled spot.IfOpen
fill_IfOpen = by_word spot.IfOpen spot.IfTest word.Open (inl (refl, refl)) refl refl fill_IfTest

fill_WhileOpen : Filled spot.WhileOpen
fill_WhileOpen = by_word spot.WhileOpen spot.WhileTest word.Open (inl (refl, refl)) refl refl fill_WhileTest

fill_Future : Filled spot.Future
fill_Future = by_word spot.Future spot.FuturePlace word.Future (inl (refl, refl)) refl refl fill_FuturePlace

fill_Function : Filled spot.Function
fill_Function = by_node spot.Function spot.FunctionCallee (class.Node rule.Specs) rule.Specs (inl (refl, refl)) refl fill_Specs fill_FunctionCallee

fill_If : Filled spot.If
fill_If = by_word spot.If spot.IfOpen word.If (inl (refl, refl)) refl refl fill_IfOpen

fill_While : Filled spot.While
fill_While = by_word spot.While spot.WhileOpen word.While (inl (refl, refl)) refl refl fill_WhileOpen

fill_ForSecond : Filled spot.ForSecond
fill_ForSecond = by_node spot.ForSecond spot.ForThird (class.Node rule.Clause) rule.Clause (inl (refl, refl)) refl fill_Clause fill_ForThird

fill_Cond : Filled spot.Cond
fill_Cond = by_node spot.Cond spot.CondQuestion (class.At (strength.Binary level_name.Or)) rule.Prim (inl (refl, refl)) (prim_strong (strength.Binary level_name.Or)) fill_Prim fill_CondQuestion

fill_DoBody : Filled spot.DoBody
fill_DoBody = by_node spot.DoBody spot.DoWhile (class.Node rule.Sub) rule.Sub (inl (refl, refl)) refl fill_Sub fill_DoWhile

fill_Do : Filled spot.Do
fill_Do = by_word spot.Do spot.DoBody word.Do (inl (refl, refl)) refl refl fill_DoBody

fill_ForFirst : Filled spot.ForFirst
fill_ForFirst = by_node spot.ForFirst spot.ForSecond (class.Node rule.Clause) rule.Clause (inr (inl (refl, refl))) refl fill_Clause fill_ForSecond

fill_ForOpen : Filled spot.ForOpen
fill_ForOpen = by_word spot.ForOpen spot.ForFirst word.Open (inl (refl, refl)) refl refl fill_ForFirst

fill_For : Filled spot.For
fill_For = by_word spot.For spot.ForOpen word.For (inl (refl, refl)) refl refl fill_ForOpen

-- each beginning of a node can be completed
pub fill : (s : Spot) → Filled s
fill spot.Done = fill_Done
fill spot.Ending = fill_Ending
fill spot.Closing = fill_Closing
fill spot.Clause = fill_Clause
fill spot.Unit = fill_Unit
fill spot.UnitMore = fill_UnitMore
fill spot.Pragma = fill_Pragma
fill spot.Declaration = fill_Declaration
fill spot.DeclarationFirst = fill_DeclarationFirst
fill spot.DeclarationMore = fill_DeclarationMore
fill spot.DeclarationNext = fill_DeclarationNext
fill spot.Function = fill_Function
fill spot.FunctionCallee = fill_FunctionCallee
fill spot.FunctionParams = fill_FunctionParams
fill spot.FunctionBody = fill_FunctionBody
fill spot.Specs = fill_Specs
fill spot.SpecsMore = fill_SpecsMore
fill spot.Struct = fill_Struct
fill spot.StructName = fill_StructName
fill spot.StructBody = fill_StructBody
fill spot.StructFirst = fill_StructFirst
fill spot.StructMore = fill_StructMore
fill spot.Member = fill_Member
fill spot.MemberNext = fill_MemberNext
fill spot.MemberMore = fill_MemberMore
fill spot.Declr = fill_Declr
fill spot.DeclrStars = fill_DeclrStars
fill spot.DeclrBounds = fill_DeclrBounds
fill spot.DeclrBound = fill_DeclrBound
fill spot.DeclrClose = fill_DeclrClose
fill spot.Callee = fill_Callee
fill spot.CalleeStars = fill_CalleeStars
fill spot.Dinit = fill_Dinit
fill spot.DinitSet = fill_DinitSet
fill spot.DinitInit = fill_DinitInit
fill spot.Initialisers = fill_Initialisers
fill spot.InitialisersFirst = fill_InitialisersFirst
fill spot.InitialisersMore = fill_InitialisersMore
fill spot.InitialisersNext = fill_InitialisersNext
fill spot.Params = fill_Params
fill spot.ParamsFirst = fill_ParamsFirst
fill spot.ParamsMore = fill_ParamsMore
fill spot.ParamsNext = fill_ParamsNext
fill spot.Param = fill_Param
fill spot.ParamDeclr = fill_ParamDeclr
fill spot.ParamStars = fill_ParamStars
fill spot.ParamFirst = fill_ParamFirst
fill spot.ParamBound = fill_ParamBound
fill spot.ParamClose = fill_ParamClose
fill spot.ParamMore = fill_ParamMore
fill spot.ParamNext = fill_ParamNext
fill spot.Block = fill_Block
fill spot.BlockMore = fill_BlockMore
fill spot.Sub = fill_Sub
fill spot.If = fill_If
fill spot.IfOpen = fill_IfOpen
fill spot.IfTest = fill_IfTest
fill spot.IfClose = fill_IfClose
fill spot.IfThen = fill_IfThen
fill spot.IfElse = fill_IfElse
fill spot.IfOther = fill_IfOther
fill spot.While = fill_While
fill spot.WhileOpen = fill_WhileOpen
fill spot.WhileTest = fill_WhileTest
fill spot.WhileClose = fill_WhileClose
fill spot.WhileBody = fill_WhileBody
fill spot.Do = fill_Do
fill spot.DoBody = fill_DoBody
fill spot.DoWhile = fill_DoWhile
fill spot.DoOpen = fill_DoOpen
fill spot.DoTest = fill_DoTest
fill spot.DoClose = fill_DoClose
fill spot.For = fill_For
fill spot.ForOpen = fill_ForOpen
fill spot.ForFirst = fill_ForFirst
fill spot.ForSecond = fill_ForSecond
fill spot.ForThird = fill_ForThird
fill spot.ForBody = fill_ForBody
fill spot.ForDeclaration = fill_ForDeclaration
fill spot.ForDeclarationNext = fill_ForDeclarationNext
fill spot.ForDeclarationMore = fill_ForDeclarationMore
fill spot.Step = fill_Step
fill spot.Return = fill_Return
fill spot.Break = fill_Break
fill spot.Continue = fill_Continue
fill spot.Future = fill_Future
fill spot.FuturePlace = fill_FuturePlace
fill spot.FutureOpen = fill_FutureOpen
fill spot.FutureFirst = fill_FutureFirst
fill spot.FutureMore = fill_FutureMore
fill spot.FutureNext = fill_FutureNext
fill spot.FutureBody = fill_FutureBody
fill spot.Place = fill_Place
fill spot.PlaceMore = fill_PlaceMore
fill spot.PlaceIndex = fill_PlaceIndex
fill spot.PlaceClose = fill_PlaceClose
fill spot.PlaceMember = fill_PlaceMember
fill spot.Comma = fill_Comma
fill spot.CommaOp = fill_CommaOp
fill spot.CommaRight = fill_CommaRight
fill spot.Assign = fill_Assign
fill spot.AssignOp = fill_AssignOp
fill spot.AssignRight = fill_AssignRight
fill spot.Cond = fill_Cond
fill spot.CondQuestion = fill_CondQuestion
fill spot.CondThen = fill_CondThen
fill spot.CondColon = fill_CondColon
fill spot.CondOther = fill_CondOther
fill (spot.Binary level) = fill_Binary level
fill (spot.BinaryOp level) = fill_BinaryOp level
fill (spot.BinaryRight level) = fill_BinaryRight level
fill spot.Cast = fill_Cast
fill spot.CastSpecs = fill_CastSpecs
fill spot.CastAfter = fill_CastAfter
fill spot.CastStars = fill_CastStars
fill spot.CastOperand = fill_CastOperand
fill spot.Unary = fill_Unary
fill spot.UnaryStep = fill_UnaryStep
fill spot.UnaryOperand = fill_UnaryOperand
fill spot.Postfix = fill_Postfix
fill spot.PostfixOp = fill_PostfixOp
fill spot.PostfixIndex = fill_PostfixIndex
fill spot.PostfixClose = fill_PostfixClose
fill spot.PostfixFirst = fill_PostfixFirst
fill spot.PostfixMore = fill_PostfixMore
fill spot.PostfixNext = fill_PostfixNext
fill spot.PostfixMember = fill_PostfixMember
fill spot.Prim = fill_Prim
fill spot.PrimInner = fill_PrimInner

no_else : (f : Form) (w : Word) → is_else w ≡ false → Calm f w
no_else f w e = ap (both (is_open f)) e ∙ elim (is_open f) as (λ b. both b false ≡ false) [ true ↦ refl | false ↦ refl ]

-- a whole text that begins so
pub record Finish (d : List Form) : Type 0 where
  pub whole : Form
  pub more : List Word
  pub complete : Complete whole
  pub unit : sort whole ≡ Some rule.Unit
  pub spelled : leaves whole ≡ spell d ++ more
  pub mild : Mild more

-- more nodes, and the words that they add
given : (e d : List Form) (ws : List Word) → spell e ≡ spell d ++ ws → Mild ws → Finish e → Finish d
given e d ws same m f = record {
  whole = f.whole;
  more = ws ++ f.more;
  complete = f.complete;
  unit = f.unit;
  spelled = f.spelled ∙ ap (λ xs. xs ++ f.more) same ∙ append_assoc (spell d) ws f.more;
  mild = mild_append ws f.more m f.mild;
}

abbrev pub Enders : List Goal → Type 0
Enders gs = (d : List Form) → ((w : Word) → is_else w ≡ false → Needed gs d w) → Finish d

-- a node of a rule
abbrev node_of : Rule → Form
node_of r = (fill (start r) (begin r) refl).node

node_full : (r : Rule) → Full (begin r)
node_full r = fill (start r) (begin r) refl

with_rule : (P : Form → Type 0) (r : Rule) (gs : List Goal) (d : List Form) → ((f : Form) → Like (Some r) f → P f) → Makes P (Needed gs) d → Enders gs → Finish d
with_rule P r gs d is h k =
    let x = node_full r in
    given (x.node ∷ d) d x.more (ap (λ ws. spell d ++ ws) x.spelled) x.mild (k (x.node ∷ d) (λ w e. h x.node w (is x.node (x.complete, x.like)) (no_else x.node w e)))

strong_prim : (s : Strength) (f : Form) → Like (Some rule.Prim) f → Strong s f
strong_prim s f h = (h.0, sorted (class.At s) rule.Prim f (prim_strong s) h.1)

in_class : (c : Class) (r : Rule) → InClass c r → (f : Form) → Like (Some r) f → Of c f
in_class c r i f h = (h.0, sorted c r f i h.1)

ends_read : (c : Class) (gs : List Goal) (d : List Form) → Makes (Of c) (Needed gs) d → Enders gs → Finish d
ends_read (class.Node r) gs d h k = with_rule (Of (class.Node r)) r gs d (in_class (class.Node r) r refl) h k
ends_read class.Item gs d h k = with_rule (Of class.Item) rule.Pragma gs d (in_class class.Item rule.Pragma refl) h k
ends_read class.BlockItem gs d h k = with_rule (Of class.BlockItem) rule.Pragma gs d (in_class class.BlockItem rule.Pragma (inl refl)) h k
ends_read class.Stmt gs d h k = with_rule (Of class.Stmt) rule.Eval gs d (in_class class.Stmt rule.Eval refl) h k
ends_read class.Init gs d h k = with_rule (Of class.Init) rule.Initialisers gs d (in_class class.Init rule.Initialisers (inl refl)) h k
ends_read (class.At s) gs d h k = with_rule (Of (class.At s)) rule.Prim gs d (in_class (class.At s) rule.Prim (prim_strong s)) h k

-- a node that is there is the one that was wanted
with_last : (P : Form → Type 0) (f : Form) (gs : List Goal) (d : List Form) → P f → Makes P (Needed gs) d → Enders gs → Finish (f ∷ d)
with_last P f gs d p h k = k (f ∷ d) (λ w e. h f w p (no_else f w e))

-- a beginning that is there is completed
with_full : (P : Form → Type 0) (p : Form) (gs : List Goal) (d : List Form) → Full p → ((f : Form) → Complete f → sort f ≡ sort p → P f) → Makes P (Needed gs) d → Enders gs → Finish (p ∷ d)
with_full P p gs d x is h k =
    given (x.node ∷ d) (p ∷ d) x.more (ap (λ ws. spell d ++ ws) x.spelled ∙ sym (append_assoc (spell d) (leaves p) x.more)) x.mild
    (k (x.node ∷ d) (λ w e. h x.node w (is x.node x.complete x.like) (no_else x.node w e)))

-- a future statement, of whose place this was read
with_place : (p q : Form) (s : Spot) (gs : List Goal) (d : List Form) → Spotted p s → sort p ≡ Some rule.Place → q ≡ future → Makes (Of class.BlockItem) (Needed gs) d → Enders gs → Finish (p ∷ q ∷ d)
with_place p q s gs d h i e m k =
    let x = fill s p h in
    let begun : Spotted q spot.FuturePlace = subst (λ y. Spotted y spot.FuturePlace) (sym e) (word_step (begin rule.Future) word.Future word.Future spot.Future spot.FuturePlace refl (inl (refl, refl)) refl (λ z. cc z)) in
    let full = fill spot.FutureOpen (q ▹ x.node) (node_step q x.node spot.FuturePlace spot.FutureOpen (class.Node rule.Place) begun (inl (refl, refl)) x.complete (sorted (class.Node rule.Place) rule.Place x.node refl (x.like ∙ i))) in
    let done : Finish ((q ▹ x.node) ∷ d) = with_full (Of class.BlockItem) (q ▹ x.node) gs d full (λ f c y. (c, sorted class.BlockItem rule.Future f (inr (inr refl)) (y ∙ ap sort e))) m k in
    given ((q ▹ x.node) ∷ d) (p ∷ q ∷ d) x.more
    (ap (λ ws. spell d ++ (leaves q ++ ws)) x.spelled ∙ ap (λ ws. spell d ++ ws) (sym (append_assoc (leaves q) (leaves p) x.more))
    ∙ sym (append_assoc (spell d) (leaves q ++ leaves p) x.more) ∙ ap (λ ws. ws ++ x.more) (sym (append_assoc (spell d) (leaves q) (leaves p)))) x.mild done

-- an index of it was read
with_index : (f p q : Form) (gs : List Goal) (d : List Form) → Strong strength.Expr f → InFuture spot.PlaceIndex spot.DeclrBound p q → Makes (Of class.BlockItem) (Needed gs) d → Enders gs → Finish (f ∷ p ∷ q ∷ d)
with_index f p q gs d x i m k =
    let done = with_place (p ▹ f) q spot.PlaceClose gs d (node_step p f spot.PlaceIndex spot.PlaceClose (class.At strength.Expr) i.twin.spotted (inl (refl, refl)) x.0 x.1) i.twin.is i.begun m k in
    given ((p ▹ f) ∷ q ∷ d) (f ∷ p ∷ q ∷ d) []
    (sym (append_assoc (spell d ++ leaves q) (leaves p) (leaves f)) ∙ sym (append-nil _)) refl done

ends_target : (u : Use) (f : Form) (gs : List Goal) (d : List Form) → Strong strength.Assign f → Target u (Needed gs) d → Enders gs → Finish (f ∷ d)
ends_target Plain f gs d x h k = with_last (Strong strength.Assign) f gs d x h k
ends_target Bracket f gs [] x h k = absurd h
ends_target Bracket f gs (p ∷ []) x h k = absurd h
ends_target Bracket f gs (p ∷ q ∷ d) x h k = with_index f p q gs d (weaker strength.Assign strength.Expr f (omega arith) x) h.0 h.1 k

-- a primary, or one that began, is what is wanted
ends_prim : (u : Use) (gs : List Goal) (d : List Form) → Target u (Needed gs) d → Enders gs → Finish d
ends_prim u gs d h k =
    let x = node_full rule.Prim in
    given (x.node ∷ d) d x.more (ap (λ ws. spell d ++ ws) x.spelled) x.mild
    (ends_target u x.node gs d (strong_prim strength.Assign x.node (x.complete, x.like)) h k)

ends_begun : (u : Use) (p : Form) (s : Spot) (gs : List Goal) (d : List Form) → Spotted p s → sort p ≡ Some rule.Prim → Target u (Needed gs) d → Enders gs → Finish (p ∷ d)
ends_begun u p s gs d h i t k =
    let x = fill s p h in
    given (x.node ∷ d) (p ∷ d) x.more (ap (λ ws. spell d ++ ws) x.spelled ∙ sym (append_assoc (spell d) (leaves p) x.more)) x.mild
    (ends_target u x.node gs d (strong_prim strength.Assign x.node (x.complete, x.like ∙ i)) t k)

prim_opens : Spotted (begin rule.Prim ▹ leaf word.Open) spot.PrimInner
prim_opens = word_step (begin rule.Prim) word.Open word.Open spot.Prim spot.PrimInner refl (inr (inr (inl (refl, refl)))) refl (λ e. cc e)

-- a declaration at file scope, of whose declarator this was read
with_declr : (x f : Form) (s : Spot) (gs : List Goal) (d : List Form) → Spotted x s → sort x ≡ Some rule.Declr → Like (Some rule.Specs) f → Makes (Of class.Item) (Needed gs) d → Enders gs → Finish (x ∷ f ∷ d)
with_declr x f s gs d h i l m k =
    let y = fill s x h in
    let declr : Spotted (begin rule.Dinit ▹ y.node) spot.DinitSet = node_step (begin rule.Dinit) y.node spot.Dinit spot.DinitSet (class.Node rule.Declr) refl (inl (refl, refl)) y.complete (sorted (class.Node rule.Declr) rule.Declr y.node refl (y.like ∙ i)) in
    let specs : Spotted (begin rule.Declaration ▹ f) spot.DeclarationFirst = node_step (begin rule.Declaration) f spot.Declaration spot.DeclarationFirst (class.Node rule.Specs) refl (inl (refl, refl)) l.0 (sorted (class.Node rule.Specs) rule.Specs f refl l.1) in
    let p = begin rule.Declaration ▹ f ▹ (begin rule.Dinit ▹ y.node) in
    let full = fill spot.DeclarationMore p (node_step (begin rule.Declaration ▹ f) (begin rule.Dinit ▹ y.node) spot.DeclarationFirst spot.DeclarationMore (class.Node rule.Dinit) specs (inl (refl, refl)) (spot.DinitSet, declr, refl) refl) in
    let done : Finish (p ∷ d) = with_full (Of class.Item) p gs d full (λ g c z. (c, sorted class.Item rule.Declaration g refl z)) m k in
    given (p ∷ d) (x ∷ f ∷ d) y.more
    (ap (λ ws. spell d ++ (leaves f ++ ws)) y.spelled ∙ ap (λ ws. spell d ++ ws) (sym (append_assoc (leaves f) (leaves x) y.more))
    ∙ sym (append_assoc (spell d) (leaves f ++ leaves x) y.more) ∙ ap (λ ws. ws ++ y.more) (sym (append_assoc (spell d) (leaves f) (leaves x)))) y.mild done

ends_declr : (x : Form) (s : Spot) (gs : List Goal) (d : List Form) → Spotted x s → sort x ≡ Some rule.Declr → ItemTarget (Needed gs) d → Enders gs → Finish (x ∷ d)
ends_declr x s gs [] h i t k = absurd t
ends_declr x s gs (f ∷ d) h i t k = with_declr x f s gs d h i t.0 t.1 k

ends_specs : (gs : List Goal) (d : List Form) → ItemTarget (Needed gs) d → Enders gs → Finish d
ends_specs gs [] t k = absurd t
ends_specs gs (f ∷ d) t k =
    let l = t.0 in
    let specs : Spotted (begin rule.Declaration ▹ f) spot.DeclarationFirst = node_step (begin rule.Declaration) f spot.Declaration spot.DeclarationFirst (class.Node rule.Specs) refl (inl (refl, refl)) l.0 (sorted (class.Node rule.Specs) rule.Specs f refl l.1) in
    let done : Finish ((begin rule.Declaration ▹ f) ∷ d) = with_full (Of class.Item) (begin rule.Declaration ▹ f) gs d (fill spot.DeclarationFirst (begin rule.Declaration ▹ f) specs) (λ g c z. (c, sorted class.Item rule.Declaration g refl z)) t.1 k in
    given ((begin rule.Declaration ▹ f) ∷ d) (f ∷ d) [] (sym (append-nil _)) refl done

-- what the goal needs, where no else comes
abbrev Now : List Goal → List Form → Type 0
Now gs d = (w : Word) → is_else w ≡ false → Needed gs d w

spotted_by : (p q : Form) (s : Spot) → p ≡ q → Spotted q s → Spotted p s
spotted_by p q s e h = subst (λ y. Spotted y s) (sym e) h

ends_by : (g : Goal) (gs : List Goal) (d : List Form) → Now (g ∷ gs) d → Enders gs → Finish d
ends_by (goal.At s) gs (p ∷ d) h k = let n = h word.Foreign refl in with_full (Like (sort p)) p gs d (fill s p n.spotted) (λ f c e. (c, e)) n.then k
ends_by (goal.At s) gs [] h k = absurd (h word.Foreign refl)
ends_by (goal.Read c) gs d h k = ends_read c gs d (h word.Foreign refl) k
ends_by goal.Join gs (f ∷ p ∷ d) h k = given ((p ▹ f) ∷ d) (f ∷ p ∷ d) [] (sym (append_assoc (spell d) (leaves p) (leaves f)) ∙ sym (append-nil _)) refl (k ((p ▹ f) ∷ d) h)
ends_by goal.Join gs [] h k = absurd (h word.Foreign refl)
ends_by goal.Join gs (f ∷ []) h k = absurd (h word.Foreign refl)
ends_by (goal.Assignment u) gs d h k = ends_prim u gs d (h word.Foreign refl) k
ends_by (goal.AssignmentOpen u) gs (x ∷ d) h k = let n = h word.Foreign refl in ends_begun u x spot.Prim gs d (spotted_by x (begin rule.Prim) spot.Prim n.0 refl) (ap sort n.0) n.1 k
ends_by (goal.AssignmentOpen u) gs [] h k = absurd (h word.Foreign refl)
ends_by (goal.AssignmentInside u) gs (x ∷ d) h k = let n = h word.Foreign refl in ends_begun u x spot.PrimInner gs d (spotted_by x (begin rule.Prim ▹ leaf word.Open) spot.PrimInner n.0 prim_opens) (ap sort n.0) n.1 k
ends_by (goal.AssignmentInside u) gs [] h k = absurd (h word.Foreign refl)
ends_by (goal.AssignmentRest u) gs (f ∷ d) h k = let n = h word.Foreign refl in ends_target u f gs d (weaker strength.Unary strength.Assign f (omega arith) n.0) n.1 k
ends_by (goal.AssignmentRest u) gs [] h k = absurd (h word.Foreign refl)
ends_by goal.BracketEnd gs (f ∷ d) h k = let n = h word.Foreign refl in ends_target Bracket f gs d (weaker strength.Cond strength.Assign f (omega arith) n.0) n.1 k
ends_by goal.BracketEnd gs [] h k = absurd (h word.Foreign refl)
ends_by goal.BracketClose gs (p ∷ q ∷ d) h k = let n = h word.Foreign refl in with_place p q spot.PlaceClose gs d n.0.twin.spotted n.0.twin.is n.0.begun n.1 k
ends_by goal.BracketClose gs [] h k = absurd (h word.Foreign refl)
ends_by goal.BracketClose gs (p ∷ []) h k = absurd (h word.Foreign refl)
ends_by goal.FutureRest gs (p ∷ q ∷ d) h k = let n = h word.Foreign refl in with_place p q spot.PlaceMore gs d n.0.twin.spotted n.0.twin.is n.0.begun n.1 k
ends_by goal.FutureRest gs [] h k = absurd (h word.Foreign refl)
ends_by goal.FutureRest gs (p ∷ []) h k = absurd (h word.Foreign refl)
ends_by goal.Operand gs d h k = with_rule (Strong strength.Cast) rule.Prim gs d (strong_prim strength.Cast) (h word.Foreign refl) k
ends_by goal.OperandOpen gs (x ∷ d) h k = let n = h word.Foreign refl in with_full (Strong strength.Cast) x gs d (fill spot.Prim x (spotted_by x (begin rule.Prim) spot.Prim n.0 refl)) (λ f c e. strong_prim strength.Cast f (c, e ∙ ap sort n.0)) n.1 k
ends_by goal.OperandOpen gs [] h k = absurd (h word.Foreign refl)
ends_by goal.OperandInside gs (x ∷ d) h k = let n = h word.Foreign refl in with_full (Strong strength.Cast) x gs d (fill spot.PrimInner x (spotted_by x (begin rule.Prim ▹ leaf word.Open) spot.PrimInner n.0 prim_opens)) (λ f c e. strong_prim strength.Cast f (c, e ∙ ap sort n.0)) n.1 k
ends_by goal.OperandInside gs [] h k = absurd (h word.Foreign refl)
ends_by goal.Unary gs d h k = with_rule (Strong strength.Unary) rule.Prim gs d (strong_prim strength.Unary) (h word.Foreign refl) k
ends_by goal.Suffix gs (f ∷ d) h k = let n = h word.Foreign refl in with_last (Strong strength.Postfix) f gs d n.0 n.1 k
ends_by goal.Suffix gs [] h k = absurd (h word.Foreign refl)
ends_by (goal.Tail l m) gs (f ∷ d) h k = let n = h word.Foreign refl in with_last (Strong (strength.Binary m)) f gs d (weaker (strength.Binary l) (strength.Binary m) f n.1 n.0) n.2 k
ends_by (goal.Tail l m) gs [] h k = absurd (h word.Foreign refl)
ends_by goal.CondRest gs (f ∷ d) h k = let n = h word.Foreign refl in with_last (Strong strength.Cond) f gs d (weaker (strength.Binary level_name.Or) strength.Cond f (omega arith) n.0) n.1 k
ends_by goal.CondRest gs [] h k = absurd (h word.Foreign refl)
ends_by goal.CommaRest gs (f ∷ d) h k = let n = h word.Foreign refl in with_last (Strong strength.Expr) f gs d n.0 n.1 k
ends_by goal.CommaRest gs [] h k = absurd (h word.Foreign refl)
ends_by goal.ItemRest gs d h k = ends_specs gs d (h word.Foreign refl) k
ends_by goal.ItemDeclr gs (x ∷ d) h k = let n = h word.Foreign refl in ends_declr x spot.Declr gs d (spotted_by x (begin rule.Declr) spot.Declr n.0 refl) (ap sort n.0) n.1 k
ends_by goal.ItemDeclr gs [] h k = absurd (h word.Foreign refl)
ends_by goal.ItemStars gs (x ∷ d) h k = let n = h word.Foreign refl in ends_declr x spot.DeclrStars gs d n.0.spotted n.0.is n.1 k
ends_by goal.ItemStars gs [] h k = absurd (h word.Foreign refl)
ends_by goal.ItemName gs (x ∷ d) h k = let n = h word.Foreign refl in ends_declr x spot.DeclrBounds gs d n.0.spotted n.0.is n.1 k
ends_by goal.ItemName gs [] h k = absurd (h word.Foreign refl)
ends_by goal.FutureWord gs (q ∷ d) h k = let n = h word.Foreign refl in with_full (Of class.BlockItem) q gs d (fill spot.Future q (spotted_by q (begin rule.Future) spot.Future n.0 refl)) (λ f c e. (c, sorted class.BlockItem rule.Future f (inr (inr refl)) (e ∙ ap sort n.0))) n.1 k
ends_by goal.FutureWord gs [] h k = absurd (h word.Foreign refl)
ends_by goal.FutureNext gs (q ∷ d) h k = let n = h word.Foreign refl in with_full (Of class.BlockItem) q gs d (fill spot.FuturePlace q (spotted_by q future spot.FuturePlace n.0 (word_step (begin rule.Future) word.Future word.Future spot.Future spot.FuturePlace refl (inl (refl, refl)) refl (λ z. cc z)))) (λ f c e. (c, sorted class.BlockItem rule.Future f (inr (inr refl)) (e ∙ ap sort n.0))) n.1 k
ends_by goal.FutureNext gs [] h k = absurd (h word.Foreign refl)
ends_by goal.FutureName gs (p ∷ q ∷ d) h k = let n = h word.Foreign refl in with_place p q spot.Place gs d (spotted_by p (begin rule.Place) spot.Place n.0 refl) (ap sort n.0) n.1 n.2 k
ends_by goal.FutureName gs [] h k = absurd (h word.Foreign refl)
ends_by goal.FutureName gs (p ∷ []) h k = absurd (h word.Foreign refl)

-- the goals can be met, whatever was read
pub ends : (gs : List Goal) → Enders gs
ends [] d h = let n = h word.Foreign refl in record { whole = n.0; more = []; complete = n.2.0; unit = n.2.1; spelled = sym (ap spell n.1) ∙ sym (append-nil (spell d)); mild = refl }
ends (g ∷ gs) d h = ends_by g gs d h (ends gs)
