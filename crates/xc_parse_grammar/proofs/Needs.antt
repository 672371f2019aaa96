-- What the goals need of the nodes at work, whatever words come: that each node is one of the grammar.
use Rattle.std.proofs.Common.{◌≡◌, ℕ, ◌≤◌, List, [], ◌∷◌, Option, Some, None, Bool, true, false, refl, sym, ap, ◌∙◌, subst, arith}
use Rattle.xc_raw.specs.declared.word.Word.{Word}
use Rattle.xc_raw.specs.declared.word.Word.TheVariants as word
use Rattle.xc_raw.specs.declared.rule.Rule.{Rule}
use Rattle.xc_raw.specs.declared.rule.Rule.TheVariants as rule
use Rattle.xc_raw.specs.declared.rule.Level.TheVariants as level_name
use Rattle.xc_parse_grammar.specs.declared.marks.Strength.{Strength}
use Rattle.xc_parse_grammar.specs.declared.marks.Strength.TheVariants as strength
use Rattle.xc_parse_grammar.specs.declared.marks.Class.{Class}
use Rattle.xc_parse_grammar.specs.declared.marks.Class.TheVariants as class
use Rattle.xc_parse_grammar.specs.declared.marks.Kind.{Kind}
use Rattle.xc_parse_grammar.specs.declared.marks.Item.TheVariants as item
use Rattle.xc_parse_grammar.specs.declared.spots.Spot.{Spot}
use Rattle.xc_parse_grammar.specs.declared.spots.Spot.TheVariants as spot
use Rattle.xc_parse_grammar.specs.declared.goals.Use.{Use}
use Rattle.xc_parse_grammar.specs.declared.goals.Use.TheVariants.{Plain, Bracket}
use Rattle.xc_parse_grammar.specs.declared.goals.Goal.{Goal}
use Rattle.xc_parse_grammar.specs.declared.goals.Goal.TheVariants as goal
use Rattle.xc_parse_grammar.specs.Marks.{accepts, rank, level_rank}
use Rattle.xc_parse_grammar.specs.Grammar.{Form, leaf, begin, ◌▹◌, Among, sort, height, AtLeast, Is, InClass, is_else, is_leaf_else, ends_in_else, opens, is_open, last_is_open}
use Rattle.xc_parse_grammar.specs.Spots.{steps}
use Rattle.xc_parse_grammar.specs.Building.{retitle}
use Rattle.xc_parse_grammar.proofs.Links.{Spotted, Complete}

-- what is claimed of the nodes at work where a word comes next
abbrev pub Claim : Type 1
Claim = List Form → Word → Type 0

-- the first and, where that is true, the second
abbrev pub both : Bool → Bool → Bool
both true b = b
both false b = false

-- no else joins the node
abbrev pub Calm : Form → Word → Type 0
Calm f w = both (is_open f) (is_else w) ≡ false

-- each such node may be the last one
abbrev pub Makes : (Form → Type 0) → Claim → List Form → Type 0
Makes P rest d = (f : Form) (w : Word) → P f → Calm f w → rest (f ∷ d) w

abbrev pub Like : Option Rule → Form → Type 0
Like o f = Complete f × (sort f ≡ o)

abbrev pub Of : Class → Form → Type 0
Of c f = Complete f × Is c (sort f)

abbrev pub Strong : Strength → Form → Type 0
Strong s f = Complete f × Is (class.At s) (sort f)

pub record AtNeeds (s : Spot) (rest : Claim) (p : Form) (d : List Form) (w : Word) : Type 0 where
  pub spotted : Spotted p s
  pub calm : both (last_is_open p) (is_else w) ≡ false
  pub then : Makes (Like (sort p)) rest d

-- a node that may yet be of two rules
pub record Twin (q r : Rule) (s t : Spot) (p : Form) : Type 0 where
  pub spotted : Spotted p s
  pub also : Spotted (retitle r p) t
  pub is : sort p ≡ Some q
  pub closed : last_is_open p ≡ false

abbrev pub future : Form
future = begin rule.Future ▹ leaf word.Future

pub record InFuture (s t : Spot) (p q : Form) : Type 0 where
  pub twin : Twin rule.Place rule.Declr s t p
  pub begun : q ≡ future

abbrev pub Target : Use → Claim → List Form → Type 0
Target Plain rest d = Makes (Strong strength.Assign) rest d
Target Bracket rest [] = ⊥
Target Bracket rest (p ∷ []) = ⊥
Target Bracket rest (p ∷ q ∷ d) = InFuture spot.PlaceIndex spot.DeclrBound p q × Makes (Of class.BlockItem) rest d

abbrev pub ItemTarget : Claim → List Form → Type 0
ItemTarget rest [] = ⊥
ItemTarget rest (f ∷ d) = Like (Some rule.Specs) f × Makes (Of class.Item) rest d

abbrev pub Needs : Goal → Claim → Claim
Needs (goal.At s) rest (p ∷ d) w = AtNeeds s rest p d w
Needs (goal.Read c) rest d w = Makes (Of c) rest d
Needs goal.Join rest (f ∷ p ∷ d) w = rest ((p ▹ f) ∷ d) w
Needs (goal.Assignment u) rest d w = Target u rest d
Needs (goal.AssignmentOpen u) rest (x ∷ d) w = (x ≡ begin rule.Prim) × Target u rest d
Needs (goal.AssignmentInside u) rest (x ∷ d) w = (x ≡ begin rule.Prim ▹ leaf word.Open) × Target u rest d
Needs (goal.AssignmentRest u) rest (f ∷ d) w = Strong strength.Unary f × Target u rest d
Needs goal.BracketEnd rest (f ∷ d) w = Strong strength.Cond f × Target Bracket rest d
Needs goal.BracketClose rest (p ∷ q ∷ d) w = InFuture spot.PlaceClose spot.DeclrClose p q × Makes (Of class.BlockItem) rest d
Needs goal.Operand rest d w = Makes (Strong strength.Cast) rest d
Needs goal.OperandOpen rest (x ∷ d) w = (x ≡ begin rule.Prim) × Makes (Strong strength.Cast) rest d
Needs goal.OperandInside rest (x ∷ d) w = (x ≡ begin rule.Prim ▹ leaf word.Open) × Makes (Strong strength.Cast) rest d
Needs goal.Unary rest d w = Makes (Strong strength.Unary) rest d
Needs goal.Suffix rest (f ∷ d) w = Strong strength.Postfix f × Makes (Strong strength.Postfix) rest d
Needs (goal.Tail level last) rest (f ∷ d) w = Strong (strength.Binary level) f × (level_rank last ≤ level_rank level) × Makes (Strong (strength.Binary last)) rest d
Needs goal.CondRest rest (f ∷ d) w = Strong (strength.Binary level_name.Or) f × Makes (Strong strength.Cond) rest d
Needs goal.CommaRest rest (f ∷ d) w = Strong strength.Expr f × Makes (Strong strength.Expr) rest d
Needs goal.ItemRest rest d w = ItemTarget rest d
Needs goal.ItemDeclr rest (x ∷ d) w = (x ≡ begin rule.Declr) × ItemTarget rest d
Needs goal.ItemStars rest (x ∷ d) w = Twin rule.Declr rule.Callee spot.DeclrStars spot.CalleeStars x × ItemTarget rest d
Needs goal.ItemName rest (x ∷ d) w = Twin rule.Declr rule.Callee spot.DeclrBounds spot.Done x × ItemTarget rest d
Needs goal.FutureWord rest (q ∷ d) w = (q ≡ begin rule.Future) × Makes (Of class.BlockItem) rest d
Needs goal.FutureNext rest (q ∷ d) w = (q ≡ future) × Makes (Of class.BlockItem) rest d
Needs goal.FutureName rest (p ∷ q ∷ d) w = (p ≡ begin rule.Place) × (q ≡ future) × Makes (Of class.BlockItem) rest d
Needs goal.FutureRest rest (p ∷ q ∷ d) w = InFuture spot.PlaceMore spot.DeclrBounds p q × Makes (Of class.BlockItem) rest d
Needs _ rest _ w = ⊥

-- the goals can be met, and then one text is left
abbrev pub Needed : List Goal → Claim
Needed [] d w = (f : Form) × (d ≡ f ∷ []) × Like (Some rule.Unit) f
Needed (g ∷ gs) d w = Needs g (Needed gs) d w

-- expressions, and nodes of most rules, are not open ---------------------------------------------

opens_strong : (s : Strength) (o : Option Rule) (a b : Bool) → Is (class.At s) o → opens o a b ≡ false
opens_strong s (Some rule.If) a b h = absurd h
opens_strong s (Some rule.While) a b h = absurd h
opens_strong s (Some rule.For) a b h = absurd h
opens_strong s (Some rule.Sub) a b h = absurd h
opens_strong s _ a b h = refl

pub strong_closed : (s : Strength) (f : Form) → Is (class.At s) (sort f) → is_open f ≡ false
strong_closed s (leaf w) h = refl
strong_closed s (begin r) h = refl
strong_closed s (f ▹ g) h = opens_strong s (sort f) (ends_in_else f) (is_open g) h

abbrev pub is_loose : Rule → Bool
is_loose rule.If = true
is_loose rule.While = true
is_loose rule.For = true
is_loose rule.Sub = true
is_loose _ = false

opens_closed : (r : Rule) (a b : Bool) → is_loose r ≡ false → opens (Some r) a b ≡ false
opens_closed rule.If a b h = cc h
opens_closed rule.While a b h = cc h
opens_closed rule.For a b h = cc h
opens_closed rule.Sub a b h = cc h
opens_closed _ a b h = refl

pub sort_closed : (r : Rule) (f : Form) → sort f ≡ Some r → is_loose r ≡ false → is_open f ≡ false
sort_closed r (leaf w) e h = refl
sort_closed r (begin q) e h = refl
sort_closed r (f ▹ g) e h = ap (λ o. opens o (ends_in_else f) (is_open g)) e ∙ opens_closed r (ends_in_else f) (is_open g) h

pub calm_closed : (f : Form) (w : Word) → is_open f ≡ false → Calm f w
calm_closed f w e = ap (λ b. both b (is_else w)) e

pub calm_strong : (s : Strength) (f : Form) (w : Word) → Strong s f → Calm f w
calm_strong s f w h = calm_closed f w (strong_closed s f h.1)

at_least_weak : (n m : ℕ) (o : Option ℕ) → m ≤ n → AtLeast n o → AtLeast m o
at_least_weak n m None le h = h
at_least_weak n m (Some k) le h = omega (arith, le, h)

is_weak : (s t : Strength) (o : Option Rule) → rank t ≤ rank s → Is (class.At s) o → Is (class.At t) o
is_weak s t None le h = h
is_weak s t (Some r) le h = at_least_weak (rank s) (rank t) (height r) le h

pub weaker : (s t : Strength) (f : Form) → rank t ≤ rank s → Strong s f → Strong t f
weaker s t f le h = (h.0, is_weak s t (sort f) le h.1)

-- a rule's node is in a class
pub sorted : (c : Class) (r : Rule) (f : Form) → InClass c r → sort f ≡ Some r → Is c (sort f)
sorted c r f h e = subst (λ o. Is c o) (sym e) h

-- steps ------------------------------------------------------------------------------------------

no_leaf : (f : Form) → Complete f → is_leaf_else f ≡ false
no_leaf (leaf w) h = absurd h.1
no_leaf (begin r) h = refl
no_leaf (f ▹ g) h = refl

pub node_step : (p f : Form) (s t : Spot) (c : Class) → Spotted p s → Among (item.Part c) t (steps s) → Complete f → Is c (sort f) → Spotted (p ▹ f) t
node_step p f s t c h m k i = record {
  from = s;
  item = item.Part c;
  begun = h;
  allowed = m;
  fits = (k, i);
  nearest = λ e. let bad : true ≡ false = sym e ∙ no_leaf f k in cc bad;
}

pub word_step : (p : Form) (w v : Word) (s t : Spot) → Spotted p s → Among (item.Word v) t (steps s) → accepts (item.Word v) w ≡ true → (is_else w ≡ true → last_is_open p ≡ false) → Spotted (p ▹ leaf w) t
word_step p w v s t h m a n = record { from = s; item = item.Word v; begun = h; allowed = m; fits = a; nearest = n }

pub kind_step : (p : Form) (w : Word) (k : Kind) (s t : Spot) → Spotted p s → Among (item.Kind k) t (steps s) → accepts (item.Kind k) w ≡ true → (is_else w ≡ true → last_is_open p ≡ false) → Spotted (p ▹ leaf w) t
kind_step p w k s t h m a n = record { from = s; item = item.Kind k; begun = h; allowed = m; fits = a; nearest = n }

by_both : (a b : Bool) → both a b ≡ false → b ≡ true → a ≡ false
by_both true b h e = let bad : true ≡ false = sym e ∙ h in cc bad
by_both false b h e = refl

pub calm_nearest : (p : Form) (w : Word) → both (last_is_open p) (is_else w) ≡ false → is_else w ≡ true → last_is_open p ≡ false
calm_nearest p w h = by_both (last_is_open p) (is_else w) h
