-- The grammar: which trees are trees of it, and which words a tree stands for.
use Rattle.std.specs.Prelude.{◌≡◌, ◌⊎◌, ℕ, ◌+◌, ◌<◌, ◌≤◌, List, [], ◌∷◌, ◌++◌, length, take, Option, Some, None, Bool, true, false, ◌&&◌, ◌||◌, not}
use Rattle.xc_raw.specs.declared.word.Word.{Word}
use Rattle.xc_raw.specs.declared.word.Word.TheVariants as word
use Rattle.xc_raw.specs.declared.rule.Rule.{Rule}
use Rattle.xc_raw.specs.declared.rule.Rule.TheVariants as rule
use Rattle.xc_raw.specs.declared.rule.Level.TheVariants as level_name
use Rattle.xc_parse_grammar.specs.declared.marks.Strength.{Strength}
use Rattle.xc_parse_grammar.specs.declared.marks.Strength.TheVariants as strength
use Rattle.xc_parse_grammar.specs.declared.marks.Class.{Class}
use Rattle.xc_parse_grammar.specs.declared.marks.Class.TheVariants as class
use Rattle.xc_parse_grammar.specs.declared.marks.Kind.{Kind}
use Rattle.xc_parse_grammar.specs.declared.marks.Kind.TheVariants as kind
use Rattle.xc_parse_grammar.specs.declared.marks.Item.{Item}
use Rattle.xc_parse_grammar.specs.declared.marks.Item.TheVariants as item
use Rattle.xc_parse_grammar.specs.Marks.{accepts, rank, level_rank, tighter}

infixl 60 ◌▹◌
infixr 45 ◌⋅◌
infixr 40 ◌∣◌
-- a tree, without where it lies in memory: a token, a node of a rule with no parts yet, and a node with one part more
pub data Form : Type 0 where
  leaf : Word → Form
  begin : Rule → Form
  ◌▹◌ : Form → Form → Form

-- the words that the tree stands for
abbrev pub leaves : Form → List Word
leaves (leaf w) = w ∷ []
leaves (begin r) = []
leaves (f ▹ g) = leaves f ++ leaves g

-- the right sides of rules, as in extended Backus-Naur form: an item, one after the other, one or the other, at most one time, any number of times; and a list of items with commas between, of which one more may stand behind the last item
pub data Pattern : Type 0 where
  nothing : Pattern
  of : Item → Pattern
  ◌⋅◌ : Pattern → Pattern → Pattern
  ◌∣◌ : Pattern → Pattern → Pattern
  opt : Pattern → Pattern
  many : Pattern → Pattern
  listed : Item → Pattern
  -- such a list behind an item, and behind a comma
  listed_more : Item → Pattern
  listed_next : Item → Pattern

abbrev pub token : Word → Pattern
token w = of (item.Word w)

abbrev pub any : Kind → Pattern
any k = of (item.Kind k)

abbrev pub node : Rule → Pattern
node r = of (item.Part (class.Node r))

abbrev pub at : Strength → Pattern
at s = of (item.Part (class.At s))

abbrev pub expr : Pattern
expr = at strength.Expr

abbrev pub assign : Pattern
assign = at strength.Assign

abbrev pub cond : Pattern
cond = at strength.Cond

abbrev pub cast : Pattern
cast = at strength.Cast

abbrev pub unary : Pattern
unary = at strength.Unary

abbrev pub postfix : Pattern
postfix = at strength.Postfix

abbrev pub file_item : Pattern
file_item = of (item.Part class.Item)

abbrev pub block_item : Pattern
block_item = of (item.Part class.BlockItem)

abbrev pub stmt : Pattern
stmt = of (item.Part class.Stmt)

abbrev pub init_item : Item
init_item = item.Part class.Init

abbrev pub init : Pattern
init = of init_item

abbrev pub stars : Pattern
stars = many (token word.Star ⋅ many (any kind.Qualifier))

-- the rules
abbrev pub rule_of : Rule → Pattern
rule_of rule.Unit = file_item ⋅ many file_item
rule_of rule.Pragma = token word.Pragma
rule_of rule.Declaration = node rule.Specs ⋅ opt (node rule.Dinit ⋅ many (token word.Comma ⋅ node rule.Dinit)) ⋅ token word.Semicolon
rule_of rule.Function = node rule.Specs ⋅ node rule.Callee ⋅ node rule.Params ⋅ (token word.Semicolon ∣ node rule.Block)
rule_of rule.Specs = (any kind.Specifier ∣ node rule.Struct) ⋅ many (any kind.Specifier ∣ node rule.Struct)
rule_of rule.Struct = token word.Struct ⋅ token word.Name ⋅ opt (token word.OpenBrace ⋅ node rule.Member ⋅ many (node rule.Member) ⋅ token word.CloseBrace)
rule_of rule.Member = node rule.Specs ⋅ node rule.Declr ⋅ many (token word.Comma ⋅ node rule.Declr) ⋅ token word.Semicolon
rule_of rule.Declr = stars ⋅ token word.Name ⋅ many (token word.OpenBracket ⋅ cond ⋅ token word.CloseBracket)
rule_of rule.Callee = stars ⋅ token word.Name
rule_of rule.Dinit = node rule.Declr ⋅ opt (token word.Set ⋅ init)
rule_of rule.Initialisers = token word.OpenBrace ⋅ listed init_item ⋅ token word.CloseBrace
rule_of rule.Params = token word.Open ⋅ opt (node rule.Param ⋅ many (token word.Comma ⋅ node rule.Param)) ⋅ token word.Close
rule_of rule.Param = node rule.Specs ⋅ stars ⋅ opt (token word.Name) ⋅ opt (token word.OpenBracket ⋅ opt cond ⋅ token word.CloseBracket ⋅ many (token word.OpenBracket ⋅ cond ⋅ token word.CloseBracket))
rule_of rule.Block = token word.OpenBrace ⋅ many block_item ⋅ token word.CloseBrace
rule_of rule.Sub = many (node rule.Pragma) ⋅ stmt
rule_of rule.Eval = opt expr ⋅ token word.Semicolon
rule_of rule.Clause = opt expr ⋅ token word.Semicolon
rule_of rule.If = token word.If ⋅ token word.Open ⋅ expr ⋅ token word.Close ⋅ node rule.Sub ⋅ opt (token word.Else ⋅ node rule.Sub)
rule_of rule.While = token word.While ⋅ token word.Open ⋅ expr ⋅ token word.Close ⋅ node rule.Sub
rule_of rule.Do = token word.Do ⋅ node rule.Sub ⋅ token word.While ⋅ token word.Open ⋅ expr ⋅ token word.Close ⋅ token word.Semicolon
rule_of rule.For = token word.For ⋅ token word.Open ⋅ (node rule.ForDeclaration ∣ node rule.Clause) ⋅ node rule.Clause ⋅ node rule.Step ⋅ node rule.Sub
rule_of rule.ForDeclaration = node rule.Specs ⋅ node rule.Dinit ⋅ many (token word.Comma ⋅ node rule.Dinit) ⋅ token word.Semicolon
rule_of rule.Step = opt expr ⋅ token word.Close
rule_of rule.Return = token word.Return ⋅ opt expr ⋅ token word.Semicolon
rule_of rule.Break = token word.Break ⋅ token word.Semicolon
rule_of rule.Continue = token word.Continue ⋅ token word.Semicolon
rule_of rule.Future = token word.Future ⋅ node rule.Place ⋅ token word.Open ⋅ opt (token word.Name ⋅ many (token word.Comma ⋅ token word.Name)) ⋅ token word.Close ⋅ node rule.Block
rule_of rule.Place = token word.Name ⋅ many (token word.OpenBracket ⋅ expr ⋅ token word.CloseBracket ∣ any kind.Access ⋅ token word.Name)
rule_of rule.Comma = expr ⋅ token word.Comma ⋅ assign
rule_of rule.Assign = unary ⋅ any kind.Assignment ⋅ assign
rule_of rule.Cond = at (strength.Binary level_name.Or) ⋅ token word.Question ⋅ expr ⋅ token word.Colon ⋅ cond
rule_of (rule.Binary level) = at (strength.Binary level) ⋅ any (kind.Operator level) ⋅ at (tighter level)
rule_of rule.Cast = token word.Open ⋅ node rule.Specs ⋅ stars ⋅ token word.Close ⋅ cast
rule_of rule.Unary = any kind.Step ⋅ unary ∣ any kind.Prefix ⋅ cast
rule_of rule.Postfix = postfix ⋅ (token word.OpenBracket ⋅ expr ⋅ token word.CloseBracket ∣ token word.Open ⋅ opt (assign ⋅ many (token word.Comma ⋅ assign)) ⋅ token word.Close ∣ any kind.Access ⋅ token word.Name ∣ any kind.Step)
rule_of rule.Prim = token word.Name ∣ any kind.Literal ∣ token word.Open ⋅ expr ⋅ token word.Close

-- the pattern can be over
abbrev pub may_be_over : Pattern → Bool
may_be_over nothing = true
may_be_over (of i) = false
may_be_over (p ⋅ q) = may_be_over p && may_be_over q
may_be_over (p ∣ q) = may_be_over p || may_be_over q
may_be_over (opt p) = true
may_be_over (many p) = true
may_be_over (listed i) = false
may_be_over (listed_more i) = true
may_be_over (listed_next i) = true

-- the one after the other, as a list of what is to come
abbrev pub followed_by : Pattern → Pattern → Pattern
followed_by nothing q = q
followed_by (p ⋅ p') q = p ⋅ followed_by p' q
followed_by (of i) q = of i ⋅ q
followed_by (p ∣ p') q = (p ∣ p') ⋅ q
followed_by (opt p) q = opt p ⋅ q
followed_by (many p) q = many p ⋅ q
followed_by (listed i) q = listed i ⋅ q
followed_by (listed_more i) q = listed_more i ⋅ q
followed_by (listed_next i) q = listed_next i ⋅ q

abbrev pub all_followed_by : Pattern → List (Item × Pattern) → List (Item × Pattern)
all_followed_by q [] = []
all_followed_by q (m ∷ ms) = (m.0, followed_by m.1 q) ∷ all_followed_by q ms

abbrev pub when : Bool → List (Item × Pattern) → List (Item × Pattern)
when true ms = ms
when false ms = []

-- what can come first, with what is left then
abbrev pub firsts : Pattern → List (Item × Pattern)
firsts nothing = []
firsts (of i) = (i, nothing) ∷ []
firsts (p ⋅ q) = all_followed_by q (firsts p) ++ when (may_be_over p) (firsts q)
firsts (p ∣ q) = firsts p ++ firsts q
firsts (opt p) = firsts p
firsts (many p) = all_followed_by (many p) (firsts p)
firsts (listed i) = (i, listed_more i) ∷ []
firsts (listed_more i) = (item.Word word.Comma, listed_next i) ∷ []
firsts (listed_next i) = (i, listed_more i) ∷ []

-- it is one of those
abbrev pub Among : {S : Type 0} → Item → S → List (Item × S) → Type 0
Among i s [] = ⊥
Among i s (t ∷ ts) = ((t.0 ≡ i) × (t.1 ≡ s)) ⊎ Among i s ts

-- the rule of a node
abbrev pub sort : Form → Option Rule
sort (leaf w) = None
sort (begin r) = Some r
sort (f ▹ g) = sort f

-- how tightly an expression binds
abbrev pub height : Rule → Option ℕ
height rule.Comma = Some 0
height rule.Assign = Some 1
height rule.Cond = Some 2
height (rule.Binary level) = Some (level_rank level)
height rule.Cast = Some 13
height rule.Unary = Some 14
height rule.Postfix = Some 15
height rule.Prim = Some 15
height _ = None

abbrev pub AtLeast : ℕ → Option ℕ → Type 0
AtLeast n None = ⊥
AtLeast n (Some h) = n ≤ h

abbrev pub is_item : Rule → Bool
is_item rule.Pragma = true
is_item rule.Declaration = true
is_item rule.Function = true
is_item _ = false

abbrev pub is_stmt : Rule → Bool
is_stmt rule.Block = true
is_stmt rule.Eval = true
is_stmt rule.If = true
is_stmt rule.While = true
is_stmt rule.Do = true
is_stmt rule.For = true
is_stmt rule.Return = true
is_stmt rule.Break = true
is_stmt rule.Continue = true
is_stmt rule.Future = true
is_stmt _ = false

-- the rules of a class
abbrev pub InClass : Class → Rule → Type 0
InClass (class.Node r) q = q ≡ r
InClass class.Item q = is_item q ≡ true
InClass class.BlockItem q = (q ≡ rule.Pragma) ⊎ ((q ≡ rule.Declaration) ⊎ (is_stmt q ≡ true))
InClass class.Stmt q = is_stmt q ≡ true
InClass class.Init q = (q ≡ rule.Initialisers) ⊎ AtLeast 1 (height q)
InClass (class.At s) q = AtLeast (rank s) (height q)

abbrev pub Is : Class → Option Rule → Type 0
Is c None = ⊥
Is c (Some q) = InClass c q

-- a token that the item allows
abbrev pub IsToken : Item → Form → Type 0
IsToken i (leaf w) = accepts i w ≡ true
IsToken i (begin r) = ⊥
IsToken i (f ▹ g) = ⊥

-- a part that the item allows, where whole says that it is a node of the grammar itself
abbrev pub Fits : Item → Form → Type 0 → Type 0
Fits (item.Part c) g whole = whole × Is c (sort g)
Fits (item.Word w) g whole = IsToken (item.Word w) g
Fits (item.Kind k) g whole = IsToken (item.Kind k) g

abbrev pub is_else : Word → Bool
is_else word.Else = true
is_else _ = false

abbrev pub is_leaf_else : Form → Bool
is_leaf_else (leaf w) = is_else w
is_leaf_else (begin r) = false
is_leaf_else (f ▹ g) = false

abbrev pub ends_in_else : Form → Bool
ends_in_else (leaf w) = false
ends_in_else (begin r) = false
ends_in_else (f ▹ g) = is_leaf_else g

-- a node whose last part is a statement, given whether an else stands before that part and whether that part is open
abbrev pub opens : Option Rule → Bool → Bool → Bool
opens (Some rule.If) otherwise last = not otherwise || last
opens (Some rule.While) otherwise last = last
opens (Some rule.For) otherwise last = last
opens (Some rule.Sub) otherwise last = last
opens _ otherwise last = false

-- a node that ends with an if that an else could join
abbrev pub is_open : Form → Bool
is_open (leaf w) = false
is_open (begin r) = false
is_open (f ▹ g) = opens (sort f) (ends_in_else f) (is_open g)

abbrev pub last_is_open : Form → Bool
last_is_open (leaf w) = false
last_is_open (begin r) = false
last_is_open (f ▹ g) = is_open g

-- an else joins the nearest if
abbrev pub Nearest : Form → Form → Type 0
Nearest f g = is_leaf_else g ≡ true → last_is_open f ≡ false

-- the last step of a node: the part g behind f, from what was left to what is left
pub record Step (before whole : Pattern → Type 0) (f g : Form) (left : Pattern) : Type 0 where
  pub from : Pattern
  pub item : Item
  pub begun : before from
  pub allowed : Among item left (firsts from)
  pub fits : Fits item g ((end : Pattern) × whole end × (may_be_over end ≡ true))
  pub nearest : Nearest f g

-- the tree is the beginning of a node of the grammar, of whose rule this is left
abbrev pub Begun : Form → Pattern → Type 0
Begun (leaf w) left = ⊥
Begun (begin r) left = left ≡ rule_of r
Begun (f ▹ g) left = Step (Begun f) (Begun g) f g left

-- the tree is a node of the grammar
abbrev pub Whole : Form → Type 0
Whole f = (end : Pattern) × Begun f end × (may_be_over end ≡ true)

-- the tree derives the words
pub record Derives (f : Form) (words : List Word) : Type 0 where
  pub whole : Whole f
  pub unit : sort f ≡ Some rule.Unit
  pub spelled : leaves f ≡ words

-- the words can go on to a text
abbrev pub CanGoOn : List Word → Type 0
CanGoOn words = (f : Form) × (more : List Word) × Derives f (words ++ more)

-- the first place at which no text goes on: the words before it can go on, those up to it and with it cannot
pub record Stops (words : List Word) (k : ℕ) : Type 0 where
  pub within : k ≤ length words
  pub before : CanGoOn (take k words)
  pub after : k < length words → CanGoOn (take (k + 1) words) → ⊥
  pub no_tree : (f : Form) → Derives f words → ⊥
