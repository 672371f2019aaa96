-- The parts of a node, by the pattern of its rule.
use Rattle.std.proofs.Common.{◌≡◌, ℕ, zero, suc, List, [], ◌∷◌, Option, Some, None, Bool, true, false, refl, ap, ◌∙◌, ◌⊎◌, inl, inr}
use Rattle.std.specs.Prelude.{IsTrue, is_some}
use Rattle.xc_raw.specs.declared.word.Word.TheVariants as word
use Rattle.xc_raw.specs.declared.rule.Rule.{Rule}
use Rattle.xc_raw.specs.declared.rule.Rule.TheVariants as rule
use Rattle.xc_raw.specs.declared.tree.Raw.{Raw}
use Rattle.xc_parse_grammar.specs.declared.marks.Class.{Class}
use Rattle.xc_parse_grammar.specs.declared.marks.Class.TheVariants as class
use Rattle.xc_parse_grammar.specs.declared.marks.Item.{Item}
use Rattle.xc_parse_grammar.specs.declared.marks.Item.TheVariants as item
use Rattle.xc_parse_grammar.specs.declared.marks.Strength.{Strength}
use Rattle.xc_parse_grammar.specs.Marks.{rank}
use Rattle.xc_parse_grammar.specs.Grammar.{Pattern, nothing, of, ◌⋅◌, ◌∣◌, opt, many, listed, listed_more, listed_next, rule_of, InClass, AtLeast, height, is_item, is_stmt}
use Rattle.xc_tree.proofs.Lists.{and_both}
use Rattle.xc_welltyped_claims.specs.Shaped.{rule_in, is_expr, is_braces, is_init, is_block_item, all_of, none_of, one_at_most}
use Rattle.xc_welltyped_claims.proofs.Patterns.{Piece, token, part, nodes, Claim, Ended, One, Times, Turns, Reads}
use Rattle.xc_welltyped.proofs.Types.{or_left, or_right}

-- what is claimed of nodes
abbrev pub Nodes : Type 1
Nodes = List Raw → Type 0

abbrev pub Over : Nodes
Over [] = Unit {0}
Over (n ∷ ns) = ⊥

-- a node that the item allows, and what is claimed behind it; tokens are left out
abbrev pub Next : Item → Nodes → Nodes
Next (item.Part c) k [] = ⊥
Next (item.Part c) k (n ∷ ns) = InClass c (rule_in n) × k ns
Next (item.Word w) k ns = k ns
Next (item.Kind w) k ns = k ns

abbrev pub Often : (Nodes → Nodes) → ℕ → Nodes → Nodes
Often R zero k = k
Often R (suc n) k = R (Often R n k)

-- nodes of this pattern, and what is claimed behind them
abbrev pub Parts : Pattern → Nodes → Nodes
Parts nothing k = k
Parts (of i) k = Next i k
Parts (p ⋅ q) k = Parts p (Parts q k)
Parts (p ∣ q) k = λ ns. Parts p k ns ⊎ Parts q k ns
Parts (opt p) k = λ ns. k ns ⊎ Parts p k ns
Parts (many p) k = λ ns. (n : ℕ) × Often (Parts p) n k ns
Parts (listed i) k = Next i (λ ns. (n : ℕ) × Often (Next i) n k ns)
Parts (listed_more i) k = λ ns. (n : ℕ) × Often (Next i) n k ns
Parts (listed_next i) k = λ ns. (n : ℕ) × Often (Next i) n k ns

-- pieces are read, and so their nodes
abbrev pub Leads : Claim → Nodes → Type 0
Leads K L = (xs : List Piece) → K xs → L (nodes xs)

next_one : (i : Item) (K : Claim) (L : Nodes) → Leads K L → Leads (One i K) (Next i L)
next_one i K L f [] h = absurd h
next_one (item.Part c) K L f (token w ∷ xs) h = absurd h.0
next_one (item.Part c) K L f (part n ∷ xs) h = (h.0, f xs h.1)
next_one (item.Word v) K L f (token w ∷ xs) h = f xs h.1
next_one (item.Word v) K L f (part n ∷ xs) h = absurd h.0
next_one (item.Kind v) K L f (token w ∷ xs) h = f xs h.1
next_one (item.Kind v) K L f (part n ∷ xs) h = absurd h.0

often_times : (R : Claim → Claim) (S : Nodes → Nodes) → ((K : Claim) (L : Nodes) → Leads K L → Leads (R K) (S L)) → (n : ℕ) (K : Claim) (L : Nodes) → Leads K L → Leads (Times R n K) (Often S n L)
often_times R S r zero K L f = f
often_times R S r (suc n) K L f = r (Times R n K) (Often S n L) (often_times R S r n K L f)

-- so many items, whatever commas stand between
abbrev Turned : Item → Nodes → Nodes
Turned i L ns = (m : ℕ) × Often (Next i) m L ns

turned_more : (i : Item) (L : Nodes) (ns : List Raw) → Next i (Turned i L) ns → Turned i L ns
turned_more (item.Part c) L [] h = absurd h
turned_more (item.Part c) L (n ∷ ns) h = (suc h.1.0, (h.0, h.1.1))
turned_more (item.Word w) L ns h = h
turned_more (item.Kind w) L ns h = h

often_turns : (b : Bool) (i : Item) (n : ℕ) (K : Claim) (L : Nodes) → Leads K L → Leads (Turns b i n K) (Turned i L)
often_turns b i zero K L f xs h = (0, f xs h)
often_turns true i (suc n) K L f xs h = next_one (item.Word word.Comma) (Turns false i n K) (Turned i L) (often_turns false i n K L f) xs h
often_turns false i (suc n) K L f xs h = turned_more i L (nodes xs) (next_one i (Turns true i n K) (Turned i L) (often_turns true i n K L f) xs h)

pub parts_read : (p : Pattern) (K : Claim) (L : Nodes) → Leads K L → Leads (Reads p K) (Parts p L)
parts_read nothing K L f xs h = f xs h
parts_read (of i) K L f xs h = next_one i K L f xs h
parts_read (p ⋅ q) K L f xs h = parts_read p (Reads q K) (Parts q L) (parts_read q K L f) xs h
parts_read (p ∣ q) K L f xs (inl h) = inl (parts_read p K L f xs h)
parts_read (p ∣ q) K L f xs (inr h) = inr (parts_read q K L f xs h)
parts_read (opt p) K L f xs (inl h) = inl (f xs h)
parts_read (opt p) K L f xs (inr h) = inr (parts_read p K L f xs h)
parts_read (many p) K L f xs h = (h.0, often_times (Reads p) (Parts p) (parts_read p) h.0 K L f xs h.1)
parts_read (listed i) K L f xs h = next_one i (λ ys. (n : ℕ) × Turns true i n K ys) (Turned i L) (λ ys g. often_turns true i g.0 K L f ys g.1) xs h
parts_read (listed_more i) K L f xs h = often_turns true i h.0 K L f xs h.1
parts_read (listed_next i) K L f xs h = often_turns false i h.0 K L f xs h.1

pub over_ended : Leads Ended Over
over_ended [] h = tt
over_ended (x ∷ xs) h = absurd h

-- the parts of a node of a rule
pub parts_of_rule : (r : Rule) (xs : List Piece) → Reads (rule_of r) Ended xs → Parts (rule_of r) Over (nodes xs)
parts_of_rule r xs h = parts_read (rule_of r) Ended Over over_ended xs h

-- nodes that all pass a test ------------------------------------------------------------

module _ (test : Rule → Bool) where
  abbrev pub Passes : Class → Type 0
  Passes c = (q : Rule) → InClass c q → IsTrue (test q)

  abbrev PassesIn : Item → Type 0
  PassesIn (item.Part c) = Passes c
  PassesIn (item.Word w) = Unit {0}
  PassesIn (item.Kind w) = Unit {0}

  -- the classes of a pattern do
  abbrev pub Only : Pattern → Type 0
  Only nothing = Unit {0}
  Only (of i) = PassesIn i
  Only (p ⋅ q) = Only p × Only q
  Only (p ∣ q) = Only p × Only q
  Only (opt p) = Only p
  Only (many p) = Only p
  Only (listed i) = PassesIn i
  Only (listed_more i) = PassesIn i
  Only (listed_next i) = PassesIn i

  abbrev pub AllPass : Nodes → Type 0
  AllPass L = (ns : List Raw) → L ns → IsTrue (all_of test ns)

  next_all : (i : Item) → PassesIn i → (L : Nodes) → AllPass L → AllPass (Next i L)
  next_all (item.Part c) o L f [] h = absurd h
  next_all (item.Part c) o L f (n ∷ ns) h = and_both (test (rule_in n)) _ (o (rule_in n) h.0) (f ns h.1)
  next_all (item.Word w) o L f ns h = f ns h
  next_all (item.Kind w) o L f ns h = f ns h

  often_all : (R : Nodes → Nodes) → ((L : Nodes) → AllPass L → AllPass (R L)) → (n : ℕ) (L : Nodes) → AllPass L → AllPass (Often R n L)
  often_all R r zero L f = f
  often_all R r (suc n) L f = r (Often R n L) (often_all R r n L f)

  pub all_parts : (p : Pattern) → Only p → (L : Nodes) → AllPass L → AllPass (Parts p L)
  all_parts nothing o L f ns h = f ns h
  all_parts (of i) o L f ns h = next_all i o L f ns h
  all_parts (p ⋅ q) o L f ns h = all_parts p o.0 (Parts q L) (all_parts q o.1 L f) ns h
  all_parts (p ∣ q) o L f ns (inl h) = all_parts p o.0 L f ns h
  all_parts (p ∣ q) o L f ns (inr h) = all_parts q o.1 L f ns h
  all_parts (opt p) o L f ns (inl h) = f ns h
  all_parts (opt p) o L f ns (inr h) = all_parts p o L f ns h
  all_parts (many p) o L f ns h = often_all (Parts p) (all_parts p o) h.0 L f ns h.1
  all_parts (listed i) o L f ns h = next_all i o (λ ms. (n : ℕ) × Often (Next i) n L ms) (λ ms g. often_all (Next i) (next_all i o) g.0 L f ms g.1) ns h
  all_parts (listed_more i) o L f ns h = often_all (Next i) (next_all i o) h.0 L f ns h.1
  all_parts (listed_next i) o L f ns h = often_all (Next i) (next_all i o) h.0 L f ns h.1

  over_all : AllPass Over
  over_all [] h = refl
  over_all (n ∷ ns) h = absurd h

  pub all_over : (p : Pattern) → Only p → (ns : List Raw) → Parts p Over ns → IsTrue (all_of test ns)
  all_over p o ns h = all_parts p o Over over_all ns h

-- classes ---------------------------------------------------------------------------------

pub node_class : (test : Rule → Bool) (r : Rule) → IsTrue (test r) → Passes test (class.Node r)
node_class test r h q e = ap test e ∙ h

some_least : (n : ℕ) (o : Option ℕ) → AtLeast n o → IsTrue (is_some o)
some_least n None h = absurd h
some_least n (Some k) h = refl

pub expr_class : (s : Strength) → Passes is_expr (class.At s)
expr_class s q h = some_least (rank s) (height q) h

pub init_class : Passes is_init class.Init
init_class q (inl e) = or_right (is_expr q) (is_braces q) (ap is_braces e)
init_class q (inr h) = or_left (is_expr q) (is_braces q) (some_least 1 (height q) h)

pub item_class : Passes is_item class.Item
item_class q h = h

pub stmt_class : Passes is_stmt class.Stmt
stmt_class q h = h

block_stmt : (q : Rule) → is_stmt q ≡ true → IsTrue (is_block_item q)
block_stmt rule.Pragma h = refl
block_stmt rule.Declaration h = refl
block_stmt q h = h

pub block_class : Passes is_block_item class.BlockItem
block_class q (inl e) = ap is_block_item e
block_class q (inr (inl e)) = ap is_block_item e
block_class q (inr (inr h)) = block_stmt q h

-- no node -----------------------------------------------------------------------------------

abbrev never : Rule → Bool
never q = false

none_all : (ns : List Raw) → IsTrue (all_of never ns) → IsTrue (none_of ns)
none_all [] h = refl
none_all (n ∷ ns) h = absurd cc

pub none_over : (p : Pattern) → Only never p → (ns : List Raw) → Parts p Over ns → IsTrue (none_of ns)
none_over p o ns h = none_all ns (all_over never p o ns h)

over_none : (ns : List Raw) → Over ns → IsTrue (none_of ns)
over_none [] h = refl
over_none (n ∷ ns) h = absurd h

-- rules with one part at most -----------------------------------------------------------------

pub one_over : (test : Rule → Bool) (c : Class) → Passes test c → (ns : List Raw) → Over ns ⊎ Next (item.Part c) Over ns → IsTrue (one_at_most test ns)
one_over test c f [] h = refl
one_over test c f (n ∷ ns) (inl h) = absurd h
one_over test c f (n ∷ ns) (inr h) = and_both (test (rule_in n)) _ (f (rule_in n) h.0) (over_none ns h.1)

pub one_alone : (test : Rule → Bool) (c : Class) → Passes test c → (ns : List Raw) → Next (item.Part c) Over ns → IsTrue (one_at_most test ns)
one_alone test c f [] h = absurd h
one_alone test c f (n ∷ ns) h = and_both (test (rule_in n)) _ (f (rule_in n) h.0) (over_none ns h.1)
