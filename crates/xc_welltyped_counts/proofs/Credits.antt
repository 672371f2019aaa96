-- Tokens pay for nodes: a token pays for five things, and a node of the grammar leaves some over.
use Rattle.std.proofs.Common.{◌≡◌, ℕ, zero, suc, ◌+◌, ◌≤◌, List, [], ◌∷◌, Bool, true, false, refl, ap, arith, inl, inr, min}
use Rattle.std.specs.Prelude.{IsTrue, nat_le}
use Rattle.std.proofs.lemmas.Bool.{leb-true}
use Rattle.xc_raw.specs.declared.word.Word.TheVariants as word
use Rattle.xc_raw.specs.declared.rule.Rule.{Rule}
use Rattle.xc_raw.specs.declared.rule.Rule.TheVariants as rule
use Rattle.xc_parse_grammar.specs.declared.marks.Class.{Class}
use Rattle.xc_parse_grammar.specs.declared.marks.Class.TheVariants as class
use Rattle.xc_parse_grammar.specs.declared.marks.Item.{Item}
use Rattle.xc_parse_grammar.specs.declared.marks.Item.TheVariants as item
use Rattle.xc_parse_grammar.specs.Marks.{rank}
use Rattle.xc_parse_grammar.specs.Grammar.{Pattern, nothing, of, ◌⋅◌, ◌∣◌, opt, many, listed, listed_more, listed_next, rule_of, InClass, AtLeast, height, is_item, is_stmt}
use Rattle.xc_welltyped_claims.specs.Shaped.{rule_in}
use Rattle.xc_welltyped_claims.proofs.Patterns.{Piece, token, part, Claim, Ended, One, Times, Turns, Reads}

-- what a node leaves over: less where it may have no token of its own
abbrev pub left : Rule → ℕ
left rule.Unit = 0
left rule.Param = 1
left rule.Specs = 2
left rule.Dinit = 2
left rule.Sub = 2
left _ = 3

abbrev left_in : Class → ℕ
left_in (class.Node r) = left r
left_in _ = 3

abbrev pay : Item → ℕ
pay (item.Part c) = left_in c
pay (item.Word w) = 4
pay (item.Kind k) = 4

-- what the pieces of a pattern pay at least
abbrev pub income : Pattern → ℕ
income nothing = 0
income (of i) = pay i
income (p ⋅ q) = income p + income q
income (p ∣ q) = min (income p) (income q)
income (opt p) = 0
income (many p) = 0
income (listed i) = pay i
income (listed_more i) = 0
income (listed_next i) = 0

-- what pieces pay, beside the one thing for which each token pays by itself
abbrev pub credit : List Piece → ℕ
credit [] = 0
credit (token w ∷ xs) = 4 + credit xs
credit (part n ∷ xs) = left (rule_in n) + credit xs

-- classes ----------------------------------------------------------------------

stmt_leaves : (q : Rule) → is_stmt q ≡ true → 3 ≤ left q
stmt_leaves rule.Unit h = absurd cc
stmt_leaves rule.Param h = absurd cc
stmt_leaves rule.Specs h = absurd cc
stmt_leaves rule.Dinit h = absurd cc
stmt_leaves rule.Sub h = absurd cc
stmt_leaves _ h = omega arith

item_leaves : (q : Rule) → is_item q ≡ true → 3 ≤ left q
item_leaves rule.Unit h = absurd cc
item_leaves rule.Param h = absurd cc
item_leaves rule.Specs h = absurd cc
item_leaves rule.Dinit h = absurd cc
item_leaves rule.Sub h = absurd cc
item_leaves _ h = omega arith

expr_leaves : (n : ℕ) (q : Rule) → AtLeast n (height q) → 3 ≤ left q
expr_leaves n rule.Unit h = absurd h
expr_leaves n rule.Param h = absurd h
expr_leaves n rule.Specs h = absurd h
expr_leaves n rule.Dinit h = absurd h
expr_leaves n rule.Sub h = absurd h
expr_leaves n _ h = omega arith

class_leaves : (c : Class) (q : Rule) → InClass c q → left_in c ≤ left q
class_leaves (class.Node r) q h = let same : left q ≡ left r = ap left h in omega (arith, same)
class_leaves class.Item q h = item_leaves q h
class_leaves class.BlockItem q (inl h) = let same : left q ≡ 3 = ap left h in omega (arith, same)
class_leaves class.BlockItem q (inr (inl h)) = let same : left q ≡ 3 = ap left h in omega (arith, same)
class_leaves class.BlockItem q (inr (inr h)) = stmt_leaves q h
class_leaves class.Stmt q h = stmt_leaves q h
class_leaves class.Init q (inl h) = let same : left q ≡ 3 = ap left h in omega (arith, same)
class_leaves class.Init q (inr h) = expr_leaves 1 q h
class_leaves (class.At s) q h = expr_leaves (rank s) q h

-- patterns -----------------------------------------------------------------------

-- what is claimed of pieces says that they pay so much
abbrev Pays : Claim → ℕ → Type 0
Pays K n = (xs : List Piece) → K xs → n ≤ credit xs

one_pays : (i : Item) (K : Claim) (n : ℕ) → Pays K n → Pays (One i K) (pay i + n)
one_pays i K n f [] h = absurd h
one_pays (item.Part c) K n f (token w ∷ xs) h = absurd h.0
one_pays (item.Part c) K n f (part m ∷ xs) h = omega (arith, class_leaves c (rule_in m) h.0, f xs h.1)
one_pays (item.Word v) K n f (token w ∷ xs) h = omega (arith, f xs h.1)
one_pays (item.Word v) K n f (part m ∷ xs) h = absurd h.0
one_pays (item.Kind v) K n f (token w ∷ xs) h = omega (arith, f xs h.1)
one_pays (item.Kind v) K n f (part m ∷ xs) h = absurd h.0

times_pay : (R : Claim → Claim) → ((K : Claim) (n : ℕ) → Pays K n → Pays (R K) n) → (k : ℕ) (K : Claim) (n : ℕ) → Pays K n → Pays (Times R k K) n
times_pay R r zero K n f = f
times_pay R r (suc k) K n f = r (Times R k K) n (times_pay R r k K n f)

-- an item pays something or nothing
one_more : (i : Item) (K : Claim) (n : ℕ) → Pays K n → Pays (One i K) n
one_more i K n f xs h = omega (arith, one_pays i K n f xs h)

turns_pay : (b : Bool) (i : Item) (k : ℕ) (K : Claim) (n : ℕ) → Pays K n → Pays (Turns b i k K) n
turns_pay b i zero K n f = f
turns_pay true i (suc k) K n f = one_more (item.Word word.Comma) (Turns false i k K) n (turns_pay false i k K n f)
turns_pay false i (suc k) K n f = one_more i (Turns true i k K) n (turns_pay true i k K n f)

reads_pay : (p : Pattern) (K : Claim) (n : ℕ) → Pays K n → Pays (Reads p K) (income p + n)
reads_pay nothing K n f xs h = omega (arith, f xs h)
reads_pay (of i) K n f xs h = one_pays i K n f xs h
reads_pay (p ⋅ q) K n f xs h = omega (arith, reads_pay p (Reads q K) (income q + n) (reads_pay q K n f) xs h)
reads_pay (p ∣ q) K n f xs (inl h) = omega (arith, reads_pay p K n f xs h)
reads_pay (p ∣ q) K n f xs (inr h) = omega (arith, reads_pay q K n f xs h)
reads_pay (opt p) K n f xs (inl h) = omega (arith, f xs h)
reads_pay (opt p) K n f xs (inr h) = omega (arith, reads_pay p K n f xs h)
reads_pay (many p) K n f xs h = omega (arith, times_pay (Reads p) (λ L m g ys k. (let more = reads_pay p L m g ys k in omega (arith, more))) h.0 K n f xs h.1)
reads_pay (listed i) K n f xs h = one_pays i (λ ys. (k : ℕ) × Turns true i k K ys) n (λ ys g. turns_pay true i g.0 K n f ys g.1) xs h
reads_pay (listed_more i) K n f xs h = omega (arith, turns_pay true i h.0 K n f xs h.1)
reads_pay (listed_next i) K n f xs h = omega (arith, turns_pay false i h.0 K n f xs h.1)

-- rules ------------------------------------------------------------------------------

rule_pays : (r : Rule) → IsTrue (nat_le (1 + left r) (income (rule_of r)))
rule_pays rule.Unit = refl
rule_pays _ = refl

ended_pays : Pays Ended 0
ended_pays xs h = omega arith

-- the pieces of a rule pay for its node and for what it leaves over
pub pieces_pay : (r : Rule) (xs : List Piece) → Reads (rule_of r) Ended xs → 1 + left r ≤ credit xs
pieces_pay r xs h = omega (arith, leb-true (1 + left r) (income (rule_of r)) (rule_pays r), reads_pay (rule_of r) Ended 0 ended_pays xs h)
