-- Each rule of expressions is read to its tree.
use Rattle.std.proofs.Common.{◌≡◌, suc, ◌+◌, ◌≤◌, List, [], ◌∷◌, ◌++◌, Some, true, false, refl, sym, ap, ◌∙◌, subst, arith, append_assoc}
use Rattle.std.specs.Prelude.{nat_lt}
use Rattle.std.proofs.lemmas.Bool.{lt-leb, eqb-true}
use mathlib.Core.Logic.{⊎_elim}
use Rattle.xc_raw.specs.declared.word.Word.{Word}
use Rattle.xc_raw.specs.declared.word.Word.TheVariants as word
use Rattle.xc_raw.specs.declared.rule.Rule.{Rule}
use Rattle.xc_raw.specs.declared.rule.Rule.TheVariants as rule
use Rattle.xc_raw.specs.declared.rule.Level.{Level}
use Rattle.xc_raw.specs.declared.rule.Level.TheVariants as level_name
use Rattle.xc_parse_grammar.specs.declared.marks.Strength.{Strength}
use Rattle.xc_parse_grammar.specs.declared.marks.Strength.TheVariants as strength
use Rattle.xc_parse_grammar.specs.declared.marks.Class.TheVariants as class
use Rattle.xc_parse_grammar.specs.declared.marks.Kind.TheVariants as kind
use Rattle.xc_parse_grammar.specs.declared.marks.Item.{Item}
use Rattle.xc_parse_grammar.specs.declared.marks.Item.TheVariants as item
use Rattle.xc_parse_grammar.specs.declared.spots.Spot.{Spot}
use Rattle.xc_parse_grammar.specs.declared.spots.Spot.TheVariants as spot
use Rattle.xc_parse_grammar.specs.declared.goals.Use.{Use}
use Rattle.xc_parse_grammar.specs.declared.goals.Use.TheVariants.{Plain, Bracket}
use Rattle.xc_parse_grammar.specs.declared.goals.Goal.{Goal}
use Rattle.xc_parse_grammar.specs.declared.goals.Goal.TheVariants as goal
use Rattle.xc_parse_grammar.specs.declared.goals.Shape.TheVariants as shape
use Rattle.xc_parse_grammar.specs.declared.goals.Lead.TheVariants as lead
use Rattle.xc_raw.specs.declared.word.BinaryOp.{BinaryOp}
use Rattle.xc_raw.specs.declared.word.BinaryOp.TheVariants as op
use Rattle.xc_parse_grammar.specs.Marks.{number, accepts, rank, level_rank, operator_rank, of_kind, is_specifier, is_assignment, begins_expr}
use Rattle.xc_parse_grammar.specs.Grammar.{Form, leaf, begin, ◌▹◌, leaves, Among, Fits, IsToken, sort, height, AtLeast, Is}
use Rattle.xc_parse_grammar.specs.Spots.{steps, start}
use Rattle.xc_parse_grammar.specs.Plan.{does, opening, is_suffix, open_still, committed, in_place, unary, bracket_end, cond_rest, comma_rest}
use Rattle.xc_parse_grammar.proofs.Links.{Spotted, Complete}
use Rattle.xc_parse_grammar.proofs.Needs.{Calm}
use Rattle.xc_parse_grammar.proofs.Rows.{lowest}
use Rattle.xc_parse_grammar.proofs.Ends.{first}
use Rattle.xc_parse_grammar.proofs.Tables.{same_word}
use Rattle.xc_parse_grammar.proofs.Follow.{pull, readable, looser_pull}
use Rattle.xc_parse_grammar.proofs.Machine.{St, Leads, on, join, respell, by}
use Rattle.xc_parse_grammar.proofs.Run.{Reading, Context, as_cast, as_unary, as_binary, as_assignment, enter, behind, operating, tails, Castable, Deep, Unassigned, AtBase, AtBehind, AtOperating, AtTails, AtStill, AtExpr, AtIndex, Known, Parts, Ext}
use Rattle.xc_parse_grammar.proofs.PartsOf.{PartOf, part_of, lead_of, run_from, run_node, Head, head_of, head_first, only}
use Rattle.xc_parse_grammar.proofs.Expressions.{literal_atom, step_operator, prefix_operator, expr_no_specifier, access_suffix, step_suffix, no_suffix, assignment_pull, pull_not_two, operator_pull, tighter_rank, enter_atom, enter_operator, enter_paren, inside_expr, inside_specs, suffix_ends, suffix_comes, behind_operating, assign_comes, operator_comes, cond_ends, comma_ends, down, level_ends, deep_cast, deep_operating, same_goals, closed_calm, around, around_head, fit_part}

-- a node that begins with a known token
record LeafLead (r : Rule) (v : Word) (t : Spot) (f : Form) : Type 0 where
  words : List Word
  spelled : leaves f ≡ v ∷ words
  ext : Ext (begin r ▹ leaf v) f words
  spotted : Spotted (begin r ▹ leaf v) t

token_is : (v : Word) (g : Form) → nat_lt 0 (number v) ≡ true → IsToken (item.Word v) g → g ≡ leaf v
token_is v (leaf w) p h = ap leaf (same_word v w p h)
token_is v (begin r) p h = absurd h
token_is v (f ▹ g) p h = absurd h

leaf_lead : (f : Form) (r : Rule) (v : Word) (t : Spot) (x : PartOf (begin r) f (leaves f) (start r)) → nat_lt 0 (number v) ≡ true → item.Word v ≡ x.item → x.to ≡ t → LeafLead r v t f
leaf_lead f r v t x p e k =
    let i : x.part ≡ leaf v = token_is v x.part p (subst (λ y. Fits y x.part (Complete x.part)) (sym e) x.fits) in
    record {
      words = x.words;
      spelled = x.spelled ∙ ap (λ g. leaves g ++ x.words) i;
      ext = subst (λ g. Ext (begin r ▹ g) f x.words) i x.ext;
      spotted = subst (λ g. Spotted (begin r ▹ g) t) i (subst (λ u. Spotted (begin r ▹ x.part) u) k x.spotted);
    }

-- primaries and suffixes -------------------------------------------------------------------------

prim_calm : (f : Form) (w : Word) → sort f ≡ Some rule.Prim → Calm f w
prim_calm f w s = closed_calm f rule.Prim w s (omega arith)

atom_base : (f : Form) → Complete f → sort f ≡ Some rule.Prim → Parts f → (h : Head (leaves f) spot.Prim) → opening h.word ≡ lead.Atom → AtBase f
atom_base f c s q h e x gs d ts =
    join (enter_atom gs d (leaves f ++ ts) x (ap opening (head_first (leaves f) ts spot.Prim h) ∙ e))
    (run_node f rule.Prim refl c s q (goal.Suffix ∷ behind x gs) d ts refl (prim_calm f (first ts) s))

inner_begins : (i : Item) (s : Spot) (w : Word) → Among i s (steps spot.PrimInner) → accepts i w ≡ true → begins_expr w ≡ true
inner_begins i s w m h = ap (λ x. accepts x w) (only i (item.Part (class.At strength.Expr)) s spot.Closing m).0 ∙ h

paren_castable : (f : Form) → Complete f → sort f ≡ Some rule.Prim → Parts f → LeafLead rule.Prim word.Open spot.PrimInner f → (x : Context) → Castable x → (gs : List Goal) (d : List Form) (ts : List Word) → Leads (St (enter x gs) d (leaves f ++ ts)) (St (goal.Suffix ∷ behind x gs) (f ∷ d) ts)
paren_castable f c s q l x k gs d ts =
    let h = head_of (begin rule.Prim ▹ leaf word.Open) f l.words spot.PrimInner (part_of (begin rule.Prim ▹ leaf word.Open) f l.words l.ext c q spot.PrimInner l.spotted refl) in
    let e = head_first l.words ts spot.PrimInner h in
    respell (ap (λ ws. ws ++ ts) l.spelled)
    (join (enter_paren gs d (l.words ++ ts) x k)
    (join (inside_expr gs ((begin rule.Prim ▹ leaf word.Open) ∷ d) (l.words ++ ts) x k (ap is_specifier e ∙ expr_no_specifier h.word (inner_begins h.item h.to h.word h.allowed h.accepted)))
    (run_from (begin rule.Prim ▹ leaf word.Open) f l.words spot.PrimInner rule.Prim l.spotted refl l.ext c s q (goal.Suffix ∷ behind x gs) d ts refl (prim_calm f (first ts) s))))

paren_unary : (f : Form) → Complete f → sort f ≡ Some rule.Prim → Parts f → LeafLead rule.Prim word.Open spot.PrimInner f → (gs : List Goal) (d : List Form) (ts : List Word) → Leads (St (enter as_unary gs) d (leaves f ++ ts)) (St (goal.Suffix ∷ gs) (f ∷ d) ts)
paren_unary f c s q l gs d ts =
    join (by goal.Unary (unary lead.Paren) gs d (leaves f ++ ts) (St (goal.At spot.Prim ∷ goal.Suffix ∷ gs) (begin rule.Prim ∷ d) (leaves f ++ ts)) (ap (λ ws. unary (opening (first (ws ++ ts)))) l.spelled) refl)
    (run_node f rule.Prim refl c s q (goal.Suffix ∷ gs) d ts refl (prim_calm f (first ts) s))

paren_base : (f : Form) → Complete f → sort f ≡ Some rule.Prim → Parts f → LeafLead rule.Prim word.Open spot.PrimInner f → AtBase f
paren_base f c s q l as_cast gs d ts = paren_castable f c s q l as_cast tt gs d ts
paren_base f c s q l as_unary gs d ts = paren_unary f c s q l gs d ts
paren_base f c s q l (as_binary k) gs d ts = paren_castable f c s q l (as_binary k) tt gs d ts
paren_base f c s q l (as_assignment u) gs d ts = paren_castable f c s q l (as_assignment u) tt gs d ts

prim_base : (f : Form) → Complete f → sort f ≡ Some rule.Prim → Parts f → AtBase f
prim_base f c s q =
    let x = lead_of f rule.Prim c s q in
    let h = head_of (begin rule.Prim) f (leaves f) spot.Prim x in
    ⊎_elim
    (λ m. atom_base f c s q h (ap opening (same_word word.Name h.word refl (ap (λ i. accepts i h.word) m.0 ∙ h.accepted))))
    (λ k. ⊎_elim
    (λ m. atom_base f c s q h (literal_atom h.word (ap (λ i. accepts i h.word) m.0 ∙ h.accepted)))
    (λ k. ⊎_elim (λ m. paren_base f c s q (leaf_lead f rule.Prim word.Open spot.PrimInner x refl m.0 (sym m.1))) (λ z. absurd z) k) k)
    x.allowed

suffix_word : (i : Item) (s : Spot) (w : Word) → Among i s (steps spot.PostfixOp) → accepts i w ≡ true → is_suffix w ≡ true
suffix_word i s w m h =
    ⊎_elim (λ k. ap is_suffix (same_word word.OpenBracket w refl (ap (λ x. accepts x w) k.0 ∙ h)))
    (λ m. ⊎_elim (λ k. ap is_suffix (same_word word.Open w refl (ap (λ x. accepts x w) k.0 ∙ h)))
    (λ m. ⊎_elim (λ k. access_suffix w (ap (λ x. accepts x w) k.0 ∙ h))
    (λ m. ⊎_elim (λ k. step_suffix w (ap (λ x. accepts x w) k.0 ∙ h)) (λ z. absurd z) m) m) m) m

postfix_base : (f : Form) → Complete f → sort f ≡ Some rule.Postfix → Parts f → AtBase f
postfix_base f c s q x gs d ts =
    let p = lead_of f rule.Postfix c s q in
    let o = only p.item (item.Part (class.At strength.Postfix)) p.to spot.PostfixOp p.allowed in
    let g = fit_part (class.At strength.Postfix) p.part p.item o.0 p.fits in
    let h = around_head f rule.Postfix p spot.PostfixOp (sym o.1) refl c q in
    respell (ap (λ ws. ws ++ ts) p.spelled ∙ append_assoc (leaves p.part) p.words ts)
    (join ((p.known g.0).base g.1 x gs d (p.words ++ ts))
    (join (suffix_comes (behind x gs) d (p.words ++ ts) p.part (ap is_suffix (head_first p.words ts spot.PostfixOp h) ∙ suffix_word h.item h.to h.word h.allowed h.accepted))
    (around f rule.Postfix p spot.PostfixOp (sym o.1) c s q (goal.Suffix ∷ behind x gs) d ts refl (closed_calm f rule.Postfix (first ts) s (omega arith)))))

pub base_of : (f : Form) (r : Rule) → Complete f → sort f ≡ Some r → Parts f → AtLeast 15 (height r) → AtBase f
base_of f rule.Prim c s q a = prim_base f c s q
base_of f rule.Postfix c s q a = postfix_base f c s q
base_of f rule.Comma c s q a = absurd (omega (arith, a))
base_of f rule.Assign c s q a = absurd (omega (arith, a))
base_of f rule.Cond c s q a = absurd (omega (arith, a))
base_of f (rule.Binary l) c s q a = absurd (omega (arith, a, (lowest l).0))
base_of f rule.Cast c s q a = absurd (omega (arith, a))
base_of f rule.Unary c s q a = absurd (omega (arith, a))
base_of f _ c s q a = absurd a

unary_opening : (i : Item) (s : Spot) (w : Word) → Among i s (steps spot.Unary) → accepts i w ≡ true → opening w ≡ lead.Operator
unary_opening i s w m h =
    ⊎_elim (λ k. step_operator w (ap (λ x. accepts x w) k.0 ∙ h))
    (λ m. ⊎_elim (λ k. prefix_operator w (ap (λ x. accepts x w) k.0 ∙ h)) (λ z. absurd z) m) m

unary_behind : (f : Form) → Complete f → sort f ≡ Some rule.Unary → Parts f → AtBehind f
unary_behind f c s q x gs d ts n =
    let h = head_of (begin rule.Unary) f (leaves f) spot.Unary (lead_of f rule.Unary c s q) in
    join (enter_operator gs d (leaves f ++ ts) x (ap opening (head_first (leaves f) ts spot.Unary h) ∙ unary_opening h.item h.to h.word h.allowed h.accepted))
    (run_node f rule.Unary refl c s q (behind x gs) d ts n (closed_calm f rule.Unary (first ts) s (omega arith)))

from_base : (f : Form) → AtBase f → AtBehind f
from_base f b x gs d ts n = join (b x gs d ts) (suffix_ends (behind x gs) (f ∷ d) ts (no_suffix (first ts) n))

pub behind_of : (f : Form) (r : Rule) → Complete f → sort f ≡ Some r → Parts f → AtLeast 14 (height r) → AtBehind f
behind_of f rule.Prim c s q a = from_base f (prim_base f c s q)
behind_of f rule.Postfix c s q a = from_base f (postfix_base f c s q)
behind_of f rule.Unary c s q a = unary_behind f c s q
behind_of f rule.Comma c s q a = absurd (omega (arith, a))
behind_of f rule.Assign c s q a = absurd (omega (arith, a))
behind_of f rule.Cond c s q a = absurd (omega (arith, a))
behind_of f (rule.Binary l) c s q a = absurd (omega (arith, a, (lowest l).0))
behind_of f rule.Cast c s q a = absurd (omega (arith, a))
behind_of f _ c s q a = absurd a

cast_begins : (i : Item) (s : Spot) (w : Word) → Among i s (steps spot.CastSpecs) → accepts i w ≡ true → is_specifier w ≡ true
cast_begins i s w m h = ap (λ x. accepts x w) (only i (item.Part (class.Node rule.Specs)) s spot.CastAfter m).0 ∙ h

cast_operating : (f : Form) → Complete f → sort f ≡ Some rule.Cast → Parts f → AtOperating f
cast_operating f c s q x k gs d ts u n =
    let p = lead_of f rule.Cast c s q in
    let o = only p.item (item.Word word.Open) p.to spot.CastSpecs p.allowed in
    let l = leaf_lead f rule.Cast word.Open spot.CastSpecs p refl o.0 (sym o.1) in
    let h = head_of (begin rule.Cast ▹ leaf word.Open) f l.words spot.CastSpecs (part_of (begin rule.Cast ▹ leaf word.Open) f l.words l.ext c q spot.CastSpecs l.spotted refl) in
    respell (ap (λ ws. ws ++ ts) l.spelled)
    (join (enter_paren gs d (l.words ++ ts) x k)
    (join (inside_specs gs d (l.words ++ ts) x (begin rule.Prim ▹ leaf word.Open) k (ap is_specifier (head_first l.words ts spot.CastSpecs h) ∙ cast_begins h.item h.to h.word h.allowed h.accepted))
    (run_from (begin rule.Cast ▹ leaf word.Open) f l.words spot.CastSpecs rule.Cast l.spotted refl l.ext c s q (operating x gs) d ts n (closed_calm f rule.Cast (first ts) s (omega arith)))))

from_behind : (f : Form) → AtBehind f → AtOperating f
from_behind f b x k gs d ts u n = join (b x gs d ts n) (behind_operating gs (f ∷ d) ts x k u)

pub operating_of : (f : Form) (r : Rule) → Complete f → sort f ≡ Some r → Parts f → AtLeast 13 (height r) → AtOperating f
operating_of f rule.Prim c s q a = from_behind f (from_base f (prim_base f c s q))
operating_of f rule.Postfix c s q a = from_behind f (from_base f (postfix_base f c s q))
operating_of f rule.Unary c s q a = from_behind f (unary_behind f c s q)
operating_of f rule.Cast c s q a = cast_operating f c s q
operating_of f rule.Comma c s q a = absurd (omega (arith, a))
operating_of f rule.Assign c s q a = absurd (omega (arith, a))
operating_of f rule.Cond c s q a = absurd (omega (arith, a))
operating_of f (rule.Binary l) c s q a = absurd (omega (arith, a, (lowest l).0))
operating_of f _ c s q a = absurd a

-- binary operators -------------------------------------------------------------------------------

deeper : (k m : Level) (x : Context) → Deep k x → level_rank k ≤ level_rank m → Deep m x
deeper k m as_cast h le = h
deeper k m as_unary h le = h
deeper k m (as_binary l) h le = omega (arith, h, le)
deeper k m (as_assignment u) h le = tt

-- an operator comes at its level
tail_operator : (k : Level) (x : Context) → Deep k x → (gs : List Goal) (d : List Form) (ws : List Word) (f : Form) → of_kind (kind.Operator k) (first ws) ≡ true → Leads (St (tails k x gs) (f ∷ d) ws) (St (goal.At (spot.BinaryOp k) ∷ tails k x gs) ((begin (rule.Binary k) ▹ f) ∷ d) ws)
tail_operator k as_cast h gs d ws f e = absurd h
tail_operator k as_unary h gs d ws f e = absurd h
tail_operator k (as_binary l) h gs d ws f e = operator_comes gs d ws k l f e
tail_operator k (as_assignment u) h gs d ws f e = operator_comes (goal.CondRest ∷ open_still u ++ gs) d ws k level_name.Or f e

unassigned : (x : Context) (w : Word) → (pull w ≡ 2 → ⊥) → Unassigned x w
unassigned as_cast w h = tt
unassigned as_unary w h = tt
unassigned (as_binary l) w h = tt
unassigned (as_assignment u) w h = h

binary_own : (l : Level) (f : Form) → Complete f → sort f ≡ Some (rule.Binary l) → Parts f → AtTails l f
binary_own l f c s q x p gs d ts u n =
    let y = lead_of f (rule.Binary l) c s q in
    let o = only y.item (item.Part (class.At (strength.Binary l))) y.to (spot.BinaryOp l) y.allowed in
    let g = fit_part (class.At (strength.Binary l)) y.part y.item o.0 y.fits in
    let h = around_head f (rule.Binary l) y (spot.BinaryOp l) (sym o.1) refl c q in
    let e : of_kind (kind.Operator l) h.word ≡ true = ap (λ i. accepts i h.word) (only h.item (item.Kind (kind.Operator l)) h.to (spot.BinaryRight l) h.allowed).0 ∙ h.accepted in
    let w : first (y.words ++ ts) ≡ h.word = head_first y.words ts (spot.BinaryOp l) h in
    let r : pull h.word ≡ level_rank l + 1 = operator_pull h.word (level_rank l) (eqb-true (operator_rank h.word) (level_rank l) e) (omega (arith, (lowest l).1)) in
    respell (ap (λ ws. ws ++ ts) y.spelled ∙ append_assoc (leaves y.part) y.words ts)
    (join ((y.known g.0).tails l g.1 x p gs d (y.words ++ ts)
    (unassigned x (first (y.words ++ ts)) (λ b. omega (arith, b, ap pull w, r, (lowest l).1)))
    (lt-leb (suc (level_rank l + 1)) (pull (first (y.words ++ ts))) (omega (arith, ap pull w, r))))
    (join (tail_operator l x p gs d (y.words ++ ts) y.part (ap (of_kind (kind.Operator l)) w ∙ e))
    (around f (rule.Binary l) y (spot.BinaryOp l) (sym o.1) c s q (tails l x gs) d ts (ap (λ k. nat_lt k (pull (first ts))) (tighter_rank l) ∙ n) (closed_calm f (rule.Binary l) (first ts) s (omega arith)))))

binary_tails : (k l : Level) (f : Form) → Complete f → sort f ≡ Some (rule.Binary l) → Parts f → level_rank k ≤ level_rank l → AtTails k f
binary_tails k l f c s q le x p gs d ts u n =
    join (binary_own l f c s q x (deeper k l x p le) gs d ts u (looser_pull (level_rank k + 1) (level_rank l + 1) (pull (first ts)) (omega (arith, le)) n))
    (down l k x p le gs (f ∷ d) ts n)

from_operating : (k : Level) (f : Form) → AtOperating f → AtTails k f
from_operating k f b x p gs d ts u n =
    join (same_goals (deep_operating k x gs p) (b x (deep_cast k x p) gs d ts u (looser_pull (level_rank k + 1) 13 (pull (first ts)) (omega (arith, (lowest k).0)) n)))
    (down level_name.Product k x p (lowest k).0 gs (f ∷ d) ts n)

pub tails_of : (k : Level) (f : Form) (r : Rule) → Complete f → sort f ≡ Some r → Parts f → AtLeast (level_rank k) (height r) → AtTails k f
tails_of k f rule.Prim c s q a = from_operating k f (operating_of f rule.Prim c s q (omega arith))
tails_of k f rule.Postfix c s q a = from_operating k f (operating_of f rule.Postfix c s q (omega arith))
tails_of k f rule.Unary c s q a = from_operating k f (operating_of f rule.Unary c s q (omega arith))
tails_of k f rule.Cast c s q a = from_operating k f (operating_of f rule.Cast c s q (omega arith))
tails_of k f (rule.Binary l) c s q a = binary_tails k l f c s q a
tails_of k f rule.Comma c s q a = absurd (omega (arith, a, (lowest k).1))
tails_of k f rule.Assign c s q a = absurd (omega (arith, a, (lowest k).1))
tails_of k f rule.Cond c s q a = absurd (omega (arith, a, (lowest k).1))
tails_of k f _ c s q a = absurd a

-- conditional expressions ------------------------------------------------------------------------

question_comes : (gs : List Goal) (d : List Form) (ws : List Word) (f : Form) → first ws ≡ word.Question → Leads (St (goal.CondRest ∷ gs) (f ∷ d) ws) (St (goal.At spot.CondQuestion ∷ gs) ((begin rule.Cond ▹ f) ∷ d) ws)
question_comes gs d ws f e = by goal.CondRest (does (shape.Wrap rule.Cond) (goal.At spot.CondQuestion ∷ [])) gs (f ∷ d) ws _ (ap cond_rest e) refl

-- where operators of all levels may come, and then a question
abbrev Asking : Context → List Goal → List Goal → Type 0
Asking x gs hs = tails level_name.Or x gs ≡ goal.Tail level_name.Or level_name.Or ∷ goal.CondRest ∷ hs

cond_rule : (f : Form) → Complete f → sort f ≡ Some rule.Cond → Parts f → (x : Context) → Deep level_name.Or x → (gs hs : List Goal) → Asking x gs hs → (d : List Form) (ts : List Word) → nat_lt 2 (pull (first ts)) ≡ false → Leads (St (enter x gs) d (leaves f ++ ts)) (St hs (f ∷ d) ts)
cond_rule f c s q x p gs hs a d ts n =
    let y = lead_of f rule.Cond c s q in
    let o = only y.item (item.Part (class.At (strength.Binary level_name.Or))) y.to spot.CondQuestion y.allowed in
    let g = fit_part (class.At (strength.Binary level_name.Or)) y.part y.item o.0 y.fits in
    let h = around_head f rule.Cond y spot.CondQuestion (sym o.1) refl c q in
    let w : first (y.words ++ ts) ≡ word.Question = head_first y.words ts spot.CondQuestion h ∙ same_word word.Question h.word refl (ap (λ i. accepts i h.word) (only h.item (item.Word word.Question) h.to spot.CondThen h.allowed).0 ∙ h.accepted) in
    respell (ap (λ ws. ws ++ ts) y.spelled ∙ append_assoc (leaves y.part) y.words ts)
    (join (same_goals a ((y.known g.0).tails level_name.Or g.1 x p gs d (y.words ++ ts)
    (unassigned x (first (y.words ++ ts)) (λ b. omega (arith, b, ap pull w)))
    (ap (λ v. nat_lt 4 (pull v)) w)))
    (join (level_ends level_name.Or (goal.CondRest ∷ hs) (y.part ∷ d) (y.words ++ ts) (ap (λ v. nat_lt 3 (pull v)) w))
    (join (question_comes hs d (y.words ++ ts) y.part w)
    (around f rule.Cond y spot.CondQuestion (sym o.1) c s q hs d ts n (closed_calm f rule.Cond (first ts) s (omega arith))))))

no_cond : (f : Form) → AtTails level_name.Or f → (x : Context) → Deep level_name.Or x → (gs hs : List Goal) → Asking x gs hs → (d : List Form) (ts : List Word) → Unassigned x (first ts) → nat_lt 2 (pull (first ts)) ≡ false → Leads (St (enter x gs) d (leaves f ++ ts)) (St hs (f ∷ d) ts)
no_cond f t x p gs hs a d ts u n =
    join (same_goals a (t x p gs d ts u (looser_pull 2 4 (pull (first ts)) (omega arith) n)))
    (join (level_ends level_name.Or (goal.CondRest ∷ hs) (f ∷ d) ts (looser_pull 2 3 (pull (first ts)) (omega arith) n))
    (cond_ends hs (f ∷ d) ts n))

cond_of : (f : Form) (r : Rule) → Complete f → sort f ≡ Some r → Parts f → AtLeast 2 (height r) → (x : Context) → Deep level_name.Or x → (gs hs : List Goal) → Asking x gs hs → (d : List Form) (ts : List Word) → Unassigned x (first ts) → nat_lt 2 (pull (first ts)) ≡ false → Leads (St (enter x gs) d (leaves f ++ ts)) (St hs (f ∷ d) ts)
cond_of f rule.Cond c s q a x p gs hs e d ts u n = cond_rule f c s q x p gs hs e d ts n
cond_of f rule.Prim c s q a x p gs hs e d ts u n = no_cond f (tails_of level_name.Or f rule.Prim c s q (omega arith)) x p gs hs e d ts u n
cond_of f rule.Postfix c s q a x p gs hs e d ts u n = no_cond f (tails_of level_name.Or f rule.Postfix c s q (omega arith)) x p gs hs e d ts u n
cond_of f rule.Unary c s q a x p gs hs e d ts u n = no_cond f (tails_of level_name.Or f rule.Unary c s q (omega arith)) x p gs hs e d ts u n
cond_of f rule.Cast c s q a x p gs hs e d ts u n = no_cond f (tails_of level_name.Or f rule.Cast c s q (omega arith)) x p gs hs e d ts u n
cond_of f (rule.Binary l) c s q a x p gs hs e d ts u n = no_cond f (tails_of level_name.Or f (rule.Binary l) c s q (omega (arith, (lowest l).1))) x p gs hs e d ts u n
cond_of f rule.Comma c s q a x p gs hs e d ts u n = absurd (omega (arith, a))
cond_of f rule.Assign c s q a x p gs hs e d ts u n = absurd (omega (arith, a))
cond_of f _ c s q a x p gs hs e d ts u n = absurd a

pub still_of : (f : Form) (r : Rule) → Complete f → sort f ≡ Some r → Parts f → AtLeast 2 (height r) → AtStill f
still_of f r c s q a u gs d ts n = cond_of f r c s q a (as_assignment u) tt gs (open_still u ++ gs) refl d ts (pull_not_two (first ts) n) (looser_pull 1 2 (pull (first ts)) (omega arith) n)

-- assignments and commas -------------------------------------------------------------------------

assign_rule : (f : Form) → Complete f → sort f ≡ Some rule.Assign → Parts f → (u : Use) (gs : List Goal) (d : List Form) (ts : List Word) → nat_lt 1 (pull (first ts)) ≡ false → Leads (St (goal.Assignment u ∷ gs) d (leaves f ++ ts)) (St (committed u ++ gs) (f ∷ d) ts)
assign_rule f c s q u gs d ts n =
    let y = lead_of f rule.Assign c s q in
    let o = only y.item (item.Part (class.At strength.Unary)) y.to spot.AssignOp y.allowed in
    let g = fit_part (class.At strength.Unary) y.part y.item o.0 y.fits in
    let h = around_head f rule.Assign y spot.AssignOp (sym o.1) refl c q in
    let k : is_assignment h.word ≡ true = ap (λ i. accepts i h.word) (only h.item (item.Kind kind.Assignment) h.to spot.AssignRight h.allowed).0 ∙ h.accepted in
    let w : first (y.words ++ ts) ≡ h.word = head_first y.words ts spot.AssignOp h in
    respell (ap (λ ws. ws ++ ts) y.spelled ∙ append_assoc (leaves y.part) y.words ts)
    (join ((y.known g.0).behind g.1 (as_assignment u) gs d (y.words ++ ts) (ap (nat_lt 13) (ap pull w ∙ assignment_pull h.word k)))
    (join (assign_comes gs d (y.words ++ ts) u y.part (ap is_assignment w ∙ k))
    (around f rule.Assign y spot.AssignOp (sym o.1) c s q (committed u ++ gs) d ts n (closed_calm f rule.Assign (first ts) s (omega arith)))))

comma_comes : (gs : List Goal) (d : List Form) (ws : List Word) (f : Form) → first ws ≡ word.Comma → Leads (St (goal.CommaRest ∷ gs) (f ∷ d) ws) (St (goal.At spot.CommaOp ∷ goal.CommaRest ∷ gs) ((begin rule.Comma ▹ f) ∷ d) ws)
comma_comes gs d ws f e = by goal.CommaRest (does (shape.Wrap rule.Comma) (goal.At spot.CommaOp ∷ goal.CommaRest ∷ [])) gs (f ∷ d) ws _ (ap comma_rest e) refl

-- a comma behind its left part
comma_rule : (f : Form) → Complete f → sort f ≡ Some rule.Comma → Parts f → (hs gs : List Goal) (d : List Form) (ts : List Word) → nat_lt 1 (pull (first ts)) ≡ false
    → ((p : Form) (ws : List Word) → Known p → Is (class.At strength.Expr) (sort p) → first ws ≡ word.Comma → Leads (St hs d (leaves p ++ ws)) (St (goal.CommaRest ∷ gs) (p ∷ d) ws))
    → Leads (St hs d (leaves f ++ ts)) (St (goal.CommaRest ∷ gs) (f ∷ d) ts)
comma_rule f c s q hs gs d ts n k =
    let y = lead_of f rule.Comma c s q in
    let o = only y.item (item.Part (class.At strength.Expr)) y.to spot.CommaOp y.allowed in
    let g = fit_part (class.At strength.Expr) y.part y.item o.0 y.fits in
    let h = around_head f rule.Comma y spot.CommaOp (sym o.1) refl c q in
    let w : first (y.words ++ ts) ≡ word.Comma = head_first y.words ts spot.CommaOp h ∙ same_word word.Comma h.word refl (ap (λ i. accepts i h.word) (only h.item (item.Word word.Comma) h.to spot.CommaRight h.allowed).0 ∙ h.accepted) in
    respell (ap (λ ws. ws ++ ts) y.spelled ∙ append_assoc (leaves y.part) y.words ts)
    (join (k y.part (y.words ++ ts) (y.known g.0) g.1 w)
    (join (comma_comes gs d (y.words ++ ts) y.part w)
    (around f rule.Comma y spot.CommaOp (sym o.1) c s q (goal.CommaRest ∷ gs) d ts n (closed_calm f rule.Comma (first ts) s (omega arith)))))

pub expr_of : (f : Form) (r : Rule) → Complete f → sort f ≡ Some r → Parts f → AtLeast 0 (height r) → AtExpr f
expr_of f rule.Comma c s q a gs d ts n = comma_rule f c s q (goal.Assignment Plain ∷ goal.CommaRest ∷ gs) gs d ts n (λ p ws k i w. k.expr i gs d ws (ap (λ v. nat_lt 1 (pull v)) w))
expr_of f rule.Assign c s q a gs d ts n = assign_rule f c s q Plain (goal.CommaRest ∷ gs) d ts n
expr_of f rule.Cond c s q a gs d ts n = still_of f rule.Cond c s q (omega arith) Plain (goal.CommaRest ∷ gs) d ts n
expr_of f (rule.Binary l) c s q a gs d ts n = still_of f (rule.Binary l) c s q (omega (arith, (lowest l).1)) Plain (goal.CommaRest ∷ gs) d ts n
expr_of f rule.Cast c s q a gs d ts n = still_of f rule.Cast c s q (omega arith) Plain (goal.CommaRest ∷ gs) d ts n
expr_of f rule.Unary c s q a gs d ts n = still_of f rule.Unary c s q (omega arith) Plain (goal.CommaRest ∷ gs) d ts n
expr_of f rule.Postfix c s q a gs d ts n = still_of f rule.Postfix c s q (omega arith) Plain (goal.CommaRest ∷ gs) d ts n
expr_of f rule.Prim c s q a gs d ts n = still_of f rule.Prim c s q (omega arith) Plain (goal.CommaRest ∷ gs) d ts n
expr_of f _ c s q a gs d ts n = absurd a

-- a comma in a bracket behind `future NAME`
bracket_comma : (gs : List Goal) (d : List Form) (ts : List Word) → first ts ≡ word.Comma → Leads (St (goal.BracketEnd ∷ gs) d ts) (St (in_place ++ gs) d ts)
bracket_comma gs d ts e = by goal.BracketEnd (does shape.Keep in_place) gs d ts _ (ap bracket_end e) refl

index_cond : (f : Form) (r : Rule) → Complete f → sort f ≡ Some r → Parts f → AtLeast 2 (height r) → AtIndex f
index_cond f r c s q a gs d ts n k =
    join (still_of f r c s q a Bracket gs d ts n) (bracket_comma gs (f ∷ d) ts (k (subst (λ o. Is (class.At strength.Cond) o) (sym s) a)))

pub index_of : (f : Form) (r : Rule) → Complete f → sort f ≡ Some r → Parts f → AtLeast 0 (height r) → AtIndex f
index_of f rule.Comma c s q a gs d ts n k =
    comma_rule f c s q (goal.Assignment Bracket ∷ gs) (goal.Join ∷ goal.At spot.PlaceClose ∷ goal.Join ∷ goal.At spot.FutureOpen ∷ gs) d ts n
    (λ p ws x i w. x.index i gs d ws (ap (λ v. nat_lt 1 (pull v)) w) (λ y. w))
index_of f rule.Assign c s q a gs d ts n k = assign_rule f c s q Bracket gs d ts n
index_of f rule.Cond c s q a gs d ts n k = index_cond f rule.Cond c s q (omega arith) gs d ts n k
index_of f (rule.Binary l) c s q a gs d ts n k = index_cond f (rule.Binary l) c s q (omega (arith, (lowest l).1)) gs d ts n k
index_of f rule.Cast c s q a gs d ts n k = index_cond f rule.Cast c s q (omega arith) gs d ts n k
index_of f rule.Unary c s q a gs d ts n k = index_cond f rule.Unary c s q (omega arith) gs d ts n k
index_of f rule.Postfix c s q a gs d ts n k = index_cond f rule.Postfix c s q (omega arith) gs d ts n k
index_of f rule.Prim c s q a gs d ts n k = index_cond f rule.Prim c s q (omega arith) gs d ts n k
index_of f _ c s q a gs d ts n k = absurd a

-- each class of expressions ----------------------------------------------------------------------

read_expr : (f : Form) (r : Rule) → Complete f → sort f ≡ Some r → Parts f → AtLeast 0 (height r) → Reading (class.At strength.Expr) f
read_expr f r c s q a gs d ts n m =
    on refl (join (expr_of f r c s q a gs d ts (looser_pull 0 1 (pull (first ts)) (omega arith) n)) (comma_ends gs (f ∷ d) ts n))

pub assign_plain : (f : Form) (r : Rule) → Complete f → sort f ≡ Some r → Parts f → AtLeast 1 (height r) → (gs : List Goal) (d : List Form) (ts : List Word) → nat_lt 1 (pull (first ts)) ≡ false → Leads (St (goal.Assignment Plain ∷ gs) d (leaves f ++ ts)) (St gs (f ∷ d) ts)
assign_plain f rule.Assign c s q a gs d ts n = (assign_rule f c s q Plain gs d ts n)
assign_plain f rule.Comma c s q a gs d ts n = absurd (omega (arith, a))
assign_plain f rule.Cond c s q a gs d ts n = (still_of f rule.Cond c s q (omega arith) Plain gs d ts n)
assign_plain f (rule.Binary l) c s q a gs d ts n = (still_of f (rule.Binary l) c s q (omega (arith, (lowest l).1)) Plain gs d ts n)
assign_plain f rule.Cast c s q a gs d ts n = (still_of f rule.Cast c s q (omega arith) Plain gs d ts n)
assign_plain f rule.Unary c s q a gs d ts n = (still_of f rule.Unary c s q (omega arith) Plain gs d ts n)
assign_plain f rule.Postfix c s q a gs d ts n = (still_of f rule.Postfix c s q (omega arith) Plain gs d ts n)
assign_plain f rule.Prim c s q a gs d ts n = (still_of f rule.Prim c s q (omega arith) Plain gs d ts n)
assign_plain f _ c s q a gs d ts n = absurd a

read_assign : (f : Form) (r : Rule) → Complete f → sort f ≡ Some r → Parts f → AtLeast 1 (height r) → Reading (class.At strength.Assign) f
read_assign f r c s q a gs d ts n m = on refl (assign_plain f r c s q a gs d ts n)

read_cond : (f : Form) (r : Rule) → Complete f → sort f ≡ Some r → Parts f → AtLeast 2 (height r) → Reading (class.At strength.Cond) f
read_cond f r c s q a gs d ts n m = on refl (cond_of f r c s q a (as_binary level_name.Or) (omega arith) (goal.CondRest ∷ gs) gs refl d ts tt n)

read_binary : (l : Level) (f : Form) (r : Rule) → Complete f → sort f ≡ Some r → Parts f → AtLeast (level_rank l) (height r) → Reading (class.At (strength.Binary l)) f
read_binary l f r c s q a gs d ts n m =
    on refl (join (tails_of l f r c s q a (as_binary l) (omega arith) gs d ts tt (looser_pull (level_rank l) (level_rank l + 1) (pull (first ts)) (omega arith) n))
    (level_ends l gs (f ∷ d) ts n))

read_cast : (f : Form) (r : Rule) → Complete f → sort f ≡ Some r → Parts f → AtLeast 13 (height r) → Reading (class.At strength.Cast) f
read_cast f r c s q a gs d ts n m = on refl (operating_of f r c s q a as_cast tt gs d ts tt n)

by_rank : (x : BinaryOp) → nat_lt 13 (pull (word.Binary x)) ≡ false
by_rank op.Divide = refl
by_rank op.Remainder = refl
by_rank op.ShiftLeft = refl
by_rank op.ShiftRight = refl
by_rank op.Less = refl
by_rank op.Greater = refl
by_rank op.AtMost = refl
by_rank op.AtLeast = refl
by_rank op.Equal = refl
by_rank op.Unequal = refl
by_rank op.BitXor = refl
by_rank op.BitOr = refl
by_rank op.And = refl
by_rank op.Or = refl

unary_pull : (w : Word) → nat_lt 14 (pull w) ≡ false → nat_lt 13 (pull w) ≡ false
unary_pull (word.Binary x) h = by_rank x
unary_pull word.OpenBracket h = cc h
unary_pull word.Open h = cc h
unary_pull (word.Access x) h = cc h
unary_pull (word.Step x) h = cc h
unary_pull _ h = refl

read_unary : (f : Form) (r : Rule) → Complete f → sort f ≡ Some r → Parts f → AtLeast 14 (height r) → Reading (class.At strength.Unary) f
read_unary f r c s q a gs d ts n m = on refl (behind_of f r c s q a as_unary gs d ts (unary_pull (first ts) n))

pub read_at : (x : Strength) (f : Form) (r : Rule) → readable (class.At x) ≡ true → Complete f → sort f ≡ Some r → Parts f → AtLeast (rank x) (height r) → Reading (class.At x) f
read_at strength.Expr f r e c s q a = read_expr f r c s q a
read_at strength.Assign f r e c s q a = read_assign f r c s q a
read_at strength.Cond f r e c s q a = read_cond f r c s q a
read_at (strength.Binary l) f r e c s q a = read_binary l f r c s q a
read_at strength.Cast f r e c s q a = read_cast f r c s q a
read_at strength.Unary f r e c s q a = read_unary f r c s q a
read_at strength.Postfix f r e c s q a = cc e
