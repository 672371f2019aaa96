-- The parser's state: what holds of it at each turn, and that each move keeps it.
use Rattle.std.proofs.Common.{◌≡◌, ℕ, zero, suc, ◌+◌, ◌≤◌, ◌<◌, List, [], ◌∷◌, ◌++◌, length, take, drop, get_or, Some, None, Bool, true, false, refl, sym, ap, ◌∙◌, subst, arith, append_assoc}
use Rattle.std.specs.Prelude.{slice_get, nat_le}
use Rattle.std.proofs.Common.{length-drop}
use Rattle.std.proofs.lemmas.List.{append-nil, take-append-drop, take_more, take_all}
use Rattle.std.proofs.lemmas.Option.{slice_get_past, slice_get-get_or, get_or_from_slice_get, slice_get_within, same_Some}
use Rattle.xc_raw.specs.declared.word.Word.{Word}
use Rattle.xc_raw.specs.declared.word.Word.TheVariants as word
use Rattle.xc_raw.specs.declared.rule.Rule.{Rule}
use Rattle.xc_raw.specs.declared.rule.Rule.TheVariants as rule
use Rattle.xc_raw.specs.declared.rule.Level.{Level}
use Rattle.xc_parse_grammar.specs.declared.marks.Class.{Class}
use Rattle.xc_parse_grammar.specs.declared.marks.Class.TheVariants as class
use Rattle.xc_parse_grammar.specs.declared.marks.Strength.TheVariants as strength
use Rattle.xc_parse_grammar.specs.declared.goals.Goal.{Goal}
use Rattle.xc_parse_grammar.specs.declared.goals.Goal.TheVariants as goal
use Rattle.xc_parse_grammar.specs.declared.goals.Shape.{Shape}
use Rattle.xc_parse_grammar.specs.declared.goals.Shape.TheVariants as shape
use Rattle.xc_parse_grammar.specs.Grammar.{Form, leaf, begin, ◌▹◌, leaves, sort, Is, is_else, Derives, Stops}
use Rattle.xc_parse_grammar.specs.Marks.{level_rank, of_kind}
use Rattle.xc_parse_grammar.specs.declared.marks.Kind.TheVariants as kind
use Rattle.xc_parse_grammar.specs.Spots.{may_end}
use Rattle.xc_parse_grammar.specs.Plan.{Act, does, shift, wrong, ended, at_picked, tail, tail_ends, planned}
use Rattle.xc_parse_grammar.specs.InnerPlan.{look}
use Rattle.xc_parse_grammar.specs.Building.{spell, retitle, apply, put}
use Rattle.xc_parse_grammar.proofs.Links.{to_whole}
use Rattle.xc_parse_grammar.proofs.Needs.{Needed}
use Rattle.xc_parse_grammar.proofs.Sound.{Forth}
use Rattle.xc_parse_grammar.proofs.Rows.{forth}
use Rattle.xc_parse_grammar.proofs.Ends.{first, ends}
use Rattle.xc_parse_grammar.proofs.Follow.{foreign_ends}
use Rattle.xc_parse_grammar.proofs.Machine.{St, Leads, here, then, one_end, respell, step, act, built}
use Rattle.xc_parse_grammar.proofs.Run.{is_some}
use Rattle.xc_parse_grammar.proofs.Items.{complete}

abbrev pub the_start : List Goal
the_start = goal.Read (class.Node rule.Unit) ∷ []

-- the words of nodes -----------------------------------------------------------------------------

retitle_leaves : (r : Rule) (f : Form) → leaves (retitle r f) ≡ leaves f
retitle_leaves r (leaf w) = refl
retitle_leaves r (begin q) = refl
retitle_leaves r (f ▹ g) = ap (λ ws. ws ++ leaves g) (retitle_leaves r f)

none_some : {A B : Type 0} {x : A} → None ≡ Some x → B
none_some e = cc e

apply_spell : (x : Shape) (d e : List Form) → apply x d ≡ Some e → spell e ≡ spell d
apply_spell shape.Keep d e h = ap spell (sym (same_Some d e h))
apply_spell (shape.Begin r) d e h = ap spell (sym (same_Some (begin r ∷ d) e h)) ∙ append-nil (spell d)
apply_spell shape.Join (f ∷ p ∷ d) e h = ap spell (sym (same_Some ((p ▹ f) ∷ d) e h)) ∙ sym (append_assoc (spell d) (leaves p) (leaves f))
apply_spell (shape.Wrap r) (f ∷ d) e h = ap spell (sym (same_Some ((begin r ▹ f) ∷ d) e h))
apply_spell shape.Cast (p ∷ d) e h = ap spell (sym (same_Some (retitle rule.Cast p ∷ d) e h)) ∙ ap (λ ws. spell d ++ ws) (retitle_leaves rule.Cast p)
apply_spell shape.Specify (q ∷ d) e h =
    ap spell (sym (same_Some (retitle rule.Specs q ∷ begin rule.Declaration ∷ d) e h)) ∙ ap (λ ws. ws ++ leaves (retitle rule.Specs q)) (append-nil (spell d)) ∙ ap (λ ws. spell d ++ ws) (retitle_leaves rule.Specs q)
apply_spell shape.Declare (p ∷ q ∷ d) e h =
    ap spell (sym (same_Some ((begin rule.Dinit ▹ retitle rule.Declr p) ∷ (begin rule.Declaration ▹ retitle rule.Specs q) ∷ d) e h))
    ∙ ap (λ ws. (spell d ++ ws) ++ leaves (retitle rule.Declr p)) (retitle_leaves rule.Specs q) ∙ ap (λ ws. (spell d ++ leaves q) ++ ws) (retitle_leaves rule.Declr p)
apply_spell shape.Call (p ∷ f ∷ d) e h =
    ap spell (sym (same_Some ((begin rule.Function ▹ f ▹ retitle rule.Callee p) ∷ d) e h)) ∙ ap (λ ws. spell d ++ (leaves f ++ ws)) (retitle_leaves rule.Callee p) ∙ sym (append_assoc (spell d) (leaves f) (leaves p))
apply_spell shape.Enlist (p ∷ f ∷ d) e h =
    ap spell (sym (same_Some (p ∷ begin rule.Dinit ∷ (begin rule.Declaration ▹ f) ∷ d) e h)) ∙ ap (λ ws. ws ++ leaves p) (append-nil (spell d ++ leaves f))
apply_spell _ _ e h = none_some h

put_spell : (w : Word) (d e : List Form) → put w d ≡ Some e → spell e ≡ spell d ++ w ∷ []
put_spell w [] e h = none_some h
put_spell w (p ∷ d) e h = ap spell (sym (same_Some ((p ▹ leaf w) ∷ d) e h)) ∙ sym (append_assoc (spell d) (leaves p) (w ∷ []))

-- only a token is shifted ------------------------------------------------------------------------

abbrev NoShift : Act → Type 0
NoShift (does x new) = Unit {0}
NoShift (shift new) = ⊥
NoShift wrong = Unit {0}

ended_still : (b : Bool) → NoShift (ended b)
ended_still true = tt
ended_still false = tt

tail_ends_still : (l k : Level) (b : Bool) → NoShift (tail_ends l k b)
tail_ends_still l k true = tt
tail_ends_still l k false = tt

tail_still : (l k : Level) (b : Bool) → NoShift (tail l k b)
tail_still l k true = tt
tail_still l k false = tail_ends_still l k (nat_le (level_rank l) (level_rank k))

class_still : (c : Class) → NoShift (planned (goal.Read c) word.Foreign)
class_still (class.At strength.Expr) = tt
class_still (class.At strength.Assign) = tt
class_still (class.At strength.Cond) = tt
class_still (class.At (strength.Binary l)) = tt
class_still (class.At strength.Cast) = tt
class_still (class.At strength.Unary) = tt
class_still (class.At strength.Postfix) = tt
class_still _ = tt

still_at_end : (g : Goal) → NoShift (planned g word.Foreign)
still_at_end (goal.At s) = subst (λ o. NoShift (at_picked (may_end s) o)) (sym (foreign_ends s)) (ended_still (may_end s))
still_at_end (goal.Read c) = class_still c
still_at_end (goal.Tail l k) = tail_still l k (of_kind (kind.Operator l) word.Foreign)
still_at_end _ = tt

pub no_shift_at_end : (g : Goal) (new : List Goal) → planned g word.Foreign ≡ shift new → ⊥
no_shift_at_end g new e = subst NoShift e (still_at_end g)

-- the state --------------------------------------------------------------------------------------

-- the state behind the last token that was read, in which any word but else may come next
pub record Snapshot (words : List Word) (k : ℕ) : Type 0 where
  pub goals : List Goal
  pub nodes : List Form
  pub needs : (w : Word) → is_else w ≡ false → Needed goals nodes w
  pub spelled : spell nodes ≡ take k words

-- what holds of the parser's state at each turn
pub record Holds (words : List Word) (gs : List Goal) (d : List Form) (k : ℕ) : Type 0 where
  pub within : k ≤ length words
  pub snapshot : Snapshot words k
  pub needs : Needed gs d (look (slice_get words k))
  pub spelled : spell d ≡ take k words
  -- on words with the same next one, the machine is here too
  pub online : (w : List Word) → first w ≡ look (slice_get words k) → Leads (St the_start [] (take k words ++ w)) (St gs d w)

subst_sort : (f : Form) → Is (class.Node rule.Unit) (sort f) → sort f ≡ Some rule.Unit
subst_sort f i = let q = is_some (class.Node rule.Unit) (sort f) i in q.1 ∙ ap Some q.2

pub begins : (words : List Word) → Holds words the_start [] 0
begins words =
    let n : (w : Word) → Needed the_start [] w = λ w f v k c. (f, refl, (k.0, subst_sort f k.1)) in
    record {
      within = omega arith;
      snapshot = record { goals = the_start; nodes = []; needs = λ w e. n w; spelled = refl };
      needs = n (look (slice_get words 0));
      spelled = refl;
      online = λ w e. here;
    }

-- what is made of the nodes
pub can_do : (words : List Word) (g : Goal) (gs : List Goal) (d : List Form) (k : ℕ) (x : Shape) (new : List Goal) → planned g (look (slice_get words k)) ≡ does x new → Holds words (g ∷ gs) d k → (e : List Form) × (apply x d ≡ Some e) × Needed (new ++ gs) e (look (slice_get words k))
can_do words g gs d k x new e h = subst (Forth g (look (slice_get words k))) e (forth g (look (slice_get words k))) gs d h.needs

pub moved : (words : List Word) (g : Goal) (gs : List Goal) (d e : List Form) (k : ℕ) (x : Shape) (new : List Goal) → planned g (look (slice_get words k)) ≡ does x new → apply x d ≡ Some e → Holds words (g ∷ gs) d k → Holds words (new ++ gs) e k
moved words g gs d e k x new p a h =
    let o = look (slice_get words k) in
    let c = can_do words g gs d k x new p h in
    record {
      within = h.within;
      snapshot = h.snapshot;
      needs = subst (λ y. Needed (new ++ gs) y o) (same_Some c.0 e (sym c.1 ∙ a)) c.2;
      spelled = apply_spell x d e a ∙ h.spelled;
      online = λ w f. then (h.online w f) (ap (λ v. act (planned g v) gs d w) f ∙ ap (λ y. act y gs d w) p ∙ ap (λ y. built y (new ++ gs) w) a);
    }

one_more : (words : List Word) (k : ℕ) (t : Word) (w : List Word) → slice_get words k ≡ Some t → take (k + 1) words ++ w ≡ take k words ++ t ∷ w
one_more words k t w e =
    ap (λ xs. xs ++ w) (take_more words k t (slice_get_within words k t e) ∙ ap (λ x. take k words ++ x ∷ []) (get_or_from_slice_get words k t t e))
    ∙ append_assoc (take k words) (t ∷ []) w

pub can_put : (words : List Word) (g : Goal) (gs : List Goal) (d : List Form) (k : ℕ) (new : List Goal) (t v : Word) → slice_get words k ≡ Some t → planned g t ≡ shift new → Holds words (g ∷ gs) d k → (e : List Form) × (put t d ≡ Some e) × Needed (new ++ gs) e v
can_put words g gs d k new t v at e h = subst (Forth g t) e (forth g t) gs d v (subst (λ o. Needed (g ∷ gs) d (look o)) at h.needs)

pub shifted : (words : List Word) (g : Goal) (gs : List Goal) (d e : List Form) (k : ℕ) (new : List Goal) (t : Word) → slice_get words k ≡ Some t → planned g t ≡ shift new → put t d ≡ Some e → Holds words (g ∷ gs) d k → Holds words (new ++ gs) e (k + 1)
shifted words g gs d e k new t at p a h =
    let inside : k < length words = slice_get_within words k t at in
    let n : (v : Word) → Needed (new ++ gs) e v = λ v. let c = can_put words g gs d k new t v at p h in subst (λ y. Needed (new ++ gs) y v) (same_Some c.0 e (sym c.1 ∙ a)) c.2 in
    let s : spell e ≡ take (k + 1) words = put_spell t d e a ∙ ap (λ ws. ws ++ t ∷ []) h.spelled ∙ sym (one_more words k t [] at) ∙ append-nil (take (k + 1) words) in
    record {
      within = omega arith;
      snapshot = record { goals = new ++ gs; nodes = e; needs = λ v f. n v; spelled = s };
      needs = n (look (slice_get words (k + 1)));
      spelled = s;
      online = λ w f. respell (one_more words k t w at)
          (then (h.online (t ∷ w) (ap look (sym at))) (ap (λ y. act y gs d (t ∷ w)) p ∙ ap (λ y. built y (new ++ gs) w) a));
    }

first_drop : (words : List Word) (k : ℕ) → first (drop k words) ≡ look (slice_get words k)
first_drop [] zero = refl
first_drop [] (suc k) = refl
first_drop (t ∷ ts) zero = refl
first_drop (t ∷ ts) (suc k) = first_drop ts k

more_is : (words : List Word) (k : ℕ) → k < length words → drop k words ≡ [] → ⊥
more_is words k i e = omega (arith, i, length-drop k words, ap length e)

-- a state that is no end and from which no step goes
record Stuck (words : List Word) (gs : List Goal) (d : List Form) (k : ℕ) : Type 0 where
  no_step : (w : List Word) → first w ≡ look (slice_get words k) → step (St gs d w) ≡ None
  no_end : (w : List Word) (f : Form) → (k < length words → w ≡ [] → ⊥) → first w ≡ look (slice_get words k) → St gs d w ≡ St [] (f ∷ []) [] → ⊥

-- the words before it can go on, those up to it cannot
stops : (words : List Word) (gs : List Goal) (d : List Form) (k : ℕ) → Holds words gs d k → Stuck words gs d k → Stops words k
stops words gs d k h stuck =
    let p = h.snapshot in
    let e = ends p.goals p.nodes p.needs in
    let none : (f : Form) (w : List Word) → (k < length words → w ≡ [] → ⊥) → first w ≡ look (slice_get words k) → Derives f (take k words ++ w) → ⊥ =
    λ f w more same der. stuck.no_end w f more same (one_end (h.online w same) (stuck.no_step w same) (complete f _ der) refl) in
    record {
      within = h.within;
      before = (e.whole, e.more, record { whole = to_whole e.whole e.complete; unit = e.unit; spelled = e.spelled ∙ ap (λ ws. ws ++ e.more) p.spelled });
      after = λ inside goes.
          let t = get_or words k word.Foreign in
          let at = slice_get-get_or words k word.Foreign inside in
          none goes.0 (t ∷ goes.1) (λ i bad. cc bad) (ap look (sym at)) (subst (λ xs. Derives goes.0 xs) (one_more words k t goes.1 at) goes.2);
      no_tree = λ f der. none f (drop k words) (λ i bad. more_is words k i bad) (first_drop words k) (subst (λ xs. Derives f xs) (sym (take-append-drop k words)) der);
    }

pub stops_at_wrong : (words : List Word) (g : Goal) (gs : List Goal) (d : List Form) (k : ℕ) → planned g (look (slice_get words k)) ≡ wrong → Holds words (g ∷ gs) d k → Stops words k
stops_at_wrong words g gs d k e h = stops words (g ∷ gs) d k h (record {
  no_step = λ w f. ap (λ v. act (planned g v) gs d w) f ∙ ap (λ a. act a gs d w) e;
  no_end = λ w f more same bad. cc bad;
})

pub stops_at_more : (words : List Word) (d : List Form) (k : ℕ) → k < length words → Holds words [] d k → Stops words k
stops_at_more words d k inside h = stops words [] d k h (record {
  no_step = λ w f. refl;
  no_end = λ w f more same bad. let nil : w ≡ [] = cc bad in more inside nil;
})

-- the end of the text, with no goal left
pub record Ended (words : List Word) (d : List Form) : Type 0 where
  pub tree : Form
  pub alone : d ≡ tree ∷ []
  pub derives : Derives tree words
  pub only : (f : Form) → Derives f words → tree ≡ f

pub ended_at : (words : List Word) (d : List Form) (k : ℕ) → length words ≤ k → Holds words [] d k → Ended words d
ended_at words d k past h =
    let n = h.needs in
    let all : take k words ≡ words = take_all k words past in
    let none : word.Foreign ≡ look (slice_get words k) = ap look (sym (slice_get_past words k past)) in
    let spelled : leaves n.0 ≡ words = sym (ap spell n.1) ∙ h.spelled ∙ all in
    let online : Leads (St the_start [] words) (St [] d []) = respell (sym (append-nil (take k words) ∙ all)) (h.online [] none) in
    record {
      tree = n.0;
      alone = n.1;
      derives = record { whole = to_whole n.0 n.2.0; unit = n.2.1; spelled = spelled };
      only = λ f der.
          let same = one_end online refl (complete f words der) refl in
          let q : d ≡ f ∷ [] = cc same in
          let z : n.0 ∷ [] ≡ f ∷ [] = sym n.1 ∙ q in
          cc z;
    }
