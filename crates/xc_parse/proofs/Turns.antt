-- One turn of the parser.
use Rattle.std.proofs.Common.{◌≡◌, ℕ, ◌+◌, ◌*◌, ◌-◌, ◌≤◌, ◌<◌, List, [], ◌∷◌, ◌++◌, length, Option, Some, None, Bool, true, false, cond, ◌&&◌, refl, sym, ap, ◌∙◌, subst, arith, length-take}
use Rattle.std.specs.Prelude.{reverse, slice_get, nat_le, nat_lt}
use Rattle.std.proofs.lemmas.List.{reverse-append, reverse-reverse, append-nil}
use Rattle.std.proofs.lemmas.Option.{slice_get_within, same_Some}
use Rattle.xc_raw.specs.declared.word.Word.{Word}
use Rattle.xc_parse_grammar.specs.declared.goals.Goal.{Goal}
use Rattle.xc_parse_grammar.specs.declared.goals.Shape.{Shape}
use Rattle.xc_parse_grammar.specs.Grammar.{Form, leaf, ◌▹◌, leaves, Stops}
use Rattle.xc_parse_grammar.specs.Building.{spell, apply, put}
use Rattle.xc_parse_grammar.specs.Plan.{Act, does, shift, wrong, planned}
use Rattle.xc_parse_grammar.specs.InnerPlan.{look}
use Rattle.xc_parse_grammar.proofs.Measure.{load, IsLighter, lighter}
use Rattle.xc_parse_grammar.proofs.State.{the_start, Holds, begins, can_do, moved, can_put, shifted, no_shift_at_end, stops_at_wrong, stops_at_more, ended_at}
use Rattle.xc_parse.specs.declared.parser.Turn.{Turn}
use Rattle.xc_parse.specs.declared.parser.Turn.TheVariants as turn
use Rattle.xc_parse.specs.declared.nodes.Nodes.{Nodes}
use Rattle.xc_parse.specs.declared.nodes.Open.{Open}
use Rattle.xc_parse.specs.Raws.{parts_of}
use Rattle.xc_parse.specs.Nodes.{own, AreOpen, Builds, nowhere, needed}
use Rattle.xc_parse.specs.InnerTexts.{Pushed, IsDone}
use Rattle.xc_parse.proofs.Changes.{enough, as_many}

-- the parser is in a state, whatever nodes are at work
pub record Goes (words : List Word) (goals : List Goal) (nodes : Nodes) (k : ℕ) : Type 0 where
  pub forms : List Form
  pub holds : Holds words (reverse goals) forms k
  pub builds : Builds nowhere k forms nodes

abbrev pub measure : List Word → List Goal → ℕ → ℕ
measure words goals k = 300 * (length words - k) + load (reverse goals)

-- a goal was taken, and its move was made
pub record Taken (words : List Word) (old popped now : List Goal) (nodes : Nodes) (g : Goal) (k : ℕ) (a : Act) (t : Turn) : Type 0 where
  pub was : old ≡ popped ++ g ∷ []
  pub plan : a ≡ planned g (look (slice_get words k))
  pub pushed : Pushed a t popped now
  pub goes : Goes words old nodes k

top : (old popped : List Goal) (g : Goal) → old ≡ popped ++ g ∷ [] → reverse old ≡ g ∷ reverse popped
top old popped g e = ap reverse e ∙ reverse-append popped (g ∷ [])

next : (now popped new : List Goal) → now ≡ popped ++ reverse new → reverse now ≡ new ++ reverse popped
next now popped new e = ap reverse e ∙ reverse-append popped (reverse new) ∙ ap (λ x. x ++ reverse popped) (reverse-reverse new)

so_many : (words : List Word) (gs : List Goal) (d : List Form) (k : ℕ) → Holds words gs d k → k ≡ length (spell d)
so_many words gs d k h = omega (arith, ap length h.spelled, length-take k words, h.within)

-- a token more ------------------------------------------------------------------------------------

none_either : (b : Bool) → ◌≡◌ {A = ℕ} (cond b 0 0) 0
none_either true = refl
none_either false = refl

none_own : (first end k : ℕ) → own None first end k ≡ 0
none_own first end k = none_either (nat_le first k && nat_lt k end)

put_open : (w : Bool) (t : Word) (p : Form) (d : List Form) (os : List Open) → AreOpen w (p ∷ d) os → AreOpen w ((p ▹ leaf t) ∷ d) os
put_open w t p d [] h = h
put_open w t p d (o ∷ os) h = (record { rule = h.0.rule; first = h.0.first; parts = λ x. h.0.parts x ∙ sym (append-nil (parts_of (length (spell d)) p)) }, h.1)

put_builds : (t : Word) (d e : List Form) (k : ℕ) (n : Nodes) → put t d ≡ Some e → Builds nowhere k d n → Builds nowhere (k + 1) e n
put_builds t [] e k n h b = absurd cc
put_builds t (p ∷ d) e k n h b = subst (λ y. Builds nowhere (k + 1) y n) (same_Some ((p ▹ leaf t) ∷ d) e h) (record {
  working = put_open n.is_whole t p d (reverse n.working.items) b.working;
  depth = λ j. omega (arith, b.depth j, none_own (length (spell d) + length (leaves p)) (length (spell d) + length (leaves p) + 1) j);
  within = λ i s inside. let w = b.within i s inside in (w.0, omega (arith, w.1));
})

-- a turn ------------------------------------------------------------------------------------------

module _ {words : List Word} {old popped now : List Goal} {nodes : Nodes} {g : Goal} {k : ℕ} where
  held : {a : Act} {t : Turn} → (c : Taken words old popped now nodes g k a t) → Holds words (g ∷ reverse popped) c.goes.forms k
  held c = subst (λ gs. Holds words gs c.goes.forms k) (top old popped g c.was) c.goes.holds

  pub within : {a : Act} {t : Turn} → (c : Taken words old popped now nodes g k a t) → k ≤ length words
  within c = c.goes.holds.within

  made : (x y : Shape) (new : List Goal) → (c : Taken words old popped now nodes g k (does x new) (turn.Do y)) → (e : List Form) × (apply x c.goes.forms ≡ Some e) × Holds words (new ++ reverse popped) e k
  made x y new c =
      let h = held c in
      let p = sym c.plan in
      let m = can_do words g (reverse popped) c.goes.forms k x new p h in
      (m.0, m.1, moved words g (reverse popped) c.goes.forms m.0 k x new p m.1 h)

  -- there are nodes enough for a change
  pub can_change : (a : Act) (y : Shape) → Taken words old popped now nodes g k a (turn.Do y) → needed y ≤ length nodes.working.items
  can_change (does x new) y c =
      let m = made x y new c in
      let e = enough x c.goes.forms m.0 m.1 in
      subst (λ z. needed z ≤ length nodes.working.items) c.pushed.0 (omega (arith, e, as_many nodes.is_whole c.goes.forms nodes.working.items c.goes.builds.working))
  can_change (shift new) y c = absurd c.pushed
  can_change wrong y c = absurd c.pushed

  -- a change was made
  pub done : (a : Act) (y : Shape) (n : Nodes) → (c : Taken words old popped now nodes g k a (turn.Do y)) → ((d e : List Form) → apply y d ≡ Some e → k ≡ length (spell d) → Builds nowhere k d nodes → Builds nowhere k e n)
      → Goes words now n k × (measure words now k < measure words old k)
  done (does x new) y n c f =
      let h = held c in
      let m = made x y new c in
      let less : load (new ++ reverse popped) < load (g ∷ reverse popped) = subst (IsLighter g) (sym c.plan) (lighter g (look (slice_get words k))) (reverse popped) in (
        record {
          forms = m.0;
          holds = subst (λ gs. Holds words gs m.0 k) (sym (next now popped new c.pushed.1)) m.2;
          builds = f c.goes.forms m.0 (ap (λ z. apply z c.goes.forms) (sym c.pushed.0) ∙ m.1) (so_many words (g ∷ reverse popped) c.goes.forms k h) c.goes.builds;
        },
        omega (arith, ap load (next now popped new c.pushed.1), ap load (top old popped g c.was), less),
      )
  done (shift new) y n c f = absurd c.pushed
  done wrong y n c f = absurd c.pushed

  read_by : (new : List Goal) (o : Option Word) → slice_get words k ≡ o → planned g (look (slice_get words k)) ≡ shift new → (c : Taken words old popped now nodes g k (shift new) turn.Shift) → Goes words now nodes (k + 1) × (measure words now (k + 1) < measure words old k) × (k < length words)
  read_by new None at p c = absurd (no_shift_at_end g new (ap (λ x. planned g (look x)) (sym at) ∙ p))
  read_by new (Some t) at p c =
      let h = held c in
      let q : planned g t ≡ shift new = ap (λ x. planned g (look x)) (sym at) ∙ p in
      let m = can_put words g (reverse popped) c.goes.forms k new t t at q h in
      let inside = slice_get_within words k t at in
      let less : load (new ++ reverse popped) < 300 + load (g ∷ reverse popped) = subst (IsLighter g) q (lighter g t) (reverse popped) in (
        record {
          forms = m.0;
          holds = subst (λ gs. Holds words gs m.0 (k + 1)) (sym (next now popped new c.pushed)) (shifted words g (reverse popped) c.goes.forms m.0 k new t at q m.1 h);
          builds = put_builds t c.goes.forms m.0 k nodes m.1 c.goes.builds;
        },
        omega (arith, ap load (next now popped new c.pushed), ap load (top old popped g c.was), less, inside),
        inside,
      )

  pub read : (a : Act) → (c : Taken words old popped now nodes g k a turn.Shift) → Goes words now nodes (k + 1) × (measure words now (k + 1) < measure words old k) × (k < length words)
  read (does x new) c = absurd c.pushed
  read (shift new) c = read_by new (slice_get words k) refl (sym c.plan) c
  read wrong c = absurd c.pushed

  pub wrong_here : (a : Act) → (c : Taken words old popped now nodes g k a turn.Wrong) → Stops words k
  wrong_here (does x new) c = absurd c.pushed
  wrong_here (shift new) c = absurd c.pushed
  wrong_here wrong c = stops_at_wrong words g (reverse popped) c.goes.forms k (sym c.plan) (held c)

pub start_goes : {goals0 goals : List Goal} {nodes : Nodes} (words : List Word) → goals0 ≡ [] → goals ≡ goals0 ++ the_start → Builds nowhere 0 [] nodes → Goes words goals nodes 0
start_goes {goals0} {goals} words a b n =
    let e : goals ≡ the_start = b ∙ ap (λ x. x ++ the_start) a in
    record { forms = []; holds = subst (λ x. Holds words (reverse x) [] 0) (sym e) (begins words); builds = n }

no_goals : (goals : List Goal) → length goals ≡ 0 → reverse goals ≡ []
no_goals [] e = refl
no_goals (g ∷ gs) e = absurd (omega (arith, e))

pub more_here : (words : List Word) (goals : List Goal) (nodes : Nodes) (k : ℕ) → length goals ≡ 0 → k < length words → Goes words goals nodes k → Stops words k
more_here words goals nodes k e within h = stops_at_more words h.forms k within (subst (λ gs. Holds words gs h.forms k) (no_goals goals e) h.holds)

pub done_here : (words : List Word) (goals : List Goal) (nodes : Nodes) (k : ℕ) → length goals ≡ 0 → length words ≤ k → Goes words goals nodes k → IsDone words nodes
done_here words goals nodes k e past h =
    let x = ended_at words h.forms k past (subst (λ gs. Holds words gs h.forms k) (no_goals goals e) h.holds) in
    let all : k ≡ length words = omega (arith, past, h.holds.within) in
    record {
      tree = x.tree;
      is_tree = record { derives = x.derives; only = x.only };
      builds = subst (λ d. Builds nowhere (length words) d nodes) x.alone (subst (λ n. Builds nowhere n h.forms nodes) all h.builds);
    }
