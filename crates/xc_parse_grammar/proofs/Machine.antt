-- The parser as a machine over lists.
use Rattle.std.proofs.Common.{◌≡◌, List, [], ◌∷◌, ◌++◌, Option, Some, None, true, refl, sym, ap, ◌∙◌, subst}
use Rattle.xc_raw.specs.declared.word.Word.{Word}
use Rattle.xc_parse_grammar.specs.declared.marks.Class.{Class}
use Rattle.xc_parse_grammar.specs.declared.marks.Kind.{Kind}
use Rattle.xc_parse_grammar.specs.declared.marks.Item.TheVariants as item
use Rattle.xc_parse_grammar.specs.declared.spots.Spot.{Spot}
use Rattle.xc_parse_grammar.specs.declared.goals.Goal.{Goal}
use Rattle.xc_parse_grammar.specs.declared.goals.Goal.TheVariants as goal
use Rattle.xc_parse_grammar.specs.Marks.{accepts, begins}
use Rattle.xc_parse_grammar.specs.Grammar.{Form, leaf, ◌▹◌, Among}
use Rattle.xc_parse_grammar.specs.Spots.{steps, may_end}
use Rattle.xc_parse_grammar.specs.Plan.{Act, does, shift, wrong, ended, at_picked, picked, planned}
use Rattle.xc_parse_grammar.specs.Building.{apply, put}
use Rattle.xc_parse_grammar.proofs.Ends.{first}
use Rattle.xc_parse_grammar.proofs.Tables.{picks}

pub data State : Type 0 where
  St : List Goal → List Form → List Word → State

abbrev pub built : Option (List Form) → List Goal → List Word → Option State
built None gs ws = None
built (Some d) gs ws = Some (St gs d ws)

abbrev pub act : Act → List Goal → List Form → List Word → Option State
act (does x new) gs d ws = built (apply x d) (new ++ gs) ws
act (shift new) gs d [] = None
act (shift new) gs d (w ∷ ws) = built (put w d) (new ++ gs) ws
act wrong gs d ws = None

abbrev pub step : State → Option State
step (St [] d ws) = None
step (St (g ∷ gs) d ws) = act (planned g (first ws)) gs d ws

pub data Leads : State → State → Type 0 where
  here : {s : State} → Leads s s
  on : {s t u : State} → step s ≡ Some t → Leads t u → Leads s u

pub join : {s t u : State} → Leads s t → Leads t u → Leads s u
join here m = m
join (on e l) m = on e (join l m)

pub then : {s t u : State} → Leads s t → step t ≡ Some u → Leads s u
then l e = join l (on e here)

-- two ends of one run are one
pub one_end : {s t u : State} → Leads s t → step t ≡ None → Leads s u → step u ≡ None → t ≡ u
one_end here e here f = refl
one_end here e (on g m) f = let bad : None ≡ Some _ = sym e ∙ g in cc bad
one_end (on g l) e here f = let bad : None ≡ Some _ = sym f ∙ g in cc bad
one_end (on {t = t1} g l) e (on {t = t2} {u = u2} h m) f =
    let same : t1 ≡ t2 = cc (g, h) in
    one_end l e (subst (λ x. Leads x u2) (sym same) m) f

pub respell : {gs : List Goal} {d : List Form} {xs ys : List Word} {u : State} → xs ≡ ys → Leads (St gs d ys) u → Leads (St gs d xs) u
respell {gs} {d} {xs} {ys} {u} e l = subst (λ ws. Leads (St gs d ws) u) (sym e) l

pub renode : {gs : List Goal} {d e : List Form} {ws : List Word} {u : State} → d ≡ e → Leads (St gs e ws) u → Leads (St gs d ws) u
renode {gs} {d} {e} {ws} {u} q l = subst (λ x. Leads (St gs x ws) u) (sym q) l

pub into : {gs : List Goal} {d e : List Form} {ws : List Word} {s : State} → d ≡ e → Leads s (St gs d ws) → Leads s (St gs e ws)
into {gs} {d} {e} {ws} {s} q l = subst (λ x. Leads s (St gs x ws)) q l

-- a move that is known
pub by : (g : Goal) (a : Act) (gs : List Goal) (d : List Form) (ws : List Word) (t : State) → planned g (first ws) ≡ a → act a gs d ws ≡ Some t → Leads (St (g ∷ gs) d ws) t
by g a gs d ws t e k = on (ap (λ x. act x gs d ws) e ∙ k) here

module _ (gs : List Goal) (p : Form) (d : List Form) (s t : Spot) where
  pub at_word : (v w : Word) (ws : List Word) → Among (item.Word v) t (steps s) → accepts (item.Word v) w ≡ true → Leads (St (goal.At s ∷ gs) (p ∷ d) (w ∷ ws)) (St (goal.At t ∷ gs) ((p ▹ leaf w) ∷ d) ws)
  at_word v w ws m h = on (ap (λ o. act (at_picked (may_end s) o) gs (p ∷ d) (w ∷ ws)) (picks s (item.Word v) t w m h)) here

  pub at_kind : (k : Kind) (w : Word) (ws : List Word) → Among (item.Kind k) t (steps s) → accepts (item.Kind k) w ≡ true → Leads (St (goal.At s ∷ gs) (p ∷ d) (w ∷ ws)) (St (goal.At t ∷ gs) ((p ▹ leaf w) ∷ d) ws)
  at_kind k w ws m h = on (ap (λ o. act (at_picked (may_end s) o) gs (p ∷ d) (w ∷ ws)) (picks s (item.Kind k) t w m h)) here

  pub at_part : (c : Class) (ws : List Word) → Among (item.Part c) t (steps s) → begins c (first ws) ≡ true → Leads (St (goal.At s ∷ gs) (p ∷ d) ws) (St (goal.Read c ∷ goal.Join ∷ goal.At t ∷ gs) (p ∷ d) ws)
  at_part c ws m h = on (ap (λ o. act (at_picked (may_end s) o) gs (p ∷ d) ws) (picks s (item.Part c) t (first ws) m h)) here

pub at_end : (gs : List Goal) (d : List Form) (s : Spot) (ws : List Word) → may_end s ≡ true → picked (steps s) (first ws) ≡ None → Leads (St (goal.At s ∷ gs) d ws) (St gs d ws)
at_end gs d s ws m h = on (ap (λ o. act (at_picked (may_end s) o) gs d ws) h ∙ ap (λ b. act (ended b) gs d ws) m) here
