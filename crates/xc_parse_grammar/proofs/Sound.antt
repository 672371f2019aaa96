-- Each move keeps what the goals need.
use Rattle.std.proofs.Common.{◌≡◌, List, [], ◌∷◌, ◌++◌, Option, Some, None, Bool, true, false, refl, sym, ap, ◌∙◌, subst}
use Rattle.std.specs.Prelude.{if◌then◌else◌}
use Rattle.std.proofs.lemmas.Option.{same_Some}
use mathlib.Core.Logic.{inl, inr, ⊎_elim}
use Rattle.xc_raw.specs.declared.word.Word.{Word}
use Rattle.xc_raw.specs.declared.word.Word.TheVariants as word
use Rattle.xc_raw.specs.declared.rule.Rule.{Rule}
use Rattle.xc_raw.specs.declared.rule.Rule.TheVariants as rule
use Rattle.xc_parse_grammar.specs.declared.marks.Class.{Class}
use Rattle.xc_parse_grammar.specs.declared.marks.Kind.{Kind}
use Rattle.xc_parse_grammar.specs.declared.marks.Item.{Item}
use Rattle.xc_parse_grammar.specs.declared.marks.Item.TheVariants as item
use Rattle.xc_parse_grammar.specs.declared.spots.Spot.{Spot}
use Rattle.xc_parse_grammar.specs.declared.spots.Spot.TheVariants as spot
use Rattle.xc_parse_grammar.specs.declared.goals.Goal.{Goal}
use Rattle.xc_parse_grammar.specs.declared.goals.Goal.TheVariants as goal
use Rattle.xc_parse_grammar.specs.declared.goals.Shape.TheVariants as shape
use Rattle.xc_parse_grammar.specs.Marks.{accepts}
use Rattle.xc_parse_grammar.specs.Grammar.{Form, leaf, begin, ◌▹◌, Among, Fits, IsToken, sort, is_else, is_leaf_else, ends_in_else, opens, is_open, last_is_open}
use Rattle.xc_parse_grammar.specs.Spots.{steps, may_end, start}
use Rattle.xc_parse_grammar.specs.Plan.{Act, does, shift, wrong, next_at, part, picked, taken, ended, at_picked}
use Rattle.xc_parse_grammar.specs.Building.{apply, put}
use Rattle.xc_parse_grammar.proofs.Links.{Spotted}
use Rattle.xc_parse_grammar.proofs.Needs.{both, Calm, Needed, calm_closed, node_step, word_step, kind_step, calm_nearest}

-- a step forth: what the old goal needs of the nodes, the new goals need of the nodes that are made
abbrev pub Forth : Goal → Word → Act → Type 0
Forth g w (does x new) = (gs : List Goal) (d : List Form) → Needed (g ∷ gs) d w → (e : List Form) × (apply x d ≡ Some e) × Needed (new ++ gs) e w
Forth g w (shift new) = (gs : List Goal) (d : List Form) (v : Word) → Needed (g ∷ gs) d w → (e : List Form) × (put w d ≡ Some e) × Needed (new ++ gs) e v
Forth g w wrong = Unit {0}

-- the places of a rule ---------------------------------------------------------------------------

picked_by : (x : Item × Spot) (ts : List (Item × Spot)) (w : Word) (b : Bool) → accepts x.0 w ≡ b → (i : Item) (s : Spot) → (if b then Some x else picked ts w) ≡ Some (i, s)
    → (picked ts w ≡ Some (i, s) → Among i s ts × (accepts i w ≡ true)) → Among i s (x ∷ ts) × (accepts i w ≡ true)
picked_by x ts w true e i s h k =
    let q : x ≡ (i, s) = same_Some x (i, s) h in
    (inl (ap (λ y. y.0) q, ap (λ y. y.1) q), ap (λ y. accepts y.0 w) (sym q) ∙ e)
picked_by x ts w false e i s h k = let r = k h in (inr r.0, r.1)

pub picked_among : (ts : List (Item × Spot)) (w : Word) (i : Item) (s : Spot) → picked ts w ≡ Some (i, s) → Among i s ts × (accepts i w ≡ true)
picked_among [] w i s h = cc h
picked_among (x ∷ ts) w i s h = picked_by x ts w (accepts x.0 w) refl i s h (picked_among ts w i s)

-- the places of an if
abbrev pub if_spot : Spot → Bool
if_spot spot.If = true
if_spot spot.IfOpen = true
if_spot spot.IfTest = true
if_spot spot.IfClose = true
if_spot spot.IfThen = true
if_spot spot.IfElse = true
if_spot spot.IfOther = true
if_spot spot.Done = true
if_spot _ = false

if_goes : (s : Spot) (i : Item) (t : Spot) → if_spot s ≡ true → Among i t (steps s) → if_spot t ≡ true
if_goes spot.If i t e m = ⊎_elim (λ h. ap if_spot (sym h.1)) (λ h. absurd h) m
if_goes spot.IfOpen i t e m = ⊎_elim (λ h. ap if_spot (sym h.1)) (λ h. absurd h) m
if_goes spot.IfTest i t e m = ⊎_elim (λ h. ap if_spot (sym h.1)) (λ h. absurd h) m
if_goes spot.IfClose i t e m = ⊎_elim (λ h. ap if_spot (sym h.1)) (λ h. absurd h) m
if_goes spot.IfThen i t e m = ⊎_elim (λ h. ap if_spot (sym h.1)) (λ h. absurd h) m
if_goes spot.IfElse i t e m = ⊎_elim (λ h. ap if_spot (sym h.1)) (λ h. absurd h) m
if_goes spot.IfOther i t e m = ⊎_elim (λ h. ap if_spot (sym h.1)) (λ h. absurd h) m
if_goes spot.Done i t e m = absurd m
if_goes _ i t e m = cc e

pub if_path : (f : Form) (s : Spot) → sort f ≡ Some rule.If → Spotted f s → if_spot s ≡ true
if_path (leaf w) s e h = absurd h
if_path (begin r) s e h = ap if_spot h ∙ ap (λ q. if_spot (start q)) (same_Some r rule.If e)
if_path (f ▹ g) s e h = if_goes h.from h.item s (if_path f h.from e h.begun) h.allowed

else_word : (w : Word) → accepts (item.Word word.Else) w ≡ true → is_else w ≡ true
else_word word.Else h = refl
else_word _ h = cc h

else_token : (g : Form) → IsToken (item.Word word.Else) g → is_leaf_else g ≡ true
else_token (leaf w) h = else_word w h
else_token (begin r) h = absurd h
else_token (f ▹ g) h = absurd h

to_other : (s : Spot) (i : Item) → if_spot s ≡ true → Among i spot.IfOther (steps s) → item.Word word.Else ≡ i
to_other spot.If i e m = ⊎_elim (λ h. let bad : spot.IfOpen ≡ spot.IfOther = h.1 in cc bad) (λ h. absurd h) m
to_other spot.IfOpen i e m = ⊎_elim (λ h. let bad : spot.IfTest ≡ spot.IfOther = h.1 in cc bad) (λ h. absurd h) m
to_other spot.IfTest i e m = ⊎_elim (λ h. let bad : spot.IfClose ≡ spot.IfOther = h.1 in cc bad) (λ h. absurd h) m
to_other spot.IfClose i e m = ⊎_elim (λ h. let bad : spot.IfThen ≡ spot.IfOther = h.1 in cc bad) (λ h. absurd h) m
to_other spot.IfThen i e m = ⊎_elim (λ h. let bad : spot.IfElse ≡ spot.IfOther = h.1 in cc bad) (λ h. absurd h) m
to_other spot.IfElse i e m = ⊎_elim (λ h. h.0) (λ h. absurd h) m
to_other spot.IfOther i e m = ⊎_elim (λ h. let bad : spot.Done ≡ spot.IfOther = h.1 in cc bad) (λ h. absurd h) m
to_other spot.Done i e m = absurd m
to_other _ i e m = cc e

other_else : (f : Form) → sort f ≡ Some rule.If → Spotted f spot.IfOther → ends_in_else f ≡ true
other_else (leaf w) e h = absurd h
other_else (begin r) e h =
    let bad : spot.IfOther ≡ spot.If = h ∙ ap start (same_Some r rule.If e) in cc bad
other_else (f ▹ g) e h =
    let i = to_other h.from h.item (if_path f h.from e h.begun) h.allowed in
    else_token g (subst (λ x. Fits x g ((end : Spot) × Spotted g end × (may_end end ≡ true))) (sym i) h.fits)

to_end : (s : Spot) (i : Item) (t : Spot) → if_spot s ≡ true → Among i t (steps s) → may_end t ≡ true → picked (steps t) word.Else ≡ None → s ≡ spot.IfOther
to_end spot.If i t e m k n = ⊎_elim (λ h. let bad : false ≡ true = ap may_end h.1 ∙ k in cc bad) (λ h. absurd h) m
to_end spot.IfOpen i t e m k n = ⊎_elim (λ h. let bad : false ≡ true = ap may_end h.1 ∙ k in cc bad) (λ h. absurd h) m
to_end spot.IfTest i t e m k n = ⊎_elim (λ h. let bad : false ≡ true = ap may_end h.1 ∙ k in cc bad) (λ h. absurd h) m
to_end spot.IfClose i t e m k n = ⊎_elim (λ h. let bad : false ≡ true = ap may_end h.1 ∙ k in cc bad) (λ h. absurd h) m
to_end spot.IfThen i t e m k n = ⊎_elim (λ h. let bad : picked (steps spot.IfElse) word.Else ≡ None = ap (λ x. picked (steps x) word.Else) h.1 ∙ n in cc bad) (λ h. absurd h) m
to_end spot.IfElse i t e m k n = ⊎_elim (λ h. let bad : false ≡ true = ap may_end h.1 ∙ k in cc bad) (λ h. absurd h) m
to_end spot.IfOther i t e m k n = refl
to_end spot.Done i t e m k n = absurd m
to_end _ i t e m k n = cc e

opens_last : (o : Option Rule) (e : Bool) → (o ≡ Some rule.If → e ≡ true) → opens o e false ≡ false
opens_last (Some rule.If) e k = ap (λ b. opens (Some rule.If) b false) (k refl)
opens_last (Some rule.While) e k = refl
opens_last (Some rule.For) e k = refl
opens_last (Some rule.Sub) e k = refl
opens_last _ e k = refl

is_else_is : (w : Word) → is_else w ≡ true → w ≡ word.Else
is_else_is word.Else e = refl
is_else_is _ e = cc e

end_else : (f g : Form) (s : Spot) (w : Word) → Spotted (f ▹ g) s → may_end s ≡ true → is_open g ≡ false → picked (steps s) w ≡ None → w ≡ word.Else → is_open (f ▹ g) ≡ false
end_else f g s w h k closed n e =
    ap (λ b. opens (sort f) (ends_in_else f) b) closed
    ∙ opens_last (sort f) (ends_in_else f) (λ is.
    let from = to_end h.from h.item s (if_path f h.from is h.begun) h.allowed k (ap (λ v. picked (steps s) v) (sym e) ∙ n) in
    other_else f is (subst (λ x. Spotted f x) from h.begun))

pub no_else : (b : Bool) (c : Bool) → c ≡ false → both b c ≡ false
no_else true c h = h
no_else false c h = refl

by_else : (f g : Form) (s : Spot) (w : Word) (b : Bool) → is_else w ≡ b → Spotted (f ▹ g) s → may_end s ≡ true → both (is_open g) b ≡ false → picked (steps s) w ≡ None → Calm (f ▹ g) w
by_else f g s w true e h k c n =
    calm_closed (f ▹ g) w (end_else f g s w h k (calm_nearest (f ▹ g) w (ap (both (is_open g)) e ∙ c) e) n (is_else_is w e))
by_else f g s w false e h k c n = no_else (is_open (f ▹ g)) (is_else w) e

end_calm : (p : Form) (s : Spot) (w : Word) → Spotted p s → may_end s ≡ true → both (last_is_open p) (is_else w) ≡ false → picked (steps s) w ≡ None → Calm p w
end_calm (leaf v) s w h k c n = absurd h
end_calm (begin r) s w h k c n = refl
end_calm (f ▹ g) s w h k c n = by_else f g s w (is_else w) refl h k c n

taken_word : (s : Spot) (w x : Word) (t : Spot) → Among (item.Word x) t (steps s) → accepts (item.Word x) w ≡ true → Forth (goal.At s) w (next_at t)
taken_word s w x t m a gs [] v h = absurd h
taken_word s w x t m a gs (p ∷ d) v h =
    ((p ▹ leaf w) ∷ d, refl, record { spotted = word_step p w x s t h.spotted m a (calm_nearest p w h.calm); calm = refl; then = h.then })

taken_kind : (s : Spot) (w : Word) (x : Kind) (t : Spot) → Among (item.Kind x) t (steps s) → accepts (item.Kind x) w ≡ true → Forth (goal.At s) w (next_at t)
taken_kind s w x t m a gs [] v h = absurd h
taken_kind s w x t m a gs (p ∷ d) v h =
    ((p ▹ leaf w) ∷ d, refl, record { spotted = kind_step p w x s t h.spotted m a (calm_nearest p w h.calm); calm = refl; then = h.then })

taken_part : (s : Spot) (w : Word) (c : Class) (t : Spot) → Among (item.Part c) t (steps s) → Forth (goal.At s) w (part c t)
taken_part s w c t m gs [] h = absurd h
taken_part s w c t m gs (p ∷ d) h =
    (p ∷ d, refl, λ f v k calm. record { spotted = node_step p f s t c h.spotted m k.0 k.1; calm = calm; then = h.then })

forth_taken : (s : Spot) (w : Word) (i : Item) (t : Spot) → Among i t (steps s) → accepts i w ≡ true → Forth (goal.At s) w (taken i t)
forth_taken s w (item.Word x) t m a = taken_word s w x t m a
forth_taken s w (item.Kind x) t m a = taken_kind s w x t m a
forth_taken s w (item.Part c) t m a = taken_part s w c t m

ended_here : (s : Spot) (w : Word) → may_end s ≡ true → picked (steps s) w ≡ None → Forth (goal.At s) w (does shape.Keep [])
ended_here s w e n gs [] h = absurd h
ended_here s w e n gs (p ∷ d) h = (p ∷ d, refl, h.then p w ((s, h.spotted, e), refl) (end_calm p s w h.spotted e h.calm n))

forth_ended : (s : Spot) (w : Word) (b : Bool) → may_end s ≡ b → picked (steps s) w ≡ None → Forth (goal.At s) w (ended b)
forth_ended s w true e n = ended_here s w e n
forth_ended s w false e n = tt

pub forth_picked : (s : Spot) (w : Word) (o : Option (Item × Spot)) → picked (steps s) w ≡ o → Forth (goal.At s) w (at_picked (may_end s) o)
forth_picked s w None e = forth_ended s w (may_end s) refl e
forth_picked s w (Some t) e = let a = picked_among (steps s) w t.0 t.1 e in forth_taken s w t.0 t.1 a.0 a.1
