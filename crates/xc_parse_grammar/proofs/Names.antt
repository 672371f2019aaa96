-- Declarators, places and specifiers are read to their trees, where their rule is not known yet.
use Rattle.std.proofs.Common.{◌≡◌, ℕ, zero, suc, ◌+◌, ◌≤◌, List, [], ◌∷◌, ◌++◌, Option, Some, None, Bool, true, false, refl, sym, ap, ◌∙◌, subst, arith, append_assoc}
use Rattle.std.specs.Prelude.{◌⊎◌, nat_lt, ◌||◌}
use Rattle.std.proofs.lemmas.Option.{same_Some}
use mathlib.Core.Logic.{inl, inr, ⊎_elim}
use Rattle.xc_raw.specs.declared.word.Word.{Word}
use Rattle.xc_raw.specs.declared.word.Word.TheVariants as word
use Rattle.xc_raw.specs.declared.rule.Rule.{Rule}
use Rattle.xc_raw.specs.declared.rule.Rule.TheVariants as rule
use Rattle.xc_raw.specs.declared.rule.Level.{Level}
use Rattle.xc_raw.specs.declared.rule.Level.TheVariants as level_name
use Rattle.xc_parse_grammar.specs.declared.marks.Strength.TheVariants as strength
use Rattle.xc_parse_grammar.specs.declared.marks.Class.TheVariants as class
use Rattle.xc_parse_grammar.specs.declared.marks.Kind.{Kind}
use Rattle.xc_parse_grammar.specs.declared.marks.Kind.TheVariants as kind
use Rattle.xc_parse_grammar.specs.declared.marks.Item.TheVariants as item
use Rattle.xc_parse_grammar.specs.declared.spots.Spot.{Spot}
use Rattle.xc_parse_grammar.specs.declared.spots.Spot.TheVariants as spot
use Rattle.xc_parse_grammar.specs.declared.goals.Use.TheVariants.{Bracket}
use Rattle.xc_parse_grammar.specs.declared.goals.Goal.{Goal}
use Rattle.xc_parse_grammar.specs.declared.goals.Goal.TheVariants as goal
use Rattle.xc_parse_grammar.specs.declared.goals.Shape.TheVariants as shape
use Rattle.xc_parse_grammar.specs.Marks.{number, level_rank, of_kind, is_qualifier, is_access}
use Rattle.xc_parse_grammar.specs.Grammar.{Form, leaf, begin, ◌▹◌, leaves, Among, Fits, IsToken, sort, Is}
use Rattle.xc_parse_grammar.specs.Spots.{steps, may_end}
use Rattle.xc_parse_grammar.specs.Plan.{Act, does, shift, item_stars, item_name, future_rest, planned}
use Rattle.xc_parse_grammar.specs.Building.{retitle}
use Rattle.xc_parse_grammar.proofs.Links.{Spotted, Complete}
use Rattle.xc_parse_grammar.proofs.Needs.{Calm, future, sort_closed, calm_closed}
use Rattle.xc_parse_grammar.proofs.Ends.{first}
use Rattle.xc_parse_grammar.proofs.Tables.{same_word}
use Rattle.xc_parse_grammar.proofs.Follow.{pull, is_open_bracket, rule_goes, is_left}
use Rattle.xc_parse_grammar.proofs.Machine.{State, St, Leads, here, on, join, respell, into, by}
use Rattle.xc_parse_grammar.proofs.Run.{Parts, Ext, AtCallee, AtDeclr, AtBounds, AtPlace, size, ext_size, peel, nothing_more}
use Rattle.xc_parse_grammar.proofs.PartsOf.{PartOf, part_by, part_of, lead_of, run_from, only}

-- a part that is a token
pub record TokenPart (b f : Form) (ws : List Word) (w : Word) (t : Spot) : Type 0 where
  pub words : List Word
  pub spelled : ws ≡ w ∷ words
  pub ext : Ext (b ▹ leaf w) f words
  pub spotted : Spotted (b ▹ leaf w) t

pub token_is : (v : Word) (g : Form) → nat_lt 0 (number v) ≡ true → IsToken (item.Word v) g → g ≡ leaf v
token_is v (leaf w) p h = ap leaf (same_word v w p h)
token_is v (begin r) p h = absurd h
token_is v (f ▹ g) p h = absurd h

pub kind_is : (k : Kind) (g : Form) → IsToken (item.Kind k) g → (w : Word) × (g ≡ leaf w) × (of_kind k w ≡ true)
kind_is k (leaf w) h = (w, refl, h)
kind_is k (begin r) h = absurd h
kind_is k (f ▹ g) h = absurd h

pub token_part : (b f : Form) (ws : List Word) (s t : Spot) (w : Word) (x : PartOf b f ws s) → x.part ≡ leaf w → x.to ≡ t → TokenPart b f ws w t
token_part b f ws s t w x i k = record {
  words = x.words;
  spelled = x.spelled ∙ ap (λ g. leaves g ++ x.words) i;
  ext = subst (λ g. Ext (b ▹ g) f x.words) i x.ext;
  spotted = subst (λ g. Spotted (b ▹ g) t) i (subst (λ u. Spotted (b ▹ x.part) u) k x.spotted);
}

pub word_part : (b f : Form) (ws : List Word) (s t : Spot) (v : Word) (x : PartOf b f ws s) → nat_lt 0 (number v) ≡ true → item.Word v ≡ x.item → t ≡ x.to → TokenPart b f ws v t
word_part b f ws s t v x p e k = token_part b f ws s t v x (token_is v x.part p (subst (λ y. Fits y x.part (Complete x.part)) (sym e) x.fits)) (sym k)

-- the next part, or the end
pub part_or : (b f : Form) (ws : List Word) → Ext b f ws → Complete f → Parts f → (t : Spot) → Spotted b t → (b ≡ f) ⊎ PartOf b f ws t
part_or b f ws e c q t k = ⊎_elim (λ x. inl x) (λ x. inr (part_by b f ws c.0 t c.1 k x)) (peel b f ws e q)

-- words behind a declarator ----------------------------------------------------------------------

abbrev pub enlisted : Act
enlisted = does shape.Enlist (goal.At spot.DeclrBounds ∷ goal.Join ∷ goal.At spot.DinitSet ∷ goal.Join ∷ goal.At spot.DeclarationMore ∷ [])

abbrev pub declared : Act
declared = does shape.Declare (goal.At spot.DinitSet ∷ goal.Join ∷ goal.At spot.DeclarationMore ∷ [])

pub name_enlists : (w : Word) → nat_lt 2 (pull w) ≡ false → item_name w ≡ enlisted
name_enlists word.Open h = cc h
name_enlists _ h = refl

pub rest_declares : (w : Word) → nat_lt 2 (pull w) ≡ false → future_rest w ≡ declared
rest_declares word.OpenBracket h = cc h
rest_declares word.Open h = cc h
rest_declares (word.Access x) h = cc h
rest_declares _ h = refl

pub no_bracket : (w : Word) → nat_lt 2 (pull w) ≡ false → is_open_bracket w ≡ false
no_bracket word.OpenBracket h = cc h
no_bracket _ h = refl

pub or_false_left : (a b : Bool) → (a || b) ≡ false → a ≡ false
or_false_left true b h = h
or_false_left false b h = refl

pub or_false_right : (a b : Bool) → (a || b) ≡ false → b ≡ false
or_false_right true b h = cc h
or_false_right false b h = h

pub declr_calm : (f : Form) (w : Word) → sort f ≡ Some rule.Declr → Calm f w
declr_calm f w s = calm_closed f w (sort_closed rule.Declr f s refl)

pub retitle_back : (q r : Rule) (f : Form) → sort f ≡ Some q → retitle q (retitle r f) ≡ f
retitle_back q r (leaf w) e = refl
retitle_back q r (begin x) e = ap begin (sym (same_Some x q e))
retitle_back q r (f ▹ g) e = ap (λ y. y ▹ g) (retitle_back q r f e)

pub retitle_self : (q : Rule) (f : Form) → sort f ≡ Some q → retitle q f ≡ f
retitle_self q (leaf w) e = refl
retitle_self q (begin x) e = ap begin (sym (same_Some x q e))
retitle_self q (f ▹ g) e = ap (λ y. y ▹ g) (retitle_self q f e)

-- declarators at file scope ----------------------------------------------------------------------

-- what a declarator's bounds begin with
pub bound_first : (b f : Form) (ws ts : List Word) (P : Word → Type 0) → Ext b f ws → Complete f → Parts f → Spotted b spot.DeclrBounds → P word.OpenBracket → P (first ts) → P (first (ws ++ ts))
bound_first b f ws ts P e c q k y n =
    ⊎_elim (λ i. subst (λ v. P (first (v ++ ts))) (sym (nothing_more b f ws e i)) n)
    (λ x.
    let o = only x.item (item.Word word.OpenBracket) x.to spot.DeclrBound x.allowed in
    let t = word_part b f ws spot.DeclrBounds spot.DeclrBound word.OpenBracket x refl o.0 o.1 in
    subst (λ v. P (first (v ++ ts))) (sym t.spelled) y)
    (part_or b f ws e c q spot.DeclrBounds k)

abbrev pub AfterDeclr : Form → List Goal → Form → List Form → List Word → State
AfterDeclr f gs p d ts = St (goal.At spot.DinitSet ∷ goal.Join ∷ goal.At spot.DeclarationMore ∷ gs) ((begin rule.Dinit ▹ f) ∷ (begin rule.Declaration ▹ p) ∷ d) ts

pub name_declr : (b f : Form) (ws : List Word) → Ext b f ws → Complete f → sort f ≡ Some rule.Declr → Parts f → Spotted b spot.DeclrBounds → (gs : List Goal) (p : Form) (d : List Form) (ts : List Word) → nat_lt 2 (pull (first ts)) ≡ false → Leads (St (goal.ItemName ∷ gs) (b ∷ p ∷ d) (ws ++ ts)) (AfterDeclr f gs p d ts)
name_declr b f ws e c s q k gs p d ts n =
    join (by goal.ItemName enlisted gs (b ∷ p ∷ d) (ws ++ ts) (St (goal.At spot.DeclrBounds ∷ goal.Join ∷ goal.At spot.DinitSet ∷ goal.Join ∷ goal.At spot.DeclarationMore ∷ gs) (b ∷ begin rule.Dinit ∷ (begin rule.Declaration ▹ p) ∷ d) (ws ++ ts))
    (bound_first b f ws ts (λ w. item_name w ≡ enlisted) e c q k refl (name_enlists (first ts) n)) refl)
    (join (run_from b f ws spot.DeclrBounds rule.Declr k refl e c s q (goal.Join ∷ goal.At spot.DinitSet ∷ goal.Join ∷ goal.At spot.DeclarationMore ∷ gs) (begin rule.Dinit ∷ (begin rule.Declaration ▹ p) ∷ d) ts (no_bracket (first ts) n) (declr_calm f (first ts) s))
    (on refl here))

pub no_size : (b f g : Form) (ws : List Word) → Ext (b ▹ g) f ws → size f ≤ size b → ⊥
no_size b f g ws e le = omega (arith, le, ext_size (b ▹ g) f ws e)

-- a qualifier behind stars
pub qualified : (w : Word) → is_qualifier w ≡ true → item_stars w ≡ shift (goal.ItemStars ∷ [])
qualified (word.Qualifier x) h = refl
qualified word.Restrict h = refl
qualified word.Future h = refl
qualified _ h = cc h

pub stars_step : (a : Form) (w : Word) (gs : List Goal) (d : List Form) (ws : List Word) → item_stars w ≡ shift (goal.ItemStars ∷ []) → Leads (St (goal.ItemStars ∷ gs) (a ∷ d) (w ∷ ws)) (St (goal.ItemStars ∷ gs) ((a ▹ leaf w) ∷ d) ws)
stars_step a w gs d ws e = by goal.ItemStars (shift (goal.ItemStars ∷ [])) gs (a ∷ d) (w ∷ ws) _ e refl

pub stars_declr : (n : ℕ) (b f : Form) (ws : List Word) → size f ≤ size b + n → Ext b f ws → Complete f → sort f ≡ Some rule.Declr → Parts f → Spotted b spot.DeclrStars → (gs : List Goal) (p : Form) (d : List Form) (ts : List Word) → nat_lt 2 (pull (first ts)) ≡ false → Leads (St (goal.ItemStars ∷ gs) (b ∷ p ∷ d) (ws ++ ts)) (AfterDeclr f gs p d ts)
stars_declr zero b f ws le e c s q k gs p d ts h =
    let x = part_of b f ws e c q spot.DeclrStars k refl in absurd (no_size b f x.part x.words x.ext (omega (arith, le)))
stars_declr (suc n) b f ws le e c s q k gs p d ts h =
    let x = part_of b f ws e c q spot.DeclrStars k refl in
    ⊎_elim
    (λ m.
    let y = kind_is kind.Qualifier x.part (subst (λ i. Fits i x.part (Complete x.part)) (sym m.0) x.fits) in
    let t = token_part b f ws spot.DeclrStars spot.DeclrStars y.0 x y.1 (sym m.1) in
    respell (ap (λ v. v ++ ts) t.spelled) (join (stars_step b y.0 gs (p ∷ d) (t.words ++ ts) (qualified y.0 y.2))
    (stars_declr n (b ▹ leaf y.0) f t.words (omega (arith, le)) t.ext c s q t.spotted gs p d ts h)))
    (λ m. ⊎_elim
    (λ m.
    let t = word_part b f ws spot.DeclrStars spot.DeclrStars word.Star x refl m.0 m.1 in
    respell (ap (λ v. v ++ ts) t.spelled) (join (stars_step b word.Star gs (p ∷ d) (t.words ++ ts) refl)
    (stars_declr n (b ▹ leaf word.Star) f t.words (omega (arith, le)) t.ext c s q t.spotted gs p d ts h)))
    (λ m. ⊎_elim
    (λ m.
    let t = word_part b f ws spot.DeclrStars spot.DeclrBounds word.Name x refl m.0 m.1 in
    respell (ap (λ v. v ++ ts) t.spelled) (on refl (name_declr (b ▹ leaf word.Name) f t.words t.ext c s q t.spotted gs p d ts h)))
    (λ z. absurd z) m) m)
    x.allowed

pub declr_of : (f : Form) → Complete f → Parts f → sort f ≡ Some rule.Declr → AtDeclr f
declr_of f c q s gs p d ts h =
    let x = lead_of f rule.Declr c s q in
    ⊎_elim
    (λ m.
    let t = word_part (begin rule.Declr) f (leaves f) spot.Declr spot.DeclrStars word.Star x refl m.0 m.1 in
    respell (ap (λ v. v ++ ts) t.spelled) (on refl
    (stars_declr (size f) (begin rule.Declr ▹ leaf word.Star) f t.words (omega arith) t.ext c s q t.spotted gs p d ts h)))
    (λ m. ⊎_elim
    (λ m.
    let t = word_part (begin rule.Declr) f (leaves f) spot.Declr spot.DeclrBounds word.Name x refl m.0 m.1 in
    respell (ap (λ v. v ++ ts) t.spelled) (on refl (name_declr (begin rule.Declr ▹ leaf word.Name) f t.words t.ext c s q t.spotted gs p d ts h)))
    (λ z. absurd z) m)
    x.allowed

-- a function's declarator ------------------------------------------------------------------------

abbrev pub AfterCallee : Form → List Goal → Form → List Form → List Word → State
AfterCallee f gs p d ts = St (goal.At spot.FunctionParams ∷ gs) ((begin rule.Function ▹ p ▹ f) ∷ d) ts

pub name_callee : (b f : Form) (ws : List Word) → Ext b f ws → Complete f → sort f ≡ Some rule.Callee → Parts f → Spotted b spot.Done → (gs : List Goal) (p : Form) (d : List Form) (ts : List Word) → first ts ≡ word.Open → Leads (St (goal.ItemName ∷ gs) (retitle rule.Declr b ∷ p ∷ d) (ws ++ ts)) (AfterCallee f gs p d ts)
name_callee b f ws e c s q k gs p d ts h =
    ⊎_elim
    (λ i.
    let same : retitle rule.Callee (retitle rule.Declr b) ≡ f = ap (λ y. retitle rule.Callee (retitle rule.Declr y)) i ∙ retitle_back rule.Callee rule.Declr f s in
    respell (ap (λ v. v ++ ts) (nothing_more b f ws e i))
    (into (ap (λ y. (begin rule.Function ▹ p ▹ y) ∷ d) same)
    (by goal.ItemName (does shape.Call (goal.At spot.FunctionParams ∷ [])) gs (retitle rule.Declr b ∷ p ∷ d) ts _ (ap item_name h) refl)))
    (λ x. absurd x.allowed)
    (part_or b f ws e c q spot.Done k)

pub stars_callee : (n : ℕ) (b f : Form) (ws : List Word) → size f ≤ size b + n → Ext b f ws → Complete f → sort f ≡ Some rule.Callee → Parts f → Spotted b spot.CalleeStars → (gs : List Goal) (p : Form) (d : List Form) (ts : List Word) → first ts ≡ word.Open → Leads (St (goal.ItemStars ∷ gs) (retitle rule.Declr b ∷ p ∷ d) (ws ++ ts)) (AfterCallee f gs p d ts)
stars_callee zero b f ws le e c s q k gs p d ts h =
    let x = part_of b f ws e c q spot.CalleeStars k refl in absurd (no_size b f x.part x.words x.ext (omega (arith, le)))
stars_callee (suc n) b f ws le e c s q k gs p d ts h =
    let x = part_of b f ws e c q spot.CalleeStars k refl in
    ⊎_elim
    (λ m.
    let y = kind_is kind.Qualifier x.part (subst (λ i. Fits i x.part (Complete x.part)) (sym m.0) x.fits) in
    let t = token_part b f ws spot.CalleeStars spot.CalleeStars y.0 x y.1 (sym m.1) in
    respell (ap (λ v. v ++ ts) t.spelled) (join (stars_step (retitle rule.Declr b) y.0 gs (p ∷ d) (t.words ++ ts) (qualified y.0 y.2))
    (stars_callee n (b ▹ leaf y.0) f t.words (omega (arith, le)) t.ext c s q t.spotted gs p d ts h)))
    (λ m. ⊎_elim
    (λ m.
    let t = word_part b f ws spot.CalleeStars spot.CalleeStars word.Star x refl m.0 m.1 in
    respell (ap (λ v. v ++ ts) t.spelled) (join (stars_step (retitle rule.Declr b) word.Star gs (p ∷ d) (t.words ++ ts) refl)
    (stars_callee n (b ▹ leaf word.Star) f t.words (omega (arith, le)) t.ext c s q t.spotted gs p d ts h)))
    (λ m. ⊎_elim
    (λ m.
    let t = word_part b f ws spot.CalleeStars spot.Done word.Name x refl m.0 m.1 in
    respell (ap (λ v. v ++ ts) t.spelled) (on refl (name_callee (b ▹ leaf word.Name) f t.words t.ext c s q t.spotted gs p d ts h)))
    (λ z. absurd z) m) m)
    x.allowed

pub callee_of : (f : Form) → Complete f → Parts f → sort f ≡ Some rule.Callee → AtCallee f
callee_of f c q s gs p d ts h =
    let x = lead_of f rule.Callee c s q in
    ⊎_elim
    (λ m.
    let t = word_part (begin rule.Callee) f (leaves f) spot.Callee spot.CalleeStars word.Star x refl m.0 m.1 in
    respell (ap (λ v. v ++ ts) t.spelled) (on refl (on refl
    (stars_callee (size f) (begin rule.Callee ▹ leaf word.Star) f t.words (omega arith) t.ext c s q t.spotted gs p d ts h))))
    (λ m. ⊎_elim
    (λ m.
    let t = word_part (begin rule.Callee) f (leaves f) spot.Callee spot.Done word.Name x refl m.0 m.1 in
    respell (ap (λ v. v ++ ts) t.spelled) (on refl (on refl (name_callee (begin rule.Callee ▹ leaf word.Name) f t.words t.ext c s q t.spotted gs p d ts h))))
    (λ z. absurd z) m)
    x.allowed

-- brackets behind `future NAME` ------------------------------------------------------------------

pub close_bracket : (b f : Form) (ws : List Word) (s t : Spot) → steps s ≡ (item.Word word.CloseBracket, t) ∷ [] → may_end s ≡ false → Ext b f ws → Complete f → Parts f → Spotted b s → TokenPart b f ws word.CloseBracket t
close_bracket b f ws s t e n x c q k =
    let y = part_of b f ws x c q s k n in
    let o = only y.item (item.Word word.CloseBracket) y.to t (subst (λ l. Among y.item y.to l) e y.allowed) in
    word_part b f ws s t word.CloseBracket y refl o.0 o.1

abbrev pub AfterBounds : Form → List Goal → List Form → List Word → State
AfterBounds f gs d ts = AfterDeclr f gs (begin rule.Specs ▹ leaf word.Future) d ts

pub bounds_declare : (b f : Form) (ws : List Word) → Ext b f ws → b ≡ f → sort f ≡ Some rule.Declr → (gs : List Goal) (d : List Form) (ts : List Word) → nat_lt 2 (pull (first ts)) ≡ false → Leads (St (goal.FutureRest ∷ gs) (retitle rule.Place b ∷ future ∷ d) (ws ++ ts)) (AfterBounds f gs d ts)
bounds_declare b f ws e i s gs d ts h =
    let same : retitle rule.Declr (retitle rule.Place b) ≡ f = ap (λ y. retitle rule.Declr (retitle rule.Place y)) i ∙ retitle_back rule.Declr rule.Place f s in
    respell (ap (λ v. v ++ ts) (nothing_more b f ws e i))
    (into (ap (λ y. (begin rule.Dinit ▹ y) ∷ (begin rule.Declaration ▹ (begin rule.Specs ▹ leaf word.Future)) ∷ d) same)
    (by goal.FutureRest declared gs (retitle rule.Place b ∷ future ∷ d) ts _ (rest_declares (first ts) h) refl))

pub bounds : (n : ℕ) (b f : Form) (ws : List Word) → size f ≤ size b + n → Ext b f ws → Complete f → sort f ≡ Some rule.Declr → Parts f → Spotted b spot.DeclrBounds → (gs : List Goal) (d : List Form) (ts : List Word) → nat_lt 2 (pull (first ts)) ≡ false → Leads (St (goal.FutureRest ∷ gs) (retitle rule.Place b ∷ future ∷ d) (ws ++ ts)) (AfterBounds f gs d ts)
bounds zero b f ws le e c s q k gs d ts h =
    ⊎_elim (λ i. bounds_declare b f ws e i s gs d ts h) (λ x. absurd (no_size b f x.part x.words x.ext (omega (arith, le)))) (part_or b f ws e c q spot.DeclrBounds k)
bounds (suc n) b f ws le e c s q k gs d ts h =
    ⊎_elim (λ i. bounds_declare b f ws e i s gs d ts h)
    (λ x.
    let o = only x.item (item.Word word.OpenBracket) x.to spot.DeclrBound x.allowed in
    let t = word_part b f ws spot.DeclrBounds spot.DeclrBound word.OpenBracket x refl o.0 o.1 in
    let y = part_of (b ▹ leaf word.OpenBracket) f t.words t.ext c q spot.DeclrBound t.spotted refl in
    let u = only y.item (item.Part (class.At strength.Cond)) y.to spot.DeclrClose y.allowed in
    let g : Complete y.part × Is (class.At strength.Cond) (sort y.part) = subst (λ i. Fits i y.part (Complete y.part)) (sym u.0) y.fits in
    let v = close_bracket (b ▹ leaf word.OpenBracket ▹ y.part) f y.words spot.DeclrClose spot.DeclrBounds refl refl y.ext c q (subst (λ i. Spotted (b ▹ leaf word.OpenBracket ▹ y.part) i) (sym u.1) y.spotted) in
    let z : y.words ++ ts ≡ word.CloseBracket ∷ (v.words ++ ts) = ap (λ i. i ++ ts) v.spelled in
    respell (ap (λ i. i ++ ts) t.spelled)
    (on refl
    (respell (ap (λ i. i ++ ts) y.spelled ∙ append_assoc (leaves y.part) y.words ts)
    (join ((y.known g.0).still g.1 Bracket gs ((retitle rule.Place b ▹ leaf word.OpenBracket) ∷ future ∷ d) (y.words ++ ts) (ap (λ i. nat_lt 1 (pull (first i))) z))
    (respell z (on refl (on refl
    (bounds n (b ▹ leaf word.OpenBracket ▹ y.part ▹ leaf word.CloseBracket) f v.words (omega (arith, le)) v.ext c s q v.spotted gs d ts h))))))))
    (part_or b f ws e c q spot.DeclrBounds k)

pub no_name : {A : Type 0} (f : Form) (w : Word) (words : List Word) → first (leaves f) ≡ word.Name → leaves f ≡ word.Star ∷ words → A
no_name f w words a b = let bad : word.Star ≡ word.Name = sym (ap first b) ∙ a in cc bad

pub bounds_of : (f : Form) → Complete f → Parts f → sort f ≡ Some rule.Declr → AtBounds f
bounds_of f c q s a gs d ts h =
    let x = lead_of f rule.Declr c s q in
    ⊎_elim
    (λ m.
    let t = word_part (begin rule.Declr) f (leaves f) spot.Declr spot.DeclrStars word.Star x refl m.0 m.1 in
    no_name f word.Star t.words a t.spelled)
    (λ m. ⊎_elim
    (λ m.
    let t = word_part (begin rule.Declr) f (leaves f) spot.Declr spot.DeclrBounds word.Name x refl m.0 m.1 in
    respell (ap (λ v. v ++ ts) t.spelled) (on refl (bounds (size f) (begin rule.Declr ▹ leaf word.Name) f t.words (omega arith) t.ext c s q t.spotted gs d ts h)))
    (λ z. absurd z) m)
    x.allowed

-- places -----------------------------------------------------------------------------------------

abbrev pub AfterPlace : Form → List Goal → List Form → List Word → State
AfterPlace f gs d ts = St (goal.At spot.FutureOpen ∷ gs) ((future ▹ f) ∷ d) ts

pub place_calm : (f : Form) (w : Word) → sort f ≡ Some rule.Place → Calm f w
place_calm f w s = calm_closed f w (sort_closed rule.Place f s refl)

-- it is a place: the rest of it
pub place_rest : (b f : Form) (ws : List Word) (t : Spot) → is_left t ≡ false → Spotted b t → Ext b f ws → Complete f → sort f ≡ Some rule.Place → Parts f → (gs : List Goal) (d : List Form) (ts : List Word) → first ts ≡ word.Open → Leads (St (goal.At t ∷ goal.Join ∷ goal.At spot.FutureOpen ∷ gs) (b ∷ future ∷ d) (ws ++ ts)) (AfterPlace f gs d ts)
place_rest b f ws t l k e c s q gs d ts h =
    join (run_from b f ws t rule.Place k l e c s q (goal.Join ∷ goal.At spot.FutureOpen ∷ gs) (future ∷ d) ts (ap (rule_goes rule.Place) h) (place_calm f (first ts) s)) (on refl here)

pub access_rest : (w : Word) → is_access w ≡ true → future_rest w ≡ does shape.Keep (goal.At spot.PlaceMore ∷ goal.Join ∷ goal.At spot.FutureOpen ∷ [])
access_rest (word.Access x) h = refl
access_rest _ h = cc h

pub by_level : (l : Level) → 2 ≤ level_rank l
by_level level_name.Or = omega arith
by_level level_name.And = omega arith
by_level level_name.BitOr = omega arith
by_level level_name.BitXor = omega arith
by_level level_name.BitAnd = omega arith
by_level level_name.Equality = omega arith
by_level level_name.Relation = omega arith
by_level level_name.Shift = omega arith
by_level level_name.Sum = omega arith
by_level level_name.Product = omega arith

pub is_cond : (o : Option Rule) → Is (class.At strength.Expr) o → Is (class.At strength.Cond) o ⊎ (Is (class.At strength.Cond) o → ⊥)
is_cond None h = absurd h
is_cond (Some rule.Comma) h = inr (λ k. omega (arith, k))
is_cond (Some rule.Assign) h = inr (λ k. omega (arith, k))
is_cond (Some rule.Cond) h = inl (omega arith)
is_cond (Some (rule.Binary l)) h = inl (by_level l)
is_cond (Some rule.Cast) h = inl (omega arith)
is_cond (Some rule.Unary) h = inl (omega arith)
is_cond (Some rule.Postfix) h = inl (omega arith)
is_cond (Some rule.Prim) h = inl (omega arith)
is_cond (Some _) h = absurd h

pub place_index : (n : ℕ) (b f : Form) (ws : List Word) → size f ≤ size b + suc n → TokenPart b f ws word.OpenBracket spot.PlaceIndex → Complete f → sort f ≡ Some rule.Place → Parts f → (gs : List Goal) (d : List Form) (ts : List Word) → first ts ≡ word.Open
    → ((e : Form) (vs : List Word) → size f ≤ size e + n → Ext e f vs → Spotted e spot.PlaceMore → Leads (St (goal.FutureRest ∷ gs) (e ∷ future ∷ d) (vs ++ ts)) (AfterPlace f gs d ts))
    → Leads (St (goal.FutureRest ∷ gs) (b ∷ future ∷ d) (ws ++ ts)) (AfterPlace f gs d ts)
place_index n b f ws le t c s q gs d ts h again =
    let y = part_of (b ▹ leaf word.OpenBracket) f t.words t.ext c q spot.PlaceIndex t.spotted refl in
    let u = only y.item (item.Part (class.At strength.Expr)) y.to spot.PlaceClose y.allowed in
    let g : Complete y.part × Is (class.At strength.Expr) (sort y.part) = subst (λ i. Fits i y.part (Complete y.part)) (sym u.0) y.fits in
    let k : Spotted (b ▹ leaf word.OpenBracket ▹ y.part) spot.PlaceClose = subst (λ i. Spotted (b ▹ leaf word.OpenBracket ▹ y.part) i) (sym u.1) y.spotted in
    let v = close_bracket (b ▹ leaf word.OpenBracket ▹ y.part) f y.words spot.PlaceClose spot.PlaceMore refl refl y.ext c q k in
    let z : y.words ++ ts ≡ word.CloseBracket ∷ (v.words ++ ts) = ap (λ i. i ++ ts) v.spelled in
    respell (ap (λ i. i ++ ts) t.spelled)
    (on refl
    (respell (ap (λ i. i ++ ts) y.spelled ∙ append_assoc (leaves y.part) y.words ts)
    (⊎_elim
    (λ i. join ((y.known g.0).still i Bracket gs ((b ▹ leaf word.OpenBracket) ∷ future ∷ d) (y.words ++ ts) (ap (λ i. nat_lt 1 (pull (first i))) z))
    (respell z (on refl (on refl
    (again (b ▹ leaf word.OpenBracket ▹ y.part ▹ leaf word.CloseBracket) v.words (omega (arith, le)) v.ext v.spotted)))))
    (λ i. join ((y.known g.0).index g.1 gs ((b ▹ leaf word.OpenBracket) ∷ future ∷ d) (y.words ++ ts) (ap (λ i. nat_lt 1 (pull (first i))) z) (λ j. absurd (i j)))
    (join (by goal.CommaRest (does shape.Keep []) (goal.Join ∷ goal.At spot.PlaceClose ∷ goal.Join ∷ goal.At spot.FutureOpen ∷ gs) (y.part ∷ (b ▹ leaf word.OpenBracket) ∷ future ∷ d) (y.words ++ ts) _ (ap (λ i. planned goal.CommaRest (first i)) z) refl)
    (on refl
    (place_rest (b ▹ leaf word.OpenBracket ▹ y.part) f y.words spot.PlaceClose refl k y.ext c s q gs d ts h))))
    (is_cond (sort y.part) g.1))))

pub place_ends : (b f : Form) (ws : List Word) → Ext b f ws → b ≡ f → Complete f → sort f ≡ Some rule.Place → Parts f → Spotted b spot.PlaceMore → (gs : List Goal) (d : List Form) (ts : List Word) → first ts ≡ word.Open → Leads (St (goal.FutureRest ∷ gs) (b ∷ future ∷ d) (ws ++ ts)) (AfterPlace f gs d ts)
place_ends b f ws e i c s q k gs d ts h =
    join (by goal.FutureRest (does shape.Keep (goal.At spot.PlaceMore ∷ goal.Join ∷ goal.At spot.FutureOpen ∷ [])) gs (b ∷ future ∷ d) (ws ++ ts) (St (goal.At spot.PlaceMore ∷ goal.Join ∷ goal.At spot.FutureOpen ∷ gs) (b ∷ future ∷ d) (ws ++ ts))
    (ap (λ v. future_rest (first (v ++ ts))) (nothing_more b f ws e i) ∙ ap future_rest h) refl)
    (place_rest b f ws spot.PlaceMore refl k e c s q gs d ts h)

pub place_access : (b f : Form) (ws : List Word) (x : PartOf b f ws spot.PlaceMore) → item.Kind kind.Access ≡ x.item → Ext b f ws → Complete f → sort f ≡ Some rule.Place → Parts f → Spotted b spot.PlaceMore → (gs : List Goal) (d : List Form) (ts : List Word) → first ts ≡ word.Open → Leads (St (goal.FutureRest ∷ gs) (b ∷ future ∷ d) (ws ++ ts)) (AfterPlace f gs d ts)
place_access b f ws x m e c s q k gs d ts h =
    let y = kind_is kind.Access x.part (subst (λ i. Fits i x.part (Complete x.part)) (sym m) x.fits) in
    let t = token_part b f ws spot.PlaceMore x.to y.0 x y.1 refl in
    join (by goal.FutureRest (does shape.Keep (goal.At spot.PlaceMore ∷ goal.Join ∷ goal.At spot.FutureOpen ∷ [])) gs (b ∷ future ∷ d) (ws ++ ts) (St (goal.At spot.PlaceMore ∷ goal.Join ∷ goal.At spot.FutureOpen ∷ gs) (b ∷ future ∷ d) (ws ++ ts))
    (ap (λ v. future_rest (first (v ++ ts))) t.spelled ∙ access_rest y.0 y.2) refl)
    (place_rest b f ws spot.PlaceMore refl k e c s q gs d ts h)

pub places : (n : ℕ) (b f : Form) (ws : List Word) → size f ≤ size b + n → Ext b f ws → Complete f → sort f ≡ Some rule.Place → Parts f → Spotted b spot.PlaceMore → (gs : List Goal) (d : List Form) (ts : List Word) → first ts ≡ word.Open → Leads (St (goal.FutureRest ∷ gs) (b ∷ future ∷ d) (ws ++ ts)) (AfterPlace f gs d ts)
places zero b f ws le e c s q k gs d ts h =
    ⊎_elim (λ i. place_ends b f ws e i c s q k gs d ts h) (λ x. absurd (no_size b f x.part x.words x.ext (omega (arith, le)))) (part_or b f ws e c q spot.PlaceMore k)
places (suc n) b f ws le e c s q k gs d ts h =
    ⊎_elim (λ i. place_ends b f ws e i c s q k gs d ts h)
    (λ x. ⊎_elim
    (λ m. place_index n b f ws le (word_part b f ws spot.PlaceMore spot.PlaceIndex word.OpenBracket x refl m.0 m.1) c s q gs d ts h
    (λ g vs l y z. places n g f vs l y c s q z gs d ts h))
    (λ m. ⊎_elim (λ m. place_access b f ws x m.0 e c s q k gs d ts h) (λ z. absurd z) m)
    x.allowed)
    (part_or b f ws e c q spot.PlaceMore k)

pub place_of : (f : Form) → Complete f → Parts f → sort f ≡ Some rule.Place → AtPlace f
place_of f c q s gs d ts h =
    let x = lead_of f rule.Place c s q in
    let o = only x.item (item.Word word.Name) x.to spot.PlaceMore x.allowed in
    let t = word_part (begin rule.Place) f (leaves f) spot.Place spot.PlaceMore word.Name x refl o.0 o.1 in
    respell (ap (λ v. v ++ ts) t.spelled) (on refl (on refl (places (size f) (begin rule.Place ▹ leaf word.Name) f t.words (omega arith) t.ext c s q t.spotted gs d ts h)))
