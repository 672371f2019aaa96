-- The parts of a node, one after the other.
use Rattle.std.proofs.Common.{◌≡◌, List, [], ◌∷◌, ◌++◌, Some, true, false, refl, sym, ap, ◌∙◌, subst}
use Rattle.std.proofs.lemmas.Option.{same_Some}
use mathlib.Core.Logic.{⊎_elim}
use Rattle.xc_raw.specs.declared.word.Word.{Word}
use Rattle.xc_raw.specs.declared.rule.Rule.{Rule}
use Rattle.xc_raw.specs.declared.rule.Rule.TheVariants as rule
use Rattle.xc_parse_grammar.specs.declared.marks.Item.{Item}
use Rattle.xc_parse_grammar.specs.declared.spots.Spot.{Spot}
use Rattle.xc_parse_grammar.specs.declared.goals.Goal.{Goal}
use Rattle.xc_parse_grammar.specs.declared.goals.Goal.TheVariants as goal
use Rattle.xc_parse_grammar.specs.Marks.{accepts}
use Rattle.xc_parse_grammar.specs.Grammar.{Form, leaf, begin, ◌▹◌, leaves, Among, Fits, sort}
use Rattle.xc_parse_grammar.specs.Spots.{steps, may_end, start}
use Rattle.xc_parse_grammar.proofs.Links.{Spotted, Complete}
use Rattle.xc_parse_grammar.proofs.Needs.{Calm}
use Rattle.xc_parse_grammar.proofs.Ends.{first}
use Rattle.xc_parse_grammar.proofs.Tables.{picks}
use Rattle.xc_parse_grammar.proofs.Follow.{rule_goes, is_plain, is_left, begun_goes}
use Rattle.xc_parse_grammar.proofs.Machine.{St, Leads}
use Rattle.xc_parse_grammar.proofs.Run.{Opened, fit_first, KnownIf, Parts, Ext, from_begin, Peeled, peel, place_of, run_end}

same_words : (g : Form) (P Q : Word → Type 0) (o : Opened g P) (u : Opened g Q) → o.word ≡ u.word
same_words g P Q o u = let e : o.word ∷ o.rest ≡ u.word ∷ u.rest = sym o.spelled ∙ u.spelled in cc e

one_step : (g : Form) (x : Spot) (i j : Item) (s t : Spot) → Among i s (steps x) → Among j t (steps x) → Fits i g (Complete g) → Fits j g (Complete g) → s ≡ t
one_step g x i j s t m n h k =
    let o = fit_first i g h in let u = fit_first j g k in
    let e : accepts j o.word ≡ true = ap (accepts j) (same_words g _ _ o u) ∙ u.holds in
    let q : Some (i, s) ≡ Some (j, t) = sym (picks x i s o.word m o.holds) ∙ picks x j t o.word n e in
    ap (λ y. y.1) (same_Some (i, s) (j, t) q)

-- a beginning has one place
pub one_spot : (f : Form) (s t : Spot) → Spotted f s → Spotted f t → s ≡ t
one_spot (leaf w) s t h k = absurd h
one_spot (begin r) s t h k = h ∙ sym k
one_spot (p ▹ g) s t h k =
    let e = one_spot p k.from h.from k.begun h.begun in
    one_step g h.from h.item k.item s t h.allowed (subst (λ x. Among k.item t (steps x)) e k.allowed) h.fits k.fits

-- the next part of a node
pub record PartOf (b f : Form) (ws : List Word) (t : Spot) : Type 0 where
  pub part : Form
  pub words : List Word
  pub to : Spot
  pub item : Item
  pub ext : Ext (b ▹ part) f words
  pub spelled : ws ≡ leaves part ++ words
  pub known : KnownIf part
  pub allowed : Among item to (steps t)
  pub fits : Fits item part (Complete part)
  pub spotted : Spotted (b ▹ part) to

not_over : (b f : Form) (s t : Spot) → b ≡ f → Spotted f s → may_end s ≡ true → Spotted b t → may_end t ≡ false → ⊥
not_over b f s t e h m k n =
    let q : t ≡ s = one_spot f t s (subst (λ x. Spotted x t) e k) h in
    let bad : false ≡ true = sym n ∙ ap may_end q ∙ m in cc bad

pub part_by : (b f : Form) (ws : List Word) (s t : Spot) → Spotted f s → Spotted b t → Peeled b f ws → PartOf b f ws t
part_by b f ws s t h k x =
    let pl = place_of (b ▹ x.part) f x.words s x.ext h in
    record {
      part = x.part;
      words = x.words;
      to = pl.0;
      item = pl.1.item;
      ext = x.ext;
      spelled = x.spelled;
      known = x.known;
      allowed = subst (λ y. Among pl.1.item pl.0 (steps y)) (one_spot b pl.1.from t pl.1.begun k) pl.1.allowed;
      fits = pl.1.fits;
      spotted = pl.1;
    }

pub part_of : (b f : Form) (ws : List Word) → Ext b f ws → Complete f → Parts f → (t : Spot) → Spotted b t → may_end t ≡ false → PartOf b f ws t
part_of b f ws e c q t k n =
    ⊎_elim (λ x. absurd (not_over b f c.0 t x c.1 c.2 k n)) (λ x. part_by b f ws c.0 t c.1 k x) (peel b f ws e q)

-- the first part of a node
pub lead_of : (f : Form) (r : Rule) → Complete f → sort f ≡ Some r → Parts f → PartOf (begin r) f (leaves f) (start r)
lead_of f r c e q = part_of (begin r) f (leaves f) (from_begin f r c.0 c.1 e) c q (start r) refl (begun_goes r)

-- the run from a beginning of a node to its end
pub run_from : (b f : Form) (ws : List Word) (t : Spot) (r : Rule) → Spotted b t → is_left t ≡ false → Ext b f ws → Complete f → sort f ≡ Some r → Parts f → (gs : List Goal) (d : List Form) (ts : List Word) → rule_goes r (first ts) ≡ false → Calm f (first ts)
    → Leads (St (goal.At t ∷ gs) (b ∷ d) (ws ++ ts)) (St gs (f ∷ d) ts)
run_from b f ws t r k l e c x q gs d ts n m =
    let a = run_end b f ws c.0 r (λ u h. ap is_left (one_spot b u t h k) ∙ l) e c.1 c.2 x q gs d ts n m in
    subst (λ u. Leads (St (goal.At u ∷ gs) (b ∷ d) (ws ++ ts)) (St gs (f ∷ d) ts)) (one_spot b a.0 t a.1 k) a.2

start_left : (r : Rule) → is_plain r ≡ true → is_left (start r) ≡ false
start_left rule.Unit e = refl
start_left rule.Pragma e = refl
start_left rule.Declaration e = refl
start_left rule.Function e = refl
start_left rule.Specs e = refl
start_left rule.Struct e = refl
start_left rule.Member e = refl
start_left rule.Declr e = refl
start_left rule.Callee e = refl
start_left rule.Dinit e = refl
start_left rule.Initialisers e = refl
start_left rule.Params e = refl
start_left rule.Param e = refl
start_left rule.Block e = refl
start_left rule.Sub e = refl
start_left rule.Eval e = refl
start_left rule.Clause e = refl
start_left rule.If e = refl
start_left rule.While e = refl
start_left rule.Do e = refl
start_left rule.For e = refl
start_left rule.ForDeclaration e = refl
start_left rule.Step e = refl
start_left rule.Return e = refl
start_left rule.Break e = refl
start_left rule.Continue e = refl
start_left rule.Future e = refl
start_left rule.Place e = refl
start_left rule.Comma e = cc e
start_left rule.Assign e = cc e
start_left rule.Cond e = cc e
start_left (rule.Binary level) e = cc e
start_left rule.Cast e = refl
start_left rule.Unary e = refl
start_left rule.Postfix e = cc e
start_left rule.Prim e = refl

-- a whole node from its beginning
pub run_node : (f : Form) (r : Rule) → is_plain r ≡ true → Complete f → sort f ≡ Some r → Parts f → (gs : List Goal) (d : List Form) (ts : List Word) → rule_goes r (first ts) ≡ false → Calm f (first ts)
    → Leads (St (goal.At (start r) ∷ gs) (begin r ∷ d) (leaves f ++ ts)) (St gs (f ∷ d) ts)
run_node f r p c e q gs d ts n m = run_from (begin r) f (leaves f) (start r) r refl (start_left r p) (from_begin f r c.0 c.1 e) c e q gs d ts n m

-- the first word of the rest
pub record Head (ws : List Word) (t : Spot) : Type 0 where
  pub word : Word
  pub rest : List Word
  pub spelled : ws ≡ word ∷ rest
  pub item : Item
  pub to : Spot
  pub allowed : Among item to (steps t)
  pub accepted : accepts item word ≡ true

abbrev pub head_of : (b f : Form) (ws : List Word) (t : Spot) → PartOf b f ws t → Head ws t
head_of b f ws t x =
    let o = fit_first x.item x.part x.fits in
    record { word = o.word; rest = o.rest ++ x.words; spelled = x.spelled ∙ ap (λ y. y ++ x.words) o.spelled; item = x.item; to = x.to; allowed = x.allowed; accepted = o.holds }

pub head_first : (ws ts : List Word) (t : Spot) (h : Head ws t) → first (ws ++ ts) ≡ h.word
head_first ws ts t h = ap (λ x. first (x ++ ts)) h.spelled

pub only : (i j : Item) (s t : Spot) → Among i s ((j, t) ∷ []) → (j ≡ i) × (t ≡ s)
only i j s t m = ⊎_elim (λ h. h) (λ h. absurd h) m
