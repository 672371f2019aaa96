-- Nodes are read part by part.
use Rattle.std.proofs.Common.{◌≡◌, ℕ, ◌+◌, ◌≤◌, List, [], ◌∷◌, ◌++◌, Option, Some, None, Bool, true, false, refl, sym, ap, ◌∙◌, subst, arith, append_assoc}
use Rattle.std.specs.Prelude.{◌⊎◌, nat_lt, not}
use Rattle.std.proofs.lemmas.List.{append-nil}
use Rattle.std.proofs.lemmas.Option.{same_Some}
use mathlib.Core.Logic.{inl, inr, ⊎_elim}
use Rattle.xc_raw.specs.declared.word.Word.{Word}
use Rattle.xc_raw.specs.declared.word.Word.TheVariants as word
use Rattle.xc_raw.specs.declared.rule.Rule.{Rule}
use Rattle.xc_raw.specs.declared.rule.Rule.TheVariants as rule
use Rattle.xc_raw.specs.declared.rule.Level.{Level}
use Rattle.xc_raw.specs.declared.rule.Level.TheVariants as level_name
use Rattle.xc_parse_grammar.specs.declared.marks.Strength.TheVariants as strength
use Rattle.xc_parse_grammar.specs.declared.marks.Class.{Class}
use Rattle.xc_parse_grammar.specs.declared.marks.Class.TheVariants as class
use Rattle.xc_parse_grammar.specs.declared.marks.Item.{Item}
use Rattle.xc_parse_grammar.specs.declared.marks.Item.TheVariants as item
use Rattle.xc_parse_grammar.specs.declared.spots.Spot.{Spot}
use Rattle.xc_parse_grammar.specs.declared.spots.Spot.TheVariants as spot
use Rattle.xc_parse_grammar.specs.declared.goals.Use.{Use}
use Rattle.xc_parse_grammar.specs.declared.goals.Use.TheVariants.{Plain, Bracket}
use Rattle.xc_parse_grammar.specs.declared.goals.Goal.{Goal}
use Rattle.xc_parse_grammar.specs.declared.goals.Goal.TheVariants as goal
use Rattle.xc_parse_grammar.specs.Marks.{accepts, level_rank, is_specifier, begins, begins_rule}
use Rattle.xc_parse_grammar.specs.Grammar.{Form, leaf, begin, ◌▹◌, leaves, Among, Fits, IsToken, sort, Is, InClass, is_else, is_leaf_else, ends_in_else, opens, is_open, last_is_open}
use Rattle.xc_parse_grammar.specs.Spots.{steps, may_end, start}
use Rattle.xc_parse_grammar.specs.Plan.{operators, open_still, in_place}
use Rattle.xc_parse_grammar.proofs.Links.{Spotted, Complete}
use Rattle.xc_parse_grammar.proofs.Needs.{both, Calm, future, is_loose, sort_closed, strong_closed}
use Rattle.xc_parse_grammar.proofs.Sound.{if_spot, if_path}
use Rattle.xc_parse_grammar.proofs.Ends.{first}
use Rattle.xc_parse_grammar.proofs.Tables.{same_word, under, class_begins}
use Rattle.xc_parse_grammar.proofs.Follow.{pull, rule_goes, goes, is_plain, readable, is_left, reads, clear, home, no_left, at_home, covers, has_home, ends_at, begun_goes}
use Rattle.xc_parse_grammar.proofs.Machine.{St, Leads, here, on, join, respell, at_word, at_kind, at_part, at_end}

-- first words ------------------------------------------------------------------------------------

pub record Opened (f : Form) (P : Word → Type 0) : Type 0 where
  pub word : Word
  pub rest : List Word
  pub spelled : leaves f ≡ word ∷ rest
  pub holds : P word

pub is_some : (c : Class) (o : Option Rule) → Is c o → (q : Rule) × (o ≡ Some q) × InClass c q
is_some c None h = absurd h
is_some c (Some q) h = (q, refl, h)

no_begin : (q : Rule) (g : Form) → g ≡ begin q → Complete g → ⊥
no_begin q g e k =
    let c : Complete (begin q) = subst Complete e k in
    let bad : false ≡ true = sym (begun_goes q) ∙ ap may_end (sym c.1) ∙ c.2 in cc bad

abbrev Opens : Form → Type 0
Opens g = (s : Spot) (r : Rule) → Spotted g s → sort g ≡ Some r → (g ≡ begin r) ⊎ Opened g (λ w. begins_rule r w ≡ true)

token_first : (i : Item) (g : Form) → IsToken i g → Opened g (λ w. accepts i w ≡ true)
token_first i (leaf w) h = record { word = w; rest = []; spelled = refl; holds = h }
token_first i (begin r) h = absurd h
token_first i (f ▹ g) h = absurd h

fit_opens : (i : Item) (g : Form) → Opens g → Fits i g (Complete g) → Opened g (λ w. accepts i w ≡ true)
fit_opens (item.Word v) g k h = token_first (item.Word v) g h
fit_opens (item.Kind x) g k h = token_first (item.Kind x) g h
fit_opens (item.Part c) g k h =
    let q = is_some c (sort g) h.1 in
    ⊎_elim (λ e. absurd (no_begin q.0 g e h.0))
    (λ o. record { word = o.word; rest = o.rest; spelled = o.spelled; holds = class_begins c q.0 o.word q.2 o.holds })
    (k h.0.0 q.0 h.0.1 q.1)

begin_is : (f : Form) (r : Rule) (s : Spot) → f ≡ begin r → Spotted f s → s ≡ start r
begin_is f r s e h = subst (λ x. Spotted x s) e h

opens_all : (f : Form) → Opens f
opens_all (leaf w) s r h e = absurd h
opens_all (begin q) s r h e = inl (ap begin (same_Some q r e))
opens_all (f ▹ g) s r h e =
    let o = fit_opens h.item g (opens_all g) h.fits in
    inr (⊎_elim
    (λ b. record {
      word = o.word;
      rest = o.rest;
      spelled = ap (λ x. leaves x ++ leaves g) b ∙ o.spelled;
      holds = under r h.item s o.word (subst (λ x. Among h.item s (steps x)) (begin_is f r h.from b h.begun) h.allowed) o.holds;
    })
    (λ p. record { word = p.word; rest = p.rest ++ leaves g; spelled = ap (λ x. x ++ leaves g) p.spelled; holds = p.holds })
    (opens_all f h.from r h.begun e))

-- the first word of a part that fits
pub fit_first : (i : Item) (g : Form) → Fits i g (Complete g) → Opened g (λ w. accepts i w ≡ true)
fit_first i g h = fit_opens i g (opens_all g) h

-- the first word of a node
pub node_first : (f : Form) (r : Rule) → Complete f → sort f ≡ Some r → Opened f (λ w. begins_rule r w ≡ true)
node_first f r c e = ⊎_elim (λ b. absurd (no_begin r f b c)) (λ o. o) (opens_all f c.0 r c.1 e)

pub first_is : (f : Form) (P : Word → Type 0) (ts : List Word) (o : Opened f P) → first (leaves f ++ ts) ≡ o.word
first_is f P ts o = ap (λ ws. first (ws ++ ts)) o.spelled

rule_else : (r : Rule) → begins_rule r word.Else ≡ false
rule_else rule.Unit = refl
rule_else rule.Pragma = refl
rule_else rule.Declaration = refl
rule_else rule.Function = refl
rule_else rule.Specs = refl
rule_else rule.Struct = refl
rule_else rule.Member = refl
rule_else rule.Declr = refl
rule_else rule.Callee = refl
rule_else rule.Dinit = refl
rule_else rule.Initialisers = refl
rule_else rule.Params = refl
rule_else rule.Param = refl
rule_else rule.Block = refl
rule_else rule.Sub = refl
rule_else rule.Eval = refl
rule_else rule.Clause = refl
rule_else rule.If = refl
rule_else rule.While = refl
rule_else rule.Do = refl
rule_else rule.For = refl
rule_else rule.ForDeclaration = refl
rule_else rule.Step = refl
rule_else rule.Return = refl
rule_else rule.Break = refl
rule_else rule.Continue = refl
rule_else rule.Future = refl
rule_else rule.Place = refl
rule_else rule.Comma = refl
rule_else rule.Assign = refl
rule_else rule.Cond = refl
rule_else (rule.Binary level) = refl
rule_else rule.Cast = refl
rule_else rule.Unary = refl
rule_else rule.Postfix = refl
rule_else rule.Prim = refl

begins_else : (c : Class) → begins c word.Else ≡ false
begins_else (class.Node r) = rule_else r
begins_else class.Item = refl
begins_else class.BlockItem = refl
begins_else class.Stmt = refl
begins_else class.Init = refl
begins_else (class.At s) = refl

else_is : (w : Word) → is_else w ≡ true → w ≡ word.Else
else_is word.Else e = refl
else_is _ e = cc e

else_leaf : (i : Item) (g : Form) (o : Opened g (λ w. accepts i w ≡ true)) → Fits i g (Complete g) → is_else o.word ≡ true → is_leaf_else g ≡ true
else_leaf (item.Part c) g o h e =
    let bad : false ≡ true = sym (begins_else c) ∙ ap (begins c) (sym (else_is o.word e)) ∙ o.holds in cc bad
else_leaf (item.Word v) (leaf w) o h e = let q : w ≡ o.word = cc o.spelled in ap is_else q ∙ e
else_leaf (item.Word v) (begin r) o h e = absurd h
else_leaf (item.Word v) (f ▹ g) o h e = absurd h
else_leaf (item.Kind v) (leaf w) o h e = let q : w ≡ o.word = cc o.spelled in ap is_else q ∙ e
else_leaf (item.Kind v) (begin r) o h e = absurd h
else_leaf (item.Kind v) (f ▹ g) o h e = absurd h

by_else : (b a : Bool) → (b ≡ true → a ≡ false) → both a b ≡ false
by_else true true k = k refl
by_else true false k = refl
by_else false true k = refl
by_else false false k = refl

-- what is read of nodes --------------------------------------------------------------------------

abbrev pub Reading : Class → Form → Type 0
Reading c f = (gs : List Goal) (d : List Form) (ts : List Word) → goes c (first ts) ≡ false → Calm f (first ts) → Leads (St (goal.Read c ∷ gs) d (leaves f ++ ts)) (St gs (f ∷ d) ts)

-- where an operand may stand: as a cast or a unary expression, before operators down to a level, or where an assignment may
pub data Context : Type 0 where
  as_cast : Context
  as_unary : Context
  as_binary : Level → Context
  as_assignment : Use → Context

abbrev pub enter : Context → List Goal → List Goal
enter as_cast gs = goal.Operand ∷ gs
enter as_unary gs = goal.Unary ∷ gs
enter (as_binary l) gs = goal.Operand ∷ goal.Tail level_name.Product l ∷ gs
enter (as_assignment u) gs = goal.Assignment u ∷ gs

-- what is left to do behind a unary expression
abbrev pub behind : Context → List Goal → List Goal
behind as_cast gs = gs
behind as_unary gs = gs
behind (as_binary l) gs = goal.Tail level_name.Product l ∷ gs
behind (as_assignment u) gs = goal.AssignmentRest u ∷ gs

-- and behind a cast expression
abbrev pub operating : Context → List Goal → List Goal
operating as_cast gs = gs
operating as_unary gs = gs
operating (as_binary l) gs = goal.Tail level_name.Product l ∷ gs
operating (as_assignment u) gs = operators u ++ gs

-- the operators of a level and of looser ones may come
abbrev pub tails : Level → Context → List Goal → List Goal
tails k as_cast gs = gs
tails k as_unary gs = gs
tails k (as_binary l) gs = goal.Tail k l ∷ gs
tails k (as_assignment u) gs = goal.Tail k level_name.Or ∷ goal.CondRest ∷ open_still u ++ gs

abbrev pub Castable : Context → Type 0
Castable as_unary = ⊥
Castable _ = Unit {0}

abbrev pub Deep : Level → Context → Type 0
Deep k as_cast = ⊥
Deep k as_unary = ⊥
Deep k (as_binary l) = level_rank l ≤ level_rank k
Deep k (as_assignment u) = Unit {0}

-- no assignment operator comes, where one would be read
abbrev pub Unassigned : Context → Word → Type 0
Unassigned (as_assignment u) w = (pull w ≡ 2) → ⊥
Unassigned _ w = Unit {0}

abbrev pub AtBase : Form → Type 0
AtBase f = (x : Context) (gs : List Goal) (d : List Form) (ts : List Word) → Leads (St (enter x gs) d (leaves f ++ ts)) (St (goal.Suffix ∷ behind x gs) (f ∷ d) ts)

abbrev pub AtBehind : Form → Type 0
AtBehind f = (x : Context) (gs : List Goal) (d : List Form) (ts : List Word) → nat_lt 13 (pull (first ts)) ≡ false → Leads (St (enter x gs) d (leaves f ++ ts)) (St (behind x gs) (f ∷ d) ts)

abbrev pub AtOperating : Form → Type 0
AtOperating f = (x : Context) → Castable x → (gs : List Goal) (d : List Form) (ts : List Word) → Unassigned x (first ts) → nat_lt 13 (pull (first ts)) ≡ false → Leads (St (enter x gs) d (leaves f ++ ts)) (St (operating x gs) (f ∷ d) ts)

abbrev pub AtTails : Level → Form → Type 0
AtTails k f = (x : Context) → Deep k x → (gs : List Goal) (d : List Form) (ts : List Word) → Unassigned x (first ts) → nat_lt (level_rank k + 1) (pull (first ts)) ≡ false → Leads (St (enter x gs) d (leaves f ++ ts)) (St (tails k x gs) (f ∷ d) ts)

abbrev pub AtStill : Form → Type 0
AtStill f = (u : Use) (gs : List Goal) (d : List Form) (ts : List Word) → nat_lt 1 (pull (first ts)) ≡ false → Leads (St (goal.Assignment u ∷ gs) d (leaves f ++ ts)) (St (open_still u ++ gs) (f ∷ d) ts)

abbrev pub AtExpr : Form → Type 0
AtExpr f = (gs : List Goal) (d : List Form) (ts : List Word) → nat_lt 1 (pull (first ts)) ≡ false → Leads (St (goal.Assignment Plain ∷ goal.CommaRest ∷ gs) d (leaves f ++ ts)) (St (goal.CommaRest ∷ gs) (f ∷ d) ts)

-- an index behind `future NAME`, where no bound can be
abbrev pub AtIndex : Form → Type 0
AtIndex f = (gs : List Goal) (d : List Form) (ts : List Word) → nat_lt 1 (pull (first ts)) ≡ false → (Is (class.At strength.Cond) (sort f) → first ts ≡ word.Comma) → Leads (St (goal.Assignment Bracket ∷ gs) d (leaves f ++ ts)) (St (in_place ++ gs) (f ∷ d) ts)

-- from its beginning to its end
abbrev pub AtWhole : Form → Type 0
AtWhole f = (r : Rule) → is_plain r ≡ true → sort f ≡ Some r → (gs : List Goal) (d : List Form) (ts : List Word) → rule_goes r (first ts) ≡ false → Calm f (first ts) → Leads (St (goal.At (start r) ∷ gs) (begin r ∷ d) (leaves f ++ ts)) (St gs (f ∷ d) ts)

-- at file scope, behind specifiers
abbrev pub AtCallee : Form → Type 0
AtCallee f = (gs : List Goal) (p : Form) (d : List Form) (ts : List Word) → first ts ≡ word.Open → Leads (St (goal.ItemRest ∷ gs) (p ∷ d) (leaves f ++ ts)) (St (goal.At spot.FunctionParams ∷ gs) ((begin rule.Function ▹ p ▹ f) ∷ d) ts)

abbrev pub AtDeclr : Form → Type 0
AtDeclr f = (gs : List Goal) (p : Form) (d : List Form) (ts : List Word) → nat_lt 2 (pull (first ts)) ≡ false → Leads (St (goal.ItemDeclr ∷ gs) (begin rule.Declr ∷ p ∷ d) (leaves f ++ ts)) (St (goal.At spot.DinitSet ∷ goal.Join ∷ goal.At spot.DeclarationMore ∷ gs) ((begin rule.Dinit ▹ f) ∷ (begin rule.Declaration ▹ p) ∷ d) ts)

abbrev pub AtDinit : Form → Type 0
AtDinit f = (gs : List Goal) (p : Form) (d : List Form) (ts : List Word) → rule_goes rule.Dinit (first ts) ≡ false → Leads (St (goal.ItemRest ∷ gs) (p ∷ d) (leaves f ++ ts)) (St (goal.At spot.DeclarationMore ∷ gs) ((begin rule.Declaration ▹ p ▹ f) ∷ d) ts)

-- in a block, behind future
abbrev pub AtBounds : Form → Type 0
AtBounds f = first (leaves f) ≡ word.Name → (gs : List Goal) (d : List Form) (ts : List Word) → nat_lt 2 (pull (first ts)) ≡ false → Leads (St (goal.FutureName ∷ gs) (begin rule.Place ∷ future ∷ d) (leaves f ++ ts)) (St (goal.At spot.DinitSet ∷ goal.Join ∷ goal.At spot.DeclarationMore ∷ gs) ((begin rule.Dinit ▹ f) ∷ (begin rule.Declaration ▹ (begin rule.Specs ▹ leaf word.Future)) ∷ d) ts)

abbrev pub AtNamed : Form → Type 0
AtNamed f = first (leaves f) ≡ word.Name → (gs : List Goal) (d : List Form) (ts : List Word) → rule_goes rule.Dinit (first ts) ≡ false → Leads (St (goal.FutureNext ∷ gs) (future ∷ d) (leaves f ++ ts)) (St (goal.At spot.DeclarationMore ∷ gs) ((begin rule.Declaration ▹ (begin rule.Specs ▹ leaf word.Future) ▹ f) ∷ d) ts)

abbrev pub AtPlace : Form → Type 0
AtPlace f = (gs : List Goal) (d : List Form) (ts : List Word) → first ts ≡ word.Open → Leads (St (goal.FutureNext ∷ gs) (future ∷ d) (leaves f ++ ts)) (St (goal.At spot.FutureOpen ∷ gs) ((future ▹ f) ∷ d) ts)

-- specifiers behind future
pub record Later (f : Form) : Type 0 where
  pub words : List Word
  pub spelled : leaves f ≡ word.Future ∷ words
  pub run : (gs : List Goal) (d : List Form) (ts : List Word) → rule_goes rule.Specs (first ts) ≡ false → Leads (St (goal.At spot.SpecsMore ∷ gs) ((begin rule.Specs ▹ leaf word.Future) ∷ d) (words ++ ts)) (St gs (f ∷ d) ts)
  pub end : (f ≡ begin rule.Specs ▹ leaf word.Future) ⊎ ((w : Word) × (ws : List Word) × (words ≡ w ∷ ws) × (is_specifier w ≡ true))

pub record Known (f : Form) : Type 0 where
  pub read : (c : Class) → readable c ≡ true → Is c (sort f) → Reading c f
  pub base : Is (class.At strength.Postfix) (sort f) → AtBase f
  pub behind : Is (class.At strength.Unary) (sort f) → AtBehind f
  pub operating : Is (class.At strength.Cast) (sort f) → AtOperating f
  pub tails : (k : Level) → Is (class.At (strength.Binary k)) (sort f) → AtTails k f
  pub still : Is (class.At strength.Cond) (sort f) → AtStill f
  pub expr : Is (class.At strength.Expr) (sort f) → AtExpr f
  pub index : Is (class.At strength.Expr) (sort f) → AtIndex f
  pub whole : AtWhole f
  pub callee : sort f ≡ Some rule.Callee → AtCallee f
  pub declr : sort f ≡ Some rule.Declr → AtDeclr f
  pub dinit : sort f ≡ Some rule.Dinit → AtDinit f
  pub bounds : sort f ≡ Some rule.Declr → AtBounds f
  pub named : sort f ≡ Some rule.Dinit → AtNamed f
  pub place : sort f ≡ Some rule.Place → AtPlace f
  pub later : sort f ≡ Some rule.Specs → first (leaves f) ≡ word.Future → Later f

abbrev pub KnownIf : Form → Type 0
KnownIf f = Complete f → Known f

-- all parts are known
abbrev pub Parts : Form → Type 0
Parts (leaf w) = Unit {0}
Parts (begin r) = Unit {0}
Parts (p ▹ g) = Parts p × KnownIf g

-- part by part -----------------------------------------------------------------------------------

-- the form is b with more parts, of these words
pub data Ext (b : Form) : Form → List Word → Type 0 where
  same : Ext b b []
  more : {p : Form} {ws : List Word} (g : Form) → Ext b p ws → Ext b (p ▹ g) (ws ++ leaves g)

pub from_begin : (f : Form) (r : Rule) (s : Spot) → Spotted f s → sort f ≡ Some r → Ext (begin r) f (leaves f)
from_begin (leaf w) r s h e = absurd h
from_begin (begin q) r s h e = subst (λ x. Ext (begin x) (begin q) []) (same_Some q r e) same
from_begin (p ▹ g) r s h e = more g (from_begin p r h.from h.begun e)

-- the first part behind b
pub record Peeled (b f : Form) (ws : List Word) : Type 0 where
  pub part : Form
  pub words : List Word
  pub ext : Ext (b ▹ part) f words
  pub spelled : ws ≡ leaves part ++ words
  pub known : KnownIf part

abbrev pub size : Form → ℕ
size (leaf w) = 0
size (begin r) = 0
size (f ▹ g) = size f + 1

pub ext_size : (b f : Form) (ws : List Word) → Ext b f ws → size b ≤ size f
ext_size b _ _ same = omega arith
ext_size b _ _ (more {p = p} {ws = ws} g e) = omega (arith, ext_size b p ws e)

pub nothing_more : (b f : Form) (ws : List Word) → Ext b f ws → b ≡ f → ws ≡ []
nothing_more b _ _ same q = refl
nothing_more b _ _ (more {p = p} {ws = ws} g e) q = absurd (omega (arith, ext_size b p ws e, ap size q))

peel_one : (b p g : Form) (ws : List Word) → Ext b p ws → KnownIf g → b ≡ p → Peeled b (p ▹ g) (ws ++ leaves g)
peel_one b p g ws e k q = record {
  part = g;
  words = [];
  ext = subst (λ x. Ext (x ▹ g) (p ▹ g) []) (sym q) same;
  spelled = ap (λ x. x ++ leaves g) (nothing_more b p ws e q) ∙ sym (append-nil (leaves g));
  known = k;
}

pub peel : (b f : Form) (ws : List Word) → Ext b f ws → Parts f → (b ≡ f) ⊎ Peeled b f ws
peel b _ _ same k = inl refl
peel b _ _ (more {p = p} {ws = ws} g e) k = ⊎_elim
    (λ q. inr (peel_one b p g ws e k.1 q))
    (λ r. inr (record { part = r.part; words = r.words ++ leaves g; ext = more g r.ext; spelled = ap (λ x. x ++ leaves g) r.spelled ∙ append_assoc (leaves r.part) r.words (leaves g); known = r.known }))
    (peel b p ws e k.0)

-- the place of b within
pub place_of : (b f : Form) (ws : List Word) (s : Spot) → Ext b f ws → Spotted f s → (t : Spot) × Spotted b t
place_of b _ _ s same h = (s, h)
place_of b _ _ s (more {p = p} {ws = ws} g e) h = place_of b p ws h.from e h.begun

abbrev pub Ready : Item → Form → Word → Type 0
Ready (item.Part c) g w = (goes c w ≡ false) × Calm g w
Ready (item.Word v) g w = Unit {0}
Ready (item.Kind k) g w = Unit {0}

pub token_step : (i : Item) (p g : Form) (s t : Spot) (gs : List Goal) (d : List Form) (ts : List Word) → IsToken i g
    → ((w : Word) → accepts i w ≡ true → Leads (St (goal.At s ∷ gs) (p ∷ d) (w ∷ ts)) (St (goal.At t ∷ gs) ((p ▹ leaf w) ∷ d) ts))
    → Leads (St (goal.At s ∷ gs) (p ∷ d) (leaves g ++ ts)) (St (goal.At t ∷ gs) ((p ▹ g) ∷ d) ts)
token_step i p (leaf w) s t gs d ts h k = k w h
token_step i p (begin r) s t gs d ts h k = absurd h
token_step i p (f ▹ g) s t gs d ts h k = absurd h

pub step_part : (i : Item) (p g : Form) (s t : Spot) (gs : List Goal) (d : List Form) (ts : List Word) → is_left s ≡ false → Among i t (steps s) → Fits i g (Complete g) → KnownIf g → Ready i g (first ts)
    → Leads (St (goal.At s ∷ gs) (p ∷ d) (leaves g ++ ts)) (St (goal.At t ∷ gs) ((p ▹ g) ∷ d) ts)
step_part (item.Word v) p g s t gs d ts e m h k r = token_step (item.Word v) p g s t gs d ts h (λ w a. at_word gs p d s t v w ts m a)
step_part (item.Kind x) p g s t gs d ts e m h k r = token_step (item.Kind x) p g s t gs d ts h (λ w a. at_kind gs p d s t x w ts m a)
step_part (item.Part c) p g s t gs d ts e m h k r =
    let o = fit_first (item.Part c) g h in
    join (at_part gs p d s t c (leaves g ++ ts) m (ap (begins c) (first_is g _ ts o) ∙ o.holds))
    (join ((k h.0).read c (reads s c t e m) h.1 (goal.Join ∷ goal.At t ∷ gs) (p ∷ d) ts r.0 r.1) (on refl here))

-- an item comes next
pub record Next (p : Form) (s : Spot) (w : Word) : Type 0 where
  pub item : Item
  pub to : Spot
  pub allowed : Among item to (steps s)
  pub accepted : accepts item w ≡ true
  pub calm : both (last_is_open p) (is_else w) ≡ false

pub next_of : (p g : Form) (s : Spot) (h : Spotted (p ▹ g) s) (ts : List Word) → Next p h.from (first (leaves g ++ ts))
next_of p g s h ts =
    let o = fit_first h.item g h.fits in
    let e = first_is g _ ts o in
    record {
      item = h.item;
      to = s;
      allowed = h.allowed;
      accepted = ap (accepts h.item) e ∙ o.holds;
      calm = ap (λ w. both (last_is_open p) (is_else w)) e ∙ by_else (is_else o.word) (last_is_open p) (λ x. h.nearest (else_leaf h.item g o h.fits x));
    }

ready_next : (i : Item) (p g : Form) (s t : Spot) (w : Word) → is_left s ≡ false → Among i t (steps s) → Next (p ▹ g) t w → Ready i g w
ready_next (item.Part c) p g s t w e m n = (clear s c t n.item n.to w e m n.allowed n.accepted, n.calm)
ready_next (item.Word v) p g s t w e m n = tt
ready_next (item.Kind k) p g s t w e m n = tt

not_left : (b f : Form) (ws : List Word) (s : Spot) → ((t : Spot) → Spotted b t → is_left t ≡ false) → Ext b f ws → Spotted f s → is_left s ≡ false
not_left b _ _ s k same h = k s h
not_left b _ _ s k (more {p = p} {ws = ws} g e) h = no_left h.from h.item s h.allowed

-- the run from b up to a beginning of a node, behind which an item comes
pub run_next : (b f : Form) (ws : List Word) (s : Spot) → ((t : Spot) → Spotted b t → is_left t ≡ false) → Ext b f ws → (h : Spotted f s) → Parts f → (gs : List Goal) (d : List Form) (ts : List Word) → Next f s (first ts)
    → (t : Spot) × Spotted b t × Leads (St (goal.At t ∷ gs) (b ∷ d) (ws ++ ts)) (St (goal.At s ∷ gs) (f ∷ d) ts)
run_next b _ _ s k same h q gs d ts n = (s, h, here)
run_next b _ _ s k (more {p = p} {ws = ws} g e) h q gs d ts n =
    let r = run_next b p ws h.from k e h.begun q.0 gs d (leaves g ++ ts) (next_of p g s h ts) in
    let l = not_left b p ws h.from k e h.begun in
    (r.0, r.1, respell (append_assoc ws (leaves g) ts) (join r.2 (step_part h.item p g h.from s gs d ts l h.allowed h.fits q.1 (ready_next h.item p g h.from s (first ts) l h.allowed n))))

-- ends -------------------------------------------------------------------------------------------

-- a node of the class is not open
abbrev shut : Class → Bool
shut (class.Node r) = not (is_loose r)
shut (class.At s) = true
shut class.Init = true
shut class.Item = true
shut _ = false

abbrev ShutItem : Spot → Item → Spot → Type 0
ShutItem s (item.Part c) t = (r : Rule) → home s ≡ Some r → may_end t ≡ true → (is_loose r ≡ true) ⊎ (shut c ≡ true)
ShutItem s (item.Word v) t = Unit {0}
ShutItem s (item.Kind k) t = Unit {0}

abbrev AllShut : Spot → List (Item × Spot) → Type 0
AllShut s [] = Unit {0}
AllShut s (t ∷ ts) = ShutItem s t.0 t.1 × AllShut s ts

shuts : (s : Spot) → AllShut s (steps s)
shuts spot.Done = tt
shuts spot.Ending = (tt, tt)
shuts spot.Closing = (tt, tt)
shuts spot.Clause = ((λ r e m. cc m), (tt, tt))
shuts spot.Unit = ((λ r e m. inr refl), tt)
shuts spot.UnitMore = ((λ r e m. inr refl), tt)
shuts spot.Pragma = (tt, tt)
shuts spot.Declaration = ((λ r e m. cc m), tt)
shuts spot.DeclarationFirst = ((λ r e m. cc m), (tt, tt))
shuts spot.DeclarationMore = (tt, (tt, tt))
shuts spot.DeclarationNext = ((λ r e m. cc m), tt)
shuts spot.Function = ((λ r e m. cc m), tt)
shuts spot.FunctionCallee = ((λ r e m. cc m), tt)
shuts spot.FunctionParams = ((λ r e m. cc m), tt)
shuts spot.FunctionBody = (tt, ((λ r e m. inr refl), tt))
shuts spot.Specs = (tt, ((λ r e m. inr refl), tt))
shuts spot.SpecsMore = (tt, ((λ r e m. inr refl), tt))
shuts spot.Struct = (tt, tt)
shuts spot.StructName = (tt, tt)
shuts spot.StructBody = (tt, tt)
shuts spot.StructFirst = ((λ r e m. cc m), tt)
shuts spot.StructMore = ((λ r e m. cc m), (tt, tt))
shuts spot.Member = ((λ r e m. cc m), tt)
shuts spot.MemberNext = ((λ r e m. cc m), tt)
shuts spot.MemberMore = (tt, (tt, tt))
shuts spot.Declr = (tt, (tt, tt))
shuts spot.DeclrStars = (tt, (tt, (tt, tt)))
shuts spot.DeclrBounds = (tt, tt)
shuts spot.DeclrBound = ((λ r e m. cc m), tt)
shuts spot.DeclrClose = (tt, tt)
shuts spot.Callee = (tt, (tt, tt))
shuts spot.CalleeStars = (tt, (tt, (tt, tt)))
shuts spot.Dinit = ((λ r e m. inr refl), tt)
shuts spot.DinitSet = (tt, tt)
shuts spot.DinitInit = ((λ r e m. inr refl), tt)
shuts spot.Initialisers = (tt, tt)
shuts spot.InitialisersFirst = ((λ r e m. cc m), tt)
shuts spot.InitialisersMore = (tt, (tt, tt))
shuts spot.InitialisersNext = ((λ r e m. cc m), (tt, tt))
shuts spot.Params = (tt, tt)
shuts spot.ParamsFirst = ((λ r e m. cc m), (tt, tt))
shuts spot.ParamsMore = (tt, (tt, tt))
shuts spot.ParamsNext = ((λ r e m. cc m), tt)
shuts spot.Param = ((λ r e m. inr refl), tt)
shuts spot.ParamDeclr = (tt, (tt, (tt, tt)))
shuts spot.ParamStars = (tt, (tt, (tt, (tt, tt))))
shuts spot.ParamFirst = (tt, tt)
shuts spot.ParamBound = ((λ r e m. cc m), (tt, tt))
shuts spot.ParamClose = (tt, tt)
shuts spot.ParamMore = (tt, tt)
shuts spot.ParamNext = ((λ r e m. cc m), tt)
shuts spot.Block = (tt, tt)
shuts spot.BlockMore = ((λ r e m. cc m), (tt, tt))
shuts spot.Sub = ((λ r e m. cc m), ((λ r e m. inl (ap is_loose (sym (same_Some rule.Sub r e)))), tt))
shuts spot.If = (tt, tt)
shuts spot.IfOpen = (tt, tt)
shuts spot.IfTest = ((λ r e m. cc m), tt)
shuts spot.IfClose = (tt, tt)
shuts spot.IfThen = ((λ r e m. inl (ap is_loose (sym (same_Some rule.If r e)))), tt)
shuts spot.IfElse = (tt, tt)
shuts spot.IfOther = ((λ r e m. inl (ap is_loose (sym (same_Some rule.If r e)))), tt)
shuts spot.While = (tt, tt)
shuts spot.WhileOpen = (tt, tt)
shuts spot.WhileTest = ((λ r e m. cc m), tt)
shuts spot.WhileClose = (tt, tt)
shuts spot.WhileBody = ((λ r e m. inl (ap is_loose (sym (same_Some rule.While r e)))), tt)
shuts spot.Do = (tt, tt)
shuts spot.DoBody = ((λ r e m. cc m), tt)
shuts spot.DoWhile = (tt, tt)
shuts spot.DoOpen = (tt, tt)
shuts spot.DoTest = ((λ r e m. cc m), tt)
shuts spot.DoClose = (tt, tt)
shuts spot.For = (tt, tt)
shuts spot.ForOpen = (tt, tt)
shuts spot.ForFirst = ((λ r e m. cc m), ((λ r e m. cc m), tt))
shuts spot.ForSecond = ((λ r e m. cc m), tt)
shuts spot.ForThird = ((λ r e m. cc m), tt)
shuts spot.ForBody = ((λ r e m. inl (ap is_loose (sym (same_Some rule.For r e)))), tt)
shuts spot.ForDeclaration = ((λ r e m. cc m), tt)
shuts spot.ForDeclarationNext = ((λ r e m. cc m), tt)
shuts spot.ForDeclarationMore = (tt, (tt, tt))
shuts spot.Step = ((λ r e m. cc m), (tt, tt))
shuts spot.Return = (tt, tt)
shuts spot.Break = (tt, tt)
shuts spot.Continue = (tt, tt)
shuts spot.Future = (tt, tt)
shuts spot.FuturePlace = ((λ r e m. cc m), tt)
shuts spot.FutureOpen = (tt, tt)
shuts spot.FutureFirst = (tt, (tt, tt))
shuts spot.FutureMore = (tt, (tt, tt))
shuts spot.FutureNext = (tt, tt)
shuts spot.FutureBody = ((λ r e m. inr refl), tt)
shuts spot.Place = (tt, tt)
shuts spot.PlaceMore = (tt, (tt, tt))
shuts spot.PlaceIndex = ((λ r e m. cc m), tt)
shuts spot.PlaceClose = (tt, tt)
shuts spot.PlaceMember = (tt, tt)
shuts spot.Comma = ((λ r e m. cc m), tt)
shuts spot.CommaOp = (tt, tt)
shuts spot.CommaRight = ((λ r e m. inr refl), tt)
shuts spot.Assign = ((λ r e m. cc m), tt)
shuts spot.AssignOp = (tt, tt)
shuts spot.AssignRight = ((λ r e m. inr refl), tt)
shuts spot.Cond = ((λ r e m. cc m), tt)
shuts spot.CondQuestion = (tt, tt)
shuts spot.CondThen = ((λ r e m. cc m), tt)
shuts spot.CondColon = (tt, tt)
shuts spot.CondOther = ((λ r e m. inr refl), tt)
shuts (spot.Binary level) = ((λ r e m. cc m), tt)
shuts (spot.BinaryOp level) = (tt, tt)
shuts (spot.BinaryRight level) = ((λ r e m. inr refl), tt)
shuts spot.Cast = (tt, tt)
shuts spot.CastSpecs = ((λ r e m. cc m), tt)
shuts spot.CastAfter = (tt, (tt, tt))
shuts spot.CastStars = (tt, (tt, (tt, tt)))
shuts spot.CastOperand = ((λ r e m. inr refl), tt)
shuts spot.Unary = (tt, (tt, tt))
shuts spot.UnaryStep = ((λ r e m. inr refl), tt)
shuts spot.UnaryOperand = ((λ r e m. inr refl), tt)
shuts spot.Postfix = ((λ r e m. cc m), tt)
shuts spot.PostfixOp = (tt, (tt, (tt, (tt, tt))))
shuts spot.PostfixIndex = ((λ r e m. cc m), tt)
shuts spot.PostfixClose = (tt, tt)
shuts spot.PostfixFirst = ((λ r e m. cc m), (tt, tt))
shuts spot.PostfixMore = (tt, (tt, tt))
shuts spot.PostfixNext = ((λ r e m. cc m), tt)
shuts spot.PostfixMember = (tt, tt)
shuts spot.Prim = (tt, (tt, (tt, tt)))
shuts spot.PrimInner = ((λ r e m. cc m), tt)

shut_among : (s : Spot) (i : Item) (t : Spot) (ts : List (Item × Spot)) → AllShut s ts → Among i t ts → ShutItem s i t
shut_among s i t [] a m = absurd m
shut_among s i t (x ∷ ts) a m = ⊎_elim
    (λ k. subst (λ j. ShutItem s j t) k.0 (subst (λ y. ShutItem s x.0 y) k.1 a.0))
    (λ k. shut_among s i t ts a.1 k) m

item_closed : (r : Rule) → InClass class.Item r → is_loose r ≡ false
item_closed rule.If e = cc e
item_closed rule.While e = cc e
item_closed rule.For e = cc e
item_closed rule.Sub e = cc e
item_closed _ e = refl

not_true : (b : Bool) → not b ≡ true → b ≡ false
not_true true h = cc h
not_true false h = refl

shut_closed : (c : Class) (g : Form) → shut c ≡ true → Is c (sort g) → is_open g ≡ false
shut_closed (class.Node r) g h i = let q = is_some (class.Node r) (sort g) i in sort_closed q.0 g q.1 (ap is_loose q.2 ∙ not_true (is_loose r) h)
shut_closed (class.At s) g h i = strong_closed s g i
shut_closed class.Init g h i =
    let q = is_some class.Init (sort g) i in
    ⊎_elim (λ e. sort_closed q.0 g q.1 (ap is_loose e)) (λ a. strong_closed strength.Assign g (subst (λ o. Is (class.At strength.Assign) o) (sym q.1) a)) q.2
shut_closed class.Item g h i = let q = is_some class.Item (sort g) i in sort_closed q.0 g q.1 (item_closed q.0 q.2)
shut_closed class.BlockItem g h i = cc h
shut_closed class.Stmt g h i = cc h

opens_loose : (r : Rule) (a b : Bool) → is_loose r ≡ true → opens (Some r) a b ≡ false → b ≡ false
opens_loose rule.If true b l h = h
opens_loose rule.If false b l h = cc h
opens_loose rule.While a b l h = h
opens_loose rule.For a b l h = h
opens_loose rule.Sub a b l h = h
opens_loose _ a b l h = cc l

calm_else : (a : Bool) (b : Bool) → both a b ≡ false → b ≡ true → a ≡ false
calm_else true b h e = let bad : true ≡ false = sym e ∙ h in cc bad
calm_else false b h e = refl

-- the last part is calm where the node is
last_calm : (c : Class) (p g : Form) (s t : Spot) (r : Rule) (w : Word) → Among (item.Part c) t (steps s) → home s ≡ Some r → may_end t ≡ true → Is c (sort g) → sort p ≡ Some r → Calm (p ▹ g) w → Calm g w
last_calm c p g s t r w m e k i q h = by_else (is_else w) (is_open g) (λ x. ⊎_elim
    (λ l. opens_loose r (ends_in_else p) (is_open g) l (ap (λ o. opens o (ends_in_else p) (is_open g)) (sym q) ∙ calm_else (is_open (p ▹ g)) (is_else w) h x))
    (λ l. shut_closed c g l i)
    (shut_among s (item.Part c) t (steps s) (shuts s) m r e k))

-- an if without else is open
to_if_else : (s : Spot) (i : Item) → if_spot s ≡ true → Among i spot.IfElse (steps s) → s ≡ spot.IfThen
to_if_else spot.If i e m = ⊎_elim (λ h. let bad : spot.IfOpen ≡ spot.IfElse = h.1 in cc bad) (λ h. absurd h) m
to_if_else spot.IfOpen i e m = ⊎_elim (λ h. let bad : spot.IfTest ≡ spot.IfElse = h.1 in cc bad) (λ h. absurd h) m
to_if_else spot.IfTest i e m = ⊎_elim (λ h. let bad : spot.IfClose ≡ spot.IfElse = h.1 in cc bad) (λ h. absurd h) m
to_if_else spot.IfClose i e m = ⊎_elim (λ h. let bad : spot.IfThen ≡ spot.IfElse = h.1 in cc bad) (λ h. absurd h) m
to_if_else spot.IfThen i e m = refl
to_if_else spot.IfElse i e m = ⊎_elim (λ h. let bad : spot.IfOther ≡ spot.IfElse = h.1 in cc bad) (λ h. absurd h) m
to_if_else spot.IfOther i e m = ⊎_elim (λ h. let bad : spot.Done ≡ spot.IfElse = h.1 in cc bad) (λ h. absurd h) m
to_if_else spot.Done i e m = absurd m
to_if_else _ i e m = cc e

to_then : (s : Spot) (i : Item) → if_spot s ≡ true → Among i spot.IfThen (steps s) → item.Word word.Close ≡ i
to_then spot.If i e m = ⊎_elim (λ h. let bad : spot.IfOpen ≡ spot.IfThen = h.1 in cc bad) (λ h. absurd h) m
to_then spot.IfOpen i e m = ⊎_elim (λ h. let bad : spot.IfTest ≡ spot.IfThen = h.1 in cc bad) (λ h. absurd h) m
to_then spot.IfTest i e m = ⊎_elim (λ h. let bad : spot.IfClose ≡ spot.IfThen = h.1 in cc bad) (λ h. absurd h) m
to_then spot.IfClose i e m = ⊎_elim (λ h. h.0) (λ h. absurd h) m
to_then spot.IfThen i e m = ⊎_elim (λ h. let bad : spot.IfElse ≡ spot.IfThen = h.1 in cc bad) (λ h. absurd h) m
to_then spot.IfElse i e m = ⊎_elim (λ h. let bad : spot.IfOther ≡ spot.IfThen = h.1 in cc bad) (λ h. absurd h) m
to_then spot.IfOther i e m = ⊎_elim (λ h. let bad : spot.Done ≡ spot.IfThen = h.1 in cc bad) (λ h. absurd h) m
to_then spot.Done i e m = absurd m
to_then _ i e m = cc e

close_token : (g : Form) → IsToken (item.Word word.Close) g → is_leaf_else g ≡ false
close_token (leaf w) h = ap is_else (same_word word.Close w refl h)
close_token (begin r) h = refl
close_token (f ▹ g) h = refl

at_then : (p : Form) → Spotted p spot.IfThen → ends_in_else p ≡ false
at_then (leaf w) h = absurd h
at_then (begin r) h = refl
at_then (p ▹ g) h =
    let q = at_home (p ▹ g) spot.IfThen rule.If h refl in
    let i = to_then h.from h.item (if_path p h.from q h.begun) h.allowed in
    close_token g (subst (λ x. Fits x g (Complete g)) (sym i) h.fits)

if_open : (f : Form) → Spotted f spot.IfElse → is_open f ≡ true
if_open (leaf w) h = absurd h
if_open (begin r) h = let bad : false ≡ true = sym (begun_goes r) ∙ ap may_end (sym h) in cc bad
if_open (p ▹ g) h =
    let q = at_home (p ▹ g) spot.IfElse rule.If h refl in
    let t : Spotted p spot.IfThen = subst (λ x. Spotted p x) (to_if_else h.from h.item (if_path p h.from q h.begun) h.allowed) h.begun in
    ap (λ o. opens o (ends_in_else p) (is_open g)) q ∙ ap (λ b. opens (Some rule.If) b (is_open g)) (at_then p t)

no_else_then : (f : Form) (s : Spot) (w : Word) → Spotted f s → Calm f w → s ≡ spot.IfElse → is_else w ≡ false
no_else_then f s w h c e = ap (λ b. both b (is_else w)) (sym (if_open f (subst (λ x. Spotted f x) e h))) ∙ c

ready_last : (i : Item) (p g : Form) (s t : Spot) (r : Rule) (w : Word) → Spotted p s → Among i t (steps s) → may_end t ≡ true → Fits i g (Complete g) → sort p ≡ Some r → rule_goes r w ≡ false → Calm (p ▹ g) w → Ready i g w
ready_last (item.Word v) p g s t r w h m k f q n c = tt
ready_last (item.Kind v) p g s t r w h m k f q n c = tt
ready_last (item.Part x) p g s t r w h m k f q n c =
    let y = has_home s x t m k in
    let z : y.0 ≡ r = same_Some y.0 r (sym (at_home p s y.0 h y.1) ∙ q) in
    let e : home s ≡ Some r = y.1 ∙ ap Some z in
    (covers s x t r w m e k n, last_calm x p g s t r w m e k f.1 q c)

-- the run from b up to the end of the node
pub run_end : (b f : Form) (ws : List Word) (s : Spot) (r : Rule) → ((t : Spot) → Spotted b t → is_left t ≡ false) → Ext b f ws → (h : Spotted f s) → may_end s ≡ true → sort f ≡ Some r → Parts f → (gs : List Goal) (d : List Form) (ts : List Word) → rule_goes r (first ts) ≡ false → Calm f (first ts)
    → (t : Spot) × Spotted b t × Leads (St (goal.At t ∷ gs) (b ∷ d) (ws ++ ts)) (St gs (f ∷ d) ts)
run_end b _ _ s r k same h m e q gs d ts n c = (s, h, at_end gs (b ∷ d) s ts m (ends_at s r b (first ts) h e m n (no_else_then b s (first ts) h c)))
run_end b _ _ s r k (more {p = p} {ws = ws} g x) h m e q gs d ts n c =
    let a = run_next b p ws h.from k x h.begun q.0 gs d (leaves g ++ ts) (next_of p g s h ts) in
    let l = not_left b p ws h.from k x h.begun in (
      a.0,
      a.1,
      respell (append_assoc ws (leaves g) ts)
          (join a.2
          (join (step_part h.item p g h.from s gs d ts l h.allowed h.fits q.1 (ready_last h.item p g h.from s r (first ts) h.begun h.allowed m h.fits e n c))
          (at_end gs ((p ▹ g) ∷ d) s ts m (ends_at s r (p ▹ g) (first ts) h e m n (no_else_then (p ▹ g) s (first ts) h c))))),
    )
