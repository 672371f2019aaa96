-- Places of a function: within blocks, behind them, and where pragmas and loops are.
use Rattle.std.proofs.Common.{◌≡◌, ℕ, zero, suc, ◌+◌, ◌-◌, ◌≤◌, List, [], ◌∷◌, ◌++◌, length, map, false, refl, sym, ap, ◌∙◌, subst, arith, take}
use Rattle.std.specs.Prelude.{Option, Some, option_map, slice_get}
use Rattle.std.proofs.lemmas.List.{length-take-le}
use Rattle.xc_text_place.specs.declared.Span.{Span}
use Rattle.xc_tree.specs.declared.ty.Ty.{Ty}
use Rattle.xc_type_names.specs.Scoped.{found_in, entered, left, has_none}
use Rattle.xc_tree.specs.Typed.{Context}
use Rattle.xc_type_structs.specs.declared.structs.Structs.{Structs}
use Rattle.xc_type_scopes.specs.declared.env.Env.{Env}
use Rattle.xc_type_scopes.specs.Env as env
use Rattle.xc_type_expressions.specs.declared.text.Text.{Text}
use Rattle.xc_type_statement_parts.specs.declared.answer.Answer.{Answer}
use Rattle.xc_welltyped_claims.specs.Lists.{StartsWith}
use Rattle.xc_welltyped_claims.specs.Table.{struct_tys}
use Rattle.xc_welltyped_claims.specs.Things.{OwnThing, IsTag, SeenThing, InScopes}
use Rattle.xc_welltyped_claims.specs.Env.{AreComplete, Good, Ready, Extends, Into, Covers, object_of}
use Rattle.xc_welltyped_claims.specs.Judges.{Made}
use Rattle.xc_welltyped_claims.proofs.Lists.{starts_self, starts_get, set_self}
use Rattle.xc_welltyped_claims.proofs.Things.{in_entered, in_left, left_entered}
use Rattle.xc_welltyped_claims.proofs.Env.{grows_self, extends_then}
use Rattle.xc_welltyped_statements.specs.Stmts.{AnswerFine}
use Rattle.xc_welltyped_statements.proofs.Fresh.{same_most}

-- the same programs --------------------------------------------------------------

-- a program has what stands at a place with the same names at file scope, structs and objects
pub into_as : (t : Text) (cx : Context) (e e' : Env) → e.file ≡ e'.file → e.structs ≡ e'.structs → e.locals ≡ e'.locals → Into t cx e → Into t cx e'
into_as t cx e e' p q r i = record {
  shapes = i.shapes;
  structs = subst (λ (s : Structs). StartsWith (struct_tys s.members) cx.structs) q i.structs;
  complete = subst (λ (s : Structs). AreComplete s.sizes) q i.complete;
  things = λ name x h. i.things name x (subst (λ f. found_in name f ≡ Some x) (sym p) h);
  locals = subst (λ l. StartsWith (map object_of l) cx.locals) r i.locals;
  formats = i.formats;
  few = i.few;
}

pub answer_as : (t : Text) (a : Answer) (e e' : Env) → e'.file ≡ e.file → e'.structs ≡ e.structs → e'.locals ≡ e.locals → AnswerFine t e a → AnswerFine t e' a
answer_as t a e e' p q r h so x = h so (record {
  into = into_as t so.cx e' e p q r x.into;
  shapes = subst (λ (s : Structs). so.shapes ≡ take (length s.sizes) so.cx.shapes) q x.shapes;
})

-- pragmas and loops -------------------------------------------------------------

-- with other pragmas before what comes next, and other counts
abbrev pub noted : ℕ → List Span → List Span → Option ℕ → Env → Env
noted loops before notes over e = record e { loops = loops; before = before; notes = notes; over = over }

module _ (loops : ℕ) (before notes : List Span) (over : Option ℕ) (e : Env) where
  pub good_noted : Good e → Good (noted loops before notes over e)
  good_noted g = record { table = g.table; layout = g.layout; file = g.file; own = g.own; file_tags = g.file_tags; own_tags = g.own_tags; locals = g.locals; marks = record { many = g.marks.many; marked = g.marks.marked } }

  pub ready_noted : Ready e → Ready (noted loops before notes over e)
  ready_noted r = record { good = good_noted r.good; complete = r.complete; within = r.within }

  pub extends_noted : e.loops ≤ loops → Extends e (noted loops before notes over e)
  extends_noted le = record {
    file = λ name x h. h;
    own = refl;
    scopes = refl;
    own_tags = refl;
    structs = grows_self e.structs;
    locals = starts_self e.locals;
    addressed = set_self e.addressed;
    loops = le;
  }

-- where the pragmas before are passed
pub ready_past : (e : Env) → Ready e → Ready (env.past_pragmas e)
ready_past e r = ready_noted e.loops [] (e.notes ++ e.before) e.over e r

pub extends_past : (e : Env) → Extends e (env.past_pragmas e)
extends_past e = extends_noted e.loops [] (e.notes ++ e.before) e.over e (same_most e.loops)

pub answer_past : (t : Text) (a : Answer) (e : Env) → AnswerFine t e a → AnswerFine t (env.past_pragmas e) a
answer_past t a e = answer_as t a e (env.past_pragmas e) refl refl refl

pub made_past : (e e' : Env) (Q : Type 0) → Made (env.past_pragmas e) e' Q → Made e e' Q
made_past e e' Q m = record {
  ready = m.ready;
  extends = extends_then e (env.past_pragmas e) e' (extends_past e) m.extends;
  file = m.file;
  holds = m.holds;
}

-- blocks ------------------------------------------------------------------------

length_entered : {T : Type 0} (ss : List (List (ℕ × T))) → length (entered ss) ≡ length ss + 1
length_entered [] = omega arith
length_entered (s ∷ ss) = let more = length_entered ss in omega (arith, more)

some_entered : {T : Type 0} (ss : List (List (ℕ × T))) → has_none (entered ss) ≡ false
some_entered [] = refl
some_entered (s ∷ ss) = refl

length_left : {T : Type 0} (ss : List (List (ℕ × T))) → length (left ss) ≡ length ss - 1
length_left ss = length-take-le (length ss - 1) ss (omega arith)

pub good_inside : (e : Env) → Good e → Good (env.inside e)
good_inside e g = record {
  table = g.table;
  layout = g.layout;
  file = g.file;
  own = in_entered (OwnThing e.locals) e.own g.own;
  file_tags = g.file_tags;
  own_tags = in_entered (IsTag e.structs.sizes) e.own_tags g.own_tags;
  locals = g.locals;
  marks = g.marks;
}

pub ready_inside : (e : Env) → Ready e → Ready (env.inside e)
ready_inside e r = record { good = good_inside e r.good; complete = r.complete; within = some_entered e.own }

pub answer_inside : (t : Text) (a : Answer) (e : Env) → AnswerFine t e a → AnswerFine t (env.inside e) a
answer_inside t a e = answer_as t a e (env.inside e) refl refl refl

pub covers_inside : (seen : List ℕ) (e : Env) → Covers seen e → Covers seen (env.inside e)
covers_inside seen e c = in_entered (SeenThing seen) e.own c

module _ (e e' : Env) (s : Extends (env.inside e) e') where
  -- the scope is left
  pub own_behind : left e'.own ≡ e.own
  own_behind = s.own ∙ left_entered e.own

  tags_behind : length (left e'.own_tags) ≡ length e.own_tags
  tags_behind =
      let all : length e'.own_tags ≡ length e.own_tags + 1 = s.own_tags ∙ length_entered e.own_tags in
      let few = length_left e'.own_tags in
      omega (arith, all, few)

  pub extends_block : Extends e (env.outside e')
  extends_block = record {
    file = s.file;
    own = ap left own_behind;
    scopes = ap length own_behind;
    own_tags = tags_behind;
    structs = s.structs;
    locals = s.locals;
    addressed = s.addressed;
    loops = s.loops;
  }

  good_behind : Good e' → Good (env.outside e')
  good_behind g = record {
    table = g.table;
    layout = g.layout;
    file = g.file;
    own = in_left (OwnThing e'.locals) e'.own g.own;
    file_tags = g.file_tags;
    own_tags = in_left (IsTag e'.structs.sizes) e'.own_tags g.own_tags;
    locals = g.locals;
    marks = g.marks;
  }

  pub ready_block : Ready e → Ready e' → Ready (env.outside e')
  ready_block r r' = record { good = good_behind r'.good; complete = r'.complete; within = ap has_none own_behind ∙ r.within }

  pub covers_block : (seen : List ℕ) → Covers seen e → Covers seen (env.outside e')
  covers_block seen c = subst (λ o. InScopes (SeenThing seen) o) (sym own_behind) c

-- a program that has what stands behind the block has what stands at its end
pub into_block : (t : Text) (cx : Context) (e' : Env) → Into t cx (env.outside e') → Into t cx e'
into_block t cx e' i = into_as t cx (env.outside e') e' refl refl refl i

-- and one that has what stands within it has what stands before it
pub into_inside : (t : Text) (cx : Context) (e : Env) → Into t cx (env.inside e) → Into t cx e
into_inside t cx e i = into_as t cx (env.inside e) e refl refl refl i

-- the program has the locals that stand at a place
mapped_at : (ls : List (Span × Ty)) (n : ℕ) (l : Span × Ty) → slice_get ls n ≡ Some l → slice_get (map object_of ls) n ≡ Some (object_of l)
mapped_at [] n l h = absurd cc
mapped_at (x ∷ ls) zero l h = ap (option_map object_of) h
mapped_at (x ∷ ls) (suc n) l h = mapped_at ls n l h

pub local_at : (t : Text) (cx : Context) (e : Env) → Into t cx e → (n : ℕ) (l : Span × Ty) → slice_get e.locals n ≡ Some l → slice_get cx.locals n ≡ Some (object_of l)
local_at t cx e i n l h = starts_get (map object_of e.locals) cx.locals i.locals n (object_of l) (mapped_at e.locals n l h)
