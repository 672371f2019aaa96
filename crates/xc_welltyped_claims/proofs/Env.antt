-- How what is declared goes on.
use Rattle.std.proofs.Common.{◌≡◌, ℕ, ◌≤◌, List, [], ◌++◌, map, length, take, refl, sym, ap, ◌∙◌, subst, arith, append_assoc}
use Rattle.std.specs.Prelude.{IsTrue, Some, slice_get}
use Rattle.std.proofs.lemmas.List.{append-nil, map-append}
use Rattle.xc_tree.specs.Lists.{every}
use Rattle.xc_tree.specs.Types.{Shape, is_size}
use Rattle.xc_tree.specs.Typed.{Context}
use Rattle.xc_type_rule.specs.declared.found.Found.{Found}
use Rattle.xc_type_structs.specs.declared.structs.Structs.{Structs}
use Rattle.xc_type_names.specs.Scoped.{found_in, left}
use Rattle.xc_type_scopes.specs.declared.env.Env.{Env}
use Rattle.xc_type_expressions.specs.declared.text.Text.{Text}
use Rattle.xc_welltyped.specs.Sound as sound
use Rattle.xc_welltyped.specs.Sound.{Point, IsSound}
use Rattle.xc_welltyped.proofs.Points.{sound_later}
use Rattle.xc_welltyped_claims.specs.Table.{tys_of, Grows}
use Rattle.xc_welltyped_locals.specs.Used.{IsUsed}
use Rattle.xc_welltyped_claims.specs.Things.{InScopes, SeenThing}
use Rattle.xc_welltyped_claims.specs.Env.{AreComplete, Stays, Extends, object_of, Into, At}
use Rattle.xc_welltyped_claims.specs.Found.{Fine}
use Rattle.xc_welltyped_claims.proofs.Lists.{starts_self, starts_then, starts_map, starts_same, starts_length, every_left, every_both, get_taken, get_taken_more, set_self, set_then}

-- structs -----------------------------------------------------------------------

pub grows_self : (s : Structs) → Grows s s
grows_self s = record { added = []; sizes = sym (append-nil s.sizes); complete = refl; mixed = starts_self s.mixed; members = starts_self s.members }

pub grows_then : (a b c : Structs) → Grows a b → Grows b c → Grows a c
grows_then a b c g h = record {
  added = g.added ++ h.added;
  sizes = h.sizes ∙ ap (λ l. l ++ h.added) g.sizes ∙ append_assoc a.sizes g.added h.added;
  complete = subst (λ l. IsTrue (every l)) (sym (map-append is_size g.added h.added)) (every_both (map is_size g.added) (map is_size h.added) g.complete h.complete);
  mixed = starts_then a.mixed b.mixed c.mixed g.mixed h.mixed;
  members = starts_then a.members b.members c.members g.members h.members;
}

-- all structs are complete before a place where they are
pub complete_before : (a b : Structs) → Grows a b → AreComplete b.sizes → AreComplete a.sizes
complete_before a b g h = every_left (map is_size a.sizes) (map is_size g.added)
    (subst (λ l. IsTrue (every l)) (ap (map is_size) g.sizes ∙ map-append is_size a.sizes g.added) h)

-- and behind one
pub complete_behind : (a b : Structs) → Grows a b → AreComplete a.sizes → AreComplete b.sizes
complete_behind a b g h = subst (λ l. IsTrue (every l)) (sym (ap (map is_size) g.sizes ∙ map-append is_size a.sizes g.added))
    (every_both (map is_size a.sizes) (map is_size g.added) h g.complete)

-- places --------------------------------------------------------------------------

pub stays_self : (e : Env) → Stays e e
stays_self e = record {
  file = refl;
  own = refl;
  own_tags = refl;
  structs = grows_self e.structs;
  layout = starts_self e.layout.members;
  locals = refl;
  addressed = set_self e.addressed;
  loops = refl;
}

pub stays_then : (a b c : Env) → Stays a b → Stays b c → Stays a c
stays_then a b c s t = record {
  file = t.file ∙ s.file;
  own = t.own ∙ s.own;
  own_tags = t.own_tags ∙ s.own_tags;
  structs = grows_then a.structs b.structs c.structs s.structs t.structs;
  layout = starts_then a.layout.members b.layout.members c.layout.members s.layout t.layout;
  locals = t.locals ∙ s.locals;
  addressed = set_then a.addressed b.addressed c.addressed s.addressed t.addressed;
  loops = t.loops ∙ s.loops;
}

pub stays_extends : (e e' : Env) → Stays e e' → Extends e e'
stays_extends e e' s = record {
  file = λ name x h. subst (λ f. found_in name f ≡ Some x) (sym s.file) h;
  own = ap left s.own;
  scopes = ap length s.own;
  own_tags = s.own_tags;
  structs = s.structs;
  locals = starts_same e.locals e'.locals s.locals;
  addressed = s.addressed;
  loops = subst (λ n. e.loops ≤ n) (sym s.loops) (omega arith);
}

pub extends_self : (e : Env) → Extends e e
extends_self e = stays_extends e e (stays_self e)

pub extends_then : (a b c : Env) → Extends a b → Extends b c → Extends a c
extends_then a b c s t = record {
  file = λ name x h. t.file name x (s.file name x h);
  own = t.own ∙ s.own;
  scopes = t.scopes ∙ s.scopes;
  own_tags = t.own_tags ∙ s.own_tags;
  structs = grows_then a.structs b.structs c.structs s.structs t.structs;
  locals = starts_then a.locals b.locals c.locals s.locals t.locals;
  addressed = set_then a.addressed b.addressed c.addressed s.addressed t.addressed;
  loops = let x = s.loops in let y = t.loops in omega (arith, x, y);
}

-- programs ------------------------------------------------------------------------

-- a program that has what stands at a place has what stands before it
pub into_before : (t : Text) (cx : Context) (e e' : Env) → Extends e e' → Into t cx e' → Into t cx e
into_before t cx e e' s i = record {
  shapes = i.shapes;
  structs = starts_then _ _ cx.structs (starts_map tys_of e.structs.members e'.structs.members s.structs.members) i.structs;
  complete = complete_before e.structs e'.structs s.structs i.complete;
  things = λ name x h. i.things name x (s.file name x h);
  locals = starts_then _ _ cx.locals (starts_map object_of e.locals e'.locals s.locals) i.locals;
  formats = i.formats;
  few = i.few;
}

-- the point of the program there
pub taken : (n : ℕ) (all : List Shape) → sound.Grows (take n all) all
taken n all s x e w = get_taken n all s x e

abbrev pub point : Context → Env → Point
point cx e = record { cx = cx; shapes = take (length e.structs.sizes) cx.shapes; grows = taken (length e.structs.sizes) cx.shapes }

pub at_point : (t : Text) (cx : Context) (e : Env) → Into t cx e → At t (point cx e) e
at_point t cx e i = record { into = i; shapes = refl }

pub at_before : (t : Text) (so : Point) (e e' : Env) → Extends e e' → At t so e' → At t (point so.cx e) e
at_before t so e e' s a = at_point t so.cx e (into_before t so.cx e e' s a.into)

fewer : (a b : Structs) → Grows a b → length a.sizes ≤ length b.sizes
fewer a b g = starts_length a.sizes b.sizes (g.added, g.sizes)

-- what is sound before is sound behind
pub sound_behind : (t : Text) (so : Point) (e e' : Env) → Extends e e' → At t so e' → (f : Found) → IsSound (point so.cx e) f → IsSound so f
sound_behind t so e e' s a = sound_later so.cx (take (length e.structs.sizes) so.cx.shapes) so.shapes (taken (length e.structs.sizes) so.cx.shapes) so.grows
    (λ n x h w. subst (λ l. slice_get l n ≡ Some x) (sym a.shapes)
    (get_taken_more (length e.structs.sizes) (length e'.structs.sizes) so.cx.shapes n x (fewer e.structs e'.structs s.structs) h))

-- what is found before stands behind
pub fine_behind : (t : Text) (e e' : Env) → Stays e e' → (f : Found) → Fine t e f → Fine t e' f
fine_behind t e e' s f h = record {
  whole = h.whole;
  sound = λ so a. sound_behind t so e e' (stays_extends e e' s) a f (h.sound (point so.cx e) (at_before t so e e' (stays_extends e e' s) a));
  seen = λ seen c. h.seen seen (subst (λ o. InScopes (SeenThing seen) o) s.own c);
  used = λ flags m. subst (λ l. IsUsed flags (length l) f) (sym s.locals) (h.used flags (set_then e.addressed e'.addressed flags s.addressed m));
}
