-- The next object of a function.
use Rattle.std.proofs.Common.{◌≡◌, ℕ, zero, suc, ◌+◌, List, [], ◌∷◌, ◌++◌, length, Bool, true, false, refl, sym, ap, ◌∙◌, subst, arith, length-append}
use Rattle.std.specs.Prelude.{IsTrue, ◌==◌, Some, None, slice_get}
use Rattle.xc_text_place.specs.declared.Span.{Span}
use Rattle.xc_tree.specs.declared.ty.Ty.{Ty}
use Rattle.xc_tree.specs.Lists.{has}
use Rattle.xc_welltyped.proofs.Types.{or_left, or_right, eqb_refl}
use Rattle.xc_type_rule.specs.declared.found.Thing.{Thing}
use Rattle.xc_type_rule.specs.declared.found.Thing.TheVariants as thing
use Rattle.xc_type_names.specs.Scoped.{declared_in}
use Rattle.xc_type_scopes.specs.declared.env.Env.{Env}
use Rattle.xc_type_scopes.specs.Env as env
use Rattle.xc_type_scopes.specs.Env.{has_address}
use Rattle.xc_type_expressions.specs.declared.types.Declared.{Declared}
use Rattle.xc_type_statement_parts.specs.Declarations.{object_by, declared_object}
use Rattle.xc_welltyped_claims.specs.Lists.{StaysSet}
use Rattle.xc_welltyped_claims.specs.Types.{is_object_by}
use Rattle.xc_welltyped_claims.specs.Things.{OwnThing, SeenThing}
use Rattle.xc_welltyped_claims.specs.Env.{AreMarked, Good, Ready, Extends, Covers}
use Rattle.xc_welltyped_claims.specs.Judges.{Made}
use Rattle.xc_welltyped_claims.proofs.Lists.{each_both, get_left, starts_more}
use Rattle.xc_welltyped_claims.proofs.Things.{in_declared, length_declared, left_declared}
use Rattle.xc_welltyped_claims.proofs.Env.{grows_self}
use Rattle.xc_type_names.specs.Scoped.{has_none}
use Rattle.xc_welltyped_statements.specs.Stmts.{IsObject}
use Rattle.xc_welltyped_statements.proofs.Fresh.{same_most}
use Rattle.xc_welltyped_structs.proofs.Grown.{scopes_more}

abbrev Local : Type 0
Local = Span × Ty

pub own_more : (ls more : List Local) (x : Thing) → OwnThing ls x → OwnThing (ls ++ more) x
own_more ls more (thing.Local n (Some ty)) h = (h.0, get_left ls more n (h.0, ty) h.1)
own_more ls more (thing.Local n None) h = absurd h
own_more ls more (thing.Global n ty) h = absurd h
own_more ls more (thing.Func number params ret) h = absurd h

seen_more : (n : ℕ) (seen : List ℕ) (x : Thing) → SeenThing seen x → SeenThing (n ∷ seen) x
seen_more n seen (thing.Local m ty) h = or_right (m == n) _ h
seen_more n seen (thing.Global m ty) h = tt
seen_more n seen (thing.Func number params ret) h = tt

pub covers_more : (n : ℕ) (seen : List ℕ) (e : Env) → Covers seen e → Covers (n ∷ seen) e
covers_more n seen e c = scopes_more (SeenThing seen) (SeenThing (n ∷ seen)) (seen_more n seen) e.own c

marks_more : (ls : List Local) (bs : List Bool) (x : Local) → length bs ≡ length ls → ((n : ℕ) (l : Local) → slice_get ls n ≡ Some l → has_address l.1 ≡ true → slice_get bs n ≡ Some true) →
    (n : ℕ) (l : Local) → slice_get (ls ++ x ∷ []) n ≡ Some l → has_address l.1 ≡ true → slice_get (bs ++ has_address x.1 ∷ []) n ≡ Some true
marks_more [] [] x e f zero l h k = let same : x ≡ l = cc in ap Some (ap (λ (q : Local). has_address q.1) same ∙ k)
marks_more [] [] x e f (suc n) l h k = absurd cc
marks_more [] (b ∷ bs) x e f n l h k = absurd (omega (arith, e))
marks_more (y ∷ ls) [] x e f n l h k = absurd (omega (arith, e))
marks_more (y ∷ ls) (b ∷ bs) x e f zero l h k = f zero l h k
marks_more (y ∷ ls) (b ∷ bs) x e f (suc n) l h k = marks_more ls bs x (omega (arith, e)) (λ n l h k. f (suc n) l h k) n l h k

marked_more : (ls : List Local) (bs : List Bool) (x : Local) → AreMarked ls bs → AreMarked (ls ++ x ∷ []) (bs ++ has_address x.1 ∷ [])
marked_more ls bs x m = record {
  many = length-append bs (has_address x.1 ∷ []) ∙ (ap (λ n. n + 1) m.many ∙ sym (length-append ls (x ∷ [])));
  marked = marks_more ls bs x m.many m.marked;
}

pub get_last : (ls : List Local) (x : Local) → slice_get (ls ++ x ∷ []) (length ls) ≡ Some x
get_last [] x = refl
get_last (l ∷ ls) x = get_last ls x

set_more : (bs more : List Bool) → StaysSet bs (bs ++ more)
set_more bs more n h = get_left bs more n true h

module _ (at : Span) (ty : Ty) (e : Env) (r : Ready e) (h : IsTrue (is_object_by e.structs.sizes ty)) where
  abbrev after : Env
  after = env.with_local at ty e

  good_after : Good after
  good_after = let g = r.good in record {
    table = g.table;
    layout = g.layout;
    file = g.file;
    own = scopes_more (OwnThing e.locals) (OwnThing after.locals) (own_more e.locals ((at, ty) ∷ [])) e.own g.own;
    file_tags = g.file_tags;
    own_tags = g.own_tags;
    locals = each_both (λ (l : Local). IsTrue (is_object_by e.structs.sizes l.1)) e.locals ((at, ty) ∷ []) g.locals (h, tt);
    marks = marked_more e.locals e.addressed (at, ty) g.marks;
  }

  extends_after : Extends e after
  extends_after = record {
    file = λ name x k. k;
    own = refl;
    scopes = refl;
    own_tags = refl;
    structs = grows_self e.structs;
    locals = starts_more e.locals ((at, ty) ∷ []);
    addressed = set_more e.addressed (has_address ty ∷ []);
    loops = same_most e.loops;
  }

  pub unnamed_fine : Made e after (IsObject at ty e after)
  unnamed_fine = record {
    ready = record { good = good_after; complete = r.complete; within = r.within };
    extends = extends_after;
    file = refl;
    holds = record { locals = refl; addressed = refl; structs = refl; loops = refl; covers = λ seen c. covers_more (length e.locals) seen e c };
  }

  module _ (name : ℕ) where
    abbrev it : Thing
    it = thing.Local (length e.locals) (Some ty)

    abbrev named : Env
    named = env.with_own name it after

    good_named : Good named
    good_named = let g = good_after in record {
      table = g.table;
      layout = g.layout;
      file = g.file;
      own = in_declared (OwnThing after.locals) name it e.own g.own (at, get_last e.locals (at, ty));
      file_tags = g.file_tags;
      own_tags = g.own_tags;
      locals = g.locals;
      marks = record { many = g.marks.many; marked = g.marks.marked };
    }

    some_declared : (ss : List (List (ℕ × Thing))) → has_none ss ≡ false → has_none (declared_in name it ss) ≡ false
    some_declared [] k = k
    some_declared (s ∷ []) k = refl
    some_declared (s ∷ s' ∷ ss) k = refl

    extends_named : Extends e named
    extends_named = let x = extends_after in record {
      file = λ name x k. k;
      own = left_declared name it e.own;
      scopes = length_declared name it e.own;
      own_tags = refl;
      structs = x.structs;
      locals = x.locals;
      addressed = x.addressed;
      loops = x.loops;
    }

    named_made : Made e named (IsObject at ty e named × (Some (length e.locals) ≡ Some (length e.locals)))
    named_made = record {
      ready = record { good = good_named; complete = r.complete; within = some_declared e.own r.within };
      extends = extends_named;
      file = refl;
      holds = (
        record {
          locals = refl;
          addressed = refl;
          structs = refl;
          loops = refl;
          covers = λ seen c. in_declared (SeenThing (length e.locals ∷ seen)) name it e.own (covers_more (length e.locals) seen e c) (or_left (length e.locals == length e.locals) (has (length e.locals) seen) (eqb_refl (length e.locals)));
        },
        refl,
      );
    }

    pub object_made : Made e (object_by at (Some ty) (Some name) e).env (IsObject at ty e (object_by at (Some ty) (Some name) e).env × ((object_by at (Some ty) (Some name) e).part ≡ Some (length e.locals)))
    unfolding object_by
    object_made = named_made

pub object_fine : (d : Declared) (ty : Ty) (name : ℕ) → d.ty ≡ Some ty → d.name ≡ Some name → (e : Env) → Ready e → IsTrue (is_object_by e.structs.sizes ty) →
    Made e (declared_object d e).env (IsObject d.at ty e (declared_object d e).env × ((declared_object d e).part ≡ Some (length e.locals)))
object_fine d ty name p q e r h =
    subst (λ o. Made e (object_by d.at o d.name e).env (IsObject d.at ty e (object_by d.at o d.name e).env × ((object_by d.at o d.name e).part ≡ Some (length e.locals)))) (sym p)
    (subst (λ n. Made e (object_by d.at (Some ty) n e).env (IsObject d.at ty e (object_by d.at (Some ty) n e).env × ((object_by d.at (Some ty) n e).part ≡ Some (length e.locals)))) (sym q) (object_made d.at ty e r h name))
