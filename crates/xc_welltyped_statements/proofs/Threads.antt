-- The copies of a `future` statement as objects of its body.
use Rattle.std.proofs.Common.{◌≡◌, ℕ, List, [], ◌∷◌, length, map, Bool, true, false, refl, sym, ap, ◌∙◌, subst}
use Rattle.std.specs.Prelude.{IsTrue, ◌==◌, ◌||◌, ◌&&◌, Option, Some, slice_get}
use Rattle.std.proofs.lemmas.Bool.{eqb-true}
use Rattle.xc_text_place.specs.declared.Span.{Span}
use Rattle.xc_tree.specs.declared.expr.Expr.{Expr}
use Rattle.xc_tree.specs.declared.expr.ExprKind.{out-ExprKind}
use Rattle.xc_tree.specs.declared.stmt.Capture.{Capture}
use Rattle.xc_tree.specs.Lists.{has, passes}
use Rattle.xc_tree.specs.Types.{is_plain, same_ty}
use Rattle.xc_tree.specs.Typed.{Context, value_ok}
use Rattle.xc_tree.specs.Statements.{sees, capture_ok, variable_named}
use Rattle.xc_tree.proofs.Lists.{and_both}
use Rattle.xc_type_rule.specs.declared.found.Thing.{Thing}
use Rattle.xc_type_rule.specs.declared.found.Thing.TheVariants as thing
use Rattle.xc_type_structs.specs.declared.structs.Structs.{Structs}
use Rattle.xc_type_scopes.specs.declared.env.Env.{Env}
use Rattle.xc_type_scopes.specs.Judge.{Judge, give, and_then}
use Rattle.xc_type_expressions.specs.declared.text.Text.{Text}
use Rattle.xc_type_statement_parts.specs.declared.futures.Copied.{Copied}
use Rattle.xc_type_statement_parts.specs.Making.{one, followed}
use Rattle.xc_type_statement_parts.specs.Declarations.{declared_object}
use Rattle.xc_type_statement_parts.specs.Futures as futures
use Rattle.xc_type_lowering.specs.Accessed.{only_accessed}
use Rattle.xc_welltyped.proofs.Types.{or_left, or_right, eqb_refl, same_ty_refl}
use Rattle.xc_welltyped_claims.specs.Lists.{Each, StaysSet, Fresh}
use Rattle.xc_welltyped_claims.specs.Types.{is_object_by}
use Rattle.xc_welltyped_claims.specs.Things.{SeenThing}
use Rattle.xc_welltyped_claims.specs.Env.{Ready, Extends, Into, Covers}
use Rattle.xc_welltyped_claims.specs.Judges.{Clean, Made}
use Rattle.xc_welltyped_claims.proofs.Lists.{each_more, starts_get, starts_length}
use Rattle.xc_welltyped_claims.proofs.Env.{extends_then}
use Rattle.xc_welltyped_claims.proofs.Judges.{made_self, clean_first, clean_second}
use Rattle.xc_welltyped_statements.proofs.Fresh.{fresh_none, fresh_one, fresh_both}
use Rattle.xc_welltyped_statements.proofs.Objects.{object_fine, get_last}
use Rattle.xc_welltyped_statements.proofs.Places.{local_at}
use Rattle.xc_welltyped_statements.proofs.Declarations.{one_longer}
use Rattle.xc_welltyped_statements.proofs.Copies.{IsCopy}
use Rattle.xc_welltyped_structs.proofs.Grown.{scopes_more}

abbrev pub numbers : List Capture → List ℕ
numbers cs = map (λ c. c.local) cs

pub self_has : (xs : List ℕ) → Each (λ n. IsTrue (has n xs)) xs
self_has [] = tt
self_has (x ∷ xs) = (or_left (x == x) _ (eqb_refl x), each_more (λ n. IsTrue (has n xs)) (λ n. IsTrue (has n (x ∷ xs))) (λ n h. or_right (n == x) _ h) xs (self_has xs))

same_has : (n m : ℕ) (all : List ℕ) → IsTrue (has n all) → IsTrue (has m (n ∷ all)) → IsTrue (has m all)
same_has n m all h k = by (m == n) refl k
  where
    by : (b : Bool) → (m == n) ≡ b → IsTrue (b || has m all) → IsTrue (has m all)
    by true e q = let same : m ≡ n = eqb-true m n e in subst (λ x. IsTrue (has x all)) (sym same) h
    by false e q = q

thing_drop : (n : ℕ) (all : List ℕ) → IsTrue (has n all) → (x : Thing) → SeenThing (n ∷ all) x → SeenThing all x
thing_drop n all h (thing.Local m ty) k = same_has n m all h k
thing_drop n all h (thing.Global m ty) k = tt
thing_drop n all h (thing.Func number params ret) k = tt

covers_drop : (n : ℕ) (all : List ℕ) (e : Env) → IsTrue (has n all) → Covers (n ∷ all) e → Covers all e
covers_drop n all e h c = scopes_more (SeenThing (n ∷ all)) (SeenThing all) (thing_drop n all h) e.own c

-- copies made at `e`, which are objects from `d` on
pub record MadeCopies (t : Text) (e d d' : Env) (o : Option (List Capture)) : Type 0 where
  pub made : List Capture
  pub known : o ≡ Some made
  pub fits : (cx : Context) → Into t cx e → Into t cx d' → Each (λ c. IsTrue (capture_ok cx c)) made
  pub seen : (seen : List ℕ) → Covers seen e → Each (λ c. IsTrue (sees seen c.from)) made
  pub used : (flags : List Bool) → StaysSet e.addressed flags → Each (λ c. IsTrue (only_accessed flags c.from)) made
  pub fresh : Fresh (length d.locals) (length d'.locals) (numbers made)
  pub covers : (all : List ℕ) → Each (λ n. IsTrue (has n all)) (numbers made) → Covers all d → Covers all d'
  pub loops : d'.loops ≡ d.loops

module _ (t : Text) (e : Env) where
  capture_typed : (cx : Context) (c : Copied) (k : IsCopy t e c) (d1 d2 : Env) (at : Span) (n : ℕ) → Into t cx e → Into t cx d2 → slice_get d1.locals n ≡ Some (at, k.ty) → Extends d1 d2 → IsTrue (capture_ok cx (record { from = k.from; local = n }))
  capture_typed cx c k d1 d2 at n i j there s =
      let here = local_at t cx d2 j n (at, k.ty) (starts_get d1.locals d2.locals s.locals n (at, k.ty) there) in
      and_both (value_ok cx k.from) _ (k.value.typed cx i) (and_both (variable_named (out-ExprKind k.from.kind)) _ k.variable
      (subst (λ o. IsTrue (passes (λ l. is_plain l.ty && same_ty l.ty k.from.ty) o)) (sym here)
      (and_both (is_plain k.ty) _ k.plain (subst (λ u. IsTrue (same_ty k.ty u)) (sym (k.value.own cx i)) (same_ty_refl k.ty)))))

  captures_are : (n : ℕ) (x : Expr) (cs : List Capture) (o : Option ℕ) (y : Option Expr) (z : Option (List Capture)) → o ≡ Some n → y ≡ Some x → z ≡ Some cs →
      followed (one (futures.capture_made o y)) z ≡ Some (record { from = x; local = n } ∷ cs)
  unfolding followed one
  captures_are n x cs o y z p q r = ap (λ o. followed (one (futures.capture_made o y)) z) p ∙ (ap (λ y. followed (one (futures.capture_made (Some n) y)) z) q ∙ ap (λ z. followed (Some (record { from = x; local = n } ∷ [])) z) r)

  pub copied_fine : (cs : List Copied) → Each (IsCopy t e) cs → (d : Env) → Ready d → d.structs ≡ e.structs → Clean (futures.copied cs) d →
      Made d (futures.copied cs d).env (MadeCopies t e d (futures.copied cs d).env (futures.copied cs d).part)
  unfolding futures.copied
  copied_fine [] h d r s c = made_self d _ r (record { made = []; known = refl; fits = λ cx i j. tt; seen = λ seen c. tt; used = λ flags m. tt; fresh = fresh_none (length d.locals) (length d.locals); covers = λ all h c. c; loops = refl })
  copied_fine (x ∷ cs) h d r s c =
      let k = h.0 in
      let j1 = futures.capture x in
      let j2 = futures.copied cs in
      let k2 : Option Capture → Option (List Capture) → Judge (Option (List Capture)) = λ x xs. give (followed (one x) xs) [] in
      let k1 : Option Capture → Judge (Option (List Capture)) = λ x. and_then j2 (k2 x) in
      let ok = subst (λ (q : Structs). IsTrue (is_object_by q.sizes k.ty)) (sym s) k.object in
      let m1 = object_fine x.declared k.ty k.name k.known k.named d r ok in
      let d1 = (declared_object x.declared d).env in
      let o = m1.holds.0 in
      let c1 = clean_second j1 k1 d c in
      let m2 = copied_fine cs h.1 d1 m1.ready (o.structs ∙ s) (clean_first j2 (k2 (j1 d).part) d1 c1 (λ v f i. i)) in
      let d2 = (j2 d1).env in
      let q = m2.holds in
      let n = length d.locals in
      let there : slice_get d1.locals n ≡ Some (x.declared.at, k.ty) = subst (λ ls. slice_get ls n ≡ Some (x.declared.at, k.ty)) (sym o.locals) (get_last d.locals (x.declared.at, k.ty)) in
      record {
        ready = m2.ready;
        extends = extends_then d d1 d2 m1.extends m2.extends;
        file = m2.file ∙ m1.file;
        holds = record {
          made = record { from = k.from; local = n } ∷ q.made;
          known = captures_are n k.from q.made (declared_object x.declared d).part x.from (j2 d1).part m1.holds.1 k.is_made q.known;
          fits = λ cx i j. (capture_typed cx x k d1 d2 x.declared.at n i j there m2.extends, q.fits cx i j);
          seen = λ seen z. (k.value.seen seen z, q.seen seen z);
          used = λ flags m. (k.value.used flags m, q.used flags m);
          fresh = fresh_both n (length d1.locals) (length d2.locals) (n ∷ []) (numbers q.made) (starts_length d.locals d1.locals m1.extends.locals) (starts_length d1.locals d2.locals m2.extends.locals)
              (fresh_one n (length d1.locals) (one_longer d.locals d1.locals (x.declared.at, k.ty) o.locals)) q.fresh;
          covers = λ all z w. q.covers all z.1 (covers_drop n all d1 z.0 (o.covers all w));
          loops = q.loops ∙ o.loops;
        };
      }
