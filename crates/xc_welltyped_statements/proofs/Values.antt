-- Values of statements.
use Rattle.std.proofs.Common.{◌≡◌, ℕ, List, length, Bool, true, false, refl, sym, ap, subst}
use Rattle.std.specs.Prelude.{IsTrue, not, is_some, Option, Some, None}
use Rattle.xc_tree.specs.declared.ty.Ty.{Ty}
use Rattle.xc_tree.specs.declared.expr.Expr.{Expr}
use Rattle.xc_tree.specs.Lists.{passes}
use Rattle.xc_tree.specs.Types.{is_plain}
use Rattle.xc_tree.specs.Typed.{Context, part_of, value_ok}
use Rattle.xc_tree.specs.Statements.{test_ok, sees}
use Rattle.xc_tree.proofs.Lists.{and_both}
use Rattle.xc_type_rule.specs.declared.found.Found.{Found}
use Rattle.xc_type_rule.specs.declared.found.Known.{Known}
use Rattle.xc_type_rule.specs.declared.found.Known.TheVariants as known
use Rattle.xc_type_rule.specs.Tests.{may_be, is_unknown}
use Rattle.xc_type_scopes.specs.declared.env.Env.{Env}
use Rattle.xc_type_expressions.specs.declared.text.Text.{Text}
use Rattle.xc_type_lowering.specs.Accessed.{only_accessed}
use Rattle.xc_welltyped.specs.Sound.{IsMade, Stands}
use Rattle.xc_welltyped_locals.specs.Seen.{MadeSeen}
use Rattle.xc_welltyped_locals.specs.Used.{UsedAs}
use Rattle.xc_welltyped_claims.specs.Lists.{StaysSet}
use Rattle.xc_welltyped_claims.specs.Env.{Into, Covers}
use Rattle.xc_welltyped_claims.specs.Found.{Fine}
use Rattle.xc_welltyped_claims.proofs.Env.{point, at_point}

-- what is there
pub some_of : {A : Type 0} (o : Option A) → IsTrue (is_some o) → (x : A) × (o ≡ Some x)
some_of None h = absurd (let no : false ≡ true = h in cc)
some_of (Some x) h = (x, refl)

pub one_made : (o : Option Expr) → IsTrue (passes (λ x. true) o) → (x : Expr) × (o ≡ Some x)
one_made None h = absurd (let no : false ≡ true = h in cc)
one_made (Some x) h = (x, refl)

-- an expression whose value has this type
pub record IsValue (t : Text) (e : Env) (ty : Ty) (x : Expr) : Type 0 where
  pub typed : (cx : Context) → Into t cx e → IsTrue (value_ok cx x)
  pub own : (cx : Context) → Into t cx e → x.ty ≡ ty
  pub seen : (seen : List ℕ) → Covers seen e → IsTrue (sees seen x)
  pub used : (flags : List Bool) → StaysSet e.addressed flags → IsTrue (only_accessed flags x)

-- a test of its type
pub test_typed : (t : Text) (e : Env) (ty : Ty) (x : Expr) → IsValue t e ty x → IsTrue (is_plain ty) → (cx : Context) → Into t cx e → IsTrue (test_ok cx x)
test_typed t e ty x v p cx i = and_both (value_ok cx x) _ (v.typed cx i) (subst (λ u. IsTrue (is_plain u)) (sym (v.own cx i)) p)

-- what is found has a value of a type that passes
pub record HasValue (t : Text) (e : Env) (p : Ty → Bool) (f : Found) : Type 0 where
  pub made : Expr
  pub is_made : f.made ≡ Some made
  pub ty : Ty
  pub is : f.known ≡ known.Value ty
  pub passes : IsTrue (p ty)
  pub value : IsValue t e ty made

module _ (t : Text) (e : Env) (p : Ty → Bool) where
  value_made : (cx : Context) (ty : Ty) (x : Expr) → IsMade cx ty false x → IsTrue (value_ok cx x)
  value_made cx ty x m = and_both (part_of cx x).ok _ m.ok (ap not m.within)

  sort : (k : Known) → IsTrue (not (is_unknown k)) → IsTrue (may_be p k) → (ty : Ty) × (k ≡ known.Value ty) × IsTrue (p ty)
  unfolding may_be
  sort (known.Unknown place) h m = absurd cc
  sort (known.Value ty) h m = (ty, refl, m)
  sort (known.Place ty within) h m = absurd cc

  pub has_value : (f : Found) → Fine t e f → IsTrue (may_be p f.known) → HasValue t e p f
  has_value f h m =
      let k = sort f.known h.whole.known m in
      let x = one_made f.made h.whole.made in
      let stands : (cx : Context) → Into t cx e → IsMade cx k.0 false x.0 = λ cx i.
      subst (λ o. Stands cx (known.Value k.0) o) x.1 (subst (λ y. Stands cx y f.made) k.1 (h.sound (point cx e) (at_point t cx e i)).made) in
      record {
        made = x.0;
        is_made = x.1;
        ty = k.0;
        is = k.1;
        passes = k.2;
        value = record {
          typed = λ cx i. value_made cx k.0 x.0 (stands cx i);
          own = λ cx i. (stands cx i).own;
          seen = λ seen c. subst (λ o. MadeSeen seen o) x.1 (h.seen seen c);
          used = λ flags s. subst (λ o. UsedAs flags (length e.locals) (known.Value k.0) o) x.1 (subst (λ y. UsedAs flags (length e.locals) y f.made) k.1 (h.used flags s));
        };
      }
