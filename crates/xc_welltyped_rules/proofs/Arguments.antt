-- What is made of arguments is well typed where they are.
use Rattle.std.proofs.Common.{◌≡◌, ℕ, suc, List, [], ◌∷◌, map, length, false, refl, sym, ap, subst}
use Rattle.std.specs.Prelude.{IsTrue, not, Option, Some, None}
use Rattle.xc_tree.specs.declared.ty.Ty.{Ty}
use Rattle.xc_tree.specs.declared.expr.Expr.{Expr}
use Rattle.xc_tree.specs.declared.tree.Local.{Local}
use Rattle.xc_tree.proofs.Lists.{and_left, and_right, and_both}
use Rattle.xc_tree.specs.Lists.{every, passes, allows}
use Rattle.xc_tree.specs.Types.{is_object, is_number, may_hold, base}
use Rattle.xc_tree.specs.Typed.{Context, Part, part_of, part_ok, is_value, args_fit}
use Rattle.xc_type_rule.specs.declared.found.Found.{Found}
use Rattle.xc_type_rule.specs.declared.found.Known.{Known}
use Rattle.xc_type_rule.specs.declared.found.Known.TheVariants as known
use Rattle.xc_type_rule.specs.Making.{both}
use Rattle.xc_type_rule.specs.Tests.{may_be}
use Rattle.xc_welltyped.specs.Sound.{Point, IsMade, Stands, known_ok, IsSound}
use Rattle.xc_welltyped.proofs.Objects.{base_ok}
use Rattle.xc_welltyped.proofs.Nulls.{given_sound}
use Rattle.xc_type_rule_calls.specs.Arguments.{given_by, held_by, given_to, may_pass, all_fit, all_made}
use Rattle.xc_type_rule_calls.specs.Prints.{all_numbers}
use Rattle.xc_welltyped_rules.specs.Callees.{AreSound, param_of, params_ok}

-- arguments are given to their parameters -----------------------------------------

module _ (so : Point) where
  given_at : (o : Option Ty) (f : Found) → IsTrue (allows (λ ty. known_ok so (known.Value ty)) o) → IsSound so f → IsSound so (given_by o f)
  given_at None f h s = s
  given_at (Some ty) f h s = given_sound so ty f h s

  held_ok : (param : Option Ty) → IsTrue (allows (is_object so.shapes) param) → IsTrue (allows (λ ty. known_ok so (known.Value ty)) (held_by param))
  held_ok None h = refl
  held_ok (Some ty) h = by (base ty) refl
    where
      by : (o : Option Ty) → base ty ≡ o → IsTrue (allows (λ ty. known_ok so (known.Value ty)) o)
      by None e = refl
      by (Some b) e = base_ok so ty b e h

  pub given_all : (ps : List (Option Ty)) (fs : List Found) → IsTrue (params_ok so ps) → AreSound so fs → AreSound so (given_to ps fs)
  given_all [] fs h s = s
  given_all (p ∷ ps) [] h s = tt
  given_all (p ∷ ps) (f ∷ fs) h s = (
    given_at (held_by p) f (held_ok p (and_left (allows (is_object so.shapes) p) _ h)) s.0,
    given_all ps fs (and_right (allows (is_object so.shapes) p) _ h) s.1,
  )

-- what is made of them ------------------------------------------------------------

module _ (cx : Context) where
  -- each is well typed, and a value
  pub record AreValues (es : List Expr) : Type 0 where
    pub ok : IsTrue (every (map part_ok (map (part_of cx) es)))
    pub values : IsTrue (every (map is_value (map (part_of cx) es)))

  no_values : AreValues []
  no_values = record { ok = refl; values = refl }

  one_value : (ty : Ty) (e : Expr) (es : List Expr) → IsMade cx ty false e → AreValues es → AreValues (e ∷ es)
  one_value ty e es m r = record {
    ok = and_both (part_of cx e).ok _ m.ok r.ok;
    values = and_both (is_value (part_of cx e)) _ (ap (λ w. not w) m.within) r.values;
  }

  -- each fits its parameter
  pub record AreArgs (ps : List Local) (es : List Expr) : Type 0 where
    pub values : AreValues es
    pub fit : IsTrue (args_fit ps (map (part_of cx) es))

  abbrev pub ArgsMade : List Local → Option (List Expr) → Type 0
  ArgsMade ps None = Unit {0}
  ArgsMade ps (Some es) = AreArgs ps es

  never : (o : Option Ty) → IsTrue (passes (λ b. false) o) → ⊥
  never None h = cc
  never (Some b) h = cc

  one_arg : (p : Local) (ps : List Local) (k : Known) (m : Option Expr) (r : Option (List Expr)) → IsTrue (may_pass (param_of p) k) → Stands cx k m → ArgsMade ps r →
      ArgsMade (p ∷ ps) (both (λ e es. e ∷ es) m r)
  unfolding both may_be
  one_arg p ps k None r h s a = tt
  one_arg p ps k (Some e) None h s a = tt
  one_arg p ps (known.Unknown place) (Some e) (Some es) h s a = absurd s
  one_arg p ps (known.Place ty w) (Some e) (Some es) h s a = absurd (never (base p.ty) h)
  one_arg p ps (known.Value ty) (Some e) (Some es) h s a = record {
    values = one_value ty e es s a.values;
    fit = and_both (may_hold p.ty (part_of cx e).ty) _ (subst (λ t. IsTrue (may_hold p.ty t)) (sym s.typed) h) a.fit;
  }

  -- each is a number
  pub record AreNumbers (n : ℕ) (es : List Expr) : Type 0 where
    pub values : AreValues es
    pub numbers : IsTrue (every (map (λ (a : Part). is_number a.ty) (map (part_of cx) es)))
    pub many : length (map (part_of cx) es) ≡ n

  abbrev pub NumbersMade : ℕ → Option (List Expr) → Type 0
  NumbersMade n None = Unit {0}
  NumbersMade n (Some es) = AreNumbers n es

  one_number : (n : ℕ) (k : Known) (m : Option Expr) (r : Option (List Expr)) → IsTrue (may_be is_number k) → Stands cx k m → NumbersMade n r →
      NumbersMade (suc n) (both (λ e es. e ∷ es) m r)
  unfolding both may_be
  one_number n k None r h s a = tt
  one_number n k (Some e) None h s a = tt
  one_number n (known.Unknown place) (Some e) (Some es) h s a = absurd s
  one_number n (known.Place ty w) (Some e) (Some es) h s a = absurd cc
  one_number n (known.Value ty) (Some e) (Some es) h s a = record {
    values = one_value ty e es s a.values;
    numbers = and_both (is_number (part_of cx e).ty) _ (subst (λ t. IsTrue (is_number t)) (sym s.typed) h) a.numbers;
    many = ap suc a.many;
  }

module _ (so : Point) where
  pub args_made : (ps : List Local) (fs : List Found) → IsTrue (all_fit (map param_of ps) fs) → AreSound so fs → ArgsMade so.cx ps (all_made fs)
  unfolding all_made
  args_made [] [] h s = record { values = no_values so.cx; fit = refl }
  args_made [] (f ∷ fs) h s = absurd cc
  args_made (p ∷ ps) [] h s = absurd cc
  args_made (p ∷ ps) (f ∷ fs) h s =
      one_arg so.cx p ps f.known f.made (all_made fs) (and_left (may_pass (param_of p) f.known) _ h) s.0.made
      (args_made ps fs (and_right (may_pass (param_of p) f.known) _ h) s.1)

  pub numbers_made : (fs : List Found) → IsTrue (all_numbers fs) → AreSound so fs → NumbersMade so.cx (length fs) (all_made fs)
  unfolding all_made
  numbers_made [] h s = record { values = no_values so.cx; numbers = refl; many = refl }
  numbers_made (f ∷ fs) h s =
      one_number so.cx (length fs) f.known f.made (all_made fs) (and_left (may_be is_number f.known) _ h) s.0.made
      (numbers_made fs (and_right (may_be is_number f.known) _ h) s.1)
