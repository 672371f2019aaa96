-- A form names the locals that its parts name.
use Rattle.std.proofs.Common.{◌≡◌, ℕ, List, [], ◌∷◌, ◌++◌, map, Bool, refl, sym, subst}
use Rattle.std.specs.Prelude.{IsTrue, ◌==◌, Option, Some, None, option_map}
use Rattle.xc_text_place.specs.declared.Span.{Span}
use Rattle.xc_tree.specs.declared.ty.Ty.{Ty, Ptr}
use Rattle.xc_tree.specs.declared.expr.Expr.{Expr}
use Rattle.xc_tree.specs.declared.expr.ExprKind.{ExprKind}
use Rattle.xc_tree.specs.Lists.{every, has}
use Rattle.xc_tree.specs.Statements.{sees}
use Rattle.xc_tree.specs.Walk.{locals_named}
use Rattle.xc_tree.proofs.Lists.{and_left, and_right, and_both}
use Rattle.xc_type_rule.specs.Making.{Ruling, typed, value_from, place_from, declared_place, found_by, place_by, both}
use Rattle.xc_type_rule.specs.declared.found.Known.TheVariants as known
use Rattle.xc_welltyped.proofs.Types.{or_right}
use Rattle.xc_welltyped_locals.specs.Seen.{MadeSeen, IsSeen}

-- lists of locals -----------------------------------------------------------------

abbrev pub AllSeen : List ℕ → List ℕ → Type 0
AllSeen seen xs = IsTrue (every (map (λ x. has x seen) xs))

pub seen_append : (seen xs ys : List ℕ) → AllSeen seen xs → AllSeen seen ys → AllSeen seen (xs ++ ys)
seen_append seen [] ys h k = k
seen_append seen (x ∷ xs) ys h k = and_both (has x seen) _ (and_left (has x seen) _ h) (seen_append seen xs ys (and_right (has x seen) _ h) k)

more_seen : (x : ℕ) (seen xs : List ℕ) → AllSeen seen xs → AllSeen (x ∷ seen) xs
more_seen x seen [] h = refl
more_seen x seen (y ∷ xs) h = and_both (has y (x ∷ seen)) _ (or_right (y == x) _ (and_left (has y seen) _ h)) (more_seen x seen xs (and_right (has y seen) _ h))

-- what is seen stays seen where one more local is
pub sees_more : (x : ℕ) (seen : List ℕ) (e : Expr) → IsTrue (sees seen e) → IsTrue (sees (x ∷ seen) e)
sees_more x seen e h = more_seen x seen (locals_named e) h

pub made_more : (x : ℕ) (seen : List ℕ) (made : Option Expr) → MadeSeen seen made → MadeSeen (x ∷ seen) made
made_more x seen None h = refl
made_more x seen (Some e) h = sees_more x seen e h

-- kinds -------------------------------------------------------------------------

-- it names the locals of one part
abbrev pub OfOne : (Expr → ExprKind) → Type 0
OfOne f = (span : Span) (ty : Ty) (e : Expr) → locals_named (typed span ty (f e)) ≡ locals_named e

-- it names the locals of two parts
abbrev pub OfTwo : (Expr → Expr → ExprKind) → Type 0
OfTwo f = (span : Span) (ty : Ty) (a b : Expr) → locals_named (typed span ty (f a b)) ≡ locals_named a ++ locals_named b

module _ (seen : List ℕ) where
  abbrev pub KindSeen : Option ExprKind → Type 0
  KindSeen None = Unit {0}
  KindSeen (Some k) = (span : Span) (ty : Ty) → IsTrue (sees seen (typed span ty k))

  pub of_one : (f : Expr → ExprKind) → OfOne f → (made : Option Expr) → MadeSeen seen made → KindSeen (option_map f made)
  of_one f is None h = tt
  of_one f is (Some e) h = λ span ty. subst (AllSeen seen) (sym (is span ty e)) h

  pub of_two : (f : Expr → Expr → ExprKind) → OfTwo f → (a b : Option Expr) → MadeSeen seen a → MadeSeen seen b → KindSeen (both f a b)
  unfolding both
  of_two f is None b h k = tt
  of_two f is (Some x) None h k = tt
  of_two f is (Some x) (Some y) h k = λ span ty. subst (AllSeen seen) (sym (is span ty x y)) (seen_append seen (locals_named x) (locals_named y) h k)

  -- what is found --------------------------------------------------------------

  pub value_seen : (span : Span) (ty : Ty) (k : Option ExprKind) → KindSeen k → IsSeen seen (value_from span ty k)
  unfolding value_from
  value_seen span ty None h = refl
  value_seen span ty (Some k) h = h span ty

  pub found_seen : (span : Span) (r : Ruling) (k : Option ExprKind) → KindSeen k → IsSeen seen (found_by span r k)
  unfolding found_by
  found_seen span None k h = refl
  found_seen span (Some (known.Unknown place)) k h = refl
  found_seen span (Some (known.Place ty within)) k h = refl
  found_seen span (Some (known.Value ty)) k h = value_seen span ty k h

  pub place_seen : (span : Span) (ty : Ty) (within : Bool) (k : Option ExprKind) → KindSeen k → IsSeen seen (place_from span ty within k)
  unfolding place_from
  place_seen span ty within None h = refl
  place_seen span ty within (Some k) h = h span (Ptr ty)

  pub place_by_seen : (span : Span) (r : Ruling) (k : Option ExprKind) → KindSeen k → IsSeen seen (place_by span r k)
  unfolding place_by
  place_by_seen span None k h = refl
  place_by_seen span (Some (known.Unknown place)) k h = refl
  place_by_seen span (Some (known.Value ty)) k h = refl
  place_by_seen span (Some (known.Place ty within)) k h = place_seen span ty within k h

  pub declared_seen : (span : Span) (ty : Option Ty) (within : Bool) (k : Option ExprKind) → KindSeen k → IsSeen seen (declared_place span ty within k)
  unfolding declared_place
  declared_seen span None within k h = refl
  declared_seen span (Some ty) within k h = place_seen span ty within k h
