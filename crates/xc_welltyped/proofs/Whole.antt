-- What a rule makes of parts that are whole is whole where the rule is kept.
use Rattle.std.proofs.Common.{◌≡◌, ℕ, List, [], Bool, true, false, refl}
use Rattle.std.specs.Prelude.{IsTrue, ◌&&◌, not, cond, Option, Some, None, option_map}
use Rattle.xc_text_place.specs.declared.Span.{Span}
use Rattle.xc_tree.specs.declared.ty.Ty.{Ty, out-Ty, Ptr}
use Rattle.xc_tree.specs.declared.ty.Ty.TheOpen.{Ty-F}
use Rattle.xc_tree.specs.declared.expr.Expr.{Expr}
use Rattle.xc_tree.specs.declared.expr.ExprKind.{ExprKind}
use Rattle.xc_tree.specs.Lists.{passes}
use Rattle.xc_tree.specs.Types.{is_pointer}
use Rattle.xc_type_rule.specs.declared.found.Found.{Found}
use Rattle.xc_type_rule.specs.declared.found.Known.{Known}
use Rattle.xc_type_rule.specs.declared.found.Known.TheVariants as known
use Rattle.xc_type_rule.specs.Least.{fault_unless}
use Rattle.xc_type_rule.specs.Making.{Ruling, value_from, place_from, found_by, place_by, faults_by, spanned, both}
use Rattle.xc_type_rule.specs.Nulls.{is_null, null, given, against}
use Rattle.xc_type_rule.specs.Tests.{is_unknown}
use Rattle.xc_type_rule.specs.Values.{read_of, first_element, held, rvalue_at, rvalue, is_lost, is_array_at, rvalue_faults}
use Rattle.xc_type_rule.specs.Cells.{cells}
use Rattle.xc_welltyped.specs.Sound.{IsWhole}

abbrev pub IsMadeOf : {A : Type 0} → Option A → Type 0
IsMadeOf made = IsTrue (passes (λ e. true) made)

abbrev pub IsKnown : Known → Type 0
IsKnown k = IsTrue (not (is_unknown k))

-- kinds -------------------------------------------------------------------------

pub mapped : {A B : Type 0} (f : A → B) (made : Option A) → IsMadeOf made → IsMadeOf (option_map f made)
mapped f None m = absurd cc
mapped f (Some x) m = refl

pub both_made : {A B C : Type 0} (f : A → B → C) (a : Option A) (b : Option B) → IsMadeOf a → IsMadeOf b → IsMadeOf (both f a b)
unfolding both
both_made f None b ma mb = absurd cc
both_made f (Some x) None ma mb = absurd cc
both_made f (Some x) (Some y) ma mb = refl

-- rulings -----------------------------------------------------------------------

-- it leaves no type unknown
abbrev pub gives_value : Ruling → Bool
gives_value None = true
gives_value (Some (known.Value ty)) = true
gives_value (Some _) = false

abbrev pub gives_place : Ruling → Bool
gives_place None = true
gives_place (Some (known.Place ty within)) = true
gives_place (Some _) = false

module _ (span : Span) where
  pub value_whole : (ty : Ty) (k : Option ExprKind) → IsMadeOf k → IsWhole (value_from span ty k)
  unfolding value_from
  value_whole ty None m = absurd cc
  value_whole ty (Some k) m = record { known = refl; made = refl }

  pub place_whole : (ty : Ty) (within : Bool) (k : Option ExprKind) → IsMadeOf k → IsWhole (place_from span ty within k)
  unfolding place_from
  place_whole ty within None m = absurd cc
  place_whole ty within (Some k) m = record { known = refl; made = refl }

  pub found_whole : (r : Ruling) (k : Option ExprKind) → IsTrue (gives_value r) → faults_by span r ≡ [] → IsMadeOf k → IsWhole (found_by span r k)
  unfolding found_by faults_by
  found_whole None k g e m = absurd cc
  found_whole (Some (known.Unknown place)) k g e m = absurd cc
  found_whole (Some (known.Place ty within)) k g e m = absurd cc
  found_whole (Some (known.Value ty)) k g e m = value_whole ty k m

  pub place_by_whole : (r : Ruling) (k : Option ExprKind) → IsTrue (gives_place r) → faults_by span r ≡ [] → IsMadeOf k → IsWhole (place_by span r k)
  unfolding place_by faults_by
  place_by_whole None k g e m = absurd cc
  place_by_whole (Some (known.Unknown place)) k g e m = absurd cc
  place_by_whole (Some (known.Value ty)) k g e m = absurd cc
  place_by_whole (Some (known.Place ty within)) k g e m = place_whole ty within k m

  pub spanned_whole : (made : Option Expr) → IsMadeOf made → IsMadeOf (spanned span made)
  unfolding spanned
  spanned_whole None m = absurd cc
  spanned_whole (Some e) m = refl

  -- a test of a rule that was kept
  pub kept : (b : Bool) → fault_unless b span ≡ [] → IsTrue b
  kept true e = refl
  kept false e = absurd cc

-- values ------------------------------------------------------------------------

module _ (sizes : List ℕ) (span : Span) where
  held_whole : (t : Ty) (w : Bool) (made : Option Expr) (y : Ty-F Ty) → IsTrue (not (cond w (is_array_at y) false)) → IsMadeOf made → IsWhole (held sizes span t w made y)
  held_whole t true made (Ty-F.Array n of) l m = absurd cc
  held_whole t false made (Ty-F.Array n of) l m = value_whole span (Ptr of) _ (mapped (first_element span (cells sizes of) n) made m)
  held_whole t w made (Ty-F.Sync of) l m = value_whole span of _ (mapped read_of made m)
  held_whole t w made (Ty-F.Future of) l m = value_whole span of _ (mapped read_of made m)
  held_whole t w made (Ty-F.Struct s) l m = record { known = refl; made = m }
  held_whole t w made Ty-F.Void l m = record { known = refl; made = m }
  held_whole t w made Ty-F.Int l m = value_whole span t _ (mapped read_of made m)
  held_whole t w made Ty-F.Uint l m = value_whole span t _ (mapped read_of made m)
  held_whole t w made (Ty-F.Ptr of) l m = value_whole span t _ (mapped read_of made m)

  valued_whole : (k : Known) (made : Option Expr) → IsTrue (not (is_lost k)) → IsKnown k → IsMadeOf made → IsWhole (rvalue_at sizes span k made)
  valued_whole (known.Unknown place) made l h m = absurd cc
  valued_whole (known.Value t) made l h m = record { known = refl; made = m }
  valued_whole (known.Place t w) made l h m = held_whole t w made (out-Ty t) l m

  pub rvalue_whole : (inner : Span) (f : Found) → IsWhole f → rvalue_faults inner f.known ≡ [] → IsWhole (rvalue sizes span f)
  unfolding rvalue rvalue_faults
  rvalue_whole inner f h none = valued_whole f.known f.made (kept inner (not (is_lost f.known)) none) h.known h.made

-- null pointers -----------------------------------------------------------------

null_whole : (to : Ty) (made : Option Expr) → IsMadeOf made → IsWhole (null to made)
null_whole to None m = absurd cc
null_whole to (Some e) m = record { known = refl; made = refl }

pub given_whole : (to : Ty) (f : Found) → IsWhole f → IsWhole (given to f)
unfolding given
given_whole to f h = at (is_pointer to && is_null f)
  where
    at : (b : Bool) → IsWhole (cond b (null to f.made) f)
    at true = null_whole to f.made h.made
    at false = h

pub against_whole : (k : Known) (f : Found) → IsWhole f → IsWhole (against k f)
unfolding against
against_whole (known.Unknown place) f h = h
against_whole (known.Value ty) f h = given_whole ty f h
against_whole (known.Place ty within) f h = h
