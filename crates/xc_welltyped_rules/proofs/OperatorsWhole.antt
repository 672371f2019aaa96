-- What an operator makes of operands that are whole is whole where its rule is kept.
use Rattle.std.proofs.Common.{◌≡◌, ℕ, [], Bool, true, false, refl}
use Rattle.std.specs.Prelude.{IsTrue, ◌&&◌, ◌||◌, cond, Option, Some, None}
use Rattle.xc_text_place.specs.declared.Span.{Span}
use Rattle.xc_tree.specs.declared.operator.BinOp.{BinOp}
use Rattle.xc_tree.specs.declared.operator.UnOp.{UnOp}
use Rattle.xc_tree.specs.declared.operator.UnOp.TheVariants as un
use Rattle.xc_tree.specs.declared.ty.Ty.{Ty, Int, Uint}
use Rattle.xc_tree.specs.declared.expr.Expr.{Expr}
use Rattle.xc_tree.specs.declared.expr.ExprKind.{Const, Update, Unary, Binary, Comma}
use Rattle.xc_tree.specs.Types.{same_ty, is_number, is_plain, is_pointer, both_numbers}
use Rattle.xc_tree.specs.Typed.{Sort, sum, difference, shift, comparison, number, sort_of}
use Rattle.xc_type_rule.specs.declared.found.Found.{Found}
use Rattle.xc_type_rule.specs.declared.found.Known.{Known}
use Rattle.xc_type_rule.specs.declared.found.Known.TheVariants as known
use Rattle.xc_type_rule.specs.Making.{Ruling}
use Rattle.xc_type_rule.specs.Nulls.{is_null, is_number_value, against}
use Rattle.xc_type_rule.specs.Tests.{may_be}
use Rattle.xc_welltyped.specs.Sound.{IsWhole}
use Rattle.xc_welltyped.proofs.Whole.{IsMadeOf, IsKnown, mapped, both_made, gives_value, value_whole, found_whole, spanned_whole, kept, given_whole, against_whole}
use Rattle.xc_type_rule_operators.specs.declared.logic.Logic.{Logic}
use Rattle.xc_type_rule_operators.specs.Rulings.{ruled, unary_type, unary_ruling, cast_ruling, number_ruling, sum_ruling, difference_ruling, both_known, binary_ruling, logic_ruling, comma_ruling, branches_type, branches_ruling, conditional_ruling, target, given_ruling, assign_ruling, updated_ruling, update_ruling}
use Rattle.xc_type_rule_operators.specs.Operators.{number_part, grouped, plus_part, plus_faults, unary_part, unary_faults, cast_part, cast_faults, beside, operated_part, operated_faults, binary_part, binary_faults, logic_kind, logical_part, logical_faults, comma_part, comma_faults, cond_kind, chosen_part, chosen_faults, conditional_part, conditional_faults, write_of, suited, written_part, written_faults, assign_part, assign_faults, update_part, update_faults, step_part, step_faults}

-- rulings -------------------------------------------------------------------------

ruled_gives : (b : Bool) (ty : Ty) → IsTrue (gives_value (ruled b ty))
unfolding ruled
ruled_gives true ty = refl
ruled_gives false ty = refl

cond_gives : (b : Bool) (r s : Ruling) → IsTrue (gives_value r) → IsTrue (gives_value s) → IsTrue (gives_value (cond b r s))
cond_gives true r s hr hs = hr
cond_gives false r s hr hs = hs

unary_gives : (o : UnOp) (k : Known) → IsKnown k → IsTrue (gives_value (unary_ruling o k))
unfolding unary_ruling unary_type
unary_gives o (known.Unknown place) h = absurd cc
unary_gives un.Not (known.Value ty) h = ruled_gives (is_plain ty) Int
unary_gives un.Neg (known.Value ty) h = ruled_gives (is_number ty) ty
unary_gives un.Complement (known.Value ty) h = ruled_gives (is_number ty) ty
unary_gives un.Cast (known.Value ty) h = ruled_gives (is_number ty) ty
unary_gives o (known.Place ty within) h = refl

known_gives : (s : Sort) (a b : Ty) → IsTrue (gives_value (both_known s a b))
unfolding both_known sum_ruling difference_ruling number_ruling
known_gives sum a b = cond_gives (both_numbers a b) _ _ (ruled_gives (both_numbers a b) _)
    (cond_gives (is_pointer a && is_number b) _ _ (ruled_gives true a) (ruled_gives (is_number a && is_pointer b) b))
known_gives difference a b = cond_gives (both_numbers a b) _ _ (ruled_gives (both_numbers a b) _)
    (cond_gives (is_pointer a && is_number b) _ _ (ruled_gives true a) (ruled_gives (is_pointer a && same_ty a b) Int))
known_gives shift a b = ruled_gives (both_numbers a b) a
known_gives comparison a b = ruled_gives _ Int
known_gives number a b = ruled_gives (both_numbers a b) _

binary_gives : (s : Sort) (j k : Known) → IsKnown j → IsKnown k → IsTrue (gives_value (binary_ruling s j k))
unfolding binary_ruling
binary_gives s (known.Value a) (known.Value b) hj hk = known_gives s a b
binary_gives s (known.Value a) (known.Unknown place) hj hk = absurd cc
binary_gives s (known.Value a) (known.Place b within) hj hk = refl
binary_gives s (known.Place a within) k hj hk = refl
binary_gives s (known.Unknown place) k hj hk = absurd cc

comma_gives : (j k : Known) → IsKnown k → IsTrue (gives_value (comma_ruling j k))
unfolding comma_ruling
comma_gives j (known.Unknown place) hk = absurd cc
comma_gives j (known.Value ty) hk = ruled_gives _ ty
comma_gives j (known.Place ty within) hk = refl

branches_gives : (j k : Known) (nulls : Bool × Bool) → IsKnown j → IsKnown k → IsTrue (gives_value (branches_ruling j k nulls))
unfolding branches_ruling branches_type
branches_gives (known.Value s) (known.Value t) nulls hj hk = ruled_gives (same_ty s t || both_numbers s t) _
branches_gives (known.Value s) (known.Unknown place) nulls hj hk = absurd cc
branches_gives (known.Value s) (known.Place t within) nulls hj hk = refl
branches_gives (known.Place s within) k nulls hj hk = refl
branches_gives (known.Unknown place) k nulls hj hk = absurd cc

given_gives : (t : Option Ty) (v : Known) → IsTrue (gives_value (given_ruling t v))
unfolding given_ruling
given_gives None v = refl
given_gives (Some t) v = ruled_gives _ t

assign_gives : (to : Known) (t : Option Ty) (v : Known) → IsKnown to → IsTrue (gives_value (assign_ruling to t v))
unfolding assign_ruling
assign_gives (known.Unknown place) t v h = absurd cc
assign_gives (known.Value ty) t v h = given_gives t v
assign_gives (known.Place ty within) t v h = given_gives t v

updated_gives : (s : Sort) (t : Option Ty) (v : Known) → IsTrue (gives_value (updated_ruling s t v))
unfolding updated_ruling
updated_gives s None v = refl
updated_gives s (Some t) v = ruled_gives _ t

update_gives : (s : Sort) (to v : Known) → IsKnown to → IsTrue (gives_value (update_ruling s to v))
unfolding update_ruling
update_gives s (known.Unknown place) v h = absurd cc
update_gives s (known.Value ty) v h = updated_gives s _ v
update_gives s (known.Place ty within) v h = updated_gives s _ v

cond_made : (test a b : Option Expr) → IsMadeOf test → IsMadeOf a → IsMadeOf b → IsMadeOf (cond_kind test a b)
unfolding cond_kind
cond_made None a b mt ma mb = absurd cc
cond_made (Some x) None b mt ma mb = absurd cc
cond_made (Some x) (Some y) None mt ma mb = absurd cc
cond_made (Some x) (Some y) (Some z) mt ma mb = refl

beside_whole : (s : Sort) (k : Known) (f : Found) → IsWhole f → IsWhole (beside s k f)
unfolding beside
beside_whole comparison k f h = against_whole k f h
beside_whole sum k f h = h
beside_whole difference k f h = h
beside_whole shift k f h = h
beside_whole number k f h = h

suited_whole : (t : Option Ty) (v : Found) → IsWhole v → IsWhole (suited t v)
unfolding suited
suited_whole None v h = h
suited_whole (Some t) v h = given_whole t v h

-- rules ---------------------------------------------------------------------------

module _ (span : Span) where
  pub number_whole : (n : ℕ) (unsigned : Bool) → IsWhole (number_part span n unsigned)
  unfolding number_part
  number_whole n unsigned = value_whole span (cond unsigned Uint Int) (Some (Const n)) refl

  pub grouped_whole : (a : Found) → IsWhole a → IsWhole (grouped span a)
  unfolding grouped
  grouped_whole a h = record { known = h.known; made = spanned_whole span a.made h.made }

  number_value : (k : Known) → IsKnown k → IsTrue (may_be is_number k) → IsTrue (is_number_value k)
  unfolding may_be
  number_value (known.Unknown place) h n = absurd cc
  number_value (known.Value ty) h n = n
  number_value (known.Place ty within) h n = absurd cc

  pub plus_whole : (a : Found) → IsWhole a → plus_faults span a ≡ [] → IsWhole (plus_part a)
  unfolding plus_part plus_faults
  plus_whole a h none = rw (number_value a.known h.known (kept span (may_be is_number a.known) none)) h

  pub unary_whole : (o : UnOp) (a : Found) → IsWhole a → unary_faults span o a ≡ [] → IsWhole (unary_part span o a)
  unfolding unary_part unary_faults
  unary_whole o a h none = found_whole span (unary_ruling o a.known) _ (unary_gives o a.known h.known) none (mapped (Unary o) a.made h.made)

  -- to a type without a fault
  pub cast_whole : (to : Ty) (a : Found) → IsWhole a → cast_faults span (Some to) a ≡ [] → IsWhole (cast_part span (Some to) a)
  unfolding cast_part cast_faults cast_ruling
  cast_whole to a h none = found_whole span (cast_ruling (Some to) a.known) _ (ruled_gives (is_number to && may_be is_number a.known) to) none (mapped (Unary un.Cast) a.made h.made)

  operated_whole : (o : BinOp) (a b : Found) → IsWhole a → IsWhole b → operated_faults span o a b ≡ [] → IsWhole (operated_part span o a b)
  unfolding operated_part operated_faults
  operated_whole o a b ha hb none = found_whole span (binary_ruling (sort_of o) a.known b.known) _ (binary_gives (sort_of o) a.known b.known ha.known hb.known) none (both_made (Binary o) a.made b.made ha.made hb.made)

  pub binary_whole : (o : BinOp) (a b : Found) → IsWhole a → IsWhole b → binary_faults span o a b ≡ [] → IsWhole (binary_part span o a b)
  unfolding binary_part binary_faults
  binary_whole o a b ha hb none =
      let l = beside (sort_of o) b.known a in
      operated_whole o l (beside (sort_of o) l.known b) (beside_whole (sort_of o) b.known a ha) (beside_whole (sort_of o) l.known b hb) none

  pub logical_whole : (o : Logic) (a b : Found) → IsWhole a → IsWhole b → logical_faults span o a b ≡ [] → IsWhole (logical_part span o a b)
  unfolding logical_part logical_faults logic_ruling
  logical_whole o a b ha hb none = found_whole span (logic_ruling a.known b.known) _ (ruled_gives (may_be is_plain a.known && may_be is_plain b.known) Int) none (both_made (logic_kind o) a.made b.made ha.made hb.made)

  pub comma_whole : (a b : Found) → IsWhole a → IsWhole b → comma_faults span a b ≡ [] → IsWhole (comma_part span a b)
  unfolding comma_part comma_faults
  comma_whole a b ha hb none = found_whole span (comma_ruling a.known b.known) _ (comma_gives a.known b.known hb.known) none (both_made Comma a.made b.made ha.made hb.made)

  chosen_whole : (test a b : Found) → IsWhole test → IsWhole a → IsWhole b → chosen_faults span test a b ≡ [] → IsWhole (chosen_part span test a b)
  unfolding chosen_part chosen_faults conditional_ruling
  chosen_whole test a b ht ha hb none =
      let nulls : Bool × Bool = (is_null a, is_null b) in
      found_whole span (conditional_ruling test.known a.known b.known nulls) _
      (cond_gives (may_be is_plain test.known) (branches_ruling a.known b.known nulls) None (branches_gives a.known b.known nulls ha.known hb.known) refl)
      none (cond_made test.made a.made b.made ht.made ha.made hb.made)

  pub conditional_whole : (test a b : Found) → IsWhole test → IsWhole a → IsWhole b → conditional_faults span test a b ≡ [] → IsWhole (conditional_part span test a b)
  unfolding conditional_part conditional_faults
  conditional_whole test a b ht ha hb none =
      let l = against b.known a in
      chosen_whole test l (against l.known b) ht (against_whole b.known a ha) (against_whole l.known b hb) none

  written_whole : (to v : Found) → IsWhole to → IsWhole v → written_faults span to v ≡ [] → IsWhole (written_part span to v)
  unfolding written_part written_faults
  written_whole to v ht hv none = found_whole span (assign_ruling to.known (target to.known) v.known) _ (assign_gives to.known (target to.known) v.known ht.known) none (both_made write_of to.made v.made ht.made hv.made)

  pub assign_whole : (to v : Found) → IsWhole to → IsWhole v → assign_faults span to v ≡ [] → IsWhole (assign_part span to v)
  unfolding assign_part assign_faults
  assign_whole to v ht hv none = written_whole to (suited (target to.known) v) ht (suited_whole (target to.known) v hv) none

  pub update_whole : (o : BinOp) (post : Bool) (to v : Found) → IsWhole to → IsWhole v → update_faults span o to v ≡ [] → IsWhole (update_part span o post to v)
  unfolding update_part update_faults
  update_whole o post to v ht hv none = found_whole span (update_ruling (sort_of o) to.known v.known) _ (update_gives (sort_of o) to.known v.known ht.known) none (both_made (Update o post) to.made v.made ht.made hv.made)

  pub step_whole : (o : BinOp) (post : Bool) (to : Found) → IsWhole to → step_faults span o to ≡ [] → IsWhole (step_part span o post to)
  step_whole o post to h none = update_whole o post to (number_part span 1 false) h (number_whole 1 false) none
