-- What `?:`, assignments, parentheses and `+` make is well typed where their operands are.
use Rattle.std.proofs.Common.{◌≡◌, Bool, true, false, refl, subst, sym}
use Rattle.std.specs.Prelude.{IsTrue, ◌&&◌, ◌||◌, cond, Option, Some, None}
use Rattle.xc_text_place.specs.declared.Span.{Span}
use Rattle.xc_tree.specs.declared.operator.BinOp.{BinOp}
use Rattle.xc_tree.specs.declared.ty.Ty.{Ty}
use Rattle.xc_tree.specs.declared.expr.Expr.{Expr}
use Rattle.xc_tree.specs.declared.expr.ExprKind.{Update}
use Rattle.xc_tree.proofs.Lists.{and_left, and_right}
use Rattle.xc_tree.specs.Types.{is_number, is_plain, both_numbers, same_ty, common_type, base, fits}
use Rattle.xc_tree.specs.Typed.{sort_of, update_ok}
use Rattle.xc_type_rule.specs.declared.found.Found.{Found}
use Rattle.xc_type_rule.specs.declared.found.Known.{Known}
use Rattle.xc_type_rule.specs.declared.found.Known.TheVariants as known
use Rattle.xc_type_rule.specs.Making.{unknown_value, spanned, both}
use Rattle.xc_type_rule.specs.Nulls.{is_null, is_number_value, against}
use Rattle.xc_type_rule.specs.Tests.{may_be}
use Rattle.xc_welltyped.specs.Sound.{Point, known_ok, Stands, IsSound}
use Rattle.xc_welltyped.proofs.Objects.{base_ok}
use Rattle.xc_welltyped.proofs.Accesses.{write_made, update_made, cond_made, spanned_made}
use Rattle.xc_welltyped.proofs.Nulls.{given_sound, against_sound}
use Rattle.xc_type_rule_operators.specs.Rulings.{branches_type, branch_type, branches_ruling, conditional_ruling, target, given_ruling, assign_ruling, updated_ruling, update_ruling}
use Rattle.xc_type_rule_operators.specs.Operators.{grouped, plus_part, cond_kind, chosen_part, conditional_part, write_of, suited, written_part, assign_part, update_part, step_part, number_part}
use Rattle.xc_welltyped.proofs.Founds.{KindMade, Keeps, found_sound}
use Rattle.xc_welltyped_rules.proofs.OperatorsSound.{ruled_keeps, unruled_keeps, settled_keeps, common_ok, number_sound}

module _ (so : Point) (span : Span) where
  -- parentheses and `+` -----------------------------------------------------------

  unknown_sound : IsSound so unknown_value
  unknown_sound = record { known = refl; made = tt }

  spanned_stands : (k : Known) (made : Option Expr) → Stands so.cx k made → Stands so.cx k (spanned span made)
  unfolding spanned
  spanned_stands k None m = tt
  spanned_stands (known.Unknown place) (Some x) m = absurd m
  spanned_stands (known.Value ty) (Some x) m = spanned_made so.cx span ty false x m
  spanned_stands (known.Place ty w) (Some x) m = record { made = spanned_made so.cx span _ w x m.made; unraised = m.unraised }

  pub grouped_sound : (a : Found) → IsSound so a → IsSound so (grouped span a)
  unfolding grouped
  grouped_sound a h = record { known = h.known; made = spanned_stands a.known a.made h.made }

  plus_at : (b : Bool) (a : Found) → IsSound so a → IsSound so (cond b a unknown_value)
  plus_at true a h = h
  plus_at false a h = unknown_sound

  pub plus_sound : (a : Found) → IsSound so a → IsSound so (plus_part a)
  unfolding plus_part
  plus_sound a h = plus_at (is_number_value a.known) a h

  -- `?:` ----------------------------------------------------------------------------

  none_then : (test other : Option Expr) → cond_kind test None other ≡ None
  unfolding cond_kind
  none_then None other = refl
  none_then (Some x) other = refl

  none_other : (test then : Option Expr) → cond_kind test then None ≡ None
  unfolding cond_kind
  none_other None then = refl
  none_other (Some x) None = refl
  none_other (Some x) (Some y) = refl

  chosen_kind : (s t u : Ty) (test a b : Option Expr) → Stands so.cx (known.Value s) test → Stands so.cx (known.Value t) a → Stands so.cx (known.Value u) b → IsTrue (is_plain s) → IsTrue (same_ty t u || both_numbers t u) → KindMade so span (common_type t u) (cond_kind test a b)
  unfolding cond_kind
  chosen_kind s t u None a b ms ma mb p r = tt
  chosen_kind s t u (Some x) None b ms ma mb p r = tt
  chosen_kind s t u (Some x) (Some y) None ms ma mb p r = tt
  chosen_kind s t u (Some x) (Some y) (Some z) ms ma mb p r = cond_made so.cx span s t u x y z ms ma mb p r

  tested_kind : (j : Known) (t u : Ty) (test a b : Option Expr) → Stands so.cx j test → Stands so.cx (known.Value t) a → Stands so.cx (known.Value u) b → IsTrue (may_be is_plain j) → IsTrue (same_ty t u || both_numbers t u) → KindMade so span (common_type t u) (cond_kind test a b)
  unfolding may_be cond_kind
  tested_kind (known.Unknown place) t u None a b ms ma mb p r = tt
  tested_kind (known.Unknown place) t u (Some x) a b ms ma mb p r = absurd ms
  tested_kind (known.Value s) t u test a b ms ma mb p r = chosen_kind s t u test a b ms ma mb p r
  tested_kind (known.Place s w) t u test a b ms ma mb p r = absurd cc

  branches_keeps : (j k l : Known) (nulls : Bool × Bool) (test a b : Option Expr) → IsTrue (known_ok so k) → IsTrue (known_ok so l) → Stands so.cx j test → Stands so.cx k a → Stands so.cx l b → IsTrue (may_be is_plain j) → Keeps so span (branches_ruling k l nulls) (cond_kind test a b)
  unfolding branches_ruling branches_type branch_type
  branches_keeps j (known.Value t) (known.Value u) nulls test a b hk hl mj mk ml p =
      ruled_keeps so span (same_ty t u || both_numbers t u) (common_type t u) _ (λ r. (common_ok so span t u (same_ty t u) hk, tested_kind j t u test a b mj mk ml p r))
  branches_keeps j (known.Value t) (known.Unknown place) nulls test a None hk hl mj mk ml p =
      subst (Keeps so span (branch_type t nulls.0)) (sym (none_other test a)) (settled_keeps so span _ t true None (hk, tt))
  branches_keeps j (known.Value t) (known.Unknown place) nulls test a (Some z) hk hl mj mk ml p = absurd ml
  branches_keeps j (known.Unknown place) (known.Value u) nulls test None b hk hl mj mk ml p =
      subst (Keeps so span (branch_type u nulls.1)) (sym (none_then test b)) (settled_keeps so span _ u true None (hl, tt))
  branches_keeps j (known.Unknown place) (known.Value u) nulls test (Some y) b hk hl mj mk ml p = absurd mk
  branches_keeps j (known.Unknown v) (known.Unknown w) nulls test a b hk hl mj mk ml p = tt
  branches_keeps j (known.Place t w) l nulls test a b hk hl mj mk ml p = tt
  branches_keeps j (known.Value t) (known.Place u w) nulls test a b hk hl mj mk ml p = tt
  branches_keeps j (known.Unknown place) (known.Place u w) nulls test a b hk hl mj mk ml p = tt

  conditional_keeps : (j k l : Known) (nulls : Bool × Bool) (test a b : Option Expr) → IsTrue (known_ok so k) → IsTrue (known_ok so l) → Stands so.cx j test → Stands so.cx k a → Stands so.cx l b → Keeps so span (conditional_ruling j k l nulls) (cond_kind test a b)
  unfolding conditional_ruling
  conditional_keeps j k l nulls test a b hk hl mj mk ml = at (may_be is_plain j) refl
    where
      at : (c : Bool) → may_be is_plain j ≡ c → Keeps so span (cond c (branches_ruling k l nulls) None) (cond_kind test a b)
      at true e = branches_keeps j k l nulls test a b hk hl mj mk ml e
      at false e = tt

  chosen_sound : (test a b : Found) → IsSound so test → IsSound so a → IsSound so b → IsSound so (chosen_part span test a b)
  unfolding chosen_part
  chosen_sound test a b hs ha hb =
      found_sound so span (conditional_ruling test.known a.known b.known (is_null a, is_null b)) (cond_kind test.made a.made b.made)
      (conditional_keeps test.known a.known b.known (is_null a, is_null b) test.made a.made b.made ha.known hb.known hs.made ha.made hb.made)

  pub conditional_sound : (test a b : Found) → IsSound so test → IsSound so a → IsSound so b → IsSound so (conditional_part span test a b)
  unfolding conditional_part
  conditional_sound test a b hs ha hb =
      let l = against b.known a in
      let hl : IsSound so l = against_sound so b.known a hb.known ha in
      chosen_sound test l (against l.known b) hs hl (against_sound so l.known b hl.known hb)

  -- assignments ---------------------------------------------------------------------

  written_kind : (t u : Ty) (w : Bool) (k : Known) (a b : Option Expr) → base t ≡ Some u → Stands so.cx (known.Place t w) a → Stands so.cx k b → IsTrue (may_be (fits u) k) → KindMade so span u (both write_of a b)
  unfolding both may_be write_of
  written_kind t u w k None b is ma mb r = tt
  written_kind t u w k (Some x) None is ma mb r = tt
  written_kind t u w (known.Unknown place) (Some x) (Some y) is ma mb r = absurd mb
  written_kind t u w (known.Value v) (Some x) (Some y) is ma mb r = write_made so.cx span t u v w x y ma.made mb is r
  written_kind t u w (known.Place v z) (Some x) (Some y) is ma mb r = absurd cc

  given_keeps : (t : Ty) (w : Bool) (k : Known) (a b : Option Expr) → IsTrue (known_ok so (known.Place t w)) → Stands so.cx (known.Place t w) a → Stands so.cx k b → Keeps so span (given_ruling (base t) k) (both write_of a b)
  unfolding given_ruling
  given_keeps t w k a b h ma mb = at (base t) refl
    where
      at : (o : Option Ty) → base t ≡ o → Keeps so span (given_ruling o k) (both write_of a b)
      at None is = tt
      at (Some u) is = ruled_keeps so span (may_be (fits u) k) u _ (λ r. (base_ok so t u is h, written_kind t u w k a b is ma mb r))

  assign_keeps : (j k : Known) (a b : Option Expr) → IsTrue (known_ok so j) → Stands so.cx j a → Stands so.cx k b → Keeps so span (assign_ruling j (target j) k) (both write_of a b)
  unfolding assign_ruling target given_ruling
  assign_keeps (known.Unknown true) k a b h ma mb = unruled_keeps so span (may_be is_plain k) _
  assign_keeps (known.Unknown false) k a b h ma mb = tt
  assign_keeps (known.Value t) k a b h ma mb = tt
  assign_keeps (known.Place t w) k a b h ma mb = given_keeps t w k a b h ma mb

  written_sound : (to v : Found) → IsSound so to → IsSound so v → IsSound so (written_part span to v)
  unfolding written_part
  written_sound to v ht hv = found_sound so span (assign_ruling to.known (target to.known) v.known) (both write_of to.made v.made) (assign_keeps to.known v.known to.made v.made ht.known ht.made hv.made)

  suited_sound : (k : Known) (v : Found) → IsTrue (known_ok so k) → IsSound so v → IsSound so (suited (target k) v)
  unfolding suited target
  suited_sound (known.Unknown place) v h s = s
  suited_sound (known.Value t) v h s = s
  suited_sound (known.Place t w) v h s = at (base t) refl
    where
      at : (o : Option Ty) → base t ≡ o → IsSound so (suited o v)
      at None is = s
      at (Some u) is = given_sound so u v (base_ok so t u is h) s

  pub assign_sound : (to v : Found) → IsSound so to → IsSound so v → IsSound so (assign_part span to v)
  unfolding assign_part
  assign_sound to v ht hv = written_sound to (suited (target to.known) v) ht (suited_sound to.known v ht.known hv)

  updated_kind : (o : BinOp) (post : Bool) (t u : Ty) (w : Bool) (k : Known) (a b : Option Expr) → base t ≡ Some u → Stands so.cx (known.Place t w) a → Stands so.cx k b → IsTrue (update_ok (sort_of o) u) → IsTrue (may_be is_number k) → KindMade so span u (both (Update o post) a b)
  unfolding both may_be
  updated_kind o post t u w k None b is ma mb r n = tt
  updated_kind o post t u w k (Some x) None is ma mb r n = tt
  updated_kind o post t u w (known.Unknown place) (Some x) (Some y) is ma mb r n = absurd mb
  updated_kind o post t u w (known.Value v) (Some x) (Some y) is ma mb r n = update_made so.cx span o post t u v w x y ma.made mb is r n
  updated_kind o post t u w (known.Place v z) (Some x) (Some y) is ma mb r n = absurd cc

  updated_keeps : (o : BinOp) (post : Bool) (t : Ty) (w : Bool) (k : Known) (a b : Option Expr) → IsTrue (known_ok so (known.Place t w)) → Stands so.cx (known.Place t w) a → Stands so.cx k b → Keeps so span (updated_ruling (sort_of o) (base t) k) (both (Update o post) a b)
  unfolding updated_ruling
  updated_keeps o post t w k a b h ma mb = at (base t) refl
    where
      at : (p : Option Ty) → base t ≡ p → Keeps so span (updated_ruling (sort_of o) p k) (both (Update o post) a b)
      at None is = tt
      at (Some u) is = ruled_keeps so span (update_ok (sort_of o) u && may_be is_number k) u _
          (λ r. (base_ok so t u is h, updated_kind o post t u w k a b is ma mb (and_left (update_ok (sort_of o) u) _ r) (and_right (update_ok (sort_of o) u) _ r)))

  update_keeps : (o : BinOp) (post : Bool) (j k : Known) (a b : Option Expr) → IsTrue (known_ok so j) → Stands so.cx j a → Stands so.cx k b → Keeps so span (update_ruling (sort_of o) j k) (both (Update o post) a b)
  unfolding update_ruling target updated_ruling
  update_keeps o post (known.Unknown true) k a b h ma mb = unruled_keeps so span (may_be is_number k) _
  update_keeps o post (known.Unknown false) k a b h ma mb = tt
  update_keeps o post (known.Value t) k a b h ma mb = tt
  update_keeps o post (known.Place t w) k a b h ma mb = updated_keeps o post t w k a b h ma mb

  pub update_sound : (o : BinOp) (post : Bool) (to v : Found) → IsSound so to → IsSound so v → IsSound so (update_part span o post to v)
  unfolding update_part
  update_sound o post to v ht hv = found_sound so span (update_ruling (sort_of o) to.known v.known) (both (Update o post) to.made v.made) (update_keeps o post to.known v.known to.made v.made ht.known ht.made hv.made)

  pub step_sound : (o : BinOp) (post : Bool) (to : Found) → IsSound so to → IsSound so (step_part span o post to)
  step_sound o post to h = update_sound o post to (number_part span 1 false) h (number_sound so span 1 false)
