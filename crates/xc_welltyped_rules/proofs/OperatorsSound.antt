-- What an operator makes is well typed where its operands are.
use Rattle.std.proofs.Common.{rules, ◌≡◌, ℕ, Bool, true, false, refl, sym, subst, cond}
use Rattle.std.specs.Prelude.{IsTrue, ◌&&◌, Option, Some, None, option_map}
use Rattle.xc_text_place.specs.declared.Span.{Span}
use Rattle.xc_tree.specs.declared.operator.BinOp.{BinOp}
use Rattle.xc_tree.specs.declared.operator.UnOp.{UnOp}
use Rattle.xc_tree.specs.declared.operator.UnOp.TheVariants as un
use Rattle.xc_tree.specs.declared.ty.Ty.{Ty, Int, Uint}
use Rattle.xc_tree.specs.declared.expr.Expr.{Expr}
use Rattle.xc_tree.specs.declared.expr.ExprKind.{ExprKind, Unary, Binary, Comma}
use Rattle.xc_tree.proofs.Lists.{and_left, and_right, and_both}
use Rattle.xc_tree.specs.Types.{is_number, is_plain, is_pointer, both_numbers, same_ty, common_type, fits}
use Rattle.xc_tree.specs.Typed.{binary_ok, unary_ok, Sort, sum, difference, shift, comparison, number, sort_of}
use Rattle.xc_type_rule.specs.declared.found.Found.{Found}
use Rattle.xc_type_rule.specs.declared.found.Known.{Known}
use Rattle.xc_type_rule.specs.declared.found.Known.TheVariants as known
use Rattle.xc_type_rule.specs.Making.{Ruling, typed, value_from, both}
use Rattle.xc_type_rule.specs.Tests.{may_be}
use Rattle.xc_welltyped.specs.Sound.{Point, IsMade, known_ok, Stands, IsSound}
use Rattle.xc_welltyped.proofs.Types.{same_ty_refl, or_left, or_right, ty_opened}
use Rattle.xc_welltyped.proofs.Forms.{const_made, unary_made, binary_made, and_made, or_made, comma_made}
use Rattle.xc_welltyped.proofs.Objects.{number_ok}
use Rattle.xc_welltyped.proofs.Nulls.{against_sound}
use Rattle.xc_welltyped.proofs.Founds.{KindMade, Typed, Keeps, found_sound}
use Rattle.xc_type_rule_operators.specs.declared.logic.Logic.{Logic}
use Rattle.xc_type_rule_operators.specs.declared.logic.Logic.TheVariants as logic
use Rattle.xc_type_rule_operators.specs.Rulings.{logic_ruling, ruled, unruled, settled, unary_type, unary_unknown, unary_ruling, cast_ruling, number_ruling, sum_ruling, difference_ruling, both_known, left_known, right_known, neither_known, binary_ruling, comma_ruling}
use Rattle.xc_type_rule_operators.specs.Operators.{number_part, unary_part, cast_part, beside, operated_part, binary_part, logic_kind, logical_part, comma_part}

module _ (so : Point) (span : Span) where
  int_ok : IsTrue (known_ok so (known.Value Int))
  int_ok = number_ok so Int (search (rules, ty_opened))

  uint_ok : IsTrue (known_ok so (known.Value Uint))
  uint_ok = number_ok so Uint (search (rules, ty_opened))

  -- rulings -------------------------------------------------------------------

  pub ruled_keeps : (b : Bool) (ty : Ty) (k : Option ExprKind) → (IsTrue b → Typed so span ty k) → Keeps so span (ruled b ty) k
  unfolding ruled
  ruled_keeps true ty k f = f refl
  ruled_keeps false ty k f = tt

  pub unruled_keeps : (b : Bool) (k : Option ExprKind) → Keeps so span (unruled b) k
  unfolding unruled
  unruled_keeps true k = tt
  unruled_keeps false k = tt

  pub settled_keeps : (certain : Bool) (ty : Ty) (fine : Bool) (k : Option ExprKind) → Typed so span ty k → Keeps so span (settled certain ty fine) k
  unfolding settled
  settled_keeps true ty fine k h = h
  settled_keeps false ty fine k h = unruled_keeps fine k

  cond_keeps : (b : Bool) (r s : Ruling) (k : Option ExprKind) → (IsTrue b → Keeps so span r k) → Keeps so span s k → Keeps so span (cond b r s) k
  cond_keeps true r s k f h = f refl
  cond_keeps false r s k f h = h

  -- numbers ---------------------------------------------------------------------

  pub number_sound : (n : ℕ) (unsigned : Bool) → IsSound so (number_part span n unsigned)
  unfolding number_part value_from
  number_sound n true = record { known = uint_ok; made = const_made so.cx span Uint n (search (rules, ty_opened)) }
  number_sound n false = record { known = int_ok; made = const_made so.cx span Int n (search (rules, ty_opened)) }

  -- one operand -------------------------------------------------------------------

  unary_kind : (ty s : Ty) (o : UnOp) (made : Option Expr) → Stands so.cx (known.Value s) made → IsTrue (unary_ok o s ty) → KindMade so span ty (option_map (Unary o) made)
  unary_kind ty s o None m r = tt
  unary_kind ty s o (Some x) m r = unary_made so.cx span ty o x s m r

  unary_type_keeps : (o : UnOp) (s : Ty) (made : Option Expr) → IsTrue (known_ok so (known.Value s)) → Stands so.cx (known.Value s) made → Keeps so span (unary_type o s) (option_map (Unary o) made)
  unfolding unary_type
  unary_type_keeps un.Not s made h m = ruled_keeps (is_plain s) Int _ (λ p. (int_ok, unary_kind Int s un.Not made m (and_both (is_plain s) (same_ty Int Int) p (same_ty_refl Int))))
  unary_type_keeps un.Neg s made h m = ruled_keeps (is_number s) s _ (λ p. (h, unary_kind s s un.Neg made m (and_both (is_number s) (same_ty s s) p (same_ty_refl s))))
  unary_type_keeps un.Complement s made h m = ruled_keeps (is_number s) s _ (λ p. (h, unary_kind s s un.Complement made m (and_both (is_number s) (same_ty s s) p (same_ty_refl s))))
  unary_type_keeps un.Cast s made h m = ruled_keeps (is_number s) s _ (λ p. (h, unary_kind s s un.Cast made m (and_both (is_number s) (is_number s) p p)))

  unary_unknown_keeps : (o : UnOp) → Keeps so span (Some (unary_unknown o)) None
  unfolding unary_unknown
  unary_unknown_keeps un.Not = (int_ok, tt)
  unary_unknown_keeps un.Neg = tt
  unary_unknown_keeps un.Complement = tt
  unary_unknown_keeps un.Cast = tt

  unary_keeps : (o : UnOp) (k : Known) (made : Option Expr) → IsTrue (known_ok so k) → Stands so.cx k made → Keeps so span (unary_ruling o k) (option_map (Unary o) made)
  unfolding unary_ruling
  unary_keeps o (known.Unknown place) None h m = unary_unknown_keeps o
  unary_keeps o (known.Unknown place) (Some x) h m = absurd m
  unary_keeps o (known.Value s) made h m = unary_type_keeps o s made h m
  unary_keeps o (known.Place s within) made h m = tt

  pub unary_sound : (o : UnOp) (a : Found) → IsSound so a → IsSound so (unary_part span o a)
  unfolding unary_part
  unary_sound o a h = found_sound so span (unary_ruling o a.known) (option_map (Unary o) a.made) (unary_keeps o a.known a.made h.known h.made)

  -- two operands ------------------------------------------------------------------

  pub common_ok : (a b : Ty) (same : Bool) → IsTrue (known_ok so (known.Value a)) → IsTrue (known_ok so (known.Value (cond same a Uint)))
  common_ok a b true h = h
  common_ok a b false h = uint_ok

  number_keeps : (a b : Ty) (k : Option ExprKind) → IsTrue (known_ok so (known.Value a)) → (IsTrue (both_numbers a b && same_ty (common_type a b) (common_type a b)) → KindMade so span (common_type a b) k) → Keeps so span (number_ruling a b) k
  unfolding number_ruling
  number_keeps a b k h f = ruled_keeps (both_numbers a b) (common_type a b) k (λ n. (common_ok a b (same_ty a b) h, f (and_both (both_numbers a b) _ n (same_ty_refl (common_type a b)))))

  known_keeps : (s : Sort) (a b : Ty) (k : Option ExprKind) → IsTrue (known_ok so (known.Value a)) → IsTrue (known_ok so (known.Value b)) → ((ty : Ty) → IsTrue (binary_ok s a b ty) → KindMade so span ty k) → Keeps so span (both_known s a b) k
  unfolding both_known sum_ruling difference_ruling ruled
  known_keeps sum a b k ha hb f =
      cond_keeps (both_numbers a b) (number_ruling a b) _ k
      (λ n. number_keeps a b k ha (λ h. f (common_type a b) (or_left _ _ h)))
      (cond_keeps (is_pointer a && is_number b) (ruled true a) _ k
      (λ p. (ha, f a (or_right (both_numbers a b && same_ty a (common_type a b)) _ (or_left _ _ (and_both (is_pointer a && is_number b) (same_ty a a) p (same_ty_refl a))))))
      (ruled_keeps (is_number a && is_pointer b) b k
      (λ p. (hb, f b (or_right (both_numbers a b && same_ty b (common_type a b)) _ (or_right (is_pointer a && is_number b && same_ty b a) _ (and_both (is_number a && is_pointer b) (same_ty b b) p (same_ty_refl b))))))))
  known_keeps difference a b k ha hb f =
      cond_keeps (both_numbers a b) (number_ruling a b) _ k
      (λ n. number_keeps a b k ha (λ h. f (common_type a b) (or_left _ _ h)))
      (cond_keeps (is_pointer a && is_number b) (ruled true a) _ k
      (λ p. (ha, f a (or_right (both_numbers a b && same_ty a (common_type a b)) _ (and_both (is_pointer a) _ (and_left (is_pointer a) _ p) (or_left _ _ (and_both (is_number b) (same_ty a a) (and_right (is_pointer a) _ p) (same_ty_refl a)))))))
      (ruled_keeps (is_pointer a && same_ty a b) Int k
      (λ p. (int_ok, f Int (or_right (both_numbers a b && same_ty Int (common_type a b)) _ (and_both (is_pointer a) _ (and_left (is_pointer a) _ p) (or_right (is_number b && same_ty Int a) _ (and_both (same_ty a b) (same_ty Int Int) (and_right (is_pointer a) _ p) (same_ty_refl Int)))))))))
  known_keeps shift a b k ha hb f = ruled_keeps (both_numbers a b) a k (λ n. (ha, f a (and_both (both_numbers a b) (same_ty a a) n (same_ty_refl a))))
  known_keeps comparison a b k ha hb f = ruled_keeps (fits a b) Int k (λ n. (int_ok, f Int (and_both (fits a b) (same_ty Int Int) n (same_ty_refl Int))))
  known_keeps number a b k ha hb f = number_keeps a b k ha (λ h. f (common_type a b) h)

  left_keeps : (s : Sort) (a : Ty) → IsTrue (known_ok so (known.Value a)) → Keeps so span (left_known s a) None
  unfolding left_known
  left_keeps sum a h = settled_keeps _ a _ None (h, tt)
  left_keeps difference a h = settled_keeps _ a _ None (h, tt)
  left_keeps shift a h = ruled_keeps (is_number a) a None (λ p. (h, tt))
  left_keeps comparison a h = ruled_keeps (is_plain a) Int None (λ p. (int_ok, tt))
  left_keeps number a h = settled_keeps _ a _ None (h, tt)

  right_keeps : (s : Sort) (b : Ty) → IsTrue (known_ok so (known.Value b)) → Keeps so span (right_known s b) None
  unfolding right_known
  right_keeps sum b h = settled_keeps _ b _ None (h, tt)
  right_keeps difference b h = settled_keeps _ Int _ None (int_ok, tt)
  right_keeps shift b h = unruled_keeps (is_number b) None
  right_keeps comparison b h = ruled_keeps (is_plain b) Int None (λ p. (int_ok, tt))
  right_keeps number b h = settled_keeps _ b _ None (h, tt)

  neither_keeps : (s : Sort) → Keeps so span (Some (neither_known s)) None
  unfolding neither_known
  neither_keeps sum = tt
  neither_keeps difference = tt
  neither_keeps shift = tt
  neither_keeps comparison = (int_ok, tt)
  neither_keeps number = tt

  binary_kind : (ty s t : Ty) (o : BinOp) (a b : Option Expr) → Stands so.cx (known.Value s) a → Stands so.cx (known.Value t) b → IsTrue (binary_ok (sort_of o) s t ty) → KindMade so span ty (both (Binary o) a b)
  unfolding both
  binary_kind ty s t o None b ma mb r = tt
  binary_kind ty s t o (Some x) None ma mb r = tt
  binary_kind ty s t o (Some x) (Some y) ma mb r = binary_made so.cx span ty o x y s t ma mb r

  none_right : (f : Expr → Expr → ExprKind) (a : Option Expr) → both f a None ≡ None
  unfolding both
  none_right f None = refl
  none_right f (Some x) = refl

  binary_keeps : (o : BinOp) (j k : Known) (a b : Option Expr) → IsTrue (known_ok so j) → IsTrue (known_ok so k) → Stands so.cx j a → Stands so.cx k b → Keeps so span (binary_ruling (sort_of o) j k) (both (Binary o) a b)
  unfolding binary_ruling both
  binary_keeps o (known.Value s) (known.Value t) a b hj hk ma mb = known_keeps (sort_of o) s t (both (Binary o) a b) hj hk (λ ty r. binary_kind ty s t o a b ma mb r)
  binary_keeps o (known.Value s) (known.Unknown place) a None hj hk ma mb = subst (Keeps so span (left_known (sort_of o) s)) (sym (none_right (Binary o) a)) (left_keeps (sort_of o) s hj)
  binary_keeps o (known.Value s) (known.Unknown place) a (Some y) hj hk ma mb = absurd mb
  binary_keeps o (known.Unknown place) (known.Value t) None b hj hk ma mb = right_keeps (sort_of o) t hk
  binary_keeps o (known.Unknown place) (known.Value t) (Some x) b hj hk ma mb = absurd ma
  binary_keeps o (known.Unknown v) (known.Unknown w) None b hj hk ma mb = neither_keeps (sort_of o)
  binary_keeps o (known.Unknown v) (known.Unknown w) (Some x) b hj hk ma mb = absurd ma
  binary_keeps o (known.Place s w) k a b hj hk ma mb = tt
  binary_keeps o (known.Value s) (known.Place t w) a b hj hk ma mb = tt
  binary_keeps o (known.Unknown place) (known.Place t w) a b hj hk ma mb = tt

  pub operated_sound : (o : BinOp) (a b : Found) → IsSound so a → IsSound so b → IsSound so (operated_part span o a b)
  unfolding operated_part
  operated_sound o a b ha hb = found_sound so span (binary_ruling (sort_of o) a.known b.known) (both (Binary o) a.made b.made) (binary_keeps o a.known b.known a.made b.made ha.known hb.known ha.made hb.made)

  beside_sound : (s : Sort) (k : Known) (f : Found) → IsTrue (known_ok so k) → IsSound so f → IsSound so (beside s k f)
  unfolding beside
  beside_sound comparison k f h s = against_sound so k f h s
  beside_sound sum k f h s = s
  beside_sound difference k f h s = s
  beside_sound shift k f h s = s
  beside_sound number k f h s = s

  pub binary_sound : (o : BinOp) (a b : Found) → IsSound so a → IsSound so b → IsSound so (binary_part span o a b)
  unfolding binary_part
  binary_sound o a b ha hb =
      let l = beside (sort_of o) b.known a in
      let hl : IsSound so l = beside_sound (sort_of o) b.known a hb.known ha in
      operated_sound o l (beside (sort_of o) l.known b) hl (beside_sound (sort_of o) l.known b hl.known hb)

  -- `&&`, `||` and `,` ------------------------------------------------------------

  logic_pair : (o : Logic) (x y : Expr) (s t : Ty) → IsMade so.cx s false x → IsMade so.cx t false y → IsTrue (is_plain s) → IsTrue (is_plain t) → IsMade so.cx Int false (typed span Int (logic_kind o x y))
  unfolding logic_kind
  logic_pair logic.And x y s t mx my hs ht = and_made so.cx span x y s t mx my hs ht
  logic_pair logic.Or x y s t mx my hs ht = or_made so.cx span x y s t mx my hs ht

  logic_made : (o : Logic) (j k : Known) (a b : Option Expr) → Stands so.cx j a → Stands so.cx k b → IsTrue (may_be is_plain j) → IsTrue (may_be is_plain k) → KindMade so span Int (both (logic_kind o) a b)
  unfolding both may_be
  logic_made o j k None b ma mb hj hk = tt
  logic_made o j k (Some x) None ma mb hj hk = tt
  logic_made o (known.Value s) (known.Value t) (Some x) (Some y) ma mb hj hk = logic_pair o x y s t ma mb hj hk
  logic_made o (known.Value s) (known.Unknown place) (Some x) (Some y) ma mb hj hk = absurd mb
  logic_made o (known.Value s) (known.Place t w) (Some x) (Some y) ma mb hj hk = absurd cc
  logic_made o (known.Unknown place) k (Some x) (Some y) ma mb hj hk = absurd ma
  logic_made o (known.Place s w) k (Some x) (Some y) ma mb hj hk = absurd cc

  pub logical_sound : (o : Logic) (a b : Found) → IsSound so a → IsSound so b → IsSound so (logical_part span o a b)
  unfolding logical_part logic_ruling
  logical_sound o a b ha hb = found_sound so span (ruled (may_be is_plain a.known && may_be is_plain b.known) Int) (both (logic_kind o) a.made b.made)
      (ruled_keeps (may_be is_plain a.known && may_be is_plain b.known) Int _
      (λ p. (int_ok, logic_made o a.known b.known a.made b.made ha.made hb.made (and_left (may_be is_plain a.known) _ p) (and_right (may_be is_plain a.known) _ p))))

  comma_kind : (j : Known) (t : Ty) (a b : Option Expr) → Stands so.cx j a → Stands so.cx (known.Value t) b → IsTrue (may_be (λ s. true) j) → KindMade so span t (both Comma a b)
  unfolding both may_be
  comma_kind j t None b ma mb h = tt
  comma_kind j t (Some x) None ma mb h = tt
  comma_kind (known.Unknown place) t (Some x) (Some y) ma mb h = absurd ma
  comma_kind (known.Value s) t (Some x) (Some y) ma mb h = comma_made so.cx span x y s t ma mb
  comma_kind (known.Place s w) t (Some x) (Some y) ma mb h = absurd cc

  comma_keeps : (j k : Known) (a b : Option Expr) → IsTrue (known_ok so k) → Stands so.cx j a → Stands so.cx k b → Keeps so span (comma_ruling j k) (both Comma a b)
  unfolding comma_ruling
  comma_keeps j (known.Unknown place) a b h ma mb = unruled_keeps (may_be (λ s. true) j) _
  comma_keeps j (known.Value t) a b h ma mb = ruled_keeps (may_be (λ s. true) j) t _ (λ p. (h, comma_kind j t a b ma mb p))
  comma_keeps j (known.Place t w) a b h ma mb = tt

  pub comma_sound : (a b : Found) → IsSound so a → IsSound so b → IsSound so (comma_part span a b)
  unfolding comma_part
  comma_sound a b ha hb = found_sound so span (comma_ruling a.known b.known) (both Comma a.made b.made) (comma_keeps a.known b.known a.made b.made hb.known ha.made hb.made)

  -- a cast ------------------------------------------------------------------------

  cast_kind : (to : Ty) (k : Known) (made : Option Expr) → Stands so.cx k made → IsTrue (is_number to && may_be is_number k) → KindMade so span to (option_map (Unary un.Cast) made)
  unfolding may_be
  cast_kind to k None m r = tt
  cast_kind to (known.Unknown place) (Some x) m r = absurd m
  cast_kind to (known.Value s) (Some x) m r = unary_made so.cx span to un.Cast x s m (and_both (is_number s) (is_number to) (and_right (is_number to) _ r) (and_left (is_number to) _ r))
  cast_kind to (known.Place s w) (Some x) m r = absurd (let p : IsTrue false = and_right (is_number to) _ r in cc)

  cast_keeps : (to : Option Ty) (k : Known) (made : Option Expr) → Stands so.cx k made → Keeps so span (cast_ruling to k) (option_map (Unary un.Cast) made)
  unfolding cast_ruling
  cast_keeps None k made m = unruled_keeps (may_be is_number k) _
  cast_keeps (Some to) k made m = ruled_keeps (is_number to && may_be is_number k) to _ (λ r. (number_ok so to (and_left (is_number to) _ r), cast_kind to k made m r))

  pub cast_sound : (to : Option Ty) (a : Found) → IsSound so a → IsSound so (cast_part span to a)
  unfolding cast_part
  cast_sound to a h = found_sound so span (cast_ruling to a.known) (option_map (Unary un.Cast) a.made) (cast_keeps to a.known a.made h.made)
