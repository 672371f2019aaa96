-- What is put together by the forms of expressions.
use Rattle.std.proofs.Common.{ℕ, ◌+◌, ◌≤◌, Bool, arith}
use Rattle.std.specs.Prelude.{Option, Some, None, option_map}
use Rattle.xc_text_place.specs.declared.Span.{Span}
use Rattle.xc_tree.specs.declared.ty.Ty.{Ty, Ptr}
use Rattle.xc_tree.specs.declared.expr.Expr.{Expr}
use Rattle.xc_tree.specs.declared.expr.ExprKind.{ExprKind}
use Rattle.xc_type_rule.specs.declared.found.Known.TheVariants as known
use Rattle.xc_type_rule.specs.Making.{typed, value_from, place_from, declared_place, Ruling, found_by, place_by, spanned, both}
use Rattle.xc_tree_sizes.specs.Nodes.{if_there, kind_nodes, expr_nodes}
use Rattle.xc_tree_sizes.proofs.Nodes.{nodes_are}
use Rattle.xc_welltyped_sizes.specs.Made.{found_nodes}

abbrev pub made_nodes : Option Expr → ℕ
made_nodes e = if_there expr_nodes e

abbrev pub forms_nodes : Option ExprKind → ℕ
forms_nodes k = if_there kind_nodes k

pub value_most : (span : Span) (ty : Ty) (k : Option ExprKind) → found_nodes (value_from span ty k) ≤ forms_nodes k
unfolding value_from
value_most span ty None = omega arith
value_most span ty (Some k) = omega (arith, nodes_are (typed span ty k))

pub place_most : (span : Span) (ty : Ty) (within : Bool) (k : Option ExprKind) → found_nodes (place_from span ty within k) ≤ forms_nodes k
unfolding place_from
place_most span ty within None = omega arith
place_most span ty within (Some k) = omega (arith, nodes_are (typed span (Ptr ty) k))

pub declared_most : (span : Span) (ty : Option Ty) (within : Bool) (k : Option ExprKind) → found_nodes (declared_place span ty within k) ≤ forms_nodes k
unfolding declared_place
declared_most span None within k = omega arith
declared_most span (Some ty) within k = place_most span ty within k

pub found_most : (span : Span) (r : Ruling) (k : Option ExprKind) (n : ℕ) → forms_nodes k ≤ n → found_nodes (found_by span r k) ≤ n
unfolding found_by
found_most span (Some (known.Value ty)) k n h = omega (arith, value_most span ty k, h)
found_most span _ k n h = omega arith

pub place_by_most : (span : Span) (r : Ruling) (k : Option ExprKind) (n : ℕ) → forms_nodes k ≤ n → found_nodes (place_by span r k) ≤ n
unfolding place_by
place_by_most span (Some (known.Place ty within)) k n h = omega (arith, place_most span ty within k, h)
place_by_most span _ k n h = omega arith

pub spanned_most : (span : Span) (e : Option Expr) → made_nodes (spanned span e) ≤ made_nodes e
unfolding spanned
spanned_most span None = omega arith
spanned_most span (Some e) = omega (arith, nodes_are (typed span e.ty e.kind), nodes_are e)

-- of one part, and of two
pub one_part : (f : Expr → ExprKind) (n : ℕ) → ((e : Expr) → kind_nodes (f e) ≤ expr_nodes e + n) → (e : Option Expr) → forms_nodes (option_map f e) ≤ made_nodes e + n
one_part f n h None = omega arith
one_part f n h (Some e) = h e

pub two_parts : (f : Expr → Expr → ExprKind) → ((a b : Expr) → kind_nodes (f a b) ≤ expr_nodes a + expr_nodes b + 1) → (a b : Option Expr) → forms_nodes (both f a b) ≤ made_nodes a + made_nodes b + 1
unfolding both
two_parts f h None b = omega arith
two_parts f h (Some a) None = omega arith
two_parts f h (Some a) (Some b) = h a b
