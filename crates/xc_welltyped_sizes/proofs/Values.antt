-- What is made of places as values, and of constants.
use Rattle.std.proofs.Common.{ℕ, ◌+◌, ◌≤◌, List, Bool, true, false, cond, arith}
use Rattle.std.specs.Prelude.{◌&&◌, Option, Some, None, option_map}
use Rattle.xc_text_place.specs.declared.Span.{Span}
use Rattle.xc_word.specs.declared.memory.Kind.{Kind}
use Rattle.xc_tree.specs.declared.ty.Ty.{Ty, out-Ty, Int, Ptr}
use Rattle.xc_tree.specs.declared.ty.Ty.TheOpen.{Ty-F}
use Rattle.xc_tree.specs.declared.expr.Expr.{Expr}
use Rattle.xc_tree.specs.declared.expr.ExprKind.{roll-ExprKind, Const, Index, Read}
use Rattle.xc_tree.specs.declared.expr.ExprKind.TheOpen.{ExprKind-F}
use Rattle.xc_tree.specs.Kinds.{read_kind}
use Rattle.xc_tree.specs.Types.{is_pointer}
use Rattle.xc_type_rule.specs.declared.found.Found.{Found}
use Rattle.xc_type_rule.specs.declared.found.Known.{Known}
use Rattle.xc_type_rule.specs.declared.found.Known.TheVariants as known
use Rattle.xc_type_rule.specs.Making.{typed}
use Rattle.xc_type_rule.specs.Nulls.{is_null, null, given, against}
use Rattle.xc_type_rule.specs.Values.{read_of, read, first_element, decayed, held, rvalue}
use Rattle.xc_type_rule.specs.Cells.{cells}
use Rattle.xc_tree_sizes.specs.Nodes.{kind_nodes, expr_nodes}
use Rattle.xc_tree_sizes.proofs.Nodes.{form_is, nodes_are, one_node}
use Rattle.xc_welltyped_sizes.specs.Made.{found_nodes}
use Rattle.xc_welltyped_sizes.proofs.Forms.{made_nodes, value_most, one_part}

pub const_most : (span : Span) (ty : Ty) (n : ℕ) → expr_nodes (typed span ty (Const n)) ≤ 1
unfolding roll-ExprKind denote.Hole.Carrier.roll
const_most span ty n = omega (arith, nodes_are (typed span ty (Const n)), form_is (ExprKind-F.Const n))

pub index_nodes : (size : ℕ) (bound : Option ℕ) (e i : Expr) → kind_nodes (Index e i size bound) ≤ expr_nodes e + expr_nodes i + 1
unfolding roll-ExprKind denote.Hole.Carrier.roll
index_nodes size bound e i = omega (arith, form_is (ExprKind-F.Index e i size bound))

pub read_nodes : (k : Kind) (e : Expr) → kind_nodes (Read k e) ≤ expr_nodes e + 1
unfolding roll-ExprKind denote.Hole.Carrier.roll
read_nodes k e = omega (arith, form_is (ExprKind-F.Read k e))

read_most : (span : Span) (ty : Ty) (made : Option Expr) → found_nodes (read span ty made) ≤ made_nodes made + 1
read_most span ty made = omega (arith, one_part read_of 1 (λ e. read_nodes (read_kind e.ty) e) made, value_most span ty (option_map read_of made))

decayed_most : (sizes : List ℕ) (span : Span) (n : ℕ) (of : Ty) (made : Option Expr) → found_nodes (decayed sizes span n of made) ≤ made_nodes made + 2
decayed_most sizes span n of made =
    let first = first_element span (cells sizes of) n in
    omega (arith, one_part first 2 (λ e. omega (arith, index_nodes (cells sizes of) (Some n) e (typed span Int (Const 0)), const_most span Int 0)) made, value_most span (Ptr of) (option_map first made))

held_most : (sizes : List ℕ) (span : Span) (ty : Ty) (within : Bool) (made : Option Expr) (l : Ty-F Ty) → found_nodes (held sizes span ty within made l) ≤ made_nodes made + 2
held_most sizes span ty true made (Ty-F.Array n of) = omega arith
held_most sizes span ty false made (Ty-F.Array n of) = decayed_most sizes span n of made
held_most sizes span ty within made (Ty-F.Sync of) = omega (arith, read_most span of made)
held_most sizes span ty within made (Ty-F.Future of) = omega (arith, read_most span of made)
held_most sizes span ty within made (Ty-F.Struct s) = omega arith
held_most sizes span ty within made Ty-F.Void = omega arith
held_most sizes span ty within made _ = omega (arith, read_most span ty made)

-- what is a place becomes a read of it, or the place of an array's first element
pub rvalue_most : (sizes : List ℕ) (span : Span) (f : Found) → found_nodes (rvalue sizes span f) ≤ found_nodes f + 2
unfolding rvalue
rvalue_most sizes span f = by f.known
  where
    by : (k : Known) → found_nodes (rvalue sizes span (record { known = k; made = f.made })) ≤ found_nodes f + 2
    by (known.Unknown place) = omega arith
    by (known.Value ty) = omega arith
    by (known.Place ty within) = held_most sizes span ty within f.made (out-Ty ty)

null_most : (to : Ty) (made : Option Expr) → found_nodes (null to made) ≤ made_nodes made
null_most to None = omega arith
null_most to (Some e) = omega (arith, const_most e.span to 0, one_node e)

pub given_most : (to : Ty) (f : Found) → found_nodes (given to f) ≤ found_nodes f
unfolding given
given_most to f = by (is_pointer to && is_null f)
  where
    by : (b : Bool) → found_nodes (cond b (null to f.made) f) ≤ found_nodes f
    by true = null_most to f.made
    by false = omega arith

pub against_most : (k : Known) (f : Found) → found_nodes (against k f) ≤ found_nodes f
unfolding against
against_most (known.Value ty) f = given_most ty f
against_most (known.Unknown place) f = omega arith
against_most (known.Place ty within) f = omega arith
