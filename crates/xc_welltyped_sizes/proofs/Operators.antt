-- What operators make.
use Rattle.std.proofs.Common.{ℕ, ◌+◌, ◌≤◌, Bool, true, false, cond, arith}
use Rattle.std.specs.Prelude.{Option, Some, None}
use Rattle.xc_text_place.specs.declared.Span.{Span}
use Rattle.xc_tree.specs.declared.operator.BinOp.{BinOp}
use Rattle.xc_tree.specs.declared.operator.UnOp.{UnOp}
use Rattle.xc_tree.specs.declared.operator.UnOp.TheVariants as un
use Rattle.xc_tree.specs.declared.ty.Ty.{Ty, Int, Uint}
use Rattle.xc_tree.specs.declared.expr.Expr.{Expr}
use Rattle.xc_tree.specs.declared.expr.ExprKind.{roll-ExprKind, Const, Update, Unary, Binary, Comma}
use Rattle.xc_tree.specs.declared.expr.ExprKind.TheOpen.{ExprKind-F}
use Rattle.xc_tree.specs.Kinds.{write_kind}
use Rattle.xc_tree.specs.Typed.{Sort, comparison, sort_of}
use Rattle.xc_type_rule.specs.declared.found.Found.{Found}
use Rattle.xc_type_rule.specs.declared.found.Known.{Known}
use Rattle.xc_type_rule.specs.Nulls.{against, is_number_value}
use Rattle.xc_type_rule.specs.Making.{unknown_value}
use Rattle.xc_type_rule_operators.specs.declared.logic.Logic.{Logic}
use Rattle.xc_type_rule_operators.specs.declared.logic.Logic.TheVariants as logic
use Rattle.xc_type_rule_operators.specs.Rulings.{target}
use Rattle.xc_type_rule_operators.specs.Operators.{number_part, grouped, plus_part, unary_part, cast_part, beside, operated_part, binary_part, logic_kind, logical_part, comma_part, cond_kind, chosen_part, conditional_part, write_of, suited, written_part, assign_part, update_part, step_part}
use Rattle.xc_tree_sizes.specs.Nodes.{kind_nodes, expr_nodes}
use Rattle.xc_tree_sizes.proofs.Nodes.{form_is}
use Rattle.xc_welltyped_sizes.specs.Made.{found_nodes}
use Rattle.xc_welltyped_sizes.proofs.Forms.{made_nodes, forms_nodes, value_most, found_most, spanned_most, one_part, two_parts}
use Rattle.xc_welltyped_sizes.proofs.Values.{given_most, against_most}

-- forms ----------------------------------------------------------------------------

const_nodes : (n : ℕ) → kind_nodes (Const n) ≤ 1
unfolding roll-ExprKind denote.Hole.Carrier.roll
const_nodes n = omega (arith, form_is (ExprKind-F.Const n))

unary_nodes : (o : UnOp) (e : Expr) → kind_nodes (Unary o e) ≤ expr_nodes e + 1
unfolding roll-ExprKind denote.Hole.Carrier.roll
unary_nodes o e = omega (arith, form_is (ExprKind-F.Unary o e))

binary_nodes : (o : BinOp) (a b : Expr) → kind_nodes (Binary o a b) ≤ expr_nodes a + expr_nodes b + 1
unfolding roll-ExprKind denote.Hole.Carrier.roll
binary_nodes o a b = omega (arith, form_is (ExprKind-F.Binary o a b))

logic_nodes : (o : Logic) (a b : Expr) → kind_nodes (logic_kind o a b) ≤ expr_nodes a + expr_nodes b + 1
unfolding logic_kind roll-ExprKind denote.Hole.Carrier.roll
logic_nodes logic.And a b = omega (arith, form_is (ExprKind-F.And a b))
logic_nodes logic.Or a b = omega (arith, form_is (ExprKind-F.Or a b))

comma_nodes : (a b : Expr) → kind_nodes (Comma a b) ≤ expr_nodes a + expr_nodes b + 1
unfolding roll-ExprKind denote.Hole.Carrier.roll
comma_nodes a b = omega (arith, form_is (ExprKind-F.Comma a b))

write_nodes : (a b : Expr) → kind_nodes (write_of a b) ≤ expr_nodes a + expr_nodes b + 1
unfolding write_of roll-ExprKind denote.Hole.Carrier.roll
write_nodes a b = omega (arith, form_is (ExprKind-F.Write (write_kind a.ty) a b))

update_nodes : (o : BinOp) (post : Bool) (a b : Expr) → kind_nodes (Update o post a b) ≤ expr_nodes a + expr_nodes b + 1
unfolding roll-ExprKind denote.Hole.Carrier.roll
update_nodes o post a b = omega (arith, form_is (ExprKind-F.Update o post a b))

cond_nodes : (c a b : Option Expr) → forms_nodes (cond_kind c a b) ≤ made_nodes c + made_nodes a + made_nodes b + 1
unfolding cond_kind roll-ExprKind denote.Hole.Carrier.roll
cond_nodes None a b = omega arith
cond_nodes (Some c) None b = omega arith
cond_nodes (Some c) (Some a) None = omega arith
cond_nodes (Some c) (Some a) (Some b) = omega (arith, form_is (ExprKind-F.Cond c a b))

-- one operand ----------------------------------------------------------------------

pub suited_most : (ty : Option Ty) (v : Found) → found_nodes (suited ty v) ≤ found_nodes v
unfolding suited
suited_most None v = omega arith
suited_most (Some ty) v = given_most ty v

module _ (span : Span) where
  pub number_most : (n : ℕ) (unsigned : Bool) → found_nodes (number_part span n unsigned) ≤ 1
  unfolding number_part
  number_most n unsigned = omega (arith, value_most span (cond unsigned Uint Int) (Some (Const n)), const_nodes n)

  pub grouped_most : (a : Found) → found_nodes (grouped span a) ≤ found_nodes a
  unfolding grouped
  grouped_most a = spanned_most span a.made

  pub plus_most : (a : Found) → found_nodes (plus_part a) ≤ found_nodes a
  unfolding plus_part
  plus_most a = by (is_number_value a.known)
    where
      by : (b : Bool) → found_nodes (cond b a unknown_value) ≤ found_nodes a
      by true = omega arith
      by false = omega arith

  pub unary_most : (o : UnOp) (a : Found) → found_nodes (unary_part span o a) ≤ found_nodes a + 1
  unfolding unary_part
  unary_most o a = found_most span _ _ _ (omega (arith, one_part (Unary o) 1 (unary_nodes o) a.made))

  pub cast_most : (to : Option Ty) (a : Found) → found_nodes (cast_part span to a) ≤ found_nodes a + 1
  unfolding cast_part
  cast_most to a = found_most span _ _ _ (omega (arith, one_part (Unary un.Cast) 1 (unary_nodes un.Cast) a.made))

  -- two operands -------------------------------------------------------------------

  beside_most : (s : Sort) (k : Known) (f : Found) → found_nodes (beside s k f) ≤ found_nodes f
  unfolding beside
  beside_most comparison k f = against_most k f
  beside_most _ k f = omega arith

  pub binary_most : (o : BinOp) (a b : Found) → found_nodes (binary_part span o a b) ≤ found_nodes a + found_nodes b + 1
  unfolding binary_part operated_part
  binary_most o a b =
      let l = beside (sort_of o) b.known a in
      let r = beside (sort_of o) l.known b in
      found_most span _ _ _ (omega (arith, two_parts (Binary o) (binary_nodes o) l.made r.made, beside_most (sort_of o) b.known a, beside_most (sort_of o) l.known b))

  pub logical_most : (o : Logic) (a b : Found) → found_nodes (logical_part span o a b) ≤ found_nodes a + found_nodes b + 1
  unfolding logical_part
  logical_most o a b = found_most span _ _ _ (omega (arith, two_parts (logic_kind o) (logic_nodes o) a.made b.made))

  pub comma_most : (a b : Found) → found_nodes (comma_part span a b) ≤ found_nodes a + found_nodes b + 1
  unfolding comma_part
  comma_most a b = found_most span _ _ _ (omega (arith, two_parts Comma comma_nodes a.made b.made))

  pub conditional_most : (c a b : Found) → found_nodes (conditional_part span c a b) ≤ found_nodes c + found_nodes a + found_nodes b + 1
  unfolding conditional_part chosen_part
  conditional_most c a b =
      let l = against b.known a in
      let r = against l.known b in
      found_most span _ _ _ (omega (arith, cond_nodes c.made l.made r.made, against_most b.known a, against_most l.known b))

  -- assignments --------------------------------------------------------------------

  pub assign_most : (to v : Found) → found_nodes (assign_part span to v) ≤ found_nodes to + found_nodes v + 1
  unfolding assign_part written_part
  assign_most to v =
      let s = suited (target to.known) v in
      found_most span _ _ _ (omega (arith, two_parts write_of write_nodes to.made s.made, suited_most (target to.known) v))

  pub update_most : (o : BinOp) (post : Bool) (to v : Found) → found_nodes (update_part span o post to v) ≤ found_nodes to + found_nodes v + 1
  unfolding update_part
  update_most o post to v = found_most span _ _ _ (omega (arith, two_parts (Update o post) (update_nodes o post) to.made v.made))

  pub step_most : (o : BinOp) (post : Bool) (to : Found) → found_nodes (step_part span o post to) ≤ found_nodes to + 2
  step_most o post to = omega (arith, update_most o post to (number_part span 1 false), number_most 1 false)
