-- What initialisers make.
use Rattle.std.proofs.Common.{ℕ, ◌+◌, ◌*◌, ◌≤◌, List, [], ◌∷◌, map, Bool, true, false, sym, subst, cond, arith}
use Rattle.std.specs.Prelude.{Option, Some, None}
use Rattle.xc_tree.specs.declared.ty.Ty.{Ty}
use Rattle.xc_tree.specs.declared.expr.Expr.{Expr}
use Rattle.xc_tree.specs.Types.{base, fits, is_number}
use Rattle.xc_raw.specs.declared.rule.Rule.{Rule}
use Rattle.xc_raw.specs.declared.rule.Rule.TheVariants as rule
use Rattle.xc_raw.specs.declared.tree.Raw.{Raw, out-Raw}
use Rattle.xc_raw_parts.proofs.Nodes.{by_nodes_is}
use Rattle.xc_type_rule.specs.declared.found.Found.{Found}
use Rattle.xc_type_rule.specs.Making.{both}
use Rattle.xc_type_rule.specs.Nulls.{given}
use Rattle.xc_type_rule.specs.Tests.{may_be}
use Rattle.xc_type_constants.specs.Pieces.{Piece, constant_value}
use Rattle.xc_type_initialiser_objects.specs.declared.target.Target.{Target}
use Rattle.xc_type_initialiser_objects.specs.declared.target.Part.{Part as Piece_of}
use Rattle.xc_type_initialiser_objects.specs.declared.inits.Inits.{Inits}
use Rattle.xc_type_initialiser_objects.specs.Parts.{target, part_of as piece_of}
use Rattle.xc_type_initialiser_objects.specs.Inits.{one_init, if_whole, fitting, base_made, value_made}
use Rattle.xc_type_initialiser_objects.specs.Words.{number_made}
use Rattle.xc_type_expressions.specs.declared.text.Text.{Text}
use Rattle.xc_type_expressions.specs.Roles.{value}
use Rattle.xc_type_expressions.specs.Judged.{judged}
use Rattle.xc_type_initialisers.specs.Lasting.{held, lasting_made}
use Rattle.xc_type_initialisers.specs.Initialisers.{Initialiser, placed, fitted, valued, in_turn, braced, given_by, initialiser_of, initialiser, whole_object, local_inits}
use Rattle.xc_tree_sizes.specs.Nodes.{expr_nodes, if_there, inits_nodes}
use Rattle.xc_tree_sizes.proofs.Lists.{total_both}
use Rattle.xc_tree_sizes.proofs.Nodes.{one_node}
use Rattle.xc_welltyped_claims.specs.Lists.{Each}
use Rattle.xc_welltyped_claims.proofs.Nodes as nodes
use Rattle.xc_welltyped_sizes.specs.Made.{found_nodes, Makes}
use Rattle.xc_welltyped_sizes.proofs.Forms.{made_nodes}
use Rattle.xc_welltyped_sizes.proofs.Values.{const_most, given_most}
use Rattle.xc_welltyped_counts.proofs.Roles.{cost, costs, parts_less}
use Rattle.xc_welltyped_sizes.proofs.Nodes.{value_most}

-- scalars -------------------------------------------------------------------------

number_most : (n : Option ℕ) (made : Option Expr) → made_nodes (number_made n made) ≤ made_nodes made
unfolding number_made both
number_most None made = omega arith
number_most (Some n) None = omega arith
number_most (Some n) (Some e) = omega (arith, const_most e.span e.ty n, one_node e)

lasting_most : (ty : Option Ty) (c : Piece) (made : Option Expr) → made_nodes (lasting_made ty c made) ≤ made_nodes made
lasting_most None c made = omega arith
lasting_most (Some to) c made = by (is_number to)
  where
    by : (b : Bool) → made_nodes (cond b (number_made (constant_value c) made) made) ≤ made_nodes made
    by true = number_most (constant_value c) made
    by false = omega arith

fitting_most : (ty : Ty) (v : Found) → made_nodes (fitting ty v) ≤ found_nodes v
fitting_most ty v = by (may_be (fits ty) v.known)
  where
    by : (b : Bool) → made_nodes (cond b v.made None) ≤ found_nodes v
    by true = omega arith
    by false = omega arith

base_most : (ty : Option Ty) (v : Found) → made_nodes (base_made ty v) ≤ found_nodes v
base_most None v = omega arith
base_most (Some ty) v = omega (arith, fitting_most ty (given ty v), given_most ty v)

value_made_most : (ty : Option Ty) (v : Found) → made_nodes (value_made ty v) ≤ found_nodes v
unfolding value_made
value_made_most None v = omega arith
value_made_most (Some ty) v = base_most (base ty) v

one_most : (off : ℕ) (made : Option Expr) → inits_nodes (one_init off made).made ≤ made_nodes made
one_most off None = omega arith
one_most off (Some e) = omega arith

whole_most : (is : Inits) → if_there inits_nodes (if_whole is) ≤ inits_nodes is.made
whole_most is = by is.whole
  where
    by : (b : Bool) → if_there inits_nodes (cond b (Some is.made) None) ≤ inits_nodes is.made
    by true = omega arith
    by false = omega arith

abbrev made_inits : Inits → ℕ
made_inits is = inits_nodes is.made

module _ (t : Text) where
  placed_most : (node : Raw) (outermost : Bool) (ty : Option Ty) (made : Option Expr) → Makes made_nodes (made_nodes made) (placed t node outermost ty made)
  unfolding placed
  placed_most node false ty made e = omega arith
  placed_most node true ty made e = lasting_most (held ty) (judged t node).constant made

  valued_most : (node : Raw) (outermost : Bool) (to : Target) → Makes made_inits (7 * cost t node) (valued t node outermost to)
  unfolding valued fitted
  valued_most node outermost to e =
      let v = value (judged t node) e in
      let m = fitted t node to.ty v.part v.env in
      let p = placed t node outermost to.ty m.part m.env in
      omega (arith, value_most t node e, value_made_most to.ty v.part, placed_most node outermost to.ty m.part m.env, one_most to.off p.part)

  abbrev Given : Raw → Type 0
  Given n = (outermost : Bool) (to : Target) → Makes made_inits (7 * cost t n) ((initialiser t n).given outermost to)

  turn_most : (outermost : Bool) (to : Target) (k : ℕ) (ns : List Raw) → Each Given ns → Makes made_inits (7 * costs t ns) (in_turn outermost to k (map (initialiser t) ns))
  unfolding in_turn
  turn_most outermost to k [] p e = omega arith
  turn_most outermost to k (n ∷ ns) p e =
      let q : Piece_of = piece_of e.structs to k in
      let x = (initialiser t n).given outermost q.target e in
      let xs = in_turn outermost to (k + 1) (map (initialiser t) ns) x.env in
      omega (arith, p.0 outermost q.target e, turn_most outermost to (k + 1) ns p.1 x.env, total_both (λ i. expr_nodes i.1) x.part.made xs.part.made)

  given_most_by : (node : Raw) (r : Rule) (outermost : Bool) (to : Target) → Each Given (out-Raw node).parts → Makes made_inits (7 * cost t node) (given_by t node r (map (initialiser t) (out-Raw node).parts) outermost to)
  unfolding given_by braced
  given_most_by node rule.Initialisers outermost to p e = omega (arith, parts_less t node, turn_most outermost to 0 (out-Raw node).parts p e)
  given_most_by node r outermost to p e = valued_most node outermost to e

  initialiser_most : (node : Raw) → Given node
  unfolding initialiser
  initialiser_most = nodes.by_parts Given (λ n p. subst (λ (i : Initialiser). (outermost : Bool) (to : Target) → Makes made_inits (7 * cost t n) (i.given outermost to)) (sym (by_nodes_is (initialiser_of t) n))
      (λ outermost to. given_most_by n (out-Raw n).rule outermost to p))

  pub local_most : (node : Raw) (ty : Option Ty) → Makes (if_there inits_nodes) (7 * cost t node) (local_inits t node ty)
  unfolding local_inits
  local_most node ty e = omega (arith, initialiser_most node false (target ty 0) e, whole_most (whole_object t node false ty e).part)
