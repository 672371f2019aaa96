-- What names, elements, members and addresses make.
use Rattle.std.proofs.Common.{ℕ, ◌+◌, ◌≤◌, List, Bool, true, false, cond, subst, min, ◌-◌, ◌^◌, arith}
use Rattle.std.specs.Prelude.{Option, Some, None, option_map}
use Rattle.xc_text_place.specs.declared.Span.{Span}
use Rattle.xc_tree.specs.declared.ty.Ty.{Ty, out-Ty, Int}
use Rattle.xc_tree.specs.declared.ty.Ty.TheOpen.{Ty-F}
use Rattle.xc_tree.specs.declared.expr.Expr.{Expr}
use Rattle.xc_tree.specs.declared.expr.ExprKind.{ExprKind, roll-ExprKind, out-ExprKind, roll-out-ExprKind, Global, Auto}
use Rattle.xc_tree.specs.declared.expr.ExprKind.TheOpen.{ExprKind-F}
use Rattle.xc_type_rule.specs.declared.found.Found.{Found}
use Rattle.xc_type_rule.specs.declared.found.Known.{Known}
use Rattle.xc_type_rule.specs.declared.found.Known.TheVariants as known
use Rattle.xc_type_rule.specs.declared.found.Member.{Member}
use Rattle.xc_type_rule.specs.declared.found.Thing.{Thing}
use Rattle.xc_type_rule.specs.declared.found.Thing.TheVariants as thing
use Rattle.xc_type_rule.specs.Least.{type_fault}
use Rattle.xc_type_rule.specs.Making.{unknown_place}
use Rattle.xc_type_rule.specs.Values.{rvalue}
use Rattle.xc_type_rule_places.specs.Rulings.{pointer_base, array_at, array_of, array_base, is_array, raised_at, raised}
use Rattle.xc_type_rule_places.specs.Places.{name_part, name_faults, base_of, element_of, element_part, index_part, zero, star_part, address_part, member_of, member_part}
use Rattle.xc_type_scopes.specs.Env as env
use Rattle.xc_type_scopes.specs.Judge.{give}
use Rattle.xc_type_expressions.specs.Places.{is_reserved, named, dotted, arrowed}
use Rattle.xc_tree_sizes.specs.Nodes.{kind_nodes, expr_nodes}
use Rattle.xc_tree_sizes.proofs.Nodes.{form_is, nodes_are}
use Rattle.xc_welltyped_sizes.specs.Made.{found_nodes, Makes}
use Rattle.xc_welltyped_sizes.proofs.Forms.{made_nodes, declared_most, found_most, place_by_most, one_part, two_parts}
use Rattle.xc_welltyped_sizes.proofs.Values.{const_most, index_nodes, rvalue_most}

-- names ----------------------------------------------------------------------------

global_nodes : (n : ℕ) → kind_nodes (Global n) ≤ 1
unfolding roll-ExprKind denote.Hole.Carrier.roll
global_nodes n = omega (arith, form_is (ExprKind-F.Global n))

auto_nodes : (n : ℕ) → kind_nodes (Auto n) ≤ 1
unfolding roll-ExprKind denote.Hole.Carrier.roll
auto_nodes n = omega (arith, form_is (ExprKind-F.Auto n))

name_most : (span : Span) (o : Option Thing) → found_nodes (name_part span o) ≤ 1
unfolding name_part
name_most span (Some (thing.Global n ty)) = omega (arith, declared_most span ty false (Some (Global n)), global_nodes n)
name_most span (Some (thing.Local n ty)) = omega (arith, declared_most span ty false (Some (Auto n)), auto_nodes n)
name_most span _ = omega arith

pub named_most : (span : Span) (name : Option ℕ) → Makes found_nodes 1 (named span name)
unfolding named
named_most span None e = omega arith
named_most span (Some name) e = by (is_reserved name)
  where
    by : (b : Bool) → found_nodes (cond b (give unknown_place (type_fault span) e) (give (name_part span (env.found name e)) (name_faults span (env.found name e)) e)).part ≤ 1
    by true = omega arith
    by false = name_most span (env.found name e)

-- elements -------------------------------------------------------------------------

array_most : (sizes : List ℕ) (a : Found) → made_nodes (array_base sizes a).made ≤ found_nodes a
unfolding array_base
array_most sizes a = by a.known
  where
    at : (within : Bool) (l : Ty-F Ty) → made_nodes (array_at sizes within l a.made).made ≤ found_nodes a
    at within (Ty-F.Array n of) = omega arith
    at within _ = omega arith

    by : (k : Known) → made_nodes (array_of sizes k a.made).made ≤ found_nodes a
    by (known.Place ty within) = at within (out-Ty ty)
    by _ = omega arith

pointer_most : (sizes : List ℕ) (v : Found) → made_nodes (pointer_base sizes v).made ≤ found_nodes v
unfolding pointer_base
pointer_most sizes v = omega arith

base_most : (sizes : List ℕ) (at : Span) (a : Found) → made_nodes (base_of sizes at a).made ≤ found_nodes a + 2
base_most sizes at a = by (is_array a.known)
  where
    by : (b : Bool) → made_nodes (cond b (array_base sizes a) (pointer_base sizes (rvalue sizes at a))).made ≤ found_nodes a + 2
    by true = omega (arith, array_most sizes a)
    by false = omega (arith, pointer_most sizes (rvalue sizes at a), rvalue_most sizes at a)

pub index_most : (span : Span) (sizes : List ℕ) (at : Span) (a i : Found) → found_nodes (index_part sizes span at a i) ≤ found_nodes a + found_nodes i + 3
unfolding index_part element_part
index_most span sizes at a i =
    let b = base_of sizes at a in
    place_by_most span _ _ _ (omega (arith, two_parts (element_of b.size b.bound) (index_nodes b.size b.bound) b.made i.made, base_most sizes at a))

pub star_most : (span : Span) (sizes : List ℕ) (p : Found) → found_nodes (star_part sizes span p) ≤ found_nodes p + 2
unfolding star_part element_part
star_most span sizes p =
    let b = pointer_base sizes p in
    place_by_most span _ _ _ (omega (arith, two_parts (element_of b.size b.bound) (index_nodes b.size b.bound) b.made (zero span).made, pointer_most sizes p, const_most span Int 0))

-- addresses ------------------------------------------------------------------------

raised_most : (l : ExprKind-F ExprKind Expr) → kind_nodes (raised_at (roll-ExprKind l) l) ≤ kind_nodes (roll-ExprKind l)
unfolding roll-ExprKind denote.Hole.Carrier.roll
raised_most (ExprKind-F.Index base index size (Some bound)) = omega (arith, form_is (ExprKind-F.Index base index size (Some bound)), index_nodes size (Some (min (bound + 1) (2 ^ 32 - 1))) base index)
raised_most _ = omega arith

address_nodes : (e : Expr) → kind_nodes (raised e.kind) ≤ expr_nodes e
address_nodes e = omega (arith, nodes_are e, subst (λ k. kind_nodes (raised_at k (out-ExprKind e.kind)) ≤ kind_nodes k) (roll-out-ExprKind e.kind) (raised_most (out-ExprKind e.kind)))

pub address_most : (span : Span) (a : Found) → found_nodes (address_part span a) ≤ found_nodes a
unfolding address_part
address_most span a = found_most span _ _ _ (omega (arith, one_part (λ e. raised e.kind) 0 (λ e. omega (arith, address_nodes e)) a.made))

-- members --------------------------------------------------------------------------

member_nodes : (off : ℕ) (e : Expr) → kind_nodes (member_of off e) ≤ expr_nodes e + 1
unfolding roll-ExprKind denote.Hole.Carrier.roll
member_nodes off e = omega (arith, form_is (ExprKind-F.Member e off))

member_most : (span : Span) (within : Bool) (s : Option ℕ) (m : Option Member) (made : Option Expr) → found_nodes (member_part span within s m made) ≤ made_nodes made + 1
unfolding member_part
member_most span within None m made = omega arith
member_most span within (Some s) None made = omega arith
member_most span within (Some s) (Some m) made = omega (arith, declared_most span m.ty within (option_map (member_of m.off) made), one_part (member_of m.off) 1 (member_nodes m.off) made)

pub dotted_most : (span at : Span) (name : Option ℕ) (f : Found) → Makes found_nodes (found_nodes f + 1) (dotted span at name f)
dotted_most span at name f e = member_most span _ _ _ f.made

pub arrowed_most : (span at : Span) (name : Option ℕ) (f : Found) → Makes found_nodes (found_nodes f + 1) (arrowed span at name f)
arrowed_most span at name f e = member_most span _ _ _ f.made
