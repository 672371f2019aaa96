use Rattle.std.proofs.Common.{◌≤◌, ◌^◌, length, map, refl, sym, ap, subst, ◌∙◌}
use Rattle.std.specs.Prelude.{false, nat_lt, option_and_then, IfOk}
use Rattle.xc_type_rule.specs.Least.{least_from}
use Rattle.xc_type_structs.specs.declared.structs.Layout.{Layout}
use Rattle.xc_type_expressions.specs.Places.{name_of}
use Rattle.xc_type_scopes.specs.Judge.{Judges, give, each}
use Rattle.xc_type_scopes.proofs.Chains.{judges_then}
use Rattle.xc_type_scopes.proofs.Walks.{walked, walked_with, walked_all, walked_all_with}
use Rattle.xc_type_constants.specs.Pieces.{constant_faults}
use Rattle.xc_type_expressions.specs.Roles.{value, values}
use Rattle.xc_type_expressions.specs.Types.{name_fault_unless, tags, members, with_declared, declared_member, bound_by, bound_of, bounds}
use Rattle.xc_type_expressions.specs.Judged.{spot_in, operand, judged}
use Rattle.xc_type_scopes.specs.InnerTold.{Tells}
use Rattle.xc_type_expressions.specs.Operations.{cast_to}
use Rattle.xc_type_expressions.proofs.Few.{list_two, list_three}
use Rattle.xc_type_expressions.proofs.Outcomes.{judges_ok, judges_same}
use Rattle.xc_type_expressions.proofs.Shapes.{cast_judged, two_judged, three_judged, many_judged, struct_judged}
use Rattle.xc_type_expressions.proofs.judge.+judge.Goals as goal

pub values-loop-node-preserved : goal.values-loop-node-preserved
values-loop-node-preserved t c = rw c.in_ok-push.ensures.items (walked_with (judged c.args.text.now) value c.args.nodes.now c.loop-node.node-index
    (values (map (judged c.args.text.now) c.args.nodes.now) c.args.env.now) c.args.first.now c.node-item.result c.loop-node-test.true (sym c.node-item.is)
    c.loop-node.env c.value.new.env c.loop-node.first c.value.new.first c.in_ok-v.v c.in_ok-v.ensures c.loop-node.all.items c.loop-node.invariant)

pub values-returns : goal.values-returns
values-returns t c = walked_all_with (judged c.args.text.now) value c.args.nodes.now c.loop-node.node-index
    (values (map (judged c.args.text.now) c.args.nodes.now) c.args.env.now) c.args.first.now c.loop-node-test.false
    c.loop-node.env c.loop-node.first c.loop-node.all.items c.loop-node.invariant

pub tagged_all-loop-node-preserved : goal.tagged_all-loop-node-preserved
tagged_all-loop-node-preserved t c = rw c.in_ok-push.ensures.items (walked_with (judged c.args.text.now) (λ p. p.struct) c.args.nodes.now c.loop-node.node-index
    (tags (map (judged c.args.text.now) c.args.nodes.now) c.args.env.now) c.args.first.now c.node-item.result c.loop-node-test.true (sym c.node-item.is)
    c.loop-node.env c.tagged.new.env c.loop-node.first c.tagged.new.first c.in_ok-tag.tag c.in_ok-tag.ensures c.loop-node.all.items c.loop-node.invariant)

pub tagged_all-returns : goal.tagged_all-returns
tagged_all-returns t c = walked_all_with (judged c.args.text.now) (λ p. p.struct) c.args.nodes.now c.loop-node.node-index
    (tags (map (judged c.args.text.now) c.args.nodes.now) c.args.env.now) c.args.first.now c.loop-node-test.false
    c.loop-node.env c.loop-node.first c.loop-node.all.items c.loop-node.invariant

pub members-loop-node-preserved : goal.members-loop-node-preserved
members-loop-node-preserved t c = walked (judged c.args.text.now) (λ p. p.member) c.args.nodes.now c.loop-node.node-index
    (each (map (λ p. p.member) (map (judged c.args.text.now) c.args.nodes.now)) c.args.env.now) c.args.first.now c.node-item.result c.loop-node-test.true (sym c.node-item.is)
    c.loop-node.env c.member.new.env c.loop-node.first c.member.new.first c.in_ok-member.field-0 c.in_ok-member.ensures c.loop-node.invariant

pub members-returns : goal.members-returns
members-returns t c =
    let w = walked_all (judged c.args.text.now) (λ p. p.member) c.args.nodes.now c.loop-node.node-index
    (each (map (λ p. p.member) (map (judged c.args.text.now) c.args.nodes.now)) c.args.env.now) c.args.first.now c.loop-node-test.false
    c.loop-node.env c.loop-node.first c.loop-node.invariant in
    (refl, w.0, w.1)

pub declared_all-loop-node-preserved : goal.declared_all-loop-node-preserved
unfolding declared_member
declared_all-loop-node-preserved t c = walked (judged c.args.text.now) (declared_member c.args.ty.now) c.args.nodes.now c.loop-node.node-index
    (each (map (declared_member c.args.ty.now) (map (judged c.args.text.now) c.args.nodes.now)) c.args.env.now) c.args.first.now c.node-item.result c.loop-node-test.true (sym c.node-item.is)
    c.loop-node.env c.with_declared.new.env c.loop-node.first c.with_declared.new.first c.in_ok-with_declared.field-0
    (judges_then ((judged c.args.text.now c.node-item.result).declared c.args.ty.now) with_declared c.loop-node.env c.declared.new.env c.with_declared.new.env
    c.loop-node.first c.declared.new.first c.with_declared.new.first c.in_ok-one.one c.in_ok-with_declared.field-0 c.in_ok-one.ensures c.in_ok-with_declared.ensures)
    c.loop-node.invariant

pub declared_all-returns : goal.declared_all-returns
declared_all-returns t c =
    let w = walked_all (judged c.args.text.now) (declared_member c.args.ty.now) c.args.nodes.now c.loop-node.node-index
    (each (map (declared_member c.args.ty.now) (map (judged c.args.text.now) c.args.nodes.now)) c.args.env.now) c.args.first.now c.loop-node-test.false
    c.loop-node.env c.loop-node.first c.loop-node.invariant in
    (refl, w.0, w.1)

pub bounds_found-loop-node-preserved : goal.bounds_found-loop-node-preserved
unfolding bound_by
bounds_found-loop-node-preserved t c = rw c.in_ok-push.ensures.items (walked_with (judged c.args.text.now) bound_by c.args.nodes.now c.loop-node.node-index
    (bounds (map (judged c.args.text.now) c.args.nodes.now) c.args.env.now) c.args.first.now c.node-item.result c.loop-node-test.true (sym c.node-item.is)
    c.loop-node.env c.value.new.env c.loop-node.first c.bound_of.new.first c.in_ok-bound_of.field-0
    (judges_then (value (judged c.args.text.now c.node-item.result)) (λ v. give (bound_of (judged c.args.text.now c.node-item.result)) (constant_faults (judged c.args.text.now c.node-item.result).constant))
    c.loop-node.env c.value.new.env c.value.new.env c.loop-node.first c.value.new.first c.bound_of.new.first c.in_ok-value.field-0 c.in_ok-bound_of.field-0
    c.in_ok-value.ensures (c.in_ok-bound_of.ensures.bound, refl, c.in_ok-bound_of.ensures.first))
    c.loop-node.all.items c.loop-node.invariant)

pub bounds_found-returns : goal.bounds_found-returns
bounds_found-returns t c = walked_all_with (judged c.args.text.now) bound_by c.args.nodes.now c.loop-node.node-index
    (bounds (map (judged c.args.text.now) c.args.nodes.now) c.args.env.now) c.args.first.now c.loop-node-test.false
    c.loop-node.env c.loop-node.first c.loop-node.all.items c.loop-node.invariant

pub cast_found-returns-in_ok-v-in-len2 : goal.cast_found-returns-in_ok-v-in-len2
cast_found-returns-in_ok-v-in-len2 t c =
    cast_judged c.args.text.now c.args.node.now c.specs-item.result c.a-item.result
    (sym c.as_slice.ensures ∙ list_two c.as_slice.result.now c.specs-item.result c.a-item.result c.in-len2.len_at_least c.in-len2.len_below c.specs-item.is c.a-item.is)
    c.args.env.now c.specified.new.env c.value.new.env c.args.first.now c.specified.new.first c.value.new.first c.cast_to.new.first
    c.in_ok-has_stars-in-len2.has_stars c.in_ok-v-in-len2.ty c.in_ok-v-in-len2.v c.cast_to.result
    c.in_ok-has_stars-in-len2.ensures
    (judges_same ((judged c.args.text.now c.specs-item.result).specified false) c.args.env.now c.specified.new.env c.args.first.now c.specified.new.first
    c.in_ok-ty-in-len2.ty c.in_ok-v-in-len2.ty c.in_ok-ty-in-len2.ensures c.in_ok-v-in-len2.ensures.part)
    (judges_ok (value (judged c.args.text.now c.a-item.result)) c.specified.new.env c.value.new.env c.specified.new.first c.value.new.first
    c.value.result c.in_ok-v-in-len2.v c.value.ensures c.in_ok-v-in-len2.ensures.outcome)
    (subst (λ s. IfOk c.cast_to.result (λ r. Tells (cast_to s c.in_ok-has_stars-in-len2.has_stars c.in_ok-v-in-len2.ty c.in_ok-v-in-len2.v) c.value.new.first c.cast_to.new.first r)) c.span_of.ensures c.cast_to.ensures)

pub part_found-returns-in_ok-y-in-len2 : goal.part_found-returns-in_ok-y-in-len2
part_found-returns-in_ok-y-in-len2 t c =
    two_judged c.args.text.now c.args.node.now c.a-item-then-this-lt3.result c.b-item.result
    (sym c.as_slice.ensures ∙ list_two c.as_slice.result.now c.a-item-then-this-lt3.result c.b-item.result c.in-len2.len_at_least c.in-len2.len_below c.a-item-then-this-lt3.is c.b-item.is)
    c.args.env.now c.operand_found-in-len2.new.env c.value.new.env c.value.new.env
    c.args.first.now c.operand_found-in-len2.new.first c.value.new.first c.with_two.new.first
    c.takes_value-in-len2.result c.span_of-at.result c.in_ok-y-in-len2.x c.in_ok-y-in-len2.y c.with_two.result
    c.takes_value-in-len2.ensures c.span_of-at.ensures
    (judges_same (operand c.takes_value-in-len2.result (judged c.args.text.now c.a-item-then-this-lt3.result)) c.args.env.now c.operand_found-in-len2.new.env
    c.args.first.now c.operand_found-in-len2.new.first c.in_ok-x-in-len2.x c.in_ok-y-in-len2.x c.in_ok-x-in-len2.ensures c.in_ok-y-in-len2.ensures.part)
    (judges_ok (value (judged c.args.text.now c.b-item.result)) c.operand_found-in-len2.new.env c.value.new.env
    c.operand_found-in-len2.new.first c.value.new.first c.value.result c.in_ok-y-in-len2.y c.value.ensures c.in_ok-y-in-len2.ensures.outcome)
    c.with_two.ensures

pub part_found-returns-in_ok-z-in-len3 : goal.part_found-returns-in_ok-z-in-len3
part_found-returns-in_ok-z-in-len3 t c =
    three_judged c.args.text.now c.args.node.now c.a-item-then-this-lt4.result c.b-item-then-this-lt4.result c.c-item.result
    (sym c.as_slice.ensures ∙ list_three c.as_slice.result.now c.a-item-then-this-lt4.result c.b-item-then-this-lt4.result c.c-item.result
    c.in-len3.len_at_least c.in-len3.len_below c.a-item-then-this-lt4.is c.b-item-then-this-lt4.is c.c-item.is)
    c.args.env.now c.value-in-len3.new.env c.value-in-len3-2.new.env c.value-in-len3-3.new.env
    c.args.first.now c.value-in-len3.new.first c.value-in-len3-2.new.first c.value-in-len3-3.new.first c.with_three.new.first
    c.in_ok-z-in-len3.x c.in_ok-z-in-len3.y c.in_ok-z-in-len3.z c.with_three.result
    (judges_same (value (judged c.args.text.now c.a-item-then-this-lt4.result)) c.args.env.now c.value-in-len3.new.env c.args.first.now c.value-in-len3.new.first
    c.in_ok-x-in-len3.x c.in_ok-z-in-len3.x c.in_ok-x-in-len3.ensures (ap (λ p. p.0) c.in_ok-z-in-len3.ensures.part ∙ c.in_ok-y-in-len3.ensures.part))
    (judges_same (value (judged c.args.text.now c.b-item-then-this-lt4.result)) c.value-in-len3.new.env c.value-in-len3-2.new.env c.value-in-len3.new.first c.value-in-len3-2.new.first
    c.in_ok-y-in-len3.y c.in_ok-z-in-len3.y
    (judges_ok (value (judged c.args.text.now c.b-item-then-this-lt4.result)) c.value-in-len3.new.env c.value-in-len3-2.new.env c.value-in-len3.new.first c.value-in-len3-2.new.first
    c.value-in-len3-2.result c.in_ok-y-in-len3.y c.value-in-len3-2.ensures c.in_ok-y-in-len3.ensures.outcome)
    (ap (λ p. p.1) c.in_ok-z-in-len3.ensures.part))
    (judges_ok (value (judged c.args.text.now c.c-item.result)) c.value-in-len3-2.new.env c.value-in-len3-3.new.env c.value-in-len3-2.new.first c.value-in-len3-3.new.first
    c.value-in-len3-3.result c.in_ok-z-in-len3.z c.value-in-len3-3.ensures c.in_ok-z-in-len3.ensures.outcome)
    c.with_three.ensures

pub part_found-returns-in_default : goal.part_found-returns-in_default
part_found-returns-in_default t c =
    many_judged c.args.text.now c.args.node.now (subst (λ l. 4 ≤ length l) c.as_slice.ensures c.in_default.len_at_least) c.args.env.now c.args.first.now c.unknown_place.result c.unknown_place.ensures

pub tagged-returns-in_ok-members-in_default-as_slice : goal.tagged-returns-in_ok-members-in_default-as_slice
tagged-returns-in_ok-members-in_default-as_slice t c =
    struct_judged c.args.text.now c.args.node.now c.in-Some.name
    (sym (ap (λ k. option_and_then (name_of c.args.text.now) k) c.struct_name-token.ensures) ∙ sym c.name_at.ensures ∙ c.in-Some.is)
    (subst (λ l. 1 ≤ length l) c.as_slice.ensures c.in_default-as_slice.len_at_least)
    c.is_new_tag.result c.args.env.now c.begun.new.env c.members.new.env c.end_struct.new.self c.args.first.now c.note_name_unless.new.first c.members.new.first
    c.in_ok-number-in_default-as_slice.number c.in_ok-number-in_default-as_slice.before c.is_too_large-fits.result
    c.is_new_tag.ensures
    (c.note_name_unless.ensures ∙ ap (λ s. least_from c.args.first.now (name_fault_unless c.is_new_tag.result s)) (c.spot-at.ensures ∙ ap (spot_in c.args.text.now) c.struct_name-token.ensures))
    c.in_ok-number-in_default-as_slice.ensures.number c.in_ok-number-in_default-as_slice.ensures.layout c.in_ok-number-in_default-as_slice.ensures.begun
    (subst (λ ps. Judges (members (map (judged c.args.text.now) ps)) c.begun.new.env c.members.new.env c.note_name_unless.new.first c.members.new.first tt) c.as_slice.ensures
    (refl, c.in_ok-members-in_default-as_slice.ensures.1, c.in_ok-members-in_default-as_slice.ensures.2))
    (c.is_too_large-fits.ensures.size ∙ ap (λ (l : Layout). nat_lt (2 ^ 22) l.size) c.layout.ensures)
    c.end_struct.ensures
