use Rattle.std.proofs.Common.{◌≡◌, ◌++◌, drop}
use Rattle.xc_form.specs.InnerEffects.{stmts_effects, items_effects}
use Rattle.xc_form.proofs.effect.+statement.Given as goal

abbrev pub invariant-collect_stmts-loop-s : goal.invariant-collect_stmts-loop-s
invariant-collect_stmts-loop-s l = l.out.items ++ stmts_effects (drop l.s-index l.list) ≡ l.initial.out.items ++ stmts_effects l.list

abbrev pub invariant-collect_items-loop-item : goal.invariant-collect_items-loop-item
invariant-collect_items-loop-item l = l.out.items ++ items_effects (drop l.item-index l.list) ≡ l.initial.out.items ++ items_effects l.list
