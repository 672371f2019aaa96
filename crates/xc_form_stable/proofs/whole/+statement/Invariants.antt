use Rattle.std.proofs.Common.{◌≡◌, ◌++◌, drop}
use Rattle.xc_form_stable.specs.InnerStable.{frame_of, stmts_breaches, items_breaches}
use Rattle.xc_form_stable.proofs.whole.+statement.Given as goal

abbrev pub invariant-collect_stmts-loop-s : goal.invariant-collect_stmts-loop-s
invariant-collect_stmts-loop-s l = l.out.items ++ stmts_breaches (frame_of l.w) l.over (drop l.s-index l.list) ≡ l.initial.out.items ++ stmts_breaches (frame_of l.w) l.over l.list

abbrev pub invariant-collect_items-loop-item : goal.invariant-collect_items-loop-item
invariant-collect_items-loop-item l = l.out.items ++ items_breaches (frame_of l.w) l.over (drop l.item-index l.list) ≡ l.initial.out.items ++ items_breaches (frame_of l.w) l.over l.list
