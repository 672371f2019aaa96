use Rattle.std.proofs.Common.{◌≡◌, drop}
use Rattle.xc_form.specs.InnerNormal.{any_exits, any_item_exits}
use Rattle.xc_form.proofs.normal.+exits.Given as goal

abbrev pub invariant-any_exits-loop-s : goal.invariant-any_exits-loop-s
invariant-any_exits-loop-s l = any_exits (drop l.s-index l.list) l.here ≡ any_exits l.list l.here

abbrev pub invariant-any_item_exits-loop-item : goal.invariant-any_item_exits-loop-item
invariant-any_item_exits-loop-item l = any_item_exits (drop l.item-index l.list) l.here ≡ any_item_exits l.list l.here
