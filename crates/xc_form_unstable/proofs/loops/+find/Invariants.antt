use Rattle.std.proofs.Common.{◌≡◌, drop}
use Rattle.xc_form_unstable.specs.Unstable.{loop_among, item_loops}
use Rattle.xc_form_unstable.proofs.loops.+find.Given as goal

abbrev pub invariant-loop_among-loop-s : goal.invariant-loop_among-loop-s
invariant-loop_among-loop-s l = loop_among l.id (drop l.s-index l.list) ≡ loop_among l.id l.list

abbrev pub invariant-loop_in_items-loop-item : goal.invariant-loop_in_items-loop-item
invariant-loop_in_items-loop-item l = item_loops l.id (drop l.item-index l.list) ≡ item_loops l.id l.list
