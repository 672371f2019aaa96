use Rattle.std.proofs.Common.{◌≡◌, take}
use Rattle.xc_tree.proofs.copy.stmt.+copy_statement.Given as goal

abbrev pub invariant-copy_block-loop-s : goal.invariant-copy_block-loop-s
invariant-copy_block-loop-s l = l.all ≡ take l.s-index l.s-items

abbrev pub invariant-copy_items-loop-item : goal.invariant-copy_items-loop-item
invariant-copy_items-loop-item l = l.all ≡ take l.item-index l.item-items
