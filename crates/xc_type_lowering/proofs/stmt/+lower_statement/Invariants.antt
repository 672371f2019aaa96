use Rattle.std.proofs.Common.{◌≡◌, take, map}
use Rattle.xc_type_lowering.specs.Lowered.{lowered_stmt}
use Rattle.xc_type_lowering.specs.InnerLowered.{lowered_item}
use Rattle.xc_type_lowering.proofs.stmt.+lower_statement.Given as goal

abbrev pub invariant-lower_block-loop-s : goal.invariant-lower_block-loop-s
invariant-lower_block-loop-s l = l.all ≡ map (lowered_stmt l.addressed) (take l.s-index l.s-items)

abbrev pub invariant-lower_items-loop-item : goal.invariant-lower_items-loop-item
invariant-lower_items-loop-item l = l.all ≡ map (lowered_item l.addressed) (take l.item-index l.item-items)
