use Rattle.std.proofs.Common.{◌≡◌, drop, map}
use Rattle.std.specs.Prelude.{zip}
use Rattle.xc_tree.specs.Lists.{every}
use Rattle.xc_type_unit.specs.Functions.{pair_may_be_same}
use Rattle.xc_type_unit.proofs.heads.all_may_be_same.Given as goal

abbrev pub invariant-types : goal.invariant-types
invariant-types l = every (map pair_may_be_same (zip (drop l.at l.all) (drop l.at l.others))) ≡ every (map pair_may_be_same (zip l.all l.others))
