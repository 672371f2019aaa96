use Rattle.std.proofs.Common.{◌≡◌, drop}
use Rattle.xc_type_expressions.specs.Types.{all_fit}
use Rattle.xc_type_expressions.proofs.structs.all_fit.Given as goal

abbrev pub invariant-loop-tag : goal.invariant-loop-tag
invariant-loop-tag l = all_fit (drop l.tag-index l.tags) ≡ all_fit l.tags
