use Rattle.std.proofs.Common.{◌∙◌, ◌+◌, ap, drop}
use Rattle.xc_type_rule.specs.Least.{least_from}
use Rattle.xc_type_declarators.specs.Declarators.{bounds_faults}
use Rattle.xc_type_declarators.proofs.Bounds.{told_one}
use Rattle.xc_type_declarators.proofs.declarators.note_bounds.Goals as goal

pub bounds-preserved : goal.bounds-preserved
bounds-preserved c =
    let rest = bounds_faults (drop (c.bounds.bound-index + 1) c.args.bounds.now) in
    ap (λ f. least_from f rest) c.note_bound.ensures ∙ told_one c.bounds.first c.args.bounds.now c.bounds.bound-index _ c.bounds-test.true ∙ c.bounds.invariant
