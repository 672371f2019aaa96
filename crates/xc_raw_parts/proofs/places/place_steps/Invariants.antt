use Rattle.std.proofs.Common.{◌≡◌, ◌++◌, drop}
use Rattle.xc_raw.specs.declared.tree.Raw.{out-Raw}
use Rattle.xc_raw_parts.specs.Places.{steps_around, place_steps}
use Rattle.xc_raw_parts.proofs.places.place_steps.Given as goal

abbrev pub invariant-parts : goal.invariant-parts
invariant-parts l = l.steps ++ steps_around l.source l.tokens l.at (out-Raw l.node).end (drop l.part-index l.part-items) ≡ place_steps l.source l.tokens l.node
