use Rattle.std.proofs.Common.{◌≡◌, drop}
use Rattle.xc_parse_grammar.specs.Plan.{picked}
use Rattle.xc_parse_grammar.proofs.goals.picked.Given as goal

abbrev pub invariant-loop-step : goal.invariant-loop-step
invariant-loop-step l = picked l.steps l.word ≡ picked (drop l.step-index l.steps) l.word
