use Rattle.std.proofs.Common.{◌≡◌, map, drop}
use Rattle.std.specs.Prelude.{max}
use Rattle.xc_meaning.specs.Terms.{terms_of, part_of}
use Rattle.xc_gen.specs.Code.{waiting_among}
use Rattle.xc_gen.proofs.frame.+waiting.Given as goal

-- the most so far, and what the arguments that are left have
abbrev pub invariant-waiting_among-loop-arg : goal.invariant-waiting_among-loop-arg
invariant-waiting_among-loop-arg l =
    max l.most (waiting_among (terms_of (map part_of (drop l.arg-index l.args))) l.before) ≡ waiting_among (terms_of (map part_of l.args)) 0
