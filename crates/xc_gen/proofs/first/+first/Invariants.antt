use Rattle.std.proofs.Common.{◌≡◌, map, drop}
use Rattle.std.specs.Prelude.{None}
use Rattle.xc_meaning.specs.Terms.{terms_of, part_of}
use Rattle.xc_gen.specs.Unbuilt.{first_of}
use Rattle.xc_gen.proofs.first.+first.Given as goal

-- the arguments that are left find the first of all
abbrev pub invariant-first_of-loop-arg : goal.invariant-first_of-loop-arg
invariant-first_of-loop-arg l =
    first_of (terms_of (map part_of l.args)) None ≡ first_of (terms_of (map part_of (drop l.arg-index l.args))) l.found
