use Rattle.std.proofs.Common.{◌≡◌, arith, to_z, of_z}
use Rattle.std.specs.Int.{w128}
use Rattle.std.proofs.lemmas.Int.{ints}
use Rattle.xc_lin.proofs.Spread.{reaches-up, reaches-down}
use Rattle.xc_lin.proofs.bounds.Line.extent.Goals as goal

pub returns-then-self-lt0-clause-reaches : goal.returns-then-self-lt0-clause-reaches
returns-then-self-lt0-clause-reaches c =
    let first : to_z w128 (of_z w128 c.first-first.result) ≡ c.first-first.result = omega (arith, ints, c.first-first.ensures.size) in
    let last : to_z w128 (of_z w128 c.last-last.result) ≡ c.last-last.result = omega (arith, ints, c.last-last.ensures.size) in
    rw (first, last, c.first-first.ensures.value, c.last-last.ensures.value) (reaches-down c.args.self c.requires.some (omega (arith, ints)))

pub returns-else-self-lt0-clause-reaches : goal.returns-else-self-lt0-clause-reaches
returns-else-self-lt0-clause-reaches c =
    let first : to_z w128 (of_z w128 c.first-first.result) ≡ c.first-first.result = omega (arith, ints, c.first-first.ensures.size) in
    let last : to_z w128 (of_z w128 c.last-last.result) ≡ c.last-last.result = omega (arith, ints, c.last-last.ensures.size) in
    rw (first, last, c.first-first.ensures.value, c.last-last.ensures.value) (reaches-up c.args.self c.requires.some (omega (arith, ints)))
