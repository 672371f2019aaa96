use Rattle.std.proofs.Common.{◌≡◌, ◌+◌, ◌<◌, ◌≤◌, ◌^◌, ◌++◌, map, drop}
use Rattle.xc_meaning.specs.Terms.{terms_of, part_of}
use Rattle.xc_gen.specs.Fits.{count_of}
use Rattle.xc_gen.specs.Code.{loads_code}
use Rattle.xc_gen.proofs.emit.put_loads.Given as goal

-- the arguments that are left have registers and cells, and their loads complete the whole
abbrev pub invariant-loop-arg : goal.invariant-loop-arg
invariant-loop-arg l =
    let rest = terms_of (map part_of (drop l._arg-index l.args)) in
    (l.register + count_of rest ≤ 32)
    × (l.cell + count_of rest < 2 ^ 32)
    × (l.emit ++ loads_code rest l.register l.cell ≡ l.fn.emit ++ loads_code (terms_of (map part_of l.args)) 24 l.depth)
