use Rattle.std.proofs.Common.{◌≡◌, ◌+◌, ◌<◌, ◌^◌, ◌++◌, length, map, drop}
use Rattle.xc_meaning.specs.Terms.{terms_of, part_of}
use Rattle.xc_gen.specs.Fits.{most_globals, AllNamesBelow}
use Rattle.xc_gen.specs.Code.{terms_code, waiting_among}
use Rattle.xc_gen.proofs.emit.+term.Given as goal

-- the arguments that are left have code and room, and their code completes the whole
abbrev pub invariant-put_terms-loop-arg : goal.invariant-put_terms-loop-arg
invariant-put_terms-loop-arg l =
    let rest = terms_of (map part_of (drop l.arg-index l.args)) in
    AllNamesBelow most_globals rest
    × (l.depth + waiting_among rest l.before < 2 ^ 32)
    × (l.emit ++ terms_code rest (l.depth + l.before) (length l.emit) ≡ l.fn.emit ++ terms_code (terms_of (map part_of l.args)) l.depth (length l.fn.emit))
