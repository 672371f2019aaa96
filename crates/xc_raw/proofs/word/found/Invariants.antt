use Rattle.std.proofs.Common.{◌≡◌, drop, map}
use Rattle.xc_raw.specs.Words.{found}
use Rattle.xc_raw.proofs.word.found.Given as goal

abbrev pub invariant-loop-pair : goal.invariant-loop-pair
invariant-loop-pair l = found (map (λ p. (p.0.now, p.1)) l.table) l.text ≡ found (map (λ p. (p.0.now, p.1)) (drop l.pair-index l.table)) l.text
