use Rattle.std.proofs.Common.{◌≡◌, drop, map}
use Rattle.xc_lex.specs.Numbers.{is_among}
use Rattle.xc_lex.proofs.bytes.is_among.Given as goal

abbrev pub invariant-loop-p : goal.invariant-loop-p
invariant-loop-p l = is_among (map (λ p. p.now) l.table) l.word ≡ is_among (map (λ p. p.now) (drop l.p-index l.table)) l.word
