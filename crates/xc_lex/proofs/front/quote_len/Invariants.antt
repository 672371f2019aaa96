use Rattle.std.proofs.Common.{◌≡◌, drop, false}
use Rattle.xc_lex.specs.Front.{quote_from}
use Rattle.xc_lex.proofs.front.quote_len.Given as goal

abbrev pub invariant-loop-i : goal.invariant-loop-i
invariant-loop-i l = quote_from 0 false l.rest ≡ quote_from l.i l.escaped (drop l.i l.rest)
