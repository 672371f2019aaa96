use Rattle.std.proofs.Common.{drop, ◌++◌}
use Rattle.xc_text_format.specs.Pieces.{text_of}
use Rattle.xc_text_format.proofs.PieceLaws.{Prints}
use Rattle.xc_text_format.proofs.print_pieces.Given as goal

-- what has been printed, and what is left
abbrev pub invariant-loop-byte : goal.invariant-loop-byte
invariant-loop-byte l = Prints l.out.items (l.fn.out.items ++ text_of l.format l.fn.values) l.reading (drop l.byte-index l.format) l.values
