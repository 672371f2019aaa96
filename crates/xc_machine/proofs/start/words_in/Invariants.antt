use Rattle.std.proofs.Common.{◌≡◌, ◌+◌, drop}
use Rattle.std.specs.List.{sum_by}
use Rattle.xc_isa.specs.Texts.{size_of}
use Rattle.xc_machine.proofs.start.words_in.Given as goal

-- the words of the other globals are missing
abbrev pub invariant-loop-global : goal.invariant-loop-global
invariant-loop-global l = l.words + sum_by size_of (drop l.global-index l.globals) ≡ sum_by size_of l.globals
