use Rattle.std.proofs.Common.{◌≡◌, take}
use Rattle.xc_isa.specs.Texts.{size_of}
use Rattle.xc_isa_text.proofs.text.size.Given as goal

abbrev pub invariant-loop-run : goal.invariant-loop-run
invariant-loop-run l = l.size ≡ size_of (take l.run-index l.runs)
