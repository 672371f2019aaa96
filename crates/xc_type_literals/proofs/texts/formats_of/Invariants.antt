use Rattle.std.proofs.Common.{◌≡◌, take}
use Rattle.std.specs.Prelude.{map}
use Rattle.xc_type_literals.specs.Texts.{text_at}
use Rattle.xc_type_literals.proofs.texts.formats_of.Given as goal

abbrev pub invariant-stretches : goal.invariant-stretches
invariant-stretches l = l.formats ≡ map (text_at l.source) (take l.stretch-index l.stretches)
