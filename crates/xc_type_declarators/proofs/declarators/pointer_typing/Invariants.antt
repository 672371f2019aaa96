use Rattle.std.proofs.Common.{◌≡◌, take}
use Rattle.std.specs.Prelude.{fold}
use Rattle.xc_type_declarators.specs.Declarators.{pointed_step, start}
use Rattle.xc_type_declarators.proofs.declarators.pointer_typing.Given as goal

abbrev pub invariant-loop-word : goal.invariant-loop-word
invariant-loop-word l = l.pointed ≡ fold pointed_step (start l.fn.base) (take l.word-index l.words)
