use Rattle.std.proofs.Common.{◌≡◌, map, take}
use Rattle.xc_meaning_world.specs.World.{segs_of}
use Rattle.xc_isa.specs.Texts.{cells_of}
use Rattle.xc_machine.specs.Shows.{segs_in}
use Rattle.xc_machine.proofs.start.memory_of.Given as goal

-- the globals so far are there
abbrev pub invariant-loop-global : goal.invariant-loop-global
invariant-loop-global l = record {
  segments : segs_in l.memory ≡ segs_of (map cells_of (take l.global-index l.globals));
  number : l.last ≡ l.global-index;
}
