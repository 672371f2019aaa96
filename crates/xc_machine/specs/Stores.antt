-- What the store of a machine shows, and how it changes.
use Rattle.xc_meaning_world.specs.World.{World}
use Rattle.xc_machine.specs.declared.store.Store.{Store}
use Rattle.xc_machine.specs.Shows.{world_in}

abbrev pub shown : Store → World
shown s = world_in s.memory s.output.items
