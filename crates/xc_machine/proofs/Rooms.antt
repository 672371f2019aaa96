-- A machine is within its limits.
use Rattle.std.proofs.Common.{◌+◌, ◌≤◌, length, arith}
use Rattle.xc_isa.specs.Machine.{live_words}
use Rattle.xc_machine.specs.declared.machine.Machine.{Machine}
use Rattle.xc_machine.specs.Machines.{state_of}

pub words_room : (m : Machine) → live_words (state_of m) + 0 ≤ m.store.words
words_room m =
    let counted = m.store.counted in
    let within = m.store.words_within in
    omega (arith, counted, within)

pub out_room : (m : Machine) → length (state_of m).world.out + 0 ≤ m.store.out
out_room m = let within = m.store.out_within in omega (arith, within)
