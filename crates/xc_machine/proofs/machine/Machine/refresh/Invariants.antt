use Rattle.std.proofs.Common.{◌≡◌, length, take}
use Rattle.xc_machine.specs.Machines.{state_of, code_of}
use Rattle.xc_machine.specs.Runs.{ready_flags}
use Rattle.xc_machine.proofs.machine.Machine.refresh.Given as goal

-- the flags so far are right, and nothing else changes
abbrev pub invariant-loop-s : goal.invariant-loop-s
invariant-loop-s l = record {
  flags : take l.s l.self.ready ≡ take l.s (ready_flags (code_of l.fn.self) (state_of l.fn.self));
  end : l.s-end ≡ length l.fn.self.seats.items;
  seats : l.self.seats ≡ l.fn.self.seats;
  store : l.self.store ≡ l.fn.self.store;
  code : l.self.code ≡ l.fn.self.code;
  steps : l.self.steps ≡ l.fn.self.steps;
}
