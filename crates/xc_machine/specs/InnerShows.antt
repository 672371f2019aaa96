-- What only private functions and proofs speak of, beside `Shows`.
use Rattle.std.specs.Prelude.{ℕ, List, Option, Some, None, slice_get}
use Rattle.xc_isa.specs.Effects.{Regs}
use Rattle.xc_machine_slots.specs.declared.stream.Stream.{Stream}
use Rattle.xc_machine_slots.specs.declared.seat.Seat.{Seat}
use Rattle.xc_machine_slots.specs.declared.seat.Seat.TheVariants.{Absent, Free, Taken}
use Rattle.xc_machine_slots.specs.Registers.{regs_of}

abbrev pub stream_of : Option Seat → Option Stream
stream_of None = None
stream_of (Some Absent) = None
stream_of (Some Free) = None
stream_of (Some (Taken t)) = Some t

-- the stream under a number, where there is one
abbrev pub stream_in : List Seat → ℕ → Option Stream
stream_in seats s = stream_of (slice_get seats s)

-- the registers of a stream, 0 where there is none
abbrev pub regs_at : Option Stream → Regs
regs_at None = λ x. 0
regs_at (Some t) = regs_of t.regs
