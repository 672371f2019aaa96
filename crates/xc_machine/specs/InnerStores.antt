-- What only private functions and proofs speak of, beside `Stores`.
use Rattle.std.specs.Prelude.{◌≡◌, ◌⊎◌, ◌<◌, ◌≤◌, ◌+◌, ◌-◌, ◌^◌, ℕ, suc, Bool, true, false, List, ◌++◌, length, Option, Some, None, replicate}
use Rattle.xc_word.specs.Cells.{fresh}
use Rattle.xc_meaning_world.specs.World.{World, Reply, Got, Dead, On, Free, put, serve}
use Rattle.xc_word.specs.declared.memory.Applied.{Applied}
use Rattle.xc_word.specs.declared.memory.Applied.TheVariants.{Done, Blocked, Bad}
use Rattle.xc_machine.specs.declared.store.Store.{Store}
use Rattle.xc_machine.specs.declared.store.Added.{Added}
use Rattle.xc_machine.specs.declared.store.Added.TheVariants as added
use Rattle.xc_machine.specs.declared.store.Printed.{Printed}
use Rattle.xc_machine.specs.declared.store.Printed.TheVariants as printed
use Rattle.xc_machine.specs.Stores.{shown}

-- what an access answers, and the world that it leaves
abbrev pub Serves : Applied → World → World → Option (Reply × World) → Type 0
Serves (Done v) old new o = o ≡ Some (Got v, new)
Serves Blocked old new o = (o ≡ None) × (new ≡ old)
Serves Bad old new o = (o ≡ Some (Dead, old)) × (new ≡ old)

-- the limits stay
abbrev pub SameLimits : Store → Store → Type 0
SameLimits old new = (new.words ≡ old.words) × (new.out ≡ old.out)

-- the limits and the newest segment's number stay
abbrev pub SameNumbers : Store → Store → Type 0
SameNumbers old new = (new.last ≡ old.last) × SameLimits old new

abbrev pub IsUnchanged : Store → Store → Type 0
IsUnchanged old new = (shown new ≡ shown old) × SameNumbers old new

-- a new segment, which has the next number
abbrev pub Adds : Added → ℕ → Store → Store → Type 0
Adds (added.At n) cells old new =
    (n ≡ suc old.last) × (n < 2 ^ 32 - 1) × (old.live + cells ≤ old.words)
    × (shown new ≡ record { segs = put (shown old).segs n (replicate cells fresh); out = (shown old).out }) × (new.last ≡ n) × SameLimits old new
Adds added.Full cells old new = ((old.words < old.live + cells) ⊎ (suc old.last ≡ 2 ^ 32 - 1)) × (new ≡ old)
Adds added.NoMemory cells old new = new ≡ old

-- whether a segment was there, which is gone now
abbrev pub Frees : Bool → ℕ → Store → Store → Type 0
Frees true seg old new = (serve (On (Free seg)) 0 (shown old) ≡ Some (Got 0, shown new)) × SameNumbers old new
Frees false seg old new = (serve (On (Free seg)) 0 (shown old) ≡ Some (Dead, shown old)) × (new ≡ old)

-- a text is added to the output, or it would pass the limit
abbrev pub Prints : Printed → List ℕ → Store → Store → Type 0
Prints printed.Done text old new = (length old.output.items + length text ≤ old.out) × (shown new ≡ record { segs = (shown old).segs; out = (shown old).out ++ text }) × SameNumbers old new
Prints (printed.Full piece) text old new = (piece ≡ length text) × (old.out < length old.output.items + piece) × IsUnchanged old new
Prints printed.NoMemory text old new = IsUnchanged old new
