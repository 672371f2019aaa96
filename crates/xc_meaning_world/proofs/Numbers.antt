-- The number of a new segment.
use Rattle.std.specs.Prelude.{ℕ, zero, suc}
use Rattle.xc_meaning_world.specs.World.{Touch, Reach, New, Free, Request, On, Print, Begin, Stop, Tick}
use Rattle.xc_meaning_world.specs.Runs.{NewInTouch, NewIn}

-- where a touch's number, if it asks for one, is among some, it is among others too
pub new_touch_in : (P Q : ℕ → Type 0) (x : Touch) (num : ℕ) → NewInTouch P x num → (P num → Q num) → NewInTouch Q x num
new_touch_in P Q (Reach act) num h f = tt
new_touch_in P Q (New zero) num h f = tt
new_touch_in P Q (New (suc n)) num h f = f h
new_touch_in P Q (Free g) num h f = tt

pub new_in : (P Q : ℕ → Type 0) (q : Request) (num : ℕ) → NewIn P q num → (P num → Q num) → NewIn Q q num
new_in P Q (On x) num h f = new_touch_in P Q x num h f
new_in P Q (Print bytes) num h f = tt
new_in P Q (Begin at arg) num h f = tt
new_in P Q Stop num h f = tt
new_in P Q Tick num h f = tt

-- a number that is among them serves any request
pub any_in : (P : ℕ → Type 0) (q : Request) (num : ℕ) → P num → NewIn P q num
any_in P (On (Reach act)) num h = tt
any_in P (On (New zero)) num h = tt
any_in P (On (New (suc n))) num h = h
any_in P (On (Free g)) num h = tt
any_in P (Print bytes) num h = tt
any_in P (Begin at arg) num h = tt
any_in P Stop num h = tt
any_in P Tick num h = tt
