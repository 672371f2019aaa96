-- A protocol: what a thread may ask in each of its states, where it stands after the answer, and what it costs to come there.
use Rattle.std.specs.Prelude.{◌≡◌, ◌⊎◌, ℕ, zero, suc, ◌+◌, ◌<◌, ◌≤◌, List, [], ◌∷◌, ◌++◌}
use Rattle.xc_meaning_world.specs.World.{Stop, Reply, Got, Dead, put}
use Rattle.xc_isa.specs.declared.code.Code.{Code}
use Rattle.xc_isa.specs.Effects.{Regs}
use Rattle.xc_isa_streams.specs.Class.{Class}
use Rattle.xc_isa_streams.specs.Parts.{Ask, Of, Act, act}
use Rattle.xc_isa_streams.specs.Local.{Ended, Bad, Own, first_own, asked, stopped, local, local_from, replies_of, IsOver}
use Rattle.xc_isa_streams.specs.Promises.{globals_of, Fresh, Shows, Ends}
use Rattle.xc_isa_streams_protocols.specs.Weights.{sum_asked, tally, tally_from, by_steps}

-- may: what is asked in a state; goes: where an answer leads; cost: what the steps from there to the next action weigh at most
module _ {S : Type 0} (may : S → Ask → Type 0) (goes : S → Ask → ℕ → S → Type 0) (cost : S → ℕ) where
  -- a trap is the last action; after an answer the thread stands where the protocol says, and u is what the rest of its steps weigh
  abbrev pub replied : S → Ask → Reply → ℕ → List Act → (S → ℕ → Type 0) → Type 0
  replied s k Dead w t K = (t ≡ []) × (w ≤ cost s)
  replied s k (Got v) w t K = (s' : S) → goes s k v s' → (u : ℕ) × (w ≤ cost s + u) × K s' u

  -- From this state, with steps that weigh w, the thread makes these actions, and then stands where E holds.
  abbrev pub Obeys : (S → Type 0) → S → ℕ → List Act → Type 0
  Obeys E s w [] = E s × (w ≤ cost s)
  Obeys E s w (a ∷ t) = may s a.ask × replied s a.ask a.reply w t (λ s' u. Obeys E s' u t)

  -- ---- code that keeps it

  module _ (of : ℕ → Class) (code : Code) (weight : ℕ → ℕ) where
    -- Without an action, whatever the replies, the stream comes from the one place to the other, by n steps that weigh w.
    pub record Leads (pc : ℕ) (r : Regs) (o : Own) (pc' : ℕ) (r' : Regs) (o' : Own) : Type 0 where
      pub n : ℕ
      pub w : ℕ
      pub by : (j : ℕ) (rs : List Reply) (t : List Act) → local of code (n + j) pc r o rs t ≡ local of code j pc' r' o' rs t
      pub weighs : (j : ℕ) (rs : List Reply) → tally weight of code (n + j) pc r o rs ≡ w + tally weight of code j pc' r' o' rs

    module _ (IsLast : S → Type 0) (Stood : S → ℕ → Regs → Own → Type 0) where
      -- it asks next, and whatever the answer, it stands where the protocol says
      pub record Asking (s : S) (pc : ℕ) (r : Regs) (o : Own) : Type 0 where
        pub k : Ask
        pub asks : may s k
        pub n : ℕ
        pub w : ℕ
        pub pc' : ℕ
        pub rf : ℕ → Regs
        pub o' : Own
        pub by : (j : ℕ) (rs : List Reply) (t : List Act) → local of code (n + suc j) pc r o rs t ≡ asked k pc' rf (local of code j) o' rs t
        pub weighs : (j : ℕ) (rs : List Reply) → tally weight of code (n + suc j) pc r o rs ≡ w + sum_asked pc' rf (tally weight of code j) o' rs
        pub light : w ≤ cost s
        pub on : (v : ℕ) (s' : S) → goes s k v s' → Stood s' pc' (rf v) o'

      -- it traps by itself
      pub record Stopping (s : S) (pc : ℕ) (r : Regs) (o : Own) : Type 0 where
        pub asks : may s (Of Stop)
        pub none : (v : ℕ) (s' : S) → goes s (Of Stop) v s' → ⊥
        pub n : ℕ
        pub by : (j : ℕ) (rs : List Reply) (t : List Act) → local of code (n + suc j) pc r o rs t ≡ stopped rs t
        pub light : (j : ℕ) (rs : List Reply) → tally weight of code (n + suc j) pc r o rs ≤ cost s

      -- it ends
      pub record Over (s : S) (pc : ℕ) (r : Regs) (o : Own) : Type 0 where
        pub last : IsLast s
        pub n : ℕ
        pub by : (j : ℕ) (rs : List Reply) (t : List Act) → local of code (n + suc j) pc r o rs t ≡ Ended rs t
        pub light : (j : ℕ) (rs : List Reply) → tally weight of code (n + suc j) pc r o rs ≤ cost s

      abbrev pub Ready : S → ℕ → Regs → Own → Type 0
      Ready s pc r o = Asking s pc r o ⊎ (Stopping s pc r o ⊎ Over s pc r o)

      -- from each place where a thread stands it comes, silently, to where it asks, stops or ends
      abbrev pub Settles : Type 0
      Settles = (s : S) (pc : ℕ) (r : Regs) (o : Own) → Stood s pc r o → Ready s pc r o

      -- a thread that begins at this position with this word in r1 stands in this state
      abbrev pub Begins : S → ℕ → ℕ → Type 0
      Begins s at arg = (num : ℕ → ℕ) → Fresh (globals_of code) num → Stood s at (put (λ x. 0) 1 arg) (first_own num)

      -- What a thread shows, what it asks next, its end, and a touch of what is not its own: each as its protocol allows.
      pub record Keeps : Type 0 where
        pub shown : (s : S) (at arg m : ℕ) (t : List Act) → Begins s at arg → (h : Shows of code at arg m t) (j : ℕ) → Obeys (λ s. Unit {0}) s (tally_from weight of code j at arg h.num (replies_of t)) t
        pub asking : (s : S) (at arg m : ℕ) (t : List Act) (k : Ask) → Begins s at arg → (h : Shows of code at arg m (t ++ act k Dead ∷ [])) (j : ℕ) → Obeys (λ s. may s k) s (tally_from weight of code j at arg h.num (replies_of (t ++ act k Dead ∷ []))) t
        pub ended : (s : S) (at arg m : ℕ) (t : List Act) → Begins s at arg → (h : Ends of code at arg m t) (j : ℕ) → Obeys IsLast s (tally_from weight of code j at arg h.num (replies_of t)) t
        pub bad : (s : S) (at arg m i : ℕ) (t u : List Act) → Begins s at arg → (h : Shows of code at arg m t) → local_from of code i at arg h.num (replies_of t) ≡ Bad u → (j : ℕ) → Obeys (λ s. ⊥) s (tally_from weight of code j at arg h.num (replies_of t)) t

-- Where each step weighs 1, m steps before a run is over weigh m.
abbrev pub StepsAreCounted : (ℕ → Class) → Code → Type 0
StepsAreCounted of code = (m at arg : ℕ) (num : ℕ → ℕ) (rs : List Reply) → ((j : ℕ) → j < m → IsOver (local_from of code j at arg num rs) → ⊥) → tally_from by_steps of code m at arg num rs ≡ m
