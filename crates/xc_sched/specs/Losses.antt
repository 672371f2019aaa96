-- What a recorder keeps of the answers, and what it loses.
use Rattle.std.specs.Prelude.{◌≡◌, ℕ, ◌+◌, ◌^◌, ◌==◌, List, [], ◌∷◌, ◌++◌, fold, Option, Some, None, nat_lt, if◌then◌else◌}
use Rattle.xc_sched.specs.declared.recorder.Loss.{Loss}
use Rattle.xc_sched.specs.declared.recorder.Loss.TheVariants.{NoMemory, Steps, Stream}

-- how many of the last steps are of this stream
abbrev pub steps_at_end : ℕ → List ℕ → ℕ
steps_at_end s steps = fold (λ n t. if t == s then n + 1 else 0) 0 steps

-- why one more step has no text: the stream is not below 8,192, or its run would pass 2^31 steps
abbrev pub loss_of : List ℕ → ℕ → Option Loss
loss_of steps s = if nat_lt s 8192 then (if steps_at_end s steps == 2 ^ 31 then Some Steps else None) else Some (Stream s)

-- One more step is added, or it is lost and the steps are as before.
abbrev pub Adds : List ℕ → ℕ → Option Loss → List ℕ → Type 0
Adds old s None new = (loss_of old s ≡ None) × (new ≡ old ++ s ∷ [])
Adds old s (Some NoMemory) new = (loss_of old s ≡ None) × (new ≡ old)
Adds old s (Some Steps) new = (loss_of old s ≡ Some Steps) × (new ≡ old)
Adds old s (Some (Stream t)) new = (loss_of old s ≡ Some (Stream t)) × (new ≡ old)

-- An answer is recorded where nothing was lost before it; after the first loss nothing changes.
abbrev pub Records : List ℕ → Option Loss → Option ℕ → List ℕ → Option Loss → Type 0
Records old (Some loss) answer new lost = (new ≡ old) × (lost ≡ Some loss)
Records old None None new lost = (new ≡ old) × (lost ≡ None)
Records old None (Some s) new lost = Adds old s lost new
