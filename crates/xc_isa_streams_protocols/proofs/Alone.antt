-- One stream steps, and no other.
use Rattle.std.proofs.Common.{◌≡◌, ◌⊎◌, inl, inr, ℕ, zero, suc, ◌+◌, ◌<◌, ◌≤◌, List, [], ◌∷◌, ◌++◌, Some, refl, sym, ap, ◌∙◌, subst, arith}
use Rattle.std.specs.Prelude.{slice_get, replicate}
use Rattle.xc_meaning_world.specs.World.{Got}
use Rattle.xc_meaning_world.specs.Runs.{part_of}
use Rattle.xc_isa.specs.declared.code.Code.{Code}
use Rattle.xc_isa.specs.Effects.{Regs}
use Rattle.xc_isa.specs.Machine as machine
use Rattle.xc_isa.specs.Machine.{Live, State, After, step}
use Rattle.xc_isa.specs.Runs.{At, onward, run}
use Rattle.xc_isa_streams.specs.Class.{Class}
use Rattle.xc_isa_streams.specs.Parts.{Act, threads_in}
use Rattle.xc_isa_streams.specs.Promises.{Shows, own_view, Stage, frees, Moves, goes, quits, acts, Further, StepsTo, RunsStand}
use Rattle.xc_isa_streams.proofs.Standing.{shows}
use Rattle.xc_isa_streams_protocols.specs.Alone.{IsLive, Silent, Comes, StreamsAlone, StreamsComeOn}

module _ (of : ℕ → Class) (code : Code) (stands : RunsStand of code) where
  abbrev StageOf : State → ℕ → Type 0
  StageOf st made = Stage of code st.slots st.world st.last made

  abbrev nothing : (st : State) (made : ℕ) (g : StageOf st made) (s : ℕ) → IsLive st.slots s → Silent of code st made g s 0 st
  nothing st made g s live = record { runs = refl; now = made; count = omega arith; stage = g; same = refl; name = refl; live = live; free = refl; counted = λ m h. let n : m ≡ 0 + m = omega arith in h ∙ ap Some n }

  -- what comes of the first step
  abbrev Way : (st : State) (made : ℕ) (g : StageOf st made) (s n : ℕ) → Type 0
  Way st made g s n =
      ((st' : State) × Silent of code st made g s n st')
      ⊎ ((j : ℕ) × (st' : State) × (q : Silent of code st made g s j st') × (j < n) × Comes of code st' q.now q.stage s (step code s st'))

  -- a silent step, and then others
  abbrev before : (st st1 : State) (made : ℕ) (g : StageOf st made) (s j : ℕ) (st' : State) → step code s st ≡ machine.At st1 → (f : Further of code st.slots st.world st.last made g s st1.slots st1.world st1.last) → f.stage.l ≡ g.l → f.stage.names s ≡ g.names s → frees st1.slots ≡ frees st.slots → Silent of code st1 (suc made) f.stage s j st' → Silent of code st made g s (suc j) st'
  before st st1 made g s j st' e f same name free q = record {
    runs = ap (λ x. onward x (replicate j s) (run code (replicate j s))) e ∙ q.runs;
    now = q.now;
    count = (let h = q.count in omega (arith, h));
    stage = q.stage;
    same = q.same ∙ same;
    name = q.name ∙ name;
    live = q.live;
    free = q.free ∙ free;
    counted = λ m h.
        let n : j + suc m ≡ suc j + m = omega arith in
        let first : slice_get f.stage.steps (f.stage.names s) ≡ Some (suc m) = ap (λ a. slice_get f.stage.steps a) name ∙ f.count m h in
        ap (λ a. slice_get q.stage.steps a) (sym name) ∙ q.counted (suc m) first ∙ ap Some n;
  }

  module _ (s n : ℕ) (rest : (st : State) (made : ℕ) (g : StageOf st made) → IsLive st.slots s → Way st made g s n) where
    after : (st st1 : State) (made : ℕ) (g : StageOf st made) → IsLive st.slots s → step code s st ≡ machine.At st1 → (f : Further of code st.slots st.world st.last made g s st1.slots st1.world st1.last) → f.stage.l ≡ g.l → frees st1.slots ≡ frees st.slots → IsLive st1.slots s → Way st made g s (suc n)
    after st st1 made g live e f same free live1 = join (rest st1 (suc made) f.stage live1)
      where
        name : f.stage.names s ≡ g.names s
        name = f.kept s live.0 live.1 live.2

        join : Way st1 (suc made) f.stage s n → Way st made g s (suc n)
        join (inl y) = inl (y.0, before st st1 made g s n y.0 e f same name free y.1)
        join (inr y) = inr (suc y.0, y.1, before st st1 made g s y.0 y.1 e f same name free y.2, omega (arith, y.3), y.4)

    at_once : (st : State) (made : ℕ) (g : StageOf st made) → IsLive st.slots s → (x : After) → step code s st ≡ x → Comes of code st made g s x → Way st made g s (suc n)
    at_once st made g live x e c = inr (0, st, nothing st made g s live, omega arith, subst (Comes of code st made g s) (sym e) c)

    stepped : (st : State) (made : ℕ) (g : StageOf st made) → IsLive st.slots s → (x : After) → step code s st ≡ x → StepsTo of code st.slots st.world st.last made g s x → Way st made g s (suc n)
    stepped st made g live (machine.At st1) e f = by f.moves
      where
        by : Moves of code st.slots st1.slots s (g.names s) g.l f.stage.l → Way st made g s (suc n)
        by (goes same free pc r here) = after st st1 made g live e f same free (pc, r, here)
        by (quits same free here) = at_once st made g live (machine.At st1) e (f, inr (same, here))
        by (acts k v more asks free count) = at_once st made g live (machine.At st1) e (f, inl (k, v, more, asks, free))
    stepped st made g live (machine.Trap kind) e f = at_once st made g live (machine.Trap kind) e f
    stepped st made g live machine.Waits e f = at_once st made g live machine.Waits e (stands.waits st made g s live.0 live.1 live.2 e)
    stepped st made g live machine.Spent e f = at_once st made g live machine.Spent e tt

  alone_for : (s n : ℕ) (st : State) (made : ℕ) (g : StageOf st made) → IsLive st.slots s → Way st made g s n
  alone_for s zero st made g live = inl (st, nothing st made g s live)
  alone_for s (suc n) st made g live = stepped s n (λ st made g live. alone_for s n st made g live) st made g live (step code s st) refl (stands.steps st made g s)

  pub alone : StreamsAlone of code
  alone st made g s n live = alone_for s n st made g live

  -- ---- how many steps a thread has made

  -- and shows its actions by them
  has_made : (st : State) (made : ℕ) (g : StageOf st made) (a at arg : ℕ) → slice_get (threads_in g.l) a ≡ Some (at, arg) → (m : ℕ) × (slice_get g.steps a ≡ Some m) × Shows of code at arg m (part_of a g.l)
  has_made st made g a at arg h = let x = g.core.each a at arg h in (x.1, x.3, shows of code at arg x.1 x.0 (own_view a g.owner st.world.segs) st.last (part_of a g.l) x.5)

  pub comes_on : StreamsComeOn of code
  comes_on st made g s at arg w live thread few = by (alone st made g s (suc w) live)
    where
      too_many : (st' : State) → Silent of code st made g s (suc w) st' → ⊥
      too_many st' q =
          let x = has_made st made g (g.names s) at arg thread in
          let y = has_made st' q.now q.stage (g.names s) at arg (ap (λ (l : List (ℕ × Act)). slice_get (threads_in l) (g.names s)) q.same ∙ thread) in
          let n : suc w + x.0 ≡ y.0 = let e : Some (suc w + x.0) ≡ Some y.0 = sym (q.counted x.0 x.1) ∙ y.1 in cc in
          let le : y.0 ≤ w = few y.0 (subst (λ l. Shows of code at arg y.0 (part_of (g.names s) l)) q.same y.2) in
          omega (arith, n, le)

      by : Way st made g s (suc w) → (j : ℕ) × (st' : State) × (q : Silent of code st made g s j st') × (j ≤ w) × Comes of code st' q.now q.stage s (step code s st')
      by (inl y) = absurd (too_many y.0 y.1)
      by (inr y) = (y.0, y.1, y.2, (let lt = y.3 in omega (arith, lt)), y.4)
