-- Silent ways and what they weigh, by the effect of each step.
use Rattle.std.proofs.Common.{◌≡◌, ℕ, zero, suc, ◌+◌, ◌≤◌, List, [], ◌∷◌, Option, Some, None, refl, sym, ap, ◌∙◌, subst, arith}
use Rattle.std.specs.Prelude.{slice_get}
use Rattle.xc_word.specs.declared.memory.Cell.{Cell}
use Rattle.xc_meaning_world.specs.World.{Touch, Request, On, Reply, Got, put, seg_of, op}
use Rattle.xc_isa.specs.declared.code.Code.{Code}
use Rattle.xc_isa.specs.Effects.{Regs, Effect, Goes, Asks, Faults, Quits, effect}
use Rattle.xc_isa_streams.specs.Class.{Class, Source, Private, Shared, in_place}
use Rattle.xc_isa_streams.specs.Parts.{Ask, Of, Side, Act}
use Rattle.xc_isa_streams.specs.Local.{Ended, Own, own_of, num_after, hid, stopped, asked, does, local}
use Rattle.xc_isa_streams_protocols.specs.Weights.{sum_asked, sum_hid, sum_does, tally}
use Rattle.xc_isa_streams_protocols.specs.Protocol as protocol

module _ {S : Type 0} (may : S → Ask → Type 0) (goes_to : S → Ask → ℕ → S → Type 0) (cost : S → ℕ) (of : ℕ → Class) (code : Code) (weight : ℕ → ℕ) where
  abbrev Leads : ℕ → Regs → Own → ℕ → Regs → Own → Type 0
  Leads pc r o pc' r' o' = protocol.Leads may goes_to cost of code weight pc r o pc' r' o'

  pub stays : (pc : ℕ) (r : Regs) (o : Own) → Leads pc r o pc r o
  stays pc r o = record {
    n = 0;
    w = 0;
    by = λ j rs t. let e : 0 + j ≡ j = omega arith in ap (λ m. local of code m pc r o rs t) e;
    weighs = λ j rs. let e : 0 + j ≡ j = omega arith in let h = ap (λ m. tally weight of code m pc r o rs) e in omega (arith, h);
  }

  pub and_then : (pc pc1 pc2 : ℕ) (r r1 r2 : Regs) (o o1 o2 : Own) → Leads pc r o pc1 r1 o1 → Leads pc1 r1 o1 pc2 r2 o2 → Leads pc r o pc2 r2 o2
  and_then pc pc1 pc2 r r1 r2 o o1 o2 x y = record {
    n = x.n + y.n;
    w = x.w + y.w;
    by = λ j rs t. let e : x.n + y.n + j ≡ x.n + (y.n + j) = omega arith in ap (λ m. local of code m pc r o rs t) e ∙ x.by (y.n + j) rs t ∙ y.by j rs t;
    weighs = λ j rs.
        let e : x.n + y.n + j ≡ x.n + (y.n + j) = omega arith in
        let h = ap (λ m. tally weight of code m pc r o rs) e in
        let a = x.weighs (y.n + j) rs in
        let b = y.weighs j rs in
        omega (arith, h, a, b);
  }

  -- one step, by its effect and whose it is
  module _ (pc : ℕ) (c : Class) (r : Regs) (e : Effect) (ec : in_place of (slice_get code.instrs pc) ≡ c) (ef : effect code.formats (slice_get code.instrs pc) pc r ≡ e) where
    one : (k : ℕ) (o : Own) (rs : List Reply) (t : List Act) → local of code (suc k) pc r o rs t ≡ does c e (local of code k) o rs t
    one k o rs t = ap (λ u. does u (effect code.formats (slice_get code.instrs pc) pc r) (local of code k) o rs t) ec ∙ ap (λ u. does c u (local of code k) o rs t) ef

    weighs_one : (k : ℕ) (o : Own) (rs : List Reply) → tally weight of code (suc k) pc r o rs ≡ weight pc + sum_does c e (tally weight of code k) o rs
    weighs_one k o rs = ap (λ u. weight pc + sum_does u (effect code.formats (slice_get code.instrs pc) pc r) (tally weight of code k) o rs) ec ∙ ap (λ u. weight pc + sum_does c u (tally weight of code k) o rs) ef

  first : (k : ℕ) → 1 + k ≡ suc k
  first k = omega arith

  -- a step that asks nothing
  pub goes_on : (pc pc' : ℕ) (r r' : Regs) (o : Own) → effect code.formats (slice_get code.instrs pc) pc r ≡ Goes pc' r' → Leads pc r o pc' r' o
  goes_on pc pc' r r' o ef = record {
    n = 1;
    w = weight pc;
    by = λ k rs t. ap (λ m. local of code m pc r o rs t) (first k) ∙ one pc (in_place of (slice_get code.instrs pc)) r (Goes pc' r') refl ef k o rs t;
    weighs = λ k rs. ap (λ m. tally weight of code m pc r o rs) (first k) ∙ weighs_one pc (in_place of (slice_get code.instrs pc)) r (Goes pc' r') refl ef k o rs;
  }

  -- a touch of an own segment that neither waits nor traps
  pub touches_own : (pc pc' v : ℕ) (x : Touch) (r : Regs) (rf : ℕ → Regs) (o : Own) (xs : List Cell) → in_place of (slice_get code.instrs pc) ≡ Private → effect code.formats (slice_get code.instrs pc) pc r ≡ Asks (On x) pc' rf → op x (o.num 0) (o.priv (seg_of x (o.num 0))) ≡ Some (Got v, xs) → Leads pc r o pc' (rf v) (own_of (num_after x o.num) (put o.priv (seg_of x (o.num 0)) xs))
  touches_own pc pc' v x r rf o xs ec ef is = record {
    n = 1;
    w = weight pc;
    by = λ k rs t. ap (λ m. local of code m pc r o rs t) (first k)
        ∙ one pc Private r (Asks (On x) pc' rf) ec ef k o rs t
        ∙ ap (λ u. hid u (seg_of x (o.num 0)) (num_after x o.num) o.priv pc' rf (local of code k) rs t) is;
    weighs = λ k rs. ap (λ m. tally weight of code m pc r o rs) (first k)
        ∙ weighs_one pc Private r (Asks (On x) pc' rf) ec ef k o rs
        ∙ ap (λ u. weight pc + sum_hid u (seg_of x (o.num 0)) (num_after x o.num) o.priv pc' rf (tally weight of code k) rs) is;
  }

  -- ---- the end of a silent way

  module _ (IsLast : S → Type 0) (Stood : S → ℕ → Regs → Own → Type 0) (s : S) (pc pc1 : ℕ) (r r1 : Regs) (o o1 : Own) (l : Leads pc r o pc1 r1 o1) (light : l.w + weight pc1 ≤ cost s) where
    ends_by : (c : Class) (e : Effect) → in_place of (slice_get code.instrs pc1) ≡ c → effect code.formats (slice_get code.instrs pc1) pc1 r1 ≡ e → (j : ℕ) (rs : List Reply) → tally weight of code (l.n + suc j) pc r o rs ≡ l.w + weight pc1 + sum_does c e (tally weight of code j) o1 rs
    ends_by c e ec ef j rs = let a = l.weighs (suc j) rs in let b = weighs_one pc1 c r1 e ec ef j o1 rs in omega (arith, a, b)

    -- it asks the source
    pub asks_source : (q : Request) (pc2 : ℕ) (rf : ℕ → Regs) → may s (Of q) → in_place of (slice_get code.instrs pc1) ≡ Source → effect code.formats (slice_get code.instrs pc1) pc1 r1 ≡ Asks q pc2 rf → ((v : ℕ) (s' : S) → goes_to s (Of q) v s' → Stood s' pc2 (rf v) o1) → protocol.Asking may goes_to cost of code weight IsLast Stood s pc r o
    asks_source q pc2 rf asks ec ef on = record {
      k = Of q;
      asks = asks;
      n = l.n;
      w = l.w + weight pc1;
      pc' = pc2;
      rf = rf;
      o' = o1;
      by = λ j rs t. l.by (suc j) rs t ∙ one pc1 Source r1 (Asks q pc2 rf) ec ef j o1 rs t;
      weighs = λ j rs. ends_by Source (Asks q pc2 rf) ec ef j rs;
      light = light;
      on = on;
    }

    -- it asks of what is shared
    pub asks_shared : (x : Touch) (pc2 : ℕ) (rf : ℕ → Regs) → may s (Side x) → in_place of (slice_get code.instrs pc1) ≡ Shared → effect code.formats (slice_get code.instrs pc1) pc1 r1 ≡ Asks (On x) pc2 rf → ((v : ℕ) (s' : S) → goes_to s (Side x) v s' → Stood s' pc2 (rf v) o1) → protocol.Asking may goes_to cost of code weight IsLast Stood s pc r o
    asks_shared x pc2 rf asks ec ef on = record {
      k = Side x;
      asks = asks;
      n = l.n;
      w = l.w + weight pc1;
      pc' = pc2;
      rf = rf;
      o' = o1;
      by = λ j rs t. l.by (suc j) rs t ∙ one pc1 Shared r1 (Asks (On x) pc2 rf) ec ef j o1 rs t;
      weighs = λ j rs. ends_by Shared (Asks (On x) pc2 rf) ec ef j rs;
      light = light;
      on = on;
    }

    -- it quits
    pub quits : IsLast s → effect code.formats (slice_get code.instrs pc1) pc1 r1 ≡ Quits → protocol.Over may goes_to cost of code weight IsLast Stood s pc r o
    quits last ef = record {
      last = last;
      n = l.n;
      by = λ j rs t. l.by (suc j) rs t ∙ one pc1 (in_place of (slice_get code.instrs pc1)) r1 Quits refl ef j o1 rs t;
      light = λ j rs. let a = ends_by (in_place of (slice_get code.instrs pc1)) Quits refl ef j rs in omega (arith, a, light);
    }
