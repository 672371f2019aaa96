-- Where a member of such a loop traps, its serial trace traps.
use Rattle.std.specs.Prelude.{Some}
use Rattle.std.proofs.Common.{◌≡◌, ◌≢◌, ℕ, suc, zero, ◌<◌, ◌≤◌, List, [], ◌∷◌, ◌++◌, refl, ap, sym, ◌∙◌, true, eqb, eq-eqb, arith, ◌⊎◌, inl, inr}
use Rattle.xc_commute_histories.specs.History.{after, hist, Apart, Both, Each, of_owner, Is, TrapsLast}
use Rattle.xc_commute_histories.specs.Runs.{Program, Block, stays}
use Rattle.xc_commute_histories.proofs.Exchange.{hist-append, exchange, all_after}
use Rattle.xc_commute_histories.proofs.Owner.{Each-append, Each-weaker, Each-of, Each-product, Is-owner, Is-along}
use Rattle.xc_commute_histories.proofs.OneLoop.{all_inside, apart_at, newest}
use Rattle.xc_commute_histories.proofs.LetterP.{Block-append}

-- whole iterations 0 to k - 1 in order: their actions alone, the same with the tests, and the state after them
pub data Chain {A S : Type 0} (can : S → A → S → Type 0) (t : S) (test : ℕ → List A) (Trace Whole : ℕ → List A → Type 0) : ℕ → List A → List A → S → Type 0 where
  start : Chain can t test Trace Whole zero [] [] t
  more : {k : ℕ} {g b : List A} {s : S} → Chain can t test Trace Whole k g b s → (s1 : S) → Block can s (test k) s1 → (h : List A) → Trace k h → Whole k h → (s2 : S) → Block can s1 h s2 → Chain can t test Trace Whole (suc k) (h ++ g) (h ++ (test k ++ b)) s2

TrapsLast-append : {A : Type 0} (Traps : A → Type 0) (h g : List A) → TrapsLast Traps h → TrapsLast Traps (h ++ g)
TrapsLast-append Traps [] g t = absurd t
TrapsLast-append Traps (a ∷ h) g t = t

module _ {A M S : Type 0} (p : Program A M S) (who : A → ℕ) (t : S) (e : M) (n : ℕ)
    (Cells : ℕ → A → Type 0) (All : A → Type 0) (Trace Whole : ℕ → List A → Type 0) (Traps : A → Type 0)
    (in_all : (i : ℕ) (a : A) → Cells i a → All a)
    (apart : (i j : ℕ) → i ≢ j → (a b : A) → Cells i a → Cells j b → Apart p.step a b)
    (both : (i j : ℕ) → i ≢ j → (a b : A) → Cells i a → Cells j b → Both p.step a b)
    (shorter : (i : ℕ) (a : A) (h : List A) → Trace i (a ∷ h) → Trace i h)
    (inside : (i : ℕ) (a : A) (h : List A) → Trace i (a ∷ h) → Is (hist p.step h e) → Cells i a)
    (test : ℕ → List A) (Reads : A → Type 0)
    (read_in : (a : A) → Reads a → All a)
    (read_apart : (a c : A) → Reads a → All c → Apart p.step a c)
    (tests_read : (i : ℕ) → Each Reads (test i))
    (tests_hold : (i : ℕ) → hist p.step (test i) e ≡ Some e)
    (test_runs : (k : ℕ) (g b : List A) (s : S) → Chain p.can t test Trace Whole k g b s → k < n → (s1 : S) × Block p.can s (test k) s1)
    -- an iteration that begins after whole earlier ones ends, or traps: it neither waits nor goes on for ever
    (finish : (k : ℕ) (g b : List A) (s s1 : S) → Chain p.can t test Trace Whole k g b s → k < n → Block p.can s (test k) s1 → Each (λ a. Cells (who a) a × (who a < k)) g → Is (hist p.step g e) →
    (h : List A) × Trace k h × Each (λ a. Cells (who a) a × (who a ≡ k)) h × Is (hist p.step (h ++ g) e) × (s2 : S) × Block p.can s1 h s2 × (Whole k h ⊎ TrapsLast Traps h))
    -- what an iteration does depends on nothing that an earlier one left in its thread
    (any_start : (k : ℕ) (g b : List A) (s s1 : S) → Chain p.can t test Trace Whole k g b s → Block p.can s (test k) s1 → (h : List A) → Trace k h → (s2 : S) × Block p.can s1 h s2) where
  chain_runs : (k : ℕ) (g b : List A) (s : S) → Chain p.can t test Trace Whole k g b s → Block p.can t b s
  chain_runs zero _ _ _ start = stays
  chain_runs (suc k) _ _ s (more {g = g} {b = b} {s = s0} c s1 tb h trace wh _ hb) = Block-append p.can t s1 s h (test k ++ b) (Block-append p.can t s0 s1 (test k) b (chain_runs k g b s0 c) tb) hb

  reads_away : (x g : List A) → Each Reads x → hist p.step x e ≡ Some e → Each All g → hist p.step (x ++ g) e ≡ hist p.step g e
  reads_away x g r h o =
      exchange p.step x g (Each-product Reads All (λ a c. Apart p.step a c) (λ a c ra oc. read_apart a c ra oc) x g r o) e
      ∙ hist-append p.step g x e
      ∙ ap (after (λ k. hist p.step g k)) h

  -- the chain so far, its actions in their cells, and possible
  abbrev pub Reached : ℕ → Type 0
  Reached k = (g : List A) × (b : List A) × (s : S) × Chain p.can t test Trace Whole k g b s × Each (λ a. Cells (who a) a × (who a < k)) g × Each All b × (hist p.step b e ≡ hist p.step g e) × Is (hist p.step g e)

  abbrev pub Trapped : Type 0
  Trapped = (b : List A) × (s : S) × Block p.can t b s × TrapsLast Traps b × Each All b × Is (hist p.step b e)

  -- one more iteration, with its test
  longer : (k : ℕ) (r : Reached k) (h : List A) → Each (λ a. Cells (who a) a × (who a ≡ k)) h →
      Each All (h ++ (test k ++ r.1)) × (hist p.step (h ++ (test k ++ r.1)) e ≡ hist p.step (h ++ r.0) e)
  longer k r h o = (
    Each-append All h (test k ++ r.1) (Each-weaker _ All (λ a q. in_all (who a) a q.0) h o) (Each-append All (test k) r.1 (Each-weaker Reads All read_in (test k) (tests_read k)) r.5),
    hist-append p.step h (test k ++ r.1) e ∙ ap (after (λ m. hist p.step h m)) (reads_away (test k) r.1 (tests_read k) (tests_hold k) r.5 ∙ r.6) ∙ sym (hist-append p.step h r.0 e),
  )

  trap_now : (k : ℕ) (r : Reached k) (s1 s2 : S) → Block p.can r.2 (test k) s1 → (h : List A) → Block p.can s1 h s2 → TrapsLast Traps h → Each (λ a. Cells (who a) a × (who a ≡ k)) h → Is (hist p.step (h ++ r.0) e) → Trapped
  trap_now k r s1 s2 tb h hb trap o d =
      let l = longer k r h o in (
        h ++ (test k ++ r.1),
        s2,
        Block-append p.can t s1 s2 h (test k ++ r.1) (Block-append p.can t r.2 s1 (test k) r.1 (chain_runs k r.0 r.1 r.2 r.3) tb) hb,
        TrapsLast-append Traps h (test k ++ r.1) trap,
        l.0,
        Is-along _ _ (sym l.1) d,
      )

  further : (k : ℕ) → k < n → Reached k → Trapped ⊎ Reached (suc k)
  further k few r =
      let x = test_runs k r.0 r.1 r.2 r.3 few in
      let f = finish k r.0 r.1 r.2 x.0 r.3 few x.1 r.4 r.7 in
      let l = longer k r f.0 f.2 in
      elim f.6 as (λ _. Trapped ⊎ Reached (suc k)) [
        | inl wh ↦ inr (
          f.0 ++ r.0,
          f.0 ++ (test k ++ r.1),
          f.4,
          more r.3 x.0 x.1 f.0 f.1 wh f.4 f.5,
          Each-append (λ a. Cells (who a) a × (who a < suc k)) f.0 r.0 (Each-weaker _ (λ a. Cells (who a) a × (who a < suc k)) (λ a q. (q.0, (let z : who a ≡ k = q.1 in omega arith))) f.0 f.2) (Each-weaker _ (λ a. Cells (who a) a × (who a < suc k)) (λ a q. (q.0, (let z : who a < k = q.1 in omega arith))) r.0 r.4),
          l.0,
          l.1,
          f.3,
        )
        | inr trap ↦ inl (trap_now k r x.0 f.4 x.1 f.0 f.5 trap f.2 f.3)
      ]

  as_far : (k : ℕ) → k ≤ n → Trapped ⊎ Reached k
  as_far zero few = inr ([], [], t, start, tt, tt, refl, (e, refl))
  as_far (suc k) few =
      let l : k < n = omega arith in
      elim (as_far k (omega arith)) as (λ _. Trapped ⊎ Reached (suc k)) [ inl x ↦ inl x | inr r ↦ further k l r ]

  -- the third field of OneLoop
  pub p_traps : (a : A) (l : List A) → who a < n → ((i : ℕ) → Trace i (of_owner who i (a ∷ l))) → Is (hist p.step (a ∷ l) e) → Traps a → Trapped
  p_traps a l few team d trap =
      let all : Each (λ x. Cells (who x) x) (a ∷ l) = all_inside p.step who Cells apart Trace e shorter inside (a ∷ l) team d in
      let f : eqb (who a) (who a) ≡ true = eq-eqb (who a) (who a) refl in
      let alone : Is (hist p.step (a ∷ of_owner who (who a) l) e) = rw f at (Is-owner p.step who (λ x. Cells (who x) x) (who a) (apart_at p.step who Cells apart (who a)) (a ∷ l) all e d) in
      let own : Each (λ y. Cells (who y) y × (who y ≡ who a)) (a ∷ of_owner who (who a) l) = ((all.0, refl), Each-of who (who a) (λ x. Cells (who x) x) l all.1) in
      elim (as_far (who a) (omega arith)) as (λ _. Trapped) [
        | inl x ↦ x
        | inr r ↦ (let x = test_runs (who a) r.0 r.1 r.2 r.3 few in
            let b = any_start (who a) r.0 r.1 r.2 x.0 r.3 x.1 (a ∷ of_owner who (who a) l) (newest p.step who Cells apart Trace e shorter inside a l team) in
            trap_now (who a) r x.0 b.0 x.1 (a ∷ of_owner who (who a) l) b.1 trap own
            (all_after p.step (a ∷ of_owner who (who a) l) r.0
            (Each-product (λ y. Cells (who y) y × (who y ≡ who a)) (λ x. Cells (who x) x × (who x < who a)) (λ y x. Apart p.step y x × Both p.step y x)
            (λ y x q s. (apart (who y) (who x) (differ (who y) (who x) (who a) q.1 s.1) y x q.0 s.0, both (who y) (who x) (differ (who y) (who x) (who a) q.1 s.1) y x q.0 s.0))
            (a ∷ of_owner who (who a) l) r.0 own r.4)
            e alone r.7))
      ] where
        differ : (a b n : ℕ) → a ≡ n → b < n → a ≢ b
        differ a b n e l f = omega arith
