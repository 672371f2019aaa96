-- What a parallel loop with no private scalar, reduction or recurrence owes to the induction.
use Rattle.std.specs.Prelude.{Some}
use Rattle.std.proofs.Common.{◌≡◌, ◌≢◌, ℕ, suc, zero, ◌<◌, ◌≤◌, List, [], ◌∷◌, ◌++◌, refl, ap, sym, ◌∙◌, subst, arith}
use Rattle.xc_commute_histories.specs.History.{after, hist, Apart, Each, of_owner, Is}
use Rattle.xc_commute_histories.specs.InnerHistory.{serial}
use Rattle.xc_commute_histories.specs.Runs.{Program, Block, stays, goes}
use Rattle.xc_commute_histories.proofs.Exchange.{hist-append, exchange}
use Rattle.xc_commute_histories.proofs.Owner.{Each-append, Each-weaker, Each-of, Each-product}
use Rattle.xc_commute_histories.proofs.OneLoop.{next_inside, all_inside, whole}

pub Block-append : {A S : Type 0} (can : S → A → S → Type 0) (s t u : S) (h g : List A) → Block can s g t → Block can t h u → Block can s (h ++ g) u
Block-append can s t u [] g b stays = b
Block-append can s t u (a ∷ h) g b (goes {t = w} c _ _ d) = goes (Block-append can s t w h g b c) a u d

-- One such loop, from the state t at its Enter and the memory e there: what OneLoop asks of it, with the tests that the serial
-- trace makes and the team does not.
module _ {A M S : Type 0} (p : Program A M S) (who : A → ℕ) (t : S) (e : M) (n : ℕ)
    (Cells : ℕ → A → Type 0) (All : A → Type 0) (Trace Whole : ℕ → List A → Type 0)
    (in_all : (i : ℕ) (a : A) → Cells i a → All a)
    (apart : (i j : ℕ) → i ≢ j → (a b : A) → Cells i a → Cells j b → Apart p.step a b)
    (shorter : (i : ℕ) (a : A) (h : List A) → Trace i (a ∷ h) → Trace i h)
    (inside : (i : ℕ) (a : A) (h : List A) → Trace i (a ∷ h) → Is (hist p.step h e) → Cells i a) where
  -- the first field of OneLoop
  pub p_inside : (a : A) (l : List A) → ((i : ℕ) → Trace i (of_owner who i (a ∷ l))) → Is (hist p.step l e) → All a
  p_inside a l team d = in_all (who a) a (next_inside p.step who Cells apart Trace e shorter inside a l team d)

  -- the serial trace: before iteration i its test is made, which reads what no iteration writes
  module _ (l : List A) (team : (i : ℕ) → Trace i (of_owner who i l)) (few : Each (λ a. who a < n) l) (done : (i : ℕ) → i < n → Whole i (of_owner who i l)) (d : Is (hist p.step l e))
      (test : ℕ → List A) (head body : ℕ → S) (out : S) (last : List A)
      (Reads : A → Type 0)
      (read_in : (a : A) → Reads a → All a)
      (read_apart : (a c : A) → Reads a → All c → Apart p.step a c)
      (tests_read : (i : ℕ) → Each Reads (test i))
      (last_reads : Each Reads last)
      (tests_hold : (i : ℕ) → hist p.step (test i) e ≡ Some e)
      (last_holds : hist p.step last e ≡ Some e)
      (starts : head zero ≡ t)
      (test_runs : (i : ℕ) → i < n → Block p.can (head i) (test i) (body i))
      (body_runs : (i : ℕ) → i < n → (h : List A) → Trace i h → Whole i h → h ≡ of_owner who i l → Block p.can (body i) h (head (suc i)))
      (ends : Block p.can (head n) last out) where
    cells : Each (λ a. Cells (who a) a) l
    cells = all_inside p.step who Cells apart Trace e shorter inside l team d

    iteration_in : (i : ℕ) → Each All (of_owner who i l)
    iteration_in i = Each-weaker (λ a. Cells (who a) a × (who a ≡ i)) All (λ a o. in_all (who a) a o.0) (of_owner who i l) (Each-of who i (λ a. Cells (who a) a) l cells)

    -- iterations 0 to k - 1, each after its test
    tested : ℕ → List A
    tested zero = []
    tested (suc k) = of_owner who k l ++ (test k ++ tested k)

    tested_in : (k : ℕ) → Each All (tested k)
    unfolding tested
    tested_in zero = tt
    tested_in (suc k) = Each-append All (of_owner who k l) (test k ++ tested k) (iteration_in k) (Each-append All (test k) (tested k) (Each-weaker Reads All read_in (test k) (tests_read k)) (tested_in k))

    -- reads that hold at the Enter hold after whatever the loop did
    reads_away : (x g : List A) → Each Reads x → hist p.step x e ≡ Some e → Each All g → hist p.step (x ++ g) e ≡ hist p.step g e
    reads_away x g r h o =
        exchange p.step x g (Each-product Reads All (λ a c. Apart p.step a c) (λ a c ra oc. read_apart a c ra oc) x g r o) e
        ∙ hist-append p.step g x e
        ∙ ap (after (λ k. hist p.step g k)) h

    same_memory : (k : ℕ) → hist p.step (tested k) e ≡ hist p.step (serial who k l) e
    unfolding tested
    same_memory zero = refl
    same_memory (suc k) =
        hist-append p.step (of_owner who k l) (test k ++ tested k) e
        ∙ ap (after (λ m. hist p.step (of_owner who k l) m)) (reads_away (test k) (tested k) (tests_read k) (tests_hold k) (tested_in k) ∙ same_memory k)
        ∙ sym (hist-append p.step (of_owner who k l) (serial who k l) e)

    runs : (k : ℕ) → k ≤ n → Block p.can t (tested k) (head k)
    unfolding tested
    runs zero le = subst (λ s. Block p.can t [] s) (sym starts) stays
    runs (suc k) le =
        let l1 : k < n = omega arith in
        Block-append p.can t (body k) (head (suc k)) (of_owner who k l) (test k ++ tested k)
        (Block-append p.can t (head k) (body k) (test k) (tested k) (runs k (omega arith)) (test_runs k l1))
        (body_runs k l1 (of_owner who k l) (team k) (done k l1) refl)

    -- the second field of OneLoop: the serial block, with the team's memory and every answer of the team's
    pub p_whole : (b : List A) × Block p.can t b out × Each All b × (hist p.step b e ≡ hist p.step l e)
    p_whole = (
      last ++ tested n,
      Block-append p.can t (head n) out last (tested n) (runs n (omega arith)) ends,
      Each-append All last (tested n) (Each-weaker Reads All read_in last last_reads) (tested_in n),
      reads_away last (tested n) last_reads last_holds (tested_in n) ∙ same_memory n ∙ sym (whole p.step who Cells apart Trace e shorter inside n l team few d),
    )
