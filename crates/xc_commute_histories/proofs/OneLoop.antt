-- The interleaved iterations of one loop have the memory of the serial ones.
use Rattle.std.specs.Prelude.{Option}
use Rattle.std.proofs.Common.{◌≡◌, ◌≢◌, ℕ, suc, zero, ◌<◌, ◌≤◌, List, [], ◌∷◌, ◌++◌, refl, ap, sym, ◌∙◌, true, false, eqb, arith, ◌⊎◌, inl, inr, eq-eqb, ne_eqb}
use Rattle.std.proofs.lemmas.Bool.Decides.{eqb_tells}
use Rattle.xc_commute_histories.specs.History.{after, hist, Apart, Both, Each, of_owner, of_others, Is, TrapsLast}
use Rattle.xc_commute_histories.specs.InnerHistory.{none_yet, one_more, serial, Serial}
use Rattle.xc_commute_histories.proofs.Exchange.{hist-append, all_after}
use Rattle.xc_commute_histories.proofs.Owner.{Each-append, Each-weaker, Each-of, Each-others, Each-product, gather_last, Is-before, Is-owner}

of-others : {A : Type 0} (who : A → ℕ) (i t : ℕ) → i ≢ t → (xs : List A) → of_owner who i (of_others who t xs) ≡ of_owner who i xs
of-others who i t ne [] = refl
of-others who i t ne (x ∷ xs) =
    elim (eqb_tells (who x) t) as (λ _. of_owner who i (of_others who t (x ∷ xs)) ≡ of_owner who i (x ∷ xs)) [
      | inl h ↦ let f : eqb (who x) i ≡ false = ne_eqb (who x) i (λ e. ne (sym e ∙ h.1)) in rw (h.0, f) (of-others who i t ne xs)
      | inr h ↦ elim (eqb_tells (who x) i) as (λ _. of_owner who i (of_others who t (x ∷ xs)) ≡ of_owner who i (x ∷ xs)) [
        | inl g ↦ rw h.0 (rw g.0 (ap (λ l. x ∷ l) (of-others who i t ne xs)))
        | inr g ↦ rw h.0 (rw g.0 (of-others who i t ne xs))
      ]
    ]

serial-others : {A : Type 0} (who : A → ℕ) (s t : ℕ) → s ≤ t → (xs : List A) → serial who s (of_others who t xs) ≡ serial who s xs
serial-others who zero t le xs = refl
serial-others who (suc s) t le xs = rw (of-others who s t (λ e. omega arith) xs, serial-others who s t (omega arith) xs)

-- One loop. Iteration i acts in its own cells alone, and cells of different iterations are apart.
module _ {A M : Type 0} (step : A → M → Option M) (who : A → ℕ) (Cells : ℕ → A → Type 0)
    (apart : (i j : ℕ) → i ≢ j → (a b : A) → Cells i a → Cells j b → Apart step a b) where
  pub apart_at : (i : ℕ) (a b : A) → Cells (who a) a → Cells (who b) b → who a ≡ i → who b ≢ i → Apart step a b
  apart_at i a b p q e ne = apart (who a) (who b) (λ f. ne (sym f ∙ e)) a b p q

  -- any interleaving leaves what the iterations leave in order
  pub in_order : (t : ℕ) (xs : List A) → Each (λ e. Cells (who e) e × (who e < t)) xs → (m : M) → hist step xs m ≡ hist step (serial who t xs) m
  in_order zero [] p m = refl
  in_order zero (x ∷ xs) p m = absurd (let h : who x < 0 = p.0.1 in omega arith)
  in_order (suc t) xs p m =
      gather_last step who (λ e. Cells (who e) e) t (apart_at t) xs (Each-weaker _ (λ e. Cells (who e) e) (λ e q. q.0) xs p) m
      ∙ hist-append step (of_owner who t xs) (of_others who t xs) m
      ∙ ap (after (λ k. hist step (of_owner who t xs) k)) (in_order t (of_others who t xs) (Each-weaker _ (λ e. Cells (who e) e × (who e < t)) (λ e q. (q.0.0, below (who e) t q.0.1 q.1)) (of_others who t xs) (Each-others who t (λ e. Cells (who e) e × (who e < suc t)) xs p)) m)
      ∙ sym (hist-append step (of_owner who t xs) (serial who t (of_others who t xs)) m)
      ∙ ap (λ l. hist step (of_owner who t xs ++ l) m) (serial-others who t t (omega arith) xs) where
        below : (a t : ℕ) → a < suc t → a ≢ t → a < t
        below a t l ne = omega arith

  -- The traces of the iterations, newest action first. The next action is in the cells where the trace so far can be alone.
  module _ (T : ℕ → List A → Type 0) (m : M)
      (shorter : (i : ℕ) (e : A) (h : List A) → T i (e ∷ h) → T i h)
      (inside : (i : ℕ) (e : A) (h : List A) → T i (e ∷ h) → Is (hist step h m) → Cells i e) where
    pub team_before : (e : A) (h : List A) → ((i : ℕ) → T i (of_owner who i (e ∷ h))) → (i : ℕ) → T i (of_owner who i h)
    team_before e h team i =
        elim (eqb_tells (who e) i) as (λ _. T i (of_owner who i h)) [
          | inl g ↦ shorter i e (of_owner who i h) (rw g.0 at (team i))
          | inr g ↦ rw g.0 at (team i)
        ]

    pub newest : (e : A) (h : List A) → ((i : ℕ) → T i (of_owner who i (e ∷ h))) → T (who e) (e ∷ of_owner who (who e) h)
    newest e h team = let f : eqb (who e) (who e) ≡ true = eq-eqb (who e) (who e) refl in rw f at (team (who e))

    -- every action of an interleaving that can be, also of one that is not complete, is in its iteration's cells
    pub all_inside : (xs : List A) → ((i : ℕ) → T i (of_owner who i xs)) → Is (hist step xs m) → Each (λ e. Cells (who e) e) xs
    all_inside [] team d = tt
    all_inside (e ∷ h) team d =
        let dh : Is (hist step h m) = Is-before step (e ∷ []) (hist step h m) d in
        let rest : Each (λ e. Cells (who e) e) h = all_inside h (team_before e h team) dh in
        (inside (who e) e (of_owner who (who e) h) (newest e h team) (Is-owner step who (λ e. Cells (who e) e) (who e) (apart_at (who e)) h rest m dh), rest)

    -- the next action is in its iteration's cells, before it is known to be possible
    pub next_inside : (e : A) (h : List A) → ((i : ℕ) → T i (of_owner who i (e ∷ h))) → Is (hist step h m) → Cells (who e) e
    next_inside e h team dh =
        let rest : Each (λ e. Cells (who e) e) h = all_inside h (team_before e h team) dh in
        inside (who e) e (of_owner who (who e) h) (newest e h team) (Is-owner step who (λ e. Cells (who e) e) (who e) (apart_at (who e)) h rest m dh)

    -- a whole interleaving has the memory of the serial run, whose traces are the same with the same answers
    pub whole : (t : ℕ) (xs : List A) → ((i : ℕ) → T i (of_owner who i xs)) → Each (λ e. who e < t) xs → Is (hist step xs m) → hist step xs m ≡ hist step (serial who t xs) m
    whole t xs team few d = in_order t xs (two (λ e. Cells (who e) e) (λ e. who e < t) xs (all_inside xs team d) few) m where
      two : {A : Type 0} (P Q : A → Type 0) (xs : List A) → Each P xs → Each Q xs → Each (λ e. P e × Q e) xs
      two P Q [] p q = tt
      two P Q (x ∷ xs) p q = ((p.0, q.0), two P Q xs p.1 q.1)

    pub serial_is : (Done : ℕ → List A → Type 0) (t : ℕ) (xs : List A) → ((i : ℕ) → T i (of_owner who i xs)) → ((i : ℕ) → i < t → Done i (of_owner who i xs)) → Serial T Done t (serial who t xs)
    serial_is Done zero xs team done = none_yet
    serial_is Done (suc t) xs team done = one_more (serial_is Done t xs team (λ i l. done i (omega arith))) (of_owner who t xs) (team t) (done t (omega arith))

    -- Traps. Each iteration alone ends, or traps, after whole earlier iterations.
    module _ (Done : ℕ → List A → Type 0) (Traps : A → Type 0)
        (both : (i j : ℕ) → i ≢ j → (a b : A) → Cells i a → Cells j b → Both step a b)
        (finish : (j : ℕ) (g : List A) → Each (λ e. Cells (who e) e × (who e < j)) g → Is (hist step g m) →
        (h : List A) × T j h × Each (λ e. Cells (who e) e × (who e ≡ j)) h × Is (hist step (h ++ g) m) × (Done j h ⊎ TrapsLast Traps h)) where
      -- a serial run that traps in an iteration below n
      abbrev pub TrapsBelow : ℕ → Type 0
      TrapsBelow n = (j : ℕ) × (j < n) × (g : List A) × Serial T Done j g × (h : List A) × T j h × TrapsLast Traps h × Is (hist step (h ++ g) m)

      ReachesAll : ℕ → Type 0
      ReachesAll n = (g : List A) × Serial T Done n g × Each (λ e. Cells (who e) e × (who e < n)) g × Is (hist step g m)

      further : (n : ℕ) → TrapsBelow n → TrapsBelow (suc n)
      further n t = (t.0, (let l : t.0 < n = t.1 in omega arith), t.2, t.3, t.4, t.5, t.6, t.7)

      widen : (n : ℕ) (g : List A) → Each (λ e. Cells (who e) e × (who e < n)) g → Each (λ e. Cells (who e) e × (who e < suc n)) g
      widen n g p = Each-weaker _ (λ e. Cells (who e) e × (who e < suc n)) (λ e q. (q.0, (let l : who e < n = q.1 in omega arith))) g p

      placed : (n : ℕ) (h : List A) → Each (λ e. Cells (who e) e × (who e ≡ n)) h → Each (λ e. Cells (who e) e × (who e < suc n)) h
      placed n h p = Each-weaker _ (λ e. Cells (who e) e × (who e < suc n)) (λ e q. (q.0, (let l : who e ≡ n = q.1 in omega arith))) h p

      one_further : (n : ℕ) → ReachesAll n → TrapsBelow (suc n) ⊎ ReachesAll (suc n)
      unfolding ReachesAll
      one_further n r =
          let f = finish n r.0 r.2 r.3 in
          elim f.4 as (λ _. TrapsBelow (suc n) ⊎ ReachesAll (suc n)) [
            | inl done ↦ inr (f.0 ++ r.0, one_more r.1 f.0 f.1 done, Each-append (λ e. Cells (who e) e × (who e < suc n)) f.0 r.0 (placed n f.0 f.2) (widen n r.0 r.2), f.3)
            | inr trap ↦ inl (n, omega arith, r.0, r.1, f.0, f.1, trap, f.3)
          ]

      as_far : (n : ℕ) → TrapsBelow n ⊎ ReachesAll n
      unfolding ReachesAll
      as_far zero = inr ([], none_yet, tt, (m, refl))
      as_far (suc n) = elim (as_far n) as (λ _. TrapsBelow (suc n) ⊎ ReachesAll (suc n)) [ inl t ↦ inl (further n t) | inr r ↦ one_further n r ]

      -- Where an iteration of an interleaving traps, the serial run traps in that iteration or before.
      pub traps_too : (e : A) (xs : List A) → ((i : ℕ) → T i (of_owner who i (e ∷ xs))) → Is (hist step (e ∷ xs) m) → Traps e → TrapsBelow (suc (who e))
      unfolding ReachesAll
      traps_too e xs team d trap =
          let all : Each (λ e. Cells (who e) e) (e ∷ xs) = all_inside (e ∷ xs) team d in
          let f : eqb (who e) (who e) ≡ true = eq-eqb (who e) (who e) refl in
          let alone : Is (hist step (e ∷ of_owner who (who e) xs) m) = rw f at (Is-owner step who (λ e. Cells (who e) e) (who e) (apart_at (who e)) (e ∷ xs) all m d) in
          let cells : Each (λ y. Cells (who y) y × (who y ≡ who e)) (e ∷ of_owner who (who e) xs) = ((all.0, refl), Each-of who (who e) (λ e. Cells (who e) e) xs all.1) in
          elim (as_far (who e)) as (λ _. TrapsBelow (suc (who e))) [
            | inl t ↦ further (who e) t
            | inr r ↦ (
              who e,
              omega arith,
              r.0,
              r.1,
              e ∷ of_owner who (who e) xs,
              newest e xs team,
              trap,
              all_after step (e ∷ of_owner who (who e) xs) r.0
                  (Each-product (λ y. Cells (who y) y × (who y ≡ who e)) (λ x. Cells (who x) x × (who x < who e)) (λ y x. Apart step y x × Both step y x)
                  (λ y x q s. (apart (who y) (who x) (differ (who y) (who x) (who e) q.1 s.1) y x q.0 s.0, both (who y) (who x) (differ (who y) (who x) (who e) q.1 s.1) y x q.0 s.0))
                  (e ∷ of_owner who (who e) xs) r.0 cells r.2)
                  m alone r.3,
            )
          ] where
            differ : (a b n : ℕ) → a ≡ n → b < n → a ≢ b
            differ a b n e l f = omega arith
