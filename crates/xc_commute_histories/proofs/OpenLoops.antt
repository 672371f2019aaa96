-- Team runs go back to source runs, for any number of open loops, by induction on the team run.
use Rattle.std.specs.Prelude.{Option, Some, None}
use Rattle.std.proofs.Common.{◌≡◌, ◌≢◌, ℕ, List, [], ◌∷◌, ◌++◌, refl, ap, sym, ◌∙◌, subst, true, false, eqb, inl, inr, eq-eqb, ne_eqb}
use Rattle.std.proofs.lemmas.Bool.Decides.{eqb_tells}
use Rattle.xc_commute_histories.specs.History.{after, hist, Apart, Both, Each, of_owner, of_others, Is, TrapsLast}
use Rattle.xc_commute_histories.specs.Runs.{Stand, Free, At, Does, Plain, In, erase, put, put_all, owner, acts, Program, Block, stays, goes, Source, begin, act, enter, go_on, TeamRun, begins, acts_alone, enters, member, leaves, Indep, CellsAt, Always, OpensAt, Quiet, AnswersFit, OneLoop, by, Shows, nothing, outside, loop}
use Rattle.xc_commute_histories.specs.InnerRuns.{own_step}
use Rattle.xc_commute_histories.proofs.Exchange.{hist-append, exchange, past, Apart-sym, all_after}
use Rattle.xc_commute_histories.proofs.Owner.{Each-append, Each-weaker, Each-of, Each-others, Each-product, gather_first, Is-before, Is-along}

pub put_cases : {X : Type 0} (Q : X → Type 0) (f : ℕ → X) (u : ℕ) (x : X) (v : ℕ) → Q x → (v ≢ u → Q (f v)) → Q (put f u x v)
put_cases Q f u x v q other =
    elim (eqb_tells v u) as (λ _. Q (put f u x v)) [
      | inl h ↦ rw h.0 q
      | inr h ↦ rw h.0 (other h.1)
    ]

put_other : {X : Type 0} (Q : X → Type 0) (f : ℕ → X) (u : ℕ) (x : X) (v : ℕ) → v ≢ u → Q (f v) → Q (put f u x v)
put_other Q f u x v ne q = let e : eqb v u ≡ false = ne_eqb v u ne in rw e q

put_match : {S M : Type 0} (r : ℕ → Does S) (s : ℕ → Stand S M) (u : ℕ) (x : Stand S M) → ((v : ℕ) → r v ≡ erase (s v)) → (v : ℕ) → put r u (erase x) v ≡ erase (put s u x v)
put_match r s u x e v =
    elim (eqb_tells v u) as (λ _. put r u (erase x) v ≡ erase (put s u x v)) [
      | inl h ↦ rw h.0 refl
      | inr h ↦ rw h.0 (e v)
    ]

put_same : {X : Type 0} (f : ℕ → X) (u : ℕ) (x : X) → put f u x u ≡ x
put_same f u x = let e : eqb u u ≡ true = eq-eqb u u refl in rw e refl

put_twice : {X : Type 0} (f : ℕ → X) (u : ℕ) (x y : X) → put (put f u x) u y ≡ put f u y
put_twice f u x y = λ i. λ v. at_each f u x y v i where
  at_each : {X : Type 0} (f : ℕ → X) (u : ℕ) (x y : X) (v : ℕ) → put (put f u x) u y v ≡ put f u y v
  at_each f u x y v =
      elim (eqb_tells v u) as (λ _. put (put f u x) u y v ≡ put f u y v) [
        | inl h ↦ rw h.0 refl
        | inr h ↦ rw h.0 refl
      ]

stands_free : {S M : Type 0} (t : S) (x : Stand S M) → Plain t ≡ erase x → x ≡ Free t
stands_free t (Free s) e = cc
stands_free t (At s m) e = cc

pub stands_at : {S M : Type 0} (t : S) (x : Stand S M) → In t ≡ erase x → (e : M) × (x ≡ At t e)
stands_at t (Free s) e = absurd (cc)
stands_at t (At s m) e = (m, cc)

hist-acts : {A M : Type 0} (step : A → M → Option M) (xs : List (ℕ × A)) (m : M) → hist (own_step step) xs m ≡ hist step (acts xs) m
hist-acts step [] m = refl
hist-acts step (x ∷ xs) m = ap (after (step x.1)) (hist-acts step xs m)

some_inj : {M : Type 0} (m k : M) → Some m ≡ Some k → m ≡ k
some_inj m k e = cc

pub none_some : {M : Type 0} (k : M) → None ≡ Some k → ⊥
none_some k e = cc

split_after : {M : Type 0} (f : M → Option M) (o : Option M) (k : M) → after f o ≡ Some k → (j : M) × (o ≡ Some j) × (f j ≡ Some k)
split_after f None k e = absurd (none_some k e)
split_after f (Some j) k e = (j, refl, e)

-- a thread's whole block is part of a source run
run_block : {A M S : Type 0} (p : Program A M S) (h : List (ℕ × A)) (s : ℕ → Stand S M) (m : M) (u : ℕ) (t n : S) (b : List A) (k : M) → Source p h (put s u (Free t)) m → Block p.can t b n → Each (λ a. Always p a) b → hist p.step b m ≡ Some k → Source p (by u b ++ h) (put s u (Free n)) k
run_block p g s m u t n [] k src stays o h = subst (λ j. Source p g (put s u (Free t)) j) (some_inj m k h) src
run_block p g s m u t n (a ∷ b) k src (goes {t = w} blk _ _ c) o h =
    let f = split_after (p.step a) (hist p.step b m) k h in
    subst (λ z. Source p ((u, a) ∷ (by u b ++ g)) z k) (put_twice s u (Free w) (Free n)) (act (run_block p g s m u t w b f.0 src blk o.1 f.1) u w n a k (put_same s u (Free w)) (o.0 (λ v. erase (put s u (Free w) v)) u).0 c f.2 [] (o.0 (λ v. erase (put s u (Free w) v)) u).1 tt)

-- what is known of a thread of the source at memory k: if it stands at the Enter of a loop, what was done since is apart from its cells
abbrev pub HeldAt : {A M S : Type 0} (p : Program A M S) (Cells : S → M → A → Type 0) → M → Stand S M → Type 0
HeldAt p Cells k (Free t) = Unit {0}
HeldAt {A} p Cells k (At t e) = OpensAt p t e × (l : List A) × (hist p.step l e ≡ Some k) × Each (λ a. (c : A) → Cells t e c → Indep p.step a c) l

-- The induction statement. The team run so far is a source run so far, in which each open loop is held at its Enter, and after it the
-- pending actions of the open loops, each in its own loop's cells
pub record Stands {A M S : Type 0} (p : Program A M S) (Cells : S → M → A → Type 0) (r : ℕ → Does S) (q v : List (ℕ × A)) (m : M) : Type 0 where
  pub s : ℕ → Stand S M
  pub k : M
  pub h : List (ℕ × A)
  pub src : Source p h s k
  pub shown : Shows h v
  pub match : (u : ℕ) → r u ≡ erase (s u)
  pub pend : hist (own_step p.step) q k ≡ Some m
  pub cells : Each (λ x. CellsAt Cells (s x.0) x.1) q
  pub held : (u : ℕ) → HeldAt p Cells k (s u)

pub Indep-sym : {A M : Type 0} (step : A → M → Option M) (a b : A) → Indep step a b → Indep step b a
Indep-sym step a b i = (Apart-sym step a b i.0, λ m db da. Is-along (after (step a) (step b m)) (after (step b) (step a m)) (i.0 m) (i.1 m da db))

module _ {A M S : Type 0} (p : Program A M S) (Cells : S → M → A → Type 0) (Traps : A → Type 0) (quiet : Quiet p Cells) (answers : AnswersFit p Cells) (loops : OneLoop p Cells Traps) where
  start : Stands p Cells (λ u. Plain (p.first u)) [] [] p.memory
  start = record { s = λ u. Free (p.first u); k = p.memory; h = []; src = begin; shown = nothing; match = λ u. refl; pend = refl; cells = tt; held = λ u. tt }

  -- an answer that fits behind actions of open loops fits before them
  fits_first : (s : ℕ → Stand S M) (k m : M) (a : A) (q : List (ℕ × A)) → ((u : ℕ) → HeldAt p Cells k (s u)) → Each (λ x. CellsAt Cells (s x.0) x.1) q →
      (j : M) → hist (own_step p.step) q j ≡ Some m → p.Fits a m → p.Fits a j
  fits_first s k m a [] held cells j is fits = subst (λ z. p.Fits a z) (sym (some_inj j m is)) fits
  fits_first s k m a (x ∷ q) held cells j is fits =
      let f = split_after (p.step x.1) (hist (own_step p.step) q j) m is in
      fits_first s k f.0 a q held cells.1 j f.1 (at_stand (s x.0) (held x.0) cells.0 f.0 m f.2 fits) where
        at_stand : (z : Stand S M) → HeldAt p Cells k z → CellsAt Cells z x.1 → (i l : M) → p.step x.1 i ≡ Some l → p.Fits a l → p.Fits a i
        at_stand (Free w) h c i l e g = absurd c
        at_stand (At w b) h c i l e g = answers.before w b x.1 h.0 c i l e a g

  -- an action by itself comes before all that is pending
  module _ (r : ℕ → Does S) (q vis : List (ℕ × A)) (m : M) (i : Stands p Cells r q vis m) (u : ℕ) (t n : S) (a : A) (k' : M)
      (is : r u ≡ Plain t) (may : p.Allowed r u a) (c : p.can t a n) (e : p.step a m ≡ Some k') where
    free : i.s u ≡ Free t
    free = stands_free t (i.s u) (sym is ∙ i.match u)

    may_here : p.Allowed (λ v. erase (i.s v)) u a
    may_here = subst (λ z. p.Allowed z u a) (λ d. λ v. i.match v d) may

    fits : p.Fits a i.k
    fits = fits_first i.s i.k m a q i.held i.cells i.k i.pend (answers.possible a m (k', e))

    before_pending : (j : M) × (p.step a i.k ≡ Some j) × (hist (own_step p.step) q j ≡ Some k')
    before_pending =
        let now : hist (own_step p.step) ((u, a) ∷ q) i.k ≡ Some k' = ap (after (p.step a)) i.pend ∙ e in
        let moved : hist (own_step p.step) ((u, a) ∷ q) i.k ≡ after (λ j. hist (own_step p.step) q j) (p.step a i.k) =
        past (own_step p.step) (u, a) q (Each-weaker (λ x. CellsAt Cells (i.s x.0) x.1) (λ x. Apart (own_step p.step) (u, a) x) (λ x o. (quiet.next i.h i.s i.k i.src x.0 u t n a x.1 o free may_here c fits).0) q i.cells) i.k
        ∙ hist-append (own_step p.step) q ((u, a) ∷ []) i.k in
        split_after (λ j. hist (own_step p.step) q j) (p.step a i.k) k' (sym moved ∙ now)

    -- no pending action is of the thread that acts
    elsewhere : (w : Stand S M) → Each (λ x. CellsAt Cells (put i.s u w x.0) x.1) q
    elsewhere w = Each-weaker (λ x. CellsAt Cells (i.s x.0) x.1) (λ x. CellsAt Cells (put i.s u w x.0) x.1) (λ x o. put_other (λ z. CellsAt Cells z x.1) i.s u w x.0 (λ g. not_free x.0 x.1 g o) o) q i.cells where
      not_free : (v : ℕ) (b : A) → v ≡ u → CellsAt Cells (i.s v) b → ⊥
      not_free v b g o = let z : i.s v ≡ Free t = ap i.s g ∙ free in rw z at o

    still_held : (j : M) → p.step a i.k ≡ Some j → (v : ℕ) → HeldAt p Cells j (i.s v)
    still_held j f v = at_stand (i.s v) (i.held v) (λ b o. quiet.next i.h i.s i.k i.src v u t n a b o free may_here c fits) where
      at_stand : (z : Stand S M) → HeldAt p Cells i.k z → ((b : A) → CellsAt Cells z b → Indep p.step a b) → HeldAt p Cells j z
      at_stand (Free w) h o = tt
      at_stand (At w g) h o = (h.0, a ∷ h.1, ap (after (p.step a)) h.2 ∙ f, (o, h.3))

    -- a thread that is nowhere near a loop may be put elsewhere
    all_match : (ws : List (ℕ × S)) (v : ℕ) → put_all Plain (put r u (Plain n)) ws v ≡ erase (put_all Free (put i.s u (Free n)) ws v)
    all_match [] v = put_match r i.s u (Free n) i.match v
    all_match (w ∷ ws) v = put_match (put_all Plain (put r u (Plain n)) ws) (put_all Free (put i.s u (Free n)) ws) w.0 (Free w.1) (all_match ws) v

    all_else : (ws : List (ℕ × S)) → Each (λ w. i.s w.0 ≡ Free p.unborn) ws → (v : ℕ) (b : A) → CellsAt Cells (i.s v) b → CellsAt Cells (put_all Free (put i.s u (Free n)) ws v) b
    all_else [] un v b o = put_other (λ z. CellsAt Cells z b) i.s u (Free n) v (λ g. (let z : CellsAt Cells (Free t) b = rw (ap i.s g ∙ free) at o in z)) o
    all_else (w ∷ ws) un v b o = put_other (λ z. CellsAt Cells z b) (put_all Free (put i.s u (Free n)) ws) w.0 (Free w.1) v (λ g. (let z : CellsAt Cells (Free p.unborn) b = rw (ap i.s g ∙ un.0) at o in z)) (all_else ws un.1 v b o)

    all_held : (j : M) → ((v : ℕ) → HeldAt p Cells j (i.s v)) → (ws : List (ℕ × S)) (v : ℕ) → HeldAt p Cells j (put_all Free (put i.s u (Free n)) ws v)
    all_held j o [] v = put_cases (HeldAt p Cells j) i.s u (Free n) v tt (λ _. o v)
    all_held j o (w ∷ ws) v = put_cases (HeldAt p Cells j) (put_all Free (put i.s u (Free n)) ws) w.0 (Free w.1) v tt (λ _. all_held j o ws v)

    abbrev pub Starting : List (ℕ × S) → Type 0
    Starting ws = p.Starts r u a ws × Each (λ w. r w.0 ≡ Plain p.unborn) ws

    unborn_here : (ws : List (ℕ × S)) → Each (λ w. r w.0 ≡ Plain p.unborn) ws → Each (λ w. i.s w.0 ≡ Free p.unborn) ws
    unborn_here ws un = Each-weaker (λ w. r w.0 ≡ Plain p.unborn) (λ w. i.s w.0 ≡ Free p.unborn) (λ w o. stands_free p.unborn (i.s w.0) (sym o ∙ i.match w.0)) ws un

    starts_here : (ws : List (ℕ × S)) → p.Starts r u a ws → p.Starts (λ v. erase (i.s v)) u a ws
    starts_here ws starts = subst (λ z. p.Starts z u a ws) (λ d. λ v. i.match v d) starts

    -- the source run goes on by the same action
    goes_on : (j : M) → p.step a i.k ≡ Some j → (ws : List (ℕ × S)) → Starting ws → Source p ((u, a) ∷ i.h) (put_all Free (put i.s u (Free n)) ws) j
    goes_on j is ws o = act i.src u t n a j free may_here c is ws (starts_here ws o.0) (unborn_here ws o.1)

    pub by_other : (ws : List (ℕ × S)) → Starting ws → (j : M) × Source p ((u, a) ∷ i.h) (put_all Free (put i.s u (Free n)) ws) j
    by_other ws o = let b = before_pending in (b.0, goes_on b.0 b.1 ws o)

    alone : (ws : List (ℕ × S)) → Starting ws → Stands p Cells (put_all Plain (put r u (Plain n)) ws) q ((u, a) ∷ vis) k'
    alone ws o =
        let b = before_pending in
        record {
          s = put_all Free (put i.s u (Free n)) ws;
          k = b.0;
          h = (u, a) ∷ i.h;
          shown = outside i.shown (u, a);
          src = goes_on b.0 b.1 ws o;
          match = all_match ws;
          pend = b.2;
          cells = Each-weaker (λ x. CellsAt Cells (i.s x.0) x.1) (λ x. CellsAt Cells (put_all Free (put i.s u (Free n)) ws x.0) x.1) (λ x d. all_else ws (unborn_here ws o.1) x.0 x.1 d) q i.cells;
          held = all_held b.0 (still_held b.0 b.1) ws;
        }

    entered : p.Opens n → p.Starts r u a [] → Stands p Cells (put r u (In n)) q ((u, a) ∷ vis) k'
    entered opens starts =
        let b = before_pending in
        let none = starts_here [] starts in
        record {
          s = put i.s u (At n b.0);
          k = b.0;
          h = (u, a) ∷ i.h;
          shown = outside i.shown (u, a);
          src = enter i.src u t n a b.0 free may_here c opens b.1 none;
          match = put_match r i.s u (At n b.0) i.match;
          pend = b.2;
          cells = elsewhere (At n b.0);
          held = λ v. put_cases (HeldAt p Cells b.0) i.s u (At n b.0) v ((opens, t, a, i.k, c, b.1, (u, a) ∷ i.h, put i.s u (At n b.0), u, enter i.src u t n a b.0 free may_here c opens b.1 none, put_same i.s u (At n b.0)), [], refl, tt) (λ _. still_held b.0 b.1 v);
        }

  -- pending actions of different threads, at the thread i and at others
  apart_pending : (h : List (ℕ × A)) (s : ℕ → Stand S M) (k : M) → Source p h s k → (u : ℕ) (x y : ℕ × A) → CellsAt Cells (s x.0) x.1 → CellsAt Cells (s y.0) y.1 → owner x ≡ u → owner y ≢ u → Apart (own_step p.step) x y
  apart_pending h s k src u x y cx cy e ne = (quiet.cells h s k src x.0 y.0 x.1 y.1 (λ g. ne (sym g ∙ e)) cx cy).0

  -- the pending actions of one open loop, at the memory of its Enter
  module _ (r : ℕ → Does S) (q vis : List (ℕ × A)) (m : M) (i : Stands p Cells r q vis m) (u : ℕ) (t : S) (is : r u ≡ In t) where
    abbrev pub mine : List A
    mine = acts (of_owner owner u q)

    abbrev pub at_enter : (e : M) × (i.s u ≡ At t e)
    at_enter = stands_at t (i.s u) (sym is ∙ i.match u)

    held_mine : OpensAt p t at_enter.0 × (l : List A) × (hist p.step l at_enter.0 ≡ Some i.k) × Each (λ a. (c : A) → Cells t at_enter.0 c → Indep p.step a c) l
    held_mine = subst (λ z. HeldAt p Cells i.k z) at_enter.1 (i.held u)

    -- they go first, and leave some memory
    mine_first : (j : M) × (hist p.step mine i.k ≡ Some j) × (hist (own_step p.step) (of_others owner u q) j ≡ Some m)
    mine_first =
        let moved : hist (own_step p.step) q i.k ≡ after (λ j. hist (own_step p.step) (of_others owner u q) j) (hist (own_step p.step) (of_owner owner u q) i.k) =
        gather_first (own_step p.step) owner (λ x. CellsAt Cells (i.s x.0) x.1) u (λ x y. apart_pending i.h i.s i.k i.src u x y) q i.cells i.k
        ∙ hist-append (own_step p.step) (of_others owner u q) (of_owner owner u q) i.k in
        let f = split_after (λ j. hist (own_step p.step) (of_others owner u q) j) (hist (own_step p.step) (of_owner owner u q) i.k) m (sym moved ∙ i.pend) in
        (f.0, sym (hist-acts p.step (of_owner owner u q) i.k) ∙ f.1, f.2)

    mine_in_cells : Each (λ a. Cells t at_enter.0 a) mine
    mine_in_cells = over (of_owner owner u q) (Each-of owner u (λ x. CellsAt Cells (i.s x.0) x.1) q i.cells) where
      over : (l : List (ℕ × A)) → Each (λ x. CellsAt Cells (i.s x.0) x.1 × (owner x ≡ u)) l → Each (λ a. Cells t at_enter.0 a) (acts l)
      over [] o = tt
      over (x ∷ l) o = (subst (λ z. CellsAt Cells z x.1) (ap i.s o.0.1 ∙ at_enter.1) o.0.0, over l o.1)

    -- a history in the loop's cells is apart from what was done since its Enter
    since : (b : List A) → Each (λ a. Cells t at_enter.0 a) b → Each (λ y. Each (λ x. Apart p.step y x × Both p.step y x) held_mine.1) b
    since b o = Each-product (λ a. Cells t at_enter.0 a) (λ a. (c : A) → Cells t at_enter.0 c → Indep p.step a c) (λ y x. Apart p.step y x × Both p.step y x) (λ y x cy ix. Indep-sym p.step x y (ix y cy)) b held_mine.1 o held_mine.3

    since_apart : (b : List A) → Each (λ a. Cells t at_enter.0 a) b → Each (λ y. Each (λ x. Apart p.step y x) held_mine.1) b
    since_apart b o = Each-product (λ a. Cells t at_enter.0 a) (λ a. (c : A) → Cells t at_enter.0 c → Indep p.step a c) (λ y x. Apart p.step y x) (λ y x cy ix. (Indep-sym p.step x y (ix y cy)).0) b held_mine.1 o held_mine.3

    -- a history in the loop's cells, from the memory now and from that of the Enter
    from_enter : (b : List A) → Each (λ a. Cells t at_enter.0 a) b → hist p.step b i.k ≡ after (λ e. hist p.step held_mine.1 e) (hist p.step b at_enter.0)
    from_enter b o =
        sym (ap (after (λ e. hist p.step b e)) held_mine.2)
        ∙ sym (hist-append p.step b held_mine.1 at_enter.0)
        ∙ exchange p.step b held_mine.1 (since_apart b o) at_enter.0
        ∙ hist-append p.step held_mine.1 b at_enter.0

    mine_at_enter : Is (hist p.step mine at_enter.0)
    mine_at_enter = Is-before p.step held_mine.1 (hist p.step mine at_enter.0) (mine_first.0, sym (from_enter mine mine_in_cells) ∙ mine_first.1)

    -- a member's next action is in the cells
    by_member : (a : A) (k' : M) → p.Team t (a ∷ mine) → p.step a m ≡ Some k' → Stands p Cells r ((u, a) ∷ q) vis k'
    by_member a k' team e =
        record {
          s = i.s;
          k = i.k;
          h = i.h;
          src = i.src;
          shown = i.shown;
          match = i.match;
          pend = ap (after (p.step a)) i.pend ∙ e;
          cells = (subst (λ z. CellsAt Cells z a) (sym at_enter.1) (loops.inside t at_enter.0 a mine held_mine.0 team mine_at_enter), i.cells);
          held = i.held;
        }

    -- the loop's serial block, at the memory now
    block_now : (b : List A) → Each (λ a. Cells t at_enter.0 a) b → hist p.step b at_enter.0 ≡ hist p.step mine at_enter.0 → hist p.step b i.k ≡ Some mine_first.0
    block_now b o e = from_enter b o ∙ ap (after (λ e. hist p.step held_mine.1 e)) e ∙ sym (from_enter mine mine_in_cells) ∙ mine_first.1

    others_held : (b : List A) → Each (λ a. Cells t at_enter.0 a) b → (j : M) → hist p.step b i.k ≡ Some j → (v : ℕ) → v ≢ u → HeldAt p Cells j (i.s v)
    others_held b o j f v ne = at_stand (i.s v) (i.held v) (λ x c cx cc'. quiet.cells i.h i.s i.k i.src u v x c (λ g. ne (sym g)) (subst (λ z. CellsAt Cells z x) (sym at_enter.1) cx) cc') where
      each_apart : (w : S) (g : M) (l : List A) → Each (λ a. Cells t at_enter.0 a) l → ((x c : A) → Cells t at_enter.0 x → Cells w g c → Indep p.step x c) → Each (λ a. (c : A) → Cells w g c → Indep p.step a c) l
      each_apart w g [] oo ind = tt
      each_apart w g (x ∷ l) oo ind = ((λ c cx. ind x c oo.0 cx), each_apart w g l oo.1 ind)

      at_stand : (z : Stand S M) → HeldAt p Cells i.k z → ((x c : A) → Cells t at_enter.0 x → CellsAt Cells z c → Indep p.step x c) → HeldAt p Cells j z
      at_stand (Free w) h ind = tt
      at_stand (At w g) h ind = (h.0, b ++ h.1, hist-append p.step b h.1 g ∙ ap (after (λ e. hist p.step b e)) h.2 ∙ f, Each-append (λ a. (c : A) → Cells w g c → Indep p.step a c) b h.1 (each_apart w g b o ind) h.3)

    by_leaving : (n : S) → p.Leaves t mine n → Stands p Cells (put r u (Plain n)) (of_others owner u q) vis m
    by_leaving n lv =
        let d = mine_at_enter in
        let w = loops.whole t n at_enter.0 d.0 mine held_mine.0 lv d.1 in
        let cs : Each (λ a. Cells t at_enter.0 a) w.0 = Each-weaker (λ a. Cells t at_enter.0 a × Always p a) (λ a. Cells t at_enter.0 a) (λ a o. o.0) w.0 w.2 in
        let f : hist p.step w.0 i.k ≡ Some mine_first.0 = block_now w.0 cs (w.3 ∙ sym d.1) in
        record {
          s = put i.s u (Free n);
          k = mine_first.0;
          h = by u w.0 ++ i.h;
          shown = loop i.shown u w.0;
          src = run_block p i.h i.s i.k u t n w.0 mine_first.0 (go_on i.src u t at_enter.0 at_enter.1) w.1 (Each-weaker (λ a. Cells t at_enter.0 a × Always p a) (λ a. Always p a) (λ a o. o.1) w.0 w.2) f;
          match = put_match r i.s u (Free n) i.match;
          pend = mine_first.2;
          cells = Each-weaker (λ x. CellsAt Cells (i.s x.0) x.1 × (owner x ≢ u)) (λ x. CellsAt Cells (put i.s u (Free n) x.0) x.1) (λ x o. put_other (λ z. CellsAt Cells z x.1) i.s u (Free n) x.0 o.1 o.0) (of_others owner u q) (Each-others owner u (λ x. CellsAt Cells (i.s x.0) x.1) q i.cells);
          held = λ v. put_cases (HeldAt p Cells mine_first.0) i.s u (Free n) v tt (others_held w.0 cs mine_first.0 f v);
        }

  -- where a member traps, the source run so far goes on by the loop's serial block up to a trap
  module _ (r : ℕ → Does S) (q vis : List (ℕ × A)) (m : M) (i : Stands p Cells r q vis m) (u : ℕ) (t : S) (is : r u ≡ In t) where
    pub by_trap : (a : A) (k' : M) → p.Team t (a ∷ acts (of_owner owner u q)) → Traps a → p.step a m ≡ Some k' → (b : List A) × (n : S) × Block p.can t b n × TrapsLast Traps b × (j : M) × (hist p.step b i.k ≡ Some j) × Source p (by u b ++ i.h) (put i.s u (Free n)) j
    unfolding by_member
    by_trap a k' team trap e =
        let i' : Stands p Cells r ((u, a) ∷ q) vis k' = by_member r q vis m i u t is a k' team e in
        let same : eqb u u ≡ true = eq-eqb u u refl in
        let d : Is (hist p.step (a ∷ acts (of_owner owner u q)) (at_enter r q vis m i u t is).0) = rw same at (mine_at_enter r ((u, a) ∷ q) vis k' i' u t is) in
        let h = held_mine r q vis m i u t is in
        let w = loops.traps t (at_enter r q vis m i u t is).0 a (acts (of_owner owner u q)) h.0 team trap d in
        let cs : Each (λ a. Cells t (at_enter r q vis m i u t is).0 a) w.0 = Each-weaker (λ a. Cells t (at_enter r q vis m i u t is).0 a × Always p a) (λ a. Cells t (at_enter r q vis m i u t is).0 a) (λ a o. o.0) w.0 w.4 in
        let far : Is (hist p.step (w.0 ++ h.1) (at_enter r q vis m i u t is).0) = all_after p.step w.0 h.1 (since r q vis m i u t is w.0 cs) (at_enter r q vis m i u t is).0 w.5 (i.k, h.2) in
        let now : Is (hist p.step w.0 i.k) = Is-along _ (hist p.step w.0 i.k) (hist-append p.step w.0 h.1 (at_enter r q vis m i u t is).0 ∙ ap (after (λ g. hist p.step w.0 g)) h.2) far in
        (w.0, w.1, w.2, w.3, now.0, now.1, run_block p i.h i.s i.k u t w.1 w.0 now.0 (go_on i.src u t (at_enter r q vis m i u t is).0 (at_enter r q vis m i u t is).1) w.2 (Each-weaker (λ a. Cells t (at_enter r q vis m i u t is).0 a × Always p a) (λ a. Always p a) (λ a o. o.1) w.0 w.4) now.1)

  -- each team run so far stands for a source run so far
  pub shift : {r : ℕ → Does S} {q vis : List (ℕ × A)} {m : M} → TeamRun p r q vis m → Stands p Cells r q vis m
  shift begins = start
  shift (acts_alone {r = r} {q = q} {v = vis} {m = m} run u t n a k is may c e ws starts un) = alone r q vis m (shift run) u t n a k is may c e ws (starts, un)
  shift (enters {r = r} {q = q} {v = vis} {m = m} run u t n a k is may c o e starts) = entered r q vis m (shift run) u t n a k is may c e o starts
  shift (member {r = r} {q = q} {v = vis} {m = m} run u t a k is team e) = by_member r q vis m (shift run) u t is a k team e
  shift (leaves {r = r} {q = q} {v = vis} {m = m} run u t n is lv) = by_leaving r q vis m (shift run) u t is n lv

  none_pending : (r : ℕ → Does S) (q : List (ℕ × A)) (s : ℕ → Stand S M) → ((u : ℕ) → r u ≡ erase (s u)) → ((u : ℕ) → (t : S) × (r u ≡ Plain t)) → Each (λ x. CellsAt Cells (s x.0) x.1) q → q ≡ []
  none_pending r [] s match over c = refl
  none_pending r (x ∷ q) s match over c =
      let o = over x.0 in
      let z : s x.0 ≡ Free o.0 = stands_free o.0 (s x.0) (sym o.1 ∙ match x.0) in
      absurd (let b : CellsAt Cells (Free o.0) x.1 = rw z at c.0 in b)

  -- a team run with no open loop has a source run with the same memory, where the threads stand as there
  pub closed : {r : ℕ → Does S} {q vis : List (ℕ × A)} {m : M} → TeamRun p r q vis m → ((u : ℕ) → (t : S) × (r u ≡ Plain t)) → (h : List (ℕ × A)) × (s : ℕ → Stand S M) × Source p h s m × Shows h vis × ((u : ℕ) → r u ≡ erase (s u))
  closed {r = r} {q = q} {m = m} run over =
      let i = shift run in
      let e : q ≡ [] = none_pending r q i.s i.match over i.cells in
      let same : hist (own_step p.step) [] i.k ≡ Some m = subst (λ z. hist (own_step p.step) z i.k ≡ Some m) e i.pend in
      (i.h, i.s, subst (λ z. Source p i.h i.s z) (some_inj i.k m same) i.src, i.shown, i.match)
