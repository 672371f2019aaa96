-- Source runs as lists of actions, and Quiet from what is said of actions and of waits.
use Rattle.std.specs.Prelude.{Some}
use Rattle.std.proofs.Common.{[], ◌≡◌, ◌≢◌, ℕ, List, ◌∷◌, refl, ap, sym, ◌∙◌, subst, true, false, eqb, eq-eqb, ne_eqb, ◌⊎◌, inl, inr}
use Rattle.std.proofs.lemmas.Bool.Decides.{eqb_tells}
use Rattle.xc_commute_histories.specs.History.{Each, after, hist, of_owner, Is}
use Rattle.xc_commute_histories.specs.Runs.{Stand, Free, At, Does, erase, put, put_all, owner, acts, Program, Block, stays, goes, Source, begin, act, enter, go_on, Indep, CellsAt, Quiet}
use Rattle.xc_commute_histories.specs.InnerRuns.{own_step}

abbrev pub state_of : {S M : Type 0} → Stand S M → S
state_of (Free t) = t
state_of (At t e) = t

-- the list of a source run can be played from the first memory
pub source_plays : {A M S : Type 0} (p : Program A M S) {h : List (ℕ × A)} {s : ℕ → Stand S M} {m : M} → Source p h s m → hist (own_step p.step) h p.memory ≡ Some m
source_plays p begin = refl
source_plays p (act src u t n a k is may c e ws starts un) = ap (after (p.step a)) (source_plays p src) ∙ e
source_plays p (enter src u t n a k is may c opens e starts) = ap (after (p.step a)) (source_plays p src) ∙ e
source_plays p (go_on src u t e is) = source_plays p src

-- a thread's own actions are a trace from the state that it began in
abbrev pub Life : {A M S : Type 0} → Program A M S → ℕ → List (ℕ × A) → Stand S M → Type 0
Life {A} {M} {S} p v h x = (b : S) × Block p.can b (acts (of_owner owner v h)) (state_of x)

one_more : {A M S : Type 0} (p : Program A M S) (h : List (ℕ × A)) (s : ℕ → Stand S M) (u : ℕ) (t n : S) (a : A) (x : Stand S M) → state_of x ≡ n → s u ≡ Free t → p.can t a n →
    ((v : ℕ) → Life p v h (s v)) → (v : ℕ) → Life p v ((u, a) ∷ h) (put s u x v)
one_more p h s u t n a x same is c b v =
    elim (eqb_tells u v) as (λ _. Life p v ((u, a) ∷ h) (put s u x v)) [
      | inl g ↦ (let e : eqb v u ≡ true = eq-eqb v u (sym g.1) in
          let here : Block p.can (b v).0 (acts (of_owner owner v h)) t = subst (λ z. Block p.can (b v).0 (acts (of_owner owner v h)) (state_of z)) (ap s (sym g.1) ∙ is) (b v).1 in
          ((b v).0, rw g.0 (rw e (subst (λ z. Block p.can (b v).0 (a ∷ acts (of_owner owner v h)) z) (sym same) (goes here a n c)))))
      | inr g ↦ (let e : eqb v u ≡ false = ne_eqb v u (λ f. g.1 (sym f)) in ((b v).0, rw g.0 (rw e (b v).1)))
    ]

module _ {A M S : Type 0} (p : Program A M S)
    (not_before : (t n : S) (a : A) → p.can t a n → t ≢ p.unborn) (not_again : (t n : S) (a : A) → p.can t a n → n ≢ p.unborn) where
  idle : (b t : S) (l : List A) → Block p.can b l t → t ≡ p.unborn → l ≡ []
  idle b t [] k e = refl
  idle b t (a ∷ l) (goes {t = w} k _ _ c) e = absurd (not_again w t a c e)

  begun : (h : List (ℕ × A)) (s : ℕ → Stand S M) (u : ℕ) (t n : S) (a : A) → s u ≡ Free t → p.can t a n → ((v : ℕ) → Life p v h (s v)) →
      (ws : List (ℕ × S)) → Each (λ w. s w.0 ≡ Free p.unborn) ws → (v : ℕ) → Life p v ((u, a) ∷ h) (put_all Free (put s u (Free n)) ws v)
  begun h s u t n a is c b [] un v = one_more p h s u t n a (Free n) refl is c b v
  begun h s u t n a is c b (w ∷ ws) un v =
      elim (eqb_tells v w.0) as (λ _. Life p v ((u, a) ∷ h) (put_all Free (put s u (Free n)) (w ∷ ws) v)) [
        | inl g ↦ (let far : eqb u v ≡ false = ne_eqb u v (λ f. not_before t n a c (same_state t p.unborn (sym is ∙ ap s (f ∙ g.1) ∙ un.0))) in
            let none : acts (of_owner owner v h) ≡ [] = idle (b v).0 (state_of (s v)) (acts (of_owner owner v h)) (b v).1 (ap state_of (ap s g.1 ∙ un.0)) in
            (w.1, rw far (rw g.0 (subst (λ l. Block p.can w.1 l w.1) (sym none) stays))))
        | inr g ↦ (let r = begun h s u t n a is c b ws un.1 v in (r.0, rw g.0 r.1))
      ] where
        same_state : (x y : S) → ◌≡◌ {A = Stand S M} (Free x) (Free y) → x ≡ y
        same_state x y e = cc

  -- each thread's own actions in a source run are a trace of its own
  pub source_traces : {h : List (ℕ × A)} {s : ℕ → Stand S M} {m : M} → Source p h s m → (v : ℕ) → Life p v h (s v)
  source_traces begin v = (p.first v, stays)
  source_traces (act {h = h} {s = s} src u t n a k is may c e ws starts un) v = begun h s u t n a is c (source_traces src) ws un v
  source_traces (enter {h = h} {s = s} src u t n a k is may c opens e starts) v = one_more p h s u t n a (At n k) refl is c (source_traces src) v
  source_traces (go_on {h = h} {s = s} src u t e is) v =
      elim (eqb_tells v u) as (λ _. Life p v h (put s u (Free t) v)) [
        | inl g ↦ ((source_traces src v).0, rw g.0 (subst (λ z. Block p.can (source_traces src v).0 (acts (of_owner owner v h)) (state_of z)) (ap s g.1 ∙ is) (source_traces src v).1))
        | inr g ↦ ((source_traces src v).0, rw g.0 (source_traces src v).1)
      ]

-- Quiet, from what is said of the actions of source runs and of the accesses at which a thread waits there
module _ {A M S : Type 0} (p : Program A M S) (Cells : S → M → A → Type 0) (Like : A → A → Type 0)
    (again : (t n : S) (a b : A) → p.can t a n → Like a b → (n' : S) × p.can t b n')
    (may_too : (r : ℕ → Does S) (u : ℕ) (a b : A) → p.Allowed r u a → Like a b → p.Allowed r u b)
    (alike : (a b c : A) → Like a b → Indep p.step b c → Indep p.step a c)
    (tells : (a : A) (m : M) → ((b : A) × Like a b × Is (p.step b m)) ⊎ ((b : A) → Like a b → Is (p.step b m) → ⊥))
    (actions : (h : List (ℕ × A)) (s : ℕ → Stand S M) (m : M) (v : ℕ) (b : A) (s' : ℕ → Stand S M) (k : M) → Source p h s m → Source p ((v, b) ∷ h) s' k → (u : ℕ) (c : A) → u ≢ v → CellsAt Cells (s u) c → Indep p.step b c)
    (waits : (h : List (ℕ × A)) (s : ℕ → Stand S M) (m : M) → Source p h s m → (u v : ℕ) (t n : S) (a c : A) → CellsAt Cells (s u) c → s v ≡ Free t → p.Allowed (λ w. erase (s w)) v a → p.can t a n → ((b : A) → Like a b → Is (p.step b m) → ⊥) → p.Fits a m → Indep p.step a c)
    (starting : (h : List (ℕ × A)) (s : ℕ → Stand S M) (m : M) → Source p h s m → (v : ℕ) (b : A) → (ws : List (ℕ × S)) × p.Starts (λ w. erase (s w)) v b ws × Each (λ w. s w.0 ≡ Free p.unborn) ws)
    (cells : (h : List (ℕ × A)) (s : ℕ → Stand S M) (m : M) → Source p h s m → (u v : ℕ) (c d : A) → u ≢ v → CellsAt Cells (s u) c → CellsAt Cells (s v) d → Indep p.step c d) where
  not_itself : (s : ℕ → Stand S M) (u v : ℕ) (t : S) (c : A) → CellsAt Cells (s u) c → s v ≡ Free t → u ≢ v
  not_itself s u v t c o is e = let z : CellsAt Cells (Free t) c = rw (ap s e ∙ is) at o in z

  pub from_parts : Quiet p Cells
  from_parts = record {
    next = λ h s m src u v t n a c o is may g fits.
        elim (tells a m) as (λ _. Indep p.step a c) [
          | inl f ↦ (let w = again t n a f.0 g f.1 in
              let begin_too = starting h s m src v f.0 in
              alike a f.0 c f.1 (actions h s m v f.0 (put_all Free (put s v (Free w.0)) begin_too.0) f.2.0 src (act src v t w.0 f.0 f.2.0 is (may_too (λ w. erase (s w)) v a f.0 may f.1) w.1 f.2.1 begin_too.0 begin_too.1 begin_too.2) u c (not_itself s u v t c o is) o))
          | inr f ↦ waits h s m src u v t n a c o is may g f fits
        ];
    cells = cells;
  }
