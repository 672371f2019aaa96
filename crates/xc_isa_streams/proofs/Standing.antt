-- Where a thread stands, step by step, and what it then shows.
use Rattle.std.proofs.Common.{◌≡◌, ℕ, zero, suc, ◌+◌, ◌<◌, ◌≤◌, List, [], ◌∷◌, ◌++◌, Some, refl, sym, ap, ◌∙◌, subst, arith, append-nil, append_assoc}
use Rattle.std.proofs.lemmas.List.{map-append}
use Rattle.xc_meaning_world.specs.World.{Segs, Touch, Reach, New, Free, Reply, put, op, seg_of}
use Rattle.xc_isa.specs.declared.code.Code.{Code}
use Rattle.xc_isa.specs.Effects.{Regs}
use Rattle.xc_isa.specs.Machine.{Slot, Absent, Empty, Live, last_of_touch}
use Rattle.xc_isa_streams.specs.Class.{Class}
use Rattle.xc_isa_streams.specs.Parts.{Ask, Act, act}
use Rattle.xc_isa_streams.specs.Local.{Fault, Own, own_of, first_own, Next, hid, privately, local, local_from, end_trace, replies_of, Going, IsOver}
use Rattle.xc_isa_streams.specs.Promises.{Fresh, globals_of, Shows, now, cons, upto, Stands}
use Rattle.xc_isa_streams.proofs.LocalLaws.{longer, no_reply}

-- ---- numbers to come

pub fresh_down : (m n : ℕ) (f : ℕ → ℕ) → m ≤ n → Fresh n f → Fresh m f
fresh_down m n f le h = record { above = λ i. let x = h.above i in omega (arith, x, le); apart = h.apart }

abbrev pub numbers_from : ℕ → ℕ → ℕ
numbers_from n i = n + 1 + i

pub fresh_from : (n : ℕ) → Fresh n (numbers_from n)
fresh_from n = record { above = λ i. omega arith; apart = λ i j e. omega (arith, e) }

fresh_cons : (n : ℕ) (f : ℕ → ℕ) → Fresh (suc n) f → Fresh n (cons (suc n) f)
fresh_cons n f h = record { above = above; apart = apart }
  where
    above : (i : ℕ) → n < cons (suc n) f i
    above zero = omega arith
    above (suc i) = let x = h.above i in omega (arith, x)

    apart : (i j : ℕ) → cons (suc n) f i ≡ cons (suc n) f j → i ≡ j
    apart zero zero e = refl
    apart zero (suc j) e = let x = h.above j in absurd (omega (arith, x, e))
    apart (suc i) zero e = let x = h.above i in absurd (omega (arith, x, e))
    apart (suc i) (suc j) e = ap suc (h.apart i j e)

upto_more : (xs : List ℕ) (x : ℕ) (f : ℕ → ℕ) → upto (xs ++ x ∷ []) f ≡ upto xs (cons x f)
upto_more [] x f = refl
upto_more (y ∷ xs) x f = ap (cons y) (upto_more xs x f)

-- the number of a new segment comes from the oracle
abbrev pub numbers_for : Touch → ℕ → List ℕ
numbers_for (Reach act) num = []
numbers_for (New n) num = num ∷ []
numbers_for (Free g) num = []

abbrev pub nums_for : Touch → ℕ → (ℕ → ℕ) → ℕ → ℕ
nums_for (Reach act) num f = f
nums_for (New n) num f = cons num f
nums_for (Free g) num f = f

pub upto_for : (x : Touch) (xs : List ℕ) (num : ℕ) (f : ℕ → ℕ) → upto (xs ++ numbers_for x num) f ≡ upto xs (nums_for x num f)
upto_for (Reach act) xs num f = ap (λ u. upto u f) (append-nil xs)
upto_for (New n) xs num f = upto_more xs num f
upto_for (Free g) xs num f = ap (λ u. upto u f) (append-nil xs)

pub fresh_for : (x : Touch) (last : ℕ) (f : ℕ → ℕ) → Fresh (last_of_touch x last) f → Fresh last (nums_for x (suc last) f)
fresh_for (Reach act) last f h = h
fresh_for (New n) last f h = fresh_cons last f h
fresh_for (Free g) last f h = h

pub privately_is : (x : Touch) (num : ℕ) (f : ℕ → ℕ) (p : Segs) (pc : ℕ) (rf : ℕ → Regs) (next : Next) (rs : List Reply) (t : List Act) → privately (Some x) pc rf next (own_of (nums_for x num f) p) rs t ≡ hid (op x num (p (seg_of x num))) (seg_of x num) f p pc rf next rs t
privately_is (Reach act) num f p pc rf next rs t = refl
privately_is (New n) num f p pc rf next rs t = refl
privately_is (Free g) num f p pc rf next rs t = refl

one_more : (t : List Act) (k : Ask) (a : Reply) (rs : List Reply) → replies_of (t ++ act k a ∷ []) ++ rs ≡ replies_of t ++ (a ∷ rs)
one_more t k a rs = ap (λ l. l ++ rs) (map-append (λ a. a.reply) t (act k a ∷ [])) ∙ append_assoc (replies_of t) (a ∷ []) rs

-- ---- steps

module _ (of : ℕ → Class) (code : Code) (at arg : ℕ) where
  more_steps : (m k : ℕ) (num : ℕ → ℕ) (rs : List Reply) → local_from of code (suc m + k) at arg num rs ≡ local_from of code (m + suc k) at arg num rs
  more_steps m k num rs = let n : suc m + k ≡ m + suc k = omega arith in ap (λ n. local_from of code n at arg num rs) n

  -- a run that goes on after m steps was not over before
  not_over : (m j : ℕ) (num : ℕ → ℕ) (rs : List Reply) (t : List Act) → j < suc m → local_from of code m at arg num rs ≡ Going t → IsOver (local_from of code j at arg num rs) → ⊥
  not_over m j num rs t lt going over =
      let e = longer of code j m (omega (arith, lt)) at (put (λ x. 0) 1 arg) (first_own num) rs [] (local_from of code j at arg num rs) over refl in
      subst IsOver (sym e ∙ going) over

  module _ (m pc : ℕ) (r : Regs) (p : Segs) (last : ℕ) (t : List Act) (h : Stands of code at arg m (Live pc r) p last t) where
    goes_on : (f : ℕ → ℕ) (rs : List Reply) → local_from of code m at arg (upto h.ns f) (replies_of t ++ rs) ≡ Going t
    goes_on f rs = let n : m ≡ m + 0 = omega arith in ap (λ n. local_from of code n at arg (upto h.ns f) (replies_of t ++ rs)) n ∙ h.by 0 f rs

    goes_now : (f : ℕ → ℕ) → local_from of code m at arg (upto h.ns f) (replies_of t) ≡ Going t
    goes_now f = ap (λ l. local_from of code m at arg (upto h.ns f) l) (sym (append-nil (replies_of t))) ∙ goes_on f []

    goes_after : (f : ℕ → ℕ) (k : Ask) (a : Reply) → local_from of code m at arg (upto h.ns f) (replies_of (t ++ act k a ∷ [])) ≡ Going t
    goes_after f k a = ap (λ l. local_from of code m at arg (upto h.ns f) l) (map-append (λ a. a.reply) t (act k a ∷ [])) ∙ goes_on f (a ∷ [])

    -- a step with no action
    pub stands_on : (slot : Slot) → ((k : ℕ) (f : ℕ → ℕ) (rs : List Reply) → local of code (suc k) pc r (own_of f p) rs t ≡ now of code k slot (own_of f p) rs t) → Stands of code at arg (suc m) slot p last t
    stands_on slot g = record {
      ns = h.ns;
      by = λ k f rs. more_steps m k (upto h.ns f) (replies_of t ++ rs) ∙ h.by (suc k) f rs ∙ g k f rs;
      nums = h.nums;
      busy = λ j f lt. not_over m j (upto h.ns f) (replies_of t) t lt (goes_now f);
    }

    -- a touch of an own segment
    pub stands_hid : (slot : Slot) (x : Touch) (p' : Segs) → ((k : ℕ) (f : ℕ → ℕ) (rs : List Reply) → local of code (suc k) pc r (own_of (nums_for x (suc last) f) p) rs t ≡ now of code k slot (own_of f p') rs t) → Stands of code at arg (suc m) slot p' (last_of_touch x last) t
    stands_hid slot x p' g = record {
      ns = h.ns ++ numbers_for x (suc last);
      by = λ k f rs. more_steps m k (upto (h.ns ++ numbers_for x (suc last)) f) (replies_of t ++ rs) ∙ ap (λ u. local_from of code (m + suc k) at arg u (replies_of t ++ rs)) (upto_for x h.ns (suc last) f) ∙ h.by (suc k) (nums_for x (suc last) f) rs ∙ g k f rs;
      nums = λ f fresh. subst (Fresh (globals_of code)) (sym (upto_for x h.ns (suc last) f)) (h.nums (nums_for x (suc last) f) (fresh_for x last f fresh));
      busy = λ j f lt. not_over m j (upto (h.ns ++ numbers_for x (suc last)) f) (replies_of t) t lt (ap (λ u. local_from of code m at arg u (replies_of t)) (upto_for x h.ns (suc last) f) ∙ goes_now (nums_for x (suc last) f));
    }

    -- a step with an action
    pub stands_more : (slot : Slot) (k : Ask) (a : Reply) → ((n : ℕ) (f : ℕ → ℕ) (rs : List Reply) → local of code (suc n) pc r (own_of f p) (a ∷ rs) t ≡ now of code n slot (own_of f p) rs (t ++ act k a ∷ [])) → Stands of code at arg (suc m) slot p last (t ++ act k a ∷ [])
    stands_more slot k a g = record {
      ns = h.ns;
      by = λ n f rs. more_steps m n (upto h.ns f) _ ∙ ap (λ l. local_from of code (m + suc n) at arg (upto h.ns f) l) (one_more t k a rs) ∙ h.by (suc n) f (a ∷ rs) ∙ g n f rs;
      nums = h.nums;
      busy = λ j f lt. not_over m j (upto h.ns f) (replies_of (t ++ act k a ∷ [])) t lt (goes_after f k a);
    }

    -- a step that traps
    pub shows_fault : (k : Ask) (a : Reply) → ((f : ℕ → ℕ) → local of code 1 pc r (own_of f p) (a ∷ []) t ≡ Fault (t ++ act k a ∷ [])) → Shows of code at arg (suc m) (t ++ act k a ∷ [])
    shows_fault k a g =
        let f = numbers_from last in
        let l = replies_of (t ++ act k a ∷ []) in
        let num = upto h.ns f in
        let n : suc m ≡ m + 1 = omega arith in
        let over : local_from of code (suc m) at arg num l ≡ Fault (t ++ act k a ∷ []) =
        ap (λ n. local_from of code n at arg num l) n ∙ ap (λ l. local_from of code (m + 1) at arg num l) (map-append (λ a. a.reply) t (act k a ∷ [])) ∙ h.by 1 f (a ∷ []) ∙ g f in
        record {
          num = num;
          fresh = h.nums f (fresh_from last);
          by = λ n. ap end_trace (longer of code (suc m) (suc m + n) (omega arith) at (put (λ x. 0) 1 arg) (first_own num) l [] (Fault (t ++ act k a ∷ [])) tt over);
          busy = λ j lt. not_over m j num l t lt (goes_after f k a);
        }

  pub stands_up : (m : ℕ) (slot : Slot) (p : Segs) (n n' : ℕ) (t : List Act) → n ≤ n' → Stands of code at arg m slot p n t → Stands of code at arg m slot p n' t
  stands_up m slot p n n' t le h = record { ns = h.ns; by = h.by; nums = λ f fresh. h.nums f (fresh_down n n' f le fresh); busy = h.busy }

  -- as it begins
  pub stands_first : (last : ℕ) → globals_of code ≤ last → Stands of code at arg 0 (Live at (put (λ x. 0) 1 arg)) (λ g. []) last []
  stands_first last le = record {
    ns = [];
    by = λ k f rs. let n : 0 + k ≡ k = omega arith in ap (λ n. local_from of code n at arg f rs) n;
    nums = λ f fresh. fresh_down (globals_of code) last f le fresh;
    busy = λ j f lt. absurd (omega (arith, lt));
  }

  pub shows_slot : (k : ℕ) (slot : Slot) (o : Own) (t : List Act) → end_trace (now of code k slot o [] t) ≡ t
  shows_slot k Absent o t = refl
  shows_slot k Empty o t = refl
  shows_slot k (Live pc r) o t = no_reply of code k pc r o t

  -- with these numbers to come
  abbrev pub shows_with : (m : ℕ) (slot : Slot) (p : Segs) (last : ℕ) (t : List Act) (f : ℕ → ℕ) → Fresh last f → Stands of code at arg m slot p last t → Shows of code at arg m t
  shows_with m slot p last t f fresh h = record {
    num = upto h.ns f;
    fresh = h.nums f fresh;
    by = λ k. ap (λ l. end_trace (local_from of code (m + k) at arg (upto h.ns f) l)) (sym (append-nil (replies_of t))) ∙ ap end_trace (h.by k f []) ∙ shows_slot k slot _ t;
    busy = λ j. h.busy j f;
  }

  pub shows : (m : ℕ) (slot : Slot) (p : Segs) (last : ℕ) (t : List Act) → Stands of code at arg m slot p last t → Shows of code at arg m t
  shows m slot p last t h = shows_with m slot p last t (numbers_from last) (fresh_from last) h
