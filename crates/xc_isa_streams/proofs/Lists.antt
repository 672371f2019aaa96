-- Lists that grow at their end, and lists of actions that do.
use Rattle.std.proofs.Common.{◌≡◌, ◌⊎◌, ℕ, zero, suc, ◌+◌, ◌<◌, ◌≤◌, List, [], ◌∷◌, ◌++◌, length, Some, None, Bool, true, false, cond, refl, sym, ap, ◌∙◌, subst, arith, inl, inr, ⊎_elim, append-nil, append_assoc, length-append}
use Rattle.std.specs.Prelude.{slice_get, ◌==◌}
use Rattle.std.proofs.lemmas.Bool.{eqb-true, eqb-false}
use Rattle.xc_meaning_world.specs.World.{Touch, Reach, New, Free, On, Print, Begin, Stop, Tick, Reply, Got}
use Rattle.xc_meaning_world.specs.Runs.{part_of, NewIn}
use Rattle.xc_meaning_world.proofs.Numbers.{new_in}
use Rattle.xc_isa_streams.specs.Parts.{Ask, Of, Side, Act, act, Parts, AllowsIn, request_of, IsAbove, up_touch, up, Serves, Alive, Makes, SideMakes, Made, SideMade, begun, begun_in, InTurn}

pub get_left : {X : Type 0} (xs ys : List X) (i : ℕ) (x : X) → slice_get xs i ≡ Some x → slice_get (xs ++ ys) i ≡ Some x
get_left [] ys i x h = cc
get_left (z ∷ xs) ys zero x h = h
get_left (z ∷ xs) ys (suc i) x h = get_left xs ys i x h

pub get_last : {X : Type 0} (xs : List X) (y : X) → slice_get (xs ++ y ∷ []) (length xs) ≡ Some y
get_last [] y = refl
get_last (z ∷ xs) y = get_last xs y

pub get_cases : {X : Type 0} (xs : List X) (y : X) (i : ℕ) (x : X) → slice_get (xs ++ y ∷ []) i ≡ Some x → (slice_get xs i ≡ Some x) ⊎ ((i ≡ length xs) × (y ≡ x))
get_cases [] y zero x h = inr (refl, cc)
get_cases [] y (suc i) x h = cc
get_cases (z ∷ xs) y zero x h = inl h
get_cases (z ∷ xs) y (suc i) x h = ⊎_elim (λ a. inl a) (λ b. inr (ap suc b.0, b.1)) (get_cases xs y i x h)

pub get_none : {X : Type 0} (xs : List X) (y : X) (i : ℕ) → slice_get (xs ++ y ∷ []) i ≡ None → (slice_get xs i ≡ None) × (i ≡ length xs → ⊥)
get_none [] y zero h = cc
get_none [] y (suc i) h = (refl, λ e. omega arith)
get_none (z ∷ xs) y zero h = cc
get_none (z ∷ xs) y (suc i) h = let a = get_none xs y i h in (a.0, λ e. a.1 (omega arith))

pub none_more : {X : Type 0} (xs : List X) (y : X) (i : ℕ) → slice_get xs i ≡ None → (i ≡ length xs → ⊥) → slice_get (xs ++ y ∷ []) i ≡ None
none_more [] y zero h ne = absurd (ne refl)
none_more [] y (suc i) h ne = refl
none_more (z ∷ xs) y zero h ne = cc
none_more (z ∷ xs) y (suc i) h ne = none_more xs y i h (λ e. ne (ap suc e))

-- ---- one thread's part

same_head : {X : Type 0} (i : ℕ) (a : X) (xs : List X) → cond (i == i) (a ∷ xs) xs ≡ a ∷ xs
same_head i a xs = at (i == i) refl
  where
    at : (b : Bool) → (i == i) ≡ b → cond b (a ∷ xs) xs ≡ a ∷ xs
    at true e = refl
    at false e = absurd (eqb-false i i e refl)

other_head : {X : Type 0} (i s : ℕ) (a : X) (xs : List X) → (s ≡ i → ⊥) → cond (i == s) (a ∷ xs) xs ≡ xs
other_head i s a xs ne = at (i == s) refl
  where
    at : (b : Bool) → (i == s) ≡ b → cond b (a ∷ xs) xs ≡ xs
    at true e = absurd (ne (sym (eqb-true i s e)))
    at false e = refl

pub part_same : {X : Type 0} (i : ℕ) (a : X) (l : List (ℕ × X)) → part_of i (l ++ (i, a) ∷ []) ≡ part_of i l ++ a ∷ []
part_same i a [] = same_head i a []
part_same i a ((j, b) ∷ l) = at (part_same i a l) (j == i)
  where
    at : part_of i (l ++ (i, a) ∷ []) ≡ part_of i l ++ a ∷ [] → (c : Bool) → cond c (b ∷ part_of i (l ++ (i, a) ∷ [])) (part_of i (l ++ (i, a) ∷ [])) ≡ cond c (b ∷ part_of i l) (part_of i l) ++ a ∷ []
    at h true = ap (λ xs. b ∷ xs) h
    at h false = h

pub part_other : {X : Type 0} (i s : ℕ) (a : X) (l : List (ℕ × X)) → (s ≡ i → ⊥) → part_of s (l ++ (i, a) ∷ []) ≡ part_of s l
part_other i s a [] ne = other_head i s a [] ne
part_other i s a ((j, b) ∷ l) ne = at (part_other i s a l ne) (j == s)
  where
    at : part_of s (l ++ (i, a) ∷ []) ≡ part_of s l → (c : Bool) → cond c (b ∷ part_of s (l ++ (i, a) ∷ [])) (part_of s (l ++ (i, a) ∷ [])) ≡ cond c (b ∷ part_of s l) (part_of s l)
    at h true = ap (λ xs. b ∷ xs) h
    at h false = h

-- ---- one more action

pub made_more : (l : List (ℕ × Act)) (i : ℕ) (k : Ask) (a : Reply) (g : ℕ) → Made (l ++ (i, act k a) ∷ []) g → Made l g ⊎ Makes k a g
made_more [] i k a g (inl h) = inr h
made_more [] i k a g (inr h) = absurd h
made_more ((j, b) ∷ l) i k a g (inl h) = inl (inl h)
made_more ((j, b) ∷ l) i k a g (inr h) = ⊎_elim (λ x. inl (inr x)) (λ x. inr x) (made_more l i k a g h)

pub side_more : (l : List (ℕ × Act)) (i : ℕ) (k : Ask) (a : Reply) (g : ℕ) → SideMade (l ++ (i, act k a) ∷ []) g → SideMade l g ⊎ SideMakes k a g
side_more [] i k a g (inl h) = inr h
side_more [] i k a g (inr h) = absurd h
side_more ((j, b) ∷ l) i k a g (inl h) = inl (inl h)
side_more ((j, b) ∷ l) i k a g (inr h) = ⊎_elim (λ x. inl (inr x)) (λ x. inr x) (side_more l i k a g h)

pub begun_more : (l : List (ℕ × Act)) (i : ℕ) (k : Ask) (a : Reply) → begun_in (l ++ (i, act k a) ∷ []) ≡ begun_in l ++ begun k a
begun_more [] i k a = append-nil (begun k a)
begun_more ((j, b) ∷ l) i k a = ap (λ u. begun b.ask b.reply ++ u) (begun_more l i k a) ∙ sym (append_assoc (begun b.ask b.reply) (begun_in l) (begun k a))

pub alive_more : (l : List (ℕ × Act)) (i : ℕ) (k : Ask) (v : ℕ) → Alive l → Alive (l ++ (i, act k (Got v)) ∷ [])
alive_more [] i k v h = (tt, tt)
alive_more ((j, b) ∷ l) i k v h = (h.0, alive_more l i k v h.1)

pub in_turn_more : (l : List (ℕ × Act)) (n i : ℕ) (k : Ask) (a : Reply) → InTurn n l → i < n + length (begun_in l) → InTurn n (l ++ (i, act k a) ∷ [])
in_turn_more [] n i k a h lt = (omega arith, tt)
in_turn_more ((j, b) ∷ l) n i k a h lt =
    (h.0, in_turn_more l (n + length (begun b.ask b.reply)) i k a h.1 (omega (arith, lt, length-append (begun b.ask b.reply) (begun_in l))))

up_touch_more : (x : Touch) (m n num : ℕ) → m ≤ n → up_touch x m num ≤ up_touch x n num
up_touch_more (Reach y) m n num le = le
up_touch_more (New zero) m n num le = le
up_touch_more (New (suc c)) m n num le = omega arith
up_touch_more (Free g) m n num le = le

up_more : (k : Ask) (m n num : ℕ) → m ≤ n → up k m num ≤ up k n num
up_more (Of (On x)) m n num le = up_touch_more x m n num le
up_more (Of (Print bytes)) m n num le = le
up_more (Of (Begin at arg)) m n num le = le
up_more (Of Stop) m n num le = le
up_more (Of Tick) m n num le = le
up_more (Side x) m n num le = up_touch_more x m n num le

pub serves_more : (p0 p p' : Parts) (n0 n num i : ℕ) (k : Ask) (a : Reply) (l : List (ℕ × Act)) → Serves p0 n0 l p n → NewIn (IsAbove n) (request_of k) num → AllowsIn k a num p p' → Serves p0 n0 (l ++ (i, act k a) ∷ []) p' (up k n num)
serves_more p0 p p' n0 n num i k a [] h lt e = (num, new_in (IsAbove n) (IsAbove n0) (request_of k) num lt (λ z. (omega (arith, h.1, z.0), z.1)), p', subst (λ u. AllowsIn k a num u p') (sym h.0) e, (refl, up_more k n0 n num h.1))
serves_more p0 p p' n0 n num i k a ((j, b) ∷ l) h lt e = (h.0, h.1, h.2, h.3, serves_more h.2 p p' (up b.ask n0 h.0) n num i k a l h.4 lt e)

pub serves_up : (p0 p : Parts) (n0 n n' : ℕ) (l : List (ℕ × Act)) → Serves p0 n0 l p n → n ≤ n' → Serves p0 n0 l p n'
serves_up p0 p n0 n n' [] h le = (h.0, omega (arith, h.1))
serves_up p0 p n0 n n' ((j, b) ∷ l) h le = (h.0, h.1, h.2, h.3, serves_up h.2 p (up b.ask n0 h.0) n n' l h.4 le)
