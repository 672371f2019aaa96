-- Who sits in the slots, when a stream changes and when one starts.
use Rattle.std.proofs.Common.{◌≡◌, ℕ, zero, suc, ◌+◌, ◌<◌, ◌≤◌, List, [], ◌∷◌, ◌++◌, length, Option, Some, None, refl, sym, ap, ◌∙◌, subst, arith, ⊎_elim}
use Rattle.std.specs.Prelude.{slice_get, slice_set}
use Rattle.std.proofs.lemmas.Option.{slice_get_within}
use Rattle.xc_meaning_world.specs.World.{put}
use Rattle.xc_meaning_world.proofs.Puts.{by_same, put_at, put_other, get_set_same, get_set_other}
use Rattle.xc_isa.specs.Effects.{Regs}
use Rattle.xc_isa.specs.Machine.{Slot, Absent, Empty, Live, free_slot}
use Rattle.xc_isa.proofs.Slots.{free_slot_is_free, none_is_free}
use Rattle.xc_isa_streams.specs.Promises.{Seats, frees, answer}
use Rattle.xc_isa_streams.proofs.Lists.{get_left, get_last, get_cases}

abbrev pub answer_of : Option ℕ → ℕ
answer_of None = 0
answer_of (Some f) = 1

-- a slot that is free counts
counts : (xs : List Slot) (f : ℕ) → slice_get xs f ≡ Some Empty → 1 ≤ frees xs
counts [] f h = cc
counts (Absent ∷ xs) zero h = cc
counts (Absent ∷ xs) (suc f) h = counts xs f h
counts (Empty ∷ xs) f h = omega arith
counts (Live pc r ∷ xs) zero h = cc
counts (Live pc r ∷ xs) (suc f) h = counts xs f h

none_counts : (xs : List Slot) → ((s : ℕ) → slice_get xs s ≡ Some Empty → ⊥) → frees xs ≡ 0
none_counts [] h = refl
none_counts (Absent ∷ xs) h = none_counts xs (λ s. h (suc s))
none_counts (Empty ∷ xs) h = absurd (h 0 refl)
none_counts (Live pc r ∷ xs) h = none_counts xs (λ s. h (suc s))

is_one : (n : ℕ) → 1 ≤ n → answer n ≡ 1
is_one zero h = absurd (omega (arith, h))
is_one (suc n) h = refl

-- where none is free, none is counted, and else one at least
pub frees_as : (xs : List Slot) (o : Option ℕ) → free_slot xs ≡ o → answer (frees xs) ≡ answer_of o
frees_as xs None h = ap answer (none_counts xs (none_is_free xs h))
frees_as xs (Some f) h = is_one (frees xs) (counts xs f (free_slot_is_free xs f h))

pub frees_live : (xs : List Slot) (s pc pc' : ℕ) (r r' : Regs) → slice_get xs s ≡ Some (Live pc r) → frees (slice_set xs s (Live pc' r')) ≡ frees xs
frees_live [] s pc pc' r r' h = cc
frees_live (Absent ∷ xs) zero pc pc' r r' h = cc
frees_live (Empty ∷ xs) zero pc pc' r r' h = cc
frees_live (Live q u ∷ xs) zero pc pc' r r' h = refl
frees_live (Absent ∷ xs) (suc s) pc pc' r r' h = frees_live xs s pc pc' r r' h
frees_live (Empty ∷ xs) (suc s) pc pc' r r' h = ap suc (frees_live xs s pc pc' r r' h)
frees_live (Live q u ∷ xs) (suc s) pc pc' r r' h = frees_live xs s pc pc' r r' h

pub frees_quit : (xs : List Slot) (s pc : ℕ) (r : Regs) → slice_get xs s ≡ Some (Live pc r) → frees (slice_set xs s Empty) ≡ suc (frees xs)
frees_quit [] s pc r h = cc
frees_quit (Absent ∷ xs) zero pc r h = cc
frees_quit (Empty ∷ xs) zero pc r h = cc
frees_quit (Live q u ∷ xs) zero pc r h = refl
frees_quit (Absent ∷ xs) (suc s) pc r h = frees_quit xs s pc r h
frees_quit (Empty ∷ xs) (suc s) pc r h = ap suc (frees_quit xs s pc r h)
frees_quit (Live q u ∷ xs) (suc s) pc r h = frees_quit xs s pc r h

pub frees_start : (xs : List Slot) (s pc : ℕ) (r : Regs) → slice_get xs s ≡ Some Empty → frees (slice_set xs s (Live pc r)) + 1 ≡ frees xs
frees_start [] s pc r h = cc
frees_start (Absent ∷ xs) zero pc r h = cc
frees_start (Empty ∷ xs) zero pc r h = omega arith
frees_start (Live q u ∷ xs) zero pc r h = cc
frees_start (Absent ∷ xs) (suc s) pc r h = frees_start xs s pc r h
frees_start (Empty ∷ xs) (suc s) pc r h = let e = frees_start xs s pc r h in omega (arith, e)
frees_start (Live q u ∷ xs) (suc s) pc r h = frees_start xs s pc r h

module _ (slots : List Slot) (names : ℕ → ℕ) (acts : List Slot) (seats : Seats slots names acts) where
  module _ (i pc : ℕ) (r : Regs) (x : Slot) (here : slice_get slots i ≡ Some (Live pc r)) where
    was_live : (s pc' : ℕ) (r' : Regs) → slice_get (slice_set slots i x) s ≡ Some (Live pc' r') → (q : ℕ) × (u : Regs) × (slice_get slots s ≡ Some (Live q u))
    was_live s pc' r' h =
        by_same _ s i
        (λ e. (pc, r, ap (λ u. slice_get slots u) e ∙ here))
        (λ ne. (pc', r', sym (get_set_other slots i s x ne) ∙ h))

    -- the stream in slot i goes on, or ends
    pub seats_put : Seats (slice_set slots i x) names (slice_set acts (names i) x)
    seats_put = record {
      live = λ s pc' r' h. by_same _ s i
          (λ e.
          let g : slice_get (slice_set slots i x) s ≡ Some x = ap (λ u. slice_get (slice_set slots i x) u) e ∙ get_set_same slots i x (Live pc r) here in
          let k : slice_get (slice_set acts (names i) x) (names s) ≡ Some x = ap (λ u. slice_get (slice_set acts (names i) x) (names u)) e ∙ get_set_same acts (names i) x (Live pc r) (seats.live i pc r here) in
          k ∙ sym g ∙ h)
          (λ ne.
          let old : slice_get slots s ≡ Some (Live pc' r') = sym (get_set_other slots i s x ne) ∙ h in
          get_set_other acts (names i) (names s) x (λ e. ne (seats.one s i pc' pc r' r old here e)) ∙ seats.live s pc' r' old);
      one = λ s s' pc' pc'' r' r'' h h' e. let a = was_live s pc' r' h in let b = was_live s' pc'' r'' h' in seats.one s s' a.0 b.0 a.1 b.1 a.2 b.2 e;
      found = λ a pc' r' h. by_same _ a (names i)
          (λ e.
          let g : slice_get (slice_set acts (names i) x) a ≡ Some x = ap (λ u. slice_get (slice_set acts (names i) x) u) e ∙ get_set_same acts (names i) x (Live pc r) (seats.live i pc r here) in
          (i, get_set_same slots i x (Live pc r) here ∙ sym g ∙ h, sym e))
          (λ ne.
          let old = seats.found a pc' r' (sym (get_set_other acts (names i) a x ne) ∙ h) in
          (old.0, get_set_other slots i old.0 x (λ e. ne (sym old.2 ∙ ap names e)) ∙ old.1, old.2));
    }

  module _ (f e : ℕ) (r : Regs) (here : slice_get slots f ≡ Some Empty) where
    old_live : (s pc' : ℕ) (r' : Regs) → (s ≡ f → ⊥) → slice_get (slice_set slots f (Live e r)) s ≡ Some (Live pc' r') → slice_get slots s ≡ Some (Live pc' r')
    old_live s pc' r' ne h = sym (get_set_other slots f s (Live e r) ne) ∙ h

    below : (s pc' : ℕ) (r' : Regs) → slice_get slots s ≡ Some (Live pc' r') → names s < length acts
    below s pc' r' h = slice_get_within acts (names s) (Live pc' r') (seats.live s pc' r' h)

    -- a new thread starts in slot f
    pub seats_new : Seats (slice_set slots f (Live e r)) (put names f (length acts)) (acts ++ Live e r ∷ [])
    seats_new = record {
      live = λ s pc' r' h. by_same _ s f
          (λ q.
          let g : slice_get (slice_set slots f (Live e r)) s ≡ Some (Live e r) = ap (λ u. slice_get (slice_set slots f (Live e r)) u) q ∙ get_set_same slots f (Live e r) Empty here in
          ap (λ u. slice_get (acts ++ Live e r ∷ []) u) (ap (put names f (length acts)) q ∙ put_at names f (length acts)) ∙ get_last acts (Live e r) ∙ sym g ∙ h)
          (λ ne.
          ap (λ u. slice_get (acts ++ Live e r ∷ []) u) (put_other names f s (length acts) ne) ∙ get_left acts (Live e r ∷ []) (names s) (Live pc' r') (seats.live s pc' r' (old_live s pc' r' ne h)));
      one = λ s s' pc' pc'' r' r'' h h' q. by_same _ s f
          (λ a. by_same _ s' f
          (λ b. a ∙ sym b)
          (λ nb.
          let lt = below s' pc'' r'' (old_live s' pc'' r'' nb h') in
          let n : length acts ≡ names s' = sym (ap (put names f (length acts)) a ∙ put_at names f (length acts)) ∙ q ∙ put_other names f s' (length acts) nb in
          absurd (omega (arith, lt, n))))
          (λ na. by_same _ s' f
          (λ b.
          let lt = below s pc' r' (old_live s pc' r' na h) in
          let n : names s ≡ length acts = sym (put_other names f s (length acts) na) ∙ q ∙ ap (put names f (length acts)) b ∙ put_at names f (length acts) in
          absurd (omega (arith, lt, n)))
          (λ nb. seats.one s s' pc' pc'' r' r'' (old_live s pc' r' na h) (old_live s' pc'' r'' nb h') (sym (put_other names f s (length acts) na) ∙ q ∙ put_other names f s' (length acts) nb)));
      found = λ a pc' r' h. ⊎_elim
          (λ old.
          let g = seats.found a pc' r' old in
          let ne : g.0 ≡ f → ⊥ = λ q. let b : slice_get slots g.0 ≡ Some Empty = ap (λ u. slice_get slots u) q ∙ here in let bad : Some (Live pc' r') ≡ Some Empty = sym g.1 ∙ b in cc in
          (g.0, get_set_other slots f g.0 (Live e r) ne ∙ g.1, put_other names f g.0 (length acts) ne ∙ g.2))
          (λ new. (f, get_set_same slots f (Live e r) Empty here ∙ ap Some new.1, put_at names f (length acts) ∙ sym new.0))
          (get_cases acts (Live e r) a (Live pc' r') h);
    }
