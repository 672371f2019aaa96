-- Which slots there are, and which of the free ones a stream starts in.
use Rattle.std.proofs.Common.{◌≡◌, ℕ, zero, suc, ◌+◌, ◌-◌, ◌*◌, ◌<◌, ◌≤◌, List, [], ◌∷◌, ◌++◌, length, Option, Some, None, Bool, true, false, cond, refl, sym, ap, ◌∙◌, subst, arith, inl, inr, ⊎_elim, length-append, append_assoc}
use Rattle.std.specs.Prelude.{◌⊎◌, nat_lt, replicate, slice_get, slice_set}
use Rattle.std.proofs.lemmas.Bool.{ltb-true, ltb-false}
use Rattle.std.proofs.lemmas.Option.{slice_get_within}
use Rattle.xc_meaning_world.proofs.Puts.{by_same, get_set_same, get_set_other}
use Rattle.xc_isa.specs.declared.code.Code.{Code}
use Rattle.xc_isa.specs.Effects.{Regs}
use Rattle.xc_isa.specs.Machine.{Slot, Absent, Empty, Live, slots_each, live_beside, less_busy, or_free, free_below, free_slot, free_slots, start, IsIdle}

-- ---- the free slot for a new stream

abbrev pub IsFree : List Slot → ℕ → Type 0
IsFree slots s = slice_get slots s ≡ Some Empty

-- the processor of f has fewer live streams than that of s, or as many, and then f is not above s
abbrev pub IsBefore : List Slot → ℕ → ℕ → Type 0
IsBefore slots f s = (live_beside slots f ≤ live_beside slots s) × (live_beside slots s ≤ live_beside slots f → f ≤ s)

-- what is chosen of the free slots below n
abbrev IsChoice : List Slot → ℕ → Option ℕ → Type 0
IsChoice slots n None = (s : ℕ) → s < n → IsFree slots s → ⊥
IsChoice slots n (Some f) = IsFree slots f × (f < n) × ((s : ℕ) → s < n → IsFree slots s → IsBefore slots f s)

below : (s n : ℕ) → s < suc n → (s < n) ⊎ (s ≡ n)
below s n lt = by_same _ s n (λ e. inr e) (λ ne. inl (omega (arith, lt, ne)))

before_itself : (slots : List Slot) (s f : ℕ) → s ≡ f → IsBefore slots f s
before_itself slots s f e = (subst (λ t. live_beside slots f ≤ live_beside slots t) (sym e) (omega arith), λ _. omega (arith, e))

-- slot n is not free
passes : (slots : List Slot) (n : ℕ) → (IsFree slots n → ⊥) → (b : Option ℕ) → IsChoice slots n b → IsChoice slots (suc n) b
passes slots n ne None h = λ s lt free. ⊎_elim (λ l. h s l free) (λ e. ne (subst (IsFree slots) e free)) (below s n lt)
passes slots n ne (Some f) h =
    (h.0, omega (arith, h.1), λ s lt free. ⊎_elim (λ l. h.2 s l free) (λ e. absurd (ne (subst (IsFree slots) e free))) (below s n lt))

-- slot n is free
meets : (slots : List Slot) (n : ℕ) → IsFree slots n → (b : Option ℕ) → IsChoice slots n b → IsChoice slots (suc n) (less_busy slots b n)
meets slots n is None h = (is, omega arith, λ s lt free. ⊎_elim (λ l. absurd (h s l free)) (λ e. before_itself slots s n e) (below s n lt))
meets slots n is (Some f) h = at (nat_lt (live_beside slots n) (live_beside slots f)) refl
  where
    at : (c : Bool) → nat_lt (live_beside slots n) (live_beside slots f) ≡ c → IsChoice slots (suc n) (cond c (Some n) (Some f))
    at true e =
        let fewer = ltb-true (live_beside slots n) (live_beside slots f) e in
        (is, omega arith, λ s lt free. ⊎_elim (λ l. let k = h.2 s l free in (omega (arith, fewer, k.0), λ le. absurd (omega (arith, fewer, k.0, le)))) (λ e. before_itself slots s n e) (below s n lt))
    at false e =
        let more = ltb-false (live_beside slots n) (live_beside slots f) e in (
          h.0,
          omega (arith, h.1),
          λ s lt free. ⊎_elim (λ l. h.2 s l free)
              (λ e. (subst (λ t. live_beside slots f ≤ live_beside slots t) (sym e) more, λ _. omega (arith, e, h.1)))
              (below s n lt),
        )

choice : (slots : List Slot) (n : ℕ) → IsChoice slots n (free_below slots n)
choice slots zero = λ s lt free. absurd (omega (arith, lt))
choice slots (suc n) = at (free_below slots n) (choice slots n) (slice_get slots n) refl
  where
    other : (x : Option Slot) → slice_get slots n ≡ x → (x ≡ Some Empty → ⊥) → IsFree slots n → ⊥
    other x e ne free = ne (sym e ∙ free)

    at : (b : Option ℕ) → IsChoice slots n b → (x : Option Slot) → slice_get slots n ≡ x → IsChoice slots (suc n) (or_free x slots b n)
    at b h None e = passes slots n (other None e (λ q. cc)) b h
    at b h (Some Absent) e = passes slots n (other (Some Absent) e (λ q. cc)) b h
    at b h (Some Empty) e = meets slots n e b h
    at b h (Some (Live pc r)) e = passes slots n (other (Some (Live pc r)) e (λ q. cc)) b h

chosen : (slots : List Slot) (o : Option ℕ) → free_slot slots ≡ o → IsChoice slots (length slots) o
chosen slots o e = subst (IsChoice slots (length slots)) e (choice slots (length slots))

pub free_slot_is_free : (slots : List Slot) (f : ℕ) → free_slot slots ≡ Some f → slice_get slots f ≡ Some Empty
free_slot_is_free slots f e = (chosen slots (Some f) e).0

pub none_is_free : (slots : List Slot) → free_slot slots ≡ None → (s : ℕ) → slice_get slots s ≡ Some Empty → ⊥
none_is_free slots e s free = chosen slots None e s (slice_get_within slots s Empty free) free

-- no free slot comes before it
pub free_slot_is_first : (slots : List Slot) (f : ℕ) → free_slot slots ≡ Some f → (s : ℕ) → IsFree slots s → IsBefore slots f s
free_slot_is_first slots f e s free = (chosen slots (Some f) e).2 s (slice_get_within slots s Empty free) free

pub free_slot_from_first : (slots : List Slot) (f : ℕ) → IsFree slots f → ((s : ℕ) → IsFree slots s → IsBefore slots f s) → free_slot slots ≡ Some f
free_slot_from_first slots f is first = at (free_slot slots) refl
  where
    at : (o : Option ℕ) → free_slot slots ≡ o → o ≡ Some f
    at None e = absurd (none_is_free slots e f is)
    at (Some g) e =
        let one = first g (free_slot_is_free slots g e) in
        let other = free_slot_is_first slots g e f is in
        ap Some (omega (arith, one.1 other.0, other.1 one.0))

pub no_free_slot : (slots : List Slot) → ((s : ℕ) → IsFree slots s → ⊥) → free_slot slots ≡ None
no_free_slot slots none = at (free_slot slots) refl
  where
    at : (o : Option ℕ) → free_slot slots ≡ o → o ≡ None
    at None e = refl
    at (Some f) e = absurd (none f (free_slot_is_free slots f e))

-- ---- the slots as code begins

get_front : {X : Type 0} (xs ys : List X) (i : ℕ) → i < length xs → slice_get (xs ++ ys) i ≡ slice_get xs i
get_front [] ys i lt = absurd (omega (arith, lt))
get_front (x ∷ xs) ys zero lt = refl
get_front (x ∷ xs) ys (suc i) lt = get_front xs ys i (omega (arith, lt))

get_back : {X : Type 0} (xs ys : List X) (i j : ℕ) → j ≡ length xs + i → slice_get (xs ++ ys) j ≡ slice_get ys i
get_back [] ys i j e = ap (slice_get ys) (omega (arith, e))
get_back (x ∷ xs) ys i zero e = absurd (omega (arith, e))
get_back (x ∷ xs) ys i (suc j) e = get_back xs ys i j (omega (arith, e))

get_replicate : {X : Type 0} (n i : ℕ) (x : X) → i < n → slice_get (replicate n x) i ≡ Some x
get_replicate zero i x lt = absurd (omega (arith, lt))
get_replicate (suc n) zero x lt = refl
get_replicate (suc n) (suc i) x lt = get_replicate n i x (omega (arith, lt))

length_replicate : {X : Type 0} (n : ℕ) (x : X) → length (replicate n x) ≡ n
length_replicate zero x = refl
length_replicate (suc n) x = ap suc (length_replicate n x)

-- where the slots of one processor end, those of the next begin
gap_length : (n : ℕ) (rest : List Slot) → n ≤ slots_each → length (replicate n Empty ++ (replicate (slots_each - n) Absent ++ rest)) ≡ slots_each + length rest
gap_length n rest le =
    let a = length-append (replicate n Empty) (replicate (slots_each - n) Absent ++ rest) in
    let b = length-append (replicate (slots_each - n) Absent) rest in
    omega (arith, le, a, b, length_replicate n Empty, length_replicate (slots_each - n) Absent)

in_first : (n i : ℕ) (rest : List Slot) → i < n → slice_get (replicate n Empty ++ (replicate (slots_each - n) Absent ++ rest)) i ≡ Some Empty
in_first n i rest lt =
    get_front (replicate n Empty) (replicate (slots_each - n) Absent ++ rest) i (let k = length_replicate n Empty in omega (arith, lt, k)) ∙ get_replicate n i Empty lt

in_gap : (n i : ℕ) (rest : List Slot) → n ≤ i → i < slots_each → slice_get (replicate n Empty ++ (replicate (slots_each - n) Absent ++ rest)) i ≡ Some Absent
in_gap n i rest past few =
    let a = length_replicate n Empty in
    let b = length_replicate (slots_each - n) Absent in
    get_back (replicate n Empty) (replicate (slots_each - n) Absent ++ rest) (i - n) i (omega (arith, a, past))
    ∙ get_front (replicate (slots_each - n) Absent) rest (i - n) (omega (arith, b, past, few))
    ∙ get_replicate (slots_each - n) (i - n) Absent (omega (arith, past, few))

in_rest : (n i : ℕ) (rest : List Slot) → n ≤ slots_each → slice_get (replicate n Empty ++ (replicate (slots_each - n) Absent ++ rest)) (slots_each + i) ≡ slice_get rest i
in_rest n i rest le =
    let a = length_replicate n Empty in
    let b = length_replicate (slots_each - n) Absent in
    get_back (replicate n Empty) (replicate (slots_each - n) Absent ++ rest) (slots_each - n + i) (slots_each + i) (omega (arith, a, le))
    ∙ get_back (replicate (slots_each - n) Absent) rest i (slots_each - n + i) (omega (arith, b))

pub free_slots_length : (q n : ℕ) → n ≤ slots_each → length (free_slots (suc q) n) ≡ slots_each * q + n
free_slots_length zero n le = omega (arith, length_replicate n Empty)
free_slots_length (suc q) n le = omega (arith, gap_length n (free_slots (suc q) n) le, free_slots_length q n le)

-- slot i of processor p
pub free_slots_free : (q n p i : ℕ) → n ≤ slots_each → p < q → i < n → slice_get (free_slots q n) (slots_each * p + i) ≡ Some Empty
free_slots_free zero n p i le lt has = absurd (omega (arith, lt))
free_slots_free (suc zero) n zero i le lt has = ap (slice_get (replicate n Empty)) (omega arith) ∙ get_replicate n i Empty has
free_slots_free (suc zero) n (suc p) i le lt has = absurd (omega (arith, lt))
free_slots_free (suc (suc q)) n zero i le lt has = ap (slice_get (free_slots (suc (suc q)) n)) (omega arith) ∙ in_first n i (free_slots (suc q) n) has
free_slots_free (suc (suc q)) n (suc p) i le lt has =
    ap (slice_get (free_slots (suc (suc q)) n)) (omega arith) ∙ in_rest n (slots_each * p + i) (free_slots (suc q) n) le ∙ free_slots_free (suc q) n p i le (omega (arith, lt)) has

-- between the slots of two processors there is none
pub free_slots_absent : (q n p i : ℕ) → n ≤ slots_each → suc p < q → n ≤ i → i < slots_each → slice_get (free_slots q n) (slots_each * p + i) ≡ Some Absent
free_slots_absent zero n p i le lt past few = absurd (omega (arith, lt))
free_slots_absent (suc zero) n p i le lt past few = absurd (omega (arith, lt))
free_slots_absent (suc (suc q)) n zero i le lt past few = ap (slice_get (free_slots (suc (suc q)) n)) (omega arith) ∙ in_gap n i (free_slots (suc q) n) past few
free_slots_absent (suc (suc q)) n (suc p) i le lt past few =
    ap (slice_get (free_slots (suc (suc q)) n)) (omega arith) ∙ in_rest n (slots_each * p + i) (free_slots (suc q) n) le ∙ free_slots_absent (suc q) n p i le (omega (arith, lt)) past few

idle_append : (xs ys : List Slot) → IsIdle xs → IsIdle ys → IsIdle (xs ++ ys)
idle_append [] ys a b s pc r h = b s pc r h
idle_append (x ∷ xs) ys a b zero pc r h = a 0 pc r h
idle_append (x ∷ xs) ys a b (suc s) pc r h = idle_append xs ys (λ s pc r. a (suc s) pc r) b s pc r h

pub idle_replicate : (x : Slot) → ((pc : ℕ) (r : Regs) → x ≡ Live pc r → ⊥) → (n : ℕ) → IsIdle (replicate n x)
idle_replicate x other zero s pc r h = cc
idle_replicate x other (suc n) zero pc r h = other pc r cc
idle_replicate x other (suc n) (suc s) pc r h = idle_replicate x other n s pc r h

pub free_slots_idle : (q n : ℕ) → IsIdle (free_slots q n)
free_slots_idle zero n s pc r h = cc
free_slots_idle (suc zero) n s pc r h = idle_replicate Empty (λ pc r e. cc) n s pc r h
free_slots_idle (suc (suc q)) n s pc r h =
    idle_append (replicate n Empty) (replicate (slots_each - n) Absent ++ free_slots (suc q) n) (idle_replicate Empty (λ pc r e. cc) n)
    (idle_append (replicate (slots_each - n) Absent) (free_slots (suc q) n) (idle_replicate Absent (λ pc r e. cc) (slots_each - n)) (λ s pc r h. free_slots_idle (suc q) n s pc r h)) s pc r h

-- one processor more, behind the others
pub free_slots_more : (q n : ℕ) → free_slots (suc (suc q)) n ≡ (free_slots (suc q) n ++ replicate (slots_each - n) Absent) ++ replicate n Empty
free_slots_more zero n = sym (append_assoc (replicate n Empty) (replicate (slots_each - n) Absent) (replicate n Empty))
free_slots_more (suc q) n =
    let front = replicate n Empty in
    let gap = replicate (slots_each - n) Absent in
    let before = free_slots (suc q) n in
    ap (λ xs. front ++ (gap ++ xs)) (free_slots_more q n)
    ∙ ap (λ xs. front ++ xs) (sym (append_assoc gap (before ++ gap) front))
    ∙ sym (append_assoc front (gap ++ (before ++ gap)) front)
    ∙ ap (λ xs. (front ++ xs) ++ front) (sym (append_assoc gap before gap))
    ∙ ap (λ xs. xs ++ front) (sym (append_assoc front (gap ++ before) gap))

pub start_length : (code : Code) (q n : ℕ) → n ≤ slots_each → length (start code (suc q) n).slots ≡ slots_each * q + n
start_length code q n le = set_length (free_slots (suc q) n) (Live 0 (λ x. 0)) ∙ free_slots_length q n le
  where
    set_length : (xs : List Slot) (x : Slot) → length (slice_set xs 0 x) ≡ length xs
    set_length [] x = refl
    set_length (y ∷ xs) x = refl

pub start_live : (code : Code) (q n : ℕ) → 1 ≤ q → 1 ≤ n → n ≤ slots_each → slice_get (start code q n).slots 0 ≡ Some (Live 0 (λ x. 0))
start_live code q n some has le = get_set_same (free_slots q n) 0 (Live 0 (λ x. 0)) Empty (free_slots_free q n 0 0 le (omega (arith, some)) (omega (arith, has)))

-- the first slot alone has a stream
pub start_one : (code : Code) (q n s pc : ℕ) (r : Regs) → slice_get (start code q n).slots s ≡ Some (Live pc r) → s ≡ 0
start_one code q n s pc r h =
    by_same _ s 0 (λ e. e) (λ ne. absurd (free_slots_idle q n s pc r (sym (get_set_other (free_slots q n) 0 s (Live 0 (λ x. 0)) ne) ∙ h)))

pub start_free : (code : Code) (q n p i : ℕ) → n ≤ slots_each → p < q → i < n → 1 ≤ p + i → slice_get (start code q n).slots (slots_each * p + i) ≡ Some Empty
start_free code q n p i le lt has other =
    get_set_other (free_slots q n) 0 (slots_each * p + i) (Live 0 (λ x. 0)) (λ e. omega (arith, e, other)) ∙ free_slots_free q n p i le lt has

pub start_absent : (code : Code) (q n p i : ℕ) → 1 ≤ n → n ≤ slots_each → suc p < q → n ≤ i → i < slots_each → slice_get (start code q n).slots (slots_each * p + i) ≡ Some Absent
start_absent code q n p i some le lt past few =
    get_set_other (free_slots q n) 0 (slots_each * p + i) (Live 0 (λ x. 0)) (λ e. omega (arith, e, some, past)) ∙ free_slots_absent q n p i le lt past few
