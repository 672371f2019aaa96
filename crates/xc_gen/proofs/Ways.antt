-- The way of a stream that is alone in its machine, to where it quits or traps.
use Rattle.std.proofs.Common.{◌≡◌, ℕ, zero, suc, ◌+◌, ◌≤◌, List, [], ◌∷◌, length, Some, refl, sym, ap, ◌∙◌, subst, arith, inl, inr}
use Rattle.std.specs.Prelude.{◌⊎◌, slice_get}
use Rattle.xc_meaning_world.specs.World.{World}
use Rattle.xc_isa.specs.declared.code.Code.{Code}
use Rattle.xc_isa.specs.declared.instr.Instr.{Instr}
use Rattle.xc_isa.specs.declared.instr.TrapKind.{TrapKind}
use Rattle.xc_isa.specs.Effects.{Regs, Faults, effect}
use Rattle.xc_isa.specs.Machine as machine
use Rattle.xc_isa.specs.Machine.{Slot, Empty, Live, State, After, Waits, Spent, takes, step, IsIdle, HasQuit, IsReady}
use Rattle.xc_isa.specs.Runs.{Ran, At, Trap, NoRun, onward, run}
use Rattle.xc_isa.proofs.Follows.{Conf, conf, state_of, Goes_to, no_other, no_step, no_step_quit, all_free}

-- so many steps from a state to a state, by states that all have P
abbrev pub Way : Code → (Conf → Type 0) → ℕ → Conf → Conf → Type 0
Way code P zero c d = c ≡ d
Way code P (suc k) c d = P c × (m : Conf) × Goes_to code c m × Way code P k m d

pub way_on : (code : Code) (P : Conf → Type 0) (a b : ℕ) (c d e : Conf) → Way code P a c d → Way code P b d e → Way code P (a + b) c e
way_on code P zero b c d e f g =
    let z : b ≡ 0 + b = omega arith in
    subst (λ n. Way code P n c e) z (subst (λ x. Way code P b x e) (sym f) g)
way_on code P (suc a) b c d e f g =
    let z : suc (a + b) ≡ suc a + b = omega arith in
    let rest : Way code P (suc (a + b)) c e = (f.0, f.1, f.2, way_on code P a b f.1 d e f.3 g) in
    subst (λ n. Way code P n c e) z rest

-- so many steps are left
abbrev pub Rest : Code → (Conf → Type 0) → Conf → Conf → Type 0
Rest code P c d = (k : ℕ) × Way code P k c d

-- the next step traps, whatever the other slots are
abbrev pub Falls : Code → TrapKind → Conf → Type 0
Falls code kind c = (others : List Slot) → step code 0 (state_of others c) ≡ machine.Trap kind

pub falls : (code : Code) (i : Instr) (kind : TrapKind) (pc : ℕ) (r : Regs) (w : World) (n : ℕ) → slice_get code.instrs pc ≡ Some i → effect code.formats (Some i) pc r ≡ Faults kind → Falls code kind (conf (Live pc r) w n)
falls code i kind pc r w n at eff others =
    ap (λ o. takes (effect code.formats o pc r) 0 (Live pc r ∷ others) w n) at ∙ ap (λ e. takes e 0 (Live pc r ∷ others) w n) eff

-- the stream has quit, or its next step traps
abbrev pub IsLast : Code → Conf → Type 0
IsLast code c = (c.slot ≡ Empty) ⊎ ((kind : TrapKind) × Falls code kind c)

-- ---- all runs of such a machine

-- what is known of a run: where it has got to, that it has come to the trap, or that it is none
abbrev pub IsWithin : Code → (Conf → Type 0) → List Slot → ℕ → Conf → List ℕ → Ran → Type 0
IsWithin code P others k d ss (At st) = (m : Conf) × (st ≡ state_of others m) × P m × (length ss ≤ k) × (HasQuit st → m ≡ d) × (HasQuit st ⊎ IsReady code 0 st) × ((s : ℕ) → step code s st ≡ Spent → ⊥) × Rest code P m d
IsWithin code P others k d ss (Trap kind) = Falls code kind d × (length ss ≤ k + 1)
IsWithin code P others k d ss NoRun = Unit {0}

deeper : (code : Code) (P : Conf → Type 0) (others : List Slot) (k : ℕ) (d : Conf) (s : ℕ) (ss : List ℕ) (a : Ran) → IsWithin code P others k d ss a → IsWithin code P others (suc k) d (s ∷ ss) a
deeper code P others k d s ss (At st) h = (h.0, h.1, h.2, omega (arith, h.3), h.4, h.5, h.6, h.7)
deeper code P others k d s ss (Trap kind) h = (h.0, omega (arith, h.1))
deeper code P others k d s ss NoRun h = tt

stuck : (code : Code) (P : Conf → Type 0) (others : List Slot) (k : ℕ) (c d : Conf) (s : ℕ) (ss : List ℕ) → step code s (state_of others c) ≡ Waits → IsWithin code P others k d (s ∷ ss) (run code (s ∷ ss) (state_of others c))
stuck code P others k c d s ss e = subst (λ a. IsWithin code P others k d (s ∷ ss) (onward a ss (run code ss))) (sym e) tt

trapped : (code : Code) (P : Conf → Type 0) (others : List Slot) (c d : Conf) (kind : TrapKind) (ss : List ℕ) → c ≡ d → Falls code kind d → IsWithin code P others 0 d (0 ∷ ss) (run code (0 ∷ ss) (state_of others c))
trapped code P others c d kind ss f fall = subst (λ a. IsWithin code P others 0 d (0 ∷ ss) (onward a ss (run code ss))) (sym (ap (λ x. step code 0 (state_of others x)) f ∙ fall others)) (at ss)
  where
    at : (ss : List ℕ) → IsWithin code P others 0 d (0 ∷ ss) (onward (machine.Trap kind) ss (run code ss))
    at [] = (fall, omega arith)
    at (s ∷ ss) = tt

ready_last : (code : Code) (others : List Slot) (c : Conf) → IsIdle others → IsLast code c → HasQuit (state_of others c) ⊎ IsReady code 0 (state_of others c)
ready_last code others c idle (inl quit) = inl (all_free others c quit idle)
ready_last code others c idle (inr f) = inr (λ w. let fall = f.1 others in cc)

-- the numbers of segments are not spent where they are not for the lone stream
unspent : (code : Code) (others : List Slot) (c : Conf) → IsIdle others → (step code 0 (state_of others c) ≡ Spent → ⊥) → (s : ℕ) → step code s (state_of others c) ≡ Spent → ⊥
unspent code others c idle h zero e = h e
unspent code others c idle h (suc s) e = absurd (let none = no_other code others s c idle in cc)

unspent_last : (code : Code) (others : List Slot) (c : Conf) → IsLast code c → step code 0 (state_of others c) ≡ Spent → ⊥
unspent_last code others c (inl quit) e = absurd (let none = no_step code others c quit in cc)
unspent_last code others c (inr f) e = absurd (let fall = f.1 others in cc)

-- A run is a part of the way, or all of it, with the trap where it ends so.
pub within : (code : Code) (P : Conf → Type 0) (others : List Slot) (k : ℕ) (c d : Conf) → IsIdle others → Way code P k c d → P d → IsLast code d → (ss : List ℕ) → IsWithin code P others k d ss (run code ss (state_of others c))
within code P others zero c d idle f pd last [] =
    (c, refl, subst P (sym f) pd, omega arith, λ _. f, ready_last code others c idle (subst (IsLast code) (sym f) last), unspent code others c idle (unspent_last code others c (subst (IsLast code) (sym f) last)), (0, f))
within code P others zero c d idle f pd (inl quit) (zero ∷ ss) = stuck code P others 0 c d 0 ss (no_step code others c (ap (λ (x : Conf). x.slot) f ∙ quit))
within code P others zero c d idle f pd (inr t) (zero ∷ ss) = trapped code P others c d t.0 ss f t.1
within code P others zero c d idle f pd last (suc s ∷ ss) = stuck code P others 0 c d (suc s) ss (no_other code others s c idle)
within code P others (suc k) c d idle f pd last [] =
    (c, refl, f.0, omega arith, λ free. absurd (let none = no_step_quit code others c free in let some = f.2 others in cc), inr (λ w. let some = f.2 others in cc), unspent code others c idle (λ w. let some = f.2 others in cc), (suc k, f))
within code P others (suc k) c d idle f pd last (zero ∷ ss) =
    let rest = deeper code P others k d 0 ss (run code ss (state_of others f.1)) (within code P others k f.1 d idle f.3 pd last ss) in
    subst (λ a. IsWithin code P others (suc k) d (0 ∷ ss) (onward a ss (run code ss))) (sym (f.2 others)) rest
within code P others (suc k) c d idle f pd last (suc s ∷ ss) = stuck code P others (suc k) c d (suc s) ss (no_other code others s c idle)
