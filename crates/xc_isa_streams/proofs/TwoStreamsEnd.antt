-- The small code has a run of two streams that ends.
use Rattle.std.proofs.Common.{◌≡◌, ℕ, zero, suc, List, [], ◌∷◌, refl, sym, subst}
use Rattle.xc_isa.specs.declared.code.Code.{Code}
use Rattle.xc_isa.specs.declared.code.Run.{Run}
use Rattle.xc_isa.specs.declared.code.LoopMark.{LoopMark}
use Rattle.xc_isa.specs.declared.instr.Instr.{Instr}
use Rattle.xc_isa.specs.Texts.{HasText}
use Rattle.xc_isa.specs.Machine.{State, start, HasQuit}
use Rattle.xc_isa.specs.Runs.{Ran, At, Trap, NoRun, run}
use Rattle.xc_isa_streams.specs.TwoStreams.{two_streams_code, EndsWithSeven}
use Rattle.xc_isa_streams.specs.InnerTwoStreams.{one_global}

abbrev code_of : (gs : List (List Run)) (fs : List (List ℕ)) (ls : List LoopMark) (is : List Instr) → HasText gs fs ls is → Code
code_of gs fs ls is t = record { globals = gs; formats = fs; loops = ls; instrs = is; has_text = t }

-- what holds of the code with these lists holds of code with equal ones
by_lists : (P : Code → Type 0) (gs : List (List Run)) (fs : List (List ℕ)) (ls : List LoopMark) (is : List Instr) → gs ≡ one_global → fs ≡ [] → ls ≡ [] → is ≡ two_streams_code → ((t : HasText one_global [] [] two_streams_code) → P (code_of one_global [] [] two_streams_code t)) → (t : HasText gs fs ls is) → P (code_of gs fs ls is t)
by_lists P gs fs ls is eg ef el ei h =
    subst (λ g. (t : HasText g fs ls is) → P (code_of g fs ls is t)) (sym eg)
    (subst (λ f. (t : HasText one_global f ls is) → P (code_of one_global f ls is t)) (sym ef)
    (subst (λ l. (t : HasText one_global [] l is) → P (code_of one_global [] l is t)) (sym el)
    (subst (λ i. (t : HasText one_global [] [] i) → P (code_of one_global [] [] i t)) (sym ei) h)))

-- the first stream makes ten steps, the second eight
abbrev in_turns : List ℕ
in_turns = 0 ∷ 0 ∷ 0 ∷ 1 ∷ 0 ∷ 1 ∷ 0 ∷ 1 ∷ 0 ∷ 1 ∷ 0 ∷ 1 ∷ 0 ∷ 1 ∷ 0 ∷ 1 ∷ 0 ∷ 1 ∷ []

abbrev state_in : Ran → State → State
state_in (At st) other = st
state_in (Trap kind) other = other
state_in NoRun other = other

module _ (t : HasText one_global [] [] two_streams_code) where
  abbrev code : Code
  code = code_of one_global [] [] two_streams_code t

  abbrev last_state : State
  last_state = state_in (run code in_turns (start code 1 2)) (start code 1 2)

  runs : run code in_turns (start code 1 2) ≡ At last_state
  runs = refl

  quit : HasQuit last_state
  quit zero pc r e = cc
  quit (suc zero) pc r e = cc
  quit (suc (suc s)) pc r e = cc

  ends : EndsWithSeven code
  ends = record { ss = in_turns; st = last_state; runs = runs; quit = quit; global = refl }

pub two_end : (gs : List (List Run)) (fs : List (List ℕ)) (ls : List LoopMark) (is : List Instr) → gs ≡ one_global → fs ≡ [] → ls ≡ [] → is ≡ two_streams_code → (t : HasText gs fs ls is) → EndsWithSeven (record { globals = gs; formats = fs; loops = ls; instrs = is; has_text = t })
two_end gs fs ls is eg ef el ei t = by_lists EndsWithSeven gs fs ls is eg ef el ei ends t
