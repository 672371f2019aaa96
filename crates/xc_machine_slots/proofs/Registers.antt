-- Registers of streams that start.
use Rattle.std.proofs.Common.{◌≡◌, ℕ, zero, suc, ◌∷◌, refl, sym, ◌∙◌, arith}
use mathlib.Core.Path.{fun_ext}
use Rattle.std.specs.Prelude.{slice_index, replicate}
use Rattle.xc_meaning_world.specs.World.{put}
use Rattle.xc_meaning_world.proofs.Puts.{put_other}
use Rattle.xc_machine_slots.specs.Registers.{regs_of}

zero_at : (n x : ℕ) → slice_index (replicate n 0) x ≡ 0
zero_at zero x = refl
zero_at (suc n) zero = refl
zero_at (suc n) (suc x) = zero_at n x

pub zero_regs : regs_of (replicate 32 0) ≡ (λ x. 0)
zero_regs = fun_ext (zero_at 32)

-- a stream starts with a word in r1
pub begun_regs : (word : ℕ) → regs_of (0 ∷ word ∷ replicate 30 0) ≡ put (λ x. 0) 1 word
begun_regs word = fun_ext at
  where
    at : (x : ℕ) → regs_of (0 ∷ word ∷ replicate 30 0) x ≡ put (λ x. 0) 1 word x
    at zero = refl
    at (suc zero) = refl
    at (suc (suc x)) = zero_at 30 x ∙ sym (put_other (λ x. 0) 1 (suc (suc x)) word (λ e. absurd (omega (arith, e))))
