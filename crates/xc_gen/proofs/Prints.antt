-- What a format prints goes by as many values as it has conversions.
use Rattle.std.proofs.Common.{◌≡◌, ℕ, zero, suc, ◌+◌, ◌≤◌, List, [], ◌∷◌, ◌++◌, length, map, Option, Some, None, cond, refl, ap, ◌∙◌, arith}
use Rattle.std.specs.Prelude.{true, false, unwrap_or}
use Rattle.std.specs.Option.{option_map}
use Rattle.xc_text_format.specs.declared.Piece.{Piece}
use Rattle.xc_text_format.specs.declared.Piece.TheVariants.{Byte, Signed, Unsigned}
use Rattle.xc_text_format.specs.Pieces.{pieces_of, conversions_of, value_text, printed, text_of}
use Rattle.xc_meaning_world.proofs.Puts.{eqb_other}
use Rattle.xc_isa.specs.Effects.{Regs, read as register, printed_regs}

-- a list begins with these values
abbrev pub Begins : List ℕ → List ℕ → Type 0
Begins [] xs = Unit {0}
Begins (v ∷ vs) [] = ⊥
Begins (v ∷ vs) (x ∷ xs) = (x ≡ v) × Begins vs xs

printed_begins : (ps : List Piece) (vs xs : List ℕ) → Begins vs xs → conversions_of ps ≡ length vs → printed ps xs ≡ printed ps vs
printed_begins [] vs xs b n = refl
printed_begins (Byte c ∷ ps) vs xs b n = ap (λ l. c ∷ l) (printed_begins ps vs xs b n)
printed_begins (Signed ∷ ps) [] xs b n = absurd (omega (arith, n))
printed_begins (Signed ∷ ps) (v ∷ vs) [] b n = absurd b
printed_begins (Signed ∷ ps) (v ∷ vs) (x ∷ xs) b n = ap (λ u. value_text true u ++ printed ps xs) b.0 ∙ ap (λ l. value_text true v ++ l) (printed_begins ps vs xs b.1 (omega (arith, n)))
printed_begins (Unsigned ∷ ps) [] xs b n = absurd (omega (arith, n))
printed_begins (Unsigned ∷ ps) (v ∷ vs) [] b n = absurd b
printed_begins (Unsigned ∷ ps) (v ∷ vs) (x ∷ xs) b n = ap (λ u. value_text false u ++ printed ps xs) b.0 ∙ ap (λ l. value_text false v ++ l) (printed_begins ps vs xs b.1 (omega (arith, n)))

pub text_begins : (format vs xs : List ℕ) → Begins vs xs → option_map conversions_of (pieces_of format) ≡ Some (length vs) → text_of format xs ≡ text_of format vs
text_begins format vs xs b n = at (pieces_of format) n
  where
    at : (o : Option (List Piece)) → option_map conversions_of o ≡ Some (length vs) → printed (unwrap_or o []) xs ≡ printed (unwrap_or o []) vs
    at None e = absurd cc
    at (Some ps) e = let same : conversions_of ps ≡ length vs = cc in printed_begins ps vs xs b same

-- ---- registers

abbrev regs_from : ℕ → ℕ → List ℕ
regs_from reg zero = []
regs_from reg (suc k) = reg ∷ regs_from (reg + 1) k

-- the registers from this one on have these values
abbrev pub Hold : List ℕ → ℕ → Regs → Type 0
Hold [] reg r = Unit {0}
Hold (v ∷ vs) reg r = (r reg ≡ v) × Hold vs (reg + 1) r

register_is : (reg : ℕ) (r : Regs) → 1 ≤ reg → register r reg ≡ r reg
register_is reg r le = ap (λ b. cond b 0 (r reg)) (eqb_other reg 0 (λ e. absurd (omega (arith, e))))

begins_from : (vs : List ℕ) (reg k : ℕ) (r : Regs) → Hold vs reg r → 1 ≤ reg → length vs ≤ k → Begins vs (map (register r) (regs_from reg k))
begins_from [] reg k r h le room = tt
begins_from (v ∷ vs) reg zero r h le room = absurd (omega (arith, room))
begins_from (v ∷ vs) reg (suc k) r h le room = (register_is reg r le ∙ h.0, begins_from vs (reg + 1) k r h.1 (omega arith) (omega (arith, room)))

pub printed_begin : (vs : List ℕ) (r : Regs) → Hold vs 24 r → length vs ≤ 8 → Begins vs (map (register r) printed_regs)
printed_begin vs r h room = begins_from vs 24 8 r h (omega arith) room
