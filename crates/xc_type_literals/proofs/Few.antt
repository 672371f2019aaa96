-- A text has no more string literals than tokens.
use Rattle.std.proofs.Common.{◌≡◌, ℕ, ◌+◌, ◌^◌, ◌<◌, ◌≤◌, List, [], ◌∷◌, length, length-append, Bool, true, false, refl, ap, arith, if◌then◌else◌}
use Rattle.std.specs.Prelude.{fold}
use Rattle.std.specs.List.{list_any}
use Rattle.indexmap.specs.IndexSet.{insert_key}
use Rattle.xc_lex.specs.declared.token.Token.{Token}
use Rattle.xc_text_place.specs.Stretches.{stretch_eq}
use Rattle.xc_type_literals.specs.Texts.{is_text, stretch, with_text, stretches}

known_most : (ks : List (ℕ × ℕ)) (ts : List Token) → length (fold with_text ks ts) ≤ length ks + length ts
known_most ks [] = omega arith
known_most ks (t ∷ ts) = omega (arith, known_most (with_text ks t) ts, one (is_text t))
  where
    inserted : (b : Bool) → list_any (stretch_eq (stretch t)) ks ≡ b → length (insert_key stretch_eq ks (stretch t)) ≤ length ks + 1
    inserted true e = rw e (omega arith)
    inserted false e = rw e (omega (arith, length-append ks (stretch t ∷ [])))

    one : (b : Bool) → length (if b then insert_key stretch_eq ks (stretch t) else ks) ≤ length ks + 1
    one true = inserted _ refl
    one false = omega arith

pub few : (ks : List (ℕ × ℕ)) (ts : List Token) → ks ≡ stretches ts → length ts < 2 ^ 32 → length ks < 2 ^ 32
few ks ts is limit = omega (arith, ap length is, known_most [] ts)
