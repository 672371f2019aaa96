-- The types of members, one behind another.
use Rattle.std.proofs.Common.{◌≡◌, ℕ, ◌+◌, ◌<◌, List, [], ◌∷◌, length, drop, sym, ap, ◌∙◌, arith}
use Rattle.std.specs.Prelude.{option_and_then}
use Rattle.std.proofs.lemmas.List.{drop_more}
use Rattle.std.proofs.lemmas.Option.{slice_get-get_or}
use Rattle.std.proofs.lemmas.Grind.{common_steps}
use Rattle.xc_type_rule.specs.declared.found.Member.{Member}
use Rattle.xc_type_statement_parts.proofs.Parts.{followed_first, followed_last, followed_assoc, made_none, made_more}
use Rattle.xc_type.specs.Checked.{types_of}
use Rattle.xc_type.specs.InnerChecked.{type_at}

-- the next member's type, and those behind it
pub types_more : (ms : List Member) (k : ℕ) → k < length ms → types_of (drop k ms) ≡ type_at ms k ∷ types_of (drop (k + 1) ms)
types_more [] k lt = absurd (omega (lt, arith))
types_more (m ∷ ms) k lt = ap types_of (drop_more (m ∷ ms) k m lt)
    ∙ ap (λ o. option_and_then (λ (x : Member). x.ty) o ∷ types_of (drop (k + 1) (m ∷ ms))) (sym (slice_get-get_or (m ∷ ms) k m lt))

pub ruleset type_rules = (common_steps, followed_first, followed_last, followed_assoc, made_none, made_more, types_more)
