-- Memories stored as values.
use Rattle.std.specs.Prelude.{ℕ, Bool, List, refl}
use Rattle.std.specs.Ordering.{nat_cmp}
use Rattle.std.specs.Coded.{Coded, code_by, coded×, coded_ℕ, coded_bool, coded_list}
use Rattle.std.specs.FinMap.{FinMap, code}
use Rattle.xc_word.specs.declared.memory.Cell.{Cell}

abbrev pub coded_cell : Coded Cell
coded_cell = code_by (ℕ × Bool) (coded× coded_ℕ coded_bool) (λ c. (c.value, c.full)) (λ p. record { value = p.0; full = p.1 }) (λ _. refl)

abbrev pub coded_segments : Coded (FinMap nat_cmp (List Cell))
coded_segments = code coded_ℕ (coded_list coded_cell)
