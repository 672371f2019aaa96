-- Numbers of names.
use Rattle.std.specs.Prelude.{ℕ, List, Option}
use Rattle.std.specs.HashMap.{get_by}
use Rattle.std.specs.Str.{bytes_eq}
use Rattle.xc_lex.specs.declared.numbers.Numbers.{Numbers}

-- the number of the name, if it has one
abbrev pub number_in : Numbers → List ℕ → Option ℕ
number_in n name = get_by (λ k. bytes_eq name k.items) n.map
