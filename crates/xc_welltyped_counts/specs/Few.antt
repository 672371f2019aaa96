-- What a word of 32 bits can count.
use Rattle.std.specs.Prelude.{ℕ, ◌^◌, ◌<◌, List, length}
use Rattle.xc_tree.specs.declared.ty.Ty.{Ty}
use Rattle.xc_tree.specs.declared.tree.Func.{Func}
use Rattle.xc_welltyped_claims.specs.Lists.{Each}

pub record AreFew (structs : List (List Ty)) (funcs : List Func) (formats : List (List ℕ)) : Type 0 where
  pub few_structs : length structs < 2 ^ 32
  pub few_funcs : length funcs < 2 ^ 32
  pub few_formats : length formats < 2 ^ 32
  pub few_locals : Each (λ f. length f.locals < 2 ^ 32) funcs
