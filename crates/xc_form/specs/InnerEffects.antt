-- What only private functions and proofs speak of, beside `Effects`.
use Rattle.std.specs.Prelude.{Bool, List, [], map}
use Rattle.xc_tree.specs.declared.ty.Ty.{Ty}
use Rattle.xc_tree.specs.declared.pragmas.Root.{Root}
use Rattle.xc_tree.specs.declared.expr.Expr.{Expr}
use Rattle.xc_tree.specs.declared.stmt.Stmt.{Stmt}
use Rattle.xc_tree.specs.declared.stmt.Item.{Item}
use Rattle.xc_tree.specs.declared.stmt.Item.TheFolds.{fold-Item}
use Rattle.xc_tree.specs.Lists.{joined}
use Rattle.xc_tree.specs.Walk.{of_item}
use Rattle.xc_form.specs.declared.effect.Effect.{Effect}
use Rattle.xc_form.specs.Effects.{written_at, all_effects, deeds_of, root_of, stmt_effects_step, stmt_effects}

-- the array whose name the value is, else Other
abbrev pub array_root : Expr → Root
array_root e = (deeds_of e).array

-- the root of a write: a generic function, which is void, goes through a pointer
abbrev pub written_root : Ty → Expr → Root
written_root ty place = written_at ty (root_of place)

abbrev pub is_zero : Expr → Bool
is_zero e = (deeds_of e).zero

abbrev pub exprs_effects : List Expr → List Effect
exprs_effects es = all_effects (map deeds_of es)

abbrev pub stmts_effects : List Stmt → List Effect
stmts_effects ss = joined (map stmt_effects ss)

abbrev pub item_effects : Item → List Effect
item_effects = fold-Item (List Effect) (List Effect) (List Effect) (of_item []) stmt_effects_step (λ s. s.kind)

abbrev pub items_effects : List Item → List Effect
items_effects items = joined (map item_effects items)
