use Rattle.std.proofs.Common.{rules, ◌≡◌, IsTrue, [], ◌∷◌, ℕ, List, sym, subst}
use Rattle.xc_tree.specs.declared.ty.Ty.{Int}
use Rattle.xc_tree.specs.declared.expr.ExprKind.{Const}
use Rattle.xc_tree.specs.declared.stmt.StmtKind.{Switch}
use Rattle.xc_tree.specs.declared.stmt.Item.{Item, At}
use Rattle.xc_tree.specs.Lists.{distinct, ascending}
use Rattle.xc_tree.specs.Types.{shapes_within, is_mixed}
use Rattle.xc_tree.specs.Formats.{taken_from}
use Rattle.xc_tree.specs.Typed.{context, rule, are_values}
use Rattle.xc_tree.specs.Statements.{stmt_ok, pragmas_ok}
use Rattle.xc_tree.proofs.Samples.{opened_all, at, does}
use Rattle.xc_tree_contracts.proofs.labels.two_cases.Goals as goal

abbrev fine : List Item → Type 0
fine items = IsTrue (stmt_ok (context [] [] [] [] []) (does (Switch (at Int (Const 1)) items)))

-- src/labels.rt:20:1
pub returns : goal.returns
unfolding rule are_values shapes_within is_mixed taken_from pragmas_ok ascending distinct
returns c = subst fine (sym c.in_ok-items.ensures) (search (rules, opened_all))
