-- A global without an initialiser begins with cells that it may have.
use Rattle.std.proofs.Common.{◌≡◌, ℕ, ◌+◌, ◌≤◌, ◌∷◌, length, ap, arith}
use Rattle.std.specs.Prelude.{IsTrue, count_by}
use Rattle.std.proofs.lemmas.List.Sums.{count_by-le-length}
use Rattle.xc_tree.specs.declared.ty.Ty.{Ty}
use Rattle.xc_tree.specs.Types.{is_size, cell_of}
use Rattle.xc_tree.specs.Typed.{Context}
use Rattle.xc_tree.specs.Valid.{cells_from}
use Rattle.xc_type_rule.specs.Cells.{listed}
use Rattle.xc_type_structs.specs.declared.structs.Structs.{Structs}
use Rattle.xc_type_initialiser_objects.specs.Cells.{start_of, starts_within, started}
use Rattle.xc_welltyped_claims.specs.Ranks.{rank_of}
use Rattle.xc_type_scopes.specs.declared.env.Env.{Env}
use Rattle.xc_type_expressions.specs.declared.text.Text.{Text}
use Rattle.xc_welltyped_claims.specs.Types.{is_object_by}
use Rattle.xc_welltyped_claims.specs.Table.{has_members, IsTable}
use Rattle.xc_welltyped_claims.specs.Env.{Good, Into}
use Rattle.xc_welltyped_structs.proofs.Kept.{height_most}
use Rattle.xc_welltyped_structs.proofs.Tables.{table_stacked}
use Rattle.xc_welltyped_statements.proofs.Promised.{object_kept}
use Rattle.xc_welltyped_statements.proofs.Filled.{trimmed_ok}
use Rattle.xc_welltyped_statements.proofs.Levels.{program_shape}
use Rattle.xc_welltyped_statements.proofs.Started.{types_fit, struct_fits}

rank_most : (s : Structs) (table : IsTable s) (n : ℕ) → IsTrue (is_size (listed s.sizes n)) → rank_of table.ranks n ≤ length s.members
rank_most s table n w =
    let is = (table_stacked s table).sized n w in
    let c = table.structs n (is.0 ∷ is.1) is.2 in
    let last : rank_of table.ranks n ≤ count_by has_members s.members = c.last in
    let few : count_by has_members s.members ≤ length s.members = count_by-le-length has_members s.members in
    omega (arith, last, few)

pub started_fine : (t : Text) (e : Env) → Good e → (ty : Ty) → IsTrue (is_object_by e.structs.sizes ty) → (cx : Context) → Into t cx e →
    IsTrue (cells_from cx.globals (cell_of cx.shapes ty) 0 (started e.structs ty))
unfolding started
started_fine t e good ty object cx i =
    let s = e.structs in
    let kept = object_kept s.sizes ty object in
    let d = length s.members in
    let low = height_most s.sizes good.table.ranks d (rank_most s good.table) ty kept in
    let fit = types_fit cx.globals s good.table cx.shapes (λ n ms is laid. program_shape t e good n ms is laid cx i) d
    (struct_fits cx.globals s good.table cx.shapes (λ n ms is laid. program_shape t e good n ms is laid cx i) d) ty kept low in
    trimmed_ok cx.globals (cell_of cx.shapes ty) 0 (start_of (starts_within d s.members) ty) (fit.cells (cell_of cx.shapes ty) 0 (λ j lt. let here : 0 + j ≡ j = omega arith in ap (cell_of cx.shapes ty) here))
