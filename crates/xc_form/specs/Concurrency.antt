-- Concurrent loops: in normal form, under `assert parallel`, and with a body that assigns only locals of its own.
use Rattle.std.specs.Prelude.{ℕ, Bool, true, false, ◌&&◌, ◌==◌, not, is_ok, List, map, bit_and}
use Rattle.xc_tree.specs.declared.pragmas.Marks.{Marks}
use Rattle.xc_tree.specs.declared.stmt.Stmt.{Stmt}
use Rattle.xc_tree.specs.declared.stmt.StmtKind.{StmtKind, out-StmtKind}
use Rattle.xc_tree.specs.declared.stmt.Item.{Item}
use Rattle.xc_tree.specs.declared.stmt.Item.TheOpen.{StmtKind-F}
use Rattle.xc_tree.specs.declared.tree.Local.{Local}
use Rattle.xc_tree.specs.Lists.{every, some}
use Rattle.xc_form.specs.declared.effect.Effect.{Effect}
use Rattle.xc_form.specs.declared.effect.Effect.TheVariants as effect
use Rattle.xc_form.specs.Effects.{stmt_effects}
use Rattle.xc_form.specs.Normal.{normal_form}

abbrev pub declares : ℕ → Effect → Bool
declares x (effect.Declare y) = x == y
declares x _ = false

abbrev pub is_declared : List Effect → ℕ → Bool
is_declared es x = some (map (declares x) es)

-- what is assigned is declared in the same statement
abbrev pub keeps_inside : List Effect → Effect → Bool
keeps_inside es (effect.Set x) = is_declared es x
keeps_inside es _ = true

unfoldable pub all_inside : List Effect → Bool
all_inside es = every (map (keeps_inside es) es)

-- `assert parallel` stands before the loop; `loop serial` holds where both do
abbrev pub is_asserted : Marks → Bool
is_asserted m = (bit_and m.0 1 == 1) && not (bit_and m.0 2 == 2)

abbrev pub body_inside : StmtKind-F Item StmtKind Stmt → Bool
body_inside (StmtKind-F.Loop id _ init test step body pragmas) = is_asserted pragmas.marks && all_inside (stmt_effects body)
body_inside _ = false

abbrev pub is_concurrent : List Bool → List Local → Stmt → Bool
is_concurrent pures ls s = body_inside (out-StmtKind s.kind) && is_ok (normal_form pures ls s)
