-- Pure functions: no access of a cell, addressed object, loop, `printf` or thread, and calls of earlier pure functions alone.
use Rattle.std.specs.Prelude.{Bool, true, false, ◌&&◌, not, List, [], ◌∷◌, ◌++◌, map, slice_get}
use Rattle.xc_tree.specs.declared.tree.Func.{Func}
use Rattle.xc_tree.specs.declared.tree.Local.{Local}
use Rattle.xc_tree.specs.Lists.{every, passes}
use Rattle.xc_form.specs.declared.effect.Effect.{Effect}
use Rattle.xc_form.specs.declared.effect.Effect.TheVariants as effect
use Rattle.xc_form.specs.Effects.{stmt_effects}

-- `done` tells which of the functions before this one are pure
abbrev pub is_quiet : List Bool → Effect → Bool
is_quiet done (effect.Set x) = true
is_quiet done (effect.Declare x) = true
is_quiet done (effect.Call f) = passes (λ b. b) (slice_get done f)
is_quiet done _ = false

abbrev pub has_no_address : Local → Bool
has_no_address l = not l.addressed

abbrev pub all_quiet : List Bool → List Effect → Bool
all_quiet done es = every (map (is_quiet done) es)

unfoldable pub is_pure : List Bool → Func → Bool
is_pure done f = every (map has_no_address f.locals) && all_quiet done (stmt_effects f.body)

unfoldable pub purity_from : List Bool → List Func → List Bool
purity_from done [] = done
purity_from done (f ∷ fs) = purity_from (done ++ is_pure done f ∷ []) fs

-- which functions are pure
abbrev pub purity : List Func → List Bool
purity fs = purity_from [] fs
