-- What a part of a program may name, and when it is well typed there.
use Rattle.std.specs.Prelude.{Bool, List}
use Rattle.xc_tree.specs.declared.tree.Tree.{Tree}
use Rattle.xc_tree.specs.declared.tree.Func.{Func}
use Rattle.xc_tree.specs.declared.tree.Object.{Object}
use Rattle.xc_tree.specs.declared.tree.Local.{Local}
use Rattle.xc_tree.specs.Types.{Shape, struct_shapes}
use Rattle.xc_tree.specs.Typed.{Context, context}
use Rattle.xc_tree.specs.Valid.{func_ok, global_ok}

-- where these locals are a function's
abbrev pub context_at : Tree → List Local → Context
context_at t locals = context t.structs t.globals t.funcs t.formats locals

-- in a function
abbrev pub context_of : Tree → Func → Context
context_of t f = context_at t f.locals

-- the cells of each struct
abbrev pub shapes_of : Tree → List Shape
shapes_of t = struct_shapes t.structs

-- a function that is well typed among those of the program
abbrev pub func_fits : Tree → Func → Bool
func_fits t f = func_ok t.structs t.globals t.funcs t.formats f

-- a global that is well typed among those of the program
abbrev pub global_fits : Tree → Object → Bool
global_fits t g = global_ok (shapes_of t) t.globals g
