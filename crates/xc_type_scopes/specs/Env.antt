-- What is declared at a place of a text (C99 6.2.1).
use Rattle.std.specs.Prelude.{ℕ, ◌+◌, min, Bool, true, false, cond, nat_lt, if◌then◌else◌, List, [], ◌∷◌, ◌++◌, length, Option, Some, None, slice_set}
use Rattle.xc_text_place.specs.declared.Span.{Span}
use Rattle.xc_tree.specs.declared.ty.Ty.{Ty, out-Ty}
use Rattle.xc_tree.specs.declared.ty.Ty.TheOpen.{Ty-F}
use Rattle.xc_tree.specs.declared.expr.Expr.{Expr}
use Rattle.xc_tree.specs.declared.expr.ExprKind.{ExprKind, out-ExprKind}
use Rattle.xc_tree.specs.declared.expr.ExprKind.TheOpen.{ExprKind-F}
use Rattle.xc_type_rule.specs.declared.found.Thing.{Thing}
use Rattle.xc_type_names.specs.Scoped.{found_in, or_else, entered, left, declared_in, is_new, has_none}
use Rattle.xc_type_structs.specs.declared.structs.Layout.{Layout}
use Rattle.xc_type_structs.specs.Table as table
use Rattle.xc_type_scopes.specs.declared.env.Env.{Env}
use Rattle.xc_type_scopes.specs.declared.env.Outside.{Outside}

-- nothing, at file scope
abbrev pub nothing : Env
nothing = record { file = [] ∷ []; own = []; file_tags = [] ∷ []; own_tags = []; structs = table.no_structs; layout = table.nothing; locals = []; addressed = []; loops = 0; before = []; notes = []; over = None }

-- names ------------------------------------------------------------------

-- what a name stands for: what a function declares hides what stands at file scope
abbrev pub found : ℕ → Env → Option Thing
found name env = or_else (found_in name env.own) (found_in name env.file)

-- the number of the struct of this name (C99 6.2.3: names of structs have a name space of their own)
abbrev pub tagged : ℕ → Env → Option ℕ
tagged name env = or_else (found_in name env.own_tags) (found_in name env.file_tags)

-- the innermost scope has no struct of this name
abbrev pub is_new_tag : ℕ → Env → Bool
is_new_tag name env = cond (has_none env.own_tags) (is_new name env.file_tags) (is_new name env.own_tags)

abbrev pub with_global : ℕ → Thing → Env → Env
with_global name thing env = record env { file = declared_in name thing env.file }

abbrev pub with_own : ℕ → Thing → Env → Env
with_own name thing env = record env { own = declared_in name thing env.own }

-- with a struct's name in the innermost scope, which is that of the file outside functions
abbrev pub with_tag : ℕ → ℕ → Env → Env
with_tag name number env = cond (has_none env.own_tags) (record env { file_tags = declared_in name number env.file_tags })
    (record env { own_tags = declared_in name number env.own_tags })

-- blocks and functions -----------------------------------------------------

-- within one more block
abbrev pub inside : Env → Env
inside env = record env { own = entered env.own; own_tags = entered env.own_tags }

-- behind the block
abbrev pub outside : Env → Env
outside env = record env { own = left env.own; own_tags = left env.own_tags }

-- within a function, whose parameters and outermost block are one scope
abbrev pub in_function : Env → Env
in_function env = record env { own = [] ∷ []; own_tags = [] ∷ []; locals = []; addressed = [] }

-- behind the function
abbrev pub after_function : Env → Env
after_function env = record env { own = []; own_tags = []; locals = []; addressed = [] }

-- within the body of a `future` statement, which sees file scope and what it copies
abbrev pub in_future : Env → Env
in_future env = record env { own = [] ∷ []; own_tags = [] ∷ [] }

-- what the function at work declares
abbrev pub outside_of : Env → Outside
outside_of env = record { own = env.own; tags = env.own_tags }

-- behind the body, where this was declared before it
abbrev pub after_future : Outside → Env → Env
after_future was env = record env { own = was.own; own_tags = was.tags }

-- objects ------------------------------------------------------------------

-- the number of the next object of the function at work
abbrev pub next_local : Env → ℕ
next_local env = length env.locals

abbrev pub has_address_at : {A : Type 0} → Ty-F A → Bool
has_address_at (Ty-F.Array n of) = true
has_address_at (Ty-F.Struct s) = true
has_address_at (Ty-F.Sync of) = true
has_address_at (Ty-F.Future of) = true
has_address_at _ = false

-- an array, a struct and a qualified scalar lie in memory
abbrev pub has_address : Ty → Bool
has_address ty = has_address_at (out-Ty ty)

-- with one more object of the function at work
abbrev pub with_local : Span → Ty → Env → Env
with_local name ty env = record env { locals = env.locals ++ (name, ty) ∷ []; addressed = env.addressed ++ has_address ty ∷ [] }

abbrev pub addressed_kind : List Bool → ExprKind-F ExprKind Expr → List Bool
addressed_kind addressed (ExprKind-F.Auto n) = slice_set addressed n true
addressed_kind addressed k = addressed

abbrev pub addressed_by : List Bool → Option Expr → List Bool
addressed_by addressed None = addressed
addressed_by addressed (Some e) = addressed_kind addressed (out-ExprKind e.kind)

-- the address of what this is the place of has been taken
unfoldable pub with_address : Option Expr → Env → Env
with_address made env = record env { addressed = addressed_by env.addressed made }

-- structs ------------------------------------------------------------------

-- within the braces of a new struct
abbrev pub in_struct : Env → Env
in_struct env = record env { structs = table.opened env.structs; layout = table.nothing }

-- with one more member of the struct at work
abbrev pub with_member : ℕ → Option Ty → Env → Env
with_member name ty env = record env { layout = table.with_member env.structs name ty env.layout }

-- behind the braces of the struct with this number, where this was the layout at work before it
abbrev pub after_struct : ℕ → Layout → Env → Env
after_struct number layout env = record env { structs = table.closed env.structs number env.layout; layout = layout }

-- a struct that is never closed
abbrev pub with_struct : Env → Env
with_struct env = record env { structs = table.opened env.structs }

-- counts -------------------------------------------------------------------

abbrev pub least_place : Option ℕ → Option ℕ → Option ℕ
least_place None o = o
least_place (Some a) None = Some a
least_place (Some a) (Some b) = Some (min a b)

-- a count passes its limit at this place, if at any
abbrev pub with_over : Option ℕ → Env → Env
with_over at env = record env { over = least_place env.over at }

-- pragmas and loops --------------------------------------------------------

-- with one more pragma directly before what comes next
abbrev pub with_pragma : Span → Env → Env
with_pragma at env = record env { before = env.before ++ at ∷ [] }

-- what comes next is no loop: the pragmas directly before it have no effect
abbrev pub past_pragmas : Env → Env
past_pragmas env = record env { before = []; notes = env.notes ++ env.before }

-- the 4,097th loop passes the count at its keyword
abbrev pub over_with : ℕ → ℕ → Option ℕ
over_with loops at = if nat_lt loops 4096 then None else Some at

-- within one more loop, whose keyword stands at `at`; of the pragmas directly before it these have no effect
abbrev pub with_loop : ℕ → List Span → Env → Env
with_loop at notes env = record env { loops = env.loops + 1; before = []; notes = env.notes ++ notes; over = least_place env.over (over_with env.loops at) }
