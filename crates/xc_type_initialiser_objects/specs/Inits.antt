-- What initialisers give (C99 6.7.8 paragraphs 11 and 13).
use Rattle.std.specs.Prelude.{ℕ, true, false, ◌&&◌, cond, List, [], ◌∷◌, ◌++◌, Option, Some, None}
use Rattle.xc_text_place.specs.declared.Span.{Span}
use Rattle.xc_tree.specs.declared.ty.Ty.{Ty}
use Rattle.xc_tree.specs.declared.expr.Expr.{Expr}
use Rattle.xc_tree.specs.Types.{base, fits, is_plain}
use Rattle.xc_type_rule.specs.declared.fault.Fault.{Fault}
use Rattle.xc_type_rule.specs.declared.found.Found.{Found}
use Rattle.xc_type_rule.specs.Least.{type_fault, fault_unless}
use Rattle.xc_type_rule.specs.Nulls.{given}
use Rattle.xc_type_rule.specs.Tests.{may_be}
use Rattle.xc_type_initialiser_objects.specs.declared.inits.Inits.{Inits}

abbrev pub nothing : Inits
nothing = record { made = []; whole = true }

-- what one expression gives, at its offset
abbrev pub one_init : ℕ → Option Expr → Inits
one_init off None = record { made = []; whole = false }
one_init off (Some e) = record { made = (off, e) ∷ []; whole = true }

-- the first and then the second
abbrev pub and_also : Inits → Inits → Inits
and_also a b = record { made = a.made ++ b.made; whole = a.whole && b.whole }

-- all, if each was made
abbrev pub if_whole : Inits → Option (List (ℕ × Expr))
if_whole is = cond is.whole (Some is.made) None

-- expressions --------------------------------------------------------------

abbrev pub fitting : Ty → Found → Option Expr
fitting ty v = cond (may_be (fits ty) v.known) v.made None

abbrev pub base_made : Option Ty → Found → Option Expr
base_made None v = None
base_made (Some ty) v = fitting ty (given ty v)

-- a scalar takes what an assignment would give it; no expression initialises an array or a struct
unfoldable pub value_made : Option Ty → Found → Option Expr
value_made None v = None
value_made (Some ty) v = base_made (base ty) v

abbrev pub base_faults : Span → Option Ty → Found → List Fault
base_faults span None v = type_fault span
base_faults span (Some ty) v = fault_unless (may_be (fits ty) (given ty v).known) span

-- what has an unknown type may be any scalar
unfoldable pub value_faults : Span → Option Ty → Found → List Fault
value_faults span None v = fault_unless (may_be is_plain v.known) span
value_faults span (Some ty) v = base_faults span (base ty) v
