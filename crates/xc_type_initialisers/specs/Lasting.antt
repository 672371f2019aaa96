-- What an expression gives an object at file scope (C99 6.6 and 6.7.8 paragraph 4): for a number a constant, which stands
-- for its value, and for a pointer 0, `&` of a global's name or the name of a global array.
use Rattle.std.specs.Prelude.{Bool, ◌||◌, cond, is_some, is_none, List, [], Option, Some, None, option_and_then}
use Rattle.xc_text_place.specs.declared.Span.{Span}
use Rattle.xc_tree.specs.declared.ty.Ty.{Ty}
use Rattle.xc_tree.specs.declared.expr.Expr.{Expr}
use Rattle.xc_tree.specs.Types.{base, is_number}
use Rattle.xc_type_rule.specs.declared.fault.Fault.{Fault}
use Rattle.xc_type_rule.specs.Least.{least_from, fault_unless}
use Rattle.xc_type_constants.specs.Pieces.{Piece, constant_value, constant_faults}
use Rattle.xc_type_initialiser_objects.specs.Words.{number_made, word_of}
use Rattle.xc_type_initialisers.specs.declared.forms.Form.{Form}

-- the type of what a scalar object holds
abbrev pub held : Option Ty → Option Ty
held ty = option_and_then base ty

-- it breaks no rule of constants
abbrev pub is_constant : Piece → Bool
is_constant constant = is_none (least_from None (constant_faults constant))

-- what is made has a word; what has a fault may be a name, `&` of a name or a constant
abbrev pub may_point : Form → Piece → Option Expr → Bool
may_point form constant None = form.pointer || is_constant constant
may_point form constant (Some e) = is_some (word_of e)

abbrev pub lasting_made : Option Ty → Piece → Option Expr → Option Expr
lasting_made None constant made = made
lasting_made (Some to) constant made = cond (is_number to) (number_made (constant_value constant) made) made

-- what no constant may hold, and divisions by 0, are told by the text alone
abbrev pub lasting_faults : Option Ty → Span → Form → Piece → Option Expr → List Fault
lasting_faults None span form constant made = []
lasting_faults (Some to) span form constant made = cond (is_number to) (constant_faults constant) (fault_unless (may_point form constant made) span)
