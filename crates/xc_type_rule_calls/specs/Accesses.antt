-- The generic functions: each makes one access of the cell that its first argument points to (Alverson et al., The Tera
-- Computer System, 1990).
use Rattle.std.specs.Prelude.{false, ◌&&◌, List, Option, Some, None, option_map}
use Rattle.xc_text_place.specs.declared.Span.{Span}
use Rattle.xc_word.specs.declared.memory.Kind.{Kind}
use Rattle.xc_word.specs.declared.memory.Kind.TheVariants as kind
use Rattle.xc_tree.specs.declared.ty.Ty.{Ty, Void}
use Rattle.xc_tree.specs.declared.expr.Expr.{Expr}
use Rattle.xc_tree.specs.declared.expr.ExprKind.{ExprKind, Read, Write, FetchAdd, Purge}
use Rattle.xc_tree.specs.Types.{is_number, is_plain, fits, content}
use Rattle.xc_type_rule.specs.declared.fault.Fault.{Fault}
use Rattle.xc_type_rule.specs.declared.found.Found.{Found}
use Rattle.xc_type_rule.specs.declared.found.Known.{Known}
use Rattle.xc_type_rule.specs.declared.found.Known.TheVariants as known
use Rattle.xc_type_rule.specs.Making.{Ruling, found_by, faults_by, both}
use Rattle.xc_type_rule.specs.Tests.{may_be}
use Rattle.xc_type_rule_calls.specs.Arguments.{ruled, given_by}

-- the type of the scalar that a pointer leads to, without its qualifier
abbrev pub scalar_of : Known → Option Ty
scalar_of (known.Value ty) = content ty
scalar_of _ = None

-- what is left of an access by its kind
unfoldable pub read_ruling : Known → Ruling
read_ruling (known.Unknown place) = Some (known.Unknown false)
read_ruling p = option_map known.Value (scalar_of p)

unfoldable pub purge_ruling : Known → Ruling
purge_ruling (known.Unknown place) = Some (known.Value Void)
purge_ruling p = option_map (λ ty. known.Value Void) (scalar_of p)

-- a function of one argument
unfoldable pub access_ruling : Kind → Known → Ruling
access_ruling kind.ReadXx p = read_ruling p
access_ruling kind.ReadFe p = read_ruling p
access_ruling kind.ReadFf p = read_ruling p
access_ruling kind.Purge p = purge_ruling p
access_ruling _ p = None

abbrev pub access_of : Kind → Expr → ExprKind
access_of kind.Purge e = Purge e
access_of k e = Read k e

abbrev pub written : Option Ty → Known → Ruling
written None v = None
written (Some ty) v = ruled (may_be (fits ty) v) (known.Value Void)

unfoldable pub write_ruling : Known → Known → Ruling
write_ruling (known.Unknown place) v = ruled (may_be is_plain v) (known.Value Void)
write_ruling p v = written (scalar_of p) v

abbrev pub added : Option Ty → Known → Ruling
added None v = None
added (Some ty) v = ruled (is_number ty && may_be is_number v) (known.Value ty)

-- the cell has an integer, and so has the value
unfoldable pub add_ruling : Known → Known → Ruling
add_ruling (known.Unknown place) v = ruled (may_be is_number v) (known.Unknown false)
add_ruling p v = added (scalar_of p) v

-- a function of a pointer and a value
unfoldable pub update_ruling : Kind → Known → Known → Ruling
update_ruling kind.WriteXf p v = write_ruling p v
update_ruling kind.WriteEf p v = write_ruling p v
update_ruling kind.WriteFf p v = write_ruling p v
update_ruling kind.Add p v = add_ruling p v
update_ruling _ p v = None

abbrev pub update_of : Kind → Expr → Expr → ExprKind
update_of kind.Add e v = FetchAdd e v
update_of k e v = Write k e v

-- `readfe(p)`, `readff(p)`, `readxx(p)` and `purge(p)`
unfoldable pub access_part : Span → Kind → Found → Found
access_part span k p = found_by span (access_ruling k p.known) (option_map (access_of k) p.made)

unfoldable pub access_faults : Span → Kind → Found → List Fault
access_faults span k p = faults_by span (access_ruling k p.known)

unfoldable pub updated_part : Span → Kind → Found → Found → Found
updated_part span k p v = found_by span (update_ruling k p.known v.known) (both (update_of k) p.made v.made)

unfoldable pub updated_faults : Span → Kind → Found → Found → List Fault
updated_faults span k p v = faults_by span (update_ruling k p.known v.known)

-- `writeef(p, v)`, `writeff(p, v)`, `writexf(p, v)` and `int_fetch_add(p, v)`; a constant 0 is null in a pointer's cell
unfoldable pub update_part : Span → Kind → Found → Found → Found
update_part span k p v = updated_part span k p (given_by (scalar_of p.known) v)

unfoldable pub update_faults : Span → Kind → Found → Found → List Fault
update_faults span k p v = updated_faults span k p (given_by (scalar_of p.known) v)
