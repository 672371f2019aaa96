-- What the rule of each operator says, by what is known of its operands. None is a broken rule. Where an operand is
-- unknown, the type of the whole is known if each type of the operand that keeps the rule gives the same.
use Rattle.std.specs.Prelude.{Bool, true, false, ◌&&◌, ◌||◌, not, cond, Option, Some, None}
use Rattle.xc_tree.specs.declared.operator.UnOp.{UnOp}
use Rattle.xc_tree.specs.declared.operator.UnOp.TheVariants as un
use Rattle.xc_tree.specs.declared.ty.Ty.{Ty, Int}
use Rattle.xc_tree.specs.Types.{same_ty, is_number, is_plain, is_pointer, both_numbers, fits, common_type, base}
use Rattle.xc_tree.specs.Typed.{Sort, sum, difference, shift, comparison, number, update_ok}
use Rattle.xc_tree_words.specs.Words.{is_uint}
use Rattle.xc_type_rule.specs.declared.found.Known.{Known}
use Rattle.xc_type_rule.specs.declared.found.Known.TheVariants as known
use Rattle.xc_type_rule.specs.Making.{Ruling}
use Rattle.xc_type_rule.specs.Tests.{may_be, may_be_place}

-- a value of unknown type
abbrev pub untyped : Known
untyped = known.Unknown false

unfoldable pub ruled : Bool → Ty → Ruling
ruled true ty = Some (known.Value ty)
ruled false ty = None

unfoldable pub unruled : Bool → Ruling
unruled true = Some untyped
unruled false = None

-- the type is certain, or else the rule may be kept
unfoldable pub settled : Bool → Ty → Bool → Ruling
settled certain ty fine = cond certain (Some (known.Value ty)) (unruled fine)

-- one operand -------------------------------------------------------------

-- `!` of a scalar; `-` and `~` of a number (C99 6.5.3.3)
unfoldable pub unary_type : UnOp → Ty → Ruling
unary_type un.Not ty = ruled (is_plain ty) Int
unary_type _ ty = ruled (is_number ty) ty

unfoldable pub unary_unknown : UnOp → Known
unary_unknown un.Not = known.Value Int
unary_unknown _ = untyped

unfoldable pub unary_ruling : UnOp → Known → Ruling
unary_ruling o (known.Unknown place) = Some (unary_unknown o)
unary_ruling o (known.Value ty) = unary_type o ty
unary_ruling o (known.Place ty within) = None

-- a cast is between integer types; the named type is none where it has a fault
unfoldable pub cast_ruling : Option Ty → Known → Ruling
cast_ruling None k = unruled (may_be is_number k)
cast_ruling (Some to) k = ruled (is_number to && may_be is_number k) to

-- two operands ------------------------------------------------------------

-- numbers, to their common type (C99 6.3.1.8)
unfoldable pub number_ruling : Ty → Ty → Ruling
number_ruling a b = ruled (both_numbers a b) (common_type a b)

-- numbers, or a pointer and a number (C99 6.5.6)
unfoldable pub sum_ruling : Ty → Ty → Ruling
sum_ruling a b = cond (both_numbers a b) (number_ruling a b)
    (cond (is_pointer a && is_number b) (ruled true a) (ruled (is_number a && is_pointer b) b))

-- numbers, a pointer and a number, or pointers of one type (C99 6.5.6)
unfoldable pub difference_ruling : Ty → Ty → Ruling
difference_ruling a b = cond (both_numbers a b) (number_ruling a b)
    (cond (is_pointer a && is_number b) (ruled true a) (ruled (is_pointer a && same_ty a b) Int))

unfoldable pub both_known : Sort → Ty → Ty → Ruling
both_known sum a b = sum_ruling a b
both_known difference a b = difference_ruling a b
both_known shift a b = ruled (both_numbers a b) a
both_known comparison a b = ruled (fits a b) Int
both_known number a b = number_ruling a b

-- the right operand is unknown
unfoldable pub left_known : Sort → Ty → Ruling
left_known sum a = settled (is_pointer a) a (is_number a)
left_known difference a = settled (is_uint a) a (is_plain a)
left_known shift a = ruled (is_number a) a
left_known comparison a = ruled (is_plain a) Int
left_known number a = settled (is_uint a) a (is_number a)

-- the left operand is unknown
unfoldable pub right_known : Sort → Ty → Ruling
right_known sum b = settled (is_pointer b) b (is_number b)
right_known difference b = settled (is_pointer b) Int (is_number b)
right_known shift b = unruled (is_number b)
right_known comparison b = ruled (is_plain b) Int
right_known number b = settled (is_uint b) b (is_number b)

unfoldable pub neither_known : Sort → Known
neither_known comparison = known.Value Int
neither_known _ = untyped

unfoldable pub binary_ruling : Sort → Known → Known → Ruling
binary_ruling s (known.Value a) (known.Value b) = both_known s a b
binary_ruling s (known.Value a) (known.Unknown q) = left_known s a
binary_ruling s (known.Unknown p) (known.Value b) = right_known s b
binary_ruling s (known.Unknown p) (known.Unknown q) = Some (neither_known s)
binary_ruling s _ _ = None

-- `&&` and `||` of scalars (C99 6.5.13 and 6.5.14)
unfoldable pub logic_ruling : Known → Known → Ruling
logic_ruling a b = ruled (may_be is_plain a && may_be is_plain b) Int

-- `,` (C99 6.5.17)
unfoldable pub comma_ruling : Known → Known → Ruling
comma_ruling a (known.Unknown place) = unruled (may_be (λ t. true) a)
comma_ruling a (known.Value b) = ruled (may_be (λ t. true) a) b
comma_ruling a (known.Place b within) = None

-- `?:` --------------------------------------------------------------------

-- numbers, or both of one type, which is a pointer's or void (C99 6.5.15)
unfoldable pub branches_type : Ty → Ty → Ruling
branches_type a b = ruled (same_ty a b || both_numbers a b) (common_type a b)

-- the other branch is unknown; beside a constant 0 it may be a pointer
unfoldable pub branch_type : Ty → Bool → Ruling
branch_type ty null = settled (not (is_number ty) || (is_uint ty && not null)) ty true

-- the branches, and which of them are constants 0
unfoldable pub branches_ruling : Known → Known → Bool × Bool → Ruling
branches_ruling (known.Value s) (known.Value t) nulls = branches_type s t
branches_ruling (known.Value s) (known.Unknown q) nulls = branch_type s nulls.0
branches_ruling (known.Unknown p) (known.Value t) nulls = branch_type t nulls.1
branches_ruling (known.Unknown p) (known.Unknown q) nulls = Some untyped
branches_ruling _ _ nulls = None

unfoldable pub conditional_ruling : Known → Known → Known → Bool × Bool → Ruling
conditional_ruling test a b nulls = cond (may_be is_plain test) (branches_ruling a b nulls) None

-- assignments -------------------------------------------------------------

-- the scalar type that an assignment to it gives, without its qualifier
unfoldable pub target : Known → Option Ty
target (known.Place ty within) = base ty
target _ = None

unfoldable pub given_ruling : Option Ty → Known → Ruling
given_ruling None v = None
given_ruling (Some t) v = ruled (may_be (fits t) v) t

-- a place, and a value that fits it (C99 6.5.16.1)
unfoldable pub assign_ruling : Known → Option Ty → Known → Ruling
assign_ruling to t v = cond (may_be_place to) (unruled (may_be is_plain v)) (given_ruling t v)

unfoldable pub updated_ruling : Sort → Option Ty → Known → Ruling
updated_ruling s None v = None
updated_ruling s (Some t) v = ruled (update_ok s t && may_be is_number v) t

-- a place and a number (C99 6.5.16.2)
unfoldable pub update_ruling : Sort → Known → Known → Ruling
update_ruling s to v = cond (may_be_place to) (unruled (may_be is_number v)) (updated_ruling s (target to) v)
