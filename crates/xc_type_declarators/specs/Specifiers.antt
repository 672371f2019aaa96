-- What a list of declaration specifiers stands for (C99 6.7.2 and 6.7.3), with `sync` and `future` as qualifiers.
use Rattle.std.specs.Prelude.{ℕ, Bool, true, false, ◌&&◌, ◌||◌, ◌==◌, not, is_some, ◌+◌, nat_le, if◌then◌else◌, List, count_by, Option, Some, None, option_map}
use Rattle.xc_tree.specs.declared.ty.Ty.{Ty}
use Rattle.xc_tree.specs.declared.ty.Ty as ty
use Rattle.xc_raw.specs.declared.word.Word.{Word}
use Rattle.xc_raw.specs.declared.word.Word.TheVariants as word
use Rattle.xc_raw.specs.declared.word.Specifier.TheVariants as specifier
use Rattle.xc_raw.specs.declared.word.Qualifier.TheVariants as qualifier
use Rattle.xc_text_place.specs.declared.Span.{Span}
use Rattle.xc_type_rule.specs.declared.fault.Fault.{Fault}
use Rattle.xc_type_rule.specs.Least.{fault_unless}
use Rattle.xc_type_declarators.specs.declared.specifiers.Basic.{Basic}
use Rattle.xc_type_declarators.specs.declared.specifiers.Basic.TheVariants as basic
use Rattle.xc_type_declarators.specs.declared.specifiers.Mark.{Mark}
use Rattle.xc_type_declarators.specs.declared.specifiers.Mark.TheVariants as mark
use Rattle.xc_type_declarators.specs.declared.specifiers.Specified.{Specified}
use Rattle.xc_raw.specs.Kinds.{is_void, is_struct, is_future}

-- words ------------------------------------------------------------------

abbrev pub is_int : Word → Bool
is_int (word.Specifier specifier.Int) = true
is_int _ = false

abbrev pub is_long : Word → Bool
is_long (word.Specifier specifier.Long) = true
is_long _ = false

abbrev pub is_signed : Word → Bool
is_signed (word.Specifier specifier.Signed) = true
is_signed _ = false

abbrev pub is_unsigned : Word → Bool
is_unsigned (word.Specifier specifier.Unsigned) = true
is_unsigned _ = false

abbrev pub is_static : Word → Bool
is_static (word.Specifier specifier.Static) = true
is_static _ = false

abbrev pub is_sync : Word → Bool
is_sync (word.Qualifier qualifier.Sync) = true
is_sync _ = false

-- how often a word of this kind stands in a list
abbrev pub often : (Word → Bool) → List Word → ℕ
often is ws = count_by is ws

-- no such word stands in a list
abbrev pub lacks : (Word → Bool) → List Word → Bool
lacks is ws = often is ws == 0

-- type words -------------------------------------------------------------

abbrev pub lacks_integers : List Word → Bool
lacks_integers ws = lacks is_int ws && (lacks is_long ws && (lacks is_signed ws && lacks is_unsigned ws))

abbrev pub is_void_alone : List Word → Bool
is_void_alone ws = (often is_void ws == 1) && (lacks is_struct ws && lacks_integers ws)

abbrev pub is_struct_alone : List Word → Bool
is_struct_alone ws = (often is_struct ws == 1) && (lacks is_void ws && lacks_integers ws)

abbrev pub has_one_sign : List Word → Bool
has_one_sign ws = nat_le (often is_signed ws + often is_unsigned ws) 1

-- the integer types of C99 6.7.2 paragraph 2: `int` at most once, `long` at most twice, and at most one of `signed`
-- and `unsigned`, once; at least one of these words, in any order, and no other
abbrev pub is_integer : List Word → Bool
is_integer ws = (lacks is_void ws && lacks is_struct ws) && (nat_le (often is_int ws) 1
    && (nat_le (often is_long ws) 2 && (has_one_sign ws && not (lacks_integers ws))))

-- what the type words name, if they name a type
unfoldable pub basic_of : List Word → Option Basic
basic_of ws = if is_void_alone ws then Some basic.Void else (if is_struct_alone ws then Some basic.Struct
    else (if is_integer ws then Some (if lacks is_unsigned ws then basic.Int else basic.Uint) else None))

-- qualifiers -------------------------------------------------------------

-- `sync` and `future` exclude one another, and the same one may stand twice (C99 6.7.3 paragraph 4)
unfoldable pub mark_of : List Word → Option Mark
mark_of ws = if lacks is_sync ws then Some (if lacks is_future ws then mark.Plain else mark.Future)
    else (if lacks is_future ws then Some mark.Sync else None)

-- only scalars are qualified
abbrev pub may_have : Basic → Mark → Bool
may_have b mark.Plain = true
may_have basic.Int m = true
may_have basic.Uint m = true
may_have b m = false

-- specifiers -------------------------------------------------------------

abbrev pub both : Option Basic → Option Mark → Option Specified
both (Some b) (Some m) = if may_have b m then Some (record { basic = b; mark = m }) else None
both _ _ = None

-- what the list stands for, none where it breaks a rule
abbrev pub specified : List Word → Option Specified
specified ws = both (basic_of ws) (mark_of ws)

-- types ------------------------------------------------------------------

abbrev pub marked : Mark → Ty → Ty
marked mark.Plain t = t
marked mark.Sync t = ty.Sync t
marked mark.Future t = ty.Future t

-- `number` is the struct's, none where it is unknown
abbrev pub basic_ty : Basic → Option ℕ → Option Ty
basic_ty basic.Void number = Some ty.Void
basic_ty basic.Int number = Some ty.Int
basic_ty basic.Uint number = Some ty.Uint
basic_ty basic.Struct number = option_map ty.Struct number

abbrev pub specified_ty : Option Specified → Option ℕ → Option Ty
specified_ty None number = None
specified_ty (Some s) number = option_map (marked s.mark) (basic_ty s.basic number)

-- the type that specifiers give, none where it is unknown because of a fault
unfoldable pub base_ty : List Word → Option ℕ → Option Ty
base_ty ws number = specified_ty (specified ws) number

-- faults -----------------------------------------------------------------

-- `static` stands at file scope alone
unfoldable pub are_sound : Bool → List Word → Bool
are_sound outermost ws = is_some (specified ws) && (outermost || lacks is_static ws)

abbrev pub specifier_faults : Bool → Span → List Word → List Fault
specifier_faults outermost span ws = fault_unless (are_sound outermost ws) span
