-- What names and places are found to be, and their faults. Those of their parts are not among them.
use Rattle.std.specs.Prelude.{ℕ, Bool, false, cond, ◌||◌, List, [], Option, Some, None, option_map}
use Rattle.xc_text_place.specs.declared.Span.{Span}
use Rattle.xc_tree.specs.declared.ty.Ty.{Int}
use Rattle.xc_tree.specs.declared.expr.Expr.{Expr}
use Rattle.xc_tree.specs.declared.expr.ExprKind.{ExprKind, Const, Global, Auto, Index, Member as MemberAt}
use Rattle.xc_type_rule.specs.declared.fault.Fault.{Fault}
use Rattle.xc_type_rule.specs.declared.found.Found.{Found}
use Rattle.xc_type_rule.specs.declared.found.Known.TheVariants as known
use Rattle.xc_type_rule.specs.declared.found.Thing.{Thing}
use Rattle.xc_type_rule.specs.declared.found.Thing.TheVariants as thing
use Rattle.xc_type_rule.specs.declared.found.Member.{Member}
use Rattle.xc_type_rule.specs.Least.{type_fault, name_fault, fault_unless}
use Rattle.xc_type_rule.specs.Making.{unknown_place, typed, declared_place, found_by, place_by, faults_by, both}
use Rattle.xc_type_rule.specs.Values.{rvalue}
use Rattle.xc_type_rule.specs.Tests.{is_unknown, may_be_place}
use Rattle.xc_type_rule_places.specs.declared.element.Base.{Base}
use Rattle.xc_type_rule_places.specs.Rulings.{pointer_base, array_base, is_array, index_ruling, address_ruling, raised, dot_owner, arrow_owner, lies_within}

-- names (C99 6.5.1) -----------------------------------------------------------

-- an object's place; what stands for no object has no type, and under `&` too its fault is told at the name
unfoldable pub name_part : Span → Option Thing → Found
name_part span (Some (thing.Global n ty)) = declared_place span ty false (Some (Global n))
name_part span (Some (thing.Local n ty)) = declared_place span ty false (Some (Auto n))
name_part span _ = unknown_place

unfoldable pub name_faults : Span → Option Thing → List Fault
name_faults span None = name_fault span
name_faults span (Some (thing.Func n params ret)) = type_fault span
name_faults span _ = []

-- elements ------------------------------------------------------------------

-- what an index goes from: an array itself, or the value of a pointer
abbrev pub base_of : List ℕ → Span → Found → Base
base_of sizes at a = cond (is_array a.known) (array_base sizes a) (pointer_base sizes (rvalue sizes at a))

abbrev pub element_of : ℕ → Option ℕ → Expr → Expr → ExprKind
element_of size bound e i = Index e i size bound

unfoldable pub element_part : Span → Base → Found → Found
element_part span b i = place_by span (index_ruling b.element i.known) (both (element_of b.size b.bound) b.made i.made)

unfoldable pub element_faults : Span → Base → Found → List Fault
element_faults span b i = faults_by span (index_ruling b.element i.known)

-- `a[i]` (C99 6.5.2.1), where `at` covers `a`
unfoldable pub index_part : List ℕ → Span → Span → Found → Found → Found
index_part sizes span at a i = element_part span (base_of sizes at a) i

unfoldable pub index_faults : List ℕ → Span → Span → Found → Found → List Fault
index_faults sizes span at a i = element_faults span (base_of sizes at a) i

abbrev pub zero : Span → Found
zero span = record { known = known.Value Int; made = Some (typed span Int (Const 0)) }

-- `*p` is `p[0]` (C99 6.5.2.1 paragraph 2)
unfoldable pub star_part : List ℕ → Span → Found → Found
star_part sizes span p = element_part span (pointer_base sizes p) (zero span)

unfoldable pub star_faults : List ℕ → Span → Found → List Fault
star_faults sizes span p = element_faults span (pointer_base sizes p) (zero span)

-- addresses -----------------------------------------------------------------

unfoldable pub address_part : Span → Found → Found
address_part span a = found_by span (address_ruling a.known) (option_map (λ e. raised e.kind) a.made)

unfoldable pub address_faults : Span → Found → List Fault
address_faults span a = faults_by span (address_ruling a.known)

-- members (C99 6.5.2.3) -------------------------------------------------------

abbrev pub member_of : ℕ → Expr → ExprKind
member_of off e = MemberAt e off

-- the member of a struct, if it is declared
unfoldable pub member_part : Span → Bool → Option ℕ → Option Member → Option Expr → Found
member_part span within (Some s) (Some m) made = declared_place span m.ty within (option_map (member_of m.off) made)
member_part span within _ _ made = unknown_place

-- what is no struct has no members; a member that is not declared is told at its name
unfoldable pub member_faults : Span → Span → Bool → Option ℕ → Option Member → List Fault
member_faults span at excused None member = fault_unless excused span
member_faults span at excused (Some s) None = name_fault at
member_faults span at excused (Some s) (Some m) = []

-- `a.name` of this member; it lies in a mixed struct where its struct mixes, or lies in one
abbrev pub dot_part : Span → Option Member → Bool → Found → Found
dot_part span member mixes a = member_part span (lies_within a.known || mixes) (dot_owner a.known) member a.made

-- `at` covers the name
abbrev pub dot_faults : Span → Span → Option Member → Found → List Fault
dot_faults span at member a = member_faults span at (may_be_place a.known) (dot_owner a.known) member

-- `p->name` of this member
abbrev pub arrow_part : Span → Option Member → Bool → Found → Found
arrow_part span member mixes p = member_part span mixes (arrow_owner p.known) member p.made

abbrev pub arrow_faults : Span → Span → Option Member → Found → List Fault
arrow_faults span at member p = member_faults span at (is_unknown p.known) (arrow_owner p.known) member
