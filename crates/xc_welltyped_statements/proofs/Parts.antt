-- What each initialiser between braces goes to: a part of the object, behind the parts of the ones before it.
use Rattle.std.proofs.Common.{◌≡◌, ℕ, suc, ◌+◌, ◌-◌, ◌*◌, ◌%◌, ◌^◌, ◌<◌, ◌≤◌, List, [], map, Bool, true, false, refl, sym, ap, ◌∙◌, subst, arith}
use Rattle.std.specs.Prelude.{IsTrue, nat_lt, if◌then◌else◌, Option, Some, None, slice_get, unwrap_or}
use Rattle.std.proofs.lemmas.Bool.{lt-ltb, ltb-true}
use Rattle.std.proofs.lemmas.Nat.{mul-add-lt, mod-mul-add}
use Rattle.xc_tree.specs.declared.ty.Ty.{Ty, out-Ty}
use Rattle.xc_tree.specs.declared.ty.Ty.TheOpen.{Ty-F}
use Rattle.xc_tree.specs.declared.ty.Ty.TheFolds.{map-Ty, fold_out-Ty}
use Rattle.xc_tree.specs.Types.{Shape, Formed, formed, form_step, struct_formed, repeated, in_order, is_size, is_object, shape_of, size_of, cell_of}
use Rattle.xc_tree.specs.Typed.{Context}
use Rattle.xc_tree.proofs.Lists.{and_left}
use Rattle.xc_type_rule.specs.declared.found.Member.{Member}
use Rattle.xc_type_rule.specs.Cells.{cells, cells_step, listed}
use Rattle.xc_type_rule.specs.Members.{members_of}
use Rattle.xc_type_structs.specs.Table.{part_cells}
use Rattle.xc_type_initialiser_objects.specs.declared.target.Part.{Part}
use Rattle.xc_type_initialiser_objects.specs.Parts.{capped, part, no_part, element_part, member_part, part_at, is_braced_at}
use Rattle.xc_type_scopes.specs.declared.env.Env.{Env}
use Rattle.xc_type_expressions.specs.declared.text.Text.{Text}
use Rattle.xc_welltyped.specs.Sound.{Point}
use Rattle.xc_welltyped.proofs.Objects.{Whole, whole_of}
use Rattle.xc_welltyped_claims.specs.Types.{counted, is_object_by, will_be_object}
use Rattle.xc_welltyped_claims.specs.Table.{tys_of, AreMembers}
use Rattle.xc_welltyped_claims.specs.Env.{Good, AreComplete, Stays, Into, At}
use Rattle.xc_welltyped_claims.proofs.Lists.{starts_get}
use Rattle.xc_welltyped_claims.proofs.Env.{point, at_point}
use Rattle.xc_welltyped_statements.proofs.Declarations.{PromiseKept}
use Rattle.xc_welltyped_statements.proofs.Sized.{sized, cells_formed, cells_least, cells_most, cells_stay}
use Rattle.xc_welltyped_statements.proofs.Members.{begins, cells_in, begins_next, begins_few, lies, member_kept, member_cells}

-- shapes -------------------------------------------------------------------------

pub array_shape : (shapes : List Shape) (ty : Ty) (n : ℕ) (of : Ty) → out-Ty ty ≡ Ty-F.Array n of → shape_of shapes ty ≡ repeated n (shape_of shapes of)
array_shape shapes ty n of e = ap (λ (f : Formed). f.shape) (fold_out-Ty Formed (form_step shapes) ty) ∙ ap (λ (l : Ty-F Ty). (form_step shapes (map-Ty Ty Formed (formed shapes) l)).shape) e

pub struct_shape : (shapes : List Shape) (ty : Ty) (s : ℕ) → out-Ty ty ≡ Ty-F.Struct s → shape_of shapes ty ≡ (struct_formed s (slice_get shapes s)).shape
struct_shape shapes ty s e = ap (λ (f : Formed). f.shape) (fold_out-Ty Formed (form_step shapes) ty) ∙ ap (λ (l : Ty-F Ty). (form_step shapes (map-Ty Ty Formed (formed shapes) l)).shape) e

pub array_object : (shapes : List Shape) (ty : Ty) (n : ℕ) (of : Ty) → out-Ty ty ≡ Ty-F.Array n of → IsTrue (is_object shapes ty) → IsTrue (is_object shapes of)
array_object shapes ty n of e h = and_left (is_object shapes of) _ (subst (λ (l : Ty-F Ty). Whole shapes l) e (whole_of shapes ty h))

pub repeated_cell : (n : ℕ) (s : Shape) (k j : ℕ) → k < n → j < s.size → (repeated n s).cell (k * s.size + j) ≡ s.cell j
repeated_cell n s k j lt less =
    let within = mul-add-lt k s.size j n lt less in
    ap (λ b. if b then s.cell ((k * s.size + j) % s.size) else None) (lt-ltb (k * s.size + j) (n * s.size) (omega (arith, within)))
    ∙ ap s.cell (mod-mul-add k s.size j less)

-- programs -----------------------------------------------------------------------

-- a complete struct, and its cells in each program
pub record IsStructTold (t : Text) (e : Env) (s : ℕ) : Type 0 where
  pub is : slice_get e.structs.members s ≡ Some (members_of e.structs.members s)
  pub laid : AreMembers e.structs.sizes 0 (members_of e.structs.members s)
  pub size : listed e.structs.sizes s ≡ cells_in e.structs.sizes (members_of e.structs.members s)
  pub shape : (cx : Context) → Into t cx e → slice_get cx.shapes s ≡ Some (in_order (map (shape_of cx.shapes) (tys_of (members_of e.structs.members s))))

abbrev pub StructsTold : Text → Type 0
StructsTold t = (e : Env) → Good e → (s : ℕ) → IsTrue (is_size (listed e.structs.sizes s)) → IsStructTold t e s

abbrev pub CellsTold : Text → Type 0
CellsTold t = (so : Point) (e : Env) → Good e → At t so e → (ty : Ty) → IsTrue (is_object_by e.structs.sizes ty) → cells e.structs.sizes ty ≡ size_of so.cx.shapes ty

-- parts ----------------------------------------------------------------------------

-- the cells before the part with this number
abbrev pub begin_at : Env → Ty-F Ty → ℕ → ℕ
begin_at e (Ty-F.Array n of) k = k * cells e.structs.sizes of
begin_at e (Ty-F.Struct s) k = begins e.structs.sizes k (members_of e.structs.members s)
begin_at e _ k = 0

-- a part is an object, behind the ones before it, and has those cells in each program
pub record IsPart (t : Text) (e : Env) (ty : Ty) (l : Ty-F Ty) (from k : ℕ) (p : Part) : Type 0 where
  pub own : Ty
  pub typed : p.target.ty ≡ Some own
  pub at : p.target.off ≡ from + begin_at e l k
  pub object : IsTrue (is_object_by e.structs.sizes own)
  pub next : begin_at e l (suc k) ≡ begin_at e l k + cells e.structs.sizes own
  pub few : begin_at e l k + cells e.structs.sizes own ≤ cells e.structs.sizes ty
  pub cell : (cx : Context) → Into t cx e → (j : ℕ) → j < cells e.structs.sizes own → cell_of cx.shapes ty (begin_at e l k + j) ≡ cell_of cx.shapes own j

module _ (t : Text) (cells_told : CellsTold t) (structs_told : StructsTold t) (promise_kept : PromiseKept)
    (e : Env) (good : Good e) (complete : AreComplete e.structs.sizes) (ty : Ty) (object : IsTrue (is_object_by e.structs.sizes ty))
    (e' : Env) (stays : Stays e e') (from : ℕ) (fits : from + cells e.structs.sizes ty ≤ 2 ^ 22) (k : ℕ) where
  abbrev ns : List ℕ
  ns = e.structs.sizes

  module _ (n : ℕ) (of : Ty) (out : out-Ty ty ≡ Ty-F.Array n of) where
    of_object : IsTrue (is_object_by ns of)
    of_object = array_object (map counted ns) ty n of out object

    all_cells : cells ns ty ≡ n * cells ns of
    all_cells = cells_formed ns ty object ∙ ap (λ (h : Shape). h.size) (array_shape (map counted ns) ty n of out) ∙ ap (λ z. n * z) (sym (cells_formed ns of of_object))

    array_few : k < n → k * cells ns of + cells ns of ≤ cells ns ty
    array_few lt =
        let least = cells_least ns of of_object in
        let last = mul-add-lt k (cells ns of) (cells ns of - 1) n lt (omega (arith, least)) in
        let all = all_cells in
        omega (arith, least, last, all)

    array_cell : k < n → (cx : Context) → Into t cx e → (j : ℕ) → j < cells ns of → cell_of cx.shapes ty (k * cells ns of + j) ≡ cell_of cx.shapes of j
    array_cell lt cx i j less =
        let told : cells ns of ≡ size_of cx.shapes of = cells_told (point cx e) e good (at_point t cx e i) of of_object in
        ap (λ (h : Shape). h.cell (k * cells ns of + j)) (array_shape cx.shapes ty n of out)
        ∙ subst (λ d. (repeated n (shape_of cx.shapes of)).cell (k * d + j) ≡ cell_of cx.shapes of j) (sym told)
        (repeated_cell n (shape_of cx.shapes of) k j lt (subst (λ d. j < d) told less))

    array_at : k < n → capped (from + capped (k * cells e'.structs.sizes of)) ≡ from + k * cells ns of
    array_at lt = let few = array_few lt in
        subst (λ d. capped (from + capped (k * d)) ≡ from + k * cells ns of) (cells_stay e.structs e'.structs stays.structs of of_object) (omega (arith, few, fits))

    array_by : (b : Bool) → nat_lt k n ≡ b → IsTrue (if b then part (Some of) from (capped (k * cells e'.structs.sizes of)) else no_part from).there →
        IsPart t e ty (Ty-F.Array n of) from k (if b then part (Some of) from (capped (k * cells e'.structs.sizes of)) else no_part from)
    array_by false is h = absurd (let no : false ≡ true = h in cc)
    array_by true is h =
        let lt : k < n = ltb-true k n is in
        record { own = of; typed = refl; at = array_at lt; object = of_object; next = omega arith; few = array_few lt; cell = array_cell lt }

    pub array_part : IsTrue (element_part e'.structs from n of k).there → IsPart t e ty (Ty-F.Array n of) from k (element_part e'.structs from n of k)
    array_part h = array_by (nat_lt k n) refl h

  module _ (s : ℕ) (out : out-Ty ty ≡ Ty-F.Struct s) where
    abbrev ms : List Member
    ms = members_of e.structs.members s

    is_listed : cells ns ty ≡ listed ns s
    is_listed = fold_out-Ty ℕ (cells_step ns) ty ∙ ap (λ (l : Ty-F Ty). cells_step ns (map-Ty Ty ℕ (cells ns) l)) out

    told : IsStructTold t e s
    told = structs_told e good s (subst (λ n. IsTrue (is_size n)) is_listed (sized ns ty object))

    struct_cells : cells ns ty ≡ cells_in ns ms
    struct_cells = is_listed ∙ told.size

    own_told : (cx : Context) → Into t cx e → (own : Ty) → IsTrue (will_be_object ns own) → size_of cx.shapes own ≡ cells ns own
    own_told cx i own h = sym (cells_told (point cx e) e good (at_point t cx e i) own (promise_kept ns complete own h))

    member_cell : (m : Member) → slice_get ms k ≡ Some m → (own : Ty) → m.ty ≡ Some own → (cx : Context) → Into t cx e → (j : ℕ) → j < cells ns own →
        cell_of cx.shapes ty (begins ns k ms + j) ≡ cell_of cx.shapes own j
    member_cell m is own typed cx i j less =
        ap (λ (h : Shape). h.cell (begins ns k ms + j)) (struct_shape cx.shapes ty s out)
        ∙ ap (λ o. (struct_formed s o).shape.cell (begins ns k ms + j)) (told.shape cx i)
        ∙ member_cells ns cx.shapes (own_told cx i) 0 k ms m told.laid is own typed j less

    struct_by : (o : Option Member) → slice_get ms k ≡ o → IsTrue (member_part from o).there → IsPart t e ty (Ty-F.Struct s) from k (member_part from o)
    struct_by None is h = absurd (let no : false ≡ true = h in cc)
    struct_by (Some m) is h =
        let kept = member_kept ns 0 k ms m told.laid is in
        let size : part_cells ns m.ty ≡ cells ns kept.0 = ap (part_cells ns) kept.1 in
        let most = cells_most ns ty object in
        let all = struct_cells in
        let off = lies ns 0 k ms m told.laid (omega (arith, most, all)) is in
        let few = begins_few ns k ms m is in
        let next = begins_next ns k ms m is in
        record {
          own = kept.0;
          typed = kept.1;
          at = omega (arith, off, few, all, fits);
          object = promise_kept ns complete kept.0 kept.2;
          next = omega (arith, next, size);
          few = omega (arith, few, size, all);
          cell = member_cell m is kept.0 kept.1;
        }

    pub struct_part : IsTrue (member_part from (slice_get (members_of e'.structs.members s) k)).there →
        IsPart t e ty (Ty-F.Struct s) from k (member_part from (slice_get (members_of e'.structs.members s) k))
    struct_part h =
        let same : members_of e'.structs.members s ≡ ms = ap (λ o. unwrap_or o []) (starts_get e.structs.members e'.structs.members stays.structs.members s ms told.is) in
        subst (λ l. IsTrue (member_part from (slice_get l k)).there → IsPart t e ty (Ty-F.Struct s) from k (member_part from (slice_get l k))) (sym same) (struct_by (slice_get ms k) refl) h

  pub part_fine : (l : Ty-F Ty) → out-Ty ty ≡ l → IsTrue (is_braced_at l) → IsTrue (part_at e'.structs from k l).there → IsPart t e ty l from k (part_at e'.structs from k l)
  part_fine (Ty-F.Array n of) out b h = array_part n of out h
  part_fine (Ty-F.Struct s) out b h = struct_part s out h
  part_fine Ty-F.Void out b h = absurd (let no : false ≡ true = b in cc)
  part_fine Ty-F.Int out b h = absurd (let no : false ≡ true = b in cc)
  part_fine Ty-F.Uint out b h = absurd (let no : false ≡ true = b in cc)
  part_fine (Ty-F.Ptr to) out b h = absurd (let no : false ≡ true = b in cc)
  part_fine (Ty-F.Sync of) out b h = absurd (let no : false ≡ true = b in cc)
  part_fine (Ty-F.Future of) out b h = absurd (let no : false ≡ true = b in cc)
