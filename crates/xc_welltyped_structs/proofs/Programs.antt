-- The structs of a program that has those of a table, all of them complete.
use Rattle.std.proofs.Common.{◌≡◌, ℕ, zero, suc, ◌+◌, ◌-◌, ◌^◌, ◌<◌, ◌≤◌, min, List, [], ◌∷◌, length, map, take, Bool, true, false, refl, sym, ap, ◌∙◌, subst, arith, length-take}
use Rattle.std.specs.Prelude.{IsTrue, ◌&&◌, ◌==◌, nat_le, cond, Option, Some, None, slice_get, option_map, unwrap_or, count_by}
use Rattle.std.proofs.lemmas.Bool.{le-leb}
use Rattle.std.proofs.lemmas.List.{length-map}
use Rattle.std.proofs.lemmas.List.Sums.{sum_by-cons, count_by-le-length}
use Rattle.std.proofs.lemmas.Option.{slice_get-map, slice_get_within}
use Rattle.xc_tree.specs.declared.ty.Ty.{Ty, roll-Ty, Ptr, Struct}
use Rattle.xc_tree.specs.declared.ty.Ty.TheOpen.{Ty-F}
use Rattle.xc_tree.specs.declared.ty.Ty.TheFolds.{fold-roll-Ty}
use Rattle.xc_tree.specs.Lists.{passes}
use Rattle.xc_tree.proofs.Lists.{and_both}
use Rattle.xc_tree.specs.Types.{Shape, Formed, form_step, struct_formed, sizes, is_size, is_object, is_mixed, in_order, shape_of, size_of, shapes_within, same_ty}
use Rattle.xc_tree.specs.Typed.{Context, member_at, member_ok, mixed_under}
use Rattle.xc_type_rule.specs.declared.found.Member.{Member}
use Rattle.xc_type_rule.specs.Cells.{cells, listed}
use Rattle.xc_type_rule.specs.Members.{member_named, members_of, mixes}
use Rattle.xc_type_structs.specs.declared.structs.Structs.{Structs}
use Rattle.xc_type_structs.specs.Table.{part_cells}
use Rattle.xc_type_structs.specs.Agree.{part_shape, members_shape, struct_shape}
use Rattle.xc_type_structs.proofs.Same.{same_self}
use Rattle.xc_type_structs.proofs.Table.{mixed_told}
use Rattle.xc_welltyped_claims.specs.Ranks.{height, rank_of}
use Rattle.xc_welltyped_claims.proofs.RankLevels.{some_within}
use Rattle.xc_type_scopes.specs.declared.env.Env.{Env}
use Rattle.xc_type_expressions.specs.declared.text.Text.{Text}
use Rattle.xc_welltyped.specs.Sound.{Point}
use Rattle.xc_welltyped.proofs.Points.{cells_at}
use Rattle.xc_welltyped.proofs.Types.{or_left, or_right, pointee_of}
use Rattle.xc_welltyped_rules.specs.Agrees.{declared_ok, IsMemberOf, is_typed, is_typed_member}
use Rattle.xc_welltyped_claims.specs.Types.{is_object_by, will_be_object}
use Rattle.xc_welltyped_claims.specs.Table.{with_known, tys_of, struct_tys, table_shapes, has_members, IsMember, AreMembers, IsStruct}
use Rattle.xc_welltyped_claims.specs.Env.{Good, At}
use Rattle.xc_welltyped_claims.proofs.Lists.{starts_get, starts_length}
use Rattle.xc_welltyped_structs.proofs.Lists.{all_each, each_with, map_each, same_over, get_take}
use Rattle.xc_welltyped_structs.proofs.Scalars.{size_most}
use Rattle.xc_welltyped_structs.proofs.Types.{object_same}
use Rattle.xc_welltyped_structs.proofs.Promises.{complete_at, promise_kept}
use Rattle.xc_welltyped_structs.proofs.Kept.{shape_below}
use Rattle.xc_welltyped_structs.proofs.Ranked.{members_kept}
use Rattle.xc_welltyped_structs.proofs.Members.{member_tys, parts_tys, part_told}
use Rattle.xc_welltyped_structs.proofs.Tables.{size_told, table_stacked, table_has, shapes_many, sizes_many}

length_within : (structs : List (List Ty)) (j : ℕ) → j ≡ length structs → length (shapes_within j structs) ≡ length structs
unfolding shapes_within
length_within structs zero e = e
length_within structs (suc j) e = length-map structs (λ ms. in_order (map (shape_of (shapes_within j structs)) ms))

struct_is : (shapes : List Shape) (n : ℕ) → shape_of shapes (Struct n) ≡ struct_shape shapes n
unfolding roll-Ty denote.Hole.Carrier.roll
struct_is shapes n = ap (λ (f : Formed). f.shape) (fold-roll-Ty Formed (form_step shapes) (Ty-F.Struct n))

module _ (t : Text) (so : Point) (e : Env) (g : Good e) (a : At t so e) where
  abbrev s : Structs
  s = e.structs

  abbrev cx : Context
  cx = so.cx

  abbrev S : List Shape
  S = table_shapes s

  abbrev ranks : List ℕ
  ranks = g.table.ranks

  abbrev Kept : Ty → Type 0
  Kept t = IsTrue (will_be_object s.sizes t)

  -- cells ------------------------------------------------------------------------------------------------

  in_program : (n : ℕ) (ms : List Member) → slice_get s.members n ≡ Some ms → slice_get cx.structs n ≡ Some (tys_of ms)
  in_program n ms is = starts_get (struct_tys s.members) cx.structs a.into.structs n (tys_of ms) (slice_get-map tys_of s.members n ∙ ap (option_map tys_of) is)

  first_rank : (n : ℕ) → IsTrue (is_size (listed s.sizes n)) → 0 < rank_of ranks n
  first_rank n w = let is = (table_stacked s g.table).sized n w in let c = g.table.structs n (is.0 ∷ is.1) is.2 in c.first

  last_rank : (n : ℕ) → IsTrue (is_size (listed s.sizes n)) → rank_of ranks n ≤ length cx.structs
  last_rank n w =
      let is = (table_stacked s g.table).sized n w in
      let c = g.table.structs n (is.0 ∷ is.1) is.2 in
      let last : rank_of ranks n ≤ count_by has_members s.members = c.last in
      let few : count_by has_members s.members ≤ length s.members = count_by-le-length has_members s.members in
      let same : length (struct_tys s.members) ≡ length s.members = length-map s.members tys_of in
      let more : length (struct_tys s.members) ≤ length cx.structs = starts_length (struct_tys s.members) cx.structs a.into.structs in
      omega (arith, last, few, same, more)

  within_same : (r j : ℕ) → r ≤ j → (n : ℕ) → IsTrue (is_size (listed s.sizes n)) → rank_of ranks n ≤ r → slice_get (shapes_within j cx.structs) n ≡ slice_get S n
  within_same zero j le n w low = let first = first_rank n w in absurd (omega (arith, first, low))
  within_same (suc r) zero le n w low = absurd (omega (arith, le))
  within_same (suc r) (suc j) le n w low =
      let is = (table_stacked s g.table).sized n w in
      let c = g.table.structs n (is.0 ∷ is.1) is.2 in
      let T = shapes_within j cx.structs in
      some_within cx.structs n (tys_of (is.0 ∷ is.1)) (in_program n (is.0 ∷ is.1) is.2) j
      ∙ ap (λ ps. Some (in_order ps)) (map_each (shape_of T) (shape_of S) (tys_of (is.0 ∷ is.1))
      (each_with Kept (λ t. height ranks t < rank_of ranks n) (λ t. shape_of T t ≡ shape_of S t)
      (shape_below T S s.sizes ranks (rank_of ranks n) (λ k v lt. within_same r j (omega (arith, le)) k v (omega (arith, lt, low))))
      (tys_of (is.0 ∷ is.1)) (members_kept s.sizes 0 (is.0 ∷ is.1) c.members) (all_each _ (tys_of (is.0 ∷ is.1)) c.above)))
      ∙ sym (table_has s g.table n (is.0 ∷ is.1) is.2)

  program_shapes : (n : ℕ) → IsTrue (is_size (listed s.sizes n)) → slice_get cx.shapes n ≡ slice_get S n
  program_shapes n w = ap (λ l. slice_get l n) a.into.shapes ∙ within_same (rank_of ranks n) (length cx.structs) (last_rank n w) n w (omega arith)

  complete : (n : ℕ) (ms : List Member) → slice_get s.members n ≡ Some ms → IsTrue (is_size (listed s.sizes n))
  complete n ms is = complete_at s.sizes a.into.complete n (let lt = slice_get_within s.members n ms is in let same = sizes_many s g.table in omega (arith, lt, same))

  taken_many : length s.members ≡ length (take (length s.sizes) cx.shapes)
  taken_many =
      let take = length-take (length s.sizes) cx.shapes in
      let same = sizes_many s g.table in
      let shapes : length cx.shapes ≡ length cx.structs = ap length a.into.shapes ∙ length_within cx.structs (length cx.structs) refl in
      let tys : length (struct_tys s.members) ≡ length s.members = length-map s.members tys_of in
      let more : length (struct_tys s.members) ≤ length cx.structs = starts_length (struct_tys s.members) cx.structs a.into.structs in
      omega (arith, take, same, shapes, tys, more)

  pub point_shapes : so.shapes ≡ S
  point_shapes = a.shapes ∙ same_over s.members (take (length s.sizes) cx.shapes) S taken_many (sym (shapes_many s g.table))
      (λ n ms is. get_take (length s.sizes) cx.shapes n (let lt = slice_get_within s.members n ms is in let same = sizes_many s g.table in omega (arith, lt, same))
      ∙ program_shapes n (complete n ms is))

  pub point_sizes : sizes so.shapes ≡ e.structs.sizes
  point_sizes = ap sizes point_shapes ∙ sym g.table.agrees.size

  pub object_told : (ty : Ty) → is_object_by e.structs.sizes ty ≡ is_object so.shapes ty
  object_told ty = object_same so.shapes s.sizes point_sizes ty

  -- the cells of a complete type
  pub cells_told : (ty : Ty) → IsTrue (is_object_by e.structs.sizes ty) → cells e.structs.sizes ty ≡ size_of so.cx.shapes ty
  cells_told ty h = ap (λ ns. cells ns ty) (sym point_sizes) ∙ cells_at so ty (subst IsTrue (object_told ty) h)

  -- members -----------------------------------------------------------------------------------------------

  kept_object : (ty : Ty) → Kept ty → IsTrue (is_object_by s.sizes ty)
  kept_object ty h = promise_kept s.sizes a.into.complete ty h

  -- a member of this name, at its place among some
  record Found (off : ℕ) (ms : List Member) (m : Member) : Type 0 where
    ty : Ty
    typed : m.ty ≡ Some ty
    kept : Kept ty
    behind : off ≤ m.off
    at : IsTrue (member_at cx.shapes (m.off - off) ty (tys_of ms))

  found_first : (off : ℕ) (m : Member) (ms : List Member) → IsMember s.sizes off m → Found off (m ∷ ms) m
  found_first off m ms h =
      let lies = h.lies in
      let none : m.off - off ≡ 0 = omega (arith, lies) in
      record {
        ty = h.ty;
        typed = h.typed;
        kept = h.object;
        behind = omega (arith, lies);
        at = subst (λ o. IsTrue (member_at cx.shapes (m.off - off) h.ty (with_known o (tys_of ms)))) (sym h.typed)
            (or_left (m.off - off == 0 && same_ty h.ty h.ty) _ (and_both (m.off - off == 0) _ (subst (λ k. IsTrue (k == 0)) (sym none) refl) (same_self h.ty)));
      }

  found_rest : (off : ℕ) (x : Member) (ms : List Member) (m : Member) → (h : IsMember s.sizes off x) → (next : ℕ) → next ≡ off + size_of cx.shapes h.ty → Found next ms m → Found off (x ∷ ms) m
  found_rest off x ms m h next is f =
      let behind = f.behind in
      let rest : m.off - next ≡ (m.off - off) - size_of cx.shapes h.ty = omega (arith, is, behind) in
      record {
        ty = f.ty;
        typed = f.typed;
        kept = f.kept;
        behind = omega (arith, is, behind);
        at = subst (λ o. IsTrue (member_at cx.shapes (m.off - off) f.ty (with_known o (tys_of ms)))) (sym h.typed)
            (or_right (m.off - off == 0 && same_ty h.ty f.ty) _ (and_both (nat_le (size_of cx.shapes h.ty) (m.off - off)) _
            (le-leb (size_of cx.shapes h.ty) (m.off - off) (omega (arith, is, behind)))
            (subst (λ k. IsTrue (member_at cx.shapes k f.ty (tys_of ms))) rest f.at)));
      }

  abbrev next : ℕ → Member → ℕ
  next off m = min (off + part_cells s.sizes m.ty) (2 ^ 32 - 1)

  abbrev total : List Member → ℕ
  total ms = (members_shape S (member_tys ms)).size

  step : (off : ℕ) (x : Member) (ms : List Member) (h : IsMember s.sizes off x) → off + total (x ∷ ms) ≤ 2 ^ 22 → (next off x ≡ off + size_of cx.shapes h.ty) × (next off x + total ms ≤ 2 ^ 22)
  step off x ms h few =
      let part = part_told s S g.table.agrees off x h in
      let sum = sum_by-cons (λ (h : Shape). h.size) (part_shape S x.ty) (map (part_shape S) (member_tys ms)) in
      let told : part_cells s.sizes x.ty ≡ size_of cx.shapes h.ty = ap (part_cells s.sizes) h.typed ∙ cells_told h.ty (kept_object h.ty h.object) in
      (omega (arith, part, sum, told, few), omega (arith, part, sum, told, few))

  named_at : (b : Bool) (x m : Member) (rest : Option Member) → cond b (Some x) rest ≡ Some m → (b ≡ true → x ≡ m) × (b ≡ false → rest ≡ Some m)
  named_at true x m rest is = ((λ q. let one : x ≡ m = cc in one), (λ q. absurd cc))
  named_at false x m rest is = ((λ q. absurd cc), (λ q. is))

  walk : (name : ℕ) (m : Member) (ms : List Member) (off : ℕ) → AreMembers s.sizes off ms → off + total ms ≤ 2 ^ 22 → member_named name ms ≡ Some m → Found off ms m
  walk name m [] off h few is = absurd cc
  walk name m (x ∷ ms) off h few is = by (name == x.name) refl (λ named. walk name m ms (next off x) h.1 (step off x ms h.0 few).1 named)
    where
      by : (b : Bool) → (name == x.name) ≡ b → (member_named name ms ≡ Some m → Found (next off x) ms m) → Found off (x ∷ ms) m
      by true q rest = subst (λ y. Found off (x ∷ ms) y) ((named_at (name == x.name) x m (member_named name ms) is).0 q) (found_first off x ms h.0)
      by false q rest = found_rest off x ms m h.0 (next off x) (step off x ms h.0 few).0 (rest ((named_at (name == x.name) x m (member_named name ms) is).1 q))

  -- it is the struct's
  mixed_same : (n : ℕ) → IsTrue (is_size (listed s.sizes n)) → mixes s.mixed n ≡ mixed_under cx.shapes (Ptr (Struct n))
  mixed_same n w = mixed_told s S g.table.agrees n
      ∙ ap (λ o. is_mixed (struct_formed n o).shape.kinds) (sym (program_shapes n w))
      ∙ ap (λ (h : Shape). is_mixed h.kinds) (sym (struct_is cx.shapes n))
      ∙ ap (passes (λ t. is_mixed (shape_of cx.shapes t).kinds)) (sym (pointee_of (Struct n)))

  ok_at : (n off : ℕ) (ty : Ty) (ts : List Ty) → slice_get cx.structs n ≡ Some ts → IsTrue (member_at cx.shapes off ty ts) → IsTrue (member_ok cx.shapes (slice_get cx.structs n) off (Ptr ty))
  ok_at n off ty ts is h = subst (λ o. IsTrue (member_ok cx.shapes o off (Ptr ty))) (sym is)
      (subst (λ o. IsTrue (passes (λ t. member_at cx.shapes off t ts) o)) (sym (pointee_of ty)) h)

  found_told : (n : ℕ) (ms : List Member) (m : Member) → slice_get s.members n ≡ Some ms → Found 0 ms m → IsMemberOf so (Some n) (Some m) (mixes s.mixed n) × IsTrue (is_typed_member (Some m))
  found_told n ms m is f =
      let off : m.off - 0 ≡ m.off = omega arith in
      let object : IsTrue (is_object so.shapes f.ty) = subst IsTrue (object_told f.ty) (kept_object f.ty f.kept) in (
        (
          subst (λ o. IsTrue (declared_ok so (λ ty. member_ok cx.shapes (slice_get cx.structs n) m.off (Ptr ty)) o)) (sym f.typed)
              (and_both (is_object so.shapes f.ty) _ object (ok_at n m.off f.ty (tys_of ms) (in_program n ms is) (subst (λ k. IsTrue (member_at cx.shapes k f.ty (tys_of ms))) off f.at))),
          mixed_same n (complete n ms is),
        ),
        subst (λ o. IsTrue (is_typed o)) (sym f.typed) refl,
      )

  few_cells : (n : ℕ) (ms : List Member) → slice_get s.members n ≡ Some ms → AreMembers s.sizes 0 ms → 0 + total ms ≤ 2 ^ 22
  few_cells n ms is h =
      let size : listed s.sizes n ≡ total ms = size_told s g.table.agrees.size n ∙ ap (λ o. unwrap_or (option_map (λ (h : Shape). h.size) o) 0) (table_has s g.table n ms is)
      ∙ ap (λ ps. (in_order ps).size) (sym (parts_tys S s.sizes 0 ms h)) in
      let most = size_most (listed s.sizes n) (complete n ms is) in
      omega (arith, size, most)

  told_by : (n name : ℕ) (m : Member) (ms : List Member) → slice_get s.members n ≡ Some ms → IsStruct s ranks n ms → member_named name ms ≡ Some m →
      IsMemberOf so (Some n) (Some m) (mixes s.mixed n) × IsTrue (is_typed_member (Some m))
  told_by n name m [] is c named = absurd cc
  told_by n name m (x ∷ ms) is c named = found_told n (x ∷ ms) m is (walk name m (x ∷ ms) 0 c.members (few_cells n (x ∷ ms) is c.members) named)

  pub member_told : (n name : ℕ) (m : Member) → member_named name (members_of e.structs.members n) ≡ Some m →
      IsMemberOf so (Some n) (Some m) (mixes e.structs.mixed n) × IsTrue (is_typed_member (Some m))
  member_told n name m named = by (slice_get s.members n) refl
    where
      by : (o : Option (List Member)) → slice_get s.members n ≡ o → IsMemberOf so (Some n) (Some m) (mixes s.mixed n) × IsTrue (is_typed_member (Some m))
      by None is = absurd (let no : None ≡ Some m = sym (ap (λ o. member_named name (unwrap_or o [])) is) ∙ named in cc)
      by (Some ms) is = told_by n name m ms is (g.table.structs n ms is) (sym (ap (λ o. member_named name (unwrap_or o [])) is) ∙ named)
