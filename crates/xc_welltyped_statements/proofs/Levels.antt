-- Complete structs of what is declared, and their cells in each program.
use Rattle.std.proofs.Common.{◌≡◌, ℕ, ◌+◌, ◌-◌, ◌^◌, ◌≤◌, min, List, [], ◌∷◌, length, map, refl, sym, ap, ◌∙◌, subst, arith}
use Rattle.std.specs.Prelude.{IsTrue, Some, slice_get, option_map, unwrap_or}
use Rattle.std.proofs.lemmas.List.Sums.{sum_by-cons}
use Rattle.xc_tree.specs.Types.{Shape, Formed, in_order, shape_of}
use Rattle.xc_tree.specs.Typed.{Context}
use Rattle.xc_type_rule.specs.declared.found.Member.{Member}
use Rattle.xc_type_rule.specs.Cells.{listed}
use Rattle.xc_type_rule.specs.Members.{members_of}
use Rattle.xc_type_structs.specs.declared.structs.Structs.{Structs}
use Rattle.xc_type_structs.specs.Table.{part_cells}
use Rattle.xc_type_structs.specs.Agree.{part_shape, members_shape}
use Rattle.xc_type_scopes.specs.declared.env.Env.{Env}
use Rattle.xc_type_expressions.specs.declared.text.Text.{Text}
use Rattle.xc_welltyped.specs.Sound.{Point}
use Rattle.xc_welltyped.proofs.Points.{formed_grows}
use Rattle.xc_welltyped_claims.specs.Types.{will_be_object}
use Rattle.xc_welltyped_claims.specs.Table.{tys_of, table_shapes, AreMembers, IsTable}
use Rattle.xc_welltyped_claims.specs.Env.{Good, Into, At}
use Rattle.xc_welltyped_claims.proofs.Lists.{each_more, get_taken}
use Rattle.xc_welltyped_claims.proofs.Env.{point, at_point}
use Rattle.xc_welltyped_structs.proofs.Lists.{map_each}
use Rattle.xc_welltyped_structs.proofs.Scalars.{size_most}
use Rattle.xc_welltyped_structs.proofs.Promises.{promise_kept}
use Rattle.xc_welltyped_structs.proofs.Ranked.{members_kept}
use Rattle.xc_welltyped_structs.proofs.Members.{member_tys, parts_tys, part_told}
use Rattle.xc_welltyped_structs.proofs.Tables.{size_told, table_stacked, table_has}
use Rattle.xc_welltyped_structs.proofs.Programs.{point_shapes, object_told}
use Rattle.xc_welltyped_statements.proofs.Members.{cells_in}
use Rattle.xc_welltyped_statements.proofs.Parts.{StructsTold}

module _ (s : Structs) (table : IsTable s) where
  abbrev S : List Shape
  S = table_shapes s

  abbrev total : List Member → ℕ
  total ms = (members_shape S (member_tys ms)).size

  -- no count is cut
  sum_is : (off : ℕ) (ms : List Member) → AreMembers s.sizes off ms → total ms ≤ 2 ^ 22 → cells_in s.sizes ms ≡ total ms
  sum_is off [] h few = refl
  sum_is off (m ∷ ms) h few =
      let part = part_told s S table.agrees off m h.0 in
      let sum = sum_by-cons (λ (h : Shape). h.size) (part_shape S m.ty) (map (part_shape S) (member_tys ms)) in
      let rest = sum_is (min (off + part_cells s.sizes m.ty) (2 ^ 32 - 1)) ms h.1 (omega (arith, sum, few)) in
      omega (arith, part, sum, few, rest)

  size_is : (n : ℕ) (ms : List Member) → slice_get s.members n ≡ Some ms → AreMembers s.sizes 0 ms → listed s.sizes n ≡ total ms
  size_is n ms is h = size_told s table.agrees.size n ∙ ap (λ o. unwrap_or (option_map (λ (h : Shape). h.size) o) 0) (table_has s table n ms is)
      ∙ ap (λ ps. (in_order ps).size) (sym (parts_tys S s.sizes 0 ms h))

module _ (t : Text) (e : Env) (good : Good e) (n : ℕ) (ms : List Member) (is : slice_get e.structs.members n ≡ Some ms) (laid : AreMembers e.structs.sizes 0 ms) where
  pub program_shape : (cx : Context) → Into t cx e → slice_get cx.shapes n ≡ Some (in_order (map (shape_of cx.shapes) (tys_of ms)))
  program_shape cx i =
      let so : Point = point cx e in
      let a : At t so e = at_point t cx e i in
      let here = subst (λ T. slice_get T n ≡ Some (in_order (map (shape_of T) (tys_of ms)))) (sym (point_shapes t so e good a)) (table_has e.structs good.table n ms is) in
      get_taken (length e.structs.sizes) cx.shapes n (in_order (map (shape_of so.shapes) (tys_of ms))) here
      ∙ ap (λ ps. Some (in_order ps)) (map_each (shape_of so.shapes) (shape_of cx.shapes) (tys_of ms)
      (each_more (λ ty. IsTrue (will_be_object e.structs.sizes ty)) (λ ty. shape_of so.shapes ty ≡ shape_of cx.shapes ty)
      (λ ty h. ap (λ (f : Formed). f.shape) (formed_grows so.shapes cx.shapes so.grows ty (subst IsTrue (object_told t so e good a ty) (promise_kept e.structs.sizes i.complete ty h))))
      (tys_of ms) (members_kept e.structs.sizes 0 ms laid)))

pub structs_told : (t : Text) → StructsTold t
structs_told t e good n w =
    let is = (table_stacked e.structs good.table).sized n w in
    let ms : List Member = is.0 ∷ is.1 in
    let c = good.table.structs n (is.0 ∷ is.1) is.2 in
    let same : members_of e.structs.members n ≡ ms = ap (λ o. unwrap_or o []) is.2 in
    let laid : AreMembers e.structs.sizes 0 ms = c.members in
    let size = size_is e.structs good.table n ms is.2 laid in
    let most = size_most (listed e.structs.sizes n) w in
    let sum = sum_is e.structs good.table 0 ms laid (omega (arith, size, most)) in
    record {
      is = is.2 ∙ ap Some (sym same);
      laid = subst (AreMembers e.structs.sizes 0) (sym same) laid;
      size = subst (λ l. listed e.structs.sizes n ≡ cells_in e.structs.sizes l) (sym same) (size ∙ sym sum);
      shape = λ cx i. subst (λ l. slice_get cx.shapes n ≡ Some (in_order (map (shape_of cx.shapes) (tys_of l)))) (sym same) (program_shape t e good n ms is.2 laid cx i);
    }
