-- Tables of structs, and what is laid out over them.
use Rattle.std.proofs.Common.{◌≡◌, ℕ, zero, suc, ◌<◌, List, [], ◌∷◌, ◌++◌, length, map, refl, sym, ap, ◌∙◌, subst, arith}
use Rattle.std.specs.Prelude.{IsTrue, is_some, is_none, if◌then◌else◌, Option, Some, None, slice_get, option_map, unwrap_or}
use Rattle.std.proofs.lemmas.List.{map-append, length-map}
use Rattle.std.proofs.lemmas.Option.{slice_get-map, slice_get_within}
use Rattle.xc_tree.specs.declared.ty.Ty.{Ty}
use Rattle.xc_tree.specs.Types.{Shape, is_size, in_order, shape_of, sizes, shapes_within}
use Rattle.xc_type_rule.specs.declared.found.Member.{Member}
use Rattle.xc_type_rule.specs.Cells.{listed}
use Rattle.xc_type_rule.specs.Members.{member_named}
use Rattle.xc_type_structs.specs.declared.structs.Structs.{Structs}
use Rattle.xc_type_structs.specs.declared.structs.Layout.{Layout}
use Rattle.xc_type_structs.specs.Table as table
use Rattle.xc_type_structs.specs.Agree.{Agrees, Lays, members_shape}
use Rattle.xc_type_structs.proofs.Table.{agrees_none, lays_nothing, lays_with}
use Rattle.xc_welltyped_claims.specs.Ranks.{next_level}
use Rattle.xc_welltyped_claims.proofs.RankLevels.{none_within, some_within}
use Rattle.xc_welltyped_claims.specs.Types.{will_be_object}
use Rattle.xc_welltyped_claims.specs.Table.{tys_of, struct_tys, table_shapes, AreMembers, IsTable, IsLaid, Grows}
use Rattle.xc_welltyped_claims.proofs.Lists.{starts_get, starts_length}
use Rattle.xc_welltyped_structs.proofs.Promises.{listed_left}
use Rattle.xc_welltyped_structs.proofs.Ranked.{AreStacked, stacked_level, has_level, sized_same}
use Rattle.xc_welltyped_structs.proofs.Members.{member_tys, parts_tys, members_go, members_with, end_of, end_is}
use Rattle.xc_welltyped_structs.proofs.Going.{tys_same}

-- an open struct has no cells ------------------------------------------------------------------

module _ (structs : List (List Ty)) (n : ℕ) (e : slice_get structs n ≡ Some []) where
  open_within : (j : ℕ) → j ≡ length structs → slice_get (shapes_within j structs) n ≡ Some (in_order [])
  open_within zero is = let lt : n < length structs = slice_get_within structs n [] e in absurd (omega (arith, is, lt))
  open_within (suc j) is = some_within structs n [] e j

pub size_told : (s : Structs) → s.sizes ≡ sizes (table_shapes s) → (n : ℕ) → listed s.sizes n ≡ unwrap_or (option_map (λ h. h.size) (slice_get (table_shapes s) n)) 0
size_told s e n = ap (λ l. listed l n) e ∙ ap (λ o. unwrap_or o 0) (slice_get-map (λ h. h.size) (table_shapes s) n)

tys_at : (s : Structs) (n : ℕ) (o : Option (List Member)) → slice_get s.members n ≡ o → slice_get (struct_tys s.members) n ≡ option_map tys_of o
tys_at s n o e = slice_get-map tys_of s.members n ∙ ap (option_map tys_of) e

pub level_many : (s : Structs) → table_shapes s ≡ next_level (struct_tys s.members) (table_shapes s) → length (table_shapes s) ≡ length s.members
level_many s e = ap length e ∙ length-map (struct_tys s.members) (λ tys. in_order (map (shape_of (table_shapes s)) tys)) ∙ length-map s.members tys_of

module _ (s : Structs) (h : IsTable s) where
  pub open_size : (n : ℕ) → slice_get s.members n ≡ Some [] → listed s.sizes n ≡ 0
  open_size n e = size_told s h.agrees.size n ∙ ap (λ o. unwrap_or (option_map (λ (x : Shape). x.size) o) 0)
      (open_within (struct_tys s.members) n (tys_at s n (Some []) e) (length (struct_tys s.members)) refl)

  none_size : (n : ℕ) → slice_get s.members n ≡ None → listed s.sizes n ≡ 0
  none_size n e = size_told s h.agrees.size n ∙ ap (λ o. unwrap_or (option_map (λ (x : Shape). x.size) o) 0)
      (none_within (struct_tys s.members) n (tys_at s n None e) (length (struct_tys s.members)))

  no_size : (A : Type 0) (n : ℕ) → listed s.sizes n ≡ 0 → IsTrue (is_size (listed s.sizes n)) → A
  no_size A n e w = let bad : IsTrue (is_size 0) = subst (λ k. IsTrue (is_size k)) e w in absurd cc

  pub table_stacked : AreStacked s h.ranks
  table_stacked = record { many = h.many; structs = h.structs; sized = λ n w. by n w (slice_get s.members n) refl }
    where
      by : (n : ℕ) → IsTrue (is_size (listed s.sizes n)) → (o : Option (List Member)) → slice_get s.members n ≡ o → (m : Member) × (ms : List Member) × (slice_get s.members n ≡ Some (m ∷ ms))
      by n w None e = no_size _ n (none_size n e) w
      by n w (Some []) e = no_size _ n (open_size n e) w
      by n w (Some (m ∷ ms)) e = (m, ms, e)

  pub table_level : table_shapes s ≡ next_level (struct_tys s.members) (table_shapes s)
  table_level = stacked_level s h.ranks table_stacked

  pub table_has : (n : ℕ) (ms : List Member) → slice_get s.members n ≡ Some ms → slice_get (table_shapes s) n ≡ Some (in_order (map (shape_of (table_shapes s)) (tys_of ms)))
  table_has = has_level s.members (table_shapes s) table_level

  -- as many of all
  pub shapes_many : length (table_shapes s) ≡ length s.members
  shapes_many = level_many s table_level

  pub sizes_many : length s.sizes ≡ length s.members
  sizes_many = ap length h.agrees.size ∙ length-map (table_shapes s) (λ (x : Shape). x.size) ∙ shapes_many

-- the first table -------------------------------------------------------------------------------

no_shapes : table_shapes table.no_structs ≡ []
unfolding shapes_within
no_shapes = refl

pub table_none : IsTable table.no_structs
table_none = record {
  agrees = subst (λ l. Agrees table.no_structs l) (sym no_shapes) agrees_none;
  ranks = [];
  many = refl;
  structs = λ n ms e. absurd (let no : None ≡ Some ms = e in cc);
}

pub laid_nothing : (s : Structs) → IsTable s → IsLaid s table.nothing
laid_nothing s h = record { lays = lays_nothing (table_shapes s); members = tt }

-- more structs ------------------------------------------------------------------------------------

module _ (few more : Structs) (a : IsTable few) (b : IsTable more) (g : Grows few more) where
  -- structs that are complete keep their cells
  pub grown_shapes : (n : ℕ) → IsTrue (is_size (listed few.sizes n)) → slice_get (table_shapes few) n ≡ slice_get (table_shapes more) n
  grown_shapes = sized_same few a.ranks (table_stacked few a) (table_shapes few) (table_shapes more) (table_has few a)
      (λ n ms e. table_has more b n ms (starts_get few.members more.members g.members n ms e))

  grown_sizes : (n : ℕ) → IsTrue (is_size (listed few.sizes n)) → listed few.sizes n ≡ listed more.sizes n
  grown_sizes n w = listed_left few.sizes g.added n w ∙ ap (λ l. listed l n) (sym g.sizes)

  pub laid_grows : (l : Layout) → IsLaid few l → IsLaid more l
  laid_grows l h = record {
    lays = subst (λ ps. Lays l (in_order ps)) (parts_tys (table_shapes few) few.sizes 0 l.members h.members
        ∙ tys_same (table_shapes few) (table_shapes more) few.sizes grown_shapes l.members h.members
        ∙ sym (parts_tys (table_shapes more) few.sizes 0 l.members h.members)) h.lays;
    members = members_go few.sizes more.sizes grown_sizes (starts_length few.sizes more.sizes (g.added, g.sizes)) 0 l.members h.members;
  }

-- one more member -----------------------------------------------------------------------------------

module _ (s : Structs) (h : IsTable s) (l : Layout) (name : ℕ) (ty : Ty) (is : IsLaid s l) (kept : IsTrue (will_be_object s.sizes ty)) where
  abbrev member : Member
  member = record { name = name; off = l.size; ty = Some ty }

  added_last : (o : Option Member) → IsTrue (is_none o) → (if is_some o then l.members else l.members ++ member ∷ []) ≡ l.members ++ member ∷ []
  added_last None e = refl
  added_last (Some m) e = absurd cc

  lies : l.size ≡ end_of s.sizes 0 l.members
  lies = is.lays.size ∙ sym (end_is s (table_shapes s) h.agrees l.members is.members)

  pub laid_more : IsTrue (is_none (member_named name l.members)) → IsLaid s (table.with_member s name (Some ty) l)
  laid_more new =
      let last = added_last (member_named name l.members) new in
      record {
        lays = subst (λ ts. Lays (table.with_member s name (Some ty) l) (members_shape (table_shapes s) ts))
            (sym (ap member_tys last ∙ map-append (λ (m : Member). m.ty) l.members (member ∷ [])))
            (lays_with s (table_shapes s) h.agrees l (member_tys l.members) name (Some ty) is.lays);
        members = subst (AreMembers s.sizes 0) (sym last) (members_with s.sizes 0 l.members member is.members (record { ty = ty; typed = refl; object = kept; lies = lies }));
      }

pub laid_with : (s : Structs) → IsTable s → (l : Layout) (name : ℕ) (ty : Ty) → IsLaid s l → IsTrue (is_none (member_named name l.members)) → IsTrue (will_be_object s.sizes ty) →
    IsLaid s (table.with_member s name (Some ty) l)
laid_with s h l name ty is new kept = laid_more s h l name ty is kept new
