-- A map of vectors, seen as a finite map of lists.
use Rattle.std.proofs.Common.{◌≡◌, ℕ, Bool, true, false, cond, List, [], ◌∷◌, map, Option, Some, None, refl, sym, ap, ◌∙◌}
use Rattle.std.specs.Prelude.{is_some, IfNone, replicate, slice_get}
use Rattle.std.specs.Global.{Vec}
use Rattle.std.specs.Option.{option_map, option_and_then}
use Rattle.std.specs.Ordering.{nat_cmp}
use Rattle.std.specs.Cmp.{nat_cmp_total, eq_by_cmp_equiv}
use Rattle.std.specs.Map.{lookup}
use Rattle.std.specs.BTreeMap.{BTreeMap, is_at}
use Rattle.std.specs.BTreeMap as tree
use Rattle.std.specs.FinMap.{find, get, insert, remove, from_entries, get-from_entries, get-insert, get-remove, same_map}
use Rattle.std.proofs.lemmas.Map.Lookups.{exact_unsigned}
use Rattle.xc_word.specs.declared.memory.Cell.{Cell}
use Rattle.xc_word.specs.declared.memory.Place.{Place}
use Rattle.xc_word.specs.declared.memory.Access.{Access}
use Rattle.xc_word.specs.Cells.{Segments, cell_at, put_in, fresh}
use Rattle.xc_word.specs.Table.{on_cell, outcome, left_by}
use Rattle.xc_word.specs.InnerTable.{outcome_in, cells_left}
use Rattle.xc_word.proofs.Maps.{assign-get}

abbrev pub items_of : List (ℕ × Vec Cell) → List (ℕ × List Cell)
items_of es = map (λ e. (e.0, e.1.items)) es

abbrev pub seen : BTreeMap ℕ (Vec Cell) → Segments
seen m = from_entries (items_of m.entries)

abbrev pub items_at : Option (Vec Cell) → Option (List Cell)
items_at o = option_map (λ v. v.items) o

pushed : (b : Bool) (v : Vec Cell) (o : Option (Vec Cell)) → cond b (Some v.items) (items_at o) ≡ items_at (cond b (Some v) o)
pushed true v o = refl
pushed false v o = refl

find_items : (es : List (ℕ × Vec Cell)) (q : ℕ) → find nat_cmp q (items_of es) ≡ items_at (lookup (is_at (nat_cmp q)) es)
find_items [] q = refl
find_items (e ∷ es) q = ap (cond (is_at (nat_cmp q) e.0) (Some e.1.items)) (find_items es q) ∙ pushed (is_at (nat_cmp q) e.0) e.1 (lookup (is_at (nat_cmp q)) es)

pub get_seen : (m : BTreeMap ℕ (Vec Cell)) (q : ℕ) → get (seen m) q ≡ items_at (tree.get nat_cmp m q)
get_seen m q = get-from_entries nat_cmp_total (items_of m.entries) q ∙ find_items m.entries q

-- a map with one more or another vector at s
pub insert_seen : (m n : BTreeMap ℕ (Vec Cell)) (s : ℕ) (v : Vec Cell) → ((q : ℕ) → tree.get nat_cmp n q ≡ cond (is_at (nat_cmp s) q) (Some v) (tree.get nat_cmp m q)) → seen n ≡ insert (seen m) s v.items
insert_seen m n s v h = same_map nat_cmp_total exact_unsigned _ _ (λ q.
    get_seen n q ∙ ap items_at (h q) ∙ sym (pushed (is_at (nat_cmp s) q) v (tree.get nat_cmp m q))
    ∙ ap (λ b. cond b (Some v.items) (items_at (tree.get nat_cmp m q))) ((eq_by_cmp_equiv nat_cmp_total).symm s q)
    ∙ sym (get-insert nat_cmp_total (seen m) s v.items q ∙ ap (cond (is_at (nat_cmp q) s) (Some v.items)) (get_seen m q)))

emptied : (b : Bool) (o : Option (Vec Cell)) → items_at (cond b None o) ≡ cond b None (items_at o)
emptied true o = refl
emptied false o = refl

pub remove_seen : (m n : BTreeMap ℕ (Vec Cell)) (s : ℕ) → ((q : ℕ) → tree.get nat_cmp n q ≡ cond (is_at (nat_cmp s) q) None (tree.get nat_cmp m q)) → seen n ≡ remove (seen m) s
remove_seen m n s h = same_map nat_cmp_total exact_unsigned _ _ (λ q.
    get_seen n q ∙ ap items_at (h q) ∙ emptied (is_at (nat_cmp s) q) (tree.get nat_cmp m q)
    ∙ ap (λ b. cond b None (items_at (tree.get nat_cmp m q))) ((eq_by_cmp_equiv nat_cmp_total).symm s q)
    ∙ sym (get-remove nat_cmp_total (seen m) s q ∙ ap (cond (is_at (nat_cmp q) s) None) (get_seen m q)))

kept : (o : Option (Vec Cell)) → is_some (items_at o) ≡ is_some o
kept None = refl
kept (Some v) = refl

pub none_then : {X : Type 0} (r : Option X) (P : Type 0) → false ≡ is_some r → IfNone r P → P
none_then None P e h = h
none_then (Some x) P e h = absurd cc

-- what the methods need, of a memory that is seen as `now`

module _ (m : BTreeMap ℕ (Vec Cell)) (now : Segments) (is : seen m ≡ now) where
  pub get_now : (s : ℕ) → get now s ≡ items_at (tree.get nat_cmp m s)
  get_now s = ap (λ x. get x s) (sym is) ∙ get_seen m s

  pub cell_now_some : (p : Place) (v : Vec Cell) → tree.get nat_cmp m p.seg ≡ Some v → cell_at now p ≡ slice_get v.items p.off
  cell_now_some p v e = ap (option_and_then (λ cells. slice_get cells p.off)) (get_now p.seg ∙ ap items_at e)

  pub cell_now_none : (p : Place) → tree.get nat_cmp m p.seg ≡ None → cell_at now p ≡ None
  cell_now_none p e = ap (option_and_then (λ cells. slice_get cells p.off)) (get_now p.seg ∙ ap items_at e)

  pub insert_now : (n : BTreeMap ℕ (Vec Cell)) (s : ℕ) (v : Vec Cell) → ((q : ℕ) → tree.get nat_cmp n q ≡ cond (is_at (nat_cmp s) q) (Some v) (tree.get nat_cmp m q)) → seen n ≡ insert now s v.items
  insert_now n s v h = insert_seen m n s v h ∙ ap (λ x. insert x s v.items) is

  -- a vector of clones of a new cell
  pub added : (n : BTreeMap ℕ (Vec Cell)) (s : ℕ) (v : Vec Cell) (count : ℕ) (x : Cell) → x ≡ fresh → ((q : ℕ) → tree.get nat_cmp n q ≡ cond (is_at (nat_cmp s) q) (Some v) (tree.get nat_cmp m q)) → (((y : Cell) → y ≡ x → y ≡ x) → v.items ≡ replicate count x) → seen n ≡ insert now s (replicate count fresh)
  added n s v count x e h clones = insert_now n s v h ∙ ap (insert now s) (clones (λ y f. f) ∙ ap (replicate count) e)

  pub remove_now : (n : BTreeMap ℕ (Vec Cell)) (s : ℕ) → ((q : ℕ) → tree.get nat_cmp n q ≡ cond (is_at (nat_cmp s) q) None (tree.get nat_cmp m q)) → seen n ≡ remove now s
  remove_now n s h = remove_seen m n s h ∙ ap (λ x. remove x s) is

  -- an access to the cells of one vector
  module _ (n : BTreeMap ℕ (Vec Cell)) (act : Access) (v w : Vec Cell) (e : tree.get nat_cmp m act.place.seg ≡ Some v)
      (f : w.items ≡ cells_left v.items act.place.off (outcome_in v.items act))
      (h : (q : ℕ) → tree.get nat_cmp n q ≡ cond (is_at (nat_cmp act.place.seg) q) (Some w) (tree.get nat_cmp m q)) where
    here : get now act.place.seg ≡ Some v.items
    here = get_now act.place.seg ∙ ap items_at e

    pub outcome_now : outcome now act ≡ outcome_in v.items act
    outcome_now = ap (λ o. option_map (on_cell act.kind act.value) (option_and_then (λ cells. slice_get cells act.place.off) o)) here

    left_here : (x : Option (Option (ℕ × Cell))) → insert now act.place.seg (cells_left v.items act.place.off x) ≡ left_by now act.place x
    left_here None = assign-get now act.place.seg (Some v.items) here
    left_here (Some None) = assign-get now act.place.seg (Some v.items) here
    left_here (Some (Some x)) = sym (ap (put_in now act.place x.1) here)

    pub left_now : seen n ≡ left_by now act.place (outcome now act)
    left_now = insert_now n act.place.seg w h ∙ ap (insert now act.place.seg) f ∙ left_here (outcome_in v.items act) ∙ ap (left_by now act.place) (sym outcome_now)

  pub outcome_none : (act : Access) → tree.get nat_cmp m act.place.seg ≡ None → outcome now act ≡ None
  outcome_none act e = ap (λ o. option_map (on_cell act.kind act.value) (option_and_then (λ cells. slice_get cells act.place.off) o)) (get_now act.place.seg ∙ ap items_at e)

  pub live_now : (s : ℕ) → is_some (get now s) ≡ is_some (tree.get nat_cmp m s)
  live_now s = ap is_some (get_now s) ∙ kept (tree.get nat_cmp m s)

  pub same_now : (n : BTreeMap ℕ (Vec Cell)) → n.entries ≡ m.entries → seen n ≡ now
  same_now n e = ap (λ es. from_entries (items_of es)) e ∙ is
