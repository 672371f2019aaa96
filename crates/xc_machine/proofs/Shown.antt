-- What a change of the memory shows.
use Rattle.std.proofs.Common.{◌≡◌, ℕ, zero, suc, ◌*◌, ◌^◌, List, [], ◌∷◌, length, Option, Some, None, refl, sym, ap, ◌∙◌, subst, arith}
use mathlib.Core.Path.{fun_ext}
use Rattle.std.specs.Prelude.{slice_get, slice_set, replicate, unwrap_or}
use Rattle.std.specs.Option.{option_map, option_and_then}
use Rattle.std.specs.FinMap.{get, insert, remove}
use Rattle.xc_word.specs.declared.memory.Access.{Access}
use Rattle.xc_word.specs.declared.memory.Place.{Place}
use Rattle.xc_word.specs.declared.memory.Cell.{Cell}
use Rattle.xc_word.specs.Cells.{Segments, put_in, fresh}
use Rattle.xc_word.specs.Table.{on_cell, outcome, answer_of, left_by}
use Rattle.xc_word.proofs.Maps.{assign, get-assign_same, get-assign_other}
use Rattle.xc_meaning_world.specs.World.{Reach, New, Free, On, Got, Dead, put, left_in, reached, freed, put_back, with_out, serve}
use Rattle.xc_meaning_world.proofs.Puts.{by_same, put_at, put_other, put_same}
use Rattle.xc_machine.specs.Shows.{segs_in, world_in}
use Rattle.xc_machine.specs.InnerStores.{Serves}

pub segs_assign : (m : Segments) (s : ℕ) (o : Option (List Cell)) → segs_in (assign m s o) ≡ put (segs_in m) s (unwrap_or o [])
segs_assign m s o = fun_ext (λ q. by_same (segs_in (assign m s o) q ≡ put (segs_in m) s (unwrap_or o []) q) q s
    (λ e. ap (segs_in (assign m s o)) e ∙ ap (λ u. unwrap_or u []) (get-assign_same m s o) ∙ sym (ap (put (segs_in m) s (unwrap_or o [])) e ∙ put_at (segs_in m) s (unwrap_or o [])))
    (λ ne. ap (λ u. unwrap_or u []) (get-assign_other m s o q (λ e. ne (sym e))) ∙ sym (put_other (segs_in m) s q (unwrap_or o []) ne)))

cell_in : (o : Option (List Cell)) (off : ℕ) → option_and_then (λ cells. slice_get cells off) o ≡ slice_get (unwrap_or o []) off
cell_in None off = refl
cell_in (Some cells) off = refl

pub segs_put : (m : Segments) (p : Place) (c : Cell) (o : Option (List Cell)) → get m p.seg ≡ o → segs_in (put_in m p c o) ≡ put (segs_in m) p.seg (slice_set (segs_in m p.seg) p.off c)
segs_put m p c None e =
    let none : segs_in m p.seg ≡ [] = ap (λ u. unwrap_or u []) e in
    sym (put_same (segs_in m) p.seg (slice_set (segs_in m p.seg) p.off c) (none ∙ ap (λ xs. slice_set xs p.off c) (sym none)))
segs_put m p c (Some cells) e = segs_assign m p.seg (Some (slice_set cells p.off c)) ∙ ap (λ u. put (segs_in m) p.seg (slice_set (unwrap_or u []) p.off c)) (sym e)

-- an access of the memory is the definition's
pub access_served : (m : Segments) (out : List ℕ) (act : Access) → Serves (answer_of (outcome m act)) (world_in m out) (world_in (left_by m act.place (outcome m act)) out) (serve (On (Reach act)) 0 (world_in m out))
access_served m out act = by_cell (slice_get (segs_in m act.place.seg) act.place.off) refl
  where
    At : Option (Option (ℕ × Cell)) → Type 0
    At o = Serves (answer_of o) (world_in m out) (world_in (left_by m act.place o) out) (serve (On (Reach act)) 0 (world_in m out))

    by_table : (c : Cell) → slice_get (segs_in m act.place.seg) act.place.off ≡ Some c → (o : Option (ℕ × Cell)) → on_cell act.kind act.value c ≡ o → At (Some o)
    by_table c e None f = (
      ap (λ u. with_out (put_back (reached u act (segs_in m act.place.seg)) act.place.seg (segs_in m)) out) e
          ∙ ap (λ u. with_out (put_back (left_in u act.place.off (segs_in m act.place.seg)) act.place.seg (segs_in m)) out) f,
      refl,
    )
    by_table c e (Some x) f =
        ap (λ u. with_out (put_back (reached u act (segs_in m act.place.seg)) act.place.seg (segs_in m)) out) e
        ∙ ap (λ u. with_out (put_back (left_in u act.place.off (segs_in m act.place.seg)) act.place.seg (segs_in m)) out) f
        ∙ ap (λ s. Some (Got x.0, record { segs = s; out = out })) (sym (segs_put m act.place x.1 (get m act.place.seg) refl))

    by_cell : (c : Option Cell) → slice_get (segs_in m act.place.seg) act.place.off ≡ c → At (outcome m act)
    by_cell None e =
        let none : outcome m act ≡ None = ap (option_map (on_cell act.kind act.value)) (cell_in (get m act.place.seg) act.place.off ∙ e) in
        subst At (sym none) (
          ap (λ u. with_out (put_back (reached u act (segs_in m act.place.seg)) act.place.seg (segs_in m)) out) e
              ∙ ap (λ s. Some (Dead, record { segs = s; out = out })) (put_same (segs_in m) act.place.seg (segs_in m act.place.seg) refl),
          refl,
        )
    by_cell (Some c) e =
        let some : outcome m act ≡ Some (on_cell act.kind act.value c) = ap (option_map (on_cell act.kind act.value)) (cell_in (get m act.place.seg) act.place.off ∙ e) in
        subst At (sym some) (by_table c e (on_cell act.kind act.value c) refl)

-- a new segment
pub new_served : (m : Segments) (out : List ℕ) (n num : ℕ) → (n ≡ 0 → ⊥) → serve (On (New n)) num (world_in m out) ≡ Some (Got (num * 2 ^ 32), world_in (insert m num (replicate n fresh)) out)
new_served m out zero num ne = absurd (ne refl)
new_served m out (suc n) num ne = ap (λ s. Some (Got (num * 2 ^ 32), record { segs = s; out = out })) (sym (segs_assign m num (Some (replicate (suc n) fresh))))

-- the end of a segment, which is live where it has cells
pub free_served : (m : Segments) (out : List ℕ) (g : ℕ) → (length (segs_in m g) ≡ 0 → ⊥) → serve (On (Free g)) 0 (world_in m out) ≡ Some (Got 0, world_in (remove m g) out)
free_served m out g some = at (segs_in m g) refl
  where
    at : (xs : List Cell) → segs_in m g ≡ xs → serve (On (Free g)) 0 (world_in m out) ≡ Some (Got 0, world_in (remove m g) out)
    at [] f = absurd (some (ap length f))
    at (x ∷ xs) f = ap (λ ys. with_out (put_back (freed ys) g (segs_in m)) out) f ∙ ap (λ s. Some (Got 0, record { segs = s; out = out })) (sym (segs_assign m g None))

pub free_dead : (m : Segments) (out : List ℕ) (g : ℕ) → length (segs_in m g) ≡ 0 → serve (On (Free g)) 0 (world_in m out) ≡ Some (Dead, world_in m out)
free_dead m out g none = at (segs_in m g) refl
  where
    at : (xs : List Cell) → segs_in m g ≡ xs → serve (On (Free g)) 0 (world_in m out) ≡ Some (Dead, world_in m out)
    at [] f = ap (λ ys. with_out (put_back (freed ys) g (segs_in m)) out) f ∙ ap (λ s. Some (Dead, record { segs = s; out = out })) (put_same (segs_in m) g [] f)
    at (x ∷ xs) f = absurd (omega (arith, none, ap length f))
