-- Touches that do not conflict can be exchanged, whatever the memory and the recorded answers.
use Rattle.std.specs.Prelude.{Option, Some, None, IsTrue, slice_get, slice_set}
use Rattle.std.specs.Option.{option_map}
use Rattle.std.specs.FinMap.{get}
use Rattle.std.proofs.Common.{◌≡◌, ◌≢◌, ℕ, zero, suc, List, [], ◌∷◌, Bool, true, false, cond, refl, ap, sym, ◌∙◌, eqb, ◌⊎◌, inl, inr}
use Rattle.std.proofs.lemmas.Bool.Decides.{eqb_tells}
use Rattle.xc_commute_histories.specs.History.{after, Is}
use Rattle.xc_commute_histories.specs.Runs.{Indep}
use Rattle.xc_commute_histories.proofs.Places.{different, different_both, KeepsAll, reads_commute}
use Rattle.xc_word.specs.declared.memory.Cell.{Cell}
use Rattle.xc_word.specs.declared.memory.Place.{Place}
use Rattle.xc_word.specs.declared.memory.Access.{Access}
use Rattle.xc_word.specs.declared.memory.Kind.{Kind}
use Rattle.xc_word.specs.declared.memory.Kind.TheVariants.{ReadXx, ReadFe, ReadFf, WriteXf, WriteEf, WriteFf, Purge, Add}
use Rattle.xc_word.specs.Cells.{Segments}
use Rattle.xc_word.specs.Table.{on_cell}
use Rattle.xc_word.proofs.Maps.{assign, get-assign_other, assign-get, assign_turned}
use Rattle.xc_commute.specs.Touch.{Touch, On, NewSegment, FreeSegment, answering, touched, is_read, IsRead, Conflict}
use Rattle.xc_commute.proofs.Segments.{Row, at_segment, same_segment, same_segment_both, rows, rows_both, segment_of, on_answer, on_row, touched_is}

-- a read leaves its cell
one_answer : (answer : ℕ) (c : Cell) → (answering answer (Some (Some (c.value, c))) ≡ None) ⊎ (answering answer (Some (Some (c.value, c))) ≡ Some c)
one_answer answer c = elim (eqb c.value answer) as (λ b. (cond b (Some c) None ≡ None) ⊎ (cond b (Some c) None ≡ Some c)) [ true ↦ inr refl | false ↦ inl refl ]

read_cell : (k : Kind) (v answer : ℕ) (c : Cell) → IsTrue (is_read k) → (answering answer (Some (on_cell k v c)) ≡ None) ⊎ (answering answer (Some (on_cell k v c)) ≡ Some c)
read_cell ReadXx v answer c r = one_answer answer c
read_cell ReadFf v answer c r = elim c.full as (λ b. (answering answer (Some (cond b (Some (c.value, c)) None)) ≡ None) ⊎ (answering answer (Some (cond b (Some (c.value, c)) None)) ≡ Some c)) [ true ↦ one_answer answer c | false ↦ inl refl ]
read_cell ReadFe v answer c r = absurd cc
read_cell WriteXf v answer c r = absurd cc
read_cell WriteEf v answer c r = absurd cc
read_cell WriteFf v answer c r = absurd cc
read_cell Purge v answer c r = absurd cc
read_cell Add v answer c r = absurd cc

-- the cells of a list with one put where it is
set-get : (cells : List Cell) (i : ℕ) (c : Cell) → slice_get cells i ≡ Some c → slice_set cells i c ≡ cells
set-get [] i c e = refl
set-get (x ∷ xs) zero c e = let z : c ≡ x = cc in ap (λ y. y ∷ xs) z
set-get (x ∷ xs) (suc i) c e = ap (λ l. x ∷ l) (set-get xs i c e)

module _ (act : Access) (answer : ℕ) (r : IsTrue (is_read act.kind)) where
  KeepsRow : (Row → Option Row) → Row → Type 0
  KeepsRow f row = (f row ≡ None) ⊎ (f row ≡ Some row)

  read_row : (row : Row) → (on_row (On act) answer row ≡ None) ⊎ (on_row (On act) answer row ≡ Some row)
  read_row None = inl refl
  read_row (Some cells) = by_cell (slice_get cells act.place.off) refl where
    by_cell : (o : Option Cell) → slice_get cells act.place.off ≡ o →
        (option_map Some (option_map (slice_set cells act.place.off) (on_answer act answer o)) ≡ None) ⊎ (option_map Some (option_map (slice_set cells act.place.off) (on_answer act answer o)) ≡ Some (Some cells))
    by_cell None e = inl refl
    by_cell (Some c) e =
        elim (read_cell act.kind act.value answer c r) as (λ _. (option_map Some (option_map (slice_set cells act.place.off) (on_answer act answer (Some c))) ≡ None) ⊎ (option_map Some (option_map (slice_set cells act.place.off) (on_answer act answer (Some c))) ≡ Some (Some cells))) [
          | inl h ↦ inl (rw h refl)
          | inr h ↦ inr (rw h (ap (λ l. Some (Some l)) (set-get cells act.place.off c e)))
        ]

  read_keeps : (m : Segments) → (at_segment act.place.seg (on_row (On act) answer) m ≡ None) ⊎ (at_segment act.place.seg (on_row (On act) answer) m ≡ Some m)
  read_keeps m =
      elim (read_row (get m act.place.seg)) as (λ _. (option_map (assign m act.place.seg) (on_row (On act) answer (get m act.place.seg)) ≡ None) ⊎ (option_map (assign m act.place.seg) (on_row (On act) answer (get m act.place.seg)) ≡ Some m)) [
        | inl h ↦ inl (ap (option_map (assign m act.place.seg)) h)
        | inr h ↦ inr (ap (option_map (assign m act.place.seg)) h ∙ ap Some (assign-get m act.place.seg (get m act.place.seg) refl))
      ]

keeps : (t : Touch) (answer : ℕ) → IsRead t → KeepsAll touched (t, answer)
keeps (On act) answer r m = let e = touched_is (On act) answer m in
    elim (read_keeps act answer r m) as (λ _. (touched (On act, answer) m ≡ None) ⊎ (touched (On act, answer) m ≡ Some m)) [ inl h ↦ inl (e ∙ h) | inr h ↦ inr (e ∙ h) ]
keeps (NewSegment seg cells) answer r m = absurd r
keeps (FreeSegment seg) answer r m = absurd r

-- from the changes of segments to the touches
module _ (a b : Touch) (x y : ℕ) where
  over : (o : Option Segments) → after (touched (b, y)) o ≡ after (at_segment (segment_of b) (on_row b y)) o
  over None = refl
  over (Some m) = touched_is b y m

  both_over : (m : Segments) → after (touched (b, y)) (touched (a, x) m) ≡ after (at_segment (segment_of b) (on_row b y)) (at_segment (segment_of a) (on_row a x) m)
  both_over m = over (touched (a, x) m) ∙ ap (after (at_segment (segment_of b) (on_row b y))) (touched_is a x m)

abbrev pub SegmentsApart : Touch → Touch → ℕ → ℕ → Type 0
SegmentsApart a b x y = ((m : Segments) → after (at_segment (segment_of a) (on_row a x)) (at_segment (segment_of b) (on_row b y) m) ≡ after (at_segment (segment_of b) (on_row b y)) (at_segment (segment_of a) (on_row a x) m))
    × ((m : Segments) → Is (at_segment (segment_of b) (on_row b y) m) → Is (at_segment (segment_of a) (on_row a x) m) → Is (after (at_segment (segment_of a) (on_row a x)) (at_segment (segment_of b) (on_row b y) m)))

lifted : (a b : Touch) (x y : ℕ) → SegmentsApart a b x y → Indep touched (a, x) (b, y)
lifted a b x y s = (
  λ m. both_over b a y x m ∙ s.0 m ∙ sym (both_over a b x y m),
  λ m da db. Is-along (sym (both_over b a y x m)) (s.1 m (Is-along (touched_is b y m) db) (Is-along (touched_is a x m) da)),
) where
  Is-along : {M : Type 0} → {o p : Option M} → o ≡ p → Is o → Is p
  Is-along e d = (d.0, sym e ∙ d.1)

-- of different segments
other_segments : (a b : Touch) (x y : ℕ) → segment_of a ≢ segment_of b → SegmentsApart a b x y
other_segments a b x y ne = (
  λ m. different get assign get-assign_other assign_turned (segment_of b) (segment_of a) (on_row b y) (on_row a x) (λ e. ne (sym e)) m,
  λ m. different_both get assign get-assign_other assign_turned (segment_of b) (segment_of a) (on_row b y) (on_row a x) (λ e. ne (sym e)) m,
)

-- of different cells of one segment
other_cells : (a b : Access) (x y : ℕ) → a.place.seg ≡ b.place.seg → a.place.off ≢ b.place.off → SegmentsApart (On a) (On b) x y
other_cells a b x y e ne =
    let ne' : b.place.off ≢ a.place.off = λ f. ne (sym f) in
    rw e (
      same_segment b.place.seg (on_row (On b) y) (on_row (On a) x) (rows b.place.off a.place.off (on_answer b y) (on_answer a x) ne'),
      same_segment_both b.place.seg (on_row (On b) y) (on_row (On a) x) (rows_both b.place.off a.place.off (on_answer b y) (on_answer a x) ne'),
    )

same_place : (p q : Place) → p.seg ≡ q.seg → p.off ≡ q.off → p ≡ q
same_place p q e f = λ i. record { seg = e i; off = f i }

both_true : (p q : Bool) → ((¬ ((p ≡ true) × (q ≡ true))) → ⊥) → (p ≡ true) × (q ≡ true)
both_true true true n = (refl, refl)
both_true true false n = absurd (n (λ r. (let z : false ≡ true = r.1 in cc)))
both_true false q n = absurd (n (λ r. (let z : false ≡ true = r.0 in cc)))

-- two accesses to one cell are both reads
both_read : (a b : Access) → (¬ Conflict (On a) (On b)) → a.place ≡ b.place → IsRead (On a) × IsRead (On b)
both_read a b n e = both_true (is_read a.kind) (is_read b.kind) (λ w. n ((a.place, refl, sym e), w))

-- of one segment: only accesses to different cells, or reads, do not conflict
one_segment : (a b : Touch) (x y : ℕ) → (¬ Conflict a b) → segment_of a ≡ segment_of b → Indep touched (a, x) (b, y)
one_segment (On a) (On b) x y n e =
    elim (eqb_tells a.place.off b.place.off) as (λ _. Indep touched (On a, x) (On b, y)) [
      | inl h ↦ (let r = both_read a b n (same_place a.place b.place e h.1) in reads_commute touched (On a, x) (On b, y) (keeps (On a) x r.0) (keeps (On b) y r.1))
      | inr h ↦ lifted (On a) (On b) x y (other_cells a b x y e h.1)
    ]
one_segment (On a) (NewSegment seg cells) x y n e = absurd (n ((a.place, refl, sym e), λ r. r.1))
one_segment (On a) (FreeSegment seg) x y n e = absurd (n ((a.place, refl, sym e), λ r. r.1))
one_segment (NewSegment seg cells) (On b) x y n e = absurd (n ((b.place, e, refl), λ r. r.0))
one_segment (FreeSegment seg) (On b) x y n e = absurd (n ((b.place, e, refl), λ r. r.0))
one_segment (NewSegment seg cells) (NewSegment other more) x y n e = absurd (n ((record { seg = seg; off = 0 }, refl, sym e), λ r. r.0))
one_segment (NewSegment seg cells) (FreeSegment other) x y n e = absurd (n ((record { seg = seg; off = 0 }, refl, sym e), λ r. r.0))
one_segment (FreeSegment seg) (NewSegment other more) x y n e = absurd (n ((record { seg = seg; off = 0 }, refl, sym e), λ r. r.0))
one_segment (FreeSegment seg) (FreeSegment other) x y n e = absurd (n ((record { seg = seg; off = 0 }, refl, sym e), λ r. r.0))

-- what does not conflict can be exchanged
pub independent : (a b : Touch) (x y : ℕ) → (¬ Conflict a b) → Indep touched (a, x) (b, y)
independent a b x y n =
    elim (eqb_tells (segment_of a) (segment_of b)) as (λ _. Indep touched (a, x) (b, y)) [
      | inl h ↦ one_segment a b x y n h.1
      | inr h ↦ lifted a b x y (other_segments a b x y h.1)
    ]
