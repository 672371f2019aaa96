-- Touches as changes of one segment, and accesses as changes of one cell of it.
use Rattle.std.specs.Prelude.{Option, Some, None, slice_get, slice_set, replicate, is_some, if◌then◌else◌}
use Rattle.std.specs.Option.{option_map, option_and_then}
use Rattle.std.specs.FinMap.{get, insert, remove}
use Rattle.std.proofs.Common.{◌≡◌, ◌≢◌, ℕ, zero, suc, List, [], ◌∷◌, refl, ap, sym, ◌∙◌}
use Rattle.xc_commute_histories.specs.History.{after, Is}
use Rattle.xc_commute_histories.proofs.Places.{at_place, different, different_both}
use Rattle.xc_word.specs.declared.memory.Cell.{Cell}
use Rattle.xc_word.specs.declared.memory.Access.{Access}
use Rattle.xc_word.specs.Cells.{Segments, put_in, fresh}
use Rattle.xc_word.specs.Table.{on_cell}
use Rattle.xc_word.proofs.Maps.{assign, get-assign_same, assign-assign}
use Rattle.xc_commute.specs.Touch.{Touch, On, NewSegment, FreeSegment, answering, touched}

abbrev pub Row : Type 0
Row = Option (List Cell)

-- a change of one segment; none where it cannot be
abbrev pub at_segment : ℕ → (Row → Option Row) → Segments → Option Segments
at_segment s f m = at_place get assign s f m

-- two changes of one segment, one after the other
after_same : (m : Segments) (s : ℕ) (f g : Row → Option Row) (x : Option Row) → after (at_segment s g) (option_map (assign m s) x) ≡ option_map (assign m s) (after g x)
after_same m s f g None = refl
after_same m s f g (Some r) = rw (get-assign_same m s r) (twice (g r)) where
  twice : (y : Option Row) → option_map (assign (assign m s r) s) y ≡ option_map (assign m s) y
  twice None = refl
  twice (Some q) = ap Some (assign-assign m s r q)

Is-assign : (m : Segments) (s : ℕ) (x : Option Row) → Is (option_map (assign m s) x) → Is x
Is-assign m s None d = absurd (let z : None ≡ Some d.0 = d.1 in cc)
Is-assign m s (Some r) d = (r, refl)

Is-map : (m : Segments) (s : ℕ) (x : Option Row) → Is x → Is (option_map (assign m s) x)
Is-map m s None d = absurd (let z : None ≡ Some d.0 = d.1 in cc)
Is-map m s (Some r) d = (assign m s r, refl)

-- changes of one segment commute where they commute on what it holds
module _ (s : ℕ) (f g : Row → Option Row) where
  pub same_segment : ((r : Row) → after g (f r) ≡ after f (g r)) → (m : Segments) → after (at_segment s g) (at_segment s f m) ≡ after (at_segment s f) (at_segment s g m)
  same_segment e m =
      after_same m s f g (f (get m s)) ∙ ap (option_map (assign m s)) (e (get m s)) ∙ sym (after_same m s g f (g (get m s)))

  pub same_segment_both : ((r : Row) → Is (f r) → Is (g r) → Is (after g (f r))) → (m : Segments) → Is (at_segment s f m) → Is (at_segment s g m) → Is (after (at_segment s g) (at_segment s f m))
  same_segment_both e m a b =
      rw (after_same m s f g (f (get m s))) (Is-map m s (after g (f (get m s))) (e (get m s) (Is-assign m s (f (get m s)) a) (Is-assign m s (g (get m s)) b)))

-- lists with one other element
slice_get-set_other : (cells : List Cell) (i : ℕ) (c : Cell) (j : ℕ) → i ≢ j → slice_get (slice_set cells i c) j ≡ slice_get cells j
slice_get-set_other [] i c j ne = refl
slice_get-set_other (x ∷ xs) zero c zero ne = absurd (ne refl)
slice_get-set_other (x ∷ xs) zero c (suc j) ne = refl
slice_get-set_other (x ∷ xs) (suc i) c zero ne = refl
slice_get-set_other (x ∷ xs) (suc i) c (suc j) ne = slice_get-set_other xs i c j (λ e. ne (ap suc e))

slice_set_turned : (cells : List Cell) (i j : ℕ) (c d : Cell) → i ≢ j → slice_set (slice_set cells i c) j d ≡ slice_set (slice_set cells j d) i c
slice_set_turned [] i j c d ne = refl
slice_set_turned (x ∷ xs) zero zero c d ne = absurd (ne refl)
slice_set_turned (x ∷ xs) zero (suc j) c d ne = refl
slice_set_turned (x ∷ xs) (suc i) zero c d ne = refl
slice_set_turned (x ∷ xs) (suc i) (suc j) c d ne = ap (λ l. x ∷ l) (slice_set_turned xs i j c d (λ e. ne (ap suc e)))

-- a change of the cell at an offset
abbrev pub at_offset : ℕ → (Option Cell → Option Cell) → List Cell → Option (List Cell)
at_offset i h cells = at_place slice_get slice_set i h cells

-- a change of the cells of a live segment
abbrev pub in_row : (List Cell → Option (List Cell)) → Row → Option Row
in_row e None = None
in_row e (Some cells) = option_map Some (e cells)

after_in_row : (d e : List Cell → Option (List Cell)) (x : Option (List Cell)) → after (in_row e) (option_map Some x) ≡ option_map Some (after e x)
after_in_row d e None = refl
after_in_row d e (Some cells) = refl

module _ (i j : ℕ) (h g : Option Cell → Option Cell) (ne : i ≢ j) where
  -- changes of different cells of one segment commute
  pub rows : (r : Row) → after (in_row (at_offset j g)) (in_row (at_offset i h) r) ≡ after (in_row (at_offset i h)) (in_row (at_offset j g) r)
  rows None = refl
  rows (Some cells) =
      after_in_row (at_offset i h) (at_offset j g) (at_offset i h cells)
      ∙ ap (option_map Some) (different slice_get slice_set slice_get-set_other slice_set_turned i j h g ne cells)
      ∙ sym (after_in_row (at_offset j g) (at_offset i h) (at_offset j g cells))

  Is-some : (x : Option (List Cell)) → Is (option_map Some x) → Is x
  Is-some None d = absurd (let z : None ≡ Some d.0 = d.1 in cc)
  Is-some (Some cells) d = (cells, refl)

  some-Is : (x : Option (List Cell)) → Is x → Is (option_map Some x)
  some-Is None d = absurd (let z : None ≡ Some d.0 = d.1 in cc)
  some-Is (Some cells) d = (Some cells, refl)

  pub rows_both : (r : Row) → Is (in_row (at_offset i h) r) → Is (in_row (at_offset j g) r) → Is (after (in_row (at_offset j g)) (in_row (at_offset i h) r))
  rows_both None a b = a
  rows_both (Some cells) a b =
      rw (after_in_row (at_offset i h) (at_offset j g) (at_offset i h cells))
      (some-Is (after (at_offset j g) (at_offset i h cells)) (different_both slice_get slice_set slice_get-set_other slice_set_turned i j h g ne cells (Is-some (at_offset i h cells) a) (Is-some (at_offset j g cells) b)))

-- each touch is a change of one segment
abbrev pub segment_of : Touch → ℕ
segment_of (On act) = act.place.seg
segment_of (NewSegment seg cells) = seg
segment_of (FreeSegment seg) = seg

-- what an access leaves, by its answer
abbrev pub on_answer : Access → ℕ → Option Cell → Option Cell
on_answer act answer c = answering answer (option_map (on_cell act.kind act.value) c)

abbrev pub on_row : Touch → ℕ → Row → Option Row
on_row (On act) answer r = in_row (at_offset act.place.off (on_answer act answer)) r
on_row (NewSegment seg cells) answer None = Some (Some (replicate cells fresh))
on_row (NewSegment seg cells) answer (Some r) = None
on_row (FreeSegment seg) answer None = None
on_row (FreeSegment seg) answer (Some r) = Some None

by_row : (act : Access) (answer : ℕ) (m : Segments) (r : Row) →
    option_map (λ c. put_in m act.place c r) (on_answer act answer (option_and_then (λ cells. slice_get cells act.place.off) r)) ≡ option_map (assign m act.place.seg) (on_row (On act) answer r)
by_row act answer m None = refl
by_row act answer m (Some cells) = by_cell (on_answer act answer (slice_get cells act.place.off)) where
  by_cell : (x : Option Cell) → option_map (λ c. insert m act.place.seg (slice_set cells act.place.off c)) x ≡ option_map (assign m act.place.seg) (option_map Some (option_map (slice_set cells act.place.off) x))
  by_cell None = refl
  by_cell (Some c) = refl

by_new : (seg cells : ℕ) (m : Segments) (answer : ℕ) (r : Row) → (if is_some r then None else Some (insert m seg (replicate cells fresh))) ≡ option_map (assign m seg) (on_row (NewSegment seg cells) answer r)
by_new seg cells m answer None = refl
by_new seg cells m answer (Some r) = refl

by_free : (seg : ℕ) (m : Segments) (answer : ℕ) (r : Row) → (if is_some r then Some (remove m seg) else None) ≡ option_map (assign m seg) (on_row (FreeSegment seg) answer r)
by_free seg m answer None = refl
by_free seg m answer (Some r) = refl

pub touched_is : (t : Touch) (answer : ℕ) (m : Segments) → touched (t, answer) m ≡ at_segment (segment_of t) (on_row t answer) m
touched_is (On act) answer m = by_row act answer m (get m act.place.seg)
touched_is (NewSegment seg cells) answer m = by_new seg cells m answer (get m seg)
touched_is (FreeSegment seg) answer m = by_free seg m answer (get m seg)
