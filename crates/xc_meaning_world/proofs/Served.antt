-- What the world answers, by what is at the place.
use Rattle.std.proofs.Common.{◌≡◌, ℕ, List, [], ◌∷◌, Some, ap, ◌∙◌}
use Rattle.std.specs.Prelude.{slice_get, slice_set}
use Rattle.xc_word.specs.declared.memory.Access.{Access}
use Rattle.xc_word.specs.declared.memory.Cell.{Cell}
use Rattle.xc_word.specs.Table.{on_cell}
use Rattle.xc_meaning_world.specs.World.{Segs, World, Reach, Free, On, Got, put, left_in, reached, freed, put_back, with_out, serve}

-- an access at a cell that it need not wait for
pub serve_reach : (act : Access) (num v : ℕ) (w : World) (xs : List Cell) (c d : Cell) → w.segs act.place.seg ≡ xs → slice_get xs act.place.off ≡ Some c → on_cell act.kind act.value c ≡ Some (v, d)
    → serve (On (Reach act)) num w ≡ Some (Got v, record { segs = put w.segs act.place.seg (slice_set xs act.place.off d); out = w.out })
serve_reach act num v w xs c d seg cell table =
    ap (λ ys. with_out (put_back (reached (slice_get ys act.place.off) act ys) act.place.seg w.segs) w.out) seg
    ∙ ap (λ o. with_out (put_back (reached o act xs) act.place.seg w.segs) w.out) cell
    ∙ ap (λ o. with_out (put_back (left_in o act.place.off xs) act.place.seg w.segs) w.out) table

-- the end of a live segment
pub serve_free : (g num : ℕ) (w : World) (x : Cell) (xs : List Cell) → w.segs g ≡ x ∷ xs → serve (On (Free g)) num w ≡ Some (Got 0, record { segs = put w.segs g []; out = w.out })
serve_free g num w x xs seg = ap (λ ys. with_out (put_back (freed ys) g w.segs) w.out) seg

pub same_world : (m n : Segs) (out : List ℕ) → m ≡ n → let f : Segs → World = λ s. record { segs = s; out = out } in f m ≡ f n
same_world m n out e = ap (λ s. record { segs = s; out = out }) e
