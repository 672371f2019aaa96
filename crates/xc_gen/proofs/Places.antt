-- The machine's world: the source's, with the stream's frame.
use Rattle.std.proofs.Common.{◌≡◌, ℕ, zero, suc, ◌+◌, ◌*◌, ◌^◌, ◌<◌, ◌≤◌, List, [], ◌∷◌, length, Some, refl, sym, ap, ◌∙◌, arith}
use mathlib.Core.Path.{fun_ext}
use Rattle.std.specs.Prelude.{slice_get, slice_set, replicate}
use Rattle.xc_word.specs.declared.memory.Cell.{Cell}
use Rattle.xc_word.specs.declared.memory.Kind.{Kind}
use Rattle.xc_word.specs.declared.memory.Kind.TheVariants.{ReadXx, WriteXf}
use Rattle.xc_word.specs.Cells.{fresh}
use Rattle.xc_word.specs.Table.{full_with, on_cell}
use Rattle.xc_meaning_world.specs.World.{World, On, Reach, New, Free, Got, put, serve}
use Rattle.xc_meaning_world.proofs.Puts.{by_same, put_at, put_other, put_same, put_put, put_swap}
use Rattle.xc_meaning_world.proofs.Served.{serve_reach, serve_free}
use Rattle.xc_isa.specs.Effects.{Regs}
use Rattle.xc_isa.specs.Machine.{Slot, Live, words_up_to}
use Rattle.xc_isa.proofs.Follows.{Conf, conf, at_base}

-- a frame's cells, each full with a word
abbrev pub cells_with : ℕ → (ℕ → ℕ) → List Cell
cells_with zero f = []
cells_with (suc k) f = full_with (f 0) ∷ cells_with k (λ i. f (suc i))

pub cell_there : (k i : ℕ) (f : ℕ → ℕ) → i < k → slice_get (cells_with k f) i ≡ Some (full_with (f i))
cell_there zero i f lt = absurd (omega arith)
cell_there (suc k) zero f lt = refl
cell_there (suc k) (suc i) f lt = cell_there k i (λ i. f (suc i)) (omega arith)

put_behind : (f : ℕ → ℕ) (i v : ℕ) → put (λ j. f (suc j)) i v ≡ (λ j. put f (suc i) v (suc j))
put_behind f i v = fun_ext (λ j. by_same (put (λ j. f (suc j)) i v j ≡ put f (suc i) v (suc j)) j i
    (λ e. ap (put (λ j. f (suc j)) i v) e ∙ put_at (λ j. f (suc j)) i v ∙ sym (ap (λ x. put f (suc i) v (suc x)) e ∙ put_at f (suc i) v))
    (λ ne. put_other (λ j. f (suc j)) i j v ne ∙ sym (put_other f (suc i) (suc j) v (λ e. ne (omega (arith, e))))))

put_first : (f : ℕ → ℕ) (v : ℕ) → ◌≡◌ {A = ℕ → ℕ} (λ j. f (suc j)) (λ j. put f 0 v (suc j))
put_first f v = fun_ext (λ j. sym (put_other f 0 (suc j) v (λ e. absurd (omega (arith, e)))))

pub cell_written : (k i v : ℕ) (f : ℕ → ℕ) → i < k → slice_set (cells_with k f) i (full_with v) ≡ cells_with k (put f i v)
cell_written zero i v f lt = absurd (omega arith)
cell_written (suc k) zero v f lt = ap (λ g. full_with v ∷ cells_with k g) (put_first f v) ∙ ap (λ u. full_with u ∷ cells_with k (λ j. put f 0 v (suc j))) (sym (put_at f 0 v))
cell_written (suc k) (suc i) v f lt =
    ap (λ l. full_with (f 0) ∷ l) (cell_written k i v (λ j. f (suc j)) (omega arith) ∙ ap (cells_with k) (put_behind f i v))
    ∙ ap (λ u. full_with u ∷ cells_with k (λ j. put f (suc i) v (suc j))) (sym (put_other f (suc i) 0 v (λ e. absurd (omega (arith, e)))))

pub first_cells : (k : ℕ) → replicate k fresh ≡ cells_with k (λ i. 0)
first_cells zero = refl
first_cells (suc k) = ap (λ l. fresh ∷ l) (first_cells k)

pub cells_length : (k : ℕ) (f : ℕ → ℕ) → length (cells_with k f) ≡ k
cells_length zero f = refl
cells_length (suc k) f = ap suc (cells_length k (λ i. f (suc i)))

module _ (n cells : ℕ) where
  -- each global has one cell, and no other segment is live
  pub record Sound (w : World) : Type 0 where
    pub one : (g : ℕ) → g < n → (c : Cell) × (w.segs (suc g) ≡ c ∷ [])
    pub none : (g : ℕ) → n < g → w.segs g ≡ []
    pub null : w.segs 0 ≡ []

  -- the frame is the segment after the globals
  abbrev pub framed : World → (ℕ → ℕ) → World
  framed w f = record { segs = put w.segs (suc n) (cells_with cells f); out = w.out }

  abbrev pub place : ℕ → Regs → World → (ℕ → ℕ) → Conf
  place pc r w f = conf (Live pc r) (framed w f) (suc n)

  abbrev pub frame_at : ℕ
  frame_at = suc n * 2 ^ 32

  -- no more live words than the globals and the frame
  abbrev pub IsSmall : Conf → Type 0
  IsSmall c = words_up_to c.world.segs c.last ≤ n + cells

  below_counted : (w : World) (f : ℕ → ℕ) (k : ℕ) → Sound w → k ≤ n → words_up_to (framed w f).segs k ≡ k
  below_counted w f zero s le = ap length (put_other w.segs (suc n) 0 (cells_with cells f) (λ e. absurd (omega (arith, e))) ∙ s.null)
  below_counted w f (suc k) s le =
      let c = s.one k (omega arith) in
      let here : length ((framed w f).segs (suc k)) ≡ 1 = ap length (put_other w.segs (suc n) (suc k) (cells_with cells f) (λ e. absurd (omega (arith, e))) ∙ c.1) in
      omega (arith, here, below_counted w f k s (omega arith))

  pub small : (pc : ℕ) (r : Regs) (w : World) (f : ℕ → ℕ) → Sound w → IsSmall (place pc r w f)
  small pc r w f s =
      let here : length ((framed w f).segs (suc n)) ≡ cells = ap length (put_at w.segs (suc n) (cells_with cells f)) ∙ cells_length cells f in
      omega (arith, here, below_counted w f n s (omega arith))

  counted : (w : World) (k : ℕ) → Sound w → k ≤ n → words_up_to w.segs k ≡ k
  counted w zero s le = ap length s.null
  counted w (suc k) s le =
      let c = s.one k (omega arith) in
      let here : length (w.segs (suc k)) ≡ 1 = ap length c.1 in
      omega (arith, here, counted w k s (omega arith))

  -- before the frame is made, and after it is freed
  pub small_before : (x : Slot) (w : World) → Sound w → IsSmall (conf x w n)
  small_before x w s = omega (arith, counted w n s (omega arith))

  pub small_after : (x : Slot) (w : World) → Sound w → IsSmall (conf x w (suc n))
  small_after x w s =
      let here : length (w.segs (suc n)) ≡ 0 = ap length (s.none (suc n) (omega arith)) in
      omega (arith, here, counted w n s (omega arith))

  -- ---- accesses to the frame

  pub saved : (num i v : ℕ) (w : World) (f : ℕ → ℕ) → i < cells → serve (On (Reach (at_base WriteXf (suc n) i v))) num (framed w f) ≡ Some (Got 0, framed w (put f i v))
  saved num i v w f lt =
      serve_reach (at_base WriteXf (suc n) i v) num 0 (framed w f) (cells_with cells f) (full_with (f i)) (full_with v) (put_at w.segs (suc n) (cells_with cells f)) (cell_there cells i f lt) refl
      ∙ ap (λ m. Some (Got 0, record { segs = m; out = w.out })) (put_put w.segs (suc n) (cells_with cells f) (slice_set (cells_with cells f) i (full_with v)) ∙ ap (put w.segs (suc n)) (cell_written cells i v f lt))

  pub loaded : (num i : ℕ) (w : World) (f : ℕ → ℕ) → i < cells → serve (On (Reach (at_base ReadXx (suc n) i 0))) num (framed w f) ≡ Some (Got (f i), framed w f)
  loaded num i w f lt =
      serve_reach (at_base ReadXx (suc n) i 0) num (f i) (framed w f) (cells_with cells f) (full_with (f i)) (full_with (f i)) (put_at w.segs (suc n) (cells_with cells f)) (cell_there cells i f lt) refl
      ∙ ap (λ m. Some (Got (f i), record { segs = m; out = w.out })) (put_same (framed w f).segs (suc n) (slice_set (cells_with cells f) i (full_with (f i)))
      (put_at w.segs (suc n) (cells_with cells f) ∙ sym (cell_written cells i (f i) f lt ∙ ap (cells_with cells) (put_same f i (f i) refl))))

  -- ---- accesses to globals

  -- the world with another cell of a global
  abbrev pub with_cell : World → ℕ → Cell → World
  with_cell w g c = record { segs = put w.segs (suc g) (c ∷ []); out = w.out }

  pub sound_with : (w : World) (g : ℕ) (c : Cell) → g < n → Sound w → Sound (with_cell w g c)
  sound_with w g c lt s = record {
    one = λ h lh. by_same ((c' : Cell) × ((with_cell w g c).segs (suc h) ≡ c' ∷ [])) (suc h) (suc g)
        (λ e. (c, ap (put w.segs (suc g) (c ∷ [])) e ∙ put_at w.segs (suc g) (c ∷ [])))
        (λ ne. let o = s.one h lh in (o.0, put_other w.segs (suc g) (suc h) (c ∷ []) ne ∙ o.1));
    none = λ h lh. put_other w.segs (suc g) h (c ∷ []) (λ e. absurd (omega (arith, e))) ∙ s.none h lh;
    null = put_other w.segs (suc g) 0 (c ∷ []) (λ e. absurd (omega (arith, e))) ∙ s.null;
  }

  pub sound_out : (w : World) (out : List ℕ) → Sound w → Sound (record { segs = w.segs; out = out })
  sound_out w out s = record { one = s.one; none = s.none; null = s.null }

  framed_with : (w : World) (g : ℕ) (c : Cell) (f : ℕ → ℕ) → g < n → put (framed w f).segs (suc g) (c ∷ []) ≡ (framed (with_cell w g c) f).segs
  framed_with w g c f lt = put_swap w.segs (suc n) (suc g) (cells_with cells f) (c ∷ []) (λ e. absurd (omega (arith, e)))

  -- what the source is answered, the machine is answered
  pub reaches_source : (kind : Kind) (num g v u : ℕ) (w : World) (c d : Cell) → w.segs (suc g) ≡ c ∷ [] → on_cell kind v c ≡ Some (u, d) → serve (On (Reach (at_base kind (suc g) 0 v))) num w ≡ Some (Got u, with_cell w g d)
  reaches_source kind num g v u w c d seg table = serve_reach (at_base kind (suc g) 0 v) num u w (c ∷ []) c d seg refl table

  pub reaches_machine : (kind : Kind) (num g v u : ℕ) (w : World) (f : ℕ → ℕ) (c d : Cell) → g < n → w.segs (suc g) ≡ c ∷ [] → on_cell kind v c ≡ Some (u, d)
      → serve (On (Reach (at_base kind (suc g) 0 v))) num (framed w f) ≡ Some (Got u, framed (with_cell w g d) f)
  reaches_machine kind num g v u w f c d lt seg table =
      serve_reach (at_base kind (suc g) 0 v) num u (framed w f) (c ∷ []) c d (put_other w.segs (suc n) (suc g) (cells_with cells f) (λ e. absurd (omega (arith, e))) ∙ seg) refl table
      ∙ ap (λ m. Some (Got u, record { segs = m; out = w.out })) (framed_with w g d f lt)

  -- the end of the frame
  pub frame_freed : (num : ℕ) (w : World) (f : ℕ → ℕ) → 1 ≤ cells → Sound w → serve (On (Free (suc n))) num (framed w f) ≡ Some (Got 0, w)
  frame_freed num w f some s = at cells some
    where
      at : (k : ℕ) → 1 ≤ k → serve (On (Free (suc n))) num (record { segs = put w.segs (suc n) (cells_with k f); out = w.out }) ≡ Some (Got 0, w)
      at zero le = absurd (omega arith)
      at (suc k) le =
          let m = put w.segs (suc n) (cells_with (suc k) f) in
          serve_free (suc n) num (record { segs = m; out = w.out }) (full_with (f 0)) (cells_with k (λ i. f (suc i))) (put_at w.segs (suc n) (cells_with (suc k) f))
          ∙ ap (λ x. Some (Got 0, record { segs = x; out = w.out })) (put_put w.segs (suc n) (cells_with (suc k) f) [] ∙ put_same w.segs (suc n) [] (s.none (suc n) (omega arith)))

  -- the making of it
  pub frame_made : (w : World) → 1 ≤ cells → serve (On (New cells)) (suc n) w ≡ Some (Got frame_at, framed w (λ i. 0))
  frame_made w some = at cells some
    where
      at : (k : ℕ) → 1 ≤ k → serve (On (New k)) (suc n) w ≡ Some (Got frame_at, record { segs = put w.segs (suc n) (cells_with k (λ i. 0)); out = w.out })
      at zero le = absurd (omega arith)
      at (suc k) le = ap (λ l. Some (Got frame_at, record { segs = put w.segs (suc n) l; out = w.out })) (first_cells (suc k))
