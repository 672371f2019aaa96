-- How the number of live words changes.
use Rattle.std.proofs.Common.{◌≡◌, ℕ, zero, suc, ◌+◌, ◌<◌, ◌≤◌, List, [], ◌∷◌, length, Option, Some, None, inl, inr, refl, sym, ap, ◌∙◌, subst, arith}
use Rattle.std.specs.Prelude.{slice_set, replicate}
use Rattle.std.proofs.lemmas.Bool.{cases_lt}
use Rattle.std.proofs.lemmas.List.{length-set, length-replicate}
use Rattle.std.specs.FinMap.{get, insert, remove}
use Rattle.xc_word.specs.declared.memory.Cell.{Cell}
use Rattle.xc_word.specs.declared.memory.Place.{Place}
use Rattle.xc_word.specs.Cells.{Segments, fresh}
use Rattle.xc_word.specs.Table.{left_by}
use Rattle.xc_meaning_world.specs.World.{Segs, put}
use Rattle.xc_meaning_world.proofs.Puts.{by_same, put_at, put_other}
use Rattle.xc_isa.specs.Machine.{words_up_to}
use Rattle.xc_machine.specs.Shows.{segs_in}
use Rattle.xc_machine.proofs.Shown.{segs_assign, segs_put}

pub words_same : (m k : Segs) (n : ℕ) → ((q : ℕ) → q ≤ n → length (m q) ≡ length (k q)) → words_up_to m n ≡ words_up_to k n
words_same m k zero h = h 0 (omega arith)
words_same m k (suc n) h =
    let below = words_same m k n (λ q le. h q (omega (arith, le))) in
    let here = h (suc n) (omega arith) in
    omega (arith, below, here)

-- a segment above the others
pub words_above : (m : Segs) (n : ℕ) (xs : List Cell) → words_up_to (put m (suc n) xs) (suc n) ≡ words_up_to m n + length xs
words_above m n xs =
    let below = words_same (put m (suc n) xs) m n (λ q le. ap length (put_other m (suc n) q xs (λ e. absurd (omega (arith, e, le))))) in
    let here : length (put m (suc n) xs (suc n)) ≡ length xs = ap length (put_at m (suc n) xs) in
    omega (arith, below, here)

-- a segment goes
pub words_freed : (m : Segs) (g n : ℕ) → g ≤ n → words_up_to (put m g []) n + length (m g) ≡ words_up_to m n
words_freed m g zero le =
    let is : g ≡ 0 = omega arith in
    let here : length (put m g [] g) ≡ 0 = ap length (put_at m g []) in
    subst (λ q. length (put m g [] q) + length (m g) ≡ length (m q)) is (omega (arith, here))
words_freed m g (suc n) le = by_same (words_up_to (put m g []) (suc n) + length (m g) ≡ words_up_to m (suc n)) g (suc n)
    (λ e.
    let below = words_same (put m g []) m n (λ q under. ap length (put_other m g q [] (λ f. absurd (omega (arith, e, f, under))))) in
    let here : length (put m g [] (suc n)) ≡ 0 = ap (λ q. length (put m g [] q)) (sym e) ∙ ap length (put_at m g []) in
    let there : length (m g) ≡ length (m (suc n)) = ap (λ q. length (m q)) e in
    omega (arith, below, here, there))
    (λ ne.
    let below = words_freed m g n (omega (arith, ne, le)) in
    let here : length (put m g [] (suc n)) ≡ length (m (suc n)) = ap length (put_other m g (suc n) [] (λ e. ne (sym e))) in
    omega (arith, below, here))

-- an access leaves the segments as long as they are
pub length_left : (m : Segments) (p : Place) (o : Option (Option (ℕ × Cell))) (q : ℕ) → length (segs_in (left_by m p o) q) ≡ length (segs_in m q)
length_left m p None q = refl
length_left m p (Some None) q = refl
length_left m p (Some (Some x)) q =
    ap (λ s. length (s q)) (segs_put m p x.1 (get m p.seg) refl)
    ∙ by_same (length (put (segs_in m) p.seg (slice_set (segs_in m p.seg) p.off x.1) q) ≡ length (segs_in m q)) q p.seg
    (λ e. ap (λ r. length (put (segs_in m) p.seg (slice_set (segs_in m p.seg) p.off x.1) r)) e ∙ ap length (put_at (segs_in m) p.seg (slice_set (segs_in m p.seg) p.off x.1)) ∙ length-set (segs_in m p.seg) p.off x.1 ∙ ap (λ r. length (segs_in m r)) (sym e))
    (λ ne. ap length (put_other (segs_in m) p.seg q (slice_set (segs_in m p.seg) p.off x.1) ne))

pub none_left : (xs : List Cell) → length xs ≡ 0 → xs ≡ []
none_left [] e = refl
none_left (x ∷ xs) e = absurd (omega arith)

-- ---- the counts of a store

-- after an access
pub left_count : (m n : Segments) (p : Place) (o : Option (Option (ℕ × Cell))) (last live : ℕ) → n ≡ left_by m p o → live ≡ words_up_to (segs_in m) last → live ≡ words_up_to (segs_in n) last
left_count m n p o last live e h = h ∙ sym (words_same (segs_in n) (segs_in m) last (λ q le. ap (λ x. length (segs_in x q)) e ∙ length_left m p o q))

pub left_beyond : (m n : Segments) (p : Place) (o : Option (Option (ℕ × Cell))) (g : ℕ) → n ≡ left_by m p o → segs_in m g ≡ [] → segs_in n g ≡ []
left_beyond m n p o g e h = none_left (segs_in n g) (ap (λ x. length (segs_in x g)) e ∙ length_left m p o g ∙ ap length h)

-- after a new segment
pub added_segs : (m n : Segments) (k cells : ℕ) → n ≡ insert m k (replicate cells fresh) → segs_in n ≡ put (segs_in m) k (replicate cells fresh)
added_segs m n k cells e = ap segs_in e ∙ segs_assign m k (Some (replicate cells fresh))

pub added_count : (m n : Segments) (cells last live : ℕ) → n ≡ insert m (last + 1) (replicate cells fresh) → live ≡ words_up_to (segs_in m) last → live + cells ≡ words_up_to (segs_in n) (last + 1)
added_count m n cells last live e h =
    let next : last + 1 ≡ suc last = omega arith in
    let above : words_up_to (put (segs_in m) (suc last) (replicate cells fresh)) (suc last) ≡ words_up_to (segs_in m) last + length (replicate cells fresh) = words_above (segs_in m) last (replicate cells fresh) in
    let many : live + cells ≡ words_up_to (segs_in m) last + length (replicate cells fresh) = omega (arith, h, length-replicate cells fresh) in
    many ∙ sym above ∙ ap (λ k. words_up_to (put (segs_in m) k (replicate cells fresh)) k) (sym next) ∙ ap (λ s. words_up_to s (last + 1)) (sym (added_segs m n (last + 1) cells e))

pub added_beyond : (m n : Segments) (cells last g : ℕ) → n ≡ insert m (last + 1) (replicate cells fresh) → last + 1 < g → segs_in m g ≡ [] → segs_in n g ≡ []
added_beyond m n cells last g e above h = ap (λ s. s g) (added_segs m n (last + 1) cells e) ∙ put_other (segs_in m) (last + 1) g (replicate cells fresh) (λ f. absurd (omega (arith, above, f))) ∙ h

-- after a segment is freed
pub freed_segs : (m n : Segments) (g : ℕ) → n ≡ remove m g → segs_in n ≡ put (segs_in m) g []
freed_segs m n g e = ap segs_in e ∙ segs_assign m g None

-- a segment that is there has no number past the last
within_last : (m : Segments) (g last : ℕ) → ((q : ℕ) → last < q → segs_in m q ≡ []) → (length (segs_in m g) ≡ 0 → ⊥) → g ≤ last
within_last m g last beyond some = elim (cases_lt last g) [
  | inl lt ↦ absurd (some (ap length (beyond g lt)))
  | inr le ↦ le
]

pub freed_count : (m n : Segments) (g last live : ℕ) → n ≡ remove m g → ((q : ℕ) → last < q → segs_in m q ≡ []) → (length (segs_in m g) ≡ 0 → ⊥) → live ≡ words_up_to (segs_in m) last → words_up_to (segs_in n) last + length (segs_in m g) ≡ live
freed_count m n g last live e beyond some h =
    ap (λ s. words_up_to s last + length (segs_in m g)) (freed_segs m n g e) ∙ words_freed (segs_in m) g last (within_last m g last beyond some) ∙ sym h

pub freed_beyond : (m n : Segments) (g q : ℕ) → n ≡ remove m g → segs_in m q ≡ [] → segs_in n q ≡ []
freed_beyond m n g q e h = ap (λ s. s q) (freed_segs m n g e) ∙ by_same (put (segs_in m) g [] q ≡ []) q g (λ f. ap (put (segs_in m) g []) f ∙ put_at (segs_in m) g []) (λ ne. put_other (segs_in m) g q [] ne ∙ h)
