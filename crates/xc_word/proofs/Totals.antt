-- How the words of a memory change.
use Rattle.std.proofs.Common.{◌≡◌, ℕ, ◌+◌, false, cond, List, [], ◌∷◌, length, Option, Some, None, refl, sym, ap, ◌∙◌, arith}
use Rattle.std.specs.Prelude.{slice_set, unwrap_or, replicate, is_some}
use Rattle.std.specs.List.{sum_by}
use Rattle.std.specs.Ordering.{nat_cmp, is_eq}
use Rattle.std.specs.declared.cmp.Ordering.{Ordering}
use Rattle.std.specs.declared.cmp.Ordering.TheVariants.{Less, Equal, Greater}
use Rattle.std.proofs.lemmas.List.Sums.{sum_by-cons}
use Rattle.std.specs.Cmp.{nat_cmp_total}
use Rattle.std.specs.FinMap.{find, put, get, insert, remove, entries, empty, entries-insert, get-entries, len-entries, len-empty}
use Rattle.std.proofs.lemmas.List.{length-set, length-replicate}
use Rattle.xc_word.specs.declared.memory.Cell.{Cell}
use Rattle.xc_word.specs.declared.memory.Place.{Place}
use Rattle.xc_word.specs.Cells.{Segments, put_cell, put_in, fresh}
use Rattle.xc_word.specs.Table.{left_by}
use Rattle.xc_word.specs.Total.{total, words_of}
use Rattle.xc_word.proofs.Maps.{assign-get, assign-assign, get-assign_same}

abbrev words : List (ℕ × List Cell) → ℕ
words es = sum_by (λ e. length e.1) es

words_cons : (e : ℕ × List Cell) (es : List (ℕ × List Cell)) → words (e ∷ es) ≡ length e.1 + words es
words_cons e es = sum_by-cons (λ (x : ℕ × List Cell). length x.1) e es

-- as `put` chooses
abbrev by_order : {A : Type 0} → Ordering → A → A → A → A
by_order Less a b c = a
by_order Equal a b c = b
by_order Greater a b c = c

put_step : (k : ℕ) (v : List Cell) (e : ℕ × List Cell) (es rest : List (ℕ × List Cell)) (o : Ordering)
    → (find nat_cmp k es ≡ None → words rest ≡ words es + length v) → cond (is_eq o) (Some e.1) (find nat_cmp k es) ≡ None
    → words (by_order o ((k, v) ∷ e ∷ es) ((e.0, v) ∷ es) (e ∷ rest)) ≡ words (e ∷ es) + length v
put_step k v e es rest Less h n = omega (arith, words_cons (k, v) (e ∷ es))
put_step k v e es rest Equal h n = absurd cc
put_step k v e es rest Greater h n = omega (arith, words_cons e es, words_cons e rest, h n)

sum_put : (k : ℕ) (v : List Cell) (es : List (ℕ × List Cell)) → find nat_cmp k es ≡ None → words (put nat_cmp k v es) ≡ words es + length v
sum_put k v [] h = refl
sum_put k v (e ∷ es) h = put_step k v e es (put nat_cmp k v es) (nat_cmp k e.0) (sum_put k v es) h

no_entries : (es : List (ℕ × List Cell)) → length es ≡ 0 → words es ≡ 0
no_entries [] e = refl
no_entries (x ∷ es) e = absurd (omega arith)

-- no segments, no words
pub total_empty : total empty ≡ 0
total_empty = no_entries (entries empty) (sym (len-entries empty) ∙ len-empty nat_cmp (List Cell))

total_new : (m : Segments) (s : ℕ) (cells : List Cell) → get m s ≡ None → total (insert m s cells) ≡ total m + length cells
total_new m s cells h = ap (sum_by (λ e. length e.1)) (entries-insert nat_cmp_total m s cells) ∙ sum_put s cells (entries m) (sym (get-entries m s) ∙ h)

total_set : (m : Segments) (s : ℕ) (cells : List Cell) → total (insert m s cells) ≡ total (remove m s) + length cells
total_set m s cells = ap total (sym (assign-assign m s None (Some cells))) ∙ total_new (remove m s) s cells (get-assign_same m s None)

total_gone : (m : Segments) (s : ℕ) (cells : List Cell) → get m s ≡ Some cells → total (remove m s) + length cells ≡ total m
total_gone m s cells h = sym (total_set m s cells) ∙ ap total (assign-get m s (Some cells) h)

put_same : (m : Segments) (p : Place) (c : Cell) (o : Option (List Cell)) → get m p.seg ≡ o → total (put_in m p c o) ≡ total m
put_same m p c None h = refl
put_same m p c (Some cells) h =
    omega (arith, total_set m p.seg (slice_set cells p.off c), total_gone m p.seg cells h, length-set cells p.off c)

-- a write leaves the words as many as they were
total_put : (m : Segments) (p : Place) (c : Cell) → total (put_cell m p c) ≡ total m
total_put m p c = put_same m p c (get m p.seg) refl

-- an access leaves the words as many as they were
pub total_left : (m : Segments) (p : Place) (o : Option (Option (ℕ × Cell))) → total (left_by m p o) ≡ total m
total_left m p None = refl
total_left m p (Some None) = refl
total_left m p (Some (Some x)) = total_put m p x.1

removed_words : (m : Segments) (s : ℕ) (o : Option (List Cell)) → get m s ≡ o → total (remove m s) + length (unwrap_or o []) ≡ total m
removed_words m s None h = omega (arith, ap total (assign-get m s None h))
removed_words m s (Some cells) h = total_gone m s cells h

-- taking a segment out takes its words away
pub total_removed : (m : Segments) (s : ℕ) → total (remove m s) + words_of m s ≡ total m
total_removed m s = removed_words m s (get m s) refl

not_live : (o : Option (List Cell)) → is_some o ≡ false → o ≡ None
not_live None e = refl
not_live (Some cells) e = absurd cc

-- a new segment brings its words
pub total_fresh : (m : Segments) (s n : ℕ) → is_some (get m s) ≡ false → total (insert m s (replicate n fresh)) ≡ total m + n
total_fresh m s n e = omega (arith, total_new m s (replicate n fresh) (not_live (get m s) e), length-replicate n fresh)
