-- The segments of globals.
use Rattle.std.proofs.Common.{◌≡◌, ℕ, zero, suc, ◌+◌, ◌*◌, ◌-◌, ◌^◌, ◌<◌, ◌≤◌, List, [], ◌∷◌, ◌++◌, length, take, map, get_or, Some, refl, sym, ap, ◌∙◌, arith, append_assoc}
use mathlib.Core.Path.{fun_ext}
use Rattle.std.specs.Prelude.{slice_get, replicate, unwrap_or, All}
use Rattle.std.specs.List.{sum_by}
use Rattle.std.specs.Ordering.{nat_cmp}
use Rattle.std.specs.FinMap.{insert, empty, get-empty}
use Rattle.std.proofs.Math.Seq.{take-suc}
use Rattle.std.proofs.lemmas.List.{length-map, length-take-le, map-append, length-append, length-replicate, replicate-append-replicate}
use Rattle.std.proofs.lemmas.List.Sums.{sum_by-cons}
use Rattle.std.proofs.lemmas.List.Elements.{All-head, All-tail}
use Rattle.std.proofs.lemmas.Option.{slice_get_past}
use Rattle.xc_word.specs.declared.memory.Cell.{Cell}
use Rattle.xc_word.specs.Cells.{Segments}
use Rattle.xc_meaning_world.specs.World.{put, segs_of}
use Rattle.xc_meaning_world.proofs.Puts.{by_same, put_at, put_other}
use Rattle.xc_isa.specs.declared.code.Run.{Run}
use Rattle.xc_isa.specs.Texts.{cells_of, size_of, IsGlobal}
use Rattle.xc_isa.specs.declared.code.Code.{Code}
use Rattle.xc_isa.specs.Machine.{words_up_to, live_words, start}
use Rattle.xc_machine.specs.Shows.{segs_in}
use Rattle.xc_machine.proofs.Shown.{segs_assign}

-- ---- cells

pub one_more_cell : (before xs : List Cell) (n : ℕ) (x : Cell) → xs ≡ before ++ replicate n x → xs ++ x ∷ [] ≡ before ++ replicate (n + 1) x
one_more_cell before xs n x e = ap (λ ys. ys ++ x ∷ []) e ∙ append_assoc before (replicate n x) (x ∷ []) ∙ ap (λ ys. before ++ ys) (replicate-append-replicate n 1 x)

pub one_more_run : (all xs : List Cell) (x : Run) (rest : List Run) (new : List Cell) → all ≡ xs ++ cells_of (x ∷ rest) → new ≡ xs ++ replicate x.count x.cell → all ≡ new ++ cells_of rest
one_more_run all xs x rest new e f = e ∙ sym (append_assoc xs (replicate x.count x.cell) (cells_of rest)) ∙ ap (λ ys. ys ++ cells_of rest) (sym f)

pub length_cells : (xs : List Run) → length (cells_of xs) ≡ size_of xs
length_cells [] = refl
length_cells (x ∷ xs) = omega (arith, length-append (replicate x.count x.cell) (cells_of xs), length-replicate x.count x.cell, length_cells xs, sum_by-cons (λ (y : Run). y.count) x xs)

-- ---- segments

segs_next : (g : List Cell) (gs : List (List Cell)) (n : ℕ) → words_up_to (segs_of (g ∷ gs)) (suc n) ≡ length g + words_up_to (segs_of gs) n
segs_next g gs zero = omega arith
segs_next g gs (suc n) = omega (arith, segs_next g gs n)

pub words_of_globals : (gs : List (List Run)) → words_up_to (segs_of (map cells_of gs)) (length gs) ≡ sum_by size_of gs
words_of_globals [] = refl
words_of_globals (g ∷ gs) =
    let next = segs_next (cells_of g) (map cells_of gs) (length gs) in
    let others = words_of_globals gs in
    let here = length_cells g in
    let both = sum_by-cons size_of g gs in
    omega (arith, next, others, here, both)

-- the globals have fewer than 2^64 words
pub few_words : (gs : List (List Run)) → All IsGlobal gs → sum_by size_of gs ≤ length gs * 2 ^ 32
few_words [] each = omega arith
few_words (g ∷ gs) each =
    let here = All-head IsGlobal g gs each in
    let small = here.3 in
    let others = few_words gs (All-tail IsGlobal g gs each) in
    let both = sum_by-cons size_of g gs in
    omega (arith, small, others, both)

get_last : (gs : List (List Cell)) (x : List Cell) → slice_get (gs ++ x ∷ []) (length gs) ≡ Some x
get_last [] x = refl
get_last (g ∷ gs) x = get_last gs x

get_before : (gs : List (List Cell)) (g : ℕ) (x : List Cell) → (g ≡ length gs → ⊥) → slice_get (gs ++ x ∷ []) g ≡ slice_get gs g
get_before [] zero x ne = absurd (ne refl)
get_before [] (suc g) x ne = refl
get_before (y ∷ gs) zero x ne = refl
get_before (y ∷ gs) (suc g) x ne = get_before gs g x (λ e. ne (ap suc e))

one_more : (gs : List (List Cell)) (x : List Cell) → put (segs_of gs) (suc (length gs)) x ≡ segs_of (gs ++ x ∷ [])
one_more gs x = fun_ext at
  where
    at : (g : ℕ) → put (segs_of gs) (suc (length gs)) x g ≡ segs_of (gs ++ x ∷ []) g
    at zero = put_other (segs_of gs) (suc (length gs)) zero x (λ e. absurd (omega (arith, e)))
    at (suc g) = by_same (put (segs_of gs) (suc (length gs)) x (suc g) ≡ segs_of (gs ++ x ∷ []) (suc g)) g (length gs)
        (λ e. ap (put (segs_of gs) (suc (length gs)) x) (ap suc e) ∙ put_at (segs_of gs) (suc (length gs)) x ∙ sym (ap (λ o. unwrap_or o []) (ap (slice_get (gs ++ x ∷ [])) e ∙ get_last gs x)))
        (λ ne. put_other (segs_of gs) (suc (length gs)) (suc g) x (λ e. ne (omega (arith, e))) ∙ ap (λ o. unwrap_or o []) (sym (get_before gs g x ne)))

pub global_added : (m n : Segments) (gs : List (List Cell)) (k : ℕ) (x : List Cell) → segs_in m ≡ segs_of gs → k ≡ suc (length gs) → n ≡ insert m k x → segs_in n ≡ segs_of (gs ++ x ∷ [])
global_added m n gs k x h number e =
    ap segs_in e ∙ segs_assign m k (Some x) ∙ ap (λ s. put s k x) h ∙ ap (λ q. put (segs_of gs) q x) number ∙ one_more gs x

-- the globals up to one more
pub taken_more : (gs : List (List Run)) (i : ℕ) (d : List Run) → i < length gs → map cells_of (take (i + 1) gs) ≡ map cells_of (take i gs) ++ cells_of (get_or gs i d) ∷ []
taken_more gs i d lt =
    let next : i + 1 ≡ suc i = omega arith in
    ap (λ k. map cells_of (take k gs)) next ∙ ap (map cells_of) (take-suc gs i d lt) ∙ map-append cells_of (take i gs) (get_or gs i d ∷ [])

pub taken_count : (gs : List (List Run)) (i : ℕ) → i ≤ length gs → length (map cells_of (take i gs)) ≡ i
taken_count gs i le = length-map (take i gs) cells_of ∙ length-take-le i gs le

pub none_yet : segs_in empty ≡ segs_of []
none_yet = fun_ext at
  where
    at : (g : ℕ) → segs_in empty g ≡ segs_of [] g
    at zero = ap (λ o. unwrap_or o []) (get-empty nat_cmp zero)
    at (suc g) = ap (λ o. unwrap_or o []) (get-empty nat_cmp (suc g))

-- no segment is past the last
pub none_past : (gs : List (List Cell)) (g : ℕ) → length gs < g → segs_of gs g ≡ []
none_past gs zero lt = refl
none_past gs (suc g) lt = ap (λ o. unwrap_or o []) (slice_get_past gs g (omega arith))

each_counts : (gs : List (List Run)) → length gs ≤ sum_by (λ xs. 1 + length xs) gs
each_counts [] = omega arith
each_counts (g ∷ gs) =
    let others = each_counts gs in
    let both = sum_by-cons (λ (xs : List Run). 1 + length xs) g gs in
    omega (arith, others, both)

-- code has few globals, since it has a text
pub few_globals : (code : Code) → length code.globals < 2 ^ 32 - 1
few_globals code =
    let each = each_counts code.globals in
    let short = code.has_text.short in
    omega (arith, each, short)

-- the words of the machine as code begins
pub start_words : (code : Code) (processors streams : ℕ) → live_words (start code processors streams) ≡ sum_by size_of code.globals
start_words code processors streams = words_of_globals code.globals

pub length_globals : (gs : List (List Run)) → length (map cells_of gs) ≡ length gs
length_globals gs = length-map gs cells_of
