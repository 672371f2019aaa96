-- Cells that are kept without those at the end that are full and 0.
use Rattle.std.proofs.Common.{◌≡◌, ℕ, zero, suc, ◌+◌, ◌-◌, ◌<◌, List, [], ◌∷◌, ◌++◌, length, get_or, drop, Bool, true, false, refl, sym, ap, ◌∙◌, arith, add-zero, append_assoc}
use Rattle.std.specs.Prelude.{cond, fold, replicate}
use Rattle.std.proofs.lemmas.List.{append-nil, drop_more, replicate_more}
use Rattle.std.proofs.lemmas.Bool.Decides.{Decides-eqb}
use Rattle.std.proofs.lemmas.Grind.{common_steps, fold-append}
use Rattle.xc_type_initialiser_objects.specs.declared.cells.Laid.{Laid}
use Rattle.xc_type_initialiser_objects.specs.Cells.{Cell, fresh, is_fresh, in_front, trimmed, filled_from}
use Rattle.xc_type_initialiser_objects.specs.InnerCells.{with_fresh, with_rest, with_cell, no_cells}

-- lists ----------------------------------------------------------------------

all_fresh : (n : ℕ) → trimmed (replicate n fresh) ≡ []
unfolding trimmed
all_fresh zero = refl
all_fresh (suc n) = ap (in_front fresh) (all_fresh n)

trimmed_fresh : (cs : List Cell) (n : ℕ) → trimmed (cs ++ replicate n fresh) ≡ trimmed cs
unfolding trimmed
trimmed_fresh [] n = all_fresh n
trimmed_fresh (c ∷ cs) n = ap (in_front c) (trimmed_fresh cs n)

in_front_end : (c : Cell) (cs : List Cell) (d : Cell) → in_front c (cs ++ d ∷ []) ≡ c ∷ (cs ++ d ∷ [])
in_front_end c [] d = refl
in_front_end c (x ∷ cs) d = refl

kept_end : (cs : List Cell) (d : Cell) → is_fresh d ≡ false → trimmed (cs ++ d ∷ []) ≡ cs ++ d ∷ []
unfolding trimmed
kept_end [] d e = ap (λ b. cond b [] (d ∷ [])) e
kept_end (c ∷ cs) d e = ap (in_front c) (kept_end cs d e) ∙ in_front_end c cs d

only_fresh : (c : Cell) → is_fresh c ≡ true → c ≡ fresh
only_fresh (n, true) e = ap (λ (m : ℕ). (m, true)) ((Decides-eqb n 0).0 e)
only_fresh (n, false) e = cc

-- cells that are kept ----------------------------------------------------------

pub one_fresh : (l : Laid) → with_cell l fresh ≡ with_fresh l 1
unfolding with_cell
one_fresh l = refl

step_fresh : (l : Laid) (c : Cell) → is_fresh c ≡ true → with_cell l c ≡ with_fresh l 1
unfolding with_cell
step_fresh l c e = ap (λ b. cond b (with_fresh l 1) (record { first = with_rest l ++ c ∷ []; rest = 0 })) e

step_other : (l : Laid) (c : Cell) → is_fresh c ≡ false → with_cell l c ≡ record { first = with_rest l ++ c ∷ []; rest = 0 }
unfolding with_cell
step_other l c e = ap (λ b. cond b (with_fresh l 1) (record { first = with_rest l ++ c ∷ []; rest = 0 })) e

-- so many cells that are full and 0
pub laid_fresh : (n : ℕ) (l : Laid) → fold with_cell l (replicate n fresh) ≡ with_fresh l n
laid_fresh zero l = ap (λ (r : ℕ). record { first = l.first; rest = r }) (sym (add-zero l.rest))
laid_fresh (suc n) l =
    let counts : (l.rest + 1) + n ≡ l.rest + suc n = omega arith in
    ap (λ (m : Laid). fold with_cell m (replicate n fresh)) (one_fresh l) ∙ laid_fresh n (with_fresh l 1)
    ∙ ap (λ (r : ℕ). record { first = l.first; rest = r }) counts

fresh_moves : (l : Laid) (c : Cell) (cs : List Cell) → c ≡ fresh → with_rest (with_fresh l 1) ++ cs ≡ with_rest l ++ (c ∷ cs)
fresh_moves l c cs e =
    ap (λ (r : List Cell). (l.first ++ r) ++ cs) (sym (replicate_more l.rest fresh))
    ∙ ap (λ (r : List Cell). r ++ cs) (sym (append_assoc l.first (replicate l.rest fresh) (fresh ∷ [])))
    ∙ append_assoc (with_rest l) (fresh ∷ []) cs
    ∙ ap (λ (d : Cell). with_rest l ++ (d ∷ cs)) (sym e)

other_stays : (l : Laid) (c : Cell) (cs : List Cell) → ((with_rest l ++ c ∷ []) ++ []) ++ cs ≡ with_rest l ++ (c ∷ cs)
other_stays l c cs = ap (λ (r : List Cell). r ++ cs) (append-nil (with_rest l ++ c ∷ [])) ∙ append_assoc (with_rest l) (c ∷ []) cs

abbrev LaidTrimmed : List Cell → Laid → Type 0
LaidTrimmed cs l = trimmed l.first ≡ l.first → (fold with_cell l cs).first ≡ trimmed (with_rest l ++ cs)

laid_next : (c : Cell) (cs : List Cell) (l : Laid) → ((m : Laid) → LaidTrimmed cs m) → (b : Bool) → is_fresh c ≡ b → LaidTrimmed (c ∷ cs) l
laid_next c cs l later true e t = ap (λ (m : Laid). (fold with_cell m cs).first) (step_fresh l c e) ∙ later (with_fresh l 1) t
    ∙ ap trimmed (fresh_moves l c cs (only_fresh c e))
laid_next c cs l later false e t = ap (λ (m : Laid). (fold with_cell m cs).first) (step_other l c e)
    ∙ later (record { first = with_rest l ++ c ∷ []; rest = 0 }) (kept_end (with_rest l) c e)
    ∙ ap trimmed (other_stays l c cs)

laid_trimmed : (cs : List Cell) (l : Laid) → LaidTrimmed cs l
laid_trimmed [] l t = sym (ap trimmed (append-nil (with_rest l)) ∙ trimmed_fresh l.first l.rest ∙ t)
laid_trimmed (c ∷ cs) l t = laid_next c cs l (λ m. laid_trimmed cs m) (is_fresh c) refl t

trimmed_none : trimmed [] ≡ []
unfolding trimmed
trimmed_none = refl

-- what is kept of all cells
pub laid_all : (cs : List Cell) → (fold with_cell no_cells cs).first ≡ trimmed cs
laid_all cs = laid_trimmed cs no_cells trimmed_none

-- words ------------------------------------------------------------------------

pub filled_none : (at : ℕ) → filled_from at [] ≡ []
unfolding filled_from
filled_none at = refl

-- the cells up to the next word, the word, and the cells behind it
pub filled_next : (l : Laid) (at : ℕ) (ws : List (ℕ × ℕ)) (i : ℕ) → i < length ws →
    fold with_cell l (filled_from at (drop i ws))
    ≡ fold with_cell (with_cell (with_fresh l ((get_or ws i (0, 0)).0 - at)) ((get_or ws i (0, 0)).1, true)) (filled_from ((get_or ws i (0, 0)).0 + 1) (drop (i + 1) ws))
unfolding filled_from
filled_next l at ws i lt =
    let w = get_or ws i (0, 0) in
    let rest = (w.1, true) ∷ filled_from (w.0 + 1) (drop (i + 1) ws) in
    ap (λ (r : List (ℕ × ℕ)). fold with_cell l (filled_from at r)) (drop_more ws i (0, 0) lt)
    ∙ fold-append with_cell l (replicate (w.0 - at) fresh) rest
    ∙ ap (λ (m : Laid). fold with_cell m rest) (laid_fresh (w.0 - at) l)

pub ruleset cell_rules = (common_steps, laid_all, filled_none, filled_next)
