-- Which streams are ready, flag by flag.
use Rattle.std.proofs.Common.{◌≡◌, ℕ, suc, ◌+◌, ◌<◌, ◌≤◌, List, [], ◌∷◌, ◌++◌, length, take, map, get_or, Bool, sym, ap, ◌∙◌, arith}
use Rattle.std.specs.Prelude.{slice_set}
use Rattle.std.specs.List.{range_with_len}
use Rattle.std.proofs.Math.Seq.{take-suc, take-suc-set}
use Rattle.std.proofs.lemmas.List.{take_all}
use Rattle.std.proofs.lemmas.List.FromFn.{get_or-map-range_with_len, length-map-range_with_len}

-- one more flag is right
pub flags_more : (f : ℕ → Bool) (n s : ℕ) (ready : List Bool) (on : Bool) → length ready ≡ n → s < n → on ≡ f s → take s ready ≡ take s (map f (range_with_len 0 n))
    → take (s + 1) (slice_set ready s on) ≡ take (s + 1) (map f (range_with_len 0 n))
flags_more f n s ready on len lt is before =
    let next : s + 1 ≡ suc s = omega arith in
    let flags = map f (range_with_len 0 n) in
    let count = length-map-range_with_len f 0 n in
    let zero_plus : 0 + s ≡ s = omega arith in
    let here : get_or flags s on ≡ f s = get_or-map-range_with_len f 0 n s s on lt zero_plus in
    ap (λ k. take k (slice_set ready s on)) next
    ∙ take-suc-set ready s on (omega (arith, len, lt))
    ∙ ap (λ xs. xs ++ on ∷ []) before
    ∙ ap (λ b. take s flags ++ b ∷ []) (is ∙ sym here)
    ∙ sym (take-suc flags s on (omega (arith, count, lt)))
    ∙ ap (λ k. take k flags) (sym next)

-- all flags are right
pub flags_all : (f : ℕ → Bool) (n s : ℕ) (ready : List Bool) → length ready ≡ n → n ≤ s → take s ready ≡ take s (map f (range_with_len 0 n)) → ready ≡ map f (range_with_len 0 n)
flags_all f n s ready len le h =
    let count = length-map-range_with_len f 0 n in
    sym (take_all s ready (omega (arith, len, le))) ∙ h ∙ take_all s (map f (range_with_len 0 n)) (omega (arith, count, le))
