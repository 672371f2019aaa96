-- Streams by their flags.
use Rattle.std.proofs.Common.{◌≡◌, ℕ, zero, suc, ◌+◌, ◌-◌, ◌<◌, ◌≤◌, Bool, true, false, cond, leb, get_or, List, [], ◌∷◌, ◌++◌, length, take, drop, map, set, Some, refl, sym, ap, subst, ◌∙◌, arith}
use Rattle.std.specs.Prelude.{slice_get, sum_by, find, replicate}
use Rattle.std.proofs.lemmas.List.{append-nil, length-take, take-append-drop}
use Rattle.std.proofs.lemmas.List.Sums.{sum_by-cons, sum_by-set}
use Rattle.xc_sched.specs.Streams.{streams_from, streams_of, lowest_from}

-- ---- places in a list of two parts

pub get-append_left : (xs ys : List ℕ) (k : ℕ) → k < length xs → slice_get (xs ++ ys) k ≡ slice_get xs k
get-append_left [] ys k h = absurd (omega arith)
get-append_left (x ∷ xs) ys zero h = refl
get-append_left (x ∷ xs) ys (suc k) h = get-append_left xs ys k (omega arith)

pub get-append_right : (xs ys : List ℕ) (k : ℕ) → length xs ≤ k → slice_get (xs ++ ys) k ≡ slice_get ys (k - length xs)
get-append_right [] ys k h = let e : k ≡ k - 0 = omega arith in ap (slice_get ys) e
get-append_right (x ∷ xs) ys zero h = absurd (omega arith)
get-append_right (x ∷ xs) ys (suc k) h =
    let e : suc k - suc (length xs) ≡ k - length xs = omega arith in
    get-append_right xs ys k (omega arith) ∙ ap (slice_get ys) (sym e)

-- ---- streams of two parts

pub streams_from-append : (s : ℕ) (xs ys : List Bool) → streams_from s (xs ++ ys) ≡ streams_from s xs ++ streams_from (s + length xs) ys
streams_from-append s [] ys = let e : s + 0 ≡ s = omega arith in ap (λ n. streams_from n ys) (sym e)
streams_from-append s (true ∷ xs) ys =
    let e : suc s + length xs ≡ s + suc (length xs) = omega arith in
    ap (λ (x : List ℕ). s ∷ x) (streams_from-append (suc s) xs ys ∙ ap (λ n. streams_from (suc s) xs ++ streams_from n ys) e)
streams_from-append s (false ∷ xs) ys =
    let e : suc s + length xs ≡ s + suc (length xs) = omega arith in
    streams_from-append (suc s) xs ys ∙ ap (λ n. streams_from (suc s) xs ++ streams_from n ys) e

-- the streams of flags that begin at another stream
pub streams_from-add : (b s : ℕ) (flags : List Bool) → streams_from (b + s) flags ≡ map (λ x. b + x) (streams_from s flags)
streams_from-add b s [] = refl
streams_from-add b s (true ∷ flags) =
    let e : suc (b + s) ≡ b + suc s = omega arith in
    ap (λ (x : List ℕ). (b + s) ∷ x) (ap (λ n. streams_from n flags) e ∙ streams_from-add b (suc s) flags)
streams_from-add b s (false ∷ flags) =
    let e : suc (b + s) ≡ b + suc s = omega arith in
    ap (λ n. streams_from n flags) e ∙ streams_from-add b (suc s) flags

abbrev pub one : Bool → ℕ
one b = cond b 1 0

pub length-streams_from : (s : ℕ) (flags : List Bool) → length (streams_from s flags) ≡ sum_by one flags
length-streams_from s [] = refl
length-streams_from s (true ∷ flags) = omega (arith, length-streams_from (suc s) flags, sum_by-cons one true flags)
length-streams_from s (false ∷ flags) = omega (arith, length-streams_from (suc s) flags, sum_by-cons one false flags)

-- one flag changes the number of streams
pub length-streams-set : (flags : List Bool) (s : ℕ) (b : Bool) → s < length flags → length (streams_of (set flags s b)) + one (get_or flags s false) ≡ length (streams_of flags) + one b
length-streams-set flags s b h =
    omega (arith, length-streams_from 0 (set flags s b), length-streams_from 0 flags, sum_by-set one flags s b false h)

-- flags that are not set
pub streams_from-replicate : (s n : ℕ) → streams_from s (replicate n false) ≡ []
streams_from-replicate s zero = refl
streams_from-replicate s (suc n) = streams_from-replicate (suc s) n

-- ---- the lowest stream from one on

first_is : (s : ℕ) (b : ℕ) (flags : List Bool) → s ≤ b → lowest_from s (streams_from b flags) ≡ slice_get (streams_from b flags) 0
first_is s b [] h = refl
first_is s b (true ∷ flags) h = let e : leb s b ≡ true = grind arith in rw e refl
first_is s b (false ∷ flags) h = first_is s (suc b) flags (omega arith)

skip_one : (s b : ℕ) (streams : List ℕ) → b < s → lowest_from s (b ∷ streams) ≡ lowest_from s streams
skip_one s b streams h = let e : leb s b ≡ false = grind arith in rw e refl

lowest_at : (b n : ℕ) (flags : List Bool) → lowest_from (b + n) (streams_from b flags) ≡ slice_get (streams_from (b + n) (drop n flags)) 0
lowest_at b zero flags =
    let e : b + 0 ≡ b = omega arith in
    ap (λ k. lowest_from k (streams_from b flags)) e ∙ first_is b b flags (omega arith) ∙ ap (λ k. slice_get (streams_from k flags) 0) (sym e)
lowest_at b (suc n) [] = refl
lowest_at b (suc n) (true ∷ flags) =
    let e : suc b + n ≡ b + suc n = omega arith in
    skip_one (b + suc n) b (streams_from (suc b) flags) (omega arith) ∙ subst (λ k. lowest_from k (streams_from (suc b) flags) ≡ slice_get (streams_from k (drop n flags)) 0) e (lowest_at (suc b) n flags)
lowest_at b (suc n) (false ∷ flags) =
    let e : suc b + n ≡ b + suc n = omega arith in
    subst (λ k. lowest_from k (streams_from (suc b) flags) ≡ slice_get (streams_from k (drop n flags)) 0) e (lowest_at (suc b) n flags)

-- the lowest stream from one on is the first of the flags from there on
pub lowest_is : (n : ℕ) (flags : List Bool) → lowest_from n (streams_of flags) ≡ slice_get (streams_from n (drop n flags)) 0
lowest_is n flags =
    let e : 0 + n ≡ n = omega arith in
    subst (λ k. lowest_from k (streams_of flags) ≡ slice_get (streams_from k (drop n flags)) 0) e (lowest_at 0 n flags)

found_below : (s b x : ℕ) (flags : List Bool) (streams : List ℕ) (t : Bool) → streams ≡ streams_from (suc b) flags → (find (λ y. leb s y) streams ≡ Some x → x < suc b + length flags) → cond t (Some b) (find (λ y. leb s y) streams) ≡ Some x → x < b + suc (length flags)
found_below s b x flags streams true same h e = let is : b ≡ x = cc in omega arith
found_below s b x flags streams false same h e = let lt = h e in omega arith

-- a stream that is found has a flag
pub lowest_below : (s b x : ℕ) (flags : List Bool) → lowest_from s (streams_from b flags) ≡ Some x → x < b + length flags
lowest_below s b x [] e = absurd cc
lowest_below s b x (true ∷ flags) e = found_below s b x flags (streams_from (suc b) flags) (leb s b) refl (lowest_below s (suc b) x flags) e
lowest_below s b x (false ∷ flags) e = let lt = lowest_below s (suc b) x flags e in omega arith

-- the streams of flags, where those from n on are not set
pub streams_of-take : (n : ℕ) (flags : List Bool) → n ≤ length flags → streams_from n (drop n flags) ≡ [] → streams_of (take n flags) ≡ streams_of flags
streams_of-take n flags h none =
    let len : 0 + length (take n flags) ≡ n = omega (arith, length-take n flags) in
    sym (
    ap (streams_from 0) (sym (take-append-drop n flags)) ∙ streams_from-append 0 (take n flags) (drop n flags)
    ∙ ap (λ k. streams_of (take n flags) ++ streams_from k (drop n flags)) len
    ∙ ap (λ (x : List ℕ). streams_of (take n flags) ++ x) none ∙ append-nil (streams_of (take n flags))
    )
