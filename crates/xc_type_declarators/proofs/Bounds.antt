-- Bounds, walked by an index.
use Rattle.std.proofs.Common.{◌≡◌, ℕ, zero, suc, ◌+◌, ◌*◌, ◌^◌, ◌<◌, ◌≤◌, List, [], ◌∷◌, ◌++◌, length, get_or, take, drop, Bool, true, false, refl, ap, sym, ◌∙◌, arith, add-one, if◌then◌else◌}
use Rattle.std.specs.Prelude.{Option, Some, None, nat_le}
use Rattle.std.proofs.Math.Seq.{drop-cons, take-suc}
use Rattle.std.proofs.lemmas.Grind.{common_steps}
use Rattle.xc_tree.specs.declared.ty.Ty.{Ty}
use Rattle.xc_tree.specs.Lists.{allows}
use Rattle.xc_tree.proofs.Lists.{and_left}
use Rattle.xc_tree.specs.Types.{is_size}
use Rattle.xc_type_rule.specs.declared.fault.Fault.{Fault}
use Rattle.xc_type_rule.specs.Least.{least_from}
use Rattle.xc_type_rule.proofs.Least.{least_append}
use Rattle.xc_type_declarators.specs.declared.declarators.Bound.{Bound}
use Rattle.xc_type_declarators.specs.Declarators.{arrayed, array_ty, number_of, or_one, fewest, is_bound, bound_faults, bounds_faults}

-- arrays -----------------------------------------------------------------

arrayed_push : (bs : List Bound) (b : Bound) (t : Option Ty) → arrayed (bs ++ b ∷ []) t ≡ arrayed bs (array_ty (number_of b) t)
unfolding arrayed
arrayed_push [] b t = refl
arrayed_push (c ∷ cs) b t = ap (array_ty (number_of c)) (arrayed_push cs b t)

pub arrayed_one : (bs : List Bound) (i : ℕ) (d : Bound) (t : Option Ty) → i < length bs →
    arrayed (take (i + 1) bs) t ≡ arrayed (take i bs) (array_ty (number_of (get_or bs i d)) t)
arrayed_one bs i d t lt = rw add-one (ap (λ l. arrayed l t) (take-suc bs i d lt) ∙ arrayed_push (take i bs) (get_or bs i d) t)

pub arrayed_none : (t : Option Ty) → arrayed [] t ≡ t
unfolding arrayed
arrayed_none t = refl

pub ruleset array_rules = (common_steps, arrayed_one, arrayed_none)

-- cells ------------------------------------------------------------------

pub fewest_none : (m : ℕ) → fewest m [] ≡ m
unfolding fewest
fewest_none m = refl

pub fewest_one : (m : ℕ) (bs : List Bound) (i : ℕ) (d : Bound) → i < length bs →
    fewest m (drop i bs) ≡ fewest (m * or_one (number_of (get_or bs i d))) (drop (i + 1) bs)
unfolding fewest
fewest_one m bs i d lt = rw add-one (ap (fewest m) (drop-cons bs i d lt))

-- too many cells stay too many: no bound is 0
grows : (m n : ℕ) → 1 ≤ n → m ≤ m * n
grows m zero some = absurd (omega (arith, some))
grows m (suc n) some = grind arith

least_bound : (b : Bound) → 1 ≤ or_one (number_of b)
least_bound b = by b.value
  where
    inner : (n : ℕ) (c : Bool) → is_bound n ≡ c → 1 ≤ or_one (if c then Some n else None)
    inner n true e = grind (arith, and_left (nat_le 1 n) _ e)
    inner n false e = omega arith

    by : (v : Option ℕ) → 1 ≤ or_one (if allows is_bound v then v else None)
    by None = omega arith
    by (Some n) = inner n _ refl

many : (m : ℕ) (bs : List Bound) → 2 ^ 22 < m → 2 ^ 22 < fewest m bs
unfolding fewest
many m [] over = over
many m (b ∷ bs) over = many (m * or_one (number_of b)) bs (omega (arith, over, grows m (or_one (number_of b)) (least_bound b)))

pub too_many : (m : ℕ) (bs : List Bound) → 2 ^ 22 < m → is_size (fewest m bs) ≡ false
too_many m bs over = size_false (fewest m bs) (many m bs over)
  where
    size_false : (n : ℕ) → 2 ^ 22 < n → is_size n ≡ false
    size_false n over = grind (arith, over)

pub ruleset cell_rules = (common_steps, fewest_none, fewest_one, too_many)

-- faults -----------------------------------------------------------------

-- the faults of the bounds from one on are its own and those of the later ones
pub told_one : (first : Option Fault) (bs : List Bound) (i : ℕ) (d : Bound) → i < length bs →
    least_from (least_from first (bound_faults (get_or bs i d))) (bounds_faults (drop (i + 1) bs)) ≡ least_from first (bounds_faults (drop i bs))
unfolding bounds_faults
told_one first bs i d lt =
    rw add-one (sym (ap (λ l. least_from first (bounds_faults l)) (drop-cons bs i d lt)
    ∙ least_append first (bound_faults (get_or bs i d)) (bounds_faults (drop (suc i) bs))))

pub told_none : (first : Option Fault) → least_from first (bounds_faults []) ≡ first
unfolding bounds_faults least_from
told_none first = refl

pub ruleset bound_rules = (common_steps, told_none, told_one)
