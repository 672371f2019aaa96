-- Walks down lists of effects and of functions.
use Rattle.std.proofs.Common.{◌≡◌, ℕ, suc, ◌+◌, ◌<◌, List, [], ◌∷◌, ◌++◌, length, get_or, drop, map, Bool, true, false, refl, ap, ◌∙◌, add-one}
use Rattle.std.specs.Prelude.{◌&&◌, ◌||◌}
use Rattle.std.proofs.Math.Seq.{drop-cons}
use Rattle.std.proofs.lemmas.Grind.{common_steps}
use Rattle.xc_tree.specs.declared.tree.Func.{Func}
use Rattle.xc_tree.specs.Lists.{every, some}
use Rattle.xc_tree.specs.declared.stmt.Stmt.{Stmt}
use Rattle.xc_tree.specs.declared.stmt.Item.{Item}
use Rattle.xc_form.specs.Normal.{exits}
use Rattle.xc_form.specs.InnerNormal.{any_exits, item_exits, any_item_exits}
use Rattle.xc_form.specs.Purity.{is_pure, purity_from}

-- what passes leaves the rest to decide
pub every_but : {X : Type 0} (p : X → Bool) (xs : List X) (i : ℕ) (d : X) → i < length xs → p (get_or xs i d) ≡ true → every (map p (drop i xs)) ≡ every (map p (drop (i + 1) xs))
every_but p xs i d lt passes =
    rw add-one (ap (λ l. every (map p l)) (drop-cons xs i d lt) ∙ ap (λ b. b && every (map p (drop (suc i) xs))) passes)

-- what does not pass decides
pub every_fails : {X : Type 0} (p : X → Bool) (xs : List X) (i : ℕ) (d : X) → i < length xs → p (get_or xs i d) ≡ false → every (map p (drop i xs)) ≡ false
every_fails p xs i d lt fails =
    ap (λ l. every (map p l)) (drop-cons xs i d lt) ∙ ap (λ b. b && every (map p (drop (suc i) xs))) fails

-- one of the parts leaves the loop around them
abbrev some_leave : {X : Type 0} → (X → Bool → Bool) → List X → Bool → Bool
some_leave p xs here = some (map (λ s. s here) (map p xs))

leave_rest : {X : Type 0} (p : X → Bool → Bool) (xs : List X) (here : Bool) (i : ℕ) (d : X) → i < length xs → p (get_or xs i d) here ≡ false → some_leave p (drop i xs) here ≡ some_leave p (drop (i + 1) xs) here
leave_rest p xs here i d lt stays =
    rw add-one (ap (λ l. some_leave p l here) (drop-cons xs i d lt) ∙ ap (λ b. b || some_leave p (drop (suc i) xs) here) stays)

leave_found : {X : Type 0} (p : X → Bool → Bool) (xs : List X) (here : Bool) (i : ℕ) (d : X) → i < length xs → p (get_or xs i d) here ≡ true → some_leave p (drop i xs) here ≡ true
leave_found p xs here i d lt leaves =
    ap (λ l. some_leave p l here) (drop-cons xs i d lt) ∙ ap (λ b. b || some_leave p (drop (suc i) xs) here) leaves

pub exits_rest : (ss : List Stmt) (here : Bool) (i : ℕ) (d : Stmt) → i < length ss → exits (get_or ss i d) here ≡ false → any_exits (drop i ss) here ≡ any_exits (drop (i + 1) ss) here
exits_rest ss here i d lt stays = leave_rest exits ss here i d lt stays

pub exits_found : (ss : List Stmt) (here : Bool) (i : ℕ) (d : Stmt) → i < length ss → exits (get_or ss i d) here ≡ true → any_exits (drop i ss) here ≡ true
exits_found ss here i d lt leaves = leave_found exits ss here i d lt leaves

pub items_rest : (items : List Item) (here : Bool) (i : ℕ) (d : Item) → i < length items → item_exits (get_or items i d) here ≡ false → any_item_exits (drop i items) here ≡ any_item_exits (drop (i + 1) items) here
items_rest items here i d lt stays = leave_rest item_exits items here i d lt stays

pub items_found : (items : List Item) (here : Bool) (i : ℕ) (d : Item) → i < length items → item_exits (get_or items i d) here ≡ true → any_item_exits (drop i items) here ≡ true
items_found items here i d lt leaves = leave_found item_exits items here i d lt leaves

pub purity_one : (done : List Bool) (fs : List Func) (i : ℕ) (d : Func) → i < length fs →
    purity_from done (drop i fs) ≡ purity_from (done ++ is_pure done (get_or fs i d) ∷ []) (drop (i + 1) fs)
unfolding purity_from
purity_one done fs i d lt = rw add-one (ap (purity_from done) (drop-cons fs i d lt))

pub purity_end : (done : List Bool) → purity_from done [] ≡ done
unfolding purity_from
purity_end done = refl

pub ruleset walk_rules = (common_steps, every_but, every_fails, exits_rest, exits_found, items_rest, items_found, purity_one, purity_end)
