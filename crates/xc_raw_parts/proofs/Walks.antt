-- The steps of a place, walked by an index.
use Rattle.std.proofs.Common.{◌≡◌, ℕ, suc, ◌+◌, ◌<◌, List, [], ◌∷◌, ◌++◌, length, get_or, drop, refl, sym, ap, ◌∙◌, add-one, slice_range, append_assoc}
use Rattle.std.proofs.Math.Seq.{drop-cons}
use Rattle.std.proofs.lemmas.Grind.{common_steps}
use Rattle.xc_lex.specs.declared.token.Token.{Token}
use Rattle.xc_raw.specs.declared.tree.Raw.{Raw, out-Raw}
use Rattle.xc_raw.specs.declared.tree.Raw.TheViews as views
use Rattle.xc_raw_parts.specs.declared.places.PlaceStep.{PlaceStep}
use Rattle.xc_raw_parts.specs.declared.places.PlaceStep.TheVariants as place
use Rattle.xc_raw_parts.specs.Places.{members_from, steps_around}

pub around_none : (source : List ℕ) (ts : List Token) (at end : ℕ) → steps_around source ts at end [] ≡ members_from source at (slice_range ts at end)
unfolding steps_around
around_none source ts at end = refl

-- the steps so far, the members up to the next index, the index, and the steps behind it
pub around_one : (source : List ℕ) (ts : List Token) (done : List PlaceStep) (at end : ℕ) (ps : List Raw) (i : ℕ) (d : Raw) → i < length ps →
    ((done ++ members_from source at (slice_range ts at (out-Raw (get_or ps i d)).first)) ++ place.Index ∷ []) ++ steps_around source ts (out-Raw (get_or ps i d)).end end (drop (i + 1) ps)
    ≡ done ++ steps_around source ts at end (drop i ps)
unfolding steps_around
around_one source ts done at end ps i d lt =
    let p = out-Raw (get_or ps i d) in
    let here = members_from source at (slice_range ts at p.first) in
    let rest = steps_around source ts p.end end (drop (suc i) ps) in
    rw add-one (append_assoc (done ++ here) (place.Index ∷ []) rest ∙ append_assoc done here (place.Index ∷ rest)
    ∙ sym (ap (λ l. done ++ steps_around source ts at end l) (drop-cons ps i d lt)))

pub ruleset walk_rules = (common_steps, views.the_lemmas, around_none, around_one)
