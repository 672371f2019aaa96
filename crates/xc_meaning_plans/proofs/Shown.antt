-- The samples, by computing.
use Rattle.std.specs.Prelude.{Option, Some, None, slice_get, if◌then◌else◌}
use Rattle.std.proofs.Common.{◌≡◌, ◌≢◌, ◌⊎◌, inl, inr, ℕ, suc, zero, ◌<◌, ◌==◌, arith, Bool, true, false, List, [], ◌∷◌, refl, sym, ◌∙◌, ap, subst}
use Rattle.xc_word.specs.declared.memory.Cell.{Cell}
use Rattle.xc_tree.specs.declared.pragmas.Root.{Root}
use Rattle.xc_tree.specs.declared.pragmas.Root.TheVariants as root
use Rattle.xc_lin.specs.declared.plan.Reason.{Reason}
use Rattle.xc_lin.specs.declared.certificate.PartCert.{PartCert}
use Rattle.xc_meaning_world.specs.World.{Segs}
use Rattle.xc_meaning_threads.specs.Meaning.{Env, env_of}
use Rattle.xc_meaning_source.specs.Cells.{Visit, cells_of_turn, visits_at, iterations, Conflict, IsAmong}
use Rattle.xc_meaning_source.specs.Premises.{ClaimsHold}
use Rattle.xc_meaning_plans.specs.Sound.{Entry, GuardHolds, ObjectsApart, PartsAreSound, PartIsSound, CellsAreSound, IsScanned}
use Rattle.xc_meaning_plans.specs.Samples.{reading, shifting, whole_body, side_by_side}

never : false ≡ true → ⊥
never e = cc

-- ---- a loop that only reads

only_read : (m : Segs) (o : Option Env) (v : Visit) → IsAmong v (visits_at m reading.test reading.body o) → v.touch.writes ≡ false
only_read m None v among = absurd among
only_read m (Some env) v (inl e) = ap (λ (x : Visit). x.touch.writes) e
only_read m (Some env) v (inr e) = absurd e

no_write : (a b : Bool) → a ≡ false → b ≡ false → (a ≡ true) ⊎ (b ≡ true) → ⊥
no_write a b x y (inl e) = never (sym x ∙ e)
no_write a b x y (inr e) = never (sym y ∙ e)

one_part : (a b : ℕ) (p q : PartCert) → a < b → slice_get (whole_body ∷ []) b ≡ Some q → ⊥
one_part a zero p q few y = omega (arith, few)
one_part a (suc b) p q few y = let e : None ≡ Some q = y in cc

pub reads : (why : Reason) → CellsAreSound 1 (side_by_side why) reading
reads why values m guard claims apart =
    let turn = λ (i : ℕ). slice_get (iterations reading.range reading.test values m) i in
    record {
      each = λ a p is letter i k v u ne in_i in_k of_v of_u c.
          absurd (no_write v.touch.writes u.touch.writes (only_read m (turn i) v in_i) (only_read m (turn k) u in_k) c.1);
      cuts = λ a b p q few x y. absurd (one_part a b p q few y);
    }

-- ---- a loop whose iteration writes what the next one reads

abbrev full : Cell
full = record { value = 0; full = true }

abbrev three : Segs
three s = if s == 1 then full ∷ full ∷ full ∷ [] else []

abbrev from_zero : List ℕ
from_zero = 0 ∷ 0 ∷ []

abbrev shifted : ℕ → List Visit
shifted i = cells_of_turn shifting.range shifting.test shifting.body from_zero three i

abbrev visit : ℕ → Bool → ℕ → Visit
visit off writes site = record { touch = record { place = record { seg = 1; off = off }; writes = writes }; site = site; statement = 0 }

nothing_asserted : ClaimsHold shifting.range.claims shifted
nothing_asserted = record {
  nodep = λ i k v u r ne both named x y c. named;
  noalias = λ i k v u r s both named x y ne known some same. named;
}

one_object : ObjectsApart 1 (env_of from_zero) shifting.range.claims.roots
one_object = record {
  behind = λ x among. absurd (no_local x among);
  differ = λ a b x y ne. absurd (ne (the_global a x ∙ sym (the_global b y)));
} where
  the_global : (a : Root) → IsAmong a (root.Global 0 ∷ root.Global 0 ∷ []) → a ≡ root.Global 0
  the_global a (inl e) = e
  the_global a (inr (inl e)) = e
  the_global a (inr (inr e)) = absurd e

  no_local : (x : ℕ) → IsAmong (root.Local x) (root.Global 0 ∷ root.Global 0 ∷ []) → ⊥
  no_local x among = let e : root.Local x ≡ root.Global 0 = the_global (root.Local x) among in cc

pub shifts : (why : Reason) → CellsAreSound 1 (side_by_side why) shifting → ⊥
shifts why sound =
    let parts = sound from_zero three (record { near = tt; apart = tt }) nothing_asserted one_object in
    let conflict = parts.each 0 whole_body refl refl 0 1 (visit 1 true 1) (visit 1 false 0) (λ e. cc) (inr (inl refl)) (inl refl) refl refl (refl, inl refl) in
    conflict.1
