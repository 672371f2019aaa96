-- The live words, by owners.
use Rattle.std.proofs.Common.{◌≡◌, ℕ, zero, suc, ◌+◌, ◌<◌, ◌≤◌, length, refl, sym, ap, ◌∙◌, arith}
use Rattle.xc_meaning_world.specs.World.{Segs}
use Rattle.xc_meaning_world.proofs.Puts.{by_same}
use Rattle.xc_isa.specs.declared.code.Code.{Code}
use Rattle.xc_isa.specs.Machine.{State, words_up_to, live_words}
use Rattle.xc_isa_streams.specs.Class.{Class}
use Rattle.xc_isa_streams.specs.Promises.{view, Stage, words_of_owners}
use Rattle.xc_isa_streams.proofs.Views.{view_mine, view_not}

module _ (owner : ℕ → ℕ) (m : Segs) where
  -- of one segment
  abbrev at_one : ℕ → ℕ → ℕ
  at_one zero g = 0
  at_one (suc c) g = at_one c g + length (view c owner m g)

  none_below : (c g : ℕ) → c ≤ owner g → at_one c g ≡ 0
  none_below zero g le = refl
  none_below (suc c) g le =
      let n = ap length (view_not c owner m g (λ e. omega (arith, e, le))) in
      omega (arith, n, none_below c g (omega (arith, le)))

  all_above : (c g : ℕ) → owner g < c → at_one c g ≡ length (m g)
  all_above zero g lt = absurd (omega (arith, lt))
  all_above (suc c) g lt =
      by_same _ (owner g) c
      (λ e. let n = ap length (view_mine c owner m g e) in omega (arith, n, none_below c g (omega (arith, e))))
      (λ ne. let n = ap length (view_not c owner m g ne) in omega (arith, n, all_above c g (lower c (owner g) lt ne)))
    where
      lower : (c n : ℕ) → n < suc c → (n ≡ c → ⊥) → n < c
      lower c n lt ne = omega (arith, lt, ne)

  first_words : (c : ℕ) → words_of_owners c owner m 0 ≡ at_one c 0
  first_words zero = refl
  first_words (suc c) = ap (λ n. n + length (view c owner m 0)) (first_words c)

  more_words : (c n : ℕ) → words_of_owners c owner m (suc n) ≡ words_of_owners c owner m n + at_one c (suc n)
  more_words zero n = omega arith
  more_words (suc c) n = let e = more_words c n in omega (arith, e)

  all_words : (c n : ℕ) → ((g : ℕ) → owner g < c) → words_up_to m n ≡ words_of_owners c owner m n
  all_words c zero below = sym (first_words c ∙ all_above c 0 (below 0))
  all_words c (suc n) below = let e = more_words c n in let a = all_above c (suc n) (below (suc n)) in omega (arith, e, a, all_words c n below)

pub words_by_owners : (of : ℕ → Class) (code : Code) (st : State) (made : ℕ) (g : Stage of code st.slots st.world st.last made) → live_words st ≡ words_of_owners (suc (suc (length g.acts))) g.owner st.world.segs st.last
words_by_owners of code st made g = all_words g.owner st.world.segs (suc (suc (length g.acts))) st.last g.owners
