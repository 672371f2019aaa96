-- An invariant holds after any interleaving.
use Rattle.std.proofs.Common.{◌≡◌, ℕ, zero, suc, ◌+◌, List, [], ◌∷◌, ◌++◌, length, refl, sym, ap, ◌∙◌, subst, arith, inl, inr}
use Rattle.xc_meaning_world.specs.World.{Got, Dead}
use Rattle.xc_meaning_world.specs.Runs.{part_of, NewIn}
use Rattle.xc_isa.specs.declared.code.Code.{Code}
use Rattle.xc_isa.specs.Machine as machine
use Rattle.xc_isa.specs.Machine.{Slot, State, After, step, start}
use Rattle.xc_isa.specs.Runs as ran
use Rattle.xc_isa.specs.Runs.{Ran, onward, run}
use Rattle.xc_isa_streams.specs.Class.{Class}
use Rattle.xc_isa_streams.specs.Parts.{Ask, Act, act, Parts, AllowsIn, request_of, IsAbove, up, Serves, SideMade}
use Rattle.xc_isa_streams.specs.Promises.{globals_of, first_parts, Shown, AsksBy, parted, own_view, Stage, Fallen, Moves, goes, quits, acts, StepsTo, HasSlots, RunsStand}
use Rattle.xc_isa_streams.proofs.Views.{view_mine}
use Rattle.xc_isa_streams.proofs.Standing.{shows}
use Rattle.xc_isa_streams_protocols.specs.Holding.{Happens, IsInvariant, HoldsIn, Holds}

-- what a list serves, it serves but for its last action, which is then allowed
pub record Split (p0 : Parts) (n0 : ℕ) (l : List (ℕ × Act)) (a : Act) (p' : Parts) : Type 0 where
  pub p : Parts
  pub n : ℕ
  pub num : ℕ
  pub serves : Serves p0 n0 l p n
  pub new : NewIn (IsAbove n) (request_of a.ask) num
  pub allows : AllowsIn a.ask a.reply num p p'

split : (p0 : Parts) (n0 i : ℕ) (l : List (ℕ × Act)) (a : Act) (p' : Parts) (n' : ℕ) → Serves p0 n0 (l ++ (i, a) ∷ []) p' n' → Split p0 n0 l a p'
split p0 n0 i [] a p' n' h = record { p = p0; n = n0; num = h.0; serves = (refl, omega arith); new = h.1; allows = subst (AllowsIn a.ask a.reply h.0 p0) h.4.0 h.3 }
split p0 n0 i ((j, b) ∷ l) a p' n' h =
    let s = split h.2 (up b.ask n0 h.0) i l a p' n' h.4 in
    record { p = s.p; n = s.n; num = s.num; serves = (h.0, h.1, h.2, h.3, s.serves); new = s.new; allows = s.allows }

module _ (of : ℕ → Class) (code : Code) (stands : RunsStand of code) (Inv : List (ℕ × Act) → Parts → Type 0) (kept : IsInvariant of code Inv) where
  abbrev StageOf : State → ℕ → Type 0
  StageOf st made = Stage of code st.slots st.world st.last made

  -- it holds of all parts that these actions lead to
  abbrev IsSo : List (ℕ × Act) → Type 0
  IsSo l = (p : Parts) (last : ℕ) → Serves (first_parts code) (globals_of code) l p last → Inv l p

  so_first : IsSo []
  so_first p last h = subst (Inv []) h.0 kept.first

  shown : (st : State) (made : ℕ) (g : StageOf st made) → Shown of code g.l g.steps
  shown st made g = record {
    in_turn = g.in_turn;
    each = λ a at arg h. let x = g.core.each a at arg h in (x.4, x.1, x.3, shows of code at arg x.1 x.0 (own_view a g.owner st.world.segs) st.last (part_of a g.l) x.5);
    none = λ a h. (g.core.none a h).1;
  }

  so_more : (st : State) (made : ℕ) (g : StageOf st made) (a : ℕ) (k : Ask) (v : ℕ) → AsksBy of code g.l a k → IsSo g.l → IsSo (g.l ++ (a, act k (Got v)) ∷ [])
  so_more st made g a k v asks so p' last h =
      let x = split (first_parts code) (globals_of code) a g.l (act k (Got v)) p' last h in
      kept.step g.l x.p a k v p' (so x.p x.n x.serves) (record { steps = g.steps; last = x.n; num = x.num; serves = x.serves; shown = shown st made g; alive = g.alive; asks = asks; new = x.new; allows = x.allows })

  so_moved : (st : State) (slots' : List Slot) (made s : ℕ) (g : StageOf st made) (l' : List (ℕ × Act)) → Moves of code st.slots slots' s (g.names s) g.l l' → IsSo g.l → IsSo l'
  so_moved st slots' made s g l' (goes same free pc r here) so = subst IsSo (sym same) so
  so_moved st slots' made s g l' (quits same free here) so = subst IsSo (sym same) so
  so_moved st slots' made s g l' (acts k v more asks free count) so = subst IsSo (sym more) (so_more st made g (g.names s) k v asks so)

  after_step : (st : State) (made s : ℕ) (ss : List ℕ) (g : StageOf st made) (x : After) (go : State → Ran) → StepsTo of code st.slots st.world st.last made g s x → IsSo g.l → ((st' : State) (g' : StageOf st' (suc made)) → IsSo g'.l → HoldsIn of code Inv (length ss + suc made) (go st')) → HoldsIn of code Inv (length ss + suc made) (onward x ss go)
  after_step st made s ss g (machine.At st') go f so next = next st' f.stage (so_moved st st'.slots made s g f.stage.l f.moves so)
  after_step st made s [] g (machine.Trap kind) go f so next =
      let n : suc made ≡ 0 + suc made = omega arith in
      subst (λ n. HoldsIn of code Inv n (ran.Trap kind)) n (f.fallen, g.l, g.names s, f.ask, f.more, so)
  after_step st made s (s' ∷ ss) g (machine.Trap kind) go f so next = tt
  after_step st made s ss g machine.Waits go f so next = tt
  after_step st made s ss g machine.Spent go f so next = tt

  holds_on : (ss : List ℕ) (st : State) (made : ℕ) (g : StageOf st made) → IsSo g.l → HoldsIn of code Inv (length ss + made) (run code ss st)
  holds_on [] st made g so =
      let n : made ≡ 0 + made = omega arith in
      subst (λ n. HoldsIn of code Inv n (ran.At st)) n (g, so (parted g.owner st.world) st.last g.serves, λ h made. view_mine 1 g.owner st.world.segs h (g.sides h made).0)
  holds_on (s ∷ ss) st made g so =
      let n : length ss + suc made ≡ suc (length ss) + made = omega arith in
      subst (λ n. HoldsIn of code Inv n (run code (s ∷ ss) st)) n
      (after_step st made s ss g (step code s st) (run code ss) (stands.steps st made g s) so (λ st' g' so'. holds_on ss st' (suc made) g' so'))

  pub holds : Holds of code Inv
  holds q n has ss =
      let g = stands.first q n has in
      let k : length ss + 0 ≡ length ss = omega arith in
      subst (λ k. HoldsIn of code Inv k (run code ss (start code q n))) k
      (holds_on ss (start code q n) 0 g.0 (subst IsSo (sym g.1) so_first))
