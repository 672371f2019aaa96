-- The code of a term does what the term does, on the world with a frame.
use Rattle.std.proofs.Common.{◌≡◌, ℕ, suc, ◌+◌, ◌^◌, ◌<◌, ◌≤◌, List, [], ◌∷◌, ◌++◌, length, Option, Some, None, Bool, true, false, cond, refl, ap, ◌∙◌, subst, arith, inl, inr}
use Rattle.std.specs.Prelude.{◌⊎◌, ◌==◌, not, slice_get}
use Rattle.xc_word.specs.declared.memory.Kind.TheVariants.{ReadXx, WriteXf}
use Rattle.xc_meaning_world.specs.World.{World, Request, On, Stop, Reach, Got, Dead, act_of, put, serve}
use Rattle.xc_tree.specs.declared.operator.BinOp.{BinOp}
use Rattle.xc_tree.specs.declared.operator.BinOp.TheVariants as op
use Rattle.xc_tree_words.specs.Words.{binary_word}
use Rattle.xc_word.specs.Numbers.{truth}
use Rattle.xc_isa.specs.declared.code.Code.{Code}
use Rattle.xc_isa.specs.declared.instr.BinaryOp.{BinaryOp}
use Rattle.xc_isa.specs.declared.instr.BinaryOp.TheVariants.{Add, Sub, Mul, And as BitAnd, Or as BitOr, Xor as BitXor, Shl, Shr, Sar, Slt, Sltu, Seq}
use Rattle.xc_isa.specs.declared.instr.DivideOp.{DivideOp}
use Rattle.xc_isa.specs.declared.instr.DivideOp.TheVariants.{Div, Divu, Rem, Remu}
use Rattle.xc_isa.specs.declared.instr.Test.{Test}
use Rattle.xc_isa.specs.declared.instr.TrapKind.{TrapKind}
use Rattle.xc_isa.specs.declared.instr.TrapKind.TheVariants as trap
use Rattle.xc_isa.specs.declared.instr.Instr.{Instr}
use Rattle.xc_isa.specs.declared.instr.Instr.TheVariants as instr
use Rattle.xc_isa.specs.Words.{binary, divide, holds}
use Rattle.xc_isa.specs.Effects.{Regs, read as register, Goes, Asks, sets, effect}
use Rattle.xc_isa.specs.Machine.{Live, last_after}
use Rattle.xc_isa.proofs.Follows.{HasAt, behind, has_back, Conf, conf, Goes_to, goes, asks, at_base, reaches_base}
use Rattle.xc_meaning.specs.Meaning.{Point, Value, Gives, given, then_value}
use Rattle.xc_gen.specs.Fits.{most_globals}
use Rattle.xc_gen.specs.Code.{flip, operation_code, save, load}
use Rattle.xc_gen.proofs.Ways.{Way, way_on, Falls, falls}
use Rattle.xc_gen.proofs.Deeds.{Given, Died, given_none, given_on, died_first, died_on}
use Rattle.xc_gen.proofs.Places.{Sound, framed, place, frame_at, IsSmall, small, saved, loaded}

-- ---- where code stands

behind_is : (pc : ℕ) (a : List Instr) → behind pc a ≡ pc + length a
behind_is pc [] = omega arith
behind_is pc (i ∷ a) = omega (arith, behind_is (suc pc) a)

pub has_rest : (code : List Instr) (pc : ℕ) (a b : List Instr) → HasAt code pc (a ++ b) → HasAt code (pc + length a) b
has_rest code pc a b h = subst (λ k. HasAt code k b) (behind_is pc a) (has_back code pc a b h)

pub has_next : (code : List Instr) (pc : ℕ) (i : Instr) (b : List Instr) → HasAt code pc (i ∷ b) → HasAt code (pc + 1) b
has_next code pc i b h = let e : suc pc ≡ pc + 1 = omega arith in subst (λ k. HasAt code k b) e h.1

pub flip_truth : (b : Bool) → truth (truth b == 0) ≡ truth (not b)
flip_truth true = refl
flip_truth false = refl

module _ (n cells : ℕ) (code : Code) (few : n ≤ most_globals) (short : cells ≤ 2 ^ 32) where
  abbrev at : ℕ → Regs → World → (ℕ → ℕ) → Conf
  at = place n cells

  abbrev P : Conf → Type 0
  P = IsSmall n cells

  abbrev fp : ℕ
  fp = frame_at n cells

  -- the code from pc on gives the value, in b steps at most; it comes to pc', with the frame's words below d kept
  pub record Gave (b d : ℕ) (m : Point → Value) (pc : ℕ) (r : Regs) (w : World) (f : ℕ → ℕ) (pc' : ℕ) : Type 0 where
    pub v : ℕ
    pub world : World
    pub regs : Regs
    pub words : ℕ → ℕ
    pub steps : ℕ
    pub source : Given n m w v world
    pub sound : Sound n cells world
    pub value : regs 16 ≡ v
    pub pointer : regs 23 ≡ fp
    pub low : (i : ℕ) → i < d → words i ≡ f i
    pub bound : steps ≤ b
    pub way : Way code P steps (at pc r w f) (at pc' regs world words)

  -- it traps, after b steps at most
  pub record Fell (b : ℕ) (m : Point → Value) (pc : ℕ) (r : Regs) (w : World) (f : ℕ → ℕ) : Type 0 where
    pub steps : ℕ
    pub last : Conf
    pub kind : TrapKind
    pub source : Died n m w
    pub bound : steps ≤ b
    pub smallness : P last
    pub printed : last.world.out ≡ source.world.out
    pub way : Way code P steps (at pc r w f) last
    pub fall : Falls code kind last

  abbrev pub Evals : ℕ → ℕ → (Point → Value) → ℕ → Regs → World → (ℕ → ℕ) → ℕ → Type 0
  Evals b d m pc r w f pc' = Gave b d m pc r w f pc' ⊎ Fell b m pc r w f

  -- ---- composition

  pub bind : (b b' c d d' : ℕ) (m : Point → Value) (go : ℕ → Point → Value) (pc pc1 pc2 : ℕ) (r : Regs) (w : World) (f : ℕ → ℕ) → d ≤ d' → b + b' ≤ c → Evals b d' m pc r w f pc1
      → ((v : ℕ) (r1 : Regs) (w1 : World) (f1 : ℕ → ℕ) → Sound n cells w1 → r1 16 ≡ v → r1 23 ≡ fp → ((i : ℕ) → i < d' → f1 i ≡ f i) → Evals b' d (go v) pc1 r1 w1 f1 pc2) → Evals c d (λ p. then_value (m p) go) pc r w f pc2
  unfolding died_on died_first
  bind b b' c d d' m go pc pc1 pc2 r w f dd le (inr h) next = inr (record { steps = h.steps; last = h.last; kind = h.kind; source = died_first n m go w h.source; bound = omega (arith, h.bound); smallness = h.smallness; printed = h.printed; way = h.way; fall = h.fall })
  bind b b' c d d' m go pc pc1 pc2 r w f dd le (inl h) next = second (next h.v h.regs h.world h.words h.sound h.value h.pointer h.low)
    where
      second : Evals b' d (go h.v) pc1 h.regs h.world h.words pc2 → Evals c d (λ p. then_value (m p) go) pc r w f pc2
      second (inl k) = inl (record {
        v = k.v;
        world = k.world;
        regs = k.regs;
        words = k.words;
        steps = h.steps + k.steps;
        source = given_on n m go w h.world k.world h.v k.v h.source k.source;
        sound = k.sound;
        value = k.value;
        pointer = k.pointer;
        low = λ i lt. k.low i lt ∙ h.low i (omega arith);
        bound = omega (arith, h.bound, k.bound);
        way = way_on code P h.steps k.steps (at pc r w f) (at pc1 h.regs h.world h.words) (at pc2 k.regs k.world k.words) h.way k.way;
      })
      second (inr k) = inr (record {
        steps = h.steps + k.steps;
        last = k.last;
        kind = k.kind;
        source = died_on n m go w h.world h.v h.source k.source;
        bound = omega (arith, h.bound, k.bound);
        smallness = k.smallness;
        printed = k.printed;
        way = way_on code P h.steps k.steps (at pc r w f) (at pc1 h.regs h.world h.words) k.last h.way k.way;
        fall = k.fall;
      })

  -- steps that the source does not see
  pub after : (k b c d : ℕ) (m : Point → Value) (pc pc1 pc2 : ℕ) (r r1 : Regs) (w : World) (f f1 : ℕ → ℕ) → k + b ≤ c → Way code P k (at pc r w f) (at pc1 r1 w f1) → ((i : ℕ) → i < d → f1 i ≡ f i) → Evals b d m pc1 r1 w f1 pc2 → Evals c d m pc r w f pc2
  after k b c d m pc pc1 pc2 r r1 w f f1 le way low (inl h) = inl (record {
    v = h.v;
    world = h.world;
    regs = h.regs;
    words = h.words;
    steps = k + h.steps;
    source = h.source;
    sound = h.sound;
    value = h.value;
    pointer = h.pointer;
    low = λ i lt. h.low i lt ∙ low i lt;
    bound = omega (arith, h.bound);
    way = way_on code P k h.steps (at pc r w f) (at pc1 r1 w f1) (at pc2 h.regs h.world h.words) way h.way;
  })
  after k b c d m pc pc1 pc2 r r1 w f f1 le way low (inr h) = inr (record {
    steps = k + h.steps;
    last = h.last;
    kind = h.kind;
    source = h.source;
    bound = omega (arith, h.bound);
    smallness = h.smallness;
    printed = h.printed;
    way = way_on code P k h.steps (at pc r w f) (at pc1 r1 w f1) h.last way h.way;
    fall = h.fall;
  })

  -- the value is there
  pub ends : (v d pc : ℕ) (r : Regs) (w : World) (f : ℕ → ℕ) → Sound n cells w → r 16 ≡ v → r 23 ≡ fp → Evals 0 d (Gives v) pc r w f pc
  ends v d pc r w f s e p = inl (record { v = v; world = w; regs = r; words = f; steps = 0; source = given_none n v w; sound = s; value = e; pointer = p; low = λ i lt. refl; bound = omega arith; way = refl })

  pub to : (b d : ℕ) (m : Point → Value) (pc pc1 pc2 : ℕ) (r : Regs) (w : World) (f : ℕ → ℕ) → pc1 ≡ pc2 → Evals b d m pc r w f pc1 → Evals b d m pc r w f pc2
  to b d m pc pc1 pc2 r w f e h = subst (Evals b d m pc r w f) e h

  -- ---- one step

  pub go_step : (i : Instr) (pc pc' : ℕ) (r r' : Regs) (w : World) (f : ℕ → ℕ) → Sound n cells w → slice_get code.instrs pc ≡ Some i → effect code.formats (Some i) pc r ≡ Goes pc' r' → Way code P 1 (at pc r w f) (at pc' r' w f)
  go_step i pc pc' r r' w f s there eff = (small n cells pc r w f s, at pc' r' w f, goes code i pc pc' r r' (framed n cells w f) (suc n) there eff, refl)

  -- the same to the next position
  pub next_step : (i : Instr) (pc : ℕ) (r r' : Regs) (w : World) (f : ℕ → ℕ) → Sound n cells w → slice_get code.instrs pc ≡ Some i → effect code.formats (Some i) pc r ≡ Goes (suc pc) r' → Way code P 1 (at pc r w f) (at (pc + 1) r' w f)
  next_step i pc r r' w f s there eff =
      let e : suc pc ≡ pc + 1 = omega arith in
      subst (λ k. Way code P 1 (at pc r w f) (at k r' w f)) e (go_step i pc (suc pc) r r' w f s there eff)

  pub ask_step : (i : Instr) (q : Request) (pc : ℕ) (r : Regs) (rf : ℕ → Regs) (v : ℕ) (w w' : World) (f f' : ℕ → ℕ) → Sound n cells w → slice_get code.instrs pc ≡ Some i → effect code.formats (Some i) pc r ≡ Asks q (suc pc) rf → serve q (suc (suc n)) (framed n cells w f) ≡ Some (Got v, framed n cells w' f')
      → last_after q (suc n) ≡ suc n → Way code P 1 (at pc r w f) (at (pc + 1) (rf v) w' f')
  ask_step i q pc r rf v w w' f f' s there eff answer stays =
      let e : suc pc ≡ pc + 1 = omega arith in
      let step = asks code i q pc (suc pc) r rf v (framed n cells w f) (framed n cells w' f') (suc n) there eff answer (omega (arith, stays, few)) in
      subst (λ k. Way code P 1 (at pc r w f) (at k (rf v) w' f')) e
      (small n cells pc r w f s, at (suc pc) (rf v) w' f', subst (λ l. Goes_to code (at pc r w f) (conf (Live (suc pc) (rf v)) (framed n cells w' f') l)) stays step, refl)

  pub save_step : (d pc : ℕ) (r : Regs) (w : World) (f : ℕ → ℕ) → Sound n cells w → r 23 ≡ fp → d < cells → slice_get code.instrs pc ≡ Some (save d) → Way code P 1 (at pc r w f) (at (pc + 1) r w (put f d (r 16)))
  save_step d pc r w f s p lt there = ask_step (save d) (On (Reach (at_base WriteXf (suc n) d (r 16)))) pc r (λ v. r) 0 w w f (put f d (r 16)) s there
      (reaches_base WriteXf (r 23) (suc n) d (r 16) (suc pc) (λ v. r) p (omega arith)) (saved n cells (suc (suc n)) d (r 16) w f lt) refl

  pub load_step : (x d pc : ℕ) (r : Regs) (w : World) (f : ℕ → ℕ) → Sound n cells w → r 23 ≡ fp → d < cells → slice_get code.instrs pc ≡ Some (load x d) → Way code P 1 (at pc r w f) (at (pc + 1) (put r x (f d)) w f)
  load_step x d pc r w f s p lt there = ask_step (load x d) (On (Reach (at_base ReadXx (suc n) d 0))) pc r (λ v. put r x v) (f d) w w f f s there
      (reaches_base ReadXx (r 23) (suc n) d 0 (suc pc) (λ v. put r x v) p (omega arith)) (loaded n cells (suc (suc n)) d w f lt) refl

  branch_step : (test : Test) (to pc : ℕ) (r : Regs) (w : World) (f : ℕ → ℕ) (z : Bool) → Sound n cells w → slice_get code.instrs pc ≡ Some (instr.Branch test 16 to) → holds test (r 16) ≡ z → Way code P 1 (at pc r w f) (at (cond z to (suc pc)) r w f)
  branch_step test to pc r w f z s there e = go_step (instr.Branch test 16 to) pc (cond z to (suc pc)) r r w f s there (ap (λ b. Goes (cond b to (suc pc)) r) e)

  pub taken : (test : Test) (to pc : ℕ) (r : Regs) (w : World) (f : ℕ → ℕ) → Sound n cells w → slice_get code.instrs pc ≡ Some (instr.Branch test 16 to) → holds test (r 16) ≡ true → Way code P 1 (at pc r w f) (at to r w f)
  taken test to pc r w f s there e = branch_step test to pc r w f true s there e

  pub passed : (test : Test) (to pc : ℕ) (r : Regs) (w : World) (f : ℕ → ℕ) → Sound n cells w → slice_get code.instrs pc ≡ Some (instr.Branch test 16 to) → holds test (r 16) ≡ false → Way code P 1 (at pc r w f) (at (pc + 1) r w f)
  passed test to pc r w f s there e =
      let k : suc pc ≡ pc + 1 = omega arith in
      subst (λ k. Way code P 1 (at pc r w f) (at k r w f)) k (branch_step test to pc r w f false s there e)

  -- ---- operators

  binary_step : (o : BinaryOp) (a b pc : ℕ) (r : Regs) (w : World) (f : ℕ → ℕ) → Sound n cells w → slice_get code.instrs pc ≡ Some (instr.Binary o 16 a b) → Way code P 1 (at pc r w f) (at (pc + 1) (put r 16 (binary o (register r a) (register r b))) w f)
  binary_step o a b pc r w f s there = next_step (instr.Binary o 16 a b) pc r (put r 16 (binary o (register r a) (register r b))) w f s there refl

  -- one instruction gives the value
  one_binary : (o : BinaryOp) (a b d pc : ℕ) (r : Regs) (w : World) (f : ℕ → ℕ) → Sound n cells w → r 23 ≡ fp → slice_get code.instrs pc ≡ Some (instr.Binary o 16 a b) → Evals 2 d (Gives (binary o (register r a) (register r b))) pc r w f (pc + 1)
  one_binary o a b d pc r w f s p there =
      let v = binary o (register r a) (register r b) in
      after 1 0 2 d (Gives v) pc (pc + 1) (pc + 1) r (put r 16 v) w f f (omega arith) (binary_step o a b pc r w f s there) (λ i lt. refl) (ends v d (pc + 1) (put r 16 v) w f s refl p)

  -- a second one turns a truth round
  then_flip : (o : BinaryOp) (a b d pc : ℕ) (z : Bool) (r : Regs) (w : World) (f : ℕ → ℕ) → Sound n cells w → r 23 ≡ fp → binary o (register r a) (register r b) ≡ truth z → HasAt code.instrs pc (instr.Binary o 16 a b ∷ flip ∷ []) → Evals 2 d (Gives (truth (not z))) pc r w f (pc + 2)
  then_flip o a b d pc z r w f s p is there =
      let v = binary o (register r a) (register r b) in
      let r1 = put r 16 v in
      let r2 = put r1 16 (truth (v == 0)) in
      let e : pc + 1 + 1 ≡ pc + 2 = omega arith in
      let there2 = has_next code.instrs pc (instr.Binary o 16 a b) (flip ∷ []) there in
      to 2 d (Gives (truth (not z))) pc (pc + 1 + 1) (pc + 2) r w f e
      (after 1 1 2 d (Gives (truth (not z))) pc (pc + 1) (pc + 1 + 1) r r1 w f f (omega arith) (binary_step o a b pc r w f s there.0) (λ i lt. refl)
      (after 1 0 1 d (Gives (truth (not z))) (pc + 1) (pc + 1 + 1) (pc + 1 + 1) r1 r2 w f f (omega arith) (binary_step Seq 16 0 (pc + 1) r1 w f s there2.0) (λ i lt. refl)
      (ends (truth (not z)) d (pc + 1 + 1) r2 w f s (ap (λ u. truth (u == 0)) is ∙ flip_truth z) p)))

  divided : (o : DivideOp) (d pc : ℕ) (r : Regs) (w : World) (f : ℕ → ℕ) → Sound n cells w → r 23 ≡ fp → slice_get code.instrs pc ≡ Some (instr.Divide o 16 17 16) → Evals 2 d (given (divide o (r 17) (r 16))) pc r w f (pc + 1)
  divided o d pc r w f s p there = by_value (divide o (r 17) (r 16)) refl
    where
      i : Instr
      i = instr.Divide o 16 17 16

      by_value : (x : Option ℕ) → divide o (r 17) (r 16) ≡ x → Evals 2 d (given x) pc r w f (pc + 1)
      by_value None e = inr (record {
        steps = 0;
        last = at pc r w f;
        kind = trap.Divide;
        source = record { acts = act_of Stop Dead ∷ []; world = w; chain = (s.none (suc n) (omega arith), w, refl, refl); front = []; request = Stop; last = refl; says = λ rs t. refl };
        bound = omega arith;
        smallness = small n cells pc r w f s;
        printed = refl;
        way = refl;
        fall = falls code (instr.Divide o 16 17 16) trap.Divide pc r (framed n cells w f) (suc n) there (ap (λ x. sets trap.Divide 16 x (suc pc) r) e);
      })
      by_value (Some v) e = after 1 0 2 d (Gives v) pc (pc + 1) (pc + 1) r (put r 16 v) w f f (omega arith)
          (next_step (instr.Divide o 16 17 16) pc r (put r 16 v) w f s there (ap (λ x. sets trap.Divide 16 x (suc pc) r) e)) (λ i lt. refl) (ends v d (pc + 1) (put r 16 v) w f s refl p)

  operated : (o : BinOp) (u : Bool) (d pc : ℕ) (r : Regs) (w : World) (f : ℕ → ℕ) → Sound n cells w → r 23 ≡ fp → HasAt code.instrs pc (operation_code o u) → Evals 2 d (given (binary_word o u (r 17) (r 16))) pc r w f (pc + length (operation_code o u))
  operated op.Mul u d pc r w f s p has = one_binary Mul 17 16 d pc r w f s p has.0
  operated op.Div true d pc r w f s p has = divided Divu d pc r w f s p has.0
  operated op.Div false d pc r w f s p has = divided Div d pc r w f s p has.0
  operated op.Rem true d pc r w f s p has = divided Remu d pc r w f s p has.0
  operated op.Rem false d pc r w f s p has = divided Rem d pc r w f s p has.0
  operated op.Add u d pc r w f s p has = one_binary Add 17 16 d pc r w f s p has.0
  operated op.Sub u d pc r w f s p has = one_binary Sub 17 16 d pc r w f s p has.0
  operated op.Shl u d pc r w f s p has = one_binary Shl 17 16 d pc r w f s p has.0
  operated op.Shr true d pc r w f s p has = one_binary Shr 17 16 d pc r w f s p has.0
  operated op.Shr false d pc r w f s p has = one_binary Sar 17 16 d pc r w f s p has.0
  operated op.Lt true d pc r w f s p has = one_binary Sltu 17 16 d pc r w f s p has.0
  operated op.Lt false d pc r w f s p has = one_binary Slt 17 16 d pc r w f s p has.0
  operated op.Gt true d pc r w f s p has = one_binary Sltu 16 17 d pc r w f s p has.0
  operated op.Gt false d pc r w f s p has = one_binary Slt 16 17 d pc r w f s p has.0
  operated op.Le true d pc r w f s p has = then_flip Sltu 16 17 d pc _ r w f s p refl has
  operated op.Le false d pc r w f s p has = then_flip Slt 16 17 d pc _ r w f s p refl has
  operated op.Ge true d pc r w f s p has = then_flip Sltu 17 16 d pc _ r w f s p refl has
  operated op.Ge false d pc r w f s p has = then_flip Slt 17 16 d pc _ r w f s p refl has
  operated op.Eq u d pc r w f s p has = one_binary Seq 17 16 d pc r w f s p has.0
  operated op.Ne u d pc r w f s p has = then_flip Seq 17 16 d pc _ r w f s p refl has
  operated op.BitAnd u d pc r w f s p has = one_binary BitAnd 17 16 d pc r w f s p has.0
  operated op.BitXor u d pc r w f s p has = one_binary BitXor 17 16 d pc r w f s p has.0
  operated op.BitOr u d pc r w f s p has = one_binary BitOr 17 16 d pc r w f s p has.0

  pub operation_runs : (o : BinOp) (u : Bool) (x y d pc : ℕ) (r : Regs) (w : World) (f : ℕ → ℕ) → Sound n cells w → r 17 ≡ x → r 16 ≡ y → r 23 ≡ fp → HasAt code.instrs pc (operation_code o u) → Evals 2 d (given (binary_word o u x y)) pc r w f (pc + length (operation_code o u))
  operation_runs o u x y d pc r w f s ex ey p has =
      subst (λ y. Evals 2 d (given (binary_word o u x y)) pc r w f (pc + length (operation_code o u))) ey
      (subst (λ x. Evals 2 d (given (binary_word o u x (r 16))) pc r w f (pc + length (operation_code o u))) ex (operated o u d pc r w f s p has))
