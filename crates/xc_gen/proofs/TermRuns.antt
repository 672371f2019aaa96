-- The code of a whole term.
use Rattle.std.proofs.Common.{◌≡◌, ℕ, suc, ◌+◌, ◌-◌, ◌*◌, ◌^◌, ◌<◌, ◌≤◌, List, [], ◌∷◌, ◌++◌, length, map, Some, Bool, true, false, cond, refl, sym, ap, ◌∙◌, subst, arith, inl, inr, length-append, ◌%◌}
use Rattle.std.specs.Prelude.{◌==◌, not, slice_get, unwrap_or}
use Rattle.xc_word.specs.declared.memory.Kind.TheVariants.{ReadXx, WriteXf}
use Rattle.xc_word.specs.Table.{full_with}
use Rattle.xc_meaning_world.specs.World.{World, Request, On, Print as Shows, Reach, Got, act_of, put}
use Rattle.xc_meaning_world.proofs.Puts.{put_at, put_other}
use Rattle.xc_text_format.specs.Pieces.{text_of}
use Rattle.xc_tree.specs.declared.operator.BinOp.{BinOp}
use Rattle.xc_tree.specs.declared.operator.UnOp.{UnOp}
use Rattle.xc_tree.specs.declared.operator.UnOp.TheVariants as unary
use Rattle.xc_tree_words.specs.Words.{binary_word, unary_word}
use Rattle.xc_word.specs.Numbers.{truth}
use Rattle.xc_isa.specs.declared.code.Code.{Code}
use Rattle.xc_isa.specs.declared.instr.BinaryOp.TheVariants.{Sub}
use Rattle.xc_isa.specs.declared.instr.LoadKind.TheVariants.{Ld}
use Rattle.xc_isa.specs.declared.instr.StoreKind.TheVariants.{St}
use Rattle.xc_isa.specs.declared.instr.Test.{Test}
use Rattle.xc_isa.specs.declared.instr.Test.TheVariants.{Zero, NotZero}
use Rattle.xc_isa.specs.declared.instr.Instr.{Instr}
use Rattle.xc_isa.specs.declared.instr.Instr.TheVariants as instr
use Rattle.xc_isa.specs.Effects.{Regs, read as register, printed_regs, prints}
use Rattle.xc_isa.proofs.Follows.{HasAt, has_front, Conf, at_base, reaches_base}
use Rattle.xc_meaning.specs.Terms.{Term, Number, Read, Write, Update, Unary, Binary, And, Or, Cond, Comma, Print, Terms, NoMore, More}
use Rattle.xc_meaning.specs.Meaning.{Point, Value, Gives, given, then_value, ask, read, write, show, format_at, as_truth, value_of, with_values}
use Rattle.xc_gen.specs.Fits.{most_globals, count_of, NamesBelow, AllNamesBelow, PrintsSo, PrintsFit, AllPrintsFit}
use Rattle.xc_gen.specs.Code.{flip, operation_code, unary_code, pointer_to, read_code, write_code, save, load, apply_code, old_code, as_truth_code, decided_code, choice_code, loads_code, print_code, term_code, terms_code, waiting_in, waiting_among}
use Rattle.xc_gen.specs.Faithful.{size_of, size_of_all}
use Rattle.xc_gen.proofs.Ways.{Way, way_on}
use Rattle.xc_gen.proofs.Deeds.{Given, given_none, given_on}
use Rattle.xc_gen.proofs.Places.{Sound, framed, place, frame_at, IsSmall, with_cell, sound_with, sound_out, reaches_source, reaches_machine}
use Rattle.xc_gen.proofs.Prints.{Hold, text_begins, printed_begin}
use Rattle.xc_gen.proofs.Paths.{has_rest, has_next, flip_truth}
use Rattle.xc_gen.proofs.Paths as paths

module _ (n cells : ℕ) (code : Code) (few : n ≤ most_globals) (short : cells ≤ 2 ^ 32) where
  abbrev at : ℕ → Regs → World → (ℕ → ℕ) → Conf
  at = place n cells

  abbrev P : Conf → Type 0
  P = IsSmall n cells

  abbrev fp : ℕ
  fp = frame_at n cells

  abbrev pub Evals : ℕ → ℕ → (Point → Value) → ℕ → Regs → World → (ℕ → ℕ) → ℕ → Type 0
  Evals = paths.Evals n cells code few short

  -- ---- accesses to globals

  abbrev reading : ℕ → Request
  reading g = On (Reach (at_base ReadXx (suc g) 0 0))

  abbrev writing : ℕ → ℕ → Request
  writing g v = On (Reach (at_base WriteXf (suc g) 0 v))

  read_runs : (g d pc : ℕ) (r : Regs) (w : World) (f : ℕ → ℕ) → g < n → Sound n cells w → r 23 ≡ fp → HasAt code.instrs pc (read_code g) → Evals 2 d (read g) pc r w f (pc + 2)
  read_runs g d pc r w f lt s p has =
      let c = s.one g lt in
      let r1 = put r 16 (pointer_to g) in
      let rf : ℕ → Regs = λ v. put r1 16 v in
      let w' = with_cell n cells w g c.0 in
      let s' = sound_with n cells w g c.0 lt s in
      let there = has_next code.instrs pc (instr.Li 16 (pointer_to g)) (instr.Load Ld 16 16 0 ∷ []) has in
      let first = paths.next_step n cells code few short (instr.Li 16 (pointer_to g)) pc r r1 w f s has.0 refl in
      let second = paths.ask_step n cells code few short (instr.Load Ld 16 16 0) (reading g) (pc + 1) r1 rf c.0.value w w' f f s there.0 (reaches_base ReadXx (pointer_to g) (suc g) 0 0 (suc (pc + 1)) rf refl (omega arith))
      (reaches_machine n cells ReadXx (suc (suc n)) g 0 c.0.value w f c.0 c.0 lt c.1 refl) refl in
      let e : pc + 1 + 1 ≡ pc + 2 = omega arith in
      inl (record {
        v = c.0.value;
        world = w';
        regs = rf c.0.value;
        words = f;
        steps = 1 + 1;
        source = record { acts = act_of (reading g) (Got c.0.value) ∷ []; chain = (s.none (suc n) (omega arith), w', reaches_source n cells ReadXx (suc n) g 0 c.0.value w c.0 c.0 c.1 refl, refl); says = λ rs t. refl };
        sound = s';
        value = refl;
        pointer = p;
        low = λ i lt. refl;
        bound = omega arith;
        way = subst (λ k. Way code P (1 + 1) (at pc r w f) (at k (rf c.0.value) w' f)) e (way_on code P 1 1 (at pc r w f) (at (pc + 1) r1 w f) (at (pc + 1 + 1) (rf c.0.value) w' f) first second);
      })

  -- the world after a write of the word in r16
  abbrev written : ℕ → Regs → World → World
  written g r w = with_cell n cells w g (full_with (r 16))

  write_way : (g pc : ℕ) (r : Regs) (w : World) (f : ℕ → ℕ) → g < n → Sound n cells w → HasAt code.instrs pc (write_code g) → Way code P 2 (at pc r w f) (at (pc + 2) (put r 17 (pointer_to g)) (written g r w) f)
  write_way g pc r w f lt s has =
      let c = s.one g lt in
      let r1 = put r 17 (pointer_to g) in
      let w' = written g r w in
      let there = has_next code.instrs pc (instr.Li 17 (pointer_to g)) (instr.Store St 16 17 0 ∷ []) has in
      let first = paths.next_step n cells code few short (instr.Li 17 (pointer_to g)) pc r r1 w f s has.0 refl in
      let second = paths.ask_step n cells code few short (instr.Store St 16 17 0) (writing g (r 16)) (pc + 1) r1 (λ v. r1) 0 w w' f f s there.0 (reaches_base WriteXf (pointer_to g) (suc g) 0 (r 16) (suc (pc + 1)) (λ v. r1) refl (omega arith))
      (reaches_machine n cells WriteXf (suc (suc n)) g (r 16) 0 w f c.0 (full_with (r 16)) lt c.1 refl) refl in
      let e : pc + 1 + 1 ≡ pc + 2 = omega arith in
      subst (λ k. Way code P 2 (at pc r w f) (at k r1 w' f)) e (way_on code P 1 1 (at pc r w f) (at (pc + 1) r1 w f) (at (pc + 1 + 1) r1 w' f) first second)

  write_source : (g u : ℕ) (r : Regs) (w : World) → g < n → Sound n cells w → Given n (write g (r 16) u) w u (written g r w)
  write_source g u r w lt s =
      let c = s.one g lt in
      let w' = written g r w in
      let asked : Given n (ask (writing g (r 16))) w 0 w' =
      record { acts = act_of (writing g (r 16)) (Got 0) ∷ []; chain = (s.none (suc n) (omega arith), w', reaches_source n cells WriteXf (suc n) g (r 16) 0 w c.0 (full_with (r 16)) c.1 refl, refl); says = λ rs t. refl } in
      given_on n (ask (writing g (r 16))) (λ _. Gives u) w w' w' 0 u asked (given_none n u w')

  -- the value that was written
  write_runs : (g v d pc : ℕ) (r : Regs) (w : World) (f : ℕ → ℕ) → g < n → Sound n cells w → r 16 ≡ v → r 23 ≡ fp → HasAt code.instrs pc (write_code g) → Evals 2 d (write g v v) pc r w f (pc + 2)
  write_runs g v d pc r w f lt s ev p has = subst (λ v. Evals 2 d (write g v v) pc r w f (pc + 2)) ev (inl (record {
    v = r 16;
    world = written g r w;
    regs = put r 17 (pointer_to g);
    words = f;
    steps = 2;
    source = write_source g (r 16) r w lt s;
    sound = sound_with n cells w g (full_with (r 16)) lt s;
    value = refl;
    pointer = p;
    low = λ i lt. refl;
    bound = omega arith;
    way = write_way g pc r w f lt s has;
  }))

  -- the written value, or the old one, which is in the frame
  update_runs : (g old v d pc : ℕ) (post : Bool) (r : Regs) (w : World) (f : ℕ → ℕ) → g < n → d < cells → Sound n cells w → r 16 ≡ v → r 23 ≡ fp → f d ≡ old → HasAt code.instrs pc (write_code g ++ old_code post d) → Evals 3 d (write g v (cond post old v)) pc r w f (pc + 2 + length (old_code post d))
  update_runs g old v d pc false r w f lt room s ev p eo has =
      let e : pc + 2 ≡ pc + 2 + 0 = omega arith in
      paths.to n cells code few short 3 d (write g v v) pc (pc + 2) (pc + 2 + 0) r w f e (paths.after n cells code few short 0 2 3 d (write g v v) pc pc (pc + 2) r r w f f (omega arith) refl (λ i lt. refl)
      (write_runs g v d pc r w f lt s ev p (has_front code.instrs pc (write_code g) [] has)))
  update_runs g old v d pc true r w f lt room s ev p eo has =
      let r1 = put r 17 (pointer_to g) in
      let w' = written g r w in
      let s' = sound_with n cells w g (full_with (r 16)) lt s in
      let there = has_rest code.instrs pc (write_code g) (load 16 d ∷ []) has in
      let second = paths.load_step n cells code few short 16 d (pc + 2) r1 w' f s' p room there.0 in
      subst (λ v. Evals 3 d (write g v old) pc r w f (pc + 2 + 1)) ev (inl (record {
        v = old;
        world = w';
        regs = put r1 16 (f d);
        words = f;
        steps = 2 + 1;
        source = write_source g old r w lt s;
        sound = s';
        value = eo;
        pointer = p;
        low = λ i lt. refl;
        bound = omega arith;
        way = way_on code P 2 1 (at pc r w f) (at (pc + 2) r1 w' f) (at (pc + 2 + 1) (put r1 16 (f d)) w' f) (write_way g pc r w f lt s (has_front code.instrs pc (write_code g) (load 16 d ∷ []) has)) second;
      }))

  -- ---- unary operators and truth values

  seq_step : (pc : ℕ) (r : Regs) (w : World) (f : ℕ → ℕ) → Sound n cells w → slice_get code.instrs pc ≡ Some flip → Way code P 1 (at pc r w f) (at (pc + 1) (put r 16 (truth (r 16 == 0))) w f)
  seq_step pc r w f s there = paths.next_step n cells code few short flip pc r (put r 16 (truth (r 16 == 0))) w f s there refl

  unary_runs : (o : UnOp) (x d pc : ℕ) (r : Regs) (w : World) (f : ℕ → ℕ) → Sound n cells w → r 16 ≡ x → r 23 ≡ fp → HasAt code.instrs pc (unary_code o) → Evals 2 d (Gives (unary_word o x)) pc r w f (pc + length (unary_code o))
  unary_runs unary.Neg x d pc r w f s ex p has =
      let r1 = put r 16 ((0 + (2 ^ 64 - r 16)) % 2 ^ 64) in
      paths.after n cells code few short 1 0 2 d (Gives (unary_word unary.Neg x)) pc (pc + 1) (pc + 1) r r1 w f f (omega arith) (paths.next_step n cells code few short (instr.Binary Sub 16 0 16) pc r r1 w f s has.0 refl) (λ i lt. refl)
      (paths.ends n cells code few short (unary_word unary.Neg x) d (pc + 1) r1 w f s (ap (unary_word unary.Neg) ex) p)
  unary_runs unary.Complement x d pc r w f s ex p has =
      let r1 = put r 17 (2 ^ 64 - 1) in
      let r2 = put r1 16 (((2 ^ 64 - 1) + (2 ^ 64 - r 16)) % 2 ^ 64) in
      let there = has_next code.instrs pc (instr.Li 17 (2 ^ 64 - 1)) (instr.Binary Sub 16 17 16 ∷ []) has in
      let e : pc + 1 + 1 ≡ pc + 2 = omega arith in
      paths.to n cells code few short 2 d (Gives (unary_word unary.Complement x)) pc (pc + 1 + 1) (pc + 2) r w f e
      (paths.after n cells code few short 1 1 2 d (Gives (unary_word unary.Complement x)) pc (pc + 1) (pc + 1 + 1) r r1 w f f (omega arith) (paths.next_step n cells code few short (instr.Li 17 (2 ^ 64 - 1)) pc r r1 w f s has.0 refl) (λ i lt. refl)
      (paths.after n cells code few short 1 0 1 d (Gives (unary_word unary.Complement x)) (pc + 1) (pc + 1 + 1) (pc + 1 + 1) r1 r2 w f f (omega arith) (paths.next_step n cells code few short (instr.Binary Sub 16 17 16) (pc + 1) r1 r2 w f s there.0 refl) (λ i lt. refl)
      (paths.ends n cells code few short (unary_word unary.Complement x) d (pc + 1 + 1) r2 w f s (ap (unary_word unary.Complement) ex) p)))
  unary_runs unary.Not x d pc r w f s ex p has =
      let r1 = put r 16 (truth (r 16 == 0)) in
      paths.after n cells code few short 1 0 2 d (Gives (unary_word unary.Not x)) pc (pc + 1) (pc + 1) r r1 w f f (omega arith) (seq_step pc r w f s has.0) (λ i lt. refl)
      (paths.ends n cells code few short (unary_word unary.Not x) d (pc + 1) r1 w f s (ap (unary_word unary.Not) ex) p)
  unary_runs unary.Cast x d pc r w f s ex p has =
      let e : pc ≡ pc + 0 = omega arith in
      paths.to n cells code few short 2 d (Gives x) pc pc (pc + 0) r w f e (paths.after n cells code few short 0 0 2 d (Gives x) pc pc pc r r w f f (omega arith) refl (λ i lt. refl) (paths.ends n cells code few short x d pc r w f s ex p))

  truth_runs : (x d pc : ℕ) (r : Regs) (w : World) (f : ℕ → ℕ) → Sound n cells w → r 16 ≡ x → r 23 ≡ fp → HasAt code.instrs pc as_truth_code → Evals 2 d (as_truth x) pc r w f (pc + 2)
  truth_runs x d pc r w f s ex p has =
      let r1 = put r 16 (truth (r 16 == 0)) in
      let r2 = put r1 16 (truth (truth (r 16 == 0) == 0)) in
      let v = truth (not (x == 0)) in
      let there = has_next code.instrs pc flip (flip ∷ []) has in
      let e : pc + 1 + 1 ≡ pc + 2 = omega arith in
      paths.to n cells code few short 2 d (Gives v) pc (pc + 1 + 1) (pc + 2) r w f e
      (paths.after n cells code few short 1 1 2 d (Gives v) pc (pc + 1) (pc + 1 + 1) r r1 w f f (omega arith) (seq_step pc r w f s has.0) (λ i lt. refl)
      (paths.after n cells code few short 1 0 1 d (Gives v) (pc + 1) (pc + 1 + 1) (pc + 1 + 1) r1 r2 w f f (omega arith) (seq_step (pc + 1) r1 w f s there.0) (λ i lt. refl)
      (paths.ends n cells code few short v d (pc + 1 + 1) r2 w f s (flip_truth (r 16 == 0) ∙ ap (λ u. truth (not (u == 0))) ex) p)))

  -- ---- branches

  -- a value, and a step that keeps it
  followed : (b d : ℕ) (m : Point → Value) (pc pc1 pc2 : ℕ) (r : Regs) (w : World) (f : ℕ → ℕ) → ((r1 : Regs) (w1 : World) (f1 : ℕ → ℕ) → Sound n cells w1 → Way code P 1 (at pc1 r1 w1 f1) (at pc2 r1 w1 f1)) → Evals b d m pc r w f pc1 → Evals (b + 1) d m pc r w f pc2
  followed b d m pc pc1 pc2 r w f step (inl h) = inl (record {
    v = h.v;
    world = h.world;
    regs = h.regs;
    words = h.words;
    steps = h.steps + 1;
    source = h.source;
    sound = h.sound;
    value = h.value;
    pointer = h.pointer;
    low = h.low;
    bound = omega (arith, h.bound);
    way = way_on code P h.steps 1 (at pc r w f) (at pc1 h.regs h.world h.words) (at pc2 h.regs h.world h.words) h.way (step h.regs h.world h.words h.sound);
  })
  followed b d m pc pc1 pc2 r w f step (inr h) = inr (record { steps = h.steps; last = h.last; kind = h.kind; source = h.source; bound = omega (arith, h.bound); smallness = h.smallness; printed = h.printed; way = h.way; fall = h.fall })

  -- what there is to know of the second operand
  abbrev Second : ℕ → ℕ → (Point → Value) → ℕ → ℕ → Type 0
  Second b d m pc pc' = (r : Regs) (w : World) (f : ℕ → ℕ) → Sound n cells w → r 23 ≡ fp → Evals b d m pc r w f pc'

  abbrev and_then : (Point → Value) → Bool → Point → Value
  and_then m z p = cond z (Gives 0 p) (then_value (m p) as_truth)

  abbrev or_then : (Point → Value) → Bool → Point → Value
  or_then m z p = cond z (then_value (m p) as_truth) (Gives 1 p)

  second_truth : (b d : ℕ) (m : Point → Value) (pc end : ℕ) (r : Regs) (w : World) (f : ℕ → ℕ) → HasAt code.instrs end as_truth_code → Sound n cells w → r 23 ≡ fp → Second b d m pc end → Evals (b + 2) d (λ p. then_value (m p) as_truth) pc r w f (end + 2)
  second_truth b d m pc end r w f has s p second =
      paths.bind n cells code few short b 2 (b + 2) d d m as_truth pc end (end + 2) r w f (omega arith) (omega arith) (second r w f s p) (λ x r2 w2 f2 s2 e2 p2 low2. truth_runs x d end r2 w2 f2 s2 e2 p2 has)

  and_branch : (b d v : ℕ) (m : Point → Value) (pc end : ℕ) (r : Regs) (w : World) (f : ℕ → ℕ) → slice_get code.instrs pc ≡ Some (instr.Branch Zero 16 end) → HasAt code.instrs end as_truth_code → Sound n cells w → r 16 ≡ v → r 23 ≡ fp → Second b d m (pc + 1) end
      → (z : Bool) → (v == 0) ≡ z → Evals (b + 3) d (and_then m z) pc r w f (end + 2)
  and_branch b d v m pc end r w f there has s ev p second true e =
      paths.after n cells code few short 1 2 (b + 3) d (Gives 0) pc end (end + 2) r r w f f (omega arith) (paths.taken n cells code few short Zero end pc r w f s there (ap (λ u. u == 0) ev ∙ e)) (λ i lt. refl)
      (subst (λ z. Evals 2 d (Gives (truth (not z))) end r w f (end + 2)) e (truth_runs v d end r w f s ev p has))
  and_branch b d v m pc end r w f there has s ev p second false e =
      paths.after n cells code few short 1 (b + 2) (b + 3) d (λ p. then_value (m p) as_truth) pc (pc + 1) (end + 2) r r w f f (omega arith) (paths.passed n cells code few short Zero end pc r w f s there (ap (λ u. u == 0) ev ∙ e)) (λ i lt. refl)
      (second_truth b d m (pc + 1) end r w f has s p second)

  or_branch : (b d v : ℕ) (m : Point → Value) (pc end : ℕ) (r : Regs) (w : World) (f : ℕ → ℕ) → slice_get code.instrs pc ≡ Some (instr.Branch NotZero 16 end) → HasAt code.instrs end as_truth_code → Sound n cells w → r 16 ≡ v → r 23 ≡ fp → Second b d m (pc + 1) end
      → (z : Bool) → (v == 0) ≡ z → Evals (b + 3) d (or_then m z) pc r w f (end + 2)
  or_branch b d v m pc end r w f there has s ev p second false e =
      paths.after n cells code few short 1 2 (b + 3) d (Gives 1) pc end (end + 2) r r w f f (omega arith) (paths.taken n cells code few short NotZero end pc r w f s there (ap (λ u. not (u == 0)) ev ∙ ap not e)) (λ i lt. refl)
      (subst (λ z. Evals 2 d (Gives (truth (not z))) end r w f (end + 2)) e (truth_runs v d end r w f s ev p has))
  or_branch b d v m pc end r w f there has s ev p second true e =
      paths.after n cells code few short 1 (b + 2) (b + 3) d (λ p. then_value (m p) as_truth) pc (pc + 1) (end + 2) r r w f f (omega arith) (paths.passed n cells code few short NotZero end pc r w f s there (ap (λ u. not (u == 0)) ev ∙ ap not e)) (λ i lt. refl)
      (second_truth b d m (pc + 1) end r w f has s p second)

  decided_length : (test : Test) (ca : List Instr) (cb : ℕ → List Instr) (pc : ℕ) → pc + length ca + 1 + length (cb (pc + length ca + 1)) + 2 ≡ pc + length (decided_code test ca cb pc)
  decided_length test ca cb pc =
      let cbx = cb (pc + length ca + 1) in
      let rest = instr.Branch test 16 (pc + length ca + 1 + length cbx) ∷ (cbx ++ as_truth_code) in
      omega (arith, length-append ca rest, length-append cbx as_truth_code)

  and_runs : (ba bb d pc : ℕ) (ma mb : Point → Value) (ca : List Instr) (cb : ℕ → List Instr) (r : Regs) (w : World) (f : ℕ → ℕ) → HasAt code.instrs pc (decided_code Zero ca cb pc) → Evals ba d ma pc r w f (pc + length ca)
      → Second bb d mb (pc + length ca + 1) (pc + length ca + 1 + length (cb (pc + length ca + 1))) → Evals (ba + (bb + 3)) d (λ p. then_value (ma p) (λ x p. and_then mb (x == 0) p)) pc r w f (pc + length (decided_code Zero ca cb pc))
  and_runs ba bb d pc ma mb ca cb r w f has first second =
      let pc1 = pc + length ca in
      let cbx = cb (pc1 + 1) in
      let end = pc1 + 1 + length cbx in
      let has1 = has_rest code.instrs pc ca (instr.Branch Zero 16 end ∷ (cbx ++ as_truth_code)) has in
      let hast = has_rest code.instrs (pc1 + 1) cbx as_truth_code (has_next code.instrs pc1 (instr.Branch Zero 16 end) (cbx ++ as_truth_code) has1) in
      paths.to n cells code few short (ba + (bb + 3)) d (λ p. then_value (ma p) (λ x p. and_then mb (x == 0) p)) pc (end + 2) (pc + length (decided_code Zero ca cb pc)) r w f (decided_length Zero ca cb pc)
      (paths.bind n cells code few short ba (bb + 3) (ba + (bb + 3)) d d ma (λ x p. and_then mb (x == 0) p) pc pc1 (end + 2) r w f (omega arith) (omega arith) first
      (λ v r1 w1 f1 s1 e1 p1 low1. and_branch bb d v mb pc1 end r1 w1 f1 has1.0 hast s1 e1 p1 second (v == 0) refl))

  or_runs : (ba bb d pc : ℕ) (ma mb : Point → Value) (ca : List Instr) (cb : ℕ → List Instr) (r : Regs) (w : World) (f : ℕ → ℕ) → HasAt code.instrs pc (decided_code NotZero ca cb pc) → Evals ba d ma pc r w f (pc + length ca)
      → Second bb d mb (pc + length ca + 1) (pc + length ca + 1 + length (cb (pc + length ca + 1))) → Evals (ba + (bb + 3)) d (λ p. then_value (ma p) (λ x p. or_then mb (x == 0) p)) pc r w f (pc + length (decided_code NotZero ca cb pc))
  or_runs ba bb d pc ma mb ca cb r w f has first second =
      let pc1 = pc + length ca in
      let cbx = cb (pc1 + 1) in
      let end = pc1 + 1 + length cbx in
      let has1 = has_rest code.instrs pc ca (instr.Branch NotZero 16 end ∷ (cbx ++ as_truth_code)) has in
      let hast = has_rest code.instrs (pc1 + 1) cbx as_truth_code (has_next code.instrs pc1 (instr.Branch NotZero 16 end) (cbx ++ as_truth_code) has1) in
      paths.to n cells code few short (ba + (bb + 3)) d (λ p. then_value (ma p) (λ x p. or_then mb (x == 0) p)) pc (end + 2) (pc + length (decided_code NotZero ca cb pc)) r w f (decided_length NotZero ca cb pc)
      (paths.bind n cells code few short ba (bb + 3) (ba + (bb + 3)) d d ma (λ x p. or_then mb (x == 0) p) pc pc1 (end + 2) r w f (omega arith) (omega arith) first
      (λ v r1 w1 f1 s1 e1 p1 low1. or_branch bb d v mb pc1 end r1 w1 f1 has1.0 hast s1 e1 p1 second (v == 0) refl))

  abbrev chosen : (Point → Value) → (Point → Value) → Bool → Point → Value
  chosen a b z p = cond z (b p) (a p)

  choice_branch : (ba bb d v : ℕ) (ma mb : Point → Value) (pc a_end b_at end : ℕ) (r : Regs) (w : World) (f : ℕ → ℕ) → slice_get code.instrs pc ≡ Some (instr.Branch Zero 16 b_at) → slice_get code.instrs a_end ≡ Some (instr.Jmp end) → Sound n cells w → r 16 ≡ v → r 23 ≡ fp
      → Second ba d ma (pc + 1) a_end → Second bb d mb b_at end → (z : Bool) → (v == 0) ≡ z → Evals (ba + bb + 2) d (chosen ma mb z) pc r w f end
  choice_branch ba bb d v ma mb pc a_end b_at end r w f there leaves s ev p first second true e =
      paths.after n cells code few short 1 bb (ba + bb + 2) d mb pc b_at end r r w f f (omega arith) (paths.taken n cells code few short Zero b_at pc r w f s there (ap (λ u. u == 0) ev ∙ e)) (λ i lt. refl) (second r w f s p)
  choice_branch ba bb d v ma mb pc a_end b_at end r w f there leaves s ev p first second false e =
      paths.after n cells code few short 1 (ba + 1) (ba + bb + 2) d ma pc (pc + 1) end r r w f f (omega arith) (paths.passed n cells code few short Zero b_at pc r w f s there (ap (λ u. u == 0) ev ∙ e)) (λ i lt. refl)
      (followed ba d ma (pc + 1) a_end end r w f (λ r1 w1 f1 s1. paths.go_step n cells code few short (instr.Jmp end) a_end end r1 r1 w1 f1 s1 leaves refl) (first r w f s p))

  choice_runs : (bt ba bb d pc : ℕ) (mt ma mb : Point → Value) (ct : List Instr) (ca cb : ℕ → List Instr) (r : Regs) (w : World) (f : ℕ → ℕ) → HasAt code.instrs pc (choice_code ct ca cb pc) → Evals bt d mt pc r w f (pc + length ct)
      → Second ba d ma (pc + length ct + 1) (pc + length ct + 1 + length (ca (pc + length ct + 1)))
      → (let b_at = pc + length ct + 1 + length (ca (pc + length ct + 1)) + 1 in Second bb d mb b_at (b_at + length (cb b_at)))
      → Evals (bt + (ba + bb + 2)) d (λ p. then_value (mt p) (λ x p. chosen ma mb (x == 0) p)) pc r w f (pc + length (choice_code ct ca cb pc))
  choice_runs bt ba bb d pc mt ma mb ct ca cb r w f has test first second =
      let pc1 = pc + length ct in
      let a_at = pc1 + 1 in
      let cax = ca a_at in
      let b_at = a_at + length cax + 1 in
      let cbx = cb b_at in
      let end = b_at + length cbx in
      let tail = instr.Jmp end ∷ cbx in
      let has1 = has_rest code.instrs pc ct (instr.Branch Zero 16 b_at ∷ (cax ++ tail)) has in
      let has2 = has_rest code.instrs a_at cax tail (has_next code.instrs pc1 (instr.Branch Zero 16 b_at) (cax ++ tail) has1) in
      let e : end ≡ pc + length (choice_code ct ca cb pc) = omega (arith, length-append ct (instr.Branch Zero 16 b_at ∷ (cax ++ tail)), length-append cax tail) in
      paths.to n cells code few short (bt + (ba + bb + 2)) d (λ p. then_value (mt p) (λ x p. chosen ma mb (x == 0) p)) pc end (pc + length (choice_code ct ca cb pc)) r w f e
      (paths.bind n cells code few short bt (ba + bb + 2) (bt + (ba + bb + 2)) d d mt (λ x p. chosen ma mb (x == 0) p) pc pc1 end r w f (omega arith) (omega arith) test
      (λ v r1 w1 f1 s1 e1 p1 low1. choice_branch ba bb d v ma mb pc1 (a_at + length cax) b_at end r1 w1 f1 has1.0 has2.0 s1 e1 p1 first second (v == 0) refl))

  -- ---- operands and arguments

  -- the right operand stands in r16, the left one in cell d of the frame, and the cells below k are kept
  apply_runs : (o : BinOp) (u : Bool) (x y k d pc : ℕ) (r : Regs) (w : World) (f : ℕ → ℕ) → d < cells → Sound n cells w → f d ≡ x → r 16 ≡ y → r 23 ≡ fp → HasAt code.instrs pc (apply_code o u d) → Evals 3 k (given (binary_word o u x y)) pc r w f (pc + 1 + length (operation_code o u))
  apply_runs o u x y k d pc r w f room s ex ey p has =
      paths.after n cells code few short 1 2 3 k (given (binary_word o u x y)) pc (pc + 1) (pc + 1 + length (operation_code o u)) r (put r 17 (f d)) w f f (omega arith) (paths.load_step n cells code few short 17 d pc r w f s p room has.0) (λ i lt. refl)
      (paths.operation_runs n cells code few short o u x y k (pc + 1) (put r 17 (f d)) w f s ex ey p (has_next code.instrs pc (load 17 d) (operation_code o u) has))

  waits : (es : Terms) (before : ℕ) → before + count_of es ≤ waiting_among es before
  waits NoMore before = omega arith
  waits (More e es) before = omega (arith, waits es (before + 1))

  -- the cells from this one on have these values
  abbrev Wait : List ℕ → ℕ → (ℕ → ℕ) → Type 0
  Wait [] c f = Unit {0}
  Wait (v ∷ vs) c f = (f c ≡ v) × Wait vs (c + 1) f

  record Loaded (vs : List ℕ) (reg k pc pc' : ℕ) (r : Regs) (w : World) (f : ℕ → ℕ) : Type 0 where
    regs : Regs
    way : Way code P k (at pc r w f) (at pc' regs w f)
    pointer : regs 23 ≡ fp
    hold : Hold vs reg regs
    kept : (x : ℕ) → x < reg → regs x ≡ r x

  loads_run : (es : Terms) (vs : List ℕ) (reg c pc : ℕ) (r : Regs) (w : World) (f : ℕ → ℕ) → length vs ≡ count_of es → Wait vs c f → c + count_of es ≤ cells → 24 ≤ reg → Sound n cells w → r 23 ≡ fp → HasAt code.instrs pc (loads_code es reg c)
      → Loaded vs reg (count_of es) pc (pc + length (loads_code es reg c)) r w f
  loads_run NoMore [] reg c pc r w f len wait room le s p has =
      let e : pc ≡ pc + 0 = omega arith in
      record { regs = r; way = ap (λ k. at k r w f) e; pointer = p; hold = tt; kept = λ x lt. refl }
  loads_run NoMore (v ∷ vs) reg c pc r w f len wait room le s p has = absurd (omega (arith, len))
  loads_run (More e es) [] reg c pc r w f len wait room le s p has = absurd (omega (arith, len))
  loads_run (More e es) (v ∷ vs) reg c pc r w f len wait room le s p has =
      let r1 = put r reg (f c) in
      let p1 : r1 23 ≡ fp = put_other r reg 23 (f c) (λ q. absurd (omega (arith, q, le))) ∙ p in
      let first = paths.load_step n cells code few short reg c pc r w f s p (omega (arith, room)) has.0 in
      let rest = loads_run es vs (reg + 1) (c + 1) (pc + 1) r1 w f (omega (arith, len)) wait.1 (omega (arith, room)) (omega (arith, le)) s p1 (has_next code.instrs pc (load reg c) (loads_code es (reg + 1) (c + 1)) has) in
      let to : pc + 1 + length (loads_code es (reg + 1) (c + 1)) ≡ pc + length (loads_code (More e es) reg c) = omega arith in
      let count : 1 + count_of es ≡ count_of es + 1 = omega arith in
      record {
        regs = rest.regs;
        way = subst (λ k. Way code P k (at pc r w f) (at (pc + length (loads_code (More e es) reg c)) rest.regs w f)) count
            (subst (λ k. Way code P (1 + count_of es) (at pc r w f) (at k rest.regs w f)) to (way_on code P 1 (count_of es) (at pc r w f) (at (pc + 1) r1 w f) (at (pc + 1 + length (loads_code es (reg + 1) (c + 1))) rest.regs w f) first rest.way));
        pointer = rest.pointer;
        hold = (rest.kept reg (omega arith) ∙ put_at r reg (f c) ∙ wait.0, rest.hold);
        kept = λ x lt. rest.kept x (omega arith) ∙ put_other r reg x (f c) (λ q. absurd (omega (arith, q)));
      }

  -- the registers are loaded, and the text is printed
  print_runs : (es : Terms) (vs : List ℕ) (format c d pc : ℕ) (r : Regs) (w : World) (f : ℕ → ℕ) → PrintsSo code.formats format (count_of es) → count_of es ≤ 8 → length vs ≡ count_of es → Wait vs c f → c + count_of es ≤ cells → Sound n cells w → r 23 ≡ fp
      → HasAt code.instrs pc (loads_code es 24 c ++ print_code format) → Evals (count_of es + 2) d (show (format_at code.formats format) vs) pc r w f (pc + length (loads_code es 24 c ++ print_code format))
  print_runs es vs format c d pc r w f fit few_args len wait room s p has =
      let cl = loads_code es 24 c in
      let l = loads_run es vs 24 c pc r w f len wait room (omega arith) s p (has_front code.instrs pc cl (print_code format) has) in
      let pc1 = pc + length cl in
      let has1 = has_rest code.instrs pc cl (print_code format) has in
      let bytes = text_of fit.0 (map (register l.regs) printed_regs) in
      let text = text_of (format_at code.formats format) vs in
      let same : bytes ≡ text = text_begins fit.0 vs (map (register l.regs) printed_regs) (printed_begin vs l.regs l.hold (omega (arith, len))) (fit.2 ∙ ap Some (sym len)) ∙ ap (λ o. text_of (unwrap_or o []) vs) (sym fit.1) in
      let w' : World = record { segs = w.segs; out = w.out ++ text } in
      let s' = sound_out n cells w (w.out ++ text) s in
      let shown = paths.ask_step n cells code few short (instr.Print format) (Shows bytes) pc1 l.regs (λ v. l.regs) 0 w w' f f s has1.0 (ap (λ o. prints o (suc pc1) l.regs) fit.1)
      (ap (λ b. Some (Got 0, record { segs = (framed n cells w f).segs; out = w.out ++ b })) same) refl in
      let r2 = put l.regs 16 0 in
      let last = paths.next_step n cells code few short (instr.Li 16 0) (pc1 + 1) l.regs r2 w' f s' (has_next code.instrs pc1 (instr.Print format) (instr.Li 16 0 ∷ []) has1).0 refl in
      let asked : Given n (ask (Shows text)) w 0 w' = record { acts = act_of (Shows text) (Got 0) ∷ []; chain = (s.none (suc n) (omega arith), w', refl, refl); says = λ rs t. refl } in
      let to : pc1 + 1 + 1 ≡ pc + length (cl ++ print_code format) = omega (arith, length-append cl (print_code format)) in
      let two = way_on code P 1 1 (at pc1 l.regs w f) (at (pc1 + 1) l.regs w' f) (at (pc1 + 1 + 1) r2 w' f) shown last in
      inl (record {
        v = 0;
        world = w';
        regs = r2;
        words = f;
        steps = count_of es + 2;
        source = given_on n (ask (Shows text)) (λ _. Gives 0) w w' w' 0 0 asked (given_none n 0 w');
        sound = s';
        value = refl;
        pointer = l.pointer;
        low = λ i lt. refl;
        bound = omega arith;
        way = subst (λ k. Way code P (count_of es + 2) (at pc r w f) (at k r2 w' f)) to (way_on code P (count_of es) 2 (at pc r w f) (at pc1 l.regs w f) (at (pc1 + 1 + 1) r2 w' f) l.way two);
      })

  -- ---- terms

  abbrev fs : List (List ℕ)
  fs = code.formats

  mutual
    pub term_runs : (e : Term) (pc d : ℕ) (r : Regs) (w : World) (f : ℕ → ℕ) → NamesBelow n e → PrintsFit fs e → d + waiting_in e ≤ cells → HasAt code.instrs pc (term_code e d pc) → Sound n cells w → r 23 ≡ fp → Evals (10 * size_of e) d (value_of fs e) pc r w f (pc + length (term_code e d pc))
    term_runs (Number v) pc d r w f names fit room has s p =
        paths.after n cells code few short 1 0 10 d (Gives v) pc (pc + 1) (pc + 1) r (put r 16 v) w f f (omega arith) (paths.next_step n cells code few short (instr.Li 16 v) pc r (put r 16 v) w f s has.0 refl) (λ i lt. refl)
        (paths.ends n cells code few short v d (pc + 1) (put r 16 v) w f s refl p)
    term_runs (Read g) pc d r w f names fit room has s p =
        paths.after n cells code few short 0 2 10 d (read g) pc pc (pc + 2) r r w f f (omega arith) refl (λ i lt. refl) (read_runs g d pc r w f names s p has)
    term_runs (Write g value) pc d r w f names fit room has s p =
        let cv = term_code value d pc in
        let e : pc + length cv + 2 ≡ pc + length (cv ++ write_code g) = omega (arith, length-append cv (write_code g)) in
        paths.to n cells code few short (10 * size_of (Write g value)) d (value_of fs (Write g value)) pc (pc + length cv + 2) (pc + length (cv ++ write_code g)) r w f e
        (paths.bind n cells code few short (10 * size_of value) 2 (10 * size_of (Write g value)) d d (value_of fs value) (λ v p. write g v v p) pc (pc + length cv) (pc + length cv + 2) r w f (omega arith) (omega arith)
        (term_runs value pc d r w f names.1 fit room (has_front code.instrs pc cv (write_code g) has) s p)
        (λ v r1 w1 f1 s1 e1 p1 low1. write_runs g v d (pc + length cv) r1 w1 f1 names.0 s1 e1 p1 (has_rest code.instrs pc cv (write_code g) has)))
    term_runs (Update o u post g value) pc d r w f names fit room has s p =
        let cv = term_code value (d + 1) (pc + 3) in
        let back = write_code g ++ old_code post d in
        let tail = apply_code o u d ++ back in
        let k3 : pc + 2 + 1 ≡ pc + 3 = omega arith in
        let has1 = has_rest code.instrs pc (read_code g) (save d ∷ (cv ++ tail)) has in
        let has2 = subst (λ k. HasAt code.instrs k (cv ++ tail)) k3 (has_next code.instrs (pc + 2) (save d) (cv ++ tail) has1) in
        let pc3 = pc + 3 + length cv in
        let has3 = has_rest code.instrs (pc + 3) cv tail has2 in
        let oc = operation_code o u in
        let k4 : pc3 + length (apply_code o u d) ≡ pc3 + 1 + length oc = omega arith in
        let has4 = subst (λ k. HasAt code.instrs k back) k4 (has_rest code.instrs pc3 (apply_code o u d) back has3) in
        let pc4 = pc3 + 1 + length oc in
        let total = 10 * size_of (Update o u post g value) in
        let m1 : ℕ → ℕ → Point → Value = λ old v p. then_value (given (binary_word o u old v) p) (λ new p. write g new (cond post old new) p) in
        let end : pc4 + 2 + length (old_code post d) ≡ pc + length (term_code (Update o u post g value) d pc) = omega (arith, length-append cv tail, length-append oc back) in
        let there : Evals total d (value_of fs (Update o u post g value)) pc r w f (pc4 + 2 + length (old_code post d)) =
        paths.bind n cells code few short 2 (10 * size_of value + 7) total d d (read g) (λ old p. then_value (value_of fs value p) (λ v p. m1 old v p)) pc (pc + 2) (pc4 + 2 + length (old_code post d)) r w f (omega arith) (omega arith)
        (read_runs g d pc r w f names.0 s p (has_front code.instrs pc (read_code g) (save d ∷ (cv ++ tail)) has))
        (λ old r1 w1 f1 s1 e1 p1 low1.
        let f1' = put f1 d (r1 16) in
        paths.after n cells code few short 1 (10 * size_of value + 6) (10 * size_of value + 7) d (λ p. then_value (value_of fs value p) (λ v p. m1 old v p)) (pc + 2) (pc + 3) (pc4 + 2 + length (old_code post d)) r1 r1 w1 f1 f1' (omega arith)
        (subst (λ k. Way code P 1 (at (pc + 2) r1 w1 f1) (at k r1 w1 f1')) k3 (paths.save_step n cells code few short d (pc + 2) r1 w1 f1 s1 p1 (omega (arith, room)) has1.0)) (λ i lt. put_other f1 d i (r1 16) (λ q. absurd (omega (arith, q))))
        (paths.bind n cells code few short (10 * size_of value) 6 (10 * size_of value + 6) d (d + 1) (value_of fs value) (λ v p. m1 old v p) (pc + 3) pc3 (pc4 + 2 + length (old_code post d)) r1 w1 f1' (omega arith) (omega arith)
        (term_runs value (pc + 3) (d + 1) r1 w1 f1' names.1 fit (omega (arith, room)) (has_front code.instrs (pc + 3) cv tail has2) s1 p1)
        (λ v r2 w2 f2 s2 e2 p2 low2.
        let saved : f2 d ≡ old = low2 d (omega arith) ∙ put_at f1 d (r1 16) ∙ e1 in
        paths.bind n cells code few short 3 3 6 d (d + 1) (given (binary_word o u old v)) (λ new p. write g new (cond post old new) p) pc3 pc4 (pc4 + 2 + length (old_code post d)) r2 w2 f2 (omega arith) (omega arith)
        (apply_runs o u old v (d + 1) d pc3 r2 w2 f2 (omega (arith, room)) s2 saved e2 p2 (has_front code.instrs pc3 (apply_code o u d) back has3))
        (λ new r3 w3 f3 s3 e3 p3 low3. update_runs g old new d pc4 post r3 w3 f3 names.0 (omega (arith, room)) s3 e3 p3 (low3 d (omega arith) ∙ saved) has4)))) in
        paths.to n cells code few short total d (value_of fs (Update o u post g value)) pc (pc4 + 2 + length (old_code post d)) (pc + length (term_code (Update o u post g value) d pc)) r w f end there
    term_runs (Unary o of) pc d r w f names fit room has s p =
        let cv = term_code of d pc in
        let pc1 = pc + length cv in
        let e : pc1 + length (unary_code o) ≡ pc + length (cv ++ unary_code o) = omega (arith, length-append cv (unary_code o)) in
        paths.to n cells code few short (10 * size_of (Unary o of)) d (value_of fs (Unary o of)) pc (pc1 + length (unary_code o)) (pc + length (cv ++ unary_code o)) r w f e
        (paths.bind n cells code few short (10 * size_of of) 2 (10 * size_of (Unary o of)) d d (value_of fs of) (λ x p. Gives (unary_word o x) p) pc pc1 (pc1 + length (unary_code o)) r w f (omega arith) (omega arith)
        (term_runs of pc d r w f names fit room (has_front code.instrs pc cv (unary_code o) has) s p)
        (λ x r1 w1 f1 s1 e1 p1 low1. unary_runs o x d pc1 r1 w1 f1 s1 e1 p1 (has_rest code.instrs pc cv (unary_code o) has)))
    term_runs (Binary o u a b) pc d r w f names fit room has s p =
        let ca = term_code a d pc in
        let pc1 = pc + length ca in
        let cb = term_code b (d + 1) (pc1 + 1) in
        let ap_code = apply_code o u d in
        let has1 = has_rest code.instrs pc ca (save d ∷ (cb ++ ap_code)) has in
        let has2 = has_next code.instrs pc1 (save d) (cb ++ ap_code) has1 in
        let pc2 = pc1 + 1 + length cb in
        let has3 = has_rest code.instrs (pc1 + 1) cb ap_code has2 in
        let total = 10 * size_of (Binary o u a b) in
        let end : pc2 + 1 + length (operation_code o u) ≡ pc + length (term_code (Binary o u a b) d pc) = omega (arith, length-append ca (save d ∷ (cb ++ ap_code)), length-append cb ap_code) in
        paths.to n cells code few short total d (value_of fs (Binary o u a b)) pc (pc2 + 1 + length (operation_code o u)) (pc + length (term_code (Binary o u a b) d pc)) r w f end
        (paths.bind n cells code few short (10 * size_of a) (10 * size_of b + 4) total d d (value_of fs a) (λ x p. then_value (value_of fs b p) (λ y p. given (binary_word o u x y) p)) pc pc1 (pc2 + 1 + length (operation_code o u)) r w f (omega arith) (omega arith)
        (term_runs a pc d r w f names.0 fit.0 (omega (arith, room)) (has_front code.instrs pc ca (save d ∷ (cb ++ ap_code)) has) s p)
        (λ x r1 w1 f1 s1 e1 p1 low1.
        let f1' = put f1 d (r1 16) in
        paths.after n cells code few short 1 (10 * size_of b + 3) (10 * size_of b + 4) d (λ p. then_value (value_of fs b p) (λ y p. given (binary_word o u x y) p)) pc1 (pc1 + 1) (pc2 + 1 + length (operation_code o u)) r1 r1 w1 f1 f1' (omega arith)
        (paths.save_step n cells code few short d pc1 r1 w1 f1 s1 p1 (omega (arith, room)) has1.0) (λ i lt. put_other f1 d i (r1 16) (λ q. absurd (omega (arith, q))))
        (paths.bind n cells code few short (10 * size_of b) 3 (10 * size_of b + 3) d (d + 1) (value_of fs b) (λ y p. given (binary_word o u x y) p) (pc1 + 1) pc2 (pc2 + 1 + length (operation_code o u)) r1 w1 f1' (omega arith) (omega arith)
        (term_runs b (pc1 + 1) (d + 1) r1 w1 f1' names.1 fit.1 (omega (arith, room)) (has_front code.instrs (pc1 + 1) cb ap_code has2) s1 p1)
        (λ y r2 w2 f2 s2 e2 p2 low2. apply_runs o u x y d d pc2 r2 w2 f2 (omega (arith, room)) s2 (low2 d (omega arith) ∙ put_at f1 d (r1 16) ∙ e1) e2 p2 has3))))
    term_runs (And a b) pc d r w f names fit room has s p =
        let ca = term_code a d pc in
        let b_at = pc + length ca + 1 in
        let cbx = term_code b d b_at in
        let end = b_at + length cbx in
        let has1 = has_rest code.instrs pc ca (instr.Branch Zero 16 end ∷ (cbx ++ as_truth_code)) has in
        let has2 = has_front code.instrs b_at cbx as_truth_code (has_next code.instrs (pc + length ca) (instr.Branch Zero 16 end) (cbx ++ as_truth_code) has1) in
        paths.after n cells code few short 0 (10 * size_of a + (10 * size_of b + 3)) (10 * size_of (And a b)) d (value_of fs (And a b)) pc pc (pc + length (term_code (And a b) d pc)) r r w f f (omega arith) refl (λ i lt. refl)
        (and_runs (10 * size_of a) (10 * size_of b) d pc (value_of fs a) (value_of fs b) ca (term_code b d) r w f has
        (term_runs a pc d r w f names.0 fit.0 (omega (arith, room)) (has_front code.instrs pc ca (instr.Branch Zero 16 end ∷ (cbx ++ as_truth_code)) has) s p)
        (λ r1 w1 f1 s1 p1. term_runs b b_at d r1 w1 f1 names.1 fit.1 (omega (arith, room)) has2 s1 p1))
    term_runs (Or a b) pc d r w f names fit room has s p =
        let ca = term_code a d pc in
        let b_at = pc + length ca + 1 in
        let cbx = term_code b d b_at in
        let end = b_at + length cbx in
        let has1 = has_rest code.instrs pc ca (instr.Branch NotZero 16 end ∷ (cbx ++ as_truth_code)) has in
        let has2 = has_front code.instrs b_at cbx as_truth_code (has_next code.instrs (pc + length ca) (instr.Branch NotZero 16 end) (cbx ++ as_truth_code) has1) in
        paths.after n cells code few short 0 (10 * size_of a + (10 * size_of b + 3)) (10 * size_of (Or a b)) d (value_of fs (Or a b)) pc pc (pc + length (term_code (Or a b) d pc)) r r w f f (omega arith) refl (λ i lt. refl)
        (or_runs (10 * size_of a) (10 * size_of b) d pc (value_of fs a) (value_of fs b) ca (term_code b d) r w f has
        (term_runs a pc d r w f names.0 fit.0 (omega (arith, room)) (has_front code.instrs pc ca (instr.Branch NotZero 16 end ∷ (cbx ++ as_truth_code)) has) s p)
        (λ r1 w1 f1 s1 p1. term_runs b b_at d r1 w1 f1 names.1 fit.1 (omega (arith, room)) has2 s1 p1))
    term_runs (Cond test a b) pc d r w f names fit room has s p =
        let ct = term_code test d pc in
        let pc1 = pc + length ct in
        let a_at = pc1 + 1 in
        let cax = term_code a d a_at in
        let b_at = a_at + length cax + 1 in
        let cbx = term_code b d b_at in
        let end = b_at + length cbx in
        let tail = instr.Jmp end ∷ cbx in
        let has1 = has_rest code.instrs pc ct (instr.Branch Zero 16 b_at ∷ (cax ++ tail)) has in
        let has2 = has_next code.instrs pc1 (instr.Branch Zero 16 b_at) (cax ++ tail) has1 in
        let has3 = has_next code.instrs (a_at + length cax) (instr.Jmp end) cbx (has_rest code.instrs a_at cax tail has2) in
        paths.after n cells code few short 0 (10 * size_of test + (10 * size_of a + 10 * size_of b + 2)) (10 * size_of (Cond test a b)) d (value_of fs (Cond test a b)) pc pc (pc + length (term_code (Cond test a b) d pc)) r r w f f (omega arith) refl (λ i lt. refl)
        (choice_runs (10 * size_of test) (10 * size_of a) (10 * size_of b) d pc (value_of fs test) (value_of fs a) (value_of fs b) ct (term_code a d) (term_code b d) r w f has
        (term_runs test pc d r w f names.0 fit.0 (omega (arith, room)) (has_front code.instrs pc ct (instr.Branch Zero 16 b_at ∷ (cax ++ tail)) has) s p)
        (λ r1 w1 f1 s1 p1. term_runs a a_at d r1 w1 f1 names.1 fit.1 (omega (arith, room)) (has_front code.instrs a_at cax tail has2) s1 p1)
        (λ r1 w1 f1 s1 p1. term_runs b b_at d r1 w1 f1 names.2 fit.2 (omega (arith, room)) has3 s1 p1))
    term_runs (Comma a b) pc d r w f names fit room has s p =
        let ca = term_code a d pc in
        let pc1 = pc + length ca in
        let cb = term_code b d pc1 in
        let end : pc1 + length cb ≡ pc + length (ca ++ cb) = omega (arith, length-append ca cb) in
        paths.to n cells code few short (10 * size_of (Comma a b)) d (value_of fs (Comma a b)) pc (pc1 + length cb) (pc + length (ca ++ cb)) r w f end
        (paths.bind n cells code few short (10 * size_of a) (10 * size_of b) (10 * size_of (Comma a b)) d d (value_of fs a) (λ x p. value_of fs b p) pc pc1 (pc1 + length cb) r w f (omega arith) (omega arith)
        (term_runs a pc d r w f names.0 fit.0 (omega (arith, room)) (has_front code.instrs pc ca cb has) s p)
        (λ x r1 w1 f1 s1 e1 p1 low1. term_runs b pc1 d r1 w1 f1 names.1 fit.1 (omega (arith, room)) (has_rest code.instrs pc ca cb has) s1 p1))
    term_runs (Print format args) pc d r w f names fit room has s p =
        let cs = terms_code args d pc in
        let pc1 = pc + length cs in
        let tail = loads_code args 24 d ++ print_code format in
        let end : pc1 + length tail ≡ pc + length (cs ++ tail) = omega (arith, length-append cs tail) in
        let same : d ≡ d + 0 = omega arith in
        let fits : d + count_of args ≤ cells = omega (arith, room, waits args 0) in
        paths.to n cells code few short (10 * size_of (Print format args)) d (value_of fs (Print format args)) pc (pc1 + length tail) (pc + length (cs ++ tail)) r w f end
        (paths.after n cells code few short 0 (10 * size_of_all args + (count_of args + 2)) (10 * size_of (Print format args)) d (value_of fs (Print format args)) pc pc (pc1 + length tail) r r w f f (omega (arith, names.0)) refl (λ i lt. refl)
        (terms_run args (show (format_at fs format)) 0 d pc (pc1 + length tail) d (count_of args + 2) r w f names.1 fit.1 same (omega (arith, room)) (has_front code.instrs pc cs tail has) s p
        (λ vs r1 w1 f1 s1 p1 wait1 len1 low1. print_runs args vs format d d pc1 r1 w1 f1 fit.0 names.0 len1 wait1 fits s1 p1 (has_rest code.instrs pc cs tail has))))
    term_runs (Term.Unbuilt span) pc d r w f names fit room has s p = absurd names

    terms_run : (es : Terms) (go : List ℕ → Point → Value) (before c pc pc2 d b : ℕ) (r : Regs) (w : World) (f : ℕ → ℕ) → AllNamesBelow n es → AllPrintsFit fs es → c ≡ d + before → d + waiting_among es before ≤ cells → HasAt code.instrs pc (terms_code es c pc) → Sound n cells w → r 23 ≡ fp
        → ((vs : List ℕ) (r1 : Regs) (w1 : World) (f1 : ℕ → ℕ) → Sound n cells w1 → r1 23 ≡ fp → Wait vs c f1 → length vs ≡ count_of es → ((i : ℕ) → i < c → f1 i ≡ f i) → Evals b d (go vs) (pc + length (terms_code es c pc)) r1 w1 f1 pc2)
        → Evals (10 * size_of_all es + b) d (with_values fs es go) pc r w f pc2
    terms_run NoMore go before c pc pc2 d b r w f names fit is room has s p next =
        let e : pc + 0 ≡ pc = omega arith in
        let z : b ≡ 10 * 0 + b = omega arith in
        subst (λ k. Evals k d (go []) pc r w f pc2) z (subst (λ k. Evals b d (go []) k r w f pc2) e (next [] r w f s p tt refl (λ i lt. refl)))
    terms_run (More e es) go before c pc pc2 d b r w f names fit is room has s p next =
        let ce = term_code e c pc in
        let pc1 = pc + length ce in
        let cs = terms_code es (c + 1) (pc1 + 1) in
        let has1 = has_rest code.instrs pc ce (save c ∷ cs) has in
        let room_e : c + waiting_in e ≤ cells = omega (arith, room, is) in
        let end : pc1 + 1 + length cs ≡ pc + length (terms_code (More e es) c pc) = omega (arith, length-append ce (save c ∷ cs)) in
        paths.bind n cells code few short (10 * size_of e) (10 * size_of_all es + b + 1) (10 * size_of_all (More e es) + b) d c (value_of fs e) (λ v p. with_values fs es (λ vs p. go (v ∷ vs) p) p) pc pc1 pc2 r w f (omega (arith, is)) (omega arith)
        (term_runs e pc c r w f names.0 fit.0 room_e (has_front code.instrs pc ce (save c ∷ cs) has) s p)
        (λ v r1 w1 f1 s1 e1 p1 low1.
        let f1' = put f1 c (r1 16) in
        paths.after n cells code few short 1 (10 * size_of_all es + b) (10 * size_of_all es + b + 1) d (λ p. with_values fs es (λ vs p. go (v ∷ vs) p) p) pc1 (pc1 + 1) pc2 r1 r1 w1 f1 f1' (omega arith)
        (paths.save_step n cells code few short c pc1 r1 w1 f1 s1 p1 (omega (arith, room, is, waits es (before + 1))) has1.0) (λ i lt. put_other f1 c i (r1 16) (λ q. absurd (omega (arith, q, is))))
        (terms_run es (λ vs p. go (v ∷ vs) p) (before + 1) (c + 1) (pc1 + 1) pc2 d b r1 w1 f1' names.1 fit.1 (omega (arith, is)) (omega (arith, room)) (has_next code.instrs pc1 (save c) cs has1) s1 p1
        (λ vs r2 w2 f2 s2 p2 wait2 len2 low2.
        subst (λ k. Evals b d (go (v ∷ vs)) k r2 w2 f2 pc2) (sym end)
        (next (v ∷ vs) r2 w2 f2 s2 p2 (low2 c (omega arith) ∙ put_at f1 c (r1 16) ∙ e1, wait2) (omega (arith, len2)) (λ i lt. low2 i (omega arith) ∙ put_other f1 c i (r1 16) (λ q. absurd (omega (arith, q))) ∙ low1 i lt)))))
