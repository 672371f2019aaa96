-- The code of a statement does what the statement does, and its ticks pay for the steps.
use Rattle.std.proofs.Common.{◌≡◌, ℕ, suc, ◌+◌, ◌*◌, ◌^◌, ◌≤◌, List, [], ◌∷◌, ◌++◌, length, refl, sym, ap, ◌∙◌, subst, arith, inl, inr, length-append, append_assoc}
use Rattle.std.specs.Prelude.{◌⊎◌}
use Rattle.xc_meaning_world.specs.World.{World, Request, On, Free, Reply, Dead, Action, act_of, tick}
use Rattle.xc_isa.specs.declared.code.Code.{Code}
use Rattle.xc_isa.specs.declared.instr.TrapKind.{TrapKind}
use Rattle.xc_isa.specs.declared.instr.Instr.TheVariants as instr
use Rattle.xc_isa.specs.Effects.{Regs}
use Rattle.xc_isa.specs.Machine.{Empty, Live}
use Rattle.xc_isa.proofs.Follows.{HasAt, has_front, Conf, conf, asks, quits, frees_base}
use Rattle.xc_meaning.specs.Terms.{Term, Command, Empty as NoDeed, Eval, Block, Return, Commands, End, Then}
use Rattle.xc_meaning.specs.Meaning.{Point, point, Outcome, Done, Returned, Trapped, then_do, ticked, value_of, with_value, outcome_of, in_order}
use Rattle.xc_meaning.specs.Source.{replies_of}
use Rattle.xc_gen.specs.Fits.{most_globals, NamesIn, AllNamesIn, PrintsIn, AllPrintsIn}
use Rattle.xc_gen.specs.Code.{term_code, command_code, commands_code, leave_code, waiting_for, waiting_for_all}
use Rattle.xc_gen.specs.Faithful.{size_of, largest, largest_among}
use Rattle.xc_gen.proofs.Ways.{Way, way_on, Falls}
use Rattle.xc_gen.proofs.Deeds.{Chain, chain_on, ticks_of, ticks_on, split, append_none}
use Rattle.xc_gen.proofs.Places.{Sound, framed, place, frame_at, IsSmall, small, small_after, frame_freed}
use Rattle.xc_gen.proofs.Paths.{has_rest}
use Rattle.xc_gen.proofs.TermRuns.{Evals, term_runs}

-- one tick pays
pub one_pays : (b k x : ℕ) → b ≤ k → b ≤ k * suc x
one_pays b k x le = omega arith

pub more_pays : (b k x : ℕ) → b ≤ k * x → b ≤ k * suc x
more_pays b k x le = omega arith

pub both_pay : (a b k x y z : ℕ) → a ≤ k * x → b ≤ k * y → z ≡ x + y → a + b ≤ k * z
both_pay a b k x y z la lb e = subst (λ z. a + b ≤ k * z) (sym e) (omega (arith, la, lb))

module _ (n cells : ℕ) (code : Code) (few : n ≤ most_globals) (short : cells ≤ 2 ^ 32) (some : 1 ≤ cells) where
  abbrev at : ℕ → Regs → World → (ℕ → ℕ) → Conf
  at = place n cells

  abbrev P : Conf → Type 0
  P = IsSmall n cells

  abbrev fp : ℕ
  fp = frame_at n cells

  abbrev fs : List (List ℕ)
  fs = code.formats

  -- it comes to its end
  pub record Came (k : ℕ) (m : Point → Outcome) (pc : ℕ) (r : Regs) (w : World) (f : ℕ → ℕ) (pc' : ℕ) : Type 0 where
    pub acts : List Action
    pub world : World
    pub regs : Regs
    pub words : ℕ → ℕ
    pub steps : ℕ
    pub chain : Chain n w acts world
    pub says : (rs : List Reply) (t : List Action) → m (point (replies_of acts ++ rs) t) ≡ Done (point rs (t ++ acts))
    pub sound : Sound n cells world
    pub pointer : regs 23 ≡ fp
    pub paid : steps ≤ k * ticks_of acts
    pub way : Way code P steps (at pc r w f) (at pc' regs world words)

  -- it returns, and the stream quits
  pub record Left (k : ℕ) (m : Point → Outcome) (pc : ℕ) (r : Regs) (w : World) (f : ℕ → ℕ) : Type 0 where
    pub acts : List Action
    pub world : World
    pub v : ℕ
    pub steps : ℕ
    pub chain : Chain n w acts world
    pub says : (rs : List Reply) (t : List Action) → m (point (replies_of acts ++ rs) t) ≡ Returned v (point rs (t ++ acts))
    pub sound : Sound n cells world
    pub paid : steps ≤ k * ticks_of acts
    pub way : Way code P steps (at pc r w f) (conf Empty world (suc n))

  -- it traps
  pub record Fell (k : ℕ) (m : Point → Outcome) (pc : ℕ) (r : Regs) (w : World) (f : ℕ → ℕ) : Type 0 where
    pub acts : List Action
    pub world : World
    pub front : List Action
    pub request : Request
    pub last : acts ≡ front ++ act_of request Dead ∷ []
    pub steps : ℕ
    pub place : Conf
    pub kind : TrapKind
    pub chain : Chain n w acts world
    pub says : (rs : List Reply) (t : List Action) → m (point (replies_of acts ++ rs) t) ≡ Trapped (t ++ acts)
    pub paid : steps ≤ k * ticks_of acts
    pub smallness : P place
    pub printed : place.world.out ≡ world.out
    pub way : Way code P steps (at pc r w f) place
    pub fall : Falls code kind place

  abbrev pub Runs : ℕ → (Point → Outcome) → ℕ → Regs → World → (ℕ → ℕ) → ℕ → Type 0
  Runs k m pc r w f pc' = Came k m pc r w f pc' ⊎ (Left k m pc r w f ⊎ Fell k m pc r w f)

  -- ---- the end of the stream

  pub leave_way : (pc : ℕ) (r : Regs) (w : World) (f : ℕ → ℕ) → Sound n cells w → r 23 ≡ fp → HasAt code.instrs pc leave_code → Way code P 2 (at pc r w f) (conf Empty w (suc n))
  leave_way pc r w f s p has =
      let free = asks code (instr.Free 23) (On (Free (suc n))) pc (suc pc) r (λ v. r) 0 (framed n cells w f) w (suc n) has.0 (frees_base (r 23) (suc n) (suc pc) r p) (frame_freed n cells (suc (suc n)) w f some s) (omega (arith, few)) in
      (small n cells pc r w f s, conf (Live (suc pc) r) w (suc n), free, (small_after n cells (Live (suc pc) r) w s, conf Empty w (suc n), quits code instr.Quit (suc pc) r w (suc n) has.1.0 refl, refl))

  -- ---- one statement after a tick

  joined : (t l : List Action) → (t ++ tick ∷ []) ++ l ≡ t ++ tick ∷ l
  joined t l = append_assoc t (tick ∷ []) l

  eval_runs : (e : Term) (k b pc pc' : ℕ) (r : Regs) (w : World) (f : ℕ → ℕ) → b ≤ k → Sound n cells w → Evals n cells code few short b 0 (value_of fs e) pc r w f pc' → Runs k (λ p. with_value (value_of fs e (ticked p)) (λ v p. Done p)) pc r w f pc'
  eval_runs e k b pc pc' r w f le s (inl h) = inl (record {
    acts = tick ∷ h.source.acts;
    world = h.world;
    regs = h.regs;
    words = h.words;
    steps = h.steps;
    chain = (s.none (suc n) (omega arith), w, refl, h.source.chain);
    says = λ rs t. ap (λ x. with_value x (λ v p. Done p)) (h.source.says rs (t ++ tick ∷ [])) ∙ ap (λ l. Done (point rs l)) (joined t h.source.acts);
    sound = h.sound;
    pointer = h.pointer;
    paid = one_pays h.steps k (ticks_of h.source.acts) (omega (arith, h.bound));
    way = h.way;
  })
  eval_runs e k b pc pc' r w f le s (inr h) = inr (inr (record {
    acts = tick ∷ h.source.acts;
    world = h.source.world;
    front = tick ∷ h.source.front;
    request = h.source.request;
    last = ap (λ l. tick ∷ l) h.source.last;
    steps = h.steps;
    place = h.last;
    kind = h.kind;
    chain = (s.none (suc n) (omega arith), w, refl, h.source.chain);
    says = λ rs t. ap (λ x. with_value x (λ v p. Done p)) (h.source.says rs (t ++ tick ∷ [])) ∙ ap Trapped (joined t h.source.acts);
    paid = one_pays h.steps k (ticks_of h.source.acts) (omega (arith, h.bound));
    smallness = h.smallness;
    printed = h.printed;
    way = h.way;
    fall = h.fall;
  }))

  return_runs : (e : Term) (k b pc pc1 pc' : ℕ) (r : Regs) (w : World) (f : ℕ → ℕ) → b + 2 ≤ k → Sound n cells w → HasAt code.instrs pc1 leave_code → Evals n cells code few short b 0 (value_of fs e) pc r w f pc1 → Runs k (λ p. with_value (value_of fs e (ticked p)) Returned) pc r w f pc'
  return_runs e k b pc pc1 pc' r w f le s has (inl h) = inr (inl (record {
    acts = tick ∷ h.source.acts;
    world = h.world;
    v = h.v;
    steps = h.steps + 2;
    chain = (s.none (suc n) (omega arith), w, refl, h.source.chain);
    says = λ rs t. ap (λ x. with_value x Returned) (h.source.says rs (t ++ tick ∷ [])) ∙ ap (λ l. Returned h.v (point rs l)) (joined t h.source.acts);
    sound = h.sound;
    paid = one_pays (h.steps + 2) k (ticks_of h.source.acts) (omega (arith, h.bound));
    way = way_on code P h.steps 2 (at pc r w f) (at pc1 h.regs h.world h.words) (conf Empty h.world (suc n)) h.way (leave_way pc1 h.regs h.world h.words h.sound h.pointer has);
  }))
  return_runs e k b pc pc1 pc' r w f le s has (inr h) = inr (inr (record {
    acts = tick ∷ h.source.acts;
    world = h.source.world;
    front = tick ∷ h.source.front;
    request = h.source.request;
    last = ap (λ l. tick ∷ l) h.source.last;
    steps = h.steps;
    place = h.last;
    kind = h.kind;
    chain = (s.none (suc n) (omega arith), w, refl, h.source.chain);
    says = λ rs t. ap (λ x. with_value x Returned) (h.source.says rs (t ++ tick ∷ [])) ∙ ap Trapped (joined t h.source.acts);
    paid = one_pays h.steps k (ticks_of h.source.acts) (omega (arith, h.bound));
    smallness = h.smallness;
    printed = h.printed;
    way = h.way;
    fall = h.fall;
  }))

  -- a tick before all
  tick_first : (k pc pc' : ℕ) (m : Point → Outcome) (r : Regs) (w : World) (f : ℕ → ℕ) → Sound n cells w → Runs k m pc r w f pc' → Runs k (λ p. m (ticked p)) pc r w f pc'
  tick_first k pc pc' m r w f s (inl h) = inl (record {
    acts = tick ∷ h.acts;
    world = h.world;
    regs = h.regs;
    words = h.words;
    steps = h.steps;
    chain = (s.none (suc n) (omega arith), w, refl, h.chain);
    says = λ rs t. h.says rs (t ++ tick ∷ []) ∙ ap (λ l. Done (point rs l)) (joined t h.acts);
    sound = h.sound;
    pointer = h.pointer;
    paid = more_pays h.steps k (ticks_of h.acts) h.paid;
    way = h.way;
  })
  tick_first k pc pc' m r w f s (inr (inl h)) = inr (inl (record {
    acts = tick ∷ h.acts;
    world = h.world;
    v = h.v;
    steps = h.steps;
    chain = (s.none (suc n) (omega arith), w, refl, h.chain);
    says = λ rs t. h.says rs (t ++ tick ∷ []) ∙ ap (λ l. Returned h.v (point rs l)) (joined t h.acts);
    sound = h.sound;
    paid = more_pays h.steps k (ticks_of h.acts) h.paid;
    way = h.way;
  }))
  tick_first k pc pc' m r w f s (inr (inr h)) = inr (inr (record {
    acts = tick ∷ h.acts;
    world = h.world;
    front = tick ∷ h.front;
    request = h.request;
    last = ap (λ l. tick ∷ l) h.last;
    steps = h.steps;
    place = h.place;
    kind = h.kind;
    chain = (s.none (suc n) (omega arith), w, refl, h.chain);
    says = λ rs t. h.says rs (t ++ tick ∷ []) ∙ ap Trapped (joined t h.acts);
    paid = more_pays h.steps k (ticks_of h.acts) h.paid;
    smallness = h.smallness;
    printed = h.printed;
    way = h.way;
    fall = h.fall;
  }))

  nothing_runs : (k pc : ℕ) (r : Regs) (w : World) (f : ℕ → ℕ) → Sound n cells w → r 23 ≡ fp → Runs k Done pc r w f pc
  nothing_runs k pc r w f s p = inl (record {
    acts = [];
    world = w;
    regs = r;
    words = f;
    steps = 0;
    chain = refl;
    says = λ rs t. ap (λ l. Done (point rs l)) (sym (append_none t));
    sound = s;
    pointer = p;
    paid = omega arith;
    way = refl;
  })

  -- one after the other
  sequence : (k pc pc1 pc2 : ℕ) (m go : Point → Outcome) (r : Regs) (w : World) (f : ℕ → ℕ) → Runs k m pc r w f pc1
      → ((r1 : Regs) (w1 : World) (f1 : ℕ → ℕ) → Sound n cells w1 → r1 23 ≡ fp → Runs k go pc1 r1 w1 f1 pc2) → Runs k (λ p. then_do (m p) go) pc r w f pc2
  sequence k pc pc1 pc2 m go r w f (inr (inl h)) next = inr (inl (record { acts = h.acts; world = h.world; v = h.v; steps = h.steps; chain = h.chain; says = λ rs t. ap (λ x. then_do x go) (h.says rs t); sound = h.sound; paid = h.paid; way = h.way }))
  sequence k pc pc1 pc2 m go r w f (inr (inr h)) next =
      inr (inr (record { acts = h.acts; world = h.world; front = h.front; request = h.request; last = h.last; steps = h.steps; place = h.place; kind = h.kind; chain = h.chain; says = λ rs t. ap (λ x. then_do x go) (h.says rs t); paid = h.paid; smallness = h.smallness; printed = h.printed; way = h.way; fall = h.fall }))
  sequence k pc pc1 pc2 m go r w f (inl h) next = second (next h.regs h.world h.words h.sound h.pointer)
    where
      first_says : (l : List Action) (rs : List Reply) (t : List Action) → then_do (m (point (replies_of (h.acts ++ l) ++ rs) t)) go ≡ go (point (replies_of l ++ rs) (t ++ h.acts))
      first_says l rs t = ap (λ x. then_do (m (point x t)) go) (split h.acts l rs) ∙ ap (λ x. then_do x go) (h.says (replies_of l ++ rs) t)

      second : Runs k go pc1 h.regs h.world h.words pc2 → Runs k (λ p. then_do (m p) go) pc r w f pc2
      second (inl g) = inl (record {
        acts = h.acts ++ g.acts;
        world = g.world;
        regs = g.regs;
        words = g.words;
        steps = h.steps + g.steps;
        chain = chain_on n h.acts g.acts w h.world g.world h.chain g.chain;
        says = λ rs t. first_says g.acts rs t ∙ g.says rs (t ++ h.acts) ∙ ap (λ l. Done (point rs l)) (append_assoc t h.acts g.acts);
        sound = g.sound;
        pointer = g.pointer;
        paid = both_pay h.steps g.steps k (ticks_of h.acts) (ticks_of g.acts) (ticks_of (h.acts ++ g.acts)) h.paid g.paid (ticks_on h.acts g.acts);
        way = way_on code P h.steps g.steps (at pc r w f) (at pc1 h.regs h.world h.words) (at pc2 g.regs g.world g.words) h.way g.way;
      })
      second (inr (inl g)) = inr (inl (record {
        acts = h.acts ++ g.acts;
        world = g.world;
        v = g.v;
        steps = h.steps + g.steps;
        chain = chain_on n h.acts g.acts w h.world g.world h.chain g.chain;
        says = λ rs t. first_says g.acts rs t ∙ g.says rs (t ++ h.acts) ∙ ap (λ l. Returned g.v (point rs l)) (append_assoc t h.acts g.acts);
        sound = g.sound;
        paid = both_pay h.steps g.steps k (ticks_of h.acts) (ticks_of g.acts) (ticks_of (h.acts ++ g.acts)) h.paid g.paid (ticks_on h.acts g.acts);
        way = way_on code P h.steps g.steps (at pc r w f) (at pc1 h.regs h.world h.words) (conf Empty g.world (suc n)) h.way g.way;
      }))
      second (inr (inr g)) = inr (inr (record {
        acts = h.acts ++ g.acts;
        world = g.world;
        front = h.acts ++ g.front;
        request = g.request;
        last = ap (λ l. h.acts ++ l) g.last ∙ sym (append_assoc h.acts g.front (act_of g.request Dead ∷ []));
        steps = h.steps + g.steps;
        place = g.place;
        kind = g.kind;
        chain = chain_on n h.acts g.acts w h.world g.world h.chain g.chain;
        says = λ rs t. first_says g.acts rs t ∙ g.says rs (t ++ h.acts) ∙ ap Trapped (append_assoc t h.acts g.acts);
        paid = both_pay h.steps g.steps k (ticks_of h.acts) (ticks_of g.acts) (ticks_of (h.acts ++ g.acts)) h.paid g.paid (ticks_on h.acts g.acts);
        smallness = g.smallness;
        printed = g.printed;
        way = way_on code P h.steps g.steps (at pc r w f) (at pc1 h.regs h.world h.words) g.place h.way g.way;
        fall = g.fall;
      }))

  to : (k pc pc1 pc2 : ℕ) (m : Point → Outcome) (r : Regs) (w : World) (f : ℕ → ℕ) → pc1 ≡ pc2 → Runs k m pc r w f pc1 → Runs k m pc r w f pc2
  to k pc pc1 pc2 m r w f e h = subst (Runs k m pc r w f) e h

  mutual
    pub command_runs : (s : Command) (k pc : ℕ) (r : Regs) (w : World) (f : ℕ → ℕ) → NamesIn n s → PrintsIn fs s → waiting_for s ≤ cells → 10 * largest s + 2 ≤ k → HasAt code.instrs pc (command_code s pc) → Sound n cells w → r 23 ≡ fp → Runs k (outcome_of fs s) pc r w f (pc + length (command_code s pc))
    command_runs NoDeed k pc r w f names fit room le has s p =
        let e : pc ≡ pc + 0 = omega arith in
        to k pc pc (pc + 0) (outcome_of fs NoDeed) r w f e (tick_first k pc pc Done r w f s (nothing_runs k pc r w f s p))
    command_runs (Eval e) k pc r w f names fit room le has s p =
        eval_runs e k (10 * size_of e) pc (pc + length (term_code e 0 pc)) r w f (omega (arith, le)) s (term_runs n cells code few short e pc 0 r w f names fit (omega (arith, room)) has s p)
    command_runs (Block all) k pc r w f names fit room le has s p =
        tick_first k pc (pc + length (commands_code all pc)) (in_order fs all) r w f s (commands_run all k pc r w f names fit room le has s p)
    command_runs (Return e) k pc r w f names fit room le has s p =
        let ce = term_code e 0 pc in
        return_runs e k (10 * size_of e) pc (pc + length ce) (pc + length (ce ++ leave_code)) r w f le s (has_rest code.instrs pc ce leave_code has)
        (term_runs n cells code few short e pc 0 r w f names fit (omega (arith, room)) (has_front code.instrs pc ce leave_code has) s p)
    command_runs (Command.Unbuilt span) k pc r w f names fit room le has s p = absurd names

    commands_run : (ss : Commands) (k pc : ℕ) (r : Regs) (w : World) (f : ℕ → ℕ) → AllNamesIn n ss → AllPrintsIn fs ss → waiting_for_all ss ≤ cells → 10 * largest_among ss + 2 ≤ k → HasAt code.instrs pc (commands_code ss pc) → Sound n cells w → r 23 ≡ fp → Runs k (in_order fs ss) pc r w f (pc + length (commands_code ss pc))
    commands_run End k pc r w f names fit room le has s p =
        let e : pc ≡ pc + 0 = omega arith in
        to k pc pc (pc + 0) Done r w f e (nothing_runs k pc r w f s p)
    commands_run (Then c cs) k pc r w f names fit room le has s p =
        let cc = command_code c pc in
        let pc1 = pc + length cc in
        let rest = commands_code cs pc1 in
        let e : pc1 + length rest ≡ pc + length (cc ++ rest) = omega (arith, length-append cc rest) in
        to k pc (pc1 + length rest) (pc + length (cc ++ rest)) (in_order fs (Then c cs)) r w f e
        (sequence k pc pc1 (pc1 + length rest) (outcome_of fs c) (in_order fs cs) r w f
        (command_runs c k pc r w f names.0 fit.0 (omega (arith, room)) (omega (arith, le)) (has_front code.instrs pc cc rest has) s p)
        (λ r1 w1 f1 s1 p1. commands_run cs k pc1 r1 w1 f1 names.1 fit.1 (omega (arith, room)) (omega (arith, le)) (has_rest code.instrs pc cc rest has) s1 p1))
