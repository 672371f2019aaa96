-- The whole code of a program, and what follows for all of its runs.
use Rattle.std.proofs.Common.{◌≡◌, ℕ, zero, suc, ◌+◌, ◌*◌, ◌^◌, ◌<◌, ◌≤◌, List, [], ◌∷◌, ◌++◌, length, map, refl, sym, ap, ◌∙◌, subst, arith, inl, inr}
use Rattle.std.proofs.lemmas.List.{length-map}
use Rattle.std.proofs.lemmas.List.Sums.{sum_by-cons}
use Rattle.std.proofs.lemmas.Nat.{mul-le}
use Rattle.std.specs.Prelude.{◌⊎◌, slice_get, sum_by, unwrap_or}
use Rattle.xc_word.specs.declared.memory.Cell.{Cell}
use Rattle.xc_meaning_world.specs.World.{World, Request, On, New, Reply, Dead, Action, act_of, put, world_of}
use Rattle.xc_meaning_world.specs.Runs.{HasTrapped}
use Rattle.xc_isa.specs.declared.code.Code.{Code}
use Rattle.xc_isa.specs.declared.instr.TrapKind.{TrapKind}
use Rattle.xc_isa.specs.declared.instr.Instr.{Instr}
use Rattle.xc_isa.specs.declared.instr.Instr.TheVariants as instr
use Rattle.xc_isa.specs.Texts.{cells_of}
use Rattle.xc_isa.specs.Effects.{Regs}
use Rattle.xc_isa.specs.Machine.{Slot, Empty, Live, State, Spent, start, step, IsIdle, HasQuit, IsReady, live_words}
use Rattle.xc_isa.specs.Runs.{Ran, At, Trap, run}
use Rattle.xc_isa.proofs.Follows.{HasAt, has_front, has_all, Conf, conf, state_of, goes, asks, no_step, no_step_quit, start_is}
use Rattle.xc_meaning.specs.Terms.{Term, Number, Read, Write, Update, Unary, Binary, And, Or, Cond, Comma, Print, Terms, NoMore, More, Command, Empty as NoDeed, Eval, Block, Return, Commands, End, Then, Program}
use Rattle.xc_meaning.specs.Meaning.{Point, point, Outcome, Done, Returned, Trapped, outcome_of, ended, trace_of}
use Rattle.xc_meaning.specs.Source.{replies_of, main_with, IsTrace, IsWhole, SourceRun, HasEnded}
use Rattle.xc_gen.specs.Fits.{most_globals, NamesIn, PrintsIn}
use Rattle.xc_gen.specs.Code.{command_code, leave_code, enter_code, frame_cells, whole_code, waiting_in, waiting_among, waiting_for, waiting_for_all}
use Rattle.xc_gen_promises.specs.Promises.{IsMachine, SameResult}
use Rattle.xc_gen.specs.Faithful.{Faithful, NoStuck, size_of, size_of_all, largest, largest_among, TicksAtMost, PrintsAtMost, words_of_globals, step_bound, word_bound, Ends}
use Rattle.xc_gen.proofs.Ways.{Way, way_on, Rest, Falls, IsWithin, within}
use Rattle.xc_gen.proofs.Grows.{way_grows}
use Rattle.xc_gen.proofs.Deeds.{mine, part_mine, part_others, trapped_mine, ticks_of, Chain, chain_applies, append_none}
use Rattle.xc_gen.proofs.Places.{Sound, framed, place, frame_at, IsSmall, small_before, small_after, frame_made}
use Rattle.xc_gen.proofs.Paths.{has_rest}
use Rattle.xc_gen.proofs.CommandRuns.{Runs, leave_way, command_runs}

-- ---- sizes

mutual
  waiting_size : (e : Term) → waiting_in e ≤ size_of e
  waiting_size (Number n) = omega arith
  waiting_size (Read g) = omega arith
  waiting_size (Write g value) = omega (arith, waiting_size value)
  waiting_size (Update op u post g value) = omega (arith, waiting_size value)
  waiting_size (Unary op of) = omega (arith, waiting_size of)
  waiting_size (Binary op u a b) = omega (arith, waiting_size a, waiting_size b)
  waiting_size (And a b) = omega (arith, waiting_size a, waiting_size b)
  waiting_size (Or a b) = omega (arith, waiting_size a, waiting_size b)
  waiting_size (Cond x a b) = omega (arith, waiting_size x, waiting_size a, waiting_size b)
  waiting_size (Comma a b) = omega (arith, waiting_size a, waiting_size b)
  waiting_size (Print f es) = omega (arith, waiting_size_all es 0)
  waiting_size (Term.Unbuilt at) = omega arith

  waiting_size_all : (es : Terms) (before : ℕ) → waiting_among es before ≤ before + size_of_all es
  waiting_size_all NoMore before = omega arith
  waiting_size_all (More e es) before = omega (arith, waiting_size e, waiting_size_all es (before + 1))

mutual
  waiting_largest : (s : Command) → waiting_for s ≤ largest s
  waiting_largest NoDeed = omega arith
  waiting_largest (Eval e) = waiting_size e
  waiting_largest (Block all) = waiting_largest_among all
  waiting_largest (Return e) = waiting_size e
  waiting_largest (Command.Unbuilt at) = omega arith

  waiting_largest_among : (ss : Commands) → waiting_for_all ss ≤ largest_among ss
  waiting_largest_among End = omega arith
  waiting_largest_among (Then s ss) = omega (arith, waiting_largest s, waiting_largest_among ss)

-- ---- bounds

-- so many steps for each tick are within the bound
steps_bound : (t s x n steps : ℕ) → steps ≤ (10 * t + 2) * x + 5 → x ≤ n → steps ≤ step_bound t s n
steps_bound t s x n steps le xn =
    let a = 64 * (t + s + 1) in
    let more : (10 * t + 2) * x ≤ a * n = mul-le (10 * t + 2) x a n (omega arith) xn in
    let all : a * (n + 1) ≡ a * n + a = omega arith in
    omega (arith, le, more, all)

words_bound : (g t s words : ℕ) → words ≤ g + (t + 1) → words ≤ word_bound g t s
words_bound g t s words le =
    let more : (t + 8) * 1 ≤ (16 * (t + 8)) * ((s + 1) * 3) = mul-le (t + 8) 1 (16 * (t + 8)) ((s + 1) * 3) (omega arith) (omega arith) in
    let same : (16 * (t + 8)) * ((s + 1) * 3) ≡ 16 * (t + 8) * (s + 1) * 3 = omega arith in
    omega (arith, le, more, same)

-- ---- the program

-- each global has one cell
abbrev pub OneCell : List (List Cell) → Type 0
OneCell [] = Unit {0}
OneCell (x ∷ xs) = ((c : Cell) × (x ≡ c ∷ [])) × OneCell xs

one_at : (xs : List (List Cell)) (g : ℕ) → OneCell xs → g < length xs → (c : Cell) × (unwrap_or (slice_get xs g) [] ≡ c ∷ [])
one_at [] g h lt = absurd (omega arith)
one_at (x ∷ xs) zero h lt = h.0
one_at (x ∷ xs) (suc g) h lt = one_at xs g h.1 (omega arith)

none_past : (xs : List (List Cell)) (g : ℕ) → length xs ≤ g → unwrap_or (slice_get xs g) [] ≡ []
none_past [] g le = refl
none_past (x ∷ xs) zero le = absurd (omega (arith, le))
none_past (x ∷ xs) (suc g) le = none_past xs g (omega (arith, le))

one_each : (xs : List (List Cell)) → OneCell xs → sum_by length xs ≡ length xs
one_each [] h = refl
one_each (x ∷ xs) h =
    let here : sum_by length (x ∷ xs) ≡ length x + sum_by length xs = sum_by-cons length x xs in
    let one : length x ≡ 1 = ap length h.0.1 in
    omega (arith, here, one, one_each xs h.1)

-- what is to know of a program and its code
pub record Translated (p : Program) (c : Code) : Type 0 where
  pub few : length p.globals ≤ most_globals
  pub cells : OneCell p.globals
  pub names : NamesIn (length p.globals) p.body
  pub prints : PrintsIn p.formats p.body
  pub room : waiting_for p.body < 2 ^ 32
  pub globals : map cells_of c.globals ≡ p.globals
  pub formats : c.formats ≡ p.formats
  pub instrs : c.instrs ≡ whole_code p.body

module _ (p : Program) (c : Code) (tr : Translated p c) where
  abbrev n : ℕ
  n = length p.globals

  abbrev cells : ℕ
  cells = frame_cells p.body

  abbrev K : ℕ
  K = 10 * largest p.body + 2

  abbrev P : Conf → Type 0
  P = IsSmall n cells

  abbrev w0 : World
  w0 = world_of p.globals

  short : cells ≤ 2 ^ 32
  short = omega (arith, tr.room)

  first_sound : Sound n cells w0
  first_sound = record {
    one = λ g lt. one_at p.globals g tr.cells lt;
    none = λ g lt. above g lt;
    null = refl;
  }
    where
      above : (g : ℕ) → n < g → w0.segs g ≡ []
      above zero lt = refl
      above (suc g) lt = none_past p.globals g (omega (arith, lt))

  abbrev zeros : Regs
  zeros x = 0

  -- before the frame is made
  abbrev first : Conf
  first = conf (Live 0 zeros) w0 n

  has_code : HasAt c.instrs 0 (whole_code p.body)
  has_code = subst (λ l. HasAt l 0 (whole_code p.body)) (sym tr.instrs) (has_all (whole_code p.body))

  abbrev body : List Instr
  body = command_code p.body 2

  abbrev r1 : Regs
  r1 = put zeros 17 cells

  abbrev r2 : Regs
  r2 = put r1 23 (frame_at n cells)

  enter_way : Way c P 2 first (place n cells 2 r2 w0 (λ i. 0))
  enter_way =
      let has = has_code in
      let step1 = goes c (instr.Li 17 cells) 0 1 zeros r1 w0 n has.0 refl in
      let step2 = asks c (instr.NewSeg 23 17) (On (New cells)) 1 2 r1 (λ v. put r1 23 v) (frame_at n cells) w0 (framed n cells w0 (λ i. 0)) n has.1.0 refl (frame_made n cells w0 (omega arith)) (omega (arith, tr.few)) in
      (small_before n cells (Live 0 zeros) w0 first_sound, conf (Live 1 r1) w0 n, step1, (small_before n cells (Live 1 r1) w0 first_sound, place n cells 2 r2 w0 (λ i. 0), step2, refl))

  body_has : HasAt c.instrs 2 (body ++ leave_code)
  body_has = has_rest c.instrs 0 (enter_code cells) (body ++ leave_code) has_code

  body_runs : Runs n cells c tr.few short (omega arith) K (outcome_of c.formats p.body) 2 r2 w0 (λ i. 0) (2 + length body)
  body_runs = command_runs n cells c tr.few short (omega arith) p.body K 2 r2 w0 (λ i. 0) tr.names (subst (λ fs. PrintsIn fs p.body) (sym tr.formats) tr.prints) (omega arith) (omega arith) (has_front c.instrs 2 body leave_code body_has) first_sound refl

  -- the way ends where the stream quits, with the actions of a whole trace
  record Whole : Type 0 where
    acts : List Action
    world : World
    steps : ℕ
    chain : Chain n w0 acts world
    whole : main_with p (replies_of acts) ≡ Done (point [] acts)
    sound : Sound n cells world
    bound : steps ≤ K * ticks_of acts + 4
    way : Way c P steps first (conf Empty world (suc n))

  -- it ends in a trap, with the actions of a trace that traps
  record Fallen : Type 0 where
    acts : List Action
    world : World
    front : List Action
    request : Request
    last : acts ≡ front ++ act_of request Dead ∷ []
    steps : ℕ
    place : Conf
    kind : TrapKind
    chain : Chain n w0 acts world
    trace : trace_of (main_with p (replies_of acts)) ≡ acts
    bound : steps ≤ K * ticks_of acts + 4
    smallness : P place
    printed : place.world.out ≡ world.out
    way : Way c P steps first place
    fall : Falls c kind place

  abbrev does : Point → Outcome
  does = outcome_of c.formats p.body

  main_is : (acts : List Action) (o : List Reply → List Action → Outcome) → ((rs : List Reply) (t : List Action) → does (point (replies_of acts ++ rs) t) ≡ o rs (t ++ acts)) → main_with p (replies_of acts) ≡ ended (o [] acts)
  main_is acts o says =
      ap (λ fs. ended (outcome_of fs p.body (point (replies_of acts) []))) (sym tr.formats)
      ∙ ap (λ l. ended (does (point l []))) (sym (no_more (replies_of acts))) ∙ ap ended (says [] [])
    where
      no_more : (rs : List Reply) → rs ++ [] ≡ rs
      no_more [] = refl
      no_more (x ∷ rs) = ap (λ l. x ∷ l) (no_more rs)

  outcome : Whole ⊎ Fallen
  outcome = from body_runs
    where
      from : Runs n cells c tr.few short (omega arith) K does 2 r2 w0 (λ i. 0) (2 + length body) → Whole ⊎ Fallen
      from (inl h) = inl (record {
        acts = h.acts;
        world = h.world;
        steps = 2 + (h.steps + 2);
        chain = h.chain;
        whole = main_is h.acts (λ rs t. Done (point rs t)) h.says;
        sound = h.sound;
        bound = omega (arith, h.paid);
        way = way_on c P 2 (h.steps + 2) first (place n cells 2 r2 w0 (λ i. 0)) (conf Empty h.world (suc n)) enter_way
            (way_on c P h.steps 2 (place n cells 2 r2 w0 (λ i. 0)) (place n cells (2 + length body) h.regs h.world h.words) (conf Empty h.world (suc n)) h.way
            (leave_way n cells c tr.few short (omega arith) (2 + length body) h.regs h.world h.words h.sound h.pointer (has_rest c.instrs 2 body leave_code body_has)));
      })
      from (inr (inl h)) = inl (record {
        acts = h.acts;
        world = h.world;
        steps = 2 + h.steps;
        chain = h.chain;
        whole = main_is h.acts (λ rs t. Returned h.v (point rs t)) h.says;
        sound = h.sound;
        bound = omega (arith, h.paid);
        way = way_on c P 2 h.steps first (place n cells 2 r2 w0 (λ i. 0)) (conf Empty h.world (suc n)) enter_way h.way;
      })
      from (inr (inr h)) = inr (record {
        acts = h.acts;
        world = h.world;
        front = h.front;
        request = h.request;
        last = h.last;
        steps = 2 + h.steps;
        place = h.place;
        kind = h.kind;
        chain = h.chain;
        trace = ap trace_of (main_is h.acts (λ rs t. Trapped t) h.says);
        bound = omega (arith, h.paid);
        smallness = h.smallness;
        printed = h.printed;
        way = way_on c P 2 h.steps first (place n cells 2 r2 w0 (λ i. 0)) h.place enter_way h.way;
        fall = h.fall;
      })

  -- ---- all runs

  count_is : length c.globals ≡ n
  count_is = sym (length-map c.globals cells_of) ∙ ap length tr.globals

  -- the machine at its start
  begins : (q k : ℕ) → IsMachine q k → (others : List Slot) × IsIdle others × (start c q k ≡ state_of others first)
  begins q k machine =
      let s = start_is c q k machine.0.0 machine.1.0 in
      let begun : ℕ → List (List Cell) → State = λ l gs. state_of s.0 (conf (Live 0 zeros) (world_of gs) l) in
      (s.0, s.1, s.2 ∙ ap (λ l. begun l (map cells_of c.globals)) count_is ∙ ap (begun n) tr.globals)

  source_run : (acts : List Action) (w : World) → Chain n w0 acts w → IsTrace p acts → SourceRun p (mine acts) w
  source_run acts w chain t = record {
    applies = chain_applies n (omega (arith, tr.few)) acts w0 w chain;
    trace = subst (IsTrace p) (sym (part_mine acts)) t;
    only = λ s. part_others s acts;
  }

  whole_run : (h : Whole) → SourceRun p (mine h.acts) h.world
  whole_run h = source_run h.acts h.world h.chain ([], ap trace_of h.whole ∙ sym (append_none h.acts))

  fallen_run : (h : Fallen) → SourceRun p (mine h.acts) h.world
  fallen_run h = source_run h.acts h.world h.chain ([], h.trace ∙ sym (append_none h.acts))

  -- what is known of a run, by how its way ends
  abbrev Known : List Slot → List ℕ → Ran → Whole ⊎ Fallen → Type 0
  Known others slots a (inl h) = IsWithin c P others h.steps (conf Empty h.world (suc n)) slots a
  Known others slots a (inr h) = IsWithin c P others h.steps h.place slots a

  known : (others : List Slot) → IsIdle others → (slots : List ℕ) (o : Whole ⊎ Fallen) → Known others slots (run c slots (state_of others first)) o
  known others idle slots (inl h) = within c P others h.steps first (conf Empty h.world (suc n)) idle h.way (small_after n cells Empty h.world h.sound) (inl refl) slots
  known others idle slots (inr h) = within c P others h.steps first h.place idle h.way h.smallness (inr (h.kind, h.fall)) slots

  known_of : (q k : ℕ) → IsMachine q k → (slots : List ℕ) (a : Ran) → run c slots (start c q k) ≡ a → (others : List Slot) × Known others slots a outcome
  known_of q k machine slots a e =
      let b = begins q k machine in
      (b.0, subst (λ a. Known b.0 slots a outcome) (ap (run c slots) (sym b.2) ∙ e) (known b.0 b.1 slots outcome))

  -- a step that traps is not one of a stream that has quit
  no_fall : (others : List Slot) (kind : TrapKind) (d : Conf) → d.slot ≡ Empty → Falls c kind d → ⊥
  no_fall others kind d quit fall = let none = no_step c others d quit in let some = fall others in cc

  abbrev Ended : State → Type 0
  Ended st = (l : List (ℕ × Action)) × (v : World) × SourceRun p l v × HasEnded p l × SameResult n v st.world

  ended_of : (others : List Slot) (slots : List ℕ) (st : State) (o : Whole ⊎ Fallen) → Known others slots (At st) o → HasQuit st → Ended st
  ended_of others slots st (inl h) k free =
      let at : st ≡ state_of others (conf Empty h.world (suc n)) = k.1 ∙ ap (state_of others) (k.4 free) in
      let same : st.world ≡ h.world = ap (λ (s : State). s.world) at in
      (mine h.acts, h.world, whole_run h, subst (IsWhole p) (sym (part_mine h.acts)) h.whole, (ap (λ (w : World). w.out) (sym same), λ g le. ap (λ (w : World). w.segs g) (sym same)))
  ended_of others slots st (inr h) k free =
      let at : st ≡ state_of others h.place = k.1 ∙ ap (state_of others) (k.4 free) in
      absurd (let none = no_step_quit c others h.place (subst HasQuit at free) in let some = h.fall others in cc)

  abbrev Trapped_so : Type 0
  Trapped_so = (l : List (ℕ × Action)) × (v : World) × SourceRun p l v × HasTrapped l

  trapped_of : (others : List Slot) (slots : List ℕ) (kind : TrapKind) (o : Whole ⊎ Fallen) → Known others slots (Trap kind) o → Trapped_so
  trapped_of others slots kind (inl h) k = absurd (no_fall others kind (conf Empty h.world (suc n)) refl k.0)
  trapped_of others slots kind (inr h) k = (mine h.acts, h.world, fallen_run h, trapped_mine h.acts h.front h.request h.last)

  pub faithful : Faithful p c
  faithful = record { ends = ends; traps = traps }
    where
      ends : (q k : ℕ) → IsMachine q k → (slots : List ℕ) (st : State) → run c slots (start c q k) ≡ At st → HasQuit st → Ended st
      ends q k machine slots st e free =
          let h = known_of q k machine slots (At st) e in
          ended_of h.0 slots st outcome h.1 free

      traps : (q k : ℕ) → IsMachine q k → (slots : List ℕ) (kind : TrapKind) → run c slots (start c q k) ≡ Trap kind → Trapped_so
      traps q k machine slots kind e =
          let h = known_of q k machine slots (Trap kind) e in
          trapped_of h.0 slots kind outcome h.1

  one_ready : (st : State) → HasQuit st ⊎ IsReady c 0 st → HasQuit st ⊎ ((s : ℕ) × IsReady c s st)
  one_ready st (inl free) = inl free
  one_ready st (inr ready) = inr (0, ready)

  ready_of : (others : List Slot) (slots : List ℕ) (st : State) (o : Whole ⊎ Fallen) → Known others slots (At st) o → HasQuit st ⊎ ((s : ℕ) × IsReady c s st)
  ready_of others slots st (inl h) k = one_ready st k.5
  ready_of others slots st (inr h) k = one_ready st k.5

  pub no_stuck : NoStuck c
  no_stuck = record { ready = ready }
    where
      ready : (q k : ℕ) → IsMachine q k → (slots : List ℕ) (st : State) → run c slots (start c q k) ≡ At st → HasQuit st ⊎ ((s : ℕ) × IsReady c s st)
      ready q k machine slots st e =
          let h = known_of q k machine slots (At st) e in
          ready_of h.0 slots st outcome h.1

  -- ---- bounds

  abbrev T : ℕ
  T = largest p.body

  steps_of : (others : List Slot) (z m : ℕ) → TicksAtMost p m → (slots : List ℕ) (st : State) (o : Whole ⊎ Fallen) → Known others slots (At st) o → length slots ≤ step_bound T z m
  steps_of others z m most slots st (inl h) k = steps_bound T z (ticks_of h.acts) m (length slots) (omega (arith, k.3, h.bound)) (most (mine h.acts) h.world (whole_run h))
  steps_of others z m most slots st (inr h) k = steps_bound T z (ticks_of h.acts) m (length slots) (omega (arith, k.3, h.bound)) (most (mine h.acts) h.world (fallen_run h))

  steps_of_trap : (others : List Slot) (z m : ℕ) → TicksAtMost p m → (slots : List ℕ) (kind : TrapKind) (o : Whole ⊎ Fallen) → Known others slots (Trap kind) o → length slots ≤ step_bound T z m
  steps_of_trap others z m most slots kind (inl h) k = steps_bound T z (ticks_of h.acts) m (length slots) (omega (arith, k.1, h.bound)) (most (mine h.acts) h.world (whole_run h))
  steps_of_trap others z m most slots kind (inr h) k = steps_bound T z (ticks_of h.acts) m (length slots) (omega (arith, k.1, h.bound)) (most (mine h.acts) h.world (fallen_run h))

  words_at : (others : List Slot) (z : ℕ) (st : State) (m : Conf) → st ≡ state_of others m → P m → live_words st ≤ word_bound (words_of_globals p) T z
  words_at others z st m e small =
      let there : live_words st ≤ n + cells = subst (λ s. live_words s ≤ n + cells) (sym e) small in
      words_bound (words_of_globals p) T z (live_words st) (omega (arith, there, one_each p.globals tr.cells, waiting_largest p.body))

  words_of : (others : List Slot) (z : ℕ) (slots : List ℕ) (st : State) (o : Whole ⊎ Fallen) → Known others slots (At st) o → live_words st ≤ word_bound (words_of_globals p) T z
  words_of others z slots st (inl h) k = words_at others z st k.0 k.1 k.2
  words_of others z slots st (inr h) k = words_at others z st k.0 k.1 k.2

  numbers_of : (others : List Slot) (slots : List ℕ) (st : State) (o : Whole ⊎ Fallen) → Known others slots (At st) o → (s : ℕ) → step c s st ≡ Spent → ⊥
  numbers_of others slots st (inl h) k = k.6
  numbers_of others slots st (inr h) k = k.6

  -- what is printed where the way ends has been printed by a source run
  output_at : (others : List Slot) (m : ℕ) → PrintsAtMost p m → (st : State) (here d : Conf) (l : List (ℕ × Action)) (v : World) → st ≡ state_of others here → Rest c P here d → d.world.out ≡ v.out → SourceRun p l v → length st.world.out ≤ m
  output_at others m most st here d l v e rest same source =
      let now : length st.world.out ≡ length here.world.out = ap (λ (s : State). length s.world.out) e in
      let then : length d.world.out ≡ length v.out = ap length same in
      omega (arith, now, then, way_grows c P rest.0 here d rest.1, most l v source)

  output_of : (others : List Slot) (m : ℕ) → PrintsAtMost p m → (slots : List ℕ) (st : State) (o : Whole ⊎ Fallen) → Known others slots (At st) o → length st.world.out ≤ m
  output_of others m most slots st (inl h) k = output_at others m most st k.0 (conf Empty h.world (suc n)) (mine h.acts) h.world k.1 k.7 refl (whole_run h)
  output_of others m most slots st (inr h) k = output_at others m most st k.0 h.place (mine h.acts) h.world k.1 k.7 h.printed (fallen_run h)

  pub ends : Ends p c
  ends = record { steps = steps; steps_to_trap = steps_to_trap; words = words; numbers = numbers; output = output }
    where
      steps : (q k m : ℕ) → IsMachine q k → TicksAtMost p m → (slots : List ℕ) (st : State) → run c slots (start c q k) ≡ At st → length slots ≤ step_bound T (q * k) m
      steps q k m machine most slots st e =
          let h = known_of q k machine slots (At st) e in
          steps_of h.0 (q * k) m most slots st outcome h.1

      steps_to_trap : (q k m : ℕ) → IsMachine q k → TicksAtMost p m → (slots : List ℕ) (kind : TrapKind) → run c slots (start c q k) ≡ Trap kind → length slots ≤ step_bound T (q * k) m
      steps_to_trap q k m machine most slots kind e =
          let h = known_of q k machine slots (Trap kind) e in
          steps_of_trap h.0 (q * k) m most slots kind outcome h.1

      words : (q k : ℕ) → IsMachine q k → (slots : List ℕ) (st : State) → run c slots (start c q k) ≡ At st → live_words st ≤ word_bound (words_of_globals p) T (q * k)
      words q k machine slots st e =
          let h = known_of q k machine slots (At st) e in
          words_of h.0 (q * k) slots st outcome h.1

      numbers : (q k : ℕ) → IsMachine q k → (slots : List ℕ) (st : State) → run c slots (start c q k) ≡ At st → (s : ℕ) → step c s st ≡ Spent → ⊥
      numbers q k machine slots st e =
          let h = known_of q k machine slots (At st) e in
          numbers_of h.0 slots st outcome h.1

      output : (q k m : ℕ) → IsMachine q k → PrintsAtMost p m → (slots : List ℕ) (st : State) → run c slots (start c q k) ≡ At st → length st.world.out ≤ m
      output q k m machine most slots st e =
          let h = known_of q k machine slots (At st) e in
          output_of h.0 m most slots st outcome h.1
