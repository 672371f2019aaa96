-- How moves of the machine go together, against the meaning of a part.
use Rattle.std.proofs.Common.{◌≡◌, ℕ, suc, ◌+◌, ◌-◌, ◌≤◌, List, ◌∷◌, Bool, true, false, refl, ap, ◌∙◌, arith}
use Rattle.xc_meaning_terms.specs.Terms.{Program}
use Rattle.xc_meaning_threads.specs.Events.{Event}
use Rattle.xc_meaning_threads.specs.Meaning.{Point, Halt, Trapped, NoReply, NoFuel, Outcome, Gives, Halts, Exit, and_then, either}
use Rattle.xc_meaning_moves.specs.Machine.{Frame, Control, Gave, Config, config, Next, Goes, Stops, goes, on_given, valued, choose, does, on_next, moves}

module _ (prog : Program) where
  -- what comes of a move and so many more
  abbrev pub later : ℕ → Next → Outcome Exit
  later j x = on_next x (moves prog j)

  -- the one comes to the other
  abbrev pub Comes : Next → Next → Type 0
  Comes x y = (j : ℕ) × ((i : ℕ) → later (j + i) x ≡ later i y)

  pub stays : (x : Next) → Comes x x
  stays x = (0, λ i. let e : 0 + i ≡ i = omega arith in ap (λ z. later z x) e)

  pub steps_once : (c : Config) → Comes (Goes c) (does prog c.control c.stack c.point)
  steps_once c = (1, λ i. let e : 1 + i ≡ suc i = omega arith in ap (λ z. later z (Goes c)) e)

  pub comes_on : (x y z : Next) → Comes x y → Comes y z → Comes x z
  comes_on x y z a b = (a.0 + b.0, λ i. let e : (a.0 + b.0) + i ≡ a.0 + (b.0 + i) = omega arith in ap (λ u. later u x) e ∙ a.1 (b.0 + i) ∙ b.1 i)

  -- still going after n moves or more, with these events
  abbrev pub Tires : ℕ → Next → List Event → Type 0
  Tires n x t = (j : ℕ) × (n ≤ j) × (later j x ≡ Halts NoFuel t)

  tires_on : (n : ℕ) (x y : Next) (t : List Event) → Comes x y → Tires n y t → Tires n x t
  tires_on n x y t a b = let le : n ≤ b.0 = b.1 in (a.0 + b.0, omega (arith, le), a.1 b.0 ∙ b.2)

  tires_less : (n m : ℕ) (x : Next) (t : List Event) → m ≤ n → Tires n x t → Tires m x t
  tires_less n m x t le b = let more : n ≤ b.0 = b.1 in (b.0, omega (arith, le, more), b.2)

  tires_more : (n : ℕ) (c : Config) (t : List Event) → Tires (n - 1) (does prog c.control c.stack c.point) t → Tires n (Goes c) t
  tires_more n c t b = let le : n - 1 ≤ b.0 = b.1 in (suc b.0, omega (arith, le), b.2)

  tires_halted : (n : ℕ) (t : List Event) → Tires n (Stops (Halts NoFuel t)) t
  tires_halted n t = (n, omega arith, refl)

  -- a move comes to where a part of the meaning ends, which is told by a control; or it halts as the part does
  abbrev pub HaltsSo : ℕ → Next → Halt → List Event → Type 0
  HaltsSo n x Trapped t = Comes x (Stops (Halts Trapped t))
  HaltsSo n x NoReply t = Comes x (Stops (Halts NoReply t))
  HaltsSo n x NoFuel t = Tires n x t

  abbrev pub Does : {X : Type 0} → (X → Control) → ℕ → Next → List Frame → Outcome X → Type 0
  Does give n x k (Gives v q) = Comes x (goes (give v) k q)
  Does give n x k (Halts how t) = HaltsSo n x how t

  halts_on : (n : ℕ) (x y : Next) (how : Halt) (t : List Event) → Comes x y → HaltsSo n y how t → HaltsSo n x how t
  halts_on n x y Trapped t a b = comes_on x y (Stops (Halts Trapped t)) a b
  halts_on n x y NoReply t a b = comes_on x y (Stops (Halts NoReply t)) a b
  halts_on n x y NoFuel t a b = tires_on n x y t a b

  pub does_on : {X : Type 0} (give : X → Control) (n : ℕ) (x y : Next) (k : List Frame) (o : Outcome X) → Comes x y → Does give n y k o → Does give n x k o
  does_on give n x y k (Gives v q) a b = comes_on x y (goes (give v) k q) a b
  does_on give n x y k (Halts how t) a b = halts_on n x y how t a b

  halts_less : (n m : ℕ) (x : Next) (how : Halt) (t : List Event) → m ≤ n → HaltsSo n x how t → HaltsSo m x how t
  halts_less n m x Trapped t le a = a
  halts_less n m x NoReply t le a = a
  halts_less n m x NoFuel t le a = tires_less n m x t le a

  pub does_less : {X : Type 0} (give : X → Control) (n m : ℕ) (x : Next) (k : List Frame) (o : Outcome X) → m ≤ n → Does give n x k o → Does give m x k o
  does_less give n m x k (Gives v q) le a = a
  does_less give n m x k (Halts how t) le a = halts_less n m x how t le a

  halts_more : (n : ℕ) (c : Config) (how : Halt) (t : List Event) → HaltsSo (n - 1) (does prog c.control c.stack c.point) how t → HaltsSo n (Goes c) how t
  halts_more n c Trapped t a = comes_on (Goes c) (does prog c.control c.stack c.point) (Stops (Halts Trapped t)) (steps_once c) a
  halts_more n c NoReply t a = comes_on (Goes c) (does prog c.control c.stack c.point) (Stops (Halts NoReply t)) (steps_once c) a
  halts_more n c NoFuel t a = tires_more n c t a

  pub does_more : {X : Type 0} (give : X → Control) (n : ℕ) (c : Config) (k : List Frame) (o : Outcome X) → Does give (n - 1) (does prog c.control c.stack c.point) k o → Does give n (Goes c) k o
  does_more give n c k (Gives v q) a = comes_on (Goes c) (does prog c.control c.stack c.point) (goes (give v) k q) (steps_once c) a
  does_more give n c k (Halts how t) a = halts_more n c how t a

  pub does_once : {X : Type 0} (give : X → Control) (n : ℕ) (c : Config) (k : List Frame) (o : Outcome X) → Does give n (does prog c.control c.stack c.point) k o → Does give n (Goes c) k o
  does_once give n c k o a = does_on give n (Goes c) (does prog c.control c.stack c.point) k o (steps_once c) a

  pub stops_so : (n : ℕ) (how : Halt) (t : List Event) → HaltsSo n (Stops (Halts how t)) how t
  stops_so n Trapped t = stays (Stops (Halts Trapped t))
  stops_so n NoReply t = stays (Stops (Halts NoReply t))
  stops_so n NoFuel t = tires_halted n t

  pub does_value : (n : ℕ) (k : List Frame) (o : Outcome ℕ) → Does Gave n (valued o k) k o
  does_value n k (Gives v q) = stays (goes (Gave v) k q)
  does_value n k (Halts how t) = stops_so n how t

  -- what is done at once, and what follows it
  pub does_request : {X Y : Type 0} (give : Y → Control) (n : ℕ) (k : List Frame) (o : Outcome X) (g : X → Point → Next) (go : X → Point → Outcome Y)
      → ((v : X) (q : Point) → Does give n (g v q) k (go v q)) → Does give n (on_given o g) k (and_then o go)
  does_request give n k (Gives v q) g go h = h v q
  does_request give n k (Halts how t) g go h = stops_so n how t

  pub does_request_in : {X Y Z : Type 0} (give : Z → Control) (n : ℕ) (k : List Frame) (o : Outcome X) (g : X → Point → Next) (f : X → Point → Outcome Y) (go : Y → Point → Outcome Z)
      → ((v : X) (q : Point) → Does give n (g v q) k (and_then (f v q) go)) → Does give n (on_given o g) k (and_then (and_then o f) go)
  does_request_in give n k (Gives v q) g f go h = h v q
  does_request_in give n k (Halts how t) g f go h = stops_so n how t

  -- what waits in a frame
  pub does_then : {X Y : Type 0} (of : X → Control) (give : Y → Control) (n : ℕ) (x : Next) (f : Frame) (k : List Frame) (o : Outcome X) (go : X → Point → Outcome Y)
      → Does of n x (f ∷ k) o → ((v : X) (q : Point) → Does give n (does prog (of v) (f ∷ k) q) k (go v q)) → Does give n x k (and_then o go)
  does_then of give n x f k (Gives v q) go a h = does_on give n x (goes (of v) (f ∷ k) q) k (go v q) a (does_once give n (config (of v) (f ∷ k) q) k (go v q) (h v q))
  does_then of give n x f k (Halts how t) go a h = a

  pub does_then_in : {X Y Z : Type 0} (of : X → Control) (give : Z → Control) (n : ℕ) (x : Next) (f : Frame) (k : List Frame) (o : Outcome X) (g : X → Point → Outcome Y) (go : Y → Point → Outcome Z)
      → Does of n x (f ∷ k) o → ((v : X) (q : Point) → Does give n (does prog (of v) (f ∷ k) q) k (and_then (g v q) go)) → Does give n x k (and_then (and_then o g) go)
  does_then_in of give n x f k (Gives v q) g go a h =
      does_on give n x (goes (of v) (f ∷ k) q) k (and_then (g v q) go) a (does_once give n (config (of v) (f ∷ k) q) k (and_then (g v q) go) (h v q))
  does_then_in of give n x f k (Halts how t) g go a h = a

  pub does_either : {X : Type 0} (give : X → Control) (n : ℕ) (k : List Frame) (b : Bool) (f g : Point → Next) (f' g' : Point → Outcome X) (q : Point)
      → Does give n (f q) k (f' q) → Does give n (g q) k (g' q) → Does give n (choose b f g q) k (either b f' g' q)
  does_either give n k true f g f' g' q x y = x
  does_either give n k false f g f' g' q x y = y
