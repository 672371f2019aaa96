-- Each form goes on in the same way with more replies, by induction on terms and commands.
use Rattle.std.proofs.Common.{ℕ, zero, suc, ◌==◌, List, [], ◌∷◌, Bool, true, false, refl}
use Rattle.std.specs.Prelude.{◌&&◌, cond, Option, Some, None}
use Rattle.xc_word.specs.declared.memory.Kind.{Kind}
use Rattle.xc_word.specs.declared.memory.Kind.TheVariants as kind
use Rattle.xc_meaning_world.specs.World.{Reach, New, Free, On, Print as Shows, Tick}
use Rattle.xc_text_format.specs.Pieces.{text_of}
use Rattle.xc_tree_words.specs.Words.{unary_word}
use Rattle.xc_meaning_terms.specs.Terms.{Term, Number, Local, Set, UpdateLocal, Global, Index, Member, Read, Write, FetchAdd, Purge, Update, Unary, Binary, And, Or, Cond, Comma, Call, Print, Terms, NoMore, More, Formal, ByValue, InMemory, Range, Mark, Unmarked, Normal, Concurrent, Header, Command, Empty, Declare, Object, Eval, Block, If, IfElse, Loop, Switch, Return, Break, Continue, Future, Commands, End, Then, Items, NoItem, At, Other, Do}
use Rattle.xc_meaning_terms.specs.Pointers.{segment_of, offset_of, access_at, member_of, element, operate}
use Rattle.xc_meaning_terms.specs.Ranges.{index_values, last_index, is_near}
use Rattle.xc_meaning_threads.specs.Events.{Of, CallBegins, Enter, Leave, Spawn, Fork, Join}
use Rattle.xc_meaning_threads.specs.Meaning.{Setting, Point, Outcome, Gives, Exit, Ends, Breaks, Continues, Returns, marked, ticked, set, ask, stop, given, and_then, touch, write, show, format_at, as_truth, either, if_zero, update_local, value_of, values_of, on_end, then_do, freed, leaving, purged, filled, with_object, with_declared, with_formals, value_or_one, after_turn, turned, looped, serially, values_in, limit_of, forked, compared, by_mark, chosen, out_of_switch, captured, formals_of, future_of, followed, outcome_of, in_order, run_items, from_case, from_default}
use Rattle.xc_meaning_threads.proofs.Steadiness.{after, Steady, then_steady, gives_steady, marked_steady, set_steady, either_steady, ask_steady, stop_steady, given_steady, late_steady}

-- ---- requests

pub touch_steady : (k : Kind) (at v : ℕ) → Steady (touch k at v)
touch_steady k at v = ask_steady (On (Reach (access_at k at v))) (λ a. refl)

pub write_steady : (k : Kind) (at v u : ℕ) → Steady (write k at v u)
write_steady k at v u = then_steady (touch k at v) (λ _ p. Gives u p) (touch_steady k at v) (λ _. gives_steady u)

pub show_steady : (format vs : List ℕ) → Steady (show format vs)
show_steady format vs = then_steady (ask (Shows (text_of format vs))) (λ _ p. Gives 0 p) (ask_steady (Shows (text_of format vs)) (λ a. refl)) (λ _. gives_steady 0)

pub update_steady : (post : Bool) (x old new : ℕ) → Steady (update_local post x old new)
update_steady post x old new = set_steady (Gives (cond post old new)) x new (gives_steady (cond post old new))

truth_steady : (x : ℕ) → Steady (as_truth x)
truth_steady x = gives_steady _

-- ---- terms

abbrev pub SteadyCalls : Setting → Type 0
SteadyCalls s = (f : ℕ) (vs : List ℕ) → Steady (s.call f vs)

module _ (s : Setting) (calls : SteadyCalls s) where
  mutual
    pub values : (e : Term) → Steady (value_of s e)
    values (Number n) p more = gives_steady n p more
    values (Local x) p more = gives_steady (p.env x) p more
    values (Set x value) p more = then_steady (value_of s value) (λ v p. Gives v (set x v p)) (values value) (λ v. set_steady (Gives v) x v (gives_steady v)) p more
    values (UpdateLocal o post x value) p more =
        after more p (value_of s value p) (value_of s value _) (values value p more)
        (λ v q. and_then (given (operate o (p.env x) v) q) (update_local post x (p.env x)))
        (λ v. then_steady (given (operate o (p.env x) v)) (update_local post x (p.env x)) (given_steady (operate o (p.env x) v)) (update_steady post x (p.env x)))
    values (Global g) p more = gives_steady _ p more
    values (Index bound unsigned size base index) p more =
        then_steady (value_of s base) _ (values base) (λ b. then_steady (value_of s index) _ (values index) (λ i. given_steady (element bound unsigned size b i))) p more
    values (Member base off) p more = then_steady (value_of s base) _ (values base) (λ b. given_steady (member_of b off)) p more
    values (Read k place) p more = then_steady (value_of s place) _ (values place) (λ at. touch_steady k at 0) p more
    values (Write k place value) p more =
        then_steady (value_of s place) _ (values place) (λ at. then_steady (value_of s value) _ (values value) (λ v. write_steady k at v v)) p more
    values (FetchAdd place value) p more =
        then_steady (value_of s place) _ (values place) (λ at. then_steady (value_of s value) _ (values value) (λ v. touch_steady kind.Add at v)) p more
    values (Purge place) p more = then_steady (value_of s place) _ (values place) (λ at. write_steady kind.Purge at 0 0) p more
    values (Update o post read wr place value) p more =
        then_steady (value_of s place) _ (values place) (λ at. then_steady (touch read at 0) _ (touch_steady read at 0) (λ old.
        then_steady (value_of s value) _ (values value) (λ v. then_steady (given (operate o old v)) _ (given_steady (operate o old v))
        (λ new. write_steady wr at new (cond post old new))))) p more
    values (Unary o of) p more = then_steady (value_of s of) _ (values of) (λ x. gives_steady (unary_word o x)) p more
    values (Binary o a b) p more =
        then_steady (value_of s a) _ (values a) (λ x. then_steady (value_of s b) _ (values b) (λ y. given_steady (operate o x y))) p more
    values (And a b) p more = then_steady (value_of s a) _ (values a) (λ x. either_steady (x == 0) (Gives 0) (λ p. and_then (value_of s b p) as_truth) (gives_steady 0)
        (then_steady (value_of s b) as_truth (values b) truth_steady)) p more
    values (Or a b) p more = then_steady (value_of s a) _ (values a) (λ x. either_steady (x == 0) (λ p. and_then (value_of s b p) as_truth) (Gives 1)
        (then_steady (value_of s b) as_truth (values b) truth_steady) (gives_steady 1)) p more
    values (Cond test a b) p more = then_steady (value_of s test) _ (values test) (λ x. either_steady (x == 0) (value_of s b) (value_of s a) (values b) (values a)) p more
    values (Comma a b) p more = then_steady (value_of s a) _ (values a) (λ x. values b) p more
    values (Call f args) p more =
        then_steady (values_of s args) _ (lists args) (λ vs. marked_steady (s.call f vs) CallBegins refl (calls f vs)) p more
    values (Print format args) p more = then_steady (values_of s args) _ (lists args) (show_steady (format_at s.formats format)) p more

    lists : (es : Terms) → Steady (values_of s es)
    lists NoMore p more = gives_steady [] p more
    lists (More e es) p more =
        then_steady (value_of s e) _ (values e) (λ v. then_steady (values_of s es) _ (lists es) (λ vs. gives_steady (v ∷ vs))) p more

  -- ---- how statements are left

  on_end_steady : (exit : Exit) (go : Point → Outcome Exit) → Steady go → Steady (on_end exit go)
  on_end_steady Ends go g p more = g p more
  on_end_steady Breaks go g p more = gives_steady Breaks p more
  on_end_steady Continues go g p more = gives_steady Continues p more
  on_end_steady (Returns v) go g p more = gives_steady (Returns v) p more

  then_do_steady : (f go : Point → Outcome Exit) → Steady f → Steady go → Steady (λ p. then_do (f p) go)
  then_do_steady f go h g = then_steady f (λ exit. on_end exit go) h (λ exit. on_end_steady exit go g)

  -- ---- objects in memory

  freed_steady : (w : ℕ) → Steady (freed w)
  freed_steady w = either_steady (offset_of w == 0) (ask (On (Free (segment_of w)))) stop (ask_steady (On (Free (segment_of w))) (λ a. refl)) stop_steady

  leaving_steady : (w : ℕ) (f : Point → Outcome Exit) → Steady f → Steady (λ p. leaving w (f p))
  leaving_steady w f h = then_steady f _ h (λ exit. then_steady (freed w) _ (freed_steady w) (λ _. gives_steady exit))

  purged_steady : (w : ℕ) (ks : List ℕ) → Steady (purged w ks)
  purged_steady w [] p more = gives_steady Ends p more
  purged_steady w (k ∷ ks) p more = then_steady (given (member_of w k)) _ (given_steady (member_of w k)) (λ at.
      then_steady (touch kind.Purge at 0) _ (touch_steady kind.Purge at 0) (λ _. purged_steady w ks)) p more

  filled_steady : (w : ℕ) (is : List (ℕ × Term)) → Steady (filled s w is)
  filled_steady w [] p more = gives_steady Ends p more
  filled_steady w (i ∷ is) p more = then_steady (value_of s i.1) _ (values i.1) (λ v. then_steady (given (member_of w i.0)) _ (given_steady (member_of w i.0)) (λ at.
      then_steady (touch kind.WriteXf at v) _ (touch_steady kind.WriteXf at v) (λ _. filled_steady w is))) p more

  object_steady : (x cells : ℕ) (go : ℕ → Point → Outcome Exit) → ((w : ℕ) → Steady (go w)) → Steady (with_object x cells go)
  object_steady x cells go g = then_steady (ask (On (New cells))) (λ w p. leaving w (go w (set x w p))) (ask_steady (On (New cells)) (λ a. refl))
      (λ w. set_steady (λ p. leaving w (go w p)) x w (leaving_steady w (go w) (g w)))

  ticked_steady : {X : Type 0} (f : Point → Outcome X) → Steady f → Steady (λ p. f (ticked p))
  ticked_steady f h = marked_steady f (Of Tick) refl h

  declared_steady : (x cells : ℕ) (ks : List ℕ) (is : List (ℕ × Term)) (go : Point → Outcome Exit) → Steady go → Steady (with_declared s x cells ks is go)
  declared_steady x cells ks is go g = ticked_steady (with_object x cells (λ w p. then_do (purged w ks p) (λ p. then_do (filled s w is p) go)))
      (object_steady x cells (λ w p. then_do (purged w ks p) (λ p. then_do (filled s w is p) go)) (λ w.
      then_do_steady (purged w ks) (λ p. then_do (filled s w is p) go) (purged_steady w ks) (then_do_steady (filled s w is) go (filled_steady w is) g)))

  pub formals_steady : (fs : List Formal) (vs : List ℕ) (go : Point → Outcome Exit) → Steady go → Steady (with_formals fs vs go)
  formals_steady [] vs go g p more = g p more
  formals_steady (f ∷ fs) [] go g p more = g p more
  formals_steady (ByValue x ∷ fs) (v ∷ vs) go g p more = set_steady (with_formals fs vs go) x v (formals_steady fs vs go g) p more
  formals_steady (InMemory x ∷ fs) (v ∷ vs) go g p more =
      object_steady x 1 (λ w p. and_then (touch kind.WriteXf w v p) (λ _ p. with_formals fs vs go p)) (λ w.
      then_steady (touch kind.WriteXf w v) _ (touch_steady kind.WriteXf w v) (λ _. formals_steady fs vs go g)) p more

  -- ---- loops

  part_steady : (o : Option Term) → Steady (value_or_one s o)
  part_steady None p more = gives_steady 1 p more
  part_steady (Some e) p more = values e p more

  after_turn_steady : (exit : Exit) (go : Point → Outcome Exit) → Steady go → Steady (after_turn exit go)
  after_turn_steady Ends go g p more = g p more
  after_turn_steady Breaks go g p more = gives_steady Ends p more
  after_turn_steady Continues go g p more = g p more
  after_turn_steady (Returns v) go g p more = gives_steady (Returns v) p more

  pub turned_steady : (h : Header) (body go : Point → Outcome Exit) → Steady body → Steady go → Steady (turned s h body go)
  turned_steady h body go b g = then_steady body _ b (λ exit. after_turn_steady exit (λ p. and_then (value_or_one s h.step p) (λ _ p. go p))
      (then_steady (value_or_one s h.step) (λ _ p. go p) (part_steady h.step) (λ _. g)))

  pub looped_steady : (n : ℕ) (h : Header) (body : Point → Outcome Exit) → Steady body → Steady (looped n s h body)
  looped_steady zero h body b p more = late_steady p more
  looped_steady (suc n) h body b p more =
      ticked_steady (λ p. and_then (value_or_one s h.test p) (λ v. if_zero v (Gives Ends) (turned s h body (looped n s h body))))
      (then_steady (value_or_one s h.test) _ (part_steady h.test) (λ v. either_steady (v == 0) (Gives Ends) (turned s h body (looped n s h body))
      (gives_steady Ends) (turned_steady h body (looped n s h body) b (looped_steady n h body b)))) p more

  pub serially_steady : (h : Header) (body : Point → Outcome Exit) → Steady body → Steady (serially s h body)
  serially_steady h body b = either_steady h.late (turned s h body (looped s.turns s h body)) (looped s.turns s h body)
      (turned_steady h body (looped s.turns s h body) b (looped_steady s.turns h body b)) (looped_steady s.turns h body b)

  forked_steady : (r : Range) (lo hi : ℕ) (body : Command) → Steady (forked r lo hi body)
  forked_steady r lo hi body p more = marked_steady (λ p. Gives Ends (marked Join (set r.index (last_index r lo hi) p)))
      (Fork r.id r.index (index_values r lo hi) (values_in r.local_count p.env) body) refl
      (set_steady (λ p. Gives Ends (marked Join p)) r.index (last_index r lo hi) (marked_steady (Gives Ends) Join refl (gives_steady Ends))) p more

  pub by_mark_steady : (m : Mark) (h : Header) (go : Point → Outcome Exit) (body : Command) → Steady go → Steady (by_mark m s h go body)
  by_mark_steady Unmarked h go body g p more = serially_steady h go g p more
  by_mark_steady (Normal r) h go body g p more =
      marked_steady (λ p. then_do (serially s h go p) (λ p. Gives Ends (marked (Leave r.id) p))) (Enter r h.test body (values_in r.local_count p.env)) refl
      (then_do_steady (serially s h go) (λ p. Gives Ends (marked (Leave r.id) p)) (serially_steady h go g) (marked_steady (Gives Ends) (Leave r.id) refl (gives_steady Ends))) p more
  by_mark_steady (Concurrent r) h go body g p more =
      ticked_steady (λ q. and_then (value_of s (limit_of h.test) q) (λ hi q. either (is_near (q.env r.index) && is_near hi) (forked r (q.env r.index) hi body)
      (if_zero (compared r.order (q.env r.index) hi) (Gives Ends) (turned s h go (looped s.turns s h go))) q))
      (then_steady (value_of s (limit_of h.test)) _ (values (limit_of h.test)) (λ hi q more.
      either_steady (is_near (q.env r.index) && is_near hi) (forked r (q.env r.index) hi body)
      (if_zero (compared r.order (q.env r.index) hi) (Gives Ends) (turned s h go (looped s.turns s h go)))
      (forked_steady r (q.env r.index) hi body)
      (either_steady (compared r.order (q.env r.index) hi == 0) (Gives Ends) (turned s h go (looped s.turns s h go)) (gives_steady Ends)
      (turned_steady h go (looped s.turns s h go) g (looped_steady s.turns h go g))) q more)) p more

  -- ---- statements

  captured_steady : (cs : List (Formal × Term)) → Steady (captured s cs)
  captured_steady [] p more = gives_steady [] p more
  captured_steady (c ∷ cs) p more =
      then_steady (value_of s c.1) _ (values c.1) (λ v. then_steady (captured s cs) _ (captured_steady cs) (λ vs. gives_steady (v ∷ vs))) p more

  future_steady : (place : Term) (cs : List (Formal × Term)) (body : Command) → Steady (future_of s place cs body)
  future_steady place cs body = then_steady (value_of s place) _ (values place) (λ at.
      then_steady (touch kind.Purge at 0) _ (touch_steady kind.Purge at 0) (λ _.
      then_steady (captured s cs) _ (captured_steady cs) (λ vs. marked_steady (Gives Ends) (Spawn at (formals_of cs) vs body) refl (gives_steady Ends))))

  followed_steady : (c : Command) (f go : Point → Outcome Exit) → Steady f → Steady go → Steady (followed s c f go)
  followed_steady (Object x cells ks is) f go h g p more = declared_steady x cells ks is go g p more
  followed_steady Empty f go h g p more = then_do_steady f go h g p more
  followed_steady (Declare x init) f go h g p more = then_do_steady f go h g p more
  followed_steady (Eval e) f go h g p more = then_do_steady f go h g p more
  followed_steady (Block all) f go h g p more = then_do_steady f go h g p more
  followed_steady (If test then) f go h g p more = then_do_steady f go h g p more
  followed_steady (IfElse test then other) f go h g p more = then_do_steady f go h g p more
  followed_steady (Loop hd init body) f go h g p more = then_do_steady f go h g p more
  followed_steady (Switch value items) f go h g p more = then_do_steady f go h g p more
  followed_steady (Return e) f go h g p more = then_do_steady f go h g p more
  followed_steady Break f go h g p more = then_do_steady f go h g p more
  followed_steady Continue f go h g p more = then_do_steady f go h g p more
  followed_steady (Future place cs body) f go h g p more = then_do_steady f go h g p more

  -- the statements behind a label, where there is one
  abbrev SteadyIf : Option (Point → Outcome Exit) → Type 0
  SteadyIf None = Unit {0}
  SteadyIf (Some go) = Steady go

  case_steady : (b : Bool) (go : Point → Outcome Exit) (other : Option (Point → Outcome Exit)) → Steady go → SteadyIf other → SteadyIf (cond b (Some go) other)
  case_steady true go other g h = g
  case_steady false go other g h = h

  chosen_steady : (a b : Option (Point → Outcome Exit)) → SteadyIf a → SteadyIf b → Steady (chosen a b)
  chosen_steady (Some go) b g h p more = g p more
  chosen_steady None (Some go) g h p more = h p more
  chosen_steady None None g h p more = gives_steady Ends p more

  mutual
    pub outcomes : (c : Command) → Steady (outcome_of s c)
    outcomes Empty p more = ticked_steady (Gives Ends) (gives_steady Ends) p more
    outcomes (Declare x None) p more = ticked_steady (λ p. Gives Ends (set x 0 p)) (set_steady (Gives Ends) x 0 (gives_steady Ends)) p more
    outcomes (Declare x (Some e)) p more = ticked_steady (λ p. and_then (value_of s e p) (λ v p. Gives Ends (set x v p)))
        (then_steady (value_of s e) _ (values e) (λ v. set_steady (Gives Ends) x v (gives_steady Ends))) p more
    outcomes (Object x cells ks is) p more = declared_steady x cells ks is (Gives Ends) (gives_steady Ends) p more
    outcomes (Eval e) p more = ticked_steady (λ p. and_then (value_of s e p) (λ v p. Gives Ends p)) (then_steady (value_of s e) _ (values e) (λ v. gives_steady Ends)) p more
    outcomes (Block all) p more = ticked_steady (in_order s all (Gives Ends)) (orders all (Gives Ends) (gives_steady Ends)) p more
    outcomes (If test then) p more = ticked_steady (λ p. and_then (value_of s test p) (λ v. if_zero v (Gives Ends) (outcome_of s then)))
        (then_steady (value_of s test) _ (values test) (λ v. either_steady (v == 0) (Gives Ends) (outcome_of s then) (gives_steady Ends) (outcomes then))) p more
    outcomes (IfElse test then other) p more = ticked_steady (λ p. and_then (value_of s test p) (λ v. if_zero v (outcome_of s other) (outcome_of s then)))
        (then_steady (value_of s test) _ (values test) (λ v. either_steady (v == 0) (outcome_of s other) (outcome_of s then) (outcomes other) (outcomes then))) p more
    outcomes (Loop h init body) p more = ticked_steady (in_order s init (by_mark h.mark s h (outcome_of s body) body))
        (orders init (by_mark h.mark s h (outcome_of s body) body) (by_mark_steady h.mark h (outcome_of s body) body (outcomes body))) p more
    outcomes (Switch value items) p more =
        ticked_steady (λ p. and_then (value_of s value p) (λ v p. and_then (chosen (from_case s v items) (from_default s items) p) (λ exit p. Gives (out_of_switch exit) p)))
        (then_steady (value_of s value) _ (values value) (λ v. then_steady (chosen (from_case s v items) (from_default s items)) _
        (chosen_steady (from_case s v items) (from_default s items) (cases v items) (defaults items)) (λ exit. gives_steady (out_of_switch exit)))) p more
    outcomes (Return None) p more = ticked_steady (Gives (Returns 0)) (gives_steady (Returns 0)) p more
    outcomes (Return (Some e)) p more = ticked_steady (λ p. and_then (value_of s e p) (λ v p. Gives (Returns v) p))
        (then_steady (value_of s e) _ (values e) (λ v. gives_steady (Returns v))) p more
    outcomes Break p more = ticked_steady (Gives Breaks) (gives_steady Breaks) p more
    outcomes Continue p more = ticked_steady (Gives Continues) (gives_steady Continues) p more
    outcomes (Future place cs body) p more = ticked_steady (future_of s place cs body) (future_steady place cs body) p more

    orders : (cs : Commands) (go : Point → Outcome Exit) → Steady go → Steady (in_order s cs go)
    orders End go g p more = g p more
    orders (Then c cs) go g p more = followed_steady c (outcome_of s c) (in_order s cs go) (outcomes c) (orders cs go g) p more

    items_steady : (is : Items) → Steady (run_items s is)
    items_steady NoItem p more = gives_steady Ends p more
    items_steady (At n rest) p more = items_steady rest p more
    items_steady (Other rest) p more = items_steady rest p more
    items_steady (Do c rest) p more = then_do_steady (outcome_of s c) (run_items s rest) (outcomes c) (items_steady rest) p more

    cases : (v : ℕ) (is : Items) → SteadyIf (from_case s v is)
    cases v NoItem = tt
    cases v (At n rest) = case_steady (n == v) (run_items s rest) (from_case s v rest) (items_steady rest) (cases v rest)
    cases v (Other rest) = cases v rest
    cases v (Do c rest) = cases v rest

    defaults : (is : Items) → SteadyIf (from_default s is)
    defaults NoItem = tt
    defaults (At n rest) = defaults rest
    defaults (Other rest) = items_steady rest
    defaults (Do c rest) = defaults rest
