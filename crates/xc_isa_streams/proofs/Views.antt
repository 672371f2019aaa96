-- One memory, whose segments have owners: what each owner sees of it.
use Rattle.std.proofs.Common.{◌≡◌, ℕ, suc, ◌<◌, ◌≤◌, List, [], ◌++◌, Option, Some, None, Bool, true, false, cond, refl, sym, ap, ◌∙◌, arith}
use mathlib.Core.Path.{fun_ext}
use Rattle.std.specs.Prelude.{◌==◌}
use Rattle.std.proofs.lemmas.Bool.{eqb-true}
use Rattle.xc_word.specs.declared.memory.Cell.{Cell}
use Rattle.xc_meaning_world.specs.World.{Segs, World, Touch, Reach, New, Free, Request, On, Print, Begin, Stop, Tick, Reply, Got, Dead, put, seg_of, op, put_back, touched, with_out, serve}
use Rattle.xc_meaning_world.specs.Runs.{Allows}
use Rattle.xc_meaning_world.proofs.Puts.{by_same, eqb_same, eqb_other, put_at, put_other}
use Rattle.xc_isa.specs.Machine.{last_of_touch, last_after}
use Rattle.xc_isa_streams.specs.Parts.{Ask, Of, Side, AllowsIn, request_of}
use Rattle.xc_isa_streams.specs.Promises.{view, parted}

pub view_mine : (c : ℕ) (owner : ℕ → ℕ) (m : Segs) (g : ℕ) → owner g ≡ c → view c owner m g ≡ m g
view_mine c owner m g e = ap (λ b. cond b (m g) []) (eqb_same (owner g) c e)

pub view_not : (c : ℕ) (owner : ℕ → ℕ) (m : Segs) (g : ℕ) → (owner g ≡ c → ⊥) → view c owner m g ≡ []
view_not c owner m g ne = ap (λ b. cond b (m g) []) (eqb_other (owner g) c ne)

-- an owner of nothing sees nothing
pub view_none : (c : ℕ) (owner : ℕ → ℕ) (m : Segs) → ((g : ℕ) → owner g ≡ c → ⊥) → view c owner m ≡ (λ g. [])
view_none c owner m ne = fun_ext (λ g. view_not c owner m g (ne g))

swap : (b c : Bool) (xs ys : List Cell) → (c ≡ true → b ≡ true) → cond b (cond c xs ys) [] ≡ cond c xs (cond b ys [])
swap true true xs ys h = refl
swap true false xs ys h = refl
swap false true xs ys h = let bad : false ≡ true = h refl in cc
swap false false xs ys h = refl

skip : (b c : Bool) (xs ys : List Cell) → (c ≡ true → b ≡ false) → cond b (cond c xs ys) [] ≡ cond b ys []
skip true true xs ys h = let bad : true ≡ false = h refl in cc
skip true false xs ys h = refl
skip false true xs ys h = refl
skip false false xs ys h = refl

both_empty : (b : Bool) (xs : List Cell) → xs ≡ [] → cond b xs [] ≡ []
both_empty true xs h = h
both_empty false xs h = refl

pub view_put : (c : ℕ) (owner : ℕ → ℕ) (m : Segs) (g : ℕ) (xs : List Cell) → owner g ≡ c → view c owner (put m g xs) ≡ put (view c owner m) g xs
view_put c owner m g xs e = fun_ext (λ x. swap (owner x == c) (x == g) xs (m x) (λ h. eqb_same (owner x) c (ap owner (eqb-true x g h) ∙ e)))

pub view_skip : (c : ℕ) (owner : ℕ → ℕ) (m : Segs) (g : ℕ) (xs : List Cell) → (owner g ≡ c → ⊥) → view c owner (put m g xs) ≡ view c owner m
view_skip c owner m g xs ne = fun_ext (λ x. skip (owner x == c) (x == g) xs (m x) (λ h. eqb_other (owner x) c (λ e. ne (ap owner (sym (eqb-true x g h)) ∙ e))))

-- a segment that is not live may get another owner
recolour : (c d : ℕ) (owner : ℕ → ℕ) (m : Segs) (g : ℕ) → m g ≡ [] → view c (put owner g d) m ≡ view c owner m
recolour c d owner m g h = fun_ext (λ x. by_same _ x g
    (λ e. let none : m x ≡ [] = ap m e ∙ h in both_empty (put owner g d x == c) (m x) none ∙ sym (both_empty (owner x == c) (m x) none))
    (λ ne. ap (λ u. cond (u == c) (m x) []) (put_other owner g x d ne)))

-- ---- the owner of what a touch makes

abbrev pub given : Touch → (ℕ → ℕ) → ℕ → ℕ → ℕ → ℕ
given (Reach act) owner num d = owner
given (New n) owner num d = put owner num d
given (Free g) owner num d = owner

pub given_old : (x : Touch) (owner : ℕ → ℕ) (last d y : ℕ) → (y ≡ suc last → ⊥) → given x owner (suc last) d y ≡ owner y
given_old (Reach act) owner last d y ne = refl
given_old (New n) owner last d y ne = put_other owner (suc last) y d ne
given_old (Free g) owner last d y ne = refl

pub given_view : (x : Touch) (c d : ℕ) (owner : ℕ → ℕ) (m : Segs) (last : ℕ) → m (suc last) ≡ [] → view c (given x owner (suc last) d) m ≡ view c owner m
given_view (Reach act) c d owner m last none = refl
given_view (New n) c d owner m last none = recolour c d owner m (suc last) none
given_view (Free g) c d owner m last none = refl

pub given_above : (x : Touch) (owner : ℕ → ℕ) (last d y : ℕ) → ((y : ℕ) → last < y → owner y ≡ 0) → last_of_touch x last < y → given x owner (suc last) d y ≡ 0
given_above (Reach act) owner last d y above lt = above y lt
given_above (New n) owner last d y above lt = put_other owner (suc last) y d (λ e. omega (arith, e, lt)) ∙ above y (omega (arith, lt))
given_above (Free g) owner last d y above lt = above y lt

pub given_below : (x : Touch) (owner : ℕ → ℕ) (last d k y : ℕ) → ((y : ℕ) → owner y < k) → d < k → given x owner (suc last) d y < k
given_below (Reach act) owner last d k y below lt = below y
given_below (New n) owner last d k y below lt = by_same _ y (suc last)
    (λ e. let is : put owner (suc last) d y ≡ d = ap (put owner (suc last) d) e ∙ put_at owner (suc last) d in omega (arith, is, lt))
    (λ ne. let is = put_other owner (suc last) y d ne in omega (arith, is, below y))
given_below (Free g) owner last d k y below lt = below y

-- an action gives what is shared the owner 1, and the source the owner 0
abbrev pub given_by : Ask → (ℕ → ℕ) → ℕ → ℕ → ℕ
given_by (Of q) owner num = owner
given_by (Side x) owner num = given x owner num 1

pub by_old : (k : Ask) (owner : ℕ → ℕ) (last y : ℕ) → (y ≡ suc last → ⊥) → given_by k owner (suc last) y ≡ owner y
by_old (Of q) owner last y ne = refl
by_old (Side x) owner last y ne = given_old x owner last 1 y ne

pub by_view : (k : Ask) (c : ℕ) (owner : ℕ → ℕ) (m : Segs) (last : ℕ) → m (suc last) ≡ [] → view c (given_by k owner (suc last)) m ≡ view c owner m
by_view (Of q) c owner m last none = refl
by_view (Side x) c owner m last none = given_view x c 1 owner m last none

pub touch_grows : (x : Touch) (n : ℕ) → n ≤ last_of_touch x n
touch_grows (Reach act) n = omega arith
touch_grows (New c) n = omega arith
touch_grows (Free g) n = omega arith

pub last_grows : (q : Request) (n : ℕ) → n ≤ last_after q n
last_grows (On x) n = touch_grows x n
last_grows (Print bytes) n = omega arith
last_grows (Begin at arg) n = omega arith
last_grows Stop n = omega arith
last_grows Tick n = omega arith

pub by_above : (k : Ask) (owner : ℕ → ℕ) (last y : ℕ) → ((y : ℕ) → last < y → owner y ≡ 0) → last_after (request_of k) last < y → given_by k owner (suc last) y ≡ 0
by_above (Of q) owner last y above lt = above y (omega (arith, last_grows q last))
by_above (Side x) owner last y above lt = given_above x owner last 1 y above lt

pub by_below : (k : Ask) (owner : ℕ → ℕ) (last n y : ℕ) → ((y : ℕ) → owner y < suc (suc n)) → given_by k owner (suc last) y < suc (suc n)
by_below (Of q) owner last n y below = below y
by_below (Side x) owner last n y below = given_below x owner last 1 (suc (suc n)) y below (omega arith)

-- ---- touches

some_eq : {X : Type 0} {x y : X} → Some x ≡ Some y → x ≡ y
some_eq h = cc

pub some_fst : {X Y : Type 0} {x x' : X} {y y' : Y} → ◌≡◌ {A = Option (X × Y)} (Some (x, y)) (Some (x', y')) → x ≡ x'
some_fst h = ap (λ u. u.0) (some_eq h)

pub some_snd : {X Y : Type 0} {x x' : X} {y y' : Y} → ◌≡◌ {A = Option (X × Y)} (Some (x, y)) (Some (x', y')) → y ≡ y'
some_snd h = ap (λ u. u.1) (some_eq h)

-- what a touch of the machine's memory was
pub record Touched (x : Touch) (num : ℕ) (w : World) (a : Reply) (w' : World) : Type 0 where
  pub ys : List Cell
  pub op_is : op x num (w.segs (seg_of x num)) ≡ Some (a, ys)
  pub world : w' ≡ record { segs = put w.segs (seg_of x num) ys; out = w.out }

pub touched_is : (x : Touch) (num : ℕ) (w : World) (a : Reply) (w' : World) → serve (On x) num w ≡ Some (a, w') → Touched x num w a w'
touched_is x num w a w' h = go (op x num (w.segs (seg_of x num))) refl h
  where
    go : (o : Option (Reply × List Cell)) → op x num (w.segs (seg_of x num)) ≡ o → with_out (put_back o (seg_of x num) w.segs) w.out ≡ Some (a, w') → Touched x num w a w'
    go None e q = cc
    go (Some (b, ys)) e q =
        let same : b ≡ a = some_fst q in
        let world : record { segs = put w.segs (seg_of x num) ys; out = w.out } ≡ w' = some_snd q in
        record { ys = ys; op_is = e ∙ ap (λ u. Some (u, ys)) same; world = sym world }

-- the owner of what is touched sees the same
pub owned_op : (c : ℕ) (owner : ℕ → ℕ) (x : Touch) (num : ℕ) (m : Segs) → owner (seg_of x num) ≡ c → op x num (view c owner m (seg_of x num)) ≡ op x num (m (seg_of x num))
owned_op c owner x num m e = ap (op x num) (view_mine c owner m (seg_of x num) e)

owned_touch : (c : ℕ) (owner : ℕ → ℕ) (x : Touch) (num : ℕ) (w : World) (a : Reply) (w' : World) → owner (seg_of x num) ≡ c → serve (On x) num w ≡ Some (a, w') → touched x num (view c owner w.segs) ≡ Some (a, view c owner w'.segs)
owned_touch c owner x num w a w' mine h =
    let t = touched_is x num w a w' h in
    ap (λ o. put_back o (seg_of x num) (view c owner w.segs)) (owned_op c owner x num w.segs mine ∙ t.op_is)
    ∙ ap (λ m. Some (a, m)) (sym (view_put c owner w.segs (seg_of x num) t.ys mine))
    ∙ ap (λ u. Some (a, view c owner u.segs)) (sym t.world)

other_touch : (c d : ℕ) (owner : ℕ → ℕ) (x : Touch) (num : ℕ) (w : World) (a : Reply) (w' : World) → owner (seg_of x num) ≡ d → (d ≡ c → ⊥) → serve (On x) num w ≡ Some (a, w') → view c owner w'.segs ≡ view c owner w.segs
other_touch c d owner x num w a w' mine ne h =
    let t = touched_is x num w a w' h in
    ap (λ u. view c owner u.segs) t.world ∙ view_skip c owner w.segs (seg_of x num) t.ys (λ e. ne (sym mine ∙ e))

same_out : (x : Touch) (num : ℕ) (w : World) (a : Reply) (w' : World) → serve (On x) num w ≡ Some (a, w') → w'.out ≡ w.out
same_out x num w a w' h = let t = touched_is x num w a w' h in ap (λ u. u.out) t.world

-- the touch of an action is of a segment of its part
abbrev pub Mine : (ℕ → ℕ) → Ask → ℕ → Type 0
Mine owner (Of (On x)) num = owner (seg_of x num) ≡ 0
Mine owner (Of (Print bytes)) num = Unit {0}
Mine owner (Of (Begin at arg)) num = Unit {0}
Mine owner (Of Stop) num = Unit {0}
Mine owner (Of Tick) num = Unit {0}
Mine owner (Side x) num = owner (seg_of x num) ≡ 1

abbrev source_of : (ℕ → ℕ) → World → World
source_of owner w = record { segs = view 0 owner w.segs; out = w.out }

-- a request that the machine's world answers is answered in its part
pub allows_parted : (k : Ask) (num : ℕ) (owner : ℕ → ℕ) (w : World) (a : Reply) (w' : World) → Mine owner k num → Allows (request_of k) a num w w' → AllowsIn k a num (parted owner w) (parted owner w')
allows_parted (Of (On x)) num owner w a w' mine h =
    (ap (λ o. with_out o w.out) (owned_touch 0 owner x num w a w' mine h) ∙ ap (λ u. Some (a, record { segs = view 0 owner w'.segs; out = u })) (sym (same_out x num w a w' h)), sym (other_touch 1 0 owner x num w a w' mine (λ e. cc) h))
allows_parted (Of (Print bytes)) num owner w a w' mine h =
    let same : Got 0 ≡ a = some_fst h in
    let world : record { segs = w.segs; out = w.out ++ bytes } ≡ w' = some_snd h in
    (ap (λ u. Some (u, record { segs = view 0 owner w.segs; out = w.out ++ bytes })) same ∙ ap (λ u. Some (a, source_of owner u)) world, ap (λ u. view 1 owner u.segs) world)
allows_parted (Of (Begin at arg)) num owner w Dead w' mine h = absurd h
allows_parted (Of (Begin at arg)) num owner w (Got v) w' mine h = ((ap (source_of owner) h.0, h.1), ap (λ u. view 1 owner u.segs) h.0)
allows_parted (Of Stop) num owner w a w' mine h =
    let same : Dead ≡ a = some_fst h in
    let world : w ≡ w' = some_snd h in
    (ap (λ u. Some (u, source_of owner w)) same ∙ ap (λ u. Some (a, source_of owner u)) world, ap (λ u. view 1 owner u.segs) world)
allows_parted (Of Tick) num owner w a w' mine h = (ap (source_of owner) h, ap (λ u. view 1 owner u.segs) h)
allows_parted (Side x) num owner w a w' mine h =
    (owned_touch 1 owner x num w a w' mine h, ap (λ m. record { segs = m; out = w.out }) (sym (other_touch 0 1 owner x num w a w' mine (λ e. cc) h)) ∙ ap (λ u. record { segs = view 0 owner w'.segs; out = u }) (sym (same_out x num w a w' h)))

-- and no thread sees a change of its own segments
pub allows_others : (k : Ask) (num c : ℕ) (owner : ℕ → ℕ) (w : World) (a : Reply) (w' : World) → Mine owner k num → Allows (request_of k) a num w w' → view (suc (suc c)) owner w'.segs ≡ view (suc (suc c)) owner w.segs
allows_others (Of (On x)) num c owner w a w' mine h = other_touch (suc (suc c)) 0 owner x num w a w' mine (λ e. omega (arith, e)) h
allows_others (Of (Print bytes)) num c owner w a w' mine h = ap (λ u. view (suc (suc c)) owner u.segs) (sym (some_snd h))
allows_others (Of (Begin at arg)) num c owner w Dead w' mine h = absurd h
allows_others (Of (Begin at arg)) num c owner w (Got v) w' mine h = ap (λ u. view (suc (suc c)) owner u.segs) (sym h.0)
allows_others (Of Stop) num c owner w a w' mine h = ap (λ u. view (suc (suc c)) owner u.segs) (sym (some_snd h))
allows_others (Of Tick) num c owner w a w' mine h = ap (λ u. view (suc (suc c)) owner u.segs) (sym h)
allows_others (Side x) num c owner w a w' mine h = other_touch (suc (suc c)) 1 owner x num w a w' mine (λ e. omega (arith, e)) h

-- ---- no segment past the last number is live

-- a touch that answers has changed a live segment, or made one
old_high : (x : Touch) (last num : ℕ) (m : Segs) (g0 v : ℕ) (ys : List Cell) → ((g : ℕ) → last < g → m g ≡ []) → op x num [] ≡ Some (Dead, []) → op x num (m g0) ≡ Some (Got v, ys) → (g : ℕ) → last < g → put m g0 ys g ≡ []
old_high x last num m g0 v ys high dead h g lt = by_same _ g g0
    (λ e. let none : m g0 ≡ [] = ap m (sym e) ∙ high g lt in let bad : Dead ≡ Got v = some_fst (sym dead ∙ ap (op x num) (sym none) ∙ h) in cc)
    (λ ne. put_other m g0 g ys ne ∙ high g lt)

pub touch_high : (x : Touch) (last : ℕ) (m : Segs) (v : ℕ) (ys : List Cell) → ((g : ℕ) → last < g → m g ≡ []) → op x (suc last) (m (seg_of x (suc last))) ≡ Some (Got v, ys) → (g : ℕ) → last_of_touch x last < g → put m (seg_of x (suc last)) ys g ≡ []
touch_high (Reach act) last m v ys high e g lt = old_high (Reach act) last (suc last) m act.place.seg v ys high refl e g lt
touch_high (New n) last m v ys high e g lt = put_other m (suc last) g ys (λ q. omega (arith, lt, q)) ∙ high g (omega (arith, lt))
touch_high (Free h) last m v ys high e g lt = old_high (Free h) last (suc last) m h v ys high refl e g lt

touch_world_high : (x : Touch) (last : ℕ) (w : World) (v : ℕ) (w' : World) → ((g : ℕ) → last < g → w.segs g ≡ []) → serve (On x) (suc last) w ≡ Some (Got v, w') → (g : ℕ) → last_of_touch x last < g → w'.segs g ≡ []
touch_world_high x last w v w' high h g lt =
    let t = touched_is x (suc last) w (Got v) w' h in
    ap (λ u. u.segs g) t.world ∙ touch_high x last w.segs v t.ys high t.op_is g lt

pub allows_high : (k : Ask) (last : ℕ) (w : World) (v : ℕ) (w' : World) → ((g : ℕ) → last < g → w.segs g ≡ []) → Allows (request_of k) (Got v) (suc last) w w' → (g : ℕ) → last_after (request_of k) last < g → w'.segs g ≡ []
allows_high (Of (On x)) last w v w' high h g lt = touch_world_high x last w v w' high h g lt
allows_high (Of (Print bytes)) last w v w' high h g lt = ap (λ u. u.segs g) (sym (some_snd h)) ∙ high g lt
allows_high (Of (Begin at arg)) last w v w' high h g lt = ap (λ u. u.segs g) (sym h.0) ∙ high g lt
allows_high (Of Stop) last w v w' high h g lt = let bad : Dead ≡ Got v = some_fst h in cc
allows_high (Of Tick) last w v w' high h g lt = ap (λ u. u.segs g) (sym h) ∙ high g lt
allows_high (Side x) last w v w' high h g lt = touch_world_high x last w v w' high h g lt
