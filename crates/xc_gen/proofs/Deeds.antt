-- What a part of a thread does, where the world answers its requests: its actions, and how the world is then.
use Rattle.std.proofs.Common.{◌≡◌, ℕ, suc, ◌+◌, ◌^◌, ◌<◌, List, [], ◌∷◌, ◌++◌, refl, sym, ap, ◌∙◌, subst, arith, append_assoc, cond}
use Rattle.xc_meaning_world.proofs.Puts.{eqb_other}
use Rattle.xc_meaning_world.specs.World.{World, Request, On, Print, Begin, Stop, Tick, Reply, Dead, Action, act_of}
use Rattle.xc_meaning_world.specs.Runs.{part_of, Allows, IsVacant, Applies, HasTrapped, ticks_in, ticks}
use Rattle.xc_meaning_world.proofs.Numbers.{any_in}
use Rattle.xc_meaning.specs.Meaning.{Point, point, Value, Gives, Traps, then_value}
use Rattle.xc_meaning.specs.Source.{reply_and, replies_of}

-- the actions of thread 0 alone
abbrev pub mine : List Action → List (ℕ × Action)
mine [] = []
mine (a ∷ l) = (0, a) ∷ mine l

pub part_mine : (l : List Action) → part_of 0 (mine l) ≡ l
part_mine [] = refl
part_mine (a ∷ l) = ap (λ l. a ∷ l) (part_mine l)

pub part_others : (s : ℕ) (l : List Action) → part_of (suc s) (mine l) ≡ []
part_others s [] = refl
part_others s (a ∷ l) = ap (λ b. cond b (a ∷ part_of (suc s) (mine l)) (part_of (suc s) (mine l))) (eqb_other 0 (suc s) (λ e. absurd (omega (arith, e)))) ∙ part_others s l

mine_on : (l bs : List Action) → mine (l ++ bs) ≡ mine l ++ mine bs
mine_on [] bs = refl
mine_on (a ∷ l) bs = ap (λ l. (0, a) ∷ l) (mine_on l bs)

pub trapped_mine : (l front : List Action) (q : Request) → l ≡ front ++ act_of q Dead ∷ [] → HasTrapped (mine l)
trapped_mine l front q e = (mine front, 0, q, ap mine e ∙ mine_on front (act_of q Dead ∷ []))

-- ---- ticks

abbrev pub ticks_of : List Action → ℕ
ticks_of l = ticks (mine l)

ticks_more : (q : Request) (m n : ℕ) → ticks_in q (m + n) ≡ ticks_in q m + n
ticks_more (On x) m n = refl
ticks_more (Print bytes) m n = refl
ticks_more (Begin at arg) m n = refl
ticks_more Stop m n = refl
ticks_more Tick m n = omega arith

pub ticks_on : (l bs : List Action) → ticks_of (l ++ bs) ≡ ticks_of l + ticks_of bs
ticks_on [] bs = omega arith
ticks_on (a ∷ l) bs = ap (ticks_in a.request) (ticks_on l bs) ∙ ticks_more a.request (ticks_of l) (ticks_of bs)

-- ---- replies

reply_on : (q : Request) (a : Reply) (rs ss : List Reply) → reply_and q a (rs ++ ss) ≡ reply_and q a rs ++ ss
reply_on (On x) a rs ss = refl
reply_on (Print bytes) a rs ss = refl
reply_on (Begin at arg) a rs ss = refl
reply_on Stop a rs ss = refl
reply_on Tick a rs ss = refl

pub replies_on : (l bs : List Action) → replies_of (l ++ bs) ≡ replies_of l ++ replies_of bs
replies_on [] bs = refl
replies_on (a ∷ l) bs = ap (reply_and a.request a.reply) (replies_on l bs) ∙ reply_on a.request a.reply (replies_of l) (replies_of bs)

pub split : (l bs : List Action) (rs : List Reply) → replies_of (l ++ bs) ++ rs ≡ replies_of l ++ (replies_of bs ++ rs)
split l bs rs = ap (λ l. l ++ rs) (replies_on l bs) ∙ append_assoc (replies_of l) (replies_of bs) rs

pub append_none : (t : List Action) → t ++ [] ≡ t
append_none [] = refl
append_none (a ∷ t) = ap (λ l. a ∷ l) (append_none t)

-- ---- the world answers

module _ (n : ℕ) where
  -- the world allows these actions, one after another; no segment above the globals is live
  abbrev pub Chain : World → List Action → World → Type 0
  Chain w [] w' = w ≡ w'
  Chain w (a ∷ l) w' = (w.segs (suc n) ≡ []) × (m : World) × Allows a.request a.reply (suc n) w m × Chain m l w'

  pub chain_on : (l bs : List Action) (u v w : World) → Chain u l v → Chain v bs w → Chain u (l ++ bs) w
  chain_on [] bs u v w f g = subst (λ x. Chain x bs w) (sym f) g
  chain_on (a ∷ l) bs u v w f g = (f.0, f.1, f.2, chain_on l bs f.1 v w f.3 g)

  pub chain_applies : suc n < 2 ^ 32 → (l : List Action) (u w : World) → Chain u l w → Applies n u (mine l) w
  chain_applies few [] u w f = f
  chain_applies few (a ∷ l) u w f = (suc n, any_in (IsVacant n u.segs) a.request (suc n) (omega arith, few, f.0), f.1, f.2, chain_applies few l f.1 w f.3)

  -- it comes to the value v
  pub record Given (m : Point → Value) (w : World) (v : ℕ) (w' : World) : Type 0 where
    pub acts : List Action
    pub chain : Chain w acts w'
    pub says : (rs : List Reply) (t : List Action) → m (point (replies_of acts ++ rs) t) ≡ Gives v (point rs (t ++ acts))

  -- its last action is a trap
  pub record Died (m : Point → Value) (w : World) : Type 0 where
    pub acts : List Action
    pub world : World
    pub chain : Chain w acts world
    pub front : List Action
    pub request : Request
    pub last : acts ≡ front ++ act_of request Dead ∷ []
    pub says : (rs : List Reply) (t : List Action) → m (point (replies_of acts ++ rs) t) ≡ Traps (t ++ acts)

  pub given_none : (v : ℕ) (w : World) → Given (Gives v) w v w
  given_none v w = record { acts = []; chain = refl; says = λ rs t. ap (λ l. Gives v (point rs l)) (sym (append_none t)) }

  pub given_on : (m : Point → Value) (go : ℕ → Point → Value) (w w1 w2 : World) (v u : ℕ) → Given m w v w1 → Given (go v) w1 u w2 → Given (λ p. then_value (m p) go) w u w2
  given_on m go w w1 w2 v u f g = record {
    acts = f.acts ++ g.acts;
    chain = chain_on f.acts g.acts w w1 w2 f.chain g.chain;
    says = λ rs t.
        ap (λ l. then_value (m (point l t)) go) (split f.acts g.acts rs) ∙ ap (λ x. then_value x go) (f.says (replies_of g.acts ++ rs) t)
        ∙ g.says rs (t ++ f.acts) ∙ ap (λ l. Gives u (point rs l)) (append_assoc t f.acts g.acts);
  }

  unfoldable pub died_first : (m : Point → Value) (go : ℕ → Point → Value) (w : World) → Died m w → Died (λ p. then_value (m p) go) w
  died_first m go w f = record { acts = f.acts; world = f.world; chain = f.chain; front = f.front; request = f.request; last = f.last; says = λ rs t. ap (λ x. then_value x go) (f.says rs t) }

  unfoldable pub died_on : (m : Point → Value) (go : ℕ → Point → Value) (w w1 : World) (v : ℕ) → Given m w v w1 → Died (go v) w1 → Died (λ p. then_value (m p) go) w
  died_on m go w w1 v f g = record {
    acts = f.acts ++ g.acts;
    world = g.world;
    chain = chain_on f.acts g.acts w w1 g.world f.chain g.chain;
    front = f.acts ++ g.front;
    request = g.request;
    last = ap (λ l. f.acts ++ l) g.last ∙ sym (append_assoc f.acts g.front (act_of g.request Dead ∷ []));
    says = λ rs t.
        ap (λ l. then_value (m (point l t)) go) (split f.acts g.acts rs) ∙ ap (λ x. then_value x go) (f.says (replies_of g.acts ++ rs) t)
        ∙ g.says rs (t ++ f.acts) ∙ ap Traps (append_assoc t f.acts g.acts);
  }
