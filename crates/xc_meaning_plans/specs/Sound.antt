-- When a plan is sound, as far as memory goes: the cells of the iterations that it lets run side by side do not conflict (Bernstein).
-- What a plan does with scalars is said where their classes are.
use Rattle.std.specs.Prelude.{◌≡◌, ◌≢◌, ◌⊎◌, ℕ, suc, ◌+◌, ◌<◌, ◌==◌, Bool, true, false, ◌&&◌, nat_le, nat_lt, cond, IsTrue, List, [], ◌∷◌, ◌++◌, length, Option, Some, None, slice_get, IsSomeAnd, filter, map}
use Rattle.std.specs.Option.{option_and_then}
use Rattle.xc_tree.specs.declared.pragmas.Root.{Root}
use Rattle.xc_tree.specs.declared.pragmas.Root.TheVariants as root
use Rattle.xc_lin.specs.declared.certificate.Letter.{Letter}
use Rattle.xc_lin.specs.declared.certificate.Letter.TheVariants as letter
use Rattle.xc_lin.specs.declared.certificate.PartCert.{PartCert}
use Rattle.xc_lin.specs.declared.certificate.LoopCert.{LoopCert}
use Rattle.xc_lin.specs.declared.plan.Operand.{Operand}
use Rattle.xc_lin.specs.declared.plan.Operand.TheVariants as operand
use Rattle.xc_lin.specs.declared.plan.Guard.{Guard}
use Rattle.xc_lin.specs.declared.plan.Target.{Target}
use Rattle.xc_lin.specs.declared.plan.Target.TheVariants as target
use Rattle.xc_lin.specs.declared.plan.Recurrence.{Recurrence}
use Rattle.xc_lin.specs.declared.plan.LoopPlan.{LoopPlan}
use Rattle.xc_meaning_world.specs.World.{Segs}
use Rattle.xc_meaning_terms.specs.Terms.{Term, Range, Mark, Unmarked, Normal, Concurrent, Command, Empty, Declare, Object, Eval, Block, If, IfElse, Loop, Switch, Return, Break, Continue, Future, Commands, End, Then, Items, NoItem, At, Other, Do}
use Rattle.xc_meaning_terms.specs.Pointers.{segment_of, pointer_to}
use Rattle.xc_meaning_terms.specs.Ranges.{is_near}
use Rattle.xc_meaning_threads.specs.Meaning.{Env, env_of, limit_of}
use Rattle.xc_meaning_source.specs.Cells.{Visit, first_of, peek, word_at, cells_of_turn, Conflict, IsAmong}
use Rattle.xc_meaning_source.specs.Premises.{ClaimsHold}

-- a loop in normal form as its Enter tells it: its header's range and test, and its body
pub record Entry : Type 0 where
  pub range : Range
  pub test : Option Term
  pub body : Command

-- the first clause and the test of an inner loop
pub record Bounds : Type 0 where
  pub init : Commands
  pub test : Option Term

-- ---- the guard

abbrev pub or_else : {X : Type 0} → Option X → Option X → Option X
or_else None b = b
or_else (Some x) b = Some x

abbrev pub bounds_if : ℕ → Mark → Bounds → Option Bounds
bounds_if id (Normal r) b = cond (r.id == id) (Some b) None
bounds_if id Unmarked b = None
bounds_if id (Concurrent r) b = None

abbrev mutual
  -- the loop in normal form with this number that stands in a statement
  pub inner : ℕ → Command → Option Bounds
  inner id (Block all) = inner_among id all
  inner id (If test then) = inner id then
  inner id (IfElse test then other) = or_else (inner id then) (inner id other)
  inner id (Loop h init body) = or_else (bounds_if id h.mark (record { init = init; test = h.test })) (or_else (inner_among id init) (inner id body))
  inner id (Switch value items) = inner_behind id items
  inner id (Future place captures body) = inner id body
  inner id Empty = None
  inner id (Declare x init) = None
  inner id (Object x cells ks is) = None
  inner id (Eval e) = None
  inner id (Return e) = None
  inner id Break = None
  inner id Continue = None

  pub inner_among : ℕ → Commands → Option Bounds
  inner_among id End = None
  inner_among id (Then c cs) = or_else (inner id c) (inner_among id cs)

  pub inner_behind : ℕ → Items → Option Bounds
  inner_behind id NoItem = None
  inner_behind id (At n rest) = inner_behind id rest
  inner_behind id (Other rest) = inner_behind id rest
  inner_behind id (Do c rest) = or_else (inner id c) (inner_behind id rest)

-- the word of an operand at an Enter; none where a bound traps. The lower bound of the loop itself is the value that its index has
abbrev pub word_of : Entry → Env → Segs → Operand → Option ℕ
word_of l env m (operand.Local x) = Some (env x)
word_of l env m (operand.Global g) = word_at m (pointer_to (suc g))
word_of l env m (operand.LocalAddress x) = Some (env x)
word_of l env m (operand.GlobalAddress g) = Some (pointer_to (suc g))
word_of l env m (operand.Lower id) = cond (id == l.range.id) (Some (env l.range.index)) (option_and_then (λ b. peek env m (first_of b.init)) (inner id l.body))
word_of l env m (operand.Upper id) = cond (id == l.range.id) (peek env m (limit_of l.test)) (option_and_then (λ b. peek env m (limit_of b.test)) (inner id l.body))

-- it holds of each element
abbrev pub Each : {X : Type 0} → (X → Type 0) → List X → Type 0
Each P [] = Unit {0}
Each P (x ∷ xs) = P x × Each P xs

abbrev pub AreApart : Option ℕ → Option ℕ → Type 0
AreApart (Some p) (Some q) = segment_of p ≢ segment_of q
AreApart _ _ = ⊥

-- each operand of a guard is from -2^31 to 2^31, and the words of each pair lead to different segments
pub record GuardHolds (l : Entry) (env : Env) (m : Segs) (g : Guard) : Type 0 where
  pub near : Each (λ o. IsSomeAnd (word_of l env m o) (λ w. IsTrue (is_near w))) g.ranges
  pub apart : Each (λ (x : Operand × Operand). AreApart (word_of l env m x.0) (word_of l env m x.1)) g.apart

-- ---- the objects that a loop names

-- the segment of a named object: segments of globals are counted from 1
abbrev pub segment_in : Env → Root → Option ℕ
segment_in env (root.Global g) = Some (suc g)
segment_in env (root.Local x) = Some (segment_of (env x))
segment_in env _ = None

abbrev pub Differ : Option ℕ → Option ℕ → Type 0
Differ (Some a) (Some b) = a ≢ b
Differ _ _ = Unit {0}

-- the automatic objects among the roots of the loop's references lie in segments behind those of the globals, and different named
-- objects in different ones, as at every Enter of a source run
pub record ObjectsApart (globals : ℕ) (env : Env) (roots : List Root) : Type 0 where
  pub behind : (x : ℕ) → IsAmong (root.Local x) roots → globals < segment_of (env x)
  pub differ : (a b : Root) → IsAmong a roots → IsAmong b roots → a ≢ b → Differ (segment_in env a) (segment_in env b)

-- ---- parts

-- the letters of parts whose iterations run side by side
abbrev pub is_parallel : Letter → Bool
is_parallel letter.Parallel = true
is_parallel letter.Trusted = true
is_parallel letter.Reducing = true
is_parallel letter.Recurring = true
is_parallel _ = false

-- a visit of a statement of the part
abbrev pub IsOf : PartCert → Visit → Type 0
IsOf p v = IsTrue (nat_le p.first v.statement && nat_lt v.statement p.end)

-- the write and the read of an array recurrence that the part is run by
abbrev pub IsPair : Target → ℕ → ℕ → Type 0
IsPair (target.Array write read) a b = ((a ≡ write) × (b ≡ read)) ⊎ ((a ≡ read) × (b ≡ write))
IsPair (target.Scalar x) a b = ⊥

abbrev pub IsScanned : List Recurrence → PartCert → Visit → Visit → Type 0
IsScanned scans p v u = (s : Recurrence) × IsAmong s scans × (s.first ≡ p.first) × (s.end ≡ p.end) × IsPair s.target v.site u.site

-- no two different iterations of a part conflict, but for the write and the read of its array recurrence
abbrev pub PartIsSound : List Recurrence → (ℕ → List Visit) → PartCert → Type 0
PartIsSound scans cells p = (i k : ℕ) (v u : Visit) → i ≢ k → IsAmong v (cells i) → IsAmong u (cells k) → IsOf p v → IsOf p u →
    Conflict v.touch u.touch → IsScanned scans p v u

-- what the later part does in an earlier iteration does not conflict with what the earlier part does in a later one
abbrev pub CutIsSound : (ℕ → List Visit) → PartCert → PartCert → Type 0
CutIsSound cells earlier later = (i k : ℕ) (v u : Visit) → i < k → IsAmong v (cells i) → IsAmong u (cells k) → IsOf later v → IsOf earlier u →
    Conflict v.touch u.touch → ⊥

pub record PartsAreSound (plan : LoopPlan) (parts : List PartCert) (cells : ℕ → List Visit) : Type 0 where
  pub each : (a : ℕ) (p : PartCert) → slice_get parts a ≡ Some p → is_parallel p.letter ≡ true → PartIsSound plan.scans cells p
  pub cuts : (a b : ℕ) (p q : PartCert) → a < b → slice_get parts a ≡ Some p → slice_get parts b ≡ Some q → CutIsSound cells p q

-- ---- soundness

abbrev pub parts_of : Option LoopCert → List PartCert
parts_of None = []
parts_of (Some cert) = cert.parts

-- The plan of a loop is sound for cells: at every Enter, with any values and memory, at which its guard holds, what is asserted of
-- the loop is true and different named objects lie in different segments.
abbrev pub CellsAreSound : ℕ → LoopPlan → Entry → Type 0
CellsAreSound globals plan l = (values : List ℕ) (m : Segs) → GuardHolds l (env_of values) m plan.guard →
    ClaimsHold l.range.claims (cells_of_turn l.range l.test l.body values m) → ObjectsApart globals (env_of values) l.range.claims.roots →
    PartsAreSound plan (parts_of plan.cert) (cells_of_turn l.range l.test l.body values m)
