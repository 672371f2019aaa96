-- The cells of a loop in normal form, by the values at its Enter and the memory there: each branch is visited, each inner loop in full.
use Rattle.std.specs.Prelude.{◌≡◌, ◌⊎◌, ℕ, suc, ◌+◌, ◌==◌, Bool, true, false, not, cond, List, [], ◌∷◌, ◌++◌, map, Option, Some, None, slice_get}
use Rattle.std.specs.Option.{option_map, option_and_then}
use Rattle.xc_word.specs.declared.memory.Kind.{Kind}
use Rattle.xc_word.specs.declared.memory.Kind.TheVariants as kind
use Rattle.xc_word.specs.declared.memory.Place.{Place}
use Rattle.xc_word.specs.Numbers.{truth}
use Rattle.xc_tree.specs.Lists.{joined}
use Rattle.xc_meaning_world.specs.World.{Segs, put}
use Rattle.xc_tree_words.specs.Words.{unary_word}
use Rattle.xc_meaning_terms.specs.Terms.{Term, Number, Local, Set, UpdateLocal, Global, Index, Member, Read, Write, FetchAdd, Purge, Update, Unary, Binary, And, Or, Cond, Comma, Call, Print, Terms, NoMore, More, Range, Mark, Normal, Command, Empty, Declare, Object, Eval, Block, If, IfElse, Loop, Switch, Return, Break, Continue, Future, Commands, End, Then, Items, NoItem, At, Other, Do}
use Rattle.xc_meaning_terms.specs.Pointers.{segment_of, offset_of, pointer_to, place_of, member_of, element, operate}
use Rattle.xc_meaning_terms.specs.Ranges.{index_values}
use Rattle.xc_meaning_threads.specs.Meaning.{Env, env_of, limit_of}

-- ---- values in a memory that stands still

-- the word in the cell that a pointer leads to
abbrev pub word_at : Segs → ℕ → Option ℕ
word_at m p = option_map (λ c. c.value) (slice_get (m (segment_of p)) (offset_of p))

abbrev pub truth_of : Option ℕ → Option ℕ
truth_of o = option_map (λ n. truth (not (n == 0))) o

abbrev pub where_zero : {X : Type 0} → Option ℕ → Option X → Option X → Option X
where_zero None a b = None
where_zero (Some n) a b = cond (n == 0) a b

-- the value of a term that writes nothing and calls nothing; none where it traps
abbrev pub peek : Env → Segs → Term → Option ℕ
peek env m (Number n) = Some n
peek env m (Local x) = Some (env x)
peek env m (Global g) = Some (pointer_to (suc g))
peek env m (Index bound unsigned size base index) =
    option_and_then (λ b. option_and_then (element bound unsigned size b) (peek env m index)) (peek env m base)
peek env m (Member base off) = option_and_then (λ b. member_of b off) (peek env m base)
peek env m (Read kind place) = option_and_then (word_at m) (peek env m place)
peek env m (Unary o of) = option_map (unary_word o) (peek env m of)
peek env m (Binary o a b) = option_and_then (λ x. option_and_then (operate o x) (peek env m b)) (peek env m a)
peek env m (And a b) = where_zero (peek env m a) (Some 0) (truth_of (peek env m b))
peek env m (Or a b) = where_zero (peek env m a) (truth_of (peek env m b)) (Some 1)
peek env m (Cond test a b) = where_zero (peek env m test) (peek env m b) (peek env m a)
peek env m (Comma a b) = option_and_then (λ x. peek env m b) (peek env m a)
peek env m (Set x value) = None
peek env m (UpdateLocal o post x value) = None
peek env m (Write kind place value) = None
peek env m (FetchAdd place value) = None
peek env m (Purge place) = None
peek env m (Update o post read write place value) = None
peek env m (Call f args) = None
peek env m (Print format args) = None

-- ---- the turns of a loop

-- the first value of an index
abbrev pub first_of : Commands → Term
first_of (Then (Eval (Set x e)) rest) = e
first_of (Then (Declare x (Some e)) rest) = e
first_of _ = Number 0

-- the values of the index from the first value on, before the limit; none where one of the two traps
abbrev pub values_up_to : Range → Option ℕ → Option ℕ → List ℕ
values_up_to r (Some lo) (Some hi) = index_values r lo hi
values_up_to r _ _ = []

-- the turns of a loop, each with its index
abbrev pub turns_from : Env → Segs → Range → Option Term → Option ℕ → List Env
turns_from env m r test lo = map (put env r.index) (values_up_to r lo (peek env m (limit_of test)))

abbrev pub inner_turns : Env → Segs → Mark → Option Term → Commands → List Env
inner_turns env m (Normal r) test init = turns_from env m r test (peek env m (first_of init))
inner_turns env m _ test init = []

-- ---- references: the accesses in a text, in the order in which they act where each branch is taken and each loop runs once

abbrev mutual
  -- how many a term has
  pub references : Term → ℕ
  references (Number n) = 0
  references (Local x) = 0
  references (Set x value) = references value
  references (UpdateLocal o post x value) = references value
  references (Global g) = 0
  references (Index bound unsigned size base index) = references base + references index
  references (Member base off) = references base
  references (Read kind place) = references place + 1
  references (Write kind place value) = references place + references value + 1
  references (FetchAdd place value) = references place + references value + 1
  references (Purge place) = references place + 1
  references (Update o post read write place value) = references place + 1 + references value + 1
  references (Unary o of) = references of
  references (Binary o a b) = references a + references b
  references (And a b) = references a + references b
  references (Or a b) = references a + references b
  references (Cond test a b) = references test + references a + references b
  references (Comma a b) = references a + references b
  references (Call f args) = references_among args
  references (Print format args) = references_among args

  pub references_among : Terms → ℕ
  references_among NoMore = 0
  references_among (More e es) = references e + references_among es

abbrev pub maybe_references : Option Term → ℕ
maybe_references None = 0
maybe_references (Some e) = references e

abbrev pub listed_references : {K : Type 0} → List (K × Term) → ℕ
listed_references [] = 0
listed_references (i ∷ is) = references i.1 + listed_references is

abbrev mutual
  -- how many a statement has; the step of a loop comes behind its body
  pub references_in : Command → ℕ
  references_in Empty = 0
  references_in (Declare x init) = maybe_references init
  references_in (Object x cells ks is) = listed_references is
  references_in (Eval e) = references e
  references_in (Block all) = references_of all
  references_in (If test then) = references test + references_in then
  references_in (IfElse test then other) = references test + references_in then + references_in other
  references_in (Loop h init body) = references_of init + maybe_references h.test + references_in body + maybe_references h.step
  references_in (Switch value items) = references value + references_behind items
  references_in (Return e) = maybe_references e
  references_in Break = 0
  references_in Continue = 0
  references_in (Future place captures body) = references place + listed_references captures + references_in body

  pub references_of : Commands → ℕ
  references_of End = 0
  references_of (Then c cs) = references_in c + references_of cs

  pub references_behind : Items → ℕ
  references_behind NoItem = 0
  references_behind (At n rest) = references_behind rest
  references_behind (Other rest) = references_behind rest
  references_behind (Do c rest) = references_in c + references_behind rest

-- ---- cells

-- a touch of a cell: where it is, and whether it may change the cell
pub record Use : Type 0 where
  pub place : Place
  pub writes : Bool

-- a visit of a reference: the use, the number of the reference in the order of the loop's text, and its top-level statement
pub record Visit : Type 0 where
  pub touch : Use
  pub site : ℕ
  pub statement : ℕ

-- a touch that waits and leaves another state is a write
abbrev pub is_writing : Kind → Bool
is_writing kind.ReadXx = false
is_writing kind.ReadFf = false
is_writing _ = true

-- a place whose address traps has no cell
abbrev pub visit_at : ℕ → Option ℕ → Bool → List Visit
visit_at n None w = []
visit_at n (Some p) w = record { touch = record { place = place_of p; writes = w }; site = n; statement = 0 } ∷ []

abbrev mutual
  -- the cells of the accesses of a term, in the order of evaluation; n is the number of its first reference
  pub term_visits : Env → Segs → ℕ → Term → List Visit
  term_visits env m n (Number k) = []
  term_visits env m n (Local x) = []
  term_visits env m n (Set x value) = term_visits env m n value
  term_visits env m n (UpdateLocal o post x value) = term_visits env m n value
  term_visits env m n (Global g) = []
  term_visits env m n (Index bound unsigned size base index) =
      term_visits env m n base ++ term_visits env m (n + references base) index
  term_visits env m n (Member base off) = term_visits env m n base
  term_visits env m n (Read kind place) =
      term_visits env m n place ++ visit_at (n + references place) (peek env m place) (is_writing kind)
  term_visits env m n (Write kind place value) = term_visits env m n place ++ (term_visits env m (n + references place) value
      ++ visit_at (n + references place + references value) (peek env m place) (is_writing kind))
  term_visits env m n (FetchAdd place value) = term_visits env m n place ++ (term_visits env m (n + references place) value
      ++ visit_at (n + references place + references value) (peek env m place) true)
  term_visits env m n (Purge place) = term_visits env m n place ++ visit_at (n + references place) (peek env m place) true
  term_visits env m n (Update o post read write place value) = term_visits env m n place
      ++ (visit_at (n + references place) (peek env m place) (is_writing read)
      ++ (term_visits env m (n + references place + 1) value
      ++ visit_at (n + references place + 1 + references value) (peek env m place) (is_writing write)))
  term_visits env m n (Unary o of) = term_visits env m n of
  term_visits env m n (Binary o a b) = term_visits env m n a ++ term_visits env m (n + references a) b
  term_visits env m n (And a b) = term_visits env m n a ++ term_visits env m (n + references a) b
  term_visits env m n (Or a b) = term_visits env m n a ++ term_visits env m (n + references a) b
  term_visits env m n (Cond test a b) = term_visits env m n test
      ++ (term_visits env m (n + references test) a ++ term_visits env m (n + references test + references a) b)
  term_visits env m n (Comma a b) = term_visits env m n a ++ term_visits env m (n + references a) b
  term_visits env m n (Call f args) = terms_visits env m n args
  term_visits env m n (Print format args) = terms_visits env m n args

  pub terms_visits : Env → Segs → ℕ → Terms → List Visit
  terms_visits env m n NoMore = []
  terms_visits env m n (More e es) = term_visits env m n e ++ terms_visits env m (n + references e) es

abbrev pub maybe_visits : Env → Segs → ℕ → Option Term → List Visit
maybe_visits env m n None = []
maybe_visits env m n (Some e) = term_visits env m n e

abbrev pub listed_visits : {K : Type 0} → Env → Segs → ℕ → List (K × Term) → List Visit
listed_visits env m n [] = []
listed_visits env m n (i ∷ is) = term_visits env m n i.1 ++ listed_visits env m (n + references i.1) is

abbrev mutual
  -- the cells of a statement that is visited with these values, both branches of each choice
  pub command_visits : Segs → ℕ → Command → Env → List Visit
  command_visits m n Empty env = []
  command_visits m n (Declare x init) env = maybe_visits env m n init
  command_visits m n (Object x cells ks is) env = listed_visits env m n is
  command_visits m n (Eval e) env = term_visits env m n e
  command_visits m n (Block all) env = commands_visits m n all env
  command_visits m n (If test then) env = term_visits env m n test ++ command_visits m (n + references test) then env
  command_visits m n (IfElse test then other) env = term_visits env m n test
      ++ (command_visits m (n + references test) then env ++ command_visits m (n + references test + references_in then) other env)
  command_visits m n (Loop h init body) env = commands_visits m n init env
      ++ joined (map (λ e. maybe_visits e m (n + references_of init) h.test
      ++ command_visits m (n + references_of init + maybe_references h.test) body e) (inner_turns env m h.mark h.test init))
  command_visits m n (Switch value items) env = term_visits env m n value ++ items_visits m (n + references value) items env
  command_visits m n (Return e) env = maybe_visits env m n e
  command_visits m n Break env = []
  command_visits m n Continue env = []
  command_visits m n (Future place captures body) env =
      term_visits env m n place ++ listed_visits env m (n + references place) captures

  pub commands_visits : Segs → ℕ → Commands → Env → List Visit
  commands_visits m n End env = []
  commands_visits m n (Then c cs) env = command_visits m n c env ++ commands_visits m (n + references_in c) cs env

  -- every statement of a `switch`, in the order of the text
  pub items_visits : Segs → ℕ → Items → Env → List Visit
  items_visits m n NoItem env = []
  items_visits m n (At k rest) env = items_visits m n rest env
  items_visits m n (Other rest) env = items_visits m n rest env
  items_visits m n (Do c rest) env = command_visits m n c env ++ items_visits m (n + references_in c) rest env

-- ---- iterations

-- the statements of a body at its top; a body that is no block, or an empty one, is a statement itself
abbrev pub top_statements : Command → Commands
top_statements (Block (Then c cs)) = Then c cs
top_statements body = Then body End

abbrev pub at_statement : ℕ → List Visit → List Visit
at_statement k vs = map (λ (v : Visit). record v { statement = k }) vs

-- the visits of the top-level statements from number k on; the first reference has number n
abbrev pub statements_visits : Segs → ℕ → ℕ → Commands → Env → List Visit
statements_visits m n k End env = []
statements_visits m n k (Then c cs) env =
    at_statement k (command_visits m n c env) ++ statements_visits m (n + references_in c) (suc k) cs env

-- of one iteration: the test, which belongs to statement 0, and the body
abbrev pub turn_visits : Segs → Option Term → Command → Env → List Visit
turn_visits m test body env =
    maybe_visits env m 0 test ++ statements_visits m (maybe_references test) 0 (top_statements body) env

-- the iterations of a loop that was entered with these values, in order
abbrev pub iterations : Range → Option Term → List ℕ → Segs → List Env
iterations r test values m = turns_from (env_of values) m r test (Some (env_of values r.index))

abbrev pub visits_at : Segs → Option Term → Command → Option Env → List Visit
visits_at m test body None = []
visits_at m test body (Some env) = turn_visits m test body env

-- the cells of iteration i
abbrev pub cells_of_turn : Range → Option Term → Command → List ℕ → Segs → ℕ → List Visit
cells_of_turn r test body values m i = visits_at m test body (slice_get (iterations r test values m) i)

-- the cells of the whole loop
abbrev pub cells_of_loop : Range → Option Term → Command → List ℕ → Segs → List Visit
cells_of_loop r test body values m = joined (map (turn_visits m test body) (iterations r test values m))

-- ---- what a loop holds on to

-- a read of a global
abbrev pub global_read : Kind → ℕ → Use
global_read kind g = record { place = place_of (pointer_to (suc g)); writes = is_writing kind }

abbrev mutual
  -- the reads of global scalars that a term names
  pub names : Term → List Use
  names (Number n) = []
  names (Local x) = []
  names (Set x value) = names value
  names (UpdateLocal o post x value) = names value
  names (Global g) = []
  names (Index bound unsigned size base index) = names base ++ names index
  names (Member base off) = names base
  names (Read kind (Global g)) = global_read kind g ∷ []
  names (Read kind place) = names place
  names (Write kind place value) = names place ++ names value
  names (FetchAdd place value) = names place ++ names value
  names (Purge place) = names place
  names (Update o post read write place value) = names place ++ names value
  names (Unary o of) = names of
  names (Binary o a b) = names a ++ names b
  names (And a b) = names a ++ names b
  names (Or a b) = names a ++ names b
  names (Cond test a b) = names test ++ (names a ++ names b)
  names (Comma a b) = names a ++ names b
  names (Call f args) = names_among args
  names (Print format args) = names_among args

  pub names_among : Terms → List Use
  names_among NoMore = []
  names_among (More e es) = names e ++ names_among es

abbrev pub maybe_names : Option Term → List Use
maybe_names None = []
maybe_names (Some e) = names e

abbrev mutual
  -- those that the addresses of its accesses name
  pub addressed_by : Term → List Use
  addressed_by (Number n) = []
  addressed_by (Local x) = []
  addressed_by (Set x value) = addressed_by value
  addressed_by (UpdateLocal o post x value) = addressed_by value
  addressed_by (Global g) = []
  addressed_by (Index bound unsigned size base index) = addressed_by base ++ addressed_by index
  addressed_by (Member base off) = addressed_by base
  addressed_by (Read kind place) = names place
  addressed_by (Write kind place value) = names place ++ addressed_by value
  addressed_by (FetchAdd place value) = names place ++ addressed_by value
  addressed_by (Purge place) = names place
  addressed_by (Update o post read write place value) = names place ++ addressed_by value
  addressed_by (Unary o of) = addressed_by of
  addressed_by (Binary o a b) = addressed_by a ++ addressed_by b
  addressed_by (And a b) = addressed_by a ++ addressed_by b
  addressed_by (Or a b) = addressed_by a ++ addressed_by b
  addressed_by (Cond test a b) = addressed_by test ++ (addressed_by a ++ addressed_by b)
  addressed_by (Comma a b) = addressed_by a ++ addressed_by b
  addressed_by (Call f args) = addressed_among args
  addressed_by (Print format args) = addressed_among args

  pub addressed_among : Terms → List Use
  addressed_among NoMore = []
  addressed_among (More e es) = addressed_by e ++ addressed_among es

abbrev pub maybe_addressed : Option Term → List Use
maybe_addressed None = []
maybe_addressed (Some e) = addressed_by e

abbrev pub listed_addressed : {K : Type 0} → List (K × Term) → List Use
listed_addressed [] = []
listed_addressed (i ∷ is) = addressed_by i.1 ++ listed_addressed is

abbrev mutual
  -- the reads of global scalars that an address or a bound of an inner loop names
  pub addresses_in : Command → List Use
  addresses_in Empty = []
  addresses_in (Declare x init) = maybe_addressed init
  addresses_in (Object x cells ks is) = listed_addressed is
  addresses_in (Eval e) = addressed_by e
  addresses_in (Block all) = addresses_among all
  addresses_in (If test then) = addressed_by test ++ addresses_in then
  addresses_in (IfElse test then other) = addressed_by test ++ (addresses_in then ++ addresses_in other)
  addresses_in (Loop h init body) =
      addresses_among init ++ (names (first_of init) ++ (maybe_names h.test ++ (addresses_in body ++ maybe_addressed h.step)))
  addresses_in (Switch value items) = addressed_by value ++ addresses_of items
  addresses_in (Return e) = maybe_addressed e
  addresses_in Break = []
  addresses_in Continue = []
  addresses_in (Future place captures body) = names place ++ (listed_addressed captures ++ addresses_in body)

  pub addresses_among : Commands → List Use
  addresses_among End = []
  addresses_among (Then c cs) = addresses_in c ++ addresses_among cs

  pub addresses_of : Items → List Use
  addresses_of NoItem = []
  addresses_of (At n rest) = addresses_of rest
  addresses_of (Other rest) = addresses_of rest
  addresses_of (Do c rest) = addresses_in c ++ addresses_of rest

abbrev pub uses_of : List Visit → List Use
uses_of vs = map (λ (v : Visit). v.touch) vs

-- What a loop holds on to while it is open: its cells taken at Enter, and the reads of the global scalars that its test, and a bound
-- or an address in its body, names, also where it has no iteration.
abbrev pub cells_taken : Range → Option Term → Command → List ℕ → Segs → List Use
cells_taken r test body values m = uses_of (cells_of_loop r test body values m) ++ (maybe_names test ++ addresses_in body)

-- ---- conflicts

abbrev pub IsAmong : {X : Type 0} → X → List X → Type 0
IsAmong x [] = ⊥
IsAmong x (y ∷ ys) = (x ≡ y) ⊎ IsAmong x ys

-- two touches name one cell, and not both only read it (Bernstein)
abbrev pub Conflict : Use → Use → Type 0
Conflict u v = (u.place ≡ v.place) × ((u.writes ≡ true) ⊎ (v.writes ≡ true))
