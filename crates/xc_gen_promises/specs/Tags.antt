-- Programs that wait for no cell, since none is ever empty: no `future` statement, no object that begins empty, and accesses that wait for
-- nothing and leave the cell full. Plain objects have no others, but for `int_fetch_add`, which finds a full cell. A `sync` or `future`
-- object that is never emptied may stand in such a program.
use Rattle.std.specs.Prelude.{ℕ, Bool, true, false, ◌&&◌, List, [], ◌∷◌, map, Option, Some, None}
use Rattle.xc_word.specs.declared.memory.Cell.{Cell}
use Rattle.xc_word.specs.declared.memory.Kind.{Kind}
use Rattle.xc_word.specs.declared.memory.Kind.TheVariants as kind
use Rattle.xc_tree.specs.Lists.{every}
use Rattle.xc_meaning_terms.specs.Terms.{Term, Number, Local, Set, UpdateLocal, Global, Index, Member, Read, Write, FetchAdd, Purge, Update, Unary, Binary, And, Or, Cond, Comma, Call, Print, Terms, NoMore, More, Command, Empty, Declare, Object, Eval, Block, If, IfElse, Loop, Switch, Return, Break, Continue, Future, Commands, End, Then, Items, NoItem, At, Other, Do, Program}

-- an access that waits for nothing and leaves the cell full
abbrev pub is_plain_kind : Kind → Bool
is_plain_kind kind.ReadXx = true
is_plain_kind kind.WriteXf = true
is_plain_kind _ = false

abbrev mutual
  pub is_untagged : Term → Bool
  is_untagged (Number n) = true
  is_untagged (Local x) = true
  is_untagged (Set x value) = is_untagged value
  is_untagged (UpdateLocal o post x value) = is_untagged value
  is_untagged (Global g) = true
  is_untagged (Index bound unsigned size base index) = is_untagged base && is_untagged index
  is_untagged (Member base off) = is_untagged base
  is_untagged (Read k place) = is_plain_kind k && is_untagged place
  is_untagged (Write k place value) = is_plain_kind k && (is_untagged place && is_untagged value)
  is_untagged (FetchAdd place value) = is_untagged place && is_untagged value
  is_untagged (Purge place) = false
  is_untagged (Update o post read write place value) = is_plain_kind read && (is_plain_kind write && (is_untagged place && is_untagged value))
  is_untagged (Unary o of) = is_untagged of
  is_untagged (Binary o a b) = is_untagged a && is_untagged b
  is_untagged (And a b) = is_untagged a && is_untagged b
  is_untagged (Or a b) = is_untagged a && is_untagged b
  is_untagged (Cond test a b) = is_untagged test && (is_untagged a && is_untagged b)
  is_untagged (Comma a b) = is_untagged a && is_untagged b
  is_untagged (Call f args) = are_untagged args
  is_untagged (Print format args) = are_untagged args

  pub are_untagged : Terms → Bool
  are_untagged NoMore = true
  are_untagged (More e es) = is_untagged e && are_untagged es

abbrev pub maybe_untagged : Option Term → Bool
maybe_untagged None = true
maybe_untagged (Some e) = is_untagged e

abbrev pub listed_untagged : {K : Type 0} → List (K × Term) → Bool
listed_untagged [] = true
listed_untagged (i ∷ is) = is_untagged i.1 && listed_untagged is

abbrev pub none_purged : List ℕ → Bool
none_purged [] = true
none_purged (k ∷ ks) = false

abbrev mutual
  pub does_untagged : Command → Bool
  does_untagged Empty = true
  does_untagged (Declare x init) = maybe_untagged init
  does_untagged (Object x cells ks is) = none_purged ks && listed_untagged is
  does_untagged (Eval e) = is_untagged e
  does_untagged (Block all) = do_untagged all
  does_untagged (If test then) = is_untagged test && does_untagged then
  does_untagged (IfElse test then other) = is_untagged test && (does_untagged then && does_untagged other)
  does_untagged (Loop h init body) = maybe_untagged h.test && (maybe_untagged h.step && (do_untagged init && does_untagged body))
  does_untagged (Switch value items) = is_untagged value && items_untagged items
  does_untagged (Return e) = maybe_untagged e
  does_untagged Break = true
  does_untagged Continue = true
  does_untagged (Future place captures body) = false

  pub do_untagged : Commands → Bool
  do_untagged End = true
  do_untagged (Then c cs) = does_untagged c && do_untagged cs

  pub items_untagged : Items → Bool
  items_untagged NoItem = true
  items_untagged (At n rest) = items_untagged rest
  items_untagged (Other rest) = items_untagged rest
  items_untagged (Do c rest) = does_untagged c && items_untagged rest

abbrev pub are_full : List Cell → Bool
are_full [] = true
are_full (c ∷ cs) = c.full && are_full cs

-- no cell of the program is ever empty
abbrev pub waits_for_none : Program → Bool
waits_for_none p = every (map are_full p.globals) && every (map (λ f. does_untagged f.body) p.functions)
