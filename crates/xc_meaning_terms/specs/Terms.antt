-- Programs as plain data, with what the types decide: the abstract syntax that the meaning is defined by cases on.
use Rattle.std.specs.Prelude.{ℕ, Bool, List, Option}
use Rattle.xc_word.specs.declared.memory.Cell.{Cell}
use Rattle.xc_word.specs.declared.memory.Kind.{Kind}
use Rattle.xc_tree.specs.declared.operator.BinOp.{BinOp}
use Rattle.xc_tree.specs.declared.operator.UnOp.{UnOp}
use Rattle.xc_tree.specs.declared.pragmas.Root.{Root}
use Rattle.xc_meaning_terms.specs.declared.operation.Operation.{Operation}

mutual
  -- What an expression does. Locals, globals, functions and formats go by number. A place is a value too: the pointer to it.
  pub data Term : Type 0 where
    -- a constant
    Number : (n : ℕ) → Term
    -- the value of a local, which for one in memory is the pointer to it
    Local : (x : ℕ) → Term
    -- `x = value` of a local that is a value
    Set : (x : ℕ) (value : Term) → Term
    -- `x op= value` of a local that is a value; the whole has the old value where `post` holds, else the new one
    UpdateLocal : (o : Operation) (post : Bool) (x : ℕ) (value : Term) → Term
    -- the place of a global
    Global : (g : ℕ) → Term
    -- the place of an element, in an array with this bound or by a pointer; `unsigned` is of the index
    Index : (bound : Option ℕ) (unsigned : Bool) (size : ℕ) (base index : Term) → Term
    -- the place of a member, so many cells into a struct
    Member : (base : Term) (off : ℕ) → Term
    -- the value in the cell at a place, by this kind of access
    Read : (kind : Kind) (place : Term) → Term
    -- a word is written to the cell at a place
    Write : (kind : Kind) (place value : Term) → Term
    -- `int_fetch_add`
    FetchAdd : (place value : Term) → Term
    -- `purge`
    Purge : (place : Term) → Term
    -- `place op= value`, which reads and writes by these kinds
    Update : (o : Operation) (post : Bool) (read write : Kind) (place value : Term) → Term
    Unary : (op : UnOp) (of : Term) → Term
    Binary : (o : Operation) (a b : Term) → Term
    And : (a b : Term) → Term
    Or : (a b : Term) → Term
    Cond : (test a b : Term) → Term
    Comma : (a b : Term) → Term
    Call : (f : ℕ) (args : Terms) → Term
    Print : (format : ℕ) (args : Terms) → Term

  -- arguments, in order
  pub data Terms : Type 0 where
    NoMore : Terms
    More : (e : Term) (rest : Terms) → Terms

-- A local that begins with a given word, as a parameter or a copy: a value of its thread, or an object of one cell in memory.
pub data Formal : Type 0 where
  ByValue : (x : ℕ) → Formal
  InMemory : (x : ℕ) → Formal

-- What the pragmas of a loop assert: the roots that `nodep` names, the pointers that `noalias` names, and the root of each reference,
-- which are the accesses of its test and its body in the order of the text.
pub record Claims : Type 0 where
  pub nodep : List Root
  pub noalias : List Root
  pub roots : List Root

-- A loop in normal form: its number; its index, the comparison with its bound, and its step; how many locals its function has; whether
-- it is stable; and what is asserted of it.
pub record Range : Type 0 where
  pub id : ℕ
  pub index : ℕ
  pub order : BinOp
  pub down : Bool
  pub step : ℕ
  pub local_count : ℕ
  pub stable : Bool
  pub claims : Claims

-- What is known of a loop: nothing; that it is in normal form; or that it is Concurrent.
pub data Mark : Type 0 where
  Unmarked : Mark
  Normal : (range : Range) → Mark
  Concurrent : (range : Range) → Mark

-- The header of a loop: `late` says that the body goes before the first test.
pub record Header : Type 0 where
  pub mark : Mark
  pub late : Bool
  pub test : Option Term
  pub step : Option Term

mutual
  -- What a statement or a declaration does.
  pub data Command : Type 0 where
    Empty : Command
    -- declares a local that is a value
    Declare : (x : ℕ) (init : Option Term) → Command
    -- declares an object in memory: cells that are emptied, then the words that it begins with, each with its offset
    Object : (x cells : ℕ) (purged : List ℕ) (inits : List (ℕ × Term)) → Command
    Eval : (e : Term) → Command
    Block : (all : Commands) → Command
    If : (test : Term) (then : Command) → Command
    IfElse : (test : Term) (then other : Command) → Command
    Loop : (header : Header) (init : Commands) (body : Command) → Command
    Switch : (value : Term) (items : Items) → Command
    Return : (e : Option Term) → Command
    Break : Command
    Continue : Command
    -- starts a thread, with copies of values, whose answer comes to a place
    Future : (place : Term) (captures : List (Formal × Term)) (body : Command) → Command

  -- statements, in order
  pub data Commands : Type 0 where
    End : Commands
    Then : (s : Command) (rest : Commands) → Commands

  -- what stands in the braces of a `switch`: `case` with a word, `default`, and statements
  pub data Items : Type 0 where
    NoItem : Items
    At : (word : ℕ) (rest : Items) → Items
    Other : (rest : Items) → Items
    Do : (s : Command) (rest : Items) → Items

-- the parameters in order, and the body
pub record Function : Type 0 where
  pub formals : List Formal
  pub body : Command

-- The cells of each global, the formats of `printf`, the functions, and which of them is `main`.
pub record Program : Type 0 where
  pub globals : List (List Cell)
  pub formats : List (List ℕ)
  pub functions : List Function
  pub main : ℕ
