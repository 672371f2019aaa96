-- Which programs have code.
use Rattle.std.specs.Prelude.{◌≡◌, ℕ, ◌+◌, ◌-◌, ◌^◌, ◌<◌, ◌≤◌, List, Some, slice_get}
use Rattle.std.specs.Option.{option_map}
use Rattle.xc_text_format.specs.Pieces.{pieces_of, conversions_of}
use Rattle.xc_meaning.specs.Terms.{Term, Number, Read, Write, Update, Unary, Binary, And, Or, Cond, Comma, Print, Terms, NoMore, More, Command, Empty, Eval, Block, Return, Commands, End, Then}

-- each global and the frame is a segment, and the last number of a segment is 2^32 - 2
abbrev pub most_globals : ℕ
most_globals = 2 ^ 32 - 3

abbrev pub count_of : Terms → ℕ
count_of NoMore = 0
count_of (More e es) = count_of es + 1

-- all forms have code, each global that is named is one of the first n, and no `printf` has more than 8 arguments
abbrev mutual
  pub NamesBelow : ℕ → Term → Type 0
  NamesBelow n (Number v) = Unit {0}
  NamesBelow n (Read g) = g < n
  NamesBelow n (Write g value) = (g < n) × NamesBelow n value
  NamesBelow n (Update op unsigned post g value) = (g < n) × NamesBelow n value
  NamesBelow n (Unary op of) = NamesBelow n of
  NamesBelow n (Binary op unsigned a b) = NamesBelow n a × NamesBelow n b
  NamesBelow n (And a b) = NamesBelow n a × NamesBelow n b
  NamesBelow n (Or a b) = NamesBelow n a × NamesBelow n b
  NamesBelow n (Cond test a b) = NamesBelow n test × NamesBelow n a × NamesBelow n b
  NamesBelow n (Comma a b) = NamesBelow n a × NamesBelow n b
  NamesBelow n (Print format args) = (count_of args ≤ 8) × AllNamesBelow n args
  NamesBelow n (Term.Unbuilt at) = ⊥

  pub AllNamesBelow : ℕ → Terms → Type 0
  AllNamesBelow n NoMore = Unit {0}
  AllNamesBelow n (More e es) = NamesBelow n e × AllNamesBelow n es

abbrev mutual
  pub NamesIn : ℕ → Command → Type 0
  NamesIn n Empty = Unit {0}
  NamesIn n (Eval e) = NamesBelow n e
  NamesIn n (Block all) = AllNamesIn n all
  NamesIn n (Return e) = NamesBelow n e
  NamesIn n (Command.Unbuilt at) = ⊥

  pub AllNamesIn : ℕ → Commands → Type 0
  AllNamesIn n End = Unit {0}
  AllNamesIn n (Then s ss) = NamesIn n s × AllNamesIn n ss

-- a format that prints so many values
abbrev pub PrintsSo : List (List ℕ) → ℕ → ℕ → Type 0
PrintsSo formats f count = (format : List ℕ) × (slice_get formats f ≡ Some format) × (option_map conversions_of (pieces_of format) ≡ Some count)

-- each `printf` has as many arguments as its format has conversions
abbrev mutual
  pub PrintsFit : List (List ℕ) → Term → Type 0
  PrintsFit fs (Number v) = Unit {0}
  PrintsFit fs (Read g) = Unit {0}
  PrintsFit fs (Write g value) = PrintsFit fs value
  PrintsFit fs (Update op unsigned post g value) = PrintsFit fs value
  PrintsFit fs (Unary op of) = PrintsFit fs of
  PrintsFit fs (Binary op unsigned a b) = PrintsFit fs a × PrintsFit fs b
  PrintsFit fs (And a b) = PrintsFit fs a × PrintsFit fs b
  PrintsFit fs (Or a b) = PrintsFit fs a × PrintsFit fs b
  PrintsFit fs (Cond test a b) = PrintsFit fs test × PrintsFit fs a × PrintsFit fs b
  PrintsFit fs (Comma a b) = PrintsFit fs a × PrintsFit fs b
  PrintsFit fs (Print format args) = PrintsSo fs format (count_of args) × AllPrintsFit fs args
  PrintsFit fs (Term.Unbuilt at) = Unit {0}

  pub AllPrintsFit : List (List ℕ) → Terms → Type 0
  AllPrintsFit fs NoMore = Unit {0}
  AllPrintsFit fs (More e es) = PrintsFit fs e × AllPrintsFit fs es

abbrev mutual
  pub PrintsIn : List (List ℕ) → Command → Type 0
  PrintsIn fs Empty = Unit {0}
  PrintsIn fs (Eval e) = PrintsFit fs e
  PrintsIn fs (Block all) = AllPrintsIn fs all
  PrintsIn fs (Return e) = PrintsFit fs e
  PrintsIn fs (Command.Unbuilt at) = Unit {0}

  pub AllPrintsIn : List (List ℕ) → Commands → Type 0
  AllPrintsIn fs End = Unit {0}
  AllPrintsIn fs (Then s ss) = PrintsIn fs s × AllPrintsIn fs ss
