-- What the parts of the lexer have read.
use Rattle.std.specs.Prelude.{◌≡◌, ◌≤◌, ℕ, ◌^◌, List, ◌++◌, length, Bool, Some, None}
use Rattle.xc_lex.specs.declared.token.Token.{Token}
use Rattle.xc_lex.specs.declared.macros.Macro.{Macro}
use Rattle.xc_lex.specs.declared.macros.Made.{Made}
use Rattle.xc_lex.specs.declared.stop.Stop.{Stop}
use Rattle.xc_lex.specs.declared.stop.Stop.TheVariants.{NoMemory, At}
use Rattle.xc_lex.specs.Lines.{Line}
use Rattle.xc_lex.specs.Source.{fault_of}
use Rattle.xc_lex.specs.State.{all_of, shut, IsKept, MadeFits}

-- no macro is opened
pub record IsIdle (source : List ℕ) (ms : List Macro) (opened : List Bool) (made : List Made) : Type 0 where
  pub kept : IsKept source ms opened made
  pub idle : opened ≡ shut ms

-- a line was read
pub record LineRead (source : List ℕ) (line : Line) (before : List Token) (at : ℕ) (ms : List Macro) (opened : List Bool) (made : List Made) (tokens : List Token) : Type 0 where
  pub idle : IsIdle source ms opened made
  pub fits : MadeFits source ms opened made tokens
  pub faultless : fault_of before line ≡ None
  pub stop : line.stop ≡ at
  pub macros : line.macros ≡ all_of source ms
  pub told : tokens ≡ before ++ line.tokens
  pub few : length tokens ≤ 2 ^ 20

-- or has a fault
abbrev pub LineStops : List Token → Line → Stop → Type 0
LineStops before line NoMemory = Unit {0}
LineStops before line (At place) = fault_of before line ≡ Some place
