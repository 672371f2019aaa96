-- What a text is checked to be: the least of its faults, the first place at which a count passes its limit, or its typed tree.
use Rattle.std.specs.Prelude.{◌≡◌, ℕ, List, map, Option, Some, None}
use Rattle.xc_text_place.specs.Place.{IsPosition}
use Rattle.xc_lex.specs.declared.token.Token.{Token}
use Rattle.xc_raw.specs.declared.tree.Raw.{Raw, out-Raw}
use Rattle.xc_tree.specs.declared.ty.Ty.{Ty}
use Rattle.xc_tree.specs.declared.tree.Tree.{Tree}
use Rattle.xc_type_rule.specs.declared.fault.Fault.{Fault}
use Rattle.xc_type_rule.specs.declared.fault.Breach.TheVariants as breach
use Rattle.xc_type_rule.specs.declared.found.Member.{Member}
use Rattle.xc_type_rule.specs.Least.{least_from}
use Rattle.xc_type_names.specs.Numbered.{numbered}
use Rattle.xc_type_literals.specs.Constants.{constants_of}
use Rattle.xc_type_literals.specs.Texts.{numbers_of, formats_of, all_taken}
use Rattle.xc_type_expressions.specs.declared.text.Text.{Text}
use Rattle.xc_type_statement_parts.specs.Making.{all_made}
use Rattle.xc_type_unit.specs.declared.scope.FileScope.{FileScope}
use Rattle.xc_type_unit.specs.Functions.{bodies_of}
use Rattle.xc_type_unit.specs.Texts.{whole, main_in}
use Rattle.xc_type.specs.declared.fault.CheckFault.{CheckFault}
use Rattle.xc_type.specs.declared.fault.CheckFault.TheVariants.{NoMemory, Name, Typing, Count}

-- a source, its tokens, the numbers of its names, and its constants and string literals
pub record IsText (source : List ℕ) (tokens : List Token) (t : Text) : Type 0 where
  pub source_is : t.source.now ≡ source
  pub tokens_are : t.tokens.now ≡ tokens
  pub names : t.names.now ≡ numbered source tokens
  pub constants : t.texts.now.constants.items ≡ constants_of source tokens
  pub numbers : t.texts.now.numbers.items ≡ numbers_of tokens
  pub formats : t.texts.now.formats ≡ formats_of source tokens
  pub takes : t.texts.now.takes.items ≡ all_taken (formats_of source tokens)

-- the fault to tell
abbrev pub first_fault : Text → Raw → Option Fault
first_fault t raw = least_from None (whole t raw).faults

abbrev pub scope_of : Text → Raw → FileScope
scope_of t raw = (whole t raw).scope

-- a fault with the line and column of its place
abbrev pub IsPlaced : List ℕ → Fault → CheckFault → Type 0
IsPlaced source f (Name pos) = (f.breach ≡ breach.Name) × IsPosition source f.at pos
IsPlaced source f (Typing pos) = (f.breach ≡ breach.Typing) × IsPosition source f.at pos
IsPlaced source f _ = ⊥

-- it is the one to tell
abbrev pub IsFirst : Text → Raw → CheckFault → Type 0
IsFirst t raw e = (f : Fault) × (first_fault t raw ≡ Some f) × IsPlaced t.source.now f e

-- why there is no tree; want of memory may come at any time
abbrev pub IsFaultIn : Text → Raw → CheckFault → Type 0
IsFaultIn t raw NoMemory = Unit {0}
IsFaultIn t raw (Count pos) = (first_fault t raw ≡ None) × (at : ℕ) × ((scope_of t raw).env.over ≡ Some at) × IsPosition t.source.now at pos
IsFaultIn t raw e = IsFirst t raw e

-- the types of the members of a struct
abbrev pub types_of : List Member → List (Option Ty)
types_of ms = map (λ m. m.ty) ms

abbrev pub known_types : List Member → Option (List Ty)
known_types ms = all_made (types_of ms)

abbrev pub struct_types : List (List Member) → Option (List (List Ty))
struct_types structs = all_made (map known_types structs)

-- the tree that declarations and definitions make
pub record IsMade (s : FileScope) (main : Option ℕ) (formats : List (List ℕ)) (tree : Tree) : Type 0 where
  pub structs : struct_types s.env.structs.members ≡ Some tree.structs
  pub globals : tree.globals ≡ s.globals
  pub funcs : s.funcs ≡ Some tree.funcs
  pub formats_are : tree.formats ≡ formats
  pub notes : tree.notes ≡ s.env.notes
  pub loops : tree.loops ≡ s.env.loops
  pub main_is : main ≡ Some tree.main

-- a text without faults, in which no count passes its limit
pub record IsFaultless (t : Text) (raw : Raw) : Type 0 where
  pub faultless : first_fault t raw ≡ None
  pub within : (scope_of t raw).env.over ≡ None

-- the tree of a text without faults
pub record IsTreeIn (t : Text) (raw : Raw) (tree : Tree) : Type 0 where
  pub faultless : IsFaultless t raw
  pub made : IsMade (scope_of t raw) (main_in t (bodies_of t (out-Raw raw).parts)) t.texts.now.formats tree

-- of a source with these tokens; want of memory may come at any time
abbrev pub IsFault : List ℕ → List Token → Raw → CheckFault → Type 0
IsFault source tokens raw NoMemory = Unit {0}
IsFault source tokens raw e = (t : Text) × IsText source tokens t × IsFaultIn t raw e

abbrev pub IsTree : List ℕ → List Token → Raw → Tree → Type 0
IsTree source tokens raw tree = (t : Text) × IsText source tokens t × IsTreeIn t raw tree
