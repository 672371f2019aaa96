-- What a source is compiled to, and why one is refused.
use Rattle.std.specs.Prelude.{◌≡◌, ℕ, List, Option, Some, None, Result, MatchResult}
use Rattle.xc_text_place.specs.declared.Span.{Span}
use Rattle.xc_text_place.specs.declared.Pos.{Pos}
use Rattle.xc_text_place.specs.Place.{IsPosition}
use Rattle.xc_lex.specs.declared.token.Token.{Token}
use Rattle.xc_lex.specs.declared.lexer.LexFault.TheVariants as lex
use Rattle.xc_lex.specs.Source.{AreTokens, FaultFits as IsLexFault}
use Rattle.xc_raw.specs.declared.tree.Raw.{Raw}
use Rattle.xc_parse.specs.declared.parser.ParseFault.TheVariants as parse
use Rattle.xc_parse.specs.Texts.{words_of, Parsed, FaultFits as IsParseFault}
use Rattle.xc_tree.specs.declared.tree.Tree.{Tree}
use Rattle.xc_type.specs.declared.fault.CheckFault.TheVariants as check
use Rattle.xc_type.specs.Checked.{IsTree, IsFault}
use Rattle.xc_isa.specs.declared.code.Code.{Code}
use Rattle.xc_meaning.specs.Terms as straight
use Rattle.xc_meaning_trees.specs.Trees.{program_of}
use Rattle.xc_gen_promises.specs.Promises.{StandsFor}
use Rattle.xc_gen.specs.Unbuilt.{unbuilt_of}
use Rattle.xc_gen.specs.Faithful.{NoStuck, Ends}
use Rattle.xc_driver.specs.declared.compiler.Compiled.{Compiled}
use Rattle.xc_driver.specs.declared.fault.RefusalKind.{RefusalKind}
use Rattle.xc_driver.specs.declared.fault.RefusalKind.TheVariants.{Lex, Syntax, Depth, Name, Typing, Count, Unbuilt}
use Rattle.xc_driver.specs.declared.fault.CompileFault.{CompileFault}
use Rattle.xc_driver.specs.declared.fault.CompileFault.TheVariants.{NoMemory, Refused}

-- a source with its tokens and their untyped tree
pub record IsParsed (source : List ℕ) (tokens : List Token) (raw : Raw) : Type 0 where
  pub tokens_are : AreTokens source tokens
  pub parsed : Parsed (words_of source tokens) raw

-- the typed tree of a source
abbrev pub IsTreeOf : List ℕ → Tree → Type 0
IsTreeOf source tree = (tokens : List Token) × (raw : Raw) × IsParsed source tokens raw × IsTree source tokens raw tree

-- each run of the code of a tree stands for a source run of its program; it is never stuck, and ends in time. What is built is straight, so
-- its bounds are told of the straight program that it is
pub record IsCodeOf (tree : Tree) (code : Code) : Type 0 where
  pub stands : StandsFor (program_of tree) code
  pub no_stuck : NoStuck code
  pub ends : Ends (straight.program_of tree) code

pub record IsCompiled (source : List ℕ) (c : Compiled) : Type 0 where
  pub tree : IsTreeOf source c.tree
  pub code : IsCodeOf c.tree c.code

-- the first form that has no code yet begins there
abbrev pub IsUnbuilt : List ℕ → Pos → Type 0
IsUnbuilt source pos = (tree : Tree) × IsTreeOf source tree × (at : Span) × (unbuilt_of tree ≡ Some at) × IsPosition source at.start pos

-- Why there is no code: by what the source does not have, and where.
abbrev pub IsRefusal : List ℕ → RefusalKind → Pos → Type 0
IsRefusal source Lex pos = IsLexFault source (lex.At pos)
IsRefusal source Syntax pos = (tokens : List Token) × AreTokens source tokens × IsParseFault source tokens (parse.Syntax pos)
IsRefusal source Depth pos = (tokens : List Token) × AreTokens source tokens × IsParseFault source tokens (parse.Depth pos)
IsRefusal source Name pos = (tokens : List Token) × (raw : Raw) × IsParsed source tokens raw × IsFault source tokens raw (check.Name pos)
IsRefusal source Typing pos = (tokens : List Token) × (raw : Raw) × IsParsed source tokens raw × IsFault source tokens raw (check.Typing pos)
IsRefusal source Count pos = (tokens : List Token) × (raw : Raw) × IsParsed source tokens raw × IsFault source tokens raw (check.Count pos)
IsRefusal source Unbuilt pos = IsUnbuilt source pos

abbrev pub IsRefused : List ℕ → CompileFault → Type 0
IsRefused source NoMemory = Unit {0}
IsRefused source (Refused r) = IsRefusal source r.kind r.at

-- ---- one answer

-- The source has no other tree, and no reason why there is no code.
pub record IsOnlyTree (source : List ℕ) (tree : Tree) : Type 0 where
  pub once : (t : Tree) → IsTreeOf source t → t ≡ tree
  pub unrefused : (kind : RefusalKind) (pos : Pos) → IsRefusal source kind pos → ⊥

-- There is no other reason and no other place. Where the source has a tree, the reason is a form without code.
pub record IsOnlyRefusal (source : List ℕ) (kind : RefusalKind) (pos : Pos) : Type 0 where
  pub once : (k : RefusalKind) (p : Pos) → IsRefusal source k p → (k ≡ kind) × (p ≡ pos)
  pub unbuilt : (t : Tree) → IsTreeOf source t → (kind ≡ Unbuilt) × (at : Span) × (unbuilt_of t ≡ Some at) × IsPosition source at.start pos

abbrev pub IsOnlyRefused : List ℕ → CompileFault → Type 0
IsOnlyRefused source NoMemory = Unit {0}
IsOnlyRefused source (Refused r) = IsOnlyRefusal source r.kind r.at

-- A source with a tree all of whose forms have code gets code, unless memory is used up.
abbrev pub IsComplete : List ℕ → Result Compiled CompileFault → Type 0
IsComplete source result = (tree : Tree) → IsTreeOf source tree → unbuilt_of tree ≡ None → MatchResult result (λ c. c.tree ≡ tree) (λ e. e ≡ NoMemory)
