-- What a node of a text is found to be, by the role that it has in the node around it.
use Rattle.std.specs.Prelude.{ℕ, Bool, ⊤, List, map, Option}
use Rattle.xc_text_place.specs.declared.Span.{Span}
use Rattle.xc_tree.specs.declared.ty.Ty.{Ty}
use Rattle.xc_type_rule.specs.declared.found.Found.{Found}
use Rattle.xc_type_rule.specs.Values.{rvalue, rvalue_faults}
use Rattle.xc_type_scopes.specs.Judge.{Judge, give, and_then, each}
use Rattle.xc_type_expressions.specs.declared.types.Tagged.{Tagged}
use Rattle.xc_type_expressions.specs.declared.types.Declared.{Declared}
use Rattle.xc_type_constants.specs.Pieces.{Piece}

pub record Role : Type 0 where
  -- the bytes that it covers
  pub span : Span
  -- those without the parentheses around it
  pub inner : Span
  -- the token that it is, where it is an expression of one
  pub alone : Option ℕ
  -- as an expression
  pub found : Judge Found
  -- as a part of a constant
  pub constant : Piece
  -- as a list of specifiers, at file scope or not: the type that they give
  pub specified : Bool → Judge (Option Ty)
  -- as the specifier of a struct
  pub struct : Judge Tagged
  -- as a member's declaration, of the struct at work
  pub member : Judge ⊤
  -- as a declarator behind specifiers of this type
  pub declared : Option Ty → Judge Declared

-- an expression as a value (C99 6.3.2.1)
unfoldable pub value : Role → Judge Found
value p = and_then p.found (λ f env. give (rvalue env.structs.sizes p.span f) (rvalue_faults p.inner f.known) env)

-- several, from left to right
abbrev pub values : List Role → Judge (List Found)
values ps = each (map value ps)
