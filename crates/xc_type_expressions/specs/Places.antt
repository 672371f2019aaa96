-- Names, constants, members and elements (C99 6.5.1 and 6.5.2).
use Rattle.std.specs.Prelude.{ℕ, Bool, false, is_some, cond, List, [], Option, Some, None, option_and_then, slice_get}
use Rattle.xc_text_place.specs.declared.Span.{Span}
use Rattle.xc_lex.specs.declared.number.Number.{Number}
use Rattle.xc_raw.specs.declared.rule.Rule.{Rule}
use Rattle.xc_raw.specs.declared.rule.Rule.TheVariants as rule
use Rattle.xc_raw.specs.declared.tree.Raw.{Raw, out-Raw}
use Rattle.xc_raw.specs.declared.word.Word.{Word}
use Rattle.xc_raw.specs.declared.word.Word.TheVariants as word
use Rattle.xc_raw.specs.declared.word.Literal.TheVariants as literal
use Rattle.xc_type_rule.specs.declared.found.Found.{Found}
use Rattle.xc_type_rule.specs.declared.found.Member.{Member}
use Rattle.xc_type_rule.specs.Least.{type_fault}
use Rattle.xc_type_rule.specs.Making.{unknown_place}
use Rattle.xc_type_rule.specs.Members.{member_named, members_of, mixes}
use Rattle.xc_type_names.specs.Numbered.{reserved_of}
use Rattle.xc_type_literals.specs.Constants.{constant_at}
use Rattle.xc_raw_parts.specs.Spans.{word_at}
use Rattle.xc_type_rule_operators.specs.Operators.{number_part}
use Rattle.xc_type_rule_places.specs.Rulings.{dot_owner, arrow_owner}
use Rattle.xc_type_rule_places.specs.Places.{name_part, name_faults, index_part, index_faults, dot_part, dot_faults, arrow_part, arrow_faults}
use Rattle.xc_type_scopes.specs.declared.env.Env.{Env}
use Rattle.xc_type_scopes.specs.Env as env
use Rattle.xc_type_scopes.specs.Judge.{Judge, give}
use Rattle.xc_type_scopes.specs.Told.{Told, told, anywhere}
use Rattle.xc_type_expressions.specs.declared.text.Text.{Text}

-- the number of the name that a token is
abbrev pub name_of : Text → ℕ → Option ℕ
name_of t token = option_and_then (λ n. n) (slice_get t.names.now.numbers token)

abbrev pub alone_by : Rule → List Raw → ℕ → Option ℕ
alone_by rule.Prim [] first = Some first
alone_by _ parts first = None

-- the token that an expression is, where it is one
abbrev pub alone_in : Raw → Option ℕ
alone_in node = alone_by (out-Raw node).rule (out-Raw node).parts (out-Raw node).first

-- a reserved name is a function's
abbrev pub is_reserved : ℕ → Bool
is_reserved name = is_some (reserved_of name)

-- what is no name at all is nothing
unfoldable pub named : Span → Option ℕ → Judge Found
named span None = give unknown_place []
named span (Some name) = λ e. cond (is_reserved name) (give unknown_place (type_fault span) e)
    (give (name_part span (env.found name e)) (name_faults span (env.found name e)) e)

abbrev pub constant : Span → Option Number → Told Found
constant span None = told unknown_place []
constant span (Some n) = told (number_part span n.value n.unsigned) []

-- one token; a string literal stands before the values of a `printf` alone
unfoldable pub of_word : Text → Span → ℕ → Word → Judge Found
of_word t span token word.Name = named span (name_of t token)
of_word t span token (word.Literal literal.Number) = anywhere (constant span (constant_at t.texts.now.constants.items token))
of_word t span token _ = give unknown_place (type_fault span)

abbrev pub of_token : Text → Span → ℕ → Judge Found
of_token t span token = of_word t span token (word_at t.source.now t.tokens.now token)

-- an element of what is found of `a`, which `at` covers, at an index: `a[i]`
abbrev pub indexed : Span → Span → Found → Found → Judge Found
indexed span at a i = λ e. give (index_part e.structs.sizes span at a i) (index_faults e.structs.sizes span at a i) e

-- the member of a struct of which this is the number
abbrev pub member_in : Env → Option ℕ → Option ℕ → Option Member
member_in e (Some s) (Some name) = member_named name (members_of e.structs.members s)
member_in e _ _ = None

abbrev pub mixes_in : Env → Option ℕ → Bool
mixes_in e None = false
mixes_in e (Some s) = mixes e.structs.mixed s

-- `a.name`, where `at` covers the name
abbrev pub dotted : Span → Span → Option ℕ → Found → Judge Found
dotted span at name f = λ e. let m = member_in e (dot_owner f.known) name in
    give (dot_part span m (mixes_in e (dot_owner f.known)) f) (dot_faults span at m f) e

-- `p->name`
abbrev pub arrowed : Span → Span → Option ℕ → Found → Judge Found
arrowed span at name f = λ e. let m = member_in e (arrow_owner f.known) name in
    give (arrow_part span m (mixes_in e (arrow_owner f.known)) f) (arrow_faults span at m f) e
