-- What a text is judged to be goes by its bytes, tokens, names and literals alone, wherever they lie in memory.
use Rattle.std.proofs.Common.{◌≡◌, ◌≤◌, List, length, refl, ap, ◌∙◌, subst}
use Rattle.std.specs.Prelude.{Vec}
use denote.Struct.Props.{props}
use Rattle.xc_raw.specs.declared.tree.Raw.{Raw}
use Rattle.xc_type_literals.specs.declared.texts.Texts.{Texts}
use Rattle.xc_type_expressions.specs.declared.text.Text.{Text}
use Rattle.xc_type_expressions.specs.Places.{of_word}
use Rattle.xc_type_expressions.specs.Calls.{applied, called}
use Rattle.xc_type_expressions.specs.Judged.{takes_value, with_none, suffixed, with_one, with_two, with_three, by_parts, casted, found_of, declared_of, judged}
use Rattle.xc_type_initialisers.specs.Forms.{form_by, form_in}
use Rattle.xc_type_initialisers.specs.Initialisers.{placed, fitted, valued, given_by, initialiser, local_inits, global_inits}
use Rattle.xc_type_statement_parts.specs.Pragmas.{begun}
use Rattle.xc_type_statement_parts.specs.Declarations.{initialised, declares_by, declares_all, declaration}
use Rattle.xc_type_statement_parts.specs.Futures.{element, member, reached, placed as placed_futures, awaited, copy_of, copies, begins}
use Rattle.xc_type_statements.specs.Stated.{tested, evaluated, eval_by, return_by, clause_by, test_clause, step_clause, if_by, while_by, do_by, clauses, for_inner, for_by, future_by, plain_by, stmt_by, stated_by, statement}
use Rattle.xc_type_unit.specs.Parameters.{described_by, parameter, parameters}
use Rattle.xc_type_unit.specs.Functions.{bodies_from, named_function, headed, bodied, defined_as, inner, function, bodies_of}
use Rattle.xc_type_unit.specs.Globals.{begun as begun_globals, begun_unknown, begins as begins_globals, global_by, global, globals_by, declaration as declaration_globals}
use Rattle.xc_type_unit.specs.Texts.{item_by, item, items, whole_by, whole, main_in}

-- a vector with other items
abbrev Fits : {A Z : Type 0} → Vec A Z → List A → Type 0
Fits v ys = (v.len ≡ length ys) × (v.len ≤ v.cap)

abbrev with_items : {A Z : Type 0} (v : Vec A Z) (ys : List A) → v.items ≡ ys → Vec A Z
with_items v ys e = record v { items = ys; ok = (v.ok.0 ∙ ap length e, v.ok.1) }

items_moved : {A Z : Type 0} (v : Vec A Z) (ys : List A) → v.items ≡ ys → (h : Fits v ys) → v ≡ record v { items = ys; ok = h }
items_moved v ys e = subst (λ ys. (h : Fits v ys) → v ≡ record v { items = ys; ok = h }) e (λ h.
    let one : IsProp (Fits v v.items) = hlevel props in
    ap (λ o. record v { ok = o }) (one v.ok h))

-- two texts are of the same bytes, tokens, names and literals
pub record AreSame (t u : Text) : Type 0 where
  pub source : t.source.now ≡ u.source.now
  pub tokens : t.tokens.now ≡ u.tokens.now
  pub names : t.names.now ≡ u.names.now
  pub constants : t.texts.now.constants.items ≡ u.texts.now.constants.items
  pub numbers : t.texts.now.numbers.items ≡ u.texts.now.numbers.items
  pub formats : t.texts.now.formats ≡ u.texts.now.formats
  pub takes : t.texts.now.takes.items ≡ u.texts.now.takes.items

module _ (t u : Text) (s : AreSame t u) where
  -- what the one has, where the other is
  abbrev moved : Text
  moved = record {
    source = record { ref_ptr = t.source.ref_ptr; now = u.source.now };
    tokens = record { ref_ptr = t.tokens.ref_ptr; now = u.tokens.now };
    names = record { ref_ptr = t.names.ref_ptr; now = u.names.now };
    texts = record {
      ref_ptr = t.texts.ref_ptr;
      now = record {
        constants = with_items t.texts.now.constants u.texts.now.constants.items s.constants;
        numbers = with_items t.texts.now.numbers u.texts.now.numbers.items s.numbers;
        formats = u.texts.now.formats;
        takes = with_items t.texts.now.takes u.texts.now.takes.items s.takes;
      };
    };
  }

  abbrev at_source : Text
  at_source = record t { source = record t.source { now = u.source.now } }

  abbrev at_tokens : Text
  at_tokens = record at_source { tokens = record t.tokens { now = u.tokens.now } }

  abbrev at_names : Text
  at_names = record at_tokens { names = record t.names { now = u.names.now } }

  abbrev with_texts : Texts → Text
  with_texts x = record at_names { texts = record t.texts { now = x } }

  is_moved : t ≡ moved
  is_moved =
      let now = t.texts.now in
      let other = u.texts.now in
      let constants = with_items now.constants other.constants.items s.constants in
      let numbers = with_items now.numbers other.numbers.items s.numbers in
      ap (λ x. record t { source = record t.source { now = x } }) s.source
      ∙ ap (λ x. record at_source { tokens = record t.tokens { now = x } }) s.tokens
      ∙ ap (λ x. record at_tokens { names = record t.names { now = x } }) s.names
      ∙ ap (λ x. with_texts (record now { constants = x })) (items_moved now.constants other.constants.items s.constants constants.ok)
      ∙ ap (λ x. with_texts (record now { constants = constants; numbers = x })) (items_moved now.numbers other.numbers.items s.numbers numbers.ok)
      ∙ ap (λ x. with_texts (record now { constants = constants; numbers = numbers; formats = x })) s.formats
      ∙ ap (λ x. with_texts (record now { constants = constants; numbers = numbers; formats = other.formats; takes = x }))
      (items_moved now.takes other.takes.items s.takes (with_items now.takes other.takes.items s.takes).ok)

  -- nothing else of it is looked at
  moved_whole : (node : Raw) → whole moved node ≡ whole u node
  unfolding of_word applied called takes_value with_none suffixed with_one with_two with_three by_parts casted found_of declared_of judged
      form_by form_in placed fitted valued given_by initialiser local_inits global_inits begun initialised declares_by declares_all
      declaration element member reached placed_futures awaited copy_of copies begins tested evaluated eval_by return_by clause_by
      test_clause step_clause if_by while_by do_by clauses for_inner for_by future_by plain_by stmt_by stated_by statement described_by
      parameter parameters bodies_from named_function headed bodied defined_as inner function begun_globals begun_unknown begins_globals
      global_by global globals_by declaration_globals item_by item items whole_by
  moved_whole node = refl

  moved_main : (nodes : List Raw) → main_in moved (bodies_of moved nodes) ≡ main_in u (bodies_of u nodes)
  unfolding bodies_from
  moved_main nodes = refl

  pub same_whole : (node : Raw) → whole t node ≡ whole u node
  same_whole node = ap (λ x. whole x node) is_moved ∙ moved_whole node

  pub same_main : (nodes : List Raw) → main_in t (bodies_of t nodes) ≡ main_in u (bodies_of u nodes)
  same_main nodes = ap (λ x. main_in x (bodies_of x nodes)) is_moved ∙ moved_main nodes
