-- What breaks no rule of constants is one, and has a value where it is evaluated.
use Rattle.std.proofs.Common.{◌≡◌, ℕ, List, [], ◌∷◌, Bool, true, false, refl, sym, subst, cond}
use Rattle.std.specs.Prelude.{IsTrue, ◌&&◌, ◌||◌, ◌==◌, not, is_some, Option, Some, None, option_map, option_and_then}
use Rattle.xc_text_place.specs.declared.Span.{Span}
use Rattle.xc_lex.specs.declared.number.Number.{Number}
use Rattle.xc_tree.specs.declared.operator.BinOp.{BinOp}
use Rattle.xc_tree.specs.declared.operator.BinOp.TheVariants as op
use Rattle.xc_tree.specs.declared.operator.UnOp.{UnOp}
use Rattle.xc_tree.specs.declared.operator.UnOp.TheVariants as un
use Rattle.xc_tree.specs.declared.ty.Ty.{Ty}
use Rattle.xc_tree.specs.Lists.{passes}
use Rattle.xc_tree.specs.Types.{is_number}
use Rattle.xc_tree.specs.Typed.{sort_of}
use Rattle.xc_tree.proofs.Lists.{and_both}
use Rattle.xc_tree_words.specs.Words.{unary_word, binary_word, is_uint}
use Rattle.xc_word.specs.Numbers.{truth}
use Rattle.xc_raw.specs.declared.word.Word.{Word}
use Rattle.xc_tree_words.specs.Constants.{chosen, is_true}
use Rattle.xc_type_rule.specs.declared.fault.Fault.{Fault}
use Rattle.xc_type_rule.specs.declared.found.Found.{Found}
use Rattle.xc_type_rule.specs.Least.{type_fault, fault_unless}
use Rattle.xc_type_rule.specs.Making.{faults_by}
use Rattle.xc_type_rule.specs.Tests.{may_be}
use Rattle.xc_type_declarators.specs.Specifiers.{base_ty}
use Rattle.xc_type_rule_operators.specs.declared.logic.Logic.{Logic}
use Rattle.xc_type_rule_operators.specs.declared.logic.Logic.TheVariants as logic
use Rattle.xc_type_rule_operators.specs.Operators.{cast_faults}
use Rattle.xc_type_rule_operators.specs.Rulings.{ruled, cast_ruling}
use Rattle.xc_raw_parts.specs.declared.operators.Operator.{Operator}
use Rattle.xc_raw_parts.specs.declared.operators.Operator.TheVariants as operator
use Rattle.xc_raw_parts.specs.declared.operators.Prefix.{Prefix}
use Rattle.xc_raw_parts.specs.declared.operators.Prefix.TheVariants as prefix
use Rattle.xc_type_expressions.specs.Operations as operations
use Rattle.xc_type_expressions.specs.Operations.{has_any}
use Rattle.xc_type_constants.specs.Pieces.{unary_unsigned, both, works_unsigned, gives_unsigned, value_by, logic_value, cast_part, Piece, where_true, strange_piece, token_piece, prefix_piece, is_zero, zero_divisor, binary_piece, goes_on, logic_piece, operator_piece, cond_piece, unsigned_of, cast_unsigned}
use Rattle.xc_welltyped_claims.proofs.Judges.{none_left, none_right}
use Rattle.xc_welltyped_expressions.proofs.Base.{integer_base}

pub record IsPiece (p : Piece) (asked : Bool) : Type 0 where
  pub pure : IsTrue p.part.pure
  pub typed : IsTrue (is_some p.part.unsigned)
  pub value : asked ≡ true → IsTrue (is_some p.part.value)

-- what breaks no rule
abbrev pub PieceFine : Piece → Type 0
PieceFine p = (asked : Bool) → p.faults asked ≡ [] → IsPiece p asked

-- options -------------------------------------------------------------------------------

mapped_some : {A B : Type 0} (f : A → B) (o : Option A) → IsTrue (is_some o) → IsTrue (is_some (option_map f o))
mapped_some f None h = absurd cc
mapped_some f (Some x) h = refl

both_some : (f : Bool → Bool → Bool) (a b : Option Bool) → IsTrue (is_some a) → IsTrue (is_some b) → IsTrue (is_some (both f a b))
both_some f None b h k = absurd cc
both_some f (Some a) None h k = absurd cc
both_some f (Some a) (Some b) h k = refl

-- parts ---------------------------------------------------------------------------------

strange_fine : (span : Span) → PieceFine (strange_piece span)
strange_fine span asked none = let no : type_fault span ≡ [] = none in absurd cc

pub token_fine : (span : Span) (o : Option Number) → PieceFine (token_piece span o)
token_fine span None asked none = strange_fine span asked none
token_fine span (Some n) asked none = record { pure = refl; typed = refl; value = λ a. refl }

unary_typed : (o : UnOp) (u : Option Bool) → IsTrue (is_some u) → IsTrue (is_some (unary_unsigned o u))
unary_typed un.Not u h = refl
unary_typed un.Neg u h = h
unary_typed un.Complement u h = h
unary_typed un.Cast u h = h

pub prefix_fine : (span : Span) (o : Option Prefix) (p : Piece) → PieceFine p → PieceFine (prefix_piece span o p)
prefix_fine span None p f = strange_fine span
prefix_fine span (Some prefix.Plus) p f = f
prefix_fine span (Some (prefix.Value o)) p f = λ asked none. let h = f asked none in
    record { pure = h.pure; typed = unary_typed o p.part.unsigned h.typed; value = λ a. mapped_some (unary_word o) p.part.value (h.value a) }
prefix_fine span (Some prefix.Star) p f = strange_fine span
prefix_fine span (Some prefix.Address) p f = strange_fine span
prefix_fine span (Some (prefix.Step s)) p f = strange_fine span

-- two parts -------------------------------------------------------------------------------

divided_some : (span : Span) (b : ℕ) (x : ℕ) → fault_unless (not (is_zero b)) span ≡ [] → IsTrue (is_some (cond (b == 0) None (Some x)))
divided_some span b x none = by (b == 0) none
  where
    by : (z : Bool) → fault_unless (not z) span ≡ [] → IsTrue (is_some (cond z None (Some x)))
    by true none = absurd cc
    by false none = refl

word_some : (span : Span) (o : BinOp) (u : Bool) (a b : ℕ) → zero_divisor o (Some b) span ≡ [] → IsTrue (is_some (binary_word o u a b))
word_some span op.Div u a b none = divided_some span b _ none
word_some span op.Rem u a b none = divided_some span b _ none
word_some span _ u a b none = refl

value_some : (span : Span) (o : BinOp) (u : Option Bool) (x y : Option ℕ) → IsTrue (is_some u) → IsTrue (is_some x) → IsTrue (is_some y) → zero_divisor o y span ≡ [] → IsTrue (is_some (value_by o u x y))
value_some span o None x y h k l none = absurd cc
value_some span o (Some u) None y h k l none = absurd cc
value_some span o (Some u) (Some a) None h k l none = absurd cc
value_some span o (Some u) (Some a) (Some b) h k l none = word_some span o u a b none

where_asked : (asked : Bool) (fs : List Fault) → asked ≡ true → where_true asked fs ≡ [] → fs ≡ []
where_asked true fs a none = none
where_asked false fs a none = absurd cc

binary_fine : (span : Span) (o : BinOp) (p q : Piece) → PieceFine p → PieceFine q → PieceFine (binary_piece span o p q)
binary_fine span o p q f g asked none =
    let rest = none_right (p.faults asked) _ none in
    let h = f asked (none_left (p.faults asked) _ none) in
    let k = g asked (none_left (q.faults asked) _ rest) in
    let z : where_true asked (zero_divisor o q.part.value span) ≡ [] = none_right (q.faults asked) _ rest in
    record {
      pure = and_both p.part.pure _ h.pure k.pure;
      typed = both_some (gives_unsigned (sort_of o)) p.part.unsigned q.part.unsigned h.typed k.typed;
      value = λ a. value_some span o (both (works_unsigned (sort_of o)) p.part.unsigned q.part.unsigned) p.part.value q.part.value
          (both_some (works_unsigned (sort_of o)) p.part.unsigned q.part.unsigned h.typed k.typed) (h.value a) (k.value a) (where_asked asked _ a z);
    }

logic_some : (l : Logic) (x y : Option ℕ) → IsTrue (is_some x) → (goes_on l x ≡ true → IsTrue (is_some y)) → IsTrue (is_some (logic_value l x y))
logic_some l None y h f = absurd cc
logic_some logic.And (Some a) y h f = by (is_true a) f
  where
    by : (b : Bool) → (b ≡ true → IsTrue (is_some y)) → IsTrue (is_some (cond b (option_map (λ n. truth (is_true n)) y) (Some 0)))
    by true g = mapped_some (λ n. truth (is_true n)) y (g refl)
    by false g = refl
logic_some logic.Or (Some a) y h f = by (a == 0) f
  where
    by : (b : Bool) → (b ≡ true → IsTrue (is_some y)) → IsTrue (is_some (cond (not b) (Some 1) (option_map (λ n. truth (is_true n)) y)))
    by true g = mapped_some (λ n. truth (is_true n)) y (g refl)
    by false g = refl

asked_too : (asked b : Bool) → asked ≡ true → b ≡ true → (asked && b) ≡ true
asked_too true b a h = h
asked_too false b a h = absurd cc

logic_fine : (l : Logic) (p q : Piece) → PieceFine p → PieceFine q → PieceFine (logic_piece l p q)
logic_fine l p q f g asked none =
    let on : Bool = goes_on l p.part.value in
    let h = f asked (none_left (p.faults asked) _ none) in
    let k = g (asked && on) (none_right (p.faults asked) _ none) in
    record {
      pure = and_both p.part.pure _ h.pure k.pure;
      typed = refl;
      value = λ a. logic_some l p.part.value q.part.value (h.value a) (λ b. k.value (asked_too asked on a b));
    }

pub operator_fine : (span : Span) (o : Option Operator) (p q : Piece) → PieceFine p → PieceFine q → PieceFine (operator_piece span o p q)
operator_fine span None p q f g = strange_fine span
operator_fine span (Some (operator.Value o)) p q f g = binary_fine span o p q f g
operator_fine span (Some operator.And) p q f g = logic_fine logic.And p q f g
operator_fine span (Some operator.Or) p q f g = logic_fine logic.Or p q f g

-- three parts -------------------------------------------------------------------------------

chosen_some : (test x y : Option ℕ) → IsTrue (is_some test) → (passes is_true test ≡ true → IsTrue (is_some x)) → (passes is_zero test ≡ true → IsTrue (is_some y)) → IsTrue (is_some (chosen test x y))
chosen_some None x y h f g = absurd cc
chosen_some (Some a) x y h f g = by (a == 0) f g
  where
    by : (b : Bool) → (not b ≡ true → IsTrue (is_some x)) → (b ≡ true → IsTrue (is_some y)) → IsTrue (is_some (cond (not b) x y))
    by true f g = g refl
    by false f g = f refl

pub cond_fine : (test p q : Piece) → PieceFine test → PieceFine p → PieceFine q → PieceFine (cond_piece test p q)
cond_fine test p q d f g asked none =
    let rest = none_right (test.faults asked) _ none in
    let yes : Bool = passes is_true test.part.value in
    let no : Bool = passes is_zero test.part.value in
    let i = d asked (none_left (test.faults asked) _ none) in
    let h = f (asked && yes) (none_left (p.faults (asked && yes)) _ rest) in
    let k = g (asked && no) (none_right (p.faults (asked && yes)) _ rest) in
    record {
      pure = and_both test.part.pure _ i.pure (and_both p.part.pure _ h.pure k.pure);
      typed = both_some (λ a b. a || b) p.part.unsigned q.part.unsigned h.typed k.typed;
      value = λ a. chosen_some test.part.value p.part.value q.part.value (i.value a) (λ b. h.value (asked_too asked yes a b)) (λ b. k.value (asked_too asked no a b));
    }

-- casts -------------------------------------------------------------------------------------

cast_some : (u : Option Bool) (x : Option ℕ) → IsTrue (is_some u) → IsTrue (is_some x) → IsTrue (is_some (cond (is_some u) x None))
cast_some None x h k = absurd cc
cast_some (Some u) x h k = k

pub cast_fine : (u : Option Bool) (p : Piece) → IsTrue (is_some u) → PieceFine p → PieceFine (record p { part = cast_part u p.part })
cast_fine u p h f asked none = let k = f asked none in record { pure = k.pure; typed = h; value = λ a. cast_some u p.part.value h (k.value a) }

number_ruled : (span : Span) (a b : Bool) (t : Ty) → faults_by span (ruled (a && b) t) ≡ [] → IsTrue a
unfolding faults_by ruled
number_ruled span true b t none = refl
number_ruled span false b t none = absurd cc

number_cast : (span : Span) (to : Ty) (a : Found) → cast_faults span (Some to) a ≡ [] → IsTrue (is_number to)
unfolding cast_faults cast_ruling
number_cast span to a none = number_ruled span (is_number to) (may_be is_number a.known) to none

unsigned_some : (to : Ty) → IsTrue (is_number to) → IsTrue (is_some (unsigned_of to))
unsigned_some to h = by (is_number to) h
  where
    by : (b : Bool) → IsTrue b → IsTrue (is_some (cond b (Some (is_uint to)) None))
    by true h = refl
    by false h = absurd cc

-- a cast without a fault names an integer type
pub cast_named : (span : Span) (ws stars : List Word) (o : Option ℕ) (to : Ty) → base_ty ws o ≡ Some to → (a : Found) → (operations.cast_to span (has_any stars) (Some to) a).faults ≡ [] → IsTrue (is_some (cast_unsigned ws stars))
cast_named span ws (w ∷ stars) o to is a none = absurd cc
cast_named span ws [] o to is a none =
    let number : IsTrue (is_number to) = number_cast span to a none in
    subst (λ z. IsTrue (is_some (option_and_then unsigned_of z))) (sym (integer_base ws o to is number)) (unsigned_some to number)
