-- What calls make is whole where their arguments are and their rules are kept.
use Rattle.std.proofs.Common.{◌≡◌, ℕ, zero, suc, ◌≤◌, List, [], ◌∷◌, ◌++◌, length, Bool, true, false, refl, sym, ap, ◌∙◌, subst, cond, arith}
use Rattle.std.specs.Prelude.{IsTrue, ◌&&◌, ◌==◌, nat_le, Option, Some, None, option_map, slice_get}
use Rattle.std.proofs.lemmas.Bool.{eqb-true, le-leb}
use Rattle.xc_text_place.specs.declared.Span.{Span}
use Rattle.xc_word.specs.declared.memory.Kind.{Kind}
use Rattle.xc_word.specs.declared.memory.Kind.TheVariants as kind
use Rattle.xc_tree.specs.declared.ty.Ty.{Ty, Void}
use Rattle.xc_tree.specs.Lists.{passes}
use Rattle.xc_tree.specs.Types.{is_number, content, fits}
use Rattle.xc_type_rule.specs.declared.fault.Fault.{Fault}
use Rattle.xc_type_rule.specs.declared.found.Found.{Found}
use Rattle.xc_type_rule.specs.declared.found.Known.{Known}
use Rattle.xc_type_rule.specs.declared.found.Known.TheVariants as known
use Rattle.xc_type_rule.specs.declared.found.Thing.{Thing}
use Rattle.xc_type_rule.specs.declared.found.Thing.TheVariants as thing
use Rattle.xc_type_rule.specs.Least.{type_fault}
use Rattle.xc_type_rule.specs.Making.{faults_by}
use Rattle.xc_type_rule.specs.Tests.{may_be}
use Rattle.xc_welltyped.specs.Sound.{IsWhole}
use Rattle.xc_welltyped.proofs.Types.{eqb_refl}
use Rattle.xc_welltyped.proofs.Whole.{IsMadeOf, IsKnown, mapped, both_made, gives_value, found_whole, given_whole}
use Rattle.xc_type_rule_calls.specs.Arguments.{ruled, given_by, held_by, given_to, all_fit, all_made}
use Rattle.xc_type_rule_calls.specs.Calls.{call_of, call_ruling, called_part, called_faults, defined_faults, call_part, call_faults}
use Rattle.xc_type_rule_calls.specs.Accesses.{scalar_of, read_ruling, purge_ruling, access_ruling, access_of, written, write_ruling, added, add_ruling, update_ruling, update_of, access_part, access_faults, updated_part, updated_faults, update_part, update_faults}
use Rattle.xc_type_rule_calls.specs.declared.print.Text.{Text}
use Rattle.xc_type_rule_calls.specs.Prints.{all_numbers, so_many, print_ruling, print_of, is_short, print_kind, print_part, format_faults, print_faults, ninth_of}
use Rattle.xc_welltyped_rules.specs.Callees.{AreWhole, is_typed_call}

-- no faults -----------------------------------------------------------------------

none_first : (fs gs : List Fault) → fs ++ gs ≡ [] → fs ≡ []
none_first [] gs e = refl
none_first (f ∷ fs) gs e = absurd cc

none_then : (fs gs : List Fault) → fs ++ gs ≡ [] → gs ≡ []
none_then [] gs e = e
none_then (f ∷ fs) gs e = absurd cc

-- arguments -----------------------------------------------------------------------

given_at : (o : Option Ty) (f : Found) → IsWhole f → IsWhole (given_by o f)
given_at None f h = h
given_at (Some ty) f h = given_whole ty f h

given_all : (ps : List (Option Ty)) (fs : List Found) → AreWhole fs → AreWhole (given_to ps fs)
given_all [] fs h = h
given_all (p ∷ ps) [] h = tt
given_all (p ∷ ps) (f ∷ fs) h = (given_at (held_by p) f h.0, given_all ps fs h.1)

made_all : (fs : List Found) → AreWhole fs → IsMadeOf (all_made fs)
unfolding all_made
made_all [] h = refl
made_all (f ∷ fs) h = both_made (λ e es. e ∷ es) f.made (all_made fs) h.0.made (made_all fs h.1)

-- rulings -------------------------------------------------------------------------

ruled_gives : (fits : Bool) (ty : Ty) → IsTrue (gives_value (ruled fits (known.Value ty)))
ruled_gives true ty = refl
ruled_gives false ty = refl

call_gives : (params : List (Option Ty)) (ret : Option Ty) (args : List Found) → IsTrue (passes (λ ty. true) ret) → IsTrue (gives_value (call_ruling params ret args))
unfolding call_ruling
call_gives params None args h = absurd cc
call_gives params (Some ty) args h = ruled_gives (all_fit params args) ty

read_gives : (p : Known) → IsKnown p → IsTrue (gives_value (read_ruling p))
unfolding read_ruling
read_gives (known.Unknown place) h = absurd cc
read_gives (known.Place ty w) h = refl
read_gives (known.Value ty) h = by (content ty)
  where
    by : (o : Option Ty) → IsTrue (gives_value (option_map known.Value o))
    by None = refl
    by (Some b) = refl

purge_gives : (p : Known) → IsKnown p → IsTrue (gives_value (purge_ruling p))
unfolding purge_ruling
purge_gives (known.Unknown place) h = absurd cc
purge_gives (known.Place ty w) h = refl
purge_gives (known.Value ty) h = by (content ty)
  where
    by : (o : Option Ty) → IsTrue (gives_value (option_map (λ ty. known.Value Void) o))
    by None = refl
    by (Some b) = refl

access_gives : (k : Kind) (p : Known) → IsKnown p → IsTrue (gives_value (access_ruling k p))
unfolding access_ruling
access_gives kind.ReadXx p h = read_gives p h
access_gives kind.ReadFe p h = read_gives p h
access_gives kind.ReadFf p h = read_gives p h
access_gives kind.Purge p h = purge_gives p h
access_gives kind.WriteXf p h = refl
access_gives kind.WriteEf p h = refl
access_gives kind.WriteFf p h = refl
access_gives kind.Add p h = refl

write_gives : (p v : Known) → IsKnown p → IsTrue (gives_value (write_ruling p v))
unfolding write_ruling
write_gives (known.Unknown place) v h = absurd cc
write_gives (known.Place ty w) v h = refl
write_gives (known.Value ty) v h = by (content ty)
  where
    by : (o : Option Ty) → IsTrue (gives_value (written o v))
    by None = refl
    by (Some b) = ruled_gives (may_be (fits b) v) Void

add_gives : (p v : Known) → IsKnown p → IsTrue (gives_value (add_ruling p v))
unfolding add_ruling
add_gives (known.Unknown place) v h = absurd cc
add_gives (known.Place ty w) v h = refl
add_gives (known.Value ty) v h = by (content ty)
  where
    by : (o : Option Ty) → IsTrue (gives_value (added o v))
    by None = refl
    by (Some b) = ruled_gives (is_number b && may_be is_number v) b

update_gives : (k : Kind) (p v : Known) → IsKnown p → IsTrue (gives_value (update_ruling k p v))
unfolding update_ruling
update_gives kind.WriteXf p v h = write_gives p v h
update_gives kind.WriteEf p v h = write_gives p v h
update_gives kind.WriteFf p v h = write_gives p v h
update_gives kind.Add p v h = add_gives p v h
update_gives kind.ReadXx p v h = refl
update_gives kind.ReadFe p v h = refl
update_gives kind.ReadFf p v h = refl
update_gives kind.Purge p v h = refl

-- calls ---------------------------------------------------------------------------

module _ (span : Span) where
  defined : (at : Span) (number : Option ℕ) → defined_faults at number ≡ [] → IsMadeOf number
  defined at None none = absurd cc
  defined at (Some n) none = refl

  called_whole : (number : Option ℕ) (params : List (Option Ty)) (ret : Option Ty) (args : List Found) → IsMadeOf number → IsTrue (passes (λ ty. true) ret) → AreWhole args →
      called_faults span params ret args ≡ [] → IsWhole (called_part span number params ret args)
  unfolding called_part called_faults
  called_whole number params ret args d t h none =
      found_whole span (call_ruling params ret args) _ (call_gives params ret args t) none (both_made call_of number (all_made args) d (made_all args h))

  pub call_whole : (at : Span) (t : Option Thing) (args : List Found) → IsTrue (is_typed_call t) → AreWhole args → call_faults span at t args ≡ [] → IsWhole (call_part span t args)
  unfolding call_part call_faults
  call_whole at None args t h none = absurd cc
  call_whole at (Some (thing.Global n ty)) args t h none = absurd cc
  call_whole at (Some (thing.Local n ty)) args t h none = absurd cc
  call_whole at (Some (thing.Func number params ret)) args t h none =
      called_whole number params ret (given_to params args) (defined at number (none_first (defined_faults at number) _ none)) t (given_all params args h)
      (none_then (defined_faults at number) _ none)

  pub access_whole : (k : Kind) (p : Found) → IsWhole p → access_faults span k p ≡ [] → IsWhole (access_part span k p)
  unfolding access_part access_faults
  access_whole k p h none = found_whole span (access_ruling k p.known) _ (access_gives k p.known h.known) none (mapped (access_of k) p.made h.made)

  updated_whole : (k : Kind) (p v : Found) → IsWhole p → IsWhole v → updated_faults span k p v ≡ [] → IsWhole (updated_part span k p v)
  unfolding updated_part updated_faults
  updated_whole k p v hp hv none = found_whole span (update_ruling k p.known v.known) _ (update_gives k p.known v.known hp.known) none (both_made (update_of k) p.made v.made hp.made hv.made)

  pub update_whole : (k : Kind) (p v : Found) → IsWhole p → IsWhole v → update_faults span k p v ≡ [] → IsWhole (update_part span k p v)
  unfolding update_part update_faults
  update_whole k p v hp hv none = updated_whole k p (given_by (scalar_of p.known) v) hp (given_at (scalar_of p.known) v hv) none

-- texts ---------------------------------------------------------------------------

-- at most so many are there where one more is not
none_at : (spans : List Span) (n : ℕ) → slice_get spans n ≡ None → length spans ≤ n
none_at [] n e = omega arith
none_at (s ∷ spans) zero e = absurd cc
none_at (s ∷ spans) (suc n) e = let less : length spans ≤ n = none_at spans n e in omega arith

start_none : (o : Option Span) → option_map (λ (s : Span). s.start) o ≡ None → o ≡ None
start_none None e = refl
start_none (Some s) e = absurd cc

no_ninth : (text : Text) (m : ℕ) (spans : List Span) → text.takes ≡ Some m → m ≡ length spans → ninth_of (Some text) spans ≡ None → IsTrue (nat_le m 8)
unfolding ninth_of
no_ninth text m spans is many none =
    let takes : passes (λ n. n == length spans) text.takes ≡ true = ap (passes (λ n. n == length spans)) is ∙ subst (λ k. (m == k) ≡ true) many (eqb_refl m) in
    let ninth : option_map (λ (s : Span). s.start) (slice_get spans 8) ≡ None = subst (λ b. cond b (option_map (λ (s : Span). s.start) (slice_get spans 8)) None ≡ None) takes none in
    le-leb m 8 (subst (λ k. k ≤ 8) (sym many) (none_at spans 8 (start_none (slice_get spans 8) ninth)))

module _ (span : Span) where
  takes_some : (text : Text) → format_faults text ≡ [] → IsTrue (passes (λ n. true) text.takes)
  takes_some text none = by (passes (λ n. true) text.takes) none
    where
      by : (b : Bool) → cond b [] (type_fault text.span) ≡ [] → IsTrue b
      by true e = refl
      by false e = absurd cc

  many_are : (takes : Option ℕ) (args : List Found) → faults_by span (print_ruling takes args) ≡ [] → IsTrue (so_many takes (length args))
  unfolding faults_by print_ruling
  many_are takes args none = by (so_many takes (length args)) (all_numbers args) none
    where
      by : (a b : Bool) → faults_by span (ruled (a && b) (known.Value Void)) ≡ [] → IsTrue a
      by true b e = refl
      by false b e = absurd cc

  short : (text : Text) (args : List Found) (spans : List Span) → print_faults span (Some text) args ≡ [] → length spans ≡ length args → ninth_of (Some text) spans ≡ None → IsTrue (is_short text.takes)
  unfolding print_faults
  short text args spans none same ninth = by text.takes refl (takes_some text (none_first (format_faults text) _ none)) (many_are text.takes args (none_then (format_faults text) _ none))
    where
      by : (o : Option ℕ) → text.takes ≡ o → IsTrue (passes (λ n. true) o) → IsTrue (so_many o (length args)) → IsTrue (is_short o)
      by None e t m = absurd cc
      by (Some m) e t many = no_ninth text m spans e (eqb-true m (length args) many ∙ sym same) ninth

  print_made : (text : Text) (args : List Found) → IsTrue (is_short text.takes) → AreWhole args → IsMadeOf (print_kind text args)
  unfolding print_kind
  print_made text args s h = by (is_short text.takes) s
    where
      by : (b : Bool) → IsTrue b → IsMadeOf (cond b (option_map (print_of text.number) (all_made args)) None)
      by true e = mapped (print_of text.number) (all_made args) (made_all args h)
      by false e = absurd cc

  -- where there is no ninth argument
  pub print_whole : (text : Text) (args : List Found) (spans : List Span) → AreWhole args → print_faults span (Some text) args ≡ [] → length spans ≡ length args → ninth_of (Some text) spans ≡ None →
      IsWhole (print_part span (Some text) args)
  unfolding print_part print_faults print_ruling
  print_whole text args spans h none same ninth =
      found_whole span (print_ruling text.takes args) _ (ruled_gives (so_many text.takes (length args) && all_numbers args) Void) (none_then (format_faults text) _ none)
      (print_made text args (short text args spans none same ninth) h)
