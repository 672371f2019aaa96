-- What calls make uses locals as it may.
use Rattle.std.proofs.Common.{◌≡◌, ℕ, List, [], ◌∷◌, map, Bool, true, false, refl, ap, ◌∙◌, cond}
use Rattle.std.specs.Prelude.{IsTrue, ◌&&◌, not, length, Option, Some, None, option_map}
use Rattle.xc_text_place.specs.declared.Span.{Span}
use Rattle.xc_word.specs.declared.memory.Kind.{Kind}
use Rattle.xc_word.specs.declared.memory.Kind.TheVariants as kind
use Rattle.xc_tree.specs.declared.ty.Ty.{Ty}
use Rattle.xc_tree.specs.declared.expr.Expr.{Expr}
use Rattle.xc_tree.specs.declared.expr.ExprKind.{Call, Print, Write}
use Rattle.xc_tree.specs.Types.{is_number, is_plain, fits, base, is_void}
use Rattle.xc_tree.specs.Lists.{passes}
use Rattle.xc_tree.proofs.Lists.{and_left, and_right, and_both}
use Rattle.xc_type_rule.specs.declared.found.Found.{Found}
use Rattle.xc_type_rule.specs.declared.found.Known.{Known}
use Rattle.xc_type_rule.specs.declared.found.Known.TheVariants as known
use Rattle.xc_type_rule.specs.declared.found.Thing.{Thing}
use Rattle.xc_type_rule.specs.declared.found.Thing.TheVariants as thing
use Rattle.xc_type_rule.specs.Making.{typed, both}
use Rattle.xc_type_rule.specs.Tests.{may_be}
use Rattle.xc_type_rule_calls.specs.Arguments.{ruled, given_by, held_by, given_to, may_pass, all_fit, all_made}
use Rattle.xc_type_rule_calls.specs.Calls.{call_of, returned, call_ruling, called_part, call_part}
use Rattle.xc_type_rule_calls.specs.Accesses.{scalar_of, read_ruling, purge_ruling, access_ruling, access_of, written, write_ruling, added, add_ruling, update_ruling, update_of, access_part, updated_part, update_part}
use Rattle.xc_type_rule_calls.specs.declared.print.Text.{Text}
use Rattle.xc_type_rule_calls.specs.Prints.{all_numbers, so_many, print_ruling, print_of, is_short, print_kind, print_part}
use Rattle.xc_type_lowering.specs.Accessed.{settled, all_settled, use_of}
use Rattle.xc_welltyped_locals.specs.Used.{IsUsed, AreUsed}
use Rattle.xc_welltyped_locals.proofs.UsedForms.{read_use, readfe_use, readff_use, purge_use, writexf_use, writeef_use, writeff_use, add_use, call_use, print_use, Only, MadeOnly, KindOnly, only_by, of_one, of_two, found_used, is_place, value_only}
use Rattle.xc_welltyped_locals.proofs.UsedValues.{given_used}
use Rattle.xc_welltyped_locals.proofs.UsedOperators.{may_be_value, cond_some}

-- arguments that fit are values ---------------------------------------------------------------

passes_value : (o : Option Ty) (k : Known) → passes (λ b. may_be (fits b) k) o ≡ true → is_place k ≡ false
passes_value None k e = absurd cc
passes_value (Some b) k e = may_be_value (fits b) k e

passed_value : (p : Option Ty) (k : Known) → may_pass p k ≡ true → is_place k ≡ false
passed_value None k e = may_be_value is_plain k e
passed_value (Some ty) k e = passes_value (base ty) k e

module _ (flags : List Bool) (count : ℕ) where
  given_at : (o : Option Ty) (f : Found) → IsUsed flags count f → IsUsed flags count (given_by o f)
  given_at None f h = h
  given_at (Some ty) f h = given_used flags count ty f h

  given_all : (ps : List (Option Ty)) (fs : List Found) → AreUsed flags count fs → AreUsed flags count (given_to ps fs)
  given_all [] fs h = h
  given_all (p ∷ ps) [] h = tt
  given_all (p ∷ ps) (f ∷ fs) h = (given_at (held_by p) f h.0, given_all ps fs h.1)

  abbrev ListOnly : Option (List Expr) → Type 0
  ListOnly None = Unit {0}
  ListOnly (Some es) = IsTrue (all_settled (map (use_of flags) es))

  one_more : (m : Option Expr) (r : Option (List Expr)) → MadeOnly flags m → ListOnly r → ListOnly (both (λ e es. e ∷ es) m r)
  unfolding both
  one_more None r h k = tt
  one_more (Some e) None h k = tt
  one_more (Some e) (Some es) h k = and_both (settled (use_of flags e)) _ h k

  only : (f : Found) → is_place f.known ≡ false → IsUsed flags count f → MadeOnly flags f.made
  only f e h = value_only flags count f.known f.made e h

  fit_only : (ps : List (Option Ty)) (fs : List Found) → all_fit ps fs ≡ true → AreUsed flags count fs → ListOnly (all_made fs)
  unfolding all_made
  fit_only [] [] e h = refl
  fit_only [] (f ∷ fs) e h = absurd cc
  fit_only (p ∷ ps) [] e h = refl
  fit_only (p ∷ ps) (f ∷ fs) e h = one_more f.made (all_made fs) (only f (passed_value p f.known (and_left (may_pass p f.known) _ e)) h.0)
      (fit_only ps fs (and_right (may_pass p f.known) _ e) h.1)

  numbers_only : (fs : List Found) → all_numbers fs ≡ true → AreUsed flags count fs → ListOnly (all_made fs)
  unfolding all_made
  numbers_only [] e h = refl
  numbers_only (f ∷ fs) e h = one_more f.made (all_made fs) (only f (may_be_value is_number f.known (and_left (may_be is_number f.known) _ e)) h.0)
      (numbers_only fs (and_right (may_be is_number f.known) _ e) h.1)

-- accesses ------------------------------------------------------------------------------------------

scalar_value : {A : Type 0} (f : Ty → A) (k : Known) (x : A) → option_map f (scalar_of k) ≡ Some x → is_place k ≡ false
scalar_value f (known.Unknown place) x e = refl
scalar_value f (known.Value ty) x e = refl
scalar_value f (known.Place ty within) x e = absurd cc

read_value : (k : Known) (ty : Ty) → read_ruling k ≡ Some (known.Value ty) → is_place k ≡ false
unfolding read_ruling
read_value (known.Unknown place) ty e = refl
read_value (known.Value s) ty e = refl
read_value (known.Place s within) ty e = absurd cc

purge_value : (k : Known) (ty : Ty) → purge_ruling k ≡ Some (known.Value ty) → is_place k ≡ false
unfolding purge_ruling
purge_value (known.Unknown place) ty e = refl
purge_value (known.Value s) ty e = refl
purge_value (known.Place s within) ty e = absurd cc

access_value : (a : Kind) (k : Known) (ty : Ty) → access_ruling a k ≡ Some (known.Value ty) → is_place k ≡ false
unfolding access_ruling
access_value kind.ReadXx k ty e = read_value k ty e
access_value kind.ReadFe k ty e = read_value k ty e
access_value kind.ReadFf k ty e = read_value k ty e
access_value kind.Purge k ty e = purge_value k ty e
access_value kind.WriteXf k ty e = absurd cc
access_value kind.WriteEf k ty e = absurd cc
access_value kind.WriteFf k ty e = absurd cc
access_value kind.Add k ty e = absurd cc

abbrev Two : Known → Known → Type 0
Two p v = (is_place p ≡ false) × (is_place v ≡ false)

written_value : (o : Option Ty) (v : Known) (ty : Ty) → written o v ≡ Some (known.Value ty) → is_place v ≡ false
written_value None v ty e = absurd cc
written_value (Some t) v ty e = may_be_value (fits t) v (cond_some (may_be (fits t) v) _ (known.Value ty) e).0

added_value : (o : Option Ty) (v : Known) (ty : Ty) → added o v ≡ Some (known.Value ty) → is_place v ≡ false
added_value None v ty e = absurd cc
added_value (Some t) v ty e = may_be_value is_number v (and_right (is_number t) _ (cond_some (is_number t && may_be is_number v) _ (known.Value ty) e).0)

write_values : (p v : Known) (ty : Ty) → write_ruling p v ≡ Some (known.Value ty) → Two p v
unfolding write_ruling
write_values (known.Unknown place) v ty e = (refl, may_be_value is_plain v (cond_some (may_be is_plain v) _ (known.Value ty) e).0)
write_values (known.Value s) v ty e = (refl, written_value (scalar_of (known.Value s)) v ty e)
write_values (known.Place s within) v ty e = absurd cc

add_values : (p v : Known) (ty : Ty) → add_ruling p v ≡ Some (known.Value ty) → Two p v
unfolding add_ruling
add_values (known.Unknown place) v ty e = (refl, may_be_value is_number v (cond_some (may_be is_number v) _ (known.Value ty) e).0)
add_values (known.Value s) v ty e = (refl, added_value (scalar_of (known.Value s)) v ty e)
add_values (known.Place s within) v ty e = absurd cc

update_values : (a : Kind) (p v : Known) (ty : Ty) → update_ruling a p v ≡ Some (known.Value ty) → Two p v
unfolding update_ruling
update_values kind.WriteXf p v ty e = write_values p v ty e
update_values kind.WriteEf p v ty e = write_values p v ty e
update_values kind.WriteFf p v ty e = write_values p v ty e
update_values kind.Add p v ty e = add_values p v ty e
update_values kind.ReadXx p v ty e = absurd cc
update_values kind.ReadFe p v ty e = absurd cc
update_values kind.ReadFf p v ty e = absurd cc
update_values kind.Purge p v ty e = absurd cc

module _ (flags : List Bool) (count : ℕ) (span : Span) where
  abbrev Used : Found → Type 0
  Used f = IsUsed flags count f

  -- a place that a value leads to is no local's
  read_only : (e : Expr) → Only flags e → (s : Span) (ty : Ty) → Only flags (typed s ty (access_of kind.ReadXx e))
  read_only e h s ty = ap settled (read_use flags s ty e) ∙ and_right _ (use_of flags e).ok h

  access_only : (a : Kind) (made : Option Expr) → MadeOnly flags made → (p : Known) (ty : Ty) → access_ruling a p ≡ Some (known.Value ty) → KindOnly flags (option_map (access_of a) made)
  unfolding access_ruling
  access_only a None h p ty e = tt
  access_only kind.ReadXx (Some x) h p ty e = λ s t. read_only x h s t
  access_only kind.ReadFe (Some x) h p ty e = of_one flags (access_of kind.ReadFe) (readfe_use flags) (Some x) h
  access_only kind.ReadFf (Some x) h p ty e = of_one flags (access_of kind.ReadFf) (readff_use flags) (Some x) h
  access_only kind.Purge (Some x) h p ty e = of_one flags (access_of kind.Purge) (purge_use flags) (Some x) h
  access_only kind.WriteXf (Some x) h p ty e = absurd cc
  access_only kind.WriteEf (Some x) h p ty e = absurd cc
  access_only kind.WriteFf (Some x) h p ty e = absurd cc
  access_only kind.Add (Some x) h p ty e = absurd cc

  pub access_used : (a : Kind) (p : Found) → Used p → Used (access_part span a p)
  unfolding access_part
  access_used a p h = found_used flags count span (access_ruling a p.known) _
      (λ ty e. access_only a p.made (only flags count p (access_value a p.known ty e) h) p.known ty e)

  write_only : (e v : Expr) → Only flags e → Only flags v → (s : Span) (ty : Ty) → Only flags (typed s ty (Write kind.WriteXf e v))
  write_only e v h g s ty = only_by flags (typed s ty (Write kind.WriteXf e v)) _ (writexf_use flags s ty e v)
      (and_both (use_of flags e).ok _ (and_right _ (use_of flags e).ok h) (and_both (settled (use_of flags v)) _ g (never (use_of flags e).place (is_void ty) (and_left _ (use_of flags e).ok h))))
    where
      never : (b c : Bool) → IsTrue (not b) → IsTrue (not (b && c))
      never true c n = absurd cc
      never false c n = refl

  update_only : (a : Kind) (p v : Known) (ty : Ty) → update_ruling a p v ≡ Some (known.Value ty) → (to given : Option Expr) → MadeOnly flags to → MadeOnly flags given → KindOnly flags (both (update_of a) to given)
  unfolding both update_ruling
  update_only a p v ty e None given h g = tt
  update_only a p v ty e (Some x) None h g = tt
  update_only kind.WriteXf p v ty e (Some x) (Some y) h g = λ s t. write_only x y h g s t
  update_only kind.WriteEf p v ty e (Some x) (Some y) h g = of_two flags (update_of kind.WriteEf) (writeef_use flags) (Some x) (Some y) h g
  update_only kind.WriteFf p v ty e (Some x) (Some y) h g = of_two flags (update_of kind.WriteFf) (writeff_use flags) (Some x) (Some y) h g
  update_only kind.Add p v ty e (Some x) (Some y) h g = of_two flags (update_of kind.Add) (add_use flags) (Some x) (Some y) h g
  update_only kind.ReadXx p v ty e (Some x) (Some y) h g = absurd cc
  update_only kind.ReadFe p v ty e (Some x) (Some y) h g = absurd cc
  update_only kind.ReadFf p v ty e (Some x) (Some y) h g = absurd cc
  update_only kind.Purge p v ty e (Some x) (Some y) h g = absurd cc

  updated_used : (a : Kind) (p v : Found) → Used p → Used v → Used (updated_part span a p v)
  unfolding updated_part
  updated_used a p v h g = found_used flags count span (update_ruling a p.known v.known) _
      (λ ty e. let two = update_values a p.known v.known ty e in
      update_only a p.known v.known ty e p.made v.made (only flags count p two.0 h) (only flags count v two.1 g))

  pub accessed_used : (a : Kind) (p v : Found) → Used p → Used v → Used (update_part span a p v)
  unfolding update_part
  accessed_used a p v h g = updated_used a p (given_by (scalar_of p.known) v) h (given_at flags count (scalar_of p.known) v g)

  -- calls ------------------------------------------------------------------------------------------

  call_only : (number : Option ℕ) (es : Option (List Expr)) → ListOnly flags count es → KindOnly flags (both call_of number es)
  unfolding both
  call_only None es h = tt
  call_only (Some n) None h = tt
  call_only (Some n) (Some es) h = λ s ty. only_by flags (typed s ty (Call n es)) _ (call_use flags s ty n es) h

  called_used : (number : Option ℕ) (params : List (Option Ty)) (ret : Option Ty) (args : List Found) → AreUsed flags count args → Used (called_part span number params ret args)
  unfolding called_part call_ruling
  called_used number params ret args h = found_used flags count span (ruled (all_fit params args) (returned ret)) _
      (λ ty e. call_only number (all_made args) (fit_only flags count params args (cond_some (all_fit params args) (Some (returned ret)) (known.Value ty) e).0 h))

  pub call_used : (t : Option Thing) (args : List Found) → AreUsed flags count args → Used (call_part span t args)
  unfolding call_part
  call_used None args h = tt
  call_used (Some (thing.Global n ty)) args h = tt
  call_used (Some (thing.Local n ty)) args h = tt
  call_used (Some (thing.Func number params ret)) args h = called_used number params ret (given_to params args) (given_all flags count params args h)

  print_list : (n : ℕ) (es : Option (List Expr)) → ListOnly flags count es → KindOnly flags (option_map (print_of n) es)
  print_list n None h = tt
  print_list n (Some es) h = λ s ty. only_by flags (typed s ty (Print n es)) _ (print_use flags s ty n es) h

  print_only : (text : Text) (args : List Found) → ListOnly flags count (all_made args) → KindOnly flags (print_kind text args)
  unfolding print_kind
  print_only text args h = at (is_short text.takes)
    where
      at : (b : Bool) → KindOnly flags (cond b (option_map (print_of text.number) (all_made args)) None)
      at true = print_list text.number (all_made args) h
      at false = tt

  numbers_are : (text : Text) (args : List Found) (ty : Ty) → print_ruling text.takes args ≡ Some (known.Value ty) → all_numbers args ≡ true
  unfolding print_ruling
  numbers_are text args ty e = and_right (so_many text.takes (length args)) _ (cond_some (so_many text.takes (length args) && all_numbers args) _ (known.Value ty) e).0

  pub print_used : (text : Text) (args : List Found) → AreUsed flags count args → Used (print_part span (Some text) args)
  unfolding print_part
  print_used text args h = found_used flags count span (print_ruling text.takes args) _
      (λ ty e. print_only text args (numbers_only flags count args (numbers_are text args ty e) h))
