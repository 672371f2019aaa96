-- Nodes that are calls.
use Rattle.std.proofs.Common.{◌≡◌, ℕ, List, [], ◌∷◌, map, length, Bool, true, false, refl, sym, ◌∙◌, subst}
use Rattle.std.specs.Prelude.{IsTrue, nat_lt, is_some, cond, Option, Some, None, option_map, option_and_then, slice_get}
use Rattle.std.proofs.lemmas.Bool.{lt-ltb}
use Rattle.std.proofs.lemmas.Option.{slice_get_within}
use Rattle.xc_text_place.specs.declared.Span.{Span}
use Rattle.xc_tree.specs.Lists.{passes}
use Rattle.xc_raw.specs.declared.tree.Raw.{Raw}
use Rattle.xc_type_rule.specs.declared.found.Found.{Found}
use Rattle.xc_type_rule.specs.Least.{type_fault}
use Rattle.xc_type_names.specs.Numbered.{reserved_of}
use Rattle.xc_type_literals.specs.declared.texts.Literal.{Literal}
use Rattle.xc_type_rule_calls.specs.declared.print.Text.{Text as Printed}
use Rattle.xc_type_rule_calls.specs.Prints.{print_part, print_faults, format_faults, ninth_of}
use Rattle.xc_welltyped_rules.specs.Callees.{IsText, TakesSo}
use Rattle.xc_welltyped_rules.proofs.Calls.{print_sound}
use Rattle.xc_welltyped_rules.proofs.CallsWhole.{print_whole}
use Rattle.xc_welltyped_locals.proofs.SeenCalls.{print_seen}
use Rattle.xc_type_scopes.specs.declared.env.Env.{Env}
use Rattle.xc_type_scopes.specs.Env.{with_over, least_place}
use Rattle.xc_type_scopes.specs.Judge.{Judge, and_then}
use Rattle.xc_type_scopes.specs.Told.{anywhere}
use Rattle.xc_type_expressions.specs.declared.text.Text.{Text}
use Rattle.xc_type_expressions.specs.Roles.{Role, value, values}
use Rattle.xc_type_expressions.specs.Calls.{misused, printing, printed_text, text_of, named_by, is_printf, format_of, calling, applied_by, applied, spans_of, called_by, called}
use Rattle.xc_type_expressions.specs.Judged.{judged}
use Rattle.xc_welltyped.specs.Sound.{Point}
use Rattle.xc_welltyped_locals.proofs.UsedCalls.{print_used}
use Rattle.xc_welltyped_claims.specs.Lists.{Each}
use Rattle.xc_welltyped_claims.specs.Env.{Good, Stays, At}
use Rattle.xc_welltyped_claims.specs.Judges.{Clean, Given, Gives}
use Rattle.xc_welltyped_claims.specs.Found.{Fine, AreFine}
use Rattle.xc_welltyped_claims.specs.Shaped.{literal_in, IsLexed, IsLiteral, Spoken}
use Rattle.xc_welltyped_claims.proofs.Env.{grows_self, fine_behind}
use Rattle.xc_welltyped_claims.proofs.Lists.{starts_self, set_self}
use Rattle.xc_welltyped_claims.proofs.Judges.{none_left, clean_first, clean_second, given_then, gives_then}
use Rattle.xc_welltyped_expressions.proofs.Passing.{passing_calling, passing_printing}
use Rattle.xc_welltyped_expressions.proofs.Parts.{IsPart, map_many, each_many, values_fine, all_whole, all_sound, all_seen, all_used}
use Rattle.xc_welltyped_expressions.proofs.Calls.{calling_fine, named_spoken, format_spoken}

-- counts --------------------------------------------------------------------------------

none_second : (a b : Option ℕ) → least_place a b ≡ None → b ≡ None
none_second a None e = refl
none_second None (Some b) e = e
none_second (Some a) (Some b) e = absurd cc

over_good : (o : Option ℕ) (e : Env) → Good e → Good (with_over o e)
over_good o e g = record {
  table = g.table;
  layout = g.layout;
  file = g.file;
  own = g.own;
  file_tags = g.file_tags;
  own_tags = g.own_tags;
  locals = g.locals;
  marks = g.marks;
}

over_stays : (o : Option ℕ) (e : Env) → Stays e (with_over o e)
over_stays o e = record {
  file = refl;
  own = refl;
  own_tags = refl;
  structs = grows_self e.structs;
  layout = starts_self e.layout.members;
  locals = refl;
  addressed = set_self e.addressed;
  loops = refl;
}

-- texts ---------------------------------------------------------------------------------

-- the text of a string literal
pub record IsTextOf (t : Text) (p : Raw) (text : Printed) : Type 0 where
  pub token : ℕ
  pub literal : Literal
  pub alone : (judged t p).alone ≡ Some token
  pub found : literal_in t token ≡ Some literal
  pub same : printed_text t token literal ≡ text

takes_some : (text : Printed) → format_faults text ≡ [] → IsTrue (is_some text.takes)
takes_some text none = by text.takes none
  where
    by : (o : Option ℕ) → cond (passes (λ n. true) o) [] (type_fault text.span) ≡ [] → IsTrue (is_some o)
    by None e = absurd cc
    by (Some n) e = refl

takes_there : (span : Span) (text : Printed) (vs : List Found) → print_faults span (Some text) vs ≡ [] → IsTrue (is_some text.takes)
unfolding print_faults
takes_there span text vs none = takes_some text (none_left (format_faults text) _ none)

module _ (t : Text) (lexed : IsLexed t) where
  -- the program has it
  text_there : (token : ℕ) (l : Literal) → literal_in t token ≡ Some l → (so : Point) (e : Env) → At t so e → IsText so.cx (printed_text t token l)
  text_there token l i so e a =
      let is : IsLiteral t token l = lexed.literals token l i in
      record {
        named = subst (λ fs. IsTrue (nat_lt l.number (length fs))) (sym a.into.formats)
            (lt-ltb l.number (length t.texts.now.formats) (slice_get_within t.texts.now.formats l.number is.bytes is.numbered));
        takes = subst (λ fs. TakesSo l.takes (slice_get fs l.number)) (sym a.into.formats) (subst (λ o. TakesSo l.takes o) (sym is.numbered) is.takes);
      }

  text_at : (p : Raw) (text : Printed) (o : Option ℕ) → (judged t p).alone ≡ o → option_and_then (λ token. option_map (printed_text t token) (literal_in t token)) o ≡ Some text → IsTextOf t p text
  text_at p text None is h = absurd cc
  text_at p text (Some token) is h = by (literal_in t token) refl h
    where
      by : (l : Option Literal) → literal_in t token ≡ l → option_map (printed_text t token) l ≡ Some text → IsTextOf t p text
      by None i same = absurd cc
      by (Some l) i same = record { token = token; literal = l; alone = is; found = i; same = let one : printed_text t token l ≡ text = cc in one }

  text_is : (p : Raw) (text : Printed) → text_of t (judged t p) ≡ Some text → IsTextOf t p text
  text_is p text h = text_at p text (judged t p).alone refl h

  module _ (span : Span) where
    -- `printf` ----------------------------------------------------------------------------

    print_fine : (token : ℕ) (l : Literal) → literal_in t token ≡ Some l → (spans : List Span) (vs : List Found) (e : Env) → AreFine t e vs → length spans ≡ length vs →
        ninth_of (Some (printed_text t token l)) spans ≡ None → print_faults span (Some (printed_text t token l)) vs ≡ [] → Fine t e (print_part span (Some (printed_text t token l)) vs)
    print_fine token l i spans vs e h many ninth none = record {
      whole = print_whole span (printed_text t token l) vs spans (all_whole t e vs h) none many ninth;
      sound = λ so a. print_sound so span (printed_text t token l) vs (text_there token l i so e a) (all_sound t e so a vs h);
      seen = λ seen c. print_seen seen span (Some (printed_text t token l)) vs (all_seen t e seen c vs h);
      used = λ flags m. print_used flags (length e.locals) span (printed_text t token l) vs (all_used t e flags m vs h);
    }

    printing_fine : (token : ℕ) (l : Literal) → literal_in t token ≡ Some l → (spans : List Span) (vs : List Found) (e : Env) → Good e → AreFine t e vs → length spans ≡ length vs →
        Clean (printing span (printed_text t token l) spans vs) e →
        Given e (printing span (printed_text t token l) spans vs e).env (Fine t (printing span (printed_text t token l) spans vs e).env (printing span (printed_text t token l) spans vs e).part × IsTrue (is_some l.takes))
    printing_fine token l i spans vs e g h many c =
        let o = ninth_of (Some (printed_text t token l)) spans in
        record {
          good = over_good o e g;
          stays = over_stays o e;
          holds = (
            fine_behind t e (with_over o e) (over_stays o e) _ (print_fine token l i spans vs e h many (none_second e.over o c.within) c.faultless),
            takes_there span (printed_text t token l) vs c.faultless,
          );
        }

    module _ (f : Raw) (hf : IsPart t f) where
      -- by a name -------------------------------------------------------------------------

      applied_by_fine : (args : List Raw) → Each (IsPart t) args → (o : Option ℕ) → named_by t (judged t f) ≡ o →
          Gives (λ e x. Fine t e x × Each (Spoken t) (f ∷ args)) (applied_by span (judged t f) (map (judged t) args) o)
      applied_by_fine args hs None is = λ e g c.
          let j = (judged t f).found in
          let k : Found → Judge Found = λ x. and_then (values (map (judged t) args)) (λ vs. anywhere (misused span)) in
          let a = clean_second j k e c in
          let b = clean_second (values (map (judged t) args)) (λ vs. anywhere (misused span)) (j e).env a in
          absurd (let none : type_fault span ≡ [] = b.faultless in cc)
      applied_by_fine args hs (Some name) is = gives_then (λ e vs. AreFine t e vs × Each (Spoken t) args) (λ e x. Fine t e x × Each (Spoken t) (f ∷ args))
          (values (map (judged t) args)) (calling span (judged t f).span name (reserved_of name)) (λ vs. passing_calling span (judged t f).span name (reserved_of name) vs)
          (values_fine t args hs)
          (λ vs e g h c. let b = calling_fine t e g span (judged t f).span name (reserved_of name) vs h.0 c in
          record { good = b.good; stays = b.stays; holds = (b.holds, (named_spoken t lexed f hf.shaped (judged t f).alone refl name is, h.1)) })

      applied_fine : (args : List Raw) → Each (IsPart t) args → Gives (λ e x. Fine t e x × Each (Spoken t) (f ∷ args)) (applied t span (map (judged t) (f ∷ args)))
      unfolding applied
      applied_fine args hs = applied_by_fine args hs (named_by t (judged t f)) refl

      module _ (p : Raw) (hp : IsPart t p) (rest : List Raw) (hs : Each (IsPart t) rest) where
        -- by `printf` and a text ----------------------------------------------------------

        text_fine : (text : Printed) → IsTextOf t p text → Spoken t f →
            Gives (λ e x. Fine t e x × Each (Spoken t) (f ∷ p ∷ rest)) (and_then (values (map (judged t) rest)) (printing span text (spans_of (map (judged t) rest))))
        text_fine text is spoken = subst (λ x. Gives (λ e y. Fine t e y × Each (Spoken t) (f ∷ p ∷ rest)) (and_then (values (map (judged t) rest)) (printing span x (spans_of (map (judged t) rest))))) is.same
            (λ e g c.
            let x : Printed = printed_text t is.token is.literal in
            let j : Judge (List Found) = values (map (judged t) rest) in
            let spans : List Span = spans_of (map (judged t) rest) in
            let k : List Found → Judge Found = printing span x spans in
            let a = values_fine t rest hs e g (clean_first j k e c (λ vs. passing_printing span x spans vs)) in
            let many : length spans ≡ length (j e).part = map_many (λ (r : Role). r.span) (map (judged t) rest) ∙ sym (map_many value (map (judged t) rest)) ∙ sym (each_many (map value (map (judged t) rest)) e) in
            let b = printing_fine is.token is.literal is.found spans (j e).part (j e).env a.good a.holds.0 many (clean_second j k e c) in
            given_then e (j e).env _ _ _ a (record { good = b.good; stays = b.stays; holds = (b.holds.0, (spoken, (format_spoken t lexed p hp.shaped is.token is.literal is.alone is.found b.holds.1, a.holds.1))) }))

        called_by_fine : (o : Option Printed) → format_of t (judged t f) (judged t p) ≡ o →
            Gives (λ e x. Fine t e x × Each (Spoken t) (f ∷ p ∷ rest)) (called_by t span (map (judged t) (f ∷ p ∷ rest)) (map (judged t) rest) o)
        called_by_fine None is = applied_fine (p ∷ rest) (hp, hs)
        called_by_fine (Some text) is = by (named_by t (judged t f)) refl is
          where
            printed : (b : Bool) → cond b (text_of t (judged t p)) None ≡ Some text → text_of t (judged t p) ≡ Some text
            printed true h = h
            printed false h = absurd cc

            by : (o : Option ℕ) → named_by t (judged t f) ≡ o → cond (is_printf (option_and_then reserved_of o)) (text_of t (judged t p)) None ≡ Some text →
                Gives (λ e x. Fine t e x × Each (Spoken t) (f ∷ p ∷ rest)) (and_then (values (map (judged t) rest)) (printing span text (spans_of (map (judged t) rest))))
            by None n h = absurd cc
            by (Some name) n h = text_fine text (text_is p text (printed (is_printf (reserved_of name)) h)) (named_spoken t lexed f hf.shaped (judged t f).alone refl name n)

    pub called_fine : (f : Raw) → IsPart t f → (args : List Raw) → Each (IsPart t) args → Gives (λ e x. Fine t e x × Each (Spoken t) (f ∷ args)) (called t span (map (judged t) (f ∷ args)))
    unfolding called
    called_fine f hf [] hs = applied_fine f hf [] hs
    called_fine f hf (p ∷ rest) hs = called_by_fine f hf p hs.0 rest hs.1 (format_of t (judged t f) (judged t p)) refl
