-- What each rule of expressions gives.
use Rattle.std.proofs.Common.{◌≡◌, ℕ, [], ◌∷◌, map, Bool, true, false, refl, subst}
use Rattle.std.specs.Prelude.{IsTrue, is_some, Option, Some, None, option_and_then}
use Rattle.xc_text_place.specs.declared.Span.{Span}
use Rattle.xc_lex.specs.declared.number.Number.{Number}
use Rattle.xc_tree.specs.declared.ty.Ty.{Ty}
use Rattle.xc_raw.specs.declared.rule.Rule.{Rule}
use Rattle.xc_raw.specs.declared.rule.Rule.TheVariants as rule
use Rattle.xc_raw.specs.declared.rule.Level.{Level}
use Rattle.xc_raw.specs.declared.tree.Raw.{Raw, out-Raw}
use Rattle.xc_raw.specs.declared.word.Word.{Word}
use Rattle.xc_raw.specs.declared.word.Word.TheVariants as word
use Rattle.xc_raw.specs.declared.word.Literal.TheVariants as literal
use Rattle.xc_raw.specs.declared.word.Access.TheVariants as access
use Rattle.xc_type_rule.specs.declared.found.Found.{Found}
use Rattle.xc_type_rule.specs.Least.{type_fault}
use Rattle.xc_type_literals.specs.Constants.{constant_at}
use Rattle.xc_type_rule_operators.specs.declared.logic.Logic.TheVariants as logic
use Rattle.xc_raw_parts.specs.declared.operators.Operator.{Operator}
use Rattle.xc_raw_parts.specs.declared.operators.Operator.TheVariants as operator
use Rattle.xc_raw_parts.specs.declared.operators.Assignment.{Assignment}
use Rattle.xc_raw_parts.specs.declared.operators.Assignment.TheVariants as assignment
use Rattle.xc_raw_parts.specs.declared.operators.Prefix.{Prefix}
use Rattle.xc_raw_parts.specs.declared.operators.Prefix.TheVariants as prefix
use Rattle.xc_raw_parts.specs.declared.operators.Suffix.{Suffix}
use Rattle.xc_raw_parts.specs.declared.operators.Suffix.TheVariants as suffix
use Rattle.xc_raw_parts.specs.Operators.{step_op, binary_operator, assign_operator}
use Rattle.xc_raw_parts.specs.Spans.{word_at}
use Rattle.xc_type_scopes.specs.declared.env.Env.{Env}
use Rattle.xc_type_scopes.specs.Judge.{Judge, and_then}
use Rattle.xc_type_scopes.specs.Told.{anywhere}
use Rattle.xc_type_expressions.specs.declared.text.Text.{Text}
use Rattle.xc_type_expressions.specs.Roles.{value}
use Rattle.xc_type_expressions.specs.Places.{name_of, named, constant, of_word}
use Rattle.xc_type_expressions.specs.Operations.{prefixed, operated, between, assigned_by, assigned, cast_to}
use Rattle.xc_type_expressions.specs.Judged.{judged, span_in, spot_in, member_in_text, has_stars, prefix_in, suffix_in, takes_value, with_none, suffixed, with_one, element, with_two, with_three, operand, by_parts, casted, is_call}
use Rattle.xc_welltyped_claims.specs.Lists.{Each}
use Rattle.xc_welltyped_claims.specs.Env.{Good}
use Rattle.xc_welltyped_claims.specs.Judges.{Clean, Given, Gives}
use Rattle.xc_welltyped_claims.specs.Found.{Fine}
use Rattle.xc_welltyped_claims.specs.Shaped.{literal_in, is_primary, postfix_ok, IsLexed, Spoken}
use Rattle.xc_welltyped_claims.specs.Roles.{IsBase}
use Rattle.xc_welltyped_claims.proofs.Env.{fine_behind}
use Rattle.xc_welltyped_claims.proofs.Judges.{clean_first, clean_second, given_self, given_then, gives_then}
use Rattle.xc_welltyped_expressions.proofs.Passing.{role_passing, passing_value, passing_one, passing_two}
use Rattle.xc_welltyped_expressions.proofs.Operators.{number_fine, grouped_fine, plus_fine, unary_fine, cast_fine, binary_fine, logical_fine, comma_fine, conditional_fine, assign_fine, update_fine, step_fine}
use Rattle.xc_welltyped_expressions.proofs.Names.{named_fine}
use Rattle.xc_welltyped_expressions.proofs.Places.{star_fine, indexed_fine, dotted_fine, arrowed_fine, address_fine}
use Rattle.xc_welltyped_expressions.proofs.Parts.{IsPart, value_fine}
use Rattle.xc_welltyped_expressions.proofs.Calls.{IsAlone, only, no_text}

module _ (t : Text) (node : Raw) where
  abbrev span : Span
  span = span_in t node

  -- what a judge gives where it stands
  abbrev pub Gives_here : Judge Found → Env → Type 0
  Gives_here j e = Given e (j e).env (Fine t (j e).env (j e).part)

  -- tokens --------------------------------------------------------------------------------

  module _ (lexed : IsLexed t) (a : IsAlone node (out-Raw node).first) where
    abbrev token : ℕ
    token = (out-Raw node).first

    spoken_name : (name : ℕ) → name_of t token ≡ Some name → Spoken t node
    spoken_name name n x l low lt i = absurd (no_text t lexed node token name l n (subst (λ k. literal_in t k ≡ Some l) (only t lexed node token x a low lt) i))

    spoken_number : word_at t.source.now t.tokens.now token ≡ word.Literal literal.Number → Spoken t node
    spoken_number is x l low lt i =
        let text = (lexed.literals token l (subst (λ k. literal_in t k ≡ Some l) (only t lexed node token x a low lt) i)).word in absurd cc

    name_given : (o : Option ℕ) → name_of t token ≡ o → IsTrue (is_some o) → Gives (λ e f. Fine t e f × Spoken t node) (named span o)
    name_given None n h = absurd cc
    name_given (Some name) n h = λ e g c. let b = named_fine t span name e g c in record { good = b.good; stays = b.stays; holds = (b.holds, spoken_name name n) }

    number_given : (o : Option Number) → IsTrue (is_some o) → word_at t.source.now t.tokens.now token ≡ word.Literal literal.Number → Gives (λ e f. Fine t e f × Spoken t node) (anywhere (constant span o))
    number_given None h is = absurd cc
    number_given (Some n) h is = λ e g c. given_self e _ g (number_fine t e span n.value n.unsigned, spoken_number is)

    word_given : (w : Word) → word_at t.source.now t.tokens.now token ≡ w → IsTrue (is_primary t token w) → Gives (λ e f. Fine t e f × Spoken t node) (of_word t span token w)
    unfolding of_word
    word_given word.Name is h = name_given (name_of t token) refl h
    word_given (word.Literal literal.Number) is h = number_given (constant_at t.texts.now.constants.items token) h is
    word_given _ is h = λ e g c. let none : type_fault span ≡ [] = c.faultless in absurd cc

    pub token_given : IsTrue (is_primary t token (word_at t.source.now t.tokens.now token)) → Gives (λ e f. Fine t e f × Spoken t node) (by_parts t node rule.Prim [])
    unfolding by_parts with_none
    token_given h = word_given (word_at t.source.now t.tokens.now token) refl h

  -- one part --------------------------------------------------------------------------------

  pub operand_given : (b : Bool) (n : Raw) → IsPart t n → Gives (λ e f. Fine t e f × Spoken t n) (operand b (judged t n))
  operand_given true n h = value_fine t n (judged t n) h.found
  operand_given false n h = h.found

  pub one_given : (r : Rule) (n : Raw) → IsPart t n → ((a : Found) (e : Env) → Good e → Fine t e a → Clean (with_one t node r a) e → Gives_here (with_one t node r a) e) →
      Gives (λ e f. Fine t e f × Each (Spoken t) (n ∷ [])) (by_parts t node r (map (judged t) (n ∷ [])))
  unfolding by_parts
  one_given r n h k = gives_then (λ e a. Fine t e a × Spoken t n) (λ e f. Fine t e f × Each (Spoken t) (n ∷ [])) (operand (takes_value t node r) (judged t n)) (with_one t node r)
      (passing_one t node r) (operand_given (takes_value t node r) n h)
      (λ a e g h c. let b = k a e g h.0 c in record { good = b.good; stays = b.stays; holds = (b.holds, (h.1, tt)) })

  pub grouped_given : (a : Found) (e : Env) → Good e → Fine t e a → Clean (with_one t node rule.Prim a) e → Gives_here (with_one t node rule.Prim a) e
  unfolding with_one
  grouped_given a e g h c = given_self e _ g (grouped_fine t e span a h)

  prefixed_given : (o : Option Prefix) → IsTrue (is_some o) → (a : Found) (e : Env) → Good e → Fine t e a → Clean (prefixed span o a) e → Gives_here (prefixed span o a) e
  unfolding prefixed
  prefixed_given None s a e g h c = absurd cc
  prefixed_given (Some (prefix.Step st)) s a e g h c = given_self e _ g (step_fine t e span (step_op st) false a h c.faultless)
  prefixed_given (Some prefix.Address) s a e g h c = address_fine t span a e g h c.faultless
  prefixed_given (Some prefix.Star) s a e g h c = given_self e _ g (star_fine t span a e g h c.faultless)
  prefixed_given (Some prefix.Plus) s a e g h c = given_self e _ g (plus_fine t e span a h c.faultless)
  prefixed_given (Some (prefix.Value o)) s a e g h c = given_self e _ g (unary_fine t e span o a h c.faultless)

  pub unary_given : IsTrue (is_some (prefix_in t node)) → (a : Found) (e : Env) → Good e → Fine t e a → Clean (with_one t node rule.Unary a) e → Gives_here (with_one t node rule.Unary a) e
  unfolding with_one
  unary_given s a e g h c = prefixed_given (prefix_in t node) s a e g h c

  suffixed_given : (o : Option Suffix) → IsTrue (postfix_ok o []) → is_call o ≡ false → (a : Found) (e : Env) → Good e → Fine t e a → Clean (suffixed t node o a) e → Gives_here (suffixed t node o a) e
  unfolding suffixed
  suffixed_given None s n a e g h c = absurd cc
  suffixed_given (Some suffix.Index) s n a e g h c = absurd cc
  suffixed_given (Some suffix.Call) s n a e g h c = absurd cc
  suffixed_given (Some (suffix.Access access.Dot)) s n a e g h c =
      dotted_fine t span (spot_in t (member_in_text t node)) (option_and_then (name_of t) (member_in_text t node)) a e g h c
  suffixed_given (Some (suffix.Access access.Arrow)) s n a e g h c =
      arrowed_fine t span (spot_in t (member_in_text t node)) (option_and_then (name_of t) (member_in_text t node)) a e g h c
  suffixed_given (Some (suffix.Step st)) s n a e g h c = given_self e _ g (step_fine t e span (step_op st) true a h c.faultless)

  pub postfix_given : IsTrue (postfix_ok (suffix_in t node) []) → is_call (suffix_in t node) ≡ false → (a : Found) (e : Env) → Good e → Fine t e a → Clean (with_one t node rule.Postfix a) e → Gives_here (with_one t node rule.Postfix a) e
  unfolding with_one
  postfix_given s n a e g h c = suffixed_given (suffix_in t node) s n a e g h c

  -- two parts -------------------------------------------------------------------------------

  pub two_given : (r : Rule) (n m : Raw) → IsPart t n → IsPart t m →
      ((a b : Found) (e : Env) → Good e → Fine t e a → Fine t e b → Clean (with_two t node r (judged t n).span a b) e → Gives_here (with_two t node r (judged t n).span a b) e) →
      Gives (λ e f. Fine t e f × Each (Spoken t) (n ∷ m ∷ [])) (by_parts t node r (map (judged t) (n ∷ m ∷ [])))
  unfolding by_parts
  two_given r n m hn hm k e g c =
      let j : Judge Found = operand (takes_value t node r) (judged t n) in
      let i : Judge Found = value (judged t m) in
      let w : Found → Found → Judge Found = with_two t node r (judged t n).span in
      let q : Found → Judge Found = λ x. and_then i (w x) in
      let a = operand_given (takes_value t node r) n hn e g (clean_first j q e c (λ x e h. passing_value (judged t m) (role_passing t m).found e (passing_two t node r (judged t n).span x (i e).part (i e).env h))) in
      let d = clean_second j q e c in
      let b = value_fine t m (judged t m) hm.found (j e).env a.good (clean_first i (w (j e).part) (j e).env d (passing_two t node r (judged t n).span (j e).part)) in
      let v : Env = (i (j e).env).env in
      let x = k (j e).part (i (j e).env).part v b.good (fine_behind t (j e).env v b.stays (j e).part a.holds.0) b.holds.0 (clean_second i (w (j e).part) (j e).env d) in
      given_then e (j e).env _ _ _ a (given_then (j e).env v _ _ _ b (record { good = x.good; stays = x.stays; holds = (x.holds, (a.holds.1, (b.holds.1, tt))) }))

  element_given : (o : Option Suffix) → (n : Raw) → IsTrue (postfix_ok o (n ∷ [])) → is_call o ≡ false → (at : Span) (a b : Found) (e : Env) → Good e → Fine t e a → Fine t e b → Clean (element span at o a b) e → Gives_here (element span at o a b) e
  unfolding element
  element_given None m s n at a b e g h k c = absurd cc
  element_given (Some suffix.Index) m s n at a b e g h k c = indexed_fine t span at a b e g h k c
  element_given (Some suffix.Call) m s n at a b e g h k c = absurd cc
  element_given (Some (suffix.Access x)) m s n at a b e g h k c = absurd cc
  element_given (Some (suffix.Step x)) m s n at a b e g h k c = absurd cc

  pub index_given : (n : Raw) → IsTrue (postfix_ok (suffix_in t node) (n ∷ [])) → is_call (suffix_in t node) ≡ false → (at : Span) (a b : Found) (e : Env) → Good e → Fine t e a → Fine t e b →
      Clean (with_two t node rule.Postfix at a b) e → Gives_here (with_two t node rule.Postfix at a b) e
  unfolding with_two
  index_given m s n at a b e g h k c = element_given (suffix_in t node) m s n at a b e g h k c

  operated_fine : (o : Operator) (a b : Found) (e : Env) → Fine t e a → Fine t e b → (operated span o a b).faults ≡ [] → Fine t e (operated span o a b).part
  operated_fine (operator.Value o) a b e h k none = binary_fine t e span o a b h k none
  operated_fine operator.And a b e h k none = logical_fine t e span logic.And a b h k none
  operated_fine operator.Or a b e h k none = logical_fine t e span logic.Or a b h k none

  between_given : (o : Option Operator) → IsTrue (is_some o) → (a b : Found) (e : Env) → Good e → Fine t e a → Fine t e b → Clean (anywhere (between span o a b)) e → Gives_here (anywhere (between span o a b)) e
  unfolding between
  between_given None s a b e g h k c = absurd cc
  between_given (Some o) s a b e g h k c = given_self e _ g (operated_fine o a b e h k c.faultless)

  module _ (at : Span) (a b : Found) (e : Env) (g : Good e) (h : Fine t e a) (k : Fine t e b) where
    pub binary_given : (level : Level) → IsTrue (is_some (binary_operator t.source.now t.tokens.now node)) → Clean (with_two t node (rule.Binary level) at a b) e → Gives_here (with_two t node (rule.Binary level) at a b) e
    unfolding with_two
    binary_given level s c = between_given (binary_operator t.source.now t.tokens.now node) s a b e g h k c

    assigned_fine : (o : Assignment) → (assigned_by span o a b).faults ≡ [] → Fine t e (assigned_by span o a b).part
    assigned_fine assignment.Plain none = assign_fine t e span a b h k none
    assigned_fine (assignment.With o) none = update_fine t e span o false a b h k none

    assigned_given : (o : Option Assignment) → IsTrue (is_some o) → Clean (anywhere (assigned span o a b)) e → Gives_here (anywhere (assigned span o a b)) e
    unfolding assigned
    assigned_given None s c = absurd cc
    assigned_given (Some o) s c = given_self e _ g (assigned_fine o c.faultless)

    pub assign_given : IsTrue (is_some (assign_operator t.source.now t.tokens.now node)) → Clean (with_two t node rule.Assign at a b) e → Gives_here (with_two t node rule.Assign at a b) e
    unfolding with_two
    assign_given s c = assigned_given (assign_operator t.source.now t.tokens.now node) s c

    pub comma_given : Clean (with_two t node rule.Comma at a b) e → Gives_here (with_two t node rule.Comma at a b) e
    unfolding with_two
    comma_given c = given_self e _ g (comma_fine t e span a b h k c.faultless)

  -- three parts -------------------------------------------------------------------------------

  pub cond_given : (n m l : Raw) → IsPart t n → IsPart t m → IsPart t l →
      Gives (λ e f. Fine t e f × Each (Spoken t) (n ∷ m ∷ l ∷ [])) (by_parts t node rule.Cond (map (judged t) (n ∷ m ∷ l ∷ [])))
  unfolding by_parts with_three
  cond_given n m l hn hm hl e g c =
      let i : Judge Found = value (judged t n) in
      let j : Judge Found = value (judged t m) in
      let k : Judge Found = value (judged t l) in
      let last : Found → Found → Found → Judge Found = λ x y z. anywhere (with_three t node rule.Cond x y z) in
      let q : Found → Found → Judge Found = λ x y. and_then k (last x y) in
      let p : Found → Judge Found = λ x. and_then j (q x) in
      let a = value_fine t n (judged t n) hn.found e g (clean_first i p e c (λ x e h. passing_value (judged t m) (role_passing t m).found e (passing_value (judged t l) (role_passing t l).found (j e).env h))) in
      let c1 = clean_second i p e c in
      let u : Env = (i e).env in
      let b = value_fine t m (judged t m) hm.found u a.good (clean_first j (q (i e).part) u c1 (λ y e h. passing_value (judged t l) (role_passing t l).found e h)) in
      let c2 = clean_second j (q (i e).part) u c1 in
      let v : Env = (j u).env in
      let d = value_fine t l (judged t l) hl.found v b.good (clean_first k (last (i e).part (j u).part) v c2 (λ z e h. h)) in
      let w : Env = (k v).env in
      let x : Fine t w (i e).part = fine_behind t v w d.stays (i e).part (fine_behind t u v b.stays (i e).part a.holds.0) in
      let y : Fine t w (j u).part = fine_behind t v w d.stays (j u).part b.holds.0 in
      let f = conditional_fine t w span (i e).part (j u).part (k v).part x y d.holds.0 (clean_second k (last (i e).part (j u).part) v c2).faultless in
      given_then e u _ _ _ a (given_then u v _ _ _ b (record { good = d.good; stays = d.stays; holds = (f, (a.holds.1, (b.holds.1, (d.holds.1, tt)))) }))

  -- casts ---------------------------------------------------------------------------------------

  cast_to_fine : (stars : Bool) (ty : Option Ty) (to : Ty) → ty ≡ Some to → (a : Found) (e : Env) → Fine t e a → (cast_to span stars ty a).faults ≡ [] → Fine t e (cast_to span stars ty a).part
  cast_to_fine true ty to is a e h none = absurd cc
  cast_to_fine false None to is a e h none = absurd cc
  cast_to_fine false (Some ty) to is a e h none = cast_fine t e span ty a h none

  pub cast_given : (s n : Raw) → Gives (λ e ty. IsBase e ty × Spoken t s) ((judged t s).specified false) → IsPart t n →
      Gives (λ e f. Fine t e f × Each (Spoken t) (s ∷ n ∷ [])) (casted t node (map (judged t) (s ∷ n ∷ [])))
  unfolding casted
  cast_given s n hs hn e g c =
      let i : Judge (Option Ty) = (judged t s).specified false in
      let j : Judge Found = value (judged t n) in
      let last : Option Ty → Found → Judge Found = λ ty v. anywhere (cast_to span (has_stars t node) ty v) in
      let p : Option Ty → Judge Found = λ ty. and_then j (last ty) in
      let a = hs e g (clean_first i p e c (λ x e h. passing_value (judged t n) (role_passing t n).found e h)) in
      let c1 = clean_second i p e c in
      let u : Env = (i e).env in
      let b = value_fine t n (judged t n) hn.found u a.good (clean_first j (last (i e).part) u c1 (λ y e h. h)) in
      let v : Env = (j u).env in
      let f = cast_to_fine (has_stars t node) (i e).part a.holds.0.ty a.holds.0.known (j u).part v b.holds.0 (clean_second j (last (i e).part) u c1).faultless in
      given_then e u _ _ _ a (record { good = b.good; stays = b.stays; holds = (f, (a.holds.1, (b.holds.1, tt))) })
