-- Members without faults.
use Rattle.std.proofs.Common.{◌≡◌, ℕ, List, [], ◌∷◌, ◌++◌, map, Bool, true, false, refl, sym, subst}
use Rattle.std.specs.Prelude.{IsTrue, is_some, is_none, if◌then◌else◌, ⊤, Option, Some, None}
use Rattle.xc_text_place.specs.declared.Span.{Span}
use Rattle.xc_tree.specs.declared.ty.Ty.{Ty}
use Rattle.xc_tree.proofs.Lists.{and_left, and_right}
use Rattle.xc_raw.specs.declared.rule.Rule.TheVariants as rule
use Rattle.xc_raw.specs.declared.tree.Raw.{Raw}
use Rattle.xc_type_rule.specs.declared.found.Member.{Member}
use Rattle.xc_type_rule.specs.Members.{member_named}
use Rattle.xc_type_structs.specs.Members.{added}
use Rattle.xc_type_scopes.specs.declared.env.Env.{Env}
use Rattle.xc_type_scopes.specs.Judge.{Judge, give, and_then, each}
use Rattle.xc_type_expressions.specs.declared.text.Text.{Text}
use Rattle.xc_type_expressions.specs.declared.types.Declared.{Declared}
use Rattle.xc_type_expressions.specs.Roles.{Role}
use Rattle.xc_type_expressions.specs.Types.{members, name_fault_unless, member_with, with_declared, declared_member, declared_all, member_by}
use Rattle.xc_type_expressions.specs.Judged.{judged}
use Rattle.xc_welltyped_claims.specs.Lists.{Each, StartsWith}
use Rattle.xc_welltyped_claims.specs.Types.{will_be_object}
use Rattle.xc_welltyped_claims.specs.Table.{has_members}
use Rattle.xc_welltyped_claims.specs.Env.{Good, Stays}
use Rattle.xc_welltyped_claims.specs.Judges.{Clean, Passing, Given, Gives, Lasts}
use Rattle.xc_welltyped_claims.specs.Shaped.{rule_in, is_specs, is_member, is_declr, all_of, level_ok, Spoken}
use Rattle.xc_welltyped_claims.specs.Roles.{IsBase}
use Rattle.xc_welltyped_claims.proofs.Env.{grows_self, stays_then}
use Rattle.xc_welltyped_claims.proofs.Lists.{starts_self, starts_more, set_self}
use Rattle.xc_welltyped_claims.proofs.Judges.{clean_first, clean_second, given_self, given_then, passing_give, passing_then, passing_each}
use Rattle.xc_welltyped_structs.proofs.Places.{good_member}
use Rattle.xc_welltyped_expressions.proofs.Passing.{all_passing, passing_all, passing_member_with, passing_declared_member}
use Rattle.xc_welltyped_expressions.proofs.Parts.{gives_parts}
use Rattle.xc_welltyped_expressions.proofs.Expressions.{IsJudged}
use Rattle.xc_welltyped_expressions.proofs.Bounds.{base_behind}

-- the struct at work has members
abbrev pub HasMembers : Env → Type 0
HasMembers e = IsTrue (has_members e.layout.members)

started_has : (xs ys : List Member) → StartsWith xs ys → IsTrue (has_members xs) → IsTrue (has_members ys)
started_has [] ys s h = absurd cc
started_has (x ∷ xs) ys s h = subst (λ l. IsTrue (has_members l)) (sym s.1) refl

pub members_behind : (e e' : Env) → Stays e e' → HasMembers e → HasMembers e'
members_behind e e' s h = started_has e.layout.members e'.layout.members s.layout h

-- one more --------------------------------------------------------------------------------

added_starts : (ms : List Member) (m : Member) → StartsWith ms (added ms m)
added_starts ms m = by (is_some (member_named m.name ms))
  where
    by : (b : Bool) → StartsWith ms (if b then ms else ms ++ m ∷ [])
    by true = starts_self ms
    by false = starts_more ms (m ∷ [])

ends_has : (ms : List Member) (m : Member) → IsTrue (has_members (ms ++ m ∷ []))
ends_has [] m = refl
ends_has (x ∷ ms) m = refl

added_has : (ms : List Member) (m : Member) → IsTrue (is_none (member_named m.name ms)) → IsTrue (has_members (added ms m))
added_has ms m h = by (member_named m.name ms) h
  where
    by : (o : Option Member) → IsTrue (is_none o) → IsTrue (has_members (if is_some o then ms else ms ++ m ∷ []))
    by None k = ends_has ms m
    by (Some x) k = absurd cc

pub unless_told : (b : Bool) (at : Span) → name_fault_unless b at ≡ [] → IsTrue b
unless_told true at none = refl
unless_told false at none = absurd cc

member_given : (at : Span) (o : Option Ty) (name : Option ℕ) (ty : Ty) → o ≡ Some ty → IsTrue (is_some name) → (e : Env) → Good e → IsTrue (will_be_object e.structs.sizes ty) → Clean (member_with at o name) e →
    Given e (member_with at o name e).env (HasMembers (member_with at o name e).env)
member_given at o None ty is s e g h c = absurd cc
member_given at None (Some name) ty is s e g h c = absurd cc
member_given at (Some u) (Some name) ty is s e g h c =
    let new : IsTrue (is_none (member_named name e.layout.members)) = unless_told (is_none (member_named name e.layout.members)) at c.faultless in
    let m : Member = record { name = name; off = e.layout.size; ty = Some u } in
    record {
      good = good_member e g name u new (subst (λ z. IsTrue (will_be_object e.structs.sizes z)) (let same : ty ≡ u = cc in same) h);
      stays = record {
        file = refl;
        own = refl;
        own_tags = refl;
        structs = grows_self e.structs;
        layout = added_starts e.layout.members m;
        locals = refl;
        addressed = set_self e.addressed;
        loops = refl;
      };
      holds = added_has e.layout.members m new;
    }

module _ (t : Text) where
  one_given : (d : Raw) → IsJudged t d → IsTrue (is_declr (rule_in d)) → (base : Option Ty) (e : Env) → Good e → IsBase e base → Clean (declared_member base (judged t d)) e →
      Given e (declared_member base (judged t d) e).env (HasMembers (declared_member base (judged t d) e).env × Spoken t d)
  unfolding declared_member
  one_given d h x base e g b c =
      let j : Judge Declared = (judged t d).declared base in
      let a = h.role.declared x base e g b (clean_first j with_declared e c (λ y. passing_member_with y.at y.ty y.name)) in
      let v : Env = (j e).env in
      let y : Declared = (j e).part in
      let m = member_given y.at y.ty y.name a.holds.0.ty a.holds.0.known a.holds.0.named v a.good a.holds.0.object (clean_second j with_declared e c) in
      given_then e v _ _ _ a (record { good = m.good; stays = m.stays; holds = (m.holds, a.holds.1) })

  abbrev declared_of : Option Ty → List Raw → List (Judge ⊤)
  declared_of base ds = map (declared_member base) (map (judged t) ds)

  declared_passing : (base : Option Ty) (ds : List Raw) → Passing (each (declared_of base ds))
  declared_passing base ds = passing_each (declared_of base ds) (passing_all (declared_member base) (passing_declared_member base) (map (judged t) ds) (all_passing t ds))

  -- a declarator makes a member
  abbrev HasIf : List Raw → Env → Type 0
  HasIf [] e = Unit {0}
  HasIf (d ∷ ds) e = HasMembers e

  all_given : (ds : List Raw) → Each (IsJudged t) ds → IsTrue (all_of is_declr ds) → (base : Option Ty) (e : Env) → Good e → IsBase e base → Clean (each (declared_of base ds)) e →
      Given e (each (declared_of base ds) e).env (HasIf ds (each (declared_of base ds) e).env × Each (Spoken t) ds)
  unfolding each
  all_given [] h x base e g b c = given_self e (Unit {0} × Unit {0}) g (tt, tt)
  all_given (d ∷ ds) h x base e g b c =
      let j : Judge ⊤ = declared_member base (judged t d) in
      let js : Judge (List ⊤) = each (declared_of base ds) in
      let k : ⊤ → Judge (List ⊤) = λ y. and_then js (λ ys. give (y ∷ ys) []) in
      let v : Env = (j e).env in
      let a = one_given d h.0 (and_left (is_declr (rule_in d)) _ x) base e g b (clean_first j k e c (λ y. passing_then js (λ ys. give (y ∷ ys) []) (declared_passing base ds) (λ ys. passing_give (y ∷ ys) []))) in
      let q = clean_second j k e c in
      let r = all_given ds h.1 (and_right (is_declr (rule_in d)) _ x) base v a.good (base_behind e v a.stays.structs base b) (clean_first js (λ ys. give ((j e).part ∷ ys) []) v q (λ ys. passing_give ((j e).part ∷ ys) [])) in
      record { good = r.good; stays = stays_then e v (js v).env a.stays r.stays; holds = (members_behind v (js v).env r.stays a.holds.0, (a.holds.1, r.holds.1)) }

  -- a member's declaration
  pub declaration_given : (node : Raw) (ns : List Raw) → IsTrue (level_ok t node rule.Member ns) → Each (IsJudged t) ns → Gives (λ e x. HasMembers e × Each (Spoken t) ns) (member_by (map (judged t) ns))
  unfolding level_ok member_by
  declaration_given node [] l h = absurd cc
  declaration_given node (s ∷ []) l h = absurd cc
  declaration_given node (s ∷ d ∷ ds) l h = λ e g c.
      let j : Judge (Option Ty) = (judged t s).specified false in
      let k : Option Ty → Judge ⊤ = λ ty. declared_all ty (map (judged t) (d ∷ ds)) in
      let a = h.0.role.specified (and_left (is_specs (rule_in s)) _ l) false e g (clean_first j k e c (λ ty e h. declared_passing ty (d ∷ ds) e h)) in
      let v : Env = (j e).env in
      let q = clean_second j k e c in
      let b = all_given (d ∷ ds) h.1 (and_right (is_specs (rule_in s)) _ l) (j e).part v a.good a.holds.0 (record { faultless = q.faultless; within = q.within }) in
      given_then e v _ _ _ a (record { good = b.good; stays = b.stays; holds = (b.holds.0, (a.holds.1, b.holds.1)) })

  -- the members of a struct ---------------------------------------------------------------

  abbrev Has : Env → ⊤ → Type 0
  Has e x = HasMembers e

  has_lasts : Lasts Has
  has_lasts e e' x g s h = members_behind e e' s h

  each_member : (ns : List Raw) → Each (IsJudged t) ns → IsTrue (all_of is_member ns) → Each (λ n. Gives (λ e x. Has e x × Spoken t n) (judged t n).member) ns
  each_member [] h x = tt
  each_member (n ∷ ns) h x = (h.0.role.member (and_left (is_member (rule_in n)) _ x), each_member ns h.1 (and_right (is_member (rule_in n)) _ x))

  pub members_given : (m : Raw) (ms : List Raw) → Each (IsJudged t) (m ∷ ms) → IsTrue (all_of is_member (m ∷ ms)) → Gives (λ e x. HasMembers e × Each (Spoken t) (m ∷ ms)) (members (map (judged t) (m ∷ ms)))
  unfolding each
  members_given m ms h x e g c =
      let a = gives_parts t (λ (r : Role). r.member) (λ r q. q.member) Has has_lasts (m ∷ ms) (each_member (m ∷ ms) h x) e g (record { faultless = c.faultless; within = c.within }) in
      record { good = a.good; stays = a.stays; holds = (a.holds.0.0, a.holds.1) }
