-- Members under their names.
use Rattle.std.proofs.Common.{◌≡◌, ℕ, List, [], ◌∷◌, ◌++◌, cond, true, false, true≢false, refl, sym, ap, ◌∙◌, subst}
use Rattle.std.specs.Prelude.{nat_eq, is_some, is_none, if◌then◌else◌, Option, Some, None}
use Rattle.std.specs.Map.{lookup, values_of}
use Rattle.std.proofs.lemmas.List.{map-append}
use Rattle.std.proofs.lemmas.List.Elements.{All-head, All-tail, All-push}
use Rattle.indexmap.specs.IndexMap.{IndexMap, insert_entry}
use Rattle.indexmap.proofs.CallerLemmas.{insert_entry-new}
use Rattle.xc_type_rule.specs.declared.found.Member.{Member}
use Rattle.xc_type_rule.specs.Members.{member_named}
use Rattle.xc_type_structs.specs.Members.{added, AreNamed}

abbrev Named : ℕ × Member → Type 0
Named e = e.0 ≡ e.1.name

-- a look-up by name finds the first member of that name
pub find_named : (es : List (ℕ × Member)) (name : ℕ) → AreNamed es → lookup (nat_eq name) es ≡ member_named name (values_of es)
find_named [] name all = refl
find_named (e ∷ es) name all = let here = All-head Named e es all in let rest = find_named es name (All-tail Named e es all) in
    (λ i. cond (nat_eq name (here i)) (Some e.1) (rest i))

pub added_found : (ms : List Member) (m : Member) → is_none (member_named m.name ms) ≡ false → ms ≡ added ms m
added_found ms m = by (member_named m.name ms)
  where
    by : (o : Option Member) → is_none o ≡ false → ms ≡ (if is_some o then ms else ms ++ m ∷ [])
    by None e = absurd (true≢false e)
    by (Some x) e = refl

is_none_true : (o : Option Member) → is_none o ≡ true → o ≡ None
is_none_true None e = refl
is_none_true (Some x) e = absurd (true≢false (sym e))

-- one more member stands last
module _ {S : Type 0} (by_name : IndexMap ℕ Member S) (m : Member) (ms : List Member) (view : values_of by_name.entries ≡ ms) (all : AreNamed by_name.entries)
    (new : is_none (member_named m.name ms) ≡ true) where
  none : member_named m.name ms ≡ None
  none = is_none_true _ new

  last : insert_entry nat_eq by_name.entries m.name m ≡ by_name.entries ++ (m.name, m) ∷ []
  last = insert_entry-new nat_eq by_name m.name m (find_named by_name.entries m.name all ∙ ap (member_named m.name) view ∙ none)

  pub added_last : values_of (insert_entry nat_eq by_name.entries m.name m) ≡ added ms m
  added_last = ap values_of last ∙ map-append (λ e. e.1) by_name.entries ((m.name, m) ∷ []) ∙ ap (λ l. l ++ m ∷ []) view
      ∙ ap (λ o. if is_some o then ms else ms ++ m ∷ []) (sym none)

  pub named_last : AreNamed (insert_entry nat_eq by_name.entries m.name m)
  named_last = subst AreNamed (sym last) (All-push Named by_name.entries (m.name, m) all refl)
