-- Places of what is fine are fine.
use Rattle.std.proofs.Common.{◌≡◌, ℕ, zero, suc, ◌+◌, ◌-◌, ◌<◌, List, [], ◌∷◌, length, Bool, true, false, refl, sym, ◌∙◌, subst, arith}
use Rattle.std.specs.Prelude.{IsTrue, ◌^◌, min, not, ◌==◌, cond, Option, Some, None, slice_get, slice_set, unwrap_or}
use Rattle.std.proofs.lemmas.List.{length-set}
use Rattle.xc_text_place.specs.declared.Span.{Span}
use Rattle.xc_tree.specs.declared.expr.Expr.{Expr}
use Rattle.xc_tree.specs.declared.expr.ExprKind.{ExprKind, out-ExprKind}
use Rattle.xc_tree.specs.declared.expr.ExprKind.TheOpen.{ExprKind-F}
use Rattle.xc_type_rule.specs.declared.found.Found.{Found}
use Rattle.xc_type_rule.specs.declared.found.Known.{Known}
use Rattle.xc_type_rule.specs.declared.found.Known.TheVariants as known
use Rattle.xc_type_rule.specs.declared.found.Member.{Member}
use Rattle.xc_type_rule.specs.Making.{faults_by}
use Rattle.xc_type_rule.specs.Members.{member_named, members_of}
use Rattle.xc_type_rule.specs.Tests.{is_unknown}
use Rattle.xc_type_rule.specs.Values.{rvalue, rvalue_faults}
use Rattle.xc_type_structs.specs.declared.structs.Structs.{Structs}
use Rattle.xc_type_structs.specs.Table.{part_cells}
use Rattle.xc_type_rule_places.specs.Rulings.{address_ruling, dot_owner, arrow_owner}
use Rattle.xc_type_rule_places.specs.Places.{index_part, star_part, star_faults, address_part, address_faults, dot_part, arrow_part}
use Rattle.xc_type_scopes.specs.declared.env.Env.{Env}
use Rattle.xc_type_scopes.specs.Env.{addressed_kind, addressed_by, with_address}
use Rattle.xc_type_expressions.specs.declared.text.Text.{Text}
use Rattle.xc_type_expressions.specs.Places.{indexed, member_in, mixes_in, dotted, arrowed}
use Rattle.xc_welltyped.specs.Sound.{Point, IsSound}
use Rattle.xc_welltyped.proofs.Held.{rvalue_sound}
use Rattle.xc_welltyped.proofs.Whole.{rvalue_whole}
use Rattle.xc_welltyped_rules.specs.Agrees.{IsMemberOf, is_typed, is_typed_member}
use Rattle.xc_welltyped_rules.proofs.Addresses.{address_sound}
use Rattle.xc_welltyped_rules.proofs.Elements.{star_sound, index_sound}
use Rattle.xc_welltyped_rules.proofs.Members.{dot_sound, arrow_sound}
use Rattle.xc_welltyped_rules.proofs.PlacesWhole.{dot_whole, arrow_whole, address_whole, star_whole, index_whole}
use Rattle.xc_welltyped_locals.proofs.SeenPlaces.{star_seen, index_seen, address_seen, dot_seen, arrow_seen}
use Rattle.xc_welltyped_locals.proofs.SeenValues.{rvalue_seen}
use Rattle.xc_welltyped_locals.specs.Used.{UsedAs, TakenMarked}
use Rattle.xc_welltyped_locals.proofs.UsedValues.{rvalue_used}
use Rattle.xc_welltyped_locals.proofs.UsedPlaces.{star_used, index_used, address_used, dot_used, arrow_used}
use Rattle.xc_welltyped_claims.specs.Lists.{StaysSet}
use Rattle.xc_welltyped_claims.specs.Table.{AreMembers, IsStruct}
use Rattle.xc_welltyped_claims.specs.Env.{AreMarked, Good, Stays, At}
use Rattle.xc_welltyped_claims.specs.Judges.{Clean, Given}
use Rattle.xc_welltyped_claims.specs.Found.{Fine}
use Rattle.xc_welltyped_claims.proofs.Env.{grows_self, fine_behind}
use Rattle.xc_welltyped_claims.proofs.Lists.{starts_self, set_self}
use Rattle.xc_welltyped_claims.proofs.Judges.{given_self}
use Rattle.xc_welltyped_structs.proofs.Programs.{member_told, point_sizes}

-- members -----------------------------------------------------------------------------

named_typed : (ns : List ℕ) (name : ℕ) (ms : List Member) (off : ℕ) (m : Member) → AreMembers ns off ms → member_named name ms ≡ Some m → IsTrue (is_typed m.ty)
named_typed ns name [] off m h is = absurd cc
named_typed ns name (x ∷ xs) off m h is = by (name == x.name) is (λ later. named_typed ns name xs (min (off + part_cells ns x.ty) (2 ^ 32 - 1)) m h.1 later)
  where
    by : (b : Bool) → cond b (Some x) (member_named name xs) ≡ Some m → (member_named name xs ≡ Some m → IsTrue (is_typed m.ty)) → IsTrue (is_typed m.ty)
    by true same later = let one : x ≡ m = cc in subst (λ (z : Member). IsTrue (is_typed z.ty)) one (subst (λ o. IsTrue (is_typed o)) (sym h.0.typed) refl)
    by false same later = later same

struct_typed : (s : Structs) (ranks : List ℕ) (n name : ℕ) (ms : List Member) (m : Member) → IsStruct s ranks n ms → member_named name ms ≡ Some m → IsTrue (is_typed m.ty)
struct_typed s ranks n name [] m h is = absurd cc
struct_typed s ranks n name (x ∷ xs) m h is = named_typed s.sizes name (x ∷ xs) 0 m h.members is

-- a member that is found has a type
module _ (e : Env) (g : Good e) where
  member_typed : (s name : ℕ) (m : Option Member) → member_named name (members_of e.structs.members s) ≡ m → IsTrue (is_typed_member m)
  member_typed s name None is = refl
  member_typed s name (Some m) is = by (slice_get e.structs.members s) refl is
    where
      by : (o : Option (List Member)) → slice_get e.structs.members s ≡ o → member_named name (unwrap_or o []) ≡ Some m → IsTrue (is_typed m.ty)
      by None there found = absurd cc
      by (Some ms) there found = struct_typed e.structs g.table.ranks s name ms m (g.table.structs s ms there) found

  pub typed_in : (o name : Option ℕ) → IsTrue (is_typed_member (member_in e o name))
  typed_in None name = refl
  typed_in (Some s) None = refl
  typed_in (Some s) (Some name) = member_typed s name (member_named name (members_of e.structs.members s)) refl

  module _ (t : Text) (so : Point) (a : At t so e) where
    told_at : (s name : ℕ) (m : Option Member) → member_named name (members_of e.structs.members s) ≡ m → IsMemberOf so (Some s) m (mixes_in e (Some s))
    told_at s name None is = tt
    told_at s name (Some m) is = (member_told t so e g a s name m is).0

    pub told_in : (o name : Option ℕ) → IsMemberOf so o (member_in e o name) (mixes_in e o)
    told_in None name = tt
    told_in (Some s) None = tt
    told_in (Some s) (Some name) = told_at s name (member_named name (members_of e.structs.members s)) refl

-- addresses ---------------------------------------------------------------------------

set_stays : (bs : List Bool) (n : ℕ) → StaysSet bs (slice_set bs n true)
set_stays [] n k is = is
set_stays (b ∷ bs) zero zero is = refl
set_stays (b ∷ bs) zero (suc k) is = is
set_stays (b ∷ bs) (suc n) zero is = is
set_stays (b ∷ bs) (suc n) (suc k) is = set_stays bs n k is

set_there : (bs : List Bool) (n : ℕ) → n < length bs → slice_get (slice_set bs n true) n ≡ Some true
set_there [] n lt = absurd (omega (arith, lt))
set_there (b ∷ bs) zero lt = refl
set_there (b ∷ bs) (suc n) lt = set_there bs n (omega (arith, lt))

kind_stays : (bs : List Bool) (k : ExprKind-F ExprKind Expr) → StaysSet bs (addressed_kind bs k)
kind_stays bs (ExprKind-F.Auto n) = set_stays bs n
kind_stays bs _ = set_self bs

kind_many : (bs : List Bool) (k : ExprKind-F ExprKind Expr) → length (addressed_kind bs k) ≡ length bs
kind_many bs (ExprKind-F.Auto n) = length-set bs n true
kind_many bs _ = refl

by_stays : (bs : List Bool) (o : Option Expr) → StaysSet bs (addressed_by bs o)
by_stays bs None = set_self bs
by_stays bs (Some x) = kind_stays bs (out-ExprKind x.kind)

by_many : (bs : List Bool) (o : Option Expr) → length (addressed_by bs o) ≡ length bs
by_many bs None = refl
by_many bs (Some x) = kind_many bs (out-ExprKind x.kind)

-- what is addressed is a place, which is marked
module _ (span : Span) (bs flags : List Bool) where
  taken_marked : (k : Known) (o : Option Expr) → IsTrue (not (is_unknown k)) → faults_by span (address_ruling k) ≡ [] → UsedAs flags (length bs) k o → StaysSet (addressed_by bs o) flags → TakenMarked flags o
  unfolding faults_by
  taken_marked k None h none u m = tt
  taken_marked (known.Unknown place) (Some x) h none u m = absurd cc
  taken_marked (known.Value ty) (Some x) h none u m = absurd cc
  taken_marked (known.Place ty within) (Some x) h none u m = λ n is. m n
      (subst (λ k. slice_get (addressed_kind bs k) n ≡ Some true) (sym is) (set_there bs n (u.declared n is)))

module _ (t : Text) where
  -- values ------------------------------------------------------------------------------

  pub as_value_fine : (at inner : Span) (f : Found) (e : Env) → Good e → Fine t e f → rvalue_faults inner f.known ≡ [] → Fine t e (rvalue e.structs.sizes at f)
  as_value_fine at inner f e g h none = record {
    whole = rvalue_whole e.structs.sizes at inner f h.whole none;
    sound = λ so a. subst (λ ns. IsSound so (rvalue ns at f)) (point_sizes t so e g a) (rvalue_sound so at f (h.sound so a));
    seen = λ seen c. rvalue_seen seen e.structs.sizes at f (h.seen seen c);
    used = λ flags m. rvalue_used flags (length e.locals) e.structs.sizes at f (h.used flags m);
  }

  -- elements ----------------------------------------------------------------------------

  pub star_fine : (span : Span) (p : Found) (e : Env) → Good e → Fine t e p → star_faults e.structs.sizes span p ≡ [] → Fine t e (star_part e.structs.sizes span p)
  star_fine span p e g h none = record {
    whole = star_whole span e.structs.sizes p h.whole none;
    sound = λ so a. subst (λ ns. IsSound so (star_part ns span p)) (point_sizes t so e g a) (star_sound so span p (h.sound so a));
    seen = λ seen c. star_seen seen span e.structs.sizes p (h.seen seen c);
    used = λ flags m. star_used flags (length e.locals) span e.structs.sizes p (h.used flags m);
  }

  pub indexed_fine : (span at : Span) (a i : Found) (e : Env) → Good e → Fine t e a → Fine t e i → Clean (indexed span at a i) e → Given e (indexed span at a i e).env (Fine t (indexed span at a i e).env (indexed span at a i e).part)
  indexed_fine span at a i e g h k c = given_self e (Fine t e (index_part e.structs.sizes span at a i)) g (record {
    whole = index_whole span e.structs.sizes at a i h.whole k.whole c.faultless;
    sound = λ so p. subst (λ ns. IsSound so (index_part ns span at a i)) (point_sizes t so e g p) (index_sound so span at a i (h.sound so p) (k.sound so p));
    seen = λ seen n. index_seen seen span e.structs.sizes at a i (h.seen seen n) (k.seen seen n);
    used = λ flags m. index_used flags (length e.locals) span e.structs.sizes at a i (h.used flags m) (k.used flags m);
  })

  -- members -----------------------------------------------------------------------------

  pub dotted_fine : (span at : Span) (name : Option ℕ) (f : Found) (e : Env) → Good e → Fine t e f → Clean (dotted span at name f) e → Given e (dotted span at name f e).env (Fine t (dotted span at name f e).env (dotted span at name f e).part)
  dotted_fine span at name f e g h c =
      let o = dot_owner f.known in
      given_self e (Fine t e (dot_part span (member_in e (dot_owner f.known) name) (mixes_in e (dot_owner f.known)) f)) g (record {
        whole = dot_whole span at (member_in e o name) (mixes_in e o) f h.whole (typed_in e g o name) c.faultless;
        sound = λ so p. dot_sound so span (member_in e o name) (mixes_in e o) f (h.sound so p) (told_in e g t so p o name);
        seen = λ seen n. dot_seen seen span (member_in e o name) (mixes_in e o) f (h.seen seen n);
        used = λ flags m. dot_used flags (length e.locals) span (member_in e o name) (mixes_in e o) f (h.used flags m);
      })

  pub arrowed_fine : (span at : Span) (name : Option ℕ) (f : Found) (e : Env) → Good e → Fine t e f → Clean (arrowed span at name f) e → Given e (arrowed span at name f e).env (Fine t (arrowed span at name f e).env (arrowed span at name f e).part)
  arrowed_fine span at name f e g h c =
      let o = arrow_owner f.known in
      given_self e (Fine t e (arrow_part span (member_in e (arrow_owner f.known) name) (mixes_in e (arrow_owner f.known)) f)) g (record {
        whole = arrow_whole span at (member_in e o name) (mixes_in e o) f h.whole (typed_in e g o name) c.faultless;
        sound = λ so p. arrow_sound so span (member_in e o name) (mixes_in e o) f (h.sound so p) (told_in e g t so p o name);
        seen = λ seen n. arrow_seen seen span (member_in e o name) (mixes_in e o) f (h.seen seen n);
        used = λ flags m. arrow_used flags (length e.locals) span (member_in e o name) (mixes_in e o) f (h.used flags m);
      })

  -- addresses ---------------------------------------------------------------------------

  marks_kept : (e : Env) → Good e → (o : Option Expr) → AreMarked e.locals (addressed_by e.addressed o)
  marks_kept e g o = record {
    many = by_many e.addressed o ∙ g.marks.many;
    marked = λ n l is lies. by_stays e.addressed o n (g.marks.marked n l is lies);
  }

  address_good : (e : Env) → Good e → (o : Option Expr) → Good (with_address o e)
  unfolding with_address
  address_good e g o = record {
    table = g.table;
    layout = g.layout;
    file = g.file;
    own = g.own;
    file_tags = g.file_tags;
    own_tags = g.own_tags;
    locals = g.locals;
    marks = marks_kept e g o;
  }

  address_stays : (e : Env) (o : Option Expr) → Stays e (with_address o e)
  unfolding with_address
  address_stays e o = record {
    file = refl;
    own = refl;
    own_tags = refl;
    structs = grows_self e.structs;
    layout = starts_self e.layout.members;
    locals = refl;
    addressed = by_stays e.addressed o;
    loops = refl;
  }

  pub address_fine : (span : Span) (a : Found) (e : Env) → Good e → Fine t e a → address_faults span a ≡ [] → Given e (with_address a.made e) (Fine t (with_address a.made e) (address_part span a))
  unfolding with_address address_faults
  address_fine span a e g h none =
      let k : Fine t (with_address a.made e) a = fine_behind t e (with_address a.made e) (address_stays e a.made) a h in
      record {
        good = address_good e g a.made;
        stays = address_stays e a.made;
        holds = record {
          whole = address_whole span a h.whole none;
          sound = λ so p. address_sound so span a (k.sound so p);
          seen = λ seen c. address_seen seen span a (k.seen seen c);
          used = λ flags m. address_used flags (length e.locals) span a (k.used flags m) (taken_marked span e.addressed flags a.known a.made h.whole.known none
              (subst (λ n. UsedAs flags n a.known a.made) (sym g.marks.many) (k.used flags m)) m);
        };
      }
