-- The pragmas of a loop that begins.
use Rattle.std.proofs.Common.{◌≡◌, ℕ, zero, suc, ◌+◌, ◌<◌, ◌≤◌, List, [], ◌∷◌, ◌++◌, length, map, Bool, true, false, cond, refl, sym, subst, arith}
use Rattle.std.specs.Prelude.{IsTrue, ◌&&◌, ◌==◌, nat_lt, nat_le, if◌then◌else◌, Option, Some, None, option_and_then, slice_get, take, codes}
use Rattle.std.proofs.lemmas.Bool.{lt-ltb, ltb-true, le-leb, eqb-false}
use Rattle.std.proofs.lemmas.Option.{slice_get_within}
use Rattle.xc_text_place.specs.declared.Span.{Span}
use Rattle.xc_tree.specs.declared.ty.Ty.{Ty, Ptr}
use Rattle.xc_tree.specs.declared.pragmas.Root.{Root}
use Rattle.xc_tree.specs.declared.pragmas.Root.TheVariants as root
use Rattle.xc_tree.specs.declared.tree.Object.{Object}
use Rattle.xc_tree.specs.Lists.{every, joined, passes}
use Rattle.xc_tree.specs.Types.{holds_pointer, same_ty}
use Rattle.xc_tree.specs.Typed.{Context, leads_to, global_type}
use Rattle.xc_tree.specs.Statements.{root_ok, is_pointer_root, pragmas_ok, sees_root, sees_pragmas}
use Rattle.xc_tree.proofs.Lists.{and_left, and_right, and_both}
use Rattle.std.specs.Str.{bytes_eq}
use Rattle.xc_welltyped.proofs.Types.{pointee_of}
use Rattle.xc_tree.specs.declared.pragmas.Schedule.TheVariants.{Block, Interleave, Dynamic, BlockDynamic}
use Rattle.xc_type_pragmas.specs.declared.words.Mode.TheVariants.{Text}
use Rattle.xc_type_pragmas.specs.Words.{words_from}
use Rattle.xc_text_lines.specs.Numbers.{is_plain, number_of}
use Rattle.std.specs.Str.Parse.{digits_value}
use Rattle.xc_type_structs.proofs.Same.{same_is}
use Rattle.xc_type_rule.specs.declared.found.Thing.{Thing}
use Rattle.xc_type_rule.specs.declared.found.Thing.TheVariants as thing
use Rattle.xc_type_names.specs.Scoped.{found_in, or_else}
use Rattle.xc_type_pragmas.specs.declared.read.Pragma.{Pragma}
use Rattle.xc_type_pragmas.specs.declared.read.Pragma.TheVariants.{Parallel, Nodep, Noalias, Serial, Streams, Dealt, Other}
use Rattle.xc_type_pragmas.specs.declared.set.Named.{Named}
use Rattle.xc_type_pragmas.specs.declared.set.Named.TheVariants.{Object as Single, Pointer}
use Rattle.xc_type_pragmas.specs.Said.{text_of, streams_of, by_two, by_three, by_words, by_line, pragma_of}
use Rattle.xc_type_pragmas.specs.Set.{both_roots, pointer_root, nodep_by, noalias_by, nodep_of, noalias_of, streams_by, streams_after, settings_of, pragmas_of}
use Rattle.xc_welltyped_rules.specs.Agrees.{global_ok}
use Rattle.xc_type_scopes.specs.declared.env.Env.{Env}
use Rattle.xc_type_scopes.specs.Env as env
use Rattle.xc_type_expressions.specs.declared.text.Text.{Text as Source}
use Rattle.xc_type_statement_parts.specs.Pragmas.{name_in, number_at, object_of, named_by, thing_of, said_at, said, begun}
use Rattle.xc_welltyped_claims.specs.Lists.{Each}
use Rattle.xc_welltyped_claims.specs.Things.{FileThing, OwnThing, SeenThing, HasThing}
use Rattle.xc_welltyped_claims.specs.Env.{Good, Ready, Into, Covers}
use Rattle.xc_welltyped_claims.specs.Judges.{Made}
use Rattle.xc_welltyped_claims.proofs.Lists.{each_both}
use Rattle.xc_welltyped_claims.proofs.Things.{in_found}
use Rattle.xc_welltyped_statements.specs.Stmts.{HasBegun}
use Rattle.xc_welltyped_statements.proofs.Fresh.{less_more}
use Rattle.xc_welltyped_statements.proofs.Places.{into_as, ready_noted, extends_noted, local_at}
use Rattle.xc_welltyped_structs.proofs.Lists.{every_of}

-- streams -------------------------------------------------------------------------

abbrev fair : Pragma → Bool
fair (Streams k) = nat_le 1 k && nat_le k 8192
fair _ = true

abbrev Fair : Pragma → Type 0
Fair p = IsTrue (fair p)

either_fair : (b : Bool) (p q : Pragma) → Fair p → Fair q → Fair (if b then p else q)
either_fair true p q h k = h
either_fair false p q h k = k

some_fair : (k : ℕ) → k < 8193 → Fair (streams_of (Some k))
some_fair k lt = by (k == 0) refl
  where
    by : (b : Bool) → (k == 0) ≡ b → Fair (if b then Other else Streams k)
    by true e = refl
    by false e = and_both (nat_le 1 k) _ (le-leb 1 k (above k (eqb-false k 0 e))) (le-leb k 8192 (omega (arith, lt)))
      where
        above : (n : ℕ) → (n ≡ 0 → ⊥) → 1 ≤ n
        above zero h = absurd (h refl)
        above (suc n) h = omega arith

number_fair : (word : List ℕ) → Fair (streams_of (number_of 8193 word))
unfolding number_of
number_fair word = by (is_plain word) (nat_lt (digits_value 10 word) 8193) refl
  where
    by : (b c : Bool) → nat_lt (digits_value 10 word) 8193 ≡ c → Fair (streams_of (if b && c then Some (digits_value 10 word) else None))
    by true true e = some_fair (digits_value 10 word) (ltb-true (digits_value 10 word) 8193 e)
    by true false e = refl
    by false c e = refl

two_by : (p q r s t u : Bool) → Fair (if p then Parallel else if q then Serial else if r then (if s then Dealt Block else if t then Dealt Interleave else if u then Dealt Dynamic else Other) else Other)
two_by true q r s t u = refl
two_by false true r s t u = refl
two_by false false false s t u = refl
two_by false false true true t u = refl
two_by false false true false true u = refl
two_by false false true false false true = refl
two_by false false true false false false = refl

two_fair : (a b : List ℕ) → Fair (by_two a b)
unfolding by_two
two_fair a b = two_by (bytes_eq a (codes "assert") && bytes_eq b (codes "parallel")) (bytes_eq a (codes "loop") && bytes_eq b (codes "serial")) (bytes_eq b (codes "schedule"))
    (bytes_eq a (codes "block")) (bytes_eq a (codes "interleave")) (bytes_eq a (codes "dynamic"))

three_by : (p q r s : Bool) (at : Span) (x : Pragma) → Fair x → Fair (if p then Nodep at else if q then Noalias at else if r then x else if s then Dealt BlockDynamic else Other)
three_by true q r s at x h = refl
three_by false true r s at x h = refl
three_by false false true s at x h = h
three_by false false false true at x h = refl
three_by false false false false at x h = refl

three_fair : (a b c : List ℕ) (at : Span) → Fair (by_three a b c at)
unfolding by_three
three_fair a b c at = three_by (bytes_eq a (codes "assert") && bytes_eq b (codes "nodep")) (bytes_eq a (codes "assert") && bytes_eq b (codes "noalias")) (bytes_eq a (codes "use") && bytes_eq c (codes "streams"))
    (bytes_eq a (codes "block") && (bytes_eq b (codes "dynamic") && bytes_eq c (codes "schedule"))) at (streams_of (number_of 8193 b)) (number_fair b)

words_fair : (source : List ℕ) (ws : List Span) → Fair (by_words source ws)
words_fair source [] = refl
words_fair source (a ∷ []) = refl
words_fair source (a ∷ b ∷ []) = two_fair (text_of source a) (text_of source b)
words_fair source (a ∷ b ∷ c ∷ []) = three_fair (text_of source a) (text_of source b) (text_of source c) c
words_fair source (a ∷ b ∷ c ∷ d ∷ ws) = refl

line_fair : (source : List ℕ) (ws : List Span) → Fair (by_line source ws)
line_fair source [] = refl
line_fair source (a ∷ []) = refl
line_fair source (a ∷ b ∷ ws) = either_fair (bytes_eq (text_of source a) (codes "pragma") && bytes_eq (text_of source b) (codes "mta")) (by_words source ws) Other (words_fair source ws) refl

pragma_fair : (source : List ℕ) (line : Span) → Fair (pragma_of source line)
pragma_fair source line = line_fair source (words_from (take line.end source) (record { mode = Text; at = line.start + 1 }))

abbrev InRange : ℕ → Type 0
InRange n = IsTrue (nat_le 1 n && nat_le n 8192)

stream_fair : (n : ℕ) (p : Pragma) → InRange n → Fair p → InRange (streams_by n p)
stream_fair n (Streams k) h f = f
stream_fair n Parallel h f = h
stream_fair n (Nodep at) h f = h
stream_fair n (Noalias at) h f = h
stream_fair n Serial h f = h
stream_fair n (Dealt s) h f = h
stream_fair n Other h f = h

streams_fair : (t : Source) (e : Env) (n : ℕ) (ats : List Span) → InRange n → InRange (streams_after n (map (said_at t e) ats))
streams_fair t e n [] h = h
streams_fair t e n (at ∷ ats) h =
    let p = pragma_of t.source.now at in
    streams_fair t e (streams_by n p) ats (stream_fair n p h (pragma_fair t.source.now at))

-- roots -----------------------------------------------------------------------------

each_joined : {A : Type 0} (P : A → Type 0) (xss : List (List A)) → Each (Each P) xss → Each P (joined xss)
each_joined P [] h = tt
each_joined P (xs ∷ xss) h = each_both P xs (joined xss) h.0 (each_joined P xss h.1)

module _ (P Q : Root → Type 0) where
  -- the roots of a name, and those of them that are pointers
  abbrev NamedOk : Named → Type 0
  NamedOk m = Each P (both_roots m) × Each Q (pointer_root m)

  named_object : (ty : Ty) (a p : Root) → P a → (IsTrue (holds_pointer ty) → P p × Q p) → NamedOk (object_of (Some ty) a p)
  named_object ty a p h k = by (holds_pointer ty) refl
    where
      by : (b : Bool) → holds_pointer ty ≡ b → NamedOk (cond b (Pointer a p) (Single a))
      by true e = let both = k e in ((h, (both.0, tt)), (both.1, tt))
      by false e = ((h, tt), tt)

  nodep_each : (m : Named) (p : Pragma) → NamedOk m → Each P (nodep_by m p)
  nodep_each m (Nodep at) h = h.0
  nodep_each m Parallel h = tt
  nodep_each m (Noalias at) h = tt
  nodep_each m Serial h = tt
  nodep_each m (Streams k) h = tt
  nodep_each m (Dealt s) h = tt
  nodep_each m Other h = tt

  noalias_each : (m : Named) (p : Pragma) → NamedOk m → Each Q (noalias_by m p)
  noalias_each m (Noalias at) h = h.1
  noalias_each m Parallel h = tt
  noalias_each m (Nodep at) h = tt
  noalias_each m Serial h = tt
  noalias_each m (Streams k) h = tt
  noalias_each m (Dealt s) h = tt
  noalias_each m Other h = tt

  module _ (t : Source) (e : Env) (f : (name : ℕ) (x : Thing) → env.found name e ≡ Some x → NamedOk (named_by (Some x))) where
    named_found : (name : ℕ) (o : Option Thing) → env.found name e ≡ o → NamedOk (named_by o)
    named_found name None h = (tt, tt)
    named_found name (Some x) h = f name x h

    named_number : (o : Option ℕ) → NamedOk (named_by (option_and_then (λ name. env.found name e) o))
    named_number None = (tt, tt)
    named_number (Some name) = named_found name (env.found name e) refl

    named_at : (o : Option Span) → NamedOk (named_by (option_and_then (λ at. option_and_then (λ name. env.found name e) (number_at t at)) o))
    named_at None = (tt, tt)
    named_at (Some at) = named_number (number_at t at)

    named_said : (p : Pragma) → NamedOk (named_by (thing_of t e p))
    named_said p = named_at (name_in p)

    nodep_said : (ats : List Span) → Each (Each P) (map (λ s. nodep_by s.named s.pragma) (map (said_at t e) ats))
    nodep_said [] = tt
    nodep_said (at ∷ ats) = let p = pragma_of t.source.now at in (nodep_each (named_by (thing_of t e p)) p (named_said p), nodep_said ats)

    noalias_said : (ats : List Span) → Each (Each Q) (map (λ s. noalias_by s.named s.pragma) (map (said_at t e) ats))
    noalias_said [] = tt
    noalias_said (at ∷ ats) = let p = pragma_of t.source.now at in (noalias_each (named_by (thing_of t e p)) p (named_said p), noalias_said ats)

    nodeps : Each P (nodep_of (said t e))
    nodeps = each_joined P _ (nodep_said e.before)

    noaliases : Each Q (noalias_of (said t e))
    noaliases = each_joined Q _ (noalias_said e.before)

-- what is found ------------------------------------------------------------------------

found_either : (R : Thing → Type 0) (own file : Option Thing) (x : Thing) → or_else own file ≡ Some x → (own ≡ Some x → R x) → (file ≡ Some x → R x) → R x
found_either R None file x e f g = g e
found_either R (Some y) file x e f g = f e

module _ (t : Source) (cx : Context) (e : Env) (g : Good e) (i : Into t cx e) where
  abbrev Root_ok : Root → Type 0
  Root_ok r = IsTrue (root_ok cx r)

  abbrev Pointer_ok : Root → Type 0
  Pointer_ok r = IsTrue (is_pointer_root r && root_ok cx r)

  global_at : (o : Option Object) (ty : Ty) → IsTrue (leads_to (global_type o) (Ptr ty)) → IsTrue (holds_pointer ty) → IsTrue (passes (λ g. holds_pointer g.ty) o)
  global_at None ty h k = absurd cc
  global_at (Some x) ty h k = let same : x.ty ≡ ty = same_is x.ty ty (subst (λ o. IsTrue (passes (same_ty x.ty) o)) (pointee_of ty) h) in subst (λ u. IsTrue (holds_pointer u)) (sym same) k

  global_named : (n : ℕ) (ty : Ty) → IsTrue (global_ok cx n ty) → NamedOk Root_ok Pointer_ok (named_by (Some (thing.Global n (Some ty))))
  global_named n ty h = named_object Root_ok Pointer_ok ty (root.Global n) (root.GlobalPointer n) (and_left _ _ h)
      (λ k. let p = global_at (slice_get cx.globals n) ty (and_right (nat_lt n (length cx.globals)) _ h) k in (p, p))

  local_named : (n : ℕ) (ty : Ty) (at : Span) → slice_get e.locals n ≡ Some (at, ty) → NamedOk Root_ok Pointer_ok (named_by (Some (thing.Local n (Some ty))))
  local_named n ty at h =
      let there = local_at t cx e i n (at, ty) h in
      named_object Root_ok Pointer_ok ty (root.Local n) (root.LocalPointer n) (lt-ltb n (length cx.locals) (slice_get_within cx.locals n _ there))
      (λ k. let p : IsTrue (passes (λ l. holds_pointer l.ty) (slice_get cx.locals n)) = subst (λ o. IsTrue (passes (λ l. holds_pointer l.ty) o)) (sym there) k in (p, p))

  own_named : (x : Thing) → OwnThing e.locals x → NamedOk Root_ok Pointer_ok (named_by (Some x))
  own_named (thing.Local n (Some ty)) h = local_named n ty h.0 h.1
  own_named (thing.Local n None) h = absurd h
  own_named (thing.Global n ty) h = absurd h
  own_named (thing.Func number params ret) h = absurd h

  file_named : (x : Thing) → FileThing e.structs.sizes x → HasThing cx x → NamedOk Root_ok Pointer_ok (named_by (Some x))
  file_named (thing.Global n (Some ty)) f h = global_named n ty h
  file_named (thing.Global n None) f h = absurd (let no : false ≡ true = f in cc)
  file_named (thing.Local n ty) f h = absurd (let no : false ≡ true = f in cc)
  file_named (thing.Func number params ret) f h = (tt, tt)

  found_named : (name : ℕ) (x : Thing) → env.found name e ≡ Some x → NamedOk Root_ok Pointer_ok (named_by (Some x))
  found_named name x h = found_either (λ x. NamedOk Root_ok Pointer_ok (named_by (Some x))) (found_in name e.own) (found_in name e.file) x h
      (λ k. own_named x (in_found (OwnThing e.locals) name e.own x k g.own))
      (λ k. file_named x (in_found (FileThing e.structs.sizes) name e.file x k g.file) (i.things name x k))

  pub said_typed : IsTrue (pragmas_ok cx (pragmas_of (said t e)))
  unfolding pragmas_ok
  said_typed =
      let all = said t e in
      let n = streams_fair t e 8 e.before refl in
      and_both (nat_le 1 (streams_after 8 all)) _ (and_left _ _ n) (and_both (nat_le (streams_after 8 all) 8192) _ (and_right (nat_le 1 (streams_after 8 all)) _ n)
      (and_both (every (map (root_ok cx) (nodep_of all))) _ (every_of (root_ok cx) (nodep_of all) (nodeps Root_ok Pointer_ok t e found_named))
      (every_of (λ r. is_pointer_root r && root_ok cx r) (noalias_of all) (noaliases Root_ok Pointer_ok t e found_named))))

module _ (t : Source) (e : Env) (g : Good e) (seen : List ℕ) (c : Covers seen e) where
  abbrev Seen : Root → Type 0
  Seen r = IsTrue (sees_root seen r)

  own_seen : (x : Thing) → OwnThing e.locals x → SeenThing seen x → NamedOk Seen Seen (named_by (Some x))
  own_seen (thing.Local n (Some ty)) h s = named_object Seen Seen ty (root.Local n) (root.LocalPointer n) s (λ k. (s, s))
  own_seen (thing.Local n None) h s = absurd h
  own_seen (thing.Global n ty) h s = absurd h
  own_seen (thing.Func number params ret) h s = absurd h

  file_seen : (x : Thing) → FileThing e.structs.sizes x → NamedOk Seen Seen (named_by (Some x))
  file_seen (thing.Global n (Some ty)) f = named_object Seen Seen ty (root.Global n) (root.GlobalPointer n) refl (λ k. (refl, refl))
  file_seen (thing.Global n None) f = absurd (let no : false ≡ true = f in cc)
  file_seen (thing.Local n ty) f = absurd (let no : false ≡ true = f in cc)
  file_seen (thing.Func number params ret) f = (tt, tt)

  found_seen : (name : ℕ) (x : Thing) → env.found name e ≡ Some x → NamedOk Seen Seen (named_by (Some x))
  found_seen name x h = found_either (λ x. NamedOk Seen Seen (named_by (Some x))) (found_in name e.own) (found_in name e.file) x h
      (λ k. own_seen x (in_found (OwnThing e.locals) name e.own x k g.own) (in_found (SeenThing seen) name e.own x k c))
      (λ k. file_seen x (in_found (FileThing e.structs.sizes) name e.file x k g.file))

  pub said_seen : IsTrue (sees_pragmas seen (pragmas_of (said t e)))
  said_seen =
      let all = said t e in
      and_both (every (map (sees_root seen) (nodep_of all))) _ (every_of (sees_root seen) (nodep_of all) (nodeps Seen Seen t e found_seen))
      (every_of (sees_root seen) (noalias_of all) (noaliases Seen Seen t e found_seen))

pub begun_fine : (t : Source) (at : ℕ) (e : Env) → Ready e → Made e (begun t at e).env (HasBegun t e (begun t at e).env (begun t at e).part)
unfolding begun
begun_fine t at e r =
    let s = settings_of (said t e) in
    let over = env.least_place e.over (env.over_with e.loops at) in
    record {
      ready = ready_noted (e.loops + 1) [] (e.notes ++ s.notes) over e r;
      extends = extends_noted (e.loops + 1) [] (e.notes ++ s.notes) over e (less_more e.loops);
      file = refl;
      holds = record {
        id = refl;
        loops = refl;
        locals = refl;
        own = refl;
        pragmas = λ cx i. said_typed t cx e r.good (into_as t cx (env.with_loop at s.notes e) e refl refl refl i);
        sees = λ seen c. said_seen t e r.good seen c;
      };
    }
