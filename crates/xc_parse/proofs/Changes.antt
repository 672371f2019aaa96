-- What each change of the nodes at work keeps.
use Rattle.std.proofs.Common.{◌≡◌, ℕ, ◌+◌, ◌≤◌, List, [], ◌∷◌, ◌++◌, length, reverse, Some, None, Bool, true, refl, sym, ap, ◌∙◌, subst, arith, zero-add, length-append}
use Rattle.std.proofs.lemmas.List.{length-reverse, reverse-append}
use Rattle.xc_parse_depth.specs.Depths.{depth_at}
use Rattle.xc_raw.specs.declared.rule.Rule.{Rule}
use Rattle.xc_parse_grammar.specs.declared.goals.Shape.{Shape}
use Rattle.xc_parse_grammar.specs.declared.goals.Shape.TheVariants as shape
use Rattle.xc_parse_grammar.specs.Grammar.{Form, leaf, begin, ◌▹◌, leaves, sort}
use Rattle.xc_parse_grammar.specs.Building.{spell, apply, retitle}
use Rattle.xc_parse.specs.declared.nodes.Open.{Open}
use Rattle.xc_parse.specs.declared.nodes.Nodes.{Nodes}
use Rattle.xc_parse.specs.Raws.{node_at, parts_of, raws_of}
use Rattle.xc_parse.specs.Nodes.{own, inside, IsOpen, AreOpen, AllWithin, Builds, nowhere, needed}

none_some : {A B : Type 0} {x : A} → None ≡ Some x → B
none_some e = cc e

-- another rule -------------------------------------------------------------------------------------

pub retitle_leaves : (r : Rule) (f : Form) → leaves (retitle r f) ≡ leaves f
retitle_leaves r (leaf w) = refl
retitle_leaves r (begin q) = refl
retitle_leaves r (f ▹ g) = ap (λ ws. ws ++ leaves g) (retitle_leaves r f)

retitle_sort : (r q : Rule) (f : Form) → sort f ≡ Some q → sort (retitle r f) ≡ Some r
retitle_sort r q (leaf w) h = none_some h
retitle_sort r q (begin p) h = refl
retitle_sort r q (f ▹ g) h = retitle_sort r q f h

retitle_parts : (r : Rule) (start : ℕ) (f : Form) → parts_of start (retitle r f) ≡ parts_of start f
retitle_parts r start (leaf w) = refl
retitle_parts r start (begin q) = refl
retitle_parts r start (f ▹ g) =
    ap (λ ps. ps ++ node_at (sort g) (start + length (leaves (retitle r f))) (start + length (leaves (retitle r f)) + length (leaves g)) (parts_of (start + length (leaves (retitle r f))) g)) (retitle_parts r start f)
    ∙ ap (λ ws. parts_of start f ++ node_at (sort g) (start + length ws) (start + length ws + length (leaves g)) (parts_of (start + length ws) g)) (retitle_leaves r f)

retitle_inside : (r : Rule) (start k : ℕ) (f : Form) → inside start k (retitle r f) ≡ inside start k f
retitle_inside r start k (leaf w) = refl
retitle_inside r start k (begin q) = refl
retitle_inside r start k (f ▹ g) =
    ap (λ n. n + own (sort g) (start + length (leaves (retitle r f))) (start + length (leaves (retitle r f)) + length (leaves g)) k + inside (start + length (leaves (retitle r f))) k g) (retitle_inside r start k f)
    ∙ ap (λ ws. inside start k f + own (sort g) (start + length ws) (start + length ws + length (leaves g)) k + inside (start + length ws) k g) (retitle_leaves r f)

pub retitled : {is_whole : Bool} {start : ℕ} {f : Form} (o p : Open) → IsOpen is_whole start f o → p.first ≡ o.first → p.parts ≡ o.parts → IsOpen is_whole start (retitle p.rule f) p
retitled {start = start} {f = f} o p h e g = record {
  rule = retitle_sort p.rule o.rule f h.rule;
  first = e ∙ h.first;
  parts = λ w. g ∙ h.parts w ∙ sym (retitle_parts p.rule start f);
}

pub retitled_aside : (aside : ℕ → ℕ) (start : ℕ) {last : ℕ} {d : List Form} {n : Nodes} (r : Rule) (f : Form) → Builds (λ k. inside start k f + aside k) last d n → Builds (λ k. inside start k (retitle r f) + aside k) last d n
retitled_aside aside start r f b = record {
  working = b.working;
  depth = λ k. omega (arith, b.depth k, retitle_inside r start k f);
  within = b.within;
}

-- one part more ------------------------------------------------------------------------------------

pub kept : {start : ℕ} {f : Form} {o : Open} (v w : Bool) → (v ≡ true → w ≡ true) → IsOpen w start f o → IsOpen v start f o
kept v w s h = record { rule = h.rule; first = h.first; parts = λ t. h.parts (s t) }

still_open : (v w : Bool) (d : List Form) (os : List Open) → (v ≡ true → w ≡ true) → AreOpen w d os → AreOpen v d os
still_open v w [] [] s h = tt
still_open v w [] (o ∷ os) s h = h
still_open v w (f ∷ d) [] s h = h
still_open v w (f ∷ d) (o ∷ os) s h = (kept v w s h.0, still_open v w d os s h.1)

module _ (aside : ℕ → ℕ) (last end : ℕ) (f p : Form) (d : List Form) (part node now : Open) (w : Bool) (m n : Nodes) where
  pub record Joins : Type 0 where
    pub ends : end ≡ length (spell (f ∷ p ∷ d))
    pub inner : IsOpen w (length (spell (p ∷ d))) f part
    pub outer : IsOpen w (length (spell d)) p node
    pub builds : Builds (λ k. inside (length (spell d)) k p + (inside (length (spell (p ∷ d))) k f + aside k)) last d m
    pub working : n.working.items ≡ m.working.items
    pub depth : (k : ℕ) → depth_at n.stretches.items k ≡ depth_at m.stretches.items k + own (Some part.rule) part.first end k
    pub within : AllWithin last n
    pub whole : n.is_whole ≡ true → w ≡ true
    pub whole_still : n.is_whole ≡ true → m.is_whole ≡ true
    pub rule : now.rule ≡ node.rule
    pub first : now.first ≡ node.first
    pub parts : n.is_whole ≡ true → now.parts ≡ node.parts ++ node_at (Some part.rule) part.first end part.parts

module _ {aside : ℕ → ℕ} {last end : ℕ} {f p : Form} {d : List Form} {part node now : Open} {w : Bool} {m n : Nodes} (j : Joins aside last end f p d part node now w m n) where
  here : part.first ≡ length (spell d) + length (leaves p)
  here = j.inner.first ∙ length-append (spell d) (leaves p)

  there : end ≡ length (spell d) + length (leaves p) + length (leaves f)
  there = j.ends ∙ length-append (spell d ++ leaves p) (leaves f) ∙ ap (λ x. x + length (leaves f)) (length-append (spell d) (leaves p))

  pub joined_open : IsOpen n.is_whole (length (spell d)) (p ▹ f) now
  joined_open = record {
    rule = j.outer.rule ∙ ap Some (sym j.rule);
    first = j.first ∙ j.outer.first;
    parts = λ t.
        j.parts t ∙ ap (λ ps. ps ++ node_at (Some part.rule) part.first end part.parts) (j.outer.parts (j.whole t))
        ∙ ap (λ o. parts_of (length (spell d)) p ++ node_at o part.first end part.parts) (sym j.inner.rule)
        ∙ ap (λ ps. parts_of (length (spell d)) p ++ node_at (sort f) part.first end ps) (j.inner.parts (j.whole t) ∙ ap (λ x. parts_of x f) (length-append (spell d) (leaves p)))
        ∙ ap (λ x. parts_of (length (spell d)) p ++ node_at (sort f) x end (parts_of (length (spell d) + length (leaves p)) f)) here
        ∙ ap (λ x. parts_of (length (spell d)) p ++ node_at (sort f) (length (spell d) + length (leaves p)) x (parts_of (length (spell d) + length (leaves p)) f)) there;
  }

  own_here : (k : ℕ) → own (Some part.rule) part.first end k ≡ own (sort f) (length (spell d) + length (leaves p)) (length (spell d) + length (leaves p) + length (leaves f)) k
  own_here k = ap (λ o. own o part.first end k) (sym j.inner.rule) ∙ ap (λ x. own (sort f) x end k) here ∙ ap (λ x. own (sort f) (length (spell d) + length (leaves p)) x k) there

  inside_here : (k : ℕ) → inside (length (spell (p ∷ d))) k f ≡ inside (length (spell d) + length (leaves p)) k f
  inside_here k = ap (λ x. inside x k f) (length-append (spell d) (leaves p))

  pub joined_builds : Builds (λ k. inside (length (spell d)) k (p ▹ f) + aside k) last d n
  joined_builds = record {
    working = subst (λ os. AreOpen n.is_whole d (reverse os)) (sym j.working) (still_open n.is_whole m.is_whole d (reverse m.working.items) j.whole_still j.builds.working);
    depth = λ k. omega (arith, j.depth k, j.builds.depth k, own_here k, inside_here k);
    within = j.within;
  }

-- what a change needs ------------------------------------------------------------------------------

pub enough : (x : Shape) (d e : List Form) → apply x d ≡ Some e → needed x ≤ length d
enough shape.Keep d e h = omega arith
enough (shape.Begin r) d e h = omega arith
enough shape.Join (f ∷ p ∷ d) e h = omega arith
enough (shape.Wrap r) (f ∷ d) e h = omega arith
enough shape.Cast (p ∷ d) e h = omega arith
enough shape.Specify (q ∷ d) e h = omega arith
enough shape.Declare (p ∷ q ∷ d) e h = omega arith
enough shape.Call (p ∷ f ∷ d) e h = omega arith
enough shape.Enlist (p ∷ f ∷ d) e h = omega arith
enough _ _ e h = none_some h

pub record One (d : List Form) : Type 0 where
  pub top : Form
  pub rest : List Form
  pub is : d ≡ top ∷ rest

pub record Two (d : List Form) : Type 0 where
  pub top : Form
  pub next : Form
  pub rest : List Form
  pub is : d ≡ top ∷ next ∷ rest

pub one : (d : List Form) → 1 ≤ length d → One d
one [] h = absurd (omega arith)
one (f ∷ d) h = record { top = f; rest = d; is = refl }

pub two : (d : List Form) → 2 ≤ length d → Two d
two [] h = absurd (omega arith)
two (f ∷ []) h = absurd (omega arith)
two (f ∷ p ∷ d) h = record { top = f; next = p; rest = d; is = refl }

same_length : (w : Bool) (d : List Form) (os : List Open) → AreOpen w d os → length os ≡ length d
same_length w [] [] h = refl
same_length w [] (o ∷ os) h = absurd h
same_length w (f ∷ d) [] h = absurd h
same_length w (f ∷ d) (o ∷ os) h = let e = same_length w d os h.1 in omega arith

pub as_many : (w : Bool) (d : List Form) (os : List Open) → AreOpen w d (reverse os) → length os ≡ length d
as_many w d os h = sym (length-reverse os) ∙ same_length w d (reverse os) h

-- the last one --------------------------------------------------------------------------------------

pub last_open : (w : Bool) (f : Form) (d : List Form) (os popped : List Open) (o : Open) → os ≡ popped ++ o ∷ [] → AreOpen w (f ∷ d) (reverse os) → IsOpen w (length (spell d)) f o
last_open w f d os popped o e h = (subst (λ x. AreOpen w (f ∷ d) x) (ap reverse e ∙ reverse-append popped (o ∷ [])) h).0

pub made_of : {f : Form} (w : Bool) (o : Open) (end : ℕ) → IsOpen w 0 f o → w ≡ true → end ≡ length (leaves f) → node_at (Some o.rule) o.first end o.parts ≡ raws_of 0 f
made_of {f} w o end h whole e =
    ap (λ r. node_at r o.first end o.parts) (sym h.rule) ∙ ap (λ x. node_at (sort f) x end o.parts) h.first ∙ ap (λ x. node_at (sort f) 0 x o.parts) (e ∙ sym (zero-add (length (leaves f)))) ∙ ap (λ ps. node_at (sort f) 0 (0 + length (leaves f)) ps) (h.parts whole)

pub one_depth : {f : Form} {n : ℕ} {nodes : Nodes} → Builds nowhere n (f ∷ []) nodes → (k : ℕ) → depth_at nodes.stretches.items k ≡ inside 0 k f
one_depth b k = omega (arith, b.depth k)
