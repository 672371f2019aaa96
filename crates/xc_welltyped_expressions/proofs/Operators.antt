-- Operators between parts that are fine give what is fine.
use Rattle.std.proofs.Common.{◌≡◌, ℕ, [], length, Bool}
use Rattle.std.specs.Prelude.{Some}
use Rattle.xc_text_place.specs.declared.Span.{Span}
use Rattle.xc_tree.specs.declared.operator.BinOp.{BinOp}
use Rattle.xc_tree.specs.declared.operator.UnOp.{UnOp}
use Rattle.xc_tree.specs.declared.ty.Ty.{Ty}
use Rattle.xc_type_rule_operators.specs.declared.logic.Logic.{Logic}
use Rattle.xc_type_rule.specs.declared.found.Found.{Found}
use Rattle.xc_type_rule_operators.specs.Operators.{number_part, grouped, plus_part, plus_faults, unary_part, unary_faults, cast_part, cast_faults, binary_part, binary_faults, logical_part, logical_faults, comma_part, comma_faults, conditional_part, conditional_faults, assign_part, assign_faults, update_part, update_faults, step_part, step_faults}
use Rattle.xc_type_scopes.specs.declared.env.Env.{Env}
use Rattle.xc_type_expressions.specs.declared.text.Text.{Text}
use Rattle.xc_welltyped_rules.proofs.OperatorsSound as sound
use Rattle.xc_welltyped_rules.proofs.Assigned as assigned
use Rattle.xc_welltyped_rules.proofs.OperatorsWhole as whole
use Rattle.xc_welltyped_locals.proofs.SeenOperators as seen
use Rattle.xc_welltyped_locals.proofs.UsedOperators.{number_used, grouped_used, plus_used, unary_used, cast_used, binary_used, logical_used, comma_used, conditional_used, assign_used, update_used, step_used}
use Rattle.xc_welltyped_claims.specs.Found.{Fine}

module _ (t : Text) (e : Env) (span : Span) where
  pub number_fine : (n : ℕ) (unsigned : Bool) → Fine t e (number_part span n unsigned)
  number_fine n unsigned = record {
    whole = whole.number_whole span n unsigned;
    sound = λ so p. sound.number_sound so span n unsigned;
    seen = λ names c. seen.number_seen names span n unsigned;
    used = λ flags m. number_used flags (length e.locals) span n unsigned;
  }

  pub grouped_fine : (a : Found) → Fine t e a → Fine t e (grouped span a)
  grouped_fine a h = record {
    whole = whole.grouped_whole span a h.whole;
    sound = λ so p. assigned.grouped_sound so span a (h.sound so p);
    seen = λ names c. seen.grouped_seen names span a (h.seen names c);
    used = λ flags m. grouped_used flags (length e.locals) span a (h.used flags m);
  }

  pub plus_fine : (a : Found) → Fine t e a → plus_faults span a ≡ [] → Fine t e (plus_part a)
  plus_fine a h none = record {
    whole = whole.plus_whole span a h.whole none;
    sound = λ so p. assigned.plus_sound so span a (h.sound so p);
    seen = λ names c. seen.plus_seen names span a (h.seen names c);
    used = λ flags m. plus_used flags (length e.locals) span a (h.used flags m);
  }

  pub unary_fine : (o : UnOp) (a : Found) → Fine t e a → unary_faults span o a ≡ [] → Fine t e (unary_part span o a)
  unary_fine o a h none = record {
    whole = whole.unary_whole span o a h.whole none;
    sound = λ so p. sound.unary_sound so span o a (h.sound so p);
    seen = λ names c. seen.unary_seen names span o a (h.seen names c);
    used = λ flags m. unary_used flags (length e.locals) span o a (h.used flags m);
  }

  pub cast_fine : (to : Ty) (a : Found) → Fine t e a → cast_faults span (Some to) a ≡ [] → Fine t e (cast_part span (Some to) a)
  cast_fine to a h none = record {
    whole = whole.cast_whole span to a h.whole none;
    sound = λ so p. sound.cast_sound so span (Some to) a (h.sound so p);
    seen = λ names c. seen.cast_seen names span (Some to) a (h.seen names c);
    used = λ flags m. cast_used flags (length e.locals) span (Some to) a (h.used flags m);
  }

  pub binary_fine : (o : BinOp) (a b : Found) → Fine t e a → Fine t e b → binary_faults span o a b ≡ [] → Fine t e (binary_part span o a b)
  binary_fine o a b h k none = record {
    whole = whole.binary_whole span o a b h.whole k.whole none;
    sound = λ so p. sound.binary_sound so span o a b (h.sound so p) (k.sound so p);
    seen = λ names c. seen.binary_seen names span o a b (h.seen names c) (k.seen names c);
    used = λ flags m. binary_used flags (length e.locals) span o a b (h.used flags m) (k.used flags m);
  }

  pub logical_fine : (o : Logic) (a b : Found) → Fine t e a → Fine t e b → logical_faults span o a b ≡ [] → Fine t e (logical_part span o a b)
  logical_fine o a b h k none = record {
    whole = whole.logical_whole span o a b h.whole k.whole none;
    sound = λ so p. sound.logical_sound so span o a b (h.sound so p) (k.sound so p);
    seen = λ names c. seen.logical_seen names span o a b (h.seen names c) (k.seen names c);
    used = λ flags m. logical_used flags (length e.locals) span o a b (h.used flags m) (k.used flags m);
  }

  pub comma_fine : (a b : Found) → Fine t e a → Fine t e b → comma_faults span a b ≡ [] → Fine t e (comma_part span a b)
  comma_fine a b h k none = record {
    whole = whole.comma_whole span a b h.whole k.whole none;
    sound = λ so p. sound.comma_sound so span a b (h.sound so p) (k.sound so p);
    seen = λ names c. seen.comma_seen names span a b (h.seen names c) (k.seen names c);
    used = λ flags m. comma_used flags (length e.locals) span a b (h.used flags m) (k.used flags m);
  }

  pub conditional_fine : (test a b : Found) → Fine t e test → Fine t e a → Fine t e b → conditional_faults span test a b ≡ [] → Fine t e (conditional_part span test a b)
  conditional_fine test a b g h k none = record {
    whole = whole.conditional_whole span test a b g.whole h.whole k.whole none;
    sound = λ so p. assigned.conditional_sound so span test a b (g.sound so p) (h.sound so p) (k.sound so p);
    seen = λ names c. seen.conditional_seen names span test a b (g.seen names c) (h.seen names c) (k.seen names c);
    used = λ flags m. conditional_used flags (length e.locals) span test a b (g.used flags m) (h.used flags m) (k.used flags m);
  }

  pub assign_fine : (to v : Found) → Fine t e to → Fine t e v → assign_faults span to v ≡ [] → Fine t e (assign_part span to v)
  assign_fine to v h k none = record {
    whole = whole.assign_whole span to v h.whole k.whole none;
    sound = λ so p. assigned.assign_sound so span to v (h.sound so p) (k.sound so p);
    seen = λ names c. seen.assign_seen names span to v (h.seen names c) (k.seen names c);
    used = λ flags m. assign_used flags (length e.locals) span to v (h.used flags m) (k.used flags m);
  }

  pub update_fine : (o : BinOp) (post : Bool) (to v : Found) → Fine t e to → Fine t e v → update_faults span o to v ≡ [] → Fine t e (update_part span o post to v)
  update_fine o post to v h k none = record {
    whole = whole.update_whole span o post to v h.whole k.whole none;
    sound = λ so p. assigned.update_sound so span o post to v (h.sound so p) (k.sound so p);
    seen = λ names c. seen.update_seen names span o post to v (h.seen names c) (k.seen names c);
    used = λ flags m. update_used flags (length e.locals) span o post to v (h.used flags m) (k.used flags m);
  }

  pub step_fine : (o : BinOp) (post : Bool) (to : Found) → Fine t e to → step_faults span o to ≡ [] → Fine t e (step_part span o post to)
  step_fine o post to h none = record {
    whole = whole.step_whole span o post to h.whole none;
    sound = λ so p. assigned.step_sound so span o post to (h.sound so p);
    seen = λ names c. seen.step_seen names span o post to (h.seen names c);
    used = λ flags m. step_used flags (length e.locals) span o post to (h.used flags m);
  }
