-- A program of two threads that is Quiet: `main` stands in an open loop that writes a global, while the other thread declares an array,
-- whose segment may get any vacant number.
use Rattle.std.specs.Prelude.{true, false, [], ◌∷◌, Some, None}
use Rattle.xc_word.specs.declared.memory.Kind.TheVariants as kind
use Rattle.xc_word.specs.Table.{full_with, empty_with}
use Rattle.xc_tree.specs.declared.operator.BinOp.TheVariants as op
use Rattle.xc_meaning_terms.specs.Terms.{Term, Number, Local, Set, Global, Write, Normal, Command, Declare, Object, Eval, Loop, Future, Program}
use Rattle.xc_meaning_source.specs.Premises.{Quiet}
use Rattle.xc_meaning_samples.specs.Samples.{on_ints, add_to, one_by_one, block, function, range}

-- { int b[1]; }
abbrev pub other_body : Command
other_body = block (Object 0 1 [] [] ∷ [])

-- g = 7;
abbrev pub loop_body : Command
loop_body = Eval (Write kind.WriteXf (Global 0) (Number 7))

abbrev pub below_one : Term
below_one = on_ints op.Lt (Local 0) (Number 1)

-- int g; future int r$; int main() { int i; future r$() { int b[1]; } for (i = 0; i < 1; i++) g = 7; }
abbrev pub two_threads : Program
two_threads = record {
  globals = (full_with 0 ∷ []) ∷ (empty_with 0 ∷ []) ∷ [];
  formats = [];
  functions = function [] (
      Declare 0 None
      ∷ Future (Global 1) [] other_body
      ∷ Loop (record { mark = Normal (range 0 1 1); late = false; test = Some below_one; step = Some (add_to 0 (Number 1)) })
      (one_by_one (Eval (Set 0 (Number 0)) ∷ [])) loop_body ∷ []) ∷ [];
  main = 0;
}

-- its loop is automatic
abbrev pub TwoThreadsAreQuiet : Type 0
TwoThreadsAreQuiet = Quiet two_threads (λ id. true)
