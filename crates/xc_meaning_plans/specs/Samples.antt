-- Two small loops, `for (i = 0; i < 2; i++) s = a[1];` and `for (i = 0; i < 2; i++) a[i + 1] = a[i];`, each with a plan that runs its
-- iterations side by side.
use Rattle.std.specs.Prelude.{ℕ, Bool, true, false, List, [], ◌∷◌, Option, Some}
use Rattle.xc_word.specs.declared.memory.Kind.TheVariants.{ReadXx, WriteXf}
use Rattle.xc_tree.specs.declared.operator.BinOp.TheVariants as op
use Rattle.xc_tree.specs.declared.pragmas.Root.{Root}
use Rattle.xc_tree.specs.declared.pragmas.Root.TheVariants as root
use Rattle.xc_lin.specs.declared.certificate.Letter.TheVariants as letter
use Rattle.xc_lin.specs.declared.certificate.PartCert.{PartCert}
use Rattle.xc_lin.specs.declared.plan.Reason.{Reason}
use Rattle.xc_lin.specs.declared.plan.LoopPlan.{LoopPlan}
use Rattle.xc_meaning_terms.specs.declared.operation.Operation.TheVariants.{OnWords}
use Rattle.xc_meaning_terms.specs.Terms.{Term, Number, Local, Set, Global, Index, Read, Write, Binary, Range, Command, Eval}
use Rattle.xc_meaning_plans.specs.Sound.{Entry}

-- the loop over i = 0 and 1 with this body, whose references have these roots
abbrev pub twice : List Root → Command → Entry
twice roots body = record {
  range = record { id = 0; index = 0; order = op.Lt; down = false; step = 1; local_count = 2; stable = true; claims = record { nodep = []; noalias = []; roots = roots } };
  test = Some (Binary (OnWords op.Lt false) (Local 0) (Number 2));
  body = body;
}

-- an element of an array of three cells
abbrev pub element_at : Term → Term
element_at i = Index (Some 3) false 1 (Global 0) i

abbrev pub reading : Entry
reading = twice (root.Global 0 ∷ []) (Eval (Set 1 (Read ReadXx (element_at (Number 1)))))

abbrev pub shifting : Entry
shifting = twice (root.Global 0 ∷ root.Global 0 ∷ [])
    (Eval (Write WriteXf (element_at (Binary (OnWords op.Add false) (Local 0) (Number 1))) (Read ReadXx (element_at (Local 0)))))

abbrev pub whole_body : PartCert
whole_body = record { first = 0; end = 1; letter = letter.Parallel; pairs = []; scalars = [] }

abbrev pub side_by_side : Reason → LoopPlan
side_by_side why = record {
  letter = letter.Parallel;
  reason = why;
  cert = Some (record { id = 0; letter = letter.Parallel; parts = whole_body ∷ []; cross = [] });
  scans = [];
  guard = record { ranges = []; apart = [] };
}
