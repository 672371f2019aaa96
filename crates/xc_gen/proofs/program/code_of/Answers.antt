use Rattle.xc_isa.specs.Texts.{HasText}
use Rattle.std.proofs.Common.{◌≡◌, ◌+◌, ◌-◌, ◌*◌, ◌<◌, ◌^◌, [], length, map, sym, ap, ◌∙◌, subst, arith}
use Rattle.xc_meaning.specs.Terms.{command_of, body_of, program_of}
use Rattle.xc_gen.specs.Fits.{most_globals, NamesIn}
use Rattle.xc_gen.specs.Globals.{runs_of}
use Rattle.xc_gen.specs.Code.{waiting_for, whole_code}
use Rattle.xc_gen.proofs.Laid.{names, translated, has_text}
use Rattle.xc_gen.proofs.Lines.{few_lines, few_wait}
use Rattle.xc_gen.proofs.Whole.{Translated, faithful, no_stuck, ends}
use Rattle.xc_gen.proofs.program.code_of.Goals as goal

pub emit_whole-requires-clause-names : goal.emit_whole-requires-clause-names
emit_whole-requires-clause-names c =
    let body : (program_of c.args.tree.now).body ≡ command_of c.get.result.now = ap body_of c.main_func.ensures.found ∙ ap command_of (sym c.get.ensures) in
    subst (NamesIn most_globals) body (names c.args.tree.now c.requires.built)

pub emit_whole-requires-clause-room : goal.emit_whole-requires-clause-room
emit_whole-requires-clause-room c =
    let body : (program_of c.args.tree.now).body ≡ command_of c.get.result.now = ap body_of c.main_func.ensures.found ∙ ap command_of (sym c.get.ensures) in
    subst (λ b. waiting_for b + 1 < 2 ^ 32) body (few_wait c.args.tree.now c.requires.small)

pub invariant_of-result : goal.invariant_of-result
invariant_of-result c =
    let t = c.args.tree.now in
    let globals : c.in_ok-globals.globals ≡ map runs_of t.globals = c.in_ok-globals.ensures ∙ ap (map runs_of) c.as_slice.ensures in
    let formats : c.in_ok-formats.formats ≡ t.formats = c.in_ok-formats.ensures ∙ c.as_slice-2.ensures in
    let body : (program_of t).body ≡ command_of c.get.result.now = ap body_of c.main_func.ensures.found ∙ ap command_of (sym c.get.ensures) in
    let code : c.in_ok-instrs.instrs ≡ whole_code (program_of t).body = c.in_ok-instrs.ensures ∙ ap whole_code (sym body) in
    let short : 2 + 2 * length t.globals + length t.formats + length c.in_ok-instrs.instrs < 2 ^ 32 - 1 = subst (λ is. 2 + 2 * length t.globals + length t.formats + length is < 2 ^ 32 - 1) (sym code) (few_lines t c.requires.small) in
    let text = has_text t c.in_ok-instrs.instrs short in
    record {
      has_text = subst (λ l. HasText c.in_ok-globals.globals c.in_ok-formats.formats l c.in_ok-instrs.instrs) (sym c.new.ensures)
          (subst (λ f. HasText c.in_ok-globals.globals f [] c.in_ok-instrs.instrs) (sym formats) (subst (λ g. HasText g t.formats [] c.in_ok-instrs.instrs) (sym globals) text));
    }

-- the code is that of the program
done : (c : goal.After-result-1) → Translated (program_of c.args.tree.now) (record { globals = c.in_ok-globals.globals; formats = c.in_ok-formats.formats; loops = c.new.result; instrs = c.in_ok-instrs.instrs; has_text = c.result-1.given.0 })
done c =
    let t = c.args.tree.now in
    let body : (program_of t).body ≡ command_of c.get.result.now = ap body_of c.main_func.ensures.found ∙ ap command_of (sym c.get.ensures) in
    translated t c.requires.built _ (c.in_ok-globals.ensures ∙ ap (map runs_of) c.as_slice.ensures) (c.in_ok-formats.ensures ∙ c.as_slice-2.ensures) (c.in_ok-instrs.ensures ∙ ap whole_code (sym body))
    (let few = few_wait t c.requires.small in omega (arith, few))

pub returns-clause-faithful : goal.returns-clause-faithful
returns-clause-faithful c = faithful (program_of c.args.tree.now) _ (done c)

pub returns-clause-no_stuck : goal.returns-clause-no_stuck
returns-clause-no_stuck c = no_stuck (program_of c.args.tree.now) _ (done c)

pub returns-clause-ends : goal.returns-clause-ends
returns-clause-ends c = ends (program_of c.args.tree.now) _ (done c)
