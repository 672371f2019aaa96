use Rattle.std.proofs.Common.{◌≡◌, sym, ap, ◌∙◌, subst}
use Rattle.std.specs.Prelude.{IfOk}
use Rattle.std.specs.Option.{option_zip}
use Rattle.xc_type.specs.Checked.{struct_types}
use Rattle.xc_type.proofs.Trees.{all_known}
use Rattle.xc_type.proofs.made.made.Goals as goal

pub unreachable-requires : goal.unreachable-requires
unreachable-requires c =
    let whole = c.args.whole in
    let kept = c.in_ok-structs in
    let structs : kept.structs ≡ struct_types whole.scope.env.structs.members = subst (λ r. IfOk r (λ x. x.0 ≡ struct_types whole.scope.env.structs.members))
    kept.ensures.outcome c.structs_and_notes-copied.ensures.structs in
    let funcs : kept.funcs ≡ whole.scope.funcs = ap (λ p. p.1) kept.ensures.part in
    all_known whole.scope whole.main c.args.formats c.requires
    ((λ i. option_zip whole.main (option_zip (sym funcs i) (sym structs i)))
    ∙ (ap (option_zip whole.main) (sym c.zip.ensures) ∙ (sym c.zip-2.ensures ∙ c.in-None.is)))
