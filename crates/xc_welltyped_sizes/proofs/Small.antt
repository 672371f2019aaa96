-- The tree of a text is small.
use Rattle.std.proofs.Common.{◌≡◌, ℕ, ◌*◌, ◌^◌, ◌≤◌, List, length, sym, ap, subst, arith, Some}
use Rattle.xc_lex.specs.declared.token.Token.{Token}
use Rattle.xc_raw.specs.declared.tree.Raw.{Raw}
use Rattle.xc_parse.specs.Texts.{words_of, Parsed}
use Rattle.xc_tree.specs.declared.tree.Tree.{Tree}
use Rattle.xc_type_literals.specs.Texts.{formats_of}
use Rattle.xc_type_expressions.specs.declared.text.Text.{Text}
use Rattle.xc_type_unit.specs.Texts.{whole}
use Rattle.xc_tree_sizes.specs.Nodes.{IsSmall}
use Rattle.xc_welltyped_counts.specs.Sizes.{size}
use Rattle.xc_welltyped_counts.proofs.Sizes.{text_paid}
use Rattle.xc_welltyped_counts.proofs.Few.{formats_few}
use Rattle.xc_welltyped_sizes.proofs.Items.{whole_holds}

-- at most 35 nodes for a token in functions, 5 objects and one format
pub tree_small : (source : List ℕ) (tokens : List Token) (t : Text) (raw : Raw) (tree : Tree) → t.tokens.now ≡ tokens → length tokens ≤ 2 ^ 20 → Parsed (words_of source tokens) raw →
    tree.globals ≡ (whole t raw).scope.globals → (whole t raw).scope.funcs ≡ Some tree.funcs → tree.formats ≡ formats_of source tokens → IsSmall tree
tree_small source tokens t raw tree same few parsed globals funcs formats =
    let h = whole_holds t raw in
    let objects = h.objects_few in
    let large : size t.tokens.now raw ≤ 5 * 2 ^ 20 = subst (λ ts. size ts raw ≤ 5 * 2 ^ 20) (sym same) (omega (arith, few, text_paid tokens source raw parsed)) in
    omega (arith, large, objects, h.nodes_few tree.funcs funcs, ap length globals, ap length formats, formats_few source tokens, few)
