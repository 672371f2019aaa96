-- A word of 32 bits counts what a text declares.
use Rattle.std.proofs.Common.{◌≡◌, ℕ, ◌+◌, ◌*◌, ◌^◌, ◌≤◌, ◌<◌, List, [], ◌∷◌, ◌++◌, length, length-append, Bool, true, false, sym, subst, arith, Some, if◌then◌else◌}
use Rattle.std.specs.Prelude.{fold}
use Rattle.std.specs.List.{list_any}
use Rattle.std.proofs.lemmas.List.{length-map}
use Rattle.indexmap.specs.IndexSet.{insert_key}
use Rattle.xc_text_place.specs.Stretches.{stretch_eq}
use Rattle.xc_lex.specs.declared.token.Token.{Token}
use Rattle.xc_tree.specs.declared.tree.Func.{Func}
use Rattle.xc_raw.specs.declared.tree.Raw.{Raw}
use Rattle.xc_parse.specs.Texts.{words_of, Parsed}
use Rattle.xc_type_literals.specs.Texts.{is_text, stretch, with_text, stretches, text_at, formats_of}
use Rattle.xc_type_expressions.specs.declared.text.Text.{Text}
use Rattle.xc_type_unit.specs.Texts.{whole}
use Rattle.xc_welltyped_claims.specs.Table.{tys_of, struct_tys}
use Rattle.xc_welltyped_claims.proofs.Lists.{each_more}
use Rattle.xc_welltyped_counts.specs.Sizes.{size}
use Rattle.xc_welltyped_counts.specs.Few.{AreFew}
use Rattle.xc_welltyped_counts.proofs.Sizes.{text_paid}
use Rattle.xc_welltyped_counts.proofs.Items.{whole_holds}

-- formats ----------------------------------------------------------------------

-- a token brings one stretch at most
with_few : (known : List (ℕ × ℕ)) (x : Token) → length (with_text known x) ≤ length known + 1
with_few known x = by (is_text x)
  where
    inserted : (b : Bool) → length (if b then known else known ++ stretch x ∷ []) ≤ length known + 1
    inserted true = omega arith
    inserted false = omega (arith, length-append known (stretch x ∷ []))

    by : (b : Bool) → length (if b then insert_key stretch_eq known (stretch x) else known) ≤ length known + 1
    by true = inserted (list_any (stretch_eq (stretch x)) known)
    by false = omega arith

fold_few : (ts : List Token) (known : List (ℕ × ℕ)) → length (fold with_text known ts) ≤ length known + length ts
fold_few [] known = omega arith
fold_few (x ∷ ts) known = omega (arith, with_few known x, fold_few ts (with_text known x))

pub formats_few : (source : List ℕ) (ts : List Token) → length (formats_of source ts) ≤ length ts
formats_few source ts = omega (arith, length-map (stretches ts) (text_at source), fold_few ts [])

-- texts ------------------------------------------------------------------------

pub whole_few : (source : List ℕ) (tokens : List Token) (t : Text) (raw : Raw) → t.tokens.now ≡ tokens → length tokens ≤ 2 ^ 20 → Parsed (words_of source tokens) raw →
    (funcs : List Func) → (whole t raw).scope.funcs ≡ Some funcs → AreFew (struct_tys (whole t raw).scope.env.structs.members) funcs (formats_of source tokens)
whole_few source tokens t raw same few parsed funcs known =
    let h = whole_holds t raw in
    let held = h.held in
    let f = h.funcs funcs known in
    let large : size t.tokens.now raw ≤ 5 * 2 ^ 20 = subst (λ ts. size ts raw ≤ 5 * 2 ^ 20) (sym same) (omega (arith, few, text_paid tokens source raw parsed)) in
    record {
      few_structs = omega (arith, large, held, length-map (whole t raw).scope.env.structs.members tys_of);
      few_funcs = omega (arith, large, f.0);
      few_formats = omega (arith, few, formats_few source tokens);
      few_locals = each_more (λ (g : Func). length g.locals ≤ size t.tokens.now raw) (λ (g : Func). length g.locals < 2 ^ 32) (λ g less. omega (arith, large, less)) funcs f.1;
    }
