-- A loop's statement is looked for part by part.
use Rattle.std.proofs.Common.{◌≡◌, rules, ℕ, suc, ◌+◌, ◌<◌, List, [], ◌∷◌, length, get_or, drop, map, refl, sym, ap, ◌∙◌, add-one}
use Rattle.std.specs.Prelude.{◌==◌, cond, Option, Some, None}
use Rattle.std.proofs.Math.Seq.{drop-cons}
use Rattle.std.proofs.lemmas.Grind.{common_steps}
use Rattle.xc_tree.specs.declared.stmt.Stmt.{Stmt}
use Rattle.xc_tree.specs.declared.stmt.StmtKind.{StmtKind, out-StmtKind}
use Rattle.xc_tree.specs.declared.stmt.Item.{Item, out-Item}
use Rattle.xc_tree.specs.declared.stmt.Item.TheOpen.{StmtKind-F, Item-F}
use Rattle.xc_tree.specs.declared.stmt.Item.TheFolds.{para-StmtKind, para-roll-Stmt, para-roll-StmtKind, para-roll-Item, map-StmtKind, map-Item}
use Rattle.xc_tree.specs.declared.stmt.Item.TheViews as stmt_views
use Rattle.xc_form_unstable.specs.Unstable.{Parts, or_else, first_of, item_step, loop_step, stmt_step, loop_in, loop_among, item_loop, item_loops, beside, loop_of_funcs, breach_of, span_of, unstable_at}
use Rattle.xc_tree.specs.declared.tree.Tree.{Tree}
use Rattle.xc_form.specs.Purity.{purity}
use Rattle.xc_form_stable.specs.Stable.{first_unstable}
use Rattle.xc_tree.specs.declared.tree.Func.{Func}

-- lists --------------------------------------------------------------------

pub first_rest : {A B : Type 0} (f : A → Option B) (xs : List A) (i : ℕ) (d : A) → i < length xs → f (get_or xs i d) ≡ None → first_of (map f (drop i xs)) ≡ first_of (map f (drop (i + 1) xs))
first_rest f xs i d lt none =
    rw add-one (ap (λ l. first_of (map f l)) (drop-cons xs i d lt) ∙ ap (λ x. or_else x (first_of (map f (drop (suc i) xs)))) none)

pub first_here : {A B : Type 0} (f : A → Option B) (xs : List A) (i : ℕ) (d : A) (b : B) → i < length xs → f (get_or xs i d) ≡ Some b → first_of (map f (drop i xs)) ≡ Some b
first_here f xs i d b lt here =
    ap (λ l. first_of (map f l)) (drop-cons xs i d lt) ∙ ap (λ x. or_else x (first_of (map f (drop (suc i) xs)))) here

told : {A B : Type 0} (f : A → B) (xs : List A) → map (λ p. p.1) (map {A = A} {B = A × B} (λ x. (x, f x)) xs) ≡ map f xs
told f [] = refl
told f (x ∷ xs) = ap (λ l. f x ∷ l) (told f xs)

-- statements ---------------------------------------------------------------

module _ (id : ℕ) where
  abbrev kind_loop : StmtKind → Stmt → Option Stmt
  kind_loop = para-StmtKind (Option Stmt) (Stmt → Option Stmt) (Option Stmt) item_step (loop_step id) stmt_step

  abbrev parts_of : StmtKind-F Item StmtKind Stmt → Parts
  parts_of l = map-StmtKind Item StmtKind Stmt (Item × Option Stmt) (StmtKind × (Stmt → Option Stmt)) (Stmt × Option Stmt)
      (λ i. (i, item_loop id i)) (λ k. (k, kind_loop k)) (λ s. (s, loop_in id s)) l

  abbrev pub level : Stmt → StmtKind-F Item StmtKind Stmt → Option Stmt
  level s StmtKind-F.Empty = None
  level s (StmtKind-F.Declare x init) = None
  level s (StmtKind-F.Eval e) = None
  level s (StmtKind-F.Block all) = loop_among id all
  level s (StmtKind-F.If test then None) = or_else (loop_in id then) None
  level s (StmtKind-F.If test then (Some other)) = or_else (loop_in id then) (loop_in id other)
  level s (StmtKind-F.Loop own _ init test step body pragmas) = cond (own == id) (Some s) (or_else (loop_among id init) (loop_in id body))
  level s (StmtKind-F.Switch value items) = item_loops id items
  level s (StmtKind-F.Return e) = None
  level s StmtKind-F.Break = None
  level s StmtKind-F.Continue = None
  level s (StmtKind-F.Future place captures body) = loop_in id body

  leveled : (s : Stmt) (l : StmtKind-F Item StmtKind Stmt) → loop_step id (parts_of l) s ≡ level s l
  leveled s StmtKind-F.Empty = refl
  leveled s (StmtKind-F.Declare x init) = refl
  leveled s (StmtKind-F.Eval e) = refl
  leveled s (StmtKind-F.Block all) = ap first_of (told (loop_in id) all)
  leveled s (StmtKind-F.If test then None) = refl
  leveled s (StmtKind-F.If test then (Some other)) = refl
  leveled s (StmtKind-F.Loop own _ init test step body pragmas) = ap (λ l. cond (own == id) (Some s) (or_else (first_of l) (loop_in id body))) (told (loop_in id) init)
  leveled s (StmtKind-F.Switch value items) = ap first_of (told (item_loop id) items)
  leveled s (StmtKind-F.Return e) = refl
  leveled s StmtKind-F.Break = refl
  leveled s StmtKind-F.Continue = refl
  leveled s (StmtKind-F.Future place captures body) = refl

  kind_opened : (k : StmtKind) (s : Stmt) → kind_loop k s ≡ loop_step id (parts_of (out-StmtKind k)) s
  unfolding out-StmtKind
  kind_opened k s = search (rules, stmt_views.the_lemmas, para-roll-StmtKind)

  pub loop_opened : (s : Stmt) → loop_in id s ≡ level s (out-StmtKind s.kind)
  loop_opened s = para-roll-Stmt (Option Stmt) (Stmt → Option Stmt) (Option Stmt) item_step (loop_step id) stmt_step (record { span = s.span; kind = s.kind })
      ∙ (kind_opened s.kind s ∙ leveled s (out-StmtKind s.kind))

  abbrev item_parts : Item-F Item StmtKind Stmt → Item-F (Item × Option Stmt) (StmtKind × (Stmt → Option Stmt)) (Stmt × Option Stmt)
  item_parts l = map-Item Item StmtKind Stmt (Item × Option Stmt) (StmtKind × (Stmt → Option Stmt)) (Stmt × Option Stmt)
      (λ i. (i, item_loop id i)) (λ k. (k, kind_loop k)) (λ s. (s, loop_in id s)) l

  abbrev pub item_level : Item-F Item StmtKind Stmt → Option Stmt
  item_level (Item-F.At w) = None
  item_level Item-F.Other = None
  item_level (Item-F.Do s) = loop_in id s

  item_leveled : (l : Item-F Item StmtKind Stmt) → item_step (item_parts l) ≡ item_level l
  item_leveled (Item-F.At w) = refl
  item_leveled Item-F.Other = refl
  item_leveled (Item-F.Do s) = refl

  pub item_opened : (i : Item) → item_loop id i ≡ item_level (out-Item i)
  item_opened i = ap (item_loop id) (sym (stmt_views.roll-out-Item i))
      ∙ (para-roll-Item (Option Stmt) (Stmt → Option Stmt) (Option Stmt) item_step (loop_step id) stmt_step (out-Item i) ∙ item_leveled (out-Item i))

pub func_here : (id : ℕ) (fs : List Func) (i : ℕ) (d : Func) (s : Stmt) → i < length fs → loop_in id (get_or fs i d).body ≡ Some s → loop_of_funcs id (drop i fs) ≡ Some (get_or fs i d, s)
func_here id fs i d s lt is = first_here (λ f. beside f (loop_in id f.body)) fs i d (get_or fs i d, s) lt (ap (beside (get_or fs i d)) is)

pub unstable_here : (t : Tree) (id i : ℕ) (f : Func) (s : Stmt) → i < length t.funcs → loop_of_funcs id (drop i t.funcs) ≡ loop_of_funcs id t.funcs → f ≡ get_or t.funcs i f → loop_in id f.body ≡ Some s →
    unstable_at t id ≡ span_of (first_unstable (purity t.funcs) f.locals s)
unstable_here t id i f s lt rest at is = ap (breach_of t.funcs) (sym rest ∙ (func_here id t.funcs i f s lt (sym (ap (λ g. loop_in id g.body) at) ∙ is) ∙ ap (λ g. Some (g, s)) (sym at)))

pub ruleset walk_rules = (common_steps, first_rest, first_here, loop_opened, item_opened, stmt_views.the_lemmas)
