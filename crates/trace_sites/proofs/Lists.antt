-- Lists in a tree, one element more at a time.
use Rattle.std.proofs.Common.{◌≡◌, ℕ, ◌<◌, ◌+◌, suc, List, [], ◌∷◌, ◌++◌, length, take, get_or, ap, ◌∙◌, sym, arith, Vec, Global}
use Rattle.std.proofs.Math.Seq.{take-suc}
use Rattle.std.specs.Prelude.{Result, Ok, Err, OnOk, Box}
use Rattle.c_tree.specs.declared.tree.Listed.{Listed}
use Rattle.c_tree.specs.declared.tree.Expr.{Expr}
use Rattle.c_tree.specs.declared.tree.Expr as ex
use Rattle.c_tree.specs.declared.tree.Declarator.{Declarator}
use Rattle.c_tree.specs.declared.tree.Statement.{Statement}
use Rattle.c_tree.specs.declared.tree.Statement.TheVariants as st
use Rattle.c_tree.specs.View.{expr, parts_of, initial_of, declarators_of, statement, statements_of}
use Rattle.c_tree.proofs.Views.{parts_push, declarators_push, statements_push, statement_Block, expr_Call, expr_Comma}
use Rattle.trace_sites.specs.declared.site.Site.{Site}
use Rattle.trace_sites.specs.Expressions.{draw_behind, expression_behind, parts_behind}
use Rattle.trace_sites.specs.Statements.{initial_behind, declarators_behind, cases_behind, all_cases_behind, statement_behind, all_behind}

take_more : {A : Type 0} (xs : List A) (i : ℕ) (d : A) → i < length xs → take (i + 1) xs ≡ take i xs ++ (get_or xs i d ∷ [])
take_more xs i d b = let e : i + 1 ≡ suc i = omega arith in rw e (take-suc xs i d b)

pub parts_more : (found : List Site) (xs : List Listed) (i : ℕ) (d : Listed) → i < length xs →
    parts_behind found (parts_of (take (i + 1) xs)) ≡ expression_behind (parts_behind found (parts_of (take i xs))) (expr (get_or xs i d).value.value)
parts_more found xs i d b = ap (λ ys. parts_behind found (parts_of ys)) (take_more xs i d b) ∙ ap (parts_behind found) (parts_push (take i xs) (get_or xs i d))

pub declarators_more : (found : List Site) (xs : List Declarator) (i : ℕ) (d : Declarator) → i < length xs →
    declarators_behind found (declarators_of (take (i + 1) xs)) ≡ initial_behind (declarators_behind found (declarators_of (take i xs))) (initial_of (get_or xs i d).initial)
declarators_more found xs i d b = ap (λ ys. declarators_behind found (declarators_of ys)) (take_more xs i d b) ∙ ap (declarators_behind found) (declarators_push (take i xs) (get_or xs i d))

pub cases_more : (found : List Site) (xs : List Statement) (i : ℕ) (d : Statement) → i < length xs →
    all_cases_behind found (statements_of (take (i + 1) xs)) ≡ cases_behind (all_cases_behind found (statements_of (take i xs))) (statement (get_or xs i d))
cases_more found xs i d b = ap (λ ys. all_cases_behind found (statements_of ys)) (take_more xs i d b) ∙ ap (all_cases_behind found) (statements_push (take i xs) (get_or xs i d))

pub statements_more : (found : List Site) (xs : List Statement) (i : ℕ) (d : Statement) → i < length xs →
    all_behind found (statements_of (take (i + 1) xs)) ≡ statement_behind (all_behind found (statements_of (take i xs))) (statement (get_or xs i d))
statements_more found xs i d b = ap (λ ys. all_behind found (statements_of ys)) (take_more xs i d b) ∙ ap (all_behind found) (statements_push (take i xs) (get_or xs i d))

-- ---- A node with a list, and what was found in it

pub call_arm : {A B : Type 0} (found middle new : List Site) (x g : Expr) (f : Box Expr Global) (a : ℕ) (es : Vec Listed Global) (b : ℕ) (xs : List Listed) (r : Result A B) → x ≡ ex.Call f a es b →
    xs ≡ es.items → g ≡ f.value → middle ≡ parts_behind found (parts_of xs) → OnOk r (new ≡ draw_behind middle (expr g)) → OnOk r (new ≡ expression_behind found (expr x))
call_arm found middle new x g f a es b xs (Ok y) p q e m h =
    h ∙ ap (λ z. draw_behind z (expr g)) (m ∙ ap (λ zs. parts_behind found (parts_of zs)) q) ∙ ap (λ z. draw_behind (parts_behind found (parts_of es.items)) (expr z)) e
    ∙ sym (ap (λ z. expression_behind found (expr z)) p ∙ ap (expression_behind found) (expr_Call f a es b))
call_arm found middle new x g f a es b xs (Err z) p q e m h = tt

pub comma_arm : {A B : Type 0} (found new : List Site) (x : Expr) (es : Vec Listed Global) (xs : List Listed) (r : Result A B) → x ≡ ex.Comma es → xs ≡ es.items →
    OnOk r (new ≡ parts_behind found (parts_of xs)) → OnOk r (new ≡ expression_behind found (expr x))
comma_arm found new x es xs (Ok y) p q h =
    h ∙ ap (λ zs. parts_behind found (parts_of zs)) q ∙ sym (ap (λ z. expression_behind found (expr z)) p ∙ ap (expression_behind found) (expr_Comma es))
comma_arm found new x es xs (Err e) p q h = tt

pub cases_arm : {A B : Type 0} (found new : List Site) (x : Statement) (a : ℕ) (ss : Vec Statement Global) (b : ℕ) (xs : List Statement) (r : Result A B) → x ≡ st.Block a ss b → xs ≡ ss.items →
    OnOk r (new ≡ all_cases_behind found (statements_of xs)) → OnOk r (new ≡ cases_behind found (statement x))
cases_arm found new x a ss b xs (Ok y) p q h =
    h ∙ ap (λ zs. all_cases_behind found (statements_of zs)) q ∙ sym (ap (λ z. cases_behind found (statement z)) p ∙ ap (cases_behind found) (statement_Block a ss b))
cases_arm found new x a ss b xs (Err e) p q h = tt

pub block_arm : {A B : Type 0} (found new : List Site) (x : Statement) (a : ℕ) (ss : Vec Statement Global) (b : ℕ) (xs : List Statement) (r : Result A B) → x ≡ st.Block a ss b → xs ≡ ss.items →
    OnOk r (new ≡ all_behind found (statements_of xs)) → OnOk r (new ≡ statement_behind found (statement x))
block_arm found new x a ss b xs (Ok y) p q h =
    h ∙ ap (λ zs. all_behind found (statements_of zs)) q ∙ sym (ap (λ z. statement_behind found (statement z)) p ∙ ap (statement_behind found) (statement_Block a ss b))
block_arm found new x a ss b xs (Err e) p q h = tt
