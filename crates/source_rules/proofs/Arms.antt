-- What loops and arms give, by the answers of the calls in them.
use Rattle.std.proofs.Common.{◌≡◌, ℕ, ◌<◌, ◌+◌, Bool, List, [], ◌∷◌, ◌++◌, length, take, get_or, append_assoc, Option, Result, Ok, Err, refl, ap, ◌∙◌, sym, Vec, Global, ◌||◌}
use Rattle.std.specs.Prelude.{IfOk}
use Rattle.std.specs.List.{list_any}
use Rattle.lv_base.specs.declared.kind.Kind.{Kind}
use Rattle.lv_base.specs.declared.kind.Model.{Model}
use Rattle.lv_base.specs.declared.fault.SourceFault.TheVariants as fault
use Rattle.c_tree.specs.declared.tree.Expr.{Expr}
use Rattle.c_tree.specs.declared.tree.Listed.{Listed}
use Rattle.c_tree.specs.declared.tree.Parameter.{Parameter}
use Rattle.c_tree.specs.declared.tree.Declarator.{Declarator}
use Rattle.c_tree.specs.declared.tree.Statement.{Statement}
use Rattle.c_tree.specs.declared.tree.Statement.TheVariants as st
use Rattle.c_tree.proofs.Views.{statement_Block}
use Rattle.first_broken.specs.declared.lines.Found.{Found}
use Rattle.first_broken.specs.Seen.{found_of}
use Rattle.c_tree.specs.declared.tree.Item.{Item}
use Rattle.c_tree.specs.View.{expr, parts_of, words_of, params_of, form_of, initial_of, declarators_of, statement, statements_of, item_of, items_of}
use Rattle.c_run.specs.Breaking.{line}
use Rattle.c_meaning.specs.Bindings.{Env}
use Rattle.c_meaning.specs.Rules as r
use Rattle.first_broken.specs.Found.{Summary, summary, both}
use Rattle.typing_rules.specs.Summed as s
use Rattle.source_rules.specs.Summed as a
use Rattle.source_rules.specs.Cases as c
use Rattle.source_rules.specs.declared.cases.Case.{Case}
use Rattle.source_rules.proofs.Rows.{firsts_more, params_more, declarators_more, statements_more, items_more, cases_more}

module _ (env : Env) (model : Model) (bodies : List (List ℕ)) (again : List ℕ) where
  pub firsts_step : (b : Bool) (xs : List Listed) (i : ℕ) (x : Listed) (g : Expr) (all own new : Summary) → i < length xs → x ≡ get_or xs i x → g ≡ x.value.value →
      all ≡ a.firsts_all env model bodies again b (parts_of (take i xs)) → own ≡ a.first_all env model bodies again b (expr g) → new ≡ both all own → new ≡ a.firsts_all env model bodies again b (parts_of (take (i + 1) xs))
  firsts_step b xs i x g all own new l e q m o n =
      n ∙ ap (λ z. both z own) m ∙ ap (both (a.firsts_all env model bodies again b (parts_of (take i xs)))) (o ∙ ap (λ z. a.first_all env model bodies again b (expr z)) (q ∙ ap (λ y. y.value.value) e)) ∙ sym (firsts_more env model bodies again b xs i x l)

  pub params_step : (xs : List Parameter) (i : ℕ) (x : Parameter) (all own new : Summary) → i < length xs → x ≡ get_or xs i x →
      all ≡ a.params_all env model bodies again (params_of (take i xs)) → own ≡ s.found_of_words env model bodies again (words_of x.specs) → new ≡ both all own → new ≡ a.params_all env model bodies again (params_of (take (i + 1) xs))
  params_step xs i x all own new l e m o n =
      n ∙ ap (λ z. both z own) m ∙ ap (both (a.params_all env model bodies again (params_of (take i xs)))) (o ∙ ap (λ y. s.found_of_words env model bodies again (words_of y.specs)) e) ∙ sym (params_more env model bodies again xs i x l)

  pub declarators_step : (b : Bool) (xs : List Declarator) (i : ℕ) (x : Declarator) (all new : Summary) → i < length xs → x ≡ get_or xs i x →
      all ≡ a.declarators_all env model bodies again b (declarators_of (take i xs)) → new ≡ a.with_declarator env model bodies again b all (form_of x.form) (initial_of x.initial) → new ≡ a.declarators_all env model bodies again b (declarators_of (take (i + 1) xs))
  declarators_step b xs i x all new l e m n =
      n ∙ ap (λ z. a.with_declarator env model bodies again b z (form_of x.form) (initial_of x.initial)) m
      ∙ ap (λ y. a.with_declarator env model bodies again b (a.declarators_all env model bodies again b (declarators_of (take i xs))) (form_of y.form) (initial_of y.initial)) e
      ∙ sym (declarators_more env model bodies again b xs i x l)

  pub statements_step : (k : Option Kind) (xs : List Statement) (i : ℕ) (x : Statement) (all own new : Summary) → i < length xs → x ≡ get_or xs i x →
      all ≡ a.statements_all env model bodies again k (statements_of (take i xs)) → own ≡ a.statement_all env model bodies again k (statement x) → new ≡ both all own → new ≡ a.statements_all env model bodies again k (statements_of (take (i + 1) xs))
  statements_step k xs i x all own new l e m o n =
      n ∙ ap (λ z. both z own) m ∙ ap (both (a.statements_all env model bodies again k (statements_of (take i xs)))) (o ∙ ap (λ y. a.statement_all env model bodies again k (statement y)) e) ∙ sym (statements_more env model bodies again k xs i x l)

  pub block_arm : {A : Type 0} (k : Option Kind) (x : Statement) (n : ℕ) (ss : Vec Statement Global) (m : ℕ) (list : List Statement) (r : Result Found A) → x ≡ st.Block n ss m → list ≡ ss.items →
      IfOk r (λ f. found_of f ≡ a.statements_all env model bodies again k (statements_of list)) → IfOk r (λ f. found_of f ≡ a.statement_all env model bodies again k (statement x))
  block_arm k x n ss m list (Ok f) p q h =
      h ∙ ap (λ z. a.statements_all env model bodies again k (statements_of z)) q ∙ sym (ap (λ z. a.statement_all env model bodies again k (statement z)) p ∙ ap (a.statement_all env model bodies again k) (statement_Block n ss m))
  block_arm k x n ss m list (Err e) p q h = h

  pub items_step : (xs : List Item) (i : ℕ) (x : Item) (all own new : Summary) → i < length xs → x ≡ get_or xs i x →
      all ≡ a.items_all env model bodies again (items_of (take i xs)) → own ≡ a.item_all env model bodies again (item_of x) → new ≡ both all own → new ≡ a.items_all env model bodies again (items_of (take (i + 1) xs))
  items_step xs i x all own new l e m o n =
      n ∙ ap (λ z. both z own) m ∙ ap (both (a.items_all env model bodies again (items_of (take i xs)))) (o ∙ ap (λ y. a.item_all env model bodies again (item_of y)) e) ∙ sym (items_more env model bodies again xs i x l)

pub cases_block : {A B : Type 0} (env : Env) (model : Model) (k : Kind) (x : Statement) (n : ℕ) (ss : Vec Statement Global) (m : ℕ) (list : List Statement) (old new : List r.Case) (u : Result A B) → x ≡ st.Block n ss m → list ≡ ss.items →
    IfOk u (λ _. new ≡ old ++ c.cases_in_all env model k (statements_of list)) → IfOk u (λ _. new ≡ old ++ c.cases_in env model k (statement x))
cases_block env model k x n ss m list old new (Ok y) p q h =
    h ∙ ap (λ z. old ++ c.cases_in_all env model k (statements_of z)) q ∙ sym (ap (λ z. old ++ c.cases_in env model k (statement z)) p ∙ ap (λ z. old ++ c.cases_in env model k z) (statement_Block n ss m))
cases_block env model k x n ss m list old new (Err e) p q h = h

pub cases_step : (env : Env) (model : Model) (k : Kind) (xs : List Statement) (i : ℕ) (x : Statement) (old all new : List r.Case) → i < length xs → x ≡ get_or xs i x →
    all ≡ old ++ c.cases_in_all env model k (statements_of (take i xs)) → new ≡ all ++ c.cases_in env model k (statement x) → new ≡ old ++ c.cases_in_all env model k (statements_of (take (i + 1) xs))
cases_step env model k xs i x old all new l e m n =
    n ∙ ap (λ z. z ++ c.cases_in env model k (statement x)) m ∙ append_assoc old (c.cases_in_all env model k (statements_of (take i xs))) (c.cases_in env model k (statement x))
    ∙ ap (λ z. old ++ z) (ap (λ y. c.cases_in_all env model k (statements_of (take i xs)) ++ c.cases_in env model k (statement y)) e ∙ sym (cases_more env model k xs i x l))
