-- Lists, one element more at a time.
use Rattle.std.proofs.Common.{◌≡◌, ℕ, ◌<◌, ◌+◌, suc, Bool, List, [], ◌∷◌, ◌++◌, length, take, get_or, map, append_assoc, append-nil, Option, refl, ap, ◌∙◌, sym, arith}
use Rattle.std.specs.List.{list_any}
use Rattle.std.proofs.Math.Seq.{take-suc}
use Rattle.lv_base.specs.declared.kind.Kind.{Kind}
use Rattle.lv_base.specs.declared.kind.Model.{Model}
use Rattle.lv_base.specs.declared.fault.SourceFault.TheVariants as fault
use Rattle.c_tree.specs.declared.tree.Listed.{Listed}
use Rattle.c_tree.specs.declared.tree.Parameter.{Parameter}
use Rattle.c_tree.specs.declared.tree.Declarator.{Declarator}
use Rattle.c_tree.specs.declared.tree.Statement.{Statement}
use Rattle.c_tree.specs.declared.tree.Item.{Item}
use Rattle.c_tree.specs.Tree as t
use Rattle.c_tree.specs.View.{expr, parts_of, words_of, params_of, form_of, initial_of, declarators_of, statement, statements_of, item_of, items_of, items_behind}
use Rattle.c_tree.proofs.Views.{parts_push, params_push, declarators_push, statements_push}
use Rattle.c_run.specs.Breaking.{Broken, line}
use Rattle.c_meaning.specs.Bindings.{Env}
use Rattle.c_meaning.specs.Rules as r
use Rattle.first_broken.specs.Found.{Summary, summary, both}
use Rattle.first_broken.proofs.Least.{joined_is}
use Rattle.typing_rules.specs.Summed as s
use Rattle.source_rules.specs.Summed as a
use Rattle.source_rules.specs.Cases as c
use Rattle.source_rules.specs.declared.cases.Case.{Case}

pub take_more : {A : Type 0} (xs : List A) (i : ℕ) (d : A) → i < length xs → take (i + 1) xs ≡ take i xs ++ (get_or xs i d ∷ [])
take_more xs i d b = let e : i + 1 ≡ suc i = omega arith in rw e (take-suc xs i d b)

items_push_behind : (xs : List Item) (x : Item) (is : t.Items) → items_behind is (xs ++ x ∷ []) ≡ t.items_and (items_behind is xs) (item_of x)
items_push_behind [] x is = refl
items_push_behind (y ∷ xs) x is = items_push_behind xs x (t.items_and is (item_of y))

module _ (env : Env) (model : Model) (bodies : List (List ℕ)) (again : List ℕ) where
  pub firsts_more : (static : Bool) (xs : List Listed) (i : ℕ) (d : Listed) → i < length xs →
      a.firsts_all env model bodies again static (parts_of (take (i + 1) xs)) ≡ both (a.firsts_all env model bodies again static (parts_of (take i xs))) (a.first_all env model bodies again static (expr (get_or xs i d).value.value))
  firsts_more static xs i d b = ap (λ ys. a.firsts_all env model bodies again static (parts_of ys)) (take_more xs i d b) ∙ ap (a.firsts_all env model bodies again static) (parts_push (take i xs) (get_or xs i d))

  pub params_more : (xs : List Parameter) (i : ℕ) (d : Parameter) → i < length xs →
      a.params_all env model bodies again (params_of (take (i + 1) xs)) ≡ both (a.params_all env model bodies again (params_of (take i xs))) (s.found_of_words env model bodies again (words_of (get_or xs i d).specs))
  params_more xs i d b = ap (λ ys. a.params_all env model bodies again (params_of ys)) (take_more xs i d b) ∙ ap (a.params_all env model bodies again) (params_push (take i xs) (get_or xs i d))

  pub declarators_more : (static : Bool) (xs : List Declarator) (i : ℕ) (d : Declarator) → i < length xs →
      a.declarators_all env model bodies again static (declarators_of (take (i + 1) xs)) ≡ a.with_declarator env model bodies again static (a.declarators_all env model bodies again static (declarators_of (take i xs))) (form_of (get_or xs i d).form) (initial_of (get_or xs i d).initial)
  declarators_more static xs i d b = ap (λ ys. a.declarators_all env model bodies again static (declarators_of ys)) (take_more xs i d b) ∙ ap (a.declarators_all env model bodies again static) (declarators_push (take i xs) (get_or xs i d))

  pub statements_more : (k : Option Kind) (xs : List Statement) (i : ℕ) (d : Statement) → i < length xs →
      a.statements_all env model bodies again k (statements_of (take (i + 1) xs)) ≡ both (a.statements_all env model bodies again k (statements_of (take i xs))) (a.statement_all env model bodies again k (statement (get_or xs i d)))
  statements_more k xs i d b = ap (λ ys. a.statements_all env model bodies again k (statements_of ys)) (take_more xs i d b) ∙ ap (a.statements_all env model bodies again k) (statements_push (take i xs) (get_or xs i d))

  pub items_more : (xs : List Item) (i : ℕ) (d : Item) → i < length xs →
      a.items_all env model bodies again (items_of (take (i + 1) xs)) ≡ both (a.items_all env model bodies again (items_of (take i xs))) (a.item_all env model bodies again (item_of (get_or xs i d)))
  items_more xs i d b = ap (λ ys. a.items_all env model bodies again (items_of ys)) (take_more xs i d b) ∙ ap (a.items_all env model bodies again) (items_push_behind (take i xs) (get_or xs i d) t.no_items)

-- ---- Cases

module _ (env : Env) (model : Model) (k : Kind) where
  pub cases_more : (xs : List Statement) (i : ℕ) (d : Statement) → i < length xs →
      c.cases_in_all env model k (statements_of (take (i + 1) xs)) ≡ c.cases_in_all env model k (statements_of (take i xs)) ++ c.cases_in env model k (statement (get_or xs i d))
  cases_more xs i d b = ap (λ ys. c.cases_in_all env model k (statements_of ys)) (take_more xs i d b) ∙ ap (c.cases_in_all env model k) (statements_push (take i xs) (get_or xs i d))

pub map_behind : (xs : List Case) (x : Case) → c.cases (xs ++ x ∷ []) ≡ c.cases xs ++ c.case_of x ∷ []
map_behind [] x = refl
map_behind (y ∷ xs) x = ap (λ z. c.case_of y ∷ z) (map_behind xs x)

-- one case more
repeated_behind : (before xs : List r.Case) (x : r.Case) → c.repeated before (xs ++ x ∷ []) ≡ c.repeated before xs ++ line (list_any (r.is_same_case x) (before ++ xs)) fault.DuplicateCase (r.case_at x)
repeated_behind before [] x = append_nil_both (line (list_any (r.is_same_case x) before) fault.DuplicateCase (r.case_at x)) ∙ ap (λ z. line (list_any (r.is_same_case x) z) fault.DuplicateCase (r.case_at x)) (sym (append-nil before))
  where
    append_nil_both : (ys : List Broken) → ys ++ [] ≡ [] ++ ys
    append_nil_both ys = append-nil ys
repeated_behind before (y ∷ xs) x =
    ap (λ z. line (list_any (r.is_same_case y) before) fault.DuplicateCase (r.case_at y) ++ z)
    (repeated_behind (before ++ y ∷ []) xs x ∙ ap (λ z. c.repeated (before ++ y ∷ []) xs ++ line (list_any (r.is_same_case x) z) fault.DuplicateCase (r.case_at x)) (append_assoc before (y ∷ []) xs))
    ∙ sym (append_assoc (line (list_any (r.is_same_case y) before) fault.DuplicateCase (r.case_at y)) (c.repeated (before ++ y ∷ []) xs) (line (list_any (r.is_same_case x) (before ++ (y ∷ xs))) fault.DuplicateCase (r.case_at x)))

pub repeated_more : (xs : List Case) (i : ℕ) (d : Case) → i < length xs →
    summary (c.repeated [] (c.cases (take (i + 1) xs))) ≡ both (summary (c.repeated [] (c.cases (take i xs)))) (summary (line (list_any (r.is_same_case (c.case_of (get_or xs i d))) (c.cases (take i xs))) fault.DuplicateCase (r.case_at (c.case_of (get_or xs i d)))))
repeated_more xs i d b =
    ap (λ ys. summary (c.repeated [] (c.cases ys))) (take_more xs i d b) ∙ ap (λ ys. summary (c.repeated [] ys)) (map_behind (take i xs) (get_or xs i d))
    ∙ ap summary (repeated_behind [] (c.cases (take i xs)) (c.case_of (get_or xs i d)))
    ∙ joined_is (c.repeated [] (c.cases (take i xs))) (line (list_any (r.is_same_case (c.case_of (get_or xs i d))) (c.cases (take i xs))) fault.DuplicateCase (r.case_at (c.case_of (get_or xs i d))))
