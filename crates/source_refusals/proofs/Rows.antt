-- Lists, one element more at a time, and the sum of all rules.
use Rattle.std.proofs.Common.{◌≡◌, ℕ, ◌<◌, ◌+◌, Bool, List, [], ◌∷◌, ◌++◌, length, drop, get_or, map, Some, refl, ap, ◌∙◌, sym}
use Rattle.std.specs.Prelude.{find, if◌then◌else◌}
use Rattle.std.proofs.lemmas.List.{drop_more}
use Rattle.lv_base.specs.declared.kind.Model.{Model}
use Rattle.c_tree.specs.declared.tree.Item.{Item}
use Rattle.c_tree.specs.Tree as t
use Rattle.c_tree.specs.View.{items_of}
use Rattle.c_run.specs.Breaking.{Broken}
use Rattle.c_meaning.specs.Bindings as b
use Rattle.c_meaning.specs.Program as program
use Rattle.c_meaning.specs.Rules as r
use Rattle.first_broken.specs.declared.lines.Broken as told_line
use Rattle.first_broken.specs.Found.{Summary, summary, both}
use Rattle.first_broken.specs.Seen.{broken_of}
use Rattle.first_broken.proofs.Least.{joined_is}
use Rattle.type_scopes.specs.declared.entries.Entry.{Entry}
use Rattle.type_scopes.specs.declared.entries.Object.{Object}
use Rattle.type_scopes.specs.Seen.{entry_of, object_of}
use Rattle.typing_rules.specs.Summed as ts
use Rattle.source_rules.specs.Summed as ss
use Rattle.declaration_rules.specs.Twice as d
use Rattle.declaration_rules.specs.Mains as m
use Rattle.declaration_rules.specs.Laws.{TwiceTold, MainTold}
use Rattle.typed_programs.specs.Parts as part
use Rattle.source_refusals.specs.Cells as c
use Rattle.source_refusals.specs.Refusals as re

pub passed_more : (cells : ℕ) (xs : List Object) (i : ℕ) (f : Object) → i < length xs →
    c.passed cells (map object_of (drop i xs))
    ≡ (if c.is_over cells (b.size_of_object (Some (object_of (get_or xs i f)))) then Some (record { at = (object_of (get_or xs i f)).at; count = c.count_after cells (b.size_of_object (Some (object_of (get_or xs i f)))) })
    else c.passed (cells + b.size_of_object (Some (object_of (get_or xs i f)))) (map object_of (drop (i + 1) xs)))
passed_more cells xs i f h = ap (λ ys. c.passed cells (map object_of ys)) (drop_more xs i f h)

-- ---- Names

nil_behind : (xs : List (List ℕ)) → xs ++ [] ≡ xs
nil_behind [] = refl
nil_behind (x ∷ xs) = ap (λ z. x ∷ z) (nil_behind xs)

module _ (env : b.Env) where
  names_more : (is : t.Items) (x : t.Item) → part.names_of is ≡ map (λ (f : program.Function). f.name) (program.functions_of env is) →
      part.names_of (t.items_and is x) ≡ map (λ (f : program.Function). f.name) (program.functions_of env (t.items_and is x))
  names_more is (t.tSkipped e a v b) h = nil_behind (part.names_of is) ∙ h
  names_more is (t.tFunction ws (t.named n at) ps ats (t.bBlock a ss b)) h = ap (λ z. z ++ n ∷ []) h ∙ last (program.functions_of env is) _
    where
      last : (fs : List program.Function) (g : program.Function) → map (λ (f : program.Function). f.name) fs ++ g.name ∷ [] ≡ map (λ (f : program.Function). f.name) (fs ++ g ∷ [])
      last [] g = refl
      last (f ∷ fs) g = ap (λ z. f.name ∷ z) (last fs g)
  names_more is (t.tFunction ws (t.named n at) ps ats (t.bSkipped a v b)) h = nil_behind (part.names_of is) ∙ h
  names_more is (t.tDeclaration x) h = nil_behind (part.names_of is) ∙ h
  names_more is (t.tEmpty at) h = nil_behind (part.names_of is) ∙ h

  pub names_are : (is : t.Items) → part.names_of is ≡ map (λ (f : program.Function). f.name) (program.functions_of env is)
  names_are t.no_items = refl
  names_are (t.items_and is x) = names_more is x (names_are is)

-- ---- The sum of all rules

whole_is : TwiceTold → MainTold → ss.ItemsSummed → (env : b.Env) (model : Model) (items : t.Items) (bodies : List (List ℕ)) (lines : List Broken) (again : List ℕ) (of_items twice main : Summary) →
    bodies ≡ part.names_of items → lines ≡ d.twice env model [] env.entries → again ≡ map (λ (x : Broken). x.at) lines → of_items ≡ ss.items_all env model bodies again items → twice ≡ summary lines → main ≡ m.main_found env items →
    both (both of_items twice) main ≡ summary (re.faults_in env model items)
whole_is told main_told summed env model items bodies lines again of_items twice main n l a i w x =
    let names = map (λ (f : program.Function). f.name) (program.functions_of env items) in
    let same : bodies ≡ names = n ∙ names_are env items in
    let found : lines ≡ r.redeclared env model bodies [] env.entries = l ∙ told env model bodies in
    let places : again ≡ ts.again_in env model bodies = a ∙ ap (map (λ (y : Broken). y.at)) found in
    let own : of_items ≡ summary (r.faults_of_items env model bodies items) = i ∙ ap (λ z. ss.items_all env model bodies z items) places ∙ summed env model bodies items in
    let last : main ≡ summary (r.main_line env model bodies (r.main_in env model bodies items)) = x ∙ main_told env model bodies items in
    ap (λ z. both (both z twice) main) own
    ∙ ap (λ z. both (both (summary (r.faults_of_items env model bodies items)) z) main) (w ∙ ap summary found)
    ∙ ap (λ z. both (both (summary (r.faults_of_items env model bodies items)) (summary (r.redeclared env model bodies [] env.entries))) z) last
    ∙ ap (λ z. both z (summary (r.main_line env model bodies (r.main_in env model bodies items)))) (sym (joined_is (r.faults_of_items env model bodies items) (r.redeclared env model bodies [] env.entries)))
    ∙ sym (joined_is (r.faults_of_items env model bodies items ++ r.redeclared env model bodies [] env.entries) (r.main_line env model bodies (r.main_in env model bodies items)))
    ∙ ap (λ z. summary (r.typing_faults env model z items)) same

-- what is handed on is what was made
pub all_are : TwiceTold → MainTold → ss.ItemsSummed → (env : b.Env) (model : Model) (all xs ys zs : List Item) (names bodies : List (List ℕ)) (lines ls ms : List told_line.Broken) (places again : List ℕ) (of_items twice main items_twice found : Summary) →
    xs ≡ all → names ≡ part.names_of (items_of xs) → map broken_of lines ≡ d.twice env model [] env.entries →
    ls ≡ lines → places ≡ map (λ (x : Broken). x.at) (map broken_of ls) →
    bodies ≡ names → again ≡ places → ys ≡ all → of_items ≡ ss.items_all env model bodies again (items_of ys) →
    zs ≡ all → main ≡ m.main_found env (items_of zs) → ms ≡ lines → twice ≡ summary (map broken_of ms) →
    items_twice ≡ both of_items twice → found ≡ both items_twice main →
    found ≡ summary (re.faults_in env model (items_of all))
all_are told main_told summed env model all xs ys zs names bodies lines ls ms places again of_items twice main items_twice found x n l ll a bn ap_is y i z o mm w e f =
    f ∙ ap (λ s. both s main) e
    ∙ whole_is told main_told summed env model (items_of all) bodies (map broken_of lines) again of_items twice main
    (bn ∙ n ∙ ap (λ is. part.names_of (items_of is)) x)
    l
    (ap_is ∙ a ∙ ap (λ bs. map (λ (y : Broken). y.at) (map broken_of bs)) ll)
    (i ∙ ap (λ is. ss.items_all env model bodies again (items_of is)) y)
    (w ∙ ap (λ bs. summary (map broken_of bs)) mm)
    (o ∙ ap (λ is. m.main_found env (items_of is)) z)
