-- Lists, one element more at a time.
use Rattle.std.proofs.Common.{◌≡◌, ℕ, ◌<◌, ◌+◌, Bool, true, false, ◌||◌, List, [], ◌∷◌, ◌++◌, length, take, get_or, map, append_assoc, append-nil, refl, ap, ◌∙◌, sym}
use Rattle.std.specs.List.{list_any}
use Rattle.std.proofs.lemmas.List.{take_more, map_push, map_more}
use Rattle.lv_base.specs.declared.kind.Model.{Model}
use Rattle.c_tree.specs.declared.tree.Item.{Item}
use Rattle.c_tree.specs.Tree as t
use Rattle.c_tree.specs.View.{item_of, items_of, items_behind}
use Rattle.c_run.specs.Breaking as br
use Rattle.c_run.specs.Breaking.{line}
use Rattle.c_meaning.specs.Bindings as b
use Rattle.first_broken.specs.declared.lines.Broken.{Broken}
use Rattle.first_broken.specs.Found.{summary, both}
use Rattle.first_broken.specs.Seen.{broken_of}
use Rattle.first_broken.proofs.Least.{joined_is}
use Rattle.type_scopes.specs.declared.entries.Entry.{Entry}
use Rattle.type_scopes.specs.Seen.{entry_of}
use Rattle.declaration_rules.specs.Twice as d
use Rattle.declaration_rules.specs.Mains as m

pub any_push : {A : Type 0} (p : A → Bool) (xs : List A) (x : A) → list_any p (xs ++ x ∷ []) ≡ (p x || list_any p xs)
any_push p [] x = refl
any_push p (y ∷ xs) x = ap (λ z. p y || z) (any_push p xs x) ∙ turn (p y) (p x) (list_any p xs)
  where
    turn : (b c d : Bool) → (b || (c || d)) ≡ (c || (b || d))
    turn true true d = refl
    turn true false d = refl
    turn false c d = refl

pub lines_push : (xs : List Broken) (x : Broken) → map broken_of (xs ++ x ∷ []) ≡ map broken_of xs ++ broken_of x ∷ []
lines_push xs x = map_push broken_of xs x

module _ (env : b.Env) (model : Model) where
  pub twice_push : (before xs : List b.Entry) (x : b.Entry) → d.twice env model before (xs ++ x ∷ []) ≡ d.twice env model before xs ++ d.lines_of env model (before ++ xs) x
  twice_push before [] x = append-nil (d.lines_of env model before x) ∙ ap (λ z. d.lines_of env model z x) (sym (append-nil before))
  twice_push before (y ∷ xs) x =
      ap (λ z. d.lines_of env model before y ++ z) (twice_push (before ++ y ∷ []) xs x ∙ ap (λ z. d.twice env model (before ++ y ∷ []) xs ++ d.lines_of env model z x) (append_assoc before (y ∷ []) xs))
      ∙ sym (append_assoc (d.lines_of env model before y) (d.twice env model (before ++ y ∷ []) xs) (d.lines_of env model (before ++ (y ∷ xs)) x))

pub summed_more : (xs : List Broken) (i : ℕ) (f : Broken) → i < length xs →
    summary (map broken_of (take (i + 1) xs)) ≡ both (summary (map broken_of (take i xs))) (summary (line true (get_or xs i f).fault (get_or xs i f).at))
summed_more xs i f h = ap summary (map_more broken_of xs i f h) ∙ joined_is (map broken_of (take i xs)) (broken_of (get_or xs i f) ∷ [])

pub offsets_more : (xs : List Broken) (i : ℕ) (f : Broken) → i < length xs →
    map (λ (x : br.Broken). x.at) (map broken_of (take (i + 1) xs)) ≡ map (λ (x : br.Broken). x.at) (map broken_of (take i xs)) ++ (get_or xs i f).at ∷ []
offsets_more xs i f h = ap (map (λ (x : br.Broken). x.at)) (map_more broken_of xs i f h) ∙ map_push (λ (x : br.Broken). x.at) (map broken_of (take i xs)) (broken_of (get_or xs i f))

items_push_behind : (xs : List Item) (x : Item) (is : t.Items) → items_behind is (xs ++ x ∷ []) ≡ t.items_and (items_behind is xs) (item_of x)
items_push_behind [] x is = refl
items_push_behind (y ∷ xs) x is = items_push_behind xs x (t.items_and is (item_of y))

pub mains_more : (env : b.Env) (xs : List Item) (i : ℕ) (f : Item) → i < length xs → m.mains_in env (items_of (take (i + 1) xs)) ≡ m.with_item env (m.mains_in env (items_of (take i xs))) (item_of (get_or xs i f))
mains_more env xs i f h = ap (λ ys. m.mains_in env (items_of ys)) (take_more xs i f h) ∙ ap (m.mains_in env) (items_push_behind (take i xs) (get_or xs i f) t.no_items)
