-- Lists in a tree, one element more at a time.
use Rattle.std.proofs.Common.{◌≡◌, ℕ, ◌<◌, ◌+◌, suc, List, [], ◌∷◌, ◌++◌, length, take, get_or, refl, ap, ◌∙◌, sym, arith, Vec, Global}
use Rattle.std.proofs.Math.Seq.{take-suc}
use Rattle.std.specs.Prelude.{Result, Ok, Err, OnOk}
use Rattle.c_tree.specs.declared.tree.Statement.{Statement}
use Rattle.c_tree.specs.declared.tree.Statement.TheVariants as st
use Rattle.c_tree.specs.declared.tree.Item.{Item}
use Rattle.c_tree.specs.Tree as t
use Rattle.c_tree.specs.View.{statement, statements_of, items_of, items_behind, item_of}
use Rattle.c_tree.proofs.Views.{statements_push, statement_Block}
use Rattle.witness_places.specs.declared.loops.LoopPlace.{LoopPlace}
use Rattle.witness_places.specs.Loops.{loops_behind, all_behind, item_behind, main_loops}
use Rattle.witness_places.specs.Functions.{in_item, function_around}

take_more : {A : Type 0} (xs : List A) (i : ℕ) (d : A) → i < length xs → take (i + 1) xs ≡ take i xs ++ (get_or xs i d ∷ [])
take_more xs i d b = let e : i + 1 ≡ suc i = omega arith in rw e (take-suc xs i d b)

pub statements_more : (found : List LoopPlace) (xs : List Statement) (i : ℕ) (d : Statement) → i < length xs →
    all_behind found (statements_of (take (i + 1) xs)) ≡ loops_behind (all_behind found (statements_of (take i xs))) (statement (get_or xs i d))
statements_more found xs i d b = ap (λ ys. all_behind found (statements_of ys)) (take_more xs i d b) ∙ ap (all_behind found) (statements_push (take i xs) (get_or xs i d))

items_push_behind : (xs : List Item) (x : Item) (is : t.Items) → items_behind is (xs ++ x ∷ []) ≡ t.items_and (items_behind is xs) (item_of x)
items_push_behind [] x is = refl
items_push_behind (y ∷ xs) x is = items_push_behind xs x (t.items_and is (item_of y))

items_take : (xs : List Item) (i : ℕ) (d : Item) → i < length xs → items_of (take (i + 1) xs) ≡ t.items_and (items_of (take i xs)) (item_of (get_or xs i d))
items_take xs i d b = ap items_of (take_more xs i d b) ∙ items_push_behind (take i xs) (get_or xs i d) t.no_items

pub items_more : (xs : List Item) (i : ℕ) (d : Item) → i < length xs →
    main_loops (items_of (take (i + 1) xs)) ≡ item_behind (main_loops (items_of (take i xs))) (item_of (get_or xs i d))
items_more xs i d b = ap main_loops (items_take xs i d b)

pub around_more : (at : ℕ) (xs : List Item) (i : ℕ) (d : Item) → i < length xs →
    function_around (items_of (take (i + 1) xs)) at ≡ in_item (function_around (items_of (take i xs)) at) (item_of (get_or xs i d)) at
around_more at xs i d b = ap (λ is. function_around is at) (items_take xs i d b)

pub block_arm : {A B : Type 0} (found new : List LoopPlace) (x : Statement) (a : ℕ) (ss : Vec Statement Global) (b : ℕ) (r : Result A B) → x ≡ st.Block a ss b →
    OnOk r (new ≡ all_behind found (statements_of ss.items)) → OnOk r (new ≡ loops_behind found (statement x))
block_arm found new x a ss b (Ok y) p h = h ∙ sym (ap (λ z. loops_behind found (statement z)) p ∙ ap (loops_behind found) (statement_Block a ss b))
block_arm found new x a ss b (Err e) p h = tt
