-- Lists that grow, and lists of two or more.
use Rattle.std.proofs.Common.{◌≡◌, ◌≤◌, List, [], ◌∷◌, ◌++◌, length, None, refl, arith}
use Rattle.c_tree.specs.declared.tree.Item.{Item}
use Rattle.c_tree.specs.declared.tree.Spec.{Spec}
use Rattle.c_tree.specs.Tree as tr
use Rattle.c_tree.specs.View.{items_of, items_behind, item_of, word, words_behind}
use Rattle.c_parser.specs.StateView.{extension_of}

items_more : (xs : List Item) (x : Item) (r : tr.Items) → items_behind r (xs ++ x ∷ []) ≡ tr.items_and (items_behind r xs) (item_of x)
items_more [] x r = refl
items_more (y ∷ xs) x r = items_more xs x (tr.items_and r (item_of y))

pub items_push : (xs : List Item) (x : Item) → items_of (xs ++ x ∷ []) ≡ tr.items_and (items_of xs) (item_of x)
items_push xs x = items_more xs x tr.no_items

no_extension : (ws : tr.Words) (v w : tr.Word) (xs : List Spec) → None ≡ extension_of (words_behind (tr.words_and (tr.words_and ws v) w) xs)
no_extension ws v w [] = refl
no_extension ws v w (x ∷ xs) = no_extension (tr.words_and ws v) w (word x) xs

-- two words or more are not one `__extension__`
pub two_words : (xs : List Spec) → 2 ≤ length xs → None ≡ extension_of (words_behind tr.no_words xs)
two_words [] h = absurd (omega arith)
two_words (x ∷ []) h = absurd (omega arith)
two_words (x ∷ (y ∷ xs)) h = no_extension tr.no_words (word x) (word y) xs
