-- Two shaped trees with the same tokens are equal, of whatever height.
use Rattle.std.proofs.Common.{◌≡◌, ℕ, List, [], ◌∷◌, refl, subst, sym, ap, ◌∙◌}
use Rattle.c_tree.specs.declared.symbol.Symbol.TheVariants as sy
use Rattle.c_tree.specs.declared.symbol.SymbolAt.{SymbolAt}
use Rattle.c_tree.specs.Symbols.{sign}
use Rattle.c_tree.specs.Spelling.{spell_item, spell_items}
use Rattle.c_tree.specs.Shape as sh
use Rattle.c_tree.specs.Denotes.{IsSpelled}
use Rattle.c_tree.specs.Tree.{Item, Items, no_items, items_and}
use Rattle.first_token_laws.proofs.UniqueItem.{item_same, not_end}

-- the items in their order
abbrev in_order : Items → List Item → List Item
in_order no_items l = l
in_order (items_and is i) l = in_order is (i ∷ l)

abbrev spell_list : List Item → List SymbolAt → List SymbolAt
spell_list [] r = r
spell_list (i ∷ l) r = spell_item i (spell_list l r)

abbrev ShapedList : List (List ℕ) → List Item → Type 0
ShapedList ns [] = Unit {0}
ShapedList ns (i ∷ l) = sh.ShapedItem i ns × ShapedList (sh.item_names i ns) l

order_spells : (is : Items) (l : List Item) (r : List SymbolAt) → spell_list (in_order is l) r ≡ spell_items is (spell_list l r)
order_spells no_items l r = refl
order_spells (items_and is i) l r = order_spells is (i ∷ l) r

order_shaped : (is : Items) (l : List Item) → sh.ShapedItems is → ShapedList (sh.file_names is) l → ShapedList [] (in_order is l)
order_shaped no_items l s t = t
order_shaped (items_and is i) l s t = order_shaped is (i ∷ l) s.0 (s.1, t)

abbrev back_from : List Item → Items → Items
back_from [] is = is
back_from (i ∷ l) is = back_from l (items_and is i)

order_back : (is : Items) (l : List Item) → back_from (in_order is l) no_items ≡ back_from l is
order_back no_items l = refl
order_back (items_and is i) l = order_back is (i ∷ l)

list_same : (l m : List Item) (ns : List (List ℕ)) (a c : ℕ) → ShapedList ns l → ShapedList ns m → spell_list l (sign sy.End a ∷ []) ≡ spell_list m (sign sy.End c ∷ []) → l ≡ m
list_same [] [] ns a c s t h = refl
list_same [] (j ∷ m) ns a c s t h = absurd (not_end j ns _ a t.0 (sym h))
list_same (i ∷ l) [] ns a c s t h = absurd (not_end i ns _ c s.0 h)
list_same (i ∷ l) (j ∷ m) ns a c s t h =
    let z = item_same i j ns _ _ s.0 t.0 h in
    ap (λ k. i ∷ k) (list_same l m (sh.item_names i ns) a c s.1 (subst (λ k. ShapedList (sh.item_names k ns) m) (sym z.0) t.1) z.1) ∙ ap (λ k. k ∷ m) z.0

-- Two shaped trees with the same tokens are equal.
pub one_tree : (tokens : List SymbolAt) (a c : Items) → IsSpelled tokens a → IsSpelled tokens c → a ≡ c
one_tree tokens a c f g =
    let e = list_same (in_order a []) (in_order c []) [] f.end g.end (order_shaped a [] f.shaped tt) (order_shaped c [] g.shaped tt) (order_spells a [] _ ∙ f.spelled ∙ sym g.spelled ∙ sym (order_spells c [] _)) in
    sym (order_back a []) ∙ ap (λ l. back_from l no_items) e ∙ order_back c []
