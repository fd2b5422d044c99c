-- The height of the program's trees, list by list.
use Rattle.std.proofs.Common.{◌≡◌, ℕ, suc, max, List, [], ◌∷◌, length, drop, get_or, ◌<◌, ◌≤◌, ◌+◌, Option, refl, ap, ◌∙◌, arith, drop-cons, Vec, Global}
use Rattle.std.specs.Prelude.{Box}
use Rattle.c_tree.specs.declared.tree.Attribute.{Attribute}
use Rattle.c_tree.specs.declared.tree.Listed.{Listed}
use Rattle.c_tree.specs.declared.tree.Specs.{Specs}
use Rattle.c_tree.specs.declared.tree.Enumerator.{Enumerator, Plain, Valued'}
use Rattle.c_tree.specs.declared.tree.Spec.{Spec, Enum, TagEnum}
use Rattle.c_tree.specs.declared.tree.Expr.{Expr, Call, Cast, SizeofType, Comma}
use Rattle.c_tree.specs.declared.tree.Parameter.{Parameter}
use Rattle.c_tree.specs.declared.tree.Declarator.{Declarator}
use Rattle.c_tree.specs.declared.tree.Statement.{Statement}
use Rattle.c_tree.specs.declared.tree.Statement.TheVariants as st
use Rattle.c_tree.specs.declared.tree.Item.{Item}
use Rattle.c_tree.specs.Tree as t
use Rattle.c_tree.specs.View.{expr, word, parts_of, parts_behind, words_of, words_behind, enumerators_of, enumerators_behind, enumerator_behind, params_of, params_behind, option_name, declarators_of, declarators_behind, declarator_behind, attributes_of, attributes_behind, attribute_of, statement, statements_of, statements_behind, items_of, items_behind, item_of}
use Rattle.c_tree.specs.Height.{height, height_parts, height_words, height_specs, height_word, height_enumerators, height_params, height_declarators, height_attributes, height_statement, height_statements, height_items}
use Rattle.c_tree.specs.Highest.{highest, part_height, spec_height, enumerator_height, parameter_height, declarator_height, statement_height, item_height}
use Rattle.c_tree.proofs.Views.{expr_Call, expr_Comma, expr_Cast, expr_SizeofType, word_Enum, word_TagEnum, statement_Block}

-- one element more: what was before it, and what is left
pub highest_more : {A : Type 0} (h : A → ℕ) (xs : List A) (i : ℕ) (d : A) (most : ℕ) → i < length xs → max most (highest h (drop i xs)) ≡ max (max most (h (get_or xs i d))) (highest h (drop (i + 1) xs))
highest_more h xs i d most b = let e : i + 1 ≡ suc i = omega arith in rw e (ap (λ ys. max most (highest h ys)) (drop-cons xs i d b) ∙ omega arith)

parts_more : (xs : List Listed) (es : t.Parts) → height_parts (parts_behind es xs) ≡ max (height_parts es) (highest part_height xs)
parts_more [] es = omega arith
parts_more (x ∷ xs) es = parts_more xs (t.parts_and es x.comma (expr x.value.value)) ∙ omega arith

pub height_parts_of : (xs : List Listed) → height_parts (parts_of xs) ≡ highest part_height xs
height_parts_of xs = parts_more xs t.no_parts ∙ omega arith

words_more : (xs : List Spec) (ws : t.Words) → height_words (words_behind ws xs) ≡ max (height_words ws) (highest spec_height xs)
words_more [] ws = omega arith
words_more (x ∷ xs) ws = words_more xs (t.words_and ws (word x)) ∙ omega arith

height_words_of : (xs : List Spec) → height_words (words_behind t.no_words xs) ≡ highest spec_height xs
height_words_of xs = words_more xs t.no_words ∙ omega arith

pub height_specs_of : (s : Specs) → height_specs (words_of s) ≡ suc (highest spec_height s.words.items)
height_specs_of s = ap suc (height_words_of s.words.items)

enumerator_more : (e : Enumerator) (es : t.Ens) → height_enumerators (enumerator_behind es e) ≡ max (height_enumerators es) (enumerator_height e)
enumerator_more (Plain c n at) es = refl
enumerator_more (Valued' c n a b p e) es = omega arith

enumerators_more : (xs : List Enumerator) (es : t.Ens) → height_enumerators (enumerators_behind es xs) ≡ max (height_enumerators es) (highest enumerator_height xs)
enumerators_more [] es = omega arith
enumerators_more (x ∷ xs) es = enumerators_more xs (enumerator_behind es x) ∙ omega (arith, enumerator_more x es)

height_enumerators_of : (xs : List Enumerator) → height_enumerators (enumerators_of xs) ≡ highest enumerator_height xs
height_enumerators_of xs = enumerators_more xs t.no_enumerators ∙ omega arith

params_more : (xs : List Parameter) (ps : t.Params) → height_params (params_behind ps xs) ≡ max (height_params ps) (highest parameter_height xs)
params_more [] ps = omega arith
params_more (x ∷ xs) ps = params_more xs (t.params_and ps x.comma (words_of x.specs) (option_name x.name)) ∙ omega arith

pub height_params_of : (xs : List Parameter) → height_params (params_of xs) ≡ highest parameter_height xs
height_params_of xs = params_more xs t.no_params ∙ omega arith

declarators_more : (xs : List Declarator) (ds : t.Decs) → height_declarators (declarators_behind ds xs) ≡ max (height_declarators ds) (highest declarator_height xs)
declarators_more [] ds = omega arith
declarators_more (x ∷ xs) ds = declarators_more xs (declarator_behind ds x) ∙ omega arith

pub height_declarators_of : (xs : List Declarator) → height_declarators (declarators_of xs) ≡ highest declarator_height xs
height_declarators_of xs = declarators_more xs t.no_declarators ∙ omega arith

statements_more : (xs : List Statement) (ss : t.Sts) → height_statements (statements_behind ss xs) ≡ max (height_statements ss) (highest statement_height xs)
statements_more [] ss = omega arith
statements_more (x ∷ xs) ss = statements_more xs (t.statements_and ss (statement x)) ∙ omega arith

pub height_statements_of : (xs : List Statement) → height_statements (statements_of xs) ≡ highest statement_height xs
height_statements_of xs = statements_more xs t.no_statements ∙ omega arith

items_more : (xs : List Item) (is : t.Items) → height_items (items_behind is xs) ≡ max (height_items is) (highest item_height xs)
items_more [] is = omega arith
items_more (x ∷ xs) is = items_more xs (t.items_and is (item_of x)) ∙ omega arith

pub height_items_of : (xs : List Item) → height_items (items_of xs) ≡ highest item_height xs
height_items_of xs = items_more xs t.no_items ∙ omega arith

attributes_more : (xs : List Attribute) (ats : t.Ats) (a : t.At) → height_attributes (attributes_behind (t.attributes_and ats a) xs) ≡ 1
attributes_more [] ats a = refl
attributes_more (x ∷ xs) ats a = attributes_more xs (t.attributes_and ats a) (attribute_of x)

pub height_some_attributes : (xs : List Attribute) → 1 ≤ length xs → height_attributes (attributes_of xs) ≡ 1
height_some_attributes [] h = absurd (omega arith)
height_some_attributes (x ∷ xs) h = attributes_more xs t.no_attributes (attribute_of x)

pub height_Call : (f : Box Expr Global) (a : ℕ) (es : Vec Listed Global) (b : ℕ) → height (expr (Call f a es b)) ≡ suc (max (height (expr f.value)) (highest part_height es.items))
height_Call f a es b = ap height (expr_Call f a es b) ∙ ap (λ n. suc (max (height (expr f.value)) n)) (height_parts_of es.items)

pub height_Comma : (es : Vec Listed Global) → height (expr (Comma es)) ≡ suc (highest part_height es.items)
height_Comma es = ap height (expr_Comma es) ∙ ap suc (height_parts_of es.items)

pub height_Cast : (a : ℕ) (ws : Specs) (b : ℕ) (e : Box Expr Global) → height (expr (Cast a ws b e)) ≡ suc (max (suc (highest spec_height ws.words.items)) (height (expr e.value)))
height_Cast a ws b e = ap height (expr_Cast a ws b e) ∙ ap (λ n. suc (max (suc n) (height (expr e.value)))) (height_words_of ws.words.items)

pub height_SizeofType : (at : ℕ) (a : ℕ) (ws : Specs) (b : ℕ) → height (expr (SizeofType at a ws b)) ≡ suc (suc (highest spec_height ws.words.items))
height_SizeofType at a ws b = ap height (expr_SizeofType at a ws b) ∙ ap (λ n. suc (suc n)) (height_words_of ws.words.items)

pub height_Enum : (at : ℕ) (a : ℕ) (es : Vec Enumerator Global) (c : Option ℕ) (b : ℕ) → spec_height (Enum at a es c b) ≡ suc (highest enumerator_height es.items)
height_Enum at a es c b = ap height_word (word_Enum at a es c b) ∙ ap suc (height_enumerators_of es.items)

pub height_TagEnum : (at : ℕ) (n : List ℕ) (x : ℕ) (a : ℕ) (es : Vec Enumerator Global) (c : Option ℕ) (b : ℕ) → spec_height (TagEnum at n x a es c b) ≡ suc (highest enumerator_height es.items)
height_TagEnum at n x a es c b = ap height_word (word_TagEnum at n x a es c b) ∙ ap suc (height_enumerators_of es.items)

pub height_Block : (a : ℕ) (ss : Vec Statement Global) (b : ℕ) → statement_height (st.Block a ss b) ≡ suc (highest statement_height ss.items)
height_Block a ss b = ap height_statement (statement_Block a ss b) ∙ ap suc (height_statements_of ss.items)
