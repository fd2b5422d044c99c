-- A list in the tree, seen by its elements.
use Rattle.std.proofs.Common.{◌≡◌, ℕ, List, [], ◌∷◌, ◌++◌, Option, refl, ap, ◌∙◌, Vec, Global}
use Rattle.std.specs.Prelude.{Box}
use Rattle.c_tree.specs.declared.symbol.SymbolAt.{SymbolAt}
use Rattle.c_tree.specs.declared.tree.Attribute.{Attribute}
use Rattle.c_tree.specs.declared.tree.Listed.{Listed}
use Rattle.c_tree.specs.declared.tree.Specs.{Specs}
use Rattle.c_tree.specs.declared.tree.Enumerator.{Enumerator}
use Rattle.c_tree.specs.declared.tree.Spec.{Spec, Enum, Enum', TagEnum, TagEnum', Row_of-Enumerator, end_of-Enumerator, more_of-Enumerator, items-the_row-Enumerator, items_hidden-the_row-Enumerator-2}
use Rattle.c_tree.specs.declared.tree.Expr.{Expr, Call, Call', Cast, Cast', SizeofType, SizeofType', Comma, Comma', Row_of-Spec, end_of-Spec, more_of-Spec, items-the_row-Spec, items_hidden-the_row-Spec-1, Row_of-Listed, end_of-Listed, more_of-Listed, items-the_row-Listed, items_hidden-the_row-Listed-0}
use Rattle.c_tree.specs.declared.tree.Parameter.{Parameter}
use Rattle.c_tree.specs.declared.tree.Declarator.{Declarator}
use Rattle.c_tree.specs.declared.tree.Statement.{Statement, Row_of-Statement, end_of-Statement, more_of-Statement, items-the_row-Statement, items_hidden-the_row-Statement-0}
use Rattle.c_tree.specs.declared.tree.Statement.TheVariants as st
use Rattle.c_tree.specs.Tree as t
use Rattle.c_tree.specs.View.{expr, part_row, word_row, word, enumerator_row, enumerator_behind, parts_of, parts_behind, words_of, words_behind, enumerators_of, enumerators_behind, params_of, params_behind, option_name, declarators_of, declarators_behind, declarator_behind, attributes_of, attributes_behind, attribute_of, raw_of, raw_behind, statement, statement_row, statements_of, statements_behind}
use mathlib.Core.Former.{Count}

raw_more : (xs : List SymbolAt) (x : SymbolAt) (r : t.Raw) → raw_behind r (xs ++ x ∷ []) ≡ t.raw_and (raw_behind r xs) x
raw_more [] x r = refl
raw_more (y ∷ xs) x r = raw_more xs x (t.raw_and r y)

pub raw_push : (xs : List SymbolAt) (x : SymbolAt) → raw_of (xs ++ x ∷ []) ≡ t.raw_and (raw_of xs) x
raw_push xs x = raw_more xs x t.no_raw

attributes_more : (xs : List Attribute) (x : Attribute) (r : t.Ats) → attributes_behind r (xs ++ x ∷ []) ≡ t.attributes_and (attributes_behind r xs) (attribute_of x)
attributes_more [] x r = refl
attributes_more (y ∷ xs) x r = attributes_more xs x (t.attributes_and r (attribute_of y))

pub attributes_push : (xs : List Attribute) (x : Attribute) → attributes_of (xs ++ x ∷ []) ≡ t.attributes_and (attributes_of xs) (attribute_of x)
attributes_push xs x = attributes_more xs x t.no_attributes

parts_more : (xs : List Listed) (x : Listed) (r : t.Parts) → parts_behind r (xs ++ x ∷ []) ≡ t.parts_and (parts_behind r xs) x.comma (expr x.value.value)
parts_more [] x r = refl
parts_more (y ∷ xs) x r = parts_more xs x (t.parts_and r y.comma (expr y.value.value))

pub parts_push : (xs : List Listed) (x : Listed) → parts_of (xs ++ x ∷ []) ≡ t.parts_and (parts_of xs) x.comma (expr x.value.value)
parts_push xs x = parts_more xs x t.no_parts

words_more : (xs : List Spec) (x : Spec) (r : t.Words) → words_behind r (xs ++ x ∷ []) ≡ t.words_and (words_behind r xs) (word x)
words_more [] x r = refl
words_more (y ∷ xs) x r = words_more xs x (t.words_and r (word y))

pub words_push : (xs : List Spec) (x : Spec) → words_behind t.no_words (xs ++ x ∷ []) ≡ t.words_and (words_behind t.no_words xs) (word x)
words_push xs x = words_more xs x t.no_words

enumerators_more : (xs : List Enumerator) (x : Enumerator) (r : t.Ens) → enumerators_behind r (xs ++ x ∷ []) ≡ enumerator_behind (enumerators_behind r xs) x
enumerators_more [] x r = refl
enumerators_more (y ∷ xs) x r = enumerators_more xs x (enumerator_behind r y)

pub enumerators_push : (xs : List Enumerator) (x : Enumerator) → enumerators_of (xs ++ x ∷ []) ≡ enumerator_behind (enumerators_of xs) x
enumerators_push xs x = enumerators_more xs x t.no_enumerators

params_more : (xs : List Parameter) (x : Parameter) (r : t.Params) → params_behind r (xs ++ x ∷ []) ≡ t.params_and (params_behind r xs) x.comma (words_of x.specs) (option_name x.name)
params_more [] x r = refl
params_more (y ∷ xs) x r = params_more xs x (t.params_and r y.comma (words_of y.specs) (option_name y.name))

pub params_push : (xs : List Parameter) (x : Parameter) → params_of (xs ++ x ∷ []) ≡ t.params_and (params_of xs) x.comma (words_of x.specs) (option_name x.name)
params_push xs x = params_more xs x t.no_params

declarators_more : (xs : List Declarator) (x : Declarator) (r : t.Decs) → declarators_behind r (xs ++ x ∷ []) ≡ declarator_behind (declarators_behind r xs) x
declarators_more [] x r = refl
declarators_more (y ∷ xs) x r = declarators_more xs x (declarator_behind r y)

pub declarators_push : (xs : List Declarator) (x : Declarator) → declarators_of (xs ++ x ∷ []) ≡ declarator_behind (declarators_of xs) x
declarators_push xs x = declarators_more xs x t.no_declarators

statements_more : (xs : List Statement) (x : Statement) (r : t.Sts) → statements_behind r (xs ++ x ∷ []) ≡ t.statements_and (statements_behind r xs) (statement x)
statements_more [] x r = refl
statements_more (y ∷ xs) x r = statements_more xs x (t.statements_and r (statement y))

pub statements_push : (xs : List Statement) (x : Statement) → statements_of (xs ++ x ∷ []) ≡ t.statements_and (statements_of xs) (statement x)
statements_push xs x = statements_more xs x t.no_statements

part_items : (n : Count) (r : Row_of-Listed n) (es : t.Parts) → part_row es r ≡ parts_behind es (items-the_row-Listed n r)
part_items n end_of-Listed es = refl
part_items n (more_of-Listed c p e rest) es = part_items _ rest (t.parts_and es c (expr e))

word_items : (n : Count) (r : Row_of-Spec n) (ws : t.Words) → word_row ws r ≡ words_behind ws (items-the_row-Spec n r)
word_items n end_of-Spec ws = refl
word_items n (more_of-Spec w rest) ws = word_items _ rest (t.words_and ws (word w))

enumerator_items : (n : Count) (r : Row_of-Enumerator n) (es : t.Ens) → enumerator_row es r ≡ enumerators_behind es (items-the_row-Enumerator n r)
enumerator_items n end_of-Enumerator es = refl
enumerator_items n (more_of-Enumerator e rest) es = enumerator_items _ rest (enumerator_behind es e)

statement_items : (n : Count) (r : Row_of-Statement n) (ss : t.Sts) → statement_row ss r ≡ statements_behind ss (items-the_row-Statement n r)
statement_items n end_of-Statement ss = refl
statement_items n (more_of-Statement s rest) ss = statement_items _ rest (t.statements_and ss (statement s))

abbrev listed_row : Expr → (n : Count) × Row_of-Listed n
listed_row (Call' _ _ _ _ r _) = (_, r)
listed_row (Comma' _ r) = (_, r)
listed_row _ = (_, end_of-Listed)

abbrev spec_row : Expr → (n : Count) × Row_of-Spec n
spec_row (Cast' _ _ r _ _ _) = (_, r)
spec_row (SizeofType' _ _ _ r _) = (_, r)
spec_row _ = (_, end_of-Spec)

pub expr_Call : (f : Box Expr Global) (a : ℕ) (es : Vec Listed Global) (b : ℕ) → expr (Call f a es b) ≡ t.eCall (expr f.value) a (parts_of es.items) b
expr_Call f a es b =
    let r = listed_row (Call f a es b) in
    ap (λ x. t.eCall (expr f.value) a x b) (part_items r.0 r.1 t.no_parts ∙ ap (parts_behind t.no_parts) (items_hidden-the_row-Listed-0 es))

pub expr_Comma : (es : Vec Listed Global) → expr (Comma es) ≡ t.eComma (parts_of es.items)
expr_Comma es =
    let r = listed_row (Comma es) in
    ap t.eComma (part_items r.0 r.1 t.no_parts ∙ ap (parts_behind t.no_parts) (items_hidden-the_row-Listed-0 es))

pub expr_Cast : (a : ℕ) (ws : Specs) (b : ℕ) (e : Box Expr Global) → expr (Cast a ws b e) ≡ t.eCast a (words_of ws) b (expr e.value)
expr_Cast a ws b e =
    let r = spec_row (Cast a ws b e) in
    ap (λ x. t.eCast a x b (expr e.value)) (word_items r.0 r.1 t.no_words ∙ ap (words_behind t.no_words) (items_hidden-the_row-Spec-1 ws.words))

pub expr_SizeofType : (at : ℕ) (a : ℕ) (ws : Specs) (b : ℕ) → expr (SizeofType at a ws b) ≡ t.eSizeof at a (words_of ws) b
expr_SizeofType at a ws b =
    let r = spec_row (SizeofType at a ws b) in
    ap (λ x. t.eSizeof at a x b) (word_items r.0 r.1 t.no_words ∙ ap (words_behind t.no_words) (items_hidden-the_row-Spec-1 ws.words))

abbrev constant_row : Spec → (n : Count) × Row_of-Enumerator n
constant_row (Enum' _ _ _ r _ _) = (_, r)
constant_row (TagEnum' _ _ _ _ _ r _ _) = (_, r)
constant_row _ = (_, end_of-Enumerator)

pub word_Enum : (at : ℕ) (a : ℕ) (es : Vec Enumerator Global) (c : Option ℕ) (b : ℕ) → word (Enum at a es c b) ≡ t.wEnum at a (enumerators_of es.items) c b
word_Enum at a es c b =
    let r = constant_row (Enum at a es c b) in
    ap (λ x. t.wEnum at a x c b) (enumerator_items r.0 r.1 t.no_enumerators ∙ ap (enumerators_behind t.no_enumerators) (items_hidden-the_row-Enumerator-2 es))

pub word_TagEnum : (at : ℕ) (n : List ℕ) (x : ℕ) (a : ℕ) (es : Vec Enumerator Global) (c : Option ℕ) (b : ℕ) → word (TagEnum at n x a es c b) ≡ t.wTagEnum at n x a (enumerators_of es.items) c b
word_TagEnum at n x a es c b =
    let r = constant_row (TagEnum at n x a es c b) in
    ap (λ y. t.wTagEnum at n x a y c b) (enumerator_items r.0 r.1 t.no_enumerators ∙ ap (enumerators_behind t.no_enumerators) (items_hidden-the_row-Enumerator-2 es))

abbrev block_row : Statement → (n : Count) × Row_of-Statement n
block_row (st.Block' _ _ r _) = (_, r)
block_row _ = (_, end_of-Statement)

pub statement_Block : (a : ℕ) (ss : Vec Statement Global) (b : ℕ) → statement (st.Block a ss b) ≡ t.sBlock a (statements_of ss.items) b
statement_Block a ss b =
    let r = block_row (st.Block a ss b) in
    ap (λ x. t.sBlock a x b) (statement_items r.0 r.1 t.no_statements ∙ ap (statements_behind t.no_statements) (items_hidden-the_row-Statement-0 ss))
