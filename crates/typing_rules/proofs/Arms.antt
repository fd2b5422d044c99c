-- What the arms of an expression sum up, by the answers of the calls for its parts.
use Rattle.std.proofs.Common.{◌≡◌, ℕ, ◌<◌, ◌+◌, Bool, List, length, take, get_or, Option, refl, ap, ◌∙◌, sym, Vec, Global}
use Rattle.std.specs.Prelude.{Box, not}
use Rattle.lv_base.specs.declared.kind.Model.{Model}
use Rattle.lv_base.specs.declared.fault.SourceFault.TheVariants as fault
use Rattle.c_tree.specs.declared.tree.Expr.{Expr, Call, Cast, SizeofType, Cond}
use Rattle.c_tree.specs.declared.tree.Listed.{Listed}
use Rattle.c_tree.specs.declared.tree.Specs.{Specs}
use Rattle.c_tree.specs.declared.tree.Spec.{Spec, Enum, TagEnum}
use Rattle.c_tree.specs.declared.tree.Enumerator.{Enumerator}
use Rattle.c_tree.specs.Tree as t
use Rattle.c_tree.specs.View.{expr, parts_of, word, words_of, words_behind, enumerators_of}
use Rattle.c_tree.proofs.Views.{expr_Call, expr_Cast, expr_SizeofType, word_Enum, word_TagEnum}
use Rattle.c_meaning.specs.Bindings.{Env, words_type}
use Rattle.first_broken.specs.Found.{Summary, both, unless_found}
use Rattle.typing_rules.specs.Summed as s
use Rattle.typing_rules.proofs.Rows.{values_more, parts_more, words_more, enumerators_more}

module _ (env : Env) where
  pub named_is : (bodies : List (List ℕ)) (n m : List ℕ) (at count : ℕ) (test right : Bool) (r : Summary) → m ≡ n → right ≡ s.is_right_call env bodies m at count → test ≡ not right → r ≡ s.one test fault.WrongCall at → r ≡ s.named_found env bodies n at count
  named_is bodies n m at count test right r p q u w =
      w ∙ ap (λ z. s.one z fault.WrongCall at) (u ∙ ap not (q ∙ ap (λ z. s.is_right_call env bodies z at count) p))

module _ (env : Env) (model : Model) where
  pub values_step : (xs : List Listed) (i : ℕ) (x : Listed) (g : Expr) (all own new : Summary) → i < length xs → x ≡ get_or xs i x → g ≡ x.value.value →
      all ≡ s.values_found env model (parts_of (take i xs)) → own ≡ s.value_found env model (expr g) → new ≡ both all own → new ≡ s.values_found env model (parts_of (take (i + 1) xs))
  values_step xs i x g all own new b e q a o n =
      n ∙ ap (λ z. both z own) a ∙ ap (both (s.values_found env model (parts_of (take i xs)))) (o ∙ ap (λ z. s.value_found env model (expr z)) (q ∙ ap (λ y. y.value.value) e)) ∙ sym (values_more env model xs i x b)

  module _ (bodies : List (List ℕ)) (again : List ℕ) where
    abbrev of : Expr → Summary
    of e = s.found env model bodies again (expr e)

    abbrev listed : List Listed → Summary
    listed xs = s.found_of_parts env model bodies again (parts_of xs)

    abbrev spoken : List Spec → Summary
    spoken ws = s.found_of_words env model bodies again (words_behind t.no_words ws)

    abbrev counted : List Enumerator → Summary
    counted xs = s.found_of_enumerators env model bodies again (enumerators_of xs)

    pub parts_step : (xs : List Listed) (i : ℕ) (x : Listed) (g : Expr) (all own new : Summary) → i < length xs → x ≡ get_or xs i x → g ≡ x.value.value →
        all ≡ listed (take i xs) → own ≡ of g → new ≡ both all own → new ≡ listed (take (i + 1) xs)
    parts_step xs i x g all own new b e q a o n =
        n ∙ ap (λ z. both z own) a ∙ ap (both (listed (take i xs))) (o ∙ ap of (q ∙ ap (λ y. y.value.value) e)) ∙ sym (parts_more env model bodies again xs i x b)

    pub words_step : (xs : List Spec) (i : ℕ) (x : Spec) (all own new : Summary) → i < length xs → x ≡ get_or xs i x →
        all ≡ spoken (take i xs) → own ≡ s.found_of_word env model bodies again (word x) → new ≡ both all own → new ≡ spoken (take (i + 1) xs)
    words_step xs i x all own new b e a o n =
        n ∙ ap (λ z. both z own) a ∙ ap (both (spoken (take i xs))) (o ∙ ap (λ y. s.found_of_word env model bodies again (word y)) e) ∙ sym (words_more env model bodies again xs i x b)

    pub enumerators_step : (xs : List Enumerator) (i : ℕ) (x : Enumerator) (all new : Summary) → i < length xs → x ≡ get_or xs i x →
        all ≡ counted (take i xs) → new ≡ s.with_enumerator env model bodies again all x → new ≡ counted (take (i + 1) xs)
    enumerators_step xs i x all new b e a n =
        n ∙ ap (λ z. s.with_enumerator env model bodies again z x) a ∙ ap (s.with_enumerator env model bodies again (counted (take i xs))) e ∙ sym (enumerators_more env model bodies again xs i x b)

    pub enum_arm : (w : Spec) (at a : ℕ) (es : Vec Enumerator Global) (c : Option ℕ) (b : ℕ) (items : List Enumerator) (r : Summary) → w ≡ Enum at a es c b → items ≡ es.items →
        r ≡ counted items → r ≡ s.found_of_word env model bodies again (word w)
    enum_arm w at a es c b items r p q m =
        m ∙ ap counted q ∙ sym (ap (λ z. s.found_of_word env model bodies again (word z)) p ∙ ap (s.found_of_word env model bodies again) (word_Enum at a es c b))

    pub tag_arm : (w : Spec) (at : ℕ) (n : List ℕ) (x a : ℕ) (es : Vec Enumerator Global) (c : Option ℕ) (b : ℕ) (items : List Enumerator) (own list r : Summary) → w ≡ TagEnum at n x a es c b → items ≡ es.items →
        list ≡ counted items → own ≡ s.declared_found again x → r ≡ both own list → r ≡ s.found_of_word env model bodies again (word w)
    tag_arm w at n x a es c b items own list r p q m o k =
        k ∙ ap (λ z. both z list) o ∙ ap (both (s.declared_found again x)) (m ∙ ap counted q) ∙ sym (ap (λ z. s.found_of_word env model bodies again (word z)) p ∙ ap (s.found_of_word env model bodies again) (word_TagEnum at n x a es c b))

    pub call_arm : (e g h : Expr) (f : Box Expr Global) (x : ℕ) (es : Vec Listed Global) (y : ℕ) (ps qs : List Listed) (callee parts all own r : Summary) → e ≡ Call f x es y → g ≡ f.value → ps ≡ es.items → h ≡ f.value → qs ≡ es.items →
        callee ≡ of g → parts ≡ listed ps → all ≡ both callee parts → own ≡ s.call_found env model bodies (expr h) x (parts_of qs) → r ≡ unless_found all own → r ≡ of e
    call_arm e g h f x es y ps qs callee parts all own r p q u k l c m a o w =
        w ∙ ap (λ z. unless_found z own) (a ∙ ap (λ z. both z parts) (c ∙ ap of q) ∙ ap (both (of f.value)) (m ∙ ap listed u))
        ∙ ap (unless_found (both (of f.value) (listed es.items))) (o ∙ ap (λ z. s.call_found env model bodies (expr z) x (parts_of qs)) k ∙ ap (λ z. s.call_found env model bodies (expr f.value) x (parts_of z)) l)
        ∙ sym (ap of p ∙ ap (s.found env model bodies again) (expr_Call f x es y))

    pub sizeof_arm : (e : Expr) (at a : ℕ) (ws : Specs) (b : ℕ) (items : List Spec) (r : Summary) → e ≡ SizeofType at a ws b → items ≡ ws.words.items → r ≡ spoken items → r ≡ of e
    sizeof_arm e at a ws b items r p q m = m ∙ ap spoken q ∙ sym (ap of p ∙ ap (s.found env model bodies again) (expr_SizeofType at a ws b))

    pub cast_arm : (e g h : Expr) (a : ℕ) (ws : Specs) (b : ℕ) (f : Box Expr Global) (items : List Spec) (list inner all own r : Summary) → e ≡ Cast a ws b f → items ≡ ws.words.items → g ≡ f.value → h ≡ f.value →
        list ≡ spoken items → inner ≡ of g → all ≡ both list inner → own ≡ s.cast_found env model (words_type env (words_of ws)) (expr h) → r ≡ unless_found all own → r ≡ of e
    cast_arm e g h a ws b f items list inner all own r p q u k m n j o w =
        w ∙ ap (λ z. unless_found z own) (j ∙ ap (λ z. both z inner) (m ∙ ap spoken q) ∙ ap (both (spoken ws.words.items)) (n ∙ ap of u))
        ∙ ap (unless_found (both (spoken ws.words.items) (of f.value))) (o ∙ ap (λ z. s.cast_found env model (words_type env (words_of ws)) (expr z)) k)
        ∙ sym (ap of p ∙ ap (s.found env model bodies again) (expr_Cast a ws b f))

    pub cond_arm : (e d g h i j k : Expr) (c a b : Box Expr Global) (x y : ℕ) (test arm first other all own r : Summary) → e ≡ Cond c x a y b → d ≡ c.value → g ≡ a.value → h ≡ b.value → i ≡ c.value → j ≡ a.value → k ≡ b.value →
        test ≡ of d → arm ≡ of g → first ≡ both test arm → other ≡ of h → all ≡ both first other → own ≡ s.cond_found env model (expr i) (expr j) (expr k) → r ≡ unless_found all own → r ≡ of e
    cond_arm e d g h i j k c a b x y test arm first other all own r p pd pg ph pi pj pk pt pa pf po pl pw w =
        w ∙ ap (λ z. unless_found z own) (pl ∙ ap (λ z. both z other) (pf ∙ ap (λ z. both z arm) (pt ∙ ap of pd) ∙ ap (both (of c.value)) (pa ∙ ap of pg)) ∙ ap (both (both (of c.value) (of a.value))) (po ∙ ap of ph))
        ∙ ap (unless_found (both (both (of c.value) (of a.value)) (of b.value)))
        (pw ∙ ap (λ z. s.cond_found env model (expr z) (expr j) (expr k)) pi ∙ ap (λ z. s.cond_found env model (expr c.value) (expr z) (expr k)) pj ∙ ap (λ z. s.cond_found env model (expr c.value) (expr a.value) (expr z)) pk)
        ∙ sym (ap of p)
