-- What the parts of an expression and of a word add, by the answers of the calls for them.
use Rattle.std.proofs.Common.{◌≡◌, ℕ, suc, ◌<◌, ◌+◌, List, length, take, get_or, Option, Result, Ok, Err, ap, ◌∙◌, sym, Vec, Global}
use Rattle.std.specs.Prelude.{Box, IfOk}
use Rattle.lv_base.specs.declared.kind.Model.{Model}
use Rattle.c_tree.specs.declared.tree.Expr.{Expr, Call, Cast, SizeofType}
use Rattle.c_tree.specs.declared.tree.Listed.{Listed}
use Rattle.c_tree.specs.declared.tree.Spec.{Spec, Enum, TagEnum}
use Rattle.c_tree.specs.declared.tree.Specs.{Specs}
use Rattle.c_tree.specs.declared.tree.Enumerator.{Enumerator}
use Rattle.c_tree.specs.declared.tree.Head.{Head}
use Rattle.c_tree.specs.declared.tree.Statement.{Statement}
use Rattle.c_tree.specs.declared.tree.Statement.TheVariants as st
use Rattle.c_tree.specs.Tree as t
use Rattle.c_tree.specs.View.{expr, parts_of, word, words_of, words_behind, enumerators_of, enumerator_behind, head_of, statement, statements_of}
use Rattle.c_tree.proofs.Views.{expr_Call, expr_Cast, expr_SizeofType, word_Enum, word_TagEnum, statement_Block}
use Rattle.c_meaning.specs.Tokens.{end_of}
use Rattle.c_meaning.specs.Scope as s
use Rattle.c_meaning.specs.Bindings.{Env}
use Rattle.name_bindings.specs.Bound as bd
use Rattle.source_bindings.specs.Steps as step
use Rattle.source_bindings.proofs.Rows.{words_more, parts_more, constants_more, enumerators_take}

ok_as : {A B : Type 0} (r : Result A B) (x y z : Env) → y ≡ z → IfOk r (λ _. x ≡ y) → IfOk r (λ _. x ≡ z)
ok_as (Ok a) x y z e h = h ∙ e
ok_as (Err b) x y z e h = h

pub constants_at : (xs : List Enumerator) (i : ℕ) (x : Enumerator) → i < length xs → x ≡ get_or xs i x → enumerators_of (take (i + 1) xs) ≡ enumerator_behind (enumerators_of (take i xs)) x
constants_at xs i x b e = enumerators_take xs i x b ∙ ap (enumerator_behind (enumerators_of (take i xs))) (sym e)

module _ (model : Model) (scope : s.Scope) (owner : Option ℕ) where
  pub call_arm : {A B : Type 0} (env mid new : Env) (e g : Expr) (f : Box Expr Global) (a : ℕ) (es : Vec Listed Global) (b : ℕ) (parts : List Listed) (r : Result A B) → e ≡ Call f a es b → g ≡ f.value → parts ≡ es.items →
      mid ≡ bd.expression model scope owner env (expr g) → IfOk r (λ _. new ≡ bd.parts model scope owner mid (parts_of parts)) → IfOk r (λ _. new ≡ bd.expression model scope owner env (expr e))
  call_arm env mid new e g f a es b parts r p q k m h =
      ok_as r new _ _ (ap (λ x. bd.parts model scope owner x (parts_of parts)) (m ∙ ap (λ x. bd.expression model scope owner env (expr x)) q)
      ∙ ap (λ x. bd.parts model scope owner (bd.expression model scope owner env (expr f.value)) (parts_of x)) k
      ∙ sym (ap (λ x. bd.expression model scope owner env (expr x)) p ∙ ap (bd.expression model scope owner env) (expr_Call f a es b))) h

  pub sizeof_arm : {A B : Type 0} (env new : Env) (e : Expr) (at a : ℕ) (ws : Specs) (b : ℕ) (words : List Spec) (r : Result A B) → e ≡ SizeofType at a ws b → words ≡ ws.words.items →
      IfOk r (λ _. new ≡ bd.words model scope owner env (words_behind t.no_words words)) → IfOk r (λ _. new ≡ bd.expression model scope owner env (expr e))
  sizeof_arm env new e at a ws b words r p q h =
      ok_as r new _ _ (ap (λ x. bd.words model scope owner env (words_behind t.no_words x)) q
      ∙ sym (ap (λ x. bd.expression model scope owner env (expr x)) p ∙ ap (bd.expression model scope owner env) (expr_SizeofType at a ws b))) h

  pub cast_arm : {A B : Type 0} (env mid new : Env) (e g : Expr) (a : ℕ) (ws : Specs) (b : ℕ) (f : Box Expr Global) (words : List Spec) (r : Result A B) → e ≡ Cast a ws b f → g ≡ f.value → words ≡ ws.words.items →
      mid ≡ bd.words model scope owner env (words_behind t.no_words words) → IfOk r (λ _. new ≡ bd.expression model scope owner mid (expr g)) → IfOk r (λ _. new ≡ bd.expression model scope owner env (expr e))
  cast_arm env mid new e g a ws b f words r p q k m h =
      ok_as r new _ _ (ap (λ x. bd.expression model scope owner x (expr g)) (m ∙ ap (λ x. bd.words model scope owner env (words_behind t.no_words x)) k)
      ∙ ap (λ x. bd.expression model scope owner (bd.words model scope owner env (words_of ws)) (expr x)) q
      ∙ sym (ap (λ x. bd.expression model scope owner env (expr x)) p ∙ ap (bd.expression model scope owner env) (expr_Cast a ws b f))) h

  pub enum_arm : {A B : Type 0} (env new : Env) (w : Spec) (at a : ℕ) (es : Vec Enumerator Global) (c : Option ℕ) (b : ℕ) (constants : List Enumerator) (r : Result A B) → w ≡ Enum at a es c b → constants ≡ es.items →
      IfOk r (λ _. new ≡ bd.enumerators model scope owner env (enumerators_of constants)) → IfOk r (λ _. new ≡ bd.word model scope owner env (word w))
  enum_arm env new w at a es c b constants r p q h =
      ok_as r new _ _ (ap (λ x. bd.enumerators model scope owner env (enumerators_of x)) q
      ∙ sym (ap (λ x. bd.word model scope owner env (word x)) p ∙ ap (bd.word model scope owner env) (word_Enum at a es c b))) h

  pub tag_arm : {A B : Type 0} (env mid new : Env) (w : Spec) (at : ℕ) (n : List ℕ) (x a : ℕ) (es : Vec Enumerator Global) (c : Option ℕ) (b : ℕ) (first second : List Enumerator) (r : Result A B) → w ≡ TagEnum at n x a es c b →
      first ≡ es.items → second ≡ es.items → mid ≡ bd.enumerators model scope owner env (enumerators_of first) →
      IfOk r (λ _. new ≡ step.tagged model scope owner mid n x b (enumerators_of second)) → IfOk r (λ _. new ≡ bd.word model scope owner env (word w))
  tag_arm env mid new w at n x a es c b first second r p q k m h =
      ok_as r new _ _ (ap (λ y. step.tagged model scope owner y n x b (enumerators_of second)) (m ∙ ap (λ y. bd.enumerators model scope owner env (enumerators_of y)) q)
      ∙ ap (λ y. step.tagged model scope owner (bd.enumerators model scope owner env (enumerators_of es.items)) n x b (enumerators_of y)) k
      ∙ sym (ap (λ y. bd.word model scope owner env (word y)) p ∙ ap (bd.word model scope owner env) (word_TagEnum at n x a es c b))) h

  -- ---- Loops

  pub words_step : (env mid new : Env) (xs : List Spec) (i : ℕ) (x : Spec) → i < length xs → x ≡ get_or xs i x → mid ≡ bd.words model scope owner env (words_behind t.no_words (take i xs)) →
      new ≡ bd.word model scope owner mid (word x) → new ≡ bd.words model scope owner env (words_behind t.no_words (take (i + 1) xs))
  words_step env mid new xs i x b e m h =
      h ∙ ap (λ y. bd.word model scope owner y (word x)) m ∙ ap (λ y. bd.word model scope owner (bd.words model scope owner env (words_behind t.no_words (take i xs))) (word y)) e ∙ sym (words_more model scope owner env xs i x b)

  pub parts_step : (env mid new : Env) (xs : List Listed) (i : ℕ) (x : Listed) (g : Expr) → i < length xs → x ≡ get_or xs i x → g ≡ x.value.value → mid ≡ bd.parts model scope owner env (parts_of (take i xs)) →
      new ≡ bd.expression model scope owner mid (expr g) → new ≡ bd.parts model scope owner env (parts_of (take (i + 1) xs))
  parts_step env mid new xs i x g b e q m h =
      h ∙ ap (λ y. bd.expression model scope owner y (expr g)) m
      ∙ ap (λ y. bd.expression model scope owner (bd.parts model scope owner env (parts_of (take i xs))) (expr y)) (q ∙ ap (λ y. y.value.value) e)
      ∙ sym (parts_more model scope owner env xs i x b)

  pub constants_step : (env mid value new : Env) (xs : List Enumerator) (i : ℕ) (x : Enumerator) → i < length xs → x ≡ get_or xs i x → mid ≡ bd.enumerators model scope owner env (enumerators_of (take i xs)) →
      value ≡ step.value_in model scope owner mid x → new ≡ step.constant_with model scope owner value (enumerators_of (take i xs)) x →
      new ≡ bd.enumerators model scope owner env (enumerators_of (take (i + 1) xs))
  constants_step env mid value new xs i x b e m v h =
      h ∙ ap (λ y. step.constant_with model scope owner y (enumerators_of (take i xs)) x) (v ∙ ap (λ y. step.value_in model scope owner y x) m)
      ∙ ap (λ y. step.constant_with model scope owner (step.value_in model scope owner (bd.enumerators model scope owner env (enumerators_of (take i xs))) y) (enumerators_of (take i xs)) y) e
      ∙ sym (constants_more model scope owner env xs i x b)

  -- ---- Statements

  pub block_arm : {A B : Type 0} (env new : Env) (x : Statement) (a : ℕ) (ss : Vec Statement Global) (b : ℕ) (r : Result A B) → x ≡ st.Block a ss b →
      IfOk r (λ _. new ≡ bd.statements model owner (s.block a b) env (statements_of ss.items)) → IfOk r (λ _. new ≡ bd.statement model owner scope env (statement x))
  block_arm env new x a ss b r p h =
      ok_as r new _ _ (sym (ap (λ y. bd.statement model owner scope env (statement y)) p ∙ ap (bd.statement model owner scope env) (statement_Block a ss b))) h

  -- a statement with a condition, which is `whole`
  pub guarded_arm : {A B : Type 0} (env mid new : Env) (x : Statement) (h : Head) (u v : Statement) (last : ℕ) (r : Result A B) (whole : t.St) → statement x ≡ whole → v ≡ u → last ≡ end_of (statement v) →
      bd.statement model owner scope env whole ≡ step.inside model owner (step.condition_in model owner env (head_of h) (end_of (statement u))) h.close (statement u) →
      mid ≡ step.condition_in model owner env (head_of h) last → IfOk r (λ _. new ≡ step.inside model owner mid h.close (statement u)) → IfOk r (λ _. new ≡ bd.statement model owner scope env (statement x))
  guarded_arm env mid new x h u v last r whole p q l same m k =
      ok_as r new _ _ (ap (λ y. step.inside model owner y h.close (statement u)) (m ∙ ap (step.condition_in model owner env (head_of h)) (l ∙ ap (λ y. end_of (statement y)) q))
      ∙ sym (ap (bd.statement model owner scope env) p ∙ same)) k

  pub arms_arm : {A B : Type 0} (env mid then new : Env) (x : Statement) (h : Head) (u v w : Statement) (at last : ℕ) (r : Result A B) (whole : t.St) → statement x ≡ whole → w ≡ v → last ≡ end_of (statement w) →
      bd.statement model owner scope env whole ≡ step.inside model owner (step.inside model owner (step.condition_in model owner env (head_of h) (end_of (statement v))) h.close (statement u)) at (statement v) →
      mid ≡ step.condition_in model owner env (head_of h) last → then ≡ step.inside model owner mid h.close (statement u) →
      IfOk r (λ _. new ≡ step.inside model owner then at (statement v)) → IfOk r (λ _. new ≡ bd.statement model owner scope env (statement x))
  arms_arm env mid then new x h u v w at last r whole p q l same m n k =
      ok_as r new _ _ (ap (λ y. step.inside model owner y at (statement v)) (n ∙ ap (λ y. step.inside model owner y h.close (statement u)) (m ∙ ap (step.condition_in model owner env (head_of h)) (l ∙ ap (λ y. end_of (statement y)) q)))
      ∙ sym (ap (bd.statement model owner scope env) p ∙ same)) k

  pub do_arm : {A B : Type 0} (env mid new : Env) (x : Statement) (h : Head) (u : Statement) (at last : ℕ) (r : Result A B) (whole : t.St) → statement x ≡ whole →
      bd.statement model owner scope env whole ≡ step.do_condition_in model owner (step.inside model owner env (suc at) (statement u)) at (head_of h) last →
      mid ≡ step.inside model owner env (suc at) (statement u) → IfOk r (λ _. new ≡ step.do_condition_in model owner mid at (head_of h) last) → IfOk r (λ _. new ≡ bd.statement model owner scope env (statement x))
  do_arm env mid new x h u at last r whole p same m k =
      ok_as r new _ _ (ap (λ y. step.do_condition_in model owner y at (head_of h) last) m ∙ sym (ap (bd.statement model owner scope env) p ∙ same)) k
