-- Lists in a tree, one element more at a time.
use Rattle.std.proofs.Common.{◌≡◌, ℕ, ◌<◌, ◌+◌, suc, List, [], ◌∷◌, ◌++◌, length, take, get_or, Option, None, Some, Result, Ok, Err, refl, ap, ◌∙◌, sym, arith, Vec, Global}
use Rattle.std.specs.Prelude.{Box, IfOk}
use Rattle.std.proofs.Math.Seq.{take-suc}
use Rattle.lv_base.specs.declared.kind.Kind.{Kind}
use Rattle.lv_base.specs.declared.kind.Model.{Model}
use Rattle.c_tree.specs.declared.tree.Listed.{Listed}
use Rattle.c_tree.specs.declared.tree.Declarator.{Declarator}
use Rattle.c_tree.specs.declared.tree.Statement.{Statement}
use Rattle.c_tree.specs.declared.tree.Statement.TheVariants as st
use Rattle.c_tree.specs.Tree as tr
use Rattle.c_tree.specs.View.{expr, parts_of, declarators_of, initial_of, statement, statements_of}
use Rattle.c_tree.proofs.Views.{parts_push, declarators_push, statements_push, statement_Block}
use Rattle.c_meaning.specs.Bindings.{Env, object_number, declared_at}
use Rattle.c_typed.specs.declared.tree.Value.{Value}
use Rattle.c_typed.specs.declared.tree.Step.{Step}
use Rattle.c_typed.specs.Tree as t
use Rattle.c_typed.specs.View.{value, values_of, step}
use Rattle.typed_values.proofs.Views.{values_push}
use Rattle.c_types.specs.Elaborated as el
use Rattle.typed_statements.specs.Steps.{declaration_in}

take_more : {A : Type 0} (xs : List A) (i : ℕ) (d : A) → i < length xs → take (i + 1) xs ≡ take i xs ++ (get_or xs i d ∷ [])
take_more xs i d b = let e : i + 1 ≡ suc i = omega arith in rw e (take-suc xs i d b)

module _ (env : Env) (model : Model) (bodies : List (List ℕ)) where
  as_more : (k : Kind) (xs : List Listed) (i : ℕ) (d : Listed) → i < length xs →
      el.values_as env model bodies k (parts_of (take (i + 1) xs)) ≡ t.values_and (el.values_as env model bodies k (parts_of (take i xs))) (t.vConvert k (el.value env model bodies (expr (get_or xs i d).value.value)))
  as_more k xs i d b = ap (λ ys. el.values_as env model bodies k (parts_of ys)) (take_more xs i d b) ∙ ap (el.values_as env model bodies k) (parts_push (take i xs) (get_or xs i d))

  pub as_step : (k : Kind) (old new : List Value) (v : Value) (xs : List Listed) (i : ℕ) (x : Listed) (g : tr.Ex) → i < length xs → x ≡ get_or xs i x → g ≡ expr x.value.value →
      values_of old ≡ el.values_as env model bodies k (parts_of (take i xs)) → value v ≡ t.vConvert k (el.value env model bodies g) → new ≡ old ++ v ∷ [] →
      values_of new ≡ el.values_as env model bodies k (parts_of (take (i + 1) xs))
  as_step k old new v xs i x g b e q h w n =
      ap values_of n ∙ values_push old v ∙ ap (λ z. t.values_and z (value v)) h
      ∙ ap (t.values_and (el.values_as env model bodies k (parts_of (take i xs)))) (w ∙ ap (λ z. t.vConvert k (el.value env model bodies z)) (q ∙ ap (λ z. expr z.value.value) e))
      ∙ sym (as_more k xs i x b)

  declaring_more : (ss : t.Steps) (xs : List Declarator) (i : ℕ) (d : Declarator) → i < length xs →
      el.declaring env model bodies ss (declarators_of (take (i + 1) xs))
      ≡ el.beginning env model bodies (el.declaring env model bodies ss (declarators_of (take i xs))) (initial_of (get_or xs i d).initial) (object_number (declared_at env (get_or xs i d).name.at))
  declaring_more ss xs i d b = ap (λ ys. el.declaring env model bodies ss (declarators_of ys)) (take_more xs i d b) ∙ ap (el.declaring env model bodies ss) (declarators_push (take i xs) (get_or xs i d))

  -- the steps of a declaration, or the one of any other statement
  abbrev added : Option Kind → t.Steps → tr.St → t.Steps
  added result ss (tr.sDeclaration d) = el.declared env model bodies ss d
  added result ss s = t.steps_and ss (el.step env model bodies result s)

  added_is : (result : Option Kind) (ss : tr.Sts) (s : tr.St) → el.steps env model bodies result (tr.statements_and ss s) ≡ added result (el.steps env model bodies result ss) s
  added_is result ss (tr.sDeclaration d) = refl
  added_is result ss (tr.sBlock a xs b) = refl
  added_is result ss (tr.sEmpty at) = refl
  added_is result ss (tr.sExpr e at) = refl
  added_is result ss (tr.sIf h s) = refl
  added_is result ss (tr.sIfElse h s at x) = refl
  added_is result ss (tr.sWhile h s) = refl
  added_is result ss (tr.sSwitch h s) = refl
  added_is result ss (tr.sDo at s h b) = refl
  added_is result ss (tr.sFor h s) = refl
  added_is result ss (tr.sCase at e b s) = refl
  added_is result ss (tr.sDefault at b s) = refl
  added_is result ss (tr.sLabel n at b ats s) = refl
  added_is result ss (tr.sGoto at n x b) = refl
  added_is result ss (tr.sBreak at b) = refl
  added_is result ss (tr.sContinue at b) = refl
  added_is result ss (tr.sReturn at e b) = refl

  steps_more : (result : Option Kind) (xs : List Statement) (i : ℕ) (d : Statement) → i < length xs →
      el.steps env model bodies result (statements_of (take (i + 1) xs)) ≡ added result (el.steps env model bodies result (statements_of (take i xs))) (statement (get_or xs i d))
  steps_more result xs i d b =
      ap (λ ys. el.steps env model bodies result (statements_of ys)) (take_more xs i d b) ∙ ap (el.steps env model bodies result) (statements_push (take i xs) (get_or xs i d))
      ∙ added_is result (statements_of (take i xs)) (statement (get_or xs i d))

  -- any statement but a declaration is one step
  other_step : (result : Option Kind) (ss : t.Steps) (s : tr.St) → declaration_in s ≡ None → added result ss s ≡ t.steps_and ss (el.step env model bodies result s)
  other_step result ss (tr.sDeclaration d) e = grind (arith, e)
  other_step result ss (tr.sBlock a xs b) e = refl
  other_step result ss (tr.sEmpty at) e = refl
  other_step result ss (tr.sExpr x at) e = refl
  other_step result ss (tr.sIf h s) e = refl
  other_step result ss (tr.sIfElse h s at x) e = refl
  other_step result ss (tr.sWhile h s) e = refl
  other_step result ss (tr.sSwitch h s) e = refl
  other_step result ss (tr.sDo at s h b) e = refl
  other_step result ss (tr.sFor h s) e = refl
  other_step result ss (tr.sCase at x b s) e = refl
  other_step result ss (tr.sDefault at b s) e = refl
  other_step result ss (tr.sLabel n at b ats s) e = refl
  other_step result ss (tr.sGoto at n x b) e = refl
  other_step result ss (tr.sBreak at b) e = refl
  other_step result ss (tr.sContinue at b) e = refl
  other_step result ss (tr.sReturn at x b) e = refl

  declared_step : (result : Option Kind) (ss : t.Steps) (s : tr.St) (d : tr.Declaration) → declaration_in s ≡ Some d → added result ss s ≡ el.declared env model bodies ss d
  declared_step result ss (tr.sDeclaration d) c e = ap (el.declared env model bodies ss) (grind (arith, e))
  declared_step result ss (tr.sBlock a xs b) c e = absurd (grind (arith, e))
  declared_step result ss (tr.sEmpty at) c e = absurd (grind (arith, e))
  declared_step result ss (tr.sExpr x at) c e = absurd (grind (arith, e))
  declared_step result ss (tr.sIf h s) c e = absurd (grind (arith, e))
  declared_step result ss (tr.sIfElse h s at x) c e = absurd (grind (arith, e))
  declared_step result ss (tr.sWhile h s) c e = absurd (grind (arith, e))
  declared_step result ss (tr.sSwitch h s) c e = absurd (grind (arith, e))
  declared_step result ss (tr.sDo at s h b) c e = absurd (grind (arith, e))
  declared_step result ss (tr.sFor h s) c e = absurd (grind (arith, e))
  declared_step result ss (tr.sCase at x b s) c e = absurd (grind (arith, e))
  declared_step result ss (tr.sDefault at b s) c e = absurd (grind (arith, e))
  declared_step result ss (tr.sLabel n at b ats s) c e = absurd (grind (arith, e))
  declared_step result ss (tr.sGoto at n x b) c e = absurd (grind (arith, e))
  declared_step result ss (tr.sBreak at b) c e = absurd (grind (arith, e))
  declared_step result ss (tr.sContinue at b) c e = absurd (grind (arith, e))
  declared_step result ss (tr.sReturn at x b) c e = absurd (grind (arith, e))

  -- ---- Loops

  pub declared_more : (result : Option Kind) (old new : t.Steps) (xs : List Statement) (i : ℕ) (x : Statement) (o : Option tr.Declaration) (d : tr.Declaration) → i < length xs → x ≡ get_or xs i x →
      o ≡ declaration_in (statement x) → o ≡ Some d → old ≡ el.steps env model bodies result (statements_of (take i xs)) → new ≡ el.declared env model bodies old d →
      new ≡ el.steps env model bodies result (statements_of (take (i + 1) xs))
  declared_more result old new xs i x o d b e p q h n =
      n ∙ ap (λ z. el.declared env model bodies z d) h ∙ sym (declared_step result (el.steps env model bodies result (statements_of (take i xs))) (statement x) d (sym p ∙ q))
      ∙ ap (λ z. added result (el.steps env model bodies result (statements_of (take i xs))) (statement z)) e ∙ sym (steps_more result xs i x b)

  pub other_more : (result : Option Kind) (old new : t.Steps) (s : t.Step) (xs : List Statement) (i : ℕ) (x : Statement) (o : Option tr.Declaration) → i < length xs → x ≡ get_or xs i x →
      o ≡ declaration_in (statement x) → o ≡ None → old ≡ el.steps env model bodies result (statements_of (take i xs)) → s ≡ el.step env model bodies result (statement x) → new ≡ t.steps_and old s →
      new ≡ el.steps env model bodies result (statements_of (take (i + 1) xs))
  other_more result old new s xs i x o b e p q h v n =
      n ∙ ap (λ z. t.steps_and z s) h ∙ ap (t.steps_and (el.steps env model bodies result (statements_of (take i xs)))) v
      ∙ sym (other_step result (el.steps env model bodies result (statements_of (take i xs))) (statement x) (sym p ∙ q))
      ∙ ap (λ z. added result (el.steps env model bodies result (statements_of (take i xs))) (statement z)) e ∙ sym (steps_more result xs i x b)

  pub declaring_step : (ss old new : t.Steps) (xs : List Declarator) (i : ℕ) (x : Declarator) → i < length xs → x ≡ get_or xs i x → old ≡ el.declaring env model bodies ss (declarators_of (take i xs)) →
      new ≡ el.beginning env model bodies old (initial_of x.initial) (object_number (declared_at env x.name.at)) → new ≡ el.declaring env model bodies ss (declarators_of (take (i + 1) xs))
  declaring_step ss old new xs i x b e h n =
      n ∙ ap (λ z. el.beginning env model bodies z (initial_of x.initial) (object_number (declared_at env x.name.at))) h
      ∙ ap (λ (z : Declarator). el.beginning env model bodies (el.declaring env model bodies ss (declarators_of (take i xs))) (initial_of z.initial) (object_number (declared_at env z.name.at))) e
      ∙ sym (declaring_more ss xs i x b)

  -- ---- Blocks

  ok_as : {A : Type 0} (r : Result (Box Step Global) A) (x y : t.Step) → x ≡ y → IfOk r (λ b. step b.value ≡ x) → IfOk r (λ b. step b.value ≡ y)
  ok_as (Ok a) x y e h = h ∙ e
  ok_as (Err b) x y e h = h

  pub block_arm : {A : Type 0} (result : Option Kind) (x : Statement) (a : ℕ) (ss : Vec Statement Global) (b : ℕ) (xs : List Statement) (vs : t.Steps) (r : Result (Box Step Global) A) → x ≡ st.Block a ss b → xs ≡ ss.items →
      vs ≡ el.steps env model bodies result (statements_of xs) → IfOk r (λ b. step b.value ≡ t.pBlock vs) → IfOk r (λ b. step b.value ≡ el.step env model bodies result (statement x))
  block_arm result x a ss b xs vs r p q h i =
      ok_as r _ _ (ap t.pBlock (h ∙ ap (λ z. el.steps env model bodies result (statements_of z)) q)
      ∙ sym (ap (λ z. el.step env model bodies result (statement z)) p ∙ ap (el.step env model bodies result) (statement_Block a ss b))) i
