-- A source that breaks no rule has one `main`.
use Rattle.std.proofs.Common.{◌≡◌, ◌⊎◌, inl, inr, ℕ, Bool, true, false, ◌&&◌, ◌||◌, not, if◌then◌else◌, List, [], ◌∷◌, ◌++◌, length, map, filter, append-nil, append_assoc, Option, None, Some, bytes_eq, refl, ap, sym, ◌∙◌, subst, arith}
use Rattle.std.specs.Prelude.{cond, nat_lt, codes}
use Rattle.std.specs.List.{list_any}
use Rattle.std.proofs.lemmas.Bool.{eqb-true}
use Rattle.std.proofs.lemmas.List.{map-append, length-append}
use Rattle.std.proofs.lemmas.List.Elements.{filter-append}
use Rattle.std.proofs.lemmas.Slice.Eq.{bytes_eq-Decides}
use Rattle.lv_base.specs.declared.kind.Kind.{Kind}
use Rattle.lv_base.specs.declared.kind.Kind.TheVariants as kind
use Rattle.lv_base.specs.declared.kind.Model.{Model}
use Rattle.lv_base.specs.declared.fault.SourceFault.{SourceFault}
use Rattle.c_tree.specs.Tree as t
use Rattle.c_run.specs.Breaking.{Broken, line}
use Rattle.c_meaning.specs.Tokens.{open_of, close_of}
use Rattle.c_meaning.specs.Scope as s
use Rattle.c_meaning.specs.Bindings.{Env, Entry, kind_in, words_type, parameter_kinds, params_kinds, kind_or_int}
use Rattle.c_meaning.specs.Program.{Function, functions_of, env_of, params_numbers, parameter_numbers}
use Rattle.c_meaning.specs.Rules as rules
use Rattle.c_typed.specs.Facts.{HasMain, is_main}
use Rattle.c_typed.specs.Tree as typed
use Rattle.c_types.specs.Elaborated.{function_of}
use Rattle.elaboration_main_laws.specs.Laws.{MainFound}
use Rattle.elaboration_main_laws.proofs.Bound.{declares_all}

nil_left : (xs ys : List Broken) → xs ++ ys ≡ [] → xs ≡ []
nil_left [] ys h = refl
nil_left (x ∷ xs) ys h = cc

nil_right : (xs ys : List Broken) → xs ++ ys ≡ [] → ys ≡ []
nil_right [] ys h = h
nil_right (x ∷ xs) ys h = cc

line_holds : (b : Bool) (f : SourceFault) (at : ℕ) → line b f at ≡ [] → b ≡ false
line_holds true f at h = cc
line_holds false f at h = refl

not_false : (b : Bool) → not b ≡ false → b ≡ true
not_false true h = refl
not_false false h = cc

and_left : (a b : Bool) → a && b ≡ true → a ≡ true
and_left true b h = refl
and_left false b h = cc

and_right : (a b : Bool) → a && b ≡ true → b ≡ true
and_right true b h = h
and_right false b h = cc

apart : {b : Bool} → b ≡ true → b ≡ false → ⊥
apart {b} h k = cc

or_left : (a b : Bool) → a || b ≡ false → a ≡ false
or_left true b h = cc
or_left false b h = refl

or_right : (a b : Bool) → a || b ≡ false → b ≡ false
or_right true b h = cc
or_right false b h = h

-- ---- Declarations of `main` with a body

abbrev has_body : s.What → Bool
has_body (s.aFunction ws ps b) = b
has_body w = false

abbrev is_body : s.Declared → Bool
is_body d = s.is_file d.scope && (bytes_eq d.name (codes "main") && has_body d.what)

any_both : (p : s.Declared → Bool) (xs ys : List s.Declared) → list_any p (xs ++ ys) ≡ list_any p xs || list_any p ys
any_both p [] ys = refl
any_both p (x ∷ xs) ys = or_or (p x) _ _ _ (any_both p xs ys)
  where
    or_or : (b q r v : Bool) → q ≡ r || v → b || q ≡ b || r || v
    or_or true q r v h = refl
    or_or false q r v h = h

true_left : (a b : Bool) → a ≡ true → a || b ≡ true
true_left true b h = refl
true_left false b h = cc

true_right : (a b : Bool) → b ≡ true → a || b ≡ true
true_right true b h = refl
true_right false b h = h

any_left : (p : s.Declared → Bool) (xs ys : List s.Declared) → list_any p xs ≡ true → list_any p (xs ++ ys) ≡ true
any_left p xs ys h = any_both p xs ys ∙ true_left _ _ h

any_right : (p : s.Declared → Bool) (xs ys : List s.Declared) → list_any p ys ≡ true → list_any p (xs ++ ys) ≡ true
any_right p xs ys h = any_both p xs ys ∙ true_right (list_any p xs) _ h

any_last : (p : s.Declared → Bool) (xs ys : List s.Declared) → list_any p (xs ++ ys) ≡ false → list_any p ys ≡ false
any_last p xs ys h = or_right (list_any p xs) _ (sym (any_both p xs ys) ∙ h)

module _ (env : Env) (model : Model) (bodies : List (List ℕ)) where
  -- two bodies do not agree
  bodies_differ : (w v : s.What) → has_body w ≡ true → has_body v ≡ true → rules.agrees env model bodies w v ≡ false
  bodies_differ (s.aFunction ws ps b) (s.aFunction vs qs c) h k =
      no_third (rules.same_result env model bodies (kind_in (words_type env ws)) (kind_in (words_type env vs))) (rules.same_kinds env model bodies (parameter_kinds env ps) (parameter_kinds env qs)) b c h k
    where
      no_third : (x y b c : Bool) → b ≡ true → c ≡ true → x && (y && not (b && c)) ≡ false
      no_third true true true true h k = refl
      no_third true false b c h k = refl
      no_third false y b c h k = refl
      no_third true true false c h k = cc
      no_third true true true false h k = cc
  bodies_differ (s.aFunction ws ps b) (s.anObject vs f i) h k = cc
  bodies_differ (s.aFunction ws ps b) (s.aParameter vs) h k = cc
  bodies_differ (s.aFunction ws ps b) (s.aTypedef vs) h k = cc
  bodies_differ (s.aFunction ws ps b) (s.anEnumerator es) h k = cc
  bodies_differ (s.aFunction ws ps b) (s.aTag es) h k = cc
  bodies_differ (s.aFunction ws ps b) (s.aName vs) h k = cc
  bodies_differ (s.anObject ws f i) v h k = cc
  bodies_differ (s.aParameter ws) v h k = cc
  bodies_differ (s.aTypedef ws) v h k = cc
  bodies_differ (s.anEnumerator es) v h k = cc
  bodies_differ (s.aTag es) v h k = cc
  bodies_differ (s.aName ws) v h k = cc

  same_text : (x y z : List ℕ) → bytes_eq x z ≡ true → bytes_eq y z ≡ true → bytes_eq x y ≡ true
  same_text x y z h k = (bytes_eq-Decides x y).1 ((bytes_eq-Decides x z).0 h ∙ sym ((bytes_eq-Decides y z).0 k))

  file_same : (a b : s.Scope) → s.is_file a ≡ true → s.is_file b ≡ true → s.is_same a b ≡ true
  file_same s.file s.file h k = refl
  file_same s.file (s.block x y) h k = cc
  file_same (s.block x y) b h k = cc

  body_space : (w v : s.What) → has_body w ≡ true → has_body v ≡ true → rules.same_space env model bodies w v ≡ true
  body_space (s.aFunction ws ps b) (s.aFunction vs qs c) h k = refl
  body_space (s.aFunction ws ps b) (s.anObject vs f i) h k = cc
  body_space (s.aFunction ws ps b) (s.aParameter vs) h k = cc
  body_space (s.aFunction ws ps b) (s.aTypedef vs) h k = cc
  body_space (s.aFunction ws ps b) (s.anEnumerator es) h k = cc
  body_space (s.aFunction ws ps b) (s.aTag es) h k = cc
  body_space (s.aFunction ws ps b) (s.aName vs) h k = cc
  body_space (s.anObject ws f i) v h k = cc
  body_space (s.aParameter ws) v h k = cc
  body_space (s.aTypedef ws) v h k = cc
  body_space (s.anEnumerator es) v h k = cc
  body_space (s.aTag es) v h k = cc
  body_space (s.aName ws) v h k = cc

  both_true : (a b : Bool) → a ≡ true → b ≡ true → a && b ≡ true
  both_true true b h k = k
  both_true false b h k = cc

  clash_by : (m f g : Bool) → m ≡ true → g ≡ false → m && not (f && g) ≡ true
  clash_by true true false h k = refl
  clash_by true false false h k = refl
  clash_by m f true h k = cc
  clash_by false f false h k = cc

  named_long : (n : List ℕ) → bytes_eq n (codes "main") ≡ true → nat_lt 0 (length n) ≡ true
  named_long n h = subst (λ x. nat_lt 0 (length x) ≡ true) (sym ((bytes_eq-Decides n (codes "main")).0 h)) refl

  clash : (d : s.Declared) (x : Entry) → is_body d ≡ true → is_body x.declared ≡ true → rules.clashes env model bodies d x ≡ true
  clash d x h k =
      let e = x.declared in
      let dn = and_left (bytes_eq d.name (codes "main")) _ (and_right (s.is_file d.scope) _ h) in
      let en = and_left (bytes_eq e.name (codes "main")) _ (and_right (s.is_file e.scope) _ k) in
      let db = and_right (bytes_eq d.name (codes "main")) _ (and_right (s.is_file d.scope) _ h) in
      let eb = and_right (bytes_eq e.name (codes "main")) _ (and_right (s.is_file e.scope) _ k) in
      clash_by (rules.meets env model bodies d e) (s.is_file d.scope) (rules.agrees env model bodies e.what d.what)
      (both_true _ _ (body_space d.what e.what db eb) (both_true _ _ (file_same d.scope e.scope (and_left _ _ h) (and_left _ _ k)) (both_true _ _ (same_text d.name e.name (codes "main") dn en) (named_long d.name dn))))
      (bodies_differ e.what d.what eb db)

  clash_any : (d : s.Declared) (before : List Entry) → is_body d ≡ true → list_any is_body (map (λ e. e.declared) before) ≡ true → list_any (rules.clashes env model bodies d) before ≡ true
  clash_any d [] h k = cc
  clash_any d (x ∷ before) h k = by_test (is_body x.declared) refl k (λ q. clash_any d before h q)
    where
      by_test : (b : Bool) → is_body x.declared ≡ b → b || list_any is_body (map (λ e. e.declared) before) ≡ true → (list_any is_body (map (λ e. e.declared) before) ≡ true → list_any (rules.clashes env model bodies d) before ≡ true) →
          rules.clashes env model bodies d x || list_any (rules.clashes env model bodies d) before ≡ true
      by_test true e q f = true_left _ _ (clash d x h e)
      by_test false e q f = true_right (rules.clashes env model bodies d x) _ (f q)

  -- behind one such declaration there is no other
  no_later : (before es : List Entry) → rules.redeclared env model bodies before es ≡ [] → list_any is_body (map (λ e. e.declared) before) ≡ true → list_any is_body (map (λ e. e.declared) es) ≡ false
  no_later before [] h k = refl
  no_later before (e ∷ es) h k =
      let rest = no_later (e ∷ before) es (nil_right _ _ h) (true_right (is_body e.declared) _ k) in
      by_test (is_body e.declared) refl rest
    where
      alone : is_body e.declared ≡ true → ⊥
      alone q = apart (clash_any e.declared before q k) (line_holds _ _ _ (nil_left (line (list_any (rules.clashes env model bodies e.declared) before) _ _) _ (nil_left _ _ h)))

      by_test : (b : Bool) → is_body e.declared ≡ b → list_any is_body (map (λ e. e.declared) es) ≡ false → b || list_any is_body (map (λ e. e.declared) es) ≡ false
      by_test true q r = absurd (alone q)
      by_test false q r = r

  any_before : (e : Entry) (before : List Entry) → is_body e.declared ≡ true → list_any is_body (map (λ x. x.declared) (e ∷ before)) ≡ true
  any_before e before h = true_left (is_body e.declared) _ h

  once : (before es : List Entry) (xs ys : List s.Declared) → rules.redeclared env model bodies before es ≡ [] → map (λ e. e.declared) es ≡ xs ++ ys → list_any is_body xs ≡ true → list_any is_body ys ≡ false
  once before es [] ys h e k = cc
  once before [] (x ∷ xs) ys h e k = cc
  once before (d ∷ es) (x ∷ xs) ys h e k =
      let same : d.declared ≡ x = cc in
      let tail : map (λ e. e.declared) es ≡ xs ++ ys = cc in
      once_by (is_body x) refl k (λ q. once (d ∷ before) es xs ys (nil_right _ _ h) tail q)
      (λ q. any_last is_body xs ys (subst (λ z. list_any is_body z ≡ false) tail (no_later (d ∷ before) es (nil_right _ _ h) (any_before d before (ap is_body same ∙ q)))))
    where
      once_by : (b : Bool) → is_body x ≡ b → b || list_any is_body xs ≡ true → (list_any is_body xs ≡ true → list_any is_body ys ≡ false) → (is_body x ≡ true → list_any is_body ys ≡ false) → list_any is_body ys ≡ false
      once_by true q r f g = g q
      once_by false q r f g = f r

-- ---- The functions of a source

if_so : {A : Type 0} (b : Bool) (x y : A) → b ≡ true → (if b then x else y) ≡ x
if_so true x y h = refl
if_so false x y h = cc

if_not : {A : Type 0} (b : Bool) (x y : A) → b ≡ false → (if b then x else y) ≡ y
if_not true x y h = cc
if_not false x y h = refl

cond_so : {A : Type 0} (b : Bool) (x y : A) → b ≡ true → cond b x y ≡ x
cond_so true x y h = refl
cond_so false x y h = cc

cond_not : {A : Type 0} (b : Bool) (x y : A) → b ≡ false → cond b x y ≡ y
cond_not true x y h = cc
cond_not false x y h = refl

same_kind : (k : Kind) → rules.is_same_kind k kind.Int ≡ true → k ≡ kind.Int
same_kind kind.Int h = refl
same_kind kind.Bool h = cc
same_kind kind.Char h = cc
same_kind kind.UChar h = cc
same_kind kind.Short h = cc
same_kind kind.UShort h = cc
same_kind kind.UInt h = cc
same_kind kind.Long h = cc
same_kind kind.ULong h = cc
same_kind kind.LongLong h = cc
same_kind kind.ULongLong h = cc

int_result : (env : Env) (model : Model) (bodies : List (List ℕ)) (r : Option Kind) → rules.same_result env model bodies r (Some kind.Int) ≡ true → r ≡ Some kind.Int
int_result env model bodies None h = cc
int_result env model bodies (Some k) h = ap Some (same_kind k h)

no_kinds : (env : Env) (ps : t.Params) → length (params_kinds env ps) ≡ 0 → params_numbers env ps ≡ []
no_kinds env t.no_params h = refl
no_kinds env (t.params_and ps c ws n) h = let e = length-append (params_kinds env ps) (kind_or_int (words_type env ws) ∷ []) in absurd (omega (arith, e, h))

no_parameters : (env : Env) (ps : t.Parameters) → length (parameter_kinds env ps) ≡ 0 → parameter_numbers env ps ≡ []
no_parameters env (t.pUnknown a b) h = refl
no_parameters env (t.pVoid a at b) h = refl
no_parameters env (t.pSome a ps b) h = no_kinds env ps h

module _ (env : Env) (model : Model) (bodies : List (List ℕ)) where
  abbrev F : Function → typed.Function
  F f = function_of env model bodies f

  abbrev mains_of : t.Items → List typed.Function
  mains_of is = filter is_main (map F (functions_of env is))

  record OneMain (is : t.Items) : Type 0 where
    main : Function
    only : mains_of is ≡ F main ∷ []
    result : main.result ≡ Some kind.Int
    parameters : main.parameters ≡ []
    there : list_any is_body (s.in_items is) ≡ true

  abbrev Mains : t.Items → Type 0
  Mains is = ((rules.main_in env model bodies is ≡ None) × (mains_of is ≡ [])) ⊎ OneMain is

  more_mains : (is : t.Items) (f : Function) → filter is_main (map F (functions_of env is ++ f ∷ [])) ≡ mains_of is ++ filter is_main (F f ∷ [])
  more_mains is f = ap (filter is_main) (map-append F (functions_of env is) (f ∷ [])) ∙ filter-append is_main (map F (functions_of env is)) (F f ∷ [])

  -- no function, or the one before
  kept : (is : t.Items) (i : t.Item) (ds : List s.Declared) → rules.main_in env model bodies (t.items_and is i) ≡ rules.main_in env model bodies is → mains_of (t.items_and is i) ≡ mains_of is → s.in_items (t.items_and is i) ≡ s.in_items is ++ ds →
      Mains is → Mains (t.items_and is i)
  kept is i ds e g d (inl h) = inl (e ∙ h.0, g ∙ h.1)
  kept is i ds e g d (inr h) = inr (record { main = h.main; only = g ∙ h.only; result = h.result; parameters = h.parameters; there = ap (list_any is_body) d ∙ any_left is_body (s.in_items is) ds h.there })

  module _ (whole : List s.Declared) (single : (xs ys : List s.Declared) → whole ≡ xs ++ ys → list_any is_body xs ≡ true → list_any is_body ys ≡ false) where
    body_there : (number : ℕ) (ws : t.Words) (n : List ℕ) (at : ℕ) (ps : t.Parameters) (a z : ℕ) (ss : t.Sts) → bytes_eq n (codes "main") ≡ true → list_any is_body (s.in_function number ws n at ps (t.bBlock a ss z)) ≡ true
    body_there number ws n at ps a z ss h =
        let d = s.declared s.file None n at (close_of ps) (s.aFunction ws ps true) in
        let own : is_body d ≡ true = ap (λ b. b && true) h in
        any_left is_body (s.in_words s.file None ws ++ s.in_parameters (s.block (open_of ps) z) (Some number) ps ++ d ∷ []) (s.in_statements (Some number) (s.block (open_of ps) z) ss)
        (any_right is_body (s.in_words s.file None ws ++ s.in_parameters (s.block (open_of ps) z) (Some number) ps) (d ∷ []) (true_left (is_body d) false own))

    step : (b : Bool) (is : t.Items) (ws : t.Words) (n : List ℕ) (at : ℕ) (ps : t.Parameters) (ats : t.Ats) (a z : ℕ) (ss : t.Sts) (after : List s.Declared) → bytes_eq n (codes "main") ≡ b →
        whole ≡ s.in_items is ++ (s.in_function (s.count_bodies is) ws n at ps (t.bBlock a ss z) ++ after) → Mains is → rules.or_none env model bodies (rules.main_in env model bodies (t.items_and is (t.tFunction ws (t.named n at) ps ats (t.bBlock a ss z)))) ≡ [] →
        Mains (t.items_and is (t.tFunction ws (t.named n at) ps ats (t.bBlock a ss z)))
    step false is ws n at ps ats a z ss after e w m l =
        let f : Function = record { name = n; at = at; result = kind_in (words_type env ws); parameters = parameter_numbers env ps; body = ss } in
        kept is (t.tFunction ws (t.named n at) ps ats (t.bBlock a ss z)) (s.in_function (s.count_bodies is) ws n at ps (t.bBlock a ss z))
        (if_not (bytes_eq n (codes "main")) _ _ e)
        (more_mains is f ∙ ap (λ xs. mains_of is ++ xs) (cond_not (bytes_eq n (codes "main")) _ _ e) ∙ append-nil (mains_of is)) refl m
    step true is ws n at ps ats a z ss after e w (inr h) l =
        absurd (apart (any_left is_body (s.in_function (s.count_bodies is) ws n at ps (t.bBlock a ss z)) after (body_there (s.count_bodies is) ws n at ps a z ss e)) (single (s.in_items is) _ w h.there))
    step true is ws n at ps ats a z ss after e w (inl h) l =
        let f : Function = record { name = n; at = at; result = kind_in (words_type env ws); parameters = parameter_numbers env ps; body = ss } in
        let lines = sym (ap (rules.or_none env model bodies) (if_so (bytes_eq n (codes "main")) _ _ e)) ∙ l in
        let test = not_false _ (line_holds _ _ _ (nil_right (rules.or_none env model bodies (rules.main_in env model bodies is)) _ lines)) in
        inr (record {
          main = f;
          only = more_mains is f ∙ ap (λ xs. xs ++ filter is_main (F f ∷ [])) h.1 ∙ cond_so (bytes_eq n (codes "main")) _ _ e;
          result = int_result env model bodies f.result (and_left _ _ test);
          parameters = no_parameters env ps (eqb-true (length (parameter_kinds env ps)) 0 (and_right (rules.same_result env model bodies f.result (Some kind.Int)) _ test));
          there = any_right is_body (s.in_items is) _ (body_there (s.count_bodies is) ws n at ps a z ss e);
        })

    before : (b : Bool) (m : Option (List Broken)) (xs : List Broken) → rules.or_none env model bodies (if b then Some (rules.or_none env model bodies m ++ xs) else m) ≡ [] → rules.or_none env model bodies m ≡ []
    before true m xs h = nil_left _ _ h
    before false m xs h = h

    mains : (is : t.Items) (after : List s.Declared) → whole ≡ s.in_items is ++ after → rules.or_none env model bodies (rules.main_in env model bodies is) ≡ [] → Mains is
    mains t.no_items after w l = inl (refl, refl)
    mains (t.items_and is (t.tSkipped x at r b)) after w l = kept is (t.tSkipped x at r b) [] refl refl (sym (append-nil (s.in_items is))) (mains is after w l)
    mains (t.items_and is (t.tEmpty at)) after w l = kept is (t.tEmpty at) [] refl refl (sym (append-nil (s.in_items is))) (mains is after w l)
    mains (t.items_and is (t.tDeclaration d)) after w l =
        kept is (t.tDeclaration d) (s.in_declaration s.file None d) refl refl refl (mains is (s.in_declaration s.file None d ++ after) (w ∙ append_assoc (s.in_items is) _ after) l)
    mains (t.items_and is (t.tFunction ws (t.named n at) ps ats (t.bSkipped a r z))) after w l =
        let mine = s.in_function (s.count_bodies is) ws n at ps (t.bSkipped a r z) in
        kept is (t.tFunction ws (t.named n at) ps ats (t.bSkipped a r z)) mine refl refl refl (mains is (mine ++ after) (w ∙ append_assoc (s.in_items is) mine after) l)
    mains (t.items_and is (t.tFunction ws (t.named n at) ps ats (t.bBlock a ss z))) after w l =
        let mine = s.in_function (s.count_bodies is) ws n at ps (t.bBlock a ss z) in
        let same = w ∙ append_assoc (s.in_items is) mine after in
        step (bytes_eq n (codes "main")) is ws n at ps ats a z ss after refl same
        (mains is (mine ++ after) same (before (bytes_eq n (codes "main")) (rules.main_in env model bodies is) (rules.main_lines env model bodies at (kind_in (words_type env ws)) (parameter_kinds env ps)) l)) l

lines_none : (env : Env) (model : Model) (bodies : List (List ℕ)) (m : Option (List Broken)) → rules.main_line env model bodies m ≡ [] → (rules.or_none env model bodies m ≡ []) × (m ≡ None → ⊥)
lines_none env model bodies None h = cc
lines_none env model bodies (Some lines) h = (h, (λ e. some_none lines e))
  where
    some_none : (lines : List Broken) → Some lines ≡ None → ⊥
    some_none lines e = cc

pub main_found_is : MainFound
main_found_is items model h =
    let env = env_of items model in
    let bodies = map (λ f. f.name) (functions_of env items) in
    let front = nil_left (rules.faults_of_items env model bodies items ++ rules.redeclared env model bodies [] env.entries) _ h in
    let declared = nil_right (rules.faults_of_items env model bodies items) _ front in
    let line = lines_none env model bodies (rules.main_in env model bodies items) (nil_right (rules.faults_of_items env model bodies items ++ rules.redeclared env model bodies [] env.entries) _ h) in
    told env model bodies items line.1
    (mains env model bodies (s.in_items items) (λ xs ys e k. once env model bodies [] env.entries xs ys declared (declares_all items model ∙ e) k) items [] (sym (append-nil (s.in_items items))) line.0)
  where
    told : (env : Env) (model : Model) (bodies : List (List ℕ)) (items : t.Items) → (rules.main_in env model bodies items ≡ None → ⊥) → Mains env model bodies items → HasMain (map (function_of env model bodies) (functions_of env items))
    told env model bodies items never (inl e) = absurd (never e.0)
    told env model bodies items never (inr o) = record { main = function_of env model bodies o.main; only = o.only; result = o.result; parameters = o.parameters }
