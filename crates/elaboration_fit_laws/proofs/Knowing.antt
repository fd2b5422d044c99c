-- Functions that mean something without a body take no arguments, and have no body.
use Rattle.std.proofs.Common.{◌≡◌, ℕ, ◌≤◌, ◌+◌, suc, Bool, true, false, ◌&&◌, ◌||◌, not, if◌then◌else◌, List, [], ◌∷◌, ◌++◌, map, length, drop, append-nil, append_assoc, Option, None, Some, bytes_eq, refl, ap, sym, ◌∙◌, subst, arith}
use Rattle.std.specs.Prelude.{position, cond, nat_eq, nat_le, find, codes}
use Rattle.std.specs.List.{list_any, prefix_len}
use Rattle.std.specs.Option.{option_map}
use Rattle.std.proofs.lemmas.Bool.{eqb-true, le-ltb}
use Rattle.std.proofs.lemmas.Slice.Eq.{bytes_eq-Decides}
use Rattle.std.proofs.lemmas.List.{map-append, length-append}
use Rattle.lv_base.specs.declared.kind.Kind.{Kind}
use Rattle.lv_base.specs.declared.kind.Model.{Model}
use Rattle.c_tree.specs.Tree as t
use Rattle.c_tree.specs.Shape.{ShapedItems, ShapedBody, is_skipped_name}
use Rattle.c_run.specs.Breaking.{Broken}
use Rattle.c_meaning.specs.Tokens.{open_of, close_of}
use Rattle.c_meaning.specs.Scope as s
use Rattle.c_meaning.specs.Bindings.{Env, Entry, Object, Entity, anObjectOf, aFunctionOf, aConstantOf, aTypeOf, aTagOf, aNameOf, nothingOf, entity_of, entity_of_entry, visible_in, is_visible, inner, params_kinds, parameter_kinds, kind_in, words_type}
use Rattle.c_meaning.specs.Constants as c
use Rattle.c_meaning.specs.Known.{Known, Named, named_as, KNOWN, reaches, aborts, draws, known_of}
use Rattle.c_meaning.specs.Program.{Function, functions_of, env_of}
use Rattle.c_meaning.specs.Rules as rules
use Rattle.control_laws.specs.Aims.{KnownHaveNone}
use Rattle.elaboration_fit_laws.specs.Laws.{KnownTakeNone}
use Rattle.elaboration_fit_laws.specs.Known.{KnownHold}
use Rattle.elaboration_fit_laws.proofs.Fitting.{nil_left, nil_right, line_holds, not_false, and_left, and_right}

-- ---- Names

pub same_name : (xs ys : List ℕ) → bytes_eq xs ys ≡ true → xs ≡ ys
same_name xs ys e = (bytes_eq-Decides xs ys).0 e

pub own_name : (xs : List ℕ) → bytes_eq xs xs ≡ true
own_name xs = (bytes_eq-Decides xs xs).1 refl

-- ---- What an entry tells of a function

abbrev pub count_params : t.Params → ℕ
count_params t.no_params = 0
count_params (t.params_and ps x ws n) = count_params ps + 1

abbrev pub count_parameters : t.Parameters → ℕ
count_parameters (t.pSome a ps b) = count_params ps
count_parameters _ = 0

kinds_of_params : (env : Env) (ps : t.Params) → length (params_kinds env ps) ≡ count_params ps
kinds_of_params env t.no_params = refl
kinds_of_params env (t.params_and ps x ws n) = length-append (params_kinds env ps) _ ∙ ap (λ m. m + 1) (kinds_of_params env ps)

pub kinds_counted : (env : Env) (ps : t.Parameters) → length (parameter_kinds env ps) ≡ count_parameters ps
kinds_counted env (t.pUnknown a b) = refl
kinds_counted env (t.pVoid a x b) = refl
kinds_counted env (t.pSome a ps b) = kinds_of_params env ps

abbrev pub Counts : s.What → List Kind → Type 0
Counts (s.aFunction ws qs b) ps = length ps ≡ count_parameters qs
Counts _ ps = ⊥

abbrev pub Tells : s.What → Entity → Type 0
Tells w (aFunctionOf r ps) = Counts w ps
Tells w _ = Unit {0}

abbrev pub AllTell : List Entry → Type 0
AllTell [] = Unit {0}
AllTell (e ∷ es) = Tells e.declared.what e.entity × AllTell es

tell_more : (es : List Entry) (e : Entry) → AllTell es → Tells e.declared.what e.entity → AllTell (es ++ e ∷ [])
tell_more [] e a h = (h, tt)
tell_more (x ∷ es) e a h = (a.0, tell_more es e a.1 h)

-- the entries of an environment declare this list
pub record Bound (env : Env) (ds : List s.Declared) : Type 0 where
  pub told : AllTell env.entries
  pub declares : map (λ e. e.declared) env.entries ≡ ds

entered_bound : (env : Env) (ds : List s.Declared) (d : s.Declared) (x : Entity) → Bound env ds → Tells d.what x → Bound (c.entered env d x) (ds ++ d ∷ [])
entered_bound env ds d x b h =
    record { told = tell_more env.entries _ b.told h; declares = map-append (λ e. e.declared) env.entries _ ∙ ap (λ xs. xs ++ d ∷ []) b.declares }

new_bound : (env : Env) (ds : List s.Declared) (d : s.Declared) (o : Object) → Bound env ds → Bound (c.new_object env d o) (ds ++ d ∷ [])
new_bound env ds d o b =
    record { told = tell_more env.entries _ b.told tt; declares = map-append (λ e. e.declared) env.entries _ ∙ ap (λ xs. xs ++ d ∷ []) b.declares }

placed_bound : (f : Bool) (env : Env) (ds : List s.Declared) (d : s.Declared) (o : Object) (n : ℕ) → Bound env ds → Bound (if f then c.entered env d (anObjectOf n) else c.new_object env d o) (ds ++ d ∷ [])
placed_bound true env ds d o n b = entered_bound env ds d (anObjectOf n) b tt
placed_bound false env ds d o n b = new_bound env ds d o b

object_bound : (env : Env) (ds : List s.Declared) (d : s.Declared) (o : Object) (x : Entity) → Bound env ds → Bound (c.object_or_same env d o x) (ds ++ d ∷ [])
object_bound env ds d o (anObjectOf n) b = placed_bound (s.is_file d.scope) env ds d o n b
object_bound env ds d o (aFunctionOf r ps) b = new_bound env ds d o b
object_bound env ds d o (aConstantOf v) b = new_bound env ds d o b
object_bound env ds d o (aTypeOf k x) b = new_bound env ds d o b
object_bound env ds d o (aTagOf k) b = new_bound env ds d o b
object_bound env ds d o (aNameOf k x) b = new_bound env ds d o b
object_bound env ds d o nothingOf b = new_bound env ds d o b

declare_bound : (model : Model) (env : Env) (ds : List s.Declared) (d : s.Declared) (w : s.What) → d.what ≡ w → Bound env ds → Bound (c.declare model env d w) (ds ++ d ∷ [])
declare_bound model env ds d (s.anObject ws f i) e b = object_bound env ds d _ (c.earlier_in_file env d.name) b
declare_bound model env ds d (s.aParameter ws) e b = new_bound env ds d _ b
declare_bound model env ds d (s.aFunction ws ps body) e b = entered_bound env ds d _ b (subst (λ w. Counts w (parameter_kinds env ps)) (sym e) (kinds_counted env ps))
declare_bound model env ds d (s.aTypedef ws) e b = entered_bound env ds d _ b tt
declare_bound model env ds d (s.anEnumerator es) e b = entered_bound env ds d _ b tt
declare_bound model env ds d (s.aTag es) e b = entered_bound env ds d _ b tt
declare_bound model env ds d (s.aName ws) e b = entered_bound env ds d _ b tt

all_bound : (model : Model) (env : Env) (before ds : List s.Declared) → Bound env before → Bound (c.bind_from model env ds) (before ++ ds)
all_bound model env before [] b = subst (Bound env) (sym (append-nil before)) b
all_bound model env before (d ∷ ds) b =
    subst (Bound (c.bind_from model (c.declare model env d d.what) ds)) (append_assoc before (d ∷ []) ds) (all_bound model (c.declare model env d d.what) (before ++ d ∷ []) ds (declare_bound model env before d d.what refl b))

pub env_bound : (items : t.Items) (model : Model) → Bound (env_of items model) (s.in_items items)
env_bound items model = all_bound model c.no_names [] (s.in_items items) (record { told = tt; declares = refl })

-- ---- Names of their own

abbrev NotReaches : Known → Type 0
NotReaches reaches = ⊥
NotReaches _ = Unit {0}

abbrev NeverReaches : List Named → Type 0
NeverReaches [] = Unit {0}
NeverReaches (n ∷ ns) = NotReaches n.means × NeverReaches ns

not_some : (k : Known) → NotReaches k → Some k ≡ Some reaches → ⊥
not_some reaches a h = a
not_some aborts a h = cc
not_some (draws k) a h = cc

never_by : (b : Bool) (n : Named) (o : Option Named) → NotReaches n.means → (option_map (λ m. m.means) o ≡ Some reaches → ⊥) → option_map (λ m. m.means) (if b then Some n else o) ≡ Some reaches → ⊥
never_by true n o a k h = not_some n.means a h
never_by false n o a k h = k h

never : (p : Named → Bool) (ns : List Named) → NeverReaches ns → option_map (λ m. m.means) (find p ns) ≡ Some reaches → ⊥
never p [] a h = cc
never p (n ∷ ns) a h = never_by (p n) n (find p ns) a.0 (λ k. never p ns a.1 k) h

reach_by : (b : Bool) (n : List ℕ) → b ≡ bytes_eq (codes "reach_error") n →
    option_map (λ m. m.means) (if b then Some (named_as (codes "reach_error") reaches) else find (λ m. bytes_eq m.name n) (drop 1 KNOWN)) ≡ Some reaches → bytes_eq n (codes "reach_error") ≡ true
reach_by true n e h = subst (λ x. bytes_eq x (codes "reach_error") ≡ true) (same_name (codes "reach_error") n (sym e)) (own_name (codes "reach_error"))
reach_by false n e h = absurd (never (λ m. bytes_eq m.name n) (drop 1 KNOWN) (tt, (tt, (tt, (tt, (tt, (tt, (tt, (tt, (tt, (tt, (tt, (tt, (tt, tt))))))))))))) h)

reach_named : (n : List ℕ) → known_of n ≡ Some reaches → bytes_eq n (codes "reach_error") ≡ true
reach_named n h = reach_by (bytes_eq (codes "reach_error") n) n refl h

-- ---- Places of names

whole_by : (b rest : Bool) (n m : ℕ) → b || rest ≡ false → (rest ≡ false → n ≡ m) → cond (not b) (1 + n) 0 ≡ suc m
whole_by true rest n m h k = cc
whole_by false rest n m h k = let e : n ≡ m = k h in omega (arith, e)

whole : (p : List ℕ → Bool) (xs : List (List ℕ)) → list_any p xs ≡ false → prefix_len (λ x. not (p x)) xs ≡ length xs
whole p [] h = refl
whole p (x ∷ xs) h = whole_by (p x) (list_any p xs) (prefix_len (λ y. not (p y)) xs) (length xs) h (λ k. whole p xs k)

none_if : (b : Bool) (k : ℕ) → b ≡ false → cond b (Some k) None ≡ None
none_if true k h = cc
none_if false k h = refl

place_none : (p : List ℕ → Bool) (xs : List (List ℕ)) → list_any p xs ≡ false → position p xs ≡ None
place_none p xs h =
    let e : prefix_len (λ x. not (p x)) xs ≡ length xs = whole p xs h in
    none_if _ _ (le-ltb (prefix_len (λ x. not (p x)) xs) (length xs) (omega (arith, e)))

or_left : (a b : Bool) → a || b ≡ false → a ≡ false
or_left true b h = cc
or_left false b h = refl

or_right : (a b : Bool) → a || b ≡ false → b ≡ false
or_right true b h = cc
or_right false b h = h

or_both : (a b : Bool) → a ≡ false → b ≡ false → a || b ≡ false
or_both true b h k = cc
or_both false b h k = k

any_more : (p : List ℕ → Bool) (fs : List Function) (f : Function) → list_any p (map (λ g. g.name) fs) ≡ false → p f.name ≡ false → list_any p (map (λ g. g.name) (fs ++ f ∷ [])) ≡ false
any_more p [] f h k = or_both (p f.name) false k refl
any_more p (g ∷ fs) f h k = or_both (p g.name) _ (or_left (p g.name) _ h) (any_more p fs f (or_right (p g.name) _ h) k)

-- ---- Declarations that are right

module _ (env : Env) (model : Model) (bodies : List (List ℕ)) where
  abbrev pub AllRight : List s.Declared → Type 0
  AllRight [] = Unit {0}
  AllRight (d ∷ ds) = (rules.declared_line env model bodies d d.what ≡ []) × AllRight ds

  pub right_of : (before es : List Entry) → rules.redeclared env model bodies before es ≡ [] → AllRight (map (λ e. e.declared) es)
  right_of before [] h = tt
  right_of before (e ∷ es) h =
      let front = nil_left _ _ h in
      (nil_right _ _ front, right_of (e ∷ before) es (nil_right _ _ h))

  right_front : (xs ys : List s.Declared) → AllRight (xs ++ ys) → AllRight xs
  right_front [] ys a = tt
  right_front (x ∷ xs) ys a = (a.0, right_front xs ys a.1)

  right_back : (xs ys : List s.Declared) → AllRight (xs ++ ys) → AllRight ys
  right_back [] ys a = a
  right_back (x ∷ xs) ys a = right_back xs ys a.1

  -- ---- Arguments

  -- an entry of this name that is right
  record Right (n : List ℕ) (e : Entry) : Type 0 where
    named : e.declared.name ≡ n
    told : Tells e.declared.what e.entity
    line : rules.declared_line env model bodies e.declared e.declared.what ≡ []

  abbrev OptionRight : List ℕ → Option Entry → Type 0
  OptionRight n None = Unit {0}
  OptionRight n (Some e) = Right n e

  inner_right : (n : List ℕ) (best : Option Entry) (e : Entry) → OptionRight n best → Right n e → Right n (inner best e)
  inner_right n None e b r = r
  inner_right n (Some x) e b r = by_test (nat_le (s.begin_of x.declared.scope) (s.begin_of e.declared.scope))
    where
      by_test : (q : Bool) → Right n (if q then e else x)
      by_test true = r
      by_test false = b

  step_right : (v : Bool) (n : List ℕ) (best : Option Entry) (e : Entry) → OptionRight n best → (v ≡ true → Right n e) → OptionRight n (if v then Some (inner best e) else best)
  step_right true n best e b r = inner_right n best e b (r refl)
  step_right false n best e b r = b

  visible_right : (n : List ℕ) (at : ℕ) (best : Option Entry) (es : List Entry) → OptionRight n best → AllTell es → AllRight (map (λ e. e.declared) es) → OptionRight n (visible_in false n at best es)
  visible_right n at best [] b a r = b
  visible_right n at best (e ∷ es) b a r =
      visible_right n at (if is_visible false n at e then Some (inner best e) else best) es
      (step_right (is_visible false n at e) n best e b (λ v. record { named = same_name e.declared.name n (and_left (bytes_eq e.declared.name n) _ (and_right _ _ v)); told = a.0; line = r.0 })) a.1 r.1

  count_none : (k : Known) (at : ℕ) (r : Option Kind) (ps : List Kind) (b : Bool) → rules.known_line env model bodies (Some k) at r ps b ≡ [] → length ps ≡ 0
  count_none k at r ps b h =
      eqb-true (length ps) 0 (and_left (nat_eq (length ps) 0) _ (and_right (rules.is_known_right env model bodies k r) _ (not_false _ (line_holds _ _ _ h))))

  function_none : (k : Known) (n : List ℕ) (d : s.Declared) (w : s.What) (ps : List Kind) → known_of n ≡ Some k → d.name ≡ n → Counts w ps → rules.declared_line env model bodies d w ≡ [] → length ps ≡ 0
  function_none k n d (s.aFunction ws qs b) ps e q h l =
      h ∙ sym (kinds_counted env qs) ∙ count_none k d.at (kind_in (words_type env ws)) (parameter_kinds env qs) b (sym (ap (λ x. rules.known_line env model bodies x d.at (kind_in (words_type env ws)) (parameter_kinds env qs) b) (ap known_of q ∙ e)) ∙ l)
  function_none k n d (s.anObject ws f i) ps e q h l = absurd h
  function_none k n d (s.aParameter ws) ps e q h l = absurd h
  function_none k n d (s.aTypedef ws) ps e q h l = absurd h
  function_none k n d (s.anEnumerator es) ps e q h l = absurd h
  function_none k n d (s.aTag es) ps e q h l = absurd h
  function_none k n d (s.aName ws) ps e q h l = absurd h

  entry_none : (k : Known) (n : List ℕ) (o : Option Entry) (r : Option Kind) (ps : List Kind) → known_of n ≡ Some k → OptionRight n o → entity_of_entry o ≡ aFunctionOf r ps → length ps ≡ 0
  entry_none k n None r ps e h q = cc
  entry_none k n (Some x) r ps e h q = function_none k n x.declared x.declared.what ps e h.named (subst (Tells x.declared.what) q h.told) h.line

  takes_none : AllTell env.entries → AllRight (map (λ e. e.declared) env.entries) → KnownTakeNone env
  takes_none a h n at k r ps e q = entry_none k n (visible_in false n at None env.entries) r ps e (visible_right n at None env.entries tt a h) q

  -- ---- Bodies

  body_right : (k : Known) (at : ℕ) (r : Option Kind) (ps : List Kind) → rules.known_line env model bodies (Some k) at r ps true ≡ [] → k ≡ reaches
  body_right k at r ps h = reaching k (and_right (nat_eq (length ps) 0) _ (and_right (rules.is_known_right env model bodies k r) _ (not_false _ (line_holds _ _ _ h))))
    where
      reaching : (k : Known) → rules.may_have_body env model bodies k || not true ≡ true → k ≡ reaches
      reaching reaches h = refl
      reaching aborts h = cc
      reaching (draws k) h = cc

  own_none : (b : Bool) (k : Known) (m n : List ℕ) (at : ℕ) (ws : t.Words) (ps : t.Parameters) (first last : ℕ) (ss : t.Sts) (names : List (List ℕ)) → b ≡ bytes_eq m n → known_of n ≡ Some k →
      rules.known_line env model bodies (known_of m) at (kind_in (words_type env ws)) (parameter_kinds env ps) true ≡ [] → ShapedBody (is_skipped_name (t.named m at)) names (t.bBlock first ss last) → b ≡ false
  own_none false k m n at ws ps first last ss names e q l h = refl
  own_none true k m n at ws ps first last ss names e q l h =
      let known = ap known_of (same_name m n (sym e)) ∙ q in
      let reached = body_right k at _ _ (sym (ap (λ x. rules.known_line env model bodies x at (kind_in (words_type env ws)) (parameter_kinds env ps) true) known) ∙ l) in
      absurd (subst (λ x. ShapedBody x names (t.bBlock first ss last)) (reach_named m (known ∙ ap Some reached)) h)

  none_named : (k : Known) (n : List ℕ) → known_of n ≡ Some k → (is : t.Items) → ShapedItems is → AllRight (s.in_items is) → list_any (λ m. bytes_eq m n) (map (λ f. f.name) (functions_of env is)) ≡ false
  none_named k n e t.no_items h a = refl
  none_named k n e (t.items_and is (t.tSkipped x at r b)) h a = none_named k n e is h.0 a
  none_named k n e (t.items_and is (t.tDeclaration d)) h a = none_named k n e is h.0 (right_front (s.in_items is) _ a)
  none_named k n e (t.items_and is (t.tEmpty at)) h a = none_named k n e is h.0 a
  none_named k n e (t.items_and is (t.tFunction ws (t.named m at) ps ats (t.bSkipped x r b))) h a = none_named k n e is h.0 (right_front (s.in_items is) _ a)
  none_named k n e (t.items_and is (t.tFunction ws (t.named m at) ps ats (t.bBlock x ss b))) h a =
      let scope = s.block (open_of ps) b in
      let number = s.count_bodies is in
      let own = right_back (s.in_items is) _ a in
      let front = right_front (s.in_words s.file None ws ++ s.in_parameters scope (Some number) ps ++ s.declared s.file None m at (close_of ps) (s.aFunction ws ps true) ∷ []) (s.in_statements (Some number) scope ss) own in
      let line = right_back (s.in_words s.file None ws ++ s.in_parameters scope (Some number) ps) (s.declared s.file None m at (close_of ps) (s.aFunction ws ps true) ∷ []) front in
      any_more (λ y. bytes_eq y n) (functions_of env is) _ (none_named k n e is h.0 (right_front (s.in_items is) _ a))
      (own_none (bytes_eq m n) k m n at ws ps x b ss _ refl e line.0 h.1.0.body)

  have_none : (is : t.Items) → ShapedItems is → AllRight (s.in_items is) → KnownHaveNone (map (λ f. f.name) (functions_of env is))
  have_none is h a n k e = place_none (λ m. bytes_eq m n) _ (none_named k n e is h a)

pub known_hold_is : KnownHold
known_hold_is items model bodies h l =
    let env = env_of items model in
    let bound = env_bound items model in
    let right = right_of env model bodies [] env.entries l in
    (takes_none env model bodies bound.told right, have_none env model bodies items h (subst (AllRight env model bodies) bound.declares right))
