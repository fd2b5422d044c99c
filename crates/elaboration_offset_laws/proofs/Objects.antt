-- The objects of the typed tree keep their facts.
use Rattle.std.proofs.Common.{◌≡◌, ℕ, suc, ◌+◌, ◌-◌, ◌≤◌, ◌<◌, Bool, true, false, ◌&&◌, if◌then◌else◌, List, [], ◌∷◌, ◌++◌, length, map, replicate, Option, None, Some, ℤ, pos, refl, sym, ap, ◌∙◌, subst, arith}
use Rattle.std.specs.Prelude.{slice_get, nat_eq, nat_lt, All}
use Rattle.std.proofs.lemmas.Bool.{eqb-true, ne_eqb, lt-ltb, leb-false}
use Rattle.std.proofs.lemmas.List.{length-append, length-map, length-replicate}
use Rattle.std.proofs.lemmas.List.Elements.{All-nil, All-cons, All-append, All-replicate}
use Rattle.lv_base.specs.declared.kind.Kind.{Kind}
use Rattle.lv_base.specs.declared.kind.Model.{Model}
use Rattle.lv_base.specs.Integers.{InRange, converted}
use Rattle.c_run.specs.Run.{padded}
use Rattle.c_tree.specs.declared.symbol.Symbol.TheVariants as sy
use Rattle.c_tree.specs.Symbols.{sign}
use Rattle.c_tree.specs.Denotes.{spelling}
use Rattle.c_tree.specs.Tree as t
use Rattle.c_meaning.specs.Tokens.{count_parts}
use Rattle.c_meaning.specs.Scope as s
use Rattle.c_meaning.specs.Bindings.{Env, Entry, Object, Entity, size_of_object}
use Rattle.c_meaning.specs.Constants as c
use Rattle.c_meaning.specs.Program.{functions_of, env_of, constants, initial_values, initial_in, is_number, or_initial, initial_of, start_values}
use Rattle.c_meaning.specs.Rules as rules
use Rattle.c_typed.specs.Tree as typed
use Rattle.c_typed.specs.Facts.{FirstFits, ObjectFits}
use Rattle.c_types.specs.Fit.{LengthFits, ObjectsFit}
use Rattle.c_types.specs.Elaborated.{length_of, owner_of, first_of, objects_from, function_of}
use Rattle.elaboration_offset_laws.specs.Rising.{Rises}
use Rattle.elaboration_offset_laws.specs.Laws.{HaveLetters, SourcesHold, ObjectsTyped}
use Rattle.elaboration_offset_laws.proofs.Logic.{nil_left, nil_right}
use Rattle.elaboration_offset_laws.proofs.Statements.{read_items}
use Rattle.elaboration_offset_laws.proofs.Lying.{Known, within, Begun}
use Rattle.elaboration_offset_laws.proofs.Naming.{named_items}
use Rattle.elaboration_offset_laws.proofs.Files.{placed_items}
use Rattle.elaboration_offset_laws.proofs.Growing.{if_false}
use Rattle.elaboration_offset_laws.proofs.Whole.{up_to}
use Rattle.elaboration_offset_laws.proofs.Owning.{Below, AllOwned, all_owned, below_items, bodies_counted}
use Rattle.elaboration_offset_laws.proofs.Keeping.{Kept, AllKept, all_kept}
use Rattle.elaboration_offset_laws.proofs.Ranges.{converted_in_range, zero_in_range}

-- ---- An initial value has room

-- a value alone begins a scalar, and a list an array with no fewer elements
abbrev pub Fitting : Option ℕ → t.Initial → Type 0
Fitting l t.iNothing = Unit {0}
Fitting l (t.iValue at e) = l ≡ None
Fitting None (t.iList at a es x b) = ⊥
Fitting (Some n) (t.iList at a es x b) = count_parts es ≤ n

pub few : (n m : ℕ) → 0 < n → nat_lt 0 n && nat_lt n m ≡ false → m ≤ n
few n m p h =
    let l = leb-false (suc n) m (sym (ap (λ b. b && nat_lt n m) (lt-ltb 0 n p)) ∙ h) in
    omega (arith, l)

module _ (f : Known) where
  pub fitting : (ws : t.Words) (g : t.Form) (i : t.Initial) (l : Option ℕ) → l ≡ c.object_length f.env f.model g i → LengthFits l → Begun f (s.anObject ws g i) → Fitting l i
  fitting ws g t.iNothing l e p b = tt
  fitting ws t.fPlain (t.iValue at v) l e p b = e
  fitting ws t.fPlain (t.iList at a es x w) l e p b = absurd b
  fitting ws (t.fArray y v z) (t.iValue at u) l e p b = absurd b
  fitting ws (t.fArray y v z) (t.iList at a es x w) l e p b =
      subst (λ m. Fitting m (t.iList at a es x w)) (sym e) (few (c.array_length f.env f.model v (t.iList at a es x w)) (count_parts es) (subst LengthFits e p) b)
  fitting ws (t.fFunction ps) (t.iValue at v) l e p b = absurd b
  fitting ws (t.fFunction ps) (t.iList at a es x w) l e p b = absurd b

  or_fits : (l : Option ℕ) (i j : t.Initial) → Fitting l i → Fitting l j → Fitting l (or_initial i j)
  or_fits l t.iNothing j h k = k
  or_fits l (t.iValue at e) j h k = h
  or_fits l (t.iList at a es x b) j h k = h

  module _ (objects : List Object) (number : ℕ) (o : Object) (there : slice_get objects number ≡ Some o) where
    same_object : (n : ℕ) (p : Object) → n ≡ number → slice_get objects n ≡ Some p → p ≡ o
    same_object n p e h =
        let both : Some p ≡ Some o = sym h ∙ ap (slice_get objects) e ∙ there in
        cc

    own_fits : (w : s.What) (x : Entity) → Kept f objects w x → is_number number x ≡ true → Fitting o.length (initial_in w)
    own_fits (s.anObject ws g i) x k h =
        let same = same_object k.0 k.1 (eqb-true k.0 number (sym (ap (is_number number) k.2) ∙ h)) k.3 in
        fitting ws g i o.length (sym (ap (λ p. p.length) same) ∙ k.4) (subst (λ p. LengthFits p.length) same k.5) k.6
    own_fits (s.aParameter ws) x k h = tt
    own_fits (s.aFunction ws ps b) x k h = tt
    own_fits (s.aTypedef ws) x k h = tt
    own_fits (s.anEnumerator es) x k h = tt
    own_fits (s.aTag es) x k h = tt
    own_fits (s.aName ws) x k h = tt

    test_fits : (b : Bool) (i j : t.Initial) → (b ≡ true → Fitting o.length i) → Fitting o.length j → Fitting o.length (if b then or_initial i j else j)
    test_fits true i j h k = or_fits o.length i j (h refl) k
    test_fits false i j h k = k

    initial_fits : (es : List Entry) → AllKept f objects es → Fitting o.length (initial_of number es)
    initial_fits [] k = tt
    initial_fits (e ∷ es) k = test_fits (is_number number e.entity) (initial_in e.declared.what) (initial_of number es) (λ h. own_fits e.declared.what e.entity k.0 h) (initial_fits es k.1)

-- ---- The values at the start

abbrev size : Option ℕ → ℕ
size None = 1
size (Some n) = n

module _ (env : Env) (model : Model) where
  constants_long : (k : Kind) (es : t.Parts) → length (constants env model k es) ≡ count_parts es
  constants_long k t.no_parts = refl
  constants_long k (t.parts_and es x e) =
      let a = length-append (constants env model k es) (converted k model (c.or_zero (c.constant_of env model e)) ∷ []) in
      let h = constants_long k es in
      omega (arith, a, h)

  constants_in : (k : Kind) (es : t.Parts) → All (InRange k model) (constants env model k es)
  constants_in k t.no_parts = All-nil (InRange k model)
  constants_in k (t.parts_and es x e) =
      All-append (InRange k model) (constants env model k es) _ (constants_in k es) (All-cons (InRange k model) _ [] (converted_in_range k model (c.or_zero (c.constant_of env model e))) (All-nil (InRange k model)))

  padded_long : (n : ℕ) (vs : List ℤ) → length vs ≤ n → length (padded n vs) ≡ n
  padded_long n vs h =
      let a = length-append vs (replicate (n - length vs) (pos 0)) in
      let b = length-replicate (n - length vs) (pos 0) in
      omega (arith, a, b, h)

  long : (k : Kind) (l : Option ℕ) (i : t.Initial) → Fitting l i → length (initial_values env model k (size l) i) ≡ size l
  long k l t.iNothing h = length-replicate (size l) (pos 0)
  long k l (t.iValue at e) h = sym (ap size h)
  long k None (t.iList at a es x b) h = absurd h
  long k (Some n) (t.iList at a es x b) h =
      let e = constants_long k es in
      padded_long n (constants env model k es) (omega (arith, e, h))

  in_range : (k : Kind) (n : ℕ) (i : t.Initial) → All (InRange k model) (initial_values env model k n i)
  in_range k n t.iNothing = All-replicate (InRange k model) n (pos 0) (zero_in_range k model)
  in_range k n (t.iValue at e) = All-cons (InRange k model) _ [] (converted_in_range k model (c.or_zero (c.constant_of env model e))) (All-nil (InRange k model))
  in_range k n (t.iList at a es x b) =
      All-append (InRange k model) (constants env model k es) _ (constants_in k es) (All-replicate (InRange k model) (n - length (constants env model k es)) (pos 0) (zero_in_range k model))

-- ---- The objects

size_is : (o : Object) (l : Option ℕ) → o.length ≡ l → size_of_object (Some o) ≡ size l
size_is o None e = ap (λ m. elim m [ None ↦ 1 | Some n ↦ n ]) e
size_is o (Some k) e = ap (λ m. elim m [ None ↦ 1 | Some n ↦ n ]) e

length_is : (l : Option ℕ) → LengthFits l → (if nat_eq (length_of l) 0 then 1 else length_of l) ≡ size l
length_is None h = refl
length_is (Some n) h = if_false (nat_eq n 0) 1 n (ne_eqb n 0 (λ e. omega (arith, e, h)))

module _ (f : Known) (kept : AllKept f f.env.objects f.env.entries) (functions : List typed.Function) where
  all : List typed.Object
  all = objects_from f.env f.model 0 f.env.objects

  abbrev typed_of : ℕ → Object → typed.Object
  typed_of number o = record { name = o.name; at = o.at; kind = o.kind; length = length_of o.length; owner = owner_of o.owner; first = first_of o.owner (start_values f.env f.model number o) }

  -- the values of an object whose owner this is
  abbrev first_by : ℕ → Object → Option ℕ → List ℤ
  first_by number o w = first_of w (elim w [ None ↦ initial_values f.env f.model o.kind (size_of_object (Some o)) (initial_of number f.env.entries) | Some g ↦ replicate (size_of_object (Some o)) (pos 0) ])

  first_fits : (number : ℕ) (o : Object) (w : Option ℕ) → o.owner ≡ w → slice_get f.env.objects number ≡ Some o → LengthFits o.length → Below (length functions) w →
      FirstFits f.model all functions (typed_of number o) (owner_of w)
  first_fits number o None e there l b =
      let same : (typed_of number o).first ≡ initial_values f.env f.model o.kind (size o.length) (initial_of number f.env.entries) =
      ap (first_by number o) e ∙ ap (λ n. initial_values f.env f.model o.kind n (initial_of number f.env.entries)) (size_is o o.length refl) in (
        ap length same ∙ long f.env f.model o.kind o.length (initial_of number f.env.entries) (initial_fits f f.env.objects number o there f.env.entries kept) ∙ sym (length_is o.length l),
        subst (All (InRange o.kind f.model)) (sym same) (in_range f.env f.model o.kind (size o.length) (initial_of number f.env.entries)),
      )
  first_fits number o (Some g) e there l b = (ap (first_by number o) e, b)

  all_fit : (number : ℕ) (os : List Object) → ((n : ℕ) → slice_get os n ≡ slice_get f.env.objects (number + n)) → ObjectsFit os → AllOwned (length functions) os →
      All (ObjectFits f.model all functions) (objects_from f.env f.model number os)
  all_fit number [] at h k = All-nil (ObjectFits f.model all functions)
  all_fit number (o ∷ os) at h k =
      let there : slice_get f.env.objects number ≡ Some o = sym (at 0 ∙ ap (slice_get f.env.objects) (omega arith)) in
      All-cons (ObjectFits f.model all functions) (typed_of number o) (objects_from f.env f.model (suc number) os) (first_fits number o o.owner refl there h.0 k.0)
      (all_fit (suc number) os (λ n. at (suc n) ∙ ap (slice_get f.env.objects) (omega arith)) h.1 k.1)

pub objects_typed_are : SourcesHold → ObjectsTyped
objects_typed_are holds tokens items model spelled rises letters h =
    let env = env_of items model in
    let fs = functions_of env items in
    let names = map (λ g. g.name) fs in
    let f : Known = record { env = env; model = model; bodies = names } in
    let end = spelled.end in
    let up = up_to (spelling items end) 0 (subst (Rises 0) (sym spelled.spelled) rises) in
    let read = read_items up.0 items (sign sy.End end ∷ []) 0 up.1 in
    let named = named_items items (sign sy.End end ∷ []) (subst HaveLetters (sym spelled.spelled) letters) in
    let front = nil_left (rules.faults_of_items env model names items ++ rules.redeclared env model names [] env.entries) _ h in
    let p = placed_items f items 0 end spelled.shaped read.0 (nil_left (rules.faults_of_items env model names items) _ front) in
    let kept = all_kept f (nil_right (rules.faults_of_items env model names items) _ front) (within 0 end) true 0 end c.no_names (s.in_items items) refl tt tt named.0 p.lie p.apart in
    let count : length (map (function_of env model names) fs) ≡ s.count_bodies items = length-map fs (function_of env model names) ∙ bodies_counted env items in
    all_fit f kept (map (function_of env model names) fs) 0 env.objects (λ n. ap (slice_get env.objects) (omega arith)) (holds tokens items model spelled rises h).objects
    (subst (λ m. AllOwned m env.objects) (sym count) (all_owned (s.count_bodies items) model c.no_names (s.in_items items) tt tt (below_items items)))
