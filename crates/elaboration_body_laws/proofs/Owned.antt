-- What scopes, offsets and the rules of declarations leave to the kinds of values.
use Rattle.std.proofs.Common.{◌≡◌, inl, inr, ℕ, zero, suc, ◌<◌, Bool, true, List, [], ◌∷◌, ◌++◌, length, map, append_assoc, Option, None, Some, bytes_eq, refl, ap, sym, ◌∙◌, subst, arith}
use Rattle.std.specs.Prelude.{slice_get, get_or}
use Rattle.std.proofs.lemmas.List.{map-append}
use Rattle.std.proofs.lemmas.List.Quantifiers.{position-Some}
use Rattle.lv_base.specs.declared.kind.Kind.{Kind}
use Rattle.lv_base.specs.declared.kind.Kind.TheVariants as kind
use Rattle.lv_base.specs.Integers.{InRange}
use Rattle.c_tree.specs.Tree as t
use Rattle.c_meaning.specs.Tokens.{first_of_words, open_of, close_of}
use Rattle.c_meaning.specs.Scope as s
use Rattle.c_meaning.specs.Bindings.{Env, Entry, Object, anObjectOf, aFunctionOf, aConstantOf, entity_of, declared_at, object_number, constant_value, words_type, kind_in, kind_or_int, params_kinds, parameter_kinds}
use Rattle.c_meaning.specs.Known.{known_of}
use Rattle.c_meaning.specs.Program.{Function, functions_of, number_at, params_numbers, parameter_numbers}
use Rattle.c_meaning.specs.Rules as rules
use Rattle.c_typed.specs.Tree as v
use Rattle.c_typed.specs.Facts as facts
use Rattle.c_types.specs.Elaborated as el
use Rattle.c_types.specs.Fit.{LengthFits, ObjectsFit}
use Rattle.elaboration_fit_laws.proofs.Fitting.{line_holds, not_false, and_left}
use Rattle.elaboration_fit_laws.proofs.Knowing.{same_name, AllRight}
use Rattle.elaboration_offset_laws.proofs.Lying.{Known}
use Rattle.elaboration_offset_laws.proofs.Growing.{Numbered, AllNumbered}
use Rattle.elaboration_offset_laws.proofs.Parameters.{typed_there}
use Rattle.elaboration_offset_laws.proofs.Keeping.{Among}
use Rattle.elaboration_body_laws.specs.Told.{KnownRight, ObjectsThere, ConstantsFit, CallsTold}
use Rattle.elaboration_body_laws.proofs.Entries.{found, Means, IsFunction, IsEnumerator, AllAt, at_among, split_entry, AllFor, for_among}
use Rattle.elaboration_body_laws.proofs.Numbers.{ItemsLettered}
use Rattle.elaboration_body_laws.proofs.Rights.{Rightly, AllRightly, rightly_left, rightly_right, rightly_among}
use Rattle.elaboration_body_laws.proofs.Calls.{Declares, pair, one_function}

-- ---- Lists

get_map : {A B : Type 0} (h : A → B) (xs : List A) (n : ℕ) (x : A) → slice_get xs n ≡ Some x → slice_get (map h xs) n ≡ Some (h x)
get_map h [] zero x e = cc
get_map h [] (suc n) x e = cc
get_map h (y ∷ xs) zero x e = let q : y ≡ x = cc in ap (λ z. Some (h z)) q
get_map h (y ∷ xs) (suc n) x e = get_map h xs n x e

there_at : (fs : List Function) (n : ℕ) → n < length (map (λ f. f.name) fs) → (f : Function) × (slice_get fs n ≡ Some f) × (get_or (map (λ f. f.name) fs) n [] ≡ f.name)
there_at [] n h = absurd (omega (arith, h))
there_at (f ∷ fs) zero h = (f, refl, refl)
there_at (f ∷ fs) (suc n) h = there_at fs n (omega (arith, h))

one_of : {A : Type 0} (x y : A) → Some x ≡ Some y → x ≡ y
one_of x y e = cc

function_what : (w : s.What) → IsFunction w → (ws : t.Words) × (ps : t.Parameters) × (b : Bool) × (w ≡ s.aFunction ws ps b)
function_what (s.aFunction ws ps b) h = (ws, ps, b, refl)
function_what (s.anObject ws g i) h = absurd h
function_what (s.aParameter ws) h = absurd h
function_what (s.aTypedef ws) h = absurd h
function_what (s.anEnumerator es) h = absurd h
function_what (s.aTag es) h = absurd h
function_what (s.aName ws) h = absurd h

enumerator_what : (w : s.What) → IsEnumerator w → (es : t.Ens) × (w ≡ s.anEnumerator es)
enumerator_what (s.anEnumerator es) h = (es, refl)
enumerator_what (s.aFunction ws ps b) h = absurd h
enumerator_what (s.anObject ws g i) h = absurd h
enumerator_what (s.aParameter ws) h = absurd h
enumerator_what (s.aTypedef ws) h = absurd h
enumerator_what (s.aTag es) h = absurd h
enumerator_what (s.aName ws) h = absurd h

-- the last part of a list in the middle of three
around_one : (a b : List s.Declared) (d : s.Declared) (c after : List s.Declared) → (a ++ ((b ++ d ∷ []) ++ c)) ++ after ≡ (a ++ b) ++ d ∷ (c ++ after)
around_one a b d c after =
    append_assoc a ((b ++ d ∷ []) ++ c) after ∙ ap (λ xs. a ++ xs) (append_assoc (b ++ d ∷ []) c after ∙ append_assoc b (d ∷ []) (c ++ after)) ∙ sym (append_assoc a b (d ∷ (c ++ after)))

pub record Facts (f : Known) : Type 0 where
  pub right : rules.redeclared f.env f.model f.bodies [] f.env.entries ≡ []
  pub at : AllAt f.env f.env.entries
  pub for : AllFor f.env.entries
  pub rightly : AllRightly f (map (λ e. e.declared) f.env.entries)

module _ (f : Known) (functions : List v.Function) where
  abbrev objects : List v.Object
  objects = el.objects_from f.env f.model 0 f.env.objects

  abbrev kinds_of : List ℕ → List (Option Kind)
  kinds_of ns = facts.parameter_kinds f.model objects functions ns

  kinds_append : (ns ms : List ℕ) → kinds_of (ns ++ ms) ≡ kinds_of ns ++ kinds_of ms
  kinds_append [] ms = refl
  kinds_append (n ∷ ns) ms = ap (λ ks. elim (slice_get objects n) [ None ↦ None | Some o ↦ Some o.kind ] ∷ ks) (kinds_append ns ms)

  number_kinds : (at : ℕ) (ws : t.Words) (n : ℕ) (o : Object) → declared_at f.env at ≡ anObjectOf n → slice_get f.env.objects n ≡ Some o → o.kind ≡ kind_or_int (words_type f.env ws) → kinds_of (number_at f.env at) ≡ Some (kind_or_int (words_type f.env ws)) ∷ []
  number_kinds at ws n o e h k =
      ap (λ x. kinds_of (elim (object_number x) [ None ↦ [] | Some m ↦ m ∷ [] ])) e
      ∙ ap (λ q. elim q [ None ↦ None | Some p ↦ Some p.kind ] ∷ []) (typed_there f.env f.model functions 0 f.env.objects n o h)
      ∙ ap (λ q. Some q ∷ []) k

  both : (xs ys vs ws : List (Option Kind)) → xs ≡ ys → vs ≡ ws → xs ++ vs ≡ ys ++ ws
  both xs ys vs ws h k = ap (λ ks. ks ++ vs) h ∙ ap (λ ks. ys ++ ks) k

  params_told : (scope : s.Scope) (owner : Option ℕ) (ps : t.Params) → AllRightly f (s.in_params scope owner ps) → kinds_of (params_numbers f.env ps) ≡ map Some (params_kinds f.env ps)
  params_told scope owner t.no_params h = refl
  params_told scope owner (t.params_and ps x ws None) h =
      let front = s.in_params scope owner ps ++ s.in_words scope owner ws in
      let d = s.declared scope owner [] (first_of_words ws) (first_of_words ws) (s.aParameter ws) in
      let own = rightly_right f front (d ∷ []) h in
      let fore = rightly_left f (s.in_params scope owner ps) (s.in_words scope owner ws) (rightly_left f front (d ∷ []) h) in
      kinds_append (params_numbers f.env ps) (number_at f.env (first_of_words ws))
      ∙ both _ _ _ _ (params_told scope owner ps fore) (number_kinds (first_of_words ws) ws own.0.0 own.0.1 own.0.2 own.0.3 own.0.4)
      ∙ sym (map-append Some (params_kinds f.env ps) _)
  params_told scope owner (t.params_and ps x ws (Some (t.named n at))) h =
      let front = s.in_params scope owner ps ++ s.in_words scope owner ws in
      let d = s.declared scope owner n at at (s.aParameter ws) in
      let own = rightly_right f front (d ∷ []) h in
      let fore = rightly_left f (s.in_params scope owner ps) (s.in_words scope owner ws) (rightly_left f front (d ∷ []) h) in
      kinds_append (params_numbers f.env ps) (number_at f.env at)
      ∙ both _ _ _ _ (params_told scope owner ps fore) (number_kinds at ws own.0.0 own.0.1 own.0.2 own.0.3 own.0.4)
      ∙ sym (map-append Some (params_kinds f.env ps) _)

  parameters_told : (scope : s.Scope) (owner : Option ℕ) (ps : t.Parameters) → AllRightly f (s.in_parameters scope owner ps) → kinds_of (parameter_numbers f.env ps) ≡ map Some (parameter_kinds f.env ps)
  parameters_told scope owner (t.pUnknown a b) h = refl
  parameters_told scope owner (t.pVoid a at b) h = refl
  parameters_told scope owner (t.pSome a ps b) h = params_told scope owner ps h

  -- ---- Functions with a body

  pub record Own (g : Function) : Type 0 where
    pub words : t.Words
    pub parameters : t.Parameters
    pub entry : Entry
    pub there : Among entry f.env.entries
    pub named : entry.declared.name ≡ g.name
    pub what : entry.declared.what ≡ s.aFunction words parameters true
    pub file : s.is_file entry.declared.scope ≡ true
    pub lettered : 0 < length g.name
    pub result : g.result ≡ kind_in (words_type f.env words)
    pub kinds : kinds_of g.parameters ≡ map Some (parameter_kinds f.env parameters)

  abbrev pub AllOwn : List Function → Type 0
  AllOwn [] = Unit {0}
  AllOwn (g ∷ gs) = Own g × AllOwn gs

  own_more : (gs : List Function) (g : Function) → AllOwn gs → Own g → AllOwn (gs ++ g ∷ [])
  own_more [] g h k = (k, tt)
  own_more (x ∷ gs) g h k = (h.0, own_more gs g h.1 k)

  own_at : (gs : List Function) (n : ℕ) (g : Function) → AllOwn gs → slice_get gs n ≡ Some g → Own g
  own_at [] zero g h e = cc
  own_at [] (suc n) g h e = cc
  own_at (x ∷ gs) zero g h e = subst Own (one_of x g e) h.0
  own_at (x ∷ gs) (suc n) g h e = own_at gs n g h.1 e

  pub functions_own : (whole : List s.Declared) → map (λ e. e.declared) f.env.entries ≡ whole → AllRightly f whole → (is : t.Items) (after : List s.Declared) → whole ≡ s.in_items is ++ after → ItemsLettered is → AllOwn (functions_of f.env is)
  functions_own whole declares rightly t.no_items after e l = tt
  functions_own whole declares rightly (t.items_and is (t.tSkipped x at r b)) after e l = functions_own whole declares rightly is after e l
  functions_own whole declares rightly (t.items_and is (t.tEmpty at)) after e l = functions_own whole declares rightly is after e l
  functions_own whole declares rightly (t.items_and is (t.tDeclaration d)) after e l =
      functions_own whole declares rightly is (s.in_declaration s.file None d ++ after) (e ∙ append_assoc (s.in_items is) (s.in_declaration s.file None d) after) l
  functions_own whole declares rightly (t.items_and is (t.tFunction ws (t.named n at) ps ats (t.bSkipped x r z))) after e l =
      let mine = s.in_function (s.count_bodies is) ws n at ps (t.bSkipped x r z) in
      functions_own whole declares rightly is (mine ++ after) (e ∙ append_assoc (s.in_items is) mine after) l
  functions_own whole declares rightly (t.items_and is (t.tFunction ws (t.named n at) ps ats (t.bBlock x ss z))) after e l =
      let number = s.count_bodies is in
      let scope = s.block (open_of ps) z in
      let mine = s.in_function number ws n at ps (t.bBlock x ss z) in
      let same = e ∙ append_assoc (s.in_items is) mine after in
      let words = s.in_words s.file None ws in
      let own = s.in_parameters scope (Some number) ps in
      let body = s.in_statements (Some number) scope ss in
      let d = s.declared s.file None n at (close_of ps) (s.aFunction ws ps true) in
      let there = rightly_left f mine after (rightly_right f (s.in_items is) (mine ++ after) (subst (AllRightly f) same rightly)) in
      let head = rightly_left f (words ++ own) (d ∷ []) (rightly_left f (words ++ own ++ d ∷ []) body there) in
      let entry = split_entry f.env.entries (s.in_items is ++ (words ++ own)) d (body ++ after) (declares ∙ e ∙ around_one (s.in_items is) (words ++ own) d body after) in
      own_more (functions_of f.env is) _ (functions_own whole declares rightly is (mine ++ after) same l.0)
      (record {
        words = ws;
        parameters = ps;
        entry = entry.0;
        there = entry.1;
        named = ap (λ y. y.name) entry.2;
        what = ap (λ y. y.what) entry.2;
        file = ap (λ y. s.is_file y.scope) entry.2;
        lettered = l.1;
        result = refl;
        kinds = parameters_told scope (Some number) ps (rightly_right f words own head);
      })

-- ---- What names stand for

module _ (f : Known) (h : Facts f) where
  -- a name that stands for a function finds a declaration of it
  record Called (n : List ℕ) (result : Option Kind) (parameters : List Kind) : Type 0 where
    words : t.Words
    declared : t.Parameters
    entry : Entry
    declares : Declares f h.right entry n words declared
    result_is : result ≡ kind_in (words_type f.env words)
    kinds_are : parameters ≡ parameter_kinds f.env declared

  parts_of : (r q : Option Kind) (ps qs : List Kind) → aFunctionOf r ps ≡ aFunctionOf q qs → (r ≡ q) × (ps ≡ qs)
  parts_of r q ps qs e = (let x : r ≡ q = cc in x, let y : ps ≡ qs = cc in y)

  called_by : (n : List ℕ) (at : ℕ) (r : Option Kind) (ps : List Kind) → entity_of f.env n at ≡ aFunctionOf r ps → Called n r ps
  called_by n at r ps e =
      let q = found f.env n at (aFunctionOf r ps) e tt in
      let y = q.entry in
      let means = for_among y f.env.entries q.seen.there h.for in
      let w = function_what y.declared.what (subst (λ x. Means x y.declared.what) q.stands means.0) in
      let rightly = subst (Rightly f y.declared) w.3 (rightly_among f y f.env.entries q.seen.there h.rightly) in
      let stands = sym rightly.1 ∙ at_among f.env y f.env.entries q.seen.there h.at q.seen.plain ∙ q.stands in
      let p = parts_of (kind_in (words_type f.env w.0)) r (parameter_kinds f.env w.1) ps stands in
      record {
        words = w.0;
        declared = w.1;
        entry = y;
        declares = record { has_body = w.2; what = w.3; file = rightly.0; named = q.seen.named; there = q.seen.there };
        result_is = sym p.0;
        kinds_are = sym p.1;
      }

  pub constants_fit : ConstantsFit f.env f.model
  constants_fit n at z e =
      let q = found f.env n at (aConstantOf z) e tt in
      let y = q.entry in
      let means = for_among y f.env.entries q.seen.there h.for in
      let w = enumerator_what y.declared.what (subst (λ x. Means x y.declared.what) q.stands means.0) in
      let rightly = subst (Rightly f y.declared) w.1 (rightly_among f y f.env.entries q.seen.there h.rightly) in
      let stands = at_among f.env y f.env.entries q.seen.there h.at q.seen.plain ∙ q.stands in
      subst (λ x. InRange kind.Int f.model (constant_value x)) stands rightly

  right_among : (y : Entry) (es : List Entry) → Among y es → AllRight f.env f.model f.bodies (map (λ e. e.declared) es) → rules.declared_line f.env f.model f.bodies y.declared y.declared.what ≡ []
  right_among y [] m k = absurd m
  right_among y (x ∷ es) (inl q) k = subst (λ e. rules.declared_line f.env f.model f.bodies e.declared e.declared.what ≡ []) q k.0
  right_among y (x ∷ es) (inr m) k = right_among y es m k.1

  pub known_right : AllRight f.env f.model f.bodies (map (λ e. e.declared) f.env.entries) → KnownRight f.env f.model f.bodies
  known_right lines n at k r ps e x =
      let q = called_by n at r ps x in
      let y = q.entry.declared in
      let line = subst (λ w. rules.declared_line f.env f.model f.bodies y w ≡ []) q.declares.what (right_among q.entry f.env.entries q.declares.there lines) in
      let known = ap (λ m. rules.known_line f.env f.model f.bodies m y.at (kind_in (words_type f.env q.words)) (parameter_kinds f.env q.declared) q.declares.has_body) (sym e ∙ ap known_of (sym q.declares.named)) ∙ line in
      subst (λ p. rules.is_known_right f.env f.model f.bodies k p ≡ true) (sym q.result_is) (and_left (rules.is_known_right f.env f.model f.bodies k (kind_in (words_type f.env q.words))) _ (not_false _ (line_holds _ _ _ known)))

  pub calls_told : (names : List (List ℕ)) (gs : List Function) → AllOwn f (map (el.function_of f.env f.model names) gs) gs → CallsTold f.env f.model (map (λ g. g.name) gs) (map (el.function_of f.env f.model names) gs)
  calls_told names gs own n at number r ps e p =
      let functions = map (el.function_of f.env f.model names) gs in
      let q = called_by n at r ps e in
      let place = position-Some (λ m. bytes_eq m n) (map (λ g. g.name) gs) number [] p in
      let g = there_at gs number place.0 in
      let o = own_at f functions gs number g.0 own g.1 in
      let named = same_name g.0.name n (sym (ap (λ m. bytes_eq m n) g.2) ∙ place.1) in
      let declares : Declares f h.right o.entry n o.words o.parameters = record { has_body = true; what = o.what; file = o.file; named = o.named ∙ named; there = o.there } in
      let same = one_function f h.right q.entry o.entry n q.words o.words q.declared o.parameters (subst (λ m. 0 < length m) named o.lettered) q.declares declares (pair f h.right q.entry o.entry q.declares.there o.there) in (
        el.function_of f.env f.model names g.0,
        get_map (el.function_of f.env f.model names) gs number g.0 g.1,
        o.result ∙ same.0 ∙ sym q.result_is,
        o.kinds ∙ ap (map Some) (same.1 ∙ sym q.kinds_are),
      )

-- ---- Objects

get_some : (xs : List Object) (n : ℕ) → n < length xs → (o : Object) × (slice_get xs n ≡ Some o)
get_some [] n h = absurd (omega (arith, h))
get_some (x ∷ xs) zero h = (x, refl)
get_some (x ∷ xs) (suc n) h = get_some xs n (omega (arith, h))

numbered_among : (count : ℕ) (y : Entry) (es : List Entry) → Among y es → AllNumbered count es → Numbered count y.entity
numbered_among count y [] m h = absurd m
numbered_among count y (x ∷ es) (inl q) h = subst (λ e. Numbered count e.entity) q h.0
numbered_among count y (x ∷ es) (inr m) h = numbered_among count y es m h.1

pub objects_there : (env : Env) → AllNumbered (length env.objects) env.entries → ObjectsThere env
objects_there env h n at number e =
    let q = found env n at (anObjectOf number) e tt in
    get_some env.objects number (subst (Numbered (length env.objects)) q.stands (numbered_among (length env.objects) q.entry env.entries q.seen.there h))

pub lengths_fit : (os : List Object) (n : ℕ) (o : Object) → ObjectsFit os → slice_get os n ≡ Some o → LengthFits o.length
lengths_fit [] zero o h e = cc
lengths_fit [] (suc n) o h e = cc
lengths_fit (x ∷ os) zero o h e = subst (λ p. LengthFits p.length) (one_of x o e) h.0
lengths_fit (x ∷ os) (suc n) o h e = lengths_fit os n o h.1 e
