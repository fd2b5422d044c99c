-- What names and offsets find among the declarations of a source.
use Rattle.std.proofs.Common.{◌≡◌, inl, inr, ℕ, Bool, true, false, ◌&&◌, not, if◌then◌else◌, List, [], ◌∷◌, ◌++◌, map, append_assoc, Option, None, Some, bytes_eq, refl, ap, sym, ◌∙◌, subst}
use Rattle.std.specs.Prelude.{slice_get, nat_eq, nat_le, find}
use Rattle.lv_base.specs.declared.kind.Model.{Model}
use Rattle.c_tree.specs.Tree as t
use Rattle.c_meaning.specs.Scope as s
use Rattle.c_meaning.specs.Bindings.{Env, Entry, Object, Entity, anObjectOf, aFunctionOf, aConstantOf, aTypeOf, aTagOf, aNameOf, nothingOf, entity_of, entity_of_entry, object_number, visible, visible_in, is_visible, inner, declared_at, kind_in, kind_or_int, words_type, has_const, enum_kind, parameter_kinds}
use Rattle.c_meaning.specs.Constants as c
use Rattle.elaboration_fit_laws.proofs.Knowing.{same_name}
use Rattle.elaboration_offset_laws.proofs.Lying.{Known, Distinct}
use Rattle.elaboration_offset_laws.proofs.Logic.{and_left, and_right}
use Rattle.elaboration_offset_laws.proofs.Growing.{found_here}
use Rattle.elaboration_offset_laws.proofs.Finding.{AllBefore, before_fail, before_next, own_test, FoundAt, FoundAs, AllFound}
use Rattle.elaboration_offset_laws.proofs.Keeping.{Among, Kept, AllKept}
use Rattle.elaboration_offset_laws.proofs.Objects.{fitting}
use Rattle.elaboration_body_laws.proofs.Bodies.{AllStand, StandsAs}

-- ---- What a name finds

-- an entry of this name that is no tag
pub record Seen (n : List ℕ) (es : List Entry) (e : Entry) : Type 0 where
  pub there : Among e es
  pub named : e.declared.name ≡ n
  pub plain : s.is_tag e.declared.what ≡ false

abbrev SeenAs : List ℕ → List Entry → Option Entry → Type 0
SeenAs n es None = Unit {0}
SeenAs n es (Some e) = Seen n es e

no_tag : (b : Bool) → (if b then false else not false) ≡ true → b ≡ false
no_tag true h = cc
no_tag false h = refl

module _ (n : List ℕ) (at : ℕ) (whole : List Entry) where
  inner_seen : (best : Option Entry) (e : Entry) → SeenAs n whole best → Seen n whole e → Seen n whole (inner best e)
  inner_seen None e b r = r
  inner_seen (Some x) e b r = by_test (nat_le (s.begin_of x.declared.scope) (s.begin_of e.declared.scope))
    where
      by_test : (q : Bool) → Seen n whole (if q then e else x)
      by_test true = r
      by_test false = b

  step_seen : (v : Bool) (best : Option Entry) (e : Entry) → SeenAs n whole best → (v ≡ true → Seen n whole e) → SeenAs n whole (if v then Some (inner best e) else best)
  step_seen true best e b r = inner_seen best e b (r refl)
  step_seen false best e b r = b

  seen_in : (best : Option Entry) (es : List Entry) → SeenAs n whole best → ((e : Entry) → Among e es → Among e whole) → SeenAs n whole (visible_in false n at best es)
  seen_in best [] b r = b
  seen_in best (e ∷ es) b r =
      seen_in (if is_visible false n at e then Some (inner best e) else best) es
      (step_seen (is_visible false n at e) best e b (λ v. record {
        there = r e (inl refl);
        named = same_name e.declared.name n (and_left (bytes_eq e.declared.name n) _ (and_right (if s.is_tag e.declared.what then false else not false) _ v));
        plain = no_tag (s.is_tag e.declared.what) (and_left (if s.is_tag e.declared.what then false else not false) _ v);
      }))
      (λ x m. r x (inr m))

-- something is declared
abbrev pub IsDeclared : Entity → Type 0
IsDeclared nothingOf = ⊥
IsDeclared x = Unit {0}

pub record Found (n : List ℕ) (es : List Entry) (x : Entity) : Type 0 where
  pub entry : Entry
  pub seen : Seen n es entry
  pub stands : entry.entity ≡ x

found_by : (n : List ℕ) (es : List Entry) (o : Option Entry) (x : Entity) → SeenAs n es o → entity_of_entry o ≡ x → IsDeclared x → Found n es x
found_by n es None x h e d = absurd (subst IsDeclared (sym e) d)
found_by n es (Some y) x h e d = record { entry = y; seen = h; stands = e }

pub found : (env : Env) (n : List ℕ) (at : ℕ) (x : Entity) → entity_of env n at ≡ x → IsDeclared x → Found n env.entries x
found env n at x e d = found_by n env.entries (visible env false n at) x (seen_in n at env.entries None env.entries tt (λ y m. m)) e d

-- ---- What an offset finds

abbrev pub StandsAt : Env → Entry → Type 0
StandsAt env e = s.is_tag e.declared.what ≡ false → declared_at env e.declared.at ≡ e.entity

abbrev pub AllAt : Env → List Entry → Type 0
AllAt env [] = Unit {0}
AllAt env (e ∷ es) = StandsAt env e × AllAt env es

pub all_at : (env : Env) (front es : List Entry) → env.entries ≡ front ++ es → AllBefore front (map (λ e. e.declared) es) → Distinct (map (λ e. e.declared) es) → AllAt env es
all_at env front [] h b d = tt
all_at env front (e ∷ es) h b d = (
  (λ q. ap (λ xs. entity_of_entry (find (λ y. nat_eq y.declared.at e.declared.at && not (s.is_tag y.declared.what)) xs)) h
      ∙ ap entity_of_entry (found_here (λ y. nat_eq y.declared.at e.declared.at && not (s.is_tag y.declared.what)) front e es (before_fail front e.declared (map (λ y. y.declared) es) b) (own_test e.declared.at e.declared.what q))),
  all_at env (front ++ e ∷ []) es (h ∙ sym (append_assoc front (e ∷ []) es)) (before_next front e e.declared (map (λ y. y.declared) es) b d.0) d.1,
)

pub at_among : (env : Env) (y : Entry) (es : List Entry) → Among y es → AllAt env es → StandsAt env y
at_among env y [] m h = absurd m
at_among env y (x ∷ es) (inl q) h = subst (StandsAt env) q h.0
at_among env y (x ∷ es) (inr m) h = at_among env y es m h.1

-- the entry of a declaration
pub split_entry : (es : List Entry) (before : List s.Declared) (d : s.Declared) (after : List s.Declared) → map (λ e. e.declared) es ≡ before ++ d ∷ after → (e : Entry) × Among e es × (e.declared ≡ d)
split_entry [] [] d after h = cc
split_entry [] (x ∷ before) d after h = cc
split_entry (e ∷ es) [] d after h = (e, inl refl, (let q : e.declared ≡ d = cc in q))
split_entry (e ∷ es) (x ∷ before) d after h =
    let q : map (λ y. y.declared) es ≡ before ++ d ∷ after = cc in
    let r = split_entry es before d after q in
    (r.0, inr r.1, r.2)

-- ---- What entries stand for

abbrev pub IsFunction : s.What → Type 0
IsFunction (s.aFunction ws ps b) = Unit {0}
IsFunction w = ⊥

abbrev pub IsEnumerator : s.What → Type 0
IsEnumerator (s.anEnumerator es) = Unit {0}
IsEnumerator w = ⊥

-- only a function's name stands for a function, and only an enumeration's constant for a constant
abbrev pub Means : Entity → s.What → Type 0
Means (aFunctionOf r ps) w = IsFunction w
Means (aConstantOf v) w = IsEnumerator w
Means x w = Unit {0}

-- the name of a function or of a type is none of an object
abbrev pub NoObject : s.What → Entity → Type 0
NoObject (s.aFunction ws ps b) x = object_number x ≡ None
NoObject (s.aTypedef ws) x = object_number x ≡ None
NoObject w x = Unit {0}

abbrev pub IsFor : Entry → Type 0
IsFor e = Means e.entity e.declared.what × NoObject e.declared.what e.entity

abbrev pub AllFor : List Entry → Type 0
AllFor [] = Unit {0}
AllFor (e ∷ es) = IsFor e × AllFor es

for_more : (es : List Entry) (e : Entry) → AllFor es → IsFor e → AllFor (es ++ e ∷ [])
for_more [] e h k = (k, tt)
for_more (x ∷ es) e h k = (h.0, for_more es e h.1 k)

pub for_among : (y : Entry) (es : List Entry) → Among y es → AllFor es → IsFor y
for_among y [] m h = absurd m
for_among y (x ∷ es) (inl q) h = subst IsFor q h.0
for_among y (x ∷ es) (inr m) h = for_among y es m h.1

module _ (model : Model) (env : Env) (d : s.Declared) (h : AllFor env.entries) where
  new_for : (o : Object) → ((m : ℕ) → NoObject d.what (anObjectOf m)) → AllFor (c.new_object env d o).entries
  new_for o f = for_more env.entries _ h (tt, f _)

  placed_for : (b : Bool) (o : Object) (n : ℕ) → ((m : ℕ) → NoObject d.what (anObjectOf m)) → AllFor (if b then c.entered env d (anObjectOf n) else c.new_object env d o).entries
  placed_for true o n f = for_more env.entries _ h (tt, f n)
  placed_for false o n f = new_for o f

  object_for : (o : Object) (x : Entity) → ((m : ℕ) → NoObject d.what (anObjectOf m)) → AllFor (c.object_or_same env d o x).entries
  object_for o (anObjectOf n) f = placed_for (s.is_file d.scope) o n f
  object_for o (aFunctionOf r ps) f = new_for o f
  object_for o (aConstantOf v) f = new_for o f
  object_for o (aTypeOf k x) f = new_for o f
  object_for o (aTagOf k) f = new_for o f
  object_for o (aNameOf k x) f = new_for o f
  object_for o nothingOf f = new_for o f

  entered_for : (w : s.What) (x : Entity) → d.what ≡ w → Means x w → NoObject w x → AllFor (c.entered env d x).entries
  entered_for w x e m n = for_more env.entries _ h (subst (Means x) (sym e) m, subst (λ y. NoObject y x) (sym e) n)

  no_object : (w : s.What) → d.what ≡ w → ((m : ℕ) → NoObject w (anObjectOf m)) → (m : ℕ) → NoObject d.what (anObjectOf m)
  no_object w e f m = subst (λ y. NoObject y (anObjectOf m)) (sym e) (f m)

  declare_for : (w : s.What) → d.what ≡ w → AllFor (c.declare model env d w).entries
  declare_for (s.anObject ws f i) e = object_for _ (c.earlier_in_file env d.name) (no_object (s.anObject ws f i) e (λ m. tt))
  declare_for (s.aParameter ws) e =
      new_for (record { name = d.name; at = d.at; kind = kind_or_int (words_type env ws); length = None; is_const = has_const env ws; owner = d.owner }) (no_object (s.aParameter ws) e (λ m. tt))
  declare_for (s.aFunction ws ps b) e = entered_for (s.aFunction ws ps b) (aFunctionOf (kind_in (words_type env ws)) (parameter_kinds env ps)) e tt refl
  declare_for (s.aTypedef ws) e = entered_for (s.aTypedef ws) (aTypeOf (kind_or_int (words_type env ws)) (has_const env ws)) e tt refl
  declare_for (s.anEnumerator es) e = entered_for (s.anEnumerator es) (aConstantOf (c.enumerator_value env model es)) e tt tt
  declare_for (s.aTag es) e = entered_for (s.aTag es) (aTagOf (enum_kind env es)) e tt tt
  declare_for (s.aName ws) e = entered_for (s.aName ws) (aNameOf (kind_or_int (words_type env ws)) (has_const env ws)) e tt tt

pub all_for : (model : Model) (env : Env) (ds : List s.Declared) → AllFor env.entries → AllFor (c.bind_from model env ds).entries
all_for model env [] h = h
all_for model env (d ∷ ds) h = all_for model (c.declare model env d d.what) ds (declare_for model env d h d.what refl)

-- ---- Declarations of bodies

module _ (f : Known) where
  object_stands : (at : ℕ) (owner : Option ℕ) (ws : t.Words) (g : t.Form) (i : t.Initial) (x : Entity) → declared_at f.env at ≡ x → Kept f f.env.objects (s.anObject ws g i) x → FoundAt f.env at owner → StandsAs f.env at owner (s.anObject ws g i) false
  object_stands at owner ws g i x e k r =
      let number : anObjectOf r.number ≡ anObjectOf k.0 = sym r.declared ∙ e ∙ k.2 in
      let same : r.number ≡ k.0 = number_of r.number k.0 number in
      let told : Some r.told ≡ Some k.1 = sym r.there ∙ ap (slice_get f.env.objects) same ∙ k.3 in
      (k.0, k.1, e ∙ k.2, k.3, sym (ap (λ o. owner_in o) told) ∙ r.owned, fitting f ws g i k.1.length k.4 k.5 k.6)
    where
      number_of : (n m : ℕ) → anObjectOf n ≡ anObjectOf m → n ≡ m
      number_of n m q = cc

      owner_in : Option Object → Option ℕ
      owner_in None = None
      owner_in (Some o) = o.owner

  entry_stands : (e : Entry) (w : s.What) (b : Bool) → e.declared.what ≡ w → StandsAt f.env e → Kept f f.env.objects w e.entity → NoObject w e.entity → FoundAs f.env e.declared.at e.declared.owner w b → StandsAs f.env e.declared.at e.declared.owner w b
  entry_stands e (s.anObject ws g i) false q a k n r = object_stands e.declared.at e.declared.owner ws g i e.entity (a (ap s.is_tag q)) k r.0
  entry_stands e (s.anObject ws g i) true q a k n r = tt
  entry_stands e (s.aFunction ws ps y) b q a k n r = ap object_number (a (ap s.is_tag q)) ∙ n
  entry_stands e (s.aTypedef ws) b q a k n r = ap object_number (a (ap s.is_tag q)) ∙ n
  entry_stands e (s.aParameter ws) b q a k n r = tt
  entry_stands e (s.anEnumerator es) b q a k n r = tt
  entry_stands e (s.aTag es) b q a k n r = tt
  entry_stands e (s.aName ws) b q a k n r = tt

  pub all_stand : (es : List Entry) → AllAt f.env es → AllKept f f.env.objects es → AllFor es → AllFound f.env (map (λ e. e.declared) es) → AllStand f.env (map (λ e. e.declared) es)
  all_stand [] a k n r = tt
  all_stand (e ∷ es) a k n r = (entry_stands e e.declared.what (s.is_file e.declared.scope) refl a.0 k.0 n.0.1 r.0, all_stand es a.1 k.1 n.1 r.1)
