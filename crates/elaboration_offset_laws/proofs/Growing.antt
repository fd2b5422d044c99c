-- An environment that grows by a list of declarations.
use Rattle.std.proofs.Common.{◌≡◌, ℕ, zero, suc, ◌≤◌, ◌<◌, Bool, true, false, ◌&&◌, not, if◌then◌else◌, List, [], ◌∷◌, ◌++◌, length, map, append-nil, append_assoc, Option, None, Some, bytes_eq, refl, sym, ap, ◌∙◌, subst, arith}
use Rattle.std.specs.Prelude.{nat_eq, nat_le, find, slice_get}
use Rattle.std.proofs.lemmas.Bool.{ne_eqb, lt-leb}
use Rattle.std.proofs.lemmas.List.{length-append}
use Rattle.lv_base.specs.declared.kind.Model.{Model}
use Rattle.c_tree.specs.Tree.{Words, Form, Initial}
use Rattle.c_meaning.specs.Scope as s
use Rattle.c_meaning.specs.Bindings.{Env, Entry, Object, Entity, anObjectOf, aFunctionOf, aConstantOf, aTypeOf, aTagOf, aNameOf, nothingOf, entity_of_entry, visible_in, is_visible, inner}
use Rattle.c_meaning.specs.Constants as c

-- ---- Lists

pub fetched : {A : Type 0} (xs ys : List A) (n : ℕ) → n < length xs → slice_get (xs ++ ys) n ≡ slice_get xs n
fetched [] ys n h = absurd (omega (arith, h))
fetched (x ∷ xs) ys zero h = refl
fetched (x ∷ xs) ys (suc n) h = fetched xs ys n (omega (arith, h))

pub fetched_next : {A : Type 0} (xs : List A) (y : A) (ys : List A) → slice_get (xs ++ y ∷ ys) (length xs) ≡ Some y
fetched_next [] y ys = refl
fetched_next (x ∷ xs) y ys = fetched_next xs y ys

pub if_true : {A : Type 0} (b : Bool) (x y : A) → b ≡ true → (if b then x else y) ≡ x
if_true true x y h = refl
if_true false x y h = cc

pub if_false : {A : Type 0} (b : Bool) (x y : A) → b ≡ false → (if b then x else y) ≡ y
if_false true x y h = cc
if_false false x y h = refl

abbrev pub AllFail : (Entry → Bool) → List Entry → Type 0
AllFail p [] = Unit {0}
AllFail p (e ∷ es) = (p e ≡ false) × AllFail p es

found_none : (p : Entry → Bool) (es : List Entry) → AllFail p es → find p es ≡ None
found_none p [] h = refl
found_none p (e ∷ es) h = if_false (p e) (Some e) (find p es) h.0 ∙ found_none p es h.1

pub found_more : (p : Entry → Bool) (xs es : List Entry) → AllFail p es → find p (xs ++ es) ≡ find p xs
found_more p [] es h = found_none p es h
found_more p (x ∷ xs) es h = ap (λ o. if p x then Some x else o) (found_more p xs es h)

pub found_here : (p : Entry → Bool) (xs : List Entry) (e : Entry) (es : List Entry) → AllFail p xs → p e ≡ true → find p (xs ++ e ∷ es) ≡ Some e
found_here p [] e es h k = if_true (p e) (Some e) (find p es) k
found_here p (x ∷ xs) e es h k = if_false (p x) (Some x) (find p (xs ++ e ∷ es)) h.0 ∙ found_here p xs e es h.1 k

abbrev pub AllHidden : Bool → List ℕ → ℕ → List Entry → Type 0
AllHidden tag name at [] = Unit {0}
AllHidden tag name at (e ∷ es) = (is_visible tag name at e ≡ false) × AllHidden tag name at es

hidden : (tag : Bool) (name : List ℕ) (at : ℕ) (best : Option Entry) (es : List Entry) → AllHidden tag name at es → visible_in tag name at best es ≡ best
hidden tag name at best [] h = refl
hidden tag name at best (e ∷ es) h = ap (λ o. visible_in tag name at o es) (if_false (is_visible tag name at e) (Some (inner best e)) best h.0) ∙ hidden tag name at best es h.1

pub seen_more : (tag : Bool) (name : List ℕ) (at : ℕ) (best : Option Entry) (xs es : List Entry) → AllHidden tag name at es → visible_in tag name at best (xs ++ es) ≡ visible_in tag name at best xs
seen_more tag name at best [] es h = hidden tag name at best es h
seen_more tag name at best (x ∷ xs) es h = seen_more tag name at (if is_visible tag name at x then Some (inner best x) else best) xs es h

-- ---- Tests that fail

and_false : (a b : Bool) → b ≡ false → a && b ≡ false
and_false true b h = h
and_false false b h = refl

false_and : (a b : Bool) → a ≡ false → a && b ≡ false
false_and true b h = cc
false_and false b h = refl

pub other_offset : (e : Entry) (at : ℕ) → (e.declared.at ≡ at → ⊥) → nat_eq e.declared.at at && not (s.is_tag e.declared.what) ≡ false
other_offset e at h = false_and (nat_eq e.declared.at at) _ (ne_eqb e.declared.at at h)

pub not_yet : (tag : Bool) (name : List ℕ) (e : Entry) (at : ℕ) → at < e.declared.from → is_visible tag name at e ≡ false
not_yet tag name e at h =
    and_false (if s.is_tag e.declared.what then tag else not tag) _ (and_false (bytes_eq e.declared.name name) _ (false_and (nat_le e.declared.from at) _ (lt-leb e.declared.from at h)))

-- ---- One more declaration

-- the number is that of one of so many objects
abbrev pub Numbered : ℕ → Entity → Type 0
Numbered count (anObjectOf n) = n < count
Numbered count x = Unit {0}

abbrev pub AllNumbered : ℕ → List Entry → Type 0
AllNumbered count [] = Unit {0}
AllNumbered count (e ∷ es) = Numbered count e.entity × AllNumbered count es

abbrev pub IsAName : s.What → Type 0
IsAName (s.aName ws) = Unit {0}
IsAName w = ⊥

-- only the names of prototypes' parameters stand for such
abbrev pub NameTold : s.What → Entity → Type 0
NameTold w (aNameOf k x) = IsAName w
NameTold w x = Unit {0}

abbrev pub length_as : Model → Env → s.What → Option ℕ
length_as model env (s.anObject ws f i) = c.object_length env model f i
length_as model env w = None

abbrev pub AllOf : Option ℕ → Option ℕ → List Object → Type 0
AllOf length owner [] = Unit {0}
AllOf length owner (o ∷ os) = (o.length ≡ length) × (o.owner ≡ owner) × AllOf length owner os

-- an object of its own
abbrev pub IsNew : ℕ → Entity → List Object → Type 0
IsNew count x more = (o : Object) × (x ≡ anObjectOf count) × (more ≡ o ∷ [])

-- what is declared in a function, or as a parameter, is an object of its own
abbrev pub OwnTold : s.What → Bool → ℕ → Entity → List Object → Type 0
OwnTold (s.anObject ws f i) false count x more = IsNew count x more
OwnTold (s.aParameter ws) b count x more = IsNew count x more
OwnTold w b count x more = Unit {0}

pub record Step (model : Model) (env : Env) (d : s.Declared) (w : s.What) (next : Env) : Type 0 where
  pub entity : Entity
  pub more : List Object
  pub entries : next.entries ≡ env.entries ++ (record { declared = d; entity = entity }) ∷ []
  pub objects : next.objects ≡ env.objects ++ more
  pub numbered : Numbered (length next.objects) entity
  pub name : NameTold w entity
  pub all : AllOf (length_as model env w) d.owner more
  pub own : OwnTold w (s.is_file d.scope) (length env.objects) entity more

added : {A : Type 0} (xs : List A) (x : A) → length xs < length (xs ++ x ∷ [])
added xs x = let e = length-append xs (x ∷ []) in omega (arith, e)

module _ (model : Model) (env : Env) (d : s.Declared) where
  new_step : (w : s.What) (o : Object) → o.length ≡ length_as model env w → o.owner ≡ d.owner → OwnTold w (s.is_file d.scope) (length env.objects) (anObjectOf (length env.objects)) (o ∷ []) → Step model env d w (c.new_object env d o)
  new_step w o h k q = record { entity = anObjectOf (length env.objects); more = o ∷ []; entries = refl; objects = refl; numbered = added env.objects o; name = tt; all = (h, k, tt); own = q }

  pub plain_step : (w : s.What) (x : Entity) → Numbered (length env.objects) x → NameTold w x → OwnTold w (s.is_file d.scope) (length env.objects) x [] → Step model env d w (c.entered env d x)
  plain_step w x h k q = record { entity = x; more = []; entries = refl; objects = sym (append-nil env.objects); numbered = h; name = k; all = tt; own = q }

  own_object : (ws : Words) (f : Form) (i : Initial) (b : Bool) (o : Object) → OwnTold (s.anObject ws f i) b (length env.objects) (anObjectOf (length env.objects)) (o ∷ [])
  own_object ws f i true o = tt
  own_object ws f i false o = (o, refl, refl)

  new_object_step : (ws : Words) (f : Form) (i : Initial) (o : Object) → o.length ≡ c.object_length env model f i → o.owner ≡ d.owner → Step model env d (s.anObject ws f i) (c.new_object env d o)
  new_object_step ws f i o h k = new_step (s.anObject ws f i) o h k (own_object ws f i (s.is_file d.scope) o)

  placed_step : (b : Bool) → b ≡ s.is_file d.scope → (ws : Words) (f : Form) (i : Initial) (o : Object) (n : ℕ) → n < length env.objects → o.length ≡ c.object_length env model f i → o.owner ≡ d.owner →
      Step model env d (s.anObject ws f i) (if b then c.entered env d (anObjectOf n) else c.new_object env d o)
  placed_step true e ws f i o n l h k = plain_step (s.anObject ws f i) (anObjectOf n) l tt (subst (λ b. OwnTold (s.anObject ws f i) b (length env.objects) (anObjectOf n) []) e tt)
  placed_step false e ws f i o n l h k = new_object_step ws f i o h k

  object_step : (ws : Words) (f : Form) (i : Initial) (o : Object) (x : Entity) → Numbered (length env.objects) x → o.length ≡ c.object_length env model f i → o.owner ≡ d.owner → Step model env d (s.anObject ws f i) (c.object_or_same env d o x)
  object_step ws f i o (anObjectOf n) l h k = placed_step (s.is_file d.scope) refl ws f i o n l h k
  object_step ws f i o (aFunctionOf r ps) l h k = new_object_step ws f i o h k
  object_step ws f i o (aConstantOf v) l h k = new_object_step ws f i o h k
  object_step ws f i o (aTypeOf x y) l h k = new_object_step ws f i o h k
  object_step ws f i o (aTagOf x) l h k = new_object_step ws f i o h k
  object_step ws f i o (aNameOf x y) l h k = new_object_step ws f i o h k
  object_step ws f i o nothingOf l h k = new_object_step ws f i o h k

  either_numbered : (count : ℕ) (b : Bool) (e : Entry) (o : Option Entry) → Numbered count e.entity → Numbered count (entity_of_entry o) → Numbered count (entity_of_entry (if b then Some e else o))
  either_numbered count true e o h k = h
  either_numbered count false e o h k = k

  found_numbered : (count : ℕ) (p : Entry → Bool) (es : List Entry) → AllNumbered count es → Numbered count (entity_of_entry (find p es))
  found_numbered count p [] h = tt
  found_numbered count p (e ∷ es) h = either_numbered count (p e) e (find p es) h.0 (found_numbered count p es h.1)

  pub step_of : (w : s.What) → AllNumbered (length env.objects) env.entries → Step model env d w (c.declare model env d w)
  step_of (s.anObject ws f i) h = object_step ws f i _ (c.earlier_in_file env d.name) (found_numbered (length env.objects) _ env.entries h) refl refl
  step_of (s.aParameter ws) h = new_step (s.aParameter ws) _ refl refl (_, refl, refl)
  step_of (s.aFunction ws ps b) h = plain_step (s.aFunction ws ps b) _ tt tt tt
  step_of (s.aTypedef ws) h = plain_step (s.aTypedef ws) _ tt tt tt
  step_of (s.anEnumerator es) h = plain_step (s.anEnumerator es) _ tt tt tt
  step_of (s.aTag es) h = plain_step (s.aTag es) _ tt tt tt
  step_of (s.aName ws) h = plain_step (s.aName ws) _ tt tt tt

numbered_more : (count more : ℕ) (x : Entity) → count ≤ more → Numbered count x → Numbered more x
numbered_more count more (anObjectOf n) l h = omega (arith, l, h)
numbered_more count more (aFunctionOf r ps) l h = tt
numbered_more count more (aConstantOf v) l h = tt
numbered_more count more (aTypeOf x y) l h = tt
numbered_more count more (aTagOf x) l h = tt
numbered_more count more (aNameOf x y) l h = tt
numbered_more count more nothingOf l h = tt

all_numbered_more : (count more : ℕ) (es : List Entry) → count ≤ more → AllNumbered count es → AllNumbered more es
all_numbered_more count more [] l h = tt
all_numbered_more count more (e ∷ es) l h = (numbered_more count more e.entity l h.0, all_numbered_more count more es l h.1)

all_numbered_and : (count : ℕ) (es : List Entry) (e : Entry) → AllNumbered count es → Numbered count e.entity → AllNumbered count (es ++ e ∷ [])
all_numbered_and count [] e h k = (k, tt)
all_numbered_and count (x ∷ es) e h k = (h.0, all_numbered_and count es e h.1 k)

pub next_numbered : (model : Model) (env : Env) (d : s.Declared) (w : s.What) (next : Env) → Step model env d w next → AllNumbered (length env.objects) env.entries → AllNumbered (length next.objects) next.entries
next_numbered model env d w next t h =
    let e = ap length t.objects ∙ length-append env.objects t.more in
    subst (AllNumbered (length next.objects)) (sym t.entries)
    (all_numbered_and (length next.objects) env.entries _ (all_numbered_more (length env.objects) (length next.objects) env.entries (omega (arith, e)) h) t.numbered)

-- ---- Many more

pub record Grown (env : Env) (ds : List s.Declared) (last : Env) : Type 0 where
  pub new : List Entry
  pub more : List Object
  pub entries : last.entries ≡ env.entries ++ new
  pub objects : last.objects ≡ env.objects ++ more
  pub declares : map (λ e. e.declared) new ≡ ds

pub grown : (model : Model) (env : Env) (ds : List s.Declared) → AllNumbered (length env.objects) env.entries → Grown env ds (c.bind_from model env ds)
grown model env [] h = record { new = []; more = []; entries = sym (append-nil env.entries); objects = sym (append-nil env.objects); declares = refl }
grown model env (d ∷ ds) h =
    let t = step_of model env d d.what h in
    let g = grown model (c.declare model env d d.what) ds (next_numbered model env d d.what _ t h) in
    record {
      new = (record { declared = d; entity = t.entity }) ∷ g.new;
      more = t.more ++ g.more;
      entries = g.entries ∙ ap (λ xs. xs ++ g.new) t.entries ∙ append_assoc env.entries _ g.new;
      objects = g.objects ∙ ap (λ xs. xs ++ g.more) t.objects ∙ append_assoc env.objects t.more g.more;
      declares = ap (λ xs. d ∷ xs) g.declares;
    }
