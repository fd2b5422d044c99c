-- What has a name at a loop is an element of the object that the name means there.
use Rattle.std.proofs.Common.{◌≡◌, ◌∙◌, ap, sym, subst, refl, ℕ, zero, suc, ◌<◌, ◌+◌, List, [], ◌∷◌, slice_index, ℤ, pos, Bool, true, false, ◌⊎◌, inl, inr, arith}
use Rattle.std.specs.Prelude.{Option, Some, None, slice_get, ◌&&◌, if◌then◌else◌, int_le, int_lt}
use Rattle.std.proofs.lemmas.Bool.{eqb-true}
use Rattle.lv_base.specs.declared.kind.Kind.{Kind}
use Rattle.lv_base.specs.declared.kind.Model.{Model}
use Rattle.c_graph.specs.declared.graph.Cell.{Cell}
use Rattle.c_graph.specs.declared.graph.Origin.{Origin}
use Rattle.c_graph.specs.declared.graph.Origin.TheVariants.{Element, Saved}
use Rattle.c_graph.specs.Shape.{widths_of}
use Rattle.c_run.specs.Run.{State, Got, Value, choose, give, fail, element, after, read, located}
use Rattle.c_run.specs.Loops.{Calls}
use Rattle.lv_base.specs.declared.fault.ErrorKind.TheVariants as error
use Rattle.c_meaning.specs.Kinds.{CType, tKind, tArray}
use Rattle.c_meaning.specs.Bindings.{Env, Object, Entity, anObjectOf, aFunctionOf, aConstantOf, aTypeOf, aTagOf, aNameOf, nothingOf, entity_of, entity_type, object_number, object_of, object_type, size_of_object}
use Rattle.c_meaning.specs.Types.{element_type}
use Rattle.c_meaning.specs.Value.{Context, named_value, element_at}
use Rattle.c_meaning.specs.Program.{Function, context, trapping}
use Rattle.loop_names.specs.Spellings.{is_number, means, spelled, spelling_of, spellings_from, spellings_of}
use Rattle.witness_expressions.specs.declared.names.Spelling.{Spelling}
use Rattle.witness_expressions.specs.declared.names.Spelling.TheVariants.{Hidden, Scalar, Array}
use Rattle.witness_truth_laws.specs.Written.{Place, pScalar, pElement, element_place, origin_place, cell_place, place_of}
use Rattle.witness_truth_laws.specs.Telling.{TellsOf, IsTold, value_at}
use Rattle.witness_truth_laws.proofs.Truths.{IsRead}

-- the place of an element of an object of this name and length
abbrev place_named : List ℕ → Option ℕ → ℕ → Place
place_named name None k = pScalar name
place_named name (Some n) k = pElement name k

-- the cell is an element of an object, whose name means it at both tokens
record IsNamed (env : Env) (keyword condition : ℕ) (cells : List Cell) (c : ℕ) (p : Place) : Type 0 where
  cell : Cell
  object : ℕ
  index : ℕ
  told : Object
  there : slice_get cells c ≡ Some cell
  origin : cell.origin ≡ Element object index
  known : slice_get env.objects object ≡ Some told
  before : object_of env told.name keyword ≡ Some object
  behind : object_of env told.name condition ≡ Some object
  place : p ≡ place_named told.name told.length index

spelled-at : (env : Env) (keyword condition number : ℕ) (os : List Object) (i : ℕ) (s : Spelling) → slice_get (spellings_from env keyword condition number os) i ≡ Some s
    → (o : Object) × (slice_get os i ≡ Some o) × (s ≡ spelling_of env keyword condition (number + i) o)
spelled-at env keyword condition number [] i s e = absurd cc
spelled-at env keyword condition number (o ∷ os) zero s e =
    let here : number + 0 ≡ number = omega arith in
    let same : spelling_of env keyword condition number o ≡ s = cc in
    (o, refl, sym same ∙ ap (λ (n : ℕ). spelling_of env keyword condition n o) (sym here))
spelled-at env keyword condition number (o ∷ os) (suc i) s e =
    let next : suc number + i ≡ number + suc i = omega arith in
    let (p, found, is) = spelled-at env keyword condition (suc number) os i s e in
    (p, found, is ∙ ap (λ (n : ℕ). spelling_of env keyword condition n p) next)

numbered : (found : Option ℕ) (number : ℕ) → is_number found number ≡ true → found ≡ Some number
numbered None number e = absurd cc
numbered (Some k) number e = ap Some (eqb-true k number e)

both-true : (a b : Bool) → (a && b) ≡ true → (a ≡ true) × (b ≡ true)
both-true true true e = (refl, refl)
both-true true false e = absurd cc
both-true false b e = absurd cc

placed : (name : List ℕ) (length : Option ℕ) (b test : Bool) (k : ℕ) (p : Place) → test ≡ b → element_place (Some (if test then spelled name length else Hidden)) k ≡ Some p → (test ≡ true) × (p ≡ place_named name length k)
placed name None true test k p e f = (e, some-is (sym (ap (λ (x : Bool). element_place (Some (if x then Scalar name else Hidden)) k) e) ∙ f))
  where
    some-is : Some (pScalar name) ≡ Some p → p ≡ pScalar name
    some-is g = cc
placed name (Some n) true test k p e f = (e, some-is (sym (ap (λ (x : Bool). element_place (Some (if x then Array name else Hidden)) k) e) ∙ f))
  where
    some-is : Some (pElement name k) ≡ Some p → p ≡ pElement name k
    some-is g = cc
placed name length false test k p e f = absurd (none-is (sym (ap (λ (x : Bool). element_place (Some (if x then spelled name length else Hidden)) k) e) ∙ f))
  where
    none-is : None ≡ Some p → ⊥
    none-is g = cc

module _ (env : Env) (keyword condition : ℕ) (cells : List Cell) (c : ℕ) (p : Place) where
  named-object : (cell : Cell) (object index : ℕ) (found : Option Spelling) → slice_get cells c ≡ Some cell → cell.origin ≡ Element object index
      → slice_get (spellings_of env keyword condition) object ≡ found → element_place found index ≡ Some p → IsNamed env keyword condition cells c p
  named-object cell object index None there from e f = absurd cc
  named-object cell object index (Some s) there from e f =
      let (o, known, is) = spelled-at env keyword condition 0 env.objects object s e in
      let zero_on : 0 + object ≡ object = omega arith in
      let same : s ≡ spelling_of env keyword condition object o = is ∙ ap (λ (n : ℕ). spelling_of env keyword condition n o) zero_on in
      let test : Bool = means env keyword o.name object && means env condition o.name object in
      let r = placed o.name o.length test test index p refl (sym (ap (λ (x : Spelling). element_place (Some x) index) same) ∙ f) in
      let b = both-true (means env keyword o.name object) (means env condition o.name object) r.0 in
      record {
        cell = cell;
        object = object;
        index = index;
        told = o;
        there = there;
        origin = from;
        known = known;
        before = numbered _ _ b.0;
        behind = numbered _ _ b.1;
        place = r.1;
      }

  named-origin : (cell : Cell) (from : Origin) → slice_get cells c ≡ Some cell → cell.origin ≡ from → origin_place (spellings_of env keyword condition) from ≡ Some p → IsNamed env keyword condition cells c p
  named-origin cell (Element object index) there e f = named-object cell object index (slice_get (spellings_of env keyword condition) object) there e refl f
  named-origin cell Saved there e f = absurd cc

  named-cell : (found : Option Cell) → slice_get cells c ≡ found → cell_place (spellings_of env keyword condition) found ≡ Some p → IsNamed env keyword condition cells c p
  named-cell None e f = absurd cc
  named-cell (Some cell) e f = named-origin cell cell.origin e refl f

  named : place_of (spellings_of env keyword condition) cells c ≡ Some p → IsNamed env keyword condition cells c p
  named f = named-cell (slice_get cells c) refl f

-- ---- What is read there

an-object : (e : Entity) (number : ℕ) → object_number e ≡ Some number → e ≡ anObjectOf number
an-object (anObjectOf n) number e = ap anObjectOf (some-is e)
  where
    some-is : Some n ≡ Some number → n ≡ number
    some-is g = cc
an-object (aFunctionOf r ps) number e = absurd cc
an-object (aConstantOf v) number e = absurd cc
an-object (aTypeOf k c) number e = absurd cc
an-object (aTagOf k) number e = absurd cc
an-object (aNameOf k c) number e = absurd cc
an-object nothingOf number e = absurd cc

width-there : (cells : List Cell) (c : ℕ) (cell : Cell) → slice_get cells c ≡ Some cell → slice_index (widths_of cells) c ≡ cell.width
width-there [] c cell e = absurd cc
width-there (x ∷ cells) zero cell e = ap (λ (y : Cell). y.width) (some-is e)
  where
    some-is : Some x ≡ Some cell → x ≡ cell
    some-is g = cc
width-there (x ∷ cells) (suc c) cell e = width-there cells c cell e

abbrev type-with : Kind → Option ℕ → CType
type-with kind None = tKind kind
type-with kind (Some n) = tArray kind n

type-is : (o : Object) → (length : Option ℕ) → o.length ≡ length → object_type (Some o) ≡ type-with o.kind length
type-is o None e = ap (λ (l : Option ℕ). elim l [ None ↦ tKind o.kind | Some n ↦ tArray o.kind n ]) e
type-is o (Some m) e = ap (λ (l : Option ℕ). elim l [ None ↦ tKind o.kind | Some n ↦ tArray o.kind n ]) e

size-scalar : (o : Object) → o.length ≡ None → size_of_object (Some o) ≡ 1
size-scalar o e = ap (λ (l : Option ℕ). elim l [ None ↦ 1 | Some n ↦ n ]) e

inside : (index count : ℕ) → index < count → (int_le (pos 0) (pos index) && int_lt (pos index) (pos count)) ≡ true
inside index count lt = grind (arith, lt)

module _ (env : Env) (model : Model) (inputs : List ℤ) (functions : List Function) (call : Calls) (at : ℕ) (st : State) (cells : List Cell) (widths store : List ℕ) (c : ℕ) where
  abbrev ctx : Context
  ctx = context env model (trapping model) inputs functions call

  read-scalar : (cell : Cell) (object index : ℕ) (o : Object) → o.length ≡ None → slice_get env.objects object ≡ Some o → object_of env o.name at ≡ Some object
      → slice_index widths c ≡ cell.width → IsTold model st.store store c cell object index o → IsRead env model inputs functions call at st widths store c (pScalar o.name)
  read-scalar cell object index o e known found w t =
      let entity : entity_of env o.name at ≡ anObjectOf object = an-object (entity_of env o.name at) object found in
      let first : index ≡ 0 = omega (arith, t.there, size-scalar o e) in
      record {
        kind = o.kind;
        value = value_at st.store object index;
        typed = ap (entity_type env) entity ∙ ap object_type known ∙ type-is o None e;
        means = ap (λ (x : Entity). named_value ctx x st) entity ∙ ap (λ (k : ℕ). Value (value_at st.store object k) st) (sym first);
        in_range = t.in_range;
        wide = w ∙ t.wide;
        low = t.low;
      }

  read-element : (cell : Cell) (object index n : ℕ) (o : Object) → o.length ≡ Some n → slice_get env.objects object ≡ Some o → object_of env o.name at ≡ Some object
      → slice_index widths c ≡ cell.width → IsTold model st.store store c cell object index o → IsRead env model inputs functions call at st widths store c (pElement o.name index)
  read-element cell object index n o e known found w t =
      let entity : entity_of env o.name at ≡ anObjectOf object = an-object (entity_of env o.name at) object found in
      let reading : Option ℕ → Got ℤ = λ x. after (element_at ctx at x (pos index) st) read in
      let sized : ℕ → Got ℤ = λ x. after (located at object x (pos index) st) read in
      record {
        kind = o.kind;
        value = value_at st.store object index;
        typed = ap (λ (x : Entity). element_type (entity_type env x)) entity ∙ ap (λ (x : Option Object). element_type (object_type x)) known ∙ ap element_type (type-is o (Some n) e);
        means = ap reading found ∙ ap (λ (x : Option Object). sized (size_of_object x)) known
            ∙ ap (λ (b : Bool). after (choose b (give (element object index)) (fail error.Index at) st) read) (inside index (size_of_object (Some o)) t.there);
        in_range = t.in_range;
        wide = w ∙ t.wide;
        low = t.low;
      }

  read-by : (length : Option ℕ) (cell : Cell) (object index : ℕ) (o : Object) → o.length ≡ length → slice_get env.objects object ≡ Some o → object_of env o.name at ≡ Some object
      → slice_index widths c ≡ cell.width → IsTold model st.store store c cell object index o → IsRead env model inputs functions call at st widths store c (place_named o.name length index)
  read-by None cell object index o e known found w t = read-scalar cell object index o e known found w t
  read-by (Some n) cell object index o e known found w t = read-element cell object index n o e known found w t

-- a place that has a name at a token is read there, where a store tells the values
pub reads : (P : ℕ → Type 0) (env : Env) (model : Model) (inputs : List ℤ) (functions : List Function) (call : Calls) (keyword condition at : ℕ) (st : State) (cells : List Cell) (widths store : List ℕ)
    → widths ≡ widths_of cells → TellsOf P env model cells st.store store → (at ≡ keyword) ⊎ (at ≡ condition)
    → (c : ℕ) (p : Place) → P c → place_of (spellings_of env keyword condition) cells c ≡ Some p → IsRead env model inputs functions call at st widths store c p
reads P env model inputs functions call keyword condition at st cells widths store wide tells place c p q e =
    let n = named env keyword condition cells c p e in
    let told = tells c n.cell n.object n.index n.told q n.there n.origin n.known in
    let found : object_of env n.told.name at ≡ Some n.object = by-place n place in
    let w : slice_index widths c ≡ n.cell.width = ap (λ (ws : List ℕ). slice_index ws c) wide ∙ width-there cells c n.cell n.there in
    subst (IsRead env model inputs functions call at st widths store c) (sym n.place)
    (read-by env model inputs functions call at st cells widths store c n.told.length n.cell n.object n.index n.told refl n.known found w told)
  where
    by-place : (n : IsNamed env keyword condition cells c p) → (at ≡ keyword) ⊎ (at ≡ condition) → object_of env n.told.name at ≡ Some n.object
    by-place n (inl h) = ap (object_of env n.told.name) h ∙ n.before
    by-place n (inr h) = ap (object_of env n.told.name) h ∙ n.behind
