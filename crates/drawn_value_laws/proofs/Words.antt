-- What is drawn is in the range of its cell, which is at most 64 bits wide.
use Rattle.std.proofs.Common.{◌≡◌, ℕ, ℤ, pos, negsuc, zero, suc, ◌<◌, ◌≤◌, ◌-◌, ◌^◌, Bool, true, false, List, [], ◌∷◌, ◌++◌, Option, None, Some, All, refl, sym, ap, subst, arith, slice_get, slice_index, if◌then◌else◌}
use Rattle.std.specs.Prelude.{nat_eq, unsigned_abs}
use Rattle.std.proofs.Math.Nat.{pow-le-pow_right}
use Rattle.std.proofs.lemmas.Bool.{ltb-true}
use Rattle.std.proofs.lemmas.Option.{same_Some, none-some}
use Rattle.std.proofs.lemmas.List.Elements.{All-head, All-tail}
use Rattle.bv_term.specs.WellFormed.{Table}
use Rattle.bv_term.specs.Values.{value}
use Rattle.c_graph.specs.declared.graph.Edge.{Edge}
use Rattle.c_graph.specs.declared.graph.Operation.{Operation}
use Rattle.c_graph.specs.declared.graph.Operation.TheVariants.{Assume, Set, SetAt, Draw}
use Rattle.c_graph.specs.Shape.{Flow, IsFlow, EdgeFits, OperationFits}
use Rattle.c_graph.specs.Steps.{Moment, moment, in_range_of, operated_all, Leads}
use Rattle.drawn_value_laws.specs.Drawn.{AreWords, DrawnAreWords}

words-append : (xs ys : List ℤ) → AreWords xs → AreWords ys → AreWords (xs ++ ys)
words-append [] ys a b = b
words-append (x ∷ xs) ys a b = (a.0, words-append xs ys a.1 b)

word-of : (w : ℕ) (signed : Bool) (z : ℤ) → w ≤ 64 → in_range_of w signed z ≡ true → unsigned_abs z < 2 ^ 64
word-of w true (pos n) le h =
    let lt : n < 2 ^ (w - 1) = ltb-true n (2 ^ (w - 1)) h in
    let p : 2 ^ (w - 1) ≤ 2 ^ 64 = pow-le-pow_right {n = 2} (omega arith) {i = w - 1} {j = 64} (omega (arith, le)) in omega (arith, lt, p)
word-of w true (negsuc n) le h =
    let lt : n < 2 ^ (w - 1) = ltb-true n (2 ^ (w - 1)) h in
    let p : 2 ^ (w - 1) ≤ 2 ^ 63 = pow-le-pow_right {n = 2} (omega arith) {i = w - 1} {j = 63} (omega (arith, le)) in omega (arith, lt, p)
word-of w false (pos n) le h =
    let lt : n < 2 ^ w = ltb-true n (2 ^ w) h in
    let p : 2 ^ w ≤ 2 ^ 64 = pow-le-pow_right {n = 2} (omega arith) {i = w} {j = 64} le in omega (arith, lt, p)
word-of w false (negsuc n) le h = absurd (cc)

abbrev inputs-in : Option Moment → List ℤ
inputs-in None = []
inputs-in (Some m) = m.inputs

module _ (table : Table) where
  none-left : (ops : List Operation) (after : List ℕ) → operated_all table ops None ≡ Some (moment after []) → ⊥
  none-left [] after e = absurd (cc)
  none-left (op ∷ ops) after e = absurd (cc)

  -- operations that leave no value, from any store
  abbrev Draws-words : List Operation → Type 0
  Draws-words ops = (store : List ℕ) (draws : List ℤ) (after : List ℕ) → operated_all table ops (Some (moment store draws)) ≡ Some (moment after []) → AreWords draws

  assume-words : (b : Bool) (ops : List Operation) (store : List ℕ) (draws : List ℤ) (after : List ℕ) → Draws-words ops
      → operated_all table ops (if b then Some (moment store draws) else None) ≡ Some (moment after []) → AreWords draws
  assume-words true ops store draws after rest e = rest store draws after e
  assume-words false ops store draws after rest e = absurd (none-left ops after e)

  draw-words : (b : Bool) (c : ℕ) (signed : Bool) (ops : List Operation) (next : List ℕ) (z : ℤ) (zs : List ℤ) (after : List ℕ) → slice_index table.cells c ≤ 64
      → in_range_of (slice_index table.cells c) signed z ≡ b → Draws-words ops
      → operated_all table ops (if b then Some (moment next zs) else None) ≡ Some (moment after []) → AreWords (z ∷ zs)
  draw-words true c signed ops next z zs after narrow is rest e = (word-of (slice_index table.cells c) signed z narrow is, rest next zs after e)
  draw-words false c signed ops next z zs after narrow is rest e = absurd (none-left ops after e)

  ops-words : (ops : List Operation) → All (OperationFits table) ops → Draws-words ops
  ops-words [] fits store draws after e = subst AreWords (sym (ap inputs-in e)) tt
  ops-words (Assume t ∷ ops) fits store draws after e =
      assume-words (nat_eq (value table store t) 1) ops store draws after (ops-words ops (All-tail (OperationFits table) (Assume t) ops fits)) e
  ops-words (Set c t ∷ ops) fits store draws after e = ops-words ops (All-tail (OperationFits table) (Set c t) ops fits) _ draws after e
  ops-words (SetAt first n i t ∷ ops) fits store draws after e = ops-words ops (All-tail (OperationFits table) (SetAt first n i t) ops fits) _ draws after e
  ops-words (Draw c signed ∷ ops) fits store [] after e = tt
  ops-words (Draw c signed ∷ ops) fits store (z ∷ zs) after e =
      draw-words (in_range_of (slice_index table.cells c) signed z) c signed ops _ z zs after (All-head (OperationFits table) (Draw c signed) ops fits).1 refl
      (ops-words ops (All-tail (OperationFits table) (Draw c signed) ops fits)) e

all-there : {A : Type 0} (P : A → Type 0) (xs : List A) (k : ℕ) (x : A) → All P xs → slice_get xs k ≡ Some x → P x
all-there P [] k x all e = absurd (none-some x e)
all-there P (y ∷ xs) zero x all e = subst P (same_Some y x e) (All-head P y xs all)
all-there P (y ∷ xs) (suc k) x all e = all-there P xs k x (All-tail P y xs all) e

edge-words : (g : Flow) (e : Edge) (k : ℕ) (store : List ℕ) (draws : List ℤ) (after : List ℕ) → IsFlow g → slice_get g.edges k ≡ Some e → Leads g.terms e store draws after → AreWords draws
edge-words g e k store draws after flow there leads =
    let fits : EdgeFits g.nodes g.terms e = all-there (EdgeFits g.nodes g.terms) g.edges k e flow.edges there in ops-words g.terms e.ops fits.operations store draws after leads

pub drawn_are_words : DrawnAreWords
drawn_are_words g [] v w store after draws flow runs = subst AreWords (sym runs.2) tt
drawn_are_words g (k ∷ path) v w store after draws flow (e, there, from, (mid, first, rest, are, leads, runs)) =
    subst AreWords (sym are) (words-append first rest (edge-words g e k.0 store first mid flow there leads) (drawn_are_words g path e.to w mid after rest flow runs))
