-- What was written at numbers that are apart stands there.
use Rattle.std.proofs.Common.{◌≡◌, inl, inr, ℕ, ◌+◌, ◌<◌, ◌≤◌, length, List, [], ◌∷◌, ◌++◌, Some, suc, zero, replicate, slice_get, slice_set, arith, ap, sym, ◌∙◌, refl, subst}
use Rattle.std.proofs.lemmas.Bool.{cases_eq}
use Rattle.std.proofs.lemmas.Option.{none-some, same_Some, slice_get_within}
use Rattle.c_graph.specs.declared.graph.NodeId.{NodeId}
use Rattle.c_graph.specs.declared.graph.Node.{Node}
use Rattle.c_graph.specs.declared.graph.Node.TheVariants.{End}
use Rattle.c_graph.specs.Shape.{IsNodeOf}
use Rattle.c_graph.specs.Functions.{AreFlows, Flows}
use Rattle.call_inline.specs.declared.numbers.Copied.{Copied}
use Rattle.call_inline.specs.Inlining.{Among, nodes_in}
use Rattle.call_inline.specs.Copying.{Offsets, all_lays, copied_nodes, copies_after, copy_lays, goal_of, laid, node, number_of, plain_if, written}
use Rattle.call_inline.specs.Layout.{IsLaidOut}
use Rattle.call_inline.proofs.Weighing.{one-there, two-there, weigh, weigh-append, within, within-adds, within-here, within-one}
use Rattle.call_inline.proofs.Lists.{among-front, among-back, get-there}
use Rattle.call_inline.proofs.Unfolding.{all-weigh, each-single, number-below, placed}

-- ---- Lists in which a place is set

pub length-set : {X : Type 0} (xs : List X) (k : ℕ) (y : X) → length (slice_set xs k y) ≡ length xs
length-set [] k y = refl
length-set (x ∷ xs) zero y = refl
length-set (x ∷ xs) (suc k) y = ap suc (length-set xs k y)

set-here : {X : Type 0} (xs : List X) (k : ℕ) (y : X) → k < length xs → slice_get (slice_set xs k y) k ≡ Some y
set-here [] k y lt = absurd (omega (arith, lt))
set-here (x ∷ xs) zero y lt = refl
set-here (x ∷ xs) (suc k) y lt = set-here xs k y (omega (arith, lt))

set-other : {X : Type 0} (xs : List X) (k : ℕ) (y : X) (f : ℕ) → (f ≡ k → ⊥) → slice_get (slice_set xs k y) f ≡ slice_get xs f
set-other [] k y f ne = refl
set-other (x ∷ xs) zero y zero ne = absurd (ne refl)
set-other (x ∷ xs) zero y (suc f) ne = refl
set-other (x ∷ xs) (suc k) y zero ne = refl
set-other (x ∷ xs) (suc k) y (suc f) ne = set-other xs k y f (λ e. ne (ap suc e))

-- ---- Nodes that are written

pub length-written : (nodes : List Node) (ls : List (ℕ × Node)) → length (written nodes ls) ≡ length nodes
length-written nodes [] = refl
length-written nodes (l ∷ ls) = length-written (slice_set nodes l.0 l.1) ls ∙ length-set nodes l.0 l.1

-- whether a node is written at this number
abbrev pub at-number : ℕ → ℕ × Node → ℕ
at-number x l = within x l.0 1

pub at-its : (x : ℕ) (l : ℕ × Node) → l.0 ≡ x → at-number x l ≡ 1
at-its x l e = subst (λ (i : ℕ). within x i 1 ≡ 1) (sym e) (within-here x)

untouched : (nodes : List Node) (ls : List (ℕ × Node)) (x : ℕ) → weigh (at-number x) ls ≡ 0 → slice_get (written nodes ls) x ≡ slice_get nodes x
untouched nodes [] x none = refl
untouched nodes (l ∷ ls) x none =
    let ne : x ≡ l.0 → ⊥ = λ e. (let here : at-number x l ≡ 1 = at-its x l (sym e) in omega (arith, here, none)) in
    untouched (slice_set nodes l.0 l.1) ls x (omega (arith, none)) ∙ set-other nodes l.0 l.1 x ne

written-there : (nodes : List Node) (ls : List (ℕ × Node)) (k : ℕ) (l : ℕ × Node) → slice_get ls k ≡ Some l → l.0 < length nodes → weigh (at-number l.0) ls ≤ 1 → slice_get (written nodes ls) l.0 ≡ Some l.1
written-there nodes [] k l s lt one = absurd (none-some l s)
written-there nodes (a ∷ ls) zero l s lt one =
    let same : a ≡ l = same_Some a l s in
    let here : at-number l.0 a ≡ 1 = at-its l.0 a (ap (λ (b : ℕ × Node). b.0) same) in
    untouched (slice_set nodes a.0 a.1) ls l.0 (omega (arith, here, one))
    ∙ subst (λ (b : ℕ × Node). slice_get (slice_set nodes b.0 b.1) l.0 ≡ Some l.1) (sym same) (set-here nodes l.0 l.1 lt)
written-there nodes (a ∷ ls) (suc k) l s lt one =
    let long : length (slice_set nodes a.0 a.1) ≡ length nodes = length-set nodes a.0 a.1 in
    written-there (slice_set nodes a.0 a.1) ls k l s (omega (arith, lt, long)) (omega (arith, one))

set-all : (P : Node → Type 0) (nodes : List Node) (k : ℕ) (y : Node) → P y → ((i : ℕ) (x : Node) → slice_get nodes i ≡ Some x → P x) → (i : ℕ) (x : Node) → slice_get (slice_set nodes k y) i ≡ Some x → P x
set-all P nodes k y here old i x s = elim (cases_eq i k) [
  | inl e ↦
      let long : length (slice_set nodes k y) ≡ length nodes = length-set nodes k y in
      let lt : i < length (slice_set nodes k y) = slice_get_within (slice_set nodes k y) i x s in
      let there : k < length nodes = omega (arith, long, lt, e) in
      let both : Some y ≡ Some x = sym (set-here nodes k y there) ∙ subst (λ (j : ℕ). slice_get (slice_set nodes k y) j ≡ Some x) e s in
      subst P (same_Some y x both) here
  | inr ne ↦ old i x (sym (set-other nodes k y i ne) ∙ s)
]

-- what holds of all nodes at first, and of all that are written
pub written-all : (P : Node → Type 0) (nodes : List Node) (ls : List (ℕ × Node)) → ((i : ℕ) (x : Node) → slice_get nodes i ≡ Some x → P x) → ((k : ℕ) (l : ℕ × Node) → slice_get ls k ≡ Some l → P l.1)
    → (i : ℕ) (x : Node) → slice_get (written nodes ls) i ≡ Some x → P x
written-all P nodes [] old new i x s = old i x s
written-all P nodes (l ∷ ls) old new i x s =
    written-all P (slice_set nodes l.0 l.1) ls (set-all P nodes l.0 l.1 (new 0 l refl) old) (λ k a t. new (suc k) a t) i x s

-- ---- Nodes of copies

lay-there : (p : Flows) (offsets : Offsets) (c : Copied) (v : ℕ) (x : Node) → slice_get (nodes_in p c.function) v ≡ Some x → slice_get (copy_lays p offsets c) v ≡ Some (laid p offsets c v x)
lay-there p offsets c v x s =
    let o : 0 + v ≡ v = omega arith in
    each-single (laid p offsets c) 0 (nodes_in p c.function) v x s ∙ ap (λ (i : ℕ). Some (laid p offsets c i x)) o

lay-among : (p : Flows) (offsets : Offsets) (copies : List Copied) (c : Copied) (l : ℕ × Node) → Among copies c → Among (copy_lays p offsets c) l → Among (all_lays p offsets copies) l
lay-among p offsets [] c l (k, s) a = absurd (none-some c s)
lay-among p offsets (z ∷ copies) c l (zero, s) a =
    among-front (copy_lays p offsets z) (all_lays p offsets copies) l (subst (λ (w : Copied). Among (copy_lays p offsets w) l) (sym (same_Some z c s)) a)
lay-among p offsets (z ∷ copies) c l (suc k, s) a = among-back (copy_lays p offsets z) (all_lays p offsets copies) l (lay-among p offsets copies c l (k, s) a)

by-copies : (p : Flows) (offsets : Offsets) (f : ℕ × Node → ℕ) (copies : List Copied) → weigh f (all_lays p offsets copies) ≡ weigh (λ (c : Copied). weigh f (copy_lays p offsets c)) copies
by-copies p offsets f [] = refl
by-copies p offsets f (c ∷ copies) =
    let both : weigh f (copy_lays p offsets c ++ all_lays p offsets copies) ≡ weigh f (copy_lays p offsets c) + weigh f (all_lays p offsets copies) = weigh-append f (copy_lays p offsets c) (all_lays p offsets copies) in
    let rest : weigh f (all_lays p offsets copies) ≡ weigh (λ (b : Copied). weigh f (copy_lays p offsets b)) copies = by-copies p offsets f copies in
    omega (arith, both, rest)

length-replicate : {X : Type 0} (k : ℕ) (x : X) → length (replicate k x) ≡ k
length-replicate zero x = refl
length-replicate (suc k) x = ap suc (length-replicate k x)

pub length-copied : (p : Flows) (offsets : Offsets) (copies : List Copied) (total : ℕ) → length (copied_nodes p offsets copies total) ≡ total
length-copied p offsets copies total = length-written (replicate total End) (all_lays p offsets copies) ∙ length-replicate total End

module _ (p : Flows) (offsets : Offsets) (total : ℕ) (flows : AreFlows p) (out : IsLaidOut p offsets total) where
  abbrev copies : List Copied
  copies = copies_after p offsets total

  -- a number is given once
  once : (x : ℕ) → weigh (at-number x) (all_lays p offsets copies) ≤ 1
  once x =
      let all : weigh (at-number x) (all_lays p offsets copies) ≡ within x 0 total = all-weigh p offsets total flows out (within x) (within-adds x) in
      let few : within x 0 total ≤ 1 = within-one x 0 total in
      omega (arith, all, few)

  -- each node of each copy stands at its number
  pub stands : (c : Copied) (v : NodeId) (x : Node) → Among copies c → slice_get (nodes_in p c.function) v.0 ≡ Some x
      → slice_get (copied_nodes p offsets copies total) (number_of offsets c v).0 ≡ Some (plain_if (goal_of p offsets c v.0 x) x)
  stands c v x at s =
      let l : ℕ × Node = laid p offsets c v.0 x in
      let here : Among (all_lays p offsets copies) (laid p offsets c v.0 x) = lay-among p offsets copies c (laid p offsets c v.0 x) at (v.0, lay-there p offsets c v.0 x s) in
      let lt : (number_of offsets c (node v.0)).0 < total = number-below p offsets total flows out c v.0 (placed p offsets total flows out total c at).0 (slice_get_within (nodes_in p c.function) v.0 x s) in
      let long : length (replicate total End) ≡ total = length-replicate total End in
      written-there (replicate total End) (all_lays p offsets copies) here.0 (laid p offsets c v.0 x) here.1 (omega (arith, lt, long)) (once (number_of offsets c (node v.0)).0)

  -- a copy in which a node has the number
  weighs-one : (x : ℕ) (c : Copied) (v : NodeId) (y : Node) → slice_get (nodes_in p c.function) v.0 ≡ Some y → (number_of offsets c v).0 ≡ x → 1 ≤ weigh (at-number x) (copy_lays p offsets c)
  weighs-one x c v y s e =
      let one : at-number x (laid p offsets c v.0 y) ≡ 1 = at-its x (laid p offsets c v.0 y) e in
      let all : at-number x (laid p offsets c v.0 y) ≤ weigh (at-number x) (copy_lays p offsets c) = one-there (at-number x) (copy_lays p offsets c) v.0 (laid p offsets c v.0 y) (lay-there p offsets c v.0 y s) in
      omega (arith, one, all)

  same-copy : (c d : Copied) (j k : ℕ) (v w : NodeId) (y z : Node) → slice_get copies j ≡ Some c → slice_get copies k ≡ Some d → slice_get (nodes_in p c.function) v.0 ≡ Some y → slice_get (nodes_in p d.function) w.0 ≡ Some z
      → number_of offsets c v ≡ number_of offsets d w → j ≡ k
  same-copy c d j k v w y z a b s t e = elim (cases_eq j k) [
    | inl same ↦ same
    | inr ne ↦
        let x : ℕ = (number_of offsets c v).0 in
        let first : 1 ≤ weigh (at-number x) (copy_lays p offsets c) = weighs-one x c v y s refl in
        let second : 1 ≤ weigh (at-number x) (copy_lays p offsets d) = weighs-one x d w z t (ap (λ (i : NodeId). i.0) (sym e)) in
        let two : weigh (at-number x) (copy_lays p offsets c) + weigh (at-number x) (copy_lays p offsets d) ≤ weigh (λ (b : Copied). weigh (at-number x) (copy_lays p offsets b)) copies =
        two-there (λ (b : Copied). weigh (at-number x) (copy_lays p offsets b)) copies j k c d ne a b in
        let all : weigh (at-number x) (all_lays p offsets copies) ≡ weigh (λ (b : Copied). weigh (at-number x) (copy_lays p offsets b)) copies = by-copies p offsets (at-number x) copies in
        let one : weigh (at-number x) (all_lays p offsets copies) ≤ 1 = once x in
        absurd (omega (arith, first, second, two, all, one))
  ]

  same-node : (c : Copied) (j : ℕ) (v w : NodeId) (y z : Node) → slice_get copies j ≡ Some c → slice_get (nodes_in p c.function) v.0 ≡ Some y → slice_get (nodes_in p c.function) w.0 ≡ Some z → number_of offsets c v ≡ number_of offsets c w → v ≡ w
  same-node c j v w y z a s t e = elim (cases_eq v.0 w.0) [
    | inl same ↦ ap node same
    | inr ne ↦
        let x : ℕ = (number_of offsets c v).0 in
        let first : at-number x (laid p offsets c v.0 y) ≡ 1 = at-its x (laid p offsets c v.0 y) refl in
        let second : at-number x (laid p offsets c w.0 z) ≡ 1 = at-its x (laid p offsets c w.0 z) (ap (λ (i : NodeId). i.0) (sym e)) in
        let two : at-number x (laid p offsets c v.0 y) + at-number x (laid p offsets c w.0 z) ≤ weigh (at-number x) (copy_lays p offsets c) =
        two-there (at-number x) (copy_lays p offsets c) v.0 w.0 (laid p offsets c v.0 y) (laid p offsets c w.0 z) ne (lay-there p offsets c v.0 y s) (lay-there p offsets c w.0 z t) in
        let copy : weigh (at-number x) (copy_lays p offsets c) ≤ weigh (λ (b : Copied). weigh (at-number x) (copy_lays p offsets b)) copies = one-there (λ (b : Copied). weigh (at-number x) (copy_lays p offsets b)) copies j c a in
        let all : weigh (at-number x) (all_lays p offsets copies) ≡ weigh (λ (b : Copied). weigh (at-number x) (copy_lays p offsets b)) copies = by-copies p offsets (at-number x) copies in
        let one : weigh (at-number x) (all_lays p offsets copies) ≤ 1 = once x in
        absurd (omega (arith, first, second, two, copy, all, one))
  ]

  -- no number is that of two nodes
  pub apart : (c d : Copied) (v w : NodeId) → Among copies c → Among copies d → IsNodeOf (nodes_in p c.function) v → IsNodeOf (nodes_in p d.function) w
      → number_of offsets c v ≡ number_of offsets d w → (c ≡ d) × (v ≡ w)
  apart c d v w (j, a) (k, b) lv lw e =
      let (y, s) = get-there (nodes_in p c.function) v.0 lv in
      let (z, t) = get-there (nodes_in p d.function) w.0 lw in
      let at : j ≡ k = same-copy c d j k v w y z a b s t e in
      let there : slice_get copies j ≡ Some d = subst (λ (i : ℕ). slice_get copies i ≡ Some d) (sym at) b in
      let same : c ≡ d = same_Some c d (sym a ∙ there) in
      let here : slice_get (nodes_in p c.function) w.0 ≡ Some z = subst (λ (b : Copied). slice_get (nodes_in p b.function) w.0 ≡ Some z) (sym same) t in
      let number : number_of offsets c v ≡ number_of offsets c w = e ∙ ap (λ (b : Copied). number_of offsets b w) (sym same) in
      (same, same-node c j v w y z a s here number)
