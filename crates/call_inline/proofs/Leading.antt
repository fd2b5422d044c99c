-- Each edge of all copies is one of a copy: its function's, or one that leads into a copy or back from it.
use Rattle.std.proofs.Common.{◌≡◌, ◌⊎◌, inl, inr, ℕ, ◌+◌, ◌<◌, ◌≤◌, length, Bool, true, false, List, [], ◌∷◌, Option, Some, None, map, arith, ap, sym, ◌∙◌, refl, subst, suc, zero, slice_get, if◌then◌else◌}
use Rattle.std.proofs.lemmas.Bool.{eqb-true}
use Rattle.std.proofs.lemmas.Option.{none-some, same_Some, slice_get_within}
use Rattle.c_graph.specs.declared.graph.NodeId.{NodeId}
use Rattle.c_graph.specs.declared.graph.Node.{Node}
use Rattle.c_graph.specs.declared.graph.Node.TheVariants.{Plain, Error, End, Call}
use Rattle.c_graph.specs.declared.graph.Edge.{Edge}
use Rattle.c_graph.specs.Functions.{Flows}
use Rattle.call_inline.specs.declared.numbers.Copied.{Copied}
use Rattle.call_inline.specs.Inlining.{Among, IsOwn, IsCall, IsReturn, edges_in, entry_in, nodes_in, step}
use Rattle.call_inline.specs.Copying.{Offsets, all_edges, called, calls_of, copy_edges, each_from, is_at, leads_of, led, moved, node, number_of}
use Rattle.call_inline.proofs.Gluing.{in-first}
use Rattle.call_inline.proofs.Lists.{among-either, from-each, from-map}
use Rattle.call_inline.proofs.Turning.{AreFollowed}

-- a copy that has it
from-all : (p : Flows) (offsets : Offsets) (copies : List Copied) (e : Edge) → Among (all_edges p offsets copies) e → (c : Copied) × Among copies c × Among (copy_edges p offsets c) e
from-all p offsets [] e (k, s) = absurd (none-some e s)
from-all p offsets (z ∷ copies) e a = elim (among-either (copy_edges p offsets z) (all_edges p offsets copies) e a) [
  | inl b ↦ (z, (0, refl), b)
  | inr b ↦ let (c, k, h) = from-all p offsets copies e b in (c, (suc k.0, k.1), h)
]

from-one : (here : NodeId) (to : NodeId) (e : Edge) → Among (step here to ∷ []) e → e ≡ step here to
from-one here to e (zero, s) = sym (same_Some (step here to) e s)
from-one here to e (suc k, s) = absurd (none-some e s)

module _ (p : Flows) (offsets : Offsets) (n : ℕ) (copies : List Copied) (followed : AreFollowed p offsets n copies) (few : length copies ≤ n) (c : Copied) (at : Among copies c) (e : Edge) where
  abbrev Kind : Type 0
  Kind = IsOwn p copies (number_of offsets) c e ⊎ (IsCall p copies (number_of offsets) c e ⊎ IsReturn p copies (number_of offsets) c e)

  exit-goes : (k : ℕ) (o : Option NodeId) (b : Bool) (back : Option NodeId) → slice_get p.exits c.function ≡ o → is_at o k ≡ b → c.back ≡ back → Among (led (number_of offsets c (node k)) (if b then back else None)) e → Kind
  exit-goes k o false back x t y (j, s) = absurd (none-some e s)
  exit-goes k o true None x t y (j, s) = absurd (none-some e s)
  exit-goes k None true (Some to) x t y a = let bad : false ≡ true = t in absurd cc
  exit-goes k (Some v) true (Some to) x t y a =
      let same : node k ≡ v = ap node (sym (eqb-true v.0 k t)) in
      inr (inr (record {
        exit = v;
        back = to;
        there = x;
        goes_on = y;
        is = from-one (number_of offsets c (node k)) to e a ∙ ap (λ (w : NodeId). step (number_of offsets c w) to) same;
      }))

  lead-kind : (k : ℕ) (x : Node) → slice_get (nodes_in p c.function) k ≡ Some x → Among (leads_of p offsets c k x) e → Kind
  lead-kind k Plain s (j, a) = absurd (none-some e a)
  lead-kind k (Error kind place) s (j, a) = absurd (none-some e a)
  lead-kind k End s a = exit-goes k (slice_get p.exits c.function) (is_at (slice_get p.exits c.function) k) c.back refl refl refl a
  lead-kind k (Call callee next) s a =
      let d : Copied = called offsets c k callee next in
      let lt : at.0 < length copies = slice_get_within copies at.0 c at.1 in
      inr (inl (record {
        node = node k;
        callee = callee;
        next = next;
        copy = called offsets c k callee next;
        there = s;
        among = followed at.0 c (called offsets c k callee next) (omega (arith, lt, few)) at.1 (in-first (calls_of offsets c) (nodes_in p c.function) k (Call callee next) (called offsets c k callee next) s (0, refl));
        function = refl;
        back = refl;
        is = from-one (number_of offsets c (node k)) (number_of offsets (called offsets c k callee next) (entry_in p callee)) e a;
      }))

  copy-kind : Among (copy_edges p offsets c) e → Kind
  copy-kind a = elim (among-either (each_from (leads_of p offsets c) 0 (nodes_in p c.function)) (map (moved offsets c) (edges_in p c.function)) e a) [
    | inl b ↦
        let (k, x, s, g) = from-each (leads_of p offsets c) 0 (nodes_in p c.function) e b in
        let o : 0 + k ≡ k = omega arith in
        lead-kind k x s (subst (λ (m : ℕ). Among (leads_of p offsets c m x) e) o g)
    | inr b ↦ let (own, there, is) = from-map (moved offsets c) (edges_in p c.function) e b in inl (record { own = own; there = there; is = is })
  ]

pub only : (p : Flows) (offsets : Offsets) (n : ℕ) (copies : List Copied) → AreFollowed p offsets n copies → length copies ≤ n → (e : Edge) → Among (all_edges p offsets copies) e
    → (c : Copied) × Among copies c × (IsOwn p copies (number_of offsets) c e ⊎ (IsCall p copies (number_of offsets) c e ⊎ IsReturn p copies (number_of offsets) c e))
only p offsets n copies followed few e a = let (c, at, h) = from-all p offsets copies e a in (c, at, copy-kind p offsets n copies followed few c at e h)
