-- Blocks that begin at a node.
use Rattle.std.proofs.Common.{◌≡◌, ◌≤◌, ℕ, false, suc, refl, arith, List, [], ◌∷◌, length, slice_get, Some, None, inl, inr, ap, sym, ◌∙◌, subst}
use Rattle.c_graph.specs.declared.graph.Edge.{Edge}
use Rattle.c_graph.specs.Shape.{Flow}
use Rattle.block_rule.specs.Deeds.{Code, Has}
use Rattle.block_rule.specs.Plans.{Plan, ArePlaces}
use Rattle.block_rule.specs.Rule.{block_code}
use Rattle.block_rule.specs.Blocked.{NoneCuts}
use Rattle.block_edges.specs.Exact.{AllLed, HasBlock}
use Rattle.block_steps.specs.Cursors.{AreSides, Meets}
use Rattle.walk_states.specs.declared.state.Place.{Place}
use Rattle.walk_states.specs.Walks.{all_of, place_of, places_of}
use Rattle.block_follow.specs.Following.{AreInside, HasBlockOf, IsFirst}

places-long : (g : Flow) (places : List Place) → length (places_of g places) ≡ length places
places-long g [] = refl
places-long g (p ∷ places) = ap suc (places-long g places)

none-cuts : (g : Flow) (plan : Plan) (places : List Place) → ((k : ℕ) (p : Place) → slice_get places k ≡ Some p → plan.cuts p.node ≡ false)
    → NoneCuts plan (places_of g places)
none-cuts g plan [] off = tt
none-cuts g plan (p ∷ places) off = (off 0 p refl, none-cuts g plan places (λ k q there. off (suc k) q there))

-- where the graph has the code of the node's places from the node's only edge on, the node has a block
pub has-block : (g h : Flow) (plan : Plan) (places : List Place) (v n k size : ℕ) → n ≡ length g.cells → length places ≤ size → IsFirst places v → AreInside plan places
    → ArePlaces g plan (length g.cells) (places_of g places) → AllLed g (places_of g places) → (e : Edge) × ((slice_get h.edges k ≡ Some e) × (e.from.0 ≡ v))
    → AreSides h v k k → Meets h (record { edge_at = k; op_at = 0 }) (all_of g.terms plan (places_of g places) n) → HasBlockOf g h plan size v
has-block g h plan [] v n k size is few (p, q, r) inside are led leads alone m = absurd (let z : None ≡ Some p = q in cc)
has-block g h plan (x ∷ places) v n k size is few (p, q, r) inside are led (e, (get, from)) alone m =
    let same : x ≡ p = cc in
    let C : ℕ → Code = λ j. block_code g.terms plan (place_of g x) (places_of g places) j in
    let here : Meets h (record { edge_at = k; op_at = 0 }) (C (length g.cells)) =
    subst (λ (j : ℕ). Meets h (record { edge_at = k; op_at = 0 }) (C j)) is m in
    let has : Has h e.from.0 [] (C (length g.cells)) = here.has e [] get tt in
    let block : HasBlock g h plan v = record {
      begins = record {
        first = place_of g x;
        others = places_of g places;
        node = ap (λ (z : Place). z.node) same ∙ r;
        places = are;
        inside = none-cuts g plan places (λ j q there. inside (suc j) q there (omega arith));
        has = subst (λ (w : ℕ). Has h w [] (C (length g.cells))) from has;
        sound = here.sound;
      };
      ways = led;
      none_else = λ j f there leads.
          let is : j ≡ k = elim (alone.only j f there leads) [ inl y ↦ y | inr y ↦ y ] in
          here.one f [] (ap (slice_get h.edges) (sym is) ∙ there) tt;
    } in
    (block, omega (arith, few, places-long g (x ∷ places)))
