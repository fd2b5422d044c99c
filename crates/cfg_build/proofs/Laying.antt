-- Openings, ranges and loops that are laid one after the other.
use Rattle.std.proofs.Common.{◌≡◌, ℕ, zero, suc, ◌+◌, ◌-◌, ◌<◌, ◌≤◌, List, [], ◌∷◌, ◌++◌, length, take, drop, get_or, Option, None, Some, slice_get, refl, sym, ap, ◌∙◌, arith, append_assoc, append-nil, drop-cons}
use Rattle.std.specs.Prelude.{slice_set}
use Rattle.std.proofs.lemmas.List.{drop_all}
use Rattle.c_graph.specs.declared.graph.Node.{Node}
use Rattle.c_graph.specs.declared.graph.Node.TheVariants.{Plain}
use Rattle.c_graph.specs.declared.graph.Edge.{Edge}
use Rattle.c_graph.specs.declared.graph.LoopAt.{LoopAt}
use Rattle.c_graph.specs.declared.graph.Operation.{Operation}
use Rattle.c_terms.specs.declared.words.Words.{Words}
use Rattle.c_terms.proofs.Choosing.{two}
use Rattle.slot_values.specs.Linked.{link_of, links_of}
use Rattle.slot_values.specs.declared.scene.Link.{Link}
use Rattle.cfg_build.specs.declared.draft.Draft.{Draft}
use Rattle.cfg_build.specs.declared.placing.Range.{Range}
use Rattle.cfg_build.specs.Steps.{Adds, node_id, edge, next_of}
use Rattle.cfg_build.specs.Ranges.{ranges_to, range_of, entry_or, slot_or}
use Rattle.cfg_build.specs.Follows.{Plan, node_of}
use Rattle.cfg_build.specs.Looped.{loop_goal, with_loop, loops_from}
use Rattle.cfg_build.proofs.Linking.{links-more, none-behind, all-taken}

-- ---- The opening

-- one node, and an edge from it that does what was made
pub opened : (a b : Draft) (new : Words) (ops : List Operation) (r : Words × List Operation) → (new, ops) ≡ r
    → Adds a b (Plain ∷ []) (edge (node_id (next_of a)) (node_id (next_of a + 1)) ops ∷ [])
    → ◌≡◌ {A = Words × List Node × List Edge} (new, b.nodes.items, b.edges.items)
    (r.0, a.nodes.items ++ Plain ∷ [], a.edges.items ++ edge (node_id (next_of a)) (node_id (next_of a + 1)) r.1 ∷ [])
opened a b new ops r e h =
    two (λ (ns : List Node) (es : List Edge). (new, ns, es)) h.nodes_are h.edges_are
    ∙ ap (λ (p : Words × List Operation). (p.0, a.nodes.items ++ Plain ∷ [], a.edges.items ++ edge (node_id (next_of a)) (node_id (next_of a + 1)) p.1 ∷ [])) e

-- ---- Ranges

-- the range of one link more
pub laid-more : (end bound : ℕ) (links : List Link) (n m : ℕ) (x : Link) (start old new : List Range) → slice_get links n ≡ Some x → suc n ≡ m
    → new ≡ slice_set old x.function (range_of (link_of x) (entry_or end (slice_get links m)) (slot_or bound (slice_get links m)))
    → old ≡ ranges_to (entry_or end (slice_get links n)) (slot_or bound (slice_get links n)) (links_of (take n links)) start
    → new ≡ ranges_to (entry_or end (slice_get links m)) (slot_or bound (slice_get links m)) (links_of (take m links)) start
laid-more end bound links n m x start old new e f p h =
    let to : ℕ = entry_or end (slice_get links m) in
    let up : ℕ = slot_or bound (slice_get links m) in
    let before : old ≡ ranges_to x.entry x.slot (links_of (take n links)) start =
    h ∙ ap (λ (o : Option Link). ranges_to (entry_or end o) (slot_or bound o) (links_of (take n links)) start) e in
    let both : new ≡ ranges_to to up (link_of x ∷ links_of (take n links)) start = p ∙ ap (λ (rs : List Range). slice_set rs x.function (range_of (link_of x) to up)) before in
    both ∙ ap (λ ls. ranges_to to up ls start) (sym (links-more [] links n x e)) ∙ ap (λ (j : ℕ). ranges_to to up (links_of (take j links)) start) f

-- those of all links
pub laid-whole : (end bound : ℕ) (links : List Link) (n : ℕ) (start ranges : List Range) → length links ≤ n
    → ranges ≡ ranges_to (entry_or end (slice_get links n)) (slot_or bound (slice_get links n)) (links_of (take n links)) start
    → ranges ≡ ranges_to end bound (links_of links) start
laid-whole end bound links n start ranges h k =
    k ∙ ap (λ (o : Option Link). ranges_to (entry_or end o) (slot_or bound o) (links_of (take n links)) start) (none-behind links n h)
    ∙ ap (λ (xs : List Link). ranges_to end bound (links_of xs) start) (all-taken links n h)

-- ---- Loops

-- no offset is left
pub loops-none : (p : Plan) (place n : ℕ) → loops_from p place n [] ≡ []
loops-none p place zero = refl
loops-none p place (suc n) = refl

-- one place more
loops-step : (p : Plan) (place next end number : ℕ) (offsets : List ℕ) → place < end → number < length offsets → place + 1 ≡ next
    → loops_from p place (end - place) (drop number offsets)
    ≡ with_loop p (get_or offsets number 0) (loop_goal p p.code place (get_or offsets number 0)) (loops_from p next (end - next) (drop (suc number) offsets)) (loops_from p next (end - next) (drop number offsets))
loops-step p place next end number offsets lt le e =
    let at : ℕ = get_or offsets number 0 in
    let left : drop number offsets ≡ at ∷ drop (suc number) offsets = drop-cons offsets number 0 le in
    let many : end - place ≡ suc (end - next) = omega (arith, lt, e) in
    two (λ (k : ℕ) (xs : List ℕ). loops_from p place k xs) many left
    ∙ ap (λ (j : ℕ). with_loop p at (loop_goal p p.code place at) (loops_from p j (end - next) (drop (suc number) offsets)) (loops_from p j (end - next) (at ∷ drop (suc number) offsets))) e
    ∙ ap (λ (xs : List ℕ). with_loop p at (loop_goal p p.code place at) (loops_from p next (end - next) (drop (suc number) offsets)) (loops_from p next (end - next) xs)) (sym left)

-- where no turn of the next loop stands
pub loops-wait : (p : Plan) (place next end number : ℕ) (offsets : List ℕ) (found all : List LoopAt) → place < end → number < length offsets → place + 1 ≡ next
    → None ≡ loop_goal p p.code place (get_or offsets number 0)
    → found ++ loops_from p place (end - place) (drop number offsets) ≡ all
    → found ++ loops_from p next (end - next) (drop number offsets) ≡ all
loops-wait p place next end number offsets found all lt le e g h =
    let at : ℕ = get_or offsets number 0 in
    ap (λ (xs : List LoopAt). found ++ xs)
    (ap (λ (o : Option ℕ). with_loop p at o (loops_from p next (end - next) (drop (suc number) offsets)) (loops_from p next (end - next) (drop number offsets))) g
    ∙ sym (loops-step p place next end number offsets lt le e))
    ∙ h

-- where one stands that goes to a place
pub loops-more : (p : Plan) (place next end number after goal : ℕ) (offsets : List ℕ) (found new all : List LoopAt) (l : LoopAt) → place < end → number < length offsets → place + 1 ≡ next → number + 1 ≡ after
    → Some goal ≡ loop_goal p p.code place (get_or offsets number 0) → l ≡ record { at = get_or offsets number 0; node = node_of p goal } → new ≡ found ++ l ∷ []
    → found ++ loops_from p place (end - place) (drop number offsets) ≡ all
    → new ++ loops_from p next (end - next) (drop after offsets) ≡ all
loops-more p place next end number after goal offsets found new all l lt le e f g is pushed h =
    let at : ℕ = get_or offsets number 0 in
    let rest : List LoopAt = loops_from p next (end - next) (drop (suc number) offsets) in
    let own : LoopAt = record { at = at; node = node_of p goal } in
    let k : after ≡ suc number = omega (arith, f) in
    ap (λ (j : ℕ). new ++ loops_from p next (end - next) (drop j offsets)) k
    ∙ ap (λ (xs : List LoopAt). xs ++ rest) (pushed ∙ ap (λ (x : LoopAt). found ++ x ∷ []) is)
    ∙ append_assoc found (own ∷ []) rest
    ∙ ap (λ (xs : List LoopAt). found ++ xs)
    (ap (λ (o : Option ℕ). with_loop p at o rest (loops_from p next (end - next) (drop number offsets))) g
    ∙ sym (loops-step p place next end number offsets lt le e))
    ∙ h

-- where no offset is left
pub loops-full : (p : Plan) (place count number : ℕ) (offsets : List ℕ) (found all : List LoopAt) → length offsets ≤ number → found ++ loops_from p place count (drop number offsets) ≡ all → found ≡ all
loops-full p place count number offsets found all le h =
    sym (append-nil found)
    ∙ ap (λ (xs : List LoopAt). found ++ xs) (sym (ap (λ (xs : List ℕ). loops_from p place count xs) (drop_all number offsets le) ∙ loops-none p place count))
    ∙ h
