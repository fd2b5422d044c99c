-- The labels that a Refine gives have terms of width 1.
use Rattle.std.proofs.Common.{◌≡◌, ℕ, ◌+◌, ◌<◌, ◌≤◌, Bool, true, false, List, [], ◌∷◌, ◌++◌, length, reverse, refl, sym, ap, ◌∙◌, subst, arith, zero, suc, if◌then◌else◌}
use Rattle.std.specs.List.{All}
use Rattle.std.proofs.lemmas.List.{reverse-append}
use Rattle.std.proofs.lemmas.List.Elements.{All-nil, All-cons, All-append}
use Rattle.bv_term.specs.declared.term.TermId.{TermId}
use Rattle.bv_term.specs.WellFormed.{Table}
use Rattle.c_graph.specs.Shape.{HasWidth}
use Rattle.reach_tree.specs.declared.vertex.Vertex.{Vertex}
use Rattle.reach_tree.specs.declared.vertex.NewLabel.{NewLabel}
use Rattle.reach_tree.specs.Trees.{AreLabelled, IsLabel, vertex_at}
use Rattle.cover_engine.specs.Units.{strengthens}
use Rattle.cover_engine.specs.Keeping.{label_with, new_labels_of}

abbrev Wide : Table → TermId → Type 0
Wide table t = HasWidth table t 1

abbrev Good : Table → NewLabel → Type 0
Good table l = IsLabel table l.label

labels_along_path : (table : Table) (vs : List Vertex) (xs : List ℕ) (fs : List TermId) → AreLabelled table vs → IsLabel table fs
    → All (λ l. IsLabel table l.label) (new_labels_of table vs xs fs)
labels_along_path table vs [] fs all h = All-nil (Good table)
labels_along_path table vs (x ∷ xs) [] all h = All-nil (Good table)
labels_along_path table vs (x ∷ xs) (f ∷ fs) all h =
    let rest = labels_along_path table vs xs fs all (λ k d lt. h (suc k) d (omega (arith, lt))) in
    let one : IsLabel table (label_with vs x f).label =
    All-append (Wide table) (vertex_at vs x).label (f ∷ []) (all x) (All-cons (Wide table) f [] (h 0 f (omega arith)) (All-nil (Wide table))) in
    by (strengthens table vs x f) one rest
  where
    by : (c : Bool) → IsLabel table (label_with vs x f).label → All (λ l. IsLabel table l.label) (new_labels_of table vs xs fs)
        → All (λ l. IsLabel table l.label) (if c then label_with vs x f ∷ new_labels_of table vs xs fs else new_labels_of table vs xs fs)
    by false one rest = rest
    by true one rest = All-cons (Good table) (label_with vs x f) (new_labels_of table vs xs fs) one rest

turned : (table : Table) (fs : List TermId) → IsLabel table fs → IsLabel table (reverse fs)
turned table [] h = All-nil (Wide table)
turned table (f ∷ fs) h =
    subst (IsLabel table) (sym (reverse-append (f ∷ []) fs))
    (All-append (Wide table) (reverse fs) (f ∷ []) (turned table fs (λ k d lt. h (suc k) d (omega (arith, lt)))) (All-cons (Wide table) f [] (h 0 f (omega arith)) (All-nil (Wide table))))

pub labels_labelled : (table : Table) (vs : List Vertex) (xs : List ℕ) (fs : List TermId) → AreLabelled table vs → IsLabel table fs
    → All (λ l. IsLabel table l.label) (new_labels_of table vs xs (reverse fs))
labels_labelled table vs xs fs all h = labels_along_path table vs xs (reverse fs) all (turned table fs h)
