-- Lists of formulas by number, and maps of them.
use Rattle.std.proofs.Common.{◌≡◌, ℕ, ◌+◌, ◌<◌, List, [], ◌∷◌, ◌++◌, length, get_or, take, sym, subst, ap, ◌∙◌}
use Rattle.std.proofs.lemmas.List.{map_more, length-map}
use Rattle.std.proofs.lemmas.List.Elements.{All-push}
use Rattle.bv_term.specs.WellFormed.{Table}
use Rattle.bv_term.specs.declared.term.TermId.{TermId}
use Rattle.c_graph.specs.Shape.{Flow, HasWidth, widths_of}
use Rattle.c_graph.specs.Runs.{Formulas, IsMapOf}
use Rattle.cert_check.specs.Answers.{AreBits, numbered, term_id}

-- one formula more
pub numbered_more : (ns : List ℕ) (k d : ℕ) (old : List TermId) → k < length ns → old ≡ numbered (take k ns) → old ++ term_id (get_or ns k d) ∷ [] ≡ numbered (take (k + 1) ns)
numbered_more ns k d old lt e = ap (λ (xs : List TermId). xs ++ term_id (get_or ns k d) ∷ []) e ∙ sym (map_more term_id ns k d lt)

pub bits_more : (table : Table) (old new : List TermId) (t : TermId) → new ≡ old ++ t ∷ [] → AreBits table old → HasWidth table t 1 → AreBits table new
bits_more table old new t e h w = subst (λ (xs : List TermId). AreBits table xs) (sym e) (All-push (λ (x : TermId). HasWidth table x 1) old t h w)

-- a table over the graph's cells and a formula of width 1 for each node are a map
pub map_fits : (g : Flow) (m : Formulas) (ns : List ℕ) → m.terms.cells ≡ widths_of g.cells → m.at ≡ numbered ns → length ns ≡ length g.nodes → AreBits m.terms m.at → IsMapOf g m
map_fits g m ns cells at nodes bits = record {
  cells = cells;
  nodes = ap length at ∙ length-map ns term_id ∙ nodes;
  formulas = bits;
}
