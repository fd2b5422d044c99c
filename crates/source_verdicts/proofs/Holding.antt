-- What is said of the map by which a verdict comes.
use Rattle.std.proofs.Common.{◌≡◌, refl, sym, subst, ℕ, List}
use Rattle.lv_base.specs.declared.kind.Model.{Model}
use Rattle.c_typed.specs.Tree.{Program}
use Rattle.c_graph.specs.Shape.{Flow}
use Rattle.c_graph.specs.Runs.{Formulas}
use Rattle.stored_text.specs.declared.StoredFail.{StoredFail}
use Rattle.stored_text.specs.declared.StoredFail.TheVariants as stored
use Rattle.verdicts.specs.declared.verdict.Verdict.{Verdict}
use Rattle.verdicts.specs.declared.verdict.Verdict.TheVariants.{Safe, Unsafe, OutOfUnits, OutOfLearn, Accepted, Rejected, Faulty, Over, ReadFault, NoMemory}
use Rattle.source_verdicts.specs.declared.found.Found.TheVariants.{OfMap, Nothing}
use Rattle.source_verdicts.specs.Verified.{IsByMap, IsFound, unwritten_for}

pub found_map : (p : Program) (g : Flow) (source : List ℕ) (model : Model) (m : Formulas) (v : Verdict) → IsByMap g source model m v → IsFound p g source model v (OfMap m)
found_map p g source model m (Safe text) h = (m, refl, h)
found_map p g source model m (Unsafe kind place values text) h = absurd h
found_map p g source model m (OutOfUnits n) h = tt
found_map p g source model m (OutOfLearn n) h = tt
found_map p g source model m (Over number count) h = tt
found_map p g source model m NoMemory h = tt
found_map p g source model m Accepted h = tt
found_map p g source model m (Rejected rejection) h = tt
found_map p g source model m (Faulty fault place) h = tt
found_map p g source model m ReadFault h = tt

module _ (g : Flow) (source : List ℕ) (model : Model) (m : Formulas) where
  unwritten_map : (e : StoredFail) → IsByMap g source model m (unwritten_for e)
  unwritten_map (stored.Over number count) = tt
  unwritten_map (stored.Format at) = tt
  unwritten_map stored.Memory = tt

  -- where the text of a certificate is not written
  pub no_text_map : (e : StoredFail) (v : Verdict) → v ≡ unwritten_for e → IsByMap g source model m v
  no_text_map e v said = subst (IsByMap g source model m) (sym said) (unwritten_map e)

module _ (p : Program) (g : Flow) (source : List ℕ) (model : Model) where
  unwritten_found : (e : StoredFail) → IsFound p g source model (unwritten_for e) Nothing
  unwritten_found (stored.Over number count) = tt
  unwritten_found (stored.Format at) = tt
  unwritten_found stored.Memory = tt

  -- where the text of a run is not written
  pub no_text_found : (e : StoredFail) (v : Verdict) → v ≡ unwritten_for e → IsFound p g source model v Nothing
  no_text_found e v said = subst (λ (x : Verdict). IsFound p g source model x Nothing) (sym said) (unwritten_found e)
