-- A term of width 1 that is blasted at the beginning of a step.
use Rattle.std.proofs.Common.{◌≡◌, ℕ, ◌+◌, ◌*◌, ◌<◌, Bool, true, not, cond, List, [], ◌∷◌, ◌++◌, length, refl, sym, ap, ◌∙◌, subst, arith, Some, slice_index, ◌↔◌, inl}
use Rattle.std.proofs.lemmas.Bool.{false≢true}
use Rattle.std.proofs.lemmas.List.{append-nil}
use Rattle.prop.specs.declared.Lit.{Lit}
use Rattle.prop.specs.Logic.{all_hold, lit_value, LitsBelow}
use Rattle.bit_gates.specs.Net.{Agree, bit, net_clauses, number}
use Rattle.bv_term.specs.declared.term.TermId.{TermId}
use Rattle.bv_term.specs.WellFormed.{Table, IsTable, widths}
use Rattle.bv_term.specs.Values.{Holds, IsStore}
use Rattle.c_graph.specs.Shape.{HasWidth}
use Rattle.bit_blast.specs.Done.{Known, is_done, lits_of}
use Rattle.bit_blast.specs.Held.{Held, begun, blast_of, IsOver}
use Rattle.bit_blast.proofs.Cones.{blast-over}
use Rattle.blast_laws.specs.Calls.{Blast, CellsBelow, IsStart, spelled_store}
use Rattle.blast_laws.specs.Laws.{IsExact}
use Rattle.blast_laws.proofs.Runs.{calls_exact, truths_read}
use Rattle.blast_laws.proofs.Spelling.{single, start_over}

-- what a term of width 1 adds has one literal, which is true exactly where the term holds in the store that the cells spell
pub record Blasted (table : Table) (t : TermId) (h : Held) : Type 0 where
  pub lit : Lit
  pub outs : (blast_of table t.0 h).outs ≡ lit ∷ []
  pub extends : (v : ℕ → Bool) → (w : ℕ → Bool) × Agree h.next v w × (all_hold w (net_clauses h.next (blast_of table t.0 h).defs) ≡ true)
  pub reads : (v : ℕ → Bool) → IsStore table.cells (spelled_store v h.cells) × (length (spelled_store v h.cells) ≡ length table.cells)
  pub told : (v : ℕ → Bool) → all_hold v (net_clauses h.next (blast_of table t.0 h).defs) ≡ true → (lit_value v lit ≡ true) ↔ (Holds table (spelled_store v h.cells) t)

pub blasted : (table : Table) (t : TermId) (h : Held) → IsTable table → IsStart table.cells h → HasWidth table t 1 → Blasted table t h
blasted table t h is start wide =
    let e : IsExact table.cells h (Blast table.terms t.0 ∷ []) = calls_exact table.cells h (Blast table.terms t.0 ∷ []) start ((is, (table.terms, refl), wide.0), tt) in
    let o = begun h.next h.one in
    let m = blast_of table t.0 h in
    let over = blast-over table o.lit h.cells (h.next + length o.defs) h.next h.one (Some o.lit) h.done m.held.done t.0 is (start_over table h start) wide.0 refl m.held.next in
    let long : length m.outs ≡ 1 = (over.0.done t.0 over.1).1 ∙ wide.1 in
    let one = single m.outs long in
    let whole : net_clauses h.next m.defs ++ [] ≡ net_clauses h.next m.defs = append-nil (net_clauses h.next m.defs) in
    record {
      lit = one.0;
      outs = one.1;
      extends = λ v. let x = e.extends v in (x.0, (λ k lt. x.1 k (inl lt)), subst (λ (cs : List (List Lit)). all_hold x.0 cs ≡ true) whole x.2);
      reads = e.reads;
      told = λ v held.
          let told = e.told v (subst (λ (cs : List (List Lit)). all_hold v cs ≡ true) (sym whole) held) in
          truths_read v table (spelled_store v h.cells) t one.0 (ap (number v) (sym one.1) ∙ told.1);
    }
