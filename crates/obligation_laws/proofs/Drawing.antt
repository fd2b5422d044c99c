-- What operations draw, under an assignment.
use Rattle.std.proofs.Common.{◌≡◌, ℕ, ℤ, ◌+◌, ◌<◌, ◌==◌, Bool, true, false, List, [], ◌∷◌, ◌++◌, length, map, refl, sym, ap, ◌∙◌, zero, suc, arith, slice_index, slice_set, if◌then◌else◌, Some, None}
use Rattle.prop.specs.declared.Lit.{Lit}
use Rattle.bit_gates.specs.Net.{Agree, number}
use Rattle.bit_words.proofs.WordPuts.{map-length}
use Rattle.bv_term.specs.WellFormed.{Table}
use Rattle.bv_term.specs.Values.{value}
use Rattle.bit_blast.specs.Held.{Held, fresh_lits, placed}
use Rattle.c_graph.specs.declared.graph.Operation.{Operation}
use Rattle.c_graph.specs.declared.graph.Operation.TheVariants.{Assume, Set, SetAt, Draw}
use Rattle.c_graph.specs.Shape.{OperationFits}
use Rattle.c_graph.specs.Steps.{Moment, moment, modulo, in_range_of, operated, stored_at}
use Rattle.path_query.specs.declared.query.Bundle.{Bundle}
use Rattle.path_formula.specs.Added.{added}
use Rattle.obligation_laws.specs.Draws.{AreDrawn, BundlesBelow}
use Rattle.blast_laws.proofs.Spelling.{number_agrees}
use Rattle.obligation_laws.proofs.Going.{Reach, cell_wide, fresh_low}

pub draws_low : (table : Table) (o : Operation) (h : Held) → BundlesBelow (added table h o).held.next (added table h o).draws
draws_low table (Assume t) h = tt
draws_low table (Set c t) h = tt
draws_low table (SetAt first n i t) h = tt
draws_low table (Draw c signed) h = (fresh_low h.next (slice_index table.cells c) (h.next + slice_index table.cells c) (omega arith), tt)

pub drawn_agrees : (ws : List ℕ) (n : ℕ) (v w : ℕ → Bool) (bs : List Bundle) (zs : List ℤ) → BundlesBelow n bs → Agree n v w → AreDrawn ws v bs zs → AreDrawn ws w bs zs
drawn_agrees ws n v w [] [] l a d = tt
drawn_agrees ws n v w [] (z ∷ zs) l a d = absurd d
drawn_agrees ws n v w (b ∷ bs) [] l a d = absurd d
drawn_agrees ws n v w (b ∷ bs) (z ∷ zs) l a d = (number_agrees v w n b.bits l.0 a ∙ d.0, drawn_agrees ws n v w bs zs l.1 a d.1)

pub drawn_both : (ws : List ℕ) (v : ℕ → Bool) (bs cs : List Bundle) (ys zs : List ℤ) → AreDrawn ws v bs ys → AreDrawn ws v cs zs → AreDrawn ws v (bs ++ cs) (ys ++ zs)
drawn_both ws v [] cs [] zs d e = e
drawn_both ws v [] cs (y ∷ ys) zs d e = absurd d
drawn_both ws v (b ∷ bs) cs [] zs d e = absurd d
drawn_both ws v (b ∷ bs) cs (y ∷ ys) zs d e = (d.0, drawn_both ws v bs cs ys zs d.1 e)

-- an operation draws some of the values that are to be drawn, and leaves the others
pub record Drew (table : Table) (o : Operation) (h : Held) (u : ℕ → Bool) (inputs rest : List ℤ) : Type 0 where
  pub used : List ℤ
  pub split : inputs ≡ used ++ rest
  pub drawn : AreDrawn table.cells u (added table h o).draws used

moment_is : (a b : Moment) → Some a ≡ Some b → a ≡ b
moment_is a b e = cc

spelled_there : (u : ℕ → Bool) (cells : List (List Lit)) (c : ℕ) (to : List Lit) → c < length cells → slice_index (map (number u) (placed cells c to)) c ≡ number u to
spelled_there u [] c to lt = absurd (omega (arith, lt))
spelled_there u (x ∷ cells) zero to lt = refl
spelled_there u (x ∷ cells) (suc c) to lt = spelled_there u cells c to (omega (arith, lt))

set_there : (s : List ℕ) (c x : ℕ) → c < length s → slice_index (slice_set s c x) c ≡ x
set_there [] c x lt = absurd (omega (arith, lt))
set_there (a ∷ s) zero x lt = refl
set_there (a ∷ s) (suc c) x lt = set_there s c x (omega (arith, lt))

pub drew : (table : Table) (o : Operation) (h : Held) (v u : ℕ → Bool) (s : List ℕ) (inputs : List ℤ) (m : Moment) → OperationFits table o → Reach table h v s
    → operated table o (moment s inputs) ≡ Some m → Reach table (added table h o).held u m.store → Drew table o h u inputs m.inputs
drew table (Assume t) h v u s inputs m f r e q = by (value table s t == 1) e
  where
    by : (b : Bool) → (if b then Some (moment s inputs) else None) ≡ Some m → Drew table (Assume t) h u inputs m.inputs
    by true e = record { used = []; split = ap (λ (x : Moment). x.inputs) (moment_is (moment s inputs) m e); drawn = tt }
    by false e = absurd cc
drew table (Set c t) h v u s inputs m f r e q =
    record { used = []; split = ap (λ (x : Moment). x.inputs) (moment_is (moment (slice_set s c (value table s t)) inputs) m e); drawn = tt }
drew table (SetAt first n i t) h v u s inputs m f r e q = record {
  used = [];
  split = ap (λ (x : Moment). x.inputs) (moment_is (moment (stored_at s first n (value table s i) (value table s t)) inputs) m e);
  drawn = tt;
}
drew table (Draw c signed) h v u s [] m f r e q = absurd cc
drew table (Draw c signed) h v u s (z ∷ zs) m f r e q = by (in_range_of (slice_index table.cells c) signed z) e
  where
    by : (b : Bool) → (if b then Some (moment (slice_set s c (modulo (slice_index table.cells c) z)) zs) else None) ≡ Some m → Drew table (Draw c signed) h u (z ∷ zs) m.inputs
    by true e =
        let x = modulo (slice_index table.cells c) z in
        let ls = fresh_lits h.next (slice_index table.cells c) in
        let i = moment_is (moment (slice_set s c x) zs) m e in
        let there = (cell_wide h.cells table.cells c r.keeps.widths f.0).0 in
        let many : length (map (number v) h.cells) ≡ length s = ap length r.says.store in
        let lt : c < length s = omega (arith, there, many, map-length (number v) h.cells) in
        record {
          used = z ∷ [];
          split = ap (λ (y : Moment). z ∷ y.inputs) i;
          drawn = (
            sym (spelled_there u h.cells c ls there)
                ∙ (ap (λ (st : List ℕ). slice_index st c) q.says.store ∙ (ap (λ (y : Moment). slice_index y.store c) (sym i) ∙ set_there s c x lt)),
            tt,
          );
        }
    by false e = absurd cc
