-- Literals under assignments that agree on their variables, and the beginning of a step.
use Rattle.std.proofs.Common.{◌≡◌, ℕ, ◌+◌, ◌*◌, ◌<◌, Bool, true, not, cond, List, [], ◌∷◌, length, refl, ap, ◌∙◌, arith, slice_index}
use Rattle.std.proofs.lemmas.Bool.{false≢true}
use Rattle.prop.specs.declared.Lit.{Lit}
use Rattle.prop.specs.Logic.{lit_value, LitsBelow}
use Rattle.bit_gates.specs.Net.{Agree, bit, number}
use Rattle.bv_term.specs.WellFormed.{Table, widths}
use Rattle.bit_blast.specs.Done.{Known, is_done, lits_of}
use Rattle.bit_blast.specs.Held.{Held, IsOver}
use Rattle.blast_laws.specs.Calls.{CellsBelow, IsStart, spelled_store}

-- literals spell the same under assignments that agree on their variables

pub lit_agrees : (v w : ℕ → Bool) (n : ℕ) (l : Lit) → l.var < n → Agree n v w → lit_value w l ≡ lit_value v l
lit_agrees v w n l lt a = ap (λ (b : Bool). cond l.positive b (not b)) (a l.var lt)

pub number_agrees : (v w : ℕ → Bool) (n : ℕ) (ls : List Lit) → LitsBelow n ls → Agree n v w → number w ls ≡ number v ls
number_agrees v w n [] b a = refl
number_agrees v w n (l ∷ ls) b a =
    ap (λ (x : Bool). bit x + 2 * number w ls) (lit_agrees v w n l b.0 a) ∙ ap (λ (k : ℕ). bit (lit_value v l) + 2 * k) (number_agrees v w n ls b.1 a)

pub store_agrees : (v w : ℕ → Bool) (n : ℕ) (cells : List (List Lit)) → CellsBelow n cells → Agree n v w → spelled_store w cells ≡ spelled_store v cells
store_agrees v w n [] b a = refl
store_agrees v w n (c ∷ cs) b a =
    ap (λ (k : ℕ). k ∷ spelled_store w cs) (number_agrees v w n c b.0 a) ∙ ap (λ (s : List ℕ). number v c ∷ s) (store_agrees v w n cs b.1 a)

-- the beginning of a step is over each table of its cells
pub start_over : (table : Table) (h : Held) → IsStart table.cells h → IsOver table h
start_over table h s = record { cells = s.widths; done = none h.done s.done }
  where
    none : (ds : List Known) → ds ≡ [] → (k : ℕ) → is_done ds k ≡ true → (k < length table.terms) × (length (lits_of ds k) ≡ slice_index (widths table) k)
    none [] e k d = absurd (false≢true d)
    none (x ∷ ds) e k d = absurd cc

pub single : (ls : List Lit) → length ls ≡ 1 → (l : Lit) × (ls ≡ l ∷ [])
single [] e = absurd (omega (arith, e))
single (l ∷ []) e = (l, refl)
single (l ∷ k ∷ ls) e = absurd (omega (arith, e))
