-- What folding keeps.
use Rattle.std.specs.Prelude.{ℕ, ◌≡◌, ◌≤◌, ◌<◌, Bool, true, []}
use Rattle.prop.specs.declared.Lit.{Lit}
use Rattle.prop.specs.Logic.{lit_value, count}
use Rattle.bit_gates.specs.Net.{net_clauses, Meets, Grounded, Agree}
use Rattle.bit_gates.specs.Products.{Made}
use Rattle.bit_words.specs.Folding.{folded, renamed, folded_made}

-- where the folded definitions are met, some assignment that agrees on the variables below n meets the first ones, and
-- gives each literal the value of the literal that stands for it
abbrev pub FoldingTold : Type 0
FoldingTold =
    (v : ℕ → Bool) (one : Lit) (n : ℕ) (m : Made) → lit_value v one ≡ true → Grounded n m.defs
    → Meets v n (folded_made one n m).defs
    → (w : ℕ → Bool) × Agree n v w × Meets w n m.defs
    × ((l : Lit) → lit_value v (renamed n (folded one n n [] m.defs).subs l) ≡ lit_value w l)

-- folded definitions speak of earlier variables alone
abbrev pub FoldingGrounded : Type 0
FoldingGrounded =
    (one : Lit) (n : ℕ) (m : Made) → one.var < n → Grounded n m.defs → Grounded n (folded_made one n m).defs

-- folding adds no clause's literal
abbrev pub FoldingSmall : Type 0
FoldingSmall =
    (one : Lit) (n : ℕ) (m : Made)
    → count (net_clauses n (folded_made one n m).defs) ≤ count (net_clauses n m.defs)
