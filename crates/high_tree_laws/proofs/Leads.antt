-- The modes that the machine goes through, with no limit on the height, and the greatest height among them.
use Rattle.std.proofs.Common.{◌≡◌, ℕ, ◌≤◌, max, List, [], ◌∷◌, Option, None, Some, subst, sym, ap, ◌∙◌, arith, le_refl}
use Rattle.c_tree.specs.declared.symbol.SymbolAt.{SymbolAt}
use Rattle.parse_machine.specs.Contexts.{Mode}
use Rattle.parse_machine.specs.Heights.{low}
use Rattle.parse_machine.specs.Declarations.{Turn, turn}
use Rattle.parse_machine.specs.Steps as steps

abbrev pub move : SymbolAt → Option Turn → Option Turn
move t None = None
move t (Some u) = steps.next u.names t u.mode

abbrev pub walk : List SymbolAt → Option Turn → Option Turn
walk [] o = o
walk (t ∷ ts) o = walk ts (move t o)

abbrev pub low_of : Option Turn → ℕ
low_of None = 0
low_of (Some u) = low u.mode

-- the greatest height that the machine finds behind one of these tokens
abbrev pub peak : List SymbolAt → Option Turn → ℕ
peak [] o = 0
peak (t ∷ ts) o = max (low_of (move t o)) (peak ts (move t o))

abbrev pub stand : Mode → List (List ℕ) → Option Turn
stand m ns = Some (turn m ns)

-- From one place to a later one, with a height that is found on the way.
pub record Leads (ts : List SymbolAt) (o : Option Turn) (rest : List SymbolAt) (p : Option Turn) (h : ℕ) : Type 0 where
  pub goes : walk ts o ≡ walk rest p
  pub high : max h (peak rest p) ≤ peak ts o

infixr 30 ◌then◌
pub ◌then◌ : {a c d : List SymbolAt} {o p q : Option Turn} {h g : ℕ} → Leads a o c p h → Leads c p d q g → Leads a o d q (max h g)
◌then◌ x y = record { goes = x.goes ∙ y.goes; high = omega (arith, x.high, y.high) }

-- nothing is read
pub stays : (ts : List SymbolAt) (o p : Option Turn) → o ≡ p → Leads ts o ts p 0
stays ts o p e = record { goes = ap (walk ts) e; high = subst (λ z. max 0 (peak ts z) ≤ peak ts o) e (omega arith) }

-- one token
pub go : (t : SymbolAt) (ts : List SymbolAt) (m n : Mode) (ns ms : List (List ℕ)) → steps.next ns t m ≡ stand n ms → Leads (t ∷ ts) (stand m ns) ts (stand n ms) (low n)
go t ts m n ns ms e = record { goes = ap (walk ts) e; high = subst (λ z. max (low n) (peak ts (stand n ms)) ≤ max (low_of z) (peak ts z)) (sym e) (le_refl _) }

-- one token that does the same in two places
pub same : (t : SymbolAt) (ts : List SymbolAt) (o p : Option Turn) → move t o ≡ move t p → Leads (t ∷ ts) o (t ∷ ts) p 0
same t ts o p e = record { goes = ap (walk ts) e; high = subst (λ z. max 0 (max (low_of z) (peak ts z)) ≤ peak (t ∷ ts) o) e (omega arith) }

-- less is found too
pub atleast : {a c : List SymbolAt} {o p : Option Turn} {h : ℕ} (g : ℕ) → g ≤ h → Leads a o c p h → Leads a o c p g
atleast g l x = record { goes = x.goes; high = omega (arith, l, x.high) }
