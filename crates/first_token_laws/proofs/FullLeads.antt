-- The modes that the machine goes through which keeps each tree, and what it holds of a tree.
use Rattle.std.proofs.Common.{◌≡◌, ℕ, List, [], ◌∷◌, Option, None, Some, ap, ◌∙◌}
use Rattle.c_tree.specs.declared.symbol.SymbolAt.{SymbolAt}
use Rattle.c_tree.specs.Spelling.{level_of}
use Rattle.c_tree.specs.Tree.{Ex, Parts, Ens, Params, Form, Decs}
use Rattle.parse_machine.specs.Contexts.{Mode, Tall, Part}
use Rattle.parse_machine.specs.Declarations.{Turn, turn}
use Rattle.parse_machine.specs.Making.{tall}
use Rattle.high_tree_laws.proofs.Kept.{counted, counted_parts, counted_constants, counted_params, counted_form, counted_declarators}
use Rattle.first_token_laws.proofs.Full as full

abbrev pub move : SymbolAt → Option Turn → Option Turn
move t None = None
move t (Some u) = full.next u.names t u.mode

abbrev pub walk : List SymbolAt → Option Turn → Option Turn
walk [] o = o
walk (t ∷ ts) o = walk ts (move t o)

abbrev pub stand : Mode → List (List ℕ) → Option Turn
stand m ns = Some (turn m ns)

-- from one place to a later one
pub record Leads (ts : List SymbolAt) (o : Option Turn) (rest : List SymbolAt) (p : Option Turn) : Type 0 where
  pub goes : walk ts o ≡ walk rest p

infixr 30 ◌then◌
pub ◌then◌ : {a c d : List SymbolAt} {o p q : Option Turn} → Leads a o c p → Leads c p d q → Leads a o d q
◌then◌ x y = record { goes = x.goes ∙ y.goes }

-- nothing is read
pub stays : (ts : List SymbolAt) (o p : Option Turn) → o ≡ p → Leads ts o ts p
stays ts o p e = record { goes = ap (walk ts) e }

-- one token
pub go : (t : SymbolAt) (ts : List SymbolAt) (m n : Mode) (ns ms : List (List ℕ)) → full.next ns t m ≡ stand n ms → Leads (t ∷ ts) (stand m ns) ts (stand n ms)
go t ts m n ns ms e = record { goes = ap (walk ts) e }

-- one token that does the same in two places
pub same : (t : SymbolAt) (ts : List SymbolAt) (o p : Option Turn) → move t o ≡ move t p → Leads (t ∷ ts) o (t ∷ ts) p
same t ts o p e = record { goes = ap (walk ts) e }

-- A tree with its height.

abbrev pub whole : Ex → Part
whole e = record { value = e; level = level_of e; height = counted e }

abbrev pub whole_parts : Parts → Tall Parts
whole_parts es = tall es (counted_parts es)

abbrev pub whole_constants : Ens → Tall Ens
whole_constants es = tall es (counted_constants es)

abbrev pub whole_params : Params → Tall Params
whole_params ps = tall ps (counted_params ps)

abbrev pub whole_form : Form → Tall Form
whole_form f = tall f (counted_form f)

abbrev pub whole_declarators : Decs → Tall Decs
whole_declarators ds = tall ds (counted_declarators ds)
