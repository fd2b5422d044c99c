-- What is read from an edge's node on.
use Rattle.std.specs.Prelude.{ℕ, ◌<◌, ◌≡◌, ◌/◌, ◌==◌, ◌||◌, Bool, true, false, List, [], ◌∷◌, take, Option, Some, slice_get}
use Rattle.bv_term.specs.declared.term.TermId.{TermId}
use Rattle.c_graph.specs.declared.graph.Operation.{Operation}
use Rattle.c_graph.specs.declared.graph.Operation.TheVariants.{Assume, Set, SetAt, Draw}
use Rattle.c_graph.specs.declared.graph.Edge.{Edge}
use Rattle.plan_tables.specs.Tables.{UnitTable, bit_in, is_live_in, unit_at}
use Rattle.block_rule.specs.Plans.{Plan, matters}
use Rattle.block_rule.specs.Blocked.{Flows}
use Rattle.walk_states.specs.declared.known.Known.{Known}
use Rattle.walk_states.specs.Known.{plan_of}

-- the operation sets exactly this cell
abbrev pub sets : Operation → ℕ → Bool
sets (Assume t) c = false
sets (Set d t) c = c == d
sets (SetAt first n i t) c = false
sets (Draw d signed) c = c == d

abbrev pub some_sets : List Operation → ℕ → Bool
some_sets [] c = false
some_sets (op ∷ ops) c = sets op c || some_sets ops c

-- the operation reads this cell
abbrev pub is_read_by : Plan → Operation → ℕ → Bool
is_read_by plan (Assume t) c = plan.reads t.0 c
is_read_by plan (Set d t) c = plan.reads t.0 c
is_read_by plan (SetAt first n i t) c = plan.reads i.0 c || plan.reads t.0 c
is_read_by plan (Draw d signed) c = false

-- the cell is read from the node on, or one of these operations sets it
abbrev pub IsSafe : Plan → ℕ → List Operation → ℕ → Type 0
IsSafe plan v before c = (plan.live v c || some_sets before c) ≡ true

-- so is each cell that the operation reads
abbrev pub ReadsFlow : Plan → ℕ → List Operation → Operation → Type 0
ReadsFlow plan v before op = (c : ℕ) → is_read_by plan op c ≡ true → IsSafe plan v before c

-- and each that one of these operations reads, those before it being the ones that set
abbrev pub AllReadsFlow : Plan → ℕ → List Operation → Type 0
AllReadsFlow plan v ops = (k : ℕ) (op : Operation) → slice_get ops k ≡ Some op → ReadsFlow plan v (take k ops) op

-- and each that is read from another node on
abbrev pub StaysLive : Plan → ℕ → List Operation → ℕ → Type 0
StaysLive plan from ops to = (c : ℕ) → plan.live to c ≡ true → IsSafe plan from ops c

-- each edge to a node that matters has what it needs
abbrev pub AllFlow : Plan → List Edge → Type 0
AllFlow plan edges = (k : ℕ) (e : Edge) → slice_get edges k ≡ Some e → matters plan e.to.0 ≡ true → Flows plan e

-- The same by units. An operation sets each cell of a unit, so does one of several
abbrev pub KillsBy : UnitTable → Operation → ℕ → Type 0
KillsBy units op unit = (c : ℕ) → unit_at units c ≡ Some unit → sets op c ≡ true

abbrev pub Kills : UnitTable → List Operation → ℕ → Type 0
Kills units ops unit = (c : ℕ) → unit_at units c ≡ Some unit → some_sets ops c ≡ true

-- each cell of the unit is read from the node on, or set
abbrev pub IsCovered : Known → ℕ → List Operation → ℕ → Type 0
IsCovered known v ops unit = (c : ℕ) → unit_at known.units c ≡ Some unit → IsSafe (plan_of known) v ops c

abbrev pub AllCovered : Known → ℕ → List Operation → List ℕ → Type 0
AllCovered known v ops units = (k u : ℕ) → slice_get units k ≡ Some u → IsCovered known v ops u

abbrev pub TermFlows : Plan → ℕ → List Operation → TermId → Type 0
TermFlows plan v before t = (c : ℕ) → plan.reads t.0 c ≡ true → IsSafe plan v before c

-- a unit that is read from the one node on is covered at the other
abbrev pub IsKept : Known → ℕ → List Operation → ℕ → ℕ → Type 0
IsKept known from ops to unit = is_live_in known.live to unit ≡ true → IsCovered known from ops unit

abbrev pub IsKeptBelow : Known → ℕ → List Operation → ℕ → ℕ → Type 0
IsKeptBelow known from ops to count = (u : ℕ) → u < count → IsKept known from ops to u

-- so is each unit of a word
abbrev pub IsWordKept : Known → ℕ → List Operation → ℕ → ℕ → Type 0
IsWordKept known from ops to number = (u : ℕ) → u / 64 ≡ number → IsKept known from ops to u

-- each bit of the other word is one of the word
abbrev pub HasBits : Option ℕ → Option ℕ → Type 0
HasBits word other = (bit : ℕ) → bit_in other bit ≡ true → bit_in word bit ≡ true
