-- What is written is true.
use Rattle.std.specs.Prelude.{ℕ, ◌<◌, ◌≡◌, ◌⊎◌, List, Some, ℤ, pos}
use Rattle.lv_base.specs.declared.kind.Kind.{Kind}
use Rattle.lv_base.specs.declared.kind.Model.{Model}
use Rattle.lv_base.specs.Integers.{InRange, residue, width_of}
use Rattle.bv_term.specs.declared.term.TermId.{TermId}
use Rattle.bv_term.specs.Numbers.{bit_of}
use Rattle.bv_term.specs.WellFormed.{Table, IsTable}
use Rattle.bv_term.specs.Values.{IsStore, Holds, value}
use Rattle.c_graph.specs.declared.graph.Cell.{Cell}
use Rattle.c_graph.specs.Shape.{HasWidth, widths_of}
use Rattle.c_tree.specs.declared.symbol.BinaryOp.TheVariants as op
use Rattle.c_tree.specs.Tree.{Ex, eParen, eBinary}
use Rattle.c_run.specs.Run.{State, Value}
use Rattle.c_run.specs.Loops.{Calls}
use Rattle.c_meaning.specs.Kinds.{tKind}
use Rattle.c_meaning.specs.Bindings.{Env}
use Rattle.c_meaning.specs.Types.{type_of}
use Rattle.c_meaning.specs.Program.{Function}
use Rattle.loop_names.specs.Spellings.{spellings_of}
use Rattle.witness_expressions.specs.declared.names.Spelling.{Spelling}
use Rattle.witness_expressions.specs.Names.{named}
use Rattle.witness_expressions.specs.Expressions.{expression_of}
use Rattle.witness_truth_laws.specs.Written.{Expression, place_of, written_of, parts_of, conjunction_text, Reads}
use Rattle.witness_truth_laws.specs.Trees.{number, tree_of, conjunction_tree}
use Rattle.witness_truth_laws.specs.Telling.{TellsOf, meant, IsTrueIn}

-- In C `((e >> k) & 1)` is bit k of the low bits of a value of a kind, k being below its width.
abbrev pub BitsAreRead : Type 0
BitsAreRead =
    (env : Env) (model : Model) (inputs : List ℤ) (functions : List Function) (call : Calls) (st : State) (at : ℕ) (e : Ex) (kind : Kind) (x : ℤ) (k : ℕ)
    → type_of env model e ≡ tKind kind → meant env model inputs functions call e st ≡ Value x st → InRange kind model x → k < width_of kind model
    → meant env model inputs functions call (eParen at (eBinary (eParen at (eBinary e op.ShiftRight at (number at k)) at) op.BitAnd at (number at 1)) at) st
    ≡ Value (pos (bit_of k (residue (width_of kind model) x))) st

-- Where the store tells the values of what stands in the cells that a term reads, what is written of it as a whole is, at the loop's keyword and at its
-- condition, worth the term's value: 1 where the term holds, else 0. Nothing is in error, and nothing changes.
abbrev pub WrittenHasValue : Type 0
WrittenHasValue =
    (env : Env) (model : Model) (inputs : List ℤ) (functions : List Function) (call : Calls) (cells : List Cell) (table : Table) (term : TermId) (keyword condition at : ℕ) (store : List ℕ) (st : State)
    → IsTable table → table.cells ≡ widths_of cells → TellsOf (Reads table.terms term) env model cells st.store store → (at ≡ keyword) ⊎ (at ≡ condition)
    → (x : Expression) → written_of (place_of (spellings_of env keyword condition) cells) table.terms term ≡ Some x
    → (value table store term < 2) × (meant env model inputs functions call (tree_of at x) st ≡ Value (pos (value table store term)) st)

-- Where a formula holds as well, the conjunction of its written parts has a value other than 0 there.
abbrev pub WrittenIsTrue : Type 0
WrittenIsTrue =
    (env : Env) (model : Model) (inputs : List ℤ) (functions : List Function) (call : Calls) (cells : List Cell) (table : Table) (formula : TermId) (keyword condition at : ℕ) (store : List ℕ) (st : State)
    → IsTable table → table.cells ≡ widths_of cells → IsStore table.cells store → HasWidth table formula 1 → Holds table store formula
    → TellsOf (Reads table.terms formula) env model cells st.store store → (at ≡ keyword) ⊎ (at ≡ condition)
    → IsTrueIn st (meant env model inputs functions call (conjunction_tree at (parts_of (place_of (spellings_of env keyword condition) cells) table.terms formula)) st)

-- The text that is written of a formula is that of the conjunction of its parts.
abbrev pub TextIsWritten : Type 0
TextIsWritten =
    (spellings : List Spelling) (cells : List Cell) (table : Table) (formula : TermId) → IsTable table
    → expression_of (named spellings cells) table.terms formula ≡ conjunction_text (parts_of (place_of spellings cells) table.terms formula)
