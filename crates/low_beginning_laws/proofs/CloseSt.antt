-- How the machine ends behind a statement: with all that is open around it.
use Rattle.std.proofs.Common.{◌≡◌, ℕ, ◌+◌, ◌≤◌, List, Option, None, Some, true, false, refl, ◌∙◌, arith}
use Rattle.std.specs.Prelude.{take}
use Rattle.c_tree.specs.declared.symbol.Bracket.TheVariants as br
use Rattle.c_tree.specs.declared.symbol.StatementWord.TheVariants as key
use Rattle.c_tree.specs.declared.symbol.StorageWord.TheVariants as storage
use Rattle.c_tree.specs.declared.symbol.Symbol.{Symbol}
use Rattle.c_tree.specs.declared.symbol.Symbol.TheVariants as sy
use Rattle.c_tree.specs.declared.symbol.SymbolAt.{SymbolAt}
use Rattle.c_tree.specs.Symbols.{sign}
use Rattle.c_tree.specs.Tree.{Ats, Ex, Head, head, ForStart, for_head, St, sBlock, sEmpty, sDo, statements_and, bBlock, Items}
use Rattle.parse_machine.specs.Tokens.{is_else}
use Rattle.parse_machine.specs.Contexts.{Wrap, wFor, wLabel, Outer, outBody, outBlock, outDo, outWrap, baseDo, baseMore, baseStep, Inner, inBase, waitDo, waitDone, Ended, Begin, Wait, Operand, Maybe, Value, Label, Whole}
use Rattle.parse_machine.specs.Making.{part, wrapped}
use Rattle.parse_machine.specs.Heights.{depth, high, low, begin_high}
use Rattle.parse_machine.specs.Declarations.{Turn, turn}
use Rattle.parse_machine.specs.Machine as ma
use Rattle.parse_machine.specs.Statements as stt
use Rattle.parse_machine.specs.Steps as steps
use Rattle.first_token_laws.proofs.Fillers.{one}
use Rattle.low_beginning_laws.proofs.Close.{Closes, on, ended_closes}

-- tokens that end something
abbrev pub round_open : SymbolAt
round_open = sign (sy.Open br.Round) 0

abbrev pub round_close : SymbolAt
round_close = sign (sy.Close br.Round) 0

abbrev pub curly_close : SymbolAt
curly_close = sign (sy.Close br.Curly) 0

abbrev pub semicolon : SymbolAt
semicolon = sign sy.Semicolon 0

-- the number 1
abbrev pub one_sign : SymbolAt
one_sign = sign (sy.Number 1 (record { decimal = true; unsigned_suffix = false; longs = 0 })) 0

-- where an operand is to come
pub operand_on : (is : Items) (names : List (List ℕ)) (k : Inner) → high k 1 ≤ 200 → Closes is names (Value (part 15 1 one) k) → Closes is names (Operand k)
operand_on is names k l c = on is names names (Operand k) (Value (part 15 1 one) k) one_sign refl refl refl l c

-- A statement is whole, and no `else` comes.

pub record WholeLeads (is : Items) (names : List (List ℕ)) (s : St) (o : Outer) : Type 0 where
  pub token : SymbolAt
  pub no_else : is_else token.symbol ≡ false
  pub turned : Turn
  pub goes : steps.next names token (Whole s o) ≡ Some turned
  pub within : low turned.mode ≤ 200
  pub closes : Closes is turned.names turned.mode

whole_unopened : (t : Symbol) (at : ℕ) (s : St) (o : Outer) → ma.opens t at (Whole s o) ≡ None
whole_unopened (sy.Storage storage.Extern) at s o = refl
whole_unopened _ at s o = refl

by_lead : (is : Items) (names : List (List ℕ)) (s : St) (o : Outer) → WholeLeads is names s o → Closes is names (Whole s o)
by_lead is names s o w = on is names w.turned.names (Whole s o) w.turned.mode w.token refl (whole_unopened w.token.symbol w.token.at s o) w.goes w.within w.closes

-- what ends with this statement is whole with it
wrap_same : (names : List (List ℕ)) (t : SymbolAt) (s : St) (w : Wrap) (o : Outer) → is_else t.symbol ≡ false → steps.next names t (Whole s (outWrap w o)) ≡ steps.next (stt.left w names) t (Whole (wrapped w s) o)
wrap_same names t s w o h = rw h refl

-- behind `do`, a statement and its condition
pub done_closes : (is : Items) (names : List (List ℕ)) (x : ℕ) (s : St) (h : Head) (o : Outer) → 1 + depth o ≤ 200 → Closes is names (Whole (sDo x s h 0) o) → Closes is names (Wait (waitDone x s h o))
done_closes is names x s h o l c = on is names names (Wait (waitDone x s h o)) (Whole (sDo x s h 0) o) semicolon refl refl refl l c

-- behind `do`, a statement and `while`
pub do_closes : (is : Items) (names : List (List ℕ)) (x : ℕ) (s : St) (y : ℕ) (o : Outer) → 2 + depth o ≤ 200 → Closes is names (Whole (sDo x s (head y 0 one 0) 0) o) → Closes is names (Wait (waitDo x s y o))
do_closes is names x s y o l c =
    let k = inBase (baseDo x s y 0 o) in
    let h = head y 0 one 0 in
    on is names names (Wait (waitDo x s y o)) (Operand k) round_open refl refl refl (omega (arith, l))
    (operand_on is names k (omega (arith, l)) (on is names names (Value (part 15 1 one) k) (Wait (waitDone x s h o)) round_close refl refl refl (omega (arith, l)) (done_closes is names x s h o (omega (arith, l)) c)))

outer_leads : (is : Items) (names : List (List ℕ)) (s : St) (o : Outer) → 1 + depth o ≤ 200 → WholeLeads is names s o
outer_leads is names s (outBody m h a ss) l =
    let i = stt.function_item h (bBlock a (statements_and ss s) 0) in
    record { token = curly_close; no_else = refl; turned = turn (Ended i 0) (take m names); goes = refl; within = omega arith; closes = ended_closes is (take m names) i 0 }
outer_leads is names s (outBlock m a ss o) l =
    let b = sBlock a (statements_and ss s) 0 in
    let k = take m names in
    record { token = curly_close; no_else = refl; turned = turn (Whole b o) k; goes = refl; within = omega (arith, l); closes = by_lead is k b o (outer_leads is k b o (omega (arith, l))) }
outer_leads is names s (outDo x o) l =
    let d = sDo x s (head 0 0 one 0) 0 in
    record {
      token = sign (sy.Statement key.While) 0;
      no_else = refl;
      turned = turn (Wait (waitDo x s 0 o)) names;
      goes = refl;
      within = omega (arith, l);
      closes = do_closes is names x s 0 o (omega (arith, l)) (by_lead is names d o (outer_leads is names d o (omega (arith, l))));
    }
outer_leads is names s (outWrap w o) l =
    let z = outer_leads is (stt.left w names) (wrapped w s) o (omega (arith, l)) in
    record { token = z.token; no_else = z.no_else; turned = z.turned; goes = wrap_same names z.token s w o z.no_else ∙ z.goes; within = z.within; closes = z.closes }

pub whole_closes : (is : Items) (names : List (List ℕ)) (s : St) (o : Outer) → 1 + depth o ≤ 200 → Closes is names (Whole s o)
whole_closes is names s o l = by_lead is names s o (outer_leads is names s o l)

-- where a statement is to come
pub statement_closes : (is : Items) (names : List (List ℕ)) (o : Outer) → 1 + depth o ≤ 200 → Closes is names (Begin o)
statement_closes is names o l = on is names names (Begin o) (Whole (sEmpty 0) o) semicolon refl refl refl l (whole_closes is names (sEmpty 0) o l)

-- where a statement is to come, or the end of a block
pub begin_closes : (is : Items) (names : List (List ℕ)) (o : Outer) → begin_high o ≤ 200 → Closes is names (Begin o)
begin_closes is names (outBody m h a ss) l =
    let i = stt.function_item h (bBlock a ss 0) in
    on is names (take m names) (Begin (outBody m h a ss)) (Ended i 0) curly_close refl refl refl (omega arith) (ended_closes is (take m names) i 0)
begin_closes is names (outBlock m a ss o) l =
    on is names (take m names) (Begin (outBlock m a ss o)) (Whole (sBlock a ss 0) o) curly_close refl refl refl (omega (arith, l)) (whole_closes is (take m names) (sBlock a ss 0) o (omega (arith, l)))
begin_closes is names (outDo x o) l = statement_closes is names (outDo x o) (omega (arith, l))
begin_closes is names (outWrap w o) l = statement_closes is names (outWrap w o) (omega (arith, l))

-- behind a label
pub label_closes : (is : Items) (names : List (List ℕ)) (n : List ℕ) (x y : ℕ) (ats : Ats) (o : Outer) → 2 + depth o ≤ 200 → Closes is names (Label n x y ats o)
label_closes is names n x y ats o l =
    on is names names (Label n x y ats o) (Whole (sEmpty 0) (outWrap (wLabel n x y ats) o)) semicolon refl refl refl (omega (arith, l)) (whole_closes is names (sEmpty 0) (outWrap (wLabel n x y ats) o) (omega (arith, l)))

-- behind the condition of a `for`, and behind how it begins
pub step_closes : (is : Items) (names : List (List ℕ)) (m x a : ℕ) (st : ForStart) (p : Option Ex) (y : ℕ) (o : Outer) → 2 + depth o ≤ 200 → Closes is names (Maybe (inBase (baseStep m x a st p y o)))
step_closes is names m x a st p y o l =
    let w = outWrap (wFor m (for_head x a st p y None 0)) o in
    on is names names (Maybe (inBase (baseStep m x a st p y o))) (Begin w) round_close refl refl refl (omega (arith, l)) (begin_closes is names w (omega (arith, l)))

pub more_closes : (is : Items) (names : List (List ℕ)) (m x a : ℕ) (st : ForStart) (o : Outer) → 2 + depth o ≤ 200 → Closes is names (Maybe (inBase (baseMore m x a st o)))
more_closes is names m x a st o l =
    on is names names (Maybe (inBase (baseMore m x a st o))) (Maybe (inBase (baseStep m x a st None 0 o))) semicolon refl refl refl (omega (arith, l)) (step_closes is names m x a st None 0 o l)
