-- What the machine answers, in words of the grammar.
use Rattle.std.proofs.Common.{◌≡◌, ◌≢◌, ◌⊎◌, inl, inr, ℕ, List, [], ◌∷◌, ◌++◌, Option, None, Some, Bool, true, false, if◌then◌else◌, refl, sym, ap, ◌∙◌, subst}
use Rattle.std.specs.Prelude.{leb, Result, Ok, Err, IfOk, IfErr}
use Rattle.lv_base.specs.declared.fail.SourceFail.{SourceFail}
use Rattle.lv_base.specs.declared.fail.SourceFail.TheVariants as source
use Rattle.lv_base.specs.declared.fault.SourceFault.TheVariants as fault
use Rattle.c_tree.specs.declared.symbol.Symbol.TheVariants as sy
use Rattle.c_tree.specs.declared.symbol.SymbolAt.{SymbolAt}
use Rattle.c_tree.specs.Tree as tr
use Rattle.c_tree.specs.Tree.{Items}
use Rattle.c_tree.specs.Words.{is_typed}
use Rattle.c_tree.specs.declared.tree.Unit.{Unit as Unit'}
use Rattle.c_tree.specs.Symbols.{sign, signs_of}
use Rattle.c_lexer.specs.declared.token.Token.{Token}
use Rattle.c_tree.specs.Denotes.{Denotes, tree_of}
use Rattle.parse_machine.specs.Tokens.{is_unsupported, prefix_of, Awaited, awaitOpen, awaitClose, awaitSemicolon, awaitColon, awaitWhile, is_awaited}
use Rattle.parse_machine.specs.Contexts as m
use Rattle.parse_machine.specs.Declarations.{Turn, kept}
use Rattle.parse_machine.specs.Expressions as ex
use Rattle.parse_machine.specs.Heights.{is_list}
use Rattle.parse_machine.specs.Machine as ma
use Rattle.parse_machine.specs.Making as mk
use Rattle.parse_machine.specs.Specifiers as sp
use Rattle.parse_machine.specs.Statements as sm
use Rattle.parse_machine.specs.Steps as steps
use Rattle.parse_laws.proofs.SoundRun.{sound}
use Rattle.first_token_laws.specs.Laws.{IsFirstRefused}
use Rattle.first_token_laws.proofs.FirstRefused.{first_refused}
use Rattle.first_token_laws.proofs.HighFirst.{high_first}
use Rattle.first_token_laws.proofs.UniqueFile.{one_tree}
use Rattle.c_parser.specs.Reading.{IsOnly, IsEnded, IsReading, IsRefusal}
use Rattle.c_parser.specs.StateView.{FailsWith, Answers}

-- ---- a course that goes on has not stopped

no_halt : (s : ma.State) (r : ma.Result) → ma.Going s ≡ ma.Over r → ⊥
no_halt s r h = cc

run_append : (ts us : List SymbolAt) (c : ma.Course) → ma.run (ts ++ us) c ≡ ma.run us (ma.run ts c)
run_append [] us c = refl
run_append (t ∷ ts) us c = run_append ts us (ma.advance t c)

-- ---- the end of a source is the last token that the machine takes

begin_ends : (ns : List (List ℕ)) (at : ℕ) (o : m.Outer) → sm.step_begin ns sy.End at o ≡ None
begin_ends ns at o = by_list (is_list o)
  where
    by_list : (b : Bool) → kept ns (if b then sm.step_either ns sy.End at (m.forkBlock o) [] else ex.step_operand ns (prefix_of sy.End) at (m.inBase (m.baseStatement o))) ≡ None
    by_list true = refl
    by_list false = refl

words_end : (b : Bool) (at : ℕ) (s : m.Spoken) (w : m.Around) → (if b then sp.behind_words sy.End at s w else None) ≡ None
words_end false at s w = refl
words_end true at s (m.aroundCast a k) = refl
words_end true at s (m.aroundSizeof x a k) = refl
words_end true at s (m.aroundParameter d a ps c) = refl
words_end true at s (m.aroundPlace p) = refl

specs_end : (ns : List (List ℕ)) (at : ℕ) (s : m.Spoken) (w : m.Around) → kept ns (sp.step_specs ns sy.End at s w) ≡ None
specs_end ns at s w = ap (kept ns) (words_end (is_typed s.told.typing) at s w)

no_wait : (a : Awaited) → is_awaited a sy.End ≡ false
no_wait (awaitOpen b) = refl
no_wait awaitClose = refl
no_wait awaitSemicolon = refl
no_wait awaitColon = refl
no_wait awaitWhile = refl

wait_ends : (ns : List (List ℕ)) (at : ℕ) (x : m.Waiting) → kept ns (sm.step_wait ns sy.End at x) ≡ None
wait_ends ns at x = ap (λ (b : Bool). kept ns (ex.when b (sm.arrived ns at x))) (no_wait (sm.awaited x))

settled_ends : (at : ℕ) (x : sm.Settled) → sm.step_settled sy.End at x ≡ None
settled_ends at (sm.inBlock o ns) = begin_ends ns at o
settled_ends at (sm.inDo x s o ns) = wait_ends ns at (m.waitWhile x s o)

-- the end leaves nothing to come
abbrev IsEnd : Option Turn → Type 0
IsEnd None = Unit {0}
IsEnd (Some u) = u.mode ≡ m.Finished

no_turn : (u : Turn) → Some u ≡ None → ⊥
no_turn u e = cc

none_ends : (o : Option Turn) → o ≡ None → IsEnd o
none_ends None e = tt
none_ends (Some u) e = absurd (no_turn u e)

next_ends : (ns : List (List ℕ)) (at : ℕ) (md : m.Mode) → IsEnd (steps.next ns (sign sy.End at) md)
next_ends ns at m.File = refl
next_ends ns at (m.Ended i h) = tt
next_ends ns at (m.Specifiers s w) = none_ends _ (specs_end ns at s w)
next_ends ns at (m.Enumeration x s w) = tt
next_ends ns at (m.Tagged x n y s w) = none_ends _ (specs_end ns at (mk.said s s.told (tr.wTag x n y) 1) w)
next_ends ns at (m.Constant l) = tt
next_ends ns at (m.Named l n x) = tt
next_ends ns at (m.Attribute w x a r n y) = tt
next_ends ns at (m.Next d c) = tt
next_ends ns at (m.Behind d) = tt
next_ends ns at (m.Listed d) = tt
next_ends ns at (m.Parameters' d a) = none_ends _ (specs_end ns at mk.unspoken (m.aroundParameter d a (mk.tall tr.no_params 0) None))
next_ends ns at (m.Parameter d a ps c s n x) = tt
next_ends ns at (m.Skipped h a r n) = tt
next_ends ns at (m.Begin o) = none_ends _ (begin_ends ns at o)
next_ends ns at (m.Wait x) = none_ends _ (wait_ends ns at x)
next_ends ns at (m.Either f ats) = tt
next_ends ns at (m.Goto x o) = tt
next_ends ns at (m.Operand k) = tt
next_ends ns at (m.Maybe k) = tt
next_ends ns at (m.Sizeof x k) = tt
next_ends ns at (m.Value e k) = tt
next_ends ns at (m.Label n x b ats o) = none_ends _ (begin_ends ns at (m.outWrap (m.wLabel n x b ats) o))
next_ends ns at (m.Whole s o) = none_ends _ (settled_ends at (sm.settle ns o s))
next_ends ns at m.Finished = tt

abbrev IsLast : Option ma.State → Type 0
IsLast None = Unit {0}
IsLast (Some s) = (s.phase ≡ ma.Plain m.Finished) ⊎ (s.phase ≡ ma.Above)

plain_ends : (is : Items) (o : Option Turn) → IsEnd o → IsLast (ma.plain is o)
plain_ends is None e = tt
plain_ends is (Some u) e = inl (ap ma.Plain e)

settled_last : (high : Bool) (is : Items) (o : Option Turn) → IsEnd o → IsLast (ma.settled high is o)
settled_last high is None e = tt
settled_last false is (Some u) e = inl (ap ma.Plain e)
settled_last true is (Some u) e = inr refl

go_ends : (ns : List (List ℕ)) (at : ℕ) (o : Option m.Mode) → IsEnd (ma.go ns (sign sy.End at) o)
go_ends ns at None = tt
go_ends ns at (Some md) = next_ends ns at md

phase_ends : (is : Items) (ns : List (List ℕ)) (at : ℕ) (p : ma.Phase) → IsLast (ma.step_phase is ns (sign sy.End at) p)
phase_ends is ns at (ma.Plain md) = plain_ends is (steps.next ns (sign sy.End at) md) (next_ends ns at md)
phase_ends is ns at (ma.Both x o high) = settled_last high is (ma.go ns (sign sy.End at) o) (go_ends ns at o)
phase_ends is ns at (ma.Skipping x) = tt
phase_ends is ns at ma.Above = tt

state_ends : (at : ℕ) (s : ma.State) → IsLast (ma.step_state (sign sy.End at) s)
state_ends at s = phase_ends s.items s.names at s.phase

step_ends : (at : ℕ) (s : ma.State) → IsLast (ma.step (sign sy.End at) s)
step_ends at s = state_ends at (ma.filed s.items s.names s.phase)

going_same : (p q : ma.State) → ma.Going p ≡ ma.Going q → p ≡ q
going_same p q h = cc

-- where the machine goes on behind the end, all is whole
finished : (o : Option ma.State) → IsLast o → (q : ma.State) (t : SymbolAt) → ma.course t (ma.limited o) ≡ ma.Going q → ma.finish q ≡ ma.Tree q.items
finished None e q t h = absurd (no_halt q (ma.refusal t) (sym h))
finished (Some p) (inl e) q t h = by_test (leb (ma.phase_low p.phase) 200) h
  where
    by_test : (b : Bool) → ma.course t (if b then ma.Goes p else ma.High) ≡ ma.Going q → ma.finish q ≡ ma.Tree q.items
    by_test true h = subst (λ (z : ma.State). ma.finish z ≡ ma.Tree z.items) (going_same p q h) (ap (ma.finish_phase p.items) e)
    by_test false h = absurd (no_halt q ma.TooHigh (sym h))
finished (Some p) (inr e) q t h =
    let z : ma.course t (if leb 201 200 then ma.Goes p else ma.High) ≡ ma.Going q = subst (λ (y : ma.Phase). ma.course t (if leb (ma.phase_low y) 200 then ma.Goes p else ma.High) ≡ ma.Going q) e h in
    absurd (no_halt q ma.TooHigh (sym z))

end_from : (at : ℕ) (c : ma.Course) (q : ma.State) → ma.advance (sign sy.End at) c ≡ ma.Going q → ma.finish q ≡ ma.Tree q.items
end_from at (ma.Over r) q h = absurd (no_halt q r (sym h))
end_from at (ma.Going s) q h = finished (ma.step (sign sy.End at) s) (step_ends at s) q (sign sy.End at) h

ended_tree : (tokens : List SymbolAt) → IsEnded tokens → (q : ma.State) → ma.run tokens (ma.Going ma.start) ≡ ma.Going q → ma.finish q ≡ ma.Tree q.items
ended_tree tokens w q h =
    end_from w.at (ma.run w.before (ma.Going ma.start)) q (sym (run_append w.before (sign sy.End w.at ∷ []) (ma.Going ma.start)) ∙ ap (λ z. ma.run z (ma.Going ma.start)) w.are ∙ h)

-- ---- what the machine's answers say

only : (tokens : List SymbolAt) (tree : Items) → ma.parse_of tokens ≡ ma.Tree tree → IsOnly tokens tree
only tokens tree h other spelled = one_tree tokens other tree spelled (sound tokens tree h)

refusal_reading : (tokens : List SymbolAt) (t : SymbolAt) → IsFirstRefused tokens t → (b : Bool) → is_unsupported t.symbol ≡ b → IsReading tokens (if b then ma.Unsupported t.at else ma.Syntax t.at)
refusal_reading tokens t first true e = (t, first, refl, e)
refusal_reading tokens t first false e = λ ended. (t, first, refl, e)

halt_from : (tokens : List SymbolAt) (r : ma.Result) → ma.run tokens (ma.Going ma.start) ≡ ma.Over r → r ≢ ma.TooHigh → IsReading tokens r
halt_from tokens r h n =
    let w = first_refused tokens r h n in
    subst (λ (x : ma.Result). IsReading tokens x) w.2 (refusal_reading tokens w.0 w.1 (is_unsupported w.0.symbol) refl)

halt_reading : (tokens : List SymbolAt) (r : ma.Result) → ma.run tokens (ma.Going ma.start) ≡ ma.Over r → IsReading tokens r
halt_reading tokens ma.TooHigh h = high_first tokens h
halt_reading tokens (ma.Tree tree) h = halt_from tokens (ma.Tree tree) h (λ e. cc)
halt_reading tokens (ma.Syntax at) h = halt_from tokens (ma.Syntax at) h (λ e. cc)
halt_reading tokens (ma.Unsupported at) h = halt_from tokens (ma.Unsupported at) h (λ e. cc)

finish_cases : (is : Items) (p : ma.Phase) → (ma.finish_phase is p ≡ ma.Tree is) ⊎ (ma.finish_phase is p ≡ ma.Syntax 0)
finish_cases is (ma.Plain m.Finished) = inl refl
finish_cases is _ = inr refl

finish_reading : (tokens : List SymbolAt) (s : ma.State) (r : ma.Result) → ma.run tokens (ma.Going ma.start) ≡ ma.Going s → ma.finish s ≡ r → IsReading tokens r
finish_reading tokens s (ma.Tree tree) e h =
    let p : ma.parse_of tokens ≡ ma.Tree tree = ap ma.outcome e ∙ h in
    (sound tokens tree p, only tokens tree p)
finish_reading tokens s (ma.Syntax at) e h = λ ended. absurd (no_syntax (sym (ended_tree tokens ended s e) ∙ h))
  where
    no_syntax : ma.Tree s.items ≡ ma.Syntax at → ⊥
    no_syntax x = cc
finish_reading tokens s (ma.Unsupported at) e h = elim (finish_cases s.items s.phase) [
  | inl x ↦ absurd (let y : ma.Tree s.items ≡ ma.Unsupported at = sym x ∙ h in cc)
  | inr x ↦ absurd (let y : ma.Syntax 0 ≡ ma.Unsupported at = sym x ∙ h in cc)
]
finish_reading tokens s ma.TooHigh e h = elim (finish_cases s.items s.phase) [
  | inl x ↦ absurd (let y : ma.Tree s.items ≡ ma.TooHigh = sym x ∙ h in cc)
  | inr x ↦ absurd (let y : ma.Syntax 0 ≡ ma.TooHigh = sym x ∙ h in cc)
]

course_reading : (tokens : List SymbolAt) (c : ma.Course) (r : ma.Result) → ma.run tokens (ma.Going ma.start) ≡ c → ma.outcome c ≡ r → IsReading tokens r
course_reading tokens (ma.Over q) r e h = halt_reading tokens r (e ∙ ap ma.Over h)
course_reading tokens (ma.Going s) r e h = finish_reading tokens s r e h

-- Whatever the machine answers to some tokens is so.
pub reading : (tokens : List SymbolAt) (r : ma.Result) → ma.parse_of tokens ≡ r → IsReading tokens r
reading tokens r h = course_reading tokens (ma.run tokens (ma.Going ma.start)) r refl h

-- ---- the same of what the parser answers

refusal_of : (tokens : List SymbolAt) (e : SourceFail) → FailsWith e (ma.parse_of tokens) → IsRefusal tokens e
refusal_of tokens (source.Fault fault.Syntax at) h = reading tokens (ma.Syntax at) h
refusal_of tokens (source.Fault fault.Unsupported at) h = reading tokens (ma.Unsupported at) h
refusal_of tokens (source.Fault _ at) h = absurd h
refusal_of tokens (source.Over number count) h = (reading tokens ma.TooHigh h.0, h.1, h.2)
refusal_of tokens source.Memory h = tt

pub denoted : (tokens : List Token) (r : Result Unit' SourceFail) → Answers r (ma.parse_of (signs_of tokens)) → IfOk r (λ unit. Denotes tokens unit)
denoted tokens (Ok unit) h = (reading (signs_of tokens) (ma.Tree (tree_of unit)) h).0
denoted tokens (Err e) h = tt

pub alone : (tokens : List Token) (r : Result Unit' SourceFail) → Answers r (ma.parse_of (signs_of tokens)) → IfOk r (λ unit. IsOnly (signs_of tokens) (tree_of unit))
alone tokens (Ok unit) h = (reading (signs_of tokens) (ma.Tree (tree_of unit)) h).1
alone tokens (Err e) h = tt

pub refusal : (tokens : List Token) (r : Result Unit' SourceFail) → Answers r (ma.parse_of (signs_of tokens)) → IfErr r (λ fail. IsRefusal (signs_of tokens) fail)
refusal tokens (Ok unit) h = tt
refusal tokens (Err e) h = refusal_of (signs_of tokens) e h
