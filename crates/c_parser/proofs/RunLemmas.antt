-- An answer stays.
use Rattle.std.proofs.Common.{◌≡◌, List, [], ◌∷◌, refl, ap, ◌∙◌, sym, subst}
use Rattle.lv_base.specs.declared.fail.SourceFail.{SourceFail}
use Rattle.lv_base.specs.declared.fail.SourceFail.TheVariants as source
use Rattle.lv_base.specs.declared.fault.SourceFault.TheVariants as fault
use Rattle.c_lexer.specs.declared.token.Token.{Token}
use Rattle.c_tree.specs.declared.symbol.SymbolAt.{SymbolAt}
use Rattle.c_tree.specs.Symbols as sg
use Rattle.parse_machine.specs.Machine as ma
use Rattle.c_parser.specs.StateView.{StopsWith, FailsWith}

pub stays : (ts : List SymbolAt) (r : ma.Result) → ma.run ts (ma.Over r) ≡ ma.Over r
stays [] r = refl
stays (t ∷ ts) r = stays ts r

ends : (ts : List SymbolAt) (c : ma.Course) (r : ma.Result) → c ≡ ma.Over r → ma.outcome (ma.run ts c) ≡ r
ends ts c r h = ap (λ c. ma.outcome (ma.run ts c)) h ∙ ap ma.outcome (stays ts r)

-- what stops the machine is its answer
pub stops : (e : SourceFail) (ts : List SymbolAt) (c : ma.Course) → StopsWith e c → FailsWith e (ma.outcome (ma.run ts c))
stops (source.Fault fault.Syntax at) ts c h = ends ts c (ma.Syntax at) h
stops (source.Fault fault.Unsupported at) ts c h = ends ts c (ma.Unsupported at) h
stops (source.Fault _ at) ts c h = absurd h
stops (source.Over n count) ts c h = (ends ts c ma.TooHigh h.0, h.1, h.2)
stops source.Memory ts c h = tt

-- what stops it at the first of the tokens that are left is the answer to all
pub stopped : (e : SourceFail) (ts rest : List Token) (t : Token) (s : ma.State) (r : ma.Result) → ts ≡ t ∷ rest → ma.outcome (ma.run (sg.signs_of ts) (ma.Going s)) ≡ r → StopsWith e (ma.advance (sg.sign_of t) (ma.Going s)) → FailsWith e r
stopped e ts rest t s r h i a =
    let P : ma.Result → Type 0 = λ x. FailsWith e x in
    let f : List Token → ma.Result = λ x. ma.outcome (ma.run (sg.signs_of x) (ma.Going s)) in
    let p : f (t ∷ rest) ≡ r = ap f (sym h) ∙ i in
    subst P p (stops e (sg.signs_of rest) (ma.advance (sg.sign_of t) (ma.Going s)) a)
