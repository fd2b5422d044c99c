-- The machine that keeps each tree goes through the words and the parameters of each shaped declaration.
use Rattle.first_token_laws.proofs.Full as full
use Rattle.std.proofs.Common.{◌≡◌, ℕ, List, ◌∷◌, Option, None, Some, Bool, true, false, if◌then◌else◌, refl, sym, ap, ◌∙◌}
use Rattle.c_tree.specs.declared.symbol.Bracket.TheVariants as br
use Rattle.c_tree.specs.declared.symbol.TypeWord.TheVariants as type
use Rattle.c_tree.specs.declared.symbol.Symbol.TheVariants as sy
use Rattle.c_tree.specs.declared.symbol.SymbolAt.{SymbolAt}
use Rattle.c_tree.specs.declared.known.Site.{Site}
use Rattle.c_tree.specs.declared.known.Site.TheVariants as site
use Rattle.c_tree.specs.declared.known.Known.{Known}
use Rattle.c_tree.specs.Symbols.{sign}
use Rattle.c_tree.specs.Spelling.{opening, closing, spell_words, spell_word, spell_option_name, spell_params, spell_parameters}
use Rattle.c_tree.specs.Shape as sh
use Rattle.c_tree.specs.Words.{known, is_typed, nothing_known}
use Rattle.c_tree.specs.Tree.{attribute, Words, no_words, words_and, Word, wType, wStorage, wConst, wExtension, wAttribute, wTypedef, wTag, wEnum, wTagEnum, Name, named, Params, no_params, params_and, Parameters, pUnknown, pVoid, pSome, fFunction}
use Rattle.parse_machine.specs.Tokens.{spTypedef, spOther}
use Rattle.parse_machine.specs.Contexts.{Spoken, Declared, Around, aroundParameter, waitVoid, Mode, Specifiers, Behind, Parameters', Parameter, Wait}
use Rattle.parse_machine.specs.Making as mk
use Rattle.parse_machine.specs.Declarations as decl
use Rattle.parse_machine.specs.Declarations.{kept}
use Rattle.parse_machine.specs.Specifiers as sp
use Rattle.parse_laws.proofs.Walk.{if_true, when_true}
use Rattle.parse_laws.proofs.ReadEx.{NoOpen, some_same, known_before}
use Rattle.parse_laws.proofs.WholeEx.{word_no_open}
use Rattle.first_token_laws.proofs.FullLeads.{whole_params, whole_form}
use Rattle.first_token_laws.proofs.FullLeads.{Leads, stand, ◌then◌, stays, go, same}
use Rattle.first_token_laws.proofs.FullReadEx.{worded}
use Rattle.first_token_laws.proofs.FullWholeEx.{reads_word}

-- Words.

pub words_read : (ws : Words) (w : Around) (ns : List (List ℕ)) (k : Known) → known (sp.site_of w) ws ≡ Some k → sh.ShapedWords ns ws → (rest : List SymbolAt) → NoOpen rest → Leads (spell_words ws rest) (stand (Specifiers mk.unspoken w) ns) rest (stand (Specifiers (worded ws k) w) ns)
words_read no_words w ns k e s rest n = stays rest (stand (Specifiers mk.unspoken w) ns) (stand (Specifiers (worded no_words k) w) ns) (ap (λ q. stand (Specifiers (mk.spoken no_words q 0) w) ns) (some_same nothing_known k e))
words_read (words_and ws x) w ns k e s rest n =
    let z = known_before (sp.site_of w) x (known (sp.site_of w) ws) k e in
    (words_read ws w ns z.told z.was s.0 (spell_word x rest) (word_no_open x rest)
    then reads_word x (worded ws z.told) w ns k z.gives s.1 rest n)

-- Parameters.

abbrev parameter_around : Declared → ℕ → Params → Option ℕ → Around
parameter_around d a ps c = aroundParameter d a (whole_params ps) c

abbrev pub told_of : Option Known → Known
told_of None = nothing_known
told_of (Some k) = k

abbrev pub bare : Words → Spoken
bare ws = worded ws (told_of (known site.Bare ws))

told_is : (o : Option Known) (k : Known) → o ≡ Some k → told_of o ≡ k
told_is o k h = ap told_of h

-- behind the last parameter
abbrev behind_param : Declared → ℕ → Params → Mode
behind_param d a no_params = Parameters' d a
behind_param d a (params_and ps c ws None) = Specifiers (bare ws) (parameter_around d a ps c)
behind_param d a (params_and ps c ws (Some (named n at))) = Parameter d a (whole_params ps) c (bare ws) n at

first_type : (ns : List (List ℕ)) (d : Declared) (a : ℕ) (x : Word) (z : Known) (rest : List SymbolAt) → known site.Bare (words_and no_words x) ≡ Some z → Leads (spell_word x rest) (stand (Parameters' d a) ns) (spell_word x rest) (stand (Specifiers mk.unspoken (parameter_around d a no_params None)) ns)
first_type ns d a (wType type.Void at) z rest e = cc
first_type ns d a (wType type.Bool at) z rest e = same _ _ _ _ refl
first_type ns d a (wType type.Char at) z rest e = same _ _ _ _ refl
first_type ns d a (wType type.Short at) z rest e = same _ _ _ _ refl
first_type ns d a (wType type.Int at) z rest e = same _ _ _ _ refl
first_type ns d a (wType type.Long at) z rest e = same _ _ _ _ refl
first_type ns d a (wType type.Signed at) z rest e = same _ _ _ _ refl
first_type ns d a (wType type.SignedAlternate at) z rest e = same _ _ _ _ refl
first_type ns d a (wType type.Unsigned at) z rest e = same _ _ _ _ refl
first_type ns d a (wStorage x at) z rest e = same _ _ _ _ refl
first_type ns d a (wConst x at) z rest e = same _ _ _ _ refl
first_type ns d a (wExtension at) z rest e = same _ _ _ _ refl
first_type ns d a (wTypedef n at) z rest e = same _ _ _ _ refl
first_type ns d a (wAttribute (attribute w at x r y)) z rest e = same _ _ _ _ refl
first_type ns d a (wTag at n x) z rest e = same _ _ _ _ refl
first_type ns d a (wEnum at x es c y) z rest e = same _ _ _ _ refl
first_type ns d a (wTagEnum at n x y es c q) z rest e = same _ _ _ _ refl

abbrev are_words : Words → Bool
are_words no_words = false
are_words (words_and ws x) = true

first_any : (ns : List (List ℕ)) (d : Declared) (a : ℕ) (ws : Words) (k : Known) (rest : List SymbolAt) → known site.Bare ws ≡ Some k → are_words ws ≡ true → Leads (spell_words ws rest) (stand (Parameters' d a) ns) (spell_words ws rest) (stand (Specifiers mk.unspoken (parameter_around d a no_params None)) ns)
first_any ns d a no_words k rest e t = cc
first_any ns d a (words_and no_words x) k rest e t = first_type ns d a x k rest e
first_any ns d a (words_and (words_and ws y) x) k rest e t =
    let z = known_before site.Bare x (known site.Bare (words_and ws y)) k e in first_more ns d a ws y z.told (spell_word x rest) z.was
  where
    first_more : (ns : List (List ℕ)) (d : Declared) (a : ℕ) (ws : Words) (y : Word) (k : Known) (rest : List SymbolAt) → known site.Bare (words_and ws y) ≡ Some k → Leads (spell_words ws (spell_word y rest)) (stand (Parameters' d a) ns) (spell_words ws (spell_word y rest)) (stand (Specifiers mk.unspoken (parameter_around d a no_params None)) ns)
    first_more ns d a no_words y k rest e = first_type ns d a y k rest e
    first_more ns d a (words_and ws x) y k rest e = let z = known_before site.Bare y (known site.Bare (words_and ws x)) k e in first_more ns d a ws x z.told (spell_word y rest) z.was

-- the first word of the first parameter
first_param : (ns : List (List ℕ)) (d : Declared) (a : ℕ) (ws : Words) (k : Known) (rest : List SymbolAt) → known site.Bare ws ≡ Some k → is_typed k.typing ≡ true → Leads (spell_words ws rest) (stand (Parameters' d a) ns) (spell_words ws rest) (stand (Specifiers mk.unspoken (parameter_around d a no_params None)) ns)
first_param ns d a no_words k rest e t = let n : nothing_known ≡ k = some_same nothing_known k e in let r : false ≡ true = ap (λ z. is_typed z.typing) n ∙ t in cc
first_param ns d a (words_and ws x) k rest e t = first_any ns d a (words_and ws x) k rest e refl

-- no `{` behind a parameter's words
name_no_open : (n : Option Name) (rest : List SymbolAt) → NoOpen rest → NoOpen (spell_option_name n rest)
name_no_open None rest h = h
name_no_open (Some (named n at)) rest h = refl

param_end : (ns : List (List ℕ)) (d : Declared) (a : ℕ) (ps : Params) (c : Option ℕ) (ws : Words) (n : Option Name) (rest : List SymbolAt) → is_typed (told_of (known site.Bare ws)).typing ≡ true → sh.ShapedOptionName ns n → Leads (spell_option_name n rest) (stand (Specifiers (bare ws) (parameter_around d a ps c)) ns) rest (stand (behind_param d a (params_and ps c ws n)) ns)
param_end ns d a ps c ws None rest t s = stays rest _ _ refl
param_end ns d a ps c ws (Some (named n at)) rest t s =
    (go (sign (sy.Name n) at) rest (Specifiers (bare ws) (parameter_around d a ps c)) (Parameter d a (whole_params ps) c (bare ws) n at) ns ns
    (ap (λ q. kept ns (full.step_kind (if q then spTypedef n else spOther) (sy.Name n) at (bare ws) (parameter_around d a ps c))) s
    ∙ ap (kept ns) (if_true (is_typed (told_of (known site.Bare ws)).typing) (full.behind_words (sy.Name n) at (bare ws) (parameter_around d a ps c)) None t)))

-- behind a parameter
param_comma : (ns : List (List ℕ)) (d : Declared) (a : ℕ) (ps : Params) (c : Option ℕ) (ws : Words) (n : Option Name) (at : ℕ) (rest : List SymbolAt) → is_typed (told_of (known site.Bare ws)).typing ≡ true → Leads (sign sy.Comma at ∷ rest) (stand (behind_param d a (params_and ps c ws n)) ns) rest (stand (Specifiers mk.unspoken (parameter_around d a (params_and ps c ws n) (Some at))) ns)
param_comma ns d a ps c ws None at rest t =
    (go (sign sy.Comma at) rest (Specifiers (bare ws) (parameter_around d a ps c)) (Specifiers mk.unspoken (parameter_around d a (params_and ps c ws None) (Some at))) ns ns
    (ap (kept ns) (if_true (is_typed (told_of (known site.Bare ws)).typing) (full.behind_words sy.Comma at (bare ws) (parameter_around d a ps c)) None t)))
param_comma ns d a ps c ws (Some (named n x)) at rest t =
    (go (sign sy.Comma at) rest (Parameter d a (whole_params ps) c (bare ws) n x) (Specifiers mk.unspoken (parameter_around d a (params_and ps c ws (Some (named n x))) (Some at))) ns ns refl)

param_close : (ns : List (List ℕ)) (d : Declared) (a : ℕ) (ps : Params) (c : Option ℕ) (ws : Words) (n : Option Name) (at : ℕ) (rest : List SymbolAt) → is_typed (told_of (known site.Bare ws)).typing ≡ true → Leads (closing br.Round at ∷ rest) (stand (behind_param d a (params_and ps c ws n)) ns) rest (stand (Behind (mk.with_form d (whole_form (fFunction (pSome a (params_and ps c ws n) at))))) ns)
param_close ns d a ps c ws None at rest t =
    go (closing br.Round at) rest (Specifiers (bare ws) (parameter_around d a ps c)) (Behind (mk.with_form d (whole_form (fFunction (pSome a (params_and ps c ws None) at))))) ns ns
    (ap (kept ns) (if_true (is_typed (told_of (known site.Bare ws)).typing) (full.behind_words (sy.Close br.Round) at (bare ws) (parameter_around d a ps c)) None t))
param_close ns d a ps c ws (Some (named n x)) at rest t =
    go (closing br.Round at) rest (Parameter d a (whole_params ps) c (bare ws) n x) (Behind (mk.with_form d (whole_form (fFunction (pSome a (params_and ps c ws (Some (named n x))) at))))) ns ns refl

typed_told : (s : Site) (ws : Words) (f : sh.AreSpecs s ws) → is_typed (told_of (known s ws)).typing ≡ true
typed_told s ws f = ap (λ k. is_typed k.typing) (told_is (known s ws) f.told f.together) ∙ f.typed

params_comma : (ps : Params) (ns : List (List ℕ)) (d : Declared) (a : ℕ) (at : ℕ) → sh.IsComma (sh.are_no_params ps) (Some at) → sh.ShapedParams ns ps → (rest : List SymbolAt) → Leads (sign sy.Comma at ∷ rest) (stand (behind_param d a ps) ns) rest (stand (Specifiers mk.unspoken (parameter_around d a ps (Some at))) ns)
params_comma no_params ns d a at c s rest = absurd c
params_comma (params_and ps x ws n) ns d a at c s rest = param_comma ns d a ps x ws n at rest (typed_told site.Bare ws s.1)

-- the words and the name of a parameter
param_read : (ns : List (List ℕ)) (d : Declared) (a : ℕ) (ps : Params) (c : Option ℕ) (ws : Words) (x : Option Name) (f : sh.AreSpecs site.Bare ws) → sh.ShapedWords ns ws → sh.ShapedOptionName ns x → (rest : List SymbolAt) → NoOpen rest → Leads (spell_words ws (spell_option_name x rest)) (stand (Specifiers mk.unspoken (parameter_around d a ps c)) ns) rest (stand (behind_param d a (params_and ps c ws x)) ns)
param_read ns d a ps c ws x f s t rest n =
    let w = parameter_around d a ps c in
    (words_read ws w ns f.told f.together s (spell_option_name x rest) (name_no_open x rest n)
    then stays (spell_option_name x rest) (stand (Specifiers (worded ws f.told) w) ns) (stand (Specifiers (bare ws) w) ns) (ap (λ k. stand (Specifiers (worded ws k) w) ns) (sym (told_is (known site.Bare ws) f.told f.together)))
    then param_end ns d a ps c ws x rest (typed_told site.Bare ws f) t)

params_read : (ps : Params) (ns : List (List ℕ)) (d : Declared) (a : ℕ) → sh.ShapedParams ns ps → (rest : List SymbolAt) → NoOpen rest → Leads (spell_params ps rest) (stand (Parameters' d a) ns) rest (stand (behind_param d a ps) ns)
params_read no_params ns d a s rest n = stays rest _ _ refl
params_read (params_and no_params None ws x) ns d a s rest n =
    first_param ns d a ws s.1.told (spell_option_name x rest) s.1.together s.1.typed
    then param_read ns d a no_params None ws x s.1 s.2 s.3 rest n
params_read (params_and no_params (Some at) ws x) ns d a s rest n = absurd s.0
params_read (params_and (params_and ps c vs y) None ws x) ns d a s rest n = absurd s.0
params_read (params_and ps (Some at) ws x) ns d a s rest n =
    params_read ps ns d a s.4 (sign sy.Comma at ∷ spell_words ws (spell_option_name x rest)) refl
    then params_comma ps ns d a at s.0 s.4 (spell_words ws (spell_option_name x rest))
    then param_read ns d a ps (Some at) ws x s.1 s.2 s.3 rest n

pub parameters_read : (ps : Parameters) (ns : List (List ℕ)) (d : Declared) → sh.ShapedParameters ns ps → decl.may_be_function d ≡ true → (rest : List SymbolAt) → Leads (spell_parameters ps rest) (stand (Behind d) ns) rest (stand (Behind (mk.with_form d (whole_form (fFunction ps)))) ns)
parameters_read (pUnknown a c) ns d s m rest =
    (go (opening br.Round a) (closing br.Round c ∷ rest) (Behind d) (Parameters' d a) ns ns (ap (kept ns) (when_true (decl.may_be_function d) (Parameters' d a) m))
    then go (closing br.Round c) rest (Parameters' d a) (Behind (mk.with_form d (whole_form (fFunction (pUnknown a c))))) ns ns refl)
parameters_read (pVoid a at c) ns d s m rest =
    (go (opening br.Round a) (sign (sy.Type type.Void) at ∷ closing br.Round c ∷ rest) (Behind d) (Parameters' d a) ns ns (ap (kept ns) (when_true (decl.may_be_function d) (Parameters' d a) m))
    then go (sign (sy.Type type.Void) at) (closing br.Round c ∷ rest) (Parameters' d a) (Wait (waitVoid d a at)) ns ns refl
    then go (closing br.Round c) rest (Wait (waitVoid d a at)) (Behind (mk.with_form d (whole_form (fFunction (pVoid a at c))))) ns ns refl)
parameters_read (pSome a no_params c) ns d s m rest = cc
parameters_read (pSome a (params_and ps x ws y) c) ns d s m rest =
    (go (opening br.Round a) (spell_params (params_and ps x ws y) (closing br.Round c ∷ rest)) (Behind d) (Parameters' d a) ns ns (ap (kept ns) (when_true (decl.may_be_function d) (Parameters' d a) m))
    then params_read (params_and ps x ws y) ns d a s.1 (closing br.Round c ∷ rest) refl
    then param_close ns d a ps x ws y c rest (typed_told site.Bare ws s.1.1))
