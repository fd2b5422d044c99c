-- The machine goes through the parameters, the declared names and the initial values of each shaped declaration.
use Rattle.std.proofs.Common.{◌≡◌, ℕ, suc, ◌≤◌, max, List, ◌∷◌, Option, None, Some, Bool, true, false, if◌then◌else◌, refl, sym, ap, ◌∙◌, arith, le_trans}
use Rattle.c_tree.specs.declared.symbol.Bracket.TheVariants as br
use Rattle.c_tree.specs.declared.symbol.TypeWord.TheVariants as type
use Rattle.c_tree.specs.declared.symbol.Symbol.TheVariants as sy
use Rattle.c_tree.specs.declared.symbol.SymbolAt.{SymbolAt}
use Rattle.c_tree.specs.declared.known.Site.{Site}
use Rattle.c_tree.specs.declared.known.Site.TheVariants as site
use Rattle.c_tree.specs.declared.known.Known.{Known}
use Rattle.c_tree.specs.Symbols.{sign}
use Rattle.c_tree.specs.Spelling.{opening, closing, spell_words, spell_word, spell_option_name, spell_params, spell_parameters}
use Rattle.c_tree.specs.Shape as sh
use Rattle.c_tree.specs.Words.{known, is_typed, nothing_known}
use Rattle.c_tree.specs.Tree.{attribute, Words, no_words, words_and, Word, wType, wStorage, wConst, wExtension, wAttribute, wTypedef, wTag, wEnum, wTagEnum, Name, named, Params, no_params, params_and, Parameters, pUnknown, pVoid, pSome, fFunction}
use Rattle.parse_machine.specs.Tokens.{spTypedef, spOther}
use Rattle.parse_machine.specs.Contexts.{Spoken, Declared, Around, aroundParameter, waitVoid, Mode, Specifiers, Behind, Parameters', Parameter, Wait}
use Rattle.parse_machine.specs.Making as mk
use Rattle.parse_machine.specs.Making.{above, tall, part, bound, bind_level}
use Rattle.parse_machine.specs.Heights as ht
use Rattle.parse_machine.specs.Heights.{least, high, around_high, low, depth, is_list}
use Rattle.parse_laws.proofs.Parts.{parameters_ge}
use Rattle.c_tree.specs.Height as hg
use Rattle.c_tree.specs.Height.{height, height_parts, height_words}
use Rattle.parse_machine.specs.Declarations as decl
use Rattle.parse_machine.specs.Declarations.{Turn, turn, kept}
use Rattle.parse_machine.specs.Specifiers as sp
use Rattle.parse_laws.proofs.Walk.{walk, stand, if_true, go, when_true, above_is, around_mono, parameters_mono}
use Rattle.c_tree.specs.Height.{height_word, height_enumerators}
use Rattle.parse_laws.proofs.ReadEx.{NoOpen, worded, some_same, known_before}
use Rattle.parse_laws.proofs.WholeEx.{word_no_open, reads_word}

-- Words.

pub words_read : (ws : Words) (w : Around) (ns : List (List ℕ)) (k : Known) → known (sp.site_of w) ws ≡ Some k → sh.ShapedWords ns ws → around_high w (height_words ws) ≤ 200 → (rest : List SymbolAt) → NoOpen rest → walk (spell_words ws rest) (stand (Specifiers mk.unspoken w) ns) ≡ walk rest (stand (Specifiers (worded ws k) w) ns)
words_read no_words w ns k e s h rest n = ap (λ q. walk rest (stand (Specifiers (mk.spoken no_words q 0) w) ns)) (some_same nothing_known k e)
words_read (words_and ws x) w ns k e s h rest n =
    let z = known_before (sp.site_of w) x (known (sp.site_of w) ws) k e in
    words_read ws w ns z.told z.was s.0 (le_trans (around_mono w (height_words ws) (max (height_words ws) (height_word x)) (omega arith)) h) (spell_word x rest) (word_no_open x rest)
    ∙ reads_word x (worded ws z.told) w ns k z.gives s.1 h rest n

-- Parameters.

abbrev parameter_around : Declared → ℕ → Params → Option ℕ → Around
parameter_around d a ps c = aroundParameter d a (tall ps (hg.height_params ps)) c

abbrev pub told_of : Option Known → Known
told_of None = nothing_known
told_of (Some k) = k

abbrev pub bare : Words → Spoken
bare ws = worded ws (told_of (known site.Bare ws))

told_is : (o : Option Known) (k : Known) → o ≡ Some k → told_of o ≡ k
told_is o k h = ap told_of h

-- behind the last parameter
abbrev behind_param : Declared → ℕ → Params → Mode
behind_param d a no_params = Parameters' d a
behind_param d a (params_and ps c ws None) = Specifiers (bare ws) (parameter_around d a ps c)
behind_param d a (params_and ps c ws (Some (named n at))) = Parameter d a (tall ps (hg.height_params ps)) c (bare ws) n at

first_type : (ns : List (List ℕ)) (d : Declared) (a : ℕ) (x : Word) (z : Known) (rest : List SymbolAt) → known site.Bare (words_and no_words x) ≡ Some z → walk (spell_word x rest) (stand (Parameters' d a) ns) ≡ walk (spell_word x rest) (stand (Specifiers mk.unspoken (parameter_around d a no_params None)) ns)
first_type ns d a (wType type.Void at) z rest e = cc
first_type ns d a (wType type.Bool at) z rest e = refl
first_type ns d a (wType type.Char at) z rest e = refl
first_type ns d a (wType type.Short at) z rest e = refl
first_type ns d a (wType type.Int at) z rest e = refl
first_type ns d a (wType type.Long at) z rest e = refl
first_type ns d a (wType type.Signed at) z rest e = refl
first_type ns d a (wType type.SignedAlternate at) z rest e = refl
first_type ns d a (wType type.Unsigned at) z rest e = refl
first_type ns d a (wStorage x at) z rest e = refl
first_type ns d a (wConst x at) z rest e = refl
first_type ns d a (wExtension at) z rest e = refl
first_type ns d a (wTypedef n at) z rest e = refl
first_type ns d a (wAttribute (attribute w at x r y)) z rest e = refl
first_type ns d a (wTag at n x) z rest e = refl
first_type ns d a (wEnum at x es c y) z rest e = refl
first_type ns d a (wTagEnum at n x y es c q) z rest e = refl

abbrev are_words : Words → Bool
are_words no_words = false
are_words (words_and ws x) = true

first_any : (ns : List (List ℕ)) (d : Declared) (a : ℕ) (ws : Words) (k : Known) (rest : List SymbolAt) → known site.Bare ws ≡ Some k → are_words ws ≡ true → walk (spell_words ws rest) (stand (Parameters' d a) ns) ≡ walk (spell_words ws rest) (stand (Specifiers mk.unspoken (parameter_around d a no_params None)) ns)
first_any ns d a no_words k rest e t = cc
first_any ns d a (words_and no_words x) k rest e t = first_type ns d a x k rest e
first_any ns d a (words_and (words_and ws y) x) k rest e t =
    let z = known_before site.Bare x (known site.Bare (words_and ws y)) k e in first_more ns d a ws y z.told (spell_word x rest) z.was
  where
    first_more : (ns : List (List ℕ)) (d : Declared) (a : ℕ) (ws : Words) (y : Word) (k : Known) (rest : List SymbolAt) → known site.Bare (words_and ws y) ≡ Some k → walk (spell_words ws (spell_word y rest)) (stand (Parameters' d a) ns) ≡ walk (spell_words ws (spell_word y rest)) (stand (Specifiers mk.unspoken (parameter_around d a no_params None)) ns)
    first_more ns d a no_words y k rest e = first_type ns d a y k rest e
    first_more ns d a (words_and ws x) y k rest e = let z = known_before site.Bare y (known site.Bare (words_and ws x)) k e in first_more ns d a ws x z.told (spell_word y rest) z.was

-- the first word of the first parameter
first_param : (ns : List (List ℕ)) (d : Declared) (a : ℕ) (ws : Words) (k : Known) (rest : List SymbolAt) → known site.Bare ws ≡ Some k → is_typed k.typing ≡ true → walk (spell_words ws rest) (stand (Parameters' d a) ns) ≡ walk (spell_words ws rest) (stand (Specifiers mk.unspoken (parameter_around d a no_params None)) ns)
first_param ns d a no_words k rest e t = let n : nothing_known ≡ k = some_same nothing_known k e in let r : false ≡ true = ap (λ z. is_typed z.typing) n ∙ t in cc
first_param ns d a (words_and no_words x) k rest e t = first_type ns d a x k rest e
first_param ns d a (words_and (words_and ws y) x) k rest e t =
    let z = known_before site.Bare x (known site.Bare (words_and ws y)) k e in first_any ns d a (words_and ws y) z.told (spell_word x rest) z.was refl

-- how high parameters are
params_low : (d : Declared) (ps : Params) (c : Option ℕ) (h g : ℕ) → hg.height_params ps ≤ g → suc h ≤ g → ht.parameters_high d.around (suc g) ≤ 200 → around_high (aroundParameter d 0 (tall ps (hg.height_params ps)) c) h ≤ 200
params_low d ps c h g i j l =
    let u : suc g ≤ 200 = omega (arith, parameters_ge d.around (suc g), l) in
    let v = above_is h (omega (arith, j, u)) in
    le_trans (parameters_mono d.around (above (max (hg.height_params ps) (above h))) (suc g) (omega (arith, i, j, v, above_is (max (hg.height_params ps) (above h)) (omega (arith, i, j, v, u))))) l

-- no `{` behind a parameter's words
name_no_open : (n : Option Name) (rest : List SymbolAt) → NoOpen rest → NoOpen (spell_option_name n rest)
name_no_open None rest h = h
name_no_open (Some (named n at)) rest h = refl

param_end : (ns : List (List ℕ)) (d : Declared) (a : ℕ) (ps : Params) (c : Option ℕ) (ws : Words) (n : Option Name) (rest : List SymbolAt) → is_typed (told_of (known site.Bare ws)).typing ≡ true → sh.ShapedOptionName ns n → (g : ℕ) → hg.height_params ps ≤ g → suc (height_words ws) ≤ g → ht.parameters_high d.around (suc g) ≤ 200 → walk (spell_option_name n rest) (stand (Specifiers (bare ws) (parameter_around d a ps c)) ns) ≡ walk rest (stand (behind_param d a (params_and ps c ws n)) ns)
param_end ns d a ps c ws None rest t s g i j l = refl
param_end ns d a ps c ws (Some (named n at)) rest t s g i j l =
    go (sign (sy.Name n) at) rest (Specifiers (bare ws) (parameter_around d a ps c)) (Parameter d a (tall ps (hg.height_params ps)) c (bare ws) n at) ns ns
    (ap (λ q. kept ns (sp.step_kind (if q then spTypedef n else spOther) (sy.Name n) at (bare ws) (parameter_around d a ps c))) s
    ∙ ap (kept ns) (if_true (is_typed (told_of (known site.Bare ws)).typing) (sp.behind_words (sy.Name n) at (bare ws) (parameter_around d a ps c)) None t))
    (params_low d ps c (height_words ws) g i j l)

more_same : (ps : Params) (c : Option ℕ) (ws : Words) (n : Option Name) → height_words ws ≤ 200 → mk.param_more (tall ps (hg.height_params ps)) c (bare ws) n ≡ tall (params_and ps c ws n) (hg.height_params (params_and ps c ws n))
more_same ps c ws n h = ap (λ z. tall (params_and ps c ws n) (max (hg.height_params ps) z)) (above_is (height_words ws) h)

-- behind a parameter
param_comma : (ns : List (List ℕ)) (d : Declared) (a : ℕ) (ps : Params) (c : Option ℕ) (ws : Words) (n : Option Name) (at : ℕ) (rest : List SymbolAt) → is_typed (told_of (known site.Bare ws)).typing ≡ true → (g : ℕ) → 1 ≤ g → hg.height_params (params_and ps c ws n) ≤ g → ht.parameters_high d.around (suc g) ≤ 200 → walk (sign sy.Comma at ∷ rest) (stand (behind_param d a (params_and ps c ws n)) ns) ≡ walk rest (stand (Specifiers mk.unspoken (parameter_around d a (params_and ps c ws n) (Some at))) ns)
param_comma ns d a ps c ws None at rest t g o i l =
    let u : suc g ≤ 200 = omega (arith, parameters_ge d.around (suc g), l) in
    go (sign sy.Comma at) rest (Specifiers (bare ws) (parameter_around d a ps c)) (Specifiers mk.unspoken (parameter_around d a (params_and ps c ws None) (Some at))) ns ns
    (ap (kept ns) (if_true (is_typed (told_of (known site.Bare ws)).typing) (sp.behind_words sy.Comma at (bare ws) (parameter_around d a ps c)) None t)
    ∙ ap (λ z. stand (sp.parameters_more d a z at) ns) (more_same ps c ws None (omega (arith, i, u))))
    (params_low d (params_and ps c ws None) (Some at) 0 g i o l)
param_comma ns d a ps c ws (Some (named n x)) at rest t g o i l =
    let u : suc g ≤ 200 = omega (arith, parameters_ge d.around (suc g), l) in
    go (sign sy.Comma at) rest (Parameter d a (tall ps (hg.height_params ps)) c (bare ws) n x) (Specifiers mk.unspoken (parameter_around d a (params_and ps c ws (Some (named n x))) (Some at))) ns ns
    (ap (λ z. stand (sp.parameters_more d a z at) ns) (more_same ps c ws (Some (named n x)) (omega (arith, i, u))))
    (params_low d (params_and ps c ws (Some (named n x))) (Some at) 0 g i o l)

param_close : (ns : List (List ℕ)) (d : Declared) (a : ℕ) (ps : Params) (c : Option ℕ) (ws : Words) (n : Option Name) (at : ℕ) (rest : List SymbolAt) → is_typed (told_of (known site.Bare ws)).typing ≡ true → hg.height_params (params_and ps c ws n) ≤ 200 → low (Behind (mk.with_form d (tall (fFunction (pSome a (params_and ps c ws n) at)) (suc (hg.height_params (params_and ps c ws n)))))) ≤ 200 → walk (closing br.Round at ∷ rest) (stand (behind_param d a (params_and ps c ws n)) ns) ≡ walk rest (stand (Behind (mk.with_form d (tall (fFunction (pSome a (params_and ps c ws n) at)) (suc (hg.height_params (params_and ps c ws n)))))) ns)
param_close ns d a ps c ws None at rest t i l =
    go (closing br.Round at) rest (Specifiers (bare ws) (parameter_around d a ps c)) _ ns ns
    (ap (kept ns) (if_true (is_typed (told_of (known site.Bare ws)).typing) (sp.behind_words (sy.Close br.Round) at (bare ws) (parameter_around d a ps c)) None t)
    ∙ ap (λ z. stand (sp.parameters_end d a z at) ns) (more_same ps c ws None (omega (arith, i)))
    ∙ ap (λ z. stand (Behind (mk.with_form d (tall (fFunction (pSome a (params_and ps c ws None) at)) z))) ns) (above_is _ i)) l
param_close ns d a ps c ws (Some (named n x)) at rest t i l =
    go (closing br.Round at) rest (Parameter d a (tall ps (hg.height_params ps)) c (bare ws) n x) _ ns ns
    (ap (λ z. stand (sp.parameters_end d a z at) ns) (more_same ps c ws (Some (named n x)) (omega (arith, i)))
    ∙ ap (λ z. stand (Behind (mk.with_form d (tall (fFunction (pSome a (params_and ps c ws (Some (named n x))) at)) z))) ns) (above_is _ i)) l

typed_told : (s : Site) (ws : Words) (f : sh.AreSpecs s ws) → is_typed (told_of (known s ws)).typing ≡ true
typed_told s ws f = ap (λ k. is_typed k.typing) (told_is (known s ws) f.told f.together) ∙ f.typed

params_comma : (ps : Params) (ns : List (List ℕ)) (d : Declared) (a : ℕ) (at : ℕ) → sh.IsComma (sh.are_no_params ps) (Some at) → sh.ShapedParams ns ps → (g : ℕ) → 1 ≤ g → hg.height_params ps ≤ g → ht.parameters_high d.around (suc g) ≤ 200 → (rest : List SymbolAt) → walk (sign sy.Comma at ∷ rest) (stand (behind_param d a ps) ns) ≡ walk rest (stand (Specifiers mk.unspoken (parameter_around d a ps (Some at))) ns)
params_comma no_params ns d a at c s g o i l rest = absurd c
params_comma (params_and ps x ws n) ns d a at c s g o i l rest = param_comma ns d a ps x ws n at rest (typed_told site.Bare ws s.1) g o i l

params_read : (ps : Params) (ns : List (List ℕ)) (d : Declared) (a : ℕ) → sh.ShapedParams ns ps → (g : ℕ) → 1 ≤ g → hg.height_params ps ≤ g → ht.parameters_high d.around (suc g) ≤ 200 → (rest : List SymbolAt) → NoOpen rest → walk (spell_params ps rest) (stand (Parameters' d a) ns) ≡ walk rest (stand (behind_param d a ps) ns)
params_read no_params ns d a s g o i l rest n = refl
params_read (params_and no_params None ws x) ns d a s g o i l rest n =
    first_param ns d a ws s.1.told (spell_option_name x rest) s.1.together s.1.typed
    ∙ words_read ws (parameter_around d a no_params None) ns s.1.told s.1.together s.2 (params_low d no_params None (height_words ws) g (omega arith) (omega (arith, i)) l) (spell_option_name x rest) (name_no_open x rest n)
    ∙ ap (λ k. walk (spell_option_name x rest) (stand (Specifiers (worded ws k) (parameter_around d a no_params None)) ns)) (sym (told_is (known site.Bare ws) s.1.told s.1.together))
    ∙ param_end ns d a no_params None ws x rest (typed_told site.Bare ws s.1) s.3 g (omega arith) (omega (arith, i)) l
params_read (params_and no_params (Some at) ws x) ns d a s g o i l rest n = absurd s.0
params_read (params_and (params_and ps c vs y) None ws x) ns d a s g o i l rest n = absurd s.0
params_read (params_and ps (Some at) ws x) ns d a s g o i l rest n =
    params_read ps ns d a s.4 g o (omega (arith, i)) l (sign sy.Comma at ∷ spell_words ws (spell_option_name x rest)) refl
    ∙ params_comma ps ns d a at s.0 s.4 g o (omega (arith, i)) l (spell_words ws (spell_option_name x rest))
    ∙ words_read ws (parameter_around d a ps (Some at)) ns s.1.told s.1.together s.2 (params_low d ps (Some at) (height_words ws) g (omega (arith, i)) (omega (arith, i)) l) (spell_option_name x rest) (name_no_open x rest n)
    ∙ ap (λ k. walk (spell_option_name x rest) (stand (Specifiers (worded ws k) (parameter_around d a ps (Some at))) ns)) (sym (told_is (known site.Bare ws) s.1.told s.1.together))
    ∙ param_end ns d a ps (Some at) ws x rest (typed_told site.Bare ws s.1) s.3 g (omega (arith, i)) (omega (arith, i)) l

pub parameters_read : (ps : Parameters) (ns : List (List ℕ)) (d : Declared) → sh.ShapedParameters ns ps → decl.may_be_function d ≡ true → ht.parameters_high d.around (hg.height_parameters ps) ≤ 200 → low (Behind (mk.with_form d (tall (fFunction ps) (hg.height_parameters ps)))) ≤ 200 → (rest : List SymbolAt) → walk (spell_parameters ps rest) (stand (Behind d) ns) ≡ walk rest (stand (Behind (mk.with_form d (tall (fFunction ps) (hg.height_parameters ps)))) ns)
parameters_read (pUnknown a c) ns d s m h l rest =
    go (opening br.Round a) (closing br.Round c ∷ rest) (Behind d) (Parameters' d a) ns ns (ap (kept ns) (when_true (decl.may_be_function d) (Parameters' d a) m)) h
    ∙ go (closing br.Round c) rest (Parameters' d a) (Behind (mk.with_form d (tall (fFunction (pUnknown a c)) 1))) ns ns refl l
parameters_read (pVoid a at c) ns d s m h l rest =
    go (opening br.Round a) (sign (sy.Type type.Void) at ∷ closing br.Round c ∷ rest) (Behind d) (Parameters' d a) ns ns (ap (kept ns) (when_true (decl.may_be_function d) (Parameters' d a) m)) h
    ∙ go (sign (sy.Type type.Void) at) (closing br.Round c ∷ rest) (Parameters' d a) (Wait (waitVoid d a at)) ns ns refl h
    ∙ go (closing br.Round c) rest (Wait (waitVoid d a at)) (Behind (mk.with_form d (tall (fFunction (pVoid a at c)) 1))) ns ns refl l
parameters_read (pSome a no_params c) ns d s m h l rest = cc
parameters_read (pSome a (params_and ps x ws y) c) ns d s m h l rest =
    let g = hg.height_params (params_and ps x ws y) in
    let o : 1 ≤ g = omega arith in
    go (opening br.Round a) (spell_params (params_and ps x ws y) (closing br.Round c ∷ rest)) (Behind d) (Parameters' d a) ns ns (ap (kept ns) (when_true (decl.may_be_function d) (Parameters' d a) m)) (le_trans (parameters_mono d.around 1 (suc g) (omega arith)) h)
    ∙ params_read (params_and ps x ws y) ns d a s.1 g o (omega arith) h (closing br.Round c ∷ rest) refl
    ∙ param_close ns d a ps x ws y c rest (typed_told site.Bare ws s.1.1) (omega (arith, parameters_ge d.around (suc g), h)) l
