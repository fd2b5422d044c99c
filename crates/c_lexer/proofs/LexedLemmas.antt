-- Steps through the bytes of a source.
use Rattle.std.proofs.Common.{subst, take, take_all, ◌≡◌, ℕ, zero, suc, ◌+◌, ◌-◌, ◌<◌, ◌≤◌, List, [], ◌∷◌, ◌++◌, length, drop, refl, sym, ◌∙◌, ap, arith, Bool, true, false, length-drop, drop_of_length-le, get_or}
use Rattle.std.proofs.lemmas.List.{drop_more, drop-drop}
use Rattle.std.proofs.lemmas.Bool.Decides.{nat_tests}
use Rattle.std.specs.Prelude.{Ok, Err, nat_lt, if◌then◌else◌}
use Rattle.lv_base.specs.declared.fail.SourceFail.TheVariants.{Fault as AFault, Over}
use Rattle.lv_base.specs.declared.fault.SourceFault.{SourceFault}
use Rattle.c_lexer.specs.Steps.{step_of, FitsIn}
use Rattle.c_lexer.specs.Lexed.{token_of, stepped, lexed_from, lexed}
use Rattle.c_lexer.specs.declared.step.Step.{Step}
use Rattle.c_lexer.specs.declared.step.Step.TheVariants.{Skip, Token, Fault}
use Rattle.c_lexer.specs.declared.token.Token.{Token as AToken}
use Rattle.c_lexer.specs.declared.token.TokenKind.{TokenKind}
use Rattle.c_lexer.specs.declared.token.TokenKind.TheVariants.{End}

-- the bytes that a step passed are passed over
pub inside : (k : ℕ) (fresh : Bool) (at : ℕ) (before : List AToken) (bytes : List ℕ) → k ≤ length bytes → lexed_from k fresh at before bytes ≡ lexed_from zero fresh (at + k) before (drop k bytes)
inside zero fresh at before bytes le = let z : at + 0 ≡ at = omega arith in rw z refl
inside (suc k) fresh at before [] le = absurd (omega arith)
inside (suc k) fresh at before (b ∷ bytes) le =
    let n : at + 1 + k ≡ at + suc k = omega arith in
    inside k fresh (at + 1) before bytes (omega arith) ∙ ap (λ (i : ℕ). lexed_from zero fresh i before (drop k bytes)) n

-- the same after the first byte
past : (width at : ℕ) (fresh : Bool) (before : List AToken) (b : ℕ) (rest : List ℕ) → 0 < width → width ≤ length (b ∷ rest) → lexed_from (width - 1) fresh (at + 1) before rest ≡ lexed_from zero fresh (at + width) before (drop width (b ∷ rest))
past zero at fresh before b rest some fits = absurd (omega arith)
past (suc k) at fresh before b rest some fits =
    let k_is : suc k - 1 ≡ k = omega arith in
    let n : at + 1 + k ≡ at + suc k = omega arith in
    rw k_is (inside k fresh (at + 1) before rest (omega arith) ∙ ap (λ (i : ℕ). lexed_from zero fresh i before (drop k rest)) n)

opened : (source : List ℕ) (at : ℕ) → at < length source → drop at source ≡ get_or source at 0 ∷ drop (at + 1) source
opened source at lt = drop_more source at 0 lt

there : (source : List ℕ) (at width : ℕ) → at < length source → drop width (get_or source at 0 ∷ drop (at + 1) source) ≡ drop (at + width) source
there source at width lt = ap (λ (l : List ℕ). drop width l) (sym (opened source at lt)) ∙ drop-drop width at source

pub skipped : (source : List ℕ) (at width : ℕ) (fresh next : Bool) (before : List AToken) → at < length source → step_of fresh (drop at source) ≡ Skip width next → FitsIn (drop at source) (Skip width next) → lexed_from zero fresh at before (drop at source) ≡ lexed_from zero next (at + width) before (drop (at + width) source)
skipped source at width fresh next before lt is fits =
    let b = get_or source at 0 in
    let rest = drop (at + 1) source in
    let here : step_of fresh (b ∷ rest) ≡ Skip width next = ap (step_of fresh) (sym (opened source at lt)) ∙ is in
    let within : width ≤ length (b ∷ rest) = omega (arith, fits.1, length-drop at source, length-drop (at + 1) source) in
    ap (λ (l : List ℕ). lexed_from zero fresh at before l) (opened source at lt)
    ∙ ap (λ s. stepped s at before (λ w n tokens. lexed_from (w - 1) n (at + 1) tokens rest)) here
    ∙ past width at next before b rest fits.0 within
    ∙ ap (λ (l : List ℕ). lexed_from zero next (at + width) before l) (there source at width lt)

pub added : (source : List ℕ) (at width : ℕ) (fresh : Bool) (kind : TokenKind) (before : List AToken) → at < length source → length before < 200000 → step_of fresh (drop at source) ≡ Token kind width → FitsIn (drop at source) (Token kind width) → lexed_from zero fresh at before (drop at source) ≡ lexed_from zero false (at + width) (before ++ token_of kind at (at + width) ∷ []) (drop (at + width) source)
added source at width fresh kind before lt room is fits =
    let b = get_or source at 0 in
    let rest = drop (at + 1) source in
    let after : List AToken = before ++ token_of kind at (at + width) ∷ [] in
    let here : step_of fresh (b ∷ rest) ≡ Token kind width = ap (step_of fresh) (sym (opened source at lt)) ∙ is in
    let within : width ≤ length (b ∷ rest) = omega (arith, fits.1, length-drop at source, length-drop (at + 1) source) in
    let few : nat_lt (length before) 200000 ≡ true = grind (arith, nat_tests) in
    ap (λ (l : List ℕ). lexed_from zero fresh at before l) (opened source at lt)
    ∙ ap (λ s. stepped s at before (λ w n tokens. lexed_from (w - 1) n (at + 1) tokens rest)) here
    ∙ ap (λ (t : Bool). if t then lexed_from (width - 1) false (at + 1) after rest else Err (Over 2 200001)) few
    ∙ past width at false after b rest fits.0 within
    ∙ ap (λ (l : List ℕ). lexed_from zero false (at + width) after l) (there source at width lt)

pub over : (source : List ℕ) (at width : ℕ) (fresh : Bool) (kind : TokenKind) (before : List AToken) → at < length source → 200000 ≤ length before → step_of fresh (drop at source) ≡ Token kind width → lexed_from zero fresh at before (drop at source) ≡ Err (Over 2 200001)
over source at width fresh kind before lt full is =
    let b = get_or source at 0 in
    let rest = drop (at + 1) source in
    let after : List AToken = before ++ token_of kind at (at + width) ∷ [] in
    let here : step_of fresh (b ∷ rest) ≡ Token kind width = ap (step_of fresh) (sym (opened source at lt)) ∙ is in
    let many : nat_lt (length before) 200000 ≡ false = grind (arith, nat_tests) in
    ap (λ (l : List ℕ). lexed_from zero fresh at before l) (opened source at lt)
    ∙ ap (λ s. stepped s at before (λ w n tokens. lexed_from (w - 1) n (at + 1) tokens rest)) here
    ∙ ap (λ (t : Bool). if t then lexed_from (width - 1) false (at + 1) after rest else Err (Over 2 200001)) many

pub failed : (source : List ℕ) (at : ℕ) (fresh : Bool) (fault : SourceFault) (before : List AToken) → at < length source → step_of fresh (drop at source) ≡ Fault fault → lexed_from zero fresh at before (drop at source) ≡ Err (AFault fault at)
failed source at fresh fault before lt is =
    let b = get_or source at 0 in
    let rest = drop (at + 1) source in
    let here : step_of fresh (b ∷ rest) ≡ Fault fault = ap (step_of fresh) (sym (opened source at lt)) ∙ is in
    ap (λ (l : List ℕ). lexed_from zero fresh at before l) (opened source at lt)
    ∙ ap (λ s. stepped s at before (λ w n tokens. lexed_from (w - 1) n (at + 1) tokens rest)) here

pub ended : (source : List ℕ) (at : ℕ) (fresh : Bool) (before : List AToken) → length source ≤ at → lexed_from zero fresh at before (drop at source) ≡ Ok (before ++ token_of End at at ∷ [])
ended source at fresh before le = ap (λ (l : List ℕ). lexed_from zero fresh at before l) (drop_of_length-le source le)

-- the rest of a source from an index on, as the code slices it
pub rest_is : (source : List ℕ) (at : ℕ) → take (length source - at) (drop at source) ≡ drop at source
rest_is source at = take_all (length source - at) (drop at source) (omega (arith, length-drop at source))

shown : (source : List ℕ) (at : ℕ) (fresh : Bool) (s shape : Step) → s ≡ step_of fresh (take (length source - at) (drop at source)) → FitsIn (take (length source - at) (drop at source)) s → s ≡ shape → (step_of fresh (drop at source) ≡ shape) × FitsIn (drop at source) shape
shown source at fresh s shape value fits is =
    let all = rest_is source at in
    let here : FitsIn (drop at source) s = subst (λ (l : List ℕ). FitsIn l s) all fits in
    (sym (value ∙ ap (step_of fresh) all) ∙ is, subst (λ (x : Step). FitsIn (drop at source) x) is here)

pub skip_turn : (source : List ℕ) (at width : ℕ) (fresh next : Bool) (before : List AToken) (s : Step) → at < length source → s ≡ step_of fresh (take (length source - at) (drop at source)) → FitsIn (take (length source - at) (drop at source)) s → s ≡ Skip width next → lexed source ≡ lexed_from zero fresh at before (drop at source)
    → (at + width ≤ length source) × (lexed source ≡ lexed_from zero next (at + width) before (drop (at + width) source))
skip_turn source at width fresh next before s lt value fits is rest =
    let e = shown source at fresh s (Skip width next) value fits is in
    (omega (arith, e.1.1, length-drop at source), rest ∙ skipped source at width fresh next before lt e.0 e.1)

pub token_turn : (source : List ℕ) (at width : ℕ) (fresh : Bool) (kind : TokenKind) (before after : List AToken) (s : Step) → at < length source → length before < 200000 → s ≡ step_of fresh (take (length source - at) (drop at source)) → FitsIn (take (length source - at) (drop at source)) s → s ≡ Token kind width → lexed source ≡ lexed_from zero fresh at before (drop at source) → after ≡ before ++ token_of kind at (at + width) ∷ []
    → (at + width ≤ length source) × (lexed source ≡ lexed_from zero false (at + width) after (drop (at + width) source))
token_turn source at width fresh kind before after s lt room value fits is rest pushed =
    let e = shown source at fresh s (Token kind width) value fits is in
    (omega (arith, e.1.1, length-drop at source), rest ∙ added source at width fresh kind before lt room e.0 e.1 ∙ ap (λ (l : List AToken). lexed_from zero false (at + width) l (drop (at + width) source)) (sym pushed))

pub full_turn : (source : List ℕ) (at width : ℕ) (fresh : Bool) (kind : TokenKind) (before : List AToken) (s : Step) → at < length source → 200000 ≤ length before → s ≡ step_of fresh (take (length source - at) (drop at source)) → FitsIn (take (length source - at) (drop at source)) s → s ≡ Token kind width → lexed source ≡ lexed_from zero fresh at before (drop at source) → lexed source ≡ Err (Over 2 200001)
full_turn source at width fresh kind before s lt full value fits is rest =
    let e = shown source at fresh s (Token kind width) value fits is in
    rest ∙ over source at width fresh kind before lt full e.0
