-- Texts that are read as some tokens wherever they stand, one behind the other.
use Rattle.std.proofs.Common.{◌≡◌, ◌∙◌, ap, sym, refl, ℕ, zero, suc, ◌<◌, ◌≤◌, ◌+◌, ◌-◌, List, [], ◌∷◌, ◌++◌, length, length-append, append_assoc, Bool, false, lt-ltb, if◌then◌else◌, arith}
use Rattle.std.specs.Prelude.{Result, Err, Some, None, ◌==◌, ◌&&◌, ◌||◌, nat_lt}
use Rattle.lv_base.specs.declared.fail.SourceFail.{SourceFail}
use Rattle.lv_base.specs.declared.fail.SourceFail.TheVariants.{Over}
use Rattle.c_lexer.specs.Bytes.{is_line_end, is_indent, is_word_byte, is_sign}
use Rattle.c_lexer.specs.Lexed.{lexed_from, stepped, token_of}
use Rattle.c_lexer.specs.Steps.{step_of, mark_step, mark_step_of}
use Rattle.c_lexer.specs.declared.token.Mark.TheVariants as mark
use Rattle.c_lexer.specs.declared.token.Token.{Token as AToken}
use Rattle.c_lexer.specs.declared.token.TokenKind.{TokenKind}
use Rattle.c_lexer.specs.declared.token.TokenKind.TheVariants.{Mark as AMark}
use Rattle.c_tree.specs.declared.symbol.Symbol.{Symbol}
use Rattle.c_tree.specs.Symbols.{symbol_of, mark_symbol, signs_of}
use Rattle.witness_text_laws.specs.Names.{symbols}

pub record Goes (x rest : List ℕ) (ks : List Symbol) (fresh : Bool) (at : ℕ) (before : List AToken) : Type 0 where
  pub next : Bool
  pub end : ℕ
  pub tokens : List AToken
  pub leads : lexed_from zero fresh at before (x ++ rest) ≡ lexed_from zero next end (before ++ tokens) rest
  pub says : symbols (signs_of tokens) ≡ ks
  pub few : length tokens ≤ length x

-- before what has the property this text is read as these tokens
abbrev pub Lexes : (List ℕ → Type 0) → List ℕ → List Symbol → Type 0
Lexes P x ks = (rest : List ℕ) → P rest → (fresh : Bool) (at : ℕ) (before : List AToken) → length before + length x < 200000 → Goes x rest ks fresh at before

abbrev pub Any : List ℕ → Type 0
Any rest = Unit {0}

-- no word and no number goes on
abbrev pub Stops : List ℕ → Type 0
Stops [] = Unit {0}
Stops (b ∷ rest) = (is_word_byte b ≡ false) × ((b == 46) ≡ false) × (is_sign b ≡ false)

abbrev pub IsBlank : List ℕ → Type 0
IsBlank [] = ⊥
IsBlank (b ∷ rest) = b ≡ 32

-- no `=` follows
abbrev pub NoEqual : List ℕ → Type 0
NoEqual [] = ⊥
NoEqual (b ∷ rest) = (b == 61) ≡ false

pub says-append : (xs ys : List AToken) → symbols (signs_of (xs ++ ys)) ≡ symbols (signs_of xs) ++ symbols (signs_of ys)
says-append [] ys = refl
says-append (x ∷ xs) ys = ap (λ (l : List Symbol). symbol_of x.kind ∷ l) (says-append xs ys)

both-go : (x y rest : List ℕ) (ks js : List Symbol) (fresh : Bool) (at : ℕ) (before : List AToken) (a : Goes x (y ++ rest) ks fresh at before) → Goes y rest js a.next a.end (before ++ a.tokens)
    → Goes (x ++ y) rest (ks ++ js) fresh at before
both-go x y rest ks js fresh at before a b = record {
  next = b.next;
  end = b.end;
  tokens = a.tokens ++ b.tokens;
  leads = ap (lexed_from zero fresh at before) (append_assoc x y rest) ∙ a.leads ∙ b.leads ∙ ap (λ (l : List AToken). lexed_from zero b.next b.end l rest) (append_assoc before a.tokens b.tokens);
  says = says-append a.tokens b.tokens ∙ ap (λ (l : List Symbol). l ++ symbols (signs_of b.tokens)) a.says ∙ ap (λ (l : List Symbol). ks ++ l) b.says;
  few = omega (arith, length-append a.tokens b.tokens, length-append x y, a.few, b.few);
}

pub follow : (P Q : List ℕ → Type 0) (x y : List ℕ) (ks js : List Symbol) → Lexes P x ks → Lexes Q y js → ((rest : List ℕ) → Q rest → P (y ++ rest)) → Lexes Q (x ++ y) (ks ++ js)
follow P Q x y ks js h k f rest q fresh at before few =
    let a : Goes x (y ++ rest) ks fresh at before = h (y ++ rest) (f rest q) fresh at before (omega (arith, few, length-append x y)) in
    both-go x y rest ks js fresh at before a (k rest q a.next a.end (before ++ a.tokens) (omega (arith, few, length-append x y, length-append before a.tokens, a.few)))

-- ---- One token

passed : (y rest : List ℕ) (fresh : Bool) (at : ℕ) (before : List AToken) → (end : ℕ) × (lexed_from (length y) fresh at before (y ++ rest) ≡ lexed_from zero fresh end before rest)
passed [] rest fresh at before = (at, refl)
passed (c ∷ y) rest fresh at before = passed y rest fresh (at + 1) before

-- how the lexer goes on
abbrev pub GoesOn : Type 0
GoesOn = ℕ → Bool → List AToken → Result (List AToken) SourceFail

-- what comes of a token of so many bytes
abbrev pub given : TokenKind → ℕ → ℕ → List AToken → GoesOn → Result (List AToken) SourceFail
given kind n at before go = if nat_lt (length before) 200000 then go n false (before ++ token_of kind at (at + n) ∷ []) else Err (Over 2 200001)

pub one : (P : List ℕ → Type 0) (b : ℕ) (y : List ℕ) (kind : TokenKind)
    → ((rest : List ℕ) → P rest → (fresh : Bool) (at : ℕ) (before : List AToken) (go : GoesOn) → stepped (step_of fresh ((b ∷ y) ++ rest)) at before go ≡ given kind (suc (length y)) at before go)
    → Lexes P (b ∷ y) (symbol_of kind ∷ [])
one P b y kind h rest p fresh at before few =
    let n : ℕ = length y in
    let t : AToken = token_of kind at (at + suc n) in
    let go : GoesOn = λ width next tokens. lexed_from (width - 1) next (at + 1) tokens (y ++ rest) in
    let less : suc n - 1 ≡ n = omega arith in
    let (end, rest_of) = passed y rest false (at + 1) (before ++ t ∷ []) in
    record {
      next = false;
      end = end;
      tokens = t ∷ [];
      leads = h rest p fresh at before go
          ∙ ap (λ (z : Bool). if z then go (suc n) false (before ++ t ∷ []) else Err (Over 2 200001)) (lt-ltb (length before) 200000 (omega (arith, few)))
          ∙ ap (λ (k : ℕ). lexed_from k false (at + 1) (before ++ t ∷ []) (y ++ rest)) less ∙ rest_of;
      says = refl;
      few = omega arith;
    }

pub append-nil : {A : Type 0} (xs : List A) → xs ++ [] ≡ xs
append-nil [] = refl
append-nil {A} (x ∷ xs) = ap (λ (l : List A). x ∷ l) (append-nil xs)

pub blank : Lexes Any (32 ∷ []) []
blank rest p fresh at before few = record {
  next = is_line_end 32 || (fresh && is_indent 32);
  end = at + 1;
  tokens = [];
  leads = ap (λ (l : List AToken). lexed_from zero (is_line_end 32 || (fresh && is_indent 32)) (at + 1) l rest) (sym (append-nil before));
  says = refl;
  few = omega arith;
}

-- ---- Marks

pub opens : Lexes Any (40 ∷ []) (mark_symbol mark.ParenOpen ∷ [])
opens = one Any 40 [] (AMark mark.ParenOpen) (λ rest p fresh at before go. refl)

pub closes : Lexes Any (41 ∷ []) (mark_symbol mark.ParenClose ∷ [])
closes = one Any 41 [] (AMark mark.ParenClose) (λ rest p fresh at before go. refl)

pub square-opens : Lexes Any (91 ∷ []) (mark_symbol mark.BracketOpen ∷ [])
square-opens = one Any 91 [] (AMark mark.BracketOpen) (λ rest p fresh at before go. refl)

pub square-closes : Lexes Any (93 ∷ []) (mark_symbol mark.BracketClose ∷ [])
square-closes = one Any 93 [] (AMark mark.BracketClose) (λ rest p fresh at before go. refl)

pub ands : Lexes Any (38 ∷ 38 ∷ []) (mark_symbol mark.AndAnd ∷ [])
ands = one Any 38 (38 ∷ []) (AMark mark.AndAnd) (λ rest p fresh at before go. refl)

pub ors : Lexes Any (124 ∷ 124 ∷ []) (mark_symbol mark.OrOr ∷ [])
ors = one Any 124 (124 ∷ []) (AMark mark.OrOr) (λ rest p fresh at before go. refl)

mask-step : (rest : List ℕ) → IsBlank rest → (fresh : Bool) (at : ℕ) (before : List AToken) (go : GoesOn) → stepped (step_of fresh (38 ∷ rest)) at before go ≡ given (AMark mark.Ampersand) 1 at before go
mask-step [] p fresh at before go = absurd p
mask-step (b ∷ rest) p fresh at before go = ap (λ (c : ℕ). stepped (step_of fresh (38 ∷ c ∷ rest)) at before go) p

pub masks : Lexes IsBlank (38 ∷ []) (mark_symbol mark.Ampersand ∷ [])
masks = one IsBlank 38 [] (AMark mark.Ampersand) mask-step

shift-step : (rest : List ℕ) → IsBlank rest → (fresh : Bool) (at : ℕ) (before : List AToken) (go : GoesOn) → stepped (step_of fresh (62 ∷ 62 ∷ rest)) at before go ≡ given (AMark mark.ShiftRight) 2 at before go
shift-step [] p fresh at before go = absurd p
shift-step (b ∷ rest) p fresh at before go = ap (λ (c : ℕ). stepped (step_of fresh (62 ∷ 62 ∷ c ∷ rest)) at before go) p

pub shifts : Lexes IsBlank (62 ∷ 62 ∷ []) (mark_symbol mark.ShiftRight ∷ [])
shifts = one IsBlank 62 (62 ∷ []) (AMark mark.ShiftRight) shift-step

bang-step : (rest : List ℕ) → NoEqual rest → (fresh : Bool) (at : ℕ) (before : List AToken) (go : GoesOn) → stepped (step_of fresh (33 ∷ rest)) at before go ≡ given (AMark mark.Bang) 1 at before go
bang-step [] p fresh at before go = absurd p
bang-step (b ∷ rest) p fresh at before go = ap (λ (z : Bool). stepped (mark_step_of (if z then Some mark.NotEqual else None) 2 (mark_step (33 ∷ []))) at before go) p

pub bangs : Lexes NoEqual (33 ∷ []) (mark_symbol mark.Bang ∷ [])
bangs = one NoEqual 33 [] (AMark mark.Bang) bang-step
