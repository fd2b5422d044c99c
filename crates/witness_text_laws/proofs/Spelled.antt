-- The text of a conjunction has the tokens of its tree.
use Rattle.std.proofs.Common.{◌≡◌, ◌∙◌, ap, sym, subst, refl, ℕ, zero, List, [], ◌∷◌, ◌++◌, length, append_assoc, Bool, true, false, le-ltb, if◌then◌else◌, arith}
use Rattle.std.specs.Prelude.{Err, ◌==◌, map, codes}
use Rattle.std.specs.Fmt.{decimal}
use Rattle.lv_base.specs.declared.fail.SourceFail.TheVariants.{Over}
use Rattle.c_lexer.specs.Lexed.{lexed_from, token_of}
use Rattle.c_lexer.specs.declared.token.Token.{Token}
use Rattle.c_lexer.specs.declared.token.TokenKind.TheVariants.{End}
use Rattle.c_tree.specs.declared.symbol.BinaryOp.{BinaryOp}
use Rattle.c_tree.specs.declared.symbol.BinaryOp.TheVariants as op
use Rattle.c_tree.specs.declared.symbol.Bracket.TheVariants as br
use Rattle.c_tree.specs.declared.symbol.Symbol.{Symbol}
use Rattle.c_tree.specs.declared.symbol.Symbol.TheVariants as sy
use Rattle.c_tree.specs.declared.symbol.SymbolAt.{SymbolAt}
use Rattle.c_tree.specs.Symbols.{sign}
use Rattle.c_tree.specs.Spelling.{spell}
use Rattle.c_tree.specs.Tree.{Ex, eBinary}
use Rattle.witness_expressions.specs.Expressions.{both_text, conjoined, or_one}
use Rattle.witness_truth_laws.specs.Written.{Place, pScalar, pElement, Expression, xTruth, xBit, xBoth, xEither, xNot, place_text, text_of, conjunction_text}
use Rattle.witness_truth_laws.specs.Trees.{plain_form, number, place_tree, tree_of, conjoined_tree, conjunction_tree}
use Rattle.witness_text_laws.specs.Names.{IsPlace, IsSpelled, AreSpelled, symbols}
use Rattle.witness_text_laws.specs.Laws.{TextsAreRead}
use Rattle.witness_text_laws.proofs.Steps.{Lexes, Any, Stops, IsBlank, NoEqual, follow, says-append, append-nil, blank, opens, closes, square-opens, square-closes, ands, ors, masks, shifts, bangs}
use Rattle.witness_text_laws.proofs.Digits.{names, numbers, zero-read, one-read}

-- the text is read as the tokens of the tree
record IsReadAs (t : List ℕ) (e : Ex) : Type 0 where
  signs : List Symbol
  lexes : Lexes Stops t signs
  spelled : (rest : List SymbolAt) → symbols (spell e rest) ≡ signs ++ symbols rest

-- ---- Spaces and marks

always : (y rest : List ℕ) → Stops rest → Any (y ++ rest)
always y rest s = tt

-- a text that anything may follow is followed by another
next : (x y : List ℕ) (ks js : List Symbol) → Lexes Any x ks → Lexes Stops y js → Lexes Stops (x ++ y) (ks ++ js)
next x y ks js h k = follow Any Stops x y ks js h k (λ rest s. tt)

any-next : (x y : List ℕ) (ks js : List Symbol) → Lexes Any x ks → Lexes Any y js → Lexes Any (x ++ y) (ks ++ js)
any-next x y ks js h k = follow Any Any x y ks js h k (λ rest s. tt)

weaker : (x : List ℕ) (ks : List Symbol) → Lexes Any x ks → Lexes Stops x ks
weaker x ks h rest s = h rest tt

spaced-ands : Lexes Any (codes " && ") (sy.Binary op.AndAlso ∷ [])
spaced-ands = any-next (32 ∷ []) (38 ∷ 38 ∷ 32 ∷ []) [] _ blank (any-next (38 ∷ 38 ∷ []) (32 ∷ []) _ [] ands blank)

spaced-ors : Lexes Any (codes " || ") (sy.Binary op.OrElse ∷ [])
spaced-ors = any-next (32 ∷ []) (124 ∷ 124 ∷ 32 ∷ []) [] _ blank (any-next (124 ∷ 124 ∷ []) (32 ∷ []) _ [] ors blank)

spaced-shifts : Lexes Any (codes " >> ") (sy.Binary op.ShiftRight ∷ [])
spaced-shifts = any-next (32 ∷ []) (62 ∷ 62 ∷ 32 ∷ []) [] _ blank (follow IsBlank Any (62 ∷ 62 ∷ []) (32 ∷ []) _ [] shifts blank (λ rest s. refl))

tail-read : Lexes Any (codes ") & 1)") (sy.Close br.Round ∷ sy.Binary op.BitAnd ∷ sy.Number 1 (plain_form 1) ∷ sy.Close br.Round ∷ [])
tail-read =
    any-next (41 ∷ []) (32 ∷ 38 ∷ 32 ∷ 49 ∷ 41 ∷ []) _ _ closes
    (any-next (32 ∷ []) (38 ∷ 32 ∷ 49 ∷ 41 ∷ []) [] _ blank
    (follow IsBlank Any (38 ∷ []) (32 ∷ 49 ∷ 41 ∷ []) _ _ masks
    (any-next (32 ∷ []) (49 ∷ 41 ∷ []) [] _ blank (follow Stops Any (49 ∷ []) (41 ∷ []) _ _ one-read closes (λ rest s. (refl, refl, refl)))) (λ rest s. refl)))

-- ---- Expressions

place-read : (at : ℕ) (p : Place) → IsPlace p → IsReadAs (place_text p) (place_tree at p)
place-read at (pScalar name) h = record { signs = sy.Name name ∷ []; lexes = names name h; spelled = λ rest. refl }
place-read at (pElement name k) h = record {
  signs = sy.Name name ∷ sy.Open br.Square ∷ sy.Number k (plain_form k) ∷ sy.Close br.Square ∷ [];
  lexes = follow Stops Stops name _ (sy.Name name ∷ []) _ (names name h.0)
      (next (91 ∷ []) _ _ _ square-opens (follow Stops Stops _ (93 ∷ []) (sy.Number k (plain_form k) ∷ []) _ (numbers k h.1) (weaker _ _ square-closes) (λ rest s. (refl, refl, refl)))) (λ rest s. (refl, refl, refl));
  spelled = λ rest. refl;
}

-- a bit of a place
bit-read : (at k : ℕ) (p : Place) → IsSpelled (xBit k p) → IsReadAs (text_of (xBit k p)) (tree_of at (xBit k p))
bit-read at k p h =
    let r = place-read at p h.1 in
    let tail : List Symbol = sy.Close br.Round ∷ sy.Binary op.BitAnd ∷ sy.Number 1 (plain_form 1) ∷ sy.Close br.Round ∷ [] in
    let behind : List Symbol = sy.Binary op.ShiftRight ∷ sy.Number k (plain_form k) ∷ tail in
    record {
      signs = sy.Open br.Round ∷ sy.Open br.Round ∷ (r.signs ++ behind);
      lexes = next (40 ∷ 40 ∷ []) _ _ _ (any-next (40 ∷ []) (40 ∷ []) _ _ opens opens)
          (follow Stops Stops (place_text p) _ r.signs behind r.lexes
          (next (codes " >> ") _ _ _ spaced-shifts (follow Stops Stops (decimal k) (codes ") & 1)") (sy.Number k (plain_form k) ∷ []) tail (numbers k h.0) (weaker _ _ tail-read) (λ rest s. (refl, refl, refl))))
          (λ rest s. (refl, refl, refl)));
      spelled = λ rest. ap (λ (l : List Symbol). sy.Open br.Round ∷ sy.Open br.Round ∷ l) (r.spelled _ ∙ sym (append_assoc r.signs behind (symbols rest)));
    }

two-spelled : (x y : Ex) (o : BinaryOp) (at : ℕ) (ks js : List Symbol) → ((rest : List SymbolAt) → symbols (spell x rest) ≡ ks ++ symbols rest) → ((rest : List SymbolAt) → symbols (spell y rest) ≡ js ++ symbols rest)
    → (rest : List SymbolAt) → symbols (spell (eBinary x o at y) rest) ≡ (ks ++ (sy.Binary o ∷ js)) ++ symbols rest
two-spelled x y o at ks js h k rest =
    h (sign (sy.Binary o) at ∷ spell y rest) ∙ ap (λ (l : List Symbol). ks ++ (sy.Binary o ∷ l)) (k rest) ∙ sym (append_assoc ks (sy.Binary o ∷ js) (symbols rest))

-- two expressions with a mark between, in brackets
two-read : (x y : Ex) (s t mark : List ℕ) (o : BinaryOp) (at : ℕ) → Lexes Any mark (sy.Binary o ∷ []) → ((rest : List ℕ) → Stops (mark ++ rest)) → IsReadAs s x → IsReadAs t y
    → (signs : List Symbol) × Lexes Stops (both_text mark s t) signs × ((rest : List SymbolAt) → sy.Open br.Round ∷ symbols (spell (eBinary x o at y) (sign (sy.Close br.Round) at ∷ rest)) ≡ signs ++ symbols rest)
two-read x y s t mark o at m stops a b = (
  sy.Open br.Round ∷ (a.signs ++ (sy.Binary o ∷ (b.signs ++ (sy.Close br.Round ∷ [])))),
  next (40 ∷ []) _ _ _ opens
      (follow Stops Stops s (mark ++ (t ++ (41 ∷ []))) a.signs _ a.lexes
      (next mark _ _ _ m (follow Stops Stops t (41 ∷ []) b.signs _ b.lexes (weaker _ _ closes) (λ rest s. (refl, refl, refl))))
      (λ rest q. subst Stops (sym (append_assoc mark (t ++ (41 ∷ [])) rest)) (stops ((t ++ (41 ∷ [])) ++ rest)))),
  λ rest. ap (λ (l : List Symbol). sy.Open br.Round ∷ l)
      (a.spelled _ ∙ ap (λ (l : List Symbol). a.signs ++ (sy.Binary o ∷ l)) (b.spelled _ ∙ sym (append_assoc b.signs (sy.Close br.Round ∷ []) (symbols rest)))
      ∙ sym (append_assoc a.signs (sy.Binary o ∷ (b.signs ++ (sy.Close br.Round ∷ []))) (symbols rest))),
)

truth-starts : (b : Bool) (rest : List ℕ) → NoEqual ((if b then codes "1" else codes "0") ++ rest)
truth-starts true rest = refl
truth-starts false rest = refl

starts : (x : Expression) (rest : List ℕ) → NoEqual (text_of x ++ rest)
starts (xTruth v) rest = truth-starts (v == 1) rest
starts (xBit k p) rest = refl
starts (xBoth x y) rest = refl
starts (xEither x y) rest = refl
starts (xNot x) rest = refl

truth-read : (at : ℕ) (b : Bool) → IsReadAs (if b then codes "1" else codes "0") (number at (if b then 1 else 0))
truth-read at true = record { signs = sy.Number 1 (plain_form 1) ∷ []; lexes = one-read; spelled = λ rest. refl }
truth-read at false = record { signs = sy.Number 0 (plain_form 0) ∷ []; lexes = zero-read; spelled = λ rest. refl }

tree-read : (at : ℕ) (x : Expression) → IsSpelled x → IsReadAs (text_of x) (tree_of at x)
tree-read at (xTruth v) h = truth-read at (v == 1)
tree-read at (xBit k p) h = bit-read at k p h
tree-read at (xBoth x y) h =
    let r = two-read (tree_of at x) (tree_of at y) (text_of x) (text_of y) (codes " && ") op.AndAlso at spaced-ands (λ rest. (refl, refl, refl)) (tree-read at x h.0) (tree-read at y h.1) in
    record { signs = r.0; lexes = r.1; spelled = r.2 }
tree-read at (xEither x y) h =
    let r = two-read (tree_of at x) (tree_of at y) (text_of x) (text_of y) (codes " || ") op.OrElse at spaced-ors (λ rest. (refl, refl, refl)) (tree-read at x h.0) (tree-read at y h.1) in
    record { signs = r.0; lexes = r.1; spelled = r.2 }
tree-read at (xNot x) h =
    let a = tree-read at x h in
    record {
      signs = sy.Open br.Round ∷ sy.Bang ∷ (a.signs ++ (sy.Close br.Round ∷ []));
      lexes = next (40 ∷ []) (33 ∷ (text_of x ++ (41 ∷ []))) _ _ opens
          (follow NoEqual Stops (33 ∷ []) (text_of x ++ (41 ∷ [])) _ _ bangs
          (follow Stops Stops (text_of x) (41 ∷ []) a.signs _ a.lexes (weaker _ _ closes) (λ rest s. (refl, refl, refl)))
          (λ rest s. subst NoEqual (sym (append_assoc (text_of x) (41 ∷ []) rest)) (starts x ((41 ∷ []) ++ rest))));
      spelled = λ rest. ap (λ (l : List Symbol). sy.Open br.Round ∷ sy.Bang ∷ l) (a.spelled _ ∙ sym (append_assoc a.signs (sy.Close br.Round ∷ []) (symbols rest)));
    }

-- ---- Conjunctions

also-read : (at : ℕ) (t : List ℕ) (e : Ex) (x : Expression) → IsReadAs t e → IsSpelled x → IsReadAs (t ++ (codes " && " ++ text_of x)) (eBinary e op.AndAlso at (tree_of at x))
also-read at t e x a h =
    let b = tree-read at x h in
    record {
      signs = a.signs ++ (sy.Binary op.AndAlso ∷ b.signs);
      lexes = follow Stops Stops t (codes " && " ++ text_of x) a.signs _ a.lexes (next (codes " && ") (text_of x) _ b.signs spaced-ands b.lexes) (λ rest s. (refl, refl, refl));
      spelled = two-spelled e (tree_of at x) op.AndAlso at a.signs b.signs a.spelled b.spelled;
    }

joined-read : (at b : ℕ) (bytes : List ℕ) (e : Ex) (xs : List Expression) → IsReadAs (b ∷ bytes) e → AreSpelled xs → IsReadAs (or_one (conjoined (b ∷ bytes) (map text_of xs))) (conjoined_tree at e xs)
joined-read at b bytes e [] a h = a
joined-read at b bytes e (x ∷ xs) a (h, hs) = joined-read at b (bytes ++ (codes " && " ++ text_of x)) (eBinary e op.AndAlso at (tree_of at x)) xs (also-read at (b ∷ bytes) e x a h) hs

from-first : (at : ℕ) (t : List ℕ) (e : Ex) (xs : List Expression) → NoEqual (t ++ []) → IsReadAs t e → AreSpelled xs → IsReadAs (or_one (conjoined t (map text_of xs))) (conjoined_tree at e xs)
from-first at [] e xs some a h = absurd some
from-first at (b ∷ bytes) e xs some a h = joined-read at b bytes e xs a h

conjunction-read : (at : ℕ) (xs : List Expression) → AreSpelled xs → IsReadAs (conjunction_text xs) (conjunction_tree at xs)
conjunction-read at [] h = record { signs = sy.Number 1 (plain_form 1) ∷ []; lexes = one-read; spelled = λ rest. refl }
conjunction-read at (x ∷ xs) (h, hs) = from-first at (text_of x) (tree_of at x) xs (starts x []) (tree-read at x h) hs

pub texts-are-read : TextsAreRead
texts-are-read xs at h few =
    let text : List ℕ = conjunction_text xs in
    let r = conjunction-read at xs h in
    let g = r.lexes [] tt true 0 [] (omega (arith, few)) in
    let end : Token = token_of End g.end g.end in (
      g.tokens ++ end ∷ [],
      ap (λ (z : Bool). if z then Err (Over 1 (length text)) else lexed_from zero true zero [] text) (le-ltb 1048576 (length text) (omega (arith, few)))
          ∙ ap (lexed_from zero true zero []) (sym (append-nil text)) ∙ g.leads,
      says-append g.tokens (end ∷ []) ∙ ap (λ (l : List Symbol). l ++ (sy.End ∷ [])) g.says ∙ sym (r.spelled (sign sy.End 0 ∷ [])),
    )
