-- Strings, character constants and comments: where they end.
use Rattle.std.proofs.Common.{◌≡◌, ℕ, ◌+◌, ◌≤◌, List, [], ◌∷◌, ◌++◌, length, refl, ◌∙◌, ap, arith, Bool, true, false, inl, inr, ◌⊎◌}
use Rattle.std.specs.Prelude.{◌==◌, ◌&&◌, not, if◌then◌else◌, Option, Some, None}
use Rattle.std.proofs.lemmas.Bool.{and_parts, not-true, eqb-true, and_from, not_from_false}
use Rattle.c_lexer.specs.Bytes.{is_line_end}
use Rattle.c_lexer.specs.Scan.{closed_at, comment_end}
use Rattle.c_tokens.specs.Forms.{Quotable, is_itself}
use Rattle.c_tokens.specs.Forms.Quotable.{nothing, itself, escaped}

-- a byte that quotes, which is no `\` and ends no line
pub record Quoting (quote : ℕ) : Type 0 where
  pub line : is_line_end quote ≡ false
  pub slash : (92 == quote) ≡ false
  pub same : (quote == quote) ≡ true

pub letters_quote : Quoting 39
letters_quote = record { line = refl; slash = refl; same = refl }

pub strings_quote : Quoting 34
strings_quote = record { line = refl; slash = refl; same = refl }

abbrev on : ℕ → ℕ → List ℕ → Bool → Bool → Bool → Option ℕ
on quote width bytes line same slash = if line then None else if same then Some (width + 1) else closed_at quote slash (width + 1) bytes

pub closed : (quote : ℕ) → Quoting quote → (body more : List ℕ) (width : ℕ) → Quotable quote body → closed_at quote false width (body ++ quote ∷ more) ≡ Some (width + length body + 1)
closed quote q body more width (nothing is) =
    let one : width + 1 ≡ width + length body + 1 = omega (arith, ap length is) in
    ap (λ (l : List ℕ). closed_at quote false width (l ++ quote ∷ more)) is
    ∙ ap (λ (t : Bool). on quote width more t (quote == quote) (quote == 92)) q.line
    ∙ ap (λ (t : Bool). on quote width more false t (quote == 92)) q.same
    ∙ ap (λ (n : ℕ). Some n) one
closed quote q body more width (itself b bytes own rest is) =
    let parts = and_parts (not (b == quote) && not (b == 92)) (not (is_line_end b)) own in
    let front = and_parts (not (b == quote)) (not (b == 92)) parts.0 in
    let one : width + 1 + length bytes + 1 ≡ width + length body + 1 = omega (arith, ap length is) in
    ap (λ (l : List ℕ). closed_at quote false width (l ++ quote ∷ more)) is
    ∙ ap (λ (t : Bool). on quote width (bytes ++ quote ∷ more) t (b == quote) (b == 92)) (not-true (is_line_end b) parts.1)
    ∙ ap (λ (t : Bool). on quote width (bytes ++ quote ∷ more) false t (b == 92)) (not-true (b == quote) front.0)
    ∙ ap (λ (t : Bool). on quote width (bytes ++ quote ∷ more) false false t) (not-true (b == 92) front.1)
    ∙ closed quote q bytes more (width + 1) rest
    ∙ ap (λ (n : ℕ). Some n) one
closed quote q body more width (escaped b bytes line rest is) =
    let one : width + 1 + 1 + length bytes + 1 ≡ width + length body + 1 = omega (arith, ap length is) in
    ap (λ (l : List ℕ). closed_at quote false width (l ++ quote ∷ more)) is
    ∙ ap (λ (t : Bool). on quote width (b ∷ (bytes ++ quote ∷ more)) false t true) q.slash
    ∙ ap (λ (t : Bool). if t then None else closed_at quote false (width + 1 + 1) (bytes ++ quote ∷ more)) line
    ∙ closed quote q bytes more (width + 1 + 1) rest
    ∙ ap (λ (n : ℕ). Some n) one

-- bytes that a quote closes so many bytes on
pub record Closes (quote : ℕ) (bytes : List ℕ) (width n : ℕ) : Type 0 where
  pub body : List ℕ
  pub more : List ℕ
  pub quotable : Quotable quote body
  pub written : bytes ≡ body ++ quote ∷ more
  pub counted : n ≡ width + length body + 1

abbrev Ends : Bool → ℕ → List ℕ → ℕ → ℕ → Type 0
Ends false quote bytes width n = Closes quote bytes width n
Ends true quote bytes width n = (b : ℕ) × (rest : List ℕ) × (bytes ≡ b ∷ rest) × (is_line_end b ≡ false) × Closes quote rest (width + 1) n

ends : (quote : ℕ) (after : Bool) (bytes : List ℕ) (width n : ℕ) → closed_at quote after width bytes ≡ Some n → Ends after quote bytes width n
ends quote after [] width n is = absurd (cc is)
ends quote true (b ∷ bytes) width n is = by_line (is_line_end b) refl is (λ e. ends quote false bytes (width + 1) n e)
  where
    by_line : (t : Bool) → is_line_end b ≡ t → (if t then None else closed_at quote false (width + 1) bytes) ≡ Some n → (closed_at quote false (width + 1) bytes ≡ Some n → Closes quote bytes (width + 1) n) → Ends true quote (b ∷ bytes) width n
    by_line true line e go = absurd (cc e)
    by_line false line e go = (b, bytes, refl, line, go e)
ends quote false (b ∷ bytes) width n is = by_line (is_line_end b) (b == quote) (b == 92) refl refl refl is (λ t e. ends quote t bytes (width + 1) n e)
  where
    by_line : (line same slash : Bool) → is_line_end b ≡ line → (b == quote) ≡ same → (b == 92) ≡ slash → on quote width bytes line same slash ≡ Some n
        → ((t : Bool) → closed_at quote t (width + 1) bytes ≡ Some n → Ends t quote bytes (width + 1) n) → Closes quote (b ∷ bytes) width n
    by_line true same slash l q s e go = absurd (cc e)
    by_line false true slash l q s e go =
        let one : n ≡ width + 1 = cc in
        record { body = []; more = bytes; quotable = nothing refl; written = ap (λ (x : ℕ). x ∷ bytes) (eqb-true b quote q); counted = omega (arith, one) }
    by_line false false true l q s e go =
        let found = go true e in
        let rest = found.4 in
        let slash_is : b ≡ 92 = eqb-true b 92 s in
        record {
          body = 92 ∷ found.0 ∷ rest.body;
          more = rest.more;
          quotable = escaped found.0 rest.body found.3 rest.quotable refl;
          written = ap (λ (x : ℕ). x ∷ bytes) slash_is ∙ ap (λ (l : List ℕ). 92 ∷ l) (found.2 ∙ ap (λ (l : List ℕ). found.0 ∷ l) rest.written);
          counted = omega (arith, rest.counted);
        }
    by_line false false false l q s e go =
        let rest : Closes quote bytes (width + 1) n = go false e in
        let own : is_itself quote b ≡ true = and_from (not (b == quote) && not (b == 92)) (not (is_line_end b)) (and_from (not (b == quote)) (not (b == 92)) (not_from_false (b == quote) q) (not_from_false (b == 92) s)) (not_from_false (is_line_end b) l) in
        record {
          body = b ∷ rest.body;
          more = rest.more;
          quotable = itself b rest.body own rest.quotable refl;
          written = ap (λ (l : List ℕ). b ∷ l) rest.written;
          counted = omega (arith, rest.counted);
        }

pub closes : (quote : ℕ) (bytes : List ℕ) (n : ℕ) → closed_at quote false 0 bytes ≡ Some n → Closes quote bytes 0 n
closes quote bytes n is = ends quote false bytes 0 n is

-- a comment ends no later than a `*/` says
pub comment_ends : (body more : List ℕ) (star : Bool) (width : ℕ) → (n : ℕ) × (comment_end star width (body ++ 42 ∷ 47 ∷ more) ≡ Some n) × (n ≤ width + length body + 2)
comment_ends [] more true width = (width + 1 + 1, refl, omega arith)
comment_ends [] more false width = (width + 1 + 1, refl, omega arith)
comment_ends (b ∷ body) more false width =
    let found = comment_ends body more (b == 42) (width + 1) in
    (found.0, found.1, omega (arith, found.2))
comment_ends (b ∷ body) more true width = by_test (b == 47) (comment_ends body more (b == 42) (width + 1))
  where
    by_test : (t : Bool) → (n : ℕ) × (comment_end (b == 42) (width + 1) (body ++ 42 ∷ 47 ∷ more) ≡ Some n) × (n ≤ width + 1 + length body + 2)
        → (n : ℕ) × ((if t then Some (width + 1) else comment_end (b == 42) (width + 1) (body ++ 42 ∷ 47 ∷ more)) ≡ Some n) × (n ≤ width + length (b ∷ body) + 2)
    by_test true found = (width + 1, refl, omega arith)
    by_test false found = (found.0, found.1, omega (arith, found.2))

-- bytes in which a comment ends so many bytes on
pub record Commented (bytes : List ℕ) (width n : ℕ) : Type 0 where
  pub body : List ℕ
  pub more : List ℕ
  pub written : bytes ≡ body ++ 42 ∷ 47 ∷ more
  pub counted : n ≡ width + length body + 2

abbrev StarEnds : Bool → List ℕ → ℕ → ℕ → Type 0
StarEnds false bytes width n = Commented bytes width n
StarEnds true bytes width n = ((more : List ℕ) × (bytes ≡ 47 ∷ more) × (n ≡ width + 1)) ⊎ Commented bytes width n

further : (b : ℕ) (bytes : List ℕ) (width n : ℕ) (star : Bool) → (b == 42) ≡ star → StarEnds star bytes (width + 1) n → Commented (b ∷ bytes) width n
further b bytes width n false is rest = record { body = b ∷ rest.body; more = rest.more; written = ap (λ (l : List ℕ). b ∷ l) rest.written; counted = omega (arith, rest.counted) }
further b bytes width n true is rest = elim rest [
  | inl end ↦ let star_is : b ≡ 42 = eqb-true b 42 is in record { body = []; more = end.0; written = ap (λ (x : ℕ). x ∷ bytes) star_is ∙ ap (λ (l : List ℕ). 42 ∷ l) end.1; counted = omega (arith, end.2) }
  | inr later ↦ record { body = b ∷ later.body; more = later.more; written = ap (λ (l : List ℕ). b ∷ l) later.written; counted = omega (arith, later.counted) }
]

star_ends : (star : Bool) (bytes : List ℕ) (width n : ℕ) → comment_end star width bytes ≡ Some n → StarEnds star bytes width n
star_ends true [] width n is = absurd (cc is)
star_ends false [] width n is = absurd (cc is)
star_ends false (b ∷ bytes) width n is = further b bytes width n (b == 42) refl (star_ends (b == 42) bytes (width + 1) n is)
star_ends true (b ∷ bytes) width n is = by_test (b == 47) refl is (λ e. further b bytes width n (b == 42) refl (star_ends (b == 42) bytes (width + 1) n e))
  where
    by_test : (t : Bool) → (b == 47) ≡ t → (if t then Some (width + 1) else comment_end (b == 42) (width + 1) bytes) ≡ Some n → (comment_end (b == 42) (width + 1) bytes ≡ Some n → Commented (b ∷ bytes) width n) → StarEnds true (b ∷ bytes) width n
    by_test true slash e go = let one : n ≡ width + 1 = cc in inl (bytes, ap (λ (x : ℕ). x ∷ bytes) (eqb-true b 47 slash), one)
    by_test false slash e go = inr (go e)

pub commented : (bytes : List ℕ) (n : ℕ) → comment_end false 0 bytes ≡ Some n → Commented bytes 0 n
commented bytes n is = star_ends false bytes 0 n is
