-- A source divides in one way, and the lexer's definition follows it.
use Rattle.std.proofs.Common.{◌≡◌, ℕ, zero, suc, ◌+◌, ◌-◌, ◌<◌, ◌≤◌, List, [], ◌∷◌, ◌++◌, length, take, drop, refl, sym, ◌∙◌, ap, subst, arith, Bool, true, false, inl, inr, ◌⊎◌, append_assoc, append-nil, length-append, length-drop, length-take-le, get_or, drop_of_length-le}
use Rattle.std.specs.Prelude.{if◌then◌else◌, Option, Some, None, Ok, Err}
use Rattle.std.proofs.Math.Seq.{take-append-add}
use Rattle.std.proofs.lemmas.Bool.{cases_lt, lt-ltb, le-ltb}
use Rattle.std.proofs.lemmas.List.{drop_more, drop-drop, take-append-drop}
use Rattle.lv_base.specs.declared.fail.SourceFail.TheVariants.{Fault as AFault, Over, Memory}
use Rattle.lv_base.specs.declared.fault.SourceFault.{SourceFault}
use Rattle.c_lexer.specs.Lexed.{token_of, lexed_from, lexed}
use Rattle.c_lexer.specs.declared.token.Token.{Token as AToken}
use Rattle.c_lexer.specs.declared.token.TokenKind.{TokenKind}
use Rattle.c_tokens.specs.Divisions.{Piece, width, Stands, Divided, tokens_in, end_token, Tokens, LexFault, MoreTokens, Fits}
use Rattle.c_tokens.specs.Divisions.Piece.{Gap, Lexed}
use Rattle.c_tokens.specs.Faults.{IsFault}
use Rattle.c_tokens.specs.Forms.{IsGap, IsToken}
use Rattle.c_tokens.specs.Forms.IsGap.{a_blank, a_comment, a_line_comment, a_marker_line}
use Rattle.c_tokens.proofs.ExactSights.{gap_sight, token_sight, fault_sight}
use Rattle.c_tokens.proofs.Flags.{flag_after, flag_append, lexeme_flag}
use Rattle.c_tokens.proofs.Lexemes.{empty_lexeme}
use Rattle.c_tokens.proofs.Sights.{Sight, sight_of, told, sight_same, Answer}
use Rattle.c_tokens.proofs.Sights.Sight.{Skip, Token, Fault}
use Rattle.c_tokens.proofs.SoundSights.{Sees, sees}

gap_fits : (before rest : List ℕ) (n : ℕ) → IsGap before rest n → (0 < n) × (n ≤ length rest)
gap_fits before rest n (a_blank b blank begins one) = (omega arith, omega (arith, ap length begins.1))
gap_fits before rest zero (a_comment s) = absurd (cc s.formed.1)
gap_fits before rest (suc n) (a_comment s) = (omega arith, s.there)
gap_fits before rest zero (a_line_comment l) = absurd (cc l.formed.1)
gap_fits before rest (suc n) (a_line_comment l) = (omega arith, l.there)
gap_fits before rest zero (a_marker_line starts marker l) = absurd (cc l.formed.1)
gap_fits before rest (suc n) (a_marker_line starts marker l) = (omega arith, l.there)

token_fits : (rest : List ℕ) (kind : TokenKind) (n : ℕ) → IsToken rest kind n → (0 < n) × (n ≤ length rest)
token_fits rest kind zero t = absurd (empty_lexeme t.longest.formed)
token_fits rest kind (suc n) t = (omega arith, t.longest.there)

-- the bytes that a step passed are passed over
inside : (k : ℕ) (fresh : Bool) (at : ℕ) (before : List AToken) (bytes : List ℕ) → k ≤ length bytes → lexed_from k fresh at before bytes ≡ lexed_from zero fresh (at + k) before (drop k bytes)
inside zero fresh at before bytes le = let z : at + 0 ≡ at = omega arith in rw z refl
inside (suc k) fresh at before [] le = absurd (omega arith)
inside (suc k) fresh at before (b ∷ bytes) le =
    let n : at + 1 + k ≡ at + suc k = omega arith in
    inside k fresh (at + 1) before bytes (omega arith) ∙ ap (λ (i : ℕ). lexed_from zero fresh i before (drop k bytes)) n

past : (w at : ℕ) (fresh : Bool) (before : List AToken) (b : ℕ) (rest : List ℕ) → 0 < w → w ≤ length (b ∷ rest) → lexed_from (w - 1) fresh (at + 1) before rest ≡ lexed_from zero fresh (at + w) before (drop w (b ∷ rest))
past zero at fresh before b rest some fits = absurd (omega arith)
past (suc k) at fresh before b rest some fits =
    let k_is : suc k - 1 ≡ k = omega arith in
    let n : at + 1 + k ≡ at + suc k = omega arith in
    rw k_is (inside k fresh (at + 1) before rest (omega arith) ∙ ap (λ (i : ℕ). lexed_from zero fresh i before (drop k rest)) n)

abbrev pub Stops : List ℕ → ℕ → Option SourceFault → Type 0
Stops source end None = end ≡ length source
Stops source end (Some fault) = (end < length source) × IsFault fault (take end source) (drop end source)

module _ (source : List ℕ) where
  abbrev flag : ℕ → Bool
  flag at = flag_after true (take at source)

  opened : (at : ℕ) → at < length source → drop at source ≡ get_or source at 0 ∷ drop (at + 1) source
  opened at lt = drop_more source at 0 lt

  here : (at : ℕ) → at < length source → Sees (flag at) (take at source) (drop at source) (sight_of (flag at) (drop at source))
  here at lt = subst (λ (l : List ℕ). Sees (flag at) (take at source) l (sight_of (flag at) l)) (sym (opened at lt)) (sees (flag at) (take at source) (get_or source at 0) (drop (at + 1) source) refl)

  further : (at n : ℕ) → at ≤ length source → flag (at + n) ≡ flag_after (flag at) (take n (drop at source))
  further at n within =
      let long : length (take at source) ≡ at = length-take-le at source within in
      let parts : take (at + n) source ≡ take at source ++ take n (drop at source) =
      ap (λ (k : ℕ). take (k + n) source) (sym long) ∙ ap (λ (l : List ℕ). take (length (take at source) + n) l) (sym (take-append-drop at source)) ∙ take-append-add (take at source) (drop at source) n in
      ap (flag_after true) parts ∙ flag_append true (take at source) (take n (drop at source))

  before_end : (at n : ℕ) → 0 < n → n ≤ length (drop at source) → at + n ≤ length source
  before_end at n some fits = omega (arith, length-drop at source)

  -- one turn of the lexer's definition
  turned : (at : ℕ) (list : List AToken) (sight : Sight) → at < length source → sight_of (flag at) (drop at source) ≡ sight
      → lexed_from zero (flag at) at list (drop at source) ≡ told sight at list (λ w next tokens. lexed_from (w - 1) next (at + 1) tokens (drop (at + 1) source))
  turned at list sight lt is =
      let b = get_or source at 0 in
      let rest = drop (at + 1) source in
      let seen_so : sight_of (flag at) (b ∷ rest) ≡ sight = ap (sight_of (flag at)) (sym (opened at lt)) ∙ is in
      ap (λ (l : List ℕ). lexed_from zero (flag at) at list l) (opened at lt)
      ∙ sight_same at list (λ w next tokens. lexed_from (w - 1) next (at + 1) tokens rest) (flag at) (b ∷ rest)
      ∙ ap (λ (s : Sight). told s at list (λ w next tokens. lexed_from (w - 1) next (at + 1) tokens rest)) seen_so

  passed : (at n : ℕ) (next : Bool) (list : List AToken) → at < length source → 0 < n → n ≤ length (drop at source) → flag (at + n) ≡ next
      → lexed_from (n - 1) next (at + 1) list (drop (at + 1) source) ≡ lexed_from zero (flag (at + n)) (at + n) list (drop (at + n) source)
  passed at n next list lt some fits up =
      let b = get_or source at 0 in
      let rest = drop (at + 1) source in
      let within : n ≤ length (b ∷ rest) = omega (arith, fits, length-drop at source, length-drop (at + 1) source) in
      past n at next list b rest some within
      ∙ ap (λ (l : List ℕ). lexed_from zero next (at + n) list l) (ap (λ (l : List ℕ). drop n l) (sym (opened at lt)) ∙ drop-drop n at source)
      ∙ ap (λ (t : Bool). lexed_from zero t (at + n) list (drop (at + n) source)) (sym up)

  gap_turn : (at n : ℕ) (list : List AToken) → IsGap (take at source) (drop at source) n → lexed_from zero (flag at) at list (drop at source) ≡ lexed_from zero (flag (at + n)) (at + n) list (drop (at + n) source)
  gap_turn at n list gap =
      let fits = gap_fits (take at source) (drop at source) n gap in
      let lt : at < length source = omega (arith, fits.0, fits.1, length-drop at source) in
      let s = gap_sight (flag at) (take at source) (drop at source) n refl gap in
      let seen_so : Sees (flag at) (take at source) (drop at source) (Skip n s.0) = subst (λ (x : Sight). Sees (flag at) (take at source) (drop at source) x) s.1 (here at lt) in
      let up : flag (at + n) ≡ s.0 = further at n (omega arith) ∙ seen_so.1 in
      turned at list (Skip n s.0) lt s.1 ∙ passed at n s.0 list lt fits.0 fits.1 up

  token_turn : (at n : ℕ) (kind : TokenKind) (list : List AToken) → length list < 200000 → IsToken (drop at source) kind n
      → lexed_from zero (flag at) at list (drop at source) ≡ lexed_from zero (flag (at + n)) (at + n) (list ++ token_of kind at (at + n) ∷ []) (drop (at + n) source)
  token_turn at n kind list room token =
      let fits = token_fits (drop at source) kind n token in
      let lt : at < length source = omega (arith, fits.0, fits.1, length-drop at source) in
      let up : flag (at + n) ≡ false = further at n (omega arith) ∙ lexeme_flag (take n (drop at source)) (flag at) token.longest.formed in
      turned at list (Token kind n) lt (token_sight (flag at) (drop at source) kind n token)
      ∙ ap (λ (t : Bool). if t then lexed_from (n - 1) false (at + 1) (list ++ token_of kind at (at + n) ∷ []) (drop (at + 1) source) else Err (Over 2 200001)) (lt-ltb (length list) 200000 room)
      ∙ passed at n false (list ++ token_of kind at (at + n) ∷ []) lt fits.0 fits.1 up

  full_turn : (at n : ℕ) (kind : TokenKind) (list : List AToken) → 200000 ≤ length list → IsToken (drop at source) kind n → lexed_from zero (flag at) at list (drop at source) ≡ Err (Over 2 200001)
  full_turn at n kind list full token =
      let fits = token_fits (drop at source) kind n token in
      let lt : at < length source = omega (arith, fits.0, fits.1, length-drop at source) in
      turned at list (Token kind n) lt (token_sight (flag at) (drop at source) kind n token)
      ∙ ap (λ (t : Bool). if t then lexed_from (n - 1) false (at + 1) (list ++ token_of kind at (at + n) ∷ []) (drop (at + 1) source) else Err (Over 2 200001)) (le-ltb (length list) 200000 full)

  fault_turn : (at : ℕ) (fault : SourceFault) (list : List AToken) → at < length source → IsFault fault (take at source) (drop at source) → lexed_from zero (flag at) at list (drop at source) ≡ Err (AFault fault at)
  fault_turn at fault list lt is = turned at list (Fault fault) lt (fault_sight (flag at) fault (take at source) (drop at source) refl is)

  end_turn : (list : List AToken) → lexed_from zero (flag (length source)) (length source) list (drop (length source) source) ≡ Ok (list ++ end_token source ∷ [])
  end_turn list = ap (λ (l : List ℕ). lexed_from zero (flag (length source)) (length source) list l) (drop_of_length-le source (omega arith))

  -- a division is passed through
  passes : (pieces : List Piece) (at end : ℕ) (list : List AToken) → Divided source at pieces end → length list + length (tokens_in at pieces) ≤ 200000
      → lexed_from zero (flag at) at list (drop at source) ≡ lexed_from zero (flag end) end (list ++ tokens_in at pieces) (drop end source)
  passes [] at end list divided few =
      ap (λ (e : ℕ). lexed_from zero (flag e) e list (drop e source)) divided ∙ ap (λ (l : List AToken). lexed_from zero (flag end) end l (drop end source)) (sym (append-nil list))
  passes (Gap n ∷ pieces) at end list divided few = gap_turn at n list divided.0 ∙ passes pieces (at + n) end list divided.1 few
  passes (Lexed kind n ∷ pieces) at end list divided few =
      let token : AToken = token_of kind at (at + n) in
      token_turn at n kind list (omega arith) divided.0
      ∙ passes pieces (at + n) end (list ++ token_of kind at (at + n) ∷ []) divided.1 (omega (arith, length-append list (token_of kind at (at + n) ∷ [])))
      ∙ ap (λ (l : List AToken). lexed_from zero (flag end) end l (drop end source)) (append_assoc list (token_of kind at (at + n) ∷ []) (tokens_in (at + n) pieces))

  -- every source divides up to its end or a fault
  abbrev pub Found : ℕ → Type 0
  Found at = (pieces : List Piece) × (end : ℕ) × (stop : Option SourceFault) × Divided source at pieces end × Stops source end stop

  pub found : (fuel at : ℕ) → at ≤ length source → length source - at ≤ fuel → Found at
  found zero at within small = ([], at, None, refl, omega arith)
  found (suc fuel) at within small = elim (cases_lt at (length source)) [
    | inr ge ↦ ([], at, None, refl, omega arith)
    | inl lt ↦ by_sight lt (sight_of (flag at) (drop at source)) (here at lt) (λ n some fits. found fuel (at + n) fits (omega arith))
  ]
    where
      by_sight : at < length source → (s : Sight) → Sees (flag at) (take at source) (drop at source) s → ((n : ℕ) → 0 < n → at + n ≤ length source → Found (at + n)) → Found at
      by_sight lt (Skip n next) s go =
          let fits = gap_fits (take at source) (drop at source) n s.0 in
          let rest = go n fits.0 (before_end at n fits.0 fits.1) in
          (Gap n ∷ rest.0, rest.1, rest.2, (s.0, rest.3), rest.4)
      by_sight lt (Token kind n) s go =
          let fits = token_fits (drop at source) kind n s in
          let rest = go n fits.0 (before_end at n fits.0 fits.1) in
          (Lexed kind n ∷ rest.0, rest.1, rest.2, (s, rest.3), rest.4)
      by_sight lt (Fault fault) s go = ([], at, Some fault, refl, (lt, s))

  -- and in one way alone
  stands_there : (at : ℕ) (piece : Piece) → Stands source at piece → at < length source
  stands_there at (Gap n) s = let fits = gap_fits (take at source) (drop at source) n s in omega (arith, fits.0, fits.1, length-drop at source)
  stands_there at (Lexed kind n) s = let fits = token_fits (drop at source) kind n s in omega (arith, fits.0, fits.1, length-drop at source)

  no_stop : (at : ℕ) (piece : Piece) (stop : Option SourceFault) → Stands source at piece → Stops source at stop → ⊥
  no_stop at piece None s stops = let lt = stands_there at piece s in omega (arith, lt, stops)
  no_stop at (Gap n) (Some fault) s stops = let g = gap_sight (flag at) (take at source) (drop at source) n refl s in cc (sym g.1 ∙ fault_sight (flag at) fault (take at source) (drop at source) refl stops.1)
  no_stop at (Lexed kind n) (Some fault) s stops = cc (sym (token_sight (flag at) (drop at source) kind n s) ∙ fault_sight (flag at) fault (take at source) (drop at source) refl stops.1)

  one_stop : (at : ℕ) (x y : Option SourceFault) → Stops source at x → Stops source at y → x ≡ y
  one_stop at None None s t = refl
  one_stop at None (Some fault) s t = absurd (omega (arith, s, t.0))
  one_stop at (Some fault) None s t = absurd (omega (arith, s.0, t))
  one_stop at (Some fault) (Some other) s t =
      let same : Fault fault ≡ Fault other = sym (fault_sight (flag at) fault (take at source) (drop at source) refl s.1) ∙ fault_sight (flag at) other (take at source) (drop at source) refl t.1 in
      cc same

  one_piece : (at : ℕ) (p q : Piece) → Stands source at p → Stands source at q → p ≡ q
  one_piece at (Gap m) (Gap n) s t =
      let a = gap_sight (flag at) (take at source) (drop at source) m refl s in
      let b = gap_sight (flag at) (take at source) (drop at source) n refl t in
      let same : Skip m a.0 ≡ Skip n b.0 = sym a.1 ∙ b.1 in
      let width_same : m ≡ n = cc same in
      ap (λ (k : ℕ). Gap k) width_same
  one_piece at (Gap m) (Lexed kind n) s t = let a = gap_sight (flag at) (take at source) (drop at source) m refl s in absurd (cc (sym a.1 ∙ token_sight (flag at) (drop at source) kind n t))
  one_piece at (Lexed kind m) (Gap n) s t = let b = gap_sight (flag at) (take at source) (drop at source) n refl t in absurd (cc (sym b.1 ∙ token_sight (flag at) (drop at source) kind m s))
  one_piece at (Lexed kind m) (Lexed other n) s t =
      let same : Token kind m ≡ Token other n = sym (token_sight (flag at) (drop at source) kind m s) ∙ token_sight (flag at) (drop at source) other n t in
      let kinds : kind ≡ other = cc same in
      let widths : m ≡ n = cc same in
      ap (λ (k : TokenKind). Lexed k m) kinds ∙ ap (λ (k : ℕ). Lexed other k) widths

  pub one_division : (ps qs : List Piece) (at e d : ℕ) (x y : Option SourceFault) → Divided source at ps e → Stops source e x → Divided source at qs d → Stops source d y → (ps ≡ qs) × (e ≡ d) × (x ≡ y)
  one_division [] [] at e d x y p s q t =
      let same : e ≡ d = sym p ∙ q in
      (refl, same, one_stop d x y (subst (λ (k : ℕ). Stops source k x) same s) t)
  one_division [] (b ∷ qs) at e d x y p s q t = absurd (no_stop at b x q.0 (subst (λ (k : ℕ). Stops source k x) (sym p) s))
  one_division (a ∷ ps) [] at e d x y p s q t = absurd (no_stop at a y p.0 (subst (λ (k : ℕ). Stops source k y) (sym q) t))
  one_division (a ∷ ps) (b ∷ qs) at e d x y p s q t =
      let same : a ≡ b = one_piece at a b p.0 q.0 in
      let rest = one_division ps qs (at + width a) e d x y p.1 s (subst (λ (k : Piece). Divided source (at + width k) qs d) (sym same) q.1) t in
      (ap (λ (k : Piece). k ∷ ps) same ∙ ap (λ (l : List Piece). b ∷ l) rest.0, rest.1, rest.2)

  -- the piece that is one token too many
  abbrev Split : ℕ → ℕ → Type 0
  Split at count = (ps : List Piece) × (mid : ℕ) × (kind : TokenKind) × (n : ℕ) × Divided source at ps mid × IsToken (drop mid source) kind n × (length (tokens_in at ps) ≡ count)

  split : (pieces : List Piece) (at end count : ℕ) → count < length (tokens_in at pieces) → Divided source at pieces end → Split at count
  split [] at end count more divided = absurd (omega arith)
  split (Gap n ∷ pieces) at end count more divided =
      let rest = split pieces (at + n) end count more divided.1 in
      (Gap n ∷ rest.0, rest.1, rest.2, rest.3, (divided.0, rest.4), rest.5, rest.6)
  split (Lexed kind n ∷ pieces) at end zero more divided = ([], at, kind, n, refl, divided.0, refl)
  split (Lexed kind n ∷ pieces) at end (suc count) more divided =
      let rest = split pieces (at + n) end count (omega arith) divided.1 in
      (Lexed kind n ∷ rest.0, rest.1, rest.2, rest.3, (divided.0, rest.4), rest.5, ap (λ (k : ℕ). suc k) rest.6)

  -- what the lexer's definition gives, by the division
  whole_list : (pieces : List Piece) → Divided source 0 pieces (length source) → length (tokens_in 0 pieces) ≤ 200000 → lexed_from zero true zero [] source ≡ Ok (tokens_in 0 pieces ++ end_token source ∷ [])
  whole_list pieces divided few = passes pieces 0 (length source) [] divided (omega arith) ∙ end_turn (tokens_in 0 pieces)

  whole_fault : (pieces : List Piece) (end : ℕ) (fault : SourceFault) → Divided source 0 pieces end → end < length source → IsFault fault (take end source) (drop end source) → length (tokens_in 0 pieces) ≤ 200000 → lexed_from zero true zero [] source ≡ Err (AFault fault end)
  whole_fault pieces end fault divided lt stands few = passes pieces 0 end [] divided (omega arith) ∙ fault_turn end fault (tokens_in 0 pieces) lt stands

  whole_over : MoreTokens source 200000 → lexed_from zero true zero [] source ≡ Err (Over 2 200001)
  whole_over m = passes m.pieces 0 m.at [] m.divided (omega (arith, m.counted)) ∙ full_turn m.at m.n m.kind (tokens_in 0 m.pieces) (omega (arith, m.counted)) m.token

  small_lexed : length source ≤ 1048576 → lexed source ≡ lexed_from zero true zero [] source
  small_lexed small = ap (λ (t : Bool). if t then Err (Over 1 (length source)) else lexed_from zero true zero [] source) (le-ltb 1048576 (length source) small)

  large_lexed : 1048576 < length source → lexed source ≡ Err (Over 1 (length source))
  large_lexed large = ap (λ (t : Bool). if t then Err (Over 1 (length source)) else lexed_from zero true zero [] source) (lt-ltb 1048576 (length source) large)

  lexed_fits : Fits source (lexed source)
  lexed_fits = elim (cases_lt 1048576 (length source)) [
    | inl large ↦ subst (Fits source) (sym (large_lexed large)) (inl (large, refl, refl))
    | inr small ↦ subst (Fits source) (sym (small_lexed small)) (by_division small (found (length source) 0 (omega arith) (omega arith)))
  ]
    where
      by_stop : length source ≤ 1048576 → (pieces : List Piece) (end : ℕ) (stop : Option SourceFault) → Divided source 0 pieces end → Stops source end stop → length (tokens_in 0 pieces) ≤ 200000 → Fits source (lexed_from zero true zero [] source)
      by_stop small pieces end None divided stops few =
          let whole : Divided source 0 pieces (length source) = subst (λ (k : ℕ). Divided source 0 pieces k) stops divided in
          subst (Fits source) (sym (whole_list pieces whole few))
          (small, record { pieces = pieces; divided = whole; listed = refl }, omega (arith, length-append (tokens_in 0 pieces) (end_token source ∷ [])))
      by_stop small pieces end (Some fault) divided stops few =
          subst (Fits source) (sym (whole_fault pieces end fault divided stops.0 stops.1 few))
          (small, (length (tokens_in 0 pieces), record { pieces = pieces; divided = divided; inside = stops.0; stands = stops.1; counted = refl }, few))

      by_division : length source ≤ 1048576 → Found 0 → Fits source (lexed_from zero true zero [] source)
      by_division small f = elim (cases_lt 200000 (length (tokens_in 0 f.0))) [
        | inl more ↦
            let s = split f.0 0 f.1 200000 more f.3 in
            let m : MoreTokens source 200000 = record { pieces = s.0; at = s.1; kind = s.2; n = s.3; divided = s.4; token = s.5; counted = s.6 } in
            subst (Fits source) (sym (whole_over m)) (inr (small, m, refl, refl))
        | inr few ↦ by_stop small f.0 f.1 f.2 f.3 f.4 few
      ]

  fits_lexed : (answer : Answer) → Fits source answer → lexed source ≡ answer
  fits_lexed (Ok list) fits =
      let t : Tokens source list = fits.1 in
      let few : length (tokens_in 0 t.pieces) ≤ 200000 = omega (arith, fits.2, ap length t.listed, length-append (tokens_in 0 t.pieces) (end_token source ∷ [])) in
      small_lexed fits.0 ∙ whole_list t.pieces t.divided few ∙ ap (λ (l : List AToken). Ok l) (sym t.listed)
  fits_lexed (Err (AFault fault at)) fits =
      let f : LexFault source fault at fits.1.0 = fits.1.1 in
      small_lexed fits.0 ∙ whole_fault f.pieces at fault f.divided f.inside f.stands (omega (arith, fits.1.2, f.counted))
  fits_lexed (Err (Over number count)) (inl p) = large_lexed p.0 ∙ ap (λ (k : ℕ). Err (Over k (length source))) (sym p.1) ∙ ap (λ (k : ℕ). Err (Over number k)) (sym p.2)
  fits_lexed (Err (Over number count)) (inr p) = small_lexed p.0 ∙ whole_over p.1 ∙ ap (λ (k : ℕ). Err (Over k 200001)) (sym p.2) ∙ ap (λ (k : ℕ). Err (Over number k)) (sym p.3)
  fits_lexed (Err Memory) fits = absurd fits

  pub is_lexed_of : (answer : Answer) → (lexed source ≡ answer → Fits source answer) × (Fits source answer → lexed source ≡ answer)
  is_lexed_of answer = (λ e. subst (Fits source) e lexed_fits, fits_lexed answer)

  pub has_one_of : ((list : List AToken) × Tokens source list) ⊎ ((fault : SourceFault) × (at : ℕ) × (count : ℕ) × LexFault source fault at count)
  has_one_of = let f = found (length source) 0 (omega arith) (omega arith) in by_stop f.0 f.1 f.2 f.3 f.4
    where
      by_stop : (pieces : List Piece) (end : ℕ) (stop : Option SourceFault) → Divided source 0 pieces end → Stops source end stop → ((list : List AToken) × Tokens source list) ⊎ ((fault : SourceFault) × (at : ℕ) × (count : ℕ) × LexFault source fault at count)
      by_stop pieces end None divided stops =
          inl (tokens_in 0 pieces ++ end_token source ∷ [], record { pieces = pieces; divided = subst (λ (k : ℕ). Divided source 0 pieces k) stops divided; listed = refl })
      by_stop pieces end (Some fault) divided stops = inr (fault, end, length (tokens_in 0 pieces), record { pieces = pieces; divided = divided; inside = stops.0; stands = stops.1; counted = refl })

  pub one_list : (a b : List AToken) → Tokens source a → Tokens source b → a ≡ b
  one_list a b p q =
      let same = one_division p.pieces q.pieces 0 (length source) (length source) None None p.divided refl q.divided refl in
      p.listed ∙ ap (λ (ps : List Piece). tokens_in 0 ps ++ end_token source ∷ []) same.0 ∙ sym q.listed

  pub one_fault : (a b : SourceFault) (i j m n : ℕ) → LexFault source a i m → LexFault source b j n → (a ≡ b) × (i ≡ j) × (m ≡ n)
  one_fault a b i j m n p q =
      let same = one_division p.pieces q.pieces 0 i j (Some a) (Some b) p.divided (p.inside, p.stands) q.divided (q.inside, q.stands) in
      let faults : a ≡ b = cc same.2 in
      (faults, same.1, sym p.counted ∙ ap (λ (ps : List Piece). length (tokens_in 0 ps)) same.0 ∙ q.counted)

  pub not_both : (list : List AToken) (fault : SourceFault) (at count : ℕ) → Tokens source list → LexFault source fault at count → ⊥
  not_both list fault at count p q =
      let same = one_division p.pieces q.pieces 0 (length source) at None (Some fault) p.divided refl q.divided (q.inside, q.stands) in
      cc same.2
