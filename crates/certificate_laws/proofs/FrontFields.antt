-- What follows behind each field of a certificate.
use Rattle.std.proofs.Common.{◌≡◌, ℕ, suc, ◌+◌, ◌*◌, ◌/◌, ◌%◌, ◌<◌, ◌≤◌, Bool, true, false, List, [], ◌∷◌, ◌++◌, length, take, Option, Some, None, refl, sym, ap, ◌∙◌, subst, arith, ◌==◌, if◌then◌else◌, append_assoc, append-nil, nat_le, nat_lt, inl, inr}
use Rattle.std.specs.Prelude.{◌⊎◌, slice_set}
use Rattle.std.proofs.lemmas.List.{take_all}
use Rattle.std.proofs.lemmas.Bool.Decides.{nat_tests}
use Rattle.bv_term.specs.declared.term.Term.TheVariants.{Constant}
use Rattle.lv_base.specs.declared.kind.Model.TheVariants.{Ilp32, Lp64}
use Rattle.stored_text.specs.RunText.{number_text}
use Rattle.cert_text.specs.declared.letters.Form.{Form}
use Rattle.cert_text.specs.declared.letters.Operands.{Operands}
use Rattle.cert_text.specs.declared.letters.Operands.TheVariants.{Wide as OWide, One, Two, Three}
use Rattle.cert_text.specs.declared.place.Fixed.TheVariants.{Head, BeforeModel, RestIlp32, RestLp64, BeforeTerms, BeforeNodes, BeforeLogs, BeforeChains, Close}
use Rattle.cert_text.specs.declared.place.Slot.{Slot}
use Rattle.cert_text.specs.declared.place.Slot.TheVariants.{Text, High, Low, Kind, Layout, Terms, Letter, Gap, First, Second, Third, Value, Nodes, Formula, Logs, Chains, Start, Pivot, Clause, Done}
use Rattle.cert_text.specs.declared.place.Part.{Part}
use Rattle.cert_text.specs.declared.place.Part.TheVariants.{Fresh}
use Rattle.cert_text.specs.declared.steps.Act.TheVariants.{Nothing, Byte, Said as ASaid, Numbered, Begins, Pairs}
use Rattle.cert_text.specs.declared.steps.Next.TheVariants.{Refused}
use Rattle.cert_text.specs.CertText.{hex_digit, hex_text, number_line, term_text, log_text, chain_text}
use Rattle.cert_text.specs.Places.{fixed_bytes}
use Rattle.cert_text.specs.Letters.{letter_of, form_of, operands_of, term_of}
use Rattle.cert_text.specs.Fields.{hex_value}
use Rattle.cert_text.specs.Steps.{place_of, go, add, blank, line, count, moves, step_of, chains_read, first_by, second_by, letter_by, log_end, model_read, digit_by, number_read}
use Rattle.cert_text.specs.Drafts.{Said, acted}
use Rattle.cert_text.specs.Ranges.{IsShort, IsByte, TermFits}
use Rattle.certificate_laws.specs.Fits.{AllFit, LogFits}
use Rattle.certificate_laws.proofs.Fronts.{AtTerm, Known, Stands, base, chain_front, chains_front, hash_front, layout_front, log_front, logs_front, model_front, node_front, nodes_front, pair_front, pairs_open, term_front, terms_front}
use Rattle.certificate_laws.proofs.Growing.{fit_none, form_told, hex_more, hex_told, length_none, list_begins, one_fits, one_text, pairs_grow, set_length, set_takes, three_fits, three_text, two_fits, two_text, wide_letter, fit_more}
use Rattle.certificate_laws.proofs.FrontSteps.{Follows, by_blank, by_line, enter, numbered, wide_numbered, words_follow}
use Rattle.certificate_laws.proofs.FrontLists.{added, chains_whole, clause_follows, logged, mapped}

-- behind the line's end of a number
line_is : (front : List ℕ) (v b : ℕ) → b ≡ 10 → front ++ (number_text v ++ b ∷ []) ≡ front ++ number_line v
line_is front v b ten = ap (λ (k : ℕ). front ++ (number_text v ++ k ∷ [])) ten

-- a list begins behind its count
counted : (s : Said) (slot : Slot) (left chains : ℕ) (g : List ℕ) (v : ℕ) (none some : Slot)
    → (v ≡ 0 → Stands s none 0 0 Fresh g) → (0 < v → Stands s some v 0 Fresh g) → Follows s slot left chains g (count v none some)
counted s slot left chains g v none some empty full = by_test (v == 0) refl
  where
    by_test : (x : Bool) → (v == 0) ≡ x → Follows s slot left chains g (if x then go none 0 Nothing else go some v Nothing)
    by_test true e = empty (grind (arith, nat_tests))
    by_test false e = full (grind (arith, nat_tests))

short_sum : {X : Type 0} (xs : List X) (n v : ℕ) → xs ≡ [] → n ≤ v → IsShort v → IsShort (length xs + n)
short_sum xs n v none le short = let z = length_none xs none in omega (arith, z, le, short)

-- ---- Numbers

module _ (s : Said) (left chains : ℕ) (b v : ℕ) (short : IsShort v) where
  layout_read : Known s Layout left chains → Follows s Layout left chains (base s Layout left chains ++ (number_text v ++ b ∷ [])) (number_read (place_of Layout left chains) v b)
  layout_read known =
      by_line s Layout left chains _ b (go (Text BeforeTerms) 0 (Numbered v))
      (λ ten. enter (acted (Numbered v) s) (Text BeforeTerms) 0 0 _ (line_is (layout_front s) v b ten) (known.0, (known.1, short)))

  terms_read : Known s Terms left chains → Follows s Terms left chains (base s Terms left chains ++ (number_text v ++ b ∷ [])) (number_read (place_of Terms left chains) v b)
  terms_read known =
      by_line s Terms left chains _ b (count v (Text BeforeNodes) Letter)
      (λ ten.
      let front : (n : ℕ) → v ≡ n → terms_front s ++ (number_text v ++ b ∷ []) ≡ term_front s n =
      λ n is. line_is (terms_front s) v b ten ∙ (ap (λ (k : ℕ). terms_front s ++ number_line k) is ∙ ap (λ (l : List ℕ). terms_front s ++ l) (list_begins term_text s.terms n known.0.0)) in
      counted s Terms left chains _ v (Text BeforeNodes) Letter
      (λ none. enter s (Text BeforeNodes) 0 0 _ (front 0 none)
      (known.0.1, (known.1, fit_none TermFits s.terms known.0.0, short_sum s.terms 0 v known.0.0 (omega arith) short)))
      (λ some. enter s Letter v 0 _ (front v refl)
      (known.0.1, (known.1, fit_none TermFits s.terms known.0.0, short_sum s.terms v v known.0.0 (omega arith) short), some)))

  nodes_read : Known s Nodes left chains → Follows s Nodes left chains (base s Nodes left chains ++ (number_text v ++ b ∷ [])) (number_read (place_of Nodes left chains) v b)
  nodes_read known =
      by_line s Nodes left chains _ b (count v (Text BeforeLogs) Formula)
      (λ ten.
      let front : (n : ℕ) → v ≡ n → nodes_front s ++ (number_text v ++ b ∷ []) ≡ node_front s n =
      λ n is. line_is (nodes_front s) v b ten ∙ (ap (λ (k : ℕ). nodes_front s ++ number_line k) is ∙ ap (λ (l : List ℕ). nodes_front s ++ l) (list_begins number_line s.formulas n known.0.0)) in
      counted s Nodes left chains _ v (Text BeforeLogs) Formula
      (λ none. enter s (Text BeforeLogs) 0 0 _ (front 0 none)
      (known.0.1, (known.1, fit_none IsShort s.formulas known.0.0, short_sum s.formulas 0 v known.0.0 (omega arith) short)))
      (λ some. enter s Formula v 0 _ (front v refl)
      (known.0.1, (known.1, fit_none IsShort s.formulas known.0.0, short_sum s.formulas v v known.0.0 (omega arith) short), some)))

  formula_read : Known s Formula left chains → Follows s Formula left chains (base s Formula left chains ++ (number_text v ++ b ∷ [])) (number_read (place_of Formula left chains) v b)
  formula_read known = by_line s Formula left chains _ b _ (λ ten. mapped s Formula left chains left _ v known short (line_is (node_front s left) v b ten))

  logs_read : Known s Logs left chains → Follows s Logs left chains (base s Logs left chains ++ (number_text v ++ b ∷ [])) (number_read (place_of Logs left chains) v b)
  logs_read known =
      by_line s Logs left chains _ b (count v (Text Close) (Text BeforeChains))
      (λ ten.
      let front : (n : ℕ) → v ≡ n → logs_front s ++ (number_text v ++ b ∷ []) ≡ log_front s n =
      λ n is. line_is (logs_front s) v b ten ∙ (ap (λ (k : ℕ). logs_front s ++ number_line k) is ∙ ap (λ (l : List ℕ). logs_front s ++ l) (list_begins log_text s.logs n known.0.0)) in
      counted s Logs left chains _ v (Text Close) (Text BeforeChains)
      (λ none. enter s (Text Close) 0 0 _ (front 0 none) (known.1, fit_none LogFits s.logs known.0.0, short_sum s.logs 0 v known.0.0 (omega arith) short))
      (λ some. enter s (Text BeforeChains) v 0 _ (front v refl)
      (known.0.1, (known.1, fit_none LogFits s.logs known.0.0, short_sum s.logs v v known.0.0 (omega arith) short), some)))

  chains_counted : Known s Chains left chains → Follows s Chains left chains (base s Chains left chains ++ (number_text v ++ b ∷ [])) (number_read (place_of Chains left chains) v b)
  chains_counted known = by_line s Chains left chains _ b (chains_read left v) (λ ten. by_test ten (v == 0) refl)
    where
      front : (n : ℕ) → b ≡ 10 → v ≡ n → chains_front s left ++ (number_text v ++ b ∷ []) ≡ chain_front s left n
      front n ten is = line_is (chains_front s left) v b ten ∙ (ap (λ (k : ℕ). chains_front s left ++ number_line k) is
          ∙ ap (λ (l : List ℕ). chains_front s left ++ l) (list_begins chain_text s.log n known.0))

      by_test : b ≡ 10 → (x : Bool) → (v == 0) ≡ x
          → Follows s Chains left chains (chains_front s left ++ (number_text v ++ b ∷ [])) (if x then log_end left Nothing false else moves Start left v Nothing false false)
      by_test ten true e =
          let none : v ≡ 0 = grind (arith, nat_tests) in
          let few = length_none s.log known.0 in
          logged s Chains left chains left _ Nothing false s refl known.1 known.2 (omega (arith, few), fit_none _ s.log known.0) (front 0 ten none ∙ chains_whole s left)
      by_test ten false e =
          let some : 0 < v = grind (arith, nat_tests) in
          enter s Start left v _ (front v ten refl) (known.1, known.2, fit_none _ s.log known.0, short_sum s.log v v known.0 (omega arith) short, some)

  start_read : Known s Start left chains → Follows s Start left chains (base s Start left chains ++ (number_text v ++ b ∷ [])) (number_read (place_of Start left chains) v b)
  start_read known =
      clause_follows s Start left chains left chains _ b (Begins v) known (short, tt)
      (ap (λ (l : List ℕ). chain_front s left chains ++ (l ++ b ∷ [])) (sym (append-nil (number_text v)))
      ∙ sym (append_assoc (chain_front s left chains) (number_text v ++ []) (b ∷ [])))

  pivot_read : Known s Pivot left chains → Follows s Pivot left chains (base s Pivot left chains ++ (number_text v ++ b ∷ [])) (number_read (place_of Pivot left chains) v b)
  pivot_read known =
      by_blank s Pivot left chains _ b (moves (Clause v) left chains Nothing false false)
      (λ is. enter s (Clause v) left chains _
      (append_assoc (pair_front s left chains) (32 ∷ []) (number_text v ++ b ∷ []) ∙ ap (λ (k : ℕ). pair_front s left chains ++ 32 ∷ (number_text v ++ k ∷ [])) is)
      (known.0, known.1, short))

  clause_more : (p : ℕ) → Known s (Clause p) left chains → Follows s (Clause p) left chains (base s (Clause p) left chains ++ (number_text v ++ b ∷ [])) (number_read (place_of (Clause p) left chains) v b)
  clause_more p known =
      let chain = s.chain in
      let more = 32 ∷ (number_text p ++ 32 ∷ number_text v) in
      let before = chain_front s left chains in
      clause_follows s (Clause p) left chains left chains _ b (Pairs p v) known.0 (known.1.0, fit_more _ chain.pairs (p, v) known.1.1 (known.2, short))
      (append_assoc (pair_front s left chains) (32 ∷ (number_text p ++ 32 ∷ [])) (number_text v ++ b ∷ [])
      ∙ (ap (λ (l : List ℕ). pair_front s left chains ++ 32 ∷ l) (append_assoc (number_text p) (32 ∷ []) (number_text v ++ b ∷ []))
      ∙ (ap (λ (l : List ℕ). pair_front s left chains ++ 32 ∷ l) (sym (append_assoc (number_text p) (32 ∷ number_text v) (b ∷ [])))
      ∙ (sym (append_assoc (pair_front s left chains) more (b ∷ []))
      ∙ ap (λ (l : List ℕ). l ++ b ∷ []) (append_assoc before (number_text chain.first ++ pairs_open chain.pairs) more
      ∙ ap (λ (l : List ℕ). before ++ l) (append_assoc (number_text chain.first) (pairs_open chain.pairs) more
      ∙ ap (λ (l : List ℕ). number_text chain.first ++ l) (sym (pairs_grow chain.pairs p v))))))))

  -- the numbers of a term
  first_is : (f : Form) → AtTerm s left → Follows s (First f) left chains (base s (First f) left chains ++ (number_text v ++ b ∷ [])) (number_read (place_of (First f) left chains) v b)
  first_is f known = by_operands (operands_of f) refl
    where
      grown : base s (First f) left chains ++ (number_text v ++ b ∷ []) ≡ term_front s left ++ letter_of f ∷ 32 ∷ (number_text v ++ b ∷ [])
      grown = append_assoc (term_front s left) (letter_of f ∷ 32 ∷ []) (number_text v ++ b ∷ [])

      at_blank : b ≡ 32 → base s (First f) left chains ++ (number_text v ++ b ∷ []) ≡ base s (Second f v) left chains
      at_blank is = grown ∙ ap (λ (k : ℕ). term_front s left ++ letter_of f ∷ 32 ∷ (number_text v ++ k ∷ [])) is

      by_operands : (o : Operands) → operands_of f ≡ o → Follows s (First f) left chains (base s (First f) left chains ++ (number_text v ++ b ∷ [])) (first_by o left f v b)
      by_operands One e =
          by_line s (First f) left chains _ b (add left (term_of f v 0 0))
          (λ ten. added s (First f) left chains left _ (term_of f v 0 0) known (one_fits f v e short)
          (grown ∙ (ap (λ (k : ℕ). term_front s left ++ letter_of f ∷ 32 ∷ (number_text v ++ k ∷ [])) ten ∙ ap (λ (l : List ℕ). term_front s left ++ l) (sym (one_text f v e)))))
      by_operands OWide e =
          by_blank s (First f) left chains _ b (go (Value v) left Nothing)
          (λ is. enter s (Value v) left 0 _ (at_blank is ∙ ap (λ (k : ℕ). term_front s left ++ k ∷ 32 ∷ (number_text v ++ 32 ∷ [])) (wide_letter f e)) (known, short))
      by_operands Two e = by_blank s (First f) left chains _ b (go (Second f v) left Nothing) (λ is. enter s (Second f v) left 0 _ (at_blank is) (known, short, inl e))
      by_operands Three e = by_blank s (First f) left chains _ b (go (Second f v) left Nothing) (λ is. enter s (Second f v) left 0 _ (at_blank is) (known, short, inr e))

  second_is : (f : Form) (a : ℕ) → Known s (Second f a) left chains
      → Follows s (Second f a) left chains (base s (Second f a) left chains ++ (number_text v ++ b ∷ [])) (number_read (place_of (Second f a) left chains) v b)
  second_is f a known = by_operands (operands_of f) refl known.2
    where
      grown : base s (Second f a) left chains ++ (number_text v ++ b ∷ []) ≡ term_front s left ++ letter_of f ∷ 32 ∷ (number_text a ++ 32 ∷ (number_text v ++ b ∷ []))
      grown =
          append_assoc (term_front s left) (letter_of f ∷ 32 ∷ (number_text a ++ 32 ∷ [])) (number_text v ++ b ∷ [])
          ∙ ap (λ (l : List ℕ). term_front s left ++ letter_of f ∷ 32 ∷ l) (append_assoc (number_text a) (32 ∷ []) (number_text v ++ b ∷ []))

      by_operands : (o : Operands) → operands_of f ≡ o → (operands_of f ≡ Two) ⊎ (operands_of f ≡ Three)
          → Follows s (Second f a) left chains (base s (Second f a) left chains ++ (number_text v ++ b ∷ [])) (second_by o left f a v b)
      by_operands One e (inl two) = absurd (cc (sym e ∙ two))
      by_operands One e (inr three) = absurd (cc (sym e ∙ three))
      by_operands OWide e (inl two) = absurd (cc (sym e ∙ two))
      by_operands OWide e (inr three) = absurd (cc (sym e ∙ three))
      by_operands Two e some =
          by_line s (Second f a) left chains _ b (add left (term_of f a v 0))
          (λ ten. added s (Second f a) left chains left _ (term_of f a v 0) known.0 (two_fits f a v e known.1 short)
          (grown ∙ (ap (λ (k : ℕ). term_front s left ++ letter_of f ∷ 32 ∷ (number_text a ++ 32 ∷ (number_text v ++ k ∷ []))) ten
          ∙ ap (λ (l : List ℕ). term_front s left ++ l) (sym (two_text f a v e)))))
      by_operands Three e some =
          by_blank s (Second f a) left chains _ b (go (Third f a v) left Nothing)
          (λ is. enter s (Third f a v) left 0 _
          (grown ∙ ap (λ (k : ℕ). term_front s left ++ letter_of f ∷ 32 ∷ (number_text a ++ 32 ∷ (number_text v ++ k ∷ []))) is) (known.0, known.1, short, e))

  third_is : (f : Form) (a c : ℕ) → Known s (Third f a c) left chains
      → Follows s (Third f a c) left chains (base s (Third f a c) left chains ++ (number_text v ++ b ∷ [])) (number_read (place_of (Third f a c) left chains) v b)
  third_is f a c known =
      by_line s (Third f a c) left chains _ b (add left (term_of f a c v))
      (λ ten. added s (Third f a c) left chains left _ (term_of f a c v) known.0 (three_fits f a c v known.3 known.1 known.2 short)
      (append_assoc (term_front s left) (letter_of f ∷ 32 ∷ (number_text a ++ 32 ∷ (number_text c ++ 32 ∷ []))) (number_text v ++ b ∷ [])
      ∙ (ap (λ (l : List ℕ). term_front s left ++ letter_of f ∷ 32 ∷ l)
      (append_assoc (number_text a) (32 ∷ (number_text c ++ 32 ∷ [])) (number_text v ++ b ∷ [])
      ∙ ap (λ (l : List ℕ). number_text a ++ 32 ∷ l) (append_assoc (number_text c) (32 ∷ []) (number_text v ++ b ∷ [])))
      ∙ (ap (λ (k : ℕ). term_front s left ++ letter_of f ∷ 32 ∷ (number_text a ++ 32 ∷ (number_text c ++ 32 ∷ (number_text v ++ k ∷ [])))) ten
      ∙ ap (λ (l : List ℕ). term_front s left ++ l) (sym (three_text f a c v known.3))))))

-- the value of a constant
value_is : (s : Said) (left chains w b v : ℕ) → Known s (Value w) left chains → v ≤ 340282366920938463463374607431768211455
    → Follows s (Value w) left chains (base s (Value w) left chains ++ (number_text v ++ b ∷ [])) (line b (add left (Constant w v)))
value_is s left chains w b v known room =
    by_line s (Value w) left chains _ b (add left (Constant w v))
    (λ ten. added s (Value w) left chains left _ (Constant w v) known.0 (known.1, room)
    (append_assoc (term_front s left) (99 ∷ 32 ∷ (number_text w ++ 32 ∷ [])) (number_text v ++ b ∷ [])
    ∙ (ap (λ (l : List ℕ). term_front s left ++ 99 ∷ 32 ∷ l) (append_assoc (number_text w) (32 ∷ []) (number_text v ++ b ∷ []))
    ∙ ap (λ (k : ℕ). term_front s left ++ 99 ∷ 32 ∷ (number_text w ++ 32 ∷ (number_text v ++ k ∷ []))) ten)))

-- ---- Fields of one byte

-- the bytes that were read, where a field has no part
whole_read : (s : Said) (slot : Slot) (left chains : ℕ) (f : List ℕ) (b : ℕ) → f ≡ base s slot left chains ++ [] → f ++ b ∷ [] ≡ base s slot left chains ++ b ∷ []
whole_read s slot left chains f b e = ap (λ (l : List ℕ). l ++ b ∷ []) (e ∙ append-nil (base s slot left chains))

kind_read : (s : Said) (left chains : ℕ) (b : ℕ) → Known s Kind left chains → Follows s Kind left chains (model_front s ++ b ∷ []) (model_read b)
kind_read s left chains b known = by_first (b == 105) refl
  where
    by_second : (x : Bool) → (b == 108) ≡ x → Follows s Kind left chains (model_front s ++ b ∷ []) (if x then go (Text RestLp64) 0 (ASaid Lp64) else Refused)
    by_second true e =
        let is : b ≡ 108 = grind (arith, nat_tests) in
        enter (acted (ASaid Lp64) s) (Text RestLp64) 0 0 _ (ap (λ (k : ℕ). model_front s ++ k ∷ []) is) (known.0, known.1, refl)
    by_second false e = tt

    by_first : (x : Bool) → (b == 105) ≡ x
        → Follows s Kind left chains (model_front s ++ b ∷ []) (if x then go (Text RestIlp32) 0 (ASaid Ilp32) else (if b == 108 then go (Text RestLp64) 0 (ASaid Lp64) else Refused))
    by_first true e =
        let is : b ≡ 105 = grind (arith, nat_tests) in
        enter (acted (ASaid Ilp32) s) (Text RestIlp32) 0 0 _ (ap (λ (k : ℕ). model_front s ++ k ∷ []) is) (known.0, known.1, refl)
    by_first false e = by_second (b == 108) refl

letter_is : (s : Said) (left chains : ℕ) (b : ℕ) → AtTerm s left → (o : Option Form) → form_of b ≡ o → Follows s Letter left chains (term_front s left ++ b ∷ []) (letter_by left o)
letter_is s left chains b known None e = tt
letter_is s left chains b known (Some f) e = enter s (Gap f) left 0 _ (ap (λ (k : ℕ). term_front s left ++ k ∷ []) (form_told b f e)) known

gap_is : (s : Said) (left chains : ℕ) (f : Form) (b : ℕ) → AtTerm s left → Follows s (Gap f) left chains (base s (Gap f) left chains ++ b ∷ []) (blank b (go (First f) left Nothing))
gap_is s left chains f b known =
    by_blank s (Gap f) left chains _ b (go (First f) left Nothing)
    (λ is. enter s (First f) left 0 _
    (append_assoc (term_front s left) (letter_of f ∷ []) (b ∷ []) ∙ ap (λ (k : ℕ). term_front s left ++ letter_of f ∷ k ∷ []) is) known)

high_is : (s : Said) (left chains at : ℕ) (b : ℕ) → Known s (High at) left chains → (o : Option ℕ) → hex_value b ≡ o
    → Follows s (High at) left chains (base s (High at) left chains ++ b ∷ []) (digit_by (High at) o)
high_is s left chains at b known None e = tt
high_is s left chains at b known (Some d) e =
    let (is, small) = hex_told b d e in
    let half : d ≡ d * 16 / 16 = omega arith in
    enter s (Low at (d * 16)) 0 0 _ (ap (λ (k : ℕ). hash_front (take at s.hash) ++ k ∷ []) (is ∙ ap hex_digit half)) (known.0, known.1, known.2, known.3, (d, small, refl))

low_is : (s : Said) (left chains at high : ℕ) (b : ℕ) → Known s (Low at high) left chains → (o : Option ℕ) → hex_value b ≡ o
    → Follows s (Low at high) left chains (base s (Low at high) left chains ++ b ∷ []) (digit_by (Low at high) o)
low_is s left chains at high b known None e = tt
low_is s left chains at high b known (Some d) e = by_last (nat_le 31 at) refl
  where
    byte : ℕ
    byte = (high + d) % 256

    h : List ℕ
    h = (acted (Byte at byte) s).hash

    within : at < length s.hash
    within = let size = known.1 in let most = known.2 in omega (arith, size, most)

    set_is : h ≡ slice_set s.hash at byte
    set_is = let inside : nat_lt at 32 ≡ true = (let most = known.2 in grind (arith, nat_tests)) in ap (λ (x : Bool). if x then slice_set s.hash at byte else s.hash) inside

    taken : take (suc at) h ≡ take at s.hash ++ byte ∷ []
    taken = ap (λ (l : List ℕ). take (suc at) l) set_is ∙ set_takes s.hash at byte within

    size_is : length h ≡ 32
    size_is = ap length set_is ∙ (set_length s.hash at byte ∙ known.1)

    halves : (byte / 16 ≡ high / 16) × (byte % 16 ≡ d)
    halves =
        let (is, small) = hex_told b d e in
        let (x, low, same) = known.4 in
        (omega (arith, small, low, same), omega (arith, small, low, same))

    text_is : base s (Low at high) left chains ++ b ∷ [] ≡ hash_front (take (suc at) h)
    text_is =
        let (is, small) = hex_told b d e in
        let two : hex_digit (high / 16) ∷ b ∷ [] ≡ hex_digit (byte / 16) ∷ hex_digit (byte % 16) ∷ [] =
        ap (λ (k : ℕ). hex_digit (high / 16) ∷ k ∷ []) is
        ∙ (ap (λ (k : ℕ). hex_digit k ∷ hex_digit d ∷ []) (sym halves.0) ∙ ap (λ (k : ℕ). hex_digit (byte / 16) ∷ hex_digit k ∷ []) (sym halves.1)) in
        let front = fixed_bytes Head in
        append_assoc (hash_front (take at s.hash)) (hex_digit (high / 16) ∷ []) (b ∷ [])
        ∙ (ap (λ (l : List ℕ). hash_front (take at s.hash) ++ l) two
        ∙ (append_assoc front (hex_text (take at s.hash)) (hex_digit (byte / 16) ∷ hex_digit (byte % 16) ∷ [])
        ∙ ap (λ (l : List ℕ). front ++ l) (sym (hex_more (take at s.hash) byte) ∙ ap hex_text (sym taken))))

    fit : AllFit IsByte (take (suc at) h)
    fit = subst (AllFit IsByte) (sym taken) (fit_more IsByte (take at s.hash) byte known.3 (omega arith))

    by_last : (x : Bool) → nat_le 31 at ≡ x
        → Follows s (Low at high) left chains (base s (Low at high) left chains ++ b ∷ []) (if x then go (Text BeforeModel) 0 (Byte at byte) else go (High (at + 1)) 0 (Byte at byte))
    by_last true q =
        let whole : take (suc at) h ≡ h = (let least : 31 ≤ at = grind (arith, nat_tests) in take_all (suc at) h (omega (arith, size_is, least))) in
        enter (acted (Byte at byte) s) (Text BeforeModel) 0 0 _ (text_is ∙ ap hash_front whole) (known.0, (size_is, subst (AllFit IsByte) whole fit))
    by_last false q =
        let less : at < 31 = grind (arith, nat_tests) in
        let next : suc at ≡ at + 1 = omega arith in
        enter (acted (Byte at byte) s) (High (at + 1)) 0 0 _ (text_is ∙ ap (λ (k : ℕ). hash_front (take k h)) next)
        (known.0, size_is, omega (arith, less), subst (λ (k : ℕ). AllFit IsByte (take k h)) next fit)

-- ---- Any field

pub follows : (s : Said) (slot : Slot) (left chains : ℕ) (part : Part) (f : List ℕ) (b : ℕ) → Stands s slot left chains part f
    → Follows s slot left chains (f ++ b ∷ []) (step_of (place_of slot left chains) part b)
follows s (Text t) left chains part f b h = words_follow s t left chains part f b h
follows s (High at) left chains part f b h =
    subst (λ (g : List ℕ). Follows s (High at) left chains g (digit_by (High at) (hex_value b))) (sym (whole_read s (High at) left chains f b h.read))
    (high_is s left chains at b h.known (hex_value b) refl)
follows s (Low at high) left chains part f b h =
    subst (λ (g : List ℕ). Follows s (Low at high) left chains g (digit_by (Low at high) (hex_value b))) (sym (whole_read s (Low at high) left chains f b h.read))
    (low_is s left chains at high b h.known (hex_value b) refl)
follows s Kind left chains part f b h =
    subst (λ (g : List ℕ). Follows s Kind left chains g (model_read b)) (sym (whole_read s Kind left chains f b h.read)) (kind_read s left chains b h.known)
follows s Letter left chains part f b h =
    subst (λ (g : List ℕ). Follows s Letter left chains g (letter_by left (form_of b))) (sym (whole_read s Letter left chains f b h.read))
    (letter_is s left chains b h.known (form_of b) refl)
follows s (Gap form) left chains part f b h =
    subst (λ (g : List ℕ). Follows s (Gap form) left chains g (blank b (go (First form) left Nothing))) (sym (whole_read s (Gap form) left chains f b h.read))
    (gap_is s left chains form b h.known)
follows s Done left chains part f b h = tt
follows s Layout left chains part f b h = numbered s Layout left chains f b part h (λ p. refl) refl (λ v short. layout_read s left chains b v short h.known)
follows s Terms left chains part f b h = numbered s Terms left chains f b part h (λ p. refl) refl (λ v short. terms_read s left chains b v short h.known)
follows s (First form) left chains part f b h = numbered s (First form) left chains f b part h (λ p. refl) refl (λ v short. first_is s left chains b v short form h.known)
follows s (Second form a) left chains part f b h = numbered s (Second form a) left chains f b part h (λ p. refl) refl (λ v short. second_is s left chains b v short form a h.known)
follows s (Third form a c) left chains part f b h = numbered s (Third form a c) left chains f b part h (λ p. refl) refl (λ v short. third_is s left chains b v short form a c h.known)
follows s (Value w) left chains part f b h = wide_numbered s (Value w) left chains f b part w h (λ p. refl) refl (λ v room. value_is s left chains w b v h.known room)
follows s Nodes left chains part f b h = numbered s Nodes left chains f b part h (λ p. refl) refl (λ v short. nodes_read s left chains b v short h.known)
follows s Formula left chains part f b h = numbered s Formula left chains f b part h (λ p. refl) refl (λ v short. formula_read s left chains b v short h.known)
follows s Logs left chains part f b h = numbered s Logs left chains f b part h (λ p. refl) refl (λ v short. logs_read s left chains b v short h.known)
follows s Chains left chains part f b h = numbered s Chains left chains f b part h (λ p. refl) refl (λ v short. chains_counted s left chains b v short h.known)
follows s Start left chains part f b h = numbered s Start left chains f b part h (λ p. refl) refl (λ v short. start_read s left chains b v short h.known)
follows s Pivot left chains part f b h = numbered s Pivot left chains f b part h (λ p. refl) refl (λ v short. pivot_read s left chains b v short h.known)
follows s (Clause p) left chains part f b h = numbered s (Clause p) left chains f b part h (λ q. refl) refl (λ v short. clause_more s left chains b v short p h.known)
