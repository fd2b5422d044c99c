-- What was read of a certificate can go on to a whole one.
use Rattle.std.proofs.Common.{◌≡◌, ℕ, zero, suc, ◌+◌, ◌-◌, ◌%◌, ◌<◌, ◌≤◌, Bool, true, false, List, [], ◌∷◌, length, Option, Some, refl, ap, ◌∙◌, arith, ◌==◌, if◌then◌else◌, nat_le}
use Rattle.std.specs.Prelude.{option_and_then, slice_index}
use Rattle.std.proofs.lemmas.Bool.Decides.{nat_tests}
use Rattle.bv_term.specs.declared.term.Term.{Term}
use Rattle.bv_term.specs.declared.term.Term.TheVariants.{Constant}
use Rattle.cert_text.specs.declared.letters.Form.{Form}
use Rattle.cert_text.specs.declared.letters.Form.TheVariants.{Cell as FCell}
use Rattle.cert_text.specs.declared.letters.Operands.{Operands}
use Rattle.cert_text.specs.declared.letters.Operands.TheVariants.{Wide as OWide, One, Two, Three}
use Rattle.cert_text.specs.declared.place.Fixed.{Fixed}
use Rattle.cert_text.specs.declared.place.Fixed.TheVariants.{Head, BeforeModel, RestIlp32, RestLp64, BeforeTerms, BeforeNodes, BeforeLogs, BeforeChains, Close}
use Rattle.cert_text.specs.declared.place.Slot.{Slot}
use Rattle.cert_text.specs.declared.place.Slot.TheVariants.{Text, High, Low, Kind, Layout, Terms, Letter, Gap, First, Second, Third, Value, Nodes, Formula, Logs, Chains, Start, Pivot, Clause, Done}
use Rattle.cert_text.specs.declared.place.Part.{Part}
use Rattle.cert_text.specs.declared.place.Part.TheVariants.{Fresh, Matched, Digits, WideDigits}
use Rattle.cert_text.specs.declared.place.Want.TheVariants.{Number}
use Rattle.cert_text.specs.declared.field.More.TheVariants.{Refused as MRefused, Part as MPart, Text as MText}
use Rattle.cert_text.specs.declared.steps.Act.{Act}
use Rattle.cert_text.specs.declared.steps.Act.TheVariants.{Nothing, Byte, Adds, Maps, Begins}
use Rattle.cert_text.specs.declared.steps.Next.{Next}
use Rattle.cert_text.specs.declared.steps.Next.TheVariants.{Refused, Part as NPart, Moves}
use Rattle.cert_text.specs.Letters.{operands_of, term_of}
use Rattle.cert_text.specs.Places.{fixed_bytes, is_done_at, next_slot, want_of}
use Rattle.cert_text.specs.Steps.{place_of, go, moves, add, count, less, log_end, chain_end, chains_read, first_by, second_by, low_read, matched_of, moved_by, step_of}
use Rattle.cert_text.specs.Drafts.{Said, applied}
use Rattle.certificate_laws.proofs.Walks.{State, at, moved, step, walk}
use Rattle.certificate_laws.proofs.Fronts.{PartFits}

-- bytes lead from here to an end
abbrev pub Ends : State → Type 0
Ends s = (more : List ℕ) × ((q : State) × (walk s more ≡ Some q) × (is_done_at q.place.slot ≡ true))

-- whatever was said
abbrev EndsAt : Slot → ℕ → ℕ → Part → Type 0
EndsAt slot left chains part = (s : Said) → Ends (at s (place_of slot left chains) part)

one : (s r : State) (b : ℕ) → step s b ≡ Some r → Ends r → Ends s
one s r b e (more, (q, w, d)) = (b ∷ more, (q, ap (λ (o : Option State). option_and_then (λ q. walk q more) o) e ∙ w, d))

abbrev EndsBy : Said → Next → Type 0
EndsBy s Refused = ⊥
EndsBy s (NPart part) = ⊥
EndsBy s (Moves m) = Ends (at (applied m s) m.to Fresh)

by_move : (s : State) (b : ℕ) (n : Next) → step_of s.place s.part b ≡ n → EndsBy s.said n → Ends s
by_move s b Refused e h = absurd h
by_move s b (NPart part) e h = absurd h
by_move s b (Moves m) e h = one s (at (applied m s.said) m.to Fresh) b (ap (moved s) e) h

-- ---- Words

-- the bytes of words that are left
words_left : (fuel : ℕ) (s : Said) (t : Fixed) (left chains : ℕ) (part : Part) → matched_of part < length (fixed_bytes t) → length (fixed_bytes t) ≤ fuel + matched_of part
    → EndsAt (next_slot t) left 0 Fresh → Ends (at s (place_of (Text t) left chains) part)
words_left zero s t left chains part lt le next = absurd (omega (arith, lt, le))
words_left (suc fuel) s t left chains part lt le next = by_last (k + 1 == length bytes) refl (λ m e. words_left fuel s t left chains (Matched (k + 1)) m e next)
  where
    bytes : List ℕ
    bytes = fixed_bytes t

    k : ℕ
    k = matched_of part

    b : ℕ
    b = slice_index bytes k

    here : State
    here = at s (place_of (Text t) left chains) part

    more_is : (x : Bool) → (k + 1 == length bytes) ≡ x → step_of (place_of (Text t) left chains) part b ≡ moved_by (place_of (Text t) left chains) 0 b (if x then MText else MPart (Matched (k + 1)))
    more_is x e =
        let room : nat_le (length bytes) k ≡ false = grind (arith, nat_tests) in
        let same : (slice_index bytes k == b) ≡ true = grind (arith, nat_tests) in
        ap (λ (r : Bool). moved_by (place_of (Text t) left chains) 0 b (if r then MRefused else (if slice_index bytes k == b then (if k + 1 == length bytes then MText else MPart (Matched (k + 1))) else MRefused))) room
        ∙ (ap (λ (r : Bool). moved_by (place_of (Text t) left chains) 0 b (if r then (if k + 1 == length bytes then MText else MPart (Matched (k + 1))) else MRefused)) same
        ∙ ap (λ (r : Bool). moved_by (place_of (Text t) left chains) 0 b (if r then MText else MPart (Matched (k + 1)))) e)

    by_last : (x : Bool) → (k + 1 == length bytes) ≡ x
        → (k + 1 < length bytes → length bytes ≤ fuel + (k + 1) → Ends (at s (place_of (Text t) left chains) (Matched (k + 1)))) → Ends here
    by_last true e ih = by_move here b (go (next_slot t) left Nothing) (more_is true e) (next s)
    by_last false e ih =
        let less : k + 1 < length bytes = grind (arith, nat_tests) in
        one here (at s (place_of (Text t) left chains) (Matched (k + 1))) b (ap (moved here) (more_is false e)) (ih less (omega (arith, le)))

words : (t : Fixed) (left chains : ℕ) → 0 < length (fixed_bytes t) → EndsAt (next_slot t) left 0 Fresh → EndsAt (Text t) left chains Fresh
words t left chains some next s = words_left (length (fixed_bytes t)) s t left chains Fresh some (omega arith) next

-- ---- Logs

close_ends : (left chains : ℕ) → EndsAt (Text Close) left chains Fresh
close_ends left chains = words Close left chains (omega arith) (λ s. ([], (at s (place_of Done left 0) Fresh, refl, refl)))

log_ends : (s : Said) (left : ℕ) (act : Act) (ends : Bool) → (nat_le left 1 ≡ false → EndsAt (Text BeforeChains) (left - 1) 0 Fresh) → EndsBy s (log_end left act ends)
log_ends s left act ends next = by_last (nat_le left 1) refl
  where
    by_last : (x : Bool) → nat_le left 1 ≡ x → EndsBy s (if x then moves (Text Close) 0 0 act ends true else moves (Text BeforeChains) (left - 1) 0 act ends true)
    by_last true e = close_ends 0 0 _
    by_last false e = next e _

logs_left : (fuel left chains : ℕ) → left ≤ fuel → EndsAt (Text BeforeChains) left chains Fresh
logs_left zero left chains le =
    words BeforeChains left chains (omega arith)
    (λ s. one (at s (place_of Chains left 0) Fresh) (at s (place_of Chains left 0) (Digits 0)) 48 refl
    (by_move (at s (place_of Chains left 0) (Digits 0)) 10 (log_end left Nothing false) refl (log_ends s left Nothing false (λ e. absurd (grind (arith, nat_tests))))))
logs_left (suc fuel) left chains le =
    words BeforeChains left chains (omega arith)
    (λ s. one (at s (place_of Chains left 0) Fresh) (at s (place_of Chains left 0) (Digits 0)) 48 refl
    (by_move (at s (place_of Chains left 0) (Digits 0)) 10 (log_end left Nothing false) refl
    (log_ends s left Nothing false (λ e. logs_left fuel (left - 1) 0 (omega (arith, le))))))

any_log : (s : Said) (left : ℕ) (act : Act) (ends : Bool) → EndsBy s (log_end left act ends)
any_log s left act ends = log_ends s left act ends (λ e. logs_left (left - 1) (left - 1) 0 (omega arith))

-- ---- Chains

chain_ends : (s : Said) (left chains : ℕ) (act : Act) → (nat_le chains 1 ≡ false → EndsAt Start left (chains - 1) Fresh) → EndsBy s (chain_end left chains act)
chain_ends s left chains act next = by_last (nat_le chains 1) refl
  where
    by_last : (x : Bool) → nat_le chains 1 ≡ x → EndsBy s (if x then log_end left act true else moves Start left (chains - 1) act true false)
    by_last true e = any_log s left act true
    by_last false e = next e _

start_left : (fuel left chains : ℕ) → chains ≤ fuel → EndsAt Start left chains Fresh
start_left zero left chains le s =
    one (at s (place_of Start left chains) Fresh) (at s (place_of Start left chains) (Digits 0)) 48 refl
    (by_move (at s (place_of Start left chains) (Digits 0)) 10 (chain_end left chains (Begins 0)) refl (chain_ends s left chains (Begins 0) (λ e. absurd (grind (arith, nat_tests)))))
start_left (suc fuel) left chains le s =
    one (at s (place_of Start left chains) Fresh) (at s (place_of Start left chains) (Digits 0)) 48 refl
    (by_move (at s (place_of Start left chains) (Digits 0)) 10 (chain_end left chains (Begins 0)) refl
    (chain_ends s left chains (Begins 0) (λ e. start_left fuel left (chains - 1) (omega (arith, le)))))

any_chain : (s : Said) (left chains : ℕ) (act : Act) → EndsBy s (chain_end left chains act)
any_chain s left chains act = chain_ends s left chains act (λ e. start_left (chains - 1) left (chains - 1) (omega arith))

-- ---- Behind counts

count_ends : (s : Said) (v : ℕ) (none some : Slot) → EndsAt none 0 0 Fresh → EndsAt some v 0 Fresh → EndsBy s (count v none some)
count_ends s v none some empty full = by_test (v == 0)
  where
    by_test : (x : Bool) → EndsBy s (if x then go none 0 Nothing else go some v Nothing)
    by_test true = empty s
    by_test false = full s

before_logs : (left chains : ℕ) → EndsAt (Text BeforeLogs) left chains Fresh
before_logs left chains =
    words BeforeLogs left chains (omega arith)
    (λ s. one (at s (place_of Logs left 0) Fresh) (at s (place_of Logs left 0) (Digits 0)) 48 refl
    (by_move (at s (place_of Logs left 0) (Digits 0)) 10 (go (Text Close) 0 Nothing) refl (close_ends 0 0 s)))

less_ends : (s : Said) (left : ℕ) (none some : Slot) (act : Act) → EndsAt none 0 0 Fresh → (nat_le left 1 ≡ false → EndsAt some (left - 1) 0 Fresh) → EndsBy s (less left none some act)
less_ends s left none some act empty next = by_last (nat_le left 1) refl
  where
    by_last : (x : Bool) → nat_le left 1 ≡ x → EndsBy s (if x then go none 0 act else go some (left - 1) act)
    by_last true e = empty _
    by_last false e = next e _

formulas_left : (fuel left chains : ℕ) → left ≤ fuel → EndsAt Formula left chains Fresh
formulas_left zero left chains le s =
    one (at s (place_of Formula left chains) Fresh) (at s (place_of Formula left chains) (Digits 0)) 48 refl
    (by_move (at s (place_of Formula left chains) (Digits 0)) 10 (less left (Text BeforeLogs) Formula (Maps 0)) refl
    (less_ends s left (Text BeforeLogs) Formula (Maps 0) (before_logs 0 0) (λ e. absurd (grind (arith, nat_tests)))))
formulas_left (suc fuel) left chains le s =
    one (at s (place_of Formula left chains) Fresh) (at s (place_of Formula left chains) (Digits 0)) 48 refl
    (by_move (at s (place_of Formula left chains) (Digits 0)) 10 (less left (Text BeforeLogs) Formula (Maps 0)) refl
    (less_ends s left (Text BeforeLogs) Formula (Maps 0) (before_logs 0 0) (λ e. formulas_left fuel (left - 1) 0 (omega (arith, le)))))

any_formula : (s : Said) (left v : ℕ) → EndsBy s (less left (Text BeforeLogs) Formula (Maps v))
any_formula s left v = less_ends s left (Text BeforeLogs) Formula (Maps v) (before_logs 0 0) (λ e. formulas_left (left - 1) (left - 1) 0 (omega arith))

before_nodes : (left chains : ℕ) → EndsAt (Text BeforeNodes) left chains Fresh
before_nodes left chains =
    words BeforeNodes left chains (omega arith)
    (λ s. one (at s (place_of Nodes left 0) Fresh) (at s (place_of Nodes left 0) (Digits 0)) 48 refl
    (by_move (at s (place_of Nodes left 0) (Digits 0)) 10 (go (Text BeforeLogs) 0 Nothing) refl (before_logs 0 0 s)))

-- ---- Terms

letter_goes : (left chains : ℕ) → ((s : Said) → EndsBy s (add left (term_of FCell 0 0 0))) → EndsAt Letter left chains Fresh
letter_goes left chains next s =
    one (at s (place_of Letter left chains) Fresh) (at s (place_of (Gap FCell) left 0) Fresh) 120 refl
    (one (at s (place_of (Gap FCell) left 0) Fresh) (at s (place_of (First FCell) left 0) Fresh) 32 refl
    (one (at s (place_of (First FCell) left 0) Fresh) (at s (place_of (First FCell) left 0) (Digits 0)) 48 refl
    (by_move (at s (place_of (First FCell) left 0) (Digits 0)) 10 (add left (term_of FCell 0 0 0)) refl (next s))))

letters_left : (fuel left chains : ℕ) → left ≤ fuel → EndsAt Letter left chains Fresh
letters_left zero left chains le =
    letter_goes left chains (λ s. less_ends s left (Text BeforeNodes) Letter (Adds (term_of FCell 0 0 0)) (before_nodes 0 0) (λ e. absurd (grind (arith, nat_tests))))
letters_left (suc fuel) left chains le =
    letter_goes left chains (λ s. less_ends s left (Text BeforeNodes) Letter (Adds (term_of FCell 0 0 0)) (before_nodes 0 0) (λ e. letters_left fuel (left - 1) 0 (omega (arith, le))))

any_term : (s : Said) (left : ℕ) (t : Term) → EndsBy s (add left t)
any_term s left t = less_ends s left (Text BeforeNodes) Letter (Adds t) (before_nodes 0 0) (λ e. letters_left (left - 1) (left - 1) 0 (omega arith))

before_terms : (left chains : ℕ) → EndsAt (Text BeforeTerms) left chains Fresh
before_terms left chains =
    words BeforeTerms left chains (omega arith)
    (λ s. one (at s (place_of Terms left 0) Fresh) (at s (place_of Terms left 0) (Digits 0)) 48 refl
    (by_move (at s (place_of Terms left 0) (Digits 0)) 10 (go (Text BeforeNodes) 0 Nothing) refl (before_nodes 0 0 s)))

third_goes : (left chains : ℕ) (f : Form) (a b v : ℕ) → EndsAt (Third f a b) left chains (Digits v)
third_goes left chains f a b v s =
    by_move (at s (place_of (Third f a b) left chains) (Digits v)) 10 (add left (term_of f a b v)) refl (any_term s left (term_of f a b v))

second_goes : (left chains : ℕ) (f : Form) (a v : ℕ) → EndsAt (Second f a) left chains (Digits v)
second_goes left chains f a v s = by_operands (operands_of f) refl
  where
    here : State
    here = at s (place_of (Second f a) left chains) (Digits v)

    by_operands : (o : Operands) → operands_of f ≡ o → Ends here
    by_operands One e = by_move here 10 (add left (term_of f a v 0)) (ap (λ (o : Operands). second_by o left f a v 10) e) (any_term s left (term_of f a v 0))
    by_operands OWide e = by_move here 10 (add left (term_of f a v 0)) (ap (λ (o : Operands). second_by o left f a v 10) e) (any_term s left (term_of f a v 0))
    by_operands Two e = by_move here 10 (add left (term_of f a v 0)) (ap (λ (o : Operands). second_by o left f a v 10) e) (any_term s left (term_of f a v 0))
    by_operands Three e =
        by_move here 32 (go (Third f a v) left Nothing) (ap (λ (o : Operands). second_by o left f a v 32) e)
        (one (at s (place_of (Third f a v) left 0) Fresh) (at s (place_of (Third f a v) left 0) (Digits 0)) 48 refl (third_goes left 0 f a v 0 s))

value_goes : (left chains w v : ℕ) → EndsAt (Value w) left chains (WideDigits v)
value_goes left chains w v s = by_move (at s (place_of (Value w) left chains) (WideDigits v)) 10 (add left (Constant w v)) refl (any_term s left (Constant w v))

first_goes : (left chains : ℕ) (f : Form) (v : ℕ) → EndsAt (First f) left chains (Digits v)
first_goes left chains f v s = by_operands (operands_of f) refl
  where
    here : State
    here = at s (place_of (First f) left chains) (Digits v)

    second : Ends (at s (place_of (Second f v) left 0) Fresh)
    second = one (at s (place_of (Second f v) left 0) Fresh) (at s (place_of (Second f v) left 0) (Digits 0)) 48 refl (second_goes left 0 f v 0 s)

    by_operands : (o : Operands) → operands_of f ≡ o → Ends here
    by_operands One e = by_move here 10 (add left (term_of f v 0 0)) (ap (λ (o : Operands). first_by o left f v 10) e) (any_term s left (term_of f v 0 0))
    by_operands OWide e =
        by_move here 32 (go (Value v) left Nothing) (ap (λ (o : Operands). first_by o left f v 32) e)
        (one (at s (place_of (Value v) left 0) Fresh) (at s (place_of (Value v) left 0) (WideDigits 0)) 48 refl (value_goes left 0 v 0 s))
    by_operands Two e = by_move here 32 (go (Second f v) left Nothing) (ap (λ (o : Operands). first_by o left f v 32) e) second
    by_operands Three e = by_move here 32 (go (Second f v) left Nothing) (ap (λ (o : Operands). first_by o left f v 32) e) second

-- ---- The head

layout_goes : (left chains v : ℕ) → EndsAt Layout left chains (Digits v)
layout_goes left chains v s = by_move (at s (place_of Layout left chains) (Digits v)) 10 (go (Text BeforeTerms) 0 _) refl (before_terms 0 0 _)

layout_first : (left chains : ℕ) → EndsAt Layout left chains Fresh
layout_first left chains s = one (at s (place_of Layout left chains) Fresh) (at s (place_of Layout left chains) (Digits 0)) 48 refl (layout_goes left chains 0 s)

kind_goes : (left chains : ℕ) (part : Part) → EndsAt Kind left chains part
kind_goes left chains part s =
    by_move (at s (place_of Kind left chains) part) 105 (go (Text RestIlp32) 0 _) refl (words RestIlp32 0 0 (omega arith) (layout_first 0 0) _)

before_model : (left chains : ℕ) → EndsAt (Text BeforeModel) left chains Fresh
before_model left chains = words BeforeModel left chains (omega arith) (kind_goes left 0 Fresh)

low_ends : (s : Said) (k high : ℕ) → (nat_le 31 k ≡ false → EndsAt (High (k + 1)) 0 0 Fresh) → EndsBy s (low_read k high 0)
low_ends s k high next = by_last (nat_le 31 k) refl
  where
    by_last : (x : Bool) → nat_le 31 k ≡ x → EndsBy s (if x then go (Text BeforeModel) 0 (Byte k ((high + 0) % 256)) else go (High (k + 1)) 0 (Byte k ((high + 0) % 256)))
    by_last true e = before_model 0 0 _
    by_last false e = next e _

hash_left : (fuel k left chains : ℕ) (part : Part) → 31 ≤ fuel + k → EndsAt (High k) left chains part
hash_left zero k left chains part le s =
    one (at s (place_of (High k) left chains) part) (at s (place_of (Low k 0) 0 0) Fresh) 48 refl
    (by_move (at s (place_of (Low k 0) 0 0) Fresh) 48 (low_read k 0 0) refl (low_ends s k 0 (λ e. absurd (grind (arith, nat_tests)))))
hash_left (suc fuel) k left chains part le s =
    one (at s (place_of (High k) left chains) part) (at s (place_of (Low k 0) 0 0) Fresh) 48 refl
    (by_move (at s (place_of (Low k 0) 0 0) Fresh) 48 (low_read k 0 0) refl (low_ends s k 0 (λ e. hash_left fuel (k + 1) 0 0 Fresh (omega (arith, le)))))

-- ---- Any place

-- what stands behind words
behind_ends : (t : Fixed) (left : ℕ) → EndsAt (next_slot t) left 0 Fresh
behind_ends Head left = hash_left 31 0 left 0 Fresh (omega arith)
behind_ends BeforeModel left = kind_goes left 0 Fresh
behind_ends RestIlp32 left = layout_first left 0
behind_ends RestLp64 left = layout_first left 0
behind_ends BeforeTerms left = λ s.
    one (at s (place_of Terms left 0) Fresh) (at s (place_of Terms left 0) (Digits 0)) 48 refl
    (by_move (at s (place_of Terms left 0) (Digits 0)) 10 (go (Text BeforeNodes) 0 Nothing) refl (before_nodes 0 0 s))
behind_ends BeforeNodes left = λ s.
    one (at s (place_of Nodes left 0) Fresh) (at s (place_of Nodes left 0) (Digits 0)) 48 refl
    (by_move (at s (place_of Nodes left 0) (Digits 0)) 10 (go (Text BeforeLogs) 0 Nothing) refl (before_logs 0 0 s))
behind_ends BeforeLogs left = λ s.
    one (at s (place_of Logs left 0) Fresh) (at s (place_of Logs left 0) (Digits 0)) 48 refl
    (by_move (at s (place_of Logs left 0) (Digits 0)) 10 (go (Text Close) 0 Nothing) refl (close_ends 0 0 s))
behind_ends BeforeChains left = λ s.
    one (at s (place_of Chains left 0) Fresh) (at s (place_of Chains left 0) (Digits 0)) 48 refl
    (by_move (at s (place_of Chains left 0) (Digits 0)) 10 (log_end left Nothing false) refl (any_log s left Nothing false))
behind_ends Close left = λ s. ([], (at s (place_of Done left 0) Fresh, refl, refl))

-- a number whose digits were read, and one that begins
numbers : (slot : Slot) (left chains : ℕ) (part : Part) (s : Said) → PartFits Number part → ((v : ℕ) → Ends (at s (place_of slot left chains) (Digits v)))
    → step (at s (place_of slot left chains) Fresh) 48 ≡ Some (at s (place_of slot left chains) (Digits 0)) → Ends (at s (place_of slot left chains) part)
numbers slot left chains Fresh s fits goes first = one (at s (place_of slot left chains) Fresh) (at s (place_of slot left chains) (Digits 0)) 48 first (goes 0)
numbers slot left chains (Matched k) s fits goes first = absurd fits
numbers slot left chains (Digits v) s fits goes first = goes v
numbers slot left chains (WideDigits v) s fits goes first = absurd fits

chains_goes : (s : Said) (left v : ℕ) → EndsBy s (chains_read left v)
chains_goes s left v = by_test (v == 0)
  where
    by_test : (x : Bool) → EndsBy s (if x then log_end left Nothing false else moves Start left v Nothing false false)
    by_test true = any_log s left Nothing false
    by_test false = start_left v left v (omega arith) s

clause_goes : (left chains p v : ℕ) → EndsAt (Clause p) left chains (Digits v)
clause_goes left chains p v s = by_move (at s (place_of (Clause p) left chains) (Digits v)) 10 (chain_end left chains _) refl (any_chain s left chains _)

pub completes : (s : Said) (slot : Slot) (left chains : ℕ) (part : Part) → PartFits (want_of slot) part → Ends (at s (place_of slot left chains) part)
completes s (Text t) left chains part fits = words_left (length (fixed_bytes t)) s t left chains part fits (omega arith) (behind_ends t left)
completes s (High k) left chains part fits = hash_left 31 k left chains part (omega arith) s
completes s (Low k high) left chains part fits =
    by_move (at s (place_of (Low k high) left chains) part) 48 (low_read k high 0) refl (low_ends s k high (λ e. hash_left 31 (k + 1) 0 0 Fresh (omega arith)))
completes s Kind left chains part fits = kind_goes left chains part s
completes s Layout left chains part fits = numbers Layout left chains part s fits (λ v. layout_goes left chains v s) refl
completes s Terms left chains part fits =
    numbers Terms left chains part s fits
    (λ v. by_move (at s (place_of Terms left chains) (Digits v)) 10 (count v (Text BeforeNodes) Letter) refl
    (count_ends s v (Text BeforeNodes) Letter (before_nodes 0 0) (letters_left v v 0 (omega arith)))) refl
completes s Letter left chains part fits =
    one (at s (place_of Letter left chains) part) (at s (place_of (Gap FCell) left 0) Fresh) 120 refl
    (one (at s (place_of (Gap FCell) left 0) Fresh) (at s (place_of (First FCell) left 0) Fresh) 32 refl
    (one (at s (place_of (First FCell) left 0) Fresh) (at s (place_of (First FCell) left 0) (Digits 0)) 48 refl (first_goes left 0 FCell 0 s)))
completes s (Gap f) left chains part fits =
    one (at s (place_of (Gap f) left chains) part) (at s (place_of (First f) left 0) Fresh) 32 refl
    (one (at s (place_of (First f) left 0) Fresh) (at s (place_of (First f) left 0) (Digits 0)) 48 refl (first_goes left 0 f 0 s))
completes s (First f) left chains part fits = numbers (First f) left chains part s fits (λ v. first_goes left chains f v s) refl
completes s (Second f a) left chains part fits = numbers (Second f a) left chains part s fits (λ v. second_goes left chains f a v s) refl
completes s (Third f a b) left chains part fits = numbers (Third f a b) left chains part s fits (λ v. third_goes left chains f a b v s) refl
completes s (Value w) left chains Fresh fits =
    one (at s (place_of (Value w) left chains) Fresh) (at s (place_of (Value w) left chains) (WideDigits 0)) 48 refl (value_goes left chains w 0 s)
completes s (Value w) left chains (Matched k) fits = absurd fits
completes s (Value w) left chains (Digits v) fits = absurd fits
completes s (Value w) left chains (WideDigits v) fits = value_goes left chains w v s
completes s Nodes left chains part fits =
    numbers Nodes left chains part s fits
    (λ v. by_move (at s (place_of Nodes left chains) (Digits v)) 10 (count v (Text BeforeLogs) Formula) refl
    (count_ends s v (Text BeforeLogs) Formula (before_logs 0 0) (formulas_left v v 0 (omega arith)))) refl
completes s Formula left chains part fits =
    numbers Formula left chains part s fits
    (λ v. by_move (at s (place_of Formula left chains) (Digits v)) 10 (less left (Text BeforeLogs) Formula (Maps v)) refl (any_formula s left v)) refl
completes s Logs left chains part fits =
    numbers Logs left chains part s fits
    (λ v. by_move (at s (place_of Logs left chains) (Digits v)) 10 (count v (Text Close) (Text BeforeChains)) refl
    (count_ends s v (Text Close) (Text BeforeChains) (close_ends 0 0) (logs_left v v 0 (omega arith)))) refl
completes s Chains left chains part fits =
    numbers Chains left chains part s fits (λ v. by_move (at s (place_of Chains left chains) (Digits v)) 10 (chains_read left v) refl (chains_goes s left v)) refl
completes s Start left chains part fits =
    numbers Start left chains part s fits (λ v. by_move (at s (place_of Start left chains) (Digits v)) 10 (chain_end left chains (Begins v)) refl (any_chain s left chains (Begins v))) refl
completes s Pivot left chains part fits =
    numbers Pivot left chains part s fits
    (λ v. one (at s (place_of Pivot left chains) (Digits v)) (at s (place_of (Clause v) left chains) Fresh) 32 refl
    (one (at s (place_of (Clause v) left chains) Fresh) (at s (place_of (Clause v) left chains) (Digits 0)) 48 refl (clause_goes left chains v 0 s))) refl
completes s (Clause p) left chains part fits = numbers (Clause p) left chains part s fits (λ v. clause_goes left chains p v s) refl
completes s Done left chains part fits = ([], (at s (place_of Done left chains) part, refl, refl))
