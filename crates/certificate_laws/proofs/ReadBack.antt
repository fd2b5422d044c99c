-- What is read is the text of what it says.
use Rattle.std.proofs.Common.{Option, None, ◌≡◌, ℕ, ◌+◌, ◌≤◌, Bool, true, false, List, [], ◌∷◌, ◌++◌, length, Some, Ok, Err, refl, sym, ap, ◌∙◌, subst, arith, if◌then◌else◌, append_assoc, append-nil, nat_lt, take, suc}
use Rattle.std.specs.Prelude.{codes, option_and_then}
use Rattle.std.proofs.lemmas.Bool.Decides.{nat_tests}
use Rattle.stored_text.specs.declared.StoredFail.TheVariants.{Format, Over, Memory}
use Rattle.cert_text.specs.declared.place.Fixed.TheVariants.{Head, Close}
use Rattle.cert_text.specs.declared.place.Slot.{Slot}
use Rattle.cert_text.specs.declared.place.Slot.TheVariants.{Text, High, Low, Kind, Layout, Terms, Letter, Gap, First, Second, Third, Value, Nodes, Formula, Logs, Chains, Start, Pivot, Clause, Done}
use Rattle.cert_text.specs.declared.place.Part.{Part}
use Rattle.cert_text.specs.declared.place.Part.TheVariants.{Fresh}
use Rattle.cert_text.specs.declared.steps.Next.{Next}
use Rattle.cert_text.specs.declared.steps.Next.TheVariants.{Refused, Part as NPart, Moves}
use Rattle.cert_text.specs.Content.{Content}
use Rattle.cert_text.specs.CertText.{cert_text, head_text, hex_text, model_text, number_line, terms_part, nodes_part, logs_part, terms_text, formulas_text, logs_text}
use Rattle.cert_text.specs.Places.{fixed_bytes, is_done_at}
use Rattle.cert_text.specs.Steps.{step_of}
use Rattle.cert_text.specs.Drafts.{Said, nothing, applied, content_said}
use Rattle.cert_text.specs.Reading.{Reading, start, answered, read_from}
use Rattle.certificate_laws.specs.Fits.{Fits}
use Rattle.certificate_laws.specs.Laws.{GoesOn, ReadIsWritten, RefusedForGood}
use Rattle.certificate_laws.proofs.Walks.{State, at, moved, step, walk}
use Rattle.certificate_laws.proofs.Refusals.{Told, reads, refused_there}
use Rattle.certificate_laws.proofs.Fronts.{LogsFit, Stands, hash_front, head_front, log_front, model_front, node_front, term_front}
use Rattle.certificate_laws.proofs.FrontSteps.{Follows}
use Rattle.certificate_laws.proofs.FrontFields.{follows}
use Rattle.certificate_laws.proofs.Completing.{completes}

-- ---- A walk keeps what was read

abbrev StandsAt : State → List ℕ → Type 0
StandsAt q f = Stands q.said q.place.slot q.place.left q.place.chains q.part f

pub walk_stands : (bytes : List ℕ) (s q : State) (f : List ℕ) → StandsAt s f → walk s bytes ≡ Some q → StandsAt q (f ++ bytes)
walk_stands [] s q f h w =
    let same : s ≡ q = cc w in
    subst (λ (x : State). StandsAt x (f ++ [])) same (subst (λ (l : List ℕ). StandsAt s l) (sym (append-nil f)) h)
walk_stands (b ∷ bytes) s q f h w =
    by_next (step_of s.place s.part b) (follows s.said s.place.slot s.place.left s.place.chains s.part f b h) w (λ r g v. walk_stands bytes r q (f ++ b ∷ []) g v)
  where
    here : (l : StandsAt q ((f ++ b ∷ []) ++ bytes)) → StandsAt q (f ++ b ∷ bytes)
    here l = subst (λ (x : List ℕ). StandsAt q x) (append_assoc f (b ∷ []) bytes) l

    by_next : (m : Next) → Follows s.said s.place.slot s.place.left s.place.chains (f ++ b ∷ []) m → option_and_then (λ q. walk q bytes) (moved s m) ≡ Some q
        → ((r : State) → StandsAt r (f ++ b ∷ []) → walk r bytes ≡ Some q → StandsAt q ((f ++ b ∷ []) ++ bytes)) → StandsAt q (f ++ b ∷ bytes)
    by_next Refused g w ih = absurd (cc w)
    by_next (NPart p) g w ih = here (ih (at s.said s.place p) g w)
    by_next (Moves m) g w ih = here (ih (at (applied m s.said) m.to Fresh) g w)

pub starts : StandsAt (at nothing start Fresh) []
starts = record { read = refl; fits = omega arith; known = ((refl, (refl, (refl, refl))), refl) }

-- ---- At the end

head_is : (s : Said) → head_front s ≡ head_text (content_said s)
head_is s =
    let words = fixed_bytes Head in
    let model : List ℕ = 10 ∷ codes "model " in
    let layout : List ℕ = 10 ∷ codes "layout " in
    let number = number_line s.layout in
    append_assoc (model_front s) (model_text s.model ++ layout) number
    ∙ (append_assoc (hash_front s.hash) model ((model_text s.model ++ layout) ++ number)
    ∙ (append_assoc words (hex_text s.hash) (model ++ ((model_text s.model ++ layout) ++ number))
    ∙ ap (λ (l : List ℕ). words ++ (hex_text s.hash ++ (model ++ l))) (append_assoc (model_text s.model) layout number)))

part_is : {X : Type 0} (front : List ℕ) (word : List ℕ) (xs : List X) (texts : List ℕ)
    → (front ++ word) ++ (number_line (length xs + 0) ++ texts) ≡ front ++ (word ++ (number_line (length xs) ++ texts))
part_is front word xs texts =
    let none : length xs + 0 ≡ length xs = omega arith in
    append_assoc front word (number_line (length xs + 0) ++ texts) ∙ ap (λ (n : ℕ). front ++ (word ++ (number_line n ++ texts))) none

whole_is : (s : Said) → log_front s 0 ++ fixed_bytes Close ≡ cert_text (content_said s)
whole_is s =
    let h = head_text (content_said s) in
    let t = terms_part s.terms in
    let n = nodes_part s.formulas in
    let l = logs_part s.logs in
    let e = fixed_bytes Close in
    let terms : term_front s 0 ≡ h ++ t = part_is (head_front s) (codes "terms ") s.terms (terms_text s.terms) ∙ ap (λ (x : List ℕ). x ++ t) (head_is s) in
    let nodes : node_front s 0 ≡ (h ++ t) ++ n = part_is (term_front s 0) (codes "map ") s.formulas (formulas_text s.formulas) ∙ ap (λ (x : List ℕ). x ++ n) terms in
    let logs : log_front s 0 ≡ ((h ++ t) ++ n) ++ l = part_is (node_front s 0) (codes "logs ") s.logs (logs_text s.logs) ∙ ap (λ (x : List ℕ). x ++ l) nodes in
    ap (λ (x : List ℕ). x ++ e) logs
    ∙ (append_assoc ((h ++ t) ++ n) l e ∙ (append_assoc (h ++ t) n (l ++ e) ∙ append_assoc h t (n ++ (l ++ e))))

fits_at : (s : Said) → LogsFit s 0 → Fits (content_said s)
fits_at s known =
    let term_count = known.0.0.2 in
    let node_count = known.0.2 in
    let log_count = known.2 in
    record {
      size = known.0.0.0.0.0;
      bytes = known.0.0.0.0.1;
      layout = known.0.0.0.1;
      term_count = omega (arith, term_count);
      terms = known.0.0.1;
      node_count = omega (arith, node_count);
      formulas = known.0.1;
      log_count = omega (arith, log_count);
      logs = known.1;
    }

-- where reading may end
done_is : (s : Said) (slot : Slot) (left chains : ℕ) (part : Part) (f : List ℕ) → is_done_at slot ≡ true → Stands s slot left chains part f
    → (f ≡ cert_text (content_said s)) × Fits (content_said s)
done_is s Done left chains part f d h = (h.read ∙ (append-nil (log_front s 0 ++ fixed_bytes Close) ∙ whole_is s), fits_at s h.known)
done_is s (Text t) left chains part f d h = absurd (cc d)
done_is s (High a) left chains part f d h = absurd (cc d)
done_is s (Low a b) left chains part f d h = absurd (cc d)
done_is s Kind left chains part f d h = absurd (cc d)
done_is s Layout left chains part f d h = absurd (cc d)
done_is s Terms left chains part f d h = absurd (cc d)
done_is s Letter left chains part f d h = absurd (cc d)
done_is s (Gap x) left chains part f d h = absurd (cc d)
done_is s (First x) left chains part f d h = absurd (cc d)
done_is s (Second x a) left chains part f d h = absurd (cc d)
done_is s (Third x a b) left chains part f d h = absurd (cc d)
done_is s (Value w) left chains part f d h = absurd (cc d)
done_is s Nodes left chains part f d h = absurd (cc d)
done_is s Formula left chains part f d h = absurd (cc d)
done_is s Logs left chains part f d h = absurd (cc d)
done_is s Chains left chains part f d h = absurd (cc d)
done_is s Start left chains part f d h = absurd (cc d)
done_is s Pivot left chains part f d h = absurd (cc d)
done_is s (Clause p) left chains part f d h = absurd (cc d)

-- a walk to an end reads a certificate's text
pub ended : (file : List ℕ) (q : State) → walk (at nothing start Fresh) file ≡ Some q → is_done_at q.place.slot ≡ true
    → (file ≡ cert_text (content_said q.said)) × Fits (content_said q.said)
ended file q w d = done_is q.said q.place.slot q.place.left q.place.chains q.part file d (walk_stands file (at nothing start Fresh) q [] starts w)

read : (file : List ℕ) (c : Content) (r : Reading) → Told (at nothing start Fresh) 0 file r → r ≡ Ok c → (file ≡ cert_text c) × Fits c
read file c (Ok x) t e =
    let (q, w, d, is) = t in
    let same : content_said q.said ≡ c = is ∙ (cc e) in
    let all = ended file q w d in
    (all.0 ∙ ap cert_text same, subst Fits same all.1)
read file c (Err (Format m)) t e = absurd (cc e)
read file c (Err (Over m k)) t e = absurd (cc e)
read file c (Err Memory) t e = absurd (cc e)

pub read_is_written : ReadIsWritten
read_is_written file c e = by_size (nat_lt 67108864 (length file)) refl e
  where
    by_size : (over : Bool) → nat_lt 67108864 (length file) ≡ over → (if over then Err (Over 8 67108865) else read_from nothing start Fresh 0 file) ≡ Ok c
        → Fits c × (file ≡ cert_text c) × (length file ≤ 67108864)
    by_size true is e = absurd (cc e)
    by_size false is e =
        let short : length file ≤ 67108864 = grind (arith, nat_tests) in
        let all = read file c (read_from nothing start Fresh 0 file) (reads file (at nothing start Fresh) 0) e in
        (all.1, all.0, short)

-- ---- Where a certificate is refused, one goes on from what stands before

walk_append : (xs ys : List ℕ) (s q : State) → walk s xs ≡ Some q → walk s (xs ++ ys) ≡ walk q ys
walk_append [] ys s q w = let same : s ≡ q = cc w in ap (λ (x : State). walk x ys) same
walk_append (x ∷ xs) ys s q w = by_step (step s x) w (λ r v. walk_append xs ys r q v)
  where
    by_step : (o : Option State) → option_and_then (λ r. walk r xs) o ≡ Some q → ((r : State) → walk r xs ≡ Some q → walk r (xs ++ ys) ≡ walk q ys)
        → option_and_then (λ r. walk r (xs ++ ys)) o ≡ walk q ys
    by_step None w ih = absurd (cc w)
    by_step (Some r) w ih = ih r w

abbrev Passes : State → ℕ → List ℕ → ℕ → Type 0
Passes s n bytes m = (k : ℕ) × ((m ≡ n + k) × ((q : State) × (walk s (take k bytes) ≡ Some q)))

passes : (bytes : List ℕ) (s : State) (n m : ℕ) → read_from s.said s.place s.part n bytes ≡ Err (Format m) → Passes s n bytes m
passes [] s n m e = by_end (is_done_at s.place.slot) e
  where
    by_end : (d : Bool) → (if d then Ok (content_said s.said) else Err (Format n)) ≡ Err (Format m) → Passes s n [] m
    by_end true e = absurd (cc e)
    by_end false e = let same : n ≡ m = cc e in (0, (omega (arith, same), (s, refl)))
passes (b ∷ bytes) s n m e = by_next (step_of s.place s.part b) refl e (λ q g. passes bytes q (n + 1) m g)
  where
    more : (r : State) → step s b ≡ Some r → Passes r (n + 1) bytes m → Passes s n (b ∷ bytes) m
    more r is (k, (same, (q, w))) = (suc k, (omega (arith, same), (q, ap (λ (o : Option State). option_and_then (λ q. walk q (take k bytes)) o) is ∙ w)))

    by_next : (x : Next) → step_of s.place s.part b ≡ x → answered n x (λ p. read_from s.said s.place p (n + 1) bytes) (λ m. read_from (applied m s.said) m.to Fresh (n + 1) bytes) ≡ Err (Format m)
        → ((q : State) → read_from q.said q.place q.part (n + 1) bytes ≡ Err (Format m) → Passes q (n + 1) bytes m) → Passes s n (b ∷ bytes) m
    by_next Refused is e ih = let same : n ≡ m = cc e in (0, (omega (arith, same), (s, refl)))
    by_next (NPart p) is e ih = more (at s.said s.place p) (ap (moved s) is) (ih (at s.said s.place p) e)
    by_next (Moves x) is e ih = more (at (applied x s.said) x.to Fresh) (ap (moved s) is) (ih (at (applied x s.said) x.to Fresh) e)

goes_on : (front : List ℕ) (q : State) → walk (at nothing start Fresh) front ≡ Some q → GoesOn front
goes_on front q w =
    let h = walk_stands front (at nothing start Fresh) q [] starts w in
    let (more, (r, v, d)) = completes q.said q.place.slot q.place.left q.place.chains q.part h.fits in
    let all = ended (front ++ more) r (walk_append front more (at nothing start Fresh) q w ∙ v) d in
    (content_said r.said, (more, all.1, all.0))

pub refused_for_good : RefusedForGood
refused_for_good file n e =
    let r = refused_there file n e in
    (r.0, r.1, r.2, r.3, by_size (nat_lt 67108864 (length file)) e)
  where
    by_size : (over : Bool) → (if over then Err (Over 8 67108865) else read_from nothing start Fresh 0 file) ≡ Err (Format n) → GoesOn (take n file)
    by_size true e = absurd (cc e)
    by_size false e =
        let (k, (same, (q, w))) = passes file (at nothing start Fresh) 0 n e in
        let here : k ≡ n = omega (arith, same) in
        subst (λ (i : ℕ). GoesOn (take i file)) here (goes_on (take k file) q w)
