-- Walks over stretches, one behind the other.
use Rattle.std.proofs.Common.{◌≡◌, ℕ, ◌+◌, ◌-◌, ◌≤◌, Bool, true, false, List, [], ◌∷◌, ◌++◌, length, take, drop, take-add, take_all, nat_lt, if◌then◌else◌, Ok, Err, refl, sym, ap, ◌∙◌, append_assoc, arith}
use Rattle.std.proofs.lemmas.Bool.Decides.{nat_tests}
use Rattle.stored_text.specs.declared.StoredFail.TheVariants.{Format, Over}
use Rattle.cert_text.specs.declared.place.Place.{Place}
use Rattle.cert_text.specs.declared.place.Part.{Part}
use Rattle.cert_text.specs.declared.place.Part.TheVariants.{Fresh}
use Rattle.cert_text.specs.declared.readers.Front.{Front}
use Rattle.cert_text.specs.declared.readers.Reader.{Reader}
use Rattle.cert_text.specs.declared.steps.Act.{Act}
use Rattle.cert_text.specs.declared.steps.Act.TheVariants.{Nothing, Byte, Said as ASaid, Numbered, Adds, Maps, Begins, Pairs}
use Rattle.cert_text.specs.declared.steps.Move.{Move}
use Rattle.cert_text.specs.declared.steps.Next.{Next}
use Rattle.cert_text.specs.declared.steps.Next.TheVariants.{Refused, Part as NPart, Moves}
use Rattle.cert_text.specs.Content.{Content}
use Rattle.cert_text.specs.Places.{is_done_at}
use Rattle.cert_text.specs.Steps.{step_of}
use Rattle.cert_text.specs.Drafts.{Said, said_of, nothing, acted, applied, chain_closed, log_closed, content_said}
use Rattle.cert_text.specs.Reading.{start, read_from, read_cert_of}
use Rattle.cert_text.specs.Walks.{State, Walk, state, state_of, onward, walk, before_log, behind, joined}
use Rattle.cert_text.proofs.Walking.{ended, reads}
use Rattle.cert_reading.specs.declared.cutting.Stretch.{Stretch}
use Rattle.cert_reading.specs.declared.portions.Beginning.{Beginning}
use Rattle.cert_reading.specs.Portions.{IsReadFrom, IsReadTo}

-- ---- What was said before changes nothing of what is said later

acted_behind : (a : Act) (base s : Said) → acted a (behind base s) ≡ behind base (acted a s)
acted_behind Nothing base s = refl
acted_behind (Byte at value) base s = refl
acted_behind (ASaid model) base s = refl
acted_behind (Numbered layout) base s = refl
acted_behind (Adds term) base s = ap (λ ts. record (behind base s) { terms = ts }) (append_assoc base.terms s.terms (term ∷ []))
acted_behind (Maps formula) base s = ap (λ fs. record (behind base s) { formulas = fs }) (append_assoc base.formulas s.formulas (formula ∷ []))
acted_behind (Begins first) base s = refl
acted_behind (Pairs pivot clause) base s = refl

chain_behind : (b : Bool) (base s : Said) → chain_closed b (behind base s) ≡ behind base (chain_closed b s)
chain_behind true base s = refl
chain_behind false base s = refl

log_behind : (b : Bool) (base s : Said) → log_closed b (behind base s) ≡ behind base (log_closed b s)
log_behind true base s = ap (λ ls. record (behind base s) { logs = ls; log = [] }) (append_assoc base.logs s.logs (s.log ∷ []))
log_behind false base s = refl

applied_behind : (m : Move) (base s : Said) → applied m (behind base s) ≡ behind base (applied m s)
applied_behind m base s =
    ap (λ (x : Said). log_closed m.log_ends (chain_closed m.chain_ends x)) (acted_behind m.act base s)
    ∙ ap (λ (x : Said). log_closed m.log_ends x) (chain_behind m.chain_ends base (acted m.act s))
    ∙ log_behind m.log_ends base (chain_closed m.chain_ends (acted m.act s))

-- bytes that lead somewhere lead there behind whatever was said, and from any offset
pub walks_behind : (bytes : List ℕ) (base said : Said) (place : Place) (part : Part) (n m : ℕ) (q : State) → walk said place part n bytes ≡ Ok q → walk (behind base said) place part m bytes ≡ Ok (joined base q)
walks_behind [] base said place part n m q w =
    let e : state said place part ≡ q = cc w in
    ap (λ (s : State). Ok (joined base s)) e
walks_behind (b ∷ rest) base said place part n m q w =
    by_next (step_of place part b) w (λ p v. walks_behind rest base said place p (n + 1) (m + 1) q v) (λ x v. walks_behind rest base (applied x said) x.to Fresh (n + 1) (m + 1) q v)
  where
    by_next : (x : Next) → onward n x (λ p. walk said place p (n + 1) rest) (λ v. walk (applied v said) v.to Fresh (n + 1) rest) ≡ Ok q
        → ((p : Part) → walk said place p (n + 1) rest ≡ Ok q → walk (behind base said) place p (m + 1) rest ≡ Ok (joined base q))
        → ((v : Move) → walk (applied v said) v.to Fresh (n + 1) rest ≡ Ok q → walk (behind base (applied v said)) v.to Fresh (m + 1) rest ≡ Ok (joined base q))
        → onward m x (λ p. walk (behind base said) place p (m + 1) rest) (λ v. walk (applied v (behind base said)) v.to Fresh (m + 1) rest) ≡ Ok (joined base q)
    by_next Refused w f g = absurd (cc w)
    by_next (NPart p) w f g = f p w
    by_next (Moves v) w f g = ap (λ (s : Said). walk s v.to Fresh (m + 1) rest) (applied_behind v base said) ∙ g v w

-- ---- One walk goes on where another one led

pub walks_on : (a b : List ℕ) (said : Said) (place : Place) (part : Part) (n : ℕ) (q r : State)
    → walk said place part n a ≡ Ok q → ((m : ℕ) → walk q.said q.place q.part m b ≡ Ok r) → walk said place part n (a ++ b) ≡ Ok r
walks_on [] b said place part n q r w next =
    let e : state said place part ≡ q = cc w in
    ap (λ (s : State). walk s.said s.place s.part n b) e ∙ next n
walks_on (c ∷ a) b said place part n q r w next =
    by_next (step_of place part c) w (λ p v. walks_on a b said place p (n + 1) q r v next) (λ x v. walks_on a b (applied x said) x.to Fresh (n + 1) q r v next)
  where
    by_next : (x : Next) → onward n x (λ p. walk said place p (n + 1) a) (λ v. walk (applied v said) v.to Fresh (n + 1) a) ≡ Ok q
        → ((p : Part) → walk said place p (n + 1) a ≡ Ok q → walk said place p (n + 1) (a ++ b) ≡ Ok r)
        → ((v : Move) → walk (applied v said) v.to Fresh (n + 1) a ≡ Ok q → walk (applied v said) v.to Fresh (n + 1) (a ++ b) ≡ Ok r)
        → onward n x (λ p. walk said place p (n + 1) (a ++ b)) (λ v. walk (applied v said) v.to Fresh (n + 1) (a ++ b)) ≡ Ok r
    by_next Refused w f g = absurd (cc w)
    by_next (NPart p) w f g = f p w
    by_next (Moves v) w f g = g v w

-- ---- A portion behind a beginning

take_on : (k m : ℕ) (xs : List ℕ) → k ≤ m → take k xs ++ take (m - k) (drop k xs) ≡ take m xs
take_on k m xs le =
    let e : k + (m - k) ≡ m = omega (arith, le) in
    sym (take-add k (m - k) xs) ∙ ap (λ (i : ℕ). take i xs) e

pub read_further : (bytes : List ℕ) (f : Front) (s : Stretch) (b : Beginning) (next new : Reader)
    → IsReadTo bytes b → IsReadFrom f bytes s next → s.from ≡ b.end → state_of b.reader ≡ joined (said_of b.reader.draft) (before_log f s.left)
    → state_of new ≡ joined (said_of b.reader.draft) (state_of next) → IsReadTo bytes (record { end = s.to; reader = new })
read_further bytes f s b next new before from fits stands new_is = record {
  within = from.within;
  leads = ap (λ (l : List ℕ). walk nothing start Fresh 0 l) (sym (take_on s.from s.to bytes from.rising)) ∙ walks_on (take s.from bytes) part nothing start Fresh 0 (state_of b.reader) (state_of new) here there;
}
  where
    part : List ℕ
    part = take (s.to - s.from) (drop s.from bytes)

    here : walk nothing start Fresh 0 (take s.from bytes) ≡ Ok (state_of b.reader)
    here = ap (λ (k : ℕ). walk nothing start Fresh 0 (take k bytes)) fits ∙ before.leads

    there : (m : ℕ) → walk (said_of b.reader.draft) b.reader.place b.reader.part m part ≡ Ok (state_of new)
    there m =
        ap (λ (x : State). walk x.said x.place x.part m part) stands
        ∙ walks_behind part (said_of b.reader.draft) (before_log f s.left).said (before_log f s.left).place Fresh 0 m (state_of next) from.leads
        ∙ ap (λ (x : State). Ok x) (sym new_is)

-- ---- All that was read

pub read_whole : (bytes : List ℕ) (b : Beginning) (c : Content) → length bytes ≤ 67108864 → IsReadTo bytes b → b.end ≡ length bytes → is_done_at b.reader.place.slot ≡ true
    → c ≡ content_said (said_of b.reader.draft) → read_cert_of bytes ≡ Ok c
read_whole bytes b c few read whole done is =
    let small : nat_lt 67108864 (length bytes) ≡ false = grind (arith, nat_tests) in
    let all : take b.end bytes ≡ bytes = take_all b.end bytes (omega (arith, whole)) in
    let leads : walk nothing start Fresh 0 bytes ≡ Ok (state_of b.reader) = ap (λ (l : List ℕ). walk nothing start Fresh 0 l) (sym all) ∙ read.leads in
    ap (λ (t : Bool). if t then Err (Over 8 67108865) else read_from nothing start Fresh 0 bytes) small
    ∙ reads bytes nothing start Fresh 0
    ∙ ap (λ (w : Walk). ended (0 + length bytes) w) leads
    ∙ ap (λ (t : Bool). if t then Ok (content_said (said_of b.reader.draft)) else Err (Format (0 + length bytes))) done
    ∙ ap (λ (x : Content). Ok x) (sym is)
