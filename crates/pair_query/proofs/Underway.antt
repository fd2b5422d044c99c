-- A whole list of clauses that is being added to old ones, part by part.
use Rattle.std.proofs.Common.{◌≡◌, List, [], ◌++◌, append_assoc, ap, sym, ◌∙◌, refl, subst}
use Rattle.std.proofs.lemmas.List.{append-nil}
use Rattle.prop.specs.declared.Lit.{Lit}
use Rattle.prop.specs.declared.BlastFail.{BlastFail}
use Rattle.bit_gates.specs.Cut.{Cut}
use Rattle.bit_gates.proofs.Cuts.{cut_more}

-- what was added, and the rest
pub record Underway (old whole now rest : List (List Lit)) : Type 0 where
  pub done : List (List Lit)
  pub stands : now ≡ old ++ done
  pub splits : whole ≡ done ++ rest

pub underway_start : (old whole : List (List Lit)) → Underway old whole old whole
underway_start old whole = record { done = []; stands = sym (append-nil old); splits = refl }

pub underway_turn : (old whole now new rest part behind : List (List Lit)) → rest ≡ part ++ behind → new ≡ now ++ part
    → Underway old whole now rest → Underway old whole new behind
underway_turn old whole now new rest part behind is adds u = record {
  done = u.done ++ part;
  stands = adds ∙ (ap (λ (x : List (List Lit)). x ++ part) u.stands ∙ append_assoc old u.done part);
  splits = u.splits ∙ (ap (λ (x : List (List Lit)). u.done ++ x) is ∙ sym (append_assoc u.done part behind));
}

pub underway_end : (old whole now rest : List (List Lit)) → rest ≡ [] → Underway old whole now rest → now ≡ old ++ whole
underway_end old whole now rest none u =
    u.stands ∙ ap (λ (x : List (List Lit)). old ++ x) (sym (u.splits ∙ (ap (λ (x : List (List Lit)). u.done ++ x) none ∙ append-nil u.done)))

-- a refused part refuses the whole
pub underway_cut : (e : BlastFail) (old whole now new rest part behind : List (List Lit)) → rest ≡ part ++ behind → Cut e now part new
    → Underway old whole now rest → Cut e old whole new
underway_cut e old whole now new rest part behind is cut u =
    subst (λ (x : List (List Lit)). Cut e old x new) (sym (u.splits ∙ ap (λ (x : List (List Lit)). u.done ++ x) is))
    (cut_more e old u.done part behind now new u.stands cut)
