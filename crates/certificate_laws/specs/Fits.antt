-- The contents that have a text that is read: those whose numbers and counts are in range.
use Rattle.std.specs.Prelude.{◌≡◌, List, [], ◌∷◌, length}
use Rattle.resolution_log.specs.declared.Chain.{Chain}
use Rattle.cert_text.specs.Content.{Content}
use Rattle.cert_text.specs.Ranges.{IsByte, IsShort, PairFits, TermFits}

abbrev pub AllFit : {X : Type 0} → (X → Type 0) → List X → Type 0
AllFit Fit [] = Unit {0}
AllFit Fit (x ∷ xs) = Fit x × AllFit Fit xs

abbrev pub ChainFits : Chain → Type 0
ChainFits c = IsShort c.first × AllFit PairFits c.pairs

abbrev pub LogFits : List Chain → Type 0
LogFits cs = IsShort (length cs) × AllFit ChainFits cs

pub record Fits (c : Content) : Type 0 where
  pub size : length c.hash ≡ 32
  pub bytes : AllFit IsByte c.hash
  pub layout : IsShort c.layout
  pub term_count : IsShort (length c.terms)
  pub terms : AllFit TermFits c.terms
  pub node_count : IsShort (length c.formulas)
  pub formulas : AllFit IsShort c.formulas
  pub log_count : IsShort (length c.logs)
  pub logs : AllFit LogFits c.logs
