-- Files that are written one after the other.
use Rattle.std.proofs.Common.{◌≡◌, ◌≢◌, ◌∙◌, sym, ℕ, List, false, bytes_eq}
use Rattle.std.specs.Prelude.{Option, Some, None, Result, Ok, Err, OnOk}
use Rattle.std.proofs.lemmas.Slice.Eq.{bytes_eq-Decides}
use Rattle.request_words.specs.Asked.{Verify, Verifying, IsApart, is_named_in}
use Rattle.verdicts.specs.declared.verdict.Verdict.{Verdict}
use Rattle.verdicts.specs.declared.verdict.Verdict.TheVariants.{Safe, Unsafe, OutOfUnits, OutOfLearn, Accepted, Rejected, Faulty, Over, ReadFault, NoMemory}
use Rattle.request_answers.specs.Stored.{File, IsOther, IsStored, IsUntouched, both_named, file_for, in_file, witness_file}

pub on_any : {A E : Type 0} (r : Result A E) (P : Type 0) → P → OnOk r P
on_any (Ok x) P h = h
on_any (Err e) P h = tt

-- the files have other names
abbrev pub AreOthers : File → File → Type 0
AreOthers None g = Unit {0}
AreOthers (Some f) None = Unit {0}
AreOthers (Some f) (Some g) = f.0 ≢ g.0

names_differ : (a b : List ℕ) → bytes_eq a b ≡ false → a ≢ b
names_differ a b h e = let same = (bytes_eq-Decides a b).1 e in cc

options_differ : (a b : Option (List ℕ)) (x : List ℕ) (t : Option (List ℕ)) → is_named_in a b ≡ false → AreOthers (in_file a x) (both_named b t)
options_differ None b x t h = tt
options_differ (Some a) None x t h = tt
options_differ (Some a) (Some b) x None h = tt
options_differ (Some a) (Some b) x (Some y) h = names_differ a b h

pub files_differ : (w : Verifying) (v : Verdict) (t : Option (List ℕ)) → IsApart (Verify w) → AreOthers (file_for (Verify w) v) (witness_file (Verify w) t)
files_differ w (Safe text) t apart = options_differ w.cert w.witness text t apart.0
files_differ w (Unsafe kind place values text) t apart = options_differ w.run w.witness text t apart.1
files_differ w (OutOfUnits n) t apart = tt
files_differ w (OutOfLearn n) t apart = tt
files_differ w Accepted t apart = tt
files_differ w (Rejected rejection) t apart = tt
files_differ w (Faulty fault place) t apart = tt
files_differ w (Over number count) t apart = tt
files_differ w ReadFault t apart = tt
files_differ w NoMemory t apart = tt

-- what was stored is there behind the write of another file
pub stored_behind : (f g : File) (mid new : List ℕ → List ℕ) → AreOthers f g → IsStored mid f → ((n : List ℕ) → IsOther g n → new n ≡ mid n) → IsStored new f
stored_behind None g mid new apart stored others = tt
stored_behind (Some f) None mid new apart stored others = others f.0 tt ∙ stored
stored_behind (Some f) (Some g) mid new apart stored others = others f.0 apart ∙ stored

-- a file is as before the write of another one
pub untouched_by : (f g : File) (old new : List ℕ → List ℕ) → AreOthers f g → ((n : List ℕ) → IsOther f n → new n ≡ old n) → IsUntouched old new g
untouched_by f None old new apart others = tt
untouched_by None (Some g) old new apart others = others g.0 tt
untouched_by (Some f) (Some g) old new apart others = others g.0 (λ e. apart (sym e))
