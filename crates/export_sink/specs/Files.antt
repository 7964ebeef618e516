-- Files by their names, with the texts that are written to them.
use Rattle.std.specs.Prelude.{◌≡◌, ◌≢◌, ◌++◌, ◌⊎◌, ℕ, List, [], ◌∷◌, Option, Some}
use Rattle.contract_words.specs.Fronts.{IsFront}
use Rattle.contract_words.specs.Held.{Held}

-- a file by its name, and a text
pub record FileText : Type 0 where
  pub name : List ℕ
  pub text : List ℕ

-- the name is none of these files'
abbrev pub IsNoFile : List ℕ → List FileText → Type 0
IsNoFile name [] = Unit {0}
IsNoFile name (f ∷ fs) = (name ≢ f.name) × IsNoFile name fs

-- no two of these files have one name
abbrev pub AreApart : List FileText → Type 0
AreApart [] = Unit {0}
AreApart (f ∷ fs) = IsNoFile f.name fs × AreApart fs

-- each other name holds what it held
abbrev pub OnlyThese : List FileText → Held → Held → Type 0
OnlyThese files was now = (name : List ℕ) → IsNoFile name files → now name ≡ was name

-- what each file held changed so
abbrev pub Each : (FileText → Option (List ℕ) → Option (List ℕ) → Type 0)
    → List FileText → Held → Held → Type 0
Each Change [] was now = Unit {0}
Each Change (f ∷ fs) was now = Change f (was f.name) (now f.name) × Each Change fs was now

-- what each file held changed so, and nothing else did
pub record Changed (Change : FileText → Option (List ℕ) → Option (List ℕ) → Type 0)
    (files : List FileText) (was now : Held) : Type 0 where
  pub each : Each Change files was now
  pub others : OnlyThese files was now

-- the file, where it was there, holds its text behind what it held
abbrev pub AddsText : FileText → Option (List ℕ) → Option (List ℕ) → Type 0
AddsText f was now = (held : List ℕ) → was ≡ Some held → now ≡ Some (held ++ f.text)

-- it holds a front of its text behind that
abbrev pub AddsSome : FileText → Option (List ℕ) → Option (List ℕ) → Type 0
AddsSome f was now = (held : List ℕ) → was ≡ Some held
    → (front : List ℕ) × (now ≡ Some (held ++ front)) × IsFront front f.text

-- each file holds its text
abbrev pub HoldTexts : List FileText → Held → Type 0
HoldTexts [] now = Unit {0}
HoldTexts (f ∷ fs) now = (now f.name ≡ Some f.text) × HoldTexts fs now

-- each file is as it was
abbrev pub FilesStay : List FileText → Held → Held → Type 0
FilesStay [] was now = Unit {0}
FilesStay (f ∷ fs) was now = (now f.name ≡ was f.name) × FilesStay fs was now

-- the file holds a front of its text
pub record HoldsFront (f : FileText) (now : Held) : Type 0 where
  pub front : List ℕ
  pub holds : now f.name ≡ Some front
  pub of_text : IsFront front f.text

-- The first files, in their order, hold fronts of their texts; the next is as it was or empty,
-- those behind it are as they were.
abbrev pub HoldFronts : List FileText → Held → Held → Type 0
HoldFronts [] was now = Unit {0}
HoldFronts (f ∷ fs) was now =
    (HoldsFront f now × HoldFronts fs was now)
    ⊎ (((now f.name ≡ was f.name) ⊎ (now f.name ≡ Some [])) × FilesStay fs was now)
