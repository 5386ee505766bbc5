-- A list of worked cases: what is asked of the definitions, beside the literal that document 01 says. Assumes nothing.
use Prim.Native.Nat.{ℕ}
use mathlib.Core.List.{List, map}
use lib.IntN.{ℤ}
use Rattle.rules.specs.Refusals.{Answer, Gives}
use Rattle.rules.specs.Kinds.{Fields, Stored}

pub record Case (A : Type 0) : Type 0 where
  pub asked : A
  pub says : A

infix 15 ◌is◌
abbrev pub ◌is◌ : {A : Type 0} → A → A → Case A
a is b = record { asked = a; says = b }

-- the left sides and the right sides: a theorem over a list says that they are equal
abbrev pub answers : {A : Type 0} → List (Case A) → List A
answers = map (λ c. c.asked)

abbrev pub literals : {A : Type 0} → List (Case A) → List A
literals = map (λ c. c.says)

-- fields, and a date as an answer: year, month, day, hour
abbrev pub on : ℤ → ℕ → ℕ → ℕ → Fields
on y m d h = record { year = y; month = m; day = d; hour = h }

abbrev pub date : ℤ → ℕ → ℕ → ℕ → Answer Fields
date y m d h = Gives (on y m d h)

-- a date's bits
abbrev pub bits : ℤ → ℕ → Stored
bits y w = record { year = y; word = w }
