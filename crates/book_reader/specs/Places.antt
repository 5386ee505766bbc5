-- The place after a place of a book. Assumes nothing.
use Rattle.std.specs.Prelude.{ℕ, ◌+◌, cond, ltb}
use Rattle.rules.specs.Book.{version1}

-- the next one; from the most records of a book on, in either version, where no place has a record, the same
abbrev pub next_place : ℕ → ℕ
next_place place = cond (ltb place version1.frame.most) (place + 1) place
