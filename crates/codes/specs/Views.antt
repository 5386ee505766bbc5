-- The code's answers as those of `rules`, and a date as one number. Assumes nothing.
use Rattle.std.specs.Prelude.{Option, Some, None, ℕ, ◌+◌, ◌*◌}
use Rattle.rules.specs.Refusals.{Answer, Gives, Refused, not_of_kind, unreadable_line}
use Rattle.rules.specs.Kinds as K
use Rattle.rules.specs.Book.{twos_complement}
use Rattle.kinds.specs.declared.Kind.{Kind}
use Rattle.kinds.specs.Views.{kind_of}

-- a byte that is no kind's letter makes its line unreadable
abbrev pub lettered_as : Option Kind → Answer K.Kind
lettered_as (Some k) = Gives (kind_of k)
lettered_as None = Refused unreadable_line

abbrev pub coded_as : Option Kind → Answer K.Kind
coded_as (Some k) = Gives (kind_of k)
coded_as None = Refused not_of_kind

-- "(uint32_t)(uint16_t)year << 16 | packed word": a date as one number
abbrev pub date_number : K.Stored → ℕ
date_number d = twos_complement d.year * 65536 + d.word
