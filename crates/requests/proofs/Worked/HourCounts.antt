-- #111: worked cases of hours and blocks, added and between two dates: the request's own, both sides of each bound, marks, and each pair
-- of neighbours in the order of refusals. Assumes nothing.
use mathlib.Core.Path.{◌≡◌, refl}
use mathlib.Core.List.{List, [], ◌∷◌}
use lib.IntN.{ℤ, pos, negsuc}
use Rattle.rules.specs.Refusals.{Answer, Gives, Refused}
use Rattle.rules.specs.Calendar.{lengths, month_length, sum_first, first_day, day_of_year, walk, month_day}
use Rattle.rules.specs.Kinds.{kR, kD, kH, kU, kE, kV, Fields, Stored, fits_kind, of_kind, made, packed, store_like, handed, of_date, of_dates}
use Rattle.rules.specs.Numbers.{straight}
use Rattle.rules.proofs.Worked.Cases.{Case, ◌is◌, answers, literals, on, date, bits}
use Rattle.requests.specs.Hours.{hour_number, hours_after, hour_summed, count_between, add_count, hours_between, add_hours, blocks_between, add_blocks}

-- ---- additions

abbrev sums : List (Case (Answer Fields))
sums =
    -- the request's own: below -5000, before 0, and both sides of the last hour's bounds
    (add_hours kH (on (negsuc 5000) 12 31 24) (pos 1) is date (negsuc 4999) 1 1 1)
    ∷ (add_hours kH (on (negsuc 4999) 1 1 1) (negsuc 0) is date (negsuc 5000) 12 31 24)
    ∷ (add_hours kH (on (pos 0) 1 1 1) (negsuc 0) is date (negsuc 0) 12 31 24)
    ∷ (add_hours kH (on (negsuc 0) 12 31 24) (pos 1) is date (pos 0) 1 1 1)
    ∷ (add_hours kH (on (pos 32767) 12 31 24) (pos 1) is Refused 6)
    ∷ (add_hours kH (on (pos 32767) 12 31 24) (pos 2147483647) is Refused 5)
    ∷ (add_hours kH (on (pos 32767) 12 31 24) (pos 1816635968) is Refused 6)
    ∷ (add_hours kH (on (pos 32767) 12 31 24) (pos 1816635969) is Refused 5)
    -- the first hour's
    ∷ (add_hours kH (on (negsuc 32767) 1 1 1) (negsuc 0) is Refused 6)
    ∷ (add_hours kH (on (negsuc 32767) 1 1 1) (negsuc 1904235967) is Refused 6)
    ∷ (add_hours kH (on (negsuc 32767) 1 1 1) (negsuc 1904235968) is Refused 5)
    ∷ (add_hours kH (on (negsuc 32767) 1 1 1) (negsuc 2147483647) is Refused 5)
    -- from end to end, and one past it
    ∷ (add_hours kH (on (negsuc 32767) 1 1 1) (pos 574095359) is date (pos 32767) 12 31 24)
    ∷ (add_hours kH (on (negsuc 32767) 1 1 1) (pos 574095360) is Refused 6)
    ∷ (add_hours kH (on (pos 32767) 12 31 24) (negsuc 574095358) is date (negsuc 32767) 1 1 1)
    ∷ (add_hours kH (on (pos 32767) 12 31 24) (negsuc 574095359) is Refused 6)
    -- within a day, over its end, over a month's and a year's
    ∷ (add_hours kH (on (pos 1444) 11 11 5) (pos 0) is date (pos 1444) 11 11 5)
    ∷ (add_hours kH (on (pos 1444) 11 11 1) (pos 23) is date (pos 1444) 11 11 24)
    ∷ (add_hours kH (on (pos 1444) 11 11 24) (pos 1) is date (pos 1444) 11 12 1)
    ∷ (add_hours kH (on (pos 1444) 2 28 24) (pos 1) is date (pos 1444) 3 1 1)
    ∷ (add_hours kH (on (pos 1444) 11 11 5) (pos 8760) is date (pos 1445) 11 11 5)
    ∷ (add_hours kH (on (negsuc 3) 11 11 5) (negsuc 8759) is date (negsuc 4) 11 11 5)
    -- the request's own: before year 1, and the sum in hours that decides
    ∷ (add_blocks kV (on (pos 1) 1 1 0) (negsuc 0) is date (pos 0) 12 31 18)
    ∷ (add_blocks kV (on (negsuc 32767) 1 1 0) (pos 360000000) is Refused 6)
    ∷ (add_blocks kV (on (negsuc 32767) 1 1 0) (pos 398455221) is Refused 6)
    ∷ (add_blocks kV (on (negsuc 32767) 1 1 0) (pos 398455222) is Refused 5)
    ∷ (add_blocks kV (on (negsuc 32767) 1 1 0) (negsuc 0) is Refused 6)
    ∷ (add_blocks kV (on (negsuc 32767) 1 1 0) (negsuc 317372660) is Refused 6)
    ∷ (add_blocks kV (on (negsuc 32767) 1 1 0) (negsuc 317372661) is Refused 5)
    ∷ (add_blocks kV (on (negsuc 32767) 1 1 0) (negsuc 2147483647) is Refused 5)
    ∷ (add_blocks kV (on (pos 32767) 12 31 18) (pos 1) is Refused 6)
    ∷ (add_blocks kV (on (pos 32767) 12 31 18) (pos 302772662) is Refused 6)
    ∷ (add_blocks kV (on (pos 32767) 12 31 18) (pos 302772663) is Refused 5)
    ∷ (add_blocks kV (on (pos 32767) 12 31 18) (pos 2147483647) is Refused 5)
    ∷ (add_blocks kV (on (negsuc 32767) 1 1 0) (pos 95682559) is date (pos 32767) 12 31 18)
    ∷ (add_blocks kV (on (negsuc 32767) 1 1 0) (pos 95682560) is Refused 6)
    ∷ (add_blocks kV (on (pos 32767) 12 31 18) (negsuc 95682558) is date (negsuc 32767) 1 1 0)
    -- over year 0, below -5000, over a day's end
    ∷ (add_blocks kV (on (negsuc 0) 12 31 18) (pos 1) is date (pos 0) 1 1 0)
    ∷ (add_blocks kV (on (negsuc 5000) 12 31 18) (pos 1) is date (negsuc 4999) 1 1 0)
    ∷ (add_blocks kV (on (pos 1836) 2 28 18) (pos 1) is date (pos 1836) 3 1 0)
    ∷ (add_blocks kV (on (pos 1836) 2 3 6) (pos 0) is date (pos 1836) 2 3 6)
    ∷ (add_blocks kV (on (pos 1836) 2 3 6) (pos 1460) is date (pos 1837) 2 3 6)
    -- kinds that count no hours, H in blocks, V in hours, and blocks of another length
    ∷ (add_hours kR (on (pos 1444) 11 11 0) (pos 1) is Refused 4)
    ∷ (add_hours kD (on (pos 1444) 11 11 0) (pos 1) is Refused 4)
    ∷ (add_hours kU (on (pos 1444) 11 11 0) (pos 1) is Refused 4)
    ∷ (add_hours kE (on (pos 1444) 11 11 0) (pos 1) is Refused 4)
    ∷ (add_hours kV (on (pos 1444) 11 11 0) (pos 1) is Refused 4)
    ∷ (add_blocks kR (on (pos 1444) 11 11 0) (pos 1) is Refused 4)
    ∷ (add_blocks kD (on (pos 1444) 11 11 0) (pos 1) is Refused 4)
    ∷ (add_blocks kH (on (pos 1444) 11 11 0) (pos 1) is Refused 4)
    ∷ (add_blocks kU (on (pos 1444) 11 11 0) (pos 1) is Refused 4)
    ∷ (add_blocks kE (on (pos 1444) 11 11 0) (pos 1) is Refused 4)
    ∷ (add_count 0 kH (on (pos 1444) 11 11 0) (pos 1) is Refused 4)
    ∷ (add_count 2 kH (on (pos 1444) 11 11 0) (pos 1) is Refused 4)
    ∷ (add_count 5 kV (on (pos 1444) 11 11 0) (pos 1) is Refused 4)
    ∷ (add_count 12 kV (on (pos 1444) 11 11 0) (pos 1) is Refused 4)
    ∷ []

pub sums-hold : answers sums ≡ literals sums
unfolding lengths month_length sum_first first_day day_of_year walk month_day straight hour_number hours_after hour_summed add_count
sums-hold = refl

-- ---- differences

abbrev differences : List (Case (Answer ℤ))
differences =
    -- one hour on and back, over the places where days run backward or a decoder refuses
    (hours_between kH (on (negsuc 5000) 12 31 24) (on (negsuc 4999) 1 1 1) is Gives (pos 1))
    ∷ (hours_between kH (on (negsuc 4999) 1 1 1) (on (negsuc 5000) 12 31 24) is Gives (negsuc 0))
    ∷ (hours_between kH (on (negsuc 0) 12 31 24) (on (pos 0) 1 1 1) is Gives (pos 1))
    ∷ (hours_between kH (on (pos 0) 1 1 1) (on (negsuc 0) 12 31 24) is Gives (negsuc 0))
    ∷ (hours_between kH (on (negsuc 0) 1 1 1) (on (negsuc 0) 12 31 24) is Gives (pos 8759))
    ∷ (hours_between kH (on (negsuc 0) 1 2 1) (on (negsuc 0) 1 1 1) is Gives (negsuc 23))
    ∷ (hours_between kH (on (pos 1444) 11 11 5) (on (pos 1444) 11 11 5) is Gives (pos 0))
    ∷ (hours_between kH (on (pos 1444) 11 11 24) (on (pos 1444) 11 12 1) is Gives (pos 1))
    ∷ (hours_between kH (on (negsuc 32767) 1 1 1) (on (pos 32767) 12 31 24) is Gives (pos 574095359))
    ∷ (hours_between kH (on (pos 32767) 12 31 24) (on (negsuc 32767) 1 1 1) is Gives (negsuc 574095358))
    -- blocks
    ∷ (blocks_between kV (on (pos 0) 12 31 18) (on (pos 1) 1 1 0) is Gives (pos 1))
    ∷ (blocks_between kV (on (pos 1) 1 1 0) (on (pos 0) 12 31 18) is Gives (negsuc 0))
    ∷ (blocks_between kV (on (negsuc 0) 1 1 0) (on (negsuc 0) 1 2 0) is Gives (pos 4))
    ∷ (blocks_between kV (on (pos 1836) 2 3 6) (on (pos 1836) 2 3 6) is Gives (pos 0))
    ∷ (blocks_between kV (on (negsuc 32767) 1 1 0) (on (pos 32767) 12 31 18) is Gives (pos 95682559))
    ∷ (blocks_between kV (on (pos 32767) 12 31 18) (on (negsuc 32767) 1 1 0) is Gives (negsuc 95682558))
    ∷ (hours_between kR (on (pos 1444) 11 11 0) (on (pos 1444) 11 11 0) is Refused 4)
    ∷ (hours_between kD (on (pos 1444) 11 11 0) (on (pos 1444) 11 11 0) is Refused 4)
    ∷ (hours_between kU (on (pos 1444) 11 11 0) (on (pos 1444) 11 11 0) is Refused 4)
    ∷ (hours_between kE (on (pos 1444) 11 11 0) (on (pos 1444) 11 11 0) is Refused 4)
    ∷ (hours_between kV (on (pos 1444) 11 11 0) (on (pos 1444) 11 11 0) is Refused 4)
    ∷ (blocks_between kR (on (pos 1444) 11 11 0) (on (pos 1444) 11 11 0) is Refused 4)
    ∷ (blocks_between kD (on (pos 1444) 11 11 0) (on (pos 1444) 11 11 0) is Refused 4)
    ∷ (blocks_between kH (on (pos 1444) 11 11 0) (on (pos 1444) 11 11 0) is Refused 4)
    ∷ (blocks_between kU (on (pos 1444) 11 11 0) (on (pos 1444) 11 11 0) is Refused 4)
    ∷ (blocks_between kE (on (pos 1444) 11 11 0) (on (pos 1444) 11 11 0) is Refused 4)
    ∷ []

pub differences-hold : answers differences ≡ literals differences
unfolding lengths month_length sum_first first_day day_of_year straight hour_number count_between
differences-hold = refl

-- ---- dates handed in: 1444.11.11 with hour 5 is the word 46484, with hour 6 46488, and marks are added

abbrev sums_of_bits : List (Case (Answer Stored))
sums_of_bits =
    (store_like (bits (pos 1444) 46484) (of_date kH (bits (pos 1444) 46484) (λ f. add_hours kH f (pos 20))) is Gives (bits (pos 1444) 46596))
    ∷ (store_like (bits (pos 1444) 46485) (of_date kH (bits (pos 1444) 46485) (λ f. add_hours kH f (pos 20))) is Gives (bits (pos 1444) 46597))
    ∷ (store_like (bits (pos 1444) 46486) (of_date kH (bits (pos 1444) 46486) (λ f. add_hours kH f (pos 20))) is Refused 4)
    ∷ (store_like (bits (pos 1444) 46487) (of_date kH (bits (pos 1444) 46487) (λ f. add_hours kH f (pos 20))) is Refused 4)
    ∷ (store_like (bits (pos 1444) 46488) (of_date kV (bits (pos 1444) 46488) (λ f. add_blocks kV f (pos 3))) is Gives (bits (pos 1444) 46592))
    ∷ (store_like (bits (pos 1444) 46489) (of_date kV (bits (pos 1444) 46489) (λ f. add_blocks kV f (pos 3))) is Gives (bits (pos 1444) 46593))
    ∷ (store_like (bits (pos 1444) 46490) (of_date kV (bits (pos 1444) 46490) (λ f. add_blocks kV f (pos 3))) is Refused 4)
    -- 4 before 5 and 6: of an hour, a day and a kind that the date has not; of a guessed date 5 and 6
    ∷ (store_like (bits (pos 32767) 53218) (of_date kH (bits (pos 32767) 53218) (λ f. add_hours kH f (pos 1))) is Refused 4)
    ∷ (store_like (bits (pos 32767) 53220) (of_date kH (bits (pos 32767) 53220) (λ f. add_hours kH f (pos 2147483647))) is Refused 4)
    ∷ (store_like (bits (pos 32767) 53120) (of_date kH (bits (pos 32767) 53120) (λ f. add_hours kH f (pos 1))) is Refused 4)
    ∷ (store_like (bits (pos 1444) 11908) (of_date kH (bits (pos 1444) 11908) (λ f. add_hours kH f (pos 2147483647))) is Refused 4)
    ∷ (store_like (bits (pos 32767) 53192) (of_date kV (bits (pos 32767) 53192) (λ f. add_hours kV f (pos 2147483647))) is Refused 4)
    ∷ (store_like (bits (pos 32767) 53188) (of_date kV (bits (pos 32767) 53188) (λ f. add_blocks kV f (pos 2147483647))) is Refused 4)
    ∷ (store_like (bits (pos 32767) 53216) (of_date kH (bits (pos 32767) 53216) (λ f. add_blocks kH f (pos 2147483647))) is Refused 4)
    ∷ (store_like (bits (pos 32767) 53217) (of_date kH (bits (pos 32767) 53217) (λ f. add_hours kH f (pos 1))) is Refused 6)
    ∷ (store_like (bits (pos 32767) 53217) (of_date kH (bits (pos 32767) 53217) (λ f. add_hours kH f (pos 2147483647))) is Refused 5)
    ∷ []

pub sums-of-bits-hold : answers sums_of_bits ≡ literals sums_of_bits
unfolding lengths month_length sum_first first_day day_of_year walk month_day fits_kind of_kind made packed handed straight hour_number hours_after hour_summed add_count
sums-of-bits-hold = refl

abbrev differences_of_bits : List (Case (Answer ℤ))
differences_of_bits =
    (of_dates kH (bits (pos 1444) 46485) (bits (pos 1444) 46596) (λ f g. hours_between kH f g) is Gives (pos 20))
    ∷ (of_dates kH (bits (pos 1444) 46485) (bits (pos 1444) 46484) (λ f g. hours_between kH f g) is Gives (pos 0))
    ∷ (of_dates kH (bits (pos 1444) 46484) (bits (pos 1444) 46599) (λ f g. hours_between kH f g) is Refused 4)
    ∷ (of_dates kH (bits (pos 1444) 46464) (bits (pos 1444) 46596) (λ f g. hours_between kH f g) is Refused 4)
    ∷ (of_dates kV (bits (pos 1444) 46488) (bits (pos 1444) 46593) (λ f g. blocks_between kV f g) is Gives (pos 3))
    ∷ (of_dates kV (bits (pos 1444) 46492) (bits (pos 1444) 46592) (λ f g. blocks_between kV f g) is Refused 4)
    ∷ (of_dates kH (bits (pos 1444) 46488) (bits (pos 1444) 46616) (λ f g. blocks_between kH f g) is Refused 4)
    ∷ []

pub differences-of-bits-hold : answers differences_of_bits ≡ literals differences_of_bits
unfolding lengths month_length sum_first first_day day_of_year fits_kind of_kind made handed straight hour_number count_between
differences-of-bits-hold = refl
