-- The few words that several sections of document 01 share: ranges, integers, quoted bytes, the same bytes, numbers in bytes. Assumes nothing.
use Rattle.std.specs.Prelude.{ℕ, zero, suc, ◌+◌, ◌*◌, ◌-◌, ◌/◌, ◌%◌, ◌^◌, Bool, true, false, ◌&&◌, List, [], ◌∷◌, ◌++◌, leb, eqb, ℤ, pos, neg_ℤ, length}
use Prim.Native.Char.{code}
use Prim.Native.String.{String, [] as end, ◌∷◌ as ◌next◌}
use Rattle.std.specs.Int.Signed.{le_z}

-- lo ≤ n ≤ hi
abbrev pub within : ℕ → ℕ → ℕ → Bool
within lo hi n = leb lo n && leb n hi

-- -n, for a numeral: `minus 5000`
abbrev pub minus : ℕ → ℤ
minus n = neg_ℤ (pos n)

-- lo ≤ z ≤ hi, for integers
abbrev pub within_z : ℤ → ℤ → ℤ → Bool
within_z lo hi z = le_z lo z && le_z z hi

-- a = b, for integers
abbrev pub eq_z : ℤ → ℤ → Bool
eq_z a b = le_z a b && le_z b a

-- an integer that 16, or 32, bits hold
abbrev pub fits16 : ℤ → Bool
fits16 = within_z (minus 32768) (pos 32767)

abbrev pub fits32 : ℤ → Bool
fits32 = within_z (minus 2147483648) (pos 2147483647)

-- a quoted text as the list of its bytes
abbrev pub bytes : String → List ℕ
bytes end = []
bytes (c next s) = code c ∷ bytes s

-- one quoted byte
abbrev pub byte : String → ℕ
byte end = 0
byte (c next s) = code c

-- whether two texts have the same bytes
unfoldable pub same_bytes : List ℕ → List ℕ → Bool
same_bytes [] [] = true
same_bytes [] (c ∷ t) = false
same_bytes (b ∷ s) [] = false
same_bytes (b ∷ s) (c ∷ t) = eqb b c && same_bytes s t

-- the number that bytes stand for, big-endian
unfoldable pub big_endian : List ℕ → ℕ
big_endian [] = 0
big_endian (b ∷ s) = b * 256 ^ length s + big_endian s

-- a number in k bytes, big-endian
unfoldable pub big_bytes : ℕ → ℕ → List ℕ
big_bytes zero n = []
big_bytes (suc k) n = big_bytes k (n / 256) ++ n % 256 ∷ []
