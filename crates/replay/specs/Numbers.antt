-- The numbers in the list of answers, and the sums over the pages and the entries.
use Rattle.std.specs.Prelude.{ℕ, zero, suc, Bool, ◌&&◌, ◌+◌, ◌*◌, ◌%◌, ◌^◌, cond, List, [], ◌∷◌, ◌==◌, slice_index}
use Rattle.replay.specs.declared.Sums.{Sums}
use Rattle.replay.specs.declared.Tally.{Tally}

-- the number of so many bytes from a place on, the lowest first
unfoldable pub number_at : ℕ → List ℕ → ℕ → ℕ
number_at zero bytes at = 0
number_at (suc more) bytes at = slice_index bytes at + 256 * number_at more bytes (at + 1)

-- two sums with one number more: it is added to the first, and then the first to the second, modulo 2^64
unfoldable pub with_number : Sums → ℕ → Sums
with_number s number =
    record { first = (s.first + number) % 2 ^ 64; second = (s.second + (s.first + number) % 2 ^ 64) % 2 ^ 64 }

-- the sums go on over these numbers
unfoldable pub sums_of : List ℕ → Sums → Sums
sums_of [] s = s
sums_of (number ∷ rest) s = sums_of rest (with_number s number)

abbrev pub no_sums : Sums
no_sums = record { first = 0; second = 0 }

-- the sums over both pages, then over all entries of a list, then over a used count
unfoldable pub sums_after_of : List ℕ → List ℕ → List ℕ → ℕ → Sums
sums_after_of page0 page1 entries used = with_number (sums_of entries (sums_of page1 (sums_of page0 no_sums))) used

-- the sums are the same
abbrev pub same_sums : Sums → Sums → Bool
same_sums sums want = sums.first == want.first && sums.second == want.second

-- the calls of both parts of the list, and those of them that differ, modulo 2^64
unfoldable pub both_of : Tally → Tally → Tally
both_of a b = record { calls = (a.calls + b.calls) % 2 ^ 64; differ = (a.differ + b.differ) % 2 ^ 64 }

-- the fill rule's byte at offset i from the one before it: a step on, and four steps on where a block of 256 begins, modulo 256
unfoldable pub next_byte_of : ℕ → ℕ → ℕ → ℕ
next_byte_of byte step i = (byte + cond (i % 256 == 0) 4 1 * step) % 256
