-- Bytes and words of the code and of the stack, as access programs. The order of the lines is the order of the accesses.
use Rattle.std.specs.Prelude.{ℕ, ◌+◌, ◌*◌, ◌/◌, ◌%◌, false}
use Rattle.arithmetic.specs.declared.record.Lh5801.{Lh5801}
use Rattle.arithmetic.specs.Record.{with_t, with_s, with_p, with_is_halted}
use Rattle.arithmetic.specs.Flags.{IE, set_flag}
use Rattle.arithmetic.specs.Logic.{lda_of}
use Rattle.pages.specs.declared.Code.{Code}
use Rattle.pages.specs.declared.Popped.{Popped}
use Rattle.pages.specs.Prog.{Prog, done, read, write, ◌>>=◌}

-- P, S and the other registers of 16 bits wrap
abbrev pub up16 : ℕ → ℕ
up16 n = (n + 1) % 0x10000

abbrev pub down16 : ℕ → ℕ
down16 n = (n + 0xFFFF) % 0x10000

abbrev pub word_of : ℕ → ℕ → ℕ
word_of high low = high * 256 + low

-- the address on page 1: `me1`
abbrev pub me1_of : ℕ → ℕ
me1_of addr = addr + 0x10000

-- `cpu_readop`: the byte at P, and P after it
unfoldable pub readop_of : ℕ → Prog (Code ℕ)
readop_of p = do
  byte ← read p
  done (record { value = byte; p = up16 p })

-- `readop_word`: "words in code .. are high byte first"
unfoldable pub readop_word_of : ℕ → Prog (Code ℕ)
readop_word_of p = do
  high ← readop_of p
  low ← readop_of high.p
  done (record { value = word_of high.value low.value; p = low.p })

-- `get_mem16`: a vector's word, high byte first. The second address does not wrap: after FFFF comes 10000
unfoldable pub mem16_of : ℕ → Prog ℕ
mem16_of addr = do
  high ← read addr
  low ← read (addr + 1)
  done (word_of high low)

-- `push`: the byte is written at S, and S moves down
unfoldable pub push_of : Lh5801 → ℕ → Prog Lh5801
push_of m v = do
  _ ← write m.s v
  done (with_s m (down16 m.s))

-- `push_word`: "A word is pushed low byte first"
unfoldable pub push_word_of : Lh5801 → ℕ → Prog Lh5801
push_word_of m w = do
  k ← push_of m (w % 256)
  push_of k (w / 256)

-- `pop`: S moves up, then A is loaded from there, and Z from it
unfoldable pub pop_of : Lh5801 → Prog Lh5801
pop_of m = do
  byte ← read (up16 m.s)
  done (lda_of (with_s m (up16 m.s)) byte)

-- `pop_word`: "popped high first"; the word, and S after it
unfoldable pub pop_word_of : ℕ → Prog Popped
pop_word_of s = do
  high ← read (up16 s)
  low ← read (up16 (up16 s))
  done (record { value = word_of high low; s = up16 (up16 s) })

-- T is pushed with IE still set, then IE is cleared, then P is pushed
unfoldable pub push_state_of : Lh5801 → Prog Lh5801
push_state_of m = do
  k ← push_of m m.t
  push_word_of (with_t k (set_flag m.t IE false)) m.p

-- an accepted interrupt: "push T, clear IE, .. push P, P from" its vector, "halted clear"
unfoldable pub accept_of : Lh5801 → ℕ → Prog Lh5801
accept_of m vector = do
  k ← push_state_of m
  to ← mem16_of vector
  done (with_is_halted (with_p k to) false)
