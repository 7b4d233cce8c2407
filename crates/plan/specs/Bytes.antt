-- Bytes and 16-bit words, the high byte first (3.1).
use Rattle.std.specs.Prelude.{List, ℕ, ◌+◌, ◌*◌, get_or}

-- 3.1: the byte at i, and 0 past the end
unfoldable pub byte_at : List ℕ → ℕ → ℕ
byte_at bs i = get_or bs i 0

-- 3.1: 16 bits from byte i on
unfoldable pub word_at : List ℕ → ℕ → ℕ
word_at bs i = byte_at bs i * 256 + byte_at bs (i + 1)
