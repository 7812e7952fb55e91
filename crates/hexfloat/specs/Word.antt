-- Short and long words, their parts and their exact values (8.1, 8.2; document 01, 'Words and their values').
use Rattle.std.specs.Prelude.{ℕ, ◌+◌, ◌-◌, ◌*◌, ◌/◌, ◌%◌, ◌^◌}
use Rattle.hexfloat.specs.declared.word.Parts.{Parts}
use Rattle.hexfloat.specs.declared.word.Width.{Width}
use Rattle.hexfloat.specs.declared.word.Width.TheVariants.{Short, Long}
use Rattle.hexfloat.specs.declared.word.Words.{Words}

-- 8.1: a short fraction has six hexadecimal digits, a long one 14
abbrev pub digits_of : Width → ℕ
digits_of Short = 6
digits_of Long = 14

-- 8.1: the first bit is the sign, the next seven are the characteristic; a short fraction has 24 bits
abbrev pub short_parts : ℕ → Parts
short_parts w = record { sign = w / 2 ^ 31; characteristic = w / 2 ^ 24 % 128; fraction = w % 2 ^ 24 }

-- 8.1: a long fraction has 56 bits, the last 32 of them in the second word
abbrev pub long_parts : Words → Parts
long_parts a = record { sign = a.high / 2 ^ 31; characteristic = a.high / 2 ^ 24 % 128; fraction = a.high % 2 ^ 24 * 2 ^ 32 + a.low }

-- a short operand stands in the first word alone
abbrev pub parts_of : Width → Words → Parts
parts_of Short a = short_parts a.high
parts_of Long a = long_parts a

-- a short word by itself, and the two words of a long number
abbrev pub short_words : ℕ → Words
short_words w = record { high = w; low = 0 }

abbrev pub long_words : ℕ → ℕ → Words
long_words h l = record { high = h; low = l }

-- the words of given parts
abbrev pub short_word : Parts → ℕ
short_word p = p.sign * 2 ^ 31 + p.characteristic * 2 ^ 24 + p.fraction

abbrev pub long_word : Parts → Words
long_word p = record { high = p.sign * 2 ^ 31 + p.characteristic * 2 ^ 24 + p.fraction / 2 ^ 32; low = p.fraction % 2 ^ 32 }

abbrev pub words_of : Width → Parts → Words
words_of Short p = short_words (short_word p)
words_of Long p = long_word p

-- 8.19, 8.26: the sign inverted
abbrev pub inverted : Parts → Parts
inverted p = record { sign = 1 - p.sign; characteristic = p.characteristic; fraction = p.fraction }

-- 8.2: true zero has all bits 0
abbrev pub true_zero : Parts
true_zero = record { sign = 0; characteristic = 0; fraction = 0 }

-- 8.2: the exact magnitude f / 16^d * 16^(c - 64) of a number of d digits, times 16^78: short f * 16^(c + 8), long f * 16^c
unfoldable pub magnitude : ℕ → Parts → ℕ
magnitude d p = p.fraction * 16 ^ (p.characteristic + (14 - d))
