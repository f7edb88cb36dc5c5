-- The words that a number draws, and what they mean.
use Rattle.std.specs.Prelude.{ℕ, ◌+◌, ◌-◌, ◌*◌, ◌/◌, ◌^◌}
use Rattle.rand_pcg.specs.Lcg.{Lcg, started, increment_of}
use Rattle.rand_pcg.specs.Pcg.{multiplier_64, pcg32}

-- the generator of a number: PCG32, XSH RR 64/32 (O'Neill 2014), on stream 54
abbrev pub generator_of : ℕ → Lcg
generator_of number = started 64 multiplier_64 number (increment_of 64 54)

-- the word of 32 bits that a generator gives, and the generator behind it
abbrev pub word_of : Lcg → ℕ
word_of g = (pcg32 g).0

abbrev pub behind_word : Lcg → Lcg
behind_word g = (pcg32 g).1

-- a draw below n: a word's high part of n parts (Lemire 2019, without its rejection)
abbrev pub below : ℕ → ℕ → ℕ
below word n = word * n / 2 ^ 32

-- the exponent of a run, below 7, by its first word
abbrev pub exponent_of : ℕ → ℕ
exponent_of number = below (word_of (generator_of number)) 7

-- the most accesses of a stretch
abbrev pub most_accesses : ℕ → ℕ
most_accesses exponent = 2 ^ (exponent + 1) - 1

-- how many accesses a stretch may make: from 1 to 2^(exponent+1)-1, on the average 2^exponent
abbrev pub accesses_by : ℕ → ℕ → ℕ
accesses_by exponent word = below word (most_accesses exponent) + 1
