-- Words that are counted up to where code is no longer short.
use Rattle.std.specs.Prelude.{ℕ, ◌^◌, nat_lt, if◌then◌else◌}

-- so many words, where 2 ^ 17 stands for any more
abbrev pub capped : ℕ → ℕ
capped n = if nat_lt n (2 ^ 17) then n else 2 ^ 17
