-- The parts in which the keys of two runs differ, to stand behind other words. Of parts that are the same nothing is
-- said.
use Rattle.std.specs.Prelude.{◌++◌, ◌^◌, ◌==◌, ℕ, List, [], cond, codes}
use Rattle.std.specs.Fmt.{decimal}
use Rattle.std.specs.Str.{bytes_eq}
use Rattle.wasm_types.specs.declared.key.RunKey.{RunKey}
use Rattle.wasm_types.specs.Text.{key_text}
use Rattle.wasm_types.specs.declared.key.Profile.{Profile}
use Rattle.wasm_types.specs.declared.key.Profile.TheVariants.{One, Two}

abbrev pub digest_part : List ℕ → List ℕ → List ℕ
digest_part a b = cond (bytes_eq a b) [] (codes "; the digest of module and plan differs")

abbrev pub number_part : ℕ → ℕ → List ℕ
number_part a b = cond (a == b) [] (codes "; the run number differs: " ++ (decimal a ++ (codes " and " ++ decimal b)))

-- of two powers, the sizes of blocks
abbrev pub block_part : ℕ → ℕ → List ℕ
block_part a b = cond (a == b) [] (codes "; the block size differs: " ++ (decimal (2 ^ a) ++ (codes " and " ++ decimal (2 ^ b))))

abbrev pub profile_part : Profile → Profile → List ℕ
profile_part One One = []
profile_part One (Two b) = codes "; the profile differs: 1 and 2"
profile_part (Two a) One = codes "; the profile differs: 2 and 1"
profile_part (Two a) (Two b) = block_part a b

abbrev pub differences : RunKey → RunKey → List ℕ
differences a b = digest_part a.digest b.digest ++ (number_part a.run b.run ++ profile_part a.profile b.profile)

-- what is said of a line whose piece is of another run than that of line 1
abbrev pub other_line : RunKey → RunKey → List ℕ
other_line own first = codes "its piece is of another run than that of line 1" ++ differences own first

-- what is said of a log of another run: its key, then that of the run of the module and the plan, then what differs
abbrev pub other_run : RunKey → RunKey → List ℕ
other_run log own =
    codes "the pieces are of run " ++ (key_text log ++ (codes ", of another module or plan: that run of these has " ++ (key_text own ++ differences log own)))
