-- The input file of n rounds: stores, loads, locked additions and fences in turn, in one code for two threads.
use Rattle.std.specs.Prelude.{ℕ, ◌%◌, ◌==◌, List, [], ◌∷◌, ◌++◌, flat_map, replicate, codes, if◌then◌else◌}
use Rattle.std.specs.List.{range_with_len}
use Rattle.elf_format.specs.declared.symbol.Symbol.{Symbol}
use Rattle.gen_input.specs.BuiltFile.{built_file}

-- mov edi, 800000: rdi is the cells' address
abbrev pub cells_to_rdi : List ℕ
cells_to_rdi = 0xBF ∷ 0x00 ∷ 0x00 ∷ 0x80 ∷ 0x00 ∷ []

-- mov [rdi+8], rax
abbrev pub store : List ℕ
store = 0x48 ∷ 0x89 ∷ 0x47 ∷ 0x08 ∷ []

-- mov rax, [rdi+16]
abbrev pub load : List ℕ
load = 0x48 ∷ 0x8B ∷ 0x47 ∷ 0x10 ∷ []

-- lock xadd [rdi+24], rax
abbrev pub locked_add : List ℕ
locked_add = 0xF0 ∷ 0x48 ∷ 0x0F ∷ 0xC1 ∷ 0x47 ∷ 0x18 ∷ []

-- mfence; jne to the next instruction, which ends the block
abbrev pub fence_and_jump : List ℕ
fence_and_jump = 0x0F ∷ 0xAE ∷ 0xF0 ∷ 0x75 ∷ 0x00 ∷ []

-- ret
abbrev pub return : List ℕ
return = 0xC3 ∷ []

-- what stands in round j
unfoldable pub round_code : ℕ → List ℕ
round_code j = if j % 4 == 0 then store else if j % 4 == 1 then load else if j % 4 == 2 then locked_add else fence_and_jump

-- rounds 0 to n - 1, one behind the other
abbrev pub rounds_code : ℕ → List ℕ
rounds_code n = flat_map round_code (range_with_len 0 n)

-- the code of n rounds
abbrev pub made_code : ℕ → List ℕ
made_code n = cells_to_rdi ++ (rounds_code n ++ return)

-- a thread of this name that begins with the code
abbrev pub thread_symbol : List ℕ → Symbol
thread_symbol name = record { name = name; address = 0x401000 }

-- the two threads
abbrev pub made_symbols : List Symbol
made_symbols = thread_symbol (codes "thread_0") ∷ thread_symbol (codes "thread_1") ∷ []

-- the file of n rounds, with 64 zero cells at 800000
abbrev pub made_file : ℕ → List ℕ
made_file n = built_file (made_code n) (replicate 64 0) 0x800000 made_symbols
